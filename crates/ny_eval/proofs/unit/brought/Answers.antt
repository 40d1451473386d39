use Rattle.std.proofs.Common.{[], ◌∷◌, sym, ◌∙◌, subst}
use Rattle.ny_heap.specs.Heap.{Made}
use Rattle.ny_heap.specs.declared.make.Make.TheVariants.{Resample}
use Rattle.ny_eval.proofs.UnitLemmas.{bring_made}
use Rattle.ny_hands.proofs.RateLemmas.{other_timing}
use Rattle.ny_hands.specs.Calls.{MakesUnit, Change}
use Rattle.ny_eval.proofs.unit.brought.Goals as goal

pub of_one-requires-clause-made : goal.of_one-requires-clause-made
of_one-requires-clause-made c = bring_made c.args.sound c.resampled_timing-timing.result c.args.rate c.resampled_timing-timing.ensures.value (sym c.has_rate.ensures ∙ c.if-has_rate.false) c.resampled_timing-timing.ensures.rate c.resampled_timing-timing.ensures.bounds

pub returns-in_ok-of_one-clause-brings : goal.returns-in_ok-of_one-clause-brings
returns-in_ok-of_one-clause-brings c =
    let other = sym c.has_rate.ensures ∙ c.if-has_rate.false in
    Change (record {
      rate = other;
      made = subst (λ t. MakesUnit c.args.heap.now c.of_one.new.heap (Made Resample) t (c.args.sound ∷ []) [] (c.args.sound ∷ []) c.in_ok-of_one.field-0) (other_timing c.resampled_timing-timing.result c.args.sound.timing c.args.rate c.resampled_timing-timing.ensures.value other) c.in_ok-of_one.ensures.makes;
    })
