use Rattle.std.proofs.Common.{◌≡◌, ◌+◌, ◌∙◌, ap, subst, length, map, List, ℤ, arith}
use Rattle.std.specs.List.{range_with_len}
use Rattle.ny_num.specs.Numbers.{sample_abs}
use Rattle.ny_units.specs.declared.input.Source.{Source}
use Rattle.ny_units.specs.Inputs.{input_at, start_of, ShowsInput}
use Rattle.ny_units.proofs.abs.AbsUnit.fill.Goals as goal

pub returns-clause-samples : goal.returns-clause-samples
returns-clause-samples c =
    let len = length c.args.out.now in
    subst (λ (p : Source). (xs : List ℤ) → ShowsInput c.args.reads.now p xs
    → c.fill_absolute.new.out ≡ map (λ m. sample_abs (input_at p xs m)) (range_with_len (start_of p + c.args.from) len)) c.self.view_is
    (λ xs shows. c.fill_absolute.ensures.samples xs shows
    ∙ ap (λ i. map (λ m. sample_abs (input_at c.self.inside.input xs m)) (range_with_len i len)) (omega arith))
