use Rattle.std.proofs.Common.{◌≡◌, ℕ, ◌+◌, ◌<◌, ℤ, pos, ◌+ℤ◌, ◌∙◌, sym, ap, subst, arith, w64, to_z, of_z, length, slice_index_or}
use Rattle.std.proofs.lemmas.Int.{ints, to_z-of_z}
use Rattle.ny_num.specs.Numbers.{sat_sample}
use Rattle.ny_num.proofs.WrittenLists.{by_places_from, places_more}
use Rattle.ny_units.specs.Lines.{line_value, IsSlope, IsRisen}
use Rattle.ny_units.proofs.Risings.{next_risen}
use Rattle.ny_units.proofs.line.fill_line.Goals as goal

pub loop-k-preserved : goal.loop-k-preserved
loop-k-preserved c =
    let level : ℤ = to_z w64 (of_z w64 c.args.level) in
    let rise : ℤ = to_z w64 (of_z w64 c.args.rise) in
    let same : rise ≡ c.args.rise = to_z-of_z w64 c.args.rise c.ranges.rise in
    let slope : IsSlope rise c.args.width (c.args.place + length c.args.out.now) =
    subst (λ z. IsSlope z c.args.width (c.args.place + length c.args.out.now)) (sym same) c.requires.slope in
    let risen : IsRisen rise c.args.width (c.args.place + c.loop-k.k) c.loop-k.here = c.loop-k.invariant.risen in
    let next : IsRisen rise c.args.width (c.args.place + c.loop-k.k + 1) c.risen_further-here.result =
    next_risen rise c.args.width (c.args.place + c.loop-k.k) (c.args.place + length c.args.out.now) c.loop-k.here c.risen_to-step.result c.risen_further-here.result slope (omega arith) risen c.risen_to-step.ensures c.risen_further-here.ensures.kept c.risen_further-here.ensures.carried in
    let sum : to_z w64 (of_z w64 (level +ℤ to_z w64 (of_z w64 c.loop-k.here.whole))) ≡ level +ℤ c.loop-k.here.whole =
    omega (arith, ints, risen.part.low, risen.part.high, c.requires.level) in
    let value : c.of.result ≡ line_value level rise c.args.width (c.args.place + c.loop-k.k) =
    c.of.ensures.value ∙ ap sat_sample sum ∙ ap (λ z. sat_sample (level +ℤ z)) risen.whole in
    let place : c.args.place + c.loop-k.k + 1 ≡ c.args.place + (c.loop-k.k + 1) = omega arith in
    record {
      risen = subst (λ n. IsRisen rise c.args.width n c.risen_further-here.result) place next;
      done = places_more (line_value level rise c.args.width) c.loop-k.out c.args.place c.loop-k.k c.of.result (pos 0) (omega arith) value c.loop-k.invariant.done;
    }

pub returns : goal.returns
returns c =
    let each = subst (λ z. (i : ℕ) → i < c.loop-k.k → slice_index_or c.loop-k.out i (pos 0) ≡ line_value z (to_z w64 (of_z w64 c.args.rise)) c.args.width (c.args.place + i)) (to_z-of_z w64 c.args.level c.ranges.level) c.loop-k.invariant.done in
    let all = subst (λ z. (i : ℕ) → i < c.loop-k.k → slice_index_or c.loop-k.out i (pos 0) ≡ line_value c.args.level z c.args.width (c.args.place + i)) (to_z-of_z w64 c.args.rise c.ranges.rise) each in
    by_places_from (line_value c.args.level c.args.rise c.args.width) c.loop-k.out c.args.place (length c.args.out.now) c.loop-k.k (pos 0) (omega arith) (omega arith) all
