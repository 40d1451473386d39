use Rattle.std.proofs.Common.{◌≡◌, ◌∙◌, sym, ap, subst, pos, slice_set, arith}
use Rattle.std.proofs.lemmas.Int.{ints}
use Rattle.std.proofs.lemmas.List.Edits.{map_over_more}
use Rattle.ny_num.specs.Numbers.{IsSample, sample_mul}
use Rattle.ny_num.specs.Leaves.{louder_value}
use Rattle.ny_units.proofs.Loudnesses.{same_at_one, louder_is}
use Rattle.ny_units.proofs.loudness.at_loudness.Goals as goal

pub returns-then-micro-eq-ONE : goal.returns-then-micro-eq-ONE
returns-then-micro-eq-ONE c =
    let one : c.micro.result ≡ pos 1000000 = omega (arith, ints) in
    same_at_one c.args.loud c.args.out.now (sym c.micro.ensures.value ∙ one) c.requires

pub loop-sample-preserved : goal.loop-sample-preserved
loop-sample-preserved c =
    let loud : IsSample c.args.loud = subst IsSample c.micro.ensures.value c.micro.ensures.within in
    let value : c.mul.result ≡ louder_value c.args.loud c.sample-item.result =
    c.mul.ensures ∙ ap (sample_mul c.args.loud) (sym c.sample-item.is) ∙ louder_is c.args.loud c.sample-item.result loud in
    ap (slice_set c.loop-sample.out c.loop-sample.sample-index) value
    ∙ map_over_more (louder_value c.args.loud) c.args.out.now c.loop-sample.out c.loop-sample.sample-index c.sample-item.result (omega arith) c.loop-sample.invariant c.sample-item.is
