use Rattle.std.proofs.Common.{◌≡◌, ◌-◌, ◌*◌, arith, ◌∙◌}
use Rattle.std.specs.Int.{div_ceil}
use Rattle.ny_warp.proofs.PlacedThreshold.{placing-threshold}
use Rattle.ny_warp.proofs.step.first_with.Goals as goal

pub returns-clause-first : goal.returns-clause-first
returns-clause-first c =
    let x : c.first_scaled-first.result ≡ div_ceil ((c.args.t - c.args.d) * 1000000) c.args.factor =
    c.first_scaled-first.ensures ∙ rw (c.get.ensures.value, c.get-2.ensures.value) in
    placing-threshold c.args.d c.args.t c.args.factor c.of.result c.requires.factor c.requires.later (omega (arith, c.get.ensures)) (omega arith)
