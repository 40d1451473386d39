use Rattle.std.proofs.Common.{rules, ◌≡◌, ◌*ℤ◌, ◌-ℤ◌, ◌+ℤ◌, pos, subst, sym}
use Rattle.std.specs.Int.{cast_signed, cast_unsigned, w64}
use Rattle.ny_num.specs.Numbers.{IsSample, floor_div}
use Rattle.ny_num.proofs.Shares.{line_within}
use Rattle.ny_units.proofs.course.on_way.Goals as goal

pub risen-requires-clause-within : goal.risen-requires-clause-within
risen-requires-clause-within c =
    let e : cast_signed w64 (cast_unsigned w64 c.share.result) ≡ floor_div ((c.args.to -ℤ c.args.from) *ℤ pos c.args.part) (pos c.args.course.now.grid) = search rules in
    subst (λ z. IsSample (c.args.from +ℤ z)) (sym e) (line_within c.args.from c.args.to c.args.part c.args.course.now.grid c.requires.inside (subst IsSample c.micro.ensures.value c.micro.ensures.within) (subst IsSample c.micro-2.ensures.value c.micro-2.ensures.within))
