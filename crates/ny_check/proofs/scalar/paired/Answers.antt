use Rattle.std.proofs.Common.{◌≡◌, sym, ap, ◌∙◌, arith, length, ◌++◌, min}
use Rattle.std.proofs.lemmas.List.{append-nil}
use Rattle.ny_check.proofs.Pairs.{paired_end}
use Rattle.ny_check.proofs.scalar.paired.Goals as goal

pub returns : goal.returns
returns c =
    let e : c.loop-i.i ≡ min (length c.args.params.now) (length c.args.arguments.now) = omega arith in
    sym (append-nil c.loop-i.names) ∙ ap (λ w. c.loop-i.names ++ w) (sym (paired_end c.args.params.now c.args.arguments.now c.loop-i.i e)) ∙ c.loop-i.invariant
