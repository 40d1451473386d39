use Rattle.std.proofs.Common.{◌≡◌, sym, ap, ◌∙◌, arith, length, ◌++◌, min}
use Rattle.std.proofs.lemmas.List.{append-nil}
use Rattle.ny_kinds.proofs.Stack.{paired_end}
use Rattle.ny_kinds.proofs.judging.parameters.Goals as goal

pub returns : goal.returns
returns c =
    let e : c.loop-i.i ≡ min (length c.args.params.now) (length c.args.kinds.now) = omega arith in
    sym (append-nil c.loop-i.all) ∙ ap (λ w. c.loop-i.all ++ w) (sym (paired_end c.args.params.now c.args.kinds.now c.loop-i.i e)) ∙ c.loop-i.invariant
