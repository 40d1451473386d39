use Rattle.std.proofs.Common.{◌<◌, length, sym, subst, ap, ◌∙◌}
use Rattle.ny_check.specs.declared.node.ExprId.{ExprId}
use Rattle.ny_eval.specs.Framed.{names_in}
use Rattle.ny_eval.specs.declared.parts.Parts.{Parts}
use Rattle.ny_eval.specs.Parts.{count_in, part_at, AreBelow}
use Rattle.ny_eval.proofs.BodyLemmas.{below_at}
use Rattle.ny_eval.proofs.WaitingLemmas.{alone_at}
use Rattle.ny_eval.proofs.waiting.branch_at.Goals as goal

pub expr_at-requires : goal.expr_at-requires
expr_at-requires c = subst (λ (ps : Parts). c.args.k < count_in ps) c.in-Listed.is c.requires.place

pub branch_of-requires-clause-inside : goal.branch_of-requires-clause-inside
branch_of-requires-clause-inside c =
    subst (λ (x : ExprId). x.0 < length c.args.p.now.nodes) (sym (c.expr_at.ensures (record { 0 = 0 })))
    (below_at (length c.args.p.now.nodes) c.in-Listed.listed.now c.args.k (record { 0 = 0 }) (subst (λ (ps : Parts). c.args.k < count_in ps) c.in-Listed.is c.requires.place) (subst (λ (ps : Parts). AreBelow (length c.args.p.now.nodes) ps) c.in-Listed.is c.requires.below))

pub returns-in_ok-branch_of-in-Listed-clause-waits : goal.returns-in_ok-branch_of-in-Listed-clause-waits
returns-in_ok-branch_of-in-Listed-clause-waits c =
    alone_at c.args.p.now c.args.env.now c.in_ok-late.late (names_in c.args.frame.now) (names_in c.args.frame.now) c.args.parts.now c.args.k c.expr_at.result c.args.heap.now c.branch_of.new.heap _
    (ap (λ (ps : Parts). part_at (names_in c.args.frame.now) ps c.args.k) c.in-Listed.is ∙ ap (λ (x : ExprId). (x, names_in c.args.frame.now)) (sym (c.expr_at.ensures (record { 0 = 0 })))) c.in_ok-late.ensures c.in_ok-branch_of-in-Listed.ensures.waits

pub counted_branch-requires-clause-inside : goal.counted_branch-requires-clause-inside
counted_branch-requires-clause-inside c = subst (λ (ps : Parts). AreBelow (length c.args.p.now.nodes) ps) c.in-Counted.is c.requires.below

pub counted_branch-requires-clause-place : goal.counted_branch-requires-clause-place
counted_branch-requires-clause-place c = subst (λ (ps : Parts). c.args.k < count_in ps) c.in-Counted.is c.requires.place
