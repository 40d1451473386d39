use Rattle.std.proofs.Common.{◌≡◌, ◌+◌, ◌*◌, max, map, drop}
use Rattle.ny_syntax.specs.Spelled.{onto}
use Rattle.ny_syntax.specs.Canonical.{written, written_bind, separated, with_commas}
use Rattle.ny_syntax.proofs.written.+written.Given as goal
use Rattle.ny_syntax.proofs.tree.Expr.TheLaws as exprs
use Rattle.ny_syntax.proofs.tree.Bind.TheLaws as binds
use denote.Param.Weighed.{most}

abbrev pub invariant-push_arguments-loop-part : goal.invariant-push_arguments-loop-part
invariant-push_arguments-loop-part l =
    onto l.out.items (separated l.some (map written (drop l.part-index l.parts))) ≡ onto l.fn.out.items (with_commas (map written l.parts))

abbrev pub invariant-push_bind_list-loop-bind : goal.invariant-push_bind_list-loop-bind
invariant-push_bind_list-loop-bind l =
    onto l.out.items (separated l.some (map written_bind (drop l.bind-index l.binds))) ≡ onto l.fn.out.items (with_commas (map written_bind l.binds))

-- a function that takes parts apart comes before those that it calls on the same parts
abbrev pub decreases-push_expr : goal.decreases-push_expr
decreases-push_expr l = 4 * exprs.the_size l.e.now

abbrev pub decreases-push_bracketed : goal.decreases-push_bracketed
decreases-push_bracketed l = 4 * exprs.the_size l.e.now + 1

abbrev pub decreases-push_prefix : goal.decreases-push_prefix
decreases-push_prefix l = 4 * exprs.the_size l.e.now + 3

abbrev pub decreases-push_binary : goal.decreases-push_binary
decreases-push_binary l = 4 * max (exprs.the_size l.a.now) (exprs.the_size l.b.now) + 3

abbrev pub decreases-push_choice : goal.decreases-push_choice
decreases-push_choice l = 4 * max (exprs.the_size l.test.now) (max (exprs.the_size l.a.now) (exprs.the_size l.b.now)) + 3

abbrev pub decreases-push_arguments : goal.decreases-push_arguments
decreases-push_arguments l = 4 * most exprs.the_size l.parts.now + 2

abbrev pub decreases-push_call : goal.decreases-push_call
decreases-push_call l = 4 * most exprs.the_size l.parts.now + 3

abbrev pub decreases-push_bind : goal.decreases-push_bind
decreases-push_bind l = 4 * binds.the_size l.bind.now

abbrev pub decreases-push_bind_list : goal.decreases-push_bind_list
decreases-push_bind_list l = 4 * most binds.the_size l.binds.now + 1

abbrev pub decreases-push_binds : goal.decreases-push_binds
decreases-push_binds l = 4 * most binds.the_size l.binds.now + 2

abbrev pub decreases-push_block : goal.decreases-push_block
decreases-push_block l = 4 * max (most binds.the_size l.binds.now) (exprs.the_size l.value.now) + 3
