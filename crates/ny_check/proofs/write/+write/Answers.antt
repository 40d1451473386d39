use Rattle.std.proofs.Common.{arith, ◌≡◌, ◌+◌, ◌∷◌, drop, length, ap, List, ◌∙◌}
use Rattle.ny_resolve.specs.declared.term.NameId.{NameId}
use Rattle.ny_check.specs.Writing.{writing}
use Rattle.std.proofs.lemmas.Grind.{common_steps}
use Rattle.ny_resolve.specs.Sizes.{size_of_bound}
use Rattle.ny_resolve.proofs.PartSizes.{size-bound}
use Rattle.ny_check.proofs.Counted.{count_step}
use Rattle.ny_check.proofs.BindSteps.{bind_step}
use Rattle.ny_check.proofs.Wider.{binds_push}
use Rattle.ny_check.proofs.write.+write.Goals as goal

pub write-put-requires-in-Apply-clause-below : goal.write-put-requires-in-Apply-clause-below
write-put-requires-in-Apply-clause-below t c = c.in_ok-node-in-Apply.ensures.below c.write_each-in-Apply.new.draft.functions (length c.write_each-in-Apply.new.draft.table.nodes) c.in_ok-ids-in-Apply.ensures.below

pub write_each_bind-loop-bind-preserved : goal.write_each_bind-loop-bind-preserved
write_each_bind-loop-bind-preserved t c = let here : drop c.loop-bind.bind-index c.args.binds.now ≡ c.bind-item.result ∷ drop (c.loop-bind.bind-index + 1) c.args.binds.now = grind (arith, common_steps) in record {
  written = bind_step (drop c.loop-bind.bind-index c.args.binds.now) (drop (c.loop-bind.bind-index + 1) c.args.binds.now) c.bind-item.result c.loop-bind.draft.functions c.write.new.draft.functions c.loop-bind.draft.table c.write.new.draft.table c.loop-bind.written c.push.new.self c.in_ok-id.id _ here (c.in_ok-id.ensures.written ∙ ap (λ (names : List NameId). (writing c.bind-item.result.value).write names c.loop-bind.draft.functions c.loop-bind.draft.table) c.new.ensures) c.in_ok-push.ensures.ok c.in_ok-id.ensures.functions c.loop-bind.invariant.written;
  grown = omega (arith, c.in_ok-id.ensures.grown, c.loop-bind.invariant.grown);
  counted = count_step size_of_bound (drop c.loop-bind.bind-index c.args.binds.now) (drop (c.loop-bind.bind-index + 1) c.args.binds.now) c.bind-item.result (length c.loop-bind.draft.table.nodes) (length c.write.new.draft.table.nodes) _ here (omega (arith, c.in_ok-id.ensures.counted, size-bound c.bind-item.result)) c.loop-bind.invariant.counted;
  below = binds_push (length c.loop-bind.draft.table.nodes) (length c.write.new.draft.table.nodes) c.loop-bind.written c.push.new.self c.bind-item.result.name c.in_ok-id.id c.in_ok-push.ensures.ok c.in_ok-id.ensures.grown c.in_ok-id.ensures.within c.loop-bind.invariant.below;
  functions = c.in_ok-id.ensures.functions ∙ c.loop-bind.invariant.functions;
}
