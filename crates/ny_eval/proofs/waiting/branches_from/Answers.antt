use Rattle.std.proofs.Common.{rules, ◌-◌, refl, arith, ◌∙◌}
use Rattle.ny_heap.specs.Steps.{sounds_of}
use Rattle.ny_eval.specs.Framed.{names_in}
use Rattle.ny_eval.specs.Waiting.{kept_in, parts_between}
use Rattle.ny_eval.proofs.EvalLemmas.{held_after}
use Rattle.ny_eval.proofs.WaitingLemmas.{wait_none, wait_next, wait_refused}
use Rattle.ny_eval.proofs.waiting.branches_from.Goals as goal

pub loop-k-init : goal.loop-k-init
loop-k-init c = record {
  so_far = wait_none c.args.p.now c.args.env.now (names_in c.args.frame.now) c.args.parts.now c.args.from (c.args.from - c.args.from) c.args.heap.now c.args.waiting.now.items (omega arith) c.requires.none c.lawful.ensures;
  behind = omega arith;
  len = search rules;
  capacity = refl;
  same = refl;
}

pub branch_at-requires-clause-names : goal.branch_at-requires-clause-names
branch_at-requires-clause-names c = held_after c.args.heap.now c.loop-k.heap (sounds_of (kept_in c.loop-k.waiting.items)) c.args.frame.now c.loop-k.frame c.lawful.ensures c.loop-k.invariant.so_far.hand c.loop-k.invariant.same c.requires.names

pub loop-k-preserved : goal.loop-k-preserved
loop-k-preserved c = record {
  so_far = wait_next c.args.p.now c.args.env.now c.args.frame.now c.loop-k.frame c.args.parts.now c.args.from c.loop-k.k c.args.heap.now c.loop-k.heap c.branch_at.new.heap c.loop-k.waiting.items c.push_reserved.new.self.items c.in_ok-branch.branch c.loop-k.invariant.same c.loop-k.invariant.behind c.loop-k.invariant.so_far c.in_ok-branch.ensures.waits c.push_reserved.ensures.items;
  behind = omega (arith, c.loop-k.invariant.behind);
  len = omega (arith, c.loop-k.invariant.len, c.push_reserved.ensures.len);
  capacity = c.push_reserved.ensures.capacity ∙ c.loop-k.invariant.capacity;
  same = c.branch_at.ensures.same ∙ c.loop-k.invariant.same;
}

pub returns-in_err-branch-clause-hand : goal.returns-in_err-branch-clause-hand
returns-in_err-branch-clause-hand c = wait_refused c.args.p.now c.args.env.now (parts_between (names_in c.args.frame.now) c.args.parts.now c.args.from (c.loop-k.k - c.args.from)) c.args.heap.now c.loop-k.heap c.branch_at.new.heap (kept_in c.loop-k.waiting.items) c.loop-k.invariant.so_far c.in_err-branch.ensures.refused
