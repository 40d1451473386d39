use Rattle.std.proofs.Common.{◌≡◌, ◌<◌, ◌+◌, ◌^◌, ◌≤◌, ◌∙◌, sym, ap, length, arith, vec_len, rules}
use Rattle.ny_kinds.specs.Table.{AreBefore, top_of}
use Rattle.ny_kinds.proofs.Stack.{top_of-bound, top_of-push, not_empty, stack_push, smaller_longer, smaller_down, missing_is, before_wider, none_before, stack_last, stack_front, top_is, le_few}
use Rattle.ny_kinds.proofs.resolve.resolve.Goals as goal

pub loop-next-init : goal.loop-next-init
loop-next-init c = record {
  known = c.requires.known;
  stack = stack_push (length c.args.ds.now) c.put_off.new.stack c.push.new.self c.args.first c.in_ok-push.ensures.ok c.requires.within
      (c.in_ok-put_off.ensures (length c.args.ds.now) (none_before (length c.args.ds.now) c.new-stack.result c.new-stack.ensures) c.requires.callers);
  longer = λ e. not_empty c.put_off.new.stack _ (sym c.in_ok-push.ensures.ok ∙ e);
  kept = omega arith;
}

pub loop-next-preserved-in-Continue-branch-3 : goal.loop-next-preserved-in-Continue-branch-3
loop-next-preserved-in-Continue-branch-3 c = record {
  known = c.in_ok-add-in-Ok.ensures.known;
  stack = stack_front (length c.args.ds.now) c.pop.new.self c.loop-next.stack c.in-Some.next c.in-Some.ensures c.loop-next.invariant.stack;
  longer = λ _. omega (arith, c.in_ok-add-in-Ok.ensures.longer, c.in-Ok.ensures.kept);
  kept = omega (arith, c.in_ok-add-in-Ok.ensures.longer, c.in-Ok.ensures.kept);
}

pub loop-next-preserved : goal.loop-next-preserved
loop-next-preserved c =
    let last : c.in-Some.next.number < length c.args.ds.now = stack_last (length c.args.ds.now) c.pop.new.self c.loop-next.stack c.in-Some.next c.in-Some.ensures c.loop-next.invariant.stack in
    let before : (c.in-Err-Missing.earlier.number < c.in-Some.next.number) × AreBefore c.in-Some.next.number c.in-Err-Missing.callers =
    missing_is c.args.most c.in-Some.next.number c.in-Err-Missing.field-0 c.in-Err-Missing.earlier c.in-Err-Missing.callers c.in-Err-Missing.field-0-is c.in-Err-Missing.ensures.missing in
    let again : AreBefore (length c.args.ds.now) c.push-in-Err-Missing.new.self =
    stack_push (length c.args.ds.now) c.pop.new.self c.push-in-Err-Missing.new.self (record { number = c.in-Some.next.number; kinds = c.in-Some.next.kinds }) c.in_ok-push-in-Err-Missing.ensures.ok last
    (stack_front (length c.args.ds.now) c.pop.new.self c.loop-next.stack c.in-Some.next c.in-Some.ensures c.loop-next.invariant.stack) in
    let callers : AreBefore (length c.args.ds.now) c.put_off-in-Err-Missing.new.stack =
    c.in_ok-put_off-in-Err-Missing.ensures (length c.args.ds.now) again
    (before_wider c.in-Some.next.number (length c.args.ds.now) c.in-Err-Missing.callers (omega (arith, last)) before.1) in
    record {
      known = c.in-Err-Missing.ensures.known;
      stack = stack_push (length c.args.ds.now) c.put_off-in-Err-Missing.new.stack c.push-in-Err-Missing-2.new.self (record { number = c.in-Err-Missing.earlier.number; kinds = c.in-Err-Missing.earlier.kinds }) c.in_ok-push-in-Err-Missing-2.ensures.ok (omega (arith, before.0, last))
          callers;
      longer = λ e. not_empty c.put_off-in-Err-Missing.new.stack _ (sym c.in_ok-push-in-Err-Missing-2.ensures.ok ∙ e);
      kept = omega (arith, c.loop-next.invariant.kept, c.in-Err-Missing.ensures.kept);
    }

pub loop-next-smaller-in-Continue-branch-3 : goal.loop-next-smaller-in-Continue-branch-3
loop-next-smaller-in-Continue-branch-3 c =
    let top : top_of c.loop-next.stack ≡ c.in-Some.next.number + 1 = top_is c.pop.new.self c.loop-next.stack c.in-Some.next c.in-Some.ensures in
    let bound : top_of c.pop.new.self ≤ length c.args.ds.now = top_of-bound (length c.args.ds.now) c.pop.new.self (stack_front (length c.args.ds.now) c.pop.new.self c.loop-next.stack c.in-Some.next c.in-Some.ensures c.loop-next.invariant.stack) in
    let few : length c.args.ds.now < 2 ^ 32 = c.requires.few in
    smaller_longer (vec_len c.loop-next.table.entries) (vec_len c.add.new.self.entries) (top_of c.loop-next.stack) (top_of c.pop.new.self)
    (omega (arith, c.in_ok-add-in-Ok.ensures.longer, c.in-Ok.ensures.kept)) (search rules) (le_few bound few) (rw top (omega arith))

pub loop-next-smaller : goal.loop-next-smaller
loop-next-smaller c =
    let top : top_of c.loop-next.stack ≡ c.in-Some.next.number + 1 = top_is c.pop.new.self c.loop-next.stack c.in-Some.next c.in-Some.ensures in
    let before : (c.in-Err-Missing.earlier.number < c.in-Some.next.number) × AreBefore c.in-Some.next.number c.in-Err-Missing.callers =
    missing_is c.args.most c.in-Some.next.number c.in-Err-Missing.field-0 c.in-Err-Missing.earlier c.in-Err-Missing.callers c.in-Err-Missing.field-0-is c.in-Err-Missing.ensures.missing in
    let earlier : c.in-Err-Missing.earlier.number < c.in-Some.next.number = before.0 in
    let new : top_of c.push-in-Err-Missing-2.new.self ≡ c.in-Err-Missing.earlier.number + 1 =
    ap top_of c.in_ok-push-in-Err-Missing-2.ensures.ok ∙ top_of-push c.put_off-in-Err-Missing.new.stack _ in
    smaller_down (vec_len c.loop-next.table.entries) (vec_len c.judge_body.new.table.entries) (top_of c.loop-next.stack) (top_of c.push-in-Err-Missing-2.new.self)
    c.in-Err-Missing.ensures.kept (search rules) (rw (top, new) (omega arith))
