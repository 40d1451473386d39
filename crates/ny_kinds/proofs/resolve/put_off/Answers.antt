use Rattle.std.proofs.Common.{ℕ, arith}
use Rattle.ny_kinds.proofs.Stack.{stack_push, stack_last, stack_front}
use Rattle.ny_kinds.proofs.resolve.put_off.Goals as goal

pub loop-function-preserved : goal.loop-function-preserved
loop-function-preserved c = λ n h k.
    let so = c.loop-function.invariant n h k in (
      stack_push n c.loop-function.stack c.push.new.self c.in-Some.function c.in_ok-push.ensures.ok
          (stack_last n c.pop.new.self c.loop-function.rest c.in-Some.function c.in-Some.ensures so.1) so.0,
      stack_front n c.pop.new.self c.loop-function.rest c.in-Some.function c.in-Some.ensures so.1,
    )
