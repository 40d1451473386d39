use Rattle.std.proofs.Common.{◌≡◌, ◌∙◌, ◌++◌, ap, sym, arith, length, map, min}
use Rattle.std.specs.Prelude.{zip, get_or}
use Rattle.std.proofs.lemmas.List.{append-nil}
use Rattle.std.proofs.lemmas.List.Elements.{All-push, All-same}
use Rattle.ny_check.specs.declared.node.ExprId.{ExprId}
use Rattle.ny_timing.specs.Timings.{IsTimingAt, timing_at, timed_value_of, time_of_part, time_of_repeat, next_time, brought_time}
use Rattle.ny_timing.proofs.Turns.{turn_of_repeat, turn_of_sequence, turn_together, below-next, all_paired}
use Rattle.ny_timing.proofs.find.+timing.Goals as goal

abbrev none : ExprId
none = record { 0 = 0 }

pub arguments-returns-clause-value : goal.arguments-returns-clause-value
arguments-returns-clause-value t c =
    let f = timed_value_of c.args.p.now (timing_at c.args.p.now) c.args.env.now c.args.names.now in
    let params = c.params-params.result.now in
    let last : c.loop-i.i ≡ min (length params) (length c.args.values.now) = omega arith in
    sym (append-nil c.loop-i.inner)
    ∙ ap (λ rest. c.loop-i.inner ++ rest) (sym (all_paired f params c.args.values.now c.loop-i.i last))
    ∙ c.loop-i.invariant.so_far
    ∙ ap (λ xs. zip xs (map f c.args.values.now)) c.params-params.ensures

pub in_turn-loop-k-preserved : goal.in_turn-loop-k-preserved
in_turn-loop-k-preserved t c =
    let env = c.args.env.now in
    let part = time_of_part (timing_at c.args.p.now) c.args.names.now in
    let next = c.placed_after-next.result in
    let pushed = c.in_ok-push-2.ensures.items in
    let value : next ≡ next_time env c.loop-k.stop (part (get_or c.args.parts.now c.loop-k.k none)) = cc (c.placed_after-next.ensures.value, c.in_ok-t-2.ensures.value, c.in_ok-from.ensures, c.loop-k.invariant.names) in
    record {
      so_far = turn_of_sequence env c.loop-k.stop c.loop-k.times.items c.push-in-loop-k.new.self.items _ part c.args.parts.now c.loop-k.k none next (omega arith) c.loop-k.invariant.so_far value pushed;
      below = below-next c.args.e.0 c.args.parts.now c.loop-k.k none (omega arith) c.loop-k.invariant.below;
      bounds = All-same (IsTimingAt env.sound_rate) _ _ pushed (All-push (IsTimingAt env.sound_rate) c.loop-k.times.items next c.loop-k.invariant.bounds (c.placed_after-next.ensures.bounds, c.placed_after-next.ensures.rate));
      names = c.in_ok-t-2.ensures.names ∙ c.loop-k.invariant.names;
    }

pub repeats_in_turn-loop-k-preserved : goal.repeats_in_turn-loop-k-preserved
repeats_in_turn-loop-k-preserved t c =
    let env = c.args.env.now in
    let turn = time_of_repeat (timing_at c.args.p.now) c.args.names.now c.args.i c.args.part in
    let next = c.placed_after-placed.result in
    let pushed = c.in_ok-push-2.ensures.items in
    let value : next ≡ next_time env c.loop-k.stop (turn c.loop-k.k) = cc (c.placed_after-placed.ensures.value, c.in_ok-t-2.ensures.value, c.in_ok-from.ensures, c.loop-k.invariant.names) in
    record {
      so_far = turn_of_repeat env c.loop-k.stop c.loop-k.times.items c.push-in-loop-k.new.self.items _ turn c.loop-k.k c.args.count next (omega arith) c.loop-k.invariant.so_far value pushed;
      bounds = All-same (IsTimingAt env.sound_rate) _ _ pushed (All-push (IsTimingAt env.sound_rate) c.loop-k.times.items next c.loop-k.invariant.bounds (c.placed_after-placed.ensures.bounds, c.placed_after-placed.ensures.rate));
      names = c.in_ok-t-2.ensures.names ∙ c.loop-k.invariant.names;
    }

pub repeats_together-loop-k-preserved : goal.repeats_together-loop-k-preserved
repeats_together-loop-k-preserved t c =
    let env = c.args.env.now in
    let turn = time_of_repeat (timing_at c.args.p.now) c.args.names.now c.args.i c.args.part in
    let here = c.resampled_timing.result in
    let pushed = c.in_ok-push.ensures.items in
    let value : here ≡ brought_time env (turn c.loop-k.k) = cc (c.resampled_timing.ensures.value, c.in_ok-t.ensures.value, c.loop-k.invariant.names) in
    record {
      so_far = turn_together env c.loop-k.times.items c.push.new.self.items _ turn c.loop-k.k c.args.count here (omega arith) c.loop-k.invariant.so_far value pushed;
      bounds = All-same (IsTimingAt env.sound_rate) _ _ pushed (All-push (IsTimingAt env.sound_rate) c.loop-k.times.items here c.loop-k.invariant.bounds (c.resampled_timing.ensures.bounds, c.resampled_timing.ensures.rate));
      names = c.in_ok-t.ensures.names ∙ c.loop-k.invariant.names;
    }
