use Rattle.std.proofs.Common.{◌≡◌, ◌≤◌, ◌+◌, ◌-◌, ◌*◌, ◌++◌, max, drop, take, map, length}
use Rattle.std.specs.Prelude.{zip}
use Rattle.std.specs.List.{All, range_with_len}
use Rattle.ny_check.specs.Code.{AllBelow, BindsBelow}
use Rattle.ny_timing.specs.Timings.{IsTimingAt, timing_at, timed_value_of, timed_after, number, times_after, times_in_turn, times_together, time_of_part, time_of_repeat}
use Rattle.ny_timing.proofs.find.+timing.Given as goal

-- a node before its parts
abbrev pub decreases-find : goal.decreases-find
decreases-find l = 8 * l.e.0 + 7

abbrev pub decreases-sounding : goal.decreases-sounding
decreases-sounding l = 8 * l.e.0 + 6

abbrev pub decreases-changed : goal.decreases-changed
decreases-changed l = 8 * l.e.0 + 1

abbrev pub decreases-parts_in : goal.decreases-parts_in
decreases-parts_in l = 8 * l.e.0 + 2

abbrev pub decreases-call : goal.decreases-call
decreases-call l = 8 * l.e.0 + 2

abbrev pub decreases-block : goal.decreases-block
decreases-block l = 8 * l.e.0 + 2

abbrev pub decreases-arguments : goal.decreases-arguments
decreases-arguments l = 8 * l.e.0 + 1

abbrev pub decreases-bind_all : goal.decreases-bind_all
decreases-bind_all l = 8 * l.e.0 + 1

abbrev pub decreases-numbers : goal.decreases-numbers
decreases-numbers l = 8 * l.e.0 + 1

abbrev pub decreases-together : goal.decreases-together
decreases-together l = 8 * l.e.0 + 1

abbrev pub decreases-in_turn : goal.decreases-in_turn
decreases-in_turn l = 8 * l.e.0 + 1

-- calls by the parts themselves
abbrev pub decreases-pair : goal.decreases-pair
decreases-pair l = 8 * max l.a.0 l.b.0 + 8

abbrev pub decreases-heard : goal.decreases-heard
decreases-heard l = 8 * l.e.0 + 8

abbrev pub decreases-number : goal.decreases-number
decreases-number l = 8 * l.e.0 + 8

abbrev pub decreases-turn : goal.decreases-turn
decreases-turn l = 8 * l.part.0 + 9

abbrev pub decreases-repeats_together : goal.decreases-repeats_together
decreases-repeats_together l = 8 * l.part.0 + 10

abbrev pub decreases-repeats_in_turn : goal.decreases-repeats_in_turn
decreases-repeats_in_turn l = 8 * l.part.0 + 10

abbrev pub decreases-repeats_in : goal.decreases-repeats_in
decreases-repeats_in l = 8 * l.part.0 + 11

abbrev pub invariant-arguments-loop-i : goal.invariant-arguments-loop-i
invariant-arguments-loop-i l = record {
  so_far : l.inner ++ zip (drop l.i l.params) (map (timed_value_of l.p (timing_at l.p) l.env l.fn.names) (drop l.i l.values)) ≡ zip l.params (map (timed_value_of l.p (timing_at l.p) l.env l.fn.names) l.values);
  below : AllBelow l.fn.e.0 (drop l.i l.values);
  names : l.names ≡ l.fn.names;
}

abbrev pub invariant-bind_all-loop-name : goal.invariant-bind_all-loop-name
invariant-bind_all-loop-name l = record {
  so_far : timed_after l.p (timing_at l.p) l.env (drop l.name-index l.binds) l.names ≡ timed_after l.p (timing_at l.p) l.env l.binds l.fn.names;
  below : BindsBelow l.fn.e.0 (drop l.name-index l.binds);
  kept : take (length l.fn.names) l.names ≡ l.fn.names;
  grown : length l.fn.names ≤ length l.names;
}

abbrev pub invariant-numbers-loop-part : goal.invariant-numbers-loop-part
invariant-numbers-loop-part l = record {
  so_far : l.values.items ≡ map (number l.p l.fn.names) (take l.part-index l.parts);
  below : AllBelow l.fn.e.0 (drop l.part-index l.parts);
  names : l.names ≡ l.fn.names;
}

abbrev pub invariant-together-loop-part : goal.invariant-together-loop-part
invariant-together-loop-part l = record {
  so_far : l.times.items ≡ times_together l.env (map (time_of_part (timing_at l.p) l.fn.names) (take l.part-index l.parts));
  below : AllBelow l.fn.e.0 (drop l.part-index l.parts);
  bounds : All (IsTimingAt l.env.sound_rate) l.times.items;
  names : l.names ≡ l.fn.names;
}

abbrev pub invariant-in_turn-loop-k : goal.invariant-in_turn-loop-k
invariant-in_turn-loop-k l = record {
  so_far : l.times.items ++ times_after l.env l.stop (map (time_of_part (timing_at l.p) l.fn.names) (drop l.k l.parts)) ≡ times_in_turn l.env (map (time_of_part (timing_at l.p) l.fn.names) l.parts);
  below : AllBelow l.fn.e.0 (drop l.k l.parts);
  bounds : All (IsTimingAt l.env.sound_rate) l.times.items;
  names : l.names ≡ l.fn.names;
}

abbrev pub invariant-repeats_together-loop-k : goal.invariant-repeats_together-loop-k
invariant-repeats_together-loop-k l = record {
  so_far : l.times.items ++ times_together l.env (map (time_of_repeat (timing_at l.p) l.fn.names l.i l.part) (range_with_len l.k (l.count - l.k))) ≡ times_together l.env (map (time_of_repeat (timing_at l.p) l.fn.names l.i l.part) (range_with_len 0 l.count));
  bounds : All (IsTimingAt l.env.sound_rate) l.times.items;
  names : l.names ≡ l.fn.names;
}

abbrev pub invariant-repeats_in_turn-loop-k : goal.invariant-repeats_in_turn-loop-k
invariant-repeats_in_turn-loop-k l = record {
  so_far : l.times.items ++ times_after l.env l.stop (map (time_of_repeat (timing_at l.p) l.fn.names l.i l.part) (range_with_len l.k (l.count - l.k))) ≡ times_in_turn l.env (map (time_of_repeat (timing_at l.p) l.fn.names l.i l.part) (range_with_len 0 l.count));
  bounds : All (IsTimingAt l.env.sound_rate) l.times.items;
  names : l.names ≡ l.fn.names;
}
