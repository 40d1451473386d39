use Rattle.std.proofs.Common.{◌≡◌, ◌+◌, ◌≤◌, drop, vec_len, vec_capacity}
use Rattle.ny_eval.specs.Framed.{names_in}
use Rattle.ny_eval.proofs.WaitingLemmas.{KeptSoFar}
use Rattle.ny_eval.proofs.waiting.keep_names.Given as goal

abbrev pub invariant-loop-x : goal.invariant-loop-x
invariant-loop-x l = record {
  so_far : KeptSoFar (names_in l.frame) l.free (drop l.x-index l.free) l.fn.heap l.heap l.names.items l.sounds.items;
  names_len : vec_len l.names ≤ vec_len l.fn.names + l.x-index;
  names_capacity : vec_capacity l.names ≡ vec_capacity l.fn.names;
  sounds_len : vec_len l.sounds ≤ vec_len l.fn.sounds + l.x-index;
  sounds_capacity : vec_capacity l.sounds ≡ vec_capacity l.fn.sounds;
}
