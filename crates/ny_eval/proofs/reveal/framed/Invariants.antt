use Rattle.std.proofs.Common.{◌≡◌, vec_len, vec_capacity}
use Rattle.ny_eval.proofs.KeptLemmas.{FramedSoFar}
use Rattle.ny_eval.proofs.reveal.framed.Given as goal

abbrev pub invariant-loop-i : goal.invariant-loop-i
invariant-loop-i l = record {
  so_far : FramedSoFar l.names l.fn.captured.items l.i l.left.items l.framed.items;
  count : vec_len l.framed ≡ l.i;
  capacity : vec_capacity l.framed ≡ vec_capacity l.fn.room;
}
