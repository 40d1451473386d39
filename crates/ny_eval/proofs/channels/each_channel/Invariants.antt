use Rattle.std.proofs.Common.{◌+◌, ◌≤◌, length, vec_capacity}
use Rattle.ny_eval.proofs.ChannelLemmas.{ChannelsSoFar}
use Rattle.ny_eval.proofs.channels.each_channel.Given as goal

abbrev pub invariant-loop-part : goal.invariant-loop-part
invariant-loop-part l = record {
  so_far : ChannelsSoFar l.fn.heap l.heap l.rate l.fn.left.items l.left.items l.done.items;
  room : length l.left.items + length l.done.items ≤ vec_capacity l.done;
}

abbrev pub decreases-loop-part : goal.decreases-loop-part
decreases-loop-part l = length l.left.items
