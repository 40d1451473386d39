use Rattle.std.proofs.Common.{length}
use Rattle.ny_heap.proofs.PartLemmas.{Attaching}
use Rattle.ny_heap.proofs.task.attach_all.Given as goal

abbrev pub invariant-loop-sound : goal.invariant-loop-sound
invariant-loop-sound l = Attaching l.fn.mix l.mix l.fn.sounds.items l.queue.items

abbrev pub decreases-loop-sound : goal.decreases-loop-sound
decreases-loop-sound l = length l.queue.items
