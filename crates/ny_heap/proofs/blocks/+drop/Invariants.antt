use Rattle.std.proofs.Common.{◌+◌, ◌*◌, length}
use Rattle.ny_heap.specs.Work.{waits_in}
use Rattle.ny_heap.specs.Table.{Drops, present}
use Rattle.ny_heap.proofs.DropLemmas.{Removing}
use Rattle.ny_heap.proofs.SpentLemmas.{cursors_in, Spending}
use Rattle.ny_heap.proofs.blocks.+drop.Given as goal

-- how many units there are
abbrev pub decreases-drop_reader : goal.decreases-drop_reader
decreases-drop_reader l = 4 * present l.table.now

abbrev pub decreases-drop_sound : goal.decreases-drop_sound
decreases-drop_sound l = 4 * present l.table.now + 1

abbrev pub decreases-drop_sounds : goal.decreases-drop_sounds
decreases-drop_sounds l = 4 * present l.table.now + 2

abbrev pub decreases-drop_kept : goal.decreases-drop_kept
decreases-drop_kept l = 4 * present l.table.now + 3

abbrev pub invariant-drop_reader-loop-i : goal.invariant-drop_reader-loop-i
invariant-drop_reader-loop-i l = Removing l.fn.table l.table l.fn.c l.work l.count l.i

-- what some parts keep is spent
abbrev pub invariant-drop_kept-loop-kept : goal.invariant-drop_kept-loop-kept
invariant-drop_kept-loop-kept l = Spending l.fn.table l.table (waits_in l.fn.work) (waits_in l.work)

abbrev pub decreases-drop_kept-loop-kept : goal.decreases-drop_kept-loop-kept
decreases-drop_kept-loop-kept l = length (waits_in l.work)

-- those that were taken are spent
abbrev pub invariant-drop_sounds-loop-sound : goal.invariant-drop_sounds-loop-sound
invariant-drop_sounds-loop-sound l = Drops l.fn.table l.table (cursors_in l.fn.sounds.items) (cursors_in l.sounds.items)

abbrev pub decreases-drop_sounds-loop-sound : goal.decreases-drop_sounds-loop-sound
decreases-drop_sounds-loop-sound l = length l.sounds.items
