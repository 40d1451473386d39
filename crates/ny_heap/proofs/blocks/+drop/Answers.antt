use Rattle.std.proofs.Common.{◌∙◌, ◌<◌, refl, ap, arith, []}
use Rattle.ny_list.specs.Store.{list_at}
use Rattle.ny_heap.specs.Work.{waits_in}
use Rattle.ny_heap.specs.Table.{present}
use Rattle.ny_heap.proofs.CountLemmas.{cursor_counted}
use Rattle.ny_heap.proofs.DropLemmas.{Drops-left, read_still, left_there, Removing-begun, Removing-input, Removing-more, Removing-none, Removing-kept, Removing-done}
use Rattle.ny_heap.proofs.SpentLemmas.{Drops-unread, last_taken, last_spent, Spending-begun, Spending-next, Spending-more}
use Rattle.ny_heap.proofs.blocks.+drop.Goals as goal
use Rattle.ny_heap.proofs.blocks.+drop.Goals.{drop_reader-in-Some, drop_reader-in_default}

-- ---- a reader

pub drop_reader-drop_cursor-requires : goal.drop_reader-drop_cursor-requires
drop_reader-drop_cursor-requires t c = record { stands = cursor_counted c.args.table.now c.args.c [] c.requires }

pub drop_reader-is_read-requires : goal.drop_reader-is_read-requires
drop_reader-is_read-requires t c = left_there c.args.table.now c.args.c c.drop_cursor.new.self c.list-v.result c.requires c.drop_cursor.ensures.dropped c.drop_cursor.ensures.laws c.list-v.ensures

pub drop_reader-returns-then-is_read : goal.drop_reader-returns-then-is_read
drop_reader-returns-then-is_read t c =
    Drops-left c.args.table.now c.args.c c.drop_cursor.new.self c.requires c.drop_cursor.ensures.dropped c.drop_cursor.ensures.laws
    (read_still c.args.table.now c.args.c c.drop_cursor.new.self c.requires c.drop_cursor.ensures.dropped
    (λ l is. (c.is_read.ensures l (ap (list_at c.drop_cursor.new.self) c.list-v.ensures ∙ is)).0 c.if-is_read.true))

pub drop_reader-remove_unit-work-requires-clause-there : goal.drop_reader-remove_unit-work-requires-clause-there
drop_reader-remove_unit-work-requires-clause-there t c = left_there c.args.table.now c.args.c c.drop_cursor.new.self c.list-v.result c.requires c.drop_cursor.ensures.dropped c.drop_cursor.ensures.laws c.list-v.ensures

pub drop_reader-loop-i-init : goal.drop_reader-loop-i-init
drop_reader-loop-i-init t c =
    Removing-begun c.args.table.now c.remove_unit-work.new.table c.args.c c.drop_cursor.new.self c.list-v.result c.inputs-count.result c.remove_unit-work.result c.is_read.result c.requires
    c.drop_cursor.ensures.dropped c.drop_cursor.ensures.laws c.list-v.ensures (λ l is. c.is_read.ensures l is) c.if-is_read.false c.remove_unit-work.ensures c.inputs-count.ensures

pub drop_reader-take_cursor-requires : goal.drop_reader-take_cursor-requires
drop_reader-take_cursor-requires t c = record { inside = omega (arith, c.loop-i.invariant.counts) }

pub drop_reader-drop_reader-requires : goal.drop_reader-drop_reader-requires
drop_reader-drop_reader-requires t c =
    let less : present c.loop-i.table < present c.args.table.now = c.loop-i.invariant.less in (
      omega (arith, less, c.decreases),
      Removing-input c.args.table.now c.loop-i.table c.args.c c.loop-i.work c.inputs-count.result c.loop-i.i c.in-Some.input c.requires c.loop-i.invariant (omega arith) c.in-Some.ensures.cursor,
    )

pub drop_reader-loop-i-preserved : goal.drop_reader-loop-i-preserved
drop_reader-loop-i-preserved t c = elim c.match-take_cursor.branch [
  | drop_reader-in-Some w ↦
      rw w.table-is (Removing-more c.args.table.now c.loop-i.table w.drop_reader.new.table c.args.c c.loop-i.work c.take_cursor.new.self c.inputs-count.result c.loop-i.i w.in-Some.input
      c.requires c.loop-i.invariant (omega arith) w.in-Some.ensures.cursor c.take_cursor.ensures.taken w.drop_reader.ensures)
  | drop_reader-in_default w ↦
      rw w.table-is (Removing-none c.args.table.now c.loop-i.table c.args.c c.loop-i.work c.take_cursor.new.self c.inputs-count.result c.loop-i.i
      c.loop-i.invariant (omega arith) w.in_default.ensures.cursor c.take_cursor.ensures.taken)
]

pub drop_reader-drop_kept-requires : goal.drop_reader-drop_kept-requires
drop_reader-drop_kept-requires t c =
    let less : present c.loop-i.table < present c.args.table.now = c.loop-i.invariant.less in (
      omega (arith, less, c.decreases),
      Removing-kept c.args.table.now c.loop-i.table c.args.c c.loop-i.work c.inputs-count.result c.loop-i.i c.requires c.loop-i.invariant (omega arith),
    )

pub drop_reader-returns : goal.drop_reader-returns
drop_reader-returns t c = Removing-done c.args.table.now c.loop-i.table c.drop_kept.new.table c.args.c c.loop-i.work c.inputs-count.result c.loop-i.i c.loop-i.invariant (omega arith) c.drop_kept.ensures

-- ---- what parts keep

pub drop_kept-loop-kept-init : goal.drop_kept-loop-kept-init
drop_kept-loop-kept-init t c = Spending-begun c.args.table.now (waits_in c.args.work) (waits_in c.args.work) c.requires refl

pub drop_kept-drop_sounds-requires : goal.drop_kept-drop_sounds-requires
drop_kept-drop_sounds-requires t c = (
  omega (arith, c.loop-kept.invariant.drops.fewer, c.decreases),
  Spending-next c.args.table.now c.loop-kept.table (waits_in c.args.work) (waits_in c.loop-kept.work) c.loop-kept.invariant c.in-Some.kept.items (waits_in c.next_waiting.new.self) c.in-Some.ensures.first,
)

pub drop_kept-loop-kept-preserved : goal.drop_kept-loop-kept-preserved
drop_kept-loop-kept-preserved t c =
    Spending-more c.args.table.now c.loop-kept.table (waits_in c.args.work) (waits_in c.loop-kept.work) c.loop-kept.invariant c.in-Some.kept.items (waits_in c.next_waiting.new.self) c.in-Some.ensures.first
    c.drop_sounds.new.table c.drop_sounds.ensures

-- ---- sounds

pub drop_sound-returns-in_default : goal.drop_sound-returns-in_default
drop_sound-returns-in_default t c = Drops-unread c.args.table.now c.args.sound.reader c.in_default.is

pub drop_sounds-drop_sound-requires : goal.drop_sounds-drop_sound-requires
drop_sounds-drop_sound-requires t c = (
  omega (arith, c.loop-sound.invariant.fewer, c.decreases),
  last_taken c.args.table.now c.loop-sound.table c.args.sounds.items c.loop-sound.sounds.items c.pop.new.self.items c.in-Some.sound c.requires c.loop-sound.invariant c.in-Some.ensures.items,
)

pub drop_sounds-loop-sound-preserved : goal.drop_sounds-loop-sound-preserved
drop_sounds-loop-sound-preserved t c =
    last_spent c.args.table.now c.loop-sound.table c.args.sounds.items c.loop-sound.sounds.items c.pop.new.self.items c.in-Some.sound c.requires c.loop-sound.invariant c.in-Some.ensures.items
    c.drop_sound.new.table c.drop_sound.ensures
