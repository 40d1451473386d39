use Rattle.std.proofs.Common.{arith, ◌<◌, ◌++◌, ◌∙◌, ap, map}
use Rattle.ny_heap.specs.declared.sound.Sound.{Sound}
use Rattle.ny_heap.specs.Work.{flat}
use Rattle.ny_heap.specs.Tasks.{lists_of, waits_of_task}
use Rattle.ny_heap.proofs.RoomLemmas.{IsTable-grown}
use Rattle.ny_heap.proofs.SpentLemmas.{cursors_in}
use Rattle.ny_heap.proofs.GainLemmas.{left_taken, left_spent, taken_out, lost, lost_here, gained}
use Rattle.ny_heap.proofs.adding.make_unit.Goals as goal

pub drop_all-requires : goal.drop_all-requires
drop_all-requires g c = taken_out c.args.table.now c.args.sounds.items (waits_of_task c.args.task) (lists_of c.waits_of.result.items) c.waits_of.ensures c.requires.table

pub returns-then-timing-eq0-clause-made : goal.returns-then-timing-eq0-clause-made
returns-then-timing-eq0-clause-made g c =
    (c.if-timing-eq0.true, lost_here c.args.table.now c.drop_all.new.table c.args.sounds.items (waits_of_task c.args.task) (lists_of c.waits_of.result.items) c.requires.table c.waits_of.ensures c.drop_all.ensures)

pub drop_all-requires-in-Err : goal.drop_all-requires-in-Err
drop_all-requires-in-Err g c =
    taken_out c.prepare.new.table c.args.sounds.items (waits_of_task c.args.task) (lists_of c.waits_of-in-Err.result.items) c.waits_of-in-Err.ensures
    (IsTable-grown c.args.table.now c.prepare.new.table c.prepare.ensures.grows (cursors_in (c.args.sounds.items ++ flat (waits_of_task c.args.task))) c.requires.table)

pub drop_unused-requires : goal.drop_unused-requires
drop_unused-requires g c =
    left_taken c.prepare.new.table c.args.sounds.items (waits_of_task c.args.task) c.in-Err-begin_work.unused c.in-Err-begin_work.ensures.left
    (IsTable-grown c.args.table.now c.prepare.new.table c.prepare.ensures.grows (cursors_in (c.args.sounds.items ++ flat (waits_of_task c.args.task))) c.requires.table)

pub returns-in-Ok-begin_work-clause-made : goal.returns-in-Ok-begin_work-clause-made
returns-in-Ok-begin_work-clause-made g c =
    let some : 0 < c.args.timing.len = omega (arith, c.if-timing-eq0.false) in (
      some,
      gained c.args.table.now c.prepare.new.table c.add_unit.new.table c.args.task c.args.timing c.args.sounds.items c.in-Ok.inputs c.in-Ok-begin_work.work c.add_unit.result
          c.prepare.ensures.grows (c.in-Ok.ensures.timings ∙ ap (map (λ (s : Sound). s.timing)) c.as_slice.ensures.value) (omega (arith, c.in-Ok.ensures.places, c.waiting_in.ensures))
          c.in-Ok-begin_work.ensures.begins (c.requires.task some) some c.requires.early c.add_unit.ensures.places c.add_unit.ensures.cursor,
    )

pub returns-in-Err-clause-made : goal.returns-in-Err-clause-made
returns-in-Err-clause-made g c =
    lost c.args.table.now c.prepare.new.table c.drop_all-in-Err.new.table c.args.sounds.items (waits_of_task c.args.task) (lists_of c.waits_of-in-Err.result.items) c.prepare.ensures.grows c.waits_of-in-Err.ensures c.drop_all-in-Err.ensures

pub returns-in-Err-begin_work-clause-made : goal.returns-in-Err-begin_work-clause-made
returns-in-Err-begin_work-clause-made g c = record {
  grown = c.prepare.new.table;
  grows = c.prepare.ensures.grows;
  drops = left_spent c.prepare.new.table c.drop_unused.new.table c.args.sounds.items (waits_of_task c.args.task) c.in-Err-begin_work.unused c.in-Err-begin_work.ensures.left c.drop_unused.ensures;
}
