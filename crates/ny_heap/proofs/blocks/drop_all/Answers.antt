use Rattle.ny_heap.specs.Tasks.{lists_of}
use Rattle.ny_heap.proofs.SpentLemmas.{sounds_taken, waits_taken, both_spent}
use Rattle.ny_heap.proofs.blocks.drop_all.Goals as goal

pub drop_sounds-requires : goal.drop_sounds-requires
drop_sounds-requires c = sounds_taken c.args.table.now c.args.sounds.items (lists_of c.args.waits.items) c.requires

pub drop_waits-requires : goal.drop_waits-requires
drop_waits-requires c = waits_taken c.args.table.now c.args.sounds.items (lists_of c.args.waits.items) c.requires c.drop_sounds.new.table c.drop_sounds.ensures

pub returns : goal.returns
returns c = both_spent c.args.table.now c.args.sounds.items (lists_of c.args.waits.items) c.requires c.drop_sounds.new.table c.drop_waits.new.table c.drop_sounds.ensures c.drop_waits.ensures
