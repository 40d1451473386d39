use Rattle.ny_heap.specs.Mixing.{kept_by}
use Rattle.ny_heap.proofs.SpentLemmas.{sounds_taken, waits_taken, both_spent}
use Rattle.ny_heap.proofs.mixing.drop_parts.Goals as goal

pub drop_sounds-requires : goal.drop_sounds-requires
drop_sounds-requires g c = sounds_taken c.args.table.now c.args.sounds.items (kept_by c.args.waiting.items) c.requires

pub drop_waiting-requires : goal.drop_waiting-requires
drop_waiting-requires g c = waits_taken c.args.table.now c.args.sounds.items (kept_by c.args.waiting.items) c.requires c.drop_sounds.new.table c.drop_sounds.ensures

pub returns : goal.returns
returns g c = both_spent c.args.table.now c.args.sounds.items (kept_by c.args.waiting.items) c.requires c.drop_sounds.new.table c.drop_waiting.new.table c.drop_sounds.ensures c.drop_waiting.ensures
