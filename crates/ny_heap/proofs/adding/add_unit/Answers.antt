use Rattle.std.proofs.Common.{refl}
use Rattle.ny_heap.proofs.AddLemmas.{placed}
use Rattle.ny_heap.proofs.adding.add_unit.Goals as goal

pub returns-clause-places : goal.returns-clause-places
returns-clause-places c =
    placed c.args.table.now c.new_list-list.new.self c.new_list-list.result.0 c.number-n.result c.new_list-list.result.1
    (record { work = c.args.work; timing = c.args.timing; inputs = c.args.inputs; list = c.new_list-list.result.0; pending = 0 })
    c.requires c.new_list-list.ensures.begins c.new_list-list.ensures.laws c.number-n.ensures refl refl
