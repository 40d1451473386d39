use Rattle.std.proofs.Common.{rules, ◌≡◌, [], ap}
use Rattle.ny_heap.specs.Tasks.{lists_of}
use Rattle.ny_heap.proofs.SpentLemmas.{Spending-begun, Spending-next, Spending-more, Spending-done}
use Rattle.ny_heap.proofs.blocks.drop_waits.Goals as goal

pub loop-sounds-init : goal.loop-sounds-init
loop-sounds-init c = Spending-begun c.args.table.now (lists_of c.args.waits.items) (lists_of _) c.requires (ap lists_of (search rules))

pub drop_sounds-requires : goal.drop_sounds-requires
drop_sounds-requires c =
    Spending-next c.args.table.now c.loop-sounds.table (lists_of c.args.waits.items) (lists_of c.loop-sounds.queue.items) c.loop-sounds.invariant c.in-Some.sounds.items (lists_of c.pop_front.new.self.items)
    (ap lists_of c.in-Some.ensures.items)

pub loop-sounds-preserved : goal.loop-sounds-preserved
loop-sounds-preserved c =
    Spending-more c.args.table.now c.loop-sounds.table (lists_of c.args.waits.items) (lists_of c.loop-sounds.queue.items) c.loop-sounds.invariant c.in-Some.sounds.items (lists_of c.pop_front.new.self.items)
    (ap lists_of c.in-Some.ensures.items) c.drop_sounds.new.table c.drop_sounds.ensures

pub returns : goal.returns
returns c =
    let none : c.loop-sounds.queue.items ≡ [] = search rules in
    Spending-done c.args.table.now c.loop-sounds.table (lists_of c.args.waits.items) (lists_of c.loop-sounds.queue.items) c.loop-sounds.invariant (ap lists_of none)
