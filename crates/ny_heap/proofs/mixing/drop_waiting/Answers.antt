use Rattle.std.proofs.Common.{rules, ◌≡◌, [], ap}
use Rattle.ny_heap.specs.Mixing.{kept_by}
use Rattle.ny_heap.proofs.SpentLemmas.{Spending-begun, Spending-next, Spending-more, Spending-done}
use Rattle.ny_heap.proofs.mixing.drop_waiting.Goals as goal

pub loop-part-init : goal.loop-part-init
loop-part-init g c = Spending-begun c.args.table.now (kept_by c.args.waiting.items) (kept_by _) c.requires (ap kept_by (search rules))

pub drop_sounds-requires : goal.drop_sounds-requires
drop_sounds-requires g c =
    Spending-next c.args.table.now c.loop-part.table (kept_by c.args.waiting.items) (kept_by c.loop-part.queue.items) c.loop-part.invariant c.in-Some.part.1.items (kept_by c.pop_front.new.self.items)
    (ap kept_by c.in-Some.ensures.items)

pub loop-part-preserved : goal.loop-part-preserved
loop-part-preserved g c =
    Spending-more c.args.table.now c.loop-part.table (kept_by c.args.waiting.items) (kept_by c.loop-part.queue.items) c.loop-part.invariant c.in-Some.part.1.items (kept_by c.pop_front.new.self.items)
    (ap kept_by c.in-Some.ensures.items) c.drop_sounds.new.table c.drop_sounds.ensures

pub returns : goal.returns
returns g c =
    let none : c.loop-part.queue.items ≡ [] = search rules in
    Spending-done c.args.table.now c.loop-part.table (kept_by c.args.waiting.items) (kept_by c.loop-part.queue.items) c.loop-part.invariant (ap kept_by none)
