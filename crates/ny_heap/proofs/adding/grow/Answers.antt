use Rattle.ny_heap.proofs.RoomLemmas.{More-one}
use Rattle.ny_heap.proofs.adding.grow.Goals as goal

pub loop-units-preserved : goal.loop-units-preserved
loop-units-preserved c = More-one c.args.units.now.items c.loop-units.units.items c.push.new.self.items c.loop-units.invariant c.in_ok-push.ensures.items
