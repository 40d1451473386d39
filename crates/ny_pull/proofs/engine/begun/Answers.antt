use Rattle.std.proofs.Common.{◌≡◌, ◌∷◌, List, Option, length, sym, ap, subst, arith}
use Rattle.ny_heap.specs.declared.sound.Sound.{Sound}
use Rattle.ny_hands.proofs.HeapLemmas.{counts_more}
use Rattle.ny_pull.specs.Places.{HaveBegun}
use Rattle.ny_pull.proofs.BegunLemmas.{begun_held, begun_more, begun_counts}
use Rattle.ny_pull.proofs.engine.begun.Goals as goal

pub left-requires-clause-held : goal.left-requires-clause-held
left-requires-clause-held c =
    begun_held c.args.p.now c.args.rate c.args.sounds.items c.loop-sound.channels.items c.in-Some.sound c.pop_front.new.self.items c.loop-sound.heap (subst (λ (ss : List Sound). HaveBegun c.args.p.now c.args.rate c.args.sounds.items c.loop-sound.channels.items ss c.loop-sound.heap) c.in-Some.ensures.items c.loop-sound.invariant.begun)

pub loop-sound-preserved : goal.loop-sound-preserved
loop-sound-preserved c =
    let rest : c.loop-sound.rest.items ≡ c.in-Some.sound ∷ c.pop_front.new.self.items = c.in-Some.ensures.items in
    let so = subst (λ (ss : List Sound). HaveBegun c.args.p.now c.args.rate c.args.sounds.items c.loop-sound.channels.items ss c.loop-sound.heap) rest c.loop-sound.invariant.begun in
    record {
      begun = subst (λ (os : List (Option Sound)). HaveBegun c.args.p.now c.args.rate c.args.sounds.items os c.pop_front.new.self.items c.left.new.heap) (sym c.push_reserved.ensures.items)
          (begun_more c.args.p.now c.args.rate c.args.sounds.items c.loop-sound.channels.items c.in-Some.sound c.pop_front.new.self.items c.loop-sound.heap so c.left.new.heap c.left.result c.left.ensures.left c.left.ensures.laws c.left.ensures.keeps);
      laws = c.left.ensures.laws;
      counts = counts_more c.args.heap.now c.loop-sound.heap c.left.new.heap c.loop-sound.invariant.counts (begun_counts c.args.p.now c.args.rate c.args.sounds.items c.loop-sound.channels.items c.in-Some.sound c.pop_front.new.self.items c.loop-sound.heap so c.left.new.heap c.left.result c.left.ensures.left);
      room = omega (arith, c.push_reserved.ensures.len, c.push_reserved.ensures.capacity, ap length rest, c.loop-sound.invariant.room);
    }
