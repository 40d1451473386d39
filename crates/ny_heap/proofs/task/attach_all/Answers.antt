use Rattle.std.proofs.Common.{rules}
use Rattle.ny_heap.proofs.PartLemmas.{attaching_begun, attaching_room, attaching_more, attached}
use Rattle.ny_heap.proofs.task.attach_all.Goals as goal

pub loop-sound-init : goal.loop-sound-init
loop-sound-init c = attaching_begun c.args.mix.now c.args.sounds.items _ (search rules)

pub attach_sound-requires : goal.attach_sound-requires
attach_sound-requires c = record {
  room = attaching_room c.args.mix.now c.loop-sound.mix c.args.sounds.items c.loop-sound.queue.items c.loop-sound.invariant c.in-Some.sound c.pop_front.new.self.items c.in-Some.ensures.items c.requires.room;
}

pub loop-sound-preserved : goal.loop-sound-preserved
loop-sound-preserved c =
    attaching_more c.args.mix.now c.loop-sound.mix c.args.sounds.items c.loop-sound.queue.items c.loop-sound.invariant c.in-Some.sound c.pop_front.new.self.items c.attach_sound.new.mix c.in-Some.ensures.items c.attach_sound.ensures

pub returns : goal.returns
returns c = attached c.args.mix.now c.loop-sound.mix c.args.sounds.items c.loop-sound.queue.items c.loop-sound.invariant (search rules)
