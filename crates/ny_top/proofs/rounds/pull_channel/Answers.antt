use Rattle.std.proofs.Common.{◌≡◌, suc, ◌+◌, ◌-◌, length, subst, refl, ◌∙◌, arith}
use Rattle.ny_pull.specs.Engine.{next_block}
use Rattle.ny_top.specs.Rounds.{IsUnderway}
use Rattle.ny_top.proofs.PullLemmas.{underway_more, turn_more, silenced, block_heard, next_fits, no_answer, spent_after, short_of}
use Rattle.ny_top.proofs.rounds.pull_channel.Goals as goal

pub returns-in-Ok-clause-underway : goal.returns-in-Ok-clause-underway
returns-in-Ok-clause-underway c = λ rounds under.
    let more = underway_more rounds c.args.c c.args.engine.now under c.requires.channel c.pull.new.self c.in-Ok.count c.in-Ok.ensures.count c.in-Ok.ensures.pulled c.in-Ok.ensures.same c.in-Ok.ensures.unspent.1 c.in-Ok.ensures.laws (c.in-Ok.ensures.follows c.in-Ok.ensures.unspent.1) in
    subst (λ k. IsUnderway rounds k c.pull.new.self) (let e : suc c.args.c ≡ c.args.c + 1 = omega arith in e) more

pub returns-in-Ok-clause-turn : goal.returns-in-Ok-clause-turn
returns-in-Ok-clause-turn c = λ rounds n under at.
    turn_more rounds c.args.c c.args.engine.now under c.requires.channel n at c.pull.new.self c.in-Ok.count c.in-Ok.ensures.count c.in-Ok.ensures.pulled c.in-Ok.ensures.same c.in-Ok.ensures.order

pub returns-in-Ok-clause-samples : goal.returns-in-Ok-clause-samples
returns-in-Ok-clause-samples c = λ rounds under n less.
    silenced (next_block c.args.engine.now c.args.c) c.args.out.now c.pull.new.out c.silence.new.out c.in-Ok.count (length c.pull.new.out - c.in-Ok.count) n c.in-Ok.ensures.count refl (omega (arith, c.in-Ok.ensures.count, next_fits c.args.engine.now c.args.c, c.pull.auto.out, c.requires.room)) c.pull.auto.out c.in-Ok.ensures.samples c.silence.ensures
    ∙ block_heard rounds c.args.c c.args.engine.now under c.requires.channel n less

pub returns-in-Err-PoolFull-clause-fault : goal.returns-in-Err-PoolFull-clause-fault
returns-in-Err-PoolFull-clause-fault c = λ rounds n under at.
    spent_after rounds c.args.c c.args.engine.now c.pull.new.self c.in-Err-PoolFull.field-0 c.in-Err-PoolFull.pulls c.in-Err-PoolFull.field-0-1 under c.requires.channel (λ ended. no_answer c.in-Err-PoolFull.field-0 0 (c.in-Err-PoolFull.ensures.ended under.unspent ended).0) c.in-Err-PoolFull.field-0-is c.in-Err-PoolFull.ensures.full c.in-Err-PoolFull.ensures.spent c.in-Err-PoolFull.ensures.nothing.1 c.in-Err-PoolFull.ensures.same c.in-Err-PoolFull.ensures.laws c.in-Err-PoolFull.ensures.stops n at c.in-Err-PoolFull.ensures.first

pub returns-in-Err-OutOfMemory-clause-fault : goal.returns-in-Err-OutOfMemory-clause-fault
returns-in-Err-OutOfMemory-clause-fault c = λ rounds n under at.
    short_of rounds c.args.c c.args.engine.now c.pull.new.self c.in-Err-OutOfMemory.field-0 under c.requires.channel (λ ended. no_answer c.in-Err-OutOfMemory.field-0 0 (c.in-Err-OutOfMemory.ensures.ended under.unspent ended).0) c.in-Err-OutOfMemory.field-0-is c.in-Err-OutOfMemory.ensures.waits c.in-Err-OutOfMemory.ensures.lacks c.in-Err-OutOfMemory.ensures.spent c.in-Err-OutOfMemory.ensures.nothing.1 c.in-Err-OutOfMemory.ensures.same
