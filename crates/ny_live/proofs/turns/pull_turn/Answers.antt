use Rattle.std.proofs.Common.{refl, arith}
use Rattle.ny_live.proofs.ToldLemmas.{no_answer, ok_on, if_err_on, turn_is_over, turn_is_told, line_ends, turn_ends_full, printed_before}
use Rattle.ny_live.proofs.turns.pull_turn.Goals as goal

pub returns-in-Ok-eq0-clause-told : goal.returns-in-Ok-eq0-clause-told
returns-in-Ok-eq0-clause-told g c = λ turns rest n start old is.
    let now = g.H.Host.state c.args.host.now in
    let p = c.in-Ok-eq0.ensures in
    turn_is_over c.args.kinds turns rest c.args.c n start c.args.engine.now c.pull.new.self old now now is c.requires.ready c.requires.channel p.same c.in-Ok-eq0.field-0 p.count p.pulled p.order (omega (arith, c.in-Ok-eq0.field-0-test)) refl

pub returns-in-Ok-clause-told : goal.returns-in-Ok-clause-told
returns-in-Ok-clause-told g c = λ turns rest n start old is.
    let p = c.in-Ok.ensures in
    ok_on c.tell_pull.result _ _
    (λ printed. turn_is_told c.args.kinds turns rest c.args.c n start c.args.engine.now c.pull.new.self old (g.H.Host.state c.args.host.now) (g.H.Host.state c.tell_pull.new.host) is c.requires.ready c.requires.channel p.same c.in-Ok.field-0 p.count p.pulled p.order (omega (arith, c.in-Ok.field-0-test)) printed)
    c.tell_pull.ensures.told

pub returns-in-Ok-clause-fault : goal.returns-in-Ok-clause-fault
returns-in-Ok-clause-fault g c = λ turns rest n start old fell is.
    let p = c.in-Ok.ensures in
    if_err_on c.tell_pull.result _ _
    (line_ends c.args.kinds turns rest c.args.c n start c.args.engine.now c.pull.new.self old (g.H.Host.state c.args.host.now) (g.H.Host.state c.tell_pull.new.host) is c.requires.ready c.requires.channel p.same c.in-Ok.field-0 p.count p.pulled p.order (omega (arith, c.in-Ok.field-0-test)) fell)
    c.tell_pull.ensures.fault

pub returns-in-Err-PoolFull-clause-fault : goal.returns-in-Err-PoolFull-clause-fault
returns-in-Err-PoolFull-clause-fault g c = λ turns rest n start old fell is.
    let p = c.in-Err-PoolFull.ensures in
    let now = g.H.Host.state c.args.host.now in
    rw c.in-Err-PoolFull.field-0-is
    (turn_ends_full c.args.kinds turns rest c.args.c n start c.args.engine.now c.pull.new.self old now now is c.requires.ready c.requires.channel p.same c.in-Err-PoolFull.field-0 c.in-Err-PoolFull.pulls c.in-Err-PoolFull.field-0-1 c.in-Err-PoolFull.field-0-is p.full
    (λ ended. no_answer c.in-Err-PoolFull.field-0 0 (p.ended c.requires.ready.unspent ended).0) p.nothing.1 p.first refl fell)

pub returns-in-Err-OutOfMemory-clause-fault : goal.returns-in-Err-OutOfMemory-clause-fault
returns-in-Err-OutOfMemory-clause-fault g c = λ turns rest n start old fell is.
    let p = c.in-Err-OutOfMemory.ensures in
    let now = g.H.Host.state c.args.host.now in
    ((_, printed_before c.args.kinds turns rest c.args.c n start c.args.engine.now old now is c.requires.ready c.requires.channel (λ ended. no_answer c.in-Err-OutOfMemory.field-0 0 (p.ended c.requires.ready.unspent ended).0) now refl), fell)
