use Rattle.std.proofs.Common.{true, ap, sym}
use Rattle.ny_heap.specs.Heap.{HeapState}
use Rattle.ny_hands.specs.declared.branch.Branch.{Branch}
use Rattle.ny_hands.proofs.OptionLemmas.{some_and}
use Rattle.ny_eval.proofs.DrivenLemmas.{turn_of, underway_none, same_size, still_open, still_settled, next_asks, underway_more, less_missing, stops_below, stops_here, filled_size, filled_there, filled_ready, ends, lacks_here}
use Rattle.ny_eval.proofs.walk.+drive_within.Goals as goal

pub loop-v-init : goal.loop-v-init
loop-v-init t c =
    underway_none c.args.p.now c.program_laws.ensures.ordered c.program_laws.ensures.free c.height_law.ensures.tall c.args.heap.now c.args.u.0.0 c.requires.laws c.requires.settled

pub want_from-requires : goal.want_from-requires
want_from-requires t c =
    let x = some_and _ _ c.requires.open in
    record { «open» = still_open c.args.p.now c.program_laws.ensures.ordered c.program_laws.ensures.free c.height_law.ensures.tall c.args.heap.now c.args.u.0.0 c.requires.laws x.0 x.1 c.loop-v.heap c.loop-v.place c.loop-v.invariant x.2; before = c.loop-v.invariant.none }

pub drive_within-requires : goal.drive_within-requires
drive_within-requires t c =
    let x = some_and _ _ c.requires.open in
    let asks = next_asks c.args.p.now c.program_laws.ensures.ordered c.program_laws.ensures.free c.height_law.ensures.tall c.args.heap.now c.args.u.0.0 c.requires.laws x.0 x.1 c.loop-v.heap c.loop-v.place c.loop-v.invariant c.in-Some.v.unit.0.0 (sym c.in-Some.ensures.first) t c.decreases c.requires.ready in
    (asks.0, (asks.1, (asks.2, (asks.3, asks.4))))

pub loop-v-smaller : goal.loop-v-smaller
loop-v-smaller t c =
    let x = some_and _ _ c.requires.open in
    less_missing c.args.p.now c.program_laws.ensures.ordered c.program_laws.ensures.free c.height_law.ensures.tall c.args.heap.now c.args.u.0.0 c.requires.laws x.0 x.1 c.loop-v.heap c.loop-v.place c.loop-v.invariant c.in-Some.v.unit.0.0 (sym c.in-Some.ensures.first) c.drive_within.new.heap c.in-Ok.ensures.driven

pub loop-v-preserved : goal.loop-v-preserved
loop-v-preserved t c =
    let x = some_and _ _ c.requires.open in
    underway_more c.args.p.now c.program_laws.ensures.ordered c.program_laws.ensures.free c.height_law.ensures.tall c.args.heap.now c.args.u.0.0 c.requires.laws x.0 x.1 c.loop-v.heap c.loop-v.place c.loop-v.invariant c.in-Some.v.unit.0.0 (sym c.in-Some.ensures.first) c.drive_within.new.heap c.in-Ok.ensures.driven c.in-Some.v.place c.in-Some.ensures.before

pub returns-in-Err-clause-driven : goal.returns-in-Err-clause-driven
returns-in-Err-clause-driven t c =
    let x = some_and _ _ c.requires.open in
    stops_below c.args.p.now c.program_laws.ensures.ordered c.program_laws.ensures.free c.height_law.ensures.tall c.args.heap.now c.args.u.0.0 c.requires.laws x.0 x.1 c.loop-v.heap c.loop-v.place c.loop-v.invariant c.in-Some.v.unit.0.0 (sym c.in-Some.ensures.first) c.drive_within.new.heap c.in-Err.fault c.in-Err.ensures.driven

pub returns-in-Err-clause-size : goal.returns-in-Err-clause-size
returns-in-Err-clause-size t c =
    let x = some_and _ _ c.requires.open in
    same_size c.args.p.now c.program_laws.ensures.ordered c.program_laws.ensures.free c.height_law.ensures.tall c.args.heap.now c.args.u.0.0 c.requires.laws x.0 x.1 c.loop-v.heap c.loop-v.place c.loop-v.invariant c.drive_within.new.heap c.in-Err.ensures.size

pub fill-requires-clause-open : goal.fill-requires-clause-open
fill-requires-clause-open t c =
    let x = some_and _ _ c.requires.open in
    still_open c.args.p.now c.program_laws.ensures.ordered c.program_laws.ensures.free c.height_law.ensures.tall c.args.heap.now c.args.u.0.0 c.requires.laws x.0 x.1 c.loop-v.heap c.loop-v.place c.loop-v.invariant x.2

pub fill-requires-clause-settled : goal.fill-requires-clause-settled
fill-requires-clause-settled t c =
    let x = some_and _ _ c.requires.open in
    still_settled c.args.p.now c.program_laws.ensures.ordered c.program_laws.ensures.free c.height_law.ensures.tall c.args.heap.now c.args.u.0.0 c.requires.laws x.0 x.1 c.loop-v.heap c.loop-v.place c.loop-v.invariant

pub reveal_due-requires-clause-there : goal.reveal_due-requires-clause-there
reveal_due-requires-clause-there t c =
    let x = some_and _ _ c.requires.open in
    filled_there c.args.p.now c.program_laws.ensures.ordered c.program_laws.ensures.free c.height_law.ensures.tall c.args.heap.now c.args.u.0.0 c.requires.laws x.0 x.1 c.loop-v.heap c.loop-v.place c.loop-v.invariant c.fill.new.self (turn_of c.loop-v.heap c.fill.new.self c.args.u.0.0 (sym c.in_default.ensures.first) c.in-Ok-fill.ensures.full.1 c.in-Ok-fill.ensures.fills c.in-Ok-fill.ensures.laws c.in-Ok-fill.ensures.keeps) c.requires.settled

pub reveal_due-requires-clause-ready : goal.reveal_due-requires-clause-ready
reveal_due-requires-clause-ready t c =
    let x = some_and _ _ c.requires.open in
    filled_ready c.args.p.now c.program_laws.ensures.ordered c.program_laws.ensures.free c.height_law.ensures.tall c.args.heap.now c.args.u.0.0 c.requires.laws x.0 x.1 c.loop-v.heap c.loop-v.place c.loop-v.invariant c.fill.new.self (turn_of c.loop-v.heap c.fill.new.self c.args.u.0.0 (sym c.in_default.ensures.first) c.in-Ok-fill.ensures.full.1 c.in-Ok-fill.ensures.fills c.in-Ok-fill.ensures.laws c.in-Ok-fill.ensures.keeps) c.requires.settled c.requires.ready

pub returns-in-Ok-reveal_due-clause-driven : goal.returns-in-Ok-reveal_due-clause-driven
returns-in-Ok-reveal_due-clause-driven t c =
    let x = some_and _ _ c.requires.open in
    ends c.args.p.now c.program_laws.ensures.ordered c.program_laws.ensures.free c.height_law.ensures.tall c.args.heap.now c.args.u.0.0 c.requires.laws x.0 x.1 c.loop-v.heap c.loop-v.place c.loop-v.invariant c.fill.new.self (turn_of c.loop-v.heap c.fill.new.self c.args.u.0.0 (sym c.in_default.ensures.first) c.in-Ok-fill.ensures.full.1 c.in-Ok-fill.ensures.fills c.in-Ok-fill.ensures.laws c.in-Ok-fill.ensures.keeps) c.reveal_due.new.heap c.in-Ok-reveal_due.ensures.reveals

pub returns-in-Ok-reveal_due-clause-size : goal.returns-in-Ok-reveal_due-clause-size
returns-in-Ok-reveal_due-clause-size t c =
    let x = some_and _ _ c.requires.open in
    filled_size c.args.p.now c.program_laws.ensures.ordered c.program_laws.ensures.free c.height_law.ensures.tall c.args.heap.now c.args.u.0.0 c.requires.laws x.0 x.1 c.loop-v.heap c.loop-v.place c.loop-v.invariant c.fill.new.self (turn_of c.loop-v.heap c.fill.new.self c.args.u.0.0 (sym c.in_default.ensures.first) c.in-Ok-fill.ensures.full.1 c.in-Ok-fill.ensures.fills c.in-Ok-fill.ensures.laws c.in-Ok-fill.ensures.keeps) c.reveal_due.new.heap c.reveal_due.ensures.size

pub returns-in-Err-reveal_due-clause-driven : goal.returns-in-Err-reveal_due-clause-driven
returns-in-Err-reveal_due-clause-driven t c =
    let x = some_and _ _ c.requires.open in
    lacks_here c.args.p.now c.program_laws.ensures.ordered c.program_laws.ensures.free c.height_law.ensures.tall c.args.heap.now c.args.u.0.0 c.requires.laws x.0 x.1 c.loop-v.heap c.loop-v.place c.loop-v.invariant c.fill.new.self (turn_of c.loop-v.heap c.fill.new.self c.args.u.0.0 (sym c.in_default.ensures.first) c.in-Ok-fill.ensures.full.1 c.in-Ok-fill.ensures.fills c.in-Ok-fill.ensures.laws c.in-Ok-fill.ensures.keeps) c.in-Err-reveal_due.ensures.lacks

pub returns-in-Err-reveal_due-clause-size : goal.returns-in-Err-reveal_due-clause-size
returns-in-Err-reveal_due-clause-size t c =
    let x = some_and _ _ c.requires.open in
    filled_size c.args.p.now c.program_laws.ensures.ordered c.program_laws.ensures.free c.height_law.ensures.tall c.args.heap.now c.args.u.0.0 c.requires.laws x.0 x.1 c.loop-v.heap c.loop-v.place c.loop-v.invariant c.fill.new.self (turn_of c.loop-v.heap c.fill.new.self c.args.u.0.0 (sym c.in_default.ensures.first) c.in-Ok-fill.ensures.full.1 c.in-Ok-fill.ensures.fills c.in-Ok-fill.ensures.laws c.in-Ok-fill.ensures.keeps) c.reveal_due.new.heap c.reveal_due.ensures.size

pub returns-in-Err-fill-clause-driven : goal.returns-in-Err-fill-clause-driven
returns-in-Err-fill-clause-driven t c =
    let x = some_and _ _ c.requires.open in
    stops_here c.args.p.now c.program_laws.ensures.ordered c.program_laws.ensures.free c.height_law.ensures.tall c.args.heap.now c.args.u.0.0 c.requires.laws x.0 x.1 c.loop-v.heap c.loop-v.place c.loop-v.invariant c.fill.new.self (sym c.in_default.ensures.first) (c.in-Err-fill.ensures.full.0 (λ i. true)) c.in-Err-fill.ensures.nothing

pub returns-in-Err-fill-clause-size : goal.returns-in-Err-fill-clause-size
returns-in-Err-fill-clause-size t c =
    let x = some_and _ _ c.requires.open in
    same_size c.args.p.now c.program_laws.ensures.ordered c.program_laws.ensures.free c.height_law.ensures.tall c.args.heap.now c.args.u.0.0 c.requires.laws x.0 x.1 c.loop-v.heap c.loop-v.place c.loop-v.invariant c.fill.new.self (ap (λ (h : HeapState Branch). h.pool) c.in-Err-fill.ensures.nothing, ap (λ (h : HeapState Branch). h.block) c.in-Err-fill.ensures.nothing)
