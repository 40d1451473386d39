use Rattle.std.proofs.Common.{◌+◌}
use Rattle.ny_eval.proofs.RevealedLemmas.{room_part, due_given, branch_inside, branch_kept, branch_room, part_turn, can_attach, next_part, part_attached, handed_size, attached_size, size_then}
use Rattle.ny_eval.proofs.reveal.reveal_in.Goals as goal

pub last_stop-stop-requires : goal.last_stop-stop-requires
last_stop-stop-requires c =
    let q = room_part _ c.args.room c.requires.room in
    record { given = due_given c.args.p.now c.args.heap.now c.args.u.0.0 c.requires.ready q.0 q.1 }

pub due_part-requires : goal.due_part-requires
due_part-requires c =
    let q = room_part _ c.args.room c.requires.room in
    record {
      inside = branch_inside c.args.p.now c.args.heap.now c.args.u.0.0 c.requires.ready c.in-Some.handed.0 c.in-Some.handed.1.items c.in-Some.ensures.due;
      kept = branch_kept c.args.p.now c.args.heap.now c.args.u.0.0 c.requires.ready c.in-Some.handed.0 c.in-Some.handed.1.items c.in-Some.ensures.due;
      held = c.in-Some.ensures.sounds;
      none = q.2;
      room = branch_room c.args.p.now c.args.heap.now c.args.u.0.0 c.requires.ready c.in-Some.handed.0 c.in-Some.handed.1.items c.in-Some.ensures.due q.0 _ q.1 q.3;
    }

pub attach-requires-clause-held : goal.attach-requires-clause-held
attach-requires-clause-held c =
    let t = part_turn c.args.p.now c.args.heap.now c.args.u.0.0 c.requires.ready c.in-Some.handed.0 c.in-Some.handed.1.items c.in-Some.ensures.due c.next_due.new.self c.due_part.new.heap c.in_ok-part-in-Some.part c.last_stop-stop.result c.requires.there c.last_stop-stop.ensures c.next_due.ensures.laws c.in-Some.ensures.hands c.in-Some.ensures.sounds c.in-Some.ensures.meaning c.in_ok-part-in-Some.ensures.part in
    (can_attach c.args.p.now c.program_laws.ensures.ordered c.program_laws.ensures.free c.height_law.ensures.tall (c.in-Some.handed.0.expr.0 + 1) c.args.heap.now c.due_part.new.heap c.args.u.0.0 c.in_ok-part-in-Some.part t.0 t.1 c.requires.laws c.requires.ready).held

pub attach-requires-clause-next : goal.attach-requires-clause-next
attach-requires-clause-next c =
    let t = part_turn c.args.p.now c.args.heap.now c.args.u.0.0 c.requires.ready c.in-Some.handed.0 c.in-Some.handed.1.items c.in-Some.ensures.due c.next_due.new.self c.due_part.new.heap c.in_ok-part-in-Some.part c.last_stop-stop.result c.requires.there c.last_stop-stop.ensures c.next_due.ensures.laws c.in-Some.ensures.hands c.in-Some.ensures.sounds c.in-Some.ensures.meaning c.in_ok-part-in-Some.ensures.part in
    next_part c.args.p.now c.program_laws.ensures.ordered c.program_laws.ensures.free c.height_law.ensures.tall (c.in-Some.handed.0.expr.0 + 1) c.args.heap.now c.due_part.new.heap c.args.u.0.0 c.in_ok-part-in-Some.part t.0 t.1 c.requires.laws c.requires.ready

pub returns-in_err-part-in-Some-clause-size : goal.returns-in_err-part-in-Some-clause-size
returns-in_err-part-in-Some-clause-size c = size_then c.args.heap.now c.next_due.new.self c.due_part.new.heap (handed_size c.args.heap.now c.next_due.new.self c.args.u.0.0 c.in-Some.handed.0 c.in-Some.handed.1.items c.in-Some.ensures.hands) c.due_part.ensures.size

pub returns-in_ok-part-in-Some-clause-size : goal.returns-in_ok-part-in-Some-clause-size
returns-in_ok-part-in-Some-clause-size c =
    size_then c.args.heap.now c.due_part.new.heap c.attach.new.self (size_then c.args.heap.now c.next_due.new.self c.due_part.new.heap (handed_size c.args.heap.now c.next_due.new.self c.args.u.0.0 c.in-Some.handed.0 c.in-Some.handed.1.items c.in-Some.ensures.hands) c.due_part.ensures.size)
    (attached_size c.due_part.new.heap c.attach.new.self c.args.u.0.0 c.in_ok-part-in-Some.part c.attach.ensures.attaches)

pub returns-in_ok-part-in-Some-clause-reveals : goal.returns-in_ok-part-in-Some-clause-reveals
returns-in_ok-part-in-Some-clause-reveals c =
    let t = part_turn c.args.p.now c.args.heap.now c.args.u.0.0 c.requires.ready c.in-Some.handed.0 c.in-Some.handed.1.items c.in-Some.ensures.due c.next_due.new.self c.due_part.new.heap c.in_ok-part-in-Some.part c.last_stop-stop.result c.requires.there c.last_stop-stop.ensures c.next_due.ensures.laws c.in-Some.ensures.hands c.in-Some.ensures.sounds c.in-Some.ensures.meaning c.in_ok-part-in-Some.ensures.part in
    part_attached c.args.p.now c.program_laws.ensures.ordered c.program_laws.ensures.free c.height_law.ensures.tall (c.in-Some.handed.0.expr.0 + 1) c.args.heap.now c.due_part.new.heap c.args.u.0.0 c.in_ok-part-in-Some.part t.0 t.1 c.requires.laws c.requires.ready c.attach.new.self c.attach.ensures.laws c.attach.ensures.attaches c.attach.ensures.meaning
