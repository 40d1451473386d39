use Rattle.std.proofs.Common.{rules, ◌≡◌, ◌+◌, IfOk, sym, subst}
use Rattle.ny_heap.specs.Steps.{AreHeld}
use Rattle.ny_hands.specs.Calls.{ReleasesAll}
use Rattle.ny_hands.specs.Frames.{Names, AllHeld, sounds_among}
use Rattle.ny_trace.specs.Evaluates.{NextTurn, Evaluates}
use Rattle.ny_eval.proofs.DuePartLemmas.{framed_as, part_names, part_held, part_size, part_due}
use Rattle.ny_eval.proofs.reveal.due_part.Goals as goal

pub part_behind-part-requires-clause-names : goal.part_behind-part-requires-clause-names
part_behind-part-requires-clause-names c =
    let framed = framed_as c.framed-names.result.items c.args.captured.items c.from.result.items c.args.branch.names c.as_slice.result.now c.framed-names.ensures.framed (search rules) (search rules) in
    let same : c.as_slice-2.result.now ≡ c.framed-names.result.items = search rules in
    subst (λ (ns : Names). AllHeld c.args.heap.now ns) (sym same) (part_names c.args.branch c.args.captured.items c.framed-names.result.items framed c.requires.kept c.args.heap.now c.lawful.ensures c.requires.held)

pub give_up_names-requires : goal.give_up_names-requires
give_up_names-requires c =
    let framed = framed_as c.framed-names.result.items c.args.captured.items c.from.result.items c.args.branch.names c.as_slice.result.now c.framed-names.ensures.framed (search rules) (search rules) in
    let same : c.from-2.result.items ≡ c.framed-names.result.items = search rules in
    record { held = subst (λ (ns : Names). AreHeld c.part_behind-part.new.heap (sounds_among ns)) (sym same) (part_held c.args.branch c.args.captured.items c.framed-names.result.items framed c.requires.kept c.args.heap.now c.lawful.ensures c.requires.held c.part_behind-part.new.heap c.part_behind-part.result c.part_behind-part.ensures.hand c.part_behind-part.ensures.refused) }

pub returns-clause-part : goal.returns-clause-part
returns-clause-part c =
    let framed = framed_as c.framed-names.result.items c.args.captured.items c.from.result.items c.args.branch.names c.as_slice.result.now c.framed-names.ensures.framed (search rules) (search rules) in
    let same : c.from-2.result.items ≡ c.framed-names.result.items = search rules in
    let released = subst (λ (ns : Names). ReleasesAll c.part_behind-part.new.heap c.give_up_names.new.heap (sounds_among ns)) same c.give_up_names.ensures.released in
    let same_names : c.as_slice-2.result.now ≡ c.framed-names.result.items = search rules in
    part_due c.args.branch c.args.captured.items c.framed-names.result.items framed c.requires.kept c.args.heap.now c.lawful.ensures c.requires.held c.part_behind-part.new.heap c.part_behind-part.result c.part_behind-part.ensures.hand c.part_behind-part.ensures.refused c.give_up_names.new.heap released c.args.p.now c.args.stop
    (subst (λ (ns : Names). IfOk c.part_behind-part.result (λ s. NextTurn (Evaluates c.args.p.now (c.args.branch.expr.0 + 1)) c.args.branch.env c.args.stop (c.args.branch.expr, ns) c.args.heap.now c.part_behind-part.new.heap s)) same_names c.part_behind-part.ensures.turn)

pub returns-clause-size : goal.returns-clause-size
returns-clause-size c =
    let framed = framed_as c.framed-names.result.items c.args.captured.items c.from.result.items c.args.branch.names c.as_slice.result.now c.framed-names.ensures.framed (search rules) (search rules) in
    let same : c.from-2.result.items ≡ c.framed-names.result.items = search rules in
    let released = subst (λ (ns : Names). ReleasesAll c.part_behind-part.new.heap c.give_up_names.new.heap (sounds_among ns)) same c.give_up_names.ensures.released in
    part_size c.args.branch c.args.captured.items c.framed-names.result.items framed c.requires.kept c.args.heap.now c.lawful.ensures c.requires.held c.part_behind-part.new.heap c.part_behind-part.result c.part_behind-part.ensures.hand c.part_behind-part.ensures.refused c.give_up_names.new.heap released
