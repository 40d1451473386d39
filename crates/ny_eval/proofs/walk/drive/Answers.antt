use Rattle.std.proofs.Common.{refl, sym, subst, IsSome}
use Rattle.ny_hands.proofs.OptionLemmas.{some_and}
use Rattle.ny_eval.proofs.DrivenLemmas.{tell_walks, tell_walked, tell_hears, tell_ready, tell_stops, tell_stopped, tell_heard, tell_still, tell_full, tell_lacks, tell_enough, tell_quiet, tell_exact}
use Rattle.ny_eval.proofs.walk.drive.Goals as goal

pub returns-clause-walks : goal.returns-clause-walks
returns-clause-walks c =
    let x = some_and _ _ c.requires.open in
    tell_walks c.args.p.now c.program_laws.ensures.ordered c.program_laws.ensures.free c.height_law.ensures.tall c.args.heap.now c.drive_within.new.heap c.args.u.0.0 (subst IsSome (sym x.1) refl) c.requires.laws c.requires.settled c.drive_within.result c.drive_within.ensures.driven

pub returns-clause-walked : goal.returns-clause-walked
returns-clause-walked c =
    let x = some_and _ _ c.requires.open in
    tell_walked c.args.p.now c.program_laws.ensures.ordered c.program_laws.ensures.free c.height_law.ensures.tall c.args.heap.now c.drive_within.new.heap c.args.u.0.0 (subst IsSome (sym x.1) refl) c.requires.laws c.requires.settled c.drive_within.result c.drive_within.ensures.driven

pub returns-clause-hears : goal.returns-clause-hears
returns-clause-hears c =
    let x = some_and _ _ c.requires.open in
    tell_hears c.args.p.now c.program_laws.ensures.ordered c.program_laws.ensures.free c.height_law.ensures.tall c.args.heap.now c.drive_within.new.heap c.args.u.0.0 (subst IsSome (sym x.1) refl) c.requires.laws c.requires.settled c.drive_within.result c.drive_within.ensures.driven

pub returns-clause-ready : goal.returns-clause-ready
returns-clause-ready c =
    let x = some_and _ _ c.requires.open in
    tell_ready c.args.p.now c.program_laws.ensures.ordered c.program_laws.ensures.free c.height_law.ensures.tall c.args.heap.now c.drive_within.new.heap c.args.u.0.0 (subst IsSome (sym x.1) refl) c.requires.laws c.requires.settled c.drive_within.result c.drive_within.ensures.driven c.requires.ready

pub returns-clause-stops : goal.returns-clause-stops
returns-clause-stops c =
    let x = some_and _ _ c.requires.open in
    tell_stops c.args.p.now c.program_laws.ensures.ordered c.program_laws.ensures.free c.height_law.ensures.tall c.args.heap.now c.drive_within.new.heap c.args.u.0.0 (subst IsSome (sym x.1) refl) c.requires.laws c.requires.settled c.drive_within.result c.drive_within.ensures.driven

pub returns-clause-stopped : goal.returns-clause-stopped
returns-clause-stopped c =
    let x = some_and _ _ c.requires.open in
    tell_stopped c.args.p.now c.program_laws.ensures.ordered c.program_laws.ensures.free c.height_law.ensures.tall c.args.heap.now c.drive_within.new.heap c.args.u.0.0 (subst IsSome (sym x.1) refl) c.requires.laws c.requires.settled c.drive_within.result c.drive_within.ensures.driven

pub returns-clause-heard : goal.returns-clause-heard
returns-clause-heard c =
    let x = some_and _ _ c.requires.open in
    tell_heard c.args.p.now c.program_laws.ensures.ordered c.program_laws.ensures.free c.height_law.ensures.tall c.args.heap.now c.drive_within.new.heap c.args.u.0.0 (subst IsSome (sym x.1) refl) c.requires.laws c.requires.settled c.drive_within.result c.drive_within.ensures.driven

pub returns-clause-ready_still : goal.returns-clause-ready_still
returns-clause-ready_still c =
    let x = some_and _ _ c.requires.open in
    tell_still c.args.p.now c.program_laws.ensures.ordered c.program_laws.ensures.free c.height_law.ensures.tall c.args.heap.now c.drive_within.new.heap c.args.u.0.0 (subst IsSome (sym x.1) refl) c.requires.laws c.requires.settled c.drive_within.result c.drive_within.ensures.driven c.requires.ready

pub returns-clause-full : goal.returns-clause-full
returns-clause-full c =
    let x = some_and _ _ c.requires.open in
    tell_full c.args.p.now c.program_laws.ensures.ordered c.program_laws.ensures.free c.height_law.ensures.tall c.args.heap.now c.drive_within.new.heap c.args.u.0.0 (subst IsSome (sym x.1) refl) c.requires.laws c.requires.settled c.drive_within.result c.drive_within.ensures.driven

pub returns-clause-lacks : goal.returns-clause-lacks
returns-clause-lacks c =
    let x = some_and _ _ c.requires.open in
    tell_lacks c.args.p.now c.program_laws.ensures.ordered c.program_laws.ensures.free c.height_law.ensures.tall c.args.heap.now c.drive_within.new.heap c.args.u.0.0 (subst IsSome (sym x.1) refl) c.requires.laws c.requires.settled c.drive_within.result c.drive_within.ensures.driven

pub returns-clause-enough : goal.returns-clause-enough
returns-clause-enough c =
    let x = some_and _ _ c.requires.open in
    tell_enough c.args.p.now c.program_laws.ensures.ordered c.program_laws.ensures.free c.height_law.ensures.tall c.args.heap.now c.drive_within.new.heap c.args.u.0.0 (subst IsSome (sym x.1) refl) c.requires.laws c.requires.settled c.drive_within.result c.drive_within.ensures.driven

pub returns-clause-quiet : goal.returns-clause-quiet
returns-clause-quiet c =
    let x = some_and _ _ c.requires.open in
    tell_quiet c.args.p.now c.program_laws.ensures.ordered c.program_laws.ensures.free c.height_law.ensures.tall c.args.heap.now c.drive_within.new.heap c.args.u.0.0 (subst IsSome (sym x.1) refl) c.requires.laws c.requires.settled c.drive_within.result c.drive_within.ensures.driven

pub returns-clause-exact : goal.returns-clause-exact
returns-clause-exact c =
    let x = some_and _ _ c.requires.open in
    tell_exact c.args.p.now c.program_laws.ensures.ordered c.program_laws.ensures.free c.height_law.ensures.tall c.args.heap.now c.drive_within.new.heap c.args.u.0.0 (subst IsSome (sym x.1) refl) c.requires.laws c.requires.settled c.drive_within.result c.drive_within.ensures.driven
