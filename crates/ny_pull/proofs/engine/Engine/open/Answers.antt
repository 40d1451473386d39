use Rattle.std.proofs.Common.{length, None, refl, ap, ◌∙◌, arith}
use Rattle.ny_heap.specs.Heap.{HeapState}
use Rattle.ny_hands.specs.declared.branch.Branch.{Branch}
use Rattle.ny_pull.specs.declared.fault.PullFault.TheVariants.{OutOfMemory}
use Rattle.ny_pull.specs.Inside.{IsEngineInside}
use Rattle.ny_pull.specs.Places.{longest_of}
use Rattle.ny_pull.proofs.EngineLemmas.{none_spent}
use Rattle.ny_pull.proofs.StateLemmas.{means_channels}
use Rattle.ny_pull.proofs.PullLemmas.{follows}
use Rattle.ny_pull.proofs.PulledLemmas.{none_pulled}
use Rattle.ny_pull.proofs.SeatedLemmas.{opened_seated}
use Rattle.ny_pull.proofs.OpenLemmas.{nothing_in, hour_of, count_is, pulled_is, counts_are, begins_inside}
use Rattle.ny_pull.proofs.engine.Engine.open.Goals as goal

pub returns-clause-hour : goal.returns-clause-hour
returns-clause-hour c = hour_of c.args.program c.args.rate _ _ c.in_ok-sounds.ensures.opened

pub returns-clause-begins : goal.returns-clause-begins
returns-clause-begins c =
    let are = c.in_ok-sounds.ensures.opened in
    let begun = c.in_ok-channels.ensures.begun in
    let count = count_is c.args.program c.args.rate _ _ _ _ are begun in
    let few = c.program_laws.ensures.ordered.channels in
    let same = c.meaning_law.ensures.channels c.args.rate in
    let none = counts_are c.args.program c.args.rate _ _ _ _ are begun _ _ (c.in_ok-pulled.ensures.items_if_clones_equal (λ y same. same)) (ap length c.as_slice-2.ensures.value) in
    (count, omega (arith, count, same, few.0), omega (arith, count, same, few.1), none ∙ pulled_is c.args.program c.args.rate _ _ _ _ are begun, refl)

pub invariant_of-result : goal.invariant_of-result
invariant_of-result c =
    let are = c.in_ok-sounds.ensures.opened in
    let begun = c.in_ok-channels.ensures.begun in
    let few = c.program_laws.ensures.ordered.channels in
    let same = c.meaning_law.ensures.channels c.args.rate in
    let none = counts_are c.args.program c.args.rate _ _ _ _ are begun _ _ (c.in_ok-pulled.ensures.items_if_clones_equal (λ y same. same)) (ap length c.as_slice-2.ensures.value) in
    begins_inside c.args.program c.args.rate _ _ _ _ are begun c.in_ok-pulled.pulled.items c.frames_of-frames.result 0 None none (c.frames_of-frames.ensures ∙ ap longest_of c.as_slice.ensures.value) refl refl (omega (arith, same, few.0), omega (arith, same, few.1))

pub returns-clause-means : goal.returns-clause-means
returns-clause-means c =
    let are = c.in_ok-sounds.ensures.opened in
    let begun = c.in_ok-channels.ensures.begun in
    let few = c.program_laws.ensures.ordered.channels in
    let same = c.meaning_law.ensures.channels c.args.rate in
    let none = counts_are c.args.program c.args.rate _ _ _ _ are begun _ _ (c.in_ok-pulled.ensures.items_if_clones_equal (λ y same. same)) (ap length c.as_slice-2.ensures.value) in
    let inside : IsEngineInside c.args.program c.args.rate c.begun.new.heap c.in_ok-channels.channels.items c.in_ok-pulled.pulled.items c.frames_of-frames.result 0 None =
    begins_inside c.args.program c.args.rate _ _ _ _ are begun c.in_ok-pulled.pulled.items c.frames_of-frames.result 0 None none (c.frames_of-frames.ensures ∙ ap longest_of c.as_slice.ensures.value) refl refl (omega (arith, same, few.0), omega (arith, same, few.1)) in
    means_channels _ _ _ _ _ _ _ _ _ refl inside (λ is. none_spent None OutOfMemory refl is)

pub returns-clause-follows : goal.returns-clause-follows
returns-clause-follows c =
    let are = c.in_ok-sounds.ensures.opened in
    let begun = c.in_ok-channels.ensures.begun in
    let few = c.program_laws.ensures.ordered.channels in
    let same = c.meaning_law.ensures.channels c.args.rate in
    let none = counts_are c.args.program c.args.rate _ _ _ _ are begun _ _ (c.in_ok-pulled.ensures.items_if_clones_equal (λ y same. same)) (ap length c.as_slice-2.ensures.value) in
    let inside : IsEngineInside c.args.program c.args.rate c.begun.new.heap c.in_ok-channels.channels.items c.in_ok-pulled.pulled.items c.frames_of-frames.result 0 None =
    begins_inside c.args.program c.args.rate _ _ _ _ are begun c.in_ok-pulled.pulled.items c.frames_of-frames.result 0 None none (c.frames_of-frames.ensures ∙ ap longest_of c.as_slice.ensures.value) refl refl (omega (arith, same, few.0), omega (arith, same, few.1)) in
    follows _ _ _ _ _ _ _ _ inside refl _ refl

pub returns-clause-order : goal.returns-clause-order
returns-clause-order c =
    let are = c.in_ok-sounds.ensures.opened in
    let begun = c.in_ok-channels.ensures.begun in
    let few = c.program_laws.ensures.ordered.channels in
    let same = c.meaning_law.ensures.channels c.args.rate in
    let none = counts_are c.args.program c.args.rate _ _ _ _ are begun _ _ (c.in_ok-pulled.ensures.items_if_clones_equal (λ y same. same)) (ap length c.as_slice-2.ensures.value) in
    let inside : IsEngineInside c.args.program c.args.rate c.begun.new.heap c.in_ok-channels.channels.items c.in_ok-pulled.pulled.items c.frames_of-frames.result 0 None =
    begins_inside c.args.program c.args.rate _ _ _ _ are begun c.in_ok-pulled.pulled.items c.frames_of-frames.result 0 None none (c.frames_of-frames.ensures ∙ ap longest_of c.as_slice.ensures.value) refl refl (omega (arith, same, few.0), omega (arith, same, few.1)) in
    none_pulled _ (returns-clause-follows c) (returns-clause-begins c).3
    (c.in_ok-channels.ensures.counts.peak ∙ c.in_ok-sounds.ensures.counts.peak ∙ ap (λ (h : HeapState Branch). h.peak) c.in_ok-heap.ensures.opened) inside.laws.positive

pub begun-requires-clause-seated : goal.begun-requires-clause-seated
begun-requires-clause-seated c =
    let laws = c.program_laws.ensures in
    opened_seated c.args.program laws.ordered laws.free laws.made c.args.rate _ _ _ (record { laws = c.in_ok-heap.ensures.laws; none = nothing_in c.in_ok-heap.heap (ap (λ (h : HeapState Branch). h.nodes) c.in_ok-heap.ensures.opened) }) c.in_ok-sounds.ensures.traced c.in_ok-sounds.ensures.opened
    (c.in_ok-sounds.ensures.counts.fills ∙ ap (λ (h : HeapState Branch). h.fills) c.in_ok-heap.ensures.opened)
