use Rattle.std.proofs.Common.{◌≡◌, ◌<◌, set, Vec, Global, List, ◌++◌, map, deque_items, Ok, Err, refl, sym, ap, subst, ◌∙◌}
use Rattle.std.specs.Option.{option_map_or}
use Rattle.std.proofs.lemmas.List.{length-map}
use Rattle.ny_list.specs.Store.{CursorState}
use Rattle.ny_heap.specs.declared.sound.Sound.{Sound}
use Rattle.ny_heap.specs.Heap.{HeapState, Kind}
use Rattle.ny_heap.specs.Work.{flat}
use Rattle.ny_heap.specs.Means.{KeepsMeaning}
use Rattle.ny_heap.specs.Reach.{IsTrimmed}
use Rattle.ny_heap.specs.Steps.{AreHeld, waiting_of, sounds_of, without_sounds, kind_of_mix, Makes, MakesMeaning}
use Rattle.ny_heap.specs.Table.{IsTable}
use Rattle.ny_heap.specs.Tasks.{kind_of_task, lists_of}
use Rattle.ny_heap.specs.Mixing.{kept_by}
use Rattle.ny_heap.specs.View.{branches_of, state_of}
use Rattle.ny_heap.specs.Making.{IsMade}
use Rattle.ny_heap.proofs.GainLemmas.{lost_here}
use Rattle.ny_heap.proofs.SpentLemmas.{cursors_in}
use Rattle.ny_heap.proofs.MadeLemmas.{all_by, lists_by, none_by, mix_branches, waits_are, first_sound, on_err, are_taken, inside_made, inside_lost, laws_made, laws_lost, trimmed_made, keeps_made, makes, makes_meaning, kind_is, mix_begun}
use Rattle.ny_heap.proofs.heap.Heap.make_mix.Goals as goal

pub drop_parts-requires : goal.drop_parts-requires
drop_parts-requires g c =
    let i = c.self.inside in
    let bs = branches_of (map deque_items i.branches.items) in
    let wss = kept_by c.args.waiting.items in
    let all = ap (λ ss. c.args.parts.items ++ ss) (all_by c.args.waiting.items) in
    let held : AreHeld {B = g.row.B.Denot} (state_of bs i.table i.fills i.peak) (c.args.parts.items ++ flat wss) =
    subst (AreHeld {B = g.row.B.Denot} (state_of bs i.table i.fills i.peak)) all (subst (λ h. AreHeld {B = g.row.B.Denot} h (c.args.parts.items ++ sounds_of (map (λ p. (p.0, p.1.items)) c.args.waiting.items))) (sym c.self.view_is) c.requires.inputs) in
    let taken = are_taken g.row.B.Denot bs i.table i.table i.size i.fills i.peak i.out.items c.self.invariant (kind_of_mix c.args.channel) c.args.timing c.args.parts.items wss held in
    let back : kept_by c.in-Err.waiting.items ≡ wss = ap (λ (w : Vec (g.row.B.Denot × Vec Sound Global) Global). kept_by w.items) c.in-Err.ensures in
    subst (λ qss. IsTable i.table (cursors_in (c.args.parts.items ++ flat qss))) (sym back) taken

pub invariant_of-self : goal.invariant_of-self
invariant_of-self g c =
    let i = c.self.inside in
    let bs = branches_of (map deque_items i.branches.items) in
    let wss = kept_by c.args.waiting.items in
    let all = ap (λ ss. c.args.parts.items ++ ss) (all_by c.args.waiting.items) in
    let held : AreHeld {B = g.row.B.Denot} (state_of bs i.table i.fills i.peak) (c.args.parts.items ++ flat wss) =
    subst (AreHeld {B = g.row.B.Denot} (state_of bs i.table i.fills i.peak)) all (subst (λ h. AreHeld {B = g.row.B.Denot} h (c.args.parts.items ++ sounds_of (map (λ p. (p.0, p.1.items)) c.args.waiting.items))) (sym c.self.view_is) c.requires.inputs) in
    let parts = map waiting_of (map (λ (p : g.row.B.Denot × Vec Sound Global). (p.0, p.1.items)) c.args.waiting.items) in
    let taken = are_taken g.row.B.Denot bs i.table i.table i.size i.fills i.peak i.out.items c.self.invariant (kind_of_mix c.args.channel) c.args.timing c.args.parts.items wss held in
    let back : kept_by c.in-Err.waiting.items ≡ wss = ap (λ (w : Vec (g.row.B.Denot × Vec Sound Global) Global). kept_by w.items) c.in-Err.ensures in
    let lost = lost_here i.table c.drop_parts.new.table c.args.parts.items wss (kept_by c.in-Err.waiting.items) taken back c.drop_parts.ensures in
    inside_lost g.row.B.Denot bs i.table c.drop_parts.new.table i.size i.fills i.peak i.out.items c.self.invariant (kind_of_mix c.args.channel) c.args.timing c.args.parts.items wss held bs parts refl lost

pub returns-in-Err-clause-laws : goal.returns-in-Err-clause-laws
returns-in-Err-clause-laws g c =
    let i = c.self.inside in
    let bs = branches_of (map deque_items i.branches.items) in
    let wss = kept_by c.args.waiting.items in
    let all = ap (λ ss. c.args.parts.items ++ ss) (all_by c.args.waiting.items) in
    let held : AreHeld {B = g.row.B.Denot} (state_of bs i.table i.fills i.peak) (c.args.parts.items ++ flat wss) =
    subst (AreHeld {B = g.row.B.Denot} (state_of bs i.table i.fills i.peak)) all (subst (λ h. AreHeld {B = g.row.B.Denot} h (c.args.parts.items ++ sounds_of (map (λ p. (p.0, p.1.items)) c.args.waiting.items))) (sym c.self.view_is) c.requires.inputs) in
    let parts = map waiting_of (map (λ (p : g.row.B.Denot × Vec Sound Global). (p.0, p.1.items)) c.args.waiting.items) in
    let taken = are_taken g.row.B.Denot bs i.table i.table i.size i.fills i.peak i.out.items c.self.invariant (kind_of_mix c.args.channel) c.args.timing c.args.parts.items wss held in
    let back : kept_by c.in-Err.waiting.items ≡ wss = ap (λ (w : Vec (g.row.B.Denot × Vec Sound Global) Global). kept_by w.items) c.in-Err.ensures in
    let lost = lost_here i.table c.drop_parts.new.table c.args.parts.items wss (kept_by c.in-Err.waiting.items) taken back c.drop_parts.ensures in
    laws_lost g.row.B.Denot bs i.table c.drop_parts.new.table i.size i.fills i.peak i.out.items c.self.invariant (kind_of_mix c.args.channel) c.args.timing c.args.parts.items wss held bs parts refl lost

pub returns-in-Err-clause-released : goal.returns-in-Err-clause-released
returns-in-Err-clause-released g c =
    let i = c.self.inside in
    let bs = branches_of (map deque_items i.branches.items) in
    let wss = kept_by c.args.waiting.items in
    let all = ap (λ ss. c.args.parts.items ++ ss) (all_by c.args.waiting.items) in
    let held : AreHeld {B = g.row.B.Denot} (state_of bs i.table i.fills i.peak) (c.args.parts.items ++ flat wss) =
    subst (AreHeld {B = g.row.B.Denot} (state_of bs i.table i.fills i.peak)) all (subst (λ h. AreHeld {B = g.row.B.Denot} h (c.args.parts.items ++ sounds_of (map (λ p. (p.0, p.1.items)) c.args.waiting.items))) (sym c.self.view_is) c.requires.inputs) in
    let parts = map waiting_of (map (λ (p : g.row.B.Denot × Vec Sound Global). (p.0, p.1.items)) c.args.waiting.items) in
    let taken = are_taken g.row.B.Denot bs i.table i.table i.size i.fills i.peak i.out.items c.self.invariant (kind_of_mix c.args.channel) c.args.timing c.args.parts.items wss held in
    let back : kept_by c.in-Err.waiting.items ≡ wss = ap (λ (w : Vec (g.row.B.Denot × Vec Sound Global) Global). kept_by w.items) c.in-Err.ensures in
    let lost = lost_here i.table c.drop_parts.new.table c.args.parts.items wss (kept_by c.in-Err.waiting.items) taken back c.drop_parts.ensures in
    subst (λ (p : HeapState g.row.B.Denot × List Sound). IsTrimmed {B = g.row.B.Denot} (without_sounds p.0 p.1) (state_of bs c.drop_parts.new.table i.fills i.peak)) (λ k. (c.self.view_is k, sym all k))
    (trimmed_made g.row.B.Denot bs i.table c.drop_parts.new.table i.size i.fills i.peak i.out.items c.self.invariant (kind_of_mix c.args.channel) c.args.timing c.args.parts.items wss held bs parts refl lost)

pub returns-in-Err-clause-keeps : goal.returns-in-Err-clause-keeps
returns-in-Err-clause-keeps g c =
    let i = c.self.inside in
    let bs = branches_of (map deque_items i.branches.items) in
    let wss = kept_by c.args.waiting.items in
    let all = ap (λ ss. c.args.parts.items ++ ss) (all_by c.args.waiting.items) in
    let held : AreHeld {B = g.row.B.Denot} (state_of bs i.table i.fills i.peak) (c.args.parts.items ++ flat wss) =
    subst (AreHeld {B = g.row.B.Denot} (state_of bs i.table i.fills i.peak)) all (subst (λ h. AreHeld {B = g.row.B.Denot} h (c.args.parts.items ++ sounds_of (map (λ p. (p.0, p.1.items)) c.args.waiting.items))) (sym c.self.view_is) c.requires.inputs) in
    let parts = map waiting_of (map (λ (p : g.row.B.Denot × Vec Sound Global). (p.0, p.1.items)) c.args.waiting.items) in
    let taken = are_taken g.row.B.Denot bs i.table i.table i.size i.fills i.peak i.out.items c.self.invariant (kind_of_mix c.args.channel) c.args.timing c.args.parts.items wss held in
    let back : kept_by c.in-Err.waiting.items ≡ wss = ap (λ (w : Vec (g.row.B.Denot × Vec Sound Global) Global). kept_by w.items) c.in-Err.ensures in
    let lost = lost_here i.table c.drop_parts.new.table c.args.parts.items wss (kept_by c.in-Err.waiting.items) taken back c.drop_parts.ensures in
    subst (λ h. KeepsMeaning {B = g.row.B.Denot} h (state_of bs c.drop_parts.new.table i.fills i.peak)) c.self.view_is
    (keeps_made g.row.B.Denot bs i.table c.drop_parts.new.table i.size i.fills i.peak i.out.items c.self.invariant (kind_of_mix c.args.channel) c.args.timing c.args.parts.items wss held bs parts refl lost)

pub make_unit-requires-clause-table : goal.make_unit-requires-clause-table
make_unit-requires-clause-table g c =
    let i = c.self.inside in
    let bs = branches_of (map deque_items i.branches.items) in
    let wss = kept_by c.args.waiting.items in
    let all = ap (λ ss. c.args.parts.items ++ ss) (all_by c.args.waiting.items) in
    let held : AreHeld {B = g.row.B.Denot} (state_of bs i.table i.fills i.peak) (c.args.parts.items ++ flat wss) =
    subst (AreHeld {B = g.row.B.Denot} (state_of bs i.table i.fills i.peak)) all (subst (λ h. AreHeld {B = g.row.B.Denot} h (c.args.parts.items ++ sounds_of (map (λ p. (p.0, p.1.items)) c.args.waiting.items))) (sym c.self.view_is) c.requires.inputs) in
    let parts = map waiting_of (map (λ (p : g.row.B.Denot × Vec Sound Global). (p.0, p.1.items)) c.args.waiting.items) in
    let task = c.mix_task-task.result in
    let kept = waits_are c.args.channel task c.in-Ok.halves.kept c.mix_task-task.ensures (λ one. none_by c.args.waiting.items c.in-Ok.halves.kept.items c.in-Ok.ensures.1 (c.requires.channel one).1) ∙ ap lists_of c.in-Ok.ensures.1 ∙ lists_by c.args.waiting.items in
    subst (λ qss. IsTable i.table (cursors_in (c.args.parts.items ++ flat qss))) (sym kept) (are_taken g.row.B.Denot bs i.table i.table i.size i.fills i.peak i.out.items c.self.invariant (kind_of_mix c.args.channel) c.args.timing c.args.parts.items wss held)

pub invariant_of-self-in_err-made-in-Ok : goal.invariant_of-self-in_err-made-in-Ok
invariant_of-self-in_err-made-in-Ok g c =
    let i = c.self.inside in
    let bs = branches_of (map deque_items i.branches.items) in
    let wss = kept_by c.args.waiting.items in
    let all = ap (λ ss. c.args.parts.items ++ ss) (all_by c.args.waiting.items) in
    let held : AreHeld {B = g.row.B.Denot} (state_of bs i.table i.fills i.peak) (c.args.parts.items ++ flat wss) =
    subst (AreHeld {B = g.row.B.Denot} (state_of bs i.table i.fills i.peak)) all (subst (λ h. AreHeld {B = g.row.B.Denot} h (c.args.parts.items ++ sounds_of (map (λ p. (p.0, p.1.items)) c.args.waiting.items))) (sym c.self.view_is) c.requires.inputs) in
    let parts = map waiting_of (map (λ (p : g.row.B.Denot × Vec Sound Global). (p.0, p.1.items)) c.args.waiting.items) in
    let task = c.mix_task-task.result in
    let kept = waits_are c.args.channel task c.in-Ok.halves.kept c.mix_task-task.ensures (λ one. none_by c.args.waiting.items c.in-Ok.halves.kept.items c.in-Ok.ensures.1 (c.requires.channel one).1) ∙ ap lists_of c.in-Ok.ensures.1 ∙ lists_by c.args.waiting.items in
    let now = branches_of (map deque_items c.make_unit.new.branches.items) in
    let still : now ≡ bs = λ k v. c.make_unit.ensures.same v k in
    let made = subst (λ qss. IsMade i.table c.make_unit.new.table (kind_of_task task) c.args.timing c.args.parts.items qss (Err c.in_err-made-in-Ok.field-0.0)) kept c.in_err-made-in-Ok.ensures.made in
    inside_made g.row.B.Denot bs i.table c.make_unit.new.table i.size i.fills i.peak i.out.items c.self.invariant (kind_of_task task) c.args.timing c.args.parts.items wss held now parts (mix_begun g.row.B.Denot bs i.table i.fills i.peak c.self.invariant.heap.table c.args.parts.items wss c.args.timing c.requires.mix held) (Err c.in_err-made-in-Ok.field-0.0) made still

pub returns-in_err-made-in-Ok-clause-laws : goal.returns-in_err-made-in-Ok-clause-laws
returns-in_err-made-in-Ok-clause-laws g c =
    let i = c.self.inside in
    let bs = branches_of (map deque_items i.branches.items) in
    let wss = kept_by c.args.waiting.items in
    let all = ap (λ ss. c.args.parts.items ++ ss) (all_by c.args.waiting.items) in
    let held : AreHeld {B = g.row.B.Denot} (state_of bs i.table i.fills i.peak) (c.args.parts.items ++ flat wss) =
    subst (AreHeld {B = g.row.B.Denot} (state_of bs i.table i.fills i.peak)) all (subst (λ h. AreHeld {B = g.row.B.Denot} h (c.args.parts.items ++ sounds_of (map (λ p. (p.0, p.1.items)) c.args.waiting.items))) (sym c.self.view_is) c.requires.inputs) in
    let parts = map waiting_of (map (λ (p : g.row.B.Denot × Vec Sound Global). (p.0, p.1.items)) c.args.waiting.items) in
    let task = c.mix_task-task.result in
    let kept = waits_are c.args.channel task c.in-Ok.halves.kept c.mix_task-task.ensures (λ one. none_by c.args.waiting.items c.in-Ok.halves.kept.items c.in-Ok.ensures.1 (c.requires.channel one).1) ∙ ap lists_of c.in-Ok.ensures.1 ∙ lists_by c.args.waiting.items in
    let now = branches_of (map deque_items c.make_unit.new.branches.items) in
    let still : now ≡ bs = λ k v. c.make_unit.ensures.same v k in
    let made = subst (λ qss. IsMade i.table c.make_unit.new.table (kind_of_task task) c.args.timing c.args.parts.items qss (Err c.in_err-made-in-Ok.field-0.0)) kept c.in_err-made-in-Ok.ensures.made in
    laws_made g.row.B.Denot bs i.table c.make_unit.new.table i.size i.fills i.peak i.out.items c.self.invariant (kind_of_task task) c.args.timing c.args.parts.items wss held now parts (mix_begun g.row.B.Denot bs i.table i.fills i.peak c.self.invariant.heap.table c.args.parts.items wss c.args.timing c.requires.mix held) (Err c.in_err-made-in-Ok.field-0.0) made still

pub returns-in_err-made-in-Ok-clause-released : goal.returns-in_err-made-in-Ok-clause-released
returns-in_err-made-in-Ok-clause-released g c =
    let i = c.self.inside in
    let bs = branches_of (map deque_items i.branches.items) in
    let wss = kept_by c.args.waiting.items in
    let all = ap (λ ss. c.args.parts.items ++ ss) (all_by c.args.waiting.items) in
    let held : AreHeld {B = g.row.B.Denot} (state_of bs i.table i.fills i.peak) (c.args.parts.items ++ flat wss) =
    subst (AreHeld {B = g.row.B.Denot} (state_of bs i.table i.fills i.peak)) all (subst (λ h. AreHeld {B = g.row.B.Denot} h (c.args.parts.items ++ sounds_of (map (λ p. (p.0, p.1.items)) c.args.waiting.items))) (sym c.self.view_is) c.requires.inputs) in
    let parts = map waiting_of (map (λ (p : g.row.B.Denot × Vec Sound Global). (p.0, p.1.items)) c.args.waiting.items) in
    let task = c.mix_task-task.result in
    let kept = waits_are c.args.channel task c.in-Ok.halves.kept c.mix_task-task.ensures (λ one. none_by c.args.waiting.items c.in-Ok.halves.kept.items c.in-Ok.ensures.1 (c.requires.channel one).1) ∙ ap lists_of c.in-Ok.ensures.1 ∙ lists_by c.args.waiting.items in
    let now = branches_of (map deque_items c.make_unit.new.branches.items) in
    let still : now ≡ bs = λ k v. c.make_unit.ensures.same v k in
    let made = subst (λ qss. IsMade i.table c.make_unit.new.table (kind_of_task task) c.args.timing c.args.parts.items qss (Err c.in_err-made-in-Ok.field-0.0)) kept c.in_err-made-in-Ok.ensures.made in
    on_err c.from_residual.result (subst (λ (p : HeapState g.row.B.Denot × List Sound). IsTrimmed {B = g.row.B.Denot} (without_sounds p.0 p.1) (state_of now c.make_unit.new.table i.fills i.peak)) (λ k. (c.self.view_is k, sym all k))
    (trimmed_made g.row.B.Denot bs i.table c.make_unit.new.table i.size i.fills i.peak i.out.items c.self.invariant (kind_of_task task) c.args.timing c.args.parts.items wss held now parts still made))

pub returns-in_err-made-in-Ok-clause-keeps : goal.returns-in_err-made-in-Ok-clause-keeps
returns-in_err-made-in-Ok-clause-keeps g c =
    let i = c.self.inside in
    let bs = branches_of (map deque_items i.branches.items) in
    let wss = kept_by c.args.waiting.items in
    let all = ap (λ ss. c.args.parts.items ++ ss) (all_by c.args.waiting.items) in
    let held : AreHeld {B = g.row.B.Denot} (state_of bs i.table i.fills i.peak) (c.args.parts.items ++ flat wss) =
    subst (AreHeld {B = g.row.B.Denot} (state_of bs i.table i.fills i.peak)) all (subst (λ h. AreHeld {B = g.row.B.Denot} h (c.args.parts.items ++ sounds_of (map (λ p. (p.0, p.1.items)) c.args.waiting.items))) (sym c.self.view_is) c.requires.inputs) in
    let parts = map waiting_of (map (λ (p : g.row.B.Denot × Vec Sound Global). (p.0, p.1.items)) c.args.waiting.items) in
    let task = c.mix_task-task.result in
    let kept = waits_are c.args.channel task c.in-Ok.halves.kept c.mix_task-task.ensures (λ one. none_by c.args.waiting.items c.in-Ok.halves.kept.items c.in-Ok.ensures.1 (c.requires.channel one).1) ∙ ap lists_of c.in-Ok.ensures.1 ∙ lists_by c.args.waiting.items in
    let now = branches_of (map deque_items c.make_unit.new.branches.items) in
    let still : now ≡ bs = λ k v. c.make_unit.ensures.same v k in
    let made = subst (λ qss. IsMade i.table c.make_unit.new.table (kind_of_task task) c.args.timing c.args.parts.items qss (Err c.in_err-made-in-Ok.field-0.0)) kept c.in_err-made-in-Ok.ensures.made in
    on_err c.from_residual.result (subst (λ h. KeepsMeaning {B = g.row.B.Denot} h (state_of now c.make_unit.new.table i.fills i.peak)) c.self.view_is
    (keeps_made g.row.B.Denot bs i.table c.make_unit.new.table i.size i.fills i.peak i.out.items c.self.invariant (kind_of_task task) c.args.timing c.args.parts.items wss held now parts still made))

pub invariant_of-self-in-Ok : goal.invariant_of-self-in-Ok
invariant_of-self-in-Ok g c =
    let i = c.self.inside in
    let bs = branches_of (map deque_items i.branches.items) in
    let wss = kept_by c.args.waiting.items in
    let all = ap (λ ss. c.args.parts.items ++ ss) (all_by c.args.waiting.items) in
    let held : AreHeld {B = g.row.B.Denot} (state_of bs i.table i.fills i.peak) (c.args.parts.items ++ flat wss) =
    subst (AreHeld {B = g.row.B.Denot} (state_of bs i.table i.fills i.peak)) all (subst (λ h. AreHeld {B = g.row.B.Denot} h (c.args.parts.items ++ sounds_of (map (λ p. (p.0, p.1.items)) c.args.waiting.items))) (sym c.self.view_is) c.requires.inputs) in
    let parts = map waiting_of (map (λ (p : g.row.B.Denot × Vec Sound Global). (p.0, p.1.items)) c.args.waiting.items) in
    let task = c.mix_task-task.result in
    let kept = waits_are c.args.channel task c.in-Ok.halves.kept c.mix_task-task.ensures (λ one. none_by c.args.waiting.items c.in-Ok.halves.kept.items c.in-Ok.ensures.1 (c.requires.channel one).1) ∙ ap lists_of c.in-Ok.ensures.1 ∙ lists_by c.args.waiting.items in
    let now = branches_of (map deque_items c.place_branches.new.places.items) in
    let grown = map deque_items c.make_unit.new.branches.items in
    let o = c.in_ok-made-in-Ok.made in
    let made = subst (λ qss. IsMade i.table c.make_unit.new.table (kind_of_task task) c.args.timing c.args.parts.items qss (Ok o)) kept c.in_ok-made-in-Ok.ensures.made in
    let branches = mix_branches g.row.B.Denot bs grown (map deque_items c.place_branches.new.places.items) c.args.waiting.items wss o c.make_unit.ensures.same (λ d is. subst (λ n. d.list < n) (sym (length-map c.make_unit.new.branches.items deque_items)) (c.in_ok-made-in-Ok.ensures.room d is)) (c.place_branches.ensures ∙ ap (λ qs. option_map_or (λ (d : CursorState). set grown d.list qs) o grown) c.in-Ok.ensures.0) refl in
    inside_made g.row.B.Denot bs i.table c.make_unit.new.table i.size i.fills i.peak i.out.items c.self.invariant (kind_of_task task) c.args.timing c.args.parts.items wss held now parts (mix_begun g.row.B.Denot bs i.table i.fills i.peak c.self.invariant.heap.table c.args.parts.items wss c.args.timing c.requires.mix held) (Ok o) made branches

pub returns-in_ok-made-in-Ok-clause-laws : goal.returns-in_ok-made-in-Ok-clause-laws
returns-in_ok-made-in-Ok-clause-laws g c =
    let i = c.self.inside in
    let bs = branches_of (map deque_items i.branches.items) in
    let wss = kept_by c.args.waiting.items in
    let all = ap (λ ss. c.args.parts.items ++ ss) (all_by c.args.waiting.items) in
    let held : AreHeld {B = g.row.B.Denot} (state_of bs i.table i.fills i.peak) (c.args.parts.items ++ flat wss) =
    subst (AreHeld {B = g.row.B.Denot} (state_of bs i.table i.fills i.peak)) all (subst (λ h. AreHeld {B = g.row.B.Denot} h (c.args.parts.items ++ sounds_of (map (λ p. (p.0, p.1.items)) c.args.waiting.items))) (sym c.self.view_is) c.requires.inputs) in
    let parts = map waiting_of (map (λ (p : g.row.B.Denot × Vec Sound Global). (p.0, p.1.items)) c.args.waiting.items) in
    let task = c.mix_task-task.result in
    let kept = waits_are c.args.channel task c.in-Ok.halves.kept c.mix_task-task.ensures (λ one. none_by c.args.waiting.items c.in-Ok.halves.kept.items c.in-Ok.ensures.1 (c.requires.channel one).1) ∙ ap lists_of c.in-Ok.ensures.1 ∙ lists_by c.args.waiting.items in
    let now = branches_of (map deque_items c.place_branches.new.places.items) in
    let grown = map deque_items c.make_unit.new.branches.items in
    let o = c.in_ok-made-in-Ok.made in
    let made = subst (λ qss. IsMade i.table c.make_unit.new.table (kind_of_task task) c.args.timing c.args.parts.items qss (Ok o)) kept c.in_ok-made-in-Ok.ensures.made in
    let branches = mix_branches g.row.B.Denot bs grown (map deque_items c.place_branches.new.places.items) c.args.waiting.items wss o c.make_unit.ensures.same (λ d is. subst (λ n. d.list < n) (sym (length-map c.make_unit.new.branches.items deque_items)) (c.in_ok-made-in-Ok.ensures.room d is)) (c.place_branches.ensures ∙ ap (λ qs. option_map_or (λ (d : CursorState). set grown d.list qs) o grown) c.in-Ok.ensures.0) refl in
    laws_made g.row.B.Denot bs i.table c.make_unit.new.table i.size i.fills i.peak i.out.items c.self.invariant (kind_of_task task) c.args.timing c.args.parts.items wss held now parts (mix_begun g.row.B.Denot bs i.table i.fills i.peak c.self.invariant.heap.table c.args.parts.items wss c.args.timing c.requires.mix held) (Ok o) made branches

pub returns-in_ok-made-in-Ok-clause-makes : goal.returns-in_ok-made-in-Ok-clause-makes
returns-in_ok-made-in-Ok-clause-makes g c =
    let i = c.self.inside in
    let bs = branches_of (map deque_items i.branches.items) in
    let wss = kept_by c.args.waiting.items in
    let all = ap (λ ss. c.args.parts.items ++ ss) (all_by c.args.waiting.items) in
    let held : AreHeld {B = g.row.B.Denot} (state_of bs i.table i.fills i.peak) (c.args.parts.items ++ flat wss) =
    subst (AreHeld {B = g.row.B.Denot} (state_of bs i.table i.fills i.peak)) all (subst (λ h. AreHeld {B = g.row.B.Denot} h (c.args.parts.items ++ sounds_of (map (λ p. (p.0, p.1.items)) c.args.waiting.items))) (sym c.self.view_is) c.requires.inputs) in
    let parts = map waiting_of (map (λ (p : g.row.B.Denot × Vec Sound Global). (p.0, p.1.items)) c.args.waiting.items) in
    let task = c.mix_task-task.result in
    let kept = waits_are c.args.channel task c.in-Ok.halves.kept c.mix_task-task.ensures (λ one. none_by c.args.waiting.items c.in-Ok.halves.kept.items c.in-Ok.ensures.1 (c.requires.channel one).1) ∙ ap lists_of c.in-Ok.ensures.1 ∙ lists_by c.args.waiting.items in
    let now = branches_of (map deque_items c.place_branches.new.places.items) in
    let grown = map deque_items c.make_unit.new.branches.items in
    let o = c.in_ok-made-in-Ok.made in
    let made = subst (λ qss. IsMade i.table c.make_unit.new.table (kind_of_task task) c.args.timing c.args.parts.items qss (Ok o)) kept c.in_ok-made-in-Ok.ensures.made in
    let branches = mix_branches g.row.B.Denot bs grown (map deque_items c.place_branches.new.places.items) c.args.waiting.items wss o c.make_unit.ensures.same (λ d is. subst (λ n. d.list < n) (sym (length-map c.make_unit.new.branches.items deque_items)) (c.in_ok-made-in-Ok.ensures.room d is)) (c.place_branches.ensures ∙ ap (λ qs. option_map_or (λ (d : CursorState). set grown d.list qs) o grown) c.in-Ok.ensures.0) refl in
    let kind = kind_is c.args.channel task c.in-Ok.halves.kept c.mix_task-task.ensures in
    subst (λ (p : HeapState g.row.B.Denot × Kind × List Sound × Sound). Makes {B = g.row.B.Denot} p.0 (state_of now c.make_unit.new.table i.fills i.peak) p.1 c.args.timing c.args.parts.items parts p.2 p.3)
    (λ k. (c.self.view_is k, kind k, sym all k, (ap (first_sound o) (sym c.same_timing-when.ensures) ∙ sym c.begin.ensures) k))
    (makes g.row.B.Denot bs i.table c.make_unit.new.table i.size i.fills i.peak i.out.items c.self.invariant (kind_of_task task) c.args.timing c.args.parts.items wss held now parts o made branches)

pub returns-in_ok-made-in-Ok-clause-meaning : goal.returns-in_ok-made-in-Ok-clause-meaning
returns-in_ok-made-in-Ok-clause-meaning g c =
    let i = c.self.inside in
    let bs = branches_of (map deque_items i.branches.items) in
    let wss = kept_by c.args.waiting.items in
    let all = ap (λ ss. c.args.parts.items ++ ss) (all_by c.args.waiting.items) in
    let held : AreHeld {B = g.row.B.Denot} (state_of bs i.table i.fills i.peak) (c.args.parts.items ++ flat wss) =
    subst (AreHeld {B = g.row.B.Denot} (state_of bs i.table i.fills i.peak)) all (subst (λ h. AreHeld {B = g.row.B.Denot} h (c.args.parts.items ++ sounds_of (map (λ p. (p.0, p.1.items)) c.args.waiting.items))) (sym c.self.view_is) c.requires.inputs) in
    let parts = map waiting_of (map (λ (p : g.row.B.Denot × Vec Sound Global). (p.0, p.1.items)) c.args.waiting.items) in
    let task = c.mix_task-task.result in
    let kept = waits_are c.args.channel task c.in-Ok.halves.kept c.mix_task-task.ensures (λ one. none_by c.args.waiting.items c.in-Ok.halves.kept.items c.in-Ok.ensures.1 (c.requires.channel one).1) ∙ ap lists_of c.in-Ok.ensures.1 ∙ lists_by c.args.waiting.items in
    let now = branches_of (map deque_items c.place_branches.new.places.items) in
    let grown = map deque_items c.make_unit.new.branches.items in
    let o = c.in_ok-made-in-Ok.made in
    let made = subst (λ qss. IsMade i.table c.make_unit.new.table (kind_of_task task) c.args.timing c.args.parts.items qss (Ok o)) kept c.in_ok-made-in-Ok.ensures.made in
    let branches = mix_branches g.row.B.Denot bs grown (map deque_items c.place_branches.new.places.items) c.args.waiting.items wss o c.make_unit.ensures.same (λ d is. subst (λ n. d.list < n) (sym (length-map c.make_unit.new.branches.items deque_items)) (c.in_ok-made-in-Ok.ensures.room d is)) (c.place_branches.ensures ∙ ap (λ qs. option_map_or (λ (d : CursorState). set grown d.list qs) o grown) c.in-Ok.ensures.0) refl in
    let kind = kind_is c.args.channel task c.in-Ok.halves.kept c.mix_task-task.ensures in
    subst (λ (p : HeapState g.row.B.Denot × Kind × Sound). MakesMeaning {B = g.row.B.Denot} p.0 (state_of now c.make_unit.new.table i.fills i.peak) p.1 c.args.timing c.args.parts.items parts p.2)
    (λ k. (c.self.view_is k, kind k, (ap (first_sound o) (sym c.same_timing-when.ensures) ∙ sym c.begin.ensures) k))
    (makes_meaning g.row.B.Denot bs i.table c.make_unit.new.table i.size i.fills i.peak i.out.items c.self.invariant (kind_of_task task) c.args.timing c.args.parts.items wss held now parts o made branches)
