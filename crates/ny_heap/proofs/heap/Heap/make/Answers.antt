use Rattle.std.proofs.Common.{◌≡◌, List, [], Ok, Err, sym, ap, subst, ◌∙◌, map, deque_items, arith}
use Rattle.ny_heap.specs.declared.sound.Sound.{Sound}
use Rattle.ny_heap.specs.Heap.{HeapState, Made}
use Rattle.ny_heap.specs.Means.{KeepsMeaning}
use Rattle.ny_heap.specs.Reach.{IsTrimmed}
use Rattle.ny_heap.specs.Steps.{AreHeld, without_sounds, Makes, MakesMeaning}
use Rattle.ny_heap.specs.View.{branches_of, state_of}
use Rattle.ny_heap.proofs.MadeLemmas.{append_none, no_branches, first_sound, on_err, are_taken, is_ready, inside_made, laws_made, trimmed_made, keeps_made, makes, makes_meaning}
use Rattle.ny_heap.proofs.heap.Heap.make.Goals as goal

pub make_unit-requires-clause-table : goal.make_unit-requires-clause-table
make_unit-requires-clause-table g c =
    let i = c.self.inside in
    let bs = branches_of (map deque_items i.branches.items) in
    let same = append_none c.args.inputs.items in
    let held = subst (AreHeld {B = g.row.B.Denot} (state_of bs i.table i.fills i.peak)) (sym same) (subst (λ h. AreHeld {B = g.row.B.Denot} h c.args.inputs.items) (sym c.self.view_is) c.requires.inputs) in
    are_taken g.row.B.Denot bs i.table i.table i.size i.fills i.peak i.out.items c.self.invariant (Made c.args.make) c.args.timing c.args.inputs.items [] held

pub make_unit-requires-clause-ready : goal.make_unit-requires-clause-ready
make_unit-requires-clause-ready g c =
    let i = c.self.inside in
    let bs = branches_of (map deque_items i.branches.items) in
    let held = subst (λ h. AreHeld {B = g.row.B.Denot} h c.args.inputs.items) (sym c.self.view_is) c.requires.inputs in
    is_ready g.row.B.Denot (state_of bs i.table i.fills i.peak) c.args.make c.args.inputs.items c.args.timing c.requires.made.heard held

pub invariant_of-self : goal.invariant_of-self
invariant_of-self g c =
    let i = c.self.inside in
    let bs = branches_of (map deque_items i.branches.items) in
    let now = branches_of (map deque_items c.make_unit.new.branches.items) in
    let still : now ≡ bs = λ k v. c.make_unit.ensures.same v k in
    let same = append_none c.args.inputs.items in
    let held = subst (AreHeld {B = g.row.B.Denot} (state_of bs i.table i.fills i.peak)) (sym same) (subst (λ h. AreHeld {B = g.row.B.Denot} h c.args.inputs.items) (sym c.self.view_is) c.requires.inputs) in
    inside_made g.row.B.Denot bs i.table c.make_unit.new.table i.size i.fills i.peak i.out.items c.self.invariant (Made c.args.make) c.args.timing c.args.inputs.items [] held now [] (λ some. absurd (omega (arith, some))) (Err c.in_err-made.field-0.0) c.in_err-made.ensures.made (no_branches g.row.B.Denot bs now still (Err c.in_err-made.field-0.0))

pub returns-in_err-made-clause-laws : goal.returns-in_err-made-clause-laws
returns-in_err-made-clause-laws g c =
    let i = c.self.inside in
    let bs = branches_of (map deque_items i.branches.items) in
    let now = branches_of (map deque_items c.make_unit.new.branches.items) in
    let still : now ≡ bs = λ k v. c.make_unit.ensures.same v k in
    let same = append_none c.args.inputs.items in
    let held = subst (AreHeld {B = g.row.B.Denot} (state_of bs i.table i.fills i.peak)) (sym same) (subst (λ h. AreHeld {B = g.row.B.Denot} h c.args.inputs.items) (sym c.self.view_is) c.requires.inputs) in
    laws_made g.row.B.Denot bs i.table c.make_unit.new.table i.size i.fills i.peak i.out.items c.self.invariant (Made c.args.make) c.args.timing c.args.inputs.items [] held now [] (λ some. absurd (omega (arith, some))) (Err c.in_err-made.field-0.0) c.in_err-made.ensures.made (no_branches g.row.B.Denot bs now still (Err c.in_err-made.field-0.0))

pub returns-in_err-made-clause-released : goal.returns-in_err-made-clause-released
returns-in_err-made-clause-released g c =
    let i = c.self.inside in
    let bs = branches_of (map deque_items i.branches.items) in
    let now = branches_of (map deque_items c.make_unit.new.branches.items) in
    let still : now ≡ bs = λ k v. c.make_unit.ensures.same v k in
    let same = append_none c.args.inputs.items in
    let held = subst (AreHeld {B = g.row.B.Denot} (state_of bs i.table i.fills i.peak)) (sym same) (subst (λ h. AreHeld {B = g.row.B.Denot} h c.args.inputs.items) (sym c.self.view_is) c.requires.inputs) in
    on_err c.from_residual.result (subst (λ (p : HeapState g.row.B.Denot × List Sound). IsTrimmed {B = g.row.B.Denot} (without_sounds p.0 p.1) (state_of now c.make_unit.new.table i.fills i.peak)) (λ k. (c.self.view_is k, same k))
    (trimmed_made g.row.B.Denot bs i.table c.make_unit.new.table i.size i.fills i.peak i.out.items c.self.invariant (Made c.args.make) c.args.timing c.args.inputs.items [] held now [] still c.in_err-made.ensures.made))

pub returns-in_err-made-clause-keeps : goal.returns-in_err-made-clause-keeps
returns-in_err-made-clause-keeps g c =
    let i = c.self.inside in
    let bs = branches_of (map deque_items i.branches.items) in
    let now = branches_of (map deque_items c.make_unit.new.branches.items) in
    let still : now ≡ bs = λ k v. c.make_unit.ensures.same v k in
    let same = append_none c.args.inputs.items in
    let held = subst (AreHeld {B = g.row.B.Denot} (state_of bs i.table i.fills i.peak)) (sym same) (subst (λ h. AreHeld {B = g.row.B.Denot} h c.args.inputs.items) (sym c.self.view_is) c.requires.inputs) in
    on_err c.from_residual.result (subst (λ h. KeepsMeaning {B = g.row.B.Denot} h (state_of now c.make_unit.new.table i.fills i.peak)) c.self.view_is
    (keeps_made g.row.B.Denot bs i.table c.make_unit.new.table i.size i.fills i.peak i.out.items c.self.invariant (Made c.args.make) c.args.timing c.args.inputs.items [] held now [] still c.in_err-made.ensures.made))

pub invariant_of-self-2 : goal.invariant_of-self-2
invariant_of-self-2 g c =
    let i = c.self.inside in
    let bs = branches_of (map deque_items i.branches.items) in
    let now = branches_of (map deque_items c.make_unit.new.branches.items) in
    let still : now ≡ bs = λ k v. c.make_unit.ensures.same v k in
    let same = append_none c.args.inputs.items in
    let held = subst (AreHeld {B = g.row.B.Denot} (state_of bs i.table i.fills i.peak)) (sym same) (subst (λ h. AreHeld {B = g.row.B.Denot} h c.args.inputs.items) (sym c.self.view_is) c.requires.inputs) in
    inside_made g.row.B.Denot bs i.table c.make_unit.new.table i.size i.fills i.peak i.out.items c.self.invariant (Made c.args.make) c.args.timing c.args.inputs.items [] held now [] (λ some. absurd (omega (arith, some))) (Ok c.in_ok-made.made) c.in_ok-made.ensures.made (no_branches g.row.B.Denot bs now still (Ok c.in_ok-made.made))

pub returns-clause-laws : goal.returns-clause-laws
returns-clause-laws g c =
    let i = c.self.inside in
    let bs = branches_of (map deque_items i.branches.items) in
    let now = branches_of (map deque_items c.make_unit.new.branches.items) in
    let still : now ≡ bs = λ k v. c.make_unit.ensures.same v k in
    let same = append_none c.args.inputs.items in
    let held = subst (AreHeld {B = g.row.B.Denot} (state_of bs i.table i.fills i.peak)) (sym same) (subst (λ h. AreHeld {B = g.row.B.Denot} h c.args.inputs.items) (sym c.self.view_is) c.requires.inputs) in
    laws_made g.row.B.Denot bs i.table c.make_unit.new.table i.size i.fills i.peak i.out.items c.self.invariant (Made c.args.make) c.args.timing c.args.inputs.items [] held now [] (λ some. absurd (omega (arith, some))) (Ok c.in_ok-made.made) c.in_ok-made.ensures.made (no_branches g.row.B.Denot bs now still (Ok c.in_ok-made.made))

pub returns-clause-makes : goal.returns-clause-makes
returns-clause-makes g c =
    let i = c.self.inside in
    let bs = branches_of (map deque_items i.branches.items) in
    let now = branches_of (map deque_items c.make_unit.new.branches.items) in
    let still : now ≡ bs = λ k v. c.make_unit.ensures.same v k in
    let same = append_none c.args.inputs.items in
    let held = subst (AreHeld {B = g.row.B.Denot} (state_of bs i.table i.fills i.peak)) (sym same) (subst (λ h. AreHeld {B = g.row.B.Denot} h c.args.inputs.items) (sym c.self.view_is) c.requires.inputs) in
    subst (λ (p : HeapState g.row.B.Denot × List Sound × Sound). Makes {B = g.row.B.Denot} p.0 (state_of now c.make_unit.new.table i.fills i.peak) (Made c.args.make) c.args.timing c.args.inputs.items [] p.1 p.2)
    (λ k. (c.self.view_is k, same k, (ap (first_sound c.in_ok-made.made) (sym c.same_timing-when.ensures) ∙ sym c.begin.ensures) k))
    (makes g.row.B.Denot bs i.table c.make_unit.new.table i.size i.fills i.peak i.out.items c.self.invariant (Made c.args.make) c.args.timing c.args.inputs.items [] held now [] c.in_ok-made.made c.in_ok-made.ensures.made (no_branches g.row.B.Denot bs now still (Ok c.in_ok-made.made)))

pub returns-clause-meaning : goal.returns-clause-meaning
returns-clause-meaning g c =
    let i = c.self.inside in
    let bs = branches_of (map deque_items i.branches.items) in
    let now = branches_of (map deque_items c.make_unit.new.branches.items) in
    let still : now ≡ bs = λ k v. c.make_unit.ensures.same v k in
    let same = append_none c.args.inputs.items in
    let held = subst (AreHeld {B = g.row.B.Denot} (state_of bs i.table i.fills i.peak)) (sym same) (subst (λ h. AreHeld {B = g.row.B.Denot} h c.args.inputs.items) (sym c.self.view_is) c.requires.inputs) in
    subst (λ (p : HeapState g.row.B.Denot × Sound). MakesMeaning {B = g.row.B.Denot} p.0 (state_of now c.make_unit.new.table i.fills i.peak) (Made c.args.make) c.args.timing c.args.inputs.items [] p.1)
    (λ k. (c.self.view_is k, (ap (first_sound c.in_ok-made.made) (sym c.same_timing-when.ensures) ∙ sym c.begin.ensures) k))
    (makes_meaning g.row.B.Denot bs i.table c.make_unit.new.table i.size i.fills i.peak i.out.items c.self.invariant (Made c.args.make) c.args.timing c.args.inputs.items [] held now [] c.in_ok-made.made c.in_ok-made.ensures.made (no_branches g.row.B.Denot bs now still (Ok c.in_ok-made.made)))
