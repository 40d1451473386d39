use Rattle.std.proofs.Common.{◌≡◌, ◌∙◌, Some, Option, sym, ap, subst, [], ◌∷◌, map, deque_items}
use Rattle.ny_list.specs.Store.{CursorState}
use Rattle.ny_heap.specs.declared.sound.Sound.{Sound}
use Rattle.ny_heap.specs.Heap.{list_of}
use Rattle.ny_heap.specs.Means.{KeepsMeaning}
use Rattle.ny_heap.specs.Steps.{IsHeldSound, IsHeldAt, without_sound}
use Rattle.ny_heap.specs.Reach.{HeapLaws, IsTrimmed}
use Rattle.ny_heap.specs.View.{branches_of, state_of}
use Rattle.ny_heap.proofs.LawLemmas.{heap_laws}
use Rattle.ny_heap.proofs.StepLemmas.{have_kept, IsTable-held, IsTable-drops, IsHeap-drops, spent_is, released, drops_keep}
use Rattle.ny_heap.proofs.heap.Heap.release.Goals as goal

lists : (s : Sound) (d : CursorState) → s.reader ≡ Some d → list_of s ≡ Some d.list
lists s d e = ap (λ (o : Option CursorState). list_of (record s { reader = o })) e

pub drop_reader-requires : goal.drop_reader-requires
drop_reader-requires g c =
    let i = c.self.inside in
    let bs = branches_of (map deque_items i.branches.items) in
    let held = subst (λ h. IsHeldSound {B = g.row.B.Denot} h c.args.s) (sym c.self.view_is) c.requires.held in
    IsTable-held g.row.B.Denot bs i.table [] i.fills i.peak c.self.invariant.heap.table c.args.s c.in-Some.c c.in-Some.is
    (subst (IsHeldAt {B = g.row.B.Denot} (state_of bs i.table i.fills i.peak) c.args.s) (lists c.args.s c.in-Some.c c.in-Some.is) held.1)

pub invariant_of-self : goal.invariant_of-self
invariant_of-self g c =
    let i = c.self.inside in
    let bs = branches_of (map deque_items i.branches.items) in
    let v = c.self.invariant in
    let drops = c.drop_reader.ensures in
    let held = subst (λ h. IsHeldSound {B = g.row.B.Denot} h c.args.s) (sym c.self.view_is) c.requires.held in
    let table = IsTable-held g.row.B.Denot bs i.table [] i.fills i.peak v.heap.table c.args.s c.in-Some.c c.in-Some.is
    (subst (IsHeldAt {B = g.row.B.Denot} (state_of bs i.table i.fills i.peak) c.args.s) (lists c.args.s c.in-Some.c c.in-Some.is) held.1) in
    record {
      heap = IsHeap-drops i.table c.drop_reader.new.table (Some c.in-Some.c ∷ []) v.heap (IsTable-drops g.row.B.Denot bs i.table c.drop_reader.new.table (Some c.in-Some.c ∷ []) i.fills i.peak table drops) drops;
      have = have_kept g.row.B.Denot bs i.table c.drop_reader.new.table v.have drops.kept;
      counted = v.counted ∙ sym drops.pool;
      reached = v.reached;
      few = v.few;
      whole = v.whole ∙ sym drops.block;
    }

pub returns-in-Some-clause-laws : goal.returns-in-Some-clause-laws
returns-in-Some-clause-laws g c =
    let i = c.self.inside in
    let bs = branches_of (map deque_items i.branches.items) in
    heap_laws g.row.B.Denot bs c.drop_reader.new.table (invariant_of-self g c).heap (invariant_of-self g c).have i.fills i.peak

pub returns-in-Some-clause-trimmed : goal.returns-in-Some-clause-trimmed
returns-in-Some-clause-trimmed g c =
    let i = c.self.inside in
    let bs = branches_of (map deque_items i.branches.items) in
    let held = subst (λ h. IsHeldSound {B = g.row.B.Denot} h c.args.s) (sym c.self.view_is) c.requires.held in
    let counted = subst (IsHeldAt {B = g.row.B.Denot} (state_of bs i.table i.fills i.peak) c.args.s) (lists c.args.s c.in-Some.c c.in-Some.is) held.1 in
    let table = IsTable-held g.row.B.Denot bs i.table [] i.fills i.peak c.self.invariant.heap.table c.args.s c.in-Some.c c.in-Some.is counted in
    subst (λ h. IsTrimmed {B = g.row.B.Denot} (without_sound h c.args.s) (state_of bs c.drop_reader.new.table i.fills i.peak)) c.self.view_is
    (subst (λ h. IsTrimmed {B = g.row.B.Denot} h (state_of bs c.drop_reader.new.table i.fills i.peak)) (sym (spent_is g.row.B.Denot bs i.table [] i.fills i.peak c.self.invariant.heap.table c.args.s c.in-Some.c c.in-Some.is counted))
    (released g.row.B.Denot bs i.table c.drop_reader.new.table (Some c.in-Some.c ∷ []) i.fills i.peak table c.drop_reader.ensures))

pub returns-in-Some-clause-keeps : goal.returns-in-Some-clause-keeps
returns-in-Some-clause-keeps g c =
    let i = c.self.inside in
    let bs = branches_of (map deque_items i.branches.items) in
    let held = subst (λ h. IsHeldSound {B = g.row.B.Denot} h c.args.s) (sym c.self.view_is) c.requires.held in
    let table = IsTable-held g.row.B.Denot bs i.table [] i.fills i.peak c.self.invariant.heap.table c.args.s c.in-Some.c c.in-Some.is
    (subst (IsHeldAt {B = g.row.B.Denot} (state_of bs i.table i.fills i.peak) c.args.s) (lists c.args.s c.in-Some.c c.in-Some.is) held.1) in
    subst (λ h. KeepsMeaning {B = g.row.B.Denot} h (state_of bs c.drop_reader.new.table i.fills i.peak)) c.self.view_is
    (drops_keep g.row.B.Denot bs i.table c.drop_reader.new.table (Some c.in-Some.c ∷ []) i.fills i.peak table c.drop_reader.ensures)

pub returns-in_default-clause-laws : goal.returns-in_default-clause-laws
returns-in_default-clause-laws g c =
    let i = c.self.inside in
    let bs = branches_of (map deque_items i.branches.items) in
    subst (HeapLaws {B = g.row.B.Denot}) c.self.view_is (heap_laws g.row.B.Denot bs i.table c.self.invariant.heap c.self.invariant.have i.fills i.peak)
