use Rattle.std.proofs.Common.{◌≡◌, [], length, Some, Option, sym, ap, subst, ◌∙◌, map, deque_items}
use Rattle.ny_list.specs.Store.{CursorState}
use Rattle.ny_heap.specs.declared.sound.Sound.{Sound}
use Rattle.ny_heap.specs.Heap.{HeapState, list_of}
use Rattle.ny_heap.specs.Means.{KeepsMeaning}
use Rattle.ny_heap.specs.Reach.{HeapLaws}
use Rattle.ny_heap.specs.Steps.{IsHeldSound, IsHeldAt, IsCounted, with_sound}
use Rattle.ny_heap.specs.Sharing.{CanShare}
use Rattle.ny_heap.specs.declared.table.Table.{Table}
use Rattle.ny_heap.specs.View.{branches_of, state_of, HaveBranches}
use Rattle.ny_heap.proofs.LawLemmas.{heap_laws}
use Rattle.ny_heap.proofs.StepLemmas.{IsTable-held}
use Rattle.ny_heap.proofs.ShareLemmas.{few_of, share_heap, share_is, share_keeps}
use Rattle.ny_heap.proofs.heap.Heap.share.Goals as goal

lists : (s : Sound) (d : CursorState) → s.reader ≡ Some d → list_of s ≡ Some d.list
lists s d e = ap (λ (o : Option CursorState). list_of (record s { reader = o })) e

-- the sound that is shared is counted
counted : (B : Type 0) (h e : HeapState B) (s : Sound) (d : CursorState) → e ≡ h → s.reader ≡ Some d → IsHeldSound h s → IsCounted e s d.list
counted B h e s d is reads held = subst (IsHeldAt e s) (lists s d reads) (subst (λ g. IsHeldSound {B = B} g s) (sym is) held).1

pub share_reader-requires-clause-table : goal.share_reader-requires-clause-table
share_reader-requires-clause-table g c =
    let i = c.self.inside in
    let bs = branches_of (map deque_items i.branches.items) in
    IsTable-held g.row.B.Denot bs i.table [] i.fills i.peak c.self.invariant.heap.table c.args.s.now c.in-Some.c c.in-Some.is
    (counted g.row.B.Denot c.args.self.now (state_of bs i.table i.fills i.peak) c.args.s.now c.in-Some.c c.self.view_is c.in-Some.is c.requires.held)

pub share_reader-requires-clause-few : goal.share_reader-requires-clause-few
share_reader-requires-clause-few g c = λ l at.
    let i = c.self.inside in
    let bs = branches_of (map deque_items i.branches.items) in
    few_of g.row.B.Denot bs i.table c.self.invariant.heap.table c.self.invariant.have i.fills i.peak c.args.s.now c.in-Some.c.list (lists c.args.s.now c.in-Some.c c.in-Some.is)
    (subst (λ h. CanShare {B = g.row.B.Denot} h c.args.s.now) (sym c.self.view_is) c.requires.room) l at

pub invariant_of-self : goal.invariant_of-self
invariant_of-self g c =
    let i = c.self.inside in
    let bs = branches_of (map deque_items i.branches.items) in
    let v = c.self.invariant in
    let r = c.share_reader in
    record {
      heap = share_heap g.row.B.Denot bs i.table r.new.table i.fills i.peak v.heap c.args.s.now c.in-Some.c c.in-Some.is
          (counted g.row.B.Denot c.args.self.now (state_of bs i.table i.fills i.peak) c.args.s.now c.in-Some.c c.self.view_is c.in-Some.is c.requires.held)
          r.ensures.shared r.ensures.laws;
      have = subst (λ (q : Table). HaveBranches bs q) (sym r.ensures.shared) v.have;
      counted = v.counted ∙ sym (ap (λ t. length t.store.loose) r.ensures.shared);
      reached = v.reached;
      few = v.few;
      whole = v.whole ∙ sym (ap (λ t. t.block) r.ensures.shared);
    }

pub returns-in-None-clause-laws : goal.returns-in-None-clause-laws
returns-in-None-clause-laws g c =
    let i = c.self.inside in
    let bs = branches_of (map deque_items i.branches.items) in
    subst (HeapLaws {B = g.row.B.Denot}) c.self.view_is (heap_laws g.row.B.Denot bs i.table c.self.invariant.heap c.self.invariant.have i.fills i.peak)

pub returns-in-Some-clause-laws : goal.returns-in-Some-clause-laws
returns-in-Some-clause-laws g c =
    let i = c.self.inside in
    let bs = branches_of (map deque_items i.branches.items) in
    heap_laws g.row.B.Denot bs c.share_reader.new.table (invariant_of-self g c).heap (invariant_of-self g c).have i.fills i.peak

pub returns-in-Some-clause-heap : goal.returns-in-Some-clause-heap
returns-in-Some-clause-heap g c =
    let i = c.self.inside in
    let bs = branches_of (map deque_items i.branches.items) in
    let r = c.share_reader in
    share_is g.row.B.Denot bs i.table r.new.table i.fills i.peak c.self.invariant.heap c.args.s.now c.in-Some.c c.in-Some.is
    (counted g.row.B.Denot c.args.self.now (state_of bs i.table i.fills i.peak) c.args.s.now c.in-Some.c c.self.view_is c.in-Some.is c.requires.held)
    r.ensures.shared r.ensures.laws c.begin-in-Some.result (ap (λ (k : Sound). k.reader) c.begin-in-Some.ensures ∙ ap (λ k. Some k) r.ensures.same)
    ∙ ap (λ h. with_sound {B = g.row.B.Denot} h c.begin-in-Some.result) c.self.view_is

pub returns-in-Some-clause-keeps : goal.returns-in-Some-clause-keeps
returns-in-Some-clause-keeps g c =
    let i = c.self.inside in
    let bs = branches_of (map deque_items i.branches.items) in
    let r = c.share_reader in
    subst (λ h. KeepsMeaning {B = g.row.B.Denot} h (state_of bs r.new.table i.fills i.peak)) c.self.view_is
    (share_keeps g.row.B.Denot bs i.table r.new.table i.fills i.peak c.self.invariant.heap c.args.s.now c.in-Some.c c.in-Some.is
    (counted g.row.B.Denot c.args.self.now (state_of bs i.table i.fills i.peak) c.args.s.now c.in-Some.c c.self.view_is c.in-Some.is c.requires.held)
    r.ensures.shared r.ensures.laws)
