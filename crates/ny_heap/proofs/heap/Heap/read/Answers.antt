use Rattle.std.proofs.Common.{◌≡◌, ◌∙◌, ◌++◌, length, take, drop, Some, Option, sym, ap, subst, map, deque_items}
use Rattle.ny_list.specs.Store.{CursorState}
use Rattle.ny_heap.specs.declared.sound.Sound.{Sound}
use Rattle.ny_heap.specs.Heap.{HeapState, list_of, place_of}
use Rattle.ny_heap.specs.Means.{Means, KeepsMeaning, sound_in}
use Rattle.ny_heap.specs.Reach.{HeapLaws, IsTrimmed}
use Rattle.ny_heap.specs.Steps.{IsHeldSound, IsHeldAt, IsCounted, run_of, computed_in, advanced}
use Rattle.ny_heap.specs.declared.table.Table.{Table}
use Rattle.ny_heap.specs.View.{branches_of, state_of, HaveBranches}
use Rattle.ny_heap.proofs.LawLemmas.{heap_laws}
use Rattle.ny_heap.proofs.ShownLemmas.{read_held, read_computed, read_count, read_heap, read_trimmed, read_kept, read_shows}
use Rattle.ny_heap.proofs.heap.Heap.read.Goals as goal

lists : (s : Sound) (d : CursorState) → s.reader ≡ Some d → list_of s ≡ Some d.list
lists s d e = ap (λ (o : Option CursorState). list_of (record s { reader = o })) e

-- the sound that is read is counted
counted : (B : Type 0) (h e : HeapState B) (s : Sound) (d : CursorState) → e ≡ h → s.reader ≡ Some d → IsHeldSound h s → IsCounted e s d.list
counted B h e s d is reads held = subst (IsHeldAt e s) (lists s d reads) (subst (λ g. IsHeldSound {B = B} g s) (sym is) held).1

pub read_next-count-requires-clause-table : goal.read_next-count-requires-clause-table
read_next-count-requires-clause-table g c =
    let i = c.self.inside in
    let bs = branches_of (map deque_items i.branches.items) in
    let reads : c.args.s.now.reader ≡ Some c.in-Some.c = sym c.take.ensures.value ∙ c.in-Some.is in
    read_held g.row.B.Denot bs i.table i.table i.fills i.peak c.self.invariant.heap.table c.args.s.now c.in-Some.c c.in-Some.c reads
    (counted g.row.B.Denot c.args.self.now (state_of bs i.table i.fills i.peak) c.args.s.now c.in-Some.c c.self.view_is reads c.requires.held)

pub read_next-count-requires-clause-computed : goal.read_next-count-requires-clause-computed
read_next-count-requires-clause-computed g c =
    let i = c.self.inside in
    let bs = branches_of (map deque_items i.branches.items) in
    let reads : c.args.s.now.reader ≡ Some c.in-Some.c = sym c.take.ensures.value ∙ c.in-Some.is in
    read_computed g.row.B.Denot bs i.table i.table i.fills i.peak c.self.invariant.heap.table c.args.s.now c.in-Some.c c.in-Some.c reads
    (counted g.row.B.Denot c.args.self.now (state_of bs i.table i.fills i.peak) c.args.s.now c.in-Some.c c.self.view_is reads c.requires.held)

pub invariant_of-self : goal.invariant_of-self
invariant_of-self g c =
    let i = c.self.inside in
    let bs = branches_of (map deque_items i.branches.items) in
    let v = c.self.invariant in
    let r = c.read_next-count in
    let reads : c.args.s.now.reader ≡ Some c.in-Some.c = sym c.take.ensures.value ∙ c.in-Some.is in
    record {
      heap = read_heap g.row.B.Denot bs i.table r.new.table i.fills i.peak v.heap.table c.args.s.now c.in-Some.c r.new.c reads
          (counted g.row.B.Denot c.args.self.now (state_of bs i.table i.fills i.peak) c.args.s.now c.in-Some.c c.self.view_is reads c.requires.held)
          r.result (length c.args.out.now) c.args.s.now.timing.len r.ensures.count r.ensures.passed r.ensures.moved r.ensures.laws v.heap;
      have = subst (λ (q : Table). HaveBranches bs q) (sym r.ensures.moved) v.have;
      counted = v.counted ∙ sym (ap (λ t. length t.store.loose) r.ensures.moved);
      reached = v.reached;
      few = v.few;
      whole = v.whole ∙ sym (ap (λ t. t.block) r.ensures.moved);
    }

pub returns-in-None-clause-laws : goal.returns-in-None-clause-laws
returns-in-None-clause-laws g c =
    let i = c.self.inside in
    let bs = branches_of (map deque_items i.branches.items) in
    subst (HeapLaws {B = g.row.B.Denot}) c.self.view_is (heap_laws g.row.B.Denot bs i.table c.self.invariant.heap c.self.invariant.have i.fills i.peak)

pub returns-in-Some-clause-laws : goal.returns-in-Some-clause-laws
returns-in-Some-clause-laws g c =
    let i = c.self.inside in
    let bs = branches_of (map deque_items i.branches.items) in
    heap_laws g.row.B.Denot bs c.read_next-count.new.table (invariant_of-self g c).heap (invariant_of-self g c).have i.fills i.peak

pub returns-in-Some-clause-count : goal.returns-in-Some-clause-count
returns-in-Some-clause-count g c =
    let i = c.self.inside in
    let bs = branches_of (map deque_items i.branches.items) in
    let r = c.read_next-count in
    let reads : c.args.s.now.reader ≡ Some c.in-Some.c = sym c.take.ensures.value ∙ c.in-Some.is in
    subst (λ h. r.result ≡ run_of h.block (computed_in {B = g.row.B.Denot} h (list_of c.args.s.now)) c.args.s.now.timing.len (place_of c.args.s.now) (length c.args.out.now)) c.self.view_is
    (read_count g.row.B.Denot bs i.table i.table i.fills i.peak c.self.invariant.heap.table c.args.s.now c.in-Some.c c.in-Some.c reads
    (counted g.row.B.Denot c.args.self.now (state_of bs i.table i.fills i.peak) c.args.s.now c.in-Some.c c.self.view_is reads c.requires.held)
    r.result (length c.args.out.now) r.ensures.count)

pub returns-in-Some-clause-trimmed : goal.returns-in-Some-clause-trimmed
returns-in-Some-clause-trimmed g c =
    let i = c.self.inside in
    let bs = branches_of (map deque_items i.branches.items) in
    let r = c.read_next-count in
    let reads : c.args.s.now.reader ≡ Some c.in-Some.c = sym c.take.ensures.value ∙ c.in-Some.is in
    subst (λ h. IsTrimmed {B = g.row.B.Denot} (advanced h c.args.s.now (record c.args.s.now { reader = Some r.new.c })) (state_of bs r.new.table i.fills i.peak)) c.self.view_is
    (read_trimmed g.row.B.Denot bs i.table r.new.table i.fills i.peak c.self.invariant.heap.table c.args.s.now c.in-Some.c r.new.c reads
    (counted g.row.B.Denot c.args.self.now (state_of bs i.table i.fills i.peak) c.args.s.now c.in-Some.c c.self.view_is reads c.requires.held)
    r.result (length c.args.out.now) c.args.s.now.timing.len r.ensures.count r.ensures.passed r.ensures.moved r.ensures.laws)

pub returns-in-Some-clause-samples : goal.returns-in-Some-clause-samples
returns-in-Some-clause-samples g c = λ part w means.
    let i = c.self.inside in
    let bs = branches_of (map deque_items i.branches.items) in
    let r = c.read_next-count in
    let s : Sound = c.args.s.now in
    let reads : s.reader ≡ Some c.in-Some.c = sym c.take.ensures.value ∙ c.in-Some.is in
    r.ensures.samples (w.samples c.in-Some.c.list) (read_shows g.row.B.Denot bs i.table i.table i.fills i.peak c.self.invariant.heap.table s c.in-Some.c c.in-Some.c reads
    (counted g.row.B.Denot c.args.self.now (state_of bs i.table i.fills i.peak) s c.in-Some.c c.self.view_is reads c.requires.held)
    part w (subst (λ h. Means {B = g.row.B.Denot} part h w) (sym c.self.view_is) means))
    ∙ ap (λ (o : Option CursorState). take r.result (drop (place_of (record s { reader = o })) (sound_in w.samples (list_of (record s { reader = o })) s.timing).samples) ++ drop r.result c.args.out.now) (sym reads)

pub returns-in-Some-clause-keeps : goal.returns-in-Some-clause-keeps
returns-in-Some-clause-keeps g c =
    let i = c.self.inside in
    let bs = branches_of (map deque_items i.branches.items) in
    let r = c.read_next-count in
    let reads : c.args.s.now.reader ≡ Some c.in-Some.c = sym c.take.ensures.value ∙ c.in-Some.is in
    subst (λ h. KeepsMeaning {B = g.row.B.Denot} h (state_of bs r.new.table i.fills i.peak)) c.self.view_is
    (read_kept g.row.B.Denot bs i.table r.new.table i.fills i.peak c.self.invariant.heap.table c.args.s.now c.in-Some.c r.new.c reads
    (counted g.row.B.Denot c.args.self.now (state_of bs i.table i.fills i.peak) c.args.s.now c.in-Some.c c.self.view_is reads c.requires.held)
    r.result (length c.args.out.now) c.args.s.now.timing.len r.ensures.count r.ensures.passed r.ensures.moved r.ensures.laws)
