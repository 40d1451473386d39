use Rattle.std.proofs.Common.{◌≡◌, refl, ◌+◌, ◌-◌, ◌^◌, min, max, length, IsSomeAnd, IsTrue, sym, ap, subst, ◌∙◌, arith, map, deque_items}
use Rattle.std.proofs.lemmas.List.{with_items_is}
use Rattle.std.proofs.lemmas.Bool.{true≢false}
use Rattle.ny_heap.specs.Heap.{HeapState, node_at, is_open, free_of, live_of}
use Rattle.ny_heap.specs.Means.{KeepsMeaning}
use Rattle.ny_heap.specs.Reach.{HeapLaws}
use Rattle.ny_heap.specs.Steps.{want_of, IsSettledUnit, Fills}
use Rattle.ny_heap.specs.View.{branches_of, state_of}
use Rattle.ny_heap.proofs.LawLemmas.{heap_laws, live_is}
use Rattle.ny_heap.proofs.ReadyLemmas.{can_fill, still_settled, settled_until}
use Rattle.ny_heap.proofs.FillLemmas.{IsHeap-fills, have_filled, block_same, pool_same}
use Rattle.ny_heap.proofs.FillStepLemmas.{filled_is}
use Rattle.ny_heap.proofs.FillMeansLemmas.{fill_keeps}
use Rattle.ny_heap.proofs.heap.Heap.fill.Goals as goal

pub fill_block-requires-clause-ready : goal.fill_block-requires-clause-ready
fill_block-requires-clause-ready g c =
    let i = c.self.inside in
    let bs = branches_of (map deque_items i.branches.items) in
    can_fill g.row.B.Denot bs i.table i.fills i.peak c.args.u.0.0 c.self.invariant.heap (subst (λ (h : HeapState g.row.B.Denot). IsSomeAnd (node_at h c.args.u.0.0) (λ x. IsTrue (is_open h.block x))) (sym c.self.view_is) c.requires.«open») (ap (λ (h : HeapState g.row.B.Denot). want_of h c.args.u.0.0) c.self.view_is ∙ c.requires.ready)

pub returns-then-free-eq0-clause-laws : goal.returns-then-free-eq0-clause-laws
returns-then-free-eq0-clause-laws g c =
    let i = c.self.inside in
    let bs = branches_of (map deque_items i.branches.items) in
    subst (HeapLaws {B = g.row.B.Denot}) c.self.view_is (heap_laws g.row.B.Denot bs i.table c.self.invariant.heap c.self.invariant.have i.fills i.peak)

pub returns-then-free-eq0-clause-full : goal.returns-then-free-eq0-clause-full
returns-then-free-eq0-clause-full g c =
    let i = c.self.inside in
    let bs = branches_of (map deque_items i.branches.items) in
    let none : free_of {B = g.row.B.Denot} c.args.self.now ≡ 0 = subst (λ h. free_of {B = g.row.B.Denot} h ≡ 0) c.self.view_is (omega (arith, c.free-free.ensures.free, c.if-free-eq0.true, live_is g.row.B.Denot bs i.table c.self.invariant.heap c.self.invariant.have i.fills i.peak)) in
    (λ t. none, λ e. refl)

pub invariant_of-self : goal.invariant_of-self
invariant_of-self g c =
    let i = c.self.inside in
    let bs = branches_of (map deque_items i.branches.items) in
    let v = c.self.invariant in
    let ready = can_fill g.row.B.Denot bs i.table i.fills i.peak c.args.u.0.0 v.heap (subst (λ (h : HeapState g.row.B.Denot). IsSomeAnd (node_at h c.args.u.0.0) (λ x. IsTrue (is_open h.block x))) (sym c.self.view_is) c.requires.«open») (ap (λ (h : HeapState g.row.B.Denot). want_of h c.args.u.0.0) c.self.view_is ∙ c.requires.ready) in
    let settled = subst (λ (h : HeapState g.row.B.Denot). IsSomeAnd (node_at h c.args.u.0.0) (λ x. IsSettledUnit h.block x)) (sym c.self.view_is) c.requires.settled in
    let fills = c.fill_block.ensures.fills in
    let block = block_same i.table c.fill_block.new.table c.args.u.0.0 c.fill_block.new.out ready fills in
    let size = pool_same i.table c.fill_block.new.table c.args.u.0.0 c.fill_block.new.out ready fills in
    let most = live_is g.row.B.Denot bs i.table v.heap v.have i.fills i.peak in
    let still = still_settled g.row.B.Denot bs i.table i.fills i.peak c.args.u.0.0 ready fills.computes.unit fills.computes.was settled in
    record {
      heap = IsHeap-fills i.table c.fill_block.new.table c.args.u.0.0 c.fill_block.new.out ready fills still.0 (settled_until g.row.B.Denot bs i.table c.args.u.0.0 fills.computes.unit still (v.have c.args.u.0.0 fills.computes.unit fills.computes.was));
      have = have_filled i.table c.fill_block.new.table c.args.u.0.0 c.fill_block.new.out ready fills g.row.B.Denot bs v.have;
      counted = v.counted ∙ sym size;
      reached = omega (arith, c.max-self-inside.ensures, v.reached, v.counted, c.free-free.ensures.free, c.if-free-eq0.false);
      few = omega (arith, c.saturating_add-self-inside.ensures, v.few);
      whole = ap length (with_items_is i.out c.fill_block.new.out (omega (arith, c.fill_block.ensures.len, c.as_mut_slice.ensures.value, ap length c.as_mut_slice.ensures.value, i.out.ok.0))) ∙ c.fill_block.ensures.len ∙ ap length c.as_mut_slice.ensures.value ∙ v.whole ∙ sym block;
    }

pub returns-clause-laws : goal.returns-clause-laws
returns-clause-laws g c =
    let i = c.self.inside in
    let bs = branches_of (map deque_items i.branches.items) in
    heap_laws g.row.B.Denot bs c.fill_block.new.table (invariant_of-self g c).heap (invariant_of-self g c).have c.saturating_add-self-inside.result c.max-self-inside.result

pub returns-clause-full : goal.returns-clause-full
returns-clause-full g c =
    let i = c.self.inside in
    let bs = branches_of (map deque_items i.branches.items) in
    let some : free_of {B = g.row.B.Denot} c.args.self.now ≡ 0 → ⊥ = subst (λ h. free_of {B = g.row.B.Denot} h ≡ 0 → ⊥) c.self.view_is (λ e. absurd (omega (arith, e, c.free-free.ensures.free, c.if-free-eq0.false, live_is g.row.B.Denot bs i.table c.self.invariant.heap c.self.invariant.have i.fills i.peak))) in
    (λ t. absurd (true≢false (sym t)), λ e. absurd (some e))

pub returns-clause-fills : goal.returns-clause-fills
returns-clause-fills g c =
    let i = c.self.inside in
    let bs = branches_of (map deque_items i.branches.items) in
    let v = c.self.invariant in
    let ready = can_fill g.row.B.Denot bs i.table i.fills i.peak c.args.u.0.0 v.heap (subst (λ (h : HeapState g.row.B.Denot). IsSomeAnd (node_at h c.args.u.0.0) (λ x. IsTrue (is_open h.block x))) (sym c.self.view_is) c.requires.«open») (ap (λ (h : HeapState g.row.B.Denot). want_of h c.args.u.0.0) c.self.view_is ∙ c.requires.ready) in
    let counts : c.saturating_add-self-inside.result ≡ min (i.fills + 1) (2 ^ 64 - 1) = omega (arith, c.saturating_add-self-inside.ensures) in
    let peaks : c.max-self-inside.result ≡ max i.peak (live_of {B = g.row.B.Denot} (state_of bs i.table i.fills i.peak) + 1) = omega (arith, c.max-self-inside.ensures, v.counted, c.free-free.ensures.free, c.if-free-eq0.false, live_is g.row.B.Denot bs i.table v.heap v.have i.fills i.peak) in
    subst (λ h. Fills {B = g.row.B.Denot} h (state_of bs c.fill_block.new.table c.saturating_add-self-inside.result c.max-self-inside.result) c.args.u.0.0) c.self.view_is
    (filled_is g.row.B.Denot bs i.table c.fill_block.new.table c.args.u.0.0 c.fill_block.new.out ready c.fill_block.ensures.fills i.fills i.peak c.saturating_add-self-inside.result c.max-self-inside.result counts peaks)

pub returns-clause-keeps : goal.returns-clause-keeps
returns-clause-keeps g c =
    let i = c.self.inside in
    let bs = branches_of (map deque_items i.branches.items) in
    let v = c.self.invariant in
    let ready = can_fill g.row.B.Denot bs i.table i.fills i.peak c.args.u.0.0 v.heap (subst (λ (h : HeapState g.row.B.Denot). IsSomeAnd (node_at h c.args.u.0.0) (λ x. IsTrue (is_open h.block x))) (sym c.self.view_is) c.requires.«open») (ap (λ (h : HeapState g.row.B.Denot). want_of h c.args.u.0.0) c.self.view_is ∙ c.requires.ready) in
    let settled = subst (λ (h : HeapState g.row.B.Denot). IsSomeAnd (node_at h c.args.u.0.0) (λ x. IsSettledUnit h.block x)) (sym c.self.view_is) c.requires.settled in
    let fills = c.fill_block.ensures.fills in
    subst (λ h. KeepsMeaning {B = g.row.B.Denot} h (state_of bs c.fill_block.new.table c.saturating_add-self-inside.result c.max-self-inside.result)) c.self.view_is
    (fill_keeps g.row.B.Denot bs i.table c.fill_block.new.table c.args.u.0.0 c.fill_block.new.out ready c.fill_block.ensures.fills (c.fill_block.ensures.len ∙ ap length c.as_mut_slice.ensures.value ∙ v.whole)
    (still_settled g.row.B.Denot bs i.table i.fills i.peak c.args.u.0.0 ready fills.computes.unit fills.computes.was settled) i.fills i.peak c.saturating_add-self-inside.result c.max-self-inside.result)
