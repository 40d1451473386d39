-- All inputs of a unit move on.
use Rattle.std.proofs.Common.{◌≡◌, ◌⊎◌, inl, inr, ℕ, ◌+◌, ◌<◌, ◌≤◌, ◌&&◌, cond, nat_lt, length, Option, None, Some, refl, sym, ap, subst, ◌∙◌, arith}
use Rattle.std.specs.Option.{option_map}
use Rattle.std.proofs.lemmas.Bool.{cases_lt}
use Rattle.ny_list.specs.Store.{ListState, CursorState, list_at}
use Rattle.ny_list.proofs.IndexLemmas.{same_some, none_some}
use Rattle.ny_units.specs.Inputs.{IsReader}
use Rattle.ny_heap.specs.declared.table.Unit.{Unit as UnitData}
use Rattle.ny_heap.specs.declared.table.Table.{Table}
use Rattle.ny_heap.specs.Heap.{Reader, blocks_of, taken_after}
use Rattle.ny_heap.specs.Work.{kind_of, memory_in, inputs_in, source_at, cursor_at, waits_in}
use Rattle.ny_heap.specs.Table.{unit_at, timing_at, input_of, mark_in, own_in}
use Rattle.ny_heap.specs.View.{filled_in}
use Rattle.ny_heap.specs.Filling.{HasInput, moved_in, Settling, Settles}
use Rattle.ny_heap.proofs.ListLemmas.{KeepsList-same, KeepsList-then}
use Rattle.ny_heap.proofs.KeepLemmas.{filled_is}

-- ---- an input that reads nothing

-- inputs from a later one on are to move on
settling_later : (t : Table) (u i j : ℕ) → i ≤ j → Settling t u i → Settling t u j
settling_later t u i j less s = record {
  table = s.table;
  read = s.read;
  unit = s.unit;
  there = s.there;
  before = s.before;
  filled = s.filled;
  places = λ k c from within cursor. s.places k c (omega (arith, from, less)) within cursor;
  computed = λ k c from within cursor. s.computed k c (omega (arith, from, less)) within cursor;
}

-- the next one
pub settling_stays : (t : Table) (u i : ℕ) → Settling t u i → Settling t u (i + 1)
settling_stays t u i s = settling_later t u i (i + 1) (omega arith) s

-- nothing is changed
pub Settles-same : (t : Table) (u i j : ℕ) (x : UnitData) → unit_at t u ≡ Some x → ((k : ℕ) → i ≤ k → k < j → cursor_at x.work k ≡ None) → Settles t t u i j
Settles-same t u i j x at none = record {
  was = x;
  there = at;
  now = x;
  after = at;
  is = refl;
  kind = refl;
  memory = refl;
  inside = λ k from to within.
      let f = λ (o : Option CursorState). option_map {U = Reader} (λ c. record { node = c.list; place = c.place; timing = timing_at x k }) o in
      ap f (none k from to) ∙ sym (ap (λ (o : Option CursorState). moved_in t.block x (filled_in t.store u) (f o)) (none k from to));
  outside = λ k out within. refl;
  sources = λ k within is. is;
  waits = inl refl;
  block = refl;
  pool = refl;
  slots = refl;
  others = λ w y ne is. is;
  lists = λ w l is. (l, is, KeepsList-same l l refl);
  marks = λ w j l is. refl;
  gone = λ w j k is none. absurd (none_some (sym none ∙ is));
}

pub Settles-stays : (t : Table) (u i : ℕ) (x : UnitData) → unit_at t u ≡ Some x → cursor_at x.work i ≡ None → Settles t t u i (i + 1)
Settles-stays t u i x at none = Settles-same t u i (i + 1) x at (λ k from to. let e : i ≡ k = omega (arith, from, to) in ap (cursor_at x.work) (sym e) ∙ none)

-- ---- one after another

moved_like : (block filled : ℕ) (x y : UnitData) (r : Option Reader) → x.timing ≡ y.timing → kind_of x.work ≡ kind_of y.work → moved_in block x filled r ≡ moved_in block y filled r
moved_like block filled x y None timing kind = refl
moved_like block filled x y (Some r) timing kind = λ j. cond (nat_lt filled (blocks_of block (timing j).len) && nat_lt (taken_after block (kind j) (timing j) r.timing filled) r.timing.len) (Some (record r { place = taken_after block (kind j) (timing j) r.timing filled })) None

input_like : (x y : UnitData) (k : ℕ) → timing_at x k ≡ timing_at y k → cursor_at x.work k ≡ cursor_at y.work k → input_of x k ≡ input_of y k
input_like x y k timing cursor = λ j. option_map {U = Reader} (λ c. record { node = c.list; place = c.place; timing = timing j }) (cursor j)

module _ (a b c : Table) (u i n : ℕ) (less : i ≤ n) (p : Settles a b u 0 i) (q : Settles b c u i n) (filled : filled_in b.store u ≡ filled_in a.store u) where
  mid : p.now ≡ q.was
  mid = same_some (sym p.after ∙ q.there)

  q_is : q.now ≡ record p.now { work = q.now.work }
  q_is = q.is ∙ ap (λ (z : UnitData). record z { work = q.now.work }) (sym mid)

  timing_p : (k : ℕ) → timing_at p.now k ≡ timing_at p.was k
  timing_p k = ap (λ (z : UnitData). timing_at z k) p.is

  timing_q : (k : ℕ) → timing_at q.now k ≡ timing_at q.was k
  timing_q k = ap (λ (z : UnitData). timing_at z k) q.is

  within_q : (k : ℕ) → k < length p.was.inputs.items → k < length q.was.inputs.items
  within_q k h = subst (λ (z : UnitData). k < length z.inputs.items) mid (subst (λ (z : UnitData). k < length z.inputs.items) (sym p.is) h)

  moved_mid : (k : ℕ) → moved_in b.block q.was (filled_in b.store u) (input_of q.was k) ≡ moved_in a.block p.was (filled_in a.store u) (input_of p.now k)
  moved_mid k =
      ap (λ (z : UnitData). moved_in b.block z (filled_in b.store u) (input_of z k)) (sym mid)
      ∙ (λ j. moved_in (p.block j) p.now (filled j) (input_of p.now k))
      ∙ moved_like a.block (filled_in a.store u) p.now p.was (input_of p.now k) (ap (λ (z : UnitData). z.timing) p.is) p.kind

  past_then : blocks_of b.block q.was.timing.len ≤ filled_in b.store u → blocks_of a.block p.was.timing.len ≤ filled_in a.store u
  past_then past =
      let len : q.was.timing.len ≡ p.was.timing.len = ap (λ (z : UnitData). z.timing.len) (sym mid) ∙ ap (λ (z : UnitData). z.timing.len) p.is in
      subst (λ (k : ℕ × ℕ × ℕ). blocks_of k.0 k.1 ≤ k.2) (λ j. (p.block j, len j, filled j)) past

  waits_then : (waits_in p.now.work ≡ waits_in p.was.work) ⊎ (blocks_of a.block p.was.timing.len ≤ filled_in a.store u) → (waits_in q.now.work ≡ waits_in q.was.work) ⊎ (blocks_of b.block q.was.timing.len ≤ filled_in b.store u)
      → (waits_in q.now.work ≡ waits_in p.was.work) ⊎ (blocks_of a.block p.was.timing.len ≤ filled_in a.store u)
  waits_then (inl first) (inl next) = inl (next ∙ ap (λ (z : UnitData). waits_in z.work) (sym mid) ∙ first)
  waits_then (inl first) (inr past) = inr (past_then past)
  waits_then (inr past) next = inr past

  pub Settles-then : Settles a c u 0 n
  Settles-then = record {
    was = p.was;
    there = p.there;
    now = q.now;
    after = q.after;
    is = q_is ∙ ap (λ (z : UnitData). record z { work = q.now.work }) p.is;
    kind = q.kind ∙ ap (λ (z : UnitData). kind_of z.work) (sym mid) ∙ p.kind;
    memory = q.memory ∙ ap (λ (z : UnitData). memory_in z.work) (sym mid) ∙ p.memory;
    inside = λ k from to within. elim (cases_lt k i) [
      | inl before ↦
          input_like q.now q.was k (timing_q k) (q.outside k (inl before) (within_q k within)) ∙ ap (λ (z : UnitData). input_of z k) (sym mid)
          ∙ p.inside k from before within
      | inr last ↦
          q.inside k last to (within_q k within) ∙ moved_mid k
          ∙ ap (moved_in a.block p.was (filled_in a.store u)) (input_like p.now p.was k (timing_p k) (p.outside k (inr last) within))
    ];
    outside = λ k out within. outside k out within;
    waits = waits_then p.waits q.waits;
    sources = λ k within is. p.sources k within (subst (λ (z : UnitData). IsReader (source_at z.work k)) (sym mid) (q.sources k (within_q k within) is));
    block = q.block ∙ p.block;
    pool = q.pool ∙ p.pool;
    slots = q.slots ∙ p.slots;
    others = λ w y ne is. p.others w y ne (q.others w y ne is);
    lists = λ w l is. let m = q.lists w l is in let k = p.lists w m.0 m.1 in (k.0, k.1, KeepsList-then k.0 m.0 l k.2 m.2);
    marks = λ w j l is. let m = q.lists w l is in omega (arith, q.marks w j l is, p.marks w j m.0 m.1);
    gone = λ w j k is none. gone w j k is none (list_at b.store w) refl;
  }
    where
      outside : (k : ℕ) → (k < 0) ⊎ (n ≤ k) → k < length p.was.inputs.items → cursor_at q.now.work k ≡ cursor_at p.was.work k
      outside k (inl none) within = absurd (omega (arith, none))
      outside k (inr after) within =
          q.outside k (inr after) (within_q k within) ∙ ap (λ (z : UnitData). cursor_at z.work k) (sym mid) ∙ p.outside k (inr (omega (arith, after, less))) within

      gone : (w j : ℕ) (k : ListState) → list_at a.store w ≡ Some k → list_at c.store w ≡ None → (o : Option ListState) → list_at b.store w ≡ o → mark_in a.store w j ≡ own_in a w j
      gone w j k is none None e = p.gone w j k is e
      gone w j k is none (Some m) e = omega (arith, q.gone w j m e none, p.marks w j m e)

-- ---- the loop over a unit's inputs

-- the first i of them have moved on
pub record Going (start t : Table) (u count i : ℕ) : Type 0 where
  pub settling : Settling t u i
  pub settles : Settles start t u 0 i
  pub counts : (x : UnitData) → unit_at start u ≡ Some x → (count ≡ inputs_in x.work) × (count ≡ length x.inputs.items)

-- those that read nothing are where they were
pub Going-begun : (t : Table) (u count over : ℕ) → Settling t u 0 → ((x : UnitData) → unit_at t u ≡ Some x → count ≡ inputs_in x.work) → ((x : UnitData) → unit_at t u ≡ Some x → (k : ℕ) → k < over → cursor_at x.work k ≡ None) → Going t t u count over
Going-begun t u count over s counts gone = record {
  settling = settling_later t u 0 over (omega arith) s;
  settles = Settles-same t u 0 over s.unit s.there (λ k from to. gone s.unit s.there k to);
  counts = λ x at. let l = s.table.units u x at in (counts x at, counts x at ∙ sym l.2.count);
}

module _ (start t : Table) (u count i : ℕ) (g : Going start t u count i) where
  pub going_input : i < count → HasInput t u i
  going_input less =
      let n = g.counts g.settles.was g.settles.there in
      let l = g.settling.table.units u g.settles.now g.settles.after in
      record {
        unit = g.settles.now;
        there = g.settles.after;
        inside = omega (arith, less, n.1, l.2.count, ap (λ (z : UnitData). length z.inputs.items) g.settles.is);
      }

  filled_then : filled_in t.store u ≡ filled_in start.store u
  filled_then =
      let l = g.settling.table.units u g.settles.now g.settles.after in
      let k = g.settles.lists u l.0 l.1 in
      filled_is t.store u l.0 l.1 ∙ k.2.filled ∙ sym (filled_is start.store u k.0 k.1)

  pub Going-more : (new : Table) → Settling new u (i + 1) → Settles t new u i (i + 1) → Going start new u count (i + 1)
  Going-more new s q = record { settling = s; settles = Settles-then start t new u i (i + 1) (omega arith) g.settles q filled_then; counts = g.counts }

  pub Going-done : (x : UnitData) → unit_at start u ≡ Some x → count ≤ i → i ≤ count → Settles start t u 0 (inputs_in x.work)
  Going-done x at past upto = let e : i ≡ inputs_in x.work = omega (arith, past, upto, (g.counts x at).0) in subst (Settles start t u 0) e g.settles
