-- What holds once a unit has filled a block.
use Rattle.std.proofs.Common.{◌≡◌, ◌≢◌, inl, inr, ℕ, ◌+◌, ◌<◌, ◌≤◌, ◌&&◌, nat_lt, cond, Bool, true, false, List, [], length, Option, None, Some, refl, sym, ap, subst, ◌∙◌, arith, ℤ, ◌*◌}
use Rattle.std.specs.Option.{option_map}
use Rattle.std.proofs.lemmas.Bool.{cases_eq, cases_lt, lt-ltb, le-ltb, ltb-true, and_parts}
use Rattle.ny_num.specs.declared.timing.Timing.{Timing}
use Rattle.ny_list.specs.Store.{ListState, CursorState, list_at}
use Rattle.ny_list.proofs.IndexLemmas.{same_some, none_some}
use Rattle.ny_units.specs.Inputs.{IsReader}
use Rattle.ny_heap.specs.declared.table.Unit.{Unit as UnitData}
use Rattle.ny_heap.specs.declared.table.Table.{Table}
use Rattle.ny_heap.specs.Heap.{Reader, blocks_of, taken_after}
use Rattle.ny_heap.specs.Work.{kind_of, inputs_in, source_at, cursor_at, memory_in, waits_in}
use Rattle.ny_heap.specs.Table.{unit_at, timing_at, input_of}
use Rattle.ny_heap.specs.View.{filled_in, outside_in, HaveBranches, IsHeap, last_stop_in}
use Rattle.ny_heap.specs.Filling.{CanFill, Computes, Appends, Settles, FillsBlock, moved_in}
use Rattle.ny_heap.proofs.NeedLemmas.{taken_rises}
use Rattle.ny_heap.proofs.ViewLemmas.{filled_is}
use Rattle.ny_heap.proofs.MovesLemmas.{same_source}
use Rattle.ny_heap.proofs.AppendLemmas as more
use Rattle.ny_heap.proofs.KeepLemmas.{still_timely}
use Rattle.ny_num.specs.Grid.{index_at}

-- ---- an input once it was settled

-- a reader that is left is at the need, has something left to read, and its unit a block left to fill
pub moved_some : (block : ℕ) (x : UnitData) (n : ℕ) (o : Option Reader) (r : Reader) → moved_in block x n o ≡ Some r
    → (q : Reader) × (o ≡ Some q) × (r ≡ record q { place = taken_after block (kind_of x.work) x.timing q.timing n }) × (n < blocks_of block x.timing.len) × (taken_after block (kind_of x.work) x.timing q.timing n < q.timing.len)
moved_some block x n None r is = absurd (none_some is)
moved_some block x n (Some q) r is = by (nat_lt n (blocks_of block x.timing.len) && nat_lt (taken_after block (kind_of x.work) x.timing q.timing n) q.timing.len) refl
  where
    at : Reader
    at = record q { place = taken_after block (kind_of x.work) x.timing q.timing n }

    by : (b : Bool) → (nat_lt n (blocks_of block x.timing.len) && nat_lt (taken_after block (kind_of x.work) x.timing q.timing n) q.timing.len) ≡ b
        → (p : Reader) × (Some q ≡ Some p) × (r ≡ record p { place = taken_after block (kind_of x.work) x.timing p.timing n }) × (n < blocks_of block x.timing.len) × (taken_after block (kind_of x.work) x.timing p.timing n < p.timing.len)
    by true e =
        let both = and_parts (nat_lt n (blocks_of block x.timing.len)) (nat_lt (taken_after block (kind_of x.work) x.timing q.timing n) q.timing.len) e in
        (q, refl, same_some (sym is ∙ ap (λ b. cond b (Some (record q { place = taken_after block (kind_of x.work) x.timing q.timing n })) None) e), ltb-true n (blocks_of block x.timing.len) both.0, ltb-true _ _ both.1)
    by false e = absurd (none_some (sym (ap (λ b. cond b (Some (record q { place = taken_after block (kind_of x.work) x.timing q.timing n })) None) e) ∙ is))

-- one that is not left has passed all that it sees, where its unit has a block left to fill
pub moved_none : (block : ℕ) (x : UnitData) (n : ℕ) (q : Reader) → moved_in block x n (Some q) ≡ None → n < blocks_of block x.timing.len → q.timing.len ≤ taken_after block (kind_of x.work) x.timing q.timing n
moved_none block x n q is still = elim (cases_lt (taken_after block (kind_of x.work) x.timing q.timing n) q.timing.len) [
  | inl less ↦
      let tests : (nat_lt n (blocks_of block x.timing.len) && nat_lt (taken_after block (kind_of x.work) x.timing q.timing n) q.timing.len) ≡ true = λ i. lt-ltb n (blocks_of block x.timing.len) still i && lt-ltb (taken_after block (kind_of x.work) x.timing q.timing n) q.timing.len less i in
      absurd (none_some (sym is ∙ ap (λ b. cond b (Some (record q { place = taken_after block (kind_of x.work) x.timing q.timing n })) None) tests))
  | inr past ↦ past
]

-- by the kind and the timing of its unit alone
pub moved_like : (block : ℕ) (x y : UnitData) (n : ℕ) (o : Option Reader) → kind_of x.work ≡ kind_of y.work → x.timing ≡ y.timing → moved_in block x n o ≡ moved_in block y n o
moved_like block x y n None kind timing = refl
moved_like block x y n (Some q) kind timing = λ i. cond (nat_lt n (blocks_of block (timing i).len) && nat_lt (taken_after block (kind i) (timing i) q.timing n) q.timing.len) (Some (record q { place = taken_after block (kind i) (timing i) q.timing n })) None

-- ---- the table then

module _ (old new : Table) (u : ℕ) (out : List ℤ) (f : CanFill old u) (fills : FillsBlock old new u out) where
  abbrev p : Computes old fills.computed u out
  p = fills.computes

  abbrev a : Appends fills.computed fills.longer u out
  a = fills.appends

  abbrev s : Settles fills.longer new u 0 (inputs_in fills.computes.work)
  s = fills.settles

  -- the unit before, and after
  abbrev pub x : UnitData
  x = fills.computes.unit

  abbrev pub z : UnitData
  z = record fills.computes.unit { work = fills.settles.now.work }

  pub unit_was : unit_at old u ≡ Some fills.computes.unit
  unit_was = p.was

  was_is : s.was ≡ record p.unit { work = p.work }
  was_is = same_some (sym s.there ∙ more.unit_here old fills.computed fills.longer u out f p a)

  pub unit_now : unit_at new u ≡ Some (record fills.computes.unit { work = fills.settles.now.work })
  unit_now = s.after ∙ ap Some (s.is ∙ ap (λ (k : UnitData). record k { work = s.now.work }) was_is)

  pub same_kind : kind_of fills.settles.now.work ≡ kind_of fills.computes.unit.work
  same_kind = s.kind ∙ ap (λ (k : UnitData). kind_of k.work) was_is ∙ more.same_kinds old fills.computed fills.longer u out f p a

  pub same_memory : memory_in fills.settles.now.work ≡ memory_in fills.computes.work
  same_memory = s.memory ∙ ap (λ (k : UnitData). memory_in k.work) was_is

  pub block_same : new.block ≡ old.block
  block_same = s.block ∙ more.same_block old fills.computed fills.longer u out f p a

  pub pool_same : length new.store.loose ≡ length old.store.loose
  pool_same = s.pool ∙ ap (λ k. length k.loose) a.store ∙ ap (λ k. length k.loose) p.reworks.store

  list_u : (l : ListState) × (list_at new.store u ≡ Some l)
  list_u = let w = fills.table.units u z unit_now in (w.0, w.1)

  filled_mid : (w : ℕ) (l : ListState) → list_at new.store w ≡ Some l → filled_in new.store w ≡ filled_in fills.longer.store w
  filled_mid w l is = let k = s.lists w l is in filled_is new.store w l is ∙ k.2.filled ∙ sym (filled_is fills.longer.store w k.0 k.1)

  pub filled_new : filled_in new.store u ≡ filled_in old.store u + 1
  filled_new = filled_mid u list_u.0 list_u.1 ∙ more.filled_now old fills.computed fills.longer u out f p a

  -- another unit that is left is as it was
  pub other_was : (w : ℕ) (y : UnitData) → w ≢ u → unit_at new w ≡ Some y → unit_at old w ≡ Some y
  other_was w y ne at = sym (more.unit_else old fills.computed fills.longer u out f p a w ne) ∙ s.others w y ne at

  pub other_filled : (w : ℕ) (y : UnitData) → w ≢ u → unit_at new w ≡ Some y → filled_in new.store w ≡ filled_in old.store w
  other_filled w y ne at =
      let l = fills.table.units w y at in
      let k = s.lists w l.0 l.1 in
      let was : list_at old.store w ≡ Some k.0 = sym (more.list_else old fills.computed fills.longer u out f p a w ne) ∙ k.1 in
      filled_is new.store w l.0 l.1 ∙ k.2.filled ∙ sym (filled_is old.store w k.0 was)

  -- its work is of the kind that had computed the block
  pub work_kind : kind_of fills.settles.now.work ≡ kind_of fills.computes.work
  work_kind = s.kind ∙ ap (λ (k : UnitData). kind_of k.work) was_is

  pub input_count : length fills.computes.unit.inputs.items ≡ inputs_in fills.computes.work
  input_count =
      let w = (more.IsTable-filled old fills.computed fills.longer u out f p a).units u (record p.unit { work = p.work }) (more.unit_here old fills.computed fills.longer u out f p a) in
      w.2.count

  -- its inputs
  pub input_now : (i : ℕ) → i < length fills.computes.unit.inputs.items → input_of (record fills.computes.unit { work = fills.settles.now.work }) i ≡ moved_in old.block fills.computes.unit (filled_in old.store u + 1) (input_of fills.computes.unit i)
  input_now i inside =
      let y : UnitData = record p.unit { work = p.work } in
      let within : i < length s.was.inputs.items = omega (arith, inside, ap (λ (k : UnitData). length k.inputs.items) was_is) in
      ap (λ (k : UnitData). input_of (record k { work = s.now.work }) i) (sym was_is)
      ∙ ap (λ (k : UnitData). input_of k i) (sym s.is)
      ∙ s.inside i (omega arith) (omega (arith, inside, input_count)) within
      ∙ ap (λ b. moved_in b s.was (filled_in fills.longer.store u) (input_of s.was i)) (more.same_block old fills.computed fills.longer u out f p a)
      ∙ ap (λ (k : UnitData). moved_in old.block k (filled_in fills.longer.store u) (input_of k i)) was_is
      ∙ ap (λ n. moved_in old.block y n (input_of y i)) (more.filled_now old fills.computed fills.longer u out f p a)
      ∙ moved_like old.block y x (filled_in old.store u + 1) (input_of y i) (more.same_kinds old fills.computed fills.longer u out f p a) refl
      ∙ ap (moved_in old.block x (filled_in old.store u + 1)) (ap (option_map {U = Reader} (λ c. record { node = c.list; place = c.place; timing = timing_at x i })) (more.same_cursor old fills.computed fills.longer u out f p a i))

  reader_of_cursor : (i : ℕ) (c : CursorState) → cursor_at s.now.work i ≡ Some c → input_of z i ≡ Some (record { node = c.list; place = c.place; timing = timing_at x i })
  reader_of_cursor i c is = ap (option_map {U = Reader} (λ d. record { node = d.list; place = d.place; timing = timing_at x i })) is

  -- an input that is left
  left_input : (i : ℕ) (c : CursorState) → i < length x.inputs.items → cursor_at s.now.work i ≡ Some c
      → (c.place ≡ taken_after old.block (kind_of x.work) x.timing (timing_at x i) (filled_in old.store u + 1)) × (filled_in old.store u + 1 < blocks_of old.block x.timing.len) × (c.place < (timing_at x i).len)
  left_input i c inside is =
      let m = moved_some old.block x (filled_in old.store u + 1) (input_of x i) _ (sym (input_now i inside) ∙ reader_of_cursor i c is) in
      let timing : timing_at x i ≡ m.0.timing = ap (λ (k : Reader). k.timing) m.2 in
      let place : c.place ≡ taken_after old.block (kind_of x.work) x.timing (timing_at x i) (filled_in old.store u + 1) = ap (λ (k : Reader). k.place) m.2 ∙ ap (λ k. taken_after old.block (kind_of x.work) x.timing k (filled_in old.store u + 1)) (sym timing) in
      (place, m.3, omega (arith, ap (λ (k : Reader). k.place) m.2, m.4, ap (λ (k : Timing). k.len) timing))

  unit_same : (w : ℕ) (y : UnitData) → w ≡ u → unit_at new w ≡ Some y → y ≡ z
  unit_same w y e at = same_some (sym at ∙ ap (unit_at new) e ∙ unit_now)

  clean_here : (i : ℕ) (c : CursorState) → i < length x.inputs.items → cursor_at s.now.work i ≡ Some c → (c.place < c.visible) × (filled_in new.store u < blocks_of new.block x.timing.len)
  clean_here i c inside is =
      let l = left_input i c inside is in
      let w = fills.table.inputs u i z list_u.0 c unit_now list_u.1 inside is in (
        omega (arith, l.2, w.2.sees),
        subst (λ b. filled_in new.store u < blocks_of b x.timing.len) (sym block_same) (subst (λ n. n < blocks_of old.block x.timing.len) (sym filled_new) l.1),
      )

  taken_here : (i : ℕ) → taken_after old.block (kind_of x.work) x.timing (timing_at x i) (filled_in old.store u + 1) ≡ taken_after new.block (kind_of s.now.work) x.timing (timing_at x i) (filled_in new.store u)
  taken_here i = λ j. taken_after (sym block_same j) (sym same_kind j) x.timing (timing_at x i) (sym filled_new j)

  taken_other : (w i : ℕ) (y : UnitData) → w ≢ u → unit_at new w ≡ Some y → taken_after old.block (kind_of y.work) y.timing (timing_at y i) (filled_in old.store w) ≡ taken_after new.block (kind_of y.work) y.timing (timing_at y i) (filled_in new.store w)
  taken_other w i y ne at = λ j. taken_after (sym block_same j) (kind_of y.work) y.timing (timing_at y i) (sym (other_filled w y ne at) j)

  exhausted_here : (i : ℕ) → i < length x.inputs.items → IsReader (source_at s.now.work i) → cursor_at s.now.work i ≡ None → filled_in old.store u + 1 < blocks_of old.block x.timing.len
      → (timing_at x i).len ≤ taken_after old.block (kind_of x.work) x.timing (timing_at x i) (filled_in old.store u + 1)
  exhausted_here i inside reader none still = by (cursor_at x.work i) refl
    where
      within : i < length s.was.inputs.items
      within = omega (arith, inside, ap (λ (k : UnitData). length k.inputs.items) was_is)

      source : IsReader (source_at x.work i)
      source = subst IsReader (same_source x.work p.work _ i p.moves) (subst (λ (k : UnitData). IsReader (source_at k.work i)) was_is (s.sources i within reader))

      by : (o : Option CursorState) → cursor_at x.work i ≡ o → (timing_at x i).len ≤ taken_after old.block (kind_of x.work) x.timing (timing_at x i) (filled_in old.store u + 1)
      by None is = omega (arith, f.heap.exhausted u i x p.was inside source is (omega (arith, still)), taken_rises old.block (kind_of x.work) x.timing (timing_at x i) (filled_in old.store u))
      by (Some c) is =
          moved_none old.block x (filled_in old.store u + 1) (record { node = c.list; place = c.place; timing = timing_at x i })
          (ap (moved_in old.block x (filled_in old.store u + 1)) (sym (ap (option_map {U = Reader} (λ d. record { node = d.list; place = d.place; timing = timing_at x i })) is))
          ∙ sym (input_now i inside) ∙ ap (option_map {U = Reader} (λ d. record { node = d.list; place = d.place; timing = timing_at x i })) none) still

  -- once its last block is filled it waits for nothing
  waits_for_nothing : blocks_of old.block fills.computes.unit.timing.len ≤ filled_in old.store u + 1 → waits_in fills.settles.now.work ≡ []
  waits_for_nothing full = fills.waits ∙ ap (λ b. cond b (waits_in fills.computes.unit.work) []) (le-ltb (filled_in old.store u + 1) (blocks_of old.block fills.computes.unit.timing.len) full)

  -- what waits still has its branches
  pub have_filled : (B : Type 0) (bs : ℕ → List B) → HaveBranches bs old → HaveBranches bs new
  have_filled B bs have w y at = elim (cases_eq w u) [
    | inl e ↦ subst (λ v. length (waits_in y.work) ≤ length (bs v)) (sym e) (subst (λ (k : UnitData). length (waits_in k.work) ≤ length (bs u)) (sym (unit_same w y e at)) (subst (λ wss. length wss ≤ length (bs u)) (sym fills.waits) (few (nat_lt (filled_in old.store u + 1) (blocks_of old.block fills.computes.unit.timing.len)))))
    | inr ne ↦ have w y (other_was w y ne at)
  ]
    where
      few : (b : Bool) → length (cond b (waits_in fills.computes.unit.work) []) ≤ length (bs u)
      few true = have u x p.was
      few false = omega arith

  -- what the unit waits for it waited for
  waited : 0 < length (waits_in fills.settles.now.work) → 0 < length (waits_in fills.computes.unit.work)
  waited owes = by (nat_lt (filled_in old.store u + 1) (blocks_of old.block fills.computes.unit.timing.len)) (subst (λ wss. 0 < length wss) fills.waits owes)
    where
      by : (b : Bool) → 0 < length (cond b (waits_in fills.computes.unit.work) []) → 0 < length (waits_in fills.computes.unit.work)
      by true some = some
      by false none = absurd (omega (arith, none))

  pub IsHeap-fills : fills.computes.unit.pending ≡ 0
      → (0 < length (waits_in fills.computes.unit.work) → fills.computes.unit.timing.start + (filled_in old.store u + 1) * old.block ≤ index_at (last_stop_in 0 fills.computes.unit.inputs.items) fills.computes.unit.timing.rate) → IsHeap new
  IsHeap-fills pending settled = record {
    table = fills.table;
    read = fills.read;
    clean = λ w i y c at inside is. elim (cases_eq w u) [
      | inl e ↦
          let same = unit_same w y e at in
          let h = clean_here i c (subst (λ (k : UnitData). i < length k.inputs.items) same inside) (ap (λ (k : UnitData). cursor_at k.work i) (sym same) ∙ is) in
          (h.0, subst (λ v. filled_in new.store v < blocks_of new.block y.timing.len) (sym e) (subst (λ (k : UnitData). filled_in new.store u < blocks_of new.block k.timing.len) (sym same) h.1))
      | inr ne ↦
          let h = f.heap.clean w i y c (other_was w y ne at) inside is in
          (h.0, subst (λ b. filled_in new.store w < blocks_of b y.timing.len) (sym block_same) (subst (λ n. n < blocks_of old.block y.timing.len) (sym (other_filled w y ne at)) h.1))
    ];
    needs = λ w i y c at inside is. elim (cases_eq w u) [
      | inl e ↦
          let same = unit_same w y e at in
          (left_input i c (subst (λ (k : UnitData). i < length k.inputs.items) same inside) (ap (λ (k : UnitData). cursor_at k.work i) (sym same) ∙ is)).0
          ∙ taken_here i
          ∙ (λ j. taken_after new.block (kind_of (sym same j).work) (sym same j).timing (timing_at (sym same j) i) (filled_in new.store (sym e j)))
      | inr ne ↦ f.heap.needs w i y c (other_was w y ne at) inside is ∙ taken_other w i y ne at
    ];
    exhausted = λ w i y at inside reader none still. elim (cases_eq w u) [
      | inl e ↦
          let same = unit_same w y e at in
          let opened_now : filled_in old.store u + 1 < blocks_of old.block x.timing.len =
          subst (λ n. n < blocks_of old.block x.timing.len) filled_new (subst (λ b. filled_in new.store u < blocks_of b x.timing.len) block_same (subst (λ (k : UnitData). filled_in new.store u < blocks_of new.block k.timing.len) same (subst (λ v. filled_in new.store v < blocks_of new.block y.timing.len) e still))) in
          let far = exhausted_here i (subst (λ (k : UnitData). i < length k.inputs.items) same inside) (subst (λ (k : UnitData). IsReader (source_at k.work i)) same reader) (ap (λ (k : UnitData). cursor_at k.work i) (sym same) ∙ none) opened_now in
          subst (λ v. (timing_at y i).len ≤ taken_after new.block (kind_of y.work) y.timing (timing_at y i) (filled_in new.store v)) (sym e)
          (subst (λ (k : UnitData). (timing_at k i).len ≤ taken_after new.block (kind_of k.work) k.timing (timing_at k i) (filled_in new.store u)) (sym same) (subst (λ n. (timing_at x i).len ≤ n) (taken_here i) far))
      | inr ne ↦
          subst (λ n. (timing_at y i).len ≤ n) (taken_other w i y ne at)
          (f.heap.exhausted w i y (other_was w y ne at) inside reader none (subst (λ n. n < blocks_of old.block y.timing.len) (other_filled w y ne at) (subst (λ b. filled_in new.store w < blocks_of b y.timing.len) block_same still)))
    ];
    waits = λ w y at full. elim (cases_eq w u) [
      | inl e ↦
          let same = unit_same w y e at in
          let full_now : blocks_of old.block x.timing.len ≤ filled_in old.store u + 1 =
          subst (λ n. blocks_of old.block x.timing.len ≤ n) filled_new (subst (λ b. blocks_of b x.timing.len ≤ filled_in new.store u) block_same (subst (λ (k : UnitData). blocks_of new.block k.timing.len ≤ filled_in new.store u) same (subst (λ v. blocks_of new.block y.timing.len ≤ filled_in new.store v) e full))) in
          (ap (λ (k : UnitData). waits_in k.work) same ∙ waits_for_nothing full_now, ap (λ (k : UnitData). k.pending) same ∙ pending)
      | inr ne ↦ f.heap.waits w y (other_was w y ne at) (subst (λ b. blocks_of b y.timing.len ≤ filled_in old.store w) block_same (subst (λ n. blocks_of new.block y.timing.len ≤ n) (other_filled w y ne at) full))
    ];
    timely = λ w y at owes. elim (cases_eq w u) [
      | inl e ↦
          let same = unit_same w y e at in
          let some = waited (omega (arith, ap (λ (k : UnitData). length (waits_in k.work)) same, ap (λ (k : UnitData). k.pending) same, pending, owes)) in
          let now = still_timely x.timing.start (filled_in old.store u + 1) (filled_in new.store u) old.block new.block _ filled_new block_same (settled some) in
          subst (λ v. y.timing.start + filled_in new.store v * new.block ≤ index_at (last_stop_in 0 y.inputs.items) y.timing.rate) (sym e)
          (subst (λ (k : UnitData). k.timing.start + filled_in new.store u * new.block ≤ index_at (last_stop_in 0 k.inputs.items) k.timing.rate) (sym same) now)
      | inr ne ↦ still_timely y.timing.start (filled_in old.store w) (filled_in new.store w) old.block new.block _ (other_filled w y ne at) block_same (f.heap.timely w y (other_was w y ne at) owes)
    ];
  }

  -- ---- who else stands where

  -- who else stood in a block of what is left stands there still
  pub outside_same : (w j : ℕ) (y : UnitData) → unit_at new w ≡ Some y → outside_in new [] w j ≡ outside_in old [] w j
  outside_same w j y at =
      let l = fills.table.units w y at in
      let k = s.lists w l.0 l.1 in
      omega (
        arith,
        s.marks w j l.0 l.1,
        more.same_mark old fills.computed fills.longer u out f p a w j,
        more.same_own old fills.computed fills.longer u out f p a w j,
        fills.table.counted w j l.0 l.1,
        (more.IsTable-filled old fills.computed fills.longer u out f p a).counted w j k.0 k.1,
      )

  -- nobody else stood in what is gone
  pub outside_gone : (w j : ℕ) (k : ListState) → w ≢ u → list_at old.store w ≡ Some k → list_at new.store w ≡ None → outside_in old [] w j ≡ 0
  outside_gone w j k ne is none =
      omega (
        arith,
        s.gone w j k (more.list_else old fills.computed fills.longer u out f p a w ne ∙ is) none,
        more.same_mark old fills.computed fills.longer u out f p a w j,
        more.same_own old fills.computed fills.longer u out f p a w j,
      )

  -- and nobody in its new block
  pub outside_last : outside_in old [] u (filled_in old.store u + 1) ≡ 0
  outside_last =
      let l = f.heap.table.units u x p.was in
      let laws = f.heap.table.store.lists u l.0 l.1 in
      omega (
        arith,
        Rattle.ny_heap.proofs.ListLemmas.mark_is old.store u (filled_in old.store u + 1) l.0 l.1,
        Rattle.std.proofs.lemmas.List.get_or_past l.0.marks (filled_in old.store u + 1) 0 (omega (arith, laws.marks, filled_is old.store u l.0 l.1)),
      )
