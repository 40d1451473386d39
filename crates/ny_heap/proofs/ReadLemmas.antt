-- A cursor in hand that goes on, and what it reads.
use Rattle.std.proofs.Common.{◌≡◌, inl, inr, ℕ, zero, suc, ◌+◌, ◌-◌, ◌*◌, ◌/◌, ◌%◌, ◌<◌, ◌≤◌, min, cond, List, [], ◌∷◌, ◌++◌, length, take, drop, get_or, Option, None, Some, IsSome, ◌⊎◌, refl, sym, ap, subst, ◌∙◌, arith, ℤ}
use Rattle.std.specs.Option.{option_map_or}
use Rattle.std.proofs.lemmas.List.{length-take, length-drop, drop-take}
use Rattle.std.proofs.lemmas.Bool.{cases_lt, ne_eqb}
use Rattle.std.proofs.lemmas.Nat.{mul-le}
use Rattle.std.proofs.Math.Nat.{div-lt_iff_lt-mul, suc-mul, mod-lt, mod-eq-sub-div-mul, div-mul-le_self}
use Rattle.ny_list.specs.Store as lists
use Rattle.ny_list.specs.Store.{ListState, StoreState, CursorState, list_at, mark_at, cursors_of, least, block_of}
use Rattle.ny_list.specs.Steps.{IsComputed}
use Rattle.ny_list.specs.Laws.{StoreLaws}
use Rattle.ny_list.specs.Reading.{Shows}
use Rattle.ny_list.proofs.ReadLemmas.{run_shown, run_seen_few}
use Rattle.ny_list.proofs.SettleLemmas.{least_at}
use Rattle.ny_heap.specs.declared.table.Unit.{Unit as UnitData}
use Rattle.ny_heap.specs.declared.table.Table.{Table}
use Rattle.ny_heap.specs.Heap.{blocks_of, stands_in, taken_after}
use Rattle.ny_heap.specs.Steps.{run_of}
use Rattle.ny_heap.proofs.TableLemmas.{place_within}
use Rattle.ny_heap.specs.Work.{kind_of}
use Rattle.ny_heap.specs.Table.{unit_at, timing_at, computed_in, IsTable}
use Rattle.ny_heap.specs.View.{filled_in, IsHeap}
use Rattle.ny_heap.proofs.CountLemmas.{some_is, cursor_counted}
use Rattle.ny_heap.proofs.HeardLemmas.{table_now, lists_now, IsRead-moved}
use Rattle.ny_heap.proofs.KeepLemmas.{still_timely}

-- ---- the table

module _ (t : Table) (c d : CursorState) (cs : List (Option CursorState)) (table : IsTable t (Some c ∷ cs)) (same : d.list ≡ c.list) (computed : d.place ≤ computed_in t c.list) where
  abbrev now : Table
  now = table_now t c d cs table same computed

  pub filled_now : (v : ℕ) (x : UnitData) → unit_at t v ≡ Some x → filled_in now.store v ≡ filled_in t.store v
  filled_now v x at =
      let u = table.units v x at in
      let n = (lists_now t c d cs table same computed).to v u.0 u.1 in
      ap (λ (o : Option ListState). option_map_or {U = ℕ} (λ k. length k.values) o 0) n.1 ∙ n.2.filled ∙ sym (ap (λ (o : Option ListState). option_map_or {U = ℕ} (λ k. length k.values) o 0) u.1)

  -- between two calls the heap is as it was, once the cursor is out of hand
  pub IsHeap-moved : IsHeap t → IsTable now [] → IsHeap now
  IsHeap-moved heap moved = record {
    table = moved;
    read = IsRead-moved t c d cs table same computed heap.read;
    clean = λ v i x k at inside cursor.
        let w = heap.clean v i x k at inside cursor in
        (w.0, subst (λ n. n < blocks_of t.block x.timing.len) (sym (filled_now v x at)) w.1);
    needs = λ v i x k at inside cursor. heap.needs v i x k at inside cursor ∙ ap (taken_after t.block (kind_of x.work) x.timing (timing_at x i)) (sym (filled_now v x at));
    exhausted = λ v i x at inside reader none more.
        subst (λ n. (timing_at x i).len ≤ taken_after t.block (kind_of x.work) x.timing (timing_at x i) n) (sym (filled_now v x at))
        (heap.exhausted v i x at inside reader none (subst (λ n. n < blocks_of t.block x.timing.len) (filled_now v x at) more));
    waits = λ v x at full. heap.waits v x at (subst (λ n. blocks_of t.block x.timing.len ≤ n) (filled_now v x at) full);
    timely = λ v x at owes. still_timely x.timing.start (filled_in t.store v) (filled_in now.store v) t.block t.block _ (filled_now v x at) refl (heap.timely v x at owes);
  }

-- ---- what is read at once

taken_less : (n k : ℕ) (xs : List ℤ) → n ≤ k → take n (take k xs) ≡ take n xs
taken_less zero k xs less = refl
taken_less (suc n) k [] less = ap (take (suc n)) (none k)
  where
    none : (k : ℕ) → take {A = ℤ} k [] ≡ []
    none zero = refl
    none (suc k) = refl
taken_less (suc n) zero (x ∷ xs) less = absurd (omega (arith, less))
taken_less (suc n) (suc k) (x ∷ xs) less = ap (λ ys. x ∷ ys) (taken_less n k xs (omega (arith, less)))

block_start : (place block : ℕ) → place / block * block + place % block ≡ place
block_start place block = omega (arith, mod-eq-sub-div-mul place block, div-mul-le_self place block)

-- the least cursor of a list stands no later than one that has not passed all of it
least_before : (s : StoreState) (c : CursorState) (x : ListState) → list_at s c.list ≡ Some x → 0 < mark_at s c → c.place < x.len → least x.marks ≤ c.place / s.block
least_before s c x is stands before =
    let here : stands_in s.block x.len c.place ≡ c.place / s.block = ap (λ b. cond {A = ℕ} b (blocks_of s.block x.len) (c.place / s.block)) (ne_eqb c.place x.len (λ e. omega (arith, e, before))) in
    let seen : 0 < get_or x.marks (stands_in s.block x.len c.place) 0 = subst (λ n. 0 < n) (ap (λ (o : Option ListState). option_map_or {U = ℕ} (λ y. get_or y.marks (stands_in s.block y.len c.place) 0) o 0) is) stands in
    subst (λ n. least x.marks ≤ n) here (least_at x.marks (stands_in s.block x.len c.place) seen)

-- the block in which a cursor stands, where the list is computed further
block_held : (s : StoreState) (c : CursorState) (x : ListState) → StoreLaws s → 0 < mark_at s c → list_at s c.list ≡ Some x → c.place < min (length x.values * s.block) x.len
    → (samples : List ℤ) × (get_or x.values (c.place / s.block) None ≡ Some samples)
block_held s c x laws stands is less =
    let filled : c.place / s.block < length x.values = (div-lt_iff_lt-mul {k = s.block} {x = c.place} {y = length x.values} laws.some).1 (omega (arith, less)) in
    some_is (get_or x.values (c.place / s.block) None) (((laws.lists c.list x is).kept (c.place / s.block) filled).1 (least_before s c x is stands (omega (arith, less))))

-- past what is computed a list has nothing
block_rest : (s : StoreState) (c : CursorState) (x : ListState) → StoreLaws s → list_at s c.list ≡ Some x → min (length x.values * s.block) x.len ≤ c.place → length (block_of x (c.place / s.block)) ≤ c.place % s.block
block_rest s c x laws is past = by (get_or x.values (c.place / s.block) None) refl
  where
    by : (o : Option (List ℤ)) → get_or x.values (c.place / s.block) None ≡ o → length (option_map_or (λ samples. samples) o []) ≤ c.place % s.block
    by None e = omega arith
    by (Some b) e =
        let filled : c.place / s.block < length x.values = place_within x.values (c.place / s.block) b e in
        let inside : c.place < length x.values * s.block = (div-lt_iff_lt-mul {k = s.block} {x = c.place} {y = length x.values} laws.some).0 filled in
        omega (arith, (laws.lists c.list x is).whole (c.place / s.block) b e, block_start c.place s.block, inside, past)

run_is : (s : StoreState) (c : CursorState) (x : ListState) → list_at s c.list ≡ Some x → length (lists.run_of s c c.place) ≡ min (c.visible - c.place) (length (block_of x (c.place / s.block)) - c.place % s.block)
run_is s c x is =
    omega (
      arith,
      ap (λ (o : Option ListState). length (option_map_or (λ y. take (c.visible - c.place) (drop (c.place % s.block) (block_of y (c.place / s.block)))) o [])) is,
      length-take (c.visible - c.place) (drop (c.place % s.block) (block_of x (c.place / s.block))),
      length-drop (c.place % s.block) (block_of x (c.place / s.block)),
    )

-- to the end of its block, of what is computed and of what the cursor sees
pub run_long : (s : StoreState) (c : CursorState) (x : ListState) → StoreLaws s → 0 < mark_at s c → list_at s c.list ≡ Some x
    → length (lists.run_of s c c.place) ≡ min ((c.place / s.block + 1) * s.block) (min (min (length x.values * s.block) x.len) c.visible) - c.place
run_long s c x laws stands is = elim (cases_lt c.place (min (length x.values * s.block) x.len)) [
  | inl less ↦
      let held = block_held s c x laws stands is less in
      let long : length held.0 ≡ min (x.len - c.place / s.block * s.block) s.block = (laws.lists c.list x is).whole (c.place / s.block) held.0 held.1 in
      let filled : c.place / s.block < length x.values = place_within x.values (c.place / s.block) held.0 held.1 in
      let next : c.place / s.block * s.block + s.block ≡ (c.place / s.block + 1) * s.block = omega (arith, suc-mul (c.place / s.block) s.block) in
      let upto : (c.place / s.block + 1) * s.block ≤ length x.values * s.block = mul-le (c.place / s.block + 1) s.block (length x.values) s.block (omega (arith, filled)) (omega arith) in
      omega (
        arith,
        run_is s c x is,
        ap (λ (o : Option (List ℤ)). length (option_map_or (λ samples. samples) o [])) held.1,
        long,
        block_start c.place s.block,
        mod-lt c.place laws.some,
        next,
        upto,
        less,
      )
  | inr past ↦ omega (arith, run_is s c x is, block_rest s c x laws is past, past)
]

-- the samples of a whole list
pub run_copied : (s : StoreState) (c : CursorState) (n : ℕ) (xs : List ℤ) → Shows s c.list xs → n ≤ length (lists.run_of s c c.place) → take n (lists.run_of s c c.place) ≡ take n (drop c.place (take c.visible xs))
run_copied s c n xs shows few =
    ap (take n) (run_shown s c c.place xs shows) ∙ taken_less n (length (lists.run_of s c c.place)) (drop c.place xs) few
    ∙ sym (by (cases_lt c.visible c.place))
  where
    by : (c.visible < c.place) ⊎ (c.place ≤ c.visible) → take n (drop c.place (take c.visible xs)) ≡ take n (drop c.place xs)
    by (inl before) =
        let none : n ≡ 0 = omega (arith, few, run_seen_few s c c.place, before) in
        ap (λ k. take k (drop c.place (take c.visible xs))) none ∙ sym (ap (λ k. take k (drop c.place xs)) none)
    by (inr after) =
        let e : c.place + (c.visible - c.place) ≡ c.visible = omega (arith, after) in
        ap (λ k. take n (drop c.place (take k xs))) (sym e) ∙ ap (take n) (drop-take c.place (c.visible - c.place) xs)
        ∙ taken_less n (c.visible - c.place) (drop c.place xs) (omega (arith, few, run_seen_few s c c.place))

-- k is the cursor c, which sees so many samples
module _ (t : Table) (c k : CursorState) (cs : List (Option CursorState)) (visible : ℕ) (table : IsTable t (Some c ∷ cs)) (sees : k ≡ record c { visible = visible }) where
  pub seen_marked : 0 < mark_at t.store k
  seen_marked = subst (λ (q : CursorState). 0 < mark_at t.store q) (sym sees) (cursor_counted t c cs table)

  seen_list : (l : ListState) × (list_at t.store k.list ≡ Some l)
  seen_list = some_is (list_at t.store k.list) (subst (λ (q : CursorState). IsSome (list_at t.store q.list)) (sym sees) (table.held 0 c refl))

  seen_computed : computed_in t c.list ≡ min (length seen_list.0.values * t.store.block) seen_list.0.len
  seen_computed =
      ap (λ (q : CursorState). computed_in t q.list) (sym sees)
      ∙ ap (λ (o : Option ListState). option_map_or {U = ℕ} (λ l. min (length l.values * t.block) l.len) o 0) seen_list.1
      ∙ ap (λ b. min (length seen_list.0.values * b) seen_list.0.len) (sym table.block)

  module _ (run out : List ℤ) (n : ℕ) (is : run ≡ lists.run_of t.store k k.place) (count : n ≡ min (length run) (length out)) where
    long : length run ≡ min ((k.place / t.store.block + 1) * t.store.block) (min (min (length seen_list.0.values * t.store.block) seen_list.0.len) k.visible) - k.place
    long = ap length is ∙ run_long t.store k seen_list.0 table.store seen_marked seen_list.1

    pub run_count : n ≡ run_of t.block (computed_in t c.list) visible c.place (length out)
    run_count =
        count ∙ omega (arith, long) ∙ ap (λ (q : CursorState). run_of t.store.block (min (length seen_list.0.values * t.store.block) seen_list.0.len) q.visible q.place (length out)) sees
        ∙ ap (λ m. run_of t.store.block m visible c.place (length out)) (sym seen_computed)
        ∙ ap (λ b. run_of b (computed_in t c.list) visible c.place (length out)) table.block

    pub run_passed : c.place ≤ computed_in t c.list → IsComputed t.store k n
    run_passed computed = record { list = seen_list.0; there = seen_list.1; computed = omega (arith, count, long, computed, seen_computed, ap (λ (q : CursorState). q.place) sees) }

    pub run_samples : (xs : List ℤ) → Shows t.store c.list xs → take n run ++ drop n out ≡ take n (drop c.place (take visible xs)) ++ drop n out
    run_samples xs shows =
        ap (λ ys. ys ++ drop n out)
        (ap (take n) is ∙ run_copied t.store k n xs (subst (λ (q : CursorState). Shows t.store q.list xs) (sym sees) shows) (omega (arith, count, ap length is))
        ∙ ap (λ (q : CursorState). take n (drop q.place (take q.visible xs))) sees)
