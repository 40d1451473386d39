-- How many cursors stand in a block, and what a change of the lists alone leaves.
use Rattle.std.proofs.Common.{◌≡◌, ℕ, suc, ◌+◌, ◌*◌, ◌<◌, ◌≤◌, ◌&&◌, min, nat_eq, cond, List, ◌∷◌, ◌++◌, length, get_or, slice_get, inl, inr, Option, None, Some, IsSome, is_some, count_by, refl, sym, ap, subst, ◌∙◌, arith}
use Rattle.std.specs.List.{sum_by}
use Rattle.std.specs.Option.{option_map, option_map_or}
use Rattle.std.proofs.lemmas.List.Sums.{get_or-le-sum_by, sum_by-cons, sum_by-append}
use Rattle.std.proofs.lemmas.Bool.{eq-eqb}
use Rattle.ny_list.specs.Store.{ListState, StoreState, CursorState, list_at, mark_at}
use Rattle.ny_list.specs.Steps.{without_cursor}
use Rattle.ny_list.specs.Laws.{StoreLaws}
use Rattle.ny_list.proofs.IndexLemmas.{tab_get}
use Rattle.std.proofs.lemmas.List.FromFn.{length-map-range_with_len}
use Rattle.ny_heap.specs.declared.table.Unit.{Unit as UnitData}
use Rattle.ny_heap.specs.declared.table.Table.{Table}
use Rattle.ny_heap.specs.Heap.{Reader, is_reader, stands_in}
use Rattle.ny_heap.specs.declared.sound.Sound.{Sound}
use Rattle.ny_heap.specs.Work.{cursor_at, kept_in, cursors_of_sounds, HasGiven}
use Rattle.ny_heap.specs.Table.{unit_at, own_in, own_of, held_in, mark_in, len_of, stands_at, readers_of, input_of, timing_at, IsTable, IsUnit, IsInput, IsKept, KeepsList}
use Rattle.ny_heap.proofs.TableLemmas.{place_within}
use Rattle.ny_heap.proofs.ListLemmas.{Relists, len_kept, mark_is, len_is, mark_without, Relists-without}
use Rattle.ny_heap.proofs.KeepLemmas.{kept_at, HoldsCursor, IsKept-to}

pub with_store : Table → StoreState → Table
with_store t s = record t { store = s }

pub some_is : {A : Type 0} (o : Option A) → IsSome o → (a : A) × (o ≡ Some a)
some_is None some = absurd cc
some_is (Some a) some = (a, refl)

pub is_some_of : {A : Type 0} (o : Option A) (a : A) → o ≡ Some a → IsSome o
is_some_of o a is = subst (λ p. IsSome p) (sym is) refl

pub own_kept : (t : Table) (s : StoreState) (v j : ℕ) → len_of s v ≡ len_of t.store v → own_in (record t { store = s }) v j ≡ own_in t v j
own_kept t s v j e = ap (λ n. sum_by (λ (o : Option UnitData). option_map_or {U = ℕ} (own_of t.block n v j) o 0) t.units.items) e

pub held_kept : (t : Table) (s : StoreState) (cs : List (Option CursorState)) (v j : ℕ) → len_of s v ≡ len_of t.store v → held_in (record t { store = s }) cs v j ≡ held_in t cs v j
held_kept t s cs v j e = ap (λ n. sum_by (stands_at t.block n v j) cs) e

both_same : (a b : ℕ) → cond {A = ℕ} (nat_eq a a && nat_eq b b) 1 0 ≡ 1
both_same a b = ap (λ p. cond {A = ℕ} (p && nat_eq b b) 1 0) (eq-eqb a a refl) ∙ ap (λ p. cond {A = ℕ} p 1 0) (eq-eqb b b refl)

-- a cursor in hand is counted where it stands
pub held_one : (t : Table) (cs : List (Option CursorState)) (i : ℕ) (c : CursorState) → get_or cs i None ≡ Some c → 1 ≤ held_in t cs c.list (stands_in t.block (len_of t.store c.list) c.place)
held_one t cs i c is =
    let n : ℕ = len_of t.store c.list in
    let j : ℕ = stands_in t.block n c.place in
    let f = stands_at t.block n c.list j in
    let one : f (get_or cs i None) ≡ 1 = ap f is ∙ both_same c.list j in
    omega (arith, one, get_or-le-sum_by f cs i None (place_within cs i c is))

-- and so is that of an input
pub own_one : (t : Table) (u i : ℕ) (x : UnitData) (c : CursorState) → unit_at t u ≡ Some x → i < length x.inputs.items → cursor_at x.work i ≡ Some c → 1 ≤ own_in t c.list (stands_in t.block (len_of t.store c.list) c.place)
own_one t u i x c there inside at =
    let n : ℕ = len_of t.store c.list in
    let j : ℕ = stands_in t.block n c.place in
    let g = is_reader t.block n c.list j in
    let f = λ (o : Option UnitData). option_map_or {U = ℕ} (own_of t.block n c.list j) o 0 in
    let r : Reader = record { node = c.list; place = c.place; timing = timing_at x i } in
    let reads : get_or (readers_of x) i None ≡ Some r =
    tab_get (input_of x) (length x.inputs.items) i None inside ∙ ap (option_map {U = Reader} (λ d. record { node = d.list; place = d.place; timing = timing_at x i })) at in
    let one : g (get_or (readers_of x) i None) ≡ 1 = ap g reads ∙ both_same c.list j in
    let within : i < length (readers_of x) = omega (arith, inside, length-map-range_with_len (input_of x) 0 (length x.inputs.items)) in
    let of_x : f (get_or t.units.items u None) ≡ own_of t.block n c.list j x = ap f there in
    omega (arith, one, of_x, get_or-le-sum_by g (readers_of x) i None within, get_or-le-sum_by f t.units.items u None (place_within t.units.items u x there))

-- and that of a sound that a part keeps
pub kept_one : (t : Table) (u i : ℕ) (x : UnitData) (s : Sound) (c : CursorState) → unit_at t u ≡ Some x → slice_get (kept_in x.work) i ≡ Some s → s.reader ≡ Some c → 1 ≤ own_in t c.list (stands_in t.block (len_of t.store c.list) c.place)
kept_one t u i x s c there at reads =
    let n : ℕ = len_of t.store c.list in
    let j : ℕ = stands_in t.block n c.place in
    let g = stands_at t.block n c.list j in
    let f = λ (o : Option UnitData). option_map_or {U = ℕ} (own_of t.block n c.list j) o 0 in
    let is : get_or (cursors_of_sounds (kept_in x.work)) i None ≡ Some c = kept_at (kept_in x.work) i s at ∙ reads in
    let one : g (get_or (cursors_of_sounds (kept_in x.work)) i None) ≡ 1 = ap g is ∙ both_same c.list j in
    let of_x : f (get_or t.units.items u None) ≡ own_of t.block n c.list j x = ap f there in
    omega (arith, one, of_x, get_or-le-sum_by g (cursors_of_sounds (kept_in x.work)) i None (place_within (cursors_of_sounds (kept_in x.work)) i c is), get_or-le-sum_by f t.units.items u None (place_within t.units.items u x there))

-- so of each cursor of a unit
pub holds_one : (t : Table) (u : ℕ) (x : UnitData) (c : CursorState) → unit_at t u ≡ Some x → HoldsCursor x c → 1 ≤ own_in t c.list (stands_in t.block (len_of t.store c.list) c.place)
holds_one t u x c there (inl r) = own_one t u r.0 x c there r.1 r.2
holds_one t u x c there (inr k) = kept_one t u k.0 x k.1 c there k.2 k.3

-- its list is there
pub holds_list : (t : Table) (cs : List (Option CursorState)) (u : ℕ) (x : UnitData) (c : CursorState) → IsTable t cs → unit_at t u ≡ Some x → HoldsCursor x c → IsSome (list_at t.store c.list)
holds_list t cs u x c table there (inl r) = let l = table.units u x there in let a = table.inputs u r.0 x l.0 c there l.1 r.1 r.2 in is_some_of _ a.0 a.1
holds_list t cs u x c table there (inr k) = ((table.kept u k.0 x k.1 there k.2).some c k.3).0

-- and it stands lower
pub holds_lower : (t : Table) (cs : List (Option CursorState)) (u : ℕ) (x : UnitData) (c : CursorState) (table : IsTable t cs) → unit_at t u ≡ Some x → HoldsCursor x c → table.rank c.list < table.rank u
holds_lower t cs u x c table there (inl r) = table.falls u r.0 x c there r.1 r.2
holds_lower t cs u x c table there (inr k) = table.keeps_lower u k.0 x k.1 c there k.2 k.3

-- other cursors in hand
pub IsTable-hand : (t : Table) (cs ds : List (Option CursorState)) → IsTable t cs → ((i : ℕ) (c : CursorState) → get_or ds i None ≡ Some c → IsSome (list_at t.store c.list))
    → ((v j : ℕ) (l : ListState) → list_at t.store v ≡ Some l → held_in t ds v j ≤ held_in t cs v j) → IsTable t ds
IsTable-hand t cs ds table there less = record {
  store = table.store;
  block = table.block;
  loose = table.loose;
  units = table.units;
  lists = table.lists;
  inputs = table.inputs;
  kept = table.kept;
  held = there;
  counted = λ v j l is. omega (arith, table.counted v j l is, less v j l is);
  rank = table.rank;
  bound = table.bound;
  below = table.below;
  falls = table.falls;
  keeps_lower = table.keeps_lower;
}

IsUnit-kept : (t : Table) (s : StoreState) (v : ℕ) (x : UnitData) (k l : ListState) → KeepsList k l → IsUnit t v x k → IsUnit (record t { store = s }) v x l
IsUnit-kept t s v x k l keeps u = record {
  end = u.end;
  len = keeps.len ∙ u.len;
  some = u.some;
  early = u.early;
  count = u.count;
  sides = u.sides;
  begins = u.begins;
  brings = u.brings;
  hears = u.hears;
  given = subst (λ n. HasGiven x.work x.timing.len (min (n * t.block) x.timing.len)) (sym keeps.filled) u.given;
  places = u.places;
  timings = u.timings;
}

IsInput-kept : (t : Table) (s : StoreState) (x : UnitData) (i : ℕ) (c : CursorState) (k l : ListState) → KeepsList k l → IsInput t x i c k → IsInput (record t { store = s }) x i c l
IsInput-kept t s x i c k l keeps u = record {
  starts = u.starts;
  sees = u.sees;
  visible = subst (λ z. c.visible ≤ z) (sym keeps.len) u.visible;
  computed = subst (λ z. c.place ≤ z) (ap (λ z. min (z * t.block) k.len) (sym keeps.filled) ∙ ap (min (length l.values * t.block)) (sym keeps.len)) u.computed;
}

-- a sound that is kept where lists are others
IsKept-relisted : (t : Table) (s : StoreState) (q : Sound) → Relists t.store s → IsKept t q → IsKept (record t { store = s }) q
IsKept-relisted t s q r k =
    IsKept-to t (record t { store = s }) q
    (λ c is there. let l = some_is (list_at t.store c.list) there in let n = r.to c.list l.0 l.1 in (is_some_of _ n.0 n.1, len_kept t.store s c.list n.0 r n.1)) k

-- other lists, and other cursors in hand
pub IsTable-relisted : (t : Table) (s : StoreState) (cs ds : List (Option CursorState)) → IsTable t cs → Relists t.store s → StoreLaws s
    → ((i : ℕ) (c : CursorState) → get_or ds i None ≡ Some c → IsSome (list_at t.store c.list))
    → ((v j : ℕ) (l : ListState) → list_at t.store v ≡ Some l → own_in t v j + held_in t ds v j ≤ mark_in s v j)
    → IsTable (record t { store = s }) ds
IsTable-relisted t s cs ds table r laws there counted = record {
  store = laws;
  block = r.block ∙ table.block;
  loose = ap (count_by is_some) r.loose ∙ table.loose;
  units = λ v x is. let u = table.units v x is in let n = r.to v u.0 u.1 in (n.0, n.1, IsUnit-kept t s v x u.0 n.0 n.2 u.2);
  lists = λ v some. let l = some_is (list_at s v) some in let b = r.back v l.0 l.1 in table.lists v (is_some_of _ b.0 b.1);
  inputs = λ v i x k c is listed inside at.
      let b = r.back v k listed in
      let a = table.inputs v i x b.0 c is b.1 inside at in
      let n = r.to c.list a.0 a.1 in
      (n.0, n.1, IsInput-kept t s x i c a.0 n.0 n.2 a.2);
  kept = λ v i x q is at. IsKept-relisted t s q r (table.kept v i x q is at);
  held = λ i c is. let l = some_is (list_at t.store c.list) (there i c is) in let n = r.to c.list l.0 l.1 in is_some_of _ n.0 n.1;
  counted = λ v j l is.
      let b = r.back v l is in
      let e : len_of s v ≡ len_of t.store v = len_kept t.store s v l r is in
      omega (arith, own_kept t s v j e, held_kept t s ds v j e, counted v j b.0 b.1);
  rank = table.rank;
  bound = table.bound;
  below = table.below;
  falls = table.falls;
  keeps_lower = table.keeps_lower;
}

-- ---- a cursor leaves

pub cursor_counted : (t : Table) (c : CursorState) (cs : List (Option CursorState)) → IsTable t (Some c ∷ cs) → 0 < mark_at t.store c
cursor_counted t c cs table =
    let l = some_is (list_at t.store c.list) (table.held 0 c refl) in
    let j : ℕ = stands_in t.block (len_of t.store c.list) c.place in
    let e : j ≡ stands_in t.store.block l.0.len c.place = ap (λ n. stands_in t.block n c.place) (len_is t.store c.list l.0 l.1) ∙ ap (λ b. stands_in b l.0.len c.place) (sym table.block) in
    let m : mark_at t.store c ≡ get_or l.0.marks (stands_in t.store.block l.0.len c.place) 0 =
    ap (λ (o : Option ListState). option_map_or {U = ℕ} (λ x. get_or x.marks (stands_in t.store.block x.len c.place) 0) o 0) l.1 in
    omega (arith, held_one t (Some c ∷ cs) 0 c refl, table.counted c.list j l.0 l.1, mark_is t.store c.list j l.0 l.1, ap (λ i. get_or l.0.marks i 0) e, m)

pub left_is : (t : Table) (c : CursorState) (cs : List (Option CursorState)) (v j : ℕ) → IsTable t (Some c ∷ cs) → mark_in (without_cursor t.store c) v j + stands_at t.block (len_of t.store v) v j (Some c) ≡ mark_in t.store v j
left_is t c cs v j table =
    ap (λ b. mark_in (without_cursor t.store c) v j + stands_at b (len_of t.store v) v j (Some c)) (sym table.block)
    ∙ mark_without t.store c v j (cursor_counted t c cs table)

pub held_cons : (t : Table) (o : Option CursorState) (cs : List (Option CursorState)) (v j : ℕ) → held_in t (o ∷ cs) v j ≡ stands_at t.block (len_of t.store v) v j o + held_in t cs v j
held_cons t o cs v j = sum_by-cons (stands_at t.block (len_of t.store v) v j) o cs

pub held_append : (t : Table) (cs ds : List (Option CursorState)) (v j : ℕ) → held_in t (cs ++ ds) v j ≡ held_in t cs v j + held_in t ds v j
held_append t cs ds v j = sum_by-append (stands_at t.block (len_of t.store v) v j) cs ds

pub Relists-left : (t : Table) (c : CursorState) (cs : List (Option CursorState)) → IsTable t (Some c ∷ cs) → Relists t.store (without_cursor t.store c)
Relists-left t c cs table = let l = some_is (list_at t.store c.list) (table.held 0 c refl) in Relists-without t.store c l.0 l.1

pub IsTable-left : (t : Table) (c : CursorState) (cs : List (Option CursorState)) → IsTable t (Some c ∷ cs) → StoreLaws (without_cursor t.store c) → IsTable (record t { store = without_cursor t.store c }) cs
IsTable-left t c cs table laws =
    IsTable-relisted t (without_cursor t.store c) (Some c ∷ cs) cs table (Relists-left t c cs table) laws
    (λ i d is. table.held (suc i) d is)
    (λ v j l is. omega (arith, table.counted v j l is, left_is t c cs v j table, held_cons t (Some c) cs v j))
