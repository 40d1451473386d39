-- How the kept blocks of each kind are counted.
use Rattle.std.proofs.Common.{◌≡◌, ℕ, zero, suc, ◌+◌, ◌^◌, ◌<◌, ◌≤◌, Bool, true, false, cond, nat_eq, List, [], ◌∷◌, length, get_or, map, set, Option, None, Some, IsSome, is_some, sum_by, refl, sym, ap, ◌∙◌, arith}
use Rattle.std.proofs.lemmas.Bool.{eq-eqb, ne_eqb}
use Rattle.std.proofs.lemmas.List.FromFn.{length-map-range_with_len}
use Rattle.std.proofs.lemmas.List.Sums.{sum_by-cons}
use Rattle.std.specs.List.{range_with_len}
use Rattle.std.specs.Option.{option_map, option_map_or}
use Rattle.ny_list.specs.Store as lists
use Rattle.ny_list.specs.Store.{ListState, list_at}
use Rattle.ny_list.proofs.IndexLemmas.{tab_get, tab_same, tab_set}
use Rattle.ny_heap.specs.declared.table.Unit.{Unit as UnitData}
use Rattle.ny_heap.specs.declared.table.Table.{Table}
use Rattle.ny_heap.specs.Heap.{Node, node_at, kept_of}
use Rattle.ny_heap.specs.Kinds.{UnitKind, Const, Ramp, Osc, HzOsc, Lfo, Noise, Pwl, Data, Abs, Add, Sub, Mul, Max, Min, Resample, Filter, Mix, Channel, place_of_kind, unit_kind, kept_of_kinds, live_of_kind, live_by_kind}
use Rattle.ny_heap.specs.Work.{kind_of}
use Rattle.ny_heap.specs.Table.{unit_at, IsTable}
use Rattle.ny_heap.specs.View.{node_of, state_of, HaveBranches, IsHeap}
use Rattle.ny_heap.specs.Counting.{sum_below, kept_in_list, kept_as, kept_below}
use Rattle.ny_heap.proofs.ViewLemmas.{node_of_unit, no_node}
use Rattle.ny_heap.proofs.LawLemmas.{kept_is}

-- ---- sums

-- from the first on
shifted : (f : ℕ → ℕ) (n : ℕ) → sum_below f (suc n) ≡ f 0 + sum_below (λ k. f (suc k)) n
shifted f zero = omega arith
shifted f (suc n) = omega (arith, shifted f n)

sum_zero : (f : ℕ → ℕ) (n : ℕ) → ((k : ℕ) → f k ≡ 0) → sum_below f n ≡ 0
sum_zero f zero none = refl
sum_zero f (suc n) none = omega (arith, sum_zero f n none, none n)

sum_small : (f g : ℕ → ℕ) (n : ℕ) → ((k : ℕ) → f k ≤ g k) → sum_below f n ≤ sum_below g n
sum_small f g zero small = omega arith
sum_small f g (suc n) small = omega (arith, sum_small f g n small, small n)

one_more : (f : ℕ → ℕ) (n : ℕ) → sum_below f (n + 1) ≡ sum_below f n + f n
one_more f n = let next : n + 1 ≡ suc n = omega arith in ap (sum_below f) next

-- over the first places of a list no more than over all
sum_of_list : {A : Type 0} (f : Option A → ℕ) (xs : List (Option A)) (n : ℕ) → f None ≡ 0 → sum_below (λ k. f (get_or xs k None)) n ≤ sum_by f xs
sum_of_list f [] n none = omega (arith, sum_zero (λ k. f (get_or [] k None)) n (λ k. none))
sum_of_list f (x ∷ xs) zero none = omega arith
sum_of_list f (x ∷ xs) (suc n) none = omega (arith, shifted (λ k. f (get_or (x ∷ xs) k None)) n, sum_by-cons f x xs, sum_of_list f xs n none)

-- ---- what the code counts

pub place_small : (k : UnitKind) → place_of_kind k < 18
place_small Const = omega arith
place_small Ramp = omega arith
place_small Osc = omega arith
place_small HzOsc = omega arith
place_small Lfo = omega arith
place_small Noise = omega arith
place_small Pwl = omega arith
place_small Data = omega arith
place_small Abs = omega arith
place_small Add = omega arith
place_small Sub = omega arith
place_small Mul = omega arith
place_small Max = omega arith
place_small Min = omega arith
place_small Resample = omega arith
place_small Filter = omega arith
place_small Mix = omega arith
place_small Channel = omega arith

module _ (t : Table) where
  as_small : (place v : ℕ) → kept_as t place v ≤ kept_in_list t.store v
  as_small place v = by_unit (unit_at t v)
    where
      by_test : (b : Bool) → cond {A = ℕ} b (kept_in_list t.store v) 0 ≤ kept_in_list t.store v
      by_test true = omega arith
      by_test false = omega arith

      by_unit : (o : Option UnitData) → option_map_or {U = ℕ} (λ x. cond {A = ℕ} (nat_eq (place_of_kind (unit_kind (kind_of x.work))) place) (kept_in_list t.store v) 0) o 0 ≤ kept_in_list t.store v
      by_unit None = omega arith
      by_unit (Some x) = by_test (nat_eq (place_of_kind (unit_kind (kind_of x.work))) place)

  as_none : (place v : ℕ) → unit_at t v ≡ None → kept_as t place v ≡ 0
  as_none place v none = ap (λ (o : Option UnitData). option_map_or {U = ℕ} (λ x. cond {A = ℕ} (nat_eq (place_of_kind (unit_kind (kind_of x.work))) place) (kept_in_list t.store v) 0) o 0) none

  as_unit : (place v : ℕ) (x : UnitData) → unit_at t v ≡ Some x → kept_as t place v ≡ cond {A = ℕ} (nat_eq (place_of_kind (unit_kind (kind_of x.work))) place) (kept_in_list t.store v) 0
  as_unit place v x at = ap (λ (o : Option UnitData). option_map_or {U = ℕ} (λ y. cond {A = ℕ} (nat_eq (place_of_kind (unit_kind (kind_of y.work))) place) (kept_in_list t.store v) 0) o 0) at

  -- of a kind there are no more than all blocks
  pub few_kept : IsTable t [] → (place n : ℕ) → sum_below (kept_as t place) n ≤ length t.store.loose
  few_kept table place n =
      let each = sum_small (kept_as t place) (kept_in_list t.store) n (as_small place) in
      let all = sum_of_list (λ (o : Option ListState). option_map_or {U = ℕ} lists.kept_of o 0) t.store.lists n refl in
      omega (arith, each, all, table.store.taken)

  pub counts_len : (n : ℕ) → length (kept_below t n) ≡ 18
  counts_len n = length-map-range_with_len (λ place. sum_below (kept_as t place) n) 0 18

  module _ (v : ℕ) (x : UnitData) (there : unit_at t v ≡ Some x) (p : ℕ) (is : p ≡ place_of_kind (unit_kind (kind_of x.work))) where
    pub place_inside : p < length (kept_below t v)
    place_inside = omega (arith, is, place_small (unit_kind (kind_of x.work)), counts_len v)

    here : kept_as t p v ≡ kept_in_list t.store v
    here = as_unit p v x there ∙ ap (λ b. cond {A = ℕ} b (kept_in_list t.store v) 0) (eq-eqb (place_of_kind (unit_kind (kind_of x.work))) p (sym is))

    count_at : get_or (kept_below t v) p 0 ≡ sum_below (kept_as t p) v
    count_at = tab_get (λ place. sum_below (kept_as t place) v) 18 p 0 (omega (arith, is, place_small (unit_kind (kind_of x.work))))

    now_at : sum_below (kept_as t p) (v + 1) ≡ get_or (kept_below t v) p 0 + kept_in_list t.store v
    now_at = omega (arith, one_more (kept_as t p) v, here, count_at)

    -- the count is no greater than the pool
    pub count_few : IsTable t [] → get_or (kept_below t v) p 0 + kept_in_list t.store v ≤ length t.store.loose
    count_few table = omega (arith, now_at, few_kept table p (v + 1))

    -- one unit more
    pub counted : (n : ℕ) → n ≡ get_or (kept_below t v) p 0 + kept_in_list t.store v → set (kept_below t v) p n ≡ kept_below t (v + 1)
    counted n sum =
        tab_set (λ place. sum_below (kept_as t place) v) (λ place. sum_below (kept_as t place) (v + 1)) 18 p n 0 (omega (arith, is, place_small (unit_kind (kind_of x.work)))) (now_at ∙ sym sum) (λ k inside ne.
        let other : kept_as t k v ≡ 0 = as_unit k v x there ∙ ap (λ b. cond {A = ℕ} b (kept_in_list t.store v) 0) (ne_eqb (place_of_kind (unit_kind (kind_of x.work))) k (λ e. ne (sym (is ∙ e)))) in
        omega (arith, one_more (kept_as t k) v, other))

  -- where there is no unit
  pub counted_none : (v : ℕ) → unit_at t v ≡ None → kept_below t v ≡ kept_below t (v + 1)
  counted_none v none =
      tab_same (λ place. sum_below (kept_as t place) v) (λ place. sum_below (kept_as t place) (v + 1)) 18 0 (λ k inside. omega (arith, one_more (kept_as t k) v, as_none k v none))

-- what a store tells of a unit's list
module _ (t : Table) (table : IsTable t []) (v : ℕ) (x : UnitData) (there : unit_at t v ≡ Some x) where
  its_list : (l : ListState) × (list_at t.store x.list ≡ Some l) × (list_at t.store v ≡ Some l)
  its_list = let u = table.units v x there in (u.0, ap (list_at t.store) u.2.end ∙ u.1, u.1)

  pub list_there : IsSome (list_at t.store x.list)
  list_there = ap is_some its_list.1

  pub kept_told : (n : ℕ) → ((l : ListState) → list_at t.store x.list ≡ Some l → n ≡ lists.kept_of l) → n ≡ kept_in_list t.store v
  kept_told n told = told its_list.0 its_list.1 ∙ sym (ap (λ (o : Option ListState). option_map_or {U = ℕ} lists.kept_of o 0) its_list.2)

-- a count with those of one list more, as the code has them
module _ (t : Table) (table : IsTable t []) (v : ℕ) (x : UnitData) (there : unit_at t v ≡ Some x) (p : ℕ) (is : p ≡ place_of_kind (unit_kind (kind_of x.work))) (counts : List ℕ) (are : counts ≡ kept_below t v)
    (n : ℕ) (told : (l : ListState) → list_at t.store x.list ≡ Some l → n ≡ lists.kept_of l) where
  count_here : get_or counts p 0 + n ≡ get_or (kept_below t v) p 0 + kept_in_list t.store v
  count_here = omega (arith, ap (λ ns. get_or ns p 0) are, kept_told t table v x there n told)

  pub count_fits : get_or counts p 0 + n < 2 ^ 32
  count_fits = omega (arith, count_here, count_few t v x there p is table, table.store.few)

  pub counts_now : set counts p (get_or counts p 0 + n) ≡ kept_below t (v + 1)
  counts_now = ap (λ ns. set ns p (get_or counts p 0 + n)) are ∙ counted t v x there p is (get_or counts p 0 + n) count_here

-- ---- what is seen

module _ (B : Type 0) (bs : ℕ → List B) (t : Table) (heap : IsHeap t) (have : HaveBranches bs t) (fills peak : ℕ) where
  abbrev counted_in : ℕ → ℕ → Option (Node B) → ℕ
  counted_in place v o = cond {A = ℕ} (option_map_or {U = Bool} (λ (x : Node B). nat_eq (place_of_kind (unit_kind x.kind)) place) o false) (kept_of {B = B} (state_of bs t fills peak) v o) 0

  kinds_sum : (place v : ℕ) (os : List (Option (Node B))) (f : ℕ → ℕ) → ((i : ℕ) → i < length os → counted_in place (v + i) (get_or os i None) ≡ f i)
      → kept_of_kinds {B = B} (λ kind. nat_eq (place_of_kind kind) place) (state_of bs t fills peak) v os ≡ sum_below f (length os)
  kinds_sum place v [] f same = refl
  kinds_sum place v (o ∷ os) f same =
      let first : v + 0 ≡ v = omega arith in
      omega (
        arith,
        ap (λ n. counted_in place n o) first,
        same 0 (omega arith),
        kinds_sum place (suc v) os (λ i. f (suc i)) (λ i h. let next : suc v + i ≡ v + suc i = omega arith in ap (λ n. counted_in place n (get_or os i None)) next ∙ same (suc i) (omega (arith, h))),
        shifted f (length os),
      )

  counted_is : (place i : ℕ) (o : Option UnitData) → unit_at t i ≡ o → counted_in place i (node_at {B = B} (state_of bs t fills peak) i) ≡ kept_as t place i
  counted_is place i None none = ap (counted_in place i) (no_node B bs t fills peak i none) ∙ sym (as_none t place i none)
  counted_is place i (Some x) at =
      let node = node_of_unit B bs t fills peak i x at in
      ap (λ (o : Option (Node B)). cond {A = ℕ} (option_map_or {U = Bool} (λ (y : Node B). nat_eq (place_of_kind (unit_kind y.kind)) place) o false) (kept_of {B = B} (state_of bs t fills peak) i (node_at {B = B} (state_of bs t fills peak) i)) 0) node
      ∙ ap (λ n. cond {A = ℕ} (nat_eq (place_of_kind (unit_kind (kind_of x.work))) place) n 0) (kept_is B bs t heap have fills peak i (Some x) at)
      ∙ sym (as_unit t place i x at)

  pub by_kind_is : kept_below t (length t.units.items) ≡ live_by_kind {B = B} (state_of bs t fills peak)
  by_kind_is = tab_same (λ place. sum_below (kept_as t place) (length t.units.items)) (live_of_kind {B = B} (state_of bs t fills peak)) 18 0 (λ place inside. sym (of_kind place))
    where
      nodes : List (Option (Node B))
      nodes = map (λ w. option_map (node_of {B = B} bs t [] w) (unit_at t w)) (range_with_len 0 (length t.units.items))

      of_kind : (place : ℕ) → live_of_kind {B = B} (state_of bs t fills peak) place ≡ sum_below (kept_as t place) (length t.units.items)
      of_kind place =
          kinds_sum place 0 nodes (kept_as t place) (λ i h. let e : 0 + i ≡ i = omega arith in ap (λ n. counted_in place n (get_or nodes i None)) e ∙ counted_is place i (unit_at t i) refl)
          ∙ ap (sum_below (kept_as t place)) (length-map-range_with_len (λ w. option_map (node_of {B = B} bs t [] w) (unit_at t w)) 0 (length t.units.items))
