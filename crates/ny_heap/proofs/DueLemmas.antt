-- Which part is due, and whether any waits, as the table has it.
use Rattle.std.proofs.Common.{◌≡◌, ℕ, zero, suc, ◌+◌, ◌*◌, ◌<◌, ◌≤◌, ◌&&◌, ◌||◌, inl, inr, nat_lt, Bool, true, false, cond, IsSome, IsSomeAnd, List, [], ◌∷◌, length, map, get_or, Option, None, Some, refl, sym, ap, subst, ◌∙◌, arith, ◌≢◌, set}
use Rattle.std.specs.List.{range_with_len, slice_get, list_any}
use Rattle.std.specs.Option.{option_map, option_map_or}
use Rattle.std.proofs.lemmas.Bool.{cases_lt, lt-ltb, le-ltb, ltb-true}
use Rattle.std.proofs.lemmas.List.{get_or_past}
use Rattle.ny_num.specs.Grid.{index_at}
use Rattle.ny_heap.specs.declared.sound.Sound.{Sound}
use Rattle.ny_heap.specs.declared.table.Unit.{Unit as UnitData}
use Rattle.ny_heap.specs.declared.table.Table.{Table}
use Rattle.ny_heap.specs.Heap.{Waiting, Node, node_at, is_open, blocks_of}
use Rattle.ny_heap.specs.Steps.{waiting_of}
use Rattle.ny_heap.specs.Work.{waits_in}
use Rattle.ny_heap.specs.Table.{unit_at, IsTable, IsThere}
use Rattle.ny_heap.specs.View.{node_of, state_of, filled_in, last_stop_in, waiting_with, HaveBranches, IsHeap}
use Rattle.ny_heap.specs.Revealing.{due_of, needs_part, waits_at, has_waiting}
use Rattle.ny_heap.specs.Attaching.{has_waits}
use Rattle.ny_heap.proofs.ViewLemmas.{node_of_unit, unit_of_node}
use Rattle.ny_heap.proofs.CountLemmas.{some_is}

-- a unit that is there is there in the table
pub unit_there : (B : Type 0) (bs : ℕ → List B) (t : Table) (fills peak u : ℕ) → IsSome (node_at {B = B} (state_of bs t fills peak) u) → (x : UnitData) × (unit_at t u ≡ Some x)
unit_there B bs t fills peak u there =
    let y = some_is (node_at {B = B} (state_of bs t fills peak) u) there in
    let x = unit_of_node B bs t fills peak u y.0 y.1 in
    (x.0, x.1)

-- a part is due where the test says so
abbrev pub IsDue : Table → ℕ → UnitData → Bool
IsDue t u x = nat_lt 0 (length (waits_in x.work)) && nat_lt (index_at (last_stop_in 0 x.inputs.items) x.timing.rate) (x.timing.start + (filled_in t.store u + 1) * t.block)

module _ (B : Type 0) (bs : ℕ → List B) (t : Table) (fills peak u : ℕ) (x : UnitData) (at : unit_at t u ≡ Some x) where
  due_node : due_of {B = B} (state_of bs t fills peak) u ≡ cond (needs_part t.block (node_of bs t [] u x)) (slice_get (waiting_with (bs u) (waits_in x.work)) 0) None
  due_node = ap (λ (o : Option (Node B)). option_map_or (λ y. cond (needs_part t.block y) (slice_get y.waiting 0) None) o None) (node_of_unit B bs t fills peak u x at)

  pub none_due : IsDue t u x ≡ false → due_of {B = B} (state_of bs t fills peak) u ≡ None
  none_due e = due_node ∙ by (waits_in x.work) refl (needs_part t.block (node_of {B = B} bs t [] u x)) refl
    where
      none_waits : (cs : List B) → slice_get (waiting_with cs []) 0 ≡ None
      none_waits [] = refl
      none_waits (c ∷ cs) = refl

      either : (b : Bool) → cond {A = Option (Waiting B)} b None None ≡ None
      either true = refl
      either false = refl

      by : (wss : List (List Sound)) → waits_in x.work ≡ wss → (b : Bool) → needs_part t.block (node_of {B = B} bs t [] u x) ≡ b → cond b (slice_get (waiting_with (bs u) wss) 0) None ≡ None
      by [] is b f = ap (λ (o : Option (Waiting B)). cond b o None) (none_waits (bs u)) ∙ either b
      by (ss ∷ wss) is false f = refl
      by (ss ∷ wss) is true f =
          let some : nat_lt 0 (length (waits_in x.work)) ≡ true = lt-ltb 0 (length (waits_in x.work)) (omega (arith, ap length is)) in
          absurd (never (sym (λ i. some i && f i) ∙ e))
        where
          never : true ≡ false → ⊥
          never q = cc

  -- the first that waits
  pub some_due : (branch : B) (rest : List B) (kept : List Sound) (later : List (List Sound)) → bs u ≡ branch ∷ rest → waits_in x.work ≡ kept ∷ later → IsDue t u x ≡ true → due_of {B = B} (state_of bs t fills peak) u ≡ Some (waiting_of (branch, kept))
  some_due branch rest kept later mine first e =
      due_node ∙ (λ i. cond (needs i) (slice_get (waiting_with (mine i) (first i)) 0) None)
    where
      second : (a b : Bool) → (a && b) ≡ true → b ≡ true
      second true b is = is
      second false b is = cc

      needs : needs_part t.block (node_of {B = B} bs t [] u x) ≡ true
      needs = second (nat_lt 0 (length (waits_in x.work))) (needs_part t.block (node_of {B = B} bs t [] u x)) e

pub waits_some : (t : Table) (u : ℕ) (x : UnitData) → IsDue t u x ≡ true → 0 < length (waits_in x.work)
waits_some t u x e = ltb-true 0 (length (waits_in x.work)) (first (nat_lt 0 (length (waits_in x.work))) (nat_lt (index_at (last_stop_in 0 x.inputs.items) x.timing.rate) (x.timing.start + (filled_in t.store u + 1) * t.block)) e)
  where
    first : (a b : Bool) → (a && b) ≡ true → a ≡ true
    first true b is = refl
    first false b is = cc

-- ---- whether any waits

-- the units of a table, place by place
module _ (B : Type 0) (bs : ℕ → List B) (t : Table) (fills peak : ℕ) (heap : IsHeap t) (have : HaveBranches bs t) where
  waiting_some : (b : Bool) (n m : ℕ) → (0 < m → b ≡ true) → (n ≡ m) → (b && nat_lt 0 n) ≡ nat_lt 0 m
  waiting_some b n m opened same = elim (cases_lt 0 m) [
    | inl some ↦ (λ i. opened some i && nat_lt 0 (same i))
    | inr none ↦ ap (λ k. b && nat_lt 0 k) same ∙ ap (λ c. b && c) (le-ltb 0 m none) ∙ off b ∙ sym (le-ltb 0 m none)
  ]
    where
      off : (b : Bool) → (b && false) ≡ false
      off true = refl
      off false = refl

  many : (cs : List B) (wss : List (List Sound)) → length wss ≤ length cs → length (waiting_with cs wss) ≡ length wss
  many [] [] le = refl
  many [] (ss ∷ wss) le = absurd (omega (arith, le))
  many (c ∷ cs) [] le = refl
  many (c ∷ cs) (ss ∷ wss) le = ap suc (many cs wss (omega (arith, le)))

  one_waits : (v : ℕ) (o : Option UnitData) → unit_at t v ≡ o → waits_at t.block (option_map (node_of {B = B} bs t [] v) o) ≡ has_waits o
  one_waits v None at = refl
  one_waits v (Some x) at = waiting_some (is_open t.block (node_of {B = B} bs t [] v x)) (length (waiting_with (bs v) (waits_in x.work))) (length (waits_in x.work)) opened (many (bs v) (waits_in x.work) (have v x at))
    where
      opened : 0 < length (waits_in x.work) → is_open t.block (node_of {B = B} bs t [] v x) ≡ true
      opened some = elim (cases_lt (filled_in t.store v) (blocks_of t.block x.timing.len)) [
        | inl less ↦ lt-ltb (filled_in t.store v) (blocks_of t.block x.timing.len) less
        | inr full ↦ absurd (omega (arith, some, ap length (heap.waits v x at full).0))
      ]

  all_wait : (os : List (Option UnitData)) (from : ℕ) → ((k : ℕ) → unit_at t (from + k) ≡ get_or os k None) → list_any (waits_at t.block) (map (λ v. option_map (node_of {B = B} bs t [] v) (unit_at t v)) (range_with_len from (length os))) ≡ list_any has_waits os
  all_wait [] from at = refl
  all_wait (o ∷ os) from at =
      let here : unit_at t from ≡ o = let e : from ≡ from + 0 = omega arith in ap (unit_at t) e ∙ at 0 in
      let one : waits_at t.block (option_map (node_of {B = B} bs t [] from) (unit_at t from)) ≡ has_waits o = ap (λ q. waits_at t.block (option_map (node_of {B = B} bs t [] from) q)) here ∙ one_waits from o here in
      let rest = all_wait os (from + 1) (λ k. let e : from + 1 + k ≡ from + suc k = omega arith in ap (unit_at t) e ∙ at (suc k)) in
      λ i. one i || rest i

  pub any_waiting : list_any has_waits t.units.items ≡ has_waiting {B = B} (state_of bs t fills peak)
  any_waiting = sym (all_wait t.units.items 0 (λ k. let e : 0 + k ≡ k = omega arith in ap (unit_at t) e))

-- ---- a unit and its branches

pub is_there : (B : Type 0) (bs : ℕ → List B) (t : Table) (fills peak u : ℕ) → IsTable t [] → IsSome (node_at {B = B} (state_of bs t fills peak) u) → IsThere t u
is_there B bs t fills peak u table there =
    let x = unit_there B bs t fills peak u there in
    let l = table.units u x.0 x.1 in
    record { unit = x.0; there = x.1; list = l.0; listed = l.1; end = l.2.end; len = l.2.len }

pub some_waits : (t : Table) (u : ℕ) (x : UnitData) → unit_at t u ≡ Some x → IsDue t u x ≡ true → IsSomeAnd (unit_at t u) (λ y. 0 < length (waits_in y.work))
some_waits t u x at due = subst (λ o. IsSomeAnd o (λ y. 0 < length (waits_in y.work))) (sym at) (waits_some t u x due)

-- where one has a branch it has a place
pub branch_place : {A : Type 0} (bss : List (List A)) (u : ℕ) → 0 < length (get_or bss u []) → u < length bss
branch_place bss u some = elim (cases_lt u (length bss)) [
  | inl h ↦ h
  | inr past ↦ absurd (omega (arith, some, ap length (get_or_past bss u [] past)))
]

module _ (B : Type 0) (bs : ℕ → List B) (t : Table) (fills peak u : ℕ) (x : UnitData) (at : unit_at t u ≡ Some x) (have : HaveBranches bs t) (due : IsDue t u x ≡ true) where
  pub branch_some : 0 < length (bs u)
  branch_some = omega (arith, have u x at, waits_some t u x due)

  -- the branch that is due
  pub branch_due : slice_get (bs u) 0 ≡ option_map (λ (p : Waiting B). p.branch) (due_of {B = B} (state_of bs t fills peak) u)
  branch_due = by (bs u) refl (waits_in x.work) refl
    where
      by : (cs : List B) → bs u ≡ cs → (wss : List (List Sound)) → waits_in x.work ≡ wss → slice_get (bs u) 0 ≡ option_map (λ (p : Waiting B). p.branch) (due_of {B = B} (state_of bs t fills peak) u)
      by [] e wss is = absurd (omega (arith, branch_some, ap length e))
      by (c ∷ cs) e [] is = absurd (omega (arith, waits_some t u x due, ap length is))
      by (c ∷ cs) e (ss ∷ wss) is = ap (λ ds. slice_get ds 0) e ∙ sym (ap (option_map (λ (p : Waiting B). p.branch)) (some_due B bs t fills peak u x at c cs ss wss e is due))

-- ---- a branch is taken out

module _ {A X : Type 0} (f : A → List X) where
  pub taken_first : (items : List A) (u : ℕ) (q new : A) (b : X) → 0 < length (get_or (map f items) u []) → q ≡ get_or items u q → f q ≡ b ∷ f new → get_or (map f items) u [] ≡ b ∷ get_or (map f (set items u new)) u []
  taken_first [] u q new b some is e = absurd (omega (arith, some))
  taken_first (i ∷ items) zero q new b some is e = ap f (sym is) ∙ e
  taken_first (i ∷ items) (suc u) q new b some is e = taken_first items u q new b some is e

  pub taken_other : (items : List A) (u v : ℕ) (new : A) → v ≢ u → get_or (map f (set items u new)) v [] ≡ get_or (map f items) v []
  taken_other [] u v new ne = refl
  taken_other (i ∷ items) zero zero new ne = absurd (ne refl)
  taken_other (i ∷ items) zero (suc v) new ne = refl
  taken_other (i ∷ items) (suc u) zero new ne = refl
  taken_other (i ∷ items) (suc u) (suc v) new ne = taken_other items u v new (λ e. ne (ap suc e))
