-- What a unit wants, by the table.
use Rattle.std.proofs.Common.{◌≡◌, ◌⊎◌, inl, inr, is_some, ◌≤◌, ℕ, zero, suc, ◌+◌, ◌*◌, ◌<◌, min, Bool, true, false, cond, nat_lt, List, [], length, get_or, map, Option, None, Some, IsSomeAnd, IsTrue, refl, sym, ap, ◌∙◌, arith}
use Rattle.std.proofs.lemmas.Bool.{cases_lt, true≢false}
use Rattle.std.specs.List.{range_with_len}
use Rattle.std.specs.Option.{option_map, option_map_or}
use Rattle.ny_list.specs.Store.{ListState, CursorState, list_at}
use Rattle.ny_list.proofs.IndexLemmas.{same_some, tab_get, tab_past}
use Rattle.ny_heap.specs.declared.table.Unit.{Unit as UnitData}
use Rattle.ny_heap.specs.declared.table.Table.{Table}
use Rattle.ny_heap.specs.Heap.{Reader, Node, node_at, input_at, is_open, computed_of, taken_after}
use Rattle.ny_heap.specs.Steps.{lacks, wants, want_of}
use Rattle.ny_heap.specs.Wanting.{NoneWanted}
use Rattle.ny_heap.specs.Work.{kind_of, inputs_in, cursor_at, need_in}
use Rattle.ny_heap.specs.Table.{unit_at, timing_at, input_of, readers_of, IsTable, IsThere, computed_in, computed_next_in, lacks_in, lacking_from, or_else, NoneBefore}
use Rattle.ny_heap.specs.View.{node_of, state_of, filled_in}
use Rattle.ny_heap.proofs.TakenLemmas.{need_is}
use Rattle.ny_heap.proofs.WantLemmas.{inputs_there}
use Rattle.ny_heap.proofs.DropLemmas.{there_of}
use Rattle.ny_heap.proofs.CountLemmas.{is_some_of}
use Rattle.ny_heap.proofs.ViewLemmas.{unit_of_node, node_of_unit, filled_is}

pub some_and : {A : Type 0} (o : Option A) (P : A → Type 0) → IsSomeAnd o P → (x : A) × (o ≡ Some x) × P x
some_and None P h = absurd h
some_and (Some x) P h = (x, refl, h)

module _ (B : Type 0) (bs : ℕ → List B) (t : Table) (table : IsTable t []) (fills peak : ℕ) (u : ℕ) (x : UnitData) (at : unit_at t u ≡ Some x) where
  list_u : (l : ListState) × (list_at t.store u ≡ Some l) × Rattle.ny_heap.specs.Table.IsUnit t u x l
  list_u = table.units u x at

  computed_is : (v : ℕ) → IsThere t v → option_map_or {U = ℕ} (computed_of {B = B} t.block) (node_at {B = B} (state_of bs t fills peak) v) 0 ≡ computed_in t v
  computed_is v there =
      ap (λ (o : Option (Node B)). option_map_or {U = ℕ} (computed_of {B = B} t.block) o 0) (node_of_unit B bs t fills peak v there.unit there.there)
      ∙ ap (λ n. min (n * t.block) there.unit.timing.len) (filled_is t.store v there.list there.listed)
      ∙ ap (min (length there.list.values * t.block)) (sym there.len)
      ∙ sym (ap (λ (o : Option ListState). option_map_or {U = ℕ} (λ l. min (length l.values * t.block) l.len) o 0) there.listed)

  step_is : (i : ℕ) (p : Option ℕ) → i < inputs_in x.work → (o : Option CursorState) → cursor_at x.work i ≡ o
      → cond (lacks {B = B} (state_of bs t fills peak) (node_of bs t [] u x) (option_map {U = Reader} (λ c. record { node = c.list; place = c.place; timing = timing_at x i }) o)) (option_map {U = ℕ} (λ r. r.node) (option_map {U = Reader} (λ c. record { node = c.list; place = c.place; timing = timing_at x i }) o)) p
      ≡ or_else (lacks_in t x (computed_next_in t u) o i) p
  step_is i p inside None is = refl
  step_is i p inside (Some c) is =
      ap (λ b. cond b (Some c.list) p) test ∙ by (nat_lt (computed_in t c.list) (need_in x.work i (computed_next_in t u)))
    where
      test : nat_lt (option_map_or {U = ℕ} (computed_of {B = B} t.block) (node_at {B = B} (state_of bs t fills peak) c.list) 0) (taken_after t.block (kind_of x.work) x.timing (timing_at x i) (filled_in t.store u + 1)) ≡ nat_lt (computed_in t c.list) (need_in x.work i (computed_next_in t u))
      test = λ k. nat_lt (computed_is c.list (inputs_there t u i x table at inside c is) k) (sym (need_is t table u x at i c inside is) k)

      by : (b : Bool) → cond b (Some c.list) p ≡ or_else (cond b (Some c.list) None) p
      by true = refl
      by false = refl

  wants_from : (i n : ℕ) → i + n ≡ inputs_in x.work → wants {B = B} (state_of bs t fills peak) (node_of bs t [] u x) (map (input_of x) (range_with_len i n)) ≡ lacking_from t x (computed_next_in t u) i n
  wants_from i zero e = refl
  wants_from i (suc n) e =
      ap (cond (lacks {B = B} (state_of bs t fills peak) (node_of bs t [] u x) (input_of x i)) (option_map {U = ℕ} (λ r. r.node) (input_of x i))) (wants_from (i + 1) n (omega (arith, e)))
      ∙ step_is i (lacking_from t x (computed_next_in t u) (i + 1) n) (omega (arith, e)) (cursor_at x.work i) refl

  pub want_is : want_of {B = B} (state_of bs t fills peak) u ≡ lacking_from t x (computed_next_in t u) 0 (inputs_in x.work)
  want_is =
      ap (λ (o : Option (Node B)). option_map_or (λ y. wants (state_of bs t fills peak) y y.inputs) o None) (node_of_unit B bs t fills peak u x at)
      ∙ wants_from 0 (length x.inputs.items) (omega (arith, list_u.2.count)) ∙ ap (lacking_from t x (computed_next_in t u) 0) list_u.2.count

  -- whether an input lacks, by the table
  lack_is : (i : ℕ) → i < inputs_in x.work → lacks {B = B} (state_of bs t fills peak) (node_of bs t [] u x) (get_or (readers_of x) i None) ≡ is_some (lacks_in t x (computed_next_in t u) (cursor_at x.work i) i)
  lack_is i inside = ap (lacks {B = B} (state_of bs t fills peak) (node_of bs t [] u x)) (tab_get (input_of x) (length x.inputs.items) i None (omega (arith, inside, list_u.2.count))) ∙ by_cursor (cursor_at x.work i) refl
    where
      by_cursor : (o : Option CursorState) → cursor_at x.work i ≡ o → lacks {B = B} (state_of bs t fills peak) (node_of bs t [] u x) (option_map {U = Reader} (λ c. record { node = c.list; place = c.place; timing = timing_at x i }) o) ≡ is_some (lacks_in t x (computed_next_in t u) o i)
      by_cursor None is = refl
      by_cursor (Some c) is = test ∙ by (nat_lt (computed_in t c.list) (need_in x.work i (computed_next_in t u)))
        where
          test : nat_lt (option_map_or {U = ℕ} (computed_of {B = B} t.block) (node_at {B = B} (state_of bs t fills peak) c.list) 0) (taken_after t.block (kind_of x.work) x.timing (timing_at x i) (filled_in t.store u + 1)) ≡ nat_lt (computed_in t c.list) (need_in x.work i (computed_next_in t u))
          test = λ k. nat_lt (computed_is c.list (inputs_there t u i x table at inside c is) k) (sym (need_is t table u x at i c inside is) k)

          by : (b : Bool) → b ≡ is_some (cond b (Some c.list) None)
          by true = refl
          by false = refl

  -- no input before a place lacks, as a contract says it and by the table
  pub none_before : (n : ℕ) → NoneWanted {B = B} (state_of bs t fills peak) u n → NoneBefore t x (computed_next_in t u) n
  none_before n none k before inside = nothing (lacks_in t x (computed_next_in t u) (cursor_at x.work k) k) (sym (lack_is k inside) ∙ none (node_of bs t [] u x) (node_of_unit B bs t fills peak u x at) k before)
    where
      nothing : (o : Option ℕ) → is_some o ≡ false → o ≡ None
      nothing None e = refl
      nothing (Some v) e = absurd (true≢false e)

  pub none_wanted : (n : ℕ) → NoneBefore t x (computed_next_in t u) n → NoneWanted {B = B} (state_of bs t fills peak) u n
  none_wanted n none y there k before =
      ap (λ (z : Node B). lacks {B = B} (state_of bs t fills peak) z (input_at z k)) (same_some (sym there ∙ node_of_unit B bs t fills peak u x at)) ∙ by_place (cases_lt k (inputs_in x.work))
    where
      by_place : (k < inputs_in x.work) ⊎ (inputs_in x.work ≤ k) → lacks {B = B} (state_of bs t fills peak) (node_of bs t [] u x) (get_or (readers_of x) k None) ≡ false
      by_place (inl inside) = lack_is k inside ∙ ap is_some (none k before inside)
      by_place (inr past) = ap (lacks {B = B} (state_of bs t fills peak) (node_of bs t [] u x)) (tab_past (input_of x) (length x.inputs.items) k None (omega (arith, past, list_u.2.count)))

-- an open unit, by the table
pub open_is : (B : Type 0) (bs : ℕ → List B) (t : Table) (fills peak u : ℕ) → IsTable t [] → IsSomeAnd (node_at {B = B} (state_of bs t fills peak) u) (λ x. IsTrue (is_open t.block x)) → (x : UnitData) × (unit_at t u ≡ Some x) × IsThere t u
open_is B bs t fills peak u table opened =
    let y = some_and _ _ opened in
    let x = unit_of_node B bs t fills peak u y.0 y.1 in
    let l = table.units u x.0 x.1 in
    (x.0, x.1, there_of t u [] table (is_some_of _ l.0 l.1))
