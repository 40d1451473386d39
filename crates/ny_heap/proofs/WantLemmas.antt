-- What a unit wants, and heaps without units.
use Rattle.std.proofs.Common.{◌≡◌, inl, inr, ℕ, zero, suc, ◌+◌, ◌-◌, ◌<◌, ◌≤◌, ◌^◌, min, max, List, [], ◌∷◌, length, get_or, replicate, Option, None, Some, IsSome, is_some, count_by, refl, sym, ap, subst, ◌∙◌, arith, cond}
use Rattle.std.specs.Option.{option_map}
use Rattle.std.proofs.lemmas.List.{length-replicate}
use Rattle.std.proofs.lemmas.Bool.{cases_lt}
use Rattle.ny_list.specs.Store.{ListState, CursorState, list_at}
use Rattle.ny_list.specs.Laws.{StoreLaws}
use Rattle.ny_list.proofs.IndexLemmas.{none_some}
use Rattle.ny_heap.specs.declared.table.Unit.{Unit as UnitData}
use Rattle.ny_heap.specs.declared.table.Table.{Table}
use Rattle.ny_heap.specs.Work.{inputs_in, cursor_at}
use Rattle.ny_heap.specs.Table.{unit_at, IsTable, IsThere, lacks_in, lacking_from, or_else, NoneBefore}
use Rattle.ny_heap.specs.View.{IsHeapInside}
use Rattle.ny_heap.proofs.CountLemmas.{is_some_of}
use Rattle.ny_heap.proofs.DropLemmas.{there_of}
use Rattle.std.proofs.Common.{Bool, false, nat_lt}
use Rattle.std.specs.Option.{option_map_or}
use Rattle.ny_heap.specs.declared.sound.Sound.{Sound}
use Rattle.ny_heap.specs.Heap.{Node, list_of, open_unit, is_open, blocks_of}
use Rattle.ny_heap.specs.Steps.{IsCounted, IsHeldAt, IsHeldSound}
use Rattle.ny_heap.specs.Table.{is_open_in}
use Rattle.ny_heap.specs.View.{state_of, filled_in}
use Rattle.ny_heap.proofs.ViewLemmas.{unit_of_node, node_of_unit, filled_is}

-- what an input reads is there
pub list_there : (t : Table) (o : Option CursorState) (v : ℕ) → ((c : CursorState) → o ≡ Some c → IsThere t c.list) → Some v ≡ option_map (λ (c : CursorState). c.list) o → IsThere t v
list_there t None v there is = absurd (none_some (sym is))
list_there t (Some c) v there is = subst (IsThere t) (same is) (there c refl)
  where
    same : {a b : ℕ} → Some a ≡ Some b → b ≡ a
    same q = cc

pub inputs_there : (t : Table) (u i : ℕ) (x : UnitData) → IsTable t [] → unit_at t u ≡ Some x → i < inputs_in x.work → (c : CursorState) → cursor_at x.work i ≡ Some c → IsThere t c.list
inputs_there t u i x table at inside c cursor =
    let l = table.units u x at in
    let a = table.inputs u i x l.0 c at l.1 (omega (arith, inside, l.2.count)) cursor in
    there_of t c.list [] table (is_some_of _ a.0 a.1)

-- no input before i lacks
pub record NoneLacks (t : Table) (x : UnitData) (done count i : ℕ) : Type 0 where
  pub counts : count ≡ inputs_in x.work
  pub within : i ≤ count
  pub none : NoneBefore t x done i
  pub rest : lacking_from t x done 0 count ≡ lacking_from t x done i (count - i)

next_lacks : (t : Table) (x : UnitData) (done count i : ℕ) → i < count → NoneLacks t x done count i → lacking_from t x done 0 count ≡ or_else (lacks_in t x done (cursor_at x.work i) i) (lacking_from t x done (i + 1) (count - (i + 1)))
next_lacks t x done count i inside n = let e : count - i ≡ suc (count - (i + 1)) = omega (arith, inside) in n.rest ∙ ap (lacking_from t x done i) e

pub NoneLacks-more : (t : Table) (x : UnitData) (done count i : ℕ) → i < count → NoneLacks t x done count i → None ≡ lacks_in t x done (cursor_at x.work i) i → NoneLacks t x done count (i + 1)
NoneLacks-more t x done count i inside n none = record {
  counts = n.counts;
  within = omega (arith, inside);
  none = λ k before there. elim (cases_lt k i) [
    | inl less ↦ n.none k less there
    | inr past ↦ let e : i ≡ k = omega (arith, before, past) in subst (λ j. lacks_in t x done (cursor_at x.work j) j ≡ None) e (sym none)
  ];
  rest = next_lacks t x done count i inside n ∙ ap (λ o. or_else o (lacking_from t x done (i + 1) (count - (i + 1)))) (sym none);
}

-- so where none before a place does
NoneLacks-to : (t : Table) (x : UnitData) (done count n i : ℕ) → count ≡ inputs_in x.work → i ≤ n → i ≤ count → NoneBefore t x done n → NoneLacks t x done count i
NoneLacks-to t x done count n zero is low within none = record { counts = is; within = omega arith; none = λ k before. absurd (omega (arith, before)); rest = let e : count ≡ count - 0 = omega arith in ap (lacking_from t x done 0) e }
NoneLacks-to t x done count n (suc i) is low within none =
    let e : i + 1 ≡ suc i = omega arith in
    subst (NoneLacks t x done count) e
    (NoneLacks-more t x done count i (omega (arith, within)) (NoneLacks-to t x done count n i is (omega (arith, low)) (omega (arith, within)) none) (sym (none i (omega (arith, low)) (omega (arith, within, is)))))

-- inputs at the front that read nothing don't lack
pub NoneBefore-over : (t : Table) (x : UnitData) (done n over : ℕ) → NoneBefore t x done n → ((k : ℕ) → k < over → cursor_at x.work k ≡ None) → NoneBefore t x done (max n over)
NoneBefore-over t x done n over none gone k before inside = elim (cases_lt k n) [
  | inl less ↦ none k less inside
  | inr past ↦ ap (λ o. lacks_in t x done o k) (gone k (omega (arith, before, past)))
]

pub NoneLacks-begun : (t : Table) (x : UnitData) (done count n i : ℕ) → count ≡ inputs_in x.work → i ≡ min n count → NoneBefore t x done n → NoneLacks t x done count i
NoneLacks-begun t x done count n i is least none = NoneLacks-to t x done count n i is (omega (arith, least)) (omega (arith, least)) none

pub NoneLacks-found : (t : Table) (x : UnitData) (done count i v : ℕ) → i < count → NoneLacks t x done count i → Some v ≡ lacks_in t x done (cursor_at x.work i) i → Some v ≡ lacking_from t x done 0 (inputs_in x.work)
NoneLacks-found t x done count i v inside n some =
    sym (ap (lacking_from t x done 0) (sym n.counts) ∙ next_lacks t x done count i inside n ∙ ap (λ o. or_else o (lacking_from t x done (i + 1) (count - (i + 1)))) (sym some))

pub NoneLacks-done : (t : Table) (x : UnitData) (done count i : ℕ) → count ≤ i → NoneLacks t x done count i → None ≡ lacking_from t x done 0 (inputs_in x.work)
NoneLacks-done t x done count i past n =
    let e : count - i ≡ 0 = omega (arith, past) in
    sym (ap (lacking_from t x done 0) (sym n.counts) ∙ n.rest ∙ ap (lacking_from t x done i) e)

-- ---- no units

none_some_count : (n : ℕ) → count_by is_some (replicate {A = Option (List Rattle.std.proofs.Common.ℤ)} n None) ≡ 0
none_some_count n = omega (arith, Rattle.std.proofs.lemmas.List.Folds.sum_by-replicate (λ (o : Option (List Rattle.std.proofs.Common.ℤ)). cond {A = ℕ} (is_some o) 1 0) n None)

pub opened_inside : (B : Type 0) (bs : ℕ → List B) (t : Table) (pool block : ℕ) (out : List Rattle.std.proofs.Common.ℤ) → t.store ≡ record { block = block; lists = []; loose = replicate pool None } → t.units.items ≡ [] → t.block ≡ block → StoreLaws t.store → length out ≡ block → IsHeapInside bs t pool 0 0 out
opened_inside B bs t pool block out store units same laws size = record {
  heap = record {
    table = record {
      store = laws;
      block = ap (λ s. s.block) store ∙ sym same;
      loose = ap (λ s. count_by is_some s.loose) store ∙ none_some_count pool;
      units = λ v x at. absurd (no_unit v x at);
      lists = λ v some. absurd (no_list v some);
      inputs = λ v i x k c at. absurd (no_unit v x at);
      kept = λ v i x s at. absurd (no_unit v x at);
      held = λ i c is. absurd (none_some is);
      counted = λ v j l is. absurd (no_list v (is_some_of _ l is));
      rank = λ v. 0;
      bound = 0;
      below = λ v x at. absurd (no_unit v x at);
      falls = λ v i x c at. absurd (no_unit v x at);
      keeps_lower = λ v i x s c at. absurd (no_unit v x at);
    };
    read = λ v l is. absurd (no_list v (is_some_of _ l is));
    clean = λ v i x c at. absurd (no_unit v x at);
    needs = λ v i x c at. absurd (no_unit v x at);
    exhausted = λ v i x at. absurd (no_unit v x at);
    waits = λ v x at. absurd (no_unit v x at);
    timely = λ v x at. absurd (no_unit v x at);
  };
  have = λ v x at. absurd (no_unit v x at);
  counted = sym (ap (λ s. length s.loose) store ∙ length-replicate {A = Option (List Rattle.std.proofs.Common.ℤ)} pool None);
  reached = omega arith;
  few = omega arith;
  whole = size ∙ sym same;
}
  where
    nothing : {A : Type 0} (v : ℕ) → get_or {A = Option A} [] v None ≡ None
    nothing zero = refl
    nothing (suc v) = refl

    no_unit : (v : ℕ) (x : UnitData) → unit_at t v ≡ Some x → ⊥
    no_unit v x at = none_some (sym (nothing v) ∙ sym (ap (λ xs. get_or xs v None) units) ∙ at)

    no_list : (v : ℕ) → IsSome (list_at t.store v) → ⊥
    no_list v some = none_some (sym (ap (λ s. list_at s v) store ∙ nothing v) ∙ (Rattle.ny_heap.proofs.CountLemmas.some_is (list_at t.store v) some).1)

-- ---- units by the table

module _ (B : Type 0) (bs : ℕ → List B) (t : Table) (table : IsTable t []) (fills peak : ℕ) where
  pub counted_there : (s : Sound) (n : ℕ) → IsCounted {B = B} (state_of bs t fills peak) s n → IsThere t n
  counted_there s n counted =
      let x = unit_of_node B bs t fills peak n counted.unit counted.there in
      let l = table.units n x.0 x.1 in
      there_of t n [] table (is_some_of _ l.0 l.1)

  pub held_there : (s : Sound) (n : ℕ) → Some n ≡ list_of s → IsHeldSound {B = B} (state_of bs t fills peak) s → IsThere t n
  held_there s n is held = counted_there s n (subst (IsHeldAt {B = B} (state_of bs t fills peak) s) (sym is) held.1)

  pub unit_is : (n : ℕ) (b : Bool) → IsThere t n → b ≡ is_open_in t n → open_unit {B = B} (state_of bs t fills peak) (Some n) ≡ cond b (Some n) None
  unit_is n b u is =
      let filled = filled_is t.store n u.list u.listed in
      let opened : is_open_in t n ≡ nat_lt (filled_in t.store n) (blocks_of t.block u.unit.timing.len) =
      ap (λ (o : Option ListState). option_map_or (λ l. nat_lt (length l.values) (blocks_of t.block l.len)) o false) u.listed
      ∙ ap (λ k. nat_lt k (blocks_of t.block u.list.len)) (sym filled) ∙ ap (λ k. nat_lt (filled_in t.store n) (blocks_of t.block k)) u.len in
      ap (λ (o : Option (Node B)). option_map_or (λ y. cond (is_open t.block y) (Some n) None) o None) (node_of_unit B bs t fills peak n u.unit u.there)
      ∙ ap (λ p. cond p (Some n) None) (sym opened ∙ sym is)

  pub open_sound : (s : Sound) (n : ℕ) (b : Bool) → Some n ≡ list_of s → IsHeldSound {B = B} (state_of bs t fills peak) s → b ≡ is_open_in t n → open_unit {B = B} (state_of bs t fills peak) (list_of s) ≡ cond b (Some n) None
  open_sound s n b is held opened = ap (open_unit {B = B} (state_of bs t fills peak)) (sym is) ∙ unit_is n b (held_there s n is held) opened
