-- Places for units and lists that have nothing yet.
use Rattle.std.proofs.Common.{◌≡◌, inl, inr, ℕ, zero, suc, ◌-◌, ◌*◌, ◌≤◌, min, List, [], ◌∷◌, ◌++◌, length, get_or, replicate, Option, None, IsSome, is_some, refl, sym, ap, subst, ◌∙◌, arith, append_assoc, append-nil, count_by}
use Rattle.std.specs.List.{sum_by}
use Rattle.std.specs.Option.{option_map_or}
use Rattle.std.proofs.lemmas.List.{get_or_append_left, get_or-append_right, get_or_past}
use Rattle.std.proofs.lemmas.List.Sums.{sum_by-append}
use Rattle.std.proofs.lemmas.Bool.{cases_lt}
use Rattle.ny_list.specs.Store.{ListState, CursorState, list_at}
use Rattle.ny_list.specs.Laws.{StoreLaws}
use Rattle.ny_heap.specs.declared.table.Unit.{Unit as UnitData}
use Rattle.ny_heap.specs.declared.table.Table.{Table}
use Rattle.ny_heap.specs.Table.{unit_at, own_in, own_of, held_in, len_of, mark_in, stands_at, IsTable, IsUnit, IsInput}
use Rattle.ny_heap.specs.View.{filled_in}
use Rattle.ny_heap.specs.Making.{More, Grows}
use Rattle.ny_heap.proofs.KeepLemmas.{IsKept-to}

module _ {A : Type 0} where
  pub More-same : (xs : List (Option A)) → More xs xs
  More-same xs = (0, sym (append-nil xs))

  one_none : (n : ℕ) → replicate {A = Option A} n None ++ None ∷ [] ≡ replicate (suc n) None
  one_none zero = refl
  one_none (suc n) = ap (λ (l : List (Option A)). None ∷ l) (one_none n)

  pub More-one : (xs ys zs : List (Option A)) → More xs ys → zs ≡ ys ++ None ∷ [] → More xs zs
  More-one xs ys zs m e = (suc m.0, e ∙ ap (λ l. l ++ None ∷ []) m.1 ∙ append_assoc xs (replicate m.0 None) (None ∷ []) ∙ ap (λ l. xs ++ l) (one_none m.0))

  none_at : (n k : ℕ) → get_or (replicate {A = Option A} n None) k None ≡ None
  none_at zero zero = refl
  none_at zero (suc k) = refl
  none_at (suc n) zero = refl
  none_at (suc n) (suc k) = none_at n k

  -- what is at a place is there still
  pub More-at : (xs ys : List (Option A)) → More xs ys → (k : ℕ) → get_or ys k None ≡ get_or xs k None
  More-at xs ys m k = ap (λ l. get_or l k None) m.1 ∙ elim (cases_lt k (length xs)) [
    | inl h ↦ get_or_append_left xs (replicate m.0 None) None k h
    | inr past ↦ get_or-append_right xs (replicate m.0 None) (length xs) k None refl past ∙ none_at m.0 (k - length xs) ∙ sym (get_or_past xs k None past)
  ]

  sum_none : (f : Option A → ℕ) → f None ≡ 0 → (n : ℕ) → sum_by f (replicate n None) ≡ 0
  sum_none f none zero = refl
  sum_none f none (suc n) = omega (arith, Rattle.std.proofs.lemmas.List.Sums.sum_by-cons f None (replicate n None), none, sum_none f none n)

  -- and no sum changes
  pub More-sum : (f : Option A → ℕ) → f None ≡ 0 → (xs ys : List (Option A)) → More xs ys → sum_by f ys ≡ sum_by f xs
  More-sum f none xs ys m = ap (sum_by f) m.1 ∙ omega (arith, sum_by-append f xs (replicate m.0 None), sum_none f none m.0)

-- more places for lists, and then for units
pub Grows-of : (old new : Table) → ((more : ℕ) × (new.store ≡ record old.store { lists = old.store.lists ++ replicate more None })) → More old.units.items new.units.items → StoreLaws new.store → new.block ≡ old.block → Grows old new
Grows-of old new m units laws block = record {
  units = units;
  lists = (m.0, ap (λ s. s.lists) m.1);
  store = m.1 ∙ ap (λ ls. record old.store { lists = ls }) (sym (ap (λ s. s.lists) m.1));
  laws = laws;
  block = block;
}

-- all as it was
pub Grows-same : (old new : Table) → new.store ≡ old.store → new.units.items ≡ old.units.items → StoreLaws new.store → new.block ≡ old.block → Grows old new
Grows-same old new store units laws block =
    Grows-of old new (0, store ∙ ap (λ ls. record old.store { lists = ls }) (sym (append-nil old.store.lists))) (0, units ∙ sym (append-nil old.units.items)) laws block

module _ (old new : Table) (g : Grows old new) where
  pub unit : (v : ℕ) → unit_at new v ≡ unit_at old v
  unit v = More-at old.units.items new.units.items g.units v

  pub list : (v : ℕ) → list_at new.store v ≡ list_at old.store v
  list v = More-at old.store.lists new.store.lists g.lists v

  pub len : (v : ℕ) → len_of new.store v ≡ len_of old.store v
  len v = ap (λ (o : Option ListState). option_map_or {U = ℕ} (λ l. l.len) o 0) (list v)

  pub mark : (v j : ℕ) → mark_in new.store v j ≡ mark_in old.store v j
  mark v j = ap (λ (o : Option ListState). option_map_or {U = ℕ} (λ l. get_or l.marks j 0) o 0) (list v)

  pub filled : (v : ℕ) → filled_in new.store v ≡ filled_in old.store v
  filled v = ap (λ (o : Option ListState). option_map_or {U = ℕ} (λ l. length l.values) o 0) (list v)

  pub own : (v j : ℕ) → own_in new v j ≡ own_in old v j
  own v j =
      ap (λ b. sum_by (λ (o : Option UnitData). option_map_or {U = ℕ} (own_of b (len_of new.store v) v j) o 0) new.units.items) g.block
      ∙ ap (λ n. sum_by (λ (o : Option UnitData). option_map_or {U = ℕ} (own_of old.block n v j) o 0) new.units.items) (len v)
      ∙ More-sum (λ (o : Option UnitData). option_map_or {U = ℕ} (own_of old.block (len_of old.store v) v j) o 0) refl old.units.items new.units.items g.units

  pub in_hand : (cs : List (Option CursorState)) (v j : ℕ) → held_in new cs v j ≡ held_in old cs v j
  in_hand cs v j = ap (λ b. sum_by (stands_at b (len_of new.store v) v j) cs) g.block ∙ ap (λ n. sum_by (stands_at old.block n v j) cs) (len v)

  -- what holds of the units holds with more places
  pub IsTable-grown : (cs : List (Option CursorState)) → IsTable old cs → IsTable new cs
  IsTable-grown cs table = record {
    store = g.laws;
    block = ap (λ s. s.block) g.store ∙ table.block ∙ sym g.block;
    loose = ap (λ s. count_by is_some s.loose) g.store ∙ table.loose;
    units = λ v x at. let u = table.units v x (sym (unit v) ∙ at) in (u.0, list v ∙ u.1, unit_kept v x u.0 u.2);
    lists = λ v some. subst IsSome (sym (unit v)) (table.lists v (subst IsSome (list v) some));
    inputs = λ v i x k c at listed inside cursor.
        let a = table.inputs v i x k c (sym (unit v) ∙ at) (sym (list v) ∙ listed) inside cursor in
        (a.0, list c.list ∙ a.1, input_kept x i c a.0 a.2);
    kept = λ v i x s at is. IsKept-to old new s (λ c reads there. (subst (λ o. IsSome o) (sym (list c.list)) there, len c.list)) (table.kept v i x s (sym (unit v) ∙ at) is);
    held = λ i c is. subst IsSome (sym (list c.list)) (table.held i c is);
    counted = λ v j l is. omega (arith, own v j, in_hand cs v j, mark v j, table.counted v j l (sym (list v) ∙ is));
    rank = table.rank;
    bound = table.bound;
    below = λ v x at. table.below v x (sym (unit v) ∙ at);
    falls = λ v i x c at inside cursor. table.falls v i x c (sym (unit v) ∙ at) inside cursor;
    keeps_lower = λ v i x s c at is reads. table.keeps_lower v i x s c (sym (unit v) ∙ at) is reads;
  }
    where
      unit_kept : (v : ℕ) (x : UnitData) (l : ListState) → IsUnit old v x l → IsUnit new v x l
      unit_kept v x l u = record {
        end = u.end;
        len = u.len;
        some = u.some;
        early = u.early;
        count = u.count;
        sides = u.sides;
        begins = u.begins;
        brings = u.brings;
        hears = u.hears;
        given = subst (λ b. Rattle.ny_heap.specs.Work.HasGiven x.work x.timing.len (min (length l.values * b) x.timing.len)) (sym g.block) u.given;
        places = u.places;
        timings = u.timings;
      }

      input_kept : (x : UnitData) (i : ℕ) (c : CursorState) (l : ListState) → IsInput old x i c l → IsInput new x i c l
      input_kept x i c l u = record {
        starts = u.starts;
        sees = u.sees;
        visible = u.visible;
        computed = subst (λ b. c.place ≤ min (length l.values * b) l.len) (sym g.block) u.computed;
      }
