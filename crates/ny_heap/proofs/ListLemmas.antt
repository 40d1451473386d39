-- What a change of one list of a store leaves.
use Rattle.std.proofs.Common.{◌≡◌, ◌≢◌, inl, inr, ℕ, zero, suc, ◌+◌, ◌-◌, ◌<◌, List, [], ◌∷◌, length, get_or, set, Option, None, Some, refl, sym, ap, subst, ◌∙◌, arith, ℤ, length-set, cond, nat_eq, ◌&&◌}
use Rattle.std.proofs.lemmas.List.{get_or-set_same, get_or-set_other, get_or_past}
use Rattle.std.proofs.lemmas.Bool.{cases_eq, cases_lt, eq-eqb, ne_eqb}
use Rattle.std.specs.Option.{option_map, option_map_or}
use Rattle.ny_list.specs.Store.{ListState, StoreState, CursorState, list_at, mark_at, least}
use Rattle.ny_list.specs.Steps.{blank_below, settled, left, with_list, without_cursor}
use Rattle.ny_list.proofs.IndexLemmas.{same_some, none_some}
use Rattle.ny_heap.specs.Heap.{stands_in}
use Rattle.ny_heap.specs.Table.{mark_in, len_of, stands_at, KeepsList}

pub list_within : (s : StoreState) (v : ℕ) (x : ListState) → list_at s v ≡ Some x → v < length s.lists
list_within s v x is = elim (cases_lt v (length s.lists)) [
  | inl h ↦ h
  | inr past ↦ absurd (none_some (sym (get_or_past s.lists v None past) ∙ is))
]

pub list_here : (s : StoreState) (v : ℕ) (o : Option ListState) → v < length s.lists → list_at (with_list s v o) v ≡ o
list_here s v o h = get_or-set_same s.lists v o None h

pub list_other : (s : StoreState) (v w : ℕ) (o : Option ListState) → w ≢ v → list_at (with_list s v o) w ≡ list_at s w
list_other s v w o ne = get_or-set_other s.lists v w o None ne

-- ---- blocks given back

pub blank_len : (n : ℕ) (xs : List (Option (List ℤ))) → length (blank_below n xs) ≡ length xs
blank_len n [] = refl
blank_len zero (o ∷ os) = refl
blank_len (suc n) (o ∷ os) = ap suc (blank_len n os)

pub blank_kept : (n : ℕ) (xs : List (Option (List ℤ))) (j : ℕ) (b : List ℤ) → get_or (blank_below n xs) j None ≡ Some b → get_or xs j None ≡ Some b
blank_kept n [] j b is = is
blank_kept zero (o ∷ os) j b is = is
blank_kept (suc n) (o ∷ os) zero b is = absurd (none_some is)
blank_kept (suc n) (o ∷ os) (suc j) b is = blank_kept n os j b is

pub settled_keeps : (k : ℕ) (x : ListState) → KeepsList x (settled (left k x))
settled_keeps k x = record {
  len = refl;
  filled = blank_len (least (left k x).marks) x.values;
  kept = blank_kept (least (left k x).marks) x.values;
}

pub KeepsList-same : (x y : ListState) → x ≡ y → KeepsList x y
KeepsList-same x y e = subst (KeepsList x) e (record { len = refl; filled = refl; kept = λ j b is. is })

pub KeepsList-then : (x y z : ListState) → KeepsList x y → KeepsList y z → KeepsList x z
KeepsList-then x y z a b = record { len = b.len ∙ a.len; filled = b.filled ∙ a.filled; kept = λ j s is. a.kept j s (b.kept j s is) }

-- each list is there that was, and at most some of its blocks are given back
pub record Relists (s t : StoreState) : Type 0 where
  pub block : t.block ≡ s.block
  pub loose : t.loose ≡ s.loose
  pub size : length t.lists ≡ length s.lists
  pub to : (v : ℕ) (x : ListState) → list_at s v ≡ Some x → (y : ListState) × (list_at t v ≡ Some y) × KeepsList x y
  pub back : (v : ℕ) (y : ListState) → list_at t v ≡ Some y → (x : ListState) × (list_at s v ≡ Some x) × KeepsList x y

-- list l, which was x, is y
pub Relists-one : (s : StoreState) (l : ℕ) (x y : ListState) → list_at s l ≡ Some x → KeepsList x y → Relists s (with_list s l (Some y))
Relists-one s l x y there keeps = record {
  block = refl;
  loose = refl;
  size = length-set s.lists l (Some y);
  to = λ v z is. elim (cases_eq v l) [
    | inl e ↦ (y, ap (list_at (with_list s l (Some y))) e ∙ here, subst (λ k. KeepsList k y) (same_some (sym there ∙ sym (ap (list_at s) e) ∙ is)) keeps)
    | inr ne ↦ (z, list_other s l v (Some y) ne ∙ is, KeepsList-same z z refl)
  ];
  back = λ v z is. elim (cases_eq v l) [
    | inl e ↦ (x, ap (list_at s) e ∙ there, subst (KeepsList x) (same_some (sym here ∙ sym (ap (list_at (with_list s l (Some y))) e) ∙ is)) keeps)
    | inr ne ↦ (z, sym (list_other s l v (Some y) ne) ∙ is, KeepsList-same z z refl)
  ];
}
  where
    here : list_at (with_list s l (Some y)) l ≡ Some y
    here = list_here s l (Some y) (list_within s l x there)

-- the list of a cursor that is counted
pub cursor_list : (s : StoreState) (c : CursorState) → 0 < mark_at s c → (x : ListState) × (list_at s c.list ≡ Some x)
cursor_list s c stands = by (list_at s c.list) refl
  where
    by : (o : Option ListState) → list_at s c.list ≡ o → (x : ListState) × (list_at s c.list ≡ Some x)
    by None e = absurd (omega (arith, stands, ap (λ (o : Option ListState). option_map_or {U = ℕ} (λ x. get_or x.marks (stands_in s.block x.len c.place) 0) o 0) e))
    by (Some x) e = (x, e)

pub without_is : (s : StoreState) (c : CursorState) (x : ListState) → list_at s c.list ≡ Some x → without_cursor s c ≡ with_list s c.list (Some (settled (left (stands_in s.block x.len c.place) x)))
without_is s c x is = ap (λ o. with_list s c.list (option_map (λ (y : ListState). settled (left (stands_in s.block y.len c.place) y)) o)) is

pub Relists-without : (s : StoreState) (c : CursorState) (x : ListState) → list_at s c.list ≡ Some x → Relists s (without_cursor s c)
Relists-without s c x is = subst (Relists s) (sym (without_is s c x is)) (Relists-one s c.list x _ is (settled_keeps (stands_in s.block x.len c.place) x))

-- ---- marks

pub mark_is : (s : StoreState) (v j : ℕ) (x : ListState) → list_at s v ≡ Some x → mark_in s v j ≡ get_or x.marks j 0
mark_is s v j x is = ap (λ (o : Option ListState). option_map_or {U = ℕ} (λ l. get_or l.marks j 0) o 0) is

pub len_is : (s : StoreState) (v : ℕ) (x : ListState) → list_at s v ≡ Some x → len_of s v ≡ x.len
len_is s v x is = ap (λ (o : Option ListState). option_map_or {U = ℕ} (λ l. l.len) o 0) is

pub len_kept : (s t : StoreState) (v : ℕ) (y : ListState) → Relists s t → list_at t v ≡ Some y → len_of t v ≡ len_of s v
len_kept s t v y r is = let b = r.back v y is in len_is t v y is ∙ b.2.len ∙ sym (len_is s v b.0 b.1)

-- a mark more or less in one place
pub marks_left : (marks : List ℕ) (k j : ℕ) → 0 < get_or marks k 0 → get_or (set marks k (get_or marks k 0 - 1)) j 0 + cond (nat_eq k j) 1 0 ≡ get_or marks j 0
marks_left marks k j some = elim (cases_eq k j) [
  | inl e ↦ omega (arith, some, ap (λ b. cond {A = ℕ} b 1 0) (eq-eqb k j e), ap (λ i. get_or (set marks k (get_or marks k 0 - 1)) i 0) e, ap (λ i. get_or marks i 0) e, get_or-set_same marks k (get_or marks k 0 - 1) 0 within)
  | inr ne ↦ omega (arith, ap (λ b. cond {A = ℕ} b 1 0) (ne_eqb k j ne), get_or-set_other marks k j (get_or marks k 0 - 1) 0 (λ e. ne (sym e)))
]
  where
    within : k < length marks
    within = elim (cases_lt k (length marks)) [
      | inl h ↦ h
      | inr past ↦ absurd (omega (arith, some, get_or_past marks k 0 past))
    ]

-- a cursor that leaves takes its mark along
pub mark_without : (s : StoreState) (c : CursorState) (v j : ℕ) → 0 < mark_at s c → mark_in (without_cursor s c) v j + stands_at s.block (len_of s v) v j (Some c) ≡ mark_in s v j
mark_without s c v j stands = let a = cursor_list s c stands in by a.0 a.1
  where
    by : (x : ListState) → list_at s c.list ≡ Some x → mark_in (without_cursor s c) v j + stands_at s.block (len_of s v) v j (Some c) ≡ mark_in s v j
    by x is = elim (cases_eq c.list v) [
      | inl e ↦ subst (λ w. mark_in (without_cursor s c) w j + stands_at s.block (len_of s w) w j (Some c) ≡ mark_in s w j) e here
      | inr ne ↦ omega (arith, ap (λ r. mark_in r v j) (without_is s c x is), ap (λ (o : Option ListState). option_map_or {U = ℕ} (λ l. get_or l.marks j 0) o 0) (list_other s c.list v (Some (settled (left k x))) (λ e. ne (sym e))), apart ne)
    ]
      where
        k : ℕ
        k = stands_in s.block x.len c.place

        y : ListState
        y = settled (left k x)

        now : list_at (without_cursor s c) c.list ≡ Some y
        now = ap (λ r. list_at r c.list) (without_is s c x is) ∙ list_here s c.list (Some y) (list_within s c.list x is)

        apart : c.list ≢ v → stands_at s.block (len_of s v) v j (Some c) ≡ 0
        apart ne = ap (λ b. cond {A = ℕ} (b && nat_eq (stands_in s.block (len_of s v) c.place) j) 1 0) (ne_eqb c.list v ne)

        same : stands_at s.block (len_of s c.list) c.list j (Some c) ≡ cond (nat_eq k j) 1 0
        same = ap (λ b. cond {A = ℕ} (b && nat_eq (stands_in s.block (len_of s c.list) c.place) j) 1 0) (eq-eqb c.list c.list refl)
            ∙ ap (λ n. cond {A = ℕ} (nat_eq (stands_in s.block n c.place) j) 1 0) (len_is s c.list x is)

        here : mark_in (without_cursor s c) c.list j + stands_at s.block (len_of s c.list) c.list j (Some c) ≡ mark_in s c.list j
        here = omega (
          arith,
          mark_is (without_cursor s c) c.list j y now,
          mark_is s c.list j x is,
          same,
          marks_left x.marks k j (subst (λ n. 0 < n) (ap (λ (o : Option ListState). option_map_or {U = ℕ} (λ l. get_or l.marks (stands_in s.block l.len c.place) 0) o 0) is) stands),
        )
