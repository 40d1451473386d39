-- What a contract sees of parts that wait: the sounds that they keep, part by part.
use Rattle.std.proofs.Common.{◌≡◌, inl, inr, ℕ, zero, suc, ◌+◌, ◌/◌, ◌<◌, ◌≤◌, ◌&&◌, nat_eq, cond, List, [], ◌∷◌, ◌++◌, length, map, Option, None, Some, refl, sym, ap, subst, ◌∙◌, arith}
use Rattle.std.specs.List.{sum_by, slice_get}
use Rattle.std.specs.Option.{option_map, option_map_or}
use Rattle.std.proofs.lemmas.List.{map-append}
use Rattle.std.proofs.lemmas.List.Sums.{sum_by-cons, sum_by-append}
use Rattle.std.proofs.lemmas.Bool.{cases_eq, eq-eqb, ne_eqb}
use Rattle.std.proofs.Math.Nat.{div-lt_iff_lt-mul}
use Rattle.ny_list.specs.Store.{CursorState}
use Rattle.ny_list.proofs.IndexLemmas.{same_some, none_some}
use Rattle.ny_heap.specs.declared.sound.Sound.{Sound}
use Rattle.ny_heap.specs.declared.table.Table.{Table}
use Rattle.ny_heap.specs.Heap.{Captured, Waiting, blocks_of, stands_in, is_captured}
use Rattle.ny_heap.specs.Steps.{captured_of}
use Rattle.ny_heap.specs.Work.{flat, cursors_of_sounds}
use Rattle.ny_heap.specs.Table.{len_of, stands_at, IsKept}
use Rattle.ny_heap.specs.View.{waiting_with}

-- ---- lists of lists, one after another

module _ {A : Type 0} where
  get_left : (xs ys : List A) (i : ℕ) (x : A) → slice_get xs i ≡ Some x → slice_get (xs ++ ys) i ≡ Some x
  get_left [] ys i x is = absurd (none_some is)
  get_left (z ∷ xs) ys zero x is = is
  get_left (z ∷ xs) ys (suc i) x is = get_left xs ys i x is

  get_right : (xs ys : List A) (i : ℕ) (x : A) → slice_get ys i ≡ Some x → slice_get (xs ++ ys) (length xs + i) ≡ Some x
  get_right [] ys i x is = let e : 0 + i ≡ i = omega arith in ap (slice_get ys) e ∙ is
  get_right (z ∷ xs) ys i x is = let e : length (z ∷ xs) + i ≡ suc (length xs + i) = omega arith in ap (slice_get (z ∷ (xs ++ ys))) e ∙ get_right xs ys i x is

  -- an item of one of the lists is one of all
  pub flat_at : (xss : List (List A)) (p q : ℕ) (xs : List A) (x : A) → slice_get xss p ≡ Some xs → slice_get xs q ≡ Some x → (i : ℕ) × (slice_get (flat xss) i ≡ Some x)
  flat_at [] p q xs x at one = absurd (none_some at)
  flat_at (ys ∷ xss) zero q xs x at one = (q, get_left ys (flat xss) q x (ap (λ zs. slice_get zs q) (same_some at) ∙ one))
  flat_at (ys ∷ xss) (suc p) q xs x at one = let r = flat_at xss p q xs x at one in (length ys + r.0, get_right ys (flat xss) r.0 x r.1)

  -- and one of all is one of a list
  pub flat_from : (xss : List (List A)) (i : ℕ) (x : A) → slice_get (flat xss) i ≡ Some x → (p : ℕ) × (q : ℕ) × (xs : List A) × (slice_get xss p ≡ Some xs) × (slice_get xs q ≡ Some x)
  flat_from [] i x is = absurd (none_some is)
  flat_from (ys ∷ xss) i x is = by ys i is (λ j e. later (flat_from xss j x e)) (λ q e. (0, q, ys, refl, e))
    where
      later : ((p : ℕ) × (q : ℕ) × (xs : List A) × (slice_get xss p ≡ Some xs) × (slice_get xs q ≡ Some x)) → (p : ℕ) × (q : ℕ) × (xs : List A) × (slice_get (ys ∷ xss) p ≡ Some xs) × (slice_get xs q ≡ Some x)
      later r = (suc r.0, r.1, r.2, r.3, r.4)

      by : {R : Type 0} (zs : List A) (j : ℕ) → slice_get (zs ++ flat xss) j ≡ Some x → ((k : ℕ) → slice_get (flat xss) k ≡ Some x → R) → ((q : ℕ) → slice_get zs q ≡ Some x → R) → R
      by [] j e right left = right j e
      by (z ∷ zs) zero e right left = left 0 e
      by (z ∷ zs) (suc j) e right left = by zs j e right (λ q g. left (suc q) g)

  -- so of each item
  abbrev pub Each : (A → Type 0) → List A → Type 0
  Each P [] = Unit {0}
  Each P (x ∷ xs) = P x × Each P xs

  pub each_of : (P : A → Type 0) (xs : List A) → ((i : ℕ) (x : A) → slice_get xs i ≡ Some x → P x) → Each P xs
  each_of P [] all = tt
  each_of P (x ∷ xs) all = (all 0 x refl, each_of P xs (λ i y is. all (suc i) y is))

  pub each_at : (P : A → Type 0) (xs : List A) → Each P xs → (i : ℕ) (x : A) → slice_get xs i ≡ Some x → P x
  each_at P [] all i x is = absurd (none_some is)
  each_at P (y ∷ xs) all zero x is = subst P (same_some is) all.0
  each_at P (y ∷ xs) all (suc i) x is = each_at P xs all.1 i x is

  pub each_left : (P : A → Type 0) (xs ys : List A) → Each P (xs ++ ys) → Each P xs
  each_left P [] ys all = tt
  each_left P (x ∷ xs) ys all = (all.0, each_left P xs ys all.1)

  pub each_right : (P : A → Type 0) (xs ys : List A) → Each P (xs ++ ys) → Each P ys
  each_right P [] ys all = all
  each_right P (x ∷ xs) ys all = each_right P xs ys all.1

-- ---- parts, as a contract sees them

captured_at : (ss : List Sound) (i : ℕ) (c : Captured) → slice_get (map captured_of ss) i ≡ Some c → (s : Sound) × (slice_get ss i ≡ Some s) × (c ≡ captured_of s)
captured_at [] i c is = absurd (none_some is)
captured_at (s ∷ ss) zero c is = (s, refl, sym (same_some is))
captured_at (s ∷ ss) (suc i) c is = captured_at ss i c is

captured_there : (ss : List Sound) (i : ℕ) (s : Sound) → slice_get ss i ≡ Some s → slice_get (map captured_of ss) i ≡ Some (captured_of s)
captured_there [] i s is = absurd (none_some is)
captured_there (q ∷ ss) zero s is = ap (λ (o : Option Sound). option_map captured_of o) is
captured_there (q ∷ ss) (suc i) s is = captured_there ss i s is

module _ {B : Type 0} where
  -- nothing is kept
  pub waits_none : (bs : List B) → waiting_with bs [] ≡ []
  waits_none [] = refl
  waits_none (b ∷ bs) = refl

  waiting_at : (bs : List B) (wss : List (List Sound)) (p : ℕ) (w : Waiting B) → slice_get (waiting_with bs wss) p ≡ Some w → (ss : List Sound) × (slice_get wss p ≡ Some ss) × (w.captured ≡ map captured_of ss)
  waiting_at [] wss p w is = absurd (none_some is)
  waiting_at (b ∷ bs) [] p w is = absurd (none_some is)
  waiting_at (b ∷ bs) (ss ∷ wss) zero w is = (ss, refl, ap (λ (v : Waiting B). v.captured) (sym (same_some is)))
  waiting_at (b ∷ bs) (ss ∷ wss) (suc p) w is = waiting_at bs wss p w is

  waiting_there : (bs : List B) (wss : List (List Sound)) (p : ℕ) (ss : List Sound) → length wss ≤ length bs → slice_get wss p ≡ Some ss → (w : Waiting B) × (slice_get (waiting_with bs wss) p ≡ Some w) × (w.captured ≡ map captured_of ss)
  waiting_there bs [] p ss many is = absurd (none_some is)
  waiting_there [] (ts ∷ wss) p ss many is = absurd (omega (arith, many))
  waiting_there (b ∷ bs) (ts ∷ wss) zero ss many is = (record { branch = b; captured = map captured_of ts }, refl, ap (map captured_of) (same_some is))
  waiting_there (b ∷ bs) (ts ∷ wss) (suc p) ss many is = waiting_there bs wss p ss (omega (arith, many)) is

  -- what a part has captured is the list of a sound that is kept
  pub captured_kept : (bs : List B) (wss : List (List Sound)) (p q v : ℕ) (w : Waiting B) (c : Captured) → slice_get (waiting_with bs wss) p ≡ Some w → slice_get w.captured q ≡ Some c → c.node ≡ Some v
      → (i : ℕ) × (s : Sound) × (d : CursorState) × (slice_get (flat wss) i ≡ Some s) × (s.reader ≡ Some d) × (d.list ≡ v)
  captured_kept bs wss p q v w c at one of =
      let part = waiting_at bs wss p w at in
      let sound = captured_at part.0 q c (ap (λ cs. slice_get cs q) (sym part.2) ∙ one) in
      let flat = flat_at wss p q part.0 sound.0 part.1 sound.1 in
      let cursor = by_reader sound.0.reader (ap (λ (k : Captured). k.node) (sym sound.2) ∙ of) in
      (flat.0, sound.0, cursor.0, flat.1, cursor.1, cursor.2)
    where
      by_reader : (o : Option CursorState) → option_map {U = ℕ} (λ k. k.list) o ≡ Some v → (d : CursorState) × (o ≡ Some d) × (d.list ≡ v)
      by_reader None e = absurd (none_some e)
      by_reader (Some d) e = (d, refl, same_some e)

  -- and a sound that is kept was captured by a part
  pub kept_captured : (bs : List B) (wss : List (List Sound)) (i : ℕ) (s : Sound) (d : CursorState) → length wss ≤ length bs → slice_get (flat wss) i ≡ Some s → s.reader ≡ Some d
      → (p : ℕ) × (w : Waiting B) × (q : ℕ) × (c : Captured) × (slice_get (waiting_with bs wss) p ≡ Some w) × (slice_get w.captured q ≡ Some c) × (c.node ≡ Some d.list)
  kept_captured bs wss i s d many is reads =
      let f = flat_from wss i s is in
      let w = waiting_there bs wss f.0 f.2 many f.3 in
      (f.0, w.0, f.1, captured_of s, w.1, ap (λ cs. slice_get cs f.1) w.2 ∙ captured_there f.2 f.1 s f.4, ap (λ (o : Option CursorState). option_map {U = ℕ} (λ k. k.list) o) reads)

-- ---- how many stand in a block

zero_in : (block : ℕ) → 0 < block → 0 / block ≡ 0
zero_in block some = let less : 0 / block < 1 = (div-lt_iff_lt-mul {k = block} {x = 0} {y = 1} some).1 (omega (arith, some)) in omega (arith, less)

-- a sound that is kept stands in the first block of its list
pub first_block : (block len place : ℕ) → 0 < block → 0 < len → place ≡ 0 → stands_in block len place ≡ 0
first_block block len place some any begins =
    ap (stands_in block len) begins ∙ ap (λ b. cond {A = ℕ} b (blocks_of block len) (0 / block)) (ne_eqb 0 len (λ e. omega (arith, any, e))) ∙ zero_in block some

test_turned : (j : ℕ) → nat_eq j 0 ≡ nat_eq 0 j
test_turned j = elim (cases_eq j 0) [
  | inl e ↦ eq-eqb j 0 e ∙ sym (eq-eqb 0 j (sym e))
  | inr ne ↦ ne_eqb j 0 ne ∙ sym (ne_eqb 0 j (λ e. ne (sym e)))
]

module _ (t : Table) (v j : ℕ) (some : 0 < t.block) where
  -- it is counted as its cursor is
  pub kept_count : (s : Sound) → IsKept t s → is_captured v j (captured_of s) ≡ stands_at t.block (len_of t.store v) v j s.reader
  kept_count s kept = by s.reader refl
    where
      by : (o : Option CursorState) → s.reader ≡ o → option_map_or {U = ℕ} (λ n. cond {A = ℕ} (nat_eq n v && nat_eq j 0) 1 0) (option_map {U = ℕ} (λ c. c.list) o) 0 ≡ stands_at t.block (len_of t.store v) v j o
      by None reads = refl
      by (Some c) reads = elim (cases_eq c.list v) [
        | inl e ↦
            let first = (kept.some c reads).1 in
            let any : 0 < len_of t.store v = omega (arith, first.some, first.visible, ap (len_of t.store) e) in
            ap (λ b. cond {A = ℕ} (nat_eq c.list v && b) 1 0) (test_turned j ∙ ap (λ n. nat_eq n j) (sym (first_block t.block (len_of t.store v) c.place some any first.begins)))
        | inr ne ↦
            ap (λ b. cond {A = ℕ} (b && nat_eq j 0) 1 0) (ne_eqb c.list v ne)
            ∙ sym (ap (λ b. cond {A = ℕ} (b && nat_eq (stands_in t.block (len_of t.store v) c.place) j) 1 0) (ne_eqb c.list v ne))
      ]

  captured_count : (ss : List Sound) → Each (IsKept t) ss → sum_by (is_captured v j) (map captured_of ss) ≡ sum_by (stands_at t.block (len_of t.store v) v j) (cursors_of_sounds ss)
  captured_count [] kept = refl
  captured_count (s ∷ ss) kept =
      omega (
        arith,
        sum_by-cons (is_captured v j) (captured_of s) (map captured_of ss),
        sum_by-cons (stands_at t.block (len_of t.store v) v j) s.reader (cursors_of_sounds ss),
        kept_count s kept.0,
        captured_count ss kept.1,
      )

  pub waits_count : {B : Type 0} (bs : List B) (wss : List (List Sound)) → length wss ≤ length bs → Each (IsKept t) (flat wss)
      → sum_by (λ (p : Waiting B). sum_by (is_captured v j) p.captured) (waiting_with bs wss) ≡ sum_by (stands_at t.block (len_of t.store v) v j) (cursors_of_sounds (flat wss))
  waits_count {B} bs [] many kept = ap (sum_by (λ (p : Waiting B). sum_by (is_captured v j) p.captured)) (waits_none bs)
  waits_count [] (ss ∷ wss) many kept = absurd (omega (arith, many))
  waits_count {B} (b ∷ bs) (ss ∷ wss) many kept =
      omega (
        arith,
        sum_by-cons (λ (p : Waiting B). sum_by (is_captured v j) p.captured) (record { branch = b; captured = map captured_of ss }) (waiting_with bs wss),
        captured_count ss (each_left (IsKept t) ss (flat wss) kept),
        waits_count bs wss (omega (arith, many)) (each_right (IsKept t) ss (flat wss) kept),
        ap (sum_by (stands_at t.block (len_of t.store v) v j)) (map-append (λ (s : Sound). s.reader) ss (flat wss)),
        sum_by-append (stands_at t.block (len_of t.store v) v j) (cursors_of_sounds ss) (cursors_of_sounds (flat wss)),
      )
