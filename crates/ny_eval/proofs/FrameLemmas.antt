-- Where the names of a frame stand.
use Rattle.std.proofs.Common.{◌≡◌, ℕ, zero, suc, ◌+◌, ◌-◌, ◌<◌, ◌≤◌, Bool, true, false, cond, List, [], ◌∷◌, ◌++◌, length, get_or, take, drop, reverse, Option, Some, None, refl, sym, ap, subst, ◌∙◌, arith}
use Rattle.std.specs.Map.{lookup}
use Rattle.std.proofs.lemmas.List.{reverse-append, append_assoc, length-append, length-take, take_more, drop_more, drop-set-lt, take-set-le}
use Rattle.std.proofs.Math.ListN.{set}
use Rattle.ny_scope.specs.Scopes.{last_of}
use Rattle.ny_resolve.specs.declared.term.NameId.{NameId}
use Rattle.ny_check.specs.declared.value.Value.{Value}
use Rattle.ny_check.specs.Values.{Scalars, scalars_of, scalar_in}
use Rattle.ny_check.specs.declared.value.Scalar.{Scalar}
use Rattle.ny_heap.specs.declared.sound.Sound.{Sound}
use Rattle.ny_heap.specs.Heap.{HeapState}
use Rattle.ny_hands.specs.Calls.{ReleasesAll}
use Rattle.ny_hands.specs.Frames.{Names, AllHeld, IsHeldValue, sounds_among}
use Rattle.ny_hands.specs.Hands.{InHand}
use Rattle.ny_hands.proofs.HeldLemmas.{releases_more, in_hand_after, in_hand_first}
use Rattle.ny_check.specs.declared.value.Value.TheVariants.{Number, Sound as SoundOf}
use Rattle.ny_trace.specs.Evaluates.{sounds_of_values}
use Rattle.ny_eval.specs.Framed.{places_from}

-- ---- the last binding of a name

or_else : {A : Type 0} → Option A → Option A → Option A
or_else (Some x) y = Some x
or_else None y = y

lookup_append : {K V : Type 0} (is : K → Bool) (ps qs : List (K × V)) → lookup is (ps ++ qs) ≡ or_else (lookup is ps) (lookup is qs)
unfolding or_else
lookup_append is [] qs = refl
lookup_append {K} {V} is (p ∷ ps) qs = by (is p.0) (lookup_append is ps qs)
  where
    by : (b : Bool) → lookup is (ps ++ qs) ≡ or_else (lookup is ps) (lookup is qs) → cond b (Some p.1) (lookup is (ps ++ qs)) ≡ or_else (cond b (Some p.1) (lookup is ps)) (lookup is qs)
    by true h = refl
    by false h = h

last_cons : {K V : Type 0} (is : K → Bool) (p : K × V) (ps : List (K × V)) → last_of is (p ∷ ps) ≡ or_else (last_of is ps) (cond (is p.0) (Some p.1) None)
last_cons is p ps = ap (lookup is) (reverse-append (p ∷ []) ps) ∙ lookup_append is (reverse ps) (p ∷ [])

-- a place counted from k among these, and what stands there
abbrev pub FoundAt : ℕ → Names → Option ℕ → Option (Value Sound) → Type 0
FoundAt k names None r = r ≡ None
FoundAt k names (Some n) r = (k ≤ n) × (n < k + length names) × ((other : NameId × Value Sound) → r ≡ Some (get_or names (n - k) other).1)

pub found_at : (is : NameId → Bool) (k : ℕ) (names : Names) → FoundAt k names (last_of is (places_from k names)) (last_of is names)
unfolding or_else
found_at is k [] = refl
found_at is k (b ∷ bs) =
    subst (λ (p : Option ℕ × Option (Value Sound)). FoundAt k (b ∷ bs) p.0 p.1) (λ i. (sym (last_cons is (b.0, k) (places_from (k + 1) bs)) i, sym (last_cons is b bs) i))
    (by (last_of is (places_from (k + 1) bs)) (last_of is bs) (is b.0) (found_at is (k + 1) bs))
  where
    by : (o : Option ℕ) (r : Option (Value Sound)) (t : Bool) → FoundAt (k + 1) bs o r → FoundAt k (b ∷ bs) (or_else o (cond t (Some k) None)) (or_else r (cond t (Some b.1) None))
    by None r true none =
        let here : k - k ≡ 0 = omega arith in
        (omega arith, omega arith, λ other. ap (λ q. or_else q (Some b.1)) none ∙ ap (λ n. Some (get_or (b ∷ bs) n other).1) (sym here))
    by None r false none = ap (λ q. or_else q None) none
    by (Some n) r t (low, high, is_there) =
        let next : n - k ≡ suc (n - (k + 1)) = omega (arith, low) in
        (omega (arith, low), omega (arith, high), λ other. ap (λ q. or_else q (cond t (Some b.1) None)) (is_there other) ∙ ap (λ m. Some (get_or (b ∷ bs) m other).1) (sym next))

-- what a search of the places finds
module _ (is : NameId → Bool) (names : Names) (places : List (NameId × ℕ)) (same : places ≡ places_from 0 names) where
  found : (o : Option ℕ) → o ≡ last_of is places → FoundAt 0 names o (last_of is names)
  found o at = subst (λ q. FoundAt 0 names q (last_of is names)) (ap (last_of is) (sym same) ∙ sym at) (found_at is 0 names)

  pub find_within : (o : Option ℕ) (n : ℕ) → o ≡ last_of is places → o ≡ Some n → n < length names
  find_within o n at some =
      let there : FoundAt 0 names (Some n) (last_of is names) = subst (λ (q : Option ℕ). FoundAt 0 names q (last_of is names)) some (found o at) in
      let low = there.1 in
      omega (arith, low)

  pub find_is : (o : Option ℕ) (n : ℕ) (v : Value Sound) → o ≡ last_of is places → o ≡ Some n → ((other : NameId × Value Sound) → v ≡ (get_or names n other).1) → Some v ≡ last_of is names
  find_is o n v at some there =
      let other : NameId × Value Sound = (record { 0 = 0 }, v) in
      let same : n - 0 ≡ n = omega arith in
      let entry : FoundAt 0 names (Some n) (last_of is names) = subst (λ (q : Option ℕ). FoundAt 0 names q (last_of is names)) some (found o at) in
      ap Some (there other) ∙ sym (entry.2 other ∙ ap (λ m. Some (get_or names m other).1) same)

  pub find_none : (o : Option ℕ) → o ≡ last_of is places → o ≡ None → None ≡ last_of is names
  find_none o at none = sym (subst (λ q. FoundAt 0 names q (last_of is names)) none (found o at))

-- ---- one more binding

pub places_more : (k : ℕ) (names : Names) (x : NameId) (v : Value Sound) → places_from k (names ++ (x, v) ∷ []) ≡ places_from k names ++ (x, k + length names) ∷ []
places_more k [] x v = let same : k ≡ k + 0 = omega arith in ap (λ n. (x, n) ∷ []) same
places_more k (b ∷ bs) x v =
    let same : k + 1 + length bs ≡ k + suc (length bs) = omega arith in
    ap (λ (rest : List (NameId × ℕ)). (b.0, k) ∷ rest) (places_more (k + 1) bs x v ∙ ap (λ n. places_from (k + 1) bs ++ (x, n) ∷ []) same)

pub places_length : (k : ℕ) (names : Names) → length (places_from k names) ≡ length names
places_length k [] = refl
places_length k (b ∷ bs) = ap suc (places_length (k + 1) bs)

pub places_take : (k n : ℕ) (names : Names) → take n (places_from k names) ≡ places_from k (take n names)
places_take k zero names = refl
places_take k (suc n) [] = refl
places_take k (suc n) (b ∷ bs) = ap (λ (rest : List (NameId × ℕ)). (b.0, k) ∷ rest) (places_take (k + 1) n bs)

pub scalars_more : (names : Names) (x : NameId) (v : Value Sound) → scalars_of (names ++ (x, v) ∷ []) ≡ scalars_of names ++ (x, scalar_in v) ∷ []
scalars_more [] x v = refl
scalars_more (b ∷ bs) x v = ap (λ (rest : Scalars). (b.0, scalar_in b.1) ∷ rest) (scalars_more bs x v)

pub scalars_length : (names : Names) → length (scalars_of names) ≡ length names
scalars_length [] = refl
scalars_length (b ∷ bs) = ap suc (scalars_length bs)

pub scalars_take : (n : ℕ) (names : Names) → take n (scalars_of names) ≡ scalars_of (take n names)
scalars_take zero names = refl
scalars_take (suc n) [] = refl
scalars_take (suc n) (b ∷ bs) = ap (λ (rest : Scalars). (b.0, scalar_in b.1) ∷ rest) (scalars_take n bs)

pub take_appended : {A : Type 0} (xs ys : List A) (n m : ℕ) → n ≡ length xs + m → take n (xs ++ ys) ≡ xs ++ take m ys
take_appended [] ys n m is = let same : n ≡ m = omega (arith, is) in ap (λ k. take k ys) same
take_appended (x ∷ xs) ys zero m is = absurd (omega (arith, is))
take_appended (x ∷ xs) ys (suc n) m is = ap (λ rest. x ∷ rest) (take_appended xs ys n m (omega (arith, is)))

pub same_default : (names : Names) (i : ℕ) (a b : NameId × Value Sound) → i < length names → get_or names i a ≡ get_or names i b
same_default [] i a b within = absurd (omega (arith, within))
same_default (n ∷ ns) zero a b within = refl
same_default (n ∷ ns) (suc i) a b within = same_default ns i a b (omega (arith, within))

-- the first i, and one more
module _ (names : Names) (i : ℕ) (other : NameId × Value Sound) (within : i < length names) where
  first_length : length (take i names) ≡ i
  first_length = omega (arith, length-take i names, within)

  pub places_next : (places new : List (NameId × ℕ)) → places ≡ places_from 0 (take i names) → new ≡ places ++ ((get_or names i other).0, i) ∷ [] → new ≡ places_from 0 (take (i + 1) names)
  places_next places new same grown =
      let count : i ≡ 0 + length (take i names) = omega (arith, first_length) in
      grown ∙ ((λ j. same j ++ ((get_or names i other).0, count j) ∷ []) ∙ (sym (places_more 0 (take i names) (get_or names i other).0 (get_or names i other).1) ∙ ap (places_from 0) (sym (take_more names i other within))))

  pub scalars_next : (scalars new : Scalars) (s : Scalar) → scalars ≡ scalars_of (take i names) → s ≡ scalar_in (get_or names i other).1 → new ≡ scalars ++ ((get_or names i other).0, s) ∷ [] → new ≡ scalars_of (take (i + 1) names)
  scalars_next scalars new s same told grown =
      grown ∙ ((λ j. same j ++ ((get_or names i other).0, told j) ∷ []) ∙ (sym (scalars_more (take i names) (get_or names i other).0 (get_or names i other).1) ∙ ap scalars_of (sym (take_more names i other within))))

-- ---- a frame after a change

module _ (lent bound items : Names) where
  pub bound_places : (places new : List (NameId × ℕ)) (x : NameId) (v : Value Sound) → places ≡ places_from 0 (lent ++ bound) → new ≡ places ++ (x, length places) ∷ [] → items ≡ bound ++ (x, v) ∷ [] → new ≡ places_from 0 (lent ++ items)
  bound_places places new x v same grown is =
      let count : length places ≡ 0 + length (lent ++ bound) = omega (arith, ap length same, places_length 0 (lent ++ bound)) in
      grown ∙ (λ i. same i ++ (x, count i) ∷ []) ∙ sym (places_more 0 (lent ++ bound) x v) ∙ ap (places_from 0) (append_assoc lent bound ((x, v) ∷ []) ∙ ap (λ (ns : Names). lent ++ ns) (sym is))

  pub bound_scalars : (scalars new : Scalars) (x : NameId) (v : Value Sound) (s : Scalar) → scalars ≡ scalars_of (lent ++ bound) → s ≡ scalar_in v → new ≡ scalars ++ (x, s) ∷ [] → items ≡ bound ++ (x, v) ∷ [] → new ≡ scalars_of (lent ++ items)
  bound_scalars scalars new x v s same told grown is =
      grown ∙ (λ i. same i ++ (x, told i) ∷ []) ∙ sym (scalars_more (lent ++ bound) x v) ∙ ap scalars_of (append_assoc lent bound ((x, v) ∷ []) ∙ ap (λ (ns : Names). lent ++ ns) (sym is))

  pub left_places : (places new : List (NameId × ℕ)) (outer len : ℕ) → places ≡ places_from 0 (lent ++ bound) → new ≡ take outer places → outer ≡ length lent + len → items ≡ take len bound → new ≡ places_from 0 (lent ++ items)
  left_places places new outer len same taken is left =
      taken ∙ ap (take outer) same ∙ places_take 0 outer (lent ++ bound) ∙ ap (places_from 0) (take_appended lent bound outer len is ∙ ap (λ (ns : Names). lent ++ ns) (sym left))

  pub left_scalars : (scalars new : Scalars) (outer len : ℕ) → scalars ≡ scalars_of (lent ++ bound) → new ≡ take outer scalars → outer ≡ length lent + len → items ≡ take len bound → new ≡ scalars_of (lent ++ items)
  left_scalars scalars new outer len same taken is left =
      taken ∙ ap (take outer) same ∙ scalars_take outer (lent ++ bound) ∙ ap scalars_of (take_appended lent bound outer len is ∙ ap (λ (ns : Names). lent ++ ns) (sym left))

  -- how many names there are
  pub count_is : (places : List (NameId × ℕ)) → places ≡ places_from 0 (lent ++ bound) → length places ≡ length lent + length bound
  count_is places same = omega (arith, ap length same, places_length 0 (lent ++ bound), length-append lent bound)

-- the first of what was written back
pub cut_taken : {A : Type 0} (n most : ℕ) (xs ys : List A) → n ≤ most → n ≤ length xs → take n (take most (xs ++ ys)) ≡ take n xs
cut_taken zero most xs ys le within = refl
cut_taken (suc n) zero xs ys le within = absurd (omega (arith, le))
cut_taken (suc n) (suc most) [] ys le within = absurd (omega (arith, within))
cut_taken (suc n) (suc most) (x ∷ xs) ys le within = ap (λ rest. x ∷ rest) (cut_taken n most xs ys (omega (arith, le)) (omega (arith, within)))

-- ---- what a name stands for is held

pub held_at : {B : Type 0} (h : HeapState B) (names : Names) (n : ℕ) (other : NameId × Value Sound) → n < length names → AllHeld h names → IsHeldValue h (get_or names n other).1
held_at h [] n other less held = absurd (omega (arith, less))
held_at h (b ∷ bs) zero other less held = held.0
held_at h (b ∷ bs) (suc n) other less held = held_at h bs n other (omega (arith, less)) held.1

pub held_found : {B : Type 0} (h : HeapState B) (is : NameId → Bool) (names : Names) (v : Value Sound) → AllHeld h names → last_of is names ≡ Some v → IsHeldValue h v
held_found {B} h is names v held found = by (last_of is (places_from 0 names)) (found_at is 0 names)
  where
    same : {A : Type 0} {a b : A} → Some a ≡ Some b → a ≡ b
    same p = cc

    never : None ≡ Some v → ⊥
    never p = cc

    by : (o : Option ℕ) → FoundAt 0 names o (last_of is names) → IsHeldValue h v
    by None none = absurd (never (sym none ∙ found))
    by (Some n) (low, high, there) = subst (λ q. IsHeldValue h q) (same (sym (there other) ∙ found)) (held_at h names (n - 0) other (omega (arith, high)) held)
      where
        other : NameId × Value Sound
        other = (record { 0 = 0 }, v)

-- ---- bindings that are given up

pub first_among : (b : NameId × Value Sound) (rest : Names) → sounds_among (b ∷ rest) ≡ sounds_of_values (b.1 ∷ []) ++ sounds_among rest
first_among (x, Number k) rest = refl
first_among (x, SoundOf s) rest = refl

-- while binding k of some is taken out, which was there from the beginning
module _ (first now next : Names) (k len : ℕ) (other x : NameId × Value Sound) (v : Value Sound) (same : drop k now ≡ drop k first) (within : k < length now) (in_first : k < length first) (behind : len ≤ k) (set_is : next ≡ set now k x) (is : v ≡ (get_or now k other).1) where
  first_is : get_or now k other ≡ get_or first k other
  first_is = sym (ap (λ (zs : Names). get_or zs 0 other) (drop_more now k other within)) ∙ (ap (λ (zs : Names). get_or zs 0 other) same ∙ ap (λ (zs : Names). get_or zs 0 other) (drop_more first k other in_first))

  rest_is : (ns : Names) → k < length ns → drop (k + 1) ns ≡ drop 1 (drop k ns)
  rest_is ns low = sym (ap (λ (zs : Names). drop 1 zs) (drop_more ns k other low))

  pub left_next : drop (k + 1) next ≡ drop (k + 1) first
  left_next = ap (λ (zs : Names). drop (k + 1) zs) set_is ∙ (drop-set-lt (k + 1) now k x (omega arith) ∙ (rest_is now within ∙ (ap (λ (zs : Names). drop 1 zs) same ∙ sym (rest_is first in_first))))

  pub kept_next : take len now ≡ take len first → take len next ≡ take len first
  kept_next kept = ap (λ (zs : Names). take len zs) set_is ∙ (take-set-le len now k x behind ∙ kept)

  given : sounds_among (drop k first) ≡ sounds_of_values (v ∷ []) ++ sounds_among (drop (k + 1) first)
  given =
      ap sounds_among (drop_more first k other in_first)
      ∙ (first_among (get_or first k other) (drop (k + 1) first)
      ∙ ap (λ (w : Value Sound). sounds_of_values (w ∷ []) ++ sounds_among (drop (k + 1) first)) (sym (is ∙ ap (λ (b : NameId × Value Sound). b.1) first_is)))

  pub hands_now : {B : Type 0} (h : HeapState B) → InHand h (sounds_among (drop k first)) → InHand h (sounds_of_values (v ∷ []))
  hands_now h hands = in_hand_first h (sounds_of_values (v ∷ [])) (sounds_among (drop (k + 1) first)) (subst (λ ss. InHand h ss) given hands)

  pub hands_next : {B : Type 0} (h later : HeapState B) → InHand h (sounds_among (drop k first)) → ReleasesAll h later (sounds_of_values (v ∷ [])) → InHand later (sounds_among (drop (k + 1) first))
  hands_next h later hands step = in_hand_after h later (sounds_of_values (v ∷ [])) (sounds_among (drop (k + 1) first)) (subst (λ ss. InHand h ss) given hands) step

  pub released_next : {B : Type 0} (h later new : HeapState B) → ReleasesAll h later (sounds_of_values (v ∷ [])) → ReleasesAll later new (sounds_among (drop (k + 1) first)) → ReleasesAll h new (sounds_among (drop k first))
  released_next h later new step rest = subst (λ ss. ReleasesAll h new ss) (sym given) (releases_more h later new (sounds_of_values (v ∷ [])) (sounds_among (drop (k + 1) first)) step rest)
