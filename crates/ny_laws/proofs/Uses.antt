-- Uses of names that are not bound, one after another.
use Rattle.std.proofs.Common.{◌≡◌, ℕ, Bool, true, false, List, [], ◌∷◌, ◌++◌, refl, sym, ap, ◌∙◌}
use Rattle.std.specs.Prelude.{◌||◌, if◌then◌else◌}
use Rattle.std.specs.List.{list_any}
use Rattle.std.proofs.lemmas.Bool.{eqb-true}
use Rattle.ny_resolve.specs.declared.term.NameId.{NameId}
use Rattle.ny_resolve.specs.Keys.{same_name}
use Rattle.ny_check.specs.Writing.{is_among, use_of}

abbrev pub Uses : Type 0
Uses = List NameId → List NameId → List NameId

abbrev pub among : NameId → List NameId → Bool
among x xs = list_any (same_name x) xs

-- What is found stays found; and x is found then, if it is free and not bound.
abbrev pub Finds : NameId → Bool → Uses → Type 0
Finds x free uses =
    (bound found : List NameId) → (among x found ≡ true → among x (uses bound found) ≡ true) × (free ≡ true → among x bound ≡ false → among x (uses bound found) ≡ true)

or_true : (a b : Bool) → b ≡ true → a || b ≡ true
or_true true b h = refl
or_true false b h = h

pub among_more : (x : NameId) (xs ys : List NameId) → among x (xs ++ ys) ≡ among x xs || among x ys
among_more x [] ys = refl
among_more x (z ∷ xs) ys = by (same_name x z) (among_more x xs ys)
  where
    by : (b : Bool) → among x (xs ++ ys) ≡ among x xs || among x ys → b || among x (xs ++ ys) ≡ (b || among x xs) || among x ys
    by true h = refl
    by false h = h

pub finds_none : (x : NameId) → Finds x false (λ bound found. found)
finds_none x bound found = (λ h. h, λ h k. cc)

pub finds_less : (x : NameId) (f g : Bool) (uses : Uses) → (f ≡ true → g ≡ true) → Finds x g uses → Finds x f uses
finds_less x f g uses less h bound found = ((h bound found).0, λ is k. (h bound found).1 (less is) k)

pub finds_two : (x : NameId) (f g : Bool) (first second : Uses) → Finds x f first → Finds x g second → Finds x (f || g) (λ bound found. second bound (first bound found))
finds_two x f g first second h k bound found = (
  λ is. (k bound (first bound found)).0 ((h bound found).0 is),
  λ is free. by f is free (h bound found).1,
)
  where
    by : (t : Bool) → t || g ≡ true → among x bound ≡ false → (t ≡ true → among x bound ≡ false → among x (first bound found) ≡ true) → among x (second bound (first bound found)) ≡ true
    by true is free now = (k bound (first bound found)).0 (now refl free)
    by false is free now = (k bound (first bound found)).1 is free

-- with a name that is bound in it
pub finds_under : (x y : NameId) (f : Bool) (uses : Uses) → Finds x f uses → Finds x (if same_name x y then false else f) (λ bound found. uses (bound ++ y ∷ []) found)
finds_under x y f uses h bound found = ((h (bound ++ y ∷ []) found).0, λ is free. by (same_name x y) is (among_more x bound (y ∷ [])) free)
  where
    by : (t : Bool) → (if t then false else f) ≡ true → among x (bound ++ y ∷ []) ≡ among x bound || (t || false) → among x bound ≡ false → among x (uses (bound ++ y ∷ []) found) ≡ true
    by true is one free = cc
    by false is one free = (h (bound ++ y ∷ []) found).1 is (one ∙ ap (λ (t : Bool). t || false) free)

-- a bare name
pub same_among : (x y : NameId) (xs : List NameId) → same_name x y ≡ true → among x xs ≡ is_among y xs
same_among x y xs h = ap (λ (n : ℕ). list_any (same_name (record { 0 = n })) xs) (eqb-true x.0 y.0 h)

found_now : (x y : NameId) (found : List NameId) → same_name x y ≡ true → among x (found ++ y ∷ []) ≡ true
found_now x y found h = among_more x found (y ∷ []) ∙ or_true (among x found) (same_name x y || false) (ap (λ (t : Bool). t || false) h)

pub finds_name : (x y : NameId) → Finds x (same_name x y) (use_of y)
finds_name x y bound found = (
  λ is. stays (is_among y bound || is_among y found) is,
  λ same free. by (is_among y bound) (is_among y found) (sym (same_among x y bound same) ∙ free) (same_among x y found same) same,
)
  where
    stays : (t : Bool) → among x found ≡ true → among x (if t then found else found ++ y ∷ []) ≡ true
    stays true is = is
    stays false is = among_more x found (y ∷ []) ∙ ap (λ (t : Bool). t || among x (y ∷ [])) is

    by : (b f : Bool) → b ≡ false → among x found ≡ f → same_name x y ≡ true → among x (if b || f then found else found ++ y ∷ []) ≡ true
    by true f bound_too is same = cc
    by false true free is same = is
    by false false free is same = found_now x y found same
