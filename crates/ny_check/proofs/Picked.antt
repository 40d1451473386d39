-- What is picked for some names says the same of each of them.
use Rattle.std.proofs.Common.{◌≡◌, ℕ, Bool, true, false, List, [], ◌∷◌, ◌++◌, reverse, Option, Some, None, cond, refl, sym, ap, ◌∙◌, length, ◌<◌}
use Rattle.std.specs.Prelude.{◌||◌}
use Rattle.std.specs.Map.{lookup}
use Rattle.std.specs.List.{list_any}
use Rattle.std.proofs.lemmas.List.{reverse-append}
use Rattle.std.proofs.lemmas.Bool.{eqb-true}
use Rattle.ny_scope.specs.Scopes.{last_of}
use Rattle.ny_resolve.specs.declared.term.NameId.{NameId}
use Rattle.ny_resolve.specs.Keys.{same_name}
use Rattle.ny_check.specs.Code.{Code, IsOrdered}
use Rattle.ny_check.specs.FreeNames.{Agree, pick, picked, is_free, HasFree, IsKeptBy}
use Rattle.ny_check.proofs.FreeNames.{scalar-same, meaning-same}

abbrev or_else : {V : Type 0} → Option V → Option V → Option V
or_else (Some v) o = Some v
or_else None o = o

found_first : {V : Type 0} (is : NameId → Bool) (ps : List (NameId × V)) (y : NameId) (v : V) → lookup is (ps ++ (y, v) ∷ []) ≡ or_else (lookup is ps) (cond (is y) (Some v) None)
found_first is [] y v = refl
found_first {V} is (p ∷ ps) y v = by (is p.0) (found_first is ps y v)
  where
    by : (b : Bool) → lookup is (ps ++ (y, v) ∷ []) ≡ or_else (lookup is ps) (cond (is y) (Some v) None)
        → cond b (Some p.1) (lookup is (ps ++ (y, v) ∷ [])) ≡ or_else (cond b (Some p.1) (lookup is ps)) (cond (is y) (Some v) None)
    by true h = refl
    by false h = h

last_first : {V : Type 0} (is : NameId → Bool) (ps : List (NameId × V)) (y : NameId) (v : V) → last_of is ((y, v) ∷ ps) ≡ or_else (last_of is ps) (cond (is y) (Some v) None)
last_first {V} is ps y v = ap (λ (w : List (NameId × V)). lookup is w) (reverse-append ((y, v) ∷ []) ps) ∙ found_first is (reverse ps) y v

by_some : {V : Type 0} (t u : Bool) (v : V) (l rest : Option V) → (t ≡ true → l ≡ Some v) → rest ≡ cond u l None → or_else rest (cond t (Some v) None) ≡ cond (t || u) l None
by_some true true v l rest same is = ap (λ r. or_else r (Some v)) (is ∙ same refl) ∙ sym (same refl)
by_some true false v l rest same is = ap (λ r. or_else r (Some v)) is ∙ sym (same refl)
by_some {V} false true v l rest same is = none (rest) ∙ is
  where
    none : (r : Option V) → or_else r None ≡ r
    none (Some w) = refl
    none None = refl
by_some false false v l rest same is = ap (λ r. or_else r None) is

by_none : {V : Type 0} (t u : Bool) (l rest : Option V) → (t ≡ true → l ≡ None) → rest ≡ cond u l None → rest ≡ cond (t || u) l None
by_none true true l rest same is = is
by_none true false l rest same is = is ∙ sym (same refl)
by_none false u l rest same is = is

same_last : {V : Type 0} (bound : List (NameId × V)) (x y : NameId) → same_name x y ≡ true → last_of (same_name x) bound ≡ last_of (same_name y) bound
same_last {V} bound x y h = ap (λ (n : ℕ). last_of (same_name (record { 0 = n })) bound) (eqb-true x.0 y.0 h)

last_picked : {V : Type 0} (xs : List NameId) (bound : List (NameId × V)) (x : NameId) → last_of (same_name x) (picked xs bound) ≡ cond (list_any (same_name x) xs) (last_of (same_name x) bound) None
last_picked [] bound x = refl
last_picked {V} (y ∷ ys) bound x = by (last_of (same_name y) bound) (same_last bound x y) (last_picked ys bound x)
  where
    by : (o : Option V) → (same_name x y ≡ true → last_of (same_name x) bound ≡ o) → last_of (same_name x) (picked ys bound) ≡ cond (list_any (same_name x) ys) (last_of (same_name x) bound) None
        → last_of (same_name x) (pick o y (picked ys bound)) ≡ cond (same_name x y || list_any (same_name x) ys) (last_of (same_name x) bound) None
    by None same h = by_none (same_name x y) (list_any (same_name x) ys) (last_of (same_name x) bound) (last_of (same_name x) (picked ys bound)) same h
    by (Some v) same h =
        last_first (same_name x) (picked ys bound) y v
        ∙ by_some (same_name x y) (list_any (same_name x) ys) v (last_of (same_name x) bound) (last_of (same_name x) (picked ys bound)) same h

pub agree_picked : {V : Type 0} (names : NameId → Bool) (xs : List NameId) (bound : List (NameId × V)) → ((x : NameId) → names x ≡ true → list_any (same_name x) xs ≡ true) → Agree names (picked xs bound) bound
agree_picked {V} names xs bound has x h =
    last_picked xs bound x ∙ ap (λ (t : Bool). cond t (last_of (same_name x) bound) None) (has x h)

pub kept_by : (code : Code) → IsOrdered code → (e : ℕ) (xs : List NameId) → e < length code.nodes → HasFree code e xs → IsKeptBy code e xs
kept_by code ordered e xs h has env bound =
    meaning-same code ordered e env (picked xs bound) bound h (agree_picked (λ x. is_free code x e) xs bound has)

pub ruleset free_laws = (meaning-same, scalar-same, kept_by)
