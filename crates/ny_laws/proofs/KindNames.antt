-- Kinds of names.
use Rattle.std.proofs.Common.{◌≡◌, Bool, true, false, List, [], ◌∷◌, ◌++◌, reverse, refl, sym, ap, ◌∙◌, Option, Some, None, cond}
use Rattle.std.specs.Prelude.{◌||◌, zip, length}
use Rattle.std.specs.Map.{lookup}
use Rattle.std.specs.List.{list_any}
use Rattle.std.specs.Option.{option_flatten}
use Rattle.std.proofs.lemmas.List.{reverse-append}
use Rattle.ny_scope.specs.Scopes.{last_of}
use Rattle.ny_resolve.specs.declared.term.NameId.{NameId}
use Rattle.ny_resolve.specs.Keys.{same_name}
use Rattle.ny_kinds.specs.declared.kind.Kind.{Kind}
use Rattle.ny_kinds.specs.Rows.{is_value}
use Rattle.ny_kinds.specs.Kinds.{kind_named, some_kinds}
use Rattle.ny_laws.specs.Kinds.{Kinds, AreValues}

abbrev pub some_values : Kinds → List (NameId × Option Kind)
some_values [] = []
some_values (v ∷ values) = (v.0, Some v.1) ∷ some_values values

abbrev pub names_of : Kinds → List NameId
names_of [] = []
names_of (v ∷ values) = v.0 ∷ names_of values

abbrev pub AllValue : Kinds → Type 0
AllValue [] = Unit {0}
AllValue (v ∷ values) = (is_value v.1 ≡ true) × AllValue values

pub some_push : (values : Kinds) (x : NameId) (k : Kind) → some_values (values ++ (x, k) ∷ []) ≡ some_values values ++ (x, Some k) ∷ []
some_push [] x k = refl
some_push (v ∷ values) x k = ap (λ (vs : List (NameId × Option Kind)). (v.0, Some v.1) ∷ vs) (some_push values x k)

pub names_push : (values : Kinds) (x : NameId) (k : Kind) → names_of (values ++ (x, k) ∷ []) ≡ names_of values ++ x ∷ []
names_push [] x k = refl
names_push (v ∷ values) x k = ap (λ (xs : List NameId). v.0 ∷ xs) (names_push values x k)

pub values_push : (values : Kinds) (x : NameId) (k : Kind) → AllValue values → is_value k ≡ true → AllValue (values ++ (x, k) ∷ [])
values_push [] x k h is = (is, tt)
values_push (v ∷ values) x k h is = (h.0, values_push values x k h.1 is)

pub zip_some : (params : List NameId) (ks : List Kind) → zip params (some_kinds ks) ≡ some_values (zip params ks)
zip_some [] ks = refl
zip_some (x ∷ params) [] = refl
zip_some (x ∷ params) (k ∷ ks) = ap (λ (vs : List (NameId × Option Kind)). (x, Some k) ∷ vs) (zip_some params ks)

pub zip_names : (params : List NameId) (ks : List Kind) → length ks ≡ length params → names_of (zip params ks) ≡ params
zip_names [] ks is = refl
zip_names (x ∷ params) [] is = cc
zip_names (x ∷ params) (k ∷ ks) is = ap (λ (xs : List NameId). x ∷ xs) (zip_names params ks (cc is))

pub zip_values : (params : List NameId) (ks : List Kind) → AreValues ks → AllValue (zip params ks)
zip_values [] ks h = tt
zip_values (x ∷ params) [] h = tt
zip_values (x ∷ params) (k ∷ ks) h = (h.0, zip_values params ks h.1)

-- ---- the last pair of a name, by the pairs after the first

abbrev or_else : {V : Type 0} → Option V → Option V → Option V
or_else (Some v) o = Some v
or_else None o = o

found_first : {V : Type 0} (is : NameId → Bool) (ps : List (NameId × V)) (y : NameId) (v : V) → lookup is (ps ++ (y, v) ∷ []) ≡ or_else (lookup is ps) (cond (is y) (Some v) None)
found_first is [] y v = refl
found_first {V} is (p ∷ ps) y v = by (is p.0) (found_first is ps y v)
  where
    by : (b : Bool) → lookup is (ps ++ (y, v) ∷ []) ≡ or_else (lookup is ps) (cond (is y) (Some v) None)
        → cond b (Some p.1) (lookup is (ps ++ (y, v) ∷ [])) ≡ or_else (cond b (Some p.1) (lookup is ps)) (cond (is y) (Some v) None)
    by true h = refl
    by false h = h

last_first : {V : Type 0} (is : NameId → Bool) (ps : List (NameId × V)) (y : NameId) (v : V) → last_of is ((y, v) ∷ ps) ≡ or_else (last_of is ps) (cond (is y) (Some v) None)
last_first {V} is ps y v = ap (λ (w : List (NameId × V)). lookup is w) (reverse-append ((y, v) ∷ []) ps) ∙ found_first is (reverse ps) y v

some_same : (j k : Kind) → Some j ≡ Some k → j ≡ k
some_same j k is = cc

last_value : (is : NameId → Bool) (values : Kinds) (k : Kind) → AllValue values → last_of is values ≡ Some k → is_value k ≡ true
last_value is [] k h found = cc
last_value is (v ∷ values) k h found =
    by (last_of is values) (is v.0) (λ j at. last_value is values j h.1 at) refl (sym (last_first is values v.0 v.1) ∙ found)
  where
    by : (o : Option Kind) (t : Bool) → ((j : Kind) → last_of is values ≡ Some j → is_value j ≡ true) → last_of is values ≡ o → or_else o (cond t (Some v.1) None) ≡ Some k → is_value k ≡ true
    by (Some j) t rest at e = rest k (at ∙ e)
    by None true rest at e = ap is_value (sym (some_same v.1 k e)) ∙ h.0
    by None false rest at e = cc

last_there : (is : NameId → Bool) (values : Kinds) → list_any is (names_of values) ≡ true → (k : Kind) × (last_of is values ≡ Some k)
last_there is [] h = cc
last_there is (v ∷ values) h = by (last_of is values) (is v.0) refl h (λ more. last_there is values more) (last_first is values v.0 v.1)
  where
    by : (o : Option Kind) (t : Bool) → last_of is values ≡ o → t || list_any is (names_of values) ≡ true → (list_any is (names_of values) ≡ true → (k : Kind) × (last_of is values ≡ Some k))
        → last_of is (v ∷ values) ≡ or_else (last_of is values) (cond t (Some v.1) None) → (k : Kind) × (last_of is (v ∷ values) ≡ Some k)
    by (Some j) t at any rest e = (j, e ∙ ap (λ (o : Option Kind). or_else o (cond t (Some v.1) None)) at)
    by None true at any rest e = (v.1, e ∙ ap (λ (o : Option Kind). or_else o (Some v.1)) at)
    by None false at any rest e = let later = rest any in absurd (cc later.1)

none_of : (is : NameId → Bool) (values : Kinds) → last_of is values ≡ None → last_of is (some_values values) ≡ None
none_of is [] found = refl
none_of is (v ∷ values) found =
    by (last_of is values) (is v.0) (λ at. none_of is values at) refl (sym (last_first is values v.0 v.1) ∙ found) (last_first is (some_values values) v.0 (Some v.1))
  where
    by : (o : Option Kind) (t : Bool) → (last_of is values ≡ None → last_of is (some_values values) ≡ None) → last_of is values ≡ o → or_else o (cond t (Some v.1) None) ≡ None
        → last_of is (some_values (v ∷ values)) ≡ or_else (last_of is (some_values values)) (cond t (Some (Some v.1)) None) → last_of is (some_values (v ∷ values)) ≡ None
    by (Some j) t rest at e f = cc
    by None true rest at e f = cc
    by None false rest at e f = f ∙ ap (λ (o : Option (Option Kind)). or_else o None) (rest at)

last_some : (is : NameId → Bool) (values : Kinds) (k : Kind) → last_of is values ≡ Some k → last_of is (some_values values) ≡ Some (Some k)
last_some is [] k found = cc
last_some is (v ∷ values) k found =
    by (last_of is values) (is v.0) (λ j at. last_some is values j at) refl (sym (last_first is values v.0 v.1) ∙ found) (last_first is (some_values values) v.0 (Some v.1))
  where
    by : (o : Option Kind) (t : Bool) → ((j : Kind) → last_of is values ≡ Some j → last_of is (some_values values) ≡ Some (Some j)) → last_of is values ≡ o
        → or_else o (cond t (Some v.1) None) ≡ Some k → last_of is (some_values (v ∷ values)) ≡ or_else (last_of is (some_values values)) (cond t (Some (Some v.1)) None)
        → last_of is (some_values (v ∷ values)) ≡ Some (Some k)
    by (Some j) t rest at e f = f ∙ ap (λ (o : Option (Option Kind)). or_else o (cond t (Some (Some v.1)) None)) (rest k (at ∙ e))
    by None true rest at e f = f ∙ ap (λ (o : Option (Option Kind)). or_else o (Some (Some v.1))) (none_of is values at) ∙ ap (λ (j : Kind). Some (Some j)) (some_same v.1 k e)
    by None false rest at e f = cc

-- a name that is bound has a kind
pub bound_kind_of : (x : NameId) (values : Kinds) → AllValue values → list_any (same_name x) (names_of values) ≡ true
    → (k : Kind) × (last_of (same_name x) values ≡ Some k) × (is_value k ≡ true) × (kind_named x (some_values values) ≡ Some k)
bound_kind_of x values h any =
    let at = last_there (same_name x) values any in
    (at.0, at.1, last_value (same_name x) values at.0 h at.1, ap (λ (o : Option (Option Kind)). option_flatten o) (last_some (same_name x) values at.0 at.1))
