-- Bindings that say the same of some names.
use Rattle.std.proofs.Common.{◌≡◌, Bool, true, false, List, [], ◌∷◌, ◌++◌, map, reverse, Option, Some, cond, refl, sym, ap, ◌∙◌}
use Rattle.std.specs.Prelude.{◌||◌, if◌then◌else◌}
use Rattle.std.specs.Map.{lookup}
use Rattle.std.specs.Option.{option_map}
use Rattle.std.proofs.lemmas.List.{reverse-append}
use Rattle.indexmap.proofs.ReorderLemmas.{map-reverse}
use Rattle.ny_scope.specs.Scopes.{last_of}
use Rattle.ny_scope.proofs.Mapped.{with_value}
use Rattle.ny_resolve.specs.declared.term.NameId.{NameId}
use Rattle.ny_resolve.specs.Keys.{same_name}
use Rattle.ny_check.specs.declared.value.Value.{Value}
use Rattle.ny_check.specs.Values.{Scalars, scalars_of, scalar_in}
use Rattle.ny_check.specs.FreeNames.{Agree}

or_right : (t u : Bool) → u ≡ true → t || u ≡ true
or_right true u h = refl
or_right false u h = h

-- of more names, of fewer
pub agree_left : {V : Type 0} (p q : NameId → Bool) (b c : List (NameId × V)) → Agree (λ x. p x || q x) b c → Agree p b c
agree_left p q b c h x k = h x (ap (λ (t : Bool). t || q x) k)

pub agree_right : {V : Type 0} (p q : NameId → Bool) (b c : List (NameId × V)) → Agree (λ x. p x || q x) b c → Agree q b c
agree_right p q b c h x k = h x (or_right (p x) (q x) k)

-- with one more pair
last_push : {V : Type 0} (is : NameId → Bool) (b : List (NameId × V)) (y : NameId) (v : V) → last_of is (b ++ (y, v) ∷ []) ≡ cond (is y) (Some v) (last_of is b)
last_push {V} is b y v = ap (λ (w : List (NameId × V)). lookup is w) (reverse-append b ((y, v) ∷ []))

by_name : {V : Type 0} (t free : Bool) (v : V) (o u : Option V) → ((if t then false else free) ≡ true → o ≡ u) → free ≡ true → cond t (Some v) o ≡ cond t (Some v) u
by_name true free v o u h k = refl
by_name false free v o u h k = h k

-- a name that both bind to the same is hidden
pub agree_push : {V : Type 0} (free : NameId → Bool) (y : NameId) (v : V) (b c : List (NameId × V)) → Agree (λ x. if same_name x y then false else free x) b c → Agree free (b ++ (y, v) ∷ []) (c ++ (y, v) ∷ [])
agree_push free y v b c h x k =
    last_push (same_name x) b y v
    ∙ by_name (same_name x y) (free x) v (last_of (same_name x) b) (last_of (same_name x) c) (h x) k
    ∙ sym (last_push (same_name x) c y v)

-- what names are as numbers
scalars_of-is : {S : Type 0} (names : List (NameId × Value S)) → scalars_of names ≡ map (with_value scalar_in) names
scalars_of-is [] = refl
scalars_of-is (b ∷ bs) = ap (λ (rest : Scalars). (b.0, scalar_in b.1) ∷ rest) (scalars_of-is bs)

found_mapped : {S : Type 0} (is : NameId → Bool) (ps : List (NameId × Value S)) → lookup is (map (with_value scalar_in) ps) ≡ option_map scalar_in (lookup is ps)
found_mapped is [] = refl
found_mapped {S} is (p ∷ ps) = by (is p.0) (found_mapped is ps)
  where
    by : (b : Bool) → lookup is (map (with_value scalar_in) ps) ≡ option_map scalar_in (lookup is ps) → cond b (Some (scalar_in p.1)) (lookup is (map (with_value scalar_in) ps)) ≡ option_map scalar_in (cond b (Some p.1) (lookup is ps))
    by true h = refl
    by false h = h

last_scalar : {S : Type 0} (is : NameId → Bool) (ps : List (NameId × Value S)) → last_of is (scalars_of ps) ≡ option_map scalar_in (last_of is ps)
last_scalar {S} is ps =
    ap (λ (w : Scalars). last_of is w) (scalars_of-is ps)
    ∙ ap (λ (w : Scalars). lookup is w) (sym (map-reverse (with_value scalar_in) ps))
    ∙ found_mapped is (reverse ps)

pub agree_scalars : {S : Type 0} (free : NameId → Bool) (b c : List (NameId × Value S)) → Agree free b c → Agree free (scalars_of b) (scalars_of c)
agree_scalars {S} free b c h x k =
    last_scalar (same_name x) b ∙ ap (λ (o : Option (Value S)). option_map scalar_in o) (h x k) ∙ sym (last_scalar (same_name x) c)
