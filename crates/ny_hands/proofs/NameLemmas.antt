-- What names stand for, in a heap and as whole sounds.
use Rattle.std.proofs.Common.{◌≡◌, ℕ, Bool, true, false, cond, List, [], ◌∷◌, ◌++◌, map, reverse, Some, refl, sym, ap, subst, ◌∙◌, pos}
use Rattle.std.specs.Prelude.{zip, unwrap_or}
use Rattle.std.specs.List.{All}
use Rattle.std.specs.Map.{lookup}
use Rattle.std.specs.Option.{option_map}
use Rattle.std.proofs.lemmas.List.Elements.{All-nil, All-cons}
use Rattle.indexmap.proofs.ReorderLemmas.{map-reverse}
use Rattle.ny_scope.specs.Scopes.{last_of}
use Rattle.ny_scope.proofs.Mapped.{with_value, OfValue, last_of-has}
use Rattle.ny_resolve.specs.declared.term.NameId.{NameId}
use Rattle.ny_check.specs.declared.value.Value.{Value}
use Rattle.ny_check.specs.declared.value.Value.TheVariants.{Number, Sound as SoundOf}
use Rattle.ny_check.specs.Meaning.{Bound}
use Rattle.ny_check.specs.Values.{scalars_of, scalar_in}
use Rattle.ny_heap.specs.declared.sound.Sound.{Sound}
use Rattle.ny_heap.specs.Heap.{Node, HeapState, node_at}
use Rattle.ny_heap.specs.Means.{Whole, Extends}
use Rattle.ny_hands.specs.Frames.{Names, value_in, bound_in, sounds_among}
use Rattle.ny_hands.specs.Hands.{IsLike, Begins, AllBegin, IsNamed, AreNamed}
use Rattle.ny_hands.proofs.MarkLemmas.{begins_kept}
use Rattle.ny_hands.proofs.ComingLemmas.{stable_begin}

-- ---- as scalars

scalar_value : (w : Whole) (v : Value Sound) → scalar_in (value_in w v) ≡ scalar_in v
scalar_value w (Number v) = refl
scalar_value w (SoundOf s) = refl

pub scalars_bound : (w : Whole) (names : Names) → scalars_of (bound_in w names) ≡ scalars_of names
scalars_bound w [] = refl
scalars_bound w (b ∷ bs) = λ i. (b.0, scalar_value w b.1 i) ∷ scalars_bound w bs i

-- ---- as whole sounds

pub bound_append : (w : Whole) (ns ms : Names) → bound_in w (ns ++ ms) ≡ bound_in w ns ++ bound_in w ms
bound_append w [] ms = refl
bound_append w (n ∷ ns) ms = ap (λ (rest : Bound). (n.0, value_in w n.1) ∷ rest) (bound_append w ns ms)

pub bound_zip : (w : Whole) (xs : List NameId) (vs : List (Value Sound)) → bound_in w (zip xs vs) ≡ zip xs (map (value_in w) vs)
bound_zip w [] vs = refl
bound_zip w (x ∷ xs) [] = refl
bound_zip w (x ∷ xs) (v ∷ vs) = ap (λ (rest : Bound). (x, value_in w v) ∷ rest) (bound_zip w xs vs)

value_stable : {B : Type 0} (h : HeapState B) (v : Value Sound) → IsNamed h v → (w l : Whole) → Extends h w l → value_in l v ≡ value_in w v
value_stable h (Number v) is w l extends = refl
value_stable h (SoundOf s) is w l extends = ap (λ q. SoundOf q) (stable_begin h s is w l extends)

pub bound_stable : {B : Type 0} (h : HeapState B) (names : Names) → AreNamed h names → (w l : Whole) → Extends h w l → bound_in l names ≡ bound_in w names
bound_stable h [] are w l extends = refl
bound_stable h (b ∷ bs) are w l extends = λ i. (b.0, value_stable h b.1 are.0 w l extends i) ∷ bound_stable h bs are.1 w l extends i

-- ---- what a name is

lookup_with : {K V W : Type 0} (f : V → W) (is : K → Bool) (ps : List (K × V)) → lookup is (map (with_value f) ps) ≡ option_map f (lookup is ps)
lookup_with f is [] = refl
lookup_with {K} {V} {W} f is (p ∷ ps) = by (is p.0) (lookup_with f is ps)
  where
    by : (b : Bool) → lookup is (map (with_value f) ps) ≡ option_map f (lookup is ps) → cond b (Some (f p.1)) (lookup is (map (with_value f) ps)) ≡ option_map f (cond b (Some p.1) (lookup is ps))
    by true h = refl
    by false h = h

bound_is : (w : Whole) (names : Names) → bound_in w names ≡ map (with_value (value_in w)) names
bound_is w [] = refl
bound_is w (b ∷ bs) = ap (λ (rest : Bound). (b.0, value_in w b.1) ∷ rest) (bound_is w bs)

pub last_bound : (w : Whole) (is : NameId → Bool) (names : Names) → last_of is (bound_in w names) ≡ option_map (value_in w) (last_of is names)
last_bound w is names =
    ap (last_of is) (bound_is w names)
    ∙ ap (λ (ps : Bound). lookup is ps) (sym (map-reverse (with_value (value_in w)) names))
    ∙ lookup_with (value_in w) is (reverse names)

all_named : {B : Type 0} (h : HeapState B) (names : Names) → AreNamed h names → All (OfValue {K = NameId} (IsNamed h)) names
all_named h [] are = All-nil (OfValue {K = NameId} (IsNamed h))
all_named h (b ∷ bs) are = All-cons (OfValue {K = NameId} (IsNamed h)) b bs are.0 (all_named h bs are.1)

-- a name's sound is there
pub named_found : {B : Type 0} (h : HeapState B) (is : NameId → Bool) (names : Names) (a : Sound) → AreNamed h names → last_of is names ≡ Some (SoundOf a) → Begins h a
named_found h is names a are found =
    let other : Value Sound = Number (pos 0) in
    subst (λ o. IsNamed h (unwrap_or o other)) found (last_of-has (IsNamed h) is names other (all_named h names are) tt)

-- ---- in a later heap

pub named_kept : {B : Type 0} (old new : HeapState B) → ((v : ℕ) (x : Node B) → node_at old v ≡ Some x → (y : Node B) × (node_at new v ≡ Some y) × IsLike x y) → (names : Names) → AreNamed old names → AreNamed new names
named_kept {B} old new kept [] are = tt
named_kept {B} old new kept (b ∷ bs) are = (by_value b.1 are.0, named_kept old new kept bs are.1)
  where
    by_value : (v : Value Sound) → IsNamed old v → IsNamed new v
    by_value (Number v) is = tt
    by_value (SoundOf s) is = begins_kept old new kept s is

pub named_append : {B : Type 0} (h : HeapState B) (ns ms : Names) → AreNamed h ns → AreNamed h ms → AreNamed h (ns ++ ms)
named_append h [] ms p q = q
named_append h (n ∷ ns) ms p q = (p.0, named_append h ns ms p.1 q)

pub named_among : {B : Type 0} (h : HeapState B) (names : Names) → AllBegin h (sounds_among names) → AreNamed h names
named_among h [] b = tt
named_among h ((x, Number v) ∷ bs) b = (tt, named_among h bs b)
named_among h ((x, SoundOf s) ∷ bs) b = (b.0, named_among h bs b.1)
