-- Names that are bound or found, by their index.
use Rattle.std.proofs.Common.{◌≡◌, Bool, true, false, List, [], ◌∷◌, ◌++◌, reverse, Option, Some, None, cond, refl, sym, ap, ◌∙◌}
use Rattle.std.specs.Prelude.{◌||◌, is_some, is_none, if◌then◌else◌}
use Rattle.std.specs.List.{list_any}
use Rattle.std.specs.Map.{keys_of, lookup}
use Rattle.std.proofs.lemmas.List.{map-append, reverse-append}
use Rattle.ny_scope.specs.Scopes.{last_of}
use Rattle.ny_scope.proofs.Kept.{kept_more, kept_all}
use Rattle.ny_resolve.specs.declared.term.NameId.{NameId}
use Rattle.ny_resolve.specs.Keys.{same_name}
use Rattle.ny_check.specs.Writing.{is_among, use_of}

module _ {K V : Type 0} where
  -- one more key
  pub keys_of-push : (ps : List (K × V)) (k : K) (v : V) → keys_of (ps ++ (k, v) ∷ []) ≡ keys_of ps ++ k ∷ []
  keys_of-push ps k v = map-append (λ (p : K × V). p.0) ps ((k, v) ∷ [])

  found_last : (is : K → Bool) (xs : List (K × V)) (p : K × V) → is_some (lookup is (xs ++ p ∷ [])) ≡ is p.0 || is_some (lookup is xs)
  found_last is [] p = by (is p.0)
    where
      by : (b : Bool) → is_some (cond b (Some p.1) None) ≡ b || false
      by true = refl
      by false = refl
  found_last is (x ∷ xs) p = by (is x.0) (is p.0) (found_last is xs p)
    where
      by : (b c : Bool) → is_some (lookup is (xs ++ p ∷ [])) ≡ c || is_some (lookup is xs) → is_some (cond b (Some x.1) (lookup is (xs ++ p ∷ []))) ≡ c || is_some (cond b (Some x.1) (lookup is xs))
      by true true h = refl
      by true false h = refl
      by false c h = h

  -- a key is among those of a scope where it is bound to something
  pub is_bound : (is : K → Bool) (ps : List (K × V)) → list_any is (keys_of ps) ≡ is_some (last_of is ps)
  is_bound is [] = refl
  is_bound is (p ∷ ps) =
      ap (λ b. is p.0 || b) (is_bound is ps) ∙ sym (found_last is (reverse ps) p)
      ∙ ap (λ (w : List (K × V)). is_some (lookup is w)) (sym (reverse-append (p ∷ []) ps))

by_test : (r : Option Bool) (b : Bool) (n : NameId) (found : List NameId) → b ≡ is_some r → is_none r ≡ true
    → (if is_among n found then found else found ++ n ∷ []) ≡ (if b || is_among n found then found else found ++ n ∷ [])
by_test None true n found e h = absurd (cc)
by_test None false n found e h = refl
by_test (Some v) b n found e h = absurd (cc)

-- a use of a name that is not bound
pub use_free : (r : Option Bool) (n : NameId) (bound : List (NameId × Bool)) (found now : List NameId) → r ≡ last_of (same_name n) bound → is_none r ≡ true
    → now ≡ (if is_among n found then found else found ++ n ∷ []) → now ≡ use_of n (keys_of bound) found
use_free r n bound found now is none h =
    h ∙ by_test r (is_among n (keys_of bound)) n found (is_bound (same_name n) bound ∙ ap is_some (sym is)) none

by_bound : (r : Option Bool) (b : Bool) (n : NameId) (found : List NameId) → b ≡ is_some r → is_none r ≡ false
    → found ≡ (if b || is_among n found then found else found ++ n ∷ [])
by_bound None b n found e h = absurd (cc)
by_bound (Some v) true n found e h = refl
by_bound (Some v) false n found e h = absurd (cc)

-- a use of a bound name
pub use_bound : (r : Option Bool) (n : NameId) (bound : List (NameId × Bool)) (found : List NameId) → r ≡ last_of (same_name n) bound → is_none r ≡ false → found ≡ use_of n (keys_of bound) found
use_bound r n bound found is some = by_bound r (is_among n (keys_of bound)) n found (is_bound (same_name n) bound ∙ ap is_some (sym is)) some

pub ruleset use_laws = (use_free, use_bound)

pub ruleset bound_one = (keys_of-push, kept_all)

pub ruleset bound_more = (keys_of-push, kept_more)
