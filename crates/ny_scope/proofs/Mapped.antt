-- Scopes whose values were changed one by one, and what all values of a scope have in common.
use Rattle.std.proofs.Common.{◌≡◌, Bool, true, false, List, [], ◌∷◌, ◌++◌, map, reverse, Option, Some, None, cond, refl, sym, ap, subst, ◌∙◌}
use Rattle.std.specs.List.{All}
use Rattle.std.specs.Option.{unwrap_or}
use Rattle.std.specs.Map.{lookup}
use Rattle.std.proofs.lemmas.List.{reverse-append}
use Rattle.std.proofs.lemmas.List.Elements.{All-nil, All-cons, All-head, All-tail, All-append}
use Rattle.indexmap.proofs.ReorderLemmas.{map-reverse}
use Rattle.ny_scope.specs.Scopes.{last_of}

module _ {K V W : Type 0} (f : V → W) where
  abbrev pub with_value : K × V → K × W
  with_value p = (p.0, f p.1)

  found-with : (is : K → Bool) (ps : List (K × V)) (other : V) → unwrap_or (lookup is (map with_value ps)) (f other) ≡ f (unwrap_or (lookup is ps) other)
  found-with is [] other = refl
  found-with is (p ∷ ps) other = by (is p.0) (found-with is ps other)
    where
      by : (b : Bool) → unwrap_or (lookup is (map with_value ps)) (f other) ≡ f (unwrap_or (lookup is ps) other) → unwrap_or (cond b (Some (f p.1)) (lookup is (map with_value ps))) (f other) ≡ f (unwrap_or (cond b (Some p.1) (lookup is ps)) other)
      by true h = refl
      by false h = h

  -- what a name stands for, where each value was changed
  pub last_of-with : (is : K → Bool) (ps : List (K × V)) (other : V) → unwrap_or (last_of is (map with_value ps)) (f other) ≡ f (unwrap_or (last_of is ps) other)
  last_of-with is ps other =
      ap (λ (w : List (K × W)). unwrap_or (lookup is w) (f other)) (sym (map-reverse with_value ps))
      ∙ found-with is (reverse ps) other

module _ {K V : Type 0} (P : V → Type 0) where
  abbrev pub OfValue : K × V → Type 0
  OfValue p = P p.1

  found-of : (is : K → Bool) (ps : List (K × V)) (other : V) → All OfValue ps → P other → P (unwrap_or (lookup is ps) other)
  found-of is [] other all o = o
  found-of is (p ∷ ps) other all o = by (is p.0) (found-of is ps other (All-tail OfValue p ps all) o)
    where
      by : (b : Bool) → P (unwrap_or (lookup is ps) other) → P (unwrap_or (cond b (Some p.1) (lookup is ps)) other)
      by true h = All-head OfValue p ps all
      by false h = h

  all-reverse : (ps : List (K × V)) → All OfValue ps → All OfValue (reverse ps)
  all-reverse [] all = All-nil OfValue
  all-reverse (p ∷ ps) all =
      subst (All OfValue) (sym (reverse-append (p ∷ []) ps))
      (All-append OfValue (reverse ps) (p ∷ []) (all-reverse ps (All-tail OfValue p ps all)) (All-cons OfValue p [] (All-head OfValue p ps all) (All-nil OfValue)))

  -- what a name stands for has what all values have
  pub last_of-has : (is : K → Bool) (ps : List (K × V)) (other : V) → All OfValue ps → P other → P (unwrap_or (last_of is ps) other)
  last_of-has is ps other all o = found-of is (reverse ps) other (all-reverse ps all) o
