-- How a scope lies in memory. No public clause cites this module.
use Rattle.std.specs.Prelude.{◌≡◌, Bool, List, [], ◌∷◌, map, reverse, Option, Some, None}
use Rattle.std.specs.Map.{lookup}
use Rattle.ny_scope.specs.declared.scope.Binding.{Binding}

-- what a key that may stand in the index is bound to
abbrev pub bound_in : {V : Type 0} → Option (Option V) → Option V
bound_in None = None
bound_in (Some value) = value

module _ {K V : Type 0} where
  abbrev pub pair_of : Binding K V → K × V
  pair_of b = (b.key, b.value)

  abbrev pub pairs_of : List (Binding K V) → List (K × V)
  pairs_of bs = map pair_of bs

  module _ (eq : K → K → Bool) where
    -- each binding, from the last to the first, has what its key was bound to before
    abbrev pub HasEarlier : List (Binding K V) → Type 0
    HasEarlier [] = Unit {0}
    HasEarlier (b ∷ bs) = (b.earlier ≡ lookup (eq b.key) (pairs_of bs)) × HasEarlier bs

    -- the index says of each key what it is bound to
    pub record IsIndexed (nearest : List (K × Option V)) (bs : List (Binding K V)) : Type 0 where
      pub earlier : HasEarlier (reverse bs)
      pub found : (k : K) → bound_in (lookup (eq k) nearest) ≡ lookup (eq k) (pairs_of (reverse bs))
