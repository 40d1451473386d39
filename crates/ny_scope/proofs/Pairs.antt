-- The pairs of bindings, from the last to the first.
use Rattle.std.proofs.Common.{◌≡◌, Bool, List, ap, reverse}
use Rattle.std.specs.Map.{lookup}
use Rattle.indexmap.proofs.ReorderLemmas.{map-reverse}
use Rattle.ny_scope.specs.declared.scope.Binding.{Binding}
use Rattle.ny_scope.specs.Scopes.{last_of}
use Rattle.ny_scope.specs.Indexed.{pair_of, pairs_of}

pub last_of_pairs : {K V : Type 0} (is : K → Bool) (bs : List (Binding K V)) → lookup is (pairs_of (reverse bs)) ≡ last_of is (pairs_of bs)
last_of_pairs is bs = ap (λ ps. lookup is ps) (map-reverse pair_of bs)
