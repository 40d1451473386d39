-- What names are bound to, where a later binding hides an earlier one.
use Rattle.std.specs.Prelude.{Bool, List, Option, reverse}
use Rattle.std.specs.Map.{lookup}

-- the value of the last pair whose key passes the test: the first one from the end
abbrev pub last_of : {K V : Type 0} → (K → Bool) → List (K × V) → Option V
last_of is pairs = lookup is (reverse pairs)
