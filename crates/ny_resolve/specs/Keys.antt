-- Local names as keys.
use Rattle.std.specs.Prelude.{Bool, nat_eq}
use Rattle.ny_resolve.specs.declared.term.NameId.{NameId}

-- bound at the same place
abbrev pub same_name : NameId → NameId → Bool
same_name x y = nat_eq x.0 y.0
