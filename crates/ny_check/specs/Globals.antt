-- Values of global variables that a program keeps.
use Rattle.std.specs.Prelude.{◌≡◌, []}
use Rattle.ny_check.specs.declared.value.GlobalValue.{GlobalValue}
use Rattle.ny_check.specs.Code.{Code}
use Rattle.ny_check.specs.Values.{scalar_of}

-- what is kept of a global variable is its value, which sees no local name
abbrev pub IsKept : Code → GlobalValue → Type 0
IsKept code g = g.value ≡ scalar_of code g.at.0 []
