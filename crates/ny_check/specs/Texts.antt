-- Which programs there are: those of accepted texts.
use Rattle.std.specs.Prelude.{◌≡◌, Some, None}
use Rattle.ny_syntax.specs.declared.tree.Tree.{Tree}
use Rattle.ny_check.specs.Code.{Code}
use Rattle.ny_check.specs.Acceptance.{fault_of, program_in}

-- a program is that of a text without a fault
pub record IsAccepted (code : Code) : Type 0 where
  pub tree : Tree
  pub accepted : fault_of tree ≡ None
  pub program : program_in tree ≡ Some code
