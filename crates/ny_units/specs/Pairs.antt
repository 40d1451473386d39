-- Operations on two inputs.
use Rattle.std.specs.Prelude.{ℕ, ◌==◌, if◌then◌else◌}
use Rattle.ny_kernels.specs.declared.operation.Op.{Op}
use Rattle.ny_units.specs.declared.input.Source.{Source}

-- the operation, what stands to its left and to its right, and the index where the unit begins
pub record Pair : Type 0 where
  pub op : Op
  pub left : Source
  pub right : Source
  pub start : ℕ

-- an input by its number
abbrev pub side_of : Pair → ℕ → Source
side_of p i = if i == 0 then p.left else p.right

-- with another input in its place
abbrev pub with_side : Pair → ℕ → Source → Pair
with_side p i s = if i == 0 then record p { left = s } else record p { right = s }
