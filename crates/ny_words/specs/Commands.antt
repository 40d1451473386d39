-- What a command asks for.
use Rattle.std.specs.Prelude.{ℕ, ◌≤◌, List}
use Rattle.ny_num.specs.declared.rate.Rate.{Rate}

-- what `render` is asked for: the name of its output, how many blocks the pool has, the block length and the rate
pub record Render : Type 0 where
  pub to : List ℕ
  pub pool : ℕ
  pub block : ℕ
  pub rate : Rate

-- what is asked for with a text
pub data Task : Type 0 where
  -- to write its file
  render : Render → Task
  -- to print its canonical text
  check : Task

-- the name of a text, and what is asked for with it
pub record Command : Type 0 where
  pub from : List ℕ
  pub task : Task

abbrev pub command_of : List ℕ → Task → Command
command_of from task = record { from = from; task = task }

-- the pool size and the block length are ones that can be given
abbrev pub IsInRange : Task → Type 0
IsInRange check = Unit {0}
IsInRange (render r) = (1 ≤ r.pool) × (r.pool ≤ 65536) × (16 ≤ r.block) × (r.block ≤ 4096)
