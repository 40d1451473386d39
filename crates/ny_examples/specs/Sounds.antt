-- Sounds of the worked examples.
use Rattle.std.specs.Prelude.{ℕ, ℤ}
use Rattle.ny_num.specs.Numbers.{sat_sample}
use Rattle.ny_num.specs.Sound.{Sound}
use Rattle.ny_num.specs.Leaves.{leaf, leaf_timing}
use Rattle.ny_num.specs.declared.rate.Rate.TheVariants.{R8000}

-- a constant of v from a time to another, with its stop, in ticks
abbrev pub constant : ℤ → ℕ → ℕ → ℕ → Sound
constant v begins ends stop = leaf (leaf_timing R8000 begins ends stop) (λ n. sat_sample v)
