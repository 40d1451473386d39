-- How far a leaf reaches.
use Rattle.std.proofs.Common.{ℕ, ◌≤◌, arith}
use Rattle.ny_units.specs.declared.leaves.Leaf.{Leaf}
use Rattle.ny_units.specs.declared.leaves.Leaf.TheVariants.{Const, Ramp, Osc, HzOsc, Lfo, Noise, Pwl}
use Rattle.ny_units.specs.Playing.{Reaches}

-- a leaf that reaches a place reaches each before it
pub reaches_before : (leaf : Leaf) (first end : ℕ) → first ≤ end → Reaches leaf end → Reaches leaf first
reaches_before (Const value) first end less reaches = tt
reaches_before (Ramp len) first end less reaches = omega arith
reaches_before (Osc inc loud) first end less reaches = tt
reaches_before (HzOsc inc loud) first end less reaches = tt
reaches_before (Lfo inc) first end less reaches = tt
reaches_before (Noise x loud) first end less reaches = tt
reaches_before (Pwl knots) first end less reaches = omega arith
