-- Quotients rounded down and up.
use Rattle.std.proofs.Common.{◌≡◌, ℕ, suc, ◌+◌, ◌*◌, ◌/◌, ◌<◌, ◌≤◌, arith, inl, inr}
use Rattle.std.specs.Int.{div_ceil}
use Rattle.std.proofs.Math.Nat.{div-le_of_le-mul, mul-le-mul_right}
use Rattle.std.proofs.lemmas.Grind.{div_ceil_times}
use Rattle.std.proofs.lemmas.Bool.{cases_lt}

-- a part of a height is no more than the height
pub part-le : (height along width : ℕ) → along < width → along * height / width ≤ height
part-le height along width h =
    let most : along * height ≤ width * height = grind arith in
    div-le_of_le-mul width most

pub ruleset parts = (part-le)

pub div_ceil-reaches : (n d k : ℕ) → 0 < d → div_ceil n d ≤ k → n ≤ k * d
div_ceil-reaches n d k h le =
    let bounds = div_ceil_times n d h in
    let more : div_ceil n d * d ≤ k * d = mul-le-mul_right d le in
    omega arith

pub div_ceil-before : (n d k : ℕ) → 0 < d → k < div_ceil n d → k * d < n
div_ceil-before n d k h lt =
    let bounds = div_ceil_times n d h in
    let next : suc k ≤ div_ceil n d = omega arith in
    let more : suc k * d ≤ div_ceil n d * d = mul-le-mul_right d next in
    let step : suc k * d ≡ k * d + d = omega arith in
    omega arith

pub div_ceil-within : (rise width height : ℕ) → 0 < height → rise ≤ height
    → div_ceil (rise * width) height ≤ width
div_ceil-within rise width height h le =
    elim (cases_lt width (div_ceil (rise * width) height)) [
      | inl lt ↦
          let past : width * height < rise * width = div_ceil-before (rise * width) height width h lt in
          let most : rise * width ≤ height * width = mul-le-mul_right width le in
          absurd (omega arith)
      | inr ge ↦ ge
    ]

pub ruleset ceilings = (div_ceil-within)
