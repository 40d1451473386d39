-- A later local time has no earlier global time.
use Rattle.std.proofs.Common.{◌≡◌, ℕ, zero, suc, ◌-◌, ◌*◌, ◌/◌, ◌<◌, ◌≤◌, inl, inr, List, [], ◌∷◌, arith, ℤ, pos, negsuc, neg_ℤ, ◌≤ℤ◌, refl}
use Rattle.std.proofs.lemmas.Int.{ints}
use Rattle.std.proofs.lemmas.Nat.{le-div}
use Rattle.std.proofs.lemmas.Bool.{cases_lt}
use Rattle.std.proofs.Math.Nat.{div-mul-le_self, mul-le-mul_left, mul-le-mul_right}
use Rattle.ny_num.specs.Numbers.{floor_div, million}
use Rattle.ny_num.specs.Grid.{clamp_ticks, count_of, ticks_of_micro}
use Rattle.ny_warp.specs.declared.map.Point.{Point}
use Rattle.ny_warp.specs.declared.step.Step.{Step}
use Rattle.ny_warp.specs.declared.env.Env.{Env}
use Rattle.ny_warp.specs.Environment.{global_time}
use Rattle.ny_warp.specs.Maps.{value_from, map_value, RisesFrom}
use Rattle.ny_warp.specs.Warp.{scaled, placed_at, step_value, through}
use Rattle.ny_warp.proofs.Quotients.{part-le}
use Rattle.ny_warp.proofs.Reaches.{value-ge}
use Rattle.ny_warp.proofs.Segments.{value-left, value-right}

-- f takes no later time to an earlier one
abbrev pub Rises : (ℕ → ℕ) → Type 0
Rises f = (v w : ℕ) → v ≤ w → f v ≤ f w

pub div-rises : (a b k : ℕ) → 0 < k → a ≤ b → a / k ≤ b / k
div-rises a b k some le = le-div (a / k) b k some (omega (arith, div-mul-le_self a k))

-- ---- local seconds

none-below : (m : ℕ) → count_of (floor_div (neg_ℤ (pos m)) (pos 10)) ≡ 0
none-below zero = refl
none-below (suc m) = refl

pub ticks-rise : (v w : ℤ) → v ≤ℤ w → ticks_of_micro v ≤ ticks_of_micro w
unfolding ticks_of_micro clamp_ticks
ticks-rise (pos a) (pos b) le =
    let more : a * 7056 ≤ b * 7056 = omega (arith, ints) in
    let q = div-rises (a * 7056) (b * 7056) 10 (omega arith) more in
    omega arith
ticks-rise (pos a) (negsuc n) le = absurd (omega (arith, ints))
ticks-rise (negsuc n) w le = let e = none-below (suc n * 7056) in omega arith

-- ---- offset and factor

none-scaled : (m : ℕ) → count_of (floor_div (neg_ℤ (pos m)) million) ≡ 0
none-scaled zero = refl
none-scaled (suc m) = refl

pub scaled-rises : (s : ℤ) → Rises (scaled s)
unfolding scaled clamp_ticks
scaled-rises (pos k) v w le =
    let more : k * v ≤ k * w = mul-le-mul_left k le in
    let q = div-rises (k * v) (k * w) 1000000 (omega arith) more in
    omega arith
scaled-rises (negsuc n) v w le = let e = none-scaled (suc n * v) in omega arith

pub placed-rises : (d : ℕ) (s : ℤ) → Rises (placed_at d s)
placed-rises d s v w le = let more = scaled-rises s v w le in omega arith

-- ---- maps

pub value-rises : (x y : ℕ) (ps : List Point) → RisesFrom x y ps → Rises (value_from x y ps)
value-rises x y [] rises v w le = omega arith
value-rises x y (p ∷ ps) rises v w le =
    elim (cases_lt v p.x) [
      | inl v_left ↦
          let e = value-left x y p ps v v_left in
          elim (cases_lt w p.x) [
            | inl w_left ↦
                let f = value-left x y p ps w w_left in
                let wide : 0 < p.x - x = omega (arith, rises.0) in
                let more : (v - x) * (p.y - y) ≤ (w - x) * (p.y - y) = mul-le-mul_right (p.y - y) (omega arith) in
                let q = div-rises ((v - x) * (p.y - y)) ((w - x) * (p.y - y)) (p.x - x) wide more in
                omega arith
            | inr w_right ↦
                let f = value-right x y p ps w w_right in
                let most = part-le (p.y - y) (v - x) (p.x - x) (omega (arith, rises.0)) in
                let more = value-ge p.x p.y ps w rises.2 w_right in
                let rise = rises.1 in
                omega arith
          ]
      | inr v_right ↦
          let e = value-right x y p ps v v_right in
          let f = value-right x y p ps w (omega arith) in
          let more = value-rises p.x p.y ps rises.2 v w le in
          omega arith
    ]

pub map-rises : (points : List Point) → RisesFrom 0 0 points → Rises (map_value points)
map-rises points rises = value-rises 0 0 points rises

pub step-rises : (s : Step) → Rises (map_value s.map) → Rises (step_value s)
step-rises s rises v w le = placed-rises s.d s.s (map_value s.map v) (map_value s.map w) (rises v w le)

-- ---- the whole

pub global-rises : (env : Env) → Rises (through env.steps) → (v w : ℤ) → v ≤ℤ w → global_time env v ≤ global_time env w
unfolding global_time
global-rises env rises v w le = rises (placed_at env.d env.s (ticks_of_micro v)) (placed_at env.d env.s (ticks_of_micro w)) (placed-rises env.d env.s (ticks_of_micro v) (ticks_of_micro w) (ticks-rise v w le))

pub ruleset never_falling = (map-rises, step-rises, global-rises)
