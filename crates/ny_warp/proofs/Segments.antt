-- The segments of the line through the points of a map: which one a time lies on, and the value there.
use Rattle.std.proofs.Common.{◌≡◌, ℕ, zero, suc, ◌+◌, ◌-◌, ◌*◌, ◌/◌, ◌<◌, ◌≤◌, min, Bool, List, [], ◌∷◌, refl, sym, ap, ◌∙◌, arith, inl, inr, length, get_or}
use Rattle.std.specs.Prelude.{if◌then◌else◌}
use Rattle.std.specs.List.{AllWithin}
use Rattle.std.specs.List.Sorted.{IsPartitionPoint, IsNonDecreasingBy}
use Rattle.std.proofs.lemmas.Bool.{cases_lt, lt-ltb, le-ltb}
use Rattle.ny_num.specs.Grid.{horizon}
use Rattle.ny_warp.specs.declared.map.Point.{Point}
use Rattle.ny_warp.specs.Maps.{value_from, map_value, RisesFrom, origin, corner_from}
use Rattle.ny_warp.proofs.Quotients.{part-le}

-- ---- points that rise

pub above-start : (x y : ℕ) (ps : List Point) (k : ℕ) (d : Point) → RisesFrom x y ps → k < length ps
    → (x < (get_or ps k d).x) × (y < (get_or ps k d).y)
above-start x y [] k d rises h = absurd (omega arith)
above-start x y (p ∷ ps) zero d rises h = (rises.0, rises.1)
above-start x y (p ∷ ps) (suc k) d rises h =
    let more = above-start p.x p.y ps k d rises.2 (omega arith) in
    let left = rises.0 in
    let below = rises.1 in
    (omega arith, omega arith)

pub in-order : (x y : ℕ) (ps : List Point) (i j : ℕ) (d : Point) → RisesFrom x y ps → i ≤ j → j < length ps
    → ((get_or ps i d).x ≤ (get_or ps j d).x) × ((get_or ps i d).y ≤ (get_or ps j d).y)
in-order x y [] i j d rises le h = absurd (omega arith)
in-order x y (p ∷ ps) zero zero d rises le h = (omega arith, omega arith)
in-order x y (p ∷ ps) zero (suc j) d rises le h =
    let more = above-start p.x p.y ps j d rises.2 (omega arith) in (omega arith, omega arith)
in-order x y (p ∷ ps) (suc i) zero d rises le h = absurd (omega arith)
in-order x y (p ∷ ps) (suc i) (suc j) d rises le h = in-order p.x p.y ps i j d rises.2 (omega arith) (omega arith)

pub times_rise : (points : List Point) → RisesFrom 0 0 points → IsNonDecreasingBy (λ p. p.x) points
times_rise points rises i j d le h = (in-order 0 0 points i j d rises le h).0

pub values_rise : (points : List Point) → RisesFrom 0 0 points → IsNonDecreasingBy (λ p. p.y) points
values_rise points rises i j d le h = (in-order 0 0 points i j d rises le h).1

-- ---- the segment that ends at an index

pub corner-step : (a p : Point) (ps : List Point) (i : ℕ) → corner_from a (p ∷ ps) (suc i) ≡ corner_from p ps i
corner-step a p ps zero = refl
corner-step a p ps (suc i) = refl

-- it begins before the point at that index
pub corner-left : (a : Point) (ps : List Point) (i : ℕ) → RisesFrom a.x a.y ps → i < length ps
    → ((corner_from a ps i).x < (get_or ps i origin).x) × ((corner_from a ps i).y < (get_or ps i origin).y)
corner-left a [] i rises h = absurd (omega arith)
corner-left a (p ∷ ps) zero rises h = (rises.0, rises.1)
corner-left a (p ∷ ps) (suc i) rises h = rw (corner-step a p ps i) (corner-left p ps i rises.2 (omega arith))

-- and no earlier than where the line begins
pub corner-right : (a : Point) (ps : List Point) (i : ℕ) → RisesFrom a.x a.y ps → i ≤ length ps
    → (a.x ≤ (corner_from a ps i).x) × (a.y ≤ (corner_from a ps i).y)
corner-right a ps zero rises h = (omega arith, omega arith)
corner-right a ps (suc i) rises h = let above = above-start a.x a.y ps i origin rises (omega arith) in (omega arith, omega arith)

-- ---- the value at a time

pub value-left : (x y : ℕ) (p : Point) (ps : List Point) (v : ℕ) → v < p.x
    → value_from x y (p ∷ ps) v ≡ y + (v - x) * (p.y - y) / (p.x - x)
value-left x y p ps v h = ap (λ (b : Bool). if b then y + (v - x) * (p.y - y) / (p.x - x) else value_from p.x p.y ps v) (lt-ltb v p.x h)

pub value-right : (x y : ℕ) (p : Point) (ps : List Point) (v : ℕ) → p.x ≤ v
    → value_from x y (p ∷ ps) v ≡ value_from p.x p.y ps v
value-right x y p ps v h = ap (λ (b : Bool). if b then y + (v - x) * (p.y - y) / (p.x - x) else value_from p.x p.y ps v) (le-ltb v p.x h)

-- the first i points lie at or before t
abbrev Passed : List Point → ℕ → ℕ → Type 0
Passed ps i t = AllWithin (λ p. p.x ≤ t) ps 0 i

passed-rest : (p : Point) (ps : List Point) (i t : ℕ) → Passed (p ∷ ps) (suc i) t → Passed ps i t
passed-rest p ps i t passed k d low high = passed (suc k) d (omega arith) (omega arith)

pub value-inside : (a e : Point) (ps : List Point) (i t : ℕ) → Passed ps i t → i < length ps
    → e ≡ get_or ps i origin → t < e.x
    → value_from a.x a.y ps t ≡ (corner_from a ps i).y + (t - (corner_from a ps i).x) * (e.y - (corner_from a ps i).y) / (e.x - (corner_from a ps i).x)
value-inside a e [] i t passed h is later = absurd (omega arith)
value-inside a e (p ∷ ps) zero t passed h is later = rw is (value-left a.x a.y p ps t (rw is at later))
value-inside a e (p ∷ ps) (suc i) t passed h is later =
    rw (corner-step a p ps i) (value-right a.x a.y p ps t (passed 0 origin (omega arith) (omega arith)) ∙ value-inside p e ps i t (passed-rest p ps i t passed) (omega arith) is later)

pub value-past : (a : Point) (ps : List Point) (i t : ℕ) → Passed ps i t → i ≡ length ps
    → value_from a.x a.y ps t ≡ min ((corner_from a ps i).y + (t - (corner_from a ps i).x)) horizon
value-past a [] i t passed h = rw h refl
value-past a (p ∷ ps) zero t passed h = absurd (omega arith)
value-past a (p ∷ ps) (suc i) t passed h =
    rw (corner-step a p ps i) (value-right a.x a.y p ps t (passed 0 origin (omega arith) (omega arith)) ∙ value-past p ps i t (passed-rest p ps i t passed) (omega arith))

-- the same of a whole map, by the parts before and after the time
pub map_value-inside : (points : List Point) (i t : ℕ) (start e : Point)
    → IsPartitionPoint (λ p. p.x ≤ t) (λ p. t < p.x) points i → start ≡ corner_from origin points i
    → i < length points → ((d : Point) → e ≡ get_or points i d)
    → start.y + (t - start.x) * (e.y - start.y) / (e.x - start.x) ≡ map_value points t
map_value-inside points i t start e split begins h is =
    let later : t < e.x = rw (is origin) (split.1 i origin (omega arith) h) in
    rw begins (sym (value-inside origin e points i t split.0 h (is origin) later))

pub map_value-past : (points : List Point) (i t : ℕ) (last : Point)
    → IsPartitionPoint (λ p. p.x ≤ t) (λ p. t < p.x) points i → last ≡ corner_from origin points i
    → i ≡ length points → min (last.y + (t - last.x)) horizon ≡ map_value points t
map_value-past points i t last split begins h = rw begins (sym (value-past origin points i t split.0 h))

pub rising-inside : (points : List Point) (i : ℕ) (start e : Point) → RisesFrom 0 0 points
    → start ≡ corner_from origin points i → i < length points → e ≡ get_or points i origin
    → (start.x < e.x) × (start.y < e.y)
rising-inside points i start e rises begins h is = rw (begins, is) (corner-left origin points i rises h)

-- ---- values are times

rises-within : (x y : ℕ) (ps : List Point) → RisesFrom x y ps → y ≤ horizon
rises-within x y [] rises = rises.1
rises-within x y (p ∷ ps) rises = let last = rises-within p.x p.y ps rises.2 in let rise = rises.1 in omega arith

pub value_from-within : (x y : ℕ) (ps : List Point) (v : ℕ) → RisesFrom x y ps → value_from x y ps v ≤ horizon
value_from-within x y [] v rises = omega arith
value_from-within x y (p ∷ ps) v rises =
    elim (cases_lt v p.x) [
      | inl lt ↦
          let e = value-left x y p ps v lt in
          let last = rises-within p.x p.y ps rises.2 in
          let rise = rises.1 in
          let wide = rises.0 in
          let most = part-le (p.y - y) (v - x) (p.x - x) (omega arith) in
          omega arith
      | inr ge ↦ let e = value-right x y p ps v ge in let more = value_from-within p.x p.y ps v rises.2 in omega arith
    ]

pub ruleset within_horizon = (value_from-within)
