-- Where the line through the points of a map reaches a value.
use Rattle.std.proofs.Common.{◌≡◌, ℕ, zero, suc, ◌+◌, ◌-◌, ◌*◌, ◌/◌, ◌<◌, ◌≤◌, List, [], ◌∷◌, sym, arith, inl, inr, length, get_or, subst}
use Rattle.std.specs.Prelude.{Option, Some, None, IfSome, IfNone}
use Rattle.std.specs.Option.{SomeIff}
use Rattle.std.specs.Int.{div_ceil}
use Rattle.std.specs.List.{AllWithin}
use Rattle.std.specs.List.Sorted.{IsPartitionPoint}
use Rattle.std.proofs.Math.Nat.{le-div_iff_mul-le, div-lt_iff_lt-mul}
use Rattle.std.proofs.lemmas.Bool.{cases_lt}
use Rattle.ny_num.specs.Grid.{horizon}
use Rattle.ny_warp.specs.declared.map.Point.{Point}
use Rattle.ny_warp.specs.Maps.{value_from, map_value, RisesFrom, IsThreshold, origin, corner_from}
use Rattle.ny_warp.proofs.Quotients.{part-le, div_ceil-reaches, div_ceil-before, div_ceil-within}
use Rattle.ny_warp.proofs.Segments.{corner-step, corner-right, value-left, value-right}

-- no value lies below the start
pub value-ge : (x y : ℕ) (ps : List Point) (v : ℕ) → RisesFrom x y ps → x ≤ v → y ≤ value_from x y ps v
value-ge x y [] v rises le = omega arith
value-ge x y (p ∷ ps) v rises le =
    elim (cases_lt v p.x) [
      | inl lt ↦ let e = value-left x y p ps v lt in omega arith
      | inr ge ↦ let e = value-right x y p ps v ge in let more = value-ge p.x p.y ps v rises.2 ge in let rise = rises.1 in omega arith
    ]

-- a segment that ends at t or above reaches it after its part of the width
segment-reaches : (x y t : ℕ) (p : Point) (ps : List Point) (v : ℕ) → RisesFrom x y (p ∷ ps) → y ≤ t
    → t ≤ p.y → x + div_ceil ((t - y) * (p.x - x)) (p.y - y) ≤ v → t ≤ value_from x y (p ∷ ps) v
segment-reaches x y t p ps v rises below top past =
    elim (cases_lt v p.x) [
      | inl lt ↦
          let e = value-left x y p ps v lt in
          let tall : 0 < p.y - y = omega (arith, rises.1) in
          let wide : 0 < p.x - x = omega (arith, rises.0) in
          let enough : (t - y) * (p.x - x) ≤ (v - x) * (p.y - y) = div_ceil-reaches ((t - y) * (p.x - x)) (p.y - y) (v - x) tall (omega arith) in
          let q : t - y ≤ (v - x) * (p.y - y) / (p.x - x) = (le-div_iff_mul-le {k = p.x - x} {x = t - y} {y = (v - x) * (p.y - y)} wide).1 enough in
          omega arith
      | inr ge ↦ let e = value-right x y p ps v ge in let more = value-ge p.x p.y ps v rises.2 ge in omega arith
    ]

-- and not before
segment-before : (x y t : ℕ) (p : Point) (ps : List Point) (v : ℕ) → RisesFrom x y (p ∷ ps) → y ≤ t
    → t ≤ p.y → x ≤ v → v < x + div_ceil ((t - y) * (p.x - x)) (p.y - y) → value_from x y (p ∷ ps) v < t
segment-before x y t p ps v rises below top from short =
    let tall : 0 < p.y - y = omega (arith, rises.1) in
    let wide : 0 < p.x - x = omega (arith, rises.0) in
    let most = div_ceil-within (t - y) (p.x - x) (p.y - y) tall (omega arith) in
    let inside : v < p.x = omega arith in
    let e = value-left x y p ps v inside in
    let less : (v - x) * (p.y - y) < (t - y) * (p.x - x) = div_ceil-before ((t - y) * (p.x - x)) (p.y - y) (v - x) tall (omega arith) in
    let q : (v - x) * (p.y - y) / (p.x - x) < t - y = (div-lt_iff_lt-mul {k = p.x - x} {x = (v - x) * (p.y - y)} {y = t - y} wide).1 less in
    omega arith

-- a segment that ends below t does not reach it
segment-below : (x y t : ℕ) (p : Point) (ps : List Point) (v : ℕ) → RisesFrom x y (p ∷ ps) → p.y < t → x ≤ v
    → v < p.x → value_from x y (p ∷ ps) v < t
segment-below x y t p ps v rises below from short =
    let e = value-left x y p ps v short in
    let most = part-le (p.y - y) (v - x) (p.x - x) (omega arith) in
    let rise = rises.1 in
    omega arith

-- from (a.x, a.y) on, the line reaches t from `at` on, and nowhere before
abbrev Reaches : Point → List Point → ℕ → ℕ → Type 0
Reaches a ps t at = (v : ℕ) → a.x ≤ v → (at ≤ v → t ≤ value_from a.x a.y ps v) × (v < at → value_from a.x a.y ps v < t)

-- the first i points lie below t
abbrev Below : List Point → ℕ → ℕ → Type 0
Below ps i t = AllWithin (λ p. p.y < t) ps 0 i

below-rest : (p : Point) (ps : List Point) (i t : ℕ) → Below (p ∷ ps) (suc i) t → Below ps i t
below-rest p ps i t below k d low high = below (suc k) d (omega arith) (omega arith)

-- what holds after a point that lies below t holds from the start
reaches-more : (a p : Point) (ps : List Point) (t at : ℕ) → RisesFrom a.x a.y (p ∷ ps) → p.y < t → p.x ≤ at
    → Reaches p ps t at → Reaches a (p ∷ ps) t at
reaches-more a p ps t at rises below right reaches v from =
    elim (cases_lt v p.x) [
      | inl lt ↦ (λ past. absurd (omega arith), λ short. segment-below a.x a.y t p ps v rises below from lt)
      | inr ge ↦
          let e = value-right a.x a.y p ps v ge in
          (λ past. rw e ((reaches v ge).0 past), λ short. rw e ((reaches v ge).1 short))
    ]

reaches-inside : (a : Point) (ps : List Point) (i t : ℕ) → RisesFrom a.x a.y ps → a.y ≤ t → Below ps i t
    → i < length ps → t ≤ (get_or ps i origin).y
    → Reaches a ps t ((corner_from a ps i).x + div_ceil ((t - (corner_from a ps i).y) * ((get_or ps i origin).x - (corner_from a ps i).x)) ((get_or ps i origin).y - (corner_from a ps i).y))
reaches-inside a [] i t rises low below h top = absurd (omega arith)
reaches-inside a (p ∷ ps) zero t rises low below h top = λ v from.
    (segment-reaches a.x a.y t p ps v rises low top, segment-before a.x a.y t p ps v rises low top from)
reaches-inside a (p ∷ ps) (suc i) t rises low below h top =
    let first : p.y < t = below 0 origin (omega arith) (omega arith) in
    let right = corner-right p ps i rises.2 (omega arith) in
    rw (corner-step a p ps i) (reaches-more a p ps t
    ((corner_from p ps i).x + div_ceil ((t - (corner_from p ps i).y) * ((get_or ps i origin).x - (corner_from p ps i).x)) ((get_or ps i origin).y - (corner_from p ps i).y))
    rises first (omega arith) (reaches-inside p ps i t rises.2 (omega arith) (below-rest p ps i t below) (omega arith) top))

reaches-past : (a : Point) (ps : List Point) (i t : ℕ) → RisesFrom a.x a.y ps → a.y ≤ t → t ≤ horizon
    → Below ps i t → i ≡ length ps
    → Reaches a ps t ((corner_from a ps i).x + (t - (corner_from a ps i).y))
reaches-past a [] i t rises low within below h = rw h (λ v from. (λ past. omega arith, λ short. omega arith))
reaches-past a (p ∷ ps) zero t rises low within below h = absurd (omega arith)
reaches-past a (p ∷ ps) (suc i) t rises low within below h =
    let first : p.y < t = below 0 origin (omega arith) (omega arith) in
    let right = corner-right p ps i rises.2 (omega arith) in
    rw (corner-step a p ps i) (reaches-more a p ps t ((corner_from p ps i).x + (t - (corner_from p ps i).y))
    rises first (omega arith) (reaches-past p ps i t rises.2 (omega arith) within (below-rest p ps i t below) (omega arith)))

-- the same of a whole map, by the parts below and above the value
pub threshold-inside : (points : List Point) (i t : ℕ) (start e : Point) → RisesFrom 0 0 points
    → IsPartitionPoint (λ p. p.y < t) (λ p. t ≤ p.y) points i → start ≡ corner_from origin points i
    → i < length points → e ≡ get_or points i origin
    → IsThreshold (map_value points) t (start.x + div_ceil ((t - start.y) * (e.x - start.x)) (e.y - start.y))
threshold-inside points i t start e rises split begins h is =
    rw (begins, is) (λ v. reaches-inside origin points i t rises (omega arith) split.0 h (split.1 i origin (omega arith) h) v (omega arith))

pub threshold-past : (points : List Point) (i t : ℕ) (last : Point) → RisesFrom 0 0 points → t ≤ horizon
    → IsPartitionPoint (λ p. p.y < t) (λ p. t ≤ p.y) points i → last ≡ corner_from origin points i
    → i ≡ length points
    → IsThreshold (map_value points) t (last.x + (t - last.y))
threshold-past points i t last rises within split begins h =
    rw begins (λ v. reaches-past origin points i t rises (omega arith) within split.0 h v (omega arith))

-- an answer that is there exactly where a time lies within the horizon
pub if-there : (r : Option ℕ) (P : Type 0) (at : ℕ) (T : ℕ → Type 0) → SomeIff r P at → T at → IfSome r T
if-there None P at T is h = tt
if-there (Some x) P at T is h = subst T (sym is.1) h

pub none-there : (r : Option ℕ) (f : ℕ → ℕ) (t at : ℕ) → SomeIff r (at ≤ horizon) at → IsThreshold f t at
    → IfNone r ((v : ℕ) → v ≤ horizon → f v < t)
none-there None f t at is h = λ v within.
    elim (cases_lt v at) [
      | inl lt ↦ (h v).1 lt
      | inr ge ↦ absurd (is (omega arith))
    ]
none-there (Some x) f t at is h = tt
