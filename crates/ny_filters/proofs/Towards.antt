-- The way from one lifted sample towards another.
use Rattle.std.proofs.Common.{◌≡◌, inl, inr, ℕ, suc, negsuc, ◌+◌, ◌-◌, ◌*◌, ◌/◌, ◌^◌, ◌<◌, ◌≤◌, sym, ap, subst, ◌∙◌, ℤ, pos, ◌+ℤ◌, ◌-ℤ◌, ◌*ℤ◌, arith}
use Rattle.std.proofs.lemmas.Bool.{cases_lt}
use Rattle.std.proofs.lemmas.Int.{ints, clamps}
use Rattle.std.proofs.Math.IntN.{*ℤ_comm, pos-*ℤ-pos, pos-*ℤ-negsuc}
use Rattle.ny_num.specs.Numbers.{million, floor_div, IsSample, sat_sample}
use Rattle.ny_num.specs.Filters.{one_pole_value}
use Rattle.ny_filters.specs.Ways.{IsShare, IsLifted, lift, on_way}
use Rattle.ny_filters.specs.declared.share.Share.{Share}
use Rattle.ny_num.proofs.Quotients.{floor_lifted}
use Rattle.ny_num.proofs.Shares.{line_within}
use Rattle.ny_filters.proofs.Reciprocals.{high_part}

-- the difference, lifted, times a factor
lifted_product : (micro from to way : ℕ) → way + from ≡ to + 4295000000 → pos micro *ℤ (pos to -ℤ pos from) +ℤ pos (micro * 4295 * 1000000) ≡ pos (micro * way)
lifted_product micro from to way e = elim (cases_lt to from) [
  | inl less ↦
      let fall : ℕ = from - to - 1 in
      let z : pos to -ℤ pos from ≡ negsuc fall = omega (arith, ints, less) in
      let all : micro * (way + suc fall) ≡ micro * 4295000000 = ap (λ n. micro * n) (let k : way + suc fall ≡ 4295000000 = omega (arith, e, less) in k) in
      ap (λ d. pos micro *ℤ d +ℤ pos (micro * 4295 * 1000000)) z ∙ ap (λ d. d +ℤ pos (micro * 4295 * 1000000)) (pos-*ℤ-negsuc micro fall) ∙ omega (arith, ints, all)
  | inr more ↦
      let rise : ℕ = to - from in
      let z : pos to -ℤ pos from ≡ pos rise = omega (arith, ints, more) in
      let all : micro * way ≡ micro * (rise + 4295000000) = ap (λ n. micro * n) (let k : way ≡ rise + 4295000000 = omega (arith, e, more) in k) in
      ap (λ d. pos micro *ℤ d +ℤ pos (micro * 4295 * 1000000)) z ∙ ap (λ d. d +ℤ pos (micro * 4295 * 1000000)) (pos-*ℤ-pos micro rise) ∙ omega (arith, ints, all)
]

pub high_share : (s : Share) (way : ℕ) → IsShare s → way ≤ 8589967294 → s.parts * way / 2 ^ 64 ≡ s.micro * way / 1000000
high_share s way is few = high_part (2 ^ 64) 1000000 (omega arith) s.micro s.parts 1000000 way is.enough is.few (omega (arith, few))

pub towards_is : (s : Share) (from to way : ℕ) → IsShare s → IsLifted from → IsLifted to → way ≡ to + 4295000000 - from
    → pos (from - s.micro * 4295 + s.parts * way / 2 ^ 64) ≡ on_way s.micro from to
towards_is s from to way is f t e =
    let h = high_share s way is (omega arith) in
    let q : floor_div (pos s.micro *ℤ (pos to -ℤ pos from)) million ≡ pos (s.micro * way / 1000000) -ℤ pos (s.micro * 4295) =
    floor_lifted 1000000 (omega arith) (pos s.micro *ℤ (pos to -ℤ pos from)) (s.micro * way) (s.micro * 4295) (lifted_product s.micro from to way (omega arith)) in
    omega (arith, ints, h, q, is.small, f.least)

pub towards_within : (micro from to n : ℕ) → micro < 1000000 → IsLifted from → IsLifted to → pos n ≡ on_way micro from to → IsLifted n
towards_within micro from to n small f t is =
    let a : ℤ = pos from -ℤ lift in
    let b : ℤ = pos to -ℤ lift in
    let way : b -ℤ a ≡ pos to -ℤ pos from = omega (arith, ints) in
    let product : (b -ℤ a) *ℤ pos micro ≡ pos micro *ℤ (pos to -ℤ pos from) = *ℤ_comm (b -ℤ a) (pos micro) ∙ ap (λ z. pos micro *ℤ z) way in
    let sample : IsSample (a +ℤ floor_div (pos micro *ℤ (pos to -ℤ pos from)) million) =
    subst (λ z. IsSample (a +ℤ floor_div z million)) product (line_within a b micro 1000000 small (omega (arith, ints, f.least, f.greatest)) (omega (arith, ints, t.least, t.greatest))) in
    record { least = omega (arith, ints, is, sample.0); greatest = omega (arith, ints, is, sample.1) }

-- the next output of one pole, lifted
pub output_is : (micro from to n : ℕ) (y x : ℤ) → IsLifted n → pos n ≡ on_way micro from to → pos from ≡ y +ℤ lift → pos to ≡ x +ℤ lift → pos n -ℤ lift ≡ one_pole_value (pos micro) y x
unfolding one_pole_value sat_sample
output_is micro from to n y x within is f t =
    let way : pos to -ℤ pos from ≡ x -ℤ y = omega (arith, ints, f, t) in
    let same : y +ℤ floor_div (pos micro *ℤ (x -ℤ y)) million ≡ pos n -ℤ lift =
    ap (λ z. y +ℤ floor_div (pos micro *ℤ z) million) (sym way) ∙ omega (arith, ints, is, f) in
    omega (arith, ints, clamps, same, within.least, within.greatest)
