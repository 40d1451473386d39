-- The line between two knots.
use Rattle.std.proofs.Common.{◌≡◌, ℕ, ◌+◌, ◌-◌, ◌≤◌, ap, ◌∙◌, List, map, ℤ, pos, ◌-ℤ◌, arith}
use Rattle.std.specs.List.{range_with_len}
use Rattle.ny_num.specs.Leaves.{on_line}
use Rattle.ny_num.proofs.WrittenLists.{same_places}
use Rattle.ny_units.specs.Lines.{line_value}

on_line_is : (from to : ℕ × ℤ) (level rise : ℤ) (width place m : ℕ) → level ≡ from.1 → rise ≡ to.1 -ℤ from.1 → width ≡ to.0 - from.0 → place ≡ m - from.0
    → line_value level rise width place ≡ on_line from to m
unfolding on_line
on_line_is from to level rise width place m same_level same_rise same_width same_place =
    ap (λ z. line_value z rise width place) same_level ∙ ap (λ z. line_value from.1 z width place) same_rise
    ∙ ap (λ w. line_value from.1 (to.1 -ℤ from.1) w place) same_width ∙ ap (λ p. line_value from.1 (to.1 -ℤ from.1) (to.0 - from.0) p) same_place

pub between : (from to : ℕ × ℤ) (level rise : ℤ) (width place n len : ℕ) (out : List ℤ) → out ≡ map (line_value level rise width) (range_with_len place len)
    → level ≡ from.1 → rise ≡ to.1 -ℤ from.1 → width ≡ to.0 - from.0 → place ≡ n - from.0 → from.0 ≤ n → out ≡ map (on_line from to) (range_with_len n len)
between from to level rise width place n len out is same_level same_rise same_width same_place begun =
    is ∙ same_places (line_value level rise width) (on_line from to) place n len (pos 0)
    (λ k h. on_line_is from to level rise width (place + k) (n + k) same_level same_rise same_width (omega arith))
