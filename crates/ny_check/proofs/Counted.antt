-- How many nodes are written, part by part.
use Rattle.std.proofs.Common.{◌≡◌, ◌≤◌, ℕ, ◌+◌, List, ◌∷◌, map, ap, arith}
use Rattle.ny_syntax.specs.Sizes.{total}

-- one more part is written, and the rest has room as before
pub count_step : {B : Type 0} (g : B → ℕ) (now rest : List B) (e : B) (n m all : ℕ) → now ≡ e ∷ rest → m ≤ n + g e → n + total (map g now) ≤ all → m + total (map g rest) ≤ all
count_step g now rest e n m all here one so_far =
    let left : total (map g now) ≡ g e + total (map g rest) = ap (λ es. total (map g es)) here in
    omega (arith, left, one, so_far)

-- the next part has room
pub count_room : {B : Type 0} (g : B → ℕ) (now rest : List B) (e : B) (n all most : ℕ) → now ≡ e ∷ rest → n + total (map g now) ≤ all → all ≤ most → n + g e ≤ most
count_room g now rest e n all most here so_far room =
    let left : total (map g now) ≡ g e + total (map g rest) = ap (λ es. total (map g es)) here in
    omega (arith, left, so_far, room)
