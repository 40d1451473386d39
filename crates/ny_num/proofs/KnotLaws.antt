-- Envelopes by index: between two knots that follow each other, the level is on the line between them.
use Rattle.std.proofs.Common.{◌≡◌, ℕ, zero, suc, ◌+◌, ◌<◌, ◌≤◌, cond, List, [], ◌∷◌, length, ℤ, sym, ap, subst, ◌∙◌, arith}
use Rattle.std.proofs.lemmas.Bool.{lt-leb, le-leb}
use Rattle.ny_num.specs.Leaves.{on_line, envelope_from, envelope_value}
use Rattle.ny_num.specs.ByIndex.{knot_at, NeverFall}

rest_rises : (knot : ℕ × ℤ) (knots : List (ℕ × ℤ)) → NeverFall (knot ∷ knots) → NeverFall knots
rest_rises knot knots rises = λ j k le lt. rises (suc j) (suc k) (omega (arith, le)) (omega (arith, lt))

between : (knot : ℕ × ℤ) (knots : List (ℕ × ℤ)) (i m : ℕ) → NeverFall (knot ∷ knots) → i < length knots → (knot_at (knot ∷ knots) i).0 ≤ m → m < (knot_at (knot ∷ knots) (suc i)).0
    → envelope_from knot knots m ≡ on_line (knot_at (knot ∷ knots) i) (knot_at (knot ∷ knots) (suc i)) m
between knot [] i m rises inside low high = absurd (omega (arith, inside))
between knot (next ∷ knots) zero m rises inside low high =
    ap (λ b. cond b (envelope_from next knots m) (on_line knot next m)) (lt-leb next.0 m high)
between knot (next ∷ knots) (suc i) m rises inside low high =
    let reached : next.0 ≤ m = omega (arith, rises 1 (suc i) (omega arith) (omega (arith, inside)), low) in
    ap (λ b. cond b (envelope_from next knots m) (on_line knot next m)) (le-leb next.0 m reached)
    ∙ between next knots i m (rest_rises knot (next ∷ knots) rises) (omega (arith, inside)) low high

pub between_knots : (knots : List (ℕ × ℤ)) (i m : ℕ) → NeverFall knots → i + 1 < length knots → (knot_at knots i).0 ≤ m → m < (knot_at knots (i + 1)).0
    → envelope_value knots m ≡ on_line (knot_at knots i) (knot_at knots (i + 1)) m
unfolding envelope_value
between_knots [] i m rises inside low high = absurd (omega (arith, inside))
between_knots (knot ∷ knots) i m rises inside low high =
    let next : i + 1 ≡ suc i = omega arith in
    between knot knots i m rises (omega (arith, inside)) low (subst (λ k. m < (knot_at (knot ∷ knots) k).0) next high)
    ∙ ap (λ k. on_line (knot_at (knot ∷ knots) i) (knot_at (knot ∷ knots) k) m) (sym next)
