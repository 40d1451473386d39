-- The equation of a recursion on smaller numbers.
use Rattle.std.proofs.Common.{◌≡◌, ℕ, zero, suc, ◌+◌, ◌<◌, Bool, true, false, refl, ap, ◌∙◌, arith}
use Rattle.std.specs.Prelude.{nat_lt, if◌then◌else◌}
use Rattle.std.proofs.Math.Path.{fun_ext}
use Rattle.std.proofs.lemmas.Bool.{lt-ltb, ltb-true}
use Rattle.ny_check.specs.Recursion.{below, turns, by_smaller}

pub below-at : {A : Type 0} (n m : ℕ) (other : A) (f : ℕ → A) → m < n → below n other f m ≡ f m
below-at n m other f h = ap (λ (b : Bool). if b then f m else other) (lt-ltb m n h)

by_test : {A : Type 0} (b : Bool) (x y other : A) → (b ≡ true → x ≡ y) → (if b then x else other) ≡ (if b then y else other)
by_test true x y other h = h refl
by_test false x y other h = refl

pub below-same : {A : Type 0} (n : ℕ) (other : A) (f g : ℕ → A) → ((m : ℕ) → m < n → f m ≡ g m) → below n other f ≡ below n other g
below-same n other f g h = fun_ext (λ m. by_test (nat_lt m n) (f m) (g m) other (λ e. h m (ltb-true m n e)))

pub turns-enough : {A : Type 0} (other : A) (step : ℕ → (ℕ → A) → A) (a b n : ℕ) → n < a → n < b → turns other step a n ≡ turns other step b n
turns-enough other step zero b n h k = absurd (omega arith)
turns-enough other step (suc a) zero n h k = absurd (omega arith)
turns-enough other step (suc a) (suc b) n h k =
    ap (step n) (below-same n other (turns other step a) (turns other step b) (λ m l. turns-enough other step a b m (omega arith) (omega arith)))

pub by_smaller-is : {A : Type 0} (other : A) (step : ℕ → (ℕ → A) → A) (n : ℕ) → by_smaller other step n ≡ step n (below n other (by_smaller other step))
unfolding by_smaller
by_smaller-is other step n =
    let one : n + 1 ≡ suc n = omega arith in
    ap (λ k. turns other step k n) one
    ∙ ap (step n) (below-same n other (turns other step n) (λ m. turns other step (m + 1) m) (λ m h. turns-enough other step n (m + 1) m h (omega arith)))
