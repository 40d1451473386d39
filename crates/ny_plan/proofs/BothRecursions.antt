-- Two recursions on smaller numbers, step by step.
use Rattle.std.proofs.Common.{ℕ, zero, suc, ◌+◌, Bool, true, false, cond, nat_lt}
use Rattle.ny_check.specs.Recursion.{below, turns, by_smaller}

-- what each pair of steps keeps holds of both wholes
pub by_smaller-both : {A C : Type 0} (P : A → C → Type 0) (a : A) (c : C) (f : ℕ → (ℕ → A) → A) (g : ℕ → (ℕ → C) → C) → P a c
    → ((n : ℕ) (x : ℕ → A) (y : ℕ → C) → ((k : ℕ) → P (x k) (y k)) → P (f n x) (g n y)) → (n : ℕ) → P (by_smaller a f n) (by_smaller c g n)
unfolding by_smaller
by_smaller-both P a c f g here further n = in_turns (n + 1) n
  where
    by_test : (b : Bool) (x : _) (y : _) → P x y → P (cond b x a) (cond b y c)
    by_test true x y h = h
    by_test false x y h = here

    in_turns : (left n : ℕ) → P (turns a f left n) (turns c g left n)
    in_turns zero n = here
    in_turns (suc left) n = further n (below n a (turns a f left)) (below n c (turns c g left)) (λ k. by_test (nat_lt k n) (turns a f left k) (turns c g left k) (in_turns left k))
