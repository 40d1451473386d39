-- Noise: its states one after another, and how far its samples reach.
use Rattle.std.proofs.Common.{◌≡◌, ℕ, zero, suc, ◌+◌, ◌^◌, ◌<◌, refl, ap, ◌∙◌, arith}
use Rattle.std.proofs.lemmas.Int.{ints}
use Rattle.ny_num.specs.Numbers.{IsSample}
use Rattle.ny_num.specs.Leaves.{noise_state, noise_step, noise_level, noise_value}

-- one state more
pub state_more : (x n : ℕ) → noise_state x (n + 1) ≡ noise_step (noise_state x n)
unfolding noise_state
state_more x n = let e : n + 1 ≡ suc n = omega arith in ap (noise_state x) e

-- so many states from a state on are so many more from its own beginning
pub state_from : (x m n : ℕ) → noise_state (noise_state x m) n ≡ noise_state x (m + n)
unfolding noise_state
state_from x m zero = let e : m ≡ m + 0 = omega arith in ap (noise_state x) e
state_from x m (suc n) = let e : suc (m + n) ≡ m + suc n = omega arith in ap noise_step (state_from x m n) ∙ ap (noise_state x) e

pub value_from : (x m n : ℕ) → noise_value (noise_state x m) n ≡ noise_value x (m + n)
unfolding noise_value
value_from x m n = let e : m + (n + 1) ≡ m + n + 1 = omega arith in ap noise_level (state_from x m (n + 1) ∙ ap (noise_state x) e)

low_state : (x : ℕ) → noise_step x < 2 ^ 32
unfolding noise_step
low_state x = omega arith

level_small : (x : ℕ) → x < 2 ^ 32 → IsSample (noise_level x)
unfolding noise_level
level_small x low = (omega (arith, ints), omega (arith, ints))

pub noise_sample : (x n : ℕ) → IsSample (noise_value x n)
unfolding noise_value
noise_sample x n = level_small (noise_state x (n + 1)) (state_low x n)
  where
    state_low : (x n : ℕ) → noise_state x (n + 1) < 2 ^ 32
    state_low x n = omega (arith, state_more x n, low_state (noise_state x n))

-- the first state is where it begins
pub state_first : (x : ℕ) → x ≡ noise_state x 0
unfolding noise_state
state_first x = refl

-- the level of the next state is the next sample
pub level_next : (x n state : ℕ) → state ≡ noise_state x (n + 1) → noise_level state ≡ noise_value x n
unfolding noise_value
level_next x n state e = ap noise_level e
