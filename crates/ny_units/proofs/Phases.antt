-- The phase of a wave, sample by sample.
use Rattle.std.proofs.Common.{◌≡◌, ℕ, ◌+◌, ◌*◌, ◌%◌, ◌^◌, ap, ◌∙◌, arith}
use Rattle.std.proofs.Math.Nat.{add-mul}
use Rattle.ny_num.specs.Leaves.{wave_value, entry_at_phase}

-- the phase of the next sample
pub phase_more : (from k inc phase : ℕ) → phase ≡ (from + k) * inc % 2 ^ 32 → (phase + inc) % 2 ^ 32 ≡ (from + (k + 1)) * inc % 2 ^ 32
phase_more from k inc phase e =
    let same : from + (k + 1) ≡ from + k + 1 = omega arith in
    let next : (from + (k + 1)) * inc ≡ (from + k) * inc + 1 * inc = ap (λ n. n * inc) same ∙ add-mul (from + k) 1 inc in
    omega (arith, next)

-- the entry at the phase is the sample
pub phase_value : (entries from k inc phase : ℕ) → phase ≡ (from + k) * inc % 2 ^ 32 → entry_at_phase entries phase ≡ wave_value entries inc (from + k)
unfolding wave_value
phase_value entries from k inc phase e = ap (entry_at_phase entries) e
