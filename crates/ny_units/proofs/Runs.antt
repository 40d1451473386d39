-- Runs of samples by formulas.
use Rattle.std.proofs.Common.{◌≡◌, ℕ, zero, suc, ◌+◌, ◌*◌, ◌/◌, ◌%◌, ◌<◌, ◌≤◌, List, ◌∷◌, length, get_or, map, refl, sym, ap, subst, ◌∙◌, All, ℤ, pos, ◌+ℤ◌, arith}
use Rattle.std.specs.List.{range_with_len}
use Rattle.std.proofs.lemmas.Int.{ints}
use Rattle.std.proofs.lemmas.List.FromFn.{get_or-map-range_with_len, length-map-range_with_len}
use Rattle.std.proofs.lemmas.Simd.{map-map}
use Rattle.std.proofs.Math.IntN.{pos-*ℤ-pos}
use Rattle.std.proofs.Math.ListN.{replicate}
use Rattle.std.proofs.Math.Nat.{div-le_of_le-mul}
use Rattle.ny_num.specs.Numbers.{IsSample, sat_sample, floor_div}
use Rattle.ny_num.specs.Leaves.{ramp_value, wave_value, entry_at_phase, louder_value, noise_state, noise_value}
use Rattle.ny_num.proofs.WrittenLists.{same_places}
use Rattle.ny_wave.specs.Tables.{IsTableSize}
use Rattle.ny_wave.proofs.Arches.{entry_sample}
use Rattle.ny_wave.proofs.Steps.{whole_halves}
use Rattle.ny_units.specs.Lines.{line_value}
use Rattle.ny_units.proofs.Loudnesses.{sat_same}
use Rattle.ny_units.proofs.Noises.{value_from}

-- the same sample throughout
pub constant_run : {X : Type 0} (value : X) (from len : ℕ) → replicate len value ≡ map (λ (n : ℕ). value) (range_with_len from len)
constant_run value from zero = refl
constant_run value from (suc len) = ap (λ xs. value ∷ xs) (constant_run value (from + 1) len)

-- what holds of each value holds of each item
pub all_of_run : {X : Type 0} (P : X → Type 0) (f : ℕ → X) (from len : ℕ) (xs : List X) → xs ≡ map f (range_with_len from len) → ((n : ℕ) → P (f n)) → All P xs
all_of_run P f from len xs is each k d within =
    let less : k < len = omega (arith, within, ap length is, length-map-range_with_len f from len) in
    subst P (sym (ap (λ s. get_or s k d) is ∙ get_or-map-range_with_len f from len k (from + k) d less refl)) (each (from + k))

-- a run at a loudness
pub louder_run : (loud : ℤ) (f : ℕ → ℤ) (from len : ℕ) (xs out : List ℤ) → xs ≡ map f (range_with_len from len) → out ≡ map (louder_value loud) xs
    → out ≡ map (λ n. louder_value loud (f n)) (range_with_len from len)
louder_run loud f from len xs out is louder = louder ∙ ap (map (louder_value loud)) is ∙ map-map (louder_value loud) f (range_with_len from len)

-- each sample of a wave is a sample
pub wave_sample : (entries inc n : ℕ) → IsTableSize entries → IsSample (wave_value entries inc n)
unfolding wave_value entry_at_phase
wave_sample entries inc n is =
    let phase : ℕ = n * inc % 4294967296 in
    entry_sample entries (phase / (4294967296 / entries)) (whole_halves entries phase is (omega arith))

-- a ramp is a line
ramp_is : (len n : ℕ) → 0 < len → n < len → line_value (pos 0) (pos 1000000) len n ≡ ramp_value len n
unfolding ramp_value
ramp_is len n some less =
    let small : 1000000 * n / len ≤ 1000000 = div-le_of_le-mul len (omega (arith, few len n less)) in
    ap (λ z. sat_sample (pos 0 +ℤ floor_div z (pos len))) (pos-*ℤ-pos 1000000 n)
    ∙ ap sat_sample (plus_zero (1000000 * n / len)) ∙ sat_same (pos (1000000 * n / len)) (omega (arith, ints), omega (arith, ints))
  where
    plus_zero : (a : ℕ) → pos 0 +ℤ pos a ≡ pos a
    plus_zero a = omega (arith, ints)

    few : (len n : ℕ) → n < len → 1000000 * n ≤ len * 1000000
    few len n less = omega arith

pub ramp_run : (len place from count : ℕ) (out : List ℤ) → 0 < len → place ≡ from → from + count ≤ len → out ≡ map (line_value (pos 0) (pos 1000000) len) (range_with_len place count)
    → out ≡ map (ramp_value len) (range_with_len from count)
ramp_run len place from count out some same within is =
    is ∙ same_places (line_value (pos 0) (pos 1000000) len) (ramp_value len) place from count (pos 0)
    (λ k h. ap (λ p. line_value (pos 0) (pos 1000000) len (p + k)) same ∙ ramp_is len (from + k) some (omega arith))

-- noise from a state on is the noise that the state belongs to
pub noise_run : (x state from len : ℕ) (loud : ℤ) (out : List ℤ) → state ≡ noise_state x from → out ≡ map (λ n. louder_value loud (noise_value state n)) (range_with_len 0 len)
    → out ≡ map (λ n. louder_value loud (noise_value x n)) (range_with_len from len)
noise_run x state from len loud out stands is =
    is ∙ same_places (λ n. louder_value loud (noise_value state n)) (λ n. louder_value loud (noise_value x n)) 0 from len (pos 0)
    (λ k h. let first : 0 + k ≡ k = omega arith in ap (λ n. louder_value loud (noise_value state n)) first ∙ ap (λ s. louder_value loud (noise_value s k)) stands ∙ ap (louder_value loud) (value_from x from k))
