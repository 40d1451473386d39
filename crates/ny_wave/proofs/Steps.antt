-- A phase in the steps of a table.
use Rattle.std.proofs.Common.{◌≡◌, inl, inr, ℕ, ◌*◌, ◌/◌, ◌^◌, ◌<◌, List, ℤ, get_or, ap, ◌∙◌, arith}
use Rattle.std.proofs.lemmas.List.FromFn.{get_or-map-range_with_len}
use Rattle.ny_num.specs.Leaves.{wave_entry}
use Rattle.ny_wave.specs.Tables.{IsTableSize, entries}

pub some_entries : (n : ℕ) → IsTableSize n → 0 < n
some_entries n is = omega arith

pub some_phases : (n : ℕ) → IsTableSize n → 0 < 4294967296 / n
some_phases n is = elim is [ inl e ↦ rw e (omega arith) | inr f ↦ elim f [ inl e ↦ rw e (omega arith) | inr e ↦ rw e (omega arith) ] ]

pub step_within : (n phase : ℕ) → IsTableSize n → phase < 2 ^ 32 → phase / (4294967296 / n) < n
step_within n phase is low = elim is [ inl e ↦ rw e (omega arith) | inr f ↦ elim f [ inl e ↦ rw e (omega arith) | inr e ↦ rw e (omega arith) ] ]

pub entry_read : (n phase q : ℕ) (d : ℤ) (samples : List ℤ) → IsTableSize n → phase < 2 ^ 32 → q ≡ phase → samples ≡ entries n
    → get_or samples (q / (4294967296 / n)) d ≡ wave_entry n (phase / (2 ^ 32 / n))
entry_read n phase q d samples is low same whole =
    let k = phase / (4294967296 / n) in
    ap (λ p. get_or samples (p / (4294967296 / n)) d) same ∙ ap (λ s. get_or s k d) whole
    ∙ get_or-map-range_with_len (wave_entry n) 0 n k k d (step_within n phase is low) (omega arith)

pub whole_halves : (n phase : ℕ) → IsTableSize n → phase < 2 ^ 32 → phase / (4294967296 / n) < n / 2 * 2
whole_halves n phase is low = elim is [ inl e ↦ rw e (omega arith) | inr f ↦ elim f [ inl e ↦ rw e (omega arith) | inr e ↦ rw e (omega arith) ] ]
