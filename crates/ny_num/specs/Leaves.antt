-- Leaves: sounds that are made of no other sound, each sample by a formula in its place.
use Rattle.std.specs.Prelude.{ℕ, zero, suc, ◌+◌, ◌-◌, ◌*◌, ◌/◌, ◌%◌, ◌^◌, min, nat_le, nat_lt, if◌then◌else◌, List, [], ◌∷◌, map, slice_index_or, ℤ, pos, neg_ℤ, ◌+ℤ◌, ◌-ℤ◌, ◌*ℤ◌}
use Rattle.std.specs.List.{range_with_len}
use Rattle.std.specs.Int.{int_rem_euclid}
use Rattle.ny_num.specs.Numbers.{floor_div, sat_sample, whole_units, fix_add, sample_mul}
use Rattle.ny_num.specs.Grid.{hz_of, count_of, index_at}
use Rattle.ny_num.specs.Sound.{Sound, spanning}
use Rattle.ny_num.specs.declared.rate.Rate.{Rate}
use Rattle.ny_num.specs.declared.timing.Timing.{Timing}

-- the sound of this timing whose sample n, counted from its start, is f n
unfoldable pub leaf : Timing → (ℕ → ℤ) → Sound
leaf t f = record { rate = t.rate; start = t.start; stop = t.stop; samples = map f (range_with_len 0 t.len) }

-- when a leaf is heard, from the times of its beginning, its end and its stop in ticks: from the index nearest to its
-- beginning to the index nearest to its end
unfoldable pub leaf_timing : Rate → ℕ → ℕ → ℕ → Timing
leaf_timing r begins ends stop = spanning r (index_at begins r) (index_at ends r) stop

-- ---- ramp

-- sample n of a ramp: the line from 0 that would reach 1 at its length
unfoldable pub ramp_value : ℕ → ℕ → ℤ
ramp_value len n = pos (1000000 * n / len)

-- ---- waves

-- entry k of half a period of `half` entries: close to the sine of k / half of half a turn, in millionths, by a quotient
-- of two parabolas
unfoldable pub arch : ℕ → ℕ → ℕ
arch half k =
    let product = k * (half - k) in 1000000 * (16 * product) / (5 * (half * half) - 4 * product)

-- entry k of a table of one period with so many entries: an arch, and then the same arch below 0
unfoldable pub wave_entry : ℕ → ℕ → ℤ
wave_entry entries k =
    let half = entries / 2 in if nat_lt k half then pos (arch half k) else neg_ℤ (pos (arch half (k - half)))

-- by how much the phase grows from sample to sample at a frequency in millionths of Hz, where 2^32 is one period. A
-- frequency below 0 counts as 0
unfoldable pub increment : ℤ → Rate → ℕ
increment hz r = count_of hz * 2 ^ 32 / (1000000 * hz_of r) % 2 ^ 32

-- the entry at a phase, of a table with so many entries
unfoldable pub entry_at_phase : ℕ → ℕ → ℤ
entry_at_phase entries phase = wave_entry entries (phase / (2 ^ 32 / entries))

-- sample n of a wave: the phase begins at 0 and goes round
unfoldable pub wave_value : ℕ → ℕ → ℕ → ℤ
wave_value entries inc n = entry_at_phase entries (n * inc % 2 ^ 32)

-- a sample at a loudness, a number that becomes a sample itself
unfoldable pub louder_value : ℤ → ℤ → ℤ
louder_value loudness x = sample_mul (sat_sample loudness) x

-- ---- keys

-- the key of a key number and a transposition, each in millionths: the whole part of their sum, from 0 to 127
unfoldable pub key_of : ℤ → ℤ → ℕ
key_of key transposition = min (count_of (whole_units (fix_add key transposition))) 127

-- the frequencies of the keys 60 to 71, in ten-thousandths of Hz
abbrev pub octave_of_60 : List ℕ
octave_of_60 =
    2616256 ∷ 2771826 ∷ 2936648 ∷ 3111270 ∷ 3296276 ∷ 3492282 ∷
    3699944 ∷ 3919954 ∷ 4153047 ∷ 4400000 ∷ 4661638 ∷ 4938833 ∷ []

-- the frequency of a key in ten-thousandths of Hz: doubled for each octave above that of key 60, and divided by two for
-- each octave below it, rounded down once
unfoldable pub key_frequency : ℕ → ℕ
key_frequency key =
    let octave = key / 12 in
    let named = slice_index_or octave_of_60 (key % 12) 0 in
    if nat_le 5 octave then named * 2 ^ (octave - 5) else named / 2 ^ (5 - octave)

-- the same in millionths of Hz
unfoldable pub key_hz : ℕ → ℤ
key_hz key = pos (100 * key_frequency key)

-- ---- noise

-- where noise of this number begins: its whole units modulo 2^32
unfoldable pub seed_of : ℤ → ℕ
seed_of n = count_of (int_rem_euclid (whole_units n) (pos (2 ^ 32)))

-- what follows a state of the noise
unfoldable pub noise_step : ℕ → ℕ
noise_step x = (1664525 * x + 1013904223) % 2 ^ 32

-- the state after n steps
unfoldable pub noise_state : ℕ → ℕ → ℕ
noise_state seed zero = seed
noise_state seed (suc n) = noise_step (noise_state seed n)

-- the sample of a state: its upper 24 bits, spread from -1 to 1
unfoldable pub noise_level : ℕ → ℤ
noise_level x = pos (x / 256 * 2000000 / 2 ^ 24) -ℤ pos 1000000

-- sample n of noise: one step is made before each sample
unfoldable pub noise_value : ℕ → ℕ → ℤ
noise_value seed n = noise_level (noise_state seed (n + 1))

-- ---- envelopes of straight lines

-- the level at index m on the line from one knot to a later one; a knot is an index and the level there
unfoldable pub on_line : ℕ × ℤ → ℕ × ℤ → ℕ → ℤ
on_line from to m =
    sat_sample (from.1 +ℤ floor_div ((to.1 -ℤ from.1) *ℤ pos (m - from.0)) (pos (to.0 - from.0)))

-- the level at index m, at or after a knot, where these knots follow: past each that m has reached, and then on the line
-- to the next one. After the last knot its level stays
abbrev pub envelope_from : ℕ × ℤ → List (ℕ × ℤ) → ℕ → ℤ
envelope_from knot [] m = knot.1
envelope_from knot (next ∷ knots) m =
    if nat_le next.0 m then envelope_from next knots m else on_line knot next m

-- the level at index m of an envelope through these knots, whose indices never fall. Of knots at one index the last counts
unfoldable pub envelope_value : List (ℕ × ℤ) → ℕ → ℤ
envelope_value [] m = pos 0
envelope_value (knot ∷ knots) m = envelope_from knot knots m
