-- Time: whole ticks from 0 to the horizon, and the grids of the nine sample rates.
use Rattle.std.specs.Prelude.{ℕ, ◌+◌, ◌*◌, ◌/◌, min, ℤ, pos, negsuc, ◌*ℤ◌}
use Rattle.ny_num.specs.Numbers.{floor_div}
use Rattle.ny_num.specs.declared.rate.Rate.{Rate}
use Rattle.ny_num.specs.declared.rate.Rate.TheVariants.{R2205, R4410, R8000, R11025, R16000, R22050, R32000, R44100, R48000}

-- an hour in ticks; a second has 705600000
abbrev pub horizon : ℕ
horizon = 2540160000000

-- samples a second
abbrev pub hz_of : Rate → ℕ
hz_of R2205 = 2205
hz_of R4410 = 4410
hz_of R8000 = 8000
hz_of R11025 = 11025
hz_of R16000 = 16000
hz_of R22050 = 22050
hz_of R32000 = 32000
hz_of R44100 = 44100
hz_of R48000 = 48000

-- ticks a sample
abbrev pub grid_of : Rate → ℕ
grid_of R2205 = 320000
grid_of R4410 = 160000
grid_of R8000 = 88200
grid_of R11025 = 64000
grid_of R16000 = 44100
grid_of R22050 = 32000
grid_of R32000 = 22050
grid_of R44100 = 16000
grid_of R48000 = 14700

-- a whole number as a count: 0 below 0
abbrev pub count_of : ℤ → ℕ
count_of (pos n) = n
count_of (negsuc n) = 0

-- the time from 0 to the horizon that is nearest to z ticks
unfoldable pub clamp_ticks : ℤ → ℕ
clamp_ticks z = min (count_of z) horizon

-- the time of v millionths of a second: 705.6 ticks each, rounded down
unfoldable pub ticks_of_micro : ℤ → ℕ
ticks_of_micro v = clamp_ticks (floor_div (v *ℤ pos 7056) (pos 10))

-- the index of the sample nearest to a time
unfoldable pub index_at : ℕ → Rate → ℕ
index_at t r = (t + grid_of r / 2) / grid_of r

-- the time of the sample at an index
unfoldable pub tick_at : ℕ → Rate → ℕ
tick_at n r = n * grid_of r

-- the index of the horizon: an hour of samples
abbrev pub last_index : Rate → ℕ
last_index r = 3600 * hz_of r
