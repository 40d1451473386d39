-- A sound brought to another rate.
use Rattle.std.specs.Prelude.{ℕ, ◌+◌, ◌*◌, ◌/◌, ◌%◌, ◌==◌, Bool, if◌then◌else◌, ℤ, pos, ◌+ℤ◌, ◌-ℤ◌, ◌*ℤ◌}
use Rattle.std.specs.Int.{div_ceil}
use Rattle.ny_num.specs.Numbers.{floor_div}
use Rattle.ny_num.specs.Grid.{hz_of, grid_of}
use Rattle.ny_num.specs.Sound.{Sound, timing_of, value_at, sound_of, spanning}
use Rattle.ny_num.specs.declared.rate.Rate.{Rate}
use Rattle.ny_num.specs.declared.timing.Timing.{Timing}

-- the two rates are one
abbrev pub is_same_rate : Rate → Rate → Bool
is_same_rate a b = hz_of a == hz_of b

-- the first index of rate `to` that is no earlier than index m of rate `from`
unfoldable pub index_between : Rate → Rate → ℕ → ℕ
index_between from to m = div_ceil (m * grid_of from) (grid_of to)

-- when a sound is heard at another rate: start and end go to the next index there, and the stop stays
unfoldable pub other_rate_timing : Rate → Timing → Timing
other_rate_timing to t =
    spanning to (index_between t.rate to t.start) (index_between t.rate to (t.start + t.len)) t.stop

-- when a sound is heard once it was brought to a rate. Between equal rates nothing happens
unfoldable pub resampled_timing : Rate → Timing → Timing
resampled_timing to t = if is_same_rate t.rate to then t else other_rate_timing to t

-- the value at index m of rate `to`: on the line between the two neighbours in the sound, rounded down
unfoldable pub interpolated : Rate → Sound → ℕ → ℤ
interpolated to s m =
    let time = m * grid_of to in
    let before = value_at s (time / grid_of s.rate) in
    let after = value_at s (time / grid_of s.rate + 1) in
    before +ℤ floor_div ((after -ℤ before) *ℤ pos (time % grid_of s.rate)) (pos (grid_of s.rate))

-- the sound brought to a rate. Between equal rates nothing happens
unfoldable pub resampled : Rate → Sound → Sound
resampled to s =
    if is_same_rate s.rate to then s else sound_of (other_rate_timing to (timing_of s)) (interpolated to s)
