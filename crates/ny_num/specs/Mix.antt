-- Mixes: the sum of parts that are heard at different times, and the channel of one part.
use Rattle.std.specs.Prelude.{ℕ, ◌+◌, min, max, List, [], ◌∷◌, map, fold, ℤ, pos}
use Rattle.ny_num.specs.Numbers.{sample_add}
use Rattle.ny_num.specs.Grid.{index_at}
use Rattle.ny_num.specs.Sound.{Sound, timing_of, value_at, sound_of, spanning}
use Rattle.ny_num.specs.declared.rate.Rate.{Rate}
use Rattle.ny_num.specs.declared.timing.Timing.{Timing}

-- the least of a start and the starts of these parts
abbrev pub least_start : ℕ → List Timing → ℕ
least_start start [] = start
least_start start (t ∷ ts) = least_start (min start t.start) ts

-- the greatest of an end and, for each of these parts, of its end and the index of its stop
abbrev pub greatest_end : Rate → ℕ → List Timing → ℕ
greatest_end r end [] = end
greatest_end r end (t ∷ ts) = greatest_end r (max end (max (t.start + t.len) (index_at t.stop r))) ts

-- the greatest of a stop and the stops of these parts
abbrev pub greatest_stop : ℕ → List Timing → ℕ
greatest_stop stop [] = stop
greatest_stop stop (t ∷ ts) = greatest_stop (max stop t.stop) ts

-- when a mix is heard: from the least start of its parts to the greatest of their ends and of the indices of their stops,
-- with the greatest stop
unfoldable pub mix_timing : Rate → List Timing → Timing
mix_timing r [] = spanning r 0 0 0
mix_timing r (t ∷ ts) = spanning r (least_start t.start ts) (greatest_end r 0 (t ∷ ts)) (greatest_stop 0 (t ∷ ts))

-- the sum of the parts' values at an index, from the left, clamped at each step
unfoldable pub sum_at : List Sound → ℕ → ℤ
sum_at parts m = fold (λ total s. sample_add total (value_at s m)) (pos 0) parts

-- the mix of parts that have its rate
unfoldable pub mix : Rate → List Sound → Sound
mix r parts = sound_of (mix_timing r (map timing_of parts)) (sum_at parts)

-- when a channel is heard: from index 0 to the end of its part
unfoldable pub channel_timing : Timing → Timing
channel_timing t = spanning t.rate 0 (t.start + t.len) t.stop

-- the channel of a part: its values from index 0 on, 0 before it starts
unfoldable pub channel : Sound → Sound
channel s = sound_of (channel_timing (timing_of s)) (value_at s)
