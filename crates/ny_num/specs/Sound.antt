-- Sounds as whole lists of samples, and when they are heard.
use Rattle.std.specs.Prelude.{◌≡◌, ℕ, ◌+◌, ◌-◌, ◌≤◌, min, max, nat_le, if◌then◌else◌, List, [], length, map, take, slice_index_or, ℤ, pos}
use Rattle.std.specs.List.{range_with_len}
use Rattle.ny_num.specs.Grid.{horizon, tick_at, last_index}
use Rattle.ny_num.specs.declared.rate.Rate.{Rate}
use Rattle.ny_num.specs.declared.timing.Timing.{Timing}

-- its rate, the index of its first sample, its logical stop in ticks, and its samples from the first on
pub record Sound : Type 0 where
  pub rate : Rate
  pub start : ℕ
  pub stop : ℕ
  pub samples : List ℤ

-- when the sound is heard
unfoldable pub timing_of : Sound → Timing
timing_of s = record { rate = s.rate; start = s.start; len = length s.samples; stop = s.stop }

-- the value at an index, 0 outside the samples
unfoldable pub value_at : Sound → ℕ → ℤ
value_at s m = if nat_le s.start m then slice_index_or s.samples (m - s.start) (pos 0) else pos 0

-- the sound of this timing that has the value f m at each index m
unfoldable pub sound_of : Timing → (ℕ → ℤ) → Sound
sound_of t f = record { rate = t.rate; start = t.start; stop = t.stop; samples = map f (range_with_len t.start t.len) }

-- ---- timings

-- it ends no later than the horizon, and stops no earlier than it starts
pub record IsTiming (t : Timing) : Type 0 where
  pub ends : t.start + t.len ≤ last_index t.rate
  pub stops : t.stop ≤ horizon
  pub starts : tick_at t.start t.rate ≤ t.stop

-- the same, at this rate
pub record IsTimingAt (r : Rate) (t : Timing) : Type 0 where
  pub within : IsTiming t
  pub at_rate : t.rate ≡ r

-- from a start to an end, with the stop raised to the start where it lies before
unfoldable pub spanning : Rate → ℕ → ℕ → ℕ → Timing
spanning r start end stop =
    record { rate = r; start = start; len = end - start; stop = max stop (tick_at start r) }

-- when the sum of two sounds of one rate is heard: from the least start to the greatest end, with the greatest stop
unfoldable pub sum_timing : Timing → Timing → Timing
sum_timing a b =
    spanning a.rate (min a.start b.start) (max (a.start + a.len) (b.start + b.len)) (max a.stop b.stop)

-- ---- no sound, and sounds moved to a later place

-- no samples: it starts and stops at 0
unfoldable pub silence : Rate → Sound
silence r = record { rate = r; start = 0; stop = 0; samples = [] }

-- what is left of a length from a start on: nothing is heard at or past the horizon's index
unfoldable pub cut_len : Rate → ℕ → ℕ → ℕ
cut_len r start len = min len (last_index r - start)

-- placed at index p: moved so that it starts there, unless it starts later anyway, and cut at the horizon. Its stop stays
-- in place, but is raised to the new start where it lies before
unfoldable pub placed_timing : ℕ → Timing → Timing
placed_timing p t =
    let start = max t.start p in
    record { rate = t.rate; start = start; len = cut_len t.rate start t.len; stop = max t.stop (tick_at start t.rate) }

-- the sound placed at index p: its samples move with its start
unfoldable pub placed : ℕ → Sound → Sound
placed p s =
    let start = max s.start p in
    record {
      rate = s.rate;
      start = start;
      stop = max s.stop (tick_at start s.rate);
      samples = take (cut_len s.rate start (length s.samples)) s.samples;
    }

-- heard again k samples later: start and stop both move, no further than the horizon, and it is cut there
unfoldable pub cued_timing : ℕ → Timing → Timing
cued_timing k t =
    let start = min (t.start + k) (last_index t.rate) in
    record { rate = t.rate; start = start; len = cut_len t.rate start t.len; stop = min (t.stop + tick_at k t.rate) horizon }

-- the sound heard again k samples later
unfoldable pub cued : ℕ → Sound → Sound
cued k s =
    let start = min (s.start + k) (last_index s.rate) in
    record {
      rate = s.rate;
      start = start;
      stop = min (s.stop + tick_at k s.rate) horizon;
      samples = take (cut_len s.rate start (length s.samples)) s.samples;
    }
