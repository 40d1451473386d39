-- More readers of a list, and sounds that are heard at another time.
use Rattle.std.specs.Prelude.{ℕ, ◌+◌, ◌<◌, ◌^◌, map, sum}
use Rattle.std.specs.List.{range_with_len}
use Rattle.std.specs.Option.{option_map_or}
use Rattle.ny_num.specs.Sound.{cut_len}
use Rattle.ny_num.specs.declared.timing.Timing.{Timing}
use Rattle.ny_heap.specs.declared.sound.Sound.{Sound}
use Rattle.ny_heap.specs.Heap.{HeapState, node_at, list_of, readers_in}

-- how many readers a list has: sounds in callers' hands and the heap's own
abbrev pub readers_of : {B : Type 0} → HeapState B → ℕ → ℕ
readers_of h v = option_map_or (λ x. sum (map (readers_in h v x) (range_with_len 0 (x.filled + 1)))) (node_at h v) 0

-- there is room for one more reader of what a sound reads
abbrev pub CanShare : {B : Type 0} → HeapState B → Sound → Type 0
CanShare h s = option_map_or (readers_of h) (list_of s) 0 + 1 < 2 ^ 32

-- the same samples from another start on, with another stop. It is cut at the horizon
abbrev pub moved_to : ℕ → ℕ → Timing → Timing
moved_to start stop t = record { rate = t.rate; start = start; len = cut_len t.rate start t.len; stop = stop }
