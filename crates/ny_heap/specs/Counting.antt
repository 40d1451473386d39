-- How the kept blocks of each kind are counted, unit by unit. No public clause cites this module.
use Rattle.std.specs.Prelude.{ℕ, zero, suc, ◌+◌, ◌==◌, if◌then◌else◌, List, map}
use Rattle.std.specs.List.{range_with_len}
use Rattle.std.specs.Option.{option_map_or}
use Rattle.ny_list.specs.Store.{StoreState, list_at, kept_of}
use Rattle.ny_heap.specs.declared.table.Table.{Table}
use Rattle.ny_heap.specs.Work.{kind_of}
use Rattle.ny_heap.specs.Kinds.{place_of_kind, unit_kind}
use Rattle.ny_heap.specs.Table.{unit_at}

-- the sum of f at the numbers below n
abbrev pub sum_below : (ℕ → ℕ) → ℕ → ℕ
sum_below f zero = 0
sum_below f (suc n) = sum_below f n + f n

-- how many blocks list v keeps
abbrev pub kept_in_list : StoreState → ℕ → ℕ
kept_in_list s v = option_map_or kept_of (list_at s v) 0

-- and how many where its unit is of the kind with this place
abbrev pub kept_as : Table → ℕ → ℕ → ℕ
kept_as t place v = option_map_or (λ x. if place_of_kind (unit_kind (kind_of x.work)) == place then kept_in_list t.store v else 0) (unit_at t v) 0

-- how many blocks the lists of the first n units keep, by the places of their kinds
abbrev pub kept_below : Table → ℕ → List ℕ
kept_below t n = map (λ place. sum_below (kept_as t place) n) (range_with_len 0 18)
