-- What a resampling reads between: two neighbours in its input, of which it keeps what it has passed.
use Rattle.std.specs.Prelude.{ℕ, ◌+◌, ◌*◌, ◌/◌, ◌%◌, ◌==◌, if◌then◌else◌, ℤ}
use Rattle.ny_num.specs.Grid.{grid_of}
use Rattle.ny_num.specs.declared.rate.Rate.{Rate}
use Rattle.ny_units.specs.Courses.{on_way}

-- the value at an index of an input, of which the samples before index `next` were taken, and the last two of them kept
abbrev pub known_at : ℕ → ℤ → ℤ → (ℕ → ℤ) → ℕ → ℤ
known_at next before after value p = if p + 2 == next then before else if p + 1 == next then after else value p

-- the value at index m of rate `to`: on the line between the two neighbours at rate `from`, rounded down
abbrev pub between : Rate → Rate → (ℕ → ℤ) → ℕ → ℤ
between from to value m =
    let time = m * grid_of to in
    on_way (value (time / grid_of from)) (value (time / grid_of from + 1)) (time % grid_of from) (grid_of from)
