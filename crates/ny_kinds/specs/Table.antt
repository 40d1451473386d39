-- The table of what is known of functions, as the code keeps it.
use Rattle.std.specs.Prelude.{◌≡◌, ℕ, ◌+◌, ◌<◌, true, List, [], ◌∷◌, Option, is_some, length, All}
use Rattle.ny_resolve.specs.declared.term.Declared.{Declared}
use Rattle.ny_kinds.specs.declared.kind.Entry.{Entry}
use Rattle.ny_kinds.specs.declared.kind.Stop.{Stop}
use Rattle.ny_kinds.specs.declared.kind.Use.{Use}
use Rattle.ny_kinds.specs.declared.kind.Stop.TheVariants as stop
use Rattle.ny_kinds.specs.Kinds.{behavior_at}

-- an entry of the table says what the body is
pub record IsRight (ds : List Declared) (e : Entry) : Type 0 where
  pub within : e.number < length ds
  pub found : e.found ≡ behavior_at ds e.number e.kinds

abbrev pub AreBefore : ℕ → List Use → Type 0
AreBefore here us = All (λ (u : Use). u.number < here) us

-- what is missing is a function that comes before, as do those that called for it, and too many expressions were judged only where there is a bound
abbrev pub IsReason : Option ℕ → ℕ → Stop → Type 0
IsReason most here (stop.Missing u callers) = (u.number < here) × AreBefore here callers
IsReason most here stop.TooManyNodes = is_some most ≡ true
IsReason most here stop.OutOfMemory = Unit {0}

-- 1 more than the number of the last of what is still to be judged
abbrev pub top_of : List Use → ℕ
top_of [] = 0
top_of (u ∷ []) = u.number + 1
top_of (u ∷ (v ∷ us)) = top_of (v ∷ us)
