-- When an envelope ends, read number by number: times and levels in turn.
use Rattle.std.specs.Prelude.{Bool, true, false, List, [], ◌∷◌, ℤ}
use Rattle.std.specs.Int.{int_max}

-- the greatest of a time and of every second number that follows, from the next one on or from the one after it
abbrev pub end_after : Bool → ℤ → List ℤ → ℤ
end_after next time [] = time
end_after true time (n ∷ ns) = end_after false (int_max time n) ns
end_after false time (n ∷ ns) = end_after true time ns
