-- The last breakpoint of an envelope stands at the greatest of its times.
use Rattle.std.proofs.Common.{◌≡◌, Bool, true, false, List, [], ◌∷◌, refl, ℤ, pos}
use Rattle.std.specs.Int.{int_max}
use Rattle.ny_check.specs.Behaviours.{breakpoints_after, last_time, envelope_end}
use Rattle.ny_timing.specs.Envelopes.{end_after}

ends : (time : ℤ) (numbers : List ℤ) → end_after true time numbers ≡ last_time time (breakpoints_after time numbers)
ends time [] = refl
ends time (t ∷ []) = refl
ends time (t ∷ level ∷ more) = ends (int_max time t) more

pub end_of_envelope : (numbers : List ℤ) → end_after true (pos 0) numbers ≡ envelope_end numbers
end_of_envelope numbers = ends (pos 0) numbers

pub nothing_after : (next : Bool) (time : ℤ) → end_after next time [] ≡ time
nothing_after true time = refl
nothing_after false time = refl

pub ruleset by_numbers = (end_of_envelope, nothing_after)
