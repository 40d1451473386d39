-- What a name is kept with. No public clause cites this module.
use Rattle.std.specs.Prelude.{List, map}
use Rattle.ny_num.specs.declared.timing.Timing.{Timing}
use Rattle.ny_resolve.specs.declared.term.NameId.{NameId}
use Rattle.ny_check.specs.declared.value.Value.{Value}
use Rattle.ny_check.specs.declared.value.Value.TheVariants as value
use Rattle.ny_timing.specs.declared.names.Held.{Held}
use Rattle.ny_timing.specs.declared.names.Held.TheVariants.{Number, Sound}
use Rattle.ny_timing.specs.Timings.{Timed}

-- the number, or when the sound is heard
abbrev pub value_of_held : Held → Value Timing
value_of_held (Number v) = value.Number v
value_of_held (Sound t) = value.Sound t

abbrev pub name_of_held : NameId × Held → NameId × Value Timing
name_of_held p = (p.0, value_of_held p.1)

-- what the names stand for
abbrev pub values_of_held : List (NameId × Held) → Timed
values_of_held names = map name_of_held names
