-- The kinds of the units that words make (`ny_heap/specs/Kinds.antt` names the kinds).
use Rattle.std.specs.Prelude.{◌≡◌, Option, None, Some}
use Rattle.ny_check.specs.declared.node.Generator.{Generator}
use Rattle.ny_check.specs.declared.node.Generator.TheVariants as generator
use Rattle.ny_check.specs.declared.node.Effect.{Effect}
use Rattle.ny_check.specs.declared.node.Effect.TheVariants as effect
use Rattle.ny_heap.specs.Kinds.{UnitKind, Const, Ramp, Osc, HzOsc, Lfo, Noise, Pwl, Abs, Filter}

-- the kind of a leaf; a rest is no unit
abbrev pub kind_of_generator : Generator → Option UnitKind
kind_of_generator generator.Const = Some Const
kind_of_generator generator.Osc = Some Osc
kind_of_generator generator.HzOsc = Some HzOsc
kind_of_generator generator.Lfo = Some Lfo
kind_of_generator generator.Noise = Some Noise
kind_of_generator generator.Rest = None
kind_of_generator generator.Ramp = Some Ramp
kind_of_generator generator.Pwl = Some Pwl

-- the kind of an effect
abbrev pub kind_of_effect : Effect → UnitKind
kind_of_effect effect.Abs = Abs
kind_of_effect effect.OnePole = Filter
kind_of_effect effect.Biquad = Filter
kind_of_effect effect.Comb = Filter

-- this kind, where there is to be a unit
abbrev pub IsOfKind : Option UnitKind → UnitKind → Type 0
IsOfKind None k = Unit {0}
IsOfKind (Some j) k = k ≡ j
