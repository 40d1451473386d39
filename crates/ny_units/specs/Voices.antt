-- What a unit keeps of its leaf.
use Rattle.std.specs.Prelude.{◌≡◌, ℕ, ◌<◌}
use Rattle.ny_num.specs.Leaves.{noise_state}
use Rattle.ny_units.specs.declared.leaves.Leaf.{Leaf}
use Rattle.ny_units.specs.declared.leaves.Leaf.TheVariants.{Const, Ramp, Osc, HzOsc, Lfo, Noise, Pwl}
use Rattle.ny_units.specs.declared.voice.Voice.{Voice}
use Rattle.ny_units.specs.declared.voice.Voice.TheVariants.{Constant, Ramp as RampVoice, Middle, High, Low, Noise as NoiseVoice, Envelope}
use Rattle.ny_units.specs.Envelopes.{corners, StandsAt}

-- the leaf of a voice
abbrev pub leaf_of : Voice → Leaf
leaf_of (Constant value) = Const value
leaf_of (RampVoice len) = Ramp len
leaf_of (Middle inc loud) = Osc inc loud
leaf_of (High inc loud) = HzOsc inc loud
leaf_of (Low inc) = Lfo inc
leaf_of (NoiseVoice x state loud) = Noise x loud
leaf_of (Envelope knots segment) = Pwl knots

-- a voice stands where its leaf does after so many samples
abbrev pub IsVoice : Voice → ℕ → Type 0
IsVoice (Constant value) given = Unit {0}
IsVoice (RampVoice len) given = 0 < len
IsVoice (Middle inc loud) given = Unit {0}
IsVoice (High inc loud) given = Unit {0}
IsVoice (Low inc) given = Unit {0}
IsVoice (NoiseVoice x state loud) given = state ≡ noise_state x given
IsVoice (Envelope knots segment) given = StandsAt (corners knots.items) segment given
