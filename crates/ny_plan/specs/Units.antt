-- The units that are made of sounds: their rows.
use Rattle.std.specs.Prelude.{ℕ, ◌-◌, if◌then◌else◌, List, [], ◌∷◌, map, slice_index_or, Option, None, Some, ℤ, pos}
use Rattle.ny_num.specs.Numbers.{sat_sample, sample_sub}
use Rattle.ny_num.specs.Grid.{index_at}
use Rattle.ny_num.specs.declared.rate.Rate.{Rate}
use Rattle.ny_num.specs.declared.rate.Rate.TheVariants.{R2205}
use Rattle.ny_num.specs.declared.timing.Timing.{Timing}
use Rattle.ny_num.specs.Sound as sounds
use Rattle.ny_num.specs.Sound.{silence, placed_timing}
use Rattle.ny_num.specs.Leaves.{louder_value}
use Rattle.ny_num.specs.Pointwise.{combined, each_value}
use Rattle.ny_num.specs.Resampling.{is_same_rate, other_rate_timing, resampled}
use Rattle.ny_num.specs.Mix.{mix_timing, mix, channel_timing, channel}
use Rattle.ny_kernels.specs.declared.operation.Op.{Op}
use Rattle.ny_kernels.specs.Operations.{operation}
use Rattle.ny_warp.specs.declared.env.Env.{Env}
use Rattle.ny_warp.specs.Environment.{from_stop}
use Rattle.ny_resolve.specs.declared.builtin.Order.{Order}
use Rattle.ny_resolve.specs.declared.builtin.Order.TheVariants as order
use Rattle.ny_check.specs.declared.value.Value.{Value}
use Rattle.ny_check.specs.declared.value.Value.TheVariants.{Number, Sound}
use Rattle.ny_check.specs.Behaviours.{is_one, cue_timing}
use Rattle.ny_check.specs.Families.{pair_timing, leaf_time, leaf_sound}
use Rattle.ny_check.specs.declared.node.Generator.{Generator}
use Rattle.ny_heap.specs.Kinds.{UnitKind, Sub, Mul, Resample, Mix, Channel, kind_of_op}
use Rattle.ny_hands.specs.Kinds.{kind_of_generator}
use Rattle.ny_plan.specs.Rows.{RowSound, Input, Step, given, and_then, each, shown, silent, input, unit}

-- the first and the second of the sounds that a unit is made of
abbrev pub first : List sounds.Sound → sounds.Sound
first ss = slice_index_or ss 0 (silence R2205)

abbrev pub second : List sounds.Sound → sounds.Sound
second ss = slice_index_or ss 1 (silence R2205)

-- a unit that is made of no sound
abbrev pub leaf_row : UnitKind → Timing → sounds.Sound → Step RowSound
leaf_row kind t s = unit kind t [] (λ ss. s.samples)

-- A leaf of these numbers. A rest has no sample, and is no unit.
abbrev pub leaf_by : Option UnitKind → Timing → sounds.Sound → Step RowSound
leaf_by None t s = given (shown None t)
leaf_by (Some kind) t s = leaf_row kind t s

abbrev pub leaf_made : Generator → Env → List ℤ → Step RowSound
leaf_made w env numbers = leaf_by (kind_of_generator w) (leaf_time w env numbers) (leaf_sound w env numbers)

-- a unit over one sound, heard when that is
abbrev pub row_over : UnitKind → (sounds.Sound → sounds.Sound) → RowSound → Step RowSound
row_over kind f s = unit kind s.timing (input s ∷ []) (λ ss. (f (first ss)).samples)

-- a sound, brought to a rate; it stays the row that it is where it has that rate
abbrev pub brought : Rate → RowSound → Step RowSound
brought rate s =
    if is_same_rate s.timing.rate rate then given s
    else unit Resample (other_rate_timing rate s.timing) (input s ∷ []) (λ ss. (resampled rate (first ss)).samples)

-- two values by an operation, each sound first brought to the rate
abbrev pub paired : Op → Rate → Value RowSound → Value RowSound → Step RowSound
paired op rate (Number j) (Number k) = given (silent rate)
paired op rate (Number k) (Sound b) =
    and_then (brought rate b) (λ b. row_over (kind_of_op op) (each_value (operation op (sat_sample k))) b)
paired op rate (Sound a) (Number k) =
    and_then (brought rate a) (λ a. row_over (kind_of_op op) (each_value (λ x. operation op x (sat_sample k))) a)
paired op rate (Sound a) (Sound b) =
    and_then (brought rate a) (λ a. and_then (brought rate b) (λ b.
    unit (kind_of_op op) (pair_timing op a.timing b.timing) (input a ∷ input b ∷ [])
    (λ ss. (combined (pair_timing op) (operation op) (first ss) (second ss)).samples)))

-- a sound with the other sign, which is 0 minus it
abbrev pub negated : Rate → Value RowSound → Step RowSound
negated rate (Number k) = given (silent rate)
negated rate (Sound s) = and_then (brought rate s) (λ s. row_over Sub (each_value (sample_sub (pos 0))) s)

-- a cue is the same row, heard later; where the loudness is not 1, a product of that
abbrev pub cued : Env → RowSound → Step RowSound
cued env s =
    let later = shown s.row (cue_timing env s.timing) in
    if is_one env.loud then given later else row_over Mul (each_value (louder_value env.loud)) later

-- ---- mixes

-- a part of a mix: the sound that it is from an environment, and what the names in it stand for
pub record Part : Type 0 where
  pub sound : Env → Step RowSound
  pub captured : List RowSound

-- `sim`, `simrep`: all parts in the same environment, and then each is brought to the sound rate
abbrev pub parts_together : Env → List Part → Step (List Input)
parts_together env parts =
    and_then (each (λ (part : Part). part.sound env) parts) (λ ss.
    and_then (each (brought env.sound_rate) ss) (λ ss. given (map input ss)))

-- a part that comes at an index
abbrev pub coming : ℕ → Part → RowSound → Input
coming at part s = record { sound = s; offset = at; captured = part.captured }

-- the part that follows one with this stop: from that stop on, brought to the sound rate, and placed at the index of that
-- stop. It stays the row that it is
abbrev pub next_part : Env → ℕ → Part → Step RowSound
next_part env stop part =
    and_then (part.sound (from_stop env stop)) (λ s.
    and_then (brought env.sound_rate s) (λ s. given (shown s.row (placed_timing (index_at stop env.sound_rate) s.timing))))

-- the parts that follow one with this stop, each after the stop of the one before
abbrev pub parts_after : Env → ℕ → List Part → Step (List Input)
parts_after env stop [] = given []
parts_after env stop (part ∷ parts) =
    and_then (next_part env stop part) (λ s.
    and_then (parts_after env s.timing.stop parts) (λ is. given (coming (index_at stop env.sound_rate) part s ∷ is)))

-- `seq`, `seqrep`: the first part in the environment, from the beginning, and the others after it
abbrev pub parts_in_turn : Env → List Part → Step (List Input)
parts_in_turn env [] = given []
parts_in_turn env (part ∷ parts) =
    and_then (part.sound env) (λ s.
    and_then (brought env.sound_rate s) (λ s.
    and_then (parts_after env s.timing.stop parts) (λ is. given (coming 0 part s ∷ is))))

-- the parts of a mix, together or one after the other
abbrev pub parts_in : Order → Env → List Part → Step (List Input)
parts_in order.Together env parts = parts_together env parts
parts_in order.InTurn env parts = parts_in_turn env parts

-- an index where a part comes, counted from a start
abbrev pub counted_from : ℕ → Input → Input
counted_from start i = record i { offset = i.offset - start }

-- the mix of parts that have its rate
abbrev pub mixed : Rate → List Input → Step RowSound
mixed rate parts =
    let t = mix_timing rate (map (λ (i : Input). i.sound.timing) parts) in
    unit Mix t (map (counted_from t.start) parts) (λ ss. (mix rate ss).samples)

-- ---- channels

-- a sound of the rate, as a channel
abbrev pub channel_row : RowSound → Step RowSound
channel_row s = unit Channel (channel_timing s.timing) (input s ∷ []) (λ ss. (channel (first ss)).samples)
