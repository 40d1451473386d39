-- The parts of a mix, each given as the sound that it is from an environment.
use Rattle.std.specs.Prelude.{ℕ, List, [], ◌∷◌, map}
use Rattle.ny_num.specs.Grid.{index_at}
use Rattle.ny_num.specs.Sound.{Sound, placed}
use Rattle.ny_num.specs.Resampling.{resampled}
use Rattle.ny_warp.specs.declared.env.Env.{Env}
use Rattle.ny_warp.specs.Environment.{from_stop}
use Rattle.ny_resolve.specs.declared.builtin.Order.{Order}
use Rattle.ny_resolve.specs.declared.builtin.Order.TheVariants as order

-- a part in the environment, brought to the sound rate
abbrev pub brought : Env → (Env → Sound) → Sound
brought env part = resampled env.sound_rate (part env)

-- `sim`, `simrep`: all parts in the same environment
abbrev pub parts_together : Env → List (Env → Sound) → List Sound
parts_together env parts = map (brought env) parts

-- the part that follows one with this stop: from that stop on, brought to the sound rate, and placed at the index of that
-- stop
abbrev pub next_part : Env → ℕ → (Env → Sound) → Sound
next_part env stop part = placed (index_at stop env.sound_rate) (resampled env.sound_rate (part (from_stop env stop)))

-- the parts that follow one with this stop, each after the stop of the one before
abbrev pub parts_after : Env → ℕ → List (Env → Sound) → List Sound
parts_after env stop [] = []
parts_after env stop (part ∷ parts) =
    let sound = next_part env stop part in sound ∷ parts_after env sound.stop parts

-- `seq`, `seqrep`: the first part in the environment, and the others after it. The first is brought to the sound rate, and
-- is not moved
abbrev pub parts_in_turn : Env → List (Env → Sound) → List Sound
parts_in_turn env [] = []
parts_in_turn env (part ∷ parts) =
    let sound = brought env part in sound ∷ parts_after env sound.stop parts

-- all parts together, or one after the other
abbrev pub parts_in : Order → Env → List (Env → Sound) → List Sound
parts_in order.Together env parts = parts_together env parts
parts_in order.InTurn env parts = parts_in_turn env parts
