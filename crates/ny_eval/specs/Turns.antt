-- A sequence while it is evaluated: the parts that are due at once, and those that wait.
use Rattle.std.specs.Prelude.{◌≡◌, ◌⊎◌, ℕ, ◌+◌, ◌≤◌, List, [], ◌∷◌, ◌++◌, map, length}
use Rattle.ny_num.specs.Grid.{index_at}
use Rattle.ny_num.specs.Sound.{placed_timing}
use Rattle.ny_num.specs.declared.rate.Rate.{Rate}
use Rattle.ny_num.specs.declared.timing.Timing.{Timing}
use Rattle.ny_warp.specs.declared.env.Env.{Env}
use Rattle.ny_resolve.specs.declared.builtin.Order.{Order}
use Rattle.ny_resolve.specs.declared.builtin.Order.TheVariants.{InTurn}
use Rattle.ny_check.specs.declared.node.Node.TheVariants as node
use Rattle.ny_check.specs.Code.{Code, node_at}
use Rattle.ny_heap.specs.declared.sound.Sound.{Sound}
use Rattle.ny_heap.specs.Heap.{Mix, HeapState}
use Rattle.ny_heap.specs.Steps.{last_stop_of, waiting_of, sounds_of}
use Rattle.ny_hands.specs.declared.branch.Branch.{Branch}
use Rattle.ny_hands.specs.Calls.{MakesUnit, Places, Brings}
use Rattle.ny_hands.specs.Frames.{Names}
use Rattle.ny_hands.specs.Hands.{Hand}
use Rattle.ny_trace.specs.Evaluates.{Part, NextsTurn, Evaluates, AreDue}
use Rattle.ny_eval.specs.declared.parts.Parts.{Parts}
use Rattle.ny_eval.specs.declared.parts.Parts.TheVariants.{Listed, Counted}
use Rattle.ny_eval.specs.Parts.{part_at}
use Rattle.ny_eval.specs.Waiting.{parts_between, WaitAll}

-- a sound in hand is the part that follows one with this stop: it is brought to the rate, and placed there
pub record Follows (r : Rate) (stop : ℕ) (a : Sound) (old new : HeapState Branch) (s : Sound) : Type 0 where
  pub brought : Sound
  pub mid : HeapState Branch
  pub brings : Brings old mid r a brought
  pub places : Places mid new (placed_timing (index_at stop r)) brought s

-- behind the sounds that there were, others came into hand
pub record Gains (before : List Sound) (old new : HeapState Branch) (ss : List Sound) : Type 0 where
  pub others : List Sound
  pub all : ss ≡ before ++ others
  pub hand : Hand old new others

-- the parts behind those that there were, each after the stop of the one before it
pub record AreNext (code : Code) (n : ℕ) (env : Env) (names : Names) (parts : Parts) (before : List Sound) (old new : HeapState Branch) (ss : List Sound) : Type 0 where
  pub gains : Gains before old new ss
  pub turn : NextsTurn (Evaluates code n) env (last_stop_of 0 before) (parts_between names parts (length before) (length gains.others)) old new gains.others

-- the first part, brought to the sound rate, and those behind it
pub record Starts (code : Code) (n : ℕ) (env : Env) (names : Names) (parts : Parts) (old new : HeapState Branch) (ss : List Sound) : Type 0 where
  pub part : Sound
  pub brought : Sound
  pub one : HeapState Branch
  pub two : HeapState Branch
  pub evaluates : Evaluates code n (part_at names parts 0).0.0 env (part_at names parts 0).1 old one part
  pub brings : Brings one two env.sound_rate part brought
  pub next : AreNext code n env names parts (brought ∷ []) two new ss

-- of so many parts these are all, or the next one lies behind the first block of a sequence that is heard at `t`
abbrev pub AreEnough : Timing → ℕ → ℕ → List Sound → Type 0
AreEnough t block count ss = (length ss ≡ count) ⊎ (t.start + block ≤ index_at (last_stop_of 0 ss) t.rate)

-- each of these but the first follows one whose stop has its place in the first block of a sequence that is heard at `t`
abbrev pub NextAreDue : Timing → ℕ → List Sound → Type 0
NextAreDue t block [] = Unit {0}
NextAreDue t block (s ∷ ss) = AreDue (t.start + block) t.rate s.timing.stop ss

-- one unit over the parts that are there, and over branches for those that wait
pub record RestTurn (code : Code) (env : Env) (later : List Part) (t : Timing) (ss : List Sound) (old new : HeapState Branch) (s : Sound) : Type 0 where
  pub waiting : List (Branch × List Sound)
  pub mid : HeapState Branch
  pub waits : WaitAll code env later old mid waiting
  pub made : MakesUnit mid new Mix t ss (map waiting_of waiting) (ss ++ sounds_of waiting) s

-- a node has these parts in this order
abbrev pub AreParts : Code → ℕ → Order → Parts → Type 0
AreParts code e o (Listed es) = node_at code e ≡ node.Mix o es.now
AreParts code e o (Counted i count a) = node_at code e ≡ node.Repeat o i count a

-- a node has these parts, one after another
abbrev pub AreInTurn : Code → ℕ → Parts → Type 0
AreInTurn code e = AreParts code e InTurn
