-- The kinds of units, in the order in which they are counted, and how many blocks each kind has taken. No unit is of the kind `Data` yet.
use Rattle.std.specs.Prelude.{ℕ, suc, ◌+◌, ◌==◌, if◌then◌else◌, Bool, false, List, [], ◌∷◌, map, Option}
use Rattle.std.specs.List.{range_with_len}
use Rattle.std.specs.Option.{option_map_or}
use Rattle.ny_kernels.specs.declared.operation.Op.{Op}
use Rattle.ny_kernels.specs.declared.operation.Op.TheVariants as op
use Rattle.ny_units.specs.declared.leaves.Leaf.{Leaf}
use Rattle.ny_units.specs.declared.leaves.LeafKind.{LeafKind}
use Rattle.ny_units.specs.declared.leaves.LeafKind.TheVariants as leaf
use Rattle.ny_units.specs.LeafKinds.{leaf_kind}
use Rattle.ny_heap.specs.declared.make.Make.{Make}
use Rattle.ny_heap.specs.declared.make.Make.TheVariants as make
use Rattle.ny_heap.specs.Heap as heap
use Rattle.ny_heap.specs.Heap.{Node, HeapState, kept_of}

-- ---- kinds

pub data UnitKind : Type 0 where
  Const : UnitKind
  Ramp : UnitKind
  Osc : UnitKind
  HzOsc : UnitKind
  Lfo : UnitKind
  Noise : UnitKind
  Pwl : UnitKind
  Data : UnitKind
  Abs : UnitKind
  Add : UnitKind
  Sub : UnitKind
  Mul : UnitKind
  Max : UnitKind
  Min : UnitKind
  Resample : UnitKind
  Filter : UnitKind
  Mix : UnitKind
  Channel : UnitKind

-- its place among them
abbrev pub place_of_kind : UnitKind → ℕ
place_of_kind Const = 0
place_of_kind Ramp = 1
place_of_kind Osc = 2
place_of_kind HzOsc = 3
place_of_kind Lfo = 4
place_of_kind Noise = 5
place_of_kind Pwl = 6
place_of_kind Data = 7
place_of_kind Abs = 8
place_of_kind Add = 9
place_of_kind Sub = 10
place_of_kind Mul = 11
place_of_kind Max = 12
place_of_kind Min = 13
place_of_kind Resample = 14
place_of_kind Filter = 15
place_of_kind Mix = 16
place_of_kind Channel = 17

-- the kind of an operation
abbrev pub kind_of_op : Op → UnitKind
kind_of_op op.Add = Add
kind_of_op op.Sub = Sub
kind_of_op op.Mul = Mul
kind_of_op op.Max = Max
kind_of_op op.Min = Min

-- the kind of a leaf
abbrev pub kind_of_voice : LeafKind → UnitKind
kind_of_voice leaf.Const = Const
kind_of_voice leaf.Ramp = Ramp
kind_of_voice leaf.Osc = Osc
kind_of_voice leaf.HzOsc = HzOsc
kind_of_voice leaf.Lfo = Lfo
kind_of_voice leaf.Noise = Noise
kind_of_voice leaf.Pwl = Pwl

abbrev pub kind_of_leaf : Leaf → UnitKind
kind_of_leaf l = kind_of_voice (leaf_kind l)

-- the kind of what is made
abbrev pub kind_of_make : Make → UnitKind
kind_of_make (make.Leaf l) = kind_of_leaf l
kind_of_make (make.Pair op a b) = kind_of_op op
kind_of_make make.Abs = Abs
kind_of_make make.Resample = Resample
kind_of_make (make.Filter f) = Filter

-- the kind of a heap's unit
abbrev pub unit_kind : heap.Kind → UnitKind
unit_kind (heap.Made make) = kind_of_make make
unit_kind heap.Mix = Mix
unit_kind heap.Channel = Channel

-- ---- blocks

-- how many blocks are kept of the lists of these units, of those of some kinds; the first is unit v
abbrev pub kept_of_kinds : {B : Type 0} → (UnitKind → Bool) → HeapState B → ℕ → List (Option (Node B)) → ℕ
kept_of_kinds counts h v [] = 0
kept_of_kinds counts h v (o ∷ os) =
    (if option_map_or (λ x. counts (unit_kind x.kind)) o false then kept_of h v o else 0) + kept_of_kinds counts h (suc v) os

-- how many blocks are taken of the lists of the units of the kind with this place
abbrev pub live_of_kind : {B : Type 0} → HeapState B → ℕ → ℕ
live_of_kind h place = kept_of_kinds (λ kind. place_of_kind kind == place) h 0 h.nodes

-- how many blocks are taken, by the kind of the unit whose list holds them
abbrev pub live_by_kind : {B : Type 0} → HeapState B → List ℕ
live_by_kind h = map (live_of_kind h) (range_with_len 0 18)
