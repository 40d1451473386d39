-- Tables of the small programs that are worked, and what they give.
use Rattle.std.specs.Prelude.{ℕ, ◌-◌, List, [], ◌∷◌, length, map, ℤ}
use Rattle.ny_num.specs.declared.rate.Rate.TheVariants.{R8000}
use Rattle.ny_warp.specs.declared.map.Point.{Point}
use Rattle.ny_resolve.specs.declared.term.NameId.{NameId}
use Rattle.ny_resolve.specs.declared.builtin.Relation.TheVariants.{Lt}
use Rattle.ny_resolve.specs.declared.builtin.Order.TheVariants as order
use Rattle.ny_kernels.specs.declared.operation.Op.TheVariants as op
use Rattle.ny_check.specs.declared.node.ExprId.{ExprId}
use Rattle.ny_check.specs.declared.node.Node.{Node}
use Rattle.ny_check.specs.declared.node.Node.TheVariants as node
use Rattle.ny_check.specs.declared.node.Generator.TheVariants as generator
use Rattle.ny_check.specs.declared.node.Effect.TheVariants as effect
use Rattle.ny_check.specs.declared.node.Transformation.TheVariants as transformation
use Rattle.ny_check.specs.declared.node.Change.TheVariants as change
use Rattle.ny_check.specs.Code.{Code}
use Rattle.ny_check.specs.Channels.{channels, frames}

-- ---- nodes, by the places of what they are made of

abbrev pub at_place : ℕ → ExprId
at_place n = record { 0 = n }

-- the one name of a program
abbrev pub name : NameId
name = record { 0 = 7 }

abbrev pub number : ℤ → Node
number v = node.Number v

abbrev pub named : Node
named = node.Local name

abbrev pub constant : ℕ → ℕ → Node
constant v d = node.Leaf generator.Const (at_place v ∷ at_place d ∷ [])

abbrev pub oscillator : ℕ → ℕ → Node
oscillator key d = node.Leaf generator.Osc (at_place key ∷ at_place d ∷ [])

abbrev pub hz_oscillator : ℕ → ℕ → Node
hz_oscillator hz d = node.Leaf generator.HzOsc (at_place hz ∷ at_place d ∷ [])

abbrev pub low_oscillator : ℕ → ℕ → Node
low_oscillator hz d = node.Leaf generator.Lfo (at_place hz ∷ at_place d ∷ [])

abbrev pub noise : ℕ → ℕ → Node
noise v d = node.Leaf generator.Noise (at_place v ∷ at_place d ∷ [])

abbrev pub envelope : List ℕ → Node
envelope es = node.Leaf generator.Pwl (map at_place es)

abbrev pub sum : ℕ → ℕ → Node
sum a b = node.Pair op.Add (at_place a) (at_place b)

abbrev pub product : ℕ → ℕ → Node
product a b = node.Pair op.Mul (at_place a) (at_place b)

abbrev pub negated : ℕ → Node
negated a = node.Neg (at_place a)

abbrev pub later : ℕ → ℕ → Node
later t a = node.Change (change.By transformation.At (at_place t)) (at_place a)

abbrev pub louder : ℕ → ℕ → Node
louder k a = node.Change (change.By transformation.Loud (at_place k)) (at_place a)

abbrev pub sustained : ℕ → ℕ → Node
sustained k a = node.Change (change.By transformation.Sustain (at_place k)) (at_place a)

abbrev pub transposed : ℕ → ℕ → Node
transposed k a = node.Change (change.By transformation.Transpose (at_place k)) (at_place a)

abbrev pub warped : List Point → ℕ → Node
warped points a = node.Change (change.Warp points) (at_place a)

abbrev pub cue : ℕ → Node
cue a = node.Cue (at_place a)

abbrev pub one_pole : ℕ → ℕ → Node
one_pole a k = node.Effect effect.OnePole (at_place a) (at_place k ∷ [])

abbrev pub comb : ℕ → ℕ → ℕ → Node
comb a delay gain = node.Effect effect.Comb (at_place a) (at_place delay ∷ at_place gain ∷ [])

abbrev pub biquad : ℕ → List ℕ → Node
biquad a numbers = node.Effect effect.Biquad (at_place a) (map at_place numbers)

abbrev pub together : List ℕ → Node
together es = node.Mix order.Together (map at_place es)

abbrev pub in_turn : List ℕ → Node
in_turn es = node.Mix order.InTurn (map at_place es)

abbrev pub repeated_together : ℕ → ℕ → Node
repeated_together count a = node.Repeat order.Together name count (at_place a)

abbrev pub repeated_in_turn : ℕ → ℕ → Node
repeated_in_turn count a = node.Repeat order.InTurn name count (at_place a)

abbrev pub where_name_is : ℕ → ℕ → Node
where_name_is x a = node.Block ((name, at_place x) ∷ []) (at_place a)

abbrev pub called : ℕ → Node
called a = node.Call (record { 0 = 0 }) (at_place a ∷ [])

abbrev pub less : ℕ → ℕ → Node
less a b = node.Compare Lt (at_place a) (at_place b)

abbrev pub chosen : ℕ → ℕ → ℕ → Node
chosen test a b = node.If (at_place test) (at_place a) (at_place b)

abbrev pub in_channels : List ℕ → Node
in_channels es = node.Vector (map at_place es)

-- ---- programs

-- the program that plays its last node
abbrev pub playing : List Node → Code
playing nodes = record { nodes = nodes; functions = []; play = at_place (length nodes - 1); channels = 1; free = [] }

-- the same with one function of the name, whose body is the node at a place
abbrev pub playing_with : ℕ → List Node → Code
playing_with body nodes =
    record (playing nodes) { functions = record { params = name ∷ []; body = at_place body } ∷ [] }

-- its frames at 8000 samples a second
abbrev pub frames_of : Code → List (List ℤ)
frames_of code = frames (channels code R8000)

-- frames of one channel
abbrev pub mono : List ℤ → List (List ℤ)
mono samples = map (λ x. x ∷ []) samples
