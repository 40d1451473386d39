-- Small programs whose plans are worked out, and what is read of a plan: its rows without their samples, and the lines of a
-- run in blocks of 16 samples at 8000 samples a second.
use Rattle.std.specs.Prelude.{ℕ, ◌-◌, List, [], ◌∷◌, length, map, flat_map, Option, ℤ, pos}
use Rattle.std.specs.Option.{option_map_or}
use Rattle.ny_num.specs.Grid.{hz_of}
use Rattle.ny_num.specs.declared.rate.Rate.TheVariants.{R8000}
use Rattle.ny_kernels.specs.declared.operation.Op.TheVariants as op
use Rattle.ny_resolve.specs.declared.term.NameId.{NameId}
use Rattle.ny_resolve.specs.declared.builtin.Order.TheVariants as order
use Rattle.ny_resolve.specs.declared.builtin.Relation.TheVariants as relation
use Rattle.ny_check.specs.declared.node.ExprId.{ExprId}
use Rattle.ny_check.specs.declared.node.Node.{Node}
use Rattle.ny_check.specs.declared.node.Node.TheVariants as node
use Rattle.ny_check.specs.declared.node.Generator.TheVariants as generator
use Rattle.ny_check.specs.declared.node.Transformation.TheVariants as by
use Rattle.ny_check.specs.declared.node.Change.TheVariants as change
use Rattle.ny_check.specs.Code.{Code}
use Rattle.ny_heap.specs.Kinds.{UnitKind}
use Rattle.ny_plan.specs.Rows.{RowSound, Input, Row}
use Rattle.ny_plan.specs.Plan.{plan}
use Rattle.ny_plan.specs.Lines.{Line, Pull, Peak, PoolFull, lines}

-- ---- what is read of a row

-- where a captured sound is: its row, its start, how many samples it shows; nothing of a sound without a sample
abbrev pub captured_seen : RowSound → List (ℕ × ℕ × ℕ)
captured_seen s = option_map_or (λ row. (row, s.timing.start, s.timing.len) ∷ []) s.row []

-- an input: its row, its start, how many samples it shows, its offset, what it has captured
abbrev pub InputSeen : Type 0
InputSeen = Option ℕ × ℕ × ℕ × ℕ × List (ℕ × ℕ × ℕ)

abbrev pub input_seen : Input → InputSeen
input_seen i = (i.sound.row, i.sound.timing.start, i.sound.timing.len, i.offset, flat_map captured_seen i.captured)

-- a row: its kind, samples a second, start, length, stop in ticks, and inputs
abbrev pub RowSeen : Type 0
RowSeen = UnitKind × ℕ × ℕ × ℕ × ℕ × List InputSeen

abbrev pub row_seen : Row → RowSeen
row_seen x = (x.kind, hz_of x.timing.rate, x.timing.start, x.timing.len, x.timing.stop, map input_seen x.inputs)

abbrev pub rows_seen : Code → List RowSeen
rows_seen code = map row_seen (plan code R8000).rows

-- ---- what is read of a run

-- the lines with the count of each kind
abbrev pub lines_by_kind : Code → ℕ → List ℕ → List Line
lines_by_kind code size turns = lines 16 (plan code R8000) size turns

-- a pull by its number, its channel, how many blocks are live after it and how many were filled so far
abbrev pub pull : ℕ → ℕ → ℕ → ℕ → Line
pull n channel live filled = Pull n channel live filled []

abbrev pub without_kinds : Line → Line
without_kinds (Pull n channel live filled kinds) = pull n channel live filled
without_kinds (Peak n) = Peak n
without_kinds (PoolFull k) = PoolFull k

-- the lines of a run with a pool of so many blocks, in this order of turns
abbrev pub lines_of : Code → ℕ → List ℕ → List Line
lines_of code size turns = map without_kinds (lines_by_kind code size turns)

-- a pool that is not filled here
abbrev pub ample : ℕ
ample = 16384

-- ---- nodes, by the places of what they are made of

abbrev pub at_place : ℕ → ExprId
at_place n = record { 0 = n }

-- the one name of a program
abbrev pub name : NameId
name = record { 0 = 7 }

abbrev pub number : ℤ → Node
number v = node.Number v

abbrev pub named : Node
named = node.Local name

abbrev pub constant : ℕ → ℕ → Node
constant v d = node.Leaf generator.Const (at_place v ∷ at_place d ∷ [])

abbrev pub oscillator : ℕ → ℕ → Node
oscillator key d = node.Leaf generator.Osc (at_place key ∷ at_place d ∷ [])

abbrev pub envelope : List ℕ → Node
envelope es = node.Leaf generator.Pwl (map at_place es)

abbrev pub product : ℕ → ℕ → Node
product a b = node.Pair op.Mul (at_place a) (at_place b)

abbrev pub cue : ℕ → Node
cue a = node.Cue (at_place a)

abbrev pub later : ℕ → ℕ → Node
later t a = node.Change (change.By by.At (at_place t)) (at_place a)

abbrev pub sustained : ℕ → ℕ → Node
sustained k a = node.Change (change.By by.Sustain (at_place k)) (at_place a)

abbrev pub together : List ℕ → Node
together es = node.Mix order.Together (map at_place es)

abbrev pub in_turn : List ℕ → Node
in_turn es = node.Mix order.InTurn (map at_place es)

abbrev pub where_name_is : ℕ → ℕ → Node
where_name_is x a = node.Block ((name, at_place x) ∷ []) (at_place a)

abbrev pub less : ℕ → ℕ → Node
less a b = node.Compare relation.Lt (at_place a) (at_place b)

abbrev pub chosen : ℕ → ℕ → ℕ → Node
chosen test a b = node.If (at_place test) (at_place a) (at_place b)

abbrev pub in_channels : List ℕ → Node
in_channels es = node.Vector (map at_place es)

-- ---- programs

-- the program that plays its last node
abbrev pub playing : List Node → Code
playing nodes = record { nodes = nodes; functions = []; play = at_place (length nodes - 1); channels = 1; free = [] }

-- `seq(sustain(2, const(0.1, 0.002)), const(0.2, 0.002))`
abbrev pub overlapping : Code
overlapping =
    playing
    (number (pos 100000) ∷ number (pos 2000) ∷ constant 0 1 ∷ number (pos 2000000) ∷ sustained 3 2 ∷ number (pos 200000) ∷ constant 5 1 ∷ in_turn (4 ∷ 6 ∷ []) ∷ [])

-- `begin with x = osc(69, 0.02) return sim(cue(x), cue(x) @ 0.008) end`
abbrev pub echo : Code
echo =
    playing
    (number (pos 69000000) ∷ number (pos 20000) ∷ oscillator 0 1 ∷ named ∷ cue 3 ∷ number (pos 8000) ∷ later 5 4 ∷ together (4 ∷ 6 ∷ []) ∷ where_name_is 2 7 ∷ [])

-- `begin with x = osc(69, 0.02) return seq(cue(x), cue(x)) end`
abbrev pub twice : Code
twice =
    record (playing
    (number (pos 69000000) ∷ number (pos 20000) ∷ oscillator 0 1 ∷ named ∷ cue 3 ∷ named ∷ cue 5 ∷ in_turn (4 ∷ 6 ∷ []) ∷ where_name_is 2 7 ∷ [])) {
      free = [] ∷ [] ∷ [] ∷ [] ∷ (name ∷ []) ∷ [] ∷ (name ∷ []) ∷ [] ∷ [] ∷ [];
    }

-- `seq(osc(69, 0.02), osc(69, 0.02))`
abbrev pub unshared : Code
unshared =
    playing
    (number (pos 69000000) ∷ number (pos 20000) ∷ oscillator 0 1 ∷ oscillator 0 1 ∷ in_turn (2 ∷ 3 ∷ []) ∷ [])

-- `begin with x = osc(69, 0.02) return sim(cue(x), seq(osc(69, 0.02), #if(1 < 2, osc(69, 0.02), cue(x)))) end`
abbrev pub untaken : Code
untaken =
    record (playing
    (number (pos 69000000) ∷ number (pos 20000) ∷ oscillator 0 1 ∷ named ∷ cue 3 ∷ oscillator 0 1 ∷
    number (pos 1000000) ∷ number (pos 2000000) ∷ less 6 7 ∷ chosen 8 5 4 ∷ in_turn (5 ∷ 9 ∷ []) ∷ together (4 ∷ 10 ∷ []) ∷ where_name_is 2 11 ∷ [])) {
      free = [] ∷ [] ∷ [] ∷ [] ∷ [] ∷ [] ∷ [] ∷ [] ∷ [] ∷ (name ∷ []) ∷ [] ∷ [] ∷ [] ∷ [];
    }

-- `begin with x = osc(69, 0.004) return vector(cue(x), cue(x)) end`
abbrev pub both : Code
both =
    record (playing
    (number (pos 69000000) ∷ number (pos 4000) ∷ oscillator 0 1 ∷ named ∷ cue 3 ∷ in_channels (4 ∷ 4 ∷ []) ∷ where_name_is 2 5 ∷ [])) { channels = 2 }

-- `const(0.5, 0.00125) * osc(69, 1)`
abbrev pub cut_short : Code
cut_short =
    playing
    (number (pos 500000) ∷ number (pos 1250) ∷ constant 0 1 ∷ number (pos 69000000) ∷ number (pos 1000000) ∷ oscillator 3 4 ∷ product 2 5 ∷ [])

-- `begin with p = const(0.5, 0.00125) * osc(69, 1) return sim(cue(p), cue(p) @ 0.008) end`
abbrev pub kept_product : Code
kept_product =
    playing
    (number (pos 500000) ∷ number (pos 1250) ∷ constant 0 1 ∷ number (pos 69000000) ∷ number (pos 1000000) ∷ oscillator 3 4 ∷ product 2 5 ∷
    named ∷ cue 7 ∷ number (pos 8000) ∷ later 9 8 ∷ together (8 ∷ 10 ∷ []) ∷ where_name_is 6 11 ∷ [])
