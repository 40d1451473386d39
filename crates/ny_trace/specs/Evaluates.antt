-- Evaluation as one trace of calls of a heap. What it means, what it leaves alone and how high its units stand follow from it.
use Rattle.std.specs.Prelude.{◌≡◌, ◌⊎◌, ◌+◌, ◌*◌, ◌<◌, ◌≤◌, ℕ, zero, suc, Bool, true, false, List, [], ◌∷◌, ◌++◌, map, zip, get_or, if◌then◌else◌, Option, None, Some, ℤ, pos, length, take}
use Rattle.std.specs.List.{range_with_len}
use Rattle.ny_num.specs.Numbers.{sat_sample}
use Rattle.ny_num.specs.Grid.{index_at}
use Rattle.ny_num.specs.declared.rate.Rate.{Rate}
use Rattle.ny_num.specs.declared.timing.Timing.{Timing}
use Rattle.ny_num.specs.Leaves.{leaf}
use Rattle.ny_num.specs.Sound as sounds
use Rattle.ny_num.specs.Sound.{timing_of, placed_timing}
use Rattle.ny_num.specs.Mix.{mix_timing}
use Rattle.ny_kernels.specs.declared.operation.Op.{Op}
use Rattle.ny_kernels.specs.declared.operation.Op.TheVariants.{Sub, Mul}
use Rattle.ny_units.specs.Playing.{leaf_value}
use Rattle.ny_units.specs.declared.leaves.Leaf.{Leaf}
use Rattle.ny_warp.specs.declared.env.Env.{Env}
use Rattle.ny_warp.specs.Environment.{from_stop}
use Rattle.ny_scope.specs.Scopes.{last_of}
use Rattle.ny_resolve.specs.declared.term.NameId.{NameId}
use Rattle.ny_resolve.specs.declared.builtin.Order.{Order}
use Rattle.ny_resolve.specs.declared.builtin.Order.TheVariants as order
use Rattle.ny_resolve.specs.Keys.{same_name}
use Rattle.ny_check.specs.declared.node.Node.{Node}
use Rattle.ny_check.specs.declared.node.Node.TheVariants as node
use Rattle.ny_check.specs.declared.node.ExprId.{ExprId}
use Rattle.ny_check.specs.declared.node.Generator.{Generator}
use Rattle.ny_check.specs.declared.node.Effect.{Effect}
use Rattle.ny_check.specs.declared.value.Scalar.{Scalar}
use Rattle.ny_check.specs.declared.value.Scalar.TheVariants as scalar
use Rattle.ny_check.specs.declared.value.Value.{Value}
use Rattle.ny_check.specs.declared.value.Value.TheVariants.{Number, Sound}
use Rattle.ny_check.specs.Code.{Code, node_at, function_at}
use Rattle.ny_check.specs.Values.{scalars_of, scalar_of, number_of, test_of}
use Rattle.ny_check.specs.Behaviours.{is_one, cue_timing}
use Rattle.ny_check.specs.Families.{leaf_time, leaf_sound, effect_sound, changed_env}
use Rattle.ny_check.specs.Meaning.{Bound, meaning}
use Rattle.ny_timing.specs.Timings.{Timed, timed}
use Rattle.ny_heap.specs.declared.make.Make.{Make}
use Rattle.ny_heap.specs.declared.make.Make.TheVariants.{Leaf as MakesLeaf, Pair}
use Rattle.ny_heap.specs.declared.sound.Sound.{Sound as Handle}
use Rattle.ny_heap.specs.Heap.{Made, Mix, HeapState}
use Rattle.ny_heap.specs.Kinds.{kind_of_leaf, kind_of_make}
use Rattle.ny_heap.specs.Steps.{last_stop_of, both_timing, waiting_of, sounds_of}
use Rattle.ny_hands.specs.Calls.{Shares, MakesUnit, Places, ReleasesAll, Brings, BringsEach, IsSilent}
use Rattle.ny_hands.specs.Kinds.{kind_of_generator, kind_of_effect, IsOfKind}
use Rattle.ny_hands.specs.Made.{made_with}
use Rattle.ny_hands.specs.Frames.{Names, sounds_among}
use Rattle.ny_hands.specs.declared.branch.Branch.{Branch}

-- how an expression is evaluated: from one heap to another, with the sound that it gives
abbrev pub Trace : Type 1
Trace = ℕ → Env → Names → HeapState Branch → HeapState Branch → Handle → Type 0

-- ---- names

-- a bare name is one more reader of its sound
abbrev pub NameTurn : Rate → Option (Value Handle) → HeapState Branch → HeapState Branch → Handle → Type 0
NameTurn r None old new s = IsSilent old new r s
NameTurn r (Some (Number v)) old new s = IsSilent old new r s
NameTurn r (Some (Sound a)) old new s = Shares old new a s

abbrev pub IsNoNumber : Scalar → Type 0
IsNoNumber (scalar.Number v) = ⊥
IsNoNumber _ = Unit {0}

-- an argument, a bind or an operand: a number makes no unit
abbrev pub ValueTurn : Trace → Code → Env → Names → ExprId → HeapState Branch → HeapState Branch → Value Handle → Type 0
ValueTurn D code env names e old new (Number v) = (scalar_of code e.0 (scalars_of names) ≡ scalar.Number v) × (old ≡ new)
ValueTurn D code env names e old new (Sound s) = IsNoNumber (scalar_of code e.0 (scalars_of names)) × D e.0 env names old new s

-- each bind sees those before it
abbrev pub BindsTurn : Trace → Code → Env → List (NameId × ExprId) → Names → HeapState Branch → HeapState Branch → Names → Type 0
BindsTurn D code env [] names old new [] = old ≡ new
BindsTurn D code env [] names old new (a ∷ added) = ⊥
BindsTurn D code env (b ∷ bs) names old new [] = ⊥
BindsTurn D code env (b ∷ bs) names old new (a ∷ added) =
    (mid : HeapState Branch) × (a.0 ≡ b.0) × ValueTurn D code env names b.1 old mid a.1 × BindsTurn D code env bs (names ++ a ∷ []) mid new added

-- the body shares what it takes, and then all binds are given up
pub record BlockTurn (D : Trace) (code : Code) (bs : List (NameId × ExprId)) (e : ExprId) (env : Env) (names : Names) (old new : HeapState Branch) (s : Handle) : Type 0 where
  pub added : Names
  pub mid : HeapState Branch
  pub end : HeapState Branch
  pub binds : BindsTurn D code env bs names old mid added
  pub body : D e.0 env (names ++ added) mid end s
  pub given_up : ReleasesAll end new (sounds_among added)

abbrev pub ValuesTurn : Trace → Code → Env → Names → List ExprId → HeapState Branch → HeapState Branch → List (Value Handle) → Type 0
ValuesTurn D code env names [] old new [] = old ≡ new
ValuesTurn D code env names [] old new (v ∷ vs) = ⊥
ValuesTurn D code env names (e ∷ es) old new [] = ⊥
ValuesTurn D code env names (e ∷ es) old new (v ∷ vs) =
    (mid : HeapState Branch) × ValueTurn D code env names e old mid v × ValuesTurn D code env names es mid new vs

abbrev pub sounds_of_values : List (Value Handle) → List Handle
sounds_of_values [] = []
sounds_of_values (Number v ∷ vs) = sounds_of_values vs
sounds_of_values (Sound s ∷ vs) = s ∷ sounds_of_values vs

-- the arguments of the parameters, in the caller's names, and then the body in theirs alone. Then all arguments are given up
pub record CallTurn (D : Trace) (code : Code) (params : List NameId) (body : ℕ) (es : List ExprId) (env : Env) (names : Names) (old new : HeapState Branch) (s : Handle) : Type 0 where
  pub values : List (Value Handle)
  pub mid : HeapState Branch
  pub end : HeapState Branch
  pub arguments : ValuesTurn D code env names (take (length params) es) old mid values
  pub inside : D body env (zip params values) mid end s
  pub given_up : ReleasesAll end new (sounds_of_values values)

-- ---- operations

-- two sounds: both are there before one of them is brought to the rate
pub record BothTurn (op : Op) (r : Rate) (a b : Handle) (old new : HeapState Branch) (s : Handle) : Type 0 where
  pub first : Handle
  pub second : Handle
  pub mid : HeapState Branch
  pub end : HeapState Branch
  pub brings_first : Brings old mid r a first
  pub brings_second : Brings mid end r b second
  pub made : MakesUnit end new (Made (Pair op None None)) (both_timing op first.timing second.timing) (first ∷ second ∷ []) [] (first ∷ second ∷ []) s

pub record OneTurn (op : Op) (j k : Option ℤ) (r : Rate) (a : Handle) (old new : HeapState Branch) (s : Handle) : Type 0 where
  pub brought : Handle
  pub mid : HeapState Branch
  pub brings : Brings old mid r a brought
  pub made : MakesUnit mid new (Made (Pair op j k)) brought.timing (brought ∷ []) [] (brought ∷ []) s

abbrev pub JoinTurn : Op → Rate → Value Handle → Value Handle → HeapState Branch → HeapState Branch → Handle → Type 0
JoinTurn op r (Number j) (Number k) old new s = IsSilent old new r s
JoinTurn op r (Number k) (Sound b) old new s = OneTurn op (Some (sat_sample k)) None r b old new s
JoinTurn op r (Sound a) (Number k) old new s = OneTurn op None (Some (sat_sample k)) r a old new s
JoinTurn op r (Sound a) (Sound b) old new s = BothTurn op r a b old new s

pub record OperationTurn (D : Trace) (code : Code) (op : Op) (a b : ExprId) (env : Env) (names : Names) (old new : HeapState Branch) (s : Handle) : Type 0 where
  pub left : Value Handle
  pub right : Value Handle
  pub mid : HeapState Branch
  pub end : HeapState Branch
  pub first : ValueTurn D code env names a old mid left
  pub second : ValueTurn D code env names b mid end right
  pub joined : JoinTurn op env.sound_rate left right end new s

-- ---- parts

-- a part of a mix: an expression, and what its names stand for
abbrev pub Part : Type 0
Part = ExprId × Names

-- the parts of `sim` and `seq` see the same names
abbrev pub parts_of : Names → List ExprId → List Part
parts_of names es = map (λ e. (e, names)) es

-- in part k of `simrep` and `seqrep` the name stands for the number k
abbrev pub counted_names : Names → NameId → ℕ → Names
counted_names names i k = names ++ (i, Number (pos (k * 1000000))) ∷ []

-- their parts 0, 1, .. up to so many
abbrev pub counted_parts : Names → NameId → ℕ → ExprId → List Part
counted_parts names i count e = map (λ k. (e, counted_names names i k)) (range_with_len 0 count)

-- ---- parts together

abbrev pub PartsTurn : Trace → Env → List Part → HeapState Branch → HeapState Branch → List Handle → Type 0
PartsTurn D env [] old new [] = old ≡ new
PartsTurn D env [] old new (s ∷ ss) = ⊥
PartsTurn D env (p ∷ ps) old new [] = ⊥
PartsTurn D env (p ∷ ps) old new (s ∷ ss) = (mid : HeapState Branch) × D p.0.0 env p.1 old mid s × PartsTurn D env ps mid new ss

-- sounds together: each is brought to the rate, and then one unit is made over all of them
pub record MixedTurn (r : Rate) (parts : List Handle) (old new : HeapState Branch) (s : Handle) : Type 0 where
  pub brought : List Handle
  pub mid : HeapState Branch
  pub brings : BringsEach old mid r parts brought
  pub made : MakesUnit mid new Mix (mix_timing r (map (λ s. s.timing) brought)) brought [] brought s

pub record SimTurn (D : Trace) (ps : List Part) (env : Env) (old new : HeapState Branch) (s : Handle) : Type 0 where
  pub parts : List Handle
  pub mid : HeapState Branch
  pub each : PartsTurn D env ps old mid parts
  pub mixed : MixedTurn env.sound_rate parts mid new s

-- ---- parts in turn

pub record NextTurn (D : Trace) (env : Env) (stop : ℕ) (p : Part) (old new : HeapState Branch) (s : Handle) : Type 0 where
  pub part : Handle
  pub brought : Handle
  pub mid : HeapState Branch
  pub end : HeapState Branch
  pub evaluates : D p.0.0 (from_stop env stop) p.1 old mid part
  pub brings : Brings mid end env.sound_rate part brought
  pub places : Places end new (placed_timing (index_at stop env.sound_rate)) brought s

abbrev pub NextsTurn : Trace → Env → ℕ → List Part → HeapState Branch → HeapState Branch → List Handle → Type 0
NextsTurn D env stop [] old new [] = old ≡ new
NextsTurn D env stop [] old new (s ∷ ss) = ⊥
NextsTurn D env stop (p ∷ ps) old new [] = ⊥
NextsTurn D env stop (p ∷ ps) old new (s ∷ ss) = (mid : HeapState Branch) × NextTurn D env stop p old mid s × NextsTurn D env s.timing.stop ps mid new ss

-- what a branch keeps of its free names: of one that is bound to a sound, one more reader
abbrev pub KeepTurn : (ℕ → HeapState Branch → HeapState Branch → List (NameId × Value ℕ) → List Handle → Type 0) → Option (Value Handle) → NameId → ℕ → HeapState Branch → HeapState Branch → List (NameId × Value ℕ) → List Handle → Type 0
KeepTurn R None x k old new kept ss = R k old new kept ss
KeepTurn R (Some (Number v)) x k old new kept ss =
    (rest : List (NameId × Value ℕ)) × R k old new rest ss × (kept ≡ (x, Number v) ∷ rest)
KeepTurn R (Some (Sound a)) x k old new kept ss =
    (rest : List (NameId × Value ℕ)) × (s : Handle) × (others : List Handle) × (mid : HeapState Branch) × Shares old mid a s × R (suc k) mid new rest others × (kept ≡ (x, Sound k) ∷ rest) × (ss ≡ s ∷ others)

abbrev pub KeepsTurn : Names → List NameId → ℕ → HeapState Branch → HeapState Branch → List (NameId × Value ℕ) → List Handle → Type 0
KeepsTurn names [] k old new kept ss = (kept ≡ []) × (ss ≡ []) × (old ≡ new)
KeepsTurn names (x ∷ xs) k old new kept ss = KeepTurn (KeepsTurn names xs) (last_of (same_name x) names) x k old new kept ss

-- the branches that wait, in order. Each keeps its own names, also the one that a part is counted by
abbrev pub WaitsTurn : Code → Env → List Part → HeapState Branch → HeapState Branch → List (Branch × List Handle) → Type 0
WaitsTurn code env [] old new [] = old ≡ new
WaitsTurn code env [] old new (q ∷ qs) = ⊥
WaitsTurn code env (p ∷ ps) old new [] = ⊥
WaitsTurn code env (p ∷ ps) old new (q ∷ qs) =
    (mid : HeapState Branch) × (q.0.expr ≡ p.0) × (q.0.env ≡ env) × KeepsTurn p.1 (get_or code.free p.0.0 []) 0 old mid q.0.names q.1 × WaitsTurn code env ps mid new qs

abbrev pub timed_in : Value Handle → Value Timing
timed_in (Number v) = Number v
timed_in (Sound s) = Sound s.timing

abbrev pub times_in : Names → Timed
times_in [] = []
times_in (b ∷ bs) = (b.0, timed_in b.1) ∷ times_in bs

-- each of these parts follows a stop whose place lies before this index
abbrev pub AreDue : ℕ → Rate → ℕ → List Handle → Type 0
AreDue end r stop [] = Unit {0}
AreDue end r stop (s ∷ ss) = (index_at stop r < end) × AreDue end r s.timing.stop ss

-- the parts whose places lie in the first block are evaluated, and the others wait. `t` is what the timings of names tell
pub record SeqTurn (D : Trace) (code : Code) (e : ℕ) (ps : List Part) (env : Env) (names : Names) (old new : HeapState Branch) (s : Handle) : Type 0 where
  pub first : Part
  pub now : List Part
  pub later : List Part
  pub all : ps ≡ first ∷ (now ++ later)
  pub part : Handle
  pub brought : Handle
  pub others : List Handle
  pub waiting : List (Branch × List Handle)
  pub t : Timing
  pub one : HeapState Branch
  pub two : HeapState Branch
  pub three : HeapState Branch
  pub four : HeapState Branch
  pub evaluates : D first.0.0 env first.1 old one part
  pub brings : Brings one two env.sound_rate part brought
  pub nexts : NextsTurn D env brought.timing.stop now two three others
  pub waits : WaitsTurn code env later three four waiting
  pub when : (bound : Bound) → timed bound ≡ times_in names → t ≡ timing_of (meaning code e env bound)
  -- behind the first part, those that are due and no other
  pub due : AreDue (t.start + four.block) t.rate brought.timing.stop others
  pub not_due : (waiting ≡ []) ⊎ (t.start + four.block ≤ index_at (last_stop_of 0 (brought ∷ others)) t.rate)
  pub made : MakesUnit four new Mix t (brought ∷ others) (map waiting_of waiting) ((brought ∷ others) ++ sounds_of waiting) s

-- ---- leaves and effects

-- a unit of no sound, of the generator's kind, whose samples are those that the generator gives for these numbers
pub record LeafTurn (w : Generator) (env : Env) (numbers : List ℤ) (old new : HeapState Branch) (s : Handle) : Type 0 where
  pub played : Leaf
  pub is : leaf (leaf_time w env numbers) (leaf_value played) ≡ leaf_sound w env numbers
  pub kind : IsOfKind (kind_of_generator w) (kind_of_leaf played)
  pub made : MakesUnit old new (Made (MakesLeaf played)) (leaf_time w env numbers) [] [] [] s

-- a unit over the sound of the part, at its own rate, of the effect's kind, which makes of any sound what the effect does
pub record EffectTurn (D : Trace) (w : Effect) (e : ExprId) (numbers : List ℤ) (env : Env) (names : Names) (old new : HeapState Branch) (s : Handle) : Type 0 where
  pub part : Handle
  pub mid : HeapState Branch
  pub evaluates : D e.0 env names old mid part
  pub unit : Make
  pub is : (m : sounds.Sound) → m.rate ≡ part.timing.rate → made_with unit m ≡ effect_sound w numbers m
  pub kind : kind_of_make unit ≡ kind_of_effect w
  pub made : MakesUnit mid new (Made unit) part.timing (part ∷ []) [] (part ∷ []) s

-- at another loudness than 1 a product, at the sound's own rate
abbrev pub LouderTurn : Bool → ℤ → Handle → HeapState Branch → HeapState Branch → Handle → Type 0
LouderTurn true loud a old new s = (old ≡ new) × (a ≡ s)
LouderTurn false loud a old new s = MakesUnit old new (Made (Pair Mul (Some (sat_sample loud)) None)) a.timing (a ∷ []) [] (a ∷ []) s

-- a sound, heard from local time 0 on and at the loudness
pub record CuedTurn (env : Env) (a : Handle) (old new : HeapState Branch) (s : Handle) : Type 0 where
  pub later : Handle
  pub mid : HeapState Branch
  pub places : Places old mid (cue_timing env) a later
  pub louder : LouderTurn (is_one env.loud) env.loud later mid new s

pub record CueTurn (D : Trace) (e : ExprId) (env : Env) (names : Names) (old new : HeapState Branch) (s : Handle) : Type 0 where
  pub part : Handle
  pub mid : HeapState Branch
  pub evaluates : D e.0 env names old mid part
  pub cued : CuedTurn env part mid new s

-- a number or a sound with the other sign: 0 minus it
pub record SignTurn (D : Trace) (code : Code) (a : ExprId) (env : Env) (names : Names) (old new : HeapState Branch) (s : Handle) : Type 0 where
  pub value : Value Handle
  pub mid : HeapState Branch
  pub operand : ValueTurn D code env names a old mid value
  pub joined : JoinTurn Sub env.sound_rate (Number (pos 0)) value mid new s

-- ---- expressions

-- parts together, or one after the other
abbrev pub MixTurn : Trace → Code → ℕ → Order → List Part → Env → Names → HeapState Branch → HeapState Branch → Handle → Type 0
MixTurn D code e order.Together ps env names old new s = SimTurn D ps env old new s
MixTurn D code e order.InTurn ps env names old new s = SeqTurn D code e ps env names old new s

-- the numbers that expressions are
abbrev pub numbers_in : Code → Names → List ExprId → List ℤ
numbers_in code names es = map (λ e. number_of code e (scalars_of names)) es

-- What evaluation does at a node, where `D` evaluates the nodes before it. Numbers, tests and vectors are no sounds: they are silent.
abbrev pub NodeTurn : Trace → Code → ℕ → Node → Env → Names → HeapState Branch → HeapState Branch → Handle → Type 0
NodeTurn D code e (node.Local x) env names old new s = NameTurn env.sound_rate (last_of (same_name x) names) old new s
NodeTurn D code e (node.Call f es) env names old new s = CallTurn D code (function_at code f.0).params (function_at code f.0).body.0 es env names old new s
NodeTurn D code e (node.Block bs a) env names old new s = BlockTurn D code bs a env names old new s
NodeTurn D code e (node.If c a b) env names old new s = D (if test_of code c (scalars_of names) then a.0 else b.0) env names old new s
NodeTurn D code e (node.Pair op a b) env names old new s = OperationTurn D code op a b env names old new s
NodeTurn D code e (node.Neg a) env names old new s = SignTurn D code a env names old new s
NodeTurn D code e (node.Leaf w es) env names old new s = LeafTurn w env (numbers_in code names es) old new s
NodeTurn D code e (node.Effect w a es) env names old new s = EffectTurn D w a (numbers_in code names es) env names old new s
NodeTurn D code e (node.Cue a) env names old new s = CueTurn D a env names old new s
NodeTurn D code e (node.Mix o es) env names old new s = MixTurn D code e o (parts_of names es) env names old new s
NodeTurn D code e (node.Repeat o i k a) env names old new s = MixTurn D code e o (counted_parts names i k a) env names old new s
NodeTurn D code e (node.Change c a) env names old new s = D a.0 (changed_env c (λ k. number_of code k (scalars_of names)) env) names old new s
NodeTurn D code e _ env names old new s = IsSilent old new env.sound_rate s

-- No deeper than so many nodes. What is no deeper than n is no deeper than n + 1, so the steps of a call need no equal depth.
abbrev pub Evaluates : Code → ℕ → Trace
Evaluates code zero e env names old new s = ⊥
Evaluates code (suc n) e env names old new s = Evaluates code n e env names old new s ⊎ NodeTurn (Evaluates code n) code e (node_at code e) env names old new s
