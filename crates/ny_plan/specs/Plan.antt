-- The plan of a program: the units that its strict meaning is made of. The meaning once more, with a row for each unit in
-- place of its samples, and with what is made by now handed on from the left to the right.
use Rattle.std.specs.Prelude.{ℕ, ◌*◌, List, [], ◌∷◌, ◌++◌, map, zip, flat_map, if◌then◌else◌, ℤ, pos, get_or, unwrap_or}
use Rattle.std.specs.List.{range_with_len}
use Rattle.std.specs.declared.option.Option.{Option}
use Rattle.std.specs.declared.option.Option.TheVariants.{Some}
use Rattle.ny_num.specs.declared.rate.Rate.{Rate}
use Rattle.ny_warp.specs.declared.env.Env.{Env}
use Rattle.ny_warp.specs.Environment.{opening}
use Rattle.ny_scope.specs.Scopes.{last_of}
use Rattle.ny_resolve.specs.declared.term.NameId.{NameId}
use Rattle.ny_resolve.specs.Keys.{same_name}
use Rattle.ny_check.specs.declared.node.Node.{Node}
use Rattle.ny_check.specs.declared.node.Node.TheVariants as node
use Rattle.ny_check.specs.declared.node.ExprId.{ExprId}
use Rattle.ny_check.specs.declared.value.Scalar.{Scalar}
use Rattle.ny_check.specs.declared.value.Scalar.TheVariants as scalar
use Rattle.ny_check.specs.declared.value.Value.{Value}
use Rattle.ny_check.specs.declared.value.Value.TheVariants.{Number, Sound}
use Rattle.ny_check.specs.Code.{Code, node_at, function_at}
use Rattle.ny_check.specs.Recursion.{by_smaller}
use Rattle.ny_check.specs.Values.{scalars_of, scalar_of, number_of, test_of}
use Rattle.ny_check.specs.Families.{effect_sound, changed_env}
use Rattle.ny_hands.specs.Kinds.{kind_of_effect}
use Rattle.ny_plan.specs.Rows.{RowSound, Plan, Step, given, and_then, each, silent}
use Rattle.ny_plan.specs.Units.{Part, leaf_made, row_over, brought, paired, negated, cued, parts_in, mixed, channel_row}

-- ---- names

-- what names stand for: numbers, and sounds of the table
abbrev pub Names : Type 0
Names = List (NameId × Value RowSound)

-- what an expression makes, in an environment and under what its names stand for
abbrev pub Makes : Type 0
Makes = Env → Names → Step RowSound

-- a bare name is its sound as it is, and makes no row
abbrev pub sound_in : Rate → Value RowSound → RowSound
sound_in rate (Number v) = silent rate
sound_in rate (Sound s) = s

-- a number makes no row; else what the expression makes
abbrev pub value_by : Scalar → Step RowSound → Step (Value RowSound)
value_by (scalar.Number v) sound = given (Number v)
value_by _ sound = and_then sound (λ s. given (Sound s))

-- what an argument or a bind is for the body that sees it
abbrev pub value_of : Code → (ℕ → Makes) → Env → Names → ExprId → Step (Value RowSound)
value_of code rec env names e = value_by (scalar_of code e.0 (scalars_of names)) (rec e.0 env names)

-- each bind of a block sees those before it
abbrev pub names_after : Code → (ℕ → Makes) → Env → List (NameId × ExprId) → Names → Step Names
names_after code rec env [] names = given names
names_after code rec env (b ∷ bs) names =
    and_then (value_of code rec env names b.1) (λ v. names_after code rec env bs (names ++ (b.0, v) ∷ []))

-- the number that an expression is
abbrev pub number : Code → Names → ExprId → ℤ
number code names e = number_of code e (scalars_of names)

-- ---- parts

-- the sound that a name stands for, where it is one
abbrev pub sounds_of : Option (Value RowSound) → List RowSound
sounds_of (Some (Sound s)) = s ∷ []
sounds_of _ = []

-- the sounds that the free names of an expression stand for, in the order of their first use
abbrev pub captured : Code → Names → ExprId → List RowSound
captured code names e = flat_map (λ x. sounds_of (last_of (same_name x) names)) (get_or code.free e.0 [])

-- an expression as a part of a mix
abbrev pub part_of : Code → (ℕ → Makes) → Names → ExprId → Part
part_of code rec names e = record { sound = λ from. rec e.0 from names; captured = captured code names e }

-- the parts 0, 1, .. up to so many of `simrep` or `seqrep`: the name stands for the number
abbrev pub repeated_parts : Code → (ℕ → Makes) → Names → NameId → ℕ → ExprId → List Part
repeated_parts code rec names i count e =
    map (λ k. part_of code rec (names ++ (i, Number (pos (k * 1000000))) ∷ []) e) (range_with_len 0 count)

-- ---- expressions

-- What a node makes, of what the nodes before it make.
abbrev pub made_at : Code → Node → (ℕ → Makes) → Makes
made_at code (node.Local x) rec env names =
    given (sound_in env.sound_rate (unwrap_or (last_of (same_name x) names) (Sound (silent env.sound_rate))))
made_at code (node.Call f es) rec env names =
    and_then (each (value_of code rec env names) es) (λ vs.
    rec (function_at code f.0).body.0 env (zip (function_at code f.0).params vs))
made_at code (node.Block bs e) rec env names = and_then (names_after code rec env bs names) (λ inner. rec e.0 env inner)
made_at code (node.If c a b) rec env names =
    if test_of code c (scalars_of names) then rec a.0 env names else rec b.0 env names
made_at code (node.Pair op a b) rec env names =
    and_then (value_of code rec env names a) (λ a.
    and_then (value_of code rec env names b) (λ b. paired op env.sound_rate a b))
made_at code (node.Neg a) rec env names = and_then (value_of code rec env names a) (negated env.sound_rate)
made_at code (node.Leaf w es) rec env names = leaf_made w env (map (number code names) es)
made_at code (node.Effect w e es) rec env names =
    and_then (rec e.0 env names) (row_over (kind_of_effect w) (effect_sound w (map (number code names) es)))
made_at code (node.Cue e) rec env names = and_then (rec e.0 env names) (cued env)
made_at code (node.Mix o es) rec env names =
    and_then (parts_in o env (map (part_of code rec names) es)) (mixed env.sound_rate)
made_at code (node.Repeat o i n e) rec env names =
    and_then (parts_in o env (repeated_parts code rec names i n e)) (mixed env.sound_rate)
made_at code (node.Change c e) rec env names = rec e.0 (changed_env c (number code names) env) names
made_at code _ rec env names = given (silent env.sound_rate)

-- what an expression makes, by recursion on the nodes before it
unfoldable pub made : Code → ℕ → Makes
made code = by_smaller (λ env names. given (silent env.sound_rate)) (λ e rec. made_at code (node_at code e) rec)

-- ---- what is played

-- the sounds that an expression plays, in an environment and under what its names stand for
abbrev pub Plays : Type 0
Plays = Env → Names → Step (List RowSound)

-- an operand of `vector`
abbrev pub operand : Code → Env → Names → ExprId → Step RowSound
operand code env names e = made code e.0 env names

-- `vector` plays its operands, and calls, blocks and `#if` what is played below them. Each other expression plays its one
-- sound.
abbrev pub played_at : Code → ℕ → Node → (ℕ → Plays) → Plays
played_at code e (node.Vector es) rec env names = each (operand code env names) es
played_at code e (node.Call f es) rec env names =
    and_then (each (value_of code (made code) env names) es) (λ vs.
    rec (function_at code f.0).body.0 env (zip (function_at code f.0).params vs))
played_at code e (node.Block bs value) rec env names =
    and_then (names_after code (made code) env bs names) (λ inner. rec value.0 env inner)
played_at code e (node.If c a b) rec env names =
    if test_of code c (scalars_of names) then rec a.0 env names else rec b.0 env names
played_at code e _ rec env names = and_then (made code e env names) (λ s. given (s ∷ []))

unfoldable pub played : Code → ℕ → Plays
played code = by_smaller (λ env names. given []) (λ e rec. played_at code e (node_at code e) rec)

-- all that is played, brought to the rate, and then a channel of each
abbrev pub channel_rows : Code → Rate → Step (List RowSound)
channel_rows code rate =
    and_then (played code code.play.0 (opening rate) []) (λ ss.
    and_then (each (brought rate) ss) (λ ss. each channel_row ss))

-- the plan of a program at the rate of a command
unfoldable pub plan : Code → Rate → Plan
plan code rate = let all = channel_rows code rate [] in record { rows = all.rows; channels = all.gives }
