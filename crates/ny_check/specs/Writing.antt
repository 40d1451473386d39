-- The table of a text: the nodes of each part, and then the node itself.
use Rattle.std.specs.List.{list_any}
use Rattle.std.specs.Prelude.{ℕ, Bool, true, false, nat_eq, if◌then◌else◌, List, [], ◌∷◌, ◌++◌, length, Option, Some, None, ℤ, pos, int_lt, slice_get, ◌||◌}
use Rattle.ny_num.specs.Grid.{ticks_of_micro}
use Rattle.ny_warp.specs.declared.map.Point.{Point}
use Rattle.ny_warp.specs.Maps.{is_rising}
use Rattle.ny_resolve.specs.declared.term.Term.TheFolds.{fold-Part, fold-Bound}
use Rattle.ny_resolve.specs.declared.term.Term.TheOpen.{Term-F, Part-F, Bound-F}
use Rattle.ny_resolve.specs.declared.term.Part.{Part}
use Rattle.ny_resolve.specs.declared.term.Bound.{Bound}
use Rattle.ny_resolve.specs.declared.term.Declared.{Declared}
use Rattle.ny_resolve.specs.declared.term.NameId.{NameId}
use Rattle.ny_resolve.specs.declared.builtin.Operator.{Operator}
use Rattle.ny_resolve.specs.declared.builtin.Operator.TheVariants as op
use Rattle.ny_resolve.specs.declared.builtin.Order.{Order}
use Rattle.ny_resolve.specs.declared.builtin.Order.TheVariants as order
use Rattle.ny_kernels.specs.declared.operation.Op.TheVariants as pair
use Rattle.ny_check.specs.declared.family.Family.{Family}
use Rattle.ny_check.specs.declared.family.Family.TheVariants as family
use Rattle.ny_check.specs.declared.node.Generator.TheVariants as generator
use Rattle.ny_check.specs.declared.node.Effect.{Effect}
use Rattle.ny_check.specs.declared.node.Effect.TheVariants as effect
use Rattle.ny_check.specs.declared.node.Transformation.TheVariants as by
use Rattle.ny_check.specs.declared.node.Change.TheVariants as change
use Rattle.ny_check.specs.declared.node.Node.{Node}
use Rattle.ny_check.specs.declared.node.Node.TheVariants as node
use Rattle.ny_check.specs.declared.node.ExprId.{ExprId}
use Rattle.ny_check.specs.declared.node.Function.{Function}
use Rattle.ny_check.specs.Code.{Code, no_node}

-- the nodes, and for each the free names that are kept of it
pub record Table : Type 0 where
  pub nodes : List Node
  pub free : List (List NameId)

-- what is written: the table, and the declarations
pub record Draft_of : Type 0 where
  pub table : Table
  pub functions : List Function

-- the table after an expression was written, and the expression's place
pub record Written : Type 0 where
  pub table : Table
  pub id : ExprId

pub record WrittenParts : Type 0 where
  pub table : Table
  pub ids : List ExprId

pub record WrittenBinds : Type 0 where
  pub table : Table
  pub binds : List (NameId × ExprId)

-- An expression: what writes it after a table, of the names that are kept of it and of the declarations that are written; and
-- its free names, of the names bound round it and the free names found before.
pub record Writing : Type 0 where
  pub write : List NameId → List Function → Table → Written
  pub uses : List NameId → List NameId → List NameId

pub record BindWriting : Type 0 where
  pub name : NameId
  pub write : List NameId → List Function → Table → Written
  pub uses : List NameId → List NameId → List NameId

-- ---- free names

abbrev pub is_among : NameId → List NameId → Bool
is_among n ns = list_any (λ (m : NameId). nat_eq n.0 m.0) ns

-- a use of a name that is not bound, the first time
abbrev pub use_of : NameId → List NameId → List NameId → List NameId
use_of n bound found = if is_among n bound || is_among n found then found else found ++ n ∷ []

abbrev pub uses_in : List Writing → List NameId → List NameId → List NameId
uses_in [] bound found = found
uses_in (e ∷ es) bound found = uses_in es bound (e.uses bound found)

abbrev pub bound_after : List BindWriting → List NameId → List NameId
bound_after [] bound = bound
bound_after (b ∷ bs) bound = bound_after bs (bound ++ b.name ∷ [])

-- each bind is seen by those after it
abbrev pub uses_in_binds : List BindWriting → List NameId → List NameId → List NameId
uses_in_binds [] bound found = found
uses_in_binds (b ∷ bs) bound found = uses_in_binds bs (bound ++ b.name ∷ []) (b.uses bound found)

-- ---- the table

abbrev pub put : Node → List NameId → Table → Written
put n names t = record { table = record { nodes = t.nodes ++ n ∷ []; free = t.free ++ names ∷ [] }; id = record { 0 = length t.nodes } }

-- the names that are kept of a part: of a part of a sequence its free names, in the order of their first use
abbrev pub kept_names : Bool → (List NameId → List NameId → List NameId) → List NameId
kept_names keeps uses = if keeps then uses [] [] else []

abbrev pub write_parts : Bool → List Writing → List Function → List ExprId → Table → WrittenParts
write_parts keeps [] fs ids t = record { table = t; ids = ids }
write_parts keeps (e ∷ es) fs ids t = let w = e.write (kept_names keeps e.uses) fs t in write_parts keeps es fs (ids ++ w.id ∷ []) w.table

abbrev pub write_binds : List BindWriting → List Function → List (NameId × ExprId) → Table → WrittenBinds
write_binds [] fs binds t = record { table = t; binds = binds }
write_binds (b ∷ bs) fs binds t = let w = b.write [] fs t in write_binds bs fs (binds ++ (b.name, w.id) ∷ []) w.table

-- ---- declarations

-- the body of the declaration of this number, if it is written
abbrev pub body_in : Option Function → Option ExprId
body_in (Some f) = Some f.body
body_in None = None

abbrev pub body_of : List Function → ℕ → Option ExprId
body_of fs n = body_in (slice_get fs n)

abbrev pub global_node : Option ExprId → Node
global_node (Some e) = node.Global e
global_node None = no_node

abbrev pub call_node : ℕ → Option ExprId → List ExprId → Node
call_node n (Some e) ids = node.Call (record { 0 = n }) ids
call_node n None ids = no_node

-- ---- operators

-- The family of each operator. `scale` is a product; `e @ t` and `e ~ k` have their number last.
abbrev pub family_of : Operator → Family
family_of op.Add = family.Pair pair.Add
family_of op.Sub = family.Pair pair.Sub
family_of op.Mul = family.Pair pair.Mul
family_of op.Scale = family.Pair pair.Mul
family_of op.Max = family.Pair pair.Max
family_of op.Min = family.Pair pair.Min
family_of op.Neg = family.Neg
family_of (op.Compare r) = family.Compare r
family_of op.And = family.And
family_of op.Or = family.Or
family_of op.Not = family.Not
family_of op.If = family.If
family_of op.Const = family.Leaf generator.Const
family_of op.Osc = family.Leaf generator.Osc
family_of op.HzOsc = family.Leaf generator.HzOsc
family_of op.Lfo = family.Leaf generator.Lfo
family_of op.Noise = family.Leaf generator.Noise
family_of op.Rest = family.Leaf generator.Rest
family_of op.Ramp = family.Leaf generator.Ramp
family_of op.Pwl = family.Leaf generator.Pwl
family_of op.Abs = family.Effect effect.Abs
family_of op.OnePole = family.Effect effect.OnePole
family_of op.Biquad = family.Effect effect.Biquad
family_of op.Comb = family.Effect effect.Comb
family_of op.Cue = family.Cue
family_of op.Sim = family.Mix order.Together
family_of op.Seq = family.Mix order.InTurn
family_of op.At = family.Change by.At
family_of op.Stretch = family.Change by.Stretch
family_of op.Loud = family.Change by.Loud
family_of op.Sustain = family.Change by.Sustain
family_of op.Transpose = family.Change by.Transpose
family_of op.Placed = family.ChangeAfter by.At
family_of op.Stretched = family.ChangeAfter by.Stretch
family_of op.Vector = family.Vector

abbrev pub one_node : Family → ExprId → Node
one_node family.Neg a = node.Neg a
one_node family.Not a = node.Not a
one_node family.Cue a = node.Cue a
one_node _ a = no_node

abbrev pub two_node : Family → ExprId → ExprId → Node
two_node (family.Pair o) a b = node.Pair o a b
two_node (family.Compare r) a b = node.Compare r a b
two_node family.And a b = node.And a b
two_node family.Or a b = node.Or a b
two_node (family.Change t) a b = node.Change (change.By t a) b
two_node (family.ChangeAfter t) a b = node.Change (change.By t b) a
two_node _ a b = no_node

abbrev pub three_node : Family → ExprId → ExprId → ExprId → Node
three_node family.If a b c = node.If a b c
three_node _ a b c = no_node

-- one to three operands
abbrev pub counted_node : Family → List ExprId → Node
counted_node f (a ∷ []) = one_node f a
counted_node f (a ∷ b ∷ []) = two_node f a b
counted_node f (a ∷ b ∷ c ∷ []) = three_node f a b c
counted_node f _ = no_node

-- the sound comes first
abbrev pub effect_node : Effect → List ExprId → Node
effect_node w (e ∷ ids) = node.Effect w e ids
effect_node w [] = no_node

abbrev pub family_node : Family → List ExprId → Node
family_node (family.Leaf w) ids = node.Leaf w ids
family_node (family.Mix o) ids = node.Mix o ids
family_node family.Vector ids = node.Vector ids
family_node (family.Effect w) ids = effect_node w ids
family_node f ids = counted_node f ids

abbrev pub operator_node : Operator → List ExprId → Node
operator_node o ids = family_node (family_of o) ids

abbrev pub quotient_node : ExprId → ℤ → Node
quotient_node a v = if int_lt (pos 0) v then node.Div a v else no_node

-- the points that numbers are in pairs, where an x may wait for its y
abbrev pub points_from : Option ℤ → List ℤ → List Point
points_from waiting [] = []
points_from None (v ∷ vs) = points_from (Some v) vs
points_from (Some x) (v ∷ vs) = record { x = ticks_of_micro x; y = ticks_of_micro v } ∷ points_from None vs

-- the points that the literals of a map are
abbrev pub points_of : List ℤ → List Point
points_of vs = points_from None vs

abbrev pub warp_node : List ℤ → ExprId → Node
warp_node vs e = if is_rising (points_of vs) then node.Change (change.Warp (points_of vs)) e else no_node

-- ---- expressions

abbrev pub is_seq : Operator → Bool
is_seq op.Seq = true
is_seq _ = false

abbrev pub is_in_turn : Order → Bool
is_in_turn order.InTurn = true
is_in_turn order.Together = false

abbrev pub term_writing : Term-F Writing BindWriting Writing → Writing
term_writing (Term-F.Number v) = record { write = λ names fs t. put (node.Number v) names t; uses = λ bound found. found }
term_writing (Term-F.Local x) = record { write = λ names fs t. put (node.Local x) names t; uses = λ bound found. use_of x bound found }
term_writing (Term-F.Global n) = record { write = λ names fs t. put (global_node (body_of fs n)) names t; uses = λ bound found. found }
term_writing (Term-F.Call n es) = record {
  write = λ names fs t. let w = write_parts false es fs [] t in put (call_node n (body_of fs n) w.ids) names w.table;
  uses = λ bound found. uses_in es bound found;
}
term_writing (Term-F.Block bs e) = record {
  write = λ names fs t. let w = write_binds bs fs [] t in let v = e.write [] fs w.table in put (node.Block w.binds v.id) names v.table;
  uses = λ bound found. e.uses (bound_after bs bound) (uses_in_binds bs bound found);
}
term_writing (Term-F.Apply o es) = record {
  write = λ names fs t. let w = write_parts (is_seq o) es fs [] t in put (operator_node o w.ids) names w.table;
  uses = λ bound found. uses_in es bound found;
}
term_writing (Term-F.Over a v) = record {
  write = λ names fs t. let w = a.write [] fs t in put (quotient_node w.id v) names w.table;
  uses = λ bound found. a.uses bound found;
}
term_writing (Term-F.Repeat o x n e) = record {
  write = λ names fs t. let w = e.write (kept_names (is_in_turn o) e.uses) fs t in put (node.Repeat o x n w.id) names w.table;
  uses = λ bound found. e.uses (bound ++ x ∷ []) found;
}
term_writing (Term-F.Nameless e) = record { write = λ names fs t. e.write names fs t; uses = λ bound found. e.uses bound found }
term_writing (Term-F.Warp vs e) = record {
  write = λ names fs t. let w = e.write [] fs t in put (warp_node vs w.id) names w.table;
  uses = λ bound found. e.uses bound found;
}
term_writing (Term-F.Rate a r e) = record {
  write = λ names fs t. let w = e.write [] fs t in put (node.Change (change.Rate a r) w.id) names w.table;
  uses = λ bound found. e.uses bound found;
}

abbrev pub bound_writing : Bound-F Writing BindWriting Writing → BindWriting
bound_writing b = record { name = b.name; write = b.value.write; uses = b.value.uses }

abbrev pub part_writing : Part-F Writing BindWriting Writing → Writing
part_writing p = p.term

abbrev pub writing : Part → Writing
writing = fold-Part Writing BindWriting Writing term_writing bound_writing part_writing

abbrev pub writing_of_bind : Bound → BindWriting
writing_of_bind = fold-Bound Writing BindWriting Writing term_writing bound_writing part_writing

-- ---- the whole text

-- declarations in order, each of which sees those before it
abbrev pub write_declared : List Declared → Draft_of → Draft_of
write_declared [] d = d
write_declared (x ∷ xs) d =
    let w = (writing x.body).write [] d.functions d.table in
    write_declared xs (record { table = w.table; functions = d.functions ++ record { params = x.params; body = w.id } ∷ [] })

abbrev pub empty : Draft_of
empty = record { table = record { nodes = []; free = [] }; functions = [] }

-- the table of a text that plays this, with so many channels
unfoldable pub program_of : List Declared → Part → ℕ → Code
program_of ds play channels =
    let d = write_declared ds empty in
    let w = (writing play).write [] d.functions d.table in
    record { nodes = w.table.nodes; functions = d.functions; play = w.id; channels = channels; free = w.table.free }
