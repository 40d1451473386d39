-- The term that an expression is, and the faults in it, in the order in which a reader meets them: those of a call or an operator
-- first, and then those of its parts from left to right.
use Rattle.std.specs.Prelude.{ℕ, ◌+◌, Bool, true, false, ◌&&◌, not, nat_eq, nat_lt, if◌then◌else◌, List, [], ◌∷◌, ◌++◌, map, length, Option, Some, None, is_some, ℤ, pos, bytes_eq}
use Rattle.std.specs.Map.{lookup}
use Rattle.ny_num.specs.declared.rate.Rate.{Rate}
use Rattle.ny_num.specs.declared.rate.Rate.TheVariants as rate
use Rattle.ny_syntax.specs.declared.tree.Form.TheFolds.{fold-Expr, fold-Bind}
use Rattle.ny_syntax.specs.declared.tree.Form.TheOpen.{Form-F, Expr-F, Bind-F}
use Rattle.ny_syntax.specs.declared.tree.Expr.{Expr}
use Rattle.ny_syntax.specs.declared.tree.Bind.{Bind}
use Rattle.ny_syntax.specs.declared.tree.BinOp.{BinOp}
use Rattle.ny_syntax.specs.declared.tree.BinOp.TheVariants as binary
use Rattle.ny_syntax.specs.declared.tree.PreOp.{PreOp}
use Rattle.ny_syntax.specs.declared.tree.PreOp.TheVariants as prefix
use Rattle.ny_resolve.specs.declared.fault.Fault.{Fault}
use Rattle.ny_resolve.specs.declared.fault.CheckWhy.TheVariants as why
use Rattle.ny_resolve.specs.declared.builtin.Operator.{Operator}
use Rattle.ny_resolve.specs.declared.builtin.Operator.TheVariants as op
use Rattle.ny_resolve.specs.declared.builtin.Relation.TheVariants as relation
use Rattle.ny_resolve.specs.declared.builtin.Builtin.{Builtin}
use Rattle.ny_resolve.specs.declared.builtin.Builtin.TheVariants as builtin
use Rattle.ny_resolve.specs.declared.builtin.Order.{Order}
use Rattle.ny_resolve.specs.declared.names.Called.{Called}
use Rattle.ny_resolve.specs.declared.term.Part.{Part}
use Rattle.ny_resolve.specs.declared.term.Bound.{Bound}
use Rattle.ny_resolve.specs.declared.term.NameId.{NameId}
use Rattle.ny_resolve.specs.declared.term.Term.{Term}
use Rattle.ny_resolve.specs.declared.term.Term.TheVariants as term
use Rattle.ny_resolve.specs.Faults.{fault_if}
use Rattle.ny_resolve.specs.Builtins.{Bytes, builtin_of, is_map, arity_of, fits}
use Rattle.ny_resolve.specs.Literals.{Shape, Literal, Bare, Mapped, Other, bare_in, is_mapped, all_literals, count_of_shape, rate_of_shape, is_good_map, map_literals, value_of_shape, is_zero}
use Rattle.ny_resolve.specs.Names.{Scope, name_at, local_of, with_local, variable_faults, function_faults, again_faults, seen_after}

-- what is read, and the faults in it
pub record ReadPart : Type 0 where
  pub part : Part
  pub faults : List Fault

pub record ReadParts : Type 0 where
  pub parts : List Part
  pub faults : List Fault

-- the binds of a block, and the scope of what follows them
pub record ReadBinds : Type 0 where
  pub binds : List Bound
  pub scope : Scope
  pub faults : List Fault

-- An expression as its reading: its place, what the node above sees of it, its term and its faults in a scope; and the faults of
-- its arguments alone, for the word `map`.
pub record Reading : Type 0 where
  pub at : ℕ
  pub shape : Shape
  pub read : Scope → ReadPart
  pub arguments : Scope → List Fault

-- a form has no place yet
pub record Formed : Type 0 where
  pub shape : Shape
  pub read : ℕ → Scope → ReadPart
  pub arguments : Scope → List Fault

pub record BindReading : Type 0 where
  pub at : ℕ
  pub name : Bytes
  pub read : Scope → ReadPart

abbrev pub part_at : ℕ → Term → Part
part_at at t = record { at = at; term = t }

-- what stands in the place of an expression that is not read
abbrev pub no_part : ℕ → Part
no_part at = part_at at (term.Number (pos 0))

abbrev pub read_as : ℕ → Term → List Fault → ReadPart
read_as at t faults = record { part = part_at at t; faults = faults }

-- parts in order
abbrev pub read_parts : List Reading → Scope → ReadParts
read_parts [] s = record { parts = []; faults = [] }
read_parts (e ∷ es) s =
    let r = e.read s in let rest = read_parts es s in record { parts = r.part ∷ rest.parts; faults = r.faults ++ rest.faults }

-- ---- names

abbrev pub global_term : Option ℕ → Term
global_term (Some number) = term.Global number
global_term None = term.Number (pos 0)

abbrev pub value_named : ℕ → Bytes → Scope → Option NameId → ReadPart
value_named at x s (Some n) = read_as at (term.Local n) []
value_named at x s None =
    let number = lookup (bytes_eq x) s.variables in read_as at (global_term number) (variable_faults at s.here number)

-- ---- calls of built-ins

-- argument j of a repeat, warp or change of rate that should be a name, a literal or a map, and is none
abbrev pub argument_faults : Builtin → ℕ → Reading → List Fault
argument_faults (builtin.Repeat o) j e =
    if nat_eq j 0 then fault_if (not (is_some (bare_in e.shape))) why.Kind e.at
    else (if nat_eq j 1 then fault_if (nat_eq (count_of_shape e.shape) 0) why.BadCount e.at else [])
argument_faults builtin.Warp j e = if nat_eq j 0 then fault_if (not (is_good_map e.shape)) why.BadMap e.at else []
argument_faults (builtin.Rate r) j e = if nat_eq j 0 then fault_if (not (is_some (rate_of_shape e.shape))) why.BadRate e.at else []
argument_faults (builtin.Apply o) j e = []

abbrev pub is_repeat : Builtin → Bool
is_repeat (builtin.Repeat o) = true
is_repeat _ = false

abbrev pub is_warp : Builtin → Bool
is_warp builtin.Warp = true
is_warp _ = false

-- a bare name that is the first argument of a repeat is no use of it
abbrev pub is_counter : Builtin → ℕ → Shape → Bool
is_counter b j s = nat_eq j 0 && is_repeat b && is_some (bare_in s)

-- `map` is no called name as the first argument of `warp`
abbrev pub is_warp_map : Builtin → ℕ → Shape → Bool
is_warp_map b j s = nat_eq j 0 && is_warp b && is_mapped s

-- the counter of a repeat is bound at its place
abbrev pub with_counter : Option Bytes → ℕ → Scope → Scope
with_counter (Some x) at s = with_local x at s
with_counter None at s = s

-- the scope of argument j: the third of a repeat sees the counter
abbrev pub argument_scope : Builtin → Option Bytes → ℕ → ℕ → Scope → Scope
argument_scope b counter at j s = if nat_eq j 2 && is_repeat b then with_counter counter at s else s

-- argument j as an operand of a built-in whose first argument is this bare name, or none, at this place
abbrev pub operand_read : Builtin → Option Bytes → ℕ → ℕ → Reading → Scope → ReadPart
operand_read b counter at j e s =
    if is_counter b j e.shape then record { part = no_part e.at; faults = [] }
    else (if is_warp_map b j e.shape then record { part = no_part e.at; faults = e.arguments s }
    else e.read (argument_scope b counter at j s))

-- the same, with the faults of its form
abbrev pub argument_read : Builtin → Option Bytes → ℕ → ℕ → Reading → Scope → ReadPart
argument_read b counter at j e s =
    let r = operand_read b counter at j e s in record { part = r.part; faults = argument_faults b j e ++ r.faults }

-- arguments in order, from argument j on
abbrev pub arguments_read : Builtin → Option Bytes → ℕ → ℕ → List Reading → Scope → ReadParts
arguments_read b counter at j [] s = record { parts = []; faults = [] }
arguments_read b counter at j (e ∷ es) s =
    let r = argument_read b counter at j e s in let rest = arguments_read b counter at (j + 1) es s in
    record { parts = r.part ∷ rest.parts; faults = r.faults ++ rest.faults }

abbrev pub first_counter : List Reading → Option Bytes
first_counter [] = None
first_counter (e ∷ es) = bare_in e.shape

abbrev pub first_place : List Reading → ℕ
first_place [] = 0
first_place (e ∷ es) = e.at

abbrev pub first_rate : List Reading → Option Rate
first_rate [] = None
first_rate (e ∷ es) = rate_of_shape e.shape

abbrev pub first_map : List Reading → List ℤ
first_map [] = []
first_map (e ∷ es) = map_literals e.shape

abbrev pub second_count : List Reading → ℕ
second_count [] = 0
second_count (e ∷ []) = 0
second_count (e ∷ (f ∷ es)) = count_of_shape f.shape

abbrev pub last_part : Part → List Part → Part
last_part p [] = p
last_part p (q ∷ qs) = last_part q qs

-- a repeat with its counter, or without one
abbrev pub repeat_term : Order → Option Bytes → ℕ → ℕ → Part → Term
repeat_term o (Some x) at n e = term.Repeat o (name_at at) n e
repeat_term o None at n e = term.Nameless e

abbrev pub rate_or : Option Rate → Rate
rate_or (Some r) = r
rate_or None = rate.R2205

-- a call of a built-in, of its arguments and of what was read of them
abbrev pub builtin_term : Builtin → List Reading → List Part → Term
builtin_term (builtin.Apply o) es parts = term.Apply o parts
builtin_term (builtin.Repeat o) es parts = repeat_term o (first_counter es) (first_place es) (second_count es) (last_part (no_part 0) parts)
builtin_term builtin.Warp es parts = term.Warp (first_map es) (last_part (no_part 0) parts)
builtin_term (builtin.Rate r) es parts = term.Rate r (rate_or (first_rate es)) (last_part (no_part 0) parts)

abbrev pub is_vector : Builtin → Bool
is_vector (builtin.Apply op.Vector) = true
is_vector _ = false

-- a wrong number of arguments, and a vector of more than eight channels
abbrev pub call_faults : ℕ → Builtin → ℕ → List Fault
call_faults at b n = fault_if (not (fits (arity_of b) n)) why.Arity at ++ fault_if (is_vector b && nat_lt 8 n) why.TooManyChannels at

-- a call with a wrong number of arguments is a fault, and stands for nothing
abbrev pub builtin_called : ℕ → Builtin → List Reading → Scope → ReadPart
builtin_called at b es s =
    let r = arguments_read b (first_counter es) (first_place es) 0 es s in
    read_as at (if fits (arity_of b) (length es) then builtin_term b es r.parts else term.Number (pos 0))
    (call_faults at b (length es) ++ r.faults)

-- ---- calls of functions

abbrev pub function_term : Option Called → List Part → Term
function_term (Some f) parts = term.Call f.number parts
function_term None parts = term.Number (pos 0)

abbrev pub function_called : ℕ → Bytes → List Reading → Scope → ReadPart
function_called at x es s =
    let f = lookup (bytes_eq x) s.functions in let r = read_parts es s in
    read_as at (function_term f r.parts) (function_faults at s.here (length es) f ++ r.faults)

abbrev pub called : ℕ → Bytes → Option Builtin → List Reading → Scope → ReadPart
called at x (Some b) es s = builtin_called at b es s
called at x None es s = function_called at x es s

-- ---- blocks

-- the binds of a block, each seen by those after it; `seen` are the names bound before in this block
abbrev pub read_binds : List BindReading → List (Bytes × NameId) → Scope → ReadBinds
read_binds [] seen s = record { binds = []; scope = s; faults = [] }
read_binds (b ∷ bs) seen s =
    let r = b.read s in let rest = read_binds bs (seen_after seen b.name b.at) (with_local b.name b.at s) in
    record {
      binds = record { name = name_at b.at; value = r.part } ∷ rest.binds;
      scope = rest.scope;
      faults = again_faults seen b.name b.at ++ (r.faults ++ rest.faults);
    }

abbrev pub block_read : ℕ → List BindReading → Reading → Scope → ReadPart
block_read at bs e s =
    let r = read_binds bs [] s in let v = e.read r.scope in read_as at (term.Block r.binds v.part) (r.faults ++ v.faults)

-- ---- operators

abbrev pub operator_of : BinOp → Operator
operator_of binary.Or = op.Or
operator_of binary.And = op.And
operator_of binary.Eq = op.Compare relation.Eq
operator_of binary.Ne = op.Compare relation.Ne
operator_of binary.Lt = op.Compare relation.Lt
operator_of binary.Gt = op.Compare relation.Gt
operator_of binary.Le = op.Compare relation.Le
operator_of binary.Ge = op.Compare relation.Ge
operator_of binary.Add = op.Add
operator_of binary.Sub = op.Sub
operator_of binary.Mul = op.Mul
operator_of binary.Div = op.Mul
operator_of binary.At = op.Placed
operator_of binary.Stretch = op.Stretched

abbrev pub prefix_operator : PreOp → Operator
prefix_operator prefix.Minus = op.Neg
prefix_operator prefix.Not = op.Not

abbrev pub is_division : BinOp → Bool
is_division binary.Div = true
is_division _ = false

-- a division is by a literal, which is no operand
abbrev pub binary_read : ℕ → BinOp → Reading → Reading → Scope → ReadPart
binary_read at o a b s =
    let x = a.read s in
    if is_division o then
    read_as at (term.Over x.part (value_of_shape b.shape)) (fault_if (is_zero (value_of_shape b.shape)) why.ZeroDivisor at ++ x.faults)
    else (let y = b.read s in read_as at (term.Apply (operator_of o) (x.part ∷ y.part ∷ [])) (x.faults ++ y.faults))

abbrev pub choice_read : ℕ → Reading → Reading → Reading → Scope → ReadPart
choice_read at c a b s =
    let x = c.read s in let y = a.read s in let z = b.read s in
    read_as at (term.Apply op.If (x.part ∷ y.part ∷ z.part ∷ [])) (x.faults ++ (y.faults ++ z.faults))

-- ---- expressions

abbrev pub shape_of : Reading → Shape
shape_of e = e.shape

abbrev pub shape_of_call : Bytes → List Reading → Shape
shape_of_call x es = if is_map x then Mapped (all_literals (map shape_of es)) else Other

abbrev pub form_reading : Form-F Formed BindReading Reading → Formed
form_reading (Form-F.Number v) = record { shape = Literal v; read = λ at s. read_as at (term.Number v) []; arguments = λ s. [] }
form_reading (Form-F.Name x) = record { shape = Bare x.bytes; read = λ at s. value_named at x.bytes s (local_of x.bytes s); arguments = λ s. [] }
form_reading (Form-F.Call x es) = record {
  shape = shape_of_call x.bytes es;
  read = λ at s. called at x.bytes (builtin_of x.bytes) es s;
  arguments = λ s. (read_parts es s).faults;
}
form_reading (Form-F.If c a b) = record { shape = Other; read = λ at s. choice_read at c a b s; arguments = λ s. [] }
form_reading (Form-F.Block bs e) = record { shape = Other; read = λ at s. block_read at bs e s; arguments = λ s. [] }
form_reading (Form-F.Binary o a b) = record { shape = Other; read = λ at s. binary_read at o a b s; arguments = λ s. [] }
form_reading (Form-F.Prefix o a) = record {
  shape = Other;
  read = λ at s. let x = a.read s in read_as at (term.Apply (prefix_operator o) (x.part ∷ [])) x.faults;
  arguments = λ s. [];
}

abbrev pub bind_reading : Bind-F Formed BindReading Reading → BindReading
bind_reading b = record { at = b.at; name = b.name.bytes; read = b.value.read }

abbrev pub expr_reading : Expr-F Formed BindReading Reading → Reading
expr_reading e = record { at = e.at; shape = e.form.shape; read = e.form.read e.at; arguments = e.form.arguments }

abbrev pub reading : Expr → Reading
reading = fold-Expr Formed BindReading Reading form_reading bind_reading expr_reading

abbrev pub reading_of_bind : Bind → BindReading
reading_of_bind = fold-Bind Formed BindReading Reading form_reading bind_reading expr_reading
