-- The values of numbers and tests.
use Rattle.std.specs.Prelude.{ℕ, List, [], ◌∷◌, ◌++◌, map, zip, Bool, false, if◌then◌else◌, ℤ, pos, int_lt, not, ◌&&◌, ◌||◌}
use Rattle.std.specs.Option.{unwrap_or}
use Rattle.ny_scope.specs.Scopes.{last_of}
use Rattle.ny_resolve.specs.Keys.{same_name}
use Rattle.ny_num.specs.Numbers.{fix_div, fix_neg}
use Rattle.ny_resolve.specs.declared.term.NameId.{NameId}
use Rattle.ny_resolve.specs.declared.builtin.Relation.{Relation}
use Rattle.ny_resolve.specs.declared.builtin.Relation.TheVariants.{Eq, Ne, Lt, Gt, Le, Ge}
use Rattle.ny_check.specs.declared.node.Node.{Node}
use Rattle.ny_check.specs.declared.node.Node.TheVariants as node
use Rattle.ny_check.specs.declared.node.ExprId.{ExprId}
use Rattle.ny_check.specs.declared.value.Scalar.{Scalar}
use Rattle.ny_check.specs.declared.value.Scalar.TheVariants.{Number, Test, Sound}
use Rattle.ny_check.specs.declared.value.Value.{Value}
use Rattle.ny_check.specs.declared.value.Value.TheVariants as value
use Rattle.ny_check.specs.Code.{Code, node_at, function_at}
use Rattle.ny_check.specs.Recursion.{by_smaller}
use Rattle.ny_check.specs.Families.{fix_operation}

-- what names stand for, the nearest last; a sound is not looked at
abbrev pub Scalars : Type 0
Scalars = List (NameId × Scalar)

-- what a name is: what its last pair says; a name without one is not looked at
abbrev pub scalar_named : NameId → Scalars → Scalar
scalar_named x names = unwrap_or (last_of (same_name x) names) Sound

abbrev pub scalar_in : {S : Type 0} → Value S → Scalar
scalar_in (value.Number v) = Number v
scalar_in (value.Sound s) = Sound

abbrev pub scalars_of : {S : Type 0} → List (NameId × Value S) → Scalars
scalars_of [] = []
scalars_of (b ∷ bs) = (b.0, scalar_in b.1) ∷ scalars_of bs

-- an operation on two numbers; with a sound it is a sound
abbrev pub of_numbers : (ℤ → ℤ → ℤ) → Scalar → Scalar → Scalar
of_numbers f (Number a) (Number b) = Number (f a b)
of_numbers f _ _ = Sound

abbrev pub of_number : (ℤ → ℤ) → Scalar → Scalar
of_number f (Number a) = Number (f a)
of_number f _ = Sound

-- comparisons compare millionths
abbrev pub holds_between : Relation → ℤ → ℤ → Bool
holds_between Eq a b = not (int_lt a b) && not (int_lt b a)
holds_between Ne a b = int_lt a b || int_lt b a
holds_between Lt a b = int_lt a b
holds_between Gt a b = int_lt b a
holds_between Le a b = not (int_lt b a)
holds_between Ge a b = not (int_lt a b)

abbrev pub compared : Relation → Scalar → Scalar → Scalar
compared r (Number a) (Number b) = Test (holds_between r a b)
compared r _ _ = Sound

abbrev pub of_tests : (Bool → Bool → Bool) → Scalar → Scalar → Scalar
of_tests f (Test a) (Test b) = Test (f a b)
of_tests f _ _ = Sound

abbrev pub denied : Scalar → Scalar
denied (Test a) = Test (not a)
denied _ = Sound

abbrev pub both : Bool → Bool → Bool
both a b = a && b

abbrev pub either : Bool → Bool → Bool
either a b = a || b

abbrev pub is_true : Scalar → Bool
is_true (Test b) = b
is_true _ = false

abbrev pub number_in : Scalar → ℤ
number_in (Number v) = v
number_in _ = pos 0

-- what a name can stand for: a number, and whatever else is not looked at
abbrev pub passed : Scalar → Scalar
passed (Number v) = Number v
passed _ = Sound

-- an argument of a call
abbrev pub argument : (ℕ → Scalars → Scalar) → Scalars → ExprId → Scalar
argument rec names e = passed (rec e.0 names)

-- each bind of a block sees those before it
abbrev pub scalars_after : (ℕ → Scalars → Scalar) → List (NameId × ExprId) → Scalars → Scalars
scalars_after rec [] names = names
scalars_after rec (b ∷ bs) names = scalars_after rec bs (names ++ (b.0, passed (rec b.1.0 names)) ∷ [])

-- What a node is, of what the nodes before it are. Arguments and binds come first; `#if` has the value of the chosen part; a
-- function's body sees its parameters alone, and a global variable's value sees no local name.
abbrev pub scalar_node : Code → Node → (ℕ → Scalars → Scalar) → Scalars → Scalar
scalar_node code (node.Number v) rec names = Number v
scalar_node code (node.Local x) rec names = scalar_named x names
scalar_node code (node.Global e) rec names = rec e.0 []
scalar_node code (node.Call f es) rec names =
    rec (function_at code f.0).body.0 (zip (function_at code f.0).params (map (argument rec names) es))
scalar_node code (node.Block bs e) rec names = rec e.0 (scalars_after rec bs names)
scalar_node code (node.Pair op a b) rec names = of_numbers (fix_operation op) (rec a.0 names) (rec b.0 names)
scalar_node code (node.Div a v) rec names = of_number (λ x. fix_div x v) (rec a.0 names)
scalar_node code (node.Neg a) rec names = of_number fix_neg (rec a.0 names)
scalar_node code (node.Compare r a b) rec names = compared r (rec a.0 names) (rec b.0 names)
scalar_node code (node.And a b) rec names = of_tests both (rec a.0 names) (rec b.0 names)
scalar_node code (node.Or a b) rec names = of_tests either (rec a.0 names) (rec b.0 names)
scalar_node code (node.Not a) rec names = denied (rec a.0 names)
scalar_node code (node.If c a b) rec names = if is_true (rec c.0 names) then rec a.0 names else rec b.0 names
scalar_node code _ rec names = Sound

-- what an expression is under these: a number, a test, or a sound
unfoldable pub scalar_of : Code → ℕ → Scalars → Scalar
scalar_of code = by_smaller (λ names. Sound) (λ e rec. scalar_node code (node_at code e) rec)

-- the number that an expression is
unfoldable pub number_of : Code → ExprId → Scalars → ℤ
number_of code e names = number_in (scalar_of code e.0 names)

-- the test that an expression is
unfoldable pub test_of : Code → ExprId → Scalars → Bool
test_of code e names = is_true (scalar_of code e.0 names)
