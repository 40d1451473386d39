-- What is kept of the names of a part that is evaluated later.
use Rattle.std.specs.Prelude.{ℕ, ◌≡◌, List, [], ◌∷◌, get_or}
use Rattle.ny_resolve.specs.declared.term.NameId.{NameId}
use Rattle.ny_resolve.specs.declared.builtin.Order.TheVariants.{InTurn}
use Rattle.ny_check.specs.declared.node.Node.TheVariants as node
use Rattle.ny_check.specs.declared.node.ExprId.{ExprId}
use Rattle.ny_check.specs.Code.{Code, node_at}
use Rattle.ny_check.specs.FreeNames.{IsKeptBy}

-- the names that a program keeps of an expression
abbrev pub kept_of : Code → ℕ → List NameId
kept_of code e = get_or code.free e []

-- each means the same where nothing is kept but what these stand for
abbrev pub KeepFree : Code → List ExprId → Type 0
KeepFree code [] = Unit {0}
KeepFree code (e ∷ es) = IsKeptBy code e.0 (kept_of code e.0) × KeepFree code es

-- the same of the parts of each sequence
abbrev pub KeepsFree : Code → Type 0
KeepsFree code = (e : ℕ) (es : List ExprId) → node_at code e ≡ node.Mix InTurn es → KeepFree code es

-- and of the part of each repeat in turn, whose counter is one of its names
abbrev pub RepeatsKeepFree : Code → Type 0
RepeatsKeepFree code =
    (e : ℕ) (x : NameId) (n : ℕ) (part : ExprId) → node_at code e ≡ node.Repeat InTurn x n part → IsKeptBy code part.0 (kept_of code part.0)
