-- Which local names a part uses from outside, and that these and no other names are kept of it.
use Rattle.std.specs.Prelude.{◌≡◌, ◌<◌, ℕ, true, false, List, [], ◌∷◌, length, Some, None}
use Rattle.std.specs.List.{list_any}
use Rattle.ny_syntax.specs.declared.tree.Tree.{Tree}
use Rattle.ny_resolve.specs.declared.term.NameId.{NameId}
use Rattle.ny_resolve.specs.declared.term.Term.TheVariants as term
use Rattle.ny_resolve.specs.declared.term.Part.{Part}
use Rattle.ny_resolve.specs.declared.term.Declared.{Declared}
use Rattle.ny_resolve.specs.Declarations.{tree_read}
use Rattle.ny_resolve.specs.Keys.{same_name}
use Rattle.ny_resolve.specs.declared.builtin.Order.TheVariants.{InTurn}
use Rattle.ny_check.specs.declared.node.Node.TheVariants as node
use Rattle.ny_check.specs.declared.node.ExprId.{ExprId}
use Rattle.ny_check.specs.Code.{Code, node_at}
use Rattle.ny_check.specs.FreeNames.{HasFree}
use Rattle.ny_check.specs.KeptNames.{kept_of}
use Rattle.ny_check.specs.Acceptance.{fault_of}
use Rattle.ny_laws.specs.TextParts.{IsPartOf, IsInText}
use Rattle.ny_laws.specs.Standing.{Stands}

-- A name is used in a part from outside: the part is this name, or the name is used in a part of it that sees no name of the part's own by
-- which it is hidden.
pub data IsUsedIn (x : NameId) : Part → Type 0 where
  itself : (p : Part) (y : NameId) → p.term ≡ term.Local y → same_name x y ≡ true → IsUsedIn x p
  within : (p q : Part) (ys : List NameId) → IsPartOf [] p ys q → list_any (same_name x) ys ≡ false → IsUsedIn x q → IsUsedIn x p

-- no name twice
abbrev pub IsOnce : List NameId → Type 0
IsOnce [] = Unit {0}
IsOnce (x ∷ xs) = (list_any (same_name x) xs ≡ false) × IsOnce xs

-- A node stands for a part of the text, and only names that the part uses from outside are kept of it, each once.
pub record KeepsUsed (ds : List Declared) (play : Part) (code : Code) (id : ℕ) : Type 0 where
  pub here : ℕ
  pub seen : List NameId
  pub part : Part
  pub is_in : IsInText ds play here seen part
  pub stands : Stands code here (kept_of code id) part id
  pub used : (x : NameId) → list_any (same_name x) (kept_of code id) ≡ true → IsUsedIn x part
  pub once : IsOnce (kept_of code id)

-- of each node of a program, which is that of a text without a fault
pub record KeepsOnlyUsed (code : Code) : Type 0 where
  pub tree : Tree
  pub play : Part
  pub accepted : fault_of tree ≡ None
  pub plays : (tree_read tree).play ≡ Some play
  pub each : (id : ℕ) → id < length code.nodes → KeepsUsed (tree_read tree).declared play code id

-- all free names of these nodes are kept
abbrev pub HaveFree : Code → List ExprId → Type 0
HaveFree code [] = Unit {0}
HaveFree code (e ∷ es) = HasFree code e.0 (kept_of code e.0) × HaveFree code es

-- so of the parts of each sequence, and of the part of each repeat in turn
pub record PartsHaveFree (code : Code) : Type 0 where
  pub sequences : (e : ℕ) (es : List ExprId) → node_at code e ≡ node.Mix InTurn es → HaveFree code es
  pub repeats : (e : ℕ) (x : NameId) (n : ℕ) (part : ExprId) → node_at code e ≡ node.Repeat InTurn x n part → HasFree code part.0 (kept_of code part.0)
