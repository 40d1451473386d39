-- Which faults occur in a text. The fault that is told of it is one that occurs, and none occurs that comes before it.
use Rattle.std.specs.Prelude.{◌≡◌, ◌<◌, ℕ, Bool, true, false, Contains, ◌⊎◌, Option, Some, None}
use Rattle.ny_syntax.specs.declared.tree.Tree.{Tree}
use Rattle.ny_resolve.specs.declared.fault.Fault.{Fault}
use Rattle.ny_resolve.specs.declared.fault.CheckWhy.{CheckWhy}
use Rattle.ny_resolve.specs.declared.fault.CheckWhy.TheVariants as why
use Rattle.ny_resolve.specs.Faults.{comes_before}
use Rattle.ny_resolve.specs.Declarations.{tree_read}
use Rattle.ny_kinds.specs.Refusals.{refusals}
use Rattle.ny_measures.specs.Depth.{text_depth}
use Rattle.ny_measures.specs.Weight.{text_weight}
use Rattle.ny_check.specs.Acceptance.{greatest_depth, greatest_weight}

-- one of those that the text shows before any kind is known: of its names, of its literals and of the numbers of its arguments
abbrev pub IsRead : Tree → Fault → Type 0
IsRead tree f = Contains (tree_read tree).faults f

-- kinds are refused at its place, in a global value, in what is played, or in a body that these reach
abbrev pub IsRefused : Tree → Fault → Type 0
IsRefused tree f = (f.why ≡ why.Kind) × Contains (refusals (tree_read tree).declared (tree_read tree).play) f.at

-- the text is too deep, or too heavy, which is told at `play`
abbrev pub IsTooDeep : Tree → Fault → Type 0
IsTooDeep tree f = (f ≡ record { at = tree.play_at; why = why.TooDeep }) × (greatest_depth < text_depth (tree_read tree).declared (tree_read tree).play)

abbrev pub IsTooHeavy : Tree → Fault → Type 0
IsTooHeavy tree f = (f ≡ record { at = tree.play_at; why = why.TooHeavy }) × (greatest_weight < text_weight (tree_read tree).declared (tree_read tree).play)

-- a fault occurs in a text
abbrev pub Occurs : Tree → Fault → Type 0
Occurs tree f = IsRead tree f ⊎ (IsRefused tree f ⊎ (IsTooDeep tree f ⊎ IsTooHeavy tree f))

-- it occurs, and none occurs of an earlier kind, nor of its kind at a lesser place
pub record IsFirst (tree : Tree) (f : Fault) : Type 0 where
  pub occurs : Occurs tree f
  pub first : (g : Fault) → Occurs tree g → comes_before g f ≡ false
