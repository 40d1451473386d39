-- Which texts are accepted, with which program, and which fault the others have.
use Rattle.std.specs.Prelude.{◌≡◌, ℕ, nat_lt, Option, Some, None, List, [], ◌++◌}
use Rattle.ny_syntax.specs.declared.tree.Tree.{Tree}
use Rattle.ny_resolve.specs.declared.fault.Fault.{Fault}
use Rattle.ny_resolve.specs.declared.fault.CheckWhy.TheVariants as why
use Rattle.ny_resolve.specs.declared.term.Part.{Part}
use Rattle.ny_resolve.specs.declared.term.Declared.{Declared}
use Rattle.ny_resolve.specs.Faults.{earliest, one_fault, fault_if}
use Rattle.ny_resolve.specs.Declarations.{ReadWhole, tree_read}
use Rattle.ny_kinds.specs.Whole.{text_kind, channels_in}
use Rattle.ny_measures.specs.Depth.{text_depth}
use Rattle.ny_measures.specs.Weight.{text_weight}
use Rattle.ny_check.specs.declared.accept.CheckFault.{CheckFault}
use Rattle.ny_check.specs.declared.accept.CheckFault.TheVariants as answer
use Rattle.ny_check.specs.Code.{Code}
use Rattle.ny_check.specs.Writing.{program_of}

abbrev pub greatest_depth : ℕ
greatest_depth = 256

abbrev pub greatest_weight : ℕ
greatest_weight = 1000000

-- an operator refuses its operands' kinds, at this least place
abbrev pub kind_faults : Option ℕ → List Fault
kind_faults None = []
kind_faults (Some at) = one_fault why.Kind at

-- The faults that show when names are known: the refusal at the least place, if there is one; and a text that is too deep or too
-- heavy, at `play`.
abbrev pub judged_faults : List Declared → Option Part → ℕ → List Fault
judged_faults ds play play_at =
    kind_faults (text_kind ds play).fault ++
    (fault_if (nat_lt greatest_depth (text_depth ds play)) why.TooDeep play_at ++
    fault_if (nat_lt greatest_weight (text_weight ds play)) why.TooHeavy play_at)

-- all faults of a text: of its reading, and of its kinds, depth and weight
abbrev pub faults_in : ReadWhole → ℕ → List Fault
faults_in t play_at = t.faults ++ judged_faults t.declared t.play play_at

-- the first fault of a text, by the order of kinds and of one kind by its place; a text is accepted where it has none
unfoldable pub fault_of : Tree → Option Fault
fault_of tree = earliest (faults_in (tree_read tree) tree.play_at)

abbrev pub program_with : List Declared → Option Part → ℕ → Option Code
program_with ds None channels = None
program_with ds (Some play) channels = Some (program_of ds play channels)

-- the program of a text that plays something
unfoldable pub program_in : Tree → Option Code
program_in tree = let t = tree_read tree in program_with t.declared t.play (channels_in (text_kind t.declared t.play).kind)

-- an answer without a program names the first fault; or memory was wanted
abbrev pub IsRefusal : Option Fault → CheckFault → Type 0
IsRefusal fault (answer.Bad at why) = fault ≡ Some (record { at = at; why = why })
IsRefusal fault answer.OutOfMemory = Unit {0}

-- the same, or nothing is played and there is no other fault
abbrev pub IsRefusalOr : ℕ → Option Part → Option Fault → CheckFault → Type 0
IsRefusalOr end None None (answer.Bad at why) = Unit {0}
IsRefusalOr end (Some play) None (answer.Bad at why) = ⊥
IsRefusalOr end play (Some f) (answer.Bad at why) = f ≡ record { at = at; why = why }
IsRefusalOr end play fault answer.OutOfMemory = Unit {0}
