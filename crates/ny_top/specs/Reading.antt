-- How a text is read: as an accepted tree, or refused at a place.
use Rattle.std.specs.Prelude.{◌≡◌, ℕ, List, [], Some, None, codes}
use Rattle.ny_lex.specs.Spelling.{HasTokens, IsUnreadable}
use Rattle.ny_lex.specs.declared.fault.LexWhy.{LexWhy}
use Rattle.ny_lex.specs.declared.fault.LexWhy.TheVariants as whys
use Rattle.ny_syntax.specs.declared.token.Token.{Token}
use Rattle.ny_syntax.specs.declared.tree.Tree.{Tree}
use Rattle.ny_syntax.specs.Grammar.{HasTree}
use Rattle.ny_parse.specs.Prefix.{StopsAt}
use Rattle.ny_check.specs.Acceptance.{fault_of}
use Rattle.ny_resolve.specs.declared.fault.CheckWhy.{CheckWhy}
use Rattle.ny_resolve.specs.declared.fault.CheckWhy.TheVariants as causes
use Rattle.ny_report.specs.Lines.{refusal_line_of}
use Rattle.ny_top.specs.declared.reading.Refusal.{Refusal}
use Rattle.ny_top.specs.declared.reading.Refusal.TheVariants as refusals
use Rattle.ny_top.specs.declared.reading.TextFault.{TextFault}
use Rattle.ny_top.specs.declared.reading.TextFault.TheVariants as faults

-- the text's tokens have this tree
abbrev pub IsTreeOf : List ℕ → Tree → Type 0
IsTreeOf text tree = (tokens : List Token) × HasTokens text tokens × HasTree text tokens tree

-- the text has this tree, which has no fault
abbrev pub IsAccepted : List ℕ → Tree → Type 0
IsAccepted text tree = IsTreeOf text tree × (fault_of tree ≡ None)

-- The text is refused so: it has a place where no token can be read; its tokens have a place where none goes on; or its
-- tree has this first fault.
abbrev pub IsRefusal : List ℕ → Refusal → Type 0
IsRefusal text (refusals.Lex at why) = IsUnreadable text at why
IsRefusal text (refusals.Parse at) = (tokens : List Token) × HasTokens text tokens × StopsAt text tokens at
IsRefusal text (refusals.Check at why) = (tree : Tree) × IsTreeOf text tree × (fault_of tree ≡ Some (record { at = at; why = why }))

-- the name of a cause
abbrev pub why_name : LexWhy → List ℕ
why_name whys.BadByte = codes "BadByte"
why_name whys.BadHash = codes "BadHash"
why_name whys.NotDecimal = codes "NotDecimal"
why_name whys.TooManyPlaces = codes "TooManyPlaces"
why_name whys.TooLarge = codes "TooLarge"

-- the name of a fault
abbrev pub fault_name : CheckWhy → List ℕ
fault_name causes.UnknownName = codes "UnknownName"
fault_name causes.Redefined = codes "Redefined"
fault_name causes.NotYetDefined = codes "NotYetDefined"
fault_name causes.Arity = codes "Arity"
fault_name causes.Kind = codes "Kind"
fault_name causes.BadCount = codes "BadCount"
fault_name causes.BadMap = codes "BadMap"
fault_name causes.BadRate = codes "BadRate"
fault_name causes.ZeroDivisor = codes "ZeroDivisor"
fault_name causes.NoPlay = codes "NoPlay"
fault_name causes.TooManyChannels = codes "TooManyChannels"
fault_name causes.TooDeep = codes "TooDeep"
fault_name causes.TooHeavy = codes "TooHeavy"

-- the line of a refusal: the stage, the place and, where there are several, the cause
abbrev pub refusal_text : Refusal → List ℕ
refusal_text (refusals.Lex at why) = refusal_line_of (codes "lex") at (why_name why)
refusal_text (refusals.Parse at) = refusal_line_of (codes "parse") at []
refusal_text (refusals.Check at why) = refusal_line_of (codes "check") at (fault_name why)

-- the text is refused so; want of memory says nothing of the text
abbrev pub IsTextFault : List ℕ → TextFault → Type 0
IsTextFault text (faults.Refused refusal) = IsRefusal text refusal
IsTextFault text faults.OutOfMemory = Unit {0}
