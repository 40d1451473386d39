-- Which tokens can begin an accepted text, and where the others stop doing so.
use Rattle.std.specs.Prelude.{◌≡◌, ℕ, length, List, [], ◌∷◌, ◌++◌}
use Rattle.ny_syntax.specs.declared.token.Token.{Token}
use Rattle.ny_syntax.specs.declared.tree.Tree.{Tree}
use Rattle.ny_syntax.specs.Grammar.{HasTree}
use Rattle.ny_parse.specs.declared.fault.ParseFault.{ParseFault}
use Rattle.ny_parse.specs.declared.fault.ParseFault.TheVariants as faults

-- the place of the first of these tokens, or the text's length where there is none
abbrev pub place_of : List ℕ → List Token → ℕ
place_of text [] = length text
place_of text (t ∷ ts) = t.from

-- some tokens that begin so have a tree
abbrev pub IsViable : List ℕ → List Token → Type 0
IsViable text before = (more : List Token) × (tree : Tree) × HasTree text (before ++ more) tree

-- the next token, or the end where there is none, can't follow these tokens
abbrev pub CanNotFollow : List ℕ → List Token → List Token → Type 0
CanNotFollow text before [] = (tree : Tree) → HasTree text before tree → ⊥
CanNotFollow text before (t ∷ ts) = IsViable text (before ++ t ∷ []) → ⊥

-- the place of the first token that ends no viable prefix, or the text's length where all the tokens are one
abbrev pub StopsAt : List ℕ → List Token → ℕ → Type 0
StopsAt text ts at =
    (before : List Token) × (rest : List Token) × (ts ≡ before ++ rest) × IsViable text before × CanNotFollow text before rest × (at ≡ place_of text rest)

-- the tokens have no tree, unless memory ran out
abbrev pub HasNone : List ℕ → List Token → ParseFault → Type 0
HasNone text ts faults.OutOfMemory = Unit {0}
HasNone text ts (faults.At at) = (tree : Tree) → HasTree text ts tree → ⊥

-- the fault's place is where they stop, unless memory ran out
abbrev pub IsPlace : List ℕ → List Token → ParseFault → Type 0
IsPlace text ts faults.OutOfMemory = Unit {0}
IsPlace text ts (faults.At at) = StopsAt text ts at
