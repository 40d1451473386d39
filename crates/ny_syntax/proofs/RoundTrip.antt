-- The laws of the canonical text of a tree that some text has.
use Rattle.std.proofs.Common.{◌≡◌, ℕ, ◌≤◌, List, map, refl, ap, ◌∙◌, subst, Option, arith}
use Rattle.ny_syntax.specs.declared.token.Token.{Token}
use Rattle.ny_syntax.specs.declared.tree.Expr.{Expr}
use Rattle.ny_syntax.specs.declared.tree.Decl.{Decl}
use Rattle.ny_syntax.specs.declared.tree.Tree.{Tree}
use Rattle.ny_syntax.specs.Grammar.{Program, program, IsProgram, program_tokens, program_height, program_of, declarations_of, played_of, declarations_height, play_height, height_limit, HasTree}
use Rattle.ny_syntax.specs.Spelled.{lexeme_of, lines_text}
use Rattle.ny_syntax.specs.Canonical.{line_tokens, canonical_text, canonical_lexemes, canonical_height, opens, opens_written, written_heights, played_height}
use Rattle.ny_syntax.specs.SameTree.{unplaced_declaration, unplaced_play, without_places, HasTreeElsewhere}
use Rattle.ny_syntax.proofs.Tokens.{Are}
use Rattle.ny_syntax.proofs.AgainPrograms.{IsProgramAgain, program-again}
use Rattle.ny_syntax.proofs.Unplaced.{canonical_lines-same}
use Rattle.ny_syntax.proofs.FewestPrograms.{program-fewest}

no_higher : (text : List ℕ) (p : Program) → IsProgram p → canonical_height (program_of text p) ≤ program_height p
no_higher text (program ds play) (are, is) = (program-fewest text ds play are is).low

no_more_brackets : (text : List ℕ) (p : Program) → IsProgram p → opens_written (canonical_lexemes (program_of text p)) ≤ opens (program_tokens p)
no_more_brackets text (program ds play) (are, is) = (program-fewest text ds play are is).few

abbrev placeless : List Decl → Option Expr → Tree
placeless ds played = record { decls = ds; play = played; play_at = 0; end = 0 }

again : (old text : List ℕ) (p : Program) → IsProgram p → program_height p ≤ height_limit → (ts : List Token) → Are text ts (canonical_lexemes (program_of old p))
    → HasTreeElsewhere text ts (program_of old p)
again old text (program ds play) (are, is) low ts spelled =
    let q : IsProgramAgain text (declarations_of old ds) (played_of old play) ts = program-again old text ds play are is ts spelled in
    let made : Program = program q.listed q.play in
    let high : declarations_height q.listed ≡ written_heights (declarations_of old ds) = q.high in
    let play_high : play_height q.play ≡ played_height (played_of old play) = q.play_high in (
      program_of text made,
      (made, (q.are, q.is_play), omega (arith, high, play_high, no_higher old (program ds play) (are, is), low), q.tokens_are, refl),
      ap (λ z. placeless z (unplaced_play (played_of text q.play))) q.same ∙ ap (λ z. placeless (map unplaced_declaration (declarations_of old ds)) z) q.same_play,
    )

-- its height is within that of a text
pub canonical_height-limit : (text : List ℕ) (ts : List Token) (tree : Tree) → HasTree text ts tree → canonical_height tree ≤ height_limit
canonical_height-limit text ts tree (p, is, low, these, same) =
    subst (λ z. canonical_height z ≤ height_limit) same (omega (arith, no_higher text p is, low))

-- tokens that stand in any text as its canonical tokens have this tree there, but for places
pub canonical-has_tree : (text : List ℕ) (ts : List Token) (tree : Tree) → HasTree text ts tree
    → (other : List ℕ) (others : List Token) → map (lexeme_of other) others ≡ canonical_lexemes tree → HasTreeElsewhere other others tree
canonical-has_tree text ts tree (p, is, low, these, same) other others =
    subst (λ z. map (lexeme_of other) others ≡ canonical_lexemes z → HasTreeElsewhere other others z) same (again text other p is low others)

-- trees that are the same but for places have the same canonical text
pub canonical_text-same : (text : List ℕ) (ts : List Token) (tree : Tree) → HasTree text ts tree
    → (other : List ℕ) (others : List Token) (same : Tree) → HasTree other others same → without_places same ≡ without_places tree → canonical_text same ≡ canonical_text tree
unfolding canonical_text
canonical_text-same text ts tree has other others same has_same is = ap lines_text (canonical_lines-same text other ts others tree same has has_same is)

fewest_brackets : (text : List ℕ) (ts : List Token) (tree : Tree) → HasTree text ts tree → opens_written (canonical_lexemes tree) ≤ opens ts
fewest_brackets text ts tree (p, is, low, these, same) =
    subst (λ z. opens_written (canonical_lexemes tree) ≤ opens z) these (subst (λ z. opens_written (canonical_lexemes z) ≤ opens (program_tokens p)) same (no_more_brackets text p is))

-- tokens of this tree, in any text, have at least as many opening brackets
pub canonical-fewest : (text : List ℕ) (ts : List Token) (tree : Tree) → HasTree text ts tree
    → (other : List ℕ) (others : List Token) → HasTreeElsewhere other others tree → opens_written (canonical_lexemes tree) ≤ opens others
canonical-fewest text ts tree has other others (same, has_same, is) =
    subst (λ z. opens_written (line_tokens z) ≤ opens others) (canonical_lines-same text other ts others tree same has has_same is) (fewest_brackets other others same has_same)
