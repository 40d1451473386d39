-- Tokens have one tree at most, and so the canonical text of a tree has no other.
use Rattle.std.proofs.Common.{◌≡◌, ℕ, List, sym, ap, ◌∙◌}
use Rattle.ny_syntax.specs.declared.token.Token.{Token}
use Rattle.ny_syntax.specs.declared.tree.Tree.{Tree}
use Rattle.ny_syntax.specs.Grammar.{HasTree}
use Rattle.ny_syntax.specs.Canonical.{canonical_text}
use Rattle.ny_syntax.specs.SameTree.{without_places, HasTreeElsewhere}
use Rattle.ny_lex.specs.Spelling.{HasTokens}
use Rattle.ny_parse.proofs.Programs.{accepted}
use Rattle.ny_parse.proofs.Whole.{same_made}

pub one_tree : (text : List ℕ) (tokens : List Token) (tree other : Tree) → HasTree text tokens tree → HasTree text tokens other → other ≡ tree
one_tree text tokens tree other has has_other = same_made tree other (sym (accepted text tokens other has_other) ∙ accepted text tokens tree has)

-- what is known of the tokens of a canonical text
abbrev pub CanonicalTrees : Type 0
CanonicalTrees = (text : List ℕ) (tokens : List Token) (tree : Tree) → HasTokens text tokens → HasTree text tokens tree
    → (others : List Token) → HasTokens (canonical_text tree) others → HasTreeElsewhere (canonical_text tree) others tree

pub canonical-only : CanonicalTrees → (text : List ℕ) (tokens : List Token) (tree : Tree) → HasTokens text tokens → HasTree text tokens tree
    → (others : List Token) → HasTokens (canonical_text tree) others → (found : Tree) → HasTree (canonical_text tree) others found → without_places found ≡ without_places tree
canonical-only trees text tokens tree has_tokens has_tree others has_others found has_found =
    let q = trees text tokens tree has_tokens has_tree others has_others in
    ap without_places (one_tree (canonical_text tree) others q.0 found q.1 has_found) ∙ q.2
