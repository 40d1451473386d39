-- The canonical text of a tree of some text is read as its canonical tokens.
use Rattle.std.proofs.Common.{◌≡◌, ℕ, zero, suc, ◌≤◌, ◌<◌, List, [], ◌∷◌, length, map, get_or, Ok, sym, ap, ◌∙◌, subst, arith}
use Rattle.std.specs.Prelude.{ℤ, pos}
use Rattle.std.specs.List.{All, Contains, slice_range}
use Rattle.ny_num.specs.Decimal.{decimal_of, decimal_text, fix_most}
use Rattle.ny_syntax.specs.declared.token.Token.{Token}
use Rattle.ny_syntax.specs.declared.token.TokenKind.{TokenKind}
use Rattle.ny_syntax.specs.declared.token.TokenKind.TheVariants as kinds
use Rattle.ny_syntax.specs.declared.tree.Tree.{Tree}
use Rattle.ny_syntax.specs.Grammar.{HasTree}
use Rattle.ny_syntax.specs.Spelled.{lexeme_of, IsSpelledBy, IsSpelled}
use Rattle.ny_syntax.specs.Canonical.{canonical_text, canonical_lexemes, canonical_lines}
use Rattle.ny_syntax.specs.SameTree.{HasTreeElsewhere}
use Rattle.ny_lex.specs.Words.{word_at}
use Rattle.ny_lex.specs.Spelling.{HasTokens, AreReadAlone}
use Rattle.ny_lex.proofs.Slices.{has_tokens-alone}
use Rattle.ny_lex.proofs.Tokens.{spells-unique}
use Rattle.ny_lex.proofs.Spelled.{word_at-word_text, word_at-mark_text, word_at-if_bytes, word_at-number_written}
use Rattle.ny_lex.proofs.Written.{word_at-decimal}
use Rattle.ny_lex.proofs.Folded.{word_at-folded}
use Rattle.ny_lex.proofs.SpacedLines.{are_alone-of_all, HasLexemes, lines_text-read}

-- a number that is not below 0 is read back from its text
abbrev pub NumbersReadBack : Type 0
NumbersReadBack = (n : ℕ) → n ≤ fix_most → decimal_of (decimal_text (pos n)) ≡ Ok (pos n)

-- each token of a canonical text is spelled from the text of the tree
abbrev pub AreSpelled : Type 0
AreSpelled = (text : List ℕ) (tokens : List Token) (tree : Tree) → HasTree text tokens tree → All (IsSpelled text tokens) (canonical_lexemes tree)

-- the canonical tokens make the tree again
abbrev pub MakeAgain : Type 0
MakeAgain = (text : List ℕ) (tokens : List Token) (tree : Tree) → HasTree text tokens tree
    → (other : List ℕ) (others : List Token) → map (lexeme_of other) others ≡ canonical_lexemes tree → HasTreeElsewhere other others tree

abbrev IsTokenAlone : List ℕ → Token → Type 0
IsTokenAlone text t = word_at (slice_range text t.from t.to) ≡ Ok (t.kind, [])

alone-at : (text : List ℕ) (tokens : List Token) (k : ℕ) (d : Token) → AreReadAlone text tokens → k < length tokens → IsTokenAlone text (get_or tokens k d)
alone-at text [] k d alone within = absurd (omega arith)
alone-at text (t ∷ tokens) zero d (first, alone) within = first
alone-at text (t ∷ tokens) (suc k) d (first, alone) within = alone-at text tokens k d alone (omega arith)

alone-contains : (text : List ℕ) (tokens : List Token) (t : Token) → AreReadAlone text tokens → Contains tokens t → IsTokenAlone text t
alone-contains text tokens t alone (k, within, is) = subst (IsTokenAlone text) is (alone-at text tokens k t alone within)

-- as this token
alone-as : (text : List ℕ) (tokens : List Token) (t : Token) (kind : TokenKind) → AreReadAlone text tokens → Contains tokens t → t.kind ≡ kind
    → word_at (slice_range text t.from t.to) ≡ Ok (kind, [])
alone-as text tokens t kind alone contains is = subst (λ z. word_at (slice_range text t.from t.to) ≡ Ok (z, [])) is (alone-contains text tokens t alone contains)

number-alone : NumbersReadBack → (text : List ℕ) (value : ℤ) → word_at text ≡ Ok (kinds.Number value, []) → word_at (decimal_text value) ≡ Ok (kinds.Number value, [])
number-alone back text value read =
    let written = word_at-number_written text value [] read in
    subst (λ z. word_at (decimal_text z) ≡ Ok (kinds.Number z, [])) (sym written.1) (word_at-decimal (decimal_text (pos written.0)) (pos written.0) (back written.0 written.2))

spelled-alone : NumbersReadBack → (text : List ℕ) (tokens : List Token) → AreReadAlone text tokens → (kind : TokenKind) (bytes : List ℕ) → IsSpelledBy text tokens kind bytes
    → word_at bytes ≡ Ok (kind, [])
spelled-alone back text tokens alone (kinds.Name) bytes (t, contains, is_name, spelled) = ap word_at spelled ∙ word_at-folded (slice_range text t.from t.to) (alone-as text tokens t kinds.Name alone contains is_name)
spelled-alone back text tokens alone (kinds.Number value) bytes (t, contains, is_number, spelled) =
    ap word_at spelled ∙ number-alone back (slice_range text t.from t.to) value (alone-as text tokens t (kinds.Number value) alone contains is_number)
spelled-alone back text tokens alone (kinds.Reserved word) bytes spelled = ap word_at spelled ∙ word_at-word_text word
spelled-alone back text tokens alone (kinds.Sign mark) bytes spelled = ap word_at spelled ∙ word_at-mark_text mark
spelled-alone back text tokens alone (kinds.If) bytes spelled = ap word_at spelled ∙ word_at-if_bytes

-- the canonical text is read as its tokens
pub canonical-read : NumbersReadBack → AreSpelled → (text : List ℕ) (tokens : List Token) (tree : Tree) → HasTokens text tokens → HasTree text tokens tree
    → HasLexemes (canonical_text tree) (canonical_lexemes tree)
unfolding canonical_text
canonical-read back spelled text tokens tree has_tokens has_tree =
    lines_text-read (canonical_lines tree)
    (are_alone-of_all (canonical_lexemes tree)
    (λ k d within. spelled-alone back text tokens (has_tokens-alone text tokens has_tokens) (get_or (canonical_lexemes tree) k d).kind (get_or (canonical_lexemes tree) k d).bytes
    (spelled text tokens tree has_tree k d within)))

-- and as no others
pub canonical-only : NumbersReadBack → AreSpelled → (text : List ℕ) (tokens : List Token) (tree : Tree) → HasTokens text tokens → HasTree text tokens tree
    → (others : List Token) → HasTokens (canonical_text tree) others → map (lexeme_of (canonical_text tree)) others ≡ canonical_lexemes tree
canonical-only back spelled text tokens tree has_tokens has_tree others has_others =
    let q = canonical-read back spelled text tokens tree has_tokens has_tree in
    ap (λ z. map (lexeme_of (canonical_text tree)) z) (spells-unique (length (canonical_text tree)) (canonical_text tree) q.0 others q.1 has_others) ∙ q.2

pub canonical-tree : NumbersReadBack → AreSpelled → MakeAgain → (text : List ℕ) (tokens : List Token) (tree : Tree) → HasTokens text tokens → HasTree text tokens tree
    → (others : List Token) → HasTokens (canonical_text tree) others → HasTreeElsewhere (canonical_text tree) others tree
canonical-tree back spelled make text tokens tree has_tokens has_tree others has_others =
    make text tokens tree has_tree (canonical_text tree) others (canonical-only back spelled text tokens tree has_tokens has_tree others has_others)
