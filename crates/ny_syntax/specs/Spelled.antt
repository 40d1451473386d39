-- How tokens are written, and how lines of them make a text.
use Rattle.std.specs.Prelude.{◌≡◌, ℕ, ℤ, List, [], ◌∷◌, ◌++◌, codes}
use Rattle.std.specs.List.{slice_range, Contains}
use Rattle.ny_num.specs.Decimal.{decimal_text}
use Rattle.ny_syntax.specs.declared.token.Token.{Token}
use Rattle.ny_syntax.specs.declared.token.TokenKind.{TokenKind}
use Rattle.ny_syntax.specs.declared.token.TokenKind.TheVariants as kinds
use Rattle.ny_syntax.specs.declared.token.Mark.{Mark}
use Rattle.ny_syntax.specs.declared.token.Mark.TheVariants as marks
use Rattle.ny_syntax.specs.declared.token.Word.{Word}
use Rattle.ny_syntax.specs.declared.token.Word.TheVariants as words
use Rattle.ny_syntax.specs.declared.tree.Name.{Name}
use Rattle.ny_syntax.specs.Grammar.{name_of}

-- a token as it stands in a text: what it is, and its bytes
pub record Lexeme : Type 0 where
  pub kind : TokenKind
  pub bytes : List ℕ

abbrev pub mark_text : Mark → List ℕ
mark_text marks.Open = codes "("
mark_text marks.Close = codes ")"
mark_text marks.Comma = codes ","
mark_text marks.Plus = codes "+"
mark_text marks.Minus = codes "-"
mark_text marks.Times = codes "*"
mark_text marks.Over = codes "/"
mark_text marks.At = codes "@"
mark_text marks.Tilde = codes "~"
mark_text marks.Equal = codes "="
mark_text marks.NotEqual = codes "!="
mark_text marks.Less = codes "<"
mark_text marks.Greater = codes ">"
mark_text marks.LessEqual = codes "<="
mark_text marks.GreaterEqual = codes ">="
mark_text marks.And = codes "&"
mark_text marks.Or = codes "|"
mark_text marks.Not = codes "!"

abbrev pub word_text : Word → List ℕ
word_text words.Define = codes "define"
word_text words.Function = codes "function"
word_text words.Variable = codes "variable"
word_text words.Begin = codes "begin"
word_text words.With = codes "with"
word_text words.End = codes "end"
word_text words.Return = codes "return"
word_text words.Play = codes "play"

abbrev pub lexeme : TokenKind → List ℕ → Lexeme
lexeme kind bytes = record { kind = kind; bytes = bytes }

abbrev pub sign : Mark → Lexeme
sign mark = lexeme (kinds.Sign mark) (mark_text mark)

abbrev pub reserved : Word → Lexeme
reserved word = lexeme (kinds.Reserved word) (word_text word)

abbrev pub hash_if : Lexeme
hash_if = lexeme kinds.If (codes "#if")

abbrev pub number : ℤ → Lexeme
number value = lexeme (kinds.Number value) (decimal_text value)

abbrev pub name : Name → Lexeme
name named = lexeme kinds.Name named.bytes

-- what a token is in its text
abbrev pub lexeme_of : List ℕ → Token → Lexeme
lexeme_of text token = lexeme token.kind (slice_range text token.from token.to)

-- How a token of a canonical text is spelled where the tree is that of these tokens: a sign and a reserved word in one way, a
-- number of theirs by its shortest text, and a name of theirs in lower case.
abbrev pub IsSpelledBy : List ℕ → List Token → TokenKind → List ℕ → Type 0
IsSpelledBy text tokens kinds.Name bytes = (t : Token) × Contains tokens t × (t.kind ≡ kinds.Name) × (bytes ≡ (name_of text t).bytes)
IsSpelledBy text tokens (kinds.Number value) bytes = (t : Token) × Contains tokens t × (t.kind ≡ kinds.Number value) × (bytes ≡ decimal_text value)
IsSpelledBy text tokens (kinds.Reserved word) bytes = bytes ≡ word_text word
IsSpelledBy text tokens (kinds.Sign mark) bytes = bytes ≡ mark_text mark
IsSpelledBy text tokens kinds.If bytes = bytes ≡ codes "#if"

abbrev pub IsSpelled : List ℕ → List Token → Lexeme → Type 0
IsSpelled text tokens word = IsSpelledBy text tokens word.kind word.bytes

-- each after one space
abbrev pub spaced : List Lexeme → List ℕ
spaced [] = []
spaced (word ∷ words) = 32 ∷ word.bytes ++ spaced words

-- bytes, and then each token after one space
abbrev pub onto : List ℕ → List Lexeme → List ℕ
onto out [] = out
onto out (word ∷ words) = onto (out ++ 32 ∷ word.bytes) words

-- a line: one space between two tokens, and a line feed at the end
abbrev pub line_text : List Lexeme → List ℕ
line_text [] = 10 ∷ []
line_text (word ∷ words) = word.bytes ++ (spaced words ++ 10 ∷ [])

abbrev pub lines_text : List (List Lexeme) → List ℕ
lines_text [] = []
lines_text (line ∷ lines) = line_text line ++ lines_text lines
