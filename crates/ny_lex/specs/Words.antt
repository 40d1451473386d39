-- The first token of a text that begins with no gap: what it is, and what follows it.
use Rattle.std.specs.Prelude.{◌≡◌, ℕ, ℤ, List, [], ◌∷◌, drop, codes, bytes_eq, Bool, false, ◌&&◌, ◌||◌, ◌==◌, if◌then◌else◌, Option, Some, None, Result, Ok, Err}
use Rattle.std.specs.Char.{is_ascii_digit}
use Rattle.ny_num.specs.Decimal.{decimal_of}
use Rattle.ny_num.specs.declared.decimal.NumFault.{NumFault}
use Rattle.ny_num.specs.declared.decimal.NumFault.TheVariants as num_faults
use Rattle.ny_syntax.specs.declared.token.TokenKind.{TokenKind}
use Rattle.ny_syntax.specs.declared.token.TokenKind.TheVariants.{Name, Number, Reserved, Sign, If}
use Rattle.ny_syntax.specs.declared.token.Mark.{Mark}
use Rattle.ny_syntax.specs.declared.token.Mark.TheVariants as marks
use Rattle.ny_syntax.specs.declared.token.Word.{Word}
use Rattle.ny_syntax.specs.declared.token.Word.TheVariants as words
use Rattle.ny_lex.specs.declared.fault.LexWhy.{LexWhy}
use Rattle.ny_lex.specs.declared.fault.LexWhy.TheVariants.{BadByte, BadHash, NotDecimal, TooManyPlaces, TooLarge}
use Rattle.ny_lex.specs.Bytes.{is_name_start, is_name_byte, is_number_byte, folded, run, after_run}

-- what is read at the front of a text, and what follows it; or why nothing is
abbrev pub Read : Type 0
Read = Result (TokenKind × List ℕ) LexWhy

-- the reserved word that is spelled so
abbrev pub reserved_of : List ℕ → Option Word
reserved_of name =
    if bytes_eq name (codes "define") then Some words.Define
    else (if bytes_eq name (codes "function") then Some words.Function
    else (if bytes_eq name (codes "variable") then Some words.Variable
    else (if bytes_eq name (codes "begin") then Some words.Begin
    else (if bytes_eq name (codes "with") then Some words.With
    else (if bytes_eq name (codes "end") then Some words.End
    else (if bytes_eq name (codes "return") then Some words.Return
    else (if bytes_eq name (codes "play") then Some words.Play else None)))))))

-- a reserved word, or else a name
abbrev pub named : Option Word → TokenKind
named (Some word) = Reserved word
named None = Name

-- a name goes on as far as it can; in lower case it may be a reserved word
unfoldable pub name_at : List ℕ → Read
name_at text = Ok (named (reserved_of (folded (run is_name_byte text))), after_run is_name_byte text)

-- it begins with a digit, or with a point that a digit follows
unfoldable pub begins_number : List ℕ → Bool
begins_number [] = false
begins_number (byte ∷ []) = is_ascii_digit byte
begins_number (byte ∷ next ∷ text) = is_ascii_digit byte || ((byte == 46) && is_ascii_digit next)

-- the fault of a number, as a cause here
abbrev pub why_of : NumFault → LexWhy
why_of num_faults.NotDecimal = NotDecimal
why_of num_faults.TooManyPlaces = TooManyPlaces
why_of num_faults.TooLarge = TooLarge

abbrev pub number_word : Result ℤ NumFault → List ℕ → Read
number_word (Ok value) after = Ok (Number value, after)
number_word (Err fault) after = Err (why_of fault)

-- a number is the longest run of letters, digits, `_` and points, which must be a decimal
unfoldable pub number_at : List ℕ → Read
number_at text = number_word (decimal_of (run is_number_byte text)) (after_run is_number_byte text)

-- what follows a `#` must be `if`, in any case, as far as a name goes
unfoldable pub if_at : List ℕ → Read
if_at text = if bytes_eq (folded (run is_name_byte text)) (codes "if") then Ok (If, after_run is_name_byte text) else Err BadHash

-- the sign of one byte
abbrev pub mark_of : ℕ → Option Mark
mark_of byte =
    if byte == 40 then Some marks.Open
    else (if byte == 41 then Some marks.Close
    else (if byte == 44 then Some marks.Comma
    else (if byte == 43 then Some marks.Plus
    else (if byte == 45 then Some marks.Minus
    else (if byte == 42 then Some marks.Times
    else (if byte == 47 then Some marks.Over
    else (if byte == 64 then Some marks.At
    else (if byte == 126 then Some marks.Tilde
    else (if byte == 61 then Some marks.Equal
    else (if byte == 60 then Some marks.Less
    else (if byte == 62 then Some marks.Greater
    else (if byte == 38 then Some marks.And
    else (if byte == 124 then Some marks.Or
    else (if byte == 33 then Some marks.Not else None))))))))))))))

-- the sign of a byte and the `=` after it
abbrev pub mark_before_equal : ℕ → Option Mark
mark_before_equal byte =
    if byte == 33 then Some marks.NotEqual
    else (if byte == 60 then Some marks.LessEqual
    else (if byte == 62 then Some marks.GreaterEqual else None))

-- the sign of two bytes, if there is one
abbrev pub long_mark : ℕ → List ℕ → Option Mark
long_mark byte [] = None
long_mark byte (next ∷ text) = if next == 61 then mark_before_equal byte else None

abbrev pub sign_or : Option Mark → List ℕ → Read → Read
sign_or (Some mark) after else_read = Ok (Sign mark, after)
sign_or None after else_read = else_read

-- the longest sign: of two bytes, else of one; any other byte begins no token
unfoldable pub sign_at : ℕ → List ℕ → Read
sign_at byte text = sign_or (long_mark byte text) (drop 1 text) (sign_or (mark_of byte) text (Err BadByte))

-- the first token and what follows it; by its first byte, and for a number that begins with a point by the second
unfoldable pub word_at : List ℕ → Read
word_at [] = Err BadByte
word_at (byte ∷ text) =
    if is_name_start byte then name_at (byte ∷ text)
    else (if begins_number (byte ∷ text) then number_at (byte ∷ text)
    else (if byte == 35 then if_at text else sign_at byte text))

-- what a function gives that reads a token and answers what follows as a slice
abbrev pub GivesWord : {S : Type 0} → (S → List ℕ) → Result (TokenKind × S) LexWhy → Read → Type 0
GivesWord seen (Ok read) word = word ≡ Ok (read.0, seen read.1)
GivesWord seen (Err why) word = word ≡ Err why
