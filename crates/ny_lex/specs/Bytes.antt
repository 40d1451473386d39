-- The bytes of a text by what they may stand in, and the runs and gaps that they make.
use Rattle.std.specs.Prelude.{ℕ, List, [], ◌∷◌, Bool, ◌||◌, ◌==◌, if◌then◌else◌}
use Rattle.std.specs.List.{slice_range}
use Rattle.std.specs.Char.{is_ascii_digit, is_ascii_alphabetic}
use Rattle.std.specs.Str.{str_to_ascii_lowercase}

-- a space, a tab, a carriage return or a line feed
abbrev pub is_blank : ℕ → Bool
is_blank byte = ((byte == 32) || (byte == 9)) || ((byte == 13) || (byte == 10))

-- a letter or `_`
abbrev pub is_name_start : ℕ → Bool
is_name_start byte = is_ascii_alphabetic byte || (byte == 95)

-- a letter, a digit, `_` or `-`
abbrev pub is_name_byte : ℕ → Bool
is_name_byte byte = (is_name_start byte || is_ascii_digit byte) || (byte == 45)

-- a letter, a digit, `_` or a point
abbrev pub is_number_byte : ℕ → Bool
is_number_byte byte = (is_name_start byte || is_ascii_digit byte) || (byte == 46)

-- the bytes in lower case
abbrev pub folded : List ℕ → List ℕ
folded bytes = str_to_ascii_lowercase bytes

-- the bytes of a text from one place up to another, in lower case: the name that a name token stands for
abbrev pub folded_part : List ℕ → ℕ → ℕ → List ℕ
folded_part text from to = folded (slice_range text from to)

-- the longest run of bytes that pass, from the front on
unfoldable pub run : (ℕ → Bool) → List ℕ → List ℕ
run passes [] = []
run passes (byte ∷ text) = if passes byte then byte ∷ run passes text else []

-- what follows that run
unfoldable pub after_run : (ℕ → Bool) → List ℕ → List ℕ
after_run passes [] = []
after_run passes (byte ∷ text) = if passes byte then after_run passes text else byte ∷ text

-- The gap before a token: blanks, and comments, each from a `;` up to the next line feed.
unfoldable mutual
  -- what follows blanks and comments
  pub after_gap : List ℕ → List ℕ
  after_gap [] = []
  after_gap (byte ∷ text) = if byte == 59 then after_comment text else (if is_blank byte then after_gap text else byte ∷ text)

  -- the same from inside a comment
  pub after_comment : List ℕ → List ℕ
  after_comment [] = []
  after_comment (byte ∷ text) = if byte == 10 then after_gap text else after_comment text
