-- What the words of a command ask for.
use Rattle.std.specs.Prelude.{ℕ, List, [], ◌∷◌, length, Bool, ◌&&◌, nat_lt, nat_le, nat_eq, ◌==◌, Some, None, if◌then◌else◌, option_and_then, codes}
use Rattle.std.specs.declared.option.Option.{Option}
use Rattle.std.specs.List.{list_all}
use Rattle.std.specs.Char.{is_ascii_digit}
use Rattle.std.specs.Cmp.Lexicographic.{pointwise}
use Rattle.ny_num.specs.Decimal.{number_of}
use Rattle.ny_num.specs.Grid.{hz_of}
use Rattle.ny_num.specs.declared.rate.Rate.{Rate}
use Rattle.ny_num.specs.declared.rate.Rate.TheVariants.{R2205, R4410, R8000, R11025, R16000, R22050, R32000, R44100, R48000}
use Rattle.clap.specs.Words.{App, Row, first_of}
use Rattle.ny_words.specs.Commands.{Command, check, command_of, render}
use Rattle.ny_words.specs.Reader.{command_with, found_in, option, word}

-- whether a word is this one
abbrev pub is_word : List ℕ → List ℕ → Bool
is_word word text = pointwise nat_eq word text

-- the number that a word of 1 to 10 digits writes; none for any other word
abbrev pub number_word : List ℕ → Option ℕ
number_word word =
    if nat_lt 0 (length word) && nat_le (length word) 10 && list_all is_ascii_digit word then Some (number_of word) else None

-- a pool size: 1 to 65536 blocks
abbrev pub pool_size : ℕ → Option ℕ
pool_size n = if nat_le 1 n && nat_le n 65536 then Some n else None

-- a block length: 16 to 4096 samples
abbrev pub block_length : ℕ → Option ℕ
block_length n = if nat_le 16 n && nat_le n 4096 then Some n else None

-- the first of some rates that has so many samples a second
abbrev pub rate_among : List Rate → ℕ → Option Rate
rate_among [] hz = None
rate_among (rate ∷ rates) hz = if nat_eq (hz_of rate) hz then Some rate else rate_among rates hz

-- the rate of so many samples a second
abbrev pub rate_with : ℕ → Option Rate
rate_with hz =
    rate_among (R2205 ∷ R4410 ∷ R8000 ∷ R11025 ∷ R16000 ∷ R22050 ∷ R32000 ∷ R44100 ∷ R48000 ∷ []) hz

-- what the word of an option says, or what stands for an option that is not given; none where the word says no number, or one that can't be given
abbrev pub given_or : {X : Type 0} → X → (ℕ → Option X) → Option (List ℕ) → Option X
given_or left_out among None = Some left_out
given_or left_out among (Some word) = option_and_then among (number_word word)

-- `check IN`
abbrev pub check_command : App
check_command = command_with (codes "check") (word (codes "IN") ∷ [])

-- `render IN OUT [--pool N] [--block L] [--rate R]`
abbrev pub render_command : App
render_command = command_with (codes "render")
    (word (codes "IN") ∷ word (codes "OUT") ∷ option (codes "pool") ∷ option (codes "block") ∷ option (codes "rate") ∷ [])

-- the name of a file that a word gives; none for an empty word
abbrev pub name_word : List ℕ → Option (List ℕ)
name_word word = if length word == 0 then None else Some word

-- to check the text of this name
abbrev pub check_of : Option (List ℕ) → Option Command
check_of (Some from) = Some (command_of from check)
check_of None = None

-- to render, where both names and all numbers are there
abbrev pub render_of : Option (List ℕ) → Option (List ℕ) → Option ℕ → Option ℕ → Option Rate → Option Command
render_of (Some from) (Some to) (Some pool) (Some block) (Some rate) =
    Some (command_of from (render (record { to = to; pool = pool; block = block; rate = rate })))
render_of _ _ _ _ _ = None

-- `check`, by what was found in its words
abbrev pub checking : List Row → Option Command
checking found = check_of (option_and_then name_word (first_of (codes "IN") found))

-- `render`, by what was found in its words
abbrev pub rendering : List Row → Option Command
rendering found = render_of
    (option_and_then name_word (first_of (codes "IN") found))
    (option_and_then name_word (first_of (codes "OUT") found))
    (given_or 16384 pool_size (first_of (codes "pool") found))
    (given_or 1024 block_length (first_of (codes "block") found))
    (given_or R44100 rate_with (first_of (codes "rate") found))

-- the command of the words, of which the first is its name and the rest is read with it; none where they are no command
unfoldable pub read_words : List (List ℕ) → Option Command
read_words [] = None
read_words (name ∷ rest) =
    if is_word name (codes "check") then option_and_then checking (found_in check_command (name ∷ rest))
    else (if is_word name (codes "render") then option_and_then rendering (found_in render_command (name ∷ rest)) else None)
