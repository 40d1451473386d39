-- The lines that a command prints.
use Rattle.std.specs.Prelude.{ℕ, List, [], ◌∷◌, ◌++◌, ◌==◌, if◌then◌else◌, codes, decimal, flat_map, zip, Some, None}
use Rattle.std.specs.declared.option.Option.{Option}

-- a number in decimal, without leading zeros
abbrev pub decimal_number : ℕ → List ℕ
decimal_number n = decimal n

-- a text and the line feed that ends it
abbrev pub line : List ℕ → List ℕ
line text = text ++ codes "\n"

-- a further part of a line, a space before it; nothing where the part is empty
abbrev pub further_part : List ℕ → List ℕ
further_part [] = []
further_part (byte ∷ bytes) = codes " " ++ byte ∷ bytes

-- a word and a number, with a space between them
abbrev pub told : List ℕ → ℕ → List ℕ
told word n = word ++ codes " " ++ decimal_number n

-- the line of a refused text: the stage that refused it, the place of the fault, and why where that is said
unfoldable pub refusal_line_of : List ℕ → ℕ → List ℕ → List ℕ
refusal_line_of stage at why = line (codes "refused: " ++ stage ++ codes " " ++ decimal_number at ++ further_part why)

-- the line of a full pool: how many pulls gave samples before
unfoldable pub full_line_of : ℕ → List ℕ
full_line_of pulls = line (codes "pool full after " ++ decimal_number pulls ++ codes " pulls")

-- the names of the kinds of units, in the order in which their blocks are counted
abbrev pub kind_names : List (List ℕ)
kind_names = codes "const" ∷ codes "ramp" ∷ codes "osc" ∷ codes "hzosc" ∷ codes "lfo" ∷ codes "noise" ∷ codes "pwl" ∷ codes "data"
    ∷ codes "abs" ∷ codes "add" ∷ codes "sub" ∷ codes "mul" ∷ codes "max" ∷ codes "min"
    ∷ codes "resample" ∷ codes "filter" ∷ codes "mix" ∷ codes "channel" ∷ []

-- a kind by its name, with how many blocks of it are live; nothing where none is
abbrev pub kind_part : List ℕ → ℕ → List ℕ
kind_part name count = if count == 0 then [] else codes " " ++ told name count

-- the kinds of which blocks are live, by how many there are of each kind
abbrev pub kind_parts : List ℕ → List ℕ
kind_parts counts = flat_map (λ kind. kind_part kind.0 kind.1) (zip kind_names counts)

-- the kinds at the end of a line; nothing where they are not asked for
abbrev pub kinds_told : Option (List ℕ) → List ℕ
kinds_told None = []
kinds_told (Some counts) = kind_parts counts

-- the line of a pull: its number, its channel, how many blocks are live after it, how many were filled so far, and the kinds
unfoldable pub pull_line_of : ℕ → ℕ → ℕ → ℕ → Option (List ℕ) → List ℕ
pull_line_of pull channel live fills kinds = line
    (told (codes "pull") pull ++ codes " " ++ told (codes "channel") channel ++ codes " " ++ told (codes "live") live
    ++ codes " " ++ told (codes "fills") fills ++ kinds_told kinds)

-- the line of a peak: the most blocks that were live at once
unfoldable pub peak_line_of : ℕ → List ℕ
peak_line_of peak = line (told (codes "peak") peak)

-- the lines of a piece that was drawn and played: its notes, its frames, its peak, how many blocks were filled, and the sum of its samples
unfoldable pub sum_lines_of : ℕ → ℕ → ℕ → ℕ → ℕ → List ℕ
sum_lines_of notes frames peak fills sum =
    line (told (codes "notes") notes) ++ line (told (codes "frames") frames) ++ line (told (codes "peak") peak)
    ++ line (told (codes "fills") fills) ++ line (told (codes "sum") sum)
