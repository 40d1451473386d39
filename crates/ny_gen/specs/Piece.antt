-- A piece that is drawn from a number: the draws, the notes, and the text that plays them.
use Rattle.std.specs.Prelude.{ℕ, zero, suc, ◌+◌, ◌*◌, ◌/◌, ◌%◌, ◌^◌, Bool, ◌==◌, if◌then◌else◌, pos, List, [], ◌∷◌, ◌++◌, codes}
use Rattle.std.specs.List.{filter, join_by, range_with_len}
use Rattle.ny_num.specs.Decimal.{decimal_text}

-- the state that a draw makes of the one before
abbrev pub next_state : ℕ → ℕ
next_state state = (1664525 * state + 1013904223) % 2 ^ 32

-- the state after so many draws; before the first it is the seed
unfoldable pub state_after : ℕ → ℕ → ℕ
state_after seed zero = seed
state_after seed (suc draws) = next_state (state_after seed draws)

-- the number that a draw gives: the upper half of the state that it made
abbrev pub drawn : ℕ → ℕ
drawn state = state / 65536

-- the key that a number gives: one of 25, from 48 on
abbrev pub key_of : ℕ → ℕ
key_of number = 48 + number % 25

-- how long a note sounds by its number, in milliseconds: one of seven lengths from 100 on, 25 apart
abbrev pub milliseconds_of : ℕ → ℕ
milliseconds_of number = 100 + 25 * (number % 7)

-- a note as the text plays it: its key, and how long it sounds in seconds
unfoldable pub note_call : ℕ → ℕ → List ℕ
note_call key milliseconds =
    codes "n(" ++ decimal_text (pos (1000000 * key)) ++ codes ", " ++ decimal_text (pos (1000 * milliseconds)) ++ codes ")"

-- each note, counted from 0, takes two draws: its key, and then how long it sounds
unfoldable pub note_text : ℕ → ℕ → List ℕ
note_text seed note = note_call (key_of (drawn (state_after seed (2 * note + 1)))) (milliseconds_of (drawn (state_after seed (2 * note + 2))))

-- the even notes go left
abbrev pub is_left : ℕ → Bool
is_left note = note % 2 == 0

-- and the odd ones right
abbrev pub is_right : ℕ → Bool
is_right note = note % 2 == 1

-- those of so many notes that go left
abbrev pub left_notes : ℕ → List ℕ
left_notes notes = filter is_left (range_with_len 0 notes)

-- and those that go right
abbrev pub right_notes : ℕ → List ℕ
right_notes notes = filter is_right (range_with_len 0 notes)

-- notes, a comma and a space between each two
abbrev pub joined_notes : ℕ → List ℕ → List ℕ
joined_notes seed notes = join_by (note_text seed) (codes ", ") notes

-- what stands before one more call: nothing, or the calls so far and a comma and a space
abbrev pub before_more : List ℕ → List ℕ
before_more [] = []
before_more (byte ∷ bytes) = (byte ∷ bytes) ++ codes ", "

-- the calls so far, with one more where it is among them
abbrev pub with_call : Bool → List ℕ → List ℕ → List ℕ
with_call among calls call = if among then before_more calls ++ call else calls

-- a sound of notes in turn, with its echo
abbrev pub ear : ℕ → List ℕ → List ℕ
ear seed notes = codes "e(seq(" ++ joined_notes seed notes ++ codes "))"

-- a line and the line feed that ends it
abbrev pub line : List ℕ → List ℕ
line text = text ++ codes "\n"

-- the text: how a note sounds, how a sound is echoed, and the notes of both ears
unfoldable pub piece_text : ℕ → ℕ → List ℕ
piece_text seed notes =
    line (codes "define function n(k, d) return osc(k, d) * pwl(0.01, 0.3, d - 0.02, 0.2, d)")
    ++ line (codes "define function e(x) return sim(cue(x), scale(0.4, cue(x) @ 0.25))")
    ++ line (codes "play vector(" ++ ear seed (left_notes notes) ++ codes ", " ++ ear seed (right_notes notes) ++ codes ")")
