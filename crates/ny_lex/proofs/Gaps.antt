-- The gap before a token, one byte at a time.
use Rattle.std.proofs.Common.{◌≡◌, ℕ, ◌+◌, ◌<◌, ◌≤◌, List, [], ◌∷◌, length, drop, get_or, Bool, true, false, ◌==◌, not, if◌then◌else◌, refl, add-one, drop-cons}
use Rattle.std.proofs.Math.ListN.{drop_of_length-le}
use Rattle.ny_lex.specs.Bytes.{after_gap, after_comment, is_blank}

-- what follows a gap, from inside a comment or not
abbrev pub gap_from : Bool → List ℕ → List ℕ
gap_from true text = after_comment text
gap_from false text = after_gap text

split_at : (text : List ℕ) (place : ℕ) → place < length text → drop place text ≡ get_or text place 0 ∷ drop (place + 1) text
split_at text place within = rw (add-one, drop-cons text place 0) refl

pub gap-in_comment : (text : List ℕ) (place : ℕ) → place < length text → gap_from true (drop place text) ≡ gap_from (not (get_or text place 0 == 10)) (drop (place + 1) text)
unfolding after_gap after_comment
gap-in_comment text place within = rw (split_at text place within) (by_test (get_or text place 0 == 10))
  where
    by_test : (end : Bool) → (if end then after_gap (drop (place + 1) text) else after_comment (drop (place + 1) text)) ≡ gap_from (not end) (drop (place + 1) text)
    by_test true = refl
    by_test false = refl

pub gap-comment : (text : List ℕ) (place : ℕ) → place < length text → (get_or text place 0 == 59) ≡ true → gap_from false (drop place text) ≡ gap_from true (drop (place + 1) text)
unfolding after_gap after_comment
gap-comment text place within begins = rw (split_at text place within, begins) refl

pub gap-blank : (text : List ℕ) (place : ℕ) → place < length text → (get_or text place 0 == 59) ≡ false → is_blank (get_or text place 0) ≡ true
    → gap_from false (drop place text) ≡ gap_from false (drop (place + 1) text)
unfolding after_gap after_comment
gap-blank text place within other blank = rw (split_at text place within, other, blank) refl

pub gap-stop : (text : List ℕ) (place : ℕ) → place < length text → (get_or text place 0 == 59) ≡ false → is_blank (get_or text place 0) ≡ false
    → gap_from false (drop place text) ≡ drop place text
unfolding after_gap after_comment
gap-stop text place within other token = rw (split_at text place within, other, token) refl

pub gap-end : (in_comment : Bool) (text : List ℕ) (place : ℕ) → length text ≤ place → gap_from in_comment (drop place text) ≡ []
unfolding after_gap after_comment
gap-end true text place past = rw (drop_of_length-le text past) refl
gap-end false text place past = rw (drop_of_length-le text past) refl

pub ruleset gap_steps = (gap-in_comment, gap-comment, gap-blank, gap-stop, gap-end)
