-- The text in its parts, and how many bytes it has at most.
use Rattle.std.proofs.Common.{◌≡◌, ℕ, zero, suc, ◌+◌, ◌*◌, ◌/◌, ◌%◌, ◌<◌, ◌≤◌, not, List, [], ◌∷◌, ◌++◌, length, ap, ◌∙◌, arith, append_assoc, length-append, codes, decimal, pos}
use Rattle.std.specs.Fmt.{digits}
use Rattle.std.specs.List.{flat_map, range_with_len}
use Rattle.std.proofs.lemmas.Bool.Decides.{nat_tests}
use Rattle.std.proofs.lemmas.Fmt.{length-decimal-le}
use Rattle.std.proofs.lemmas.List.Filters.{length-filter_both}
use Rattle.std.proofs.lemmas.List.FromFn.{length-range_with_len}
use Rattle.ny_num.specs.Decimal.{decimal_text, in_digits}
use Rattle.ny_num.proofs.DecimalText.{decimal_text-whole}
use Rattle.ny_gen.specs.Piece.{key_of, milliseconds_of, note_call, note_text, is_left, is_right, left_notes, right_notes, joined_notes, line, piece_text}

-- what stands before the left notes
abbrev opening : List ℕ
opening =
    line (codes "define function n(k, d) return osc(k, d) * pwl(0.01, 0.3, d - 0.02, 0.2, d)")
    ++ (line (codes "define function e(x) return sim(cue(x), scale(0.4, cue(x) @ 0.25))") ++ codes "play vector(e(seq(")

regroup : (a b p e l s c r k n : List ℕ)
    → (a ++ b) ++ (((((p ++ ((e ++ l) ++ s)) ++ c) ++ ((e ++ r) ++ s)) ++ k) ++ n)
    ≡ (a ++ (b ++ (p ++ e))) ++ (l ++ ((s ++ (c ++ e)) ++ (r ++ (s ++ (k ++ n)))))
regroup a b p e l s c r k n = simp append_assoc

-- the text in its parts
pub in_parts : (seed notes : ℕ) → piece_text seed notes
    ≡ opening ++ (joined_notes seed (left_notes notes) ++ (codes ")), e(seq(" ++ (joined_notes seed (right_notes notes) ++ codes ")))\n")))
unfolding piece_text
in_parts seed notes =
    regroup (line (codes "define function n(k, d) return osc(k, d) * pwl(0.01, 0.3, d - 0.02, 0.2, d)"))
    (line (codes "define function e(x) return sim(cue(x), scale(0.4, cue(x) @ 0.25))")) (codes "play vector(") (codes "e(seq(")
    (joined_notes seed (left_notes notes)) (codes "))") (codes ", ") (joined_notes seed (right_notes notes)) (codes ")") (codes "\n")

appended : (o1 o2 o3 l m r e : List ℕ) → (((((o1 ++ o2) ++ o3) ++ l) ++ m) ++ r) ++ e ≡ (o1 ++ (o2 ++ o3)) ++ (l ++ (m ++ (r ++ e)))
appended o1 o2 o3 l m r e = simp append_assoc

-- the parts, one after another
pub text_written : (seed notes : ℕ) (empty one two three four five six whole left right : List ℕ) → empty ≡ []
    → one ≡ empty ++ codes "define function n(k, d) return osc(k, d) * pwl(0.01, 0.3, d - 0.02, 0.2, d)\n"
    → two ≡ one ++ codes "define function e(x) return sim(cue(x), scale(0.4, cue(x) @ 0.25))\n"
    → three ≡ two ++ codes "play vector(e(seq(" → four ≡ three ++ left → five ≡ four ++ codes ")), e(seq(" → six ≡ five ++ right
    → whole ≡ six ++ codes ")))\n" → left ≡ joined_notes seed (left_notes notes) → right ≡ joined_notes seed (right_notes notes)
    → whole ≡ piece_text seed notes
text_written seed notes empty one two three four five six whole left right e0 e1 e2 e3 e4 e5 e6 e7 el er =
    rw (e7, e6, e5, e4, e3, e2, e1, e0, el, er, in_parts seed notes)
    (appended (codes "define function n(k, d) return osc(k, d) * pwl(0.01, 0.3, d - 0.02, 0.2, d)\n")
    (codes "define function e(x) return sim(cue(x), scale(0.4, cue(x) @ 0.25))\n") (codes "play vector(e(seq(")
    (joined_notes seed (left_notes notes)) (codes ")), e(seq(") (joined_notes seed (right_notes notes)) (codes ")))\n"))

-- ---- how many bytes

key_short : (n : ℕ) → n < 100 → length (decimal_text (pos (1000000 * n))) ≤ 2
key_short n small =
    let none : (1000000 * n) % 1000000 ≡ 0 = omega arith in
    let is : (1000000 * n) / 1000000 ≡ n = omega arith in
    let few : length (decimal n) ≤ 2 = length-decimal-le 2 n (omega arith) (omega arith) (omega arith) in
    omega (arith, ap length (decimal_text-whole (1000000 * n) none ∙ ap decimal is))

length_short : (r : ℕ) → r < 7 → length (decimal_text (pos (1000 * (100 + 25 * r)))) ≤ 5
unfolding decimal_text in_digits digits
length_short zero small = omega arith
length_short (suc zero) small = omega arith
length_short (suc (suc zero)) small = omega arith
length_short (suc (suc (suc zero))) small = omega arith
length_short (suc (suc (suc (suc zero)))) small = omega arith
length_short (suc (suc (suc (suc (suc zero))))) small = omega arith
length_short (suc (suc (suc (suc (suc (suc zero)))))) small = omega arith
length_short (suc (suc (suc (suc (suc (suc (suc r))))))) small = absurd (omega arith)

five_parts : (a b c d e : List ℕ)
    → length (a ++ (b ++ (c ++ (d ++ e)))) ≡ length a + (length b + (length c + (length d + length e)))
five_parts a b c d e =
    omega (arith, length-append a (b ++ (c ++ (d ++ e))), length-append b (c ++ (d ++ e)), length-append c (d ++ e), length-append d e)

five_in_turn : (a b c d e : List ℕ)
    → length ((((a ++ b) ++ c) ++ d) ++ e) ≡ length a + (length b + (length c + (length d + length e)))
five_in_turn a b c d e =
    omega (arith, length-append (((a ++ b) ++ c) ++ d) e, length-append ((a ++ b) ++ c) d, length-append (a ++ b) c, length-append a b)

call_short : (first second : ℕ) → length (note_call (key_of first) (milliseconds_of second)) ≤ 12
unfolding note_call
call_short first second =
    omega (
      arith,
      key_short (key_of first) (omega arith),
      length_short (second % 7) (omega arith),
      five_in_turn (codes "n(") (decimal_text (pos (1000000 * key_of first))) (codes ", ") (decimal_text (pos (1000 * milliseconds_of second))) (codes ")"),
    )

note_short : (seed note : ℕ) → length (note_text seed note) ≤ 12
unfolding note_text
note_short seed note = call_short _ _

following_short : (seed : ℕ) (notes : List ℕ) → length (flat_map (λ note. codes ", " ++ note_text seed note) notes) ≤ 14 * length notes
following_short seed [] = omega arith
following_short seed (note ∷ notes) =
    omega (
      arith,
      note_short seed note,
      following_short seed notes,
      length-append (codes ", ") (note_text seed note),
      length-append (codes ", " ++ note_text seed note) (flat_map (λ n. codes ", " ++ note_text seed n) notes),
    )

joined_short : (seed : ℕ) (notes : List ℕ) → length (joined_notes seed notes) ≤ 14 * length notes
joined_short seed [] = omega arith
joined_short seed (note ∷ notes) =
    omega (
      arith,
      note_short seed note,
      following_short seed notes,
      length-append (note_text seed note) (flat_map (λ n. codes ", " ++ note_text seed n) notes),
    )

other_ear : (note : ℕ) → is_right note ≡ not (is_left note)
other_ear note = grind (arith, nat_tests)

-- each note goes to one ear
both_ears : (notes : ℕ) → length (left_notes notes) + length (right_notes notes) ≡ notes
both_ears notes = length-filter_both is_left is_right other_ear (range_with_len 0 notes) ∙ length-range_with_len 0 notes

short_parts : (o l m r e : List ℕ) (n : ℕ) → length o + (length m + length e) ≤ 200 → length l + length r ≤ 14 * n
    → length (o ++ (l ++ (m ++ (r ++ e)))) ≤ 200 + 14 * n
short_parts o l m r e n fixed drawn_part = omega (arith, five_parts o l m r e)

pub text_short : (seed notes : ℕ) → length (piece_text seed notes) ≤ 200 + 14 * notes
text_short seed notes =
    rw (in_parts seed notes)
    (short_parts opening (joined_notes seed (left_notes notes)) (codes ")), e(seq(") (joined_notes seed (right_notes notes)) (codes ")))\n") notes
    (omega arith) (omega (arith, joined_short seed (left_notes notes), joined_short seed (right_notes notes), both_ears notes)))

pub short-is : (text : List ℕ) (seed notes : ℕ) → text ≡ piece_text seed notes → length text ≤ 200 + 14 * notes
short-is text seed notes is = rw is (text_short seed notes)
