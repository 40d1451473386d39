-- The call of a note, as it is appended.
use Rattle.std.proofs.Common.{◌≡◌, ℕ, ◌*◌, ◌++◌, List, ℤ, pos, codes, append_assoc}
use Rattle.ny_num.specs.Decimal.{decimal_text}
use Rattle.ny_gen.specs.Piece.{before_more, note_call}

in_parts : (b x1 x2 x3 x4 x5 : List ℕ) → ((((b ++ x1) ++ x2) ++ x3) ++ x4) ++ x5 ≡ b ++ ((((x1 ++ x2) ++ x3) ++ x4) ++ x5)
in_parts b x1 x2 x3 x4 x5 = simp append_assoc

-- the parts, one after another
pub call_written : (before begun named keyed parted timed whole : List ℕ) (key milliseconds : ℕ) (v w : ℤ)
    → begun ≡ before_more before → named ≡ begun ++ codes "n(" → v ≡ pos (1000000 * key) → keyed ≡ named ++ decimal_text v
    → parted ≡ keyed ++ codes ", " → w ≡ pos (1000 * milliseconds) → timed ≡ parted ++ decimal_text w → whole ≡ timed ++ codes ")"
    → whole ≡ before_more before ++ note_call key milliseconds
unfolding note_call
call_written before begun named keyed parted timed whole key milliseconds v w e0 e1 ev e2 e3 ew e4 e5 =
    rw (e5, e4, ew, e3, e2, ev, e1, e0)
    (in_parts (before_more before) (codes "n(") (decimal_text (pos (1000000 * key))) (codes ", ") (decimal_text (pos (1000 * milliseconds))) (codes ")"))
