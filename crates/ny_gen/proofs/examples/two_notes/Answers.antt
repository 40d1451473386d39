use Rattle.std.proofs.Common.{refl}
use Rattle.std.specs.Fmt.{digits}
use Rattle.ny_num.specs.Decimal.{decimal_text, in_digits}
use Rattle.ny_gen.specs.Piece.{state_after, note_call, note_text, piece_text}
use Rattle.ny_gen.proofs.examples.two_notes.Goals as goal

-- the definition computes
pub returns : goal.returns
unfolding piece_text note_text note_call state_after decimal_text in_digits digits
returns c = refl
