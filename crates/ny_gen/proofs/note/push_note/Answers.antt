use Rattle.ny_gen.proofs.Calls.{call_written}
use Rattle.ny_gen.proofs.note.push_note.Goals as goal

pub returns : goal.returns
returns c =
    call_written _ _ _ _ _ _ _ _ _ _ _ c.in_ok-push_separator.ensures c.in_ok-extend_from_slice.ensures.items c.whole.ensures c.in_ok-push_decimal.ensures
    c.in_ok-extend_from_slice-2.ensures.items c.thousandths.ensures c.in_ok-push_decimal-2.ensures c.in_ok-push.ensures.items
