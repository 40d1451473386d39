use Rattle.std.proofs.Common.{◌∙◌}
use Rattle.ny_gen.proofs.Bytes.{text_written, short-is}
use Rattle.ny_gen.proofs.piece.generate.Goals as goal

pub returns : goal.returns
returns c =
    let is = text_written c.args.seed c.args.notes _ _ _ _ _ _ _ _ _ _ c.new-text.ensures.items c.in_ok-extend_from_slice.ensures.items
    c.in_ok-extend_from_slice-2.ensures.items c.in_ok-extend_from_slice-3.ensures.items c.in_ok-extend_from_slice-4.ensures.items
    c.in_ok-extend_from_slice-5.ensures.items c.in_ok-extend_from_slice-6.ensures.items c.in_ok-extend_from_slice-7.ensures.items
    (c.deref.ensures.value ∙ c.in_ok-ears.ensures.left) (c.deref-2.ensures.value ∙ c.in_ok-ears.ensures.right) in
    record { text = is; bounded = short-is _ c.args.seed c.args.notes is }
