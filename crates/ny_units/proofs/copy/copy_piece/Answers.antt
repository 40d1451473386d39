use Rattle.std.proofs.Common.{◌≡◌, ◌∙◌, sym, ap, length, refl, subst, ◌≤◌, pos, take, length-take, arith}
use Rattle.std.proofs.lemmas.List.{get_or-take}
use Rattle.ny_num.proofs.WrittenLists.{by_places}
use Rattle.ny_units.specs.declared.input.Piece.{Piece}
use Rattle.ny_units.specs.Inputs.{piece_at, piece_len}
use Rattle.ny_units.proofs.copy.copy_piece.Goals as goal

pub returns-in-Samples : goal.returns-in-Samples
returns-in-Samples c =
    let len = length c.args.out.now in
    let xs = take len c.in-Samples.samples.now in
    let within : len ≤ length c.in-Samples.samples.now = subst (λ (p : Piece). len ≤ piece_len p) c.in-Samples.is c.requires in
    let size : length xs ≡ len = omega (arith, within, length-take len c.in-Samples.samples.now) in
    c.copy_from_slice.ensures.after ∙ by_places (piece_at c.args.piece) xs len len (pos 0) size refl
    (λ k h. get_or-take len c.in-Samples.samples.now k (pos 0) h
    ∙ ap (λ (p : Piece). piece_at p k) (sym c.in-Samples.is))
