use Rattle.std.proofs.Common.{◌≡◌, ◌∙◌, sym, ap, length, refl, subst, ◌≤◌, pos, get_or, take, length-take, arith}
use Rattle.std.proofs.lemmas.List.{get_or-take, get_or-map, length-map}
use Rattle.ny_num.specs.Numbers.{sample_abs}
use Rattle.ny_num.proofs.WrittenLists.{by_places}
use Rattle.ny_units.specs.declared.input.Piece.{Piece}
use Rattle.ny_units.specs.Inputs.{piece_at, piece_len}
use Rattle.ny_units.proofs.abs.absolute_piece.Goals as goal

pub returns-in-Samples : goal.returns-in-Samples
returns-in-Samples c =
    let len = length c.args.out.now in
    let xs = take len c.in-Samples.samples.now in
    let within : len ≤ length c.in-Samples.samples.now = subst (λ (p : Piece). len ≤ piece_len p) c.in-Samples.is c.requires in
    let size : length xs ≡ len = omega (arith, within, length-take len c.in-Samples.samples.now) in
    by_places (λ k. sample_abs (piece_at c.args.piece k)) c.absolute.new.out len len (pos 0) (ap length c.absolute.ensures ∙ length-map xs sample_abs ∙ size) refl
    (λ k h. ap (λ ys. get_or ys k (pos 0)) c.absolute.ensures
    ∙ get_or-map sample_abs xs k (pos 0) (pos 0) (omega (arith, size, h))
    ∙ ap sample_abs (get_or-take len c.in-Samples.samples.now k (pos 0) h)
    ∙ ap (λ (p : Piece). sample_abs (piece_at p k)) (sym c.in-Samples.is))
