use Rattle.std.proofs.Common.{◌≡◌, ◌∙◌, sym, ap, length, refl, pos, get_or, take}
use Rattle.std.proofs.lemmas.List.{get_or-take}
use Rattle.ny_units.specs.declared.input.Piece.{Piece}
use Rattle.ny_units.specs.Inputs.{piece_at}
use Rattle.ny_units.proofs.Inputs.{pair_same}
use Rattle.ny_units.proofs.pair.combine.Goals as goal

pub returns-in-Samples-right : goal.returns-in-Samples-right
returns-in-Samples-right c =
    let len = length c.args.out.now in
    pair_same c.args.op (λ n. get_or (take len c.in-Samples.a.now) n (pos 0)) (λ n. get_or (take len c.in-Samples-right.b.now) n (pos 0)) (piece_at c.args.left) (piece_at c.args.right) len c.binary.new.out c.binary.ensures
    (λ k h. get_or-take len c.in-Samples.a.now k (pos 0) h ∙ ap (λ (p : Piece). piece_at p k) (sym c.in-Samples.is))
    (λ k h. get_or-take len c.in-Samples-right.b.now k (pos 0) h ∙ ap (λ (p : Piece). piece_at p k) (sym c.in-Samples-right.is))

pub returns-in-Same-right : goal.returns-in-Same-right
returns-in-Same-right c =
    let len = length c.args.out.now in
    pair_same c.args.op (λ n. get_or (take len c.in-Samples.a.now) n (pos 0)) (λ n. c.in-Same-right.value) (piece_at c.args.left) (piece_at c.args.right) len c.binary-in-Same-right.new.out c.binary-in-Same-right.ensures
    (λ k h. get_or-take len c.in-Samples.a.now k (pos 0) h ∙ ap (λ (p : Piece). piece_at p k) (sym c.in-Samples.is))
    (λ k h. ap (λ (p : Piece). piece_at p k) (sym c.in-Same-right.is))

pub returns-in-Samples-right-2 : goal.returns-in-Samples-right-2
returns-in-Samples-right-2 c =
    let len = length c.args.out.now in
    pair_same c.args.op (λ n. c.in-Same.value) (λ n. get_or (take len c.in-Samples-right-2.b.now) n (pos 0)) (piece_at c.args.left) (piece_at c.args.right) len c.binary-in-Samples-right-2.new.out c.binary-in-Samples-right-2.ensures
    (λ k h. ap (λ (p : Piece). piece_at p k) (sym c.in-Same.is))
    (λ k h. get_or-take len c.in-Samples-right-2.b.now k (pos 0) h ∙ ap (λ (p : Piece). piece_at p k) (sym c.in-Samples-right-2.is))

pub returns-in-Same-right-2 : goal.returns-in-Same-right-2
returns-in-Same-right-2 c =
    let len = length c.args.out.now in
    pair_same c.args.op (λ n. c.in-Same.value) (λ n. c.in-Same-right-2.other) (piece_at c.args.left) (piece_at c.args.right) len c.fill_constant.new.out
    (c.fill_constant.ensures ∙ ap (λ v. Rattle.std.proofs.Common.map (λ (n : Rattle.std.proofs.Common.ℕ). v) (Rattle.std.specs.List.range_with_len 0 len)) c.of.ensures)
    (λ k h. ap (λ (p : Piece). piece_at p k) (sym c.in-Same.is))
    (λ k h. ap (λ (p : Piece). piece_at p k) (sym c.in-Same-right-2.is))
