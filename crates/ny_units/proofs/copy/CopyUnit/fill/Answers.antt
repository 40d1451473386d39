use Rattle.std.proofs.Common.{◌≡◌, ◌+◌, ◌∙◌, ap, subst, length, map, List, ℤ, arith}
use Rattle.std.specs.List.{range_with_len}
use Rattle.ny_units.specs.Copies.{Copy}
use Rattle.ny_units.specs.Inputs.{input_at, ShowsInput}
use Rattle.ny_units.proofs.copy.CopyUnit.fill.Goals as goal

pub returns-clause-samples : goal.returns-clause-samples
returns-clause-samples c =
    let len = length c.args.out.now in
    subst (λ (p : Copy). (xs : List ℤ) → ShowsInput c.args.reads.now p.input xs
    → c.fill_copy.new.out ≡ map (λ m. input_at p.input xs m) (range_with_len (p.start + c.args.from) len)) c.self.view_is
    (λ xs shows. c.fill_copy.ensures.samples xs shows
    ∙ ap (λ i. map (λ m. input_at c.self.inside.input xs m) (range_with_len i len)) (omega arith))
