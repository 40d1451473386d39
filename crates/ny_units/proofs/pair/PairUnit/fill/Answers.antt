use Rattle.std.proofs.Common.{◌≡◌, ◌+◌, ◌∙◌, ap, subst, length, map, List, ℤ, arith}
use Rattle.std.specs.List.{range_with_len}
use Rattle.ny_kernels.specs.Operations.{operation}
use Rattle.ny_units.specs.Inputs.{input_at, ShowsInput}
use Rattle.ny_units.specs.Pairs.{Pair}
use Rattle.ny_units.proofs.pair.PairUnit.fill.Goals as goal

pub returns-clause-samples : goal.returns-clause-samples
returns-clause-samples c =
    let len = length c.args.out.now in
    subst (λ (p : Pair). (xs ys : List ℤ) → ShowsInput c.args.reads.now p.left xs → ShowsInput c.args.reads.now p.right ys
    → c.fill_pair.new.out ≡ map (λ m. operation p.op (input_at p.left xs m) (input_at p.right ys m)) (range_with_len (p.start + c.args.from) len)) c.self.view_is
    (λ xs ys left right. c.fill_pair.ensures.samples xs ys left right
    ∙ ap (λ i. map (λ m. operation c.self.inside.op (input_at c.self.inside.left xs m) (input_at c.self.inside.right ys m)) (range_with_len i len)) (omega arith))
