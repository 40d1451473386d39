use Rattle.std.proofs.Common.{◌∙◌, ap, arith}
use Rattle.ny_num.specs.Filters.{comb_value}
use Rattle.ny_filters.proofs.Combs.{one_more_output}
use Rattle.ny_filters.proofs.comb.run.Goals as goal

pub loop-k-preserved : goal.loop-k-preserved
loop-k-preserved g c =
    one_more_output c.args.gain c.args.line.now c.loop-k.line c.push_front.new.self c.loop-k.k c.args.input.now c.loop-k.out c.index-input-k.result c.next_output-output.result
    c.requires.some (omega arith) (omega arith) c.index-input-k.is (c.next_output-output.ensures ∙ ap (λ y. comb_value c.args.gain y c.index-input-k.result) c.coming_back.ensures) c.push_front.ensures.items c.loop-k.invariant
