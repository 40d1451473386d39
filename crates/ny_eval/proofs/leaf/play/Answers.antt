use Rattle.std.proofs.Common.{[]}
use Rattle.ny_heap.specs.Heap.{Made}
use Rattle.ny_heap.specs.declared.make.Make.TheVariants.{Leaf}
use Rattle.ny_hands.proofs.SpendLemmas.{gives_up_trimmed, unit_made}
use Rattle.ny_eval.proofs.AnswerLemmas.{if_both, err_one}
use Rattle.ny_eval.proofs.leaf.play.Goals as goal

pub returns-clause-makes : goal.returns-clause-makes
returns-clause-makes c =
    if_both c.make.result _ _ _ (λ s makes meaning. unit_made c.args.heap.now c.make.new.self (Made (Leaf c.args.played)) c.args.timing [] c.new.result.items s c.new.ensures.items c.make.ensures.laws c.requires.bounds makes meaning)
    c.make.ensures.makes c.make.ensures.meaning

pub returns-clause-gives_up : goal.returns-clause-gives_up
returns-clause-gives_up c =
    err_one c.make.result _ _ (λ trimmed. gives_up_trimmed c.args.heap.now c.make.new.self [] c.new.result.items c.new.ensures.items c.make.ensures.laws trimmed)
    c.make.ensures.released
