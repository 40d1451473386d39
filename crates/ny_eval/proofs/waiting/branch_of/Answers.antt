use Rattle.std.proofs.Common.{rules}
use Rattle.ny_eval.proofs.WaitingLemmas.{list_given_up}
use Rattle.ny_eval.proofs.waiting.branch_of.Goals as goal

pub returns-in-Err-clause-refused : goal.returns-in-Err-clause-refused
returns-in-Err-clause-refused c =
    list_given_up c.args.heap.now c.keep_names.new.heap c.give_up_all.new.heap c.keep_names.new.sounds.items c.from.result.items (search rules) c.lawful.ensures c.keep_names.ensures.hand c.give_up_all.ensures.gives_up
