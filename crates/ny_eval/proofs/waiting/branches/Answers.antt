use Rattle.std.proofs.Common.{ap}
use Rattle.ny_heap.specs.Steps.{sounds_of}
use Rattle.ny_eval.specs.Waiting.{kept_in}
use Rattle.ny_eval.proofs.WaitingLemmas.{list_given_up}
use Rattle.ny_eval.proofs.waiting.branches.Goals as goal

pub returns-in-Err-clause-refused : goal.returns-in-Err-clause-refused
returns-in-Err-clause-refused c =
    list_given_up c.args.heap.now c.branches_from.new.heap c.give_up_branches.new.heap (sounds_of (kept_in c.branches_from.new.waiting.items)) (sounds_of (kept_in c.from.result.items)) (ap (λ qs. sounds_of (kept_in qs)) c.from.ensures.0) c.lawful.ensures c.branches_from.ensures.hand c.give_up_branches.ensures.gives_up
