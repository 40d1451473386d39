use Rattle.std.proofs.Common.{[], ◌∷◌, subst}
use Rattle.ny_check.specs.declared.value.Value.{Value}
use Rattle.ny_heap.specs.declared.sound.Sound.{Sound}
use Rattle.ny_hands.specs.Hands.{GivesUp}
use Rattle.ny_trace.specs.Evaluates.{sounds_of_values}
use Rattle.ny_eval.proofs.frame.Frame.keep.Goals as goal

pub returns-in-Err-clause-gives_up : goal.returns-in-Err-clause-gives_up
returns-in-Err-clause-gives_up c = subst (λ (v : Value Sound). GivesUp c.args.heap.now c.give_up.new.heap (sounds_of_values (v ∷ []))) c.in-Err.ensures.back c.give_up.ensures.gives_up
