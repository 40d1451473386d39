use Rattle.ny_check.proofs.Wider.{first_and_rest}
use Rattle.ny_check.proofs.form.effect_node.Goals as goal

pub returns-in_ok-numbers-in-len1-up-clause-below : goal.returns-in_ok-numbers-in-len1-up-clause-below
returns-in_ok-numbers-in-len1-up-clause-below c = λ fs n h.
    first_and_rest n c.args.ids.now c.in_ok-numbers-in-len1-up.numbers c.in-len1-up.len_at_least c.in_ok-numbers-in-len1-up.ensures h
