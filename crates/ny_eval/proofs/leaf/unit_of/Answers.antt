use Rattle.std.proofs.Common.{refl, ap, ◌∙◌}
use Rattle.ny_num.specs.Leaves.{increment, key_hz}
use Rattle.ny_check.specs.declared.node.Generator.TheVariants as generator
use Rattle.ny_check.specs.Families.{leaf_time, number_at}
use Rattle.ny_heap.specs.Kinds as kind
use Rattle.ny_eval.proofs.EnvelopeLemmas.{envelope_heard, envelope_is}
use Rattle.ny_eval.proofs.LeafLemmas.{constant_is, osc_is, hzosc_is, noise_is, rest_is, ramp_is, lfo_is, by_row, kind_by_row}
use Rattle.ny_eval.proofs.leaf.unit_of.Goals as goal

pub returns-in-Const-clause-sound : goal.returns-in-Const-clause-sound
returns-in-Const-clause-sound c =
    let env = c.args.env.now in
    let ns = c.args.numbers.now in
    by_row c.args.generator generator.Const env ns c.args.timing.now _ c.in-Const.is c.requires (λ when. constant_is env (number_at ns 0) (number_at ns 1) c.number_at-first.result c.of_fix.result c.args.timing.now c.number_at-first.ensures when c.of_fix.ensures)

pub returns-in-Osc-clause-sound : goal.returns-in-Osc-clause-sound
returns-in-Osc-clause-sound c =
    let env = c.args.env.now in
    let ns = c.args.numbers.now in
    by_row c.args.generator generator.Osc env ns c.args.timing.now _ c.in-Osc.is c.requires (λ when. osc_is env (number_at ns 0) (number_at ns 1) c.number_at-first.result c.increment-inc.result c.of_fix-loud.result c.args.timing.now c.number_at-first.ensures when (c.increment-inc.ensures ∙ ap (λ h. increment h env.sound_rate) (c.key_hz.ensures ∙ ap key_hz c.key_of.ensures.value)) c.of_fix-loud.ensures)

pub returns-in-HzOsc-clause-sound : goal.returns-in-HzOsc-clause-sound
returns-in-HzOsc-clause-sound c =
    let env = c.args.env.now in
    let ns = c.args.numbers.now in
    by_row c.args.generator generator.HzOsc env ns c.args.timing.now _ c.in-HzOsc.is c.requires (λ when. hzosc_is env (number_at ns 0) (number_at ns 1) c.number_at-first.result c.increment-inc-in-HzOsc.result c.of_fix-loud.result c.args.timing.now c.number_at-first.ensures when c.increment-inc-in-HzOsc.ensures c.of_fix-loud.ensures)

pub returns-in-Lfo-clause-sound : goal.returns-in-Lfo-clause-sound
returns-in-Lfo-clause-sound c =
    let env = c.args.env.now in
    let ns = c.args.numbers.now in
    by_row c.args.generator generator.Lfo env ns c.args.timing.now _ c.in-Lfo.is c.requires (λ when. lfo_is env (number_at ns 0) (number_at ns 1) c.number_at-first.result c.increment-inc-in-Lfo.result c.args.timing.now c.number_at-first.ensures when c.increment-inc-in-Lfo.ensures)

pub returns-in-Noise-clause-sound : goal.returns-in-Noise-clause-sound
returns-in-Noise-clause-sound c =
    let env = c.args.env.now in
    let ns = c.args.numbers.now in
    by_row c.args.generator generator.Noise env ns c.args.timing.now _ c.in-Noise.is c.requires (λ when. noise_is env (number_at ns 0) (number_at ns 1) c.number_at-first.result c.seed_of-x.result c.of_fix-loud.result c.args.timing.now c.number_at-first.ensures when c.seed_of-x.ensures c.of_fix-loud.ensures)

pub returns-in-Rest-clause-sound : goal.returns-in-Rest-clause-sound
returns-in-Rest-clause-sound c =
    let env = c.args.env.now in
    let ns = c.args.numbers.now in
    by_row c.args.generator generator.Rest env ns c.args.timing.now _ c.in-Rest.is c.requires (λ when. rest_is env (number_at ns 0) c.args.timing.now when)

pub returns-in-Ramp-clause-sound : goal.returns-in-Ramp-clause-sound
returns-in-Ramp-clause-sound c =
    let env = c.args.env.now in
    let ns = c.args.numbers.now in
    by_row c.args.generator generator.Ramp env ns c.args.timing.now _ c.in-Ramp.is c.requires (λ when. ramp_is env (number_at ns 0) c.args.timing.now when)

pub returns-in_ok-knots-in-Pwl-clause-sound : goal.returns-in_ok-knots-in-Pwl-clause-sound
returns-in_ok-knots-in-Pwl-clause-sound c =
    let env = c.args.env.now in
    let ns = c.args.numbers.now in
    by_row c.args.generator generator.Pwl env ns c.args.timing.now _ c.in-Pwl.is c.requires (λ when. envelope_is env ns c.in_ok-knots-in-Pwl.knots c.args.timing.now when c.in_ok-knots-in-Pwl.ensures c.never_falls.ensures)

pub returns-in_ok-knots-in-Pwl-clause-heard : goal.returns-in_ok-knots-in-Pwl-clause-heard
returns-in_ok-knots-in-Pwl-clause-heard c =
    let env = c.args.env.now in
    let ns = c.args.numbers.now in
    envelope_heard env ns c.in_ok-knots-in-Pwl.knots c.args.timing.now (c.requires ∙ ap (λ g. leaf_time g env ns) c.in-Pwl.is) c.in_ok-knots-in-Pwl.ensures

-- ---- kinds

pub returns-in-Const-clause-kind : goal.returns-in-Const-clause-kind
returns-in-Const-clause-kind c = kind_by_row c.args.generator generator.Const kind.Const c.in-Const.is refl

pub returns-in-Osc-clause-kind : goal.returns-in-Osc-clause-kind
returns-in-Osc-clause-kind c = kind_by_row c.args.generator generator.Osc kind.Osc c.in-Osc.is refl

pub returns-in-HzOsc-clause-kind : goal.returns-in-HzOsc-clause-kind
returns-in-HzOsc-clause-kind c = kind_by_row c.args.generator generator.HzOsc kind.HzOsc c.in-HzOsc.is refl

pub returns-in-Lfo-clause-kind : goal.returns-in-Lfo-clause-kind
returns-in-Lfo-clause-kind c = kind_by_row c.args.generator generator.Lfo kind.Lfo c.in-Lfo.is refl

pub returns-in-Noise-clause-kind : goal.returns-in-Noise-clause-kind
returns-in-Noise-clause-kind c = kind_by_row c.args.generator generator.Noise kind.Noise c.in-Noise.is refl

pub returns-in-Rest-clause-kind : goal.returns-in-Rest-clause-kind
returns-in-Rest-clause-kind c = kind_by_row c.args.generator generator.Rest kind.Const c.in-Rest.is tt

pub returns-in-Ramp-clause-kind : goal.returns-in-Ramp-clause-kind
returns-in-Ramp-clause-kind c = kind_by_row c.args.generator generator.Ramp kind.Ramp c.in-Ramp.is refl

pub returns-in_ok-knots-in-Pwl-clause-kind : goal.returns-in_ok-knots-in-Pwl-clause-kind
returns-in_ok-knots-in-Pwl-clause-kind c = kind_by_row c.args.generator generator.Pwl kind.Pwl c.in-Pwl.is refl
