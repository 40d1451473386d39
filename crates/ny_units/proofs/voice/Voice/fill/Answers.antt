use Rattle.std.proofs.Common.{◌≡◌, ◌∙◌, sym, ap, subst, length, map}
use Rattle.std.specs.List.{range_with_len}
use Rattle.ny_num.specs.Leaves.{noise_state, envelope_value}
use Rattle.ny_units.specs.Envelopes.{corners}
use Rattle.ny_units.specs.Playing.{leaf_value}
use Rattle.ny_units.specs.Voices.{leaf_of, IsVoice}
use Rattle.ny_units.specs.declared.voice.Voice.{Voice}
use Rattle.ny_units.proofs.Noises.{state_from}
use Rattle.ny_units.proofs.Runs.{noise_run}
use Rattle.ny_units.proofs.voice.Voice.fill.Goals as goal

pub returns-in-Constant-clause-samples : goal.returns-in-Constant-clause-samples
unfolding leaf_value
returns-in-Constant-clause-samples c = c.fill_constant.ensures ∙ ap (λ (v : Voice). map (leaf_value (leaf_of v)) (range_with_len c.args.from (length c.args.out.now))) (sym c.in-Constant.is)

pub returns-in-Ramp-clause-samples : goal.returns-in-Ramp-clause-samples
unfolding leaf_value
returns-in-Ramp-clause-samples c = c.fill_ramp.ensures ∙ ap (λ (v : Voice). map (leaf_value (leaf_of v)) (range_with_len c.args.from (length c.args.out.now))) (sym c.in-Ramp.is)

pub returns-in-Middle-clause-samples : goal.returns-in-Middle-clause-samples
unfolding leaf_value
returns-in-Middle-clause-samples c = c.fill_loud_wave.ensures ∙ ap (λ (v : Voice). map (leaf_value (leaf_of v)) (range_with_len c.args.from (length c.args.out.now))) (sym c.in-Middle.is)

pub returns-in-High-clause-samples : goal.returns-in-High-clause-samples
unfolding leaf_value
returns-in-High-clause-samples c = c.fill_loud_wave-in-High.ensures ∙ ap (λ (v : Voice). map (leaf_value (leaf_of v)) (range_with_len c.args.from (length c.args.out.now))) (sym c.in-High.is)

pub returns-in-Low-clause-samples : goal.returns-in-Low-clause-samples
unfolding leaf_value
returns-in-Low-clause-samples c = c.fill_wave.ensures ∙ ap (λ (v : Voice). map (leaf_value (leaf_of v)) (range_with_len c.args.from (length c.args.out.now))) (sym c.in-Low.is)

pub returns-in-Noise-clause-stands : goal.returns-in-Noise-clause-stands
returns-in-Noise-clause-stands c =
    let stands : c.in-Noise.state ≡ noise_state c.in-Noise.x c.args.from = subst (λ (v : Voice). IsVoice v c.args.from) c.in-Noise.is c.requires.stands in
    c.fill_loud_noise.ensures.state ∙ ap (λ s. noise_state s (length c.args.out.now)) stands ∙ state_from c.in-Noise.x c.args.from (length c.args.out.now)

pub returns-in-Noise-clause-samples : goal.returns-in-Noise-clause-samples
unfolding leaf_value
returns-in-Noise-clause-samples c =
    let stands : c.in-Noise.state ≡ noise_state c.in-Noise.x c.args.from = subst (λ (v : Voice). IsVoice v c.args.from) c.in-Noise.is c.requires.stands in
    noise_run c.in-Noise.x c.in-Noise.state c.args.from (length c.args.out.now) c.in-Noise.loud c.fill_loud_noise.new.out stands c.fill_loud_noise.ensures.samples
    ∙ ap (λ (v : Voice). map (leaf_value (leaf_of v)) (range_with_len c.args.from (length c.args.out.now))) (sym c.in-Noise.is)

pub returns-in-Envelope-clause-samples : goal.returns-in-Envelope-clause-samples
unfolding leaf_value
returns-in-Envelope-clause-samples c =
    c.fill_envelope.ensures.samples
    ∙ ap (λ ks. map (envelope_value (corners ks)) (range_with_len c.from.result (length c.args.out.now))) c.deref.ensures.value
    ∙ ap (λ n. map (envelope_value (corners c.in-Envelope.knots.items)) (range_with_len n (length c.args.out.now))) c.from.ensures
    ∙ ap (λ (v : Voice). map (leaf_value (leaf_of v)) (range_with_len c.args.from (length c.args.out.now))) (sym c.in-Envelope.is)
