use Rattle.std.proofs.Common.{◌≡◌, ◌+◌, ◌∙◌, sym, ap, length, pos, arith}
use Rattle.ny_num.specs.Leaves.{noise_state, noise_step, noise_value}
use Rattle.ny_num.proofs.WrittenLists.{by_places, next_place}
use Rattle.ny_units.proofs.Noises.{state_more, state_first, level_next}
use Rattle.ny_units.proofs.noise.fill_noise.Goals as goal

pub loop-k-init : goal.loop-k-init
loop-k-init c = record { state = state_first c.args.x; done = λ i h. absurd (omega arith) }

pub loop-k-preserved : goal.loop-k-preserved
loop-k-preserved c =
    let state : c.next_state-state.result ≡ noise_state c.args.x (c.loop-k.k + 1) =
    c.next_state-state.ensures ∙ ap noise_step c.loop-k.invariant.state ∙ sym (state_more c.args.x c.loop-k.k) in
    let value : c.level_of.result ≡ noise_value c.args.x c.loop-k.k =
    c.level_of.ensures ∙ level_next c.args.x c.loop-k.k c.next_state-state.result state in
    record {
      state = state;
      done = next_place (noise_value c.args.x) c.loop-k.out c.loop-k.k c.level_of.result (pos 0) (omega arith) value c.loop-k.invariant.done;
    }

pub returns : goal.returns
returns c =
    let end : c.loop-k.k ≡ length c.args.out.now = omega arith in
    record {
      state = c.loop-k.invariant.state ∙ ap (noise_state c.args.x) end;
      samples = by_places (noise_value c.args.x) c.loop-k.out (length c.args.out.now) c.loop-k.k (pos 0) (omega arith) end c.loop-k.invariant.done;
    }
