use Rattle.std.proofs.Common.{ap, sym, subst, ◌∙◌}
use Rattle.std.specs.Option.{option_map}
use Rattle.ny_resolve.specs.Keys.{same_name}
use Rattle.ny_check.specs.declared.value.Value.{Value}
use Rattle.ny_heap.specs.declared.sound.Sound.{Sound}
use Rattle.ny_hands.specs.Frames.{IsHeldValue}
use Rattle.ny_eval.specs.Framed.{names_in}
use Rattle.ny_eval.proofs.FrameLemmas.{held_found}
use Rattle.ny_eval.proofs.waiting.keep_name.Goals as goal

pub shared-requires-clause-held : goal.shared-requires-clause-held
shared-requires-clause-held c =
    (subst (λ (v : Value Sound). IsHeldValue c.args.heap.now v) c.in-Sound.is
    (held_found c.args.heap.now (same_name c.args.x) (names_in c.args.frame.now) c.in-Some.value.now c.requires.held (sym c.find.ensures ∙ ap (option_map (λ v. v.now)) c.in-Some.is))).1

pub shared-requires-clause-begins : goal.shared-requires-clause-begins
shared-requires-clause-begins c =
    (subst (λ (v : Value Sound). IsHeldValue c.args.heap.now v) c.in-Sound.is
    (held_found c.args.heap.now (same_name c.args.x) (names_in c.args.frame.now) c.in-Some.value.now c.requires.held (sym c.find.ensures ∙ ap (option_map (λ v. v.now)) c.in-Some.is))).0
