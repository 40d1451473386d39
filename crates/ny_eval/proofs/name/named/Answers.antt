use Rattle.std.proofs.Common.{[], ap, sym, subst, ◌∙◌}
use Rattle.ny_check.specs.declared.value.Value.{Value}
use Rattle.ny_heap.specs.declared.sound.Sound.{Sound}
use Rattle.ny_heap.specs.Heap.{HeapState}
use Rattle.ny_hands.specs.declared.branch.Branch.{Branch}
use Rattle.ny_hands.specs.Frames.{IsHeldValue}
use Rattle.ny_hands.specs.Hands.{Hand}
use Rattle.ny_hands.proofs.HandLemmas.{hand_none}
use Rattle.ny_hands.proofs.SpendLemmas.{all_given_up}
use Rattle.ny_resolve.specs.Keys.{same_name}
use Rattle.std.specs.Option.{option_map}
use Rattle.ny_eval.specs.Framed.{names_in}
use Rattle.ny_eval.proofs.AnswerLemmas.{on_err}
use Rattle.ny_eval.proofs.FrameLemmas.{held_found}
use Rattle.ny_eval.proofs.name.named.Goals as goal

pub returns-in_err-silent-in-None-clause-refused : goal.returns-in_err-silent-in-None-clause-refused
returns-in_err-silent-in-None-clause-refused c = on_err _ _ (all_given_up c.args.heap.now c.args.heap.now c.silent.new.heap [] c.lawful.ensures (hand_none c.args.heap.now c.lawful.ensures) c.in_err-silent-in-None.ensures.gives_up)

pub returns-in_err-silent-in-Number-clause-refused : goal.returns-in_err-silent-in-Number-clause-refused
returns-in_err-silent-in-Number-clause-refused c = on_err _ _ (all_given_up c.args.heap.now c.args.heap.now c.silent-in-Number.new.heap [] c.lawful.ensures (hand_none c.args.heap.now c.lawful.ensures) c.in_err-silent-in-Number.ensures.gives_up)

pub shared-requires-clause-held : goal.shared-requires-clause-held
shared-requires-clause-held c =
    (subst (λ (v : Value Sound). IsHeldValue c.args.heap.now v) c.in-Sound.is
    (held_found c.args.heap.now (same_name c.args.x) (names_in c.args.frame.now) c.in-Some.value.now c.requires.names (sym c.find.ensures ∙ ap (option_map (λ v. v.now)) c.in-Some.is))).1

pub shared-requires-clause-begins : goal.shared-requires-clause-begins
shared-requires-clause-begins c =
    (subst (λ (v : Value Sound). IsHeldValue c.args.heap.now v) c.in-Sound.is
    (held_found c.args.heap.now (same_name c.args.x) (names_in c.args.frame.now) c.in-Some.value.now c.requires.names (sym c.find.ensures ∙ ap (option_map (λ v. v.now)) c.in-Some.is))).0

pub returns-in_err-shared-in-Sound-clause-refused : goal.returns-in_err-shared-in-Sound-clause-refused
returns-in_err-shared-in-Sound-clause-refused c = on_err _ _ (subst (λ (h : HeapState Branch). Hand c.args.heap.now h []) (sym c.in_err-shared-in-Sound.ensures.same) (hand_none c.args.heap.now c.lawful.ensures))
