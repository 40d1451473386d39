use Rattle.std.proofs.Common.{◌++◌, ap, ◌∙◌, arith, length, get_or, length-append}
use Rattle.ny_hands.specs.Frames.{Names}
use Rattle.ny_scope.specs.Scopes.{last_of}
use Rattle.ny_resolve.specs.Keys.{same_name}
use Rattle.ny_eval.specs.Framed.{FrameState, names_in}
use Rattle.ny_eval.proofs.FrameLemmas.{find_within, find_is, find_none}
use Rattle.ny_eval.proofs.frame.Frame.find.Goals as goal

pub value_at-requires : goal.value_at-requires
value_at-requires c =
    let i = c.self.inside in
    omega (arith, find_within (same_name c.args.x) (i.lent.now ++ i.bound.items) i.places c.self.invariant.0 c.find.result c.in-Some.place c.find.ensures c.in-Some.is, length-append i.lent.now i.bound.items, ap length c.as_slice.ensures.value)

pub returns-in-None : goal.returns-in-None
returns-in-None c =
    let i = c.self.inside in
    find_none (same_name c.args.x) (i.lent.now ++ i.bound.items) i.places c.self.invariant.0 c.find.result c.find.ensures c.in-None.is ∙ ap (λ (f : FrameState). last_of (same_name c.args.x) (names_in f)) c.self.view_is

pub returns-in-Some : goal.returns-in-Some
returns-in-Some c =
    let i = c.self.inside in
    find_is (same_name c.args.x) (i.lent.now ++ i.bound.items) i.places c.self.invariant.0 c.find.result c.in-Some.place c.value_at.result.now c.find.ensures c.in-Some.is (λ other. c.value_at.ensures other ∙ ap (λ (ns : Names). (get_or (i.lent.now ++ ns) c.in-Some.place other).1) c.as_slice.ensures.value) ∙ ap (λ (f : FrameState). last_of (same_name c.args.x) (names_in f)) c.self.view_is
