use Rattle.std.proofs.Common.{◌++◌, [], ◌∷◌, ◌∙◌, ap}
use Rattle.ny_hands.specs.Frames.{Names}
use Rattle.ny_eval.proofs.FrameLemmas.{bound_places, bound_scalars}
use Rattle.ny_eval.proofs.frame.Frame.bind.Goals as goal

pub invariant_of-self-in-Ok-bind_both : goal.invariant_of-self-in-Ok-bind_both
invariant_of-self-in-Ok-bind_both c =
    let i = c.self.inside in
    let items = c.push_reserved.ensures.items ∙ ap (λ (ns : Names). ns ++ (c.args.name, c.args.value) ∷ []) c.reserve.ensures.items in (
      bound_places i.lent.now i.bound.items c.push_reserved.new.self.items i.places c.bind_both.new.places c.args.name c.args.value c.self.invariant.0 c.in-Ok-bind_both.ensures.places items,
      bound_scalars i.lent.now i.bound.items c.push_reserved.new.self.items i.scalars c.bind_both.new.scalars c.args.name c.args.value c.scalar_in-scalar.result c.self.invariant.1 c.scalar_in-scalar.ensures c.in-Ok-bind_both.ensures.scalars items,
    )
