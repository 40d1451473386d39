use Rattle.std.proofs.Common.{◌≡◌, ◌≤◌, ◌+◌, ◌-◌, take, ap, ◌∙◌, arith, length}
use Rattle.ny_hands.specs.Frames.{Names}
use Rattle.ny_eval.specs.Framed.{FrameState}
use Rattle.ny_eval.proofs.FrameLemmas.{count_is, cut_taken, left_places, left_scalars}
use Rattle.ny_eval.proofs.frame.Frame.leave.Goals as goal

pub overflow_sub-outer-2 : goal.overflow_sub-outer-2
overflow_sub-outer-2 c =
    let i = c.self.inside in
    let count = count_is i.lent.now i.bound.items i.bound.items i.places c.self.invariant.0 in
    omega (arith, count, c.len.ensures, ap length c.as_slice.ensures.value)

pub invariant_of-self : goal.invariant_of-self
invariant_of-self c =
    let i = c.self.inside in
    let within = c.requires.within in
    let outer : c.len.result - (length c.as_slice.result.now - c.args.len) ≡ length i.lent.now + c.args.len =
    omega (arith, within, ap (λ (f : FrameState). length f.bound) c.self.view_is, count_is i.lent.now i.bound.items i.bound.items i.places c.self.invariant.0, c.len.ensures, ap length c.as_slice.ensures.value) in
    let size = ap (λ (f : FrameState). length f.bound) c.self.view_is in
    let shown = ap length c.as_mut_slice.ensures.value in
    let all = c.as_mut_slice.ensures.len in
    let long = c.give_up_after.auto.bound in
    let low : c.args.len ≤ i.bound.len = omega (arith, within, size, shown, all) in
    let few : c.args.len ≤ length c.give_up_after.new.bound = omega (arith, within, size, shown, long) in
    let items = c.truncate.ensures.items ∙ (cut_taken c.args.len i.bound.len c.give_up_after.new.bound _ low few ∙ c.give_up_after.ensures.kept ∙ ap (λ (ns : Names). take c.args.len ns) c.as_mut_slice.ensures.value) in
    (left_places i.lent.now i.bound.items c.truncate.new.self.items i.places c.leave.new.self _ c.args.len c.self.invariant.0 c.leave.ensures outer items, left_scalars i.lent.now i.bound.items c.truncate.new.self.items i.scalars c.leave-2.new.self _ c.args.len c.self.invariant.1 c.leave-2.ensures outer items)
