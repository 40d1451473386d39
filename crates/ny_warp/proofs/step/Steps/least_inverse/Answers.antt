use Rattle.std.proofs.Common.{◌≡◌, ℕ, ◌<◌, ◌≤◌, ◌+◌, arith, ◌∙◌, ap, List, drop}
use Rattle.ny_num.specs.Grid.{horizon}
use Rattle.ny_warp.specs.declared.step.Step.{Step}
use Rattle.ny_warp.specs.Warp.{through}
use Rattle.ny_warp.proofs.LeastInverse.{least_inverse-reached, least_inverse-none}
use Rattle.ny_warp.proofs.StepLists.{through-within, through-drop, drop-end}
use Rattle.ny_warp.proofs.step.Steps.least_inverse.Goals as goal

pub returns-in-None : goal.returns-in-None
returns-in-None c =
    let steps = c.steps-step-items.result.now in
    let same : steps ≡ c.args.self.now = c.steps-step-items.ensures in
    let before : (v : ℕ) → v < c.of.result → through steps v < c.args.t =
    λ v h.
    let inner = through (drop (c.loop-step.step-index + 1) steps) v in
    let inside : inner ≤ horizon = through-within (drop (c.loop-step.step-index + 1) steps) v (omega arith) in
    let low = c.in-None.ensures.none inner inside in
    let next = through-drop steps c.loop-step.step-index c.step-item.result v (omega arith) c.step-item.is in
    c.loop-step.invariant.before v (omega arith) (omega arith) in
    rw (← same) (least_inverse-none steps c.args.t c.of.result c.of.ensures before)

pub returns : goal.returns
returns c =
    let steps = c.steps-step-items.result.now in
    let same : steps ≡ c.args.self.now = c.steps-step-items.ensures in
    let none = drop-end steps c.loop-step.step-index (omega arith) in
    let rest : (v : ℕ) → through (drop c.loop-step.step-index steps) v ≡ v = λ v. ap (λ (l : List Step). through l v) none in
    let before : (v : ℕ) → v < c.loop-step.least → through steps v < c.args.t =
    λ v h. let e = rest v in c.loop-step.invariant.before v (omega arith) (omega arith) in
    let here : c.args.t ≤ through steps c.loop-step.least =
    let e = rest c.loop-step.least in c.loop-step.invariant.reaches c.loop-step.least c.loop-step.invariant.within (omega arith) in
    rw (← same) (least_inverse-reached steps c.args.t c.loop-step.least c.loop-step.invariant.within before here)
