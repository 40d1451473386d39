use Rattle.std.proofs.Common.{ap, ◌∙◌}
use Rattle.ny_pull.specs.Engine.{EngineState}
use Rattle.ny_pull.proofs.PullLemmas.{follows}
use Rattle.ny_pull.proofs.engine.Engine.fills.Goals as goal

pub returns-clause-planned : goal.returns-clause-planned
returns-clause-planned c = λ unspent.
    c.fills.ensures.fills ∙ ap (λ (e : EngineState). e.heap.fills) c.self.view_is
    ∙ (follows _ _ _ _ _ _ _ _ c.self.invariant (ap (λ (e : EngineState). e.spent) c.self.view_is ∙ unspent) _ c.self.view_is).fills
