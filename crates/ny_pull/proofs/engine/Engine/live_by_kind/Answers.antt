use Rattle.std.proofs.Common.{ap, ◌∙◌}
use Rattle.ny_heap.specs.Kinds.{live_by_kind}
use Rattle.ny_pull.specs.Engine.{EngineState}
use Rattle.ny_pull.proofs.PullLemmas.{kinds_follow}
use Rattle.ny_pull.proofs.engine.Engine.live_by_kind.Goals as goal

pub returns-clause-planned : goal.returns-clause-planned
returns-clause-planned c = λ unspent.
    c.live_by_kind.ensures.kinds ∙ ap (λ (e : EngineState). live_by_kind e.heap) c.self.view_is
    ∙ kinds_follow _ _ _ _ _ _ _ _ c.self.invariant (ap (λ (e : EngineState). e.spent) c.self.view_is ∙ unspent) _ c.self.view_is
