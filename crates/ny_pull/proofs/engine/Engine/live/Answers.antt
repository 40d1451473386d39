use Rattle.std.proofs.Common.{ap, ◌∙◌}
use Rattle.ny_heap.specs.Heap.{live_of}
use Rattle.ny_pull.specs.Engine.{EngineState}
use Rattle.ny_pull.proofs.PullLemmas.{follows}
use Rattle.ny_pull.proofs.StateLemmas.{read_by_channels}
use Rattle.ny_pull.proofs.engine.Engine.live.Goals as goal

pub returns-clause-reached : goal.returns-clause-reached
returns-clause-reached c = read_by_channels _ _ _ _ _ _ _ _ _ c.self.view_is c.self.invariant

pub returns-clause-planned : goal.returns-clause-planned
returns-clause-planned c = λ unspent.
    c.live.ensures.live ∙ ap (λ (e : EngineState). live_of e.heap) c.self.view_is
    ∙ (follows _ _ _ _ _ _ _ _ c.self.invariant (ap (λ (e : EngineState). e.spent) c.self.view_is ∙ unspent) _ c.self.view_is).live
