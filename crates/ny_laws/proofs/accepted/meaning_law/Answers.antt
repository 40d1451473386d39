use Rattle.ny_laws.proofs.AcceptedKinds.{plays_kind, playable, played_count, channel_count}
use Rattle.ny_laws.proofs.ReachedKinds.{reached_have_meaning}
use Rattle.ny_laws.proofs.accepted.meaning_law.Goals as goal

pub returns-clause-playable : goal.returns-clause-playable
returns-clause-playable c = playable c.args.program.now (plays_kind c.args.program.now c.text_law.ensures.accepted)

pub returns-clause-reached : goal.returns-clause-reached
returns-clause-reached c = reached_have_meaning c.args.program.now c.order_law.ensures.ordered (plays_kind c.args.program.now c.text_law.ensures.accepted)

pub returns-clause-played : goal.returns-clause-played
returns-clause-played c = played_count c.args.program.now c.order_law.ensures.ordered (plays_kind c.args.program.now c.text_law.ensures.accepted)

pub returns-clause-channels : goal.returns-clause-channels
returns-clause-channels c = channel_count c.args.program.now c.order_law.ensures.ordered (plays_kind c.args.program.now c.text_law.ensures.accepted)
