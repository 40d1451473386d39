use Rattle.ny_match.proofs.LastRowLemmas.{plan_has_channels}
use Rattle.ny_match.proofs.RootLemmas.{roots_read, channel_stands, opens_before}
use Rattle.ny_match.proofs.ReadLemmas.{read_matched, spent_matched}
use Rattle.ny_match.proofs.channels.channel_laws.Goals as goal

pub returns-clause-last : goal.returns-clause-last
returns-clause-last c = λ code rate. plan_has_channels code rate

pub returns-clause-roots : goal.returns-clause-roots
returns-clause-roots c = λ p f h seats sounds channels reading. roots_read p f h seats sounds channels reading

pub returns-clause-stands : goal.returns-clause-stands
returns-clause-stands c = λ h s n pulls unit some there list held shown only place less. channel_stands h s n pulls unit some there list held shown only place less

pub returns-clause-opens : goal.returns-clause-opens
returns-clause-opens c = λ block done x some. opens_before block done x some

pub returns-clause-reads : goal.returns-clause-reads
returns-clause-reads c = λ code all f old new seats s t trimmed m. read_matched code all f old new seats s t trimmed m

pub returns-clause-given_up : goal.returns-clause-given_up
returns-clause-given_up c = λ code all f old new seats s trimmed m. spent_matched code all f old new seats s trimmed m
