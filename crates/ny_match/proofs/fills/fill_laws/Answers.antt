use Rattle.ny_match.proofs.FillLemmas.{Fills-matched}
use Rattle.ny_match.proofs.LiveLemmas.{matches, matched_live, matched_by_kind, matched_come}
use Rattle.ny_match.proofs.fills.fill_laws.Goals as goal

pub returns-clause-fills : goal.returns-clause-fills
returns-clause-fills c = λ code all f old new seats u turn size m. Fills-matched code all f old new seats u turn.fills size m

pub returns-clause-come : goal.returns-clause-come
returns-clause-come c = λ code all f h seats settled m u k unit i there opened at. matched_come code all f h seats settled m u k unit i there opened at

pub returns-clause-stands : goal.returns-clause-stands
returns-clause-stands c = λ code all f h seats settled m roots. matches code all f h seats settled m roots

pub returns-clause-live : goal.returns-clause-live
returns-clause-live c = λ code all f h seats laws settled m roots ordered. matched_live code all f h seats laws settled m roots ordered

pub returns-clause-by_kind : goal.returns-clause-by_kind
returns-clause-by_kind c = λ kinds code all f h seats laws settled m roots ordered. matched_by_kind kinds code all f h seats laws settled m roots ordered
