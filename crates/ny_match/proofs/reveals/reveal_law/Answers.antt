use Rattle.ny_match.proofs.KindLemmas.{has_kinds}
use Rattle.ny_match.proofs.TurnLemmas.{evaluates_match}
use Rattle.ny_match.proofs.WholeLemmas.{part_matched}
use Rattle.ny_match.proofs.reveals.reveal_law.Goals as goal

pub returns : goal.returns
returns c = record {
  reveals = λ code ordered free keeps all f old new seats u laws turn m. part_matched code ordered free (evaluates_match code ordered free keeps (has_kinds code)) all f old new seats u laws turn m;
}
