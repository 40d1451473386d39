use Rattle.ny_match.proofs.KindLemmas.{has_kinds}
use Rattle.ny_match.proofs.TurnLemmas.{evaluates_match}
use Rattle.ny_match.proofs.WholeLemmas.{walk_matched, stop_matched}
use Rattle.ny_match.proofs.walks.walk_law.Goals as goal

pub returns-clause-walks : goal.returns-clause-walks
returns-clause-walks c = λ code ordered free keeps tall is_tall rows all top last n old new u left us x there opened ranked f seats rests walk.
    walk_matched code ordered free (evaluates_match code ordered free keeps (has_kinds code)) tall is_tall rows all top last n old new u left us x there opened ranked f seats rests walk

pub returns-clause-stops : goal.returns-clause-stops
returns-clause-stops c = λ code ordered free keeps tall is_tall rows all top last n old new u left us x there opened ranked f seats rests walk within.
    stop_matched code ordered free (evaluates_match code ordered free keeps (has_kinds code)) tall is_tall rows all top last n old new u left us x there opened ranked f seats rests walk within
