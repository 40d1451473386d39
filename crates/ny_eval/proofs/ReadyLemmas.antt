-- What waits is as ready as it was, where the units that are left wait for the same.
use Rattle.ny_check.specs.Code.{Code}
use Rattle.ny_heap.specs.Heap.{HeapState}
use Rattle.ny_hands.specs.declared.branch.Branch.{Branch}
use Rattle.ny_trace.proofs.HeightLemmas.{ComesFrom}
use Rattle.ny_walk.proofs.PartsStepLemmas.{parts_like}
use Rattle.ny_walk.proofs.FitStepLemmas.{fit_like}
use Rattle.ny_eval.specs.Ready.{IsReady}

pub ready_on : (code : Code) (old new : HeapState Branch) → ComesFrom old new → IsReady code old → IsReady code new
ready_on code old new from all = record { parts = parts_like code old new from all.parts; fits = fit_like code old new from all.fits }
