-- The evaluation of what is played leaves what is known of the parts that wait.
use Rattle.std.proofs.Common.{ℕ, ◌<◌, List, length}
use Rattle.ny_warp.specs.declared.env.Env.{Env}
use Rattle.ny_check.specs.Code.{Code, IsOrdered}
use Rattle.ny_heap.specs.declared.sound.Sound.{Sound}
use Rattle.ny_heap.specs.Heap.{HeapState}
use Rattle.ny_hands.specs.declared.branch.Branch.{Branch}
use Rattle.ny_hands.specs.Frames.{Names}
use Rattle.ny_trace.specs.Laws.{KeepsFree}
use Rattle.ny_trace.specs.Plays.{Plays}
use Rattle.ny_trace.proofs.PlaysKeepLemmas.{plays_keeps}
use Rattle.ny_walk.specs.Parts.{AllPartsOf}
use Rattle.ny_walk.specs.Fits.{Fits}
use Rattle.ny_walk.proofs.PartsLemmas.{evaluates_parts}
use Rattle.ny_walk.proofs.PartsStepLemmas.{parts_released}
use Rattle.ny_walk.proofs.FitLemmas.{evaluates_fit}
use Rattle.ny_walk.proofs.FitStepLemmas.{fit_released}

pub plays_parts : (code : Code) → IsOrdered code → (n e : ℕ) (env : Env) (names : Names) (old new : HeapState Branch) (ss : List Sound) → Plays code n e env names old new ss → e < length code.nodes → AllPartsOf code old → AllPartsOf code new
plays_parts code ordered =
    plays_keeps code (AllPartsOf code) ordered (λ e env names old new s t inside all. evaluates_parts code ordered t.0 e env names old new s t.1 inside all) (λ old new ss step all. parts_released code old new ss step all)

pub plays_fit : (code : Code) → IsOrdered code → KeepsFree code → (n e : ℕ) (env : Env) (names : Names) (old new : HeapState Branch) (ss : List Sound) → Plays code n e env names old new ss → e < length code.nodes → Fits code old → Fits code new
plays_fit code ordered free =
    plays_keeps code (Fits code) ordered (λ e env names old new s t inside all. evaluates_fit code ordered free t.0 e env names old new s t.1 inside all) (λ old new ss step all. fit_released code old new ss step all)
