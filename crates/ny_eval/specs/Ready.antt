-- What is known of the parts that wait, so that each can be revealed when it falls due.
use Rattle.ny_check.specs.Code.{Code}
use Rattle.ny_heap.specs.Heap.{HeapState}
use Rattle.ny_hands.specs.declared.branch.Branch.{Branch}
use Rattle.ny_walk.specs.Parts.{AllPartsOf}
use Rattle.ny_walk.specs.Fits.{Fits}

-- each is of the program, has all that it keeps, and ends within its unit
pub record IsReady (code : Code) (h : HeapState Branch) : Type 0 where
  pub parts : AllPartsOf code h
  pub fits : Fits code h
