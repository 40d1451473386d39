-- A part of the program that is revealed, and a walk of such turns.
use Rattle.std.proofs.Common.{◌≡◌, ℕ, ◌+◌, ◌<◌, List, ◌∷◌, length, Some, IsSome, sym, subst, arith}
use Rattle.ny_check.specs.Code.{Code, IsOrdered}
use Rattle.ny_heap.specs.Heap.{Waiting, Node, HeapState, node_at, free_of}
use Rattle.ny_heap.specs.Reach.{HeapLaws}
use Rattle.ny_heap.specs.Steps.{waiting_of}
use Rattle.ny_hands.specs.declared.branch.Branch.{Branch}
use Rattle.ny_hands.proofs.OptionLemmas.{some_there}
use Rattle.ny_trace.specs.Heights.{IsTall, IsRising}
use Rattle.ny_trace.specs.Laws.{KeepsFree, IsLawful}
use Rattle.ny_trace.specs.Settled.{IsSettling}
use Rattle.ny_trace.proofs.EvaluationLemmas.{evaluates_lawful}
use Rattle.ny_trace.proofs.RisingEvaluationLemmas.{evaluates_rising}
use Rattle.ny_trace.proofs.SettlingLemmas.{evaluates_settling}
use Rattle.ny_walk.specs.Walk.{EvaluatesIn, PartTurn, WalksWants, FillsThen, WalksInOrder, Walks}
use Rattle.ny_walk.specs.Stops.{StopsAtFull, RunsOut, NoneWaits}
use Rattle.ny_walk.specs.Parts.{IsMakingParts}
use Rattle.ny_walk.specs.Fits.{Fits, IsTold, IsFitting}
use Rattle.ny_walk.specs.Below.{IsSettled, IsRanked, Walked, Stopped, Revealed, WantsSoFar, RevealsSoFar}
use Rattle.ny_walk.specs.Heard.{StaysHeard}
use Rattle.ny_walk.proofs.HeardLemmas.{stays_heard}
use Rattle.ny_walk.proofs.PartsLemmas.{evaluates_parts}
use Rattle.ny_walk.proofs.ToldLemmas.{evaluates_told}
use Rattle.ny_walk.proofs.FitLemmas.{evaluates_fit}
use Rattle.ny_walk.proofs.FitRevealLemmas.{turn_fits}
use Rattle.ny_walk.proofs.RevealLemmas.{turn_reveals}
use Rattle.ny_walk.proofs.WalkLemmas.{wants_leave, fills_leave, walk_leaves, stop_leaves, stops_full}
use Rattle.ny_walk.proofs.QuietLemmas.{quiet_walk, quiet_enough}
use Rattle.ny_walk.proofs.PlainLemmas.{only_one}

lawful_in : (code : Code) → IsOrdered code → KeepsFree code → IsLawful code (EvaluatesIn code)
lawful_in code ordered free e env names old new s t inside laws named = evaluates_lawful code ordered free t.0 e env names old new s t.1 inside laws named

rising_in : (code : Code) → IsOrdered code → KeepsFree code → (tall : ℕ → ℕ) → IsTall code tall → IsRising code tall (EvaluatesIn code)
rising_in code ordered free tall is e env names old new s t inside laws named rank base ranks low = evaluates_rising code ordered free tall is t.0 e env names old new s t.1 inside laws named rank base ranks low

settling_in : (code : Code) → IsSettling (EvaluatesIn code)
settling_in code e env names old new s t but all = evaluates_settling code t.0 e env names old new s t.1 but all

making_in : (code : Code) → IsOrdered code → IsMakingParts code (EvaluatesIn code)
making_in code ordered e env names old new s t inside all = evaluates_parts code ordered t.0 e env names old new s t.1 inside all

told_in : (code : Code) → IsOrdered code → IsTold code (EvaluatesIn code)
told_in code ordered e env names old new s t inside = evaluates_told code ordered t.0 e env names old new s t.1 inside

fitting_in : (code : Code) → IsOrdered code → KeepsFree code → IsFitting code (EvaluatesIn code)
fitting_in code ordered free e env names old new s t inside all = evaluates_fit code ordered free t.0 e env names old new s t.1 inside all

pub part_reveals : (code : Code) → IsOrdered code → KeepsFree code → (tall : ℕ → ℕ) → IsTall code tall → (old new : HeapState Branch) (u : ℕ) → HeapLaws old → PartTurn code old u new → Revealed code tall old new u
part_reveals code ordered free tall is old new u laws part =
    turn_reveals code (EvaluatesIn code) (lawful_in code ordered free) tall (rising_in code ordered free tall is) (settling_in code) (making_in code ordered) (told_in code ordered) (fitting_in code ordered free) old new u part.turn laws part.inside

-- a reveal leaves parts that fit
pub part_turn_fits : (code : Code) → IsOrdered code → KeepsFree code → (old new : HeapState Branch) (u : ℕ) → HeapLaws old → PartTurn code old u new → Fits code old → Fits code new
part_turn_fits code ordered free old new u laws part all = turn_fits code (EvaluatesIn code) (lawful_in code ordered free) (told_in code ordered) (fitting_in code ordered free) old new u part.turn laws part.inside all

pub part_waits : (code : Code) (old new : HeapState Branch) (u : ℕ) → PartTurn code old u new → (x : Node Branch) × (node_at old u ≡ Some x) × (0 < length x.waiting)
part_waits code old new u part =
    let hands = part.turn.part.takes.hands in
    (hands.unit, hands.was, some_of hands.unit.waiting (waiting_of (part.turn.part.branch, part.turn.part.captured)) hands.rest hands.waits)
  where
    some_of : (ws : List (Waiting Branch)) (p : Waiting Branch) (rest : List (Waiting Branch)) → ws ≡ p ∷ rest → 0 < length ws
    some_of ws p rest is = subst (λ (qs : List (Waiting Branch)). 0 < length qs) (sym is) (omega arith)

module _ (code : Code) (n : ℕ) (old new : HeapState Branch) (u : ℕ) (us : List ℕ) where
  pub walked : IsOrdered code → KeepsFree code → (tall : ℕ → ℕ) → IsTall code tall → (left : ℕ) → IsSome (node_at old u) → HeapLaws old → IsSettled old → IsRanked tall old u left → Walks code n old u us new → Walked code tall old new u
  walked ordered free tall is left there laws settled ranked walk =
      let x = some_there (node_at old u) there in
      walk_leaves code tall (PartTurn code) (part_reveals code ordered free tall is) n old new u left us x.0 x.1 laws settled ranked walk

  pub stopped : IsOrdered code → KeepsFree code → (tall : ℕ → ℕ) → IsTall code tall → (left : ℕ) → IsSome (node_at old u) → HeapLaws old → IsSettled old → IsRanked tall old u left → StopsAtFull code n old u us new → Stopped code tall old new u
  stopped ordered free tall is left there laws settled ranked walk =
      let x = some_there (node_at old u) there in
      stop_leaves code tall (PartTurn code) (part_reveals code ordered free tall is) n old new u left us x.0 x.1 laws settled ranked walk

  pub walked_heard : IsOrdered code → KeepsFree code → (tall : ℕ → ℕ) → IsTall code tall → (left : ℕ) → IsSome (node_at old u) → HeapLaws old → IsSettled old → IsRanked tall old u left → Walks code n old u us new → StaysHeard code old new
  walked_heard ordered free tall is left there laws settled ranked walk =
      let d = (walked ordered free tall is left there laws settled ranked walk).drives ranked.rank ranked.ranks in
      stays_heard code tall old new ranked.rank (ranked.rank u + 1) d.below

  pub stopped_heard : IsOrdered code → KeepsFree code → (tall : ℕ → ℕ) → IsTall code tall → (left : ℕ) → IsSome (node_at old u) → HeapLaws old → IsSettled old → IsRanked tall old u left → StopsAtFull code n old u us new → StaysHeard code old new
  stopped_heard ordered free tall is left there laws settled ranked walk =
      stays_heard code tall old new ranked.rank (ranked.rank u) ((stopped ordered free tall is left there laws settled ranked walk).below ranked.rank ranked.ranks)

  pub stopped_full : StopsAtFull code n old u us new → free_of new ≡ 0
  stopped_full walk = stops_full (PartTurn code) n old new u us walk

  pub none_waits : Walks code n old u us new → NoneWaits old → NoneWaits new
  none_waits walk none = quiet_walk (PartTurn code) (part_waits code) n old new u us walk none

  pub never_out : RunsOut code n old u us new → NoneWaits old → ⊥
  never_out walk none = quiet_enough (PartTurn code) (part_waits code) n old new u us walk none

-- from one heap where no part waits, a walk either ends or stops
pub ends_only : (code : Code) (n m : ℕ) (old new stop : HeapState Branch) (u : ℕ) (us ws : List ℕ) → NoneWaits old → Walks code n old u us new → StopsAtFull code m old u ws stop → ⊥
ends_only code n m old new stop u us ws none ends stops = only_one (PartTurn code) (part_waits code) n m old new stop u us ws none ends stops

-- ---- in the midst of a walk

module _ (code : Code) (ordered : IsOrdered code) (free : KeepsFree code) (tall : ℕ → ℕ) (is : IsTall code tall) (n : ℕ) (old : HeapState Branch) (u left : ℕ) (us : List ℕ) (x : Node Branch) (there : node_at old u ≡ Some x) (laws : HeapLaws old) (settled : IsSettled old) (ranked : IsRanked tall old u left) where
  pub wants_so_far : (k : ℕ) (mid : HeapState Branch) → WalksWants (WalksInOrder (PartTurn code) n) k old u us mid → WantsSoFar code tall old mid u left
  wants_so_far k mid walk =
      wants_leave code tall (PartTurn code) (part_reveals code ordered free tall is) (WalksInOrder (PartTurn code) n) (walk_leaves code tall (PartTurn code) (part_reveals code ordered free tall is) n) k old mid u left us x there laws settled ranked walk

  pub reveals_so_far : (new : HeapState Branch) → FillsThen (WalksInOrder (PartTurn code) n) (PartTurn code) old u us new → RevealsSoFar code tall old new u
  reveals_so_far new walk =
      fills_leave code tall (PartTurn code) (part_reveals code ordered free tall is) (WalksInOrder (PartTurn code) n) (walk_leaves code tall (PartTurn code) (part_reveals code ordered free tall is) n) old new u left us x there laws settled ranked walk
