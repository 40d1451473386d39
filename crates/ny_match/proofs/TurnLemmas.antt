-- A node whose parts come one after the other makes what the plan makes; and so, with it, does each evaluation.
use Rattle.std.proofs.Common.{◌≡◌, inr, ℕ, suc, ◌<◌, List, [], ◌∷◌, length, refl, sym, ap, subst, ◌∙◌, arith}
use Rattle.std.specs.List.{range_with_len}
use Rattle.ny_num.specs.declared.timing.Timing.{Timing}
use Rattle.ny_warp.specs.declared.env.Env.{Env}
use Rattle.ny_resolve.specs.declared.builtin.Order.TheVariants as order
use Rattle.ny_check.specs.declared.node.Node.{Node}
use Rattle.ny_check.specs.declared.node.Node.TheVariants as node
use Rattle.ny_check.specs.declared.value.Value.{Value}
use Rattle.ny_check.specs.declared.value.Value.TheVariants.{Number, Sound as SoundOf}
use Rattle.ny_check.specs.Code.{Code, node_at as node_in, IsBelow, IsOrdered}
use Rattle.ny_timing.specs.Timings.{timing_at}
use Rattle.ny_heap.specs.declared.sound.Sound.{Sound}
use Rattle.ny_heap.specs.Heap.{HeapState}
use Rattle.ny_heap.specs.Reach.{HeapLaws}
use Rattle.ny_hands.specs.declared.branch.Branch.{Branch}
use Rattle.ny_hands.specs.Frames.{Names}
use Rattle.ny_hands.specs.Hands.{AreNamed}
use Rattle.ny_trace.specs.Evaluates.{Trace, parts_of, counted_parts, timed_in, times_in, NodeTurn, Evaluates}
use Rattle.ny_trace.specs.Laws.{KeepsFree, IsLawful, in_turn}
use Rattle.ny_trace.specs.Plays.{EvaluatesAny}
use Rattle.ny_trace.proofs.EvaluationLemmas.{below_all, evaluates_lawful}
use Rattle.ny_trace.proofs.MixLemmas.{parts_are, counted_are}
use Rattle.ny_walk.proofs.ToldLemmas.{evaluates_told}
use Rattle.ny_plan.specs.Rows.{RowSound, Row, After, Step, and_then}
use Rattle.ny_plan.specs.Need.{Filled}
use Rattle.ny_plan.specs.Units.{Part as PlanPart, parts_in, mixed}
use Rattle.ny_plan.specs.Plan as plans
use Rattle.ny_plan.specs.Plan.{made_at, made}
use Rattle.ny_match.specs.Matched.{Seats, IsSound, IsValue, AreNames}
use Rattle.ny_match.specs.Born.{IsMatching}
use Rattle.ny_match.specs.Keeps.{KeepMade, KeepsMade}
use Rattle.ny_match.proofs.MadeLemmas.{made-is}
use Rattle.ny_match.proofs.TimesLemmas.{value_time, times, made_heard}
use Rattle.ny_match.proofs.UnitLemmas.{Turns, Fits}
use Rattle.ny_match.proofs.MixLemmas.{listed, counted, listed_are, listed_plan, counted_names_are, counted_plan}
use Rattle.ny_match.proofs.KeptLemmas.{listed_keep, counted_keep}
use Rattle.ny_match.proofs.SeqLemmas.{seq_turn}
use Rattle.ny_match.proofs.EvaluationLemmas.{IsInTurn, MatchesInTurn, HasKinds, evaluates_matching}

-- names are heard as the plan's
names_times : (row : ℕ → ℕ) (names : Names) (given_names : plans.Names) → AreNames row names given_names → times_in names ≡ times given_names
names_times row [] [] are = refl
names_times row [] (c ∷ cs) are = absurd are
names_times row (b ∷ bs) [] are = absurd are
names_times row (b ∷ bs) (c ∷ cs) are = λ i. (are.0 i, by_value b.1 c.1 are.1 i) ∷ names_times row bs cs are.2 i
  where
    by_value : (v : Value Sound) (w : Value RowSound) → IsValue row v w → timed_in v ≡ value_time w
    by_value (Number j) (Number k) is = ap (λ n. let q : Value Timing = Number n in q) is
    by_value (Number j) (SoundOf r) is = absurd is
    by_value (SoundOf s) (Number k) is = absurd is
    by_value (SoundOf s) (SoundOf r) is = ap (λ (t : Timing). let q : Value Timing = SoundOf t in q) is.timing

module _ (code : Code) (D : Trace) (law : IsLawful code D) (match : IsMatching code D) (e : ℕ) (inside : e < length code.nodes) (env : Env) (names : Names) (old new : HeapState Branch) (s : Sound) (laws : HeapLaws old) (named : AreNamed old names) (all : List Row) (filled : Filled) (seats : Seats) (given_names : plans.Names) (rows : List Row) (are : AreNames seats.row names given_names) where
  abbrev Gives : Step RowSound → Type 0
  Gives f = s.timing ≡ (After.gives (f rows)).timing → Fits code all filled old seats rows (f rows) → Turns code all filled old new seats (λ row. IsSound row s) rows (f rows)

  turn_gives : (at : Node) → IsBelow code.functions e at → KeepMade code (in_turn at) → IsInTurn at → NodeTurn D code e at env names old new s → Gives (made_at code at (made code) env given_names)
  turn_gives (node.Mix order.InTurn es) below keep turn step =
      subst (λ (ps : List PlanPart). Gives (and_then (parts_in order.InTurn env ps) (mixed env.sound_rate))) (listed_plan code given_names es)
      (λ told fits. seq_turn code D law match all filled e (parts_of names es) (listed given_names es) env names old new s seats rows step (parts_are (length code.nodes) old names named es (below_all e (length code.nodes) es (omega (arith, inside)) below)) laws (listed_are seats.row names given_names es are) (listed_keep code given_names es keep)
      (sym step.made.makes.result.timing ∙ told) fits)
  turn_gives (node.Repeat order.InTurn i k a) below keep turn step =
      subst (λ (ps : List PlanPart). Gives (and_then (parts_in order.InTurn env ps) (mixed env.sound_rate))) (counted_plan code given_names i k a)
      (λ told fits. seq_turn code D law match all filled e (counted_parts names i k a) (counted given_names i a (range_with_len 0 k)) env names old new s seats rows step (counted_are (length code.nodes) old names i k a named (omega (arith, below, inside))) laws (counted_names_are seats.row names given_names i k a are) (counted_keep code given_names i a (range_with_len 0 k) keep)
      (sym step.made.makes.result.timing ∙ told) fits)
  turn_gives _ below keep turn step = absurd turn

pub matches_in_turn : (code : Code) → IsOrdered code → KeepsFree code → KeepsMade code → (n : ℕ) → IsMatching code (Evaluates code n) → MatchesInTurn code (Evaluates code n)
matches_in_turn code ordered free keeps n match e env names old new s turn step inside laws named all filled seats given_names rows are fits =
    let below = ordered.each e inside in
    let is = made-is code e env given_names below in
    let told : s.timing ≡ (After.gives (made code e env given_names rows)).timing =
    evaluates_told code ordered (suc n) e env names old new s (inr step) inside ∙ (ap (timing_at code e env) (names_times seats.row names given_names are) ∙ sym (made_heard code e env given_names rows)) in
    let P : Step RowSound → Type 0 = λ f. s.timing ≡ (After.gives (f rows)).timing → Fits code all filled old seats rows (f rows) → Turns code all filled old new seats (λ row. IsSound row s) rows (f rows) in
    subst P (sym is) (turn_gives code (Evaluates code n) (evaluates_lawful code ordered free n) match e inside env names old new s laws named all filled seats given_names rows are (node_in code e) below (keeps e) turn step) told fits

-- an evaluation makes what the plan makes, however deep it is
pub evaluates_match : (code : Code) → IsOrdered code → KeepsFree code → KeepsMade code → ((n : ℕ) → HasKinds code (Evaluates code n)) → (n : ℕ) → IsMatching code (Evaluates code n)
evaluates_match code ordered free keeps kinds n = evaluates_matching code ordered free kinds (λ m match. matches_in_turn code ordered free keeps m match) n

pub any_match : (code : Code) → IsOrdered code → KeepsFree code → KeepsMade code → ((n : ℕ) → HasKinds code (Evaluates code n)) → IsMatching code (EvaluatesAny code)
any_match code ordered free keeps kinds e env names old new s t inside laws named all filled seats given_names rows m are first rest = evaluates_match code ordered free keeps kinds t.0 e env names old new s t.1 inside laws named all filled seats given_names rows m are first rest
