-- What is played makes what the plan makes: node by node, and by induction on the depth of its trace.
use Rattle.std.proofs.Common.{◌≡◌, inl, inr, ℕ, zero, suc, ◌<◌, Bool, true, false, if◌then◌else◌, List, [], ◌∷◌, ◌++◌, zip, take, length, refl, sym, ap, subst, arith}
use Rattle.ny_warp.specs.declared.env.Env.{Env}
use Rattle.ny_check.specs.declared.node.ExprId.{ExprId}
use Rattle.ny_check.specs.declared.node.Node.{Node}
use Rattle.ny_check.specs.declared.node.Node.TheVariants as node
use Rattle.ny_check.specs.Code.{Code, node_at as node_in, function_at, IsBelow, IsOrdered}
use Rattle.ny_check.specs.Values.{scalars_of, test_of}
use Rattle.ny_heap.specs.declared.sound.Sound.{Sound}
use Rattle.ny_heap.specs.Heap.{HeapState}
use Rattle.ny_heap.specs.Reach.{HeapLaws}
use Rattle.ny_hands.specs.declared.branch.Branch.{Branch}
use Rattle.ny_hands.specs.Frames.{Names, sounds_among}
use Rattle.ny_hands.specs.Hands.{AreNamed}
use Rattle.ny_trace.specs.Evaluates.{Trace, parts_of, sounds_of_values}
use Rattle.ny_trace.specs.Laws.{IsLawful}
use Rattle.ny_trace.specs.Plays.{PlaysTrace, EvaluatesAny, PlaysOne, PlaysNode, Plays}
use Rattle.ny_trace.proofs.BlockLemmas.{below_first, binds_come, binds_leave, args_come, args_leave}
use Rattle.ny_trace.proofs.EvaluationLemmas.{below_all, below_binds}
use Rattle.ny_trace.proofs.MixLemmas.{parts_are}
use Rattle.ny_plan.specs.Rows.{RowSound, Row, Step, given, and_then, each}
use Rattle.ny_plan.specs.Need.{Filled}
use Rattle.ny_plan.specs.Units.{Part as PlanPart}
use Rattle.ny_plan.specs.Plan as plans
use Rattle.ny_plan.specs.Plan.{value_of, names_after, made, operand, played_at, played}
use Rattle.ny_match.specs.Matched.{IsFirst, Seats, AreNames}
use Rattle.ny_match.specs.Born.{AreSounds, IsMatching}
use Rattle.ny_match.proofs.GrowLemmas.{grows_each, made_grows, grows_value, grows_names, played_grows}
use Rattle.ny_match.proofs.MadeLemmas.{played-is}
use Rattle.ny_match.proofs.BornLemmas.{grew_then}
use Rattle.ny_match.proofs.UnitLemmas.{Turns, Fits, fits_first, fits_next, grew_released}
use Rattle.ny_match.proofs.NameLemmas.{same_scalars}
use Rattle.ny_match.proofs.FrameLemmas.{made_turn_of, binds_turn, args_turn}
use Rattle.ny_match.proofs.MixLemmas.{plan_parts, listed, listed_are, parts_turn}

-- what is played makes what the plan makes, and the sounds in hand are the plan's
abbrev pub PlaysMatching : Code → PlaysTrace → Type 0
PlaysMatching code P =
    (e : ℕ) (env : Env) (names : Names) (old new : HeapState Branch) (ss : List Sound) → P e env names old new ss → e < length code.nodes → HeapLaws old → AreNamed old names →
    (all : List Row) (filled : Filled) (seats : Seats) (given_names : plans.Names) (rows : List Row) → AreNames seats.row names given_names →
    Fits code all filled old seats rows (played code e env given_names rows) → Turns code all filled old new seats (λ row rs. AreSounds row ss rs) rows (played code e env given_names rows)

vector_plan : (code : Code) (env : Env) (names : plans.Names) (es : List ExprId) → each (λ (part : PlanPart). part.sound env) (plan_parts code (listed names es)) ≡ each (operand code env names) es
vector_plan code env names [] = refl
vector_plan code env names (e ∷ es) = ap (λ (rest : Step (List RowSound)). and_then (made code e.0 env names) (λ b. and_then rest (λ bs. given (b ∷ bs)))) (vector_plan code env names es)

module _ (code : Code) (D : Trace) (law : IsLawful code D) (match : IsMatching code D) (P : PlaysTrace) (plays : PlaysMatching code P) (all : List Row) (filled : Filled) (env : Env) (names : Names) (given_names : plans.Names) (old new : HeapState Branch) (ss : List Sound) (seats : Seats) (rows : List Row) (laws : HeapLaws old) (named : AreNamed old names) (are : AreNames seats.row names given_names) (e : ℕ) (inside : e < length code.nodes) where
  abbrev Gives : Step (List RowSound) → Type 0
  Gives f = Fits code all filled old seats rows (f rows) → Turns code all filled old new seats (λ row rs. AreSounds row ss rs) rows (f rows)

  one_gives : PlaysOne D e env names old new ss → Gives (and_then (made code e env given_names) (λ s. given (s ∷ [])))
  one_gives step fits =
      let t = made_turn_of code D law match all filled e env names given_names old new step.0 seats rows step.1 inside laws named are (record { matched = fits.matched; first = fits.first; free = fits.free }) in
      let x = made code e env given_names rows in
      (t.0, t.1, subst (λ ts. AreSounds t.0.row ts (x.gives ∷ [])) (sym step.2) (t.2, tt))

  node_plays : (at : Node) → IsBelow code.functions e at → PlaysNode D P code e at env names old new ss → Gives (played_at code e at (played code) env given_names)
  node_plays (node.Vector es) below step =
      subst Gives (vector_plan code env given_names es)
      (parts_turn code D law match all filled env (parts_of names es) (listed given_names es) old new ss seats rows (parts_are (length code.nodes) old names named es (below_all e (length code.nodes) es (omega (arith, inside)) below)) laws (listed_are seats.row names given_names es are) step)
  node_plays (node.Call f es) below step = λ fits.
      let params = (function_at code f.0).params in
      let body : ℕ = (function_at code f.0).body.0 in
      let under = below_all e (length code.nodes) es (omega (arith, inside)) below.0 in
      let x = each (value_of code (made code) env given_names) es rows in
      let last = played code body env (zip params x.gives) x.rows in
      let more : IsFirst rows x.rows = grows_each (value_of code (made code) env given_names) (grows_value code (made code) (made_grows code) env given_names) es rows in
      let rest : IsFirst x.rows last.rows = played_grows code body env (zip params x.gives) x.rows in
      let t = args_turn code D law match all filled env names given_names params es old step.mid step.values seats rows under laws named are step.arguments (fits_first code all filled old seats rows x last more rest fits) in
      let first : List ExprId = take (length params) es in
      let comes = args_come code D law env names first old step.mid step.values (below_first (length params) (length code.nodes) es under) laws named step.arguments in
      let left = args_leave code D law params es env names old step.mid step.values under laws named step.arguments in
      let u = plays body env (zip params step.values) step.mid step.end ss step.inside (omega (arith, below.2, inside)) left.0 left.1 all filled t.0 (zip params x.gives) x.rows t.2 (fits_next code all filled old step.mid seats t.0 rows x.rows last more rest t.1 fits) in (
        u.0,
        grew_released code all filled old step.end new seats u.0 (length rows) (length last.rows) (sounds_of_values step.values) step.given_up
            (grew_then code all filled old step.mid step.end seats t.0 u.0 (length rows) (length x.rows) (length last.rows) more.short rest.short comes.hand.kept t.1 u.1),
        u.2,
      )
  node_plays (node.Block bs a) below step = λ fits.
      let under = below_binds e (length code.nodes) bs (omega (arith, inside)) below.0 in
      let x = names_after code (made code) env bs given_names rows in
      let last = played code a.0 env x.gives x.rows in
      let more : IsFirst rows x.rows = grows_names code (made code) (made_grows code) env bs given_names rows in
      let rest : IsFirst x.rows last.rows = played_grows code a.0 env x.gives x.rows in
      let t = binds_turn code D law match all filled env bs names given_names old step.mid step.added seats rows under laws named are step.binds (fits_first code all filled old seats rows x last more rest fits) in
      let comes = binds_come code D law env bs names old step.mid step.added under laws named step.binds in
      let left = binds_leave code D law env bs names old step.mid step.added under laws named step.binds in
      let u = plays a.0 env (names ++ step.added) step.mid step.end ss step.body (omega (arith, below.1, inside)) left.0 left.1 all filled t.0 x.gives x.rows t.2 (fits_next code all filled old step.mid seats t.0 rows x.rows last more rest t.1 fits) in (
        u.0,
        grew_released code all filled old step.end new seats u.0 (length rows) (length last.rows) (sounds_among step.added) step.given_up
            (grew_then code all filled old step.mid step.end seats t.0 u.0 (length rows) (length x.rows) (length last.rows) more.short rest.short comes.hand.kept t.1 u.1),
        u.2,
      )
  node_plays (node.If c a b) below step =
      subst (λ q. Gives (if test_of code c q then played code a.0 env given_names else played code b.0 env given_names)) (same_scalars seats.row names given_names are) (chosen (test_of code c (scalars_of names)) step)
    where
      chosen : (t : Bool) → P (if t then a.0 else b.0) env names old new ss → Gives (if t then played code a.0 env given_names else played code b.0 env given_names)
      chosen true step fits = plays a.0 env names old new ss step (omega (arith, below.1, inside)) laws named all filled seats given_names rows are fits
      chosen false step fits = plays b.0 env names old new ss step (omega (arith, below.2, inside)) laws named all filled seats given_names rows are fits
  node_plays (node.Number v) below step = one_gives step
  node_plays (node.Local x) below step = one_gives step
  node_plays (node.Global a) below step = one_gives step
  node_plays (node.Pair op a b) below step = one_gives step
  node_plays (node.Div a v) below step = one_gives step
  node_plays (node.Neg a) below step = one_gives step
  node_plays (node.Compare r a b) below step = one_gives step
  node_plays (node.And a b) below step = one_gives step
  node_plays (node.Or a b) below step = one_gives step
  node_plays (node.Not a) below step = one_gives step
  node_plays (node.Leaf g es) below step = one_gives step
  node_plays (node.Effect fx a es) below step = one_gives step
  node_plays (node.Cue a) below step = one_gives step
  node_plays (node.Mix o es) below step = one_gives step
  node_plays (node.Repeat o i k a) below step = one_gives step
  node_plays (node.Change c a) below step = one_gives step

pub plays_matching : (code : Code) → IsOrdered code → IsLawful code (EvaluatesAny code) → IsMatching code (EvaluatesAny code) → (n : ℕ) → PlaysMatching code (Plays code n)
plays_matching code ordered law match zero e env names old new ss t inside laws named all filled seats given_names rows are fits = absurd t
plays_matching code ordered law match (suc n) e env names old new ss (inl t) inside laws named all filled seats given_names rows are fits = plays_matching code ordered law match n e env names old new ss t inside laws named all filled seats given_names rows are fits
plays_matching code ordered law match (suc n) e env names old new ss (inr t) inside laws named all filled seats given_names rows are fits =
    let is = played-is code e env given_names (ordered.each e inside) in
    let P : Step (List RowSound) → Type 0 = λ f. Fits code all filled old seats rows (f rows) → Turns code all filled old new seats (λ row rs. AreSounds row ss rs) rows (f rows) in
    subst P (sym is)
    (node_plays code (EvaluatesAny code) law match (Plays code n) (plays_matching code ordered law match n) all filled env names given_names old new ss seats rows laws named are e inside (node_in code e) (ordered.each e inside) t) fits
