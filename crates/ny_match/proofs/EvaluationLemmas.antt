-- An evaluation makes what the plan makes: node by node, and by induction on the depth of its trace.
use Rattle.std.proofs.Common.{◌≡◌, inl, inr, ℕ, zero, suc, ◌<◌, Bool, true, false, if◌then◌else◌, List, [], map, length, Option, None, Some, refl, sym, ap, subst, arith, ℤ}
use Rattle.std.specs.List.{range_with_len}
use Rattle.ny_kernels.specs.declared.operation.Op.{Op}
use Rattle.ny_warp.specs.declared.env.Env.{Env}
use Rattle.ny_scope.specs.Scopes.{last_of}
use Rattle.ny_resolve.specs.Keys.{same_name}
use Rattle.ny_resolve.specs.declared.builtin.Order.TheVariants as order
use Rattle.ny_check.specs.declared.node.ExprId.{ExprId}
use Rattle.ny_check.specs.declared.node.Effect.{Effect}
use Rattle.ny_check.specs.declared.node.Generator.{Generator}
use Rattle.ny_check.specs.declared.node.Node.{Node}
use Rattle.ny_check.specs.declared.node.Node.TheVariants as node
use Rattle.ny_check.specs.Code.{Code, node_at as node_in, function_at, IsBelow, IsOrdered}
use Rattle.ny_check.specs.Values.{scalars_of, number_of, test_of}
use Rattle.ny_check.specs.Families.{leaf_time, leaf_sound, effect_sound, changed_env}
use Rattle.ny_heap.specs.declared.make.Make.TheVariants.{Leaf as MakesLeaf}
use Rattle.ny_heap.specs.declared.sound.Sound.{Sound}
use Rattle.ny_heap.specs.Heap.{Made, HeapState}
use Rattle.ny_heap.specs.Reach.{HeapLaws}
use Rattle.ny_hands.specs.declared.branch.Branch.{Branch}
use Rattle.ny_hands.specs.Calls.{IsSilent}
use Rattle.ny_hands.specs.Frames.{Names}
use Rattle.ny_hands.specs.Hands.{AreNamed}
use Rattle.ny_trace.specs.Evaluates.{Trace, parts_of, counted_parts, numbers_in, OperationTurn, SignTurn, LeafTurn, EffectTurn, CueTurn, NodeTurn, Evaluates}
use Rattle.ny_trace.specs.Laws.{KeepsFree, IsLawful}
use Rattle.ny_trace.proofs.EvaluationLemmas.{below_all, below_binds, evaluates_lawful}
use Rattle.ny_trace.proofs.MixLemmas.{parts_are, counted_are}
use Rattle.ny_hands.proofs.NameLemmas.{named_kept}
use Rattle.ny_trace.proofs.RisingLemmas.{value_list}
use Rattle.ny_hands.proofs.HandLemmas.{hand_more}
use Rattle.ny_heap.specs.Kinds.{UnitKind}
use Rattle.ny_hands.specs.Kinds.{kind_of_generator, kind_of_effect}
use Rattle.ny_heap.specs.Kinds.{kind_of_leaf, kind_of_make}
use Rattle.ny_plan.specs.Rows.{RowSound, Row, Step, given, and_then, silent}
use Rattle.ny_plan.specs.Need.{Filled}
use Rattle.ny_plan.specs.Units.{leaf_by, row_over, paired, negated, cued, parts_in, mixed}
use Rattle.ny_plan.specs.Plan as plans
use Rattle.ny_plan.specs.Plan.{sound_in, value_of, part_of, repeated_parts, number, made_at, made}
use Rattle.ny_plan.proofs.SoundLemmas.{none_of_no_kind}
use Rattle.ny_match.specs.Matched.{IsFirst, Seats, IsSound, AreNames}
use Rattle.ny_match.specs.Born.{IsMatching}
use Rattle.ny_match.proofs.GrowLemmas.{first_then, made_grows, grows_value, grows_paired, grows_negated, grows_over, grows_cued}
use Rattle.ny_match.proofs.MadeLemmas.{made-is}
use Rattle.ny_match.proofs.SeatLemmas.{names_later}
use Rattle.ny_match.proofs.BornLemmas.{grew_then}
use Rattle.ny_match.proofs.UnitLemmas.{Turns, Fits, fits_first, fits_next, none_turn, silent_turn, made_turn}
use Rattle.ny_match.proofs.NameLemmas.{value_later, same_scalars, found_both, named_turn}
use Rattle.ny_match.proofs.OperandLemmas.{turn_on, over_turn, join_turn, negated_turn, cued_turn}
use Rattle.ny_match.proofs.FrameLemmas.{named_value, made_turn_of, value_hand, value_turn, block_turn, call_turn}
use Rattle.ny_match.proofs.MixLemmas.{listed, counted, listed_are, listed_plan, counted_names_are, counted_plan, sim_turn}

-- ---- parts in turn

-- the parts of this node come one after the other
abbrev pub IsInTurn : Node → Type 0
IsInTurn (node.Mix order.InTurn es) = Unit {0}
IsInTurn (node.Repeat order.InTurn i k a) = Unit {0}
IsInTurn _ = ⊥

-- such a node makes what the plan makes
abbrev pub MatchesInTurn : Code → Trace → Type 0
MatchesInTurn code D =
    (e : ℕ) (env : Env) (names : Names) (old new : HeapState Branch) (s : Sound) → IsInTurn (node_in code e) → NodeTurn D code e (node_in code e) env names old new s → e < length code.nodes → HeapLaws old → AreNamed old names →
    (all : List Row) (filled : Filled) (seats : Seats) (given_names : plans.Names) (rows : List Row) → AreNames seats.row names given_names →
    Fits code all filled old seats rows (made code e env given_names rows) → Turns code all filled old new seats (λ row. IsSound row s) rows (made code e env given_names rows)

-- the kinds of leaves and effects are those of their units
abbrev pub HasLeafKind : {w : Generator} {env : Env} {ns : List ℤ} {old new : HeapState Branch} {s : Sound} → LeafTurn w env ns old new s → Type 0
HasLeafKind {w} step = (k : UnitKind) → kind_of_generator w ≡ Some k → kind_of_leaf step.played ≡ k

-- ---- nodes

module _ (code : Code) (D : Trace) (law : IsLawful code D) (match : IsMatching code D) (all : List Row) (filled : Filled) (env : Env) (names : Names) (given_names : plans.Names) (old new : HeapState Branch) (s : Sound) (seats : Seats) (rows : List Row) (laws : HeapLaws old) (named : AreNamed old names) (are : AreNames seats.row names given_names) where
  abbrev Gives : Step RowSound → Type 0
  Gives f = Fits code all filled old seats rows (f rows) → Turns code all filled old new seats (λ row. IsSound row s) rows (f rows)

  silent_gives : IsSilent old new env.sound_rate s → Gives (given (silent env.sound_rate))
  silent_gives step fits = silent_turn code all filled old new seats rows env.sound_rate s fits.matched step

  numbers_same : (es : List ExprId) → numbers_in code names es ≡ map (number code given_names) es
  numbers_same es = ap (λ q. map (λ e. number_of code e q) es) (same_scalars seats.row names given_names are)

  leaf_gives : (w : Generator) (ns : List ℤ) (step : LeafTurn w env ns old new s) → HasLeafKind step → Gives (leaf_by (kind_of_generator w) (leaf_time w env ns) (leaf_sound w env ns))
  leaf_gives w ns step kind fits = by_kind (kind_of_generator w) refl fits
    where
      by_kind : (o : Option UnitKind) → kind_of_generator w ≡ o → Gives (leaf_by o (leaf_time w env ns) (leaf_sound w env ns))
      by_kind None e fits = none_turn code all filled old new seats rows (leaf_time w env ns) s _ (none_of_no_kind w env ns e) fits.matched step.made
      by_kind (Some k) e fits =
          made_turn code all filled old new (Made (MakesLeaf step.played)) k (leaf_time w env ns) [] [] (λ ss. (leaf_sound w env ns).samples) [] s seats rows laws tt (kind k e) tt (omega arith) step.made fits

  effect_gives : (w : Effect) (a : ExprId) (ns : List ℤ) (step : EffectTurn D w a ns env names old new s) → a.0 < length code.nodes → kind_of_make step.unit ≡ kind_of_effect w → Gives (and_then (made code a.0 env given_names) (row_over (kind_of_effect w) (effect_sound w ns)))
  effect_gives w a ns step inside kind fits =
      let x = made code a.0 env given_names rows in
      let last = row_over (kind_of_effect w) (effect_sound w ns) x.gives x.rows in
      let more : IsFirst rows x.rows = made_grows code a.0 env given_names rows in
      let rest : IsFirst x.rows last.rows = grows_over (kind_of_effect w) (effect_sound w ns) x.gives x.rows in
      let t = made_turn_of code D law match all filled a.0 env names given_names old step.mid step.part seats rows step.evaluates inside laws named are (fits_first code all filled old seats rows x last more rest fits) in
      let h = (law a.0 env names old step.mid step.part step.evaluates inside laws named).hand in
      let u = over_turn code all filled step.mid new (Made step.unit) (kind_of_effect w) (effect_sound w ns) step.part s x.gives t.0 x.rows old [] h kind t.2 step.made (fits_next code all filled old step.mid seats t.0 rows x.rows last more rest t.1 fits) in
      turn_on code all filled old step.mid new seats t.0 (λ row. IsSound row s) (length rows) x.rows last more.short rest.short h.kept t.1 u

  cue_gives : (a : ExprId) → a.0 < length code.nodes → CueTurn D a env names old new s → Gives (and_then (made code a.0 env given_names) (cued env))
  cue_gives a inside step fits =
      let x = made code a.0 env given_names rows in
      let last = cued env x.gives x.rows in
      let more : IsFirst rows x.rows = made_grows code a.0 env given_names rows in
      let rest : IsFirst x.rows last.rows = grows_cued env x.gives x.rows in
      let t = made_turn_of code D law match all filled a.0 env names given_names old step.mid step.part seats rows step.evaluates inside laws named are (fits_first code all filled old seats rows x last more rest fits) in
      let h = (law a.0 env names old step.mid step.part step.evaluates inside laws named).hand in
      cued_turn code all filled old step.mid new env step.part s x.gives seats t.0 (length rows) x.rows laws h t.1 more.short t.2 step.cued (fits_next code all filled old step.mid seats t.0 rows x.rows last more rest t.1 fits)

  sign_gives : (a : ExprId) → a.0 < length code.nodes → SignTurn D code a env names old new s → Gives (and_then (value_of code (made code) env given_names a) (negated env.sound_rate))
  sign_gives a inside step fits =
      let x = value_of code (made code) env given_names a rows in
      let last = negated env.sound_rate x.gives x.rows in
      let more : IsFirst rows x.rows = grows_value code (made code) (made_grows code) env given_names a rows in
      let rest : IsFirst x.rows last.rows = grows_negated env.sound_rate x.gives x.rows in
      let t = value_turn code D law match all filled env names given_names a old step.mid step.value seats rows inside laws named are step.operand (fits_first code all filled old seats rows x last more rest fits) in
      let h = value_hand code D law match all filled env names a old step.mid step.value inside laws named step.operand in
      negated_turn code all filled old step.mid new env.sound_rate step.value x.gives s seats t.0 (length rows) x.rows laws h t.1 more.short t.2 step.joined (fits_next code all filled old step.mid seats t.0 rows x.rows last more rest t.1 fits)

  operation_gives : (o : Op) (a b : ExprId) → a.0 < length code.nodes → b.0 < length code.nodes → OperationTurn D code o a b env names old new s
      → Gives (and_then (value_of code (made code) env given_names a) (λ v. and_then (value_of code (made code) env given_names b) (λ w. paired o env.sound_rate v w)))
  operation_gives o a b at_a at_b step fits =
      let x = value_of code (made code) env given_names a rows in
      let y = value_of code (made code) env given_names b x.rows in
      let last = paired o env.sound_rate x.gives y.gives y.rows in
      let to_x : IsFirst rows x.rows = grows_value code (made code) (made_grows code) env given_names a rows in
      let to_y : IsFirst x.rows y.rows = grows_value code (made code) (made_grows code) env given_names b x.rows in
      let to_last : IsFirst y.rows last.rows = grows_paired o env.sound_rate x.gives y.gives y.rows in
      let from_x : IsFirst x.rows last.rows = first_then x.rows y.rows last.rows to_y to_last in
      let t = value_turn code D law match all filled env names given_names a old step.mid step.left seats rows at_a laws named are step.first (fits_first code all filled old seats rows x last to_x from_x fits) in
      let h1 = value_hand code D law match all filled env names a old step.mid step.left at_a laws named step.first in
      let seen = named_kept old step.mid h1.kept names named in
      let f1 = fits_next code all filled old step.mid seats t.0 rows x.rows last to_x from_x t.1 fits in
      let u = value_turn code D law match all filled env names given_names b step.mid step.end step.right t.0 x.rows at_b h1.laws seen (names_later old seats.row t.0.row names given_names named t.1.row are) step.second (fits_first code all filled step.mid t.0 x.rows y last to_y to_last f1) in
      let h2 = value_hand code D law match all filled env names b step.mid step.end step.right at_b h1.laws seen step.second in
      let f2 = fits_next code all filled step.mid step.end t.0 u.0 x.rows y.rows last to_y to_last u.1 f1 in
      join_turn code all filled old step.end new o env.sound_rate step.left step.right x.gives y.gives s seats u.0 (length rows) y.rows laws (hand_more old step.mid step.end (value_list step.left) (value_list step.right) h1 h2)
      (grew_then code all filled old step.mid step.end seats t.0 u.0 (length rows) (length x.rows) (length y.rows) to_x.short to_y.short h1.kept t.1 u.1) (omega (arith, to_x.short, to_y.short))
      (value_later step.mid t.0.row u.0.row step.left x.gives (named_value step.mid step.left h1.begin) u.1.row t.2) u.2 step.joined f2

  -- of nodes of all families but parts in turn
  module _ (e : ℕ) (inside : e < length code.nodes) where
    pub node_matches : (at : Node) → IsBelow code.functions e at → NodeTurn D code e at env names old new s
        → ((w : Generator) (ns : List ℤ) (step : LeafTurn w env ns old new s) → HasLeafKind step) → ((w : Effect) (a : ExprId) (ns : List ℤ) (step : EffectTurn D w a ns env names old new s) → kind_of_make step.unit ≡ kind_of_effect w)
        → (IsInTurn at → Gives (made_at code at (made code) env given_names)) → Gives (made_at code at (made code) env given_names)
    node_matches (node.Number v) below step leaves effects turn = silent_gives step
    node_matches (node.Local x) below step leaves effects turn = λ fits. named_turn code all filled old new seats rows env.sound_rate (last_of (same_name x) names) (last_of (same_name x) given_names) s fits.matched (found_both seats.row (same_name x) names given_names are) step
    node_matches (node.Global a) below step leaves effects turn = silent_gives step
    node_matches (node.Call f es) below step leaves effects turn = call_turn code D law match all filled (function_at code f.0).params (function_at code f.0).body.0 es env names given_names old new s seats rows (below_all e (length code.nodes) es (omega (arith, inside)) below.0) (omega (arith, below.2, inside)) laws named are step
    node_matches (node.Block bs a) below step leaves effects turn = block_turn code D law match all filled env bs a names given_names old new s seats rows (below_binds e (length code.nodes) bs (omega (arith, inside)) below.0) (omega (arith, below.1, inside)) laws named are step
    node_matches (node.Pair o a b) below step leaves effects turn = operation_gives o a b (omega (arith, below.0, inside)) (omega (arith, below.1, inside)) step
    node_matches (node.Div a v) below step leaves effects turn = silent_gives step
    node_matches (node.Neg a) below step leaves effects turn = sign_gives a (omega (arith, below, inside)) step
    node_matches (node.Compare r a b) below step leaves effects turn = silent_gives step
    node_matches (node.And a b) below step leaves effects turn = silent_gives step
    node_matches (node.Or a b) below step leaves effects turn = silent_gives step
    node_matches (node.Not a) below step leaves effects turn = silent_gives step
    node_matches (node.If c a b) below step leaves effects turn =
        subst (λ q. Gives (if test_of code c q then made code a.0 env given_names else made code b.0 env given_names)) (same_scalars seats.row names given_names are) (chosen (test_of code c (scalars_of names)) step)
      where
        chosen : (t : Bool) → D (if t then a.0 else b.0) env names old new s → Gives (if t then made code a.0 env given_names else made code b.0 env given_names)
        chosen true step fits = made_turn_of code D law match all filled a.0 env names given_names old new s seats rows step (omega (arith, below.1, inside)) laws named are fits
        chosen false step fits = made_turn_of code D law match all filled b.0 env names given_names old new s seats rows step (omega (arith, below.2, inside)) laws named are fits
    node_matches (node.Leaf w es) below step leaves effects turn =
        subst (λ ns. Gives (leaf_by (kind_of_generator w) (leaf_time w env ns) (leaf_sound w env ns))) (numbers_same es) (leaf_gives w (numbers_in code names es) step (leaves w (numbers_in code names es) step))
    node_matches (node.Effect w a es) below step leaves effects turn =
        subst (λ ns. Gives (and_then (made code a.0 env given_names) (row_over (kind_of_effect w) (effect_sound w ns)))) (numbers_same es) (effect_gives w a (numbers_in code names es) step (omega (arith, below.0, inside)) (effects w a (numbers_in code names es) step))
    node_matches (node.Cue a) below step leaves effects turn = cue_gives a (omega (arith, below, inside)) step
    node_matches (node.Mix order.Together es) below step leaves effects turn =
        subst (λ ps. Gives (and_then (parts_in order.Together env ps) (mixed env.sound_rate))) (listed_plan code given_names es)
        (sim_turn code D law match all filled (parts_of names es) (listed given_names es) env old new s seats rows (parts_are (length code.nodes) old names named es (below_all e (length code.nodes) es (omega (arith, inside)) below)) laws (listed_are seats.row names given_names es are) step)
    node_matches (node.Mix order.InTurn es) below step leaves effects turn = turn tt
    node_matches (node.Repeat order.Together i k a) below step leaves effects turn =
        subst (λ ps. Gives (and_then (parts_in order.Together env ps) (mixed env.sound_rate))) (counted_plan code given_names i k a)
        (sim_turn code D law match all filled (counted_parts names i k a) (counted given_names i a (range_with_len 0 k)) env old new s seats rows (counted_are (length code.nodes) old names i k a named (omega (arith, below, inside))) laws (counted_names_are seats.row names given_names i k a are) step)
    node_matches (node.Repeat order.InTurn i k a) below step leaves effects turn = turn tt
    node_matches (node.Change c a) below step leaves effects turn =
        subst (λ q. Gives (made code a.0 (changed_env c (λ k. number_of code k q) env) given_names)) (same_scalars seats.row names given_names are)
        (λ fits. made_turn_of code D law match all filled a.0 (changed_env c (λ k. number_of code k (scalars_of names)) env) names given_names old new s seats rows step (omega (arith, below.1, inside)) laws named are fits)
    node_matches (node.Vector es) below step leaves effects turn = silent_gives step

-- ---- the induction

-- the kinds of a trace
pub record HasKinds (code : Code) (D : Trace) : Type 0 where
  pub leaves : (w : Generator) (env : Env) (ns : List ℤ) (old new : HeapState Branch) (s : Sound) (step : LeafTurn w env ns old new s) → HasLeafKind step
  pub effects : (w : Effect) (a : ExprId) (ns : List ℤ) (env : Env) (names : Names) (old new : HeapState Branch) (s : Sound) (step : EffectTurn D w a ns env names old new s) → kind_of_make step.unit ≡ kind_of_effect w

pub evaluates_matching : (code : Code) → IsOrdered code → KeepsFree code → ((n : ℕ) → HasKinds code (Evaluates code n)) → ((n : ℕ) → IsMatching code (Evaluates code n) → MatchesInTurn code (Evaluates code n)) → (n : ℕ) → IsMatching code (Evaluates code n)
evaluates_matching code ordered free kinds turn zero e env names old new s t inside laws named all filled seats given_names rows m are first rest = absurd t
evaluates_matching code ordered free kinds turn (suc n) e env names old new s (inl t) inside laws named all filled seats given_names rows m are first rest = evaluates_matching code ordered free kinds turn n e env names old new s t inside laws named all filled seats given_names rows m are first rest
evaluates_matching code ordered free kinds turn (suc n) e env names old new s (inr t) inside laws named all filled seats given_names rows m are first rest =
    let D : Trace = Evaluates code n in
    let match : IsMatching code D = evaluates_matching code ordered free kinds turn n in
    let is = made-is code e env given_names (ordered.each e inside) in
    let P : Step RowSound → Type 0 = λ f. Fits code all filled old seats rows (f rows) → Turns code all filled old new seats (λ row. IsSound row s) rows (f rows) in
    let q = subst P (sym is)
    (node_matches code D (evaluates_lawful code ordered free n) match all filled env names given_names old new s seats rows laws named are e inside (node_in code e) (ordered.each e inside) t
    (λ w ns step. (kinds n).leaves w env ns old new s step) (λ w a ns step. (kinds n).effects w a ns env names old new s step)
    (λ in_turn. subst P is (λ fits. turn n match e env names old new s in_turn t inside laws named all filled seats given_names rows are fits)))
    (record { matched = m; first = first; free = rest }) in
    (record { later = q.0; matched = q.1.matched; row = q.1.row; parts = q.1.parts; fresh = q.1.fresh; fresh_parts = q.1.fresh_parts }, q.2)
