-- Values, blocks and calls of the trace and of the plan, side by side.
use Rattle.std.proofs.Common.{◌≡◌, ℕ, ◌<◌, List, [], ◌∷◌, ◌++◌, zip, take, length, refl, sym, ap, subst, ◌∙◌}
use Rattle.std.proofs.lemmas.List.{append_assoc, append-nil}
use Rattle.ny_resolve.specs.declared.term.NameId.{NameId}
use Rattle.ny_warp.specs.declared.env.Env.{Env}
use Rattle.ny_check.specs.declared.node.ExprId.{ExprId}
use Rattle.ny_check.specs.declared.value.Scalar.{Scalar}
use Rattle.ny_check.specs.declared.value.Scalar.TheVariants as scalar
use Rattle.ny_check.specs.declared.value.Value.{Value}
use Rattle.ny_check.specs.declared.value.Value.TheVariants.{Number, Sound as SoundOf}
use Rattle.ny_check.specs.Code.{Code, AllBelow, BindsBelow}
use Rattle.ny_check.specs.Values.{scalars_of, scalar_of}
use Rattle.ny_heap.specs.declared.sound.Sound.{Sound}
use Rattle.ny_heap.specs.Heap.{HeapState}
use Rattle.ny_heap.specs.Reach.{HeapLaws}
use Rattle.ny_hands.specs.declared.branch.Branch.{Branch}
use Rattle.ny_hands.specs.Frames.{Names, sounds_among}
use Rattle.ny_hands.specs.Hands.{AllBegin, Hand, IsNamed, AreNamed}
use Rattle.ny_hands.proofs.HandLemmas.{hand_none}
use Rattle.ny_hands.proofs.NameLemmas.{named_kept, named_append}
use Rattle.ny_trace.specs.Evaluates.{Trace, IsNoNumber, ValueTurn, BindsTurn, BlockTurn, ValuesTurn, CallTurn, sounds_of_values}
use Rattle.ny_trace.specs.Laws.{IsLawful}
use Rattle.ny_trace.proofs.ValueLemmas.{value_comes}
use Rattle.ny_trace.proofs.BlockLemmas.{below_first, binds_come, binds_leave, args_come, args_leave}
use Rattle.ny_trace.proofs.RisingLemmas.{value_list}
use Rattle.ny_plan.specs.Rows.{RowSound, Row, After, Step, given, and_then, each}
use Rattle.ny_plan.specs.Need.{Filled}
use Rattle.ny_plan.specs.Plan as plans
use Rattle.ny_plan.specs.Plan.{value_by, value_of, names_after, made}
use Rattle.ny_match.specs.Matched.{IsFirst, Seats, IsSound, IsValue, AreNames}
use Rattle.ny_match.specs.Born.{IsMatching}
use Rattle.ny_match.proofs.GrowLemmas.{grows_each, made_grows, grows_value, grows_names}
use Rattle.ny_match.proofs.SeatLemmas.{names_later}
use Rattle.ny_match.proofs.BornLemmas.{grew_of, grew_none, grew_then}
use Rattle.ny_match.proofs.UnitLemmas.{Turns, Fits, fits_first, fits_next, given_turn, grew_released}
use Rattle.ny_match.proofs.NameLemmas.{value_later, same_scalars, names_append}

-- the sound of a value begins
pub named_value : (h : HeapState Branch) (v : Value Sound) → AllBegin h (value_list v) → IsNamed h v
named_value h (Number k) b = tt
named_value h (SoundOf s) b = b.0

module _ (code : Code) (D : Trace) (law : IsLawful code D) (match : IsMatching code D) (all : List Row) (filled : Filled) where
  -- an evaluation
  pub made_turn_of : (e : ℕ) (env : Env) (names : Names) (given : plans.Names) (old new : HeapState Branch) (s : Sound) (seats : Seats) (rows : List Row) → D e env names old new s → e < length code.nodes → HeapLaws old → AreNamed old names → AreNames seats.row names given
      → Fits code all filled old seats rows (made code e env given rows) → Turns code all filled old new seats (λ row. IsSound row s) rows (made code e env given rows)
  made_turn_of e env names given old new s seats rows t inside laws named are fits =
      let q = match e env names old new s t inside laws named all filled seats given rows fits.matched are fits.first fits.free in
      (q.0.later, grew_of code all filled old new seats (length rows) (length (After.rows (made code e env given rows))) q.0, q.1)

  -- ---- values

  pub value_hand : (env : Env) (names : Names) (e : ExprId) (old new : HeapState Branch) (v : Value Sound) → e.0 < length code.nodes → HeapLaws old → AreNamed old names → ValueTurn D code env names e old new v → Hand old new (value_list v)
  value_hand env names e old new (Number k) inside laws named step = subst (λ (h : HeapState Branch). Hand old h []) step.1 (hand_none old laws)
  value_hand env names e old new (SoundOf s) inside laws named step = (value_comes code D law env names e old new (SoundOf s) inside laws named step).hand

  by_scalar : (old new : HeapState Branch) (seats : Seats) (rows : List Row) (s : Sound) (sc : Scalar) (sound : Step RowSound) → IsNoNumber sc → (Fits code all filled old seats rows (sound rows) → Turns code all filled old new seats (λ row. IsSound row s) rows (sound rows))
      → Fits code all filled old seats rows (value_by sc sound rows) → Turns code all filled old new seats (λ row w. IsValue row (SoundOf s) w) rows (value_by sc sound rows)
  by_scalar old new seats rows s (scalar.Number v) sound is turn fits = absurd is
  by_scalar old new seats rows s (scalar.Test b) sound is turn fits = let t = turn (record { matched = fits.matched; first = fits.first; free = fits.free }) in (t.0, t.1, t.2)
  by_scalar old new seats rows s scalar.Sound sound is turn fits = let t = turn (record { matched = fits.matched; first = fits.first; free = fits.free }) in (t.0, t.1, t.2)

  pub value_turn : (env : Env) (names : Names) (given_names : plans.Names) (e : ExprId) (old new : HeapState Branch) (v : Value Sound) (seats : Seats) (rows : List Row) → e.0 < length code.nodes → HeapLaws old → AreNamed old names → AreNames seats.row names given_names → ValueTurn D code env names e old new v
      → Fits code all filled old seats rows (value_of code (made code) env given_names e rows) → Turns code all filled old new seats (λ row w. IsValue row v w) rows (value_of code (made code) env given_names e rows)
  value_turn env names given_names e old new (Number k) seats rows inside laws named are step fits =
      let number : scalar_of code e.0 (scalars_of given_names) ≡ scalar.Number k = ap (scalar_of code e.0) (sym (same_scalars seats.row names given_names are)) ∙ step.0 in
      subst (λ sc. Turns code all filled old new seats (λ row w. IsValue row (Number k) w) rows (value_by sc (made code e.0 env given_names) rows)) (sym number)
      (subst (λ (h : HeapState Branch). Turns code all filled old h seats (λ row w. IsValue row (Number k) w) rows (given (Number k) rows)) step.1
      (given_turn code all filled old old seats (λ row w. IsValue row (Number k) w) rows (Number k) fits.matched (λ v y at. (y, at, refl)) refl refl))
  value_turn env names given_names e old new (SoundOf s) seats rows inside laws named are step fits =
      by_scalar old new seats rows s (scalar_of code e.0 (scalars_of given_names)) (made code e.0 env given_names)
      (subst (λ q. IsNoNumber (scalar_of code e.0 q)) (same_scalars seats.row names given_names are) step.0)
      (λ f. made_turn_of e.0 env names given_names old new s seats rows step.1 inside laws named are f) fits

  -- ---- blocks

  abbrev pub NamesAre : Names → (ℕ → ℕ) → plans.Names → Type 0
  NamesAre names row ns = AreNames row names ns

  pub binds_turn : (env : Env) (bs : List (NameId × ExprId)) (names : Names) (given_names : plans.Names) (old new : HeapState Branch) (added : Names) (seats : Seats) (rows : List Row) → BindsBelow (length code.nodes) bs → HeapLaws old → AreNamed old names → AreNames seats.row names given_names → BindsTurn D code env bs names old new added
      → Fits code all filled old seats rows (names_after code (made code) env bs given_names rows) → Turns code all filled old new seats (NamesAre (names ++ added)) rows (names_after code (made code) env bs given_names rows)
  binds_turn env [] names given_names old new [] seats rows below laws named are step fits =
      subst (λ (h : HeapState Branch). Turns code all filled old h seats (NamesAre (names ++ [])) rows (given given_names rows)) step
      (given_turn code all filled old old seats (NamesAre (names ++ [])) rows given_names fits.matched (λ v y at. (y, at, refl)) refl (subst (λ ns. AreNames seats.row ns given_names) (sym (append-nil names)) are))
  binds_turn env [] names given_names old new (a ∷ added) seats rows below laws named are step fits = absurd step
  binds_turn env (b ∷ bs) names given_names old new [] seats rows below laws named are step fits = absurd step
  binds_turn env (b ∷ bs) names given_names old new (a ∷ added) seats rows below laws named are step fits =
      let x = value_of code (made code) env given_names b.1 rows in
      let last = names_after code (made code) env bs (given_names ++ (b.0, x.gives) ∷ []) x.rows in
      let more : IsFirst rows x.rows = grows_value code (made code) (made_grows code) env given_names b.1 rows in
      let rest : IsFirst x.rows last.rows = grows_names code (made code) (made_grows code) env bs (given_names ++ (b.0, x.gives) ∷ []) x.rows in
      let t = value_turn env names given_names b.1 old step.0 a.1 seats rows below.0 laws named are step.2 (fits_first code all filled old seats rows x last more rest fits) in
      let h = value_hand env names b.1 old step.0 a.1 below.0 laws named step.2 in
      let seen : AreNamed step.0 (names ++ a ∷ []) = named_append step.0 names (a ∷ []) (named_kept old step.0 h.kept names named) (named_value step.0 a.1 h.begin, tt) in
      let now : AreNames t.0.row (names ++ a ∷ []) (given_names ++ (b.0, x.gives) ∷ []) = names_append t.0.row names (a ∷ []) given_names ((b.0, x.gives) ∷ []) (names_later old seats.row t.0.row names given_names named t.1.row are) (step.1, t.2, tt) in
      let u = binds_turn env bs (names ++ a ∷ []) (given_names ++ (b.0, x.gives) ∷ []) step.0 new added t.0 x.rows below.1 h.laws seen now step.3 (fits_next code all filled old step.0 seats t.0 rows x.rows last more rest t.1 fits) in (
        u.0,
        grew_then code all filled old step.0 new seats t.0 u.0 (length rows) (length x.rows) (length last.rows) more.short rest.short h.kept t.1 u.1,
        subst (λ ns. AreNames u.0.row ns last.gives) (append_assoc names (a ∷ []) added) u.2,
      )

  pub block_turn : (env : Env) (bs : List (NameId × ExprId)) (e : ExprId) (names : Names) (given_names : plans.Names) (old new : HeapState Branch) (s : Sound) (seats : Seats) (rows : List Row) → BindsBelow (length code.nodes) bs → e.0 < length code.nodes → HeapLaws old → AreNamed old names → AreNames seats.row names given_names → BlockTurn D code bs e env names old new s
      → Fits code all filled old seats rows (and_then (names_after code (made code) env bs given_names) (λ inner. made code e.0 env inner) rows) → Turns code all filled old new seats (λ row. IsSound row s) rows (and_then (names_after code (made code) env bs given_names) (λ inner. made code e.0 env inner) rows)
  block_turn env bs e names given_names old new s seats rows below inside laws named are step fits =
      let x = names_after code (made code) env bs given_names rows in
      let last = made code e.0 env x.gives x.rows in
      let more : IsFirst rows x.rows = grows_names code (made code) (made_grows code) env bs given_names rows in
      let rest : IsFirst x.rows last.rows = made_grows code e.0 env x.gives x.rows in
      let t = binds_turn env bs names given_names old step.mid step.added seats rows below laws named are step.binds (fits_first code all filled old seats rows x last more rest fits) in
      let comes = binds_come code D law env bs names old step.mid step.added below laws named step.binds in
      let left = binds_leave code D law env bs names old step.mid step.added below laws named step.binds in
      let u = made_turn_of e.0 env (names ++ step.added) x.gives step.mid step.end s t.0 x.rows step.body inside left.0 left.1 t.2 (fits_next code all filled old step.mid seats t.0 rows x.rows last more rest t.1 fits) in (
        u.0,
        grew_released code all filled old step.end new seats u.0 (length rows) (length last.rows) (sounds_among step.added) step.given_up
            (grew_then code all filled old step.mid step.end seats t.0 u.0 (length rows) (length x.rows) (length last.rows) more.short rest.short comes.hand.kept t.1 u.1),
        u.2,
      )

  -- ---- calls

  -- the arguments of the parameters. The plan makes what there is besides, which is no unit
  pub args_turn : (env : Env) (names : Names) (given_names : plans.Names) (ps : List NameId) (es : List ExprId) (old new : HeapState Branch) (vs : List (Value Sound)) (seats : Seats) (rows : List Row) → AllBelow (length code.nodes) es → HeapLaws old → AreNamed old names → AreNames seats.row names given_names → ValuesTurn D code env names (take (length ps) es) old new vs
      → Fits code all filled old seats rows (each (value_of code (made code) env given_names) es rows) → Turns code all filled old new seats (λ row ws. AreNames row (zip ps vs) (zip ps ws)) rows (each (value_of code (made code) env given_names) es rows)
  args_turn env names given_names [] es old new [] seats rows below laws named are step fits =
      subst (λ (h : HeapState Branch). Turns code all filled old h seats (λ row ws. AreNames row [] []) rows (each (value_of code (made code) env given_names) es rows)) step
      (seats, grew_none code all filled old seats (length rows) (length (After.rows (each (value_of code (made code) env given_names) es rows))) fits.matched, tt)
  args_turn env names given_names [] es old new (v ∷ vs) seats rows below laws named are step fits = absurd step
  args_turn env names given_names (p ∷ ps) [] old new [] seats rows below laws named are step fits =
      subst (λ (h : HeapState Branch). Turns code all filled old h seats (λ row ws. AreNames row (zip (p ∷ ps) []) (zip (p ∷ ps) ws)) rows (given [] rows)) step
      (seats, grew_none code all filled old seats (length rows) (length rows) fits.matched, tt)
  args_turn env names given_names (p ∷ ps) [] old new (v ∷ vs) seats rows below laws named are step fits = absurd step
  args_turn env names given_names (p ∷ ps) (e ∷ es) old new [] seats rows below laws named are step fits = absurd step
  args_turn env names given_names (p ∷ ps) (e ∷ es) old new (v ∷ vs) seats rows below laws named are step fits =
      let x = value_of code (made code) env given_names e rows in
      let last = each (value_of code (made code) env given_names) es x.rows in
      let more : IsFirst rows x.rows = grows_value code (made code) (made_grows code) env given_names e rows in
      let rest : IsFirst x.rows last.rows = grows_each (value_of code (made code) env given_names) (grows_value code (made code) (made_grows code) env given_names) es x.rows in
      let whole : Fits code all filled old seats rows last = record { matched = fits.matched; first = fits.first; free = fits.free } in
      let t = value_turn env names given_names e old step.0 v seats rows below.0 laws named are step.1 (fits_first code all filled old seats rows x last more rest whole) in
      let h = value_hand env names e old step.0 v below.0 laws named step.1 in
      let u = args_turn env names given_names ps es step.0 new vs t.0 x.rows below.1 h.laws (named_kept old step.0 h.kept names named) (names_later old seats.row t.0.row names given_names named t.1.row are) step.2 (fits_next code all filled old step.0 seats t.0 rows x.rows last more rest t.1 whole) in (
        u.0,
        grew_then code all filled old step.0 new seats t.0 u.0 (length rows) (length x.rows) (length last.rows) more.short rest.short h.kept t.1 u.1,
        (refl, value_later step.0 t.0.row u.0.row v x.gives (named_value step.0 v h.begin) u.1.row t.2, u.2),
      )

  pub call_turn : (params : List NameId) (body : ℕ) (es : List ExprId) (env : Env) (names : Names) (given_names : plans.Names) (old new : HeapState Branch) (s : Sound) (seats : Seats) (rows : List Row) → AllBelow (length code.nodes) es → body < length code.nodes → HeapLaws old → AreNamed old names → AreNames seats.row names given_names → CallTurn D code params body es env names old new s
      → Fits code all filled old seats rows (and_then (each (value_of code (made code) env given_names) es) (λ vs. made code body env (zip params vs)) rows) → Turns code all filled old new seats (λ row. IsSound row s) rows (and_then (each (value_of code (made code) env given_names) es) (λ vs. made code body env (zip params vs)) rows)
  call_turn params body es env names given_names old new s seats rows below inside laws named are step fits =
      let x = each (value_of code (made code) env given_names) es rows in
      let last = made code body env (zip params x.gives) x.rows in
      let more : IsFirst rows x.rows = grows_each (value_of code (made code) env given_names) (grows_value code (made code) (made_grows code) env given_names) es rows in
      let rest : IsFirst x.rows last.rows = made_grows code body env (zip params x.gives) x.rows in
      let t = args_turn env names given_names params es old step.mid step.values seats rows below laws named are step.arguments (fits_first code all filled old seats rows x last more rest fits) in
      let first : List ExprId = take (length params) es in
      let comes = args_come code D law env names first old step.mid step.values (below_first (length params) (length code.nodes) es below) laws named step.arguments in
      let left = args_leave code D law params es env names old step.mid step.values below laws named step.arguments in
      let u = made_turn_of body env (zip params step.values) (zip params x.gives) step.mid step.end s t.0 x.rows step.inside inside left.0 left.1 t.2 (fits_next code all filled old step.mid seats t.0 rows x.rows last more rest t.1 fits) in (
        u.0,
        grew_released code all filled old step.end new seats u.0 (length rows) (length last.rows) (sounds_of_values step.values) step.given_up
            (grew_then code all filled old step.mid step.end seats t.0 u.0 (length rows) (length x.rows) (length last.rows) more.short rest.short comes.hand.kept t.1 u.1),
        u.2,
      )
