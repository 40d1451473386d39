-- Parts of a mix, of the trace and of the plan, side by side; and parts together.
use Rattle.std.proofs.Common.{◌≡◌, ℕ, ◌*◌, ◌<◌, ◌≤◌, List, [], ◌∷◌, ◌++◌, map, length, Option, None, Some, refl, sym, ap, subst, ◌∙◌, arith, pos}
use Rattle.std.specs.List.{AllByRecursion, range_with_len}
use Rattle.std.specs.Option.{option_map}
use Rattle.std.proofs.lemmas.List.{append_assoc, append-nil}
use Rattle.ny_num.specs.declared.rate.Rate.{Rate}
use Rattle.ny_num.specs.declared.timing.Timing.{Timing}
use Rattle.ny_num.specs.Mix.{mix_timing, mix}
use Rattle.ny_resolve.specs.declared.term.NameId.{NameId}
use Rattle.ny_warp.specs.declared.env.Env.{Env}
use Rattle.ny_check.specs.declared.node.ExprId.{ExprId}
use Rattle.ny_check.specs.declared.value.Value.TheVariants.{Number}
use Rattle.ny_check.specs.Code.{Code}
use Rattle.ny_heap.specs.declared.sound.Sound.{Sound}
use Rattle.ny_heap.specs.Heap.{Mix, HeapState, list_of}
use Rattle.ny_heap.specs.Reach.{HeapLaws}
use Rattle.ny_heap.specs.Steps.{reader_of}
use Rattle.ny_hands.specs.declared.branch.Branch.{Branch}
use Rattle.ny_hands.specs.Calls.{MakesUnit, BringsEach}
use Rattle.ny_hands.specs.Frames.{Names}
use Rattle.ny_hands.specs.Hands.{AllBegin, Hand}
use Rattle.ny_hands.proofs.HandLemmas.{hand_turned, begin_first, begin_last}
use Rattle.ny_hands.proofs.SpendLemmas.{hand_brought}
use Rattle.ny_trace.specs.Evaluates.{Trace, Part, parts_of, counted_names, counted_parts, PartsTurn, MixedTurn, SimTurn}
use Rattle.ny_trace.specs.Laws.{IsLawful}
use Rattle.ny_trace.proofs.MixLemmas.{AreParts, parts_kept, parts_come, part_sounds}
use Rattle.ny_heap.specs.Kinds.{Mix as MixKind}
use Rattle.ny_plan.specs.Rows.{RowSound, Input, Row, After, and_then, each, given, input}
use Rattle.ny_plan.specs.Need.{Filled}
use Rattle.ny_plan.specs.Units.{Part as PlanPart, brought, counted_from, parts_together, mixed}
use Rattle.ny_plan.specs.Plan as plans
use Rattle.ny_plan.specs.Plan.{part_of, repeated_parts, made}
use Rattle.ny_match.specs.Matched.{Part as TablePart, IsFirst, Seats, IsSound, AreNames}
use Rattle.ny_match.specs.Born.{AreSounds, IsMatching}
use Rattle.ny_match.proofs.GrowLemmas.{first_then, PartGrows, grows_each, grows_brought, grows_sounds, made_grows, grows_mixed}
use Rattle.ny_match.proofs.SeatLemmas.{SameRows, names_later, sound_later, sounds_later}
use Rattle.ny_match.proofs.BornLemmas.{Grew, grew_none, grew_then}
use Rattle.ny_match.proofs.UnitLemmas.{FirstInputs, come_first, Turns, Fits, fits_first, fits_next, made_turn, brought_turn}
use Rattle.ny_match.proofs.NameLemmas.{names_append}
use Rattle.ny_match.proofs.OperandLemmas.{TurnsFrom, turn_on}
use Rattle.ny_match.proofs.FrameLemmas.{made_turn_of}

-- ---- parts

-- the same expressions, and their names stand for the same
abbrev pub PartsAre : (ℕ → ℕ) → List Part → List TablePart → Type 0
PartsAre row [] [] = Unit {0}
PartsAre row (p ∷ ps) (q ∷ qs) = (p.0 ≡ q.0) × AreNames row p.1 q.1 × PartsAre row ps qs
PartsAre row _ _ = ⊥

-- as the plan makes them
abbrev pub plan_parts : Code → List TablePart → List PlanPart
plan_parts code qs = map (λ (q : TablePart). part_of code (made code) q.1 q.0) qs

pub plan_parts_grow : (code : Code) (qs : List TablePart) → AllByRecursion PartGrows (plan_parts code qs)
plan_parts_grow code [] = tt
plan_parts_grow code (q ∷ qs) = (λ from. made_grows code q.0.0 from q.1, plan_parts_grow code qs)

-- the parts of `sim` and `seq`
abbrev pub listed : plans.Names → List ExprId → List TablePart
listed names es = map (λ e. let q : TablePart = (e, names) in q) es

abbrev pub counted_plan_names : plans.Names → NameId → ℕ → plans.Names
counted_plan_names names i k = names ++ (i, Number (pos (k * 1000000))) ∷ []

-- the parts of `simrep` and `seqrep`
abbrev pub counted : plans.Names → NameId → ExprId → List ℕ → List TablePart
counted names i e ks = map (λ k. let q : TablePart = (e, counted_plan_names names i k) in q) ks

pub listed_are : (row : ℕ → ℕ) (names : Names) (given_names : plans.Names) (es : List ExprId) → AreNames row names given_names → PartsAre row (parts_of names es) (listed given_names es)
listed_are row names given_names [] are = tt
listed_are row names given_names (e ∷ es) are = (refl, are, listed_are row names given_names es are)

pub listed_plan : (code : Code) (names : plans.Names) (es : List ExprId) → plan_parts code (listed names es) ≡ map (part_of code (made code) names) es
listed_plan code names [] = refl
listed_plan code names (e ∷ es) = ap (λ (ps : List PlanPart). part_of code (made code) names e ∷ ps) (listed_plan code names es)

pub counted_names_are : (row : ℕ → ℕ) (names : Names) (given_names : plans.Names) (i : NameId) (count : ℕ) (e : ExprId) → AreNames row names given_names → PartsAre row (counted_parts names i count e) (counted given_names i e (range_with_len 0 count))
counted_names_are row names given_names i count e are = each_of (range_with_len 0 count)
  where
    each_of : (ks : List ℕ) → PartsAre row (map (λ k. let p : Part = (e, counted_names names i k) in p) ks) (counted given_names i e ks)
    each_of [] = tt
    each_of (k ∷ ks) = (refl, names_append row names ((i, Number (pos (k * 1000000))) ∷ []) given_names ((i, Number (pos (k * 1000000))) ∷ []) are (refl, refl, tt), each_of ks)

pub counted_plan : (code : Code) (names : plans.Names) (i : NameId) (count : ℕ) (e : ExprId) → plan_parts code (counted names i e (range_with_len 0 count)) ≡ repeated_parts code (made code) names i count e
counted_plan code names i count e = each_of (range_with_len 0 count)
  where
    each_of : (ks : List ℕ) → plan_parts code (counted names i e ks) ≡ map (λ k. part_of code (made code) (names ++ (i, Number (pos (k * 1000000))) ∷ []) e) ks
    each_of [] = refl
    each_of (k ∷ ks) = ap (λ (ps : List PlanPart). part_of code (made code) (names ++ (i, Number (pos (k * 1000000))) ∷ []) e ∷ ps) (each_of ks)

pub parts_are_later : (n : ℕ) (h : HeapState Branch) (row later : ℕ → ℕ) (ps : List Part) (qs : List TablePart) → AreParts n h ps → SameRows h row later → PartsAre row ps qs → PartsAre later ps qs
parts_are_later n h row later [] [] there same are = tt
parts_are_later n h row later [] (q ∷ qs) there same are = absurd are
parts_are_later n h row later (p ∷ ps) [] there same are = absurd are
parts_are_later n h row later (p ∷ ps) (q ∷ qs) there same are = (are.0, names_later h row later p.1 q.1 there.1 same are.1, parts_are_later n h row later ps qs there.2 same are.2)

-- ---- sounds in hand

-- the lists that these read are the rows that they were
abbrev pub SameOn : (ℕ → ℕ) → (ℕ → ℕ) → List Sound → Type 0
SameOn row later [] = Unit {0}
SameOn row later (s ∷ ss) = ((n : ℕ) → list_of s ≡ Some n → later n ≡ row n) × SameOn row later ss

pub same_on : (h : HeapState Branch) (row later : ℕ → ℕ) (ss : List Sound) → AllBegin h ss → SameRows h row later → SameOn row later ss
same_on h row later [] begin same = tt
same_on h row later (s ∷ ss) begin same = (λ n at. let x = begin.0.shown n at in same n x.unit x.there, same_on h row later ss begin.1 same)

pub same_then : (a b c : ℕ → ℕ) (ss : List Sound) → SameOn a b ss → SameOn b c ss → SameOn a c ss
same_then a b c [] p q = tt
same_then a b c (s ∷ ss) p q = (λ n at. q.0 n at ∙ p.0 n at, same_then a b c ss p.1 q.1)

pub same_first : (row later : ℕ → ℕ) (ss ts : List Sound) → SameOn row later (ss ++ ts) → SameOn row later ss
same_first row later [] ts p = tt
same_first row later (s ∷ ss) ts p = (p.0, same_first row later ss ts p.1)

pub same_last : (row later : ℕ → ℕ) (ss ts : List Sound) → SameOn row later (ss ++ ts) → SameOn row later ts
same_last row later [] ts p = p
same_last row later (s ∷ ss) ts p = same_last row later ss ts p.1

pub sound_on : (row later : ℕ → ℕ) (s : Sound) (r : RowSound) → SameOn row later (s ∷ []) → IsSound row s r → IsSound later s r
sound_on row later s r same is = record { names = is.names ∙ by_list (list_of s) same.0; timing = is.timing }
  where
    by_list : (o : Option ℕ) → ((n : ℕ) → o ≡ Some n → later n ≡ row n) → option_map row o ≡ option_map later o
    by_list None same = refl
    by_list (Some n) same = ap Some (sym (same n refl))

times_same : (row : ℕ → ℕ) (ss : List Sound) (rs : List RowSound) → AreSounds row ss rs → map (λ (s : Sound). s.timing) ss ≡ map (λ (i : Input). i.sound.timing) (map input rs)
times_same row [] [] are = refl
times_same row [] (r ∷ rs) are = absurd are
times_same row (s ∷ ss) [] are = absurd are
times_same row (s ∷ ss) (r ∷ rs) are = λ i. are.0.timing i ∷ times_same row ss rs are.1 i

-- sounds that are there from the beginning are inputs that have come
firsts_together : (row : ℕ → ℕ) (block start : ℕ) (ss : List Sound) (rs : List RowSound) → 0 < block → AreSounds row ss rs → FirstInputs row block ss (map (counted_from start) (map input rs)) × (length (map (counted_from start) (map input rs)) ≤ length (map reader_of ss))
firsts_together row block start [] [] some are = (tt, omega arith)
firsts_together row block start [] (r ∷ rs) some are = absurd are
firsts_together row block start (s ∷ ss) [] some are = absurd are
firsts_together row block start (s ∷ ss) (r ∷ rs) some are =
    let rest = firsts_together row block start ss rs some are.1 in
    ((are.0, come_first block (counted_from start (input r)) some (omega arith), rest.0), omega (arith, rest.1))

module _ (code : Code) (all : List Row) (filled : Filled) where
  -- each is brought to a rate, the first one first, before what comes then
  brings_turn : {C : Type 0} (old mid new : HeapState Branch) (rate : Rate) (ss done ts : List Sound) (rs : List RowSound) (seats now : Seats) (n : ℕ) (rows : List Row) (c : After C) → HeapLaws old → Hand old mid (ss ++ done) → Grew code all filled old mid seats now n (length rows) → n ≤ length rows → AreSounds now.row ss rs → BringsEach mid new rate ss ts
      → IsFirst (After.rows (each (brought rate) rs rows)) (After.rows c) → Fits code all filled mid now rows c
      → (later : Seats) × Hand old new (ts ++ done) × Grew code all filled old new seats later n (length (After.rows (each (brought rate) rs rows))) × AreSounds later.row ts (After.gives (each (brought rate) rs rows)) × SameOn now.row later.row done × Fits code all filled new later (After.rows (each (brought rate) rs rows)) c
  brings_turn old mid new rate [] done [] [] seats now n rows c laws h g less are step ends fits = (
    now,
    subst (λ (z : HeapState Branch). Hand old z done) step h,
    subst (λ (z : HeapState Branch). Grew code all filled old z seats now n (length rows)) step g,
    tt,
    same_on mid now.row now.row done h.begin (λ v x at. refl),
    subst (λ (z : HeapState Branch). Fits code all filled z now rows c) step fits,
  )
  brings_turn old mid new rate [] done [] (r ∷ rs) seats now n rows c laws h g less are step ends fits = absurd are
  brings_turn old mid new rate [] done (t ∷ ts) rs seats now n rows c laws h g less are step ends fits = absurd step
  brings_turn old mid new rate (s ∷ ss) done [] rs seats now n rows c laws h g less are step ends fits = absurd step
  brings_turn old mid new rate (s ∷ ss) done (t ∷ ts) [] seats now n rows c laws h g less are step ends fits = absurd are
  brings_turn old mid new rate (s ∷ ss) done (t ∷ ts) (r ∷ rs) seats now n rows c laws h g less are step ends fits =
      let x = brought rate r rows in
      let last = each (brought rate) rs x.rows in
      let more : IsFirst rows x.rows = grows_brought rate r rows in
      let rest : IsFirst x.rows last.rows = grows_each (brought rate) (grows_brought rate) rs x.rows in
      let from : IsFirst x.rows c.rows = first_then x.rows last.rows c.rows rest ends in
      let q = brought_turn code all filled mid step.0 rate s t r now rows h.laws h.begin.0 are.0 step.1 (fits_first code all filled mid now rows x c more from fits) in
      let c1 = hand_brought old mid step.0 rate s t (ss ++ done) laws h step.1 in
      let c2 : Hand old step.0 (ss ++ (done ++ t ∷ [])) = subst (λ zs. Hand old step.0 zs) (append_assoc ss done (t ∷ [])) (hand_turned old step.0 (t ∷ []) (ss ++ done) c1) in
      let g2 = grew_then code all filled old mid step.0 seats now q.0 n (length rows) (length x.rows) less more.short h.kept g q.1 in
      let u = brings_turn old step.0 new rate ss (done ++ t ∷ []) ts rs seats q.0 n x.rows c laws c2 g2 (omega (arith, less, more.short)) (sounds_later mid now.row q.0.row ss rs (begin_first mid ss done h.begin.1) q.1.row are.1) step.2 ends
      (fits_next code all filled mid step.0 now q.0 rows x.rows c more from q.1 fits) in
      let same : ts ++ (done ++ t ∷ []) ≡ (ts ++ done) ++ t ∷ [] = sym (append_assoc ts done (t ∷ [])) in (
        u.0,
        hand_turned old new (ts ++ done) (t ∷ []) (subst (λ zs. Hand old new zs) same u.1),
        u.2,
        (sound_on q.0.row u.0.row t x.gives (same_last q.0.row u.0.row done (t ∷ []) u.4) q.2, u.3),
        same_then now.row q.0.row u.0.row done (same_on mid now.row q.0.row done (begin_last mid ss done h.begin.1) q.1.row) (same_first q.0.row u.0.row done (t ∷ []) u.4),
        u.5,
      )

  -- sounds together: each is brought to the rate, and then one unit is made over all of them
  mixed_turn : (old mid new : HeapState Branch) (rate : Rate) (parts : List Sound) (s : Sound) (rs : List RowSound) (seats now : Seats) (n : ℕ) (rows : List Row) → HeapLaws old → Hand old mid parts → Grew code all filled old mid seats now n (length rows) → n ≤ length rows → AreSounds now.row parts rs → MixedTurn rate parts mid new s
      → Fits code all filled mid now rows (and_then (and_then (each (brought rate) rs) (λ ss. given (map input ss))) (mixed rate) rows) → TurnsFrom code all filled old new seats (λ row. IsSound row s) n (and_then (and_then (each (brought rate) rs) (λ ss. given (map input ss))) (mixed rate) rows)
  mixed_turn old mid new rate parts s rs seats now n rows laws h g less are step fits =
      let x = each (brought rate) rs rows in
      let is : List Input = map input x.gives in
      let last = mixed rate is x.rows in
      let more : IsFirst rows x.rows = grows_each (brought rate) (grows_brought rate) rs rows in
      let rest : IsFirst x.rows last.rows = grows_mixed rate is x.rows in
      let b = brings_turn old mid step.mid rate parts [] step.brought rs seats now n rows last laws (subst (λ ss. Hand old mid ss) (sym (append-nil parts)) h) g less are step.brings rest (record { matched = fits.matched; first = fits.first; free = fits.free }) in
      let hands : Hand old step.mid step.brought = subst (λ ss. Hand old step.mid ss) (append-nil step.brought) b.1 in
      let t : Timing = mix_timing rate (map (λ (i : Input). i.sound.timing) is) in
      let when : mix_timing rate (map (λ (s : Sound). s.timing) step.brought) ≡ t = ap (mix_timing rate) (times_same b.0.row step.brought x.gives b.3) in
      let firsts = firsts_together b.0.row step.mid.block t.start step.brought x.gives hands.laws.positive b.3 in
      let u = made_turn code all filled step.mid new Mix MixKind t step.brought (map (counted_from t.start) is) (λ ss. (mix rate ss).samples) step.brought s b.0 x.rows hands.laws hands.begin refl firsts.0 firsts.1
      (subst (λ (z : Timing). MakesUnit step.mid new Mix z step.brought [] step.brought s) when step.made) b.5 in
      turn_on code all filled old step.mid new seats b.0 (λ row. IsSound row s) n x.rows last (omega (arith, less, more.short)) rest.short hands.kept b.2 u

module _ (code : Code) (D : Trace) (law : IsLawful code D) (match : IsMatching code D) (all : List Row) (filled : Filled) where
  -- parts that are evaluated, the first one first
  pub parts_turn : (env : Env) (ps : List Part) (qs : List TablePart) (old new : HeapState Branch) (ss : List Sound) (seats : Seats) (rows : List Row) → AreParts (length code.nodes) old ps → HeapLaws old → PartsAre seats.row ps qs → PartsTurn D env ps old new ss
      → Fits code all filled old seats rows (each (λ (part : PlanPart). part.sound env) (plan_parts code qs) rows) → Turns code all filled old new seats (λ row rs. AreSounds row ss rs) rows (each (λ (part : PlanPart). part.sound env) (plan_parts code qs) rows)
  parts_turn env [] [] old new [] seats rows there laws are step fits =
      subst (λ (h : HeapState Branch). Turns code all filled old h seats (λ row rs. AreSounds row [] rs) rows (given [] rows)) step
      (seats, grew_none code all filled old seats (length rows) (length rows) fits.matched, tt)
  parts_turn env [] (q ∷ qs) old new ss seats rows there laws are step fits = absurd are
  parts_turn env [] [] old new (s ∷ ss) seats rows there laws are step fits = absurd step
  parts_turn env (p ∷ ps) [] old new ss seats rows there laws are step fits = absurd are
  parts_turn env (p ∷ ps) (q ∷ qs) old new [] seats rows there laws are step fits = absurd step
  parts_turn env (p ∷ ps) (q ∷ qs) old new (s ∷ ss) seats rows there laws are step fits =
      let x = made code q.0.0 env q.1 rows in
      let last = each (λ (part : PlanPart). part.sound env) (plan_parts code qs) x.rows in
      let more : IsFirst rows x.rows = made_grows code q.0.0 env q.1 rows in
      let rest : IsFirst x.rows last.rows = grows_sounds env (plan_parts code qs) (plan_parts_grow code qs) x.rows in
      let whole : Fits code all filled old seats rows last = record { matched = fits.matched; first = fits.first; free = fits.free } in
      let evaluates : D q.0.0 env p.1 old step.0 s = subst (λ (e : ExprId). D e.0 env p.1 old step.0 s) are.0 step.1 in
      let t = made_turn_of code D law match all filled q.0.0 env p.1 q.1 old step.0 s seats rows evaluates (subst (λ (e : ExprId). e.0 < length code.nodes) are.0 there.0) laws there.1 are.1 (fits_first code all filled old seats rows x last more rest whole) in
      let h = (law p.0.0 env p.1 old step.0 s step.1 there.0 laws there.1).hand in
      let u = parts_turn env ps qs step.0 new ss t.0 x.rows (parts_kept (length code.nodes) old step.0 h.kept ps there.2) h.laws (parts_are_later (length code.nodes) old seats.row t.0.row ps qs there.2 t.1.row are.2) step.2
      (fits_next code all filled old step.0 seats t.0 rows x.rows last more rest t.1 whole) in (
        u.0,
        grew_then code all filled old step.0 new seats t.0 u.0 (length rows) (length x.rows) (length last.rows) more.short rest.short h.kept t.1 u.1,
        (sound_later step.0 t.0.row u.0.row s x.gives h.begin.0 u.1.row t.2, u.2),
      )

  -- `sim` and `simrep`
  pub sim_turn : (ps : List Part) (qs : List TablePart) (env : Env) (old new : HeapState Branch) (s : Sound) (seats : Seats) (rows : List Row) → AreParts (length code.nodes) old ps → HeapLaws old → PartsAre seats.row ps qs → SimTurn D ps env old new s
      → Fits code all filled old seats rows (and_then (parts_together env (plan_parts code qs)) (mixed env.sound_rate) rows) → Turns code all filled old new seats (λ row. IsSound row s) rows (and_then (parts_together env (plan_parts code qs)) (mixed env.sound_rate) rows)
  sim_turn ps qs env old new s seats rows there laws are step fits =
      let x = each (λ (part : PlanPart). part.sound env) (plan_parts code qs) rows in
      let y = each (brought env.sound_rate) x.gives x.rows in
      let last = mixed env.sound_rate (map input y.gives) y.rows in
      let more : IsFirst rows x.rows = grows_sounds env (plan_parts code qs) (plan_parts_grow code qs) rows in
      let rest : IsFirst x.rows last.rows = first_then x.rows y.rows last.rows (grows_each (brought env.sound_rate) (grows_brought env.sound_rate) x.gives x.rows) (grows_mixed env.sound_rate (map input y.gives) y.rows) in
      let whole : Fits code all filled old seats rows last = record { matched = fits.matched; first = fits.first; free = fits.free } in
      let t = parts_turn env ps qs old step.mid step.parts seats rows there laws are step.each (fits_first code all filled old seats rows x last more rest whole) in
      let comes = parts_come code D law env ps old step.mid step.parts there laws step.each in
      let h : Hand old step.mid step.parts = subst (λ ss. Hand old step.mid ss) (sym (part_sounds code D law env ps old step.mid step.parts step.each)) comes.hand in
      let next = fits_next code all filled old step.mid seats t.0 rows x.rows last more rest t.1 whole in
      mixed_turn code all filled old step.mid new env.sound_rate step.parts s x.gives seats t.0 (length rows) x.rows laws h t.1 more.short t.2 step.mixed (record { matched = next.matched; first = next.first; free = next.free })
