-- Parts in turn: those that are due are the plan's, and those that wait make its next rows.
use Rattle.std.proofs.Common.{◌≡◌, ◌≢◌, ◌⊎◌, inl, inr, ℕ, suc, ◌+◌, ◌-◌, ◌*◌, ◌<◌, ◌≤◌, nat_eq, nat_lt, true, false, if◌then◌else◌, List, [], ◌∷◌, ◌++◌, map, drop, length, None, Some, refl, sym, ap, subst, ◌∙◌, arith, ℤ}
use Rattle.std.specs.List.{AllZip}
use Rattle.std.specs.Option.{option_map}
use Rattle.std.proofs.lemmas.Bool.{lt-ltb}
use Rattle.std.proofs.lemmas.Bool.Decides.{eqb_tells}
use Rattle.std.proofs.lemmas.List.{get_or_append_left}
use Rattle.std.proofs.Math.Seq.{get_or-append_seam}
use Rattle.std.proofs.Math.ListN.{length-append}
use Rattle.ny_num.specs.Grid.{index_at}
use Rattle.ny_num.specs.declared.rate.Rate.{Rate}
use Rattle.ny_num.specs.declared.timing.Timing.{Timing}
use Rattle.ny_num.specs.Sound as sounds
use Rattle.ny_num.specs.Sound.{spanning}
use Rattle.ny_num.specs.Mix.{mix_timing, mix}
use Rattle.ny_warp.specs.declared.env.Env.{Env}
use Rattle.ny_check.specs.declared.node.ExprId.{ExprId}
use Rattle.ny_check.specs.Code.{Code}
use Rattle.ny_heap.specs.declared.sound.Sound.{Sound}
use Rattle.ny_heap.specs.Heap.{Mix, Waiting, HeapState}
use Rattle.ny_heap.specs.Reach.{HeapLaws}
use Rattle.ny_heap.specs.Steps.{new_node, reader_of, waiting_of, sounds_of, last_stop_of}
use Rattle.ny_hands.specs.declared.branch.Branch.{Branch}
use Rattle.ny_hands.specs.Calls.{MakesUnit}
use Rattle.ny_hands.specs.Frames.{Names}
use Rattle.ny_hands.specs.Hands.{AllBegin, Hand}
use Rattle.ny_hands.proofs.HandLemmas.{hand_none, hand_more, begin_first}
use Rattle.ny_hands.proofs.MarkLemmas.{spent_like}
use Rattle.ny_hands.proofs.SpendLemmas.{hand_brought}
use Rattle.ny_trace.specs.Evaluates.{Trace, Part, NextTurn, NextsTurn, AreDue, SeqTurn}
use Rattle.ny_trace.specs.Laws.{IsLawful}
use Rattle.ny_trace.proofs.HeightLemmas.{from_trimmed}
use Rattle.ny_trace.proofs.MixLemmas.{AreParts, parts_kept, parts_first, parts_last}
use Rattle.ny_trace.proofs.SeqLemmas.{next_comes}
use Rattle.ny_trace.proofs.WaitLemmas.{waits_come, waits_sounds}
use Rattle.ny_heap.specs.Kinds.{Mix as MixKind}
use Rattle.ny_plan.specs.Rows.{Input, Row, After, row_at, no_row, and_then, unit}
use Rattle.ny_plan.specs.Need.{Filled}
use Rattle.ny_plan.specs.Units.{Part as PlanPart, brought, coming, next_part, parts_after, parts_in_turn, counted_from, mixed}
use Rattle.ny_plan.specs.Plan.{part_of, made}
use Rattle.ny_plan.specs.StandsFor.{Keeps}
use Rattle.ny_match.specs.Matched.{Part as TablePart, IsFirst, Seats, IsSound, AreNames, IsFree, Awaits, IsUnit, Matched}
use Rattle.ny_match.specs.Born.{IsMatching}
use Rattle.ny_match.proofs.GrowLemmas.{first_then, made_grows, grows_brought, grows_next, grows_after, grows_mixed}
use Rattle.ny_match.proofs.SeatLemmas.{SameRows, sound_later, seated, put_at}
use Rattle.ny_match.proofs.BornLemmas.{Grew, grew_none, grew_from, grew_then, free_later, new_rows, grew_added}
use Rattle.ny_match.proofs.UnitLemmas.{FirstInputs, firsts_later, come_first, positive, new_unit, Turns, Fits, fits_first, fits_next, trimmed_block, unit_row, made_by, brought_turn}
use Rattle.ny_match.proofs.FrameLemmas.{made_turn_of}
use Rattle.ny_match.proofs.MixLemmas.{PartsAre, plan_parts, plan_parts_grow, parts_are_later}
use Rattle.ny_match.proofs.NextLemmas.{next_turn}
use Rattle.ny_match.proofs.KeptLemmas.{kept_parts, KeepPartsMade, keep_last, kept_plan, waits_from, waits_parts, waits_captured}

mix_rate : (r : Rate) (ts : List Timing) → (mix_timing r ts).rate ≡ r
unfolding mix_timing spanning
mix_rate r [] = refl
mix_rate r (t ∷ ts) = refl

-- ---- inputs and stops

-- the stop of the last of these
abbrev pub stop_of : ℕ → List Input → ℕ
stop_of stop [] = stop
stop_of stop (i ∷ is) = stop_of i.sound.timing.stop is

-- the sounds of these inputs, each of which comes at the place of the stop before it
abbrev pub Placed : (ℕ → ℕ) → Rate → ℕ → List Sound → List Input → Type 0
Placed row r stop [] [] = Unit {0}
Placed row r stop (s ∷ ss) (i ∷ is) = IsSound row s i.sound × (i.offset ≡ index_at stop r) × Placed row r s.timing.stop ss is
Placed row r stop _ _ = ⊥

placed_stop : (row : ℕ → ℕ) (r : Rate) (stop : ℕ) (ss : List Sound) (is : List Input) → Placed row r stop ss is → last_stop_of stop ss ≡ stop_of stop is
placed_stop row r stop [] [] p = refl
placed_stop row r stop [] (i ∷ is) p = absurd p
placed_stop row r stop (s ∷ ss) [] p = absurd p
placed_stop row r stop (s ∷ ss) (i ∷ is) p = placed_stop row r s.timing.stop ss is p.2 ∙ ap (λ (t : Timing). stop_of t.stop is) p.0.timing

drop_placed : (row : ℕ → ℕ) (r : Rate) (stop start : ℕ) (ss : List Sound) (is ws : List Input) → Placed row r stop ss is → drop (length (map reader_of ss)) (map (counted_from start) (is ++ ws)) ≡ map (counted_from start) ws
drop_placed row r stop start [] [] ws p = refl
drop_placed row r stop start [] (i ∷ is) ws p = absurd p
drop_placed row r stop start (s ∷ ss) [] ws p = absurd p
drop_placed row r stop start (s ∷ ss) (i ∷ is) ws p = drop_placed row r s.timing.stop start ss is ws p.2

-- each that is due has come
due_firsts : (row : ℕ → ℕ) (r : Rate) (block start stop : ℕ) (ss : List Sound) (is ws : List Input) → 0 < block → Placed row r stop ss is → AreDue (start + block) r stop ss → FirstInputs row block ss (map (counted_from start) (is ++ ws))
due_firsts row r block start stop [] [] ws some p due = tt
due_firsts row r block start stop [] (i ∷ is) ws some p due = absurd p
due_firsts row r block start stop (s ∷ ss) [] ws some p due = absurd p
due_firsts row r block start stop (s ∷ ss) (i ∷ is) ws some p due =
    (p.0, lt-ltb (i.offset - start) ((0 + 1) * block) (omega (arith, p.1, due.0, some)), due_firsts row r block start s.timing.stop ss is ws some p.2 due.1)

-- ---- the plan's parts, some and then the others

abbrev both_after : Env → ℕ → List PlanPart → List PlanPart → List Row → After (List Input)
both_after env stop ps qs rows =
    let x = parts_after env stop ps rows in
    let y = parts_after env (stop_of stop x.gives) qs x.rows in
    record { gives = x.gives ++ y.gives; rows = y.rows }

after_append : (env : Env) (stop : ℕ) (ps qs : List PlanPart) (rows : List Row) → parts_after env stop (ps ++ qs) rows ≡ both_after env stop ps qs rows
after_append env stop [] qs rows = refl
after_append env stop (p ∷ ps) qs rows =
    let x = next_part env stop p rows in
    ap (λ (r : After (List Input)). let a : After (List Input) = record { gives = coming (index_at stop env.sound_rate) p x.gives ∷ r.gives; rows = r.rows } in a) (after_append env x.gives.timing.stop ps qs x.rows)

plan_append : (code : Code) (ps qs : List TablePart) → plan_parts code (ps ++ qs) ≡ plan_parts code ps ++ plan_parts code qs
plan_append code [] qs = refl
plan_append code (p ∷ ps) qs = ap (λ (rest : List PlanPart). part_of code (made code) p.1 p.0 ∷ rest) (plan_append code ps qs)

module _ (code : Code) where
  -- the first part, and then some and then others
  abbrev pub first_and : Env → TablePart → List TablePart → List TablePart → List Row → After (List Input)
  first_and env q now later rows =
      let x = made code q.0.0 env q.1 rows in
      let y = brought env.sound_rate x.gives x.rows in
      let c = both_after env y.gives.timing.stop (plan_parts code now) (plan_parts code later) y.rows in
      record { gives = coming 0 (part_of code (made code) q.1 q.0) y.gives ∷ c.gives; rows = c.rows }

  first_and_is : (env : Env) (q : TablePart) (now later qs : List TablePart) → qs ≡ now ++ later → (rows : List Row) → parts_in_turn env (plan_parts code (q ∷ qs)) rows ≡ first_and env q now later rows
  first_and_is env q now later qs same rows =
      let x = made code q.0.0 env q.1 rows in
      let y = brought env.sound_rate x.gives x.rows in
      let parts : plan_parts code qs ≡ plan_parts code now ++ plan_parts code later = ap (plan_parts code) same ∙ plan_append code now later in
      let c = ap (λ ps. parts_after env y.gives.timing.stop ps y.rows) parts ∙ after_append env y.gives.timing.stop (plan_parts code now) (plan_parts code later) y.rows in
      ap (λ (r : After (List Input)). let a : After (List Input) = record { gives = coming 0 (part_of code (made code) q.1 q.0) y.gives ∷ r.gives; rows = r.rows } in a) c

-- parts of the trace, some and then others, are such of the plan
record SplitParts (row : ℕ → ℕ) (now later : List Part) (qs : List TablePart) : Type 0 where
  first : List TablePart
  last : List TablePart
  same : qs ≡ first ++ last
  are_first : PartsAre row now first
  are_last : PartsAre row later last

split_parts : (row : ℕ → ℕ) (now later : List Part) (qs : List TablePart) → PartsAre row (now ++ later) qs → SplitParts row now later qs
split_parts row [] later qs are = record { first = []; last = qs; same = refl; are_first = tt; are_last = are }
split_parts row (p ∷ now) later [] are = absurd are
split_parts row (p ∷ now) later (q ∷ qs) are =
    let rest = split_parts row now later qs are.2 in
    record { first = q ∷ rest.first; last = rest.last; same = ap (λ (zs : List TablePart). q ∷ zs) rest.same; are_first = (are.0, are.1, rest.are_first); are_last = rest.are_last }

-- ---- a mix whose last parts wait

module _ (code : Code) (all : List Row) (filled : Filled) where
  -- Its row is behind those that its parts will make
  waiting_mix : (mid new : HeapState Branch) (t : Timing) (inputs : List Sound) (is : List Input) (samples : List sounds.Sound → List ℤ) (waiting : List (Waiting Branch)) (spent : List Sound) (s : Sound) (seats : Seats) (rows more : List Row)
      → HeapLaws mid → AllBegin mid inputs → FirstInputs seats.row mid.block inputs is → IsFirst rows more → MakesUnit mid new Mix t inputs waiting spent s
      → ((later : Seats) (n : ℕ) → SameRows mid seats.row later.row → length rows ≡ later.from n → length more ≡ later.upto n → IsFirst more all → Awaits code all later n (unit_row code all filled MixKind t is samples) (new_node Mix t inputs waiting) (length (map reader_of inputs) + 0) (last_stop_of 0 inputs))
      → Matched code all filled mid seats → IsFirst (After.rows (unit MixKind t is samples more)) all → IsFree filled mid seats (length rows) (length (After.rows (unit MixKind t is samples more)))
      → (later : Seats) × Grew code all filled mid new seats later (length rows) (length (After.rows (unit MixKind t is samples more))) × IsSound later.row s (After.gives (unit MixKind t is samples more))
  waiting_mix mid new t inputs is samples waiting spent s seats rows more laws begin f before step awaits m first free = by_length (eqb_tells t.len 0) first free
    where
      none : t.len ≡ 0 → IsFree filled mid seats (length rows) (length more) → (later : Seats) × Grew code all filled mid new seats later (length rows) (length more) × IsSound later.row s (record { row = None; timing = t })
      none z free = (
        seats,
        grew_from code all filled mid mid new seats seats (length rows) (length more) (from_trimmed mid new spent (step.makes.none z)) (trimmed_block code all filled mid new spent (step.makes.none z))
            (grew_none code all filled mid seats (length rows) (length more) m),
        record { names = sym (ap (option_map seats.row) (step.makes.result.list ∙ ap (λ n. if nat_lt 0 n then Some step.makes.node else None) z)); timing = step.makes.result.timing },
      )

      some_made : 0 < t.len → IsFirst (more ++ (unit_row code all filled MixKind t is samples ∷ [])) all → IsFree filled mid seats (length rows) (length (more ++ (unit_row code all filled MixKind t is samples ∷ []))) → (later : Seats) × Grew code all filled mid new seats later (length rows) (length (more ++ (unit_row code all filled MixKind t is samples ∷ []))) × IsSound later.row s (record { row = Some (length more); timing = t })
      some_made some first free =
          let n : ℕ = step.makes.node in
          let adds = step.makes.unit some in
          let x : Row = unit_row code all filled MixKind t is samples in
          let size : length (more ++ (x ∷ [])) ≡ length more + 1 = length-append more (x ∷ []) in
          let high = length (more ++ (x ∷ [])) in
          let here : row_at all (length more) ≡ x = first.same (length more) (omega (arith, size)) ∙ get_or-append_seam more x [] no_row in
          let next : Seats = seated seats n (length more) (length rows) (length more) in
          let inside : (length rows ≤ length more) × (length more < high) = (before.short, omega (arith, size)) in
          let range : (length rows ≤ length rows) × (length rows ≤ length more) × (length more ≤ high) = (omega arith, before.short, omega (arith, size)) in
          let apart : (length more < length rows) ⊎ (length more ≤ length more) = inr (omega arith) in
          let same_rows : SameRows mid seats.row next.row = new_rows code all filled mid new spent n (new_node Mix t inputs waiting) seats (length more) (length rows) (length more) (length rows) high laws m adds free inside range apart first.short in
          let block : new.block ≡ mid.block = adds.size.block ∙ (spent_like mid spent).counts.block in
          let more_first : IsFirst more all = record { short = omega (arith, size, first.short); same = λ j less. first.same j (omega (arith, less, size)) ∙ get_or_append_left more (x ∷ []) no_row j less } in
          let firsts : FirstInputs next.row new.block inputs is = subst (λ b. FirstInputs next.row b inputs is) (sym block) (firsts_later mid seats.row next.row mid.block inputs is begin same_rows f) in
          let fits_here : IsUnit code new.block all next n x 0 (new_node Mix t inputs waiting) =
          new_unit code all new.block next n x Mix t inputs waiting refl refl firsts
          (λ unfinished. (last_stop_of 0 inputs, λ e. refl, awaits next n same_rows (sym (put_at seats.from n (length rows) n refl)) (sym (put_at seats.upto n (length more) n refl)) more_first)) in (
            next,
            grew_added code all filled mid new spent n (new_node Mix t inputs waiting) seats (length more) (length rows) (length more) (length rows) high laws m adds free inside range apart first.short
                (subst (λ z. IsUnit code new.block all next n z 0 (new_node Mix t inputs waiting)) (sym here) fits_here),
            record {
              names = sym (ap (option_map next.row) (step.makes.result.list ∙ ap (λ b. if b then Some n else None) (lt-ltb 0 t.len some)) ∙ ap Some (put_at seats.row n (length more) n refl));
              timing = step.makes.result.timing;
            },
          )

      by_length : ((nat_eq t.len 0 ≡ true) × (t.len ≡ 0)) ⊎ ((nat_eq t.len 0 ≡ false) × (t.len ≢ 0)) → IsFirst (After.rows (made_by code all filled MixKind t is samples more (nat_eq t.len 0))) all → IsFree filled mid seats (length rows) (length (After.rows (made_by code all filled MixKind t is samples more (nat_eq t.len 0))))
          → (later : Seats) × Grew code all filled mid new seats later (length rows) (length (After.rows (made_by code all filled MixKind t is samples more (nat_eq t.len 0)))) × IsSound later.row s (After.gives (made_by code all filled MixKind t is samples more (nat_eq t.len 0)))
      by_length (inl z) first free =
          subst (λ b. (later : Seats) × Grew code all filled mid new seats later (length rows) (length (After.rows (made_by code all filled MixKind t is samples more b))) × IsSound later.row s (After.gives (made_by code all filled MixKind t is samples more b))) (sym z.0)
          (none z.1 (subst (λ b. IsFree filled mid seats (length rows) (length (After.rows (made_by code all filled MixKind t is samples more b)))) z.0 free))
      by_length (inr z) first free =
          subst (λ b. (later : Seats) × Grew code all filled mid new seats later (length rows) (length (After.rows (made_by code all filled MixKind t is samples more b))) × IsSound later.row s (After.gives (made_by code all filled MixKind t is samples more b))) (sym z.0)
          (some_made (positive t.len z.1) (subst (λ b. IsFirst (After.rows (made_by code all filled MixKind t is samples more b)) all) z.0 first) (subst (λ b. IsFree filled mid seats (length rows) (length (After.rows (made_by code all filled MixKind t is samples more b)))) z.0 free))

-- ---- the turn

module _ (code : Code) (D : Trace) (law : IsLawful code D) (match : IsMatching code D) (all : List Row) (filled : Filled) where
  nexts_hand : (env : Env) (stop : ℕ) (ps : List Part) (old new : HeapState Branch) (ss : List Sound) → AreParts (length code.nodes) old ps → HeapLaws old → NextsTurn D env stop ps old new ss → Hand old new ss
  nexts_hand env stop [] old new [] there laws step = subst (λ (h : HeapState Branch). Hand old h []) step (hand_none old laws)
  nexts_hand env stop [] old new (s ∷ ss) there laws step = absurd step
  nexts_hand env stop (p ∷ ps) old new [] there laws step = absurd step
  nexts_hand env stop (p ∷ ps) old new (s ∷ ss) there laws step =
      let h = (next_comes code D law env stop p old step.0 s there.0 laws there.1 step.1).hand in
      hand_more old step.0 new (s ∷ []) ss h (nexts_hand env s.timing.stop ps step.0 new ss (parts_kept (length code.nodes) old step.0 h.kept ps there.2) h.laws step.2)

  nexts_turn : (env : Env) (stop : ℕ) (ps : List Part) (qs : List TablePart) (old new : HeapState Branch) (ss : List Sound) (seats : Seats) (rows : List Row) → AreParts (length code.nodes) old ps → HeapLaws old → PartsAre seats.row ps qs → NextsTurn D env stop ps old new ss
      → Fits code all filled old seats rows (parts_after env stop (plan_parts code qs) rows) → Turns code all filled old new seats (λ row is. Placed row env.sound_rate stop ss is) rows (parts_after env stop (plan_parts code qs) rows)
  nexts_turn env stop [] [] old new [] seats rows there laws are step fits =
      subst (λ (h : HeapState Branch). (later : Seats) × Grew code all filled old h seats later (length rows) (length rows) × Placed later.row env.sound_rate stop [] []) step
      (seats, grew_none code all filled old seats (length rows) (length rows) fits.matched, tt)
  nexts_turn env stop [] (q ∷ qs) old new ss seats rows there laws are step fits = absurd are
  nexts_turn env stop [] [] old new (s ∷ ss) seats rows there laws are step fits = absurd step
  nexts_turn env stop (p ∷ ps) [] old new ss seats rows there laws are step fits = absurd are
  nexts_turn env stop (p ∷ ps) (q ∷ qs) old new [] seats rows there laws are step fits = absurd step
  nexts_turn env stop (p ∷ ps) (q ∷ qs) old new (s ∷ ss) seats rows there laws are step fits =
      let x = next_part env stop (part_of code (made code) q.1 q.0) rows in
      let last = parts_after env x.gives.timing.stop (plan_parts code qs) x.rows in
      let more : IsFirst rows x.rows = grows_next env stop (part_of code (made code) q.1 q.0) (λ from. made_grows code q.0.0 from q.1) rows in
      let rest : IsFirst x.rows last.rows = grows_after env x.gives.timing.stop (plan_parts code qs) (plan_parts_grow code qs) x.rows in
      let whole : Fits code all filled old seats rows last = record { matched = fits.matched; first = fits.first; free = fits.free } in
      let here = subst (λ (e : ExprId). NextTurn D env stop (e, p.1) old step.0 s) are.0 step.1 in
      let t = next_turn code D law match all filled env stop q.0 p.1 q.1 old step.0 s seats rows (subst (λ (e : ExprId). e.0 < length code.nodes) are.0 there.0) laws there.1 are.1 here (fits_first code all filled old seats rows x last more rest whole) in
      let h = (next_comes code D law env stop p old step.0 s there.0 laws there.1 step.1).hand in
      let later_parts = subst (λ (u : Timing). NextsTurn D env u.stop ps step.0 new ss) t.2.timing step.2 in
      let u = nexts_turn env x.gives.timing.stop ps qs step.0 new ss t.0 x.rows (parts_kept (length code.nodes) old step.0 h.kept ps there.2) h.laws (parts_are_later (length code.nodes) old seats.row t.0.row ps qs there.2 t.1.row are.2) later_parts
      (fits_next code all filled old step.0 seats t.0 rows x.rows last more rest t.1 whole) in (
        u.0,
        grew_then code all filled old step.0 new seats t.0 u.0 (length rows) (length x.rows) (length last.rows) more.short rest.short h.kept t.1 u.1,
        (sound_later step.0 t.0.row u.0.row s x.gives h.begin.0 u.1.row t.2, refl, subst (λ (v : Timing). Placed u.0.row env.sound_rate v.stop ss last.gives) (sym t.2.timing) u.2),
      )

  -- The parts that are due, and then the mix, at which the others wait. The mix is heard when the plan's is
  seq_both : (e : ℕ) (ps : List Part) (q : TablePart) (now later : List TablePart) (env : Env) (names : Names) (old new : HeapState Branch) (s : Sound) (seats : Seats) (rows : List Row) (step : SeqTurn D code e ps env names old new s)
      → AreParts (length code.nodes) old (step.first ∷ (step.now ++ step.later)) → HeapLaws old → step.first.0 ≡ q.0 → AreNames seats.row step.first.1 q.1 → PartsAre seats.row step.now now → PartsAre seats.row step.later later → KeepPartsMade code later
      → step.t ≡ mix_timing env.sound_rate (map (λ (i : Input). i.sound.timing) (After.gives (first_and code env q now later rows)))
      → Fits code all filled old seats rows (and_then (first_and code env q now later) (mixed env.sound_rate) rows)
      → Turns code all filled old new seats (λ row. IsSound row s) rows (and_then (first_and code env q now later) (mixed env.sound_rate) rows)
  seq_both e ps q now later env names old new s seats rows step there laws same_first first_names now_are later_are keep told fits =
      let rate : Rate = env.sound_rate in
      let x = made code q.0.0 env q.1 rows in
      let y = brought rate x.gives x.rows in
      let z = parts_after env y.gives.timing.stop (plan_parts code now) y.rows in
      let w = parts_after env (stop_of y.gives.timing.stop z.gives) (plan_parts code later) z.rows in
      let head : Input = coming 0 (part_of code (made code) q.1 q.0) y.gives in
      let is : List Input = head ∷ (z.gives ++ w.gives) in
      let t : Timing = mix_timing rate (map (λ (i : Input). i.sound.timing) is) in
      let inputs : List Input = map (counted_from t.start) is in
      let last = mixed rate is w.rows in
      let to_x : IsFirst rows x.rows = made_grows code q.0.0 env q.1 rows in
      let to_y : IsFirst x.rows y.rows = grows_brought rate x.gives x.rows in
      let to_z : IsFirst y.rows z.rows = grows_after env y.gives.timing.stop (plan_parts code now) (plan_parts_grow code now) y.rows in
      let to_w : IsFirst z.rows w.rows = grows_after env (stop_of y.gives.timing.stop z.gives) (plan_parts code later) (plan_parts_grow code later) z.rows in
      let to_last : IsFirst w.rows last.rows = grows_mixed rate is w.rows in
      let z_last : IsFirst z.rows last.rows = first_then z.rows w.rows last.rows to_w to_last in
      let y_last : IsFirst y.rows last.rows = first_then y.rows z.rows last.rows to_z z_last in
      let x_last : IsFirst x.rows last.rows = first_then x.rows y.rows last.rows to_y y_last in
      let whole : Fits code all filled old seats rows last = record { matched = fits.matched; first = fits.first; free = fits.free } in
      let n : ℕ = length code.nodes in
      let now_there : AreParts n old step.now = parts_first n old step.now step.later there.2 in
      let later_there : AreParts n old step.later = parts_last n old step.now step.later there.2 in
      let evaluates : D q.0.0 env step.first.1 old step.one step.part = subst (λ (k : ExprId). D k.0 env step.first.1 old step.one step.part) same_first step.evaluates in
      let t1 = made_turn_of code D law match all filled q.0.0 env step.first.1 q.1 old step.one step.part seats rows evaluates (subst (λ (k : ExprId). k.0 < length code.nodes) same_first there.0) laws there.1 first_names (fits_first code all filled old seats rows x last to_x x_last whole) in
      let h1 = (law step.first.0.0 env step.first.1 old step.one step.part step.evaluates there.0 laws there.1).hand in
      let f1 = fits_next code all filled old step.one seats t1.0 rows x.rows last to_x x_last t1.1 whole in
      let t2 = brought_turn code all filled step.one step.two rate step.part step.brought x.gives t1.0 x.rows h1.laws h1.begin.0 t1.2 step.brings (fits_first code all filled step.one t1.0 x.rows y last to_y y_last f1) in
      let h2 = hand_brought old step.one step.two rate step.part step.brought [] laws h1 step.brings in
      let g2 = grew_then code all filled old step.one step.two seats t1.0 t2.0 (length rows) (length x.rows) (length y.rows) to_x.short to_y.short h1.kept t1.1 t2.1 in
      let f2 = fits_next code all filled step.one step.two t1.0 t2.0 x.rows y.rows last to_y y_last t2.1 f1 in
      let now_two = parts_kept n old step.two h2.kept step.now now_there in
      let nexts = subst (λ (u : Timing). NextsTurn D env u.stop step.now step.two step.three step.others) t2.2.timing step.nexts in
      let t3 = nexts_turn env y.gives.timing.stop step.now now step.two step.three step.others t2.0 y.rows now_two h2.laws (parts_are_later n old seats.row t2.0.row step.now now now_there g2.row now_are) nexts (fits_first code all filled step.two t2.0 y.rows z last to_z z_last f2) in
      let hn = nexts_hand env step.brought.timing.stop step.now step.two step.three step.others now_two h2.laws step.nexts in
      let h3 = hand_more old step.two step.three (step.brought ∷ []) step.others h2 hn in
      let g3 = grew_then code all filled old step.two step.three seats t2.0 t3.0 (length rows) (length y.rows) (length z.rows) (omega (arith, to_x.short, to_y.short)) to_z.short h2.kept g2 t3.1 in
      let f3 = fits_next code all filled step.two step.three t2.0 t3.0 y.rows z.rows last to_z z_last t3.1 f2 in
      let later_three = parts_kept n old step.three h3.kept step.later later_there in
      let hw : Hand step.three step.four (sounds_of step.waiting) = subst (λ zs. Hand step.three step.four zs) (sym (waits_sounds code env step.later step.three step.four step.waiting step.waits)) (waits_come code n env step.later step.three step.four step.waiting later_three h3.laws step.waits).hand in
      let h4 = hand_more old step.three step.four (step.brought ∷ step.others) (sounds_of step.waiting) h3 hw in
      let comes = waits_from code env step.later step.three step.four step.waiting step.waits in
      let g4 = grew_from code all filled old step.three step.four seats t3.0 (length rows) (length z.rows) comes hw.counts.block g3 in
      let still = grew_from code all filled step.three step.three step.four t3.0 t3.0 (length z.rows) (length z.rows) comes hw.counts.block (grew_none code all filled step.three t3.0 (length z.rows) (length z.rows) f3.matched) in
      let free = free_later code all filled step.three step.four t3.0 t3.0 (length z.rows) (length z.rows) (length last.rows) (omega arith) z_last.short still f3.free in
      let is_head = sound_later step.two t2.0.row t3.0.row step.brought y.gives h2.begin.0 t3.1.row t2.2 in
      let due : AreDue (t.start + step.four.block) rate y.gives.timing.stop step.others =
      subst (λ (r : Rate). AreDue (t.start + step.four.block) r y.gives.timing.stop step.others) (mix_rate rate (map (λ (i : Input). i.sound.timing) is))
      (subst (λ (u : Timing). AreDue (u.start + step.four.block) u.rate y.gives.timing.stop step.others) told
      (subst (λ (v : Timing). AreDue (step.t.start + step.four.block) step.t.rate v.stop step.others) t2.2.timing step.due)) in
      let some : 0 < step.four.block = h4.laws.positive in
      let firsts : FirstInputs t3.0.row step.four.block (step.brought ∷ step.others) inputs =
      (is_head, come_first step.four.block (counted_from t.start head) some (omega arith), due_firsts t3.0.row rate step.four.block t.start y.gives.timing.stop step.others z.gives w.gives some t3.2 due) in
      let made_here : MakesUnit step.four new Mix t (step.brought ∷ step.others) (map waiting_of step.waiting) ((step.brought ∷ step.others) ++ sounds_of step.waiting) s =
      subst (λ (u : Timing). MakesUnit step.four new Mix u (step.brought ∷ step.others) (map waiting_of step.waiting) ((step.brought ∷ step.others) ++ sounds_of step.waiting) s) told step.made in
      let stops : last_stop_of 0 (step.brought ∷ step.others) ≡ stop_of y.gives.timing.stop z.gives =
      ap (λ (v : Timing). last_stop_of v.stop step.others) t2.2.timing ∙ placed_stop t3.0.row rate y.gives.timing.stop step.others z.gives t3.2 in
      let at_is : length (map reader_of (step.brought ∷ step.others)) + 0 ≡ suc (length (map reader_of step.others)) = omega arith in
      let dropped : drop (length (map reader_of (step.brought ∷ step.others)) + 0) inputs ≡ map (counted_from t.start) w.gives =
      ap (λ k. drop k inputs) at_is ∙ drop_placed t3.0.row rate y.gives.timing.stop t.start step.others z.gives w.gives t3.2 in
      let comings : parts_after env (last_stop_of 0 (step.brought ∷ step.others)) (plan_parts code (kept_parts code later)) z.rows ≡ w =
      (λ i. parts_after env (stops i) (kept_plan code later keep i) z.rows) in
      let m = waiting_mix code all filled step.four new t (step.brought ∷ step.others) inputs (λ ss. (mix rate ss).samples) (map waiting_of step.waiting) ((step.brought ∷ step.others) ++ sounds_of step.waiting) s t3.0 z.rows w.rows
      h4.laws (begin_first step.four (step.brought ∷ step.others) (sounds_of step.waiting) h4.begin) firsts to_w made_here
      (λ next k same from upto more_first.
      let later_now : PartsAre next.row step.later later =
      parts_are_later n step.three t3.0.row next.row step.later later later_three (λ v p at. let p_four = hw.kept v p at in same v p_four.0 p_four.1)
      (parts_are_later n old seats.row t3.0.row step.later later later_there g3.row later_are) in
      record {
        env = env;
        parts = kept_parts code later;
        rows = z.rows;
        before = first_then z.rows w.rows all to_w more_first;
        from = from;
        after = subst (λ (v : After (List Input)). IsFirst v.rows all) (sym comings) more_first;
        upto = ap (λ (v : After (List Input)). length v.rows) comings ∙ upto;
        inputs = dropped ∙ ap (λ (v : After (List Input)). map (counted_from t.start) v.gives) (sym comings);
        rate = sym (mix_rate rate (map (λ (i : Input). i.sound.timing) is));
        are = waits_parts code next.row env step.later later step.three step.four step.waiting later_now step.waits;
        keep = subst (λ (js : List Input). AllZip (λ p (i : Input). AllZip (Keeps next.row) (Waiting.captured {B = Branch} p) i.captured) (map waiting_of step.waiting) js) (sym dropped)
            (waits_captured code next.row env t.start (stop_of y.gives.timing.stop z.gives) step.later later step.three step.four step.waiting z.rows later_now step.waits);
      })
      g4.matched whole.first free in
      (m.0, grew_then code all filled old step.four new seats t3.0 m.0 (length rows) (length z.rows) (length last.rows) (omega (arith, to_x.short, to_y.short, to_z.short)) z_last.short h4.kept g4 m.1, m.2)

  pub seq_turn : (e : ℕ) (ps : List Part) (qs : List TablePart) (env : Env) (names : Names) (old new : HeapState Branch) (s : Sound) (seats : Seats) (rows : List Row) (step : SeqTurn D code e ps env names old new s) → AreParts (length code.nodes) old ps → HeapLaws old → PartsAre seats.row ps qs → KeepPartsMade code qs
      → step.t ≡ mix_timing env.sound_rate (map (λ (i : Input). i.sound.timing) (After.gives (parts_in_turn env (plan_parts code qs) rows)))
      → Fits code all filled old seats rows (and_then (parts_in_turn env (plan_parts code qs)) (mixed env.sound_rate) rows)
      → Turns code all filled old new seats (λ row. IsSound row s) rows (and_then (parts_in_turn env (plan_parts code qs)) (mixed env.sound_rate) rows)
  seq_turn e ps qs env names old new s seats rows step there laws are keep told fits =
      by_parts qs (subst (λ zs. PartsAre seats.row zs qs) step.all are) keep told fits
    where
      by_parts : (qs : List TablePart) → PartsAre seats.row (step.first ∷ (step.now ++ step.later)) qs → KeepPartsMade code qs
          → step.t ≡ mix_timing env.sound_rate (map (λ (i : Input). i.sound.timing) (After.gives (parts_in_turn env (plan_parts code qs) rows)))
          → Fits code all filled old seats rows (and_then (parts_in_turn env (plan_parts code qs)) (mixed env.sound_rate) rows)
          → Turns code all filled old new seats (λ row. IsSound row s) rows (and_then (parts_in_turn env (plan_parts code qs)) (mixed env.sound_rate) rows)
      by_parts [] are keep told fits = absurd are
      by_parts (q ∷ qs) are keep told fits =
          let split = split_parts seats.row step.now step.later qs are.2 in
          let P : After (List Input) → Type 0 = λ c.
          step.t ≡ mix_timing env.sound_rate (map (λ (i : Input). i.sound.timing) c.gives)
          → Fits code all filled old seats rows (mixed env.sound_rate c.gives c.rows) → Turns code all filled old new seats (λ row. IsSound row s) rows (mixed env.sound_rate c.gives c.rows) in
          subst P (sym (first_and_is code env q split.first split.last qs split.same rows))
          (λ told fits. seq_both e ps q split.first split.last env names old new s seats rows step (subst (AreParts (length code.nodes) old) step.all there) laws are.0 are.1 split.are_first split.are_last
          (keep_last code split.first split.last (subst (KeepPartsMade code) split.same keep.1)) told (record { matched = fits.matched; first = fits.first; free = fits.free }))
          told (record { matched = fits.matched; first = fits.first; free = fits.free })
