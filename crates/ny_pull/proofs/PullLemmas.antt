-- What the plan tells of an engine between two pulls, and of a pull.
use Rattle.std.proofs.Common.{◌≡◌, ℕ, ◌+◌, ◌-◌, ◌<◌, ◌≤◌, true, not, cond, List, [], length, Option, None, Some, slice_get, slice_index, slice_index_or, refl, sym, ap, subst, ◌∙◌, arith, map}
use Rattle.std.specs.Prelude.{◌==◌}
use Rattle.std.specs.Option.{option_map_or}
use Rattle.std.specs.List.{range_with_len, AllByRecursion}
use Rattle.ny_num.specs.declared.rate.Rate.{Rate}
use Rattle.ny_check.specs.Code.{Code, IsOrdered}
use Rattle.ny_check.specs.Heights.{height_of, IsTall}
use Rattle.ny_heap.specs.Heap.{HeapState, list_of, place_of, open_unit, live_of}
use Rattle.ny_heap.specs.Kinds.{place_of_kind, live_by_kind}
use Rattle.ny_heap.specs.Reach.{IsTrimmed}
use Rattle.ny_heap.specs.Steps.{without_sound, advanced}
use Rattle.ny_heap.specs.declared.sound.Sound.{Sound}
use Rattle.ny_hands.specs.Counts.{SameCounts}
use Rattle.ny_hands.specs.declared.branch.Branch.{Branch}
use Rattle.ny_hands.proofs.HeapLemmas.{counts_none, counts_more}
use Rattle.ny_hands.proofs.MarkLemmas.{marked_like}
use Rattle.ny_plan.specs.Rows.{RowSound, row_at}
use Rattle.ny_plan.specs.Plan.{plan}
use Rattle.ny_plan.specs.Need.{Filled, is_open as is_open_row}
use Rattle.ny_plan.specs.Fills.{Fills, no_fills, fill_row, channel_at, has_ended, counts, fills}
use Rattle.ny_plan.specs.Peak.{live_before}
use Rattle.ny_plan.specs.Lines as lines
use Rattle.ny_trace.specs.Laws.{KeepsFree}
use Rattle.ny_walk.specs.Walk.{Walks}
use Rattle.ny_walk.specs.Stops.{StopsAtFull}
use Rattle.ny_match.specs.Counting.{Counts, more_fills, higher_peak}
use Rattle.ny_match.specs.Keeps.{KeepsMade}
use Rattle.ny_eval.specs.Playing.{ArePlaying}
use Rattle.ny_eval.proofs.GivingUpLemmas.{Opens}
use Rattle.ny_eval.proofs.ProgramLemmas.{heights_enough}
use Rattle.ny_pull.specs.declared.fault.PullFault.{PullFault}
use Rattle.ny_pull.specs.Engine.{EngineState, with_pull, Leaves}
use Rattle.ny_pull.specs.Inside.{samples_of, IsEngineInside}
use Rattle.ny_pull.specs.Places.{ReadsAt}
use Rattle.ny_pull.specs.Planned.{filled_of, FollowsPlan, FillsAsPlanned, FindsAllLive}
use Rattle.ny_pull.specs.Seated.{AreSeated}
use Rattle.ny_pull.proofs.EngineLemmas.{state, playing, opens_at}
use Rattle.ny_pull.proofs.PlannedLemmas.{there_is, F, over, live_is, live_of_kinds_is, walk_leads, walk_counts, walk_seated, stop_finds}
use Rattle.ny_pull.proofs.SeatedLemmas.{read_seated}

-- ---- counts

trimmed_counts : (old new : HeapState Branch) → IsTrimmed old new → SameCounts old new
trimmed_counts old new t = record { pool = t.size.pool; block = t.size.block; fills = t.fills; peak = t.peak }

spent_counts : (h : HeapState Branch) (s : Sound) → SameCounts h (without_sound h s)
spent_counts h s = (marked_like (λ n. n - 1) h (place_of s) (list_of s)).counts

advanced_counts : (h : HeapState Branch) (s t : Sound) → SameCounts h (advanced h s t)
advanced_counts h s t = counts_more h (without_sound h s) (advanced h s t) (spent_counts h s) (marked_like (λ n. n + 1) (without_sound h s) (place_of t) (list_of t)).counts

left_counts : (old new : HeapState Branch) (s : Sound) (o : Option Sound) → Leaves old new s o → SameCounts old new
left_counts old new s None leaves = counts_more old (without_sound old s) new (spent_counts old s) (trimmed_counts (without_sound old s) new leaves.1)
left_counts old new s (Some rest) leaves = subst (SameCounts old) (sym leaves.2) (counts_none old)

module _ (mid new : HeapState Branch) (os later : List (Option Sound)) (c most n : ℕ) (reads : ReadsAt mid new os later c most n) where
  first_counts : SameCounts mid reads.read
  first_counts = counts_more mid (advanced mid reads.sound reads.to) reads.read (advanced_counts mid reads.sound reads.to) (trimmed_counts (advanced mid reads.sound reads.to) reads.read reads.reads)

  -- what reads a block fills none
  pub read_counts : SameCounts mid new
  read_counts = counts_more mid reads.read new first_counts (left_counts reads.read new reads.to reads.left reads.leaves)

-- ---- an engine that is not spent

module _ (code : Code) (rate : Rate) (h : HeapState Branch) (os : List (Option Sound)) (pulled : List ℕ) (frames pulls : ℕ) (spent : Option PullFault) (inside : IsEngineInside code rate h os pulled frames pulls spent) (unspent : spent ≡ None) where
  plays : ArePlaying code h os (samples_of code rate) pulled pulled
  plays = playing code rate h os pulled frames pulls spent inside unspent

  seats_now : AreSeated code rate h os pulled
  seats_now = inside.seated unspent

  abbrev F_now : Filled
  F_now = F code rate h os pulled plays inside.given seats_now

  pub follows : (e : EngineState) → state code rate os pulled spent h ≡ e → FollowsPlan e
  follows e is = subst FollowsPlan is (record {
    live = live_is code rate h os pulled plays inside.given seats_now;
    by_kind = live_of_kinds_is code rate h os pulled plays inside.given seats_now;
    fills = seats_now.fills;
    count = omega (arith, plays.count, plays.count_pulls, seats_now.count);
    lens = seats_now.lens;
  })

  pub kinds_follow : (e : EngineState) → state code rate os pulled spent h ≡ e → live_by_kind e.heap ≡ lines.live_by_kind e.heap.block (plan e.code e.rate).rows (filled_of e)
  kinds_follow e is = λ i. map (λ k. (follows e is).by_kind (λ kind. place_of_kind kind == k) i) (range_with_len 0 18)

  -- ---- a channel that is over

  module _ (c : ℕ) (within : c < length os) (at : slice_get os c ≡ Some None) where
    ended : has_ended h.block (plan code rate) F_now c ≡ true
    ended = by_row it.0.row refl
      where
        it : (r : RowSound) × (slice_get (plan code rate).channels c ≡ Some r)
        it = there_is (plan code rate).channels c (omega (arith, within, seats_now.count))

        by_row : (o : Option ℕ) → it.0.row ≡ o → has_ended h.block (plan code rate) F_now c ≡ true
        by_row None none = ap (λ (o : Option ℕ). option_map_or (λ x. not (is_open_row h.block (row_at (plan code rate).rows x) (slice_index F_now x))) o true) (ap (λ (o : Option RowSound). option_map_or (λ (r : RowSound). r.row) o None) it.1 ∙ none)
        by_row (Some y) is =
            ap (λ (o : Option ℕ). option_map_or (λ x. not (is_open_row h.block (row_at (plan code rate).rows x) (slice_index F_now x))) o true) (ap (λ (o : Option RowSound). option_map_or (λ (r : RowSound). r.row) o None) it.1 ∙ is)
            ∙ ap not (over code rate h os pulled plays inside.given seats_now c y it.0 at it.1 is)

    no_order : Fills.order (fills h.block (plan code rate) F_now c) ≡ []
    unfolding fills
    no_order = ap (λ b. Fills.order (cond b (no_fills F_now) (option_map_or (λ x. fill_row h.block (plan code rate).rows (x + 1) x F_now) (channel_at (plan code rate) c) (no_fills F_now)))) ended

    no_more : Fills.filled (fills h.block (plan code rate) F_now c) ≡ F_now
    unfolding fills
    no_more = ap (λ b. Fills.filled (cond b (no_fills F_now) (option_map_or (λ x. fill_row h.block (plan code rate).rows (x + 1) x F_now) (channel_at (plan code rate) c) (no_fills F_now)))) ended

    -- so a pull of it fills nothing
    pub fills_nothing : (e : EngineState) → state code rate os pulled spent h ≡ e → FillsAsPlanned e e c
    fills_nothing e is = subst (λ (e : EngineState). FillsAsPlanned e e c) is (record {
      leads = sym no_more;
      fills = ap (more_fills h.fills) (sym no_order);
      peak = ap (λ us. higher_peak h.peak (live_before h.block (plan code rate).rows us F_now)) (sym no_order);
      room = subst (λ us. AllByRecursion (λ n. n < h.pool) (live_before h.block (plan code rate).rows us F_now)) (sym no_order) tt;
    })

  -- ---- a channel that is open

  module _ (ordered : IsOrdered code) (free : KeepsFree code) (made : KeepsMade code) (tall : IsTall code (height_of code)) (c u : ℕ) (found : (s : Sound) × (slice_get os c ≡ Some (Some s)) × (open_unit h (list_of s) ≡ Some u)) (deep : ℕ) (us : List ℕ) where
    opens : Opens h found.0 (slice_index_or (samples_of code rate) c []) (slice_index pulled c) u
    opens = opens_at code rate h os pulled frames pulls spent inside unspent c found.0 u found.1 found.2

    -- what its next block needs is filled as the plan says
    module _ (mid : HeapState Branch) (walk : Walks code deep h u us mid) where
      counts_mid : Counts (plan code rate).rows F_now (Fills.order (fills h.block (plan code rate) F_now c)) h mid
      counts_mid = walk_counts code rate h os pulled plays inside.given seats_now c u found.0 found.1 opens.list opens.unit ordered free made (heights_enough code (height_of code) tall) deep us mid walk

      pub fills_as_planned : (new : HeapState Branch) (later kept : List (Option Sound)) (many : List ℕ) (later_spent : Option PullFault) (most n : ℕ) → ReadsAt mid new os later c most n → many ≡ with_pull pulled c → (e : EngineState) → state code rate os pulled spent h ≡ e → FillsAsPlanned e (state code rate kept many later_spent new) c
      fills_as_planned new later kept many later_spent most n reads more e is = subst (λ (e : EngineState). FillsAsPlanned e (state code rate kept many later_spent new) c) is (record {
        leads =
            (λ i. counts (((read_counts mid new os later c most n reads).block ∙ counts_mid.block) i) (plan code rate) (more i))
            ∙ sym (walk_leads code rate h os pulled plays inside.given seats_now c u found.0 found.1 opens.list opens.unit);
        fills = (read_counts mid new os later c most n reads).fills ∙ counts_mid.fills;
        peak = (read_counts mid new os later c most n reads).peak ∙ counts_mid.peak;
        room = counts_mid.room;
      })

      -- and its units are the plan's rows again once that block was read
      pub seated_now : (new : HeapState Branch) (later : List (Option Sound)) (most n : ℕ) → ReadsAt mid new os later c most n → AreSeated code rate new later (with_pull pulled c)
      seated_now new later most n reads =
          read_seated code rate mid new os later (with_pull pulled c) c most n reads (first_counts mid new os later c most n reads) (read_counts mid new os later c most n reads)
          (walk_seated code rate h os pulled plays inside.given seats_now c u found.0 found.1 opens.list opens.unit ordered free made (heights_enough code (height_of code) tall) deep us mid walk)

    -- a fill that finds no block free finds all of them live
    pub finds_all_live : (new : HeapState Branch) → StopsAtFull code deep h u us new → live_of new ≤ new.pool → (e : EngineState) → state code rate os pulled spent h ≡ e → FindsAllLive e c
    finds_all_live new walk within e is =
        subst (λ (e : EngineState). FindsAllLive e c) is
        (stop_finds code rate h os pulled plays inside.given seats_now c u found.0 found.1 opens.list opens.unit ordered free made (heights_enough code (height_of code) tall) deep us new walk within)
