-- What an engine's heap is by the plan of its program, between pulls and over a walk.
use Rattle.std.proofs.Common.{◌≡◌, ℕ, zero, suc, ◌+◌, ◌*◌, ◌<◌, ◌≤◌, min, Bool, true, false, not, cond, nat_lt, IsTrue, IsSomeAnd, List, [], ◌∷◌, length, Option, None, Some, slice_get, refl, sym, ap, subst, ◌∙◌, arith, ◌-◌, ◌^◌, sum}
use Rattle.std.specs.Prelude.{◌==◌, slice_index, slice_index_or}
use Rattle.std.specs.Option.{option_map, option_map_or}
use Rattle.std.specs.List.{list_any}
use Rattle.std.proofs.lemmas.Bool.{lt-ltb, le-ltb}
use Rattle.ny_num.specs.declared.rate.Rate.{Rate}
use Rattle.ny_num.specs.Sound.{silence}
use Rattle.ny_check.specs.Code.{Code, IsOrdered}
use Rattle.ny_check.specs.Channels.{channels}
use Rattle.ny_check.specs.Heights.{height_of}
use Rattle.ny_heap.specs.Heap.{Node, HeapState, node_at, is_open, list_of, live_of}
use Rattle.ny_heap.specs.Kinds.{UnitKind, kept_of_kinds}
use Rattle.ny_heap.specs.declared.sound.Sound.{Sound}
use Rattle.ny_hands.specs.declared.branch.Branch.{Branch}
use Rattle.ny_hands.specs.Hands.{marks_at}
use Rattle.ny_hands.proofs.HandLemmas.{marks_there}
use Rattle.ny_hands.proofs.HeapLemmas.{mark_counts}
use Rattle.ny_plan.specs.Rows.{RowSound, Row, Plan, row_at}
use Rattle.ny_plan.specs.Plan.{plan}
use Rattle.ny_plan.specs.Need.{Filled, is_open as is_open_row}
use Rattle.ny_plan.specs.Fills.{Fills, no_fills, fill_row, channel_at, has_ended, counts, fills}
use Rattle.ny_plan.specs.Liveness.{live, live_of_kinds}
use Rattle.ny_plan.specs.Lines.{pulled as pulled_once}
use Rattle.ny_plan.specs.Peak.{live_before}
use Rattle.ny_plan.proofs.OrderLemmas.{plan_ordered}
use Rattle.ny_plan.proofs.OrderLaw.{pull_leads, pull_adds, counts_size, counts_enough, counts_pulled}
use Rattle.ny_trace.specs.Heights.{IsTall}
use Rattle.ny_trace.specs.Laws.{KeepsFree}
use Rattle.ny_walk.specs.Walk.{Walks}
use Rattle.ny_walk.specs.Stops.{StopsAtFull}
use Rattle.ny_match.specs.Keeps.{KeepsMade}
use Rattle.ny_match.specs.Matched.{Seats, Matched}
use Rattle.ny_match.specs.Channels.{AreReading}
use Rattle.ny_match.specs.Counting.{Counts, more_fills}
use Rattle.ny_match.specs.Walking.{Rests, WalksAs}
use Rattle.ny_match.proofs.KindLemmas.{has_kinds}
use Rattle.ny_match.proofs.LastRowLemmas.{plan_has_channels}
use Rattle.ny_match.proofs.LiveLemmas.{matched_live, matched_by_kind}
use Rattle.ny_match.proofs.RootLemmas.{roots_read, channel_stands, opens_before}
use Rattle.ny_match.proofs.TurnLemmas.{evaluates_match}
use Rattle.ny_match.proofs.WholeLemmas.{walk_matched, stop_matched}
use Rattle.ny_eval.specs.Playing.{IsPulled, ArePlaying}
use Rattle.ny_eval.proofs.TowerLemmas.{tower, tower_ranks}
use Rattle.ny_pull.specs.Inside.{HasGiven, samples_of}
use Rattle.ny_pull.specs.Seated.{AreSeated}
use Rattle.ny_pull.proofs.EngineLemmas.{samples_at}

pub there_is : {A : Type 0} (xs : List A) (k : ℕ) → k < length xs → (a : A) × (slice_get xs k ≡ Some a)
there_is [] k within = absurd (omega (arith, within))
there_is (x ∷ xs) zero within = (x, refl)
there_is (x ∷ xs) (suc k) within = there_is xs k (omega (arith, within))

place_within : {A : Type 0} (xs : List A) (k : ℕ) (a : A) → slice_get xs k ≡ Some a → k < length xs
place_within [] k a at = cc
place_within (x ∷ xs) zero a at = omega arith
place_within (x ∷ xs) (suc k) a at = omega (arith, place_within xs k a at)

-- ---- what the plan fills for an open channel

pub opens_channel : (block : ℕ) (p : Plan) (f : Filled) (c x : ℕ) → channel_at p c ≡ Some x → is_open_row block (row_at p.rows x) (slice_index f x) ≡ true → has_ended block p f c ≡ false
opens_channel block p f c x row still =
    ap (λ (o : Option ℕ). option_map_or (λ x. not (is_open_row block (row_at p.rows x) (slice_index f x))) o true) row ∙ ap not still

pub fills_channel : (block : ℕ) (p : Plan) (f : Filled) (c x : ℕ) → channel_at p c ≡ Some x → is_open_row block (row_at p.rows x) (slice_index f x) ≡ true → fills block p f c ≡ fill_row block p.rows (x + 1) x f
unfolding fills
fills_channel block p f c x row still =
    ap (λ b. cond b (no_fills f) (option_map_or (λ x. fill_row block p.rows (x + 1) x f) (channel_at p c) (no_fills f))) (opens_channel block p f c x row still)
    ∙ ap (λ (o : Option ℕ). option_map_or (λ x. fill_row block p.rows (x + 1) x f) o (no_fills f)) row

more_filled : (n : ℕ) (xs : List ℕ) → n ≤ 2 ^ 64 - 1 → more_fills n xs ≡ min (n + length xs) (2 ^ 64 - 1)
more_filled n [] low = omega (arith, low)
more_filled n (x ∷ xs) low = more_filled (min (n + 1) (2 ^ 64 - 1)) xs (omega arith) ∙ one_more n (length xs)
  where
    one_more : (n k : ℕ) → min (min (n + 1) (2 ^ 64 - 1) + k) (2 ^ 64 - 1) ≡ min (n + suc k) (2 ^ 64 - 1)
    one_more n k = omega arith

-- ---- between two pulls

module _ (code : Code) (rate : Rate) (h : HeapState Branch) (os : List (Option Sound)) (pulled : List ℕ) (playing : ArePlaying code h os (samples_of code rate) pulled pulled) (given : (c : ℕ) (o : Option Sound) → slice_get os c ≡ Some o → HasGiven o (length (slice_index_or (channels code rate) c (silence rate)).samples) (slice_index pulled c * h.block)) (seated : AreSeated code rate h os pulled) where
  abbrev pub F : Filled
  F = counts h.block (plan code rate) pulled

  abbrev rows : List Row
  rows = (plan code rate).rows

  abbrev row : ℕ → ℕ
  row = seated.seats.row

  pulled_count : length pulled ≡ length (plan code rate).channels
  pulled_count = omega (arith, playing.count, playing.count_pulls, seated.count)

  given_here : (c : ℕ) (o : Option Sound) → slice_get os c ≡ Some o → HasGiven o (length (slice_index_or (samples_of code rate) c [])) (slice_index pulled c * h.block)
  given_here c o at = subst (λ xs. HasGiven o (length xs) (slice_index pulled c * h.block)) (sym (samples_at (channels code rate) c rate)) (given c o at)

  module _ (k n : ℕ) (s : Sound) (at : slice_get os k ≡ Some (Some s)) (is : list_of s ≡ Some n) where
    unit : IsPulled h s (slice_index pulled k) n
    unit = (playing.each k s at).pulled n is

    filled_is : slice_index F (row n) ≡ slice_index pulled k
    filled_is = sym (seated.matched.units n unit.unit unit.there).filled ∙ unit.done

    len_is : (row_at rows (row n)).timing.len ≡ s.timing.len
    len_is = ap (λ t. t.len) (sym (seated.matched.units n unit.unit unit.there).timing) ∙ unit.shown

    less : slice_index pulled k * h.block < s.timing.len
    less = omega (arith, given_here k (Some s) at, (playing.each k s at).len)

    pub row_opens : is_open_row h.block (row_at rows (row n)) (slice_index F (row n)) ≡ true
    row_opens =
        opens_before h.block (slice_index F (row n)) (row_at rows (row n)) playing.laws.positive
        ∙ (λ i. nat_lt (filled_is i * h.block) (len_is i))
        ∙ lt-ltb (slice_index pulled k * h.block) s.timing.len less

    stands_next : (0 < marks_at h n (slice_index pulled k)) × ((j : ℕ) → 0 < marks_at h n j → j ≡ slice_index pulled k)
    stands_next =
        channel_stands h s n (slice_index pulled k) unit.unit playing.laws.positive unit.there is (playing.each k s at).held unit.shown unit.only
        ((playing.each k s at).place ∙ ap (min (slice_index pulled k * h.block)) (sym (playing.each k s at).len)) less

    pub marked_next : 0 < marks_at h n (slice_index F (row n))
    marked_next = subst (λ j. 0 < marks_at h n j) (sym filled_is) stands_next.0

    marked_only : (j : ℕ) → 0 < marks_at h n j → j ≡ slice_index F (row n)
    marked_only j more = stands_next.1 j more ∙ sym filled_is

  pub over : (k y : ℕ) (r : RowSound) → slice_get os k ≡ Some None → slice_get (plan code rate).channels k ≡ Some r → r.row ≡ Some y → is_open_row h.block (row_at rows y) (slice_index F y) ≡ false
  over k y r at here is =
      let many = counts_pulled h.block code rate pulled k y r pulled_count here is in
      let timing = ((plan_has_channels code rate).rows k y r here is).timing in
      let len : (row_at rows y).timing.len ≡ length (slice_index_or (channels code rate) k (silence rate)).samples = ap (λ t. t.len) timing ∙ seated.lens k r here in
      opens_before h.block (slice_index F y) (row_at rows y) playing.laws.positive
      ∙ (λ i. nat_lt (many i * h.block) (len i))
      ∙ le-ltb (slice_index pulled k * h.block) (length (slice_index_or (channels code rate) k (silence rate)).samples) (given k None at)

  read_alone : (v j : ℕ) → 0 < marks_at h v j → (k : ℕ) × (s : Sound) × (slice_get os k ≡ Some (Some s)) × (list_of s ≡ Some v)
  read_alone v j some = by_node (node_at h v) refl
    where
      by_node : (o : Option (Node Branch)) → node_at h v ≡ o → (k : ℕ) × (s : Sound) × (slice_get os k ≡ Some (Some s)) × (list_of s ≡ Some v)
      by_node None is = absurd (omega (arith, some, ap (λ (o : Option (Node Branch)). option_map_or (λ x. slice_index x.outside j) o 0) is))
      by_node (Some x) is = playing.alone v x is (omega (arith, some, marks_there h v x j is, mark_counts x.outside j))

  reading : AreReading (plan code rate) F h row os
  reading = record {
    count = seated.count;
    names = seated.names;
    opens = λ k n s at is. row_opens k n s at is;
    marks = λ k n s at is. marked_next k n s at is;
    stands = λ k n j s at is more. marked_only k n s at is j more;
    ended = over;
    alone = read_alone;
  }

  pub rests : Rests code rows F h seated.seats
  rests = record {
    laws = playing.laws;
    settled = playing.settled;
    parts = playing.ready.parts;
    matched = seated.matched;
    roots = roots_read (plan code rate) F h seated.seats os (plan_has_channels code rate) reading;
    size = counts_size h.block code rate pulled;
    enough = counts_enough h.block code rate pulled playing.laws.positive;
  }

  -- the blocks that are taken are those that are live
  pub live_is : live_of h ≡ live h.block rows F
  live_is = matched_live code rows F h seated.seats playing.laws playing.settled seated.matched rests.roots (plan_ordered code rate).0

  pub live_of_kinds_is : (kinds : UnitKind → Bool) → kept_of_kinds kinds h 0 h.nodes ≡ live_of_kinds kinds h.block rows F
  live_of_kinds_is kinds = matched_by_kind kinds code rows F h seated.seats playing.laws playing.settled seated.matched rests.roots (plan_ordered code rate).0

  -- ---- a pull of a channel

  module _ (c u : ℕ) (s : Sound) (at : slice_get os c ≡ Some (Some s)) (list : list_of s ≡ Some u) (opened : IsSomeAnd (node_at h u) (λ x. IsTrue (is_open h.block x))) where
    its : (r : RowSound) × (slice_get (plan code rate).channels c ≡ Some r)
    its = there_is (plan code rate).channels c (omega (arith, place_within os c (Some s) at, seated.count))

    row_is : channel_at (plan code rate) c ≡ Some (row u)
    row_is = ap (λ (o : Option RowSound). option_map_or (λ (r : RowSound). r.row) o None) its.1 ∙ seated.names c s its.0 at its.1 ∙ ap (option_map row) list

    pub fills_are : fills h.block (plan code rate) F c ≡ fill_row h.block rows (row u + 1) (row u) F
    fills_are = fills_channel h.block (plan code rate) F c (row u) row_is (row_opens c u s at list)

    pub fills_lead : Fills.filled (fill_row h.block rows (row u + 1) (row u) F) ≡ counts h.block (plan code rate) (pulled_once c pulled)
    fills_lead =
        ap Fills.filled (sym fills_are)
        ∙ pull_leads h.block code rate pulled c playing.laws.positive pulled_count (opens_channel h.block (plan code rate) F c (row u) row_is (row_opens c u s at list))

    pub walk_leads : Fills.filled (fills h.block (plan code rate) F c) ≡ counts h.block (plan code rate) (pulled_once c pulled)
    walk_leads = ap Fills.filled fills_are ∙ fills_lead

    opened_unit : is_open h.block (unit c u s at list).unit ≡ true
    opened_unit = subst (λ (o : Option (Node Branch)). IsSomeAnd o (λ x. IsTrue (is_open h.block x))) (unit c u s at list).there opened

    module _ (ordered : IsOrdered code) (free : KeepsFree code) (keeps : KeepsMade code) (tall : IsTall code (height_of code)) where
      -- a walk fills what the plan fills for the channel
      walks_as : (deep : ℕ) (us : List ℕ) (mid : HeapState Branch) → Walks code deep h u us mid → WalksAs code (height_of code) rows F h mid seated.seats u (fill_row h.block rows (row u + 1) (row u) F)
      walks_as deep us mid walk =
          walk_matched code ordered free (evaluates_match code ordered free keeps (has_kinds code)) (height_of code) tall rows (plan_ordered code rate).0 (plan_has_channels code rate).top (plan_has_channels code rate).last
          deep h mid u (tower (height_of code) h u + 1) us (unit c u s at list).unit (unit c u s at list).there opened_unit
          (record { rank = tower (height_of code) h; ranks = tower_ranks (height_of code) h playing.laws; within = omega arith }) F seated.seats rests walk

      pub walk_counts : (deep : ℕ) (us : List ℕ) (mid : HeapState Branch) → Walks code deep h u us mid → Counts rows F (Fills.order (fills h.block (plan code rate) F c)) h mid
      walk_counts deep us mid walk = subst (λ (q : Fills). Counts rows F (Fills.order q) h mid) (sym fills_are) (walks_as deep us mid walk).counts

      fills_more : min (h.fills + length (Fills.order (fills h.block (plan code rate) F c))) (2 ^ 64 - 1) ≡ min (sum (counts h.block (plan code rate) (pulled_once c pulled))) (2 ^ 64 - 1)
      fills_more =
          let adds = pull_adds h.block code rate pulled c playing.laws.positive pulled_count (opens_channel h.block (plan code rate) F c (row u) row_is (row_opens c u s at list)) in
          omega (arith, seated.fills, adds)

      -- and the heap is then as the plan has it with one pull more
      pub walk_seated : (deep : ℕ) (us : List ℕ) (mid : HeapState Branch) → Walks code deep h u us mid → AreSeated code rate mid os (pulled_once c pulled)
      walk_seated deep us mid walk =
          let w = walks_as deep us mid walk in
          record {
            seats = w.later;
            matched = subst (λ b. Matched code rows (counts b (plan code rate) (pulled_once c pulled)) mid w.later) (sym w.counts.block) (subst (λ f. Matched code rows f mid w.later) fills_lead w.matched);
            fills =
                (walk_counts deep us mid walk).fills ∙ more_filled h.fills (Fills.order (fills h.block (plan code rate) F c)) (omega (arith, seated.fills)) ∙ fills_more
                ∙ ap (λ b. min (sum (counts b (plan code rate) (pulled_once c pulled))) (2 ^ 64 - 1)) (sym w.counts.block);
            count = seated.count;
            names = λ k t r there here. seated.names k t r there here ∙ by_list w.later w.outside k t there (list_of t) refl;
            lens = seated.lens;
          }
        where
          by_list : (later : Seats) → ((v j : ℕ) → 0 < marks_at h v j → later.row v ≡ row v) → (k : ℕ) (t : Sound) → slice_get os k ≡ Some (Some t) → (o : Option ℕ) → list_of t ≡ o → option_map row (list_of t) ≡ option_map later.row (list_of t)
          by_list later same k t there None is = ap (option_map row) is ∙ sym (ap (option_map later.row) is)
          by_list later same k t there (Some n) is = ap (option_map row) is ∙ ap Some (sym (same n (slice_index F (row n)) (marked_next k n t there is))) ∙ sym (ap (option_map later.row) is)

      -- where it stops for want of a block, the plan comes to a fill before which all blocks are live
      pub stop_finds : (deep : ℕ) (us : List ℕ) (new : HeapState Branch) → StopsAtFull code deep h u us new → live_of new ≤ new.pool → list_any (λ n. n == h.pool) (live_before h.block rows (Fills.order (fills h.block (plan code rate) F c)) F) ≡ true
      stop_finds deep us new walk within =
          subst (λ (q : Fills). list_any (λ n. n == h.pool) (live_before h.block rows (Fills.order q) F) ≡ true) (sym fills_are)
          (stop_matched code ordered free (evaluates_match code ordered free keeps (has_kinds code)) (height_of code) tall rows (plan_ordered code rate).0 (plan_has_channels code rate).top (plan_has_channels code rate).last
          deep h new u (tower (height_of code) h u + 1) us (unit c u s at list).unit (unit c u s at list).there opened_unit
          (record { rank = tower (height_of code) h; ranks = tower_ranks (height_of code) h playing.laws; within = omega arith }) F seated.seats rests walk within)
