-- A walk fills the rows that the plan fills, in the same order, and finds so many blocks live before each.
use Rattle.std.proofs.Common.{◌≡◌, ◌⊎◌, inl, inr, ℕ, zero, suc, ◌+◌, ◌-◌, ◌<◌, ◌≤◌, Bool, true, false, nat_lt, List, [], ◌∷◌, ◌++◌, length, Option, None, Some, slice_get, refl, sym, ap, subst, ◌∙◌, arith}
use Rattle.std.specs.Prelude.{slice_index, slice_set, ◌||◌, ◌==◌}
use Rattle.std.specs.Option.{option_map_or}
use Rattle.std.specs.List.{list_any}
use Rattle.std.proofs.lemmas.List.{append-nil}
use Rattle.std.proofs.lemmas.Bool.{true≢false, eq-eqb}
use Rattle.ny_check.specs.Code.{Code, IsOrdered}
use Rattle.ny_heap.specs.Heap.{Node, HeapState, node_at, is_open, live_of}
use Rattle.ny_heap.specs.Reach.{HeapLaws}
use Rattle.ny_heap.specs.Steps.{want_of}
use Rattle.ny_hands.specs.declared.branch.Branch.{Branch}
use Rattle.ny_hands.specs.Counts.{SameCounts}
use Rattle.ny_hands.specs.Hands.{marks_at}
use Rattle.ny_plan.specs.Rows.{Input, Row, row_at}
use Rattle.ny_plan.specs.Need.{Filled, has_come}
use Rattle.ny_plan.specs.Liveness.{live}
use Rattle.ny_plan.specs.Peak.{live_before}
use Rattle.ny_plan.specs.Fills.{Fills, no_fills, followed_by, for_each, fill_of, fill_input, fill_row}
use Rattle.ny_plan.specs.Order.{IsInputOf, AllRows}
use Rattle.ny_plan.specs.Demand.{IsEnough, Raises}
use Rattle.ny_plan.specs.StandsFor.{IsRoot}
use Rattle.ny_plan.proofs.NeedLemmas.{item_of}
use Rattle.ny_plan.proofs.FillLemmas.{raises_fill}
use Rattle.ny_trace.specs.Heights.{IsTall, Ranks}
use Rattle.ny_trace.specs.Laws.{KeepsFree}
use Rattle.ny_walk.specs.Walk.{FillTurn, PartTurn, Walk, RevealsParts, WalksWants, WalksInOrder}
use Rattle.ny_walk.specs.Parts.{AllPartsOf}
use Rattle.ny_walk.specs.Below.{IsRanked, Below, WantsSoFar, RevealsSoFar}
use Rattle.ny_walk.specs.Stops.{StopsHere, StopsBelow, StopsInOrder}
use Rattle.ny_walk.proofs.BelowLemmas.{held_above}
use Rattle.ny_walk.proofs.TurnLemmas.{part_reveals, wants_so_far}
use Rattle.ny_walk.proofs.WantLemmas.{wanted, wanted_uses, wanted_open}
use Rattle.ny_walk.proofs.WalkLemmas.{next_there, next_ranked, fill_then, reveal_more}
use Rattle.ny_match.specs.Matched.{Seats, Matched}
use Rattle.ny_match.specs.Roots.{Roots}
use Rattle.ny_match.specs.Counting.{Counts}
use Rattle.ny_match.specs.Walking.{ChannelsFrom, Rests, WalksAs}
use Rattle.ny_match.proofs.OrderLemmas.{raised, followed_at, followed_assoc, row_by_order, same_depth, IsByOrder, IsMet, all_met, Lacks, lacks_first, before_append, followed_by_order}
use Rattle.ny_match.proofs.CountingLemmas.{counts_none, counts_more, counts_same, counts_fill}
use Rattle.ny_match.proofs.WantedLemmas.{wants_none, wants_first}

-- ---- who reads from outside

-- channels are read as before, where the same sounds are in callers' hands and no block of a channel was filled
pub roots_kept : (rows : List Row) (top : ℕ) (f g : Filled) (old new : HeapState Branch) (seats later : Seats) → ChannelsFrom top rows → new.block ≡ old.block → ((v j : ℕ) → marks_at new v j ≡ marks_at old v j)
    → ((v j : ℕ) → 0 < marks_at old v j → later.row v ≡ seats.row v) → ((c : ℕ) → top ≤ c → slice_index g c ≡ slice_index f c) → Roots rows f old seats → Roots rows g new later
roots_kept rows top f g old new seats later last block marks same kept roots = record {
  outside = λ v j read.
      let before : 0 < marks_at old v j = omega (arith, read, marks v j) in
      let was = roots.outside v j before in
      let row = same v j before in
      let c = kept (seats.row v) (last.channels (seats.row v) was.0.0) in (
        subst (λ n. IsRoot new.block (row_at rows (later.row v)) n) (ap (slice_index g) (sym row) ∙ refl) (subst (λ w. IsRoot new.block (row_at rows w) (slice_index g (seats.row v))) (sym row) (subst (λ b. IsRoot b (row_at rows (seats.row v)) (slice_index g (seats.row v))) (sym block) (subst (λ n. IsRoot old.block (row_at rows (seats.row v)) n) (sym c) was.0))),
        was.1 ∙ sym c ∙ ap (slice_index g) (sym row),
      );
  there = λ c root.
      let high = kept c (last.channels c root.0) in
      let old_root : IsRoot old.block (row_at rows c) (slice_index f c) = subst (λ b. IsRoot b (row_at rows c) (slice_index f c)) block (subst (λ n. IsRoot new.block (row_at rows c) n) high root) in
      let was = roots.there c old_root in
      (was.0, subst (λ n. 0 < marks_at new was.0 n) (sym high) (omega (arith, was.1, marks was.0 (slice_index f c))), same was.0 (slice_index f c) was.1 ∙ was.2);
}

lacks_at : (rows : List Row) (b c r s d e y : ℕ) (g : Filled) → b ≡ c → r ≡ s → d ≡ e → Lacks b (row_at rows r) d g (Row.inputs (row_at rows r)) y → Lacks c (row_at rows s) e g (Row.inputs (row_at rows s)) y
lacks_at rows b c r s d e y g block row done l =
    subst (λ q. Lacks q (row_at rows s) e g (Row.inputs (row_at rows s)) y) block
    (subst (λ w. Lacks b (row_at rows w) e g (Row.inputs (row_at rows w)) y) row
    (subst (λ n. Lacks b (row_at rows r) n g (Row.inputs (row_at rows r)) y) done l))

-- ---- while u gets what it lacks

-- the inputs of row r, each as far as its next block needs
abbrev pub input_fills : ℕ → List Row → Filled → ℕ → Filled → Fills
input_fills block rows f r = for_each (fill_input block (fill_row block rows r) (row_at rows r) (slice_index f r)) (Row.inputs (row_at rows r))

pub record SoFar (code : Code) (tall : ℕ → ℕ) (rows : List Row) (f : Filled) (old mid : HeapState Branch) (seats : Seats) (u : ℕ) : Type 0 where
  pub first : Fills
  pub begins : input_fills old.block rows f (seats.row u) f ≡ followed_by first (input_fills old.block rows f (seats.row u))
  pub by_order : IsByOrder f first
  pub later : Seats
  pub matched : Matched code rows first.filled mid later
  pub counts : Counts rows f first.order old mid
  pub size : length first.filled ≡ length rows
  pub enough : IsEnough old.block rows first.filled
  pub above : (y : ℕ) → seats.row u ≤ y → slice_index first.filled y ≡ slice_index f y
  pub channels : (y top : ℕ) → ChannelsFrom top rows → top ≤ y → slice_index first.filled y ≡ slice_index f y
  pub outside : (v j : ℕ) → 0 < marks_at old v j → later.row v ≡ seats.row v
  pub higher : (rank : ℕ → ℕ) → Ranks tall old rank → (v : ℕ) (x : Node Branch) → node_at old v ≡ Some x → rank u ≤ rank v → later.row v ≡ seats.row v

module _ (code : Code) (ordered : IsOrdered code) (free : KeepsFree code) (tall : ℕ → ℕ) (is_tall : IsTall code tall) (rows : List Row) (all : AllRows rows) (top : ℕ) (last : ChannelsFrom top rows)
    (come : (f : Filled) (h : HeapState Branch) (seats : Seats) → Rests code rows f h seats → (u k : ℕ) (unit : Node Branch) (i : Input) → node_at h u ≡ Some unit → is_open h.block unit ≡ true
    → slice_get (row_at rows (seats.row u)).inputs k ≡ Some i → has_come h.block (slice_index f (seats.row u)) i ≡ nat_lt k (length unit.inputs)) where
  so_none : (f : Filled) (h : HeapState Branch) (seats : Seats) (u : ℕ) → Rests code rows f h seats → SoFar code tall rows f h h seats u
  so_none f h seats u rests = record {
    first = no_fills f;
    begins = refl;
    by_order = refl;
    later = seats;
    matched = rests.matched;
    counts = counts_none rows f h;
    size = rests.size;
    enough = rests.enough;
    above = λ y le. refl;
    channels = λ y t ls le. refl;
    outside = λ v j some. refl;
    higher = λ rank ranks v x there le. refl;
  }

  -- between two walks below u
  so_rests : (f : Filled) (old mid : HeapState Branch) (seats : Seats) (u left : ℕ) (x : Node Branch) → node_at old u ≡ Some x → IsRanked tall old u left → Rests code rows f old seats → WantsSoFar code tall old mid u left
      → (so : SoFar code tall rows f old mid seats u) → Rests code rows so.first.filled mid so.later
  so_rests f old mid seats u left x there ranked rests wants so = record {
    laws = wants.laws;
    settled = wants.settled;
    parts = wants.parts rests.parts;
    matched = so.matched;
    roots = roots_kept rows top f so.first.filled old mid seats so.later last below.block below.marks so.outside (λ c le. so.channels c top last le) rests.roots;
    size = so.size;
    enough = subst (λ b. IsEnough b rows so.first.filled) (sym below.block) so.enough;
  }
    where
      below : Below code tall old mid ranked.rank (ranked.rank u)
      below = wants.below ranked.rank ranked.ranks

  module _ (f : Filled) (old : HeapState Branch) (seats : Seats) (u left : ℕ) (x : Node Branch) (there : node_at old u ≡ Some x) (opened : is_open old.block x ≡ true) (ranked : IsRanked tall old u left) (rests : Rests code rows f old seats) where
    abbrev r : ℕ
    r = seats.row u

    inside : r < length rows
    inside = rests.matched.within u x there

    -- what u lacks is what its row lacks
    pub so_lacks : (mid : HeapState Branch) (v : ℕ) → WantsSoFar code tall old mid u left → (so : SoFar code tall rows f old mid seats u) → want_of mid u ≡ Some v
        → Lacks old.block (row_at rows r) (slice_index f r) so.first.filled (Row.inputs (row_at rows r)) (so.later.row v)
    so_lacks mid v wants so e =
        let now = so_rests f old mid seats u left x there ranked rests wants so in
        let block = (wants.below ranked.rank ranked.ranks).block in
        let row = so.higher ranked.rank ranked.ranks u x there (omega arith) in
        let is_open_now = subst (λ b. is_open b x ≡ true) (sym block) opened in
        lacks_at rows mid.block old.block (so.later.row u) r (slice_index so.first.filled (so.later.row u)) (slice_index f r) (so.later.row v) so.first.filled block row
        (ap (slice_index so.first.filled) row ∙ so.above r (omega arith))
        (wants_first code rows so.first.filled mid so.later now.laws now.matched now.enough (come so.first.filled mid so.later now) u x (wants.same ∙ there) is_open_now v e)

    -- once it wants nothing, nothing is lacking
    pub so_met : (mid : HeapState Branch) → WantsSoFar code tall old mid u left → (so : SoFar code tall rows f old mid seats u) → want_of mid u ≡ None → input_fills old.block rows f r f ≡ so.first
    so_met mid wants so e =
        let now = so_rests f old mid seats u left x there ranked rests wants so in
        let block = (wants.below ranked.rank ranked.ranks).block in
        let row = so.higher ranked.rank ranked.ranks u x there (omega arith) in
        let is_open_now = subst (λ b. is_open b x ≡ true) (sym block) opened in
        let met = wants_none code rows so.first.filled mid so.later now.laws now.matched now.enough (come so.first.filled mid so.later now) u x (wants.same ∙ there) is_open_now e in
        so.begins
        ∙ followed_at so.first (input_fills old.block rows f r) no_fills (all_met old.block (fill_row old.block rows r) (row_at rows r) (slice_index f r) so.first.filled (Row.inputs (row_at rows r)) (met_at mid.block (so.later.row u) (slice_index so.first.filled (so.later.row u)) block row (ap (slice_index so.first.filled) row ∙ so.above r (omega arith)) met))
        ∙ ap (λ (o : List ℕ). let whole : Fills = record { order = o; filled = so.first.filled } in whole) (append-nil so.first.order)
      where
        met_at : (b w d : ℕ) → b ≡ old.block → w ≡ r → d ≡ slice_index f r → ((k : ℕ) (i : Input) → slice_get (Row.inputs (row_at rows w)) k ≡ Some i → IsMet b (row_at rows w) d so.first.filled i)
            → (k : ℕ) (i : Input) → slice_get (Row.inputs (row_at rows r)) k ≡ Some i → IsMet old.block (row_at rows r) (slice_index f r) so.first.filled i
        met_at b w d block row done met =
            subst (λ q. (k : ℕ) (i : Input) → slice_get (Row.inputs (row_at rows r)) k ≡ Some i → IsMet q (row_at rows r) (slice_index f r) so.first.filled i) block
            (subst (λ v. (k : ℕ) (i : Input) → slice_get (Row.inputs (row_at rows v)) k ≡ Some i → IsMet b (row_at rows v) (slice_index f r) so.first.filled i) row
            (subst (λ n. (k : ℕ) (i : Input) → slice_get (Row.inputs (row_at rows w)) k ≡ Some i → IsMet b (row_at rows w) n so.first.filled i) done met))

    -- the row that lacks, filled once
    abbrev pub next_fill : (mid : HeapState Branch) → SoFar code tall rows f old mid seats u → ℕ → Fills
    next_fill mid so y = fill_row old.block rows r y so.first.filled

    pub next_low : (mid : HeapState Branch) (y : ℕ) → (so : SoFar code tall rows f old mid seats u) → Lacks old.block (row_at rows r) (slice_index f r) so.first.filled (Row.inputs (row_at rows r)) y → (y < r) × (y < top)
    next_low mid y so lack = (
      (item_of (IsInputOf r (row_at rows r)) (Row.inputs (row_at rows r)) lack.place lack.input (all r inside) lack.there).earlier y lack.names,
      last.names r lack.place y lack.input lack.there lack.names,
    )

    pub next_same : (mid : HeapState Branch) (y : ℕ) → (so : SoFar code tall rows f old mid seats u) → y < r → mid.block ≡ old.block → fill_row mid.block rows (suc y) y so.first.filled ≡ next_fill mid so y
    next_same mid y so low block =
        ap (λ b. fill_row b rows (suc y) y so.first.filled) block ∙ same_depth old.block rows all (suc y) r y (omega arith) low (omega (arith, low, inside)) so.first.filled

    pub so_more : (mid new : HeapState Branch) (v : ℕ) → WantsSoFar code tall old mid u left → (so : SoFar code tall rows f old mid seats u) → want_of mid u ≡ Some v
        → WalksAs code tall rows so.first.filled mid new so.later v (fill_row mid.block rows (suc (so.later.row v)) (so.later.row v) so.first.filled) → SoFar code tall rows f old new seats u
    so_more mid new v wants so e walk = record {
      first = followed_by so.first (fill_row old.block rows r y);
      begins =
          so.begins
          ∙ followed_at so.first (input_fills old.block rows f r) (λ k. followed_by (fill_row old.block rows r y k) (input_fills old.block rows f r))
          (lacks_first old.block (fill_row old.block rows r) (row_at rows r) (slice_index f r) so.first.filled (Row.inputs (row_at rows r)) y lack raises.1 raises.0.more)
          ∙ sym (followed_assoc so.first (fill_row old.block rows r y) (input_fills old.block rows f r));
      by_order = followed_by_order f so.first (fill_row old.block rows r y) so.by_order (row_by_order old.block rows r y so.first.filled);
      later = sub.later;
      matched = sub.matched;
      counts = counts_more rows f so.first.order (Fills.order (next_fill mid so y)) old mid new so.counts (subst (λ g. Counts rows g (Fills.order (next_fill mid so y)) mid new) so.by_order sub.counts);
      size = raises.0.size ∙ so.size;
      enough = raises.0.enough;
      above = λ z le. raises.0.above z (omega (arith, le, low.0)) ∙ so.above z le;
      channels = λ z t ls le. raises.0.above z (omega (arith, le, ls.names r lack.place y lack.input lack.there lack.names)) ∙ so.channels z t ls le;
      outside = λ w j read. sub.outside w j (omega (arith, read, below.marks w j)) ∙ so.outside w j read;
      higher = λ rank ranks w z at le.
          let first = wants.below rank ranks in
          let here = first.same w z at le in
          let u_here = first.same u x there (omega arith) in
          let falls = first.ranks.falls u v (wanted_uses mid u v x (wants.same ∙ there) (wanted mid u v x (wants.same ∙ there) e)) in
          sub.higher first.later first.ranks w z here.0 (omega (arith, falls, here.1, u_here.1, le)) ∙ so.higher rank ranks w z at le;
    }
      where
        y : ℕ
        y = so.later.row v

        lack : Lacks old.block (row_at rows r) (slice_index f r) so.first.filled (Row.inputs (row_at rows r)) y
        lack = so_lacks mid v wants so e

        low : (y < r) × (y < top)
        low = next_low mid y so lack

        below : Below code tall old mid ranked.rank (ranked.rank u)
        below = wants.below ranked.rank ranked.ranks

        raises : Raises old.block rows (y + 1) (λ k. slice_index so.first.filled y + 1 ≤ slice_index k y) so.first.filled (Fills.filled (next_fill mid so y)) × (slice_index (Fills.filled (next_fill mid so y)) y ≡ slice_index so.first.filled y + 1)
        raises = raises_fill old.block rows (subst (λ b. 0 < b) below.block (wants.laws.positive)) all r y low.0 (omega (arith, low.0, inside)) so.first.filled so.size so.enough

        sub : WalksAs code tall rows so.first.filled mid new so.later v (next_fill mid so y)
        sub = subst (λ (a : Fills). WalksAs code tall rows so.first.filled mid new so.later v a) (next_same mid y so low.0 below.block) walk

-- ---- the whole walk

marked_there : (h : HeapState Branch) (v j : ℕ) → 0 < marks_at h v j → (x : Node Branch) × (node_at h v ≡ Some x)
marked_there h v j some = by_node (node_at h v) refl
  where
    by_node : (o : Option (Node Branch)) → node_at h v ≡ o → (x : Node Branch) × (node_at h v ≡ Some x)
    by_node None e = absurd (omega (arith, some, ap (λ o. option_map_or (λ (x : Node Branch). slice_index x.outside j) o 0) e))
    by_node (Some x) e = (x, e)

any_left : (p : ℕ → Bool) (xs ys : List ℕ) → list_any p xs ≡ true → list_any p (xs ++ ys) ≡ true
any_left p [] ys e = absurd (true≢false (sym e))
any_left p (x ∷ xs) ys e = by_test (λ h. any_left p xs ys h) (p x) e
  where
    by_test : (list_any p xs ≡ true → list_any p (xs ++ ys) ≡ true) → (b : Bool) → (b || list_any p xs) ≡ true → (b || list_any p (xs ++ ys)) ≡ true
    by_test later true h = refl
    by_test later false h = later h

any_right : (p : ℕ → Bool) (xs ys : List ℕ) → list_any p ys ≡ true → list_any p (xs ++ ys) ≡ true
any_right p [] ys e = e
any_right p (x ∷ xs) ys e = by_test (any_right p xs ys e) (p x)
  where
    by_test : list_any p (xs ++ ys) ≡ true → (b : Bool) → (b || list_any p (xs ++ ys)) ≡ true
    by_test later true = refl
    by_test later false = later

module _ (code : Code) (ordered : IsOrdered code) (free : KeepsFree code) (tall : ℕ → ℕ) (is_tall : IsTall code tall) (rows : List Row) (all : AllRows rows) (top : ℕ) (last : ChannelsFrom top rows)
    (come : (f : Filled) (h : HeapState Branch) (seats : Seats) → Rests code rows f h seats → (u k : ℕ) (unit : Node Branch) (i : Input) → node_at h u ≡ Some unit → is_open h.block unit ≡ true
    → slice_get (row_at rows (seats.row u)).inputs k ≡ Some i → has_come h.block (slice_index f (seats.row u)) i ≡ nat_lt k (length unit.inputs))
    (lives : (f : Filled) (h : HeapState Branch) (seats : Seats) → Rests code rows f h seats → live_of h ≡ live h.block rows f)
    (fill : (f : Filled) (old new : HeapState Branch) (seats : Seats) (u : ℕ) → Rests code rows f old seats → FillTurn old new u → Matched code rows (slice_set f (seats.row u) (slice_index f (seats.row u) + 1)) new seats)
    (reveal : (f : Filled) (old new : HeapState Branch) (seats : Seats) (u : ℕ) → HeapLaws old → AllPartsOf code old → PartTurn code old u new → Matched code rows f old seats
    → (later : Seats) × Matched code rows f new later × ((v : ℕ) (x y : Node Branch) → node_at old v ≡ Some x → node_at new v ≡ Some y → later.row v ≡ seats.row v) × SameCounts old new) where
  abbrev pub row_fills : Filled → HeapState Branch → Seats → ℕ → Fills
  row_fills f old seats u = fill_row old.block rows (suc (seats.row u)) (seats.row u) f

  abbrev pub WalksLike : Walk → Type 0
  WalksLike D = (old new : HeapState Branch) (u left : ℕ) (us : List ℕ) (x : Node Branch) → node_at old u ≡ Some x → is_open old.block x ≡ true → IsRanked tall old u left → (f : Filled) (seats : Seats) → Rests code rows f old seats
      → D old u us new → WalksAs code tall rows f old new seats u (row_fills f old seats u)

  module _ (n : ℕ) (lower : WalksLike (WalksInOrder (PartTurn code) n)) (old : HeapState Branch) (u left : ℕ) (x : Node Branch) (there : node_at old u ≡ Some x) (opened : is_open old.block x ≡ true) (ranked : IsRanked tall old u left)
      (f : Filled) (seats : Seats) (rests : Rests code rows f old seats) where
    abbrev D : Walk
    D = WalksInOrder (PartTurn code) n

    wants_now : (k : ℕ) (mid : HeapState Branch) (us : List ℕ) → WalksWants D k old u us mid → WantsSoFar code tall old mid u left
    wants_now k mid us walk = wants_so_far code ordered free tall is_tall n old u left us x there rests.laws rests.settled ranked k mid walk

    wants_as : (k : ℕ) (mid : HeapState Branch) (us : List ℕ) → WalksWants D k old u us mid → SoFar code tall rows f old mid seats u
    wants_as zero mid us walk = subst (λ (h : HeapState Branch). SoFar code tall rows f old h seats u) walk.1 (so_none code ordered free tall is_tall rows all top last come f old seats u rests)
    wants_as (suc k) new us walk =
        let so = wants_as k walk.0 walk.2 walk.4 in
        let wants = wants_now k walk.0 walk.2 walk.4 in
        let here = wants.same ∙ there in
        let z = next_there walk.0 wants.laws u walk.1 x here walk.5 in
        let w = wanted walk.0 u walk.1 x here walk.5 in
        so_more code ordered free tall is_tall rows all top last come f old seats u left x there opened ranked rests walk.0 new walk.1 wants so walk.5
        (lower walk.0 new walk.1 (left - 1) walk.3 z.0 z.1 (wanted_open walk.0 wants.laws u walk.1 x z.0 here z.1 w) (next_ranked code tall walk.0 u walk.1 left x here walk.5 wants.ranked) so.first.filled so.later
        (so_rests code ordered free tall is_tall rows all top last come f old walk.0 seats u left x there ranked rests wants so) walk.6)

    -- then u itself
    fill_as : (mid filled : HeapState Branch) → WantsSoFar code tall old mid u left → SoFar code tall rows f old mid seats u → FillTurn mid filled u → WalksAs code tall rows f old filled seats u (row_fills f old seats u)
    fill_as mid filled wants so turn =
        let now = so_rests code ordered free tall is_tall rows all top last come f old mid seats u left x there ranked rests wants so in
        let row = so.higher ranked.rank ranked.ranks u x there (omega arith) in
        let whole = so_met code ordered free tall is_tall rows all top last come f old seats u left x there opened ranked rests mid wants so turn.ready in
        subst (λ (a : Fills). WalksAs code tall rows f old filled seats u a) (sym (ap (λ (a : Fills). followed_by a (fill_of (seats.row u))) whole))
        (record {
          later = so.later;
          matched = subst (λ w. Matched code rows (slice_set so.first.filled w (slice_index so.first.filled w + 1)) filled so.later) row (fill so.first.filled mid filled so.later u now turn);
          counts = counts_more rows f so.first.order (seats.row u ∷ []) old mid filled so.counts
              (subst (λ g. Counts rows g (seats.row u ∷ []) mid filled) so.by_order (counts_fill rows so.first.filled (seats.row u) mid filled u turn (lives so.first.filled mid so.later now)));
          outside = so.outside;
          higher = λ rank ranks v z at lt. so.higher rank ranks v z at (omega (arith, lt));
        })

    -- and then its parts
    reveals_as : (a : Fills) (k : ℕ) (filled new : HeapState Branch) → RevealsSoFar code tall old filled u → WalksAs code tall rows f old filled seats u a → RevealsParts (PartTurn code) k filled u new
        → RevealsSoFar code tall old new u × WalksAs code tall rows f old new seats u a
    reveals_as a zero filled new so walk steps = subst (λ (h : HeapState Branch). RevealsSoFar code tall old h u × WalksAs code tall rows f old h seats u a) steps (so, walk)
    reveals_as a (suc k) filled new so walk steps =
        let before = reveals_as a k filled steps.0 so walk steps.1 in
        let shows = part_reveals code ordered free tall is_tall steps.0 new u before.0.laws steps.2 in
        let after = reveal a.filled steps.0 new before.1.later u before.0.laws (before.0.parts rests.parts) steps.2 before.1.matched in
        let ranks_now = before.0.drives ranked.rank ranked.ranks in (
          reveal_more code tall old steps.0 new u x rests.laws there before.0 shows,
          record {
            later = after.0;
            matched = after.1;
            counts = counts_same rows f a.order old steps.0 new before.1.counts after.3;
            outside = λ v j read.
                let mid_read : 0 < marks_at steps.0 v j = omega (arith, read, ranks_now.below.marks v j) in
                let second = shows.below ranks_now.below.later ranks_now.below.ranks in
                let new_read : 0 < marks_at new v j = omega (arith, mid_read, second.marks v j) in
                let y = marked_there steps.0 v j mid_read in
                let z = marked_there new v j new_read in
                after.2 v y.0 z.0 y.1 z.1 ∙ before.1.outside v j read;
            higher = λ rank ranks v z at lt.
                let first = before.0.drives rank ranks in
                let here = first.below.same v z at (omega (arith, lt)) in
                let u_here = first.below.held u x there (held_above old rests.laws rank ranks.falls u x there) in
                let second = shows.below first.below.later first.below.ranks in
                let late = second.same v z here.0 (omega (arith, lt, here.1, u_here.2)) in
                after.2 v z z here.0 late.0 ∙ before.1.higher rank ranks v z at lt;
          },
        )

  pub walk_as : (n : ℕ) → WalksLike (WalksInOrder (PartTurn code) n)
  walk_as zero old new u left us x there opened ranked f seats rests walk = absurd walk
  walk_as (suc n) old new u left us x there opened ranked f seats rests walk =
      let fills = walk.fills in
      let wants = wants_now n (walk_as n) old u left x there opened ranked f seats rests fills.wanted fills.mid fills.before fills.wants in
      let so = wants_as n (walk_as n) old u left x there opened ranked f seats rests fills.wanted fills.mid fills.before fills.wants in
      (reveals_as n (walk_as n) old u left x there opened ranked f seats rests (row_fills f old seats u) fills.parts fills.filled new
      (fill_then code tall old fills.mid fills.filled u left x there wants fills.fill)
      (fill_as n (walk_as n) old u left x there opened ranked f seats rests fills.mid fills.filled wants so fills.fill) fills.reveals).1

  -- ---- a walk that stops

  -- the plan's order comes to a fill before which all blocks of the pool are live
  abbrev pub MeetsFull : Filled → HeapState Branch → Seats → ℕ → Type 0
  MeetsFull f old seats u = list_any (λ n. n == old.pool) (live_before old.block rows (Fills.order (row_fills f old seats u)) f) ≡ true

  abbrev pub StopsLike : Walk → Type 0
  StopsLike S = (old new : HeapState Branch) (u left : ℕ) (us : List ℕ) (x : Node Branch) → node_at old u ≡ Some x → is_open old.block x ≡ true → IsRanked tall old u left → (f : Filled) (seats : Seats) → Rests code rows f old seats
      → S old u us new → live_of new ≤ new.pool → MeetsFull f old seats u

  pub stop_as : (n : ℕ) → StopsLike (StopsInOrder (PartTurn code) n)
  stop_as zero old new u left us x there opened ranked f seats rests walk within = absurd walk
  stop_as (suc n) old new u left us x there opened ranked f seats rests walk within = by_stop (stop_as n) walk.stop
    where
      mid : HeapState Branch
      mid = walk.mid

      wants : WantsSoFar code tall old mid u left
      wants = wants_now n (walk_as n) old u left x there opened ranked f seats rests walk.wanted mid walk.before walk.wants

      so : SoFar code tall rows f old mid seats u
      so = wants_as n (walk_as n) old u left x there opened ranked f seats rests walk.wanted mid walk.before walk.wants

      now : Rests code rows so.first.filled mid so.later
      now = so_rests code ordered free tall is_tall rows all top last come f old mid seats u left x there ranked rests wants so

      is_full : ℕ → Bool
      is_full n = n == old.pool

      block : mid.block ≡ old.block
      block = so.counts.block

      -- where some of the order is full, all of it is
      within_order : (first rest : List ℕ) → list_any is_full (live_before old.block rows rest (raised first f)) ≡ true → list_any is_full (live_before old.block rows (first ++ rest) f) ≡ true
      within_order first rest e = subst (λ ns. list_any is_full ns ≡ true) (sym (before_append old.block rows first rest f)) (any_right is_full (live_before old.block rows first f) (live_before old.block rows rest (raised first f)) e)

      before_order : (first rest : List ℕ) (g : Filled) → list_any is_full (live_before old.block rows first g) ≡ true → list_any is_full (live_before old.block rows (first ++ rest) g) ≡ true
      before_order first rest g e = subst (λ ns. list_any is_full ns ≡ true) (sym (before_append old.block rows first rest g)) (any_left is_full (live_before old.block rows first g) (live_before old.block rows rest (raised first g)) e)

      here : StopsHere mid u walk.after new → MeetsFull f old seats u
      here stop =
          let whole = so_met code ordered free tall is_tall rows all top last come f old seats u left x there opened ranked rests mid wants so stop.ready in
          let alive : live_of mid ≡ live old.block rows so.first.filled = lives so.first.filled mid so.later now ∙ ap (λ b. live b rows so.first.filled) block in
          let most : live_of mid ≤ mid.pool = subst (λ (h : HeapState Branch). live_of h ≤ h.pool) stop.same within in
          let all_taken : live old.block rows (raised so.first.order f) ≡ old.pool = omega (arith, most, stop.full, so.counts.pool, alive, ap (live old.block rows) so.by_order) in
          subst (λ (a : Fills). list_any is_full (live_before old.block rows (Fills.order (followed_by a (fill_of (seats.row u)))) f) ≡ true) (sym whole)
          (within_order so.first.order (seats.row u ∷ []) (ap (λ b. b || false) (eq-eqb _ _ all_taken)))

      by_stop : StopsLike (StopsInOrder (PartTurn code) n) → StopsHere mid u walk.after new ⊎ StopsBelow (StopsInOrder (PartTurn code) n) mid u walk.after new → MeetsFull f old seats u
      by_stop lower (inl stop) = here stop
      by_stop lower (inr stop) =
          let v = stop.input in
          let at = wants.same ∙ there in
          let z = next_there mid wants.laws u v x at stop.wants in
          let y = so.later.row v in
          let lack = so_lacks code ordered free tall is_tall rows all top last come f old seats u left x there opened ranked rests mid v wants so stop.wants in
          let low = next_low code ordered free tall is_tall rows all top last come f old seats u left x there opened ranked rests mid y so lack in
          let sub = lower mid new v (left - 1) walk.after z.0 z.1 (wanted_open mid wants.laws u v x z.0 at z.1 (wanted mid u v x at stop.wants)) (next_ranked code tall mid u v left x at stop.wants wants.ranked) so.first.filled so.later now stop.stops within in
          let raises = raises_fill old.block rows (subst (λ b. 0 < b) block wants.laws.positive) all (seats.row u) y low.0 (omega (arith, low.0, rests.matched.within u x there)) so.first.filled so.size so.enough in
          let D = fill_row old.block rows (seats.row u) in
          let F = input_fills old.block rows f (seats.row u) in
          let next = D y so.first.filled in
          let orders = so.begins ∙ followed_at so.first F (λ k. followed_by (D y k) F)
          (lacks_first old.block D (row_at rows (seats.row u)) (slice_index f (seats.row u)) so.first.filled (Row.inputs (row_at rows (seats.row u))) y lack raises.1 raises.0.more) in
          let same = next_same code ordered free tall is_tall rows all top last come f old seats u left x there opened ranked rests mid y so low.0 block in
          let sub_next : list_any is_full (live_before old.block rows next.order so.first.filled) ≡ true =
          subst (λ (a : Fills). list_any is_full (live_before old.block rows a.order so.first.filled) ≡ true) same
          (subst (λ b. list_any is_full (live_before b rows (Fills.order (fill_row mid.block rows (suc y) y so.first.filled)) so.first.filled) ≡ true) block
          (subst (λ p. list_any (λ n. n == p) (live_before mid.block rows (Fills.order (fill_row mid.block rows (suc y) y so.first.filled)) so.first.filled) ≡ true) so.counts.pool sub)) in
          subst (λ (a : Fills). list_any is_full (live_before old.block rows (Fills.order (followed_by a (fill_of (seats.row u)))) f) ≡ true) (sym orders)
          (before_order (so.first.order ++ (next.order ++ Fills.order (F next.filled))) (seats.row u ∷ []) f
          (within_order so.first.order (next.order ++ Fills.order (F next.filled))
          (before_order next.order (Fills.order (F next.filled)) (raised so.first.order f)
          (subst (λ g. list_any is_full (live_before old.block rows next.order g) ≡ true) so.by_order sub_next))))
