-- What a contract is told of a pull of channel c.
use Rattle.std.proofs.Common.{◌≡◌, ◌≢◌, ℕ, zero, suc, ◌*◌, ◌<◌, ◌≤◌, Bool, true, false, nat_lt, IsTrue, if◌then◌else◌, List, [], ◌∷◌, length, take, drop, slice_get, slice_index, slice_index_or, slice_set, Option, None, Some, is_none, refl, sym, ap, subst, ◌∙◌, arith, length-take, length-drop}
use Rattle.std.proofs.lemmas.Bool.{lt-ltb}
use Rattle.ny_num.specs.declared.rate.Rate.{Rate}
use Rattle.ny_check.specs.Code.{Code}
use Rattle.ny_check.specs.Channels.{channels}
use Rattle.std.specs.Prelude.{◌&&◌, ◌||◌}
use Rattle.std.specs.List.{list_any}
use Rattle.ny_heap.specs.Heap.{Node, HeapState, is_open, list_of, open_unit, live_of, free_of}
use Rattle.ny_heap.specs.Revealing.{waits_at, has_waiting}
use Rattle.ny_eval.specs.declared.walk.DriveFault.TheVariants as drive_faults
use Rattle.ny_heap.specs.Reach.{HeapLaws}
use Rattle.ny_heap.specs.declared.sound.Sound.{Sound}
use Rattle.ny_hands.specs.declared.branch.Branch.{Branch}
use Rattle.ny_hands.proofs.OptionLemmas.{some_same}
use Rattle.ny_walk.specs.Walk.{Walks}
use Rattle.ny_walk.specs.Stops.{StopsAtFull as WalkStops, FindsNoneFree, RunsOut, NoneWaits}
use Rattle.ny_eval.specs.Playing.{ArePlaying}
use Rattle.ny_pull.specs.declared.fault.PullFault.{PullFault}
use Rattle.ny_pull.specs.declared.fault.PullFault.TheVariants.{OutOfMemory}
use Rattle.ny_pull.specs.Engine.{EngineState, channel_at, passed_of, next_block, HasEnded, IsReadByChannels, with_pull, SamePiece, MeansItsChannels, GivesBlock, StopsAtFull, NeedsMore, LacksMemory}
use Rattle.ny_pull.specs.Inside.{samples_of, IsEngineInside}
use Rattle.ny_pull.specs.Places.{ReadsAt}
use Rattle.ny_pull.proofs.EngineLemmas.{state, samples_at}

module _ (code : Code) (rate : Rate) (os : List (Option Sound)) (pulled : List ℕ) (spent : Option PullFault) (h : HeapState Branch) (e : EngineState) (is : state code rate os pulled spent h ≡ e) (c : ℕ) where
  pub next_is : take h.block (drop (slice_index pulled c * h.block) (slice_index_or (samples_of code rate) c [])) ≡ next_block e c
  next_is = ap (λ xs. take h.block (drop (slice_index pulled c * h.block) xs)) (samples_at (channels code rate) c rate) ∙ ap (λ (e : EngineState). next_block e c) is

  pub ended_at : (frames pulls : ℕ) → IsEngineInside code rate h os pulled frames pulls spent → slice_get os c ≡ Some None → HasEnded e c
  ended_at frames pulls inside at = subst (λ (e : EngineState). HasEnded e c) is (inside.given c None at)

  pub not_ended : (frames pulls : ℕ) → IsEngineInside code rate h os pulled frames pulls spent → (s : Sound) → slice_get os c ≡ Some (Some s) → HasEnded e c → ⊥
  not_ended frames pulls inside s at ended =
      let long = subst (λ (e : EngineState). HasEnded e c) (sym is) ended in
      absurd (omega (arith, long, inside.given c (Some s) at))

  -- none is left of a channel exactly where it has ended
  pub ended_told : (frames pulls : ℕ) → IsEngineInside code rate h os pulled frames pulls spent → (x : Option Sound) → slice_get os c ≡ Some x → (b : Bool) → b ≡ is_none x → (IsTrue b → HasEnded e c) × (HasEnded e c → IsTrue b)
  ended_told frames pulls inside None at b told = (λ t. ended_at frames pulls inside at, λ ended. told)
  ended_told frames pulls inside (Some s) at b told = (λ t. absurd (never (sym told ∙ t)), λ ended. absurd (not_ended frames pulls inside s at ended))
    where
      never : false ≡ true → ⊥
      never q = cc

  pub within_pulled : (frames pulls : ℕ) → IsEngineInside code rate h os pulled frames pulls spent → c < length e.channels → c < length e.pulled
  within_pulled frames pulls inside = subst (λ (e : EngineState). c < length e.channels → c < length e.pulled) is (λ less. omega (arith, inside.count, inside.count_pulled, less))

  pub one_pull : (n : ℕ) → 0 < n → with_pull pulled c ≡ (if nat_lt 0 n then with_pull e.pulled c else e.pulled)
  one_pull n some = ap (λ (e : EngineState). with_pull e.pulled c) is ∙ sym (ap (λ b. if b then with_pull e.pulled c else e.pulled) (lt-ltb 0 n some))

  was_there : (s : Sound) → slice_get os c ≡ Some (Some s) → slice_get e.channels c ≡ Some (Some s)
  was_there s at = ap (λ (e : EngineState). slice_get e.channels c) (sym is) ∙ at

  pub gives : (unit deep n most : ℕ) (order : List ℕ) (mid new : HeapState Branch) (later : List (Option Sound)) (spent_now : Option PullFault) (reads : ReadsAt mid new os later c most n) → open_unit h (list_of reads.sound) ≡ Some unit → Walks code deep h unit order mid → GivesBlock e (state code rate later (with_pull pulled c) spent_now new) c n
  gives unit deep n most order mid new later spent_now reads opens fills = record {
    before = reads.sound;
    was = was_there reads.sound reads.was;
    unit = unit;
    «open» = ap (λ (e : EngineState). open_unit e.heap (list_of reads.sound)) (sym is) ∙ opens;
    deep = deep;
    order = order;
    filled = mid;
    walks = subst (λ (e : EngineState). Walks e.code deep e.heap unit order mid) is fills;
    after = reads.to;
    passes = reads.passes;
    read = reads.read;
    reads = reads.reads;
    left = reads.left;
    leaves = reads.leaves;
    now = reads.now ∙ ap (λ (e : EngineState). slice_set e.channels c reads.left) is;
  }

  pub stops : (s : Sound) (unit deep : ℕ) (order : List ℕ) (new : HeapState Branch) (spent_now : Option PullFault) → slice_get os c ≡ Some (Some s) → open_unit h (list_of s) ≡ Some unit → WalkStops code deep h unit order new → StopsAtFull e (state code rate os pulled spent_now new) c
  stops s unit deep order new spent_now at opens walk = record {
    before = s;
    was = was_there s at;
    unit = unit;
    «open» = ap (λ (e : EngineState). open_unit e.heap (list_of s)) (sym is) ∙ opens;
    deep = deep;
    order = order;
    stops = subst (λ (e : EngineState). WalkStops e.code deep e.heap unit order new) is walk;
    now = ap (λ (e : EngineState). e.channels) is;
  }

  pub lacks : (s : Sound) (unit deep : ℕ) (order : List ℕ) (last : HeapState Branch) → slice_get os c ≡ Some (Some s) → open_unit h (list_of s) ≡ Some unit → RunsOut code deep h unit order last → LacksMemory e c
  lacks s unit deep order last at opens walk = record {
    before = s;
    was = was_there s at;
    unit = unit;
    «open» = ap (λ (e : EngineState). open_unit e.heap (list_of s)) (sym is) ∙ opens;
    deep = deep;
    order = order;
    last = last;
    runs = subst (λ (e : EngineState). RunsOut e.code deep e.heap unit order last) is walk;
  }

  -- a channel that has ended needs nothing
  pub needs_nothing : slice_get os c ≡ Some None → (b : Bool) → b ≡ false → (IsTrue b → NeedsMore e c) × (NeedsMore e c → IsTrue b)
  needs_nothing none b told = (λ t. absurd (never (sym told ∙ t)), λ needs. absurd (absent needs.before (sym none ∙ (ap (λ (e : EngineState). slice_get e.channels c) is ∙ needs.was))))
    where
      never : false ≡ true → ⊥
      never q = cc

      absent : (s : Sound) → Some None ≡ Some (Some s) → ⊥
      absent s q = cc

  pub needs_exactly : (s : Sound) (u : ℕ) → slice_get os c ≡ Some (Some s) → open_unit h (list_of s) ≡ Some u → (b : Bool) → (IsTrue b → FindsNoneFree code h u) × (FindsNoneFree code h u → IsTrue b) → (IsTrue b → NeedsMore e c) × (NeedsMore e c → IsTrue b)
  needs_exactly s u at opens b exact = (
    λ t. record {
      before = s;
      was = was_there s at;
      unit = u;
      «open» = ap (λ (e : EngineState). open_unit e.heap (list_of s)) (sym is) ∙ opens;
      full = subst (λ (e : EngineState). FindsNoneFree e.code e.heap u) is (exact.0 t);
    },
    λ needs. exact.1 (full_here needs),
  )
    where
      full_here : NeedsMore e c → FindsNoneFree code h u
      full_here needs =
          let same : needs.before ≡ s = some_same _ _ (some_same _ _ (sym needs.was ∙ was_there s at)) in
          let unit : needs.unit ≡ u = some_same _ _ (sym needs.«open» ∙ ((λ i. open_unit (sym is i).heap (list_of (same i))) ∙ opens)) in
          subst (λ (e : EngineState). FindsNoneFree e.code e.heap u) (sym is) (subst (FindsNoneFree e.code e.heap) unit needs.full)

  pub same_piece : (later : List (Option Sound)) (counts : List ℕ) (spent_now : Option PullFault) (new : HeapState Branch) → length later ≡ length os → new.pool ≡ h.pool → new.block ≡ h.block → SamePiece e (state code rate later counts spent_now new)
  same_piece later counts spent_now new count pool block = record {
    code = ap (λ (e : EngineState). e.code) is;
    rate = ap (λ (e : EngineState). e.rate) is;
    channels = count ∙ ap (λ (e : EngineState). length e.channels) is;
    pool = pool ∙ ap (λ (e : EngineState). e.heap.pool) is;
    block = block ∙ ap (λ (e : EngineState). e.heap.block) is;
  }

-- ---- what holds between two calls

module _ (code : Code) (rate : Rate) (h : HeapState Branch) (os : List (Option Sound)) (pulled : List ℕ) (frames pulls : ℕ) (spent : Option PullFault) (e : EngineState) (is : state code rate os pulled spent h ≡ e) (inside : IsEngineInside code rate h os pulled frames pulls spent) where
  pub laws_inside : HeapLaws e.heap
  laws_inside = subst (λ (e : EngineState). HeapLaws e.heap) is inside.laws

  module _ (enough : e.spent ≢ Some OutOfMemory) where
    still : ArePlaying code h os (samples_of code rate) pulled pulled
    still = inside.still (λ short. enough (ap (λ (e : EngineState). e.spent) (sym is) ∙ short))

    pub read_by_channels : IsReadByChannels e
    read_by_channels = subst (λ (e : EngineState). IsReadByChannels e) is still.alone

    pub means_channels : MeansItsChannels e
    means_channels = subst MeansItsChannels is (record {
      whole = still.whole;
      means = still.means;
      each = λ c s at. (still.each c s at).samples ∙ samples_at (channels code rate) c rate;
    })

-- ---- parts that wait

-- no unit that has a block left has a part that waits
waits_nowhere : {B : Type 0} (block : ℕ) (os : List (Option (Node B))) (v : ℕ) (x : Node B) → list_any (waits_at block) os ≡ false → slice_index_or os v None ≡ Some x → waits_at block (Some x) ≡ false
waits_nowhere block [] v x none at = cc
waits_nowhere block (o ∷ os) zero x none at = ap (waits_at block) (sym at) ∙ or_first (waits_at block o) (list_any (waits_at block) os) none
  where
    or_first : (a b : Bool) → (a || b) ≡ false → a ≡ false
    or_first false b q = refl
    or_first true b q = cc
waits_nowhere block (o ∷ os) (suc v) x none at = waits_nowhere block os v x (or_last (waits_at block o) (list_any (waits_at block) os) none) at
  where
    or_last : (a b : Bool) → (a || b) ≡ false → b ≡ false
    or_last false b q = q
    or_last true b q = cc

nil_unless : {A : Type 0} (xs : List A) → nat_lt 0 (length xs) ≡ false → xs ≡ []
nil_unless [] q = refl
nil_unless (x ∷ xs) q = absurd (never (sym (lt-ltb 0 (length (x ∷ xs)) (omega arith)) ∙ q))
  where
    never : true ≡ false → ⊥
    never q = cc

pub none_waits : (h : HeapState Branch) → HeapLaws h → has_waiting h ≡ false → NoneWaits h
none_waits h laws none v x at = by_open (is_open h.block x) refl
  where
    by_open : (b : Bool) → is_open h.block x ≡ b → x.waiting ≡ []
    by_open false closed = ((laws.nodes v x at).waits_for_nothing closed).0
    by_open true opens = nil_unless x.waiting (ap (λ b. b && nat_lt 0 (length x.waiting)) (sym opens) ∙ waits_nowhere h.block h.nodes v x none at)

-- so where memory was missing some part waited
pub some_waits : (h : HeapState Branch) → HeapLaws h → (NoneWaits h → ⊥) → has_waiting h ≡ true
some_waits h laws wants = by (has_waiting h) refl
  where
    by : (b : Bool) → has_waiting h ≡ b → has_waiting h ≡ true
    by true is = is
    by false is = absurd (wants (none_waits h laws is))

-- where no block is free all are taken
pub all_taken : (h : HeapState Branch) (live : ℕ) → live ≡ live_of h → live ≤ h.pool → free_of h ≡ 0 → live ≡ h.pool
all_taken h live counted within full = omega (arith, counted, within, full)

nil_of : {A : Type 0} (xs : List A) → length xs ≡ 0 → xs ≡ []
nil_of [] e = refl
nil_of (x ∷ xs) e = absurd (omega (arith, e))

pub none_next : (e : EngineState) (c : ℕ) → HasEnded e c → next_block e c ≡ []
none_next e c ended = nil_of (next_block e c) (omega (arith, length-take e.heap.block (drop (passed_of e c) (channel_at e c)), length-drop (passed_of e c) (channel_at e c), ended))

pub want_is_not_full : drive_faults.OutOfMemory ≡ drive_faults.PoolFull → ⊥
want_is_not_full e = cc

module _ (code : Code) (rate : Rate) (os : List (Option Sound)) (pulled : List ℕ) (spent : Option PullFault) (h : HeapState Branch) (e : EngineState) (is : state code rate os pulled spent h ≡ e) (c : ℕ) where
  pub waits_now : HeapLaws h → (NoneWaits h → ⊥) → has_waiting e.heap ≡ true
  waits_now laws wants = ap (λ (e : EngineState). has_waiting e.heap) (sym is) ∙ some_waits h laws wants

  -- where none waits, a pull fails exactly where the pool is full
  pub needs_quietly : (s : Sound) (u : ℕ) → slice_get os c ≡ Some (Some s) → open_unit h (list_of s) ≡ Some u → HeapLaws h → has_waiting e.heap ≡ false → (b : Bool) → (NoneWaits h → (IsTrue b → FindsNoneFree code h u) × (FindsNoneFree code h u → IsTrue b)) → (IsTrue b → NeedsMore e c) × (NeedsMore e c → IsTrue b)
  needs_quietly s u at opens laws quiet b exact = needs_exactly code rate os pulled spent h e is c s u at opens b (exact (none_waits h laws (ap (λ (e : EngineState). has_waiting e.heap) is ∙ quiet)))
