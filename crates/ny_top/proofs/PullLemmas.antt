-- What one pull of a round does to an engine: it gave samples, found the pool full, or found memory missing.
use Rattle.std.proofs.Common.{◌≡◌, ◌≢◌, ℕ, zero, suc, ◌+◌, ◌-◌, ◌*◌, ◌<◌, ◌≤◌, ◌⊎◌, min, nat_le, pos, ℤ, List, [], ◌∷◌, ◌++◌, map, take, drop, length, true, nat_lt, if◌then◌else◌, Some, None, Ok, Err, refl, sym, ap, subst, ◌∙◌, arith, slice_index, slice_index_or, slice_set, sum, length-take, length-drop, add-mul, one-mul, inl, inr}
use Rattle.std.specs.Int.{div_ceil}
use Rattle.std.specs.List.{range_with_len}
use borrow.Rule.Slice.PartMut.{put_mid}
use Rattle.ny_num.proofs.PartAdded.{part_added}
use Rattle.std.proofs.lemmas.Bool.{lt-ltb, le-ltb, le-leb, cases_lt}
use Rattle.std.proofs.lemmas.Grind.{div_ceil_times}
use Rattle.std.proofs.lemmas.List.{get_or-take, get_or-drop, get_or_past, get_or_append_left, get_or-append_right, append-nil, drop_all}
use Rattle.std.proofs.lemmas.List.FromFn.{length-map-range_with_len}
use Rattle.ny_heap.specs.Heap.{live_of}
use Rattle.ny_heap.specs.Reach.{HeapLaws}
use Rattle.ny_heap.specs.Revealing.{has_waiting}
use Rattle.ny_num.specs.declared.rate.Rate.{Rate}
use Rattle.ny_num.specs.Sound as sounds
use Rattle.ny_num.specs.Sound.{silence, value_at, sound_of, spanning}
use Rattle.ny_num.specs.Mix.{channel, channel_timing}
use Rattle.ny_warp.specs.Environment.{opening}
use Rattle.ny_check.specs.Code.{Code}
use Rattle.ny_check.specs.Channels.{channels, channel_at as in_channel, played}
use Rattle.ny_plan.specs.Plan.{plan}
use Rattle.ny_plan.specs.Peak.{first_full}
use Rattle.ny_pull.specs.declared.fault.PullFault.{PullFault}
use Rattle.ny_pull.specs.declared.fault.PullFault.TheVariants as faults
use Rattle.ny_pull.specs.Engine.{EngineState, channel_at, passed_of, next_block, with_pull, HasEnded, SamePiece, StopsAtFull, LacksMemory, full_of}
use Rattle.ny_pull.specs.Planned.{FollowsPlan}
use Rattle.ny_pull.specs.Ordered.{HasPulled, IsInOrder}
use Rattle.ny_pull.proofs.TurnLemmas.{turn_made, turn_found}
use Rattle.ny_top.specs.Frames.{heard_at}
use Rattle.ny_top.specs.Playing.{pulls_of, pulls_in, pulled_after, upwards, order_of, IsInRound}
use Rattle.ny_top.specs.Rounds.{IsUnderway, IsAtTurn, IsPullFault}
use Rattle.ny_top.specs.declared.rounds.RoundFault.TheVariants.{PoolFull, OutOfMemory}
use Rattle.ny_top.proofs.PulledLists.{parted_at, parted_count, parted_set, parted_same}

-- ---- counts

pub one_more : (k b : ℕ) → suc k * b ≡ k * b + b
one_more k b = omega arith

pub next_multiple : (k b : ℕ) → (k + 1) * b ≡ k * b + b
next_multiple k b = omega (arith, add-mul k 1 b, one-mul b)

-- fewer blocks have fewer samples
pub fewer_blocks : (k n b : ℕ) → k ≤ n → k * b ≤ n * b
fewer_blocks zero n b le = omega arith
fewer_blocks (suc k) zero b le = absurd (omega (arith, le))
fewer_blocks (suc k) (suc n) b le = omega (arith, fewer_blocks k n b (omega (arith, le)), one_more k b, one_more n b)

-- behind so many blocks of a channel some is left exactly where it takes more pulls
pub some_left : (k len b : ℕ) → 0 < b → k < div_ceil len b → k * b < len
some_left k len b positive more =
    let bounds = div_ceil_times len b positive in
    omega (arith, bounds.1, one_more k b, fewer_blocks (suc k) (div_ceil len b) b more)

pub none_left : (k len b : ℕ) → 0 < b → div_ceil len b ≤ k → len ≤ k * b
none_left k len b positive le =
    let bounds = div_ceil_times len b positive in
    omega (arith, bounds.0, fewer_blocks (div_ceil len b) k b le)

-- a channel that has some left takes more pulls
pub more_pulls : (k len b : ℕ) → 0 < b → k * b < len → k < div_ceil len b
more_pulls k len b positive left = of (cases_lt k (div_ceil len b))
  where
    of : (k < div_ceil len b) ⊎ (div_ceil len b ≤ k) → k < div_ceil len b
    of (inl less) = less
    of (inr past) = absurd (omega (arith, left, none_left k len b positive past))

-- ---- the samples of channels

pub no_samples : (rate : Rate) → length (silence rate).samples ≡ 0
unfolding silence
no_samples rate = refl

pub same_channel : (old new : EngineState) (c : ℕ) → SamePiece old new → channel_at new c ≡ channel_at old c
same_channel old new c same = λ i. (slice_index_or (channels (same.code i) (same.rate i)) c (silence (same.rate i))).samples

channel_begins : (rate : Rate) (s : sounds.Sound) → (in_channel rate s).start ≡ 0
unfolding channel sound_of channel_timing spanning
channel_begins rate s = refl

silence_begins : (rate : Rate) → (silence rate).start ≡ 0
unfolding silence
silence_begins rate = refl

-- each channel begins at index 0
pub begins_at_0 : (code : Code) (rate : Rate) (c : ℕ) → (slice_index_or (channels code rate) c (silence rate)).start ≡ 0
unfolding channels
begins_at_0 code rate c = of (played code code.play.0 (opening rate) []) c
  where
    of : (ss : List sounds.Sound) (c : ℕ) → (slice_index_or (map (in_channel rate) ss) c (silence rate)).start ≡ 0
    of [] c = ap (λ (s : sounds.Sound). s.start) (get_or_past [] c (silence rate) (omega arith)) ∙ silence_begins rate
    of (s ∷ ss) zero = channel_begins rate s
    of (s ∷ ss) (suc c) = of ss c

-- the values of a sound from index 0 on are its samples
pub values_are : (s : sounds.Sound) → s.start ≡ 0 → (k : ℕ) → value_at s k ≡ slice_index_or s.samples k (pos 0)
unfolding value_at
values_are s begins k =
    let whole : k - 0 ≡ k = omega arith in
    ap (λ from. if nat_le from k then slice_index_or s.samples (k - from) (pos 0) else pos 0) begins
    ∙ ap (λ b. if b then slice_index_or s.samples (k - 0) (pos 0) else pos 0) (le-leb 0 k (omega arith))
    ∙ ap (λ j. slice_index_or s.samples j (pos 0)) whole

-- what is left of a channel fits in a block
pub next_fits : (e : EngineState) (c : ℕ) → length (next_block e c) ≤ e.heap.block
next_fits e c = omega (arith, length-take e.heap.block (drop (passed_of e c) (channel_at e c)))

-- a result is one of both
pub no_answer : {A E : Type 0} (fault : E) (x : A) → Err fault ≡ Ok x → ⊥
no_answer fault x e = cc

-- ---- silence behind samples

zero_at : (k from n : ℕ) → slice_index_or (map (λ (n : ℕ). pos 0) (range_with_len from k)) n (pos 0) ≡ pos 0
zero_at zero from zero = refl
zero_at zero from (suc n) = refl
zero_at (suc k) from zero = refl
zero_at (suc k) from (suc n) = zero_at k (from + 1) n

-- a buffer whose front is written, and then silence
pub silenced : (xs first out rest : List ℤ) (count k n : ℕ) → count ≡ length xs → k ≡ length out - count → count ≤ length out → length out ≡ length first → out ≡ xs ++ drop count first
    → rest ≡ map (λ (n : ℕ). pos 0) (range_with_len 0 (length (take k (drop count out)))) → slice_index_or (put_mid count k out rest) n (pos 0) ≡ slice_index_or xs n (pos 0)
silenced xs first out rest count k n size left within same is silent =
    ap (λ (ys : List ℤ). slice_index_or ys n (pos 0)) whole ∙ of (cases_lt n (length xs))
  where
    m : ℕ
    m = length (take k (drop count out))

    m_is : m ≡ k
    m_is = length-take k (drop count out) ∙ omega (arith, length-drop count out, left)

    len : length rest ≡ length out - count
    len = ap length silent ∙ length-map-range_with_len (λ (n : ℕ). pos 0) 0 m ∙ m_is ∙ left

    whole : put_mid count k out rest ≡ xs ++ rest
    whole =
        ap (λ j. put_mid count j out rest) left
        ∙ part_added count (length out) first out xs rest within (omega (arith, same)) same len is
        ∙ ap (λ (ys : List ℤ). (xs ++ rest) ++ ys) (drop_all (length out) first (omega (arith, same)))
        ∙ append-nil (xs ++ rest)

    of : (n < length xs) ⊎ (length xs ≤ n) → slice_index_or (xs ++ rest) n (pos 0) ≡ slice_index_or xs n (pos 0)
    of (inl less) = get_or_append_left xs rest (pos 0) n less
    of (inr past) =
        get_or-append_right xs rest (length xs) n (pos 0) refl past
        ∙ ap (λ (ys : List ℤ). slice_index_or ys (n - length xs) (pos 0)) silent
        ∙ zero_at m 0 (n - length xs)
        ∙ sym (get_or_past xs n (pos 0) past)

-- ---- a pull that gave samples, or of a channel that has ended

-- what a channel has given when a round is whole up to it: so many blocks, or all
abbrev Given : ℕ → ℕ → EngineState → Type 0
Given rounds c e =
    ((rounds < div_ceil (length (channel_at e c)) e.heap.block) × (passed_of e c ≡ rounds * e.heap.block) × (passed_of e c < length (channel_at e c)))
    ⊎ ((div_ceil (length (channel_at e c)) e.heap.block ≤ rounds) × (length (channel_at e c) ≤ passed_of e c) × (length (channel_at e c) ≤ rounds * e.heap.block))

module _ (rounds c : ℕ) (old : EngineState) (under : IsUnderway rounds c old) (within : c < length old.channels) where
  inside : c < length (channels old.code old.rate)
  inside = omega (arith, within, under.count)

  at : slice_index old.pulled c ≡ min rounds (pulls_of old.heap.block (slice_index_or (channels old.code old.rate) c (silence old.rate)))
  at = ap (λ xs. slice_index xs c) under.pulls ∙ parted_at (pulls_in old.heap.block (rounds + 1)) (pulls_in old.heap.block rounds) c (channels old.code old.rate) (silence old.rate) inside

  given : Given rounds c old
  given = of (cases_lt rounds pulls)
    where
      pulls : ℕ
      pulls = div_ceil (length (channel_at old c)) old.heap.block

      of : (rounds < pulls) ⊎ (pulls ≤ rounds) → Given rounds c old
      of (inl less) =
          let is : slice_index old.pulled c ≡ rounds = at ∙ omega (arith, less) in
          let passed : passed_of old c ≡ rounds * old.heap.block = ap (λ k. k * old.heap.block) is in
          inl (less, passed, omega (arith, passed, some_left rounds (length (channel_at old c)) old.heap.block under.laws.positive less))
      of (inr all) =
          let is : slice_index old.pulled c ≡ pulls = at ∙ omega (arith, all) in
          let passed : passed_of old c ≡ pulls * old.heap.block = ap (λ k. k * old.heap.block) is in
          inr (
            all,
            omega (arith, passed, none_left pulls (length (channel_at old c)) old.heap.block under.laws.positive (omega arith)),
            none_left rounds (length (channel_at old c)) old.heap.block under.laws.positive all,
          )

  -- the block that a pull gives is that of the round, and 0 from the channel's end on
  pub block_heard : (n : ℕ) → n < old.heap.block → slice_index_or (next_block old c) n (pos 0) ≡ heard_at old c (rounds * old.heap.block + n)
  block_heard n less =
      get_or-take old.heap.block (drop (passed_of old c) (channel_at old c)) n (pos 0) less
      ∙ get_or-drop (passed_of old c) (channel_at old c) n (pos 0)
      ∙ of given
      ∙ sym (values_are (slice_index_or (channels old.code old.rate) c (silence old.rate)) (begins_at_0 old.code old.rate c) (rounds * old.heap.block + n))
    where
      of : Given rounds c old
          → slice_index_or (channel_at old c) (passed_of old c + n) (pos 0) ≡ slice_index_or (channel_at old c) (rounds * old.heap.block + n) (pos 0)
      of (inl (less, passed, left)) = ap (λ k. slice_index_or (channel_at old c) (k + n) (pos 0)) passed
      of (inr (all, over, past)) =
          get_or_past (channel_at old c) (passed_of old c + n) (pos 0) (omega (arith, over))
          ∙ sym (get_or_past (channel_at old c) (rounds * old.heap.block + n) (pos 0) (omega (arith, past)))

  -- the channels up to c were pulled
  pulled_more : (new : EngineState) (n : ℕ) → n ≡ length (next_block old c) → new.pulled ≡ (if nat_lt 0 n then with_pull old.pulled c else old.pulled)
      → new.pulled ≡ pulled_after old.heap.block rounds (suc c) (channels old.code old.rate)
  pulled_more new n count pulled = of given
    where
      f : sounds.Sound → ℕ
      f = pulls_in old.heap.block (rounds + 1)

      g : sounds.Sound → ℕ
      g = pulls_in old.heap.block rounds

      size : n ≡ min old.heap.block (length (channel_at old c) - passed_of old c)
      size = count ∙ length-take old.heap.block (drop (passed_of old c) (channel_at old c)) ∙ ap (min old.heap.block) (length-drop (passed_of old c) (channel_at old c))

      of : Given rounds c old
          → new.pulled ≡ pulled_after old.heap.block rounds (suc c) (channels old.code old.rate)
      of (inl (less, passed, left)) =
          let some : 0 < n = omega (arith, size, left, under.laws.positive) in
          let is : slice_index old.pulled c + 1 ≡ f (slice_index_or (channels old.code old.rate) c (silence old.rate)) = omega (arith, at, less) in
          pulled
          ∙ ap (λ t. if t then with_pull old.pulled c else old.pulled) (lt-ltb 0 n some)
          ∙ ap (λ xs. slice_set xs c (slice_index old.pulled c + 1)) under.pulls
          ∙ parted_set f g c (slice_index old.pulled c + 1) (channels old.code old.rate) (silence old.rate) inside is
      of (inr (all, over, past)) =
          let none : n ≤ 0 = omega (arith, size, over) in
          pulled
          ∙ ap (λ t. if t then with_pull old.pulled c else old.pulled) (le-ltb 0 n none)
          ∙ under.pulls
          ∙ parted_same f g c (channels old.code old.rate) (silence old.rate) inside (omega (arith, all))

  pub underway_more : (new : EngineState) (n : ℕ) → n ≡ length (next_block old c) → new.pulled ≡ (if nat_lt 0 n then with_pull old.pulled c else old.pulled) → SamePiece old new
      → new.spent ≡ None → HeapLaws new.heap → FollowsPlan new → IsUnderway rounds (suc c) new
  underway_more new n count pulled same unspent laws follows = record {
    count = same.channels ∙ under.count ∙ (λ i. length (channels (sym same.code i) (sym same.rate i)));
    pulls = pulled_more new n count pulled ∙ (λ i. pulled_after (sym same.block i) rounds (suc c) (channels (sym same.code i) (sym same.rate i)));
    unspent = unspent;
    laws = laws;
    follows = follows;
  }

  -- ---- its place in the order

  many : length old.pulled ≡ length (channels old.code old.rate)
  many = ap length under.pulls ∙ parted_count (pulls_in old.heap.block (rounds + 1)) (pulls_in old.heap.block rounds) c (channels old.code old.rate)

  -- the channel whose turn it is, and those behind it
  turn_here : (n : ℕ) → IsAtTurn c n old → IsInOrder (upwards old.code old.rate) (c ∷ range_with_len (c + 1) (length (channels old.code old.rate) - (c + 1))) n old
  turn_here n at =
      let left : length (channels old.code old.rate) - c ≡ suc (length (channels old.code old.rate) - (c + 1)) = omega (arith, inside) in
      subst (λ k. IsInOrder (upwards old.code old.rate) (range_with_len c k) n old) left at

  pub turn_more : (n : ℕ) → IsAtTurn c n old → (new : EngineState) (count : ℕ) → count ≡ length (next_block old c) → new.pulled ≡ (if nat_lt 0 count then with_pull old.pulled c else old.pulled) → SamePiece old new
      → ((order : List ℕ) → HasPulled order old → HasPulled (if nat_lt 0 count then order ++ c ∷ [] else order) new) → IsAtTurn (c + 1) n new
  turn_more n at new count gives pulled same ordered =
      subst (λ k. IsInOrder (range_with_len 0 k) (range_with_len (c + 1) (k - (c + 1))) n new) (sym (λ i. length (channels (same.code i) (same.rate i))))
      (turn_made (upwards old.code old.rate) (range_with_len (c + 1) (length (channels old.code old.rate) - (c + 1))) c n old (turn_here n at) under.follows many under.laws.positive (omega (arith, inside, many)) new count same gives pulled ordered).0

  pub first_here : (n : ℕ) → IsAtTurn c n old → (HasEnded old c → ⊥) → ((order later : List ℕ) → HasPulled order old → first_full old.heap.block (plan old.code old.rate) old.heap.pool (order ++ c ∷ later) ≡ Some (length order))
      → first_full old.heap.block (plan old.code old.rate) old.heap.pool (order_of old.heap.block old.code old.rate) ≡ Some (sum old.pulled)
  first_here n at more first =
      turn_found (upwards old.code old.rate) (range_with_len (c + 1) (length (channels old.code old.rate) - (c + 1))) c n old (turn_here n at) under.follows many under.laws.positive (omega (arith, inside, many)) more first

-- ---- a pull that gave none

full_parts : (n live m pool : ℕ) → faults.PoolFull n live ≡ faults.PoolFull m pool → (n ≡ m) × (live ≡ pool)
full_parts n live m pool e = (cc, cc)

full_is_no_want : (n live : ℕ) → faults.PoolFull n live ≡ faults.OutOfMemory → ⊥
full_is_no_want n live e = cc

-- the pulls are still those of the round, and the channel has not ended
in_round : (rounds c : ℕ) (old new : EngineState) → IsUnderway rounds c old → c < length old.channels → new.pulled ≡ old.pulled → SamePiece old new → (HasEnded old c → ⊥) → IsInRound rounds c new
in_round rounds c old new under within pulled same more = record {
  pulls = pulled ∙ under.pulls ∙ (λ i. pulled_after (sym same.block i) rounds c (channels (sym same.code i) (sym same.rate i)));
  more = subst (λ k. rounds < k) (λ i. pulls_of (sym same.block i) (slice_index_or (channels (sym same.code i) (sym same.rate i)) c (silence (sym same.rate i)))) (of (given rounds c old under within));
}
  where
    of : Given rounds c old → rounds < div_ceil (length (channel_at old c)) old.heap.block
    of (inl (less, passed, left)) = less
    of (inr (all, over, past)) = absurd (more over)

-- a pull that found the pool full
pub spent_after : (rounds c : ℕ) (old new : EngineState) (fault : PullFault) (n live : ℕ) → IsUnderway rounds c old → c < length old.channels → (HasEnded old c → ⊥) → fault ≡ faults.PoolFull n live
    → (fault ≢ faults.OutOfMemory → (fault ≡ full_of old) × (live_of new.heap ≡ new.heap.pool)) → new.spent ≡ Some fault → new.pulled ≡ old.pulled → SamePiece old new → HeapLaws new.heap
    → (fault ≢ faults.OutOfMemory → old.spent ≡ None → StopsAtFull old new c)
    → (left : ℕ) → IsAtTurn c left old
    → (fault ≢ faults.OutOfMemory → old.spent ≡ None → (order later : List ℕ) → HasPulled order old → first_full old.heap.block (plan old.code old.rate) old.heap.pool (order ++ c ∷ later) ≡ Some (length order))
    → IsPullFault old new rounds (PoolFull n)
spent_after rounds c old new fault n live under within more is full spent pulled same laws stops left at first =
    let other : fault ≢ faults.OutOfMemory = λ short. full_is_no_want n live (sym is ∙ short) in
    let parts = full_parts n live (sum old.pulled) old.heap.pool (sym is ∙ (full other).0) in
    let count : n ≡ sum new.pulled = parts.0 ∙ sym (ap sum pulled) in (
      count,
      record {
        same = same;
        at = c;
        pulls = in_round rounds c old new under within pulled same more;
        spent = spent ∙ ap Some is ∙ (λ i. Some (faults.PoolFull (count i) (parts.1 i)));
        stopped = record {
          laws = laws;
          taken = (full other).1;
          before = old;
          same = same;
          pulls = sym pulled;
          unspent = under.unspent;
          earlier = under.laws;
          order = at.done;
          so = at.so;
          stops = stops other under.unspent;
        };
        first = first_here rounds c old under within left at more (first other under.unspent) ∙ ap (λ (ns : List ℕ). Some (sum ns)) (sym pulled);
      },
    )

-- a pull for which memory was missing
pub short_of : (rounds c : ℕ) (old new : EngineState) (fault : PullFault) → IsUnderway rounds c old → c < length old.channels → (HasEnded old c → ⊥) → fault ≡ faults.OutOfMemory
    → (fault ≡ faults.OutOfMemory → old.spent ≡ None → has_waiting old.heap ≡ true) → (fault ≡ faults.OutOfMemory → old.spent ≡ None → LacksMemory old c) → new.spent ≡ Some fault
    → new.pulled ≡ old.pulled → SamePiece old new → IsPullFault old new rounds OutOfMemory
short_of rounds c old new fault under within more is waits lacks spent pulled same = record {
  same = same;
  at = c;
  pulls = in_round rounds c old new under within pulled same more;
  short = record {
    spent = spent ∙ ap Some is;
    before = old;
    same = same;
    pulls = sym pulled;
    unspent = under.unspent;
    earlier = under.laws;
    waits = waits is under.unspent;
    lacks = lacks is under.unspent;
  };
}
