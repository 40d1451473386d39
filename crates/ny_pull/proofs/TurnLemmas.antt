-- An engine that is pulled in turns: each turn is a pull, or its channel has ended.
use Rattle.std.proofs.Common.{◌≡◌, ℕ, zero, suc, ◌+◌, ◌-◌, ◌*◌, ◌<◌, ◌≤◌, ◌⊎◌, inl, inr, Bool, true, false, nat_lt, if◌then◌else◌, List, [], ◌∷◌, ◌++◌, length, length-take, length-drop, map, drop, sum, Some, slice_get, slice_index, slice_index_or, refl, sym, ap, subst, ◌∙◌, arith}
use Rattle.std.specs.Prelude.{min, max, fold}
use Rattle.std.proofs.lemmas.Bool.{cases_lt, lt-ltb, le-ltb}
use Rattle.std.proofs.lemmas.List.{append-nil, append_assoc}
use Rattle.std.proofs.Math.Nat.{div-lt_iff_lt-mul, suc-mul}
use Rattle.std.proofs.lemmas.Nat.{le-div}
use Rattle.ny_num.specs.declared.rate.Rate.{Rate}
use Rattle.ny_num.specs.Sound.{Sound, silence}
use Rattle.ny_check.specs.Channels.{channels, longest}
use Rattle.ny_heap.specs.Heap.{blocks_of}
use Rattle.ny_plan.specs.Rows.{RowSound}
use Rattle.ny_plan.specs.Plan.{plan}
use Rattle.ny_plan.specs.Peak.{first_full}
use Rattle.ny_plan.specs.Lines.{channel_blocks, round, rounds, sequence}
use Rattle.ny_pull.specs.Engine.{EngineState, channel_at, passed_of, next_block, with_pull, HasEnded, SamePiece}
use Rattle.ny_pull.specs.Planned.{FollowsPlan}
use Rattle.ny_pull.specs.Ordered.{HasPulled, still_to_pull, IsInOrder}
use Rattle.ny_pull.proofs.PlannedLemmas.{there_is}

-- ---- blocks of a length

more_blocks : (b k len : ℕ) → 0 < b → k * b < len → k < blocks_of b len
more_blocks b k len some less = omega (arith, le-div (k + 1) (len + (b - 1)) b some (omega (arith, less, some, suc-mul k b)))

blocks_within : (b k len : ℕ) → 0 < b → len ≤ k * b → blocks_of b len ≤ k
blocks_within b k len some all = omega (arith, (div-lt_iff_lt-mul {k = b} {x = len + (b - 1)} {y = k + 1} some).1 (omega (arith, all, some, suc-mul k b)))

blocks_reach : (b k len : ℕ) → 0 < b → blocks_of b len ≤ k → len ≤ k * b
blocks_reach b k len some le = of (cases_lt (k * b) len)
  where
    of : (k * b < len) ⊎ (len ≤ k * b) → len ≤ k * b
    of (inl less) = absurd (omega (arith, le, more_blocks b k len some less))
    of (inr all) = all

-- a block is left exactly where so many do not reach the end
blocks_left : (b k len : ℕ) → 0 < b → nat_lt k (blocks_of b len) ≡ nat_lt (k * b) len
blocks_left b k len some = of (cases_lt (k * b) len)
  where
    of : (k * b < len) ⊎ (len ≤ k * b) → nat_lt k (blocks_of b len) ≡ nat_lt (k * b) len
    of (inl less) = lt-ltb k (blocks_of b len) (more_blocks b k len some less) ∙ sym (lt-ltb (k * b) len less)
    of (inr all) = le-ltb k (blocks_of b len) (blocks_within b k len some all) ∙ sym (le-ltb (k * b) len all)

abbrev LensOf : List RowSound → List Sound → Rate → Type 0
LensOf rs ms rate = (c : ℕ) (r : RowSound) → slice_get rs c ≡ Some r → r.timing.len ≡ length (slice_index_or ms c (silence rate)).samples

most_within : (b k a : ℕ) (rs : List RowSound) (ms : List Sound) (rate : Rate) → 0 < b → length rs ≡ length ms → LensOf rs ms rate → a ≤ k → longest ms ≤ k * b → fold max a (map (λ (r : RowSound). blocks_of b r.timing.len) rs) ≤ k
most_within b k a [] ms rate some many lens first all = first
most_within b k a (r ∷ rs) [] rate some many lens first all = absurd (omega (arith, many))
most_within b k a (r ∷ rs) (m ∷ ms) rate some many lens first all =
    most_within b k (max a (blocks_of b r.timing.len)) rs ms rate some (omega (arith, many)) (λ c q there. lens (suc c) q there)
    (omega (arith, first, blocks_within b k r.timing.len some (omega (arith, lens zero r refl, all)))) (omega (arith, all))

first_within : (k a : ℕ) (ns : List ℕ) → fold max a ns ≤ k → a ≤ k
first_within k a [] le = le
first_within k a (n ∷ ns) le = omega (arith, first_within k (max a n) ns le)

most_reach : (b k a : ℕ) (rs : List RowSound) (ms : List Sound) (rate : Rate) → 0 < b → length rs ≡ length ms → LensOf rs ms rate → fold max a (map (λ (r : RowSound). blocks_of b r.timing.len) rs) ≤ k → longest ms ≤ k * b
most_reach b k a [] [] rate some many lens le = omega arith
most_reach b k a [] (m ∷ ms) rate some many lens le = absurd (omega (arith, many))
most_reach b k a (r ∷ rs) [] rate some many lens le = absurd (omega (arith, many))
most_reach b k a (r ∷ rs) (m ∷ ms) rate some many lens le =
    let here = first_within k (max a (blocks_of b r.timing.len)) (map (λ (r : RowSound). blocks_of b r.timing.len) rs) le in
    omega (arith, lens zero r refl, blocks_reach b k r.timing.len some (omega (arith, here)), most_reach b k (max a (blocks_of b r.timing.len)) rs ms rate some (omega (arith, many)) (λ c q there. lens (suc c) q there) le)

at_place : (f : RowSound → ℕ) (rs : List RowSound) (c : ℕ) (r : RowSound) → slice_get rs c ≡ Some r → slice_index (map f rs) c ≡ f r
at_place f [] c r at = cc
at_place f (q ∷ rs) zero r at = ap f (same at)
  where
    same : Some q ≡ Some r → q ≡ r
    same e = cc
at_place f (q ∷ rs) (suc c) r at = at_place f rs c r at

-- ---- an engine that follows the plan

module _ (e : EngineState) (follows : FollowsPlan e) (many : length e.pulled ≡ length (channels e.code e.rate)) (some : 0 < e.heap.block) where
  abbrev blocks : List ℕ
  blocks = channel_blocks e.heap.block (plan e.code e.rate)

  -- a channel has a block left exactly where it has not ended
  pub turn_left : (c : ℕ) → c < length e.pulled → nat_lt (slice_index e.pulled c) (slice_index blocks c) ≡ nat_lt (passed_of e c) (length (channel_at e c))
  turn_left c within =
      let it = there_is (plan e.code e.rate).channels c (omega (arith, within, follows.count)) in
      ap (nat_lt (slice_index e.pulled c)) (at_place (λ (r : RowSound). blocks_of e.heap.block r.timing.len) (plan e.code e.rate).channels c it.0 it.1)
      ∙ blocks_left e.heap.block (slice_index e.pulled c) it.0.timing.len some
      ∙ ap (nat_lt (passed_of e c)) (follows.lens c it.0 it.1)

  -- there are as many rounds as the longest channel has blocks
  pub rounds_within : (k : ℕ) → longest (channels e.code e.rate) ≤ k * e.heap.block → fold max 0 blocks ≤ k
  rounds_within k all = most_within e.heap.block k 0 (plan e.code e.rate).channels (channels e.code e.rate) e.rate some (omega (arith, many, follows.count)) follows.lens (omega arith) all

  pub rounds_reach : (k : ℕ) → fold max 0 blocks ≤ k → longest (channels e.code e.rate) ≤ k * e.heap.block
  rounds_reach k le = most_reach e.heap.block k 0 (plan e.code e.rate).channels (channels e.code e.rate) e.rate some (omega (arith, many, follows.count)) follows.lens le

-- ---- turns

-- before the first round
pub turns_begin : (turns : List ℕ) (e : EngineState) → HasPulled [] e → IsInOrder turns [] (fold max 0 (channel_blocks e.heap.block (plan e.code e.rate))) e
unfolding sequence
turns_begin turns e has = record {
  done = [];
  so = has;
  whole = ap (rounds (fold max 0 (channel_blocks e.heap.block (plan e.code e.rate))) (channel_blocks e.heap.block (plan e.code e.rate)) turns) (sym has.pulled);
}

-- a round begins
pub turns_again : (turns : List ℕ) (n : ℕ) (e : EngineState) → IsInOrder turns [] (suc n) e → IsInOrder turns turns n e
turns_again turns n e is = record { done = is.done; so = is.so; whole = is.whole }

-- all rounds were made
pub turns_end : (turns : List ℕ) (e : EngineState) → IsInOrder turns [] 0 e → HasPulled (sequence e.heap.block (plan e.code e.rate) turns) e
turns_end turns e is = subst (λ order. HasPulled order e) (sym (is.whole ∙ append-nil is.done)) is.so

module _ (turns rest : List ℕ) (c n : ℕ) (e : EngineState) (is : IsInOrder turns (c ∷ rest) n e) where
  abbrev of_plan : List ℕ
  of_plan = channel_blocks e.heap.block (plan e.code e.rate)

  -- what is still to be pulled, by whether the channel whose turn it is has a block left
  abbrev by_turn : Bool → List ℕ
  by_turn b =
      let left = if b then (let next = round of_plan rest (with_pull e.pulled c) in (c ∷ next.0, next.1)) else round of_plan rest e.pulled in
      left.0 ++ rounds n of_plan turns left.1

  -- a turn of a channel that has ended
  turn_over : nat_lt (slice_index e.pulled c) (slice_index of_plan c) ≡ false → (new : EngineState) → SamePiece e new → new.pulled ≡ e.pulled → HasPulled is.done new → (next : IsInOrder turns rest n new) × (next.done ≡ is.done)
  turn_over over new same pulls has = (
    record {
      done = is.done;
      so = has;
      whole =
          (λ i. sequence (same.block i) (plan (same.code i) (same.rate i)) turns)
          ∙ is.whole ∙ ap (λ b. is.done ++ by_turn b) over
          ∙ sym (λ i. is.done ++ still_to_pull (channel_blocks (same.block i) (plan (same.code i) (same.rate i))) turns rest n (pulls i));
    },
    refl,
  )

  module _ (more : nat_lt (slice_index e.pulled c) (slice_index of_plan c) ≡ true) where
    -- what follows on the pull of this turn
    abbrev after : List ℕ
    after = still_to_pull of_plan turns rest n (with_pull e.pulled c)

    pub goes_on : sequence e.heap.block (plan e.code e.rate) turns ≡ is.done ++ c ∷ after
    goes_on = is.whole ∙ ap (λ b. is.done ++ by_turn b) more

    -- a turn that is a pull
    turn_pulled : (new : EngineState) → SamePiece e new → new.pulled ≡ with_pull e.pulled c → HasPulled (is.done ++ c ∷ []) new → (next : IsInOrder turns rest n new) × (next.done ≡ is.done ++ c ∷ [])
    turn_pulled new same pulls has = (
      record {
        done = is.done ++ c ∷ [];
        so = has;
        whole =
            (λ i. sequence (same.block i) (plan (same.code i) (same.rate i)) turns)
            ∙ goes_on ∙ sym (append_assoc is.done (c ∷ []) after)
            ∙ sym (λ i. (is.done ++ c ∷ []) ++ still_to_pull (channel_blocks (same.block i) (plan (same.code i) (same.rate i))) turns rest n (pulls i));
      },
      refl,
    )

    -- a turn that finds the pool full is the first of the order that does
    turn_full : ((later : List ℕ) → first_full e.heap.block (plan e.code e.rate) e.heap.pool (is.done ++ c ∷ later) ≡ Some (length is.done)) → first_full e.heap.block (plan e.code e.rate) e.heap.pool (sequence e.heap.block (plan e.code e.rate) turns) ≡ Some (sum e.pulled)
    turn_full first = ap (first_full e.heap.block (plan e.code e.rate) e.heap.pool) goes_on ∙ first after ∙ ap Some (sym is.so.count)

  module _ (follows : FollowsPlan e) (many : length e.pulled ≡ length (channels e.code e.rate)) (some : 0 < e.heap.block) (within : c < length e.pulled) where
    -- a turn that gave so many samples, none where the channel has ended
    pub turn_made : (new : EngineState) (count : ℕ) → SamePiece e new → count ≡ length (next_block e c) → new.pulled ≡ (if nat_lt 0 count then with_pull e.pulled c else e.pulled)
        → ((order : List ℕ) → HasPulled order e → HasPulled (if nat_lt 0 count then order ++ c ∷ [] else order) new)
        → (next : IsInOrder turns rest n new) × (next.done ≡ (if nat_lt 0 count then is.done ++ c ∷ [] else is.done))
    turn_made new count same gives pulls ordered = of (cases_lt (passed_of e c) (length (channel_at e c)))
      where
        size : count ≡ min e.heap.block (length (channel_at e c) - passed_of e c)
        size = gives ∙ length-take e.heap.block (drop (passed_of e c) (channel_at e c)) ∙ ap (min e.heap.block) (length-drop (passed_of e c) (channel_at e c))

        of : (passed_of e c < length (channel_at e c)) ⊎ (length (channel_at e c) ≤ passed_of e c) → (next : IsInOrder turns rest n new) × (next.done ≡ (if nat_lt 0 count then is.done ++ c ∷ [] else is.done))
        of (inl less) =
            let gave : nat_lt 0 count ≡ true = lt-ltb 0 count (omega (arith, size, less, some)) in
            let made = turn_pulled (turn_left e follows many some c within ∙ lt-ltb (passed_of e c) (length (channel_at e c)) less) new same
            (pulls ∙ ap (λ b. if b then with_pull e.pulled c else e.pulled) gave)
            (subst (λ b. HasPulled (if b then is.done ++ c ∷ [] else is.done) new) gave (ordered is.done is.so)) in
            (made.0, made.1 ∙ sym (ap (λ b. if b then is.done ++ c ∷ [] else is.done) gave))
        of (inr all) =
            let none : nat_lt 0 count ≡ false = le-ltb 0 count (omega (arith, size, all)) in
            let made = turn_over (turn_left e follows many some c within ∙ le-ltb (passed_of e c) (length (channel_at e c)) all) new same
            (pulls ∙ ap (λ b. if b then with_pull e.pulled c else e.pulled) none)
            (subst (λ b. HasPulled (if b then is.done ++ c ∷ [] else is.done) new) none (ordered is.done is.so)) in
            (made.0, made.1 ∙ sym (ap (λ b. if b then is.done ++ c ∷ [] else is.done) none))

    -- a turn that found the pool full is the first of the whole order that does
    pub turn_found : (HasEnded e c → ⊥) → ((order later : List ℕ) → HasPulled order e → first_full e.heap.block (plan e.code e.rate) e.heap.pool (order ++ c ∷ later) ≡ Some (length order))
        → first_full e.heap.block (plan e.code e.rate) e.heap.pool (sequence e.heap.block (plan e.code e.rate) turns) ≡ Some (sum e.pulled)
    turn_found more first = of (cases_lt (passed_of e c) (length (channel_at e c)))
      where
        of : (passed_of e c < length (channel_at e c)) ⊎ (length (channel_at e c) ≤ passed_of e c) → first_full e.heap.block (plan e.code e.rate) e.heap.pool (sequence e.heap.block (plan e.code e.rate) turns) ≡ Some (sum e.pulled)
        of (inl less) = turn_full (turn_left e follows many some c within ∙ lt-ltb (passed_of e c) (length (channel_at e c)) less) (λ later. first is.done later is.so)
        of (inr all) = absurd (more all)
