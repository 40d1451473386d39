-- A file that is written in rounds, and the engine that is pulled for it.
use Rattle.std.proofs.Common.{◌≡◌, ℕ, zero, suc, ◌+◌, ◌-◌, ◌*◌, ◌<◌, ◌≤◌, ◌⊎◌, List, [], ◌∷◌, ◌++◌, map, take, drop, length, Some, Result, Ok, Err, OnOk, OnErr, IfErr, refl, sym, ap, subst, ◌∙◌, arith, ℤ, pos, slice_index, slice_index_or, sum, length-append, length-take, length-drop, inl, inr}
use Rattle.std.specs.Int.{div_ceil}
use Rattle.std.specs.Result.{IsErrAnd}
use Rattle.std.specs.Prelude.{max, fold}
use Rattle.std.specs.List.{flat_map, range_with_len}
use Rattle.std.proofs.lemmas.Bool.{cases_lt}
use Rattle.std.proofs.lemmas.List.{take-append-drop, take-append-le, take_all, append_assoc, append-nil, get_or_past, get_or-take, get_or_append_left, get_or-append_right}
use Rattle.std.proofs.lemmas.List.Concat.{flat_map-append}
use Rattle.std.proofs.Math.Seq.{take-add, take-append-add}
use Rattle.ny_io.specs.Host.{HostState, NoneFell, SameCounts, written}
use Rattle.ny_io.proofs.Written.{written-then, written-nothing}
use Rattle.ny_num.specs.Sound as sounds
use Rattle.ny_num.specs.Sound.{silence, value_at}
use Rattle.ny_check.specs.Channels.{channels, frames, longest}
use Rattle.ny_pull.specs.declared.fault.PullFault.TheVariants as faults
use Rattle.ny_plan.specs.Plan.{plan}
use Rattle.ny_plan.specs.Peak.{first_full}
use Rattle.ny_plan.specs.Lines.{channel_blocks}
use Rattle.ny_pull.specs.Engine.{EngineState, channel_at, passed_of, SamePiece}
use Rattle.ny_pull.specs.Ordered.{HasPulled, IsInOrder}
use Rattle.ny_pull.proofs.TurnLemmas.{rounds_within, rounds_reach, turns_begin, turns_again, turns_end}
use Rattle.ny_wav.specs.WavFile.{frame_of}
use Rattle.ny_top.specs.Frames.{heard_at, IsBlock, gathered_in}
use borrow.Rule.Slice.PartMut.{put_mid}
use Rattle.std.proofs.lemmas.Slice.{take-put_mid}
use Rattle.ny_top.specs.Playing.{pulls_of, pulls_in, upwards, order_of}
use Rattle.ny_top.specs.Rounds.{IsUnderway, IsAtRound, IsAtTurn, Wrote, WrotePart, Gathered, IsPulledOut, IsPullFault, IsRoundFault, EndsRounds, frames_at, all_bytes, bytes_after, bytes_of_round}
use Rattle.ny_top.proofs.FrameLemmas.{frames_count}
use Rattle.ny_top.proofs.PulledLists.{map_at, same_counts, parted_count, parted_all, parted_none}
use Rattle.ny_top.proofs.PullLemmas.{no_samples, same_channel, some_left, none_left, next_multiple, one_more, fewer_blocks}
use Rattle.ny_top.proofs.Stages.{rose_from, quiet_none, quiet_then}
use Rattle.ny_top.specs.declared.frames.Buffers.{Buffers}
use Rattle.ny_top.specs.declared.rounds.RoundFault.{RoundFault}
use Rattle.ny_top.specs.declared.rounds.RoundFault.TheVariants.{Write, PoolFull, OutOfMemory}

-- ---- bytes

-- these bytes, and then those
pub wrote_both : (a b : List ℕ) (old mid new : HostState) → Wrote a old mid → Wrote b mid new → Wrote (a ++ b) old new
wrote_both a b old mid new first second = second ∙ ap (written b) first ∙ written-then a b old.created

-- some of a first part is some of the whole
pub part_first : (a b : List ℕ) (old new : HostState) → WrotePart a old new → WrotePart (a ++ b) old new
part_first a b old new part = (
  part.0,
  omega (arith, part.1, length-append a b),
  part.2 ∙ ap (λ bytes. written bytes old.created) (sym (take-append-le part.0 a b part.1)),
)

-- a first part, and then some of what follows it
pub part_then : (a b : List ℕ) (old mid new : HostState) → Wrote a old mid → WrotePart b mid new → WrotePart (a ++ b) old new
part_then a b old mid new first part = (
  length a + part.0,
  omega (arith, part.1, length-append a b),
  wrote_both a (take part.0 b) old mid new first part.2 ∙ ap (λ bytes. written bytes old.created) (sym (take-append-add a b part.0)),
)

-- what is gathered, and more bytes
gathered_more : (bytes first more : List ℕ) (b : Buffers) → bytes ≡ first ++ gathered_in b → bytes ++ more ≡ first ++ (gathered_in b ++ more)
gathered_more bytes first more b is = ap (λ (xs : List ℕ). xs ++ more) is ∙ append_assoc first (gathered_in b) more

-- bytes of which some are gathered, and then more
pub gathered_then : (bytes more : List ℕ) (b c : Buffers) (old mid new : HostState) → Gathered bytes b old mid → Gathered (gathered_in b ++ more) c mid new → Gathered (bytes ++ more) c old new
gathered_then bytes more b c old mid new before next = (
  before.0 ++ next.0,
  wrote_both before.0 next.0 old mid new before.1 next.1,
  gathered_more bytes before.0 more b before.2 ∙ ap (λ (xs : List ℕ). before.0 ++ xs) next.2 ∙ sym (append_assoc before.0 next.0 (gathered_in c)),
)

-- all of them are written once what is gathered is
pub gathered_whole : (bytes : List ℕ) (b : Buffers) (old mid new : HostState) → Gathered bytes b old mid → Wrote (gathered_in b) mid new → Wrote bytes old new
gathered_whole bytes b old mid new before rest =
    wrote_both before.0 (gathered_in b) old mid new before.1 rest ∙ ap (λ (xs : List ℕ). written xs old.created) (sym before.2)

-- some of them, where some of what is gathered and of what follows is
pub gathered_part : (bytes more : List ℕ) (b : Buffers) (old mid new : HostState) → Gathered bytes b old mid → WrotePart (gathered_in b ++ more) mid new → WrotePart (bytes ++ more) old new
gathered_part bytes more b old mid new before part =
    subst (λ (xs : List ℕ). WrotePart xs old new) (sym (gathered_more bytes before.0 more b before.2))
    (part_then before.0 (gathered_in b ++ more) old mid new before.1 part)

-- the whole is a part
pub part_whole : (bytes : List ℕ) (old new : HostState) → Wrote bytes old new → WrotePart bytes old new
part_whole bytes old new wrote = (length bytes, omega arith, wrote ∙ ap (λ (xs : List ℕ). written xs old.created) (sym (take_all (length bytes) bytes (omega arith))))

-- what is gathered, where nothing is written
pub still_gathered : (b : Buffers) (old : HostState) → Gathered (gathered_in b) b old old
still_gathered b old = ([], sym (written-nothing old.created), refl)

-- where all is written nothing is gathered
pub all_flushed : (bytes : List ℕ) (b : Buffers) (old new : HostState) → b.gathered ≡ 0 → Wrote bytes old new → Gathered bytes b old new
all_flushed bytes b old new none wrote =
    (bytes, wrote, sym (append-nil bytes) ∙ ap (λ n. bytes ++ take n b.bytes.items) (sym none))

-- more is gathered
pub gathers : (bytes more : List ℕ) (b c : Buffers) (old new : HostState) → Gathered bytes b old new → gathered_in c ≡ gathered_in b ++ more → Gathered (bytes ++ more) c old new
gathers bytes more b c old new before adds =
    (before.0, before.1, gathered_more bytes before.0 more b before.2 ∙ ap (λ (xs : List ℕ). before.0 ++ xs) (sym adds))

frames_split : (n : ℕ) (fs : List (List ℤ)) → flat_map frame_of (take n fs) ++ flat_map frame_of (drop n fs) ≡ flat_map frame_of fs
frames_split n fs = sym (flat_map-append frame_of (take n fs) (drop n fs)) ∙ ap (flat_map frame_of) (take-append-drop n fs)

-- ---- rounds

pub same_then : (start mid new : EngineState) → SamePiece start mid → SamePiece mid new → SamePiece start new
same_then start mid new first second = record {
  code = second.code ∙ first.code;
  rate = second.rate ∙ first.rate;
  channels = second.channels ∙ first.channels;
  pool = second.pool ∙ first.pool;
  block = second.block ∙ first.block;
}

-- the blocks of the channels before c
abbrev pub BlocksSoFar : EngineState → ℕ → ℕ → List ℤ → Type 0
BlocksSoFar e rounds c xs =
    (d n : ℕ) → d < c → n < e.heap.block → slice_index_or xs (d * e.heap.block + n) (pos 0) ≡ heard_at e d (rounds * e.heap.block + n)

-- a part that is put into a list: what stands before it, and in it
put_before : (xs part : List ℤ) (a k i : ℕ) → a + length part ≤ length xs → i < a → slice_index_or (put_mid a k xs part) i (pos 0) ≡ slice_index_or xs i (pos 0)
put_before xs part a k i within less =
    sym (get_or-take (a + length part) (put_mid a k xs part) i (pos 0) (omega (arith, less)))
    ∙ ap (λ (ys : List ℤ). slice_index_or ys i (pos 0)) (take-put_mid a k xs part (a + length part) refl (omega (arith, within)))
    ∙ get_or_append_left (take a xs) part (pos 0) i (omega (arith, less, length-take a xs, within))
    ∙ get_or-take a xs i (pos 0) less

put_in : (xs part : List ℤ) (a k n : ℕ) → a + length part ≤ length xs → n < length part → slice_index_or (put_mid a k xs part) (a + n) (pos 0) ≡ slice_index_or part n (pos 0)
put_in xs part a k n within less =
    sym (get_or-take (a + length part) (put_mid a k xs part) (a + n) (pos 0) (omega (arith, less)))
    ∙ ap (λ (ys : List ℤ). slice_index_or ys (a + n) (pos 0)) (take-put_mid a k xs part (a + length part) refl (omega (arith, within)))
    ∙ get_or-append_right (take a xs) part a (a + n) (pos 0) (length-take a xs ∙ omega (arith, within)) (omega arith)
    ∙ ap (λ j. slice_index_or part j (pos 0)) (let e : a + n - a ≡ n = omega arith in e)

-- so much of a list is a block
pub part_size : (xs : List ℤ) (a b : ℕ) → a + b ≤ length xs → length (take (a + b - a) (drop a xs)) ≡ b
part_size xs a b within = length-take (a + b - a) (drop a xs) ∙ omega (arith, length-drop a xs, within)

-- the block of one channel more
pub blocks_more : (start mid : EngineState) (rounds c k : ℕ) (xs part : List ℤ) → SamePiece start mid → length part ≡ start.heap.block → c * start.heap.block + start.heap.block ≤ length xs
    → BlocksSoFar start rounds c xs → IsBlock mid rounds c part → BlocksSoFar start rounds (c + 1) (put_mid (c * start.heap.block) k xs part)
blocks_more start mid rounds c k xs part same size within so_far next d n before less = of (cases_lt d c)
  where
    b : ℕ
    b = start.heap.block

    heard_same : heard_at mid c (rounds * mid.heap.block + n) ≡ heard_at start c (rounds * start.heap.block + n)
    heard_same = λ i. value_at (slice_index_or (channels (same.code i) (same.rate i)) c (silence (same.rate i))) (rounds * same.block i + n)

    of : (d < c) ⊎ (c ≤ d) → slice_index_or (put_mid (c * b) k xs part) (d * b + n) (pos 0) ≡ heard_at start d (rounds * b + n)
    of (inl early) =
        put_before xs part (c * b) k (d * b + n) (omega (arith, size, within)) (omega (arith, less, one_more d b, fewer_blocks (suc d) c b early))
        ∙ so_far d n early less
    of (inr late) =
        let is : d ≡ c = omega (arith, late, before) in
        ap (λ e. slice_index_or (put_mid (c * b) k xs part) (e * b + n) (pos 0)) is
        ∙ put_in xs part (c * b) k n (omega (arith, size, within)) (omega (arith, size, less))
        ∙ next n (omega (arith, less, same.block))
        ∙ heard_same
        ∙ ap (λ e. heard_at start e (rounds * b + n)) (sym is)

-- behind its last channel a round is whole
pub under_next : (rounds c : ℕ) (e : EngineState) → length e.channels ≤ c → IsUnderway rounds c e → IsUnderway (rounds + 1) 0 e
under_next rounds c e past under = record {
  count = under.count;
  pulls =
      under.pulls
      ∙ parted_all (pulls_in e.heap.block (rounds + 1)) (pulls_in e.heap.block rounds) c (channels e.code e.rate) (omega (arith, past, under.count))
      ∙ sym (parted_none (pulls_in e.heap.block (rounds + 1 + 1)) (pulls_in e.heap.block (rounds + 1)) (channels e.code e.rate));
  unspent = under.unspent;
  laws = under.laws;
  follows = under.follows;
}

-- a round begins with channel 0
pub turns_first : (n : ℕ) (e : EngineState) → IsAtRound (suc n) e → IsAtTurn 0 n e
turns_first n e at =
    let whole : length (channels e.code e.rate) ≡ length (channels e.code e.rate) - 0 = omega arith in
    subst (λ k. IsInOrder (upwards e.code e.rate) (range_with_len 0 k) n e) whole (turns_again (upwards e.code e.rate) n e at)

-- and ends behind its last
pub turns_last : (c n : ℕ) (e : EngineState) → length (channels e.code e.rate) ≤ c → IsAtTurn c n e → IsAtRound n e
turns_last c n e past at =
    let none : length (channels e.code e.rate) - c ≡ 0 = omega (arith, past) in
    subst (λ k. IsInOrder (upwards e.code e.rate) (range_with_len c k) n e) none at

-- pieces of the same engine have the same frames
same_frames : (start mid : EngineState) → SamePiece start mid → frames_at mid ≡ frames_at start
same_frames start mid same = λ i. frames (channels (same.code i) (same.rate i))

-- the bytes of one round more
round_next : (start mid : EngineState) (rounds : ℕ) → SamePiece start mid → bytes_after start rounds ++ bytes_of_round mid rounds ≡ bytes_after start (rounds + 1)
round_next start mid rounds same =
    let b : ℕ = start.heap.block in
    let fs : List (List ℤ) = frames_at start in
    ap (λ (bytes : List ℕ). bytes_after start rounds ++ bytes) (λ i. flat_map frame_of (take (same.block i) (drop (rounds * same.block i) (same_frames start mid same i))))
    ∙ sym (flat_map-append frame_of (take (rounds * b) fs) (take b (drop (rounds * b) fs)))
    ∙ ap (flat_map frame_of) (sym (take-add (rounds * b) b fs))
    ∙ ap (λ n. flat_map frame_of (take n fs)) (sym (next_multiple rounds b))

pub round_wrote : (start mid : EngineState) (rounds : ℕ) (b c : Buffers) (old now later : HostState) → SamePiece start mid → Gathered (bytes_after start rounds) b old now
    → Gathered (gathered_in b ++ bytes_of_round mid rounds) c now later → Gathered (bytes_after start (rounds + 1)) c old later
round_wrote start mid rounds b c old now later same before more =
    subst (λ (bytes : List ℕ). Gathered bytes c old later) (round_next start mid rounds same)
    (gathered_then (bytes_after start rounds) (bytes_of_round mid rounds) b c old now later before more)

-- some of the bytes of so many rounds are some of all
after_part : (start : EngineState) (rounds : ℕ) (old new : HostState) → WrotePart (bytes_after start rounds) old new → WrotePart (all_bytes start) old new
after_part start rounds old new part =
    subst (λ (bytes : List ℕ). WrotePart bytes old new) (frames_split (rounds * start.heap.block) (frames_at start))
    (part_first (bytes_after start rounds) (flat_map frame_of (drop (rounds * start.heap.block) (frames_at start))) old new part)

pub round_part : (start mid : EngineState) (rounds : ℕ) (b : Buffers) (old now later : HostState) → SamePiece start mid → Gathered (bytes_after start rounds) b old now
    → WrotePart (gathered_in b ++ bytes_of_round mid rounds) now later → WrotePart (all_bytes start) old later
round_part start mid rounds b old now later same before part =
    after_part start (rounds + 1) old later
    (subst (λ (bytes : List ℕ). WrotePart bytes old later) (round_next start mid rounds same)
    (gathered_part (bytes_after start rounds) (bytes_of_round mid rounds) b old now later before part))

-- the same where the last write failed
pub last_part : (start : EngineState) (rounds : ℕ) (b : Buffers) (old now later : HostState) → Gathered (bytes_after start rounds) b old now
    → WrotePart (gathered_in b) now later → WrotePart (all_bytes start) old later
last_part start rounds b old now later before part =
    after_part start rounds old later
    (subst (λ (bytes : List ℕ). WrotePart bytes old later) (append-nil (bytes_after start rounds))
    (gathered_part (bytes_after start rounds) [] b old now later before (part_first (gathered_in b) [] now later part)))

-- a fault of a round is one of the engine that the rounds began with
pub fault_from : (start mid e : EngineState) (rounds : ℕ) (fault : RoundFault) → SamePiece start mid → IsPullFault mid e rounds fault → IsPullFault start e rounds fault
fault_from start mid e rounds Write same never = never
fault_from start mid e rounds (PoolFull pulls) same (count, spent) = (
  count,
  record {
    same = same_then start mid e same spent.same;
    at = spent.at;
    pulls = spent.pulls;
    spent = spent.spent ∙ ap (λ pool. Some (faults.PoolFull (sum e.pulled) pool)) same.pool;
    stopped = spent.stopped;
    first = sym (λ i. first_full (same.block i) (plan (same.code i) (same.rate i)) (same.pool i) (order_of (same.block i) (same.code i) (same.rate i))) ∙ spent.first;
  },
)
fault_from start mid e rounds OutOfMemory same short =
    record { same = same_then start mid e same short.same; at = short.at; pulls = short.pulls; short = short.short }

pub ends_rounds : (start mid e : EngineState) (rounds : ℕ) (b : Buffers) (old now later : HostState) (fault : RoundFault) → SamePiece start mid → NoneFell old now → SameCounts old now
    → Gathered (bytes_after start rounds) b old now → IsRoundFault mid e rounds b now later fault → EndsRounds start e old later fault
ends_rounds start mid e rounds b old now later Write same counts quiet before rose = rose_from old.writes now.writes later.writes counts.writes rose
ends_rounds start mid e rounds b old now later (PoolFull n) same counts quiet before (ended, rest, still) =
    (rounds, fault_from start mid e rounds (PoolFull n) same ended, gathered_whole (bytes_after start rounds) b old now later before rest, quiet_then old now later quiet still)
ends_rounds start mid e rounds b old now later OutOfMemory same counts quiet before (ended, rest, still) =
    (rounds, fault_from start mid e rounds OutOfMemory same ended, gathered_whole (bytes_after start rounds) b old now later before rest, quiet_then old now later quiet still)

-- a pull's fault, once what was gathered is written
pub round_ends : (start e : EngineState) (rounds : ℕ) (b : Buffers) (old new : HostState) (fault : RoundFault) → Wrote (gathered_in b) old new → SameCounts old new
    → IsPullFault start e rounds fault → IsRoundFault start e rounds b old new fault
round_ends start e rounds b old new Write wrote quiet never = absurd never
round_ends start e rounds b old new (PoolFull n) wrote quiet ended = (ended, wrote, quiet)
round_ends start e rounds b old new OutOfMemory wrote quiet ended = (ended, wrote, quiet)

-- ---- the last round

-- no channel has more samples than the longest
pub most_samples : (cs : List sounds.Sound) (c : ℕ) (d : sounds.Sound) → length d.samples ≡ 0 → length (slice_index_or cs c d).samples ≤ longest cs
most_samples [] c d none = omega (arith, none, ap (λ (s : sounds.Sound). length s.samples) (get_or_past [] c d (omega arith)))
most_samples (s ∷ ss) zero d none = omega arith
most_samples (s ∷ ss) (suc c) d none = omega (arith, most_samples ss c d none)

-- nor has the longest more than each has
pub least_bound : (cs : List sounds.Sound) (most : ℕ) (d : sounds.Sound) → ((c : ℕ) → length (slice_index_or cs c d).samples ≤ most) → longest cs ≤ most
least_bound [] most d each = omega arith
least_bound (s ∷ ss) most d each = omega (arith, each 0, least_bound ss most d (λ c. each (suc c)))

-- how many rounds there are
abbrev pub rounds_of : EngineState → ℕ
rounds_of e = div_ceil (longest (channels e.code e.rate)) e.heap.block

pub pulled_out : (start e : EngineState) (rounds : ℕ) → SamePiece start e → IsUnderway rounds 0 e → IsAtRound 0 e → longest (channels start.code start.rate) ≤ rounds * start.heap.block → IsPulledOut start e
pulled_out start e rounds same under at over = record {
  same = same;
  pulls =
      under.pulls
      ∙ (λ i. map (pulls_in (same.block i) rounds) (channels (same.code i) (same.rate i)))
      ∙ same_counts (pulls_in b rounds) (pulls_of b) cs (silence start.rate) (λ c within. all (slice_index_or cs c (silence start.rate)) (within_all c));
  ended = λ c within. omega (arith, enough c within, ap length (same_channel start e c same));
  unspent = under.unspent;
  order = subst (λ order. HasPulled order e) (λ i. order_of (same.block i) (same.code i) (same.rate i)) (turns_end (upwards e.code e.rate) e at);
}
  where
    cs : List sounds.Sound
    cs = channels start.code start.rate

    b : ℕ
    b = start.heap.block

    positive : 0 < b
    positive = omega (arith, under.laws.positive, same.block)

    within_all : (c : ℕ) → length (channel_at start c) ≤ rounds * b
    within_all c = omega (arith, over, most_samples cs c (silence start.rate) (no_samples start.rate))

    most_pulls : (len : ℕ) → len ≤ rounds * b → div_ceil len b ≤ rounds
    most_pulls len le = of (cases_lt rounds (div_ceil len b))
      where
        of : (rounds < div_ceil len b) ⊎ (div_ceil len b ≤ rounds) → div_ceil len b ≤ rounds
        of (inl less) = absurd (omega (arith, le, some_left rounds len b positive less))
        of (inr past) = past

    all : (s : sounds.Sound) → length s.samples ≤ rounds * b → pulls_in b rounds s ≡ pulls_of b s
    all s le = omega (arith, most_pulls (length s.samples) le)

    enough : (c : ℕ) → c < length e.channels → length (channel_at start c) ≤ passed_of e c
    enough c within =
        let count : length (channels e.code e.rate) ≡ length cs = λ i. length (channels (same.code i) (same.rate i)) in
        let within_start : c < length cs = omega (arith, within, under.count, count) in
        let at : slice_index e.pulled c ≡ pulls_of b (slice_index_or cs c (silence start.rate)) =
        ap (λ xs. slice_index xs c) (under.pulls ∙ (λ i. map (pulls_in (same.block i) rounds) (channels (same.code i) (same.rate i))))
        ∙ map_at (pulls_in b rounds) cs c (silence start.rate) within_start
        ∙ all (slice_index_or cs c (silence start.rate)) (within_all c) in
        let passed : passed_of e c ≡ pulls_of b (slice_index_or cs c (silence start.rate)) * b = λ i. at i * same.block i in
        omega (arith, none_left (pulls_of b (slice_index_or cs c (silence start.rate))) (length (channel_at start c)) b positive (omega arith), passed)

-- ---- the loop

-- before the first round all of them are still to come
pub order_begins : (e : EngineState) → IsUnderway 0 0 e → HasPulled [] e → IsAtRound (rounds_of e) e
order_begins e under none = subst (λ n. IsAtRound n e) many (turns_begin (upwards e.code e.rate) e none)
  where
    counted : length e.pulled ≡ length (channels e.code e.rate)
    counted = ap length under.pulls ∙ parted_count (pulls_in e.heap.block (0 + 1)) (pulls_in e.heap.block 0) 0 (channels e.code e.rate)

    most : ℕ
    most = fold max 0 (channel_blocks e.heap.block (plan e.code e.rate))

    few : most ≤ rounds_of e
    few = rounds_within e under.follows counted under.laws.positive (rounds_of e) (none_left (rounds_of e) (longest (channels e.code e.rate)) e.heap.block under.laws.positive (omega arith))

    many : most ≡ rounds_of e
    many = of (cases_lt most (rounds_of e))
      where
        of : (most < rounds_of e) ⊎ (rounds_of e ≤ most) → most ≡ rounds_of e
        of (inl less) =
            absurd (omega (arith, some_left most (longest (channels e.code e.rate)) e.heap.block under.laws.positive less, rounds_reach e under.follows counted under.laws.positive most (omega arith)))
        of (inr le) = omega (arith, few, le)

-- one of them is made
pub order_on : (most n : ℕ) (e : EngineState) → n < most → IsAtRound (most - n) e → IsAtRound (suc (most - (n + 1))) e
order_on most n e less at =
    let is : most - n ≡ suc (most - (n + 1)) = omega (arith, less) in
    subst (λ k. IsAtRound k e) is at

-- between two rounds
pub record RoundsSoFar (start e : EngineState) (rounds : ℕ) (b : Buffers) (old now : HostState) (file : ℕ) : Type 0 where
  pub same : SamePiece start e
  pub under : IsUnderway rounds 0 e
  pub counts : NoneFell old now
  pub quiet : SameCounts old now
  pub output : now.output ≡ Some file
  pub files : now.files ≡ old.files
  pub printed : now.printed ≡ old.printed
  pub wrote : Gathered (bytes_after start rounds) b old now

counts_none : (old : HostState) → NoneFell old old
counts_none old = record { opens = λ name. omega arith; reads = λ name. omega arith; creates = λ name. omega arith; writes = omega arith }

counts_then : (old mid new : HostState) → NoneFell old mid → NoneFell mid new → NoneFell old new
counts_then old mid new first second = record {
  opens = λ name. omega (arith, first.opens name, second.opens name);
  reads = λ name. omega (arith, first.reads name, second.reads name);
  creates = λ name. omega (arith, first.creates name, second.creates name);
  writes = omega (arith, first.writes, second.writes);
}

same_piece : (e : EngineState) → SamePiece e e
same_piece e = record { code = refl; rate = refl; channels = refl; pool = refl; block = refl }

-- before the first round nothing is written or gathered
nothing_yet : (e : EngineState) (b : Buffers) (old : HostState) → b.gathered ≡ 0 → Gathered (bytes_after e 0) b old old
nothing_yet e b old none = (
  [],
  sym (written-nothing old.created),
  (let no_blocks : 0 * e.heap.block ≡ 0 = omega arith in ap (λ n. flat_map frame_of (take n (frames_at e))) no_blocks)
      ∙ sym (ap (λ n. take n b.bytes.items) none),
)

pub rounds_begin : (e : EngineState) (b : Buffers) (old : HostState) (file : ℕ) → b.gathered ≡ 0 → IsUnderway 0 0 e → old.output ≡ Some file → RoundsSoFar e e 0 b old old file
rounds_begin e b old file none under output = record {
  same = same_piece e;
  under = under;
  counts = counts_none old;
  quiet = quiet_none old;
  output = output;
  files = refl;
  printed = refl;
  wrote = nothing_yet e b old none;
}

pub rounds_on : (start mid e : EngineState) (rounds : ℕ) (b c : Buffers) (old now later : HostState) (file : ℕ) → RoundsSoFar start mid rounds b old now file → SamePiece mid e → IsUnderway (rounds + 1) 0 e
    → Gathered (gathered_in b ++ bytes_of_round mid rounds) c now later → NoneFell now later → SameCounts now later → later.output ≡ now.output
    → later.files ≡ now.files → later.printed ≡ now.printed → RoundsSoFar start e (rounds + 1) c old later file
rounds_on start mid e rounds b c old now later file so same under wrote counts quiet output files printed = record {
  same = same_then start mid e so.same same;
  under = under;
  counts = counts_then old now later so.counts counts;
  quiet = quiet_then old now later so.quiet quiet;
  output = output ∙ so.output;
  files = files ∙ so.files;
  printed = printed ∙ so.printed;
  wrote = round_wrote start mid rounds b c old now later so.same so.wrote wrote;
}

-- all frames are written where the longest channel has no more samples than so many rounds give
pub wrote_all : (start : EngineState) (rounds : ℕ) (old new : HostState) → longest (channels start.code start.rate) ≤ rounds * start.heap.block
    → Wrote (bytes_after start rounds) old new → Wrote (all_bytes start) old new
wrote_all start rounds old new over before =
    before
    ∙ ap (λ (fs : List (List ℤ)). written (flat_map frame_of fs) old.created)
    (take_all (rounds * start.heap.block) (frames_at start) (omega (arith, over, frames_count (channels start.code start.rate))))

-- what holds at a fault that is passed on
pub on_err : {A E : Type 0} (r : Result A E) (P : Type 0) → P → OnErr r P
on_err (Ok x) P p = tt
on_err (Err e) P p = p

-- what holds of a result that is passed on
pub ok_on : {A E : Type 0} (r : Result A E) (P Q : Type 0) → (P → Q) → OnOk r P → OnOk r Q
ok_on (Ok x) P Q on p = on p
ok_on (Err e) P Q on p = tt

pub err_on : {A E : Type 0} (r : Result A E) (P Q : Type 0) → (P → Q) → OnErr r P → OnErr r Q
err_on (Ok x) P Q on p = tt
err_on (Err e) P Q on p = on p

pub if_err_on : {A E : Type 0} (r : Result A E) (P Q : E → Type 0) → ((e : E) → P e → Q e) → IfErr r P → IfErr r Q
if_err_on (Ok x) P Q on p = tt
if_err_on (Err e) P Q on p = on e p

-- what holds of a fault that is passed on as it is
pub err_passed : {A E : Type 0} (r : Result A E) (e : E) (P : E → Type 0) → IsErrAnd r (λ x. x ≡ e) → P e → IfErr r P
err_passed (Ok x) e P is p = tt
err_passed (Err x) e P is p = subst P (sym is) p
