-- Parts of a sequence, one after the other.
use Rattle.std.proofs.Common.{◌≡◌, ◌⊎◌, inl, inr, ℕ, zero, suc, ◌+◌, ◌-◌, ◌<◌, ◌≤◌, List, [], ◌∷◌, ◌++◌, length, map, Bool, true, false, nat_lt, refl, sym, ap, subst, ◌∙◌, arith}
use Rattle.std.proofs.lemmas.Bool.Decides.{nat_tests}
use Rattle.std.specs.List.{range_with_len}
use Rattle.std.proofs.lemmas.List.{append-nil, append_assoc, length-append, map-append}
use Rattle.std.proofs.lemmas.List.FromFn.{map-range_with_len_more}
use Rattle.ny_num.specs.Grid.{index_at}
use Rattle.ny_num.specs.Sound.{placed_timing, timing_of}
use Rattle.ny_num.specs.declared.rate.Rate.{Rate}
use Rattle.ny_num.specs.declared.timing.Timing.{Timing}
use Rattle.ny_warp.specs.declared.env.Env.{Env}
use Rattle.ny_resolve.specs.declared.term.NameId.{NameId}
use Rattle.ny_warp.specs.Environment.{from_stop}
use Rattle.ny_resolve.specs.declared.builtin.Order.{Order}
use Rattle.ny_check.specs.declared.node.Node.{Node}
use Rattle.ny_check.specs.declared.value.Value.{Value}
use Rattle.ny_check.specs.declared.value.Value.TheVariants.{Number, Sound as SoundOf}
use Rattle.ny_check.specs.Code.{Code, IsOrdered}
use Rattle.ny_check.specs.Meaning.{Bound, meaning}
use Rattle.ny_timing.specs.Timings.{Timed, timed, IsTimedName, AllTimed}
use Rattle.ny_heap.specs.declared.sound.Sound.{Sound}
use Rattle.ny_heap.specs.Heap.{Mix, HeapState}
use Rattle.ny_heap.specs.Reach.{HeapLaws}
use Rattle.ny_heap.specs.Sharing.{moved_to}
use Rattle.ny_heap.specs.Steps.{last_stop_of, waiting_of, sounds_of}
use Rattle.ny_hands.specs.declared.branch.Branch.{Branch}
use Rattle.ny_hands.specs.Calls.{MakesUnit, Brings}
use Rattle.ny_hands.specs.Frames.{Names, AllHeld}
use Rattle.ny_hands.specs.Hands.{Hand, InHand, GivesUp}
use Rattle.ny_hands.proofs.HandLemmas.{marks_append, begin_append, begin_first, begin_last, hand_none, hand_more}
use Rattle.ny_hands.proofs.PlaceLemmas.{placed_len, hand_placed}
use Rattle.ny_hands.proofs.SpendLemmas.{hand_brought}
use Rattle.ny_trace.specs.Evaluates.{Trace, Part, NextTurn, NextsTurn, WaitsTurn, SeqTurn, Evaluates, AreDue, times_in}
use Rattle.ny_trace.specs.Laws.{KeepsFree}
use Rattle.ny_eval.specs.Framed.{FrameState, names_in}
use Rattle.ny_laws.specs.Complete.{HasOperands, NodesAreWhole}
use Rattle.ny_eval.specs.declared.parts.Parts.{Parts}
use Rattle.ny_eval.specs.declared.parts.Parts.TheVariants.{Listed, Counted}
use Rattle.ny_eval.specs.Parts.{count_in, parts_in, part_at, AreBelow}
use Rattle.ny_eval.specs.Turns.{Follows, Gains, AreNext, Starts, AreEnough, NextAreDue, AreParts, RestTurn}
use Rattle.ny_eval.specs.Waiting.{parts_between, WaitAll}
use Rattle.ny_eval.proofs.PartLemmas.{parts_all, part_below, part_held}
use Rattle.ny_eval.proofs.EvalLemmas.{sound_hand}

-- ---- timings of names

timed_nothing : AllTimed []
timed_nothing k d within = absurd (omega (arith, within))

timed_first : (b : NameId × Value Timing) (bs : Timed) → IsTimedName b → AllTimed bs → AllTimed (b ∷ bs)
timed_first b bs is all zero d within = is
timed_first b bs is all (suc k) d within = all k d (omega (arith, within))

-- the sounds of held names are within the bounds
pub held_timed : {B : Type 0} (h : HeapState B) (names : Names) → AllHeld h names → AllTimed (times_in names)
held_timed h [] held = timed_nothing
held_timed h ((x, Number v) ∷ bs) held = timed_first (x, Number v) (times_in bs) tt (held_timed h bs held.1)
held_timed h ((x, SoundOf s) ∷ bs) held = timed_first (x, SoundOf s.timing) (times_in bs) held.0.1.0 (held_timed h bs held.1)

-- ---- a part in its place

placed_moved : (p : ℕ) (t : Timing) → moved_to (placed_timing p t).start (placed_timing p t).stop t ≡ placed_timing p t
unfolding placed_timing
placed_moved p t = refl

pub moved_as_placed : (p : ℕ) (t u : Timing) → u ≡ placed_timing p t → moved_to u.start u.stop t ≡ placed_timing p t
moved_as_placed p t u is = ap (λ (v : Timing). moved_to v.start v.stop t) is ∙ placed_moved p t

-- what came into hand with a part that follows
pub follows_hand : (r : Rate) (stop : ℕ) (old mid new : HeapState Branch) (a s : Sound) (others : List Sound) → HeapLaws old → Hand old mid (a ∷ others) → Follows r stop a mid new s → Hand old new (s ∷ others)
follows_hand r stop old mid new a s others laws hand step =
    hand_placed old step.mid new (placed_timing (index_at stop r)) step.brought s others (placed_len (index_at stop r)) laws (hand_brought old mid step.mid r a step.brought others laws hand step.brings) step.places

-- what came into hand with a part
pub part_hand : (code : Code) → IsOrdered code → KeepsFree code → (n : ℕ) (env : Env) (names : Names) (parts : Parts) (k : ℕ) (old new : HeapState Branch) (s : Sound) → n < length code.nodes → k < count_in parts → AreBelow n parts → HeapLaws old → AllHeld old names → Evaluates code n (part_at names parts k).0.0 env (part_at names parts k).1 old new s → Hand old new (s ∷ [])
part_hand code ordered free n env names parts k old new s inside within below laws held turn =
    sound_hand code ordered free n (part_at names parts k).0.0 env (part_at names parts k).1 old new s (omega (arith, inside, part_below n names parts k within below)) laws (part_held old names parts k held) turn

-- the part that follows one with this stop
pub next_turn : (code : Code) (n : ℕ) (env late : Env) (stop : ℕ) (p : Part) (old mid new : HeapState Branch) (a s : Sound) → late ≡ from_stop env stop → Evaluates code n p.0.0 late p.1 old mid a → Follows env.sound_rate stop a mid new s → NextTurn (Evaluates code n) env stop p old new s
next_turn code n env late stop p old mid new a s same evaluates step = record {
  part = a;
  brought = step.brought;
  mid = mid;
  end = step.mid;
  evaluates = subst (λ (q : Env). Evaluates code n p.0.0 q p.1 old mid a) same evaluates;
  brings = step.brings;
  places = step.places;
}

-- ---- one part after another

stops_append : (stop : ℕ) (ss ts : List Sound) → last_stop_of stop (ss ++ ts) ≡ last_stop_of (last_stop_of stop ss) ts
stops_append stop [] ts = refl
stops_append stop (s ∷ ss) ts = stops_append s.timing.stop ss ts

nexts_then : (D : Trace) (env : Env) (stop : ℕ) (ps : List Part) (old mid new : HeapState Branch) (ss : List Sound) (p : Part) (s : Sound) → NextsTurn D env stop ps old mid ss → NextTurn D env (last_stop_of stop ss) p mid new s → NextsTurn D env stop (ps ++ p ∷ []) old new (ss ++ s ∷ [])
nexts_then D env stop [] old mid new [] p s first second = (new, subst (λ (h : HeapState Branch). NextTurn D env stop p h new s) (sym first) second, refl)
nexts_then D env stop [] old mid new (t ∷ ss) p s first second = absurd first
nexts_then D env stop (q ∷ ps) old mid new [] p s first second = absurd first
nexts_then D env stop (q ∷ ps) old mid new (t ∷ ss) p s first second = (first.0, first.1, nexts_then D env t.timing.stop ps first.0 mid new ss p s first.2 second)

pub next_none : (code : Code) (n : ℕ) (env : Env) (names : Names) (parts : Parts) (before : List Sound) (h : HeapState Branch) → HeapLaws h → AreNext code n env names parts before h h before
next_none code n env names parts before h laws = record { gains = record { others = []; all = sym (append-nil before); hand = hand_none h laws }; turn = refl }

pub next_more : (code : Code) (n : ℕ) (env : Env) (names : Names) (parts : Parts) (before : List Sound) (k : ℕ) (old mid new : HeapState Branch) (ss more : List Sound) (s : Sound) → k ≡ length ss → AreNext code n env names parts before old mid ss → NextTurn (Evaluates code n) env (last_stop_of 0 ss) (part_at names parts k) mid new s → Hand mid new (s ∷ []) → more ≡ ss ++ s ∷ [] → AreNext code n env names parts before old new more
next_more code n env names parts before k old mid new ss more s count p step hand list = record {
  gains = record {
    others = others ++ s ∷ [];
    all = list ∙ (ap (λ (xs : List Sound). xs ++ s ∷ []) p.gains.all ∙ append_assoc before others (s ∷ []));
    hand = hand_more old mid new others (s ∷ []) p.gains.hand hand;
  };
  turn = subst (λ (ps : List Part). NextsTurn (Evaluates code n) env (last_stop_of 0 before) ps old new (others ++ s ∷ [])) parts_are
      (nexts_then (Evaluates code n) env (last_stop_of 0 before) (parts_between names parts (length before) (length others)) old mid new others (part_at names parts k) s p.turn
      (subst (λ m. NextTurn (Evaluates code n) env m (part_at names parts k) mid new s) (ap (last_stop_of 0) p.gains.all ∙ stops_append 0 before others) step));
}
  where
    others : List Sound
    others = p.gains.others

    place : length before + length others ≡ k
    place = omega (arith, count, ap length p.gains.all, length-append before others)

    one_more : length (others ++ s ∷ []) ≡ length others + 1
    one_more = omega (arith, length-append others (s ∷ []))

    parts_are : parts_between names parts (length before) (length others) ++ part_at names parts k ∷ [] ≡ parts_between names parts (length before) (length (others ++ s ∷ []))
    parts_are = sym (ap (parts_between names parts (length before)) one_more ∙ map-range_with_len_more (part_at names parts) (length before) (length others) k place)

-- a part that was refused leaves those before it
pub next_refused : (before : List Sound) (old mid new : HeapState Branch) (ss : List Sound) → Gains before old mid ss → Hand mid new [] → Gains before old new ss
next_refused before old mid new ss p refused = record {
  others = p.others;
  all = p.all;
  hand = subst (λ (xs : List Sound). Hand old new xs) (append-nil p.others) (hand_more old mid new p.others [] p.hand refused);
}

-- ---- the whole step

range_split : (a m l : ℕ) → range_with_len a (m + l) ≡ range_with_len a m ++ range_with_len (a + m) l
range_split a zero l =
    let from : a ≡ a + 0 = omega arith in
    let count : 0 + l ≡ l = omega arith in
    λ i. range_with_len (from i) (count i)
range_split a (suc m) l =
    let count : suc m + l ≡ suc (m + l) = omega arith in
    let from : a + 1 + m ≡ a + suc m = omega arith in
    ap (range_with_len a) count ∙ ap (λ (ns : List ℕ). a ∷ ns) (range_split (a + 1) m l ∙ ap (λ b. range_with_len (a + 1) m ++ range_with_len b l) from)

-- the first part, m parts behind it, and l more
pub parts_split : (names : Names) (parts : Parts) (m l k : ℕ) → count_in parts ≡ suc (m + l) → 1 + m ≡ k → parts_in names parts ≡ part_at names parts 0 ∷ (parts_between names parts 1 m ++ parts_between names parts k l)
parts_split names parts m l k count place =
    sym (parts_all names parts (suc (m + l)) (sym count))
    ∙ ap (λ (ps : List Part). part_at names parts 0 ∷ ps)
    (ap (map (part_at names parts)) (range_split 1 m l)
    ∙ (map-append (part_at names parts) (range_with_len 1 m) (range_with_len (1 + m) l)
    ∙ ap (λ b. parts_between names parts 1 m ++ parts_between names parts b l) place))

none_waits : (code : Code) (env : Env) (ps : List Part) (old new : HeapState Branch) (qs : List (Branch × List Sound)) → ps ≡ [] → WaitsTurn code env ps old new qs → qs ≡ []
none_waits code env ps old new [] none step = refl
none_waits code env ps old new (q ∷ qs) none step = absurd (subst (λ (xs : List Part). WaitsTurn code env xs old new (q ∷ qs)) none step)

pub seq_turn : (code : Code) (n e : ℕ) (env : Env) (names : Names) (parts : Parts) (t : Timing) (old mid new : HeapState Branch) (ss : List Sound) (s : Sound) → ((bound : Bound) → timed bound ≡ times_in names → t ≡ timing_of (meaning code e env bound)) → length ss ≤ count_in parts → Starts code n env names parts old mid ss → AreEnough t mid.block (count_in parts) ss → NextAreDue t mid.block ss → RestTurn code env (parts_between names parts (length ss) (count_in parts - length ss)) t ss mid new s → SeqTurn (Evaluates code n) code e (parts_in names parts) env names old new s
seq_turn code n e env names parts t old mid new ss s when few starts enough due rest = record {
  first = part_at names parts 0;
  now = parts_between names parts 1 (length others);
  later = parts_between names parts (length ss) (count_in parts - length ss);
  all = parts_split names parts (length others) (count_in parts - length ss) (length ss) (omega (arith, size, few)) (omega (arith, size));
  part = starts.part;
  brought = starts.brought;
  others = others;
  waiting = rest.waiting;
  t = t;
  one = starts.one;
  two = starts.two;
  three = mid;
  four = rest.mid;
  evaluates = starts.evaluates;
  brings = starts.brings;
  nexts = starts.next.turn;
  waits = rest.waits.turn;
  when = when;
  due = subst (λ b. AreDue (t.start + b) t.rate starts.brought.timing.stop others) (sym rest.waits.hand.counts.block) (subst (λ (xs : List Sound). NextAreDue t mid.block xs) list due);
  not_due = by_enough enough;
  made = subst (λ (xs : List Sound). MakesUnit rest.mid new Mix t xs (map waiting_of rest.waiting) (xs ++ sounds_of rest.waiting) s) list rest.made;
}
  where
    others : List Sound
    others = starts.next.gains.others

    list : ss ≡ starts.brought ∷ others
    list = starts.next.gains.all

    size : length ss ≡ suc (length others)
    size = ap length list

    by_enough : AreEnough t mid.block (count_in parts) ss → (rest.waiting ≡ []) ⊎ (t.start + rest.mid.block ≤ index_at (last_stop_of 0 (starts.brought ∷ others)) t.rate)
    by_enough (inl full) =
        let none : count_in parts - length ss ≡ 0 = omega (arith, full) in
        inl (none_waits code env (parts_between names parts (length ss) (count_in parts - length ss)) mid rest.mid rest.waiting (ap (λ l. parts_between names parts (length ss) l) none) rest.waits.turn)
    by_enough (inr late) =
        inr (subst (λ (xs : List Sound). t.start + rest.mid.block ≤ index_at (last_stop_of 0 xs) t.rate) list (subst (λ b. t.start + b ≤ index_at (last_stop_of 0 ss) t.rate) (sym rest.waits.hand.counts.block) late))

-- ---- what waits, in hand beside what there is

more_hand : {B : Type 0} (before old new : HeapState B) (ss others ks : List Sound) → Hand before old (ss ++ others) → Hand old new ks → Hand before new ((ss ++ ks) ++ others)
more_hand before old new ss others ks hand more =
    let all = hand_more before old new (ss ++ others) ks hand more in
    record {
      laws = all.laws;
      counts = all.counts;
      kept = all.kept;
      marks = λ v j. omega (arith, all.marks v j, marks_append (ss ++ others) ks v j, marks_append ss others v j, marks_append (ss ++ ks) others v j, marks_append ss ks v j);
      begin = begin_append new (ss ++ ks) others
          (begin_append new ss ks (begin_first new ss others (begin_first new (ss ++ others) ks all.begin)) (begin_last new (ss ++ others) ks all.begin))
          (begin_last new ss others (begin_first new (ss ++ others) ks all.begin));
    }

pub more_in_hand : {B : Type 0} (old new : HeapState B) (ss ks : List Sound) → InHand old ss → Hand old new ks → InHand new (ss ++ ks)
more_in_hand old new ss ks is more = record { before = is.before; others = is.others; laws = is.laws; hand = more_hand is.before old new ss is.others ks is.hand more }

pub more_given_up : {B : Type 0} (old mid new : HeapState B) (ss ks : List Sound) → Hand old mid ks → GivesUp mid new (ss ++ ks) → GivesUp old new ss
more_given_up old mid new ss ks more gives before others laws hand = gives before others laws (more_hand before old mid ss others ks hand more)

pub none_more_given_up : {B : Type 0} (old mid new : HeapState B) (ss items : List Sound) → items ≡ ss → Hand old mid [] → GivesUp mid new items → GivesUp old new ss
none_more_given_up old mid new ss items same refused gives =
    more_given_up old mid new ss [] refused (subst (λ (xs : List Sound). GivesUp mid new xs) (same ∙ sym (append-nil ss)) gives)

pub none_more_in_hand : {B : Type 0} (old new : HeapState B) (ss items : List Sound) → items ≡ ss → InHand old ss → Hand old new [] → InHand new items
none_more_in_hand old new ss items same is refused = subst (λ (xs : List Sound). InHand new xs) (append-nil ss ∙ sym same) (more_in_hand old new ss [] is refused)

pub rest_turn : (code : Code) (env : Env) (names : Names) (parts : Parts) (from : ℕ) (t : Timing) (ss : List Sound) (old mid new : HeapState Branch) (qs : List (Branch × List Sound)) (s : Sound) → from ≡ length ss → WaitAll code env (parts_between names parts from (count_in parts - from)) old mid qs → MakesUnit mid new Mix t ss (map waiting_of qs) (ss ++ sounds_of qs) s → RestTurn code env (parts_between names parts (length ss) (count_in parts - length ss)) t ss old new s
rest_turn code env names parts from t ss old mid new qs s place waits made = record {
  waiting = qs;
  mid = mid;
  waits = subst (λ n. WaitAll code env (parts_between names parts n (count_in parts - n)) old mid qs) place waits;
  made = made;
}

-- ---- parts that are due

pub next_at : (code : Code) (n : ℕ) (env : Env) (f g : FrameState) (parts : Parts) (before : List Sound) (k last : ℕ) (old mid new : HeapState Branch) (ss more : List Sound) (s : Sound) → g ≡ f → last ≡ last_stop_of 0 ss → k ≡ length ss → AreNext code n env (names_in f) parts before old mid ss → NextTurn (Evaluates code n) env last (part_at (names_in g) parts k) mid new s → Hand mid new (s ∷ []) → more ≡ ss ++ s ∷ [] → AreNext code n env (names_in f) parts before old new more
next_at code n env f g parts before k last old mid new ss more s same stop count p step hand list =
    next_more code n env (names_in f) parts before k old mid new ss more s count p
    (subst (λ (r : FrameState). NextTurn (Evaluates code n) env (last_stop_of 0 ss) (part_at (names_in r) parts k) mid new s) same
    (subst (λ m. NextTurn (Evaluates code n) env m (part_at (names_in g) parts k) mid new s) stop step))
    hand list

pub last_behind : (ss more : List Sound) (s : Sound) → more ≡ ss ++ s ∷ [] → s.timing.stop ≡ last_stop_of 0 more
last_behind ss more s list = sym (ap (last_stop_of 0) list ∙ stops_append 0 ss (s ∷ []))

pub late_enough : (t : Timing) (block count last : ℕ) (b : Bool) (before : List Sound) (old new : HeapState Branch) (ss : List Sound) → b ≡ nat_lt (index_at last t.rate) (t.start + block) → b ≡ false → block ≡ old.block → last ≡ last_stop_of 0 ss → Gains before old new ss → AreEnough t new.block count ss
late_enough t block count last b before old new ss is fails same stop p =
    inr (subst (λ n. t.start + n ≤ index_at (last_stop_of 0 ss) t.rate) (same ∙ sym p.hand.counts.block)
    (subst (λ m. t.start + block ≤ index_at m t.rate) stop (late (index_at last t.rate) (t.start + block) (sym is ∙ fails))))
  where
    late : (x y : ℕ) → nat_lt x y ≡ false → y ≤ x
    late x y fails = grind (arith, nat_tests, fails)

-- one more that is due
due_then : (end : ℕ) (r : Rate) (stop : ℕ) (ss : List Sound) (s : Sound) → index_at (last_stop_of stop ss) r < end → AreDue end r stop ss → AreDue end r stop (ss ++ s ∷ [])
due_then end r stop [] s now due = (now, tt)
due_then end r stop (a ∷ ss) s now due = (due.0, due_then end r a.timing.stop ss s now due.1)

next_due : (t : Timing) (block : ℕ) (ss : List Sound) (s : Sound) → index_at (last_stop_of 0 ss) t.rate < t.start + block → NextAreDue t block ss → NextAreDue t block (ss ++ s ∷ [])
next_due t block [] s now due = tt
next_due t block (a ∷ ss) s now due = due_then (t.start + block) t.rate a.timing.stop ss s now due

pub due_more : (t : Timing) (block last : ℕ) (b : Bool) (ss more : List Sound) (s : Sound) → b ≡ nat_lt (index_at last t.rate) (t.start + block) → b ≡ true → last ≡ last_stop_of 0 ss → more ≡ ss ++ s ∷ [] → NextAreDue t block ss → NextAreDue t block more
due_more t block last b ss more s is holds same list due =
    subst (λ (xs : List Sound). NextAreDue t block xs) (sym list)
    (next_due t block ss s (subst (λ m. index_at m t.rate < t.start + block) same (early (index_at last t.rate) (t.start + block) (sym is ∙ holds))) due)
  where
    early : (x y : ℕ) → nat_lt x y ≡ true → x < y
    early x y holds = grind (arith, nat_tests, holds)

pub due_first : (t : Timing) (block : ℕ) (ss : List Sound) (s : Sound) → ss ≡ s ∷ [] → NextAreDue t block ss
due_first t block ss s list = subst (λ (xs : List Sound). NextAreDue t block xs) (sym list) tt

-- the same, where a list was given more room
pub gains_in : (before : List Sound) (old new : HeapState Branch) (ss items : List Sound) → items ≡ ss → Gains before old new ss → Gains before old new items
gains_in before old new ss items same p = subst (λ (xs : List Sound). Gains before old new xs) (sym same) p

pub gained_hand : (old mid new : HeapState Branch) (before ss : List Sound) → Hand old mid before → Gains before mid new ss → Hand old new ss
gained_hand old mid new before ss hand p = subst (λ (xs : List Sound). Hand old new xs) (sym p.all) (hand_more old mid new before p.others hand p.hand)

pub starts_with : (code : Code) (n : ℕ) (env copy : Env) (f g : FrameState) (parts : Parts) (old one two new : HeapState Branch) (a b : Sound) (before ss : List Sound) → copy ≡ env → g ≡ f → before ≡ b ∷ [] → Evaluates code n (part_at (names_in f) parts 0).0.0 copy (part_at (names_in f) parts 0).1 old one a → Brings one two env.sound_rate a b → AreNext code n env (names_in g) parts before two new ss → Starts code n env (names_in f) parts old new ss
starts_with code n env copy f g parts old one two new a b before ss same frame list evaluates brings next = record {
  part = a;
  brought = b;
  one = one;
  two = two;
  evaluates = subst (λ (q : Env). Evaluates code n (part_at (names_in f) parts 0).0.0 q (part_at (names_in f) parts 0).1 old one a) same evaluates;
  brings = brings;
  next = subst (λ (r : FrameState). AreNext code n env (names_in r) parts (b ∷ []) two new ss) frame
      (subst (λ (xs : List Sound). AreNext code n env (names_in g) parts xs two new ss) list next);
}

-- ---- a sequence has a part

pub some_parts : (code : Code) (e : ℕ) (o : Order) (parts : Parts) → NodesAreWhole code → e < length code.nodes → AreParts code e o parts → 0 < count_in parts
some_parts code e o (Listed es) whole inside is =
    let some = (whole e inside).1 in
    omega (arith, subst (λ (n : Node). HasOperands code some.0 n) is some.1)
some_parts code e o (Counted i count a) whole inside is =
    let some = (whole e inside).1 in
    omega (arith, (subst (λ (n : Node). HasOperands code some.0 n) is some.1).0)
