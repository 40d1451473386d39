-- The parts of a sequence that are evaluated lie within it.
use Rattle.std.proofs.Common.{◌≡◌, ℕ, zero, suc, ◌+◌, ◌-◌, ◌<◌, ◌≤◌, min, max, Bool, true, false, if◌then◌else◌, List, [], ◌∷◌, ◌++◌, map, length, All, refl, sym, ap, subst, ◌∙◌, arith}
use Rattle.ny_num.specs.Grid.{index_at}
use Rattle.ny_num.specs.Mix.{least_start, greatest_end, mix_timing}
use Rattle.ny_num.specs.Resampling.{is_same_rate, resampled_timing, other_rate_timing}
use Rattle.ny_num.specs.Sound.{IsTiming, placed_timing, spanning, timing_of}
use Rattle.ny_num.specs.declared.rate.Rate.{Rate}
use Rattle.ny_num.specs.declared.timing.Timing.{Timing}
use Rattle.ny_warp.specs.declared.env.Env.{Env}
use Rattle.ny_warp.specs.Environment.{from_stop}
use Rattle.ny_resolve.specs.declared.builtin.Order.TheVariants.{InTurn}
use Rattle.ny_check.specs.declared.node.Node.TheVariants as node
use Rattle.ny_check.specs.Code.{Code, IsBelow, IsOrdered}
use Rattle.ny_check.specs.Meaning.{Bound, meaning}
use Rattle.ny_timing.specs.Timings.{timed, timing_at, next_time, times_after, times_in_turn}
use Rattle.ny_heap.specs.declared.sound.Sound.{Sound}
use Rattle.ny_heap.specs.Heap.{HeapState}
use Rattle.ny_heap.specs.Steps.{IsMixOf, last_stop_of}
use Rattle.ny_hands.specs.declared.branch.Branch.{Branch}
use Rattle.ny_hands.specs.Frames.{Names}
use Rattle.ny_hands.proofs.RateLemmas.{same_rate}
use Rattle.ny_trace.specs.Evaluates.{Trace, Part, NextTurn, NextsTurn, Evaluates, times_in}
use Rattle.ny_eval.specs.declared.parts.Parts.{Parts}
use Rattle.ny_eval.specs.declared.parts.Parts.TheVariants.{Listed, Counted}
use Rattle.ny_eval.specs.Parts.{count_in, parts_in, part_at, AreBelow}
use Rattle.ny_eval.specs.Turns.{AreInTurn, Starts}
use Rattle.ny_eval.specs.Waiting.{parts_between}
use Rattle.ny_eval.proofs.MixingLemmas.{all_none, all_more, all_so, least_most, greatest_least}
use Rattle.ny_eval.proofs.PartLemmas.{part_below}
use Rattle.ny_eval.proofs.TimedLemmas.{IsTimed, time_of, whole_time, brings_time, parts_times, counted_times, equation, evaluates_timed}
use Rattle.ny_eval.proofs.TurnLemmas.{parts_split}

abbrev times_of : List Sound → List Timing
times_of ss = map (λ (s : Sound). s.timing) ss

-- when a sequence is heard, by its parts
pub seq_time : (code : Code) (e : ℕ) (env : Env) (names : Names) (parts : Parts) → IsOrdered code → e < length code.nodes → AreInTurn code e parts → timing_at code e env (times_in names) ≡ mix_timing env.sound_rate (times_in_turn env (map (time_of code) (parts_in names parts)))
seq_time code e env names (Listed es) ordered inside is =
    equation code e (node.Mix InTurn es.now) env names is (subst (λ n. IsBelow code.functions e n) is (ordered.each e inside))
    ∙ ap (λ ts. mix_timing env.sound_rate (times_in_turn env ts)) (parts_times code names es.now)
seq_time code e env names (Counted i count a) ordered inside is =
    equation code e (node.Repeat InTurn i count a) env names is (subst (λ n. IsBelow code.functions e n) is (ordered.each e inside))
    ∙ ap (λ ts. mix_timing env.sound_rate (times_in_turn env ts)) (counted_times code names i count a)

abbrev pub InTable : Code → List Part → Type 0
InTable code [] = Unit {0}
InTable code (p ∷ ps) = (p.0.0 < length code.nodes) × InTable code ps

at_rate : (r : Rate) (t : Timing) → (resampled_timing r t).rate ≡ r
unfolding resampled_timing other_rate_timing spanning
at_rate r t = by_same (is_same_rate t.rate r) refl
  where
    by_same : (b : Bool) → is_same_rate t.rate r ≡ b → (if b then t else other_rate_timing r t).rate ≡ r
    by_same true e = same_rate t.rate r e
    by_same false e = refl

placed_rate : (env : Env) (stop : ℕ) (t : Timing) → (placed_timing (index_at stop env.sound_rate) (resampled_timing env.sound_rate t)).rate ≡ env.sound_rate
unfolding placed_timing
placed_rate env stop t = at_rate env.sound_rate t

module _ (code : Code) (D : Trace) (law : IsTimed code D) where
  one_time : (env : Env) (stop : ℕ) (p : Part) (old new : HeapState Branch) (s : Sound) → p.0.0 < length code.nodes → NextTurn D env stop p old new s → s.timing ≡ next_time env stop (time_of code p)
  one_time env stop p old new s inside step =
      step.places.timing
      ∙ ap (placed_timing (index_at stop env.sound_rate))
      (brings_time step.mid step.end env.sound_rate step.part step.brought step.brings
      ∙ ap (resampled_timing env.sound_rate) (law p.0.0 (from_stop env stop) p.1 old step.mid step.part step.evaluates inside))

  -- those that are evaluated, and when those behind them are heard
  pub nexts_time : (env : Env) (stop : ℕ) (ps later : List Part) (old new : HeapState Branch) (ss : List Sound) → InTable code ps → NextsTurn D env stop ps old new ss → times_of ss ++ times_after env (last_stop_of stop ss) (map (time_of code) later) ≡ times_after env stop (map (time_of code) (ps ++ later))
  nexts_time env stop [] later old new [] inside step = refl
  nexts_time env stop [] later old new (s ∷ ss) inside step = absurd step
  nexts_time env stop (p ∷ ps) later old new [] inside step = absurd step
  nexts_time env stop (p ∷ ps) later old new (s ∷ ss) inside step =
      ap (λ rest. s.timing ∷ rest) (nexts_time env s.timing.stop ps later step.0 new ss inside.1 step.2)
      ∙ ap (λ (t : Timing). t ∷ times_after env t.stop (map (time_of code) (ps ++ later))) (one_time env stop p old step.0 s inside.0 step.1)

  nexts_rate : (env : Env) (stop : ℕ) (ps : List Part) (old new : HeapState Branch) (ss : List Sound) → InTable code ps → NextsTurn D env stop ps old new ss → All (λ s. s.timing.rate ≡ env.sound_rate) ss
  nexts_rate env stop [] old new [] inside step = all_none (λ (s : Sound). s.timing.rate ≡ env.sound_rate)
  nexts_rate env stop [] old new (s ∷ ss) inside step = absurd step
  nexts_rate env stop (p ∷ ps) old new [] inside step = absurd step
  nexts_rate env stop (p ∷ ps) old new (s ∷ ss) inside step =
      all_more (λ (s : Sound). s.timing.rate ≡ env.sound_rate) s ss (ap (λ (t : Timing). t.rate) (one_time env stop p old step.0 s inside.0 step.1) ∙ placed_rate env stop (time_of code p (from_stop env stop))) (nexts_rate env s.timing.stop ps step.0 new ss inside.1 step.2)

-- ---- some parts of a mix, of which others lie behind them

starts_before : (start : ℕ) (ss : List Sound) (rest : List Timing) → All (λ s. least_start start (times_of ss ++ rest) ≤ s.timing.start) ss
starts_before start [] rest = all_none (λ (s : Sound). least_start start rest ≤ s.timing.start)
starts_before start (s ∷ ss) rest =
    all_more (λ (x : Sound). least_start (min start s.timing.start) (times_of ss ++ rest) ≤ x.timing.start) s ss (omega (arith, least_most (min start s.timing.start) (times_of ss ++ rest))) (starts_before (min start s.timing.start) ss rest)

ends_before : (r : Rate) (end : ℕ) (ss : List Sound) (rest : List Timing) → All (λ s. s.timing.start + s.timing.len ≤ greatest_end r end (times_of ss ++ rest)) ss
ends_before r end [] rest = all_none (λ (s : Sound). s.timing.start + s.timing.len ≤ greatest_end r end rest)
ends_before r end (s ∷ ss) rest =
    let next = max end (max (s.timing.start + s.timing.len) (index_at s.timing.stop r)) in
    all_more (λ (x : Sound). x.timing.start + x.timing.len ≤ greatest_end r next (times_of ss ++ rest)) s ss (omega (arith, greatest_least r next (times_of ss ++ rest))) (ends_before r next ss rest)

pub mix_fits : (r : Rate) (a : Sound) (ss : List Sound) (rest : List Timing) → IsTiming (mix_timing r (a.timing ∷ (times_of ss ++ rest))) → All (λ s. s.timing.rate ≡ r) (a ∷ ss) → IsMixOf (a ∷ ss) (mix_timing r (a.timing ∷ (times_of ss ++ rest)))
unfolding mix_timing spanning
mix_fits r a ss rest bounds rates =
    let start = least_start a.timing.start (times_of ss ++ rest) in
    let end = greatest_end r 0 (a.timing ∷ (times_of ss ++ rest)) in
    record {
      some = omega arith;
      bounds = bounds;
      rates = rates;
      begins = all_more (λ (s : Sound). start ≤ s.timing.start) a ss (least_most a.timing.start (times_of ss ++ rest)) (starts_before a.timing.start ss rest);
      ends = all_so (λ (s : Sound). s.timing.start + s.timing.len ≤ end) (λ (s : Sound). s.timing.start + s.timing.len ≤ start + (end - start)) (a ∷ ss) (λ s le. omega (arith, le)) (ends_before r 0 (a ∷ ss) rest);
    }

-- the parts that are evaluated lie within the whole sequence
in_table : (n : ℕ) (code : Code) (names : Names) (parts : Parts) (m from : ℕ) → n ≤ length code.nodes → from + m ≤ count_in parts → AreBelow n parts → InTable code (parts_between names parts from m)
in_table n code names parts zero from low within below = tt
in_table n code names parts (suc m) from low within below =
    (omega (arith, low, part_below n names parts from (omega (arith, within)) below), in_table n code names parts m (from + 1) low (omega (arith, within)) below)

pub seq_fits : (code : Code) → IsOrdered code → (e : ℕ) (env : Env) (names : Names) (parts : Parts) (t : Timing) (old mid : HeapState Branch) (ss : List Sound) → e < length code.nodes → AreInTurn code e parts → AreBelow e parts → ((bound : Bound) → timed bound ≡ times_in names → t ≡ timing_of (meaning code e env bound)) → IsTiming t → length ss ≤ count_in parts → Starts code e env names parts old mid ss → IsMixOf ss t
seq_fits code ordered e env names parts t old mid ss inside node below when bounds few starts =
    subst (λ (xs : List Sound). IsMixOf xs t) (sym list)
    (subst (λ (u : Timing). IsMixOf (a ∷ others) u) (sym is)
    (mix_fits env.sound_rate a others rest (subst IsTiming is bounds)
    (all_more (λ (s : Sound). s.timing.rate ≡ env.sound_rate) a others (ap (λ (u : Timing). u.rate) (brings_time starts.one starts.two env.sound_rate starts.part a starts.brings) ∙ at_rate env.sound_rate starts.part.timing)
    (nexts_rate code (Evaluates code e) law env a.timing.stop nows starts.two mid others table starts.next.turn))))
  where
    a : Sound
    a = starts.brought

    others : List Sound
    others = starts.next.gains.others

    list : ss ≡ a ∷ others
    list = starts.next.gains.all

    size : length ss ≡ suc (length others)
    size = ap length list

    nows : List Part
    nows = parts_between names parts 1 (length others)

    later : List Part
    later = parts_between names parts (length ss) (count_in parts - length ss)

    law : IsTimed code (Evaluates code e)
    law = evaluates_timed code ordered e

    table : InTable code nows
    table = in_table e code names parts (length others) 1 (omega (arith, inside)) (omega (arith, size, few)) below

    rest : List Timing
    rest = times_after env (last_stop_of a.timing.stop others) (map (time_of code) later)

    first : a.timing ≡ resampled_timing env.sound_rate (time_of code (part_at names parts 0) env)
    first = brings_time starts.one starts.two env.sound_rate starts.part a starts.brings
        ∙ ap (resampled_timing env.sound_rate) (law (part_at names parts 0).0.0 env (part_at names parts 0).1 old starts.one starts.part starts.evaluates (omega (arith, inside, part_below e names parts 0 (omega (arith, size, few)) below)))

    is : t ≡ mix_timing env.sound_rate (a.timing ∷ (times_of others ++ rest))
    is = whole_time code e env names t when
        ∙ (seq_time code e env names parts ordered inside node
        ∙ ap (mix_timing env.sound_rate)
        (ap (λ (ps : List Part). times_in_turn env (map (time_of code) ps)) (parts_split names parts (length others) (count_in parts - length ss) (length ss) (omega (arith, size, few)) (omega (arith, size)))
        ∙ (ap (λ (u : Timing). u ∷ times_after env u.stop (map (time_of code) (nows ++ later))) (sym first)
        ∙ ap (λ (ts : List Timing). a.timing ∷ ts) (sym (nexts_time code (Evaluates code e) law env a.timing.stop nows later starts.two mid others table starts.next.turn)))))
