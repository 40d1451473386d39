-- The parts that wait of a sequence that is made end no later than it.
use Rattle.std.proofs.Common.{◌≡◌, ℕ, suc, ◌+◌, ◌-◌, ◌≤◌, max, Bool, true, false, cond, List, [], ◌∷◌, ◌++◌, map, reverse, length, get_or, Option, None, Some, refl, sym, ap, subst, ◌∙◌, arith}
use Rattle.std.specs.Map.{lookup}
use Rattle.std.specs.Option.{option_map}
use Rattle.std.proofs.lemmas.List.{append_assoc, length-append}
use Rattle.std.proofs.Math.Seq.{get_or-append_seam}
use Rattle.indexmap.proofs.ReorderLemmas.{map-reverse}
use Rattle.ny_num.specs.declared.rate.Rate.{Rate}
use Rattle.ny_num.specs.declared.timing.Timing.{Timing}
use Rattle.ny_num.specs.Grid.{index_at}
use Rattle.ny_num.specs.Sound.{timing_of, spanning, placed_timing}
use Rattle.ny_num.specs.Mix.{mix_timing, least_start, greatest_end}
use Rattle.ny_num.specs.Resampling.{resampled_timing}
use Rattle.ny_warp.specs.declared.env.Env.{Env}
use Rattle.ny_warp.specs.Environment.{from_stop}
use Rattle.ny_scope.specs.Scopes.{last_of}
use Rattle.ny_scope.proofs.Mapped.{with_value}
use Rattle.ny_resolve.specs.declared.term.NameId.{NameId}
use Rattle.ny_resolve.specs.Keys.{same_name}
use Rattle.ny_check.specs.declared.value.Value.{Value}
use Rattle.ny_check.specs.declared.value.Value.TheVariants.{Number, Sound as SoundOf}
use Rattle.ny_check.specs.Code.{Code}
use Rattle.ny_check.specs.Meaning.{Bound}
use Rattle.ny_timing.specs.Timings.{Timed, timed, timed_value, times_after, times_in_turn, brought_time, next_time, no_time, timing_at}
use Rattle.ny_timing.proofs.TimesOfSounds.{timing_of-meaning}
use Rattle.ny_heap.specs.declared.sound.Sound.{Sound}
use Rattle.ny_heap.specs.Heap.{HeapState}
use Rattle.ny_heap.specs.Steps.{captured_of, waiting_of, last_stop_of}
use Rattle.ny_hands.specs.declared.branch.Branch.{Branch}
use Rattle.ny_hands.specs.Frames.{Names}
use Rattle.ny_trace.specs.Evaluates.{Trace, Part, KeepTurn, KeepsTurn, WaitsTurn, NextsTurn, SeqTurn, times_in}
use Rattle.ny_trace.specs.Laws.{pick, picked}
use Rattle.ny_trace.proofs.WaitLemmas.{PartsKeepFree}
use Rattle.ny_walk.specs.Fits.{kept_times, times_of, part_time, part_times, EndBy, IsTold}
use Rattle.ny_walk.proofs.ToldLemmas.{brought_told, value_from, bound_from, value_timed, bound_timed, AreInside, inside_first, part_when, next_told, seq_time}

-- ---- ends

ends_more : (end more : ℕ) (ts : List Timing) → end ≤ more → EndBy end ts → EndBy more ts
ends_more end more [] le are = tt
ends_more end more (t ∷ ts) le are = (omega (arith, le, are.0), ends_more end more ts le are.1)

ends_last : (end : ℕ) (ts us : List Timing) → EndBy end (ts ++ us) → EndBy end us
ends_last end [] us are = are
ends_last end (t ∷ ts) us are = ends_last end ts us are.1

greatest_most : (r : Rate) (end : ℕ) (ts : List Timing) → end ≤ greatest_end r end ts
greatest_most r end [] = omega arith
greatest_most r end (t ∷ ts) = omega (arith, greatest_most r (max end (max (t.start + t.len) (index_at t.stop r))) ts)

ends_within : (r : Rate) (end : ℕ) (ts : List Timing) → EndBy (greatest_end r end ts) ts
ends_within r end [] = tt
ends_within r end (t ∷ ts) =
    let next = max end (max (t.start + t.len) (index_at t.stop r)) in
    (omega (arith, greatest_most r next ts), ends_within r next ts)

-- a mix ends no earlier than its parts
mix_ends : (r : Rate) (t : Timing) (ts : List Timing) → EndBy ((mix_timing r (t ∷ ts)).start + (mix_timing r (t ∷ ts)).len) (t ∷ ts)
unfolding mix_timing spanning
mix_ends r t ts =
    let start = least_start t.start ts in
    let end = greatest_end r 0 (t ∷ ts) in
    ends_more end (start + (end - start)) (t ∷ ts) (omega arith) (ends_within r 0 (t ∷ ts))

-- ---- what a part keeps

lookup_from : (is : NameId → Bool) (ps : Names) → lookup is (map (with_value value_from) ps) ≡ option_map value_from (lookup is ps)
lookup_from is [] = refl
lookup_from is (p ∷ ps) = by (is p.0) (lookup_from is ps)
  where
    by : (b : Bool) → lookup is (map (with_value value_from) ps) ≡ option_map value_from (lookup is ps) → cond b (Some (value_from p.1)) (lookup is (map (with_value value_from) ps)) ≡ option_map value_from (cond b (Some p.1) (lookup is ps))
    by true h = refl
    by false h = h

bound_is : (names : Names) → bound_from names ≡ map (with_value value_from) names
bound_is [] = refl
bound_is (b ∷ bs) = ap (λ (rest : Bound). (b.0, value_from b.1) ∷ rest) (bound_is bs)

last_from : (is : NameId → Bool) (names : Names) → last_of is (bound_from names) ≡ option_map value_from (last_of is names)
last_from is names =
    ap (last_of is) (bound_is names)
    ∙ (ap (λ (ps : Bound). lookup is ps) (sym (map-reverse (with_value value_from) names))
    ∙ lookup_from is (reverse names))

-- a branch keeps of its free names when their sounds are heard
kept_told : (r : Rate) (names : Names) (xs : List NameId) (k : ℕ) (old new : HeapState Branch) (kept : List (NameId × Value ℕ)) (ss : List Sound) (before : List Timing) → length before ≡ k → KeepsTurn names xs k old new kept ss → kept_times r (before ++ times_of (map captured_of ss)) kept ≡ timed (picked xs (bound_from names))
kept_told r names [] k old new kept ss before long step = ap (kept_times r (before ++ times_of (map captured_of ss))) step.0
kept_told r names (x ∷ xs) k old new kept ss before long step =
    by_found (λ k from kept ss before long step. kept_told r names xs k from new kept ss before long step) (last_of (same_name x) names) step
    ∙ ap (λ o. timed (pick o x (picked xs (bound_from names)))) (sym (last_from (same_name x) names))
  where
    by_found : ((k : ℕ) (from : HeapState Branch) (kept : List (NameId × Value ℕ)) (ss : List Sound) (before : List Timing) → length before ≡ k → KeepsTurn names xs k from new kept ss → kept_times r (before ++ times_of (map captured_of ss)) kept ≡ timed (picked xs (bound_from names))) → (o : Option (Value Sound)) → KeepTurn (KeepsTurn names xs) o x k old new kept ss → kept_times r (before ++ times_of (map captured_of ss)) kept ≡ timed (pick (option_map value_from o) x (picked xs (bound_from names)))
    by_found more None step = more k old kept ss before long step
    by_found more (Some (Number v)) step =
        ap (kept_times r (before ++ times_of (map captured_of ss))) step.2
        ∙ ap (λ (rest : Timed). (x, Number v) ∷ rest) (more k old step.0 ss before long step.1)
    by_found more (Some (SoundOf a)) step =
        (λ i. kept_times r (before ++ times_of (map captured_of (step.7 i))) (step.6 i))
        ∙ (λ i. (x, first i) ∷ rest i)
      where
        s : Sound
        s = step.1

        others : List Sound
        others = step.2

        first : SoundOf (get_or (before ++ s.timing ∷ times_of (map captured_of others)) k (no_time r)) ≡ timed_value (value_from (SoundOf a))
        first =
            ap (λ (t : Timing). SoundOf t)
            (ap (λ n. get_or (before ++ s.timing ∷ times_of (map captured_of others)) n (no_time r)) (sym long)
            ∙ (get_or-append_seam before s.timing (times_of (map captured_of others)) (no_time r) ∙ step.4.timing))
            ∙ sym (value_timed (SoundOf a))

        rest : kept_times r (before ++ s.timing ∷ times_of (map captured_of others)) step.0 ≡ timed (picked xs (bound_from names))
        rest =
            ap (λ ts. kept_times r ts step.0) (sym (append_assoc before (s.timing ∷ []) (times_of (map captured_of others))))
            ∙ more (suc k) step.3 step.0 others (before ++ s.timing ∷ []) (omega (arith, length-append before (s.timing ∷ []), long)) step.5

-- ---- the parts

free_last : (code : Code) (ps qs : List Part) → PartsKeepFree code (ps ++ qs) → PartsKeepFree code qs
free_last code [] qs free = free
free_last code (p ∷ ps) qs free = free_last code ps qs free.1

module _ (code : Code) where
  -- those that wait are heard when the meaning's parts are
  waits_told : (env : Env) (stop : ℕ) (ps : List Part) (old new : HeapState Branch) (qs : List (Branch × List Sound)) → PartsKeepFree code ps → WaitsTurn code env ps old new qs → part_times code stop (map waiting_of qs) ≡ times_after env stop (map (part_when code) ps)
  waits_told env stop [] old new [] free step = refl
  waits_told env stop [] old new (q ∷ qs) free step = absurd step
  waits_told env stop (p ∷ ps) old new [] free step = absurd step
  waits_told env stop (p ∷ ps) old new (q ∷ qs) free step =
      ap (λ (t : Timing). t ∷ part_times code t.stop (map waiting_of qs)) first
      ∙ ap (λ ts. next_time env stop (part_when code p) ∷ ts) (waits_told env (next_time env stop (part_when code p)).stop ps step.0 new qs free.1 step.4)
    where
      told : timing_at code p.0.0 (from_stop env stop) (kept_times env.sound_rate (times_of (map captured_of q.1)) q.0.names) ≡ timing_at code p.0.0 (from_stop env stop) (times_in p.1)
      told =
          ap (timing_at code p.0.0 (from_stop env stop)) (kept_told env.sound_rate p.1 (get_or code.free p.0.0 []) 0 old step.0 q.0.names q.1 [] refl step.3)
          ∙ (sym (timing_of-meaning code p.0.0 (from_stop env stop) (picked (get_or code.free p.0.0 []) (bound_from p.1)))
          ∙ (ap timing_of (free.0 (from_stop env stop) (bound_from p.1))
          ∙ (timing_of-meaning code p.0.0 (from_stop env stop) (bound_from p.1)
          ∙ ap (timing_at code p.0.0 (from_stop env stop)) (bound_timed p.1))))

      first : part_time code stop (waiting_of q) ≡ next_time env stop (part_when code p)
      first =
          (λ i. next_time (step.2 i) stop (λ from. timing_at code (step.1 i).0 from (kept_times (step.2 i).sound_rate (times_of (map captured_of q.1)) q.0.names)))
          ∙ ap (λ (t : Timing). placed_timing (index_at stop env.sound_rate) (resampled_timing env.sound_rate t)) told

  module _ (D : Trace) (law : IsTold code D) where
    nexts_told : (env : Env) (stop : ℕ) (ps later : List Part) (old new : HeapState Branch) (ss : List Sound) → AreInside code ps → NextsTurn D env stop ps old new ss → times_after env stop (map (part_when code) (ps ++ later)) ≡ map (λ (s : Sound). s.timing) ss ++ times_after env (last_stop_of stop ss) (map (part_when code) later)
    nexts_told env stop [] later old new [] are step = refl
    nexts_told env stop [] later old new (s ∷ ss) are step = absurd step
    nexts_told env stop (p ∷ ps) later old new [] are step = absurd step
    nexts_told env stop (p ∷ ps) later old new (s ∷ ss) are step =
        ap (λ (t : Timing). t ∷ times_after env t.stop (map (part_when code) (ps ++ later))) (sym (next_told code D law env stop p old step.0 s are.0 step.1))
        ∙ ap (λ ts. s.timing ∷ ts) (nexts_told env s.timing.stop ps later step.0 new ss are.1 step.2)

    pub seq_ends : (e : ℕ) (ps : List Part) (env : Env) (names : Names) (old new : HeapState Branch) (s : Sound) → timing_at code e env (times_in names) ≡ mix_timing env.sound_rate (times_in_turn env (map (part_when code) ps)) → PartsKeepFree code ps → AreInside code ps → (step : SeqTurn D code e ps env names old new s) → EndBy (step.t.start + step.t.len) (part_times code (last_stop_of 0 (step.brought ∷ step.others)) (map waiting_of step.waiting))
    seq_ends e ps env names old new s mean free are step =
        ends_last (step.t.start + step.t.len) (map (λ (s : Sound). s.timing) step.others) waiting_times
        (subst (λ (t : Timing). EndBy (t.start + t.len) (step.brought.timing ∷ (map (λ (s : Sound). s.timing) step.others ++ waiting_times))) (sym when) (mix_ends env.sound_rate step.brought.timing (map (λ (s : Sound). s.timing) step.others ++ waiting_times))).1
      where
        waiting_times : List Timing
        waiting_times = part_times code (last_stop_of step.brought.timing.stop step.others) (map waiting_of step.waiting)

        these : AreInside code (step.first ∷ (step.now ++ step.later))
        these = subst (AreInside code) step.all are

        later_free : PartsKeepFree code step.later
        later_free = free_last code step.now step.later (subst (PartsKeepFree code) step.all free).1

        first : step.brought.timing ≡ brought_time env (part_when code step.first)
        first =
            brought_told step.one step.two env.sound_rate step.part step.brought step.brings
            ∙ ap (resampled_timing env.sound_rate) (law step.first.0.0 env step.first.1 old step.one step.part step.evaluates these.0)

        whole : times_in_turn env (map (part_when code) ps) ≡ step.brought.timing ∷ (map (λ (s : Sound). s.timing) step.others ++ waiting_times)
        whole =
            ap (λ qs. times_in_turn env (map (part_when code) qs)) step.all
            ∙ (ap (λ (t : Timing). t ∷ times_after env t.stop (map (part_when code) (step.now ++ step.later))) (sym first)
            ∙ ap (λ ts. step.brought.timing ∷ ts)
            (nexts_told env step.brought.timing.stop step.now step.later step.two step.three step.others (inside_first code step.now step.later these.1) step.nexts
            ∙ ap (λ ts. map (λ (s : Sound). s.timing) step.others ++ ts) (sym (waits_told env (last_stop_of step.brought.timing.stop step.others) step.later step.three step.four step.waiting later_free step.waits))))

        when : step.t ≡ mix_timing env.sound_rate (step.brought.timing ∷ (map (λ (s : Sound). s.timing) step.others ++ waiting_times))
        when = seq_time code D law e ps env names old new s step ∙ (mean ∙ ap (mix_timing env.sound_rate) whole)
