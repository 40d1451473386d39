-- Parts in turn: those that are evaluated at once, and those that wait.
use Rattle.std.proofs.Common.{◌≡◌, ℕ, ◌<◌, List, [], ◌∷◌, ◌++◌, length, map, Option, None, Some, refl, sym, ap, subst, ◌∙◌}
use Rattle.std.proofs.lemmas.List.{append-nil}
use Rattle.ny_num.specs.Grid.{index_at}
use Rattle.ny_num.specs.Sound as sounds
use Rattle.ny_num.specs.Sound.{timing_of}
use Rattle.ny_num.specs.Mix.{mix, mix_timing}
use Rattle.ny_num.specs.Resampling.{resampled}
use Rattle.ny_num.proofs.SoundTimings.{timing_of-mix}
use Rattle.ny_warp.specs.declared.env.Env.{Env}
use Rattle.ny_warp.specs.Environment.{from_stop}
use Rattle.ny_check.specs.declared.value.Value.{Value}
use Rattle.ny_check.specs.declared.value.Value.TheVariants.{Number, Sound as SoundOf}
use Rattle.ny_check.specs.Code.{Code}
use Rattle.ny_check.specs.Parts.{parts_in_turn, parts_after, next_part}
use Rattle.ny_check.specs.Meaning.{Bound, meaning, part_of}
use Rattle.ny_timing.specs.Timings.{timed, timed_value}
use Rattle.ny_heap.specs.declared.sound.Sound.{Sound}
use Rattle.ny_heap.specs.Heap.{Mix, HeapState, list_of}
use Rattle.ny_heap.specs.Means.{Parts, Whole, Means, Extends, sound_in, parts_from, unit_value}
use Rattle.ny_heap.specs.Reach.{HeapLaws}
use Rattle.ny_heap.specs.Steps.{waiting_of, sounds_of, last_stop_of, first_memory, made_inputs}
use Rattle.ny_hands.specs.Frames.{Names, sound_at, value_in, bound_in, part_is}
use Rattle.ny_hands.specs.declared.branch.Branch.{Branch}
use Rattle.ny_trace.specs.Evaluates.{Trace, Part, NextTurn, NextsTurn, SeqTurn, timed_in, times_in}
use Rattle.ny_hands.specs.Hands.{AllBegin, Item, item, sounds_in, Are, Comes, IsNamed, AreNamed}
use Rattle.ny_trace.specs.Laws.{IsLawful}
use Rattle.ny_hands.proofs.ComingLemmas.{sounds_append, are_first, are_last, comes_none, comes_made, comes_brought, timing_begin}
use Rattle.ny_hands.proofs.NameLemmas.{bound_stable, named_kept}
use Rattle.ny_trace.proofs.ValueLemmas.{Agree, comes_then}
use Rattle.ny_trace.proofs.MixLemmas.{ises, are_ises, mix_is, AreParts, parts_kept, parts_first, parts_last, part_in}
use Rattle.ny_hands.proofs.PlaceLemmas.{comes_placed}
use Rattle.ny_trace.proofs.WaitLemmas.{PartsKeepFree, waits_items, waits_agree, waits_come, waits_sounds, waits_are}

-- ---- timings of names

value_times : {B : Type 0} (part : Parts B) (h : HeapState B) (w : Whole) (v : Value Sound) → Means part h w → IsNamed h v → timed_value (value_in w v) ≡ timed_in v
value_times part h w (Number v) means is = refl
value_times part h w (SoundOf s) means is = ap (λ q. SoundOf q) (timing_begin part h w s means is)

pub names_times : {B : Type 0} (part : Parts B) (h : HeapState B) (w : Whole) (names : Names) → Means part h w → AreNamed h names → timed (bound_in w names) ≡ times_in names
names_times part h w [] means are = refl
names_times part h w (b ∷ bs) means are = λ i. (b.0, value_times part h w b.1 means are.0 i) ∷ names_times part h w bs means are.1 i

-- a sound in hand stops when it says
stop_at : (l : Whole) (s : Sound) (m : sounds.Sound) → sound_at l s ≡ m → m.stop ≡ s.timing.stop
stop_at l s m is = ap (λ (q : sounds.Sound). q.stop) (sym is) ∙ by_list (list_of s)
  where
    by_list : (o : Option ℕ) → (sound_in l.samples o s.timing).stop ≡ s.timing.stop
    by_list None = refl
    by_list (Some n) = refl

keep_later : (code : Code) (ps qs : List Part) → PartsKeepFree code (ps ++ qs) → PartsKeepFree code qs
keep_later code [] qs free = free
keep_later code (p ∷ ps) qs free = keep_later code ps qs free.1

module _ (code : Code) (D : Trace) (law : IsLawful code D) where
  abbrev pub next_sound : Env → ℕ → Part → Whole → sounds.Sound
  next_sound env stop p w = next_part env stop (part_in code w p)

  abbrev next_items : Env → ℕ → List Part → List Sound → List Item
  next_items env stop [] ss = []
  next_items env stop (p ∷ ps) [] = []
  next_items env stop (p ∷ ps) (s ∷ ss) = item s (next_sound env stop p) ∷ next_items env s.timing.stop ps ss

  nexts_agree : (n : ℕ) (old : HeapState Branch) (env : Env) (stop : ℕ) (w l : Whole) → Extends old w l → (ps : List Part) → AreParts n old ps → (ss : List Sound) → Agree w l (next_items env stop ps ss) (next_items env stop ps ss)
  nexts_agree n old env stop w l extends [] are ss = tt
  nexts_agree n old env stop w l extends (p ∷ ps) are [] = tt
  nexts_agree n old env stop w l extends (p ∷ ps) are (s ∷ ss) =
      (refl, ap (λ (b : Bound). next_part env stop (part_of (meaning code) b p.0)) (bound_stable old p.1 are.1 w l extends), nexts_agree n old env s.timing.stop w l extends ps are.2 ss)

  pub next_comes : (env : Env) (stop : ℕ) (p : Part) (old new : HeapState Branch) (s : Sound) → p.0.0 < length code.nodes → HeapLaws old → AreNamed old p.1 → NextTurn D env stop p old new s → Comes (part_is code) old new (item s (next_sound env stop p) ∷ [])
  next_comes env stop p old new s inside laws named step =
      let f : Whole → sounds.Sound = λ w. part_in code w p (from_stop env stop) in
      let first = law p.0.0 (from_stop env stop) p.1 old step.mid step.part step.evaluates inside laws named in
      let second = comes_brought (part_is code) old step.mid step.end env.sound_rate step.part step.brought f [] laws first step.brings in
      comes_placed (part_is code) old step.end new (index_at stop env.sound_rate) step.brought s (λ w. resampled env.sound_rate (f w)) [] laws second step.places

  nexts_come : (env : Env) (stop : ℕ) (ps : List Part) (old new : HeapState Branch) (ss : List Sound) → AreParts (length code.nodes) old ps → HeapLaws old → NextsTurn D env stop ps old new ss → Comes (part_is code) old new (next_items env stop ps ss)
  nexts_come env stop [] old new [] are laws step = subst (λ (h : HeapState Branch). Comes (part_is code) old h []) step (comes_none (part_is code) old laws)
  nexts_come env stop [] old new (s ∷ ss) are laws step = absurd step
  nexts_come env stop (p ∷ ps) old new [] are laws step = absurd step
  nexts_come env stop (p ∷ ps) old new (s ∷ ss) are laws step =
      let first = next_comes env stop p old step.0 s are.0 laws are.1 step.1 in
      let rest = nexts_come env s.timing.stop ps step.0 new ss (parts_kept (length code.nodes) old step.0 first.hand.kept ps are.2) first.hand.laws step.2 in
      comes_then (part_is code) old step.0 new (item s (next_sound env stop p) ∷ []) (next_items env s.timing.stop ps ss) (next_items env s.timing.stop ps ss) refl (λ w l means extends here. nexts_agree (length code.nodes) old env s.timing.stop w l extends ps are.2 ss) first rest

  pub next_sounds : (env : Env) (stop : ℕ) (ps : List Part) (old new : HeapState Branch) (ss : List Sound) → NextsTurn D env stop ps old new ss → ss ≡ sounds_in (next_items env stop ps ss)
  next_sounds env stop [] old new [] step = refl
  next_sounds env stop [] old new (s ∷ ss) step = absurd step
  next_sounds env stop (p ∷ ps) old new [] step = absurd step
  next_sounds env stop (p ∷ ps) old new (s ∷ ss) step = ap (λ rest. s ∷ rest) (next_sounds env s.timing.stop ps step.0 new ss step.2)

  -- the parts of the meaning: those that were evaluated, and those after them
  nexts_are : (env : Env) (w l : Whole) (stop : ℕ) (ps later : List Part) (old new : HeapState Branch) (ss : List Sound) → NextsTurn D env stop ps old new ss → Are w l (next_items env stop ps ss) → ises w (next_items env stop ps ss) ++ parts_after env (last_stop_of stop ss) (map (part_in code w) later) ≡ parts_after env stop (map (part_in code w) (ps ++ later))
  nexts_are env w l stop [] later old new [] step are = refl
  nexts_are env w l stop [] later old new (s ∷ ss) step are = absurd step
  nexts_are env w l stop (p ∷ ps) later old new [] step are = absurd step
  nexts_are env w l stop (p ∷ ps) later old new (s ∷ ss) step are =
      ap (λ rest. next_sound env stop p w ∷ rest) (nexts_are env w l s.timing.stop ps later step.0 new ss step.2 are.1
      ∙ ap (λ n. parts_after env n (map (part_in code w) (ps ++ later))) (sym (stop_at l s (next_sound env stop p w) are.0)))

  -- `heard` tells the parts of the meaning
  pub seq_comes : (e : ℕ) (ps : List Part) (env : Env) (names : Names) (old new : HeapState Branch) (s : Sound) (heard : Bound → List (Env → sounds.Sound)) → ((w : Whole) → map (part_in code w) ps ≡ heard (bound_in w names)) → AreParts (length code.nodes) old ps → PartsKeepFree code ps → ((bound : Bound) → meaning code e env bound ≡ mix env.sound_rate (parts_in_turn env (heard bound))) → HeapLaws old → AreNamed old names → SeqTurn D code e ps env names old new s → Comes (part_is code) old new (item s (λ w. mix env.sound_rate (parts_in_turn env (heard (bound_in w names)))) ∷ [])
  seq_comes e ps env names old new s heard same below free meaning_is laws named step =
      comes_made (part_is code) old step.four new Mix step.t (step.brought ∷ step.others) (map waiting_of step.waiting) ((step.brought ∷ step.others) ++ sounds_of step.waiting) (parts ++ waits) [] s (λ w. mix env.sound_rate (parts_in_turn env (heard (bound_in w names)))) laws spent_are
      (subst (λ zs. Comes (part_is code) old step.four zs) (sym (append-nil (parts ++ waits))) three) step.made hears
    where
      n : ℕ
      n = length code.nodes

      inside : AreParts n old (step.first ∷ (step.now ++ step.later))
      inside = subst (AreParts n old) step.all below

      kept_free : PartsKeepFree code step.later
      kept_free = keep_later code step.now step.later (subst (PartsKeepFree code) step.all free).1

      head : Item
      head = item step.brought (λ w. resampled env.sound_rate (part_in code w step.first env))

      nexts : List Item
      nexts = next_items env step.brought.timing.stop step.now step.others

      waits : List Item
      waits = waits_items code step.later step.waiting

      parts : List Item
      parts = head ∷ nexts

      now_are : AreParts n old step.now
      now_are = parts_first n old step.now step.later inside.2

      later_are : AreParts n old step.later
      later_are = parts_last n old step.now step.later inside.2

      one : Comes (part_is code) old step.two (head ∷ [])
      one = comes_brought (part_is code) old step.one step.two env.sound_rate step.part step.brought (λ w. part_in code w step.first env) [] laws (law step.first.0.0 env step.first.1 old step.one step.part step.evaluates inside.0 laws inside.1) step.brings

      two : Comes (part_is code) old step.three parts
      two =
          comes_then (part_is code) old step.two step.three (head ∷ []) nexts nexts refl (λ w l means extends here. nexts_agree n old env step.brought.timing.stop w l extends step.now now_are step.others) one
          (nexts_come env step.brought.timing.stop step.now step.two step.three step.others (parts_kept n old step.two one.hand.kept step.now now_are) one.hand.laws step.nexts)

      three : Comes (part_is code) old step.four (parts ++ waits)
      three =
          comes_then (part_is code) old step.three step.four parts waits waits refl (λ w l means extends here. waits_agree code n old w l extends step.later later_are step.waiting) two
          (waits_come code n env step.later step.three step.four step.waiting (parts_kept n old step.three two.hand.kept step.later later_are) two.hand.laws step.waits)

      others_are : step.others ≡ sounds_in nexts
      others_are = next_sounds env step.brought.timing.stop step.now step.two step.three step.others step.nexts

      spent_are : (step.brought ∷ step.others) ++ sounds_of step.waiting ≡ sounds_in (parts ++ waits)
      spent_are =
          (λ i. (step.brought ∷ others_are i) ++ waits_sounds code env step.later step.three step.four step.waiting step.waits i)
          ∙ sym (sounds_append parts waits)

      hears : (w l : Whole) → Means (part_is code) step.four l → Extends old w l → AllBegin step.four (sounds_in (parts ++ waits)) → Are w l (parts ++ waits) → sounds.sound_of step.t (unit_value Mix step.t (first_memory Mix (step.brought ∷ step.others)) step.t.start (made_inputs (part_is code) l step.t.rate (step.brought ∷ step.others) (map waiting_of step.waiting))) ≡ mix env.sound_rate (parts_in_turn env (heard (bound_in w names)))
      hears w l means extends begin are = mix_is (part_is code) l env.sound_rate step.t (step.brought ∷ step.others) (map waiting_of step.waiting) (ises w parts) after first rest when ∙ ap (mix env.sound_rate) whole
        where
          after : List sounds.Sound
          after = parts_after env (last_stop_of step.brought.timing.stop step.others) (map (part_in code w) step.later)

          these : Are w l parts
          these = are_first w l parts waits are

          first : map (sound_at l) (step.brought ∷ step.others) ≡ ises w parts
          first = ap (λ ss. map (sound_at l) (step.brought ∷ ss)) others_are ∙ are_ises w l parts these

          rest : parts_from (part_is code) l.samples env.sound_rate (last_stop_of step.brought.timing.stop step.others) (map waiting_of step.waiting) ≡ after
          rest = waits_are code env w l (last_stop_of step.brought.timing.stop step.others) step.later step.three step.four step.waiting kept_free step.waits (are_last w l parts waits are)

          whole : ises w parts ++ after ≡ parts_in_turn env (heard (bound_in w names))
          whole =
              ap (λ q. head.is w ∷ q) (nexts_are env w l step.brought.timing.stop step.now step.later step.two step.three step.others step.nexts these.1
              ∙ ap (λ m. parts_after env m (map (part_in code w) (step.now ++ step.later))) (sym (stop_at l step.brought (head.is w) these.0)))
              ∙ (ap (λ xs. parts_in_turn env (map (part_in code w) xs)) (sym step.all)
              ∙ ap (parts_in_turn env) (same w))

          -- the lists that were there hold what they did
          when : step.t ≡ mix_timing env.sound_rate (map timing_of (ises w parts ++ after))
          when =
              step.when (bound_in l names) (names_times (part_is code) step.four l names means (named_kept old step.four three.hand.kept names named))
              ∙ (ap timing_of (ap (meaning code e env) (bound_stable old names named w l extends) ∙ meaning_is (bound_in w names))
              ∙ (timing_of-mix env.sound_rate (parts_in_turn env (heard (bound_in w names)))
              ∙ ap (λ zs. mix_timing env.sound_rate (map timing_of zs)) (sym whole)))
