-- Branches that wait: the sounds that they keep, and the parts that they are.
use Rattle.std.proofs.Common.{cond, ◌≡◌, ℕ, suc, Bool, true, false, List, [], ◌∷◌, ◌++◌, length, get_or, map, Option, None, Some, refl, sym, ap, subst, ◌∙◌, arith}
use Rattle.std.specs.Option.{option_map}
use Rattle.std.specs.List.{range_with_len}
use Rattle.std.proofs.lemmas.List.{append_assoc, length-append}
use Rattle.std.proofs.Math.Seq.{get_or-append_seam}
use Rattle.ny_num.specs.declared.rate.Rate.{Rate}
use Rattle.ny_num.specs.Grid.{index_at}
use Rattle.ny_num.specs.Sound as sounds
use Rattle.ny_num.specs.Sound.{placed, silence}
use Rattle.ny_num.specs.Resampling.{is_same_rate, resampled, other_rate_timing, interpolated}
use Rattle.ny_warp.specs.declared.env.Env.{Env}
use Rattle.ny_warp.specs.Environment.{from_stop}
use Rattle.ny_scope.specs.Scopes.{last_of}
use Rattle.ny_resolve.specs.declared.term.NameId.{NameId}
use Rattle.ny_resolve.specs.Keys.{same_name}
use Rattle.ny_check.specs.declared.node.ExprId.{ExprId}
use Rattle.ny_check.specs.declared.value.Value.{Value}
use Rattle.ny_check.specs.declared.value.Value.TheVariants.{Number, Sound as SoundOf}
use Rattle.ny_check.specs.Code.{Code}
use Rattle.ny_check.specs.Parts.{parts_after, next_part}
use Rattle.ny_check.specs.Meaning.{Bound, meaning}
use Rattle.ny_heap.specs.declared.sound.Sound.{Sound}
use Rattle.ny_heap.specs.Heap.{HeapState}
use Rattle.ny_heap.specs.Means.{Whole, Extends, parts_from, following, captured_sound}
use Rattle.ny_heap.specs.Reach.{HeapLaws}
use Rattle.ny_heap.specs.Steps.{waiting_of, sounds_of, captured_of}
use Rattle.ny_hands.proofs.RateLemmas.{same_rate}
use Rattle.ny_hands.specs.Frames.{Names, sound_at, value_in, bound_in, captured_bound, part_is}
use Rattle.ny_hands.specs.declared.branch.Branch.{Branch}
use Rattle.ny_trace.specs.Evaluates.{Part, parts_of, counted_names, counted_parts, KeepTurn, KeepsTurn, WaitsTurn}
use Rattle.ny_hands.specs.Hands.{Item, item, sounds_in, Are, Comes, AreNamed}
use Rattle.ny_trace.specs.Laws.{pick, picked, KeepFree}
use Rattle.ny_hands.proofs.ComingLemmas.{sounds_append, are_first, are_last, comes_none, comes_shared, stable_begin}
use Rattle.ny_hands.proofs.NameLemmas.{last_bound, named_found, named_kept}
use Rattle.ny_trace.proofs.ValueLemmas.{Agree, comes_then}
use Rattle.ny_trace.proofs.BlockLemmas.{agree_append}
use Rattle.ny_trace.proofs.MixLemmas.{AreParts, parts_kept, part_in}

-- ---- the sounds that are kept

abbrev kept_item : (List Sound → List Item) → Option (Value Sound) → List Sound → List Item
kept_item R None ss = R ss
kept_item R (Some (Number v)) ss = R ss
kept_item R (Some (SoundOf a)) [] = []
kept_item R (Some (SoundOf a)) (s ∷ ss) = item s (λ w. sound_at w a) ∷ R ss

-- of each free name its sound, in order
abbrev pub kept_items : Names → List NameId → List Sound → List Item
kept_items names [] ss = []
kept_items names (x ∷ xs) ss = kept_item (kept_items names xs) (last_of (same_name x) names) ss

kept_agree : {B : Type 0} (old : HeapState B) (names : Names) → AreNamed old names → (w l : Whole) → Extends old w l → (xs : List NameId) (ss : List Sound) → Agree w l (kept_items names xs ss) (kept_items names xs ss)
kept_agree old names named w l extends [] ss = tt
kept_agree {B} old names named w l extends (x ∷ xs) ss = by_found (λ ss. kept_agree old names named w l extends xs ss) (last_of (same_name x) names) refl ss
  where
    by_found : ((ss : List Sound) → Agree w l (kept_items names xs ss) (kept_items names xs ss)) → (o : Option (Value Sound)) → last_of (same_name x) names ≡ o → (ss : List Sound) → Agree w l (kept_item (kept_items names xs) o ss) (kept_item (kept_items names xs) o ss)
    by_found more None e ss = more ss
    by_found more (Some (Number v)) e ss = more ss
    by_found more (Some (SoundOf a)) e [] = tt
    by_found more (Some (SoundOf a)) e (s ∷ ss) = (refl, stable_begin old a (named_found old (same_name x) names a named e) w l extends, more ss)

module _ (code : Code) where
  keeps_come : (names : Names) (xs : List NameId) (k : ℕ) (old new : HeapState Branch) (kept : List (NameId × Value ℕ)) (ss : List Sound) → HeapLaws old → AreNamed old names → KeepsTurn names xs k old new kept ss → Comes (part_is code) old new (kept_items names xs ss)
  keeps_come names [] k old new kept ss laws named step = subst (λ (h : HeapState Branch). Comes (part_is code) old h []) step.2 (comes_none (part_is code) old laws)
  keeps_come names (x ∷ xs) k old new kept ss laws named step = by_found (λ k from kept ss laws named step. keeps_come names xs k from new kept ss laws named step) (last_of (same_name x) names) refl step
    where
      by_found : ((k : ℕ) (from : HeapState Branch) (kept : List (NameId × Value ℕ)) (ss : List Sound) → HeapLaws from → AreNamed from names → KeepsTurn names xs k from new kept ss → Comes (part_is code) from new (kept_items names xs ss)) → (o : Option (Value Sound)) → last_of (same_name x) names ≡ o → KeepTurn (KeepsTurn names xs) o x k old new kept ss → Comes (part_is code) old new (kept_item (kept_items names xs) o ss)
      by_found more None e step = more k old kept ss laws named step
      by_found more (Some (Number v)) e step = more k old step.0 ss laws named step.1
      by_found more (Some (SoundOf a)) e step =
          let s = step.1 in
          let others = step.2 in
          let mid = step.3 in
          let first = comes_shared (part_is code) old mid a s laws (named_found old (same_name x) names a named e) step.4 in
          let rest = more (suc k) mid step.0 others first.hand.laws (named_kept old mid first.hand.kept names named) step.5 in
          subst (λ zs. Comes (part_is code) old new (kept_item (kept_items names xs) (Some (SoundOf a)) zs)) (sym step.7)
          (comes_then (part_is code) old mid new (item s (λ w. sound_at w a) ∷ []) (kept_items names xs others) (kept_items names xs others) refl (λ w l means extends are. kept_agree old names named w l extends xs others) first rest)

kept_sounds : (names : Names) (xs : List NameId) (k : ℕ) (old new : HeapState Branch) (kept : List (NameId × Value ℕ)) (ss : List Sound) → KeepsTurn names xs k old new kept ss → ss ≡ sounds_in (kept_items names xs ss)
kept_sounds names [] k old new kept ss step = step.1
kept_sounds names (x ∷ xs) k old new kept ss step = by_found (λ k from kept ss step. kept_sounds names xs k from new kept ss step) (last_of (same_name x) names) step
  where
    by_found : ((k : ℕ) (from : HeapState Branch) (kept : List (NameId × Value ℕ)) (ss : List Sound) → KeepsTurn names xs k from new kept ss → ss ≡ sounds_in (kept_items names xs ss)) → (o : Option (Value Sound)) → KeepTurn (KeepsTurn names xs) o x k old new kept ss → ss ≡ sounds_in (kept_item (kept_items names xs) o ss)
    by_found more None step = more k old kept ss step
    by_found more (Some (Number v)) step = more k old step.0 ss step.1
    by_found more (Some (SoundOf a)) step =
        subst (λ zs. zs ≡ sounds_in (kept_item (kept_items names xs) (Some (SoundOf a)) zs)) (sym step.7)
        (ap (λ zs. step.1 ∷ zs) (more (suc k) step.3 step.0 step.2 step.5))

-- ---- the names of a branch

-- they stand for what the free names do
kept_bound : (r : Rate) (w l : Whole) (names : Names) (xs : List NameId) (k : ℕ) (old new : HeapState Branch) (kept : List (NameId × Value ℕ)) (ss : List Sound) (before : List sounds.Sound) → length before ≡ k → KeepsTurn names xs k old new kept ss → Are w l (kept_items names xs ss) → captured_bound r (before ++ map (sound_at l) ss) kept ≡ picked xs (bound_in w names)
kept_bound r w l names [] k old new kept ss before long step are = ap (captured_bound r (before ++ map (sound_at l) ss)) step.0
kept_bound r w l names (x ∷ xs) k old new kept ss before long step are =
    by_found (λ k from kept ss before long step are. kept_bound r w l names xs k from new kept ss before long step are) (last_of (same_name x) names) step are
    ∙ ap (λ o. pick o x (picked xs (bound_in w names))) (sym (last_bound w (same_name x) names))
  where
    by_found : ((k : ℕ) (from : HeapState Branch) (kept : List (NameId × Value ℕ)) (ss : List Sound) (before : List sounds.Sound) → length before ≡ k → KeepsTurn names xs k from new kept ss → Are w l (kept_items names xs ss) → captured_bound r (before ++ map (sound_at l) ss) kept ≡ picked xs (bound_in w names)) → (o : Option (Value Sound)) → KeepTurn (KeepsTurn names xs) o x k old new kept ss → Are w l (kept_item (kept_items names xs) o ss) → captured_bound r (before ++ map (sound_at l) ss) kept ≡ pick (option_map (value_in w) o) x (picked xs (bound_in w names))
    by_found more None step are = more k old kept ss before long step are
    by_found more (Some (Number v)) step are =
        ap (captured_bound r (before ++ map (sound_at l) ss)) step.2
        ∙ ap (λ (rest : Bound). (x, Number v) ∷ rest) (more k old step.0 ss before long step.1 are)
    by_found more (Some (SoundOf a)) step are =
        (λ i. captured_bound r (before ++ map (sound_at l) (step.7 i)) (step.6 i))
        ∙ (λ i. (x, SoundOf (first i)) ∷ rest i)
      where
        s : Sound
        s = step.1

        others : List Sound
        others = step.2

        told : Are w l (kept_item (kept_items names xs) (Some (SoundOf a)) (s ∷ others))
        told = subst (λ zs. Are w l (kept_item (kept_items names xs) (Some (SoundOf a)) zs)) step.7 are

        first : get_or (before ++ sound_at l s ∷ map (sound_at l) others) k (silence r) ≡ sound_at w a
        first = ap (λ n. get_or (before ++ sound_at l s ∷ map (sound_at l) others) n (silence r)) (sym long) ∙ (get_or-append_seam before (sound_at l s) (map (sound_at l) others) (silence r) ∙ told.0)

        rest : captured_bound r (before ++ sound_at l s ∷ map (sound_at l) others) step.0 ≡ picked xs (bound_in w names)
        rest =
            ap (λ zs. captured_bound r zs step.0) (sym (append_assoc before (sound_at l s ∷ []) (map (sound_at l) others)))
            ∙ more (suc k) step.3 step.0 others (before ++ sound_at l s ∷ []) (omega (arith, length-append before (sound_at l s ∷ []), long)) step.5 told.1

-- ---- the parts

pub resampled_rate : (r : Rate) (s : sounds.Sound) → (resampled r s).rate ≡ r
unfolding resampled sounds.sound_of other_rate_timing sounds.spanning
resampled_rate r s = by_same (is_same_rate s.rate r) refl
  where
    by_same : (b : Bool) → is_same_rate s.rate r ≡ b → (cond b s (sounds.sound_of (other_rate_timing r (sounds.timing_of s)) (interpolated r s))).rate ≡ r
    by_same true e = same_rate s.rate r e
    by_same false e = refl

pub at_rate : (r : Rate) (s : sounds.Sound) → s.rate ≡ r → (let q : sounds.Sound = record s { rate = r } in q) ≡ s
at_rate r s same = λ i. record s { rate = sym same i }

-- each part means the same where its free names alone are kept
abbrev pub PartsKeepFree : Code → List Part → Type 0
PartsKeepFree code [] = Unit {0}
PartsKeepFree code (p ∷ ps) =
    ((env : Env) (bound : Bound) → meaning code p.0.0 env (picked (get_or code.free p.0.0 []) bound) ≡ meaning code p.0.0 env bound) × PartsKeepFree code ps

pub parts_free : (code : Code) (names : Names) (es : List ExprId) → KeepFree code es → PartsKeepFree code (parts_of names es)
parts_free code names [] free = tt
parts_free code names (e ∷ es) free = (free.0, parts_free code names es free.1)

pub counted_free : (code : Code) (names : Names) (i : NameId) (count : ℕ) (e : ExprId) → KeepFree code (e ∷ []) → PartsKeepFree code (counted_parts names i count e)
counted_free code names i count e free = each (range_with_len 0 count)
  where
    each : (ks : List ℕ) → PartsKeepFree code (map (λ k. let p : Part = (e, counted_names names i k) in p) ks)
    each [] = tt
    each (k ∷ ks) = (free.0, each ks)

module _ (code : Code) where
  -- what all waiting branches keep
  abbrev pub waits_items : List Part → List (Branch × List Sound) → List Item
  waits_items [] qs = []
  waits_items (p ∷ ps) [] = []
  waits_items (p ∷ ps) (q ∷ qs) = kept_items p.1 (get_or code.free p.0.0 []) q.1 ++ waits_items ps qs

  pub waits_agree : (n : ℕ) (old : HeapState Branch) (w l : Whole) → Extends old w l → (ps : List Part) → AreParts n old ps → (qs : List (Branch × List Sound)) → Agree w l (waits_items ps qs) (waits_items ps qs)
  waits_agree n old w l extends [] are qs = tt
  waits_agree n old w l extends (p ∷ ps) are [] = tt
  waits_agree n old w l extends (p ∷ ps) are (q ∷ qs) =
      let first : List Item = kept_items p.1 (get_or code.free p.0.0 []) q.1 in
      let rest : List Item = waits_items ps qs in
      agree_append w l first rest first rest (kept_agree old p.1 are.1 w l extends (get_or code.free p.0.0 []) q.1) (waits_agree n old w l extends ps are.2 qs)

  pub waits_come : (n : ℕ) (env : Env) (ps : List Part) (old new : HeapState Branch) (qs : List (Branch × List Sound)) → AreParts n old ps → HeapLaws old → WaitsTurn code env ps old new qs → Comes (part_is code) old new (waits_items ps qs)
  waits_come n env [] old new [] are laws step = subst (λ (h : HeapState Branch). Comes (part_is code) old h []) step (comes_none (part_is code) old laws)
  waits_come n env [] old new (q ∷ qs) are laws step = absurd step
  waits_come n env (p ∷ ps) old new [] are laws step = absurd step
  waits_come n env (p ∷ ps) old new (q ∷ qs) are laws step =
      let first = keeps_come code p.1 (get_or code.free p.0.0 []) 0 old step.0 q.0.names q.1 laws are.1 step.3 in
      let rest = waits_come n env ps step.0 new qs (parts_kept n old step.0 first.hand.kept ps are.2) first.hand.laws step.4 in
      comes_then (part_is code) old step.0 new (kept_items p.1 (get_or code.free p.0.0 []) q.1) (waits_items ps qs) (waits_items ps qs) refl (λ w l means extends here. waits_agree n old w l extends ps are.2 qs) first rest

  pub waits_sounds : (env : Env) (ps : List Part) (old new : HeapState Branch) (qs : List (Branch × List Sound)) → WaitsTurn code env ps old new qs → sounds_of qs ≡ sounds_in (waits_items ps qs)
  waits_sounds env [] old new [] step = refl
  waits_sounds env [] old new (q ∷ qs) step = absurd step
  waits_sounds env (p ∷ ps) old new [] step = absurd step
  waits_sounds env (p ∷ ps) old new (q ∷ qs) step =
      (λ i. kept_sounds p.1 (get_or code.free p.0.0 []) 0 old step.0 q.0.names q.1 step.3 i ++ waits_sounds env ps step.0 new qs step.4 i)
      ∙ sym (sounds_append (kept_items p.1 (get_or code.free p.0.0 []) q.1) (waits_items ps qs))

  -- taken in turn they are the parts of the meaning
  pub waits_are : (env : Env) (w l : Whole) (stop : ℕ) (ps : List Part) (old new : HeapState Branch) (qs : List (Branch × List Sound)) → PartsKeepFree code ps → WaitsTurn code env ps old new qs → Are w l (waits_items ps qs) → parts_from (part_is code) l.samples env.sound_rate stop (map waiting_of qs) ≡ parts_after env stop (map (part_in code w) ps)
  waits_are env w l stop [] old new [] free step are = refl
  waits_are env w l stop [] old new (q ∷ qs) free step are = absurd step
  waits_are env w l stop (p ∷ ps) old new [] free step are = absurd step
  waits_are env w l stop (p ∷ ps) old new (q ∷ qs) free step are =
      (λ i. first i ∷ parts_from (part_is code) l.samples env.sound_rate (first i).stop (map waiting_of qs))
      ∙ ap (λ rest. part ∷ rest) (waits_are env w l part.stop ps step.0 new qs free.1 step.4 (are_last w l (kept_items p.1 (get_or code.free p.0.0 []) q.1) (waits_items ps qs) are))
    where
      part : sounds.Sound
      part = next_part env stop (part_in code w p)

      meant : sounds.Sound
      meant = part_in code w p (from_stop env stop)

      same : captured_bound env.sound_rate (map (sound_at l) q.1) q.0.names ≡ picked (get_or code.free p.0.0 []) (bound_in w p.1)
      same = kept_bound env.sound_rate w l p.1 (get_or code.free p.0.0 []) 0 old step.0 q.0.names q.1 [] refl step.3 (are_first w l (kept_items p.1 (get_or code.free p.0.0 []) q.1) (waits_items ps qs) are)

      is : part_is code q.0 (map (sound_at l) q.1) stop ≡ resampled env.sound_rate meant
      is =
          (λ i. resampled (step.2 i).sound_rate (meaning code (step.1 i).0 (from_stop (step.2 i) stop) (captured_bound (step.2 i).sound_rate (map (sound_at l) q.1) q.0.names)))
          ∙ ap (λ b. resampled env.sound_rate (meaning code p.0.0 (from_stop env stop) b)) same
          ∙ ap (resampled env.sound_rate) (free.0 (from_stop env stop) (bound_in w p.1))

      captured_are : map (λ c. captured_sound l.samples c) (map captured_of q.1) ≡ map (sound_at l) q.1
      captured_are = each q.1
        where
          each : (ss : List Sound) → map (λ c. captured_sound l.samples c) (map captured_of ss) ≡ map (sound_at l) ss
          each [] = refl
          each (s ∷ ss) = ap (λ rest. sound_at l s ∷ rest) (each ss)

      first : following env.sound_rate stop (part_is code q.0 (map (λ c. captured_sound l.samples c) (map captured_of q.1)) stop) ≡ part
      first =
          ap (λ cs. following env.sound_rate stop (part_is code q.0 cs stop)) captured_are
          ∙ (ap (following env.sound_rate stop) is
          ∙ ap (placed (index_at stop env.sound_rate)) (at_rate env.sound_rate (resampled env.sound_rate meant) (resampled_rate env.sound_rate meant)))
