-- What a mix gives, and parts together.
use Rattle.std.proofs.Common.{◌≡◌, ℕ, ◌*◌, ◌<◌, List, [], ◌∷◌, ◌++◌, length, map, Option, Some, refl, sym, ap, subst, ◌∙◌, ℤ, pos}
use Rattle.std.specs.List.{fold, range_with_len}
use Rattle.std.proofs.lemmas.List.{append_assoc, append-nil}
use Rattle.std.proofs.lemmas.List.Sums.{fold-append}
use Rattle.ny_num.specs.Numbers.{sample_add}
use Rattle.ny_num.specs.declared.rate.Rate.{Rate}
use Rattle.ny_num.specs.declared.timing.Timing.{Timing}
use Rattle.ny_num.specs.Sound as sounds
use Rattle.ny_num.specs.Sound.{timing_of, sound_of, value_at, spanning}
use Rattle.ny_num.specs.Mix.{mix, mix_timing, sum_at}
use Rattle.ny_num.specs.Resampling.{resampled}
use Rattle.ny_warp.specs.declared.env.Env.{Env}
use Rattle.ny_resolve.specs.declared.term.NameId.{NameId}
use Rattle.ny_check.specs.declared.node.ExprId.{ExprId}
use Rattle.ny_check.specs.declared.value.Value.TheVariants.{Number}
use Rattle.ny_check.specs.Code.{Code, AllBelow}
use Rattle.ny_check.specs.Parts.{parts_together}
use Rattle.ny_check.specs.Meaning.{Bound, meaning, part_of, repeated_part, repeated_parts}
use Rattle.ny_heap.specs.declared.sound.Sound.{Sound}
use Rattle.ny_heap.specs.Heap.{Mix, Waiting, HeapState}
use Rattle.ny_heap.specs.Means.{Parts, Whole, Means, Extends, input_sound, sum_heard, unit_value, parts_from}
use Rattle.ny_heap.specs.Reach.{HeapLaws}
use Rattle.ny_heap.specs.Steps.{first_memory, made_inputs, reader_of, last_stop_of}
use Rattle.ny_hands.proofs.SoundLemmas.{heard_is}
use Rattle.ny_hands.specs.Calls.{BringsEach}
use Rattle.ny_hands.specs.Frames.{Names, sound_at, bound_in, part_is}
use Rattle.ny_hands.specs.declared.branch.Branch.{Branch}
use Rattle.ny_trace.specs.Evaluates.{Trace, Part, parts_of, counted_names, counted_parts, PartsTurn, SimTurn}
use Rattle.ny_hands.specs.Hands.{AllBegin, Item, item, sounds_in, Are, Comes, AreNamed}
use Rattle.ny_trace.specs.Laws.{IsLawful}
use Rattle.ny_hands.proofs.ComingLemmas.{comes_none, comes_turned, comes_made, comes_brought, timing_begin}
use Rattle.ny_hands.proofs.HandLemmas.{AreKept}
use Rattle.ny_hands.proofs.NameLemmas.{bound_append, bound_stable, named_kept, named_append}
use Rattle.ny_trace.proofs.ValueLemmas.{Agree, comes_then}

mix_timing-rate : (r : Rate) (ts : List Timing) → (mix_timing r ts).rate ≡ r
unfolding mix_timing spanning
mix_timing-rate r [] = refl
mix_timing-rate r (t ∷ ts) = refl

-- ---- lists of items

-- the sounds that items are
abbrev pub ises : Whole → List Item → List sounds.Sound
ises w [] = []
ises w (i ∷ is) = i.is w ∷ ises w is

pub are_ises : (w l : Whole) (items : List Item) → Are w l items → map (sound_at l) (sounds_in items) ≡ ises w items
are_ises w l [] are = refl
are_ises w l (i ∷ items) are = λ k. are.0 k ∷ are_ises w l items are.1 k

pub times_ises : {B : Type 0} (part : Parts B) (h : HeapState B) (w l : Whole) (items : List Item) → Means part h l → AllBegin h (sounds_in items) → Are w l items → map (λ (s : Sound). s.timing) (sounds_in items) ≡ map timing_of (ises w items)
times_ises part h w l [] means b are = refl
times_ises part h w l (i ∷ items) means b are = λ k. (sym (timing_begin part h l i.sound means b.0) ∙ ap timing_of are.0) k ∷ times_ises part h w l items means b.1 are.1 k

pub ises_append : (w : Whole) (ps qs : List Item) → ises w (ps ++ qs) ≡ ises w ps ++ ises w qs
ises_append w [] qs = refl
ises_append w (p ∷ ps) qs = ap (λ rest. p.is w ∷ rest) (ises_append w ps qs)

-- ---- sums

abbrev add_at : ℕ → ℤ → sounds.Sound → ℤ
add_at m total s = sample_add total (value_at s m)

sum_inputs : (l : Whole) (m : ℕ) (total : ℤ) (ss : List Sound) (parts : List sounds.Sound) (rest : List (Option sounds.Sound)) → map (sound_at l) ss ≡ parts → sum_heard total (map (λ s. input_sound l.samples (reader_of s)) ss ++ rest) m ≡ sum_heard (fold (add_at m) total parts) rest m
sum_inputs l m total ss parts rest same = from total ss ∙ ap (λ ps. sum_heard (fold (add_at m) total ps) rest m) same
  where
    from : (total : ℤ) (ss : List Sound) → sum_heard total (map (λ s. input_sound l.samples (reader_of s)) ss ++ rest) m ≡ sum_heard (fold (add_at m) total (map (sound_at l) ss)) rest m
    from total [] = refl
    from total (s ∷ ss) =
        ap (λ x. sum_heard (sample_add total x) (map (λ s. input_sound l.samples (reader_of s)) ss ++ rest) m) (heard_is l s m)
        ∙ from (sample_add total (value_at (sound_at l s) m)) ss

sum_parts : (m : ℕ) (total : ℤ) (ps : List sounds.Sound) → sum_heard total (map (λ (s : sounds.Sound). Some s) ps) m ≡ fold (add_at m) total ps
sum_parts m total [] = refl
sum_parts m total (p ∷ ps) = sum_parts m (sample_add total (value_at p m)) ps

-- a mix gives the mix of the parts that it was made of and of those that wait
pub mix_is : {B : Type 0} (part : Parts B) (l : Whole) (r : Rate) (t : Timing) (inputs : List Sound) (waiting : List (Waiting B)) (parts later : List sounds.Sound) → map (sound_at l) inputs ≡ parts → parts_from part l.samples r (last_stop_of 0 inputs) waiting ≡ later → t ≡ mix_timing r (map timing_of (parts ++ later)) → sound_of t (unit_value Mix t (first_memory Mix inputs) t.start (made_inputs part l t.rate inputs waiting)) ≡ mix r (parts ++ later)
unfolding mix sum_at
mix_is {B} part l r t inputs waiting parts later first rest when =
    (λ i. sound_of (when i) (λ m. value m i))
  where
    rate : t.rate ≡ r
    rate = ap (λ (q : Timing). q.rate) when ∙ mix_timing-rate r (map timing_of (parts ++ later))

    value : (m : ℕ) → sum_heard (pos 0) (made_inputs part l t.rate inputs waiting) m ≡ fold (add_at m) (pos 0) (parts ++ later)
    value m =
        sum_inputs l m (pos 0) inputs parts (map (λ (s : sounds.Sound). Some s) (parts_from part l.samples t.rate (last_stop_of 0 inputs) waiting)) first
        ∙ (sum_parts m (fold (add_at m) (pos 0) parts) (parts_from part l.samples t.rate (last_stop_of 0 inputs) waiting)
        ∙ (ap (λ q. fold (add_at m) (fold (add_at m) (pos 0) parts) (parts_from part l.samples q (last_stop_of 0 inputs) waiting)) rate
        ∙ (ap (fold (add_at m) (fold (add_at m) (pos 0) parts)) rest
        ∙ sym (fold-append (add_at m) (pos 0) parts later))))

-- ---- bringing each

abbrev pub brought_items : Rate → List Item → List Sound → List Item
brought_items r [] ts = []
brought_items r (i ∷ is) [] = []
brought_items r (i ∷ is) (t ∷ ts) = item t (λ w. resampled r (i.is w)) ∷ brought_items r is ts

pub each_brought : {B : Type 0} (part : Parts B) (old mid new : HeapState B) (r : Rate) (items done : List Item) (ts : List Sound) → HeapLaws old → Comes part old mid (items ++ done) → BringsEach mid new r (sounds_in items) ts → Comes part old new (brought_items r items ts ++ done)
each_brought {B} part old mid new r [] done [] laws c step = subst (λ (h : HeapState B). Comes part old h done) step c
each_brought part old mid new r [] done (t ∷ ts) laws c step = absurd step
each_brought part old mid new r (i ∷ items) done [] laws c step = absurd step
each_brought {B} part old mid new r (i ∷ items) done (t ∷ ts) laws c step =
    let now : Item = item t (λ w. resampled r (i.is w)) in
    let first = comes_brought part old mid step.0 r i.sound t i.is (items ++ done) laws c step.1 in
    let turned : Comes part old step.0 (items ++ (done ++ now ∷ [])) = subst (λ ps. Comes part old step.0 ps) (append_assoc items done (now ∷ [])) (comes_turned part old step.0 (now ∷ []) (items ++ done) first) in
    let rest : Comes part old new ((brought_items r items ts ++ done) ++ now ∷ []) = subst (λ ps. Comes part old new ps) (sym (append_assoc (brought_items r items ts) done (now ∷ []))) (each_brought part old step.0 new r items (done ++ now ∷ []) ts laws turned step.2) in
    comes_turned part old new (brought_items r items ts ++ done) (now ∷ []) rest

-- the sounds of the items are those that were brought
brought_sounds : {B : Type 0} (old new : HeapState B) (r : Rate) (items : List Item) (ts : List Sound) → BringsEach old new r (sounds_in items) ts → ts ≡ sounds_in (brought_items r items ts)
brought_sounds old new r [] [] step = refl
brought_sounds old new r [] (t ∷ ts) step = absurd step
brought_sounds old new r (i ∷ items) [] step = absurd step
brought_sounds old new r (i ∷ items) (t ∷ ts) step = ap (λ ss. t ∷ ss) (brought_sounds step.0 new r items ts step.2)

brought_ises : {B : Type 0} (old new : HeapState B) (w : Whole) (r : Rate) (items : List Item) (ts : List Sound) → BringsEach old new r (sounds_in items) ts → ises w (brought_items r items ts) ≡ map (resampled r) (ises w items)
brought_ises old new w r [] [] step = refl
brought_ises old new w r [] (t ∷ ts) step = absurd step
brought_ises old new w r (i ∷ items) [] step = absurd step
brought_ises old new w r (i ∷ items) (t ∷ ts) step = ap (λ rest. resampled r (i.is w) ∷ rest) (brought_ises step.0 new w r items ts step.2)

-- ---- parts

-- each part stands in the table, and the sounds of its names are there
abbrev pub AreParts : ℕ → HeapState Branch → List Part → Type 0
AreParts n h [] = Unit {0}
AreParts n h (p ∷ ps) = (p.0.0 < n) × AreNamed h p.1 × AreParts n h ps

pub parts_kept : (n : ℕ) (old new : HeapState Branch) → AreKept old new → (ps : List Part) → AreParts n old ps → AreParts n new ps
parts_kept n old new kept [] are = tt
parts_kept n old new kept (p ∷ ps) are = (are.0, named_kept old new kept p.1 are.1, parts_kept n old new kept ps are.2)

pub parts_first : (n : ℕ) (h : HeapState Branch) (ps qs : List Part) → AreParts n h (ps ++ qs) → AreParts n h ps
parts_first n h [] qs are = tt
parts_first n h (p ∷ ps) qs are = (are.0, are.1, parts_first n h ps qs are.2)

pub parts_last : (n : ℕ) (h : HeapState Branch) (ps qs : List Part) → AreParts n h (ps ++ qs) → AreParts n h qs
parts_last n h [] qs are = are
parts_last n h (p ∷ ps) qs are = parts_last n h ps qs are.2

-- the parts of `sim` and `seq`, and those that are counted
pub parts_are : (n : ℕ) (h : HeapState Branch) (names : Names) → AreNamed h names → (es : List ExprId) → AllBelow n es → AreParts n h (parts_of names es)
parts_are n h names named [] below = tt
parts_are n h names named (e ∷ es) below = (below.0, named, parts_are n h names named es below.1)

pub counted_are : (n : ℕ) (h : HeapState Branch) (names : Names) (i : NameId) (count : ℕ) (e : ExprId) → AreNamed h names → e.0 < n → AreParts n h (counted_parts names i count e)
counted_are n h names i count e named inside = each (range_with_len 0 count)
  where
    each : (ks : List ℕ) → AreParts n h (map (λ k. let p : Part = (e, counted_names names i k) in p) ks)
    each [] = tt
    each (k ∷ ks) = (inside, named_append h names ((i, Number (pos (k * 1000000))) ∷ []) named (tt, tt), each ks)

-- what a part is, from an environment
abbrev pub part_in : Code → Whole → Part → Env → sounds.Sound
part_in code w p from = meaning code p.0.0 from (bound_in w p.1)

pub parts_in_are : (code : Code) (w : Whole) (names : Names) (es : List ExprId) → map (part_in code w) (parts_of names es) ≡ map (part_of (meaning code) (bound_in w names)) es
parts_in_are code w names [] = refl
parts_in_are code w names (e ∷ es) = ap (λ (rest : List (Env → sounds.Sound)). part_of (meaning code) (bound_in w names) e ∷ rest) (parts_in_are code w names es)

pub counted_in_are : (code : Code) (w : Whole) (names : Names) (i : NameId) (count : ℕ) (e : ExprId) → map (part_in code w) (counted_parts names i count e) ≡ repeated_parts (meaning code) (bound_in w names) i count e
counted_in_are code w names i count e = each (range_with_len 0 count)
  where
    each : (ks : List ℕ) → map (part_in code w) (map (λ k. let p : Part = (e, counted_names names i k) in p) ks) ≡ map (repeated_part (meaning code) (bound_in w names) i e) ks
    each [] = refl
    each (k ∷ ks) = λ j. (λ from. meaning code e.0 from (bound_append w names ((i, Number (pos (k * 1000000))) ∷ []) j)) ∷ each ks j

-- ---- parts together

module _ (code : Code) (D : Trace) (law : IsLawful code D) where
  abbrev pub part_items : Env → List Part → List Sound → List Item
  part_items env [] ss = []
  part_items env (p ∷ ps) [] = []
  part_items env (p ∷ ps) (s ∷ ss) = item s (λ w. part_in code w p env) ∷ part_items env ps ss

  parts_agree : (n : ℕ) (old : HeapState Branch) (env : Env) (w l : Whole) → Extends old w l → (ps : List Part) → AreParts n old ps → (ss : List Sound) → Agree w l (part_items env ps ss) (part_items env ps ss)
  parts_agree n old env w l extends [] are ss = tt
  parts_agree n old env w l extends (p ∷ ps) are [] = tt
  parts_agree n old env w l extends (p ∷ ps) are (s ∷ ss) = (refl, ap (meaning code p.0.0 env) (bound_stable old p.1 are.1 w l extends), parts_agree n old env w l extends ps are.2 ss)

  pub parts_come : (env : Env) (ps : List Part) (old new : HeapState Branch) (ss : List Sound) → AreParts (length code.nodes) old ps → HeapLaws old → PartsTurn D env ps old new ss → Comes (part_is code) old new (part_items env ps ss)
  parts_come env [] old new [] are laws step = subst (λ (h : HeapState Branch). Comes (part_is code) old h []) step (comes_none (part_is code) old laws)
  parts_come env [] old new (s ∷ ss) are laws step = absurd step
  parts_come env (p ∷ ps) old new [] are laws step = absurd step
  parts_come env (p ∷ ps) old new (s ∷ ss) are laws step =
      let first = law p.0.0 env p.1 old step.0 s step.1 are.0 laws are.1 in
      let rest = parts_come env ps step.0 new ss (parts_kept (length code.nodes) old step.0 first.hand.kept ps are.2) first.hand.laws step.2 in
      comes_then (part_is code) old step.0 new (item s (λ w. part_in code w p env) ∷ []) (part_items env ps ss) (part_items env ps ss) refl (λ w l means extends here. parts_agree (length code.nodes) old env w l extends ps are.2 ss) first rest

  pub part_sounds : (env : Env) (ps : List Part) (old new : HeapState Branch) (ss : List Sound) → PartsTurn D env ps old new ss → ss ≡ sounds_in (part_items env ps ss)
  part_sounds env [] old new [] step = refl
  part_sounds env [] old new (s ∷ ss) step = absurd step
  part_sounds env (p ∷ ps) old new [] step = absurd step
  part_sounds env (p ∷ ps) old new (s ∷ ss) step = ap (λ rest. s ∷ rest) (part_sounds env ps step.0 new ss step.2)

  part_ises : (env : Env) (w : Whole) (ps : List Part) (old new : HeapState Branch) (ss : List Sound) → PartsTurn D env ps old new ss → map (resampled env.sound_rate) (ises w (part_items env ps ss)) ≡ parts_together env (map (part_in code w) ps)
  part_ises env w [] old new [] step = refl
  part_ises env w [] old new (s ∷ ss) step = absurd step
  part_ises env w (p ∷ ps) old new [] step = absurd step
  part_ises env w (p ∷ ps) old new (s ∷ ss) step = ap (λ rest. resampled env.sound_rate (part_in code w p env) ∷ rest) (part_ises env w ps step.0 new ss step.2)

  -- `heard` tells the parts of the meaning
  pub sim_comes : (ps : List Part) (env : Env) (names : Names) (old new : HeapState Branch) (s : Sound) (heard : Bound → List (Env → sounds.Sound)) → ((w : Whole) → map (part_in code w) ps ≡ heard (bound_in w names)) → AreParts (length code.nodes) old ps → HeapLaws old → SimTurn D ps env old new s → Comes (part_is code) old new (item s (λ w. mix env.sound_rate (parts_together env (heard (bound_in w names)))) ∷ [])
  sim_comes ps env names old new s heard same are laws step =
      let r : Rate = env.sound_rate in
      let parts : List Item = part_items env ps step.parts in
      let items : List Item = brought_items r parts step.mixed.brought in
      let sounds_are = part_sounds env ps old step.mid step.parts step.each in
      let brings : BringsEach step.mid step.mixed.mid r (sounds_in parts) step.mixed.brought = subst (λ ss. BringsEach step.mid step.mixed.mid r ss step.mixed.brought) sounds_are step.mixed.brings in
      let brought_are = brought_sounds step.mid step.mixed.mid r parts step.mixed.brought brings in
      let each = parts_come env ps old step.mid step.parts are laws step.each in
      let all = each_brought (part_is code) old step.mid step.mixed.mid r parts [] step.mixed.brought laws (subst (λ zs. Comes (part_is code) old step.mid zs) (sym (append-nil parts)) each) brings in
      comes_made (part_is code) old step.mixed.mid new Mix (mix_timing r (map (λ s. s.timing) step.mixed.brought)) step.mixed.brought [] step.mixed.brought items [] s (λ w. mix r (parts_together env (heard (bound_in w names)))) laws brought_are all step.mixed.made
      (λ w l means extends begin here.
      let first : map (sound_at l) step.mixed.brought ≡ ises w items = ap (map (sound_at l)) brought_are ∙ are_ises w l items here in
      let whole : ises w items ≡ parts_together env (heard (bound_in w names)) =
      brought_ises step.mid step.mixed.mid w r parts step.mixed.brought brings ∙ part_ises env w ps old step.mid step.parts step.each ∙ ap (parts_together env) (same w) in
      let when : map (λ (s : Sound). s.timing) step.mixed.brought ≡ map timing_of (ises w items ++ []) = ap (map (λ (s : Sound). s.timing)) brought_are ∙ (times_ises (part_is code) step.mixed.mid w l items means begin here ∙ ap (map timing_of) (sym (append-nil (ises w items)))) in
      mix_is (part_is code) l r (mix_timing r (map (λ s. s.timing) step.mixed.brought)) step.mixed.brought [] (ises w items) [] first refl (ap (mix_timing r) when)
      ∙ ap (mix r) (append-nil (ises w items) ∙ whole))
