-- Evaluation leaves no part that is due.
use Rattle.std.proofs.Common.{◌≡◌, ◌⊎◌, inl, inr, ℕ, zero, suc, ◌+◌, ◌*◌, ◌≤◌, List, [], ◌∷◌, ◌++◌, map, Option, None, Some, refl, sym, ap, subst, ◌∙◌, arith, length, take}
use Rattle.std.specs.Prelude.{zip, get_or, if◌then◌else◌, Bool, true, false, ℤ, pos}
use Rattle.std.proofs.lemmas.Bool.{cases_eq}
use Rattle.ny_num.specs.Grid.{index_at}
use Rattle.ny_num.specs.declared.rate.Rate.{Rate}
use Rattle.ny_num.specs.declared.timing.Timing.{Timing}
use Rattle.ny_warp.specs.declared.env.Env.{Env}
use Rattle.ny_num.specs.Sound.{placed_timing}
use Rattle.ny_resolve.specs.declared.builtin.Order.TheVariants as order
use Rattle.ny_warp.specs.Environment.{from_stop}
use Rattle.ny_scope.specs.Scopes.{last_of}
use Rattle.ny_resolve.specs.declared.term.NameId.{NameId}
use Rattle.ny_resolve.specs.Keys.{same_name}
use Rattle.ny_kernels.specs.declared.operation.Op.{Op}
use Rattle.ny_kernels.specs.declared.operation.Op.TheVariants.{Sub}
use Rattle.ny_check.specs.declared.node.Node.{Node as NodeOf}
use Rattle.ny_check.specs.declared.node.Node.TheVariants as node
use Rattle.ny_check.specs.declared.node.ExprId.{ExprId}
use Rattle.ny_check.specs.declared.value.Value.{Value}
use Rattle.ny_check.specs.declared.value.Value.TheVariants.{Number, Sound as SoundOf}
use Rattle.ny_check.specs.Code.{Code, node_at as node_in, function_at}
use Rattle.ny_check.specs.Values.{scalars_of, number_of, test_of}
use Rattle.ny_check.specs.Behaviours.{is_one, cue_timing}
use Rattle.ny_check.specs.Families.{changed_env}
use Rattle.ny_heap.specs.declared.sound.Sound.{Sound}
use Rattle.ny_heap.specs.Heap.{Kind, Node, Waiting, HeapState, node_at, list_of, place_of}
use Rattle.ny_heap.specs.Reach.{IsTrimmed}
use Rattle.ny_heap.specs.Steps.{waiting_of, last_stop_of, new_node, without_sounds, IsSettledUnit}
use Rattle.ny_hands.proofs.OptionLemmas.{same_at}
use Rattle.ny_hands.proofs.HeapLemmas.{Length, Empty, Long, length_of}
use Rattle.ny_hands.specs.declared.branch.Branch.{Branch}
use Rattle.ny_hands.specs.Calls.{Shares, Places, MakesUnit, ReleasesAll, Brings, Stay, Change, BringsEach, IsSilent}
use Rattle.ny_hands.specs.Frames.{Names, sounds_among}
use Rattle.ny_trace.specs.Evaluates.{Trace, Part, parts_of, counted_parts, LouderTurn, NameTurn, ValueTurn, BindsTurn, ValuesTurn, JoinTurn, PartsTurn, SimTurn, NextsTurn, KeepTurn, KeepsTurn, sounds_of_values, WaitsTurn, SeqTurn, NodeTurn, Evaluates}
use Rattle.ny_trace.specs.Settled.{SettledBut, IsSettling}
use Rattle.ny_hands.proofs.MarkLemmas.{spent_like, marked_like}
use Rattle.ny_trace.proofs.HeightLemmas.{ComesFrom, from_trimmed}
use Rattle.ny_trace.proofs.RisingSeqLemmas.{from_shared}

module _ (but : ℕ → Bool) where
  -- ---- steps

  pub settled_like : (mid new : HeapState Branch) → new.block ≡ mid.block → ComesFrom mid new → SettledBut but mid → SettledBut but new
  settled_like mid new block from all v y at apart =
      let x = from v y at in
      subst (λ (q : Node Branch). IsSettledUnit new.block q) (sym x.2) (subst (λ n. IsSettledUnit n x.0) (sym block) (all v x.0 x.1 apart))

  settled_trimmed : (mid new : HeapState Branch) (ss : List Sound) → IsTrimmed (without_sounds mid ss) new → SettledBut but mid → SettledBut but new
  settled_trimmed mid new ss trimmed all = settled_like mid new (trimmed.size.block ∙ (spent_like mid ss).counts.block) (from_trimmed mid new ss trimmed) all

  pub settled_released : (mid new : HeapState Branch) (ss : List Sound) → ReleasesAll mid new ss → SettledBut but mid → SettledBut but new
  settled_released mid new [] step all = subst (λ (h : HeapState Branch). SettledBut but h) step all
  settled_released mid new (s ∷ ss) step all = settled_released step.0 new ss step.2 (settled_trimmed mid step.0 (s ∷ []) step.1.trimmed all)

  settled_shared : (old new : HeapState Branch) (a s : Sound) → Shares old new a s → SettledBut but old → SettledBut but new
  settled_shared old new a s step all =
      settled_like old new (subst (λ (h : HeapState Branch). h.block ≡ old.block) (sym step.heap) (marked_like (λ n. n + 1) old (place_of s) (list_of s)).counts.block) (from_shared old new a s step) all

  settled_made : (mid new : HeapState Branch) (kind : Kind) (t : Timing) (inputs : List Sound) (waiting : List (Waiting Branch)) (spent : List Sound) (s : Sound) → (waiting ≡ []) ⊎ (t.start + mid.block ≤ index_at (last_stop_of 0 inputs) t.rate) → MakesUnit mid new kind t inputs waiting spent s → SettledBut but mid → SettledBut but new
  settled_made mid new kind t inputs waiting spent s late step all = by_length (length_of t)
    where
      late_unit : (block : ℕ) → block ≡ mid.block → (waiting ≡ []) ⊎ (t.start + mid.block ≤ index_at (last_stop_of 0 inputs) t.rate) → (waiting ≡ []) ⊎ (t.start + (0 + 1) * block ≤ index_at (last_stop_of 0 inputs) t.rate)
      late_unit block same (inl none) = inl none
      late_unit block same (inr after) = inr (let one : (0 + 1) * block ≡ block = grind arith in omega (arith, after, one, same))

      by_length : Length t → SettledBut but new
      by_length (Empty e f) = settled_trimmed mid new spent (step.makes.none e) all
      by_length (Long e f) = λ v y at apart. elim (cases_eq v step.makes.node) [
        | inl same ↦
            let adds = step.makes.unit e in
            let is : new_node kind t inputs waiting ≡ y = same_at (node_at new step.makes.node) (new_node kind t inputs waiting) y adds.after (ap (node_at new) (sym same) ∙ at) in
            subst (λ (q : Node Branch). IsSettledUnit new.block q) is (refl, late_unit new.block (adds.size.block ∙ (spent_like mid spent).counts.block) late)
        | inr other ↦
            let adds = step.makes.unit e in
            let x = (spent_like mid spent).from v y (sym (adds.others v other) ∙ at) in
            subst (λ (q : Node Branch). IsSettledUnit new.block q) (sym x.2) (subst (λ n. IsSettledUnit n x.0) (sym (adds.size.block ∙ (spent_like mid spent).counts.block)) (all v x.0 x.1 apart))
      ]

  pub settled_brought : (mid new : HeapState Branch) (r : Rate) (a s : Sound) → Brings mid new r a s → SettledBut but mid → SettledBut but new
  settled_brought mid new r a s (Stay step) all = subst (λ (h : HeapState Branch). SettledBut but h) step.heap all
  settled_brought mid new r a s (Change step) all = settled_made mid new _ _ (a ∷ []) [] (a ∷ []) s (inl refl) step.made all

  settled_brings : (mid new : HeapState Branch) (r : Rate) (ss ts : List Sound) → BringsEach mid new r ss ts → SettledBut but mid → SettledBut but new
  settled_brings mid new r [] [] step all = subst (λ (h : HeapState Branch). SettledBut but h) step all
  settled_brings mid new r [] (t ∷ ts) step all = absurd step
  settled_brings mid new r (s ∷ ss) [] step all = absurd step
  settled_brings mid new r (s ∷ ss) (t ∷ ts) step all = settled_brings step.0 new r ss ts step.2 (settled_brought mid step.0 r s t step.1 all)

  pub settled_placed : (mid new : HeapState Branch) (f : Timing → Timing) (a s : Sound) → Places mid new f a s → SettledBut but mid → SettledBut but new
  settled_placed mid new f a s step all = by_length (length_of s.timing)
    where
      by_length : Length s.timing → SettledBut but new
      by_length (Empty e f) = settled_trimmed mid new (a ∷ []) (step.all e) all
      by_length (Long e f) = subst (λ (h : HeapState Branch). SettledBut but h) (sym (step.some e)) all

  settled_silent : (old new : HeapState Branch) (r : Rate) (s : Sound) → IsSilent old new r s → SettledBut but old → SettledBut but new
  settled_silent old new r s step all = settled_made old new _ _ [] [] [] s (inl refl) step all

  settled_kept : (names : Names) (xs : List NameId) (k : ℕ) (old new : HeapState Branch) (kept : List (NameId × Value ℕ)) (ss : List Sound) → KeepsTurn names xs k old new kept ss → SettledBut but old → SettledBut but new
  settled_kept names [] k old new kept ss step all = subst (λ (h : HeapState Branch). SettledBut but h) step.2 all
  settled_kept names (x ∷ xs) k old new kept ss step all = by_found (λ k from kept ss step all. settled_kept names xs k from new kept ss step all) (last_of (same_name x) names) step
    where
      by_found : ((k : ℕ) (from : HeapState Branch) (kept : List (NameId × Value ℕ)) (ss : List Sound) → KeepsTurn names xs k from new kept ss → SettledBut but from → SettledBut but new) → (o : Option (Value Sound)) → KeepTurn (KeepsTurn names xs) o x k old new kept ss → SettledBut but new
      by_found more None step = more k old kept ss step all
      by_found more (Some (Number v)) step = more k old step.0 ss step.1 all
      by_found more (Some (SoundOf a)) step = more (suc k) step.3 step.0 step.2 step.5 (settled_shared old step.3 a step.1 step.4 all)

  settled_waits : (code : Code) (env : Env) (ps : List Part) (old new : HeapState Branch) (qs : List (Branch × List Sound)) → WaitsTurn code env ps old new qs → SettledBut but old → SettledBut but new
  settled_waits code env [] old new [] step all = subst (λ (h : HeapState Branch). SettledBut but h) step all
  settled_waits code env [] old new (q ∷ qs) step all = absurd step
  settled_waits code env (p ∷ ps) old new [] step all = absurd step
  settled_waits code env (p ∷ ps) old new (q ∷ qs) step all = settled_waits code env ps step.0 new qs step.4 (settled_kept p.1 (get_or code.free p.0.0 []) 0 old step.0 q.0.names q.1 step.3 all)

  settled_louder : (old new : HeapState Branch) (is : Bool) (loud : ℤ) (a s : Sound) → LouderTurn is loud a old new s → SettledBut but old → SettledBut but new
  settled_louder old new true loud a s step all = subst (λ (h : HeapState Branch). SettledBut but h) step.0 all
  settled_louder old new false loud a s step all = settled_made old new _ _ (a ∷ []) [] (a ∷ []) s (inl refl) step all

  -- ---- families

  module _ (code : Code) (D : Trace) (settles : IsSettling D) where
    law : (e : ℕ) (env : Env) (names : Names) (old new : HeapState Branch) (s : Sound) → D e env names old new s → SettledBut but old → SettledBut but new
    law e env names old new s step all = settles e env names old new s step but all

    settled_value : (env : Env) (names : Names) (e : ExprId) (old new : HeapState Branch) (v : Value Sound) → ValueTurn D code env names e old new v → SettledBut but old → SettledBut but new
    settled_value env names e old new (Number k) step all = subst (λ (h : HeapState Branch). SettledBut but h) step.1 all
    settled_value env names e old new (SoundOf s) step all = law e.0 env names old new s step.1 all

    pub settled_binds : (env : Env) (bs : List (NameId × ExprId)) (names : Names) (old new : HeapState Branch) (added : Names) → BindsTurn D code env bs names old new added → SettledBut but old → SettledBut but new
    settled_binds env [] names old new [] step all = subst (λ (h : HeapState Branch). SettledBut but h) step all
    settled_binds env [] names old new (a ∷ added) step all = absurd step
    settled_binds env (b ∷ bs) names old new [] step all = absurd step
    settled_binds env (b ∷ bs) names old new (a ∷ added) step all = settled_binds env bs (names ++ a ∷ []) step.0 new added step.3 (settled_value env names b.1 old step.0 a.1 step.2 all)

    pub settled_values : (env : Env) (names : Names) (es : List ExprId) (old new : HeapState Branch) (vs : List (Value Sound)) → ValuesTurn D code env names es old new vs → SettledBut but old → SettledBut but new
    settled_values env names [] old new [] step all = subst (λ (h : HeapState Branch). SettledBut but h) step all
    settled_values env names [] old new (v ∷ vs) step all = absurd step
    settled_values env names (e ∷ es) old new [] step all = absurd step
    settled_values env names (e ∷ es) old new (v ∷ vs) step all = settled_values env names es step.0 new vs step.2 (settled_value env names e old step.0 v step.1 all)

    settled_join : (op : Op) (r : Rate) (x y : Value Sound) (old new : HeapState Branch) (s : Sound) → JoinTurn op r x y old new s → SettledBut but old → SettledBut but new
    settled_join op r (Number j) (Number k) old new s step all = settled_silent old new r s step all
    settled_join op r (Number j) (SoundOf b) old new s step all = settled_made step.mid new _ _ (step.brought ∷ []) [] (step.brought ∷ []) s (inl refl) step.made (settled_brought old step.mid r b step.brought step.brings all)
    settled_join op r (SoundOf a) (Number k) old new s step all = settled_made step.mid new _ _ (step.brought ∷ []) [] (step.brought ∷ []) s (inl refl) step.made (settled_brought old step.mid r a step.brought step.brings all)
    settled_join op r (SoundOf a) (SoundOf b) old new s step all =
        settled_made step.end new _ _ (step.first ∷ step.second ∷ []) [] (step.first ∷ step.second ∷ []) s (inl refl) step.made
        (settled_brought step.mid step.end r b step.second step.brings_second (settled_brought old step.mid r a step.first step.brings_first all))

    pub settled_parts : (env : Env) (ps : List Part) (old new : HeapState Branch) (ss : List Sound) → PartsTurn D env ps old new ss → SettledBut but old → SettledBut but new
    settled_parts env [] old new [] step all = subst (λ (h : HeapState Branch). SettledBut but h) step all
    settled_parts env [] old new (s ∷ ss) step all = absurd step
    settled_parts env (p ∷ ps) old new [] step all = absurd step
    settled_parts env (p ∷ ps) old new (s ∷ ss) step all = settled_parts env ps step.0 new ss step.2 (law p.0.0 env p.1 old step.0 s step.1 all)

    settled_nexts : (env : Env) (stop : ℕ) (ps : List Part) (old new : HeapState Branch) (ss : List Sound) → NextsTurn D env stop ps old new ss → SettledBut but old → SettledBut but new
    settled_nexts env stop [] old new [] step all = subst (λ (h : HeapState Branch). SettledBut but h) step all
    settled_nexts env stop [] old new (s ∷ ss) step all = absurd step
    settled_nexts env stop (p ∷ ps) old new [] step all = absurd step
    settled_nexts env stop (p ∷ ps) old new (s ∷ ss) step all =
        let next = step.1 in
        settled_nexts env s.timing.stop ps step.0 new ss step.2
        (settled_placed next.end step.0 (placed_timing (index_at stop env.sound_rate)) next.brought s next.places
        (settled_brought next.mid next.end env.sound_rate next.part next.brought next.brings
        (law p.0.0 (from_stop env stop) p.1 old next.mid next.part next.evaluates all)))

    -- ---- mixes

    settled_sim : (ps : List Part) (env : Env) (old new : HeapState Branch) (s : Sound) → SimTurn D ps env old new s → SettledBut but old → SettledBut but new
    settled_sim ps env old new s step all =
        settled_made step.mixed.mid new _ _ step.mixed.brought [] step.mixed.brought s (inl refl) step.mixed.made (settled_brings step.mid step.mixed.mid env.sound_rate step.parts step.mixed.brought step.mixed.brings (settled_parts env ps old step.mid step.parts step.each all))

    settled_seq : (e : ℕ) (ps : List Part) (env : Env) (names : Names) (old new : HeapState Branch) (s : Sound) → SeqTurn D code e ps env names old new s → SettledBut but old → SettledBut but new
    settled_seq e ps env names old new s step all =
        settled_made step.four new _ step.t (step.brought ∷ step.others) (map waiting_of step.waiting) _ s (by_waiting step.not_due) step.made
        (settled_waits code env step.later step.three step.four step.waiting step.waits
        (settled_nexts env step.brought.timing.stop step.now step.two step.three step.others step.nexts
        (settled_brought step.one step.two env.sound_rate step.part step.brought step.brings
        (law step.first.0.0 env step.first.1 old step.one step.part step.evaluates all))))
      where
        by_waiting : (step.waiting ≡ []) ⊎ (step.t.start + step.four.block ≤ index_at (last_stop_of 0 (step.brought ∷ step.others)) step.t.rate) → (map waiting_of step.waiting ≡ []) ⊎ (step.t.start + step.four.block ≤ index_at (last_stop_of 0 (step.brought ∷ step.others)) step.t.rate)
        by_waiting (inl none) = inl (ap (map waiting_of) none)
        by_waiting (inr after) = inr after

    settled_node : (e : ℕ) (at : NodeOf) (env : Env) (names : Names) (old new : HeapState Branch) (s : Sound) → NodeTurn D code e at env names old new s → SettledBut but old → SettledBut but new
    settled_node e (node.Local x) env names old new s step all = by_found (last_of (same_name x) names) step
      where
        by_found : (o : Option (Value Sound)) → NameTurn env.sound_rate o old new s → SettledBut but new
        by_found None step = settled_silent old new env.sound_rate s step all
        by_found (Some (Number v)) step = settled_silent old new env.sound_rate s step all
        by_found (Some (SoundOf a)) step = settled_shared old new a s step all
    settled_node e (node.If c a b) env names old new s step all = law (if test_of code c (scalars_of names) then a.0 else b.0) env names old new s step all
    settled_node e (node.Pair op a b) env names old new s step all = settled_join op env.sound_rate step.left step.right step.end new s step.joined (settled_value env names b step.mid step.end step.right step.second (settled_value env names a old step.mid step.left step.first all))
    settled_node e (node.Neg a) env names old new s step all = settled_join Sub env.sound_rate (Number (pos 0)) step.value step.mid new s step.joined (settled_value env names a old step.mid step.value step.operand all)
    settled_node e (node.Leaf g es) env names old new s step all = settled_made old new _ _ [] [] [] s (inl refl) step.made all
    settled_node e (node.Effect fx a es) env names old new s step all = settled_made step.mid new _ _ (step.part ∷ []) [] (step.part ∷ []) s (inl refl) step.made (law a.0 env names old step.mid step.part step.evaluates all)
    settled_node e (node.Change c a) env names old new s step all = law a.0 (changed_env c (λ k. number_of code k (scalars_of names)) env) names old new s step all
    settled_node e (node.Block bs a) env names old new s step all = settled_released step.end new (sounds_among step.added) step.given_up (law a.0 env (names ++ step.added) step.mid step.end s step.body (settled_binds env bs names old step.mid step.added step.binds all))
    settled_node e (node.Call f es) env names old new s step all =
        settled_released step.end new (sounds_of_values step.values) step.given_up
        (law (function_at code f.0).body.0 env (zip (function_at code f.0).params step.values) step.mid step.end s step.inside (settled_values env names (take (length (function_at code f.0).params) es) old step.mid step.values step.arguments all))
    settled_node e (node.Cue a) env names old new s step all =
        settled_louder step.cued.mid new (is_one env.loud) env.loud step.cued.later s step.cued.louder (settled_placed step.mid step.cued.mid (cue_timing env) step.part step.cued.later step.cued.places (law a.0 env names old step.mid step.part step.evaluates all))
    settled_node e (node.Mix order.Together es) env names old new s step all = settled_sim (parts_of names es) env old new s step all
    settled_node e (node.Mix order.InTurn es) env names old new s step all = settled_seq e (parts_of names es) env names old new s step all
    settled_node e (node.Repeat order.Together i k a) env names old new s step all = settled_sim (counted_parts names i k a) env old new s step all
    settled_node e (node.Repeat order.InTurn i k a) env names old new s step all = settled_seq e (counted_parts names i k a) env names old new s step all
    settled_node e (node.Number v) env names old new s step all = settled_silent old new env.sound_rate s step all
    settled_node e (node.Global a) env names old new s step all = settled_silent old new env.sound_rate s step all
    settled_node e (node.Div a v) env names old new s step all = settled_silent old new env.sound_rate s step all
    settled_node e (node.Compare r a b) env names old new s step all = settled_silent old new env.sound_rate s step all
    settled_node e (node.And a b) env names old new s step all = settled_silent old new env.sound_rate s step all
    settled_node e (node.Or a b) env names old new s step all = settled_silent old new env.sound_rate s step all
    settled_node e (node.Not a) env names old new s step all = settled_silent old new env.sound_rate s step all
    settled_node e (node.Vector es) env names old new s step all = settled_silent old new env.sound_rate s step all

pub evaluates_settling : (code : Code) (n : ℕ) → IsSettling (Evaluates code n)
evaluates_settling code zero e env names old new s t but all = absurd t
evaluates_settling code (suc n) e env names old new s (inl t) but all = evaluates_settling code n e env names old new s t but all
evaluates_settling code (suc n) e env names old new s (inr t) but all = settled_node but code (Evaluates code n) (evaluates_settling code n) e (node_in code e) env names old new s t all
