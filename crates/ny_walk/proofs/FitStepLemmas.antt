-- What calls of a heap do to whether the parts that wait fit.
use Rattle.std.proofs.Common.{◌≡◌, inl, inr, ℕ, suc, List, [], ◌∷◌, Option, None, Some, sym, ap, subst, ◌∙◌}
use Rattle.std.specs.Prelude.{get_or, Bool, true, false, ℤ}
use Rattle.std.proofs.lemmas.Bool.{cases_eq}
use Rattle.ny_num.specs.declared.rate.Rate.{Rate}
use Rattle.ny_num.specs.declared.timing.Timing.{Timing}
use Rattle.ny_warp.specs.declared.env.Env.{Env}
use Rattle.ny_scope.specs.Scopes.{last_of}
use Rattle.ny_resolve.specs.declared.term.NameId.{NameId}
use Rattle.ny_resolve.specs.Keys.{same_name}
use Rattle.ny_check.specs.declared.value.Value.{Value}
use Rattle.ny_check.specs.declared.value.Value.TheVariants.{Number, Sound as SoundOf}
use Rattle.ny_check.specs.Code.{Code}
use Rattle.ny_heap.specs.declared.sound.Sound.{Sound}
use Rattle.ny_heap.specs.Heap.{Kind, Node, Waiting, HeapState, node_at}
use Rattle.ny_heap.specs.Reach.{IsTrimmed}
use Rattle.ny_heap.specs.Steps.{new_node, without_sounds}
use Rattle.ny_hands.proofs.OptionLemmas.{same_at}
use Rattle.ny_hands.proofs.HeapLemmas.{Length, Empty, Long, length_of}
use Rattle.ny_hands.specs.declared.branch.Branch.{Branch}
use Rattle.ny_hands.specs.Calls.{Shares, Places, MakesUnit, ReleasesAll, Brings, Stay, Change, BringsEach, IsSilent}
use Rattle.ny_hands.specs.Frames.{Names}
use Rattle.ny_trace.specs.Evaluates.{Part, LouderTurn, KeepTurn, KeepsTurn, WaitsTurn}
use Rattle.ny_walk.specs.Fits.{FitsUnit, Fits}
use Rattle.ny_hands.proofs.MarkLemmas.{spent_like}
use Rattle.ny_trace.proofs.HeightLemmas.{ComesFrom, from_trimmed}
use Rattle.ny_trace.proofs.RisingSeqLemmas.{from_shared}

module _ (code : Code) where
  -- ---- steps

  pub fit_like : (mid new : HeapState Branch) → ComesFrom mid new → Fits code mid → Fits code new
  fit_like mid new from all v y at =
      let x = from v y at in
      subst (λ (q : Node Branch). FitsUnit code q) (sym x.2) (all v x.0 x.1)

  pub fit_trimmed : (mid new : HeapState Branch) (ss : List Sound) → IsTrimmed (without_sounds mid ss) new → Fits code mid → Fits code new
  fit_trimmed mid new ss trimmed all = fit_like mid new (from_trimmed mid new ss trimmed) all

  pub fit_released : (mid new : HeapState Branch) (ss : List Sound) → ReleasesAll mid new ss → Fits code mid → Fits code new
  fit_released mid new [] step all = subst (λ (h : HeapState Branch). Fits code h) step all
  fit_released mid new (s ∷ ss) step all = fit_released step.0 new ss step.2 (fit_trimmed mid step.0 (s ∷ []) step.1.trimmed all)

  pub fit_shared : (old new : HeapState Branch) (a s : Sound) → Shares old new a s → Fits code old → Fits code new
  fit_shared old new a s step all =
      fit_like old new (from_shared old new a s step) all

  pub fit_made : (mid new : HeapState Branch) (kind : Kind) (t : Timing) (inputs : List Sound) (waiting : List (Waiting Branch)) (spent : List Sound) (s : Sound) → FitsUnit code (new_node kind t inputs waiting) → MakesUnit mid new kind t inputs waiting spent s → Fits code mid → Fits code new
  fit_made mid new kind t inputs waiting spent s late step all = by_length (length_of t)
    where
      by_length : Length t → Fits code new
      by_length (Empty e f) = fit_trimmed mid new spent (step.makes.none e) all
      by_length (Long e f) = λ v y at. elim (cases_eq v step.makes.node) [
        | inl same ↦
            let adds = step.makes.unit e in
            let is : new_node kind t inputs waiting ≡ y = same_at (node_at new step.makes.node) (new_node kind t inputs waiting) y adds.after (ap (node_at new) (sym same) ∙ at) in
            subst (λ (q : Node Branch). FitsUnit code q) is late
        | inr other ↦
            let adds = step.makes.unit e in
            let x = (spent_like mid spent).from v y (sym (adds.others v other) ∙ at) in
            subst (λ (q : Node Branch). FitsUnit code q) (sym x.2) (all v x.0 x.1)
      ]

  -- where none waits
  pub fit_plain : (mid new : HeapState Branch) (kind : Kind) (t : Timing) (inputs spent : List Sound) (s : Sound) → MakesUnit mid new kind t inputs [] spent s → Fits code mid → Fits code new
  fit_plain mid new kind t inputs spent s step all = fit_made mid new kind t inputs [] spent s (λ none. tt) step all

  pub fit_brought : (mid new : HeapState Branch) (r : Rate) (a s : Sound) → Brings mid new r a s → Fits code mid → Fits code new
  fit_brought mid new r a s (Stay step) all = subst (λ (h : HeapState Branch). Fits code h) step.heap all
  fit_brought mid new r a s (Change step) all = fit_plain mid new _ _ (a ∷ []) (a ∷ []) s step.made all

  pub fit_brings : (mid new : HeapState Branch) (r : Rate) (ss ts : List Sound) → BringsEach mid new r ss ts → Fits code mid → Fits code new
  fit_brings mid new r [] [] step all = subst (λ (h : HeapState Branch). Fits code h) step all
  fit_brings mid new r [] (t ∷ ts) step all = absurd step
  fit_brings mid new r (s ∷ ss) [] step all = absurd step
  fit_brings mid new r (s ∷ ss) (t ∷ ts) step all = fit_brings step.0 new r ss ts step.2 (fit_brought mid step.0 r s t step.1 all)

  pub fit_placed : (mid new : HeapState Branch) (f : Timing → Timing) (a s : Sound) → Places mid new f a s → Fits code mid → Fits code new
  fit_placed mid new f a s step all = by_length (length_of s.timing)
    where
      by_length : Length s.timing → Fits code new
      by_length (Empty e f) = fit_trimmed mid new (a ∷ []) (step.all e) all
      by_length (Long e f) = subst (λ (h : HeapState Branch). Fits code h) (sym (step.some e)) all

  pub fit_silent : (old new : HeapState Branch) (r : Rate) (s : Sound) → IsSilent old new r s → Fits code old → Fits code new
  fit_silent old new r s step all = fit_plain old new _ _ [] [] s step all

  pub fit_kept : (names : Names) (xs : List NameId) (k : ℕ) (old new : HeapState Branch) (kept : List (NameId × Value ℕ)) (ss : List Sound) → KeepsTurn names xs k old new kept ss → Fits code old → Fits code new
  fit_kept names [] k old new kept ss step all = subst (λ (h : HeapState Branch). Fits code h) step.2 all
  fit_kept names (x ∷ xs) k old new kept ss step all = by_found (λ k from kept ss step all. fit_kept names xs k from new kept ss step all) (last_of (same_name x) names) step
    where
      by_found : ((k : ℕ) (from : HeapState Branch) (kept : List (NameId × Value ℕ)) (ss : List Sound) → KeepsTurn names xs k from new kept ss → Fits code from → Fits code new) → (o : Option (Value Sound)) → KeepTurn (KeepsTurn names xs) o x k old new kept ss → Fits code new
      by_found more None step = more k old kept ss step all
      by_found more (Some (Number v)) step = more k old step.0 ss step.1 all
      by_found more (Some (SoundOf a)) step = more (suc k) step.3 step.0 step.2 step.5 (fit_shared old step.3 a step.1 step.4 all)

  pub fit_waits : (env : Env) (ps : List Part) (old new : HeapState Branch) (qs : List (Branch × List Sound)) → WaitsTurn code env ps old new qs → Fits code old → Fits code new
  fit_waits env [] old new [] step all = subst (λ (h : HeapState Branch). Fits code h) step all
  fit_waits env [] old new (q ∷ qs) step all = absurd step
  fit_waits env (p ∷ ps) old new [] step all = absurd step
  fit_waits env (p ∷ ps) old new (q ∷ qs) step all = fit_waits env ps step.0 new qs step.4 (fit_kept p.1 (get_or code.free p.0.0 []) 0 old step.0 q.0.names q.1 step.3 all)

  pub fit_louder : (old new : HeapState Branch) (is : Bool) (loud : ℤ) (a s : Sound) → LouderTurn is loud a old new s → Fits code old → Fits code new
  fit_louder old new true loud a s step all = subst (λ (h : HeapState Branch). Fits code h) step.0 all
  fit_louder old new false loud a s step all = fit_plain old new _ _ (a ∷ []) (a ∷ []) s step all
