-- What calls of a heap do to the parts that wait.
use Rattle.std.proofs.Common.{◌≡◌, inl, inr, ℕ, suc, ◌+◌, length, List, [], ◌∷◌, Option, None, Some, refl, sym, ap, subst, ◌∙◌, arith}
use Rattle.std.specs.Prelude.{get_or, slice_get, Bool, true, false, ℤ}
use Rattle.std.proofs.lemmas.Bool.{cases_eq}
use Rattle.ny_num.specs.declared.rate.Rate.{Rate}
use Rattle.ny_num.specs.declared.timing.Timing.{Timing}
use Rattle.ny_warp.specs.declared.env.Env.{Env}
use Rattle.ny_scope.specs.Scopes.{last_of}
use Rattle.ny_resolve.specs.declared.term.NameId.{NameId}
use Rattle.ny_resolve.specs.Keys.{same_name}
use Rattle.ny_check.specs.declared.value.Value.{Value}
use Rattle.ny_check.specs.declared.value.Value.TheVariants.{Number, Sound as SoundOf}
use Rattle.ny_check.specs.Code.{Code}
use Rattle.ny_heap.specs.declared.sound.Sound.{Sound}
use Rattle.ny_heap.specs.Heap.{Kind, Node, Waiting, HeapState, node_at}
use Rattle.ny_heap.specs.Reach.{IsTrimmed}
use Rattle.ny_heap.specs.Steps.{new_node, without_sounds}
use Rattle.ny_hands.proofs.OptionLemmas.{same_at}
use Rattle.ny_hands.proofs.HeapLemmas.{Length, Empty, Long, length_of}
use Rattle.ny_hands.specs.declared.branch.Branch.{Branch}
use Rattle.ny_hands.specs.Calls.{Shares, Places, MakesUnit, ReleasesAll, Brings, Stay, Change, BringsEach, IsSilent}
use Rattle.ny_hands.specs.Frames.{Names}
use Rattle.ny_trace.specs.Evaluates.{Part, LouderTurn, KeepTurn, KeepsTurn, WaitsTurn}
use Rattle.ny_walk.specs.Parts.{AreKept, HasPartsOf, AllPartsOf}
use Rattle.ny_hands.proofs.MarkLemmas.{spent_like}
use Rattle.ny_trace.proofs.HeightLemmas.{ComesFrom, from_trimmed}
use Rattle.ny_trace.proofs.RisingSeqLemmas.{from_shared}

-- a branch keeps the sounds of its names, each once and in order
pub kept_in_order : (names : Names) (xs : List NameId) (k : ℕ) (old new : HeapState Branch) (kept : List (NameId × Value ℕ)) (ss : List Sound) (n : ℕ) → KeepsTurn names xs k old new kept ss → k + length ss ≡ n → AreKept k kept n
kept_in_order names [] k old new kept ss n step e =
    subst (λ (bs : List (NameId × Value ℕ)). AreKept k bs n) (sym step.0) (omega (arith, e, ap (λ (qs : List Sound). length qs) step.1))
kept_in_order names (x ∷ xs) k old new kept ss n step e = by_found (λ k from kept ss step e. kept_in_order names xs k from new kept ss n step e) (last_of (same_name x) names) step
  where
    by_found : ((k : ℕ) (from : HeapState Branch) (kept : List (NameId × Value ℕ)) (ss : List Sound) → KeepsTurn names xs k from new kept ss → k + length ss ≡ n → AreKept k kept n) → (o : Option (Value Sound)) → KeepTurn (KeepsTurn names xs) o x k old new kept ss → AreKept k kept n
    by_found more None step = more k old kept ss step e
    by_found more (Some (Number v)) step = subst (λ (bs : List (NameId × Value ℕ)). AreKept k bs n) (sym step.2) (more k old step.0 ss step.1 e)
    by_found more (Some (SoundOf a)) step =
        subst (λ (bs : List (NameId × Value ℕ)). AreKept k bs n) (sym step.6)
        (refl, more (suc k) step.3 step.0 step.2 step.5 (omega (arith, e, ap (λ (qs : List Sound). length qs) step.7)))

module _ (code : Code) where
  -- ---- steps

  pub parts_like : (mid new : HeapState Branch) → ComesFrom mid new → AllPartsOf code mid → AllPartsOf code new
  parts_like mid new from all v y at =
      let x = from v y at in
      subst (λ (q : Node Branch). HasPartsOf code q) (sym x.2) (all v x.0 x.1)

  pub parts_trimmed : (mid new : HeapState Branch) (ss : List Sound) → IsTrimmed (without_sounds mid ss) new → AllPartsOf code mid → AllPartsOf code new
  parts_trimmed mid new ss trimmed all = parts_like mid new (from_trimmed mid new ss trimmed) all

  pub parts_released : (mid new : HeapState Branch) (ss : List Sound) → ReleasesAll mid new ss → AllPartsOf code mid → AllPartsOf code new
  parts_released mid new [] step all = subst (λ (h : HeapState Branch). AllPartsOf code h) step all
  parts_released mid new (s ∷ ss) step all = parts_released step.0 new ss step.2 (parts_trimmed mid step.0 (s ∷ []) step.1.trimmed all)

  pub parts_shared : (old new : HeapState Branch) (a s : Sound) → Shares old new a s → AllPartsOf code old → AllPartsOf code new
  parts_shared old new a s step all =
      parts_like old new (from_shared old new a s step) all

  pub parts_made : (mid new : HeapState Branch) (kind : Kind) (t : Timing) (inputs : List Sound) (waiting : List (Waiting Branch)) (spent : List Sound) (s : Sound) → HasPartsOf code (new_node kind t inputs waiting) → MakesUnit mid new kind t inputs waiting spent s → AllPartsOf code mid → AllPartsOf code new
  parts_made mid new kind t inputs waiting spent s late step all = by_length (length_of t)
    where
      by_length : Length t → AllPartsOf code new
      by_length (Empty e f) = parts_trimmed mid new spent (step.makes.none e) all
      by_length (Long e f) = λ v y at. elim (cases_eq v step.makes.node) [
        | inl same ↦
            let adds = step.makes.unit e in
            let is : new_node kind t inputs waiting ≡ y = same_at (node_at new step.makes.node) (new_node kind t inputs waiting) y adds.after (ap (node_at new) (sym same) ∙ at) in
            subst (λ (q : Node Branch). HasPartsOf code q) is late
        | inr other ↦
            let adds = step.makes.unit e in
            let x = (spent_like mid spent).from v y (sym (adds.others v other) ∙ at) in
            subst (λ (q : Node Branch). HasPartsOf code q) (sym x.2) (all v x.0 x.1)
      ]

  -- where none waits
  pub parts_plain : (mid new : HeapState Branch) (kind : Kind) (t : Timing) (inputs spent : List Sound) (s : Sound) → MakesUnit mid new kind t inputs [] spent s → AllPartsOf code mid → AllPartsOf code new
  parts_plain mid new kind t inputs spent s step all = parts_made mid new kind t inputs [] spent s (λ i p e. absurd (never i p e)) step all
    where
      never : (i : ℕ) (p : Waiting Branch) → slice_get [] i ≡ Some p → ⊥
      never i p e = cc

  pub parts_brought : (mid new : HeapState Branch) (r : Rate) (a s : Sound) → Brings mid new r a s → AllPartsOf code mid → AllPartsOf code new
  parts_brought mid new r a s (Stay step) all = subst (λ (h : HeapState Branch). AllPartsOf code h) step.heap all
  parts_brought mid new r a s (Change step) all = parts_plain mid new _ _ (a ∷ []) (a ∷ []) s step.made all

  pub parts_brings : (mid new : HeapState Branch) (r : Rate) (ss ts : List Sound) → BringsEach mid new r ss ts → AllPartsOf code mid → AllPartsOf code new
  parts_brings mid new r [] [] step all = subst (λ (h : HeapState Branch). AllPartsOf code h) step all
  parts_brings mid new r [] (t ∷ ts) step all = absurd step
  parts_brings mid new r (s ∷ ss) [] step all = absurd step
  parts_brings mid new r (s ∷ ss) (t ∷ ts) step all = parts_brings step.0 new r ss ts step.2 (parts_brought mid step.0 r s t step.1 all)

  pub parts_placed : (mid new : HeapState Branch) (f : Timing → Timing) (a s : Sound) → Places mid new f a s → AllPartsOf code mid → AllPartsOf code new
  parts_placed mid new f a s step all = by_length (length_of s.timing)
    where
      by_length : Length s.timing → AllPartsOf code new
      by_length (Empty e f) = parts_trimmed mid new (a ∷ []) (step.all e) all
      by_length (Long e f) = subst (λ (h : HeapState Branch). AllPartsOf code h) (sym (step.some e)) all

  pub parts_silent : (old new : HeapState Branch) (r : Rate) (s : Sound) → IsSilent old new r s → AllPartsOf code old → AllPartsOf code new
  parts_silent old new r s step all = parts_plain old new _ _ [] [] s step all

  pub parts_kept : (names : Names) (xs : List NameId) (k : ℕ) (old new : HeapState Branch) (kept : List (NameId × Value ℕ)) (ss : List Sound) → KeepsTurn names xs k old new kept ss → AllPartsOf code old → AllPartsOf code new
  parts_kept names [] k old new kept ss step all = subst (λ (h : HeapState Branch). AllPartsOf code h) step.2 all
  parts_kept names (x ∷ xs) k old new kept ss step all = by_found (λ k from kept ss step all. parts_kept names xs k from new kept ss step all) (last_of (same_name x) names) step
    where
      by_found : ((k : ℕ) (from : HeapState Branch) (kept : List (NameId × Value ℕ)) (ss : List Sound) → KeepsTurn names xs k from new kept ss → AllPartsOf code from → AllPartsOf code new) → (o : Option (Value Sound)) → KeepTurn (KeepsTurn names xs) o x k old new kept ss → AllPartsOf code new
      by_found more None step = more k old kept ss step all
      by_found more (Some (Number v)) step = more k old step.0 ss step.1 all
      by_found more (Some (SoundOf a)) step = more (suc k) step.3 step.0 step.2 step.5 (parts_shared old step.3 a step.1 step.4 all)

  pub parts_waits : (env : Env) (ps : List Part) (old new : HeapState Branch) (qs : List (Branch × List Sound)) → WaitsTurn code env ps old new qs → AllPartsOf code old → AllPartsOf code new
  parts_waits env [] old new [] step all = subst (λ (h : HeapState Branch). AllPartsOf code h) step all
  parts_waits env [] old new (q ∷ qs) step all = absurd step
  parts_waits env (p ∷ ps) old new [] step all = absurd step
  parts_waits env (p ∷ ps) old new (q ∷ qs) step all = parts_waits env ps step.0 new qs step.4 (parts_kept p.1 (get_or code.free p.0.0 []) 0 old step.0 q.0.names q.1 step.3 all)

  pub parts_louder : (old new : HeapState Branch) (is : Bool) (loud : ℤ) (a s : Sound) → LouderTurn is loud a old new s → AllPartsOf code old → AllPartsOf code new
  parts_louder old new true loud a s step all = subst (λ (h : HeapState Branch). AllPartsOf code h) step.0 all
  parts_louder old new false loud a s step all = parts_plain old new _ _ (a ∷ []) (a ∷ []) s step all
