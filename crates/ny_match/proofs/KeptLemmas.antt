-- Parts that wait: what they keep is what the plan's parts have captured.
use Rattle.std.proofs.Common.{◌≡◌, ◌≢◌, ◌⊎◌, inl, inr, ℕ, suc, nat_eq, Bool, true, false, List, [], ◌∷◌, ◌++◌, map, length, get_or, slice_get, Option, None, Some, refl, sym, ap, subst, ◌∙◌, arith}
use Rattle.std.specs.Prelude.{flat_map, ◌||◌}
use Rattle.std.specs.Option.{option_map}
use Rattle.std.specs.List.{AllZip, list_any}
use Rattle.std.proofs.lemmas.List.{append_assoc}
use Rattle.std.proofs.lemmas.Bool.Decides.{eqb_tells}
use Rattle.std.proofs.Math.ListN.{length-append}
use Rattle.ny_scope.specs.Scopes.{last_of}
use Rattle.ny_resolve.specs.declared.term.NameId.{NameId}
use Rattle.ny_resolve.specs.Keys.{same_name}
use Rattle.ny_warp.specs.declared.env.Env.{Env}
use Rattle.ny_check.specs.declared.node.ExprId.{ExprId}
use Rattle.ny_check.specs.declared.value.Value.{Value}
use Rattle.ny_check.specs.declared.value.Value.TheVariants.{Number, Sound as SoundOf}
use Rattle.ny_check.specs.Code.{Code}
use Rattle.ny_check.specs.FreeNames.{pick, picked}
use Rattle.ny_check.proofs.Picked.{agree_picked}
use Rattle.ny_heap.specs.declared.sound.Sound.{Sound}
use Rattle.ny_heap.specs.Heap.{Captured, Waiting, HeapState, list_of}
use Rattle.ny_heap.specs.Steps.{captured_of, waiting_of}
use Rattle.ny_hands.specs.declared.branch.Branch.{Branch}
use Rattle.ny_hands.specs.Frames.{Names}
use Rattle.ny_hands.proofs.MarkLemmas.{like_more}
use Rattle.ny_trace.specs.Evaluates.{Part, KeepTurn, KeepsTurn, WaitsTurn}
use Rattle.ny_trace.proofs.HeightLemmas.{ComesFrom}
use Rattle.ny_trace.proofs.RisingSeqLemmas.{from_shared}
use Rattle.ny_plan.specs.Rows.{RowSound, Input, Row, After}
use Rattle.ny_plan.specs.Units.{counted_from, next_part, parts_after}
use Rattle.ny_plan.specs.Plan as plans
use Rattle.ny_plan.specs.Plan.{sounds_of, captured, part_of, made}
use Rattle.ny_plan.specs.StandsFor.{Keeps}
use Rattle.ny_match.specs.Matched.{Part as TablePart, IsSound, AreNames, AreKeptNames, IsPart}
use Rattle.ny_match.specs.Keeps.{KeepMade}
use Rattle.ny_match.proofs.NameLemmas.{FoundBoth, found_both}
use Rattle.ny_match.proofs.MixLemmas.{PartsAre, plan_parts, listed, counted}

-- ---- what is kept of free names

same_self : (x : NameId) → same_name x x ≡ true
same_self x = by_same (eqb_tells x.0 x.0)
  where
    by_same : ((nat_eq x.0 x.0 ≡ true) × (x.0 ≡ x.0)) ⊎ ((nat_eq x.0 x.0 ≡ false) × (x.0 ≢ x.0)) → nat_eq x.0 x.0 ≡ true
    by_same (inl same) = same.0
    by_same (inr other) = absurd (other.1 refl)

or_first : (t u : Bool) → t ≡ true → t || u ≡ true
or_first t u e = ap (λ b. b || u) e

or_last : (t u : Bool) → u ≡ true → t || u ≡ true
or_last true u e = refl
or_last false u e = e

any_among : (before : List NameId) (x : NameId) (rest : List NameId) → list_any (same_name x) (before ++ x ∷ rest) ≡ true
any_among [] x rest = or_first (same_name x x) (list_any (same_name x) rest) (same_self x)
any_among (y ∷ before) x rest = or_last (same_name x y) (list_any (same_name x) (before ++ x ∷ rest)) (any_among before x rest)

-- it is captured too
pub captured_picked : (code : Code) (names : plans.Names) (e : ExprId) → captured code (picked (get_or code.free e.0 []) names) e ≡ captured code names e
captured_picked code names e = from [] (get_or code.free e.0 []) refl
  where
    from : (before rest : List NameId) → before ++ rest ≡ get_or code.free e.0 [] → flat_map (λ x. sounds_of (last_of (same_name x) (picked (get_or code.free e.0 []) names))) rest ≡ flat_map (λ x. sounds_of (last_of (same_name x) names)) rest
    from before [] same = refl
    from before (x ∷ rest) same =
        let among : list_any (same_name x) (get_or code.free e.0 []) ≡ true = subst (λ xs. list_any (same_name x) xs ≡ true) same (any_among before x rest) in
        let is = agree_picked (λ y. list_any (same_name y) (get_or code.free e.0 [])) (get_or code.free e.0 []) names (λ y h. h) x among in
        let more = from (before ++ x ∷ []) rest (append_assoc before (x ∷ []) rest ∙ same) in
        λ i. sounds_of (is i) ++ more i

-- ---- the parts as they are kept

abbrev pub kept_part : Code → TablePart → TablePart
kept_part code q = (q.0, picked (get_or code.free q.0.0 []) q.1)

-- each with its free names alone
abbrev pub kept_parts : Code → List TablePart → List TablePart
kept_parts code qs = map (kept_part code) qs

-- so they make the same
abbrev pub KeepPartsMade : Code → List TablePart → Type 0
KeepPartsMade code [] = Unit {0}
KeepPartsMade code (q ∷ qs) = ((env : Env) (names : plans.Names) → made code q.0.0 env (picked (get_or code.free q.0.0 []) names) ≡ made code q.0.0 env names) × KeepPartsMade code qs

pub listed_keep : (code : Code) (names : plans.Names) (es : List ExprId) → KeepMade code es → KeepPartsMade code (listed names es)
listed_keep code names [] keep = tt
listed_keep code names (e ∷ es) keep = (keep.0, listed_keep code names es keep.1)

pub counted_keep : (code : Code) (names : plans.Names) (i : NameId) (e : ExprId) (ks : List ℕ) → KeepMade code (e ∷ []) → KeepPartsMade code (counted names i e ks)
counted_keep code names i e [] keep = tt
counted_keep code names i e (k ∷ ks) keep = (keep.0, counted_keep code names i e ks keep)

pub keep_last : (code : Code) (qs rs : List TablePart) → KeepPartsMade code (qs ++ rs) → KeepPartsMade code rs
keep_last code [] rs keep = keep
keep_last code (q ∷ qs) rs keep = keep_last code qs rs keep.1

pub kept_plan : (code : Code) (qs : List TablePart) → KeepPartsMade code qs → plan_parts code (kept_parts code qs) ≡ plan_parts code qs
kept_plan code [] keep = refl
kept_plan code (q ∷ qs) keep = λ i. record { sound = λ from. keep.0 from q.1 i; captured = captured_picked code q.1 q.0 i } ∷ kept_plan code qs keep.1 i

-- ---- what the trace keeps

captured_at : (before : List Captured) (c : Captured) (rest : List Captured) → slice_get (before ++ c ∷ rest) (length before) ≡ Some c
captured_at [] c rest = refl
captured_at (d ∷ before) c rest = captured_at before c rest

module _ (row : ℕ → ℕ) (names : Names) (given : plans.Names) (are : AreNames row names given) where
  shared_keeps : (a s : Sound) (r : RowSound) → IsSound row a r → list_of s ≡ list_of a → s.timing ≡ a.timing → Keeps row (captured_of s) r
  shared_keeps a s r is list when = record { names = is.names ∙ ap (option_map row) (sym list); timing = when ∙ is.timing }

  keeps_names : (xs : List NameId) (k : ℕ) (old new : HeapState Branch) (kept : List (NameId × Value ℕ)) (ss : List Sound) (before : List Captured) → length before ≡ k → KeepsTurn names xs k old new kept ss → AreKeptNames row (before ++ map captured_of ss) kept (picked xs given)
  keeps_names [] k old new kept ss before long step = subst (λ z. AreKeptNames row (before ++ map captured_of ss) z []) (sym step.0) tt
  keeps_names (x ∷ xs) k old new kept ss before long step =
      by_found (λ k from kept ss before long step. keeps_names xs k from new kept ss before long step) (last_of (same_name x) names) (last_of (same_name x) given) (found_both row (same_name x) names given are) step
    where
      by_found : ((k : ℕ) (from : HeapState Branch) (kept : List (NameId × Value ℕ)) (ss : List Sound) (before : List Captured) → length before ≡ k → KeepsTurn names xs k from new kept ss → AreKeptNames row (before ++ map captured_of ss) kept (picked xs given)) → (o : Option (Value Sound)) (p : Option (Value RowSound)) → FoundBoth row o p → KeepTurn (KeepsTurn names xs) o x k old new kept ss → AreKeptNames row (before ++ map captured_of ss) kept (pick p x (picked xs given))
      by_found more None None found step = more k old kept ss before long step
      by_found more None (Some w) found step = absurd found
      by_found more (Some v) None found step = absurd found
      by_found more (Some (Number j)) (Some (Number l)) found step =
          subst (λ z. AreKeptNames row (before ++ map captured_of ss) z ((x, Number l) ∷ picked xs given)) (sym step.2) (refl, found, more k old step.0 ss before long step.1)
      by_found more (Some (Number j)) (Some (SoundOf r)) found step = absurd found
      by_found more (Some (SoundOf a)) (Some (Number l)) found step = absurd found
      by_found more (Some (SoundOf a)) (Some (SoundOf r)) found step =
          let s = step.1 in
          let others = step.2 in
          let at : slice_get (before ++ captured_of s ∷ map captured_of others) k ≡ Some (captured_of s) = ap (slice_get (before ++ captured_of s ∷ map captured_of others)) (sym long) ∙ captured_at before (captured_of s) (map captured_of others) in
          let rest = subst (λ cs. AreKeptNames row cs step.0 (picked xs given)) (append_assoc before (captured_of s ∷ []) (map captured_of others))
          (more (suc k) step.3 step.0 others (before ++ captured_of s ∷ []) (omega (arith, length-append before (captured_of s ∷ []), long)) step.5) in
          subst (λ z. AreKeptNames row (before ++ map captured_of z) kept ((x, SoundOf r) ∷ picked xs given)) (sym step.7)
          (subst (λ z. AreKeptNames row (before ++ captured_of s ∷ map captured_of others) z ((x, SoundOf r) ∷ picked xs given)) (sym step.6)
          (refl, (captured_of s, at, shared_keeps a s r found step.4.list step.4.timing), rest))

  keeps_captured : (xs : List NameId) (k : ℕ) (old new : HeapState Branch) (kept : List (NameId × Value ℕ)) (ss : List Sound) → KeepsTurn names xs k old new kept ss → AllZip (Keeps row) (map captured_of ss) (flat_map (λ x. sounds_of (last_of (same_name x) given)) xs)
  keeps_captured [] k old new kept ss step = subst (λ z. AllZip (Keeps row) (map captured_of z) []) (sym step.1) tt
  keeps_captured (x ∷ xs) k old new kept ss step =
      by_found (λ k from kept ss step. keeps_captured xs k from new kept ss step) (last_of (same_name x) names) (last_of (same_name x) given) (found_both row (same_name x) names given are) step
    where
      by_found : ((k : ℕ) (from : HeapState Branch) (kept : List (NameId × Value ℕ)) (ss : List Sound) → KeepsTurn names xs k from new kept ss → AllZip (Keeps row) (map captured_of ss) (flat_map (λ x. sounds_of (last_of (same_name x) given)) xs)) → (o : Option (Value Sound)) (p : Option (Value RowSound)) → FoundBoth row o p → KeepTurn (KeepsTurn names xs) o x k old new kept ss → AllZip (Keeps row) (map captured_of ss) (sounds_of p ++ flat_map (λ x. sounds_of (last_of (same_name x) given)) xs)
      by_found more None None found step = more k old kept ss step
      by_found more None (Some w) found step = absurd found
      by_found more (Some v) None found step = absurd found
      by_found more (Some (Number j)) (Some (Number l)) found step = more k old step.0 ss step.1
      by_found more (Some (Number j)) (Some (SoundOf r)) found step = absurd found
      by_found more (Some (SoundOf a)) (Some (Number l)) found step = absurd found
      by_found more (Some (SoundOf a)) (Some (SoundOf r)) found step =
          subst (λ z. AllZip (Keeps row) (map captured_of z) (r ∷ flat_map (λ x. sounds_of (last_of (same_name x) given)) xs)) (sym step.7)
          (shared_keeps a step.1 r found step.4.list step.4.timing, more (suc k) step.3 step.0 step.2 step.5)

-- sharing adds no unit
from_more : (a b c : HeapState Branch) → ComesFrom a b → ComesFrom b c → ComesFrom a c
from_more a b c p q v z at = let y = q v z at in let x = p v y.0 y.1 in (x.0, x.1, like_more x.0 y.0 z x.2 y.2)

keeps_from : (names : Names) (xs : List NameId) (k : ℕ) (old new : HeapState Branch) (kept : List (NameId × Value ℕ)) (ss : List Sound) → KeepsTurn names xs k old new kept ss → ComesFrom old new
keeps_from names [] k old new kept ss step = subst (λ h. ComesFrom old h) step.2 (λ v y at. (y, at, refl))
keeps_from names (x ∷ xs) k old new kept ss step = by_found (λ k from kept ss step. keeps_from names xs k from new kept ss step) (last_of (same_name x) names) step
  where
    by_found : ((k : ℕ) (from : HeapState Branch) (kept : List (NameId × Value ℕ)) (ss : List Sound) → KeepsTurn names xs k from new kept ss → ComesFrom from new) → (o : Option (Value Sound)) → KeepTurn (KeepsTurn names xs) o x k old new kept ss → ComesFrom old new
    by_found more None step = more k old kept ss step
    by_found more (Some (Number v)) step = more k old step.0 ss step.1
    by_found more (Some (SoundOf a)) step = from_more old step.3 new (from_shared old step.3 a step.1 step.4) (more (suc k) step.3 step.0 step.2 step.5)

module _ (code : Code) where
  pub waits_from : (env : Env) (ps : List Part) (old new : HeapState Branch) (ws : List (Branch × List Sound)) → WaitsTurn code env ps old new ws → ComesFrom old new
  waits_from env [] old new [] step = subst (λ h. ComesFrom old h) step (λ v y at. (y, at, refl))
  waits_from env [] old new (w ∷ ws) step = absurd step
  waits_from env (p ∷ ps) old new [] step = absurd step
  waits_from env (p ∷ ps) old new (w ∷ ws) step = from_more old step.0 new (keeps_from p.1 (get_or code.free p.0.0 []) 0 old step.0 w.0.names w.1 step.3) (waits_from env ps step.0 new ws step.4)

  module _ (row : ℕ → ℕ) where
    -- the parts that wait are those of the plan, with their free names alone
    pub waits_parts : (env : Env) (ps : List Part) (qs : List TablePart) (old new : HeapState Branch) (ws : List (Branch × List Sound)) → PartsAre row ps qs → WaitsTurn code env ps old new ws → AllZip (IsPart row env) (map waiting_of ws) (kept_parts code qs)
    waits_parts env [] [] old new [] are step = tt
    waits_parts env [] (q ∷ qs) old new ws are step = absurd are
    waits_parts env [] [] old new (w ∷ ws) are step = absurd step
    waits_parts env (p ∷ ps) [] old new ws are step = absurd are
    waits_parts env (p ∷ ps) (q ∷ qs) old new [] are step = absurd step
    waits_parts env (p ∷ ps) (q ∷ qs) old new (w ∷ ws) are step =
        let keeps : KeepsTurn p.1 (get_or code.free q.0.0 []) 0 old step.0 w.0.names w.1 = subst (λ (e : ExprId). KeepsTurn p.1 (get_or code.free e.0 []) 0 old step.0 w.0.names w.1) are.0 step.3 in
        (record { expr = step.1 ∙ are.0; there = step.2; names = keeps_names row p.1 q.1 are.1 (get_or code.free q.0.0 []) 0 old step.0 w.0.names w.1 [] refl keeps }, waits_parts env ps qs step.0 new ws are.2 step.4)

    -- and they keep what the plan's inputs have captured
    pub waits_captured : (env : Env) (start stop : ℕ) (ps : List Part) (qs : List TablePart) (old new : HeapState Branch) (ws : List (Branch × List Sound)) (rows : List Row) → PartsAre row ps qs → WaitsTurn code env ps old new ws
        → AllZip (λ p (i : Input). AllZip (Keeps row) (Waiting.captured {B = Branch} p) i.captured) (map waiting_of ws) (map (counted_from start) (After.gives (parts_after env stop (plan_parts code qs) rows)))
    waits_captured env start stop [] [] old new [] rows are step = tt
    waits_captured env start stop [] (q ∷ qs) old new ws rows are step = absurd are
    waits_captured env start stop [] [] old new (w ∷ ws) rows are step = absurd step
    waits_captured env start stop (p ∷ ps) [] old new ws rows are step = absurd are
    waits_captured env start stop (p ∷ ps) (q ∷ qs) old new [] rows are step = absurd step
    waits_captured env start stop (p ∷ ps) (q ∷ qs) old new (w ∷ ws) rows are step =
        let keeps : KeepsTurn p.1 (get_or code.free q.0.0 []) 0 old step.0 w.0.names w.1 = subst (λ (e : ExprId). KeepsTurn p.1 (get_or code.free e.0 []) 0 old step.0 w.0.names w.1) are.0 step.3 in
        let x = next_part env stop (part_of code (made code) q.1 q.0) rows in
        (keeps_captured row p.1 q.1 are.1 (get_or code.free q.0.0 []) 0 old step.0 w.0.names w.1 keeps, waits_captured env start x.gives.timing.stop ps qs step.0 new ws x.rows are.2 step.4)
