-- A trace of evaluation gives the sound of the meaning, leaves all that was there, and has that one sound in hand.
use Rattle.std.proofs.Common.{◌≡◌, inl, inr, ℕ, zero, suc, ◌+◌, ◌<◌, ◌≤◌, Bool, true, false, if◌then◌else◌, List, [], ◌∷◌, length, map, refl, sym, ap, subst, ◌∙◌, arith}
use Rattle.ny_warp.specs.declared.env.Env.{Env}
use Rattle.ny_resolve.specs.declared.term.NameId.{NameId}
use Rattle.ny_resolve.specs.declared.builtin.Order.TheVariants as order
use Rattle.ny_check.specs.declared.node.Node.{Node}
use Rattle.ny_check.specs.declared.node.Node.TheVariants as node
use Rattle.ny_check.specs.declared.node.ExprId.{ExprId}
use Rattle.ny_check.specs.Code.{Code, node_at, function_at, IsBelow, AllBelow, BindsBelow, IsOrdered}
use Rattle.ny_check.specs.Values.{scalars_of, number_of, test_of}
use Rattle.ny_check.specs.Families.{leaf_sound, effect_sound, changed_env}
use Rattle.ny_check.specs.Meaning.{Bound, meaning, part_of, repeated_parts, sound_node}
use Rattle.ny_check.proofs.MeaningEquation.{meaning-is}
use Rattle.ny_heap.specs.declared.sound.Sound.{Sound}
use Rattle.ny_heap.specs.Heap.{HeapState}
use Rattle.ny_heap.specs.Reach.{HeapLaws}
use Rattle.ny_heap.specs.Means.{Whole}
use Rattle.ny_hands.specs.Frames.{Names, bound_in, part_is}
use Rattle.ny_hands.specs.declared.branch.Branch.{Branch}
use Rattle.ny_trace.specs.Evaluates.{Trace, parts_of, counted_parts, NodeTurn, Evaluates, numbers_in}
use Rattle.ny_hands.specs.Hands.{item, Comes, AreNamed}
use Rattle.ny_trace.specs.Laws.{KeepFree, in_turn, KeepsFree, IsLawful}
use Rattle.ny_hands.proofs.ComingLemmas.{comes_as, comes_silent}
use Rattle.ny_hands.proofs.NameLemmas.{scalars_bound}
use Rattle.ny_trace.proofs.ValueLemmas.{leaf_comes, name_comes, operation_comes, sign_comes, effect_comes}
use Rattle.ny_trace.proofs.BlockLemmas.{block_comes, call_comes}
use Rattle.ny_trace.proofs.CueLemmas.{cue_comes}
use Rattle.ny_trace.proofs.MixLemmas.{parts_are, counted_are, parts_in_are, counted_in_are, sim_comes}
use Rattle.ny_trace.proofs.WaitLemmas.{parts_free, counted_free}
use Rattle.ny_trace.proofs.SeqLemmas.{seq_comes}

-- what is no deeper than m is no deeper than more
pub deeper : (code : Code) (m n : ℕ) (e : ℕ) (env : Env) (names : Names) (old new : HeapState Branch) (s : Sound) → Evaluates code m e env names old new s → Evaluates code (n + m) e env names old new s
deeper code m zero e env names old new s t = subst (λ k. Evaluates code k e env names old new s) (omega arith) t
deeper code m (suc n) e env names old new s t =
    let more : suc (n + m) ≡ suc n + m = omega arith in
    subst (λ k. Evaluates code k e env names old new s) more (inl (deeper code m n e env names old new s t))

pub below_all : (n m : ℕ) (es : List ExprId) → n ≤ m → AllBelow n es → AllBelow m es
below_all n m [] le b = tt
below_all n m (e ∷ es) le b = (omega (arith, b.0, le), below_all n m es le b.1)

pub below_binds : (n m : ℕ) (bs : List (NameId × ExprId)) → n ≤ m → BindsBelow n bs → BindsBelow m bs
below_binds n m [] le b = tt
below_binds n m (x ∷ bs) le b = (omega (arith, b.0, le), below_binds n m bs le b.1)

-- a node's step, where the nodes before it are evaluated lawfully
module _ (code : Code) (D : Trace) (law : IsLawful code D) (e : ℕ) (inside : e < length code.nodes) (env : Env) (names : Names) (old new : HeapState Branch) (s : Sound) (laws : HeapLaws old) (named : AreNamed old names) where
  abbrev Gives : Node → Type 0
  Gives at = Comes (part_is code) old new (item s (λ w. sound_node code at (meaning code) env (bound_in w names)) ∷ [])

  -- of a sequence, what each part keeps must be enough
  pub node_gives : (at : Node) → node_at code e ≡ at → IsBelow code.functions e at → KeepFree code (in_turn at) → ((bound : Bound) → meaning code e env bound ≡ sound_node code at (meaning code) env bound) → NodeTurn D code e at env names old new s → Gives at
  node_gives (node.Number v) is below free mean step = comes_silent (part_is code) old new env.sound_rate s laws step
  node_gives (node.Local x) is below free mean step = name_comes (part_is code) old new env.sound_rate x names s laws named step
  node_gives (node.Global a) is below free mean step = comes_silent (part_is code) old new env.sound_rate s laws step
  node_gives (node.Call f es) is below free mean step = call_comes code D law (function_at code f.0).params (function_at code f.0).body.0 es env names old new s (below_all e (length code.nodes) es (omega (arith, inside)) below.0) (omega (arith, below.2, inside)) laws named step
  node_gives (node.Block bs a) is below free mean step = block_comes code D law env bs a names old new s (below_binds e (length code.nodes) bs (omega (arith, inside)) below.0) (omega (arith, below.1, inside)) laws named step
  node_gives (node.Pair op a b) is below free mean step = operation_comes code D law op a b env names old new s (omega (arith, below.0, inside)) (omega (arith, below.1, inside)) laws named step
  node_gives (node.Div a v) is below free mean step = comes_silent (part_is code) old new env.sound_rate s laws step
  node_gives (node.Neg a) is below free mean step = sign_comes code D law a env names old new s (omega (arith, below, inside)) laws named step
  node_gives (node.Compare r a b) is below free mean step = comes_silent (part_is code) old new env.sound_rate s laws step
  node_gives (node.And a b) is below free mean step = comes_silent (part_is code) old new env.sound_rate s laws step
  node_gives (node.Or a b) is below free mean step = comes_silent (part_is code) old new env.sound_rate s laws step
  node_gives (node.Not a) is below free mean step = comes_silent (part_is code) old new env.sound_rate s laws step
  node_gives (node.If c a b) is below free mean step = chosen (test_of code c (scalars_of names)) refl step
    where
      told : (w : Whole) (t : Bool) → test_of code c (scalars_of names) ≡ t → test_of code c (scalars_of (bound_in w names)) ≡ t
      told w t is = ap (test_of code c) (scalars_bound w names) ∙ is

      chosen : (t : Bool) → test_of code c (scalars_of names) ≡ t → D (if t then a.0 else b.0) env names old new s → Gives (node.If c a b)
      chosen true is step =
          comes_as (part_is code) old new s (λ w. meaning code a.0 env (bound_in w names)) (λ w. sound_node code (node.If c a b) (meaning code) env (bound_in w names)) []
          (λ w i. if sym (told w true is) i then meaning code a.0 env (bound_in w names) else meaning code b.0 env (bound_in w names))
          (law a.0 env names old new s step (omega (arith, below.1, inside)) laws named)
      chosen false is step =
          comes_as (part_is code) old new s (λ w. meaning code b.0 env (bound_in w names)) (λ w. sound_node code (node.If c a b) (meaning code) env (bound_in w names)) []
          (λ w i. if sym (told w false is) i then meaning code a.0 env (bound_in w names) else meaning code b.0 env (bound_in w names))
          (law b.0 env names old new s step (omega (arith, below.2, inside)) laws named)
  node_gives (node.Leaf g es) is below free mean step =
      comes_as (part_is code) old new s (λ w. leaf_sound g env (numbers_in code names es)) (λ w. sound_node code (node.Leaf g es) (meaning code) env (bound_in w names)) []
      (λ w. ap (λ q. leaf_sound g env (map (λ a. number_of code a q) es)) (sym (scalars_bound w names)))
      (leaf_comes (part_is code) old new g env (numbers_in code names es) s laws step)
  node_gives (node.Effect fx a es) is below free mean step =
      comes_as (part_is code) old new s (λ w. effect_sound fx (numbers_in code names es) (meaning code a.0 env (bound_in w names))) (λ w. sound_node code (node.Effect fx a es) (meaning code) env (bound_in w names)) []
      (λ w. ap (λ q. effect_sound fx (map (λ a. number_of code a q) es) (meaning code a.0 env (bound_in w names))) (sym (scalars_bound w names)))
      (effect_comes code D law fx a (numbers_in code names es) env names old new s (omega (arith, below.0, inside)) laws named step)
  node_gives (node.Cue a) is below free mean step = cue_comes code D law a env names old new s (omega (arith, below, inside)) laws named step
  node_gives (node.Mix order.Together es) is below free mean step =
      sim_comes code D law (parts_of names es) env names old new s (λ bound. map (part_of (meaning code) bound) es) (λ w. parts_in_are code w names es)
      (parts_are (length code.nodes) old names named es (below_all e (length code.nodes) es (omega (arith, inside)) below)) laws step
  node_gives (node.Mix order.InTurn es) is below free mean step =
      seq_comes code D law e (parts_of names es) env names old new s (λ bound. map (part_of (meaning code) bound) es) (λ w. parts_in_are code w names es)
      (parts_are (length code.nodes) old names named es (below_all e (length code.nodes) es (omega (arith, inside)) below)) (parts_free code names es free) mean laws named step
  node_gives (node.Repeat order.Together i k a) is below free mean step =
      sim_comes code D law (counted_parts names i k a) env names old new s (λ bound. repeated_parts (meaning code) bound i k a) (λ w. counted_in_are code w names i k a)
      (counted_are (length code.nodes) old names i k a named (omega (arith, below, inside))) laws step
  node_gives (node.Repeat order.InTurn i k a) is below free mean step =
      seq_comes code D law e (counted_parts names i k a) env names old new s (λ bound. repeated_parts (meaning code) bound i k a) (λ w. counted_in_are code w names i k a)
      (counted_are (length code.nodes) old names i k a named (omega (arith, below, inside))) (counted_free code names i k a free) mean laws named step
  node_gives (node.Change c a) is below free mean step =
      comes_as (part_is code) old new s (λ w. meaning code a.0 (changed_env c (λ k. number_of code k (scalars_of names)) env) (bound_in w names)) (λ w. sound_node code (node.Change c a) (meaning code) env (bound_in w names)) []
      (λ w. ap (λ q. meaning code a.0 (changed_env c (λ k. number_of code k q) env) (bound_in w names)) (sym (scalars_bound w names)))
      (law a.0 (changed_env c (λ k. number_of code k (scalars_of names)) env) names old new s step (omega (arith, below.1, inside)) laws named)
  node_gives (node.Vector es) is below free mean step = comes_silent (part_is code) old new env.sound_rate s laws step

-- the law of evaluation, by induction on the depth of the trace
pub evaluates_lawful : (code : Code) → IsOrdered code → KeepsFree code → (n : ℕ) → IsLawful code (Evaluates code n)
evaluates_lawful code ordered free zero e env names old new s t inside laws named = absurd t
evaluates_lawful code ordered free (suc n) e env names old new s (inl t) inside laws named = evaluates_lawful code ordered free n e env names old new s t inside laws named
evaluates_lawful code ordered free (suc n) e env names old new s (inr t) inside laws named =
    let below = ordered.each e inside in
    let mean : (bound : Bound) → meaning code e env bound ≡ sound_node code (node_at code e) (meaning code) env bound = λ bound. meaning-is code e env bound below in
    comes_as (part_is code) old new s (λ w. sound_node code (node_at code e) (meaning code) env (bound_in w names)) (λ w. meaning code e env (bound_in w names)) [] (λ w. sym (mean (bound_in w names)))
    (node_gives code (Evaluates code n) (evaluates_lawful code ordered free n) e inside env names old new s laws named (node_at code e) refl below (free e) mean t)
