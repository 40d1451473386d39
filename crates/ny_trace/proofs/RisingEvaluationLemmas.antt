-- A trace of evaluation adds no more height than the text lets it.
use Rattle.std.proofs.Common.{◌≡◌, inl, inr, ℕ, zero, suc, ◌+◌, ◌<◌, max, Bool, true, false, if◌then◌else◌, [], ◌∷◌, length, Option, None, Some, refl, arith}
use Rattle.ny_num.specs.declared.rate.Rate.{Rate}
use Rattle.ny_resolve.specs.declared.term.NameId.{NameId}
use Rattle.ny_warp.specs.declared.env.Env.{Env}
use Rattle.ny_scope.specs.Scopes.{last_of}
use Rattle.ny_resolve.specs.Keys.{same_name}
use Rattle.ny_resolve.specs.declared.builtin.Order.TheVariants as order
use Rattle.ny_check.specs.declared.node.Node.{Node}
use Rattle.ny_check.specs.declared.node.Node.TheVariants as node
use Rattle.ny_check.specs.declared.value.Value.{Value}
use Rattle.ny_check.specs.declared.value.Value.TheVariants.{Number, Sound as SoundOf}
use Rattle.ny_check.specs.Code.{Code, node_at as node_in, function_at, IsBelow, IsOrdered}
use Rattle.ny_check.specs.Values.{scalars_of, number_of, test_of}
use Rattle.ny_check.specs.Families.{changed_env}
use Rattle.ny_heap.specs.declared.sound.Sound.{Sound}
use Rattle.ny_heap.specs.Heap.{HeapState, list_of}
use Rattle.ny_heap.specs.Reach.{HeapLaws}
use Rattle.ny_hands.proofs.OptionLemmas.{none_some}
use Rattle.ny_hands.specs.declared.branch.Branch.{Branch}
use Rattle.ny_hands.specs.Calls.{IsSilent}
use Rattle.ny_hands.specs.Frames.{Names, sounds_among}
use Rattle.ny_trace.specs.Evaluates.{Trace, parts_of, counted_parts, NameTurn, NodeTurn, Evaluates, numbers_in}
use Rattle.ny_hands.specs.Hands.{AreNamed}
use Rattle.ny_trace.specs.Laws.{KeepsFree, IsLawful}
use Rattle.ny_trace.specs.Heights.{greatest, tallest, tall_node, IsTall, Ranks, AreLow, Stands, IsRising}
use Rattle.ny_trace.proofs.EvaluationLemmas.{below_all, below_binds, evaluates_lawful}
use Rattle.ny_trace.proofs.HeightLemmas.{stands_none, stands_from, from_trimmed, stands_wider, stands_shared, step_made}
use Rattle.ny_trace.proofs.MixLemmas.{parts_are, counted_are}
use Rattle.ny_trace.proofs.RisingLemmas.{operation_stands, sign_stands, effect_stands, block_stands, call_stands, parts_of_low, counted_low, parts_of_tallest, counted_tallest, sim_stands}
use Rattle.ny_trace.proofs.RisingCueLemmas.{cue_stands}
use Rattle.ny_trace.proofs.RisingSeqLemmas.{low_found, seq_stands}

pub silent_stands : (tall : ℕ → ℕ) (old new : HeapState Branch) (r : Rate) (s : Sound) (rank : ℕ → ℕ) (b : ℕ) → Ranks tall old rank → IsSilent old new r s → Stands tall old new rank b (s ∷ [])
silent_stands tall old new r s rank b ranks step =
    stands_from tall old old new rank b [] (s ∷ []) (from_trimmed old new [] (step.makes.none refl)) (stands_none tall old rank b [] ranks tt) ((λ n is. absurd (none_some (list_of s) n step.makes.result.list is)), tt)

module _ (code : Code) (D : Trace) (law : IsLawful code D) (tall : ℕ → ℕ) (rising : IsRising code tall D) (e : ℕ) (inside : e < length code.nodes) (env : Env) (names : Names) (old new : HeapState Branch) (s : Sound) (laws : HeapLaws old) (named : AreNamed old names) (rank : ℕ → ℕ) (base : ℕ) (ranks : Ranks tall old rank) (low : AreLow rank base (sounds_among names)) where
  name_stands : (r : Rate) (is : NameId → Bool) (o : Option (Value Sound)) → last_of is names ≡ o → NameTurn r o old new s → Stands tall old new rank (base + 0) (s ∷ [])
  name_stands r is None found step = silent_stands tall old new r s rank (base + 0) ranks step
  name_stands r is (Some (Number v)) found step = silent_stands tall old new r s rank (base + 0) ranks step
  name_stands r is (Some (SoundOf a)) found step = stands_wider tall old new rank base (base + 0) (s ∷ []) (omega arith) (stands_shared tall old new a s rank base ranks ((low_found rank base is names a low found), tt) step)

  pub node_stands : (at : Node) → IsBelow code.functions e at → NodeTurn D code e at env names old new s → Stands tall old new rank (base + tall_node code at tall) (s ∷ [])
  node_stands (node.Number v) below step = silent_stands tall old new env.sound_rate s rank (base + 0) ranks step
  node_stands (node.Local x) below step = name_stands env.sound_rate (same_name x) (last_of (same_name x) names) refl step
  node_stands (node.Global a) below step = silent_stands tall old new env.sound_rate s rank (base + 0) ranks step
  node_stands (node.Call f es) below step = call_stands code D law tall rising (function_at code f.0).params (function_at code f.0).body.0 es env names old new s (below_all e (length code.nodes) es (omega (arith, inside)) below.0) (omega (arith, below.2, inside)) laws named step rank base ranks low
  node_stands (node.Block bs a) below step = block_stands code D law tall rising env bs a names old new s (below_binds e (length code.nodes) bs (omega (arith, inside)) below.0) (omega (arith, below.1, inside)) laws named step rank base ranks low
  node_stands (node.Pair op a b) below step = operation_stands code D law tall rising op a b env names old new s (omega (arith, below.0, inside)) (omega (arith, below.1, inside)) laws named step rank base ranks low
  node_stands (node.Div a v) below step = silent_stands tall old new env.sound_rate s rank (base + 0) ranks step
  node_stands (node.Neg a) below step = sign_stands code D law tall rising a env names old new s (omega (arith, below, inside)) laws named step rank base ranks low
  node_stands (node.Compare r a b) below step = silent_stands tall old new env.sound_rate s rank (base + 0) ranks step
  node_stands (node.And a b) below step = silent_stands tall old new env.sound_rate s rank (base + 0) ranks step
  node_stands (node.Or a b) below step = silent_stands tall old new env.sound_rate s rank (base + 0) ranks step
  node_stands (node.Not a) below step = silent_stands tall old new env.sound_rate s rank (base + 0) ranks step
  node_stands (node.If c a b) below step = chosen (test_of code c (scalars_of names)) step
    where
      chosen : (t : Bool) → D (if t then a.0 else b.0) env names old new s → Stands tall old new rank (base + max (tall a.0) (tall b.0)) (s ∷ [])
      chosen true step = stands_wider tall old new rank (base + tall a.0) (base + max (tall a.0) (tall b.0)) (s ∷ []) (omega arith) (rising a.0 env names old new s step (omega (arith, below.1, inside)) laws named rank base ranks low)
      chosen false step = stands_wider tall old new rank (base + tall b.0) (base + max (tall a.0) (tall b.0)) (s ∷ []) (omega arith) (rising b.0 env names old new s step (omega (arith, below.2, inside)) laws named rank base ranks low)
  node_stands (node.Leaf g es) below step = stands_wider tall old new rank (0 + 1) (base + 1) (s ∷ []) (omega arith) (step_made tall old new _ _ [] s rank 0 laws tt ranks tt step.made)
  node_stands (node.Effect fx a es) below step = effect_stands code D law tall rising fx a (numbers_in code names es) env names old new s (omega (arith, below.0, inside)) laws named step rank base ranks low
  node_stands (node.Cue a) below step = cue_stands code D law tall rising a env names old new s (omega (arith, below, inside)) laws named step rank base ranks low
  node_stands (node.Mix order.Together es) below step =
      stands_wider tall old new rank (base + (tallest tall (parts_of names es) + 2)) (base + (greatest tall es + 2)) (s ∷ []) (omega (arith, parts_of_tallest tall names es))
      (sim_stands code D law tall rising (parts_of names es) env old new s (parts_are (length code.nodes) old names named es (below_all e (length code.nodes) es (omega (arith, inside)) below)) laws step rank base ranks (parts_of_low rank base names es low))
  node_stands (node.Mix order.InTurn es) below step =
      stands_wider tall old new rank (base + (tallest tall (parts_of names es) + 2)) (base + (greatest tall es + 2)) (s ∷ []) (omega (arith, parts_of_tallest tall names es))
      (seq_stands code D law tall rising e (parts_of names es) env names old new s (parts_are (length code.nodes) old names named es (below_all e (length code.nodes) es (omega (arith, inside)) below)) laws step rank base ranks (parts_of_low rank base names es low))
  node_stands (node.Repeat order.Together i k a) below step =
      stands_wider tall old new rank (base + (tallest tall (counted_parts names i k a) + 2)) (base + (tall a.0 + 2)) (s ∷ []) (omega (arith, counted_tallest tall names i k a))
      (sim_stands code D law tall rising (counted_parts names i k a) env old new s (counted_are (length code.nodes) old names i k a named (omega (arith, below, inside))) laws step rank base ranks (counted_low rank base names i k a low))
  node_stands (node.Repeat order.InTurn i k a) below step =
      stands_wider tall old new rank (base + (tallest tall (counted_parts names i k a) + 2)) (base + (tall a.0 + 2)) (s ∷ []) (omega (arith, counted_tallest tall names i k a))
      (seq_stands code D law tall rising e (counted_parts names i k a) env names old new s (counted_are (length code.nodes) old names i k a named (omega (arith, below, inside))) laws step rank base ranks (counted_low rank base names i k a low))
  node_stands (node.Change c a) below step = rising a.0 (changed_env c (λ k. number_of code k (scalars_of names)) env) names old new s step (omega (arith, below.1, inside)) laws named rank base ranks low
  node_stands (node.Vector es) below step = silent_stands tall old new env.sound_rate s rank (base + 0) ranks step

pub evaluates_rising : (code : Code) → IsOrdered code → KeepsFree code → (tall : ℕ → ℕ) → IsTall code tall → (n : ℕ) → IsRising code tall (Evaluates code n)
evaluates_rising code ordered free tall is zero e env names old new s t inside laws named rank base ranks low = absurd t
evaluates_rising code ordered free tall is (suc n) e env names old new s (inl t) inside laws named rank base ranks low = evaluates_rising code ordered free tall is n e env names old new s t inside laws named rank base ranks low
evaluates_rising code ordered free tall is (suc n) e env names old new s (inr t) inside laws named rank base ranks low =
    stands_wider tall old new rank (base + tall_node code (node_in code e) tall) (base + tall e) (s ∷ []) (omega (arith, is e inside))
    (node_stands code (Evaluates code n) (evaluates_lawful code ordered free n) tall (evaluates_rising code ordered free tall is n) e inside env names old new s laws named rank base ranks low (node_in code e) (ordered.each e inside) t)
