-- What is played gives the sounds of the strict meaning in order, leaves all that was there, and has these sounds in hand.
use Rattle.std.proofs.Common.{◌≡◌, inl, inr, ℕ, zero, suc, ◌<◌, Bool, true, false, if◌then◌else◌, List, [], ◌∷◌, ◌++◌, length, map, drop, refl, sym, ap, ◌∙◌, arith}
use Rattle.std.specs.Prelude.{zip}
use Rattle.ny_num.specs.Sound as sounds
use Rattle.ny_num.specs.Sound.{silence}
use Rattle.ny_num.specs.declared.rate.Rate.{Rate}
use Rattle.ny_warp.specs.declared.env.Env.{Env}
use Rattle.ny_check.specs.declared.node.Node.{Node}
use Rattle.ny_check.specs.declared.node.Node.TheVariants as node
use Rattle.ny_check.specs.declared.node.ExprId.{ExprId}
use Rattle.ny_check.specs.Code.{Code, node_at, function_at, IsBelow, IsOrdered}
use Rattle.ny_check.specs.Values.{scalars_of, test_of}
use Rattle.ny_check.specs.Meaning.{Bound, meaning}
use Rattle.ny_check.specs.Channels.{operand, plays_node, played}
use Rattle.ny_heap.specs.declared.sound.Sound.{Sound}
use Rattle.ny_heap.specs.Heap.{HeapState}
use Rattle.ny_heap.specs.Means.{Whole}
use Rattle.ny_heap.specs.Reach.{HeapLaws}
use Rattle.ny_hands.specs.declared.branch.Branch.{Branch}
use Rattle.ny_hands.specs.Frames.{Names, bound_in, part_is}
use Rattle.ny_hands.specs.Hands.{Item, item, sounds_in, Comes, AreNamed}
use Rattle.ny_hands.proofs.NameLemmas.{scalars_bound}
use Rattle.ny_trace.specs.Evaluates.{Trace, parts_of, PartsTurn}
use Rattle.ny_trace.specs.Laws.{KeepsFree, IsLawful}
use Rattle.ny_trace.specs.Plays.{PlaysTrace, EvaluatesAny, PlaysOne, PlaysNode, Plays, PlaysItems, PlaysLawfully}
use Rattle.ny_trace.proofs.ValueLemmas.{Agree}
use Rattle.ny_trace.proofs.BlockLemmas.{binds_leave, under_binds, args_leave, under_args}
use Rattle.ny_trace.proofs.MixLemmas.{parts_are, part_items, parts_come, part_sounds}
use Rattle.ny_trace.proofs.EvaluationLemmas.{below_all, below_binds, evaluates_lawful}
use Rattle.ny_trace.proofs.PlayedLemmas.{played-is, plays_count}

-- ---- sounds and what they are

-- what items are, one by one
abbrev pub all_of : Whole → List Item → List sounds.Sound
all_of w items = map (λ (i : Item). i.is w) items

-- the first of these, and silence where there is none
abbrev pub first_of : Rate → List sounds.Sound → sounds.Sound
first_of r [] = silence r
first_of r (m ∷ ms) = m

-- sounds in hand, each with what it is among these
abbrev pub listed : Rate → List Sound → (Whole → List sounds.Sound) → List Item
listed r [] m = []
listed r (s ∷ ss) m = item s (λ w. first_of r (m w)) ∷ listed r ss (λ w. drop 1 (m w))

listed_sounds : (r : Rate) (ss : List Sound) (m : Whole → List sounds.Sound) → sounds_in (listed r ss m) ≡ ss
listed_sounds r [] m = refl
listed_sounds r (s ∷ ss) m = ap (λ rest. s ∷ rest) (listed_sounds r ss (λ w. drop 1 (m w)))

listed_are : (r : Rate) (w : Whole) (ss : List Sound) (m : Whole → List sounds.Sound) (ms : List sounds.Sound) → m w ≡ ms → length ms ≡ length ss → all_of w (listed r ss m) ≡ ms
listed_are r w [] m [] is len = refl
listed_are r w [] m (x ∷ xs) is len = absurd (omega (arith, len))
listed_are r w (s ∷ ss) m [] is len = absurd (omega (arith, len))
listed_are r w (s ∷ ss) m (x ∷ xs) is len =
    let rest = listed_are r w ss (λ w. drop 1 (m w)) xs (ap (drop 1) is) (omega (arith, len)) in
    λ i. first_of r (is i) ∷ rest i

-- items that are these, told from the heap between
listed_agree : (r : Rate) (w l : Whole) (told : List Item) (m : Whole → List sounds.Sound) (ms : List sounds.Sound) → m w ≡ ms → all_of l told ≡ ms → Agree w l told (listed r (sounds_in told) m)
listed_agree r w l [] m ms is same = tt
listed_agree r w l (p ∷ ps) m ms is same =
    let whole : m w ≡ all_of l (p ∷ ps) = is ∙ sym same in
    (refl, sym (ap (first_of r) whole), listed_agree r w l ps (λ w. drop 1 (m w)) (all_of l ps) (ap (drop 1) whole) refl)

-- ---- nodes

module _ (code : Code) (D : Trace) (gives : IsLawful code D) (P : PlaysTrace) (law : PlaysLawfully code P) (e : ℕ) (inside : e < length code.nodes) (env : Env) (names : Names) (old new : HeapState Branch) (ss : List Sound) (laws : HeapLaws old) (named : AreNamed old names) (counted : (w : Whole) → length (played code e env (bound_in w names)) ≡ length ss) where
  abbrev Mean : Node → Type 0
  Mean at = (bound : Bound) → played code e env bound ≡ plays_node code e at (played code) env bound

  one_gives : ((bound : Bound) → played code e env bound ≡ meaning code e env bound ∷ []) → PlaysOne D e env names old new ss → PlaysItems code e env names old new ss
  one_gives mean step = record {
    items = item step.0 (λ w. meaning code e env (bound_in w names)) ∷ [];
    in_hand = sym step.2;
    are = λ w. sym (mean (bound_in w names));
    comes = gives e env names old new step.0 step.1 inside laws named;
  }

  -- what is played below the node, whatever binds or arguments it is played under
  below_gives : (items : List Item) → sounds_in items ≡ ss → Comes (part_is code) old new (listed env.sound_rate (sounds_in items) (λ w. played code e env (bound_in w names))) → PlaysItems code e env names old new ss
  below_gives items in_hand comes = record {
    items = listed env.sound_rate (sounds_in items) (λ w. played code e env (bound_in w names));
    in_hand = listed_sounds env.sound_rate (sounds_in items) (λ w. played code e env (bound_in w names)) ∙ in_hand;
    are = λ w. listed_are env.sound_rate w (sounds_in items) (λ w. played code e env (bound_in w names)) (played code e env (bound_in w names)) refl (counted w ∙ ap length (sym in_hand));
    comes = comes;
  }

  vector_are : (w : Whole) (es : List ExprId) (from to : HeapState Branch) (ts : List Sound) → PartsTurn D env (parts_of names es) from to ts → all_of w (part_items code D gives env (parts_of names es) ts) ≡ map (operand code env (bound_in w names)) es
  vector_are w [] from to [] step = refl
  vector_are w [] from to (t ∷ ts) step = absurd step
  vector_are w (x ∷ xs) from to [] step = absurd step
  vector_are w (x ∷ xs) from to (t ∷ ts) step = ap (λ (rest : List sounds.Sound). meaning code x.0 env (bound_in w names) ∷ rest) (vector_are w xs step.0 to ts step.2)

  node_gives : (at : Node) → IsBelow code.functions e at → Mean at → PlaysNode D P code e at env names old new ss → PlaysItems code e env names old new ss
  node_gives (node.Vector es) below mean step = record {
    items = part_items code D gives env (parts_of names es) ss;
    in_hand = sym (part_sounds code D gives env (parts_of names es) old new ss step);
    are = λ w. vector_are w es old new ss step ∙ sym (mean (bound_in w names));
    comes = parts_come code D gives env (parts_of names es) old new ss (parts_are (length code.nodes) old names named es (below_all e (length code.nodes) es (omega (arith, inside)) below)) laws step;
  }
  node_gives (node.Call f es) below mean step =
      let params = (function_at code f.0).params in
      let body : ℕ = (function_at code f.0).body.0 in
      let m : Whole → List sounds.Sound = λ w. played code e env (bound_in w names) in
      let under = below_all e (length code.nodes) es (omega (arith, inside)) below.0 in
      let left = args_leave code D gives params es env names old step.mid step.values under laws named step.arguments in
      let got = law body env (zip params step.values) step.mid step.end ss step.inside (omega (arith, below.2, inside)) left.0 left.1 in
      below_gives got.items got.in_hand
      (under_args code D gives params es env names old step.mid step.end new step.values got.items (listed env.sound_rate (sounds_in got.items) m) under laws named step.arguments (sym (listed_sounds env.sound_rate (sounds_in got.items) m))
      (λ w l same. listed_agree env.sound_rate w l got.items m (played code body env (bound_in l (zip params step.values))) (mean (bound_in w names) ∙ ap (played code body env) (sym same)) (got.are l))
      got.comes step.given_up)
  node_gives (node.Block bs a) below mean step =
      let m : Whole → List sounds.Sound = λ w. played code e env (bound_in w names) in
      let under = below_binds e (length code.nodes) bs (omega (arith, inside)) below.0 in
      let left = binds_leave code D gives env bs names old step.mid step.added under laws named step.binds in
      let got = law a.0 env (names ++ step.added) step.mid step.end ss step.body (omega (arith, below.1, inside)) left.0 left.1 in
      below_gives got.items got.in_hand
      (under_binds code D gives env bs names old step.mid step.end new step.added got.items (listed env.sound_rate (sounds_in got.items) m) under laws named step.binds (sym (listed_sounds env.sound_rate (sounds_in got.items) m))
      (λ w l same. listed_agree env.sound_rate w l got.items m (played code a.0 env (bound_in l (names ++ step.added))) (mean (bound_in w names) ∙ ap (played code a.0 env) (sym same)) (got.are l))
      got.comes step.given_up)
  node_gives (node.If c a b) below mean step = chosen (test_of code c (scalars_of names)) refl step
    where
      told : (w : Whole) (t : Bool) → test_of code c (scalars_of names) ≡ t → played code e env (bound_in w names) ≡ (if t then played code a.0 env (bound_in w names) else played code b.0 env (bound_in w names))
      told w t is = mean (bound_in w names) ∙ ap (λ t. if t then played code a.0 env (bound_in w names) else played code b.0 env (bound_in w names)) (ap (test_of code c) (scalars_bound w names) ∙ is)

      of_part : (x : ExprId) → ((w : Whole) → played code e env (bound_in w names) ≡ played code x.0 env (bound_in w names)) → PlaysItems code x.0 env names old new ss → PlaysItems code e env names old new ss
      of_part x same got = record { items = got.items; in_hand = got.in_hand; are = λ w. got.are w ∙ sym (same w); comes = got.comes }

      chosen : (t : Bool) → test_of code c (scalars_of names) ≡ t → P (if t then a.0 else b.0) env names old new ss → PlaysItems code e env names old new ss
      chosen true is step = of_part a (λ w. told w true is) (law a.0 env names old new ss step (omega (arith, below.1, inside)) laws named)
      chosen false is step = of_part b (λ w. told w false is) (law b.0 env names old new ss step (omega (arith, below.2, inside)) laws named)
  node_gives (node.Number v) below mean step = one_gives mean step
  node_gives (node.Local x) below mean step = one_gives mean step
  node_gives (node.Global a) below mean step = one_gives mean step
  node_gives (node.Pair op a b) below mean step = one_gives mean step
  node_gives (node.Div a v) below mean step = one_gives mean step
  node_gives (node.Neg a) below mean step = one_gives mean step
  node_gives (node.Compare r a b) below mean step = one_gives mean step
  node_gives (node.And a b) below mean step = one_gives mean step
  node_gives (node.Or a b) below mean step = one_gives mean step
  node_gives (node.Not a) below mean step = one_gives mean step
  node_gives (node.Leaf g es) below mean step = one_gives mean step
  node_gives (node.Effect fx a es) below mean step = one_gives mean step
  node_gives (node.Cue a) below mean step = one_gives mean step
  node_gives (node.Mix o es) below mean step = one_gives mean step
  node_gives (node.Repeat o i k a) below mean step = one_gives mean step
  node_gives (node.Change c a) below mean step = one_gives mean step

-- ---- what is played

pub any_lawful : (code : Code) → IsOrdered code → KeepsFree code → IsLawful code (EvaluatesAny code)
any_lawful code ordered free e env names old new s t inside laws named = evaluates_lawful code ordered free t.0 e env names old new s t.1 inside laws named

-- by induction on the depth of the trace
pub plays_lawful : (code : Code) → IsOrdered code → KeepsFree code → (n : ℕ) → PlaysLawfully code (Plays code n)
plays_lawful code ordered free zero e env names old new ss t inside laws named = absurd t
plays_lawful code ordered free (suc n) e env names old new ss (inl t) inside laws named = plays_lawful code ordered free n e env names old new ss t inside laws named
plays_lawful code ordered free (suc n) e env names old new ss (inr t) inside laws named =
    let under = ordered.each e inside in
    node_gives code (EvaluatesAny code) (any_lawful code ordered free) (Plays code n) (plays_lawful code ordered free n) e inside env names old new ss laws named
    (λ w. plays_count code ordered (suc n) e env names old new ss (inr t) inside (bound_in w names) (scalars_bound w names))
    (node_at code e) under (λ bound. played-is code e env bound under) t
