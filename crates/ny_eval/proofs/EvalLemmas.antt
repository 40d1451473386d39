-- The steps of evaluation, by family, and what is in hand between them.
use Rattle.std.proofs.Common.{◌≡◌, ℕ, ◌+◌, ◌<◌, max, Bool, true, false, if◌then◌else◌, List, [], ◌∷◌, length, None, Some, refl, sym, ap, subst, ◌∙◌, arith, ℤ}
use Rattle.std.proofs.lemmas.List.{append-nil}
use Rattle.ny_kernels.specs.declared.operation.Op.{Op}
use Rattle.ny_warp.specs.declared.env.Env.{Env}
use Rattle.ny_scope.specs.Scopes.{last_of}
use Rattle.ny_resolve.specs.declared.builtin.Order.{Order}
use Rattle.ny_resolve.specs.declared.term.NameId.{NameId}
use Rattle.ny_resolve.specs.Keys.{same_name}
use Rattle.ny_check.specs.declared.node.Node.{Node}
use Rattle.ny_check.specs.declared.node.Node.TheVariants as node
use Rattle.ny_check.specs.declared.node.ExprId.{ExprId}
use Rattle.ny_check.specs.declared.node.FunctionId.{FunctionId}
use Rattle.ny_check.specs.declared.node.Change.{Change}
use Rattle.ny_check.specs.declared.node.Generator.{Generator}
use Rattle.ny_check.specs.declared.node.Effect.{Effect}
use Rattle.ny_check.specs.declared.value.Scalar.{Scalar}
use Rattle.ny_check.specs.declared.value.Scalar.TheVariants as scalar
use Rattle.ny_check.specs.declared.value.Value.{Value}
use Rattle.ny_check.specs.declared.value.Value.TheVariants.{Number, Sound as SoundOf}
use Rattle.ny_check.specs.Code.{Code, node_at, function_at, AllBelow, BindsBelow, IsBelow, IsOrdered}
use Rattle.ny_check.specs.Values.{scalars_of, number_of, test_of}
use Rattle.ny_check.specs.Families.{changed_env}
use Rattle.ny_heap.specs.declared.sound.Sound.{Sound}
use Rattle.ny_heap.specs.Heap.{HeapState}
use Rattle.ny_heap.specs.Reach.{HeapLaws}
use Rattle.ny_hands.specs.declared.branch.Branch.{Branch}
use Rattle.ny_hands.specs.Calls.{IsSilent}
use Rattle.ny_hands.specs.Frames.{Names, AllHeld}
use Rattle.ny_hands.specs.Hands.{Hand}
use Rattle.ny_hands.proofs.HandLemmas.{hand_none, hand_more}
use Rattle.ny_hands.proofs.HeldLemmas.{held_named, names_later}
use Rattle.ny_eval.specs.Framed.{FrameState, names_in}
use Rattle.ny_trace.specs.Evaluates.{NameTurn, NodeTurn, IsNoNumber, ValueTurn, JoinTurn, OperationTurn, SignTurn, BlockTurn, CallTurn, LeafTurn, EffectTurn, CueTurn, MixTurn, parts_of, counted_parts, Evaluates, numbers_in, sounds_of_values}
use Rattle.ny_trace.specs.Laws.{KeepsFree}
use Rattle.ny_trace.proofs.EvaluationLemmas.{evaluates_lawful}
use Rattle.ny_trace.proofs.StepLemmas.{lifted, value_lifted, step_at}
use Rattle.ny_eval.specs.Values.{number_in}

-- ---- what is in hand

-- of an expression
pub sound_hand : (code : Code) → IsOrdered code → KeepsFree code → (n e : ℕ) (env : Env) (names : Names) (old new : HeapState Branch) (s : Sound) → e < length code.nodes → HeapLaws old → AllHeld old names → Evaluates code n e env names old new s → Hand old new (s ∷ [])
sound_hand code ordered free n e env names old new s inside laws held t = (evaluates_lawful code ordered free n e env names old new s t inside laws (held_named old names held)).hand

-- of an operand
pub value_hand : (code : Code) → IsOrdered code → KeepsFree code → (n : ℕ) (e : ExprId) (env : Env) (names : Names) (old new : HeapState Branch) (v : Value Sound) → e.0 < length code.nodes → HeapLaws old → AllHeld old names → ValueTurn (Evaluates code n) code env names e old new v → Hand old new (sounds_of_values (v ∷ []))
value_hand code ordered free n e env names old new (Number k) inside laws held step = subst (λ (h : HeapState Branch). Hand old h []) step.1 (hand_none old laws)
value_hand code ordered free n e env names old new (SoundOf s) inside laws held step = sound_hand code ordered free n e.0 env names old new s inside laws held step.1

-- of two
pub values_hand : (old mid new : HeapState Branch) (x y : Value Sound) → Hand old mid (sounds_of_values (x ∷ [])) → Hand mid new (sounds_of_values (y ∷ [])) → Hand old new (sounds_of_values (x ∷ y ∷ []))
values_hand old mid new (Number k) y first second = hand_more old mid new [] (sounds_of_values (y ∷ [])) first second
values_hand old mid new (SoundOf s) y first second = hand_more old mid new (s ∷ []) (sounds_of_values (y ∷ [])) first second

-- of one, where the other was refused
pub first_hand : (old mid new : HeapState Branch) (x : Value Sound) → Hand old mid (sounds_of_values (x ∷ [])) → Hand mid new [] → Hand old new (sounds_of_values (x ∷ []))
first_hand old mid new (Number k) first second = hand_more old mid new [] [] first second
first_hand old mid new (SoundOf s) first second = hand_more old mid new (s ∷ []) [] first second

-- ---- names

-- of a frame in which none was bound yet
pub names_lent : (f : FrameState) (names : Names) → f ≡ record { lent = names; bound = [] } → names_in f ≡ names
names_lent f names is = ap names_in is ∙ append-nil names

-- what a frame that is as it was stands for is held in the same heap
pub held_same : (h : HeapState Branch) (f g : FrameState) → g ≡ f → AllHeld h (names_in f) → AllHeld h (names_in g)
held_same h f g same held = subst (λ (q : FrameState). AllHeld h (names_in q)) (sym same) held

-- and in a later heap
pub held_after : (old new : HeapState Branch) (ss : List Sound) (f g : FrameState) → HeapLaws old → Hand old new ss → g ≡ f → AllHeld old (names_in f) → AllHeld new (names_in g)
held_after old new ss f g laws hand same held = held_same new f g same (names_later old new ss (names_in f) laws hand held)

pub sound_under : (code : Code) (n e : ℕ) (env : Env) (f g : FrameState) (old new : HeapState Branch) (s : Sound) → g ≡ f → Evaluates code n e env (names_in g) old new s → Evaluates code n e env (names_in f) old new s
sound_under code n e env f g old new s same t = subst (λ (q : FrameState). Evaluates code n e env (names_in q) old new s) same t

pub value_under : (code : Code) (n : ℕ) (e : ExprId) (env : Env) (f g : FrameState) (old new : HeapState Branch) (v : Value Sound) → g ≡ f → ValueTurn (Evaluates code n) code env (names_in g) e old new v → ValueTurn (Evaluates code n) code env (names_in f) e old new v
value_under code n e env f g old new v same t = subst (λ (q : FrameState). ValueTurn (Evaluates code n) code env (names_in q) e old new v) same t

-- ---- operands

pub number_is : (s : Scalar) (v : ℤ) → Some v ≡ number_in s → s ≡ scalar.Number v
number_is (scalar.Number k) v e = ap (λ x. scalar.Number x) (same e)
  where
    same : {A : Type 0} {a b : A} → Some a ≡ Some b → b ≡ a
    same p = cc
number_is (scalar.Test b) v e = absurd (never e)
  where
    never : Some v ≡ None → ⊥
    never q = cc
number_is scalar.Sound v e = absurd (never e)
  where
    never : Some v ≡ None → ⊥
    never q = cc

pub no_number : (s : Scalar) → None ≡ number_in s → IsNoNumber s
no_number (scalar.Number k) e = never e
  where
    never : None ≡ Some k → ⊥
    never q = cc
no_number (scalar.Test b) e = tt
no_number scalar.Sound e = tt

pub in_copy : (code : Code) (n : ℕ) (e : ExprId) (env copy : Env) (names : Names) (old new : HeapState Branch) (v : Value Sound) → copy ≡ env → ValueTurn (Evaluates code n) code copy names e old new v → ValueTurn (Evaluates code n) code env names e old new v
in_copy code n e env copy names old new v same step = subst (λ (q : Env). ValueTurn (Evaluates code n) code q names e old new v) same step

-- ---- the parts of a node stand before it

module _ (code : Code) (e : ℕ) where
  pub pair_below : (op : Op) (a b : ExprId) (here : Node) → here ≡ node.Pair op a b → IsBelow code.functions e here → (a.0 < e) × (b.0 < e)
  pair_below op a b here is ordered = subst (λ n. IsBelow code.functions e n) is ordered

  pub sign_below : (a : ExprId) (here : Node) → here ≡ node.Neg a → IsBelow code.functions e here → a.0 < e
  sign_below a here is ordered = subst (λ n. IsBelow code.functions e n) is ordered

  pub call_below : (f : FunctionId) (es : List ExprId) (here : Node) → here ≡ node.Call f es → IsBelow code.functions e here → AllBelow e es × (f.0 < length code.functions) × ((function_at code f.0).body.0 < e)
  call_below f es here is ordered = subst (λ n. IsBelow code.functions e n) is ordered

  pub block_below : (bs : List (NameId × ExprId)) (a : ExprId) (here : Node) → here ≡ node.Block bs a → IsBelow code.functions e here → BindsBelow e bs × (a.0 < e)
  block_below bs a here is ordered = subst (λ n. IsBelow code.functions e n) is ordered

  pub effect_below : (w : Effect) (a : ExprId) (es : List ExprId) (here : Node) → here ≡ node.Effect w a es → IsBelow code.functions e here → a.0 < e
  effect_below w a es here is ordered = (subst (λ n. IsBelow code.functions e n) is ordered).0

  pub cue_below : (a : ExprId) (here : Node) → here ≡ node.Cue a → IsBelow code.functions e here → a.0 < e
  cue_below a here is ordered = subst (λ n. IsBelow code.functions e n) is ordered

  pub mix_below : (o : Order) (es : List ExprId) (here : Node) → here ≡ node.Mix o es → IsBelow code.functions e here → AllBelow e es
  mix_below o es here is ordered = subst (λ n. IsBelow code.functions e n) is ordered

  -- its parts stand in a slice
  pub mix_is : (o : Order) (es slice : List ExprId) (here : Node) → here ≡ node.Mix o es → here ≡ node_at code e → slice ≡ es → node_at code e ≡ node.Mix o slice
  mix_is o es slice here is found same = sym found ∙ (is ∙ ap (λ xs. node.Mix o xs) (sym same))

  pub repeat_below : (o : Order) (x : NameId) (k : ℕ) (a : ExprId) (here : Node) → here ≡ node.Repeat o x k a → IsBelow code.functions e here → a.0 < e
  repeat_below o x k a here is ordered = subst (λ n. IsBelow code.functions e n) is ordered

  pub choice_below : (c a b : ExprId) (t : Bool) (part : ℕ) (here : Node) → here ≡ node.If c a b → IsBelow code.functions e here → part ≡ (if t then a.0 else b.0) → part < e
  choice_below c a b t part here is ordered one = subst (λ k. k < e) (sym one) (by_choice t (subst (λ n. IsBelow code.functions e n) is ordered).1 (subst (λ n. IsBelow code.functions e n) is ordered).2)
    where
      by_choice : (t : Bool) → a.0 < e → b.0 < e → (if t then a.0 else b.0) < e
      by_choice true p q = p
      by_choice false p q = q

  pub change_below : (c : Change) (a : ExprId) (here : Node) → here ≡ node.Change c a → IsBelow code.functions e here → a.0 < e
  change_below c a here is ordered = (subst (λ n. IsBelow code.functions e n) is ordered).1

-- ---- the step at a node

pub operation_turn : (code : Code) (op : Op) (a b : ExprId) (env copy : Env) (names : Names) (old mid end new : HeapState Branch) (x y : Value Sound) (s : Sound) (n : ℕ) → copy ≡ env → max a.0 b.0 < n → ValueTurn (Evaluates code (a.0 + 1)) code copy names a old mid x → ValueTurn (Evaluates code (b.0 + 1)) code env names b mid end y → JoinTurn op env.sound_rate x y end new s → OperationTurn (Evaluates code n) code op a b env names old new s
operation_turn code op a b env copy names old mid end new x y s n same less first second join = record {
  left = x;
  right = y;
  mid = mid;
  end = end;
  first = value_lifted code (a.0 + 1) n a env names old mid x (omega (arith, less)) (in_copy code (a.0 + 1) a env copy names old mid x same first);
  second = value_lifted code (b.0 + 1) n b env names mid end y (omega (arith, less)) second;
  joined = join;
}

module _ (code : Code) (e : ℕ) (here : Node) (env : Env) (names : Names) (old new : HeapState Branch) (s : Sound) (found : here ≡ node_at code e) (ordered : IsBelow code.functions e here) where
  pub pair_arm : (op : Op) (a b : ExprId) → here ≡ node.Pair op a b → ((n : ℕ) → max a.0 b.0 < n → OperationTurn (Evaluates code n) code op a b env names old new s) → Evaluates code (e + 1) e env names old new s
  pair_arm op a b is turn =
      let under = subst (λ n. IsBelow code.functions e n) is ordered in
      step_at code e here env names old new s found (node.Pair op a b) is (turn e (omega (arith, under.0, under.1)))

  pub sign_arm : (a : ExprId) → here ≡ node.Neg a → ((n : ℕ) → a.0 < n → SignTurn (Evaluates code n) code a env names old new s) → Evaluates code (e + 1) e env names old new s
  sign_arm a is turn = step_at code e here env names old new s found (node.Neg a) is (turn e (subst (λ n. IsBelow code.functions e n) is ordered))

  pub name_arm : (x : NameId) → here ≡ node.Local x → NameTurn env.sound_rate (last_of (same_name x) names) old new s → Evaluates code (e + 1) e env names old new s
  name_arm x is turn = step_at code e here env names old new s found (node.Local x) is turn

  -- its arguments and its binds stand in slices
  pub call_arm : (f : FunctionId) (es slice : List ExprId) → here ≡ node.Call f es → slice ≡ es → CallTurn (Evaluates code e) code (function_at code f.0).params (function_at code f.0).body.0 slice env names old new s → Evaluates code (e + 1) e env names old new s
  call_arm f es slice is same turn = step_at code e here env names old new s found (node.Call f es) is (subst (λ xs. CallTurn (Evaluates code e) code (function_at code f.0).params (function_at code f.0).body.0 xs env names old new s) same turn)

  pub block_arm : (bs : List (NameId × ExprId)) (a : ExprId) (slice : List (NameId × ExprId)) → here ≡ node.Block bs a → slice ≡ bs → BlockTurn (Evaluates code e) code slice a env names old new s → Evaluates code (e + 1) e env names old new s
  block_arm bs a slice is same turn = step_at code e here env names old new s found (node.Block bs a) is (subst (λ xs. BlockTurn (Evaluates code e) code xs a env names old new s) same turn)

  -- its numbers stand in a slice
  pub leaf_arm : (w : Generator) (es slice : List ExprId) → here ≡ node.Leaf w es → slice ≡ es → LeafTurn w env (numbers_in code names slice) old new s → Evaluates code (e + 1) e env names old new s
  leaf_arm w es slice is same turn = step_at code e here env names old new s found (node.Leaf w es) is (subst (λ xs. LeafTurn w env (numbers_in code names xs) old new s) same turn)

  pub effect_arm : (w : Effect) (a : ExprId) (es slice : List ExprId) → here ≡ node.Effect w a es → slice ≡ es → ((n : ℕ) → a.0 < n → EffectTurn (Evaluates code n) w a (numbers_in code names slice) env names old new s) → Evaluates code (e + 1) e env names old new s
  effect_arm w a es slice is same turn =
      let under = subst (λ n. IsBelow code.functions e n) is ordered in
      step_at code e here env names old new s found (node.Effect w a es) is
      (subst (λ xs. EffectTurn (Evaluates code e) w a (numbers_in code names xs) env names old new s) same (turn e under.0))

  pub cue_arm : (a : ExprId) → here ≡ node.Cue a → ((n : ℕ) → a.0 < n → CueTurn (Evaluates code n) a env names old new s) → Evaluates code (e + 1) e env names old new s
  cue_arm a is turn = step_at code e here env names old new s found (node.Cue a) is (turn e (subst (λ n. IsBelow code.functions e n) is ordered))

  -- its parts stand in a slice
  pub mix_arm : (o : Order) (es slice : List ExprId) → here ≡ node.Mix o es → slice ≡ es → MixTurn (Evaluates code e) code e o (parts_of names slice) env names old new s → Evaluates code (e + 1) e env names old new s
  mix_arm o es slice is same turn =
      step_at code e here env names old new s found (node.Mix o es) is
      (subst (λ xs. MixTurn (Evaluates code e) code e o (parts_of names xs) env names old new s) same turn)

  pub repeat_arm : (o : Order) (x : NameId) (k : ℕ) (a : ExprId) → here ≡ node.Repeat o x k a → MixTurn (Evaluates code e) code e o (counted_parts names x k a) env names old new s → Evaluates code (e + 1) e env names old new s
  repeat_arm o x k a is turn = step_at code e here env names old new s found (node.Repeat o x k a) is turn

  pub choice_arm : (c a b : ExprId) (t : Bool) (part : ℕ) → here ≡ node.If c a b → t ≡ test_of code c (scalars_of names) → part ≡ (if t then a.0 else b.0) → Evaluates code (part + 1) part env names old new s → Evaluates code (e + 1) e env names old new s
  choice_arm c a b t part is holds one turn =
      let less = choice_below code e c a b t part here is ordered one in
      step_at code e here env names old new s found (node.If c a b) is
      (subst (λ k. Evaluates code e k env names old new s) (one ∙ ap (λ (x : Bool). if x then a.0 else b.0) holds)
      (lifted code (part + 1) e part env names old new s (omega (arith, less)) turn))

  pub change_arm : (c : Change) (a : ExprId) (changed : Env) → here ≡ node.Change c a → changed ≡ changed_env c (λ k. number_of code k (scalars_of names)) env → Evaluates code (a.0 + 1) a.0 changed names old new s → Evaluates code (e + 1) e env names old new s
  change_arm c a changed is now turn =
      let under = subst (λ n. IsBelow code.functions e n) is ordered in
      step_at code e here env names old new s found (node.Change c a) is
      (subst (λ (q : Env). Evaluates code e a.0 q names old new s) now
      (lifted code (a.0 + 1) e a.0 changed names old new s (omega (arith, under.1)) turn))

  -- what else there is is a number, a test or a vector
  module _ (not_local : (x : NameId) → here ≡ node.Local x → ⊥) (not_call : (f : FunctionId) (es : List ExprId) → here ≡ node.Call f es → ⊥) (not_block : (bs : List (NameId × ExprId)) (a : ExprId) → here ≡ node.Block bs a → ⊥) (not_pair : (op : Op) (a b : ExprId) → here ≡ node.Pair op a b → ⊥) (not_neg : (a : ExprId) → here ≡ node.Neg a → ⊥) (not_leaf : (w : Generator) (es : List ExprId) → here ≡ node.Leaf w es → ⊥) (not_effect : (w : Effect) (part : ExprId) (es : List ExprId) → here ≡ node.Effect w part es → ⊥) (not_if : (c a b : ExprId) → here ≡ node.If c a b → ⊥) (not_cue : (a : ExprId) → here ≡ node.Cue a → ⊥) (not_mix : (o : Order) (es : List ExprId) → here ≡ node.Mix o es → ⊥) (not_repeat : (o : Order) (x : NameId) (k : ℕ) (a : ExprId) → here ≡ node.Repeat o x k a → ⊥) (not_change : (c : Change) (a : ExprId) → here ≡ node.Change c a → ⊥) (silent : IsSilent old new env.sound_rate s) where
    silent_turn : (at : Node) → here ≡ at → NodeTurn (Evaluates code e) code e at env names old new s
    silent_turn (node.Number v) is = silent
    silent_turn (node.Local x) is = absurd (not_local x is)
    silent_turn (node.Global a) is = silent
    silent_turn (node.Call f es) is = absurd (not_call f es is)
    silent_turn (node.Block bs a) is = absurd (not_block bs a is)
    silent_turn (node.Pair op a b) is = absurd (not_pair op a b is)
    silent_turn (node.Div a v) is = silent
    silent_turn (node.Neg a) is = absurd (not_neg a is)
    silent_turn (node.Compare r a b) is = silent
    silent_turn (node.And a b) is = silent
    silent_turn (node.Or a b) is = silent
    silent_turn (node.Not a) is = silent
    silent_turn (node.If c a b) is = absurd (not_if c a b is)
    silent_turn (node.Leaf w es) is = absurd (not_leaf w es is)
    silent_turn (node.Effect w a es) is = absurd (not_effect w a es is)
    silent_turn (node.Cue a) is = absurd (not_cue a is)
    silent_turn (node.Mix o es) is = absurd (not_mix o es is)
    silent_turn (node.Repeat o x k a) is = absurd (not_repeat o x k a is)
    silent_turn (node.Change c a) is = absurd (not_change c a is)
    silent_turn (node.Vector es) is = silent

    pub silent_arm : Evaluates code (e + 1) e env names old new s
    silent_arm = step_at code e here env names old new s found here refl (silent_turn here refl)
