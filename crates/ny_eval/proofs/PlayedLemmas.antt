-- What is played: the steps, and what is in hand between them.
use Rattle.std.proofs.Common.{◌≡◌, ℕ, ◌+◌, ◌<◌, Bool, if◌then◌else◌, List, [], ◌∷◌, ◌++◌, length, take, drop, Result, Ok, Err, IfOk, OnErr, refl, sym, ap, subst, ◌∙◌, arith}
use Rattle.std.specs.Prelude.{zip}
use Rattle.std.proofs.lemmas.List.{append_assoc}
use Rattle.std.specs.declared.alloc.AllocError.{AllocError}
use Rattle.ny_warp.specs.declared.env.Env.{Env}
use Rattle.ny_resolve.specs.declared.term.NameId.{NameId}
use Rattle.ny_check.specs.declared.node.Node.{Node}
use Rattle.ny_check.specs.declared.node.Node.TheVariants as node
use Rattle.ny_check.specs.declared.node.ExprId.{ExprId}
use Rattle.ny_check.specs.declared.node.FunctionId.{FunctionId}
use Rattle.ny_check.specs.Code.{Code, node_at, function_at, AllBelow, IsBelow, IsOrdered}
use Rattle.ny_check.specs.Values.{scalars_of, test_of}
use Rattle.ny_heap.specs.declared.sound.Sound.{Sound}
use Rattle.ny_heap.specs.Heap.{HeapState}
use Rattle.ny_heap.specs.Reach.{HeapLaws}
use Rattle.ny_hands.specs.declared.branch.Branch.{Branch}
use Rattle.ny_hands.specs.Calls.{ReleasesAll}
use Rattle.ny_hands.specs.Frames.{Names, AllHeld, sounds_among}
use Rattle.ny_hands.specs.Hands.{Hand}
use Rattle.ny_hands.proofs.HeldLemmas.{held_named}
use Rattle.ny_trace.specs.Evaluates.{PartsTurn, parts_of, Evaluates}
use Rattle.ny_trace.specs.Plays.{EvaluatesAny, PlaysCall, PlaysBlock, PlaysNode, Plays}
use Rattle.ny_trace.specs.Laws.{KeepsFree}
use Rattle.ny_trace.proofs.PlaysLemmas.{plays_lawful}
use Rattle.ny_trace.proofs.PlaysStepLemmas.{plays_lifted, plays_at, any_binds, any_values, any_parts, of_depth}
use Rattle.ny_eval.specs.Framed.{FrameState, names_in, AreBound, ArePassed}
use Rattle.ny_eval.proofs.BodyLemmas.{drop_first, zip_sounds}
use Rattle.ny_eval.proofs.EvalLemmas.{choice_below}

-- ---- what is in hand

pub plays_hand : (code : Code) → IsOrdered code → KeepsFree code → (n e : ℕ) (env : Env) (names : Names) (old new : HeapState Branch) (ss : List Sound) → e < length code.nodes → HeapLaws old → AllHeld old names → Plays code n e env names old new ss → Hand old new ss
plays_hand code ordered free n e env names old new ss inside laws held t =
    let got = plays_lawful code ordered free n e env names old new ss t inside laws (held_named old names held) in
    subst (λ xs. Hand old new xs) got.in_hand got.comes.hand

-- what came into hand, or nothing
pub played_hand : {A : Type 0} (code : Code) → IsOrdered code → KeepsFree code → (items : A → List Sound) (n e : ℕ) (env : Env) (names : Names) (mid end : HeapState Branch) (r : Result A AllocError) → e < length code.nodes → HeapLaws mid → AllHeld mid names → IfOk r (λ x. Plays code n e env names mid end (items x)) → OnErr r (Hand mid end []) → (ss : List Sound) × Hand mid end ss
played_hand code ordered free items n e env names mid end (Ok x) inside laws held plays refused = (items x, plays_hand code ordered free n e env names mid end (items x) inside laws held plays)
played_hand code ordered free items n e env names mid end (Err fault) inside laws held plays refused = ([], refused)

pub plays_under : (code : Code) (n e : ℕ) (env : Env) (f g : FrameState) (old new : HeapState Branch) (ss : List Sound) → g ≡ f → Plays code n e env (names_in g) old new ss → Plays code n e env (names_in f) old new ss
plays_under code n e env f g old new ss same t = subst (λ (q : FrameState). Plays code n e env (names_in q) old new ss) same t

-- ---- blocks and calls

pub block_played : (code : Code) (n : ℕ) (env : Env) (bs : List (NameId × ExprId)) (a : ExprId) (f g k : FrameState) (old mid end new : HeapState Branch) (ss : List Sound) (m : ℕ) → a.0 < n → AreBound code n env bs f g old mid → k ≡ g → m ≡ length f.bound → Plays code (a.0 + 1) a.0 env (names_in g) mid end ss → ReleasesAll end new (sounds_among (drop m k.bound)) → PlaysBlock (EvaluatesAny code) (Plays code n) code bs a env (names_in f) old new ss
block_played code n env bs a f g k old mid end new ss m below b same count body given = record {
  added = b.added;
  mid = mid;
  end = end;
  binds = any_binds code (Evaluates code n) (of_depth code n) env bs (names_in f) old mid b.added b.turn;
  body = plays_lifted code (a.0 + 1) n a.0 env (names_in f ++ b.added) mid end ss (omega (arith, below)) (subst (λ (ns : Names). Plays code (a.0 + 1) a.0 env ns mid end ss) (ap names_in b.frame ∙ sym (append_assoc f.lent f.bound b.added)) body);
  given_up = subst (λ (ns : Names). ReleasesAll end new (sounds_among ns)) (ap (λ i. drop i k.bound) count ∙ (ap (λ (q : FrameState). drop (length f.bound) q.bound) (same ∙ b.frame) ∙ drop_first f.bound b.added)) given;
}

pub call_played : (code : Code) (n : ℕ) (env : Env) (names : Names) (xs : List NameId) (es : List ExprId) (body : ℕ) (f g k : FrameState) (old mid end new : HeapState Branch) (ss : List Sound) → body < n → f ≡ record { lent = []; bound = [] } → ArePassed code n env names xs (take (length xs) es) f g old mid → k ≡ g → Plays code (body + 1) body env (names_in g) mid end ss → ReleasesAll end new (sounds_among (drop 0 k.bound)) → PlaysCall (EvaluatesAny code) (Plays code n) code xs body es env names old new ss
call_played code n env names xs es body f g k old mid end new ss below none b same inside given = record {
  values = b.values;
  mid = mid;
  end = end;
  arguments = any_values code (Evaluates code n) (of_depth code n) env names (take (length xs) es) old mid b.values b.turn;
  inside = plays_lifted code (body + 1) n body env (zip xs b.values) mid end ss (omega (arith, below)) (subst (λ (ns : Names). Plays code (body + 1) body env ns mid end ss) (ap names_in frame) inside);
  given_up = subst (λ ts. ReleasesAll end new ts) (ap (λ (q : FrameState). sounds_among q.bound) (same ∙ frame) ∙ zip_sounds xs b.values b.few) given;
}
  where
    frame : g ≡ record { lent = []; bound = zip xs b.values }
    frame = b.frame ∙ ap (λ (q : FrameState). let r : FrameState = record q { bound = q.bound ++ zip xs b.values } in r) none

-- ---- the step at a node

pub vector_below : (code : Code) (e : ℕ) (es : List ExprId) (here : Node) → here ≡ node.Vector es → IsBelow code.functions e here → AllBelow e es
vector_below code e es here is ordered = subst (λ n. IsBelow code.functions e n) is ordered

module _ (code : Code) (e : ℕ) (here : Node) (env : Env) (names : Names) (old new : HeapState Branch) (ss : List Sound) (found : here ≡ node_at code e) (ordered : IsBelow code.functions e here) where
  -- its operands stand in a slice
  pub vector_played : (es slice : List ExprId) → here ≡ node.Vector es → slice ≡ es → PartsTurn (Evaluates code e) env (parts_of names slice) old new ss → Plays code (e + 1) e env names old new ss
  vector_played es slice is same turn =
      plays_at code e here env names old new ss found (node.Vector es) is
      (subst (λ xs. PartsTurn (EvaluatesAny code) env (parts_of names xs) old new ss) same (any_parts code (Evaluates code e) (of_depth code e) env (parts_of names slice) old new ss turn))

  -- its arguments and its binds stand in slices
  pub call_plays : (f : FunctionId) (es slice : List ExprId) → here ≡ node.Call f es → slice ≡ es → PlaysCall (EvaluatesAny code) (Plays code e) code (function_at code f.0).params (function_at code f.0).body.0 slice env names old new ss → Plays code (e + 1) e env names old new ss
  call_plays f es slice is same turn = plays_at code e here env names old new ss found (node.Call f es) is (subst (λ xs. PlaysCall (EvaluatesAny code) (Plays code e) code (function_at code f.0).params (function_at code f.0).body.0 xs env names old new ss) same turn)

  pub block_plays : (bs : List (NameId × ExprId)) (a : ExprId) (slice : List (NameId × ExprId)) → here ≡ node.Block bs a → slice ≡ bs → PlaysBlock (EvaluatesAny code) (Plays code e) code slice a env names old new ss → Plays code (e + 1) e env names old new ss
  block_plays bs a slice is same turn = plays_at code e here env names old new ss found (node.Block bs a) is (subst (λ xs. PlaysBlock (EvaluatesAny code) (Plays code e) code xs a env names old new ss) same turn)

  pub choice_plays : (c a b : ExprId) (t : Bool) (part : ℕ) → here ≡ node.If c a b → t ≡ test_of code c (scalars_of names) → part ≡ (if t then a.0 else b.0) → Plays code (part + 1) part env names old new ss → Plays code (e + 1) e env names old new ss
  choice_plays c a b t part is holds one turn =
      let less = choice_below code e c a b t part here is ordered one in
      plays_at code e here env names old new ss found (node.If c a b) is
      (subst (λ k. Plays code e k env names old new ss) (one ∙ ap (λ (x : Bool). if x then a.0 else b.0) holds)
      (plays_lifted code (part + 1) e part env names old new ss (omega (arith, less)) turn))

  -- what else there is plays one sound
  module _ (not_vector : (es : List ExprId) → here ≡ node.Vector es → ⊥) (not_call : (f : FunctionId) (es : List ExprId) → here ≡ node.Call f es → ⊥) (not_block : (bs : List (NameId × ExprId)) (a : ExprId) → here ≡ node.Block bs a → ⊥) (not_if : (c a b : ExprId) → here ≡ node.If c a b → ⊥) (one : (s : Sound) × Evaluates code (e + 1) e env names old new s × (ss ≡ s ∷ [])) where
    any_one : (s : Sound) × EvaluatesAny code e env names old new s × (ss ≡ s ∷ [])
    any_one = (one.0, (e + 1, one.1), one.2)

    one_turn : (at : Node) → here ≡ at → PlaysNode (EvaluatesAny code) (Plays code e) code e at env names old new ss
    one_turn (node.Number v) is = any_one
    one_turn (node.Local x) is = any_one
    one_turn (node.Global a) is = any_one
    one_turn (node.Call f es) is = absurd (not_call f es is)
    one_turn (node.Block bs a) is = absurd (not_block bs a is)
    one_turn (node.Pair op a b) is = any_one
    one_turn (node.Div a v) is = any_one
    one_turn (node.Neg a) is = any_one
    one_turn (node.Compare r a b) is = any_one
    one_turn (node.And a b) is = any_one
    one_turn (node.Or a b) is = any_one
    one_turn (node.Not a) is = any_one
    one_turn (node.If c a b) is = absurd (not_if c a b is)
    one_turn (node.Leaf w es) is = any_one
    one_turn (node.Effect w a es) is = any_one
    one_turn (node.Cue a) is = any_one
    one_turn (node.Mix o es) is = any_one
    one_turn (node.Repeat o x k a) is = any_one
    one_turn (node.Change c a) is = any_one
    one_turn (node.Vector es) is = absurd (not_vector es is)

    pub one_plays : Plays code (e + 1) e env names old new ss
    one_plays = plays_at code e here env names old new ss found here refl (one_turn here refl)
