-- What the code of an evaluation cites of what is played: a trace of more depth, evaluations of any depth, and the step at a node.
use Rattle.std.proofs.Common.{◌≡◌, inl, inr, ℕ, zero, suc, ◌+◌, ◌-◌, ◌≤◌, List, [], ◌∷◌, ◌++◌, sym, subst, ◌∙◌, arith}
use Rattle.ny_warp.specs.declared.env.Env.{Env}
use Rattle.ny_resolve.specs.declared.term.NameId.{NameId}
use Rattle.ny_check.specs.declared.node.Node.{Node}
use Rattle.ny_check.specs.declared.node.ExprId.{ExprId}
use Rattle.ny_check.specs.declared.value.Value.{Value}
use Rattle.ny_check.specs.declared.value.Value.TheVariants.{Number, Sound as SoundOf}
use Rattle.ny_check.specs.Code.{Code, node_at}
use Rattle.ny_heap.specs.declared.sound.Sound.{Sound}
use Rattle.ny_heap.specs.Heap.{HeapState}
use Rattle.ny_hands.specs.declared.branch.Branch.{Branch}
use Rattle.ny_hands.specs.Frames.{Names}
use Rattle.ny_trace.specs.Evaluates.{Trace, Part, ValueTurn, BindsTurn, ValuesTurn, PartsTurn, Evaluates}
use Rattle.ny_trace.specs.Plays.{EvaluatesAny, PlaysNode, Plays}

-- ---- depth

deeper : (code : Code) (m n : ℕ) (e : ℕ) (env : Env) (names : Names) (old new : HeapState Branch) (ss : List Sound) → Plays code m e env names old new ss → Plays code (n + m) e env names old new ss
deeper code m zero e env names old new ss t = subst (λ k. Plays code k e env names old new ss) (omega arith) t
deeper code m (suc n) e env names old new ss t =
    let more : suc (n + m) ≡ suc n + m = omega arith in
    subst (λ k. Plays code k e env names old new ss) more (inl (deeper code m n e env names old new ss t))

-- what is no deeper than m is no deeper than n
pub plays_lifted : (code : Code) (m n e : ℕ) (env : Env) (names : Names) (old new : HeapState Branch) (ss : List Sound) → m ≤ n → Plays code m e env names old new ss → Plays code n e env names old new ss
plays_lifted code m n e env names old new ss le t =
    let same : n - m + m ≡ n = omega (arith, le) in
    subst (λ k. Plays code k e env names old new ss) same (deeper code m (n - m) e env names old new ss t)

-- what plays the node of an expression plays the expression
pub plays_at : (code : Code) (e : ℕ) (here : Node) (env : Env) (names : Names) (old new : HeapState Branch) (ss : List Sound) → here ≡ node_at code e → (at : Node) → here ≡ at → PlaysNode (EvaluatesAny code) (Plays code e) code e at env names old new ss → Plays code (e + 1) e env names old new ss
plays_at code e here env names old new ss found at is t =
    let next : suc e ≡ e + 1 = omega arith in
    subst (λ k. Plays code k e env names old new ss) next (inr (subst (λ n. PlaysNode (EvaluatesAny code) (Plays code e) code e n env names old new ss) (sym is ∙ found) t))

-- ---- evaluations of any depth

module _ (code : Code) (D : Trace) (any : (e : ℕ) (env : Env) (names : Names) (old new : HeapState Branch) (s : Sound) → D e env names old new s → EvaluatesAny code e env names old new s) where
  any_value : (env : Env) (names : Names) (e : ExprId) (old new : HeapState Branch) (v : Value Sound) → ValueTurn D code env names e old new v → ValueTurn (EvaluatesAny code) code env names e old new v
  any_value env names e old new (Number k) step = step
  any_value env names e old new (SoundOf s) step = (step.0, any e.0 env names old new s step.1)

  pub any_binds : (env : Env) (bs : List (NameId × ExprId)) (names : Names) (old new : HeapState Branch) (added : Names) → BindsTurn D code env bs names old new added → BindsTurn (EvaluatesAny code) code env bs names old new added
  any_binds env [] names old new [] step = step
  any_binds env [] names old new (a ∷ added) step = absurd step
  any_binds env (b ∷ bs) names old new [] step = absurd step
  any_binds env (b ∷ bs) names old new (a ∷ added) step = (step.0, step.1, any_value env names b.1 old step.0 a.1 step.2, any_binds env bs (names ++ a ∷ []) step.0 new added step.3)

  pub any_values : (env : Env) (names : Names) (es : List ExprId) (old new : HeapState Branch) (vs : List (Value Sound)) → ValuesTurn D code env names es old new vs → ValuesTurn (EvaluatesAny code) code env names es old new vs
  any_values env names [] old new [] step = step
  any_values env names [] old new (v ∷ vs) step = absurd step
  any_values env names (e ∷ es) old new [] step = absurd step
  any_values env names (e ∷ es) old new (v ∷ vs) step = (step.0, any_value env names e old step.0 v step.1, any_values env names es step.0 new vs step.2)

  pub any_parts : (env : Env) (ps : List Part) (old new : HeapState Branch) (ss : List Sound) → PartsTurn D env ps old new ss → PartsTurn (EvaluatesAny code) env ps old new ss
  any_parts env [] old new [] step = step
  any_parts env [] old new (s ∷ ss) step = absurd step
  any_parts env (p ∷ ps) old new [] step = absurd step
  any_parts env (p ∷ ps) old new (s ∷ ss) step = (step.0, any p.0.0 env p.1 old step.0 s step.1, any_parts env ps step.0 new ss step.2)

-- of depth n
pub of_depth : (code : Code) (n e : ℕ) (env : Env) (names : Names) (old new : HeapState Branch) (s : Sound) → Evaluates code n e env names old new s → EvaluatesAny code e env names old new s
of_depth code n e env names old new s t = (n, t)
