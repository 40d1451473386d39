-- What the code of an evaluation cites: a trace of more depth, and the step at a node.
use Rattle.std.proofs.Common.{◌≡◌, inr, ℕ, suc, ◌+◌, ◌-◌, ◌≤◌, sym, subst, ◌∙◌, arith}
use Rattle.ny_warp.specs.declared.env.Env.{Env}
use Rattle.ny_check.specs.declared.node.Node.{Node}
use Rattle.ny_check.specs.declared.node.ExprId.{ExprId}
use Rattle.ny_check.specs.declared.value.Value.{Value}
use Rattle.ny_check.specs.declared.value.Value.TheVariants.{Number, Sound as SoundOf}
use Rattle.ny_check.specs.Code.{Code, node_at}
use Rattle.ny_heap.specs.declared.sound.Sound.{Sound}
use Rattle.ny_heap.specs.Heap.{HeapState}
use Rattle.ny_hands.specs.declared.branch.Branch.{Branch}
use Rattle.ny_hands.specs.Frames.{Names}
use Rattle.ny_trace.specs.Evaluates.{NodeTurn, ValueTurn, Evaluates}
use Rattle.ny_trace.proofs.EvaluationLemmas.{deeper}

-- what is no deeper than m is no deeper than n
pub lifted : (code : Code) (m n e : ℕ) (env : Env) (names : Names) (old new : HeapState Branch) (s : Sound) → m ≤ n → Evaluates code m e env names old new s → Evaluates code n e env names old new s
lifted code m n e env names old new s le t =
    let same : n - m + m ≡ n = omega (arith, le) in
    subst (λ k. Evaluates code k e env names old new s) same (deeper code m (n - m) e env names old new s t)

pub value_lifted : (code : Code) (m n : ℕ) (e : ExprId) (env : Env) (names : Names) (old new : HeapState Branch) (v : Value Sound) → m ≤ n → ValueTurn (Evaluates code m) code env names e old new v → ValueTurn (Evaluates code n) code env names e old new v
value_lifted code m n e env names old new (Number k) le step = step
value_lifted code m n e env names old new (SoundOf s) le step = (step.0, lifted code m n e.0 env names old new s le step.1)

-- what evaluates the node of an expression evaluates the expression
pub step_at : (code : Code) (e : ℕ) (here : Node) (env : Env) (names : Names) (old new : HeapState Branch) (s : Sound) → here ≡ node_at code e → (at : Node) → here ≡ at → NodeTurn (Evaluates code e) code e at env names old new s → Evaluates code (e + 1) e env names old new s
step_at code e here env names old new s found at is t =
    let next : suc e ≡ e + 1 = omega arith in
    subst (λ k. Evaluates code k e env names old new s) next (inr (subst (λ n. NodeTurn (Evaluates code e) code e n env names old new s) (sym is ∙ found) t))
