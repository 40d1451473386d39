-- What a part that waits keeps is enough for what it makes.
use Rattle.std.specs.Prelude.{◌≡◌, ℕ, List, [], ◌∷◌, get_or}
use Rattle.ny_warp.specs.declared.env.Env.{Env}
use Rattle.ny_check.specs.declared.node.ExprId.{ExprId}
use Rattle.ny_check.specs.Code.{Code, node_at as node_in}
use Rattle.ny_check.specs.FreeNames.{picked}
use Rattle.ny_trace.specs.Laws.{in_turn}
use Rattle.ny_plan.specs.Plan.{Names, made}

-- each makes the same where its free names alone are kept
abbrev pub KeepMade : Code → List ExprId → Type 0
KeepMade code [] = Unit {0}
KeepMade code (x ∷ xs) =
    ((env : Env) (names : Names) → made code x.0 env (picked (get_or code.free x.0 []) names) ≡ made code x.0 env names) × KeepMade code xs

-- the same of the parts of each node whose parts come one after the other
abbrev pub KeepsMade : Code → Type 0
KeepsMade code = (e : ℕ) → KeepMade code (in_turn (node_in code e))
