-- What is known of each program, as the laws of a trace ask it: how high its units stand, and which names its parts keep.
use Rattle.std.proofs.Common.{◌≡◌, ℕ, ◌+◌, ◌≤◌, max, List, [], ◌∷◌, Option, None, Some, refl, sym, ap, ◌∙◌, arith}
use Rattle.ny_num.specs.Sound as sounds
use Rattle.ny_warp.specs.declared.env.Env.{Env}
use Rattle.ny_scope.specs.Scopes.{last_of}
use Rattle.ny_resolve.specs.Keys.{same_name}
use Rattle.ny_resolve.specs.declared.term.NameId.{NameId}
use Rattle.ny_resolve.specs.declared.builtin.Order.TheVariants.{InTurn}
use Rattle.ny_check.specs.declared.node.Node.{Node as NodeOf}
use Rattle.ny_check.specs.declared.node.Node.TheVariants as node
use Rattle.ny_check.specs.declared.node.ExprId.{ExprId}
use Rattle.ny_check.specs.Code.{Code, node_at as node_in}
use Rattle.ny_check.specs.Heights.{greatest as greatest_of, one_on_another as one_on_another_of, height_node, IsTall as LeavesRoom}
use Rattle.ny_check.specs.declared.value.Value.{Value}
use Rattle.ny_check.specs.Meaning.{Bound, meaning}
use Rattle.ny_check.specs.FreeNames as free
use Rattle.ny_check.specs.KeptNames as kept
use Rattle.ny_trace.specs.Heights.{greatest, one_on_another, tall_node, IsTall}
use Rattle.ny_trace.specs.Laws.{KeepsFree, KeepFree, pick, picked, in_turn}

greatest_same : (f : ℕ → ℕ) (es : List ExprId) → greatest f es ≡ greatest_of f es
greatest_same f [] = refl
greatest_same f (e ∷ es) = ap (max (f e.0)) (greatest_same f es)

binds_same : (f : ℕ → ℕ) (bs : List (NameId × ExprId)) → one_on_another f bs ≡ one_on_another_of f bs
binds_same f [] = refl
binds_same f (b ∷ bs) = ap (λ n. f b.1.0 + n) (binds_same f bs)

-- what a node makes is no higher than the text says
tall_is : (code : Code) (at : NodeOf) (f : ℕ → ℕ) → tall_node code at f ≤ height_node code at f
tall_is code (node.Number v) f = omega arith
tall_is code (node.Local x) f = omega arith
tall_is code (node.Global a) f = omega arith
tall_is code (node.Call g es) f = omega (arith, greatest_same f es)
tall_is code (node.Block bs a) f = omega (arith, binds_same f bs)
tall_is code (node.Pair op a b) f = omega arith
tall_is code (node.Div a v) f = omega arith
tall_is code (node.Neg a) f = omega arith
tall_is code (node.Compare r a b) f = omega arith
tall_is code (node.And a b) f = omega arith
tall_is code (node.Or a b) f = omega arith
tall_is code (node.Not a) f = omega arith
tall_is code (node.If c a b) f = omega arith
tall_is code (node.Leaf w es) f = omega arith
tall_is code (node.Effect w a es) f = omega arith
tall_is code (node.Cue a) f = omega arith
tall_is code (node.Mix o es) f = omega (arith, greatest_same f es)
tall_is code (node.Repeat o x k a) f = omega arith
tall_is code (node.Change c a) f = omega arith
tall_is code (node.Vector es) f = omega arith

pub heights_enough : (code : Code) (f : ℕ → ℕ) → LeavesRoom code f → IsTall code f
heights_enough code f room e inside = omega (arith, room e inside, tall_is code (node_in code e) f)

-- ---- names

same_pick : (o : Option (Value sounds.Sound)) (x : NameId) (a b : Bound) → a ≡ b → free.pick o x a ≡ pick o x b
same_pick None x a b same = same
same_pick (Some v) x a b same = ap (λ (rest : Bound). (x, v) ∷ rest) same

same_picked : (xs : List NameId) (bound : Bound) → free.picked xs bound ≡ picked xs bound
same_picked [] bound = refl
same_picked (x ∷ xs) bound = same_pick (last_of (same_name x) bound) x (free.picked xs bound) (picked xs bound) (same_picked xs bound)

one_free : (code : Code) (e : ℕ) (xs : List NameId) → free.IsKeptBy code e xs → (env : Env) (bound : Bound) → meaning code e env (picked xs bound) ≡ meaning code e env bound
one_free code e xs all env bound = ap (meaning code e env) (sym (same_picked xs bound)) ∙ all env bound

listed_free : (code : Code) (es : List ExprId) → kept.KeepFree code es → KeepFree code es
listed_free code [] all = tt
listed_free code (e ∷ es) all = (one_free code e.0 (kept.kept_of code e.0) all.0, listed_free code es all.1)

pub keeps_free : (code : Code) → kept.KeepsFree code → kept.RepeatsKeepFree code → KeepsFree code
keeps_free code listed counted e = by_node (node_in code e) refl
  where
    by_node : (at : NodeOf) → node_in code e ≡ at → KeepFree code (in_turn at)
    by_node (node.Mix InTurn es) is = listed_free code es (listed e es is)
    by_node (node.Repeat InTurn i k a) is = (one_free code a.0 (kept.kept_of code a.0) (counted e i k a is), tt)
    by_node _ is = tt
