-- The free local names of a node of a table: those that it sees from outside.
use Rattle.std.specs.Prelude.{ℕ, Bool, true, false, ◌||◌, ◌≡◌, ◌<◌, if◌then◌else◌, List, [], ◌∷◌, length, Option, Some, None}
use Rattle.std.specs.List.{list_any}
use Rattle.ny_warp.specs.declared.env.Env.{Env}
use Rattle.ny_scope.specs.Scopes.{last_of}
use Rattle.ny_resolve.specs.declared.term.NameId.{NameId}
use Rattle.ny_resolve.specs.Keys.{same_name}
use Rattle.ny_check.specs.declared.node.Node.{Node}
use Rattle.ny_check.specs.declared.node.Node.TheVariants as node
use Rattle.ny_check.specs.declared.node.Change.{Change}
use Rattle.ny_check.specs.declared.node.Change.TheVariants as change
use Rattle.ny_check.specs.declared.node.ExprId.{ExprId}
use Rattle.ny_check.specs.Code.{Code, node_at}
use Rattle.ny_check.specs.Recursion.{by_smaller}
use Rattle.ny_check.specs.Values.{Scalars, scalar_of}
use Rattle.ny_check.specs.Meaning.{Bound, meaning}

-- it is free in one of these
abbrev pub in_any : (ℕ → Bool) → List ExprId → Bool
in_any free [] = false
in_any free (e ∷ es) = free e.0 || in_any free es

-- it is free in a block: in a bind or in the value, and not bound before
abbrev pub in_block : NameId → List (NameId × ExprId) → ExprId → (ℕ → Bool) → Bool
in_block x [] e free = free e.0
in_block x (b ∷ bs) e free = free b.1.0 || (if same_name x b.0 then false else in_block x bs e free)

-- it is free in the number by which a change goes
abbrev pub in_change : Change → (ℕ → Bool) → Bool
in_change (change.By t k) free = free k.0
in_change (change.Warp m) free = false
in_change (change.Rate rated r) free = false

-- Whether a name is free in a node, of whether it is in the nodes before. The body of a function and the value of a global
-- variable see no local name from outside; a bind hides the name in what follows it, and a counter in its part.
abbrev pub free_node : NameId → Node → (ℕ → Bool) → Bool
free_node x (node.Local y) free = same_name x y
free_node x (node.Call f es) free = in_any free es
free_node x (node.Block bs e) free = in_block x bs e free
free_node x (node.Pair op a b) free = free a.0 || free b.0
free_node x (node.Div a v) free = free a.0
free_node x (node.Neg a) free = free a.0
free_node x (node.Compare r a b) free = free a.0 || free b.0
free_node x (node.And a b) free = free a.0 || free b.0
free_node x (node.Or a b) free = free a.0 || free b.0
free_node x (node.Not a) free = free a.0
free_node x (node.If c a b) free = free c.0 || (free a.0 || free b.0)
free_node x (node.Leaf w es) free = in_any free es
free_node x (node.Effect w e es) free = free e.0 || in_any free es
free_node x (node.Cue e) free = free e.0
free_node x (node.Mix o es) free = in_any free es
free_node x (node.Repeat o y k e) free = if same_name x y then false else free e.0
free_node x (node.Change c e) free = in_change c free || free e.0
free_node x (node.Vector es) free = in_any free es
free_node x _ free = false

-- whether a local name is free in an expression
unfoldable pub is_free : Code → NameId → ℕ → Bool
is_free code x = by_smaller false (λ e free. free_node x (node_at code e) free)

-- two lists of bindings say the same of each of these names
abbrev pub Agree : {V : Type 0} → (NameId → Bool) → List (NameId × V) → List (NameId × V) → Type 0
Agree names b c = (x : NameId) → names x ≡ true → last_of (same_name x) b ≡ last_of (same_name x) c

-- a meaning depends on the free names alone
abbrev pub DependsOnFree : Code → Type 0
DependsOnFree code =
    (e : ℕ) (env : Env) (b c : Bound) → e < length code.nodes → Agree (λ x. is_free code x e) b c → meaning code e env b ≡ meaning code e env c

-- so does what an expression is as a number or a test
abbrev pub ScalarDependsOnFree : Code → Type 0
ScalarDependsOnFree code = (e : ℕ) (b c : Scalars) → Agree (λ x. is_free code x e) b c → scalar_of code e b ≡ scalar_of code e c

-- ---- what is captured for some names

-- of a name that stands for something, what it stands for
abbrev pub pick : {V : Type 0} → Option V → NameId → List (NameId × V) → List (NameId × V)
pick None x rest = rest
pick (Some v) x rest = (x, v) ∷ rest

-- what these names stand for, in their order
abbrev pub picked : {V : Type 0} → List NameId → List (NameId × V) → List (NameId × V)
picked [] bound = []
picked (x ∷ xs) bound = pick (last_of (same_name x) bound) x (picked xs bound)

-- each free name of an expression is among these
abbrev pub HasFree : Code → ℕ → List NameId → Type 0
HasFree code e xs = (x : NameId) → is_free code x e ≡ true → list_any (same_name x) xs ≡ true

-- an expression means the same where nothing is kept but what such names stand for
abbrev pub IsKeptBy : Code → ℕ → List NameId → Type 0
IsKeptBy code e xs = (env : Env) (bound : Bound) → meaning code e env (picked xs bound) ≡ meaning code e env bound
