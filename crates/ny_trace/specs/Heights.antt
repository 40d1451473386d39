-- How high the units of a trace stand.
use Rattle.std.specs.Prelude.{◌≡◌, ℕ, ◌+◌, ◌<◌, ◌≤◌, max, List, [], ◌∷◌, slice_get, None, Some, length}
use Rattle.ny_resolve.specs.declared.term.NameId.{NameId}
use Rattle.ny_warp.specs.declared.env.Env.{Env}
use Rattle.ny_check.specs.declared.node.Node.{Node}
use Rattle.ny_check.specs.declared.node.Node.TheVariants as node
use Rattle.ny_check.specs.declared.node.ExprId.{ExprId}
use Rattle.ny_check.specs.Code.{Code, node_at as node_in, function_at}
use Rattle.ny_heap.specs.declared.sound.Sound.{Sound}
use Rattle.ny_heap.specs.Heap.{Node as Unit_, Waiting, Captured, HeapState, node_at, list_of}
use Rattle.ny_heap.specs.Reach.{HeapLaws}
use Rattle.ny_hands.specs.Ranks.{IsRank}
use Rattle.ny_hands.specs.declared.branch.Branch.{Branch}
use Rattle.ny_hands.specs.Frames.{Names, sounds_among}
use Rattle.ny_trace.specs.Evaluates.{Trace, Part}
use Rattle.ny_hands.specs.Hands.{AreNamed}

-- ---- a bound of the text alone, through calls

abbrev pub greatest : (ℕ → ℕ) → List ExprId → ℕ
greatest tall [] = 0
greatest tall (e ∷ es) = max (tall e.0) (greatest tall es)

-- of parts
abbrev pub tallest : (ℕ → ℕ) → List Part → ℕ
tallest tall [] = 0
tallest tall (p ∷ ps) = max (tall p.0.0) (tallest tall ps)

abbrev pub one_on_another : (ℕ → ℕ) → List (NameId × ExprId) → ℕ
one_on_another tall [] = 0
one_on_another tall (b ∷ bs) = tall b.1.0 + one_on_another tall bs

-- A name makes no unit. An operand may be brought to a rate first. A bind may stand on those before it, and a body on its binds or
-- arguments.
abbrev pub tall_node : Code → Node → (ℕ → ℕ) → ℕ
tall_node code (node.Call f es) tall = greatest tall es + tall (function_at code f.0).body.0
tall_node code (node.Block bs a) tall = one_on_another tall bs + tall a.0
tall_node code (node.If c a b) tall = max (tall a.0) (tall b.0)
tall_node code (node.Pair op a b) tall = max (tall a.0) (tall b.0) + 2
tall_node code (node.Neg a) tall = tall a.0 + 2
tall_node code (node.Leaf g es) tall = 1
tall_node code (node.Effect fx a es) tall = tall a.0 + 1
tall_node code (node.Cue a) tall = tall a.0 + 1
tall_node code (node.Mix o es) tall = greatest tall es + 2
tall_node code (node.Repeat o i k a) tall = tall a.0 + 2
tall_node code (node.Change c a) tall = tall a.0
tall_node code _ tall = 0

abbrev pub IsTall : Code → (ℕ → ℕ) → Type 0
IsTall code tall = (e : ℕ) → e < length code.nodes → tall_node code (node_in code e) tall ≤ tall e

-- ---- heights in a heap

-- under a part that waits there is room for what it will make
pub record HasRoom (tall rank : ℕ → ℕ) (top : ℕ) (p : Waiting Branch) : Type 0 where
  pub base : ℕ
  pub captured : (i : ℕ) (c : Captured) (n : ℕ) → slice_get p.captured i ≡ Some c → c.node ≡ Some n → rank n < base
  pub room : base + tall p.branch.expr.0 < top

pub record Ranks (tall : ℕ → ℕ) (h : HeapState Branch) (rank : ℕ → ℕ) : Type 0 where
  pub falls : IsRank h rank
  pub room : (u : ℕ) (x : Unit_ Branch) (i : ℕ) (p : Waiting Branch) → node_at h u ≡ Some x → slice_get x.waiting i ≡ Some p → HasRoom tall rank (rank u) p

abbrev pub AreLow : (ℕ → ℕ) → ℕ → List Sound → Type 0
AreLow rank bound [] = Unit {0}
AreLow rank bound (s ∷ ss) = ((n : ℕ) → list_of s ≡ Some n → rank n < bound) × AreLow rank bound ss

-- all that was there stands as it did, and what is new, and in hand, lower than `bound`
pub record Stands (tall : ℕ → ℕ) (old new : HeapState Branch) (rank : ℕ → ℕ) (bound : ℕ) (hand : List Sound) : Type 0 where
  pub later : ℕ → ℕ
  pub ranks : Ranks tall new later
  pub same : (v : ℕ) (x : Unit_ Branch) → node_at old v ≡ Some x → later v ≡ rank v
  pub low : (v : ℕ) (y : Unit_ Branch) → node_at old v ≡ None → node_at new v ≡ Some y → later v < bound
  pub in_hand : AreLow later bound hand

-- an evaluation over names that stand lower than `base` adds no more than the text lets it
abbrev pub IsRising : Code → (ℕ → ℕ) → Trace → Type 0
IsRising code tall D =
    (e : ℕ) (env : Env) (names : Names) (old new : HeapState Branch) (s : Sound) → D e env names old new s → e < length code.nodes → HeapLaws old → AreNamed old names → (rank : ℕ → ℕ) (base : ℕ) → Ranks tall old rank → AreLow rank base (sounds_among names) → Stands tall old new rank (base + tall e) (s ∷ [])
