-- What an expression can make stands no higher than two units for each node that it has.
use Rattle.std.proofs.Common.{◌≡◌, ℕ, zero, suc, ◌*◌, ◌<◌, ◌≤◌, List, [], ◌∷◌, length, refl, ◌∙◌, subst, inl, inr, arith}
use Rattle.std.specs.Prelude.{◌⊎◌}
use Rattle.std.proofs.lemmas.Bool.{cases_lt}
use Rattle.std.proofs.Math.Nat.{mul-le-mul_right}
use Rattle.ny_resolve.specs.declared.term.NameId.{NameId}
use Rattle.ny_check.specs.declared.node.Node.{Node}
use Rattle.ny_check.specs.declared.node.Node.TheVariants as node
use Rattle.ny_check.specs.declared.node.ExprId.{ExprId}
use Rattle.ny_check.specs.Code.{Code, node_at, function_at, IsBelow, AllBelow, BindsBelow, IsOrdered}
use Rattle.ny_check.specs.Recursion.{below}
use Rattle.ny_check.specs.Heights.{greatest, one_on_another, height_node, height_of}
use Rattle.ny_check.proofs.Smaller.{below-at, by_smaller-is}
use Rattle.ny_laws.specs.Complete.{HasOperands, NodesAreWhole}
use Rattle.ny_laws.specs.Measures.{total, total_binds, weight_node, weight_at, HeightsAreWithin}
use Rattle.ny_laws.proofs.Weights.{weight_at-is}

-- ---- the height of a node by those that it names

greatest-below : (n : ℕ) (f : ℕ → ℕ) (es : List ExprId) → AllBelow n es → greatest (below n 0 f) es ≡ greatest f es
greatest-below n f [] h = refl
greatest-below n f (e ∷ es) h = rw (below-at n e.0 0 f h.0, greatest-below n f es h.1)

binds-below : (n : ℕ) (f : ℕ → ℕ) (bs : List (NameId × ExprId)) → BindsBelow n bs → one_on_another (below n 0 f) bs ≡ one_on_another f bs
binds-below n f [] h = refl
binds-below n f (b ∷ bs) h = rw (below-at n b.1.0 0 f h.0, binds-below n f bs h.1)

height_node-below : (code : Code) (n : ℕ) (f : ℕ → ℕ) (at : Node) → IsBelow code.functions n at → height_node code at (below n 0 f) ≡ height_node code at f
height_node-below code n f (node.Call g es) h = rw (greatest-below n f es h.0, below-at n (function_at code g.0).body.0 0 f h.2)
height_node-below code n f (node.Block bs e) h = rw (binds-below n f bs h.0, below-at n e.0 0 f h.1)
height_node-below code n f (node.If c a b) h = rw (below-at n a.0 0 f h.1, below-at n b.0 0 f h.2)
height_node-below code n f (node.Pair op a b) h = rw (below-at n a.0 0 f h.0, below-at n b.0 0 f h.1)
height_node-below code n f (node.Neg a) h = rw (below-at n a.0 0 f h)
height_node-below code n f (node.Effect w e es) h = rw (below-at n e.0 0 f h.0)
height_node-below code n f (node.Cue e) h = rw (below-at n e.0 0 f h)
height_node-below code n f (node.Mix o es) h = rw (greatest-below n f es h)
height_node-below code n f (node.Repeat o i k e) h = rw (below-at n e.0 0 f h)
height_node-below code n f (node.Change c e) h = rw (below-at n e.0 0 f h.1)
height_node-below code n f (node.Vector es) h = rw (greatest-below n f es h)
height_node-below code n f _ h = refl

height_of-is : (code : Code) (e : ℕ) → IsBelow code.functions e (node_at code e) → height_of code e ≡ height_node code (node_at code e) (height_of code)
unfolding height_of
height_of-is code e h = by_smaller-is 0 (λ m rec. height_node code (node_at code m) rec) e ∙ height_node-below code e (height_of code) (node_at code e) h

-- ---- two for each node

module _ (code : Code) where
  abbrev h : ℕ → ℕ
  h = height_of code

  abbrev w : ℕ → ℕ
  w = weight_at code

  abbrev Low : ℕ → Type 0
  Low e = (i : ℕ) → i < e → height_of code i ≤ 2 * weight_at code i

  greatest_low : (e : ℕ) (es : List ExprId) → Low e → AllBelow e es → greatest (height_of code) es ≤ 2 * total (weight_at code) es
  greatest_low e [] low under = omega arith
  greatest_low e (i ∷ es) low under =
      let first = low i.0 under.0 in
      let rest = greatest_low e es low under.1 in omega (arith, first, rest)

  binds_low : (e : ℕ) (bs : List (NameId × ExprId)) → Low e → BindsBelow e bs → one_on_another (height_of code) bs ≤ 2 * total_binds (weight_at code) bs
  binds_low e [] low under = omega arith
  binds_low e (b ∷ bs) low under =
      let first = low b.1.0 under.0 in
      let rest = binds_low e bs low under.1 in omega (arith, first, rest)

  node_low : (e : ℕ) (seen : List NameId) (n : Node) → Low e → IsBelow code.functions e n → HasOperands code seen n → height_node code n (height_of code) ≤ 2 * weight_node code n (weight_at code)
  node_low e seen (node.Call f es) low under has =
      let first = greatest_low e es low under.0 in
      let last = low (function_at code f.0).body.0 under.2 in omega (arith, first, last)
  node_low e seen (node.Block bs v) low under has =
      let first = binds_low e bs low under.0 in
      let last = low v.0 under.1 in omega (arith, first, last)
  node_low e seen (node.If c a b) low under has =
      let first = low a.0 under.1 in
      let second = low b.0 under.2 in omega (arith, first, second)
  node_low e seen (node.Pair op a b) low under has =
      let first = low a.0 under.0 in
      let second = low b.0 under.1 in omega (arith, first, second)
  node_low e seen (node.Neg a) low under has = let first = low a.0 under in omega (arith, first)
  node_low e seen (node.Leaf l es) low under has = omega arith
  node_low e seen (node.Effect l a es) low under has = let first = low a.0 under.0 in omega (arith, first)
  node_low e seen (node.Cue a) low under has = let first = low a.0 under in omega (arith, first)
  node_low e seen (node.Mix o es) low under has = let first = greatest_low e es low under in omega (arith, first)
  node_low e seen (node.Repeat o x n a) low under has =
      let first = low a.0 under in
      let times : 1 * weight_at code a.0 ≤ n * weight_at code a.0 = mul-le-mul_right (weight_at code a.0) has.0 in omega (arith, first, times)
  node_low e seen (node.Change c a) low under has = let first = low a.0 under.1 in omega (arith, first)
  node_low e seen (node.Vector es) low under has = let first = greatest_low e es low under in omega (arith, first)
  node_low e seen _ low under has = omega arith

  module _ (ordered : IsOrdered code) (whole : NodesAreWhole code) where
    one_low : (e : ℕ) → e < length code.nodes → Low e → height_of code e ≤ 2 * weight_at code e
    one_low e lt low =
        let is = whole e lt in
        let height = height_of-is code e is.0 in
        let weight = weight_at-is code e is.0 in
        let low_one = node_low e is.1.0 (node_at code e) low is.0 is.1.1 in omega (arith, height, weight, low_one)

    all_low : (m : ℕ) → m ≤ length code.nodes → Low m
    all_low zero le i lt = absurd (omega (arith, lt))
    all_low (suc m) le i lt = by (all_low m (omega (arith, le))) (cases_lt i m)
      where
        by : Low m → ((i < m) ⊎ (m ≤ i)) → height_of code i ≤ 2 * weight_at code i
        by low (inl less) = low i less
        by low (inr ge) =
            let same : m ≡ i = omega (arith, lt, ge) in
            subst (λ (k : ℕ). height_of code k ≤ 2 * weight_at code k) same (one_low m (omega (arith, le)) low)

    pub heights_within : HeightsAreWithin code
    heights_within e lt = all_low (length code.nodes) (omega arith) e lt

pub played_height : (code : Code) (e : ℕ) → height_of code e ≤ 2 * weight_at code e → weight_at code e ≤ 1000000 → height_of code e ≤ 2000000
played_height code e low light = omega (arith, low, light)
