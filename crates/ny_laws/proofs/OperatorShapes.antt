-- The operands of an operator's node are those that it was given, or the node is none.
use Rattle.std.proofs.Common.{◌≡◌, ℕ, ◌+◌, ◌≤◌, List, [], ◌∷◌, max, refl, sym, ap, subst, inl, inr, arith}
use Rattle.std.specs.Prelude.{◌⊎◌}
use Rattle.ny_resolve.specs.declared.builtin.Operator.{Operator}
use Rattle.ny_resolve.specs.declared.builtin.Operator.TheVariants as op
use Rattle.ny_check.specs.declared.node.Node.{Node}
use Rattle.ny_check.specs.declared.node.Node.TheVariants as node
use Rattle.ny_check.specs.declared.node.Change.{Change}
use Rattle.ny_check.specs.declared.node.Change.TheVariants as change
use Rattle.ny_check.specs.declared.node.ExprId.{ExprId}
use Rattle.ny_check.specs.Code.{Code, no_node}
use Rattle.ny_check.specs.Writing.{operator_node}
use Rattle.ny_laws.specs.Reached.{operands}
use Rattle.ny_laws.specs.Measures.{Depths, deepest, depth_node, total, weight_node}

abbrev IsByNumber : Change → Type 0
IsByNumber (change.By t k) = Unit {0}
IsByNumber (change.Warp ps) = ⊥
IsByNumber (change.Rate a r) = ⊥

-- a node that has its operands alone
abbrev pub IsPlain : Node → Type 0
IsPlain (node.Local x) = ⊥
IsPlain (node.Global g) = ⊥
IsPlain (node.Call f es) = ⊥
IsPlain (node.Block bs v) = ⊥
IsPlain (node.Div a v) = ⊥
IsPlain (node.Repeat o x n a) = ⊥
IsPlain (node.Change c a) = IsByNumber c
IsPlain _ = Unit {0}

-- two operands, the other way round
record Swapped (ids given : List ExprId) : Type 0 where
  a : ExprId
  b : ExprId
  is : ids ≡ a ∷ b ∷ []
  other : given ≡ b ∷ a ∷ []

abbrev Shape : List ExprId → Node → Type 0
Shape ids n = (n ≡ no_node) ⊎ (IsPlain n × ((operands n ≡ ids) ⊎ Swapped ids (operands n)))

module _ (o : Operator) where
  one : ((a : ExprId) → Shape (a ∷ []) (operator_node o (a ∷ []))) → operator_node o [] ≡ no_node → ((a b : ExprId) → operator_node o (a ∷ b ∷ []) ≡ no_node)
      → ((a b c : ExprId) → operator_node o (a ∷ b ∷ c ∷ []) ≡ no_node) → ((a b c d : ExprId) (ids : List ExprId) → operator_node o (a ∷ b ∷ c ∷ d ∷ ids) ≡ no_node)
      → (ids : List ExprId) → Shape ids (operator_node o ids)
  one h e0 e2 e3 more [] = inl e0
  one h e0 e2 e3 more (a ∷ []) = h a
  one h e0 e2 e3 more (a ∷ b ∷ []) = inl (e2 a b)
  one h e0 e2 e3 more (a ∷ b ∷ c ∷ []) = inl (e3 a b c)
  one h e0 e2 e3 more (a ∷ b ∷ c ∷ d ∷ ids) = inl (more a b c d ids)

  two : ((a b : ExprId) → Shape (a ∷ b ∷ []) (operator_node o (a ∷ b ∷ []))) → operator_node o [] ≡ no_node → ((a : ExprId) → operator_node o (a ∷ []) ≡ no_node)
      → ((a b c : ExprId) → operator_node o (a ∷ b ∷ c ∷ []) ≡ no_node) → ((a b c d : ExprId) (ids : List ExprId) → operator_node o (a ∷ b ∷ c ∷ d ∷ ids) ≡ no_node)
      → (ids : List ExprId) → Shape ids (operator_node o ids)
  two h e0 e1 e3 more [] = inl e0
  two h e0 e1 e3 more (a ∷ []) = inl (e1 a)
  two h e0 e1 e3 more (a ∷ b ∷ []) = h a b
  two h e0 e1 e3 more (a ∷ b ∷ c ∷ []) = inl (e3 a b c)
  two h e0 e1 e3 more (a ∷ b ∷ c ∷ d ∷ ids) = inl (more a b c d ids)

shape_of : (o : Operator) (ids : List ExprId) → Shape ids (operator_node o ids)
shape_of op.Add ids = two op.Add (λ a b. inr (tt, inl refl)) refl (λ a. refl) (λ a b c. refl) (λ a b c d more. refl) ids
shape_of op.Sub ids = two op.Sub (λ a b. inr (tt, inl refl)) refl (λ a. refl) (λ a b c. refl) (λ a b c d more. refl) ids
shape_of op.Mul ids = two op.Mul (λ a b. inr (tt, inl refl)) refl (λ a. refl) (λ a b c. refl) (λ a b c d more. refl) ids
shape_of op.Scale ids = two op.Scale (λ a b. inr (tt, inl refl)) refl (λ a. refl) (λ a b c. refl) (λ a b c d more. refl) ids
shape_of op.Max ids = two op.Max (λ a b. inr (tt, inl refl)) refl (λ a. refl) (λ a b c. refl) (λ a b c d more. refl) ids
shape_of op.Min ids = two op.Min (λ a b. inr (tt, inl refl)) refl (λ a. refl) (λ a b c. refl) (λ a b c d more. refl) ids
shape_of op.And ids = two op.And (λ a b. inr (tt, inl refl)) refl (λ a. refl) (λ a b c. refl) (λ a b c d more. refl) ids
shape_of op.Or ids = two op.Or (λ a b. inr (tt, inl refl)) refl (λ a. refl) (λ a b c. refl) (λ a b c d more. refl) ids
shape_of op.At ids = two op.At (λ a b. inr (tt, inl refl)) refl (λ a. refl) (λ a b c. refl) (λ a b c d more. refl) ids
shape_of op.Stretch ids = two op.Stretch (λ a b. inr (tt, inl refl)) refl (λ a. refl) (λ a b c. refl) (λ a b c d more. refl) ids
shape_of op.Loud ids = two op.Loud (λ a b. inr (tt, inl refl)) refl (λ a. refl) (λ a b c. refl) (λ a b c d more. refl) ids
shape_of op.Sustain ids = two op.Sustain (λ a b. inr (tt, inl refl)) refl (λ a. refl) (λ a b c. refl) (λ a b c d more. refl) ids
shape_of op.Transpose ids = two op.Transpose (λ a b. inr (tt, inl refl)) refl (λ a. refl) (λ a b c. refl) (λ a b c d more. refl) ids
shape_of (op.Compare r) ids = two (op.Compare r) (λ a b. inr (tt, inl refl)) refl (λ a. refl) (λ a b c. refl) (λ a b c d more. refl) ids
shape_of op.Placed ids =
    two op.Placed (λ a b. inr (tt, inr (record { a = a; b = b; is = refl; other = refl }))) refl (λ a. refl) (λ a b c. refl) (λ a b c d more. refl) ids
shape_of op.Stretched ids =
    two op.Stretched (λ a b. inr (tt, inr (record { a = a; b = b; is = refl; other = refl }))) refl (λ a. refl) (λ a b c. refl) (λ a b c d more. refl) ids
shape_of op.Neg ids = one op.Neg (λ a. inr (tt, inl refl)) refl (λ a b. refl) (λ a b c. refl) (λ a b c d more. refl) ids
shape_of op.Not ids = one op.Not (λ a. inr (tt, inl refl)) refl (λ a b. refl) (λ a b c. refl) (λ a b c d more. refl) ids
shape_of op.Cue ids = one op.Cue (λ a. inr (tt, inl refl)) refl (λ a b. refl) (λ a b c. refl) (λ a b c d more. refl) ids
shape_of op.If [] = inl refl
shape_of op.If (a ∷ []) = inl refl
shape_of op.If (a ∷ b ∷ []) = inl refl
shape_of op.If (a ∷ b ∷ c ∷ []) = inr (tt, inl refl)
shape_of op.If (a ∷ b ∷ c ∷ d ∷ ids) = inl refl
shape_of op.Abs [] = inl refl
shape_of op.Abs (e ∷ ids) = inr (tt, inl refl)
shape_of op.OnePole [] = inl refl
shape_of op.OnePole (e ∷ ids) = inr (tt, inl refl)
shape_of op.Biquad [] = inl refl
shape_of op.Biquad (e ∷ ids) = inr (tt, inl refl)
shape_of op.Comb [] = inl refl
shape_of op.Comb (e ∷ ids) = inr (tt, inl refl)
shape_of op.Const ids = inr (tt, inl refl)
shape_of op.Osc ids = inr (tt, inl refl)
shape_of op.HzOsc ids = inr (tt, inl refl)
shape_of op.Lfo ids = inr (tt, inl refl)
shape_of op.Noise ids = inr (tt, inl refl)
shape_of op.Rest ids = inr (tt, inl refl)
shape_of op.Ramp ids = inr (tt, inl refl)
shape_of op.Pwl ids = inr (tt, inl refl)
shape_of op.Sim ids = inr (tt, inl refl)
shape_of op.Seq ids = inr (tt, inl refl)
shape_of op.Vector ids = inr (tt, inl refl)

-- ---- measures

module _ (code : Code) (w : ℕ → ℕ) where
  plain_weighs : (n : Node) → IsPlain n → weight_node code n w ≡ 1 + total w (operands n)
  plain_weighs (node.Change (change.By t k) a) h = omega arith
  plain_weighs (node.Number v) h = refl
  plain_weighs (node.Pair p a b) h = refl
  plain_weighs (node.Neg a) h = refl
  plain_weighs (node.Compare r a b) h = refl
  plain_weighs (node.And a b) h = refl
  plain_weighs (node.Or a b) h = refl
  plain_weighs (node.Not a) h = refl
  plain_weighs (node.If c a b) h = refl
  plain_weighs (node.Leaf l es) h = refl
  plain_weighs (node.Effect l a es) h = refl
  plain_weighs (node.Cue a) h = refl
  plain_weighs (node.Mix o es) h = refl
  plain_weighs (node.Vector es) h = refl
  plain_weighs (node.Local x) h = absurd h
  plain_weighs (node.Global g) h = absurd h
  plain_weighs (node.Call f es) h = absurd h
  plain_weighs (node.Block bs v) h = absurd h
  plain_weighs (node.Div a v) h = absurd h
  plain_weighs (node.Repeat o x n a) h = absurd h
  plain_weighs (node.Change (change.Warp ps) a) h = absurd h
  plain_weighs (node.Change (change.Rate q r) a) h = absurd h

  pub operator_weighs : (o : Operator) (ids : List ExprId) → weight_node code (operator_node o ids) w ≤ 1 + total w ids
  operator_weighs o ids = by (operator_node o ids) (shape_of o ids)
    where
      by : (n : Node) → Shape ids n → weight_node code n w ≤ 1 + total w ids
      by n (inl is) = subst (λ (m : Node). weight_node code m w ≤ 1 + total w ids) (sym is) (omega arith)
      by n (inr shape) = of_list (plain_weighs n shape.0) shape.1
        where
          of_list : weight_node code n w ≡ 1 + total w (operands n) → ((operands n ≡ ids) ⊎ Swapped ids (operands n)) → weight_node code n w ≤ 1 + total w ids
          of_list same (inl is) = let sums : total w (operands n) ≡ total w ids = ap (total w) is in omega (arith, same, sums)
          of_list same (inr s) =
              let first : total w ids ≡ w s.a.0 + (w s.b.0 + 0) = ap (total w) s.is in
              let second : total w (operands n) ≡ w s.b.0 + (w s.a.0 + 0) = ap (total w) s.other in omega (arith, same, first, second)

module _ (code : Code) (d : ℕ → Depths → ℕ) (vs : Depths) where
  plain_deep : (n : Node) → IsPlain n → depth_node code n d vs ≡ 1 + deepest d (operands n) vs
  plain_deep (node.Change c a) h = refl
  plain_deep (node.Number v) h = refl
  plain_deep (node.Pair p a b) h = refl
  plain_deep (node.Neg a) h = refl
  plain_deep (node.Compare r a b) h = refl
  plain_deep (node.And a b) h = refl
  plain_deep (node.Or a b) h = refl
  plain_deep (node.Not a) h = refl
  plain_deep (node.If c a b) h = refl
  plain_deep (node.Leaf l es) h = refl
  plain_deep (node.Effect l a es) h = refl
  plain_deep (node.Cue a) h = refl
  plain_deep (node.Mix o es) h = refl
  plain_deep (node.Vector es) h = refl
  plain_deep (node.Local x) h = absurd h
  plain_deep (node.Global g) h = absurd h
  plain_deep (node.Call f es) h = absurd h
  plain_deep (node.Block bs v) h = absurd h
  plain_deep (node.Div a v) h = absurd h
  plain_deep (node.Repeat o x n a) h = absurd h

  abbrev deepest_of : List ExprId → ℕ
  deepest_of ids = deepest d ids vs

  pub operator_deep : (o : Operator) (ids : List ExprId) → depth_node code (operator_node o ids) d vs ≤ 1 + deepest d ids vs
  operator_deep o ids = by (operator_node o ids) (shape_of o ids)
    where
      by : (n : Node) → Shape ids n → depth_node code n d vs ≤ 1 + deepest d ids vs
      by n (inl is) = subst (λ (m : Node). depth_node code m d vs ≤ 1 + deepest d ids vs) (sym is) (omega arith)
      by n (inr shape) = of_list (plain_deep n shape.0) shape.1
        where
          of_list : depth_node code n d vs ≡ 1 + deepest d (operands n) vs → ((operands n ≡ ids) ⊎ Swapped ids (operands n)) → depth_node code n d vs ≤ 1 + deepest d ids vs
          of_list same (inl is) = let sums : deepest d (operands n) vs ≡ deepest d ids vs = ap deepest_of is in omega (arith, same, sums)
          of_list same (inr s) =
              let first : deepest d ids vs ≡ max (d s.a.0 vs) (max (d s.b.0 vs) 0) = ap deepest_of s.is in
              let second : deepest d (operands n) vs ≡ max (d s.b.0 vs) (max (d s.a.0 vs) 0) = ap deepest_of s.other in omega (arith, same, first, second)
