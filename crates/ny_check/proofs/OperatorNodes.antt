-- The node of an operator: what is free in it is free in one of its operands, and only the parts of a sequence may wait.
use Rattle.std.proofs.Common.{◌≡◌, ℕ, Bool, true, false, List, [], ◌∷◌, refl, ap, ◌∙◌}
use Rattle.std.specs.Prelude.{◌||◌, if◌then◌else◌}
use Rattle.ny_resolve.specs.declared.builtin.Operator.{Operator}
use Rattle.ny_resolve.specs.declared.builtin.Operator.TheVariants as op
use Rattle.ny_resolve.specs.declared.builtin.Order.TheVariants.{InTurn, Together}
use Rattle.ny_resolve.specs.declared.term.NameId.{NameId}
use Rattle.ny_check.specs.declared.family.Family.{Family}
use Rattle.ny_check.specs.declared.family.Family.TheVariants as family
use Rattle.ny_check.specs.declared.node.Node.{Node}
use Rattle.ny_check.specs.declared.node.Node.TheVariants as node
use Rattle.ny_check.specs.declared.node.ExprId.{ExprId}
use Rattle.ny_check.specs.Writing.{is_seq, family_of, family_node, counted_node, one_node, two_node, three_node, operator_node}
use Rattle.ny_check.specs.FreeNames.{free_node, in_any}

or_left : (a b : Bool) → a ≡ true → a || b ≡ true
or_left true b h = refl
or_left false b h = cc

swapped : (a b : Bool) → b || a ≡ true → a || (b || false) ≡ true
swapped true b h = refl
swapped false true h = refl
swapped false false h = h

two_of : (a b : Bool) → a || b ≡ true → a || (b || false) ≡ true
two_of true b h = refl
two_of false true h = refl
two_of false false h = h

three_of : (a b c : Bool) → a || (b || c) ≡ true → a || (b || (c || false)) ≡ true
three_of true b c h = refl
three_of false b c h = two_of b c h

module _ (x : NameId) (free : ℕ → Bool) where
  one_free : (f : Family) (a : ExprId) → free_node x (one_node f a) free ≡ true → in_any free (a ∷ []) ≡ true
  one_free family.Neg a h = or_left (free a.0) false h
  one_free family.Not a h = or_left (free a.0) false h
  one_free family.Cue a h = or_left (free a.0) false h
  one_free _ a h = cc

  two_free : (f : Family) (a b : ExprId) → free_node x (two_node f a b) free ≡ true → in_any free (a ∷ b ∷ []) ≡ true
  two_free (family.Pair o) a b h = two_of (free a.0) (free b.0) h
  two_free (family.Compare r) a b h = two_of (free a.0) (free b.0) h
  two_free family.And a b h = two_of (free a.0) (free b.0) h
  two_free family.Or a b h = two_of (free a.0) (free b.0) h
  two_free (family.Change t) a b h = two_of (free a.0) (free b.0) h
  two_free (family.ChangeAfter t) a b h = swapped (free a.0) (free b.0) h
  two_free _ a b h = cc

  three_free : (f : Family) (a b c : ExprId) → free_node x (three_node f a b c) free ≡ true → in_any free (a ∷ b ∷ c ∷ []) ≡ true
  three_free family.If a b c h = three_of (free a.0) (free b.0) (free c.0) h
  three_free _ a b c h = cc

  counted_free : (f : Family) (ids : List ExprId) → free_node x (counted_node f ids) free ≡ true → in_any free ids ≡ true
  counted_free f [] h = cc
  counted_free f (a ∷ []) h = one_free f a h
  counted_free f (a ∷ b ∷ []) h = two_free f a b h
  counted_free f (a ∷ b ∷ c ∷ []) h = three_free f a b c h
  counted_free f (a ∷ b ∷ c ∷ d ∷ ids) h = cc

  family_free : (f : Family) (ids : List ExprId) → free_node x (family_node f ids) free ≡ true → in_any free ids ≡ true
  family_free (family.Leaf w) ids h = h
  family_free (family.Mix o) ids h = h
  family_free family.Vector ids h = h
  family_free (family.Effect w) [] h = cc
  family_free (family.Effect w) (e ∷ ids) h = h
  family_free (family.Pair o) ids h = counted_free (family.Pair o) ids h
  family_free family.Neg ids h = counted_free family.Neg ids h
  family_free (family.Compare r) ids h = counted_free (family.Compare r) ids h
  family_free family.And ids h = counted_free family.And ids h
  family_free family.Or ids h = counted_free family.Or ids h
  family_free family.Not ids h = counted_free family.Not ids h
  family_free family.If ids h = counted_free family.If ids h
  family_free family.Cue ids h = counted_free family.Cue ids h
  family_free (family.Change t) ids h = counted_free (family.Change t) ids h
  family_free (family.ChangeAfter t) ids h = counted_free (family.ChangeAfter t) ids h

  pub operator_free : (o : Operator) (ids : List ExprId) → free_node x (operator_node o ids) free ≡ true → in_any free ids ≡ true
  operator_free o ids h = family_free (family_of o) ids h

-- ---- the parts of a node that may wait

abbrev pub waiting : Node → List ExprId
waiting (node.Mix InTurn ids) = ids
waiting (node.Repeat InTurn x n e) = e ∷ []
waiting _ = []

abbrev is_turn : Family → Bool
is_turn (family.Mix InTurn) = true
is_turn _ = false

one_not : (f : Family) (a : ExprId) → waiting (one_node f a) ≡ []
one_not family.Neg a = refl
one_not family.Not a = refl
one_not family.Cue a = refl
one_not _ a = refl

two_not : (f : Family) (a b : ExprId) → waiting (two_node f a b) ≡ []
two_not (family.Pair o) a b = refl
two_not (family.Compare r) a b = refl
two_not family.And a b = refl
two_not family.Or a b = refl
two_not (family.Change t) a b = refl
two_not (family.ChangeAfter t) a b = refl
two_not _ a b = refl

three_not : (f : Family) (a b c : ExprId) → waiting (three_node f a b c) ≡ []
three_not family.If a b c = refl
three_not _ a b c = refl

counted_not : (f : Family) (ids : List ExprId) → waiting (counted_node f ids) ≡ []
counted_not f [] = refl
counted_not f (a ∷ []) = one_not f a
counted_not f (a ∷ b ∷ []) = two_not f a b
counted_not f (a ∷ b ∷ c ∷ []) = three_not f a b c
counted_not f (a ∷ b ∷ c ∷ d ∷ ids) = refl

family_waiting : (f : Family) (ids : List ExprId) → waiting (family_node f ids) ≡ (if is_turn f then ids else [])
family_waiting (family.Leaf w) ids = refl
family_waiting (family.Mix InTurn) ids = refl
family_waiting (family.Mix Together) ids = refl
family_waiting family.Vector ids = refl
family_waiting (family.Effect w) [] = refl
family_waiting (family.Effect w) (e ∷ ids) = refl
family_waiting (family.Pair o) ids = counted_not (family.Pair o) ids
family_waiting family.Neg ids = counted_not family.Neg ids
family_waiting (family.Compare r) ids = counted_not (family.Compare r) ids
family_waiting family.And ids = counted_not family.And ids
family_waiting family.Or ids = counted_not family.Or ids
family_waiting family.Not ids = counted_not family.Not ids
family_waiting family.If ids = counted_not family.If ids
family_waiting family.Cue ids = counted_not family.Cue ids
family_waiting (family.Change t) ids = counted_not (family.Change t) ids
family_waiting (family.ChangeAfter t) ids = counted_not (family.ChangeAfter t) ids

turn_is : (o : Operator) → is_turn (family_of o) ≡ is_seq o
turn_is op.Seq = refl
turn_is _ = refl

pub operator_waiting : (o : Operator) (ids : List ExprId) → waiting (operator_node o ids) ≡ (if is_seq o then ids else [])
operator_waiting o ids = family_waiting (family_of o) ids ∙ ap (λ (b : Bool). if b then ids else []) (turn_is o)
