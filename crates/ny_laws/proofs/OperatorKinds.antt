-- What an operator is by its row is what its node is by the rules.
use Rattle.std.proofs.Common.{◌≡◌, ℕ, suc, Bool, true, false, List, [], ◌∷◌, length, refl, sym, ap, ◌∙◌, subst, arith}
use Rattle.std.specs.Prelude.{nat_eq, nat_le, ◌&&◌, if◌then◌else◌}
use Rattle.std.specs.List.{list_all}
use Rattle.std.proofs.lemmas.Bool.{eqb-true, leb-true}
use Rattle.ny_kernels.specs.declared.operation.Op.{Op}
use Rattle.ny_kernels.specs.declared.operation.Op.TheVariants as pair
use Rattle.ny_resolve.specs.declared.builtin.Operator.{Operator}
use Rattle.ny_resolve.specs.declared.builtin.Operator.TheVariants as op
use Rattle.ny_resolve.specs.declared.builtin.Order.{Order}
use Rattle.ny_resolve.specs.declared.builtin.Order.TheVariants as order
use Rattle.ny_kinds.specs.declared.kind.Kind.{Kind}
use Rattle.ny_kinds.specs.declared.kind.Kind.TheVariants.{Number, Sound, Test, Channels}
use Rattle.ny_kinds.specs.declared.kind.Judgement.{Judgement}
use Rattle.ny_kinds.specs.declared.kind.Judgement.TheVariants.{Is, Refused}
use Rattle.ny_kinds.specs.Rows.{kind_eq, is_number, is_sound, is_test, is_value, given, has_two, has_one, sound_and_numbers, mixed, chosen, same_value, mixed_row, negated_row, choice_row, operator_row}
use Rattle.ny_check.specs.declared.node.Generator.{Generator}
use Rattle.ny_check.specs.declared.node.Generator.TheVariants as generator
use Rattle.ny_check.specs.declared.node.Effect.{Effect}
use Rattle.ny_check.specs.declared.node.Effect.TheVariants as effect
use Rattle.ny_check.specs.declared.node.Transformation.{Transformation}
use Rattle.ny_check.specs.declared.node.Transformation.TheVariants as by
use Rattle.ny_check.specs.declared.node.Change.TheVariants as change
use Rattle.ny_check.specs.declared.node.Node.TheVariants as node
use Rattle.ny_check.specs.declared.node.ExprId.{ExprId}
use Rattle.ny_check.specs.Code.{Code, node_at}
use Rattle.ny_check.specs.Writing.{operator_node, effect_node}
use Rattle.ny_resolve.specs.Builtins.{operator_arity, fits}
use Rattle.ny_laws.specs.Whole.{few}
use Rattle.ny_laws.specs.Kinds.{Kinds, IsOf, AreOf, AllOf}
use Rattle.ny_laws.specs.Kinds as kinds

-- ---- tests of kinds

pub same_kind : (j k : Kind) → Is j ≡ Is k → j ≡ k
same_kind j k is = cc

pub given_is : (b : Bool) (j k : Kind) → given b j ≡ Is k → (b ≡ true) × (j ≡ k)
given_is true j k is = (refl, same_kind j k is)
given_is false j k is = cc

pub both_true : (a b : Bool) → a && b ≡ true → (a ≡ true) × (b ≡ true)
both_true true b h = (refl, h)
both_true false b h = cc

pub number_is : (k : Kind) → is_number k ≡ true → k ≡ Number
number_is Number h = refl
number_is Sound h = cc
number_is Test h = cc
number_is (Channels n) h = cc

pub sound_is : (k : Kind) → is_sound k ≡ true → k ≡ Sound
sound_is Sound h = refl
sound_is Number h = cc
sound_is Test h = cc
sound_is (Channels n) h = cc

pub test_is : (k : Kind) → is_test k ≡ true → k ≡ Test
test_is Test h = refl
test_is Number h = cc
test_is Sound h = cc
test_is (Channels n) h = cc

same_by : (a b : Kind) → kind_eq a b ≡ true → a ≡ b
same_by Number Number h = refl
same_by Sound Sound h = refl
same_by Test Test h = refl
same_by (Channels n) (Channels m) h = ap Channels (eqb-true n m h)
same_by Number Sound h = cc
same_by Number Test h = cc
same_by Number (Channels m) h = cc
same_by Sound Number h = cc
same_by Sound Test h = cc
same_by Sound (Channels m) h = cc
same_by Test Number h = cc
same_by Test Sound h = cc
same_by Test (Channels m) h = cc
same_by (Channels n) Number h = cc
same_by (Channels n) Sound h = cc
same_by (Channels n) Test h = cc

no_test : (k : Kind) → (if is_test k then false else true) ≡ true → is_test k ≡ false
no_test Number h = refl
no_test Sound h = refl
no_test (Channels n) h = refl
no_test Test h = cc

counted : (n m : ℕ) (b : Bool) → nat_eq n m && b ≡ true → n ≡ m
counted n m b h = eqb-true n m (both_true (nat_eq n m) b h).0

module _ (code : Code) (values : Kinds) where
  -- ---- operands

  record One (f : Kind → Bool) (ids : List ExprId) : Type 0 where
    a : ExprId
    j : Kind
    is : ids ≡ a ∷ []
    first : IsOf code values a.0 j
    left : f j ≡ true

  record Two (f g : Kind → Bool) (ids : List ExprId) : Type 0 where
    a : ExprId
    b : ExprId
    j : Kind
    l : Kind
    is : ids ≡ a ∷ b ∷ []
    first : IsOf code values a.0 j
    second : IsOf code values b.0 l
    left : f j ≡ true
    right : g l ≡ true

  pub same_length : (ids : List ExprId) (ks : List Kind) → AreOf code values ids ks → length ids ≡ length ks
  same_length ids ks (kinds.none_of _) = refl
  same_length ids ks (kinds.one_of _ e more k js one rest) = ap (λ (n : ℕ). suc n) (same_length more js rest)

  one_in : (f : Kind → Bool) (ids : List ExprId) (ks : List Kind) → AreOf code values ids ks → has_one f ks ≡ true → One f ids
  one_in f ids ks (kinds.none_of _) h = cc
  one_in f ids ks (kinds.one_of _ a ids' j ks' first (kinds.none_of _)) h = record { a = a; j = j; is = refl; first = first; left = h }
  one_in f ids ks (kinds.one_of _ a ids' j ks' first (kinds.one_of _ b more l js second rest)) h =
      let n : length (j ∷ l ∷ js) ≡ 1 = counted (length (j ∷ l ∷ js)) 1 (f j) h in absurd (omega (arith, n))

  two_in : (f g : Kind → Bool) (ids : List ExprId) (ks : List Kind) → AreOf code values ids ks → has_two f g ks ≡ true → Two f g ids
  two_in f g ids ks (kinds.none_of _) h = cc
  two_in f g ids ks (kinds.one_of _ a ids' j ks' first (kinds.none_of _)) h = cc
  two_in f g ids ks (kinds.one_of _ a ids' j ks' first (kinds.one_of _ b more l js second (kinds.none_of _))) h =
      let parts = both_true (f j) (g l) h in record { a = a; b = b; j = j; l = l; is = refl; first = first; second = second; left = parts.0; right = parts.1 }
  two_in f g ids ks (kinds.one_of _ a ids' j ks' first (kinds.one_of _ b more l js second (kinds.one_of _ c more' m js' third rest))) h =
      let n : length (j ∷ l ∷ m ∷ js') ≡ 2 = counted (length (j ∷ l ∷ m ∷ js')) 2 (f j) (both_true (nat_eq (length (j ∷ l ∷ m ∷ js')) 2 && f j) (g l) h).0 in
      absurd (omega (arith, n))

  all_in : (f : Kind → Bool) (k : Kind) → ((j : Kind) → f j ≡ true → j ≡ k) → (ids : List ExprId) (ks : List Kind) → AreOf code values ids ks → list_all f ks ≡ true → AllOf code k values ids
  all_in f k only ids ks (kinds.none_of _) h = kinds.none_more k values
  all_in f k only ids ks (kinds.one_of _ e more j js one rest) h =
      let parts = both_true (f j) (list_all f js) h in
      kinds.one_more k values e more (subst (IsOf code values e.0) (only j parts.0) one) (all_in f k only more js rest parts.1)

  -- ---- by the shape of the row

  module _ (id : ℕ) where
    abbrev Row : Operator → List ExprId → List Kind → Type 0
    Row o ids ks = (k : Kind) → node_at code id ≡ operator_node o ids → AreOf code values ids ks → operator_row o ks ≡ Is k → IsOf code values id k

    told_as : (j k : Kind) → j ≡ k → IsOf code values id j → IsOf code values id k
    told_as j k is of = subst (IsOf code values id) is of

    mixed_of : (o : Op) (a b : ExprId) (j l k : Kind) → node_at code id ≡ node.Pair o a b → IsOf code values a.0 j → IsOf code values b.0 l → mixed j l ≡ Is k → IsOf code values id k
    mixed_of o a b Number Number k at one two row = told_as Number k (same_kind Number k row) (kinds.numbers values id o a b at one two)
    mixed_of o a b Number Sound k at one two row = told_as Sound k (same_kind Sound k row) (kinds.sound_second values id o a b at one two)
    mixed_of o a b Sound Number k at one two row = told_as Sound k (same_kind Sound k row) (kinds.sound_first values id o a b Number at one two refl)
    mixed_of o a b Sound Sound k at one two row = told_as Sound k (same_kind Sound k row) (kinds.sound_first values id o a b Sound at one two refl)
    mixed_of o a b Test l k at one two row = cc
    mixed_of o a b (Channels n) l k at one two row = cc
    mixed_of o a b Number Test k at one two row = cc
    mixed_of o a b Number (Channels n) k at one two row = cc
    mixed_of o a b Sound Test k at one two row = cc
    mixed_of o a b Sound (Channels n) k at one two row = cc

    only_if : (t : Bool) (j : Judgement) (k : Kind) → (if t then j else Refused) ≡ Is k → (t ≡ true) × (j ≡ Is k)
    only_if true j k h = (refl, h)
    only_if false j k h = cc

    pair_row : (o : Op) (ids : List ExprId) (ks : List Kind) (k : Kind) → ((a b : ExprId) → ids ≡ a ∷ b ∷ [] → node_at code id ≡ node.Pair o a b) → AreOf code values ids ks
        → mixed_row ks ≡ Is k → IsOf code values id k
    pair_row o ids ks k at (kinds.none_of _) row = cc
    pair_row o ids ks k at (kinds.one_of _ a ids' j ks' first (kinds.none_of _)) row = cc
    pair_row o ids ks k at (kinds.one_of _ a ids' j ks' first (kinds.one_of _ b more l js second (kinds.none_of _))) row = mixed_of o a b j l k (at a b refl) first second row
    pair_row o ids ks k at (kinds.one_of _ a ids' j ks' first (kinds.one_of _ b more l js second (kinds.one_of _ c more' m js' third rest))) row =
        let n : length (j ∷ l ∷ m ∷ js') ≡ 2 = eqb-true (length (j ∷ l ∷ m ∷ js')) 2 (only_if (nat_eq (length (j ∷ l ∷ m ∷ js')) 2) (mixed j l) k row).0 in
        absurd (omega (arith, n))

    negated_one : (ids : List ExprId) (ks : List Kind) (k : Kind) → ((a : ExprId) → ids ≡ a ∷ [] → node_at code id ≡ node.Neg a) → AreOf code values ids ks
        → negated_row ks ≡ Is k → IsOf code values id k
    negated_one ids ks k at (kinds.none_of _) row = cc
    negated_one ids ks k at (kinds.one_of _ a ids' j ks' first (kinds.none_of _)) row =
        let is = given_is (is_value j) j k row in told_as j k is.1 (kinds.negated values id a j (at a refl) first is.0)
    negated_one ids ks k at (kinds.one_of _ a ids' j ks' first (kinds.one_of _ b more l js second rest)) row =
        let n : length (j ∷ l ∷ js) ≡ 1 = eqb-true (length (j ∷ l ∷ js)) 1 (only_if (nat_eq (length (j ∷ l ∷ js)) 1) (same_value j) k row).0 in
        absurd (omega (arith, n))

    chosen_one : (c a b : ExprId) (i j l k : Kind) → node_at code id ≡ node.If c a b → IsOf code values c.0 i → IsOf code values a.0 j → IsOf code values b.0 l
        → chosen i j l ≡ Is k → IsOf code values id k
    chosen_one c a b i j l k at test one two row =
        let is = only_if (is_test i && kind_eq j l && (if is_test j then false else true)) (Is j) k row in
        let parts = both_true (is_test i && kind_eq j l) (if is_test j then false else true) is.0 in
        let first = both_true (is_test i) (kind_eq j l) parts.0 in
        told_as j k (same_kind j k is.1)
        (kinds.chosen values id c a b j at (subst (IsOf code values c.0) (test_is i first.0) test) one (subst (IsOf code values b.0) (sym (same_by j l first.1)) two) (no_test j parts.1))

    choice_one : (ids : List ExprId) (ks : List Kind) (k : Kind) → ((c a b : ExprId) → ids ≡ c ∷ a ∷ b ∷ [] → node_at code id ≡ node.If c a b) → AreOf code values ids ks
        → choice_row ks ≡ Is k → IsOf code values id k
    choice_one ids ks k at (kinds.none_of _) row = cc
    choice_one ids ks k at (kinds.one_of _ c ids' i ks' test (kinds.none_of _)) row = cc
    choice_one ids ks k at (kinds.one_of _ c ids' i ks' test (kinds.one_of _ a more j js one (kinds.none_of _))) row = cc
    choice_one ids ks k at (kinds.one_of _ c ids' i ks' test (kinds.one_of _ a more j js one (kinds.one_of _ b more' l js' two (kinds.none_of _)))) row =
        chosen_one c a b i j l k (at c a b refl) test one two row
    choice_one ids ks k at (kinds.one_of _ c ids' i ks' test (kinds.one_of _ a more j js one (kinds.one_of _ b more' l js' two (kinds.one_of _ d more'' m js'' three rest)))) row =
        let n : length (i ∷ j ∷ l ∷ m ∷ js'') ≡ 3 = eqb-true (length (i ∷ j ∷ l ∷ m ∷ js'')) 3 (only_if (nat_eq (length (i ∷ j ∷ l ∷ m ∷ js'')) 3) (chosen i j l) k row).0 in
        absurd (omega (arith, n))

    number_first : (ids : List ExprId) (t : Two is_number is_number ids) → AllOf code Number values ids
    number_first ids t =
        subst (AllOf code Number values) (sym t.is)
        (kinds.one_more Number values t.a (t.b ∷ []) (subst (IsOf code values t.a.0) (number_is t.j t.left) t.first)
        (kinds.one_more Number values t.b [] (subst (IsOf code values t.b.0) (number_is t.l t.right) t.second) (kinds.none_more Number values)))

    leaf_two : (w : Generator) (ids : List ExprId) (ks : List Kind) (k : Kind) → node_at code id ≡ node.Leaf w ids → AreOf code values ids ks → given (has_two is_number is_number ks) Sound ≡ Is k
        → IsOf code values id k
    leaf_two w ids ks k at are row =
        let is = given_is (has_two is_number is_number ks) Sound k row in
        told_as Sound k is.1 (kinds.leaf values id w ids at (number_first ids (two_in is_number is_number ids ks are is.0)))

    leaf_one : (w : Generator) (ids : List ExprId) (ks : List Kind) (k : Kind) → node_at code id ≡ node.Leaf w ids → AreOf code values ids ks → given (has_one is_number ks) Sound ≡ Is k
        → IsOf code values id k
    leaf_one w ids ks k at are row =
        let is = given_is (has_one is_number ks) Sound k row in
        let t : One is_number ids = one_in is_number ids ks are is.0 in
        told_as Sound k is.1 (kinds.leaf values id w ids at
        (subst (AllOf code Number values) (sym t.is) (kinds.one_more Number values t.a [] (subst (IsOf code values t.a.0) (number_is t.j t.left) t.first) (kinds.none_more Number values))))

    effect_all : (w : Effect) (ids : List ExprId) (ks : List Kind) (k : Kind) → node_at code id ≡ effect_node w ids → AreOf code values ids ks → given (sound_and_numbers ks) Sound ≡ Is k
        → IsOf code values id k
    effect_all w ids ks k at (kinds.none_of _) row = cc
    effect_all w ids ks k at (kinds.one_of _ a more j js first rest) row =
        let is = given_is (is_sound j && list_all is_number js) Sound k row in
        let parts = both_true (is_sound j) (list_all is_number js) is.0 in
        told_as Sound k is.1 (kinds.effect values id w a more at (subst (IsOf code values a.0) (sound_is j parts.0) first) (all_in is_number Number number_is more js rest parts.1))

    mix_all : (o : Order) (ids : List ExprId) (ks : List Kind) (k : Kind) → node_at code id ≡ node.Mix o ids → AreOf code values ids ks → given (list_all is_sound ks) Sound ≡ Is k → IsOf code values id k
    mix_all o ids ks k at are row =
        let is = given_is (list_all is_sound ks) Sound k row in told_as Sound k is.1 (kinds.mix values id o ids at (all_in is_sound Sound sound_is ids ks are is.0))

    change_two : (t : Transformation) (ids : List ExprId) (ks : List Kind) (k : Kind) → ((a b : ExprId) → ids ≡ a ∷ b ∷ [] → node_at code id ≡ node.Change (change.By t a) b)
        → AreOf code values ids ks → given (has_two is_number is_sound ks) Sound ≡ Is k → IsOf code values id k
    change_two t ids ks k at are row =
        let is = given_is (has_two is_number is_sound ks) Sound k row in
        let p : Two is_number is_sound ids = two_in is_number is_sound ids ks are is.0 in
        told_as Sound k is.1 (kinds.changed values id t p.a p.b (at p.a p.b p.is) (subst (IsOf code values p.a.0) (number_is p.j p.left) p.first) (subst (IsOf code values p.b.0) (sound_is p.l p.right) p.second))

    change_after : (t : Transformation) (ids : List ExprId) (ks : List Kind) (k : Kind) → ((a b : ExprId) → ids ≡ a ∷ b ∷ [] → node_at code id ≡ node.Change (change.By t b) a)
        → AreOf code values ids ks → given (has_two is_sound is_number ks) Sound ≡ Is k → IsOf code values id k
    change_after t ids ks k at are row =
        let is = given_is (has_two is_sound is_number ks) Sound k row in
        let p : Two is_sound is_number ids = two_in is_sound is_number ids ks are is.0 in
        told_as Sound k is.1 (kinds.changed values id t p.b p.a (at p.a p.b p.is) (subst (IsOf code values p.b.0) (number_is p.l p.right) p.second) (subst (IsOf code values p.a.0) (sound_is p.j p.left) p.first))

    -- ---- by the operator

    pub operator_is : (o : Operator) (ids : List ExprId) (ks : List Kind) → fits (operator_arity o) (length ids) && few o (length ids) ≡ true → Row o ids ks
    operator_is op.Add ids ks counts k at are row = pair_row pair.Add ids ks k (λ a b is. at ∙ ap (operator_node op.Add) is) are row
    operator_is op.Sub ids ks counts k at are row = pair_row pair.Sub ids ks k (λ a b is. at ∙ ap (operator_node op.Sub) is) are row
    operator_is op.Mul ids ks counts k at are row = pair_row pair.Mul ids ks k (λ a b is. at ∙ ap (operator_node op.Mul) is) are row
    operator_is op.Max ids ks counts k at are row = pair_row pair.Max ids ks k (λ a b is. at ∙ ap (operator_node op.Max) is) are row
    operator_is op.Min ids ks counts k at are row = pair_row pair.Min ids ks k (λ a b is. at ∙ ap (operator_node op.Min) is) are row
    operator_is op.Scale ids ks counts k at are row =
        let is = given_is (has_two is_number is_sound ks) Sound k row in
        let p : Two is_number is_sound ids = two_in is_number is_sound ids ks are is.0 in
        told_as Sound k is.1 (kinds.sound_second values id pair.Mul p.a p.b (at ∙ ap (operator_node op.Scale) p.is) (subst (IsOf code values p.a.0) (number_is p.j p.left) p.first) (subst (IsOf code values p.b.0) (sound_is p.l p.right) p.second))
    operator_is op.Neg ids ks counts k at are row = negated_one ids ks k (λ a is. at ∙ ap (operator_node op.Neg) is) are row
    operator_is (op.Compare r) ids ks counts k at are row =
        let is = given_is (has_two is_number is_number ks) Test k row in
        let p : Two is_number is_number ids = two_in is_number is_number ids ks are is.0 in
        told_as Test k is.1 (kinds.compared values id r p.a p.b (at ∙ ap (operator_node (op.Compare r)) p.is) (subst (IsOf code values p.a.0) (number_is p.j p.left) p.first) (subst (IsOf code values p.b.0) (number_is p.l p.right) p.second))
    operator_is op.And ids ks counts k at are row =
        let is = given_is (has_two is_test is_test ks) Test k row in
        let p : Two is_test is_test ids = two_in is_test is_test ids ks are is.0 in
        told_as Test k is.1 (kinds.both values id p.a p.b (at ∙ ap (operator_node op.And) p.is) (subst (IsOf code values p.a.0) (test_is p.j p.left) p.first) (subst (IsOf code values p.b.0) (test_is p.l p.right) p.second))
    operator_is op.Or ids ks counts k at are row =
        let is = given_is (has_two is_test is_test ks) Test k row in
        let p : Two is_test is_test ids = two_in is_test is_test ids ks are is.0 in
        told_as Test k is.1 (kinds.either values id p.a p.b (at ∙ ap (operator_node op.Or) p.is) (subst (IsOf code values p.a.0) (test_is p.j p.left) p.first) (subst (IsOf code values p.b.0) (test_is p.l p.right) p.second))
    operator_is op.Not ids ks counts k at are row =
        let is = given_is (has_one is_test ks) Test k row in
        let p : One is_test ids = one_in is_test ids ks are is.0 in
        told_as Test k is.1 (kinds.denied values id p.a (at ∙ ap (operator_node op.Not) p.is) (subst (IsOf code values p.a.0) (test_is p.j p.left) p.first))
    operator_is op.If ids ks counts k at are row = choice_one ids ks k (λ c a b is. at ∙ ap (operator_node op.If) is) are row
    operator_is op.Const ids ks counts k at are row = leaf_two generator.Const ids ks k at are row
    operator_is op.Osc ids ks counts k at are row = leaf_two generator.Osc ids ks k at are row
    operator_is op.HzOsc ids ks counts k at are row = leaf_two generator.HzOsc ids ks k at are row
    operator_is op.Lfo ids ks counts k at are row = leaf_two generator.Lfo ids ks k at are row
    operator_is op.Noise ids ks counts k at are row = leaf_two generator.Noise ids ks k at are row
    operator_is op.Rest ids ks counts k at are row = leaf_one generator.Rest ids ks k at are row
    operator_is op.Ramp ids ks counts k at are row = leaf_one generator.Ramp ids ks k at are row
    operator_is op.Pwl ids ks counts k at are row =
        let is = given_is (list_all is_number ks) Sound k row in told_as Sound k is.1 (kinds.leaf values id generator.Pwl ids at (all_in is_number Number number_is ids ks are is.0))
    operator_is op.Abs ids ks counts k at are row =
        let is = given_is (has_one is_sound ks) Sound k row in
        let p : One is_sound ids = one_in is_sound ids ks are is.0 in
        told_as Sound k is.1 (kinds.effect values id effect.Abs p.a [] (at ∙ ap (operator_node op.Abs) p.is) (subst (IsOf code values p.a.0) (sound_is p.j p.left) p.first) (kinds.none_more Number values))
    operator_is op.Cue ids ks counts k at are row =
        let is = given_is (has_one is_sound ks) Sound k row in
        let p : One is_sound ids = one_in is_sound ids ks are is.0 in
        told_as Sound k is.1 (kinds.cue values id p.a (at ∙ ap (operator_node op.Cue) p.is) (subst (IsOf code values p.a.0) (sound_is p.j p.left) p.first))
    operator_is op.OnePole ids ks counts k at are row =
        let is = given_is (has_two is_sound is_number ks) Sound k row in
        let p : Two is_sound is_number ids = two_in is_sound is_number ids ks are is.0 in
        told_as Sound k is.1 (kinds.effect values id effect.OnePole p.a (p.b ∷ []) (at ∙ ap (operator_node op.OnePole) p.is) (subst (IsOf code values p.a.0) (sound_is p.j p.left) p.first)
        (kinds.one_more Number values p.b [] (subst (IsOf code values p.b.0) (number_is p.l p.right) p.second) (kinds.none_more Number values)))
    operator_is op.Biquad ids ks counts k at are row = effect_all effect.Biquad ids ks k at are row
    operator_is op.Comb ids ks counts k at are row = effect_all effect.Comb ids ks k at are row
    operator_is op.Sim ids ks counts k at are row = mix_all order.Together ids ks k at are row
    operator_is op.Seq ids ks counts k at are row = mix_all order.InTurn ids ks k at are row
    operator_is op.At ids ks counts k at are row = change_two by.At ids ks k (λ a b is. at ∙ ap (operator_node op.At) is) are row
    operator_is op.Stretch ids ks counts k at are row = change_two by.Stretch ids ks k (λ a b is. at ∙ ap (operator_node op.Stretch) is) are row
    operator_is op.Loud ids ks counts k at are row = change_two by.Loud ids ks k (λ a b is. at ∙ ap (operator_node op.Loud) is) are row
    operator_is op.Sustain ids ks counts k at are row = change_two by.Sustain ids ks k (λ a b is. at ∙ ap (operator_node op.Sustain) is) are row
    operator_is op.Transpose ids ks counts k at are row = change_two by.Transpose ids ks k (λ a b is. at ∙ ap (operator_node op.Transpose) is) are row
    operator_is op.Placed ids ks counts k at are row = change_after by.At ids ks k (λ a b is. at ∙ ap (operator_node op.Placed) is) are row
    operator_is op.Stretched ids ks counts k at are row = change_after by.Stretch ids ks k (λ a b is. at ∙ ap (operator_node op.Stretched) is) are row
    operator_is op.Vector ids ks counts k at are row =
        let is = given_is (list_all is_sound ks) (Channels (length ks)) k row in
        told_as (Channels (length ids)) k (ap Channels (same_length ids ks are) ∙ is.1) (kinds.vector values id ids at (leb-true 1 (length ids) (both_true (nat_le 1 (length ids)) (nat_le (length ids) 8) counts).0) (leb-true (length ids) 8 (both_true (nat_le 1 (length ids)) (nat_le (length ids) 8) counts).1) (all_in is_sound Sound sound_is ids ks are is.0))
