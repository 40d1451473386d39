-- What is of a kind is a number, a test or a sound as its kind says.
use Rattle.std.proofs.Common.{◌≡◌, ℕ, Bool, true, false, List, [], ◌∷◌, ◌++◌, map, length, reverse, refl, sym, ap, ◌∙◌, subst, Option, Some, None, inl, inr, cond}
use Rattle.std.specs.Prelude.{ℤ, zip, if◌then◌else◌}
use Rattle.std.specs.Map.{lookup}
use Rattle.std.specs.Option.{unwrap_or}
use Rattle.std.proofs.lemmas.Bool.{cases_lt}
use Rattle.std.proofs.lemmas.List.{get_or_past, reverse-append}
use Rattle.ny_scope.specs.Scopes.{last_of}
use Rattle.ny_num.specs.Numbers.{fix_div, fix_neg}
use Rattle.ny_resolve.specs.declared.builtin.Relation.{Relation}
use Rattle.ny_resolve.specs.declared.term.NameId.{NameId}
use Rattle.ny_resolve.specs.Keys.{same_name}
use Rattle.ny_kinds.specs.declared.kind.Kind.{Kind}
use Rattle.ny_kinds.specs.declared.kind.Kind.TheVariants.{Number, Sound, Test, Channels}
use Rattle.ny_kinds.specs.Rows.{is_value}
use Rattle.ny_check.specs.declared.node.Node.{Node}
use Rattle.ny_check.specs.declared.node.Node.TheVariants as node
use Rattle.ny_check.specs.declared.node.Change.TheVariants as change
use Rattle.ny_check.specs.declared.node.ExprId.{ExprId}
use Rattle.ny_check.specs.declared.value.Scalar.{Scalar}
use Rattle.ny_check.specs.declared.value.Scalar.TheVariants as scalar
use Rattle.ny_check.specs.Code.{Code, node_at, no_node, function_at, IsBelow, IsOrdered}
use Rattle.ny_check.specs.Families.{fix_operation}
use Rattle.ny_check.specs.Values.{Scalars, scalar_of, scalar_node, scalars_after, scalar_named, argument, passed, of_numbers, of_number, compared, of_tests, denied, is_true, both, either}
use Rattle.ny_check.proofs.ScalarEquation.{scalar_of-is}
use Rattle.ny_laws.specs.Kinds.{Kinds, IsOf, AreOf, AllOf, BindsAreOf, AreValues}
use Rattle.ny_laws.specs.Kinds as kinds

-- what is of a kind, as a number, a test, or neither
abbrev pub Suits : Kind → Scalar → Type 0
Suits Number (scalar.Number v) = Unit {0}
Suits Test (scalar.Test t) = Unit {0}
Suits Sound scalar.Sound = Unit {0}
Suits (Channels n) scalar.Sound = Unit {0}
Suits _ _ = ⊥

-- names that stand for numbers and sounds
abbrev pub AllSuit : Kinds → Scalars → Type 0
AllSuit [] [] = Unit {0}
AllSuit (v ∷ values) (b ∷ names) = (v.0 ≡ b.0) × Suits v.1 b.1 × AllSuit values names
AllSuit _ _ = ⊥

abbrev pub AreSuited : List Kind → List Scalar → Type 0
AreSuited [] [] = Unit {0}
AreSuited (k ∷ ks) (s ∷ ss) = Suits k s × AreSuited ks ss
AreSuited _ _ = ⊥

-- ---- names

-- the value of a name, the same way round
abbrev FoundSuits : Option Kind → Option Scalar → Type 0
FoundSuits None o = Unit {0}
FoundSuits (Some k) None = ⊥
FoundSuits (Some k) (Some s) = Suits k s

push_suits : (values : Kinds) (names : Scalars) (x : NameId) (k : Kind) (s : Scalar) → AllSuit values names → Suits k s → AllSuit (values ++ (x, k) ∷ []) (names ++ (x, s) ∷ [])
push_suits [] [] x k s h one = (refl, one, tt)
push_suits (v ∷ values) (b ∷ names) x k s h one = (h.0, h.1, push_suits values names x k s h.2 one)
push_suits [] (b ∷ names) x k s h one = absurd h
push_suits (v ∷ values) [] x k s h one = absurd h

reverse_suits : (values : Kinds) (names : Scalars) → AllSuit values names → AllSuit (reverse values) (reverse names)
reverse_suits [] [] h = tt
reverse_suits (v ∷ values) (b ∷ names) h =
    let rest : AllSuit (reverse values) (reverse names) = reverse_suits values names h.2 in
    let both : AllSuit (reverse values ++ (v.0, v.1) ∷ []) (reverse names ++ (v.0, b.1) ∷ []) = push_suits (reverse values) (reverse names) v.0 v.1 b.1 rest h.1 in
    let other : AllSuit (reverse values ++ v ∷ []) (reverse names ++ b ∷ []) = subst (λ (y : NameId). AllSuit (reverse values ++ v ∷ []) (reverse names ++ (y, b.1) ∷ [])) h.0 both in
    subst (λ (w : Kinds). AllSuit w (reverse (b ∷ names))) (sym (reverse-append (v ∷ []) values))
    (subst (λ (w : Scalars). AllSuit (reverse values ++ v ∷ []) w) (sym (reverse-append (b ∷ []) names)) other)
reverse_suits [] (b ∷ names) h = absurd h
reverse_suits (v ∷ values) [] h = absurd h

found_suits : (is : NameId → Bool) (values : Kinds) (names : Scalars) → AllSuit values names → FoundSuits (lookup is values) (lookup is names)
found_suits is [] [] h = tt
found_suits is (v ∷ values) (b ∷ names) h =
    subst (λ (y : NameId). FoundSuits (lookup is (v ∷ values)) (cond (is y) (Some b.1) (lookup is names))) h.0 (by (is v.0) (found_suits is values names h.2))
  where
    by : (t : Bool) → FoundSuits (lookup is values) (lookup is names) → FoundSuits (cond t (Some v.1) (lookup is values)) (cond t (Some b.1) (lookup is names))
    by true rest = h.1
    by false rest = rest
found_suits is [] (b ∷ names) h = absurd h
found_suits is (v ∷ values) [] h = absurd h

named : (x : NameId) (values : Kinds) (names : Scalars) (k : Kind) → AllSuit values names → last_of (same_name x) values ≡ Some k → Suits k (scalar_named x names)
named x values names k h is =
    by (last_of (same_name x) names) (subst (λ (o : Option Kind). FoundSuits o (last_of (same_name x) names)) is (found_suits (same_name x) (reverse values) (reverse names) (reverse_suits values names h)))
  where
    by : (o : Option Scalar) → FoundSuits (Some k) o → Suits k (unwrap_or o scalar.Sound)
    by (Some s) one = one
    by None one = absurd one

-- ---- operators

value_suits : (k : Kind) (s : Scalar) → is_value k ≡ true → Suits k s → Suits k (passed s)
value_suits Number (scalar.Number v) is h = tt
value_suits Sound scalar.Sound is h = tt
value_suits Number (scalar.Test t) is h = absurd h
value_suits Number scalar.Sound is h = absurd h
value_suits Sound (scalar.Number v) is h = absurd h
value_suits Sound (scalar.Test t) is h = absurd h
value_suits Test s is h = cc
value_suits (Channels n) s is h = cc

numbers_suit : (f : ℤ → ℤ → ℤ) (a b : Scalar) → Suits Number a → Suits Number b → Suits Number (of_numbers f a b)
numbers_suit f (scalar.Number a) (scalar.Number b) h k = tt
numbers_suit f (scalar.Number a) (scalar.Test b) h k = absurd k
numbers_suit f (scalar.Number a) scalar.Sound h k = absurd k
numbers_suit f (scalar.Test a) b h k = absurd h
numbers_suit f scalar.Sound b h k = absurd h

first_suits : (f : ℤ → ℤ → ℤ) (a b : Scalar) → Suits Sound a → Suits Sound (of_numbers f a b)
first_suits f scalar.Sound b h = tt
first_suits f (scalar.Number a) b h = absurd h
first_suits f (scalar.Test a) b h = absurd h

second_suits : (f : ℤ → ℤ → ℤ) (a b : Scalar) → Suits Sound b → Suits Sound (of_numbers f a b)
second_suits f (scalar.Number a) scalar.Sound h = tt
second_suits f (scalar.Test a) scalar.Sound h = tt
second_suits f scalar.Sound scalar.Sound h = tt
second_suits f a (scalar.Number b) h = absurd h
second_suits f a (scalar.Test b) h = absurd h

number_suits : (f : ℤ → ℤ) (a : Scalar) → Suits Number a → Suits Number (of_number f a)
number_suits f (scalar.Number a) h = tt
number_suits f (scalar.Test a) h = absurd h
number_suits f scalar.Sound h = absurd h

negated_suits : (k : Kind) (a : Scalar) → is_value k ≡ true → Suits k a → Suits k (of_number fix_neg a)
negated_suits Number a is h = number_suits fix_neg a h
negated_suits Sound scalar.Sound is h = tt
negated_suits Sound (scalar.Number a) is h = absurd h
negated_suits Sound (scalar.Test a) is h = absurd h
negated_suits Test a is h = cc
negated_suits (Channels n) a is h = cc

compared_suits : (r : Relation) (a b : Scalar) → Suits Number a → Suits Number b → Suits Test (compared r a b)
compared_suits r (scalar.Number a) (scalar.Number b) h k = tt
compared_suits r (scalar.Number a) (scalar.Test b) h k = absurd k
compared_suits r (scalar.Number a) scalar.Sound h k = absurd k
compared_suits r (scalar.Test a) b h k = absurd h
compared_suits r scalar.Sound b h k = absurd h

tests_suit : (f : Bool → Bool → Bool) (a b : Scalar) → Suits Test a → Suits Test b → Suits Test (of_tests f a b)
tests_suit f (scalar.Test a) (scalar.Test b) h k = tt
tests_suit f (scalar.Test a) (scalar.Number b) h k = absurd k
tests_suit f (scalar.Test a) scalar.Sound h k = absurd k
tests_suit f (scalar.Number a) b h k = absurd h
tests_suit f scalar.Sound b h k = absurd h

denied_suits : (a : Scalar) → Suits Test a → Suits Test (denied a)
denied_suits (scalar.Test a) h = tt
denied_suits (scalar.Number a) h = absurd h
denied_suits scalar.Sound h = absurd h

chosen_suits : (t : Bool) (k : Kind) (a b : Scalar) → Suits k a → Suits k b → Suits k (if t then a else b)
chosen_suits true k a b h j = h
chosen_suits false k a b h j = j

-- arguments by the names of parameters
arguments_suit : (params : List NameId) (ks : List Kind) (ss : List Scalar) → AreSuited ks ss → AllSuit (zip params ks) (zip params ss)
arguments_suit [] ks ss h = tt
arguments_suit (x ∷ params) [] [] h = tt
arguments_suit (x ∷ params) (k ∷ ks) (s ∷ ss) h = (refl, h.0, arguments_suit params ks ss h.1)
arguments_suit (x ∷ params) [] (s ∷ ss) h = absurd h
arguments_suit (x ∷ params) (k ∷ ks) [] h = absurd h

-- ---- by the rules

module _ (code : Code) (ordered : IsOrdered code) where
  pub in_order : (e : ℕ) → IsBelow code.functions e (node_at code e)
  in_order e =
      elim (cases_lt e (length code.nodes)) [
        | inl lt ↦ ordered.each e lt
        | inr ge ↦ subst (IsBelow code.functions e) (sym (get_or_past code.nodes e no_node ge)) tt
      ]

  -- what a node is, where it is known
  here : (e : ℕ) (n : Node) (names : Scalars) (k : Kind) → node_at code e ≡ n → Suits k (scalar_node code n (scalar_of code) names) → Suits k (scalar_of code e names)
  here e n names k is h =
      subst (Suits k) (sym (scalar_of-is code e names (in_order e) ∙ ap (λ (m : Node). scalar_node code m (scalar_of code) names) is)) h

  mutual
    pub suits : (values : Kinds) (e : ℕ) (k : Kind) → IsOf code values e k → (names : Scalars) → AllSuit values names → Suits k (scalar_of code e names)
    suits values e k (kinds.number _ _ v is) names h = here e (node.Number v) names Number is tt
    suits values e k (kinds.local _ _ x _ is found value) names h = here e (node.Local x) names k is (named x values names k h found)
    suits values e k (kinds.global _ _ g is one) names h = here e (node.Global g) names Number is (suits [] g.0 Number one [] tt)
    suits values e k (kinds.call _ _ f es ks _ is args are body untested) names h =
        here e (node.Call f es) names k is
        (suits (zip (function_at code f.0).params ks) (function_at code f.0).body.0 k body (zip (function_at code f.0).params (map (argument (scalar_of code) names) es))
        (arguments_suit (function_at code f.0).params ks (map (argument (scalar_of code) names) es) (suit_each values es ks args are names h)))
    suits values e k (kinds.block _ _ bs v inner _ is binds body untested) names h =
        here e (node.Block bs v) names k is (suits inner v.0 k body (scalars_after (scalar_of code) bs names) (suit_binds values bs inner binds names h))
    suits values e k (kinds.numbers _ _ op a b is one two) names h =
        here e (node.Pair op a b) names Number is
        (numbers_suit (fix_operation op) (scalar_of code a.0 names) (scalar_of code b.0 names) (suits values a.0 Number one names h) (suits values b.0 Number two names h))
    suits values e k (kinds.sound_first _ _ op a b j is one two value) names h =
        here e (node.Pair op a b) names Sound is (first_suits (fix_operation op) (scalar_of code a.0 names) (scalar_of code b.0 names) (suits values a.0 Sound one names h))
    suits values e k (kinds.sound_second _ _ op a b is one two) names h =
        here e (node.Pair op a b) names Sound is (second_suits (fix_operation op) (scalar_of code a.0 names) (scalar_of code b.0 names) (suits values b.0 Sound two names h))
    suits values e k (kinds.quotient _ _ a v is one) names h =
        here e (node.Div a v) names Number is (number_suits (λ x. fix_div x v) (scalar_of code a.0 names) (suits values a.0 Number one names h))
    suits values e k (kinds.negated _ _ a _ is one value) names h =
        here e (node.Neg a) names k is (negated_suits k (scalar_of code a.0 names) value (suits values a.0 k one names h))
    suits values e k (kinds.compared _ _ r a b is one two) names h =
        here e (node.Compare r a b) names Test is
        (compared_suits r (scalar_of code a.0 names) (scalar_of code b.0 names) (suits values a.0 Number one names h) (suits values b.0 Number two names h))
    suits values e k (kinds.both _ _ a b is one two) names h =
        here e (node.And a b) names Test is
        (tests_suit both (scalar_of code a.0 names) (scalar_of code b.0 names) (suits values a.0 Test one names h) (suits values b.0 Test two names h))
    suits values e k (kinds.either _ _ a b is one two) names h =
        here e (node.Or a b) names Test is
        (tests_suit either (scalar_of code a.0 names) (scalar_of code b.0 names) (suits values a.0 Test one names h) (suits values b.0 Test two names h))
    suits values e k (kinds.denied _ _ a is one) names h =
        here e (node.Not a) names Test is (denied_suits (scalar_of code a.0 names) (suits values a.0 Test one names h))
    suits values e k (kinds.chosen _ _ c a b _ is test one two untested) names h =
        here e (node.If c a b) names k is
        (chosen_suits (is_true (scalar_of code c.0 names)) k (scalar_of code a.0 names) (scalar_of code b.0 names) (suits values a.0 k one names h) (suits values b.0 k two names h))
    suits values e k (kinds.leaf _ _ w es is each) names h = here e (node.Leaf w es) names Sound is tt
    suits values e k (kinds.effect _ _ w a es is one each) names h = here e (node.Effect w a es) names Sound is tt
    suits values e k (kinds.cue _ _ a is one) names h = here e (node.Cue a) names Sound is tt
    suits values e k (kinds.mix _ _ o es is each) names h = here e (node.Mix o es) names Sound is tt
    suits values e k (kinds.repeat _ _ o x n a is one) names h = here e (node.Repeat o x n a) names Sound is tt
    suits values e k (kinds.changed _ _ t n a is one two) names h = here e (node.Change (change.By t n) a) names Sound is tt
    suits values e k (kinds.warped _ _ ps a is one) names h = here e (node.Change (change.Warp ps) a) names Sound is tt
    suits values e k (kinds.rated _ _ w r a is one) names h = here e (node.Change (change.Rate w r) a) names Sound is tt
    suits values e k (kinds.vector _ _ es is some few each) names h = here e (node.Vector es) names (Channels (length es)) is tt

    pub suit_each : (values : Kinds) (es : List ExprId) (ks : List Kind) → AreOf code values es ks → AreValues ks → (names : Scalars) → AllSuit values names
        → AreSuited ks (map (argument (scalar_of code) names) es)
    suit_each values es ks (kinds.none_of _) are names h = tt
    suit_each values es ks (kinds.one_of _ e more k js one rest) are names h =
        (value_suits k (scalar_of code e.0 names) are.0 (suits values e.0 k one names h), suit_each values more js rest are.1 names h)

    pub suit_binds : (values : Kinds) (bs : List (NameId × ExprId)) (inner : Kinds) → BindsAreOf code values bs inner → (names : Scalars) → AllSuit values names
        → AllSuit inner (scalars_after (scalar_of code) bs names)
    suit_binds values bs inner (kinds.no_bind _) names h = h
    suit_binds values bs inner (kinds.one_bind _ x e more k _ one value rest) names h =
        suit_binds (values ++ (x, k) ∷ []) more inner rest (names ++ (x, passed (scalar_of code e.0 names)) ∷ [])
        (push_suits values names x k (passed (scalar_of code e.0 names)) h (value_suits k (scalar_of code e.0 names) value (suits values e.0 k one names h)))
