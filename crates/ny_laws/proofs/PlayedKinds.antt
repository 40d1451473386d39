-- What is played of what is of a kind.
use Rattle.std.proofs.Common.{◌≡◌, ℕ, suc, Bool, true, false, List, [], ◌∷◌, ◌++◌, map, length, refl, sym, ap, ◌∙◌}
use Rattle.std.specs.Prelude.{zip, if◌then◌else◌}
use Rattle.ny_num.specs.Sound as sounds
use Rattle.ny_warp.specs.declared.env.Env.{Env}
use Rattle.ny_resolve.specs.declared.term.NameId.{NameId}
use Rattle.ny_kinds.specs.declared.kind.Kind.{Kind}
use Rattle.ny_kinds.specs.declared.kind.Kind.TheVariants.{Number, Sound, Test, Channels}
use Rattle.ny_kinds.specs.Rows.{is_value}
use Rattle.ny_check.specs.declared.node.Node.{Node}
use Rattle.ny_check.specs.declared.node.Node.TheVariants as node
use Rattle.ny_check.specs.declared.node.Change.TheVariants as change
use Rattle.ny_check.specs.declared.node.ExprId.{ExprId}
use Rattle.ny_check.specs.declared.value.Scalar.{Scalar}
use Rattle.ny_check.specs.declared.value.Scalar.TheVariants as scalar
use Rattle.ny_check.specs.declared.value.Value.{Value}
use Rattle.ny_check.specs.declared.value.Value.TheVariants as value
use Rattle.ny_check.specs.Code.{Code, node_at, function_at, IsBelow, IsOrdered}
use Rattle.ny_check.specs.Recursion.{below}
use Rattle.ny_check.specs.Values.{scalar_of, scalars_of, scalar_in, test_of}
use Rattle.ny_check.specs.Meaning.{Bound, meaning, sound_node, value_of, value_by, bound_after}
use Rattle.ny_check.specs.Channels.{Plays, plays_node, played, operand}
use Rattle.ny_check.proofs.Smaller.{below-at, by_smaller-is}
use Rattle.ny_check.proofs.MeaningEquation.{meaning-is}
use Rattle.ny_laws.specs.Kinds.{Kinds, IsOf, AreOf, AllOf, BindsAreOf, AreValues, IsValueOf, Fits, IsMade, KindsHold}
use Rattle.ny_laws.specs.Kinds as kinds
use Rattle.ny_laws.proofs.ScalarKinds.{Suits, AllSuit, in_order, suits}

as_many : (f : ExprId → sounds.Sound) (es : List ExprId) → length (map f es) ≡ length es
as_many f [] = refl
as_many f (e ∷ es) = ap (λ (n : ℕ). suc n) (as_many f es)

-- ---- what is played at a node

plays_node-below : (code : Code) (n e : ℕ) (other : Plays) (f : ℕ → Plays) (at : Node) (env : Env) (bound : Bound) → IsBelow code.functions n at
    → plays_node code e at (below n other f) env bound ≡ plays_node code e at f env bound
plays_node-below code n e other f (node.Call g es) env bound h = rw (below-at n (function_at code g.0).body.0 other f h.2)
plays_node-below code n e other f (node.Block bs v) env bound h = rw (below-at n v.0 other f h.1)
plays_node-below code n e other f (node.If c a b) env bound h = rw (below-at n a.0 other f h.1, below-at n b.0 other f h.2)
plays_node-below code n e other f _ env bound h = refl

played-is : (code : Code) (e : ℕ) (env : Env) (bound : Bound) → IsBelow code.functions e (node_at code e) → played code e env bound ≡ plays_node code e (node_at code e) (played code) env bound
unfolding played
played-is code e env bound h =
    ap (λ (g : Plays). g env bound) (by_smaller-is (λ (from : Env) (names : Bound). []) (λ m rec. plays_node code m (node_at code m) rec) e)
    ∙ plays_node-below code e e (λ from names. []) (played code) (node_at code e) env bound h

-- ---- names

-- what a name stands for, as a number or a sound
named_suits : (k : Kind) (v : Value sounds.Sound) → IsValueOf k v → Suits k (scalar_in v)
named_suits Number (value.Number v) h = tt
named_suits Sound (value.Sound s) h = tt
named_suits Number (value.Sound s) h = absurd h
named_suits Sound (value.Number v) h = absurd h
named_suits Test v h = absurd h
named_suits (Channels n) v h = absurd h

pub all_suit : (values : Kinds) (bound : Bound) → Fits values bound → AllSuit values (scalars_of bound)
all_suit [] [] h = tt
all_suit (v ∷ values) (b ∷ bound) h = (h.0, named_suits v.1 b.1 h.1, all_suit values bound h.2)
all_suit [] (b ∷ bound) h = absurd h
all_suit (v ∷ values) [] h = absurd h

pub push_fits : (values : Kinds) (bound : Bound) (x : NameId) (k : Kind) (v : Value sounds.Sound) → Fits values bound → IsValueOf k v → Fits (values ++ (x, k) ∷ []) (bound ++ (x, v) ∷ [])
push_fits [] [] x k v h one = (refl, one, tt)
push_fits (w ∷ values) (b ∷ bound) x k v h one = (h.0, h.1, push_fits values bound x k v h.2 one)
push_fits [] (b ∷ bound) x k v h one = absurd h
push_fits (w ∷ values) [] x k v h one = absurd h

pub value_fits : (k : Kind) (s : Scalar) (m : sounds.Sound) → is_value k ≡ true → Suits k s → IsValueOf k (value_by s m)
value_fits Number (scalar.Number v) m is h = tt
value_fits Number (scalar.Test t) m is h = absurd h
value_fits Number scalar.Sound m is h = absurd h
value_fits Sound scalar.Sound m is h = tt
value_fits Sound (scalar.Number v) m is h = absurd h
value_fits Sound (scalar.Test t) m is h = absurd h
value_fits Test s m is h = cc
value_fits (Channels n) s m is h = cc

abbrev pub AreFitted : List Kind → List (Value sounds.Sound) → Type 0
AreFitted [] [] = Unit {0}
AreFitted (k ∷ ks) (v ∷ vs) = IsValueOf k v × AreFitted ks vs
AreFitted _ _ = ⊥

pub zip_fits : (params : List NameId) (ks : List Kind) (vs : List (Value sounds.Sound)) → AreFitted ks vs → Fits (zip params ks) (zip params vs)
zip_fits [] ks vs h = tt
zip_fits (x ∷ params) [] [] h = tt
zip_fits (x ∷ params) (k ∷ ks) (v ∷ vs) h = (refl, h.0, zip_fits params ks vs h.1)
zip_fits (x ∷ params) [] (v ∷ vs) h = absurd h
zip_fits (x ∷ params) (k ∷ ks) [] h = absurd h

-- ---- by the rules

module _ (code : Code) (ordered : IsOrdered code) where
  pub fit_each : (values : Kinds) (es : List ExprId) (ks : List Kind) → AreOf code values es ks → AreValues ks → (env : Env) (bound : Bound) → Fits values bound
      → AreFitted ks (map (value_of code (meaning code) env bound) es)
  fit_each values es ks (kinds.none_of _) are env bound h = tt
  fit_each values es ks (kinds.one_of _ e more k js one rest) are env bound h = (
    value_fits k (scalar_of code e.0 (scalars_of bound)) (meaning code e.0 env bound) are.0 (suits code ordered values e.0 k one (scalars_of bound) (all_suit values bound h)),
    fit_each values more js rest are.1 env bound h,
  )

  pub fit_binds : (values : Kinds) (bs : List (NameId × ExprId)) (inner : Kinds) → BindsAreOf code values bs inner → (env : Env) (bound : Bound) → Fits values bound
      → Fits inner (bound_after code (meaning code) env bs bound)
  fit_binds values bs inner (kinds.no_bind _) env bound h = h
  fit_binds values bs inner (kinds.one_bind _ x e more k _ one value rest) env bound h =
      fit_binds (values ++ (x, k) ∷ []) more inner rest env (bound ++ (x, value_of code (meaning code) env bound e) ∷ [])
      (push_fits values bound x k (value_of code (meaning code) env bound e) h
      (value_fits k (scalar_of code e.0 (scalars_of bound)) (meaning code e.0 env bound) value (suits code ordered values e.0 k one (scalars_of bound) (all_suit values bound h))))

  abbrev PlaysAs : ℕ → Env → Bound → Kind → Type 0
  PlaysAs e env bound Sound = played code e env bound ≡ meaning code e env bound ∷ []
  PlaysAs e env bound (Channels n) = length (played code e env bound) ≡ n
  PlaysAs e env bound _ = Unit {0}

  play_at : (e : ℕ) (n : Node) (env : Env) (bound : Bound) → node_at code e ≡ n → played code e env bound ≡ plays_node code e n (played code) env bound
  play_at e n env bound is =
      played-is code e env bound (in_order code ordered e) ∙ ap (λ (m : Node). plays_node code e m (played code) env bound) is

  mean_at : (e : ℕ) (n : Node) (env : Env) (bound : Bound) → node_at code e ≡ n → meaning code e env bound ≡ sound_node code n (meaning code) env bound
  mean_at e n env bound is =
      meaning-is code e env bound (in_order code ordered e) ∙ ap (λ (m : Node). sound_node code m (meaning code) env bound) is

  value_plays : (e : ℕ) (env : Env) (bound : Bound) (k : Kind) → is_value k ≡ true → played code e env bound ≡ meaning code e env bound ∷ [] → PlaysAs e env bound k
  value_plays e env bound Number is h = tt
  value_plays e env bound Sound is h = h
  value_plays e env bound Test is h = tt
  value_plays e env bound (Channels n) is h = cc

  -- what plays what another expression plays, and means the same
  same_plays : (e b : ℕ) (env : Env) (bound inner : Bound) (k : Kind) → played code e env bound ≡ played code b env inner → meaning code e env bound ≡ meaning code b env inner
      → PlaysAs b env inner k → PlaysAs e env bound k
  same_plays e b env bound inner Number plays means h = tt
  same_plays e b env bound inner Test plays means h = tt
  same_plays e b env bound inner Sound plays means h = plays ∙ h ∙ ap (λ (s : sounds.Sound). s ∷ []) (sym means)
  same_plays e b env bound inner (Channels n) plays means h = ap (λ (ss : List sounds.Sound). length ss) plays ∙ h

  one_of_two : (t : Bool) (e a b : ℕ) (env : Env) (bound : Bound) (k : Kind) → played code e env bound ≡ (if t then played code a env bound else played code b env bound)
      → meaning code e env bound ≡ (if t then meaning code a env bound else meaning code b env bound) → PlaysAs a env bound k → PlaysAs b env bound k → PlaysAs e env bound k
  one_of_two true e a b env bound k plays means h j = same_plays e a env bound bound k plays means h
  one_of_two false e a b env bound k plays means h j = same_plays e b env bound bound k plays means j

  plays : (values : Kinds) (e : ℕ) (k : Kind) → IsOf code values e k → (env : Env) (bound : Bound) → Fits values bound → PlaysAs e env bound k
  plays values e k (kinds.number _ _ v is) env bound h = tt
  plays values e k (kinds.local _ _ x _ is found value) env bound h = value_plays e env bound k value (play_at e (node.Local x) env bound is)
  plays values e k (kinds.global _ _ g is one) env bound h = tt
  plays values e k (kinds.call _ _ f es ks _ is args are body untested) env bound h =
      let inner : Bound = zip (function_at code f.0).params (map (value_of code (meaning code) env bound) es) in
      same_plays e (function_at code f.0).body.0 env bound inner k (play_at e (node.Call f es) env bound is) (mean_at e (node.Call f es) env bound is)
      (plays (zip (function_at code f.0).params ks) (function_at code f.0).body.0 k body env inner
      (zip_fits (function_at code f.0).params ks (map (value_of code (meaning code) env bound) es) (fit_each values es ks args are env bound h)))
  plays values e k (kinds.block _ _ bs v inner _ is binds body untested) env bound h =
      let after : Bound = bound_after code (meaning code) env bs bound in
      same_plays e v.0 env bound after k (play_at e (node.Block bs v) env bound is) (mean_at e (node.Block bs v) env bound is)
      (plays inner v.0 k body env after (fit_binds values bs inner binds env bound h))
  plays values e k (kinds.numbers _ _ op a b is one two) env bound h = tt
  plays values e k (kinds.sound_first _ _ op a b j is one two value) env bound h = play_at e (node.Pair op a b) env bound is
  plays values e k (kinds.sound_second _ _ op a b is one two) env bound h = play_at e (node.Pair op a b) env bound is
  plays values e k (kinds.quotient _ _ a v is one) env bound h = tt
  plays values e k (kinds.negated _ _ a _ is one value) env bound h = value_plays e env bound k value (play_at e (node.Neg a) env bound is)
  plays values e k (kinds.compared _ _ r a b is one two) env bound h = tt
  plays values e k (kinds.both _ _ a b is one two) env bound h = tt
  plays values e k (kinds.either _ _ a b is one two) env bound h = tt
  plays values e k (kinds.denied _ _ a is one) env bound h = tt
  plays values e k (kinds.chosen _ _ c a b _ is test one two untested) env bound h =
      one_of_two (test_of code c (scalars_of bound)) e a.0 b.0 env bound k (play_at e (node.If c a b) env bound is) (mean_at e (node.If c a b) env bound is)
      (plays values a.0 k one env bound h) (plays values b.0 k two env bound h)
  plays values e k (kinds.leaf _ _ w es is each) env bound h = play_at e (node.Leaf w es) env bound is
  plays values e k (kinds.effect _ _ w a es is one each) env bound h = play_at e (node.Effect w a es) env bound is
  plays values e k (kinds.cue _ _ a is one) env bound h = play_at e (node.Cue a) env bound is
  plays values e k (kinds.mix _ _ o es is each) env bound h = play_at e (node.Mix o es) env bound is
  plays values e k (kinds.repeat _ _ o x n a is one) env bound h = play_at e (node.Repeat o x n a) env bound is
  plays values e k (kinds.changed _ _ t n a is one two) env bound h = play_at e (node.Change (change.By t n) a) env bound is
  plays values e k (kinds.warped _ _ ps a is one) env bound h = play_at e (node.Change (change.Warp ps) a) env bound is
  plays values e k (kinds.rated _ _ w r a is one) env bound h = play_at e (node.Change (change.Rate w r) a) env bound is
  plays values e k (kinds.vector _ _ es is some few each) env bound h =
      ap (λ (ss : List sounds.Sound). length ss) (play_at e (node.Vector es) env bound is) ∙ as_many (operand code env bound) es

  made : (e : ℕ) (env : Env) (bound : Bound) (k : Kind) → Suits k (scalar_of code e (scalars_of bound)) → PlaysAs e env bound k → IsMade code e env bound k
  made e env bound k h plays = by k (scalar_of code e (scalars_of bound)) refl h plays
    where
      by : (j : Kind) (s : Scalar) → scalar_of code e (scalars_of bound) ≡ s → Suits j s → PlaysAs e env bound j → IsMade code e env bound j
      by Number (scalar.Number v) is suited p = (v, is)
      by Test (scalar.Test t) is suited p = (t, is)
      by Sound scalar.Sound is suited p = (is, p)
      by (Channels n) s is suited p = p
      by Number (scalar.Test t) is suited p = absurd suited
      by Number scalar.Sound is suited p = absurd suited
      by Test (scalar.Number v) is suited p = absurd suited
      by Test scalar.Sound is suited p = absurd suited
      by Sound (scalar.Number v) is suited p = absurd suited
      by Sound (scalar.Test t) is suited p = absurd suited

pub kinds_hold : (code : Code) → IsOrdered code → KindsHold code
kinds_hold code ordered values e k of env bound h =
    made code ordered e env bound k (suits code ordered values e k of (scalars_of bound) (all_suit values bound h)) (plays code ordered values e k of env bound h)
