-- Whatever is reached from what is of a kind is of a kind, and so has a meaning.
use Rattle.std.proofs.Common.{◌≡◌, ℕ, List, [], ◌∷◌, ◌++◌, map, sym, subst, inl, inr}
use Rattle.std.specs.Prelude.{zip}
use Rattle.ny_warp.specs.declared.env.Env.{Env}
use Rattle.ny_resolve.specs.declared.term.NameId.{NameId}
use Rattle.ny_kinds.specs.declared.kind.Kind.{Kind}
use Rattle.ny_kinds.specs.declared.kind.Kind.TheVariants.{Number, Sound, Test}
use Rattle.ny_check.specs.declared.node.Node.{Node}
use Rattle.ny_check.specs.declared.node.Node.TheVariants as node
use Rattle.ny_check.specs.declared.node.Change.TheVariants as change
use Rattle.ny_check.specs.declared.node.ExprId.{ExprId}
use Rattle.ny_check.specs.declared.value.Value.TheVariants as value
use Rattle.ny_check.specs.Code.{Code, node_at, function_at, IsOrdered}
use Rattle.ny_check.specs.Values.{scalar_of, scalars_of}
use Rattle.ny_check.specs.Meaning.{Bound, meaning, value_of}
use Rattle.ny_laws.specs.Kinds.{Kinds, IsOf, AreOf, AllOf, BindsAreOf, AreValues, Fits}
use Rattle.ny_laws.specs.Kinds as kinds
use Rattle.ny_laws.specs.Reached.{operands, IsOneOf, IsBindAt, Leads, Reaches, HasMeaning, ReachedHaveMeaning}
use Rattle.ny_laws.specs.Reached as reached
use Rattle.ny_laws.proofs.ScalarKinds.{suits}
use Rattle.ny_laws.proofs.PlayedKinds.{all_suit, push_fits, value_fits, zip_fits, fit_each, fit_binds, kinds_hold}
use Rattle.ny_laws.proofs.AcceptedKinds.{PlaysKind}

module _ (code : Code) where
  IsOfSome : Kinds → ℕ → Type 0
  IsOfSome values e = (k : Kind) × IsOf code values e k

  abbrev EachOfSome : Kinds → List ExprId → Type 0
  EachOfSome values [] = Unit {0}
  EachOfSome values (e ∷ es) = ((k : Kind) × IsOf code values e.0 k) × EachOfSome values es

  one_of : (values : Kinds) (i : ℕ) (es : List ExprId) → EachOfSome values es → IsOneOf i es → (k : Kind) × IsOf code values i k
  one_of values i [] h is = absurd is
  one_of values i (e ∷ es) h (inl same) = subst (λ (j : ℕ). (k : Kind) × IsOf code values j k) same h.0
  one_of values i (e ∷ es) h (inr more) = one_of values i es h.1 more

  each_of : (values : Kinds) (es : List ExprId) (ks : List Kind) → AreOf code values es ks → EachOfSome values es
  each_of values es ks (kinds.none_of _) = tt
  each_of values es ks (kinds.one_of _ e more k js one rest) = ((k, one), each_of values more js rest)

  all_of : (k : Kind) (values : Kinds) (es : List ExprId) → AllOf code k values es → EachOfSome values es
  all_of k values es (kinds.none_more _ _) = tt
  all_of k values es (kinds.one_more _ _ e more one rest) = ((k, one), all_of k values more rest)

  -- what is of a kind within a node, under names of its own
  pub record CallOf (values : Kinds) (f : ℕ) (es : List ExprId) : Type 0 where
    pub given : List Kind
    pub are : AreOf code values es given
    pub values_are : AreValues given
    pub kind : Kind
    pub body : IsOf code (zip (function_at code f).params given) (function_at code f).body.0 kind

  pub record BlockOf (values : Kinds) (bs : List (NameId × ExprId)) (v : ℕ) : Type 0 where
    pub inner : Kinds
    pub binds : BindsAreOf code values bs inner
    pub kind : Kind
    pub body : IsOf code inner v kind

  abbrev InnerOf : Kinds → Node → Type 0
  InnerOf values (node.Global g) = IsOf code [] g.0 Number
  InnerOf values (node.Call f es) = CallOf values f.0 es
  InnerOf values (node.Block bs v) = BlockOf values bs v.0
  InnerOf values (node.Repeat o x n a) = IsOf code (values ++ (x, Number) ∷ []) a.0 Sound
  InnerOf values _ = Unit {0}

  abbrev Inside : Kinds → Node → Type 0
  Inside values n = EachOfSome values (operands n) × InnerOf values n

  at : (values : Kinds) (e : ℕ) (n : Node) → node_at code e ≡ n → EachOfSome values (operands n) → InnerOf values n → Inside values (node_at code e)
  at values e n is each inner = subst (Inside values) (sym is) (each, inner)

  inside : (values : Kinds) (e : ℕ) (k : Kind) → IsOf code values e k → Inside values (node_at code e)
  inside values e k (kinds.number _ _ v is) = at values e (node.Number v) is tt tt
  inside values e k (kinds.local _ _ x _ is found value) = at values e (node.Local x) is tt tt
  inside values e k (kinds.global _ _ g is one) = at values e (node.Global g) is tt one
  inside values e k (kinds.call _ _ f es ks _ is args are body untested) =
      at values e (node.Call f es) is (each_of values es ks args) (record { given = ks; are = args; values_are = are; kind = k; body = body })
  inside values e k (kinds.block _ _ bs v inner _ is binds body untested) =
      at values e (node.Block bs v) is tt (record { inner = inner; binds = binds; kind = k; body = body })
  inside values e k (kinds.numbers _ _ op a b is one two) = at values e (node.Pair op a b) is ((Number, one), ((Number, two), tt)) tt
  inside values e k (kinds.sound_first _ _ op a b j is one two value) = at values e (node.Pair op a b) is ((Sound, one), ((j, two), tt)) tt
  inside values e k (kinds.sound_second _ _ op a b is one two) = at values e (node.Pair op a b) is ((Number, one), ((Sound, two), tt)) tt
  inside values e k (kinds.quotient _ _ a v is one) = at values e (node.Div a v) is ((Number, one), tt) tt
  inside values e k (kinds.negated _ _ a _ is one value) = at values e (node.Neg a) is ((k, one), tt) tt
  inside values e k (kinds.compared _ _ r a b is one two) = at values e (node.Compare r a b) is ((Number, one), ((Number, two), tt)) tt
  inside values e k (kinds.both _ _ a b is one two) = at values e (node.And a b) is ((Test, one), ((Test, two), tt)) tt
  inside values e k (kinds.either _ _ a b is one two) = at values e (node.Or a b) is ((Test, one), ((Test, two), tt)) tt
  inside values e k (kinds.denied _ _ a is one) = at values e (node.Not a) is ((Test, one), tt) tt
  inside values e k (kinds.chosen _ _ c a b _ is test one two untested) = at values e (node.If c a b) is ((Test, test), ((k, one), ((k, two), tt))) tt
  inside values e k (kinds.leaf _ _ w es is each) = at values e (node.Leaf w es) is (all_of Number values es each) tt
  inside values e k (kinds.effect _ _ w a es is one each) = at values e (node.Effect w a es) is ((Sound, one), all_of Number values es each) tt
  inside values e k (kinds.cue _ _ a is one) = at values e (node.Cue a) is ((Sound, one), tt) tt
  inside values e k (kinds.mix _ _ o es is each) = at values e (node.Mix o es) is (all_of Sound values es each) tt
  inside values e k (kinds.repeat _ _ o x n a is one) = at values e (node.Repeat o x n a) is tt one
  inside values e k (kinds.changed _ _ t n a is one two) = at values e (node.Change (change.By t n) a) is ((Number, one), ((Sound, two), tt)) tt
  inside values e k (kinds.warped _ _ ps a is one) = at values e (node.Change (change.Warp ps) a) is ((Sound, one), tt) tt
  inside values e k (kinds.rated _ _ w r a is one) = at values e (node.Change (change.Rate w r) a) is ((Sound, one), tt) tt
  inside values e k (kinds.vector _ _ es is some few each) = at values e (node.Vector es) is (all_of Sound values es each) tt

  -- under names that fit
  pub record Known (e : ℕ) (bound : Bound) : Type 0 where
    pub values : Kinds
    pub kind : Kind
    pub fits : Fits values bound
    pub is : IsOf code values e kind

  inner_at : (values : Kinds) (e : ℕ) (k : Kind) (n : Node) → IsOf code values e k → node_at code e ≡ n → InnerOf values n
  inner_at values e k n of is = subst (InnerOf values) is (inside values e k of).1

  module _ (ordered : IsOrdered code) where
    bind_known : (values : Kinds) (bs : List (NameId × ExprId)) (inner : Kinds) → BindsAreOf code values bs inner → (env : Env) (bound : Bound) → Fits values bound
        → (i : ℕ) (seen : Bound) → IsBindAt code env bs bound i seen → Known i seen
    bind_known values bs inner (kinds.no_bind _) env bound h i seen is = absurd is
    bind_known values bs inner (kinds.one_bind _ x e more k _ one value rest) env bound h i seen (inl here) =
        subst (λ (b : Bound). Known i b) here.1
        (subst (λ (j : ℕ). Known j bound) here.0 (record { values = values; kind = k; fits = h; is = one }))
    bind_known values bs inner (kinds.one_bind _ x e more k _ one value rest) env bound h i seen (inr later) =
        bind_known (values ++ (x, k) ∷ []) more inner rest env (bound ++ (x, value_of code (meaning code) env bound e) ∷ [])
        (push_fits values bound x k (value_of code (meaning code) env bound e) h
        (value_fits k (scalar_of code e.0 (scalars_of bound)) (meaning code e.0 env bound) value (suits code ordered values e.0 k one (scalars_of bound) (all_suit values bound h))))
        i seen later

    leads_on : (e : ℕ) (bound : Bound) (i : ℕ) (inner : Bound) → Known e bound → Leads code e bound i inner → Known i inner
    leads_on e bound i inner is (reached.operand _ _ _ among) =
        let one = one_of is.values i (operands (node_at code e)) (inside is.values e is.kind is.is).0 among in
        record { values = is.values; kind = one.0; fits = is.fits; is = one.1 }
    leads_on e bound i inner is (reached.global _ _ g at_node) =
        record { values = []; kind = Number; fits = tt; is = inner_at is.values e is.kind (node.Global g) is.is at_node }
    leads_on e bound i inner is (reached.called _ _ f es env at_node) =
        let c = inner_at is.values e is.kind (node.Call f es) is.is at_node in
        record {
          values = zip (function_at code f.0).params c.given;
          kind = c.kind;
          fits = zip_fits (function_at code f.0).params c.given (map (value_of code (meaning code) env bound) es)
              (fit_each code ordered is.values es c.given c.are c.values_are env bound is.fits);
          is = c.body;
        }
    leads_on e bound i inner is (reached.bind _ _ bs v env _ _ at_node bound_there) =
        let b = inner_at is.values e is.kind (node.Block bs v) is.is at_node in
        bind_known is.values bs b.inner b.binds env bound is.fits i inner bound_there
    leads_on e bound i inner is (reached.block _ _ bs v env at_node) =
        let b = inner_at is.values e is.kind (node.Block bs v) is.is at_node in
        record { values = b.inner; kind = b.kind; fits = fit_binds code ordered is.values bs b.inner b.binds env bound is.fits; is = b.body }
    leads_on e bound i inner is (reached.repeated _ _ o x n a k at_node) =
        record {
          values = is.values ++ (x, Number) ∷ [];
          kind = Sound;
          fits = push_fits is.values bound x Number (value.Number k) is.fits tt;
          is = inner_at is.values e is.kind (node.Repeat o x n a) is.is at_node;
        }

    known : PlaysKind code → (e : ℕ) (bound : Bound) → Reaches code e bound → Known e bound
    known plays e bound reached.at_play = record { values = []; kind = plays.kind; fits = tt; is = plays.is }
    known plays e bound (reached.further d outer _ _ before step) = leads_on d outer e bound (known plays d outer before) step

    pub reached_have_meaning : PlaysKind code → ReachedHaveMeaning code
    reached_have_meaning plays e bound reaches =
        let is = known plays e bound reaches in
        record {
          values = is.values;
          kind = is.kind;
          fits = is.fits;
          is = is.is;
          made = λ env. kinds_hold code ordered is.values e is.kind is.is env bound is.fits;
        }
