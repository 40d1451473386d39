-- What an expression of a program is: a rule for each kind of node.
use Rattle.std.specs.Prelude.{◌≡◌, ◌≤◌, ◌⊎◌, ℕ, Bool, false, true, List, [], ◌∷◌, ◌++◌, zip, length, Some, ℤ}
use Rattle.ny_num.specs.declared.rate.Rate.{Rate}
use Rattle.ny_kernels.specs.declared.operation.Op.{Op}
use Rattle.ny_warp.specs.declared.map.Point.{Point}
use Rattle.ny_warp.specs.declared.env.Env.{Env}
use Rattle.ny_scope.specs.Scopes.{last_of}
use Rattle.ny_num.specs.Sound as sounds
use Rattle.ny_resolve.specs.declared.builtin.Order.{Order}
use Rattle.ny_resolve.specs.declared.builtin.Rated.{Rated}
use Rattle.ny_resolve.specs.declared.builtin.Relation.{Relation}
use Rattle.ny_resolve.specs.declared.term.NameId.{NameId}
use Rattle.ny_resolve.specs.Keys.{same_name}
use Rattle.ny_kinds.specs.declared.kind.Kind.{Kind}
use Rattle.ny_kinds.specs.declared.kind.Kind.TheVariants.{Number, Sound, Test, Channels}
use Rattle.ny_kinds.specs.Rows.{is_value, is_test}
use Rattle.ny_check.specs.declared.node.Generator.{Generator}
use Rattle.ny_check.specs.declared.node.Effect.{Effect}
use Rattle.ny_check.specs.declared.node.Transformation.{Transformation}
use Rattle.ny_check.specs.declared.node.Change.TheVariants as change
use Rattle.ny_check.specs.declared.node.Node.TheVariants as node
use Rattle.ny_check.specs.declared.node.ExprId.{ExprId}
use Rattle.ny_check.specs.declared.node.FunctionId.{FunctionId}
use Rattle.ny_check.specs.declared.value.Scalar.TheVariants as scalar
use Rattle.ny_check.specs.declared.value.Value.{Value}
use Rattle.ny_check.specs.declared.value.Value.TheVariants as value
use Rattle.ny_check.specs.Code.{Code, node_at, function_at}
use Rattle.ny_check.specs.Values.{scalars_of, scalar_of}
use Rattle.ny_check.specs.Meaning.{Bound, meaning}
use Rattle.ny_check.specs.Channels.{played}

-- the kinds of names, the nearest last: each is a number or a sound
abbrev pub Kinds : Type 0
Kinds = List (NameId × Kind)

-- a function takes numbers and sounds
abbrev pub AreValues : List Kind → Type 0
AreValues [] = Unit {0}
AreValues (k ∷ ks) = (is_value k ≡ true) × AreValues ks

-- An expression is of a kind, where its names are of these. A name stands for a number or a sound, and nothing returns a test to one; a
-- body sees its parameters alone, and a global value no name.
mutual
  pub data IsOf (code : Code) : Kinds → ℕ → Kind → Type 0 where
    number : (values : Kinds) (e : ℕ) (v : ℤ) → node_at code e ≡ node.Number v → IsOf code values e Number
    local : (values : Kinds) (e : ℕ) (x : NameId) (k : Kind) → node_at code e ≡ node.Local x → last_of (same_name x) values ≡ Some k → is_value k ≡ true → IsOf code values e k
    global : (values : Kinds) (e : ℕ) (g : ExprId) → node_at code e ≡ node.Global g → IsOf code [] g.0 Number → IsOf code values e Number
    call : (values : Kinds) (e : ℕ) (f : FunctionId) (es : List ExprId) (ks : List Kind) (k : Kind) → node_at code e ≡ node.Call f es → AreOf code values es ks
        → AreValues ks → IsOf code (zip (function_at code f.0).params ks) (function_at code f.0).body.0 k → is_test k ≡ false → IsOf code values e k
    block : (values : Kinds) (e : ℕ) (bs : List (NameId × ExprId)) (v : ExprId) (inner : Kinds) (k : Kind) → node_at code e ≡ node.Block bs v
        → BindsAreOf code values bs inner → IsOf code inner v.0 k → is_test k ≡ false → IsOf code values e k
    numbers : (values : Kinds) (e : ℕ) (op : Op) (a b : ExprId) → node_at code e ≡ node.Pair op a b → IsOf code values a.0 Number → IsOf code values b.0 Number
        → IsOf code values e Number
    sound_first : (values : Kinds) (e : ℕ) (op : Op) (a b : ExprId) (k : Kind) → node_at code e ≡ node.Pair op a b → IsOf code values a.0 Sound → IsOf code values b.0 k
        → is_value k ≡ true → IsOf code values e Sound
    sound_second : (values : Kinds) (e : ℕ) (op : Op) (a b : ExprId) → node_at code e ≡ node.Pair op a b → IsOf code values a.0 Number → IsOf code values b.0 Sound
        → IsOf code values e Sound
    quotient : (values : Kinds) (e : ℕ) (a : ExprId) (v : ℤ) → node_at code e ≡ node.Div a v → IsOf code values a.0 Number → IsOf code values e Number
    negated : (values : Kinds) (e : ℕ) (a : ExprId) (k : Kind) → node_at code e ≡ node.Neg a → IsOf code values a.0 k → is_value k ≡ true → IsOf code values e k
    compared : (values : Kinds) (e : ℕ) (r : Relation) (a b : ExprId) → node_at code e ≡ node.Compare r a b → IsOf code values a.0 Number → IsOf code values b.0 Number
        → IsOf code values e Test
    both : (values : Kinds) (e : ℕ) (a b : ExprId) → node_at code e ≡ node.And a b → IsOf code values a.0 Test → IsOf code values b.0 Test → IsOf code values e Test
    either : (values : Kinds) (e : ℕ) (a b : ExprId) → node_at code e ≡ node.Or a b → IsOf code values a.0 Test → IsOf code values b.0 Test → IsOf code values e Test
    denied : (values : Kinds) (e : ℕ) (a : ExprId) → node_at code e ≡ node.Not a → IsOf code values a.0 Test → IsOf code values e Test
    chosen : (values : Kinds) (e : ℕ) (c a b : ExprId) (k : Kind) → node_at code e ≡ node.If c a b → IsOf code values c.0 Test → IsOf code values a.0 k
        → IsOf code values b.0 k → is_test k ≡ false → IsOf code values e k
    leaf : (values : Kinds) (e : ℕ) (w : Generator) (es : List ExprId) → node_at code e ≡ node.Leaf w es → AllOf code Number values es → IsOf code values e Sound
    effect : (values : Kinds) (e : ℕ) (w : Effect) (a : ExprId) (es : List ExprId) → node_at code e ≡ node.Effect w a es → IsOf code values a.0 Sound
        → AllOf code Number values es → IsOf code values e Sound
    cue : (values : Kinds) (e : ℕ) (a : ExprId) → node_at code e ≡ node.Cue a → IsOf code values a.0 Sound → IsOf code values e Sound
    mix : (values : Kinds) (e : ℕ) (o : Order) (es : List ExprId) → node_at code e ≡ node.Mix o es → AllOf code Sound values es → IsOf code values e Sound
    repeat : (values : Kinds) (e : ℕ) (o : Order) (x : NameId) (n : ℕ) (a : ExprId) → node_at code e ≡ node.Repeat o x n a
        → IsOf code (values ++ (x, Number) ∷ []) a.0 Sound → IsOf code values e Sound
    changed : (values : Kinds) (e : ℕ) (t : Transformation) (n a : ExprId) → node_at code e ≡ node.Change (change.By t n) a → IsOf code values n.0 Number
        → IsOf code values a.0 Sound → IsOf code values e Sound
    warped : (values : Kinds) (e : ℕ) (ps : List Point) (a : ExprId) → node_at code e ≡ node.Change (change.Warp ps) a → IsOf code values a.0 Sound → IsOf code values e Sound
    rated : (values : Kinds) (e : ℕ) (w : Rated) (r : Rate) (a : ExprId) → node_at code e ≡ node.Change (change.Rate w r) a → IsOf code values a.0 Sound → IsOf code values e Sound
    vector : (values : Kinds) (e : ℕ) (es : List ExprId) → node_at code e ≡ node.Vector es → 1 ≤ length es → length es ≤ 8 → AllOf code Sound values es
        → IsOf code values e (Channels (length es))

  -- expressions in order
  pub data AreOf (code : Code) : Kinds → List ExprId → List Kind → Type 0 where
    none_of : (values : Kinds) → AreOf code values [] []
    one_of : (values : Kinds) (e : ExprId) (es : List ExprId) (k : Kind) (ks : List Kind) → IsOf code values e.0 k → AreOf code values es ks → AreOf code values (e ∷ es) (k ∷ ks)

  -- all of one kind
  pub data AllOf (code : Code) : Kind → Kinds → List ExprId → Type 0 where
    none_more : (k : Kind) (values : Kinds) → AllOf code k values []
    one_more : (k : Kind) (values : Kinds) (e : ExprId) (es : List ExprId) → IsOf code values e.0 k → AllOf code k values es → AllOf code k values (e ∷ es)

  -- binds, each seen by those after it, and the names after them
  pub data BindsAreOf (code : Code) : Kinds → List (NameId × ExprId) → Kinds → Type 0 where
    no_bind : (values : Kinds) → BindsAreOf code values [] values
    one_bind : (values : Kinds) (x : NameId) (e : ExprId) (bs : List (NameId × ExprId)) (k : Kind) (inner : Kinds) → IsOf code values e.0 k → is_value k ≡ true
        → BindsAreOf code (values ++ (x, k) ∷ []) bs inner → BindsAreOf code values ((x, e) ∷ bs) inner

-- ---- what is of a kind

abbrev pub IsValueOf : Kind → Value sounds.Sound → Type 0
IsValueOf Number (value.Number v) = Unit {0}
IsValueOf Sound (value.Sound s) = Unit {0}
IsValueOf _ _ = ⊥

-- names stand for what their kinds say
abbrev pub Fits : Kinds → Bound → Type 0
Fits [] [] = Unit {0}
Fits (v ∷ values) (b ∷ bound) = (v.0 ≡ b.0) × IsValueOf v.1 b.1 × Fits values bound
Fits _ _ = ⊥

-- A number has a value, and so has a test; a sound plays the one sound that it means, and channels play so many.
abbrev pub IsMade : Code → ℕ → Env → Bound → Kind → Type 0
IsMade code e env bound Number = (v : ℤ) × (scalar_of code e (scalars_of bound) ≡ scalar.Number v)
IsMade code e env bound Test = (t : Bool) × (scalar_of code e (scalars_of bound) ≡ scalar.Test t)
IsMade code e env bound Sound = (scalar_of code e (scalars_of bound) ≡ scalar.Sound) × (played code e env bound ≡ meaning code e env bound ∷ [])
IsMade code e env bound (Channels n) = length (played code e env bound) ≡ n

-- whatever is of a kind is made so, under all names that fit
abbrev pub KindsHold : Code → Type 0
KindsHold code = (values : Kinds) (e : ℕ) (k : Kind) → IsOf code values e k → (env : Env) (bound : Bound) → Fits values bound → IsMade code e env bound k

-- what is played is a sound, or several side by side
abbrev pub IsPlayable : Code → Type 0
IsPlayable code = IsOf code [] code.play.0 Sound ⊎ ((n : ℕ) × IsOf code [] code.play.0 (Channels n))
