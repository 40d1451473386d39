-- A meaning depends on the free names alone.
use Rattle.std.proofs.Common.{◌≡◌, ℕ, zero, suc, ◌+◌, ◌<◌, ◌*◌, length, Bool, true, false, List, [], ◌∷◌, ◌++◌, map, Option, refl, ap, ◌∙◌, pos, arith}
use Rattle.std.specs.Prelude.{nat_lt, ◌||◌, if◌then◌else◌}
use Rattle.std.specs.List.{range_with_len}
use Rattle.std.specs.Option.{unwrap_or}
use Rattle.std.proofs.Math.Path.{fun_ext}
use Rattle.std.proofs.lemmas.Bool.{eq-eqb, ltb-true}
use Rattle.ny_num.specs.Sound as sounds
use Rattle.ny_num.specs.Sound.{silence}
use Rattle.ny_num.specs.Mix.{mix}
use Rattle.ny_warp.specs.declared.env.Env.{Env}
use Rattle.ny_resolve.specs.declared.term.NameId.{NameId}
use Rattle.ny_resolve.specs.Keys.{same_name}
use Rattle.ny_check.specs.declared.node.Node.{Node}
use Rattle.ny_check.specs.declared.node.Node.TheVariants as node
use Rattle.ny_check.specs.declared.node.Change.{Change}
use Rattle.ny_check.specs.declared.node.Change.TheVariants as change
use Rattle.ny_check.specs.declared.node.ExprId.{ExprId}
use Rattle.ny_check.specs.declared.value.Scalar.{Scalar}
use Rattle.ny_check.specs.declared.value.Scalar.TheVariants as scalar
use Rattle.ny_check.specs.declared.value.Value.{Value}
use Rattle.ny_check.specs.declared.value.Value.TheVariants.{Number}
use Rattle.ny_check.specs.Code.{Code, node_at, IsBelow, AllBelow, BindsBelow, IsChangeBelow, IsOrdered}
use Rattle.ny_check.specs.Recursion.{below, turns, by_smaller}
use Rattle.ny_check.specs.Values.{Scalars, scalar_of, scalar_node, scalars_after, scalars_of, argument, passed, is_true, number_of, number_in, test_of}
use Rattle.ny_check.specs.Parts.{parts_in}
use Rattle.ny_check.specs.Families.{changed_env}
use Rattle.ny_check.specs.Meaning.{Bound, Means, meaning, sound_node, value_of, value_by, bound_after, part_of, repeated_part, repeated_parts, number}
use Rattle.ny_check.specs.FreeNames.{Agree, in_any, in_block, in_change, free_node, is_free, ScalarDependsOnFree, DependsOnFree}
use Rattle.ny_check.proofs.Smaller.{below-at, by_smaller-is}
use Rattle.ny_check.proofs.Agreeing.{agree_left, agree_right, agree_push, agree_scalars}

-- ---- the free names of a node, by those of the nodes that it names

any-below : (n : ℕ) (f : ℕ → Bool) (es : List ExprId) → AllBelow n es → in_any (below n false f) es ≡ in_any f es
any-below n f [] h = refl
any-below n f (e ∷ es) h = rw (below-at n e.0 false f h.0, any-below n f es h.1)

block-below : (x : NameId) (n : ℕ) (f : ℕ → Bool) (bs : List (NameId × ExprId)) (e : ExprId) → BindsBelow n bs → e.0 < n → in_block x bs e (below n false f) ≡ in_block x bs e f
block-below x n f [] e h k = below-at n e.0 false f k
block-below x n f (b ∷ bs) e h k = rw (below-at n b.1.0 false f h.0, block-below x n f bs e h.1 k)

change-below : (n : ℕ) (f : ℕ → Bool) (c : Change) → IsChangeBelow n c → in_change c (below n false f) ≡ in_change c f
change-below n f (change.By t k) h = below-at n k.0 false f h
change-below n f (change.Warp m) h = refl
change-below n f (change.Rate rated r) h = refl

free_node-below : (fs : _) (x : NameId) (n : ℕ) (f : ℕ → Bool) (at : Node) → IsBelow fs n at → free_node x at (below n false f) ≡ free_node x at f
free_node-below fs x n f (node.Call g es) h = any-below n f es h.0
free_node-below fs x n f (node.Block bs e) h = block-below x n f bs e h.0 h.1
free_node-below fs x n f (node.Pair op a b) h = rw (below-at n a.0 false f h.0, below-at n b.0 false f h.1)
free_node-below fs x n f (node.Div a v) h = below-at n a.0 false f h.0
free_node-below fs x n f (node.Neg a) h = below-at n a.0 false f h
free_node-below fs x n f (node.Compare r a b) h = rw (below-at n a.0 false f h.0, below-at n b.0 false f h.1)
free_node-below fs x n f (node.And a b) h = rw (below-at n a.0 false f h.0, below-at n b.0 false f h.1)
free_node-below fs x n f (node.Or a b) h = rw (below-at n a.0 false f h.0, below-at n b.0 false f h.1)
free_node-below fs x n f (node.Not a) h = below-at n a.0 false f h
free_node-below fs x n f (node.If c a b) h = rw (below-at n c.0 false f h.0, below-at n a.0 false f h.1, below-at n b.0 false f h.2)
free_node-below fs x n f (node.Leaf w es) h = any-below n f es h
free_node-below fs x n f (node.Effect w e es) h = rw (below-at n e.0 false f h.0, any-below n f es h.1)
free_node-below fs x n f (node.Cue e) h = below-at n e.0 false f h
free_node-below fs x n f (node.Mix o es) h = any-below n f es h
free_node-below fs x n f (node.Repeat o y k e) h = rw (below-at n e.0 false f h)
free_node-below fs x n f (node.Change c e) h = rw (change-below n f c h.0, below-at n e.0 false f h.1)
free_node-below fs x n f (node.Vector es) h = any-below n f es h
free_node-below fs x n f _ h = refl

pub is_free-is : (code : Code) (x : NameId) (e : ℕ) → IsBelow code.functions e (node_at code e) → is_free code x e ≡ free_node x (node_at code e) (is_free code x)
unfolding is_free
is_free-is code x e h =
    by_smaller-is false (λ m rec. free_node x (node_at code m) rec) e ∙ free_node-below code.functions x e (is_free code x) (node_at code e) h

-- ---- what a scalar depends on

-- a function of nodes depends on the names that are free in each
abbrev ScalarsRest : (ℕ → Scalars → Scalar) → (NameId → ℕ → Bool) → Type 0
ScalarsRest f g = (m : ℕ) (b c : Scalars) → Agree (λ x. g x m) b c → f m b ≡ f m c

module _ (f : ℕ → Scalars → Scalar) (g : NameId → ℕ → Bool) (rests : ScalarsRest f g) where
  arguments-same : (es : List ExprId) (b c : Scalars) → Agree (λ x. in_any (g x) es) b c → map (argument f b) es ≡ map (argument f c) es
  arguments-same [] b c h = refl
  arguments-same (e ∷ es) b c h =
      let first : argument f b e ≡ argument f c e = ap passed (rests e.0 b c (agree_left (λ x. g x e.0) (λ x. in_any (g x) es) b c h)) in
      let rest = arguments-same es b c (agree_right (λ x. g x e.0) (λ x. in_any (g x) es) b c h) in
      cc

  binds-same : (bs : List (NameId × ExprId)) (e : ExprId) (b c : Scalars) → Agree (λ x. in_block x bs e (g x)) b c → f e.0 (scalars_after f bs b) ≡ f e.0 (scalars_after f bs c)
  binds-same [] e b c h = rests e.0 b c h
  binds-same (d ∷ bs) e b c h =
      let first : passed (f d.1.0 b) ≡ passed (f d.1.0 c) =
      ap passed (rests d.1.0 b c (agree_left (λ x. g x d.1.0) (λ x. if same_name x d.0 then false else in_block x bs e (g x)) b c h)) in
      binds-same bs e (b ++ (d.0, passed (f d.1.0 b)) ∷ []) (c ++ (d.0, passed (f d.1.0 b)) ∷ [])
      (agree_push (λ x. in_block x bs e (g x)) d.0 (passed (f d.1.0 b)) b c (agree_right (λ x. g x d.1.0) (λ x. if same_name x d.0 then false else in_block x bs e (g x)) b c h))
      ∙ ap (λ (v : Scalar). f e.0 (scalars_after f bs (c ++ (d.0, v) ∷ []))) first

  scalar_node-same : (code : Code) (at : Node) (b c : Scalars) → Agree (λ x. free_node x at (g x)) b c → scalar_node code at f b ≡ scalar_node code at f c
  scalar_node-same code (node.Local y) b c h = ap (λ (o : Option Scalar). unwrap_or o scalar.Sound) (h y (eq-eqb y.0 y.0 refl))
  scalar_node-same code (node.Call k es) b c h = rw (arguments-same es b c h)
  scalar_node-same code (node.Block bs e) b c h = binds-same bs e b c h
  scalar_node-same code (node.Pair op a d) b c h =
      rw (rests a.0 b c (agree_left (λ x. g x a.0) (λ x. g x d.0) b c h), rests d.0 b c (agree_right (λ x. g x a.0) (λ x. g x d.0) b c h))
  scalar_node-same code (node.Div a v) b c h = rw (rests a.0 b c h)
  scalar_node-same code (node.Neg a) b c h = rw (rests a.0 b c h)
  scalar_node-same code (node.Compare r a d) b c h =
      rw (rests a.0 b c (agree_left (λ x. g x a.0) (λ x. g x d.0) b c h), rests d.0 b c (agree_right (λ x. g x a.0) (λ x. g x d.0) b c h))
  scalar_node-same code (node.And a d) b c h =
      rw (rests a.0 b c (agree_left (λ x. g x a.0) (λ x. g x d.0) b c h), rests d.0 b c (agree_right (λ x. g x a.0) (λ x. g x d.0) b c h))
  scalar_node-same code (node.Or a d) b c h =
      rw (rests a.0 b c (agree_left (λ x. g x a.0) (λ x. g x d.0) b c h), rests d.0 b c (agree_right (λ x. g x a.0) (λ x. g x d.0) b c h))
  scalar_node-same code (node.Not a) b c h = rw (rests a.0 b c h)
  scalar_node-same code (node.If k a d) b c h =
      let more : Agree (λ x. g x a.0 || g x d.0) b c = agree_right (λ x. g x k.0) (λ x. g x a.0 || g x d.0) b c h in
      rw (
        rests k.0 b c (agree_left (λ x. g x k.0) (λ x. g x a.0 || g x d.0) b c h),
        rests a.0 b c (agree_left (λ x. g x a.0) (λ x. g x d.0) b c more),
        rests d.0 b c (agree_right (λ x. g x a.0) (λ x. g x d.0) b c more),
      )
  scalar_node-same code _ b c h = refl

abbrev scalar_step : Code → ℕ → (ℕ → Scalars → Scalar) → Scalars → Scalar
scalar_step code e rec = scalar_node code (node_at code e) rec

abbrev free_step : Code → NameId → ℕ → (ℕ → Bool) → Bool
free_step code x e free = free_node x (node_at code e) free

by_guard : (t : Bool) (f : Scalars → Scalar) (g : NameId → Bool) (b c : Scalars) → (Agree g b c → f b ≡ f c) → Agree (λ x. if t then g x else false) b c
    → (if t then f else (λ names. scalar.Sound)) b ≡ (if t then f else (λ names. scalar.Sound)) c
by_guard true f g b c h agree = h agree
by_guard false f g b c h agree = refl

turns-scalar : (code : Code) (left n : ℕ) (b c : Scalars) → Agree (λ x. turns false (free_step code x) left n) b c
    → turns (λ names. scalar.Sound) (scalar_step code) left n b ≡ turns (λ names. scalar.Sound) (scalar_step code) left n c
turns-scalar code zero n b c h = refl
turns-scalar code (suc left) n b c h =
    scalar_node-same (below n (λ names. scalar.Sound) (turns (λ names. scalar.Sound) (scalar_step code) left))
    (λ x. below n false (turns false (free_step code x) left))
    (λ m d e k. by_guard (nat_lt m n) (turns (λ names. scalar.Sound) (scalar_step code) left m) (λ x. turns false (free_step code x) left m) d e (turns-scalar code left m d e) k)
    code (node_at code n) b c h

pub scalar-same : (code : Code) → ScalarDependsOnFree code
unfolding scalar_of is_free by_smaller
scalar-same code e b c h = turns-scalar code (e + 1) e b c h

-- ---- what a meaning depends on

abbrev SoundsRest : Code → (ℕ → Means) → Type 0
SoundsRest code f = (m : ℕ) (env : Env) (b c : Bound) → Agree (λ x. is_free code x m) b c → f m env b ≡ f m env c

number-same : (code : Code) (e : ExprId) (b c : Bound) → Agree (λ x. is_free code x e.0) b c → number code b e ≡ number code c e
unfolding number_of
number-same code e b c h = ap number_in (scalar-same code e.0 (scalars_of b) (scalars_of c) (agree_scalars (λ x. is_free code x e.0) b c h))

test-same : (code : Code) (e : ExprId) (b c : Bound) → Agree (λ x. is_free code x e.0) b c → test_of code e (scalars_of b) ≡ test_of code e (scalars_of c)
unfolding test_of
test-same code e b c h = ap is_true (scalar-same code e.0 (scalars_of b) (scalars_of c) (agree_scalars (λ x. is_free code x e.0) b c h))

numbers-same : (code : Code) (es : List ExprId) (b c : Bound) → Agree (λ x. in_any (is_free code x) es) b c → map (number code b) es ≡ map (number code c) es
numbers-same code [] b c h = refl
numbers-same code (e ∷ es) b c h =
    let first = number-same code e b c (agree_left (λ x. is_free code x e.0) (λ x. in_any (is_free code x) es) b c h) in
    let rest = numbers-same code es b c (agree_right (λ x. is_free code x e.0) (λ x. in_any (is_free code x) es) b c h) in
    cc

env-same : (code : Code) (k : Change) (env : Env) (b c : Bound) → Agree (λ x. in_change k (is_free code x)) b c → changed_env k (number code b) env ≡ changed_env k (number code c) env
env-same code (change.By t e) env b c h = rw (number-same code e b c h)
env-same code (change.Warp m) env b c h = refl
env-same code (change.Rate rated r) env b c h = refl

module _ (code : Code) (f : ℕ → Means) (rests : SoundsRest code f) where
  value-same : (env : Env) (e : ExprId) (b c : Bound) → Agree (λ x. is_free code x e.0) b c → value_of code f env b e ≡ value_of code f env c e
  value-same env e b c h =
      ap (λ (s : Scalar). value_by s (f e.0 env b)) (scalar-same code e.0 (scalars_of b) (scalars_of c) (agree_scalars (λ x. is_free code x e.0) b c h))
      ∙ ap (λ (s : sounds.Sound). value_by (scalar_of code e.0 (scalars_of c)) s) (rests e.0 env b c h)

  values-same : (env : Env) (es : List ExprId) (b c : Bound) → Agree (λ x. in_any (is_free code x) es) b c → map (value_of code f env b) es ≡ map (value_of code f env c) es
  values-same env [] b c h = refl
  values-same env (e ∷ es) b c h =
      let first = value-same env e b c (agree_left (λ x. is_free code x e.0) (λ x. in_any (is_free code x) es) b c h) in
      let rest = values-same env es b c (agree_right (λ x. is_free code x e.0) (λ x. in_any (is_free code x) es) b c h) in
      cc

  block-same : (env : Env) (bs : List (NameId × ExprId)) (e : ExprId) (b c : Bound) → Agree (λ x. in_block x bs e (is_free code x)) b c
      → f e.0 env (bound_after code f env bs b) ≡ f e.0 env (bound_after code f env bs c)
  block-same env [] e b c h = rests e.0 env b c h
  block-same env (d ∷ bs) e b c h =
      block-same env bs e (b ++ (d.0, value_of code f env b d.1) ∷ []) (c ++ (d.0, value_of code f env b d.1) ∷ [])
      (agree_push (λ x. in_block x bs e (is_free code x)) d.0 (value_of code f env b d.1) b c
      (agree_right (λ x. is_free code x d.1.0) (λ x. if same_name x d.0 then false else in_block x bs e (is_free code x)) b c h))
      ∙ ap (λ (v : Value sounds.Sound). f e.0 env (bound_after code f env bs (c ++ (d.0, v) ∷ [])))
      (value-same env d.1 b c (agree_left (λ x. is_free code x d.1.0) (λ x. if same_name x d.0 then false else in_block x bs e (is_free code x)) b c h))

  parts-same : (es : List ExprId) (b c : Bound) → Agree (λ x. in_any (is_free code x) es) b c → map (part_of f b) es ≡ map (part_of f c) es
  parts-same [] b c h = refl
  parts-same (e ∷ es) b c h =
      let first : part_of f b e ≡ part_of f c e = fun_ext (λ from. rests e.0 from b c (agree_left (λ x. is_free code x e.0) (λ x. in_any (is_free code x) es) b c h)) in
      let rest = parts-same es b c (agree_right (λ x. is_free code x e.0) (λ x. in_any (is_free code x) es) b c h) in
      cc

  repeats-same : (i : NameId) (n : ℕ) (e : ExprId) (b c : Bound) → Agree (λ x. if same_name x i then false else is_free code x e.0) b c → repeated_parts f b i n e ≡ repeated_parts f c i n e
  repeats-same i n e b c h =
      let each : repeated_part f b i e ≡ repeated_part f c i e =
      fun_ext (λ k. fun_ext (λ from. rests e.0 from (b ++ (i, Number (pos (k * 1000000))) ∷ []) (c ++ (i, Number (pos (k * 1000000))) ∷ [])
      (agree_push (λ x. is_free code x e.0) i (Number (pos (k * 1000000))) b c h))) in
      ap (λ (p : ℕ → Env → sounds.Sound). map p (range_with_len 0 n)) each

  sound_node-same : (at : Node) (env : Env) (b c : Bound) → Agree (λ x. free_node x at (is_free code x)) b c → sound_node code at f env b ≡ sound_node code at f env c
  sound_node-same (node.Local y) env b c h = rw (h y (eq-eqb y.0 y.0 refl))
  sound_node-same (node.Call k es) env b c h = rw (values-same env es b c h)
  sound_node-same (node.Block bs e) env b c h = block-same env bs e b c h
  sound_node-same (node.If k a d) env b c h =
      let more : Agree (λ x. is_free code x a.0 || is_free code x d.0) b c = agree_right (λ x. is_free code x k.0) (λ x. is_free code x a.0 || is_free code x d.0) b c h in
      rw (
        test-same code k b c (agree_left (λ x. is_free code x k.0) (λ x. is_free code x a.0 || is_free code x d.0) b c h),
        rests a.0 env b c (agree_left (λ x. is_free code x a.0) (λ x. is_free code x d.0) b c more),
        rests d.0 env b c (agree_right (λ x. is_free code x a.0) (λ x. is_free code x d.0) b c more),
      )
  sound_node-same (node.Pair op a d) env b c h =
      rw (
        value-same env a b c (agree_left (λ x. is_free code x a.0) (λ x. is_free code x d.0) b c h),
        value-same env d b c (agree_right (λ x. is_free code x a.0) (λ x. is_free code x d.0) b c h),
      )
  sound_node-same (node.Neg a) env b c h = rw (value-same env a b c h)
  sound_node-same (node.Leaf w es) env b c h = rw (numbers-same code es b c h)
  sound_node-same (node.Effect w e es) env b c h =
      rw (
        rests e.0 env b c (agree_left (λ x. is_free code x e.0) (λ x. in_any (is_free code x) es) b c h),
        numbers-same code es b c (agree_right (λ x. is_free code x e.0) (λ x. in_any (is_free code x) es) b c h),
      )
  sound_node-same (node.Cue e) env b c h = rw (rests e.0 env b c h)
  sound_node-same (node.Mix o es) env b c h = ap (λ ps. mix env.sound_rate (parts_in o env ps)) (parts-same es b c h)
  sound_node-same (node.Repeat o i k e) env b c h = ap (λ ps. mix env.sound_rate (parts_in o env ps)) (repeats-same i k e b c h)
  sound_node-same (node.Change k e) env b c h =
      rw (
        env-same code k env b c (agree_left (λ x. in_change k (is_free code x)) (λ x. is_free code x e.0) b c h),
        rests e.0 (changed_env k (number code c) env) b c (agree_right (λ x. in_change k (is_free code x)) (λ x. is_free code x e.0) b c h),
      )
  sound_node-same _ env b c h = refl

abbrev quiet : Means
quiet env bound = silence env.sound_rate

abbrev sound_step : Code → ℕ → (ℕ → Means) → Means
sound_step code e rec = sound_node code (node_at code e) rec

by_turn : (t : Bool) (f : Means) (env : Env) (b c : Bound) → (t ≡ true → f env b ≡ f env c) → (if t then f else quiet) env b ≡ (if t then f else quiet) env c
by_turn true f env b c h = h refl
by_turn false f env b c h = refl

turns-meaning : (code : Code) → IsOrdered code → (left n : ℕ) (env : Env) (b c : Bound) → n < length code.nodes → Agree (λ x. is_free code x n) b c
    → turns quiet (sound_step code) left n env b ≡ turns quiet (sound_step code) left n env c
turns-meaning code ordered zero n env b c h agree = refl
turns-meaning code ordered (suc left) n env b c h agree =
    sound_node-same code (below n quiet (turns quiet (sound_step code) left))
    (λ m from d e k. by_turn (nat_lt m n) (turns quiet (sound_step code) left m) from d e (λ t. turns-meaning code ordered left m from d e (omega (arith, ltb-true m n t)) k))
    (node_at code n) env b c (λ x k. agree x (is_free-is code x n (ordered.each n h) ∙ k))

pub meaning-same : (code : Code) → IsOrdered code → DependsOnFree code
unfolding meaning by_smaller
meaning-same code ordered e env b c h agree = turns-meaning code ordered (e + 1) e env b c h agree
