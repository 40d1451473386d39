-- What an expression makes depends on the names that are free in it, and on those that its parts in turn keep.
use Rattle.std.proofs.Common.{◌≡◌, ℕ, zero, suc, ◌+◌, ◌*◌, ◌<◌, length, Bool, true, false, not, List, [], ◌∷◌, ◌++◌, map, zip, Option, get_or, refl, ap, ◌∙◌, pos, arith}
use Rattle.std.specs.Prelude.{nat_lt, ◌||◌, ◌&&◌, if◌then◌else◌, flat_map}
use Rattle.std.specs.List.{list_any, range_with_len}
use Rattle.std.specs.Option.{unwrap_or}
use Rattle.std.proofs.Math.Path.{fun_ext}
use Rattle.std.proofs.lemmas.Bool.{eq-eqb, ltb-true}
use Rattle.ny_warp.specs.declared.env.Env.{Env}
use Rattle.ny_scope.specs.Scopes.{last_of}
use Rattle.ny_resolve.specs.declared.builtin.Order.TheVariants as order
use Rattle.ny_resolve.specs.declared.term.NameId.{NameId}
use Rattle.ny_resolve.specs.Keys.{same_name}
use Rattle.ny_check.specs.declared.node.Node.{Node}
use Rattle.ny_check.specs.declared.node.Node.TheVariants as node
use Rattle.ny_check.specs.declared.node.Change.{Change}
use Rattle.ny_check.specs.declared.node.Change.TheVariants as change
use Rattle.ny_check.specs.declared.node.ExprId.{ExprId}
use Rattle.ny_check.specs.declared.value.Scalar.{Scalar}
use Rattle.ny_check.specs.declared.value.Value.{Value}
use Rattle.ny_check.specs.declared.value.Value.TheVariants.{Number, Sound}
use Rattle.ny_check.specs.Code.{Code, node_at, function_at, IsBelow, AllBelow, BindsBelow, IsChangeBelow, IsOrdered}
use Rattle.ny_check.specs.Recursion.{below, turns, by_smaller}
use Rattle.ny_check.specs.Values.{scalar_of, scalars_of, is_true, number_of, number_in, test_of}
use Rattle.ny_check.specs.Families.{effect_sound, changed_env}
use Rattle.ny_check.specs.FreeNames.{Agree, in_any, in_block, in_change, free_node, is_free}
use Rattle.ny_check.proofs.Smaller.{below-at, by_smaller-is}
use Rattle.ny_check.proofs.Agreeing.{agree_left, agree_right, agree_push, agree_scalars}
use Rattle.ny_check.proofs.FreeNames.{scalar-same}
use Rattle.ny_check.proofs.OperatorNodes.{waiting}
use Rattle.ny_hands.specs.Kinds.{kind_of_effect}
use Rattle.ny_plan.specs.Rows.{RowSound, Step, given, and_then, each, silent, input}
use Rattle.ny_plan.specs.Units.{Part, leaf_made, row_over, brought, paired, negated, cued, parts_in, parts_together, mixed}
use Rattle.ny_plan.specs.Plan.{Names, Makes, sound_in, value_by, value_of, names_after, sounds_of, part_of, repeated_parts, number, made_at, made}

-- ---- the names that it asks for

-- it is kept by one of these
abbrev pub kept_in : Code → NameId → List ExprId → Bool
kept_in code x [] = false
kept_in code x (e ∷ es) = list_any (same_name x) (get_or code.free e.0 []) || kept_in code x es

-- it is what a repeat counts by
abbrev pub counts : NameId → Node → Bool
counts x (node.Repeat o y k e) = same_name x y
counts x _ = false

abbrev pub asks_node : Code → NameId → Node → (ℕ → Bool) → Bool
asks_node code x at asks = free_node x at asks || (kept_in code x (waiting at) && not (counts x at))

pub asks : Code → NameId → ℕ → Bool
asks code x = by_smaller false (λ e rec. asks_node code x (node_at code e) rec)

-- ---- a node's, by those of the nodes that it names

any-below : (n : ℕ) (f : ℕ → Bool) (es : List ExprId) → AllBelow n es → in_any (below n false f) es ≡ in_any f es
any-below n f [] h = refl
any-below n f (e ∷ es) h = rw (below-at n e.0 false f h.0, any-below n f es h.1)

block-below : (x : NameId) (n : ℕ) (f : ℕ → Bool) (bs : List (NameId × ExprId)) (e : ExprId) → BindsBelow n bs → e.0 < n → in_block x bs e (below n false f) ≡ in_block x bs e f
block-below x n f [] e h k = below-at n e.0 false f k
block-below x n f (b ∷ bs) e h k = rw (below-at n b.1.0 false f h.0, block-below x n f bs e h.1 k)

change-below : (n : ℕ) (f : ℕ → Bool) (c : Change) → IsChangeBelow n c → in_change c (below n false f) ≡ in_change c f
change-below n f (change.By t k) h = below-at n k.0 false f h
change-below n f (change.Warp m) h = refl
change-below n f (change.Rate rated r) h = refl

free_node-below : (fs : _) (x : NameId) (n : ℕ) (f : ℕ → Bool) (at : Node) → IsBelow fs n at → free_node x at (below n false f) ≡ free_node x at f
free_node-below fs x n f (node.Call g es) h = any-below n f es h.0
free_node-below fs x n f (node.Block bs e) h = block-below x n f bs e h.0 h.1
free_node-below fs x n f (node.Pair op a b) h = rw (below-at n a.0 false f h.0, below-at n b.0 false f h.1)
free_node-below fs x n f (node.Div a v) h = below-at n a.0 false f h.0
free_node-below fs x n f (node.Neg a) h = below-at n a.0 false f h
free_node-below fs x n f (node.Compare r a b) h = rw (below-at n a.0 false f h.0, below-at n b.0 false f h.1)
free_node-below fs x n f (node.And a b) h = rw (below-at n a.0 false f h.0, below-at n b.0 false f h.1)
free_node-below fs x n f (node.Or a b) h = rw (below-at n a.0 false f h.0, below-at n b.0 false f h.1)
free_node-below fs x n f (node.Not a) h = below-at n a.0 false f h
free_node-below fs x n f (node.If c a b) h = rw (below-at n c.0 false f h.0, below-at n a.0 false f h.1, below-at n b.0 false f h.2)
free_node-below fs x n f (node.Leaf w es) h = any-below n f es h
free_node-below fs x n f (node.Effect w e es) h = rw (below-at n e.0 false f h.0, any-below n f es h.1)
free_node-below fs x n f (node.Cue e) h = below-at n e.0 false f h
free_node-below fs x n f (node.Mix o es) h = any-below n f es h
free_node-below fs x n f (node.Repeat o y k e) h = rw (below-at n e.0 false f h)
free_node-below fs x n f (node.Change c e) h = rw (change-below n f c h.0, below-at n e.0 false f h.1)
free_node-below fs x n f (node.Vector es) h = any-below n f es h
free_node-below fs x n f _ h = refl

pub asks-is : (code : Code) (x : NameId) (e : ℕ) → IsBelow code.functions e (node_at code e) → asks code x e ≡ asks_node code x (node_at code e) (asks code x)
unfolding asks
asks-is code x e h =
    by_smaller-is false (λ m rec. asks_node code x (node_at code m) rec) e
    ∙ ap (λ b. b || (kept_in code x (waiting (node_at code e)) && not (counts x (node_at code e)))) (free_node-below code.functions x e (asks code x) (node_at code e) h)

-- ---- what is free is asked for

or_first : (a b : Bool) → a ≡ true → a || b ≡ true
or_first true b h = refl
or_first false b h = cc

or_more : (a b c d : Bool) → (a ≡ true → c ≡ true) → (b ≡ true → d ≡ true) → a || b ≡ true → c || d ≡ true
or_more true b c d p q h = or_first c d (p refl)
or_more false b c d p q h = by c (q h)
  where
    by : (c : Bool) → d ≡ true → c || d ≡ true
    by true k = refl
    by false k = k

module _ (f g : ℕ → Bool) (more : (m : ℕ) → f m ≡ true → g m ≡ true) where
  any-more : (es : List ExprId) → in_any f es ≡ true → in_any g es ≡ true
  any-more [] h = h
  any-more (e ∷ es) h = or_more (f e.0) (in_any f es) (g e.0) (in_any g es) (more e.0) (any-more es) h

  under : (b p q : Bool) → (p ≡ true → q ≡ true) → (if b then false else p) ≡ true → (if b then false else q) ≡ true
  under true p q h k = k
  under false p q h k = h k

  block-more : (x : NameId) (bs : List (NameId × ExprId)) (e : ExprId) → in_block x bs e f ≡ true → in_block x bs e g ≡ true
  block-more x [] e h = more e.0 h
  block-more x (b ∷ bs) e h =
      or_more (f b.1.0) (if same_name x b.0 then false else in_block x bs e f) (g b.1.0) (if same_name x b.0 then false else in_block x bs e g) (more b.1.0)
      (under (same_name x b.0) (in_block x bs e f) (in_block x bs e g) (block-more x bs e)) h

  change-more : (c : Change) → in_change c f ≡ true → in_change c g ≡ true
  change-more (change.By t k) h = more k.0 h
  change-more (change.Warp m) h = h
  change-more (change.Rate rated r) h = h

  two-more : (a b : ℕ) → f a || f b ≡ true → g a || g b ≡ true
  two-more a b h = or_more (f a) (f b) (g a) (g b) (more a) (more b) h

  node-more : (x : NameId) (at : Node) → free_node x at f ≡ true → free_node x at g ≡ true
  node-more x (node.Local y) h = h
  node-more x (node.Call k es) h = any-more es h
  node-more x (node.Block bs e) h = block-more x bs e h
  node-more x (node.Pair o a b) h = two-more a.0 b.0 h
  node-more x (node.Div a v) h = more a.0 h
  node-more x (node.Neg a) h = more a.0 h
  node-more x (node.Compare r a b) h = two-more a.0 b.0 h
  node-more x (node.And a b) h = two-more a.0 b.0 h
  node-more x (node.Or a b) h = two-more a.0 b.0 h
  node-more x (node.Not a) h = more a.0 h
  node-more x (node.If c a b) h = or_more (f c.0) (f a.0 || f b.0) (g c.0) (g a.0 || g b.0) (more c.0) (two-more a.0 b.0) h
  node-more x (node.Leaf w es) h = any-more es h
  node-more x (node.Effect w e es) h = or_more (f e.0) (in_any f es) (g e.0) (in_any g es) (more e.0) (any-more es) h
  node-more x (node.Cue e) h = more e.0 h
  node-more x (node.Mix o es) h = any-more es h
  node-more x (node.Repeat o y k e) h = under (same_name x y) (f e.0) (g e.0) (more e.0) h
  node-more x (node.Change c e) h = or_more (in_change c f) (f e.0) (in_change c g) (g e.0) (change-more c) (more e.0) h
  node-more x (node.Vector es) h = any-more es h
  node-more x _ h = h

below-more : (t : Bool) (a b : Bool) → (a ≡ true → b ≡ true) → (if t then a else false) ≡ true → (if t then b else false) ≡ true
below-more true a b h k = h k
below-more false a b h k = k

turns-more : (code : Code) (x : NameId) (left n : ℕ) → turns false (λ e rec. free_node x (node_at code e) rec) left n ≡ true → turns false (λ e rec. asks_node code x (node_at code e) rec) left n ≡ true
turns-more code x zero n h = h
turns-more code x (suc left) n h =
    or_first (free_node x (node_at code n) (below n false (turns false (λ e rec. asks_node code x (node_at code e) rec) left))) (kept_in code x (waiting (node_at code n)) && not (counts x (node_at code n)))
    (node-more (below n false (turns false (λ e rec. free_node x (node_at code e) rec) left)) (below n false (turns false (λ e rec. asks_node code x (node_at code e) rec) left))
    (λ m. below-more (nat_lt m n) (turns false (λ e rec. free_node x (node_at code e) rec) left m) (turns false (λ e rec. asks_node code x (node_at code e) rec) left m) (turns-more code x left m)) x (node_at code n) h)

pub free-asks : (code : Code) (x : NameId) (e : ℕ) → is_free code x e ≡ true → asks code x e ≡ true
unfolding is_free asks by_smaller
free-asks code x e h = turns-more code x (e + 1) e h

-- ---- what is made depends on no other name

abbrev IsRest : Code → (ℕ → Makes) → Type 0
IsRest code f = (m : ℕ) (env : Env) (b c : Names) → Agree (λ x. asks code x m) b c → f m env b ≡ f m env c

agree_free : (code : Code) (e : ℕ) (b c : Names) → Agree (λ x. asks code x e) b c → Agree (λ x. is_free code x e) b c
agree_free code e b c h x k = h x (free-asks code x e k)

number-same : (code : Code) (e : ExprId) (b c : Names) → Agree (λ x. asks code x e.0) b c → number code b e ≡ number code c e
unfolding number_of
number-same code e b c h = ap number_in (scalar-same code e.0 (scalars_of b) (scalars_of c) (agree_scalars (λ x. is_free code x e.0) b c (agree_free code e.0 b c h)))

test-same : (code : Code) (e : ExprId) (b c : Names) → Agree (λ x. asks code x e.0) b c → test_of code e (scalars_of b) ≡ test_of code e (scalars_of c)
unfolding test_of
test-same code e b c h = ap is_true (scalar-same code e.0 (scalars_of b) (scalars_of c) (agree_scalars (λ x. is_free code x e.0) b c (agree_free code e.0 b c h)))

numbers-same : (code : Code) (es : List ExprId) (b c : Names) → Agree (λ x. in_any (asks code x) es) b c → map (number code b) es ≡ map (number code c) es
numbers-same code [] b c h = refl
numbers-same code (e ∷ es) b c h =
    let first = number-same code e b c (agree_left (λ x. asks code x e.0) (λ x. in_any (asks code x) es) b c h) in
    let rest = numbers-same code es b c (agree_right (λ x. asks code x e.0) (λ x. in_any (asks code x) es) b c h) in
    cc

env-same : (code : Code) (k : Change) (env : Env) (b c : Names) → Agree (λ x. in_change k (asks code x)) b c → changed_env k (number code b) env ≡ changed_env k (number code c) env
env-same code (change.By t e) env b c h = rw (number-same code e b c h)
env-same code (change.Warp m) env b c h = refl
env-same code (change.Rate rated r) env b c h = refl

-- what is captured for a list of names
captured-same : (xs : List NameId) (b c : Names) → Agree (λ x. list_any (same_name x) xs) b c → flat_map (λ x. sounds_of (last_of (same_name x) b)) xs ≡ flat_map (λ x. sounds_of (last_of (same_name x) c)) xs
captured-same [] b c h = refl
captured-same (x ∷ xs) b c h =
    let here : last_of (same_name x) b ≡ last_of (same_name x) c = h x (or_first (same_name x x) (list_any (same_name x) xs) (eq-eqb x.0 x.0 refl)) in
    λ i. sounds_of (here i) ++ captured-same xs b c (agree_right (λ y. same_name y x) (λ y. list_any (same_name y) xs) b c h) i

module _ (code : Code) (f : ℕ → Makes) (rests : IsRest code f) where
  value-same : (env : Env) (e : ExprId) (b c : Names) → Agree (λ x. asks code x e.0) b c → value_of code f env b e ≡ value_of code f env c e
  value-same env e b c h =
      ap (λ (s : Scalar). value_by s (f e.0 env b)) (scalar-same code e.0 (scalars_of b) (scalars_of c) (agree_scalars (λ x. is_free code x e.0) b c (agree_free code e.0 b c h)))
      ∙ ap (λ (s : Step RowSound). value_by (scalar_of code e.0 (scalars_of c)) s) (rests e.0 env b c h)

  values-same : (env : Env) (es : List ExprId) (b c : Names) → Agree (λ x. in_any (asks code x) es) b c → each (value_of code f env b) es ≡ each (value_of code f env c) es
  values-same env [] b c h = refl
  values-same env (e ∷ es) b c h =
      let first = value-same env e b c (agree_left (λ x. asks code x e.0) (λ x. in_any (asks code x) es) b c h) in
      let rest = values-same env es b c (agree_right (λ x. asks code x e.0) (λ x. in_any (asks code x) es) b c h) in
      λ i. and_then (first i) (λ v. and_then (rest i) (λ vs. given (v ∷ vs)))

  block-same : (env : Env) (bs : List (NameId × ExprId)) (e : ExprId) (b c : Names) → Agree (λ x. in_block x bs e (asks code x)) b c
      → and_then (names_after code f env bs b) (λ inner. f e.0 env inner) ≡ and_then (names_after code f env bs c) (λ inner. f e.0 env inner)
  block-same env [] e b c h = rests e.0 env b c h
  block-same env (d ∷ bs) e b c h =
      let first = value-same env d.1 b c (agree_left (λ x. asks code x d.1.0) (λ x. if same_name x d.0 then false else in_block x bs e (asks code x)) b c h) in
      let after = fun_ext (λ v. block-same env bs e (b ++ (d.0, v) ∷ []) (c ++ (d.0, v) ∷ [])
      (agree_push (λ x. in_block x bs e (asks code x)) d.0 v b c (agree_right (λ x. asks code x d.1.0) (λ x. if same_name x d.0 then false else in_block x bs e (asks code x)) b c h))) in
      λ i. and_then (first i) (after i)

  -- parts together capture nothing
  sounds-same : (env : Env) (es : List ExprId) (b c : Names) → Agree (λ x. in_any (asks code x) es) b c → each (λ (p : Part). p.sound env) (map (part_of code f b) es) ≡ each (λ (p : Part). p.sound env) (map (part_of code f c) es)
  sounds-same env [] b c h = refl
  sounds-same env (e ∷ es) b c h =
      let first = rests e.0 env b c (agree_left (λ x. asks code x e.0) (λ x. in_any (asks code x) es) b c h) in
      let rest = sounds-same env es b c (agree_right (λ x. asks code x e.0) (λ x. in_any (asks code x) es) b c h) in
      λ i. and_then (first i) (λ s. and_then (rest i) (λ ss. given (s ∷ ss)))

  repeat-sounds-same : (env : Env) (i : NameId) (e : ExprId) (ks : List ℕ) (b c : Names) → Agree (λ x. if same_name x i then false else asks code x e.0) b c
      → each (λ (p : Part). p.sound env) (map (λ k. part_of code f (b ++ (i, Number (pos (k * 1000000))) ∷ []) e) ks) ≡ each (λ (p : Part). p.sound env) (map (λ k. part_of code f (c ++ (i, Number (pos (k * 1000000))) ∷ []) e) ks)
  repeat-sounds-same env i e [] b c h = refl
  repeat-sounds-same env i e (k ∷ ks) b c h =
      let first = rests e.0 env (b ++ (i, Number (pos (k * 1000000))) ∷ []) (c ++ (i, Number (pos (k * 1000000))) ∷ []) (agree_push (λ x. asks code x e.0) i (Number (pos (k * 1000000))) b c h) in
      let rest = repeat-sounds-same env i e ks b c h in
      λ j. and_then (first j) (λ s. and_then (rest j) (λ ss. given (s ∷ ss)))

  -- parts in turn capture what they keep
  part-same : (e : ExprId) (b c : Names) → Agree (λ x. asks code x e.0) b c → Agree (λ x. list_any (same_name x) (get_or code.free e.0 [])) b c → part_of code f b e ≡ part_of code f c e
  part-same e b c h k =
      let sound = fun_ext (λ from. rests e.0 from b c h) in
      let kept = captured-same (get_or code.free e.0 []) b c k in
      λ i. record { sound = sound i; captured = kept i }

  parts-same : (es : List ExprId) (b c : Names) → Agree (λ x. in_any (asks code x) es) b c → Agree (λ x. kept_in code x es) b c → map (part_of code f b) es ≡ map (part_of code f c) es
  parts-same [] b c h k = refl
  parts-same (e ∷ es) b c h k =
      let first = part-same e b c (agree_left (λ x. asks code x e.0) (λ x. in_any (asks code x) es) b c h) (agree_left (λ x. list_any (same_name x) (get_or code.free e.0 [])) (λ x. kept_in code x es) b c k) in
      let rest = parts-same es b c (agree_right (λ x. asks code x e.0) (λ x. in_any (asks code x) es) b c h) (agree_right (λ x. list_any (same_name x) (get_or code.free e.0 [])) (λ x. kept_in code x es) b c k) in
      λ i. first i ∷ rest i

  repeats-same : (i : NameId) (e : ExprId) (ks : List ℕ) (b c : Names) → Agree (λ x. if same_name x i then false else asks code x e.0) b c → Agree (λ x. if same_name x i then false else list_any (same_name x) (get_or code.free e.0 [])) b c
      → map (λ k. part_of code f (b ++ (i, Number (pos (k * 1000000))) ∷ []) e) ks ≡ map (λ k. part_of code f (c ++ (i, Number (pos (k * 1000000))) ∷ []) e) ks
  repeats-same i e [] b c h k = refl
  repeats-same i e (n ∷ ks) b c h k =
      let first = part-same e (b ++ (i, Number (pos (n * 1000000))) ∷ []) (c ++ (i, Number (pos (n * 1000000))) ∷ []) (agree_push (λ x. asks code x e.0) i (Number (pos (n * 1000000))) b c h)
      (agree_push (λ x. list_any (same_name x) (get_or code.free e.0 [])) i (Number (pos (n * 1000000))) b c k) in
      let rest = repeats-same i e ks b c h k in
      λ j. first j ∷ rest j

  -- what is free in the node, and what its parts keep
  agree_node : (at : Node) (b c : Names) → Agree (λ x. asks_node code x at (asks code x)) b c → Agree (λ x. free_node x at (asks code x)) b c
  agree_node at b c h = agree_left (λ x. free_node x at (asks code x)) (λ x. kept_in code x (waiting at) && not (counts x at)) b c h

  kept_counted : (s k : Bool) → (if s then false else k) ≡ true → (k || false) && not s ≡ true
  kept_counted true k h = cc
  kept_counted false true h = refl
  kept_counted false false h = cc

  kept_mix : (k : Bool) → k ≡ true → k && true ≡ true
  kept_mix true h = refl
  kept_mix false h = cc

  agree_parts : (es : List ExprId) (b c : Names) → Agree (λ x. asks_node code x (node.Mix order.InTurn es) (asks code x)) b c → Agree (λ x. kept_in code x es) b c
  agree_parts es b c h x k = agree_right (λ x. in_any (asks code x) es) (λ x. kept_in code x es && true) b c h x (kept_mix (kept_in code x es) k)

  agree_repeat : (y : NameId) (n : ℕ) (e : ExprId) (b c : Names) → Agree (λ x. asks_node code x (node.Repeat order.InTurn y n e) (asks code x)) b c → Agree (λ x. if same_name x y then false else list_any (same_name x) (get_or code.free e.0 [])) b c
  agree_repeat y n e b c h x k =
      agree_right (λ x. if same_name x y then false else asks code x e.0) (λ x. (list_any (same_name x) (get_or code.free e.0 []) || false) && not (same_name x y)) b c h x
      (kept_counted (same_name x y) (list_any (same_name x) (get_or code.free e.0 [])) k)

  together-same : (env : Env) (ps qs : List Part) → each (λ (p : Part). p.sound env) ps ≡ each (λ (p : Part). p.sound env) qs → and_then (parts_together env ps) (mixed env.sound_rate) ≡ and_then (parts_together env qs) (mixed env.sound_rate)
  together-same env ps qs e = λ i. and_then (and_then (e i) (λ ss. and_then (each (brought env.sound_rate) ss) (λ ts. given (map input ts)))) (mixed env.sound_rate)

  made_node-same : (at : Node) (env : Env) (b c : Names) → Agree (λ x. asks_node code x at (asks code x)) b c → made_at code at f env b ≡ made_at code at f env c
  made_node-same (node.Local y) env b c h = ap (λ (o : Option (Value RowSound)). given (sound_in env.sound_rate (unwrap_or o (Sound (silent env.sound_rate))))) (agree_node (node.Local y) b c h y (eq-eqb y.0 y.0 refl))
  made_node-same (node.Call k es) env b c h = ap (λ (s : Step (List (Value RowSound))). and_then s (λ vs. f (function_at code k.0).body.0 env (zip (function_at code k.0).params vs))) (values-same env es b c (agree_node (node.Call k es) b c h))
  made_node-same (node.Block bs e) env b c h = block-same env bs e b c (agree_node (node.Block bs e) b c h)
  made_node-same (node.If k a d) env b c h =
      let free = agree_node (node.If k a d) b c h in
      let more : Agree (λ x. asks code x a.0 || asks code x d.0) b c = agree_right (λ x. asks code x k.0) (λ x. asks code x a.0 || asks code x d.0) b c free in
      let test = test-same code k b c (agree_left (λ x. asks code x k.0) (λ x. asks code x a.0 || asks code x d.0) b c free) in
      let yes_ = rests a.0 env b c (agree_left (λ x. asks code x a.0) (λ x. asks code x d.0) b c more) in
      let no_ = rests d.0 env b c (agree_right (λ x. asks code x a.0) (λ x. asks code x d.0) b c more) in
      λ i. if test i then yes_ i else no_ i
  made_node-same (node.Pair o a d) env b c h =
      let free = agree_node (node.Pair o a d) b c h in
      let first = value-same env a b c (agree_left (λ x. asks code x a.0) (λ x. asks code x d.0) b c free) in
      let second = value-same env d b c (agree_right (λ x. asks code x a.0) (λ x. asks code x d.0) b c free) in
      λ i. and_then (first i) (λ v. and_then (second i) (λ w. paired o env.sound_rate v w))
  made_node-same (node.Neg a) env b c h = ap (λ (s : Step (Value RowSound)). and_then s (negated env.sound_rate)) (value-same env a b c (agree_node (node.Neg a) b c h))
  made_node-same (node.Leaf w es) env b c h = ap (λ ns. leaf_made w env ns) (numbers-same code es b c (agree_node (node.Leaf w es) b c h))
  made_node-same (node.Effect w e es) env b c h =
      let free = agree_node (node.Effect w e es) b c h in
      let part = rests e.0 env b c (agree_left (λ x. asks code x e.0) (λ x. in_any (asks code x) es) b c free) in
      let numbers = numbers-same code es b c (agree_right (λ x. asks code x e.0) (λ x. in_any (asks code x) es) b c free) in
      λ i. and_then (part i) (row_over (kind_of_effect w) (effect_sound w (numbers i)))
  made_node-same (node.Cue e) env b c h = ap (λ (s : Step RowSound). and_then s (cued env)) (rests e.0 env b c (agree_node (node.Cue e) b c h))
  made_node-same (node.Mix order.Together es) env b c h =
      together-same env (map (part_of code f b) es) (map (part_of code f c) es) (sounds-same env es b c (agree_node (node.Mix order.Together es) b c h))
  made_node-same (node.Mix order.InTurn es) env b c h =
      ap (λ ps. and_then (parts_in order.InTurn env ps) (mixed env.sound_rate)) (parts-same es b c (agree_node (node.Mix order.InTurn es) b c h) (agree_parts es b c h))
  made_node-same (node.Repeat order.Together i k e) env b c h =
      together-same env (repeated_parts code f b i k e) (repeated_parts code f c i k e) (repeat-sounds-same env i e (range_with_len 0 k) b c (agree_node (node.Repeat order.Together i k e) b c h))
  made_node-same (node.Repeat order.InTurn i k e) env b c h =
      ap (λ ps. and_then (parts_in order.InTurn env ps) (mixed env.sound_rate)) (repeats-same i e (range_with_len 0 k) b c (agree_node (node.Repeat order.InTurn i k e) b c h) (agree_repeat i k e b c h))
  made_node-same (node.Change k e) env b c h =
      let free = agree_node (node.Change k e) b c h in
      let changed = env-same code k env b c (agree_left (λ x. in_change k (asks code x)) (λ x. asks code x e.0) b c free) in
      ap (λ (from : Env). f e.0 from b) changed ∙ rests e.0 (changed_env k (number code c) env) b c (agree_right (λ x. in_change k (asks code x)) (λ x. asks code x e.0) b c free)
  made_node-same _ env b c h = refl

abbrev quiet : Makes
quiet env names = given (silent env.sound_rate)

abbrev made_step : Code → ℕ → (ℕ → Makes) → Makes
made_step code e rec = made_at code (node_at code e) rec

by_turn : (t : Bool) (f : Makes) (env : Env) (b c : Names) → (t ≡ true → f env b ≡ f env c) → (if t then f else quiet) env b ≡ (if t then f else quiet) env c
by_turn true f env b c h = h refl
by_turn false f env b c h = refl

turns-made : (code : Code) → IsOrdered code → (left n : ℕ) (env : Env) (b c : Names) → n < length code.nodes → Agree (λ x. asks code x n) b c → turns quiet (made_step code) left n env b ≡ turns quiet (made_step code) left n env c
turns-made code ordered zero n env b c h agree = refl
turns-made code ordered (suc left) n env b c h agree =
    made_node-same code (below n quiet (turns quiet (made_step code) left))
    (λ m from d e k. by_turn (nat_lt m n) (turns quiet (made_step code) left m) from d e (λ t. turns-made code ordered left m from d e (omega (arith, ltb-true m n t, h)) k))
    (node_at code n) env b c (λ x k. agree x (asks-is code x n (ordered.each n h) ∙ k))

pub made-same : (code : Code) → IsOrdered code → (e : ℕ) (env : Env) (b c : Names) → e < length code.nodes → Agree (λ x. asks code x e) b c → made code e env b ≡ made code e env c
unfolding made by_smaller
made-same code ordered e env b c h agree = turns-made code ordered (e + 1) e env b c h agree
