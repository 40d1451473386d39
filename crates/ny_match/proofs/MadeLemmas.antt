-- What an expression makes at each kind of node, where the nodes named stand before it.
use Rattle.std.proofs.Common.{◌≡◌, ℕ, ◌<◌, if◌then◌else◌, List, [], ◌∷◌, ◌++◌, map, zip, refl, ap, ◌∙◌}
use Rattle.ny_warp.specs.declared.env.Env.{Env}
use Rattle.ny_resolve.specs.declared.term.NameId.{NameId}
use Rattle.ny_check.specs.declared.node.Node.{Node}
use Rattle.ny_check.specs.declared.node.Node.TheVariants as node
use Rattle.ny_check.specs.declared.node.ExprId.{ExprId}
use Rattle.ny_check.specs.Code.{Code, node_at, function_at, IsBelow, AllBelow, BindsBelow}
use Rattle.ny_check.specs.Recursion.{below}
use Rattle.ny_check.specs.Values.{scalar_of, scalars_of, test_of}
use Rattle.ny_check.specs.Families.{effect_sound, changed_env}
use Rattle.ny_check.proofs.Smaller.{below-at, by_smaller-is}
use Rattle.ny_hands.specs.Kinds.{kind_of_effect}
use Rattle.ny_plan.specs.Rows.{given, and_then, each, silent}
use Rattle.ny_plan.specs.Units.{row_over, paired, negated, cued, parts_in, mixed}
use Rattle.ny_plan.specs.Plan.{Names, Makes, Plays, value_by, value_of, names_after, part_of, repeated_parts, number, made_at, made, played_at, played}

module _ (code : Code) (n : ℕ) (other : Makes) (f : ℕ → Makes) where
  value-below : (env : Env) (names : Names) (e : ExprId) → e.0 < n → value_of code (below n other f) env names e ≡ value_of code f env names e
  value-below env names e h = ap (λ (g : Makes). value_by (scalar_of code e.0 (scalars_of names)) (g env names)) (below-at n e.0 other f h)

  values-below : (env : Env) (names : Names) (es : List ExprId) → AllBelow n es → each (value_of code (below n other f) env names) es ≡ each (value_of code f env names) es
  values-below env names [] h = refl
  values-below env names (e ∷ es) h = λ i. and_then (value-below env names e h.0 i) (λ v. and_then (values-below env names es h.1 i) (λ vs. given (v ∷ vs)))

  names-below : (env : Env) (bs : List (NameId × ExprId)) (names : Names) → BindsBelow n bs → names_after code (below n other f) env bs names ≡ names_after code f env bs names
  names-below env [] names h = refl
  names-below env (b ∷ bs) names h = λ i. and_then (value-below env names b.1 h.0 i) (λ v. names-below env bs (names ++ (b.0, v) ∷ []) h.1 i)

  parts-below : (names : Names) (es : List ExprId) → AllBelow n es → map (part_of code (below n other f) names) es ≡ map (part_of code f names) es
  parts-below names [] h = refl
  parts-below names (e ∷ es) h = λ i. part_of code (λ k. below-at n e.0 other f h.0 i) names e ∷ parts-below names es h.1 i

  repeats-below : (names : Names) (i : NameId) (count : ℕ) (e : ExprId) → e.0 < n → repeated_parts code (below n other f) names i count e ≡ repeated_parts code f names i count e
  repeats-below names i count e h = ap (λ (g : Makes). repeated_parts code (λ _. g) names i count e) (below-at n e.0 other f h)

  pub made_at-below : (at : Node) (env : Env) (names : Names) → IsBelow code.functions n at → made_at code at (below n other f) env names ≡ made_at code at f env names
  made_at-below (node.Call g es) env names h = λ i. and_then (values-below env names es h.0 i) (λ vs. below-at n (function_at code g.0).body.0 other f h.2 i env (zip (function_at code g.0).params vs))
  made_at-below (node.Block bs e) env names h = λ i. and_then (names-below env bs names h.0 i) (λ inner. below-at n e.0 other f h.1 i env inner)
  made_at-below (node.If c a b) env names h = λ i. if test_of code c (scalars_of names) then below-at n a.0 other f h.1 i env names else below-at n b.0 other f h.2 i env names
  made_at-below (node.Pair op a b) env names h = λ i. and_then (value-below env names a h.0 i) (λ v. and_then (value-below env names b h.1 i) (λ w. paired op env.sound_rate v w))
  made_at-below (node.Neg a) env names h = λ i. and_then (value-below env names a h i) (negated env.sound_rate)
  made_at-below (node.Effect w e es) env names h = λ i. and_then (below-at n e.0 other f h.0 i env names) (row_over (kind_of_effect w) (effect_sound w (map (number code names) es)))
  made_at-below (node.Cue e) env names h = λ i. and_then (below-at n e.0 other f h i env names) (cued env)
  made_at-below (node.Mix o es) env names h = ap (λ ps. and_then (parts_in o env ps) (mixed env.sound_rate)) (parts-below names es h)
  made_at-below (node.Repeat o x k e) env names h = ap (λ ps. and_then (parts_in o env ps) (mixed env.sound_rate)) (repeats-below names x k e h)
  made_at-below (node.Change c e) env names h = λ i. below-at n e.0 other f h.1 i (changed_env c (number code names) env) names
  made_at-below _ env names h = refl

-- what an expression makes at a node, with what the nodes before it make
pub made-is : (code : Code) (e : ℕ) (env : Env) (names : Names) → IsBelow code.functions e (node_at code e) → made code e env names ≡ made_at code (node_at code e) (made code) env names
unfolding made
made-is code e env names h =
    ap (λ (g : Makes). g env names) (by_smaller-is (λ (env : Env) (names : Names). given (silent env.sound_rate)) (λ m rec. made_at code (node_at code m) rec) e)
    ∙ made_at-below code e (λ env names. given (silent env.sound_rate)) (made code) (node_at code e) env names h

-- ---- what is played

played_at-below : (code : Code) (e : ℕ) (other : Plays) (f : ℕ → Plays) (at : Node) (env : Env) (names : Names) → IsBelow code.functions e at → played_at code e at (below e other f) env names ≡ played_at code e at f env names
played_at-below code e other f (node.Call g es) env names h = λ i. and_then (each (value_of code (made code) env names) es) (λ vs. below-at e (function_at code g.0).body.0 other f h.2 i env (zip (function_at code g.0).params vs))
played_at-below code e other f (node.Block bs a) env names h = λ i. and_then (names_after code (made code) env bs names) (λ inner. below-at e a.0 other f h.1 i env inner)
played_at-below code e other f (node.If c a b) env names h = λ i. if test_of code c (scalars_of names) then below-at e a.0 other f h.1 i env names else below-at e b.0 other f h.2 i env names
played_at-below code e other f _ env names h = refl

pub played-is : (code : Code) (e : ℕ) (env : Env) (names : Names) → IsBelow code.functions e (node_at code e) → played code e env names ≡ played_at code e (node_at code e) (played code) env names
unfolding played
played-is code e env names h =
    ap (λ (g : Plays). g env names) (by_smaller-is (λ (env : Env) (names : Names). given []) (λ m rec. played_at code m (node_at code m) rec) e)
    ∙ played_at-below code e (λ env names. given []) (played code) (node_at code e) env names h
