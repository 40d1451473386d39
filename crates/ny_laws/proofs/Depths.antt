-- An expression of a table is no deeper than the part that it stands for.
use Rattle.std.proofs.Common.{◌≡◌, ℕ, ◌+◌, ◌<◌, ◌≤◌, max, Bool, true, false, List, [], ◌∷◌, ◌++◌, map, get_or, refl, sym, ap, ◌∙◌, subst, Option, Some, None, cond, pos, arith}
use Rattle.std.specs.Prelude.{ℤ, nat_lt, int_lt, if◌then◌else◌}
use Rattle.std.specs.Option.{unwrap_or}
use Rattle.std.specs.Map.{lookup}
use Rattle.std.proofs.lemmas.Bool.{ltb-true}
use Rattle.std.proofs.lemmas.List.{reverse-append}
use Rattle.ny_scope.specs.Scopes.{last_of}
use Rattle.ny_warp.specs.Maps.{is_rising}
use Rattle.ny_resolve.specs.declared.term.NameId.{NameId}
use Rattle.ny_resolve.specs.declared.term.Term.{Term}
use Rattle.ny_resolve.specs.declared.term.Term.TheVariants.{rolls-Number, rolls-Local, rolls-Global, rolls-Call, rolls-Block, rolls-Apply, rolls-Over, rolls-Repeat, rolls-Nameless, rolls-Warp, rolls-Rate}
use Rattle.ny_resolve.specs.declared.term.Term.TheFolds.{fold-Term, fold-roll-Term, fold_out-Part, fold_out-Bound, map-Term}
use Rattle.ny_resolve.specs.declared.term.Term.TheOpen.{Term-F}
use Rattle.ny_resolve.specs.declared.term.Term.TheViews.{roll-Term}
use Rattle.ny_resolve.specs.declared.term.Part.{Part}
use Rattle.ny_resolve.specs.declared.term.Bound.{Bound}
use Rattle.ny_resolve.specs.Keys.{same_name}
use Rattle.ny_measures.specs.Depth.{Scope, Deep, DeepBind, term_depth, bound_depth, part_depth, depth_of, depth_of_bind, greatest, binds_depth, names_after, value_of}
use Rattle.ny_check.specs.declared.node.Node.{Node}
use Rattle.ny_check.specs.declared.node.Node.TheVariants as node
use Rattle.ny_check.specs.declared.node.Change.TheVariants as change
use Rattle.ny_check.specs.declared.node.ExprId.{ExprId}
use Rattle.ny_check.specs.Code.{Code, node_at, no_node, function_at, IsBelow, AllBelow, BindsBelow, IsOrdered}
use Rattle.ny_check.specs.Recursion.{below}
use Rattle.ny_check.specs.Writing.{writing, kept_names, is_seq, is_in_turn, operator_node, quotient_node, warp_node, call_node, global_node, points_of}
use Rattle.ny_check.proofs.Smaller.{below-at, by_smaller-is}
use Rattle.ny_laws.proofs.OperatorShapes.{operator_deep}
use Rattle.ny_laws.specs.Standing.{IsAt, Stands, EachStands, BindsStand, body_before}
use Rattle.ny_laws.specs.Standing as standing
use Rattle.ny_laws.specs.Measures.{Depths, deepest, depths_after, deepest_bind, depth_node, depth_at}

-- ---- a node by those that it names

abbrev none_deep : Depths → ℕ
none_deep vs = 0

deepest-below : (n : ℕ) (f : ℕ → Depths → ℕ) (es : List ExprId) (vs : Depths) → AllBelow n es → deepest (below n none_deep f) es vs ≡ deepest f es vs
deepest-below n f [] vs h = refl
deepest-below n f (e ∷ es) vs h = rw (below-at n e.0 none_deep f h.0, deepest-below n f es vs h.1)

after-below : (n : ℕ) (f : ℕ → Depths → ℕ) (bs : List (NameId × ExprId)) (vs : Depths) → BindsBelow n bs → depths_after (below n none_deep f) bs vs ≡ depths_after f bs vs
after-below n f [] vs h = refl
after-below n f (b ∷ bs) vs h = rw (below-at n b.1.0 none_deep f h.0, after-below n f bs (vs ++ (b.0, f b.1.0 vs) ∷ []) h.1)

binds-below : (n : ℕ) (f : ℕ → Depths → ℕ) (bs : List (NameId × ExprId)) (vs : Depths) → BindsBelow n bs → deepest_bind (below n none_deep f) bs vs ≡ deepest_bind f bs vs
binds-below n f [] vs h = refl
binds-below n f (b ∷ bs) vs h = rw (below-at n b.1.0 none_deep f h.0, binds-below n f bs (vs ++ (b.0, f b.1.0 vs) ∷ []) h.1)

deeper : (n : ℕ) (f : ℕ → Depths → ℕ) (es : List ExprId) (vs : Depths) → AllBelow n es → 1 + deepest (below n none_deep f) es vs ≡ 1 + deepest f es vs
deeper n f es vs h = ap (λ (k : ℕ). 1 + k) (deepest-below n f es vs h)

depth_node-below : (code : Code) (n : ℕ) (f : ℕ → Depths → ℕ) (at : Node) (vs : Depths) → IsBelow code.functions n at → depth_node code at (below n none_deep f) vs ≡ depth_node code at f vs
depth_node-below code n f (node.Number v) vs h = refl
depth_node-below code n f (node.Local x) vs h = refl
depth_node-below code n f (node.Global g) vs h = refl
depth_node-below code n f (node.Call g es) vs h = rw (deepest-below n f es vs h.0, below-at n (function_at code g.0).body.0 none_deep f h.2)
depth_node-below code n f (node.Block bs v) vs h = rw (binds-below n f bs vs h.0, after-below n f bs vs h.0, below-at n v.0 none_deep f h.1)
depth_node-below code n f (node.Repeat o x k a) vs h = rw (below-at n a.0 none_deep f h)
depth_node-below code n f (node.Pair op a b) vs h = deeper n f (a ∷ b ∷ []) vs (h.0, (h.1, tt))
depth_node-below code n f (node.Div a v) vs h = deeper n f (a ∷ []) vs (h.0, tt)
depth_node-below code n f (node.Neg a) vs h = deeper n f (a ∷ []) vs (h, tt)
depth_node-below code n f (node.Compare r a b) vs h = deeper n f (a ∷ b ∷ []) vs (h.0, (h.1, tt))
depth_node-below code n f (node.And a b) vs h = deeper n f (a ∷ b ∷ []) vs (h.0, (h.1, tt))
depth_node-below code n f (node.Or a b) vs h = deeper n f (a ∷ b ∷ []) vs (h.0, (h.1, tt))
depth_node-below code n f (node.Not a) vs h = deeper n f (a ∷ []) vs (h, tt)
depth_node-below code n f (node.If c a b) vs h = deeper n f (c ∷ a ∷ b ∷ []) vs (h.0, (h.1, (h.2, tt)))
depth_node-below code n f (node.Leaf w es) vs h = deeper n f es vs h
depth_node-below code n f (node.Effect w a es) vs h = deeper n f (a ∷ es) vs (h.0, h.1)
depth_node-below code n f (node.Cue a) vs h = deeper n f (a ∷ []) vs (h, tt)
depth_node-below code n f (node.Mix o es) vs h = deeper n f es vs h
depth_node-below code n f (node.Change (change.By t k) a) vs h = deeper n f (k ∷ a ∷ []) vs (h.0, (h.1, tt))
depth_node-below code n f (node.Change (change.Warp ps) a) vs h = deeper n f (a ∷ []) vs (h.1, tt)
depth_node-below code n f (node.Change (change.Rate r q) a) vs h = deeper n f (a ∷ []) vs (h.1, tt)
depth_node-below code n f (node.Vector es) vs h = deeper n f es vs h

depth_at-is : (code : Code) (e : ℕ) (vs : Depths) → IsBelow code.functions e (node_at code e) → depth_at code e vs ≡ depth_node code (node_at code e) (depth_at code) vs
unfolding depth_at
depth_at-is code e vs h =
    ap (λ (f : Depths → ℕ). f vs) (by_smaller-is (λ us. 0) (λ m rec. depth_node code (node_at code m) rec) e) ∙ depth_node-below code e (depth_at code) (node_at code e) vs h

-- ---- names

-- each name is no deeper
abbrev pub Under : Depths → Depths → Type 0
Under vs ws = (x : NameId) → value_of x vs ≤ value_of x ws

value_push : (x y : NameId) (vs : Depths) (n : ℕ) → value_of x (vs ++ (y, n) ∷ []) ≡ (if same_name x y then n else value_of x vs)
value_push x y vs n = ap (λ (w : Depths). unwrap_or (lookup (same_name x) w) 0) (reverse-append vs ((y, n) ∷ [])) ∙ by (same_name x y)
  where
    by : (b : Bool) → unwrap_or (cond b (Some n) (last_of (same_name x) vs)) 0 ≡ (if b then n else value_of x vs)
    by true = refl
    by false = refl

pub under_push : (vs ws : Depths) (y : NameId) (n m : ℕ) → Under vs ws → n ≤ m → Under (vs ++ (y, n) ∷ []) (ws ++ (y, m) ∷ [])
under_push vs ws y n m h le x = by (same_name x y) (value_push x y vs n) (value_push x y ws m)
  where
    by : (b : Bool) → value_of x (vs ++ (y, n) ∷ []) ≡ (if b then n else value_of x vs) → value_of x (ws ++ (y, m) ∷ []) ≡ (if b then m else value_of x ws)
        → value_of x (vs ++ (y, n) ∷ []) ≤ value_of x (ws ++ (y, m) ∷ [])
    by true first second = omega (arith, first, second, le)
    by false first second = let before = h x in omega (arith, first, second, before)

-- ---- terms

abbrev depth_term : Term → Deep
depth_term = fold-Term Deep DeepBind Deep term_depth bound_depth part_depth

module _ (code : Code) (ordered : IsOrdered code) (here : ℕ) (known : List ℕ) (bodies : (n : ℕ) → n < here → depth_at code (function_at code n).body.0 [] ≤ get_or known n 0) where
  abbrev d : ℕ → Depths → ℕ
  d = depth_at code

  abbrev scope : Depths → Scope
  scope ws = record { values = ws; declared = known }

  by_term : (p : Part) (y : Term-F Term Bound Part) (id : ℕ) (n : Node) (names : List NameId) (vs ws : Depths) → p.term ≡ roll-Term y → IsAt code id n names
      → depth_node code n (depth_at code) vs ≤ term_depth (map-Term Term Bound Part Deep DeepBind Deep depth_term depth_of_bind depth_of y) (scope ws) → depth_at code id vs ≤ depth_of p (scope ws)
  by_term p y id n names vs ws is at h =
      let of_part : depth_of p (scope ws) ≡ term_depth (map-Term Term Bound Part Deep DeepBind Deep depth_term depth_of_bind depth_of y) (scope ws) =
      ap (λ (f : Deep). f (scope ws)) (fold_out-Part Deep DeepBind Deep term_depth bound_depth part_depth p ∙ ap depth_term is ∙ fold-roll-Term Deep DeepBind Deep term_depth bound_depth part_depth y) in
      let of_node : depth_at code id vs ≡ depth_node code n (depth_at code) vs =
      depth_at-is code id vs (ordered.each id at.within) ∙ ap (λ (m : Node). depth_node code m (depth_at code) vs) at.node in
      omega (arith, of_part, of_node, h)

  nameless_deep : (p e : Part) (k : ℕ) (ws : Depths) → p.term ≡ roll-Term (Term-F.Nameless e) → k ≤ depth_of e (scope ws) → k ≤ depth_of p (scope ws)
  nameless_deep p e k ws is h =
      let of_part : depth_of p (scope ws) ≡ 1 + depth_of e (scope ws) =
      ap (λ (f : Deep). f (scope ws)) (fold_out-Part Deep DeepBind Deep term_depth bound_depth part_depth p ∙ ap depth_term is ∙ fold-roll-Term Deep DeepBind Deep term_depth bound_depth part_depth (Term-F.Nameless e)) in
      omega (arith, of_part, h)

  global_deep : (o : Option ExprId) (vs : Depths) → depth_node code (global_node o) d vs ≤ 1
  global_deep (Some e) vs = omega arith
  global_deep None vs = omega arith

  call_deep : (n : ℕ) (ids : List ExprId) (k : ℕ) (vs : Depths) → deepest d ids vs ≤ k → depth_node code (call_node n (body_before code here n) ids) d vs ≤ 1 + k + get_or known n 0
  call_deep n ids k vs h = by (nat_lt n here) refl
    where
      by : (b : Bool) → nat_lt n here ≡ b → depth_node code (call_node n (if b then Some (function_at code n).body else None) ids) d vs ≤ 1 + k + get_or known n 0
      by true is = let body = bodies n (ltb-true n here is) in omega (arith, h, body)
      by false is = omega arith

  over_deep : (e : ExprId) (v : ℤ) (k : ℕ) (vs : Depths) → d e.0 vs ≤ k → depth_node code (quotient_node e v) d vs ≤ 1 + max k 1
  over_deep e v k vs h = by (int_lt (pos 0) v)
    where
      by : (b : Bool) → depth_node code (if b then node.Div e v else no_node) d vs ≤ 1 + max k 1
      by true = omega (arith, h)
      by false = omega arith

  warp_deep : (us : List ℤ) (e : ExprId) (k : ℕ) (vs : Depths) → d e.0 vs ≤ k → depth_node code (warp_node us e) d vs ≤ 1 + max 1 k
  warp_deep us e k vs h = by (is_rising (points_of us))
    where
      by : (b : Bool) → depth_node code (if b then node.Change (change.Warp (points_of us)) e else no_node) d vs ≤ 1 + max 1 k
      by true = omega (arith, h)
      by false = omega arith

  depth-bind : (b : Bound) → depth_of_bind b ≡ record { name = b.name; value = depth_of b.value }
  depth-bind b = fold_out-Bound Deep DeepBind Deep term_depth bound_depth part_depth b

  -- binds, and the names after them
  abbrev BindsDeep : List DeepBind → List (NameId × ExprId) → Depths → Depths → Type 0
  BindsDeep bs binds vs ws =
      (deepest_bind (depth_at code) binds vs ≤ binds_depth bs (scope ws)) × Under (depths_after (depth_at code) binds vs) (names_after bs (scope ws))

  one_more : (b : Bound) (bs : List DeepBind) (id : ExprId) (binds : List (NameId × ExprId)) (vs ws : Depths) → depth_at code id.0 vs ≤ depth_of b.value (scope ws)
      → BindsDeep bs binds (vs ++ (b.name, depth_at code id.0 vs) ∷ []) (ws ++ (b.name, depth_of b.value (scope ws)) ∷ []) → BindsDeep (depth_of_bind b ∷ bs) ((b.name, id) ∷ binds) vs ws
  one_more b bs id binds vs ws first rest =
      subst (λ (c : DeepBind). BindsDeep (c ∷ bs) ((b.name, id) ∷ binds) vs ws) (sym (depth-bind b)) (let greatest_rest = rest.0 in (omega (arith, first, greatest_rest), rest.1))

  mutual
    pub deep : (names : List NameId) (p : Part) (id : ℕ) → Stands code here names p id → (vs ws : Depths) → Under vs ws → depth_at code id vs ≤ depth_of p (scope ws)
    deep names p id (standing.number _ _ _ v is at) vs ws h = by_term p (Term-F.Number v) id (node.Number v) names vs ws (is ∙ sym (rolls-Number v)) at (omega arith)
    deep names p id (standing.local _ _ _ x is at) vs ws h =
        let value = h x in by_term p (Term-F.Local x) id (node.Local x) names vs ws (is ∙ sym (rolls-Local x)) at (omega (arith, value))
    deep names p id (standing.global _ _ _ n is at) vs ws h =
        by_term p (Term-F.Global n) id (global_node (body_before code here n)) names vs ws (is ∙ sym (rolls-Global n)) at (global_deep (body_before code here n) vs)
    deep names p id (standing.call _ _ _ n es ids is each at) vs ws h =
        by_term p (Term-F.Call n es) id (call_node n (body_before code here n) ids) names vs ws (is ∙ sym (rolls-Call n es)) at
        (call_deep n ids (greatest (map depth_of es) (scope ws)) vs (deep_each false es ids each vs ws h))
    deep names p id (standing.block _ _ _ bs e binds v is each value at) vs ws h =
        let all = deep_binds bs binds each vs ws h in
        let first = all.0 in
        let last = deep [] e v.0 value (depths_after (depth_at code) binds vs) (names_after (map depth_of_bind bs) (scope ws)) all.1 in
        by_term p (Term-F.Block bs e) id (node.Block binds v) names vs ws (is ∙ sym (rolls-Block bs e)) at (omega (arith, first, last))
    deep names p id (standing.apply _ _ _ o es ids is each at) vs ws h =
        let first = deep_each (is_seq o) es ids each vs ws h in
        let last = operator_deep code d vs o ids in
        by_term p (Term-F.Apply o es) id (operator_node o ids) names vs ws (is ∙ sym (rolls-Apply o es)) at (omega (arith, first, last))
    deep names p id (standing.over _ _ _ a v e is one at) vs ws h =
        by_term p (Term-F.Over a v) id (quotient_node e v) names vs ws (is ∙ sym (rolls-Over a v)) at (over_deep e v (depth_of a (scope ws)) vs (deep [] a e.0 one vs ws h))
    deep names p id (standing.repeat _ _ _ o x n e i is one at) vs ws h =
        let part = deep (kept_names (is_in_turn o) (writing e).uses) e i.0 one (vs ++ (x, 0) ∷ []) (ws ++ (x, 0) ∷ []) (under_push vs ws x 0 0 h (omega arith)) in
        by_term p (Term-F.Repeat o x n e) id (node.Repeat o x n i) names vs ws (is ∙ sym (rolls-Repeat o x n e)) at (omega (arith, part))
    deep names p id (standing.nameless _ _ _ e is one) vs ws h = nameless_deep p e (depth_at code id vs) ws (is ∙ sym (rolls-Nameless e)) (deep names e id one vs ws h)
    deep names p id (standing.warp _ _ _ us e i is one at) vs ws h =
        by_term p (Term-F.Warp us e) id (warp_node us i) names vs ws (is ∙ sym (rolls-Warp us e)) at (warp_deep us i (depth_of e (scope ws)) vs (deep [] e i.0 one vs ws h))
    deep names p id (standing.rate _ _ _ a r e i is one at) vs ws h =
        let part = deep [] e i.0 one vs ws h in
        by_term p (Term-F.Rate a r e) id (node.Change (change.Rate a r) i) names vs ws (is ∙ sym (rolls-Rate a r e)) at (omega (arith, part))

    deep_each : (keeps : Bool) (es : List Part) (ids : List ExprId) → EachStands code here keeps es ids → (vs ws : Depths) → Under vs ws
        → deepest (depth_at code) ids vs ≤ greatest (map depth_of es) (scope ws)
    deep_each keeps es ids (standing.no_part _) vs ws h = omega arith
    deep_each keeps es ids (standing.one_part _ e fs id more one rest) vs ws h =
        let first = deep (kept_names keeps (writing e).uses) e id.0 one vs ws h in
        let last = deep_each keeps fs more rest vs ws h in omega (arith, first, last)

    deep_binds : (bs : List Bound) (binds : List (NameId × ExprId)) → BindsStand code here bs binds → (vs ws : Depths) → Under vs ws → BindsDeep (map depth_of_bind bs) binds vs ws
    deep_binds bs binds standing.no_bind vs ws h = (omega arith, h)
    deep_binds bs binds (standing.one_bind b cs id more one rest) vs ws h =
        let first = deep [] b.value id.0 one vs ws h in
        one_more b (map depth_of_bind cs) id more vs ws first
        (deep_binds cs more rest (vs ++ (b.name, depth_at code id.0 vs) ∷ []) (ws ++ (b.name, depth_of b.value (scope ws)) ∷ [])
        (under_push vs ws b.name (depth_at code id.0 vs) (depth_of b.value (scope ws)) h first))
