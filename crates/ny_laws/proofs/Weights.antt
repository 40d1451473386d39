-- An expression of a table weighs no more than the part that it stands for.
use Rattle.std.proofs.Common.{◌≡◌, ℕ, ◌+◌, ◌*◌, ◌<◌, ◌≤◌, Bool, true, false, List, [], ◌∷◌, map, length, get_or, refl, sym, ap, ◌∙◌, Option, Some, None, pos, arith}
use Rattle.std.specs.Prelude.{ℤ, nat_lt, int_lt, if◌then◌else◌}
use Rattle.std.proofs.lemmas.Bool.{ltb-true}
use Rattle.std.proofs.Math.Nat.{mul-le-mul_left}
use Rattle.ny_warp.specs.Maps.{is_rising}
use Rattle.ny_resolve.specs.declared.term.NameId.{NameId}
use Rattle.ny_resolve.specs.declared.term.Term.{Term}
use Rattle.ny_resolve.specs.declared.term.Term.TheVariants.{rolls-Number, rolls-Local, rolls-Global, rolls-Call, rolls-Block, rolls-Apply, rolls-Over, rolls-Repeat, rolls-Nameless, rolls-Warp, rolls-Rate}
use Rattle.ny_resolve.specs.declared.term.Term.TheFolds.{fold-Term, fold-roll-Term, fold_out-Part, fold_out-Bound, map-Term}
use Rattle.ny_resolve.specs.declared.term.Term.TheOpen.{Term-F}
use Rattle.ny_resolve.specs.declared.term.Term.TheViews.{roll-Term}
use Rattle.ny_resolve.specs.declared.term.Part.{Part}
use Rattle.ny_resolve.specs.declared.term.Bound.{Bound}
use Rattle.ny_measures.specs.Weight.{Weighed, term_weight, bound_weight, part_weight, weight_of, weight_of_bind}
use Rattle.ny_measures.specs.Weight as tree
use Rattle.ny_check.specs.declared.node.Node.{Node}
use Rattle.ny_check.specs.declared.node.Node.TheVariants as node
use Rattle.ny_check.specs.declared.node.Change.{Change}
use Rattle.ny_check.specs.declared.node.Change.TheVariants as change
use Rattle.ny_check.specs.declared.node.ExprId.{ExprId}
use Rattle.ny_check.specs.declared.node.Function.{Function}
use Rattle.ny_check.specs.Code.{Code, node_at, no_node, function_at, IsBelow, AllBelow, BindsBelow, IsChangeBelow, IsOrdered}
use Rattle.ny_check.specs.Recursion.{below}
use Rattle.ny_check.specs.Writing.{writing, kept_names, is_seq, is_in_turn, operator_node, quotient_node, warp_node, call_node, global_node, points_of}
use Rattle.ny_check.proofs.Smaller.{below-at, by_smaller-is}
use Rattle.ny_laws.proofs.OperatorShapes.{operator_weighs}
use Rattle.ny_laws.specs.Standing.{IsAt, Stands, EachStands, BindsStand, body_before}
use Rattle.ny_laws.specs.Standing as standing
use Rattle.ny_laws.specs.Reached.{operands}
use Rattle.ny_laws.specs.Measures.{total, total_binds, change_weight, weight_node, weight_at}

-- ---- a node by those that it names

pub operands_below : (fs : List Function) (n : ℕ) (at : Node) → IsBelow fs n at → AllBelow n (operands at)
operands_below fs n (node.Number v) h = tt
operands_below fs n (node.Local x) h = tt
operands_below fs n (node.Global g) h = tt
operands_below fs n (node.Call f es) h = h.0
operands_below fs n (node.Block bs v) h = tt
operands_below fs n (node.Pair op a b) h = (h.0, (h.1, tt))
operands_below fs n (node.Div a v) h = (h.0, tt)
operands_below fs n (node.Neg a) h = (h, tt)
operands_below fs n (node.Compare r a b) h = (h.0, (h.1, tt))
operands_below fs n (node.And a b) h = (h.0, (h.1, tt))
operands_below fs n (node.Or a b) h = (h.0, (h.1, tt))
operands_below fs n (node.Not a) h = (h, tt)
operands_below fs n (node.If c a b) h = (h.0, (h.1, (h.2, tt)))
operands_below fs n (node.Leaf w es) h = h
operands_below fs n (node.Effect w a es) h = (h.0, h.1)
operands_below fs n (node.Cue a) h = (h, tt)
operands_below fs n (node.Mix o es) h = h
operands_below fs n (node.Repeat o x k a) h = tt
operands_below fs n (node.Change (change.By t k) a) h = (h.0, (h.1, tt))
operands_below fs n (node.Change (change.Warp ps) a) h = (h.1, tt)
operands_below fs n (node.Change (change.Rate r q) a) h = (h.1, tt)
operands_below fs n (node.Vector es) h = h

total-below : (n : ℕ) (f : ℕ → ℕ) (es : List ExprId) → AllBelow n es → total (below n 0 f) es ≡ total f es
total-below n f [] h = refl
total-below n f (e ∷ es) h = rw (below-at n e.0 0 f h.0, total-below n f es h.1)

binds-below : (n : ℕ) (f : ℕ → ℕ) (bs : List (NameId × ExprId)) → BindsBelow n bs → total_binds (below n 0 f) bs ≡ total_binds f bs
binds-below n f [] h = refl
binds-below n f (b ∷ bs) h = rw (below-at n b.1.0 0 f h.0, binds-below n f bs h.1)

change-below : (n : ℕ) (f : ℕ → ℕ) (c : Change) → IsChangeBelow n c → change_weight c (below n 0 f) ≡ change_weight c f
change-below n f (change.By t k) h = below-at n k.0 0 f h
change-below n f (change.Warp ps) h = refl
change-below n f (change.Rate a r) h = refl

abbrev Summed : ℕ → (ℕ → ℕ) → List ExprId → Type 0
Summed n f es = 1 + total (below n 0 f) es ≡ 1 + total f es

summed : (n : ℕ) (f : ℕ → ℕ) (es : List ExprId) → AllBelow n es → Summed n f es
summed n f es h = ap (λ (k : ℕ). 1 + k) (total-below n f es h)

weight_node-below : (code : Code) (n : ℕ) (f : ℕ → ℕ) (at : Node) → IsBelow code.functions n at → weight_node code at (below n 0 f) ≡ weight_node code at f
weight_node-below code n f (node.Number v) h = refl
weight_node-below code n f (node.Local x) h = refl
weight_node-below code n f (node.Global g) h = refl
weight_node-below code n f (node.Call g es) h = rw (total-below n f es h.0, below-at n (function_at code g.0).body.0 0 f h.2)
weight_node-below code n f (node.Block bs v) h = rw (binds-below n f bs h.0, below-at n v.0 0 f h.1)
weight_node-below code n f (node.Div a v) h = rw (below-at n a.0 0 f h.0)
weight_node-below code n f (node.Repeat o x k a) h = rw (below-at n a.0 0 f h)
weight_node-below code n f (node.Change c a) h = rw (change-below n f c h.0, below-at n a.0 0 f h.1)
weight_node-below code n f (node.Pair op a b) h = summed n f (a ∷ b ∷ []) (h.0, (h.1, tt))
weight_node-below code n f (node.Neg a) h = summed n f (a ∷ []) (h, tt)
weight_node-below code n f (node.Compare r a b) h = summed n f (a ∷ b ∷ []) (h.0, (h.1, tt))
weight_node-below code n f (node.And a b) h = summed n f (a ∷ b ∷ []) (h.0, (h.1, tt))
weight_node-below code n f (node.Or a b) h = summed n f (a ∷ b ∷ []) (h.0, (h.1, tt))
weight_node-below code n f (node.Not a) h = summed n f (a ∷ []) (h, tt)
weight_node-below code n f (node.If c a b) h = summed n f (c ∷ a ∷ b ∷ []) (h.0, (h.1, (h.2, tt)))
weight_node-below code n f (node.Leaf w es) h = summed n f es h
weight_node-below code n f (node.Effect w a es) h = summed n f (a ∷ es) (h.0, h.1)
weight_node-below code n f (node.Cue a) h = summed n f (a ∷ []) (h, tt)
weight_node-below code n f (node.Mix o es) h = summed n f es h
weight_node-below code n f (node.Vector es) h = summed n f es h

pub weight_at-is : (code : Code) (e : ℕ) → IsBelow code.functions e (node_at code e) → weight_at code e ≡ weight_node code (node_at code e) (weight_at code)
unfolding weight_at
weight_at-is code e h =
    by_smaller-is 0 (λ m rec. weight_node code (node_at code m) rec) e ∙ weight_node-below code e (weight_at code) (node_at code e) h

-- ---- terms

abbrev weight_term : Term → Weighed
weight_term = fold-Term Weighed Weighed Weighed term_weight bound_weight part_weight

pub points_count : (vs : List ℤ) → 2 * length (points_of vs) ≤ length vs
points_count [] = omega arith
points_count (v ∷ []) = omega arith
points_count (x ∷ y ∷ vs) = let rest = points_count vs in omega (arith, rest)

times_more : (n a b : ℕ) → a ≤ b → n * a ≤ n * b
times_more n a b h = mul-le-mul_left n h

module _ (code : Code) (ordered : IsOrdered code) (here : ℕ) (known : List ℕ) (bodies : (n : ℕ) → n < here → weight_at code (function_at code n).body.0 ≤ get_or known n 0) where
  abbrev w : ℕ → ℕ
  w = weight_at code

  by_term : (p : Part) (y : Term-F Term Bound Part) (id : ℕ) (n : Node) (names : List NameId) → p.term ≡ roll-Term y → IsAt code id n names
      → weight_node code n (weight_at code) ≤ term_weight (map-Term Term Bound Part Weighed Weighed Weighed weight_term weight_of_bind weight_of y) known → weight_at code id ≤ weight_of p known
  by_term p y id n names is at h =
      let of_part : weight_of p known ≡ term_weight (map-Term Term Bound Part Weighed Weighed Weighed weight_term weight_of_bind weight_of y) known =
      ap (λ (f : Weighed). f known) (fold_out-Part Weighed Weighed Weighed term_weight bound_weight part_weight p ∙ ap weight_term is ∙ fold-roll-Term Weighed Weighed Weighed term_weight bound_weight part_weight y) in
      let of_node : weight_at code id ≡ weight_node code n (weight_at code) = weight_at-is code id (ordered.each id at.within) ∙ ap (λ (m : Node). weight_node code m (weight_at code)) at.node in
      omega (arith, of_part, of_node, h)

  nameless_weighs : (p e : Part) (id : ℕ) → p.term ≡ roll-Term (Term-F.Nameless e) → weight_at code id ≤ weight_of e known → weight_at code id ≤ weight_of p known
  nameless_weighs p e id is h =
      let of_part : weight_of p known ≡ 1 + weight_of e known =
      ap (λ (f : Weighed). f known) (fold_out-Part Weighed Weighed Weighed term_weight bound_weight part_weight p ∙ ap weight_term is ∙ fold-roll-Term Weighed Weighed Weighed term_weight bound_weight part_weight (Term-F.Nameless e)) in
      omega (arith, of_part, h)

  global_weighs : (o : Option ExprId) → weight_node code (global_node o) w ≤ 1
  global_weighs (Some e) = omega arith
  global_weighs None = omega arith

  call_weighs : (n : ℕ) (ids : List ExprId) (es : List Weighed) → total w ids ≤ tree.total es known → weight_node code (call_node n (body_before code here n) ids) w ≤ 1 + tree.total es known + get_or known n 0
  call_weighs n ids es h = by (nat_lt n here) refl
    where
      by : (b : Bool) → nat_lt n here ≡ b → weight_node code (call_node n (if b then Some (function_at code n).body else None) ids) w ≤ 1 + tree.total es known + get_or known n 0
      by true is = let body = bodies n (ltb-true n here is) in omega (arith, h, body)
      by false is = omega arith

  over_weighs : (e : ExprId) (v : ℤ) (k : ℕ) → w e.0 ≤ k → weight_node code (quotient_node e v) w ≤ 1 + k + 1
  over_weighs e v k h = by (int_lt (pos 0) v)
    where
      by : (b : Bool) → weight_node code (if b then node.Div e v else no_node) w ≤ 1 + k + 1
      by true = omega (arith, h)
      by false = omega arith

  warp_weighs : (vs : List ℤ) (e : ExprId) (k : ℕ) → w e.0 ≤ k → weight_node code (warp_node vs e) w ≤ 1 + length vs + k
  warp_weighs vs e k h = by (is_rising (points_of vs)) (points_count vs)
    where
      by : (b : Bool) → 2 * length (points_of vs) ≤ length vs → weight_node code (if b then node.Change (change.Warp (points_of vs)) e else no_node) w ≤ 1 + length vs + k
      by true few = omega (arith, h, few)
      by false few = omega arith

  mutual
    pub weighs : (names : List NameId) (p : Part) (id : ℕ) → Stands code here names p id → weight_at code id ≤ weight_of p known
    weighs names p id (standing.number _ _ _ v is at) = by_term p (Term-F.Number v) id (node.Number v) names (is ∙ sym (rolls-Number v)) at (omega arith)
    weighs names p id (standing.local _ _ _ x is at) = by_term p (Term-F.Local x) id (node.Local x) names (is ∙ sym (rolls-Local x)) at (omega arith)
    weighs names p id (standing.global _ _ _ n is at) =
        by_term p (Term-F.Global n) id (global_node (body_before code here n)) names (is ∙ sym (rolls-Global n)) at (global_weighs (body_before code here n))
    weighs names p id (standing.call _ _ _ n es ids is each at) =
        by_term p (Term-F.Call n es) id (call_node n (body_before code here n) ids) names (is ∙ sym (rolls-Call n es)) at (call_weighs n ids (map weight_of es) (weigh_each false es ids each))
    weighs names p id (standing.block _ _ _ bs e binds v is each value at) =
        let first = weigh_binds bs binds each in
        let last = weighs [] e v.0 value in
        by_term p (Term-F.Block bs e) id (node.Block binds v) names (is ∙ sym (rolls-Block bs e)) at (omega (arith, first, last))
    weighs names p id (standing.apply _ _ _ o es ids is each at) =
        let first = weigh_each (is_seq o) es ids each in
        let last = operator_weighs code w o ids in
        by_term p (Term-F.Apply o es) id (operator_node o ids) names (is ∙ sym (rolls-Apply o es)) at (omega (arith, first, last))
    weighs names p id (standing.over _ _ _ a v e is one at) =
        by_term p (Term-F.Over a v) id (quotient_node e v) names (is ∙ sym (rolls-Over a v)) at (over_weighs e v (weight_of a known) (weighs [] a e.0 one))
    weighs names p id (standing.repeat _ _ _ o x n e i is one at) =
        let part = times_more n (weight_at code i.0) (weight_of e known) (weighs (kept_names (is_in_turn o) (writing e).uses) e i.0 one) in
        by_term p (Term-F.Repeat o x n e) id (node.Repeat o x n i) names (is ∙ sym (rolls-Repeat o x n e)) at (omega (arith, part))
    weighs names p id (standing.nameless _ _ _ e is one) = nameless_weighs p e id (is ∙ sym (rolls-Nameless e)) (weighs names e id one)
    weighs names p id (standing.warp _ _ _ vs e i is one at) =
        by_term p (Term-F.Warp vs e) id (warp_node vs i) names (is ∙ sym (rolls-Warp vs e)) at (warp_weighs vs i (weight_of e known) (weighs [] e i.0 one))
    weighs names p id (standing.rate _ _ _ a r e i is one at) =
        let part = weighs [] e i.0 one in
        by_term p (Term-F.Rate a r e) id (node.Change (change.Rate a r) i) names (is ∙ sym (rolls-Rate a r e)) at (omega (arith, part))

    weigh_each : (keeps : Bool) (es : List Part) (ids : List ExprId) → EachStands code here keeps es ids → total (weight_at code) ids ≤ tree.total (map weight_of es) known
    weigh_each keeps es ids (standing.no_part _) = omega arith
    weigh_each keeps es ids (standing.one_part _ e fs id more one rest) =
        let first = weighs (kept_names keeps (writing e).uses) e id.0 one in
        let last = weigh_each keeps fs more rest in omega (arith, first, last)

    weigh_binds : (bs : List Bound) (binds : List (NameId × ExprId)) → BindsStand code here bs binds → total_binds (weight_at code) binds ≤ tree.total (map weight_of_bind bs) known
    weigh_binds bs binds standing.no_bind = omega arith
    weigh_binds bs binds (standing.one_bind b cs id more one rest) =
        let is : weight_of_bind b known ≡ weight_of b.value known = ap (λ (f : Weighed). f known) (fold_out-Bound Weighed Weighed Weighed term_weight bound_weight part_weight b) in
        let first = weighs [] b.value id.0 one in
        let last = weigh_binds cs more rest in omega (arith, is, first, last)
