-- The free names of a node are used in the part that it stands for.
use Rattle.std.proofs.Common.{◌≡◌, ℕ, Bool, true, false, List, [], ◌∷◌, ◌++◌, map, sym, ap, ◌∙◌, subst, Option, Some, None, pos}
use Rattle.std.specs.Prelude.{ℤ, ◌||◌, if◌then◌else◌, int_lt}
use Rattle.ny_warp.specs.Maps.{is_rising}
use Rattle.ny_resolve.specs.declared.term.NameId.{NameId}
use Rattle.ny_resolve.specs.declared.term.Term.{Term}
use Rattle.ny_resolve.specs.declared.term.Term.TheVariants.{rolls-Number, rolls-Local, rolls-Global, rolls-Call, rolls-Block, rolls-Apply, rolls-Over, rolls-Repeat, rolls-Nameless, rolls-Warp, rolls-Rate}
use Rattle.ny_resolve.specs.declared.term.Term.TheFolds.{fold-Term, fold-roll-Term, fold_out-Part, fold_out-Bound, map-Term}
use Rattle.ny_resolve.specs.declared.term.Term.TheOpen.{Term-F}
use Rattle.ny_resolve.specs.declared.term.Term.TheViews.{roll-Term}
use Rattle.ny_resolve.specs.declared.term.Part.{Part}
use Rattle.ny_resolve.specs.declared.term.Bound.{Bound}
use Rattle.ny_resolve.specs.Keys.{same_name}
use Rattle.ny_check.specs.declared.node.Node.{Node}
use Rattle.ny_check.specs.declared.node.Node.TheVariants as node
use Rattle.ny_check.specs.declared.node.Change.TheVariants as change
use Rattle.ny_check.specs.declared.node.ExprId.{ExprId}
use Rattle.ny_check.specs.Code.{Code, IsOrdered}
use Rattle.ny_check.specs.Writing.{Writing, BindWriting, writing, writing_of_bind, term_writing, bound_writing, part_writing, uses_in, uses_in_binds, bound_after, operator_node, quotient_node, warp_node, call_node, global_node, points_of, kept_names, is_seq, is_in_turn}
use Rattle.ny_check.specs.FreeNames.{is_free, free_node, in_any, in_block}
use Rattle.ny_check.proofs.FreeNames.{is_free-is}
use Rattle.ny_check.proofs.OperatorNodes.{operator_free}
use Rattle.ny_laws.specs.Standing.{IsAt, Stands, EachStands, BindsStand, body_before}
use Rattle.ny_laws.specs.Standing as standing
use Rattle.ny_laws.proofs.Uses.{Uses, Finds, finds_none, finds_less, finds_two, finds_under, finds_name}

-- ---- what is free in a node is free in one of its operands

module _ (x : NameId) (free : ℕ → Bool) where
  quotient_free : (a : ExprId) (v : ℤ) → free_node x (quotient_node a v) free ≡ true → free a.0 ≡ true
  quotient_free a v h = by (int_lt (pos 0) v) h
    where
      by : (t : Bool) → free_node x (if t then node.Div a v else node.Number (pos 0)) free ≡ true → free a.0 ≡ true
      by true k = k
      by false k = cc

  warp_free : (vs : List ℤ) (e : ExprId) → free_node x (warp_node vs e) free ≡ true → free e.0 ≡ true
  warp_free vs e h = by (is_rising (points_of vs)) h
    where
      by : (t : Bool) → free_node x (if t then node.Change (change.Warp (points_of vs)) e else node.Number (pos 0)) free ≡ true → free e.0 ≡ true
      by true k = k
      by false k = cc

  call_free : (n : ℕ) (o : Option ExprId) (ids : List ExprId) → free_node x (call_node n o ids) free ≡ true → in_any free ids ≡ true
  call_free n (Some e) ids h = h
  call_free n None ids h = cc

-- ---- what a part uses, at each kind of term

abbrev pub writing_of_term : Term → Writing
writing_of_term = fold-Term Writing BindWriting Writing term_writing bound_writing part_writing

pub writing-at : (p : Part) (x : Term-F Term Bound Part) → p.term ≡ roll-Term x
    → writing p ≡ term_writing (map-Term Term Bound Part Writing BindWriting Writing writing_of_term writing_of_bind writing x)
writing-at p x is =
    fold_out-Part Writing BindWriting Writing term_writing bound_writing part_writing p ∙ ap writing_of_term is
    ∙ fold-roll-Term Writing BindWriting Writing term_writing bound_writing part_writing x

pub bind-is : (b : Bound) → writing_of_bind b ≡ record { name = b.name; write = (writing b.value).write; uses = (writing b.value).uses }
bind-is b = fold_out-Bound Writing BindWriting Writing term_writing bound_writing part_writing b

-- ---- a part and its node

module _ (code : Code) (ordered : IsOrdered code) (here : ℕ) (x : NameId) where
  abbrev free : ℕ → Bool
  free = is_free code x

  -- its node finds what the part uses
  abbrev FindsIn : Part → ℕ → Type 0
  FindsIn p id = Finds x (free id) (writing p).uses

  free_at : (id : ℕ) (n : Node) (names : List NameId) → IsAt code id n names → free id ≡ free_node x n free
  free_at id n names at = is_free-is code x id (ordered.each id at.within) ∙ ap (λ (m : Node). free_node x m free) at.node

  -- by what the part uses, and what is free in the node
  told : (p : Part) (y : Term-F Term Bound Part) (id : ℕ) (n : Node) (names : List NameId) → p.term ≡ roll-Term y → IsAt code id n names
      → Finds x (free_node x n free) (term_writing (map-Term Term Bound Part Writing BindWriting Writing writing_of_term writing_of_bind writing y)).uses → FindsIn p id
  told p y id n names is at h =
      subst (λ (t : Bool). Finds x t (writing p).uses) (sym (free_at id n names at))
      (subst (λ (w : Writing). Finds x (free_node x n free) w.uses) (sym (writing-at p y is)) h)

  under_binds : (b : Bound) (ws : List BindWriting) (f g : Bool) (u : Uses) → Finds x f (writing b.value).uses
      → Finds x g (λ bound found. u (bound_after ws bound) (uses_in_binds ws bound found))
      → Finds x (f || (if same_name x b.name then false else g)) (λ bound found. u (bound_after (writing_of_bind b ∷ ws) bound) (uses_in_binds (writing_of_bind b ∷ ws) bound found))
  under_binds b ws f g u h k =
      let rest : Uses = λ bound found. u (bound_after ws bound) (uses_in_binds ws bound found) in
      subst (λ (w : BindWriting). Finds x (f || (if same_name x b.name then false else g)) (λ bound found. u (bound_after (w ∷ ws) bound) (uses_in_binds (w ∷ ws) bound found))) (sym (bind-is b))
      (finds_two x f (if same_name x b.name then false else g) (writing b.value).uses (λ bound found. rest (bound ++ b.name ∷ []) found) h (finds_under x b.name g rest k))

  finds_global : (o : Option ExprId) → Finds x (free_node x (global_node o) free) (λ bound found. found)
  finds_global (Some e) = finds_none x
  finds_global None = finds_none x

  mutual
    pub finds : (names : List NameId) (p : Part) (id : ℕ) → Stands code here names p id → FindsIn p id
    finds names p id (standing.number _ _ _ v is at) = told p (Term-F.Number v) id (node.Number v) names (is ∙ sym (rolls-Number v)) at (finds_none x)
    finds names p id (standing.local _ _ _ y is at) = told p (Term-F.Local y) id (node.Local y) names (is ∙ sym (rolls-Local y)) at (finds_name x y)
    finds names p id (standing.global _ _ _ n is at) =
        told p (Term-F.Global n) id (global_node (body_before code here n)) names (is ∙ sym (rolls-Global n)) at (finds_global (body_before code here n))
    finds names p id (standing.call _ _ _ n es ids is each at) =
        told p (Term-F.Call n es) id (call_node n (body_before code here n) ids) names (is ∙ sym (rolls-Call n es)) at
        (finds_less x (free_node x (call_node n (body_before code here n) ids) free) (in_any free ids) (λ bound found. uses_in (map writing es) bound found) (call_free x free n (body_before code here n) ids) (finds_each false es ids each))
    finds names p id (standing.block _ _ _ bs e binds v is each value at) =
        told p (Term-F.Block bs e) id (node.Block binds v) names (is ∙ sym (rolls-Block bs e)) at (finds_binds bs binds e v each (finds [] e v.0 value))
    finds names p id (standing.apply _ _ _ o es ids is each at) =
        told p (Term-F.Apply o es) id (operator_node o ids) names (is ∙ sym (rolls-Apply o es)) at
        (finds_less x (free_node x (operator_node o ids) free) (in_any free ids) (λ bound found. uses_in (map writing es) bound found) (operator_free x free o ids) (finds_each (is_seq o) es ids each))
    finds names p id (standing.over _ _ _ a v e is one at) =
        told p (Term-F.Over a v) id (quotient_node e v) names (is ∙ sym (rolls-Over a v)) at
        (finds_less x (free_node x (quotient_node e v) free) (free e.0) (writing a).uses (quotient_free x free e v) (finds [] a e.0 one))
    finds names p id (standing.repeat _ _ _ o y n e i is one at) =
        told p (Term-F.Repeat o y n e) id (node.Repeat o y n i) names (is ∙ sym (rolls-Repeat o y n e)) at
        (finds_under x y (free i.0) (writing e).uses (finds (kept_names (is_in_turn o) (writing e).uses) e i.0 one))
    finds names p id (standing.nameless _ _ _ e is one) =
        subst (λ (w : Writing). Finds x (free id) w.uses) (sym (writing-at p (Term-F.Nameless e) (is ∙ sym (rolls-Nameless e)))) (finds names e id one)
    finds names p id (standing.warp _ _ _ vs e i is one at) =
        told p (Term-F.Warp vs e) id (warp_node vs i) names (is ∙ sym (rolls-Warp vs e)) at
        (finds_less x (free_node x (warp_node vs i) free) (free i.0) (writing e).uses (warp_free x free vs i) (finds [] e i.0 one))
    finds names p id (standing.rate _ _ _ a r e i is one at) =
        told p (Term-F.Rate a r e) id (node.Change (change.Rate a r) i) names (is ∙ sym (rolls-Rate a r e)) at (finds [] e i.0 one)

    pub finds_each : (keeps : Bool) (es : List Part) (ids : List ExprId) → EachStands code here keeps es ids → Finds x (in_any free ids) (λ bound found. uses_in (map writing es) bound found)
    finds_each keeps es ids (standing.no_part _) = finds_none x
    finds_each keeps es ids (standing.one_part _ e fs id more one rest) =
        finds_two x (free id.0) (in_any free more) (writing e).uses (λ bound found. uses_in (map writing fs) bound found) (finds (kept_names keeps (writing e).uses) e id.0 one) (finds_each keeps fs more rest)

    pub finds_binds : (bs : List Bound) (binds : List (NameId × ExprId)) (e : Part) (v : ExprId) → BindsStand code here bs binds → FindsIn e v.0
        → Finds x (in_block x binds v free) (λ bound found. (writing e).uses (bound_after (map writing_of_bind bs) bound) (uses_in_binds (map writing_of_bind bs) bound found))
    finds_binds bs binds e v standing.no_bind value = value
    finds_binds bs binds e v (standing.one_bind b cs id more one rest) value =
        under_binds b (map writing_of_bind cs) (free id.0) (in_block x more v free) (writing e).uses (finds [] b.value id.0 one) (finds_binds cs more e v rest value)
