-- A node that stands for a part which leaves nothing out has its operands, and is no number but for a literal.
use Rattle.std.proofs.Common.{◌≡◌, ℕ, suc, ◌+◌, ◌<◌, ◌≤◌, Bool, true, false, List, [], ◌∷◌, ◌++◌, map, length, refl, sym, ap, ◌∙◌, subst, Some, None, inl, inr, pos, arith}
use Rattle.std.specs.Prelude.{ℤ, ◌&&◌, ◌⊎◌, not, nat_lt, nat_le, nat_eq, int_lt, if◌then◌else◌}
use Rattle.std.proofs.lemmas.Bool.{ltb-true, eqb-true, leb-true}
use Rattle.ny_warp.specs.Maps.{is_rising}
use Rattle.ny_resolve.specs.declared.builtin.Operator.{Operator}
use Rattle.ny_resolve.specs.declared.builtin.Operator.TheVariants as op
use Rattle.ny_resolve.specs.declared.term.NameId.{NameId}
use Rattle.ny_resolve.specs.declared.term.Term.TheVariants as term
use Rattle.ny_resolve.specs.declared.term.Term.TheVariants.{rolls-Number, rolls-Local, rolls-Global, rolls-Call, rolls-Block, rolls-Apply, rolls-Over, rolls-Repeat, rolls-Nameless, rolls-Warp, rolls-Rate}
use Rattle.ny_resolve.specs.declared.term.Term.TheOpen.{Term-F}
use Rattle.ny_resolve.specs.declared.term.Part.{Part}
use Rattle.ny_resolve.specs.declared.term.Declared.{Declared}
use Rattle.ny_resolve.specs.Builtins.{operator_arity, fits}
use Rattle.ny_resolve.specs.Literals.{is_zero}
use Rattle.ny_check.specs.declared.node.Effect.{Effect}
use Rattle.ny_check.specs.declared.node.Effect.TheVariants as effect
use Rattle.ny_check.specs.declared.node.Node.{Node}
use Rattle.ny_check.specs.declared.node.Node.TheVariants as node
use Rattle.ny_check.specs.declared.node.Change.TheVariants as change
use Rattle.ny_check.specs.declared.node.ExprId.{ExprId}
use Rattle.ny_check.specs.Code.{Code, node_at, no_node, function_at}
use Rattle.ny_check.specs.Writing.{operator_node, effect_node, quotient_node, call_node, global_node, points_of, is_seq}
use Rattle.ny_laws.specs.Standing.{IsAt, Stands, EachStands, IsTableOf}
use Rattle.ny_laws.specs.Standing as standing
use Rattle.ny_laws.specs.Whole.{all_whole, is_times, few, is_whole}
use Rattle.ny_laws.specs.Complete.{IsGlobalAt, HasOperands, IsNegative, effect_numbers}
use Rattle.ny_laws.proofs.OperatorKinds.{both_true}
use Rattle.ny_laws.proofs.TextKinds.{TextWhole, StandsAt, declared_at, body_at}
use Rattle.ny_laws.proofs.WholeParts.{place_at, whole_of}

-- no number stands there
abbrev pub IsNoNumber : Node → Type 0
IsNoNumber (node.Number v) = ⊥
IsNoNumber _ = Unit {0}

-- ---- operators

module _ (code : Code) (seen : List NameId) where
  abbrev Good : Node → Type 0
  Good n = HasOperands code seen n × IsNoNumber n

  one : (o : Operator) → ((a : ExprId) → Good (operator_node o (a ∷ []))) → (ids : List ExprId) → nat_eq (length ids) 1 ≡ true → Good (operator_node o ids)
  one o h [] count = cc
  one o h (a ∷ []) count = h a
  one o h (a ∷ b ∷ ids) count = let n : length (a ∷ b ∷ ids) ≡ 1 = eqb-true (length (a ∷ b ∷ ids)) 1 count in absurd (omega (arith, n))

  two : (o : Operator) → ((a b : ExprId) → Good (operator_node o (a ∷ b ∷ []))) → (ids : List ExprId) → nat_eq (length ids) 2 ≡ true → Good (operator_node o ids)
  two o h [] count = cc
  two o h (a ∷ []) count = cc
  two o h (a ∷ b ∷ []) count = h a b
  two o h (a ∷ b ∷ c ∷ ids) count = let n : length (a ∷ b ∷ c ∷ ids) ≡ 2 = eqb-true (length (a ∷ b ∷ c ∷ ids)) 2 count in absurd (omega (arith, n))

  three : (o : Operator) → ((a b c : ExprId) → Good (operator_node o (a ∷ b ∷ c ∷ []))) → (ids : List ExprId) → nat_eq (length ids) 3 ≡ true → Good (operator_node o ids)
  three o h [] count = cc
  three o h (a ∷ []) count = cc
  three o h (a ∷ b ∷ []) count = cc
  three o h (a ∷ b ∷ c ∷ []) count = h a b c
  three o h (a ∷ b ∷ c ∷ d ∷ ids) count =
      let n : length (a ∷ b ∷ c ∷ d ∷ ids) ≡ 3 = eqb-true (length (a ∷ b ∷ c ∷ d ∷ ids)) 3 count in absurd (omega (arith, n))

  -- a sound and so many numbers
  filtered : (w : Effect) (n : ℕ) → n ≡ effect_numbers w → (ids : List ExprId) → nat_eq (length ids) (suc n) ≡ true → Good (effect_node w ids)
  filtered w n is [] count = let same : length {A = ExprId} [] ≡ suc n = eqb-true (length {A = ExprId} []) (suc n) count in absurd (omega (arith, same))
  filtered w n is (e ∷ ids) count =
      let same : length (e ∷ ids) ≡ suc n = eqb-true (length (e ∷ ids)) (suc n) count in
      let less : length ids ≡ n = omega (arith, same) in (less ∙ is, tt)

  counted : (o : Operator) (ids : List ExprId) → fits (operator_arity o) (length ids) ≡ true → few o (length ids) ≡ true → Good (operator_node o ids)
  counted op.Add ids count little = two op.Add (λ a b. (tt, tt)) ids count
  counted op.Sub ids count little = two op.Sub (λ a b. (tt, tt)) ids count
  counted op.Mul ids count little = two op.Mul (λ a b. (tt, tt)) ids count
  counted op.Scale ids count little = two op.Scale (λ a b. (tt, tt)) ids count
  counted op.Max ids count little = two op.Max (λ a b. (tt, tt)) ids count
  counted op.Min ids count little = two op.Min (λ a b. (tt, tt)) ids count
  counted op.Neg ids count little = one op.Neg (λ a. (tt, tt)) ids count
  counted (op.Compare r) ids count little = two (op.Compare r) (λ a b. (tt, tt)) ids count
  counted op.And ids count little = two op.And (λ a b. (tt, tt)) ids count
  counted op.Or ids count little = two op.Or (λ a b. (tt, tt)) ids count
  counted op.Not ids count little = one op.Not (λ a. (tt, tt)) ids count
  counted op.If ids count little = three op.If (λ a b c. (tt, tt)) ids count
  counted op.Const ids count little = (count, tt)
  counted op.Osc ids count little = (count, tt)
  counted op.HzOsc ids count little = (count, tt)
  counted op.Lfo ids count little = (count, tt)
  counted op.Noise ids count little = (count, tt)
  counted op.Rest ids count little = (count, tt)
  counted op.Ramp ids count little = (count, tt)
  counted op.Pwl ids count little = (count, tt)
  counted op.Abs ids count little = filtered effect.Abs 0 refl ids count
  counted op.OnePole ids count little = filtered effect.OnePole 1 refl ids count
  counted op.Biquad ids count little = filtered effect.Biquad 5 refl ids count
  counted op.Comb ids count little = filtered effect.Comb 2 refl ids count
  counted op.Cue ids count little = one op.Cue (λ a. (tt, tt)) ids count
  counted op.Sim ids count little = (leb-true 1 (length ids) count, tt)
  counted op.Seq ids count little = (leb-true 1 (length ids) count, tt)
  counted op.At ids count little = two op.At (λ a b. (tt, tt)) ids count
  counted op.Stretch ids count little = two op.Stretch (λ a b. (tt, tt)) ids count
  counted op.Loud ids count little = two op.Loud (λ a b. (tt, tt)) ids count
  counted op.Sustain ids count little = two op.Sustain (λ a b. (tt, tt)) ids count
  counted op.Transpose ids count little = two op.Transpose (λ a b. (tt, tt)) ids count
  counted op.Placed ids count little = two op.Placed (λ a b. (tt, tt)) ids count
  counted op.Stretched ids count little = two op.Stretched (λ a b. (tt, tt)) ids count
  counted op.Vector ids count little = ((leb-true 1 (length ids) count, leb-true (length ids) 8 little), tt)

-- ---- parts

each_count : (code : Code) (here : ℕ) (keeps : Bool) (es : List Part) (ids : List ExprId) → EachStands code here keeps es ids → length es ≡ length ids
each_count code here keeps es ids (standing.no_part _) = refl
each_count code here keeps es ids (standing.one_part _ e fs id more one rest) = ap (λ (n : ℕ). suc n) (each_count code here keeps fs more rest)

mapped_count : {A B : Type 0} (f : A → B) (xs : List A) → length (map f xs) ≡ length xs
mapped_count f [] = refl
mapped_count f (x ∷ xs) = ap (λ (n : ℕ). suc n) (mapped_count f xs)

same_number : (v w : ℤ) → node.Number v ≡ node.Number w → v ≡ w
same_number v w is = cc

-- a part and its node: the node has its operands, and is no number but for a literal
abbrev pub IsComplete : Code → List NameId → Part → ℕ → Type 0
IsComplete code seen p id = HasOperands code seen (node_at code id) × ((v : ℤ) → node_at code id ≡ node.Number v → (p.term ≡ term.Number v) ⊎ IsNegative p)

module _ (code : Code) (ds : List Declared) (play : Part) (table : IsTableOf ds play code) (whole : TextWhole ds play) where
  no_number : (n : Node) (v : ℤ) → IsNoNumber n → n ≡ node.Number v → ⊥
  no_number n v h is = subst IsNoNumber is h

  made : (seen : List NameId) (p : Part) (id : ℕ) (n : Node) → node_at code id ≡ n → HasOperands code seen n → IsNoNumber n → IsComplete code seen p id
  made seen p id n is operands other =
      (subst (HasOperands code seen) (sym is) operands, λ v number. absurd (no_number n v other (sym is ∙ number)))

  stands_at : (n : ℕ) → n < length ds → (function_at code n).params ≡ (declared_at ds n).params
  stands_at n lt =
      let same : 0 + n ≡ n = omega arith in
      let one : StandsAt code n (declared_at ds n) = subst (λ (k : ℕ). StandsAt code k (declared_at ds n)) same (body_at code ds 0 n table.bodies lt) in one.0

  is_global : (n : ℕ) → n < length ds → (declared_at ds n).is_variable ≡ true → IsGlobalAt code (function_at code n).body
  is_global n lt variable = record {
    number = n;
    within = omega (arith, lt, table.count);
    no_names = stands_at n lt ∙ whole.variables n lt variable;
    value = refl;
  }

  divided : (seen : List NameId) (p : Part) (id : ℕ) (a : Part) (v : ℤ) (e : ExprId) → p.term ≡ term.Over a v → node_at code id ≡ quotient_node e v → is_zero v ≡ false → IsComplete code seen p id
  divided seen p id a v e is at_node other = by (int_lt (pos 0) v) refl
    where
      left : (b c : Bool) → b ≡ false → not b && not c ≡ false → c ≡ true
      left false true h k = refl
      left false false h k = cc
      left true c h k = cc

      by : (b : Bool) → int_lt (pos 0) v ≡ b → IsComplete code seen p id
      by true above = made seen p id (node.Div e v) (at_node ∙ ap (λ (b : Bool). if b then node.Div e v else no_node) above) tt tt
      by false above = (
        subst (HasOperands code seen) (sym (at_node ∙ ap (λ (b : Bool). if b then node.Div e v else no_node) above)) tt,
        λ w number. inr (record { divided = a; divisor = v; is = is; negative = left (int_lt (pos 0) v) (int_lt v (pos 0)) above other }),
      )

  not_true : (b : Bool) → not b ≡ true → b ≡ false
  not_true true h = cc
  not_true false h = refl

  module _ (here : ℕ) (within : here ≤ length ds) (seen : List NameId) where
    pub complete : (names : List NameId) (p : Part) (id : ℕ) → Stands code here names p id → is_whole p (place_at ds here seen) ≡ true → IsComplete code seen p id
    complete names p id (standing.number _ _ _ v is at) h =
        (subst (HasOperands code seen) (sym at.node) tt, λ w number. inl (is ∙ ap term.Number (same_number v w (sym at.node ∙ number))))
    complete names p id (standing.local _ _ _ x is at) h =
        made seen p id (node.Local x) at.node (whole_of ds p (Term-F.Local x) (place_at ds here seen) (is ∙ sym (rolls-Local x)) h) tt
    complete names p id (standing.global _ _ _ n is at) h =
        let parts = both_true (nat_lt n here) (declared_at ds n).is_variable (whole_of ds p (Term-F.Global n) (place_at ds here seen) (is ∙ sym (rolls-Global n)) h) in
        let before : n < here = ltb-true n here parts.0 in
        made seen p id (node.Global (function_at code n).body) (at.node ∙ ap (λ (b : Bool). global_node (if b then Some (function_at code n).body else None)) parts.0)
        (is_global n (omega (arith, before, within)) parts.1) tt
    complete names p id (standing.call _ _ _ n es ids is each at) h =
        let told = whole_of ds p (Term-F.Call n es) (place_at ds here seen) (is ∙ sym (rolls-Call n es)) h in
        let parts = both_true (nat_lt n here && nat_eq (length (map is_whole es)) (length (declared_at ds n).params)) (all_whole (map is_whole es) (place_at ds here seen)) told in
        let counts = both_true (nat_lt n here) (nat_eq (length (map is_whole es)) (length (declared_at ds n).params)) parts.0 in
        let before : n < here = ltb-true n here counts.0 in
        let lt : n < length ds = omega (arith, before, within) in
        let many : length ids ≡ length (function_at code n).params =
        sym (each_count code here false es ids each) ∙ sym (mapped_count is_whole es) ∙ eqb-true (length (map is_whole es)) (length (declared_at ds n).params) counts.1
        ∙ ap (λ (xs : List NameId). length xs) (sym (stands_at n lt)) in
        made seen p id (node.Call (record { 0 = n }) ids) (at.node ∙ ap (λ (b : Bool). call_node n (if b then Some (function_at code n).body else None) ids) counts.0)
        (omega (arith, lt, table.count), many) tt
    complete names p id (standing.block _ _ _ bs e binds v is each value at) h = made seen p id (node.Block binds v) at.node tt tt
    complete names p id (standing.apply _ _ _ o es ids is each at) h =
        let told = whole_of ds p (Term-F.Apply o es) (place_at ds here seen) (is ∙ sym (rolls-Apply o es)) h in
        let parts = both_true (fits (operator_arity o) (length (map is_whole es)) && few o (length (map is_whole es))) (all_whole (map is_whole es) (place_at ds here seen)) told in
        let counts = both_true (fits (operator_arity o) (length (map is_whole es))) (few o (length (map is_whole es))) parts.0 in
        let same : length ids ≡ length (map is_whole es) = sym (mapped_count is_whole es ∙ each_count code here (is_seq o) es ids each) in
        let good = counted code seen o ids (ap (λ (n : ℕ). fits (operator_arity o) n) same ∙ counts.0) (ap (λ (n : ℕ). few o n) same ∙ counts.1) in
        made seen p id (operator_node o ids) at.node good.0 good.1
    complete names p id (standing.over _ _ _ a v e is one at) h =
        let parts = both_true (not (is_zero v)) (is_whole a (place_at ds here seen)) (whole_of ds p (Term-F.Over a v) (place_at ds here seen) (is ∙ sym (rolls-Over a v)) h) in
        divided seen p id a v e is at.node (not_true (is_zero v) parts.0)
    complete names p id (standing.repeat _ _ _ o x n e i is one at) h =
        let parts = both_true (is_times n) (is_whole e (place_at ds here (seen ++ x ∷ []))) (whole_of ds p (Term-F.Repeat o x n e) (place_at ds here seen) (is ∙ sym (rolls-Repeat o x n e)) h) in
        let both = both_true (nat_le 1 n) (nat_le n 100000) parts.0 in
        made seen p id (node.Repeat o x n i) at.node (leb-true 1 n both.0, leb-true n 100000 both.1) tt
    complete names p id (standing.nameless _ _ _ e is one) h = let told = whole_of ds p (Term-F.Nameless e) (place_at ds here seen) (is ∙ sym (rolls-Nameless e)) h in cc
    complete names p id (standing.warp _ _ _ vs e i is one at) h =
        let parts = both_true (is_rising (points_of vs)) (is_whole e (place_at ds here seen)) (whole_of ds p (Term-F.Warp vs e) (place_at ds here seen) (is ∙ sym (rolls-Warp vs e)) h) in
        made seen p id (node.Change (change.Warp (points_of vs)) i) (at.node ∙ ap (λ (b : Bool). if b then node.Change (change.Warp (points_of vs)) i else no_node) parts.0) parts.0 tt
    complete names p id (standing.rate _ _ _ a r e i is one at) h = made seen p id (node.Change (change.Rate a r) i) at.node tt tt
