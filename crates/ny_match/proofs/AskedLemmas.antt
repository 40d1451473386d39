-- The names that an expression asks for are among those that are kept of it, where it is a part in turn.
use Rattle.std.proofs.Common.{◌≡◌, ◌⊎◌, inl, inr, ℕ, length, Bool, true, false, not, List, [], ◌∷◌, ◌++◌, map, Option, Some, None, get_or, refl, sym, ap, ◌∙◌, subst, pos}
use Rattle.std.specs.Prelude.{ℤ, ◌||◌, ◌&&◌, if◌then◌else◌, int_lt}
use Rattle.std.proofs.lemmas.Bool.{cases_lt}
use Rattle.std.proofs.lemmas.List.{get_or_past}
use Rattle.ny_warp.specs.declared.env.Env.{Env}
use Rattle.ny_warp.specs.Maps.{is_rising}
use Rattle.ny_resolve.specs.declared.builtin.Order.{Order}
use Rattle.ny_resolve.specs.declared.builtin.Order.TheVariants.{InTurn, Together}
use Rattle.ny_resolve.specs.declared.builtin.Operator.{Operator}
use Rattle.ny_resolve.specs.declared.term.NameId.{NameId}
use Rattle.ny_resolve.specs.declared.term.Term.{Term}
use Rattle.ny_resolve.specs.declared.term.Term.TheVariants.{rolls-Number, rolls-Local, rolls-Global, rolls-Call, rolls-Block, rolls-Apply, rolls-Over, rolls-Repeat, rolls-Nameless, rolls-Warp, rolls-Rate}
use Rattle.ny_resolve.specs.declared.term.Term.TheFolds.{map-Term}
use Rattle.ny_resolve.specs.declared.term.Term.TheOpen.{Term-F}
use Rattle.ny_resolve.specs.declared.term.Term.TheViews.{roll-Term}
use Rattle.ny_resolve.specs.declared.term.Part.{Part}
use Rattle.ny_resolve.specs.declared.term.Bound.{Bound}
use Rattle.ny_resolve.specs.Keys.{same_name}
use Rattle.ny_check.specs.declared.node.Node.{Node}
use Rattle.ny_check.specs.declared.node.Node.TheVariants as node
use Rattle.ny_check.specs.declared.node.Change.TheVariants as change
use Rattle.ny_check.specs.declared.node.ExprId.{ExprId}
use Rattle.ny_check.specs.Code.{Code, node_at, no_node, IsOrdered}
use Rattle.ny_check.specs.Writing.{Writing, BindWriting, writing, writing_of_bind, term_writing, uses_in, uses_in_binds, bound_after, use_of, is_among, operator_node, quotient_node, warp_node, call_node, global_node, points_of, kept_names, is_seq, is_in_turn}
use Rattle.ny_check.specs.FreeNames.{free_node, in_any, in_block, picked}
use Rattle.ny_check.specs.KeptNames.{kept_of}
use Rattle.ny_check.proofs.OperatorNodes.{waiting, operator_free, operator_waiting}
use Rattle.ny_check.proofs.Picked.{agree_picked}
use Rattle.ny_laws.specs.Standing.{IsAt, Stands, EachStands, BindsStand, IsSomePart, body_before}
use Rattle.ny_laws.specs.Standing as standing
use Rattle.ny_laws.proofs.Uses.{Uses, among, among_more, same_among}
use Rattle.ny_laws.proofs.Names.{writing_of_term, writing-at, bind-is}
use Rattle.ny_laws.proofs.KeptNames.{named}
use Rattle.ny_laws.proofs.OfText.{Text}
use Rattle.ny_trace.specs.Laws.{in_turn}
use Rattle.ny_plan.specs.Plan.{Names, made}
use Rattle.ny_match.specs.Keeps.{KeepMade, KeepsMade}
use Rattle.ny_match.proofs.AsksLemmas.{kept_in, counts, asks_node, asks, asks-is, made-same}

-- ---- what uses find, exactly

-- x is found where it was, or where it is used and not bound
abbrev Exactly : NameId → Bool → Uses → Type 0
Exactly x v uses = (bound found : List NameId) → among x (uses bound found) ≡ among x found || (v && not (among x bound))

-- and it is used where this holds
record Told (x : NameId) (asked : Bool) (uses : Uses) : Type 0 where
  used : Bool
  exactly : Exactly x used uses
  enough : asked ≡ true → used ≡ true

or_false : (a : Bool) → a ≡ a || false
or_false true = refl
or_false false = refl

told_none : (x : NameId) → Told x false (λ bound found. found)
told_none x = record { used = false; exactly = λ bound found. or_false (among x found); enough = λ h. cc }

told_less : (x : NameId) (f g : Bool) (uses : Uses) → (f ≡ true → g ≡ true) → Told x g uses → Told x f uses
told_less x f g uses less t = record { used = t.used; exactly = t.exactly; enough = λ h. t.enough (less h) }

both_enough : (f g p q : Bool) → (f ≡ true → p ≡ true) → (g ≡ true → q ≡ true) → f || g ≡ true → p || q ≡ true
both_enough true g true q h k e = refl
both_enough true g false q h k e = absurd (never (h refl))
  where
    never : false ≡ true → ⊥
    never e = cc
both_enough false g true q h k e = refl
both_enough false g false q h k e = k e

told_two : (x : NameId) (f g : Bool) (first second : Uses) → Told x f first → Told x g second → Told x (f || g) (λ bound found. second bound (first bound found))
told_two x f g first second h k = record {
  used = h.used || k.used;
  exactly = λ bound found. k.exactly bound (first bound found) ∙ ap (λ b. b || (k.used && not (among x bound))) (h.exactly bound found) ∙ by (among x found) h.used k.used (not (among x bound));
  enough = both_enough f g h.used k.used h.enough k.enough;
}
  where
    by : (a p q n : Bool) → (a || (p && n)) || (q && n) ≡ a || ((p || q) && n)
    by true p q n = refl
    by false true q true = refl
    by false true true false = refl
    by false true false false = refl
    by false false q n = refl

told_under : (x y : NameId) (f : Bool) (uses : Uses) → Told x f uses → Told x (if same_name x y then false else f) (λ bound found. uses (bound ++ y ∷ []) found)
told_under x y f uses h = record {
  used = if same_name x y then false else h.used;
  exactly = λ bound found. h.exactly (bound ++ y ∷ []) found ∙ ap (λ b. among x found || (h.used && not b)) (among_more x bound (y ∷ [])) ∙ by (among x found) h.used (among x bound) (same_name x y);
  enough = enough (same_name x y);
}
  where
    by : (a v b s : Bool) → a || (v && not (b || (s || false))) ≡ a || ((if s then false else v) && not b)
    by true v b s = refl
    by false true true true = refl
    by false true true false = refl
    by false true false true = refl
    by false true false false = refl
    by false false b true = refl
    by false false b false = refl

    enough : (s : Bool) → (if s then false else f) ≡ true → (if s then false else h.used) ≡ true
    enough true e = e
    enough false e = h.enough e

told_name : (x y : NameId) → Told x (same_name x y) (use_of y)
told_name x y = record { used = same_name x y; exactly = λ bound found. exactly bound found (same_name x y) refl; enough = λ h. h }
  where
    pushed : (found : List NameId) (s : Bool) → same_name x y ≡ s → among x (found ++ y ∷ []) ≡ among x found || (s || false)
    pushed found s e = among_more x found (y ∷ []) ∙ ap (λ b. among x found || (b || false)) e

    other : (bound found : List NameId) (b f : Bool) → same_name x y ≡ false → among x (if b || f then found else found ++ y ∷ []) ≡ among x found || false
    other bound found true f e = or_false (among x found)
    other bound found false true e = or_false (among x found)
    other bound found false false e = pushed found false e

    same : (bound found : List NameId) (b f : Bool) → same_name x y ≡ true → among x bound ≡ b → among x found ≡ f → among x (if b || f then found else found ++ y ∷ []) ≡ among x found || not b
    same bound found true f e is_b is_f = or_false (among x found)
    same bound found false true e is_b is_f = is_f ∙ sym (ap (λ t. t || true) is_f)
    same bound found false false e is_b is_f = pushed found true e

    exactly : (bound found : List NameId) (s : Bool) → same_name x y ≡ s → among x (use_of y bound found) ≡ among x found || (s && not (among x bound))
    exactly bound found false e = other bound found (is_among y bound) (is_among y found) e
    exactly bound found true e =
        ap (λ b. among x (if b || is_among y found then found else found ++ y ∷ [])) (sym (same_among x y bound e))
        ∙ ap (λ f. among x (if among x bound || f then found else found ++ y ∷ [])) (sym (same_among x y found e))
        ∙ same bound found (among x bound) (among x found) e refl refl

-- what is kept of a part is what it uses
told_kept : (x : NameId) (f : Bool) (uses : Uses) → Told x f uses → Told x (f || among x (uses [] [])) uses
told_kept x f uses h = record { used = h.used; exactly = h.exactly; enough = λ e. by f h.used (among x (uses [] [])) h.enough (h.exactly [] []) e }
  where
    by : (f v a : Bool) → (f ≡ true → v ≡ true) → a ≡ false || (v && true) → f || a ≡ true → v ≡ true
    by true v a h is e = h refl
    by false true a h is e = refl
    by false false a h is e = sym is ∙ e

-- ---- nodes in which nothing waits

either : (a b : Bool) → a || b ≡ true → (a ≡ true) ⊎ (b ≡ true)
either true b h = inl refl
either false b h = inr h

module _ (code : Code) (x : NameId) (f : ℕ → Bool) where
  plain : (n : Node) → waiting n ≡ [] → asks_node code x n f ≡ true → free_node x n f ≡ true
  plain n none h = elim (either (free_node x n f) (kept_in code x (waiting n) && not (counts x n)) h) [
    | inl free ↦ free
    | inr kept ↦ absurd (never (sym (ap (λ es. kept_in code x es && not (counts x n)) none) ∙ kept))
  ]
    where
      never : false ≡ true → ⊥
      never e = cc

  global_asks : (o : Option ExprId) → asks_node code x (global_node o) f ≡ true → false ≡ true
  global_asks (Some e) h = h
  global_asks None h = h

  call_asks : (n : ℕ) (o : Option ExprId) (ids : List ExprId) → asks_node code x (call_node n o ids) f ≡ true → in_any f ids ≡ true
  call_asks n (Some e) ids h = plain (call_node n (Some e) ids) refl h
  call_asks n None ids h = cc

  quotient_asks : (a : ExprId) (v : ℤ) → asks_node code x (quotient_node a v) f ≡ true → f a.0 ≡ true
  quotient_asks a v h = by (int_lt (pos 0) v) h
    where
      by : (t : Bool) → asks_node code x (if t then node.Div a v else no_node) f ≡ true → f a.0 ≡ true
      by true k = plain (node.Div a v) refl k
      by false k = cc

  warp_asks : (vs : List ℤ) (e : ExprId) → asks_node code x (warp_node vs e) f ≡ true → f e.0 ≡ true
  warp_asks vs e h = by (is_rising (points_of vs)) h
    where
      by : (t : Bool) → asks_node code x (if t then node.Change (change.Warp (points_of vs)) e else no_node) f ≡ true → f e.0 ≡ true
      by true k = plain (node.Change (change.Warp (points_of vs)) e) refl k
      by false k = cc

  -- the parts of a sequence
  operator_asks : (o : Operator) (ids : List ExprId) → asks_node code x (operator_node o ids) f ≡ true → in_any f ids || (is_seq o && kept_in code x ids) ≡ true
  operator_asks o ids h = elim (either (free_node x (operator_node o ids) f) (kept_in code x (waiting (operator_node o ids)) && not (counts x (operator_node o ids))) h) [
    | inl free ↦ first (in_any f ids) (is_seq o && kept_in code x ids) (operator_free x f o ids free)
    | inr kept ↦ second (in_any f ids) (is_seq o) (left (kept_in code x (if is_seq o then ids else [])) (not (counts x (operator_node o ids))) (sym (ap (λ es. kept_in code x es && not (counts x (operator_node o ids))) (operator_waiting o ids)) ∙ kept))
  ]
    where
      first : (a b : Bool) → a ≡ true → a || b ≡ true
      first true b e = refl
      first false b e = cc

      left : (a b : Bool) → a && b ≡ true → a ≡ true
      left true b e = refl
      left false b e = e

      second : (a s : Bool) → kept_in code x (if s then ids else []) ≡ true → a || (s && kept_in code x ids) ≡ true
      second true s e = refl
      second false true e = e
      second false false e = e

  repeat_asks : (o : Order) (y : NameId) (n : ℕ) (i : ExprId) → asks_node code x (node.Repeat o y n i) f ≡ true → (if same_name x y then false else f i.0 || (is_in_turn o && kept_in code x (i ∷ []))) ≡ true
  repeat_asks InTurn y n i h = by (same_name x y) (f i.0) (kept_in code x (i ∷ [])) h
    where
      by : (s a k : Bool) → (if s then false else a) || (k && not s) ≡ true → (if s then false else a || k) ≡ true
      by true a true e = e
      by true a false e = e
      by false true k e = refl
      by false false true e = refl
      by false false false e = e
  repeat_asks Together y n i h = by (same_name x y) (f i.0) h
    where
      by : (s a : Bool) → (if s then false else a) || false ≡ true → (if s then false else a || false) ≡ true
      by true a e = e
      by false true e = refl
      by false false e = e

-- ---- a part and its node

module _ (code : Code) (ordered : IsOrdered code) (here : ℕ) (x : NameId) where
  abbrev asked : ℕ → Bool
  asked = asks code x

  abbrev AskedIn : Part → ℕ → Type 0
  AskedIn p id = Told x (asks code x id) (writing p).uses

  asked_at : (id : ℕ) (n : Node) (names : List NameId) → IsAt code id n names → asks code x id ≡ asks_node code x n (asks code x)
  asked_at id n names at = asks-is code x id (ordered.each id at.within) ∙ ap (λ (m : Node). asks_node code x m (asks code x)) at.node

  by_term : (p : Part) (y : Term-F Term Bound Part) (id : ℕ) (n : Node) (names : List NameId) (g : Bool) → p.term ≡ roll-Term y → IsAt code id n names → (asks_node code x n (asks code x) ≡ true → g ≡ true)
      → Told x g (term_writing (map-Term Term Bound Part Writing BindWriting Writing writing_of_term writing_of_bind writing y)).uses → AskedIn p id
  by_term p y id n names g is at less h =
      subst (λ (w : Writing). Told x (asks code x id) w.uses) (sym (writing-at p y is))
      (told_less x (asks code x id) g (term_writing (map-Term Term Bound Part Writing BindWriting Writing writing_of_term writing_of_bind writing y)).uses (λ e. less (sym (asked_at id n names at) ∙ e)) h)

  under_binds : (b : Bound) (ws : List BindWriting) (f g : Bool) (u : Uses) → Told x f (writing b.value).uses
      → Told x g (λ bound found. u (bound_after ws bound) (uses_in_binds ws bound found))
      → Told x (f || (if same_name x b.name then false else g)) (λ bound found. u (bound_after (writing_of_bind b ∷ ws) bound) (uses_in_binds (writing_of_bind b ∷ ws) bound found))
  under_binds b ws f g u h k =
      let rest : Uses = λ bound found. u (bound_after ws bound) (uses_in_binds ws bound found) in
      subst (λ (w : BindWriting). Told x (f || (if same_name x b.name then false else g)) (λ bound found. u (bound_after (w ∷ ws) bound) (uses_in_binds (w ∷ ws) bound found))) (sym (bind-is b))
      (told_two x f (if same_name x b.name then false else g) (writing b.value).uses (λ bound found. rest (bound ++ b.name ∷ []) found) h (told_under x b.name g rest k))

  -- a part of which the free names are kept, or none
  kept_part : (keeps : Bool) (e : Part) (id : ℕ) → Stands code here (kept_names keeps (writing e).uses) e id → AskedIn e id → Told x (asks code x id || (keeps && among x (kept_of code id))) (writing e).uses
  kept_part true e id stands h = subst (λ ns. Told x (asks code x id || among x ns) (writing e).uses) (sym (named code here (kept_names true (writing e).uses) e id stands).1) (told_kept x (asks code x id) (writing e).uses h)
  kept_part false e id stands h = told_less x (asks code x id || false) (asks code x id) (writing e).uses (λ k. or_false (asks code x id) ∙ k) h

  either_of : (a b k p q : Bool) → (a || b) || (k && (p || q)) ≡ true → (a || (k && p)) || (b || (k && q)) ≡ true
  either_of true b k p q e = refl
  either_of false b false p q e = second b e
    where
      second : (b : Bool) → b || false ≡ true → b || false ≡ true
      second b e = e
  either_of false b true true q e = refl
  either_of false true true false q e = refl
  either_of false false true false q e = e

  mutual
    asked_in : (names : List NameId) (p : Part) (id : ℕ) → Stands code here names p id → Told x (asks code x id) (writing p).uses
    asked_in names p id (standing.number _ _ _ v is at) = by_term p (Term-F.Number v) id (node.Number v) names false (is ∙ sym (rolls-Number v)) at (λ h. h) (told_none x)
    asked_in names p id (standing.local _ _ _ y is at) = by_term p (Term-F.Local y) id (node.Local y) names (same_name x y) (is ∙ sym (rolls-Local y)) at (λ h. plain code x (asks code x) (node.Local y) refl h) (told_name x y)
    asked_in names p id (standing.global _ _ _ n is at) =
        by_term p (Term-F.Global n) id (global_node (body_before code here n)) names false (is ∙ sym (rolls-Global n)) at (global_asks code x (asks code x) (body_before code here n)) (told_none x)
    asked_in names p id (standing.call _ _ _ n es ids is each at) =
        by_term p (Term-F.Call n es) id (call_node n (body_before code here n) ids) names (in_any (asks code x) ids || false) (is ∙ sym (rolls-Call n es)) at
        (λ h. sym (or_false (in_any (asks code x) ids)) ∙ call_asks code x (asks code x) n (body_before code here n) ids h) (asked_each false es ids each)
    asked_in names p id (standing.block _ _ _ bs e binds v is each value at) =
        by_term p (Term-F.Block bs e) id (node.Block binds v) names (in_block x binds v (asks code x)) (is ∙ sym (rolls-Block bs e)) at (λ h. plain code x (asks code x) (node.Block binds v) refl h) (asked_binds bs binds e v each (asked_in [] e v.0 value))
    asked_in names p id (standing.apply _ _ _ o es ids is each at) =
        by_term p (Term-F.Apply o es) id (operator_node o ids) names (in_any (asks code x) ids || (is_seq o && kept_in code x ids)) (is ∙ sym (rolls-Apply o es)) at (operator_asks code x (asks code x) o ids) (asked_each (is_seq o) es ids each)
    asked_in names p id (standing.over _ _ _ a v e is one at) =
        by_term p (Term-F.Over a v) id (quotient_node e v) names (asks code x e.0) (is ∙ sym (rolls-Over a v)) at (quotient_asks code x (asks code x) e v) (asked_in [] a e.0 one)
    asked_in names p id (standing.repeat _ _ _ o y n e i is one at) =
        by_term p (Term-F.Repeat o y n e) id (node.Repeat o y n i) names (if same_name x y then false else asks code x i.0 || (is_in_turn o && kept_in code x (i ∷ []))) (is ∙ sym (rolls-Repeat o y n e)) at (repeat_asks code x (asks code x) o y n i)
        (told_under x y (asks code x i.0 || (is_in_turn o && kept_in code x (i ∷ []))) (writing e).uses
        (subst (λ b. Told x (asks code x i.0 || (is_in_turn o && b)) (writing e).uses) (or_false (among x (kept_of code i.0))) (kept_part (is_in_turn o) e i.0 one (asked_in (kept_names (is_in_turn o) (writing e).uses) e i.0 one))))
    asked_in names p id (standing.nameless _ _ _ e is one) =
        subst (λ (w : Writing). Told x (asks code x id) w.uses) (sym (writing-at p (Term-F.Nameless e) (is ∙ sym (rolls-Nameless e)))) (asked_in names e id one)
    asked_in names p id (standing.warp _ _ _ vs e i is one at) =
        by_term p (Term-F.Warp vs e) id (warp_node vs i) names (asks code x i.0) (is ∙ sym (rolls-Warp vs e)) at (warp_asks code x (asks code x) vs i) (asked_in [] e i.0 one)
    asked_in names p id (standing.rate _ _ _ a r e i is one at) =
        by_term p (Term-F.Rate a r e) id (node.Change (change.Rate a r) i) names (asks code x i.0) (is ∙ sym (rolls-Rate a r e)) at (λ h. plain code x (asks code x) (node.Change (change.Rate a r) i) refl h) (asked_in [] e i.0 one)

    asked_each : (keeps : Bool) (es : List Part) (ids : List ExprId) → EachStands code here keeps es ids → Told x (in_any (asks code x) ids || (keeps && kept_in code x ids)) (λ bound found. uses_in (map writing es) bound found)
    asked_each keeps es ids (standing.no_part _) = told_less x (false || (keeps && false)) false (λ bound found. found) (none keeps) (told_none x)
      where
        none : (k : Bool) → false || (k && false) ≡ true → false ≡ true
        none true h = h
        none false h = h
    asked_each keeps es ids (standing.one_part _ e fs id more one rest) =
        told_less x (in_any (asks code x) (id ∷ more) || (keeps && kept_in code x (id ∷ more))) ((asks code x id.0 || (keeps && among x (kept_of code id.0))) || (in_any (asks code x) more || (keeps && kept_in code x more)))
        (λ bound found. uses_in (map writing fs) bound ((writing e).uses bound found)) (either_of (asks code x id.0) (in_any (asks code x) more) keeps (among x (kept_of code id.0)) (kept_in code x more))
        (told_two x (asks code x id.0 || (keeps && among x (kept_of code id.0))) (in_any (asks code x) more || (keeps && kept_in code x more)) (writing e).uses (λ bound found. uses_in (map writing fs) bound found)
        (kept_part keeps e id.0 one (asked_in (kept_names keeps (writing e).uses) e id.0 one)) (asked_each keeps fs more rest))

    asked_binds : (bs : List Bound) (binds : List (NameId × ExprId)) (e : Part) (v : ExprId) → BindsStand code here bs binds → Told x (asks code x v.0) (writing e).uses
        → Told x (in_block x binds v (asks code x)) (λ bound found. (writing e).uses (bound_after (map writing_of_bind bs) bound) (uses_in_binds (map writing_of_bind bs) bound found))
    asked_binds bs binds e v standing.no_bind value = value
    asked_binds bs binds e v (standing.one_bind b cs id more one rest) value =
        under_binds b (map writing_of_bind cs) (asks code x id.0) (in_block x more v (asks code x)) (writing e).uses (asked_in [] b.value id.0 one) (asked_binds cs more e v rest value)

  -- of a part that keeps its free names, all that it asks for are kept
  pub asked_kept : (e : Part) (id : ℕ) → Stands code here (kept_names true (writing e).uses) e id → asks code x id ≡ true → among x (kept_of code id) ≡ true
  asked_kept e id stands h =
      let t = asked_in (kept_names true (writing e).uses) e id stands in
      ap (among x) (named code here (kept_names true (writing e).uses) e id stands).1 ∙ t.exactly [] [] ∙ ap (λ v. false || (v && true)) (t.enough h)

-- ---- what is kept is enough

module _ (code : Code) (ordered : IsOrdered code) (here : ℕ) where
  made_part : (e : Part) (id : ℕ) → Stands code here (kept_names true (writing e).uses) e id → (env : Env) (names : Names) → made code id env (picked (get_or code.free id []) names) ≡ made code id env names
  made_part e id stands env names =
      made-same code ordered id env (picked (kept_of code id) names) names (named code here (kept_names true (writing e).uses) e id stands).0
      (agree_picked (λ x. asks code x id) (kept_of code id) names (λ x h. asked_kept code ordered here x e id stands h))

  made_each : (keeps : Bool) (es : List Part) (ids : List ExprId) → keeps ≡ true → EachStands code here keeps es ids → KeepMade code ids
  made_each keeps es ids is (standing.no_part _) = tt
  made_each keeps es ids is (standing.one_part _ e fs id more one rest) =
      (made_part e id.0 (subst (λ b. Stands code here (kept_names b (writing e).uses) e id.0) is one), made_each keeps fs more is rest)

  made_at_node : (id : ℕ) (n : Node) (names : List NameId) → IsAt code id n names → KeepMade code (waiting n) → KeepMade code (waiting (node_at code id))
  made_at_node id n names at h = subst (λ (m : Node). KeepMade code (waiting m)) (sym at.node) h

  nothing_waits : (id : ℕ) (n : Node) (names : List NameId) → IsAt code id n names → waiting n ≡ [] → KeepMade code (waiting (node_at code id))
  nothing_waits id n names at is = made_at_node id n names at (subst (KeepMade code) (sym is) tt)

  by_seq : (b : Bool) (ids : List ExprId) → (b ≡ true → KeepMade code ids) → KeepMade code (if b then ids else [])
  by_seq true ids h = h refl
  by_seq false ids h = tt

  global_not : (o : Option ExprId) → waiting (global_node o) ≡ []
  global_not (Some e) = refl
  global_not None = refl

  call_not : (n : ℕ) (o : Option ExprId) (ids : List ExprId) → waiting (call_node n o ids) ≡ []
  call_not n (Some e) ids = refl
  call_not n None ids = refl

  quotient_not : (a : ExprId) (v : ℤ) → waiting (quotient_node a v) ≡ []
  quotient_not a v = by (int_lt (pos 0) v)
    where
      by : (t : Bool) → waiting (if t then node.Div a v else no_node) ≡ []
      by true = refl
      by false = refl

  warp_not : (vs : List ℤ) (e : ExprId) → waiting (warp_node vs e) ≡ []
  warp_not vs e = by (is_rising (points_of vs))
    where
      by : (t : Bool) → waiting (if t then node.Change (change.Warp (points_of vs)) e else no_node) ≡ []
      by true = refl
      by false = refl

  made_parts : (names : List NameId) (p : Part) (id : ℕ) → Stands code here names p id → KeepMade code (waiting (node_at code id))
  made_parts names p id (standing.number _ _ _ v is at) = nothing_waits id (node.Number v) names at refl
  made_parts names p id (standing.local _ _ _ y is at) = nothing_waits id (node.Local y) names at refl
  made_parts names p id (standing.global _ _ _ n is at) = nothing_waits id (global_node (body_before code here n)) names at (global_not (body_before code here n))
  made_parts names p id (standing.call _ _ _ n es ids is each at) = nothing_waits id (call_node n (body_before code here n) ids) names at (call_not n (body_before code here n) ids)
  made_parts names p id (standing.block _ _ _ bs e binds v is each value at) = nothing_waits id (node.Block binds v) names at refl
  made_parts names p id (standing.apply _ _ _ o es ids is each at) =
      made_at_node id (operator_node o ids) names at (subst (KeepMade code) (sym (operator_waiting o ids)) (by_seq (is_seq o) ids (λ seq. made_each (is_seq o) es ids seq each)))
  made_parts names p id (standing.over _ _ _ a v e is one at) = nothing_waits id (quotient_node e v) names at (quotient_not e v)
  made_parts names p id (standing.repeat _ _ _ InTurn y n e i is one at) = made_at_node id (node.Repeat InTurn y n i) names at (made_part e i.0 one, tt)
  made_parts names p id (standing.repeat _ _ _ Together y n e i is one at) = nothing_waits id (node.Repeat Together y n i) names at refl
  made_parts names p id (standing.nameless _ _ _ e is one) = made_parts names e id one
  made_parts names p id (standing.warp _ _ _ vs e i is one at) = nothing_waits id (warp_node vs i) names at (warp_not vs i)
  made_parts names p id (standing.rate _ _ _ a r e i is one at) = nothing_waits id (node.Change (change.Rate a r) i) names at refl

turn_is : (n : Node) → in_turn n ≡ waiting n
turn_is (node.Mix InTurn es) = refl
turn_is (node.Mix Together es) = refl
turn_is (node.Repeat InTurn y n e) = refl
turn_is (node.Repeat Together y n e) = refl
turn_is _ = refl

-- of a whole table
pub keeps_made : (code : Code) → IsOrdered code → Text code → KeepsMade code
keeps_made code ordered text id = subst (KeepMade code) (sym (turn_is (node_at code id))) (elim (cases_lt id (length code.nodes)) [
  | inl lt ↦ let part : IsSomePart text.declared text.play code id = text.table.each id lt in made_parts code ordered part.here part.names part.part id part.stands
  | inr ge ↦ subst (λ (n : Node). KeepMade code (waiting n)) (sym (get_or_past code.nodes id no_node ge)) tt
])
