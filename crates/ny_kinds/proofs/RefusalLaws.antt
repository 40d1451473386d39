-- What is found of an expression is its kind and the least of its refusals.
use Rattle.std.proofs.Common.{◌≡◌, ℕ, ◌+◌, ◌<◌, ◌≤◌, List, [], ◌∷◌, ◌++◌, map, take, drop, length, get_or, refl, sym, ap, ◌∙◌, arith, subst, Option, Some, None, zero, suc, min, All, inl, inr, add-one}
use Rattle.std.specs.Prelude.{zip, ◌⊎◌, Contains, Bool, true, false, if◌then◌else◌}
use Rattle.std.specs.List.{list_all}
use Rattle.std.specs.Option.{unwrap_or}
use Rattle.std.proofs.lemmas.Bool.{cases_lt}
use Rattle.std.proofs.lemmas.List.Elements.{All-cons, All-nil, Contains-get_or, Contains-append_right}
use Rattle.std.proofs.Math.Seq.{drop-cons, take-length}
use Rattle.ny_resolve.specs.declared.term.Term.{Term}
use Rattle.ny_resolve.specs.declared.term.Term.TheFolds.{fold-Term, fold-Part, fold-Bound, fold-roll-Term, fold-roll-Part, fold-roll-Bound, ind-Part, map-Term}
use Rattle.ny_resolve.specs.declared.term.Term.TheOpen.{Term-F, Part-F, Bound-F}
use Rattle.ny_resolve.specs.declared.term.Term.TheViews.{roll-Term, roll-Part, roll-Bound}
use Rattle.ny_resolve.specs.declared.term.Part.{Part}
use Rattle.ny_resolve.specs.declared.term.Bound.{Bound}
use Rattle.ny_resolve.specs.declared.term.Declared.{Declared}
use Rattle.ny_resolve.specs.declared.term.NameId.{NameId}
use Rattle.ny_kinds.specs.declared.kind.Kind.{Kind}
use Rattle.ny_kinds.specs.declared.kind.Kind.TheVariants.{Number}
use Rattle.ny_kinds.specs.declared.kind.Found.{Found}
use Rattle.ny_kinds.specs.declared.kind.Reached.{Reached}
use Rattle.ny_kinds.specs.Rows.{is_value}
use Rattle.ny_kinds.specs.declared.kind.Judgement.{Judgement}
use Rattle.ny_kinds.specs.declared.kind.Judgement.TheVariants.{Is, Refused, Silent}
use Rattle.ny_kinds.specs.Kinds.{Scope, Behavior, Kinded, KindedBind, Formed, term_kind, bound_kind, part_kind, Several, Several_binds, least, judged, several, several_binds, kind_of, kind_of_bind, named_kind, nothing, with_value, called, behavior, behavior_at, behaviors_after, seen, scope_of, no_declared, kind_named, all_kinds, operands_row, divided_row, sound_row, block_row, returned_row}
use Rattle.ny_kinds.specs.Refusals.{Taken, Body, Call, call_of, Sight, Judged, JudgedBind, Unplaced, Together, Block, taken_at, together, in_block, no_body, with_kind, term_taken, bound_taken, part_taken, taken_of, taken_of_bind, least_of, body_of, bodies_after, value_refusals, values_refusals, play_refusals, refusals}
use Rattle.ny_kinds.specs.Whole.{value_row, play_row, value_fault, values_fault, play_kind, text_kind}
use Rattle.ny_kinds.proofs.Declarations.{seen-step}
use Rattle.ny_kinds.proofs.Joined.{least-assoc}

pub least_of-append : (ps qs : List ℕ) → least_of (ps ++ qs) ≡ least (least_of ps) (least_of qs)
least_of-append [] qs = refl
least_of-append (p ∷ ps) qs = ap (least (Some p)) (least_of-append ps qs) ∙ sym (least-assoc (Some p) (least_of ps) (least_of qs))

abbrev pub found : Taken → Found
found t = record { kind = t.kind; fault = least_of t.refused }

pub judged_taken : (at : ℕ) (row : Judgement) (ps : List ℕ) → judged at row (least_of ps) ≡ found (taken_at at row ps)
judged_taken at (Is k) ps = refl
judged_taken at Refused ps = ap (λ (q : Option ℕ). record { kind = None; fault = q }) (sym (least_of-append ps (at ∷ [])))
judged_taken at Silent ps = refl

-- two places see the same
pub record Agrees (s : Scope) (t : Sight) : Type 0 where
  pub values : s.values ≡ t.values
  pub bodies : (n : ℕ) (ks : List Kind) → get_or s.declared n nothing ks ≡ found (get_or t.bodies n no_body ks)

abbrev kind_of_term : Term → Formed
kind_of_term = fold-Term Formed KindedBind Kinded term_kind bound_kind part_kind

abbrev taken_of_term : Term → Unplaced
taken_of_term = fold-Term Unplaced JudgedBind Judged term_taken bound_taken part_taken

abbrev IsJudged : Part → Type 0
IsJudged p = (s : Scope) (t : Sight) → Agrees s t → kind_of p s ≡ found (taken_of p t)

abbrev IsJudgedTerm : Term → Type 0
IsJudgedTerm f = (at : ℕ) (s : Scope) (t : Sight) → Agrees s t → kind_of_term f at s ≡ found (taken_of_term f at t)

abbrev IsJudgedBind : Bound → Type 0
IsJudgedBind b = ((kind_of_bind b).name ≡ (taken_of_bind b).name) × ((s : Scope) (t : Sight) → Agrees s t → (kind_of_bind b).value s ≡ found ((taken_of_bind b).value t))

-- parts of an expression, each of which is judged
abbrev Parts : Type 0
Parts = List ((p : Part) × IsJudged p)

abbrev parts_in : Parts → List Part
parts_in es = map (λ (e : (p : Part) × IsJudged p). e.0) es

abbrev Binds : Type 0
Binds = List ((b : Bound) × IsJudgedBind b)

abbrev binds_in : Binds → List Bound
binds_in bs = map (λ (b : (b : Bound) × IsJudgedBind b). b.0) bs

abbrev found_several : Together → Several
found_several r = record { kinds = r.kinds; fault = least_of r.refused }

abbrev found_binds : Block → Several_binds
found_binds r = record { values = r.values; kinds = r.kinds; fault = least_of r.refused }

each_part : (es : Parts) (s : Scope) (t : Sight) → Agrees s t → several (map kind_of (parts_in es)) s ≡ found_several (together (map taken_of (parts_in es)) t)
each_part [] s t a = refl
each_part (e ∷ es) s t a =
    let r : Several = several (map kind_of (parts_in es)) s in
    let x : Taken = taken_of e.0 t in
    let y : Together = together (map taken_of (parts_in es)) t in
    ap (λ (f : Found). record { kinds = f.kind ∷ r.kinds; fault = least f.fault r.fault }) (e.1 s t a)
    ∙ ap (λ (q : Several). record { kinds = x.kind ∷ q.kinds; fault = least (least_of x.refused) q.fault }) (each_part es s t a)
    ∙ ap (λ (q : Option ℕ). record { kinds = x.kind ∷ y.kinds; fault = q }) (sym (least_of-append x.refused y.refused))

named : (s : Scope) (t : Sight) (x y : NameId) (k l : Option Kind) → Agrees s t → x ≡ y → k ≡ l → Agrees (with_value x k s) (with_kind y l t)
named s t x y k l a is same = record {
  values = ap (λ (vs : List (NameId × Option Kind)). vs ++ (x, k) ∷ []) a.values ∙ ap (λ (z : NameId). t.values ++ (z, k) ∷ []) is ∙ ap (λ (j : Option Kind). t.values ++ (y, j) ∷ []) same;
  bodies = a.bodies;
}

each_bind : (bs : Binds) (s : Scope) (t : Sight) → Agrees s t → several_binds (map kind_of_bind (binds_in bs)) s ≡ found_binds (in_block (map taken_of_bind (binds_in bs)) t)
each_bind [] s t a = ap (λ (vs : List (NameId × Option Kind)). record { values = vs; kinds = []; fault = None }) a.values
each_bind (b ∷ bs) s t a =
    let f : Found = (kind_of_bind b.0).value s in
    let x : Taken = (taken_of_bind b.0).value t in
    let one : f ≡ found x = b.1.1 s t a in
    let y : Block = in_block (map taken_of_bind (binds_in bs)) (with_kind (taken_of_bind b.0).name (named_kind x.kind) t) in
    let r : Several_binds = several_binds (map kind_of_bind (binds_in bs)) (with_value (kind_of_bind b.0).name (named_kind f.kind) s) in
    let rest : r ≡ found_binds y =
    each_bind bs _ _ (named s t (kind_of_bind b.0).name (taken_of_bind b.0).name (named_kind f.kind) (named_kind x.kind) a b.1.0 (ap (λ (g : Found). named_kind g.kind) one)) in
    ap (λ (g : Found). record { values = r.values; kinds = g.kind ∷ r.kinds; fault = least g.fault r.fault }) one
    ∙ ap (λ (q : Several_binds). record { values = q.values; kinds = x.kind ∷ q.kinds; fault = least (least_of x.refused) q.fault }) rest
    ∙ ap (λ (q : Option ℕ). record { values = y.values; kinds = x.kind ∷ y.kinds; fault = q }) (sym (least_of-append x.refused y.refused))

abbrev found_call : Call → Reached
found_call c = record { row = c.row; fault = least_of c.refused }

abbrev reached_if : Bool → Found → Reached
reached_if b x = if b then record { row = returned_row x.kind; fault = x.fault } else record { row = Refused; fault = None }

abbrev call_if : Bool → Taken → Call
call_if b x = if b then record { row = returned_row x.kind; refused = x.refused } else record { row = Refused; refused = [] }

-- a call, of the kinds of its arguments
reached : (f : Behavior) (g : Body) (ks : Option (List Kind)) → ((ls : List Kind) → f ls ≡ found (g ls)) → called f ks ≡ found_call (call_of g ks)
reached f g None h = refl
reached f g (Some ks) h = ap (reached_if (list_all is_value ks)) (h ks) ∙ by (list_all is_value ks) (g ks)
  where
    by : (b : Bool) (x : Taken) → reached_if b (found x) ≡ found_call (call_if b x)
    by true x = refl
    by false x = refl

-- an expression with one operand
one_operand : (at : ℕ) (row : Option Kind → Judgement) (f : Found) (x : Taken) → f ≡ found x → judged at (row f.kind) f.fault ≡ found (taken_at at (row x.kind) x.refused)
one_operand at row f x is = ap (λ (g : Found). judged at (row g.kind) g.fault) is ∙ judged_taken at (row x.kind) x.refused

two_lists : (at : ℕ) (row : Judgement) (ps qs : List ℕ) → judged at row (least (least_of ps) (least_of qs)) ≡ found (taken_at at row (ps ++ qs))
two_lists at row ps qs = ap (judged at row) (sym (least_of-append ps qs)) ∙ judged_taken at row (ps ++ qs)

-- a layer of a term, of those below it
layer : (x : Term-F Term Bound Part) (at : ℕ) (s : Scope) (t : Sight)
    → term_kind (map-Term Term Bound Part Formed KindedBind Kinded kind_of_term kind_of_bind kind_of x) at s ≡ found (term_taken (map-Term Term Bound Part Unplaced JudgedBind Judged taken_of_term taken_of_bind taken_of x) at t)
    → kind_of_term (roll-Term x) at s ≡ found (taken_of_term (roll-Term x) at t)
layer x at s t h =
    ap (λ (g : Formed). g at s) (fold-roll-Term Formed KindedBind Kinded term_kind bound_kind part_kind x) ∙ h
    ∙ sym (ap (λ (g : Unplaced). found (g at t)) (fold-roll-Term Unplaced JudgedBind Judged term_taken bound_taken part_taken x))

abbrev TermOf : Type 0
TermOf = (f : Term) × IsJudgedTerm f

abbrev BoundOf : Type 0
BoundOf = (b : Bound) × IsJudgedBind b

abbrev PartOf : Type 0
PartOf = (p : Part) × IsJudged p

of_term : (y : Term-F TermOf BoundOf PartOf) (at : ℕ) (s : Scope) (t : Sight) → Agrees s t
    → kind_of_term (roll-Term (map-Term TermOf BoundOf PartOf Term Bound Part (λ e. e.0) (λ e. e.0) (λ e. e.0) y)) at s
    ≡ found (taken_of_term (roll-Term (map-Term TermOf BoundOf PartOf Term Bound Part (λ e. e.0) (λ e. e.0) (λ e. e.0) y)) at t)
of_term (Term-F.Number v) at s t a = layer (Term-F.Number v) at s t refl
of_term (Term-F.Local x) at s t a =
    layer (Term-F.Local x) at s t (ap (λ (vs : List (NameId × Option Kind)). record { kind = kind_named x vs; fault = None }) a.values)
of_term (Term-F.Global n) at s t a = layer (Term-F.Global n) at s t refl
of_term (Term-F.Call n es) at s t a =
    let r : Together = together (map taken_of (parts_in es)) t in
    let f : Behavior = get_or s.declared n nothing in
    let c : Call = call_of (get_or t.bodies n no_body) (all_kinds r.kinds) in
    let args : several (map kind_of (parts_in es)) s ≡ found_several r = each_part es s t a in
    let body : called f (all_kinds r.kinds) ≡ found_call c = reached f (get_or t.bodies n no_body) (all_kinds r.kinds) (a.bodies n) in
    layer (Term-F.Call n (parts_in es)) at s t
    (ap (λ (m : Several). judged at (called f (all_kinds m.kinds)).row (least m.fault (called f (all_kinds m.kinds)).fault)) args
    ∙ ap (λ (q : Reached). judged at q.row (least (least_of r.refused) q.fault)) body ∙ two_lists at c.row r.refused c.refused)
of_term (Term-F.Block bs e) at s t a =
    let y : Block = in_block (map taken_of_bind (binds_in bs)) t in
    let binds : several_binds (map kind_of_bind (binds_in bs)) s ≡ found_binds y = each_bind bs s t a in
    let g : Taken = taken_of e.0 (record { values = y.values; bodies = t.bodies }) in
    let value : kind_of e.0 (record { values = y.values; declared = s.declared }) ≡ found g = e.1 _ _ (record { values = refl; bodies = a.bodies }) in
    layer (Term-F.Block (binds_in bs) e.0) at s t
    (ap (λ (m : Several_binds). let f = kind_of e.0 (record { values = m.values; declared = s.declared }) in judged at (block_row m.kinds f.kind) (least m.fault f.fault)) binds
    ∙ ap (λ (f : Found). judged at (block_row y.kinds f.kind) (least (least_of y.refused) f.fault)) value ∙ two_lists at (block_row y.kinds g.kind) y.refused g.refused)
of_term (Term-F.Apply o es) at s t a =
    let r : Together = together (map taken_of (parts_in es)) t in
    layer (Term-F.Apply o (parts_in es)) at s t
    (ap (λ (m : Several). judged at (operands_row o (all_kinds m.kinds)) m.fault) (each_part es s t a) ∙ judged_taken at (operands_row o (all_kinds r.kinds)) r.refused)
of_term (Term-F.Over e v) at s t a = layer (Term-F.Over e.0 v) at s t (one_operand at divided_row (kind_of e.0 s) (taken_of e.0 t) (e.1 s t a))
of_term (Term-F.Repeat o x n e) at s t a =
    layer (Term-F.Repeat o x n e.0) at s t
    (one_operand at sound_row (kind_of e.0 (with_value x (Some Number) s)) (taken_of e.0 (with_kind x (Some Number) t)) (e.1 _ _ (named s t x x (Some Number) (Some Number) a refl refl)))
of_term (Term-F.Nameless e) at s t a = layer (Term-F.Nameless e.0) at s t (one_operand at (λ k. Silent) (kind_of e.0 s) (taken_of e.0 t) (e.1 s t a))
of_term (Term-F.Warp vs e) at s t a = layer (Term-F.Warp vs e.0) at s t (one_operand at sound_row (kind_of e.0 s) (taken_of e.0 t) (e.1 s t a))
of_term (Term-F.Rate w r e) at s t a = layer (Term-F.Rate w r e.0) at s t (one_operand at sound_row (kind_of e.0 s) (taken_of e.0 t) (e.1 s t a))

of_bound : (x : Bound-F Term Bound Part) → IsJudged x.value → IsJudgedBind (roll-Bound x)
of_bound x h =
    let k = fold-roll-Bound Formed KindedBind Kinded term_kind bound_kind part_kind x in
    let j = fold-roll-Bound Unplaced JudgedBind Judged term_taken bound_taken part_taken x in (
      ap (λ (b : KindedBind). b.name) k ∙ sym (ap (λ (b : JudgedBind). b.name) j),
      λ s t a. ap (λ (b : KindedBind). b.value s) k ∙ h s t a ∙ sym (ap (λ (b : JudgedBind). found (b.value t)) j),
    )

of_part : (x : Part-F Term Bound Part) → IsJudgedTerm x.term → IsJudged (roll-Part x)
of_part x h s t a =
    ap (λ (g : Kinded). g s) (fold-roll-Part Formed KindedBind Kinded term_kind bound_kind part_kind x) ∙ h x.at s t a
    ∙ sym (ap (λ (g : Judged). found (g t)) (fold-roll-Part Unplaced JudgedBind Judged term_taken bound_taken part_taken x))

pub each : (p : Part) → IsJudged p
each = ind-Part IsJudgedTerm IsJudgedBind IsJudged
    (λ x y is. subst (λ z. IsJudgedTerm (roll-Term z)) is (of_term y))
    (λ x y is. subst (λ z. IsJudgedBind (roll-Bound z)) is (of_bound _ y.value.1))
    (λ x y is. subst (λ z. IsJudged (roll-Part z)) is (of_part _ y.term.1))

-- ---- declarations

-- declarations that are the same
abbrev AreAlike : List Behavior → List Body → Type 0
AreAlike [] [] = Unit {0}
AreAlike (b ∷ bs) (c ∷ cs) = ((ks : List Kind) → b ks ≡ found (c ks)) × AreAlike bs cs
AreAlike _ _ = ⊥

alike_at : (bs : List Behavior) (cs : List Body) (n : ℕ) (ks : List Kind) → AreAlike bs cs → get_or bs n nothing ks ≡ found (get_or cs n no_body ks)
alike_at [] [] n ks a = refl
alike_at (b ∷ bs) (c ∷ cs) zero ks a = a.0 ks
alike_at (b ∷ bs) (c ∷ cs) (suc n) ks a = alike_at bs cs n ks a.1
alike_at [] (c ∷ cs) n ks a = absurd a
alike_at (b ∷ bs) [] n ks a = absurd a

alike_push : (bs : List Behavior) (cs : List Body) (b : Behavior) (c : Body) → AreAlike bs cs → ((ks : List Kind) → b ks ≡ found (c ks)) → AreAlike (bs ++ b ∷ []) (cs ++ c ∷ [])
alike_push [] [] b c a h = (h, tt)
alike_push (x ∷ bs) (y ∷ cs) b c a h = (a.0, alike_push bs cs b c a.1 h)
alike_push [] (y ∷ cs) b c a h = absurd a
alike_push (x ∷ bs) [] b c a h = absurd a

one_body : (bs : List Behavior) (cs : List Body) (d : Declared) → AreAlike bs cs → (ks : List Kind) → behavior bs d ks ≡ found (body_of cs d ks)
unfolding behavior
one_body bs cs d a ks = each d.body _ _ (record { values = refl; bodies = λ n ls. alike_at bs cs n ls a })

alike_after : (ds : List Declared) (bs : List Behavior) (cs : List Body) → AreAlike bs cs → AreAlike (behaviors_after bs ds) (bodies_after cs ds)
alike_after [] bs cs a = a
alike_after (d ∷ ds) bs cs a = alike_after ds _ _ (alike_push bs cs (behavior bs d) (body_of cs d) a (one_body bs cs d a))

-- ---- the whole text

one_value : (all : List Declared) (d : Declared) (i : ℕ) (cs : List Body) → AreAlike (seen all i) cs → value_fault all i d ≡ least_of (value_refusals cs d)
one_value all d i cs a = by d.is_variable
  where
    t : Sight
    t = record { values = []; bodies = cs }

    f : Found
    f = kind_of d.body (scope_of [] all i)

    x : Taken
    x = taken_of d.body t

    by : (b : Bool) → (if b then (judged d.body.at (value_row f.kind) f.fault).fault else None) ≡ least_of (if b then (taken_at d.body.at (value_row x.kind) x.refused).refused else [])
    by true = ap (λ (g : Found). g.fault) (one_operand d.body.at value_row f x (each d.body _ _ (record { values = refl; bodies = λ n ls. alike_at (seen all i) cs n ls a })))
    by false = refl

values_all : (all xs : List Declared) (i : ℕ) (cs : List Body) → xs ≡ drop i all → i + length xs ≡ length all → AreAlike (seen all i) cs → values_fault all i xs ≡ least_of (values_refusals cs xs)
values_all all [] i cs is len a = refl
values_all all (d ∷ xs) i cs is len a =
    let within : i < length all = omega (arith, len) in
    let c : d ∷ xs ≡ get_or all i no_declared ∷ drop (suc i) all = is ∙ drop-cons all i no_declared within in
    let first : d ≡ get_or all i no_declared = ap (λ (l : List Declared). get_or l 0 no_declared) c in
    let after : xs ≡ drop (i + 1) all = ap (λ (l : List Declared). drop 1 l) c ∙ ap (λ (k : ℕ). drop k all) (sym (add-one i)) in
    let more : AreAlike (seen all (i + 1)) (cs ++ body_of cs d ∷ []) =
    subst (λ (l : List Behavior). AreAlike l (cs ++ body_of cs d ∷ [])) (sym (seen-step all i within))
    (alike_push (seen all i) cs (behavior_at all i) (body_of cs d) a (λ ks. ap (λ (e : Declared). behavior (seen all i) e ks) (sym first) ∙ one_body (seen all i) cs d a ks)) in
    let rest : values_fault all (i + 1) xs ≡ least_of (values_refusals (cs ++ body_of cs d ∷ []) xs) =
    values_all all xs (i + 1) (cs ++ body_of cs d ∷ []) after (omega (arith, len)) more in
    ap (λ (p : Option ℕ). least p (values_fault all (i + 1) xs)) (one_value all d i cs a)
    ∙ ap (λ (q : Option ℕ). least (least_of (value_refusals cs d)) q) rest
    ∙ sym (least_of-append (value_refusals cs d) (values_refusals (cs ++ body_of cs d ∷ []) xs))

played : (ds : List Declared) (play : Option Part) → (play_kind ds play).fault ≡ least_of (play_refusals (bodies_after [] ds) play)
played ds None = refl
played ds (Some e) =
    let all : AreAlike (seen ds (length ds)) (bodies_after [] ds) =
    subst (λ (xs : List Declared). AreAlike (behaviors_after [] xs) (bodies_after [] ds)) (sym (take-length ds)) (alike_after ds [] [] tt) in
    ap (λ (g : Found). g.fault)
    (one_operand e.at play_row (kind_of e (scope_of [] ds (length ds))) (taken_of e (record { values = []; bodies = bodies_after [] ds }))
    (each e _ _ (record { values = refl; bodies = λ n ls. alike_at (seen ds (length ds)) (bodies_after [] ds) n ls all })))

-- the place that is told of a text is the least of its refusals
pub text_refusals : (ds : List Declared) (play : Option Part) → (text_kind ds play).fault ≡ least_of (refusals ds play)
unfolding text_kind refusals
text_refusals ds play =
    ap (λ (p : Option ℕ). least p (play_kind ds play).fault) (values_all ds ds 0 [] refl (omega arith) tt)
    ∙ ap (least (least_of (values_refusals [] ds))) (played ds play)
    ∙ sym (least_of-append (values_refusals [] ds) (play_refusals (bodies_after [] ds) play))

-- ---- the least of some places

some_same : (p q : ℕ) → Some p ≡ Some q → p ≡ q
some_same p q is = ap (λ (o : Option ℕ). unwrap_or o 0) is

none_of : (ps : List ℕ) → least_of ps ≡ None → ps ≡ []
none_of [] is = refl
none_of (p ∷ ps) is = by (least_of ps) is
  where
    by : (m : Option ℕ) {A : Type 0} → least (Some p) m ≡ None → A
    by None e = cc
    by (Some q) e = cc

head : (p : ℕ) (ps : List ℕ) → Contains (p ∷ ps) p
head p ps = Contains-get_or (p ∷ ps) 0 p (omega arith)

-- it is one of them, and none is less
least_is : (ps : List ℕ) (p : ℕ) → least_of ps ≡ Some p → Contains ps p × All (λ (q : ℕ). p ≤ q) ps
least_is [] p is = cc
least_is (x ∷ xs) p is = by (least_of xs) refl is (λ q e. least_is xs q e)
  where
    by : (m : Option ℕ) → least_of xs ≡ m → least (Some x) m ≡ Some p → ((q : ℕ) → least_of xs ≡ Some q → Contains xs q × All (λ (r : ℕ). q ≤ r) xs)
        → Contains (x ∷ xs) p × All (λ (q : ℕ). p ≤ q) (x ∷ xs)
    by None e h before =
        let same : x ≡ p = some_same x p h in (
          subst (Contains (x ∷ xs)) same (head x xs),
          All-cons (λ (q : ℕ). p ≤ q) x xs (omega (arith, same)) (subst (All (λ (q : ℕ). p ≤ q)) (sym (none_of xs e)) (All-nil (λ (q : ℕ). p ≤ q))),
        )
    by (Some q) e h before =
        let same : min x q ≡ p = some_same (min x q) p h in
        let rest : Contains xs q × All (λ (r : ℕ). q ≤ r) xs = before q e in (
          which same rest (cases_lt x q),
          All-cons (λ (r : ℕ). p ≤ r) x xs (omega (arith, same)) (λ i d l. let each : q ≤ get_or xs i d = rest.1 i d l in omega (arith, same)),
        )
      where
        which : min x q ≡ p → Contains xs q × All (λ (r : ℕ). q ≤ r) xs → ((x < q) ⊎ (q ≤ x)) → Contains (x ∷ xs) p
        which same rest (inl lt) = let is : x ≡ p = omega (arith, same) in subst (Contains (x ∷ xs)) is (head x xs)
        which same rest (inr ge) = let is : q ≡ p = omega (arith, same) in subst (Contains (x ∷ xs)) is (Contains-append_right (x ∷ []) xs q rest.0)

pub told : (ds : List Declared) (play : Option Part) (p : ℕ) → (text_kind ds play).fault ≡ Some p → Contains (refusals ds play) p × All (λ (q : ℕ). p ≤ q) (refusals ds play)
told ds play p is = least_is (refusals ds play) p (sym (text_refusals ds play) ∙ is)

pub none_told : (ds : List Declared) (play : Option Part) → (text_kind ds play).fault ≡ None → refusals ds play ≡ []
none_told ds play is = none_of (refusals ds play) (sym (text_refusals ds play) ∙ is)
