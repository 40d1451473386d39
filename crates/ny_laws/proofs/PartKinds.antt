-- A part of which no kind is refused has a kind, and its node is of it.
use Rattle.std.proofs.Common.{◌≡◌, ℕ, ◌<◌, ◌≤◌, Bool, true, false, List, [], ◌∷◌, ◌++◌, map, length, get_or, refl, sym, ap, ◌∙◌, subst, Option, Some, None, pos, suc}
use Rattle.std.specs.Prelude.{ℤ, ◌&&◌, ◌||◌, not, zip, nat_eq, nat_lt, if◌then◌else◌, int_lt}
use Rattle.std.specs.List.{list_any, list_all}
use Rattle.std.proofs.lemmas.Bool.{ltb-true, eqb-true}
use Rattle.ny_warp.specs.Maps.{is_rising}
use Rattle.ny_resolve.specs.declared.term.NameId.{NameId}
use Rattle.ny_resolve.specs.declared.term.Term.{Term}
use Rattle.ny_resolve.specs.declared.term.Term.TheVariants.{rolls-Number, rolls-Local, rolls-Global, rolls-Call, rolls-Block, rolls-Apply, rolls-Over, rolls-Repeat, rolls-Nameless, rolls-Warp, rolls-Rate}
use Rattle.ny_resolve.specs.declared.term.Term.TheOpen.{Term-F}
use Rattle.ny_resolve.specs.declared.term.Term.TheFolds.{map-Term}
use Rattle.ny_resolve.specs.declared.term.Term.TheViews.{roll-Term}
use Rattle.ny_resolve.specs.declared.term.Part.{Part}
use Rattle.ny_resolve.specs.declared.term.Bound.{Bound}
use Rattle.ny_resolve.specs.declared.term.Declared.{Declared}
use Rattle.ny_resolve.specs.Builtins.{operator_arity, fits}
use Rattle.ny_resolve.specs.Literals.{is_zero}
use Rattle.ny_kinds.specs.declared.kind.Kind.{Kind}
use Rattle.ny_kinds.specs.declared.kind.Kind.TheVariants.{Number, Sound}
use Rattle.ny_kinds.specs.declared.kind.Found.{Found}
use Rattle.ny_kinds.specs.declared.kind.Reached.{Reached}
use Rattle.ny_kinds.specs.declared.kind.Judgement.{Judgement}
use Rattle.ny_kinds.specs.declared.kind.Judgement.TheVariants.{Is, Refused, Silent}
use Rattle.ny_kinds.specs.Rows.{is_number, is_sound, is_test, is_value, operator_row}
use Rattle.ny_kinds.specs.Kinds.{Scope, Behavior, Kinded, KindedBind, Formed, Several, Several_binds, term_kind, least, judged, several, several_binds, kind_of, kind_of_bind, named_kind, nothing, with_value, called, behavior_at, seen, no_declared, all_kinds, one_more, operands_row, divided_row, sound_row, block_row, returned_row, is_refused_bind, is_silent_bind}
use Rattle.ny_kinds.proofs.Declarations.{seen-at}
use Rattle.ny_check.specs.declared.node.Node.TheVariants as node
use Rattle.ny_check.specs.declared.node.Change.TheVariants as change
use Rattle.ny_check.specs.declared.node.ExprId.{ExprId}
use Rattle.ny_check.specs.Code.{Code, node_at, no_node, function_at}
use Rattle.ny_check.specs.Writing.{writing, kept_names, is_seq, is_in_turn, global_node, call_node, points_of, quotient_node}
use Rattle.ny_laws.specs.Standing.{IsAt, Stands, EachStands, BindsStand, body_before}
use Rattle.ny_laws.specs.Standing as standing
use Rattle.ny_laws.specs.Kinds.{Kinds, IsOf, AreOf, AllOf, BindsAreOf, AreValues}
use Rattle.ny_laws.specs.Kinds as kinds
use Rattle.ny_laws.specs.Whole.{Place, Tested, TestedBind, all_whole, block_whole, with_name, is_times, term_whole, is_whole, is_whole_bind, few}
use Rattle.ny_laws.proofs.Layers.{kind_of_term, whole_term, kind-at, kind-bind, whole-at, whole-bind}
use Rattle.ny_laws.proofs.KindNames.{some_values, names_of, AllValue, some_push, names_push, values_push, bound_kind_of}
use Rattle.ny_laws.proofs.OperatorKinds.{both_true, given_is, number_is, sound_is, operator_is, same_length}
use Rattle.ny_laws.proofs.Rows.{Speaks, given_speaks, operator_speaks, least_none, parts_fault, row_kind, returned}

-- a declaration of this number: its body is of a kind, for arguments of these kinds of which none is refused
abbrev pub Known : Code → List Declared → ℕ → Type 0
Known code ds n =
    (ks : List Kind) → AreValues ks → length ks ≡ length (get_or ds n no_declared).params → (behavior_at ds n ks).fault ≡ None
    → (k : Kind) × ((behavior_at ds n ks).kind ≡ Some k) × IsOf code (zip (function_at code n).params ks) (function_at code n).body.0 k

-- a global variable of this number is a number
abbrev pub IsGlobal : Code → List Declared → ℕ → Type 0
IsGlobal code ds n = (get_or ds n no_declared).is_variable ≡ true → IsOf code [] (function_at code n).body.0 Number

kinded_binds : List Bound → List KindedBind
kinded_binds bs = map (λ (b : Bound). record { name = b.name; value = kind_of b.value }) bs

binds_are : (bs : List Bound) → map kind_of_bind bs ≡ map (λ (b : Bound). record { name = b.name; value = kind_of b.value }) bs
binds_are [] = refl
binds_are (b ∷ bs) =
    ap (λ (w : KindedBind). w ∷ map kind_of_bind bs) (kind-bind b)
    ∙ ap (λ (ws : List KindedBind). record { name = b.name; value = kind_of b.value } ∷ ws) (binds_are bs)

tests_are : (bs : List Bound) → map is_whole_bind bs ≡ map (λ (b : Bound). record { name = b.name; value = is_whole b.value }) bs
tests_are [] = refl
tests_are (b ∷ bs) =
    ap (λ (w : TestedBind). w ∷ map is_whole_bind bs) (whole-bind b)
    ∙ ap (λ (ws : List TestedBind). record { name = b.name; value = is_whole b.value } ∷ ws) (tests_are bs)

mapped_count : {A B : Type 0} (f : A → B) (xs : List A) → length (map f xs) ≡ length xs
mapped_count f [] = refl
mapped_count f (x ∷ xs) = ap (λ (n : ℕ). suc n) (mapped_count f xs)

only_left : (a b : Bool) → a || b ≡ false → (a ≡ false) × (b ≡ false)
only_left true b h = cc
only_left false b h = (refl, h)

not_true : (b : Bool) → not b ≡ false → b ≡ true
not_true true h = refl
not_true false h = cc

abbrev reached_if : Bool → Found → Reached
reached_if b x = if b then record { row = returned_row x.kind; fault = x.fault } else record { row = Refused; fault = None }

all_are : (ks : List Kind) → list_all is_value ks ≡ true → AreValues ks
all_are [] h = tt
all_are (k ∷ ks) h = let parts = both_true (is_value k) (list_all is_value ks) h in (parts.0, all_are ks parts.1)

module _ (code : Code) (ds : List Declared) (here : ℕ) (within : here ≤ length ds) (known : (n : ℕ) → n < here → Known code ds n) (globals : (n : ℕ) → n < here → IsGlobal code ds n) where
  abbrev scope : Kinds → Scope
  scope values = record { values = some_values values; declared = seen ds here }

  abbrev place : Kinds → Place
  place values = record { declared = ds; here = here; names = names_of values }

  abbrev Made : Part → ℕ → Kinds → Type 0
  Made p id values = (k : Kind) × ((kind_of p (scope values)).kind ≡ Some k) × IsOf code values id k

  -- several parts, each of a kind
  abbrev AreMade : List Part → List ExprId → Kinds → Type 0
  AreMade es ids values = (ks : List Kind) × (all_kinds (several (map kind_of es) (scope values)).kinds ≡ Some ks) × AreOf code values ids ks

  made_at : (p : Part) (id : ℕ) (values : Kinds) (x : Term-F Term Bound Part) → p.term ≡ roll-Term x
      → let f = term_kind (map-Term Term Bound Part Formed KindedBind Kinded kind_of_term kind_of_bind kind_of x) p.at (scope values) in
      ((f.fault ≡ None) → (k : Kind) × (f.kind ≡ Some k) × IsOf code values id k) → (kind_of p (scope values)).fault ≡ None → Made p id values
  made_at p id values x is h none =
      let same = ap (λ (g : Kinded). g (scope values)) (kind-at p x is) in
      let made = h (ap (λ (f : Found). f.fault) (sym same) ∙ none) in (made.0, ap (λ (f : Found). f.kind) same ∙ made.1, made.2)

  whole_of : (p : Part) (values : Kinds) (x : Term-F Term Bound Part) → p.term ≡ roll-Term x → is_whole p (place values) ≡ true
      → term_whole (map-Term Term Bound Part Tested TestedBind Tested whole_term is_whole_bind is_whole x) (place values) ≡ true
  whole_of p values x is h = ap (λ (t : Tested). t (place values)) (sym (whole-at p x is)) ∙ h

  -- by a row that says something
  by_row : (id : ℕ) (values : Kinds) (at : ℕ) (row : Judgement) (fault : Option ℕ) → Speaks row → ((k : Kind) → row ≡ Is k → IsOf code values id k) → (judged at row fault).fault ≡ None
      → (k : Kind) × ((judged at row fault).kind ≡ Some k) × IsOf code values id k
  by_row id values at row fault speaks h none = let is = row_kind at row fault none speaks in (is.0, is.2, h is.0 is.1)

  -- ---- names that are seen later

  later : (values : Kinds) (x : NameId) (k : Kind) → with_value x (Some k) (scope values) ≡ scope (values ++ (x, k) ∷ [])
  later values x k = ap (λ (vs : List (NameId × Option Kind)). record { values = vs; declared = seen ds here }) (sym (some_push values x k))

  later_place : (values : Kinds) (x : NameId) (k : Kind) → with_name x (place values) ≡ place (values ++ (x, k) ∷ [])
  later_place values x k = ap (λ (xs : List NameId). record { declared = ds; here = here; names = xs }) (sym (names_push values x k))

  -- ---- one kind of part after another

  -- a part over one part
  over_one : (id : ℕ) (values inner : Kinds) (at : ℕ) (row : Option Kind → Judgement) (e : Part) (i : ℕ)
      → ((kind_of e (scope inner)).fault ≡ None → Made e i inner) → ((j : Kind) → Speaks (row (Some j))) → ((j k : Kind) → row (Some j) ≡ Is k → IsOf code inner i j → IsOf code values id k)
      → (judged at (row (kind_of e (scope inner)).kind) (kind_of e (scope inner)).fault).fault ≡ None
      → (k : Kind) × ((judged at (row (kind_of e (scope inner)).kind) (kind_of e (scope inner)).fault).kind ≡ Some k) × IsOf code values id k
  over_one id values inner at row e i made speaks rule none =
      let f : Found = kind_of e (scope inner) in
      let one : Made e i inner = made (parts_fault at (row f.kind) f.fault none) in
      let said : Speaks (row f.kind) = subst (λ (o : Option Kind). Speaks (row o)) (sym one.1) (speaks one.0) in
      by_row id values at (row f.kind) f.fault said (λ k is. rule one.0 k (ap row (sym one.1) ∙ is) one.2) none

  sound_speaks : (j : Kind) → Speaks (sound_row (Some j))
  sound_speaks j = given_speaks (is_sound j) Sound

  divided_speaks : (j : Kind) → Speaks (divided_row (Some j))
  divided_speaks j = given_speaks (is_number j) Number

  sound_rule : (id i : ℕ) (values inner : Kinds) → (IsOf code inner i Sound → IsOf code values id Sound) → (j k : Kind) → sound_row (Some j) ≡ Is k → IsOf code inner i j → IsOf code values id k
  sound_rule id i values inner rule j k row of =
      let is = given_is (is_sound j) Sound k row in subst (IsOf code values id) is.1 (rule (subst (IsOf code inner i) (sound_is j is.0) of))

  refused_fault : (at : ℕ) (fault : Option ℕ) → (judged at Refused fault).fault ≡ None → ⊥
  refused_fault at fault h = let is : Refused ≡ Is (row_kind at Refused fault h tt).0 = (row_kind at Refused fault h tt).1 in cc

  call_made : (id : ℕ) (values : Kinds) (at n : ℕ) (ids : List ExprId) (ks : List Kind) (args : Option ℕ) (f : Behavior) → AreOf code values ids ks → node_at code id ≡ node.Call (record { 0 = n }) ids
      → f ≡ behavior_at ds n → n < here → length ks ≡ length (get_or ds n no_declared).params
      → (judged at (called f (Some ks)).row (least args (called f (Some ks)).fault)).fault ≡ None
      → (k : Kind) × ((judged at (called f (Some ks)).row (least args (called f (Some ks)).fault)).kind ≡ Some k) × IsOf code values id k
  call_made id values at n ids ks args f are node same before count none = by (list_all is_value ks) refl none
    where
      by : (b : Bool) → list_all is_value ks ≡ b
          → (judged at (reached_if b (f ks)).row (least args (reached_if b (f ks)).fault)).fault ≡ None
          → (k : Kind) × ((judged at (reached_if b (f ks)).row (least args (reached_if b (f ks)).fault)).kind ≡ Some k) × IsOf code values id k
      by true all h =
          let both = least_none args (f ks).fault (parts_fault at (returned_row (f ks).kind) (least args (f ks).fault) h) in
          let body = known n before ks (all_are ks all) count (ap (λ (g : Behavior). (g ks).fault) (sym same) ∙ both.1) in
          let kind : (f ks).kind ≡ Some body.0 = ap (λ (g : Behavior). (g ks).kind) same ∙ body.1 in
          let said : Speaks (returned_row (f ks).kind) = subst (λ (o : Option Kind). Speaks (returned_row o)) (sym kind) (given_speaks (not (is_test body.0)) body.0) in
          by_row id values at (returned_row (f ks).kind) (least args (f ks).fault) said
          (λ k is. let r = returned body.0 k (ap returned_row (sym kind) ∙ is) in
          subst (IsOf code values id) r.1 (kinds.call values id (record { 0 = n }) ids ks body.0 node are (all_are ks all) body.2 r.0)) h
      by false all h = absurd (refused_fault at (least args None) h)

  some_silent : (rest : Option (List Kind)) (k : Kind) (ks : List Kind) → rest ≡ Some ks → one_more (Some k) rest ≡ Some (k ∷ ks)
  some_silent rest k ks is = ap (one_more (Some k)) is

  -- what is said of a block whose binds have these kinds
  block_said : (kinds_of : List (Option Kind)) (e : Option Kind) → list_any is_refused_bind kinds_of ≡ false → list_any is_silent_bind kinds_of ≡ false → block_row kinds_of e ≡ returned_row e
  block_said kinds_of e refused silent =
      ap (λ (b : Bool). if b then Refused else (if list_any is_silent_bind kinds_of then Silent else returned_row e)) refused
      ∙ ap (λ (b : Bool). if b then Silent else returned_row e) silent

  block_refused : (kinds_of : List (Option Kind)) (e : Option Kind) (b : Bool) → list_any is_refused_bind kinds_of ≡ b → b ≡ true → block_row kinds_of e ≡ Refused
  block_refused kinds_of e b is holds = ap (λ (t : Bool). if t then Refused else (if list_any is_silent_bind kinds_of then Silent else returned_row e)) (is ∙ holds)

  none_refused : (at : ℕ) (kinds_of : List (Option Kind)) (e : Option Kind) (fault : Option ℕ) → (judged at (block_row kinds_of e) fault).fault ≡ None → list_any is_refused_bind kinds_of ≡ false
  none_refused at kinds_of e fault none = by (list_any is_refused_bind kinds_of) refl
    where
      by : (b : Bool) → list_any is_refused_bind kinds_of ≡ b → list_any is_refused_bind kinds_of ≡ false
      by false is = is
      by true is = absurd (refused_fault at fault (ap (λ (j : Judgement). (judged at j fault).fault) (sym (block_refused kinds_of e true is refl)) ∙ none))

  -- a block: the names after its binds, and what is said of it
  record BlockMade (binds : List (NameId × ExprId)) (values : Kinds) (e : Tested) (made : Several_binds) : Type 0 where
    inner : Kinds
    of : BindsAreOf code values binds inner
    all : AllValue inner
    same : made.values ≡ some_values inner
    whole : e (place inner) ≡ true
    silent : list_any is_silent_bind made.kinds ≡ false

  -- a quotient is a number, whatever it is divided by
  quotient_is : (id : ℕ) (values : Kinds) (e : ExprId) (v : ℤ) → node_at code id ≡ quotient_node e v → IsOf code values e.0 Number → IsOf code values id Number
  quotient_is id values e v at of = by (int_lt (pos 0) v) refl
    where
      by : (b : Bool) → int_lt (pos 0) v ≡ b → IsOf code values id Number
      by true is = kinds.quotient values id e v (at ∙ ap (λ (b : Bool). if b then node.Div e v else no_node) is) of
      by false is = kinds.number values id (pos 0) (at ∙ ap (λ (b : Bool). if b then node.Div e v else no_node) is)

  each_count : (keeps : Bool) (es : List Part) (ids : List ExprId) → EachStands code here keeps es ids → length es ≡ length ids
  each_count keeps es ids (standing.no_part _) = refl
  each_count keeps es ids (standing.one_part _ e fs id more one rest) = ap (λ (n : ℕ). suc n) (each_count keeps fs more rest)

  -- one more bind, which is a number or a sound
  module _ (b : Bound) (cs : List Bound) (id : ExprId) (more : List (NameId × ExprId)) (e : Tested) (values : Kinds) (all : AllValue values) where
    abbrev first_of : Found
    first_of = kind_of b.value (scope values)

    abbrev after : KindedBind → Several_binds
    after w = several_binds (w ∷ map kind_of_bind cs) (scope values)

    abbrev rest_of : Several_binds
    rest_of = several_binds (map kind_of_bind cs) (with_value b.name (named_kind first_of.kind) (scope values))

    abbrev RestMade : Type 0
    RestMade =
        (x : NameId) (k : Kind) → is_value k ≡ true → block_whole (map is_whole_bind cs) e (place (values ++ (x, k) ∷ [])) ≡ true
        → (several_binds (map kind_of_bind cs) (scope (values ++ (x, k) ∷ []))).fault ≡ None
        → list_any is_refused_bind (several_binds (map kind_of_bind cs) (scope (values ++ (x, k) ∷ []))).kinds ≡ false
        → BlockMade more (values ++ (x, k) ∷ []) e (several_binds (map kind_of_bind cs) (scope (values ++ (x, k) ∷ [])))

    bind_step : (first : Made b.value id.0 values) → RestMade → is_value first.0 ≡ true → block_whole (map is_whole_bind cs) e (with_name b.name (place values)) ≡ true → rest_of.fault ≡ None
        → list_any is_refused_bind rest_of.kinds ≡ false → BlockMade ((b.name, id) ∷ more) values e (after (record { name = b.name; value = kind_of b.value }))
    bind_step first rest value whole none refused =
        let k : Kind = first.0 in
        let named : named_kind first_of.kind ≡ Some k = ap named_kind first.1 ∙ ap (λ (t : Bool). if t then Some k else None) value in
        let seen_then : with_value b.name (named_kind first_of.kind) (scope values) ≡ scope (values ++ (b.name, k) ∷ []) =
        ap (λ (o : Option Kind). with_value b.name o (scope values)) named ∙ later values b.name k in
        let same : rest_of ≡ several_binds (map kind_of_bind cs) (scope (values ++ (b.name, k) ∷ [])) = ap (λ (s : Scope). several_binds (map kind_of_bind cs) s) seen_then in
        let block : BlockMade more (values ++ (b.name, k) ∷ []) e (several_binds (map kind_of_bind cs) (scope (values ++ (b.name, k) ∷ []))) =
        rest b.name k value (ap (λ (s : Place). block_whole (map is_whole_bind cs) e s) (sym (later_place values b.name k)) ∙ whole)
        (ap (λ (m : Several_binds). m.fault) (sym same) ∙ none) (ap (λ (m : Several_binds). list_any is_refused_bind m.kinds) (sym same) ∙ refused) in record {
          inner = block.inner;
          of = kinds.one_bind values b.name id more k block.inner first.2 value block.of;
          all = block.all;
          same = ap (λ (m : Several_binds). m.values) same ∙ block.same;
          whole = block.whole;
          silent = ap (λ (o : Option Kind). is_silent_bind o || list_any is_silent_bind rest_of.kinds) first.1 ∙ ap (λ (m : Several_binds). list_any is_silent_bind m.kinds) same ∙ block.silent;
        }

    abbrev Told : KindedBind → Type 0
    Told w = (after w).fault ≡ None → list_any is_refused_bind (after w).kinds ≡ false → BlockMade ((b.name, id) ∷ more) values e (after w)

    one_more_bind : (is_whole b.value (place values) ≡ true → first_of.fault ≡ None → Made b.value id.0 values) → RestMade
        → block_whole (map is_whole_bind (b ∷ cs)) e (place values) ≡ true → Told (kind_of_bind b)
    one_more_bind made rest whole =
        let told : is_whole b.value (place values) && block_whole (map is_whole_bind cs) e (with_name b.name (place values)) ≡ true =
        ap (λ (w : TestedBind). block_whole (w ∷ map is_whole_bind cs) e (place values)) (sym (whole-bind b)) ∙ whole in
        let parts = both_true (is_whole b.value (place values)) (block_whole (map is_whole_bind cs) e (with_name b.name (place values))) told in
        subst Told (sym (kind-bind b))
        (λ none refused. let both = least_none first_of.fault rest_of.fault none in
        let no_refused = only_left (is_refused_bind first_of.kind) (list_any is_refused_bind rest_of.kinds) refused in
        let first : Made b.value id.0 values = made parts.0 both.0 in
        bind_step first rest (not_true (is_value first.0) (ap is_refused_bind (sym first.1) ∙ no_refused.0)) parts.1 both.1 no_refused.1)

  mutual
    pub kinded : (names : List NameId) (p : Part) (id : ℕ) → Stands code here names p id → (values : Kinds) → AllValue values → is_whole p (place values) ≡ true
        → (kind_of p (scope values)).fault ≡ None → Made p id values
    kinded names p id (standing.number _ _ _ v is at) values all whole none =
        made_at p id values (Term-F.Number v) (is ∙ sym (rolls-Number v)) (λ h. (Number, refl, kinds.number values id v at.node)) none
    kinded names p id (standing.local _ _ _ x is at) values all whole none =
        let bound = bound_kind_of x values all (whole_of p values (Term-F.Local x) (is ∙ sym (rolls-Local x)) whole) in
        made_at p id values (Term-F.Local x) (is ∙ sym (rolls-Local x)) (λ h. (bound.0, bound.3, kinds.local values id x bound.0 at.node bound.1 bound.2)) none
    kinded names p id (standing.global _ _ _ n is at) values all whole none =
        let parts = both_true (nat_lt n here) (get_or ds n no_declared).is_variable (whole_of p values (Term-F.Global n) (is ∙ sym (rolls-Global n)) whole) in
        let node : node_at code id ≡ node.Global (function_at code n).body = at.node ∙ ap (λ (b : Bool). global_node (if b then Some (function_at code n).body else None)) parts.0 in
        made_at p id values (Term-F.Global n) (is ∙ sym (rolls-Global n))
        (λ h. (Number, refl, kinds.global values id (function_at code n).body node (globals n (ltb-true n here parts.0) parts.1))) none
    kinded names p id (standing.call _ _ _ n es ids is each at) values all whole none =
        let told = whole_of p values (Term-F.Call n es) (is ∙ sym (rolls-Call n es)) whole in
        let parts = both_true (nat_lt n here && nat_eq (length (map is_whole es)) (length (get_or ds n no_declared).params)) (all_whole (map is_whole es) (place values)) told in
        let counts = both_true (nat_lt n here) (nat_eq (length (map is_whole es)) (length (get_or ds n no_declared).params)) parts.0 in
        let before : n < here = ltb-true n here counts.0 in
        let f : Behavior = get_or (seen ds here) n nothing in
        let node : node_at code id ≡ node.Call (record { 0 = n }) ids = at.node ∙ ap (λ (b : Bool). call_node n (if b then Some (function_at code n).body else None) ids) counts.0 in
        made_at p id values (Term-F.Call n es) (is ∙ sym (rolls-Call n es))
        (λ h. let s : Several = several (map kind_of es) (scope values) in
        let args = several_kinded false es ids each values all parts.1 (least_none s.fault (called f (all_kinds s.kinds)).fault
        (parts_fault p.at (called f (all_kinds s.kinds)).row (least s.fault (called f (all_kinds s.kinds)).fault) h)).0 in
        let same : all_kinds s.kinds ≡ Some args.0 = args.1 in
        let made = call_made id values p.at n ids args.0 s.fault f args.2 node (seen-at ds here n within before) before
        (sym (same_length code values ids args.0 args.2) ∙ sym (each_count false es ids each) ∙ sym (mapped_count is_whole es) ∙ eqb-true (length (map is_whole es)) (length (get_or ds n no_declared).params) counts.1)
        (ap (λ (o : Option (List Kind)). (judged p.at (called f o).row (least s.fault (called f o).fault)).fault) (sym same) ∙ h) in
        (made.0, ap (λ (o : Option (List Kind)). (judged p.at (called f o).row (least s.fault (called f o).fault)).kind) same ∙ made.1, made.2)) none
    kinded names p id (standing.block _ _ _ bs e binds v is each value at) values all whole none =
        made_at p id values (Term-F.Block bs e) (is ∙ sym (rolls-Block bs e))
        (λ h. let m : Several_binds = several_binds (map kind_of_bind bs) (scope values) in
        let f : Found = kind_of e (record { values = m.values; declared = seen ds here }) in
        let both = least_none m.fault f.fault (parts_fault p.at (block_row m.kinds f.kind) (least m.fault f.fault) h) in
        let refused = none_refused p.at m.kinds f.kind (least m.fault f.fault) h in
        let block : BlockMade binds values (is_whole e) m = binds_kinded bs binds (is_whole e) each values all (whole_of p values (Term-F.Block bs e) (is ∙ sym (rolls-Block bs e)) whole) both.0 refused in
        let moved : f ≡ kind_of e (scope block.inner) = ap (λ (vs : List (NameId × Option Kind)). kind_of e (record { values = vs; declared = seen ds here })) block.same in
        let body : Made e v.0 block.inner = kinded [] e v.0 value block.inner block.all block.whole (ap (λ (g : Found). g.fault) (sym moved) ∙ both.1) in
        let kind : f.kind ≡ Some body.0 = ap (λ (g : Found). g.kind) moved ∙ body.1 in
        let row : block_row m.kinds f.kind ≡ returned_row (Some body.0) = block_said m.kinds f.kind refused block.silent ∙ ap returned_row kind in
        by_row id values p.at (block_row m.kinds f.kind) (least m.fault f.fault) (subst Speaks (sym row) (given_speaks (not (is_test body.0)) body.0))
        (λ k said. let r = returned body.0 k (sym row ∙ said) in
        subst (IsOf code values id) r.1 (kinds.block values id binds v block.inner body.0 at.node block.of body.2 r.0)) h) none
    kinded names p id (standing.apply _ _ _ o es ids is each at) values all whole none =
        let told = whole_of p values (Term-F.Apply o es) (is ∙ sym (rolls-Apply o es)) whole in
        let parts = both_true (fits (operator_arity o) (length (map is_whole es)) && few o (length (map is_whole es))) (all_whole (map is_whole es) (place values)) told in
        made_at p id values (Term-F.Apply o es) (is ∙ sym (rolls-Apply o es))
        (λ h. let s : Several = several (map kind_of es) (scope values) in
        let args = several_kinded (is_seq o) es ids each values all parts.1 (parts_fault p.at (operands_row o (all_kinds s.kinds)) s.fault h) in
        let row : operands_row o (all_kinds s.kinds) ≡ operator_row o args.0 = ap (operands_row o) args.1 in
        by_row id values p.at (operands_row o (all_kinds s.kinds)) s.fault (subst Speaks (sym row) (operator_speaks o args.0))
        (λ k said. operator_is code values id o ids args.0
        (ap (λ (n : ℕ). fits (operator_arity o) n && few o n) (sym (mapped_count is_whole es ∙ each_count (is_seq o) es ids each)) ∙ parts.0) k at.node args.2 (sym row ∙ said)) h) none
    kinded names p id (standing.over _ _ _ a v e is one at) values all whole none =
        let told = (both_true (not (is_zero v)) (is_whole a (place values)) (whole_of p values (Term-F.Over a v) (is ∙ sym (rolls-Over a v)) whole)).1 in
        made_at p id values (Term-F.Over a v) (is ∙ sym (rolls-Over a v))
        (over_one id values values p.at divided_row a e.0 (kinded [] a e.0 one values all told) divided_speaks
        (λ j k row of. let g = given_is (is_number j) Number k row in
        subst (IsOf code values id) g.1 (quotient_is id values e v at.node (subst (IsOf code values e.0) (number_is j g.0) of)))) none
    kinded names p id (standing.repeat _ _ _ o x n e i is one at) values all whole none =
        let inner : Kinds = values ++ (x, Number) ∷ [] in
        let told = (both_true (is_times n) (is_whole e (with_name x (place values))) (whole_of p values (Term-F.Repeat o x n e) (is ∙ sym (rolls-Repeat o x n e)) whole)).1 in
        made_at p id values (Term-F.Repeat o x n e) (is ∙ sym (rolls-Repeat o x n e))
        (subst (λ (s : Scope). (judged p.at (sound_row (kind_of e s).kind) (kind_of e s).fault).fault ≡ None
        → (k : Kind) × ((judged p.at (sound_row (kind_of e s).kind) (kind_of e s).fault).kind ≡ Some k) × IsOf code values id k) (sym (later values x Number))
        (over_one id values inner p.at sound_row e i.0
        (kinded (kept_names (is_in_turn o) (writing e).uses) e i.0 one inner (values_push values x Number all refl) (ap (λ (s : Place). is_whole e s) (sym (later_place values x Number)) ∙ told)) sound_speaks
        (sound_rule id i.0 values inner (kinds.repeat values id o x n i at.node)))) none
    kinded names p id (standing.nameless _ _ _ e is one) values all whole none = let told = whole_of p values (Term-F.Nameless e) (is ∙ sym (rolls-Nameless e)) whole in cc
    kinded names p id (standing.warp _ _ _ vs e i is one at) values all whole none =
        let parts = both_true (is_rising (points_of vs)) (is_whole e (place values)) (whole_of p values (Term-F.Warp vs e) (is ∙ sym (rolls-Warp vs e)) whole) in
        let node : node_at code id ≡ node.Change (change.Warp (points_of vs)) i = at.node ∙ ap (λ (b : Bool). if b then node.Change (change.Warp (points_of vs)) i else no_node) parts.0 in
        made_at p id values (Term-F.Warp vs e) (is ∙ sym (rolls-Warp vs e))
        (over_one id values values p.at sound_row e i.0 (kinded [] e i.0 one values all parts.1) sound_speaks (sound_rule id i.0 values values (kinds.warped values id (points_of vs) i node))) none
    kinded names p id (standing.rate _ _ _ a r e i is one at) values all whole none =
        let told = whole_of p values (Term-F.Rate a r e) (is ∙ sym (rolls-Rate a r e)) whole in
        made_at p id values (Term-F.Rate a r e) (is ∙ sym (rolls-Rate a r e))
        (over_one id values values p.at sound_row e i.0 (kinded [] e i.0 one values all told) sound_speaks (sound_rule id i.0 values values (kinds.rated values id a r i at.node))) none

    several_kinded : (keeps : Bool) (es : List Part) (ids : List ExprId) → EachStands code here keeps es ids → (values : Kinds) → AllValue values
        → all_whole (map is_whole es) (place values) ≡ true → (several (map kind_of es) (scope values)).fault ≡ None → AreMade es ids values
    several_kinded keeps es ids (standing.no_part _) values all whole none = ([], refl, kinds.none_of values)
    several_kinded keeps es ids (standing.one_part _ e fs id more one rest) values all whole none =
        let parts = both_true (is_whole e (place values)) (all_whole (map is_whole fs) (place values)) whole in
        let s : Several = several (map kind_of fs) (scope values) in
        let f : Found = kind_of e (scope values) in
        let both = least_none f.fault s.fault none in
        let first : Made e id.0 values = kinded (kept_names keeps (writing e).uses) e id.0 one values all parts.0 both.0 in
        let others : AreMade fs more values = several_kinded keeps fs more rest values all parts.1 both.1 in (
          first.0 ∷ others.0,
          ap (λ (o : Option Kind). one_more o (all_kinds s.kinds)) first.1 ∙ some_silent (all_kinds s.kinds) first.0 others.0 others.1,
          kinds.one_of values id more first.0 others.0 first.2 others.2,
        )

    binds_kinded : (bs : List Bound) (binds : List (NameId × ExprId)) (e : Tested) → BindsStand code here bs binds → (values : Kinds) → AllValue values
        → block_whole (map is_whole_bind bs) e (place values) ≡ true → (several_binds (map kind_of_bind bs) (scope values)).fault ≡ None
        → list_any is_refused_bind (several_binds (map kind_of_bind bs) (scope values)).kinds ≡ false → BlockMade binds values e (several_binds (map kind_of_bind bs) (scope values))
    binds_kinded bs binds e standing.no_bind values all whole none refused =
        record { inner = values; of = kinds.no_bind values; all = all; same = refl; whole = whole; silent = refl }
    binds_kinded bs binds e (standing.one_bind b cs id more one rest) values all whole none refused =
        one_more_bind b cs id more e values all (λ told fault. kinded [] b.value id.0 one values all told fault)
        (λ x k h told fault no_refused. binds_kinded cs more e rest (values ++ (x, k) ∷ []) (values_push values x k all h) told fault no_refused)
        whole none refused
