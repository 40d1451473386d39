-- What is read without a fault leaves nothing out.
use Rattle.std.proofs.Common.{◌≡◌, ℕ, suc, ◌+◌, Bool, true, false, List, [], ◌∷◌, ◌++◌, map, length, get_or, refl, sym, ap, ◌∙◌, subst, Option, Some, None, cond, arith}
use Rattle.std.specs.Prelude.{ℤ, pos, not, ◌&&◌, ◌||◌, nat_eq, nat_lt, nat_le, if◌then◌else◌, is_some, bytes_eq, int_lt, ◌/◌, ◌%◌, ◌==◌}
use Rattle.std.specs.List.{list_any}
use Rattle.std.specs.Map.{lookup}
use Rattle.std.proofs.lemmas.Bool.{eqb-true, eq-eqb, ne_eqb, lt-ltb, leb-false, le-leb, ltb-false}
use Rattle.std.proofs.lemmas.List.{reverse-append}
use Rattle.ny_num.specs.Grid.{ticks_of_micro, count_of}
use Rattle.ny_warp.specs.Maps.{is_rising, rises_from}
use Rattle.ny_scope.specs.Scopes.{last_of}
use Rattle.ny_syntax.specs.declared.tree.Form.{Form}
use Rattle.ny_syntax.specs.declared.tree.Form.TheFolds.{fold-Form, fold-roll-Form, fold-roll-Expr, fold-roll-Bind, ind-Expr, map-Form}
use Rattle.ny_syntax.specs.declared.tree.Form.TheOpen.{Form-F, Expr-F, Bind-F}
use Rattle.ny_syntax.specs.declared.tree.Form.TheViews.{roll-Form, roll-Expr, roll-Bind}
use Rattle.ny_syntax.specs.declared.tree.Expr.{Expr}
use Rattle.ny_syntax.specs.declared.tree.Bind.{Bind}
use Rattle.ny_syntax.specs.declared.tree.BinOp.{BinOp}
use Rattle.ny_syntax.specs.declared.tree.BinOp.TheVariants as binary
use Rattle.ny_syntax.specs.declared.tree.PreOp.{PreOp}
use Rattle.ny_syntax.specs.declared.tree.PreOp.TheVariants as prefix
use Rattle.ny_resolve.specs.declared.fault.CheckWhy.{CheckWhy}
use Rattle.ny_resolve.specs.declared.fault.CheckWhy.TheVariants as why
use Rattle.ny_resolve.specs.declared.builtin.Operator.{Operator}
use Rattle.ny_resolve.specs.declared.builtin.Operator.TheVariants as op
use Rattle.ny_resolve.specs.declared.builtin.Builtin.{Builtin}
use Rattle.ny_resolve.specs.declared.builtin.Builtin.TheVariants as builtin
use Rattle.ny_resolve.specs.declared.builtin.Order.{Order}
use Rattle.ny_resolve.specs.declared.builtin.Rated.{Rated}
use Rattle.ny_num.specs.declared.rate.Rate.{Rate}
use Rattle.ny_resolve.specs.declared.names.Called.{Called}
use Rattle.ny_resolve.specs.declared.term.Term.{Term}
use Rattle.ny_resolve.specs.declared.term.Term.TheVariants as term
use Rattle.ny_resolve.specs.declared.term.Term.TheVariants.{rolls-Number, rolls-Local, rolls-Global, rolls-Call, rolls-Block, rolls-Apply, rolls-Over, rolls-Repeat, rolls-Nameless, rolls-Warp, rolls-Rate}
use Rattle.ny_resolve.specs.declared.term.Term.TheOpen.{Term-F}
use Rattle.ny_resolve.specs.declared.term.Term.TheFolds.{map-Term}
use Rattle.ny_resolve.specs.declared.term.Term.TheViews.{roll-Term}
use Rattle.ny_resolve.specs.declared.term.Part.{Part}
use Rattle.ny_resolve.specs.declared.term.Bound.{Bound}
use Rattle.ny_resolve.specs.declared.term.NameId.{NameId}
use Rattle.ny_resolve.specs.declared.term.Declared.{Declared}
use Rattle.ny_resolve.specs.Faults.{fault_if}
use Rattle.ny_resolve.specs.Builtins.{Bytes, builtin_of, operator_arity, arity_of, fits}
use Rattle.ny_resolve.specs.Literals.{Shape, bare_in, is_mapped, literals_in, is_good_map, literal_map, is_map_of, rises, hour, map_literals, some_list, value_of_shape, is_zero, rate_of_shape, is_count, literal_in, literal_count, count_of_shape}
use Rattle.ny_resolve.specs.Names.{Scope, name_at, local_of, with_local, variable_faults, function_faults, again_faults, seen_after}
use Rattle.ny_resolve.specs.Keys.{same_name}
use Rattle.ny_resolve.specs.Reading.{ReadPart, ReadParts, Reading, Formed, BindReading, part_at, no_part, read_as, read_parts, global_term, value_named, with_counter, operand_read, arguments_read, first_counter, first_place, repeat_term, rate_or, is_vector, call_faults, builtin_called, function_term, function_called, called, read_binds, block_read, operator_of, prefix_operator, is_division, binary_read, choice_read, form_reading, bind_reading, expr_reading, reading, reading_of_bind}
use Rattle.ny_kinds.specs.Kinds.{no_declared}
use Rattle.ny_check.specs.Writing.{points_of, points_from}
use Rattle.ny_laws.specs.Whole.{Place, Tested, TestedBind, all_whole, block_whole, is_times, term_whole, is_whole, is_whole_bind, few}
use Rattle.ny_laws.proofs.Layers.{whole_term, whole-at, whole-bind}
use Rattle.ny_laws.proofs.OperatorKinds.{both_true}

-- ---- no fault

pub none_left : {A : Type 0} (xs ys : List A) → xs ++ ys ≡ [] → (xs ≡ []) × (ys ≡ [])
none_left [] ys is = (refl, is)
none_left (x ∷ xs) ys is = cc

pub no_fault : (b : Bool) (w : CheckWhy) (at : ℕ) → fault_if b w at ≡ [] → b ≡ false
no_fault true w at is = cc
no_fault false w at is = refl

not_not : (b : Bool) → not b ≡ false → b ≡ true
not_not true is = refl
not_not false is = cc

both_are : (a b : Bool) → a ≡ true → b ≡ true → a && b ≡ true
both_are a b h k = ap (λ (t : Bool). t && b) h ∙ k

-- ---- maps

rising_from : (x y : ℕ) (vs : List ℤ) → rises x y vs ≡ true → rises_from x y (points_from None vs) ≡ true
rising_from x y [] h = refl
rising_from x y (v ∷ []) h = refl
rising_from x y (v ∷ w ∷ vs) h =
    let first = both_true (not (int_lt hour v) && nat_lt x (ticks_of_micro v)) (rises y (ticks_of_micro v) (w ∷ vs)) h in
    let second = both_true (not (int_lt hour w) && nat_lt y (ticks_of_micro w)) (rises (ticks_of_micro v) (ticks_of_micro w) vs) first.1 in
    both_are (nat_lt x (ticks_of_micro v) && nat_lt y (ticks_of_micro w)) (rises_from (ticks_of_micro v) (ticks_of_micro w) (points_from None vs))
    (both_are (nat_lt x (ticks_of_micro v)) (nat_lt y (ticks_of_micro w)) (both_true (not (int_lt hour v)) (nat_lt x (ticks_of_micro v)) first.0).1
    (both_true (not (int_lt hour w)) (nat_lt y (ticks_of_micro w)) second.0).1)
    (rising_from (ticks_of_micro v) (ticks_of_micro w) vs second.1)

rising : (vs : List ℤ) → is_map_of vs ≡ true → is_rising (points_of vs) ≡ true
rising [] h = let parts = both_true (nat_eq (length {A = ℤ} [] % 2) 0 && nat_lt 0 (length {A = ℤ} [])) (rises 0 0 []) h in cc
rising (v ∷ []) h = let parts = both_true (nat_eq (length (v ∷ []) % 2) 0 && nat_lt 0 (length (v ∷ []))) (rises 0 0 (v ∷ [])) h in cc
rising (v ∷ w ∷ vs) h =
    let parts = both_true (nat_eq (length (v ∷ w ∷ vs) % 2) 0 && nat_lt 0 (length (v ∷ w ∷ vs))) (rises 0 0 (v ∷ w ∷ vs)) h in
    let points = points_of (v ∷ w ∷ vs) in
    let some : not (length points == 0) ≡ true = ap not (ne_eqb (length points) 0 (λ e. omega (arith, e))) in
    both_are (not (length points == 0)) (rises_from 0 0 points) some (rising_from 0 0 (v ∷ w ∷ vs) parts.1)

good_map : (s : Shape) → is_good_map s ≡ true → is_rising (points_of (map_literals s)) ≡ true
good_map s h = by (literals_in s) h
  where
    by : (o : Option (List ℤ)) → literal_map o ≡ true → is_rising (points_of (some_list o)) ≡ true
    by (Some vs) k = rising vs k
    by None k = cc

-- ---- counts

good_count : (s : Shape) → nat_eq (count_of_shape s) 0 ≡ false → is_times (count_of_shape s) ≡ true
good_count s h = of_literal (literal_in s) h
  where
    of_count : (v : ℤ) (b : Bool) → is_count v ≡ b → nat_eq (if b then count_of v / 1000000 else 0) 0 ≡ false → is_times (if b then count_of v / 1000000 else 0) ≡ true
    of_count v true is k =
        let n : ℕ = count_of v / 1000000 in
        let parts = both_true (nat_eq (count_of v % 1000000) 0 && nat_le 1 n) (nat_le n 100000) is in
        both_are (nat_le 1 n) (nat_le n 100000) (both_true (nat_eq (count_of v % 1000000) 0) (nat_le 1 n) parts.0).1 parts.1
    of_count v false is k = cc

    of_literal : (o : Option ℤ) → nat_eq (literal_count o) 0 ≡ false → is_times (literal_count o) ≡ true
    of_literal (Some v) k = of_count v (is_count v) refl k
    of_literal None k = cc

-- ---- what a place sees

module _ (ds : List Declared) where
  -- a function that is called has this many parameters
  abbrev pub IsCalled : Called → Type 0
  IsCalled f = f.params ≡ length (get_or ds f.number no_declared).params

  abbrev pub IsVariable : ℕ → Type 0
  IsVariable n = (get_or ds n no_declared).is_variable ≡ true

  pub record Sees (s : Scope) (names : List NameId) : Type 0 where
    pub functions : (x : Bytes) (f : Called) → lookup (bytes_eq x) s.functions ≡ Some f → IsCalled f
    pub variables : (x : Bytes) (n : ℕ) → lookup (bytes_eq x) s.variables ≡ Some n → IsVariable n
    pub locals : (x : Bytes) (n : NameId) → local_of x s ≡ Some n → list_any (same_name n) names ≡ true

  abbrev pub place_of : Scope → List NameId → Place
  place_of s names = record { declared = ds; here = s.here; names = names }

  -- what is read without a fault is whole
  abbrev pub IsGoodAt : (Scope → ReadPart) → Type 0
  IsGoodAt read = (s : Scope) (names : List NameId) → Sees s names → (read s).faults ≡ [] → is_whole (read s).part (place_of s names) ≡ true

  abbrev IsGood : Expr → Type 0
  IsGood e = IsGoodAt (reading e).read

  abbrev form_of : Form → Formed
  form_of = fold-Form Formed BindReading Reading form_reading bind_reading expr_reading

  abbrev IsGoodForm : Form → Type 0
  IsGoodForm f = (at : ℕ) → IsGoodAt (λ s. (form_of f).read at s)

  abbrev IsGoodBind : Bind → Type 0
  IsGoodBind b = IsGoodAt (reading_of_bind b).read

  -- a part of this term
  whole_as : (at : ℕ) (t : Term) (x : Term-F Term Bound Part) (p : Place) → t ≡ roll-Term x
      → term_whole (map-Term Term Bound Part Tested TestedBind Tested whole_term is_whole_bind is_whole x) p ≡ true → is_whole (part_at at t) p ≡ true
  whole_as at t x p is h = ap (λ (f : Tested). f p) (whole-at (part_at at t) x is) ∙ h

  number_whole : (at : ℕ) (v : ℤ) (p : Place) → is_whole (part_at at (term.Number v)) p ≡ true
  number_whole at v p = whole_as at (term.Number v) (Term-F.Number v) p (sym (rolls-Number v)) refl

  mapped_count : {A B : Type 0} (f : A → B) (xs : List A) → length (map f xs) ≡ length xs
  mapped_count f [] = refl
  mapped_count f (x ∷ xs) = ap (λ (n : ℕ). suc n) (mapped_count f xs)

  apply_whole : (at : ℕ) (o : Operator) (parts : List Part) (p : Place) → fits (operator_arity o) (length parts) ≡ true → few o (length parts) ≡ true
      → all_whole (map is_whole parts) p ≡ true → is_whole (part_at at (term.Apply o parts)) p ≡ true
  apply_whole at o parts p count little each =
      whole_as at (term.Apply o parts) (Term-F.Apply o parts) p (sym (rolls-Apply o parts))
      (both_are (fits (operator_arity o) (length (map is_whole parts)) && few o (length (map is_whole parts))) (all_whole (map is_whole parts) p)
      (both_are (fits (operator_arity o) (length (map is_whole parts))) (few o (length (map is_whole parts)))
      (ap (λ (n : ℕ). fits (operator_arity o) n) (mapped_count is_whole parts) ∙ count) (ap (λ (n : ℕ). few o n) (mapped_count is_whole parts) ∙ little)) each)

  -- ---- names

  before : (here n : ℕ) (at : ℕ) → fault_if (nat_le here n) why.NotYetDefined at ≡ [] → nat_lt n here ≡ true
  before here n at is = lt-ltb n here (leb-false here n (no_fault (nat_le here n) why.NotYetDefined at is))

  named_whole : (at : ℕ) (x : Bytes) (s : Scope) (names : List NameId) → Sees s names → (value_named at x s (local_of x s)).faults ≡ []
      → is_whole (value_named at x s (local_of x s)).part (place_of s names) ≡ true
  named_whole at x s names sees none = by (local_of x s) (λ n is. sees.locals x n is) (λ n is. sees.variables x n is) none
    where
      global : (o : Option ℕ) → ((n : ℕ) → o ≡ Some n → IsVariable n) → variable_faults at s.here o ≡ [] → is_whole (part_at at (global_term o)) (place_of s names) ≡ true
      global None found h = cc
      global (Some n) found h =
          whole_as at (term.Global n) (Term-F.Global n) (place_of s names) (sym (rolls-Global n))
          (both_are (nat_lt n s.here) (get_or ds n no_declared).is_variable (before s.here n at h) (found n refl))

      by : (o : Option NameId) → ((n : NameId) → o ≡ Some n → list_any (same_name n) names ≡ true) → ((n : ℕ) → lookup (bytes_eq x) s.variables ≡ Some n → IsVariable n)
          → (value_named at x s o).faults ≡ [] → is_whole (value_named at x s o).part (place_of s names) ≡ true
      by (Some n) here found h = whole_as at (term.Local n) (Term-F.Local n) (place_of s names) (sym (rolls-Local n)) (here n refl)
      by None here found h = global (lookup (bytes_eq x) s.variables) found h

  -- ---- parts in order

  -- readings, each of which is good
  abbrev GoodReading : Type 0
  GoodReading = (r : Reading) × IsGoodAt r.read

  abbrev readings : List GoodReading → List Reading
  readings es = map (λ (e : GoodReading). e.0) es

  parts_whole : (es : List GoodReading) (s : Scope) (names : List NameId) → Sees s names → (read_parts (readings es) s).faults ≡ []
      → all_whole (map is_whole (read_parts (readings es) s).parts) (place_of s names) ≡ true
  parts_whole [] s names sees none = refl
  parts_whole (e ∷ es) s names sees none =
      let both = none_left (e.0.read s).faults (read_parts (readings es) s).faults none in
      both_are (is_whole (e.0.read s).part (place_of s names)) (all_whole (map is_whole (read_parts (readings es) s).parts) (place_of s names))
      (e.1 s names sees both.0) (parts_whole es s names sees both.1)

  parts_count : (es : List Reading) (s : Scope) → length (read_parts es s).parts ≡ length es
  parts_count [] s = refl
  parts_count (e ∷ es) s = ap (λ (n : ℕ). suc n) (parts_count es s)

  -- ---- calls of functions

  function_whole : (at : ℕ) (x : Bytes) (es : List GoodReading) (s : Scope) (names : List NameId) → Sees s names → (function_called at x (readings es) s).faults ≡ []
      → is_whole (function_called at x (readings es) s).part (place_of s names) ≡ true
  function_whole at x es s names sees none =
      let parts = (read_parts (readings es) s).parts in
      let f = lookup (bytes_eq x) s.functions in
      let both = none_left (function_faults at s.here (length (readings es)) f) (read_parts (readings es) s).faults none in
      by f (λ g is. sees.functions x g is) both.0 (parts_whole es s names sees both.1)
    where
      by : (o : Option Called) → ((g : Called) → o ≡ Some g → IsCalled g) → function_faults at s.here (length (readings es)) o ≡ []
          → all_whole (map is_whole (read_parts (readings es) s).parts) (place_of s names) ≡ true
          → is_whole (part_at at (function_term o (read_parts (readings es) s).parts)) (place_of s names) ≡ true
      by None found h each = number_whole at (pos 0) (place_of s names)
      by (Some g) found h each =
          let parts : List Part = (read_parts (readings es) s).parts in
          let both = none_left (fault_if (nat_le s.here g.number) why.NotYetDefined at) (fault_if (not (nat_eq (length (readings es)) g.params)) why.Arity at) h in
          let count : length (readings es) ≡ g.params = eqb-true (length (readings es)) g.params (not_not (nat_eq (length (readings es)) g.params) (no_fault (not (nat_eq (length (readings es)) g.params)) why.Arity at both.1)) in
          let all : length (map is_whole parts) ≡ length (get_or ds g.number no_declared).params = mapped_count is_whole parts ∙ parts_count (readings es) s ∙ count ∙ found g refl in
          whole_as at (term.Call g.number parts) (Term-F.Call g.number parts) (place_of s names) (sym (rolls-Call g.number parts))
          (both_are (nat_lt g.number s.here && nat_eq (length (map is_whole parts)) (length (get_or ds g.number no_declared).params)) (all_whole (map is_whole parts) (place_of s names))
          (both_are (nat_lt g.number s.here) (nat_eq (length (map is_whole parts)) (length (get_or ds g.number no_declared).params)) (before s.here g.number at both.0)
          (eq-eqb (length (map is_whole parts)) (length (get_or ds g.number no_declared).params) all)) each)

  -- ---- names that are seen later

  last_push : {V : Type 0} (is : Bytes → Bool) (b : List (Bytes × V)) (y : Bytes) (v : V) → last_of is (b ++ (y, v) ∷ []) ≡ cond (is y) (Some v) (last_of is b)
  last_push {V} is b y v = ap (λ (w : List (Bytes × V)). lookup is w) (reverse-append b ((y, v) ∷ []))

  any_more : (f : NameId → Bool) (xs : List NameId) (y : NameId) → list_any f (xs ++ y ∷ []) ≡ list_any f xs || (f y || false)
  any_more f [] y = refl
  any_more f (x ∷ xs) y = by (f x) (any_more f xs y)
    where
      by : (b : Bool) → list_any f (xs ++ y ∷ []) ≡ list_any f xs || (f y || false) → b || list_any f (xs ++ y ∷ []) ≡ (b || list_any f xs) || (f y || false)
      by true h = refl
      by false h = h

  left_or : (a b : Bool) → a ≡ true → a || b ≡ true
  left_or a b h = ap (λ (t : Bool). t || b) h

  right_or : (a b : Bool) → b ≡ true → a || b ≡ true
  right_or true b h = refl
  right_or false b h = h

  same_id : (n m : NameId) → Some n ≡ Some m → same_name m n ≡ true
  same_id n m is = let e : n ≡ m = cc in eq-eqb m.0 n.0 (sym (ap (λ (k : NameId). k.0) e))

  pub sees_local : (s : Scope) (names : List NameId) (x : Bytes) (at : ℕ) → Sees s names → Sees (with_local x at s) (names ++ name_at at ∷ [])
  sees_local s names x at sees = record {
    functions = sees.functions;
    variables = sees.variables;
    locals = λ y n is. by y n (bytes_eq y x) (sym (last_push (bytes_eq y) s.locals x (name_at at)) ∙ is);
  }
    where
      by : (y : Bytes) (n : NameId) (t : Bool) → cond t (Some (name_at at)) (last_of (bytes_eq y) s.locals) ≡ Some n → list_any (same_name n) (names ++ name_at at ∷ []) ≡ true
      by y n true is =
          any_more (same_name n) names (name_at at)
          ∙ right_or (list_any (same_name n) names) (same_name n (name_at at) || false) (left_or (same_name n (name_at at)) false (same_id (name_at at) n is))
      by y n false is =
          any_more (same_name n) names (name_at at) ∙ left_or (list_any (same_name n) names) (same_name n (name_at at) || false) (sees.locals y n is)

  -- ---- blocks

  abbrev GoodBind : Type 0
  GoodBind = (b : BindReading) × IsGoodAt b.read

  abbrev bind_readings : List GoodBind → List BindReading
  bind_readings bs = map (λ (b : GoodBind). b.0) bs

  -- a bound part, as a test
  bind_test : (n : NameId) (p : Part) → is_whole_bind (record { name = n; value = p }) ≡ record { name = n; value = is_whole p }
  bind_test n p = whole-bind (record { name = n; value = p })

  binds_whole : (bs : List GoodBind) (seen : List (Bytes × NameId)) (s : Scope) (names : List NameId) (e : Tested) (value : Scope → ReadPart) → IsGoodAt value → Sees s names
      → (read_binds (bind_readings bs) seen s).faults ≡ [] → (value (read_binds (bind_readings bs) seen s).scope).faults ≡ []
      → block_whole (map is_whole_bind (read_binds (bind_readings bs) seen s).binds) (is_whole (value (read_binds (bind_readings bs) seen s).scope).part) (place_of s names) ≡ true
  binds_whole [] seen s names e value good sees none last = good s names sees last
  binds_whole (b ∷ bs) seen s names e value good sees none last =
      let next : Scope = with_local b.0.name b.0.at s in
      let rest = read_binds (bind_readings bs) (seen_after seen b.0.name b.0.at) next in
      let parts = none_left (again_faults seen b.0.name b.0.at) ((b.0.read s).faults ++ rest.faults) none in
      let both = none_left (b.0.read s).faults rest.faults parts.1 in
      ap (λ (w : TestedBind). block_whole (w ∷ map is_whole_bind rest.binds) (is_whole (value rest.scope).part) (place_of s names)) (bind_test (name_at b.0.at) (b.0.read s).part)
      ∙ both_are (is_whole (b.0.read s).part (place_of s names)) (block_whole (map is_whole_bind rest.binds) (is_whole (value rest.scope).part) (place_of next (names ++ name_at b.0.at ∷ [])))
      (b.1 s names sees both.0)
      (binds_whole bs (seen_after seen b.0.name b.0.at) next (names ++ name_at b.0.at ∷ []) e value good (sees_local s names b.0.name b.0.at sees) both.1 last)

  -- ---- calls of built-ins

  operand_plain : (o : Operator) (c : Option Bytes) (at j : ℕ) (e : Reading) (s : Scope) → operand_read (builtin.Apply o) c at j e s ≡ e.read s
  operand_plain o c at j e s = by (nat_eq j 0) (nat_eq j 2)
    where
      by : (a b : Bool)
          → (if a && false && is_some (bare_in e.shape) then record { part = no_part e.at; faults = [] }
          else (if a && false && is_mapped e.shape then record { part = no_part e.at; faults = e.arguments s } else e.read (if b && false then with_counter c at s else s))) ≡ e.read s
      by true true = refl
      by true false = refl
      by false true = refl
      by false false = refl

  arguments_plain : (o : Operator) (c : Option Bytes) (at j : ℕ) (es : List Reading) (s : Scope) → arguments_read (builtin.Apply o) c at j es s ≡ read_parts es s
  arguments_plain o c at j [] s = refl
  arguments_plain o c at j (e ∷ es) s =
      ap (λ (r : ReadPart). record { parts = r.part ∷ (arguments_read (builtin.Apply o) c at (j + 1) es s).parts; faults = r.faults ++ (arguments_read (builtin.Apply o) c at (j + 1) es s).faults }) (operand_plain o c at j e s)
      ∙ ap (λ (rest : ReadParts). record { parts = (e.read s).part ∷ rest.parts; faults = (e.read s).faults ++ rest.faults }) (arguments_plain o c at (j + 1) es s)

  few_is : (o : Operator) (n : ℕ) → is_vector (builtin.Apply o) && nat_lt 8 n ≡ false → few o n ≡ true
  few_is op.Vector n h = le-leb n 8 (ltb-false 8 n h)
  few_is _ n h = refl

  -- a call that has as many arguments as it takes
  counted_call : (at : ℕ) (b : Builtin) (n : ℕ) → call_faults at b n ≡ [] → (fits (arity_of b) n ≡ true) × (is_vector b && nat_lt 8 n ≡ false)
  counted_call at b n none =
      let both = none_left (fault_if (not (fits (arity_of b) n)) why.Arity at) (fault_if (is_vector b && nat_lt 8 n) why.TooManyChannels at) none in
      (not_not (fits (arity_of b) n) (no_fault (not (fits (arity_of b) n)) why.Arity at both.0), no_fault (is_vector b && nat_lt 8 n) why.TooManyChannels at both.1)

  if_fits : (b : Bool) (t u : Term) → b ≡ true → (if b then t else u) ≡ t
  if_fits true t u h = refl
  if_fits false t u h = cc

  WholeAt : ℕ → Term → Place → Type 0
  WholeAt at t p = is_whole (part_at at t) p ≡ true

  apply_called : (at : ℕ) (o : Operator) (es : List GoodReading) (s : Scope) (names : List NameId) → Sees s names → (builtin_called at (builtin.Apply o) (readings es) s).faults ≡ []
      → is_whole (builtin_called at (builtin.Apply o) (readings es) s).part (place_of s names) ≡ true
  apply_called at o es s names sees none =
      let b : Builtin = builtin.Apply o in
      let rs : List Reading = readings es in
      let c = first_counter rs in
      let r = arguments_read b c (first_place rs) 0 rs s in
      let both = none_left (call_faults at b (length rs)) r.faults none in
      let count = counted_call at b (length rs) both.0 in
      let same : r ≡ read_parts rs s = arguments_plain o c (first_place rs) 0 rs s in
      let each : all_whole (map is_whole r.parts) (place_of s names) ≡ true =
      ap (λ (q : ReadParts). all_whole (map is_whole q.parts) (place_of s names)) same ∙ parts_whole es s names sees (ap (λ (q : ReadParts). q.faults) (sym same) ∙ both.1) in
      let many : length r.parts ≡ length rs = ap (λ (q : ReadParts). length q.parts) same ∙ parts_count rs s in
      ap (λ (t : Term). is_whole (part_at at t) (place_of s names)) (if_fits (fits (operator_arity o) (length rs)) (term.Apply o r.parts) (term.Number (pos 0)) count.0)
      ∙ apply_whole at o r.parts (place_of s names) (ap (λ (n : ℕ). fits (operator_arity o) n) many ∙ count.0) (ap (λ (n : ℕ). few o n) many ∙ few_is o (length rs) count.1) each

  -- a repeat whose first argument is a bare name
  repeat_whole : (at : ℕ) (o : Order) (x : Option Bytes) (place n : ℕ) (c : GoodReading) (s : Scope) (names : List NameId) → Sees s names → is_some x ≡ true → is_times n ≡ true
      → (c.0.read (with_counter x place s)).faults ≡ [] → is_whole (part_at at (repeat_term o x place n (c.0.read (with_counter x place s)).part)) (place_of s names) ≡ true
  repeat_whole at o None place n c s names sees some times none = cc
  repeat_whole at o (Some x) place n c s names sees some times none =
      let p : Part = (c.0.read (with_local x place s)).part in
      whole_as at (term.Repeat o (name_at place) n p) (Term-F.Repeat o (name_at place) n p) (place_of s names) (sym (rolls-Repeat o (name_at place) n p))
      (both_are (is_times n) (is_whole p (place_of (with_local x place s) (names ++ name_at place ∷ []))) times
      (c.1 (with_local x place s) (names ++ name_at place ∷ []) (sees_local s names x place sees) none))

  repeat_called : (at : ℕ) (o : Order) (es : List GoodReading) (s : Scope) (names : List NameId) → Sees s names → (builtin_called at (builtin.Repeat o) (readings es) s).faults ≡ []
      → is_whole (builtin_called at (builtin.Repeat o) (readings es) s).part (place_of s names) ≡ true
  repeat_called at o [] s names sees none = number_whole at (pos 0) (place_of s names)
  repeat_called at o (a ∷ []) s names sees none = number_whole at (pos 0) (place_of s names)
  repeat_called at o (a ∷ b ∷ []) s names sees none = number_whole at (pos 0) (place_of s names)
  repeat_called at o (a ∷ b ∷ c ∷ []) s names sees none =
      let counter = bare_in a.0.shape in
      let r0 = operand_read (builtin.Repeat o) counter a.0.at 0 a.0 s in
      let r1 = operand_read (builtin.Repeat o) counter a.0.at 1 b.0 s in
      let r2 = c.0.read (with_counter counter a.0.at s) in
      let f0 = fault_if (not (is_some counter)) why.Kind a.0.at in
      let f1 = fault_if (nat_eq (count_of_shape b.0.shape) 0) why.BadCount b.0.at in
      let all = none_left (call_faults at (builtin.Repeat o) 3) ((f0 ++ r0.faults) ++ ((f1 ++ r1.faults) ++ (r2.faults ++ []))) none in
      let first = none_left (f0 ++ r0.faults) ((f1 ++ r1.faults) ++ (r2.faults ++ [])) all.1 in
      let later = none_left (f1 ++ r1.faults) (r2.faults ++ []) first.1 in
      let some : is_some counter ≡ true = not_not (is_some counter) (no_fault (not (is_some counter)) why.Kind a.0.at (none_left f0 r0.faults first.0).0) in
      let times : is_times (count_of_shape b.0.shape) ≡ true =
      good_count b.0.shape (no_fault (nat_eq (count_of_shape b.0.shape) 0) why.BadCount b.0.at (none_left f1 r1.faults later.0).0) in
      repeat_whole at o counter a.0.at (count_of_shape b.0.shape) c s names sees some times (none_left r2.faults [] later.1).0
  repeat_called at o (a ∷ b ∷ c ∷ d ∷ es) s names sees none =
      let n : ℕ = length (readings (a ∷ b ∷ c ∷ d ∷ es)) in
      let count = counted_call at (builtin.Repeat o) n (none_left (call_faults at (builtin.Repeat o) n) _ none).0 in
      let three : n ≡ 3 = eqb-true n 3 count.0 in absurd (omega (arith, three))

  warp_called : (at : ℕ) (es : List GoodReading) (s : Scope) (names : List NameId) → Sees s names → (builtin_called at builtin.Warp (readings es) s).faults ≡ []
      → is_whole (builtin_called at builtin.Warp (readings es) s).part (place_of s names) ≡ true
  warp_called at [] s names sees none = number_whole at (pos 0) (place_of s names)
  warp_called at (a ∷ []) s names sees none = number_whole at (pos 0) (place_of s names)
  warp_called at (a ∷ b ∷ []) s names sees none =
      let counter = bare_in a.0.shape in
      let r0 = operand_read builtin.Warp counter a.0.at 0 a.0 s in
      let r1 = b.0.read s in
      let f0 = fault_if (not (is_good_map a.0.shape)) why.BadMap a.0.at in
      let all = none_left (call_faults at builtin.Warp 2) ((f0 ++ r0.faults) ++ (r1.faults ++ [])) none in
      let first = none_left (f0 ++ r0.faults) (r1.faults ++ []) all.1 in
      let good : is_good_map a.0.shape ≡ true = not_not (is_good_map a.0.shape) (no_fault (not (is_good_map a.0.shape)) why.BadMap a.0.at (none_left f0 r0.faults first.0).0) in
      let vs : List ℤ = map_literals a.0.shape in
      whole_as at (term.Warp vs r1.part) (Term-F.Warp vs r1.part) (place_of s names) (sym (rolls-Warp vs r1.part))
      (both_are (is_rising (points_of vs)) (is_whole r1.part (place_of s names)) (good_map a.0.shape good) (b.1 s names sees (none_left r1.faults [] first.1).0))
  warp_called at (a ∷ b ∷ c ∷ es) s names sees none =
      let n : ℕ = length (readings (a ∷ b ∷ c ∷ es)) in
      let count = counted_call at builtin.Warp n (none_left (call_faults at builtin.Warp n) _ none).0 in
      let two : n ≡ 2 = eqb-true n 2 count.0 in absurd (omega (arith, two))

  rate_called : (at : ℕ) (w : Rated) (es : List GoodReading) (s : Scope) (names : List NameId) → Sees s names → (builtin_called at (builtin.Rate w) (readings es) s).faults ≡ []
      → is_whole (builtin_called at (builtin.Rate w) (readings es) s).part (place_of s names) ≡ true
  rate_called at w [] s names sees none = number_whole at (pos 0) (place_of s names)
  rate_called at w (a ∷ []) s names sees none = number_whole at (pos 0) (place_of s names)
  rate_called at w (a ∷ b ∷ []) s names sees none =
      let counter = bare_in a.0.shape in
      let r0 = operand_read (builtin.Rate w) counter a.0.at 0 a.0 s in
      let r1 = b.0.read s in
      let f0 = fault_if (not (is_some (rate_of_shape a.0.shape))) why.BadRate a.0.at in
      let all = none_left (call_faults at (builtin.Rate w) 2) ((f0 ++ r0.faults) ++ (r1.faults ++ [])) none in
      let first = none_left (f0 ++ r0.faults) (r1.faults ++ []) all.1 in
      let r : Rate = rate_or (rate_of_shape a.0.shape) in
      whole_as at (term.Rate w r r1.part) (Term-F.Rate w r r1.part) (place_of s names) (sym (rolls-Rate w r r1.part)) (b.1 s names sees (none_left r1.faults [] first.1).0)
  rate_called at w (a ∷ b ∷ c ∷ es) s names sees none =
      let n : ℕ = length (readings (a ∷ b ∷ c ∷ es)) in
      let count = counted_call at (builtin.Rate w) n (none_left (call_faults at (builtin.Rate w) n) _ none).0 in
      let two : n ≡ 2 = eqb-true n 2 count.0 in absurd (omega (arith, two))

  call_whole : (at : ℕ) (x : Bytes) (b : Option Builtin) (es : List GoodReading) (s : Scope) (names : List NameId) → Sees s names → (called at x b (readings es) s).faults ≡ []
      → is_whole (called at x b (readings es) s).part (place_of s names) ≡ true
  call_whole at x None es s names sees none = function_whole at x es s names sees none
  call_whole at x (Some (builtin.Apply o)) es s names sees none = apply_called at o es s names sees none
  call_whole at x (Some (builtin.Repeat o)) es s names sees none = repeat_called at o es s names sees none
  call_whole at x (Some builtin.Warp) es s names sees none = warp_called at es s names sees none
  call_whole at x (Some (builtin.Rate w)) es s names sees none = rate_called at w es s names sees none

  -- ---- forms

  two_count : (o : BinOp) → is_division o ≡ false → (fits (operator_arity (operator_of o)) 2 ≡ true) × (few (operator_of o) 2 ≡ true)
  two_count binary.Div h = cc
  two_count _ h = (refl, refl)

  one_count : (o : PreOp) → (fits (operator_arity (prefix_operator o)) 1 ≡ true) × (few (prefix_operator o) 1 ≡ true)
  one_count prefix.Minus = (refl, refl)
  one_count prefix.Not = (refl, refl)

  binary_whole : (at : ℕ) (o : BinOp) (a b : Reading) → IsGoodAt a.read → IsGoodAt b.read → IsGoodAt (binary_read at o a b)
  binary_whole at o a b good other s names sees none = by (is_division o) refl none
    where
      by : (t : Bool) → is_division o ≡ t
          → (if t then read_as at (term.Over (a.read s).part (value_of_shape b.shape)) (fault_if (is_zero (value_of_shape b.shape)) why.ZeroDivisor at ++ (a.read s).faults)
          else read_as at (term.Apply (operator_of o) ((a.read s).part ∷ (b.read s).part ∷ [])) ((a.read s).faults ++ (b.read s).faults)).faults ≡ []
          → is_whole (if t then read_as at (term.Over (a.read s).part (value_of_shape b.shape)) (fault_if (is_zero (value_of_shape b.shape)) why.ZeroDivisor at ++ (a.read s).faults)
          else read_as at (term.Apply (operator_of o) ((a.read s).part ∷ (b.read s).part ∷ [])) ((a.read s).faults ++ (b.read s).faults)).part (place_of s names) ≡ true
      by true is h =
          let v : ℤ = value_of_shape b.shape in
          let both = none_left (fault_if (is_zero v) why.ZeroDivisor at) (a.read s).faults h in
          whole_as at (term.Over (a.read s).part v) (Term-F.Over (a.read s).part v) (place_of s names) (sym (rolls-Over (a.read s).part v))
          (both_are (not (is_zero v)) (is_whole (a.read s).part (place_of s names)) (ap not (no_fault (is_zero v) why.ZeroDivisor at both.0)) (good s names sees both.1))
      by false is h =
          let both = none_left (a.read s).faults (b.read s).faults h in
          let count = two_count o is in
          apply_whole at (operator_of o) ((a.read s).part ∷ (b.read s).part ∷ []) (place_of s names) count.0 count.1
          (both_are (is_whole (a.read s).part (place_of s names)) (is_whole (b.read s).part (place_of s names) && true) (good s names sees both.0)
          (both_are (is_whole (b.read s).part (place_of s names)) true (other s names sees both.1) refl))

  choice_whole : (at : ℕ) (c a b : Reading) → IsGoodAt c.read → IsGoodAt a.read → IsGoodAt b.read → IsGoodAt (choice_read at c a b)
  choice_whole at c a b test good other s names sees none =
      let first = none_left (c.read s).faults ((a.read s).faults ++ (b.read s).faults) none in
      let both = none_left (a.read s).faults (b.read s).faults first.1 in
      let p : Place = place_of s names in
      apply_whole at op.If ((c.read s).part ∷ (a.read s).part ∷ (b.read s).part ∷ []) p refl refl
      (both_are (is_whole (c.read s).part p) (is_whole (a.read s).part p && (is_whole (b.read s).part p && true)) (test s names sees first.0)
      (both_are (is_whole (a.read s).part p) (is_whole (b.read s).part p && true) (good s names sees both.0) (both_are (is_whole (b.read s).part p) true (other s names sees both.1) refl)))

  block_good : (at : ℕ) (bs : List GoodBind) (e : Reading) → IsGoodAt e.read → IsGoodAt (block_read at (bind_readings bs) e)
  block_good at bs e good s names sees none =
      let r = read_binds (bind_readings bs) [] s in
      let v = e.read r.scope in
      let both = none_left r.faults v.faults none in
      whole_as at (term.Block r.binds v.part) (Term-F.Block r.binds v.part) (place_of s names) (sym (rolls-Block r.binds v.part))
      (binds_whole bs [] s names (is_whole v.part) e.read good sees both.0 both.1)

  abbrev FormOf : Type 0
  FormOf = (f : Form) × IsGoodForm f

  abbrev BindOf : Type 0
  BindOf = (b : Bind) × IsGoodBind b

  abbrev ExprOf : Type 0
  ExprOf = (e : Expr) × IsGood e

  abbrev good_readings : List ExprOf → List GoodReading
  good_readings [] = []
  good_readings (e ∷ es) = (reading e.0, e.1) ∷ good_readings es

  readings_are : (es : List ExprOf) → map reading (map (λ (e : (e : Expr) × IsGood e). e.0) es) ≡ readings (good_readings es)
  readings_are [] = refl
  readings_are (e ∷ es) = ap (λ (rs : List Reading). reading e.0 ∷ rs) (readings_are es)

  abbrev good_binds : List BindOf → List GoodBind
  good_binds [] = []
  good_binds (b ∷ bs) = (reading_of_bind b.0, b.1) ∷ good_binds bs

  binds_same : (bs : List BindOf) → map reading_of_bind (map (λ (b : (b : Bind) × IsGoodBind b). b.0) bs) ≡ bind_readings (good_binds bs)
  binds_same [] = refl
  binds_same (b ∷ bs) = ap (λ (rs : List BindReading). reading_of_bind b.0 ∷ rs) (binds_same bs)

  abbrev IsGoodFormed : Formed → Type 0
  IsGoodFormed f = (at : ℕ) → IsGoodAt (λ s. f.read at s)

  form_layer : (x : Form-F Form Bind Expr) → IsGoodFormed (form_reading (map-Form Form Bind Expr Formed BindReading Reading form_of reading_of_bind reading x)) → IsGoodForm (roll-Form x)
  form_layer x h = subst IsGoodFormed (sym (fold-roll-Form Formed BindReading Reading form_reading bind_reading expr_reading x)) h

  of_form : (y : Form-F FormOf BindOf ExprOf) → IsGoodForm (roll-Form (map-Form FormOf BindOf ExprOf Form Bind Expr (λ e. e.0) (λ e. e.0) (λ e. e.0) y))
  of_form (Form-F.Number v) = form_layer (Form-F.Number v) (λ at s names sees none. number_whole at v (place_of s names))
  of_form (Form-F.Name x) = form_layer (Form-F.Name x) (λ at s names sees none. named_whole at x.bytes s names sees none)
  of_form (Form-F.Call x es) =
      form_layer (Form-F.Call x (map (λ (e : (e : Expr) × IsGood e). e.0) es))
      (λ at. subst (λ (rs : List Reading). IsGoodAt (λ s. called at x.bytes (builtin_of x.bytes) rs s)) (sym (readings_are es))
      (λ s names sees none. call_whole at x.bytes (builtin_of x.bytes) (good_readings es) s names sees none))
  of_form (Form-F.If c a b) = form_layer (Form-F.If c.0 a.0 b.0) (λ at. choice_whole at (reading c.0) (reading a.0) (reading b.0) c.1 a.1 b.1)
  of_form (Form-F.Block bs e) =
      form_layer (Form-F.Block (map (λ (b : (b : Bind) × IsGoodBind b). b.0) bs) e.0)
      (λ at. subst (λ (rs : List BindReading). IsGoodAt (λ s. block_read at rs (reading e.0) s)) (sym (binds_same bs)) (block_good at (good_binds bs) (reading e.0) e.1))
  of_form (Form-F.Binary o a b) = form_layer (Form-F.Binary o a.0 b.0) (λ at. binary_whole at o (reading a.0) (reading b.0) a.1 b.1)
  of_form (Form-F.Prefix o a) =
      form_layer (Form-F.Prefix o a.0)
      (λ at s names sees none. apply_whole at (prefix_operator o) (((reading a.0).read s).part ∷ []) (place_of s names) (one_count o).0 (one_count o).1
      (both_are (is_whole ((reading a.0).read s).part (place_of s names)) true (a.1 s names sees none) refl))

  of_bind : (x : Bind-F Form Bind Expr) → IsGood x.value → IsGoodBind (roll-Bind x)
  of_bind x h = subst (λ (b : BindReading). IsGoodAt b.read) (sym (fold-roll-Bind Formed BindReading Reading form_reading bind_reading expr_reading x)) h

  of_expr : (x : Expr-F Form Bind Expr) → IsGoodForm x.form → IsGood (roll-Expr x)
  of_expr x h = subst (λ (r : Reading). IsGoodAt r.read) (sym (fold-roll-Expr Formed BindReading Reading form_reading bind_reading expr_reading x)) (h x.at)

  pub good : (e : Expr) → IsGood e
  good = ind-Expr IsGoodForm IsGoodBind IsGood
      (λ x y is. subst (λ z. IsGoodForm (roll-Form z)) is (of_form y))
      (λ x y is. subst (λ z. IsGoodBind (roll-Bind z)) is (of_bind (record { at = y.at; name = y.name; value = y.value.0 }) y.value.1))
      (λ x y is. subst (λ z. IsGood (roll-Expr z)) is (of_expr (record { at = y.at; form = y.form.0 }) y.form.1))
