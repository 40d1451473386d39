-- What the places of a text see, and that a text that is read without a fault leaves nothing out.
use Rattle.std.proofs.Common.{◌≡◌, ℕ, zero, suc, ◌+◌, ◌<◌, Bool, true, false, List, [], ◌∷◌, ◌++◌, length, get_or, drop, refl, sym, ap, ◌∙◌, subst, Option, Some, None, cond, arith}
use Rattle.std.specs.Prelude.{bytes_eq, if◌then◌else◌}
use Rattle.std.specs.Map.{lookup}
use Rattle.indexmap.specs.IndexMap.{insert_entry}
use Rattle.ny_syntax.specs.declared.tree.Expr.{Expr}
use Rattle.ny_syntax.specs.declared.tree.Param.{Param}
use Rattle.ny_syntax.specs.declared.tree.Decl.{Decl}
use Rattle.ny_syntax.specs.declared.tree.Decl.TheVariants as decl
use Rattle.ny_syntax.specs.declared.tree.Tree.{Tree}
use Rattle.ny_resolve.specs.declared.names.Called.{Called}
use Rattle.ny_resolve.specs.declared.term.NameId.{NameId}
use Rattle.ny_resolve.specs.declared.term.Part.{Part}
use Rattle.ny_resolve.specs.declared.term.Declared.{Declared}
use Rattle.ny_resolve.specs.Builtins.{Bytes}
use Rattle.ny_resolve.specs.Names.{Scope, name_at, with_local}
use Rattle.ny_resolve.specs.Reading.{reading}
use Rattle.ny_resolve.specs.Declarations.{Declaring, nothing_declared, function_is_taken, is_taken, declare, declared_after, names_faults, param_names, with_params, params_faults, declaration_read, scope_in, declarations_read, play_read, tree_read}
use Rattle.ny_kinds.specs.Kinds.{no_declared}
use Rattle.ny_laws.specs.Whole.{is_whole}
use Rattle.ny_laws.proofs.ReadWhole.{none_left, IsCalled, IsVariable, Sees, sees_local, good}
use Rattle.ny_laws.proofs.TextKinds.{TextWhole, declared_at}

-- ---- entries of a map

abbrev AllEntries : {V : Type 0} → (V → Type 0) → List (Bytes × V) → Type 0
AllEntries P [] = Unit {0}
AllEntries P (e ∷ es) = P e.1 × AllEntries P es

all_insert : {V : Type 0} (P : V → Type 0) (k : Bytes) (v : V) (es : List (Bytes × V)) → AllEntries P es → P v → AllEntries P (insert_entry bytes_eq es k v)
all_insert P k v [] h one = (one, tt)
all_insert P k v (e ∷ es) h one = by (bytes_eq k e.0) (all_insert P k v es h.1 one)
  where
    by : (b : Bool) → AllEntries P (insert_entry bytes_eq es k v) → AllEntries P (if b then (e.0, v) ∷ es else e ∷ insert_entry bytes_eq es k v)
    by true rest = (one, h.1)
    by false rest = (h.0, rest)

some_same : {V : Type 0} (a b : V) → Some a ≡ Some b → a ≡ b
some_same a b is = cc

all_found : {V : Type 0} (P : V → Type 0) (x : Bytes) (v : V) (es : List (Bytes × V)) → AllEntries P es → lookup (bytes_eq x) es ≡ Some v → P v
all_found P x v [] h is = cc
all_found P x v (e ∷ es) h is = by (bytes_eq x e.0) (λ rest. all_found P x v es h.1 rest) is
  where
    by : (c : Bool) → (lookup (bytes_eq x) es ≡ Some v → P v) → cond c (Some e.1) (lookup (bytes_eq x) es) ≡ Some v → P v
    by true rest same = subst P (some_same e.1 v same) h.0
    by false rest same = rest same

-- ---- lists

head_of : (ds : List Declared) (i : ℕ) (y : Declared) (ys : List Declared) → drop i ds ≡ y ∷ ys → (get_or ds i no_declared ≡ y) × (drop (i + 1) ds ≡ ys)
head_of [] zero y ys is = cc
head_of [] (suc i) y ys is = cc
head_of (d ∷ ds) zero y ys is = (cc, cc)
head_of (d ∷ ds) (suc i) y ys is =
    let rest = head_of ds i y ys is in
    let same : suc (i + 1) ≡ suc i + 1 = omega arith in
    (rest.0, subst (λ (n : ℕ). drop n (d ∷ ds) ≡ ys) same rest.1)

push_all : (xs ys : List NameId) (x : NameId) → (xs ++ x ∷ []) ++ ys ≡ xs ++ x ∷ ys
push_all [] ys x = refl
push_all (z ∷ xs) ys x = ap (λ (zs : List NameId). z ∷ zs) (push_all xs ys x)

push_none : (xs : List NameId) → xs ++ [] ≡ xs
push_none [] = refl
push_none (z ∷ xs) = ap (λ (zs : List NameId). z ∷ zs) (push_none xs)

param_count : (ps : List Param) → length (param_names ps) ≡ length ps
param_count [] = refl
param_count (p ∷ ps) = ap (λ (n : ℕ). suc n) (param_count ps)

here_same : (ps : List Param) (s : Scope) → (with_params ps s).here ≡ s.here
here_same [] s = refl
here_same (p ∷ ps) s = here_same ps (with_local p.name.bytes p.at s)

-- ---- what is declared

-- the declaration that is read of one of the text
abbrev IsDeclaration : Decl → Declared → Type 0
IsDeclaration (decl.Function at name params body) d = length d.params ≡ length params
IsDeclaration (decl.Variable at name value) d = d.is_variable ≡ true

is_declaration : (x : Decl) (s : Scope) → IsDeclaration x (declaration_read x s).declared
is_declaration (decl.Function at name params body) s = param_count params
is_declaration (decl.Variable at name value) s = refl

read_count : (d : Declaring) (i : ℕ) (xs : List Decl) → length (declarations_read d i xs).declared ≡ length xs
read_count d i [] = refl
read_count d i (x ∷ xs) = ap (λ (n : ℕ). suc n) (read_count d (i + 1) xs)

module _ (ds : List Declared) where
  abbrev Declares : ℕ → List Decl → Type 0
  Declares i [] = Unit {0}
  Declares i (x ∷ xs) = IsDeclaration x (declared_at ds i) × Declares (i + 1) xs

  declares : (d : Declaring) (i : ℕ) (xs : List Decl) → drop i ds ≡ (declarations_read d i xs).declared → Declares i xs
  declares d i [] is = tt
  declares d i (x ∷ xs) is =
      let head = head_of ds i (declaration_read x (scope_in d i)).declared (declarations_read d (i + 1) xs).declared is in
      (subst (IsDeclaration x) (sym head.0) (is_declaration x (scope_in d i)), declares d (i + 1) xs head.1)

  abbrev IsKnown : Declaring → Type 0
  IsKnown d = AllEntries (IsCalled ds) d.functions × AllEntries (IsVariable ds) d.variables

  known_one : (i : ℕ) (x : Decl) (d : Declaring) → IsDeclaration x (declared_at ds i) → IsKnown d → IsKnown (declare i x d)
  known_one i (decl.Function at name params body) d is known = by (function_is_taken name.bytes d.functions)
    where
      f : Called
      f = record { number = i; params = length params }

      by : (b : Bool) → IsKnown (if b then d else record { functions = insert_entry bytes_eq d.functions name.bytes f; variables = d.variables })
      by true = known
      by false = (all_insert (IsCalled ds) name.bytes f d.functions known.0 (sym is), known.1)
  known_one i (decl.Variable at name value) d is known = by (is_taken name.bytes d.variables)
    where
      by : (b : Bool) → IsKnown (if b then d else record { functions = d.functions; variables = insert_entry bytes_eq d.variables name.bytes i })
      by true = known
      by false = (known.0, all_insert (IsVariable ds) name.bytes i d.variables known.1 is)

  known_all : (i : ℕ) (xs : List Decl) (d : Declaring) → Declares i xs → IsKnown d → IsKnown (declared_after i xs d)
  known_all i [] d h known = known
  known_all i (x ∷ xs) d h known = known_all (i + 1) xs (declare i x d) h.1 (known_one i x d h.0 known)

  -- ---- what a declaration sees

  sees_top : (d : Declaring) (i : ℕ) → IsKnown d → Sees ds (scope_in d i) []
  sees_top d i known = record {
    functions = λ x f is. all_found (IsCalled ds) x f d.functions known.0 is;
    variables = λ x n is. all_found (IsVariable ds) x n d.variables known.1 is;
    locals = λ x n is. cc;
  }

  sees_params : (ps : List Param) (s : Scope) (names : List NameId) → Sees ds s names → Sees ds (with_params ps s) (names ++ param_names ps)
  sees_params [] s names sees = subst (Sees ds s) (sym (push_none names)) sees
  sees_params (p ∷ ps) s names sees =
      subst (Sees ds (with_params ps (with_local p.name.bytes p.at s))) (push_all names (param_names ps) (name_at p.at))
      (sees_params ps (with_local p.name.bytes p.at s) (names ++ name_at p.at ∷ []) (sees_local ds s names p.name.bytes p.at sees))

  -- ---- declarations leave nothing out

  abbrev IsWholeOne : ℕ → Declared → Type 0
  IsWholeOne i d = (is_whole d.body (record { declared = ds; here = i; names = d.params }) ≡ true) × (d.is_variable ≡ true → d.params ≡ [])

  whole_one : (d : Declaring) (i : ℕ) (x : Decl) → IsKnown d → (declaration_read x (scope_in d i)).faults ≡ [] → IsWholeOne i (declaration_read x (scope_in d i)).declared
  whole_one d i (decl.Function at name params body) known none =
      let s : Scope = with_params params (scope_in d i) in
      let b = (reading body).read s in
      let whole : is_whole b.part (record { declared = ds; here = s.here; names = param_names params }) ≡ true =
      good ds body s (param_names params) (sees_params params (scope_in d i) [] (sees_top d i known)) (none_left (params_faults params []) b.faults none).1 in
      (subst (λ (n : ℕ). is_whole b.part (record { declared = ds; here = n; names = param_names params }) ≡ true) (here_same params (scope_in d i)) whole, λ variable. cc)
  whole_one d i (decl.Variable at name value) known none = (good ds value (scope_in d i) [] (sees_top d i known) none, λ variable. refl)

  whole_from : (d : Declaring) (i : ℕ) (xs : List Decl) → IsKnown d → drop i ds ≡ (declarations_read d i xs).declared → (declarations_read d i xs).faults ≡ []
      → (n : ℕ) → n < length xs → IsWholeOne (i + n) (declared_at ds (i + n))
  whole_from d i [] known is none n lt = absurd (omega arith)
  whole_from d i (x ∷ xs) known is none zero lt =
      let r = declaration_read x (scope_in d i) in
      let rest = declarations_read d (i + 1) xs in
      let head = head_of ds i r.declared rest.declared is in
      let same : i ≡ i + 0 = omega arith in
      subst (λ (k : ℕ). IsWholeOne k (declared_at ds k)) same (subst (IsWholeOne i) (sym head.0) (whole_one d i x known (none_left r.faults rest.faults none).0))
  whole_from d i (x ∷ xs) known is none (suc n) lt =
      let r = declaration_read x (scope_in d i) in
      let rest = declarations_read d (i + 1) xs in
      let head = head_of ds i r.declared rest.declared is in
      let same : (i + 1) + n ≡ i + suc n = omega arith in
      subst (λ (k : ℕ). IsWholeOne k (declared_at ds k)) same (whole_from d (i + 1) xs known head.1 (none_left r.faults rest.faults none).1 n (omega arith))

-- ---- the whole text

module _ (ds : List Declared) (d : Declaring) (known : IsKnown ds d) where
  play_whole : (n end : ℕ) (e : Option Expr) (part : Part) → (play_read d n end e).faults ≡ [] → (play_read d n end e).play ≡ Some part
      → is_whole part (record { declared = ds; here = n; names = [] }) ≡ true
  play_whole n end None part none plays = cc
  play_whole n end (Some e) part none plays =
      let same : ((reading e).read (scope_in d n)).part ≡ part = cc in
      subst (λ (p : Part). is_whole p (record { declared = ds; here = n; names = [] }) ≡ true) same (good ds e (scope_in d n) [] (sees_top ds d n known) none)

  whole_at : (xs : List Decl) → ds ≡ (declarations_read d 0 xs).declared → (declarations_read d 0 xs).faults ≡ [] → (n : ℕ) → n < length ds → IsWholeOne ds n (declared_at ds n)
  whole_at xs is none n lt =
      let count : length ds ≡ length xs = ap (λ (ys : List Declared). length ys) is ∙ read_count d 0 xs in
      let same : 0 + n ≡ n = omega arith in
      subst (λ (k : ℕ). IsWholeOne ds k (declared_at ds k)) same (whole_from ds d 0 xs known is none n (omega (arith, lt, count)))

pub text_whole : (tree : Tree) (part : Part) → (tree_read tree).faults ≡ [] → (tree_read tree).play ≡ Some part → TextWhole (tree_read tree).declared part
text_whole tree part none plays =
    let d = declared_after 0 tree.decls nothing_declared in
    let r = declarations_read d 0 tree.decls in
    let p = play_read d (length tree.decls) tree.end tree.play in
    let first = none_left (names_faults 0 tree.decls nothing_declared) (r.faults ++ p.faults) none in
    let both = none_left r.faults p.faults first.1 in
    let known : IsKnown r.declared d = known_all r.declared 0 tree.decls nothing_declared (declares r.declared d 0 tree.decls refl) (tt, tt) in
    record {
      bodies = λ n lt. (whole_at r.declared d known tree.decls refl both.0 n lt).0;
      variables = λ n lt variable. (whole_at r.declared d known tree.decls refl both.0 n lt).1 variable;
      play = subst (λ (n : ℕ). is_whole part (record { declared = r.declared; here = n; names = [] }) ≡ true) (sym (read_count d 0 tree.decls))
          (play_whole r.declared d known (length tree.decls) tree.end tree.play part both.1 plays);
    }
