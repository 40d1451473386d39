-- The names that were declared so far are those of the earlier declarations.
use Rattle.std.proofs.Common.{◌≡◌, ℕ, ◌+◌, Bool, true, false, List, [], ◌∷◌, ◌++◌, length, Some, None, refl, sym, ap, ◌∙◌}
use Rattle.std.specs.Prelude.{if◌then◌else◌, ◌||◌, is_some, bytes_eq}
use Rattle.std.specs.List.{list_any}
use Rattle.std.specs.Map.{lookup}
use Rattle.std.proofs.lemmas.List.Folds.{list_any-append}
use Rattle.std.proofs.lemmas.Slice.Eq.{bytes_eq-Decides}
use Rattle.indexmap.specs.IndexMap.{insert_entry}
use Rattle.ny_syntax.specs.declared.tree.Decl.{Decl}
use Rattle.ny_syntax.specs.declared.tree.Decl.TheVariants as decl
use Rattle.ny_resolve.specs.declared.fault.Fault.{Fault}
use Rattle.ny_resolve.specs.declared.fault.CheckWhy.TheVariants as why
use Rattle.ny_resolve.specs.declared.names.Called.{Called}
use Rattle.ny_resolve.specs.Faults.{fault_if}
use Rattle.ny_resolve.specs.Builtins.{Bytes, builtin_of}
use Rattle.ny_resolve.specs.Declarations.{Declaring, declare_faults, is_taken, function_is_taken, function_declared, variable_declared, declare, nothing_declared, names_faults}
use Rattle.ny_resolve.specs.Again.{is_function_of, is_variable_of, is_again, place_of, again_after}

same_bytes : (x y : Bytes) → bytes_eq x y ≡ true → x ≡ y
same_bytes x y h = (bytes_eq-Decides x y).0 h

or_no : (b c : Bool) → c ≡ false → (b || c) ≡ b
or_no true c h = refl
or_no false c h = h

or_yes : (b c : Bool) → c ≡ true → (b || c) ≡ true
or_yes true c h = refl
or_yes false c h = h

-- a key that is inserted is found, and so are all that were there
taken_insert : {A : Type 0} (x k : Bytes) (v : A) (es : List (Bytes × A)) → is_taken x (insert_entry bytes_eq es k v) ≡ (is_taken x es || bytes_eq x k)
taken_insert {A} x k v [] = by (bytes_eq x k)
  where
    by : (b : Bool) → is_some (if b then Some v else None) ≡ (false || b)
    by true = refl
    by false = refl
taken_insert {A} x k v (e ∷ es) = by (bytes_eq k e.0) (bytes_eq x e.0) refl refl (taken_insert x k v es)
  where
    by : (b c : Bool) → bytes_eq k e.0 ≡ b → bytes_eq x e.0 ≡ c → is_taken x (insert_entry bytes_eq es k v) ≡ (is_taken x es || bytes_eq x k)
        → is_some (lookup (bytes_eq x) (if b then (e.0, v) ∷ es else e ∷ insert_entry bytes_eq es k v)) ≡ (is_some (if c then Some e.1 else lookup (bytes_eq x) es) || bytes_eq x k)
    by true true p q rest = ap (λ (d : Bool). is_some (if d then Some v else lookup (bytes_eq x) es)) q
    by true false p q rest =
        ap (λ (d : Bool). is_some (if d then Some v else lookup (bytes_eq x) es)) q
        ∙ sym (or_no (is_taken x es) (bytes_eq x k) (ap (bytes_eq x) (same_bytes k e.0 p) ∙ q))
    by false true p q rest = ap (λ (d : Bool). is_some (if d then Some e.1 else lookup (bytes_eq x) (insert_entry bytes_eq es k v))) q
    by false false p q rest = ap (λ (d : Bool). is_some (if d then Some e.1 else lookup (bytes_eq x) (insert_entry bytes_eq es k v))) q ∙ rest

-- what is declared so far, by the earlier declarations
record Knows (earlier : List Decl) (d : Declaring) : Type 0 where
  functions : (x : Bytes) → function_is_taken x d.functions ≡ (is_some (builtin_of x) || list_any (is_function_of x) earlier)
  variables : (x : Bytes) → is_taken x d.variables ≡ list_any (is_variable_of x) earlier

-- one more declaration, of whose name this is
any_more : (p : Decl → Bool) (earlier : List Decl) (y : Decl) → list_any p (earlier ++ y ∷ []) ≡ (list_any p earlier || p y)
any_more p earlier y = list_any-append p earlier (y ∷ []) ∙ ap (λ (c : Bool). list_any p earlier || c) (or_no (p y) false refl)

joined : (b t any c : Bool) → (b || t) ≡ (b || any) → (b || (t || c)) ≡ (b || (any || c))
joined true t any c h = refl
joined false t any c h = ap (λ (d : Bool). d || c) h

known_function : (n : Bytes) (f : Called) (earlier : List Decl) (y : Decl) (d : Declaring) → ((x : Bytes) → is_function_of x y ≡ bytes_eq x n) → ((x : Bytes) → is_variable_of x y ≡ false) → Knows earlier d
    → Knows (earlier ++ y ∷ []) (function_declared n f d)
known_function n f earlier y d is not k = by (function_is_taken n d.functions) refl
  where
    more : (x : Bytes) → list_any (is_function_of x) (earlier ++ y ∷ []) ≡ (list_any (is_function_of x) earlier || bytes_eq x n)
    more x = any_more (is_function_of x) earlier y ∙ ap (λ (c : Bool). list_any (is_function_of x) earlier || c) (is x)

    others : (x : Bytes) → is_taken x d.variables ≡ list_any (is_variable_of x) (earlier ++ y ∷ [])
    others x = k.variables x ∙ sym (any_more (is_variable_of x) earlier y ∙ or_no (list_any (is_variable_of x) earlier) (is_variable_of x y) (not x))

    twice : (x : Bytes) (c : Bool) → bytes_eq x n ≡ c → function_is_taken n d.functions ≡ true → function_is_taken x d.functions ≡ (is_some (builtin_of x) || (list_any (is_function_of x) earlier || c))
    twice x true p taken =
        ap (λ (z : Bytes). function_is_taken z d.functions) (same_bytes x n p) ∙ taken
        ∙ sym (or_yes (is_some (builtin_of x)) (list_any (is_function_of x) earlier || true) (or_yes (list_any (is_function_of x) earlier) true refl))
    twice x false p taken = k.functions x ∙ ap (λ (c : Bool). is_some (builtin_of x) || c) (sym (or_no (list_any (is_function_of x) earlier) false refl))

    by : (b : Bool) → function_is_taken n d.functions ≡ b
        → Knows (earlier ++ y ∷ []) (if b then d else record { functions = insert_entry bytes_eq d.functions n f; variables = d.variables })
    by true taken = record { functions = λ x. twice x (bytes_eq x n) refl taken ∙ ap (λ (c : Bool). is_some (builtin_of x) || c) (sym (more x)); variables = others }
    by false taken = record {
      functions = λ x. ap (λ (c : Bool). is_some (builtin_of x) || c) (taken_insert x n f d.functions)
          ∙ joined (is_some (builtin_of x)) (is_taken x d.functions) (list_any (is_function_of x) earlier) (bytes_eq x n) (k.functions x)
          ∙ ap (λ (c : Bool). is_some (builtin_of x) || c) (sym (more x));
      variables = others;
    }

known_variable : (n : Bytes) (i : ℕ) (earlier : List Decl) (y : Decl) (d : Declaring) → ((x : Bytes) → is_variable_of x y ≡ bytes_eq x n) → ((x : Bytes) → is_function_of x y ≡ false) → Knows earlier d
    → Knows (earlier ++ y ∷ []) (variable_declared n i d)
known_variable n i earlier y d is not k = by (is_taken n d.variables) refl
  where
    more : (x : Bytes) → list_any (is_variable_of x) (earlier ++ y ∷ []) ≡ (list_any (is_variable_of x) earlier || bytes_eq x n)
    more x = any_more (is_variable_of x) earlier y ∙ ap (λ (c : Bool). list_any (is_variable_of x) earlier || c) (is x)

    others : (x : Bytes) → function_is_taken x d.functions ≡ (is_some (builtin_of x) || list_any (is_function_of x) (earlier ++ y ∷ []))
    others x = k.functions x ∙ ap (λ (c : Bool). is_some (builtin_of x) || c) (sym (any_more (is_function_of x) earlier y ∙ or_no (list_any (is_function_of x) earlier) (is_function_of x y) (not x)))

    twice : (x : Bytes) (c : Bool) → bytes_eq x n ≡ c → is_taken n d.variables ≡ true → is_taken x d.variables ≡ (list_any (is_variable_of x) earlier || c)
    twice x true p taken = ap (λ (z : Bytes). is_taken z d.variables) (same_bytes x n p) ∙ taken ∙ sym (or_yes (list_any (is_variable_of x) earlier) true refl)
    twice x false p taken = k.variables x ∙ sym (or_no (list_any (is_variable_of x) earlier) false refl)

    by : (b : Bool) → is_taken n d.variables ≡ b → Knows (earlier ++ y ∷ []) (if b then d else record { functions = d.functions; variables = insert_entry bytes_eq d.variables n i })
    by true taken = record { functions = others; variables = λ x. twice x (bytes_eq x n) refl taken ∙ sym (more x) }
    by false taken = record {
      functions = others;
      variables = λ x. taken_insert x n i d.variables ∙ ap (λ (c : Bool). c || bytes_eq x n) (k.variables x) ∙ sym (more x);
    }

known_more : (i : ℕ) (y : Decl) (earlier : List Decl) (d : Declaring) → Knows earlier d → Knows (earlier ++ y ∷ []) (declare i y d)
known_more i (decl.Function at name params body) earlier d k =
    known_function name.bytes (record { number = i; params = length params }) earlier (decl.Function at name params body) d (λ x. refl) (λ x. refl) k
known_more i (decl.Variable at name value) earlier d k = known_variable name.bytes i earlier (decl.Variable at name value) d (λ x. refl) (λ x. refl) k

one_name : (y : Decl) (earlier : List Decl) (d : Declaring) → Knows earlier d → declare_faults y d ≡ fault_if (is_again earlier y) why.Redefined (place_of y)
one_name (decl.Function at name params body) earlier d k = ap (λ (b : Bool). fault_if b why.Redefined at) (k.functions name.bytes)
one_name (decl.Variable at name value) earlier d k = ap (λ (b : Bool). fault_if b why.Redefined at) (k.variables name.bytes)

names_from : (i : ℕ) (ds earlier : List Decl) (d : Declaring) → Knows earlier d → names_faults i ds d ≡ again_after earlier ds
names_from i [] earlier d k = refl
names_from i (y ∷ ds) earlier d k =
    ap (λ (fs : List Fault). fs ++ names_faults (i + 1) ds (declare i y d)) (one_name y earlier d k)
    ∙ ap (λ (fs : List Fault). fault_if (is_again earlier y) why.Redefined (place_of y) ++ fs) (names_from (i + 1) ds (earlier ++ y ∷ []) (declare i y d) (known_more i y earlier d k))

pub names_again : (decls : List Decl) → names_faults 0 decls nothing_declared ≡ again_after [] decls
names_again decls = names_from 0 decls [] nothing_declared (record { functions = λ x. refl; variables = λ x. refl })
