-- A name that is declared a second time: an earlier declaration has it.
use Rattle.std.specs.Prelude.{ℕ, Bool, false, ◌||◌, List, [], ◌∷◌, ◌++◌, is_some, bytes_eq}
use Rattle.std.specs.List.{list_any}
use Rattle.ny_syntax.specs.declared.tree.Decl.{Decl}
use Rattle.ny_syntax.specs.declared.tree.Decl.TheVariants as decl
use Rattle.ny_resolve.specs.declared.fault.Fault.{Fault}
use Rattle.ny_resolve.specs.declared.fault.CheckWhy.TheVariants as why
use Rattle.ny_resolve.specs.Faults.{fault_if}
use Rattle.ny_resolve.specs.Builtins.{Bytes, builtin_of}

-- a declaration of a function of this name
abbrev pub is_function_of : Bytes → Decl → Bool
is_function_of x (decl.Function at name params body) = bytes_eq x name.bytes
is_function_of x (decl.Variable at name value) = false

-- a declaration of a global variable of this name
abbrev pub is_variable_of : Bytes → Decl → Bool
is_variable_of x (decl.Function at name params body) = false
is_variable_of x (decl.Variable at name value) = bytes_eq x name.bytes

-- a function whose name is that of a built-in or of an earlier function, and a variable whose name is that of an earlier variable
abbrev pub is_again : List Decl → Decl → Bool
is_again earlier (decl.Function at name params body) = is_some (builtin_of name.bytes) || list_any (is_function_of name.bytes) earlier
is_again earlier (decl.Variable at name value) = list_any (is_variable_of name.bytes) earlier

abbrev pub place_of : Decl → ℕ
place_of (decl.Function at name params body) = at
place_of (decl.Variable at name value) = at

-- the names that are declared again, in declarations after these
abbrev pub again_after : List Decl → List Decl → List Fault
again_after earlier [] = []
again_after earlier (d ∷ ds) = fault_if (is_again earlier d) why.Redefined (place_of d) ++ again_after (earlier ++ d ∷ []) ds
