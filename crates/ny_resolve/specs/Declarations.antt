-- The declarations of a text, and the whole text.
use Rattle.std.specs.Prelude.{ℕ, ◌+◌, Bool, true, false, ◌||◌, if◌then◌else◌, List, [], ◌∷◌, ◌++◌, map, length, Option, Some, None, is_some, bytes_eq}
use Rattle.std.specs.Map.{lookup}
use Rattle.indexmap.specs.IndexMap.{insert_entry}
use Rattle.ny_syntax.specs.declared.tree.Expr.{Expr}
use Rattle.ny_syntax.specs.declared.tree.Param.{Param}
use Rattle.ny_syntax.specs.declared.tree.Decl.{Decl}
use Rattle.ny_syntax.specs.declared.tree.Decl.TheVariants as decl
use Rattle.ny_syntax.specs.declared.tree.Tree.{Tree}
use Rattle.ny_resolve.specs.declared.fault.Fault.{Fault}
use Rattle.ny_resolve.specs.declared.fault.CheckWhy.TheVariants as why
use Rattle.ny_resolve.specs.declared.names.Called.{Called}
use Rattle.ny_resolve.specs.declared.names.Names.{Names}
use Rattle.ny_resolve.specs.declared.term.Part.{Part}
use Rattle.ny_resolve.specs.declared.term.NameId.{NameId}
use Rattle.ny_resolve.specs.declared.term.Declared.{Declared}
use Rattle.ny_resolve.specs.Faults.{one_fault, fault_if}
use Rattle.ny_resolve.specs.Builtins.{Bytes, builtin_of}
use Rattle.ny_resolve.specs.Names.{Scope, name_at, with_local, again_faults, seen_after}
use Rattle.ny_resolve.specs.Reading.{reading}

-- ---- what is declared

-- the functions and the variables, each name at its first declaration
pub record Declaring : Type 0 where
  pub functions : List (Bytes × Called)
  pub variables : List (Bytes × ℕ)

abbrev pub declaring_of : Names → Declaring
declaring_of names = record { functions = names.functions.entries; variables = names.variables.entries }

abbrev pub is_taken : {A : Type 0} → Bytes → List (Bytes × A) → Bool
is_taken x known = is_some (lookup (bytes_eq x) known)

-- a function is declared twice where its name is that of an earlier function or of a built-in
abbrev pub function_is_taken : Bytes → List (Bytes × Called) → Bool
function_is_taken x known = is_some (builtin_of x) || is_taken x known

abbrev pub function_declared : Bytes → Called → Declaring → Declaring
function_declared x f d =
    if function_is_taken x d.functions then d else record { functions = insert_entry bytes_eq d.functions x f; variables = d.variables }

abbrev pub variable_declared : Bytes → ℕ → Declaring → Declaring
variable_declared x i d =
    if is_taken x d.variables then d else record { functions = d.functions; variables = insert_entry bytes_eq d.variables x i }

-- what is declared with the declaration of number i, after those that declare d
abbrev pub declare : ℕ → Decl → Declaring → Declaring
declare i (decl.Function at name params body) d = function_declared name.bytes (record { number = i; params = length params }) d
declare i (decl.Variable at name value) d = variable_declared name.bytes i d

-- with declarations in order, from number i on
abbrev pub declared_after : ℕ → List Decl → Declaring → Declaring
declared_after i [] d = d
declared_after i (x ∷ xs) d = declared_after (i + 1) xs (declare i x d)

abbrev pub nothing_declared : Declaring
nothing_declared = record { functions = []; variables = [] }

-- a name that is declared already
abbrev pub declare_faults : Decl → Declaring → List Fault
declare_faults (decl.Function at name params body) d = fault_if (function_is_taken name.bytes d.functions) why.Redefined at
declare_faults (decl.Variable at name value) d = fault_if (is_taken name.bytes d.variables) why.Redefined at

-- the faults of the names of declarations from number i on, after those that declare d
abbrev pub names_faults : ℕ → List Decl → Declaring → List Fault
names_faults i [] d = []
names_faults i (x ∷ xs) d = declare_faults x d ++ names_faults (i + 1) xs (declare i x d)

-- ---- what a declaration is

-- parameters, each by the place where it stands
abbrev pub param_names : List Param → List NameId
param_names ps = map (λ (p : Param). name_at p.at) ps

-- the scope of a body, which sees each of these
abbrev pub with_params : List Param → Scope → Scope
with_params [] s = s
with_params (p ∷ ps) s = with_params ps (with_local p.name.bytes p.at s)

-- parameters of one name; `seen` are those before
abbrev pub params_faults : List Param → List (Bytes × NameId) → List Fault
params_faults [] seen = []
params_faults (p ∷ ps) seen = again_faults seen p.name.bytes p.at ++ params_faults ps (seen_after seen p.name.bytes p.at)

pub record ReadOne : Type 0 where
  pub declared : Declared
  pub faults : List Fault

-- a variable is a declaration without parameters, whose body is its value
abbrev pub declaration_read : Decl → Scope → ReadOne
declaration_read (decl.Function at name params body) s =
    let b = (reading body).read (with_params params s) in
    record { declared = record { params = param_names params; body = b.part; is_variable = false }; faults = params_faults params [] ++ b.faults }
declaration_read (decl.Variable at name value) s =
    let b = (reading value).read s in
    record { declared = record { params = []; body = b.part; is_variable = true }; faults = b.faults }

-- what is declared, as the scope of a place in the declaration of number i
abbrev pub scope_in : Declaring → ℕ → Scope
scope_in d i = record { functions = d.functions; variables = d.variables; here = i; locals = [] }

pub record ReadDeclarations : Type 0 where
  pub declared : List Declared
  pub faults : List Fault

-- declarations in order, from number i on
abbrev pub declarations_read : Declaring → ℕ → List Decl → ReadDeclarations
declarations_read d i [] = record { declared = []; faults = [] }
declarations_read d i (x ∷ xs) =
    let r = declaration_read x (scope_in d i) in let rest = declarations_read d (i + 1) xs in
    record { declared = r.declared ∷ rest.declared; faults = r.faults ++ rest.faults }

-- ---- the whole text

pub record ReadPlay : Type 0 where
  pub play : Option Part
  pub faults : List Fault

-- what is played sees all declarations; a text that plays nothing is a fault at its end
abbrev pub play_read : Declaring → ℕ → ℕ → Option Expr → ReadPlay
play_read d i end None = record { play = None; faults = one_fault why.NoPlay end }
play_read d i end (Some e) = let p = (reading e).read (scope_in d i) in record { play = Some p.part; faults = p.faults }

pub record ReadWhole : Type 0 where
  pub declared : List Declared
  pub play : Option Part
  pub faults : List Fault

-- The terms of a text, and the faults that it shows before any kind is known: those of the names that it declares, of its
-- declarations and of what it plays.
abbrev pub tree_read : Tree → ReadWhole
tree_read tree =
    let d = declared_after 0 tree.decls nothing_declared in
    let r = declarations_read d 0 tree.decls in
    let p = play_read d (length tree.decls) tree.end tree.play in
    record {
      declared = r.declared;
      play = p.play;
      faults = names_faults 0 tree.decls nothing_declared ++ (r.faults ++ p.faults);
    }
