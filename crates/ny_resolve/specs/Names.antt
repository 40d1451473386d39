-- What names stand for at a place of the text.
use Rattle.std.specs.Prelude.{ℕ, not, nat_eq, nat_le, List, [], ◌∷◌, ◌++◌, Option, Some, None, is_some, bytes_eq}
use Rattle.std.specs.Map.{lookup}
use Rattle.indexmap.specs.IndexMap.{insert_entry}
use Rattle.ny_scope.specs.Scopes.{last_of}
use Rattle.ny_resolve.specs.declared.term.NameId.{NameId}
use Rattle.ny_resolve.specs.declared.names.Called.{Called}
use Rattle.ny_resolve.specs.declared.names.Names.{Names}
use Rattle.ny_resolve.specs.declared.fault.Fault.{Fault}
use Rattle.ny_resolve.specs.declared.fault.CheckWhy.TheVariants as why
use Rattle.ny_resolve.specs.Builtins.{Bytes}
use Rattle.ny_resolve.specs.Faults.{one_fault, fault_if}

-- The functions and the global variables of the whole text, each name at its first declaration; the number of the declaration
-- in which the place stands; and the local names that it sees, the nearest last.
pub record Scope : Type 0 where
  pub functions : List (Bytes × Called)
  pub variables : List (Bytes × ℕ)
  pub here : ℕ
  pub locals : List (Bytes × NameId)

abbrev pub name_at : ℕ → NameId
name_at at = record { 0 = at }

-- what a local name stands for, if the place sees one
abbrev pub local_of : Bytes → Scope → Option NameId
local_of x s = last_of (bytes_eq x) s.locals

-- a name that is bound at a place of the text
abbrev pub with_local : Bytes → ℕ → Scope → Scope
with_local x at s = record s { locals = s.locals ++ (x, name_at at) ∷ [] }

-- a use of a global variable: it must be declared, and before the place
abbrev pub variable_faults : ℕ → ℕ → Option ℕ → List Fault
variable_faults at here None = one_fault why.UnknownName at
variable_faults at here (Some number) = fault_if (nat_le here number) why.NotYetDefined at

-- a call of a function: it must be declared, before the place, and with so many parameters
abbrev pub function_faults : ℕ → ℕ → ℕ → Option Called → List Fault
function_faults at here n None = one_fault why.UnknownName at
function_faults at here n (Some f) = fault_if (nat_le here f.number) why.NotYetDefined at ++ fault_if (not (nat_eq n f.params)) why.Arity at

-- a name of a list that stands there a second time
abbrev pub again_faults : List (Bytes × NameId) → Bytes → ℕ → List Fault
again_faults seen x at = fault_if (is_some (lookup (bytes_eq x) seen)) why.Redefined at

-- the names of a list, each once
abbrev pub seen_after : List (Bytes × NameId) → Bytes → ℕ → List (Bytes × NameId)
seen_after seen x at = insert_entry bytes_eq seen x (name_at at)

-- the scope of a place in the declaration of this number, with these local names
abbrev pub scope_of : Names → ℕ → List (Bytes × NameId) → Scope
scope_of names here locals = record { functions = names.functions.entries; variables = names.variables.entries; here = here; locals = locals }
