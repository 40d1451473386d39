-- The order of faults: by their kind, and those of one kind by their place. A text may have many faults, of which the
-- earliest is told.
use Rattle.std.specs.Prelude.{ℕ, Bool, ◌&&◌, ◌||◌, nat_lt, nat_eq, if◌then◌else◌, List, [], ◌∷◌, ◌++◌, Option, Some, None}
use Rattle.std.specs.List.{list_any}
use Rattle.ny_resolve.specs.declared.fault.Fault.{Fault}
use Rattle.ny_resolve.specs.declared.fault.CheckWhy.{CheckWhy}
use Rattle.ny_resolve.specs.declared.fault.CheckWhy.TheVariants as why

-- the order of the kinds
abbrev pub rank : CheckWhy → ℕ
rank why.UnknownName = 0
rank why.Redefined = 1
rank why.NotYetDefined = 2
rank why.Arity = 3
rank why.Kind = 4
rank why.BadCount = 5
rank why.BadMap = 6
rank why.BadRate = 7
rank why.ZeroDivisor = 8
rank why.NoPlay = 9
rank why.TooManyChannels = 10
rank why.TooDeep = 11
rank why.TooHeavy = 12

-- f is of an earlier kind than g, or of the same kind at a lesser place
abbrev pub comes_before : Fault → Fault → Bool
comes_before f g = nat_lt (rank f.why) (rank g.why) || nat_eq (rank f.why) (rank g.why) && nat_lt f.at g.at

-- The earliest of a list of faults: none of an empty list; the head where none of the others comes before it; else the earliest
-- of the others.
unfoldable pub earliest : List Fault → Option Fault
earliest [] = None
earliest (f ∷ fs) = if list_any (λ g. comes_before g f) fs then earliest fs else Some f

-- a fault that there may be, as a list
abbrev pub if_any : Option Fault → List Fault
if_any None = []
if_any (Some f) = f ∷ []

-- the earliest of a fault that may be known already, and of these
unfoldable pub earliest_after : Option Fault → List Fault → Option Fault
earliest_after known fs = earliest (if_any known ++ fs)

-- one fault alone
abbrev pub one_fault : CheckWhy → ℕ → List Fault
one_fault w at = record { at = at; why = w } ∷ []

-- the same, if this holds, and else none
abbrev pub fault_if : Bool → CheckWhy → ℕ → List Fault
fault_if b w at = if b then one_fault w at else []
