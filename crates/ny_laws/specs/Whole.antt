-- Parts of which the table leaves nothing out: whatever they name is there, calls and operators have as many operands as they take, and
-- literals are as they should be: counts, divisors and maps. The parts of an accepted text are so.
use Rattle.std.specs.Prelude.{ℕ, Bool, true, false, not, ◌&&◌, nat_lt, nat_le, nat_eq, List, [], ◌∷◌, ◌++◌, length, get_or}
use Rattle.std.specs.List.{list_any}
use Rattle.ny_warp.specs.Maps.{is_rising}
use Rattle.ny_resolve.specs.declared.builtin.Operator.{Operator}
use Rattle.ny_resolve.specs.declared.builtin.Operator.TheVariants as op
use Rattle.ny_resolve.specs.declared.term.NameId.{NameId}
use Rattle.ny_resolve.specs.declared.term.Term.TheFolds.{fold-Part, fold-Bound}
use Rattle.ny_resolve.specs.declared.term.Term.TheOpen.{Term-F, Part-F, Bound-F}
use Rattle.ny_resolve.specs.declared.term.Part.{Part}
use Rattle.ny_resolve.specs.declared.term.Bound.{Bound}
use Rattle.ny_resolve.specs.declared.term.Declared.{Declared}
use Rattle.ny_resolve.specs.Builtins.{operator_arity, fits}
use Rattle.ny_resolve.specs.Literals.{is_zero}
use Rattle.ny_resolve.specs.Keys.{same_name}
use Rattle.ny_kinds.specs.Kinds.{no_declared}
use Rattle.ny_check.specs.Writing.{points_of}

-- what a place sees: all declarations, the number of its own, and the local names
pub record Place : Type 0 where
  pub declared : List Declared
  pub here : ℕ
  pub names : List NameId

abbrev pub Tested : Type 0
Tested = Place → Bool

pub record TestedBind : Type 0 where
  pub name : NameId
  pub value : Tested

abbrev pub with_name : NameId → Place → Place
with_name x s = record { declared = s.declared; here = s.here; names = s.names ++ x ∷ [] }

abbrev pub all_whole : List Tested → Tested
all_whole [] s = true
all_whole (e ∷ es) s = e s && all_whole es s

-- each bind is seen by those after it, and by the value
abbrev pub block_whole : List TestedBind → Tested → Tested
block_whole [] e s = e s
block_whole (b ∷ bs) e s = b.value s && block_whole bs e (with_name b.name s)

-- a vector has at most eight operands
abbrev pub few : Operator → ℕ → Bool
few op.Vector n = nat_le n 8
few _ n = true

-- a repeat has one part at least, and at most 100,000
abbrev pub is_times : ℕ → Bool
is_times n = nat_le 1 n && nat_le n 100000

abbrev pub term_whole : Term-F Tested TestedBind Tested → Tested
term_whole (Term-F.Number v) s = true
term_whole (Term-F.Local x) s = list_any (same_name x) s.names
term_whole (Term-F.Global n) s = nat_lt n s.here && (get_or s.declared n no_declared).is_variable
term_whole (Term-F.Call n es) s = (nat_lt n s.here && nat_eq (length es) (length (get_or s.declared n no_declared).params)) && all_whole es s
term_whole (Term-F.Block bs e) s = block_whole bs e s
term_whole (Term-F.Apply o es) s = (fits (operator_arity o) (length es) && few o (length es)) && all_whole es s
term_whole (Term-F.Over a v) s = not (is_zero v) && a s
term_whole (Term-F.Repeat o x n e) s = is_times n && e (with_name x s)
term_whole (Term-F.Nameless e) s = false
term_whole (Term-F.Warp vs e) s = is_rising (points_of vs) && e s
term_whole (Term-F.Rate w r e) s = e s

abbrev pub bound_whole : Bound-F Tested TestedBind Tested → TestedBind
bound_whole b = record { name = b.name; value = b.value }

abbrev pub part_whole : Part-F Tested TestedBind Tested → Tested
part_whole p = p.term

abbrev pub is_whole : Part → Tested
is_whole = fold-Part Tested TestedBind Tested term_whole bound_whole part_whole

abbrev pub is_whole_bind : Bound → TestedBind
is_whole_bind = fold-Bound Tested TestedBind Tested term_whole bound_whole part_whole
