-- The kinds of expressions, through calls, and the least place of a refusal in them and in the bodies that they reach.
use Rattle.std.specs.Prelude.{ℕ, min, Bool, true, false, not, if◌then◌else◌, List, [], ◌∷◌, ◌++◌, zip, get_or, take, Option, Some, None, nat_eq, pos}
use Rattle.std.specs.List.{list_any, list_all}
use Rattle.std.specs.Option.{option_flatten}
use Rattle.ny_scope.specs.Scopes.{last_of}
use Rattle.ny_resolve.specs.Keys.{same_name}
use Rattle.ny_resolve.specs.declared.term.Term.TheVariants as term
use Rattle.ny_resolve.specs.declared.term.Term.TheFolds.{fold-Part, fold-Bound}
use Rattle.ny_resolve.specs.declared.term.Term.TheOpen.{Term-F, Part-F, Bound-F}
use Rattle.ny_resolve.specs.declared.term.Part.{Part}
use Rattle.ny_resolve.specs.declared.term.Bound.{Bound}
use Rattle.ny_resolve.specs.declared.term.Declared.{Declared}
use Rattle.ny_resolve.specs.declared.term.NameId.{NameId}
use Rattle.ny_resolve.specs.declared.builtin.Operator.{Operator}
use Rattle.ny_kinds.specs.declared.kind.Kind.{Kind}
use Rattle.ny_kinds.specs.declared.kind.Kind.TheVariants.{Number, Sound}
use Rattle.ny_kinds.specs.declared.kind.Judgement.{Judgement}
use Rattle.ny_kinds.specs.declared.kind.Judgement.TheVariants.{Is, Refused, Silent}
use Rattle.ny_kinds.specs.declared.kind.Found.{Found}
use Rattle.ny_kinds.specs.declared.kind.Reached.{Reached}
use Rattle.ny_kinds.specs.Rows.{operator_row, is_value, is_sound, is_number, is_test, given}

-- a function, as what its body is for kinds of its arguments: a kind, if there is one, and the least place of a refusal in it
abbrev pub Behavior : Type 0
Behavior = List Kind → Found

-- what a place sees: the kinds of its local names, the nearest last, and the declarations before the one that it stands in
pub record Scope : Type 0 where
  pub values : List (NameId × Option Kind)
  pub declared : List Behavior

-- an expression, as what is found of it at a place: its kind, if it has one, and the least place of a refusal in it
abbrev pub Kinded : Type 0
Kinded = Scope → Found

pub record KindedBind : Type 0 where
  pub name : NameId
  pub value : Kinded

-- the kinds of several expressions, and the least place of a refusal in them
pub record Several : Type 0 where
  pub kinds : List (Option Kind)
  pub fault : Option ℕ

-- the kinds of a block's binds, the names after them, and the least place of a refusal in them
pub record Several_binds : Type 0 where
  pub values : List (NameId × Option Kind)
  pub kinds : List (Option Kind)
  pub fault : Option ℕ

-- the kind of what a name stands for, by its last pair
abbrev pub kind_named : NameId → List (NameId × Option Kind) → Option Kind
kind_named x values = option_flatten (last_of (same_name x) values)

-- the lesser of two places, of which there may be none
abbrev pub least : Option ℕ → Option ℕ → Option ℕ
least None q = q
least (Some p) None = Some p
least (Some p) (Some q) = Some (min p q)

-- what a judgement makes of the expression at this place, in whose parts this is the least place of a refusal
abbrev pub judged : ℕ → Judgement → Option ℕ → Found
judged at (Is k) fault = record { kind = Some k; fault = fault }
judged at Refused fault = record { kind = None; fault = least fault (Some at) }
judged at Silent fault = record { kind = None; fault = fault }

abbrev pub one_more : Option Kind → Option (List Kind) → Option (List Kind)
one_more (Some k) (Some ks) = Some (k ∷ ks)
one_more _ _ = None

-- the kinds of operands, where each has one
abbrev pub all_kinds : List (Option Kind) → Option (List Kind)
all_kinds [] = Some []
all_kinds (k ∷ ks) = one_more k (all_kinds ks)

abbrev pub followed : List Kind → Option (List Kind) → Option (List Kind)
followed first None = None
followed first (Some ks) = Some (first ++ ks)

-- where an operand has no kind, the operator is no fault itself
abbrev pub operands_row : Operator → Option (List Kind) → Judgement
operands_row o None = Silent
operands_row o (Some ks) = operator_row o ks

-- a division by a literal: of a number
abbrev pub divided_row : Option Kind → Judgement
divided_row None = Silent
divided_row (Some k) = given (is_number k) Number

-- a repeat, a warp or a change of rate: of a sound
abbrev pub sound_row : Option Kind → Judgement
sound_row None = Silent
sound_row (Some k) = given (is_sound k) Sound

-- a block or a function returns no test
abbrev pub returned_row : Option Kind → Judgement
returned_row None = Silent
returned_row (Some k) = given (not (is_test k)) k

-- a call reaches the function's body where each argument is a number or a sound
abbrev pub called : Behavior → Option (List Kind) → Reached
called f None = record { row = Silent; fault = None }
called f (Some ks) =
    if list_all is_value ks then record { row = returned_row (f ks).kind; fault = (f ks).fault } else record { row = Refused; fault = None }

abbrev pub is_refused_bind : Option Kind → Bool
is_refused_bind None = false
is_refused_bind (Some k) = not (is_value k)

abbrev pub is_silent_bind : Option Kind → Bool
is_silent_bind None = true
is_silent_bind (Some k) = false

-- a name whose bind has a refused kind has none
abbrev pub named_kind : Option Kind → Option Kind
named_kind None = None
named_kind (Some k) = if is_value k then Some k else None

-- a bind of a refused kind makes the block a fault, whatever the other binds are; a returned expression without a kind excuses nothing
abbrev pub block_row : List (Option Kind) → Option Kind → Judgement
block_row ks e = if list_any is_refused_bind ks then Refused else (if list_any is_silent_bind ks then Silent else returned_row e)

abbrev pub with_value : NameId → Option Kind → Scope → Scope
with_value x k s = record { values = s.values ++ (x, k) ∷ []; declared = s.declared }

-- expressions in order
abbrev pub several : List Kinded → Scope → Several
several [] s = record { kinds = []; fault = None }
several (e ∷ es) s = let f = e s in let rest = several es s in record { kinds = f.kind ∷ rest.kinds; fault = least f.fault rest.fault }

-- the binds of a block, each seen by those after it
abbrev pub several_binds : List KindedBind → Scope → Several_binds
several_binds [] s = record { values = s.values; kinds = []; fault = None }
several_binds (b ∷ bs) s =
    let f = b.value s in let rest = several_binds bs (with_value b.name (named_kind f.kind) s) in
    record { values = rest.values; kinds = f.kind ∷ rest.kinds; fault = least f.fault rest.fault }

abbrev pub nothing : Behavior
nothing ks = record { kind = None; fault = None }

-- a form has no place yet
abbrev pub Formed : Type 0
Formed = ℕ → Kinded

abbrev pub term_kind : Term-F Formed KindedBind Kinded → Formed
term_kind (Term-F.Number v) at s = judged at (Is Number) None
term_kind (Term-F.Local x) at s = record { kind = kind_named x s.values; fault = None }
term_kind (Term-F.Global n) at s = judged at (Is Number) None
term_kind (Term-F.Call n es) at s =
    let args = several es s in let body = called (get_or s.declared n nothing) (all_kinds args.kinds) in
    judged at body.row (least args.fault body.fault)
term_kind (Term-F.Block bs e) at s =
    let binds = several_binds bs s in let f = e (record { values = binds.values; declared = s.declared }) in
    judged at (block_row binds.kinds f.kind) (least binds.fault f.fault)
term_kind (Term-F.Apply o es) at s = let args = several es s in judged at (operands_row o (all_kinds args.kinds)) args.fault
term_kind (Term-F.Over a v) at s = let f = a s in judged at (divided_row f.kind) f.fault
term_kind (Term-F.Repeat o x n e) at s = let f = e (with_value x (Some Number) s) in judged at (sound_row f.kind) f.fault
term_kind (Term-F.Nameless e) at s = let f = e s in judged at Silent f.fault
term_kind (Term-F.Warp vs e) at s = let f = e s in judged at (sound_row f.kind) f.fault
term_kind (Term-F.Rate w r e) at s = let f = e s in judged at (sound_row f.kind) f.fault

abbrev pub bound_kind : Bound-F Formed KindedBind Kinded → KindedBind
bound_kind b = record { name = b.name; value = b.value }

abbrev pub part_kind : Part-F Formed KindedBind Kinded → Kinded
part_kind p s = p.term p.at s

abbrev pub kind_of : Part → Kinded
kind_of = fold-Part Formed KindedBind Kinded term_kind bound_kind part_kind

abbrev pub kind_of_bind : Bound → KindedBind
kind_of_bind = fold-Bound Formed KindedBind Kinded term_kind bound_kind part_kind

-- ---- declarations

abbrev pub some_kinds : List Kind → List (Option Kind)
some_kinds [] = []
some_kinds (k ∷ ks) = Some k ∷ some_kinds ks

-- a declaration that sees those before it
unfoldable pub behavior : List Behavior → Declared → Behavior
behavior before d ks = kind_of d.body (record { values = zip d.params (some_kinds ks); declared = before })

-- the declarations in order, after those already known; each sees those before it
abbrev pub behaviors_after : List Behavior → List Declared → List Behavior
behaviors_after known [] = known
behaviors_after known (d ∷ ds) = behaviors_after (known ++ behavior known d ∷ []) ds

-- the declarations before the one of this number
abbrev pub seen : List Declared → ℕ → List Behavior
seen ds here = behaviors_after [] (take here ds)

abbrev pub no_declared : Declared
no_declared = record { params = []; body = record { at = 0; term = term.Number (pos 0) }; is_variable = false }

-- the declaration of this number
abbrev pub behavior_at : List Declared → ℕ → Behavior
behavior_at ds i = behavior (seen ds i) (get_or ds i no_declared)

abbrev pub scope_of : List (NameId × Option Kind) → List Declared → ℕ → Scope
scope_of values ds here = record { values = values; declared = seen ds here }
