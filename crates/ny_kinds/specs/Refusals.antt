-- Every place where kinds are refused: of an expression, of those that it is made of, and of the bodies that it reaches. A body is
-- reached by a call each of whose arguments is a number or a sound.
use Rattle.std.specs.Prelude.{ℕ, ◌+◌, Bool, true, false, if◌then◌else◌, List, [], ◌∷◌, ◌++◌, zip, get_or, Option, Some, None, nat_eq}
use Rattle.std.specs.List.{list_all}
use Rattle.ny_resolve.specs.declared.term.Term.TheFolds.{fold-Part, fold-Bound}
use Rattle.ny_resolve.specs.declared.term.Term.TheOpen.{Term-F, Part-F, Bound-F}
use Rattle.ny_resolve.specs.declared.term.Part.{Part}
use Rattle.ny_resolve.specs.declared.term.Bound.{Bound}
use Rattle.ny_resolve.specs.declared.term.Declared.{Declared}
use Rattle.ny_resolve.specs.declared.term.NameId.{NameId}
use Rattle.ny_kinds.specs.declared.kind.Kind.{Kind}
use Rattle.ny_kinds.specs.declared.kind.Kind.TheVariants.{Number}
use Rattle.ny_kinds.specs.declared.kind.Judgement.{Judgement}
use Rattle.ny_kinds.specs.declared.kind.Judgement.TheVariants.{Is, Refused, Silent}
use Rattle.ny_kinds.specs.Rows.{is_value}
use Rattle.ny_kinds.specs.Kinds.{least, kind_named, all_kinds, operands_row, divided_row, sound_row, returned_row, named_kind, block_row, some_kinds}
use Rattle.ny_kinds.specs.Whole.{value_row, play_row}

-- the kind of an expression, if it has one, and all places of refusals in it
pub record Taken : Type 0 where
  pub kind : Option Kind
  pub refused : List ℕ

-- a function, as what its body is for kinds of its arguments
abbrev pub Body : Type 0
Body = List Kind → Taken

-- what a place sees: the kinds of its local names, the nearest last, and the declarations before its own
pub record Sight : Type 0 where
  pub values : List (NameId × Option Kind)
  pub bodies : List Body

abbrev pub Judged : Type 0
Judged = Sight → Taken

pub record JudgedBind : Type 0 where
  pub name : NameId
  pub value : Judged

-- several expressions
pub record Together : Type 0 where
  pub kinds : List (Option Kind)
  pub refused : List ℕ

-- the binds of a block, and the names after them
pub record Block : Type 0 where
  pub values : List (NameId × Option Kind)
  pub kinds : List (Option Kind)
  pub refused : List ℕ

-- the expression at this place, in whose parts kinds are refused at these
abbrev pub taken_at : ℕ → Judgement → List ℕ → Taken
taken_at at (Is k) places = record { kind = Some k; refused = places }
taken_at at Refused places = record { kind = None; refused = places ++ at ∷ [] }
taken_at at Silent places = record { kind = None; refused = places }

-- what a call says, and the refusals in the body that it reaches
pub record Call : Type 0 where
  pub row : Judgement
  pub refused : List ℕ

abbrev pub call_of : Body → Option (List Kind) → Call
call_of f None = record { row = Silent; refused = [] }
call_of f (Some ks) =
    if list_all is_value ks then record { row = returned_row (f ks).kind; refused = (f ks).refused } else record { row = Refused; refused = [] }

abbrev pub with_kind : NameId → Option Kind → Sight → Sight
with_kind x k s = record { values = s.values ++ (x, k) ∷ []; bodies = s.bodies }

abbrev pub together : List Judged → Sight → Together
together [] s = record { kinds = []; refused = [] }
together (e ∷ es) s = let f = e s in let rest = together es s in record { kinds = f.kind ∷ rest.kinds; refused = f.refused ++ rest.refused }

-- each bind is seen by those after it
abbrev pub in_block : List JudgedBind → Sight → Block
in_block [] s = record { values = s.values; kinds = []; refused = [] }
in_block (b ∷ bs) s =
    let f = b.value s in let rest = in_block bs (with_kind b.name (named_kind f.kind) s) in
    record { values = rest.values; kinds = f.kind ∷ rest.kinds; refused = f.refused ++ rest.refused }

abbrev pub no_body : Body
no_body ks = record { kind = None; refused = [] }

-- a form has no place yet
abbrev pub Unplaced : Type 0
Unplaced = ℕ → Judged

abbrev pub term_taken : Term-F Unplaced JudgedBind Judged → Unplaced
term_taken (Term-F.Number v) at s = taken_at at (Is Number) []
term_taken (Term-F.Local x) at s = record { kind = kind_named x s.values; refused = [] }
term_taken (Term-F.Global n) at s = taken_at at (Is Number) []
term_taken (Term-F.Call n es) at s =
    let args = together es s in let body = call_of (get_or s.bodies n no_body) (all_kinds args.kinds) in
    taken_at at body.row (args.refused ++ body.refused)
term_taken (Term-F.Block bs e) at s =
    let binds = in_block bs s in let f = e (record { values = binds.values; bodies = s.bodies }) in
    taken_at at (block_row binds.kinds f.kind) (binds.refused ++ f.refused)
term_taken (Term-F.Apply o es) at s = let args = together es s in taken_at at (operands_row o (all_kinds args.kinds)) args.refused
term_taken (Term-F.Over a v) at s = let f = a s in taken_at at (divided_row f.kind) f.refused
term_taken (Term-F.Repeat o x n e) at s = let f = e (with_kind x (Some Number) s) in taken_at at (sound_row f.kind) f.refused
term_taken (Term-F.Nameless e) at s = let f = e s in taken_at at Silent f.refused
term_taken (Term-F.Warp vs e) at s = let f = e s in taken_at at (sound_row f.kind) f.refused
term_taken (Term-F.Rate w r e) at s = let f = e s in taken_at at (sound_row f.kind) f.refused

abbrev pub bound_taken : Bound-F Unplaced JudgedBind Judged → JudgedBind
bound_taken b = record { name = b.name; value = b.value }

abbrev pub part_taken : Part-F Unplaced JudgedBind Judged → Judged
part_taken p s = p.term p.at s

-- an expression, as its kind and its refusals at a place
abbrev pub taken_of : Part → Judged
taken_of = fold-Part Unplaced JudgedBind Judged term_taken bound_taken part_taken

abbrev pub taken_of_bind : Bound → JudgedBind
taken_of_bind = fold-Bound Unplaced JudgedBind Judged term_taken bound_taken part_taken

-- a declaration that sees those before it
abbrev pub body_of : List Body → Declared → Body
body_of before d ks = taken_of d.body (record { values = zip d.params (some_kinds ks); bodies = before })

-- the declarations in order, after those already known
abbrev pub bodies_after : List Body → List Declared → List Body
bodies_after known [] = known
bodies_after known (d ∷ ds) = bodies_after (known ++ body_of known d ∷ []) ds

-- a global value, which sees these declarations; a function counts where it is called
abbrev pub value_refusals : List Body → Declared → List ℕ
value_refusals before d =
    if d.is_variable then (let f = taken_of d.body (record { values = []; bodies = before }) in (taken_at d.body.at (value_row f.kind) f.refused).refused) else []

-- global values in order, after the declarations already known
abbrev pub values_refusals : List Body → List Declared → List ℕ
values_refusals known [] = []
values_refusals known (d ∷ ds) = value_refusals known d ++ values_refusals (known ++ body_of known d ∷ []) ds

abbrev pub play_refusals : List Body → Option Part → List ℕ
play_refusals bodies None = []
play_refusals bodies (Some e) =
    let f = taken_of e (record { values = []; bodies = bodies }) in (taken_at e.at (play_row f.kind) f.refused).refused

-- the least of some places, if there is one
abbrev pub least_of : List ℕ → Option ℕ
least_of [] = None
least_of (p ∷ ps) = least (Some p) (least_of ps)

-- all places where kinds are refused in a text: in its global values, in what it plays, and in the bodies that these reach
unfoldable pub refusals : List Declared → Option Part → List ℕ
refusals ds play = values_refusals [] ds ++ play_refusals (bodies_after [] ds) play
