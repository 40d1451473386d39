-- The depth of an expression: how deep it is where each call is replaced by the function's body and each name by what it stands for.
use Rattle.std.specs.Prelude.{ℕ, ◌+◌, max, if◌then◌else◌, List, [], ◌∷◌, ◌++◌, get_or, Option, Some, None}
use Rattle.std.specs.Option.{unwrap_or}
use Rattle.ny_scope.specs.Scopes.{last_of}
use Rattle.ny_resolve.specs.Keys.{same_name}
use Rattle.ny_resolve.specs.declared.term.NameId.{NameId}
use Rattle.ny_resolve.specs.declared.term.Term.TheFolds.{fold-Part, fold-Bound}
use Rattle.ny_resolve.specs.declared.term.Term.TheOpen.{Term-F, Part-F, Bound-F}
use Rattle.ny_resolve.specs.declared.term.Part.{Part}
use Rattle.ny_resolve.specs.declared.term.Bound.{Bound}
use Rattle.ny_resolve.specs.declared.term.Declared.{Declared}

-- the depths that local names are given, the nearest last, and those of the declarations before the one that it stands in
pub record Scope : Type 0 where
  pub values : List (NameId × ℕ)
  pub declared : List ℕ

abbrev pub Deep : Type 0
Deep = Scope → ℕ

pub record DeepBind : Type 0 where
  pub name : NameId
  pub value : Deep

-- the depth that a name is given, and 0 where it is given none
abbrev pub value_of : NameId → List (NameId × ℕ) → ℕ
value_of x values = unwrap_or (last_of (same_name x) values) 0

abbrev pub with_value : NameId → ℕ → Scope → Scope
with_value x n s = record { values = s.values ++ (x, n) ∷ []; declared = s.declared }

abbrev pub greatest : List Deep → Scope → ℕ
greatest [] s = 0
greatest (e ∷ es) s = max (e s) (greatest es s)

-- the scope after binds, each of which gives its name its depth
abbrev pub names_after : List DeepBind → Scope → List (NameId × ℕ)
names_after [] s = s.values
names_after (b ∷ bs) s = names_after bs (with_value b.name (b.value s) s)

-- the greatest depth of binds, each seen by those after it
abbrev pub binds_depth : List DeepBind → Scope → ℕ
binds_depth [] s = 0
binds_depth (b ∷ bs) s = max (b.value s) (binds_depth bs (with_value b.name (b.value s) s))

-- parameters, counters and global variables are given 0; a literal beside an operand has depth 1
abbrev pub term_depth : Term-F Deep DeepBind Deep → Deep
term_depth (Term-F.Number v) s = 1
term_depth (Term-F.Local x) s = max 1 (value_of x s.values)
term_depth (Term-F.Global n) s = 1
term_depth (Term-F.Call n es) s = 1 + greatest es s + get_or s.declared n 0
term_depth (Term-F.Block bs e) s = 1 + max (binds_depth bs s) (e (record { values = names_after bs s; declared = s.declared }))
term_depth (Term-F.Apply o es) s = 1 + greatest es s
term_depth (Term-F.Over a v) s = 1 + max (a s) 1
term_depth (Term-F.Repeat o x n e) s = 1 + max 1 (e (with_value x 0 s))
term_depth (Term-F.Nameless e) s = 1 + e s
term_depth (Term-F.Warp vs e) s = 1 + max 1 (e s)
term_depth (Term-F.Rate w r e) s = 1 + max 1 (e s)

abbrev pub bound_depth : Bound-F Deep DeepBind Deep → DeepBind
bound_depth b = record { name = b.name; value = b.value }

abbrev pub part_depth : Part-F Deep DeepBind Deep → Deep
part_depth p = p.term

abbrev pub depth_of : Part → Deep
depth_of = fold-Part Deep DeepBind Deep term_depth bound_depth part_depth

abbrev pub depth_of_bind : Bound → DeepBind
depth_of_bind = fold-Bound Deep DeepBind Deep term_depth bound_depth part_depth

abbrev pub scope_of : List (NameId × ℕ) → List ℕ → Scope
scope_of values known = record { values = values; declared = known }

-- the depth of a declaration's body, whose parameters are given 0
abbrev pub body_depth : Declared → List ℕ → ℕ
body_depth d known = depth_of d.body (scope_of [] known)

-- the depths of declarations in order, after those already known; each sees those before it
abbrev pub depths_after : List ℕ → List Declared → List ℕ
depths_after known [] = known
depths_after known (d ∷ ds) = depths_after (known ++ body_depth d known ∷ []) ds

-- the greatest depth of the global variables among declarations from number i on, of the depths of all
abbrev pub values_depth : ℕ → List Declared → List ℕ → ℕ
values_depth i [] ns = 0
values_depth i (d ∷ ds) ns = max (if d.is_variable then get_or ns i 0 else 0) (values_depth (i + 1) ds ns)

abbrev pub play_depth : Option Part → List ℕ → ℕ
play_depth None known = 0
play_depth (Some e) known = depth_of e (scope_of [] known)

-- the depth of a text: the greatest of its global values and of what it plays
unfoldable pub text_depth : List Declared → Option Part → ℕ
text_depth ds play = let ns = depths_after [] ds in max (values_depth 0 ds ns) (play_depth play ns)
