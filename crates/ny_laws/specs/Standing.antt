-- Which node of a table stands for which part of a text.
use Rattle.std.specs.Prelude.{◌≡◌, ◌<◌, ◌+◌, ℕ, Bool, false, nat_lt, if◌then◌else◌, List, [], ◌∷◌, length, Option, Some, None, ℤ}
use Rattle.ny_num.specs.declared.rate.Rate.{Rate}
use Rattle.ny_resolve.specs.declared.builtin.Operator.{Operator}
use Rattle.ny_resolve.specs.declared.builtin.Order.{Order}
use Rattle.ny_resolve.specs.declared.builtin.Rated.{Rated}
use Rattle.ny_resolve.specs.declared.term.NameId.{NameId}
use Rattle.ny_resolve.specs.declared.term.Term.TheVariants as term
use Rattle.ny_resolve.specs.declared.term.Part.{Part}
use Rattle.ny_resolve.specs.declared.term.Bound.{Bound}
use Rattle.ny_resolve.specs.declared.term.Declared.{Declared}
use Rattle.ny_check.specs.declared.node.Node.{Node}
use Rattle.ny_check.specs.declared.node.Node.TheVariants as node
use Rattle.ny_check.specs.declared.node.Change.TheVariants as change
use Rattle.ny_check.specs.declared.node.ExprId.{ExprId}
use Rattle.ny_check.specs.Code.{Code, node_at, function_at}
use Rattle.ny_check.specs.Writing.{writing, kept_names, is_seq, is_in_turn, global_node, call_node, operator_node, quotient_node, warp_node}
use Rattle.ny_check.specs.KeptNames.{kept_of}
use Rattle.ny_laws.specs.TextParts.{IsInText}

-- this node stands at a place of the table, and these names are kept of it
pub record IsAt (code : Code) (id : ℕ) (at : Node) (names : List NameId) : Type 0 where
  pub within : id < length code.nodes
  pub node : node_at code id ≡ at
  pub free : kept_of code id ≡ names

-- the body of a declaration, for a place in the declaration of number `here`, which sees those before it
abbrev pub body_before : Code → ℕ → ℕ → Option ExprId
body_before code here n = if nat_lt n here then Some (function_at code n).body else None

-- A node stands for a part in the declaration of number `here`, and these names are kept of it: it is the part's own node, and the
-- nodes that it names stand for the parts within. Of the parts of a sequence the free names are kept, of all others none.
mutual
  pub data Stands (code : Code) (here : ℕ) : List NameId → Part → ℕ → Type 0 where
    number : (names : List NameId) (p : Part) (id : ℕ) (v : ℤ) → p.term ≡ term.Number v → IsAt code id (node.Number v) names → Stands code here names p id
    local : (names : List NameId) (p : Part) (id : ℕ) (x : NameId) → p.term ≡ term.Local x → IsAt code id (node.Local x) names → Stands code here names p id
    global : (names : List NameId) (p : Part) (id n : ℕ) → p.term ≡ term.Global n → IsAt code id (global_node (body_before code here n)) names → Stands code here names p id
    call : (names : List NameId) (p : Part) (id n : ℕ) (es : List Part) (ids : List ExprId) → p.term ≡ term.Call n es → EachStands code here false es ids
        → IsAt code id (call_node n (body_before code here n) ids) names → Stands code here names p id
    block : (names : List NameId) (p : Part) (id : ℕ) (bs : List Bound) (e : Part) (binds : List (NameId × ExprId)) (v : ExprId) → p.term ≡ term.Block bs e
        → BindsStand code here bs binds → Stands code here [] e v.0 → IsAt code id (node.Block binds v) names → Stands code here names p id
    apply : (names : List NameId) (p : Part) (id : ℕ) (o : Operator) (es : List Part) (ids : List ExprId) → p.term ≡ term.Apply o es → EachStands code here (is_seq o) es ids
        → IsAt code id (operator_node o ids) names → Stands code here names p id
    over : (names : List NameId) (p : Part) (id : ℕ) (a : Part) (v : ℤ) (e : ExprId) → p.term ≡ term.Over a v → Stands code here [] a e.0
        → IsAt code id (quotient_node e v) names → Stands code here names p id
    repeat : (names : List NameId) (p : Part) (id : ℕ) (o : Order) (x : NameId) (n : ℕ) (e : Part) (i : ExprId) → p.term ≡ term.Repeat o x n e
        → Stands code here (kept_names (is_in_turn o) (writing e).uses) e i.0 → IsAt code id (node.Repeat o x n i) names → Stands code here names p id
    nameless : (names : List NameId) (p : Part) (id : ℕ) (e : Part) → p.term ≡ term.Nameless e → Stands code here names e id → Stands code here names p id
    warp : (names : List NameId) (p : Part) (id : ℕ) (vs : List ℤ) (e : Part) (i : ExprId) → p.term ≡ term.Warp vs e → Stands code here [] e i.0
        → IsAt code id (warp_node vs i) names → Stands code here names p id
    rate : (names : List NameId) (p : Part) (id : ℕ) (a : Rated) (r : Rate) (e : Part) (i : ExprId) → p.term ≡ term.Rate a r e → Stands code here [] e i.0
        → IsAt code id (node.Change (change.Rate a r) i) names → Stands code here names p id

  -- parts in order, of which free names are kept or not
  pub data EachStands (code : Code) (here : ℕ) : Bool → List Part → List ExprId → Type 0 where
    no_part : (keeps : Bool) → EachStands code here keeps [] []
    one_part : (keeps : Bool) (e : Part) (es : List Part) (id : ExprId) (ids : List ExprId) → Stands code here (kept_names keeps (writing e).uses) e id.0
        → EachStands code here keeps es ids → EachStands code here keeps (e ∷ es) (id ∷ ids)

  pub data BindsStand (code : Code) (here : ℕ) : List Bound → List (NameId × ExprId) → Type 0 where
    no_bind : BindsStand code here [] []
    one_bind : (b : Bound) (bs : List Bound) (id : ExprId) (binds : List (NameId × ExprId)) → Stands code here [] b.value id.0 → BindsStand code here bs binds
        → BindsStand code here (b ∷ bs) ((b.name, id) ∷ binds)

-- all free names of a part are kept, or none
abbrev pub AreKept : List NameId → Part → Type 0
AreKept names p = (keeps : Bool) × (names ≡ kept_names keeps (writing p).uses)

-- a node stands for a part of the text, of which its free names are kept, or none
pub record IsSomePart (ds : List Declared) (play : Part) (code : Code) (id : ℕ) : Type 0 where
  pub here : ℕ
  pub seen : List NameId
  pub names : List NameId
  pub part : Part
  pub is_in : IsInText ds play here seen part
  pub kept : AreKept names part
  pub stands : Stands code here names part id

-- the declarations from number `here` on: the parameters, and the body
abbrev pub BodiesStand : Code → ℕ → List Declared → Type 0
BodiesStand code here [] = Unit {0}
BodiesStand code here (d ∷ ds) =
    ((function_at code here).params ≡ d.params) × Stands code here [] d.body (function_at code here).body.0 × BodiesStand code (here + 1) ds

-- A table is that of a text: each declaration stands there, and what is played, after all declarations; and each node stands for a part
-- of the text.
pub record IsTableOf (ds : List Declared) (part : Part) (code : Code) : Type 0 where
  pub bodies : BodiesStand code 0 ds
  pub count : length code.functions ≡ length ds
  pub play : Stands code (length ds) [] part code.play.0
  pub each : (id : ℕ) → id < length code.nodes → IsSomePart ds part code id
