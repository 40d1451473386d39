-- A part that is evaluated later means the same where its free names alone are kept.
use Rattle.std.proofs.Common.{◌≡◌, ℕ, ◌<◌, Bool, true, false, List, [], length, refl, sym, subst, Option, Some, None, inl, inr, pos}
use Rattle.std.specs.Prelude.{ℤ, if◌then◌else◌, int_lt}
use Rattle.std.proofs.lemmas.Bool.{cases_lt}
use Rattle.std.proofs.lemmas.List.{get_or_past}
use Rattle.ny_warp.specs.Maps.{is_rising}
use Rattle.ny_resolve.specs.declared.builtin.Order.TheVariants.{InTurn, Together}
use Rattle.ny_resolve.specs.declared.term.NameId.{NameId}
use Rattle.ny_resolve.specs.declared.term.Part.{Part}
use Rattle.ny_check.specs.declared.node.Node.{Node}
use Rattle.ny_check.specs.declared.node.Node.TheVariants as node
use Rattle.ny_check.specs.declared.node.Change.TheVariants as change
use Rattle.ny_check.specs.declared.node.ExprId.{ExprId}
use Rattle.ny_check.specs.Code.{Code, node_at, no_node, IsOrdered}
use Rattle.ny_check.specs.Writing.{writing, kept_names, is_seq, operator_node, quotient_node, warp_node, call_node, global_node, points_of}
use Rattle.ny_check.specs.FreeNames.{HasFree, IsKeptBy}
use Rattle.ny_check.specs.KeptNames.{kept_of, KeepFree, KeepsFree, RepeatsKeepFree}
use Rattle.ny_check.proofs.Picked.{kept_by}
use Rattle.ny_check.proofs.OperatorNodes.{waiting, operator_waiting}
use Rattle.ny_laws.specs.Standing.{IsAt, Stands, EachStands, IsSomePart, body_before}
use Rattle.ny_laws.specs.Standing as standing
use Rattle.ny_laws.specs.UsedNames.{HaveFree, PartsHaveFree}
use Rattle.ny_laws.proofs.Names.{finds}
use Rattle.ny_laws.proofs.OfText.{Text}

-- ---- each is kept by its free names

pub named : (code : Code) (here : ℕ) (names : List NameId) (p : Part) (id : ℕ) → Stands code here names p id → (id < length code.nodes) × (kept_of code id ≡ names)
named code here names p id (standing.number _ _ _ v is at) = (at.within, at.free)
named code here names p id (standing.local _ _ _ y is at) = (at.within, at.free)
named code here names p id (standing.global _ _ _ n is at) = (at.within, at.free)
named code here names p id (standing.call _ _ _ n es ids is each at) = (at.within, at.free)
named code here names p id (standing.block _ _ _ bs e binds v is each value at) = (at.within, at.free)
named code here names p id (standing.apply _ _ _ o es ids is each at) = (at.within, at.free)
named code here names p id (standing.over _ _ _ a v e is one at) = (at.within, at.free)
named code here names p id (standing.repeat _ _ _ o y n e i is one at) = (at.within, at.free)
named code here names p id (standing.nameless _ _ _ e is one) = named code here names e id one
named code here names p id (standing.warp _ _ _ vs e i is one at) = (at.within, at.free)
named code here names p id (standing.rate _ _ _ a r e i is one at) = (at.within, at.free)

-- of parts: they mean the same where their kept names are kept, and their free names are
abbrev AllKeep : Code → List ExprId → Type 0
AllKeep code ids = KeepFree code ids × HaveFree code ids

module _ (code : Code) (ordered : IsOrdered code) (here : ℕ) where
  -- a part whose free names are kept
  kept_part : (keeps : Bool) (e : Part) (id : ℕ) → keeps ≡ true → Stands code here (kept_names keeps (writing e).uses) e id
      → IsKeptBy code id (kept_of code id) × HasFree code id (kept_of code id)
  kept_part keeps e id is one =
      let names : List NameId = (writing e).uses [] [] in
      let stands : Stands code here names e id = subst (λ (b : Bool). Stands code here (kept_names b (writing e).uses) e id) is one in
      let all : HasFree code id names = λ x free. ((finds code ordered here x names e id stands) [] []).1 free refl in
      let at = named code here names e id stands in
      (subst (IsKeptBy code id) (sym at.1) (kept_by code ordered id names at.0 all), subst (HasFree code id) (sym at.1) all)

  kept_each : (keeps : Bool) (es : List Part) (ids : List ExprId) → keeps ≡ true → EachStands code here keeps es ids → AllKeep code ids
  kept_each keeps es ids is (standing.no_part _) = (tt, tt)
  kept_each keeps es ids is (standing.one_part _ e fs id more one rest) =
      let first = kept_part keeps e id.0 is one in
      let others = kept_each keeps fs more is rest in ((first.0, others.0), (first.1, others.1))

  -- of the node that stands there
  at_node : (id : ℕ) (n : Node) (names : List NameId) → IsAt code id n names → AllKeep code (waiting n) → AllKeep code (waiting (node_at code id))
  at_node id n names at h = subst (λ (m : Node). AllKeep code (waiting m)) (sym at.node) h

  nothing_waits : (id : ℕ) (n : Node) (names : List NameId) → IsAt code id n names → waiting n ≡ [] → AllKeep code (waiting (node_at code id))
  nothing_waits id n names at is = at_node id n names at (subst (AllKeep code) (sym is) (tt, tt))

  by_seq : (b : Bool) (ids : List ExprId) → (b ≡ true → AllKeep code ids) → AllKeep code (if b then ids else [])
  by_seq true ids h = h refl
  by_seq false ids h = (tt, tt)

  global_not : (o : Option ExprId) → waiting (global_node o) ≡ []
  global_not (Some e) = refl
  global_not None = refl

  call_not : (n : ℕ) (o : Option ExprId) (ids : List ExprId) → waiting (call_node n o ids) ≡ []
  call_not n (Some e) ids = refl
  call_not n None ids = refl

  quotient_not : (a : ExprId) (v : ℤ) → waiting (quotient_node a v) ≡ []
  quotient_not a v = by (int_lt (pos 0) v)
    where
      by : (t : Bool) → waiting (if t then node.Div a v else no_node) ≡ []
      by true = refl
      by false = refl

  warp_not : (vs : List ℤ) (e : ExprId) → waiting (warp_node vs e) ≡ []
  warp_not vs e = by (is_rising (points_of vs))
    where
      by : (t : Bool) → waiting (if t then node.Change (change.Warp (points_of vs)) e else no_node) ≡ []
      by true = refl
      by false = refl

  kept_parts : (names : List NameId) (p : Part) (id : ℕ) → Stands code here names p id → AllKeep code (waiting (node_at code id))
  kept_parts names p id (standing.number _ _ _ v is at) = nothing_waits id (node.Number v) names at refl
  kept_parts names p id (standing.local _ _ _ y is at) = nothing_waits id (node.Local y) names at refl
  kept_parts names p id (standing.global _ _ _ n is at) = nothing_waits id (global_node (body_before code here n)) names at (global_not (body_before code here n))
  kept_parts names p id (standing.call _ _ _ n es ids is each at) =
      nothing_waits id (call_node n (body_before code here n) ids) names at (call_not n (body_before code here n) ids)
  kept_parts names p id (standing.block _ _ _ bs e binds v is each value at) = nothing_waits id (node.Block binds v) names at refl
  kept_parts names p id (standing.apply _ _ _ o es ids is each at) =
      at_node id (operator_node o ids) names at
      (subst (AllKeep code) (sym (operator_waiting o ids))
      (by_seq (is_seq o) ids (λ seq. kept_each (is_seq o) es ids seq each)))
  kept_parts names p id (standing.over _ _ _ a v e is one at) = nothing_waits id (quotient_node e v) names at (quotient_not e v)
  kept_parts names p id (standing.repeat _ _ _ InTurn y n e i is one at) =
      let part = kept_part true e i.0 refl one in at_node id (node.Repeat InTurn y n i) names at ((part.0, tt), (part.1, tt))
  kept_parts names p id (standing.repeat _ _ _ Together y n e i is one at) = nothing_waits id (node.Repeat Together y n i) names at refl
  kept_parts names p id (standing.nameless _ _ _ e is one) = kept_parts names e id one
  kept_parts names p id (standing.warp _ _ _ vs e i is one at) = nothing_waits id (warp_node vs i) names at (warp_not vs i)
  kept_parts names p id (standing.rate _ _ _ a r e i is one at) = nothing_waits id (node.Change (change.Rate a r) i) names at refl

-- ---- of a whole table

waiting_kept : (code : Code) → IsOrdered code → Text code → (id : ℕ) → AllKeep code (waiting (node_at code id))
waiting_kept code ordered text id =
    elim (cases_lt id (length code.nodes)) [
      | inl lt ↦ let part : IsSomePart text.declared text.play code id = text.table.each id lt in kept_parts code ordered part.here part.names part.part id part.stands
      | inr ge ↦ subst (λ (n : Node). AllKeep code (waiting n)) (sym (get_or_past code.nodes id no_node ge)) (tt, tt)
    ]

pub keeps_free : (code : Code) → IsOrdered code → Text code → KeepsFree code
keeps_free code ordered text id ids is = (subst (λ (n : Node). AllKeep code (waiting n)) is (waiting_kept code ordered text id)).0

pub repeats_keep_free : (code : Code) → IsOrdered code → Text code → RepeatsKeepFree code
repeats_keep_free code ordered text id x n part is = (subst (λ (m : Node). AllKeep code (waiting m)) is (waiting_kept code ordered text id)).0.0

pub have_free : (code : Code) → IsOrdered code → Text code → PartsHaveFree code
have_free code ordered text = record {
  sequences = λ id ids is. (subst (λ (n : Node). AllKeep code (waiting n)) is (waiting_kept code ordered text id)).1;
  repeats = λ id x n part is. (subst (λ (m : Node). AllKeep code (waiting m)) is (waiting_kept code ordered text id)).1.0;
}
