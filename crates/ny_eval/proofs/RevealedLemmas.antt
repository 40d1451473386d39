-- A part that is due can be evaluated and attached, and so it is revealed. The parts that are due, one after another.
use Rattle.std.proofs.Common.{◌≡◌, ℕ, suc, ◌+◌, ◌<◌, ◌≤◌, Bool, true, false, cond, List, [], ◌∷◌, length, slice_get, IsSomeAnd, Option, None, Some, refl, sym, ap, subst, ◌∙◌, arith}
use Rattle.std.specs.Prelude.{Vec, vec_capacity}
use Rattle.std.specs.Global.{Global}
use Rattle.std.specs.Option.{option_map, option_map_or}
use Rattle.std.proofs.lemmas.List.{length-map}
use Rattle.ny_resolve.specs.declared.term.NameId.{NameId}
use Rattle.ny_check.specs.declared.value.Value.{Value}
use Rattle.ny_check.specs.Code.{Code, IsOrdered}
use Rattle.ny_check.specs.Heights.{height_of, IsTall as LeavesRoom}
use Rattle.ny_heap.specs.declared.sound.Sound.{Sound}
use Rattle.ny_heap.specs.Heap.{Waiting, Node, HeapState, node_at}
use Rattle.ny_heap.specs.Reach.{HeapLaws}
use Rattle.ny_heap.specs.Steps.{AreHeld, captured_of, waiting_of}
use Rattle.ny_heap.specs.Revealing.{needs_part, due_of, HandsOut, Promises, IsNextPart, Attaches, Delivers}
use Rattle.ny_hands.specs.declared.branch.Branch.{Branch}
use Rattle.ny_hands.proofs.OptionLemmas.{some_same, same_at, some_and, and_some}
use Rattle.ny_hands.proofs.MarkLemmas.{spent_like}
use Rattle.ny_trace.specs.Evaluates.{NextTurn, Evaluates}
use Rattle.ny_trace.specs.Laws.{KeepsFree}
use Rattle.ny_trace.specs.Reveals.{frame, PartTurn as HandedPart, IsReadyPart}
use Rattle.ny_trace.proofs.EvaluationLemmas.{evaluates_lawful}
use Rattle.ny_trace.proofs.RisingEvaluationLemmas.{evaluates_rising}
use Rattle.ny_trace.proofs.LeftLemmas.{sounds_like}
use Rattle.ny_trace.proofs.ReadyPartLemmas.{part_ready}
use Rattle.ny_trace.proofs.RevealHandLemmas.{promised}
use Rattle.ny_walk.specs.Parts.{AreKept}
use Rattle.ny_walk.specs.Walk.{PartTurn, RevealsParts}
use Rattle.ny_walk.specs.Below.{Revealed, waiting_at}
use Rattle.ny_walk.proofs.ToldLemmas.{evaluates_told}
use Rattle.ny_walk.proofs.FitRevealLemmas.{part_ends}
use Rattle.ny_walk.proofs.TurnLemmas.{part_reveals}
use Rattle.ny_eval.specs.Ready.{IsReady}
use Rattle.ny_eval.specs.Revealed.{IsDuePart, HasRoomFor, RevealsOne}
use Rattle.ny_eval.proofs.ProgramLemmas.{heights_enough}
use Rattle.ny_eval.proofs.TowerLemmas.{tower, tower_ranks}

-- ---- what is due

-- a part is the first that waits at u, which needs it
pub record IsDueAt (h : HeapState Branch) (u : ℕ) (p : Waiting Branch) : Type 0 where
  pub unit : Node Branch
  pub there : node_at h u ≡ Some unit
  pub needs : needs_part h.block unit ≡ true
  pub first : slice_get unit.waiting 0 ≡ Some p

due_at : (h : HeapState Branch) (u : ℕ) (p : Waiting Branch) → due_of h u ≡ Some p → IsDueAt h u p
due_at h u p due = by_node (node_at h u) refl due
  where
    by_need : (x : Node Branch) → node_at h u ≡ Some x → (b : Bool) → needs_part h.block x ≡ b → cond b (slice_get x.waiting 0) None ≡ Some p → IsDueAt h u p
    by_need x there true is e = record { unit = x; there = there; needs = is; first = e }
    by_need x there false is e = cc

    by_node : (o : Option (Node Branch)) → node_at h u ≡ o → option_map_or (λ x. cond (needs_part h.block x) (slice_get x.waiting 0) None) o None ≡ Some p → IsDueAt h u p
    by_node None is e = cc
    by_node (Some x) is e = by_need x is (needs_part h.block x) refl e

pub room_none : (o : Option (Waiting Branch)) → HasRoomFor o None → o ≡ None
room_none None h = refl
room_none (Some p) h = absurd h

pub room_part : (o : Option (Waiting Branch)) (room : Vec (NameId × Value Sound) Global) → HasRoomFor o (Some room) → (p : Waiting Branch) × (o ≡ Some p) × (room.items ≡ []) × (length p.branch.names ≤ vec_capacity room)
room_part None room h = absurd h
room_part (Some p) room h = (p, refl, h.0, h.1)

module _ (code : Code) (h : HeapState Branch) (u : ℕ) (ready : IsReady code h) where
  -- its unit has been given a part
  pub due_given : (p : Waiting Branch) → due_of h u ≡ Some p → IsSomeAnd (node_at h u) (λ x. 0 < length x.inputs)
  due_given p due =
      let at = due_at h u p due in
      and_some (node_at h u) (λ x. 0 < length x.inputs) at.unit at.there (ready.parts u at.unit at.there 0 p at.first).3

  -- ---- and is handed out

  module _ (branch : Branch) (ss : List Sound) (handed : Some (waiting_of (branch, ss)) ≡ due_of h u) where
    at : IsDueAt h u (waiting_of (branch, ss))
    at = due_at h u (waiting_of (branch, ss)) (sym handed)

    pub branch_inside : branch.expr.0 < length code.nodes
    branch_inside = (ready.parts u at.unit at.there 0 (waiting_of (branch, ss)) at.first).0

    branch_rate : branch.env.sound_rate ≡ at.unit.timing.rate
    branch_rate = (ready.parts u at.unit at.there 0 (waiting_of (branch, ss)) at.first).1

    pub branch_kept : AreKept 0 branch.names (length ss)
    branch_kept = subst (λ n. AreKept 0 branch.names n) (length-map ss captured_of) (ready.parts u at.unit at.there 0 (waiting_of (branch, ss)) at.first).2

    pub branch_room : (p : Waiting Branch) (n : ℕ) → due_of h u ≡ Some p → length p.branch.names ≤ n → length branch.names ≤ n
    branch_room p n due le =
        let same : p ≡ waiting_of (branch, ss) = same_at (due_of h u) p (waiting_of (branch, ss)) due (sym handed) in
        subst (λ (q : Waiting Branch). length q.branch.names ≤ n) same le

    -- ---- and evaluated

    module _ (one mid : HeapState Branch) (s : Sound) (stop : ℕ) (pending : IsSomeAnd (node_at h u) (λ x. x.pending ≡ 0)) (stop_is : option_map (λ (x : Node Branch). x.last_stop) (node_at h u) ≡ Some stop) (now : HeapLaws one) (hands : HandsOut h one u branch ss) (held : AreHeld one ss) (promises : Promises h one u (waiting_of (branch, ss))) (part : IsDuePart code branch stop ss one mid s) where
      is_unit : hands.unit ≡ at.unit
      is_unit = same_at (node_at h u) hands.unit at.unit hands.was at.there

      stop_unit : hands.unit.last_stop ≡ stop
      stop_unit = some_same hands.unit.last_stop stop (sym (ap (option_map (λ (x : Node Branch). x.last_stop)) hands.was) ∙ stop_is)

      none_pending : hands.unit.pending ≡ 0
      none_pending =
          let x = some_and (node_at h u) (λ x. x.pending ≡ 0) pending in
          ap (λ (y : Node Branch). y.pending) (same_at (node_at h u) hands.unit x.0 hands.was x.1) ∙ x.2

      pub part_turn : (t : HandedPart (Evaluates code (branch.expr.0 + 1)) h mid u s) × (t.branch.expr.0 < length code.nodes)
      part_turn = (
        record {
          branch = branch;
          captured = ss;
          one = one;
          two = part.mid;
          takes = record { laws = now; hands = hands; held = held; promises = promises };
          due = ap (needs_part h.block) is_unit ∙ at.needs;
          settled = none_pending;
          rate = branch_rate ∙ sym (ap (λ (x : Node Branch). x.timing.rate) is_unit);
          evaluates = subst (λ n. NextTurn (Evaluates code (branch.expr.0 + 1)) branch.env n (branch.expr, frame branch.env.sound_rate ss branch.names) one part.mid s) (sym stop_unit) part.evaluates;
          given_up = part.given_up;
        },
        branch_inside,
      )

-- ---- and attached

module _ (code : Code) (ordered : IsOrdered code) (free : KeepsFree code) (high : LeavesRoom code (height_of code)) (n : ℕ) (old mid : HeapState Branch) (u : ℕ) (s : Sound) (t : HandedPart (Evaluates code n) old mid u s) (inside : t.branch.expr.0 < length code.nodes) (laws : HeapLaws old) (ready : IsReady code old) where
  pub can_attach : IsReadyPart mid u s
  can_attach =
      part_ready code (Evaluates code n) (evaluates_lawful code ordered free n) (height_of code) (evaluates_rising code ordered free (height_of code) (heights_enough code (height_of code) high) n) old mid u s t laws inside
      (tower (height_of code) old) (tower_ranks (height_of code) old laws)
      (part_ends code (Evaluates code n) (evaluates_told code ordered n) old mid u s t inside ready.fits)

  pub next_part : IsSomeAnd (node_at mid u) (λ x. IsNextPart mid u x s)
  next_part = let r = can_attach in and_some (node_at mid u) (λ x. IsNextPart mid u x s) r.unit r.there r.next

  pub part_attached : (new : HeapState Branch) → HeapLaws new → Attaches mid new u s → Delivers mid new u s → PartTurn code old u new
  part_attached new now heap delivers = record {
    turn = record {
      sound = s;
      mid = mid;
      part = record {
        branch = t.branch;
        captured = t.captured;
        one = t.one;
        two = t.two;
        takes = t.takes;
        due = t.due;
        settled = t.settled;
        rate = t.rate;
        evaluates = record {
          part = t.evaluates.part;
          brought = t.evaluates.brought;
          mid = t.evaluates.mid;
          end = t.evaluates.end;
          evaluates = (n, t.evaluates.evaluates);
          brings = t.evaluates.brings;
          places = t.evaluates.places;
        };
        given_up = t.given_up;
      };
      attaches = record { laws = now; heap = heap; delivers = delivers };
    };
    inside = inside;
  }

-- ---- the pool and the block stay

pub handed_size : (old one : HeapState Branch) (u : ℕ) (branch : Branch) (ss : List Sound) → HandsOut old one u branch ss → (one.pool ≡ old.pool) × (one.block ≡ old.block)
handed_size old one u branch ss hands =
    let like = sounds_like (promised old u) ss in
    (ap (λ (h : HeapState Branch). h.pool) hands.heap ∙ like.counts.pool, ap (λ (h : HeapState Branch). h.block) hands.heap ∙ like.counts.block)

pub attached_size : (mid new : HeapState Branch) (u : ℕ) (s : Sound) → Attaches mid new u s → (new.pool ≡ mid.pool) × (new.block ≡ mid.block)
attached_size mid new u s heap =
    let like = spent_like mid (s ∷ []) in
    (ap (λ (h : HeapState Branch). h.pool) heap ∙ like.counts.pool, ap (λ (h : HeapState Branch). h.block) heap ∙ like.counts.block)

pub size_then : (old mid new : HeapState Branch) → (mid.pool ≡ old.pool) × (mid.block ≡ old.block) → (new.pool ≡ mid.pool) × (new.block ≡ mid.block) → (new.pool ≡ old.pool) × (new.block ≡ old.block)
size_then old mid new p q = (q.0 ∙ p.0, q.1 ∙ p.1)

-- ---- one after another

pub record RevealedSoFar (code : Code) (old h : HeapState Branch) (u : ℕ) : Type 0 where
  pub count : ℕ
  pub parts : RevealsParts (PartTurn code) count old u h
  pub laws : HeapLaws h
  pub size : (h.pool ≡ old.pool) × (h.block ≡ old.block)
  pub there : IsSomeAnd (node_at h u) (λ x. x.pending ≡ 0)
  pub ready : IsReady code h

pub revealed_none : (code : Code) (h : HeapState Branch) (u : ℕ) → HeapLaws h → IsSomeAnd (node_at h u) (λ x. x.pending ≡ 0) → IsReady code h → RevealedSoFar code h h u
revealed_none code h u laws there ready = record { count = 0; parts = refl; laws = laws; size = (refl, refl); there = there; ready = ready }

pub one_revealed : (code : Code) (old new : HeapState Branch) (u : ℕ) (more : Bool) → more ≡ true → RevealsOne code old u new more → PartTurn code old u new
one_revealed code old new u more is turn = subst (λ b. RevealsOne code old u new b) is turn

module _ (code : Code) (ordered : IsOrdered code) (free : KeepsFree code) (high : LeavesRoom code (height_of code)) (old mid new : HeapState Branch) (u : ℕ) (so : RevealedSoFar code old mid u) (turn : PartTurn code mid u new) where
  step : Revealed code (height_of code) mid new u
  step = part_reveals code ordered free (height_of code) (heights_enough code (height_of code) high) mid new u so.laws turn

  pub revealed_more : (new.pool ≡ mid.pool) × (new.block ≡ mid.block) → RevealedSoFar code old new u
  revealed_more size =
      let x = some_and (node_at mid u) (λ x. x.pending ≡ 0) so.there in
      record {
        count = suc so.count;
        parts = (mid, so.parts, turn);
        laws = step.laws;
        size = size_then old mid new so.size size;
        there = and_some (node_at new u) (λ x. x.pending ≡ 0) step.later step.after (step.pending ∙ (ap (λ (y : Node Branch). y.pending) (same_at (node_at mid u) step.unit x.0 step.was x.1) ∙ x.2));
        ready = record { parts = step.parts so.ready.parts; fits = step.fits so.ready.fits };
      }

  pub revealed_fewer : waiting_at new u < waiting_at mid u
  revealed_fewer =
      let now : waiting_at new u ≡ length step.later.waiting = ap (λ o. option_map_or (λ (x : Node Branch). length x.waiting) o 0) step.after in
      let was : waiting_at mid u ≡ length step.unit.waiting = ap (λ o. option_map_or (λ (x : Node Branch). length x.waiting) o 0) step.was in
      omega (arith, now, was, step.fewer)
