-- An engine by the order of its pulls: at its opening, after a pull, and where the pool is full.
use Rattle.std.proofs.Common.{◌≡◌, ℕ, ◌<◌, true, nat_lt, if◌then◌else◌, List, [], ◌∷◌, ◌++◌, length, map, sum, None, Some, refl, sym, ap, subst, ◌∙◌, arith}
use Rattle.std.specs.Prelude.{◌==◌}
use Rattle.std.specs.List.{AllByRecursion, list_any}
use Rattle.std.proofs.lemmas.Bool.{lt-ltb}
use Rattle.std.proofs.lemmas.List.{length-append}
use Rattle.ny_check.specs.Channels.{channels}
use Rattle.ny_plan.specs.Plan.{plan}
use Rattle.ny_plan.specs.Fills.{Fills, counts, fills}
use Rattle.ny_plan.specs.Peak.{nothing_filled, live_before, first_full, peak_of}
use Rattle.ny_plan.proofs.StartLemmas.{nothing_counted}
use Rattle.ny_plan.specs.Lines.{no_pulls}
use Rattle.ny_match.specs.Counting.{higher_peak}
use Rattle.ny_eval.proofs.BlockLemmas.{mark_more}
use Rattle.ny_pull.specs.Engine.{EngineState, with_pull, SamePiece}
use Rattle.ny_pull.specs.Planned.{filled_of, FollowsPlan, FillsAsPlanned, FindsAllLive}
use Rattle.ny_pull.specs.Ordered.{pulls_along, filled_along, HasPulled}
use Rattle.ny_pull.proofs.OpenLemmas.{as_many, zeros_by, zero_sum}
use Rattle.ny_pull.proofs.OrderedLemmas.{pulls_then, filled_then, peak_then, full_then, room_then}

-- before any pull
pub none_pulled : (e : EngineState) → FollowsPlan e → e.pulled ≡ map (λ s. 0) (channels e.code e.rate) → e.heap.peak ≡ 0 → 0 < e.heap.block → HasPulled [] e
unfolding first_full peak_of
none_pulled e follows zeros low positive =
    let none : e.pulled ≡ no_pulls (plan e.code e.rate) = zeros ∙ zeros_by (channels e.code e.rate) (plan e.code e.rate).channels (omega (arith, ap length zeros, as_many {B = ℕ} (λ s. 0) (channels e.code e.rate), follows.count)) in
    record {
      pulled = none;
      count = ap sum zeros ∙ zero_sum (channels e.code e.rate);
      filled = ap (counts e.heap.block (plan e.code e.rate)) none ∙ nothing_counted e.code e.rate e.heap.block positive;
      room = refl;
      peak = low;
    }

module _ (order : List ℕ) (e : EngineState) (has : HasPulled order e) (c : ℕ) where
  -- where a fill of its next pull finds as many live as the pool has, that pull is the first of any order that begins so
  pub first_there : (rest : List ℕ) → FindsAllLive e c → first_full e.heap.block (plan e.code e.rate) e.heap.pool (order ++ c ∷ rest) ≡ Some (length order)
  first_there rest finds =
      full_then e.heap.block (plan e.code e.rate) order c e.heap.pool has.room rest
      (subst (λ f. list_any (λ n. n == e.heap.pool) (live_before e.heap.block (plan e.code e.rate).rows (Fills.order (fills e.heap.block (plan e.code e.rate) f c)) f) ≡ true) has.filled finds)

  module _ (new : EngineState) (same : SamePiece e new) where
    -- the same state with other words for what it plays
    told_of : (kept : List ℕ) (pulled : List ℕ) (peak : ℕ) → new.pulled ≡ pulled → new.heap.peak ≡ peak → pulled ≡ pulls_along kept (no_pulls (plan e.code e.rate)) → sum pulled ≡ length kept → filled_of new ≡ filled_along e.heap.block (plan e.code e.rate) kept (nothing_filled (plan e.code e.rate).rows) → first_full e.heap.block (plan e.code e.rate) e.heap.pool kept ≡ None → peak ≡ peak_of e.heap.block (plan e.code e.rate) kept → HasPulled kept new
    told_of kept pulled peak many high along count filled room most = record {
      pulled = many ∙ along ∙ sym (λ i. pulls_along kept (no_pulls (plan (same.code i) (same.rate i))));
      count = ap sum many ∙ count;
      filled = filled ∙ sym (λ i. filled_along (same.block i) (plan (same.code i) (same.rate i)) kept (nothing_filled (plan (same.code i) (same.rate i)).rows));
      room = (λ i. first_full (same.block i) (plan (same.code i) (same.rate i)) (same.pool i) kept) ∙ room;
      peak = high ∙ most ∙ sym (λ i. peak_of (same.block i) (plan (same.code i) (same.rate i)) kept);
    }

    module _ (filled : FillsAsPlanned e new c) where
      pub one_more : c < length e.pulled → new.pulled ≡ with_pull e.pulled c → HasPulled (order ++ c ∷ []) new
      one_more within more =
          told_of (order ++ c ∷ []) (with_pull e.pulled c) (higher_peak e.heap.peak (live_before e.heap.block (plan e.code e.rate).rows (Fills.order (fills e.heap.block (plan e.code e.rate) (filled_of e) c)) (filled_of e))) more filled.peak
          (ap (λ ns. with_pull ns c) has.pulled ∙ sym (pulls_then order c (no_pulls (plan e.code e.rate))))
          (omega (arith, mark_more e.pulled c within, has.count, length-append order (c ∷ [])))
          (filled.leads ∙ ap (λ f. Fills.filled (fills e.heap.block (plan e.code e.rate) f c)) has.filled ∙ sym (filled_then e.heap.block (plan e.code e.rate) order c (nothing_filled (plan e.code e.rate).rows)))
          (room_then e.heap.block (plan e.code e.rate) order c e.heap.pool has.room
          (subst (λ f. AllByRecursion (λ n. n < e.heap.pool) (live_before e.heap.block (plan e.code e.rate).rows (Fills.order (fills e.heap.block (plan e.code e.rate) f c)) f)) has.filled filled.room))
          ((λ i. higher_peak (has.peak i) (live_before e.heap.block (plan e.code e.rate).rows (Fills.order (fills e.heap.block (plan e.code e.rate) (has.filled i) c)) (has.filled i)))
          ∙ sym (peak_then e.heap.block (plan e.code e.rate) order c))

      -- so after a pull that gave n samples
      pub then_pulled : (n : ℕ) → 0 < n → c < length e.pulled → new.pulled ≡ (if nat_lt 0 n then with_pull e.pulled c else e.pulled) → HasPulled (if nat_lt 0 n then order ++ c ∷ [] else order) new
      then_pulled n some within more =
          let gave : nat_lt 0 n ≡ true = lt-ltb 0 n some in
          subst (λ b. HasPulled (if b then order ++ c ∷ [] else order) new) (sym gave) (one_more within (more ∙ ap (λ b. if b then with_pull e.pulled c else e.pulled) gave))
