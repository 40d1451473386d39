-- A slice of a filter's outputs, run by run.
use Rattle.std.proofs.Common.{◌≡◌, ℕ, ◌+◌, ◌-◌, ◌≤◌, List, ◌++◌, length, take, drop, sym, ap, ◌∙◌, arith, ℤ}
use Rattle.std.proofs.lemmas.List.{append-nil, drop_all}
use borrow.Rule.Slice.PartMut.{put_mid}
use Rattle.ny_list.specs.Store.{StoreState}
use Rattle.ny_list.specs.Reading.{Shows}
use Rattle.ny_num.proofs.PartAdded.{part_added}
use Rattle.ny_filters.specs.declared.stage.Stage.{Stage}
use Rattle.ny_filters.specs.declared.stage.Stage.TheVariants.{Pole as PoleStage, Biquad as BiquadStage, Comb as CombStage}
use Rattle.ny_filters.specs.Filtering.{outputs_after, memory_after}
use Rattle.ny_filters.specs.Stages.{filter_of, memory_of, IsStage}
use Rattle.ny_filters.proofs.Filterings.{IsMemory, outputs_joined, memory_joined, heard_more, run_part}

pub stage_memory : (s : Stage) → IsStage s → IsMemory (filter_of s) (memory_of s)
stage_memory (PoleStage a output) is = tt
stage_memory (BiquadStage c recent) is = tt
stage_memory (CombStage gain line) is = is

-- the outputs so far and then what was there, and what is kept
pub record FilterSoFar (s : StoreState) (l from done : ℕ) (before now : Stage) (first out : List ℤ) : Type 0 where
  pub within : done ≤ length first
  pub stage : IsStage now
  pub filter : filter_of now ≡ filter_of before
  pub written : (xs : List ℤ) → Shows s l xs → out ≡ outputs_after (filter_of before) (memory_of before) (take done (drop from xs)) ++ drop done first
  pub memory : (xs : List ℤ) → Shows s l xs → memory_of now ≡ memory_after (filter_of before) (memory_of before) (take done (drop from xs))

module _ (s : StoreState) (l from : ℕ) (before : Stage) (first : List ℤ) (is : IsStage before) where
  -- one run more
  pub run_filtered : (done end : ℕ) (now next : Stage) (out run part : List ℤ) → length out ≡ length first → done ≤ end → end ≤ length first → end - done ≤ length run
      → ((xs : List ℤ) → Shows s l xs → run ≡ take (length run) (drop (from + done) xs))
      → length part ≡ end - done → filter_of next ≡ filter_of now → IsStage next
      → part ≡ outputs_after (filter_of now) (memory_of now) (take (end - done) run)
      → memory_of next ≡ memory_after (filter_of now) (memory_of now) (take (end - done) run)
      → FilterSoFar s l from done before now first out → FilterSoFar s l from end before next first (put_mid done (end - done) out part)
  run_filtered done end now next out run part long forward within enough shown some same stage given kept so_far =
      record {
        within = within;
        stage = stage;
        filter = same ∙ so_far.filter;
        written = λ xs shows.
            part_added done end first out (outputs_after (filter_of before) (memory_of before) (heard xs done)) part forward within long some (so_far.written xs shows)
            ∙ ap (λ ys. (outputs_after (filter_of before) (memory_of before) (heard xs done) ++ ys) ++ drop end first)
            (given ∙ ap (λ g. outputs_after g (memory_of now) (take n run)) so_far.filter ∙ ap (λ k. outputs_after (filter_of before) k (take n run)) (so_far.memory xs shows) ∙ ap (outputs_after (filter_of before) (memory_after (filter_of before) (memory_of before) (heard xs done))) (more xs shows))
            ∙ ap (λ ys. ys ++ drop end first) (sym (outputs_joined (filter_of before) (memory_of before) (heard xs done) (take n (drop done (drop from xs))) (stage_memory before is)) ∙ ap (outputs_after (filter_of before) (memory_of before)) (all xs));
        memory = λ xs shows.
            kept ∙ ap (λ g. memory_after g (memory_of now) (take n run)) so_far.filter ∙ ap (λ k. memory_after (filter_of before) k (take n run)) (so_far.memory xs shows) ∙ ap (memory_after (filter_of before) (memory_after (filter_of before) (memory_of before) (heard xs done))) (more xs shows)
            ∙ sym (memory_joined (filter_of before) (memory_of before) (heard xs done) (take n (drop done (drop from xs))) (stage_memory before is)) ∙ ap (memory_after (filter_of before) (memory_of before)) (all xs);
      }
    where
      n : ℕ
      n = end - done

      heard : List ℤ → ℕ → List ℤ
      heard xs k = take k (drop from xs)

      more : (xs : List ℤ) → Shows s l xs → take n run ≡ take n (drop done (drop from xs))
      more xs shows = run_part from done n xs run (shown xs shows) enough

      all : (xs : List ℤ) → heard xs done ++ take n (drop done (drop from xs)) ≡ heard xs end
      all xs = sym (heard_more done n (drop from xs)) ∙ ap (heard xs) (whole done end forward)
        where
          whole : (done end : ℕ) → done ≤ end → done + (end - done) ≡ end
          whole done end forward = omega (arith, forward)

  -- once all are written
  pub all_filtered : (done : ℕ) (now : Stage) (out : List ℤ) → length first ≤ done → FilterSoFar s l from done before now first out
      → (xs : List ℤ) → Shows s l xs → out ≡ outputs_after (filter_of before) (memory_of before) (take (length first) (drop from xs))
  all_filtered done now out end so_far xs shows =
      let last : done ≡ length first = omega (arith, so_far.within, end) in
      so_far.written xs shows ∙ ap (λ ys. outputs_after (filter_of before) (memory_of before) (take done (drop from xs)) ++ ys) (drop_all done first end) ∙ append-nil (outputs_after (filter_of before) (memory_of before) (take done (drop from xs)))
      ∙ ap (λ k. outputs_after (filter_of before) (memory_of before) (take k (drop from xs))) last

  pub all_kept : (done : ℕ) (now : Stage) (out : List ℤ) → length first ≤ done → FilterSoFar s l from done before now first out
      → (xs : List ℤ) → Shows s l xs → memory_of now ≡ memory_after (filter_of before) (memory_of before) (take (length first) (drop from xs))
  all_kept done now out end so_far xs shows =
      let last : done ≡ length first = omega (arith, so_far.within, end) in
      so_far.memory xs shows ∙ ap (λ k. memory_after (filter_of before) (memory_of before) (take k (drop from xs))) last
