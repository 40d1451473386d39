-- What an engine has done by an order of pulls, channel by channel.
use Rattle.std.specs.Prelude.{◌≡◌, ℕ, List, [], ◌∷◌, ◌++◌, sum, length, None}
use Rattle.ny_plan.specs.Rows.{Plan}
use Rattle.ny_plan.specs.Plan.{plan}
use Rattle.ny_plan.specs.Need.{Filled}
use Rattle.ny_plan.specs.Fills.{Pulls, Fills, fills}
use Rattle.ny_plan.specs.Peak.{nothing_filled, peak_of, first_full}
use Rattle.ny_plan.specs.Lines.{channel_blocks, no_pulls, pulled, round, rounds, sequence}
use Rattle.ny_pull.specs.Engine.{EngineState}
use Rattle.ny_pull.specs.Planned.{filled_of}

-- how often each channel was pulled, once these were pulled, in order
abbrev pub pulls_along : List ℕ → Pulls → Pulls
pulls_along [] pulls = pulls
pulls_along (c ∷ cs) pulls = pulls_along cs (pulled c pulls)

-- how many blocks of each row are filled then, where each pull fills what the plan says
abbrev pub filled_along : ℕ → Plan → List ℕ → Filled → Filled
filled_along block p [] filled = filled
filled_along block p (c ∷ cs) filled = filled_along block p cs (Fills.filled (fills block p filled c))

-- These channels were pulled, in this order, since the engine was opened, and each pull gave samples. None of them found as many blocks live
-- as the pool has, and the peak is that of the order
pub record HasPulled (order : List ℕ) (e : EngineState) : Type 0 where
  pub pulled : e.pulled ≡ pulls_along order (no_pulls (plan e.code e.rate))
  pub count : sum e.pulled ≡ length order
  pub filled : filled_of e ≡ filled_along e.heap.block (plan e.code e.rate) order (nothing_filled (plan e.code e.rate).rows)
  pub room : first_full e.heap.block (plan e.code e.rate) e.heap.pool order ≡ None
  pub peak : e.heap.peak ≡ peak_of e.heap.block (plan e.code e.rate) order

-- ---- turns that come again and again

-- what is still to be pulled: what is left of a round, and so many rounds
abbrev pub still_to_pull : List ℕ → List ℕ → List ℕ → ℕ → Pulls → List ℕ
still_to_pull blocks turns rest n pulls = let left = round blocks rest pulls in left.0 ++ rounds n blocks turns left.1

-- The channels are pulled in these turns, which come again until all have ended, and one that has ended is passed over. So far these pulls were
-- made; what is left of a round and n rounds are still to come
pub record IsInOrder (turns rest : List ℕ) (n : ℕ) (e : EngineState) : Type 0 where
  pub done : List ℕ
  pub so : HasPulled done e
  pub whole : sequence e.heap.block (plan e.code e.rate) turns ≡ done ++ still_to_pull (channel_blocks e.heap.block (plan e.code e.rate)) turns rest n e.pulled
