-- What holds of an engine between two calls.
use Rattle.std.specs.Prelude.{◌≡◌, ◌≢◌, ℕ, ◌*◌, ◌<◌, ◌≤◌, List, Option, None, Some, length, map, sum, slice_get, slice_index, slice_index_or, ℤ}
use Rattle.ny_num.specs.declared.rate.Rate.{Rate}
use Rattle.ny_num.specs.Sound as sounds
use Rattle.ny_num.specs.Sound.{silence}
use Rattle.ny_check.specs.Code.{Code}
use Rattle.ny_check.specs.Channels.{channels, longest}
use Rattle.ny_heap.specs.Heap.{HeapState, live_of}
use Rattle.ny_heap.specs.Reach.{HeapLaws}
use Rattle.ny_heap.specs.declared.sound.Sound.{Sound}
use Rattle.ny_hands.specs.declared.branch.Branch.{Branch}
use Rattle.ny_eval.specs.Playing.{ArePlaying}
use Rattle.ny_pull.specs.declared.fault.PullFault.{PullFault}
use Rattle.ny_pull.specs.declared.fault.PullFault.TheVariants.{PoolFull, OutOfMemory}
use Rattle.ny_pull.specs.Seated.{AreSeated}

-- so many of so many samples were given: all, or fewer
abbrev pub HasGiven : Option Sound → ℕ → ℕ → Type 0
HasGiven None len given = len ≤ given
HasGiven (Some s) len given = given < len

-- the samples of each channel
abbrev pub samples_of : Code → Rate → List (List ℤ)
samples_of code rate = map (λ (s : sounds.Sound). s.samples) (channels code rate)

pub record IsEngineInside (code : Code) (rate : Rate) (h : HeapState Branch) (sounds : List (Option Sound)) (pulled : List ℕ) (frames pulls : ℕ) (spent : Option PullFault) : Type 0 where
  pub count : length sounds ≡ length (channels code rate)
  pub count_pulled : length pulled ≡ length (channels code rate)
  pub some : 1 ≤ length sounds
  pub few : length sounds ≤ 8
  pub len : frames ≡ longest (channels code rate)
  pub total : pulls ≡ sum pulled
  -- no channel is pulled more often than an hour has samples
  pub bounded : (c : ℕ) → slice_index pulled c ≤ 172800000
  pub laws : HeapLaws h
  pub given : (c : ℕ) (o : Option Sound) → slice_get sounds c ≡ Some o → HasGiven o (length (slice_index_or (channels code rate) c (silence rate)).samples) (slice_index pulled c * h.block)
  -- but where memory was missing
  pub still : spent ≢ Some OutOfMemory → ArePlaying code h sounds (samples_of code rate) pulled pulled
  -- while it is not spent its units are the rows of the plan
  pub seated : spent ≡ None → AreSeated code rate h sounds pulled
  -- where it is spent for want of a block, all blocks are taken
  pub full : (fault : PullFault) → spent ≡ Some fault → fault ≢ OutOfMemory → (fault ≡ PoolFull pulls h.pool) × (live_of h ≡ h.pool)
