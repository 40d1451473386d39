-- What a contract sees of a heap: its units with their lists, who reads them, and which parts still wait.
use Rattle.std.specs.Prelude.{ℕ, zero, suc, ◌+◌, ◌-◌, ◌*◌, ◌/◌, ◌==◌, ◌&&◌, min, if◌then◌else◌, Bool, List, [], ◌∷◌, Option, None, Some, sum_by, slice_index, slice_index_or, nat_lt, ℤ}
use Rattle.std.specs.Option.{option_map_or, option_map}
use Rattle.ny_num.specs.declared.timing.Timing.{Timing}
use Rattle.ny_units.specs.Resamplings.{next_after}
use Rattle.ny_filters.specs.Filtering as filters
use Rattle.ny_heap.specs.declared.make.Make.{Make}
use Rattle.ny_heap.specs.declared.make.Make.TheVariants.{Resample}
use Rattle.ny_heap.specs.declared.sound.Sound.{Sound}

-- ---- the state

-- a reader of a list: how many samples it has passed, and when the sound that it sees there is heard
pub record Reader : Type 0 where
  pub node : ℕ
  pub place : ℕ
  pub timing : Timing

-- a sound that a waiting part has captured, at its beginning. One of length 0 reads no list
pub record Captured : Type 0 where
  pub node : Option ℕ
  pub timing : Timing

-- a part of a mix that is evaluated later, with the sounds that it keeps for that
pub record Waiting (B : Type 0) : Type 0 where
  pub branch : B
  pub captured : List Captured

-- what a unit computes. A channel is a mix of one part
pub data Kind : Type 0 where
  Made : Make → Kind
  Mix : Kind
  Channel : Kind

-- what a unit keeps of what it has passed: a resampling when its input is heard and the last two samples that it took of it, a
-- filter what the filter keeps, and all others nothing
pub data Memory : Type 0 where
  Nothing : Memory
  Neighbours : Timing → ℤ → ℤ → Memory
  Filtered : filters.Memory → Memory

-- a unit with its list, of which so many blocks are filled. An input without a reader is exhausted, or had no
-- sample. `last_stop` is the stop of the part that it was given last, `pending` how many parts were handed out and are still to be attached. `outside` has for each
-- filled block, and for the next one, how many sounds in callers' hands stand there
pub record Node (B : Type 0) : Type 0 where
  pub kind : Kind
  pub timing : Timing
  pub filled : ℕ
  pub inputs : List (Option Reader)
  pub memory : Memory
  pub last_stop : ℕ
  pub waiting : List (Waiting B)
  pub pending : ℕ
  pub outside : List ℕ

-- `blocks` has the samples of each list's filled blocks, and None for those given back. `pool` is how many blocks
-- there are, and `block` the samples of one. `peak` is the greatest number of blocks taken at once
pub record HeapState (B : Type 0) : Type 0 where
  pub nodes : List (Option (Node B))
  pub blocks : List (List (Option (List ℤ)))
  pub pool : ℕ
  pub block : ℕ
  pub fills : ℕ
  pub peak : ℕ

-- the unit of this number
abbrev pub node_at : {B : Type 0} → HeapState B → ℕ → Option (Node B)
node_at h u = slice_index_or h.nodes u None

-- block j of list u
abbrev pub block_at : {B : Type 0} → HeapState B → ℕ → ℕ → Option (List ℤ)
block_at h u j = slice_index_or (slice_index_or h.blocks u []) j None

abbrev pub input_at : {B : Type 0} → Node B → ℕ → Option Reader
input_at x i = slice_index_or x.inputs i None

-- ---- sounds in callers' hands

-- the list that a sound reads, where it has a sample
abbrev pub list_of : Sound → Option ℕ
list_of s = option_map (λ c. c.list) s.reader

-- how many samples it has passed
abbrev pub place_of : Sound → ℕ
place_of s = option_map_or (λ c. c.place) s.reader 0

-- ---- blocks

-- how many blocks a length has
abbrev pub blocks_of : ℕ → ℕ → ℕ
blocks_of block len = (len + (block - 1)) / block

-- a unit is open while a block of its list is not filled
abbrev pub is_open : {B : Type 0} → ℕ → Node B → Bool
is_open block x = nat_lt x.filled (blocks_of block x.timing.len)

-- the unit of a list that is not wholly filled
abbrev pub open_unit : {B : Type 0} → HeapState B → Option ℕ → Option ℕ
open_unit h None = None
open_unit h (Some n) = option_map_or (λ x. if is_open h.block x then Some n else None) (node_at h n) None

-- how many samples of a list are computed
abbrev pub computed_of : {B : Type 0} → ℕ → Node B → ℕ
computed_of block x = min (x.filled * block) x.timing.len

-- the index of the next sample that a unit takes of an input, once it has `done` samples: a resampling has taken both neighbours of
-- the last one, all others have taken what is heard before the next one
abbrev pub next_taken : Kind → Timing → Timing → ℕ → ℕ
next_taken (Made Resample) t input done = next_after input t done
next_taken _ t input done = t.start + done

-- how many samples of an input a unit has taken after so many blocks
unfoldable pub taken_after : ℕ → Kind → Timing → Timing → ℕ → ℕ
taken_after block kind t input zero = 0
taken_after block kind t input (suc j) = min (next_taken kind t input (min (suc j * block) t.len) - input.start) input.len

-- ---- kept blocks

-- the block in which a reader stands: past the last one where it has passed the whole list
abbrev pub stands_in : ℕ → ℕ → ℕ → ℕ
stands_in block len place = if place == len then blocks_of block len else place / block

-- 1 for a reader in block j of list v, which has this length
abbrev pub is_reader : ℕ → ℕ → ℕ → ℕ → Option Reader → ℕ
is_reader block len v j None = 0
is_reader block len v j (Some r) = if (r.node == v) && (stands_in block len r.place == j) then 1 else 0

-- 1 for a captured sound in block j of list v: it stands at the beginning
abbrev pub is_captured : ℕ → ℕ → Captured → ℕ
is_captured v j c = option_map_or (λ n. if (n == v) && (j == 0) then 1 else 0) c.node 0

-- how many readers in block j of list v a unit has
abbrev pub own_in : {B : Type 0} → ℕ → ℕ → ℕ → ℕ → Node B → ℕ
own_in block len v j x = sum_by (is_reader block len v j) x.inputs + sum_by (λ p. sum_by (is_captured v j) p.captured) x.waiting

-- how many readers stand in block j of list v: sounds in callers' hands and the heap's own
abbrev pub readers_in : {B : Type 0} → HeapState B → ℕ → Node B → ℕ → ℕ
readers_in h v x j = slice_index x.outside j + sum_by (λ o. option_map_or (own_in h.block x.timing.len v j) o 0) h.nodes

-- the number of the first of n blocks from j on with a reader, or that after the last
abbrev pub first_read : (ℕ → ℕ) → ℕ → ℕ → ℕ
first_read readers j zero = j
first_read readers j (suc n) = if nat_lt 0 (readers j) then j else first_read readers (j + 1) n

-- the first block of a list that is kept
abbrev pub first_kept : {B : Type 0} → HeapState B → ℕ → Node B → ℕ
first_kept h v x = first_read (readers_in h v x) 0 x.filled

-- how many blocks of a list are kept: those filled, from the least reader's on
abbrev pub kept_of : {B : Type 0} → HeapState B → ℕ → Option (Node B) → ℕ
kept_of h v None = 0
kept_of h v (Some x) = x.filled - first_kept h v x

abbrev pub kept_from : {B : Type 0} → HeapState B → ℕ → List (Option (Node B)) → ℕ
kept_from h v [] = 0
kept_from h v (o ∷ os) = kept_of h v o + kept_from h (suc v) os

-- how many blocks are taken: those kept of all lists
abbrev pub live_of : {B : Type 0} → HeapState B → ℕ
live_of h = kept_from h 0 h.nodes

-- how many blocks are free
abbrev pub free_of : {B : Type 0} → HeapState B → ℕ
free_of h = h.pool - live_of h
