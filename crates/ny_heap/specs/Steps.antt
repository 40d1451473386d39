-- What the calls of a heap do.
use Rattle.std.specs.Prelude.{◌≡◌, ◌≢◌, ◌⊎◌, ℕ, ◌+◌, ◌-◌, ◌*◌, ◌/◌, ◌<◌, ◌≤◌, ◌^◌, min, max, Bool, true, false, nat_lt, if◌then◌else◌, List, [], ◌∷◌, ◌++◌, map, All, Option, None, Some, is_none, count_by, slice_index, slice_set, length, pos}
use Rattle.std.specs.Option.{option_map, option_map_or}
use Rattle.ny_num.specs.Sound as sounds
use Rattle.ny_num.specs.Sound.{IsTiming, sum_timing}
use Rattle.ny_num.specs.Grid.{index_at}
use Rattle.ny_num.specs.Pointwise.{product_timing}
use Rattle.ny_num.specs.Resampling.{other_rate_timing}
use Rattle.ny_kernels.specs.declared.operation.Op.{Op}
use Rattle.ny_kernels.specs.declared.operation.Op.TheVariants.{Add, Sub, Mul, Max, Min}
use Rattle.ny_num.specs.declared.timing.Timing.{Timing}
use Rattle.ny_num.specs.declared.rate.Rate.{Rate}
use Rattle.ny_units.specs.Playing.{IsLeaf, Reaches}
use Rattle.ny_filters.specs.Filtering.{IsFilter, silent}
use Rattle.ny_heap.specs.declared.make.Make.{Make}
use Rattle.ny_heap.specs.declared.make.Make.TheVariants.{Leaf, Pair, Abs, Resample, Filter}
use Rattle.ny_heap.specs.declared.sound.Sound.{Sound}
use Rattle.ny_heap.specs.Heap.{Reader, Captured, Waiting, Kind, Made, Mix, Channel, Memory, Nothing, Neighbours, Filtered, Node, HeapState, node_at, list_of, place_of, blocks_of, stands_in, computed_of, taken_after, live_of}
use Rattle.ny_heap.specs.Means.{Whole, Parts, Means, with_samples, whole_list, input_sound, parts_from}
use Rattle.ny_heap.specs.Reach.{SameSize, IsTrimmed}

-- ---- sounds in callers' hands

-- a sound that shows some samples of a list, with one reader outside at its place
pub record IsCounted {B : Type 0} (h : HeapState B) (s : Sound) (n : ℕ) : Type 0 where
  pub unit : Node B
  pub there : node_at h n ≡ Some unit
  pub some : 0 < s.timing.len
  pub visible : s.timing.len ≤ unit.timing.len
  pub place : place_of s ≤ min s.timing.len (computed_of h.block unit)
  pub stands : 0 < slice_index unit.outside (stands_in h.block unit.timing.len (place_of s))

-- a sound of length 0 reads no list
abbrev pub IsHeldAt : {B : Type 0} → HeapState B → Sound → Option ℕ → Type 0
IsHeldAt h s None = s.timing.len ≡ 0
IsHeldAt h s (Some n) = IsCounted h s n

-- a sound in a caller's hands
abbrev pub IsHeldSound : {B : Type 0} → HeapState B → Sound → Type 0
IsHeldSound h s = IsTiming s.timing × IsHeldAt h s (list_of s)

-- unit n once this was done to it
abbrev pub changed : {B : Type 0} → HeapState B → Option ℕ → (Node B → Node B) → HeapState B
changed h None f = h
changed h (Some n) f = record h { nodes = slice_set h.nodes n (option_map f (node_at h n)) }

-- one sound more, or one fewer, stands in block j
abbrev pub with_mark : {B : Type 0} → ℕ → Node B → Node B
with_mark j x = record x { outside = slice_set x.outside j (slice_index x.outside j + 1) }

abbrev pub without_mark : {B : Type 0} → ℕ → Node B → Node B
without_mark j x = record x { outside = slice_set x.outside j (slice_index x.outside j - 1) }

-- one sound more, or one fewer, reads the list of s where s stands
abbrev pub with_sound : {B : Type 0} → HeapState B → Sound → HeapState B
with_sound h s = changed h (list_of s) (λ x. with_mark (stands_in h.block x.timing.len (place_of s)) x)

abbrev pub without_sound : {B : Type 0} → HeapState B → Sound → HeapState B
without_sound h s = changed h (list_of s) (λ x. without_mark (stands_in h.block x.timing.len (place_of s)) x)

abbrev pub without_sounds : {B : Type 0} → HeapState B → List Sound → HeapState B
without_sounds h [] = h
without_sounds h (s ∷ ss) = without_sound (without_sounds h ss) s

-- these sounds are counted together, each at its beginning
abbrev pub AreHeld : {B : Type 0} → HeapState B → List Sound → Type 0
AreHeld h [] = Unit {0}
AreHeld h (s ∷ ss) = (place_of s ≡ 0) × IsHeldSound (without_sounds h ss) s × AreHeld h ss

-- ---- making

abbrev pub reader_of : Sound → Option Reader
reader_of s = option_map (λ n. record { node = n; place = place_of s; timing = s.timing }) (list_of s)

abbrev pub captured_of : Sound → Captured
captured_of s = record { node = list_of s; timing = s.timing }

abbrev pub waiting_of : {B : Type 0} → B × List Sound → Waiting B
waiting_of p = record { branch = p.0; captured = map captured_of p.1 }

-- the sounds that the waiting parts keep
abbrev pub sounds_of : {B : Type 0} → List (B × List Sound) → List Sound
sounds_of [] = []
sounds_of (p ∷ ps) = p.1 ++ sounds_of ps

-- the stop of the last of these
abbrev pub last_stop_of : ℕ → List Sound → ℕ
last_stop_of stop [] = stop
last_stop_of stop (s ∷ ss) = last_stop_of s.timing.stop ss

abbrev pub kind_of_mix : Bool → Kind
kind_of_mix true = Channel
kind_of_mix false = Mix

-- how many inputs a made unit has
abbrev pub inputs_of : Make → ℕ
inputs_of (Leaf l) = 0
inputs_of (Pair op a b) = count_by is_none (a ∷ b ∷ [])
inputs_of Abs = 1
inputs_of Resample = 1
inputs_of (Filter f) = 1

-- when an operation on two sounds is heard: a product where both are, all others where one of them is
abbrev pub both_timing : Op → Timing → Timing → Timing
both_timing Add x y = sum_timing x y
both_timing Sub x y = sum_timing x y
both_timing Mul x y = product_timing x y
both_timing Max x y = sum_timing x y
both_timing Min x y = sum_timing x y

-- when a made unit is heard, where its inputs are heard so. A leaf that has a sample is one, and has all of them
abbrev pub IsHeardAs : Make → List Timing → Timing → Type 0
IsHeardAs (Leaf l) ts t = 0 < t.len → IsLeaf l × Reaches l t.len
IsHeardAs (Pair op a b) [] t = ⊥
IsHeardAs (Pair op a b) (x ∷ []) t = t ≡ x
IsHeardAs (Pair op a b) (x ∷ y ∷ ts) t = t ≡ both_timing op x y
IsHeardAs Abs [] t = ⊥
IsHeardAs Abs (x ∷ ts) t = t ≡ x
IsHeardAs Resample [] t = ⊥
IsHeardAs Resample (x ∷ ts) t = t ≡ other_rate_timing t.rate x
IsHeardAs (Filter f) [] t = ⊥
IsHeardAs (Filter f) (x ∷ ts) t = (t ≡ x) × IsFilter f

-- the sounds that a unit is made of have its rate, but for those that are brought to it
abbrev pub HaveItsRate : Make → List Sound → Timing → Type 0
HaveItsRate Resample inputs t = Unit {0}
HaveItsRate _ inputs t = All (λ s. s.timing.rate ≡ t.rate) inputs

-- what a unit can be made of: a sound for each input, and it is heard when they are
pub record IsMadeOf (make : Make) (inputs : List Sound) (t : Timing) : Type 0 where
  pub count : length inputs ≡ inputs_of make
  pub bounds : IsTiming t
  pub rates : HaveItsRate make inputs t
  pub heard : IsHeardAs make (map (λ s. s.timing) inputs) t

-- what a mix can be made of: parts of its rate, each no earlier and no later than it.
pub record IsMixOf (parts : List Sound) (t : Timing) : Type 0 where
  pub some : 0 < length parts
  pub bounds : IsTiming t
  pub rates : All (λ s. s.timing.rate ≡ t.rate) parts
  pub begins : All (λ s. t.start ≤ s.timing.start) parts
  pub ends : All (λ s. s.timing.start + s.timing.len ≤ t.start + t.len) parts

-- what a made unit keeps before it has passed anything: zeros
abbrev pub made_memory : Make → List Sound → Memory
made_memory Resample (s ∷ ss) = Neighbours s.timing (pos 0) (pos 0)
made_memory (Filter f) inputs = Filtered (silent f)
made_memory _ inputs = Nothing

abbrev pub first_memory : Kind → List Sound → Memory
first_memory (Made make) inputs = made_memory make inputs
first_memory _ inputs = Nothing

-- a unit that has filled nothing, in one caller's hands
abbrev pub new_node : {B : Type 0} → Kind → Timing → List Sound → List (Waiting B) → Node B
new_node kind t inputs waiting =
    record { kind = kind; timing = t; filled = 0; inputs = map reader_of inputs; memory = first_memory kind inputs; last_stop = last_stop_of 0 inputs; waiting = waiting; pending = 0; outside = 1 ∷ [] }

-- one unit more
pub record AddsNode {B : Type 0} (old new : HeapState B) (n : ℕ) (x : Node B) : Type 0 where
  pub size : SameSize old new
  pub fills : new.fills ≡ old.fills
  pub peak : new.peak ≡ old.peak
  pub fresh : node_at old n ≡ None
  pub after : node_at new n ≡ Some x
  pub others : (v : ℕ) → v ≢ n → node_at new v ≡ node_at old v

-- the sound as its caller gets it, at its beginning: of list n, or of none where it has no sample
pub record IsNewSound (s : Sound) (t : Timing) (n : ℕ) : Type 0 where
  pub timing : s.timing ≡ t
  pub list : list_of s ≡ (if nat_lt 0 t.len then Some n else None)
  pub begins : place_of s ≡ 0

-- a unit of this kind over these sounds, which are spent. Where it has no sample there is none, and the sounds are
-- given up
pub record Makes {B : Type 0} (old new : HeapState B) (kind : Kind) (t : Timing) (inputs : List Sound) (waiting : List (Waiting B)) (spent : List Sound) (s : Sound) : Type 0 where
  pub node : ℕ
  pub result : IsNewSound s t node
  pub none : t.len ≡ 0 → IsTrimmed (without_sounds old spent) new
  pub unit : 0 < t.len → AddsNode (without_sounds old spent) new node (new_node kind t inputs waiting)

-- what the new unit hears
abbrev pub made_inputs : {B : Type 0} → Parts B → Whole → Rate → List Sound → List (Waiting B) → List (Option sounds.Sound)
made_inputs part w r inputs waiting =
    map (λ s. input_sound w.samples (reader_of s)) inputs ++ map Some (parts_from part w.samples r (last_stop_of 0 inputs) waiting)

-- what the new list holds, where the old ones hold what they should
abbrev pub MakesMeaning : {B : Type 0} → HeapState B → HeapState B → Kind → Timing → List Sound → List (Waiting B) → Sound → Type 0
MakesMeaning {B} old new kind t inputs waiting s =
    (part : Parts B) (w : Whole) → Means part old w → Means part new (option_map_or (λ n. with_samples w n (whole_list kind t (first_memory kind inputs) (made_inputs part w t.rate inputs waiting))) (list_of s) w)

-- ---- filling

-- a reader at the need after so many blocks, or none where it has passed all that it sees
abbrev pub moved : {B : Type 0} → ℕ → Node B → ℕ → Option Reader → Option Reader
moved block x done None = None
moved block x done (Some r) =
    if nat_lt (taken_after block x.kind x.timing r.timing done) r.timing.len
    then Some (record r { place = taken_after block x.kind x.timing r.timing done })
    else None

-- the unit with one block more. Once its last block is filled it reads nothing and waits for nothing
abbrev pub filled_node : {B : Type 0} → ℕ → Memory → Node B → Node B
filled_node block memory x = record x {
  filled = x.filled + 1;
  inputs = map (if nat_lt (x.filled + 1) (blocks_of block x.timing.len) then moved block x (x.filled + 1) else (λ r. None)) x.inputs;
  memory = memory;
  waiting = if nat_lt (x.filled + 1) (blocks_of block x.timing.len) then x.waiting else [];
  outside = x.outside ++ 0 ∷ [];
}

-- one block more of u, before what nobody reads any more is removed
pub record FillsUnit {B : Type 0} (old new : HeapState B) (u : ℕ) : Type 0 where
  pub size : SameSize old new
  pub fills : new.fills ≡ min (old.fills + 1) (2 ^ 64 - 1)
  pub peak : new.peak ≡ max old.peak (live_of old + 1)
  pub unit : Node B
  pub memory : Memory
  pub was : node_at old u ≡ Some unit
  pub after : node_at new u ≡ Some (filled_node old.block memory unit)
  pub others : (v : ℕ) → v ≢ u → node_at new v ≡ node_at old v

-- one block more of u
pub record Fills {B : Type 0} (old new : HeapState B) (u : ℕ) : Type 0 where
  pub between : HeapState B
  pub filled : FillsUnit old between u
  pub trimmed : IsTrimmed between new

-- no part of the unit is still to be attached, and none is due: the first that waits follows a stop whose place does not
-- lie in the next block
abbrev pub IsSettledUnit : {B : Type 0} → ℕ → Node B → Type 0
IsSettledUnit block x = (x.pending ≡ 0) × ((x.waiting ≡ []) ⊎ (x.timing.start + (x.filled + 1) * block ≤ index_at x.last_stop x.timing.rate))

-- ---- what a unit wants

-- whether a reader's list is computed less far than the unit's next block needs
abbrev pub lacks : {B : Type 0} → HeapState B → Node B → Option Reader → Bool
lacks h x None = false
lacks h x (Some r) =
    nat_lt (option_map_or (computed_of h.block) (node_at h r.node) 0) (taken_after h.block x.kind x.timing r.timing (x.filled + 1))

-- the first of these that lacks
abbrev pub wants : {B : Type 0} → HeapState B → Node B → List (Option Reader) → Option ℕ
wants h x [] = None
wants h x (o ∷ os) = if lacks h x o then option_map (λ r. r.node) o else wants h x os

-- the first input of u that is not computed far enough for its next block
abbrev pub want_of : {B : Type 0} → HeapState B → ℕ → Option ℕ
want_of h u = option_map_or (λ x. wants h x x.inputs) (node_at h u) None

-- ---- reading

-- how many samples a reader at this place gets: no more than `most`, to the end of its block, of what is computed, and
-- of what it sees
abbrev pub run_of : ℕ → ℕ → ℕ → ℕ → ℕ → ℕ
run_of block computed len place most = min most (min ((place / block + 1) * block) (min computed len) - place)

-- how many samples of a list are computed
abbrev pub computed_in : {B : Type 0} → HeapState B → Option ℕ → ℕ
computed_in h n = option_map_or (λ v. option_map_or (computed_of h.block) (node_at h v) 0) n 0

-- the sound once it has passed so many samples more
pub record Passes (old new : Sound) (n : ℕ) : Type 0 where
  pub timing : new.timing ≡ old.timing
  pub list : list_of new ≡ list_of old
  pub place : place_of new ≡ place_of old + n

-- the heap once the sound has passed some samples of its list
abbrev pub advanced : {B : Type 0} → HeapState B → Sound → Sound → HeapState B
advanced h old new = with_sound (without_sound h old) new
