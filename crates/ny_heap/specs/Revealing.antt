-- Parts of a mix that fall due: they are handed out, and attached once they are evaluated.
use Rattle.std.specs.Prelude.{◌≡◌, ℕ, ◌+◌, ◌-◌, ◌*◌, ◌<◌, ◌≤◌, ◌&&◌, nat_lt, if◌then◌else◌, Bool, false, List, [], ◌∷◌, ◌++◌, map, drop, length, Option, None, Some, slice_get}
use Rattle.std.specs.List.{list_any}
use Rattle.std.specs.Option.{option_map_or}
use Rattle.ny_num.specs.Grid.{index_at}
use Rattle.ny_num.specs.Sound as sounds
use Rattle.ny_heap.specs.declared.sound.Sound.{Sound}
use Rattle.ny_heap.specs.Heap.{Waiting, Node, HeapState, node_at, list_of, is_open}
use Rattle.ny_heap.specs.Means.{Whole, Parts, Means, SoundIs, at_or, captured_sound, following, stop_after}
use Rattle.ny_heap.specs.Reach.{LeadsTo}
use Rattle.ny_heap.specs.Steps.{changed, with_sound, without_sound, waiting_of, reader_of}

-- ---- which part is due

-- a unit needs its next part in its next block: the place of the stop that the part follows lies before the end of that block
abbrev pub needs_part : {B : Type 0} → ℕ → Node B → Bool
needs_part block x = nat_lt (index_at x.last_stop x.timing.rate) (x.timing.start + (x.filled + 1) * block)

-- the first part that waits at u, where it is due
abbrev pub due_of : {B : Type 0} → HeapState B → ℕ → Option (Waiting B)
due_of h u = option_map_or (λ x. if needs_part h.block x then slice_get x.waiting 0 else None) (node_at h u) None

-- a part waits at a unit that has a block left to fill
abbrev pub waits_at : {B : Type 0} → ℕ → Option (Node B) → Bool
waits_at block o = option_map_or (λ x. is_open block x && nat_lt 0 (length x.waiting)) o false

abbrev pub has_waiting : {B : Type 0} → HeapState B → Bool
has_waiting h = list_any (waits_at h.block) h.nodes

-- ---- a part is handed out

-- the unit without the first part that waits, which is still to be attached
abbrev pub with_promise : {B : Type 0} → Node B → Node B
with_promise x = record x { waiting = drop 1 x.waiting; pending = x.pending + 1 }

-- these sounds more read their lists, where they stand
abbrev pub with_sounds : {B : Type 0} → HeapState B → List Sound → HeapState B
with_sounds h [] = h
with_sounds h (s ∷ ss) = with_sounds (with_sound h s) ss

-- the first part that waited at u is its caller's, with the sounds that it kept
pub record HandsOut {B : Type 0} (old new : HeapState B) (u : ℕ) (branch : B) (ss : List Sound) : Type 0 where
  pub unit : Node B
  pub was : node_at old u ≡ Some unit
  pub rest : List (Waiting B)
  pub waits : unit.waiting ≡ waiting_of (branch, ss) ∷ rest
  pub heap : new ≡ with_sounds (changed old (Some u) with_promise) ss

-- these parts are owed to u
abbrev pub with_owed : Whole → ℕ → List sounds.Sound → Whole
with_owed w u ss = record w { owed = at_or u ss w.owed }

-- what u is promised of a part: the part as it follows those that u was given and is owed
abbrev pub promise_of : {B : Type 0} → Parts B → Whole → ℕ → Node B → Waiting B → sounds.Sound
promise_of part w u x p =
    let stop = stop_after x.last_stop (w.owed u) in
    following x.timing.rate stop (part p.branch (map (captured_sound w.samples) p.captured) stop)

-- no list changes where a part is handed out: its unit is owed what the part is
abbrev pub Promises : {B : Type 0} → HeapState B → HeapState B → ℕ → Waiting B → Type 0
Promises {B} old new u p =
    (part : Parts B) (w : Whole) (x : Node B) → node_at old u ≡ Some x → Means part old w → Means part new (with_owed w u (w.owed u ++ promise_of part w u x p ∷ []))

-- ---- a part is attached

-- what can be attached to unit x with number u, which was promised a part: a sound of its rate, no earlier than the stop that it
-- follows and no later than the unit, which the unit does not lead back to
pub record IsNextPart {B : Type 0} (h : HeapState B) (u : ℕ) (x : Node B) (s : Sound) : Type 0 where
  pub promised : 0 < x.pending
  pub rate : s.timing.rate ≡ x.timing.rate
  pub begins : index_at x.last_stop x.timing.rate ≤ s.timing.start
  pub ends : s.timing.start + s.timing.len ≤ x.timing.start + x.timing.len
  pub apart : (n : ℕ) → list_of s ≡ Some n → LeadsTo h n u → ⊥

-- the unit with an input more
abbrev pub with_part : {B : Type 0} → Sound → Node B → Node B
with_part s x = record x { inputs = x.inputs ++ reader_of s ∷ []; pending = x.pending - 1; last_stop = s.timing.stop }

-- the sound is u's, and its caller's no more
abbrev pub Attaches : {B : Type 0} → HeapState B → HeapState B → ℕ → Sound → Type 0
Attaches old new u s = new ≡ changed (without_sound old s) (Some u) (with_part s)

-- no list changes where u gets what it is owed
abbrev pub Delivers : {B : Type 0} → HeapState B → HeapState B → ℕ → Sound → Type 0
Delivers {B} old new u s =
    (part : Parts B) (w : Whole) (m : sounds.Sound) (ms : List sounds.Sound) → Means part old w → w.owed u ≡ m ∷ ms → SoundIs w s m → Means part new (with_owed w u ms)
