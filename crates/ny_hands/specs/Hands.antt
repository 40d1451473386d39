-- What a trace leaves: which sounds the evaluator has in hand, and what they are.
use Rattle.std.specs.Prelude.{◌≡◌, ℕ, ◌+◌, ◌<◌, ◌≤◌, ◌==◌, if◌then◌else◌, List, [], ◌∷◌, ◌++◌, Option, None, Some, slice_index}
use Rattle.std.specs.Option.{option_map_or}
use Rattle.ny_num.specs.Sound as sounds
use Rattle.ny_num.specs.Sound.{IsTiming}
use Rattle.ny_check.specs.declared.value.Value.{Value}
use Rattle.ny_check.specs.declared.value.Value.TheVariants.{Number, Sound as SoundOf}
use Rattle.ny_heap.specs.declared.sound.Sound.{Sound}
use Rattle.ny_heap.specs.Heap.{Node, HeapState, node_at, list_of, place_of}
use Rattle.ny_heap.specs.Means.{Parts, Whole, Means, Extends}
use Rattle.ny_heap.specs.Reach.{HeapLaws}
use Rattle.ny_hands.specs.Counts.{SameCounts}
use Rattle.ny_hands.specs.Frames.{Names, sound_at}

-- ---- readers outside

-- how many sounds in callers' hands stand in block j of list v
abbrev pub marks_at : {B : Type 0} → HeapState B → ℕ → ℕ → ℕ
marks_at h v j = option_map_or (λ x. slice_index x.outside j) (node_at h v) 0

-- 1 where a sound at its beginning stands there
abbrev pub mark_in : Option ℕ → ℕ → ℕ → ℕ
mark_in None v j = 0
mark_in (Some n) v j = if n == v then (if j == 0 then 1 else 0) else 0

abbrev pub mark_of : Sound → ℕ → ℕ → ℕ
mark_of s v j = mark_in (list_of s) v j

abbrev pub marks_of : List Sound → ℕ → ℕ → ℕ
marks_of [] v j = 0
marks_of (s ∷ ss) v j = mark_of s v j + marks_of ss v j

-- ---- sounds in hand

-- the list that a sound shows some samples of
pub record IsShown {B : Type 0} (h : HeapState B) (s : Sound) (n : ℕ) : Type 0 where
  pub unit : Node B
  pub there : node_at h n ≡ Some unit
  pub some : 0 < s.timing.len
  pub visible : s.timing.len ≤ unit.timing.len

-- a sound at its beginning
pub record Begins {B : Type 0} (h : HeapState B) (s : Sound) : Type 0 where
  pub bounds : IsTiming s.timing
  pub place : place_of s ≡ 0
  pub empty : list_of s ≡ None → s.timing.len ≡ 0
  pub shown : (n : ℕ) → list_of s ≡ Some n → IsShown h s n

abbrev pub AllBegin : {B : Type 0} → HeapState B → List Sound → Type 0
AllBegin h [] = Unit {0}
AllBegin h (s ∷ ss) = Begins h s × AllBegin h ss

-- the same unit, but for who reads it from outside
abbrev pub IsLike : {B : Type 0} → Node B → Node B → Type 0
IsLike x y = y ≡ record x { outside = y.outside }

-- all units that were there are there, and besides the readers from outside that were there these sounds are in hand, and no others
pub record Hand {B : Type 0} (old new : HeapState B) (hand : List Sound) : Type 0 where
  pub laws : HeapLaws new
  pub counts : SameCounts old new
  pub kept : (v : ℕ) (x : Node B) → node_at old v ≡ Some x → (y : Node B) × (node_at new v ≡ Some y) × IsLike x y
  pub marks : (v j : ℕ) → marks_at new v j ≡ marks_at old v j + marks_of hand v j
  pub begin : AllBegin new hand

-- these are in hand, and others with them
pub record InHand {B : Type 0} (h : HeapState B) (ss : List Sound) : Type 0 where
  pub before : HeapState B
  pub others : List Sound
  pub laws : HeapLaws before
  pub hand : Hand before h (ss ++ others)

-- these are given up
abbrev pub GivesUp : {B : Type 0} → HeapState B → HeapState B → List Sound → Type 0
GivesUp {B} old new ss = (before : HeapState B) (others : List Sound) → HeapLaws before → Hand before old (ss ++ others) → Hand before new others

-- ---- what they are

-- a sound in hand, and what it is wherever the lists that were there hold what they should
pub record Item : Type 0 where
  pub sound : Sound
  pub is : Whole → sounds.Sound

abbrev pub item : Sound → (Whole → sounds.Sound) → Item
item s m = record { sound = s; is = m }

abbrev pub sounds_in : List Item → List Sound
sounds_in [] = []
sounds_in (i ∷ is) = i.sound ∷ sounds_in is

abbrev pub Are : Whole → Whole → List Item → Type 0
Are w later [] = Unit {0}
Are w later (i ∷ is) = (sound_at later i.sound ≡ i.is w) × Are w later is

-- what the lists hold afterwards: those that were there, what they held, and each mix that was there is owed what it was
pub record Later {B : Type 0} (part : Parts B) (old new : HeapState B) (w : Whole) : Type 0 where
  pub later : Whole
  pub means : Means part new later
  pub extends : Extends old w later
  pub owes : (v : ℕ) (x : Node B) → node_at old v ≡ Some x → later.owed v ≡ w.owed v

pub record Comes {B : Type 0} (part : Parts B) (old new : HeapState B) (items : List Item) : Type 0 where
  pub hand : Hand old new (sounds_in items)
  pub means : (w : Whole) → Means part old w → (l : Later part old new w) × Are w l.later items

-- ---- names

-- the sound that a name stands for is there, at its beginning
abbrev pub IsNamed : {B : Type 0} → HeapState B → Value Sound → Type 0
IsNamed h (Number v) = Unit {0}
IsNamed h (SoundOf s) = Begins h s

abbrev pub AreNamed : {B : Type 0} → HeapState B → Names → Type 0
AreNamed h [] = Unit {0}
AreNamed h (b ∷ bs) = IsNamed h b.1 × AreNamed h bs
