-- How units begin. No public clause cites this module.
use Rattle.std.specs.Prelude.{◌≡◌, ℕ, ◌<◌, Bool, true, false, List, [], ◌∷◌, ◌++◌, map, length, Option, None, Some, IsSome, slice_index_or, Vec, ℤ, pos}
use Rattle.std.specs.Global.{Global}
use Rattle.std.specs.Option.{option_map, option_map_or}
use Rattle.ny_num.specs.declared.timing.Timing.{Timing}
use Rattle.ny_list.specs.Store.{CursorState}
use Rattle.ny_units.specs.Playing.{IsLeaf, Reaches}
use Rattle.ny_units.specs.Inputs.{source_of, start_of, reader_of}
use Rattle.ny_units.specs.declared.input.Input.{Input}
use Rattle.ny_units.specs.declared.input.Input.TheVariants.{List as Heard, Number as Fixed}
use Rattle.ny_units.specs.declared.input.Source.{Source}
use Rattle.ny_units.specs.declared.input.Source.TheVariants.{Reader, Number}
use Rattle.ny_heap.specs.declared.make.Make.TheVariants.{Leaf, Pair, Abs, Resample, Filter}
use Rattle.ny_mix.specs.declared.part.Part.{Part}
use Rattle.ny_heap.specs.declared.sound.Sound.{Sound}
use Rattle.ny_heap.specs.declared.task.Task.{Task}
use Rattle.ny_heap.specs.declared.task.Task.TheVariants.{Made as MadeTask, Mix as MixTask, Channel as ChannelTask}
use Rattle.ny_heap.specs.declared.task.Unused.{Unused}
use Rattle.ny_heap.specs.declared.task.Unused.TheVariants.{One, All as AllUnused}
use Rattle.ny_heap.specs.declared.work.Work.{Work}
use Rattle.ny_heap.specs.declared.work.Work.TheVariants.{Leaf as LeafWork, Pair as PairWork, Abs as AbsWork, Resample as ResampleWork, Filter as FilterWork, Mix as MixWork, Channel as ChannelWork}
use Rattle.ny_heap.specs.Heap.{Kind, Made, Mix, Channel}
use Rattle.ny_num.specs.Resampling.{other_rate_timing}
use Rattle.ny_units.specs.Resamplings.{BeginsLater}
use Rattle.ny_filters.specs.Filtering.{IsFilter}
use Rattle.ny_heap.specs.Steps.{inputs_of, first_memory}
use Rattle.ny_heap.specs.Work.{kind_of, inputs_in, source_at, begins_in, memory_in, waits_in, flat, cursors_of_sounds, HasPlaces, HasGiven}

abbrev pub kind_of_task : Task → Kind
kind_of_task (MadeTask make) = Made make
kind_of_task (MixTask waits) = Mix
kind_of_task ChannelTask = Channel

-- the sounds that each of these keeps
abbrev pub lists_of : List (Vec Sound Global) → List (List Sound)
lists_of waits = map (λ (v : Vec Sound Global). v.items) waits

-- what each part of a task that waits keeps
abbrev pub waits_of_task : Task → List (List Sound)
waits_of_task (MixTask waits) = lists_of waits.items
waits_of_task _ = []

-- the task of a mix, in which parts wait that keep these sounds, and of a channel
abbrev pub task_of_mix : Bool → Vec (Vec Sound Global) Global → Task
task_of_mix true waits = ChannelTask
task_of_mix false waits = MixTask waits

-- a task is of so many sounds; a mix may be of any number
abbrev pub IsCount : Task → ℕ → Type 0
IsCount (MadeTask make) n = n ≡ inputs_of make
IsCount (MixTask waits) n = Unit {0}
IsCount ChannelTask n = n ≡ 1

-- the leaf of a task is one, and has so many samples
abbrev pub IsTask : Task → ℕ → Type 0
IsTask (MadeTask (Leaf l)) len = IsLeaf l × Reaches l len
IsTask (MadeTask (Pair op a b)) len = Unit {0}
IsTask (MadeTask Abs) len = Unit {0}
IsTask (MadeTask Resample) len = Unit {0}
IsTask (MadeTask (Filter f)) len = IsFilter f
IsTask (MixTask waits) len = Unit {0}
IsTask ChannelTask len = Unit {0}

-- a sound as an input: as far as it is heard, or 0 where it has no sample
abbrev pub input_of_sound : Sound → Input
input_of_sound s = option_map_or (λ c. Heard (record c { visible = s.timing.len }) s.timing.start) s.reader (Fixed (pos 0))

-- the last of these sounds is taken as an input
pub record TakesLast (old new : List Sound) (input : Input) : Type 0 where
  pub sound : Sound
  pub was : old ≡ new ++ sound ∷ []
  pub is : input ≡ input_of_sound sound

-- a side of an operation: a given sample, or the last of these sounds
abbrev pub TakesSide : Option ℤ → List Sound → List Sound → Input → Type 0
TakesSide (Some value) old new input = (new ≡ old) × (input ≡ Fixed value)
TakesSide None old new input = TakesLast old new input

abbrev pub HasSide : Option ℤ → List Sound → Type 0
HasSide (Some value) sounds = Unit {0}
HasSide None sounds = 0 < length sounds

-- what a task asks of its sounds, where it is to be heard as `t` says: one that begins where its only sound does begins there, and a
-- resampling and a filter have a sound to read
abbrev pub IsReady : Task → List Sound → Timing → Type 0
IsReady (MadeTask (Leaf l)) sounds t = Unit {0}
IsReady (MadeTask (Pair op a b)) sounds t = Unit {0}
IsReady (MadeTask Abs) [] t = ⊥
IsReady (MadeTask Abs) (s ∷ ss) t = start_of (source_of (input_of_sound s)) ≡ t.start
IsReady (MadeTask Resample) [] t = ⊥
IsReady (MadeTask Resample) (s ∷ ss) t = IsSome s.reader × (t ≡ other_rate_timing t.rate s.timing)
IsReady (MadeTask (Filter f)) [] t = ⊥
IsReady (MadeTask (Filter f)) (s ∷ ss) t = IsSome s.reader × (t ≡ s.timing)
IsReady (MixTask waits) sounds t = Unit {0}
IsReady ChannelTask sounds t = Unit {0}

-- ---- what holds of each work

-- a side of an operation: the sample that is given for it, or a sound, which is 0 where it has no sample
abbrev pub IsSide : Option ℤ → Source → Type 0
IsSide (Some value) s = s ≡ Number value
IsSide None (Reader c start) = Unit {0}
IsSide None (Number value) = value ≡ pos 0

abbrev pub HasSides : Work → Type 0
HasSides (LeafWork p) = Unit {0}
HasSides (PairWork p a b) = IsSide a p.left × IsSide b p.right
HasSides (AbsWork s) = IsSide None s
HasSides (ResampleWork r) = Unit {0}
HasSides (FilterWork f start) = Unit {0}
HasSides (MixWork m) = Unit {0}
HasSides (ChannelWork p) = IsSide None p.input

-- it begins when its unit is heard, where it has inputs
abbrev pub BeginsAt : Work → Timing → Type 0
BeginsAt (LeafWork p) t = Unit {0}
BeginsAt (PairWork p a b) t = p.start ≡ t.start
BeginsAt (AbsWork s) t = begins_in (AbsWork s) ≡ t.start
BeginsAt (ResampleWork r) t = r.to ≡ t
BeginsAt (FilterWork f start) t = start ≡ t.start
BeginsAt (MixWork m) t = m.timing ≡ t
BeginsAt (ChannelWork p) t = p.start ≡ t.start

-- a resampling knows when its input is heard
abbrev pub BringsFrom : Work → List Timing → Type 0
BringsFrom (ResampleWork r) [] = ⊥
BringsFrom (ResampleWork r) (t ∷ ts) = r.from ≡ t
BringsFrom _ ts = Unit {0}

-- a resampling begins no earlier than what it reads, and a filter is heard when that is
abbrev pub Hears : Work → Timing → List Timing → Type 0
Hears (ResampleWork r) t ts = BeginsLater r.from r.to
Hears (FilterWork f start) t [] = ⊥
Hears (FilterWork f start) t (s ∷ ss) = t ≡ s
Hears _ t ts = Unit {0}

-- an input over a sound reads what that does, as far as it is heard, from where it starts. Over one without samples it reads nothing
pub record ReadsSound (a : Source) (s : Sound) : Type 0 where
  pub reads : reader_of a ≡ option_map (λ (c : CursorState). record c { visible = s.timing.len }) s.reader
  pub starts : IsSome s.reader → start_of a ≡ s.timing.start

-- so of a part of a mix. An input of another task is that of the sound
abbrev pub IsOver : Task → Source → Sound → Type 0
IsOver (MadeTask make) a s = a ≡ source_of (input_of_sound s)
IsOver (MixTask waits) a s = ReadsSound a s
IsOver ChannelTask a s = a ≡ source_of (input_of_sound s)

-- a sound as a part of a mix
abbrev pub part_of : Sound → Part
part_of s = record { start = s.timing.start; stop = s.timing.stop; cursor = option_map (λ (c : CursorState). record c { visible = s.timing.len }) s.reader }

-- the work of a task over these sounds, for a unit that is heard so, which has given nothing
pub record BeginsWork (task : Task) (sounds : List Sound) (t : Timing) (w : Work) : Type 0 where
  pub kind : kind_of w ≡ kind_of_task task
  pub memory : memory_in w ≡ first_memory (kind_of_task task) sounds
  pub given : (len : ℕ) → IsTask task len → HasGiven w len 0
  pub count : inputs_in w ≡ length sounds
  pub sides : HasSides w
  pub begins : BeginsAt w t
  pub brings : BringsFrom w (map (λ s. s.timing) sounds)
  pub hears : Hears w t (map (λ s. s.timing) sounds)
  pub waits : waits_in w ≡ waits_of_task task
  pub places : HasPlaces w 0
  pub sources : (i : ℕ) (s : Sound) → i < length sounds → s ≡ slice_index_or sounds i s → IsOver task (source_at w i) s

-- no work begins: the cursor of its only sound is given back
pub record IsGivenBack (sounds : List Sound) (c : CursorState) : Type 0 where
  pub sound : Sound
  pub only : sounds ≡ sound ∷ []
  pub reader : CursorState
  pub reads : sound.reader ≡ Some reader
  pub is : c ≡ record reader { visible = sound.timing.len }

-- no work begins: of a mix all sounds are left, and all that its waiting parts keep
abbrev pub AreLeft : List Sound → List (List Sound) → Unused → Type 0
AreLeft sounds waits (One c) = IsGivenBack sounds c × (waits ≡ [])
AreLeft sounds waits (AllUnused left kept) = (left.items ≡ sounds) × (lists_of kept.items ≡ waits)

-- the cursors of what is left
abbrev pub cursors_left : Unused → List (Option CursorState)
cursors_left (One c) = Some c ∷ []
cursors_left (AllUnused left kept) = cursors_of_sounds (left.items ++ flat (lists_of kept.items))
