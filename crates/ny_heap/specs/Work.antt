-- What units compute, from the lists that they read. No public clause cites this module.
use Rattle.std.specs.Prelude.{◌≡◌, ℕ, ◌+◌, ◌-◌, ◌≤◌, ◌∷◌, [], List, ◌++◌, length, map, take, drop, Option, None, IsSomeAnd, is_some, is_none, count_by, slice_index_or, if◌then◌else◌, ℤ, pos}
use Rattle.std.specs.Option.{option_map_or, ForSome}
use Rattle.ny_num.specs.Numbers.{sample_abs}
use Rattle.ny_num.specs.Mix.{sum_at}
use Rattle.ny_list.specs.Store.{StoreState, CursorState}
use Rattle.ny_list.specs.Reading.{Shows}
use Rattle.ny_kernels.specs.Operations.{operation}
use Rattle.ny_units.specs.Playing.{leaf_value, IsLeaf, Reaches}
use Rattle.ny_units.specs.Inputs.{reader_of, input_at, start_of, taken_of, with_reader, need_of, CanRead}
use Rattle.ny_units.specs.Pairs.{side_of, with_side}
use Rattle.ny_units.specs.Copies.{with_input}
use Rattle.ny_units.specs.Resamplings as resamplings
use Rattle.ny_units.specs.Resamplings.{next_after, CanResample}
use Rattle.ny_units.specs.Neighbours.{known_at, between}
use Rattle.ny_filters.specs.Filtering as filters
use Rattle.ny_filters.specs.Filtering.{IsFilter, outputs_after, memory_after, CanFilter}
use Rattle.ny_mix.specs.Mixes as mixes
use Rattle.ny_mix.specs.Mixes.{part_at, CanReadParts}
use Rattle.ny_units.specs.declared.input.Source.{Source}
use Rattle.ny_units.specs.declared.input.Source.TheVariants.{Reader, Number}
use Rattle.ny_heap.specs.declared.sound.Sound.{Sound}
use Rattle.ny_heap.specs.declared.make.Make.TheVariants.{Leaf, Pair, Abs, Resample, Filter}
use Rattle.ny_heap.specs.declared.work.Work.{Work}
use Rattle.ny_heap.specs.declared.work.Work.TheVariants.{Leaf as LeafWork, Pair as PairWork, Abs as AbsWork, Resample as ResampleWork, Filter as FilterWork, Mix as MixWork, Channel as ChannelWork}
use Rattle.ny_heap.specs.Heap.{Kind, Made, Mix, Channel, Memory, Nothing, Neighbours, Filtered}

abbrev pub kind_of : Work → Kind
kind_of (LeafWork p) = Made (Leaf p.leaf)
kind_of (PairWork p a b) = Made (Pair p.op a b)
kind_of (AbsWork s) = Made Abs
kind_of (ResampleWork r) = Made Resample
kind_of (FilterWork f start) = Made (Filter f.filter)
kind_of (MixWork m) = Mix
kind_of (ChannelWork p) = Channel

-- ---- inputs

-- how many sounds it is made of
abbrev pub inputs_in : Work → ℕ
inputs_in (LeafWork p) = 0
inputs_in (PairWork p a b) = count_by is_none (a ∷ b ∷ [])
inputs_in (AbsWork s) = 1
inputs_in (ResampleWork r) = 1
inputs_in (FilterWork f start) = 1
inputs_in (MixWork m) = length m.parts
inputs_in (ChannelWork p) = 1

-- the side of an operation that input i is: where a sample is given on the left, the right one
abbrev pub side_in : Option ℤ → ℕ → ℕ
side_in given i = if is_some given then i + 1 else i

abbrev pub source_at : Work → ℕ → Source
source_at (LeafWork p) i = Number (pos 0)
source_at (PairWork p a b) i = side_of p (side_in a i)
source_at (AbsWork s) i = s
source_at (ResampleWork r) i = Reader r.reader r.from.start
source_at (FilterWork f start) i = Reader f.reader start
source_at (MixWork m) i = Reader (mixes.cursor_at m.parts i) (part_at m.parts i).start
source_at (ChannelWork p) i = p.input

-- with another input in its place
abbrev pub with_source : Work → ℕ → Source → Work
with_source (LeafWork p) i s = LeafWork p
with_source (PairWork p a b) i s = PairWork (with_side p (side_in a i) s) a b
with_source (AbsWork t) i s = AbsWork s
with_source (ResampleWork r) i s = ResampleWork (record r { reader = reader_of s })
with_source (FilterWork f start) i s = FilterWork (record f { reader = reader_of s }) start
with_source (MixWork m) i s = MixWork (record m { parts = mixes.with_cursor m.parts i (reader_of s) })
with_source (ChannelWork p) i s = ChannelWork (with_input p s)

-- the cursor of input i, where it has one
abbrev pub cursor_at : Work → ℕ → Option CursorState
cursor_at w i = reader_of (source_at w i)

abbrev pub without_cursor_at : Work → ℕ → Work
without_cursor_at w i = with_source w i (taken_of (source_at w i))

abbrev pub with_cursor_at : Work → ℕ → CursorState → Work
with_cursor_at w i c = with_source w i (with_reader (source_at w i) c)

-- the index where a unit of this work begins. Leaves are counted from their start
abbrev pub begins_in : Work → ℕ
begins_in (LeafWork p) = 0
begins_in (PairWork p a b) = p.start
begins_in (AbsWork s) = start_of s
begins_in (ResampleWork r) = r.to.start
begins_in (FilterWork f start) = start
begins_in (MixWork m) = m.timing.start
begins_in (ChannelWork p) = p.start

-- how many samples of input i are taken once there are `done`: by a resampling those up to the neighbours of the last one, by all others
-- those that are heard before the next one
abbrev pub need_in : Work → ℕ → ℕ → ℕ
need_in (LeafWork p) i done = 0
need_in (PairWork p a b) i done = need_of p.start (side_of p (side_in a i)) done
need_in (AbsWork s) i done = need_of (start_of s) s done
need_in (ResampleWork r) i done = resamplings.taken_after r.from r.to done
need_in (FilterWork f start) i done = need_of start (Reader f.reader start) done
need_in (MixWork m) i done = mixes.need_of m.timing.start m.parts i done
need_in (ChannelWork p) i done = need_of p.start p.input done

-- ---- parts that wait

-- the sounds that each part that waits keeps, in order
abbrev pub waits_in : Work → List (List Sound)
waits_in (MixWork m) = map (λ v. v.items) m.waiting
waits_in _ = []

-- all lists one after another
abbrev pub flat : {A : Type 0} → List (List A) → List A
flat [] = []
flat (xs ∷ rest) = xs ++ flat rest

-- the sounds that all of them keep
abbrev pub kept_in : Work → List Sound
kept_in w = flat (waits_in w)

-- without the first part that waits
abbrev pub without_first : Work → Work
without_first (MixWork m) = MixWork (record m { waiting = drop 1 m.waiting })
without_first w = w

-- a mix has room for the parts that it has, those that wait, and so many that were handed out
abbrev pub HasPlaces : Work → ℕ → Type 0
HasPlaces (MixWork m) pending = length m.parts + length m.waiting + pending ≤ m.room
HasPlaces _ pending = pending ≡ 0

abbrev pub cursors_of_sounds : List Sound → List (Option CursorState)
cursors_of_sounds ss = map (λ (s : Sound). s.reader) ss

-- ---- samples

-- what each list keeps is what these samples have there
abbrev pub ShowsAll : StoreState → (ℕ → List ℤ) → Type 0
ShowsAll s whole = (v : ℕ) → Shows s v (whole v)

-- what an input has at index m, where the lists have these samples
abbrev pub heard_in : (ℕ → List ℤ) → Source → ℕ → ℤ
heard_in whole s m = input_at s (whole (option_map_or (λ c. c.list) (reader_of s) 0)) m

-- the samples of a cursor's list, as far as it sees it
abbrev pub seen_in : (ℕ → List ℤ) → Option CursorState → List ℤ
seen_in whole c = option_map_or (λ d. take d.visible (whole d.list)) c []

-- the value at index m of the input of a resampling, as it knows it: of what it has passed it keeps the last two samples
abbrev pub known_in : (ℕ → List ℤ) → resamplings.Resampling → ℕ → ℤ
known_in whole r m = known_at (next_after r.from r.to r.given) r.before r.after (heard_in whole (Reader r.reader r.from.start)) m

-- sample k of what the work computes, where it has given those before `from`
abbrev pub work_value : Work → (ℕ → List ℤ) → ℕ → ℕ → ℤ
work_value (LeafWork p) whole from k = leaf_value p.leaf k
work_value (PairWork p a b) whole from k = operation p.op (heard_in whole p.left (p.start + k)) (heard_in whole p.right (p.start + k))
work_value (AbsWork s) whole from k = sample_abs (heard_in whole s (start_of s + k))
work_value (ResampleWork r) whole from k = between r.from.rate r.to.rate (known_in whole r) (r.to.start + k)
work_value (FilterWork f start) whole from k = slice_index_or (outputs_after f.filter f.memory (drop from (seen_in whole f.reader))) (k - from) (pos 0)
work_value (MixWork m) whole from k = sum_at (mixes.sounds_of m.timing.rate whole m.parts) (m.timing.start + k)
work_value (ChannelWork p) whole from k = heard_in whole p.input (p.start + k)

-- what the work keeps of what it has passed
abbrev pub memory_in : Work → Memory
memory_in (ResampleWork r) = Neighbours r.from r.before r.after
memory_in (FilterWork f start) = Filtered f.memory
memory_in _ = Nothing

-- a leaf that has `len` samples has given the first n of them, and so has a resampling. Other work keeps no place
abbrev pub HasGiven : Work → ℕ → ℕ → Type 0
HasGiven (LeafWork p) len n = (p.given ≡ n) × IsLeaf p.leaf × Reaches p.leaf len
HasGiven (PairWork p a b) len n = Unit {0}
HasGiven (AbsWork s) len n = Unit {0}
HasGiven (ResampleWork r) len n = r.given ≡ n
HasGiven (FilterWork f start) len n = IsFilter f.filter
HasGiven (MixWork m) len n = Unit {0}
HasGiven (ChannelWork p) len n = Unit {0}

-- samples `from` to before `end` can be computed: what they take of each input can be read
abbrev pub CanWork : StoreState → Work → ℕ → ℕ → Type 0
CanWork s (LeafWork p) from end = Unit {0}
CanWork s (PairWork p a b) from end = CanRead s p.left (p.start + from) (p.start + end) × CanRead s p.right (p.start + from) (p.start + end)
CanWork s (AbsWork t) from end = CanRead s t (start_of t + from) (start_of t + end)
CanWork s (ResampleWork r) from end = (ForSome r.reader (λ c. CanResample s r c end)) × (r.reader ≡ None → resamplings.taken_after r.from r.to from ≡ r.from.len)
CanWork s (FilterWork f start) from end = IsSomeAnd f.reader (λ c. CanFilter s c from end)
CanWork s (MixWork m) from end = CanReadParts s m.parts (m.timing.start + from) (m.timing.start + end)
CanWork s (ChannelWork p) from end = CanRead s p.input (p.start + from) (p.start + end)

-- what the work keeps once it has computed so many samples from `from` on: a filter what it keeps after them, a resampling the two samples
-- before the next one that it takes
abbrev pub Recalls : Work → Work → (ℕ → List ℤ) → ℕ → ℕ → Type 0
Recalls (ResampleWork r) (ResampleWork q) whole from count = ((p : ℕ) → p + 2 ≡ next_after q.from q.to q.given → q.before ≡ known_in whole r p) × ((p : ℕ) → p + 1 ≡ next_after q.from q.to q.given → q.after ≡ known_in whole r p)
Recalls (FilterWork f start) (FilterWork g begin) whole from count = g.memory ≡ memory_after f.filter f.memory (take count (drop from (seen_in whole f.reader)))
Recalls _ _ whole from count = Unit {0}

-- the same work once it has given the samples before n: a leaf and a resampling have moved on, and a filter and a resampling keep other
-- samples
abbrev pub MovesOn : Work → Work → ℕ → Type 0
MovesOn (LeafWork p) new n = new ≡ LeafWork (record p { given = n })
MovesOn (PairWork p a b) new n = new ≡ PairWork p a b
MovesOn (AbsWork s) new n = new ≡ AbsWork s
MovesOn (ResampleWork r) new n = (before : ℤ) × (after : ℤ) × (new ≡ ResampleWork (record r { before = before; after = after; given = n }))
MovesOn (FilterWork f start) new n = (memory : filters.Memory) × (new ≡ FilterWork (record f { memory = memory }) start)
MovesOn (MixWork m) new n = new ≡ MixWork m
MovesOn (ChannelWork p) new n = new ≡ ChannelWork p
