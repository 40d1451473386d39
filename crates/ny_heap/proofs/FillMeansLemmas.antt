-- What the lists of a heap mean stays as it is where a block is filled.
use Rattle.std.proofs.Common.{◌≡◌, ◌≢◌, ◌⊎◌, inl, inr, ℕ, ◌+◌, ◌-◌, ◌*◌, ◌<◌, ◌≤◌, min, cond, List, [], ◌∷◌, ◌++◌, length, map, take, drop, get_or, Option, None, Some, refl, sym, ap, subst, ◌∙◌, arith, ℤ, pos, length-append}
use Rattle.std.specs.List.{range_with_len}
use Rattle.std.specs.Option.{option_map}
use Rattle.std.proofs.lemmas.Bool.{cases_eq, cases_lt, lt-ltb}
use Rattle.std.proofs.lemmas.Nat.{le-div}
use Rattle.std.proofs.lemmas.List.{get_or-take, get_or-drop, length-take, length-drop, ext_get_or, get_or_append_left, get_or_push, get_or_past}
use Rattle.std.proofs.lemmas.Simd.{map-map}
use Rattle.ny_num.specs.Sound as sounds
use Rattle.ny_num.specs.declared.timing.Timing.{Timing}
use Rattle.ny_list.specs.Store.{ListState, CursorState, list_at, least}
use Rattle.ny_list.proofs.IndexLemmas.{same_some, none_some}
use Rattle.ny_units.specs.Inputs.{start_of}
use Rattle.ny_filters.specs.Filtering.{Filtering}
use Rattle.ny_heap.specs.declared.table.Unit.{Unit as UnitData}
use Rattle.ny_heap.specs.declared.table.Table.{Table}
use Rattle.ny_heap.specs.declared.work.Work.{Work}
use Rattle.ny_heap.specs.declared.work.Work.TheVariants.{Leaf as LeafWork, Pair as PairWork, Abs as AbsWork, Resample as ResampleWork, Filter as FilterWork, Mix as MixWork, Channel as ChannelWork}
use Rattle.ny_heap.specs.declared.make.Make.{Make}
use Rattle.ny_heap.specs.declared.sound.Sound.{Sound}
use Rattle.ny_heap.specs.Heap.{Made, Mix, Channel, Reader, HeapState, block_at, blocks_of, next_taken, taken_after}
use Rattle.ny_heap.specs.Means.{Parts, Whole, Means, NodeMeans, KeepsMeaning, input_sound, heard, sum_heard, parts_from, stop_after, unit_value, all_inputs, nth_block}
use Rattle.ny_heap.specs.Steps.{IsSettledUnit}
use Rattle.ny_heap.specs.Tasks.{Hears}
use Rattle.ny_heap.specs.Work.{kind_of, inputs_in, cursor_at, memory_in, waits_in, HasGiven, MovesOn, ShowsAll, work_value}
use Rattle.ny_heap.specs.Table.{unit_at, input_of, readers_of, timing_at, computed_in, computed_next_in, IsUnit}
use Rattle.ny_heap.specs.View.{node_of, state_of, waiting_with, filled_in, last_stop_in}
use Rattle.ny_heap.specs.Filling.{CanFill, Computes, Appends, Settles, FillsBlock, moved_in}
use Rattle.ny_heap.proofs.ListLemmas.{blank_kept}
use Rattle.ny_heap.proofs.CountLemmas.{some_is, is_some_of}
use Rattle.ny_heap.proofs.NeedLemmas.{taken_at}
use Rattle.ny_heap.proofs.ViewLemmas.{node_of_unit, unit_of_node, block_at-state, filled_is}
use Rattle.ny_heap.proofs.MovesLemmas.{same_source, sides_on, begins_on, brings_on, hears_on, given_on}
use Rattle.ny_heap.proofs.PartLemmas.{AddNothing}
use Rattle.ny_heap.proofs.WaitingMeans.{settled_quiet}
use Rattle.ny_heap.proofs.ValueLemmas.{value_on, value_is, AreHeardSo}
use Rattle.ny_heap.proofs.MeansLemmas.{moved_heard, moved_sound, SameInputs, value_by}
use Rattle.ny_heap.proofs.CanLemmas as can
use Rattle.ny_heap.proofs.AppendLemmas as more
use Rattle.ny_heap.proofs.FillLemmas.{unit_now, block_same, filled_new, other_was, other_filled, input_now, same_memory, work_kind, input_count}

-- a unit is a mix or it is not
made_differs : (make : Make) → Made make ≡ Mix → ⊥
made_differs make e = cc

channel_differs : Channel ≡ Mix → ⊥
channel_differs e = cc

mix_or_not : (w : Work) → (kind_of w ≡ Mix) ⊎ (kind_of w ≢ Mix)
mix_or_not (LeafWork p) = inr (made_differs _)
mix_or_not (PairWork p a b) = inr (made_differs _)
mix_or_not (AbsWork s) = inr (made_differs _)
mix_or_not (ResampleWork r) = inr (made_differs _)
mix_or_not (FilterWork f start) = inr (made_differs _)
mix_or_not (MixWork m) = inl refl
mix_or_not (ChannelWork p) = inr channel_differs

module _ (B : Type 0) (bs : ℕ → List B) (old new : Table) (u : ℕ) (out : List ℤ) (f : CanFill old u) (fills : FillsBlock old new u out) (whole : length out ≡ old.block) (settled : IsSettledUnit {B = B} old.block (node_of bs old [] u fills.computes.unit)) (count peak later_count later_peak : ℕ) where
  abbrev p : Computes old fills.computed u out
  p = fills.computes

  abbrev a : Appends fills.computed fills.longer u out
  a = fills.appends

  abbrev s : Settles fills.longer new u 0 (inputs_in fills.computes.work)
  s = fills.settles

  abbrev was : UnitData
  was = fills.computes.unit

  abbrev now : UnitData
  now = record fills.computes.unit { work = fills.settles.now.work }

  -- ---- numbers

  same_unit : f.there.unit ≡ was
  same_unit = same_some (sym f.there.there ∙ p.was)

  -- how many samples there are before and after
  abbrev done : ℕ
  done = computed_in old u

  abbrev n : ℕ
  n = computed_next_in old u - computed_in old u

  positive : 0 < old.block
  positive = omega (arith, f.heap.table.store.some, f.heap.table.block)

  done_is : computed_in old u ≡ filled_in old.store u * old.block
  done_is = can.done_all old u f

  next_is : computed_next_in old u ≡ min ((filled_in old.store u + 1) * old.block) was.timing.len
  next_is = can.next_to old u f ∙ ap (λ (q : UnitData). min ((filled_in old.store u + 1) * old.block) q.timing.len) same_unit

  forward : computed_in old u < computed_next_in old u
  forward = can.forward old u f

  sum_is : computed_in old u + (computed_next_in old u - computed_in old u) ≡ computed_next_in old u
  sum_is = omega (arith, forward)

  abbrev l : ListState
  l = (f.heap.table.units u fills.computes.unit fills.computes.was).0

  listed : list_at old.store u ≡ Some l
  listed = (f.heap.table.units u was p.was).1

  unit : IsUnit old u was l
  unit = (f.heap.table.units u was p.was).2

  filled_l : filled_in old.store u ≡ length l.values
  filled_l = filled_is old.store u l listed

  given : HasGiven was.work was.timing.len (computed_in old u)
  given = subst (HasGiven was.work was.timing.len) given_count unit.given
    where
      given_count : min (length l.values * old.block) was.timing.len ≡ computed_in old u
      given_count = sym (can.done_is old u f ∙ (λ i. min (filled_l i * old.block) (same_unit i).timing.len))

  module _ (part : Parts B) (w : Whole) (means : Means part (state_of bs old count peak) w) where
    abbrev before : HeapState B
    before = state_of bs old count peak

    abbrev later : HeapState B
    later = state_of bs new later_count later_peak

    -- ---- another unit

    other : (v : ℕ) (y : UnitData) → v ≢ u → unit_at new v ≡ Some y → NodeMeans part later w v (node_of bs new [] v y)
    other v y ne at =
        let at_old = other_was old new u out f fills v y ne at in
        let m = means v (node_of bs old [] v y) (node_of_unit B bs old count peak v y at_old) in
        let lists = fills.table.units v y at in
        let k = s.lists v lists.0 lists.1 in
        let list_old : list_at old.store v ≡ Some k.0 = sym (more.list_else old fills.computed fills.longer u out f p a v ne) ∙ k.1 in
        let block = block_same old new u out f fills in
        let filled = other_filled old new u out f fills v y ne at in
        record {
          len = m.len;
          owed = m.owed;
          kept = λ j b e.
              m.kept j b (block_at-state B bs old count peak v j k.0 list_old ∙ k.2.kept j b (sym (block_at-state B bs new later_count later_peak v j lists.0 lists.1) ∙ e))
              ∙ ap (λ c. nth_block c (w.samples v) j) (sym block);
          rest = λ k from below.
              m.rest k (subst (λ c. filled_in old.store v * c ≤ k) block (subst (λ c. c * new.block ≤ k) filled from)) below
              ∙ (λ i. unit_value (kind_of y.work) y.timing (memory_in y.work) (y.timing.start + sym filled i * sym block i) (all_inputs part w v (node_of bs old [] v y)) (y.timing.start + k));
        }

    -- ---- the unit itself

    mine : NodeMeans part before w u (node_of bs old [] u was)
    mine = means u (node_of bs old [] u was) (node_of_unit B bs old count peak u was p.was)

    -- what the store keeps of each list is what the whole list has there
    shows : ShowsAll old.store w.samples
    shows v = record {
      kept = λ k j b listed is.
          let y = some_is (unit_at old v) (f.heap.table.lists v (is_some_of _ k listed)) in
          (means v (node_of bs old [] v y.0) (node_of_unit B bs old count peak v y.0 y.1)).kept j b (block_at-state B bs old count peak v j k listed ∙ is)
          ∙ ap (λ c. nth_block c (w.samples v) j) (sym f.heap.table.block);
    }

    -- what it hears beside its inputs: what it is owed, and what waits
    abbrev rest_with : List (List Sound) → List (Option sounds.Sound)
    rest_with wss = map Some (w.owed u) ++ map Some (parts_from part w.samples was.timing.rate (stop_after (last_stop_in 0 was.inputs.items) (w.owed u)) (waiting_with (bs u) wss))

    abbrev rest : List (Option sounds.Sound)
    rest = rest_with (waits_in was.work)

    abbrev sounds_by : Work → (ℕ → Option sounds.Sound) → List (Option sounds.Sound)
    sounds_by v g = map g (range_with_len 0 (inputs_in v)) ++ rest

    all_sounds : (q : UnitData) (v : Work) → length q.inputs.items ≡ inputs_in v → map (input_sound w.samples) (readers_of q) ++ rest ≡ sounds_by v (λ i. input_sound w.samples (input_of q i))
    all_sounds q v same = ap (λ xs. xs ++ rest) (map-map (input_sound w.samples) (input_of q) (range_with_len 0 (length q.inputs.items)) ∙ ap (λ m. map (λ i. input_sound w.samples (input_of q i)) (range_with_len 0 m)) same)

    heard_so : (k : ℕ) → AreHeardSo was.timing was.inputs.items w.samples was.timing.len done k rest was.work
    heard_so k i inside c is =
        let r = f.heap.table.inputs u i was l c p.was listed (omega (arith, inside, unit.count)) is in
        (r.2.starts, r.2.sees)

    heard_still : (k : ℕ) → AreHeardSo was.timing was.inputs.items w.samples was.timing.len (computed_next_in old u) k rest p.work
    heard_still k i inside c is =
        let source = same_source was.work p.work (computed_next_in old u) i p.moves in
        let so = heard_so k i (omega (arith, inside, Rattle.ny_heap.proofs.MovesLemmas.same_inputs was.work p.work (computed_next_in old u) p.moves)) c (ap Rattle.ny_units.specs.Inputs.reader_of (sym source) ∙ is) in
        (ap start_of source ∙ so.0, so.1)

    -- no part is owed, and none is due
    quiet : (k : ℕ) → k < computed_next_in old u → AddNothing rest (was.timing.start + k)
    quiet k before = settled_quiet part w old.block u (node_of bs old [] u was) mine.owed settled (was.timing.start + k) (omega (arith, before, next_is))

    -- what it is to give is what its work computes
    value_was : (k : ℕ) → (kind_of was.work ≡ Mix → AddNothing rest (was.timing.start + k)) → unit_value (kind_of was.work) was.timing (memory_in was.work) (was.timing.start + done) (map (input_sound w.samples) (readers_of was) ++ rest) (was.timing.start + k) ≡ work_value was.work w.samples done k
    value_was k silent =
        ap (λ ss. unit_value (kind_of was.work) was.timing (memory_in was.work) (was.timing.start + done) ss (was.timing.start + k)) (all_sounds was was.work unit.count)
        ∙ value_is was.timing was.inputs.items w.samples was.timing.len done k rest was.work silent unit.sides unit.begins given (heard_so k)

    given_value : (k : ℕ) → done ≤ k → k < was.timing.len → get_or (w.samples u) k (pos 0) ≡ unit_value (kind_of was.work) was.timing (memory_in was.work) (was.timing.start + done) (map (input_sound w.samples) (readers_of was) ++ rest) (was.timing.start + k)
    given_value k from below =
        mine.rest k (omega (arith, from, done_is)) below
        ∙ ap (λ d. unit_value (kind_of was.work) was.timing (memory_in was.work) (was.timing.start + d) (map (input_sound w.samples) (readers_of was) ++ rest) (was.timing.start + k)) (sym done_is)

    given_samples : (k : ℕ) → done ≤ k → k < was.timing.len → (kind_of was.work ≡ Mix → AddNothing rest (was.timing.start + k)) → get_or (w.samples u) k (pos 0) ≡ work_value was.work w.samples done k
    given_samples k from below silent = given_value k from below ∙ value_was k silent

    -- what it computed is its list
    computed : (k : ℕ) → k < n → get_or out k (pos 0) ≡ get_or (w.samples u) (done + k) (pos 0)
    computed k inside = p.samples w.samples shows k inside ∙ sym (given_samples (done + k) (omega arith) (omega (arith, inside, forward, next_is)) (λ mix. quiet (done + k) (omega (arith, inside, forward))))

    last_block : take (was.timing.len - done) out ≡ nth_block old.block (w.samples u) (filled_in old.store u)
    last_block = ext_get_or (pos 0) (take (was.timing.len - done) out) (nth_block old.block (w.samples u) (filled_in old.store u)) long (λ k h.
        let inside : k < min (was.timing.len - done) old.block = omega (arith, h, length-take (was.timing.len - done) out, whole) in
        get_or-take (was.timing.len - done) out k (pos 0) (omega (arith, inside))
        ∙ computed k (omega (arith, inside, next_is, done_is))
        ∙ ap (λ d. get_or (w.samples u) (d + k) (pos 0)) done_is
        ∙ sym (get_or-take old.block (drop (filled_in old.store u * old.block) (w.samples u)) k (pos 0) (omega (arith, inside)) ∙ get_or-drop (filled_in old.store u * old.block) (w.samples u) k (pos 0)))
      where
        long : length (take (was.timing.len - done) out) ≡ length (nth_block old.block (w.samples u) (filled_in old.store u))
        long = omega (arith, length-take (was.timing.len - done) out, whole, length-take old.block (drop (filled_in old.store u * old.block) (w.samples u)), length-drop (filled_in old.store u * old.block) (w.samples u), mine.len, done_is)

    -- its blocks
    list_was : a.list ≡ l
    list_was = same_some (sym (more.listed old fills.computed fills.longer u out f p a) ∙ listed)

    -- what it appended
    abbrev last : List ℤ
    last = take (a.list.len - length a.list.values * fills.computed.store.block) out

    last_is : last ≡ nth_block old.block (w.samples u) (filled_in old.store u)
    last_is =
        (λ i. take ((list_was i).len - length (list_was i).values * (p.reworks.store i).block) out)
        ∙ (λ i. take (unit.len i - sym filled_l i * f.heap.table.block i) out)
        ∙ ap (λ d. take (was.timing.len - d) out) (sym done_is)
        ∙ last_block

    kept_blocks : (j : ℕ) (b : List ℤ) → block_at later u j ≡ Some b → b ≡ nth_block old.block (w.samples u) j
    kept_blocks j b e = elim (cases_lt j (length a.list.values)) [
      | inl inside ↦
          mine.kept j b (block_at-state B bs old count peak u j l listed ∙ ap (λ (k : ListState). get_or k.values j None) (sym list_was) ∙ sym (get_or_append_left a.list.values (Some last ∷ []) None j inside) ∙ there)
      | inr past ↦ elim (cases_eq (length a.list.values) j) [
        | inl same ↦
            same_some (sym there ∙ get_or_push a.list.values (Some last) None j same)
            ∙ last_is
            ∙ ap (nth_block old.block (w.samples u)) (omega (arith, same, filled_l, ap (λ (k : ListState). length k.values) list_was))
        | inr beyond ↦ absurd (none_some (sym (get_or_past (a.list.values ++ Some last ∷ []) j None (omega (arith, past, beyond, length-append a.list.values (Some last ∷ [])))) ∙ there))
      ]
    ]
      where
        there : get_or (a.list.values ++ Some last ∷ []) j None ≡ Some b
        there =
            let m = fills.table.units u now (unit_now old new u out f fills) in
            let k = s.lists u m.0 m.1 in
            let same : k.0 ≡ more.longer old fills.computed fills.longer u out f p a = same_some (sym k.1 ∙ more.longer_here old fills.computed fills.longer u out f p a) in
            let is : get_or (more.longer old fills.computed fills.longer u out f p a).values j None ≡ Some b = ap (λ (q : ListState). get_or q.values j None) (sym same) ∙ k.2.kept j b (sym (block_at-state B bs new later_count later_peak u j m.0 m.1) ∙ e) in
            blank_kept (least (a.list.marks ++ 0 ∷ [])) (a.list.values ++ Some last ∷ []) j b is

    -- ---- its rest, with the inputs that it has left

    module _ (k : ℕ) (from : (filled_in old.store u + 1) * old.block ≤ k) (below : k < was.timing.len) where
      next_all : computed_next_in old u ≡ (filled_in old.store u + 1) * old.block
      next_all = omega (arith, next_is, from, below)

      late : computed_next_in old u ≤ k
      late = omega (arith, next_all, from)

      still : filled_in old.store u + 1 < blocks_of old.block was.timing.len
      still = omega (arith, le-div (filled_in old.store u + 1 + 1) (was.timing.len + (old.block - 1)) old.block positive (omega (arith, from, below)))

      same_kinds : kind_of p.work ≡ kind_of was.work
      same_kinds = more.same_kinds old fills.computed fills.longer u out f p a

      -- its work has still to give what it had
      value_on_rest : work_value p.work w.samples (computed_next_in old u) k ≡ work_value was.work w.samples done k
      value_on_rest =
          ap (λ m. work_value p.work w.samples m k) (sym sum_is)
          ∙ value_on was.work p.work was.timing was.inputs.items w.samples was.timing.len done n k (subst (MovesOn was.work p.work) (sym sum_is) p.moves) (p.recalls w.samples shows) unit.hears given (omega (arith, late, sum_is))

      value_then : (kind_of was.work ≢ Mix) → unit_value (kind_of p.work) was.timing (memory_in p.work) (was.timing.start + computed_next_in old u) (sounds_by p.work (λ i. input_sound w.samples (input_of (record was { work = p.work }) i))) (was.timing.start + k) ≡ work_value p.work w.samples (computed_next_in old u) k
      value_then other =
          value_is was.timing was.inputs.items w.samples was.timing.len (computed_next_in old u) k rest p.work (λ mix. absurd (other (sym same_kinds ∙ mix)))
          (sides_on was.work p.work (computed_next_in old u) p.moves unit.sides)
          (begins_on was.work p.work (computed_next_in old u) was.timing p.moves unit.begins)
          (given_on was.work p.work was.timing.len done (computed_next_in old u) p.moves given)
          (heard_still k)

      -- an input once it has moved on
      input_is : (i : ℕ) → i < inputs_in p.work → input_of now i ≡ moved_in old.block was (filled_in old.store u + 1) (input_of was i)
      input_is i inside = input_now old new u out f fills i (omega (arith, inside, input_count old new u out f fills))

      same_cursors : (i : ℕ) → input_of (record was { work = p.work }) i ≡ input_of was i
      same_cursors i = ap (option_map {U = Reader} (λ c. record { node = c.list; place = c.place; timing = timing_at was i })) (more.same_cursor old fills.computed fills.longer u out f p a i)

      timing_of : (i : ℕ) (r : Reader) → input_of was i ≡ Some r → r.timing ≡ timing_at was i
      timing_of i r is = by (cursor_at was.work i) refl
        where
          by : (o : Option CursorState) → cursor_at was.work i ≡ o → r.timing ≡ timing_at was i
          by None e = absurd (none_some (sym (ap (option_map {U = Reader} (λ c. record { node = c.list; place = c.place; timing = timing_at was i })) e) ∙ is))
          by (Some c) e = ap (λ (q : Reader). q.timing) (same_some (sym is ∙ ap (option_map {U = Reader} (λ d. record { node = d.list; place = d.place; timing = timing_at was i })) e))

      next_in_block : min ((filled_in old.store u + 1) * old.block) was.timing.len ≡ computed_next_in old u
      next_in_block = sym next_is

      -- a filter has not passed all of its input
      filter_more : (g : Filtering) (start : ℕ) → p.work ≡ FilterWork g start → (r : Reader) → input_of was 0 ≡ Some r → taken_after old.block (kind_of was.work) was.timing r.timing (filled_in old.store u + 1) < r.timing.len
      filter_more g start e r is =
          let timing : r.timing ≡ was.timing = timing_of 0 r is ∙ sym (first was.inputs.items (subst (λ v. Hears v was.timing was.inputs.items) e (hears_on was.work p.work (computed_next_in old u) was.timing was.inputs.items p.moves unit.hears))) in
          let kind : kind_of was.work ≡ kind_of (FilterWork g start) = sym (more.same_kinds old fills.computed fills.longer u out f p a) ∙ ap kind_of e in
          let taken : taken_after old.block (kind_of was.work) was.timing r.timing (filled_in old.store u + 1) ≡ taken_after old.block (kind_of (FilterWork g start)) was.timing was.timing (filled_in old.store u + 1) = (λ i. taken_after old.block (kind i) was.timing (timing i) (filled_in old.store u + 1)) in
          omega (arith, taken, taken_at old.block (kind_of (FilterWork g start)) was.timing was.timing (filled_in old.store u + 1) (omega arith), ap (λ (q : Timing). q.len) timing, from, below)
        where
          first : (ts : List Timing) → Hears (FilterWork g start) was.timing ts → was.timing ≡ get_or ts 0 was.timing
          first [] b = absurd b
          first (q ∷ qs) b = b

      same_inputs : SameInputs was.timing was.inputs.items (computed_next_in old u) k late (λ i. input_sound w.samples (input_of (record was { work = p.work }) i)) (λ i. input_sound w.samples (input_of now i)) rest p.work
      same_inputs = record {
        hear = λ i m inside far.
            let same_next : next_taken (kind_of p.work) was.timing (timing_at was i) (computed_next_in old u) ≡ next_taken (kind_of was.work) was.timing (timing_at was i) (min ((filled_in old.store u + 1) * old.block) was.timing.len) = λ j. next_taken (more.same_kinds old fills.computed fills.longer u out f p a j) was.timing (timing_at was i) (next_is j) in
            ap (λ o. heard (input_sound w.samples o) m) (input_is i inside)
            ∙ moved_heard w.samples old.block was (filled_in old.store u + 1) (timing_at was i) (input_of was i) m (omega arith) still (timing_of i)
            (omega (arith, far, same_next))
            ∙ ap (λ o. heard (input_sound w.samples o) m) (sym (same_cursors i));
        filter = λ g start e.
            ap (input_sound w.samples) (input_is 0 (subst (λ v. 0 < inputs_in v) (sym e) (omega arith)))
            ∙ moved_sound w.samples old.block was (filled_in old.store u + 1) (input_of was 0) still (filter_more g start e)
            ∙ ap (input_sound w.samples) (sym (same_cursors 0));
      }

      -- so has a mix, which hears as well what waits
      value_mix : kind_of was.work ≡ Mix → unit_value (kind_of p.work) was.timing (memory_in p.work) (was.timing.start + computed_next_in old u) (sounds_by p.work (λ i. input_sound w.samples (input_of (record was { work = p.work }) i))) (was.timing.start + k) ≡ get_or (w.samples u) k (pos 0)
      value_mix mix =
          ap (λ q. unit_value q was.timing (memory_in p.work) (was.timing.start + computed_next_in old u) (sounds_by p.work (λ i. input_sound w.samples (input_of (record was { work = p.work }) i))) (was.timing.start + k)) (same_kinds ∙ mix)
          ∙ ap (λ ss. sum_heard (pos 0) ss (was.timing.start + k)) same_sounds
          ∙ sym (ap (λ q. unit_value q was.timing (memory_in was.work) (was.timing.start + done) (map (input_sound w.samples) (readers_of was) ++ rest) (was.timing.start + k)) mix)
          ∙ sym (given_value k (omega (arith, late, forward)) below)
        where
          same_sounds : sounds_by p.work (λ i. input_sound w.samples (input_of (record was { work = p.work }) i)) ≡ map (input_sound w.samples) (readers_of was) ++ rest
          same_sounds =
              (λ j. map (λ i. input_sound w.samples (same_cursors i j)) (range_with_len 0 (inputs_in p.work)) ++ rest)
              ∙ ap (λ m. map (λ i. input_sound w.samples (input_of was i)) (range_with_len 0 m) ++ rest) (sym (input_count old new u out f fills) ∙ unit.count)
              ∙ sym (all_sounds was was.work unit.count)

      value_still : ((kind_of was.work ≡ Mix) ⊎ (kind_of was.work ≢ Mix)) → unit_value (kind_of p.work) was.timing (memory_in p.work) (was.timing.start + computed_next_in old u) (sounds_by p.work (λ i. input_sound w.samples (input_of (record was { work = p.work }) i))) (was.timing.start + k) ≡ get_or (w.samples u) k (pos 0)
      value_still (inl mix) = value_mix mix
      value_still (inr other) = value_then other ∙ value_on_rest ∙ sym (given_samples k (omega (arith, late, forward)) below (λ mix. absurd (other mix)))

      value_now : unit_value (kind_of p.work) was.timing (memory_in p.work) (was.timing.start + computed_next_in old u) (sounds_by p.work (λ i. input_sound w.samples (input_of now i))) (was.timing.start + k) ≡ get_or (w.samples u) k (pos 0)
      value_now =
          value_by was.timing was.inputs.items (computed_next_in old u) k late (λ i. input_sound w.samples (input_of (record was { work = p.work }) i)) (λ i. input_sound w.samples (input_of now i)) rest p.work
          (begins_on was.work p.work (computed_next_in old u) was.timing p.moves unit.begins)
          (brings_on was.work p.work (computed_next_in old u) was.inputs.items p.moves unit.brings)
          (hears_on was.work p.work (computed_next_in old u) was.timing was.inputs.items p.moves unit.hears)
          same_inputs
          ∙ value_still (mix_or_not was.work)

      -- what waits waits still
      waits_still : waits_in now.work ≡ waits_in was.work
      waits_still = fills.waits ∙ ap (λ b. cond b (waits_in was.work) []) (lt-ltb (filled_in old.store u + 1) (blocks_of old.block was.timing.len) still)

      rest_now : get_or (w.samples u) k (pos 0) ≡ unit_value (kind_of now.work) was.timing (memory_in now.work) (was.timing.start + (filled_in old.store u + 1) * old.block) (map (input_sound w.samples) (readers_of now) ++ rest_with (waits_in now.work)) (was.timing.start + k)
      rest_now =
          sym ((λ i. unit_value (work_kind old new u out f fills i) was.timing (same_memory old new u out f fills i) (was.timing.start + sym next_all i) (all_sounds now p.work (input_count old new u out f fills) i) (was.timing.start + k))
          ∙ value_now)
          ∙ ap (λ wss. unit_value (kind_of now.work) was.timing (memory_in now.work) (was.timing.start + (filled_in old.store u + 1) * old.block) (map (input_sound w.samples) (readers_of now) ++ rest_with wss) (was.timing.start + k)) (sym waits_still)

    here : NodeMeans part later w u (node_of bs new [] u now)
    here =
        let block = block_same old new u out f fills in
        let filled = filled_new old new u out f fills in
        record {
          len = mine.len;
          owed = mine.owed;
          kept = λ j b e. kept_blocks j b e ∙ ap (λ c. nth_block c (w.samples u) j) (sym block);
          rest = λ k from below.
              rest_now k (subst (λ c. (filled_in old.store u + 1) * c ≤ k) block (subst (λ c. c * new.block ≤ k) filled from)) below
              ∙ (λ i. unit_value (kind_of now.work) was.timing (memory_in now.work) (was.timing.start + sym filled i * sym block i) (map (input_sound w.samples) (readers_of now) ++ rest_with (waits_in now.work)) (was.timing.start + k));
        }

    pub means_still : Means part later w
    means_still v y at =
        let q = unit_of_node B bs new later_count later_peak v y at in
        subst (NodeMeans part later w v) (sym q.2) (elim (cases_eq v u) [
          | inl e ↦
              let is : q.0 ≡ now = same_some (sym q.1 ∙ ap (unit_at new) e ∙ unit_now old new u out f fills) in
              subst (λ m. NodeMeans part later w m (node_of bs new [] m q.0)) (sym e) (subst (λ d. NodeMeans part later w u (node_of bs new [] u d)) (sym is) here)
          | inr ne ↦ other v q.0 ne q.1
        ])

  pub fill_keeps : KeepsMeaning {B = B} (state_of bs old count peak) (state_of bs new later_count later_peak)
  fill_keeps part w means = means_still part w means
