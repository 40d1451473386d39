-- What a contract sees once a part was handed out: its sounds are its caller's.
use Rattle.std.proofs.Common.{◌≡◌, ◌≢◌, ℕ, zero, suc, ◌+◌, ◌-◌, ◌/◌, ◌<◌, cond, nat_eq, ◌&&◌, List, [], ◌∷◌, ◌++◌, length, map, drop, get_or, set, slice_index, Option, None, Some, refl, sym, ap, subst, ◌∙◌, arith, length-set, inl, inr}
use Rattle.std.specs.List.{range_with_len, sum_by, slice_get}
use Rattle.std.specs.Option.{option_map, option_map_or}
use Rattle.std.proofs.lemmas.List.{set-set, get_or-set_same, get_or-set_other, get_or_past, map-append}
use Rattle.std.proofs.lemmas.List.Sums.{sum_by-set, sum_by-append}
use Rattle.std.proofs.lemmas.Bool.{cases_lt, cases_eq, eq-eqb, ne_eqb}
use Rattle.ny_list.specs.Store.{ListState, CursorState, list_at}
use Rattle.ny_list.proofs.IndexLemmas.{same_some, tab_get, tab_same, tab_set}
use Rattle.ny_heap.specs.declared.sound.Sound.{Sound}
use Rattle.ny_heap.specs.declared.table.Unit.{Unit as UnitData}
use Rattle.ny_heap.specs.declared.table.Table.{Table}
use Rattle.ny_heap.specs.declared.work.Work.{Work}
use Rattle.ny_heap.specs.declared.work.Work.TheVariants.{Leaf as LeafWork, Pair as PairWork, Abs as AbsWork, Resample as ResampleWork, Filter as FilterWork, Mix as MixWork, Channel as ChannelWork}
use Rattle.ny_heap.specs.Heap.{Reader, Node, HeapState, node_at, list_of, place_of, stands_in, blocks_of, is_reader}
use Rattle.ny_heap.specs.Steps.{IsCounted, IsHeldAt, IsHeldSound, AreHeld, changed, with_mark, without_mark, with_sound, without_sound, without_sounds, waiting_of}
use Rattle.ny_heap.specs.Work.{kind_of, memory_in, waits_in, without_first, kept_in}
use Rattle.ny_heap.specs.Table.{unit_at, timing_at, input_of, readers_of, own_in, own_of, held_in, mark_in, len_of, stands_at, IsTable, IsKept, ShowsFirst}
use Rattle.ny_heap.specs.View.{node_of, state_of, state_with, outside_in, filled_in, waiting_with, HaveBranches}
use Rattle.ny_heap.specs.Means.{Means}
use Rattle.ny_heap.specs.Revealing.{with_promise, with_sounds, with_owed, promise_of, HandsOut, Promises}
use Rattle.ny_heap.specs.Attaching.{TakesPart}
use Rattle.ny_heap.proofs.TableLemmas.{place_within}
use Rattle.ny_heap.proofs.ListLemmas.{len_is}
use Rattle.ny_heap.proofs.KeepLemmas.{cursor_first}
use Rattle.ny_heap.proofs.CountLemmas.{some_is, held_cons, IsTable-hand}
use Rattle.ny_heap.proofs.SpentLemmas.{cursors_in}
use Rattle.ny_heap.proofs.StepLemmas.{node_with}
use Rattle.ny_heap.proofs.ViewLemmas.{node_of_unit, unit_of_node}
use Rattle.ny_heap.proofs.RevealMeans.{OthersStay, means_promised}
use Rattle.ny_heap.proofs.SoundLemmas.{all_taken}
use Rattle.ny_heap.proofs.ForgetLemmas.{first_apart}

-- ---- what was spent is given back

set_there : {A : Type 0} (xs : List A) (n : ℕ) (d : A) → n < length xs → set xs n (get_or xs n d) ≡ xs
set_there [] n d inside = absurd (omega (arith, inside))
set_there (x ∷ xs) zero d inside = refl
set_there (x ∷ xs) (suc n) d inside = ap (λ rest. x ∷ rest) (set_there xs n d (omega (arith, inside)))

count_back : (marks : List ℕ) (j : ℕ) → 0 < get_or marks j 0 → set (set marks j (get_or marks j 0 - 1)) j (get_or (set marks j (get_or marks j 0 - 1)) j 0 + 1) ≡ marks
count_back marks j some =
    set-set marks j (get_or marks j 0 - 1) (get_or (set marks j (get_or marks j 0 - 1)) j 0 + 1)
    ∙ ap (set marks j) (omega (arith, some, get_or-set_same marks j (get_or marks j 0 - 1) 0 inside))
    ∙ set_there marks j 0 inside
  where
    inside : j < length marks
    inside = elim (cases_lt j (length marks)) [
      | inl h ↦ h
      | inr past ↦ absurd (omega (arith, some, get_or_past marks j 0 past))
    ]

one_back : {B : Type 0} (h : HeapState B) (s : Sound) (o : Option ℕ) → ((n : ℕ) → o ≡ Some n → (x : Node B) × (node_at h n ≡ Some x) × (0 < slice_index x.outside (stands_in h.block x.timing.len (place_of s))))
    → changed (changed h o (λ x. without_mark (stands_in h.block x.timing.len (place_of s)) x)) o (λ x. with_mark (stands_in h.block x.timing.len (place_of s)) x) ≡ h
one_back h s None there = refl
one_back {B} h s (Some n) there =
    ap (λ ns. record h { nodes = ns }) (
    ap (λ o. set (set h.nodes n (option_map fewer (node_at h n))) n (option_map more o)) (get_or-set_same h.nodes n (option_map fewer (node_at h n)) None inside ∙ ap (option_map fewer) at)
    ∙ set-set h.nodes n (option_map fewer (node_at h n)) (Some (more (fewer x)))
    ∙ ap (λ (y : Node B). set h.nodes n (Some y)) (ap (λ ms. record x { outside = ms }) (count_back x.outside (stands_in h.block x.timing.len (place_of s)) some))
    ∙ ap (set h.nodes n) (sym at)
    ∙ set_there h.nodes n None inside)
  where
    fewer : Node B → Node B
    fewer x = without_mark (stands_in h.block x.timing.len (place_of s)) x

    more : Node B → Node B
    more x = with_mark (stands_in h.block x.timing.len (place_of s)) x

    x : Node B
    x = (there n refl).0

    at : node_at h n ≡ Some (there n refl).0
    at = (there n refl).1

    some : 0 < slice_index (there n refl).0.outside (stands_in h.block (there n refl).0.timing.len (place_of s))
    some = (there n refl).2

    inside : n < length h.nodes
    inside = place_within h.nodes n (there n refl).0 (there n refl).1

held_there : {B : Type 0} (h : HeapState B) (s : Sound) → IsHeldSound h s → (n : ℕ) → list_of s ≡ Some n → (x : Node B) × (node_at h n ≡ Some x) × (0 < slice_index x.outside (stands_in h.block x.timing.len (place_of s)))
held_there h s held n is = let c : IsCounted h s n = subst (IsHeldAt h s) is held.1 in (c.unit, c.there, c.stands)

block_of : {B : Type 0} (h : HeapState B) (o : Option ℕ) (f : Node B → Node B) → (changed h o f).block ≡ h.block
block_of h None f = refl
block_of h (Some n) f = refl

spent_back : {B : Type 0} (h : HeapState B) (s : Sound) → IsHeldSound h s → with_sound (without_sound h s) s ≡ h
spent_back {B} h s held =
    ap (λ b. changed (without_sound h s) (list_of s) (λ x. with_mark (stands_in b x.timing.len (place_of s)) x)) (block_of h (list_of s) (λ x. without_mark (stands_in h.block x.timing.len (place_of s)) x))
    ∙ one_back h s (list_of s) (held_there h s held)

-- these sounds
pub all_back : {B : Type 0} (h : HeapState B) (ss : List Sound) → AreHeld h ss → with_sounds (without_sounds h ss) ss ≡ h
all_back h [] held = refl
all_back h (s ∷ ss) held = ap (λ k. with_sounds k ss) (spent_back (without_sounds h ss) s held.1) ∙ all_back h ss held.2

-- ---- cursors in hand are a caller's sounds

zero_in : (block len : ℕ) → 0 < block → 0 < len → stands_in block len 0 ≡ 0
zero_in block len some more = elim (cases_eq 0 len) [
  | inl same ↦ absurd (omega (arith, same, more))
  | inr other ↦ ap (λ b. cond b (blocks_of block len) (0 / block)) (ne_eqb 0 len other) ∙ none_of block some
]
  where
    none_of : (b : ℕ) → 0 < b → 0 / b ≡ 0
    none_of b more = grind arith

module _ (B : Type 0) (bs : ℕ → List B) (t : Table) (fills peak : ℕ) where
  -- one that is at the beginning of its list is counted there
  counted_first : (cs : List (Option CursorState)) (s : Sound) (c : CursorState) → IsTable t (Some c ∷ cs) → s.reader ≡ Some c → ShowsFirst t s c → IsCounted {B = B} (state_with bs t cs fills peak) s c.list
  counted_first cs s c table reads shows = record {
    unit = node_of bs t cs c.list x.0;
    there = node_with B bs t cs fills peak c.list x.0 x.1;
    some = shows.some;
    visible = omega (arith, shows.visible, long);
    place = omega (arith, place);
    stands = subst (λ j. 0 < slice_index (map (outside_in t cs c.list) (range_with_len 0 (filled_in t.store c.list + 1))) j) (sym first) (omega (arith, tab_get (outside_in t cs c.list) (filled_in t.store c.list + 1) 0 0 (omega arith), counted));
  }
    where
      there : (l : ListState) × (list_at t.store c.list ≡ Some l)
      there = some_is (list_at t.store c.list) (table.held 0 c refl)

      x : (x : UnitData) × (unit_at t c.list ≡ Some x)
      x = some_is (unit_at t c.list) (table.lists c.list (table.held 0 c refl))

      long : x.0.timing.len ≡ len_of t.store c.list
      long = let u = table.units c.list x.0 x.1 in sym u.2.len ∙ sym (len_is t.store c.list u.0 u.1)

      place : place_of s ≡ 0
      place = ap (λ (o : Option CursorState). option_map_or {U = ℕ} (λ d. d.place) o 0) reads ∙ shows.begins

      positive : 0 < t.block
      positive = omega (arith, table.store.some, table.block)

      first : stands_in t.block x.0.timing.len (place_of s) ≡ 0
      first = ap (stands_in t.block x.0.timing.len) place ∙ zero_in t.block x.0.timing.len positive (omega (arith, long, shows.some, shows.visible))

      stand : stands_at t.block (len_of t.store c.list) c.list 0 (Some c) ≡ 1
      stand =
          ap (λ k. cond {A = ℕ} (nat_eq c.list c.list && nat_eq k 0) 1 0) (ap (stands_in t.block (len_of t.store c.list)) shows.begins ∙ zero_in t.block (len_of t.store c.list) positive (omega (arith, shows.some, shows.visible)))
          ∙ ap (λ b. cond {A = ℕ} (b && nat_eq 0 0) 1 0) (eq-eqb c.list c.list refl)

      counted : 0 < outside_in t cs c.list 0
      counted = omega (arith, table.counted c.list 0 there.0 there.1, held_cons t (Some c) cs c.list 0, stand)

  -- so of all of them
  pub are_held : IsTable t [] → (ss : List Sound) → IsTable t (cursors_in ss) → ((i : ℕ) (s : Sound) → slice_get ss i ≡ Some s → IsKept t s) → AreHeld {B = B} (state_of bs t fills peak) ss
  are_held none [] table kept = tt
  are_held none (s ∷ ss) table kept = with_one (are_held none ss fewer (λ i. kept (suc i)))
    where
      fewer : IsTable t (cursors_in ss)
      fewer = IsTable-hand t (s.reader ∷ cursors_in ss) (cursors_in ss) table (λ i c is. table.held (suc i) c is) (λ v j l is. omega (arith, held_cons t s.reader (cursors_in ss) v j))

      by : (o : Option CursorState) → s.reader ≡ o → place_of (record s { reader = o }) ≡ 0
      by None e = refl
      by (Some c) e = ((kept 0 s refl).some c e).1.begins

      place : place_of s ≡ 0
      place = by s.reader refl

      at : (o : Option CursorState) → s.reader ≡ o → IsHeldAt {B = B} (state_with bs t (cursors_in ss) fills peak) s (option_map (λ c. c.list) o)
      at None e = (kept 0 s refl).none e
      at (Some c) e = counted_first (cursors_in ss) s c (subst (λ o. IsTable t (o ∷ cursors_in ss)) e table) e ((kept 0 s refl).some c e).1

      with_one : AreHeld {B = B} (state_of bs t fills peak) ss → AreHeld {B = B} (state_of bs t fills peak) (s ∷ ss)
      with_one rest = (place, subst (λ h. IsHeldSound {B = B} h s) (sym (all_taken B bs t fills peak none ss rest).1) ((kept 0 s refl).bounds, at s.reader refl), rest)

-- ---- the table without the part, where the part's sounds are in hand

kind_first : (w : Work) → kind_of (without_first w) ≡ kind_of w
kind_first (LeafWork p) = refl
kind_first (PairWork p a b) = refl
kind_first (AbsWork s) = refl
kind_first (ResampleWork r) = refl
kind_first (FilterWork f start) = refl
kind_first (MixWork m) = refl
kind_first (ChannelWork p) = refl

memory_first : (w : Work) → memory_in (without_first w) ≡ memory_in w
memory_first (LeafWork p) = refl
memory_first (PairWork p a b) = refl
memory_first (AbsWork s) = refl
memory_first (ResampleWork r) = refl
memory_first (FilterWork f start) = refl
memory_first (MixWork m) = refl
memory_first (ChannelWork p) = refl

module _ (B : Type 0) (old new : Table) (u : ℕ) (kept : List Sound) (p : TakesPart old new u kept) where
  abbrev x : UnitData
  x = p.unit

  abbrev now : UnitData
  now = record p.unit { work = without_first p.unit.work; pending = p.unit.pending + 1 }

  now_there : unit_at new u ≡ Some now
  now_there = ap (λ xs. get_or xs u None) p.units ∙ get_or-set_same old.units.items u (Some now) None (place_within old.units.items u x p.was)

  else_there : (w : ℕ) → w ≢ u → unit_at new w ≡ unit_at old w
  else_there w ne = ap (λ xs. get_or xs w None) p.units ∙ get_or-set_other old.units.items u w (Some now) None ne

  same_readers : readers_of now ≡ readers_of p.unit
  same_readers = tab_same (input_of now) (input_of x) (length x.inputs.items) None (λ i h. ap (option_map {U = Reader} (λ c. record { node = c.list; place = c.place; timing = timing_at x i })) (cursor_first x.work i))

  same_filled : (w : ℕ) → filled_in new.store w ≡ filled_in old.store w
  same_filled w = ap (λ s. filled_in s w) p.store

  -- who stood somewhere stands there, in the unit or in hand
  own_apart : (v j : ℕ) → own_in new v j + held_in new (cursors_in kept) v j ≡ own_in old v j
  own_apart v j =
      let n : ℕ = len_of old.store v in
      let f = λ (o : Option UnitData). option_map_or {U = ℕ} (own_of old.block n v j) o 0 in
      let g = stands_at old.block n v j in
      let apart : kept_in x.work ≡ kept ++ kept_in (without_first x.work) = first_apart x.work kept p.first in
      let all : own_in new v j ≡ sum_by f (set old.units.items u (Some now)) =
      ap (λ b. sum_by (λ (o : Option UnitData). option_map_or {U = ℕ} (own_of b (len_of new.store v) v j) o 0) new.units.items) p.block
      ∙ ap (λ s. sum_by (λ (o : Option UnitData). option_map_or {U = ℕ} (own_of old.block (len_of s v) v j) o 0) new.units.items) p.store
      ∙ ap (sum_by f) p.units in
      let held : held_in new (cursors_in kept) v j ≡ sum_by g (cursors_in kept) = ap (λ b. sum_by (stands_at b (len_of new.store v) v j) (cursors_in kept)) p.block ∙ ap (λ s. sum_by (stands_at old.block (len_of s v) v j) (cursors_in kept)) p.store in
      omega (
        arith,
        all,
        held,
        sum_by-set f old.units.items u (Some now) None (place_within old.units.items u x p.was),
        ap f p.was,
        ap (sum_by (is_reader old.block n v j)) same_readers,
        ap (λ ss. sum_by g (cursors_in ss)) apart,
        ap (sum_by g) (map-append (λ (s : Sound). s.reader) kept (kept_in (without_first x.work))),
        sum_by-append g (cursors_in kept) (cursors_in (kept_in (without_first x.work))),
      )

  outside_same : (w j : ℕ) → outside_in new (cursors_in kept) w j ≡ outside_in old [] w j
  outside_same w j =
      let none : held_in old [] w j ≡ 0 = refl in
      omega (arith, ap (λ s. mark_in s w j) p.store, own_apart w j, none)

  marks_same : (w : ℕ) → map (outside_in new (cursors_in kept) w) (range_with_len 0 (filled_in new.store w + 1)) ≡ map (outside_in old [] w) (range_with_len 0 (filled_in old.store w + 1))
  marks_same w =
      tab_same (outside_in new (cursors_in kept) w) (outside_in old [] w) (filled_in new.store w + 1) 0 (λ j h. outside_same w j)
      ∙ ap (λ n. map (outside_in old [] w) (range_with_len 0 (n + 1))) (same_filled w)

  module _ (bs later : ℕ → List B) (branch : B) (mine : bs u ≡ branch ∷ later u) (others : (w : ℕ) → w ≢ u → later w ≡ bs w) (fills peak : ℕ) where
    -- the parts that wait
    waiting_then : waiting_with (bs u) (waits_in p.unit.work) ≡ waiting_of (branch, kept) ∷ waiting_with (later u) (waits_in (without_first p.unit.work))
    waiting_then = λ i. waiting_with (mine i) (p.first i)

    node_now : node_of later new (cursors_in kept) u now ≡ with_promise (node_of bs old [] u p.unit)
    node_now = λ i. record (node_of later new (cursors_in kept) u now) {
      kind = kind_first x.work i;
      filled = same_filled u i;
      inputs = same_readers i;
      memory = memory_first x.work i;
      waiting = drop 1 (sym waiting_then i);
      outside = marks_same u i;
    }

    node_else : (w : ℕ) → w ≢ u → (o : Option UnitData) → option_map (node_of later new (cursors_in kept) w) o ≡ option_map (node_of bs old [] w) o
    node_else w ne None = refl
    node_else w ne (Some y) = λ i. Some (record (node_of bs old [] w y) { filled = same_filled w i; waiting = waiting_with (others w ne i) (waits_in y.work); outside = marks_same w i })

    -- what a contract sees where the part's sounds are in hand
    pub promised_is : state_with later new (cursors_in kept) fills peak ≡ changed (state_of bs old fills peak) (Some u) with_promise
    promised_is =
        (λ i. record (state_with later new (cursors_in kept) fills peak) {
          nodes = nodes i;
          blocks = map (λ (o : Option ListState). option_map_or (λ l. l.values) o []) (p.store i).lists;
          pool = length (p.store i).loose;
          block = p.block i;
        })
      where
        before : ℕ → Option (Node B)
        before w = option_map (node_of bs old [] w) (unit_at old w)

        after : ℕ → Option (Node B)
        after w = option_map (node_of later new (cursors_in kept) w) (unit_at new w)

        long : length new.units.items ≡ length old.units.items
        long = ap length p.units ∙ length-set old.units.items u (Some now)

        nodes : map after (range_with_len 0 (length new.units.items)) ≡ set (map before (range_with_len 0 (length old.units.items))) u (option_map with_promise (node_at (state_of bs old fills peak) u))
        nodes =
            ap (λ n. map after (range_with_len 0 n)) long
            ∙ sym (tab_set before after (length old.units.items) u (option_map with_promise (node_at (state_of bs old fills peak) u)) None (place_within old.units.items u x p.was)
            (ap (option_map (node_of later new (cursors_in kept) u)) now_there ∙ ap Some node_now ∙ sym (ap (option_map with_promise) (node_with B bs old [] fills peak u x p.was)))
            (λ w h ne. ap (option_map (node_of later new (cursors_in kept) w)) (else_there w ne) ∙ node_else w ne (unit_at old w)))

    -- and once they are its caller's
    pub handed_is : IsTable new [] → IsTable new (cursors_in kept) → ((i : ℕ) (s : Sound) → slice_get kept i ≡ Some s → IsKept new s) → (AreHeld (state_of later new fills peak) kept) × (state_of later new fills peak ≡ with_sounds (changed (state_of bs old fills peak) (Some u) with_promise) kept)
    handed_is none table each =
        let held = are_held B later new fills peak none kept table each in
        let taken = all_taken B later new fills peak none kept held in
        (held, sym (all_back (state_of later new fills peak) kept held) ∙ ap (λ h. with_sounds h kept) (taken.1 ∙ promised_is))

    -- ---- what the lists mean

    node_then : node_of later new [] u now ≡ record (node_of bs old [] u p.unit) { waiting = waiting_with (later u) (waits_in (without_first p.unit.work)); pending = p.unit.pending + 1; outside = map (outside_in new [] u) (range_with_len 0 (filled_in new.store u + 1)) }
    node_then = λ i. record (node_of later new [] u now) { kind = kind_first x.work i; filled = same_filled u i; inputs = same_readers i; memory = memory_first x.work i }

    stay : OthersStay (state_of bs old fills peak) (state_of later new fills peak) u
    stay = record {
      block = p.block;
      blocks = λ v j b e. ap (λ s. get_or (get_or (map (λ (o : Option ListState). option_map_or (λ l. l.values) o []) s.lists) v []) j None) (sym p.store) ∙ e;
      others = λ v y ne at.
          let z = unit_of_node B later new fills peak v y at in (
            node_of bs old [] v z.0,
            node_of_unit B bs old fills peak v z.0 (sym (else_there v ne) ∙ z.1),
            z.2 ∙ (λ i. record (node_of bs old [] v z.0) { filled = same_filled v i; waiting = waiting_with (others v ne i) (waits_in z.0.work); outside = map (outside_in new [] v) (range_with_len 0 (filled_in new.store v + 1)) })
                ∙ ap (λ ms. record (node_of bs old [] v z.0) { outside = ms }) (sym (ap (λ (q : Node B). q.outside) z.2)),
          );
    }

    pub handed_means : Promises (state_of bs old fills peak) (state_of later new fills peak) u (waiting_of (branch, kept))
    handed_means part w y at means =
        let was = node_of_unit B bs old fills peak u x p.was in
        subst (λ (q : Node B). Means part (state_of later new fills peak) (with_owed w u (w.owed u ++ promise_of part w u q (waiting_of (branch, kept)) ∷ []))) (same_some (sym was ∙ at))
        (means_promised part (state_of bs old fills peak) (state_of later new fills peak) w u stay (node_of bs old [] u x) (node_of later new [] u now) (waiting_of (branch, kept)) (waiting_with (later u) (waits_in (without_first x.work)))
        was (node_of_unit B later new fills peak u now now_there) waiting_then node_then means)

    -- the part is handed out
    pub hands_out : IsTable new [] → IsTable new (cursors_in kept) → ((i : ℕ) (s : Sound) → slice_get kept i ≡ Some s → IsKept new s) → HandsOut (state_of bs old fills peak) (state_of later new fills peak) u branch kept
    hands_out none table each = record {
      unit = node_of bs old [] u x;
      was = node_of_unit B bs old fills peak u x p.was;
      rest = waiting_with (later u) (waits_in (without_first x.work));
      waits = waiting_then;
      heap = (handed_is none table each).1;
    }

    -- branches are left for what still waits
    pub have_later : HaveBranches bs old → HaveBranches later new
    have_later have w z is = elim (cases_eq w u) [
      | inl e ↦
          let same : now ≡ z = same_some (sym now_there ∙ sym (ap (unit_at new) e) ∙ is) in
          omega (arith, have u x p.was, ap length p.first, ap length mine, ap (λ (q : UnitData). length (waits_in q.work)) same, ap (λ k. length (later k)) e)
      | inr ne ↦ omega (arith, have w z (sym (else_there w ne) ∙ is), ap length (others w ne))
    ]
