-- What the parts of units that wait keep, and where the cursors of a unit stand.
use Rattle.std.proofs.Common.{◌≡◌, ◌⊎◌, inl, inr, ℕ, zero, suc, ◌+◌, ◌<◌, ◌≤◌, ◌&&◌, nat_eq, cond, List, [], ◌∷◌, ◌++◌, length, get_or, slice_get, Option, None, Some, IsSome, refl, sym, ap, subst, ◌∙◌, arith, length-set, ◌*◌}
use Rattle.std.specs.List.{sum_by}
use Rattle.std.specs.Option.{option_map, option_map_or}
use Rattle.std.proofs.lemmas.List.{length-drop}
use Rattle.std.proofs.lemmas.List.FromFn.{length-map-range_with_len}
use Rattle.std.proofs.lemmas.List.Sums.{sum_by-cons}
use Rattle.std.proofs.lemmas.Bool.{cases_eq, cases_lt, ne_eqb}
use Rattle.ny_list.specs.Store.{ListState, StoreState, CursorState, list_at}
use Rattle.ny_list.proofs.IndexLemmas.{same_some, none_some, tab_get}
use Rattle.ny_units.specs.Inputs.{reader_of}
use Rattle.ny_units.specs.declared.input.Source.{Source}
use Rattle.ny_mix.specs.Mixes.{part_at}
use Rattle.ny_heap.specs.declared.sound.Sound.{Sound}
use Rattle.ny_heap.specs.declared.table.Unit.{Unit as UnitData}
use Rattle.ny_heap.specs.declared.table.Table.{Table}
use Rattle.ny_heap.specs.declared.work.Work.{Work}
use Rattle.ny_heap.specs.declared.work.Work.TheVariants.{Leaf as LeafWork, Pair as PairWork, Abs as AbsWork, Resample as ResampleWork, Filter as FilterWork, Mix as MixWork, Channel as ChannelWork}
use Rattle.ny_heap.specs.Heap.{Reader, is_reader, stands_in}
use Rattle.ny_heap.specs.Work.{source_at, with_source, cursor_at, waits_in, flat, kept_in, without_first, HasPlaces, cursors_of_sounds, MovesOn}
use Rattle.ny_heap.specs.Table.{timing_at, input_of, readers_of, own_of, len_of, stands_at, IsKept}
use Rattle.ny_heap.specs.View.{filled_in}

pub filled_is : (s : StoreState) (v : ℕ) (l : ListState) → list_at s v ≡ Some l → filled_in s v ≡ length l.values
filled_is s v l is = ap (λ (o : Option ListState). option_map_or {U = ℕ} (λ x. length x.values) o 0) is

-- as many samples lie before a stop where as many blocks of one size are filled
pub still_timely : (start m n b d last : ℕ) → n ≡ m → d ≡ b → start + m * b ≤ last → start + n * d ≤ last
still_timely start m n b d last filled block before = subst (λ (k : ℕ × ℕ). start + k.0 * k.1 ≤ last) (λ i. (sym filled i, sym block i)) before

-- ---- by the work

-- another input keeps the same
pub waits_wired : (w : Work) (i : ℕ) (s : Source) → waits_in (with_source w i s) ≡ waits_in w
waits_wired (LeafWork p) i s = refl
waits_wired (PairWork p a b) i s = refl
waits_wired (AbsWork t) i s = refl
waits_wired (ResampleWork r) i s = refl
waits_wired (FilterWork f start) i s = refl
waits_wired (MixWork m) i s = refl
waits_wired (ChannelWork p) i s = refl

pub kept_wired : (w : Work) (i : ℕ) (s : Source) → kept_in (with_source w i s) ≡ kept_in w
kept_wired w i s = ap flat (waits_wired w i s)

pub places_wired : (w : Work) (i : ℕ) (s : Source) (n : ℕ) → HasPlaces w n → HasPlaces (with_source w i s) n
places_wired (LeafWork p) i s n is = is
places_wired (PairWork p a b) i s n is = is
places_wired (AbsWork t) i s n is = is
places_wired (ResampleWork r) i s n is = is
places_wired (FilterWork f start) i s n is = is
places_wired (MixWork m) i s n is = omega (arith, is, length-set m.parts i (record (part_at m.parts i) { cursor = reader_of s }))
places_wired (ChannelWork p) i s n is = is

-- so does work that has moved on
pub waits_on : (w v : Work) (n : ℕ) → MovesOn w v n → waits_in v ≡ waits_in w
waits_on (LeafWork p) v n m = ap waits_in m
waits_on (PairWork p a b) v n m = ap waits_in m
waits_on (AbsWork s) v n m = ap waits_in m
waits_on (ResampleWork r) v n m = ap waits_in m.2
waits_on (FilterWork f start) v n m = ap waits_in m.1
waits_on (MixWork x) v n m = ap waits_in m
waits_on (ChannelWork p) v n m = ap waits_in m

pub places_on : (w v : Work) (n k : ℕ) → MovesOn w v n → HasPlaces w k → HasPlaces v k
places_on (LeafWork p) v n k m h = subst (λ z. HasPlaces z k) (sym m) h
places_on (PairWork p a b) v n k m h = subst (λ z. HasPlaces z k) (sym m) h
places_on (AbsWork s) v n k m h = subst (λ z. HasPlaces z k) (sym m) h
places_on (ResampleWork r) v n k m h = subst (λ z. HasPlaces z k) (sym m.2) h
places_on (FilterWork f start) v n k m h = subst (λ z. HasPlaces z k) (sym m.1) h
places_on (MixWork x) v n k m h = subst (λ z. HasPlaces z k) (sym m) h
places_on (ChannelWork p) v n k m h = subst (λ z. HasPlaces z k) (sym m) h

-- without its first part that waits it reads the same
pub source_first : (w : Work) (k : ℕ) → source_at (without_first w) k ≡ source_at w k
source_first (LeafWork p) k = refl
source_first (PairWork p a b) k = refl
source_first (AbsWork s) k = refl
source_first (ResampleWork r) k = refl
source_first (FilterWork f start) k = refl
source_first (MixWork m) k = refl
source_first (ChannelWork p) k = refl

pub cursor_first : (w : Work) (k : ℕ) → cursor_at (without_first w) k ≡ cursor_at w k
cursor_first w k = ap reader_of (source_first w k)

pub places_first : (w : Work) (n : ℕ) → HasPlaces w n → HasPlaces (without_first w) n
places_first (LeafWork p) n is = is
places_first (PairWork p a b) n is = is
places_first (AbsWork s) n is = is
places_first (ResampleWork r) n is = is
places_first (FilterWork f start) n is = is
places_first (MixWork m) n is = omega (arith, is, length-drop 1 m.waiting)
places_first (ChannelWork p) n is = is

-- ---- lists of sounds

-- what stands behind some others stands in the whole
pub get_behind : {A : Type 0} (xs ys : List A) (i : ℕ) (y : A) → slice_get ys i ≡ Some y → (j : ℕ) × (slice_get (xs ++ ys) j ≡ Some y)
get_behind [] ys i y is = (i, is)
get_behind (x ∷ xs) ys i y is = let r = get_behind xs ys i y is in (suc r.0, r.1)

pub get_before : {A : Type 0} (xs ys : List A) (i : ℕ) (x : A) → slice_get xs i ≡ Some x → slice_get (xs ++ ys) i ≡ Some x
get_before [] ys i x is = absurd (none_some is)
get_before (z ∷ xs) ys zero x is = is
get_before (z ∷ xs) ys (suc i) x is = get_before xs ys i x is

-- the cursor of a sound stands where the sound does
pub kept_at : (ss : List Sound) (i : ℕ) (s : Sound) → slice_get ss i ≡ Some s → get_or (cursors_of_sounds ss) i None ≡ s.reader
kept_at [] i s is = absurd (none_some is)
kept_at (x ∷ ss) zero s is = ap (λ (q : Sound). q.reader) (same_some is)
kept_at (x ∷ ss) (suc i) s is = kept_at ss i s is

pub cursor_kept : (ss : List Sound) (i : ℕ) (c : CursorState) → get_or (cursors_of_sounds ss) i None ≡ Some c → (s : Sound) × (slice_get ss i ≡ Some s) × (s.reader ≡ Some c)
cursor_kept [] i c is = absurd (none_some is)
cursor_kept (s ∷ ss) zero c is = (s, refl, is)
cursor_kept (s ∷ ss) (suc i) c is = cursor_kept ss i c is

-- ---- sums

-- a sum that is not 0 has a term that is not
pub some_term : {A : Type 0} (f : A → ℕ) (d : A) (xs : List A) → 0 < sum_by f xs → (k : ℕ) × (k < length xs) × (0 < f (get_or xs k d))
some_term f d [] some = absurd (omega (arith, some))
some_term f d (x ∷ xs) some = elim (cases_lt 0 (f x)) [
  | inl here ↦ (0, omega arith, here)
  | inr none ↦ later (some_term f d xs (omega (arith, some, none, sum_by-cons f x xs)))
]
  where
    later : ((k : ℕ) × (k < length xs) × (0 < f (get_or xs k d))) → (k : ℕ) × (k < length (x ∷ xs)) × (0 < f (get_or (x ∷ xs) k d))
    later k = (suc k.0, omega (arith, k.1), k.2)

-- a reader that counts in a list reads it
pub reads_there : (block len v j : ℕ) (o : Option Reader) → 0 < is_reader block len v j o → (r : Reader) × (o ≡ Some r) × (r.node ≡ v)
reads_there block len v j None some = absurd (omega (arith, some))
reads_there block len v j (Some r) some = elim (cases_eq r.node v) [
  | inl e ↦ (r, refl, e)
  | inr ne ↦ absurd (omega (arith, some, ap (λ b. cond {A = ℕ} (b && nat_eq (stands_in block len r.place) j) 1 0) (ne_eqb r.node v ne)))
]

pub stands_there : (block len v j : ℕ) (o : Option CursorState) → 0 < stands_at block len v j o → (c : CursorState) × (o ≡ Some c) × (c.list ≡ v)
stands_there block len v j None some = absurd (omega (arith, some))
stands_there block len v j (Some c) some = elim (cases_eq c.list v) [
  | inl e ↦ (c, refl, e)
  | inr ne ↦ absurd (omega (arith, some, ap (λ b. cond {A = ℕ} (b && nat_eq (stands_in block len c.place) j) 1 0) (ne_eqb c.list v ne)))
]

-- ---- where the cursors of a unit stand

-- a cursor of a unit: of what it reads, or of what its parts that wait keep
abbrev pub HoldsCursor : UnitData → CursorState → Type 0
HoldsCursor x c = ((i : ℕ) × (i < length x.inputs.items) × (cursor_at x.work i ≡ Some c)) ⊎ ((i : ℕ) × (s : Sound) × (slice_get (kept_in x.work) i ≡ Some s) × (s.reader ≡ Some c))

input_holds : (x : UnitData) (k : ℕ) (r : Reader) → k < length x.inputs.items → get_or (readers_of x) k None ≡ Some r → (c : CursorState) × (c.list ≡ r.node) × HoldsCursor x c
input_holds x k r inside is = by (cursor_at x.work k) refl
  where
    seen : Option CursorState → Option Reader
    seen o = option_map {U = Reader} (λ d. record { node = d.list; place = d.place; timing = timing_at x k }) o

    at : seen (cursor_at x.work k) ≡ Some r
    at = sym (tab_get (input_of x) (length x.inputs.items) k None inside) ∙ is

    by : (o : Option CursorState) → cursor_at x.work k ≡ o → (c : CursorState) × (c.list ≡ r.node) × HoldsCursor x c
    by None e = absurd (none_some (sym (ap seen e) ∙ at))
    by (Some c) e = (c, ap (λ (q : Reader). q.node) (same_some (sym (ap seen e) ∙ at)), inl (k, inside, e))

-- what a unit counts in a list has a cursor there
pub unit_uses : (block len v j : ℕ) (o : Option UnitData) → 0 < option_map_or {U = ℕ} (own_of block len v j) o 0 → (x : UnitData) × (c : CursorState) × (o ≡ Some x) × (c.list ≡ v) × HoldsCursor x c
unit_uses block len v j None some = absurd (omega (arith, some))
unit_uses block len v j (Some x) some = elim (cases_lt 0 (sum_by (is_reader block len v j) (readers_of x))) [
  | inl reads ↦
      let k = some_term (is_reader block len v j) None (readers_of x) reads in
      let r = reads_there block len v j (get_or (readers_of x) k.0 None) k.2 in
      let inside : k.0 < length x.inputs.items = omega (arith, k.1, length-map-range_with_len (input_of x) 0 (length x.inputs.items)) in
      let c = input_holds x k.0 r.0 inside r.1 in
      (x, c.0, refl, c.1 ∙ r.2, c.2)
  | inr none ↦
      let k = some_term (stands_at block len v j) None (cursors_of_sounds (kept_in x.work)) (omega (arith, some, none)) in
      let c = stands_there block len v j (get_or (cursors_of_sounds (kept_in x.work)) k.0 None) k.2 in
      let s = cursor_kept (kept_in x.work) k.0 c.0 c.1 in
      (x, c.0, refl, c.2, inr (k.0, s.0, s.1, s.2))
]

-- ---- a sound that a part keeps

-- it is kept in another table where its list is there, as long
pub IsKept-to : (old new : Table) (s : Sound) → ((c : CursorState) → s.reader ≡ Some c → IsSome (list_at old.store c.list) → IsSome (list_at new.store c.list) × (len_of new.store c.list ≡ len_of old.store c.list)) → IsKept old s → IsKept new s
IsKept-to old new s stays k = record {
  bounds = k.bounds;
  none = k.none;
  some = λ c is.
      let h = k.some c is in
      let n = stays c is h.0 in
      (n.0, record { begins = h.1.begins; some = h.1.some; visible = subst (λ m. s.timing.len ≤ m) (sym n.1) h.1.visible });
}
