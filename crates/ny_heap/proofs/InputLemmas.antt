-- Another cursor in one input of a unit's work.
use Rattle.std.proofs.Common.{◌≡◌, ◌≢◌, inl, inr, [], ◌∷◌, ℕ, zero, suc, ◌+◌, ◌<◌, List, length, set, Option, None, Some, refl, sym, ap, subst, ◌∙◌, arith, length-set}
use Rattle.std.specs.List.{sum_by}
use Rattle.std.proofs.lemmas.Bool.{cases_eq}
use Rattle.std.specs.Option.{option_map, option_map_or}
use Rattle.std.proofs.lemmas.List.Sums.{sum_by-set}
use Rattle.std.proofs.lemmas.List.FromFn.{length-map-range_with_len}
use Rattle.ny_num.specs.declared.timing.Timing.{Timing}
use Rattle.ny_list.specs.Store.{CursorState}
use Rattle.ny_list.proofs.IndexLemmas.{none_some, tab_get, tab_set}
use Rattle.ny_units.specs.Inputs.{reader_of, start_of, taken_of, with_reader, IsReader}
use Rattle.ny_units.specs.declared.input.Source.{Source}
use Rattle.ny_units.specs.declared.input.Source.TheVariants.{Reader as ListSource, Number}
use Rattle.ny_mix.specs.declared.part.Part.{Part}
use Rattle.ny_mix.specs.Mixes.{part_at}
use Rattle.ny_heap.specs.declared.table.Unit.{Unit as UnitData}
use Rattle.ny_heap.specs.declared.table.Table.{Table}
use Rattle.ny_heap.specs.declared.work.Work.{Work}
use Rattle.ny_heap.specs.declared.work.Work.TheVariants.{Leaf as LeafWork, Pair as PairWork, Abs as AbsWork, Resample as ResampleWork, Filter as FilterWork, Mix as MixWork, Channel as ChannelWork}
use Rattle.ny_heap.specs.Heap.{Reader, is_reader}
use Rattle.ny_heap.specs.Work.{kind_of, inputs_in, memory_in, source_at, with_source, cursor_at, without_cursor_at, with_cursor_at, cursors_of_sounds, HasGiven}
use Rattle.ny_heap.specs.Tasks.{IsSide, HasSides, BeginsAt, BringsFrom, Hears}
use Rattle.ny_heap.specs.Table.{unit_at, timing_at, input_of, readers_of, own_of, own_in, len_of, stands_at}
use Rattle.ny_heap.proofs.TableLemmas.{place_within}
use Rattle.ny_heap.proofs.PartLemmas.{part_here, part_else, part_twice}
use Rattle.ny_heap.proofs.KeepLemmas.{kept_wired}
use Rattle.ny_heap.proofs.RestLemmas.{same_mark}

-- ---- inputs

-- the same input but for its cursor
abbrev pub Like : Source → Source → Type 0
Like (ListSource c start) (ListSource d begins) = start ≡ begins
Like (Number a) (Number b) = a ≡ b
Like _ _ = ⊥

pub like_taken : (a : Source) → Like a (taken_of a)
like_taken (ListSource c start) = refl
like_taken (Number a) = refl

pub like_put : (a : Source) (c : CursorState) → Like a (with_reader a c)
like_put (ListSource d start) c = refl
like_put (Number a) c = refl

pub reader_taken : (a : Source) → reader_of (taken_of a) ≡ None
reader_taken (ListSource c start) = refl
reader_taken (Number a) = refl

pub reader_put : (a : Source) (c : CursorState) → IsReader a → reader_of (with_reader a c) ≡ Some c
reader_put (ListSource d start) c is = refl
reader_put (Number a) c is = absurd is

-- taken, and put back
pub put_again : (a : Source) (c : CursorState) → with_reader (taken_of a) c ≡ with_reader a c
put_again (ListSource d start) c = refl
put_again (Number a) c = refl

pub reads_source : (a : Source) (c : CursorState) → reader_of a ≡ Some c → IsReader a
reads_source (ListSource d start) c is = tt
reads_source (Number a) c is = absurd (none_some is)

like_start : (a b : Source) → Like a b → start_of b ≡ start_of a
like_start (ListSource c start) (ListSource d begins) like = sym like
like_start (ListSource c start) (Number b) like = absurd like
like_start (Number a) (ListSource d begins) like = absurd like
like_start (Number a) (Number b) like = refl

like_reads : (a b : Source) → Like a b → IsReader b → IsReader a
like_reads (ListSource c start) (ListSource d begins) like is = tt
like_reads (ListSource c start) (Number b) like is = absurd like
like_reads (Number a) (ListSource d begins) like is = absurd like
like_reads (Number a) (Number b) like is = absurd is

pub reads_taken : (a : Source) → IsReader a → IsReader (taken_of a)
reads_taken (ListSource c start) is = tt
reads_taken (Number a) is = absurd is

like_side : (a b : Source) → Like a b → IsSide None a → IsSide None b
like_side (ListSource c start) (ListSource d begins) like is = tt
like_side (ListSource c start) (Number b) like is = absurd like
like_side (Number a) (ListSource d begins) like is = absurd like
like_side (Number a) (Number b) like is = sym like ∙ is

-- ---- work

-- all of the work but its cursors is the same
pub record SameWork (w new : Work) (t : Timing) (ts : List Timing) : Type 0 where
  pub kind : kind_of new ≡ kind_of w
  pub memory : memory_in new ≡ memory_in w
  pub count : inputs_in new ≡ inputs_in w
  pub sides : HasSides w → HasSides new
  pub begins : BeginsAt w t → BeginsAt new t
  pub brings : BringsFrom w ts → BringsFrom new ts
  pub hears : Hears w t ts → Hears new t ts
  pub given : (len n : ℕ) → HasGiven w len n → HasGiven new len n

pub same_work : (w : Work) (i : ℕ) (s : Source) (t : Timing) (ts : List Timing) → i < inputs_in w → Like (source_at w i) s → SameWork w (with_source w i s) t ts
same_work (LeafWork p) i s t ts inside like = absurd (omega (arith, inside))
same_work (PairWork p (Some a) (Some b)) i s t ts inside like = absurd (omega (arith, inside))
same_work (PairWork p (Some a) None) zero s t ts inside like = record { kind = refl; memory = refl; count = refl; sides = λ is. (is.0, like_side p.right s like is.1); begins = λ is. is; brings = λ is. is; hears = λ is. is; given = λ len n is. is }
same_work (PairWork p (Some a) None) (suc i) s t ts inside like = absurd (omega (arith, inside))
same_work (PairWork p None (Some b)) zero s t ts inside like = record { kind = refl; memory = refl; count = refl; sides = λ is. (like_side p.left s like is.0, is.1); begins = λ is. is; brings = λ is. is; hears = λ is. is; given = λ len n is. is }
same_work (PairWork p None (Some b)) (suc i) s t ts inside like = absurd (omega (arith, inside))
same_work (PairWork p None None) zero s t ts inside like = record { kind = refl; memory = refl; count = refl; sides = λ is. (like_side p.left s like is.0, is.1); begins = λ is. is; brings = λ is. is; hears = λ is. is; given = λ len n is. is }
same_work (PairWork p None None) (suc zero) s t ts inside like = record { kind = refl; memory = refl; count = refl; sides = λ is. (is.0, like_side p.right s like is.1); begins = λ is. is; brings = λ is. is; hears = λ is. is; given = λ len n is. is }
same_work (PairWork p None None) (suc (suc i)) s t ts inside like = absurd (omega (arith, inside))
same_work (AbsWork a) i s t ts inside like = record { kind = refl; memory = refl; count = refl; sides = λ is. like_side a s like is; begins = λ is. like_start a s like ∙ is; brings = λ is. is; hears = λ is. is; given = λ len n is. is }
same_work (ResampleWork r) i s t ts inside like = record { kind = refl; memory = refl; count = refl; sides = λ is. is; begins = λ is. is; brings = brought ts; hears = λ is. is; given = λ len n is. is }
  where
    brought : (ts : List Timing) → BringsFrom (ResampleWork r) ts → BringsFrom (with_source (ResampleWork r) i s) ts
    brought [] is = is
    brought (t ∷ ts) is = is
same_work (FilterWork f start) i s t ts inside like = record { kind = refl; memory = refl; count = refl; sides = λ is. is; begins = λ is. is; brings = λ is. is; hears = heard ts; given = λ len n is. is }
  where
    heard : (ts : List Timing) → Hears (FilterWork f start) t ts → Hears (with_source (FilterWork f start) i s) t ts
    heard [] is = is
    heard (k ∷ ks) is = is
same_work (MixWork m) i s t ts inside like = record { kind = refl; memory = refl; count = length-set m.parts i (record (part_at m.parts i) { cursor = reader_of s }); sides = λ is. is; begins = λ is. is; brings = λ is. is; hears = λ is. is; given = λ len n is. is }
same_work (ChannelWork p) i s t ts inside like = record { kind = refl; memory = refl; count = refl; sides = λ is. like_side p.input s like is; begins = λ is. is; brings = λ is. is; hears = λ is. is; given = λ len n is. is }

-- the input that changed
pub source_here : (w : Work) (i : ℕ) (s : Source) → i < inputs_in w → Like (source_at w i) s → source_at (with_source w i s) i ≡ s
source_here (LeafWork p) i s inside like = absurd (omega (arith, inside))
source_here (PairWork p (Some a) (Some b)) i s inside like = absurd (omega (arith, inside))
source_here (PairWork p (Some a) None) zero s inside like = refl
source_here (PairWork p (Some a) None) (suc i) s inside like = absurd (omega (arith, inside))
source_here (PairWork p None (Some b)) zero s inside like = refl
source_here (PairWork p None (Some b)) (suc i) s inside like = absurd (omega (arith, inside))
source_here (PairWork p None None) zero s inside like = refl
source_here (PairWork p None None) (suc zero) s inside like = refl
source_here (PairWork p None None) (suc (suc i)) s inside like = absurd (omega (arith, inside))
source_here (AbsWork a) i s inside like = refl
source_here (ResampleWork r) i (ListSource c start) inside like = ap (ListSource c) like
source_here (ResampleWork r) i (Number a) inside like = absurd like
source_here (FilterWork f start) i (ListSource c begins) inside like = ap (ListSource c) like
source_here (FilterWork f start) i (Number a) inside like = absurd like
source_here (MixWork m) i (ListSource c start) inside like = ap (λ (p : Part). ListSource p.cursor p.start) (part_here m.parts i c inside) ∙ ap (ListSource c) like
source_here (MixWork m) i (Number a) inside like = absurd like
source_here (ChannelWork p) i s inside like = refl

-- and the others
pub source_other : (w : Work) (i k : ℕ) (s : Source) → i < inputs_in w → k < inputs_in w → k ≢ i → source_at (with_source w i s) k ≡ source_at w k
source_other (LeafWork p) i k s inside within ne = refl
source_other (PairWork p (Some a) (Some b)) i k s inside within ne = absurd (omega (arith, inside))
source_other (PairWork p (Some a) None) i k s inside within ne = absurd (ne (omega (arith, inside, within)))
source_other (PairWork p None (Some b)) i k s inside within ne = absurd (ne (omega (arith, inside, within)))
source_other (PairWork p None None) zero zero s inside within ne = absurd (ne refl)
source_other (PairWork p None None) zero (suc zero) s inside within ne = refl
source_other (PairWork p None None) zero (suc (suc k)) s inside within ne = absurd (omega (arith, within))
source_other (PairWork p None None) (suc zero) zero s inside within ne = refl
source_other (PairWork p None None) (suc zero) (suc k) s inside within ne = absurd (omega (arith, within, ne))
source_other (PairWork p None None) (suc (suc i)) k s inside within ne = absurd (omega (arith, inside))
source_other (AbsWork a) i k s inside within ne = absurd (ne (omega (arith, inside, within)))
source_other (ResampleWork r) i k s inside within ne = absurd (ne (omega (arith, inside, within)))
source_other (FilterWork f start) i k s inside within ne = absurd (ne (omega (arith, inside, within)))
source_other (MixWork m) i k s inside within ne = ap (λ (p : Part). ListSource p.cursor p.start) (part_else m.parts i k (reader_of s) ne)
source_other (ChannelWork p) i k s inside within ne = absurd (ne (omega (arith, inside, within)))

-- twice in one place
source_twice : (w : Work) (i : ℕ) (a b : Source) → i < inputs_in w → with_source (with_source w i a) i b ≡ with_source w i b
source_twice (LeafWork p) i a b inside = refl
source_twice (PairWork p (Some c) (Some d)) i a b inside = absurd (omega (arith, inside))
source_twice (PairWork p (Some c) None) zero a b inside = refl
source_twice (PairWork p (Some c) None) (suc i) a b inside = absurd (omega (arith, inside))
source_twice (PairWork p None (Some d)) zero a b inside = refl
source_twice (PairWork p None (Some d)) (suc i) a b inside = absurd (omega (arith, inside))
source_twice (PairWork p None None) zero a b inside = refl
source_twice (PairWork p None None) (suc zero) a b inside = refl
source_twice (PairWork p None None) (suc (suc i)) a b inside = absurd (omega (arith, inside))
source_twice (AbsWork c) i a b inside = refl
source_twice (ResampleWork r) i a b inside = refl
source_twice (FilterWork f start) i a b inside = refl
source_twice (MixWork m) i a b inside = ap (λ parts. MixWork (record m { parts = parts })) (part_twice m.parts i (reader_of a) (reader_of b) inside)
source_twice (ChannelWork p) i a b inside = refl

-- a cursor that was taken is put back
pub put_back : (w : Work) (i : ℕ) (c : CursorState) → i < inputs_in w → with_cursor_at (without_cursor_at w i) i c ≡ with_source w i (with_reader (source_at w i) c)
put_back w i c inside =
    ap (λ a. with_source (without_cursor_at w i) i (with_reader a c)) (source_here w i (taken_of (source_at w i)) inside (like_taken (source_at w i)))
    ∙ ap (with_source (without_cursor_at w i) i) (put_again (source_at w i) c)
    ∙ source_twice w i (taken_of (source_at w i)) (with_reader (source_at w i) c) inside

module _ (w : Work) (i : ℕ) (s : Source) (inside : i < inputs_in w) (like : Like (source_at w i) s) where
  pub cursor_here : cursor_at (with_source w i s) i ≡ reader_of s
  cursor_here = ap reader_of (source_here w i s inside like)

  pub cursor_other : (k : ℕ) → k < inputs_in w → k ≢ i → cursor_at (with_source w i s) k ≡ cursor_at w k
  cursor_other k within ne = ap reader_of (source_other w i k s inside within ne)

  pub start_same : (k : ℕ) → k < inputs_in w → start_of (source_at (with_source w i s) k) ≡ start_of (source_at w k)
  start_same k within = elim (cases_eq k i) [
    | inl e ↦
        ap (λ j. start_of (source_at (with_source w i s) j)) e ∙ ap start_of (source_here w i s inside like) ∙ like_start (source_at w i) s like ∙ sym (ap (λ j. start_of (source_at w j)) e)
    | inr ne ↦ ap start_of (source_other w i k s inside within ne)
  ]

  pub reads_same : (k : ℕ) → k < inputs_in w → IsReader (source_at (with_source w i s) k) → IsReader (source_at w k)
  reads_same k within is = elim (cases_eq k i) [
    | inl e ↦
        subst (λ j. IsReader (source_at w j)) (sym e)
        (like_reads (source_at w i) s like (subst IsReader (source_here w i s inside like) (subst (λ j. IsReader (source_at (with_source w i s) j)) e is)))
    | inr ne ↦ subst IsReader (source_other w i k s inside within ne) is
  ]

-- ---- a unit's cursors

module _ (x : UnitData) (i : ℕ) (s : Source) (count : length x.inputs.items ≡ inputs_in x.work) (inside : i < inputs_in x.work) (like : Like (source_at x.work i) s) where
  abbrev pub rewired : UnitData
  rewired = record x { work = with_source x.work i s }

  rewired_here : input_of rewired i ≡ option_map {U = Reader} (λ c. record { node = c.list; place = c.place; timing = timing_at x i }) (reader_of s)
  rewired_here = ap (option_map {U = Reader} (λ c. record { node = c.list; place = c.place; timing = timing_at x i })) (cursor_here x.work i s inside like)

  rewired_other : (k : ℕ) → k < length x.inputs.items → k ≢ i → input_of rewired k ≡ input_of x k
  rewired_other k within ne = ap (option_map {U = Reader} (λ c. record { node = c.list; place = c.place; timing = timing_at x k })) (cursor_other x.work i s inside like k (omega (arith, within, count)) ne)

  -- one cursor in place of another
  own_rewired : (block len v j : ℕ) → own_of block len v j rewired + stands_at block len v j (cursor_at x.work i) ≡ own_of block len v j x + stands_at block len v j (reader_of s)
  own_rewired block len v j =
      let f = is_reader block len v j in
      let within : i < length (readers_of x) = omega (arith, inside, count, length-map-range_with_len (input_of x) 0 (length x.inputs.items)) in
      let all : set (readers_of x) i (input_of rewired i) ≡ readers_of rewired =
      tab_set (input_of x) (input_of rewired) (length x.inputs.items) i (input_of rewired i) None (omega (arith, inside, count)) refl rewired_other in
      omega (
        arith,
        ap (sum_by f) all,
        sum_by-set f (readers_of x) i (input_of rewired i) None within,
        ap f (tab_get (input_of x) (length x.inputs.items) i None (omega (arith, inside, count))),
        same_mark block len v j (timing_at x i) (cursor_at x.work i),
        ap f rewired_here,
        same_mark block len v j (timing_at x i) (reader_of s),
        ap (λ ks. sum_by (stands_at block len v j) (cursors_of_sounds ks)) (kept_wired x.work i s),
      )

  -- so of all units
  pub owns_rewired : (t new : Table) (u v j : ℕ) → unit_at t u ≡ Some x → new.units.items ≡ set t.units.items u (Some rewired) → new.block ≡ t.block → len_of new.store v ≡ len_of t.store v
      → own_in new v j + stands_at t.block (len_of t.store v) v j (cursor_at x.work i) ≡ own_in t v j + stands_at t.block (len_of t.store v) v j (reader_of s)
  owns_rewired t new u v j at units block len =
      let f = λ (o : Option UnitData). option_map_or {U = ℕ} (own_of t.block (len_of t.store v) v j) o 0 in
      let same : own_in new v j ≡ sum_by f (set t.units.items u (Some rewired)) =
      ap (λ b. sum_by (λ (o : Option UnitData). option_map_or {U = ℕ} (own_of b (len_of new.store v) v j) o 0) new.units.items) block
      ∙ ap (λ n. sum_by (λ (o : Option UnitData). option_map_or {U = ℕ} (own_of t.block n v j) o 0) new.units.items) len
      ∙ ap (sum_by f) units in
      omega (arith, same, sum_by-set f t.units.items u (Some rewired) None (place_within t.units.items u x at), ap f at, own_rewired t.block (len_of t.store v) v j)
