-- What work computes of what it reads.
use Rattle.std.proofs.Common.{◌≡◌, ℕ, zero, suc, ◌+◌, ◌-◌, ◌<◌, ◌≤◌, nat_eq, nat_le, cond, Bool, true, false, List, [], ◌∷◌, map, take, drop, get_or, Option, None, Some, Vec, Global, IsSomeAnd, refl, sym, ap, subst, ◌∙◌, arith, ℤ, pos}
use Rattle.std.specs.List.{range_with_len}
use Rattle.std.specs.Option.{ForSome, option_map_or}
use Rattle.std.proofs.lemmas.List.{drop-take}
use Rattle.std.proofs.lemmas.List.FromFn.{get_or-map-range_with_len}
use Rattle.ny_list.specs.Store.{StoreState, CursorState}
use Rattle.ny_list.specs.Reading.{Shows}
use Rattle.ny_list.proofs.IndexLemmas.{same_some, none_some}
use Rattle.ny_num.specs.Filters.{Coefficients, Recent, one_pole_value, one_pole_after, biquad_next, biquad_after, comb_after, comb_value, delayed}
use Rattle.ny_filters.specs.declared.filter.Filter.{Filter}
use Rattle.ny_filters.specs.declared.filter.Filter.TheVariants.{OnePole, Biquad, Comb}
use Rattle.ny_filters.specs.Filtering.{Memory, Pole, Poles, Line, Filtering, CanFilter, outputs_after, memory_after}
use Rattle.ny_units.specs.Inputs.{CanRead, ShowsInput, reader_of, heard_at}
use Rattle.ny_units.specs.Neighbours.{between}
use Rattle.ny_units.specs.Resamplings.{Resampling, CanResample, next_after, known}
use Rattle.ny_units.specs.declared.input.Source.{Source}
use Rattle.ny_units.specs.declared.input.Source.TheVariants.{Reader, Number}
use Rattle.ny_mix.specs.Mixes.{MixState, CanReadParts}
use Rattle.ny_heap.specs.declared.sound.Sound.{Sound}
use Rattle.ny_heap.specs.declared.work.Work.TheVariants.{Resample as ResampleWork, Filter as FilterWork}
use Rattle.ny_heap.specs.Work.{ShowsAll, MovesOn, Recalls, heard_in, seen_in, known_in, work_value}
use Rattle.ny_heap.proofs.FirstLemmas.{some_and}

-- what can be read can be read, with its end written in another way
pub read_to : (s : StoreState) (a : Source) (start from n : ℕ) → CanRead s a (start + from) (start + (from + n)) → CanRead s a (start + from) (start + from + n)
read_to s a start from n can =
    let e : start + (from + n) ≡ start + from + n = omega arith in
    subst (λ end. CanRead s a (start + from) end) e can

-- so of the parts of a mix
pub parts_to : (s : StoreState) (m : MixState (Vec Sound Global)) (from n : ℕ) → CanReadParts s m.parts (m.timing.start + from) (m.timing.start + (from + n)) → CanReadParts s m.parts (m.timing.start + from) (m.timing.start + from + n)
parts_to s m from n can =
    let e : m.timing.start + (from + n) ≡ m.timing.start + from + n = omega arith in
    subst (λ end. CanReadParts s m.parts (m.timing.start + from) end) e can

same_cursor : {c d : CursorState} → Some c ≡ Some d → c ≡ d
same_cursor q = cc

-- what the lists show, the input's list does
pub shows_input : (s : StoreState) (whole : ℕ → List ℤ) (a : Source) → ShowsAll s whole → ShowsInput s a (whole (option_map_or (λ c. c.list) (reader_of a) 0))
shows_input s whole (Reader None start) shows = λ c is. absurd cc
shows_input s whole (Reader (Some d) start) shows = λ c is. subst (λ k. Rattle.ny_list.specs.Reading.Shows s k.list (whole d.list)) (same_cursor is) (shows d.list)
shows_input s whole (Number value) shows = tt

-- sample k of a run from `from` on, where the run was counted from another place
pub sample_of : (f : ℕ → ℤ) (start from n k : ℕ) (out : List ℤ) → out ≡ map f (range_with_len (start + from) n) → k < n → get_or out k (pos 0) ≡ f (start + (from + k))
sample_of f start from n k out is h = ap (λ xs. get_or xs k (pos 0)) is ∙ get_or-map-range_with_len f (start + from) n k (start + (from + k)) (pos 0) h (omega arith)

-- so counted from its own
pub sample_at : (f : ℕ → ℤ) (from n k : ℕ) (out : List ℤ) → out ≡ map f (range_with_len from n) → k < n → get_or out k (pos 0) ≡ f (from + k)
sample_at f from n k out is h = ap (λ xs. get_or xs k (pos 0)) is ∙ get_or-map-range_with_len f from n k (from + k) (pos 0) h refl

-- ---- filters

taken_less : (n k : ℕ) (xs : List ℤ) → n ≤ k → take n (take k xs) ≡ take n xs
taken_less zero k xs less = refl
taken_less (suc n) k [] less = ap (take (suc n)) (none k)
  where
    none : (k : ℕ) → take {A = ℤ} k [] ≡ []
    none zero = refl
    none (suc k) = refl
taken_less (suc n) zero (x ∷ xs) less = absurd (omega (arith, less))
taken_less (suc n) (suc k) (x ∷ xs) less = ap (λ ys. x ∷ ys) (taken_less n k xs (omega (arith, less)))

-- a slice of what is seen of a list is that of the list
pub slice_seen : (visible from n : ℕ) (xs : List ℤ) → from + n ≤ visible → take n (drop from (take visible xs)) ≡ take n (drop from xs)
slice_seen visible from n xs within =
    sym (drop-take from n (take visible xs)) ∙ ap (drop from) (taken_less (from + n) visible xs within) ∙ drop-take from n xs

pole_front : (a y1 : ℤ) (xs : List ℤ) (n k : ℕ) → k < n → get_or (one_pole_after a y1 (take n xs)) k (pos 0) ≡ get_or (one_pole_after a y1 xs) k (pos 0)
pole_front a y1 xs zero k less = absurd (omega (arith, less))
pole_front a y1 [] (suc n) k less = refl
pole_front a y1 (x ∷ xs) (suc n) zero less = refl
pole_front a y1 (x ∷ xs) (suc n) (suc k) less = pole_front a (one_pole_value a y1 x) xs n k (omega (arith, less))

biquad_front : (c : Coefficients) (r : Recent) (xs : List ℤ) (n k : ℕ) → k < n → get_or (biquad_after c r (take n xs)) k (pos 0) ≡ get_or (biquad_after c r xs) k (pos 0)
biquad_front c r xs zero k less = absurd (omega (arith, less))
biquad_front c r [] (suc n) k less = refl
biquad_front c r (x ∷ xs) (suc n) zero less = refl
biquad_front c r (x ∷ xs) (suc n) (suc k) less = biquad_front c (biquad_next c r x) xs n k (omega (arith, less))

comb_front : (delay : ℕ) (gain : ℤ) (os xs : List ℤ) (n k : ℕ) → k < n → get_or (comb_after delay gain os (take n xs)) k (pos 0) ≡ get_or (comb_after delay gain os xs) k (pos 0)
comb_front delay gain os xs zero k less = absurd (omega (arith, less))
comb_front delay gain os [] (suc n) k less = refl
comb_front delay gain os (x ∷ xs) (suc n) zero less = refl
comb_front delay gain os (x ∷ xs) (suc n) (suc k) less = comb_front delay gain (comb_value gain (delayed delay os) x ∷ os) xs n k (omega (arith, less))

-- an output takes of the inputs those up to its own
pub front_is : (f : Filter) (m : Memory) (xs : List ℤ) (n k : ℕ) → k < n → get_or (outputs_after f m (take n xs)) k (pos 0) ≡ get_or (outputs_after f m xs) k (pos 0)
front_is (OnePole a) (Pole y1) xs n k less = pole_front a y1 xs n k less
front_is (Biquad b0 b1 b2 a1 a2) (Poles r) xs n k less = biquad_front (record { b0 = b0; b1 = b1; b2 = b2; a1 = a1; a2 = a2 }) r xs n k less
front_is (Comb delay gain) (Line os) xs n k less = comb_front delay gain os xs n k less
front_is (OnePole a) (Poles r) xs n k less = refl
front_is (OnePole a) (Line os) xs n k less = refl
front_is (Biquad b0 b1 b2 a1 a2) (Pole y1) xs n k less = refl
front_is (Biquad b0 b1 b2 a1 a2) (Line os) xs n k less = refl
front_is (Comb delay gain) (Pole y1) xs n k less = refl
front_is (Comb delay gain) (Poles r) xs n k less = refl

module _ (s : StoreState) (whole : ℕ → List ℤ) (shows : ShowsAll s whole) (u : Filtering) (start from n : ℕ) (can : IsSomeAnd u.reader (λ c. CanFilter s c from (from + n))) where
  -- what a filter reads of its list is what is seen there
  seen_slice : (c : CursorState) → u.reader ≡ Some c → CanFilter s c from (from + n) → take n (drop from (whole c.list)) ≡ take n (drop from (seen_in whole u.reader))
  seen_slice c is can = sym (ap (λ o. take n (drop from (seen_in whole o))) is ∙ slice_seen c.visible from n (whole c.list) can.seen)

  own_place : (k : ℕ) → k ≡ from + k - from
  own_place k = omega arith

  pub filter_sample : (k : ℕ) (out : List ℤ) → ForSome u.reader (λ c. (xs : List ℤ) → Shows s c.list xs → out ≡ outputs_after u.filter u.memory (take n (drop from xs))) → k < n
      → get_or out k (pos 0) ≡ work_value (FilterWork u start) whole from (from + k)
  filter_sample k out given inside =
      let c = some_and _ _ can in
      let own : k ≡ from + k - from = own_place k in
      ap (λ xs. get_or xs k (pos 0)) (given c.0 c.1 (whole c.0.list) (shows c.0.list))
      ∙ ap (λ ys. get_or (outputs_after u.filter u.memory ys) k (pos 0)) (seen_slice c.0 c.1 c.2)
      ∙ front_is u.filter u.memory (drop from (seen_in whole u.reader)) n k inside
      ∙ ap (λ i. get_or (outputs_after u.filter u.memory (drop from (seen_in whole u.reader))) i (pos 0)) own

  pub filter_recalls : (v : Filtering) → ForSome u.reader (λ c. (xs : List ℤ) → Shows s c.list xs → v.memory ≡ memory_after u.filter u.memory (take n (drop from xs)))
      → Recalls (FilterWork u start) (FilterWork v start) whole from n
  filter_recalls v kept =
      let c = some_and _ _ can in
      kept c.0 c.1 (whole c.0.list) (shows c.0.list) ∙ ap (memory_after u.filter u.memory) (seen_slice c.0 c.1 c.2)

pub filter_moves : (u v : Filtering) (start n : ℕ) → v.filter ≡ u.filter → v.reader ≡ u.reader → MovesOn (FilterWork u start) (FilterWork v start) n
filter_moves u v start n filter reader = (v.memory, λ i. FilterWork (record { filter = filter i; reader = reader i; memory = v.memory }) start)

-- ---- resamplings

heard_none : (start len m : ℕ) → heard_at start (take len []) m ≡ pos 0
heard_none start len m = ap (λ xs. heard_at start xs m) (none len) ∙ by (nat_le start m) (m - start)
  where
    none : (k : ℕ) → take {A = ℤ} k [] ≡ []
    none zero = refl
    none (suc k) = refl

    by : (b : Bool) (k : ℕ) → cond {A = ℤ} b (get_or [] k (pos 0)) (pos 0) ≡ pos 0
    by false k = refl
    by true zero = refl
    by true (suc k) = refl

-- a list that shows what is read, and what is heard of it
abbrev pub HeardOf : StoreState → (ℕ → List ℤ) → Resampling → Type 0
HeardOf s whole u = (xs : List ℤ) × ForSome u.reader (λ c. Shows s c.list xs) × ((m : ℕ) → heard_at u.from.start (take u.from.len xs) m ≡ heard_in whole (Reader u.reader u.from.start) m)

heard_of : (s : StoreState) (whole : ℕ → List ℤ) (u : Resampling) (end : ℕ) → ShowsAll s whole → ForSome u.reader (λ c. CanResample s u c end) → HeardOf s whole u
heard_of s whole u end shows can = by u.reader refl
  where
    by : (o : Option CursorState) → u.reader ≡ o → HeardOf s whole u
    by None e = ([], (λ c is. absurd (none_some (sym e ∙ is))), (λ m. heard_none u.from.start u.from.len m ∙ sym (ap (λ p. heard_in whole (Reader p u.from.start) m) e)))
    by (Some d) e = (
      whole d.list,
      (λ c is. subst (λ (k : CursorState). Shows s k.list (whole d.list)) (same_some (sym e ∙ is)) (shows d.list)),
      (λ m. ap (λ n. heard_at u.from.start (take n (whole d.list)) m) (sym (can d e).seen) ∙ sym (ap (λ p. heard_in whole (Reader p u.from.start) m) e)),
    )

known_same : (whole : ℕ → List ℤ) (u : Resampling) (xs : List ℤ) → ((m : ℕ) → heard_at u.from.start (take u.from.len xs) m ≡ heard_in whole (Reader u.reader u.from.start) m) → (p : ℕ) → known u xs p ≡ known_in whole u p
known_same whole u xs same p = ap (λ v. cond {A = ℤ} (nat_eq (p + 2) (next_after u.from u.to u.given)) u.before (cond {A = ℤ} (nat_eq (p + 1) (next_after u.from u.to u.given)) u.after v)) (same p)

module _ (s : StoreState) (whole : ℕ → List ℤ) (shows : ShowsAll s whole) (u : Resampling) (from n : ℕ) (can : ForSome u.reader (λ c. CanResample s u c (from + n))) where
  heard : HeardOf s whole u
  heard = heard_of s whole u (from + n) shows can

  pub resample_sample : (k : ℕ) (out : List ℤ)
      → ((xs : List ℤ) → ForSome u.reader (λ c. Shows s c.list xs) → out ≡ map (between u.from.rate u.to.rate (known u xs)) (range_with_len (u.to.start + from) n)) → k < n
      → get_or out k (pos 0) ≡ work_value (ResampleWork u) whole from (from + k)
  resample_sample k out given inside =
      sample_of (between u.from.rate u.to.rate (known u heard.0)) u.to.start from n k out (given heard.0 heard.1) inside
      ∙ (λ i. between u.from.rate u.to.rate (λ p. known_same whole u heard.0 heard.2 p i) (u.to.start + (from + k)))

  pub resample_recalls : (v : Resampling)
      → ((xs : List ℤ) → ForSome u.reader (λ c. Shows s c.list xs) → (p : ℕ) → p + 2 ≡ next_after v.from v.to v.given → v.before ≡ known u xs p)
      → ((xs : List ℤ) → ForSome u.reader (λ c. Shows s c.list xs) → (p : ℕ) → p + 1 ≡ next_after v.from v.to v.given → v.after ≡ known u xs p)
      → Recalls (ResampleWork u) (ResampleWork v) whole from n
  resample_recalls v before after = (
    (λ p is. before heard.0 heard.1 p is ∙ known_same whole u heard.0 heard.2 p),
    (λ p is. after heard.0 heard.1 p is ∙ known_same whole u heard.0 heard.2 p),
  )

pub resample_moves : (u v : Resampling) (n : ℕ) → v.from ≡ u.from → v.to ≡ u.to → v.reader ≡ u.reader → v.given ≡ n → MovesOn (ResampleWork u) (ResampleWork v) n
resample_moves u v n from to reader given =
    (v.before, v.after, λ i. ResampleWork (record { from = from i; to = to i; reader = reader i; before = v.before; after = v.after; given = given i }))
