-- A slice of a resampling, run by run of its input.
use Rattle.std.proofs.Common.{◌≡◌, inl, inr, ℕ, nat_eq, ◌==◌, if◌then◌else◌, ◌+◌, ◌-◌, ◌*◌, ◌/◌, ◌%◌, ◌<◌, ◌≤◌, min, List, ◌++◌, length, map, take, drop, get_or, Option, Some, sym, ap, subst, ◌∙◌, append_assoc, arith, ℤ, pos}
use Rattle.std.specs.Int.{div_ceil}
use Rattle.std.specs.List.{range_with_len}
use Rattle.std.proofs.lemmas.Grind.{div_ceil_times}
use Rattle.std.proofs.lemmas.List.{take_all, drop_all, append-nil}
use Rattle.std.proofs.lemmas.Nat.{le-div, mul-le}
use Rattle.ny_num.specs.Grid.{grid_of}
use Rattle.ny_num.specs.Resampling.{index_between, other_rate_timing, interpolated}
use Rattle.ny_num.specs.Sound.{spanning, value_at}
use Rattle.ny_num.proofs.WrittenLists.{same_places}
use Rattle.ny_num.specs.declared.rate.Rate.{Rate}
use Rattle.ny_num.specs.declared.rate.Rate.TheVariants.{R2205, R4410, R8000, R11025, R16000, R22050, R32000, R44100, R48000}
use Rattle.std.specs.Option.{ForSome}
use Rattle.ny_list.specs.Store.{StoreState, CursorState}
use Rattle.ny_list.specs.Reading.{Shows}
use Rattle.ny_num.specs.declared.timing.Timing.{Timing}
use Rattle.ny_units.specs.declared.course.Course.{Course}
use Rattle.ny_units.specs.declared.course.Position.{Position}
use Rattle.ny_units.specs.declared.course.Window.{Window}
use Rattle.ny_units.specs.Courses.{on_way, IsCourse, IsPosition, IsWindow, Continues, IsStretch, place_at, course_value}
use Rattle.ny_units.specs.Inputs.{heard_at}
use Rattle.ny_units.specs.Neighbours.{between}
use Rattle.ny_units.specs.Resamplings.{Resampling, two_before, known, heard_sound, index_before, next_after, BeginsLater, CanTake}
use Rattle.ny_units.proofs.Pieces.{in_run, past_end, from_start, before_start}
use Rattle.ny_units.proofs.PartWritten.{places_joined}
use Rattle.ny_num.proofs.PartAdded.{part_added, drop_again}
use borrow.Rule.Slice.PartMut.{put_mid}
use Rattle.std.proofs.lemmas.Bool.{cases_lt, cases_eq, cond-true, cond-false, eq-eqb, ne_eqb}
use Rattle.std.proofs.lemmas.List.FromFn.{length-map-range_with_len}
use Rattle.std.proofs.Math.Nat.{div-mul-le_self}
use Rattle.std.proofs.Math.Seq.{drop-append_seam}
use Rattle.ny_list.specs.Steps.{IsComputed}
use Rattle.ny_units.specs.declared.stretch.Stretch.{Stretch}

-- the outputs so far and then what was there; where the next one lies, and the window at the last one
pub record RunsSoFar (c : Course) (s : StoreState) (reader : Option CursorState) (t : Timing) (first : Window) (m done : ℕ) (at : Position) (window : Window) (start out : List ℤ) : Type 0 where
  pub room : done ≤ length start
  pub position : IsPosition c at
  pub index : at.index ≡ m + done
  pub later : first.next ≤ window.next
  pub forward : window.next ≤ at.place + 2
  pub empty : length start ≡ 0 → window.next ≡ first.next
  pub last : done ≡ length start → 0 < length start → window.next ≡ place_at c (m + length start - 1) + 2
  pub samples : (xs : List ℤ) → ForSome reader (λ c. Shows s c.list xs) → (g : ℕ → ℤ) → IsWindow g first → ((p : ℕ) → first.next + 2 ≤ p → g p ≡ two_before t xs p)
      → out ≡ map (course_value c g) (range_with_len m done) ++ drop done start
  pub values : (xs : List ℤ) → ForSome reader (λ c. Shows s c.list xs) → (g : ℕ → ℤ) → IsWindow g first → ((p : ℕ) → first.next + 2 ≤ p → g p ≡ two_before t xs p) → IsWindow g window

-- what is read at a place of the list
pub ahead_values : (t : Timing) (next place : ℕ) (xs run : List ℤ) (k : ℕ) → next ≡ t.start + place → length run ≤ t.len - place → run ≡ take (length run) (drop place xs)
    → k < length run → get_or run k (pos 0) ≡ two_before t xs (next + 2 + k)
ahead_values t next place xs run k at seen is within =
    let all : take (length run) run ≡ run = take_all (length run) run (omega arith) in
    sym (ap (λ ys. get_or ys k (pos 0)) all)
    ∙ in_run (t.start + 2) t.len (next + 2) place (length run) k xs run (omega (arith, at)) seen is (omega (arith, within, ap length all))

grid_above : (r : Rate) → 0 < grid_of r
grid_above R2205 = omega arith
grid_above R4410 = omega arith
grid_above R8000 = omega arith
grid_above R11025 = omega arith
grid_above R16000 = omega arith
grid_above R22050 = omega arith
grid_above R32000 = omega arith
grid_above R44100 = omega arith
grid_above R48000 = omega arith

-- the outputs of a list at another rate begin no earlier than the list
pub begins_later : (from to : Timing) → to ≡ other_rate_timing to.rate from → BeginsLater from to
unfolding other_rate_timing spanning index_between
begins_later from to is =
    let start : to.start ≡ div_ceil (from.start * grid_of from.rate) (grid_of to.rate) = ap (λ (t : Timing). t.start) is in
    let enough = (div_ceil_times (from.start * grid_of from.rate) (grid_of to.rate) (grid_above to.rate)).0 in
    let times : from.start * grid_of from.rate ≤ to.start * grid_of to.rate = subst (λ n. from.start * grid_of from.rate ≤ n * grid_of to.rate) (sym start) enough in
    le-div from.start (to.start * grid_of to.rate) (grid_of from.rate) (grid_above from.rate) times

-- past its end there are zeros
pub past_all : (t : Timing) (next : ℕ) (xs zeros : List ℤ) (k : ℕ) → t.start ≤ next → t.len ≤ next - t.start → ((i : ℕ) → get_or zeros i (pos 0) ≡ pos 0)
    → get_or zeros k (pos 0) ≡ two_before t xs (next + 2 + k)
past_all t next xs zeros k later past none =
    none k ∙ sym (past_end (t.start + 2) t.len (next + 2 + k) xs (omega (arith, later)) (omega (arith, past, later)))

-- ---- the loop

place_mono : (c : Course) (i j : ℕ) → IsCourse c → i ≤ j → place_at c i ≤ place_at c j
place_mono c i j course less =
    let times : i * c.step ≤ j * c.step = mul-le i c.step j c.step less (omega arith) in
    le-div (i * c.step / c.grid) (j * c.step) c.grid course.some (omega (arith, times, div-mul-le_self (i * c.step) c.grid))

-- a cursor that has not passed one index has not passed a later one
pub take_later : (s : StoreState) (t : Timing) (c : CursorState) (next later : ℕ) → next ≤ later → CanTake s t c next → CanTake s t c later
take_later s t c next later less can = record { stands = can.stands; ahead = omega (arith, can.ahead, less); seen = can.seen }

module _ (c : Course) (s : StoreState) (reader : Option CursorState) (t : Timing) (first : Window) (m : ℕ) (course : IsCourse c) where
  -- one stretch more
  pub stretch_added : (done : ℕ) (at : Position) (window : Window) (r : Stretch) (ahead start out part : List ℤ) → length out ≡ length start → done < length start
      → IsStretch c window at (length ahead) (length start - done) r → length part ≡ length start - done
      → ((g : ℕ → ℤ) → Continues g window ahead → part ≡ map (course_value c g) (range_with_len at.index r.written) ++ drop r.written (drop done out))
      → ((g : ℕ → ℤ) → Continues g window ahead → IsWindow g r.window)
      → ((xs : List ℤ) → ForSome reader (λ c. Shows s c.list xs) → (k : ℕ) → k < length ahead → get_or ahead k (pos 0) ≡ two_before t xs (window.next + 2 + k))
      → RunsSoFar c s reader t first m done at window start out
      → RunsSoFar c s reader t first m (done + r.written) r.at r.window start (put_mid done (length start - done) out part)
  stretch_added done at window r ahead start out part long more stretch some given kept values so_far =
      record {
        room = omega (arith, stretch.within, more);
        position = stretch.position;
        index = omega (arith, stretch.index, so_far.index);
        later = omega (arith, so_far.later, stretch.later);
        forward = stretch.forward;
        empty = λ none. absurd (omega (arith, none, more));
        last = λ all any.
            let full : r.written ≡ length start - done = omega (arith, all, more) in
            let index : at.index + (length start - done) - 1 ≡ m + length start - 1 = omega (arith, so_far.index, more) in
            stretch.last full (omega (arith, more)) ∙ ap (λ i. place_at c i + 2) index;
        samples = λ xs shows g is past.
            let continues = goes_on xs shows g is past in
            let f = course_value c g in
            let before : out ≡ map f (range_with_len m done) ++ drop done start = so_far.samples xs shows g is past in
            let begun : length (map f (range_with_len m done)) ≡ done = length-map-range_with_len f m done in
            let rest : drop done out ≡ drop done start = ap (drop done) before ∙ ap (λ n. drop n (map f (range_with_len m done) ++ drop done start)) (sym begun) ∙ drop-append_seam (map f (range_with_len m done)) (drop done start) in
            part_added done (length start) start out (map f (range_with_len m done)) part (omega (arith, more)) (omega arith) long some before
            ∙ ap (λ ys. (map f (range_with_len m done) ++ part) ++ ys) (drop_all (length start) start (omega arith))
            ∙ append-nil (map f (range_with_len m done) ++ part)
            ∙ ap (λ ys. map f (range_with_len m done) ++ ys) (given g continues ∙ ap (λ i. map f (range_with_len i r.written) ++ drop r.written (drop done out)) so_far.index)
            ∙ sym (append_assoc (map f (range_with_len m done)) (map f (range_with_len (m + done) r.written)) (drop r.written (drop done out)))
            ∙ ap (λ ys. ys ++ drop r.written (drop done out)) (places_joined f m done r.written)
            ∙ ap (λ ys. map f (range_with_len m (done + r.written)) ++ drop r.written ys) rest
            ∙ ap (λ ys. map f (range_with_len m (done + r.written)) ++ ys) (drop_again done r.written start);
        values = λ xs shows g is past. kept g (goes_on xs shows g is past);
      }
    where
      goes_on : (xs : List ℤ) → ForSome reader (λ c. Shows s c.list xs) → (g : ℕ → ℤ) → IsWindow g first → ((p : ℕ) → first.next + 2 ≤ p → g p ≡ two_before t xs p) → Continues g window ahead
      goes_on xs shows g is past = record {
        window = so_far.values xs shows g is past;
        rest = λ k h. values xs shows k h ∙ sym (past (window.next + 2 + k) (omega (arith, so_far.later)));
      }

  -- all are written
  pub all_written : (done : ℕ) (at : Position) (window : Window) (start out xs : List ℤ) (g : ℕ → ℤ) → length start ≤ done → RunsSoFar c s reader t first m done at window start out
      → ForSome reader (λ c. Shows s c.list xs) → IsWindow g first → ((p : ℕ) → first.next + 2 ≤ p → g p ≡ two_before t xs p) → out ≡ map (course_value c g) (range_with_len m (length start))
  all_written done at window start out xs g all so_far shows is past =
      let f = course_value c g in
      let end : done ≡ length start = omega (arith, all, so_far.room) in
      so_far.samples xs shows g is past
      ∙ ap (λ ys. map f (range_with_len m done) ++ ys) (drop_all done start all)
      ∙ append-nil (map f (range_with_len m done))
      ∙ ap (λ n. map f (range_with_len m n)) end

  -- each stretch writes an output or passes a sample
  pub stretch_on : (done : ℕ) (at : Position) (window : Window) (r : Stretch) (ahead len : ℕ) → done < len → at.index ≡ m + done → t.start ≤ window.next
      → ((q : CursorState) → reader ≡ Some q → CanTake s t q window.next)
      → ((q : CursorState) → reader ≡ Some q → 0 < len → IsComputed s q (min (place_at c (m + len - 1) + 2 - t.start) t.len - q.place))
      → IsStretch c window at ahead (len - done) r
      → (((q : CursorState) → reader ≡ Some q → window.next - t.start < t.len → IsComputed s q (window.next - t.start - q.place + 1)) → 0 < ahead)
      → len - (done + r.written) + (place_at c (m + len - 1) + 2 - r.window.next) < len - done + (place_at c (m + len - 1) + 2 - window.next)
  stretch_on done at window r ahead len more index later ready computed stretch some = elim (cases_lt 0 r.written) [
    | inl any ↦ omega (arith, any, stretch.within, stretch.later, more)
    | inr none ↦
        let rest = stretch.rest (omega (arith, none, more)) in
        let place : r.at.place ≡ place_at c r.at.index = stretch.position.place in
        let mono : place_at c r.at.index ≤ place_at c (m + len - 1) = place_mono c r.at.index (m + len - 1) course (omega (arith, stretch.index, index, none, more)) in
        let end : r.window.next < place_at c (m + len - 1) + 2 = omega (arith, rest.1, place, mono) in
        let passed : 0 < ahead = some (λ q is within. at_hand q is within end) in
        omega (arith, passed, rest.0, end, none, more)
  ]
    where
      at_hand : (q : CursorState) → reader ≡ Some q → window.next - t.start < t.len → r.window.next < place_at c (m + len - 1) + 2 → IsComputed s q (window.next - t.start - q.place + 1)
      at_hand q is within end =
          let all = computed q is (omega (arith, more)) in
          record { list = all.list; there = all.there; computed = omega (arith, all.computed, end, stretch.later, within, later, (ready q is).ahead) }

-- ---- the unit

-- two places on stands what the input has there
two_on : (from : Timing) (xs : List ℤ) (q : ℕ) → two_before from xs (q + 2) ≡ heard_at from.start (take from.len xs) q
two_on from xs q = elim (cases_lt q from.start) [
  | inl early ↦ before_start (from.start + 2) (q + 2) (take from.len xs) (omega (arith, early)) ∙ sym (before_start from.start q (take from.len xs) early)
  | inr later ↦
      let place : q + 2 - (from.start + 2) ≡ q - from.start = omega (arith, later) in
      from_start (from.start + 2) (q + 2) (take from.len xs) (omega (arith, later)) ∙ ap (λ p. get_or (take from.len xs) p (pos 0)) place ∙ sym (from_start from.start q (take from.len xs) later)
]

same_heard : (from : Timing) (xs : List ℤ) (q : ℕ) → two_before from xs (q + 2) ≡ value_at (heard_sound from xs) q
unfolding value_at
same_heard from xs q = two_on from xs q

module _ (c : Course) (from to : Timing) (grid : c.grid ≡ grid_of from.rate) (step : c.step ≡ grid_of to.rate) where
  same_place : (m : ℕ) → place_at c m ≡ index_before from to m
  same_place m = ap (λ g. m * c.step / g) grid ∙ ap (λ n. m * n / grid_of from.rate) step

  -- past both neighbours of the last of n outputs
  pub next_is : (n m : ℕ) → 0 < n → m ≡ to.start + n - 1 → place_at c m + 2 ≡ next_after from to n
  next_is n m some at =
      ap (λ p. p + 2) (same_place m ∙ ap (index_before from to) at)
      ∙ sym (cond-false (nat_eq n 0) from.start (index_before from to (to.start + n - 1) + 2) (ne_eqb n 0 (λ e. omega (arith, e, some))))

  -- once `len` more outputs are given
  pub next_given : (given len m next : ℕ) → m ≡ to.start + given → next ≡ next_after from to given
      → (if len == 0 then next else place_at c (m + len - 1) + 2) ≡ next_after from to (given + len)
  next_given given len m next at is = elim (cases_eq len 0) [
    | inl e ↦
        let none : given ≡ given + len = omega (arith, e) in
        cond-true (nat_eq len 0) next (place_at c (m + len - 1) + 2) (eq-eqb len 0 e) ∙ is ∙ ap (next_after from to) none
    | inr ne ↦
        cond-false (nat_eq len 0) next (place_at c (m + len - 1) + 2) (ne_eqb len 0 ne)
        ∙ next_is (given + len) (m + len - 1) (omega (arith, ne)) (omega (arith, at, ne))
  ]

  -- once they are, where the window stands
  pub next_filled : (w : Window) (given begin len long m next : ℕ) → begin ≡ given → long ≡ len → m ≡ to.start + begin → next ≡ next_after from to given
      → w.next ≡ (if len == 0 then next else place_at c (m + len - 1) + 2) → w.next ≡ next_after from to (begin + long)
  next_filled w given begin len long m next begun same at is end =
      let all : given + len ≡ begin + long = omega (arith, begun, same) in
      end ∙ next_given given len m next (omega (arith, at, begun)) is ∙ ap (next_after from to) all

  -- an output lies between its neighbours
  between_is : (g f : ℕ → ℤ) (m : ℕ) → ((q : ℕ) → g (q + 2) ≡ f q) → course_value c g m ≡ between from.rate to.rate f m
  between_is g f m same =
      let q : ℕ = index_before from to m in
      let part : m * c.step % c.grid ≡ m * grid_of to.rate % grid_of from.rate = ap (λ n. m * n % c.grid) step ∙ ap (λ n. m * grid_of to.rate % n) grid in
      let place = same_place m in
      let after : place_at c m + 3 ≡ q + 1 + 2 = omega (arith, place) in
      ap (λ p. on_way (g (p + 2)) (g (place_at c m + 3)) (m * c.step % c.grid) c.grid) place
      ∙ ap (λ p. on_way (g (q + 2)) (g p) (m * c.step % c.grid) c.grid) after
      ∙ ap (λ x. on_way x (g (q + 1 + 2)) (m * c.step % c.grid) c.grid) (same q)
      ∙ ap (λ x. on_way (f q) x (m * c.step % c.grid) c.grid) (same (q + 1))
      ∙ ap (λ n. on_way (f q) (f (q + 1)) n c.grid) part
      ∙ ap (λ n. on_way (f q) (f (q + 1)) (m * grid_of to.rate % grid_of from.rate) n) grid

  -- so are all of a slice
  pub all_between : (g f : ℕ → ℤ) (out : List ℤ) (m first len : ℕ) → m ≡ first → ((q : ℕ) → g (q + 2) ≡ f q) → out ≡ map (course_value c g) (range_with_len m len)
      → out ≡ map (between from.rate to.rate f) (range_with_len first len)
  all_between g f out m first len at same is =
      is ∙ ap (λ i. map (course_value c g) (range_with_len i len)) at
      ∙ same_places (course_value c g) (between from.rate to.rate f) first first len (pos 0) (λ k h. between_is g f (first + k) same)

  -- an output is the interpolated value
  pub outputs_are : (xs out : List ℤ) (m first len : ℕ) → m ≡ first → out ≡ map (course_value c (two_before from xs)) (range_with_len m len)
      → out ≡ map (interpolated to.rate (heard_sound from xs)) (range_with_len first len)
  unfolding interpolated
  outputs_are xs out m first len at is = all_between (two_before from xs) (value_at (heard_sound from xs)) out m first len at (same_heard from xs) is

-- ---- from what is kept

-- what a unit knows of its input, two places on: the two samples that it keeps, and the input's own past them
abbrev pub known_on : Resampling → List ℤ → ℕ → ℤ
known_on u xs p =
    let next = next_after u.from u.to u.given in
    if p == next then u.before else if p == next + 1 then u.after else two_before u.from xs p

module _ (u : Resampling) (xs : List ℤ) where
  -- it is what the window holds
  pub window_known : (w : Window) → w.before ≡ u.before → w.after ≡ u.after → w.next ≡ next_after u.from u.to u.given → IsWindow (known_on u xs) w
  window_known w before after next =
      let n : ℕ = next_after u.from u.to u.given in
      record {
        before = before ∙ sym (cond-true (nat_eq w.next n) u.before (if w.next == n + 1 then u.after else two_before u.from xs w.next) (eq-eqb w.next n next));
        after = after
            ∙ sym (cond-true (nat_eq (w.next + 1) (n + 1)) u.after (two_before u.from xs (w.next + 1)) (eq-eqb (w.next + 1) (n + 1) (ap (λ k. k + 1) next)))
            ∙ sym (cond-false (nat_eq (w.next + 1) n) u.before (if w.next + 1 == n + 1 then u.after else two_before u.from xs (w.next + 1)) (ne_eqb (w.next + 1) n (λ e. omega (arith, e, next))));
      }

  -- and the input past it
  pub past_known : (next p : ℕ) → next ≡ next_after u.from u.to u.given → next + 2 ≤ p → known_on u xs p ≡ two_before u.from xs p
  past_known next p is past =
      let n : ℕ = next_after u.from u.to u.given in
      cond-false (nat_eq p n) u.before (if p == n + 1 then u.after else two_before u.from xs p) (ne_eqb p n (λ e. omega (arith, e, is, past)))
      ∙ cond-false (nat_eq p (n + 1)) u.after (two_before u.from xs p) (ne_eqb p (n + 1) (λ e. omega (arith, e, is, past)))

  -- the two ways to count
  pub known_is : (p : ℕ) → known_on u xs (p + 2) ≡ known u xs p
  known_is p =
      let n : ℕ = next_after u.from u.to u.given in
      ap (λ v. if p + 2 == n then u.before else if p + 2 == n + 1 then u.after else v) (two_on u.from xs p)
      ∙ ap (λ b. if p + 2 == n then u.before else if b then u.after else heard_at u.from.start (take u.from.len xs) p) (elim (cases_eq (p + 1) n) [
        | inl e ↦ eq-eqb (p + 2) (n + 1) (omega (arith, e)) ∙ sym (eq-eqb (p + 1) n e)
        | inr ne ↦ ne_eqb (p + 2) (n + 1) (λ e. ne (omega (arith, e))) ∙ sym (ne_eqb (p + 1) n ne)
      ])

-- what a window holds that has passed an index
pub holds_before : (g f : ℕ → ℤ) (w : Window) (next p : ℕ) → IsWindow g w → w.next ≡ next → ((q : ℕ) → g (q + 2) ≡ f q) → p + 2 ≡ next → w.before ≡ f p
holds_before g f w next p is end same at = is.before ∙ ap g (end ∙ sym at) ∙ same p

pub holds_after : (g f : ℕ → ℤ) (w : Window) (next p : ℕ) → IsWindow g w → w.next ≡ next → ((q : ℕ) → g (q + 2) ≡ f q) → p + 1 ≡ next → w.after ≡ f p
holds_after g f w next p is end same at =
    let place : w.next + 1 ≡ p + 2 = omega (arith, end, at) in
    is.after ∙ ap g place ∙ same p
