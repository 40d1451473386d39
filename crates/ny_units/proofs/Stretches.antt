-- The outputs of a resampling that a window suffices for.
use Rattle.std.proofs.Common.{◌≡◌, ℕ, zero, suc, ◌+◌, ◌-◌, ◌*◌, ◌%◌, ◌<◌, ◌≤◌, List, [], ◌∷◌, ◌++◌, length, map, drop, get_or, set, refl, sym, ap, subst, ◌∙◌, arith, ℤ, pos}
use Rattle.std.specs.List.{range_with_len}
use Rattle.ny_units.specs.declared.course.Course.{Course}
use Rattle.ny_units.specs.declared.course.Position.{Position}
use Rattle.ny_units.specs.declared.course.Window.{Window}
use Rattle.ny_units.specs.Courses.{on_way, IsPosition, window_list, window_at, IsWindow, Continues, place_at, course_value}

-- a window that goes on has the values of g
pub window_moved : (g : ℕ → ℤ) (w : Window) (ahead : List ℤ) (k : ℕ) → k ≤ length ahead → Continues g w ahead → IsWindow g (window_at w ahead k)
window_moved g w ahead zero within is = record {
  before = is.window.before ∙ ap g (let e : w.next ≡ w.next + 0 = omega arith in e);
  after = is.window.after ∙ ap g (let e : w.next + 1 ≡ w.next + 0 + 1 = omega arith in e);
}
window_moved g w ahead (suc zero) within is = record {
  before = is.window.after;
  after = is.rest 0 (omega (arith, within)) ∙ ap g (let e : w.next + 2 + 0 ≡ w.next + 1 + 1 = omega arith in e);
}
window_moved g w ahead (suc (suc k)) within is = record {
  before = is.rest k (omega (arith, within)) ∙ ap g (let e : w.next + 2 + k ≡ w.next + suc (suc k) = omega arith in e);
  after = ap (λ n. get_or (window_list w ahead) n (pos 0)) (let e : suc (suc k) + 1 ≡ suc (suc (suc k)) = omega arith in e)
      ∙ is.rest (suc k) (omega (arith, within)) ∙ ap g (let e : w.next + 2 + suc k ≡ w.next + suc (suc k) + 1 = omega arith in e);
}

-- one more place of a list is written
pub place_added : (f : ℕ → ℤ) (from n : ℕ) (first out : List ℤ) (v : ℤ) → n < length first → v ≡ f (from + n)
    → out ≡ map f (range_with_len from n) ++ drop n first → set out n v ≡ map f (range_with_len from (n + 1)) ++ drop (n + 1) first
place_added f from n first out v within is so_far = ap (λ ys. set ys n v) so_far ∙ by_place n from first within is
  where
    by_place : (n from : ℕ) (first : List ℤ) → n < length first → v ≡ f (from + n) → set (map f (range_with_len from n) ++ drop n first) n v ≡ map f (range_with_len from (n + 1)) ++ drop (n + 1) first
    by_place n from [] less e = absurd (omega (arith, less))
    by_place zero from (x ∷ xs) less e = ap (λ y. y ∷ xs) (e ∙ ap f (let z : from + 0 ≡ from = omega arith in z))
    by_place (suc n) from (x ∷ xs) less e =
        let place : from + suc n ≡ from + 1 + n = omega arith in
        let more : suc (n + 1) ≡ suc n + 1 = omega arith in
        ap (λ ys. f from ∷ ys) (by_place n (from + 1) xs (omega (arith, less)) (e ∙ ap f place))
        ∙ ap (λ k. map f (range_with_len from k) ++ drop k (x ∷ xs)) more

-- the outputs so far and then what was there; where the next one lies, and the window at the last one
pub record StretchSoFar (c : Course) (first : Window) (from : Position) (ahead : List ℤ) (written : ℕ) (at : Position) (window : Window) (start out : List ℤ) : Type 0 where
  pub room : written ≤ length start
  pub position : IsPosition c at
  pub index : at.index ≡ from.index + written
  pub reach : first.next ≤ at.place + 2
  pub later : first.next ≤ window.next
  pub upto : window.next ≤ first.next + length ahead
  pub forward : window.next ≤ at.place + 2
  pub last : 0 < written → window.next ≡ place_at c (from.index + written - 1) + 2
  pub samples : (g : ℕ → ℤ) → Continues g first ahead → out ≡ map (course_value c g) (range_with_len from.index written) ++ drop written start
  pub values : (g : ℕ → ℤ) → Continues g first ahead → IsWindow g window

module _ (c : Course) (first : Window) (from : Position) (ahead : List ℤ) where
  -- none is written yet
  pub none_written : (start : List ℤ) → IsPosition c from → first.next ≤ from.place + 2 → StretchSoFar c first from ahead 0 from first start start
  none_written start position forward = record {
    room = omega arith;
    position = position;
    index = omega arith;
    reach = forward;
    later = omega arith;
    upto = omega arith;
    forward = forward;
    last = λ some. absurd (omega (arith, some));
    samples = λ g continues. refl;
    values = λ g continues. continues.window;
  }

  -- one more is
  pub one_written : (written : ℕ) (at next : Position) (window moved : Window) (start out : List ℤ) (k : ℕ) (v : ℤ) → written < length start
      → k ≡ at.place + 2 - first.next → k ≤ length ahead → moved ≡ window_at first ahead k → v ≡ on_way moved.before moved.after at.part c.grid
      → IsPosition c next → next.index ≡ at.index + 1 → at.place ≤ next.place
      → StretchSoFar c first from ahead written at window start out → StretchSoFar c first from ahead (written + 1) next moved start (set out written v)
  one_written written at next window moved start out k v room by enough is value position index later so_far =
      let end : moved.next ≡ at.place + 2 = omega (arith, ap (λ (w : Window). w.next) is, by, so_far.reach) in
      let here : at.place ≡ place_at c (from.index + written) = so_far.position.place ∙ ap (place_at c) so_far.index in
      let before_next : from.index + (written + 1) - 1 ≡ from.index + written = omega arith in
      record {
        room = omega (arith, room);
        position = position;
        index = omega (arith, index, so_far.index);
        reach = omega (arith, so_far.reach, later);
        later = omega (arith, end, so_far.reach);
        upto = omega (arith, end, by, enough, so_far.reach);
        forward = omega (arith, end, later);
        last = λ some. end ∙ ap (λ p. p + 2) (here ∙ ap (place_at c) (sym before_next));
        samples = λ g continues. place_added (course_value c g) from.index written start out v room (value ∙ sym (output g continues)) (so_far.samples g continues);
        values = λ g continues. passed g continues;
      }
    where
      passed : (g : ℕ → ℤ) → Continues g first ahead → IsWindow g moved
      passed g continues = subst (IsWindow g) (sym is) (window_moved g first ahead k enough continues)

      output : (g : ℕ → ℤ) → Continues g first ahead → course_value c g (from.index + written) ≡ on_way moved.before moved.after at.part c.grid
      output g continues =
          let w = passed g continues in
          let place : moved.next ≡ place_at c (from.index + written) + 2 = omega (arith, ap (λ (w : Window). w.next) is, by, so_far.reach, so_far.position.place ∙ ap (place_at c) so_far.index) in
          let after : moved.next + 1 ≡ place_at c (from.index + written) + 3 = omega (arith, place) in
          let part : at.part ≡ (from.index + written) * c.step % c.grid = so_far.position.part ∙ ap (λ m. m * c.step % c.grid) so_far.index in
          ap (λ p. on_way (g p) (g (place_at c (from.index + written) + 3)) ((from.index + written) * c.step % c.grid) c.grid) (sym place)
          ∙ ap (λ p. on_way (g moved.next) (g p) ((from.index + written) * c.step % c.grid) c.grid) (sym after)
          ∙ ap (λ p. on_way (g moved.next) (g (moved.next + 1)) p c.grid) (sym part)
          ∙ ap (λ x. on_way x (g (moved.next + 1)) at.part c.grid) (sym w.before)
          ∙ ap (λ x. on_way moved.before x at.part c.grid) (sym w.after)
