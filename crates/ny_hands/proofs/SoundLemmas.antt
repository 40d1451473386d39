-- The whole sound of a list, once it was made and while others are made.
use Rattle.std.proofs.Common.{◌≡◌, ◌≢◌, inl, inr, ℕ, ◌-◌, Bool, true, false, cond, nat_le, if◌then◌else◌, List, [], length, map, get_or, take, Option, None, Some, refl, sym, ap, ◌∙◌, arith, ℤ, pos}
use Rattle.std.proofs.Math.Seq.{take-length}
use Rattle.std.proofs.lemmas.Bool.{eq-eqb}
use Rattle.std.proofs.lemmas.Bool.Decides.{eqb_tells}
use Rattle.std.proofs.lemmas.List.{length-take}
use Rattle.std.proofs.lemmas.List.FromFn.{length-map-range_with_len}
use Rattle.std.specs.List.{range_with_len}
use Rattle.std.specs.Option.{option_map, option_map_or}
use Rattle.ny_num.specs.declared.timing.Timing.{Timing}
use Rattle.ny_num.specs.Sound as sounds
use Rattle.ny_num.specs.Sound.{value_at, timing_of, sound_of}
use Rattle.ny_heap.specs.Heap.{Reader, HeapState, list_of, place_of}
use Rattle.ny_heap.specs.Means.{Parts, Whole, Means, Extends, heard, input_sound, sound_in, with_samples}
use Rattle.ny_heap.specs.Steps.{IsHeldAt, IsHeldSound, reader_of}
use Rattle.ny_heap.specs.declared.sound.Sound.{Sound}
use Rattle.ny_hands.specs.Frames.{sound_at}

-- ---- timings

pub timing_of-sound_of : (t : Timing) (f : ℕ → ℤ) → timing_of (sound_of t f) ≡ t
unfolding timing_of sound_of
timing_of-sound_of t f = λ i. record { rate = t.rate; start = t.start; len = length-map-range_with_len f t.start t.len i; stop = t.stop }

-- a held sound shows as many samples as it says
pub timing_is : {B : Type 0} (part : Parts B) (h : HeapState B) (w : Whole) (s : Sound) → Means part h w → IsHeldSound h s → timing_of (sound_at w s) ≡ s.timing
unfolding timing_of
timing_is {B} part h w s means held = by_list (list_of s) held.1
  where
    by_list : (o : Option ℕ) → IsHeldAt h s o → timing_of (sound_in w.samples o s.timing) ≡ s.timing
    by_list None zero_len = λ i. record { rate = s.timing.rate; start = s.timing.start; len = sym zero_len i; stop = s.timing.stop }
    by_list (Some n) c =
        let len : length (take s.timing.len (w.samples n)) ≡ s.timing.len = length-take s.timing.len (w.samples n) ∙ omega (arith, c.visible, (means n c.unit c.there).len) in
        λ i. record { rate = s.timing.rate; start = s.timing.start; len = len i; stop = s.timing.stop }

-- ---- values

-- what an input hears is the value of its sound
pub heard_is : (w : Whole) (s : Sound) (m : ℕ) → heard (input_sound w.samples (reader_of s)) m ≡ value_at (sound_at w s) m
unfolding value_at
heard_is w s m = by_list (list_of s)
  where
    nothing : (b : Bool) (k : ℕ) → pos 0 ≡ cond b (get_or [] k (pos 0)) (pos 0)
    nothing true k = refl
    nothing false k = refl

    by_list : (o : Option ℕ) → heard (input_sound w.samples (option_map (λ n. let r : Reader = record { node = n; place = place_of s; timing = s.timing } in r) o)) m ≡ value_at (sound_in w.samples o s.timing) m
    by_list None = nothing (nat_le s.timing.start m) (m - s.timing.start)
    by_list (Some n) = refl

-- ---- while others are made

-- a held sound is what it was, where the lists that were there hold what they did
pub stable_sound : {B : Type 0} (h : HeapState B) (s : Sound) → IsHeldSound h s → (w later : Whole) → Extends h w later → sound_at later s ≡ sound_at w s
stable_sound {B} h s held w later extends = by_list (list_of s) held.1
  where
    by_list : (o : Option ℕ) → IsHeldAt h s o → sound_in later.samples o s.timing ≡ sound_in w.samples o s.timing
    by_list None c = refl
    by_list (Some n) c = ap (λ (xs : List ℤ). let r : sounds.Sound = record { rate = s.timing.rate; start = s.timing.start; stop = s.timing.stop; samples = take s.timing.len xs } in r) (extends n c.unit c.there)

-- ---- a new list

-- all lists, with that of the new sound
abbrev pub with_list : Whole → Option ℕ → List ℤ → Whole
with_list w o xs = option_map_or (λ n. with_samples w n xs) o w

at_same : (w : Whole) (n : ℕ) (xs : List ℤ) → (with_samples w n xs).samples n ≡ xs
at_same w n xs = ap (λ b. if b then xs else w.samples n) (eq-eqb n n refl)

pub at_else : (w : Whole) (n v : ℕ) (xs : List ℤ) → v ≢ n → (with_samples w n xs).samples v ≡ w.samples v
at_else w n v xs ne = elim (eqb_tells v n) [
  | inl same ↦ absurd (ne same.1)
  | inr other ↦ ap (λ b. if b then xs else w.samples v) other.0
]

whole_taken : (f : ℕ → ℤ) (start len : ℕ) → take len (map f (range_with_len start len)) ≡ map f (range_with_len start len)
whole_taken f start len =
    ap (λ n. take n (map f (range_with_len start len))) (sym (length-map-range_with_len f start len)) ∙ take-length (map f (range_with_len start len))

-- the whole sound of a list that was just made
pub sound_made : (w : Whole) (t : Timing) (f : ℕ → ℤ) (n : ℕ) → sound_in (with_samples w n (map f (range_with_len t.start t.len))).samples (Some n) t ≡ sound_of t f
unfolding sound_of
sound_made w t f n =
    let remade : List ℤ → sounds.Sound = λ xs. record { rate = t.rate; start = t.start; stop = t.stop; samples = xs } in
    ap (λ xs. remade (take t.len xs)) (at_same w n (map f (range_with_len t.start t.len))) ∙ ap remade (whole_taken f t.start t.len)

-- and of a sound without samples, which has no list
pub sound_none : (w : Whole) (t : Timing) (f : ℕ → ℤ) → t.len ≡ 0 → sound_in w.samples None t ≡ sound_of t f
unfolding sound_of
sound_none w t f none =
    let remade : List ℤ → sounds.Sound = λ xs. record { rate = t.rate; start = t.start; stop = t.stop; samples = xs } in
    sym (ap (λ n. remade (map f (range_with_len t.start n))) none)
