-- What a unit gives for the sounds that it hears.
use Rattle.std.proofs.Common.{◌≡◌, ℕ, suc, ◌+◌, ◌-◌, ◌<◌, Bool, true, false, cond, nat_le, leb-true, List, [], ◌∷◌, length, map, get_or, drop, Option, None, Some, refl, sym, ap, ◌∙◌, arith, ℤ, pos}
use Rattle.std.proofs.lemmas.Bool.{le-leb}
use Rattle.std.proofs.Math.Path.{fun_ext}
use Rattle.std.specs.List.{range_with_len}
use Rattle.std.specs.Option.{option_map}
use Rattle.ny_kernels.specs.Operations.{operation}
use Rattle.ny_num.specs.declared.timing.Timing.{Timing}
use Rattle.ny_num.specs.Numbers.{sample_abs}
use Rattle.ny_num.specs.Pointwise.{each_value}
use Rattle.ny_num.specs.Sound as sounds
use Rattle.ny_num.specs.Sound.{timing_of, value_at, sound_of}
use Rattle.ny_heap.specs.declared.make.Make.{Make}
use Rattle.ny_heap.specs.declared.make.Make.TheVariants.{Leaf, Pair, Abs, Resample, Filter}
use Rattle.ny_heap.specs.declared.sound.Sound.{Sound}
use Rattle.ny_heap.specs.Heap.{Reader, Made, Memory, Neighbours, list_of, place_of}
use Rattle.ny_heap.specs.Means.{Parts, Whole, heard, input_sound, sound_in, first_heard, second_heard, first_samples, resampled_value, filtered_value, made_value, unit_value}
use Rattle.ny_heap.specs.Steps.{reader_of, first_memory, made_memory, made_inputs}
use Rattle.ny_hands.specs.Made.{memory_of, made_of, made_of_both}
use Rattle.ny_hands.specs.Frames.{sound_at}

-- ---- values

-- nothing is heard of a sound without samples
pub value_none : (m : sounds.Sound) (k : ℕ) → m.samples ≡ [] → value_at m k ≡ pos 0
unfolding value_at
value_none m k none = ap (λ xs. cond (nat_le m.start k) (get_or xs (k - m.start) (pos 0)) (pos 0)) none ∙ by_test (nat_le m.start k)
  where
    by_test : (b : Bool) → cond b (get_or [] (k - m.start) (pos 0)) (pos 0) ≡ pos 0
    by_test true = refl
    by_test false = refl

-- nor before a sound's start
pub value_before : (m : sounds.Sound) (k : ℕ) → k < m.start → value_at m k ≡ pos 0
unfolding value_at
value_before m k before = by_test (nat_le m.start k) refl
  where
    by_test : (b : Bool) → nat_le m.start k ≡ b → cond b (get_or m.samples (k - m.start) (pos 0)) (pos 0) ≡ pos 0
    by_test true e = absurd (omega (arith, leb-true m.start k e, before))
    by_test false e = refl

-- the values from a sound's start on
pub value_from : (m : sounds.Sound) (j : ℕ) → value_at m (m.start + j) ≡ get_or m.samples j (pos 0)
unfolding value_at
value_from m j =
    let index : m.start + j - m.start ≡ j = omega arith in
    ap (λ b. cond b (get_or m.samples (m.start + j - m.start) (pos 0)) (pos 0)) (le-leb m.start (m.start + j) (omega arith)) ∙ ap (λ n. get_or m.samples n (pos 0)) index

-- what is made of each value is made of each sample
pub each_is : (f : ℤ → ℤ) (m : sounds.Sound) → sound_of (timing_of m) (λ k. f (value_at m k)) ≡ each_value f m
unfolding sound_of timing_of each_value
each_is f m =
    let remade : List ℤ → sounds.Sound = λ xs. record { rate = m.rate; start = m.start; stop = m.stop; samples = xs } in
    ap remade (from m.samples m.start (λ j. value_from m j))
  where
    from : (xs : List ℤ) (n : ℕ) → ((j : ℕ) → value_at m (n + j) ≡ get_or xs j (pos 0)) → map (λ k. f (value_at m k)) (range_with_len n (length xs)) ≡ map f xs
    from [] n at = refl
    from (x ∷ xs) n at =
        let here : n ≡ n + 0 = omega arith in
        let first : value_at m n ≡ x = ap (value_at m) here ∙ at 0 in
        (λ i. f (first i) ∷ from xs (n + 1) (λ j. let next : n + 1 + j ≡ n + suc j = omega arith in ap (value_at m) next ∙ at (suc j)) i)

-- ---- what an input hears

-- a unit hears its input's whole sound, or nothing of a sound without samples
pub data Hears (o : Option sounds.Sound) (m : sounds.Sound) : Type 0 where
  Heard : o ≡ Some m → Hears o m
  Unheard : o ≡ None → m.samples ≡ [] → Hears o m

pub input_hears : (w : Whole) (s : Sound) (m : sounds.Sound) → sound_at w s ≡ m → Hears (input_sound w.samples (reader_of s)) m
input_hears w s m is = by_list (list_of s) is
  where
    by_list : (o : Option ℕ) → sound_in w.samples o s.timing ≡ m → Hears (input_sound w.samples (option_map (λ n. let r : Reader = record { node = n; place = place_of s; timing = s.timing } in r) o)) m
    by_list None e = Unheard refl (sym (ap (λ (x : sounds.Sound). x.samples) e))
    by_list (Some n) e = Heard (ap Some e)

heard_same : (o : Option sounds.Sound) (m : sounds.Sound) (k : ℕ) → Hears o m → heard o k ≡ value_at m k
heard_same o m k (Heard e) = ap (λ p. heard p k) e
heard_same o m k (Unheard e none) = ap (λ p. heard p k) e ∙ sym (value_none m k none)

samples_same : (o : Option sounds.Sound) (m : sounds.Sound) (ss : List (Option sounds.Sound)) → Hears o m → first_samples (o ∷ ss) ≡ m.samples
samples_same o m ss (Heard e) = ap (λ p. first_samples (p ∷ ss)) e
samples_same o m ss (Unheard e none) = ap (λ p. first_samples (p ∷ ss)) e ∙ sym none

-- ---- what a unit gives

-- a unit gives the same where it hears the same
same_given : (make : Make) (t : Timing) (memory other : Memory) (from : ℕ) (ss qs : List (Option sounds.Sound)) (k : ℕ) → memory ≡ other → first_heard ss ≡ first_heard qs → second_heard ss ≡ second_heard qs → first_samples ss ≡ first_samples qs → made_value make t memory from ss k ≡ made_value make t other from qs k
same_given (Leaf l) t memory other from ss qs k kept first second samples = refl
same_given (Pair op None None) t memory other from ss qs k kept first second samples = λ i. operation op (first i k) (second i k)
same_given (Pair op (Some a) None) t memory other from ss qs k kept first second samples = λ i. operation op a (first i k)
same_given (Pair op None (Some b)) t memory other from ss qs k kept first second samples = λ i. operation op (first i k) b
same_given (Pair op (Some a) (Some b)) t memory other from ss qs k kept first second samples = refl
same_given Abs t memory other from ss qs k kept first second samples = λ i. sample_abs (first i k)
same_given Resample t memory other from ss qs k kept first second samples = λ i. resampled_value t (kept i) (from - t.start) (first i) k
same_given (Filter f) t memory other from ss qs k kept first second samples = λ i. filtered_value f (kept i) (drop (from - t.start) (samples i)) (k - from)

memory_is : (make : Make) (a : Sound) (ss : List Sound) (m : sounds.Sound) → a.timing ≡ timing_of m → made_memory make (a ∷ ss) ≡ memory_of make m
memory_is (Leaf l) a ss m when = refl
memory_is (Pair op j k) a ss m when = refl
memory_is Abs a ss m when = refl
memory_is Resample a ss m when = ap (λ t. Neighbours t (pos 0) (pos 0)) when
memory_is (Filter f) a ss m when = refl

-- what a unit gives for one sound
pub hears_one : {B : Type 0} (make : Make) (t : Timing) (a : Sound) (m : sounds.Sound) (part : Parts B) (w : Whole) → a.timing ≡ timing_of m → sound_at w a ≡ m → sound_of t (unit_value (Made make) t (first_memory (Made make) (a ∷ [])) t.start (made_inputs part w t.rate (a ∷ []) [])) ≡ made_of make t m
hears_one make t a m part w when is =
    let input = input_hears w a m is in
    ap (sound_of t) (fun_ext (λ k.
    same_given make t (made_memory make (a ∷ [])) (memory_of make m) t.start (input_sound w.samples (reader_of a) ∷ []) (Some m ∷ []) k (memory_is make a [] m when)
    (fun_ext (λ j. heard_same (input_sound w.samples (reader_of a)) m j input)) refl (samples_same (input_sound w.samples (reader_of a)) m [] input)))

-- and for two
pub hears_two : {B : Type 0} (make : Make) (t : Timing) (a b : Sound) (m n : sounds.Sound) (part : Parts B) (w : Whole) → a.timing ≡ timing_of m → sound_at w a ≡ m → sound_at w b ≡ n → sound_of t (unit_value (Made make) t (first_memory (Made make) (a ∷ b ∷ [])) t.start (made_inputs part w t.rate (a ∷ b ∷ []) [])) ≡ made_of_both make t m n
hears_two make t a b m n part w when first_is second_is =
    let first = input_hears w a m first_is in
    let second = input_hears w b n second_is in
    ap (sound_of t) (fun_ext (λ k.
    same_given make t (made_memory make (a ∷ b ∷ [])) (memory_of make m) t.start (input_sound w.samples (reader_of a) ∷ input_sound w.samples (reader_of b) ∷ []) (Some m ∷ Some n ∷ []) k (memory_is make a (b ∷ []) m when)
    (fun_ext (λ j. heard_same (input_sound w.samples (reader_of a)) m j first)) (fun_ext (λ j. heard_same (input_sound w.samples (reader_of b)) n j second))
    (samples_same (input_sound w.samples (reader_of a)) m (input_sound w.samples (reader_of b) ∷ []) first)))
