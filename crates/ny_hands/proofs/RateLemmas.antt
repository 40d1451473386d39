-- A sound that is brought to a rate.
use Rattle.std.proofs.Common.{◌≡◌, inl, inr, ℕ, ◌+◌, ◌-◌, ◌==◌, true, false, if◌then◌else◌, pos, refl, sym, ap, ◌∙◌, arith}
use Rattle.std.proofs.lemmas.Bool.{eq-eqb}
use Rattle.std.proofs.lemmas.Bool.Decides.{eqb_tells}
use Rattle.std.proofs.Math.Path.{fun_ext}
use Rattle.ny_num.specs.declared.rate.Rate.{Rate}
use Rattle.ny_num.specs.declared.timing.Timing.{Timing}
use Rattle.ny_num.specs.Grid.{hz_of}
use Rattle.ny_num.specs.Resampling.{is_same_rate, resampled, resampled_timing, other_rate_timing, interpolated}
use Rattle.ny_num.specs.Sound as sounds
use Rattle.ny_num.specs.Sound.{IsTiming, timing_of, value_at, sound_of}
use Rattle.ny_units.specs.Neighbours.{known_at, between}
use Rattle.ny_units.specs.Resamplings.{next_after}
use Rattle.ny_heap.specs.declared.make.Make.TheVariants.{Resample}
use Rattle.ny_timing.proofs.SameRates.{same}
use Rattle.ny_hands.specs.Made.{made_of}
use Rattle.ny_hands.proofs.HeardLemmas.{value_before}

-- ---- rates

pub resampled_same : (rate : Rate) (s : sounds.Sound) → s.rate ≡ rate → resampled rate s ≡ s
unfolding resampled
resampled_same rate s same = ap (λ b. if b then s else sound_of (other_rate_timing rate (timing_of s)) (interpolated rate s)) (eq-eqb (hz_of s.rate) (hz_of rate) (ap hz_of same))

pub timing_rate : (t : Timing) (s : sounds.Sound) → t ≡ timing_of s → t.rate ≡ s.rate
unfolding timing_of
timing_rate t s is = ap (λ (u : Timing). u.rate) is

pub same_rate : (a b : Rate) → is_same_rate a b ≡ true → a ≡ b
same_rate a b e = same a b e

-- when a sound is heard at another rate
pub other_timing : (t u : Timing) (rate : Rate) → t ≡ resampled_timing rate u → is_same_rate u.rate rate ≡ false → t ≡ other_rate_timing rate u
unfolding resampled_timing
other_timing t u rate is other = is ∙ ap (λ b. if b then u else other_rate_timing rate u) other

-- ---- values

-- what a resampling knows at its beginning are the sound's values: there is none before its start
known_is : (m : sounds.Sound) → known_at m.start (pos 0) (pos 0) (value_at m) ≡ value_at m
known_is m = fun_ext (λ p. at p)
  where
    at : (p : ℕ) → (if p + 2 == m.start then pos 0 else (if p + 1 == m.start then pos 0 else value_at m p)) ≡ value_at m p
    at p = elim (eqb_tells (p + 2) m.start) [
      | inl two ↦ ap (λ b. if b then pos 0 else (if p + 1 == m.start then pos 0 else value_at m p)) two.0 ∙ sym (value_before m p (omega (arith, two.1)))
      | inr not_two ↦ ap (λ b. if b then pos 0 else (if p + 1 == m.start then pos 0 else value_at m p)) not_two.0 ∙ by_one p
    ]
      where
        by_one : (p : ℕ) → (if p + 1 == m.start then pos 0 else value_at m p) ≡ value_at m p
        by_one p = elim (eqb_tells (p + 1) m.start) [
          | inl one ↦ ap (λ b. if b then pos 0 else value_at m p) one.0 ∙ sym (value_before m p (omega (arith, one.1)))
          | inr not_one ↦ ap (λ b. if b then pos 0 else value_at m p) not_one.0
        ]

between_is : (rate : Rate) (m : sounds.Sound) (k : ℕ) → between m.rate rate (value_at m) k ≡ interpolated rate m k
unfolding interpolated
between_is rate m k = refl

-- a resampling of a sound is the sound, brought to its rate
pub brought_is : (t : Timing) (rate : Rate) (m : sounds.Sound) → t ≡ other_rate_timing rate (timing_of m) → t.rate ≡ rate → is_same_rate m.rate rate ≡ false → made_of Resample t m ≡ resampled rate m
unfolding resampled timing_of
brought_is t rate m when at_rate other =
    ap (sound_of t) (fun_ext (λ k. ap (λ n. between m.rate t.rate (known_at (next_after (timing_of m) t n) (pos 0) (pos 0) (value_at m)) k) none ∙ (ap (λ f. between m.rate t.rate f k) (known_is m) ∙ (ap (λ r. between m.rate r (value_at m) k) at_rate ∙ between_is rate m k))))
    ∙ (ap (λ u. sound_of u (interpolated rate m)) when
    ∙ sym (ap (λ b. if b then m else sound_of (other_rate_timing rate (timing_of m)) (interpolated rate m)) other))
  where
    none : t.start - t.start ≡ 0
    none = omega arith
