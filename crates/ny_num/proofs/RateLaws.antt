-- A rate is known by its samples a second, and sounds keep theirs.
use Rattle.std.proofs.Common.{arith, ◌≡◌, ℕ, ◌==◌, Bool, true, false, if◌then◌else◌, refl, sym, ap, ◌∙◌}
use Rattle.std.proofs.lemmas.Bool.Decides.{nat_tests}
use Rattle.ny_num.specs.Grid.{hz_of}
use Rattle.ny_num.specs.Sound.{spanning}
use Rattle.ny_num.specs.Resampling.{is_same_rate, other_rate_timing, resampled_timing}
use Rattle.ny_num.specs.declared.rate.Rate.{Rate}
use Rattle.ny_num.specs.declared.rate.Rate.TheVariants.{R2205, R4410, R8000, R11025, R16000, R22050, R32000, R44100, R48000}
use Rattle.ny_num.specs.declared.timing.Timing.{Timing}

-- the rate of so many samples a second
abbrev rate_at : ℕ → Rate
rate_at hz =
    if hz == 2205 then R2205 else (
    if hz == 4410 then R4410 else (
    if hz == 8000 then R8000 else (
    if hz == 11025 then R11025 else (
    if hz == 16000 then R16000 else (
    if hz == 22050 then R22050 else (
    if hz == 32000 then R32000 else (
    if hz == 44100 then R44100 else (
    R48000))))))))

rate_at-hz : (r : Rate) → rate_at (hz_of r) ≡ r
rate_at-hz R2205 = refl
rate_at-hz R4410 = refl
rate_at-hz R8000 = refl
rate_at-hz R11025 = refl
rate_at-hz R16000 = refl
rate_at-hz R22050 = refl
rate_at-hz R32000 = refl
rate_at-hz R44100 = refl
rate_at-hz R48000 = refl

pub hz_of-injective : (a b : Rate) → hz_of a ≡ hz_of b → a ≡ b
hz_of-injective a b same = sym (rate_at-hz a) ∙ ap rate_at same ∙ rate_at-hz b

equal : (n m : ℕ) → (n == m) ≡ true → n ≡ m
equal n m same = grind (arith, nat_tests)

pub same_rate : (a b : Rate) → is_same_rate a b ≡ true → a ≡ b
same_rate a b same = hz_of-injective a b (equal (hz_of a) (hz_of b) same)

pub resampled_timing-rate : (to : Rate) (t : Timing) → (resampled_timing to t).rate ≡ to
unfolding resampled_timing other_rate_timing spanning
resampled_timing-rate to t = by_rates (is_same_rate t.rate to) refl
  where
    by_rates : (same : Bool) → is_same_rate t.rate to ≡ same → (if same then t else other_rate_timing to t).rate ≡ to
    by_rates true e = same_rate t.rate to e
    by_rates false e = refl
