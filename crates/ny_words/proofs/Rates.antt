-- The nine rates, by their samples a second.
use Rattle.std.proofs.Common.{◌≡◌, ◌≢◌, ℕ, ◌<◌, arith, Some, None, refl, ap, sym, ◌∙◌, IfSome, IfNone}
use Rattle.std.specs.declared.option.Option.{Option}
use Rattle.std.proofs.lemmas.Bool.{ne_eqb}
use Rattle.ny_num.specs.Grid.{hz_of}
use Rattle.ny_num.specs.declared.rate.Rate.{Rate}
use Rattle.ny_num.specs.declared.rate.Rate.TheVariants.{R2205, R4410, R8000, R11025, R16000, R22050, R32000, R44100, R48000}
use Rattle.ny_words.specs.Words.{rate_with}

of_hz : (rate : Rate) → rate_with (hz_of rate) ≡ Some rate
of_hz R2205 = refl
of_hz R4410 = refl
of_hz R8000 = refl
of_hz R11025 = refl
of_hz R16000 = refl
of_hz R22050 = refl
of_hz R32000 = refl
of_hz R44100 = refl
of_hz R48000 = refl

no_hz : (hz : ℕ) → ((rate : Rate) → hz_of rate ≢ hz) → rate_with hz ≡ None
no_hz hz none =
    let other = λ (rate : Rate). ne_eqb (hz_of rate) hz (none rate) in
    rw (other R2205, other R4410, other R8000, other R11025, other R16000, other R22050, other R32000, other R44100, other R48000)

-- no rate has more than 48000 samples a second
pub too_fast : (hz : ℕ) → 48000 < hz → rate_with hz ≡ None
too_fast hz fast = no_hz hz slower
  where
    slower : (rate : Rate) → hz_of rate ≢ hz
    slower R2205 is = omega (arith, is, fast)
    slower R4410 is = omega (arith, is, fast)
    slower R8000 is = omega (arith, is, fast)
    slower R11025 is = omega (arith, is, fast)
    slower R16000 is = omega (arith, is, fast)
    slower R22050 is = omega (arith, is, fast)
    slower R32000 is = omega (arith, is, fast)
    slower R44100 is = omega (arith, is, fast)
    slower R48000 is = omega (arith, is, fast)

-- a rate that is found by its samples a second is the one of the table
pub rate_found : (found : Option Rate) (hz : ℕ) → IfSome found (λ rate. hz_of rate ≡ hz) → IfNone found ((rate : Rate) → hz_of rate ≢ hz) → found ≡ rate_with hz
rate_found None hz is none = sym (no_hz hz none)
rate_found (Some rate) hz is none = sym (ap rate_with (sym is) ∙ of_hz rate)
