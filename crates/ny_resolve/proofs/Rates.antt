-- The rates by their numbers.
use Rattle.std.proofs.Common.{◌≡◌, ◌≢◌, ◌≤◌, ◌<◌, ℕ, ◌*◌, ◌/◌, ◌%◌, List, [], ◌∷◌, Option, Some, None, IfSome, IfNone, Bool, refl, ap, sym, ◌∙◌, arith}
use Rattle.std.specs.Prelude.{if◌then◌else◌}
use Rattle.std.proofs.lemmas.Bool.{ne_eqb}
use Rattle.ny_num.specs.Grid.{hz_of}
use Rattle.ny_num.specs.declared.rate.Rate.{Rate}
use Rattle.ny_num.specs.declared.rate.Rate.TheVariants as rate
use Rattle.ny_resolve.specs.Literals.{all_rates, first_at, rate_at}

rate_at-hz : (r : Rate) → Some r ≡ rate_at (hz_of r * 1000000)
rate_at-hz rate.R2205 = refl
rate_at-hz rate.R4410 = refl
rate_at-hz rate.R8000 = refl
rate_at-hz rate.R11025 = refl
rate_at-hz rate.R16000 = refl
rate_at-hz rate.R22050 = refl
rate_at-hz rate.R32000 = refl
rate_at-hz rate.R44100 = refl
rate_at-hz rate.R48000 = refl

hz_of-le : (r : Rate) → hz_of r ≤ 48000
hz_of-le rate.R2205 = omega arith
hz_of-le rate.R4410 = omega arith
hz_of-le rate.R8000 = omega arith
hz_of-le rate.R11025 = omega arith
hz_of-le rate.R16000 = omega arith
hz_of-le rate.R22050 = omega arith
hz_of-le rate.R32000 = omega arith
hz_of-le rate.R44100 = omega arith
hz_of-le rate.R48000 = omega arith

first_at-none : (n : ℕ) (rs : List Rate) → ((r : Rate) → hz_of r * 1000000 ≢ n) → None ≡ first_at n rs
first_at-none n [] h = refl
first_at-none n (r ∷ rs) h = first_at-none n rs h ∙ ap (λ (b : Bool). if b then Some r else first_at n rs) (sym (ne_eqb (hz_of r * 1000000) n (h r)))

pub rate_of_hz : (found : Option Rate) (n : ℕ) → n % 1000000 ≡ 0 → IfSome found (λ r. hz_of r ≡ n / 1000000) → IfNone found ((r : Rate) → hz_of r ≢ n / 1000000) → found ≡ rate_at n
rate_of_hz (Some r) n whole is none =
    let same : hz_of r ≡ n / 1000000 = is in
    let all : hz_of r * 1000000 ≡ n = omega arith in
    rate_at-hz r ∙ ap rate_at all
rate_of_hz None n whole is none = first_at-none n all_rates (λ r e. none r (omega arith))

pub no_rate : (n : ℕ) → (n % 1000000 ≡ 0 → 48000000000 < n) → None ≡ rate_at n
no_rate n h = first_at-none n all_rates (λ r e. absurd (omega (arith, hz_of-le r)))

pub ruleset rate_laws = (rate_of_hz, no_rate)
