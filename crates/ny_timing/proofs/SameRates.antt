-- Rates of as many samples a second are one rate.
use Rattle.std.proofs.Common.{◌≡◌, ℕ, true, refl, sym, ap, ◌∙◌}
use Rattle.std.specs.Prelude.{nat_eq, if◌then◌else◌}
use Rattle.std.proofs.lemmas.Bool.{eqb-true}
use Rattle.ny_num.specs.Grid.{hz_of}
use Rattle.ny_num.specs.declared.rate.Rate.{Rate}
use Rattle.ny_num.specs.declared.rate.Rate.TheVariants.{R2205, R4410, R8000, R11025, R16000, R22050, R32000, R44100, R48000}
use Rattle.ny_num.specs.Resampling.{is_same_rate}

-- the rate of so many samples a second
abbrev rate_with : ℕ → Rate
rate_with n =
    if nat_eq n 2205 then R2205 else (
    if nat_eq n 4410 then R4410 else (
    if nat_eq n 8000 then R8000 else (
    if nat_eq n 11025 then R11025 else (
    if nat_eq n 16000 then R16000 else (
    if nat_eq n 22050 then R22050 else (
    if nat_eq n 32000 then R32000 else (
    if nat_eq n 44100 then R44100 else (
    R48000))))))))

back : (r : Rate) → rate_with (hz_of r) ≡ r
back R2205 = refl
back R4410 = refl
back R8000 = refl
back R11025 = refl
back R16000 = refl
back R22050 = refl
back R32000 = refl
back R44100 = refl
back R48000 = refl

pub same : (a b : Rate) → is_same_rate a b ≡ true → a ≡ b
same a b h = sym (back a) ∙ ap rate_with (eqb-true (hz_of a) (hz_of b) h) ∙ back b

pub ruleset by_hz = (same)
