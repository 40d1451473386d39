-- What names stand for, by what they are kept with.
use Rattle.std.proofs.Common.{◌≡◌, ℕ, List, Option, take, sym, ap, subst, ◌∙◌}
use Rattle.std.specs.Prelude.{unwrap_or}
use Rattle.std.proofs.lemmas.List.{take-map}
use Rattle.std.proofs.lemmas.List.Elements.{All-take}
use Rattle.ny_scope.specs.Scopes.{last_of}
use Rattle.ny_scope.proofs.Mapped.{last_of-with, last_of-has}
use Rattle.ny_resolve.specs.declared.term.NameId.{NameId}
use Rattle.ny_resolve.specs.Keys.{same_name}
use Rattle.ny_check.specs.declared.value.Scalar.TheVariants as scalar
use Rattle.ny_check.specs.Values.{scalar_named, scalars_of, scalar_in}
use Rattle.ny_timing.specs.declared.names.Held.{Held}
use Rattle.ny_num.specs.declared.rate.Rate.{Rate}
use Rattle.ny_check.specs.declared.value.Scalar.{Scalar}
use Rattle.ny_check.specs.declared.value.Value.TheVariants as value
use Rattle.ny_timing.specs.declared.found.Found.{Found}
use Rattle.ny_timing.specs.Found.{time_of_found}
use Rattle.ny_timing.specs.Timings.{Timed, AllTimed, IsTimedName, IsTimedValue, timing_in, no_time}
use Rattle.ny_timing.specs.Held.{value_of_held, name_of_held, values_of_held}
use Rattle.ny_timing.proofs.NameScalars.{named_scalar}

abbrev held_at : NameId → List (NameId × Held) → Held → Held
held_at x names other = unwrap_or (last_of (same_name x) names) other

pub held_value : (x : NameId) (names : List (NameId × Held)) (other : Held) → unwrap_or (last_of (same_name x) (values_of_held names)) (value_of_held other) ≡ value_of_held (held_at x names other)
held_value x names other = last_of-with value_of_held (same_name x) names other

pub held_scalar : (x : NameId) (names : List (NameId × Held)) (other : Held) → scalar_in (value_of_held other) ≡ scalar.Sound → scalar_named x (scalars_of (values_of_held names)) ≡ scalar_in (value_of_held (held_at x names other))
held_scalar x names other none = named_scalar x (values_of_held names) (value_of_held other) none ∙ ap scalar_in (held_value x names other)

pub held_bounds : (x : NameId) (names : List (NameId × Held)) (other : Held) → AllTimed (values_of_held names) → IsTimedValue (value_of_held other) → IsTimedValue (value_of_held (held_at x names other))
held_bounds x names other all o = subst IsTimedValue (held_value x names other) (last_of-has IsTimedValue (same_name x) (values_of_held names) (value_of_held other) all o)

-- ---- what `leave` leaves

pub left_values : (names new : List (NameId × Held)) (len : ℕ) → new ≡ take len names → values_of_held new ≡ take len (values_of_held names)
left_values names new len is = ap values_of_held is ∙ sym (take-map name_of_held len names)

pub left_bounds : (names new : List (NameId × Held)) (len : ℕ) → new ≡ take len names → AllTimed (values_of_held names) → AllTimed (values_of_held new)
left_bounds names new len is all = subst AllTimed (sym (left_values names new len is)) (All-take IsTimedName len (values_of_held names) all)

-- ---- what `find` finds, `other` where the name stands for nothing

pub found_bounds : (x : NameId) (names : List (NameId × Held)) (found : Option Held) (other r : Held) → found ≡ last_of (same_name x) names → r ≡ unwrap_or found other → AllTimed (values_of_held names) → IsTimedValue (value_of_held other) → IsTimedValue (value_of_held r)
found_bounds x names found other r is or all o =
    subst (λ (h : Held). IsTimedValue (value_of_held h)) (sym (or ∙ ap (λ (f : Option Held). unwrap_or f other) is)) (held_bounds x names other all o)

pub found_scalar : (x : NameId) (names : List (NameId × Held)) (view : Timed) (found : Option Held) (other r : Held) (s : Scalar) → values_of_held names ≡ view → found ≡ last_of (same_name x) names → r ≡ unwrap_or found other → scalar_in (value_of_held other) ≡ scalar.Sound → s ≡ scalar_in (value_of_held r) → s ≡ scalar_named x (scalars_of view)
found_scalar x names view found other r s seen is or none value =
    value
    ∙ ap (λ (h : Held). scalar_in (value_of_held h)) (or ∙ ap (λ (f : Option Held). unwrap_or f other) is)
    ∙ sym (held_scalar x names other none)
    ∙ ap (λ (v : Timed). scalar_named x (scalars_of v)) seen

pub found_timing : (x : NameId) (names : List (NameId × Held)) (view : Timed) (found : Option Held) (other r : Held) (rate : Rate) (f : Found) → values_of_held names ≡ view → found ≡ last_of (same_name x) names → r ≡ unwrap_or found other → value_of_held other ≡ value.Sound (no_time rate) → time_of_found rate f ≡ timing_in rate (value_of_held r) → time_of_found rate f ≡ timing_in rate (unwrap_or (last_of (same_name x) view) (value.Sound (no_time rate)))
found_timing x names view found other r rate f seen is or none time =
    time
    ∙ ap (λ (h : Held). timing_in rate (value_of_held h)) (or ∙ ap (λ (o : Option Held). unwrap_or o other) is)
    ∙ ap (timing_in rate) (sym (held_value x names other))
    ∙ ap (λ (v : Timed). timing_in rate (unwrap_or (last_of (same_name x) v) (value_of_held other))) seen
    ∙ ap (λ v. timing_in rate (unwrap_or (last_of (same_name x) view) v)) none
