-- Where an operator makes a number or a test, nothing is heard.
use Rattle.std.proofs.Common.{◌≡◌, Bool, refl, ℤ}
use Rattle.ny_num.specs.declared.rate.Rate.{Rate}
use Rattle.ny_check.specs.declared.value.Scalar.{Scalar}
use Rattle.ny_check.specs.declared.value.Scalar.TheVariants as scalar
use Rattle.ny_timing.specs.declared.found.Found.{Found}
use Rattle.ny_timing.specs.declared.found.Found.TheVariants.{Number}
use Rattle.ny_kernels.specs.declared.operation.Op.{Op}
use Rattle.ny_check.specs.Values.{of_numbers}
use Rattle.ny_check.specs.Families.{fix_operation, pair_timing}
use Rattle.ny_timing.specs.Timings.{no_time, combined_times}
use Rattle.ny_timing.specs.Found.{scalar_of_found, value_of_found}

abbrev IsNoSound : Scalar → Type 0
IsNoSound (scalar.Number v) = Unit {0}
IsNoSound (scalar.Test b) = Unit {0}
IsNoSound scalar.Sound = ⊥

no_sound : (o : Op) (rate : Rate) (a b : Found) → IsNoSound (of_numbers (fix_operation o) (scalar_of_found a) (scalar_of_found b)) → combined_times (pair_timing o) rate (value_of_found rate a) (value_of_found rate b) ≡ no_time rate
no_sound o rate (Number x) (Number y) h = refl
no_sound o rate _ _ h = absurd h

is_number : (s : Scalar) (v : ℤ) → s ≡ scalar.Number v → IsNoSound s
is_number (scalar.Number w) v e = tt
is_number (scalar.Test b) v e = tt
is_number scalar.Sound v e = absurd (cc)

is_test : (s : Scalar) (b : Bool) → s ≡ scalar.Test b → IsNoSound s
is_test (scalar.Number w) b e = tt
is_test (scalar.Test c) b e = tt
is_test scalar.Sound b e = absurd (cc)

pub no_sound_by_number : (o : Op) (rate : Rate) (a b : Found) (s : Scalar) (v : ℤ) → s ≡ of_numbers (fix_operation o) (scalar_of_found a) (scalar_of_found b) → s ≡ scalar.Number v → no_time rate ≡ combined_times (pair_timing o) rate (value_of_found rate a) (value_of_found rate b)
no_sound_by_number o rate a b s v is number = let h : IsNoSound (of_numbers (fix_operation o) (scalar_of_found a) (scalar_of_found b)) = is_number _ v (cc) in let e = no_sound o rate a b h in cc

pub no_sound_by_test : (o : Op) (rate : Rate) (a b : Found) (s : Scalar) (t : Bool) → s ≡ of_numbers (fix_operation o) (scalar_of_found a) (scalar_of_found b) → s ≡ scalar.Test t → no_time rate ≡ combined_times (pair_timing o) rate (value_of_found rate a) (value_of_found rate b)
no_sound_by_test o rate a b s t is test = let h : IsNoSound (of_numbers (fix_operation o) (scalar_of_found a) (scalar_of_found b)) = is_test _ t (cc) in let e = no_sound o rate a b h in cc

pub ruleset by_kind = (no_sound_by_number, no_sound_by_test)
