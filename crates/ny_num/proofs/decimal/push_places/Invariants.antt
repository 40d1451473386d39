use Rattle.std.proofs.Common.{◌≡◌, ◌<◌, ◌-◌, ◌^◌, ◌++◌}
use Rattle.ny_num.specs.Decimal.{in_digits, without_last_zeros}
use Rattle.ny_num.proofs.decimal.push_places.Given as goal

-- what is written and what the rest still writes make the whole text
abbrev pub invariant-loop-place : goal.invariant-loop-place
invariant-loop-place l = record {
  within : l.rest < 10 ^ (6 - l.place);
  same : l.text.items ++ without_last_zeros (in_digits (6 - l.place) l.rest)
      ≡ l.initial.text.items ++ without_last_zeros (in_digits 6 l.initial.rest);
}
