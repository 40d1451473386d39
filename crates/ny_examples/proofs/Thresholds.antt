-- Where worked maps reach a value, and where the steps of a worked environment do.
use Rattle.std.proofs.Common.{◌≡◌, sym, arith}
use Rattle.std.proofs.lemmas.Bool.Decides.{nat_tests}
use Rattle.ny_num.specs.Numbers.{million}
use Rattle.ny_warp.specs.Maps.{map_value, IsThreshold}
use Rattle.ny_warp.specs.Warp.{placed_at}
use Rattle.ny_warp.specs.Environment.{opening, warped, least_local}
use Rattle.ny_warp.proofs.PlacedThreshold.{placing-threshold}
use Rattle.ny_warp.proofs.LeastInverse.{least_inverse-reached}
use Rattle.ny_examples.specs.Maps.{steep, flat, under_steep}

pub steep-least : IsThreshold (map_value steep) 1411200 705600
steep-least v = (λ late. grind (arith, nat_tests), λ early. grind (arith, nat_tests))

pub steep-least_before : IsThreshold (map_value steep) 1411199 705600
steep-least_before v = (λ late. grind (arith, nat_tests), λ early. grind (arith, nat_tests))

pub flat-least : IsThreshold (map_value flat) 1 2
flat-least v = (λ late. grind (arith, nat_tests), λ early. grind (arith, nat_tests))

pub ruleset least_times = (steep-least, steep-least_before, flat-least)

-- with no offset and the factor 1, a time is its own place
unmoved : IsThreshold (placed_at 0 million) 1411200 1411200
unmoved = placing-threshold 0 1411200 1000000 1411200 (omega arith) (omega arith) (omega arith) (omega arith)

-- the steps reach the stop of the first millisecond at its end
pub first_stop-least : least_local under_steep 1411200 ≡ 705600
unfolding opening warped
first_stop-least =
    sym (least_inverse-reached under_steep.steps 1411200 705600 (omega arith) (λ y early. (unmoved (map_value steep y)).1 ((steep-least y).1 early)) ((unmoved 1411200).0 (omega arith)))
