-- The units of effects.
use Rattle.std.specs.Prelude.{List, ℤ}
use Rattle.ny_num.specs.declared.rate.Rate.{Rate}
use Rattle.ny_num.specs.Filters.{comb_delay}
use Rattle.ny_check.specs.declared.node.Effect.{Effect}
use Rattle.ny_check.specs.declared.node.Effect.TheVariants as effect
use Rattle.ny_check.specs.Families.{number_at}
use Rattle.ny_filters.specs.declared.filter.Filter.TheVariants as filter
use Rattle.ny_heap.specs.declared.make.Make.{Make}
use Rattle.ny_heap.specs.declared.make.Make.TheVariants as make

-- the unit that computes an effect of these numbers, where the sound has this rate
abbrev pub make_of : Effect → List ℤ → Rate → Make
make_of effect.Abs ns rate = make.Abs
make_of effect.OnePole ns rate = make.Filter (filter.OnePole (number_at ns 0))
make_of effect.Biquad ns rate =
    make.Filter (filter.Biquad (number_at ns 0) (number_at ns 1) (number_at ns 2) (number_at ns 3) (number_at ns 4))
make_of effect.Comb ns rate = make.Filter (filter.Comb (comb_delay rate (number_at ns 0)) (number_at ns 1))
