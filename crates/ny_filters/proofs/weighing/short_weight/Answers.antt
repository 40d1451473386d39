use Rattle.std.proofs.Common.{◌≡◌, ◌*ℤ◌, ◌≤ℤ◌, pos, neg_ℤ, sym, subst, arith, w64, to_z, of_z}
use Rattle.std.proofs.lemmas.Int.{ints}
use Rattle.ny_num.specs.Numbers.{IsSample}
use Rattle.ny_filters.proofs.Products.{weight_short, weight_exact}
use Rattle.ny_filters.proofs.weighing.short_weight.Goals as goal

sample : (c : goal.After-from) → IsSample c.args.sample
sample c = subst IsSample c.micro-2.ensures.value c.micro-2.ensures.within

exact : (c : goal.After-from) → to_z w64 (of_z w64 (to_z w64 (of_z w64 c.micro.result) *ℤ to_z w64 (of_z w64 c.from.result))) ≡ c.args.factor *ℤ c.args.sample
exact c = weight_exact c.args.factor c.args.sample c.micro.result c.from.result c.micro.ensures.value (omega (arith, ints)) c.requires.small (sample c) (omega (arith, ints)) (omega (arith, ints))

pub returns-clause-value : goal.returns-clause-value
returns-clause-value c = exact c

pub returns-clause-low : goal.returns-clause-low
returns-clause-low c = subst (λ z. neg_ℤ (pos 576460752303423488) ≤ℤ z) (sym (exact c)) (weight_short c.args.factor c.args.sample c.requires.small (sample c)).0

pub returns-clause-high : goal.returns-clause-high
returns-clause-high c = subst (λ z. z ≤ℤ pos 576460752303423488) (sym (exact c)) (weight_short c.args.factor c.args.sample c.requires.small (sample c)).1
