use Rattle.std.proofs.Common.{◌≤ℤ◌, pos, neg_ℤ, sym, subst}
use Rattle.ny_filters.proofs.Products.{product_small, product_exact}
use Rattle.ny_filters.proofs.width.short_product.Goals as goal

pub returns-clause-value : goal.returns-clause-value
returns-clause-value c = product_exact c.args.factor c.args.times c.ranges.factor c.ranges.times c.requires.small c.requires.least c.requires.greatest

pub returns-clause-low : goal.returns-clause-low
returns-clause-low c =
    subst (λ z. neg_ℤ (pos 2305843009213693952) ≤ℤ z) (sym (product_exact c.args.factor c.args.times c.ranges.factor c.ranges.times c.requires.small c.requires.least c.requires.greatest))
    (product_small c.args.factor c.args.times c.requires.small c.requires.least c.requires.greatest).0

pub returns-clause-high : goal.returns-clause-high
returns-clause-high c =
    subst (λ z. z ≤ℤ pos 2305843009213693952) (sym (product_exact c.args.factor c.args.times c.ranges.factor c.ranges.times c.requires.small c.requires.least c.requires.greatest))
    (product_small c.args.factor c.args.times c.requires.small c.requires.least c.requires.greatest).1
