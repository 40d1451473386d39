use Rattle.ny_num.proofs.WholeDigits.{written-tenth}
use Rattle.ny_num.proofs.decimal.+push_whole.Goals as goal

pub returns : goal.returns
returns t c = written-tenth _ _ _ c.args.n c.if-n-lt10.false c.ranges.n.fits c.in_ok-push_whole.ensures c.in_ok-push-2.ensures.items
