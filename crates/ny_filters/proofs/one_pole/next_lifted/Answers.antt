use Rattle.ny_filters.proofs.Towards.{output_is}
use Rattle.std.proofs.Common.{pos, ◌-ℤ◌, arith}
use Rattle.std.proofs.lemmas.Int.{ints}
use Rattle.ny_filters.specs.Ways.{lift}
use Rattle.ny_filters.proofs.one_pole.next_lifted.Goals as goal

pub returns-clause-value : goal.returns-clause-value
returns-clause-value c =
    output_is c.args.share.now.micro c.args.output c.lifted.result c.towards.result (pos c.args.output -ℤ lift) c.args.input c.towards.ensures.within c.towards.ensures.value (omega (arith, ints)) c.lifted.ensures.value
