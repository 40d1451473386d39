use Rattle.std.proofs.Common.{length, arith}
use Rattle.ny_kinds.proofs.Stack.{missing_is, before_wider}
use Rattle.ny_kinds.proofs.resolve.root_kind.Goals as goal

pub resolve-requires-clause-callers : goal.resolve-requires-clause-callers
resolve-requires-clause-callers c =
    before_wider c.args.here (length c.args.ds.now) c.in-Err-Missing.callers c.requires.here
    (missing_is c.args.most c.args.here c.in-Err-Missing.field-0 c.in-Err-Missing.earlier c.in-Err-Missing.callers c.in-Err-Missing.field-0-is c.in-Err-Missing.ensures.missing).1
