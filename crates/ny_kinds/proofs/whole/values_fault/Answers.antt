use Rattle.ny_kinds.proofs.Joined.{values-step}
use Rattle.ny_kinds.proofs.whole.values_fault.Goals as goal

pub loop-i-preserved : goal.loop-i-preserved
loop-i-preserved c = record {
  known = c.in_ok-value_fault.ensures.known;
  fault = values-step c.args.ds.now c.loop-i.i c.loop-i.fault c.least-fault.result c.in_ok-value_fault.field-0 _ c.loop-i-test.true
      c.in_ok-value_fault.ensures.fault c.least-fault.ensures c.loop-i.invariant.fault;
}
