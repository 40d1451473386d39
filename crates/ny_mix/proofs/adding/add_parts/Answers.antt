use Rattle.std.proofs.Common.{arith, length}
use Rattle.ny_mix.proofs.Parts.{parts_begin, part_ready, parts_more, parts_end}
use Rattle.ny_mix.proofs.adding.add_parts.Goals as goal

pub loop-i-init : goal.loop-i-init
loop-i-init c = parts_begin c.args.reads.now c.args.parts.now c.args.m c.args.over c.args.out.now c.requires.inside c.requires.gone c.requires.silent

pub add_part-requires-clause-ready : goal.add_part-requires-clause-ready
add_part-requires-clause-ready c = part_ready c.args.reads.now c.args.parts.now c.loop-i.i c.args.m (length c.args.out.now) (length c.loop-i.out) c.index-parts-i.result (omega arith) c.index-parts-i.is c.loop-i.invariant.long c.requires.ready

pub loop-i-preserved : goal.loop-i-preserved
loop-i-preserved c = parts_more c.args.reads.now c.args.parts.now c.args.m c.loop-i.i c.args.out.now c.loop-i.out c.add_part.new.out c.index-parts-i.result (omega arith) c.index-parts-i.is c.loop-i.invariant c.add_part.ensures.len c.add_part.ensures.samples

pub returns-clause-samples : goal.returns-clause-samples
returns-clause-samples c = parts_end c.args.reads.now c.args.parts.now c.args.m c.loop-i.i c.args.out.now c.loop-i.out (omega arith) c.loop-i.invariant
