use Rattle.std.proofs.Common.{◌/◌, subst, sym, arith}
use Rattle.ny_num.specs.Leaves.{entry_at_phase}
use Rattle.ny_num.specs.Numbers.{IsSample}
use Rattle.ny_wave.proofs.Arches.{entry_sample}
use Rattle.ny_wave.proofs.Steps.{entry_read, whole_halves}
use Rattle.ny_wave.proofs.wave.Wave.at.Goals as goal

pub returns-clause-value : goal.returns-clause-value
unfolding entry_at_phase
returns-clause-value g c = entry_read g.row.N c.args.phase c.from.result c.index-samples-from.result c.self.inside.samples c.self.invariant.0 (omega arith) (omega arith) c.self.invariant.1

pub returns-clause-within : goal.returns-clause-within
returns-clause-within g c =
    subst IsSample (sym (entry_read g.row.N c.args.phase c.from.result c.index-samples-from.result c.self.inside.samples c.self.invariant.0 (omega arith) (omega arith) c.self.invariant.1))
    (entry_sample g.row.N (c.args.phase / (4294967296 / g.row.N)) (whole_halves g.row.N c.args.phase c.self.invariant.0 (omega arith)))
