use Rattle.std.proofs.Common.{◌≡◌, ◌++◌, map, take, drop}
use Rattle.ny_num.specs.Leaves.{louder_value}
use Rattle.ny_units.proofs.loudness.at_loudness.Given as goal

-- the samples so far, and the others as they were
abbrev pub invariant-loop-sample : goal.invariant-loop-sample
invariant-loop-sample l = l.out ≡ map (louder_value l.loud) (take l.sample-index l.initial.out) ++ drop l.sample-index l.initial.out
