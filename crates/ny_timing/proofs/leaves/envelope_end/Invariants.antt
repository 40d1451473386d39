use Rattle.std.proofs.Common.{◌≡◌, true, drop, pos}
use Rattle.ny_timing.specs.Envelopes.{end_after}
use Rattle.ny_timing.proofs.leaves.envelope_end.Given as goal

-- what the rest makes of the time so far
abbrev pub invariant-loop-number : goal.invariant-loop-number
invariant-loop-number l = end_after l.is_time l.time (drop l.number-index l.numbers) ≡ end_after true (pos 0) l.numbers
