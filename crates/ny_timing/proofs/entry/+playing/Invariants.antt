use Rattle.std.proofs.Common.{◌+◌, ◌*◌}
use Rattle.ny_timing.proofs.entry.+playing.Given as goal

abbrev pub decreases-plays : goal.decreases-plays
decreases-plays l = 2 * l.e.0

abbrev pub decreases-body_plays : goal.decreases-body_plays
decreases-body_plays l = 2 * l.body.0 + 1
