use Rattle.std.proofs.Common.{◌+◌, ◌*◌}
use Rattle.ny_eval.proofs.plays.+played.Given as goal

-- an expression before what is below it
abbrev pub decreases-played : goal.decreases-played
decreases-played l = 2 * l.e.0 + 1

abbrev pub decreases-played_block : goal.decreases-played_block
decreases-played_block l = 2 * l.e.0

abbrev pub decreases-played_call : goal.decreases-played_call
decreases-played_call l = 2 * l.e.0
