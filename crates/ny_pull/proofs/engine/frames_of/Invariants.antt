use Rattle.std.proofs.Common.{◌≡◌, max, drop}
use Rattle.ny_pull.specs.Places.{longest_of}
use Rattle.ny_pull.proofs.engine.frames_of.Given as goal

-- those so far and those that are left
abbrev pub invariant-loop-sound : goal.invariant-loop-sound
invariant-loop-sound l = max l.most (longest_of (drop l.sound-index l.sounds)) ≡ longest_of l.sounds
