use Rattle.std.proofs.Common.{◌≡◌, drop, map}
use Rattle.ny_resolve.specs.Literals.{all_literals, followed}
use Rattle.ny_resolve.specs.Reading.{reading, shape_of}
use Rattle.ny_resolve.proofs.literals.all_literals.Given as goal

abbrev pub invariant-loop-part : goal.invariant-loop-part
invariant-loop-part l = followed l.all (all_literals (map shape_of (map reading (drop l.part-index l.parts)))) ≡ all_literals (map shape_of (map reading l.parts))
