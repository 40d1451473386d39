use Rattle.std.proofs.Common.{◌≡◌, ◌*◌, ◌++◌, ◌∷◌, map, drop, pos}
use Rattle.ny_check.specs.Behaviours.{breakpoints, breakpoints_after}
use Rattle.ny_units.specs.Envelopes.{corners}
use Rattle.ny_eval.specs.Knots.{knot_from}
use Rattle.ny_eval.proofs.envelope.knots.Given as goal

-- the knots so far, and those of the numbers that are left
abbrev pub invariant-loop-k : goal.invariant-loop-k
invariant-loop-k l = corners l.knots.items ++ map (knot_from l.env l.start) (breakpoints_after l.time (drop (2 * l.k) l.numbers)) ≡ map (knot_from l.env l.start) ((pos 0, pos 0) ∷ breakpoints l.numbers)
