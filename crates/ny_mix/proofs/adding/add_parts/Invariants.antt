use Rattle.ny_mix.proofs.Parts.{PartsSoFar}
use Rattle.ny_mix.proofs.adding.add_parts.Given as goal

abbrev pub invariant-loop-i : goal.invariant-loop-i
invariant-loop-i l = PartsSoFar l.reads l.parts l.m l.i l.initial.out l.out
