use Rattle.std.proofs.Common.{◌≡◌, drop}
use Rattle.ny_resolve.specs.Faults.{earliest, earliest_after}
use Rattle.ny_resolve.specs.Declarations.{declared_after, names_faults, declaring_of, nothing_declared}
use Rattle.ny_resolve.proofs.declarations.all_names.Given as goal

abbrev pub invariant-loop-i : goal.invariant-loop-i
invariant-loop-i l = record {
  names : declared_after l.i (drop l.i l.declarations) (declaring_of l.names) ≡ declared_after 0 l.declarations nothing_declared;
  first : earliest_after l.first (names_faults l.i (drop l.i l.declarations) (declaring_of l.names))
      ≡ earliest (names_faults 0 l.declarations nothing_declared);
}
