use Rattle.std.proofs.Common.{◌≡◌, ◌≤◌, ◌+◌, ◌++◌, drop, map, length}
use Rattle.ny_syntax.specs.Sizes.{total, declaration_size}
use Rattle.ny_resolve.specs.Faults.{earliest_after}
use Rattle.ny_resolve.specs.Sizes.{declared_size}
use Rattle.ny_resolve.specs.Declarations.{ReadDeclarations, declarations_read, declaring_of}
use Rattle.ny_resolve.proofs.declarations.declarations_read.Given as goal

abbrev pub invariant-loop-i : goal.invariant-loop-i
invariant-loop-i l =
    let whole : ReadDeclarations = declarations_read (declaring_of l.names) 0 l.declarations in
    let rest : ReadDeclarations = declarations_read (declaring_of l.names) l.i (drop l.i l.declarations) in
    record {
      declared : l.done ++ rest.declared ≡ whole.declared;
      first : earliest_after l.first rest.faults ≡ earliest_after l.fn.first whole.faults;
      small : total (map declared_size l.done) + total (map declaration_size (drop l.i l.declarations)) ≤ total (map declaration_size l.declarations);
      count : length l.done ≡ l.i;
    }
