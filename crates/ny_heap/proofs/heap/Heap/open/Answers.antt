use Rattle.std.proofs.Common.{refl, arith}
use Rattle.ny_heap.proofs.LawLemmas.{heap_laws}
use Rattle.ny_heap.proofs.WantLemmas.{opened_inside}
use Rattle.ny_heap.proofs.heap.Heap.open.Goals as goal

pub invariant_of-result : goal.invariant_of-result
invariant_of-result g c =
    opened_inside _ _ _ c.args.pool c.args.block c.in_ok-out.out.items c.in_ok-open.ensures.opened c.new.ensures.items refl c.in_ok-open.ensures.laws (omega (arith, c.in_ok-out.ensures.len, c.in_ok-out.out.ok.0))

pub returns-clause-laws : goal.returns-clause-laws
returns-clause-laws g c = heap_laws g.row.B.Denot _ _ (invariant_of-result g c).heap (invariant_of-result g c).have 0 0
