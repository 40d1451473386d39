use Rattle.std.proofs.Common.{◌≡◌, ℕ, ℤ, pos, List, arith}
use Rattle.ny_num.specs.Leaves.{wave_entry}
use Rattle.ny_num.proofs.WrittenLists.{by_places}
use Rattle.ny_wave.specs.Tables.{entries}
use Rattle.ny_wave.proofs.wave.Wave.bhaskara.Invariants.{EntriesSoFar}
use Rattle.ny_wave.proofs.wave.Wave.bhaskara.Goals as goal

whole : (n k : ℕ) (samples : List ℤ) → EntriesSoFar n k samples → k ≡ n → samples ≡ entries n
whole n k samples so_far end = by_places (wave_entry n) samples n k (pos 0) so_far.len end so_far.done

pub invariant_of-result : goal.invariant_of-result
invariant_of-result g c = (c.requires, whole g.row.N c.loop-k.k c.loop-k.samples c.loop-k.invariant (omega arith))

pub returns : goal.returns
returns g c = whole g.row.N c.loop-k.k c.loop-k.samples c.loop-k.invariant (omega arith)
