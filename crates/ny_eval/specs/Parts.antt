-- The parts of a mix: several expressions in the same names, or one expression so many times, in which a name stands for 0, 1, and so on.
use Rattle.std.specs.Prelude.{ℕ, ◌<◌, List, length, get_or}
use Rattle.ny_check.specs.Code.{AllBelow}
use Rattle.ny_hands.specs.Frames.{Names}
use Rattle.ny_trace.specs.Evaluates.{Part, parts_of, counted_names, counted_parts}
use Rattle.ny_eval.specs.declared.parts.Parts.{Parts}
use Rattle.ny_eval.specs.declared.parts.Parts.TheVariants.{Listed, Counted}

abbrev pub count_in : Parts → ℕ
count_in (Listed es) = length es.now
count_in (Counted i count e) = count

-- the parts under names
abbrev pub parts_in : Names → Parts → List Part
parts_in names (Listed es) = parts_of names es.now
parts_in names (Counted i count e) = counted_parts names i count e

-- the part at a place
abbrev pub part_at : Names → Parts → ℕ → Part
part_at names (Listed es) k = (get_or es.now k (record { 0 = 0 }), names)
part_at names (Counted i count e) k = (e, counted_names names i k)

-- their expressions stand before node n
abbrev pub AreBelow : ℕ → Parts → Type 0
AreBelow n (Listed es) = AllBelow n es.now
AreBelow n (Counted i count e) = e.0 < n
