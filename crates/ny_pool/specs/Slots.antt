-- What a contract sees of `Slots`: what each slot holds, in the order of their numbers.
use Rattle.std.specs.Prelude.{ℕ, List, Option, None, Some, IsSome, is_none, count_by, slice_index_or, slice_set}
use Rattle.std.specs.Borrow.{Lends, Fml, RattleType, MutBor}
use Rattle.ny_pool.specs.contracts.slots.Slots.{the_row}

module _ {T : Type 0} where
  -- what slot s holds: nothing where it is vacant, or where there is no such slot
  abbrev pub in_slot : List (Option T) → ℕ → Option T
  in_slot slots s = slice_index_or slots s None

  -- slot s holds a value
  abbrev pub IsInSlot : List (Option T) → ℕ → Type 0
  IsInSlot slots s = IsSome (in_slot slots s)

  -- how many slots are vacant
  abbrev pub spare_of : List (Option T) → ℕ
  spare_of slots = count_by is_none slots

  -- the slots once slot s holds v
  abbrev pub with_value : List (Option T) → ℕ → T → List (Option T)
  with_value slots s v = slice_set slots s (Some v)

-- once the borrow r ends, slot s holds the last value written through r
abbrev pub lends_value : (T : RattleType) → MutBor (List (Option T.Denot)) → ℕ → MutBor T.Denot → Fml
lends_value T slots s r = Lends (the_row T) T slots r (with_value slots.now s)
