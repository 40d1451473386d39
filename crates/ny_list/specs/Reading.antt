-- What is read of a list, beside its whole list of samples.
use Rattle.std.specs.Prelude.{◌≡◌, ℕ, ◌*◌, List, take, drop, None, Some, slice_index_or, ℤ}
use Rattle.ny_list.specs.Store.{ListState, StoreState, list_at}

-- what is kept of list l is what these samples have there
pub record Shows (s : StoreState) (l : ℕ) (xs : List ℤ) : Type 0 where
  pub kept : (x : ListState) (j : ℕ) (samples : List ℤ) → list_at s l ≡ Some x → slice_index_or x.values j None ≡ Some samples → samples ≡ take s.block (drop (j * s.block) xs)
