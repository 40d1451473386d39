-- A list under test: 20 samples in blocks of 16, with a cursor.
use Rattle.std.specs.Prelude.{◌≡◌, ℕ, ◌<◌, length, Some, slice_index_or}
use Rattle.ny_list.specs.Store.{ListState, StoreState, CursorState, list_at, stands_in}
use Rattle.ny_list.specs.Laws.{StoreLaws}

-- n blocks of list l are filled, and this cursor of it stands somewhere among them
pub record Plays (s : StoreState) (l : ℕ) (c : CursorState) (n : ℕ) : Type 0 where
  pub laws : StoreLaws s
  pub block : s.block ≡ 16
  pub list : ListState
  pub there : list_at s l ≡ Some list
  pub len : list.len ≡ 20
  pub filled : length list.values ≡ n
  pub of : c.list ≡ l
  pub mark : 0 < slice_index_or list.marks (stands_in 16 20 c.place) 0
