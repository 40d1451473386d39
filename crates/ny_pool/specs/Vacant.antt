-- How `Slots` knows its vacant slots. No public clause cites this module.
use Rattle.std.specs.Prelude.{◌≡◌, ◌≢◌, ℕ, ◌<◌, ◌≤◌, ◌^◌, List, length, Option, None, is_none, count_by, slice_index_or, All, AllPairs}

module _ {T : Type 0} where
  -- `vacant` has the number of each slot without a value once, and room for as many as there are slots
  pub record AreVacant (slots : List (Option T)) (vacant : List ℕ) (capacity : ℕ) : Type 0 where
    pub few : length slots < 2 ^ 32
    pub room : length slots ≤ capacity
    pub apart : AllPairs (λ a b. a ≢ b) vacant
    pub within : All (λ s. s < length slots) vacant
    pub empty : All (λ s. slice_index_or slots s None ≡ None) vacant
    pub counted : length vacant ≡ count_by is_none slots
