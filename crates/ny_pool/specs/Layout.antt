-- How a pool lies in memory. No public clause cites this module.
use Rattle.std.specs.Prelude.{◌≡◌, ◌≢◌, ℕ, zero, suc, ◌+◌, ◌*◌, ◌<◌, ◌≤◌, ◌==◌, nat_le, ◌||◌, ◌^◌, Bool, if◌then◌else◌, List, [], ◌∷◌, length, Option, None, Some, is_none, count_by, slice_range, All, AllPairs}
use Rattle.std.specs.List.{list_any}

-- block b is free where it was never taken, or where it was given back
abbrev pub is_free : List ℕ → ℕ → ℕ → Bool
is_free given used b = nat_le used b || list_any (λ g. g == b) given

module _ {T : Type 0} where
  -- what block b holds
  abbrev pub block_at : List T → List ℕ → ℕ → ℕ → ℕ → Option (List T)
  block_at items given used len b = if is_free given used b then None else Some (slice_range items (b * len) (b * len + len))

  -- n blocks from block b on
  abbrev pub blocks_from : List T → List ℕ → ℕ → ℕ → ℕ → ℕ → List (Option (List T))
  blocks_from items given used len b zero = []
  blocks_from items given used len b (suc n) = block_at items given used len b ∷ blocks_from items given used len (suc b) n

  -- the first `used` of n blocks lie in `items`, and `given` has those of them that are free, once each
  pub record IsLaidOut (items : List T) (given : List ℕ) (item_room given_room used n len : ℕ) : Type 0 where
    pub whole : length items ≡ used * len
    pub begun : used ≤ n
    pub few : n < 2 ^ 32
    pub items_fit : n * len ≤ item_room
    pub given_fit : n ≤ given_room
    pub apart : AllPairs (λ a b. a ≢ b) given
    pub within : All (λ b. b < used) given
    pub counted : length given + n ≡ used + count_by is_none (blocks_from items given used len 0 n)
