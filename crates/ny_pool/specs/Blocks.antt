-- What a contract sees of a `Pool`: what each block holds, in the order of their numbers.
use Rattle.std.specs.Prelude.{◌≡◌, ℕ, ◌+◌, ◌<◌, List, length, Option, None, Some, IsSome, IfSome, is_none, count_by, option_and_then, slice_index_or, slice_get, slice_set, refl}
use Rattle.std.specs.Option.{option_map}
use Rattle.std.specs.Coded.{Coded, code_by, coded×, coded_ℕ, coded_list, coded_option}

-- a free block holds nothing, and a taken one its items, of which there are `len`
pub record Blocks (T : Type 0) : Type 0 where
  pub blocks : List (Option (List T))
  pub len : ℕ

abbrev pub blocks_code : {T : Type 0} → Coded T → Coded (Blocks T)
blocks_code {T} code =
    code_by
    (List (Option (List T)) × ℕ)
    (coded× (coded_list (coded_option (coded_list code))) coded_ℕ)
    (λ b. (b.blocks, b.len))
    (λ p. record { blocks = p.0; len = p.1 })
    (λ _. refl)

module _ {T : Type 0} where
  -- what block b holds: nothing where it is free, or where there is no such block
  abbrev pub in_block : Blocks T → ℕ → Option (List T)
  in_block p b = slice_index_or p.blocks b None

  -- item i of block b
  abbrev pub in_item : Blocks T → ℕ → ℕ → Option T
  in_item p b i = option_and_then (λ items. slice_get items i) (in_block p b)

  -- block b is taken
  abbrev pub IsTaken : Blocks T → ℕ → Type 0
  IsTaken p b = IsSome (in_block p b)

  -- how many blocks are free
  abbrev pub free_of : Blocks T → ℕ
  free_of p = count_by is_none p.blocks

  -- the pool once block b holds this, or nothing
  abbrev pub with_block : Blocks T → ℕ → Option (List T) → Blocks T
  with_block p b content = record p { blocks = slice_set p.blocks b content }

  -- the pool once item i of block b is v
  abbrev pub with_item : Blocks T → ℕ → ℕ → T → Blocks T
  with_item p b i v = with_block p b (option_map (λ items. slice_set items i v) (in_block p b))

  -- each taken block holds as many items as a block has
  abbrev pub HoldsWholeBlocks : Blocks T → Type 0
  HoldsWholeBlocks p = (b : ℕ) → IfSome (in_block p b) (λ items. length items ≡ p.len)

  -- block b was free and is taken now, with some items; all else is as before
  pub record Takes (old new : Blocks T) (b : ℕ) : Type 0 where
    pub within : b < length old.blocks
    pub was_free : in_block old b ≡ None
    pub items : List T
    pub whole : length items ≡ old.len
    pub after : new ≡ with_block old b (Some items)
    pub free : free_of new + 1 ≡ free_of old
