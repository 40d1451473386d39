-- What a contract sees of a store: lists of blocks, how many cursors stand where, and blocks that are in no list yet.
use Rattle.std.specs.Prelude.{ℕ, ◌+◌, ◌-◌, ◌*◌, ◌/◌, ◌%◌, ◌==◌, min, if◌then◌else◌, List, [], length, take, drop, Option, None, is_some, is_none, count_by, sum_by, slice_index_or, nat_lt, ℤ, refl}
use Rattle.std.specs.List.{position_or_len, sum}
use Rattle.std.specs.Option.{option_map_or}
use Rattle.std.specs.Coded.{Coded, code_by, coded×, coded_ℕ, coded_ℤ, coded_list, coded_option}

-- a list that is to have `len` samples, with the tag that its maker gave it. `values` has for each filled block its
-- samples, and None where the block was given back. `marks` has for each filled block, and for the next one to be
-- filled, how many cursors stand there
pub record ListState : Type 0 where
  pub len : ℕ
  pub tag : ℕ
  pub values : List (Option (List ℤ))
  pub marks : List ℕ

-- `block` is how many samples a block holds. `lists` has the lists by their numbers, and None where there is room for a
-- list. `loose` has for each block of the pool, by its number, its samples where it was taken and is not yet appended
pub record StoreState : Type 0 where
  pub block : ℕ
  pub lists : List (Option ListState)
  pub loose : List (Option (List ℤ))

-- a reader of a list: how many samples it has passed, how many of the list's samples it sees, and its list's tag
pub record CursorState : Type 0 where
  pub list : ℕ
  pub place : ℕ
  pub visible : ℕ
  pub tag : ℕ

abbrev pub list_code : Coded ListState
list_code =
    code_by
    (ℕ × (ℕ × (List (Option (List ℤ)) × List ℕ)))
    (coded× coded_ℕ (coded× coded_ℕ (coded× (coded_list (coded_option (coded_list coded_ℤ))) (coded_list coded_ℕ))))
    (λ x. (x.len, (x.tag, (x.values, x.marks))))
    (λ p. record { len = p.0; tag = p.1.0; values = p.1.1.0; marks = p.1.1.1 })
    (λ _. refl)

abbrev pub store_code : Coded StoreState
store_code =
    code_by
    (ℕ × (List (Option ListState) × List (Option (List ℤ))))
    (coded× coded_ℕ (coded× (coded_list (coded_option list_code)) (coded_list (coded_option (coded_list coded_ℤ)))))
    (λ s. (s.block, (s.lists, s.loose)))
    (λ p. record { block = p.0; lists = p.1.0; loose = p.1.1 })
    (λ _. refl)

abbrev pub cursor_code : Coded CursorState
cursor_code =
    code_by
    (ℕ × (ℕ × (ℕ × ℕ)))
    (coded× coded_ℕ (coded× coded_ℕ (coded× coded_ℕ coded_ℕ)))
    (λ c. (c.list, (c.place, (c.visible, c.tag))))
    (λ p. record { list = p.0; place = p.1.0; visible = p.1.1.0; tag = p.1.1.1 })
    (λ _. refl)

-- the list of this number
abbrev pub list_at : StoreState → ℕ → Option ListState
list_at s l = slice_index_or s.lists l None

-- the samples of a block of the pool that is in no list
abbrev pub loose_at : StoreState → ℕ → Option (List ℤ)
loose_at s b = slice_index_or s.loose b None

-- how many lists can be made before room for one more is asked for
abbrev pub spare_of : StoreState → ℕ
spare_of s = count_by is_none s.lists

-- ---- places

-- how many blocks a length has
abbrev pub blocks_of : ℕ → ℕ → ℕ
blocks_of block len = (len + (block - 1)) / block

-- the block in which a cursor stands: past the last one where it has passed the whole list
abbrev pub stands_in : ℕ → ℕ → ℕ → ℕ
stands_in block len place = if place == len then blocks_of block len else place / block

-- how many samples of a list are computed
abbrev pub computed_of : ℕ → ListState → ℕ
computed_of block x = min (length x.values * block) x.len

-- how many cursors a list has
abbrev pub cursors_of : ListState → ℕ
cursors_of x = sum x.marks

-- how many cursors stand in the block of this one
abbrev pub mark_at : StoreState → CursorState → ℕ
mark_at s c = option_map_or (λ x. slice_index_or x.marks (stands_in s.block x.len c.place) 0) (list_at s c.list) 0

-- ---- blocks

-- the first block in which a cursor stands, or the number after the last where none does
abbrev pub least : List ℕ → ℕ
least marks = position_or_len (λ m. nat_lt 0 m) marks

-- how many blocks a list keeps: those filled, from the least cursor's on. It keeps none where nobody reads it
abbrev pub kept_of : ListState → ℕ
kept_of x = length x.values - least x.marks

-- how many blocks are taken: each is in no list yet, or lies at or after the least cursor of its list
abbrev pub taken_of : StoreState → ℕ
taken_of s = count_by is_some s.loose + sum_by (λ o. option_map_or kept_of o 0) s.lists

-- how many blocks are free
abbrev pub free_of : StoreState → ℕ
free_of s = length s.loose - taken_of s

-- ---- samples

-- the samples that are kept of block j of a list: none where it was given back or is not filled
abbrev pub block_of : ListState → ℕ → List ℤ
block_of x j = option_map_or (λ samples. samples) (slice_index_or x.values j None) []

-- the samples from place `from` to the end of its block, no further than the cursor sees
abbrev pub run_of : StoreState → CursorState → ℕ → List ℤ
run_of s c from = option_map_or (λ x. take (c.visible - from) (drop (from % s.block) (block_of x (from / s.block)))) (list_at s c.list) []
