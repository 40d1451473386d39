-- How the blocks of a list hang together. No public clause cites this module.
use Rattle.std.specs.Prelude.{◌≡◌, ℕ, ◌+◌, ◌<◌, ◌≤◌, ◌==◌, ◌&&◌, Bool, false, if◌then◌else◌, nat_lt, slice_set, List, Option, None, Some, slice_index_or}
use Rattle.std.specs.List.{position_or_len}
use Rattle.std.specs.Option.{option_map, option_map_or}
use Rattle.ny_list.specs.declared.chain.Link.{Link}
use Rattle.ny_list.specs.declared.chain.Span.{Span}

-- which block of which list
pub record Home : Type 0 where
  pub list : ℕ
  pub number : ℕ

-- block j of list l
abbrev pub nth : ℕ → ℕ → Option Home
nth l j = Some (record { list = l; number = j })

-- which block of which list a block of the pool is
abbrev pub home_of : Option Link → Option Home
home_of o = option_map (λ x. record { list = x.list; number = x.number }) o

abbrev pub home_at : List (Option Link) → ℕ → Option Home
home_at links b = home_of (slice_index_or links b None)

-- the block after it in its list
abbrev pub next_at : List (Option Link) → ℕ → ℕ
next_at links b = option_map_or (λ x. x.next) (slice_index_or links b None) 0

-- whether it is block j of list l
abbrev pub is_block : ℕ → ℕ → Option Link → Bool
is_block l j o = option_map_or (λ x. (x.list == l) && (x.number == j)) o false

-- the number in the pool of block j of list l, or a number past all
abbrev pub place_of : List (Option Link) → ℕ → ℕ → ℕ
place_of links l j = position_or_len (is_block l j) links

-- the links once block b comes after the last block of a list that keeps any
abbrev pub with_next : Span → ℕ → List (Option Link) → List (Option Link)
with_next x b links = if nat_lt x.gone x.filled then slice_set links x.last (option_map {T = Link} {U = Link} (λ k. record k { next = b }) (slice_index_or links x.last None)) else links

-- a list that has block b as its last
abbrev pub longer : Span → ℕ → Span
longer x b = record x { filled = x.filled + 1; first = if x.gone == x.filled then b else x.first; last = b }

-- each list's blocks from `gone` to `filled` stand in the pool, each leads to the next, and no block stands twice
pub record IsChained (links : List (Option Link)) (spans : ℕ → Option Span) : Type 0 where
  pub once : (a b l j : ℕ) → home_at links a ≡ nth l j → home_at links b ≡ nth l j → a ≡ b
  pub home : (b l j : ℕ) → home_at links b ≡ nth l j → (x : Span) × (spans l ≡ Some x) × (x.gone ≤ j) × (j < x.filled)
  pub first : (l : ℕ) (x : Span) → spans l ≡ Some x → x.gone < x.filled → home_at links x.first ≡ nth l x.gone
  pub last : (l j : ℕ) (x : Span) → spans l ≡ Some x → x.gone ≤ j → j + 1 ≡ x.filled → home_at links x.last ≡ nth l j
  pub next : (b l j : ℕ) (x : Span) → home_at links b ≡ nth l j → spans l ≡ Some x → j + 1 < x.filled → home_at links (next_at links b) ≡ nth l (j + 1)
