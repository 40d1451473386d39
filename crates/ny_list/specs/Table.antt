-- How a store keeps its lists. No public clause cites this module.
use Rattle.std.specs.Prelude.{◌≡◌, ◌≢◌, ℕ, ◌+◌, ◌-◌, ◌*◌, ◌/◌, ◌%◌, ◌<◌, ◌≤◌, ◌^◌, ◌==◌, if◌then◌else◌, Bool, true, false, List, map, length, take, drop, Option, None, Some, IsSome, is_some, count_by, sum_by, slice_index_or, ℤ}
use Rattle.std.specs.List.{range_with_len, sum}
use Rattle.std.specs.Option.{option_map, option_map_or}
use Rattle.ny_pool.specs.Blocks.{Blocks, IsTaken, in_block, HoldsWholeBlocks}
use Rattle.ny_pool.specs.Blocks as pool
use Rattle.ny_list.specs.declared.chain.Span.{Span}
use Rattle.ny_list.specs.declared.table.Entry.{Entry}
use Rattle.ny_list.specs.declared.table.Table.{Table}
use Rattle.ny_list.specs.Store.{ListState, StoreState, blocks_of, block_of}
use Rattle.ny_list.specs.Steps.{blank_below, with_change, with_loose, entered, left, settled, filled_with}
use Rattle.ny_list.specs.Chain.{place_of, IsChained}

abbrev pub entry_at : Table → ℕ → Option Entry
entry_at t l = slice_index_or t.lists l None

abbrev pub span_at : Table → ℕ → Option Span
span_at t l = option_map (λ x. x.span) (entry_at t l)

-- what is seen of block j of a list: so many of its samples
abbrev pub value_of : Table → ℕ → ℕ → ℕ → Option (List ℤ)
value_of t l len j = option_map (take (len - j * t.block)) (in_block t.pool (place_of t.links.items l j))

-- how many cursors stand in block j of a list
abbrev pub mark_of : Table → ℕ → Entry → ℕ → ℕ
mark_of t l x j = if j == x.span.filled then x.waiting else slice_index_or t.counts.items (place_of t.links.items l j) 0

abbrev pub list_state : Table → ℕ → Entry → ListState
list_state t l x = record {
  len = x.span.len;
  tag = x.tag;
  values = map (value_of t l x.span.len) (range_with_len 0 x.span.filled);
  marks = map (mark_of t l x) (range_with_len 0 (x.span.filled + 1));
}

-- what a block of the pool holds that is in no list
abbrev pub loose_of : Table → ℕ → Option (List ℤ)
loose_of t b = if is_some (slice_index_or t.links.items b None) then None else in_block t.pool b

abbrev pub loose_in : Table → List (Option (List ℤ))
loose_in t = map (loose_of t) (range_with_len 0 (length t.pool.blocks))

abbrev pub state_of : Table → StoreState
state_of t = record {
  block = t.block;
  lists = map (λ l. option_map (list_state t l) (entry_at t l)) (range_with_len 0 (length t.lists));
  loose = loose_in t;
}

-- how many blocks a list keeps
abbrev pub kept_in : Option Entry → ℕ
kept_in o = option_map_or (λ x. x.span.filled - x.span.gone) o 0

-- what holds of a list by itself
pub record IsEntry (t : Table) (l : ℕ) (x : Entry) : Type 0 where
  pub short : x.span.len < 2 ^ 32
  pub tagged : x.tag < 2 ^ 32
  pub order : x.span.gone ≤ x.span.filled
  pub filled : x.span.filled ≤ blocks_of t.block x.span.len
  pub counted : x.cursors ≡ sum (list_state t l x).marks
  pub few : x.cursors < 2 ^ 32

-- also in the midst of a call
pub record IsTable (t : Table) : Type 0 where
  pub some : 0 < t.block
  pub small : t.block < 2 ^ 32
  pub len : t.pool.len ≡ t.block
  pub few : length t.pool.blocks < 2 ^ 32
  pub links : length t.links.items ≡ length t.pool.blocks
  pub counts : length t.counts.items ≡ length t.pool.blocks
  pub whole : HoldsWholeBlocks t.pool
  pub chain : IsChained t.links.items (span_at t)
  pub taken : (b : ℕ) → IsSome (slice_index_or t.links.items b None) → IsTaken t.pool b
  pub lists : (l : ℕ) (x : Entry) → entry_at t l ≡ Some x → IsEntry t l x
  pub counted : pool.free_of t.pool + (count_by is_some (loose_in t) + sum_by kept_in t.lists) ≡ length t.pool.blocks

-- a cursor stands in the first block that a list keeps
abbrev pub IsSettled : Table → ℕ → Entry → Type 0
IsSettled t l x = x.span.gone < x.span.filled → 0 < mark_of t l x x.span.gone

-- between two calls
pub record IsStore (t : Table) : Type 0 where
  pub table : IsTable t
  pub settled : (l : ℕ) (x : Entry) → entry_at t l ≡ Some x → IsSettled t l x

-- list l, which was and is known so, is changed, and no other
pub record Changes (old new : Table) (l : ℕ) (change : ListState → ListState) (was now : Entry) : Type 0 where
  pub table : IsTable new
  pub block : new.block ≡ old.block
  pub state : state_of new ≡ with_change (state_of old) l change
  pub there : entry_at old l ≡ Some was
  pub after : entry_at new l ≡ Some now
  pub len : now.span.len ≡ was.span.len
  pub others : (m : ℕ) → m ≢ l → entry_at new m ≡ entry_at old m

-- a cursor can stand in block j of list l
pub record CanStand (t : Table) (l j : ℕ) : Type 0 where
  pub entry : Entry
  pub there : entry_at t l ≡ Some entry
  pub from : entry.span.gone ≤ j
  pub upto : j ≤ entry.span.filled

-- list l keeps its block j
pub record HasBlock (t : Table) (l j : ℕ) : Type 0 where
  pub entry : Entry
  pub there : entry_at t l ≡ Some entry
  pub from : entry.span.gone ≤ j
  pub below : j < entry.span.filled

pub record Enters (old new : Table) (l j : ℕ) : Type 0 where
  pub was : Entry
  pub now : Entry
  pub changes : Changes old new l (entered j) was now
  pub span : now.span ≡ was.span

pub record Leaves (old new : Table) (l j : ℕ) : Type 0 where
  pub was : Entry
  pub now : Entry
  pub changes : Changes old new l (left j) was now
  pub span : now.span ≡ was.span
  pub cursors : now.cursors < was.cursors

-- the first block that list l keeps has no cursor, or not
abbrev pub IsIdle : Table → ℕ → Entry → Bool → Type 0
IsIdle t l x true = (x.span.gone < x.span.filled) × (mark_of t l x x.span.gone ≡ 0)
IsIdle t l x false = IsSettled t l x

abbrev pub blanked : ℕ → ListState → ListState
blanked n s = record s { values = blank_below n s.values }

-- the blocks of list l before block n are given back
pub record GivesTo (old new : Table) (l n : ℕ) : Type 0 where
  pub was : Entry
  pub now : Entry
  pub changes : Changes old new l (blanked n) was now
  pub gone : now.span.gone ≡ n
  pub filled : now.span.filled ≡ was.span.filled

-- the first block that list l kept is given back
abbrev pub Gives : Table → Table → ℕ → Type 0
Gives old new l = (x : Entry) → entry_at old l ≡ Some x → GivesTo old new l (x.span.gone + 1)

-- the blocks of list l before each cursor are given back
pub record Settles (old new : Table) (l : ℕ) : Type 0 where
  pub was : Entry
  pub now : Entry
  pub changes : Changes old new l settled was now
  pub settled : IsSettled new l now

pub record Drops (old new : Table) (l from : ℕ) : Type 0 where
  pub was : Entry
  pub now : Entry
  pub changes : Changes old new l (λ s. settled (left from s)) was now
  pub settled : IsSettled new l now

pub record Moves (old new : Table) (l from to : ℕ) : Type 0 where
  pub was : Entry
  pub now : Entry
  pub changes : Changes old new l (λ s. settled (entered to (left from s))) was now
  pub settled : IsSettled new l now

-- list l has a block that is not filled, and block b holds samples and is in no list
pub record CanAppend (t : Table) (l b : ℕ) : Type 0 where
  pub entry : Entry
  pub there : entry_at t l ≡ Some entry
  pub unfilled : entry.span.filled < blocks_of t.block entry.span.len
  pub loose : slice_index_or t.links.items b None ≡ None
  pub samples : List ℤ
  pub holds : in_block t.pool b ≡ Some samples

-- block b, which holds these samples, is the next block of list l, which is changed so besides
pub record AppendsWith (old new : Table) (l b : ℕ) (samples : List ℤ) (change : ListState → ListState) (was now : Entry) : Type 0 where
  pub there : entry_at old l ≡ Some was
  pub table : IsTable new
  pub block : new.block ≡ old.block
  pub state : state_of new ≡ with_loose (with_change (state_of old) l (λ s. change (filled_with old.block samples s))) b None
  pub after : entry_at new l ≡ Some now
  pub others : (m : ℕ) → m ≢ l → entry_at new m ≡ entry_at old m

abbrev pub Appends : Table → Table → ℕ → ℕ → Type 0
Appends old new l b = (samples : List ℤ) → in_block old.pool b ≡ Some samples → (was : Entry) × (now : Entry) × AppendsWith old new l b samples (λ s. s) was now

pub record AddsWith (old new : Table) (l b : ℕ) (samples : List ℤ) : Type 0 where
  pub was : Entry
  pub now : Entry
  pub appends : AppendsWith old new l b samples settled was now
  pub settled : IsSettled new l now

abbrev pub Adds : Table → Table → ℕ → ℕ → Type 0
Adds old new l b = (samples : List ℤ) → in_block old.pool b ≡ Some samples → AddsWith old new l b samples

-- what is read of a list
abbrev pub run_of_list : Table → ℕ → Entry → ℕ → ℕ → List ℤ
run_of_list t l x from visible = take (visible - from) (drop (from % t.block) (block_of (list_state t l x) (from / t.block)))
