-- While a program is played, each unit of a heap is a row of the plan's table, and the parts that wait are those that make its next rows.
use Rattle.std.specs.Prelude.{◌≡◌, ◌≢◌, ◌⊎◌, ℕ, ◌+◌, ◌<◌, ◌≤◌, true, List, [], ◌∷◌, map, drop, length, Some, slice_index, slice_get}
use Rattle.std.specs.Option.{option_map}
use Rattle.std.specs.List.{AllZip}
use Rattle.ny_resolve.specs.declared.term.NameId.{NameId}
use Rattle.ny_warp.specs.declared.env.Env.{Env}
use Rattle.ny_check.specs.declared.node.ExprId.{ExprId}
use Rattle.ny_check.specs.declared.value.Value.{Value}
use Rattle.ny_check.specs.declared.value.Value.TheVariants.{Number, Sound as SoundOf}
use Rattle.ny_check.specs.Code.{Code}
use Rattle.ny_heap.specs.declared.sound.Sound.{Sound}
use Rattle.ny_heap.specs.Heap.{Reader, Captured, Waiting, Node, HeapState, node_at, input_at, list_of}
use Rattle.ny_hands.specs.declared.branch.Branch.{Branch}
use Rattle.ny_hands.specs.Frames as frames
use Rattle.ny_plan.specs.Rows.{RowSound, Input, Row, After, row_at}
use Rattle.ny_plan.specs.Need.{Filled, need, is_open, has_come}
use Rattle.ny_plan.specs.Units.{counted_from, parts_after}
use Rattle.ny_plan.specs.Plan as plans
use Rattle.ny_plan.specs.Plan.{part_of, made}
use Rattle.ny_heap.specs.Kinds.{unit_kind}
use Rattle.ny_plan.specs.StandsFor.{ReadsFor, Keeps}

-- ---- the table

-- these rows begin the whole table
pub record IsFirst (rows all : List Row) : Type 0 where
  pub short : length rows ≤ length all
  pub same : (k : ℕ) → k < length rows → row_at all k ≡ row_at rows k

-- ---- where units stand in it

-- the row of each unit, and the rows that its waiting parts will make: from one number on, and up to another
pub record Seats : Type 0 where
  pub row : ℕ → ℕ
  pub from : ℕ → ℕ
  pub upto : ℕ → ℕ

-- a sound in hand is that of the table
pub record IsSound (row : ℕ → ℕ) (s : Sound) (r : RowSound) : Type 0 where
  pub names : r.row ≡ option_map row (list_of s)
  pub timing : s.timing ≡ r.timing

-- what a name stands for is that of the table
abbrev pub IsValue : (ℕ → ℕ) → Value Sound → Value RowSound → Type 0
IsValue row (Number v) (Number w) = v ≡ w
IsValue row (SoundOf s) (SoundOf r) = IsSound row s r
IsValue row _ _ = ⊥

-- the same names stand for the same
abbrev pub AreNames : (ℕ → ℕ) → frames.Names → plans.Names → Type 0
AreNames row [] [] = Unit {0}
AreNames row (b ∷ bs) (c ∷ cs) = (b.0 ≡ c.0) × IsValue row b.1 c.1 × AreNames row bs cs
AreNames row _ _ = ⊥

-- ---- parts that wait

-- what a name of a waiting part stands for, over the sounds that the part keeps: a number, or the sound of that place
abbrev pub IsKeptValue : (ℕ → ℕ) → List Captured → Value ℕ → Value RowSound → Type 0
IsKeptValue row cs (Number v) (Number w) = v ≡ w
IsKeptValue row cs (SoundOf k) (SoundOf r) = (c : Captured) × (slice_get cs k ≡ Some c) × Keeps row c r
IsKeptValue row cs _ _ = ⊥

abbrev pub AreKeptNames : (ℕ → ℕ) → List Captured → List (NameId × Value ℕ) → plans.Names → Type 0
AreKeptNames row cs [] [] = Unit {0}
AreKeptNames row cs (b ∷ bs) (n ∷ ns) = (b.0 ≡ n.0) × IsKeptValue row cs b.1 n.1 × AreKeptNames row cs bs ns
AreKeptNames row cs _ _ = ⊥

-- A part of a sequence as the plan has it: an expression, and what the names that are free in it stand for.
abbrev pub Part : Type 0
Part = ExprId × plans.Names

-- a waiting part is this one: the same expression in this environment, and its names stand for the same
pub record IsPart (row : ℕ → ℕ) (env : Env) (p : Waiting Branch) (q : Part) : Type 0 where
  pub expr : p.branch.expr ≡ q.0
  pub there : p.branch.env ≡ env
  pub names : AreKeptNames row p.captured p.branch.names q.1

-- what these parts make after this stop, one after the other, from these rows on
abbrev pub coming : Code → Env → ℕ → List Part → List Row → After (List Input)
coming code env stop parts rows = parts_after env stop (map (λ (q : Part). part_of code (made code) q.1 q.0) parts) rows

-- The parts that wait at a unit of row x make its inputs from number `at` on: after this stop, and from the rows on whose number the seats
-- tell. Each has captured what the input keeps
pub record Awaits (code : Code) (all : List Row) (seats : Seats) (u : ℕ) (x : Row) (unit : Node Branch) (at stop : ℕ) : Type 0 where
  pub env : Env
  pub parts : List Part
  pub rows : List Row
  pub before : IsFirst rows all
  pub from : length rows ≡ seats.from u
  pub after : IsFirst (After.rows (coming code env stop parts rows)) all
  pub upto : length (After.rows (coming code env stop parts rows)) ≡ seats.upto u
  pub inputs : drop at x.inputs ≡ map (counted_from x.timing.start) (After.gives (coming code env stop parts rows))
  pub rate : env.sound_rate ≡ x.timing.rate
  pub are : AllZip (IsPart seats.row env) unit.waiting parts
  pub keep : AllZip (λ p (i : Input). AllZip (Keeps seats.row) (Waiting.captured p) i.captured) unit.waiting (drop at x.inputs)

-- ---- units and rows

-- The unit u of row x, of which so many blocks are filled. The inputs that it was given are the first of the row's. While one is handed out it
-- has not been given it yet, and the parts that wait follow on it
pub record IsUnit (code : Code) (block : ℕ) (all : List Row) (seats : Seats) (u : ℕ) (x : Row) (done : ℕ) (unit : Node Branch) : Type 0 where
  pub kind : unit_kind unit.kind ≡ x.kind
  pub timing : unit.timing ≡ x.timing
  pub filled : unit.filled ≡ done
  pub few : length unit.inputs + unit.pending ≤ length x.inputs
  -- each that it was given has come
  pub come : (k : ℕ) (i : Input) → slice_get x.inputs k ≡ Some i → k < length unit.inputs → has_come block done i ≡ true
  -- it is read by a reader that hears it so
  pub readers : (k : ℕ) (r : Reader) → input_at unit k ≡ Some r → (i : Input) × (slice_get x.inputs k ≡ Some i) × ReadsFor seats.row i r
  -- and it is read while some of it is left
  pub inputs : is_open block x done ≡ true → (k y : ℕ) (i : Input) → slice_get x.inputs k ≡ Some i → k < length unit.inputs →
      need block x i done < i.sound.timing.len → i.sound.row ≡ Some y → (r : Reader) × (input_at unit k ≡ Some r) × ReadsFor seats.row i r
  -- the others wait. The first of them follows the part that it was given last, unless another is in between
  pub awaits : is_open block x done ≡ true → (stop : ℕ) × (unit.pending ≡ 0 → stop ≡ unit.last_stop) ×
      Awaits code all seats u x unit (length unit.inputs + unit.pending) stop

-- ---- the whole heap

-- rows `from` up to `upto` are those of nobody: no unit is one of them, no waiting part will make one of them, and nothing of them is filled
pub record IsFree (filled : Filled) (h : HeapState Branch) (seats : Seats) (from upto : ℕ) : Type 0 where
  pub units : (v : ℕ) (y : Node Branch) → node_at h v ≡ Some y → (seats.row v < from) ⊎ (upto ≤ seats.row v)
  pub parts : (v : ℕ) (y : Node Branch) → node_at h v ≡ Some y → (seats.upto v ≤ from) ⊎ (upto ≤ seats.from v)
  pub unfilled : (k : ℕ) → from ≤ k → k < upto → slice_index filled k ≡ 0

-- Each unit is that of one row, and the rows that its waiting parts will make are its alone
pub record Matched (code : Code) (all : List Row) (filled : Filled) (h : HeapState Branch) (seats : Seats) : Type 0 where
  pub within : (u : ℕ) (x : Node Branch) → node_at h u ≡ Some x → seats.row u < length all
  pub apart : (u v : ℕ) (x y : Node Branch) → node_at h u ≡ Some x → node_at h v ≡ Some y → seats.row u ≡ seats.row v → u ≡ v
  pub units : (u : ℕ) (x : Node Branch) → node_at h u ≡ Some x → IsUnit code h.block all seats u (row_at all (seats.row u)) (slice_index filled (seats.row u)) x
  pub ordered : (u : ℕ) (x : Node Branch) → node_at h u ≡ Some x → seats.from u ≤ seats.upto u
  -- no unit is a row that waits
  pub unborn : (u v : ℕ) (x y : Node Branch) → node_at h u ≡ Some x → node_at h v ≡ Some y → (seats.row v < seats.from u) ⊎ (seats.upto u ≤ seats.row v)
  -- two units' waiting rows are apart
  pub disjoint : (u v : ℕ) (x y : Node Branch) → node_at h u ≡ Some x → node_at h v ≡ Some y → u ≢ v →
      (seats.upto u ≤ seats.from v) ⊎ (seats.upto v ≤ seats.from u)
  -- nothing of a row that waits is filled
  pub unfilled : (u : ℕ) (x : Node Branch) → node_at h u ≡ Some x → (k : ℕ) → seats.from u ≤ k → k < seats.upto u → slice_index filled k ≡ 0
