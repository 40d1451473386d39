-- Literals that are no operands: counts, rates, maps and divisors.
use Rattle.std.specs.Prelude.{ℕ, ◌*◌, ◌/◌, ◌%◌, Bool, true, false, ◌&&◌, not, nat_eq, nat_lt, nat_le, if◌then◌else◌, List, [], ◌∷◌, ◌++◌, length, Option, Some, None, ℤ, pos, int_lt}
use Rattle.ny_num.specs.Grid.{count_of, hz_of, ticks_of_micro}
use Rattle.ny_num.specs.declared.rate.Rate.{Rate}
use Rattle.ny_num.specs.declared.rate.Rate.TheVariants as rate
use Rattle.ny_resolve.specs.Builtins.{Bytes}

-- what the node above sees of an expression: a literal, a bare name, a call of `map` with its arguments where all are
-- literals, or anything else
pub data Shape : Type 0 where
  Literal : ℤ → Shape
  Bare : Bytes → Shape
  Mapped : Option (List ℤ) → Shape
  Other : Shape

abbrev pub literal_in : Shape → Option ℤ
literal_in (Literal v) = Some v
literal_in _ = None

abbrev pub bare_in : Shape → Option Bytes
bare_in (Bare x) = Some x
bare_in _ = None

abbrev pub is_mapped : Shape → Bool
is_mapped (Mapped vs) = true
is_mapped _ = false

abbrev pub literals_in : Shape → Option (List ℤ)
literals_in (Mapped vs) = vs
literals_in _ = None

-- one more literal, where this is one and the others are
abbrev pub one_more : Option ℤ → Option (List ℤ) → Option (List ℤ)
one_more (Some v) (Some vs) = Some (v ∷ vs)
one_more _ _ = None

-- the literals that these are, where all are
abbrev pub all_literals : List Shape → Option (List ℤ)
all_literals [] = Some []
all_literals (s ∷ ss) = one_more (literal_in s) (all_literals ss)

-- literals, and those that follow them where all are
abbrev pub followed : List ℤ → Option (List ℤ) → Option (List ℤ)
followed first None = None
followed first (Some vs) = Some (first ++ vs)

-- ---- counts

-- whole units, and nothing besides, from 1 to 100000
abbrev pub is_count : ℤ → Bool
is_count v = nat_eq (count_of v % 1000000) 0 && nat_le 1 (count_of v / 1000000) && nat_le (count_of v / 1000000) 100000

-- the count that a literal is, or 0
abbrev pub count_in : ℤ → ℕ
count_in v = if is_count v then count_of v / 1000000 else 0

abbrev pub literal_count : Option ℤ → ℕ
literal_count (Some v) = count_in v
literal_count None = 0

-- the count that an expression is, or 0
abbrev pub count_of_shape : Shape → ℕ
count_of_shape s = literal_count (literal_in s)

-- ---- rates

-- the nine rates
abbrev pub all_rates : List Rate
all_rates = rate.R2205 ∷ rate.R4410 ∷ rate.R8000 ∷ rate.R11025 ∷ rate.R16000 ∷ rate.R22050 ∷ rate.R32000 ∷ rate.R44100 ∷ rate.R48000 ∷ []

abbrev pub first_at : ℕ → List Rate → Option Rate
first_at n [] = None
first_at n (r ∷ rs) = if nat_eq (hz_of r * 1000000) n then Some r else first_at n rs

-- the rate of so many millionths of samples a second
abbrev pub rate_at : ℕ → Option Rate
rate_at n = first_at n all_rates

abbrev pub literal_rate : Option ℤ → Option Rate
literal_rate (Some v) = rate_at (count_of v)
literal_rate None = None

-- the rate of the table that an expression is, if it is one
abbrev pub rate_of_shape : Shape → Option Rate
rate_of_shape s = literal_rate (literal_in s)

-- ---- maps

-- an hour in millionths of a second
abbrev pub hour : ℤ
hour = pos 3600000000

-- Each number is at most an hour, and its tick lies after that of the number two before it, so that the x of the pairs rise
-- and the y too; x and y are the ticks before the first pair.
abbrev pub rises : ℕ → ℕ → List ℤ → Bool
rises x y [] = true
rises x y (v ∷ vs) = not (int_lt hour v) && nat_lt x (ticks_of_micro v) && rises y (ticks_of_micro v) vs

-- pairs, at least one, that rise from (0, 0) on
abbrev pub is_map_of : List ℤ → Bool
is_map_of vs = nat_eq (length vs % 2) 0 && nat_lt 0 (length vs) && rises 0 0 vs

abbrev pub literal_map : Option (List ℤ) → Bool
literal_map (Some vs) = is_map_of vs
literal_map None = false

abbrev pub is_good_map : Shape → Bool
is_good_map s = literal_map (literals_in s)

abbrev pub some_list : Option (List ℤ) → List ℤ
some_list (Some vs) = vs
some_list None = []

-- the literals of a map
abbrev pub map_literals : Shape → List ℤ
map_literals s = some_list (literals_in s)

-- ---- divisors

abbrev pub literal_value : Option ℤ → ℤ
literal_value (Some v) = v
literal_value None = pos 0

-- the number that an expression is, or 0
abbrev pub value_of_shape : Shape → ℤ
value_of_shape s = literal_value (literal_in s)

abbrev pub is_zero : ℤ → Bool
is_zero v = not (int_lt (pos 0) v) && not (int_lt v (pos 0))
