-- Tables of one period of a wave.
use Rattle.std.specs.Prelude.{ℕ, ℤ, ◌≡◌, ◌⊎◌, List, map}
use Rattle.std.specs.List.{range_with_len}
use Rattle.ny_num.specs.Leaves.{wave_entry}

-- how many entries a table may have
abbrev pub IsTableSize : ℕ → Type 0
IsTableSize n = (n ≡ 256) ⊎ (n ≡ 1024) ⊎ (n ≡ 4096)

-- the entries of the table of this size
abbrev pub entries : ℕ → List ℤ
entries n = map (wave_entry n) (range_with_len 0 n)
