-- What the two sides of an operation have at each place of a block.
use Rattle.std.specs.Prelude.{ℕ, ℤ, pos, ◌≡◌, List, length, map, slice_index_or}
use Rattle.std.specs.List.{range_with_len}
use Rattle.ny_kernels.specs.declared.operation.Op.{Op}
use Rattle.ny_kernels.specs.declared.sides.Side.{Side}
use Rattle.ny_kernels.specs.declared.sides.Side.TheVariants.{List as Samples, Number, Zero}
use Rattle.ny_kernels.specs.Operations.{operation}

-- what a side has at a place
abbrev pub side_at : Side → ℕ → ℤ
side_at (Samples s) n = slice_index_or s.now n (pos 0)
side_at (Number v) n = v
side_at Zero n = pos 0

-- the operation on what the two sides have at each of so many places, from the first on
abbrev pub combined : Op → (ℕ → ℤ) → (ℕ → ℤ) → ℕ → List ℤ
combined op a b len = map (λ n. operation op (a n) (b n)) (range_with_len 0 len)

-- two sides that an operation is computed for: samples with samples, samples with a number on either side, and
-- zero with samples; the samples are as many as the places
abbrev pub CanCombine : Side → Side → ℕ → Type 0
CanCombine (Samples s) (Samples t) len = (length s.now ≡ len) × (length t.now ≡ len)
CanCombine (Samples s) (Number v) len = length s.now ≡ len
CanCombine (Samples s) Zero len = ⊥
CanCombine (Number v) (Samples t) len = length t.now ≡ len
CanCombine (Number v) (Number w) len = ⊥
CanCombine (Number v) Zero len = ⊥
CanCombine Zero (Samples t) len = length t.now ≡ len
CanCombine Zero (Number w) len = ⊥
CanCombine Zero Zero len = ⊥
