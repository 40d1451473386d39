-- What an operation makes of two samples.
use Rattle.std.specs.Prelude.{ℤ}
use Rattle.ny_num.specs.Numbers.{sample_add, sample_sub, sample_mul, sample_max, sample_min}
use Rattle.ny_kernels.specs.declared.operation.Op.{Op}
use Rattle.ny_kernels.specs.declared.operation.Op.TheVariants.{Add, Sub, Mul, Max, Min}

-- what an operation makes of two samples
abbrev pub operation : Op → ℤ → ℤ → ℤ
operation Add a b = sample_add a b
operation Sub a b = sample_sub a b
operation Mul a b = sample_mul a b
operation Max a b = sample_max a b
operation Min a b = sample_min a b
