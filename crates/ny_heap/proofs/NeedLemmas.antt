-- How much of an input a unit has taken, and where a reader stands.
use Rattle.std.proofs.Common.{◌≡◌, ◌≢◌, inl, inr, ℕ, zero, suc, ◌+◌, ◌-◌, ◌*◌, ◌/◌, ◌<◌, ◌≤◌, min, cond, refl, ap, arith}
use Rattle.std.proofs.lemmas.Bool.{cases_eq, cases_lt, eq-eqb, ne_eqb}
use Rattle.std.proofs.lemmas.Nat.{mul-le, le-div}
use Rattle.std.proofs.Math.Nat.{div-mul-le_self}
use Rattle.ny_num.specs.Grid.{grid_of}
use Rattle.ny_num.specs.declared.rate.Rate.{Rate}
use Rattle.ny_num.specs.declared.rate.Rate.TheVariants.{R2205, R4410, R8000, R11025, R16000, R22050, R32000, R44100, R48000}
use Rattle.ny_num.specs.declared.timing.Timing.{Timing}
use Rattle.ny_units.specs.Resamplings.{index_before, next_after}
use Rattle.ny_heap.specs.declared.make.Make.TheVariants.{Leaf, Pair, Abs, Resample, Filter}
use Rattle.ny_heap.specs.Heap.{Kind, Made, Mix, Channel, next_taken, taken_after, stands_in, blocks_of}

pub taken_at : (block : ℕ) (kind : Kind) (t input : Timing) (done : ℕ) → 0 < done → taken_after block kind t input done ≡ min (next_taken kind t input (min (done * block) t.len) - input.start) input.len
unfolding taken_after
taken_at block kind t input zero h = absurd (omega arith)
taken_at block kind t input (suc j) h = refl

pub ruleset needs = (taken_at)

pub div_rises : (block p q : ℕ) → 0 < block → p ≤ q → p / block ≤ q / block
div_rises block p q some le = le-div (p / block) q block some (omega (arith, div-mul-le_self p block))

grid_above : (r : Rate) → 0 < grid_of r
grid_above R2205 = omega arith
grid_above R4410 = omega arith
grid_above R8000 = omega arith
grid_above R11025 = omega arith
grid_above R16000 = omega arith
grid_above R22050 = omega arith
grid_above R32000 = omega arith
grid_above R44100 = omega arith
grid_above R48000 = omega arith

-- what a resampling reads never falls
pub before_rises : (input t : Timing) (m n : ℕ) → m ≤ n → index_before input t m ≤ index_before input t n
before_rises input t m n less = div_rises (grid_of input.rate) (m * grid_of t.rate) (n * grid_of t.rate) (grid_above input.rate) (mul-le m (grid_of t.rate) n (grid_of t.rate) less (omega arith))

pub none_next : (input t : Timing) (n : ℕ) → n ≡ 0 → next_after input t n ≡ input.start
none_next input t n e = ap (λ b. cond {A = ℕ} b input.start (index_before input t (t.start + n - 1) + 2)) (eq-eqb n 0 e)

pub some_next : (input t : Timing) (n : ℕ) → n ≢ 0 → next_after input t n ≡ index_before input t (t.start + n - 1) + 2
some_next input t n ne = ap (λ b. cond {A = ℕ} b input.start (index_before input t (t.start + n - 1) + 2)) (ne_eqb n 0 ne)

resample_rises : (input t : Timing) (m n : ℕ) → m ≤ n → next_after input t m - input.start ≤ next_after input t n - input.start
resample_rises input t m n less = elim (cases_eq m 0) [
  | inl none ↦ omega (arith, none_next input t m none)
  | inr some ↦ omega (
    arith,
    some_next input t m some,
    some_next input t n (λ e. some (omega (arith, e, less))),
    before_rises input t (t.start + m - 1) (t.start + n - 1) (omega (arith, less)),
  )
]

next_rises : (kind : Kind) (t input : Timing) (m n : ℕ) → m ≤ n → next_taken kind t input m - input.start ≤ next_taken kind t input n - input.start
next_rises (Made (Leaf l)) t input m n less = omega (arith, less)
next_rises (Made (Pair op a b)) t input m n less = omega (arith, less)
next_rises (Made Abs) t input m n less = omega (arith, less)
next_rises (Made Resample) t input m n less = resample_rises input t m n less
next_rises (Made (Filter f)) t input m n less = omega (arith, less)
next_rises Mix t input m n less = omega (arith, less)
next_rises Channel t input m n less = omega (arith, less)

-- what a unit takes never falls
pub taken_rises : (block : ℕ) (kind : Kind) (t input : Timing) (done : ℕ) → taken_after block kind t input done ≤ taken_after block kind t input (done + 1)
unfolding taken_after
taken_rises block kind t input zero = omega arith
taken_rises block kind t input (suc j) =
    let more : min (suc j * block) t.len ≤ min ((suc j + 1) * block) t.len = omega (arith, mul-le (suc j) block (suc j + 1) block (omega arith) (omega arith)) in
    omega (arith, taken_at block kind t input (suc j) (omega arith), taken_at block kind t input (suc j + 1) (omega arith), next_rises kind t input (min (suc j * block) t.len) (min ((suc j + 1) * block) t.len) more)

pub stands_end : (block len p : ℕ) → p ≡ len → stands_in block len p ≡ blocks_of block len
stands_end block len p e = ap (λ b. cond {A = ℕ} b (blocks_of block len) (p / block)) (eq-eqb p len e)

pub stands_mid : (block len p : ℕ) → p ≢ len → stands_in block len p ≡ p / block
stands_mid block len p ne = ap (λ b. cond {A = ℕ} b (blocks_of block len) (p / block)) (ne_eqb p len ne)

-- a reader further on stands no earlier
pub stands_rises : (block len p q : ℕ) → 0 < block → p ≤ q → q ≤ len → stands_in block len p ≤ stands_in block len q
stands_rises block len p q some le within = elim (cases_eq q len) [
  | inl end ↦ elim (cases_eq p len) [
    | inl same ↦ omega (arith, stands_end block len q end, stands_end block len p same)
    | inr before ↦ omega (arith, stands_end block len q end, stands_mid block len p before, div_rises block p (len + (block - 1)) some (omega arith))
  ]
  | inr inside ↦ omega (arith, stands_mid block len q inside, stands_mid block len p (λ e. inside (omega arith)), div_rises block p q some le)
]

pub div_below : (block n f : ℕ) → n < (f + 1) * block → n / block ≤ f
div_below block n f less = elim (cases_lt f (n / block)) [
  | inl above ↦ absurd (omega (arith, mul-le (f + 1) block (n / block) block (omega arith) (omega arith), div-mul-le_self n block))
  | inr below ↦ below
]

-- a reader of what is computed stands no later than the next block
pub stands_within : (block len place filled : ℕ) → 0 < block → place ≤ min (filled * block) len → stands_in block len place ≤ filled
stands_within block len place filled some far = elim (cases_eq place len) [
  | inl end ↦ omega (arith, stands_end block len place end, div_below block (len + (block - 1)) filled (omega arith))
  | inr before ↦ omega (arith, stands_mid block len place before, div_below block place filled (omega arith))
]

-- and no later than past the last block
pub stands_last : (block len place : ℕ) → 0 < block → place ≤ len → stands_in block len place ≤ blocks_of block len
stands_last block len place some far = omega (arith, stands_rises block len place len some far (omega arith), stands_end block len len refl)

pub none_taken : (block : ℕ) (kind : Kind) (t input : Timing) → taken_after block kind t input 0 ≡ 0
unfolding taken_after
none_taken block kind t input = refl
