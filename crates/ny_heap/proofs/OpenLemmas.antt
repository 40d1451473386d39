-- Whether a block is left, with nothing divided.
use Rattle.std.proofs.Common.{◌≡◌, inl, inr, ℕ, ◌+◌, ◌-◌, ◌*◌, ◌<◌, nat_lt, false, length, Some, sym, ap, ◌∙◌, arith}
use Rattle.std.specs.Option.{option_map_or}
use Rattle.std.proofs.lemmas.Bool.{cases_lt, lt-ltb, le-ltb}
use Rattle.std.proofs.lemmas.Nat.{le-div}
use Rattle.std.proofs.Math.Nat.{div-lt_iff_lt-mul, suc-mul}
use Rattle.ny_list.specs.Store.{ListState, list_at}
use Rattle.ny_list.proofs.IndexLemmas.{same_some}
use Rattle.ny_heap.specs.declared.table.Unit.{Unit as UnitData}
use Rattle.ny_heap.specs.declared.table.Table.{Table}
use Rattle.ny_heap.specs.Heap.{blocks_of}
use Rattle.ny_heap.specs.Table.{unit_at, IsThere, is_open_in}

-- a block is left where the filled ones do not reach the end
open_tells : (block filled len : ℕ) → 0 < block → nat_lt (filled * block) len ≡ nat_lt filled (blocks_of block len)
open_tells block filled len some = elim (cases_lt (filled * block) len) [
  | inl less ↦
      lt-ltb (filled * block) len less
      ∙ sym (lt-ltb filled (blocks_of block len) (omega (arith, le-div (filled + 1) (len + (block - 1)) block some (omega (arith, less, some, suc-mul filled block)))))
  | inr all ↦
      le-ltb (filled * block) len all
      ∙ sym (le-ltb filled (blocks_of block len) (omega (arith, (div-lt_iff_lt-mul {k = block} {x = len + (block - 1)} {y = filled + 1} some).1 (omega (arith, all, some, suc-mul filled block)))))
]

pub open_now : (t : Table) (u : ℕ) (there : IsThere t u) (x : UnitData) (filled : ℕ) → unit_at t u ≡ Some x → ((l : ListState) → list_at t.store x.list ≡ Some l → filled ≡ length l.values) → 0 < t.block → nat_lt (filled * t.block) x.timing.len ≡ is_open_in t u
open_now t u there x filled at counts some =
    let same : x ≡ there.unit = same_some (sym at ∙ there.there) in
    let n : filled ≡ length there.list.values = counts there.list (ap (λ (y : UnitData). list_at t.store y.list) same ∙ ap (list_at t.store) there.end ∙ there.listed) in
    open_tells t.block filled x.timing.len some
    ∙ ap (λ k. nat_lt k (blocks_of t.block x.timing.len)) n
    ∙ ap (λ k. nat_lt (length there.list.values) (blocks_of t.block k)) (ap (λ (y : UnitData). y.timing.len) same ∙ sym there.len)
    ∙ sym (ap (λ o. option_map_or (λ (l : ListState). nat_lt (length l.values) (blocks_of t.block l.len)) o false) there.listed)
