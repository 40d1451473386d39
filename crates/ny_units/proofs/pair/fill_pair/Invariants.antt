use Rattle.std.proofs.Common.{◌≡◌, ℕ, ◌-◌, ◌≤◌, ◌++◌, List, ℤ, length, map, drop}
use Rattle.std.specs.List.{range_with_len}
use Rattle.ny_list.specs.Store.{StoreState}
use Rattle.ny_kernels.specs.declared.operation.Op.{Op}
use Rattle.ny_kernels.specs.Operations.{operation}
use Rattle.ny_units.specs.declared.input.Source.{Source}
use Rattle.ny_units.specs.Inputs.{input_at, ShowsInput}
use Rattle.ny_units.proofs.pair.fill_pair.Given as goal

-- the samples so far and then those that were there
pub record PairSoFar (s : StoreState) (op : Op) (left right : Source) (m done : ℕ) (first out : List ℤ) : Type 0 where
  pub within : done ≤ length first
  pub written : (xs ys : List ℤ) → ShowsInput s left xs → ShowsInput s right ys → out ≡ map (λ n. operation op (input_at left xs n) (input_at right ys n)) (range_with_len m done) ++ drop done first

abbrev pub invariant-loop-done : goal.invariant-loop-done
invariant-loop-done l = PairSoFar l.reads l.op l.left l.right l.m l.done l.initial.out l.out

abbrev pub decreases-loop-done : goal.decreases-loop-done
decreases-loop-done l = length l.initial.out - l.done
