use Rattle.std.proofs.Common.{◌≡◌, ℕ, ◌-◌, ◌≤◌, ◌++◌, List, ℤ, length, map, drop}
use Rattle.std.specs.List.{range_with_len}
use Rattle.ny_list.specs.Store.{StoreState}
use Rattle.ny_units.specs.declared.input.Source.{Source}
use Rattle.ny_units.specs.Inputs.{input_at, ShowsInput}
use Rattle.ny_units.proofs.copy.fill_copy.Given as goal

-- the samples so far and then those that were there
pub record CopiedSoFar (s : StoreState) (input : Source) (m done : ℕ) (first out : List ℤ) : Type 0 where
  pub within : done ≤ length first
  pub written : (xs : List ℤ) → ShowsInput s input xs → out ≡ map (λ n. input_at input xs n) (range_with_len m done) ++ drop done first

abbrev pub invariant-loop-done : goal.invariant-loop-done
invariant-loop-done l = CopiedSoFar l.reads l.input l.m l.done l.initial.out l.out

abbrev pub decreases-loop-done : goal.decreases-loop-done
decreases-loop-done l = length l.initial.out - l.done
