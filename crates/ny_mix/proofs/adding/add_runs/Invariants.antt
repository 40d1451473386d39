use Rattle.std.proofs.Common.{◌≡◌, ℕ, ◌-◌, ◌≤◌, ◌++◌, List, ℤ, length, map, drop}
use Rattle.std.specs.List.{range_with_len}
use Rattle.ny_list.specs.Store.{StoreState, CursorState}
use Rattle.ny_list.specs.Reading.{Shows}
use Rattle.ny_mix.proofs.Added.{with_list}
use Rattle.ny_mix.proofs.adding.add_runs.Given as goal

-- the samples so far are added, and then come those that were there
pub record RunsSoFar (s : StoreState) (c : CursorState) (place done : ℕ) (first out : List ℤ) : Type 0 where
  pub within : done ≤ length first
  pub written : (xs : List ℤ) → Shows s c.list xs → out ≡ map (with_list first xs place) (range_with_len 0 done) ++ drop done first

abbrev pub invariant-loop-done : goal.invariant-loop-done
invariant-loop-done l = RunsSoFar l.reads l.c l.place l.done l.initial.out l.out

abbrev pub decreases-loop-done : goal.decreases-loop-done
decreases-loop-done l = length l.initial.out - l.done
