use Rattle.std.proofs.Common.{◌≡◌, ◌+◌, ◌-◌, ◌≤◌, vec_len, vec_capacity}
use Rattle.ny_eval.specs.Framed.{names_in}
use Rattle.ny_eval.specs.Waiting.{kept_in, parts_between, WaitAll}
use Rattle.ny_eval.proofs.waiting.branches_from.Given as goal

abbrev pub invariant-loop-k : goal.invariant-loop-k
invariant-loop-k l = record {
  so_far : WaitAll l.p l.env (parts_between (names_in l.fn.frame) l.parts l.fn.from (l.k - l.fn.from)) l.fn.heap l.heap (kept_in l.waiting.items);
  behind : l.fn.from ≤ l.k;
  len : vec_len l.waiting + l.fn.from ≡ vec_len l.fn.waiting + l.k;
  capacity : vec_capacity l.waiting ≡ vec_capacity l.fn.waiting;
  same : l.frame ≡ l.fn.frame;
}
