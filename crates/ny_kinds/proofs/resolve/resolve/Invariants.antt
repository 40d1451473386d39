use Rattle.std.proofs.Common.{◌≡◌, ◌<◌, ◌≤◌, ◌+◌, ◌-◌, ◌*◌, ◌^◌, All, length, vec_len, []}
use Rattle.ny_kinds.specs.declared.kind.Use.{Use}
use Rattle.ny_kinds.specs.Table.{IsRight, top_of}
use Rattle.ny_kinds.proofs.resolve.resolve.Given as goal

abbrev pub invariant-loop-next : goal.invariant-loop-next
invariant-loop-next l = record {
  known : All (IsRight l.ds) l.table.entries.items;
  stack : All (λ (u : Use). u.number < length l.ds) l.stack;
  longer : (l.stack ≡ []) → vec_len l.fn.table.entries < vec_len l.table.entries;
  kept : vec_len l.fn.table.entries ≤ vec_len l.table.entries;
}

-- each turn goes down to an earlier function or adds an entry to the table, whose length has a bound
abbrev pub decreases-loop-next : goal.decreases-loop-next
decreases-loop-next l = (2 ^ 63 - vec_len l.table.entries) * 2 ^ 32 + top_of l.stack
