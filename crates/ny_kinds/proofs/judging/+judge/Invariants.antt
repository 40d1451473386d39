use Rattle.std.proofs.Common.{◌≡◌, ◌≤◌, ◌+◌, ◌*◌, All, drop, take, length, map, vec_len}
use Rattle.ny_resolve.proofs.term.Part.TheLaws as parts
use Rattle.ny_resolve.proofs.term.Bound.TheLaws as binds
use Rattle.ny_kinds.specs.Kinds.{kind_of, kind_of_bind, several, several_binds, scope_of}
use Rattle.ny_kinds.specs.Table.{IsRight}
use Rattle.ny_kinds.proofs.Heights.{heights_below}
use Rattle.ny_kinds.proofs.Joined.{joined, joined_binds}
use Rattle.ny_kinds.proofs.judging.+judge.Given as goal
use denote.Param.Weighed.{most}

abbrev pub invariant-judge_parts-loop-part : goal.invariant-judge_parts-loop-part
invariant-judge_parts-loop-part l = record {
  parts : joined l.kinds.items l.fault (several (map kind_of (drop l.part-index l.parts)) (scope_of l.fn.values l.ds l.here))
      ≡ several (map kind_of l.parts) (scope_of l.fn.values l.ds l.here);
  same : l.values ≡ l.fn.values;
  known : All (IsRight l.ds) l.table.entries.items;
  kept : vec_len l.fn.table.entries ≤ vec_len l.table.entries;
}

abbrev pub invariant-judge_binds-loop-bind : goal.invariant-judge_binds-loop-bind
invariant-judge_binds-loop-bind l = record {
  binds : joined_binds l.kinds.items l.fault (several_binds (map kind_of_bind (drop l.bind-index l.binds)) (scope_of l.values l.ds l.here))
      ≡ several_binds (map kind_of_bind l.binds) (scope_of l.fn.values l.ds l.here);
  outer : take (length l.fn.values) l.values ≡ l.fn.values;
  known : All (IsRight l.ds) l.table.entries.items;
  kept : vec_len l.fn.table.entries ≤ vec_len l.table.entries;
}

-- a body lies before the declaration that calls it, and a part is less high than what it is part of
abbrev pub decreases-judge : goal.decreases-judge
decreases-judge l = 4 * (heights_below l.ds.now l.here + parts.the_size l.e.now) + 3

abbrev pub decreases-judge_parts : goal.decreases-judge_parts
decreases-judge_parts l = 4 * (heights_below l.ds.now l.here + most parts.the_size l.parts.now) + 4

abbrev pub decreases-judge_binds : goal.decreases-judge_binds
decreases-judge_binds l = 4 * (heights_below l.ds.now l.here + most binds.the_size l.binds.now) + 4

abbrev pub decreases-called : goal.decreases-called
decreases-called l = 4 * heights_below l.ds.now l.here + 2

abbrev pub decreases-body_found : goal.decreases-body_found
decreases-body_found l = 4 * heights_below l.ds.now l.here + 1

abbrev pub decreases-judge_body : goal.decreases-judge_body
decreases-judge_body l = 4 * heights_below l.ds.now (l.number + 1)
