use Rattle.std.proofs.Common.{◌≡◌, ◌≤◌, ◌<◌, ◌+◌, All, drop, map, length, []}
use Rattle.ny_check.specs.declared.node.ExprId.{ExprId}
use Rattle.ny_syntax.specs.Sizes.{total}
use Rattle.ny_resolve.specs.Sizes.{size_of_part, size_of_bound}
use Rattle.ny_check.specs.Code.{BindsBelow}
use Rattle.ny_check.specs.Writing.{writing, writing_of_bind, write_parts, write_binds}
use Rattle.ny_check.proofs.write.+write.Given as goal

abbrev pub invariant-write_each-loop-part : goal.invariant-write_each-loop-part
invariant-write_each-loop-part l = record {
  written : write_parts l.keeps (map writing (drop l.part-index l.parts)) l.draft.functions l.ids l.draft.table ≡ write_parts l.keeps (map writing l.parts) l.fn.draft.functions [] l.fn.draft.table;
  grown : length l.fn.draft.table.nodes ≤ length l.draft.table.nodes;
  counted : length l.draft.table.nodes + total (map size_of_part (drop l.part-index l.parts)) ≤ length l.fn.draft.table.nodes + total (map size_of_part l.parts);
  below : All (λ (id : ExprId). id.0 < length l.draft.table.nodes) l.ids;
  functions : l.draft.functions ≡ l.fn.draft.functions;
}

abbrev pub invariant-write_each_bind-loop-bind : goal.invariant-write_each_bind-loop-bind
invariant-write_each_bind-loop-bind l = record {
  written : write_binds (map writing_of_bind (drop l.bind-index l.binds)) l.draft.functions l.written l.draft.table ≡ write_binds (map writing_of_bind l.binds) l.fn.draft.functions [] l.fn.draft.table;
  grown : length l.fn.draft.table.nodes ≤ length l.draft.table.nodes;
  counted : length l.draft.table.nodes + total (map size_of_bound (drop l.bind-index l.binds)) ≤ length l.fn.draft.table.nodes + total (map size_of_bound l.binds);
  below : BindsBelow (length l.draft.table.nodes) l.written;
  functions : l.draft.functions ≡ l.fn.draft.functions;
}
