use Rattle.std.proofs.Common.{◌≡◌, ◌≤◌, ◌+◌, ◌*◌, max, ◌++◌, drop, map, [], take, length}
use denote.Param.Weighed.{most}
use Rattle.ny_syntax.proofs.tree.Expr.TheLaws as exprs
use Rattle.ny_syntax.proofs.tree.Bind.TheLaws as binds
use Rattle.ny_syntax.specs.Sizes.{total, size_of, size_of_bind}
use Rattle.ny_resolve.specs.Faults.{earliest_after}
use Rattle.ny_resolve.specs.Sizes.{size_of_part, size_of_bound}
use Rattle.ny_resolve.specs.Names.{scope_of}
use Rattle.ny_resolve.specs.Reading.{ReadParts, ReadBinds, reading, reading_of_bind, read_parts, read_binds, arguments_read}
use Rattle.ny_resolve.proofs.reading.+read.Given as goal

-- what is read so far, and then the rest, is the whole
abbrev pub invariant-read_each-loop-part : goal.invariant-read_each-loop-part
invariant-read_each-loop-part l =
    let whole : ReadParts = read_parts (map reading l.parts) (scope_of l.names l.here l.fn.locals) in
    let rest : ReadParts = read_parts (map reading (drop l.part-index l.parts)) (scope_of l.names l.here l.locals) in
    record {
      parts : l.done ++ rest.parts ≡ whole.parts;
      first : earliest_after l.first rest.faults ≡ earliest_after l.fn.first whole.faults;
      same : l.locals ≡ l.fn.locals;
      small : total (map size_of_part l.done) + total (map size_of (drop l.part-index l.parts)) ≤ total (map size_of l.parts);
    }

abbrev pub invariant-read_arguments-loop-j : goal.invariant-read_arguments-loop-j
invariant-read_arguments-loop-j l =
    let whole : ReadParts = arguments_read l.builtin l.counter l.at 0 (map reading l.parts) (scope_of l.names l.here l.fn.locals) in
    let rest : ReadParts = arguments_read l.builtin l.counter l.at l.j (map reading (drop l.j l.parts)) (scope_of l.names l.here l.locals) in
    record {
      parts : l.done ++ rest.parts ≡ whole.parts;
      first : earliest_after l.first rest.faults ≡ earliest_after l.fn.first whole.faults;
      same : l.locals ≡ l.fn.locals;
      small : total (map size_of_part l.done) + total (map size_of (drop l.j l.parts)) ≤ total (map size_of l.parts);
      count : length l.done ≡ l.j;
    }

-- the names bound so far stand after those from outside
abbrev pub invariant-read_each_bind-loop-bind : goal.invariant-read_each_bind-loop-bind
invariant-read_each_bind-loop-bind l =
    let whole : ReadBinds = read_binds (map reading_of_bind l.binds) [] (scope_of l.names l.here l.fn.locals) in
    let rest : ReadBinds = read_binds (map reading_of_bind (drop l.bind-index l.binds)) l.seen.entries (scope_of l.names l.here l.locals) in
    record {
      binds : l.done ++ rest.binds ≡ whole.binds;
      bound : rest.scope ≡ whole.scope;
      first : earliest_after l.first rest.faults ≡ earliest_after l.fn.first whole.faults;
      kept : take (length l.fn.locals) l.locals ≡ l.fn.locals;
      small : total (map size_of_bound l.done) + total (map size_of_bind (drop l.bind-index l.binds)) ≤ total (map size_of_bind l.binds);
    }

-- a function that takes parts apart comes before those that it calls on the same parts
abbrev pub decreases-read_form : goal.decreases-read_form
decreases-read_form l = 8 * exprs.the_size l.e.now

abbrev pub decreases-read_expr : goal.decreases-read_expr
decreases-read_expr l = 8 * exprs.the_size l.e.now + 1

abbrev pub decreases-read_onto : goal.decreases-read_onto
decreases-read_onto l = 8 * exprs.the_size l.e.now + 2

abbrev pub decreases-read_inside : goal.decreases-read_inside
decreases-read_inside l = 8 * exprs.the_size l.e.now

abbrev pub decreases-read_argument : goal.decreases-read_argument
decreases-read_argument l = 8 * exprs.the_size l.e.now + 2

abbrev pub decreases-read_each : goal.decreases-read_each
decreases-read_each l = 8 * most exprs.the_size l.parts.now + 2

abbrev pub decreases-read_arguments : goal.decreases-read_arguments
decreases-read_arguments l = 8 * most exprs.the_size l.parts.now + 3

abbrev pub decreases-read_call : goal.decreases-read_call
decreases-read_call l = 8 * most exprs.the_size l.parts.now + 4

abbrev pub decreases-read_each_bind : goal.decreases-read_each_bind
decreases-read_each_bind l = 8 * most binds.the_size l.binds.now

abbrev pub decreases-read_binds : goal.decreases-read_binds
decreases-read_binds l = 8 * most binds.the_size l.binds.now + 1

abbrev pub decreases-read_block : goal.decreases-read_block
decreases-read_block l = 8 * max (most binds.the_size l.binds.now) (exprs.the_size l.value.now) + 2
