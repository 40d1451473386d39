use Rattle.std.proofs.Common.{◌≡◌, length}
use Rattle.ny_parse.specs.Reading.{settled}
use Rattle.ny_parse.proofs.reader.Reader.settle.Given as goal

abbrev pub invariant-loop-left : goal.invariant-loop-left
invariant-loop-left l = record {
  value : settled l.next l.whole l.self.stack ≡ settled l.next l.fn.first l.fn.self.stack;
  decls : l.self.decls ≡ l.fn.self.decls;
}

abbrev pub decreases-loop-left : goal.decreases-loop-left
decreases-loop-left l = length l.self.stack
