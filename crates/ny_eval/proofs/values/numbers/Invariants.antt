use Rattle.std.proofs.Common.{◌≡◌, take, drop, map}
use Rattle.ny_check.specs.Code.{AllBelow}
use Rattle.ny_check.specs.Values.{number_of, scalars_of}
use Rattle.ny_eval.specs.Framed.{names_in}
use Rattle.ny_eval.proofs.values.numbers.Given as goal

abbrev pub invariant-loop-part : goal.invariant-loop-part
invariant-loop-part l = record {
  so_far : l.values.items ≡ map (λ e. number_of l.p e (scalars_of (names_in l.fn.frame))) (take l.part-index l.parts);
  below : AllBelow l.fn.e.0 (drop l.part-index l.parts);
  same : l.frame ≡ l.fn.frame;
}
