use Rattle.std.proofs.Common.{◌≡◌, drop, take, map}
use Rattle.std.specs.List.{All}
use Rattle.ny_num.specs.Sound.{IsTiming}
use Rattle.ny_check.specs.Code.{AllBelow}
use Rattle.ny_timing.specs.Played.{operand_time}
use Rattle.ny_timing.proofs.entry.operands.Given as goal

abbrev pub invariant-loop-part : goal.invariant-loop-part
invariant-loop-part l = record {
  so_far : l.times.items ≡ map (operand_time l.p l.env l.fn.names) (take l.part-index l.parts);
  below : AllBelow l.fn.e.0 (drop l.part-index l.parts);
  bounds : All IsTiming l.times.items;
  names : l.names ≡ l.fn.names;
}
