use Rattle.std.proofs.Common.{◌≡◌, ◌≤◌, ◌+◌, ◌*◌, max, take, drop, length, vec_capacity}
use Rattle.ny_check.specs.Code.{BindsBelow}
use Rattle.ny_heap.specs.Steps.{last_stop_of}
use Rattle.ny_eval.specs.Framed.{names_in, AreBound}
use Rattle.ny_eval.specs.Parts.{count_in}
use Rattle.ny_eval.specs.Turns.{AreNext, NextAreDue}
use Rattle.ny_eval.proofs.BodyLemmas.{PassedSoFar}
use Rattle.ny_eval.proofs.PartLemmas.{PartsSoFar}
use Rattle.ny_eval.proofs.expression.+evaluate.Given as goal

-- an expression before its parts
abbrev pub decreases-evaluate : goal.decreases-evaluate
decreases-evaluate l = 8 * l.e.0 + 7

abbrev pub decreases-block : goal.decreases-block
decreases-block l = 8 * l.e.0 + 2

abbrev pub decreases-bind_all : goal.decreases-bind_all
decreases-bind_all l = 8 * l.e.0 + 1

abbrev pub decreases-call : goal.decreases-call
decreases-call l = 8 * l.e.0 + 2

abbrev pub decreases-arguments : goal.decreases-arguments
decreases-arguments l = 8 * l.e.0 + 1

abbrev pub decreases-in_order : goal.decreases-in_order
decreases-in_order l = 8 * l.e.0 + 5

abbrev pub decreases-in_turn : goal.decreases-in_turn
decreases-in_turn l = 8 * l.e.0 + 4

abbrev pub decreases-first_block : goal.decreases-first_block
decreases-first_block l = 8 * l.e.0 + 3

abbrev pub decreases-due_parts : goal.decreases-due_parts
decreases-due_parts l = 8 * l.e.0 + 2

abbrev pub decreases-next_part : goal.decreases-next_part
decreases-next_part l = 8 * l.e.0 + 1

abbrev pub decreases-together : goal.decreases-together
decreases-together l = 8 * l.e.0 + 2

abbrev pub decreases-each_part : goal.decreases-each_part
decreases-each_part l = 8 * l.e.0 + 1

abbrev pub decreases-part : goal.decreases-part
decreases-part l = 8 * l.e.0

-- calls by the parts themselves
abbrev pub decreases-operand : goal.decreases-operand
decreases-operand l = 8 * l.e.0 + 8

abbrev pub decreases-pair : goal.decreases-pair
decreases-pair l = 8 * max l.a.0 l.b.0 + 9

abbrev pub decreases-negated : goal.decreases-negated
decreases-negated l = 8 * l.a.0 + 9

abbrev pub decreases-affected : goal.decreases-affected
decreases-affected l = 8 * l.part.0 + 8

abbrev pub decreases-cue : goal.decreases-cue
decreases-cue l = 8 * l.part.0 + 8

abbrev pub invariant-bind_all-loop-name : goal.invariant-bind_all-loop-name
invariant-bind_all-loop-name l = record {
  so_far : AreBound l.p l.fn.e.0 l.env (take l.name-index l.binds) l.fn.frame l.frame l.fn.heap l.heap;
  below : BindsBelow l.fn.e.0 (drop l.name-index l.binds);
}

abbrev pub invariant-arguments-loop-i : goal.invariant-arguments-loop-i
invariant-arguments-loop-i l = record {
  so_far : PassedSoFar l.p l.fn.e.0 l.env (names_in l.fn.frame) l.params l.parts l.i l.fn.inner l.inner l.fn.heap l.heap;
  same : l.frame ≡ l.fn.frame;
}

abbrev pub invariant-each_part-loop-k : goal.invariant-each_part-loop-k
invariant-each_part-loop-k l = record {
  so_far : PartsSoFar l.p l.fn.e.0 l.env (names_in l.fn.frame) l.parts l.k l.fn.heap l.heap l.sounds.items;
  count : length l.sounds.items ≡ l.k;
  room : vec_capacity l.sounds ≡ vec_capacity l.fn.sounds;
  same : l.frame ≡ l.fn.frame;
}

abbrev pub invariant-due_parts-loop-k : goal.invariant-due_parts-loop-k
invariant-due_parts-loop-k l = record {
  so_far : AreNext l.p l.fn.e.0 l.env (names_in l.fn.frame) l.parts l.fn.sounds.items l.fn.heap l.heap l.sounds.items;
  count : l.k ≡ length l.sounds.items;
  few : length l.sounds.items ≤ count_in l.parts;
  last : l.last ≡ last_stop_of 0 l.sounds.items;
  due : NextAreDue l.when l.fn.block l.sounds.items;
  same : l.frame ≡ l.fn.frame;
}
