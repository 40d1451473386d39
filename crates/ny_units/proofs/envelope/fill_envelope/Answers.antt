use Rattle.std.proofs.Common.{◌≡◌, ℕ, ◌+◌, ◌-◌, ◌∙◌, sym, ap, length, map, take, drop, length-take, length-drop, arith}
use Rattle.std.proofs.lemmas.List.{length-map}
use Rattle.std.specs.List.{range_with_len}
use Rattle.ny_num.specs.Leaves.{envelope_value, on_line}
use Rattle.ny_units.specs.Envelopes.{corner, corners, corner_at}
use Rattle.ny_units.proofs.Corners.{corner_is, stands_later, run_on_segment, HasNext, has_next}
use Rattle.ny_units.proofs.PartWritten.{part_written}
use Rattle.ny_units.proofs.envelope.fill_envelope.Goals as goal

pub overflow_add-n : goal.overflow_add-n
overflow_add-n c = omega (arith, c.requires.short)

pub fill_between-requires-clause-within : goal.fill_between-requires-clause-within
fill_between-requires-clause-within c =
    let h : HasNext c.args.knots.now c.reached-at.result (c.args.from + c.loop-done.done) c.index-knots-at.result =
    has_next c.args.knots.now c.reached-at.result (c.args.from + c.loop-done.done) c.index-knots-at.result c.reached-at.ensures.stands (omega (arith, c.requires.within)) c.reached-at.ensures.next c.index-knots-at.is in
    omega (arith, h.after, length-take (c.min-end.result - c.loop-done.done) (drop c.loop-done.done c.loop-done.out))

pub loop-done-preserved : goal.loop-done-preserved
loop-done-preserved c =
    let n : ℕ = c.args.from + c.loop-done.done in
    let len : ℕ = c.min-end.result - c.loop-done.done in
    let h : HasNext c.args.knots.now c.reached-at.result n c.index-knots-at.result =
    has_next c.args.knots.now c.reached-at.result n c.index-knots-at.result c.reached-at.ensures.stands (omega (arith, c.requires.within)) c.reached-at.ensures.next c.index-knots-at.is in
    let here : corner_at (corners c.args.knots.now) c.reached-at.result ≡ corner c.index-knots-at-in-loop-done.result =
    corner_is c.args.knots.now c.reached-at.result c.index-knots-at-in-loop-done.result (omega (arith, h.inside)) ∙ ap corner (sym c.index-knots-at-in-loop-done.is) in
    let some : length (take len (drop c.loop-done.done c.loop-done.out)) ≡ len =
    omega (arith, length-take len (drop c.loop-done.done c.loop-done.out), length-drop c.loop-done.done c.loop-done.out, h.after) in
    let run : c.fill_between.new.out ≡ map (envelope_value (corners c.args.knots.now)) (range_with_len n len) =
    c.fill_between.ensures ∙ ap (λ k. map (on_line (corner c.index-knots-at-in-loop-done.result) (corner c.index-knots-at.result)) (range_with_len n k)) some
    ∙ run_on_segment (corners c.args.knots.now) c.reached-at.result n len (corner c.index-knots-at-in-loop-done.result) (corner c.index-knots-at.result) c.reached-at.ensures.stands (omega (arith, h.inside, length-map c.args.knots.now corner)) here h.is (omega (arith, h.after)) in
    record {
      stands = stands_later (corners c.args.knots.now) c.reached-at.result n (c.args.from + c.min-end.result) (omega (arith, h.after)) c.reached-at.ensures.stands;
      within = omega arith;
      written = part_written (envelope_value (corners c.args.knots.now)) c.args.from c.loop-done.done c.min-end.result c.args.out.now c.loop-done.out c.fill_between.new.out (omega (arith, h.after)) (omega arith) c.loop-done.invariant.written run;
    }
