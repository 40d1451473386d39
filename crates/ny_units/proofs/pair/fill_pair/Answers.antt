use Rattle.std.proofs.Common.{◌≡◌, ◌+◌, ◌-◌, ◌∙◌, ℕ, ap, length, map, take, drop, length-take, length-drop, arith}
use Rattle.std.specs.List.{range_with_len}
use Rattle.ny_kernels.specs.Operations.{operation}
use Rattle.ny_units.specs.Inputs.{input_at, piece_at}
use Rattle.ny_units.proofs.Inputs.{read_within, pair_run}
use Rattle.ny_units.proofs.PartWritten.{part_written, all_written}
use Rattle.ny_units.proofs.pair.fill_pair.Goals as goal

pub piece-a-requires-clause-ready : goal.piece-a-requires-clause-ready
piece-a-requires-clause-ready c = read_within c.args.reads.now c.args.left.now c.args.m _ _ _ (omega arith) (omega arith) c.requires.left

pub piece-b-requires-clause-ready : goal.piece-b-requires-clause-ready
piece-b-requires-clause-ready c = read_within c.args.reads.now c.args.right.now c.args.m _ _ _ (omega arith) (omega arith) c.requires.right

pub loop-done-preserved : goal.loop-done-preserved
loop-done-preserved c =
    let n : ℕ = c.args.m + c.loop-done.done in
    let end : ℕ = c.loop-done.done + c.len-in-loop-done.result in
    let size : length (take (end - c.loop-done.done) (drop c.loop-done.done c.loop-done.out)) ≡ end - c.loop-done.done =
    omega (arith, length-take (end - c.loop-done.done) (drop c.loop-done.done c.loop-done.out), length-drop c.loop-done.done c.loop-done.out) in
    record {
      within = omega arith;
      written = λ xs ys left right.
          let f = λ (m : ℕ). operation c.args.op (input_at c.args.left.now xs m) (input_at c.args.right.now ys m) in
          let run : c.combine.new.out ≡ map f (range_with_len n (end - c.loop-done.done)) =
          pair_run c.args.op (piece_at c.piece-a.result) (piece_at c.piece-b.result) (input_at c.args.left.now xs) (input_at c.args.right.now ys) n (end - c.loop-done.done) c.combine.new.out
          (c.combine.ensures ∙ ap (λ k. map (λ i. operation c.args.op (piece_at c.piece-a.result i) (piece_at c.piece-b.result i)) (range_with_len 0 k)) size)
          (λ k h. c.piece-a.ensures.values xs left k (omega arith)) (λ k h. c.piece-b.ensures.values ys right k (omega arith)) in
          part_written f c.args.m c.loop-done.done end c.args.out.now c.loop-done.out c.combine.new.out (omega arith) (omega arith) (c.loop-done.invariant.written xs ys left right) run;
    }

pub returns : goal.returns
returns c = record {
  samples = λ xs ys left right.
      all_written (λ n. operation c.args.op (input_at c.args.left.now xs n) (input_at c.args.right.now ys n)) c.args.m c.loop-done.done c.args.out.now c.loop-done.out c.loop-done.invariant.within (omega arith) (c.loop-done.invariant.written xs ys left right);
}
