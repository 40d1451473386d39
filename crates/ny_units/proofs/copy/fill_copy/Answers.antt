use Rattle.std.proofs.Common.{◌≡◌, ◌+◌, ◌-◌, ◌∙◌, ℕ, ap, length, map, take, drop, length-take, length-drop, pos, arith}
use Rattle.std.specs.List.{range_with_len}
use Rattle.ny_num.proofs.WrittenLists.{same_places}
use Rattle.ny_units.specs.Inputs.{input_at, piece_at}
use Rattle.ny_units.proofs.Inputs.{read_within}
use Rattle.ny_units.proofs.PartWritten.{part_written, all_written}
use Rattle.ny_units.proofs.copy.fill_copy.Goals as goal

pub piece-piece-requires-clause-ready : goal.piece-piece-requires-clause-ready
piece-piece-requires-clause-ready c = read_within c.args.reads.now c.args.input.now c.args.m _ _ _ (omega arith) (omega arith) c.requires.ready

pub loop-done-preserved : goal.loop-done-preserved
loop-done-preserved c =
    let n : ℕ = c.args.m + c.loop-done.done in
    let end : ℕ = c.loop-done.done + c.len.result in
    let size : length (take (end - c.loop-done.done) (drop c.loop-done.done c.loop-done.out)) ≡ end - c.loop-done.done =
    omega (arith, length-take (end - c.loop-done.done) (drop c.loop-done.done c.loop-done.out), length-drop c.loop-done.done c.loop-done.out) in
    record {
      within = omega arith;
      written = λ xs shows.
          let f = λ (m : ℕ). input_at c.args.input.now xs m in
          let run : c.copy_piece.new.out ≡ map f (range_with_len n (end - c.loop-done.done)) =
          c.copy_piece.ensures ∙ ap (λ k. map (λ i. piece_at c.piece-piece.result i) (range_with_len 0 k)) size
          ∙ same_places (λ i. piece_at c.piece-piece.result i) f 0 n (end - c.loop-done.done) (pos 0)
          (λ k h. let first : 0 + k ≡ k = omega arith in ap (λ i. piece_at c.piece-piece.result i) first ∙ c.piece-piece.ensures.values xs shows k (omega arith)) in
          part_written f c.args.m c.loop-done.done end c.args.out.now c.loop-done.out c.copy_piece.new.out (omega arith) (omega arith) (c.loop-done.invariant.written xs shows) run;
    }

pub returns : goal.returns
returns c = record {
  samples = λ xs shows.
      all_written (λ n. input_at c.args.input.now xs n) c.args.m c.loop-done.done c.args.out.now c.loop-done.out c.loop-done.invariant.within (omega arith) (c.loop-done.invariant.written xs shows);
}
