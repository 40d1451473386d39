use Rattle.std.proofs.Common.{◌+◌, arith}
use Rattle.ny_units.proofs.PartWritten.{all_written}
use Rattle.ny_mix.proofs.Added.{with_list, run_added}
use Rattle.ny_mix.proofs.adding.add_runs.Goals as goal

pub loop-done-preserved : goal.loop-done-preserved
loop-done-preserved c =
    let end = c.loop-done.done + c.min.result in
    record {
      within = omega arith;
      written = λ xs shows.
          run_added c.args.out.now xs c.run-run.result.now c.loop-done.out c.add_samples.new.out c.args.place _ c.loop-done.done end (omega arith) (omega arith) (omega arith)
          (c.loop-done.invariant.written xs shows) (c.run-run.ensures.shown xs shows) (omega arith) c.add_samples.ensures;
    }

pub returns : goal.returns
returns c = λ xs shows.
    all_written (with_list c.args.out.now xs c.args.place) 0 c.loop-done.done c.args.out.now c.loop-done.out c.loop-done.invariant.within (omega arith) (c.loop-done.invariant.written xs shows)
