use Rattle.std.proofs.Common.{arith}
use Rattle.ny_mix.proofs.Added.{left_alone, heard_added}
use Rattle.ny_mix.proofs.adding.add_heard.Goals as goal

pub returns-then-first-last-clause-samples : goal.returns-then-first-last-clause-samples
returns-then-first-last-clause-samples c = λ xs shows.
    heard_added c.args.start c.args.c.now.visible c.args.m c.min-first.result c.min-last.result _ xs c.args.out.now c.add_runs.new.out (omega arith) (omega arith) (omega arith) (omega arith)
    (λ k h. omega arith) (λ k h l. omega arith) (c.add_runs.ensures xs shows) (omega arith)

pub returns-else-first-last-clause-samples : goal.returns-else-first-last-clause-samples
returns-else-first-last-clause-samples c = λ xs shows k h is. left_alone c.args.start c.args.c.now.visible c.args.m k xs _ is (λ later. omega arith)
