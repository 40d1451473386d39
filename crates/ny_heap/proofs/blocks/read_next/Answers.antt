use Rattle.std.proofs.Common.{◌∙◌, []}
use Rattle.ny_heap.proofs.ReadLemmas.{seen_marked, run_count, run_passed, run_samples}
use Rattle.ny_heap.proofs.blocks.read_next.Goals as goal

pub read_run-requires : goal.read_run-requires
read_run-requires c = record { stands = seen_marked c.args.table.now c.args.c.now c.see.new.self [] c.args.visible c.requires.table c.see.ensures }

pub advance-requires-clause-stands : goal.advance-requires-clause-stands
advance-requires-clause-stands c = seen_marked c.args.table.now c.args.c.now c.see.new.self [] c.args.visible c.requires.table c.see.ensures

pub advance-requires-clause-computed : goal.advance-requires-clause-computed
advance-requires-clause-computed c =
    run_passed c.args.table.now c.args.c.now c.see.new.self [] c.args.visible c.requires.table c.see.ensures c.read_run.result.now c.args.out.now c.copy_front-count.result
    c.read_run.ensures.samples c.copy_front-count.ensures.count c.requires.computed

pub returns-clause-count : goal.returns-clause-count
returns-clause-count c =
    run_count c.args.table.now c.args.c.now c.see.new.self [] c.args.visible c.requires.table c.see.ensures c.read_run.result.now c.args.out.now c.copy_front-count.result
    c.read_run.ensures.samples c.copy_front-count.ensures.count

pub returns-clause-samples : goal.returns-clause-samples
returns-clause-samples c = λ xs shows.
    c.copy_front-count.ensures.copied
    ∙ run_samples c.args.table.now c.args.c.now c.see.new.self [] c.args.visible c.requires.table c.see.ensures c.read_run.result.now c.args.out.now c.copy_front-count.result
    c.read_run.ensures.samples c.copy_front-count.ensures.count xs shows
