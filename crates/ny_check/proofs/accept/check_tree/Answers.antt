use Rattle.ny_check.proofs.Silent.{told, accepted_result, refused_result}
use Rattle.ny_check.proofs.Accepted.{accepted_text}
use Rattle.ny_check.proofs.accept.check_tree.Goals as goal

pub returns-clause-accepted : goal.returns-clause-accepted
returns-clause-accepted c =
    accepted_result c.answer.result c.in_ok-verdict.verdict.fault _
    (told c.args.tree.now c.in_ok-read.read.declared c.in_ok-read.read.play c.in_ok-read.read.first c.in_ok-verdict.verdict.fault
    c.in_ok-read.ensures.declared c.in_ok-read.ensures.play c.in_ok-read.ensures.first c.in_ok-verdict.ensures.fault)
    c.answer.ensures.accepted

pub returns-clause-refused : goal.returns-clause-refused
returns-clause-refused c =
    refused_result c.args.tree.now c.in_ok-read.read.play c.in_ok-verdict.verdict.fault c.args.tree.now.end c.answer.result c.in_ok-read.ensures.play
    (told c.args.tree.now c.in_ok-read.read.declared c.in_ok-read.read.play c.in_ok-read.read.first c.in_ok-verdict.verdict.fault
    c.in_ok-read.ensures.declared c.in_ok-read.ensures.play c.in_ok-read.ensures.first c.in_ok-verdict.ensures.fault)
    c.answer.ensures.refused

pub answer-requires-clause-accepted : goal.answer-requires-clause-accepted
answer-requires-clause-accepted c =
    accepted_text c.args.tree.now c.in_ok-read.read.declared c.in_ok-read.read.play c.in_ok-read.read.first c.in_ok-verdict.verdict.fault c.in_ok-verdict.verdict.channels
    c.in_ok-read.ensures.declared c.in_ok-read.ensures.play c.in_ok-read.ensures.first c.in_ok-verdict.ensures.fault c.in_ok-verdict.ensures.channels
