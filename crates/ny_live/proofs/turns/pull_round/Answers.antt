use Rattle.std.proofs.Common.{◌+◌, List, ℕ, drop, length, subst, arith}
use Rattle.std.proofs.lemmas.List.{drop_all}
use Rattle.ny_live.specs.Told.{IsTold}
use Rattle.ny_live.proofs.ToldLemmas.{err_passed, quiet_begins, quiet_then, same_counts, told_again, turn_at}
use Rattle.ny_live.proofs.turns.pull_round.Goals as goal

pub loop-i-init : goal.loop-i-init
loop-i-init g c = (
  quiet_begins c.args.engine.now (length c.args.out.now) (g.H.Host.state c.args.host.now) c.requires.ready,
  λ n start old is. told_again c.args.kinds c.args.turns.now start c.args.engine.now old (g.H.Host.state c.args.host.now) n is,
)

pub returns-in_err-pull_turn-clause-fault : goal.returns-in_err-pull_turn-clause-fault
returns-in_err-pull_turn-clause-fault g c = λ n start old fell is.
    let turns = c.args.turns.now in
    let now = g.H.Host.state c.loop-i.host in
    let here = subst (λ (rest : List ℕ). IsTold c.args.kinds turns rest n start c.loop-i.engine old now) (turn_at turns c.loop-i.i c.loop-i-test.true) (c.loop-i.invariant.1 n start old is) in
    err_passed c.from_residual.result c.in_err-pull_turn.field-0.0 _ c.from_residual.ensures.1
    (c.in_err-pull_turn.ensures.fault turns (drop (c.loop-i.i + 1) turns) n start old (same_counts old (g.H.Host.state c.args.host.now) now fell c.loop-i.invariant.0.quiet) here)

pub loop-i-preserved : goal.loop-i-preserved
loop-i-preserved g c =
    let turns = c.args.turns.now in
    let now = g.H.Host.state c.loop-i.host in
    let t = c.in_ok-pull_turn.ensures in (
      quiet_then c.args.engine.now c.loop-i.engine c.pull_turn.new.engine (length c.args.out.now) (length c.loop-i.out) (length c.pull_turn.new.out) (g.H.Host.state c.args.host.now) now (g.H.Host.state c.pull_turn.new.host)
          c.loop-i.invariant.0 t.same t.ready t.room t.counts t.quiet t.output t.files,
      λ n start old is.
          t.told turns (drop (c.loop-i.i + 1) turns) n start old
          (subst (λ (rest : List ℕ). IsTold c.args.kinds turns rest n start c.loop-i.engine old now) (turn_at turns c.loop-i.i c.loop-i-test.true) (c.loop-i.invariant.1 n start old is)),
    )

pub returns-clause-told : goal.returns-clause-told
returns-clause-told g c = λ n start old is.
    let turns = c.args.turns.now in
    subst (λ (rest : List ℕ). IsTold c.args.kinds turns rest n start c.loop-i.engine old (g.H.Host.state c.loop-i.host)) (drop_all c.loop-i.i turns (omega (arith, c.loop-i-test.false)))
    (c.loop-i.invariant.1 n start old is)
