use Rattle.std.proofs.Common.{◌≡◌, ◌+◌, ◌-◌, [], length, subst, ◌∙◌, arith}
use Rattle.std.specs.Int.{div_ceil}
use Rattle.ny_live.specs.Told.{IsTold}
use Rattle.ny_live.proofs.ToldLemmas.{err_passed, quiet_begins, quiet_then, rounds_of, told_begins, told_on}
use Rattle.ny_live.proofs.turns.pull_turns.Goals as goal

pub loop-n-init : goal.loop-n-init
loop-n-init g c =
    let e = c.args.engine.now in
    let old = g.H.Host.state c.args.host.now in
    let all : rounds_of e ≡ rounds_of e - 0 = omega arith in (
      quiet_begins e (length c.args.out.now) old c.requires.ready,
      subst (λ n. IsTold c.args.kinds c.args.turns.now [] n e e old old) all (told_begins c.args.kinds c.args.turns.now e old c.requires.ready c.requires.unpulled),
    )

pub returns-in_err-pull_round-clause-fault : goal.returns-in_err-pull_round-clause-fault
returns-in_err-pull_round-clause-fault g c =
    let start = c.args.engine.now in
    let old = g.H.Host.state c.args.host.now in
    let now = g.H.Host.state c.loop-n.host in
    let count : c.div_ceil-count.result ≡ rounds_of start = c.div_ceil-count.ensures ∙ (λ i. div_ceil (c.frames.ensures i) (c.requires.room i)) in
    err_passed c.from_residual.result c.in_err-pull_round.field-0.0 _ c.from_residual.ensures.1
    (c.in_err-pull_round.ensures.fault (rounds_of start - (c.loop-n.n + 1)) start old c.loop-n.invariant.0.quiet
    (told_on c.args.kinds c.args.turns.now (rounds_of start) c.loop-n.n start c.loop-n.engine old now (omega (arith, c.loop-n-test.true, count)) c.loop-n.invariant.1))

pub loop-n-preserved : goal.loop-n-preserved
loop-n-preserved g c =
    let start = c.args.engine.now in
    let old = g.H.Host.state c.args.host.now in
    let now = g.H.Host.state c.loop-n.host in
    let count : c.div_ceil-count.result ≡ rounds_of start = c.div_ceil-count.ensures ∙ (λ i. div_ceil (c.frames.ensures i) (c.requires.room i)) in
    let t = c.in_ok-pull_round.ensures in (
      quiet_then start c.loop-n.engine c.pull_round.new.engine (length c.args.out.now) (length c.loop-n.out) (length c.pull_round.new.out) old now (g.H.Host.state c.pull_round.new.host)
          c.loop-n.invariant.0 t.same t.ready t.room t.counts t.quiet t.output t.files,
      t.told (rounds_of start - (c.loop-n.n + 1)) start old
          (told_on c.args.kinds c.args.turns.now (rounds_of start) c.loop-n.n start c.loop-n.engine old now (omega (arith, c.loop-n-test.true, count)) c.loop-n.invariant.1),
    )
