use Rattle.std.proofs.Common.{◌≡◌, ◌+◌, ◌-◌, ◌*◌, ◌≤◌, length, refl, subst, ◌∙◌, arith}
use Rattle.std.specs.Int.{div_ceil}
use Rattle.ny_check.specs.Channels.{channels, longest}
use Rattle.ny_top.specs.Frames.{HasRoom}
use Rattle.ny_top.specs.Rounds.{IsAtRound, bytes_after}
use Rattle.ny_top.proofs.PullLemmas.{none_left}
use Rattle.ny_top.proofs.RoundLemmas.{rounds_of, order_begins, order_on, on_err, err_passed, ends_rounds, gathered_whole, round_part, last_part, rounds_begin, rounds_on, pulled_out, wrote_all}
use Rattle.ny_top.proofs.rounds.rounds.Goals as goal

pub loop-n-init : goal.loop-n-init
loop-n-init g c = (
  rounds_begin c.args.engine.now _ (g.H.Host.state c.args.host.now) c.args.file refl c.requires.underway c.requires.open,
  record {
    block = c.requires.room.block;
    samples = c.requires.room.samples;
    frames = c.requires.room.frames;
    bytes = c.requires.room.bytes;
    gathered = omega arith;
  },
  (let all : rounds_of c.args.engine.now ≡ rounds_of c.args.engine.now - 0 = omega arith in
      subst (λ n. IsAtRound n c.args.engine.now) all (order_begins c.args.engine.now c.requires.underway c.requires.order)),
)

pub round-requires-clause-order : goal.round-requires-clause-order
round-requires-clause-order g c = (
  rounds_of c.args.engine.now - (c.loop-n.n + 1),
  order_on (rounds_of c.args.engine.now) c.loop-n.n c.loop-n.engine
      (omega (arith, c.loop-n-test.true, c.div_ceil-count.ensures ∙ (λ i. div_ceil (c.frames.ensures i) (c.requires.room.block i)))) c.loop-n.invariant.2,
)

pub returns-in_err-round-clause-part : goal.returns-in_err-round-clause-part
returns-in_err-round-clause-part g c =
    on_err c.from_residual.result _
    (round_part c.args.engine.now c.loop-n.engine c.loop-n.n c.loop-n.buffers (g.H.Host.state c.args.host.now) (g.H.Host.state c.loop-n.host) (g.H.Host.state c.round.new.host) c.loop-n.invariant.0.same c.loop-n.invariant.0.wrote c.in_err-round.ensures.part)

pub loop-n-preserved : goal.loop-n-preserved
loop-n-preserved g c = (
  rounds_on c.args.engine.now c.loop-n.engine c.round.new.engine c.loop-n.n c.loop-n.buffers c.round.new.buffers (g.H.Host.state c.args.host.now) (g.H.Host.state c.loop-n.host) (g.H.Host.state c.round.new.host) c.args.file c.loop-n.invariant.0
      c.in_ok-round.ensures.same c.in_ok-round.ensures.underway c.in_ok-round.ensures.whole c.in_ok-round.ensures.counts c.in_ok-round.ensures.quiet c.in_ok-round.ensures.output c.in_ok-round.ensures.files c.in_ok-round.ensures.printed,
  subst (λ b. HasRoom (length c.args.engine.now.channels) b c.round.new.buffers) c.loop-n.invariant.0.same.block
      (subst (λ k. HasRoom k c.loop-n.engine.heap.block c.round.new.buffers) c.loop-n.invariant.0.same.channels c.in_ok-round.ensures.room),
  c.in_ok-round.ensures.order (rounds_of c.args.engine.now - (c.loop-n.n + 1))
      (order_on (rounds_of c.args.engine.now) c.loop-n.n c.loop-n.engine
      (omega (arith, c.loop-n-test.true, c.div_ceil-count.ensures ∙ (λ i. div_ceil (c.frames.ensures i) (c.requires.room.block i)))) c.loop-n.invariant.2),
)

pub returns-in-Ok-clause-played : goal.returns-in-Ok-clause-played
returns-in-Ok-clause-played g c =
    let most = longest (channels c.args.engine.now.code c.args.engine.now.rate) in
    let b = c.args.engine.now.heap.block in
    let count : c.div_ceil-count.result ≡ div_ceil most b = c.div_ceil-count.ensures ∙ (λ i. div_ceil (c.frames.ensures i) (c.requires.room.block i)) in
    let over : most ≤ c.loop-n.n * b = none_left c.loop-n.n most b c.requires.underway.laws.positive (omega (arith, c.loop-n-test.false, count)) in
    let none : rounds_of c.args.engine.now - c.loop-n.n ≡ 0 = omega (arith, c.loop-n-test.false, count) in
    pulled_out c.args.engine.now c.loop-n.engine c.loop-n.n c.loop-n.invariant.0.same c.loop-n.invariant.0.under (subst (λ n. IsAtRound n c.loop-n.engine) none c.loop-n.invariant.2) over

pub returns-in-Ok-clause-whole : goal.returns-in-Ok-clause-whole
returns-in-Ok-clause-whole g c =
    let start = c.args.engine.now in
    let old = g.H.Host.state c.args.host.now in
    let later = g.H.Host.state c.flush.new.host in
    let most = longest (channels start.code start.rate) in
    let b = start.heap.block in
    let count : c.div_ceil-count.result ≡ div_ceil most b = c.div_ceil-count.ensures ∙ (λ i. div_ceil (c.frames.ensures i) (c.requires.room.block i)) in
    let over : most ≤ c.loop-n.n * b = none_left c.loop-n.n most b c.requires.underway.laws.positive (omega (arith, c.loop-n-test.false, count)) in
    wrote_all start c.loop-n.n old later over
    (gathered_whole (bytes_after start c.loop-n.n) c.loop-n.buffers old (g.H.Host.state c.loop-n.host) later c.loop-n.invariant.0.wrote c.in-Ok.ensures.whole)

pub returns-in-Err-clause-part : goal.returns-in-Err-clause-part
returns-in-Err-clause-part g c =
    last_part c.args.engine.now c.loop-n.n c.loop-n.buffers (g.H.Host.state c.args.host.now) (g.H.Host.state c.loop-n.host) (g.H.Host.state c.flush.new.host)
    c.loop-n.invariant.0.wrote c.in-Err.ensures.part

pub returns-in_err-round-clause-fault : goal.returns-in_err-round-clause-fault
returns-in_err-round-clause-fault g c =
    err_passed c.from_residual.result c.in_err-round.field-0.0 _ c.from_residual.ensures.1
    (ends_rounds c.args.engine.now c.loop-n.engine c.round.new.engine c.loop-n.n c.loop-n.buffers (g.H.Host.state c.args.host.now) (g.H.Host.state c.loop-n.host) (g.H.Host.state c.round.new.host) _ c.loop-n.invariant.0.same c.loop-n.invariant.0.counts c.loop-n.invariant.0.quiet c.loop-n.invariant.0.wrote c.in_err-round.ensures.fault)
