use Rattle.std.proofs.Common.{rules, ◌≡◌, ◌+◌, ◌-◌, ◌*◌, ◌≤◌, length, subst, sym, ap, ◌∙◌, arith}
use borrow.Rule.Slice.PartMut.{put_mid}
use Rattle.ny_top.proofs.RoundLemmas.{BlocksSoFar, same_then, part_size, blocks_more, under_next, turns_first, turns_last, fault_from, err_passed}
use Rattle.ny_top.proofs.FrameLemmas.{block_within}
use Rattle.ny_top.proofs.rounds.pull_channels.Goals as goal

pub loop-c-preserved : goal.loop-c-preserved
loop-c-preserved c =
    let start = c.args.engine.now in
    let b = start.heap.block in
    let size : length c.loop-c.samples ≡ length start.channels * b = c.loop-c.invariant.1 ∙ c.requires.room ∙ ap (λ k. length start.channels * k) c.requires.block in
    let within : c.loop-c.c * b + b ≤ length c.loop-c.samples = block_within c.loop-c.c (length start.channels) b (length c.loop-c.samples) (omega (arith, c.loop-c-test.true, c.channels-c-end.ensures)) size in
    let inside : c.loop-c.c * c.args.block + c.args.block ≤ length c.loop-c.samples = subst (λ k. c.loop-c.c * k + k ≤ length c.loop-c.samples) (sym c.requires.block) within in
    let part : length c.pull_channel.new.out ≡ b = c.pull_channel.ensures.size ∙ part_size c.loop-c.samples (c.loop-c.c * c.args.block) c.args.block inside ∙ c.requires.block in (
      same_then start c.loop-c.engine c.pull_channel.new.engine c.loop-c.invariant.0 c.in_ok-pull_channel.ensures.same,
      search rules,
      λ rounds under.
          let so_far = c.loop-c.invariant.2 rounds under in (
            c.in_ok-pull_channel.ensures.underway rounds so_far.0,
            subst (λ k. BlocksSoFar start rounds (c.loop-c.c + 1) (put_mid (c.loop-c.c * k) (c.loop-c.c * c.args.block + c.args.block - c.loop-c.c * c.args.block) c.loop-c.samples c.pull_channel.new.out)) (sym c.requires.block)
                (blocks_more start c.loop-c.engine rounds c.loop-c.c (c.loop-c.c * c.args.block + c.args.block - c.loop-c.c * c.args.block) c.loop-c.samples c.pull_channel.new.out c.loop-c.invariant.0 part within so_far.1 (c.in_ok-pull_channel.ensures.samples rounds so_far.0)),
          ),
      λ rounds n under at. c.in_ok-pull_channel.ensures.turn rounds n (c.loop-c.invariant.2 rounds under).0 (c.loop-c.invariant.3 rounds n under at),
    )

pub loop-c-init : goal.loop-c-init
loop-c-init c = (search rules, search rules, search rules, λ rounds n under at. turns_first n c.args.engine.now at)

pub returns-clause-turns : goal.returns-clause-turns
returns-clause-turns c = λ rounds n under at.
    turns_last c.loop-c.c n c.loop-c.engine (omega (arith, c.loop-c-test.false, c.channels-c-end.ensures, c.loop-c.invariant.0.channels, (c.loop-c.invariant.2 rounds under).0.count)) (c.loop-c.invariant.3 rounds n under at)

pub returns-in_err-pull_channel-clause-fault : goal.returns-in_err-pull_channel-clause-fault
returns-in_err-pull_channel-clause-fault c = λ rounds n under at.
    err_passed c.from_residual.result c.in_err-pull_channel.field-0.0 _ c.from_residual.ensures.1
    (fault_from c.args.engine.now c.loop-c.engine c.pull_channel.new.engine rounds _ c.loop-c.invariant.0 (c.in_err-pull_channel.ensures.fault rounds n (c.loop-c.invariant.2 rounds under).0 (c.loop-c.invariant.3 rounds n under at)))

pub returns-clause-underway : goal.returns-clause-underway
returns-clause-underway c = λ rounds under.
    under_next rounds c.loop-c.c c.loop-c.engine (omega (arith, c.loop-c-test.false, c.channels-c-end.ensures, c.loop-c.invariant.0.channels)) (c.loop-c.invariant.2 rounds under).0
