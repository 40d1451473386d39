use Rattle.std.proofs.Common.{◌≡◌, ℕ, ◌-◌, ◌+◌, ◌++◌, ◌∙◌, sym, ap, subst, length, take, drop, map, length-take, length-drop, arith}
use Rattle.std.proofs.lemmas.List.{take_rest}
use Rattle.std.specs.List.{range_with_len}
use borrow.Rule.Slice.PartMut.{put_mid}
use Rattle.ny_units.specs.Courses.{IsStretch, course_value}
use Rattle.ny_units.proofs.Resampled.{RunsSoFar, take_later, stretch_added, stretch_on, all_written}
use Rattle.ny_units.proofs.resample.fill_runs.Goals as goal

pub samples_ahead-ahead-requires-clause-ready : goal.samples_ahead-ahead-requires-clause-ready
samples_ahead-ahead-requires-clause-ready c = λ q is. take_later c.args.reads.now c.args.from.now q c.args.first.next c.loop-done.window.next c.loop-done.invariant.later (c.requires.ready q is)

pub loop-done-smaller : goal.loop-done-smaller
loop-done-smaller c =
    let size : length (take (length c.loop-done.out - c.loop-done.done) (drop c.loop-done.done c.loop-done.out)) ≡ length c.args.out.now - c.loop-done.done =
    omega (arith, length-take (length c.loop-done.out - c.loop-done.done) (drop c.loop-done.done c.loop-done.out), length-drop c.loop-done.done c.loop-done.out) in
    let stretch : IsStretch c.args.course.now c.loop-done.window c.loop-done.at (length c.samples_ahead-ahead.result.now) (length c.args.out.now - c.loop-done.done) c.fill_stretch-stretch.result =
    subst (λ n. IsStretch c.args.course.now c.loop-done.window c.loop-done.at (length c.samples_ahead-ahead.result.now) n c.fill_stretch-stretch.result) size c.fill_stretch-stretch.ensures.stretch in
    stretch_on c.args.course.now c.args.reads.now c.args.reader.now c.args.from.now c.args.first c.args.m c.requires.course c.loop-done.done c.loop-done.at c.loop-done.window c.fill_stretch-stretch.result (length c.samples_ahead-ahead.result.now) (length c.args.out.now)
    (omega arith) c.loop-done.invariant.index (omega (arith, c.requires.later))
    (λ q is. take_later c.args.reads.now c.args.from.now q c.args.first.next c.loop-done.window.next c.loop-done.invariant.later (c.requires.ready q is))
    c.requires.computed stretch c.samples_ahead-ahead.ensures.some

pub loop-done-preserved : goal.loop-done-preserved
loop-done-preserved c =
    let size : length (take (length c.loop-done.out - c.loop-done.done) (drop c.loop-done.done c.loop-done.out)) ≡ length c.args.out.now - c.loop-done.done =
    omega (arith, length-take (length c.loop-done.out - c.loop-done.done) (drop c.loop-done.done c.loop-done.out), length-drop c.loop-done.done c.loop-done.out) in
    let stretch : IsStretch c.args.course.now c.loop-done.window c.loop-done.at (length c.samples_ahead-ahead.result.now) (length c.args.out.now - c.loop-done.done) c.fill_stretch-stretch.result =
    subst (λ n. IsStretch c.args.course.now c.loop-done.window c.loop-done.at (length c.samples_ahead-ahead.result.now) n c.fill_stretch-stretch.result) size c.fill_stretch-stretch.ensures.stretch in
    let out = c.loop-done.out in
    let done = c.loop-done.done in
    subst (λ (n : ℕ). RunsSoFar c.args.course.now c.args.reads.now c.args.reader.now c.args.from.now c.args.first c.args.m (done + c.fill_stretch-stretch.result.written) c.fill_stretch-stretch.result.at c.fill_stretch-stretch.result.window c.args.out.now (put_mid done (n - done) out c.fill_stretch-stretch.new.out)) (sym c.loop-done.auto.out)
    (stretch_added c.args.course.now c.args.reads.now c.args.reader.now c.args.from.now c.args.first c.args.m c.requires.course done c.loop-done.at c.loop-done.window c.fill_stretch-stretch.result c.samples_ahead-ahead.result.now c.args.out.now out c.fill_stretch-stretch.new.out
    c.loop-done.auto.out (omega arith) stretch (c.fill_stretch-stretch.auto.out ∙ size)
    (λ g is. c.fill_stretch-stretch.ensures.samples g is
    ∙ ap (λ ys. map (course_value c.args.course.now g) (range_with_len c.loop-done.at.index c.fill_stretch-stretch.result.written) ++ drop c.fill_stretch-stretch.result.written ys) (take_rest out done))
    c.fill_stretch-stretch.ensures.window c.samples_ahead-ahead.ensures.values c.loop-done.invariant)

pub returns-clause-samples : goal.returns-clause-samples
returns-clause-samples c = λ xs shows g is past.
    all_written c.args.course.now c.args.reads.now c.args.reader.now c.args.from.now c.args.first c.args.m c.requires.course c.loop-done.done c.loop-done.at c.loop-done.window c.args.out.now c.loop-done.out xs g
    (omega arith) c.loop-done.invariant shows is past
