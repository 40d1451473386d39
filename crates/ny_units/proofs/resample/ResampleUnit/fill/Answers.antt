use Rattle.std.proofs.Common.{◌≡◌, ◌-◌, ◌+◌, ◌∙◌, refl, sym, ap, subst, length, map, arith}
use Rattle.std.specs.List.{range_with_len}
use Rattle.ny_num.specs.Resampling.{interpolated}
use Rattle.ny_units.specs.Courses.{IsWindow}
use Rattle.ny_units.specs.Neighbours.{between}
use Rattle.ny_units.specs.Resamplings.{Resampling, heard_sound, next_after, two_before, known, Remembers, CanResample}
use Rattle.ny_units.proofs.Resampled.{next_is, next_filled, outputs_are, all_between, known_on, window_known, past_known, known_is, holds_before, holds_after}
use Rattle.ny_units.proofs.resample.ResampleUnit.fill.Goals as goal

pub fill_runs-self-inside-requires-clause-ready : goal.fill_runs-self-inside-requires-clause-ready
fill_runs-self-inside-requires-clause-ready c = λ q is.
    let can = subst (λ (u : Resampling). CanResample c.args.reads.now u q (c.args.from + length c.args.out.now)) (sym c.self.view_is) (c.requires.ready q (sym (ap (λ (u : Resampling). u.reader) c.self.view_is) ∙ is)) in
    record { stands = can.stands; ahead = omega (arith, can.ahead, c.self.invariant.0); seen = can.seen }

pub fill_runs-self-inside-requires-clause-computed : goal.fill_runs-self-inside-requires-clause-computed
fill_runs-self-inside-requires-clause-computed c = λ q is some.
    let can = subst (λ (u : Resampling). CanResample c.args.reads.now u q (c.args.from + length c.args.out.now)) (sym c.self.view_is) (c.requires.ready q (sym (ap (λ (u : Resampling). u.reader) c.self.view_is) ∙ is)) in
    let all = can.computed in
    let next = next_is c.between-course.result c.self.inside.from c.self.inside.to c.between-course.ensures.grid c.between-course.ensures.step (c.args.from + length c.args.out.now) (c.from.result + c.from-2.result + length c.args.out.now - 1) (omega (arith, some)) (omega (arith, some)) in
    record { list = all.list; there = all.there; computed = omega (arith, all.computed, next) }

pub returns-clause-samples : goal.returns-clause-samples
returns-clause-samples c = λ xs shows remembers.
    let u = c.self.inside in
    let len = length c.args.out.now in
    let kept = subst (λ (u : Resampling). Remembers u xs) (sym c.self.view_is) remembers in
    let window : IsWindow (two_before u.from xs) u.window = record { before = kept.before ∙ ap (two_before u.from xs) (sym c.self.invariant.0); after = kept.after ∙ ap (λ n. two_before u.from xs (n + 1)) (sym c.self.invariant.0) } in
    outputs_are c.between-course.result u.from u.to c.between-course.ensures.grid c.between-course.ensures.step xs c.fill_runs-self-inside.new.out (c.from.result + c.from-2.result) (u.to.start + c.args.from) len (omega arith)
    (c.fill_runs-self-inside.ensures.samples xs (λ q is. shows q (sym (ap (λ (u : Resampling). u.reader) c.self.view_is) ∙ is)) (two_before u.from xs) window (λ p past. refl))
    ∙ ap (λ (u : Resampling). map (interpolated u.to.rate (heard_sound u.from xs)) (range_with_len (u.to.start + c.args.from) len)) c.self.view_is

pub returns-clause-rest : goal.returns-clause-rest
returns-clause-rest c = λ xs shows.
    let u = c.self.inside in
    let len = length c.args.out.now in
    let v : Resampling = record { from = u.from; to = u.to; reader = u.reader; before = u.window.before; after = u.window.after; given = u.given } in
    all_between c.between-course.result u.from u.to c.between-course.ensures.grid c.between-course.ensures.step (known_on v xs) (known v xs) c.fill_runs-self-inside.new.out (c.from.result + c.from-2.result) (u.to.start + c.args.from) len (omega arith) (known_is v xs)
    (c.fill_runs-self-inside.ensures.samples xs (λ q is. shows q (sym (ap (λ (u : Resampling). u.reader) c.self.view_is) ∙ is)) (known_on v xs) (window_known v xs u.window refl refl c.self.invariant.0) (λ p. past_known v xs u.window.next p c.self.invariant.0))
    ∙ ap (λ (u : Resampling). map (between u.from.rate u.to.rate (known u xs)) (range_with_len (u.to.start + c.args.from) len)) c.self.view_is

pub returns-clause-before : goal.returns-clause-before
returns-clause-before c = λ xs shows p at.
    let u = c.self.inside in
    let len = length c.args.out.now in
    let v : Resampling = record { from = u.from; to = u.to; reader = u.reader; before = u.window.before; after = u.window.after; given = u.given } in
    let now = c.fill_runs-self-inside.ensures.window xs (λ q is. shows q (sym (ap (λ (u : Resampling). u.reader) c.self.view_is) ∙ is)) (known_on v xs) (window_known v xs u.window refl refl c.self.invariant.0) (λ p. past_known v xs u.window.next p c.self.invariant.0) in
    let next : c.fill_runs-self-inside.result.next ≡ next_after u.from u.to (c.args.from + length c.fill_runs-self-inside.new.out) =
    next_filled c.between-course.result u.from u.to c.between-course.ensures.grid c.between-course.ensures.step c.fill_runs-self-inside.result u.given c.args.from len (length c.fill_runs-self-inside.new.out) (c.from.result + c.from-2.result) u.window.next
    (c.requires.next ∙ sym (ap (λ (u : Resampling). u.given) c.self.view_is)) c.fill_runs-self-inside.auto.out (omega arith) c.self.invariant.0 c.fill_runs-self-inside.ensures.next in
    holds_before (known_on v xs) (known v xs) c.fill_runs-self-inside.result (next_after u.from u.to (c.args.from + length c.fill_runs-self-inside.new.out)) p now next (known_is v xs) at
    ∙ ap (λ (u : Resampling). known u xs p) c.self.view_is

pub returns-clause-after : goal.returns-clause-after
returns-clause-after c = λ xs shows p at.
    let u = c.self.inside in
    let len = length c.args.out.now in
    let v : Resampling = record { from = u.from; to = u.to; reader = u.reader; before = u.window.before; after = u.window.after; given = u.given } in
    let now = c.fill_runs-self-inside.ensures.window xs (λ q is. shows q (sym (ap (λ (u : Resampling). u.reader) c.self.view_is) ∙ is)) (known_on v xs) (window_known v xs u.window refl refl c.self.invariant.0) (λ p. past_known v xs u.window.next p c.self.invariant.0) in
    let next : c.fill_runs-self-inside.result.next ≡ next_after u.from u.to (c.args.from + length c.fill_runs-self-inside.new.out) =
    next_filled c.between-course.result u.from u.to c.between-course.ensures.grid c.between-course.ensures.step c.fill_runs-self-inside.result u.given c.args.from len (length c.fill_runs-self-inside.new.out) (c.from.result + c.from-2.result) u.window.next
    (c.requires.next ∙ sym (ap (λ (u : Resampling). u.given) c.self.view_is)) c.fill_runs-self-inside.auto.out (omega arith) c.self.invariant.0 c.fill_runs-self-inside.ensures.next in
    holds_after (known_on v xs) (known v xs) c.fill_runs-self-inside.result (next_after u.from u.to (c.args.from + length c.fill_runs-self-inside.new.out)) p now next (known_is v xs) at
    ∙ ap (λ (u : Resampling). known u xs p) c.self.view_is

pub returns-clause-remembers : goal.returns-clause-remembers
returns-clause-remembers c = λ xs shows remembers.
    let u = c.self.inside in
    let len = length c.args.out.now in
    let kept = subst (λ (u : Resampling). Remembers u xs) (sym c.self.view_is) remembers in
    let window : IsWindow (two_before u.from xs) u.window = record { before = kept.before ∙ ap (two_before u.from xs) (sym c.self.invariant.0); after = kept.after ∙ ap (λ n. two_before u.from xs (n + 1)) (sym c.self.invariant.0) } in
    let now = c.fill_runs-self-inside.ensures.window xs (λ q is. shows q (sym (ap (λ (u : Resampling). u.reader) c.self.view_is) ∙ is)) (two_before u.from xs) window (λ p past. refl) in
    let next : c.fill_runs-self-inside.result.next ≡ next_after u.from u.to (c.args.from + length c.fill_runs-self-inside.new.out) =
    next_filled c.between-course.result u.from u.to c.between-course.ensures.grid c.between-course.ensures.step c.fill_runs-self-inside.result u.given c.args.from len (length c.fill_runs-self-inside.new.out) (c.from.result + c.from-2.result) u.window.next
    (c.requires.next ∙ sym (ap (λ (u : Resampling). u.given) c.self.view_is)) c.fill_runs-self-inside.auto.out (omega arith) c.self.invariant.0 c.fill_runs-self-inside.ensures.next in
    record { before = now.before ∙ ap (two_before u.from xs) next; after = now.after ∙ ap (λ n. two_before u.from xs (n + 1)) next }
