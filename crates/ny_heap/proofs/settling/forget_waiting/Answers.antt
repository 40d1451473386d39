use Rattle.ny_heap.proofs.ForgetLemmas.{IsTable-unkept, first_apart, forgot_one, forgot_fewer, forgot_all, Forgetting-more, Forgetting-none}
use Rattle.ny_heap.proofs.settling.forget_waiting.Goals as goal

pub drop_sounds-requires : goal.drop_sounds-requires
drop_sounds-requires c =
    let f = c.loop-kept.invariant in
    let x = f.settles.now in
    IsTable-unkept c.loop-kept.table c.take_waiting.new.table c.args.u x c.in-Some.kept.items f.table f.settles.after (first_apart x.work c.in-Some.kept.items (c.in-Some.ensures.first x f.settles.after)) (c.in-Some.ensures.taken x f.settles.after)

pub loop-kept-smaller : goal.loop-kept-smaller
loop-kept-smaller c =
    let f = c.loop-kept.invariant in
    let x = f.settles.now in
    let first = c.in-Some.ensures.first x f.settles.after in
    forgot_fewer c.loop-kept.table c.drop_sounds.new.table c.args.u x c.in-Some.kept.items f.settles.after first
    (forgot_one c.args.table.now c.loop-kept.table c.args.u f x c.in-Some.kept.items f.settles.after c.take_waiting.new.table (first_apart x.work c.in-Some.kept.items first) (c.in-Some.ensures.taken x f.settles.after) c.drop_sounds.new.table c.drop_sounds.ensures)

pub loop-kept-preserved : goal.loop-kept-preserved
loop-kept-preserved c =
    let f = c.loop-kept.invariant in
    let x = f.settles.now in
    Forgetting-more c.args.table.now c.loop-kept.table c.args.u f x c.in-Some.kept.items f.settles.after c.take_waiting.new.table (first_apart x.work c.in-Some.kept.items (c.in-Some.ensures.first x f.settles.after))
    (c.in-Some.ensures.taken x f.settles.after) c.drop_sounds.new.table c.drop_sounds.ensures

pub returns-clause-forgetting : goal.returns-clause-forgetting
returns-clause-forgetting c =
    let f = c.loop-kept.invariant in
    let x = f.settles.now in
    Forgetting-none c.args.table.now c.loop-kept.table c.take_waiting.new.table c.args.u f x f.settles.after (c.in_default.ensures.first x f.settles.after) (c.in_default.ensures.taken x f.settles.after)

pub returns-clause-none : goal.returns-clause-none
returns-clause-none c = λ y is.
    let f = c.loop-kept.invariant in
    let x = f.settles.now in
    forgot_all c.args.table.now c.loop-kept.table c.take_waiting.new.table c.args.u f x f.settles.after (c.in_default.ensures.first x f.settles.after) (c.in_default.ensures.taken x f.settles.after) y is
