use Rattle.ny_eval.proofs.TimedLemmas.{frame_times}
use Rattle.ny_eval.proofs.frame.Frame.times.Goals as goal

pub returns : goal.returns
returns c =
    frame_times c.self.inside.lent.now c.self.inside.bound.items c.as_slice.result.now c.new-times.result.items c.add_times.new.times.items c.add_times-2.new.times.items c.from_vec.result c.args.self.now c.new-times.ensures.items c.in_ok-add_times.ensures c.in_ok-add_times-2.ensures c.as_slice.ensures.value c.from_vec.ensures c.self.view_is
