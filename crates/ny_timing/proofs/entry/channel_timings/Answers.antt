use Rattle.std.proofs.Common.{◌≡◌, [], ap, ◌∙◌, arith, map}
use Rattle.std.proofs.lemmas.List.Elements.{All-push, All-same}
use Rattle.ny_num.specs.Sound.{IsTiming}
use Rattle.ny_warp.specs.Environment.{opening}
use Rattle.ny_timing.specs.Played.{played_at, channel_time, channel_times}
use Rattle.ny_timing.proofs.TimesOfChannels.{played_times}
use Rattle.ny_timing.proofs.Turns.{one_more, no_more}
use Rattle.ny_timing.proofs.entry.channel_timings.Goals as goal

pub loop-t-preserved : goal.loop-t-preserved
loop-t-preserved c =
    let f = channel_time c.args.rate in
    let item = c.t-item.result in
    let channel = c.channel_timing.result in
    let pushed = c.in_ok-push.ensures.items in
    let value : channel ≡ f item = cc (c.channel_timing.ensures.value, c.resampled_timing.ensures.value) in
    record {
      so_far = one_more f c.deref-t-items.result.now c.loop-t.t-index item channel c.loop-t.times.items c.push.new.self.items _ (omega arith) c.t-item.is value pushed c.loop-t.invariant.so_far;
      bounds = All-same IsTiming _ _ pushed (All-push IsTiming c.loop-t.times.items channel c.loop-t.invariant.bounds c.channel_timing.ensures.bounds);
    }

pub returns-clause-value : goal.returns-clause-value
unfolding channel_times
returns-clause-value c =
    let code = c.args.p.now in
    let f = channel_time c.args.rate in
    let items = c.deref-t-items.result.now in
    let found : items ≡ played_at code code.play.0 (opening c.args.rate) [] = c.deref-t-items.ensures.value ∙ c.in_ok-played.ensures.value in
    played_times code c.args.rate c.loop-t.times.items (no_more f items c.loop-t.t-index c.loop-t.times.items (omega arith) c.loop-t.invariant.so_far ∙ ap (map f) found)
