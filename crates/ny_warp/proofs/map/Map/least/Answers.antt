use Rattle.std.proofs.Common.{◌≤◌, ◌+◌, ◌-◌, arith}
use Rattle.ny_num.specs.Grid.{horizon}
use Rattle.ny_warp.specs.Maps.{map_value, origin, IsThreshold}
use Rattle.ny_warp.proofs.Reaches.{threshold-inside, threshold-past, if-there, none-there}
use Rattle.ny_warp.proofs.Segments.{rising-inside}
use Rattle.ny_warp.proofs.map.Map.least.Goals as goal

pub first_on_segment-requires-clause-right : goal.first_on_segment-requires-clause-right
first_on_segment-requires-clause-right c =
    let here = c.in-Some.ensures.lookup.3 in
    let rises = rising-inside c.points-points.result.now c.count_below-next.result c.corner-start.result c.in-Some.end.now
    c.points-points.ensures.rising c.corner-start.ensures here.0 (here.1 origin) in
    omega arith

pub returns-in-Some-clause-least : goal.returns-in-Some-clause-least
returns-in-Some-clause-least c =
    let here = c.in-Some.ensures.lookup.3 in
    let threshold = threshold-inside c.points-points.result.now c.count_below-next.result c.args.y c.corner-start.result c.in-Some.end.now
    c.points-points.ensures.rising c.count_below-next.ensures.parts c.corner-start.ensures here.0 (here.1 origin) in
    rw (c.first_on_segment.ensures, ← c.points-points.ensures.same) threshold

pub returns-in-None-clause-least : goal.returns-in-None-clause-least
returns-in-None-clause-least c =
    let here = c.in-None.ensures.lookup.3 in
    let last = c.corner-start.result in
    let threshold = threshold-past c.points-points.result.now c.count_below-next.result c.args.y last
    c.points-points.ensures.rising c.first_past_end.ensures.value c.count_below-next.ensures.parts c.corner-start.ensures (omega (arith, here, c.count_below-next.ensures.within)) in
    rw (← c.points-points.ensures.same)
    (if-there c.first_past_end.result (last.x + (c.args.y - last.y) ≤ horizon) (last.x + (c.args.y - last.y)) (IsThreshold (map_value c.points-points.result.now) c.args.y) c.first_past_end.ensures.time threshold)

pub returns-in-None-clause-none : goal.returns-in-None-clause-none
returns-in-None-clause-none c =
    let here = c.in-None.ensures.lookup.3 in
    let last = c.corner-start.result in
    let threshold = threshold-past c.points-points.result.now c.count_below-next.result c.args.y last
    c.points-points.ensures.rising c.first_past_end.ensures.value c.count_below-next.ensures.parts c.corner-start.ensures (omega (arith, here, c.count_below-next.ensures.within)) in
    rw (← c.points-points.ensures.same)
    (none-there c.first_past_end.result (map_value c.points-points.result.now) c.args.y (last.x + (c.args.y - last.y)) c.first_past_end.ensures.time threshold)
