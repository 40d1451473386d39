use Rattle.std.proofs.Common.{arith, ◌∙◌, ap}
use Rattle.ny_warp.specs.Maps.{map_value, origin}
use Rattle.ny_warp.proofs.Segments.{map_value-inside, map_value-past, rising-inside}
use Rattle.ny_warp.proofs.map.Map.value.Goals as goal

pub on_segment-requires-clause-rises : goal.on_segment-requires-clause-rises
on_segment-requires-clause-rises c =
    let here = c.in-Some.ensures.lookup.3 in
    let rises = rising-inside c.points-points.result.now c.count_up_to-next.result c.corner-start.result c.in-Some.end.now
    c.points-points.ensures.rising c.corner-start.ensures here.0 (here.1 origin) in
    omega arith

pub returns-in-Some : goal.returns-in-Some
returns-in-Some c =
    let here = c.in-Some.ensures.lookup.3 in
    let value = map_value-inside c.points-points.result.now c.count_up_to-next.result c.args.x c.corner-start.result c.in-Some.end.now
    c.count_up_to-next.ensures.parts c.corner-start.ensures here.0 here.1 in
    c.on_segment.ensures ∙ value ∙ ap (λ points. map_value points c.args.x) c.points-points.ensures.same

pub returns-in-None : goal.returns-in-None
returns-in-None c =
    let here = c.in-None.ensures.lookup.3 in
    let value = map_value-past c.points-points.result.now c.count_up_to-next.result c.args.x c.corner-start.result
    c.count_up_to-next.ensures.parts c.corner-start.ensures (omega (arith, here, c.count_up_to-next.ensures.within)) in
    c.past_end.ensures ∙ value ∙ ap (λ points. map_value points c.args.x) c.points-points.ensures.same
