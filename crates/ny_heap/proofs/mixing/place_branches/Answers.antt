use Rattle.std.proofs.Common.{List, map, deque_items, set, Option, sym, ap, ◌∙◌}
use Rattle.std.specs.Option.{option_map_or}
use Rattle.std.proofs.lemmas.List.{map-set}
use Rattle.ny_list.specs.Store.{CursorState}
use Rattle.ny_heap.proofs.mixing.place_branches.Goals as goal

pub returns-in-Some : goal.returns-in-Some
returns-in-Some g c =
    map-set deque_items c.args.places.now.items c.list.result c.from.result
    ∙ (λ k. set (map deque_items c.args.places.now.items) (c.list.ensures k) (c.from.ensures.0 k))
    ∙ ap (λ (o : Option CursorState). option_map_or {U = List (List g.row.B.Denot)} (λ d. set (map deque_items c.args.places.now.items) d.list c.args.branches.items) o (map deque_items c.args.places.now.items)) (sym c.in-Some.is)
