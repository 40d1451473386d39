use Rattle.std.proofs.Common.{◌∙◌, sym, ap, length}
use Rattle.std.specs.Option.{option_map}
use Rattle.std.proofs.lemmas.List.FromFn.{length-map-range_with_len}
use Rattle.ny_list.specs.Table.{entry_at, list_state}
use Rattle.ny_list.proofs.store.Store.numbers.Goals as goal

pub returns : goal.returns
returns c =
    let t = c.self.inside.table in
    c.slots.ensures ∙ sym (length-map-range_with_len (λ m. option_map (list_state t m) (entry_at t m)) 0 (length t.lists)) ∙ ap (λ s. length s.lists) c.self.view_is
