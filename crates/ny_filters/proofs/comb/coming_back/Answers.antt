use Rattle.std.proofs.Common.{◌∙◌, ◌-◌, ap, get_or, pos}
use Rattle.std.specs.Option.{unwrap_or}
use Rattle.std.proofs.lemmas.Option.{unwrap_or-slice_get}
use Rattle.ny_filters.proofs.comb.coming_back.Goals as goal

pub returns : goal.returns
returns c =
    c.unwrap_or.ensures ∙ ap (λ o. unwrap_or o (pos 0)) (c.copied.ensures ∙ c.get-oldest.ensures)
    ∙ unwrap_or-slice_get c.args.line.now.items (c.capacity.result - 1) (pos 0)
    ∙ ap (λ n. get_or c.args.line.now.items (n - 1) (pos 0)) c.capacity.ensures.capacity
