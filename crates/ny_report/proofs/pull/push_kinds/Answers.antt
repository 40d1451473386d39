use Rattle.std.proofs.Common.{◌≡◌, ◌++◌, ◌⊎◌, [], sym, ap, ◌∙◌, inl, inr}
use Rattle.std.proofs.lemmas.List.{append-nil, nil_from_length}
use Rattle.std.specs.Iterator.Adapters.{zip_first, zip_second}
use Rattle.std.specs.Slice.Iter.{iter_rest}
use Rattle.ny_report.proofs.KindsLeft.{none_left}
use Rattle.ny_report.proofs.pull.push_kinds.Goals as goal

pub returns : goal.returns
returns c =
    let names = iter_rest (zip_first c.loop-name.name-iterator) in
    let counts = iter_rest (zip_second c.loop-name.name-iterator) in
    let ended : (names ≡ []) ⊎ (counts ≡ []) = elim c.in-None.ensures.steps [
      | inl first ↦ inl (nil_from_length names first.1.0)
      | inr second ↦ inr (nil_from_length counts second.1.0)
    ] in
    sym (append-nil c.loop-name.line.items) ∙ ap (λ rest. c.loop-name.line.items ++ rest) (sym (none_left names counts ended)) ∙ c.loop-name.invariant
