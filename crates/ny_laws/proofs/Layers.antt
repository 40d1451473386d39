-- Kinds and tests of a part, by its term.
use Rattle.std.proofs.Common.{◌≡◌, ap, ◌∙◌}
use Rattle.ny_resolve.specs.declared.term.Term.{Term}
use Rattle.ny_resolve.specs.declared.term.Term.TheFolds.{fold-Term, fold-roll-Term, fold_out-Part, fold_out-Bound, map-Term}
use Rattle.ny_resolve.specs.declared.term.Term.TheOpen.{Term-F}
use Rattle.ny_resolve.specs.declared.term.Term.TheViews.{roll-Term}
use Rattle.ny_resolve.specs.declared.term.Part.{Part}
use Rattle.ny_resolve.specs.declared.term.Bound.{Bound}
use Rattle.ny_kinds.specs.Kinds.{Kinded, KindedBind, Formed, term_kind, bound_kind, part_kind, kind_of, kind_of_bind}
use Rattle.ny_laws.specs.Whole.{Tested, TestedBind, term_whole, bound_whole, part_whole, is_whole, is_whole_bind}

abbrev pub kind_of_term : Term → Formed
kind_of_term = fold-Term Formed KindedBind Kinded term_kind bound_kind part_kind

abbrev pub whole_term : Term → Tested
whole_term = fold-Term Tested TestedBind Tested term_whole bound_whole part_whole

pub kind-at : (p : Part) (x : Term-F Term Bound Part) → p.term ≡ roll-Term x
    → kind_of p ≡ term_kind (map-Term Term Bound Part Formed KindedBind Kinded kind_of_term kind_of_bind kind_of x) p.at
kind-at p x is =
    fold_out-Part Formed KindedBind Kinded term_kind bound_kind part_kind p ∙ ap (λ (f : Term). kind_of_term f p.at) is
    ∙ ap (λ (f : Formed). f p.at) (fold-roll-Term Formed KindedBind Kinded term_kind bound_kind part_kind x)

pub kind-bind : (b : Bound) → kind_of_bind b ≡ record { name = b.name; value = kind_of b.value }
kind-bind b = fold_out-Bound Formed KindedBind Kinded term_kind bound_kind part_kind b

pub whole-at : (p : Part) (x : Term-F Term Bound Part) → p.term ≡ roll-Term x
    → is_whole p ≡ term_whole (map-Term Term Bound Part Tested TestedBind Tested whole_term is_whole_bind is_whole x)
whole-at p x is =
    fold_out-Part Tested TestedBind Tested term_whole bound_whole part_whole p ∙ ap whole_term is
    ∙ fold-roll-Term Tested TestedBind Tested term_whole bound_whole part_whole x

pub whole-bind : (b : Bound) → is_whole_bind b ≡ record { name = b.name; value = is_whole b.value }
whole-bind b = fold_out-Bound Tested TestedBind Tested term_whole bound_whole part_whole b
