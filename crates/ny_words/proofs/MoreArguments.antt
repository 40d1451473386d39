-- A command with one argument more.
use Rattle.std.proofs.Common.{◌≡◌, ℕ, ◌+◌, ◌<◌, List, ◌∷◌, length, drop, map, get_or, refl, sym, ap, ◌∙◌, add-one, drop-cons}
use Rattle.std.specs.Prelude.{fold}
use Rattle.clap.specs.Words.{App, with_rule}
use Rattle.ny_words.specs.declared.arguments.Argument.{Argument}
use Rattle.ny_words.specs.Reader.{rule_for}

-- the arguments from a place on, added in turn
pub one_more : (app : App) (arguments : List Argument) (place : ℕ) (argument : Argument) → place < length arguments
    → argument ≡ get_or arguments place argument
    → fold with_rule app (map rule_for (drop place arguments))
    ≡ fold with_rule (with_rule app (rule_for argument)) (map rule_for (drop (place + 1) arguments))
one_more app arguments place argument within is =
    let rest : drop place arguments ≡ argument ∷ drop (place + 1) arguments =
    drop-cons arguments place argument within ∙ rw (add-one place, sym is) refl in
    ap (λ more. fold with_rule app (map rule_for more)) rest
