-- One element more of a list that is written with commas.
use Rattle.std.proofs.Common.{◌≡◌, ℕ, suc, ◌+◌, ◌<◌, List, ◌∷◌, ◌++◌, length, map, drop, get_or, drop-cons, add-one, Bool, true, sym, ap, ◌∙◌, subst}
use Rattle.ny_syntax.specs.Spelled.{Lexeme, onto}
use Rattle.ny_syntax.specs.Canonical.{Written, comma_after, separated}
use Rattle.ny_syntax.proofs.WrittenEquations.{onto-append}

next-part : {A : Type 0} (parts : List A) (place : ℕ) (part : A) → place < length parts → part ≡ get_or parts place part
    → drop place parts ≡ part ∷ drop (place + 1) parts
next-part parts place part within is = rw (add-one) (drop-cons parts place part within ∙ ap (λ z. z ∷ drop (suc place) parts) (sym is))

pub commas-step : {A : Type 0} (show : A → Written) (parts : List A) (place : ℕ) (part : A) (some : Bool) (out with_comma with_part whole : List ℕ)
    → place < length parts → part ≡ get_or parts place part
    → with_comma ≡ onto out (comma_after some) → with_part ≡ onto with_comma (show part).lexemes
    → onto out (separated some (map show (drop place parts))) ≡ whole
    → onto with_part (separated true (map show (drop (place + 1) parts))) ≡ whole
commas-step show parts place part some out with_comma with_part whole within is comma written before =
    let more : List Lexeme = separated true (map show (drop (place + 1) parts)) in
    let now : onto out (comma_after some ++ ((show part).lexemes ++ more)) ≡ whole = subst (λ z. onto out (separated some (map show z)) ≡ whole) (next-part parts place part within is) before in
    ap (λ z. onto z more) (written ∙ ap (λ z. onto z (show part).lexemes) comma)
    ∙ sym (onto-append (onto out (comma_after some)) (show part).lexemes more)
    ∙ sym (onto-append out (comma_after some) ((show part).lexemes ++ more))
    ∙ now
