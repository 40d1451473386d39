-- Lists that are joined.
use Rattle.std.proofs.Common.{◌≡◌, List, [], ◌∷◌, ◌++◌, ap, ◌∙◌, append_assoc}

pub after : {A : Type 0} (used before mid : List A) (t : A) → used ≡ before ++ mid → used ++ t ∷ [] ≡ before ++ (mid ++ t ∷ [])
after used before mid t e = ap (λ l. l ++ t ∷ []) e ∙ append_assoc before mid (t ∷ [])

pub conditional-joined : {A : Type 0} (used mid before xs ys zs : List A) (i o c d e : A) → mid ≡ before ++ (i ∷ o ∷ xs ++ c ∷ ys ++ d ∷ []) → used ≡ mid ++ zs
    → used ++ e ∷ [] ≡ before ++ (i ∷ o ∷ xs ++ c ∷ ys ++ d ∷ zs ++ e ∷ [])
conditional-joined used mid before xs ys zs i o c d e first second =
    ap (λ l. l ++ e ∷ [])
    (second ∙ ap (λ l. l ++ zs) first ∙ append_assoc before (i ∷ o ∷ xs ++ c ∷ ys ++ d ∷ []) zs ∙ ap (λ l. before ++ l) (append_assoc (i ∷ o ∷ xs ++ c ∷ ys) (d ∷ []) zs))
    ∙ append_assoc before (i ∷ o ∷ xs ++ c ∷ ys ++ d ∷ zs) (e ∷ [])
