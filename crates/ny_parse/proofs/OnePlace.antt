-- Tokens that have a tree stop at no place, and others at one.
use Rattle.std.proofs.Common.{◌≡◌, ◌⊎◌, ℕ, List, [], ◌∷◌, ◌++◌, refl, sym, ap, subst, ◌∙◌, inl, inr, append_assoc, append-nil}
use Rattle.ny_syntax.specs.declared.token.Token.{Token}
use Rattle.ny_syntax.specs.declared.tree.Tree.{Tree}
use Rattle.ny_syntax.specs.Grammar.{HasTree}
use Rattle.ny_parse.specs.Prefix.{IsViable, CanNotFollow, StopsAt, place_of}

pub stops-no_tree : (text : List ℕ) (ts : List Token) (at : ℕ) (made : Tree) → StopsAt text ts at → HasTree text ts made → ⊥
stops-no_tree text ts at made (before, [], is, viable, ends, place) has =
    ends made (subst (λ l. HasTree text l made) (is ∙ append-nil before) has)
stops-no_tree text ts at made (before, t ∷ rest, is, viable, follows, place) has =
    follows (rest, made, subst (λ l. HasTree text l made) (is ∙ sym (append_assoc before (t ∷ []) rest)) has)

-- a list that is cut twice is cut at one place, or at one before the other
abbrev Sooner : List Token → List Token → List Token → List Token → Type 0
Sooner a ra b rb = (t : Token) × (more : List Token) × (b ≡ a ++ t ∷ more) × (ra ≡ t ∷ (more ++ rb))

abbrev Cut : List Token → List Token → List Token → List Token → Type 0
Cut a ra b rb = ((a ≡ b) × (ra ≡ rb)) ⊎ Sooner a ra b rb ⊎ Sooner b rb a ra

cut : (a ra b rb : List Token) → a ++ ra ≡ b ++ rb → Cut a ra b rb
cut [] ra [] rb e = inl (refl, e)
cut [] ra (t ∷ b) rb e = inr (inl (t, b, refl, e))
cut (t ∷ a) ra [] rb e = inr (inr (t, a, refl, sym e))
cut (x ∷ a) ra (y ∷ b) rb e = after (cut a ra b rb cc) cc
  where
    after : Cut a ra b rb → x ≡ y → Cut (x ∷ a) ra (y ∷ b) rb
    after (inl (these, those)) head = inl (cc, those)
    after (inr (inl (t, more, is, rest))) head = inr (inl (t, more, cc, rest))
    after (inr (inr (t, more, is, rest))) head = inr (inr (t, more, cc, rest))

viable-first : (text : List ℕ) (a : List Token) (t : Token) (more : List Token) → IsViable text (a ++ t ∷ more) → IsViable text (a ++ t ∷ [])
viable-first text a t more (rest, made, has) = (
  more ++ rest,
  made,
  subst (λ l. HasTree text l made) (append_assoc a (t ∷ more) rest ∙ sym (append_assoc a (t ∷ []) (more ++ rest))) has,
)

no_sooner : (text : List ℕ) (a ra b rb : List Token) → CanNotFollow text a ra → IsViable text b → Sooner a ra b rb → ⊥
no_sooner text a ra b rb follows viable (t, more, is, rest) =
    let stop : CanNotFollow text a (t ∷ (more ++ rb)) = subst (λ l. CanNotFollow text a l) rest follows in
    stop (viable-first text a t more (subst (λ l. IsViable text l) is viable))

pub stops-unique : (text : List ℕ) (ts : List Token) (at other : ℕ) → StopsAt text ts at → StopsAt text ts other → other ≡ at
stops-unique text ts at other (a, ra, is, viable, follows, place) (b, rb, again, viable_b, follows_b, place_b) =
    by_cut (cut a ra b rb (sym is ∙ again))
  where
    by_cut : Cut a ra b rb → other ≡ at
    by_cut (inl (these, those)) = place_b ∙ ap (place_of text) (sym those) ∙ sym place
    by_cut (inr (inl sooner)) = absurd (no_sooner text a ra b rb follows viable_b sooner)
    by_cut (inr (inr sooner)) = absurd (no_sooner text b rb a ra follows_b viable sooner)
