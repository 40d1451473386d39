-- Tokens by their lexemes.
use Rattle.std.proofs.Common.{◌≡◌, ℕ, List, [], ◌∷◌, ◌++◌, map, refl, ap, ◌∙◌}
use Rattle.std.specs.Char.{to_ascii_lowercase}
use Rattle.std.proofs.lemmas.Str.Ascii.{lowercase-lowercase}
use Rattle.ny_syntax.specs.declared.token.Token.{Token}
use Rattle.ny_syntax.specs.declared.tree.Name.{Name}
use Rattle.ny_syntax.specs.Grammar.{name_of}
use Rattle.ny_syntax.specs.Spelled.{Lexeme, lexeme_of, name}

-- the tokens stand in the text as these
abbrev pub Are : List ℕ → List Token → List Lexeme → Type 0
Are text ts words = map (lexeme_of text) ts ≡ words

-- what holds of each list of this shape holds of tokens that stand in the text so
pub on_nil : (text : List ℕ) (P : List Token → Type 0) → P [] → (ts : List Token) → Are text ts [] → P ts
on_nil text P holds [] are = holds
on_nil text P holds (t ∷ ts) are = absurd (cc)

pub on_cons : (text : List ℕ) (P : List Token → Type 0) (word : Lexeme) (words : List Lexeme)
    → ((t : Token) (ts : List Token) → lexeme_of text t ≡ word → Are text ts words → P (t ∷ ts))
    → (ts : List Token) → Are text ts (word ∷ words) → P ts
on_cons text P word words holds [] are = absurd (cc)
on_cons text P word words holds (t ∷ ts) are = let first : lexeme_of text t ≡ word = cc in let rest : Are text ts words = cc in holds t ts first rest

pub on_append : (text : List ℕ) (P : List Token → Type 0) (front back : List Lexeme)
    → ((xs ys : List Token) → Are text xs front → Are text ys back → P (xs ++ ys))
    → (ts : List Token) → Are text ts (front ++ back) → P ts
on_append text P [] back holds ts are = holds [] ts refl are
on_append text P (word ∷ front) back holds ts are =
    on_cons text P word (front ++ back)
    (λ t rest is_word are_rest. on_append text (λ z. P (t ∷ z)) front back
    (λ xs ys are_xs are_ys. holds (t ∷ xs) ys (ap (λ z. z ∷ map (lexeme_of text) xs) is_word ∙ ap (λ z. word ∷ z) are_xs) are_ys) rest are_rest)
    ts are

-- the bytes are in lower case
abbrev pub IsFolded : Name → Type 0
IsFolded n = map to_ascii_lowercase n.bytes ≡ n.bytes

abbrev pub named : List ℕ → Name
named bytes = record { bytes = bytes }

folded_twice : (bytes : List ℕ) → map to_ascii_lowercase (map to_ascii_lowercase bytes) ≡ map to_ascii_lowercase bytes
folded_twice [] = refl
folded_twice (byte ∷ bytes) =
    ap (λ z. z ∷ map to_ascii_lowercase (map to_ascii_lowercase bytes)) (lowercase-lowercase byte) ∙ ap (λ z. to_ascii_lowercase byte ∷ z) (folded_twice bytes)

pub name_of-folded : (text : List ℕ) (t : Token) → IsFolded (name_of text t)
name_of-folded text t = folded_twice (lexeme_of text t).bytes

-- a name that is spelled as a folded one is that name
pub same_name : (text : List ℕ) (t : Token) (n : Name) → IsFolded n → lexeme_of text t ≡ name n → name_of text t ≡ n
same_name text t n folded is = ap (λ z. named (map to_ascii_lowercase z.bytes)) is ∙ ap named folded
