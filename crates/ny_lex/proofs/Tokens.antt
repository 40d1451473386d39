-- The tokens of a text: one more at the end, one list a text, and their order.
use Rattle.std.proofs.Common.{◌≡◌, ◌≢◌, ℕ, ◌-◌, ◌<◌, ◌≤◌, List, [], ◌∷◌, ◌++◌, length, Ok, Err, refl, sym, ap, subst, ◌∙◌, arith}
use Rattle.ny_syntax.specs.declared.token.Token.{Token}
use Rattle.ny_syntax.specs.declared.token.TokenKind.{TokenKind}
use Rattle.ny_lex.specs.declared.fault.LexWhy.{LexWhy}
use Rattle.ny_lex.specs.Bytes.{after_gap}
use Rattle.ny_lex.specs.Words.{Read, word_at}
use Rattle.ny_syntax.specs.Places.{AreInOrder}
use Rattle.ny_lex.specs.Spelling.{Spells, HasNoTokens, IsUnreadable, IsRefused, place_of}
use Rattle.ny_lex.specs.declared.fault.LexFault.{LexFault}
use Rattle.ny_lex.specs.declared.fault.LexFault.TheVariants.{Bad, OutOfMemory}
use Rattle.ny_lex.proofs.Shorter.{after_gap-shorter, word_at-shorter}

-- one more token at the end
pub spells-one_more : (size : ℕ) (text rest after : List ℕ) (tokens : List Token) (token : Token) → Spells size text tokens rest
    → word_at rest ≡ Ok (token.kind, after) → token.from ≡ place_of size rest → token.to ≡ place_of size after
    → Spells size text (tokens ++ token ∷ []) (after_gap after)
spells-one_more size text rest after [] token is read from to = (after, rw is read, rw is from, to, refl)
spells-one_more size text rest after (first ∷ tokens) token (next, read_first, from_first, to_first, is) read from to =
    (next, read_first, from_first, to_first, spells-one_more size next rest after tokens token is read from to)

-- tokens come one after the other
pub spells-in_order : (size : ℕ) (text rest : List ℕ) (tokens : List Token) → Spells size text tokens rest → length text ≤ size
    → AreInOrder (place_of size text) tokens (place_of size rest)
spells-in_order size text rest [] is within =
    let shorter : length rest ≤ length text = omega (arith, after_gap-shorter text, ap length is) in omega arith
spells-in_order size text rest (token ∷ tokens) (after, read, from, to, is) within =
    let gap : length (after_gap text) ≤ length text = after_gap-shorter text in
    let word : length after < length (after_gap text) = word_at-shorter (after_gap text) token.kind after read in
    let tail : AreInOrder (place_of size after) tokens (place_of size rest) = spells-in_order size after rest tokens is (omega arith) in
    (omega arith, omega arith, subst (λ place. AreInOrder place tokens (place_of size rest)) (sym to) tail)

pub has_tokens-in_order : (text : List ℕ) (tokens : List Token) → Spells (length text) text tokens [] → AreInOrder 0 tokens (length text)
has_tokens-in_order text tokens is =
    let front : length text - length text ≡ 0 = omega arith in
    let back : length text - 0 ≡ length text = omega arith in
    let order : AreInOrder (place_of (length text) text) tokens (place_of (length text) []) = spells-in_order (length text) text [] tokens is (omega arith) in
    subst (λ place. AreInOrder 0 tokens place) back (subst (λ place. AreInOrder place tokens (place_of (length text) [])) front order)

-- where nothing is left the tokens are those of the whole text
pub spells-all : (size : ℕ) (text rest : List ℕ) (tokens : List Token) → Spells size text tokens rest → length rest ≡ 0 → Spells size text tokens []
spells-all size text [] tokens is none = is
spells-all size text (byte ∷ rest) tokens is none = absurd (omega arith)

no_token : (kind : TokenKind) (after : List ℕ) → word_at [] ≡ Ok (kind, after) → ⊥
unfolding word_at
no_token kind after read = cc

not_both : (text : List ℕ) (kind : TokenKind) (after : List ℕ) (why : LexWhy) → word_at text ≡ Ok (kind, after) → word_at text ≡ Err why → ⊥
not_both text kind after why read bad = let both : (let x : Read = Ok (kind, after) in x) ≡ Err why = sym read ∙ bad in cc

same_read : (text : List ℕ) (kind other_kind : TokenKind) (after other : List ℕ) → word_at text ≡ Ok (kind, after) → word_at text ≡ Ok (other_kind, other)
    → (let read : TokenKind × List ℕ = (kind, after) in read) ≡ (other_kind, other)
same_read text kind other_kind after other read other_read = cc

same_why : (text : List ℕ) (why other : LexWhy) → word_at text ≡ Err why → word_at text ≡ Err other → why ≡ other
same_why text why other read other_read = cc

same_token : (token other : Token) → token.kind ≡ other.kind → token.from ≡ other.from → token.to ≡ other.to → token ≡ other
same_token token other kind from to =
    ap (λ z. let t : Token = record { kind = z; from = token.from; to = token.to } in t) kind
    ∙ ap (λ z. let t : Token = record { kind = other.kind; from = z; to = token.to } in t) from
    ∙ ap (λ z. let t : Token = record { kind = other.kind; from = other.from; to = z } in t) to

-- a text has at most one list of tokens
pub spells-unique : (size : ℕ) (text : List ℕ) (tokens others : List Token) → Spells size text tokens [] → Spells size text others [] → others ≡ tokens
spells-unique size text [] [] is other_is = refl
spells-unique size text [] (other ∷ others) is (after, read, from, to, rest_is) =
    let at_end : word_at [] ≡ Ok (other.kind, after) = rw (← is) read in absurd (no_token other.kind after at_end)
spells-unique size text (token ∷ tokens) [] (after, read, from, to, rest_is) other_is =
    let at_end : word_at [] ≡ Ok (token.kind, after) = rw (← other_is) read in absurd (no_token token.kind after at_end)
spells-unique size text (token ∷ tokens) (other ∷ others) (after, read, from, to, is) (other_after, other_read, other_from, other_to, other_is) =
    let same = same_read (after_gap text) other.kind token.kind other_after after other_read read in
    let rest : other_after ≡ after = ap (λ z. z.1) same in
    let first : other ≡ token = same_token other token (ap (λ z. z.0) same) (other_from ∙ sym from) (other_to ∙ ap (λ z. place_of size z) rest ∙ sym to) in
    let tail : others ≡ tokens = spells-unique size after tokens others is (subst (λ z. Spells size z others []) rest other_is) in
    cc

-- tokens and a place that can't be read exclude each other
pub spells-or_unreadable : (size : ℕ) (text : List ℕ) (tokens others : List Token) (rest : List ℕ) (why : LexWhy)
    → Spells size text tokens [] → Spells size text others rest → 0 < length rest → word_at rest ≡ Err why → ⊥
spells-or_unreadable size text [] [] rest why is other_is some bad =
    let none : rest ≡ [] = sym other_is ∙ is in
    let zero : length rest ≡ 0 = ap length none in
    absurd (omega arith)
spells-or_unreadable size text [] (other ∷ others) rest why is (after, read, from, to, rest_is) some bad =
    let at_end : word_at [] ≡ Ok (other.kind, after) = rw (← is) read in no_token other.kind after at_end
spells-or_unreadable size text (token ∷ tokens) [] rest why (after, read, from, to, rest_is) other_is some bad =
    let here : word_at rest ≡ Ok (token.kind, after) = rw (← other_is) read in not_both rest token.kind after why here bad
spells-or_unreadable size text (token ∷ tokens) (other ∷ others) rest why (after, read, from, to, is) (other_after, other_read, other_from, other_to, other_is) some bad =
    let same = same_read (after_gap text) other.kind token.kind other_after after other_read read in
    spells-or_unreadable size after tokens others rest why is (subst (λ z. Spells size z others rest) (ap (λ z. z.1) same) other_is) some bad

pub unreadable-no_tokens : (text : List ℕ) (at : ℕ) (why : LexWhy) → IsUnreadable text at why → HasNoTokens text
unreadable-no_tokens text at why (others, rest, is, some, bad, place) tokens has = spells-or_unreadable (length text) text tokens others rest why has is some bad

-- only one place can't be read where each token before it can
pub unreadable-rest : (size : ℕ) (text : List ℕ) (tokens others : List Token) (rest other_rest : List ℕ) (why other_why : LexWhy)
    → Spells size text tokens rest → Spells size text others other_rest → word_at rest ≡ Err why → word_at other_rest ≡ Err other_why → other_rest ≡ rest
unreadable-rest size text [] [] rest other_rest why other_why is other_is bad other_bad = sym other_is ∙ is
unreadable-rest size text [] (other ∷ others) rest other_rest why other_why is (after, read, from, to, rest_is) bad other_bad =
    let here : word_at rest ≡ Ok (other.kind, after) = rw (← is) read in absurd (not_both rest other.kind after why here bad)
unreadable-rest size text (token ∷ tokens) [] rest other_rest why other_why (after, read, from, to, rest_is) other_is bad other_bad =
    let here : word_at other_rest ≡ Ok (token.kind, after) = rw (← other_is) read in absurd (not_both other_rest token.kind after other_why here other_bad)
unreadable-rest size text (token ∷ tokens) (other ∷ others) rest other_rest why other_why (after, read, from, to, is) (other_after, other_read, other_from, other_to, other_is) bad other_bad =
    let same = same_read (after_gap text) other.kind token.kind other_after after other_read read in
    unreadable-rest size after tokens others rest other_rest why other_why is (subst (λ z. Spells size z others other_rest) (ap (λ z. z.1) same) other_is) bad other_bad

pub unreadable-unique : (text : List ℕ) (at other : ℕ) (why other_why : LexWhy) → IsUnreadable text at why → IsUnreadable text other other_why
    → (at ≡ other) × (why ≡ other_why)
unreadable-unique text at other why other_why (tokens, rest, is, some, bad, place) (others, other_rest, other_is, other_some, other_bad, other_place) =
    let same : other_rest ≡ rest = unreadable-rest (length text) text tokens others rest other_rest why other_why is other_is bad other_bad in
    (place ∙ ap (λ z. place_of (length text) z) (sym same) ∙ sym other_place, same_why rest why other_why bad (rw (← same) other_bad))

pub refused-leftmost : (text : List ℕ) (fault : LexFault) → IsRefused text fault → fault ≢ OutOfMemory
    → (at : ℕ) (why : LexWhy) → IsUnreadable text at why → fault ≡ Bad at why
refused-leftmost text (Bad place cause) refused other at why unreadable =
    let same = unreadable-unique text place at cause why refused unreadable in
    let here : place ≡ at = same.0 in
    let so : cause ≡ why = same.1 in
    cc
refused-leftmost text OutOfMemory refused other at why unreadable = absurd (other refl)

pub refused-no_tokens : (text : List ℕ) (fault : LexFault) → IsRefused text fault → fault ≢ OutOfMemory → HasNoTokens text
refused-no_tokens text (Bad at why) refused other = unreadable-no_tokens text at why refused
refused-no_tokens text OutOfMemory refused other = absurd (other refl)

pub ruleset token_steps = (spells-one_more, after_gap-shorter, word_at-shorter)
