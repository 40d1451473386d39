-- Each token's own bytes, read alone, are that token.
use Rattle.std.proofs.Common.{◌≡◌, ℕ, ◌-◌, List, [], ◌∷◌, ◌++◌, length, take, drop, true, false, ◌==◌, if◌then◌else◌, Ok, refl, sym, ap, ◌∙◌, subst, arith, append_assoc, length-append}
use Rattle.std.proofs.Math.Seq.{drop-append_seam, take-append_seam}
use Rattle.std.specs.List.{slice_range}
use Rattle.ny_syntax.specs.declared.token.Token.{Token}
use Rattle.ny_lex.specs.Bytes.{after_gap, after_comment, is_blank}
use Rattle.ny_lex.specs.Words.{word_at}
use Rattle.ny_lex.specs.Spelling.{Spells, AreReadAlone}
use Rattle.ny_lex.proofs.Alone.{ReadsAlone, word-alone}

-- a text ends in this
abbrev EndsIn : List ℕ → List ℕ → Type 0
EndsIn text rest = (front : List ℕ) × (text ≡ front ++ rest)

ends_in-more : (byte : ℕ) (text rest : List ℕ) → EndsIn text rest → EndsIn (byte ∷ text) rest
ends_in-more byte text rest (front, is) = (byte ∷ front, ap (λ z. byte ∷ z) is)

mutual
  unfolding after_gap after_comment

  after_gap-ends : (text : List ℕ) → EndsIn text (after_gap text)
  after_gap-ends [] = ([], refl)
  after_gap-ends (byte ∷ text) =
      elim (byte == 59) as (λ comment. EndsIn (byte ∷ text) (if comment then after_comment text else (if is_blank byte then after_gap text else byte ∷ text))) [
        | true ↦ ends_in-more byte text (after_comment text) (after_comment-ends text)
        | false ↦ elim (is_blank byte) as (λ blank. EndsIn (byte ∷ text) (if blank then after_gap text else byte ∷ text))
            [ true ↦ ends_in-more byte text (after_gap text) (after_gap-ends text) | false ↦ ([], refl) ]
      ]

  after_comment-ends : (text : List ℕ) → EndsIn text (after_comment text)
  after_comment-ends [] = ([], refl)
  after_comment-ends (byte ∷ text) =
      elim (byte == 10) as (λ end. EndsIn (byte ∷ text) (if end then after_gap text else after_comment text))
      [ true ↦ ends_in-more byte text (after_gap text) (after_gap-ends text) | false ↦ ends_in-more byte text (after_comment text) (after_comment-ends text) ]

-- the bytes from where a word begins to where it ends are the word
pub slice-word : (front word after : List ℕ) → let text = front ++ (word ++ after) in
    slice_range text (length text - length (word ++ after)) (length text - length after) ≡ word
slice-word front word after =
    let text = front ++ (word ++ after) in
    let from_is : length text - length (word ++ after) ≡ length front = omega (arith, length-append front (word ++ after)) in
    let len_is : (length text - length after) - (length text - length (word ++ after)) ≡ length word =
    omega (arith, length-append front (word ++ after), length-append word after) in
    ap (λ n. take n (drop (length text - length (word ++ after)) text)) len_is
    ∙ ap (λ n. take (length word) (drop n text)) from_is
    ∙ ap (λ z. take (length word) z) (drop-append_seam front (word ++ after))
    ∙ take-append_seam word after

spells-alone : (whole text rest : List ℕ) (tokens : List Token) → EndsIn whole text → Spells (length whole) text tokens rest → AreReadAlone whole tokens
spells-alone whole text rest [] (front, is) spelled = tt
spells-alone whole text rest (token ∷ tokens) (front, is) (after, read, from, to, spelled) =
    let gap = after_gap-ends text in
    let alone : ReadsAlone (after_gap text) (Ok (token.kind, after)) = subst (λ z. ReadsAlone (after_gap text) z) read (word-alone (after_gap text)) in
    let word : List ℕ = alone.0 in
    let ahead : List ℕ = front ++ gap.0 in
    let whole_is : whole ≡ ahead ++ (word ++ after) =
    is ∙ ap (λ z. front ++ z) gap.1 ∙ sym (append_assoc front gap.0 (after_gap text)) ∙ ap (λ z. ahead ++ z) alone.1 in
    let slice : slice_range whole (length whole - length (word ++ after)) (length whole - length after) ≡ word =
    subst (λ z. slice_range z (length z - length (word ++ after)) (length z - length after) ≡ word) (sym whole_is) (slice-word ahead word after) in
    let begin : token.from ≡ length whole - length (word ++ after) = from ∙ ap (λ z. length whole - length z) alone.1 in
    let token_slice : slice_range whole token.from token.to ≡ word =
    ap (λ z. slice_range whole z token.to) begin ∙ ap (λ z. slice_range whole (length whole - length (word ++ after)) z) to ∙ slice in (
      ap word_at token_slice ∙ alone.2,
      spells-alone whole after rest tokens (ahead ++ word, whole_is ∙ sym (append_assoc ahead word after)) spelled,
    )

pub has_tokens-alone : (text : List ℕ) (tokens : List Token) → Spells (length text) text tokens [] → AreReadAlone text tokens
has_tokens-alone text tokens spelled = spells-alone text text [] tokens ([], refl) spelled
