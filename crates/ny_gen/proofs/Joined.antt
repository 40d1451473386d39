-- Notes in a row, joined: what one note more appends.
use Rattle.std.proofs.Common.{◌≡◌, ℕ, zero, suc, ◌+◌, ◌<◌, Bool, true, false, cond, List, [], ◌∷◌, ◌++◌, length, refl, ap, sym, ◌∙◌, arith, append_assoc, append-nil, length-append, add-one, codes}
use Rattle.std.specs.List.{filter, flat_map, join_by, range_with_len}
use Rattle.std.proofs.lemmas.List.{flat_map_more}
use Rattle.std.proofs.lemmas.List.Elements.{filter-append}
use Rattle.ny_gen.specs.Piece.{note_call, note_text, joined_notes, before_more, with_call}

-- a range with one number more
range-suc : (a n : ℕ) → range_with_len a (suc n) ≡ range_with_len a n ++ (a + n) ∷ []
range-suc a zero = ap (λ k. k ∷ []) (omega arith)
range-suc a (suc n) =
    let last : a + 1 + n ≡ a + suc n = omega arith in
    ap (λ ks. a ∷ ks) (range-suc (a + 1) n) ∙ ap (λ k. a ∷ (range_with_len (a + 1) n ++ k ∷ [])) last

range-more : (n : ℕ) → range_with_len 0 (n + 1) ≡ range_with_len 0 n ++ n ∷ []
range-more n =
    let last : 0 + n ≡ n = omega arith in
    ap (λ k. range_with_len 0 k) (add-one n) ∙ (range-suc 0 n ∙ ap (λ k. range_with_len 0 n ++ k ∷ []) last)

filter-more : (test : ℕ → Bool) (n : ℕ)
    → filter test (range_with_len 0 (n + 1)) ≡ filter test (range_with_len 0 n) ++ cond (test n) (n ∷ []) []
filter-more test n = ap (λ ks. filter test ks) (range-more n) ∙ filter-append test (range_with_len 0 n) (n ∷ [])

-- calls are not empty
call-some : (key milliseconds : ℕ) → 0 < length (note_call key milliseconds)
unfolding note_call
call-some key milliseconds = omega arith

note-some : (seed note : ℕ) → 0 < length (note_text seed note)
unfolding note_text
note-some seed note = call-some _ _

before_more-some : (calls : List ℕ) → 0 < length calls → before_more calls ≡ calls ++ codes ", "
before_more-some [] some = absurd (omega arith)
before_more-some (byte ∷ bytes) some = refl

join-more : (f : ℕ → List ℕ) (separator : List ℕ) (first : ℕ) (notes : List ℕ) (note : ℕ)
    → join_by f separator ((first ∷ notes) ++ note ∷ []) ≡ (join_by f separator (first ∷ notes) ++ separator) ++ f note
join-more f separator first notes note =
    sym (flat_map_more (λ y. separator ++ f y) (f first) notes note)
    ∙ sym (append_assoc (f first ++ flat_map (λ y. separator ++ f y) notes) separator (f note))

-- one note more
joined-more : (seed : ℕ) (notes : List ℕ) (note : ℕ) → joined_notes seed (notes ++ note ∷ []) ≡ before_more (joined_notes seed notes) ++ note_text seed note
joined-more seed [] note = append-nil (note_text seed note)
joined-more seed (first ∷ notes) note =
    let calls : List ℕ = joined_notes seed (first ∷ notes) in
    let some : 0 < length (joined_notes seed (first ∷ notes)) =
    omega (arith, note-some seed first, length-append (note_text seed first) (flat_map (λ y. codes ", " ++ note_text seed y) notes)) in
    join-more (note_text seed) (codes ", ") first notes note
    ∙ ap (λ before. before ++ note_text seed note) (sym (before_more-some calls some))

-- one note more, where it is among them
with_call-joined : (among : Bool) (seed : ℕ) (notes : List ℕ) (note : ℕ)
    → with_call among (joined_notes seed notes) (note_text seed note) ≡ joined_notes seed (notes ++ cond among (note ∷ []) [])
with_call-joined true seed notes note = sym (joined-more seed notes note)
with_call-joined false seed notes note = ap (λ ns. joined_notes seed ns) (sym (append-nil notes))

-- the notes of an ear, of one note more
pub ear-more : (test : ℕ → Bool) (seed n : ℕ) (before after : List ℕ) → before ≡ joined_notes seed (filter test (range_with_len 0 n))
    → after ≡ with_call (test n) before (note_text seed n) → after ≡ joined_notes seed (filter test (range_with_len 0 (n + 1)))
ear-more test seed n before after e more =
    more ∙ (ap (λ calls. with_call (test n) calls (note_text seed n)) e
    ∙ (with_call-joined (test n) seed (filter test (range_with_len 0 n)) n ∙ ap (λ ns. joined_notes seed ns) (sym (filter-more test n))))
