-- The runs of bytes at the front of a text.
use Rattle.std.proofs.Common.{◌≡◌, ℕ, suc, ◌+◌, ◌≤◌, List, [], ◌∷◌, length, take, drop, arith, nat_lt, Bool, true, false, cond, not, Some, None, unwrap_or, if◌then◌else◌, refl, ap, ◌∙◌}
use Rattle.std.specs.List.{position, position_or_len}
use Rattle.std.proofs.lemmas.Bool.Decides.{nat_tests}
use Rattle.std.proofs.lemmas.List.Sums.{prefix_len-le-length}
use Rattle.ny_lex.specs.Bytes.{run, after_run, is_name_byte, is_number_byte}

-- where the run ends: the place of the first byte that does not pass, or the length where each passes
abbrev end_of : (ℕ → Bool) → List ℕ → ℕ
end_of passes text = position_or_len (λ byte. not (passes byte)) text

place_if : (place len : ℕ) → place ≤ len → unwrap_or (if nat_lt place len then Some place else None) len ≡ place
place_if place len within = grind (arith, nat_tests)

end_of-within : (passes : ℕ → Bool) (text : List ℕ) → end_of passes text ≤ length text
end_of-within passes text = prefix_len-le-length _ text

position-or_len : (passes : ℕ → Bool) (text : List ℕ) → unwrap_or (position (λ byte. not (passes byte)) text) (length text) ≡ end_of passes text
position-or_len passes text = place_if (end_of passes text) (length text) (end_of-within passes text)

one_more : (n : ℕ) → 1 + n ≡ suc n
one_more n = omega arith

end_of-run : (passes : ℕ → Bool) (text : List ℕ) → end_of passes text ≡ length (run passes text)
unfolding run
end_of-run passes [] = refl
end_of-run passes (byte ∷ text) = by_test (passes byte) (end_of-run passes text)
  where
    by_test : (pass : Bool) → end_of passes text ≡ length (run passes text)
        → cond (not (not pass)) (1 + end_of passes text) 0 ≡ length (if pass then byte ∷ run passes text else [])
    by_test true tail = rw (one_more (end_of passes text)) (ap (λ n. suc n) tail)
    by_test false tail = refl

pub run-within : (passes : ℕ → Bool) (text : List ℕ) → length (run passes text) ≤ length text
run-within passes text = omega (arith, end_of-run passes text, end_of-within passes text)

pub name_run-len : (text : List ℕ) → unwrap_or (position (λ byte. not (is_name_byte byte)) text) (length text) ≡ length (run is_name_byte text)
name_run-len text = position-or_len is_name_byte text ∙ end_of-run is_name_byte text

pub number_run-len : (text : List ℕ) → unwrap_or (position (λ byte. not (is_number_byte byte)) text) (length text) ≡ length (run is_number_byte text)
number_run-len text = position-or_len is_number_byte text ∙ end_of-run is_number_byte text

pub ruleset run_ends = (name_run-len, number_run-len, run-within)

-- a text is the run and what follows it
pub take-run : (passes : ℕ → Bool) (text : List ℕ) → take (length (run passes text)) text ≡ run passes text
unfolding run
take-run passes [] = refl
take-run passes (byte ∷ text) = by_test (passes byte) (take-run passes text)
  where
    by_test : (pass : Bool) → take (length (run passes text)) text ≡ run passes text
        → take (length (if pass then byte ∷ run passes text else [])) (byte ∷ text) ≡ (if pass then byte ∷ run passes text else [])
    by_test true tail = ap (λ bytes. byte ∷ bytes) tail
    by_test false tail = refl

pub drop-run : (passes : ℕ → Bool) (text : List ℕ) → drop (length (run passes text)) text ≡ after_run passes text
unfolding run after_run
drop-run passes [] = refl
drop-run passes (byte ∷ text) = by_test (passes byte) (drop-run passes text)
  where
    by_test : (pass : Bool) → drop (length (run passes text)) text ≡ after_run passes text
        → drop (length (if pass then byte ∷ run passes text else [])) (byte ∷ text) ≡ (if pass then after_run passes text else byte ∷ text)
    by_test true tail = tail
    by_test false tail = refl

pub ruleset run_split = (take-run, drop-run)
