-- Answers of calls, and lists of sounds that are handed on.
use Rattle.std.proofs.Common.{◌≡◌, ◌<◌, zero, suc, ℕ, List, [], ◌∷◌, ◌++◌, All, get_or, Result, Ok, Err, IfOk, OnErr, ap, ◌∙◌, arith}
use Rattle.ny_heap.specs.declared.sound.Sound.{Sound}

pub if_both : {A E : Type 0} (r : Result A E) (P Q R : A → Type 0) → ((x : A) → P x → Q x → R x) → IfOk r P → IfOk r Q → IfOk r R
if_both (Ok x) P Q R f p q = f x p q
if_both (Err e) P Q R f p q = tt

pub err_one : {A E : Type 0} (r : Result A E) (P R : Type 0) → (P → R) → OnErr r P → OnErr r R
err_one (Ok x) P R f p = tt
err_one (Err e) P R f p = f p

pub on_err : {A E : Type 0} (r : Result A E) (P : Type 0) → P → OnErr r P
on_err (Ok x) P p = tt
on_err (Err e) P p = p

pub listed_one : (none one : List Sound) (a : Sound) → none ≡ [] → one ≡ none ++ a ∷ [] → one ≡ a ∷ []
listed_one none one a e f = f ∙ ap (λ xs. xs ++ a ∷ []) e

pub listed_two : (none one two : List Sound) (a b : Sound) → none ≡ [] → one ≡ none ++ a ∷ [] → two ≡ one ++ b ∷ [] → two ≡ a ∷ b ∷ []
listed_two none one two a b e f g = g ∙ ap (λ xs. xs ++ b ∷ []) (f ∙ ap (λ xs. xs ++ a ∷ []) e)

-- ---- all of some

pub all_one : (P : Sound → Type 0) (a : Sound) → P a → All P (a ∷ [])
all_one P a p k d within = at k d within
  where
    at : (k : ℕ) (d : Sound) → k < 1 → P (get_or (a ∷ []) k d)
    at zero d within = p
    at (suc k) d within = absurd (omega (arith, within))

pub all_two : (P : Sound → Type 0) (a b : Sound) → P a → P b → All P (a ∷ b ∷ [])
all_two P a b p q k d within = at k d within
  where
    at : (k : ℕ) (d : Sound) → k < 2 → P (get_or (a ∷ b ∷ []) k d)
    at zero d within = p
    at (suc zero) d within = q
    at (suc (suc k)) d within = absurd (omega (arith, within))
