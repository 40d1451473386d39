-- Places that hold something or nothing, and stacks of their numbers.
use Rattle.std.proofs.Common.{◌≡◌, ◌≢◌, ℕ, ◌+◌, ◌<◌, List, [], ◌∷◌, ◌++◌, Option, None, Some, is_none, IsSome, count_by, arith, length, get_or, set, length-set, length-append, cond, replicate, ◌-◌, inl, inr, refl, sym, subst, ◌∙◌, ap}
use Rattle.std.proofs.lemmas.List.{get_or_past, get_or_append_left, get_or-append_right, get_or_push, get_or-replicate, length-replicate}
use Rattle.std.proofs.lemmas.Bool.{cases_lt}
use Rattle.std.proofs.lemmas.List.Sums.{sum_by-set, count_by-le-length}
use Rattle.std.specs.List.{All, AllPairs}

-- one for a place that holds nothing
abbrev pub vacancy : {A : Type 0} → Option A → ℕ
vacancy o = cond (is_none o) 1 0

-- what lies below the top of a stack
pub All-pop : (P : ℕ → Type 0) (xs : List ℕ) (x : ℕ) → All P (xs ++ x ∷ []) → All P xs
All-pop P xs x all k d h = subst P (get_or_append_left xs (x ∷ []) d k h) (all k d (omega (arith, length-append xs (x ∷ []))))

pub All-top : (P : ℕ → Type 0) (xs : List ℕ) (x : ℕ) → All P (xs ++ x ∷ []) → P x
All-top P xs x all = subst P (get_or_push xs x 0 (length xs) refl) (all (length xs) 0 (omega (arith, length-append xs (x ∷ []))))

pub AllPairs-pop : (R : ℕ → ℕ → Type 0) (xs : List ℕ) (x : ℕ) → AllPairs R (xs ++ x ∷ []) → AllPairs R xs
AllPairs-pop R xs x all i j d h k =
    subst (λ a. R a (get_or xs j d)) (get_or_append_left xs (x ∷ []) d i (omega arith))
    (subst (λ b. R (get_or (xs ++ x ∷ []) i d) b) (get_or_append_left xs (x ∷ []) d j k) (all i j d h (omega (arith, length-append xs (x ∷ [])))))

-- no number below the top is the top
pub top_apart : (xs : List ℕ) (x : ℕ) → AllPairs (λ a b. a ≢ b) (xs ++ x ∷ []) → All (λ a. a ≢ x) xs
top_apart xs x apart k d h e =
    apart k (length xs) d h (omega (arith, length-append xs (x ∷ [])))
    (get_or_append_left xs (x ∷ []) d k h ∙ e ∙ sym (get_or_push xs x d (length xs) refl))

module _ {T : Type 0} where
  pub no_vacancy : (o : Option T) → IsSome o → vacancy o ≡ 0
  no_vacancy None some = cc
  no_vacancy (Some x) some = refl

  pub within_places : (places : List (Option T)) (s : ℕ) → IsSome (get_or places s None) → s < length places
  within_places places s some = grind (arith, get_or_past)

  -- where a place holds something, not all hold nothing
  pub room_for_one : (places : List (Option T)) (s : ℕ) → IsSome (get_or places s None) → count_by is_none places < length places
  room_for_one places s some =
      omega (
        arith,
        sum_by-set vacancy places s None None (within_places places s some),
        no_vacancy (get_or places s None) some,
        count_by-le-length is_none (set places s None),
        length-set places s None,
      )

  pub count-filled : (places : List (Option T)) (s : ℕ) (v : T) → s < length places → get_or places s None ≡ None → count_by is_none (set places s (Some v)) + 1 ≡ count_by is_none places
  count-filled places s v within empty = omega (arith, ap vacancy empty, sum_by-set vacancy places s (Some v) None within)

  pub count-emptied : (places : List (Option T)) (s : ℕ) → IsSome (get_or places s None) → count_by is_none (set places s None) ≡ count_by is_none places + 1
  count-emptied places s some = omega (arith, no_vacancy (get_or places s None) some, sum_by-set vacancy places s None None (within_places places s some))

  pub count-kept : (places : List (Option T)) (s : ℕ) (v : T) → IsSome (get_or places s None) → count_by is_none (set places s (Some v)) ≡ count_by is_none places
  count-kept places s v some = omega (arith, no_vacancy (get_or places s None) some, sum_by-set vacancy places s (Some v) None (within_places places s some))

  -- places that hold nothing make no difference behind the others
  pub get_or-added : (places : List (Option T)) (more s : ℕ) → get_or (places ++ replicate more None) s None ≡ get_or places s None
  get_or-added places more s =
      elim (cases_lt s (length places)) [
        | inl inside ↦ get_or_append_left places (replicate more None) None s inside
        | inr past ↦ get_or-append_right places (replicate more None) (length places) s None refl past ∙ nothing (s - length places) ∙ sym (get_or_past places s None past)
      ]
    where
      nothing : (k : ℕ) → get_or (replicate {A = Option T} more None) k None ≡ None
      nothing k =
          elim (cases_lt k more) [
            | inl inside ↦ get_or-replicate more k None None inside
            | inr past ↦ get_or_past (replicate {A = Option T} more None) k None (omega (arith, length-replicate {A = Option T} more None))
          ]
