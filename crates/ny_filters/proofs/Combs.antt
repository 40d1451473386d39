-- The outputs of a comb, of which no more are kept than come back.
use Rattle.std.proofs.Common.{◌≡◌, ℕ, zero, suc, ◌+◌, ◌-◌, ◌<◌, ◌≤◌, List, [], ◌∷◌, ◌++◌, length, take, drop, get_or, set, refl, sym, ap, ◌∙◌, append_assoc, arith, ℤ, pos}
use Rattle.std.proofs.lemmas.List.{drop_more, take_more_set, get_or-take}
use Rattle.circular_buffer.specs.Buffer.{Buffer, buffer}
use Rattle.ny_num.specs.Filters.{comb_value, comb_after, delayed}
use Rattle.ny_filters.specs.Kept.{kept_after, comb_next}

-- two lists with the same first items
fewer : (n : ℕ) (ys zs : List ℤ) → take (suc n) ys ≡ take (suc n) zs → take n ys ≡ take n zs
fewer zero ys zs e = refl
fewer (suc n) [] [] e = refl
fewer (suc n) [] (z ∷ zs) e = absurd cc
fewer (suc n) (y ∷ ys) [] e = absurd cc
fewer (suc n) (y ∷ ys) (z ∷ zs) e =
    let first : y ≡ z = cc in
    let rest : take (suc n) ys ≡ take (suc n) zs = cc in
    ap (λ x. x ∷ take n ys) first ∙ ap (λ xs. z ∷ xs) (fewer n ys zs rest)

one_more : (n : ℕ) (v : ℤ) (ys zs : List ℤ) → take n ys ≡ take n zs → take n (v ∷ ys) ≡ take n (v ∷ zs)
one_more zero v ys zs e = refl
one_more (suc n) v ys zs e = ap (λ xs. v ∷ xs) (fewer n ys zs e)

same_back : (delay : ℕ) (ys zs : List ℤ) → 1 ≤ delay → take delay ys ≡ take delay zs → delayed delay ys ≡ delayed delay zs
same_back delay ys zs some e =
    sym (get_or-take delay ys (delay - 1) (pos 0) (omega (arith, some))) ∙ ap (λ xs. get_or xs (delay - 1) (pos 0)) e ∙ get_or-take delay zs (delay - 1) (pos 0) (omega (arith, some))

-- the outputs depend on the newest outputs alone
same_outputs : (delay : ℕ) (gain : ℤ) (ys zs xs : List ℤ) → 1 ≤ delay → take delay ys ≡ take delay zs → comb_after delay gain ys xs ≡ comb_after delay gain zs xs
same_outputs delay gain ys zs [] some e = refl
same_outputs delay gain ys zs (x ∷ xs) some e =
    let back = same_back delay ys zs some e in
    let v : ℤ = comb_value gain (delayed delay zs) x in
    ap (λ y. comb_value gain y x ∷ comb_after delay gain (comb_value gain y x ∷ ys) xs) back
    ∙ ap (λ os. v ∷ os) (same_outputs delay gain (v ∷ ys) (v ∷ zs) xs some (one_more delay v ys zs e))

taken_again : (n : ℕ) (ys : List ℤ) → take n (take n ys) ≡ take n ys
taken_again zero ys = refl
taken_again (suc n) [] = refl
taken_again (suc n) (y ∷ ys) = ap (λ xs. y ∷ xs) (taken_again n ys)

pub newest_outputs : (delay : ℕ) (gain : ℤ) (ys xs : List ℤ) → 1 ≤ delay → comb_after delay gain (take delay ys) xs ≡ comb_after delay gain ys xs
newest_outputs delay gain ys xs some = same_outputs delay gain (take delay ys) ys xs some (taken_again delay ys)

-- the outputs so far, and then those for the rest
pub record CombSoFar (gain : ℤ) (before line : Buffer ℤ) (k : ℕ) (input out : List ℤ) : Type 0 where
  pub capacity : line.capacity ≡ before.capacity
  pub written : take k out ++ comb_after before.capacity gain line.items (drop k input) ≡ comb_after before.capacity gain before.items input
  pub kept : kept_after (comb_next before.capacity gain) line.items (drop k input) ≡ kept_after (comb_next before.capacity gain) before.items input

-- one more output is written
pub one_more_output : (gain : ℤ) (before line new : Buffer ℤ) (k : ℕ) (input out : List ℤ) (x v : ℤ) → 1 ≤ before.capacity → k < length input → k < length out → x ≡ get_or input k x
    → v ≡ comb_value gain (delayed line.capacity line.items) x → new ≡ buffer (take line.capacity (v ∷ line.items)) line.capacity
    → CombSoFar gain before line k input out → CombSoFar gain before new (k + 1) input (set out k v)
one_more_output gain before line new k input out x v some within room read is pushed so_far =
    let d : ℕ = before.capacity in
    let rest : drop k input ≡ x ∷ drop (k + 1) input = drop_more input k x within ∙ ap (λ y. y ∷ drop (k + 1) input) (sym read) in
    let value : v ≡ comb_value gain (delayed d line.items) x = is ∙ ap (λ n. comb_value gain (delayed n line.items) x) so_far.capacity in
    let items : new.items ≡ take d (v ∷ line.items) = ap (λ b. b.items) pushed ∙ ap (λ n. take n (v ∷ line.items)) so_far.capacity in
    let tail : List ℤ = drop (k + 1) input in
    record {
      capacity = ap (λ b. b.capacity) pushed ∙ so_far.capacity;
      written =
          ap (λ ys. ys ++ comb_after d gain new.items tail) (take_more_set out k v room)
          ∙ append_assoc (take k out) (v ∷ []) (comb_after d gain new.items tail)
          ∙ ap (λ ys. take k out ++ v ∷ comb_after d gain ys tail) items
          ∙ ap (λ ys. take k out ++ v ∷ ys) (newest_outputs d gain (v ∷ line.items) tail some)
          ∙ ap (λ y. take k out ++ y ∷ comb_after d gain (y ∷ line.items) tail) value
          ∙ ap (λ xs. take k out ++ comb_after d gain line.items xs) (sym rest)
          ∙ so_far.written;
      kept =
          ap (λ ys. kept_after (comb_next d gain) ys tail) (items ∙ ap (λ y. take d (y ∷ line.items)) value)
          ∙ ap (kept_after (comb_next d gain) line.items) (sym rest)
          ∙ so_far.kept;
    }
