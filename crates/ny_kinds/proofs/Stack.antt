-- What the table needs of its stack.
use Rattle.std.proofs.Common.{◌≡◌, ℕ, suc, ◌+◌, ◌-◌, ◌*◌, ◌^◌, ◌<◌, ◌≤◌, min, List, [], ◌∷◌, ◌++◌, drop, length, get_or, All, refl, sym, ap, ◌∙◌, arith, subst, inl, inr}
use Rattle.std.specs.Prelude.{zip, Bool, true, false, IsTrue, ◌↔◌, Option}
use Rattle.std.proofs.lemmas.Bool.{cases_lt}
use Rattle.std.proofs.Math.ListN.{drop_of_length-le}
use Rattle.std.proofs.lemmas.List.Elements.{All-push, All-append}
use Rattle.std.proofs.lemmas.List.{get_or_append_left, length-append}
use Rattle.std.proofs.Math.Seq.{get_or-append_seam}
use Rattle.ny_resolve.specs.declared.term.Declared.{Declared}
use Rattle.ny_resolve.specs.declared.term.NameId.{NameId}
use Rattle.ny_kinds.specs.declared.kind.Entry.{Entry}
use Rattle.ny_kinds.specs.declared.kind.Kind.{Kind}
use Rattle.ny_kinds.specs.declared.kind.Use.{Use}
use Rattle.ny_kinds.specs.declared.kind.Stop.{Stop}
use Rattle.ny_kinds.specs.declared.kind.Stop.TheVariants as stop
use Rattle.ny_kinds.specs.Kinds.{some_kinds, behavior_at}
use Rattle.ny_kinds.specs.Table.{IsRight, IsReason, AreBefore, top_of}

pub top_of-push : (us : List Use) (u : Use) → top_of (us ++ u ∷ []) ≡ u.number + 1
top_of-push [] u = refl
top_of-push (x ∷ []) u = refl
top_of-push (x ∷ (y ∷ us)) u = top_of-push (y ∷ us) u

pub not_empty : (us : List Use) (u : Use) {A : Type 0} → us ++ u ∷ [] ≡ [] → A
not_empty [] u e = cc
not_empty (x ∷ us) u e = cc

pub top_of-bound : (n : ℕ) (us : List Use) → All (λ (u : Use). u.number < n) us → top_of us ≤ n
top_of-bound n [] h = omega arith
top_of-bound n (u ∷ []) h = let l : u.number < n = h 0 u (omega arith) in omega arith
top_of-bound n (u ∷ (v ∷ us)) h = top_of-bound n (v ∷ us) (λ k d l. h (suc k) d (omega arith))

zip-nothing : {A B : Type 0} (xs : List A) → zip {K = A} {X = B} xs [] ≡ []
zip-nothing [] = refl
zip-nothing (x ∷ xs) = refl

-- nothing is left to pair
pub paired_end : (ps : List NameId) (ks : List Kind) (n : ℕ) → n ≡ min (length ps) (length ks) → zip (drop n ps) (some_kinds (drop n ks)) ≡ []
paired_end ps ks n h =
    elim (cases_lt (length ps) (length ks)) [
      | inl lt ↦ let e : drop n ps ≡ [] = drop_of_length-le ps (omega arith) in rw e
      | inr ge ↦ let e : drop n ks ≡ [] = drop_of_length-le ks (omega arith) in rw e (zip-nothing (drop n ps))
    ]

pub right_push : (ds : List Declared) (known known' : List Entry) (e : Entry) → known' ≡ known ++ e ∷ [] → e.number < length ds → e.found ≡ behavior_at ds e.number e.kinds → All (IsRight ds) known → All (IsRight ds) known'
right_push ds known known' e pushed within found h =
    let one : IsRight ds e = record { within = within; found = found } in
    subst (All (IsRight ds)) (sym pushed) (All-push (IsRight ds) known e h one)

pub stack_push : (n : ℕ) (us us' : List Use) (u : Use) → us' ≡ us ++ u ∷ [] → u.number < n → All (λ (w : Use). w.number < n) us → All (λ (w : Use). w.number < n) us'
stack_push n us us' u pushed within h = subst (All (λ (w : Use). w.number < n)) (sym pushed) (All-push (λ (w : Use). w.number < n) us u h within)

-- the table is longer by one
pub smaller_longer : (len len' top top' : ℕ) → len < len' → len < 2 ^ 63 → top' ≤ 2 ^ 32 → 0 < top → (2 ^ 63 - len') * 2 ^ 32 + top' < (2 ^ 63 - len) * 2 ^ 32 + top
smaller_longer len len' top top' more small high low = omega arith

-- an earlier function stands on the stack, and the table is no shorter
pub smaller_down : (len len' top top' : ℕ) → len ≤ len' → len' < 2 ^ 63 → top' < top → (2 ^ 63 - len') * 2 ^ 32 + top' < (2 ^ 63 - len) * 2 ^ 32 + top
smaller_down len len' top top' more small h = omega arith

pub missing_is : (most : Option ℕ) (here : ℕ) (s : Stop) (u : Use) (callers : List Use) → s ≡ stop.Missing u callers → IsReason most here s → (u.number < here) × AreBefore here callers
missing_is most here s u callers is h = subst (IsReason most here) is h

pub before_wider : (n m : ℕ) (us : List Use) → n ≤ m → AreBefore n us → AreBefore m us
before_wider n m us le h = λ i d l. let each : (get_or us i d).number < n = h i d l in omega arith

pub none_before : (n : ℕ) (us : List Use) → us ≡ [] → AreBefore n us
none_before n us is = subst (AreBefore n) (sym is) (λ i d l. absurd (omega arith))

-- one more caller
pub reason_more : (most : Option ℕ) (n here : ℕ) (s : Stop) (u caller : Use) (callers : List Use) → s ≡ stop.Missing u callers → caller.number ≡ n → n < here
    → IsReason most n s → IsReason most here (stop.Missing u (callers ++ caller ∷ []))
reason_more most n here s u caller callers is number before h =
    let all : (u.number < n) × AreBefore n callers = missing_is most n s u callers is h in
    (omega (arith, all.0), All-push (λ (w : Use). w.number < here) callers caller (λ i d l. omega (arith, all.1 i d l)) (omega arith))

pub stack_last : (n : ℕ) (us all : List Use) (u : Use) → all ≡ us ++ u ∷ [] → All (λ (w : Use). w.number < n) all → u.number < n
stack_last n us all u is h =
    let here : All (λ (w : Use). w.number < n) (us ++ u ∷ []) = subst (All (λ (w : Use). w.number < n)) is h in
    let at : (get_or (us ++ u ∷ []) (length us) u).number < n = here (length us) u (rw (length-append us (u ∷ [])) (omega arith)) in
    subst (λ (w : Use). w.number < n) (get_or-append_seam us u [] u) at

pub stack_front : (n : ℕ) (us all : List Use) (u : Use) → all ≡ us ++ u ∷ [] → All (λ (w : Use). w.number < n) all → All (λ (w : Use). w.number < n) us
stack_front n us all u is h = λ k d l.
    let here : All (λ (w : Use). w.number < n) (us ++ u ∷ []) = subst (All (λ (w : Use). w.number < n)) is h in
    let at : (get_or (us ++ u ∷ []) k d).number < n = here k d (rw (length-append us (u ∷ [])) (omega arith)) in
    subst (λ (w : Use). w.number < n) (get_or_append_left us (u ∷ []) d k l) at

-- the last of the stack, by the list that a pop leaves
pub top_is : (us all : List Use) (u : Use) → all ≡ us ++ u ∷ [] → top_of all ≡ u.number + 1
top_is us all u is = ap top_of is ∙ top_of-push us u

pub le_few : {a n : ℕ} → a ≤ n → n < 2 ^ 32 → a ≤ 2 ^ 32
le_few h k = omega arith
