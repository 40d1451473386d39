-- Declarations in order, each seeing those before it.
use Rattle.std.proofs.Common.{◌≡◌, ℕ, zero, suc, ◌+◌, ◌<◌, ◌≤◌, List, [], ◌∷◌, ◌++◌, length, get_or, take, refl, sym, ap, ◌∙◌, arith, inl, inr, Option, None}
use Rattle.std.specs.Prelude.{◌⊎◌}
use Rattle.std.proofs.lemmas.List.{take_more, get_or_append_left, length-append}
use Rattle.std.proofs.Math.Seq.{get_or-append_seam}
use Rattle.std.proofs.lemmas.Bool.{cases_lt}
use Rattle.std.proofs.lemmas.List.{get_or_past}
use Rattle.ny_resolve.specs.declared.term.Declared.{Declared}
use Rattle.ny_kinds.specs.declared.kind.Kind.{Kind}
use Rattle.ny_kinds.specs.declared.kind.Found.{Found}
use Rattle.ny_kinds.specs.declared.kind.Stop.{Stop}
use Rattle.ny_kinds.specs.declared.kind.Stop.TheVariants as stop
use Rattle.ny_kinds.specs.Table.{IsReason}
use Rattle.ny_kinds.specs.Kinds.{Behavior, nothing, behaviors_after, seen, behavior, behavior_at, no_declared}

behaviors_after-append : (known : List Behavior) (xs ys : List Declared) → behaviors_after known (xs ++ ys) ≡ behaviors_after (behaviors_after known xs) ys
behaviors_after-append known [] ys = refl
behaviors_after-append known (x ∷ xs) ys = behaviors_after-append (known ++ behavior known x ∷ []) xs ys

-- one more declaration is seen
pub seen-step : (ds : List Declared) (i : ℕ) → i < length ds → seen ds (i + 1) ≡ seen ds i ++ behavior_at ds i ∷ []
seen-step ds i h =
    ap (behaviors_after []) (take_more ds i no_declared h) ∙ behaviors_after-append [] (take i ds) (get_or ds i no_declared ∷ [])

length-seen : (ds : List Declared) (n : ℕ) → n ≤ length ds → length (seen ds n) ≡ n
length-seen ds zero h = refl
length-seen ds (suc n) h =
    let within : n < length ds = omega arith in
    let one : suc n ≡ n + 1 = omega arith in
    ap (λ (k : ℕ). length (seen ds k)) one ∙ ap length (seen-step ds n within) ∙ length-append (seen ds n) (behavior_at ds n ∷ [])
    ∙ ap (λ (k : ℕ). k + 1) (length-seen ds n (omega arith)) ∙ sym one

-- what a place sees of a declaration before it
pub seen-at : (ds : List Declared) (here n : ℕ) → here ≤ length ds → n < here → get_or (seen ds here) n nothing ≡ behavior_at ds n
seen-at ds zero n h k = absurd (omega arith)
seen-at ds (suc here) n h k =
    let within : here < length ds = omega arith in
    let one : suc here ≡ here + 1 = omega arith in
    let step : seen ds (suc here) ≡ seen ds here ++ behavior_at ds here ∷ [] = ap (seen ds) one ∙ seen-step ds here within in
    ap (λ (bs : List Behavior). get_or bs n nothing) step ∙ by (seen-at ds here n (omega arith)) (cases_lt n here)
  where
    by : (n < here → get_or (seen ds here) n nothing ≡ behavior_at ds n) → ((n < here) ⊎ (here ≤ n)) → get_or (seen ds here ++ behavior_at ds here ∷ []) n nothing ≡ behavior_at ds n
    by before (inl lt) =
        let len : length (seen ds here) ≡ here = length-seen ds here (omega arith) in
        get_or_append_left (seen ds here) (behavior_at ds here ∷ []) nothing n (omega arith) ∙ before lt
    by before (inr ge) =
        let len : length (seen ds here) ≡ here = length-seen ds here (omega arith) in
        let is : n ≡ here = omega arith in
        let at : n ≡ length (seen ds here) = omega arith in
        ap (λ (k : ℕ). get_or (seen ds here ++ behavior_at ds here ∷ []) k nothing) at
        ∙ get_or-append_seam (seen ds here) (behavior_at ds here) [] nothing ∙ ap (behavior_at ds) (sym is)

-- and of one that does not come before it
seen-past : (ds : List Declared) (here n : ℕ) → here ≤ length ds → here ≤ n → get_or (seen ds here) n nothing ≡ nothing
seen-past ds here n h k =
    let len : length (seen ds here) ≡ here = length-seen ds here h in get_or_past (seen ds here) n nothing (omega arith)

-- the same, for kinds of arguments
pub behavior-seen : (ds : List Declared) (here n : ℕ) (ks : List Kind) (f : Found) → here ≤ length ds → n < here → f ≡ behavior_at ds n ks → f ≡ get_or (seen ds here) n nothing ks
behavior-seen ds here n ks f h k is = is ∙ ap (λ (b : Behavior). b ks) (sym (seen-at ds here n h k))

pub behavior-past : (ds : List Declared) (here n : ℕ) (ks : List Kind) → here ≤ length ds → here ≤ n → record { kind = None; fault = None } ≡ get_or (seen ds here) n nothing ks
behavior-past ds here n ks h k = ap (λ (b : Behavior). b ks) (sym (seen-past ds here n h k))

-- what is missing in a body that comes before comes before
pub reason-wider : (most : Option ℕ) (n m : ℕ) (s : Stop) → n < m → IsReason most n s → IsReason most m s
reason-wider most n m (stop.Missing u callers) h k = let one : u.number < n = k.0 in (omega arith, λ i d l. let each : (get_or callers i d).number < n = k.1 i d l in omega arith)
reason-wider most n m stop.TooManyNodes h k = k
reason-wider most n m stop.OutOfMemory h k = k

pub ruleset of_declarations = (behavior-seen, behavior-past, reason-wider)
