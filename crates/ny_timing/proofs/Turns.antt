-- One more part of a sequence, one more turn of a repeat, one more argument.
use Rattle.std.proofs.Common.{◌≡◌, ℕ, suc, ◌+◌, ◌-◌, ◌<◌, ◌≤◌, min, List, [], ◌∷◌, ◌++◌, ap, sym, ◌∙◌, arith, append_assoc, map, drop, get_or, length, subst, add-one, drop-cons, refl, inl, inr}
use Rattle.std.specs.Prelude.{zip}
use Rattle.std.specs.List.{range_with_len}
use Rattle.std.proofs.lemmas.Bool.{cases_lt}
use Rattle.std.proofs.lemmas.List.{append-nil}
use Rattle.std.proofs.Math.ListN.{drop_of_length-le}
use Rattle.ny_check.specs.declared.node.ExprId.{ExprId}
use Rattle.ny_check.specs.Code.{AllBelow}
use Rattle.ny_num.specs.declared.timing.Timing.{Timing}
use Rattle.ny_warp.specs.declared.env.Env.{Env}
use Rattle.ny_timing.specs.Timings.{times_after, times_together, next_time, brought_time}

drop-next : {A : Type 0} (es : List A) (i : ℕ) (d : A) → i < length es → drop i es ≡ get_or es i d ∷ drop (i + 1) es
drop-next es i d h = rw (add-one, drop-cons es i d)

pub below-next : (n : ℕ) (es : List ExprId) (i : ℕ) (d : ExprId) → i < length es → AllBelow n (drop i es) → AllBelow n (drop (i + 1) es)
below-next n es i d h all =
    let P : List ExprId → Type 0 = λ l. AllBelow n l in
    (subst P (drop-next es i d h) all).1

pub below-here : (n : ℕ) (es : List ExprId) (i : ℕ) (d : ExprId) → i < length es → AllBelow n (drop i es) → (get_or es i d).0 < n
below-here n es i d h all =
    let P : List ExprId → Type 0 = λ l. AllBelow n l in
    (subst P (drop-next es i d h) all).0

pub range-next : (k n : ℕ) → k < n → range_with_len k (n - k) ≡ k ∷ range_with_len (k + 1) (n - (k + 1))
range-next k n h =
    let one : n - k ≡ suc (n - (k + 1)) = omega arith in
    ap (range_with_len k) one

pub range-first : (n : ℕ) → 0 < n → range_with_len 0 n ≡ 0 ∷ range_with_len 1 (n - 1)
range-first n h =
    let one : n ≡ suc (n - 1) = omega arith in
    ap (range_with_len 0) one

times_after-next : (env : Env) (stop : ℕ) (times : List Timing) (p : Env → Timing) (ps : List (Env → Timing)) (t : Timing) → t ≡ next_time env stop p → (times ++ t ∷ []) ++ times_after env t.stop ps ≡ times ++ times_after env stop (p ∷ ps)
times_after-next env stop times p ps t h =
    append_assoc times (t ∷ []) (times_after env t.stop ps)
    ∙ ap (λ (u : Timing). times ++ (u ∷ times_after env u.stop ps)) h

pub turn_of_repeat : (env : Env) (stop : ℕ) (times times' whole : List Timing) (p : ℕ → Env → Timing) (k n : ℕ) (t : Timing) → k < n → times ++ times_after env stop (map p (range_with_len k (n - k))) ≡ whole → t ≡ next_time env stop (p k) → times' ≡ times ++ t ∷ [] → times' ++ times_after env t.stop (map p (range_with_len (k + 1) (n - (k + 1)))) ≡ whole
turn_of_repeat env stop times times' whole p k n t h so_far value pushed =
    ap (λ (us : List Timing). us ++ times_after env t.stop (map p (range_with_len (k + 1) (n - (k + 1))))) pushed
    ∙ times_after-next env stop times (p k) (map p (range_with_len (k + 1) (n - (k + 1)))) t value
    ∙ ap (λ (ks : List ℕ). times ++ times_after env stop (map p ks)) (sym (range-next k n h))
    ∙ so_far

pub turn_of_sequence : {A : Type 0} (env : Env) (stop : ℕ) (times times' whole : List Timing) (p : A → Env → Timing) (es : List A) (i : ℕ) (d : A) (t : Timing) → i < length es → times ++ times_after env stop (map p (drop i es)) ≡ whole → t ≡ next_time env stop (p (get_or es i d)) → times' ≡ times ++ t ∷ [] → times' ++ times_after env t.stop (map p (drop (i + 1) es)) ≡ whole
turn_of_sequence env stop times times' whole p es i d t h so_far value pushed =
    let next : drop i es ≡ get_or es i d ∷ drop (i + 1) es = drop-next es i d h in
    ap (λ (us : List Timing). us ++ times_after env t.stop (map p (drop (i + 1) es))) pushed
    ∙ times_after-next env stop times (p (get_or es i d)) (map p (drop (i + 1) es)) t value
    ∙ ap (λ ls. times ++ times_after env stop (map p ls)) (sym next)
    ∙ so_far

pub turn_together : (env : Env) (times times' whole : List Timing) (p : ℕ → Env → Timing) (k n : ℕ) (t : Timing) → k < n → times ++ times_together env (map p (range_with_len k (n - k))) ≡ whole → t ≡ brought_time env (p k) → times' ≡ times ++ t ∷ [] → times' ++ times_together env (map p (range_with_len (k + 1) (n - (k + 1)))) ≡ whole
turn_together env times times' whole p k n t h so_far value pushed =
    ap (λ (us : List Timing). us ++ times_together env (map p (range_with_len (k + 1) (n - (k + 1))))) pushed
    ∙ append_assoc times (t ∷ []) (times_together env (map p (range_with_len (k + 1) (n - (k + 1)))))
    ∙ ap (λ (u : Timing). times ++ (u ∷ times_together env (map p (range_with_len (k + 1) (n - (k + 1)))))) value
    ∙ ap (λ (ks : List ℕ). times ++ times_together env (map p ks)) (sym (range-next k n h))
    ∙ so_far

-- one more item of a list, each by a formula
pub one_more : {A B : Type 0} (f : A → B) (xs : List A) (i : ℕ) (x : A) (y : B) (done done' whole : List B) → i < length xs → x ≡ get_or xs i x → y ≡ f x → done' ≡ done ++ y ∷ [] → done ++ map f (drop i xs) ≡ whole → done' ++ map f (drop (i + 1) xs) ≡ whole
one_more f xs i x y done done' whole h is value pushed so_far =
    ap (λ ys. ys ++ map f (drop (i + 1) xs)) pushed
    ∙ append_assoc done (y ∷ []) (map f (drop (i + 1) xs))
    ∙ ap (λ z. done ++ (z ∷ map f (drop (i + 1) xs))) (value ∙ ap f is)
    ∙ ap (λ l. done ++ map f l) (sym (drop-next xs i x h))
    ∙ so_far

-- after the last item the list is whole
pub no_more : {A B : Type 0} (f : A → B) (xs : List A) (i : ℕ) (done : List B) → length xs ≤ i → done ++ map f (drop i xs) ≡ map f xs → done ≡ map f xs
no_more f xs i done h so_far =
    let rest : drop i xs ≡ [] = drop_of_length-le xs h in
    sym (append-nil done) ∙ ap (λ l. done ++ map f l) (sym rest) ∙ so_far

pub ruleset next_turn = (range-first)

-- after the shorter of two lists there is nothing to pair
zip-nothing : {A B : Type 0} (xs : List A) → zip {K = A} {X = B} xs [] ≡ []
zip-nothing [] = refl
zip-nothing (x ∷ xs) = refl

pub all_paired : {A B C : Type 0} (f : B → C) (xs : List A) (ys : List B) (n : ℕ) → n ≡ min (length xs) (length ys) → zip (drop n xs) (map f (drop n ys)) ≡ []
all_paired f xs ys n h =
    elim (cases_lt (length xs) (length ys)) [
      | inl lt ↦ let e : drop n xs ≡ [] = drop_of_length-le xs (omega arith) in rw e
      | inr ge ↦ let e : drop n ys ≡ [] = drop_of_length-le ys (omega arith) in rw e (zip-nothing (drop n xs))
    ]
