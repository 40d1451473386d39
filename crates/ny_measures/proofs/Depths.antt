-- Depths of names and declarations by what is kept of them.
use Rattle.std.proofs.Common.{◌≡◌, reverse, Some, cond, ℕ, ◌+◌, max, Bool, true, false, List, [], ◌∷◌, ◌++◌, map, get_or, take, length, ◌<◌, refl, sym, ap, ◌∙◌, arith}
use Rattle.std.specs.Prelude.{if◌then◌else◌}
use Rattle.std.specs.Option.{unwrap_or}
use Rattle.std.specs.Map.{lookup}
use Rattle.std.proofs.lemmas.List.{take_more, reverse-append}
use Rattle.ny_scope.proofs.Kept.{kept_more, kept_all}
use Rattle.ny_resolve.specs.Keys.{same_name}
use Rattle.ny_resolve.specs.declared.term.Term.TheFolds.{fold-roll-Term, fold_out-Part, fold_out-Bound}
use Rattle.ny_resolve.specs.declared.term.Term.TheOpen.{Term-F}
use Rattle.ny_resolve.specs.declared.term.Term.TheVariants as term
use Rattle.ny_resolve.specs.declared.term.Term.TheVariants.{rolls-Local, rolls-Call, rolls-Repeat}
use Rattle.ny_resolve.specs.declared.term.NameId.{NameId}
use Rattle.ny_resolve.specs.declared.term.Part.{Part}
use Rattle.ny_resolve.specs.declared.term.Bound.{Bound}
use Rattle.ny_resolve.specs.declared.term.Declared.{Declared}
use Rattle.ny_resolve.specs.declared.builtin.Order.{Order}
use Rattle.ny_measures.specs.Counts.{capped, all_capped, names_capped}
use Rattle.ny_measures.specs.Depth.{Scope, Deep, DeepBind, term_depth, bound_depth, part_depth, depth_of, depth_of_bind, scope_of, with_value, greatest, binds_depth, names_after, value_of, depths_after, body_depth, values_depth}
use Rattle.ny_measures.specs.Weight.{weights_after, weight_of, values_weight}
use Rattle.ny_measures.proofs.Capped.{known_capped}

pub names_capped-push : (vs : List (NameId × ℕ)) (x : NameId) (n : ℕ) → names_capped (vs ++ (x, n) ∷ []) ≡ names_capped vs ++ (x, capped n) ∷ []
names_capped-push [] x n = refl
names_capped-push (v ∷ vs) x n = ap (λ (w : List (NameId × ℕ)). (v.0, capped v.1) ∷ w) (names_capped-push vs x n)

names_capped-reverse : (vs : List (NameId × ℕ)) → reverse (names_capped vs) ≡ names_capped (reverse vs)
names_capped-reverse [] = refl
names_capped-reverse (v ∷ vs) =
    reverse-append ((v.0, capped v.1) ∷ []) (names_capped vs)
    ∙ ap (λ (w : List (NameId × ℕ)). w ++ (v.0, capped v.1) ∷ []) (names_capped-reverse vs)
    ∙ sym (names_capped-push (reverse vs) v.0 v.1)
    ∙ ap names_capped (sym (reverse-append (v ∷ []) vs))

found_capped : (x : NameId) (vs : List (NameId × ℕ)) → unwrap_or (lookup (same_name x) (names_capped vs)) 0 ≡ capped (unwrap_or (lookup (same_name x) vs) 0)
found_capped x [] = refl
found_capped x (v ∷ vs) = by (same_name x v.0) (found_capped x vs)
  where
    by : (b : Bool) → unwrap_or (lookup (same_name x) (names_capped vs)) 0 ≡ capped (unwrap_or (lookup (same_name x) vs) 0) → unwrap_or (cond b (Some (capped v.1)) (lookup (same_name x) (names_capped vs))) 0 ≡ capped (unwrap_or (cond b (Some v.1) (lookup (same_name x) vs)) 0)
    by true h = refl
    by false h = h

pub value_capped : (x : NameId) (vs : List (NameId × ℕ)) → value_of x (names_capped vs) ≡ capped (value_of x vs)
value_capped x vs = ap (λ (w : List (NameId × ℕ)). unwrap_or (lookup (same_name x) w) 0) (names_capped-reverse vs) ∙ found_capped x (reverse vs)

pub all_capped-push : (ns : List ℕ) (n : ℕ) → all_capped (ns ++ n ∷ []) ≡ all_capped ns ++ capped n ∷ []
all_capped-push [] n = refl
all_capped-push (m ∷ ns) n = ap (λ (w : List ℕ). capped m ∷ w) (all_capped-push ns n)

pub ruleset by_form = (value_capped, kept_all, names_capped-push, known_capped)

-- ---- the arms

depth-Local : (e : Part) (x : NameId) (s : Scope) → e.term ≡ term.Local x → depth_of e s ≡ max 1 (value_of x s.values)
depth-Local e x s is = rw (fold_out-Part Deep DeepBind Deep term_depth bound_depth part_depth e, is, ← rolls-Local x, fold-roll-Term Deep DeepBind Deep term_depth bound_depth part_depth (Term-F.Local x))

pub arm-Local : (e : Part) (x : NameId) (vs values : List (NameId × ℕ)) (ds : List ℕ) (l n : ℕ) → e.term ≡ term.Local x → values ≡ names_capped vs → l ≡ value_of x values → n ≡ max l 1 → n ≡ capped (depth_of e (scope_of vs ds))
arm-Local e x vs values ds l n is h p q =
    let last : l ≡ capped (value_of x vs) = p ∙ ap (value_of x) h ∙ value_capped x vs in
    rw (depth-Local e x (scope_of vs ds) is) (greater (value_of x vs) last)
  where
    greater : (m : ℕ) → l ≡ capped m → n ≡ capped (max 1 m)
    greater m k = omega arith

depth-Call : (e : Part) (n : ℕ) (es : List Part) (s : Scope) → e.term ≡ term.Call n es → depth_of e s ≡ 1 + greatest (map depth_of es) s + get_or s.declared n 0
depth-Call e n es s is = rw (fold_out-Part Deep DeepBind Deep term_depth bound_depth part_depth e, is, ← rolls-Call n es, fold-roll-Term Deep DeepBind Deep term_depth bound_depth part_depth (Term-F.Call n es))

pub arm-Call : (e : Part) (n : ℕ) (es : List Part) (vs : List (NameId × ℕ)) (known ds : List ℕ) (a w : ℕ) → e.term ≡ term.Call n es → known ≡ all_capped ds → a ≡ capped (greatest (map depth_of es) (scope_of vs ds)) → w ≡ get_or known n 0 → capped (capped (1 + a) + w) ≡ capped (depth_of e (scope_of vs ds))
arm-Call e n es vs known ds a w is h p q =
    let last : w ≡ capped (get_or ds n 0) = q ∙ ap (λ (k : List ℕ). get_or k n 0) h ∙ known_capped ds n in
    rw (depth-Call e n es (scope_of vs ds) is) (sums (greatest (map depth_of es) (scope_of vs ds)) (get_or ds n 0) p last)
  where
    sums : (m o : ℕ) → a ≡ capped m → w ≡ capped o → capped (capped (1 + a) + w) ≡ capped (1 + m + o)
    sums m o h k = omega arith

depth-Repeat : (e : Part) (o : Order) (x : NameId) (n : ℕ) (b : Part) (s : Scope) → e.term ≡ term.Repeat o x n b → depth_of e s ≡ 1 + max 1 (depth_of b (with_value x 0 s))
depth-Repeat e o x n b s is = rw (fold_out-Part Deep DeepBind Deep term_depth bound_depth part_depth e, is, ← rolls-Repeat o x n b, fold-roll-Term Deep DeepBind Deep term_depth bound_depth part_depth (Term-F.Repeat o x n b))

pub arm-Repeat : (e : Part) (o : Order) (x : NameId) (n : ℕ) (b : Part) (vs values inner : List (NameId × ℕ)) (ds : List ℕ) (w m : ℕ) → e.term ≡ term.Repeat o x n b → values ≡ names_capped vs → inner ≡ values ++ (x, 0) ∷ []
    → ((us : List (NameId × ℕ)) → inner ≡ names_capped us → w ≡ capped (depth_of b (scope_of us ds))) → m ≡ max w 1 → capped (1 + m) ≡ capped (depth_of e (scope_of vs ds))
arm-Repeat e o x n b vs values inner ds w m is h pushed body q =
    let us : List (NameId × ℕ) = vs ++ (x, 0) ∷ [] in
    let now : inner ≡ names_capped us = pushed ∙ ap (λ (k : List (NameId × ℕ)). k ++ (x, 0) ∷ []) h ∙ sym (names_capped-push vs x 0) in
    rw (depth-Repeat e o x n b (scope_of vs ds) is) (greater (depth_of b (scope_of us ds)) (body us now))
  where
    greater : (k : ℕ) → w ≡ capped k → capped (1 + m) ≡ capped (1 + max 1 k)
    greater k h = omega arith

-- ---- loops

bind-is : (b : Bound) → depth_of_bind b ≡ record { name = b.name; value = depth_of b.value }
bind-is b = fold_out-Bound Deep DeepBind Deep term_depth bound_depth part_depth b

-- what is kept after some binds stands for some names, from which the rest goes on as the whole does
abbrev pub StandsFor : List Bound → List (NameId × ℕ) → ℕ → List ℕ → List (NameId × ℕ) → ℕ → Type 0
StandsFor rest values most ds names depth =
    (now : List (NameId × ℕ))
    × (values ≡ names_capped now)
    × (names_after (map depth_of_bind rest) (scope_of now ds) ≡ names)
    × (max most (capped (binds_depth (map depth_of_bind rest) (scope_of now ds))) ≡ depth)

pub binds_step : (now rest : List Bound) (b : Bound) (values values' : List (NameId × ℕ)) (most most' d : ℕ) (ds : List ℕ) (names : List (NameId × ℕ)) (depth : ℕ)
    → now ≡ b ∷ rest → values' ≡ values ++ (b.name, d) ∷ [] → most' ≡ max d most
    → ((us : List (NameId × ℕ)) → values ≡ names_capped us → d ≡ capped (depth_of b.value (scope_of us ds)))
    → StandsFor now values most ds names depth → StandsFor rest values' most' ds names depth
binds_step now rest b values values' most most' d ds names depth here pushed greater found h =
    let us : List (NameId × ℕ) = h.0 in
    let n : ℕ = depth_of b.value (scope_of us ds) in
    let is : d ≡ capped n = found us h.1 in
    let step : map depth_of_bind now ≡ record { name = b.name; value = depth_of b.value } ∷ map depth_of_bind rest =
    ap (map depth_of_bind) here ∙ ap (λ (w : DeepBind). w ∷ map depth_of_bind rest) (bind-is b) in (
      us ++ (b.name, n) ∷ [],
      pushed ∙ ap (λ (w : List (NameId × ℕ)). w ++ (b.name, d) ∷ []) h.1 ∙ ap (λ (k : ℕ). names_capped us ++ (b.name, k) ∷ []) is ∙ sym (names_capped-push us b.name n),
      ap (λ (w : List DeepBind). names_after w (scope_of us ds)) (sym step) ∙ h.2,
      most_step n (binds_depth (map depth_of_bind rest) (scope_of (us ++ (b.name, n) ∷ []) ds)) is
          (ap (λ (w : List DeepBind). max most (capped (binds_depth w (scope_of us ds)))) (sym step) ∙ h.3),
    )
  where
    most_step : (k r : ℕ) → d ≡ capped k → max most (capped (max k r)) ≡ depth → max most' (capped r) ≡ depth
    most_step k r p q = omega arith

depths_after-append : (known : List ℕ) (xs ys : List Declared) → depths_after known (xs ++ ys) ≡ depths_after (depths_after known xs) ys
depths_after-append known [] ys = refl
depths_after-append known (x ∷ xs) ys = depths_after-append (known ++ body_depth x known ∷ []) xs ys

weights_after-append : (known : List ℕ) (xs ys : List Declared) → weights_after known (xs ++ ys) ≡ weights_after (weights_after known xs) ys
weights_after-append known [] ys = refl
weights_after-append known (x ∷ xs) ys = weights_after-append (known ++ weight_of x.body known ∷ []) xs ys

pub depths_step : (ds : List Declared) (i : ℕ) (d : Declared) (known known' : List ℕ) (n : ℕ) → i < length ds → d ≡ get_or ds i d → known ≡ all_capped (depths_after [] (take i ds))
    → ((ns : List ℕ) → known ≡ all_capped ns → n ≡ capped (body_depth d ns)) → known' ≡ known ++ n ∷ [] → known' ≡ all_capped (depths_after [] (take (i + 1) ds))
depths_step ds i d known known' n within at so_far found pushed =
    let before : List ℕ = depths_after [] (take i ds) in
    pushed ∙ ap (λ (k : ℕ). known ++ k ∷ []) (found before so_far) ∙ ap (λ (w : List ℕ). w ++ capped (body_depth d before) ∷ []) so_far
    ∙ sym (all_capped-push before (body_depth d before)) ∙ ap all_capped (sym (depths_after-append [] (take i ds) (d ∷ [])))
    ∙ ap (λ (w : List Declared). all_capped (depths_after [] w)) (sym (take_more ds i d within ∙ ap (λ (g : Declared). take i ds ++ g ∷ []) (sym at)))

pub weights_step : (ds : List Declared) (i : ℕ) (d : Declared) (known known' : List ℕ) (n : ℕ) → i < length ds → d ≡ get_or ds i d → known ≡ all_capped (weights_after [] (take i ds))
    → ((ns : List ℕ) → known ≡ all_capped ns → n ≡ capped (weight_of d.body ns)) → known' ≡ known ++ n ∷ [] → known' ≡ all_capped (weights_after [] (take (i + 1) ds))
weights_step ds i d known known' n within at so_far found pushed =
    let before : List ℕ = weights_after [] (take i ds) in
    pushed ∙ ap (λ (k : ℕ). known ++ k ∷ []) (found before so_far) ∙ ap (λ (w : List ℕ). w ++ capped (weight_of d.body before) ∷ []) so_far
    ∙ sym (all_capped-push before (weight_of d.body before)) ∙ ap all_capped (sym (weights_after-append [] (take i ds) (d ∷ [])))
    ∙ ap (λ (w : List Declared). all_capped (weights_after [] w)) (sym (take_more ds i d within ∙ ap (λ (g : Declared). take i ds ++ g ∷ []) (sym at)))

-- one more value counted
pub value_step : (now rest : List Declared) (d : Declared) (i total total' w all : ℕ) (ws : List ℕ) → now ≡ d ∷ rest → w ≡ capped (if d.is_variable then get_or ws i 0 else 0) → total' ≡ capped (total + w)
    → capped (total + values_weight i now ws) ≡ all → capped (total' + values_weight (i + 1) rest ws) ≡ all
value_step now rest d i total total' w all ws here is new h =
    sums (if d.is_variable then get_or ws i 0 else 0) (values_weight (i + 1) rest ws) is (ap (λ (k : List Declared). capped (total + values_weight i k ws)) (sym here) ∙ h)
  where
    sums : (m r : ℕ) → w ≡ capped m → capped (total + (m + r)) ≡ all → capped (total' + r) ≡ all
    sums m r p q = omega arith

pub deep_step : (now rest : List Declared) (d : Declared) (i most most' n all : ℕ) (ns : List ℕ) → now ≡ d ∷ rest → n ≡ capped (if d.is_variable then get_or ns i 0 else 0) → most' ≡ max n most
    → max most (capped (values_depth i now ns)) ≡ all → max most' (capped (values_depth (i + 1) rest ns)) ≡ all
deep_step now rest d i most most' n all ns here is new h =
    sums (if d.is_variable then get_or ns i 0 else 0) (values_depth (i + 1) rest ns) is (ap (λ (k : List Declared). max most (capped (values_depth i k ns))) (sym here) ∙ h)
  where
    sums : (m r : ℕ) → n ≡ capped m → max most (capped (max m r)) ≡ all → max most' (capped r) ≡ all
    sums m r p q = omega arith
