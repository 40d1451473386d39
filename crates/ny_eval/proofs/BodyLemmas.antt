-- Blocks and calls: names that are bound while a body is evaluated.
use Rattle.std.proofs.Common.{◌≡◌, ℕ, zero, suc, ◌+◌, ◌<◌, ◌≤◌, min, List, [], ◌∷◌, ◌++◌, length, take, drop, get_or, Result, Ok, Err, IfOk, OnErr, refl, sym, ap, subst, ◌∙◌, arith}
use Rattle.std.specs.Prelude.{zip}
use Rattle.std.proofs.lemmas.List.{append-nil, append_assoc, take_more}
use Rattle.ny_warp.specs.declared.env.Env.{Env}
use Rattle.ny_resolve.specs.declared.term.NameId.{NameId}
use Rattle.ny_check.specs.declared.node.ExprId.{ExprId}
use Rattle.ny_check.specs.declared.value.Value.{Value}
use Rattle.ny_check.specs.declared.value.Value.TheVariants.{Number, Sound as SoundOf}
use Rattle.ny_check.specs.Code.{Code, AllBelow, IsOrdered}
use Rattle.ny_heap.specs.declared.sound.Sound.{Sound}
use Rattle.ny_heap.specs.Heap.{HeapState}
use Rattle.ny_heap.specs.Reach.{HeapLaws}
use Rattle.ny_hands.specs.declared.branch.Branch.{Branch}
use Rattle.ny_hands.specs.Calls.{ReleasesAll}
use Rattle.ny_hands.specs.Frames.{Names, AllHeld, sounds_among}
use Rattle.ny_hands.specs.Hands.{Hand, InHand, GivesUp}
use Rattle.ny_hands.proofs.HandLemmas.{hand_none, hand_more, hand_released_all}
use Rattle.ny_hands.proofs.HeldLemmas.{names_later, held_append, held_among}
use Rattle.ny_hands.proofs.SpendLemmas.{all_in_hand, all_given_up}
use Rattle.ny_trace.specs.Evaluates.{Trace, ValueTurn, BindsTurn, BlockTurn, ValuesTurn, CallTurn, sounds_of_values, Evaluates}
use Rattle.ny_trace.specs.Laws.{KeepsFree}
use Rattle.ny_trace.proofs.StepLemmas.{lifted, value_lifted}
use Rattle.ny_eval.proofs.EvalLemmas.{sound_hand}
use Rattle.std.specs.declared.alloc.AllocError.{AllocError}
use Rattle.ny_eval.specs.Framed.{FrameState, names_in, HasGrown, AreBound, ArePassed}

-- ---- lists

pub drop_first : {A : Type 0} (xs ys : List A) → drop (length xs) (xs ++ ys) ≡ ys
drop_first [] ys = refl
drop_first (x ∷ xs) ys = drop_first xs ys

take_first : {A : Type 0} (xs ys : List A) → take (length xs) (xs ++ ys) ≡ xs
take_first [] ys = refl
take_first (x ∷ xs) ys = ap (λ rest. x ∷ rest) (take_first xs ys)

length_first : {A : Type 0} (xs ys : List A) → length xs ≤ length (xs ++ ys)
length_first [] ys = omega arith
length_first (x ∷ xs) ys = omega (arith, length_first xs ys)

among_append : (ns ms : Names) → sounds_among (ns ++ ms) ≡ sounds_among ns ++ sounds_among ms
among_append [] ms = refl
among_append ((x, Number v) ∷ ns) ms = among_append ns ms
among_append ((x, SoundOf s) ∷ ns) ms = ap (λ ss. s ∷ ss) (among_append ns ms)

among_one : (x : NameId) (v : Value Sound) → sounds_among ((x, v) ∷ []) ≡ sounds_of_values (v ∷ [])
among_one x (Number k) = refl
among_one x (SoundOf s) = refl

among_more : (ns : Names) (x : NameId) (v : Value Sound) → sounds_among ns ++ sounds_of_values (v ∷ []) ≡ sounds_among (ns ++ (x, v) ∷ [])
among_more ns x v = ap (λ ss. sounds_among ns ++ ss) (sym (among_one x v)) ∙ sym (among_append ns ((x, v) ∷ []))

values_more : (vs : List (Value Sound)) (v : Value Sound) → sounds_of_values vs ++ sounds_of_values (v ∷ []) ≡ sounds_of_values (vs ++ v ∷ [])
values_more [] v = refl
values_more (Number k ∷ vs) v = values_more vs v
values_more (SoundOf s ∷ vs) v = ap (λ ss. s ∷ ss) (values_more vs v)

zip_none : (xs : List NameId) (vs : List (Value Sound)) → vs ≡ [] → zip xs vs ≡ []
zip_none [] vs e = refl
zip_none (x ∷ xs) [] e = refl
zip_none (x ∷ xs) (v ∷ vs) e = cc

zip_more : (xs : List NameId) (vs : List (Value Sound)) (v : Value Sound) (other : NameId) → length vs < length xs → zip xs (vs ++ v ∷ []) ≡ zip xs vs ++ (get_or xs (length vs) other, v) ∷ []
zip_more [] vs v other less = absurd (omega (arith, less))
zip_more (x ∷ xs) [] v other less = ap (λ (rest : Names). (x, v) ∷ rest) (zip_none xs [] refl)
zip_more (x ∷ xs) (w ∷ vs) v other less = ap (λ (rest : Names). (x, w) ∷ rest) (zip_more xs vs v other (omega (arith, less)))

pub zip_sounds : (xs : List NameId) (vs : List (Value Sound)) → length vs ≤ length xs → sounds_among (zip xs vs) ≡ sounds_of_values vs
zip_sounds [] [] few = refl
zip_sounds [] (v ∷ vs) few = absurd (omega (arith, few))
zip_sounds (x ∷ xs) [] few = refl
zip_sounds (x ∷ xs) (Number k ∷ vs) few = zip_sounds xs vs (omega (arith, few))
zip_sounds (x ∷ xs) (SoundOf s ∷ vs) few = ap (λ ss. s ∷ ss) (zip_sounds xs vs (omega (arith, few)))

take_least : {A : Type 0} (m n : ℕ) (xs : List A) → m ≡ min n (length xs) → take m xs ≡ take n xs
take_least zero zero xs is = refl
take_least (suc m) zero xs is = absurd (omega (arith, is))
take_least zero (suc n) [] is = refl
take_least (suc m) (suc n) [] is = absurd (omega (arith, is))
take_least zero (suc n) (x ∷ xs) is = absurd (omega (arith, is))
take_least (suc m) (suc n) (x ∷ xs) is = ap (λ rest. x ∷ rest) (take_least m n xs (omega (arith, is)))

-- ---- names that were bound

pub grown_none : (f : FrameState) (h : HeapState Branch) → HeapLaws h → HasGrown f f h h
grown_none f h laws = record { added = []; frame = λ i. record f { bound = sym (append-nil f.bound) i }; hand = hand_none h laws }

-- the heap changed, and all that came of it was given up again
pub grown_still : (f g k : FrameState) (old mid new : HeapState Branch) → HasGrown f g old mid → k ≡ g → Hand mid new [] → HasGrown f k old new
grown_still f g k old mid new p same hand = record {
  added = p.added;
  frame = same ∙ p.frame;
  hand = subst (λ ss. Hand old new ss) (append-nil (sounds_among p.added)) (hand_more old mid new (sounds_among p.added) [] p.hand hand);
}

pub bound_grown : (code : Code) (n : ℕ) (env : Env) (bs : List (NameId × ExprId)) (f g : FrameState) (old new : HeapState Branch) → AreBound code n env bs f g old new → HasGrown f g old new
bound_grown code n env bs f g old new b = record { added = b.added; frame = b.frame; hand = b.hand }

pub passed_grown : (code : Code) (n : ℕ) (env : Env) (names : Names) (xs : List NameId) (es : List ExprId) (f g : FrameState) (old new : HeapState Branch) → ArePassed code n env names xs es f g old new → HasGrown f g old new
passed_grown code n env names xs es f g old new b = record { added = zip xs b.values; frame = b.frame; hand = subst (λ ss. Hand old new ss) (sym (zip_sounds xs b.values b.few)) b.hand }

-- what they stand for is held
pub held_grown : (f g : FrameState) (old mid : HeapState Branch) → HeapLaws old → HasGrown f g old mid → AllHeld old (names_in f) → AllHeld mid (names_in g)
held_grown f g old mid laws p held =
    subst (λ (ns : Names). AllHeld mid ns) (append_assoc f.lent f.bound p.added ∙ ap names_in (sym p.frame))
    (held_append mid (names_in f) p.added (names_later old mid (sounds_among p.added) (names_in f) laws p.hand held) (held_among old mid p.added [] (subst (λ ss. Hand old mid ss) (sym (append-nil (sounds_among p.added))) p.hand)))

-- ---- and are given up

-- the bindings behind the first ones
added_is : (f g : FrameState) (old mid : HeapState Branch) (p : HasGrown f g old mid) → drop (length f.bound) g.bound ≡ p.added
added_is f g old mid p = ap (λ (q : FrameState). drop (length f.bound) q.bound) p.frame ∙ drop_first f.bound p.added

pub grown_within : (f g : FrameState) (old mid : HeapState Branch) → HasGrown f g old mid → length f.bound ≤ length g.bound
grown_within f g old mid p = omega (arith, length_first f.bound p.added, ap (λ (q : FrameState). length q.bound) p.frame)

pub grown_hands : (f g : FrameState) (old mid : HeapState Branch) → HeapLaws old → HasGrown f g old mid → InHand mid (sounds_among (drop (length f.bound) g.bound))
grown_hands f g old mid laws p = subst (λ (ns : Names). InHand mid (sounds_among ns)) (sym (added_is f g old mid p)) (all_in_hand old mid (sounds_among p.added) laws p.hand)

pub grown_left : (f g k : FrameState) (old mid : HeapState Branch) → HasGrown f g old mid → k ≡ record g { bound = take (length f.bound) g.bound } → k ≡ f
grown_left f g k old mid p is = is ∙ (ap (λ (q : FrameState). let r : FrameState = record q { bound = take (length f.bound) q.bound } in r) p.frame ∙ (λ i. record f { bound = take_first f.bound p.added i }))

pub grown_released : (f g : FrameState) (old mid new : HeapState Branch) → HeapLaws old → HasGrown f g old mid → ReleasesAll mid new (sounds_among (drop (length f.bound) g.bound)) → Hand old new []
grown_released f g old mid new laws p step =
    hand_released_all old mid new (sounds_among p.added) [] laws (subst (λ ss. Hand old mid ss) (sym (append-nil (sounds_among p.added))) p.hand)
    (subst (λ (ns : Names). ReleasesAll mid new (sounds_among ns)) (added_is f g old mid p) step)

-- ---- one more bind

binds_then : (D : Trace) (code : Code) (env : Env) (bs : List (NameId × ExprId)) (names : Names) (old mid new : HeapState Branch) (added : Names) (b : NameId × ExprId) (v : Value Sound) → BindsTurn D code env bs names old mid added → ValueTurn D code env (names ++ added) b.1 mid new v → BindsTurn D code env (bs ++ b ∷ []) names old new (added ++ (b.0, v) ∷ [])
binds_then D code env [] names old mid new [] b v first second =
    (new, refl, subst (λ (h : HeapState Branch). ValueTurn D code env names b.1 h new v) (sym first) (subst (λ (ns : Names). ValueTurn D code env ns b.1 mid new v) (append-nil names) second), refl)
binds_then D code env [] names old mid new (a ∷ added) b v first second = absurd first
binds_then D code env (c ∷ bs) names old mid new [] b v first second = absurd first
binds_then D code env (c ∷ bs) names old mid new (a ∷ added) b v first second =
    (first.0, first.1, first.2, binds_then D code env bs (names ++ a ∷ []) first.0 mid new added b v first.3 (subst (λ (ns : Names). ValueTurn D code env ns b.1 mid new v) (sym (append_assoc names (a ∷ []) added)) second))

pub bound_none : (code : Code) (n : ℕ) (env : Env) (f : FrameState) (h : HeapState Branch) → HeapLaws h → AreBound code n env [] f f h h
bound_none code n env f h laws = record { added = []; frame = λ i. record f { bound = sym (append-nil f.bound) i }; hand = hand_none h laws; turn = refl }

pub bound_more : (code : Code) (n : ℕ) (env copy : Env) (bs : List (NameId × ExprId)) (i : ℕ) (b other : NameId × ExprId) (f g k : FrameState) (old mid new : HeapState Branch) (v : Value Sound) → copy ≡ env → i < length bs → b ≡ get_or bs i other → b.1.0 < n → AreBound code n env (take i bs) f g old mid → ValueTurn (Evaluates code (b.1.0 + 1)) code copy (names_in g) b.1 mid new v → Hand mid new (sounds_of_values (v ∷ [])) → k ≡ record g { bound = g.bound ++ (b.0, v) ∷ [] } → AreBound code n env (take (i + 1) bs) f k old new
bound_more code n env copy bs i b other f g k old mid new v same within is below p step hand grown = record {
  added = p.added ++ (b.0, v) ∷ [];
  frame = grown ∙ (ap (λ (q : FrameState). let r : FrameState = record q { bound = q.bound ++ (b.0, v) ∷ [] } in r) p.frame ∙ (λ j. record f { bound = append_assoc f.bound p.added ((b.0, v) ∷ []) j }));
  hand = subst (λ ss. Hand old new ss) (among_more p.added b.0 v) (hand_more old mid new (sounds_among p.added) (sounds_of_values (v ∷ [])) p.hand hand);
  turn = subst (λ (ds : List (NameId × ExprId)). BindsTurn (Evaluates code n) code env ds (names_in f) old new (p.added ++ (b.0, v) ∷ [])) (ap (λ d. take i bs ++ d ∷ []) is ∙ sym (take_more bs i other within))
      (binds_then (Evaluates code n) code env (take i bs) (names_in f) old mid new p.added b v p.turn
      (value_lifted code (b.1.0 + 1) n b.1 env (names_in f ++ p.added) mid new v (omega (arith, below))
      (subst (λ (ns : Names). ValueTurn (Evaluates code (b.1.0 + 1)) code env ns b.1 mid new v) (ap names_in p.frame ∙ sym (append_assoc f.lent f.bound p.added))
      (subst (λ (q : Env). ValueTurn (Evaluates code (b.1.0 + 1)) code q (names_in g) b.1 mid new v) same step))));
}

-- the same after a bind that the code makes
pub bound_step : (code : Code) (n : ℕ) (env copy : Env) (bs : List (NameId × ExprId)) (i : ℕ) (b other : NameId × ExprId) (f g frame k : FrameState) (old mid made new : HeapState Branch) (v : Value Sound) → copy ≡ env → i < length bs → b ≡ get_or bs i other → b.1.0 < n → AreBound code n env (take i bs) f g old mid → ValueTurn (Evaluates code (b.1.0 + 1)) code copy (names_in g) b.1 mid made v → Hand mid made (sounds_of_values (v ∷ [])) → frame ≡ g → k ≡ record frame { bound = frame.bound ++ (b.0, v) ∷ [] } → new ≡ made → AreBound code n env (take (i + 1) bs) f k old new
bound_step code n env copy bs i b other f g frame k old mid made new v same within is below p step hand still grown heap =
    subst (λ (h : HeapState Branch). AreBound code n env (take (i + 1) bs) f k old h) (sym heap)
    (bound_more code n env copy bs i b other f g k old mid made v same within is below p step hand (grown ∙ ap (λ (q : FrameState). let r : FrameState = record q { bound = q.bound ++ (b.0, v) ∷ [] } in r) still))

-- nothing of a name that was not kept is left
pub keep_refused : (f g frame k : FrameState) (old mid made new : HeapState Branch) (v : Value Sound) → HasGrown f g old mid → Hand mid made (sounds_of_values (v ∷ [])) → frame ≡ g → k ≡ frame → GivesUp made new (sounds_of_values (v ∷ [])) → HasGrown f k old new
keep_refused f g frame k old mid made new v p hand still same gives = grown_still f g k old mid new p (same ∙ still) (all_given_up mid made new (sounds_of_values (v ∷ [])) p.hand.laws hand gives)

pub below_at : (n : ℕ) (es : List ExprId) (i : ℕ) (other : ExprId) → i < length es → AllBelow n es → (get_or es i other).0 < n
below_at n [] i other within below = absurd (omega (arith, within))
below_at n (e ∷ es) zero other within below = below.0
below_at n (e ∷ es) (suc i) other within below = below_at n es i other (omega (arith, within)) below.1

-- ---- one more argument

values_then : (D : Trace) (code : Code) (env : Env) (names : Names) (es : List ExprId) (old mid new : HeapState Branch) (vs : List (Value Sound)) (e : ExprId) (v : Value Sound) → ValuesTurn D code env names es old mid vs → ValueTurn D code env names e mid new v → ValuesTurn D code env names (es ++ e ∷ []) old new (vs ++ v ∷ [])
values_then D code env names [] old mid new [] e v first second = (new, subst (λ (h : HeapState Branch). ValueTurn D code env names e h new v) (sym first) second, refl)
values_then D code env names [] old mid new (w ∷ vs) e v first second = absurd first
values_then D code env names (d ∷ es) old mid new [] e v first second = absurd first
values_then D code env names (d ∷ es) old mid new (w ∷ vs) e v first second = (first.0, first.1, values_then D code env names es first.0 mid new vs e v first.2 second)

-- the first i arguments, with i values
pub record PassedSoFar (code : Code) (n : ℕ) (env : Env) (names : Names) (xs : List NameId) (es : List ExprId) (i : ℕ) (f g : FrameState) (old new : HeapState Branch) : Type 0 where
  pub so_far : ArePassed code n env names xs (take i es) f g old new
  pub count : length so_far.values ≡ i

pub passed_none : (code : Code) (n : ℕ) (env : Env) (names : Names) (xs : List NameId) (es : List ExprId) (f : FrameState) (h : HeapState Branch) → HeapLaws h → PassedSoFar code n env names xs es 0 f f h h
passed_none code n env names xs es f h laws = record {
  so_far = record { values = []; few = omega arith; frame = λ i. record f { bound = (sym (append-nil f.bound) ∙ ap (λ (ns : Names). f.bound ++ ns) (sym (zip_none xs [] refl))) i }; hand = hand_none h laws; turn = refl };
  count = refl;
}

pub passed_more : (code : Code) (n : ℕ) (env copy : Env) (names : Names) (xs : List NameId) (es : List ExprId) (i : ℕ) (x other : NameId) (e one : ExprId) (f g k : FrameState) (old mid new : HeapState Branch) (v : Value Sound) → copy ≡ env → i < length xs → i < length es → x ≡ get_or xs i other → e ≡ get_or es i one → e.0 < n → PassedSoFar code n env names xs es i f g old mid → ValueTurn (Evaluates code (e.0 + 1)) code copy names e mid new v → Hand mid new (sounds_of_values (v ∷ [])) → k ≡ record g { bound = g.bound ++ (x, v) ∷ [] } → PassedSoFar code n env names xs es (i + 1) f k old new
passed_more code n env copy names xs es i x other e one f g k old mid new v same in_xs in_es is at below p step hand grown = record {
  so_far = record {
    values = p.so_far.values ++ v ∷ [];
    few = omega (arith, long, p.count, in_xs);
    frame = grown ∙ (ap (λ (q : FrameState). let r : FrameState = record q { bound = q.bound ++ (x, v) ∷ [] } in r) p.so_far.frame ∙ (λ j. record f { bound = bound j }));
    hand = subst (λ ss. Hand old new ss) (values_more p.so_far.values v) (hand_more old mid new (sounds_of_values p.so_far.values) (sounds_of_values (v ∷ [])) p.so_far.hand hand);
    turn = subst (λ (ds : List ExprId). ValuesTurn (Evaluates code n) code env names ds old new (p.so_far.values ++ v ∷ [])) (ap (λ d. take i es ++ d ∷ []) at ∙ sym (take_more es i one in_es))
        (values_then (Evaluates code n) code env names (take i es) old mid new p.so_far.values e v p.so_far.turn
        (value_lifted code (e.0 + 1) n e env names mid new v (omega (arith, below)) (subst (λ (q : Env). ValueTurn (Evaluates code (e.0 + 1)) code q names e mid new v) same step)));
  };
  count = omega (arith, long, p.count);
}
  where
    long : length (p.so_far.values ++ v ∷ []) ≡ length p.so_far.values + 1
    long = length_one p.so_far.values
      where
        length_one : (vs : List (Value Sound)) → length (vs ++ v ∷ []) ≡ length vs + 1
        length_one [] = refl
        length_one (w ∷ vs) = omega (arith, length_one vs)

    name : ◌≡◌ {A = NameId × Value Sound} (x, v) (get_or xs (length p.so_far.values) other, v)
    name = ap (λ (y : NameId). (y, v)) (is ∙ ap (λ m. get_or xs m other) (sym p.count))

    bound : (f.bound ++ zip xs p.so_far.values) ++ (x, v) ∷ [] ≡ f.bound ++ zip xs (p.so_far.values ++ v ∷ [])
    bound = append_assoc f.bound (zip xs p.so_far.values) ((x, v) ∷ []) ∙ ap (λ (ns : Names). f.bound ++ ns) (ap (λ (q : NameId × Value Sound). zip xs p.so_far.values ++ q ∷ []) name ∙ sym (zip_more xs p.so_far.values v other (omega (arith, p.count, in_xs))))

pub passed_step : (code : Code) (n : ℕ) (env copy : Env) (names : Names) (xs : List NameId) (es : List ExprId) (i : ℕ) (x other : NameId) (e one : ExprId) (f g k : FrameState) (old mid made new : HeapState Branch) (v : Value Sound) → copy ≡ env → i < length xs → i < length es → x ≡ get_or xs i other → e ≡ get_or es i one → e.0 < n → PassedSoFar code n env names xs es i f g old mid → ValueTurn (Evaluates code (e.0 + 1)) code copy names e mid made v → Hand mid made (sounds_of_values (v ∷ [])) → k ≡ record g { bound = g.bound ++ (x, v) ∷ [] } → new ≡ made → PassedSoFar code n env names xs es (i + 1) f k old new
passed_step code n env copy names xs es i x other e one f g k old mid made new v same in_xs in_es is at below p step hand grown heap =
    subst (λ (h : HeapState Branch). PassedSoFar code n env names xs es (i + 1) f k old h) (sym heap) (passed_more code n env copy names xs es i x other e one f g k old mid made v same in_xs in_es is at below p step hand grown)

-- all that have a parameter
pub passed_all : (code : Code) (n : ℕ) (env : Env) (names : Names) (xs : List NameId) (es : List ExprId) (i : ℕ) (f g : FrameState) (old new : HeapState Branch) → i ≡ min (length xs) (length es) → PassedSoFar code n env names xs es i f g old new → ArePassed code n env names xs (take (length xs) es) f g old new
passed_all code n env names xs es i f g old new is p =
    subst (λ (ds : List ExprId). ArePassed code n env names xs ds f g old new) (take_least i (length xs) es is) p.so_far

-- ---- the whole step

pub block_turn : (code : Code) (n : ℕ) (env : Env) (bs : List (NameId × ExprId)) (a : ExprId) (f g k : FrameState) (old mid end new : HeapState Branch) (s : Sound) (m : ℕ) → a.0 < n → AreBound code n env bs f g old mid → k ≡ g → m ≡ length f.bound → Evaluates code (a.0 + 1) a.0 env (names_in g) mid end s → ReleasesAll end new (sounds_among (drop m k.bound)) → BlockTurn (Evaluates code n) code bs a env (names_in f) old new s
block_turn code n env bs a f g k old mid end new s m below b same count body given = record {
  added = b.added;
  mid = mid;
  end = end;
  binds = b.turn;
  body = lifted code (a.0 + 1) n a.0 env (names_in f ++ b.added) mid end s (omega (arith, below)) (subst (λ (ns : Names). Evaluates code (a.0 + 1) a.0 env ns mid end s) (ap names_in b.frame ∙ sym (append_assoc f.lent f.bound b.added)) body);
  given_up = subst (λ (ns : Names). ReleasesAll end new (sounds_among ns)) (ap (λ i. drop i k.bound) count ∙ (ap (λ (q : FrameState). drop (length f.bound) q.bound) (same ∙ b.frame) ∙ drop_first f.bound b.added)) given;
}

pub call_turn : (code : Code) (n : ℕ) (env : Env) (names : Names) (xs : List NameId) (es : List ExprId) (body : ℕ) (f g k : FrameState) (old mid end new : HeapState Branch) (s : Sound) → body < n → f ≡ record { lent = []; bound = [] } → ArePassed code n env names xs (take (length xs) es) f g old mid → k ≡ g → Evaluates code (body + 1) body env (names_in g) mid end s → ReleasesAll end new (sounds_among (drop 0 k.bound)) → CallTurn (Evaluates code n) code xs body es env names old new s
call_turn code n env names xs es body f g k old mid end new s below none b same inside given = record {
  values = b.values;
  mid = mid;
  end = end;
  arguments = b.turn;
  inside = lifted code (body + 1) n body env (zip xs b.values) mid end s (omega (arith, below)) (subst (λ (ns : Names). Evaluates code (body + 1) body env ns mid end s) (ap names_in frame) inside);
  given_up = subst (λ ss. ReleasesAll end new ss) (ap (λ (q : FrameState). sounds_among q.bound) (same ∙ frame) ∙ zip_sounds xs b.values b.few) given;
}
  where
    frame : g ≡ record { lent = []; bound = zip xs b.values }
    frame = b.frame ∙ ap (λ (q : FrameState). let r : FrameState = record q { bound = q.bound ++ zip xs b.values } in r) none

-- ---- after the body

pub if_ok : {A E : Type 0} (r : Result A E) (P Q : A → Type 0) → ((x : A) → P x → Q x) → IfOk r P → IfOk r Q
if_ok (Ok x) P Q f p = f x p
if_ok (Err e) P Q f p = tt

-- what came into hand, or nothing
pub body_hand : (code : Code) → IsOrdered code → KeepsFree code → (n e : ℕ) (env : Env) (names : Names) (mid end : HeapState Branch) (r : Result Sound AllocError) → e < length code.nodes → HeapLaws mid → AllHeld mid names → IfOk r (λ s. Evaluates code n e env names mid end s) → OnErr r (Hand mid end []) → (ss : List Sound) × Hand mid end ss
body_hand code ordered free n e env names mid end (Ok s) inside laws held evaluates refused = (s ∷ [], sound_hand code ordered free n e env names mid end s inside laws held evaluates)
body_hand code ordered free n e env names mid end (Err fault) inside laws held evaluates refused = ([], refused)

-- the frame is left at the n names that were bound before
module _ (f g k : FrameState) (old mid end : HeapState Branch) (n : ℕ) (laws : HeapLaws old) (p : HasGrown f g old mid) (same : k ≡ g) (count : n ≡ length f.bound) where
  pub leave_within : n ≤ length k.bound
  leave_within = omega (arith, count, grown_within f g old mid p, ap (λ (q : FrameState). length q.bound) same)

  pub left_is : drop n k.bound ≡ p.added
  left_is = ap (λ m. drop m k.bound) count ∙ (ap (λ (q : FrameState). drop (length f.bound) q.bound) same ∙ added_is f g old mid p)

  pub leave_hands : (body : (ss : List Sound) × Hand mid end ss) → InHand end (sounds_among (drop n k.bound))
  leave_hands body = subst (λ (ns : Names). InHand end (sounds_among ns)) (sym left_is) (record { before = old; others = body.0; laws = laws; hand = hand_more old mid end (sounds_among p.added) body.0 p.hand body.1 })

  pub left_same : (l : FrameState) → l ≡ record k { bound = take n k.bound } → l ≡ f
  left_same l is =
      grown_left f g l old mid p
      (is ∙ ((λ i. record k { bound = take (count i) k.bound }) ∙ ap (λ (q : FrameState). let r : FrameState = record q { bound = take (length f.bound) q.bound } in r) same))

  pub left_refused : (new : HeapState Branch) → ReleasesAll end new (sounds_among (drop n k.bound)) → Hand mid end [] → Hand old new []
  left_refused new step refused =
      hand_released_all old end new (sounds_among p.added) [] laws (hand_more old mid end (sounds_among p.added) [] p.hand refused)
      (subst (λ (ns : Names). ReleasesAll end new (sounds_among ns)) left_is step)

-- ---- a frame without names

pub empty_frame : (f : FrameState) (lent : Names) → f ≡ record { lent = lent; bound = [] } → lent ≡ [] → f ≡ record { lent = []; bound = [] }
empty_frame f lent is none = is ∙ (λ i. record { lent = none i; bound = [] })

pub empty_held : (h : HeapState Branch) (f : FrameState) → f ≡ record { lent = []; bound = [] } → AllHeld h (names_in f)
empty_held h f is = subst (λ (q : FrameState). AllHeld h (names_in q)) (sym is) tt

pub empty_count : (f : FrameState) → f ≡ record { lent = []; bound = [] } → 0 ≡ length f.bound
empty_count f is = sym (ap (λ (q : FrameState). length q.bound) is)
