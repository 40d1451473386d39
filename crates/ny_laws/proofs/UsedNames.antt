-- The names that are kept of a part are used in it, and each is kept once.
use Rattle.std.proofs.Common.{◌≡◌, ℕ, Bool, true, false, List, [], ◌∷◌, ◌++◌, map, refl, sym, ap, ◌∙◌, subst, inl, inr, append_assoc}
use Rattle.std.specs.Prelude.{◌||◌, ◌⊎◌, if◌then◌else◌}
use Rattle.std.proofs.lemmas.Bool.{eqb-true, eq-eqb}
use Rattle.std.proofs.lemmas.List.{append-nil}
use Rattle.ny_resolve.specs.declared.term.NameId.{NameId}
use Rattle.ny_resolve.specs.declared.builtin.Order.{Order}
use Rattle.ny_resolve.specs.declared.term.Term.{Term}
use Rattle.ny_resolve.specs.declared.term.Term.TheVariants as term
use Rattle.ny_resolve.specs.declared.term.Term.TheVariants.{rolls-Number, rolls-Local, rolls-Global, rolls-Call, rolls-Block, rolls-Apply, rolls-Over, rolls-Repeat, rolls-Nameless, rolls-Warp, rolls-Rate}
use Rattle.ny_resolve.specs.declared.term.Term.TheFolds.{map-Term}
use Rattle.ny_resolve.specs.declared.term.Term.TheOpen.{Term-F}
use Rattle.ny_resolve.specs.declared.term.Term.TheViews.{roll-Term}
use Rattle.ny_resolve.specs.declared.term.Part.{Part}
use Rattle.ny_resolve.specs.declared.term.Bound.{Bound}
use Rattle.ny_resolve.specs.Keys.{same_name}
use Rattle.ny_check.specs.declared.node.ExprId.{ExprId}
use Rattle.ny_check.specs.Code.{Code}
use Rattle.ny_check.specs.Writing.{Writing, BindWriting, writing, writing_of_bind, term_writing, uses_in, uses_in_binds, bound_after, use_of, is_among, kept_names, is_seq, is_in_turn}
use Rattle.ny_laws.specs.TextParts.{IsAmong, IsBindAmong, names_after, IsPartOf}
use Rattle.ny_laws.specs.TextParts as parts
use Rattle.ny_laws.specs.Standing.{Stands, EachStands, BindsStand, AreKept}
use Rattle.ny_laws.specs.Standing as standing
use Rattle.ny_laws.specs.UsedNames.{IsUsedIn, IsOnce}
use Rattle.ny_laws.specs.UsedNames as used
use Rattle.ny_laws.proofs.Uses.{Uses, among, among_more, same_among}
use Rattle.ny_laws.proofs.Names.{writing_of_term, writing-at, bind-is}

-- ---- lists of names

either_false : (a b : Bool) → a || b ≡ false → (a ≡ false) × (b ≡ false)
either_false true b h = cc
either_false false b h = (refl, h)

-- not among the first, and not among those after
apart : (x : NameId) (xs ys : List NameId) → among x (xs ++ ys) ≡ false → (among x xs ≡ false) × (among x ys ≡ false)
apart x xs ys h = either_false (among x xs) (among x ys) (sym (among_more x xs ys) ∙ h)

neither : (x : NameId) (xs ys : List NameId) → among x xs ≡ false → among x ys ≡ false → among x (xs ++ ys) ≡ false
neither x xs ys h k = among_more x xs ys ∙ ap (λ (b : Bool). b || among x ys) h ∙ k

same_back : (x y : NameId) → same_name x y ≡ false → same_name y x ≡ false
same_back x y h = by (same_name y x) refl
  where
    by : (b : Bool) → same_name y x ≡ b → same_name y x ≡ false
    by false is = is
    by true is =
        let same : x.0 ≡ y.0 = sym (eqb-true y.0 x.0 is) in
        let other : same_name x y ≡ true = eq-eqb x.0 y.0 same in
        let never : true ≡ false = sym other ∙ h in cc

push_once : (xs : List NameId) (y : NameId) → IsOnce xs → among y xs ≡ false → IsOnce (xs ++ y ∷ [])
push_once [] y h new = (refl, tt)
push_once (x ∷ xs) y h new =
    let parts = either_false (same_name y x) (among y xs) new in
    (neither x xs (y ∷ []) h.0 (ap (λ (b : Bool). b || false) (same_back y x parts.0)), push_once xs y h.1 parts.1)

-- ---- what uses find

-- whatever is found is used and not bound, or was found before
abbrev pub Only : NameId → Type 0 → Uses → Type 0
Only x Used uses = (bound found : List NameId) → among x (uses bound found) ≡ true → (among x found ≡ true) ⊎ (Used × (among x bound ≡ false))

-- nothing is found twice
abbrev pub StaysOnce : Uses → Type 0
StaysOnce uses = (bound found : List NameId) → IsOnce found → IsOnce (uses bound found)

only_none : (x : NameId) (Used : Type 0) → Only x Used (λ bound found. found)
only_none x Used bound found h = inl h

only_more : (x : NameId) (Used More : Type 0) (uses : Uses) → (Used → More) → Only x Used uses → Only x More uses
only_more x Used More uses more h bound found is = by (h bound found is)
  where
    by : (among x found ≡ true) ⊎ (Used × (among x bound ≡ false)) → (among x found ≡ true) ⊎ (More × (among x bound ≡ false))
    by (inl before) = inl before
    by (inr now) = inr (more now.0, now.1)

only_two : (x : NameId) (Used : Type 0) (first second : Uses) → Only x Used first → Only x Used second → Only x Used (λ bound found. second bound (first bound found))
only_two x Used first second h k bound found is = by (k bound (first bound found) is)
  where
    by : (among x (first bound found) ≡ true) ⊎ (Used × (among x bound ≡ false)) → (among x found ≡ true) ⊎ (Used × (among x bound ≡ false))
    by (inl before) = h bound found before
    by (inr now) = inr now

only_name : (x y : NameId) (Used : Type 0) → (same_name x y ≡ true → Used) → Only x Used (use_of y)
only_name x y Used h bound found is = by (is_among y bound) (is_among y found) refl is
  where
    last : (f : Bool) → among x found ≡ f → f || (same_name x y || false) ≡ true → is_among y bound ≡ false → (among x found ≡ true) ⊎ (Used × (among x bound ≡ false))
    last true before either free = inl before
    last false before either free = now (same_name x y) refl either
      where
        now : (s : Bool) → same_name x y ≡ s → s || false ≡ true → (among x found ≡ true) ⊎ (Used × (among x bound ≡ false))
        now true same one = inr (h same, same_among x y bound same ∙ free)
        now false same one = cc

    by : (b f : Bool) → is_among y bound ≡ b → among x (if b || f then found else found ++ y ∷ []) ≡ true → (among x found ≡ true) ⊎ (Used × (among x bound ≡ false))
    by true f free k = inl k
    by false true free k = inl k
    by false false free k = last (among x found) refl (sym (among_more x found (y ∷ [])) ∙ k) free

once_name : (y : NameId) → StaysOnce (use_of y)
once_name y bound found h = by (is_among y bound) (is_among y found) refl
  where
    by : (b f : Bool) → is_among y found ≡ f → IsOnce (if b || f then found else found ++ y ∷ [])
    by true f is = h
    by false true is = h
    by false false is = push_once found y h is

-- ---- parts

module _ (code : Code) (here : ℕ) (x : NameId) where
  abbrev OnlyIn : Part → Type 0
  OnlyIn p = Only x (IsUsedIn x p) (writing p).uses

  -- by the term of a part
  told : (p : Part) (y : Term-F Term Bound Part) → p.term ≡ roll-Term y
      → Only x (IsUsedIn x p) (term_writing (map-Term Term Bound Part Writing BindWriting Writing writing_of_term writing_of_bind writing y)).uses → OnlyIn p
  told p y is h = subst (λ (w : Writing). Only x (IsUsedIn x p) w.uses) (sym (writing-at p y is)) h

  -- of a part that sees no other name
  inside : (p q : Part) → IsPartOf [] p [] q → IsUsedIn x q → IsUsedIn x p
  inside p q is h = used.within p q [] is refl h

  repeated : (p : Part) (o : Order) (y : NameId) (n : ℕ) (e : Part) → p.term ≡ term.Repeat o y n e → (bound found : List NameId)
      → (among x found ≡ true) ⊎ (IsUsedIn x e × (among x (bound ++ y ∷ []) ≡ false)) → (among x found ≡ true) ⊎ (IsUsedIn x p × (among x bound ≡ false))
  repeated p o y n e is bound found (inl before) = inl before
  repeated p o y n e is bound found (inr now) =
      let away = apart x bound (y ∷ []) now.1 in inr (used.within p e (y ∷ []) (parts.repeated [] p e o y n is) away.1 now.0, away.0)

  mutual
    pub only : (names : List NameId) (p : Part) (id : ℕ) → Stands code here names p id → Only x (IsUsedIn x p) (writing p).uses
    only names p id (standing.number _ _ _ v is at) = told p (Term-F.Number v) (is ∙ sym (rolls-Number v)) (only_none x (IsUsedIn x p))
    only names p id (standing.local _ _ _ y is at) =
        told p (Term-F.Local y) (is ∙ sym (rolls-Local y)) (only_name x y (IsUsedIn x p) (λ same. used.itself p y is same))
    only names p id (standing.global _ _ _ n is at) = told p (Term-F.Global n) (is ∙ sym (rolls-Global n)) (only_none x (IsUsedIn x p))
    only names p id (standing.call _ _ _ n es ids is each at) =
        told p (Term-F.Call n es) (is ∙ sym (rolls-Call n es))
        (only_each p false es ids each (λ q among h. inside p q (parts.argument [] p q n es is among) h))
    only names p id (standing.block _ _ _ bs e binds v is each value at) =
        told p (Term-F.Block bs e) (is ∙ sym (rolls-Block bs e)) (λ bound found h. only_binds p e [] bs binds each (only [] e v.0 value) (λ ys q among away one. used.within p q ys (parts.bind [] ys p q bs e is among) away one)
        (λ away one. used.within p e (names_after bs []) (parts.result [] p e bs is) away one) bound found
        (subst (λ (b : List NameId). among x ((writing e).uses (bound_after (map writing_of_bind bs) b) (uses_in_binds (map writing_of_bind bs) b found)) ≡ true) (sym (append-nil bound)) h))
    only names p id (standing.apply _ _ _ o es ids is each at) =
        told p (Term-F.Apply o es) (is ∙ sym (rolls-Apply o es))
        (only_each p (is_seq o) es ids each (λ q among h. inside p q (parts.operand [] p q o es is among) h))
    only names p id (standing.over _ _ _ a v e is one at) =
        told p (Term-F.Over a v) (is ∙ sym (rolls-Over a v))
        (only_more x (IsUsedIn x a) (IsUsedIn x p) (writing a).uses (inside p a (parts.dividend [] p a v is)) (only [] a e.0 one))
    only names p id (standing.repeat _ _ _ o y n e i is one at) =
        told p (Term-F.Repeat o y n e) (is ∙ sym (rolls-Repeat o y n e))
        (λ bound found h. repeated p o y n e is bound found (only (kept_names (is_in_turn o) (writing e).uses) e i.0 one (bound ++ y ∷ []) found h))
    only names p id (standing.nameless _ _ _ e is one) =
        told p (Term-F.Nameless e) (is ∙ sym (rolls-Nameless e))
        (only_more x (IsUsedIn x e) (IsUsedIn x p) (writing e).uses (inside p e (parts.nameless [] p e is)) (only names e id one))
    only names p id (standing.warp _ _ _ vs e i is one at) =
        told p (Term-F.Warp vs e) (is ∙ sym (rolls-Warp vs e))
        (only_more x (IsUsedIn x e) (IsUsedIn x p) (writing e).uses (inside p e (parts.warped [] p e vs is)) (only [] e i.0 one))
    only names p id (standing.rate _ _ _ a r e i is one at) =
        told p (Term-F.Rate a r e) (is ∙ sym (rolls-Rate a r e))
        (only_more x (IsUsedIn x e) (IsUsedIn x p) (writing e).uses (inside p e (parts.rated [] p e a r is)) (only [] e i.0 one))

    only_each : (p : Part) (keeps : Bool) (es : List Part) (ids : List ExprId) → EachStands code here keeps es ids → ((q : Part) → IsAmong q es → IsUsedIn x q → IsUsedIn x p)
        → Only x (IsUsedIn x p) (λ bound found. uses_in (map writing es) bound found)
    only_each p keeps es ids (standing.no_part _) h = only_none x (IsUsedIn x p)
    only_each p keeps es ids (standing.one_part _ e fs id more one rest) h =
        only_two x (IsUsedIn x p) (writing e).uses (λ bound found. uses_in (map writing fs) bound found)
        (only_more x (IsUsedIn x e) (IsUsedIn x p) (writing e).uses (h e (inl refl)) (only (kept_names keeps (writing e).uses) e id.0 one))
        (only_each p keeps fs more rest (λ q among. h q (inr among)))

    -- the binds of a block from one on, after those that give these names
    only_binds : (p e : Part) (xs : List NameId) (bs : List Bound) (binds : List (NameId × ExprId)) → BindsStand code here bs binds → OnlyIn e
        → ((ys : List NameId) (q : Part) → IsBindAmong xs bs ys q → among x ys ≡ false → IsUsedIn x q → IsUsedIn x p)
        → (among x (names_after bs xs) ≡ false → IsUsedIn x e → IsUsedIn x p) → (bound found : List NameId)
        → among x ((writing e).uses (bound_after (map writing_of_bind bs) (bound ++ xs)) (uses_in_binds (map writing_of_bind bs) (bound ++ xs) found)) ≡ true
        → (among x found ≡ true) ⊎ (IsUsedIn x p × (among x bound ≡ false))
    only_binds p e xs bs binds standing.no_bind value of_bind of_value bound found h = by (value (bound ++ xs) found h)
      where
        by : (among x found ≡ true) ⊎ (IsUsedIn x e × (among x (bound ++ xs) ≡ false)) → (among x found ≡ true) ⊎ (IsUsedIn x p × (among x bound ≡ false))
        by (inl before) = inl before
        by (inr now) = let away = apart x bound xs now.1 in inr (of_value away.1 now.0, away.0)
    only_binds p e xs bs binds (standing.one_bind b cs id more one rest) value of_bind of_value bound found h =
        by (only [] b.value id.0 one) (only_binds p e (xs ++ b.name ∷ []) cs more rest value (λ ys q among. of_bind ys q (inr among)) of_value bound ((writing b.value).uses (bound ++ xs) found)
        (subst (λ (zs : List NameId). among x ((writing e).uses (bound_after (map writing_of_bind cs) zs) (uses_in_binds (map writing_of_bind cs) zs ((writing b.value).uses (bound ++ xs) found))) ≡ true)
        (append_assoc bound xs (b.name ∷ []))
        (subst (λ (w : BindWriting). among x ((writing e).uses (bound_after (map writing_of_bind cs) ((bound ++ xs) ++ w.name ∷ [])) (uses_in_binds (map writing_of_bind cs) ((bound ++ xs) ++ w.name ∷ []) (w.uses (bound ++ xs) found))) ≡ true)
        (bind-is b) h)))
      where
        first : (among x found ≡ true) ⊎ (IsUsedIn x b.value × (among x (bound ++ xs) ≡ false)) → (among x found ≡ true) ⊎ (IsUsedIn x p × (among x bound ≡ false))
        first (inl before) = inl before
        first (inr now) = let away = apart x bound xs now.1 in inr (of_bind xs b.value (inl (refl, refl)) away.1 now.0, away.0)

        by : OnlyIn b.value → (among x ((writing b.value).uses (bound ++ xs) found) ≡ true) ⊎ (IsUsedIn x p × (among x bound ≡ false)) → (among x found ≡ true) ⊎ (IsUsedIn x p × (among x bound ≡ false))
        by value_only (inl before) = first (value_only (bound ++ xs) found before)
        by value_only (inr now) = inr now

-- ---- each name once

module _ (code : Code) (here : ℕ) where
  once_told : (p : Part) (y : Term-F Term Bound Part) → p.term ≡ roll-Term y
      → StaysOnce (term_writing (map-Term Term Bound Part Writing BindWriting Writing writing_of_term writing_of_bind writing y)).uses → StaysOnce (writing p).uses
  once_told p y is h = subst (λ (w : Writing). StaysOnce w.uses) (sym (writing-at p y is)) h

  mutual
    pub once : (names : List NameId) (p : Part) (id : ℕ) → Stands code here names p id → StaysOnce (writing p).uses
    once names p id (standing.number _ _ _ v is at) = once_told p (Term-F.Number v) (is ∙ sym (rolls-Number v)) (λ bound found h. h)
    once names p id (standing.local _ _ _ y is at) = once_told p (Term-F.Local y) (is ∙ sym (rolls-Local y)) (once_name y)
    once names p id (standing.global _ _ _ n is at) = once_told p (Term-F.Global n) (is ∙ sym (rolls-Global n)) (λ bound found h. h)
    once names p id (standing.call _ _ _ n es ids is each at) = once_told p (Term-F.Call n es) (is ∙ sym (rolls-Call n es)) (once_each false es ids each)
    once names p id (standing.block _ _ _ bs e binds v is each value at) =
        once_told p (Term-F.Block bs e) (is ∙ sym (rolls-Block bs e)) (once_binds bs binds e each (once [] e v.0 value))
    once names p id (standing.apply _ _ _ o es ids is each at) = once_told p (Term-F.Apply o es) (is ∙ sym (rolls-Apply o es)) (once_each (is_seq o) es ids each)
    once names p id (standing.over _ _ _ a v e is one at) = once_told p (Term-F.Over a v) (is ∙ sym (rolls-Over a v)) (once [] a e.0 one)
    once names p id (standing.repeat _ _ _ o y n e i is one at) =
        once_told p (Term-F.Repeat o y n e) (is ∙ sym (rolls-Repeat o y n e))
        (λ bound found h. once (kept_names (is_in_turn o) (writing e).uses) e i.0 one (bound ++ y ∷ []) found h)
    once names p id (standing.nameless _ _ _ e is one) = once_told p (Term-F.Nameless e) (is ∙ sym (rolls-Nameless e)) (once names e id one)
    once names p id (standing.warp _ _ _ vs e i is one at) = once_told p (Term-F.Warp vs e) (is ∙ sym (rolls-Warp vs e)) (once [] e i.0 one)
    once names p id (standing.rate _ _ _ a r e i is one at) = once_told p (Term-F.Rate a r e) (is ∙ sym (rolls-Rate a r e)) (once [] e i.0 one)

    once_each : (keeps : Bool) (es : List Part) (ids : List ExprId) → EachStands code here keeps es ids → StaysOnce (λ bound found. uses_in (map writing es) bound found)
    once_each keeps es ids (standing.no_part _) bound found h = h
    once_each keeps es ids (standing.one_part _ e fs id more one rest) bound found h =
        once_each keeps fs more rest bound ((writing e).uses bound found) (once (kept_names keeps (writing e).uses) e id.0 one bound found h)

    once_binds : (bs : List Bound) (binds : List (NameId × ExprId)) (e : Part) → BindsStand code here bs binds → StaysOnce (writing e).uses
        → StaysOnce (λ bound found. (writing e).uses (bound_after (map writing_of_bind bs) bound) (uses_in_binds (map writing_of_bind bs) bound found))
    once_binds bs binds e standing.no_bind value bound found h = value bound found h
    once_binds bs binds e (standing.one_bind b cs id more one rest) value bound found h =
        subst (λ (w : BindWriting). IsOnce ((writing e).uses (bound_after (map writing_of_bind cs) (bound ++ w.name ∷ [])) (uses_in_binds (map writing_of_bind cs) (bound ++ w.name ∷ []) (w.uses bound found)))) (sym (bind-is b))
        (once_binds cs more e rest value (bound ++ b.name ∷ []) ((writing b.value).uses bound found) (once [] b.value id.0 one bound found h))

-- ---- what is kept

pub kept_used : (code : Code) (here : ℕ) (names : List NameId) (p : Part) (id : ℕ) → Stands code here names p id → AreKept names p → (x : NameId) → among x names ≡ true → IsUsedIn x p
kept_used code here names p id stands kept x is = by kept.0 (sym (ap (among x) kept.1) ∙ is)
  where
    now : (among x [] ≡ true) ⊎ (IsUsedIn x p × (among x [] ≡ false)) → IsUsedIn x p
    now (inl before) = cc
    now (inr one) = one.0

    by : (b : Bool) → among x (kept_names b (writing p).uses) ≡ true → IsUsedIn x p
    by true h = now (only code here x names p id stands [] [] h)
    by false h = cc

pub kept_once : (code : Code) (here : ℕ) (names : List NameId) (p : Part) (id : ℕ) → Stands code here names p id → AreKept names p → IsOnce names
kept_once code here names p id stands kept = subst IsOnce (sym kept.1) (by kept.0)
  where
    by : (b : Bool) → IsOnce (kept_names b (writing p).uses)
    by true = once code here names p id stands [] [] tt
    by false = tt
