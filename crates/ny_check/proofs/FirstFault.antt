-- The fault that is told of a text is the first of those that occur in it.
use Rattle.std.proofs.Common.{◌≡◌, ◌<◌, ◌≤◌, ◌+◌, ℕ, suc, Bool, true, false, List, [], ◌∷◌, ◌++◌, length, get_or, Option, Some, None, refl, ap, sym, ◌∙◌, arith, subst, All, inl, inr}
use Rattle.std.specs.Prelude.{if◌then◌else◌, ◌||◌, ◌&&◌, nat_lt, nat_eq, ◌⊎◌, Contains}
use Rattle.std.specs.List.{list_any}
use Rattle.std.specs.Option.{unwrap_or}
use Rattle.std.proofs.lemmas.Bool.Decides.{nat_tests}
use Rattle.std.proofs.lemmas.List.Elements.{All-cons, All-nil, All-contains, Contains-get_or, Contains-append_left, Contains-append_right, Contains-append_cases}
use Rattle.ny_syntax.specs.declared.tree.Tree.{Tree}
use Rattle.ny_resolve.specs.declared.fault.Fault.{Fault}
use Rattle.ny_resolve.specs.declared.fault.CheckWhy.{CheckWhy}
use Rattle.ny_resolve.specs.declared.fault.CheckWhy.TheVariants as why
use Rattle.ny_resolve.specs.Faults.{rank, comes_before, earliest, fault_if, one_fault}
use Rattle.ny_resolve.specs.Declarations.{tree_read, ReadWhole}
use Rattle.ny_kinds.specs.Whole.{text_kind}
use Rattle.ny_kinds.specs.Refusals.{refusals}
use Rattle.ny_measures.specs.Depth.{text_depth}
use Rattle.ny_measures.specs.Weight.{text_weight}
use Rattle.ny_check.specs.Acceptance.{greatest_depth, greatest_weight, kind_faults, judged_faults, faults_in, fault_of}
use Rattle.ny_check.specs.Occurrence.{IsRead, IsRefused, IsTooDeep, IsTooHeavy, Occurs, IsFirst}

-- ---- the earliest of a list

some_same : (f g : Fault) → Some f ≡ Some g → f ≡ g
some_same f g is = ap (λ (o : Option Fault). unwrap_or o f) is

head : (f : Fault) (fs : List Fault) → Contains (f ∷ fs) f
head f fs = Contains-get_or (f ∷ fs) 0 f (omega arith)

ordered : (p a q b r c : ℕ) → (nat_lt p q || nat_eq p q && nat_lt a b) ≡ true → (nat_lt r p || nat_eq r p && nat_lt c a) ≡ true → (nat_lt r q || nat_eq r q && nat_lt c b) ≡ true
ordered p a q b r c h k = grind (arith, nat_tests)

-- g comes before x, which comes before f
then_before : (f x g : Fault) → comes_before x f ≡ true → comes_before g x ≡ true → comes_before g f ≡ true
then_before f x g = ordered (rank x.why) x.at (rank f.why) f.at (rank g.why) g.at

not_itself : (p a : ℕ) → (nat_lt p p || nat_eq p p && nat_lt a a) ≡ false
not_itself p a = grind (arith, nat_tests)

-- where none of these comes before f, none comes before what comes before f
not_past : (f x : Fault) (fs : List Fault) → comes_before x f ≡ true → All (λ (g : Fault). comes_before g f ≡ false) fs → list_any (λ g. comes_before g x) fs ≡ false
not_past f x [] h all = refl
not_past f x (g ∷ fs) h all = by (comes_before g x) refl (not_past f x fs h (λ i d l. all (suc i) d (omega (arith, l))))
  where
    by : (b : Bool) → comes_before g x ≡ b → list_any (λ y. comes_before y x) fs ≡ false → (b || list_any (λ y. comes_before y x) fs) ≡ false
    by false e rest = rest
    by true e rest = let no : comes_before g f ≡ false = all 0 g (omega arith) in let yes : comes_before g f ≡ true = then_before f x g h e in cc

none_before : (f : Fault) (fs : List Fault) → list_any (λ g. comes_before g f) fs ≡ false → All (λ (g : Fault). comes_before g f ≡ false) fs
none_before f [] h = All-nil (λ (g : Fault). comes_before g f ≡ false)
none_before f (g ∷ fs) h = by (comes_before g f) refl h (λ k. none_before f fs k)
  where
    by : (b : Bool) → comes_before g f ≡ b → (b || list_any (λ y. comes_before y f) fs) ≡ false → (list_any (λ y. comes_before y f) fs ≡ false → All (λ (y : Fault). comes_before y f ≡ false) fs)
        → All (λ (y : Fault). comes_before y f ≡ false) (g ∷ fs)
    by true e k rest = cc
    by false e k rest = All-cons (λ (y : Fault). comes_before y f ≡ false) g fs e (rest k)

-- it is one of them, and none of them comes before it
earliest_is : (fs : List Fault) (f : Fault) → earliest fs ≡ Some f → Contains fs f × All (λ (g : Fault). comes_before g f ≡ false) fs
unfolding earliest
earliest_is [] f is = cc
earliest_is (x ∷ fs) f is = by (list_any (λ g. comes_before g x) fs) refl is (λ k. earliest_is fs f k)
  where
    late : (b : Bool) → comes_before x f ≡ b → list_any (λ g. comes_before g x) fs ≡ true → All (λ (g : Fault). comes_before g f ≡ false) fs → comes_before x f ≡ false
    late false e any all = e
    late true e any all = let no : list_any (λ g. comes_before g x) fs ≡ false = not_past f x fs e all in cc

    by : (b : Bool) → list_any (λ g. comes_before g x) fs ≡ b → (if b then earliest fs else Some x) ≡ Some f
        → (earliest fs ≡ Some f → Contains fs f × All (λ (g : Fault). comes_before g f ≡ false) fs) → Contains (x ∷ fs) f × All (λ (g : Fault). comes_before g f ≡ false) (x ∷ fs)
    by true e k rest =
        let r : Contains fs f × All (λ (g : Fault). comes_before g f ≡ false) fs = rest k in
        (Contains-append_right (x ∷ []) fs f r.0, All-cons (λ (g : Fault). comes_before g f ≡ false) x fs (late (comes_before x f) refl e r.1) r.1)
    by false e k rest =
        let same : x ≡ f = some_same x f k in
        subst (λ (y : Fault). Contains (x ∷ fs) y × All (λ (g : Fault). comes_before g y ≡ false) (x ∷ fs)) same
        (head x fs, All-cons (λ (g : Fault). comes_before g x ≡ false) x fs (not_itself (rank x.why) x.at) (none_before x fs e))

none_of : (fs : List Fault) → earliest fs ≡ None → fs ≡ []
unfolding earliest
none_of [] is = refl
none_of (x ∷ fs) is = by (list_any (λ g. comes_before g x) fs) refl is (λ k. none_of fs k)
  where
    by : (b : Bool) → list_any (λ g. comes_before g x) fs ≡ b → (if b then earliest fs else Some x) ≡ None → (earliest fs ≡ None → fs ≡ []) → x ∷ fs ≡ []
    by true e k rest = let none : fs ≡ [] = rest k in let no : list_any (λ g. comes_before g x) fs ≡ false = ap (list_any (λ g. comes_before g x)) none in cc
    by false e k rest = cc

-- ---- what a list holds

nothing_in : (f : Fault) {A : Type 0} → Contains [] f → A
nothing_in f c = absurd (All-contains (λ (g : Fault). ⊥) [] f (All-nil (λ (g : Fault). ⊥)) c)

one_is : (g f : Fault) → Contains (g ∷ []) f → g ≡ f
one_is g f c = All-contains (λ (h : Fault). g ≡ h) (g ∷ []) f (All-cons (λ (h : Fault). g ≡ h) g [] refl (All-nil (λ (h : Fault). g ≡ h))) c

no_place : (p : ℕ) (ps : List ℕ) {A : Type 0} → ps ≡ [] → Contains ps p → A
no_place p ps is c = absurd (All-contains (λ (q : ℕ). ⊥) [] p (All-nil (λ (q : ℕ). ⊥)) (subst (λ (qs : List ℕ). Contains qs p) is c))

abbrev the_fault : CheckWhy → ℕ → Fault
the_fault w at = record { at = at; why = w }

in_if : (b : Bool) (w : CheckWhy) (at : ℕ) (f : Fault) → Contains (fault_if b w at) f → (b ≡ true) × (f ≡ the_fault w at)
in_if true w at f c = (refl, sym (one_is (the_fault w at) f c))
in_if false w at f c = nothing_in f c

if_in : (b : Bool) (w : CheckWhy) (at : ℕ) → b ≡ true → Contains (fault_if b w at) (the_fault w at)
if_in true w at is = head (the_fault w at) []
if_in false w at is = cc

in_kinds : (k : Option ℕ) (f : Fault) → Contains (kind_faults k) f → (p : ℕ) × (k ≡ Some p) × (f ≡ the_fault why.Kind p)
in_kinds None f c = nothing_in f c
in_kinds (Some p) f c = (p, refl, sym (one_is (the_fault why.Kind p) f c))

lt_of : (n m : ℕ) → nat_lt n m ≡ true → n < m
lt_of n m h = grind (arith, nat_tests)

of_lt : (n m : ℕ) → n < m → nat_lt n m ≡ true
of_lt n m h = grind (arith, nat_tests)

-- a later place is no earlier fault
later_place : (k p q r a : ℕ) → p ≤ q → (nat_lt k r || nat_eq k r && nat_lt p a) ≡ false → (nat_lt k r || nat_eq k r && nat_lt q a) ≡ false
later_place k p q r a le h = grind (arith, nat_tests)

-- ---- the faults of a text

abbrev deep_in : Tree → Bool
deep_in tree = nat_lt greatest_depth (text_depth (tree_read tree).declared (tree_read tree).play)

abbrev heavy_in : Tree → Bool
heavy_in tree = nat_lt greatest_weight (text_weight (tree_read tree).declared (tree_read tree).play)

abbrev refused_in : Tree → Option ℕ
refused_in tree = (text_kind (tree_read tree).declared (tree_read tree).play).fault

abbrev all_in : Tree → List Fault
all_in tree = faults_in (tree_read tree) tree.play_at

-- what the least place of a refusal says of all of them
pub record Told (tree : Tree) : Type 0 where
  pub told : (p : ℕ) → refused_in tree ≡ Some p → Contains (refusals (tree_read tree).declared (tree_read tree).play) p × All (λ (q : ℕ). p ≤ q) (refusals (tree_read tree).declared (tree_read tree).play)
  pub none : refused_in tree ≡ None → refusals (tree_read tree).declared (tree_read tree).play ≡ []

occurs_in : (tree : Tree) (f : Fault) → Told tree → Contains (all_in tree) f → Occurs tree f
occurs_in tree f t c =
    by (Contains-append_cases (tree_read tree).faults _ f c)
  where
    last : (Contains (fault_if (deep_in tree) why.TooDeep tree.play_at) f ⊎ Contains (fault_if (heavy_in tree) why.TooHeavy tree.play_at) f) → Occurs tree f
    last (inl d) = let h = in_if (deep_in tree) why.TooDeep tree.play_at f d in inr (inr (inl (h.1, lt_of _ _ h.0)))
    last (inr d) = let h = in_if (heavy_in tree) why.TooHeavy tree.play_at f d in inr (inr (inr (h.1, lt_of _ _ h.0)))

    judged : (Contains (kind_faults (refused_in tree)) f ⊎ Contains (fault_if (deep_in tree) why.TooDeep tree.play_at ++ fault_if (heavy_in tree) why.TooHeavy tree.play_at) f) → Occurs tree f
    judged (inl d) =
        let h = in_kinds (refused_in tree) f d in
        inr (inl (
          ap (λ (g : Fault). g.why) h.2,
          subst (λ (g : Fault). Contains (refusals (tree_read tree).declared (tree_read tree).play) g.at) (sym h.2) (t.told h.0 h.1).0,
        ))
    judged (inr d) = last (Contains-append_cases (fault_if (deep_in tree) why.TooDeep tree.play_at) _ f d)

    by : (Contains (tree_read tree).faults f ⊎ Contains (judged_faults (tree_read tree).declared (tree_read tree).play tree.play_at) f) → Occurs tree f
    by (inl d) = inl d
    by (inr d) = judged (Contains-append_cases (kind_faults (refused_in tree)) _ f d)

-- one of the list comes no later
abbrev HasSooner : Tree → Fault → Type 0
HasSooner tree g = (h : Fault) × Contains (all_in tree) h × ((f : Fault) → comes_before h f ≡ false → comes_before g f ≡ false)

in_judged : (tree : Tree) (h : Fault) → Contains (judged_faults (tree_read tree).declared (tree_read tree).play tree.play_at) h → Contains (all_in tree) h
in_judged tree h c = Contains-append_right (tree_read tree).faults _ h c

in_last : (tree : Tree) (h : Fault) → Contains (fault_if (deep_in tree) why.TooDeep tree.play_at ++ fault_if (heavy_in tree) why.TooHeavy tree.play_at) h → Contains (all_in tree) h
in_last tree h c = in_judged tree h (Contains-append_right (kind_faults (refused_in tree)) _ h c)

sooner_kind : (tree : Tree) (g : Fault) (k : Option ℕ) → refused_in tree ≡ k → Told tree → IsRefused tree g → HasSooner tree g
sooner_kind tree g None is t r = no_place g.at _ (t.none is) r.1
sooner_kind tree g (Some p) is t r =
    let h : Fault = the_fault why.Kind p in
    let among : Contains (kind_faults (refused_in tree)) h = subst (λ (k : Option ℕ). Contains (kind_faults k) h) (sym is) (head h []) in
    let le : p ≤ g.at = All-contains (λ (q : ℕ). p ≤ q) _ g.at (t.told p is).1 r.1 in (
      h,
      in_judged tree h (Contains-append_left (kind_faults (refused_in tree)) _ h among),
      λ f e. ap (λ (w : CheckWhy). nat_lt (rank w) (rank f.why) || nat_eq (rank w) (rank f.why) && nat_lt g.at f.at) r.0 ∙ later_place (rank why.Kind) p g.at (rank f.why) f.at le e,
    )

sooner : (tree : Tree) (g : Fault) → Told tree → Occurs tree g → HasSooner tree g
sooner tree g t (inl c) = (g, Contains-append_left (tree_read tree).faults _ g c, λ f e. e)
sooner tree g t (inr (inl r)) = sooner_kind tree g (refused_in tree) refl t r
sooner tree g t (inr (inr (inl d))) =
    let h : Fault = the_fault why.TooDeep tree.play_at in (
      h,
      in_last tree h (Contains-append_left (fault_if (deep_in tree) why.TooDeep tree.play_at) _ h (if_in (deep_in tree) why.TooDeep tree.play_at (of_lt _ _ d.1))),
      λ f e. ap (λ (x : Fault). comes_before x f) d.0 ∙ e,
    )
sooner tree g t (inr (inr (inr d))) =
    let h : Fault = the_fault why.TooHeavy tree.play_at in (
      h,
      in_last tree h (Contains-append_right (fault_if (deep_in tree) why.TooDeep tree.play_at) _ h (if_in (heavy_in tree) why.TooHeavy tree.play_at (of_lt _ _ d.1))),
      λ f e. ap (λ (x : Fault). comes_before x f) d.0 ∙ e,
    )

pub first : (tree : Tree) (f : Fault) → Told tree → fault_of tree ≡ Some f → IsFirst tree f
unfolding fault_of
first tree f t is =
    let e : Contains (all_in tree) f × All (λ (g : Fault). comes_before g f ≡ false) (all_in tree) = earliest_is (all_in tree) f is in
    record {
      occurs = occurs_in tree f t e.0;
      first = λ g o. let s = sooner tree g t o in s.2 f (All-contains (λ (h : Fault). comes_before h f ≡ false) (all_in tree) s.0 e.1 s.1);
    }

pub none : (tree : Tree) (g : Fault) → Told tree → fault_of tree ≡ None → Occurs tree g → ⊥
unfolding fault_of
none tree g t is o =
    let s : HasSooner tree g = sooner tree g t o in
    nothing_in s.0 (subst (λ (fs : List Fault). Contains fs s.0) (none_of (all_in tree) is) s.1)
