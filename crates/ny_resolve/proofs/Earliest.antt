-- The earliest of faults that come as one list after another.
use Rattle.std.proofs.Common.{◌≡◌, ℕ, Bool, true, false, List, [], ◌∷◌, ◌++◌, Option, Some, None, refl, ap, sym, ◌∙◌, arith}
use Rattle.std.specs.Prelude.{if◌then◌else◌, ◌||◌, ◌&&◌, nat_lt, nat_eq}
use Rattle.std.specs.List.{list_any}
use Rattle.std.proofs.lemmas.Grind.{common_steps}
use Rattle.std.proofs.lemmas.Bool.Decides.{nat_tests}
use Rattle.std.proofs.lemmas.List.Folds.{list_any-append}
use Rattle.ny_resolve.specs.declared.fault.Fault.{Fault}
use Rattle.ny_resolve.specs.Faults.{rank, comes_before, earliest, earliest_after}

-- what comes before q comes before p, where p does not come before q
ordered : (p a q b r c : ℕ) → (nat_lt p q || nat_eq p q && nat_lt a b) ≡ false → (nat_lt r q || nat_eq r q && nat_lt c b) ≡ true → (nat_lt r p || nat_eq r p && nat_lt c a) ≡ true
ordered p a q b r c h k = grind (arith, nat_tests)

passed_on : (f g h : Fault) → comes_before f g ≡ false → comes_before h g ≡ true → comes_before h f ≡ true
passed_on f g h = ordered (rank f.why) f.at (rank g.why) g.at (rank h.why) h.at

-- whether one of these comes before f
abbrev any_before : Fault → List Fault → Bool
any_before f fs = list_any (λ g. comes_before g f) fs

or_true : (b c : Bool) → c ≡ true → (b || c) ≡ true
or_true true c h = refl
or_true false c h = h

any_passed_on : (f g : Fault) (fs : List Fault) → comes_before f g ≡ false → any_before g fs ≡ true → any_before f fs ≡ true
any_passed_on f g [] h k = k
any_passed_on f g (x ∷ fs) h k = by (comes_before x g) refl k (any_passed_on f g fs h)
  where
    by : (b : Bool) → comes_before x g ≡ b → (b || any_before g fs) ≡ true → (any_before g fs ≡ true → any_before f fs ≡ true)
        → (comes_before x f || any_before f fs) ≡ true
    by true e l rest = ap (λ (b : Bool). b || any_before f fs) (passed_on f g x h e)
    by false e l rest = or_true (comes_before x f) (any_before f fs) (rest l)

-- where none of the first comes before f, and one of the others does, it is one of the others
past : (f : Fault) (fs gs : List Fault) → any_before f fs ≡ false → any_before f gs ≡ true → earliest (fs ++ gs) ≡ earliest gs
unfolding earliest
past f [] gs h k = refl
past f (x ∷ fs) gs h k = by (comes_before x f) refl h (λ l. past f fs gs l k)
  where
    by : (b : Bool) → comes_before x f ≡ b → (b || any_before f fs) ≡ false → (any_before f fs ≡ false → earliest (fs ++ gs) ≡ earliest gs)
        → (if any_before x (fs ++ gs) then earliest (fs ++ gs) else Some x) ≡ earliest gs
    by true e l rest = cc
    by false e l rest =
        let some : any_before x (fs ++ gs) ≡ true =
        list_any-append (λ g. comes_before g x) fs gs ∙ or_true (any_before x fs) (any_before x gs) (any_passed_on x f gs e k) in
        ap (λ (b : Bool). if b then earliest (fs ++ gs) else Some x) some ∙ rest l

-- the earliest of two lists
pub onto : (fs gs : List Fault) → earliest (fs ++ gs) ≡ earliest_after (earliest fs) gs
unfolding earliest earliest_after
onto [] gs = refl
onto (f ∷ fs) gs =
    ap (λ (b : Bool). if b then earliest (fs ++ gs) else Some f) (list_any-append (λ g. comes_before g f) fs gs)
    ∙ by (any_before f fs) (any_before f gs) refl refl (onto fs gs)
  where
    by : (b c : Bool) → any_before f fs ≡ b → any_before f gs ≡ c → earliest (fs ++ gs) ≡ earliest_after (earliest fs) gs
        → (if b || c then earliest (fs ++ gs) else Some f) ≡ earliest_after (if b then earliest fs else Some f) gs
    by true c h k rest = rest
    by false true h k rest = past f fs gs h k ∙ ap (λ (b : Bool). if b then earliest gs else Some f) (sym k)
    by false false h k rest = ap (λ (b : Bool). if b then earliest gs else Some f) (sym k)

pub more : (known : Option Fault) (fs gs : List Fault) → earliest_after known (fs ++ gs) ≡ earliest_after (earliest_after known fs) gs
unfolding earliest earliest_after
more None fs gs = onto fs gs
more (Some f) fs gs = onto (f ∷ fs) gs

pub none : (known : Option Fault) → earliest_after known [] ≡ known
unfolding earliest earliest_after
none None = refl
none (Some f) = refl

pub start : (fs : List Fault) → earliest_after None fs ≡ earliest fs
unfolding earliest_after
start fs = refl

-- the same, as a walk takes one list after another

pub after_none : (known : Option Fault) (fs : List Fault) → fs ≡ [] → known ≡ earliest_after known fs
after_none known fs is = sym (ap (earliest_after known) is ∙ none known)

pub after_two : (known one two : Option Fault) (fs gs all : List Fault) → one ≡ earliest_after known fs → two ≡ earliest_after one gs → all ≡ fs ++ gs
    → two ≡ earliest_after known all
after_two known one two fs gs all p q is =
    q ∙ ap (λ (f : Option Fault). earliest_after f gs) p ∙ sym (more known fs gs) ∙ ap (earliest_after known) (sym is)

pub ruleset told = (common_steps, more, none, start, onto)
