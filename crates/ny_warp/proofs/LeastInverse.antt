-- The first number that passes a test is the one that passes where no smaller one does; so the least inverse of a time
-- is known by what it is.
use Rattle.std.proofs.Common.{◌≡◌, ℕ, zero, suc, ◌+◌, ◌<◌, ◌≤◌, Bool, true, false, ◌⊎◌, inl, inr, refl, sym, ap, ◌∙◌, subst, arith, List, []}
use Rattle.std.specs.Prelude.{if◌then◌else◌, nat_le}
use Rattle.std.proofs.lemmas.Bool.{cases_lt, lt-leb, le-leb}
use Rattle.ny_num.specs.Grid.{horizon}
use Rattle.ny_warp.specs.declared.step.Step.{Step}
use Rattle.ny_warp.specs.Warp.{first_from, through, least_inverse}

abbrev Passes : (ℕ → Bool) → ℕ → ℕ → Type 0
Passes p end x = (p x ≡ true) ⊎ (x ≡ end)

abbrev Failed : (ℕ → Bool) → ℕ → ℕ → Type 0
Failed p at x = (y : ℕ) → at ≤ y → y < x → p y ≡ false

-- a test that passes at `at` is the first there
first_here : (p : ℕ → Bool) (at x : ℕ) → p at ≡ true → at ≤ x → Failed p at x → x ≡ at
first_here p at x passes low none =
    elim (cases_lt at x) [
      | inl h ↦ let fails : p at ≡ false = none at (omega arith) h in cc
      | inr h ↦ omega arith
    ]

-- one that fails there is passed over
first_later : (p : ℕ → Bool) (at x end : ℕ) → p at ≡ false → at ≤ x → at < end → Passes p end x → at + 1 ≤ x
first_later p at x end fails low within here =
    elim (cases_lt at x) [
      | inl h ↦ omega arith
      | inr h ↦
          let e : x ≡ at = omega arith in
          elim here [
            | inl passes ↦ let other : p at ≡ true = sym (ap p e) ∙ passes in cc
            | inr last ↦ absurd (omega arith)
          ]
    ]

by_test : (b : Bool) (x v w : ℕ) → (b ≡ true → x ≡ v) → (b ≡ false → x ≡ w) → x ≡ (if b then v else w)
by_test true x v w f g = f refl
by_test false x v w f g = g refl

first_from-is : (p : ℕ → Bool) (count at x : ℕ) → at ≤ x → x ≤ at + count → Failed p at x
    → Passes p (at + count) x → x ≡ first_from p count at
unfolding first_from
first_from-is p zero at x low high none here = omega arith
first_from-is p (suc count) at x low high none here =
    by_test (p at) x at (first_from p count (at + 1))
    (λ e. first_here p at x e low none)
    (λ e.
    let later : at + 1 ≤ x = first_later p at x (at + suc count) e low (omega arith) here in
    let same : at + suc count ≡ (at + 1) + count = omega arith in
    let P : ℕ → Type 0 = λ end. Passes p end x in
    first_from-is p count (at + 1) x later (omega arith) (λ y a b. none y (omega arith) b) (subst P same here))

-- a time is the least inverse where the steps take it to t or later, and none before it
pub least_inverse-reached : (steps : List Step) (t x : ℕ) → x ≤ horizon
    → ((y : ℕ) → y < x → through steps y < t) → t ≤ through steps x → x ≡ least_inverse steps t
unfolding least_inverse
least_inverse-reached steps t x h before here =
    first_from-is (λ y. nat_le t (through steps y)) horizon 0 x (omega arith) h (λ y a b. lt-leb t (through steps y) (before y b)) (inl (le-leb t (through steps x) here))

-- it is the horizon where they take no time before that to t or later
pub least_inverse-none : (steps : List Step) (t x : ℕ) → x ≡ horizon
    → ((y : ℕ) → y < x → through steps y < t) → x ≡ least_inverse steps t
unfolding least_inverse
least_inverse-none steps t x h before =
    first_from-is (λ y. nat_le t (through steps y)) horizon 0 x (omega arith) (omega arith) (λ y a b. lt-leb t (through steps y) (before y b)) (inr h)

-- without steps it is the time itself
pub least_inverse-no_steps : (t : ℕ) → t ≤ horizon → least_inverse [] t ≡ t
least_inverse-no_steps t within = sym (least_inverse-reached [] t t within (λ y before. before) (omega arith))
