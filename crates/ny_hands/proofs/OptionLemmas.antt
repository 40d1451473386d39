-- What stands at a place that may be empty.
use Rattle.std.proofs.Common.{◌≡◌, IsSome, IsSomeAnd, Option, None, Some, refl, sym, subst, ◌∙◌}

pub some_same : {A : Type 0} (a b : A) → Some a ≡ Some b → a ≡ b
some_same a b e = cc

-- the same thing at a place
pub same_at : {A : Type 0} (o : Option A) (a b : A) → o ≡ Some a → o ≡ Some b → a ≡ b
same_at o a b p q = some_same a b (sym p ∙ q)

pub some_and : {A : Type 0} (o : Option A) (P : A → Type 0) → IsSomeAnd o P → (x : A) × (o ≡ Some x) × P x
some_and None P h = absurd h
some_and (Some x) P h = (x, refl, h)

pub and_some : {A : Type 0} (o : Option A) (P : A → Type 0) (x : A) → o ≡ Some x → P x → IsSomeAnd o P
and_some o P x e p = subst (λ q. IsSomeAnd q P) (sym e) p

pub some_there : {A : Type 0} (o : Option A) → IsSome o → (x : A) × (o ≡ Some x)
some_there None h = cc
some_there (Some x) h = (x, refl)

pub none_some : {A : Type 0} (o : Option A) (x : A) → o ≡ None → o ≡ Some x → ⊥
none_some o x p q = cc
