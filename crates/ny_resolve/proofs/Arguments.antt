-- The second and the last of a list of arguments.
use Rattle.std.proofs.Common.{◌≡◌, ◌<◌, ◌≤◌, List, [], ◌∷◌, ◌++◌, map, length, get_or, refl, arith}
use Rattle.ny_syntax.specs.declared.tree.Expr.{Expr}
use Rattle.ny_resolve.specs.declared.term.Part.{Part}
use Rattle.ny_resolve.specs.Literals.{count_of_shape}
use Rattle.ny_resolve.specs.Reading.{reading, second_count, last_part}

pub second-at : (es : List Expr) (e : Expr) → 2 ≤ length es → e ≡ get_or es 1 e → count_of_shape (reading e).shape ≡ second_count (map reading es)
second-at [] e long at = absurd (omega arith)
second-at (x ∷ []) e long at = absurd (omega arith)
second-at (x ∷ (y ∷ es)) e long at = let is : e ≡ y = at in rw is

pub second-short : (es : List Expr) → length es < 2 → 0 ≡ second_count (map reading es)
second-short [] h = refl
second-short (x ∷ []) h = refl
second-short (x ∷ (y ∷ es)) h = absurd (omega arith)

pub last_part-push : (p q : Part) (ps : List Part) → last_part p (ps ++ q ∷ []) ≡ q
last_part-push p q [] = refl
last_part-push p q (x ∷ ps) = last_part-push x q ps

pub last_part-is : (p q : Part) (ps all : List Part) → all ≡ ps ++ q ∷ [] → q ≡ last_part p all
last_part-is p q ps all is = rw (is, last_part-push p q ps)

pub last_part-none : (p : Part) (all : List Part) → all ≡ [] → p ≡ last_part p all
last_part-none p all is = rw is

pub ruleset second_of = (second-at, second-short)

pub ruleset last_of_parts = (last_part-is, last_part-none)
