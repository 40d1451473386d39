-- What stands below a number stands below a greater one.
use Rattle.std.proofs.Common.{ℕ, suc, ◌<◌, ◌≤◌, ◌≡◌, List, [], ◌∷◌, ◌++◌, All, get_or, length, take, drop, ◌-◌, ◌∙◌, arith}
use Rattle.std.proofs.lemmas.List.{take_all}
use Rattle.std.specs.Prelude.{slice_index_or}
use Rattle.ny_resolve.specs.declared.term.NameId.{NameId}
use Rattle.ny_check.specs.declared.node.ExprId.{ExprId}
use Rattle.ny_check.specs.Code.{AllBelow, BindsBelow}

pub wider : (n m : ℕ) (ids : List ExprId) → n ≤ m → All (λ (id : ExprId). id.0 < n) ids → All (λ (id : ExprId). id.0 < m) ids
wider n m ids h all = λ k d l. let one : (get_or ids k d).0 < n = all k d l in omega arith

-- one after the other, where each is
pub all_below : (n : ℕ) (ids : List ExprId) → All (λ (id : ExprId). id.0 < n) ids → AllBelow n ids
all_below n [] h = tt
all_below n (id ∷ ids) h = (h 0 id (omega arith), all_below n ids (λ k d l. h (suc k) d (omega arith)))

-- the first, and one after the other all that follow
pub first_and_rest : (n : ℕ) (ids rest : List ExprId) → 1 ≤ length ids → rest ≡ take (length ids - 1) (drop 1 ids) → All (λ (id : ExprId). id.0 < n) ids → ((slice_index_or ids 0 (record { 0 = 0 })).0 < n) × AllBelow n rest
first_and_rest n [] rest some is h = absurd (omega arith)
first_and_rest n (id ∷ ids) rest some is h = let all = all_below n (id ∷ ids) h in let same : rest ≡ ids = is ∙ take_all (length (id ∷ ids) - 1) ids (omega arith) in (all.0, rw same all.1)

pub binds_wider : (n m : ℕ) (bs : List (NameId × ExprId)) → n ≤ m → BindsBelow n bs → BindsBelow m bs
binds_wider n m [] h k = tt
binds_wider n m (b ∷ bs) h k = (let one : b.1.0 < n = k.0 in omega arith, binds_wider n m bs h k.1)

pub binds_push : (n m : ℕ) (bs cs : List (NameId × ExprId)) (x : NameId) (e : ExprId) → cs ≡ bs ++ (x, e) ∷ [] → n ≤ m → e.0 < m → BindsBelow n bs → BindsBelow m cs
binds_push n m bs cs x e is h below k = rw is (go bs k)
  where
    go : (bs : List (NameId × ExprId)) → BindsBelow n bs → BindsBelow m (bs ++ (x, e) ∷ [])
    go [] k = (below, tt)
    go (b ∷ bs) k = (let one : b.1.0 < n = k.0 in omega arith, go bs k.1)
