-- What names stand for as numbers, whatever is heard.
use Rattle.std.proofs.Common.{◌≡◌, ℕ, List, [], ◌∷◌, ◌++◌, map, refl, sym, ap, ◌∙◌}
use Rattle.std.specs.Prelude.{zip, unwrap_or}
use Rattle.ny_num.specs.declared.timing.Timing.{Timing}
use Rattle.ny_warp.specs.declared.env.Env.{Env}
use Rattle.ny_scope.specs.Scopes.{last_of}
use Rattle.ny_scope.proofs.Mapped.{with_value, last_of-with}
use Rattle.ny_resolve.specs.declared.term.NameId.{NameId}
use Rattle.ny_resolve.specs.Keys.{same_name}
use Rattle.ny_check.specs.declared.node.ExprId.{ExprId}
use Rattle.ny_check.specs.declared.value.Scalar.{Scalar}
use Rattle.ny_check.specs.declared.value.Scalar.TheVariants as scalar
use Rattle.ny_check.specs.declared.value.Value.{Value}
use Rattle.ny_check.specs.Code.{Code}
use Rattle.ny_check.specs.Values.{Scalars, scalar_named, scalars_of, scalar_in, scalar_of, passed, argument, scalars_after}
use Rattle.ny_timing.specs.Timings.{Timed, Times, timed_by, timed_value_of, timed_after}

scalars_of-is : {S : Type 0} (names : List (NameId × Value S)) → scalars_of names ≡ map (with_value scalar_in) names
scalars_of-is [] = refl
scalars_of-is (b ∷ bs) = ap (λ (rest : Scalars). (b.0, scalar_in b.1) ∷ rest) (scalars_of-is bs)

-- what a name is among numbers, by what it stands for; what stands for none is no number
pub named_scalar : {S : Type 0} (x : NameId) (names : List (NameId × Value S)) (other : Value S) → scalar_in other ≡ scalar.Sound → scalar_named x (scalars_of names) ≡ scalar_in (unwrap_or (last_of (same_name x) names) other)
named_scalar x names other none =
    ap (λ (w : Scalars). unwrap_or (last_of (same_name x) w) scalar.Sound) (scalars_of-is names)
    ∙ ap (λ (s : Scalar). unwrap_or (last_of (same_name x) (map (with_value scalar_in) names)) s) (sym none)
    ∙ last_of-with scalar_in (same_name x) names other

scalar_in-timed_by : (c : Scalar) (t : Timing) → scalar_in (timed_by c t) ≡ passed c
scalar_in-timed_by (scalar.Number v) t = refl
scalar_in-timed_by (scalar.Test b) t = refl
scalar_in-timed_by scalar.Sound t = refl

-- the numbers among arguments are the numbers that the arguments are
pub scalars_of-arguments : (code : Code) (f : ℕ → Times) (env : Env) (bound : Timed) (xs : List NameId) (es : List ExprId) → scalars_of (zip xs (map (timed_value_of code f env bound) es)) ≡ zip xs (map (argument (scalar_of code) (scalars_of bound)) es)
scalars_of-arguments code f env bound [] es = refl
scalars_of-arguments code f env bound (x ∷ xs) [] = refl
scalars_of-arguments code f env bound (x ∷ xs) (e ∷ es) =
    let first : scalar_in (timed_value_of code f env bound e) ≡ argument (scalar_of code) (scalars_of bound) e = scalar_in-timed_by (scalar_of code e.0 (scalars_of bound)) (f e.0 env bound) in
    let rest = scalars_of-arguments code f env bound xs es in
    cc

scalars_of-push : (bound : Timed) (x : NameId) (v : Value Timing) → scalars_of (bound ++ (x, v) ∷ []) ≡ scalars_of bound ++ (x, scalar_in v) ∷ []
scalars_of-push [] x v = refl
scalars_of-push (b ∷ bs) x v = ap (λ (rest : Scalars). (b.0, scalar_in b.1) ∷ rest) (scalars_of-push bs x v)

-- the numbers among the binds of a block are the numbers that the binds are
pub scalars_of-after : (code : Code) (f : ℕ → Times) (env : Env) (bs : List (NameId × ExprId)) (bound : Timed) → scalars_of (timed_after code f env bs bound) ≡ scalars_after (scalar_of code) bs (scalars_of bound)
scalars_of-after code f env [] bound = refl
scalars_of-after code f env (b ∷ bs) bound =
    scalars_of-after code f env bs (bound ++ (b.0, timed_value_of code f env bound b.1) ∷ [])
    ∙ ap (scalars_after (scalar_of code) bs)
    (scalars_of-push bound b.0 (timed_value_of code f env bound b.1)
    ∙ ap (λ (s : Scalar). scalars_of bound ++ (b.0, s) ∷ []) (scalar_in-timed_by (scalar_of code b.1.0 (scalars_of bound)) (f b.1.0 env bound)))

pub ruleset by_parts = (scalars_of-arguments, scalars_of-after)
