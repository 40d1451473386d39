-- One more parameter of a list is bound.
use Rattle.std.proofs.Common.{◌≡◌, ℕ, ◌+◌, ◌<◌, List, ◌∷◌, length, drop, get_or, Option, refl, ap, sym, ◌∙◌, add-one, drop-cons}
use Rattle.ny_syntax.specs.declared.tree.Param.{Param}
use Rattle.ny_resolve.specs.declared.fault.Fault.{Fault}
use Rattle.ny_resolve.specs.declared.term.NameId.{NameId}
use Rattle.ny_resolve.specs.Builtins.{Bytes}
use Rattle.ny_resolve.specs.Faults.{earliest_after}
use Rattle.ny_resolve.specs.Names.{Scope, with_local, again_faults, seen_after}
use Rattle.ny_resolve.specs.Declarations.{with_params, params_faults}
use Rattle.ny_resolve.proofs.Earliest.{more}

-- the rest of a list begins with the item at its place
pub rest_is : {A : Type 0} (xs : List A) (i : ℕ) (x : A) → i < length xs → x ≡ get_or xs i x → drop i xs ≡ x ∷ drop (i + 1) xs
rest_is xs i x within is = drop-cons xs i x within ∙ rw (add-one i, sym is) refl

pub bound_step : (now rest : List Param) (p : Param) (s t whole : Scope) → now ≡ p ∷ rest → t ≡ with_local p.name.bytes p.at s → with_params now s ≡ whole
    → with_params rest t ≡ whole
bound_step now rest p s t whole here bound so_far = ap (with_params rest) bound ∙ sym (ap (λ (ps : List Param). with_params ps s) here) ∙ so_far

pub fault_step : (now rest : List Param) (p : Param) (f g whole : Option Fault) (seen after : List (Bytes × NameId)) → now ≡ p ∷ rest → after ≡ seen_after seen p.name.bytes p.at
    → g ≡ earliest_after f (again_faults seen p.name.bytes p.at) → earliest_after f (params_faults now seen) ≡ whole → earliest_after g (params_faults rest after) ≡ whole
fault_step now rest p f g whole seen after here noted told so_far =
    ap (λ (h : Option Fault). earliest_after h (params_faults rest after)) told
    ∙ ap (λ (ns : List (Bytes × NameId)). earliest_after (earliest_after f (again_faults seen p.name.bytes p.at)) (params_faults rest ns)) noted
    ∙ sym (more f (again_faults seen p.name.bytes p.at) (params_faults rest (seen_after seen p.name.bytes p.at)))
    ∙ sym (ap (λ (ps : List Param). earliest_after f (params_faults ps seen)) here) ∙ so_far
