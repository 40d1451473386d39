-- Lists of steps: one more at the end, and what the steps from an index on do.
use Rattle.std.proofs.Common.{◌≡◌, ℕ, suc, ◌+◌, ◌<◌, ◌≤◌, List, [], ◌∷◌, ◌++◌, length, take, drop, get_or, refl, sym, ap, ◌∙◌, arith, add-one, drop-cons}
use Rattle.std.proofs.lemmas.List.{take_more}
use Rattle.std.proofs.lemmas.Grind.{common_steps}
use Rattle.ny_num.specs.Grid.{horizon}
use Rattle.ny_warp.specs.declared.step.Step.{Step}
use Rattle.ny_warp.specs.Warp.{through, step_value}

through-push : (steps : List Step) (last : Step) (x : ℕ)
    → through (steps ++ (last ∷ [])) x ≡ through steps (step_value last x)
through-push [] last x = refl
through-push (step ∷ steps) last x = ap (λ y. step_value step y) (through-push steps last x)

through-take_more : (steps : List Step) (i : ℕ) (step : Step) (x : ℕ) → i < length steps
    → get_or steps i step ≡ step → through (take (i + 1) steps) x ≡ through (take i steps) (step_value step x)
through-take_more steps i step x h e =
    ap (λ l. through l x) (take_more steps i step h) ∙ ap (λ s. through (take i steps ++ (s ∷ [])) x) e ∙ through-push (take i steps) step x

-- one step fewer, as a loop from the last step to the first meets it
pub through-take_less : (steps : List Step) (i j : ℕ) (step : Step) (x y : ℕ) → i ≡ j + 1 → j < length steps
    → step ≡ get_or steps j step → y ≡ step_value step x → through (take j steps) y ≡ through (take i steps) x
through-take_less steps i j step x y e h is value =
    rw (e, value) (sym (through-take_more steps j step x h (sym is)))

pub through-within : (steps : List Step) (v : ℕ) → v ≤ horizon → through steps v ≤ horizon
through-within [] v h = h
through-within (step ∷ steps) v h = omega arith

pub through-drop : (steps : List Step) (i : ℕ) (step : Step) (v : ℕ) → i < length steps
    → step ≡ get_or steps i step → through (drop i steps) v ≡ step_value step (through (drop (i + 1) steps) v)
through-drop steps i step v h is =
    rw (add-one, drop-cons steps i step) (ap (λ (s : Step). step_value s (through (drop (suc i) steps) v)) (sym is))

pub drop-end : (steps : List Step) (i : ℕ) → length steps ≤ i → drop i steps ≡ []
drop-end steps i h = grind (arith, common_steps)
