-- What the reader answers on all the tokens: their one tree, or the place where they stop beginning an accepted text.
use Rattle.std.proofs.Common.{◌≡◌, ℕ, List, [], ◌∷◌, ◌++◌, Option, Some, None, Result, Ok, Err, IfOk, IfErr, refl, sym, ap, subst, ◌∙◌, append_assoc, append-nil, arith}
use Rattle.ny_syntax.specs.declared.token.Token.{Token}
use Rattle.ny_syntax.specs.declared.tree.Decl.{Decl}
use Rattle.ny_syntax.specs.declared.tree.Tree.{Tree}
use Rattle.ny_syntax.specs.Grammar.{HasTree}
use Rattle.ny_parse.specs.declared.fault.ParseFault.{ParseFault}
use Rattle.ny_parse.specs.declared.fault.ParseFault.TheVariants as faults
use Rattle.ny_parse.specs.declared.frame.Frame.{Frame}
use Rattle.ny_parse.specs.declared.state.State.{State}
use Rattle.ny_parse.specs.declared.state.State.TheVariants as states
use Rattle.ny_parse.specs.Prefix.{IsViable, CanNotFollow, HasNone, IsPlace}
use Rattle.ny_parse.specs.Reading.{Next, chosen, reading, step, finish, Answers}
use Rattle.ny_parse.proofs.Partial.{Stands, Keeps}
use Rattle.ny_parse.proofs.StepKeeps.{step-keeps, Finishes, finishes}
use Rattle.ny_parse.proofs.Viable.{stands-viable}
use Rattle.ny_parse.proofs.Programs.{accepted}

-- what a reading of all these tokens says of them
abbrev Judged : List ℕ → List Token → Result Tree (List Token) → Type 0
Judged text ts (Ok made) = HasTree text ts made
Judged text ts (Err stop) = (before : List Token) × (ts ≡ before ++ stop) × IsViable text before × CanNotFollow text before stop

-- the reader came here with these tokens
abbrev Comes : List ℕ → State → List Frame → List Decl → List Token → Type 0
Comes text s k ds used = (rest : List Token) → reading text (used ++ rest) states.Between [] [] ≡ reading text rest s k ds

clash : (stop : List Token) (made : Tree) → (let x : Result Tree (List Token) = Err stop in x) ≡ Ok made → ⊥
clash stop made h = cc

no_end : (text : List ℕ) (s : State) (k : List Frame) (ds : List Decl) (used : List Token) → Comes text s k ds used → finish text s k ds ≡ None → CanNotFollow text used []
unfolding reading
no_end text s k ds used comes none = λ made has.
    clash [] made
    (sym (ap (λ l. reading text l states.Between [] []) (sym (append-nil used)) ∙ comes [] ∙ ap (λ n. chosen Ok (Err []) n) none) ∙ accepted text used made has)

no_token : (text : List ℕ) (t : Token) (ts : List Token) (s : State) (k : List Frame) (ds : List Decl) (used : List Token) → Comes text s k ds used → step text t s k ds ≡ None
    → CanNotFollow text used (t ∷ ts)
unfolding reading
no_token text t ts s k ds used comes none = λ (more, made, has).
    clash (t ∷ more) made
    (sym (ap (λ l. reading text l states.Between [] []) (append_assoc used (t ∷ []) more) ∙ comes (t ∷ more)
    ∙ ap (λ n. chosen (λ m. reading text more m.0 m.1.stack m.1.decls) (Err (t ∷ more)) n) none)
    ∙ accepted text ((used ++ t ∷ []) ++ more) made has)

judge : (text : List ℕ) (ts : List Token) (s : State) (k : List Frame) (ds : List Decl) (used : List Token) → Stands text s k ds used → Comes text s k ds used → Judged text (used ++ ts) (reading text ts s k ds)
unfolding reading
judge text [] s k ds used stands comes = at_end (finish text s k ds) refl (finishes text s k ds used stands)
  where
    at_end : (n : Option Tree) → finish text s k ds ≡ n → Finishes text used n → Judged text (used ++ []) (chosen Ok (Err []) n)
    at_end None e h = (used, refl, stands-viable text s k ds used stands, no_end text s k ds used comes e)
    at_end (Some made) e h = subst (λ l. HasTree text l made) (sym (append-nil used)) h
judge text (t ∷ ts) s k ds used stands comes = by_step (step text t s k ds) refl (step-keeps text t s k ds used stands) (judge text ts)
  where
    by_step : (n : Next) → step text t s k ds ≡ n → Keeps text (used ++ t ∷ []) n
        → ((s2 : State) (k2 : List Frame) (ds2 : List Decl) (used2 : List Token) → Stands text s2 k2 ds2 used2 → Comes text s2 k2 ds2 used2 → Judged text (used2 ++ ts) (reading text ts s2 k2 ds2))
        → Judged text (used ++ (t ∷ ts)) (chosen (λ m. reading text ts m.0 m.1.stack m.1.decls) (Err (t ∷ ts)) n)
    by_step None e keeps again = (used, refl, stands-viable text s k ds used stands, no_token text t ts s k ds used comes e)
    by_step (Some n) e keeps again =
        subst (λ l. Judged text l (reading text ts n.0 n.1.stack n.1.decls)) (append_assoc used (t ∷ []) ts)
        (again n.0 n.1.stack n.1.decls (used ++ t ∷ []) keeps
        (λ rest. ap (λ l. reading text l states.Between [] []) (append_assoc used (t ∷ []) rest) ∙ comes (t ∷ rest)
        ∙ ap (λ m. chosen (λ m. reading text rest m.0 m.1.stack m.1.decls) (Err (t ∷ rest)) m) e))

judged : (text : List ℕ) (ts : List Token) (r : Result Tree (List Token)) → reading text ts states.Between [] [] ≡ r → Judged text ts r
judged text ts r e = subst (Judged text ts) e (judge text ts states.Between [] [] [] (refl, ([], tt, omega arith, refl, refl)) (λ rest. refl))

pub same_made : (made other : Tree) → (let x : Result Tree (List Token) = Ok other in x) ≡ Ok made → other ≡ made
same_made made other h = cc

-- what the parser answers
pub answered-tree : (text : List ℕ) (ts : List Token) (result : Result Tree ParseFault) → Answers text result (reading text ts states.Between [] []) → IfOk result (λ made. HasTree text ts made)
answered-tree text ts (Ok made) h = judged text ts (Ok made) h
answered-tree text ts (Err e) h = tt

pub answered-only : (text : List ℕ) (ts : List Token) (result : Result Tree ParseFault) → Answers text result (reading text ts states.Between [] [])
    → IfOk result (λ made. (other : Tree) → HasTree text ts other → other ≡ made)
answered-only text ts (Ok made) h = λ other has. same_made made other (sym (accepted text ts other has) ∙ h)
answered-only text ts (Err e) h = tt

pub answered-none : (text : List ℕ) (ts : List Token) (result : Result Tree ParseFault) → Answers text result (reading text ts states.Between [] []) → IfErr result (λ e. HasNone text ts e)
answered-none text ts (Ok made) h = tt
answered-none text ts (Err faults.OutOfMemory) h = tt
answered-none text ts (Err (faults.At at)) (rest, e, place) = λ made has. clash rest made (sym e ∙ accepted text ts made has)

pub answered-place : (text : List ℕ) (ts : List Token) (result : Result Tree ParseFault) → Answers text result (reading text ts states.Between [] []) → IfErr result (λ e. IsPlace text ts e)
answered-place text ts (Ok made) h = tt
answered-place text ts (Err faults.OutOfMemory) h = tt
answered-place text ts (Err (faults.At at)) (rest, e, place) =
    let j = judged text ts (Err rest) e in (j.0, rest, j.1, j.2, j.3, place)
