-- A text that plays nothing has a fault.
use Rattle.std.proofs.Common.{◌≡◌, ◌<◌, ℕ, Bool, true, false, List, [], ◌∷◌, ◌++◌, length, Option, Some, None, refl, ap, sym, ◌∙◌, arith, length-append}
use Rattle.std.specs.Prelude.{if◌then◌else◌, is_some, IfOk, IfErr, Ok, Err}
use Rattle.std.specs.List.{list_any}
use Rattle.std.specs.declared.result.Result.{Result}
use Rattle.ny_syntax.specs.declared.tree.Tree.{Tree}
use Rattle.ny_syntax.specs.declared.tree.Expr.{Expr}
use Rattle.ny_resolve.specs.declared.fault.Fault.{Fault}
use Rattle.ny_resolve.specs.declared.fault.CheckWhy.TheVariants as why
use Rattle.ny_resolve.specs.Faults.{comes_before, earliest, earliest_after, one_fault}
use Rattle.ny_resolve.specs.Declarations.{Declaring, play_read, tree_read, declared_after, nothing_declared, names_faults, declarations_read}
use Rattle.ny_resolve.specs.declared.term.Part.{Part}
use Rattle.ny_resolve.specs.declared.term.Declared.{Declared}
use Rattle.ny_resolve.proofs.Earliest.{onto}
use Rattle.ny_check.specs.declared.accept.CheckFault.{CheckFault}
use Rattle.ny_check.specs.declared.accept.CheckFault.TheVariants as answer
use Rattle.ny_check.specs.Acceptance.{faults_in, judged_faults, fault_of, IsRefusal, IsRefusalOr}

-- one of several faults is the earliest
some-earliest : (f : Fault) (fs : List Fault) → is_some (earliest (f ∷ fs)) ≡ true
unfolding earliest
some-earliest f [] = refl
some-earliest f (g ∷ fs) = by (list_any (λ h. comes_before h f) (g ∷ fs)) (some-earliest g fs)
  where
    by : (b : Bool) → is_some (earliest (g ∷ fs)) ≡ true → is_some (if b then earliest (g ∷ fs) else Some f) ≡ true
    by true h = h
    by false h = refl

some-of : (fs : List Fault) → 0 < length fs → is_some (earliest fs) ≡ true
some-of [] h = absurd (omega arith)
some-of (f ∷ fs) h = some-earliest f fs

played : (d : Declaring) (i end : ℕ) (e : Option Expr) → (play_read d i end e).play ≡ None → (play_read d i end e).faults ≡ one_fault why.NoPlay end
played d i end None h = refl
played d i end (Some e) h = cc

not_empty : (fs gs hs ks : List Fault) (f : Fault) → hs ≡ f ∷ [] → 0 < length ((fs ++ (gs ++ hs)) ++ ks)
not_empty fs gs hs ks f is = simp length-append (omega (arith, ap length is))

silent : (tree : Tree) {A : Type 0} → (tree_read tree).play ≡ None → fault_of tree ≡ None → A
unfolding fault_of
silent tree h k =
    let d : Declaring = declared_after 0 tree.decls nothing_declared in
    let some : is_some (earliest (faults_in (tree_read tree) tree.play_at)) ≡ true =
    some-of _ (not_empty (names_faults 0 tree.decls nothing_declared) (declarations_read d 0 tree.decls).faults
    (play_read d (length tree.decls) tree.end tree.play).faults
    (judged_faults (tree_read tree).declared (tree_read tree).play tree.play_at)
    _ (played d (length tree.decls) tree.end tree.play h)) in
    cc some

-- the first fault of what was read is that of the text
pub told : (tree : Tree) (ds : List Declared) (play : Option Part) (first fault : Option Fault) → ds ≡ (tree_read tree).declared → play ≡ (tree_read tree).play
    → first ≡ earliest (tree_read tree).faults → fault ≡ earliest_after first (judged_faults ds play tree.play_at) → fault ≡ fault_of tree
unfolding fault_of
told tree ds play first fault declared played known is =
    is ∙ ap (λ (f : Option Fault). earliest_after f (judged_faults ds play tree.play_at)) known
    ∙ ap (λ (xs : List Declared). earliest_after (earliest (tree_read tree).faults) (judged_faults xs play tree.play_at)) declared
    ∙ ap (λ (p : Option Part). earliest_after (earliest (tree_read tree).faults) (judged_faults (tree_read tree).declared p tree.play_at)) played
    ∙ sym (onto (tree_read tree).faults (judged_faults (tree_read tree).declared (tree_read tree).play tree.play_at))

pub accepted_result : {A : Type 0} (r : Result A CheckFault) (fault first : Option Fault) → fault ≡ first → IfOk r (λ p. fault ≡ None) → IfOk r (λ p. first ≡ None)
accepted_result (Ok p) fault first is h = sym is ∙ h
accepted_result (Err a) fault first is h = tt

-- an answer for what was read is one for the text
refusal : (tree : Tree) (play : Option Part) (fault : Option Fault) (end : ℕ) (a : CheckFault) → play ≡ (tree_read tree).play → fault ≡ fault_of tree
    → IsRefusalOr end play fault a → IsRefusal (fault_of tree) a
refusal tree play fault end answer.OutOfMemory is first h = tt
refusal tree None (Some f) end (answer.Bad at why) is first h = sym first ∙ ap (λ (g : Fault). Some g) h
refusal tree (Some p) (Some f) end (answer.Bad at why) is first h = sym first ∙ ap (λ (g : Fault). Some g) h
refusal tree None None end (answer.Bad at why) is first h = silent tree (sym is) (sym first)
refusal tree (Some p) None end (answer.Bad at why) is first h = absurd h

pub refused_result : {A : Type 0} (tree : Tree) (play : Option Part) (fault : Option Fault) (end : ℕ) (r : Result A CheckFault) → play ≡ (tree_read tree).play → fault ≡ fault_of tree
    → IfErr r (IsRefusalOr end play fault) → IfErr r (IsRefusal (fault_of tree))
refused_result tree play fault end (Ok p) is first h = tt
refused_result tree play fault end (Err a) is first h = refusal tree play fault end a is first h
