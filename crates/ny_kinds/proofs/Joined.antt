-- What was found so far, joined with what the rest gives.
use Rattle.std.proofs.Common.{◌≡◌, ℕ, suc, ◌+◌, ◌<◌, ◌≤◌, min, List, [], ◌∷◌, ◌++◌, drop, map, length, get_or, refl, sym, ap, ◌∙◌, arith, subst, Option, Some, None, append_assoc, add-one}
use Rattle.std.proofs.lemmas.Grind.{common_steps}
use Rattle.std.proofs.lemmas.List.{append-nil}
use Rattle.std.proofs.Math.ListN.{drop_of_length-le}
use Rattle.std.proofs.Math.Seq.{drop-cons}
use Rattle.ny_scope.proofs.Kept.{kept_all, kept_more}
use Rattle.ny_resolve.specs.declared.term.Part.{Part}
use Rattle.ny_resolve.specs.declared.term.Bound.{Bound}
use Rattle.ny_resolve.specs.declared.term.Declared.{Declared}
use Rattle.ny_kinds.specs.declared.kind.Found.{Found}
use Rattle.ny_kinds.specs.declared.kind.Judgement.{Judgement}
use Rattle.ny_kinds.specs.declared.kind.Kind.TheVariants.{Number}
use Rattle.ny_kinds.specs.declared.kind.Kind.{Kind}
use Rattle.ny_resolve.specs.declared.term.NameId.{NameId}
use Rattle.ny_resolve.specs.declared.term.Term.TheFolds.{fold_out-Bound, fold_out-Part, fold-roll-Term}
use Rattle.ny_resolve.specs.declared.term.Term.TheOpen.{Term-F}
use Rattle.ny_resolve.specs.declared.term.Term.TheVariants as term
use Rattle.ny_resolve.specs.declared.term.Term.TheVariants.{rolls-Repeat}
use Rattle.ny_resolve.specs.declared.builtin.Order.{Order}
use Rattle.ny_kinds.specs.Whole.{value_fault, values_fault}
use Rattle.ny_kinds.specs.Kinds.{Scope, Kinded, KindedBind, Formed, term_kind, bound_kind, part_kind, scope_of, Several, Several_binds, least, several, several_binds, kind_of, kind_of_bind, named_kind, no_declared, judged, sound_row, with_value}

pub least-none : (p : Option ℕ) → least p None ≡ p
least-none None = refl
least-none (Some p) = refl

pub least-assoc : (p q r : Option ℕ) → least (least p q) r ≡ least p (least q r)
least-assoc None q r = refl
least-assoc (Some p) None r = refl
least-assoc (Some p) (Some q) None = refl
least-assoc (Some p) (Some q) (Some r) = let e : min (min p q) r ≡ min p (min q r) = omega arith in ap Some e

-- some kinds and a place, and then those of the rest
abbrev pub joined : List (Option Kind) → Option ℕ → Several → Several
joined ks p rest = record { kinds = ks ++ rest.kinds; fault = least p rest.fault }

abbrev pub joined_binds : List (Option Kind) → Option ℕ → Several_binds → Several_binds
joined_binds ks p rest = record { values = rest.values; kinds = ks ++ rest.kinds; fault = least p rest.fault }

here_is : {A : Type 0} (xs : List A) (i : ℕ) (x : A) → i < length xs → x ≡ get_or xs i x → drop i xs ≡ x ∷ drop (i + 1) xs
here_is xs i x within is = grind (arith, common_steps)

more : (ks : List (Option Kind)) (k : Option Kind) (ls : List (Option Kind)) → (ks ++ k ∷ []) ++ ls ≡ ks ++ k ∷ ls
more ks k ls = append_assoc ks (k ∷ []) ls

pub several-step : (parts : List Part) (i : ℕ) (e : Part) (s : Scope) (ks ks' : List (Option Kind)) (p p' : Option ℕ) (f : Found) (whole : Several) → i < length parts → e ≡ get_or parts i e → f ≡ kind_of e s → p' ≡ least p f.fault → ks' ≡ ks ++ f.kind ∷ [] → joined ks p (several (map kind_of (drop i parts)) s) ≡ whole → joined ks' p' (several (map kind_of (drop (i + 1) parts)) s) ≡ whole
several-step parts i e s ks ks' p p' f whole within is found fault kinds before =
    let rest : Several = several (map kind_of (drop (i + 1) parts)) s in
    let here : drop i parts ≡ e ∷ drop (i + 1) parts = here_is parts i e within is in
    let first : joined ks p (several (map kind_of (e ∷ drop (i + 1) parts)) s) ≡ whole =
    subst (λ (es : List Part). joined ks p (several (map kind_of es) s) ≡ whole) here before in
    let one : joined ks p (record { kinds = f.kind ∷ rest.kinds; fault = least f.fault rest.fault }) ≡ whole =
    subst (λ (g : Found). joined ks p (record { kinds = g.kind ∷ rest.kinds; fault = least g.fault rest.fault }) ≡ whole) (sym found) first in
    rw (kinds, fault, more ks f.kind rest.kinds, least-assoc p f.fault rest.fault) one

pub several-end : (parts : List Part) (i : ℕ) (s : Scope) (ks : List (Option Kind)) (p : Option ℕ) (whole : Several) → length parts ≤ i → joined ks p (several (map kind_of (drop i parts)) s) ≡ whole → record { kinds = ks; fault = p } ≡ whole
several-end parts i s ks p whole past before =
    let none : drop i parts ≡ [] = drop_of_length-le parts past in
    let last : joined ks p (record { kinds = []; fault = None }) ≡ whole =
    subst (λ (es : List Part). joined ks p (several (map kind_of es) s) ≡ whole) none before in
    (rw (append-nil ks, least-none p) refl) ∙ last

bind_is : (b : Bound) → kind_of_bind b ≡ record { name = b.name; value = kind_of b.value }
bind_is b = fold_out-Bound Formed KindedBind Kinded term_kind bound_kind part_kind b

pub binds-step : (binds : List Bound) (i : ℕ) (b : Bound) (ds : List Declared) (here : ℕ) (vs vs' : List (NameId × Option Kind)) (ks ks' : List (Option Kind)) (p p' : Option ℕ) (f : Found) (whole : Several_binds) → i < length binds → b ≡ get_or binds i b → f ≡ kind_of b.value (scope_of vs ds here) → p' ≡ least p f.fault → vs' ≡ vs ++ (b.name, named_kind f.kind) ∷ [] → ks' ≡ ks ++ f.kind ∷ [] → joined_binds ks p (several_binds (map kind_of_bind (drop i binds)) (scope_of vs ds here)) ≡ whole → joined_binds ks' p' (several_binds (map kind_of_bind (drop (i + 1) binds)) (scope_of vs' ds here)) ≡ whole
binds-step binds i b ds here vs vs' ks ks' p p' f whole within is found fault values kinds before =
    let after : Found → Several_binds = λ g. several_binds (map kind_of_bind (drop (i + 1) binds)) (scope_of (vs ++ (b.name, named_kind g.kind) ∷ []) ds here) in
    let rest : Several_binds = after f in
    let at : drop i binds ≡ b ∷ drop (i + 1) binds = here_is binds i b within is in
    let first : joined_binds ks p (several_binds (kind_of_bind b ∷ map kind_of_bind (drop (i + 1) binds)) (scope_of vs ds here)) ≡ whole =
    subst (λ (bs : List Bound). joined_binds ks p (several_binds (map kind_of_bind bs) (scope_of vs ds here)) ≡ whole) at before in
    let opened : joined_binds ks p (several_binds (record { name = b.name; value = kind_of b.value } ∷ map kind_of_bind (drop (i + 1) binds)) (scope_of vs ds here)) ≡ whole =
    subst (λ (k : KindedBind). joined_binds ks p (several_binds (k ∷ map kind_of_bind (drop (i + 1) binds)) (scope_of vs ds here)) ≡ whole) (bind_is b) first in
    let one : joined_binds ks p (record { values = rest.values; kinds = f.kind ∷ rest.kinds; fault = least f.fault rest.fault }) ≡ whole =
    subst (λ (g : Found). joined_binds ks p (record { values = (after g).values; kinds = g.kind ∷ (after g).kinds; fault = least g.fault (after g).fault }) ≡ whole) (sym found) opened in
    rw (kinds, fault, values, more ks f.kind rest.kinds, least-assoc p f.fault rest.fault) one

pub values-step : (ds : List Declared) (i : ℕ) (p p' v : Option ℕ) (whole : Option ℕ) → i < length ds → ((d : Declared) → v ≡ value_fault ds i (get_or ds i d)) → p' ≡ least p v → least p (values_fault ds i (drop i ds)) ≡ whole → least p' (values_fault ds (i + 1) (drop (i + 1) ds)) ≡ whole
values-step ds i p p' v whole within found fault before =
    let d : Declared = get_or ds i no_declared in
    let at : drop i ds ≡ d ∷ drop (i + 1) ds = drop-cons ds i no_declared within ∙ ap (λ (k : ℕ). d ∷ drop k ds) (sym (add-one i)) in
    let rest : Option ℕ = values_fault ds (i + 1) (drop (i + 1) ds) in
    let first : least p (least (value_fault ds i d) rest) ≡ whole =
    subst (λ (xs : List Declared). least p (values_fault ds i xs) ≡ whole) at before in
    let one : least p (least v rest) ≡ whole = subst (λ (w : Option ℕ). least p (least w rest) ≡ whole) (sym (found no_declared)) first in
    ap (λ (q : Option ℕ). least q rest) fault ∙ least-assoc p v rest ∙ one

kind-Repeat : (e : Part) (o : Order) (x : NameId) (n : ℕ) (b : Part) (s : Scope) → e.term ≡ term.Repeat o x n b
    → kind_of e s ≡ judged e.at (sound_row (kind_of b (with_value x (Some Number) s)).kind) (kind_of b (with_value x (Some Number) s)).fault
kind-Repeat e o x n b s is = rw (fold_out-Part Formed KindedBind Kinded term_kind bound_kind part_kind e, is, ← rolls-Repeat o x n b, fold-roll-Term Formed KindedBind Kinded term_kind bound_kind part_kind (Term-F.Repeat o x n b))

-- a repeat, of what was found of its part
pub arm-Repeat : (e : Part) (o : Order) (x : NameId) (n : ℕ) (b : Part) (ds : List Declared) (here : ℕ) (vs vs' : List (NameId × Option Kind)) (f : Found) (j : Judgement) (r : Found)
    → e.term ≡ term.Repeat o x n b → vs' ≡ vs ++ (x, Some Number) ∷ [] → f ≡ kind_of b (scope_of vs' ds here) → j ≡ sound_row f.kind → r ≡ judged e.at j f.fault → r ≡ kind_of e (scope_of vs ds here)
arm-Repeat e o x n b ds here vs vs' f j r is bound found row result =
    let inner : f ≡ kind_of b (with_value x (Some Number) (scope_of vs ds here)) = found ∙ ap (λ (ws : List (NameId × Option Kind)). kind_of b (scope_of ws ds here)) bound in
    result ∙ ap (λ (k : Judgement). judged e.at k f.fault) row ∙ ap (λ (g : Found). judged e.at (sound_row g.kind) g.fault) inner
    ∙ sym (kind-Repeat e o x n b (scope_of vs ds here) is)

pub ruleset of_names = (kept_all, kept_more)
