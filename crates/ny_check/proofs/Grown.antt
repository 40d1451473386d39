-- A table with one more node, or one more declaration, is ordered as before.
use Rattle.std.proofs.Common.{◌≡◌, ℕ, ◌<◌, List, [], ◌∷◌, ◌++◌, length, get_or, sym, ap, subst, arith, length-append, inl, inr}
use Rattle.std.proofs.lemmas.Bool.{cases_lt}
use Rattle.std.proofs.lemmas.List.{get_or_append_left}
use Rattle.std.proofs.Math.Seq.{get_or-append_seam}
use Rattle.ny_check.specs.declared.node.Node.{Node}
use Rattle.ny_check.specs.declared.node.Node.TheVariants as node
use Rattle.ny_check.specs.declared.node.Function.{Function}
use Rattle.ny_check.specs.Code.{IsBelow, AllOrdered, HasBodies, no_function, no_node}

pub AllOrdered-push : (ns ms : List Node) (fs : List Function) (at : Node) → ms ≡ ns ++ at ∷ [] → AllOrdered ns fs → IsBelow fs (length ns) at → AllOrdered ms fs
AllOrdered-push ns ms fs at pushed all last e h =
    elim (cases_lt e (length ns)) [
      | inl lt ↦
          let P : Node → Type 0 = λ n. IsBelow fs e n in
          let same : get_or ns e no_node ≡ get_or ms e no_node = rw pushed (sym (get_or_append_left ns (at ∷ []) no_node e lt)) in
          subst P same (all e lt)
      | inr ge ↦
          let here : e ≡ length ns = omega (arith, simp length-append at (ap length (sym pushed))) in
          let P : Node → Type 0 = λ n. IsBelow fs e n in
          let same : at ≡ get_or ms e no_node = rw (pushed, here) (sym (get_or-append_seam ns at [] no_node)) in
          let Q : ℕ → Type 0 = λ n. IsBelow fs n at in
          subst P same (subst Q (sym here) last)
    ]

pub HasBodies-wider : (ns ms : List Node) (fs : List Function) (at : Node) → ms ≡ ns ++ at ∷ [] → HasBodies ns fs → HasBodies ms fs
HasBodies-wider ns ms fs at pushed all f h =
    let one : (get_or fs f no_function).body.0 < length ns = all f h in
    omega (arith, simp length-append at (ap length pushed))

-- a function that is known stays the same
body-same : (fs gs : List Function) (g : Function) (f : ℕ) → gs ≡ fs ++ g ∷ [] → f < length fs → get_or fs f no_function ≡ get_or gs f no_function
body-same fs gs g f pushed h = rw pushed (sym (get_or_append_left fs (g ∷ []) no_function f h))

IsBelow-wider : (fs gs : List Function) (g : Function) (n : ℕ) (at : Node) → gs ≡ fs ++ g ∷ [] → IsBelow fs n at → IsBelow gs n at
IsBelow-wider fs gs g n (node.Call f es) pushed h =
    let P : Function → Type 0 = λ b. b.body.0 < n in
    (h.0, omega (arith, h.1, simp length-append at (ap length pushed)), subst P (body-same fs gs g f.0 pushed h.1) h.2)
IsBelow-wider fs gs g n (node.Block bs e) pushed h = h
IsBelow-wider fs gs g n _ pushed h = h

pub AllOrdered-wider : (ns : List Node) (fs gs : List Function) (g : Function) → gs ≡ fs ++ g ∷ [] → AllOrdered ns fs → AllOrdered ns gs
AllOrdered-wider ns fs gs g pushed all e h = IsBelow-wider fs gs g e (get_or ns e no_node) pushed (all e h)

pub HasBodies-push : (ns : List Node) (fs gs : List Function) (g : Function) → gs ≡ fs ++ g ∷ [] → g.body.0 < length ns → HasBodies ns fs → HasBodies ns gs
HasBodies-push ns fs gs g pushed last all f h =
    elim (cases_lt f (length fs)) [
      | inl lt ↦
          let P : Function → Type 0 = λ b. b.body.0 < length ns in
          subst P (body-same fs gs g f pushed lt) (all f lt)
      | inr ge ↦
          let here : f ≡ length fs = omega (arith, simp length-append at (ap length (sym pushed))) in
          let P : Function → Type 0 = λ b. b.body.0 < length ns in
          let same : g ≡ get_or gs f no_function = rw (pushed, here) (sym (get_or-append_seam fs g [] no_function)) in
          subst P same last
    ]

pub ruleset pushed_node = (AllOrdered-push, HasBodies-wider)

pub ruleset pushed_function = (AllOrdered-wider, HasBodies-push)
