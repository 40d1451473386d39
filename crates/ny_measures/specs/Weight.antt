-- The weight of an expression: how many nodes it has where each call is replaced by the function's body and each repeat by its parts.
use Rattle.std.specs.Prelude.{ℕ, ◌+◌, ◌*◌, if◌then◌else◌, List, [], ◌∷◌, ◌++◌, length, get_or, Option, Some, None}
use Rattle.ny_resolve.specs.declared.term.Term.TheFolds.{fold-Part, fold-Bound}
use Rattle.ny_resolve.specs.declared.term.Term.TheOpen.{Term-F, Part-F, Bound-F}
use Rattle.ny_resolve.specs.declared.term.Part.{Part}
use Rattle.ny_resolve.specs.declared.term.Bound.{Bound}
use Rattle.ny_resolve.specs.declared.term.Declared.{Declared}

-- of the weights of the declarations before the one that it stands in
abbrev pub Weighed : Type 0
Weighed = List ℕ → ℕ

abbrev pub total : List Weighed → Weighed
total [] ds = 0
total (e ∷ es) ds = e ds + total es ds

abbrev pub term_weight : Term-F Weighed Weighed Weighed → Weighed
term_weight (Term-F.Number v) ds = 1
term_weight (Term-F.Local x) ds = 1
term_weight (Term-F.Global n) ds = 1
term_weight (Term-F.Call n es) ds = 1 + total es ds + get_or ds n 0
term_weight (Term-F.Block bs e) ds = 1 + total bs ds + e ds
term_weight (Term-F.Apply o es) ds = 1 + total es ds
term_weight (Term-F.Over a v) ds = 1 + a ds + 1
term_weight (Term-F.Repeat o x n e) ds = 1 + n * e ds
term_weight (Term-F.Nameless e) ds = 1 + e ds
term_weight (Term-F.Warp vs e) ds = 1 + length vs + e ds
term_weight (Term-F.Rate w r e) ds = 1 + 1 + e ds

abbrev pub bound_weight : Bound-F Weighed Weighed Weighed → Weighed
bound_weight b = b.value

abbrev pub part_weight : Part-F Weighed Weighed Weighed → Weighed
part_weight p = p.term

abbrev pub weight_of : Part → Weighed
weight_of = fold-Part Weighed Weighed Weighed term_weight bound_weight part_weight

abbrev pub weight_of_bind : Bound → Weighed
weight_of_bind = fold-Bound Weighed Weighed Weighed term_weight bound_weight part_weight

-- the weights of declarations in order, after those already known; each sees those before it
abbrev pub weights_after : List ℕ → List Declared → List ℕ
weights_after known [] = known
weights_after known (d ∷ ds) = weights_after (known ++ weight_of d.body known ∷ []) ds

-- the sum of the weights of the global variables among declarations from number i on, of the weights of all
abbrev pub values_weight : ℕ → List Declared → List ℕ → ℕ
values_weight i [] ws = 0
values_weight i (d ∷ ds) ws = (if d.is_variable then get_or ws i 0 else 0) + values_weight (i + 1) ds ws

abbrev pub play_weight : Option Part → List ℕ → ℕ
play_weight None known = 0
play_weight (Some e) known = weight_of e known

-- the weight of a text: that of its global values and of what it plays
unfoldable pub text_weight : List Declared → Option Part → ℕ
text_weight ds play = let ws = weights_after [] ds in values_weight 0 ds ws + play_weight play ws
