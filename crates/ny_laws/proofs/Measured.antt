-- What is played by an accepted text, and the values of its global variables, are no deeper and no heavier on the table than a text may be.
use Rattle.std.proofs.Common.{◌≡◌, ℕ, zero, suc, ◌+◌, ◌<◌, ◌≤◌, max, Bool, true, false, List, [], ◌∷◌, ◌++◌, length, get_or, refl, sym, ap, subst, Option, Some, inl, inr, arith, length-append}
use Rattle.std.specs.Prelude.{nat_lt, if◌then◌else◌}
use Rattle.std.proofs.lemmas.Bool.{cases_lt, ltb-false}
use Rattle.std.proofs.lemmas.List.{get_or_append_left}
use Rattle.std.proofs.Math.Seq.{get_or-append_seam}
use Rattle.ny_resolve.specs.declared.fault.CheckWhy.TheVariants as why
use Rattle.ny_resolve.specs.declared.term.Part.{Part}
use Rattle.ny_resolve.specs.declared.term.Declared.{Declared}
use Rattle.ny_resolve.specs.Declarations.{tree_read}
use Rattle.ny_resolve.specs.Faults.{fault_if}
use Rattle.ny_kinds.specs.Kinds.{no_declared}
use Rattle.ny_kinds.specs.Whole.{text_kind}
use Rattle.ny_measures.specs.Depth.{text_depth, play_depth, values_depth, body_depth}
use Rattle.ny_measures.specs.Depth as tree_depth
use Rattle.ny_measures.specs.Weight.{text_weight, play_weight, weight_of, weights_after}
use Rattle.ny_measures.specs.Weight as tree_weight
use Rattle.ny_check.specs.Code.{Code, function_at, IsOrdered}
use Rattle.ny_check.specs.Acceptance.{greatest_depth, greatest_weight, fault_of, faults_in, judged_faults, kind_faults}
use Rattle.ny_check.specs.Texts.{IsAccepted}
use Rattle.ny_laws.specs.Standing.{Stands, BodiesStand, IsTableOf}
use Rattle.ny_laws.specs.Measures.{depth_at, weight_at, values_weight, IsMeasured}
use Rattle.ny_laws.proofs.ReadWhole.{none_left, no_fault}
use Rattle.ny_laws.proofs.AcceptedKinds.{none_earliest}
use Rattle.ny_laws.proofs.Weights.{weighs}
use Rattle.ny_laws.proofs.Depths.{deep}
use Rattle.ny_laws.proofs.WholeTexts.{whole_table}

-- ---- declarations in order

-- a measure of bodies on the table, and one of declarations after those that are known
module _ (code : Code) (m : ℕ → ℕ) (f : Declared → List ℕ → ℕ) where
  abbrev body_at : ℕ → ℕ
  body_at n = (function_at code n).body.0

  abbrev AtMost : List ℕ → ℕ → Type 0
  AtMost known here = (n : ℕ) → n < here → m (function_at code n).body.0 ≤ get_or known n 0

  abbrev after : List ℕ → List Declared → List ℕ
  after known [] = known
  after known (d ∷ ds) = after (known ++ f d known ∷ []) ds

  abbrev Rule : Type 0
  Rule = (here : ℕ) (known : List ℕ) → AtMost known here → (d : Declared) → Stands code here [] d.body (function_at code here).body.0 → m (function_at code here).body.0 ≤ f d known

  one_more : (known : List ℕ) (k : ℕ) → AtMost known (length known) → m (function_at code (length known)).body.0 ≤ k → AtMost (known ++ k ∷ []) (length known + 1)
  one_more known k h le n lt =
      elim (cases_lt n (length known)) [
        | inl less ↦ let before = h n less in let same = get_or_append_left known (k ∷ []) 0 n less in omega (arith, before, same)
        | inr ge ↦
            let same : length known ≡ n = omega (arith, lt, ge) in
            let last : get_or (known ++ k ∷ []) (length known) 0 ≡ k = get_or-append_seam known k [] 0 in
            subst (λ (i : ℕ). m (function_at code i).body.0 ≤ get_or (known ++ k ∷ []) i 0) same (omega (arith, last, le))
      ]

  bodies_at_most : Rule → (ds : List Declared) (known : List ℕ) → AtMost known (length known) → BodiesStand code (length known) ds → AtMost (after known ds) (length known + length ds)
  bodies_at_most rule [] known h stand n lt = h n (omega (arith, lt))
  bodies_at_most rule (d ∷ ds) known h stand n lt =
      let next : List ℕ = known ++ f d known ∷ [] in
      let count : length next ≡ length known + 1 = simp length-append (omega arith) in
      let now : AtMost next (length known + 1) = one_more known (f d known) h (rule (length known) known h d stand.1) in
      bodies_at_most rule ds next (subst (AtMost next) (sym count) now) (subst (λ (i : ℕ). BodiesStand code i ds) (sym count) stand.2) n (omega (arith, lt, count))

-- ---- weights

weights_are : (known : List ℕ) (ds : List Declared) (code : Code) → after code (weight_at code) (λ d ks. weight_of d.body ks) known ds ≡ weights_after known ds
weights_are known [] code = refl
weights_are known (d ∷ ds) code = weights_are (known ++ weight_of d.body known ∷ []) ds code

depths_are : (known : List ℕ) (ds : List Declared) (code : Code) → after code (λ e. depth_at code e []) body_depth known ds ≡ tree_depth.depths_after known ds
depths_are known [] code = refl
depths_are known (d ∷ ds) code = depths_are (known ++ body_depth d known ∷ []) ds code

values_weigh : (code : Code) (ws : List ℕ) (i : ℕ) (ds : List Declared) → ((n : ℕ) → n < i + length ds → weight_at code (function_at code n).body.0 ≤ get_or ws n 0)
    → values_weight code i ds ≤ tree_weight.values_weight i ds ws
values_weigh code ws i [] h = omega arith
values_weigh code ws i (d ∷ ds) h =
    let first = h i (omega arith) in
    let rest = values_weigh code ws (i + 1) ds (λ n lt. h n (omega (arith, lt))) in
    by d.is_variable first rest
  where
    by : (b : Bool) → weight_at code (function_at code i).body.0 ≤ get_or ws i 0 → values_weight code (i + 1) ds ≤ tree_weight.values_weight (i + 1) ds ws
        → (if b then weight_at code (function_at code i).body.0 else 0) + values_weight code (i + 1) ds ≤ (if b then get_or ws i 0 else 0) + tree_weight.values_weight (i + 1) ds ws
    by true first rest = omega (arith, first, rest)
    by false first rest = omega (arith, rest)

value_deep : (ns : List ℕ) (i : ℕ) (ds : List Declared) (n : ℕ) → n < length ds → (get_or ds n no_declared).is_variable ≡ true → get_or ns (i + n) 0 ≤ values_depth i ds ns
value_deep ns i [] n lt is = absurd (omega arith)
value_deep ns i (d ∷ ds) zero lt is =
    let same : i ≡ i + 0 = omega arith in
    let first : (if d.is_variable then get_or ns i 0 else 0) ≡ get_or ns i 0 = ap (λ (b : Bool). if b then get_or ns i 0 else 0) is in
    subst (λ (k : ℕ). get_or ns k 0 ≤ max (if d.is_variable then get_or ns i 0 else 0) (values_depth (i + 1) ds ns)) same (omega (arith, first))
value_deep ns i (d ∷ ds) (suc n) lt is =
    let same : (i + 1) + n ≡ i + suc n = omega arith in
    let rest : get_or ns ((i + 1) + n) 0 ≤ values_depth (i + 1) ds ns = value_deep ns (i + 1) ds n (omega (arith, lt)) is in
    subst (λ (k : ℕ). get_or ns k 0 ≤ max (if d.is_variable then get_or ns i 0 else 0) (values_depth (i + 1) ds ns)) same (omega (arith, rest))

-- ---- a whole text

module _ (code : Code) (ordered : IsOrdered code) (ds : List Declared) (play : Part) (table : IsTableOf ds play code) where
  weights : (n : ℕ) → n < length ds → weight_at code (function_at code n).body.0 ≤ get_or (weights_after [] ds) n 0
  weights n lt =
      subst (λ (ws : List ℕ). weight_at code (function_at code n).body.0 ≤ get_or ws n 0) (weights_are [] ds code)
      (bodies_at_most code (weight_at code) (λ d ks. weight_of d.body ks)
      (λ here known h d stand. weighs code ordered here known h [] d.body (function_at code here).body.0 stand) ds [] (λ k le. absurd (omega (arith, le))) table.bodies n (omega (arith, lt)))

  depths : (n : ℕ) → n < length ds → depth_at code (function_at code n).body.0 [] ≤ get_or (tree_depth.depths_after [] ds) n 0
  depths n lt =
      subst (λ (ns : List ℕ). depth_at code (function_at code n).body.0 [] ≤ get_or ns n 0) (depths_are [] ds code)
      (bodies_at_most code (λ e. depth_at code e []) body_depth
      (λ here known h d stand. deep code ordered here known h [] d.body (function_at code here).body.0 stand [] [] (λ x. omega arith)) ds [] (λ k le. absurd (omega (arith, le))) table.bodies n (omega (arith, lt)))

  pub text_weighs : values_weight code 0 ds + weight_at code code.play.0 ≤ text_weight ds (Some play)
  unfolding text_weight
  text_weighs =
      let ws : List ℕ = weights_after [] ds in
      let values = values_weigh code ws 0 ds (λ n lt. weights n (omega (arith, lt))) in
      let played = weighs code ordered (length ds) ws weights [] play code.play.0 table.play in
      omega (arith, values, played)

  pub played_deep : depth_at code code.play.0 [] ≤ text_depth ds (Some play)
  unfolding text_depth
  played_deep =
      let ns : List ℕ = tree_depth.depths_after [] ds in
      let played = deep code ordered (length ds) ns depths [] play code.play.0 table.play [] [] (λ x. omega arith) in
      omega (arith, played)

  pub values_deep : (n : ℕ) → n < length ds → (get_or ds n no_declared).is_variable ≡ true → depth_at code (function_at code n).body.0 [] ≤ text_depth ds (Some play)
  unfolding text_depth
  values_deep n lt is =
      let ns : List ℕ = tree_depth.depths_after [] ds in
      let body = depths n lt in
      let same : 0 + n ≡ n = omega arith in
      let value : get_or ns n 0 ≤ values_depth 0 ds ns = subst (λ (k : ℕ). get_or ns k 0 ≤ values_depth 0 ds ns) same (value_deep ns 0 ds n lt is) in
      omega (arith, body, value)

text_bounds : (ds : List Declared) (plays : Option Part) (at : ℕ) → judged_faults ds plays at ≡ [] → (text_depth ds plays ≤ 256) × (text_weight ds plays ≤ 1000000)
text_bounds ds plays at none =
    let deep_fault = fault_if (nat_lt greatest_depth (text_depth ds plays)) why.TooDeep at in
    let heavy_fault = fault_if (nat_lt greatest_weight (text_weight ds plays)) why.TooHeavy at in
    let rest = none_left (kind_faults (text_kind ds plays).fault) (deep_fault ++ heavy_fault) none in
    let both = none_left deep_fault heavy_fault rest.1 in (
      ltb-false 256 (text_depth ds plays) (no_fault (nat_lt greatest_depth (text_depth ds plays)) why.TooDeep at both.0),
      ltb-false 1000000 (text_weight ds plays) (no_fault (nat_lt greatest_weight (text_weight ds plays)) why.TooHeavy at both.1),
    )

bounds_of : (code : Code) (is : IsAccepted code) → (text_depth (tree_read is.tree).declared (tree_read is.tree).play ≤ 256) × (text_weight (tree_read is.tree).declared (tree_read is.tree).play ≤ 1000000)
unfolding fault_of
bounds_of code is =
    let t = tree_read is.tree in
    let none = none_earliest (faults_in t is.tree.play_at) is.accepted in
    text_bounds t.declared t.play is.tree.play_at (none_left t.faults (judged_faults t.declared t.play is.tree.play_at) none).1

pub measured : (code : Code) → IsOrdered code → IsAccepted code → IsMeasured code
measured code ordered is =
    let w = whole_table code is in
    let ds : List Declared = (tree_read is.tree).declared in
    let told : (text_depth ds (Some w.play) ≤ 256) × (text_weight ds (Some w.play) ≤ 1000000) =
    subst (λ (o : Option Part). (text_depth ds o ≤ 256) × (text_weight ds o ≤ 1000000)) w.is (bounds_of code is) in
    let depth = told.0 in
    let weight = told.1 in
    let played = played_deep code ordered ds w.play w.table in
    let weighed = text_weighs code ordered ds w.play w.table in record {
      tree = is.tree;
      play = w.play;
      accepted = is.accepted;
      plays = w.is;
      table = w.table;
      played = omega (arith, depth, played);
      values = λ n lt variable. let value = values_deep code ordered ds w.play w.table n lt variable in omega (arith, depth, value);
      weight = omega (arith, weight, weighed);
    }

pub weight_within : (code : Code) → IsMeasured code → weight_at code code.play.0 ≤ 1000000
weight_within code is = let all = is.weight in omega (arith, all)
