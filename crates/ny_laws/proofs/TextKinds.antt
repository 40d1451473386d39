-- The kinds of a whole text.
use Rattle.std.proofs.Common.{◌≡◌, ℕ, zero, suc, ◌+◌, ◌<◌, ◌≤◌, Bool, true, List, [], ◌∷◌, length, get_or, sym, ap, ◌∙◌, subst, Option, Some, None, arith, inl, inr}
use Rattle.std.specs.Prelude.{zip, ◌⊎◌, if◌then◌else◌}
use Rattle.std.proofs.lemmas.Bool.{cases_lt}
use Rattle.ny_resolve.specs.declared.term.NameId.{NameId}
use Rattle.ny_resolve.specs.declared.term.Part.{Part}
use Rattle.ny_resolve.specs.declared.term.Declared.{Declared}
use Rattle.ny_kinds.specs.declared.kind.Kind.{Kind}
use Rattle.ny_kinds.specs.declared.kind.Kind.TheVariants.{Channels}
use Rattle.ny_kinds.specs.declared.kind.Found.{Found}
use Rattle.ny_kinds.specs.Rows.{is_number, is_value}
use Rattle.ny_kinds.specs.Kinds.{kind_of, behavior, seen, no_declared, judged, scope_of}
use Rattle.ny_kinds.specs.Whole.{value_row, play_row, is_playable, value_fault, values_fault, play_kind}
use Rattle.ny_check.specs.Code.{Code, function_at}
use Rattle.ny_laws.specs.Standing.{Stands, BodiesStand, IsTableOf}
use Rattle.ny_laws.specs.Kinds.{Kinds, IsOf, AreValues, IsPlayable}
use Rattle.ny_laws.specs.Kinds as kinds
use Rattle.ny_laws.specs.Whole.{is_whole}
use Rattle.ny_laws.proofs.KindNames.{zip_some, zip_names, zip_values}
use Rattle.ny_laws.proofs.OperatorKinds.{given_is, number_is}
use Rattle.ny_laws.proofs.Rows.{Speaks, given_speaks, least_none, parts_fault, row_kind}
use Rattle.ny_laws.proofs.PartKinds.{Known, IsGlobal, kinded}

abbrev pub declared_at : List Declared → ℕ → Declared
declared_at ds n = get_or ds n no_declared

-- each declaration, and what is played, leaves nothing out
pub record TextWhole (ds : List Declared) (part : Part) : Type 0 where
  pub bodies : (n : ℕ) → n < length ds → is_whole (declared_at ds n).body (record { declared = ds; here = n; names = (declared_at ds n).params }) ≡ true
  pub variables : (n : ℕ) → n < length ds → (declared_at ds n).is_variable ≡ true → (declared_at ds n).params ≡ []
  pub play : is_whole part (record { declared = ds; here = length ds; names = [] }) ≡ true

-- ---- where a declaration stands

abbrev pub StandsAt : Code → ℕ → Declared → Type 0
StandsAt code n d = ((function_at code n).params ≡ d.params) × Stands code n [] d.body (function_at code n).body.0

pub body_at : (code : Code) (ds : List Declared) (i n : ℕ) → BodiesStand code i ds → n < length ds → StandsAt code (i + n) (declared_at ds n)
body_at code [] i n h lt = absurd (omega arith)
body_at code (d ∷ ds) i zero h lt = let same : i ≡ i + 0 = omega arith in subst (λ (k : ℕ). StandsAt code k d) same (h.0, h.1)
body_at code (d ∷ ds) i (suc n) h lt =
    let same : (i + 1) + n ≡ i + suc n = omega arith in subst (λ (k : ℕ). StandsAt code k (declared_at ds n)) same (body_at code ds (i + 1) n h.2 (omega arith))

-- ---- no value is refused

value_none : (all ds : List Declared) (i n : ℕ) → values_fault all i ds ≡ None → n < length ds → value_fault all (i + n) (declared_at ds n) ≡ None
value_none all [] i n h lt = absurd (omega arith)
value_none all (d ∷ ds) i zero h lt =
    let same : i ≡ i + 0 = omega arith in
    subst (λ (k : ℕ). value_fault all k d ≡ None) same (least_none (value_fault all i d) (values_fault all (i + 1) ds) h).0
value_none all (d ∷ ds) i (suc n) h lt =
    let same : (i + 1) + n ≡ i + suc n = omega arith in
    subst (λ (k : ℕ). value_fault all k (declared_at ds n) ≡ None) same
    (value_none all ds (i + 1) n (least_none (value_fault all i d) (values_fault all (i + 1) ds) h).1 (omega arith))

module _ (code : Code) (ds : List Declared) (part : Part) (table : IsTableOf ds part code) (whole : TextWhole ds part) (values : values_fault ds 0 ds ≡ None) where
  Both : ℕ → Type 0
  Both n = Known code ds n × IsGlobal code ds n

  at : (n : ℕ) → n < length ds → StandsAt code n (declared_at ds n)
  at n lt = let same : 0 + n ≡ n = omega arith in subst (λ (k : ℕ). StandsAt code k (declared_at ds n)) same (body_at code ds 0 n table.bodies lt)

  one : (m : ℕ) → m < length ds → ((n : ℕ) → n < m → Known code ds n) → ((n : ℕ) → n < m → IsGlobal code ds n) → Known code ds m × IsGlobal code ds m
  unfolding behavior
  one m lt known globals =
      let d : Declared = declared_at ds m in
      let here = at m lt in
      let body = kinded code ds m (omega arith) known globals [] d.body (function_at code m).body.0 here.1 in (
        λ ks values_are count none.
            let inner : Kinds = zip d.params ks in
            let same = ap (λ (vs : List (NameId × Option Kind)). kind_of d.body (record { values = vs; declared = seen ds m })) (zip_some d.params ks) in
            let made = body inner (zip_values d.params ks values_are)
            (ap (λ (xs : List NameId). is_whole d.body (record { declared = ds; here = m; names = xs })) (zip_names d.params ks count) ∙ whole.bodies m lt)
            (ap (λ (f : Found). f.fault) (sym same) ∙ none) in (
              made.0,
              ap (λ (f : Found). f.kind) same ∙ made.1,
              subst (λ (xs : List NameId). IsOf code (zip xs ks) (function_at code m).body.0 made.0) (sym here.0) made.2,
            ),
        λ variable.
            let f : Found = kind_of d.body (scope_of [] ds m) in
            let same : 0 + m ≡ m = omega arith in
            let told : value_fault ds m d ≡ None = subst (λ (k : ℕ). value_fault ds k d ≡ None) same (value_none ds ds 0 m values lt) in
            let none : (judged d.body.at (value_row f.kind) f.fault).fault ≡ None =
            ap (λ (b : Bool). if b then (judged d.body.at (value_row f.kind) f.fault).fault else None) (sym variable) ∙ told in
            let made = body [] tt (ap (λ (xs : List NameId). is_whole d.body (record { declared = ds; here = m; names = xs })) (sym (whole.variables m lt variable)) ∙ whole.bodies m lt)
            (parts_fault d.body.at (value_row f.kind) f.fault none) in
            let said : Speaks (value_row f.kind) = subst (λ (o : Option Kind). Speaks (value_row o)) (sym made.1) (given_speaks (is_number made.0) made.0) in
            let row = row_kind d.body.at (value_row f.kind) f.fault none said in
            let number = given_is (is_number made.0) made.0 row.0 (ap value_row (sym made.1) ∙ row.1) in
            subst (IsOf code [] (function_at code m).body.0) (number_is made.0 number.0) made.2,
      )

  all_known : (m : ℕ) → m ≤ length ds → (n : ℕ) → n < m → Known code ds n × IsGlobal code ds n
  all_known zero le n lt = absurd (omega arith)
  all_known (suc m) le n lt = by (all_known m (omega arith)) (cases_lt n m)
    where
      by : ((n : ℕ) → n < m → Known code ds n × IsGlobal code ds n) → ((n < m) ⊎ (m ≤ n)) → Known code ds n × IsGlobal code ds n
      by before (inl l) = before n l
      by before (inr g) =
          let same : m ≡ n = omega arith in
          subst (λ (k : ℕ). Known code ds k × IsGlobal code ds k) same (one m (omega arith) (λ k h. (before k h).0) (λ k h. (before k h).1))

  -- what is played has a kind
  pub play_is : (play_kind ds (Some part)).fault ≡ None
      → (k : Kind) × ((play_kind ds (Some part)).kind ≡ Some k) × (is_playable k ≡ true) × IsOf code [] code.play.0 k
  play_is none =
      let f : Found = kind_of part (scope_of [] ds (length ds)) in
      let made = kinded code ds (length ds) (omega arith) (λ n h. (all_known (length ds) (omega arith) n h).0) (λ n h. (all_known (length ds) (omega arith) n h).1)
      [] part code.play.0 table.play [] tt whole.play (parts_fault part.at (play_row f.kind) f.fault none) in
      let said : Speaks (play_row f.kind) = subst (λ (o : Option Kind). Speaks (play_row o)) (sym made.1) (given_speaks (is_playable made.0) made.0) in
      let row = row_kind part.at (play_row f.kind) f.fault none said in
      let playable = given_is (is_playable made.0) made.0 row.0 (ap play_row (sym made.1) ∙ row.1) in
      (made.0, row.2 ∙ ap (λ (k : Kind). Some k) (sym playable.1), playable.0, made.2)

-- ---- channels

pub bounded : (code : Code) (values : Kinds) (e : ℕ) (k : Kind) → IsOf code values e k → (n : ℕ) → k ≡ Channels n → (1 ≤ n) × (n ≤ 8)
bounded code values e k (kinds.number _ _ v is) n same = cc
bounded code values e k (kinds.local _ _ x _ is found value) n same = let other : is_value (Channels n) ≡ true = ap is_value (sym same) ∙ value in cc
bounded code values e k (kinds.global _ _ g is one) n same = cc
bounded code values e k (kinds.call _ _ f es ks _ is args are body untested) n same = bounded code (zip (function_at code f.0).params ks) (function_at code f.0).body.0 k body n same
bounded code values e k (kinds.block _ _ bs v inner _ is binds body untested) n same = bounded code inner v.0 k body n same
bounded code values e k (kinds.numbers _ _ op a b is one two) n same = cc
bounded code values e k (kinds.sound_first _ _ op a b j is one two value) n same = cc
bounded code values e k (kinds.sound_second _ _ op a b is one two) n same = cc
bounded code values e k (kinds.quotient _ _ a v is one) n same = cc
bounded code values e k (kinds.negated _ _ a _ is one value) n same = let other : is_value (Channels n) ≡ true = ap is_value (sym same) ∙ value in cc
bounded code values e k (kinds.compared _ _ r a b is one two) n same = cc
bounded code values e k (kinds.both _ _ a b is one two) n same = cc
bounded code values e k (kinds.either _ _ a b is one two) n same = cc
bounded code values e k (kinds.denied _ _ a is one) n same = cc
bounded code values e k (kinds.chosen _ _ c a b _ is test one two untested) n same = bounded code values a.0 k one n same
bounded code values e k (kinds.leaf _ _ w es is each) n same = cc
bounded code values e k (kinds.effect _ _ w a es is one each) n same = cc
bounded code values e k (kinds.cue _ _ a is one) n same = cc
bounded code values e k (kinds.mix _ _ o es is each) n same = cc
bounded code values e k (kinds.repeat _ _ o x m a is one) n same = cc
bounded code values e k (kinds.changed _ _ t m a is one two) n same = cc
bounded code values e k (kinds.warped _ _ ps a is one) n same = cc
bounded code values e k (kinds.rated _ _ w r a is one) n same = cc
bounded code values e k (kinds.vector _ _ es is some few each) n same = let count : length es ≡ n = cc in (omega (arith, count, some), omega (arith, count, few))
