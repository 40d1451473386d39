-- One evaluation after another, and leaves, names, operands and operations.
use Rattle.std.proofs.Common.{◌≡◌, ◌<◌, List, [], ◌∷◌, ◌++◌, length, Option, None, Some, refl, sym, ap, subst, ◌∙◌, ℤ, pos}
use Rattle.std.specs.Prelude.{unwrap_or}
use Rattle.std.specs.Option.{option_map}
use Rattle.ny_num.specs.Numbers.{sat_sample}
use Rattle.ny_num.specs.declared.rate.Rate.{Rate}
use Rattle.ny_num.specs.Sound as sounds
use Rattle.ny_num.specs.Sound.{timing_of, sound_of, silence}
use Rattle.ny_num.specs.Pointwise.{combined, each_value}
use Rattle.ny_num.specs.Resampling.{resampled}
use Rattle.ny_kernels.specs.Operations.{operation}
use Rattle.ny_kernels.specs.declared.operation.Op.{Op}
use Rattle.ny_kernels.specs.declared.operation.Op.TheVariants.{Sub}
use Rattle.ny_units.specs.Playing.{leaf_value}
use Rattle.ny_warp.specs.declared.env.Env.{Env}
use Rattle.ny_scope.specs.Scopes.{last_of}
use Rattle.ny_resolve.specs.declared.term.NameId.{NameId}
use Rattle.ny_resolve.specs.Keys.{same_name}
use Rattle.ny_check.specs.declared.node.ExprId.{ExprId}
use Rattle.ny_check.specs.declared.node.Generator.{Generator}
use Rattle.ny_check.specs.declared.node.Effect.{Effect}
use Rattle.ny_check.specs.declared.value.Scalar.{Scalar}
use Rattle.ny_check.specs.declared.value.Scalar.TheVariants as scalar
use Rattle.ny_check.specs.declared.value.Value.{Value}
use Rattle.ny_check.specs.declared.value.Value.TheVariants.{Number, Sound as SoundOf}
use Rattle.ny_check.specs.Code.{Code}
use Rattle.ny_check.specs.Values.{scalars_of, scalar_of}
use Rattle.ny_check.specs.Families.{pair_timing, leaf_time, leaf_sound, effect_sound}
use Rattle.ny_check.specs.Meaning.{Bound, meaning, value_by, value_of, combined_values, negated_value, sound_in as sound_named}
use Rattle.ny_heap.specs.declared.make.Make.TheVariants.{Leaf as MakesLeaf, Pair}
use Rattle.ny_heap.specs.declared.sound.Sound.{Sound}
use Rattle.ny_heap.specs.Heap.{Made, HeapState}
use Rattle.ny_heap.specs.Means.{Parts, Whole, Means, Extends}
use Rattle.ny_heap.specs.Reach.{HeapLaws}
use Rattle.ny_heap.specs.Steps.{both_timing}
use Rattle.ny_hands.specs.Made.{made_of, made_with, made_of_both}
use Rattle.ny_trace.proofs.FamilyLemmas.{leaf_is, number_first, number_second, same_timing, negated_is}
use Rattle.ny_hands.proofs.HeardLemmas.{hears_one, hears_two}
use Rattle.ny_hands.proofs.RateLemmas.{timing_rate}
use Rattle.ny_hands.specs.Calls.{MakesUnit, Brings}
use Rattle.ny_hands.specs.Frames.{Names, sound_at, value_in, bound_in, part_is}
use Rattle.ny_hands.specs.declared.branch.Branch.{Branch}
use Rattle.ny_trace.specs.Evaluates.{Trace, NameTurn, IsNoNumber, ValueTurn, JoinTurn, OperationTurn, LeafTurn, EffectTurn, SignTurn}
use Rattle.ny_hands.specs.Hands.{Hand, Item, item, sounds_in, Are, Comes, AreNamed}
use Rattle.ny_trace.specs.Laws.{IsLawful}
use Rattle.ny_hands.proofs.HandLemmas.{hand_more}
use Rattle.ny_hands.proofs.ComingLemmas.{sounds_append, are_append, are_later, comes_none, comes_swap, comes_as, comes_shared, comes_silent, comes_made, comes_brought, timing_begin, extends_on}
use Rattle.ny_hands.proofs.NameLemmas.{scalars_bound, bound_stable, last_bound, named_found, named_kept}

-- ---- what comes later rests on what came before

-- the same sounds, the ones told from the heap between and the others from the first one
abbrev pub Agree : Whole → Whole → List Item → List Item → Type 0
Agree w l [] [] = Unit {0}
Agree w l [] (q ∷ qs) = ⊥
Agree w l (p ∷ ps) [] = ⊥
Agree w l (p ∷ ps) (q ∷ qs) = (p.sound ≡ q.sound) × (p.is l ≡ q.is w) × Agree w l ps qs

agreed : (w l later : Whole) (ps qs : List Item) → Agree w l ps qs → Are l later ps → Are w later qs
agreed w l later [] [] same are = tt
agreed w l later [] (q ∷ qs) same are = absurd same
agreed w l later (p ∷ ps) [] same are = absurd same
agreed w l later (p ∷ ps) (q ∷ qs) same are = (ap (sound_at later) (sym same.0) ∙ are.0 ∙ same.1, agreed w l later ps qs same.2 are.1)

pub comes_then : {B : Type 0} (part : Parts B) (old mid new : HeapState B) (ps told qs : List Item) → sounds_in told ≡ sounds_in qs → ((w l : Whole) → Means part mid l → Extends old w l → Are w l ps → Agree w l told qs) → Comes part old mid ps → Comes part mid new told → Comes part old new (ps ++ qs)
comes_then {B} part old mid new ps told qs same agree first second = record {
  hand = subst (λ ss. Hand old new ss) (ap (λ ss. sounds_in ps ++ ss) same ∙ sym (sounds_append ps qs)) (hand_more old mid new (sounds_in ps) (sounds_in told) first.hand second.hand);
  means = λ w means.
      let p = first.means w means in
      let q = second.means p.0.later p.0.means in (
        record { later = q.0.later; means = q.0.means; extends = extends_on old mid first.hand.kept w p.0.later q.0.later p.0.extends q.0.extends; owes = λ v x at. let y = first.hand.kept v x at in q.0.owes v y.0 y.1 ∙ p.0.owes v x at },
        are_append w q.0.later ps qs (are_later mid w p.0.later q.0.later ps first.hand.begin q.0.extends p.1) (agreed w p.0.later q.0.later told qs (agree w p.0.later p.0.means p.0.extends p.1) q.1),
      );
}

-- the same for one sound
pub comes_one : {B : Type 0} (part : Parts B) (old mid new : HeapState B) (ps : List Item) (s : Sound) (f g : Whole → sounds.Sound) → ((w l : Whole) → Means part mid l → Extends old w l → Are w l ps → f l ≡ g w) → Comes part old mid ps → Comes part mid new (item s f ∷ []) → Comes part old new (ps ++ item s g ∷ [])
comes_one part old mid new ps s f g same first second = comes_then part old mid new ps (item s f ∷ []) (item s g ∷ []) refl (λ w l means extends are. (refl, same w l means extends are, tt)) first second

-- ---- leaves

pub leaf_comes : (part : Parts Branch) (old new : HeapState Branch) (g : Generator) (env : Env) (numbers : List ℤ) (s : Sound) → HeapLaws old → LeafTurn g env numbers old new s → Comes part old new (item s (λ w. leaf_sound g env numbers) ∷ [])
leaf_comes part old new g env numbers s laws step =
    comes_made part old old new (Made (MakesLeaf step.played)) (leaf_time g env numbers) [] [] [] [] [] s (λ w. leaf_sound g env numbers) laws refl (comes_none part old laws) step.made
    (λ w l means extends begin are. leaf_is (leaf_time g env numbers) (leaf_value step.played) ∙ step.is)

-- ---- names

pub name_comes : (part : Parts Branch) (old new : HeapState Branch) (r : Rate) (x : NameId) (names : Names) (s : Sound) → HeapLaws old → AreNamed old names → NameTurn r (last_of (same_name x) names) old new s → Comes part old new (item s (λ w. sound_named r (unwrap_or (last_of (same_name x) (bound_in w names)) (SoundOf (silence r)))) ∷ [])
name_comes part old new r x names s laws named step = by_found (last_of (same_name x) names) refl step
  where
    found_in : (w : Whole) (o : Option (Value Sound)) → last_of (same_name x) names ≡ o → sound_named r (unwrap_or (last_of (same_name x) (bound_in w names)) (SoundOf (silence r))) ≡ sound_named r (unwrap_or (option_map (value_in w) o) (SoundOf (silence r)))
    found_in w o e = ap (λ (o : Option (Value sounds.Sound)). sound_named r (unwrap_or o (SoundOf (silence r)))) (last_bound w (same_name x) names ∙ ap (option_map (value_in w)) e)

    by_found : (o : Option (Value Sound)) → last_of (same_name x) names ≡ o → NameTurn r o old new s → Comes part old new (item s (λ w. sound_named r (unwrap_or (last_of (same_name x) (bound_in w names)) (SoundOf (silence r)))) ∷ [])
    by_found None e step = comes_as part old new s (λ w. silence r) (λ w. sound_named r (unwrap_or (last_of (same_name x) (bound_in w names)) (SoundOf (silence r)))) [] (λ w. sym (found_in w None e)) (comes_silent part old new r s laws step)
    by_found (Some (Number v)) e step = comes_as part old new s (λ w. silence r) (λ w. sound_named r (unwrap_or (last_of (same_name x) (bound_in w names)) (SoundOf (silence r)))) [] (λ w. sym (found_in w (Some (Number v)) e)) (comes_silent part old new r s laws step)
    by_found (Some (SoundOf a)) e step =
        comes_as part old new s (λ w. sound_at w a) (λ w. sound_named r (unwrap_or (last_of (same_name x) (bound_in w names)) (SoundOf (silence r)))) [] (λ w. sym (found_in w (Some (SoundOf a)) e))
        (comes_shared part old new a s laws (named_found old (same_name x) names a named e) step)

-- ---- operands, arguments and binds

-- what is in hand of a value: nothing of a number
abbrev pub value_items : Value Sound → (Whole → sounds.Sound) → List Item
value_items (Number v) m = []
value_items (SoundOf s) m = item s m ∷ []

-- the value, where its sound is this one
abbrev pub meant : Value Sound → sounds.Sound → Value sounds.Sound
meant (Number v) m = Number v
meant (SoundOf s) m = SoundOf m

pub value_in_is : (w l : Whole) (v : Value Sound) (m : Whole → sounds.Sound) → Are w l (value_items v m) → value_in l v ≡ meant v (m w)
value_in_is w l (Number v) m are = refl
value_in_is w l (SoundOf s) m are = ap (λ q. SoundOf q) are.0

no_number : (sc : Scalar) (m : sounds.Sound) → IsNoNumber sc → value_by sc m ≡ SoundOf m
no_number (scalar.Number v) m is = absurd is
no_number (scalar.Test b) m is = refl
no_number scalar.Sound m is = refl

module _ (code : Code) (D : Trace) where
  -- the value of the meaning, where names are the same numbers
  pub value_meant : (env : Env) (names : Names) (e : ExprId) (old new : HeapState Branch) (v : Value Sound) → ValueTurn D code env names e old new v → (bound : Bound) → scalars_of bound ≡ scalars_of names → value_of code (meaning code) env bound e ≡ meant v (meaning code e.0 env bound)
  value_meant env names e old new (Number k) step bound same = ap (λ sc. value_by sc (meaning code e.0 env bound)) (ap (scalar_of code e.0) same ∙ step.0)
  value_meant env names e old new (SoundOf s) step bound same = no_number (scalar_of code e.0 (scalars_of bound)) (meaning code e.0 env bound) (subst (λ q. IsNoNumber (scalar_of code e.0 q)) (sym same) step.0)

  module _ (law : IsLawful code D) where
    pub value_comes : (env : Env) (names : Names) (e : ExprId) (old new : HeapState Branch) (v : Value Sound) → e.0 < length code.nodes → HeapLaws old → AreNamed old names → ValueTurn D code env names e old new v → Comes (part_is code) old new (value_items v (λ w. meaning code e.0 env (bound_in w names)))
    value_comes env names e old new (Number k) inside laws named step = subst (λ (h : HeapState Branch). Comes (part_is code) old h []) step.1 (comes_none (part_is code) old laws)
    value_comes env names e old new (SoundOf s) inside laws named step = law e.0 env names old new s step.1 inside laws named

-- ---- operations

combined_is : (op : Op) (m n : sounds.Sound) → made_of_both (Pair op None None) (both_timing op (timing_of m) (timing_of n)) m n ≡ combined (both_timing op) (operation op) m n
unfolding combined
combined_is op m n = refl

module _ {B : Type 0} (part : Parts B) (old : HeapState B) (laws : HeapLaws old) where
  one_comes : (mid new : HeapState B) (op : Op) (j k : Option ℤ) (r : Rate) (a s : Sound) (f : Whole → sounds.Sound) (g : sounds.Sound → sounds.Sound) → ((m : sounds.Sound) → made_with (Pair op j k) m ≡ g m) → Comes part old mid (item a f ∷ []) → (brought : Sound) (end : HeapState B) → Brings mid end r a brought → MakesUnit end new (Made (Pair op j k)) brought.timing (brought ∷ []) [] (brought ∷ []) s → Comes part old new (item s (λ w. g (resampled r (f w))) ∷ [])
  one_comes mid new op j k r a s f g is c brought end brings made =
      comes_made part old end new (Made (Pair op j k)) brought.timing (brought ∷ []) [] (brought ∷ []) (item brought (λ w. resampled r (f w)) ∷ []) [] s (λ w. g (resampled r (f w))) laws refl (comes_brought part old mid end r a brought f [] laws c brings) made
      (λ w l means extends begin are.
      let when : brought.timing ≡ timing_of (resampled r (f w)) = sym (timing_begin part end l brought means begin.0) ∙ ap timing_of are.0 in
      hears_one (Pair op j k) brought.timing brought (resampled r (f w)) part l when are.0
      ∙ ap (λ t. made_of (Pair op j k) t (resampled r (f w))) when
      ∙ is (resampled r (f w)))

  both_comes : (mid new : HeapState B) (op : Op) (r : Rate) (a b s : Sound) (f g : Whole → sounds.Sound) → Comes part old mid (item a f ∷ item b g ∷ []) → (first second : Sound) (one two : HeapState B) → Brings mid one r a first → Brings one two r b second → MakesUnit two new (Made (Pair op None None)) (both_timing op first.timing second.timing) (first ∷ second ∷ []) [] (first ∷ second ∷ []) s → Comes part old new (item s (λ w. combined (both_timing op) (operation op) (resampled r (f w)) (resampled r (g w))) ∷ [])
  both_comes mid new op r a b s f g c first second one two brings_first brings_second made =
      let c_one = comes_swap part old one (item first (λ w. resampled r (f w))) (item b g) [] (comes_brought part old mid one r a first f (item b g ∷ []) laws c brings_first) in
      let c_two = comes_swap part old two (item second (λ w. resampled r (g w))) (item first (λ w. resampled r (f w))) [] (comes_brought part old one two r b second g (item first (λ w. resampled r (f w)) ∷ []) laws c_one brings_second) in
      comes_made part old two new (Made (Pair op None None)) (both_timing op first.timing second.timing) (first ∷ second ∷ []) [] (first ∷ second ∷ []) (item first (λ w. resampled r (f w)) ∷ item second (λ w. resampled r (g w)) ∷ []) [] s (λ w. combined (both_timing op) (operation op) (resampled r (f w)) (resampled r (g w))) laws refl c_two made
      (λ w l means extends begin are.
      let one_when : first.timing ≡ timing_of (resampled r (f w)) = sym (timing_begin part two l first means begin.0) ∙ ap timing_of are.0 in
      let two_when : second.timing ≡ timing_of (resampled r (g w)) = sym (timing_begin part two l second means begin.1.0) ∙ ap timing_of are.1.0 in
      hears_two (Pair op None None) (both_timing op first.timing second.timing) first second (resampled r (f w)) (resampled r (g w)) part l one_when are.0 are.1.0
      ∙ (λ i. made_of_both (Pair op None None) (both_timing op (one_when i) (two_when i)) (resampled r (f w)) (resampled r (g w)))
      ∙ combined_is op (resampled r (f w)) (resampled r (g w)))

pub join_comes : (part : Parts Branch) (old mid new : HeapState Branch) (op : Op) (r : Rate) (x y : Value Sound) (s : Sound) (f g : Whole → sounds.Sound) → HeapLaws old → Comes part old mid (value_items x f ++ value_items y g) → JoinTurn op r x y mid new s → Comes part old new (item s (λ w. combined_values (both_timing op) (operation op) r (meant x (f w)) (meant y (g w))) ∷ [])
join_comes part old mid new op r (Number j) (Number k) s f g laws c step =
    comes_one part old mid new [] s (λ w. silence r) (λ w. silence r) (λ w l means extends are. refl) c (comes_silent part mid new r s c.hand.laws step)
join_comes part old mid new op r (Number j) (SoundOf b) s f g laws c step =
    one_comes part old laws mid new op (Some (sat_sample j)) None r b s g (each_value (operation op (sat_sample j))) (number_first op (sat_sample j)) c step.brought step.mid step.brings step.made
join_comes part old mid new op r (SoundOf a) (Number k) s f g laws c step =
    one_comes part old laws mid new op None (Some (sat_sample k)) r a s f (each_value (λ x. operation op x (sat_sample k))) (number_second op (sat_sample k)) c step.brought step.mid step.brings step.made
join_comes part old mid new op r (SoundOf a) (SoundOf b) s f g laws c step =
    both_comes part old laws mid new op r a b s f g c step.first step.second step.mid step.end step.brings_first step.brings_second step.made

values_agree : {B : Type 0} (old : HeapState B) (names : Names) → AreNamed old names → (w l : Whole) → Extends old w l → (v : Value Sound) (m : Bound → sounds.Sound) → Agree w l (value_items v (λ w. m (bound_in w names))) (value_items v (λ w. m (bound_in w names)))
values_agree old names named w l extends (Number k) m = tt
values_agree old names named w l extends (SoundOf s) m = (refl, ap m (bound_stable old names named w l extends), tt)

module _ (code : Code) (D : Trace) (law : IsLawful code D) where
  pub operation_comes : (op : Op) (a b : ExprId) (env : Env) (names : Names) (old new : HeapState Branch) (s : Sound) → a.0 < length code.nodes → b.0 < length code.nodes → HeapLaws old → AreNamed old names → OperationTurn D code op a b env names old new s → Comes (part_is code) old new (item s (λ w. combined_values (pair_timing op) (operation op) env.sound_rate (value_of code (meaning code) env (bound_in w names) a) (value_of code (meaning code) env (bound_in w names) b)) ∷ [])
  operation_comes op a b env names old new s at_a at_b laws named step =
      let f : Whole → sounds.Sound = λ w. meaning code a.0 env (bound_in w names) in
      let g : Whole → sounds.Sound = λ w. meaning code b.0 env (bound_in w names) in
      let first = value_comes code D law env names a old step.mid step.left at_a laws named step.first in
      let second = value_comes code D law env names b step.mid step.end step.right at_b first.hand.laws (named_kept old step.mid first.hand.kept names named) step.second in
      let both = comes_then (part_is code) old step.mid step.end (value_items step.left f) (value_items step.right g) (value_items step.right g) refl (λ w l means extends are. values_agree old names named w l extends step.right (λ bound. meaning code b.0 env bound)) first second in
      comes_as (part_is code) old new s (λ w. combined_values (both_timing op) (operation op) env.sound_rate (meant step.left (f w)) (meant step.right (g w))) (λ w. combined_values (pair_timing op) (operation op) env.sound_rate (value_of code (meaning code) env (bound_in w names) a) (value_of code (meaning code) env (bound_in w names) b)) []
      (λ w i. combined_values (same_timing op i) (operation op) env.sound_rate (sym (value_meant code D env names a old step.mid step.left step.first (bound_in w names) (scalars_bound w names)) i) (sym (value_meant code D env names b step.mid step.end step.right step.second (bound_in w names) (scalars_bound w names)) i))
      (join_comes (part_is code) old step.end new op env.sound_rate step.left step.right s f g laws both step.joined)

  -- with the other sign
  pub sign_comes : (a : ExprId) (env : Env) (names : Names) (old new : HeapState Branch) (s : Sound) → a.0 < length code.nodes → HeapLaws old → AreNamed old names → SignTurn D code a env names old new s → Comes (part_is code) old new (item s (λ w. negated_value env.sound_rate (value_of code (meaning code) env (bound_in w names) a)) ∷ [])
  sign_comes a env names old new s at_a laws named step =
      let f : Whole → sounds.Sound = λ w. meaning code a.0 env (bound_in w names) in
      let first = value_comes code D law env names a old step.mid step.value at_a laws named step.operand in
      comes_as (part_is code) old new s (λ w. combined_values (both_timing Sub) (operation Sub) env.sound_rate (Number (pos 0)) (meant step.value (f w))) (λ w. negated_value env.sound_rate (value_of code (meaning code) env (bound_in w names) a)) []
      (λ w. negated_is env.sound_rate (meant step.value (f w)) ∙ ap (negated_value env.sound_rate) (sym (value_meant code D env names a old step.mid step.value step.operand (bound_in w names) (scalars_bound w names))))
      (join_comes (part_is code) old step.mid new Sub env.sound_rate (Number (pos 0)) step.value s f f laws first step.joined)

  -- ---- effects

  pub effect_comes : (fx : Effect) (a : ExprId) (numbers : List ℤ) (env : Env) (names : Names) (old new : HeapState Branch) (s : Sound) → a.0 < length code.nodes → HeapLaws old → AreNamed old names → EffectTurn D fx a numbers env names old new s → Comes (part_is code) old new (item s (λ w. effect_sound fx numbers (meaning code a.0 env (bound_in w names))) ∷ [])
  effect_comes fx a numbers env names old new s at_a laws named step =
      let f : Whole → sounds.Sound = λ w. meaning code a.0 env (bound_in w names) in
      comes_made (part_is code) old step.mid new (Made step.unit) step.part.timing (step.part ∷ []) [] (step.part ∷ []) (item step.part f ∷ []) [] s (λ w. effect_sound fx numbers (f w)) laws refl (law a.0 env names old step.mid step.part step.evaluates at_a laws named) step.made
      (λ w l means extends begin are.
      let when : step.part.timing ≡ timing_of (f w) = sym (timing_begin (part_is code) step.mid l step.part means begin.0) ∙ ap timing_of are.0 in
      hears_one step.unit step.part.timing step.part (f w) (part_is code) l when are.0
      ∙ ap (λ t. made_of step.unit t (f w)) when
      ∙ step.is (f w) (sym (timing_rate step.part.timing (f w) when)))
