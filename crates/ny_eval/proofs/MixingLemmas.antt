-- Sounds in hand that are given up, brought to a rate, and mixed.
use Rattle.std.proofs.Common.{◌≡◌, ℕ, zero, suc, ◌+◌, ◌-◌, ◌<◌, ◌≤◌, ◌==◌, min, max, Bool, true, false, List, [], ◌∷◌, ◌++◌, map, length, get_or, All, None, refl, sym, ap, subst, ◌∙◌, arith, pos}
use Rattle.std.specs.Option.{option_map_or}
use Rattle.std.proofs.lemmas.Bool.{eqb-true}
use Rattle.std.proofs.lemmas.List.{append_assoc, append-nil}
use Rattle.ny_num.specs.Grid.{index_at, tick_at}
use Rattle.ny_num.specs.Mix.{least_start, greatest_end, mix_timing}
use Rattle.ny_num.specs.Sound.{IsTiming, spanning}
use Rattle.ny_num.specs.declared.rate.Rate.{Rate}
use Rattle.ny_num.specs.declared.timing.Timing.{Timing}
use Rattle.ny_timing.specs.Timings.{IsTimingAt}
use Rattle.ny_units.specs.declared.leaves.Leaf.TheVariants.{Const}
use Rattle.ny_heap.specs.declared.make.Make.TheVariants.{Leaf}
use Rattle.ny_heap.specs.declared.sound.Sound.{Sound}
use Rattle.ny_heap.specs.Heap.{Made, Mix, HeapState, list_of}
use Rattle.ny_heap.specs.Means.{Means, with_samples, whole_list}
use Rattle.ny_heap.specs.Reach.{HeapLaws}
use Rattle.ny_heap.specs.Steps.{AreHeld, IsMixOf, Makes, MakesMeaning, first_memory, made_inputs, sounds_of}
use Rattle.ny_hands.specs.Calls.{MakesUnit, Brings, BringsEach, IsSilent}
use Rattle.ny_hands.specs.Hands.{AllBegin, Hand, InHand, GivesUp}
use Rattle.ny_hands.proofs.HandLemmas.{marks_append, begin_append, begin_first, begin_last, hand_turned}
use Rattle.ny_hands.proofs.HeldLemmas.{in_hand_first}
use Rattle.ny_hands.proofs.SpendLemmas.{hand_brought}
use Rattle.ny_eval.specs.Mixing.{ComeFor}

-- ---- all of some

pub all_none : {A : Type 0} (P : A → Type 0) → All P []
all_none P k d within = absurd (omega (arith, within))

pub all_more : {A : Type 0} (P : A → Type 0) (a : A) (bs : List A) → P a → All P bs → All P (a ∷ bs)
all_more {A} P a bs p ps k d within = at k within
  where
    at : (k : ℕ) → k < length (a ∷ bs) → P (get_or (a ∷ bs) k d)
    at zero within = p
    at (suc k) within = ps k d (omega (arith, within))

all_first : {A : Type 0} (P : A → Type 0) (a : A) (bs : List A) → All P (a ∷ bs) → P a
all_first P a bs ps = ps 0 a (omega arith)

all_rest : {A : Type 0} (P : A → Type 0) (a : A) (bs : List A) → All P (a ∷ bs) → All P bs
all_rest P a bs ps k d within = ps (suc k) d (omega (arith, within))

all_behind : {A : Type 0} (P : A → Type 0) (bs : List A) (a : A) → All P bs → P a → All P (bs ++ a ∷ [])
all_behind P [] a ps p = all_more P a [] p (all_none P)
all_behind P (b ∷ bs) a ps p = all_more P b (bs ++ a ∷ []) (all_first P b bs ps) (all_behind P bs a (all_rest P b bs ps) p)

pub all_so : {A : Type 0} (P Q : A → Type 0) (bs : List A) → ((a : A) → P a → Q a) → All P bs → All Q bs
all_so P Q bs so ps k d within = so _ (ps k d within)

-- ---- a test of length

pub none_where : (ss xs : List Sound) (b : Bool) → xs ≡ ss → b ≡ (length xs == 0) → b ≡ true → ss ≡ []
none_where ss xs b list is holds = by_length ss (eqb-true (length ss) 0 (ap (λ ys. length ys == 0) (sym list) ∙ (sym is ∙ holds)))
  where
    by_length : (ys : List Sound) → length ys ≡ 0 → ys ≡ []
    by_length [] e = refl
    by_length (y ∷ ys) e = absurd (omega (arith, e))

pub some_where : (ss xs : List Sound) (b : Bool) → xs ≡ ss → b ≡ (length xs == 0) → b ≡ false → 0 < length ss
some_where ss xs b list is fails = by_length ss (ap (λ ys. length ys == 0) (sym list) ∙ (sym is ∙ fails))
  where
    by_length : (ys : List Sound) → (length ys == 0) ≡ false → 0 < length ys
    by_length [] e = absurd (never e)
      where
        never : true ≡ false → ⊥
        never q = cc
    by_length (y ∷ ys) e = omega arith

-- ---- sounds that are given up

module _ {B : Type 0} (old new : HeapState B) (ss rest : List Sound) (s : Sound) (list : ss ≡ s ∷ rest) where
  pub first_in_hand : InHand old ss → InHand old (s ∷ [])
  first_in_hand is = in_hand_first old (s ∷ []) rest (subst (λ xs. InHand old xs) list is)

  pub rest_in_hand : InHand old ss → GivesUp old new (s ∷ []) → InHand new rest
  rest_in_hand is gives = record {
    before = is.before;
    others = is.others;
    laws = is.laws;
    hand = gives is.before (rest ++ is.others) is.laws (subst (λ xs. Hand is.before old (xs ++ is.others)) list is.hand);
  }

  pub given_up_then : (end : HeapState B) → GivesUp old new (s ∷ []) → GivesUp new end rest → GivesUp old end ss
  given_up_then end first second before others laws hand = second before others laws (first before (rest ++ others) laws (subst (λ xs. Hand before old (xs ++ others)) list hand))

pub none_given_up : {B : Type 0} (h : HeapState B) (ss : List Sound) → ss ≡ [] → GivesUp h h ss
none_given_up h ss none before others laws hand = subst (λ xs. Hand before h (xs ++ others)) none hand

-- ---- sounds that come for others

pub come_in_hand : {B : Type 0} (old new : HeapState B) (ss ts : List Sound) → InHand old ss → ComeFor old new ss ts → InHand new ts
come_in_hand old new ss ts is come = record { before = is.before; others = is.others; laws = is.laws; hand = come is.before is.others is.laws is.hand }

pub come_given_up : {B : Type 0} (old mid new : HeapState B) (ss ts : List Sound) → ComeFor old mid ss ts → GivesUp mid new ts → GivesUp old new ss
come_given_up old mid new ss ts come gives before others laws hand = gives before others laws (come before others laws hand)

-- what is left of two lists once the first was given up
pub last_in_hand : {B : Type 0} (old new : HeapState B) (ss ts : List Sound) → InHand old (ss ++ ts) → GivesUp old new ss → InHand new ts
last_in_hand old new ss ts is gives = record {
  before = is.before;
  others = is.others;
  laws = is.laws;
  hand = gives is.before (ts ++ is.others) is.laws (subst (λ xs. Hand is.before old xs) (append_assoc ss ts is.others) is.hand);
}

pub both_given_up : {B : Type 0} (old mid new : HeapState B) (ss ts : List Sound) → GivesUp old mid ss → GivesUp mid new ts → GivesUp old new (ss ++ ts)
both_given_up old mid new ss ts first second before others laws hand =
    second before others laws (first before (ts ++ others) laws (subst (λ xs. Hand before old xs) (append_assoc ss ts others) hand))

-- those that are brought to a rate come for those that they were
pub each_come : {B : Type 0} (old new : HeapState B) (r : Rate) (ss ts : List Sound) → BringsEach old new r ss ts → ComeFor old new ss ts
each_come {B} old new r [] [] step before others laws hand = subst (λ (h : HeapState B). Hand before h others) step hand
each_come old new r [] (t ∷ ts) step before others laws hand = absurd step
each_come old new r (s ∷ ss) [] step before others laws hand = absurd step
each_come old new r (s ∷ ss) (t ∷ ts) step before others laws hand =
    let first = hand_brought before old step.0 r s t (ss ++ others) laws hand step.1 in
    let turned = subst (λ xs. Hand before step.0 xs) (append_assoc ss others (t ∷ [])) (hand_turned before step.0 (t ∷ []) (ss ++ others) first) in
    let rest = each_come step.0 new r ss ts step.2 before (others ++ t ∷ []) laws turned in
    hand_turned before new (ts ++ others) (t ∷ []) (subst (λ xs. Hand before new xs) (sym (append_assoc ts others (t ∷ []))) rest)

-- a sound that stands behind some of the others
pub hand_behind : {B : Type 0} (old new : HeapState B) (s : Sound) (xs others : List Sound) → Hand old new (s ∷ (xs ++ others)) → Hand old new ((xs ++ s ∷ []) ++ others)
hand_behind old new s xs others p = record {
  laws = p.laws;
  counts = p.counts;
  kept = p.kept;
  marks = λ v j. omega (arith, p.marks v j, marks_append xs others v j, marks_append (xs ++ s ∷ []) others v j, marks_append xs (s ∷ []) v j);
  begin = begin_append new (xs ++ s ∷ []) others (begin_append new xs (s ∷ []) (begin_first new xs others p.begin.1) (p.begin.0, tt)) (begin_last new xs others p.begin.1);
}

-- of these parts some are left, and those before them were brought to the rate
pub record BroughtSoFar {B : Type 0} (old new : HeapState B) (r : Rate) (parts left done : List Sound) : Type 0 where
  pub come : ComeFor old new parts (left ++ done)
  pub further : (next : HeapState B) (ts : List Sound) → BringsEach new next r left ts → BringsEach old next r parts (done ++ ts)
  pub rates : All (λ s. s.timing.rate ≡ r) done

pub brought_none : {B : Type 0} (h : HeapState B) (r : Rate) (parts done : List Sound) → done ≡ [] → BroughtSoFar h h r parts parts done
brought_none h r parts done none = record {
  come = λ before others laws hand. subst (λ xs. Hand before h (xs ++ others)) (sym (append-nil parts) ∙ ap (λ xs. parts ++ xs) (sym none)) hand;
  further = λ next ts step. subst (λ xs. BringsEach h next r parts (xs ++ ts)) (sym none) step;
  rates = subst (λ xs. All (λ s. s.timing.rate ≡ r) xs) (sym none) (all_none (λ s. s.timing.rate ≡ r));
}

module _ {B : Type 0} (old mid : HeapState B) (r : Rate) (parts left done rest : List Sound) (a : Sound) (p : BroughtSoFar old mid r parts left done) (list : left ≡ a ∷ rest) where
  next_hand : (before : HeapState B) (others : List Sound) → HeapLaws before → Hand before old (parts ++ others) → Hand before mid (a ∷ ((rest ++ done) ++ others))
  next_hand before others laws hand = subst (λ xs. Hand before mid ((xs ++ done) ++ others)) list (p.come before others laws hand)

  pub next_in_hand : InHand old parts → InHand mid (a ∷ [])
  next_in_hand is = record { before = is.before; others = (rest ++ done) ++ is.others; laws = is.laws; hand = next_hand is.before is.others is.laws is.hand }

  pub brought_refused : (new : HeapState B) → GivesUp mid new (a ∷ []) → ComeFor old new parts (rest ++ done)
  brought_refused new gives before others laws hand = gives before ((rest ++ done) ++ others) laws (next_hand before others laws hand)

  pub brought_more : (new : HeapState B) (s : Sound) (more : List Sound) → Brings mid new r a s → s.timing.rate ≡ r → more ≡ done ++ s ∷ [] → BroughtSoFar old new r parts rest more
  brought_more new s more step rate list_more = subst (λ ds. BroughtSoFar old new r parts rest ds) (sym list_more) (record {
    come = λ before others laws hand.
        subst (λ xs. Hand before new (xs ++ others)) (append_assoc rest done (s ∷ []))
        (hand_behind before new s (rest ++ done) others (hand_brought before mid new r a s ((rest ++ done) ++ others) laws (next_hand before others laws hand) step));
    further = λ next ts later.
        subst (λ xs. BringsEach old next r parts xs) (sym (append_assoc done (s ∷ []) ts))
        (p.further next (s ∷ ts) (subst (λ xs. BringsEach mid next r xs (s ∷ ts)) (sym list) (new, step, later)));
    rates = all_behind (λ s. s.timing.rate ≡ r) done s p.rates rate;
  })

pub brought_all : {B : Type 0} (old new : HeapState B) (r : Rate) (parts left done : List Sound) → BroughtSoFar old new r parts left done → left ≡ [] → BringsEach old new r parts done
brought_all old new r parts left done p none = subst (λ xs. BringsEach old new r parts xs) (append-nil done) (p.further new [] (subst (λ xs. BringsEach new new r xs []) (sym none) refl))

-- ---- when a mix is heard

abbrev times_in : List Sound → List Timing
times_in ss = map (λ (s : Sound). s.timing) ss

pub times_at : {B : Type 0} (h : HeapState B) (r : Rate) (ss : List Sound) → AllBegin h ss → All (λ s. s.timing.rate ≡ r) ss → All (IsTimingAt r) (times_in ss)
times_at h r [] begin rates = all_none (IsTimingAt r)
times_at h r (s ∷ ss) begin rates =
    all_more (IsTimingAt r) s.timing (times_in ss) (begin.0.bounds, all_first (λ (s : Sound). s.timing.rate ≡ r) s ss rates)
    (times_at h r ss begin.1 (all_rest (λ (s : Sound). s.timing.rate ≡ r) s ss rates))

pub least_most : (start : ℕ) (ts : List Timing) → least_start start ts ≤ start
least_most start [] = omega arith
least_most start (t ∷ ts) = omega (arith, least_most (min start t.start) ts)

pub greatest_least : (r : Rate) (end : ℕ) (ts : List Timing) → end ≤ greatest_end r end ts
greatest_least r end [] = omega arith
greatest_least r end (t ∷ ts) = omega (arith, greatest_least r (max end (max (t.start + t.len) (index_at t.stop r))) ts)

starts_within : (start : ℕ) (ss : List Sound) → All (λ s. least_start start (times_in ss) ≤ s.timing.start) ss
starts_within start [] = all_none (λ (s : Sound). start ≤ s.timing.start)
starts_within start (s ∷ ss) =
    all_more (λ (x : Sound). least_start (min start s.timing.start) (times_in ss) ≤ x.timing.start) s ss (omega (arith, least_most (min start s.timing.start) (times_in ss))) (starts_within (min start s.timing.start) ss)

ends_within : (r : Rate) (end : ℕ) (ss : List Sound) → All (λ s. s.timing.start + s.timing.len ≤ greatest_end r end (times_in ss)) ss
ends_within r end [] = all_none (λ (s : Sound). s.timing.start + s.timing.len ≤ end)
ends_within r end (s ∷ ss) =
    let next = max end (max (s.timing.start + s.timing.len) (index_at s.timing.stop r)) in
    all_more (λ (x : Sound). x.timing.start + x.timing.len ≤ greatest_end r next (times_in ss)) s ss (omega (arith, greatest_least r next (times_in ss))) (ends_within r next ss)

mix_made : (r : Rate) (ss : List Sound) → 0 < length ss → IsTiming (mix_timing r (times_in ss)) → All (λ s. s.timing.rate ≡ r) ss → IsMixOf ss (mix_timing r (times_in ss))
unfolding mix_timing spanning
mix_made r [] some bounds rates = absurd (omega (arith, some))
mix_made r (a ∷ ss) some bounds rates =
    let start = least_start a.timing.start (times_in ss) in
    let end = greatest_end r 0 (times_in (a ∷ ss)) in
    record {
      some = some;
      bounds = bounds;
      rates = rates;
      begins = all_more (λ (s : Sound). start ≤ s.timing.start) a ss (least_most a.timing.start (times_in ss)) (starts_within a.timing.start ss);
      ends = all_so (λ (s : Sound). s.timing.start + s.timing.len ≤ end) (λ (s : Sound). s.timing.start + s.timing.len ≤ start + (end - start)) (a ∷ ss) (λ s le. omega (arith, le)) (ends_within r 0 (a ∷ ss));
    }

pub mix_can_be : (r : Rate) (ss : List Sound) (ts : List Timing) (t : Timing) → ts ≡ times_in ss → t ≡ mix_timing r ts → 0 < length ss → IsTiming t → All (λ s. s.timing.rate ≡ r) ss → IsMixOf ss t
mix_can_be r ss ts t list when some bounds rates =
    let is : t ≡ mix_timing r (times_in ss) = when ∙ ap (mix_timing r) list in
    subst (λ u. IsMixOf ss u) (sym is) (mix_made r ss some (subst IsTiming is bounds) rates)

-- ---- the unit

-- no part waits
pub mix_held : {A B : Type 0} (h : HeapState B) (ss : List Sound) (f : A → B × List Sound) (ws : List A) → ws ≡ [] → AreHeld h ss → AreHeld h (ss ++ sounds_of (map f ws))
mix_held h ss f ws none held = subst (λ us. AreHeld h (ss ++ sounds_of (map f us))) (sym none) (subst (λ xs. AreHeld h xs) (sym (append-nil ss)) held)

pub mix_unit : {B : Type 0} (old new : HeapState B) (r : Rate) (ss : List Sound) (ts : List Timing) (t : Timing) (s : Sound) → ts ≡ times_in ss → t ≡ mix_timing r ts → HeapLaws new → IsTiming t → Makes old new Mix t ss [] (ss ++ []) s → MakesMeaning old new Mix t ss [] s → MakesUnit old new Mix (mix_timing r (times_in ss)) ss [] ss s
mix_unit old new r ss ts t s list when laws bounds makes meaning =
    subst (λ u. MakesUnit old new Mix u ss [] ss s) (when ∙ ap (mix_timing r) list)
    (subst (λ xs. MakesUnit old new Mix t ss [] xs s) (append-nil ss) (record { laws = laws; bounds = bounds; makes = makes; meaning = meaning }))

-- a mix of no parts is silent: of a sound without samples there is no unit, whatever its kind
no_stop : (r : Rate) → max 0 (tick_at 0 r) ≡ 0
unfolding tick_at
no_stop r = omega arith

none_heard : (r : Rate) → mix_timing r [] ≡ record { rate = r; start = 0; len = 0; stop = 0 }
unfolding mix_timing spanning
none_heard r = ap (λ n. let t : Timing = record { rate = r; start = 0; len = 0; stop = n } in t) (no_stop r)

silent_unit : {B : Type 0} (old new : HeapState B) (r : Rate) (s : Sound) → IsSilent old new r s → MakesUnit old new Mix (record { rate = r; start = 0; len = 0; stop = 0 }) [] [] [] s
silent_unit {B} old new r s step = record {
  laws = step.laws;
  bounds = step.bounds;
  makes = record { node = step.makes.node; result = step.makes.result; none = step.makes.none; unit = λ some. absurd (omega (arith, some)) };
  meaning = λ part w means.
      subst (λ o. Means part new (option_map_or (λ n. with_samples w n (whole_list Mix silence (first_memory Mix []) (made_inputs part w r [] []))) o w)) (sym none)
      (subst (λ o. Means part new (option_map_or (λ n. with_samples w n (whole_list (Made (Leaf (Const (pos 0)))) silence (first_memory (Made (Leaf (Const (pos 0)))) []) (made_inputs part w r [] []))) o w)) none (step.meaning part w means));
}
  where
    silence : Timing
    silence = record { rate = r; start = 0; len = 0; stop = 0 }

    none : list_of s ≡ None
    none = step.makes.result.list

pub silent_mix : {B : Type 0} (old new : HeapState B) (r : Rate) (ss : List Sound) (s : Sound) → ss ≡ [] → IsSilent old new r s → MakesUnit old new Mix (mix_timing r (times_in ss)) ss [] ss s
silent_mix {B} old new r ss s none step =
    subst (λ xs. MakesUnit old new Mix (mix_timing r (times_in xs)) xs [] xs s) (sym none)
    (subst (λ u. MakesUnit old new Mix u [] [] [] s) (sym (none_heard r)) (silent_unit old new r s step))
