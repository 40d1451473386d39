-- What the sounds in hand are, step by step.
use Rattle.std.proofs.Common.{◌≡◌, ◌≢◌, inl, inr, ℕ, true, false, if◌then◌else◌, nat_lt, List, [], ◌∷◌, ◌++◌, length, take, Option, None, Some, refl, sym, ap, subst, ◌∙◌, arith, ℤ, pos}
use Rattle.std.proofs.lemmas.Bool.Decides.{eqb_tells}
use Rattle.std.proofs.lemmas.List.{length-take}
use Rattle.ny_num.specs.declared.timing.Timing.{Timing}
use Rattle.ny_num.specs.declared.rate.Rate.{Rate}
use Rattle.ny_num.specs.Sound as sounds
use Rattle.ny_num.specs.Sound.{IsTiming, timing_of, sound_of}
use Rattle.ny_num.specs.Resampling.{is_same_rate, other_rate_timing, resampled}
use Rattle.ny_units.specs.declared.leaves.Leaf.TheVariants.{Const}
use Rattle.ny_heap.specs.declared.sound.Sound.{Sound}
use Rattle.ny_heap.specs.declared.make.Make.TheVariants.{Leaf, Resample}
use Rattle.ny_heap.specs.Heap.{Kind, Made, Node, Waiting, HeapState, node_at, list_of}
use Rattle.ny_heap.specs.Means.{Parts, Whole, Means, Extends, sound_in, with_samples, whole_list, unit_value}
use Rattle.ny_heap.specs.Reach.{HeapLaws}
use Rattle.ny_heap.specs.Steps.{without_sounds, first_memory, made_inputs}
use Rattle.ny_hands.proofs.OptionLemmas.{some_same, none_some}
use Rattle.ny_hands.proofs.SoundLemmas.{with_list, at_else, sound_made, sound_none}
use Rattle.ny_hands.proofs.HeapLemmas.{Length, Empty, Long, length_of}
use Rattle.ny_hands.proofs.RateLemmas.{resampled_same, same_rate, brought_is}
use Rattle.ny_hands.proofs.HeardLemmas.{hears_one}
use Rattle.ny_hands.specs.Calls.{Shares, MakesUnit, ReleasesAll, Brings, Stay, Change, IsSilent}
use Rattle.ny_hands.specs.Frames.{sound_at}
use Rattle.ny_hands.specs.Hands.{Begins, AllBegin, IsLike, Hand, Item, item, sounds_in, Are, Later, Comes}
use Rattle.ny_hands.proofs.MarkLemmas.{spent_like}
use Rattle.ny_hands.proofs.HandLemmas.{hand_none, hand_more, hand_swap, hand_turned, hand_released_all, hand_shared, hand_made, begin_first, begin_last}

-- ---- lists of items

pub sounds_append : (ps qs : List Item) → sounds_in (ps ++ qs) ≡ sounds_in ps ++ sounds_in qs
sounds_append [] qs = refl
sounds_append (p ∷ ps) qs = ap (λ ss. p.sound ∷ ss) (sounds_append ps qs)

pub are_append : (w l : Whole) (ps qs : List Item) → Are w l ps → Are w l qs → Are w l (ps ++ qs)
are_append w l [] qs a b = b
are_append w l (p ∷ ps) qs a b = (a.0, are_append w l ps qs a.1 b)

pub are_first : (w l : Whole) (ps qs : List Item) → Are w l (ps ++ qs) → Are w l ps
are_first w l [] qs a = tt
are_first w l (p ∷ ps) qs a = (a.0, are_first w l ps qs a.1)

pub are_last : (w l : Whole) (ps qs : List Item) → Are w l (ps ++ qs) → Are w l qs
are_last w l [] qs a = a
are_last w l (p ∷ ps) qs a = are_last w l ps qs a.1

-- ---- sounds that are there

pub stable_begin : {B : Type 0} (h : HeapState B) (s : Sound) → Begins h s → (w later : Whole) → Extends h w later → sound_at later s ≡ sound_at w s
stable_begin {B} h s b w later extends = by_list (list_of s) refl
  where
    by_list : (o : Option ℕ) → list_of s ≡ o → sound_in later.samples o s.timing ≡ sound_in w.samples o s.timing
    by_list None e = refl
    by_list (Some n) e = let x = b.shown n e in ap (λ (xs : List ℤ). let r : sounds.Sound = record { rate = s.timing.rate; start = s.timing.start; stop = s.timing.stop; samples = take s.timing.len xs } in r) (extends n x.unit x.there)

pub timing_begin : {B : Type 0} (part : Parts B) (h : HeapState B) (w : Whole) (s : Sound) → Means part h w → Begins h s → timing_of (sound_at w s) ≡ s.timing
unfolding timing_of
timing_begin {B} part h w s means b = by_list (list_of s) refl
  where
    by_list : (o : Option ℕ) → list_of s ≡ o → timing_of (sound_in w.samples o s.timing) ≡ s.timing
    by_list None e = λ i. record { rate = s.timing.rate; start = s.timing.start; len = sym (b.empty e) i; stop = s.timing.stop }
    by_list (Some n) e =
        let x = b.shown n e in
        let len : length (take s.timing.len (w.samples n)) ≡ s.timing.len = length-take s.timing.len (w.samples n) ∙ omega (arith, x.visible, (means n x.unit x.there).len) in
        λ i. record { rate = s.timing.rate; start = s.timing.start; len = len i; stop = s.timing.stop }

pub are_later : {B : Type 0} (h : HeapState B) (w l later : Whole) (ps : List Item) → AllBegin h (sounds_in ps) → Extends h l later → Are w l ps → Are w later ps
are_later h w l later [] b extends a = tt
are_later h w l later (p ∷ ps) b extends a = (stable_begin h p.sound b.0 l later extends ∙ a.0, are_later h w l later ps b.1 extends a.1)

-- what they are rests on the lists that were there
abbrev pub AreStable : {B : Type 0} → HeapState B → List Item → Type 0
AreStable old [] = Unit {0}
AreStable old (p ∷ ps) = ((w l : Whole) → Extends old w l → p.is l ≡ p.is w) × AreStable old ps

are_stable : {B : Type 0} (old : HeapState B) (w l later : Whole) (ps : List Item) → AreStable old ps → Extends old w l → Are l later ps → Are w later ps
are_stable old w l later [] st extends a = tt
are_stable old w l later (p ∷ ps) st extends a = (a.0 ∙ st.0 w l extends, are_stable old w l later ps st.1 extends a.1)

owed_else : (w : Whole) (n v : ℕ) (xs : List ℤ) → v ≢ n → (with_samples w n xs).owed v ≡ w.owed v
owed_else w n v xs ne = elim (eqb_tells v n) [
  | inl same ↦ absurd (ne same.1)
  | inr other ↦ ap (λ b. if b then [] else w.owed v) other.0
]

-- ---- steps

pub comes_none : {B : Type 0} (part : Parts B) (h : HeapState B) → HeapLaws h → Comes part h h []
comes_none part h laws = record { hand = hand_none h laws; means = λ w means. (record { later = w; means = means; extends = λ v x at. refl; owes = λ v x at. refl }, tt) }

pub extends_on : {B : Type 0} (old mid : HeapState B) → ((v : ℕ) (x : Node B) → node_at old v ≡ Some x → (y : Node B) × (node_at mid v ≡ Some y) × IsLike x y) → (w l later : Whole) → Extends old w l → Extends mid l later → Extends old w later
extends_on old mid kept w l later p q v x at = let y = kept v x at in q v y.0 y.1 ∙ p v x at

pub comes_more : {B : Type 0} (part : Parts B) (old mid new : HeapState B) (ps qs : List Item) → AreStable old qs → Comes part old mid ps → Comes part mid new qs → Comes part old new (ps ++ qs)
comes_more {B} part old mid new ps qs st first second = record {
  hand = subst (λ ss. Hand old new ss) (sym (sounds_append ps qs)) (hand_more old mid new (sounds_in ps) (sounds_in qs) first.hand second.hand);
  means = λ w means.
      let p = first.means w means in
      let q = second.means p.0.later p.0.means in (
        record { later = q.0.later; means = q.0.means; extends = extends_on old mid first.hand.kept w p.0.later q.0.later p.0.extends q.0.extends; owes = λ v x at. let y = first.hand.kept v x at in q.0.owes v y.0 y.1 ∙ p.0.owes v x at },
        are_append w q.0.later ps qs (are_later mid w p.0.later q.0.later ps first.hand.begin q.0.extends p.1) (are_stable old w p.0.later q.0.later qs st p.0.extends q.1),
      );
}

pub comes_swap : {B : Type 0} (part : Parts B) (old new : HeapState B) (p q : Item) (rest : List Item) → Comes part old new (p ∷ q ∷ rest) → Comes part old new (q ∷ p ∷ rest)
comes_swap part old new p q rest c = record {
  hand = hand_swap old new p.sound q.sound (sounds_in rest) c.hand;
  means = λ w means. let l = c.means w means in (l.0, (l.1.1.0, (l.1.0, l.1.1.1)));
}

pub comes_turned : {B : Type 0} (part : Parts B) (old new : HeapState B) (ps qs : List Item) → Comes part old new (ps ++ qs) → Comes part old new (qs ++ ps)
comes_turned part old new ps qs c = record {
  hand = subst (λ ss. Hand old new ss) (sym (sounds_append qs ps)) (hand_turned old new (sounds_in ps) (sounds_in qs) (subst (λ ss. Hand old new ss) (sounds_append ps qs) c.hand));
  means = λ w means. let l = c.means w means in (l.0, are_append w l.0.later qs ps (are_last w l.0.later ps qs l.1) (are_first w l.0.later ps qs l.1));
}

-- the same sound by another name
pub comes_as : {B : Type 0} (part : Parts B) (old new : HeapState B) (s : Sound) (f g : Whole → sounds.Sound) (rest : List Item) → ((w : Whole) → f w ≡ g w) → Comes part old new (item s f ∷ rest) → Comes part old new (item s g ∷ rest)
comes_as part old new s f g rest same c = record { hand = c.hand; means = λ w means. let l = c.means w means in (l.0, (l.1.0 ∙ same w, l.1.1)) }

pub keeps_all : {B : Type 0} (part : Parts B) (old new : HeapState B) (ss : List Sound) (w : Whole) → ReleasesAll old new ss → Means part old w → Means part new w
keeps_all {B} part old new [] w step means = subst (λ (h : HeapState B). Means part h w) step means
keeps_all part old new (s ∷ ss) w step means = keeps_all part step.0 new ss w step.2 (step.1.keeps part w means)

pub comes_released : {B : Type 0} (part : Parts B) (old mid new : HeapState B) (ps qs : List Item) (ss : List Sound) → HeapLaws old → ss ≡ sounds_in ps → Comes part old mid (ps ++ qs) → ReleasesAll mid new ss → Comes part old new qs
comes_released part old mid new ps qs ss laws is c step = record {
  hand = hand_released_all old mid new ss (sounds_in qs) laws (subst (λ zs. Hand old mid zs) (sounds_append ps qs ∙ ap (λ zs. zs ++ sounds_in qs) (sym is)) c.hand) step;
  means = λ w means. let l = c.means w means in (
    record { later = l.0.later; means = keeps_all part mid new ss l.0.later step l.0.means; extends = l.0.extends; owes = l.0.owes },
    are_last w l.0.later ps qs l.1,
  );
}

pub comes_shared : {B : Type 0} (part : Parts B) (old new : HeapState B) (a s : Sound) → HeapLaws old → Begins old a → Shares old new a s → Comes part old new (item s (λ w. sound_at w a) ∷ [])
comes_shared part old new a s laws b step = record {
  hand = hand_shared old new a s laws b step;
  means = λ w means. (
    record { later = w; means = step.keeps part w means; extends = λ v x at. refl; owes = λ v x at. refl },
    ((λ i. sound_in w.samples (step.list i) (step.timing i)), tt),
  );
}

pub comes_made : {B : Type 0} (part : Parts B) (old mid new : HeapState B) (kind : Kind) (t : Timing) (inputs : List Sound) (waiting : List (Waiting B)) (spent : List Sound) (ps qs : List Item) (s : Sound) (m : Whole → sounds.Sound) → HeapLaws old → spent ≡ sounds_in ps → Comes part old mid (ps ++ qs) → MakesUnit mid new kind t inputs waiting spent s → ((w l : Whole) → Means part mid l → Extends old w l → AllBegin mid (sounds_in ps) → Are w l ps → sound_of t (unit_value kind t (first_memory kind inputs) t.start (made_inputs part l t.rate inputs waiting)) ≡ m w) → Comes part old new (item s m ∷ qs)
comes_made {B} part old mid new kind t inputs waiting spent ps qs s m laws is c step hears = record {
  hand = hand_made old mid new kind t inputs waiting spent (sounds_in qs) s laws held step;
  means = λ w means. let l = c.means w means in by_list w l.0 l.1 (list_of s) refl;
}
  where
    held : Hand old mid (spent ++ sounds_in qs)
    held = subst (λ zs. Hand old mid zs) (sounds_append ps qs ∙ ap (λ zs. zs ++ sounds_in qs) (sym is)) c.hand

    all_begin : AllBegin mid (sounds_in ps ++ sounds_in qs)
    all_begin = subst (λ zs. AllBegin mid zs) (sounds_append ps qs) c.hand.begin

    samples : Whole → List ℤ
    samples l = whole_list kind t (first_memory kind inputs) (made_inputs part l t.rate inputs waiting)

    list_none : nat_lt 0 t.len ≡ false → list_of s ≡ None
    list_none e = step.makes.result.list ∙ ap (λ b. if b then Some step.makes.node else None) e

    list_some : nat_lt 0 t.len ≡ true → list_of s ≡ Some step.makes.node
    list_some e = step.makes.result.list ∙ ap (λ b. if b then Some step.makes.node else None) e

    not_there : (n : ℕ) → list_of s ≡ Some n → (v : ℕ) (x : Node B) → node_at mid v ≡ Some x → v ≢ n
    not_there n some v x at same = by_length (length_of t)
      where
        by_length : Length t → ⊥
        by_length (Empty e f) = none_some (list_of s) n (list_none f) some
        by_length (Long e f) =
            let y = (spent_like mid spent).to v x at in
            none_some (node_at (without_sounds mid spent) v) y.0 (ap (node_at (without_sounds mid spent)) (same ∙ some_same n step.makes.node (sym some ∙ list_some f)) ∙ (step.makes.unit e).fresh) y.1

    empty : list_of s ≡ None → t.len ≡ 0
    empty none = by_length (length_of t)
      where
        by_length : Length t → t.len ≡ 0
        by_length (Empty e f) = e
        by_length (Long e f) = absurd (none_some (list_of s) step.makes.node none (list_some f))

    by_list : (w : Whole) → (l : Later part old mid w) → Are w l.later (ps ++ qs) → (o : Option ℕ) → list_of s ≡ o → (q : Later part old new w) × Are w q.later (item s m ∷ qs)
    by_list w l a o e = (
      record {
        later = with_list l.later (list_of s) (samples l.later);
        means = step.meaning part l.later l.means;
        extends = extends_on old mid c.hand.kept w l.later (with_list l.later (list_of s) (samples l.later)) l.extends more;
        owes = λ v x at. let y = c.hand.kept v x at in owed_at (list_of s) refl v y.0 y.1 ∙ l.owes v x at;
      },
      (is_made o e, are_later mid w l.later (with_list l.later (list_of s) (samples l.later)) qs (begin_last mid (sounds_in ps) (sounds_in qs) all_begin) more (are_last w l.later ps qs a)),
    )
      where
        owed_at : (o : Option ℕ) → list_of s ≡ o → (v : ℕ) (x : Node B) → node_at mid v ≡ Some x → (with_list l.later o (samples l.later)).owed v ≡ l.later.owed v
        owed_at None f v x at = refl
        owed_at (Some n) f v x at = owed_else l.later n v (samples l.later) (not_there n f v x at)

        more_at : (o : Option ℕ) → list_of s ≡ o → Extends mid l.later (with_list l.later o (samples l.later))
        more_at None f v x at = refl
        more_at (Some n) f v x at = at_else l.later n v (samples l.later) (not_there n f v x at)

        more : Extends mid l.later (with_list l.later (list_of s) (samples l.later))
        more = more_at (list_of s) refl

        value : sound_of t (unit_value kind t (first_memory kind inputs) t.start (made_inputs part l.later t.rate inputs waiting)) ≡ m w
        value = hears w l.later l.means l.extends (begin_first mid (sounds_in ps) (sounds_in qs) all_begin) (are_first w l.later ps qs a)

        is_at : (o : Option ℕ) → list_of s ≡ o → sound_in (with_list l.later o (samples l.later)).samples o t ≡ m w
        is_at None f = sound_none l.later t (unit_value kind t (first_memory kind inputs) t.start (made_inputs part l.later t.rate inputs waiting)) (empty f) ∙ value
        is_at (Some n) f = sound_made l.later t (unit_value kind t (first_memory kind inputs) t.start (made_inputs part l.later t.rate inputs waiting)) n ∙ value

        is_made : (o : Option ℕ) → list_of s ≡ o → sound_in (with_list l.later (list_of s) (samples l.later)).samples (list_of s) s.timing ≡ m w
        is_made o f = ap (λ q. sound_in (with_list l.later (list_of s) (samples l.later)).samples (list_of s) q) step.makes.result.timing ∙ is_at (list_of s) refl

-- no sound
pub comes_silent : {B : Type 0} (part : Parts B) (old new : HeapState B) (r : Rate) (s : Sound) → HeapLaws old → IsSilent old new r s → Comes part old new (item s (λ w. sounds.silence r) ∷ [])
unfolding Rattle.ny_num.specs.Sound.silence Rattle.ny_num.specs.Sound.sound_of
comes_silent part old new r s laws step =
    comes_made part old old new (Made (Leaf (Const (pos 0)))) (record { rate = r; start = 0; len = 0; stop = 0 }) [] [] [] [] [] s (λ w. sounds.silence r) laws refl (comes_none part old laws) step (λ w l means extends begin are. refl)

-- ---- a sound that is brought to a rate

rate_at : (w : Whole) (s : Sound) → (sound_at w s).rate ≡ s.timing.rate
rate_at w s = by_list (list_of s)
  where
    by_list : (o : Option ℕ) → (sound_in w.samples o s.timing).rate ≡ s.timing.rate
    by_list None = refl
    by_list (Some n) = refl

other_rate : (r : Rate) (t : Timing) → (other_rate_timing r t).rate ≡ r
unfolding other_rate_timing Rattle.ny_num.specs.Sound.spanning
other_rate r t = refl

pub comes_brought : {B : Type 0} (part : Parts B) (old mid new : HeapState B) (r : Rate) (a s : Sound) (f : Whole → sounds.Sound) (rest : List Item) → HeapLaws old → Comes part old mid (item a f ∷ rest) → Brings mid new r a s → Comes part old new (item s (λ w. resampled r (f w)) ∷ rest)
comes_brought {B} part old mid new r a s f rest laws c (Stay step) =
    subst (λ (q : Sound). Comes part old new (item q (λ w. resampled r (f w)) ∷ rest)) step.same
    (subst (λ (h : HeapState B). Comes part old h (item a (λ w. resampled r (f w)) ∷ rest)) step.heap (record {
      hand = c.hand;
      means = λ w means.
          let l = c.means w means in
          let rate : (f w).rate ≡ r = ap (λ (q : sounds.Sound). q.rate) (sym l.1.0) ∙ rate_at l.0.later a ∙ same_rate a.timing.rate r step.rate in
          (l.0, (l.1.0 ∙ sym (resampled_same r (f w) rate), l.1.1));
    }))
comes_brought {B} part old mid new r a s f rest laws c (Change step) =
    comes_made part old mid new (Made Resample) (other_rate_timing r a.timing) (a ∷ []) [] (a ∷ []) (item a f ∷ []) rest s (λ w. resampled r (f w)) laws refl c step.made
    (λ w l means extends begin are.
    let when : a.timing ≡ timing_of (f w) = sym (timing_begin part mid l a means begin.0) ∙ ap timing_of are.0 in
    hears_one Resample (other_rate_timing r a.timing) a (f w) part l when are.0
    ∙ brought_is (other_rate_timing r a.timing) r (f w) (ap (other_rate_timing r) when) (other_rate r a.timing) (ap (λ (q : sounds.Sound). is_same_rate q.rate r) (sym are.0) ∙ (ap (λ q. is_same_rate q r) (rate_at l a) ∙ step.rate)))
