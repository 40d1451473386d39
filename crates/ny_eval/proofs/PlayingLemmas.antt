-- One block more of a channel: its unit goes on, and those of the other channels, which no unit uses, stay as they are.
use Rattle.std.proofs.Common.{◌≡◌, ◌⊎◌, inl, inr, ℕ, zero, suc, ◌+◌, ◌*◌, ◌<◌, ◌≤◌, ◌==◌, min, max, true, false, if◌then◌else◌, List, [], ◌∷◌, length, take, slice_get, slice_index, slice_index_or, slice_set, Option, None, Some, refl, sym, ap, subst, ◌∙◌, arith, ℤ}
use Rattle.std.specs.Prelude.{◌≢◌, nat_eq}
use Rattle.std.proofs.lemmas.Bool.{cases_eq}
use Rattle.std.proofs.lemmas.Bool.Decides.{eqb_tells}
use Rattle.std.proofs.lemmas.List.{length-set}
use Rattle.ny_check.specs.Code.{Code}
use Rattle.ny_check.specs.Heights.{height_of}
use Rattle.ny_heap.specs.Heap.{HeapState, node_at, list_of, place_of}
use Rattle.ny_heap.specs.Means.{Whole, sound_in}
use Rattle.ny_heap.specs.Reach.{Uses, Hold, HeapLaws}
use Rattle.ny_heap.specs.declared.sound.Sound.{Sound}
use Rattle.ny_hands.specs.declared.branch.Branch.{Branch}
use Rattle.ny_hands.proofs.OptionLemmas.{some_same, same_at}
use Rattle.ny_trace.specs.Heights.{Ranks}
use Rattle.ny_walk.specs.Below.{IsSettled, Below, Walked, Stopped}
use Rattle.ny_walk.specs.Heard.{HeardWhole, StaysHeard}
use Rattle.ny_walk.proofs.BelowLemmas.{uses_same, user_there}
use Rattle.ny_eval.specs.Playing.{IsPulled, IsChannel, ArePlaying}
use Rattle.ny_eval.specs.Ready.{IsReady}
use Rattle.ny_eval.proofs.MarkLemmas.{mark_set}
use Rattle.ny_eval.proofs.TowerLemmas.{tower, tower_ranks}

-- ---- a unit that no other uses, higher than all others

module _ (tall : ℕ → ℕ) (h : HeapState Branch) (rank : ℕ → ℕ) (ranks : Ranks tall h rank) (m least : ℕ) (top : (u : ℕ) → Uses h u m → ⊥) where
  -- it stands at `least` or higher
  abbrev lifted : ℕ → ℕ
  lifted v = if v == m then max (rank m) least else rank v

  lifted_at : (v : ℕ) → v ≡ m → lifted v ≡ max (rank m) least
  lifted_at v e = by_test (eqb_tells v m)
    where
      by_test : ((nat_eq v m ≡ true) × (v ≡ m)) ⊎ ((nat_eq v m ≡ false) × (v ≢ m)) → lifted v ≡ max (rank m) least
      by_test (inl same) = ap (λ b. if b then max (rank m) least else rank v) same.0
      by_test (inr other) = absurd (other.1 e)

  lifted_else : (v : ℕ) → v ≢ m → lifted v ≡ rank v
  lifted_else v ne = by_test (eqb_tells v m)
    where
      by_test : ((nat_eq v m ≡ true) × (v ≡ m)) ⊎ ((nat_eq v m ≡ false) × (v ≢ m)) → lifted v ≡ rank v
      by_test (inl same) = absurd (ne same.1)
      by_test (inr other) = ap (λ b. if b then max (rank m) least else rank v) other.0

  used_else : (a b : ℕ) → Uses h a b → b ≢ m
  used_else a b uses same = top a (subst (λ k. Uses h a k) same uses)

  lifted_more : (v : ℕ) → rank v ≤ lifted v
  lifted_more v = elim (cases_eq v m) [
    | inl same ↦ omega (arith, lifted_at v same, ap rank same)
    | inr other ↦ omega (arith, lifted_else v other)
  ]

  lifted_ranks : Ranks tall h lifted
  lifted_ranks = record {
    falls = λ a b uses. omega (arith, lifted_else b (used_else a b uses), lifted_more a, ranks.falls a b uses);
    room = λ u x i p at waits.
        let r = ranks.room u x i p at waits in
        record {
          base = r.base;
          captured = λ j c n one of.
              let uses : Uses h u n = Hold (record { unit = x; there = at; place = i; part = p; waits = waits; position = j; captured = c; one = one; of = of }) in
              omega (arith, lifted_else n (used_else u n uses), r.captured j c n one of);
          room = omega (arith, r.room, lifted_more u);
        };
  }

-- where a change leaves alone what stands at n or higher, no unit comes to use one that stands so high
still_top : (code : Code) (tall : ℕ → ℕ) (old new : HeapState Branch) (rank : ℕ → ℕ) (n : ℕ) (b : Below code tall old new rank n) (v : ℕ) → n ≤ b.later v + 1 → ((u : ℕ) → Uses old u v → ⊥) → (u : ℕ) → Uses new u v → ⊥
still_top code tall old new rank n b v high top u uses =
    let y = user_there new u v uses in
    let falls = b.ranks.falls u v uses in
    let x = b.high u y.0 y.1 (omega (arith, high, falls)) in
    let same = b.same u x.0 x.1 (omega (arith, high, falls, x.2)) in
    top u (uses_same new old u v uses (λ z at. subst (λ q. node_at old u ≡ Some q) (same_at (node_at new u) x.0 z same.0 at) x.1))

-- ---- a sound that is played, later

module _ (code : Code) (old new : HeapState Branch) (whole : Whole) (hears : StaysHeard code old new) (now : HeardWhole code old new whole) where
  channel_on : (s : Sound) (xs : List ℤ) (pulls filled later : ℕ) → IsChannel old whole s xs pulls filled → ((n : ℕ) → list_of s ≡ Some n → IsPulled old s filled n → IsPulled new s later n) → IsChannel new now.later s xs pulls later
  channel_on s xs pulls filled later was on = record {
    held = hears.sounds s was.held;
    len = was.len;
    place = subst (λ b. place_of s ≡ min (pulls * b) (length xs)) (sym hears.block) was.place;
    pulled = λ n is. on n is (was.pulled n is);
    samples = by_list (list_of s) refl ∙ was.samples;
  }
    where
      by_list : (o : Option ℕ) → list_of s ≡ o → (sound_in now.later.samples (list_of s) s.timing).samples ≡ (sound_in whole.samples (list_of s) s.timing).samples
      by_list None is = ap (λ o. (sound_in now.later.samples o s.timing).samples) is ∙ sym (ap (λ o. (sound_in whole.samples o s.timing).samples) is)
      by_list (Some n) is =
          let p = was.pulled n is in
          let stays = now.extends n p.unit p.there (omega (arith, p.only)) in
          ap (λ o. (sound_in now.later.samples o s.timing).samples) is
          ∙ ap (λ ys. take s.timing.len ys) stays
          ∙ sym (ap (λ o. (sound_in whole.samples o s.timing).samples) is)

module _ (code : Code) (old new : HeapState Branch) (sounds : List (Option Sound)) (xss : List (List ℤ)) (pulls filled later : List ℕ) (p : ArePlaying code old sounds xss pulls filled) (hears : StaysHeard code old new) (laws : HeapLaws new) (settled : IsSettled new) (ready : IsReady code new) (count : length later ≡ length filled) (on : (d : ℕ) (s : Sound) (n : ℕ) → slice_get sounds d ≡ Some (Some s) → list_of s ≡ Some n → IsPulled old s (slice_index filled d) n → IsPulled new s (slice_index later d) n) where
  playing_on : ArePlaying code new sounds xss pulls later
  playing_on =
      let now = hears.means p.whole p.means in
      record {
        laws = laws;
        settled = settled;
        ready = ready;
        whole = now.later;
        means = now.means;
        count = p.count;
        count_pulls = p.count_pulls;
        count_filled = count ∙ p.count_filled;
        each = λ d s at. channel_on code old new p.whole hears now s (slice_index_or xss d []) (slice_index pulls d) (slice_index filled d) (slice_index later d) (p.each d s at) (λ n is was. on d s n at is was);
        apart = p.apart;
        alone = λ v y at some. let x = hears.only v y at some in p.alone v x.0 x.1 (omega (arith, some, x.2));
      }

-- ---- the other channels

-- a unit that no other uses is as it was where the change stays below some height of each order
other_pulled : (code : Code) (old new : HeapState Branch) (u m : ℕ) (s : Sound) (filled : ℕ) (step : ℕ) → m ≢ u → step ≤ 1 → HeapLaws old → ((rank : ℕ → ℕ) → Ranks (height_of code) old rank → Below code (height_of code) old new rank (rank u + step)) → IsPulled old s filled m → IsPulled new s filled m
other_pulled code old new u m s filled step apart few laws below p =
    let tall = height_of code in
    let ranks = tower_ranks tall old laws in
    let rank = tower tall old in
    let least = rank u + 1 in
    let b = below (lifted tall old rank ranks m least p.top) (lifted_ranks tall old rank ranks m least p.top) in
    let here = lifted_at tall old rank ranks m least p.top m refl in
    let there = lifted_else tall old rank ranks m least p.top u (λ e. apart (sym e)) in
    let same = b.same m p.unit p.there (omega (arith, here, there, few)) in
    record {
      unit = p.unit;
      there = same.0;
      shown = p.shown;
      done = p.done;
      only = p.only;
      top = still_top code tall old new (lifted tall old rank ranks m least p.top) _ b m (omega (arith, here, there, few, same.1)) p.top;
    }

-- ---- the channel itself

driven_pulled : (code : Code) (old new : HeapState Branch) (u : ℕ) (s : Sound) (filled : ℕ) → HeapLaws old → Walked code (height_of code) old new u → IsPulled old s filled u → IsPulled new s (filled + 1) u
driven_pulled code old new u s filled laws walked p =
    let tall = height_of code in
    let d = walked.drives (tower tall old) (tower_ranks tall old laws) in
    let y = d.below.held u p.unit p.there (inl (record { unit = p.unit; there = p.there; some = omega (arith, p.only) })) in
    record {
      unit = y.0;
      there = y.1;
      shown = ap (λ t. t.len) y.3.timing ∙ p.shown;
      done = d.more p.unit y.0 p.there y.1 ∙ ap (λ f. f + 1) p.done;
      only = y.3.outside ∙ p.only;
      top = still_top code tall old new (tower tall old) _ d.below u (omega (arith, y.2)) p.top;
    }

stopped_pulled : (code : Code) (old new : HeapState Branch) (u : ℕ) (s : Sound) (filled : ℕ) → HeapLaws old → Stopped code (height_of code) old new u → IsPulled old s filled u → IsPulled new s filled u
stopped_pulled code old new u s filled laws stopped p =
    let tall = height_of code in
    let b = stopped.below (tower tall old) (tower_ranks tall old laws) in
    let same = b.same u p.unit p.there (omega arith) in
    record { unit = p.unit; there = same.0; shown = p.shown; done = p.done; only = p.only; top = still_top code tall old new (tower tall old) _ b u (omega (arith, same.1)) p.top }

-- ---- counts by place

pub set_other : (ns : List ℕ) (c d n : ℕ) → d ≢ c → slice_index (slice_set ns c n) d ≡ slice_index ns d
set_other [] zero d n ne = refl
set_other [] (suc c) d n ne = refl
set_other (k ∷ ns) zero zero n ne = absurd (ne refl)
set_other (k ∷ ns) zero (suc d) n ne = refl
set_other (k ∷ ns) (suc c) zero n ne = refl
set_other (k ∷ ns) (suc c) (suc d) n ne = set_other ns c d n (λ e. ne (ap (λ j. suc j) e))

pub within : (sounds : List (Option Sound)) (c : ℕ) (s : Sound) → slice_get sounds c ≡ Some (Some s) → c < length sounds
within [] c s at = absurd (never at)
  where
    never : None ≡ Some (Some s) → ⊥
    never e = cc
within (o ∷ os) zero s at = omega arith
within (o ∷ os) (suc c) s at = omega (arith, within os c s at)

-- ---- all of them

module _ (code : Code) (old new : HeapState Branch) (sounds : List (Option Sound)) (xss : List (List ℤ)) (pulls filled : List ℕ) (c : ℕ) (s : Sound) (u : ℕ) (p : ArePlaying code old sounds xss pulls filled) (at : slice_get sounds c ≡ Some (Some s)) (list : list_of s ≡ Some u) where
  -- the sound at that place
  same_sound : (d : ℕ) (t : Sound) → d ≡ c → slice_get sounds d ≡ Some (Some t) → s ≡ t
  same_sound d t e is = some_same s t (some_same (Some s) (Some t) (sym at ∙ (ap (slice_get sounds) (sym e) ∙ is)))

  same_list : (d : ℕ) (t : Sound) (n : ℕ) → d ≡ c → slice_get sounds d ≡ Some (Some t) → list_of t ≡ Some n → u ≡ n
  same_list d t n e is of = some_same u n (sym list ∙ (ap (λ (q : Sound). list_of q) (same_sound d t e is) ∙ of))

  other_list : (d : ℕ) (t : Sound) (n : ℕ) → d ≢ c → slice_get sounds d ≡ Some (Some t) → list_of t ≡ Some n → n ≢ u
  other_list d t n ne is of same = ne (p.apart d c t s u is at (of ∙ ap (λ k. Some k) same) list)

  counted : c < length filled
  counted = omega (arith, within sounds c s at, p.count, p.count_filled)

  pub drives_channel : Walked code (height_of code) old new u → StaysHeard code old new → IsReady code new → ArePlaying code new sounds xss pulls (slice_set filled c (slice_index filled c + 1))
  drives_channel walked hears ready =
      playing_on code old new sounds xss pulls filled (slice_set filled c (slice_index filled c + 1)) p hears walked.laws walked.settled ready (length-set filled c (slice_index filled c + 1))
      (λ d t n is of was. elim (cases_eq d c) [
        | inl same ↦
            let unit = same_list d t n same is of in
            let count : slice_index filled d + 1 ≡ slice_index (slice_set filled c (slice_index filled c + 1)) d = ap (λ k. slice_index filled k + 1) same ∙ (sym (mark_set filled c (slice_index filled c + 1) counted) ∙ ap (slice_index (slice_set filled c (slice_index filled c + 1))) (sym same)) in
            subst (λ f. IsPulled new t f n) count (subst (λ k. IsPulled new t (slice_index filled d + 1) k) unit (driven_pulled code old new u t (slice_index filled d) p.laws walked (subst (λ k. IsPulled old t (slice_index filled d) k) (sym unit) was)))
        | inr other ↦
            subst (λ f. IsPulled new t f n) (sym (set_other filled c d (slice_index filled c + 1) other))
            (other_pulled code old new u n t (slice_index filled d) 1 (other_list d t n other is of) (omega arith) p.laws (λ rank ranks. (walked.drives rank ranks).below) was)
      ])

  pub stops_channel : Stopped code (height_of code) old new u → StaysHeard code old new → IsReady code new → ArePlaying code new sounds xss pulls filled
  stops_channel stopped hears ready =
      playing_on code old new sounds xss pulls filled filled p hears stopped.laws stopped.settled ready refl
      (λ d t n is of was. elim (cases_eq d c) [
        | inl same ↦
            let unit = same_list d t n same is of in
            subst (λ k. IsPulled new t (slice_index filled d) k) unit (stopped_pulled code old new u t (slice_index filled d) p.laws stopped (subst (λ k. IsPulled old t (slice_index filled d) k) (sym unit) was))
        | inr other ↦
            other_pulled code old new u n t (slice_index filled d) 0 (other_list d t n other is of) (omega arith) p.laws
            (λ rank ranks. subst (λ k. Below code (height_of code) old new rank k) (plus_none (rank u)) (stopped.below rank ranks)) was
      ])
    where
      plus_none : (k : ℕ) → k ≡ k + 0
      plus_none k = omega arith

  pub stopped_same : Stopped code (height_of code) old new u → node_at new u ≡ node_at old u
  stopped_same stopped =
      let x = (p.each c s at).pulled u list in
      let b = stopped.below (tower (height_of code) old) (tower_ranks (height_of code) old p.laws) in
      (b.same u x.unit x.there (omega arith)).0 ∙ sym x.there
