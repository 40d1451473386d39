-- A channel that has ended, or has a block left; and its sound that is given up.
use Rattle.std.proofs.Common.{◌≡◌, ◌≢◌, ◌⊎◌, inl, inr, ℕ, ◌*◌, ◌<◌, ◌≤◌, Bool, true, false, cond, IsTrue, IsSomeAnd, if◌then◌else◌, List, [], ◌∷◌, length, sum, slice_get, slice_index, slice_index_or, slice_set, Option, None, Some, refl, sym, ap, subst, ◌∙◌, arith, ℤ}
use Rattle.std.proofs.lemmas.Bool.{ltb-true, lt-ltb}
use Rattle.std.proofs.lemmas.List.{length-set}
use Rattle.std.specs.Option.{option_map_or}
use Rattle.ny_check.specs.Code.{Code}
use Rattle.ny_heap.specs.Heap.{Node, HeapState, node_at, list_of, place_of, is_open, open_unit, blocks_of, stands_in}
use Rattle.ny_heap.specs.Means.{Whole, KeepsMeaning}
use Rattle.ny_heap.specs.Reach.{HeapLaws, IsTrimmed}
use Rattle.ny_heap.specs.Steps.{IsHeldAt, IsSettledUnit, changed, without_mark, without_sound}
use Rattle.ny_heap.specs.declared.sound.Sound.{Sound}
use Rattle.ny_hands.specs.declared.branch.Branch.{Branch}
use Rattle.ny_hands.specs.Frames.{part_is}
use Rattle.ny_hands.proofs.OptionLemmas.{some_same, same_at, and_some}
use Rattle.ny_hands.proofs.HeapLemmas.{reached_stays}
use Rattle.ny_trace.proofs.HeightLemmas.{ComesFrom, from_trimmed}
use Rattle.ny_walk.specs.Below.{IsSettled}
use Rattle.ny_eval.specs.Playing.{IsPulled, IsChannel, ArePlaying}
use Rattle.ny_eval.proofs.ReadyLemmas.{ready_on}
use Rattle.ny_eval.proofs.MarkLemmas.{changed_same, changed_other}
use Rattle.ny_eval.proofs.BlockLemmas.{open_is_short, closed_is_long, counted, mark_less}
use Rattle.ny_eval.proofs.StayingLemmas.{get_set_same, get_set_other, channel_stays}
use Rattle.ny_eval.proofs.PlayingLemmas.{within}

-- ---- has it ended

pub ended_of : (h : HeapState Branch) (whole : Whole) (s : Sound) (xs : List ℤ) (pulls : ℕ) → HeapLaws h → IsChannel h whole s xs pulls pulls → open_unit h (list_of s) ≡ None → length xs ≤ pulls * h.block
ended_of h whole s xs pulls laws was e = by_list (list_of s) refl
  where
    by_open : (n : ℕ) (p : IsPulled h s pulls n) (b : Bool) → is_open h.block p.unit ≡ b → cond b (Some n) None ≡ None → length xs ≤ pulls * h.block
    by_open n p true is none = cc
    by_open n p false is none = elim (cases_le (blocks_of h.block p.unit.timing.len) p.unit.filled) [
      | inl long ↦
          let full = closed_is_long h.block p.unit.filled p.unit.timing.len laws.positive long in
          let times : p.unit.filled * h.block ≡ pulls * h.block = ap (λ f. f * h.block) p.done in
          omega (arith, full, times, p.shown, was.len)
      | inr short ↦ absurd (true_is_not_false (sym (lt-ltb _ _ short) ∙ is))
    ]
      where
        cases_le : (a b : ℕ) → (a ≤ b) ⊎ (b < a)
        cases_le a b = grind arith

        true_is_not_false : true ≡ false → ⊥
        true_is_not_false q = cc

    by_list : (o : Option ℕ) → list_of s ≡ o → length xs ≤ pulls * h.block
    by_list None is =
        let zero_len : s.timing.len ≡ 0 = subst (λ o. IsHeldAt h s o) is was.held.1 in
        omega (arith, zero_len, was.len)
    by_list (Some n) is =
        let p = was.pulled n is in
        by_open n p (is_open h.block p.unit) refl (sym (ap (λ o. option_map_or (λ x. if is_open h.block x then Some n else None) o None) p.there) ∙ (sym (ap (open_unit h) is) ∙ e))

pub record Opens {B : Type 0} (h : HeapState B) (s : Sound) (xs : List ℤ) (pulls u : ℕ) : Type 0 where
  pub list : list_of s ≡ Some u
  pub short : pulls * h.block < length xs
  pub unit : IsSomeAnd (node_at h u) (λ x. IsTrue (is_open h.block x))

pub open_of : (h : HeapState Branch) (whole : Whole) (s : Sound) (xs : List ℤ) (pulls u : ℕ) → HeapLaws h → IsChannel h whole s xs pulls pulls → open_unit h (list_of s) ≡ Some u → Opens h s xs pulls u
open_of h whole s xs pulls u laws was e = by_list (list_of s) refl
  where
    by_open : (n : ℕ) (p : IsPulled h s pulls n) → list_of s ≡ Some n → (b : Bool) → is_open h.block p.unit ≡ b → cond b (Some n) None ≡ Some u → Opens h s xs pulls u
    by_open n p list false is found = cc
    by_open n p list true is found =
        let n_is : n ≡ u = some_same n u found in
        let short = open_is_short h.block p.unit.filled p.unit.timing.len laws.positive (ltb-true _ _ is) in
        let times : p.unit.filled * h.block ≡ pulls * h.block = ap (λ f. f * h.block) p.done in
        record {
          list = list ∙ ap Some n_is;
          short = omega (arith, short, times, p.shown, was.len);
          unit = and_some (node_at h u) (λ x. IsTrue (is_open h.block x)) p.unit (subst (λ m. node_at h m ≡ Some p.unit) n_is p.there) is;
        }

    by_list : (o : Option ℕ) → list_of s ≡ o → Opens h s xs pulls u
    by_list None is = absurd (none_is_not_some (sym (ap (open_unit h) is) ∙ e))
      where
        none_is_not_some : None ≡ Some u → ⊥
        none_is_not_some q = cc
    by_list (Some n) is =
        let p = was.pulled n is in
        by_open n p is (is_open h.block p.unit) refl (sym (ap (λ o. option_map_or (λ x. if is_open h.block x then Some n else None) o None) p.there) ∙ (sym (ap (open_unit h) is) ∙ e))

-- ---- a sound that is given up

abbrev unmarked : HeapState Branch → Sound → Option ℕ → HeapState Branch
unmarked h s o = changed h o (λ x. without_mark (stands_in h.block x.timing.len (place_of s)) x)

unmarked_else : (h : HeapState Branch) (s : Sound) (o : Option ℕ) (v : ℕ) → (o ≡ Some v → ⊥) → node_at (unmarked h s o) v ≡ node_at h v
unmarked_else h s None v ne = refl
unmarked_else h s (Some n) v ne = changed_other h n (λ x. without_mark (stands_in h.block x.timing.len (place_of s)) x) v (λ e. ne (ap (λ k. Some k) (sym e)))

unmarked_size : (h : HeapState Branch) (s : Sound) (o : Option ℕ) → ((unmarked h s o).pool ≡ h.pool) × ((unmarked h s o).block ≡ h.block)
unmarked_size h s None = (refl, refl)
unmarked_size h s (Some n) = (refl, refl)

module _ (old new : HeapState Branch) (s : Sound) (trimmed : IsTrimmed (without_sound old s) new) where
  pub given_up_size : (new.pool ≡ old.pool) × (new.block ≡ old.block)
  given_up_size = (trimmed.size.pool ∙ (unmarked_size old s (list_of s)).0, trimmed.size.block ∙ (unmarked_size old s (list_of s)).1)

  given_up_from : ComesFrom old new
  given_up_from = from_trimmed old new (s ∷ []) trimmed

  given_up_stays : (m : ℕ) (x : Node Branch) → (list_of s ≡ Some m → ⊥) → node_at old m ≡ Some x → 0 < sum x.outside → node_at new m ≡ Some x
  given_up_stays m x ne at some =
      let there : node_at (without_sound old s) m ≡ Some x = unmarked_else old s (list_of s) m ne ∙ at in
      reached_stays (without_sound old s) new trimmed m x there (m, record { unit = x; there = there; some = some }, (0, refl))

module _ (code : Code) (old new : HeapState Branch) (sounds : List (Option Sound)) (xss : List (List ℤ)) (pulls filled : List ℕ) (c : ℕ) (s : Sound) (p : ArePlaying code old sounds xss pulls filled) (at : slice_get sounds c ≡ Some (Some s)) (laws : HeapLaws new) (trimmed : IsTrimmed (without_sound old s) new) (keeps : KeepsMeaning old new) where
  abbrev left : List (Option Sound)
  left = slice_set sounds c None

  -- no sound is left at that place
  apart_from : (d : ℕ) (t : Sound) → slice_get left d ≡ Some (Some t) → d ≢ c
  apart_from d t is same = never (sym (get_set_same sounds c None (within sounds c s at)) ∙ (ap (slice_get left) (sym same) ∙ is))
    where
      never : Some None ≡ Some (Some t) → ⊥
      never e = cc

  was_there : (d : ℕ) (t : Sound) → slice_get left d ≡ Some (Some t) → slice_get sounds d ≡ Some (Some t)
  was_there d t is = sym (get_set_other sounds c d None (apart_from d t is)) ∙ is

  -- once given up, it is read by nobody
  unread : (v : ℕ) (y : Node Branch) → node_at new v ≡ Some y → 0 < sum y.outside → list_of s ≡ Some v → ⊥
  unread v y there some list =
      let q = (p.each c s at).pulled v list in
      let k = counted old s v (p.each c s at).held list in
      let unit : k.unit ≡ q.unit = same_at (node_at old v) k.unit q.unit k.there q.there in
      let stands : 0 < slice_index q.unit.outside (stands_in old.block q.unit.timing.len (place_of s)) = subst (λ (x : Node Branch). 0 < slice_index x.outside (stands_in old.block x.timing.len (place_of s))) unit k.stands in
      let before : node_at (unmarked old s (Some v)) v ≡ Some y = ap (λ o. node_at (unmarked old s o) v) (sym list) ∙ trimmed.kept v y there in
      let now : without_mark (stands_in old.block q.unit.timing.len (place_of s)) q.unit ≡ y = same_at (node_at (unmarked old s (Some v)) v) _ _ (changed_same old v (λ x. without_mark (stands_in old.block x.timing.len (place_of s)) x) q.unit q.there) before in
      omega (arith, some, ap (λ (x : Node Branch). sum x.outside) now, mark_less q.unit.outside (stands_in old.block q.unit.timing.len (place_of s)) stands, q.only)

  settled_now : IsSettled new
  settled_now v y there =
      let x = given_up_from old new s trimmed v y there in
      subst (λ (q : Node Branch). IsSettledUnit new.block q) (sym x.2) (subst (λ b. IsSettledUnit b x.0) (sym (given_up_size old new s trimmed).1) (p.settled v x.0 x.1))

  pub given_up_channel : ArePlaying code new (slice_set sounds c None) xss pulls filled
  given_up_channel = record {
    laws = laws;
    settled = settled_now;
    ready = ready_on code old new (given_up_from old new s trimmed) p.ready;
    whole = p.whole;
    means = keeps (part_is code) p.whole p.means;
    count = length-set sounds c None ∙ p.count;
    count_pulls = p.count_pulls;
    count_filled = p.count_filled;
    each = λ d t is.
        channel_stays old new p.whole t (slice_index_or xss d []) (slice_index pulls d) (slice_index filled d) (given_up_size old new s trimmed).1 (given_up_from old new s trimmed)
        (λ m x of there some. given_up_stays old new s trimmed m x (λ list. apart_from d t is (p.apart d c t s m (was_there d t is) at of list)) there some)
        (p.each d t (was_there d t is));
    apart = λ d e t q m is also of too. p.apart d e t q m (was_there d t is) (was_there e q also) of too;
    alone = λ v y there some.
        let not_its : list_of s ≡ Some v → ⊥ = λ list. unread v y there some list in
        let x = p.alone v y (sym (unmarked_else old s (list_of s) v not_its) ∙ trimmed.kept v y there) some in
        (x.0, x.1, get_set_other sounds c x.0 None (λ same. not_its (ap (λ (q : Sound). list_of q) (some_same s x.1 (some_same (Some s) (Some x.1) (sym at ∙ (ap (slice_get sounds) (sym same) ∙ x.2)))) ∙ x.3)) ∙ x.2, x.3);
  }
