-- The first block that a list keeps is given back.
use Rattle.std.proofs.Common.{◌≡◌, ◌≢◌, inl, inr, ℕ, zero, suc, ◌+◌, ◌-◌, ◌*◌, ◌<◌, ◌≤◌, cond, nat_eq, List, [], ◌∷◌, length, take, get_or, map, set, Option, None, Some, IsSome, is_some, count_by, refl, sym, ap, subst, ◌∙◌, arith, length-set, ℤ}
use Rattle.std.proofs.lemmas.List.{get_or-set_same, get_or-set_other, get_or_past}
use Rattle.std.proofs.lemmas.List.FromFn.{length-map-range_with_len, fill_by_all}
use Rattle.std.proofs.lemmas.List.Sums.{sum_by-set}
use Rattle.std.proofs.lemmas.Bool.{cases_eq, cases_lt, cond-true, cond-false, ne_eqb}
use Rattle.std.specs.Option.{option_map, option_map_or}
use Rattle.std.specs.List.{range_with_len, sum}
use Rattle.std.specs.Vec.{with_item}
use Rattle.ny_pool.specs.Blocks as pool
use Rattle.ny_pool.specs.Blocks.{Blocks, in_block, with_block, IsTaken, HoldsWholeBlocks}
use Rattle.ny_list.specs.declared.chain.Span.{Span}
use Rattle.ny_list.specs.declared.table.Entry.{Entry}
use Rattle.ny_list.specs.declared.table.Table.{Table}
use Rattle.ny_list.specs.Steps.{blank_below}
use Rattle.ny_list.specs.Chain.{Home, nth, home_of, home_at, next_at, place_of}
use Rattle.ny_list.specs.Table.{entry_at, span_at, value_of, mark_of, list_state, loose_of, loose_in, kept_in, blanked, IsEntry, IsTable, GivesTo}
use Rattle.ny_list.proofs.IndexLemmas.{same_some, none_some, tab_get, tab_same}
use Rattle.ny_list.proofs.ChainLemmas.{home_some, home_within, place_home, place_other, place_none, pair_first, pair_second}
use Rattle.ny_list.proofs.StateLemmas.{entry_within, span_is, home_inside, value_gone, Sets, set_here, set_other, entries_set, changed}

-- ---- blanks

pub length-blank_below : (n : ℕ) (os : List (Option (List ℤ))) → length (blank_below n os) ≡ length os
length-blank_below n [] = refl
length-blank_below zero (o ∷ os) = refl
length-blank_below (suc n) (o ∷ os) = ap suc (length-blank_below n os)

pub get_or-blank : (n : ℕ) (os : List (Option (List ℤ))) (k : ℕ) → k < n → get_or (blank_below n os) k None ≡ None
get_or-blank n [] k h = refl
get_or-blank zero (o ∷ os) k h = absurd (omega arith)
get_or-blank (suc n) (o ∷ os) zero h = refl
get_or-blank (suc n) (o ∷ os) (suc k) h = get_or-blank n os k (omega arith)

pub get_or-unblank : (n : ℕ) (os : List (Option (List ℤ))) (k : ℕ) → n ≤ k → get_or (blank_below n os) k None ≡ get_or os k None
get_or-unblank n [] k h = refl
get_or-unblank zero (o ∷ os) k h = refl
get_or-unblank (suc n) (o ∷ os) zero h = absurd (omega arith)
get_or-unblank (suc n) (o ∷ os) (suc k) h = get_or-unblank n os k (omega arith)

-- what is blank below a number, by index
pub blank_tab : (f g : ℕ → Option (List ℤ)) (n to : ℕ) → ((k : ℕ) → k < n → k < to → g k ≡ None) → ((k : ℕ) → k < n → to ≤ k → g k ≡ f k) → blank_below to (map f (range_with_len 0 n)) ≡ map g (range_with_len 0 n)
blank_tab f g n to below past =
    fill_by_all g (blank_below to (map f (range_with_len 0 n))) n None (length-blank_below to (map f (range_with_len 0 n)) ∙ length-map-range_with_len f 0 n) (λ k h.
    elim (cases_lt k to) [
      | inl before ↦ get_or-blank to (map f (range_with_len 0 n)) k before ∙ sym (below k h before)
      | inr after ↦ get_or-unblank to (map f (range_with_len 0 n)) k after ∙ tab_get f n k None h ∙ sym (past k h after)
    ])

-- ---- the first block

module _ (t : Table) (l : ℕ) (x : Entry) (n : ℕ) (table : IsTable t) (at : entry_at t l ≡ Some x) (kept : x.span.gone < x.span.filled) (idle : mark_of t l x x.span.gone ≡ 0) (next : n ≡ next_at t.links.items x.span.first) where
  abbrev pub y : Entry
  y = record x { span = record x.span { gone = x.span.gone + 1; first = n } }

  abbrev pub new : Table
  new = record t {
    pool = with_block t.pool x.span.first None;
    links = with_item t.links x.span.first None;
    lists = set t.lists l (Some (record x { span = record x.span { gone = x.span.gone + 1; first = n } }));
  }

  home : home_at t.links.items x.span.first ≡ nth l x.span.gone
  home = table.chain.first l x.span (span_is t l x at) kept

  inside : x.span.first < length t.links.items
  inside = home_within t.links.items x.span.first (record { list = l; number = x.span.gone }) home

  -- no other block is touched
  home_kept : (k : ℕ) → k ≢ x.span.first → home_at (set t.links.items x.span.first None) k ≡ home_at t.links.items k
  home_kept k ne = ap home_of (get_or-set_other t.links.items x.span.first k None None ne)

  home_lost : home_at (set t.links.items x.span.first None) x.span.first ≡ None
  home_lost = ap home_of (get_or-set_same t.links.items x.span.first None None inside)

  not_first : (k : ℕ) (h : Home) → home_at (set t.links.items x.span.first None) k ≡ Some h → k ≢ x.span.first
  not_first k h e same = none_some (sym home_lost ∙ ap (home_at (set t.links.items x.span.first None)) (sym same) ∙ e)

  was_home : (k : ℕ) (h : Home) → home_at (set t.links.items x.span.first None) k ≡ Some h → home_at t.links.items k ≡ Some h
  was_home k h e = sym (home_kept k (not_first k h e)) ∙ e

  is_home : (k m j : ℕ) → ((m ≡ l) → (j ≡ x.span.gone) → ⊥) → home_at t.links.items k ≡ nth m j → home_at (set t.links.items x.span.first None) k ≡ nth m j
  is_home k m j other e =
      home_kept k (λ same.
      let twice : nth m j ≡ nth l x.span.gone = sym e ∙ ap (home_at t.links.items) same ∙ home in
      other (pair_first twice) (pair_second twice)) ∙ e

  place_kept : (m j : ℕ) → ((m ≡ l) → (j ≡ x.span.gone) → ⊥) → place_of (set t.links.items x.span.first None) m j ≡ place_of t.links.items m j
  place_kept m j other =
      place_other t.links.items m j x.span.first None
      (λ e. let same : nth m j ≡ nth l x.span.gone = sym e ∙ home in other (pair_first same) (pair_second same)) (λ e. none_some e)

  place_lost : length t.links.items ≤ place_of (set t.links.items x.span.first None) l x.span.gone
  place_lost =
      let none = place_none (set t.links.items x.span.first None) l x.span.gone (λ k e.
      not_first k (record { list = l; number = x.span.gone }) e
      (table.chain.once k x.span.first l x.span.gone (was_home k (record { list = l; number = x.span.gone }) e) home)) in
      omega (arith, none, length-set t.links.items x.span.first None)

  -- the place of another block holds what it held
  content_kept : (m j : ℕ) → ((m ≡ l) → (j ≡ x.span.gone) → ⊥) → in_block (with_block t.pool x.span.first None) (place_of t.links.items m j) ≡ in_block t.pool (place_of t.links.items m j)
  content_kept m j other =
      get_or-set_other t.pool.blocks x.span.first (place_of t.links.items m j) None None (λ same.
      let found = place_home t.links.items m j (omega (arith, inside, same)) in
      let twice : nth m j ≡ nth l x.span.gone = sym found ∙ ap (home_at t.links.items) same ∙ home in
      other (pair_first twice) (pair_second twice))

  value_kept : (m len j : ℕ) → ((m ≡ l) → (j ≡ x.span.gone) → ⊥) → value_of new m len j ≡ value_of t m len j
  value_kept m len j other =
      ap (λ p. option_map (take (len - j * t.block)) (in_block (with_block t.pool x.span.first None) p)) (place_kept m j other)
      ∙ ap (option_map (take (len - j * t.block))) (content_kept m j other)

  value_lost : (len : ℕ) → value_of new l len x.span.gone ≡ None
  value_lost len =
      let lost = place_lost in
      ap (option_map (take (len - x.span.gone * t.block))) (get_or_past (set t.pool.blocks x.span.first None) (place_of (set t.links.items x.span.first None) l x.span.gone) None (omega (arith, lost, table.links, length-set t.pool.blocks x.span.first None)))

  count_kept : (m j : ℕ) → ((m ≡ l) → (j ≡ x.span.gone) → ⊥) → get_or t.counts.items (place_of (set t.links.items x.span.first None) m j) 0 ≡ get_or t.counts.items (place_of t.links.items m j) 0
  count_kept m j other = ap (λ p. get_or t.counts.items p 0) (place_kept m j other)

  others_kept : (m : ℕ) (z : Entry) → m ≢ l → list_state new m z ≡ list_state t m z
  others_kept m z ne = λ i. record {
    len = z.span.len;
    tag = z.tag;
    values = tab_same (value_of new m z.span.len) (value_of t m z.span.len) z.span.filled None (λ j h. value_kept m z.span.len j (λ e d. ne e)) i;
    marks = tab_same (mark_of new m z) (mark_of t m z) (z.span.filled + 1) 0 (λ j h. ap (cond (nat_eq j z.span.filled) z.waiting) (count_kept m j (λ e d. ne e))) i;
  }

  marks_kept : (j : ℕ) → mark_of new l y j ≡ mark_of t l x j
  marks_kept j =
      elim (cases_eq j x.span.gone) [
        | inl same ↦
            let lost = place_lost in
            rw same (cond-false (nat_eq x.span.gone x.span.filled) x.waiting (get_or t.counts.items (place_of (set t.links.items x.span.first None) l x.span.gone) 0) (ne_eqb x.span.gone x.span.filled (λ e. omega (arith, e, kept)))
            ∙ get_or_past t.counts.items (place_of (set t.links.items x.span.first None) l x.span.gone) 0 (omega (arith, lost, table.links, table.counts)) ∙ sym idle)
        | inr ne ↦ ap (cond (nat_eq j x.span.filled) x.waiting) (count_kept l j (λ e d. ne d))
      ]

  list_given : list_state new l y ≡ blanked (x.span.gone + 1) (list_state t l x)
  list_given = λ i. record {
    len = x.span.len;
    tag = x.tag;
    values = sym (blank_tab (value_of t l x.span.len) (value_of new l x.span.len) x.span.filled (x.span.gone + 1) below (λ k h past. value_kept l x.span.len k (λ e d. omega (arith, past, d)))) i;
    marks = tab_same (mark_of new l y) (mark_of t l x) (x.span.filled + 1) 0 (λ j h. marks_kept j) i;
  }
    where
      below : (k : ℕ) → k < x.span.filled → k < x.span.gone + 1 → value_of new l x.span.len k ≡ None
      below k h less =
          elim (cases_eq k x.span.gone) [
            | inl same ↦ rw same (value_lost x.span.len)
            | inr ne ↦ value_kept l x.span.len k (λ e d. ne d) ∙ value_gone t table l k x.span.len x at (omega (arith, less, ne))
          ]

  loose_kept : loose_in new ≡ loose_in t
  loose_kept =
      ap (λ n. map (loose_of new) (range_with_len 0 n)) (length-set t.pool.blocks x.span.first None)
      ∙ tab_same (loose_of new) (loose_of t) (length t.pool.blocks) None (λ k h.
      elim (cases_eq k x.span.first) [
        | inl same ↦ rw same (
            ap (λ o. cond (is_some o) None (in_block (with_block t.pool x.span.first None) x.span.first)) (get_or-set_same t.links.items x.span.first None None inside)
            ∙ get_or-set_same t.pool.blocks x.span.first None None (omega (arith, inside, table.links))
            ∙ sym (cond-true (is_some (get_or t.links.items x.span.first None)) None (in_block t.pool x.span.first) (home_some _ _ home)))
        | inr ne ↦ ap (λ o. cond (is_some o) None (in_block (with_block t.pool x.span.first None) k)) (get_or-set_other t.links.items x.span.first k None None ne)
            ∙ ap (cond (is_some (get_or t.links.items k None)) None) (get_or-set_other t.pool.blocks x.span.first k None None ne)
      ])

  sets : Sets t new l (Some y)
  sets = record {
    within = entry_within t l x at;
    block = refl;
    lists = refl;
    others = λ m z ne e. others_kept m z ne;
  }

  span_here : (z : Span) → span_at new l ≡ Some z → record x.span { gone = x.span.gone + 1; first = n } ≡ z
  span_here z e = same_some (sym (ap (option_map (λ q. q.span)) (set_here t new l (Some y) sets)) ∙ e)

  span_other : (m : ℕ) → m ≢ l → span_at new m ≡ span_at t m
  span_other m ne = ap (option_map (λ q. q.span)) (set_other t new l (Some y) sets m ne)

  first_now : (m : ℕ) (z : Span) → span_at new m ≡ Some z → z.gone < z.filled → home_at (set t.links.items x.span.first None) z.first ≡ nth m z.gone
  first_now m z e more =
      elim (cases_eq m l) [
        | inl same ↦
            let is = span_here z (ap (span_at new) (sym same) ∙ e) in
            let more_left : x.span.gone + 1 < x.span.filled = subst (λ (q : Span). q.gone < q.filled) (sym is) more in
            let later = table.chain.next x.span.first l x.span.gone x.span home (span_is t l x at) more_left in
            rw same (subst (λ (q : Span). home_at (set t.links.items x.span.first None) q.first ≡ nth l q.gone) is
            (ap (home_at (set t.links.items x.span.first None)) next ∙ is_home (next_at t.links.items x.span.first) l (x.span.gone + 1) (λ e d. omega (arith, d)) later))
        | inr ne ↦ is_home z.first m z.gone (λ e d. ne e) (table.chain.first m z (sym (span_other m ne) ∙ e) more)
      ]

  last_now : (m j : ℕ) (z : Span) → span_at new m ≡ Some z → z.gone ≤ j → j + 1 ≡ z.filled → home_at (set t.links.items x.span.first None) z.last ≡ nth m j
  last_now m j z e from upto =
      elim (cases_eq m l) [
        | inl same ↦
            let is = span_here z (ap (span_at new) (sym same) ∙ e) in
            let from_now : x.span.gone + 1 ≤ j = subst (λ (q : Span). q.gone ≤ j) (sym is) from in
            let upto_now : j + 1 ≡ x.span.filled = upto ∙ sym (ap (λ (q : Span). q.filled) is) in
            rw same (subst (λ (q : Span). home_at (set t.links.items x.span.first None) q.last ≡ nth l j) is
            (is_home x.span.last l j (λ e d. omega (arith, d, from_now)) (table.chain.last l j x.span (span_is t l x at) (omega (arith, from_now)) upto_now)))
        | inr ne ↦ is_home z.last m j (λ e d. ne e) (table.chain.last m j z (sym (span_other m ne) ∙ e) from upto)
      ]

  home_now : (k m j : ℕ) → home_at (set t.links.items x.span.first None) k ≡ nth m j → (z : Span) × (span_at new m ≡ Some z) × (z.gone ≤ j) × (j < z.filled)
  home_now k m j e =
      let was = was_home k (record { list = m; number = j }) e in
      let h = table.chain.home k m j was in
      elim (cases_eq m l) [
        | inl same ↦
            let inside = home_inside t table k l j x at (was ∙ ap (λ p. nth p j) same) in
            let apart : j ≢ x.span.gone = λ d. not_first k (record { list = m; number = j }) e (table.chain.once k x.span.first l x.span.gone (was ∙ (λ i. nth (same i) (d i))) home) in
            (record x.span { gone = x.span.gone + 1; first = n }, ap (span_at new) same ∙ ap (option_map (λ q. q.span)) (set_here t new l (Some y) sets), omega (arith, inside.0, apart), inside.1)
        | inr ne ↦ (h.0, span_other m ne ∙ h.1, h.2, h.3)
      ]

  next_now : (k m j : ℕ) (z : Span) → home_at (set t.links.items x.span.first None) k ≡ nth m j → span_at new m ≡ Some z → j + 1 < z.filled
      → home_at (set t.links.items x.span.first None) (next_at (set t.links.items x.span.first None) k) ≡ nth m (j + 1)
  next_now k m j z e is more =
      let was = was_home k (record { list = m; number = j }) e in
      let h = home_now k m j e in
      let e_next : next_at (set t.links.items x.span.first None) k ≡ next_at t.links.items k = ap (λ o. option_map_or (λ q. q.next) o 0) (get_or-set_other t.links.items x.span.first k None None (not_first k (record { list = m; number = j }) e)) in
      let old = table.chain.home k m j was in
      ap (home_at (set t.links.items x.span.first None)) e_next
      ∙ elim (cases_eq m l) [
        | inl same ↦
            let is_now = span_here z (ap (span_at new) (sym same) ∙ is) in
            let d = span_here h.0 (ap (span_at new) (sym same) ∙ h.1) in
            let from : x.span.gone + 1 ≤ j = subst (λ (q : Span). q.gone ≤ j) (sym d) h.2 in
            is_home (next_at t.links.items k) m (j + 1) (λ e d. omega (arith, d, from))
            (table.chain.next k m j x.span was (ap (span_at t) same ∙ span_is t l x at) (omega (arith, more, ap (λ (q : Span). q.filled) is_now)))
        | inr ne ↦ is_home (next_at t.links.items k) m (j + 1) (λ e d. ne e) (table.chain.next k m j z was (sym (span_other m ne) ∙ is) more)
      ]

  whole_now : HoldsWholeBlocks (with_block t.pool x.span.first None)
  whole_now k =
      elim (cases_eq k x.span.first) [
        | inl same ↦ rw (same, get_or-set_same t.pool.blocks x.span.first None None (omega (arith, inside, table.links))) tt
        | inr ne ↦ rw (get_or-set_other t.pool.blocks x.span.first k None None ne) (table.whole k)
      ]

  pub IsTable-given : pool.free_of (with_block t.pool x.span.first None) ≡ pool.free_of t.pool + 1 → IsTable new
  IsTable-given free =
      let e = table.lists l x at in
      record {
        some = table.some;
        small = table.small;
        len = table.len;
        few = omega (arith, table.few, length-set t.pool.blocks x.span.first None);
        links = omega (arith, table.links, length-set t.links.items x.span.first None, length-set t.pool.blocks x.span.first None);
        counts = omega (arith, table.counts, length-set t.pool.blocks x.span.first None);
        whole = whole_now;
        chain = record {
          once = λ a k m j p q. table.chain.once a k m j (was_home a (record { list = m; number = j }) p) (was_home k (record { list = m; number = j }) q);
          home = home_now;
          first = first_now;
          last = last_now;
          next = next_now;
        };
        taken = λ k some.
            let ne : k ≢ x.span.first = λ same. none_some (sym (get_or-set_same t.links.items x.span.first None None inside) ∙ ap (λ p. get_or (set t.links.items x.span.first None) p None) (sym same) ∙ (some_is _ some).1) in
            subst IsSome (sym (get_or-set_other t.pool.blocks x.span.first k None None ne)) (table.taken k (subst IsSome (get_or-set_other t.links.items x.span.first k None None ne) some));
        lists = entries_set t new l (Some y) sets table (λ z is. subst (IsEntry new l) (same_some is) (record {
          short = e.short;
          tagged = e.tagged;
          order = omega (arith, kept);
          filled = e.filled;
          counted = e.counted ∙ sym (ap (λ s. sum s.marks) list_given);
          few = e.few;
        }));
        counted =
            let lost = sum_by-set kept_in t.lists l (Some y) None (entry_within t l x at) in
            let was = ap kept_in at in
            omega (arith, table.counted, free, lost, was, kept, length-set t.pool.blocks x.span.first None, ap (count_by is_some) loose_kept);
      }
    where
      some_is : {A : Type 0} (o : Option A) → IsSome o → (a : A) × (o ≡ Some a)
      some_is None some = absurd cc
      some_is (Some a) some = (a, refl)

  pub first_given : pool.free_of (with_block t.pool x.span.first None) ≡ pool.free_of t.pool + 1 → GivesTo t new l (x.span.gone + 1)
  first_given free = record {
    was = x;
    now = y;
    changes = changed t new l (blanked (x.span.gone + 1)) x y (IsTable-given free) at sets refl list_given loose_kept;
    gone = refl;
    filled = refl;
  }

pub first_there : (t : Table) (l : ℕ) (x : Entry) → IsTable t → entry_at t l ≡ Some x → x.span.gone < x.span.filled → IsSome (get_or t.links.items x.span.first None) × (x.span.first < length t.links.items)
first_there t l x table at kept =
    let home = table.chain.first l x.span (span_is t l x at) kept in
    (home_some _ _ home, home_within t.links.items x.span.first (record { list = l; number = x.span.gone }) home)

-- the same, by the pool that was made and the list that was asked for
pub gives_first : (t : Table) (l : ℕ) (x z : Entry) (n : ℕ) (p : Blocks ℤ) → IsTable t → entry_at t l ≡ Some x → (x.span.gone < x.span.filled) × (mark_of t l x x.span.gone ≡ 0) → n ≡ next_at t.links.items x.span.first
    → p ≡ with_block t.pool x.span.first None → pool.free_of p ≡ pool.free_of t.pool + 1 → entry_at t l ≡ Some z
    → GivesTo t (record t { pool = p; links = with_item t.links x.span.first None; lists = set t.lists l (Some (record x { span = record x.span { gone = x.span.gone + 1; first = n } })) }) l (z.span.gone + 1)
gives_first t l x z n p table at idle next is free there =
    let gives = first_given t l x n table at idle.0 idle.1 next (subst (λ q. pool.free_of q ≡ pool.free_of t.pool + 1) is free) in
    subst (λ (q : Entry). GivesTo t (record t { pool = p; links = with_item t.links x.span.first None; lists = set t.lists l (Some (record x { span = record x.span { gone = x.span.gone + 1; first = n } })) }) l (q.span.gone + 1)) (same_some (sym at ∙ there))
    (subst (λ q. GivesTo t (record t { pool = q; links = with_item t.links x.span.first None; lists = set t.lists l (Some (record x { span = record x.span { gone = x.span.gone + 1; first = n } })) }) l (x.span.gone + 1)) (sym is) gives)
