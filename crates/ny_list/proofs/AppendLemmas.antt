-- A block more of a list.
use Rattle.std.proofs.Common.{◌≡◌, ◌≢◌, ◌⊎◌, inl, inr, ℕ, ◌+◌, ◌-◌, ◌*◌, ◌<◌, ◌≤◌, cond, nat_eq, nat_lt, List, [], ◌∷◌, ◌++◌, length, take, get_or, set, Option, None, Some, IsSome, is_some, count_by, refl, sym, ap, subst, ◌∙◌, arith, length-set, ℤ}
use Rattle.std.proofs.lemmas.List.{get_or-set_same, get_or-set_other, get_or_past, with_items_is}
use Rattle.std.proofs.lemmas.List.Folds.{position_or_len-set}
use Rattle.std.proofs.lemmas.List.FromFn.{length-map-range_with_len}
use Rattle.std.proofs.lemmas.List.Sums.{sum_by-set, sum_by-append}
use Rattle.std.proofs.lemmas.Bool.{cases_eq, cases_lt, cond-true, cond-false, eq-eqb, ne_eqb, lt-ltb, le-ltb}
use Rattle.std.specs.Option.{option_map, option_map_or}
use Rattle.std.specs.List.{sum}
use Rattle.std.specs.Vec.{with_item, with_items}
use Rattle.std.specs.declared.vec.Vec.{Vec}
use Rattle.std.specs.Global.{Global}
use Rattle.ny_pool.specs.Blocks.{in_block}
use Rattle.ny_list.specs.declared.chain.Link.{Link}
use Rattle.ny_list.specs.declared.chain.Span.{Span}
use Rattle.ny_list.specs.declared.table.Entry.{Entry}
use Rattle.ny_list.specs.declared.table.Table.{Table}
use Rattle.ny_list.specs.Store.{list_at, blocks_of}
use Rattle.ny_list.specs.Steps.{filled_with}
use Rattle.ny_list.specs.Chain.{Home, nth, home_of, home_at, next_at, is_block, place_of, with_next, longer, IsChained}
use Rattle.ny_list.specs.Table.{entry_at, span_at, value_of, mark_of, list_state, loose_of, loose_in, state_of, kept_in, IsEntry, IsTable, AppendsWith}
use Rattle.ny_list.proofs.IndexLemmas.{same_some, none_some, tab_get, tab_same, tab_set, tab_push}
use Rattle.ny_list.proofs.ChainLemmas.{home_some, place_home, place_is, place_other, pair_first, pair_second}
use Rattle.ny_list.proofs.StateLemmas.{entry_within, span_is, list_seen, home_inside, Sets, set_here, set_other, lists_set, entries_set}

-- ---- the last block leads to another

-- the same blocks stand in the same places, and the last leads to b
pub record Leads (old new : List (Option Link)) (x : Span) (b : ℕ) : Type 0 where
  pub len : length new ≡ length old
  pub homes : (k : ℕ) → home_at new k ≡ home_at old k
  pub places : (l j : ℕ) → place_of new l j ≡ place_of old l j
  pub next : x.gone < x.filled → next_at new x.last ≡ b
  pub others : (k : ℕ) → (x.gone < x.filled → k ≢ x.last) → next_at new k ≡ next_at old k

pub leads : (old : List (Option Link)) (x : Span) (b : ℕ) → (x.gone < x.filled → IsSome (get_or old x.last None)) → Leads old (with_next x b old) x b
leads old x b some =
    elim (cases_lt x.gone x.filled) [
      | inl more ↦ subst (λ new. Leads old new x b) (sym (cond-true (nat_lt x.gone x.filled) (set old x.last (option_map {T = Link} {U = Link} (λ k. record k { next = b }) (get_or old x.last None))) old (lt-ltb x.gone x.filled more))) (record {
        len = length-set old x.last (option_map {T = Link} {U = Link} (λ k. record k { next = b }) (get_or old x.last None));
        homes = λ k.
            elim (cases_eq k x.last) [
              | inl same ↦ rw same (ap home_of (get_or-set_same old x.last (option_map {T = Link} {U = Link} (λ k. record k { next = b }) (get_or old x.last None)) None (inside more)) ∙ led_home (get_or old x.last None))
              | inr ne ↦ ap home_of (get_or-set_other old x.last k (option_map {T = Link} {U = Link} (λ k. record k { next = b }) (get_or old x.last None)) None ne)
            ];
        places = λ l j. position_or_len-set (is_block l j) old x.last (option_map {T = Link} {U = Link} (λ k. record k { next = b }) (get_or old x.last None)) None (led_block l j (get_or old x.last None));
        next = λ h. ap (λ o. option_map_or (λ k. k.next) o 0) (get_or-set_same old x.last (option_map {T = Link} {U = Link} (λ k. record k { next = b }) (get_or old x.last None)) None (inside more)) ∙ led_next (get_or old x.last None) (some more);
        others = λ k ne. ap (λ o. option_map_or (λ k. k.next) o 0) (get_or-set_other old x.last k (option_map {T = Link} {U = Link} (λ k. record k { next = b }) (get_or old x.last None)) None (ne more));
      })
      | inr none ↦ subst (λ new. Leads old new x b) (sym (cond-false (nat_lt x.gone x.filled) (set old x.last (option_map {T = Link} {U = Link} (λ k. record k { next = b }) (get_or old x.last None))) old (le-ltb x.gone x.filled none))) (record {
        len = refl;
        homes = λ k. refl;
        places = λ l j. refl;
        next = λ h. absurd (omega (arith, h, none));
        others = λ k ne. refl;
      })
    ]
  where
    led_home : (o : Option Link) → home_of (option_map {T = Link} {U = Link} (λ k. record k { next = b }) o) ≡ home_of o
    led_home None = refl
    led_home (Some k) = refl

    led_block : (l j : ℕ) (o : Option Link) → is_block l j (option_map {T = Link} {U = Link} (λ k. record k { next = b }) o) ≡ is_block l j o
    led_block l j None = refl
    led_block l j (Some k) = refl

    led_next : (o : Option Link) → IsSome o → option_map_or (λ k. k.next) (option_map {T = Link} {U = Link} (λ k. record k { next = b }) o) 0 ≡ b
    led_next None s = absurd cc
    led_next (Some k) s = refl

    inside : x.gone < x.filled → x.last < length old
    inside more =
        elim (cases_lt x.last (length old)) [
          | inl h ↦ h
          | inr past ↦ absurd (none_is (get_or old x.last None) (get_or_past old x.last None past) (some more))
        ]
      where
        none_is : (o : Option Link) → o ≡ None → IsSome o → ⊥
        none_is None e s = cc
        none_is (Some k) e s = cc

-- ---- the table with a block more

module _ (t : Table) (l b : ℕ) (samples : List ℤ) (x : Entry) (ks : Vec (Option Link) Global) (ls : List (Option Link)) (table : IsTable t) (at : entry_at t l ≡ Some x)
    (unfilled : x.span.filled < blocks_of t.block x.span.len) (loose : get_or t.links.items b None ≡ None) (holds : in_block t.pool b ≡ Some samples) (led : Leads t.links.items ls x.span b)
    (is : ks.items ≡ set ls b (Some (record { list = l; number = x.span.filled; next = b }))) where
  abbrev pub y : Entry
  y = record x { span = longer x.span b; waiting = 0 }

  abbrev pub new : Table
  new = record t {
    links = ks;
    counts = with_item t.counts b x.waiting;
    lists = set t.lists l (Some (record x { span = longer x.span b; waiting = 0 }));
  }

  abbrev here : Option Link
  here = Some (record { list = l; number = x.span.filled; next = b })

  in_pool : b < length t.pool.blocks
  in_pool =
      elim (cases_lt b (length t.pool.blocks)) [
        | inl h ↦ h
        | inr past ↦ absurd (none_some (sym (get_or_past t.pool.blocks b None past) ∙ holds))
      ]

  inside : b < length ls
  inside = omega (arith, in_pool, led.len, table.links)

  links_len : length ks.items ≡ length t.links.items
  links_len = ap length is ∙ length-set ls b here ∙ led.len

  old_home : home_at t.links.items b ≡ None
  old_home = ap home_of loose

  home_new : home_at ks.items b ≡ nth l x.span.filled
  home_new = ap (λ links. home_at links b) is ∙ ap home_of (get_or-set_same ls b here None inside)

  home_old : (k : ℕ) → k ≢ b → home_at ks.items k ≡ home_at t.links.items k
  home_old k ne = ap (λ links. home_at links k) is ∙ ap home_of (get_or-set_other ls b k here None ne) ∙ led.homes k

  -- a block that is in a list is not this one
  apart : (k : ℕ) (h : Home) → home_at t.links.items k ≡ Some h → k ≢ b
  apart k h e same = none_some (sym old_home ∙ ap (home_at t.links.items) (sym same) ∙ e)

  is_home : (k : ℕ) (h : Home) → home_at t.links.items k ≡ Some h → home_at ks.items k ≡ Some h
  is_home k h e = home_old k (apart k h e) ∙ e

  was_home : (k m j : ℕ) → home_at ks.items k ≡ nth m j → ((k ≡ b) × (m ≡ l) × (j ≡ x.span.filled)) ⊎ (home_at t.links.items k ≡ nth m j)
  was_home k m j e =
      elim (cases_eq k b) [
        | inl same ↦
            let twice : nth m j ≡ nth l x.span.filled = sym e ∙ ap (home_at ks.items) same ∙ home_new in
            inl (same, pair_first twice, pair_second twice)
        | inr ne ↦ inr (sym (home_old k ne) ∙ e)
      ]

  place_kept : (m j : ℕ) → ((m ≡ l) → (j ≡ x.span.filled) → ⊥) → place_of ks.items m j ≡ place_of t.links.items m j
  place_kept m j other =
      ap (λ links. place_of links m j) is
      ∙ place_other ls m j b here (λ e. none_some (sym (led.homes b ∙ old_home) ∙ e)) (λ e. other (sym (pair_first e)) (sym (pair_second e)))
      ∙ led.places m j

  -- no block of a list is found where the new one is
  place_apart : (m j : ℕ) → place_of t.links.items m j ≢ b
  place_apart m j same = apart b (record { list = m; number = j }) (ap (home_at t.links.items) (sym same) ∙ place_home t.links.items m j (omega (arith, same, in_pool, table.links))) refl

  count_kept : (m j : ℕ) → ((m ≡ l) → (j ≡ x.span.filled) → ⊥) → get_or (set t.counts.items b x.waiting) (place_of ks.items m j) 0 ≡ get_or t.counts.items (place_of t.links.items m j) 0
  count_kept m j other = ap (λ p. get_or (set t.counts.items b x.waiting) p 0) (place_kept m j other) ∙ get_or-set_other t.counts.items b (place_of t.links.items m j) x.waiting 0 (place_apart m j)

  value_kept : (m len j : ℕ) → ((m ≡ l) → (j ≡ x.span.filled) → ⊥) → value_of new m len j ≡ value_of t m len j
  value_kept m len j other = ap (λ p. option_map (take (len - j * t.block)) (in_block t.pool p)) (place_kept m j other)

  others_kept : (m : ℕ) (z : Entry) → m ≢ l → list_state new m z ≡ list_state t m z
  others_kept m z ne = λ i. record {
    len = z.span.len;
    tag = z.tag;
    values = tab_same (value_of new m z.span.len) (value_of t m z.span.len) z.span.filled None (λ j h. value_kept m z.span.len j (λ e d. ne e)) i;
    marks = tab_same (mark_of new m z) (mark_of t m z) (z.span.filled + 1) 0 (λ j h. ap (cond (nat_eq j z.span.filled) z.waiting) (count_kept m j (λ e d. ne e))) i;
  }

  sets : Sets t new l (Some y)
  sets = record {
    within = entry_within t l x at;
    block = refl;
    lists = refl;
    others = λ m z ne e. others_kept m z ne;
  }

  span_here : (z : Span) → span_at new l ≡ Some z → longer x.span b ≡ z
  span_here z e = same_some (sym (ap (option_map (λ q. q.span)) (set_here t new l (Some y) sets)) ∙ e)

  span_now : span_at new l ≡ Some (longer x.span b)
  span_now = ap (option_map (λ q. q.span)) (set_here t new l (Some y) sets)

  span_other : (m : ℕ) → m ≢ l → span_at new m ≡ span_at t m
  span_other m ne = ap (option_map (λ q. q.span)) (set_other t new l (Some y) sets m ne)

  once_now : (a k m j : ℕ) → home_at ks.items a ≡ nth m j → home_at ks.items k ≡ nth m j → a ≡ k
  once_now a k m j p q =
      elim (was_home a m j p) [
        | inl here ↦
            elim (was_home k m j q) [
              | inl there ↦ here.0 ∙ sym there.0
              | inr old ↦ absurd (not_yet k m j here.1 here.2 old)
            ]
        | inr old ↦
            elim (was_home k m j q) [
              | inl there ↦ absurd (not_yet a m j there.1 there.2 old)
              | inr older ↦ table.chain.once a k m j old older
            ]
      ]
    where
      not_yet : (k m j : ℕ) → m ≡ l → j ≡ x.span.filled → home_at t.links.items k ≡ nth m j → ⊥
      not_yet k m j e d old = let h = (home_inside t table k l j x at (old ∙ ap (λ p. nth p j) e)).1 in omega (arith, h, d)

  home_now : (k m j : ℕ) → home_at ks.items k ≡ nth m j → (z : Span) × (span_at new m ≡ Some z) × (z.gone ≤ j) × (j < z.filled)
  home_now k m j e =
      elim (was_home k m j e) [
        | inl here ↦ (longer x.span b, ap (span_at new) here.1 ∙ span_now, omega (arith, here.2, (table.lists l x at).order), omega (arith, here.2))
        | inr old ↦
            elim (cases_eq m l) [
              | inl same ↦ let h = home_inside t table k l j x at (old ∙ ap (λ p. nth p j) same) in (longer x.span b, ap (span_at new) same ∙ span_now, h.0, omega (arith, h.1))
              | inr ne ↦ let h = table.chain.home k m j old in (h.0, span_other m ne ∙ h.1, h.2, h.3)
            ]
      ]

  first_now : (m : ℕ) (z : Span) → span_at new m ≡ Some z → z.gone < z.filled → home_at ks.items z.first ≡ nth m z.gone
  first_now m z e more =
      elim (cases_eq m l) [
        | inl same ↦ rw same (subst (λ (q : Span). home_at ks.items q.first ≡ nth l q.gone) (span_here z (ap (span_at new) (sym same) ∙ e)) first)
        | inr ne ↦ is_home z.first (record { list = m; number = z.gone }) (table.chain.first m z (sym (span_other m ne) ∙ e) more)
      ]
    where
      first : home_at ks.items (cond (nat_eq x.span.gone x.span.filled) b x.span.first) ≡ nth l x.span.gone
      first =
          elim (cases_eq x.span.gone x.span.filled) [
            | inl none ↦ ap (home_at ks.items) (cond-true (nat_eq x.span.gone x.span.filled) b x.span.first (eq-eqb x.span.gone x.span.filled none)) ∙ home_new ∙ ap (nth l) (sym none)
            | inr some ↦ ap (home_at ks.items) (cond-false (nat_eq x.span.gone x.span.filled) b x.span.first (ne_eqb x.span.gone x.span.filled some))
                ∙ is_home x.span.first (record { list = l; number = x.span.gone }) (table.chain.first l x.span (span_is t l x at) (omega (arith, some, (table.lists l x at).order)))
          ]

  last_now : (m j : ℕ) (z : Span) → span_at new m ≡ Some z → z.gone ≤ j → j + 1 ≡ z.filled → home_at ks.items z.last ≡ nth m j
  last_now m j z e from upto =
      elim (cases_eq m l) [
        | inl same ↦
            let here = span_here z (ap (span_at new) (sym same) ∙ e) in
            let last : j ≡ x.span.filled = omega (arith, upto, ap (λ (q : Span). q.filled) here) in
            rw same (subst (λ (q : Span). home_at ks.items q.last ≡ nth l j) here (home_new ∙ ap (nth l) (sym last)))
        | inr ne ↦ is_home z.last (record { list = m; number = j }) (table.chain.last m j z (sym (span_other m ne) ∙ e) from upto)
      ]

  -- where a block of a list leads that is not its last
  leads_on : (k : ℕ) (h : Home) → home_at t.links.items k ≡ Some h → (x.span.gone < x.span.filled → k ≢ x.span.last) → next_at ks.items k ≡ next_at t.links.items k
  leads_on k h e ne = ap (λ links. next_at links k) is ∙ ap (λ o. option_map_or (λ q. q.next) o 0) (get_or-set_other ls b k here None (apart k h e)) ∙ led.others k ne

  last_home : x.span.gone < x.span.filled → (j : ℕ) → j + 1 ≡ x.span.filled → home_at t.links.items x.span.last ≡ nth l j
  last_home more j e = table.chain.last l j x.span (span_is t l x at) (omega (arith, more, e)) e

  next_now : (k m j : ℕ) (z : Span) → home_at ks.items k ≡ nth m j → span_at new m ≡ Some z → j + 1 < z.filled → home_at ks.items (next_at ks.items k) ≡ nth m (j + 1)
  next_now k m j z e at_new more =
      elim (was_home k m j e) [
        | inl here ↦
            let is = span_here z (ap (span_at new) (sym here.1) ∙ at_new) in
            absurd (omega (arith, more, here.2, ap (λ (q : Span). q.filled) is))
        | inr old ↦
            elim (cases_eq m l) [
              | inl same ↦
                  let is = span_here z (ap (span_at new) (sym same) ∙ at_new) in
                  let less : j < x.span.filled = omega (arith, more, ap (λ (q : Span). q.filled) is) in
                  rw same (in_list (old ∙ ap (λ p. nth p j) same) less)
              | inr ne ↦
                  ap (home_at ks.items) (leads_on k (record { list = m; number = j }) old (λ some e. ne (pair_first (sym old ∙ ap (home_at t.links.items) e ∙ last_home some (x.span.filled - 1) (omega (arith, some))))))
                  ∙ is_home (next_at t.links.items k) (record { list = m; number = j + 1 }) (table.chain.next k m j z old (sym (span_other m ne) ∙ at_new) more)
            ]
      ]
    where
      in_list : home_at t.links.items k ≡ nth l j → j < x.span.filled → home_at ks.items (next_at ks.items k) ≡ nth l (j + 1)
      in_list old less =
          let from = (home_inside t table k l j x at old).0 in
          elim (cases_eq (j + 1) x.span.filled) [
            | inl last ↦
                let some : x.span.gone < x.span.filled = omega (arith, from, last) in
                let is_last : k ≡ x.span.last = table.chain.once k x.span.last l j old (last_home some j last) in
                let next : next_at ks.items k ≡ b = ap (λ links. next_at links k) is ∙ ap (λ o. option_map_or (λ q. q.next) o 0) (get_or-set_other ls b k here None (apart k (record { list = l; number = j }) old)) ∙ ap (next_at ls) is_last ∙ led.next some in
                ap (home_at ks.items) next ∙ home_new ∙ ap (nth l) (sym last)
            | inr before ↦
                ap (home_at ks.items) (leads_on k (record { list = l; number = j }) old (λ some e. let d = pair_second (sym old ∙ ap (home_at t.links.items) e ∙ last_home some (x.span.filled - 1) (omega (arith, some))) in omega (arith, d, before, some)))
                ∙ is_home (next_at t.links.items k) (record { list = l; number = j + 1 }) (table.chain.next k l j x.span old (span_is t l x at) (omega (arith, less, before)))
          ]

  chain_now : IsChained ks.items (span_at new)
  chain_now = record {
    once = once_now;
    home = home_now;
    first = first_now;
    last = last_now;
    next = next_now;
  }

  place_new : place_of ks.items l x.span.filled ≡ b
  place_new = place_is ks.items (span_at new) chain_now l x.span.filled b home_new

  value_new : value_of new l x.span.len x.span.filled ≡ Some (take (x.span.len - x.span.filled * t.block) samples)
  value_new = ap (λ p. option_map (take (x.span.len - x.span.filled * t.block)) (in_block t.pool p)) place_new ∙ ap (option_map (take (x.span.len - x.span.filled * t.block))) holds

  mark_kept : (k : ℕ) → k < x.span.filled + 1 → mark_of new l y k ≡ mark_of t l x k
  mark_kept k h =
      cond-false (nat_eq k (x.span.filled + 1)) 0 (get_or (set t.counts.items b x.waiting) (place_of ks.items l k) 0) (ne_eqb k (x.span.filled + 1) (λ e. omega (arith, e, h)))
      ∙ elim (cases_eq k x.span.filled) [
        | inl last ↦ rw last (
            ap (λ p. get_or (set t.counts.items b x.waiting) p 0) place_new ∙ get_or-set_same t.counts.items b x.waiting 0 (omega (arith, in_pool, table.counts))
            ∙ sym (cond-true (nat_eq x.span.filled x.span.filled) x.waiting (get_or t.counts.items (place_of t.links.items l x.span.filled) 0) (eq-eqb x.span.filled x.span.filled refl)))
        | inr ne ↦ count_kept l k (λ e d. ne d) ∙ sym (cond-false (nat_eq k x.span.filled) x.waiting (get_or t.counts.items (place_of t.links.items l k) 0) (ne_eqb k x.span.filled ne))
      ]

  marks_now : (list_state new l y).marks ≡ (list_state t l x).marks ++ 0 ∷ []
  marks_now =
      sym (tab_push (mark_of t l x) (mark_of new l y) (x.span.filled + 1) 0 0 (λ k h. sym (mark_kept k h))
      (cond-true (nat_eq (x.span.filled + 1) (x.span.filled + 1)) 0 (get_or (set t.counts.items b x.waiting) (place_of ks.items l (x.span.filled + 1)) 0) (eq-eqb (x.span.filled + 1) (x.span.filled + 1) refl)))

  values_now : (list_state new l y).values ≡ (list_state t l x).values ++ Some (take (x.span.len - length (list_state t l x).values * t.block) samples) ∷ []
  values_now =
      sym (tab_push (value_of t l x.span.len) (value_of new l x.span.len) x.span.filled (Some (take (x.span.len - x.span.filled * t.block) samples)) None
      (λ k h. sym (value_kept l x.span.len k (λ e d. omega (arith, d, h)))) value_new)
      ∙ ap (λ n. (list_state t l x).values ++ Some (take (x.span.len - n * t.block) samples) ∷ []) (sym (length-map-range_with_len (value_of t l x.span.len) 0 x.span.filled))

  list_now : list_state new l y ≡ filled_with t.block samples (list_state t l x)
  list_now = λ i. record {
    len = x.span.len;
    tag = x.tag;
    values = values_now i;
    marks = marks_now i;
  }

  link_other : (k : ℕ) → k ≢ b → is_some (get_or ks.items k None) ≡ is_some (get_or t.links.items k None)
  link_other k ne = ap (λ links. is_some (get_or links k None)) is ∙ ap is_some (get_or-set_other ls b k here None ne) ∙ by_home (get_or ls k None) (get_or t.links.items k None) (led.homes k)
    where
      by_home : (o p : Option Link) → home_of o ≡ home_of p → is_some o ≡ is_some p
      by_home None None e = refl
      by_home None (Some q) e = absurd (none_some e)
      by_home (Some q) None e = absurd (none_some (sym e))
      by_home (Some q) (Some r) e = refl

  loose_now : loose_in new ≡ set (loose_in t) b None
  loose_now =
      sym (tab_set (loose_of t) (loose_of new) (length t.pool.blocks) b None None in_pool
      (cond-true (is_some (get_or ks.items b None)) None (in_block t.pool b) (home_some _ _ home_new))
      (λ k h ne. ap (λ test. cond test None (in_block t.pool k)) (link_other k ne)))

  IsTable-appended : IsTable new
  IsTable-appended =
      let e = table.lists l x at in
      record {
        some = table.some;
        small = table.small;
        len = table.len;
        few = table.few;
        links = links_len ∙ table.links;
        counts = length-set t.counts.items b x.waiting ∙ table.counts;
        whole = table.whole;
        chain = chain_now;
        taken = λ k some.
            elim (cases_eq k b) [
              | inl same ↦ rw same (ap is_some holds)
              | inr ne ↦ table.taken k (sym (link_other k ne) ∙ some)
            ];
        lists = entries_set t new l (Some y) sets table (λ z eq. subst (IsEntry new l) (same_some eq) (record {
          short = e.short;
          tagged = e.tagged;
          order = omega (arith, e.order);
          filled = omega (arith, unfilled);
          counted = e.counted ∙ sym (ap sum marks_now ∙ sum_by-append (λ n. n) (list_state t l x).marks (0 ∷ []) ∙ omega arith);
          few = e.few;
        }));
        counted =
            let more = sum_by-set kept_in t.lists l (Some y) None (entry_within t l x at) in
            let was = ap kept_in at in
            let less = sum_by-set (λ o. cond (is_some o) 1 0) (loose_in t) b None None (omega (arith, in_pool, length-map-range_with_len (loose_of t) 0 (length t.pool.blocks))) in
            let lost = ap (λ o. cond {A = ℕ} (is_some o) 1 0) (tab_get (loose_of t) (length t.pool.blocks) b None in_pool ∙ loose_was) in
            omega (arith, table.counted, more, was, less, lost, e.order, ap (count_by is_some) loose_now);
      }
    where
      loose_was : loose_of t b ≡ Some samples
      loose_was = ap (λ o. cond (is_some o) None (in_block t.pool b)) loose ∙ holds

  pub appends : AppendsWith t new l b samples (λ s. s) x y
  appends = record {
    there = at;
    table = IsTable-appended;
    block = refl;
    state = λ i. record { block = t.block; lists = lists i; loose = loose_now i };
    after = set_here t new l (Some y) sets;
    others = set_other t new l (Some y) sets;
  }
    where
      lists : (state_of new).lists ≡ set (state_of t).lists l (option_map (λ s. filled_with t.block samples s) (list_at (state_of t) l))
      lists =
          lists_set t new l (Some y) sets
          ∙ ap (set (state_of t).lists l) (ap Some list_now ∙ sym (ap (option_map (λ s. filled_with t.block samples s)) (list_seen t l x at)))

-- the last block of a list that keeps any is there
pub leads_from : (t : Table) (l : ℕ) (x : Entry) → IsTable t → entry_at t l ≡ Some x → x.span.gone < x.span.filled → IsSome (get_or t.links.items x.span.last None)
leads_from t l x table at more = home_some _ _ (table.chain.last l (x.span.filled - 1) x.span (span_is t l x at) (omega (arith, more)) (omega (arith, more)))

-- the same, as it is written
pub appended : (t : Table) (l b : ℕ) (samples : List ℤ) (x : Entry) (z : Span) (ls : List (Option Link)) → IsTable t → entry_at t l ≡ Some x → x.span.filled < blocks_of t.block x.span.len → get_or t.links.items b None ≡ None
    → in_block t.pool b ≡ Some samples → z ≡ longer x.span b → ls ≡ with_next x.span b t.links.items
    → (was : Entry) × (now : Entry) × AppendsWith t (record t {
      links = with_item (with_items t.links ls) b (Some (record { list = l; number = x.span.filled; next = b }));
      counts = with_item t.counts b x.waiting;
      lists = set t.lists l (Some (record x { span = z; waiting = 0 }));
    }) l b samples (λ s. s) was now
appended t l b samples x z ls table at unfilled loose holds span is =
    let led = subst (λ q. Leads t.links.items q x.span b) (sym is) (leads t.links.items x.span b (leads_from t l x table at)) in
    let ks = with_item (with_items t.links ls) b (Some (record { list = l; number = x.span.filled; next = b })) in
    let items = ap (λ q. set q b (Some (record { list = l; number = x.span.filled; next = b }))) (with_items_is t.links ls (omega (arith, led.len, t.links.ok.0))) in (
      x,
      record x { span = z; waiting = 0 },
      subst (λ (q : Span). AppendsWith t (record t {
        links = ks;
        counts = with_item t.counts b x.waiting;
        lists = set t.lists l (Some (record x { span = q; waiting = 0 }));
      }) l b samples (λ s. s) x (record x { span = q; waiting = 0 })) (sym span) (appends t l b samples x ks ls table at unfilled loose holds led items),
    )
