-- What holds of every store.
use Rattle.std.proofs.Common.{◌≡◌, inl, inr, ℕ, zero, suc, ◌+◌, ◌-◌, ◌*◌, ◌<◌, ◌≤◌, min, cond, List, length, take, get_or, Option, None, Some, IsSome, is_some, refl, sym, ap, subst, ◌∙◌, arith, ℤ}
use Rattle.std.proofs.lemmas.List.{length-take}
use Rattle.std.proofs.lemmas.List.FromFn.{length-map-range_with_len}
use Rattle.std.proofs.lemmas.Bool.{cases_lt}
use Rattle.std.specs.Option.{option_map}
use Rattle.ny_pool.specs.Blocks.{in_block}
use Rattle.ny_list.specs.declared.chain.Link.{Link}
use Rattle.ny_list.specs.declared.table.Entry.{Entry}
use Rattle.ny_list.specs.declared.table.Table.{Table}
use Rattle.ny_list.specs.Store.{loose_at, least}
use Rattle.ny_list.specs.Laws.{ListLaws, StoreLaws}
use Rattle.ny_list.specs.Chain.{nth, home_at}
use Rattle.ny_list.specs.Table.{entry_at, value_of, list_state, loose_of, state_of, IsTable, IsStore}
use Rattle.ny_list.proofs.IndexLemmas.{same_some, none_some, tab_get, tab_past}
use Rattle.ny_list.proofs.ChainLemmas.{home_some}
use Rattle.ny_list.proofs.StateLemmas.{span_is, list_there, value_gone, value_kept}
use Rattle.ny_list.proofs.CursorLemmas.{mark_seen, marks_len}
use Rattle.ny_list.proofs.SettleLemmas.{least_at}
use Rattle.ny_list.proofs.LooseLemmas.{gone_least, taken_seen}

-- each block that a list keeps is somewhere
block_there : (t : Table) (l : ℕ) (x : Entry) → IsTable t → entry_at t l ≡ Some x → (n : ℕ) → x.span.gone + n < x.span.filled → (b : ℕ) × (home_at t.links.items b ≡ nth l (x.span.gone + n))
block_there t l x table at zero h =
    let e : x.span.gone + 0 ≡ x.span.gone = omega arith in
    (x.span.first, table.chain.first l x.span (span_is t l x at) (omega (arith, h)) ∙ ap (nth l) (sym e))
block_there t l x table at (suc n) h =
    let before = block_there t l x table at n (omega (arith, h)) in
    let e : x.span.gone + n + 1 ≡ x.span.gone + suc n = omega arith in
    (Rattle.ny_list.specs.Chain.next_at t.links.items before.0, table.chain.next before.0 l (x.span.gone + n) x.span before.1 (span_is t l x at) (omega (arith, h)) ∙ ap (nth l) e)

some_is : {A : Type 0} (o : Option A) → IsSome o → (a : A) × (o ≡ Some a)
some_is None some = absurd cc
some_is (Some a) some = (a, refl)

none_not : {A : Type 0} (o : Option A) → o ≡ None → IsSome o → ⊥
none_not None e s = cc
none_not (Some a) e s = cc

-- what is seen of a block that is kept
block_seen : (t : Table) (l : ℕ) (x : Entry) (j : ℕ) → IsTable t → entry_at t l ≡ Some x → x.span.gone ≤ j → j < x.span.filled
    → (c : List ℤ) × (length c ≡ t.block) × (get_or (list_state t l x).values j None ≡ Some (take (x.span.len - j * t.block) c))
block_seen t l x j table at from below =
    let n = j - x.span.gone in
    let e : x.span.gone + n ≡ j = omega (arith, from) in
    let found = block_there t l x table at n (omega (arith, e, below)) in
    let home : home_at t.links.items found.0 ≡ nth l j = found.1 ∙ ap (nth l) e in
    let held = some_is (in_block t.pool found.0) (table.taken found.0 (home_some _ _ home)) in
    (held.0, whole found.0 held.0 held.1, tab_get (value_of t l x.span.len) x.span.filled j None below ∙ value_kept t table found.0 l j x.span.len home ∙ ap (option_map (take (x.span.len - j * t.block))) held.1)
  where
    whole : (b : ℕ) (c : List ℤ) → in_block t.pool b ≡ Some c → length c ≡ t.block
    whole b c e = (subst (λ o. Rattle.std.specs.Prelude.IfSome o (λ items. length items ≡ t.pool.len)) e (table.whole b)) ∙ table.len

list_laws : (t : Table) (l : ℕ) (x : Entry) → IsStore t → entry_at t l ≡ Some x → ListLaws t.block (list_state t l x)
list_laws t l x store at =
    let v = store.table in
    let e = v.lists l x at in
    let len = length-map-range_with_len (value_of t l x.span.len) 0 x.span.filled in
    record {
      short = e.short;
      tagged = e.tagged;
      filled = omega (arith, e.filled, len);
      marks = omega (arith, len, marks_len t l x);
      few = omega (arith, e.few, e.counted);
      kept = λ j h. ((λ some. kept_to j (omega (arith, h, len)) some), (λ h2. kept_from j (omega (arith, h, len)) h2));
      whole = whole;
    }
  where
    kept_to : (j : ℕ) → j < x.span.filled → IsSome (get_or (list_state t l x).values j None) → least (list_state t l x).marks ≤ j
    kept_to j h some =
        elim (cases_lt j x.span.gone) [
          | inl before ↦ absurd (none_not (get_or (list_state t l x).values j None) (tab_get (value_of t l x.span.len) x.span.filled j None h ∙ value_gone t store.table l j x.span.len x at before) some)
          | inr from ↦
              let more : x.span.gone < x.span.filled = omega (arith, h, from) in
              let first = least_at (list_state t l x).marks x.span.gone (subst (λ n. 0 < n) (sym (mark_seen t l x x.span.gone (omega (arith, more)))) (store.settled l x at more)) in
              omega (arith, first, from)
        ]

    kept_from : (j : ℕ) → j < x.span.filled → least (list_state t l x).marks ≤ j → IsSome (get_or (list_state t l x).values j None)
    kept_from j h after =
        let seen = block_seen t l x j store.table at (omega (arith, after, gone_least t l x store.table at)) h in
        ap is_some seen.2

    whole : (j : ℕ) (samples : List ℤ) → get_or (list_state t l x).values j None ≡ Some samples → length samples ≡ min (x.span.len - j * t.block) t.block
    whole j samples is =
        elim (cases_lt j x.span.filled) [
          | inr past ↦ absurd (none_some (sym (tab_past (value_of t l x.span.len) x.span.filled j None past) ∙ is))
          | inl h ↦
              elim (cases_lt j x.span.gone) [
                | inl before ↦ absurd (none_some (sym (tab_get (value_of t l x.span.len) x.span.filled j None h ∙ value_gone t store.table l j x.span.len x at before) ∙ is))
                | inr from ↦
                    let seen = block_seen t l x j store.table at from h in
                    ap length (same_some (sym is ∙ seen.2)) ∙ length-take (x.span.len - j * t.block) seen.0 ∙ ap (min (x.span.len - j * t.block)) seen.1
              ]
        ]

pub store_laws : (t : Table) → IsStore t → StoreLaws (state_of t)
store_laws t store =
    let size = length-map-range_with_len (loose_of t) 0 (length t.pool.blocks) in
    record {
      some = store.table.some;
      small = store.table.small;
      few = omega (arith, store.table.few, size);
      taken = omega (arith, taken_seen t store);
      lists = λ l s seen. let h = list_there t l s seen in subst (ListLaws t.block) (sym h.2) (list_laws t l h.0 store h.1);
      loose = loose;
    }
  where
    inside : (o : Option Link) (p : Option (List ℤ)) (c : List ℤ) → cond (is_some o) None p ≡ Some c → p ≡ Some c
    inside None p c e = e
    inside (Some k) p c e = absurd (none_some e)

    loose : (b : ℕ) (samples : List ℤ) → loose_at (state_of t) b ≡ Some samples → length samples ≡ t.block
    loose b samples e =
        elim (cases_lt b (length t.pool.blocks)) [
          | inr past ↦ absurd (none_some (sym (tab_past (loose_of t) (length t.pool.blocks) b None past) ∙ e))
          | inl h ↦
              let held = inside (get_or t.links.items b None) (in_block t.pool b) samples (sym (tab_get (loose_of t) (length t.pool.blocks) b None h) ∙ e) in
              (subst (λ o. Rattle.std.specs.Prelude.IfSome o (λ items. length items ≡ t.pool.len)) held (store.table.whole b)) ∙ store.table.len
        ]
