-- What is seen of a table, and how it changes.
use Rattle.std.proofs.Common.{◌≡◌, ◌≢◌, inl, inr, ℕ, suc, ◌+◌, ◌-◌, ◌*◌, ◌^◌, ◌<◌, ◌≤◌, cond, nat_eq, length, take, get_or, map, set, Option, None, Some, IsSome, is_some, count_by, sum_by, refl, sym, ap, subst, ◌∙◌, arith, length-set, ℤ}
use Rattle.std.proofs.lemmas.List.{get_or-set_same, get_or-set_other, get_or_past}
use Rattle.std.proofs.Math.Nat.{suc-mul, le-mul_of_pos_right, div-lt_iff_lt-mul}
use Rattle.std.proofs.lemmas.Bool.{cases_eq, cases_lt, cond-true, cond-false, eq-eqb, ne_eqb}
use Rattle.std.specs.Option.{option_map}
use Rattle.std.specs.List.{range_with_len, sum}
use Rattle.ny_pool.specs.Blocks.{Blocks, in_block}
use Rattle.ny_list.specs.declared.chain.Span.{Span}
use Rattle.ny_list.specs.declared.table.Entry.{Entry}
use Rattle.ny_list.specs.declared.table.Table.{Table}
use Rattle.ny_list.specs.Store.{ListState, list_at, blocks_of}
use Rattle.ny_list.specs.Chain.{nth, home_at, place_of, IsChained}
use Rattle.ny_list.specs.Table.{entry_at, span_at, value_of, mark_of, list_state, loose_in, state_of, kept_in, IsEntry, IsTable, Changes}
use Rattle.ny_list.proofs.IndexLemmas.{same_some, none_some, tab_get, tab_past, tab_same, tab_set, sum_kept}
use Rattle.ny_list.proofs.ChainLemmas.{place_is, place_none}

pub entry_within : (t : Table) (l : ℕ) (x : Entry) → entry_at t l ≡ Some x → l < length t.lists
entry_within t l x e =
    elim (cases_lt l (length t.lists)) [
      | inl inside ↦ inside
      | inr past ↦ absurd (none_some (sym (get_or_past t.lists l None past) ∙ e))
    ]

pub span_is : (t : Table) (l : ℕ) (x : Entry) → entry_at t l ≡ Some x → span_at t l ≡ Some x.span
span_is t l x e = ap (option_map (λ q. q.span)) e

module _ (t : Table) (table : IsTable t) where
  pub home_inside : (b l j : ℕ) (x : Entry) → entry_at t l ≡ Some x → home_at t.links.items b ≡ nth l j → (x.span.gone ≤ j) × (j < x.span.filled)
  home_inside b l j x at home =
      let h = table.chain.home b l j home in
      let e : h.0 ≡ x.span = same_some (sym h.1 ∙ span_is t l x at) in
      (subst (λ (q : Span). q.gone ≤ j) e h.2, subst (λ (q : Span). j < q.filled) e h.3)

  pub mark_kept : (b l j : ℕ) (x : Entry) → entry_at t l ≡ Some x → home_at t.links.items b ≡ nth l j → mark_of t l x j ≡ get_or t.counts.items b 0
  mark_kept b l j x at home =
      let below = (home_inside b l j x at home).1 in
      cond-false (nat_eq j x.span.filled) x.waiting (get_or t.counts.items (place_of t.links.items l j) 0) (ne_eqb j x.span.filled (λ e. omega (arith, below, e)))
      ∙ ap (λ p. get_or t.counts.items p 0) (place_is t.links.items (span_at t) table.chain l j b home)

  pub mark_end : (l : ℕ) (x : Entry) → mark_of t l x x.span.filled ≡ x.waiting
  mark_end l x = cond-true (nat_eq x.span.filled x.span.filled) x.waiting (get_or t.counts.items (place_of t.links.items l x.span.filled) 0) (eq-eqb x.span.filled x.span.filled refl)

  -- what lies before the blocks that are kept is not found
  pub place_gone : (l k : ℕ) (x : Entry) → entry_at t l ≡ Some x → k < x.span.gone → length t.links.items ≤ place_of t.links.items l k
  place_gone l k x at before = place_none t.links.items l k (λ b home. let h = (home_inside b l k x at home).0 in omega (arith, h, before))

  pub mark_gone : (l k : ℕ) (x : Entry) → entry_at t l ≡ Some x → k < x.span.gone → mark_of t l x k ≡ 0
  mark_gone l k x at before =
      let past = place_gone l k x at before in
      let order = (table.lists l x at).order in
      cond-false (nat_eq k x.span.filled) x.waiting (get_or t.counts.items (place_of t.links.items l k) 0) (ne_eqb k x.span.filled (λ e. omega (arith, before, order, e)))
      ∙ get_or_past t.counts.items (place_of t.links.items l k) 0 (omega (arith, past, table.links, table.counts))

  pub value_gone : (l k len : ℕ) (x : Entry) → entry_at t l ≡ Some x → k < x.span.gone → value_of t l len k ≡ None
  value_gone l k len x at before =
      let past = place_gone l k x at before in
      ap (option_map (take (len - k * t.block))) (get_or_past t.pool.blocks (place_of t.links.items l k) None (omega (arith, past, table.links)))

  pub value_kept : (b l j len : ℕ) → home_at t.links.items b ≡ nth l j → value_of t l len j ≡ option_map (take (len - j * t.block)) (in_block t.pool b)
  value_kept b l j len home = ap (λ p. option_map (take (len - j * t.block)) (in_block t.pool p)) (place_is t.links.items (span_at t) table.chain l j b home)

-- ---- the lists that are seen

pub list_seen : (t : Table) (l : ℕ) (x : Entry) → entry_at t l ≡ Some x → list_at (state_of t) l ≡ Some (list_state t l x)
list_seen t l x at = tab_get (λ m. option_map (list_state t m) (entry_at t m)) (length t.lists) l None (entry_within t l x at) ∙ ap (option_map (list_state t l)) at

pub list_unseen : (t : Table) (l : ℕ) → entry_at t l ≡ None → list_at (state_of t) l ≡ None
list_unseen t l none =
    elim (cases_lt l (length t.lists)) [
      | inl inside ↦ tab_get (λ m. option_map (list_state t m) (entry_at t m)) (length t.lists) l None inside ∙ ap (option_map (list_state t l)) none
      | inr past ↦ tab_past (λ m. option_map (list_state t m) (entry_at t m)) (length t.lists) l None past
    ]

-- a list that is seen is there
pub list_there : (t : Table) (l : ℕ) (s : ListState) → list_at (state_of t) l ≡ Some s → (x : Entry) × (entry_at t l ≡ Some x) × (s ≡ list_state t l x)
list_there t l s seen = by_entry (entry_at t l) refl
  where
    by_entry : (o : Option Entry) → entry_at t l ≡ o → (x : Entry) × (entry_at t l ≡ Some x) × (s ≡ list_state t l x)
    by_entry None e = absurd (none_some (sym (list_unseen t l e) ∙ seen))
    by_entry (Some x) e = (x, e, same_some (sym seen ∙ list_seen t l x e))

-- where a slot of the lists holds this, and no other is changed
pub record Sets (old new : Table) (l : ℕ) (o : Option Entry) : Type 0 where
  pub within : l < length old.lists
  pub block : new.block ≡ old.block
  pub lists : new.lists ≡ set old.lists l o
  pub others : (m : ℕ) (z : Entry) → m ≢ l → entry_at old m ≡ Some z → list_state new m z ≡ list_state old m z

module _ (old new : Table) (l : ℕ) (o : Option Entry) (sets : Sets old new l o) where
  pub set_here : entry_at new l ≡ o
  set_here = ap (λ xs. get_or xs l None) sets.lists ∙ get_or-set_same old.lists l o None sets.within

  pub set_other : (m : ℕ) → m ≢ l → entry_at new m ≡ entry_at old m
  set_other m ne = ap (λ xs. get_or xs m None) sets.lists ∙ get_or-set_other old.lists l m o None ne

  pub lists_set : (state_of new).lists ≡ set (state_of old).lists l (option_map (list_state new l) o)
  lists_set =
      ap (λ n. map (λ m. option_map (list_state new m) (entry_at new m)) (range_with_len 0 n)) (ap length sets.lists ∙ length-set old.lists l o)
      ∙ sym (tab_set (λ m. option_map (list_state old m) (entry_at old m)) (λ m. option_map (list_state new m) (entry_at new m)) (length old.lists) l (option_map (list_state new l) o) None sets.within
      (ap (option_map (list_state new l)) set_here) (λ m inside ne. ap (option_map (list_state new m)) (set_other m ne) ∙ by_entry m ne (entry_at old m) refl))
    where
      by_entry : (m : ℕ) → m ≢ l → (q : Option Entry) → entry_at old m ≡ q → option_map (list_state new m) (entry_at old m) ≡ option_map (list_state old m) (entry_at old m)
      by_entry m ne None e = ap (option_map (list_state new m)) e ∙ sym (ap (option_map (list_state old m)) e)
      by_entry m ne (Some z) e = ap (option_map (list_state new m)) e ∙ ap Some (sets.others m z ne e) ∙ sym (ap (option_map (list_state old m)) e)

  -- each list is as it was or is this one
  pub entries_set : IsTable old → ((y : Entry) → o ≡ Some y → IsEntry new l y) → (m : ℕ) (z : Entry) → entry_at new m ≡ Some z → IsEntry new m z
  entries_set table here m z at =
      elim (cases_eq m l) [
        | inl e ↦ rw e (here z (sym set_here ∙ ap (entry_at new) (sym e) ∙ at))
        | inr ne ↦
            let was = sym (set_other m ne) ∙ at in
            let x = table.lists m z was in
            record {
              short = x.short;
              tagged = x.tagged;
              order = x.order;
              filled = subst (λ n. z.span.filled ≤ blocks_of n z.span.len) (sym sets.block) x.filled;
              counted = x.counted ∙ sym (ap (λ s. sum s.marks) (sets.others m z ne was));
              few = x.few;
            }
      ]

-- a change of one list
pub changed : (old new : Table) (l : ℕ) (change : ListState → ListState) (x y : Entry) → IsTable new → entry_at old l ≡ Some x → Sets old new l (Some y) → y.span.len ≡ x.span.len
    → list_state new l y ≡ change (list_state old l x) → loose_in new ≡ loose_in old → Changes old new l change x y
changed old new l change x y table at sets len does loose = record {
  table = table;
  block = sets.block;
  state = λ i. record { block = sets.block i; lists = lists i; loose = loose i };
  there = at;
  after = set_here old new l (Some y) sets;
  len = len;
  others = set_other old new l (Some y) sets;
}
  where
    lists : (state_of new).lists ≡ set (state_of old).lists l (option_map change (list_at (state_of old) l))
    lists =
        lists_set old new l (Some y) sets
        ∙ ap (set (state_of old).lists l) (ap Some does ∙ sym (ap (option_map change) (list_seen old l x at)))

-- ---- cursors

-- n cursors stand in block j of list l now, and all else is as it was
pub record Recounts (old new : Table) (l j n : ℕ) (x y : Entry) : Type 0 where
  pub block : new.block ≡ old.block
  pub pool : new.pool ≡ old.pool
  pub links : new.links.items ≡ old.links.items
  pub counts : length new.counts.items ≡ length old.counts.items
  pub lists : new.lists ≡ set old.lists l (Some y)
  pub span : y.span ≡ x.span
  pub tag : y.tag ≡ x.tag
  pub here : mark_of new l y j ≡ n
  pub mark : (k : ℕ) → k ≢ j → mark_of new l y k ≡ mark_of old l x k
  pub others : (m k : ℕ) (z : Entry) → m ≢ l → mark_of new m z k ≡ mark_of old m z k

module _ (old new : Table) (l j n : ℕ) (x y : Entry) (table : IsTable old) (at : entry_at old l ≡ Some x) (r : Recounts old new l j n x y) where
  others_same : (m : ℕ) (z : Entry) → m ≢ l → list_state new m z ≡ list_state old m z
  others_same m z ne = λ i. record {
    len = z.span.len;
    tag = z.tag;
    values = map (λ k. option_map (take (z.span.len - k * r.block i)) (in_block (r.pool i) (place_of (r.links i) m k))) (range_with_len 0 z.span.filled);
    marks = tab_same (mark_of new m z) (mark_of old m z) (z.span.filled + 1) 0 (λ k h. r.others m k z ne) i;
  }

  sets : Sets old new l (Some y)
  sets = record {
    within = entry_within old l x at;
    block = r.block;
    lists = r.lists;
    others = λ m z ne e. others_same m z ne;
  }

  pub recounted_list : j ≤ x.span.filled → list_state new l y ≡ record (list_state old l x) { marks = set (list_state old l x).marks j n }
  recounted_list upto = λ i. record {
    len = (r.span i).len;
    tag = r.tag i;
    values = map (λ k. option_map (take ((r.span i).len - k * r.block i)) (in_block (r.pool i) (place_of (r.links i) l k))) (range_with_len 0 (r.span i).filled);
    marks = marks i;
  }
    where
      marks : (list_state new l y).marks ≡ set (list_state old l x).marks j n
      marks =
          ap (λ (q : Span). map (mark_of new l y) (range_with_len 0 (q.filled + 1))) r.span
          ∙ sym (tab_set (mark_of old l x) (mark_of new l y) (x.span.filled + 1) j n 0 (omega arith) r.here (λ k h ne. r.mark k ne))

  loose_same : loose_in new ≡ loose_in old
  loose_same = λ i. map (λ b. cond (is_some (get_or (r.links i) b None)) None (in_block (r.pool i) b)) (range_with_len 0 (length (r.pool i).blocks))

  spans_same : (m : ℕ) → span_at new m ≡ span_at old m
  spans_same m =
      elim (cases_eq m l) [
        | inl e ↦ rw e (ap (option_map (λ q. q.span)) (set_here old new l (Some y) sets) ∙ ap Some r.span ∙ sym (span_is old l x at))
        | inr ne ↦ ap (option_map (λ q. q.span)) (set_other old new l (Some y) sets m ne)
      ]

  pub IsTable-recounted : j ≤ x.span.filled → y.cursors ≡ sum (set (list_state old l x).marks j n) → y.cursors < 2 ^ 32 → IsTable new
  IsTable-recounted upto total few =
      let e = table.lists l x at in
      record {
        some = subst (λ b. 0 < b) (sym r.block) table.some;
        small = subst (λ b. b < 2 ^ 32) (sym r.block) table.small;
        len = ap (λ (p : Blocks ℤ). p.len) r.pool ∙ table.len ∙ sym r.block;
        few = subst (λ (p : Blocks ℤ). length p.blocks < 2 ^ 32) (sym r.pool) table.few;
        links = ap length r.links ∙ table.links ∙ sym (ap (λ (p : Blocks ℤ). length p.blocks) r.pool);
        counts = r.counts ∙ table.counts ∙ sym (ap (λ (p : Blocks ℤ). length p.blocks) r.pool);
        whole = subst Rattle.ny_pool.specs.Blocks.HoldsWholeBlocks (sym r.pool) table.whole;
        chain = subst (λ links. IsChained links (span_at new)) (sym r.links) (subst (IsChained old.links.items) (λ i m. sym (spans_same m) i) table.chain);
        taken = λ b some. subst (λ (p : Blocks ℤ). Rattle.ny_pool.specs.Blocks.IsTaken p b) (sym r.pool) (table.taken b (subst (λ links. IsSome (get_or links b None)) r.links some));
        lists = entries_set old new l (Some y) sets table (λ z is. subst (IsEntry new l) (same_some is) (record {
          short = subst (λ (q : Span). q.len < 2 ^ 32) (sym r.span) e.short;
          tagged = subst (λ n. n < 2 ^ 32) (sym r.tag) e.tagged;
          order = subst (λ (q : Span). q.gone ≤ q.filled) (sym r.span) e.order;
          filled = subst (λ (q : Span). q.filled ≤ blocks_of new.block q.len) (sym r.span) (subst (λ b. x.span.filled ≤ blocks_of b x.span.len) (sym r.block) e.filled);
          counted = total ∙ sym (ap (λ s. sum s.marks) (recounted_list upto));
          few = few;
        }));
        counted =
            let kept = ap (sum_by kept_in) r.lists ∙ sum_kept kept_in old.lists l (Some y) None (entry_within old l x at) (ap (λ (q : Span). q.filled - q.gone) r.span ∙ sym (ap kept_in at)) in
            let free = ap (λ (p : Blocks ℤ). Rattle.ny_pool.specs.Blocks.free_of p) r.pool in
            let size = ap (λ (p : Blocks ℤ). length p.blocks) r.pool in
            omega (arith, table.counted, kept, free, size, ap (count_by is_some) loose_same);
      }

  pub Changes-recounted : (change : ListState → ListState) → j ≤ x.span.filled → y.cursors ≡ sum (set (list_state old l x).marks j n) → y.cursors < 2 ^ 32
      → change (list_state old l x) ≡ record (list_state old l x) { marks = set (list_state old l x).marks j n } → Changes old new l change x y
  Changes-recounted change upto total few does =
      changed old new l change x y (IsTable-recounted upto total few) at sets (ap (λ (q : Span). q.len) r.span) (recounted_list upto ∙ sym does) loose_same

-- a length has no more blocks than samples
pub blocks_few : (block len : ℕ) → 0 < block → blocks_of block len ≤ len
blocks_few block len some =
    let more : len + (block - 1) < suc len * block = omega (arith, suc-mul len block, le-mul_of_pos_right {m = block} len some) in
    omega (arith, (div-lt_iff_lt-mul {k = block} {x = len + (block - 1)} {y = suc len} some).1 more)

pub some_entry : (t : Table) (l : ℕ) → IsSome (entry_at t l) → (x : Entry) × (entry_at t l ≡ Some x)
some_entry t l some = by_entry (entry_at t l) some
  where
    by_entry : (o : Option Entry) → IsSome o → (x : Entry) × (o ≡ Some x)
    by_entry None s = absurd cc
    by_entry (Some x) s = (x, refl)
