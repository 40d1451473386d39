-- Blocks that are in no list, and how many are free.
use Rattle.std.proofs.Common.{◌≡◌, ◌≢◌, ◌↔◌, inl, inr, ℕ, ◌+◌, ◌-◌, ◌*◌, ◌<◌, ◌≤◌, cond, nat_lt, List, length, take, get_or, map, set, Option, None, Some, IsSome, IsNone, IfSome, IfNone, is_some, is_none, count_by, sum_by, refl, sym, ap, subst, ◌∙◌, arith, length-set, ℤ}
use Rattle.std.proofs.lemmas.List.{get_or-set_same, get_or-set_other}
use Rattle.std.proofs.lemmas.List.FromFn.{length-map-range_with_len}
use Rattle.std.proofs.lemmas.List.Sums.{sum_by-set, passes_at_first}
use Rattle.std.proofs.lemmas.Bool.{cases_eq, cases_lt, true≢false}
use Rattle.std.specs.Option.{option_map, option_map_or}
use Rattle.std.specs.List.{range_with_len}
use Rattle.ny_pool.specs.declared.pool.BlockId.{BlockId}
use Rattle.ny_pool.specs.Blocks as pool
use Rattle.ny_pool.specs.Blocks.{Blocks, in_block, with_block, IsTaken, HoldsWholeBlocks}
use Rattle.ny_list.specs.declared.table.Entry.{Entry}
use Rattle.ny_list.specs.declared.table.Table.{Table}
use Rattle.ny_list.specs.Store.{ListState, StoreState, least, kept_of, free_of, taken_of}
use Rattle.ny_list.specs.Steps.{Takes, with_loose}
use Rattle.ny_list.specs.Chain.{home_of, home_at, place_of}
use Rattle.ny_list.specs.Table.{entry_at, value_of, list_state, loose_of, loose_in, state_of, kept_in, IsTable, IsSettled, IsStore}
use Rattle.ny_list.proofs.IndexLemmas.{none_some, tab_get, tab_same, tab_set, sums_agree}
use Rattle.ny_list.proofs.ChainLemmas.{place_home}
use Rattle.ny_list.proofs.StateLemmas.{mark_gone}
use Rattle.ny_list.proofs.CursorLemmas.{mark_seen, marks_len}
use Rattle.ny_list.proofs.SettleLemmas.{least_at}

-- ---- how many blocks are free

-- no cursor stands before the blocks that are kept
pub gone_least : (t : Table) (l : ℕ) (x : Entry) → IsTable t → entry_at t l ≡ Some x → x.span.gone ≤ least (list_state t l x).marks
gone_least t l x table at =
    elim (cases_lt (least (list_state t l x).marks) x.span.gone) [
      | inl before ↦
          let order = (table.lists l x at).order in
          let passes = passes_at_first (λ m. nat_lt 0 m) (list_state t l x).marks 0 (omega (arith, before, order, marks_len t l x)) in
          let nothing = mark_seen t l x (least (list_state t l x).marks) (omega (arith, before, order)) ∙ mark_gone t table l (least (list_state t l x).marks) x at before in
          absurd (true≢false (sym passes ∙ ap (nat_lt 0) nothing))
      | inr after ↦ after
    ]

-- a list keeps as many blocks as are seen to be kept
pub kept_seen : (t : Table) (l : ℕ) (x : Entry) → IsTable t → entry_at t l ≡ Some x → IsSettled t l x → kept_of (list_state t l x) ≡ x.span.filled - x.span.gone
kept_seen t l x table at stands =
    let len = length-map-range_with_len (value_of t l x.span.len) 0 x.span.filled in
    let from : x.span.gone ≤ least (list_state t l x).marks = gone_least t l x table at in
    elim (cases_lt x.span.gone x.span.filled) [
      | inl more ↦
          let upto = least_at (list_state t l x).marks x.span.gone (subst (λ n. 0 < n) (sym (mark_seen t l x x.span.gone (omega (arith, more)))) (stands more)) in
          omega (arith, len, from, upto)
      | inr none ↦ omega (arith, len, from, none)
    ]

pub taken_seen : (t : Table) → IsStore t → pool.free_of t.pool + taken_of (state_of t) ≡ length (state_of t).loose
taken_seen t store =
    let lists = map (λ l. option_map (list_state t l) (entry_at t l)) (range_with_len 0 (length t.lists)) in
    let len = length-map-range_with_len (λ l. option_map (list_state t l) (entry_at t l)) 0 (length t.lists) in
    let kept = sums_agree (λ o. option_map_or {U = ℕ} kept_of o 0) kept_in None None lists t.lists len (λ k h. let inside : k < length t.lists = omega (arith, h, len) in ap (λ o. option_map_or {U = ℕ} kept_of o 0) (tab_get (λ l. option_map (list_state t l) (entry_at t l)) (length t.lists) k None inside) ∙ by_entry k (entry_at t k) refl) in
    let size = length-map-range_with_len (loose_of t) 0 (length t.pool.blocks) in
    omega (arith, store.table.counted, kept, size)
  where
    by_entry : (k : ℕ) (o : Option Entry) → entry_at t k ≡ o → option_map_or {U = ℕ} kept_of (option_map (list_state t k) (entry_at t k)) 0 ≡ kept_in (entry_at t k)
    by_entry k None e = ap (λ o. option_map_or {U = ℕ} kept_of (option_map (list_state t k) o) 0) e ∙ sym (ap kept_in e)
    by_entry k (Some x) e = ap (λ o. option_map_or {U = ℕ} kept_of (option_map (list_state t k) o) 0) e ∙ kept_seen t k x store.table e (store.settled k x e) ∙ sym (ap kept_in e)

pub free_seen : (t : Table) → IsStore t → pool.free_of t.pool ≡ free_of (state_of t)
free_seen t store = omega (arith, taken_seen t store)

-- ---- a block in no list holds something

module _ (t : Table) (b : ℕ) (items : List ℤ) (store : IsStore t) (loose : get_or t.links.items b None ≡ None) (inside : b < length t.pool.blocks) (size : length items ≡ t.pool.len) where
  abbrev pub new : Table
  new = record t { pool = with_block t.pool b (Some items) }

  place_apart : (m j : ℕ) → place_of t.links.items m j ≢ b
  place_apart m j same = none_some (sym (ap home_of loose) ∙ ap (home_at t.links.items) (sym same) ∙ place_home t.links.items m j (omega (arith, same, inside, store.table.links)))

  value_same : (m len j : ℕ) → value_of new m len j ≡ value_of t m len j
  value_same m len j = ap (option_map (take (len - j * t.block))) (get_or-set_other t.pool.blocks b (place_of t.links.items m j) (Some items) None (place_apart m j))

  list_same : (m : ℕ) (z : Entry) → list_state new m z ≡ list_state t m z
  list_same m z = λ i. record {
    len = z.span.len;
    tag = z.tag;
    values = tab_same (value_of new m z.span.len) (value_of t m z.span.len) z.span.filled None (λ j h. value_same m z.span.len j) i;
    marks = (list_state t m z).marks;
  }

  loose_now : loose_in new ≡ set (loose_in t) b (Some items)
  loose_now =
      ap (λ n. map (loose_of new) (range_with_len 0 n)) (length-set t.pool.blocks b (Some items))
      ∙ sym (tab_set (loose_of t) (loose_of new) (length t.pool.blocks) b (Some items) None inside
      (ap (λ o. cond (is_some o) None (in_block (with_block t.pool b (Some items)) b)) loose ∙ get_or-set_same t.pool.blocks b (Some items) None inside)
      (λ k h ne. ap (cond (is_some (get_or t.links.items k None)) None) (get_or-set_other t.pool.blocks b k (Some items) None ne)))

  pub state_held : state_of new ≡ with_loose (state_of t) b (Some items)
  state_held = λ i. record {
    block = t.block;
    lists = tab_same (λ l. option_map (list_state new l) (entry_at t l)) (λ l. option_map (list_state t l) (entry_at t l)) (length t.lists) None (λ l h. ap (λ (f : Entry → ListState). option_map f (entry_at t l)) (λ i z. list_same l z i)) i;
    loose = loose_now i;
  }

  -- what it held before
  was_loose : get_or (loose_in t) b None ≡ in_block t.pool b
  was_loose = tab_get (loose_of t) (length t.pool.blocks) b None inside ∙ ap (λ o. cond (is_some o) None (in_block t.pool b)) loose

  one_of : (o : Option (List ℤ)) → cond {A = ℕ} (is_none o) 1 0 + cond {A = ℕ} (is_some o) 1 0 ≡ 1
  one_of None = refl
  one_of (Some c) = refl

  counted_now : pool.free_of (with_block t.pool b (Some items)) + (count_by is_some (loose_in new) + sum_by kept_in t.lists) ≡ length (set t.pool.blocks b (Some items))
  counted_now =
      let free = sum_by-set (λ o. cond (is_none o) 1 0) t.pool.blocks b (Some items) None inside in
      let taken = sum_by-set (λ o. cond (is_some o) 1 0) (loose_in t) b (Some items) None (omega (arith, inside, length-map-range_with_len (loose_of t) 0 (length t.pool.blocks))) in
      omega (arith, store.table.counted, free, taken, one_of (in_block t.pool b), ap (λ o. cond {A = ℕ} (is_some o) 1 0) was_loose, ap (count_by is_some) loose_now, length-set t.pool.blocks b (Some items))

  whole_now : HoldsWholeBlocks (with_block t.pool b (Some items))
  whole_now k =
      elim (cases_eq k b) [
        | inl same ↦ rw (same, get_or-set_same t.pool.blocks b (Some items) None inside) size
        | inr ne ↦ rw (get_or-set_other t.pool.blocks b k (Some items) None ne) (store.table.whole k)
      ]

  pub IsStore-held : IsStore new
  IsStore-held =
      let v = store.table in
      record {
        table = record {
          some = v.some;
          small = v.small;
          len = v.len;
          few = omega (arith, v.few, length-set t.pool.blocks b (Some items));
          links = omega (arith, v.links, length-set t.pool.blocks b (Some items));
          counts = omega (arith, v.counts, length-set t.pool.blocks b (Some items));
          whole = whole_now;
          chain = v.chain;
          taken = λ k some.
              elim (cases_eq k b) [
                | inl same ↦ rw (same, get_or-set_same t.pool.blocks b (Some items) None inside) refl
                | inr ne ↦ rw (get_or-set_other t.pool.blocks b k (Some items) None ne) (v.taken k some)
              ];
          lists = λ l x at. let e = v.lists l x at in record { short = e.short; tagged = e.tagged; order = e.order; filled = e.filled; counted = e.counted; few = e.few };
          counted = counted_now;
        };
        settled = store.settled;
      }

-- ---- a block is taken

not_linked : (t : Table) (b : ℕ) → IsTable t → in_block t.pool b ≡ None → get_or t.links.items b None ≡ None
not_linked t b table free = by_link (get_or t.links.items b None) refl
  where
    nothing : (o : Option (List ℤ)) → o ≡ None → IsSome o → ⊥
    nothing None e s = cc
    nothing (Some c) e s = cc

    by_link : (o : Option Rattle.ny_list.specs.declared.chain.Link.Link) → get_or t.links.items b None ≡ o → get_or t.links.items b None ≡ None
    by_link None e = e
    by_link (Some k) e = absurd (nothing (in_block t.pool b) free (table.taken b (ap is_some e)))

pub IsStore-taken : (t : Table) (o : Option BlockId) (p : Blocks ℤ) → IsStore t → IfSome o (λ b. pool.Takes t.pool p b.0) → IfNone o (p ≡ t.pool) → IsStore (record t { pool = p })
IsStore-taken t None p store taken same = subst (λ q. IsStore (record t { pool = q })) (sym same) store
IsStore-taken t (Some b) p store taken same =
    subst (λ q. IsStore (record t { pool = q })) (sym taken.after) (IsStore-held t b.0 taken.items store (not_linked t b.0 store.table taken.was_free) taken.within taken.whole)

pub takes_seen : (t : Table) (b : ℕ) (p : Blocks ℤ) → IsStore t → pool.Takes t.pool p b → Takes (state_of t) (state_of (record t { pool = p })) b
takes_seen t b p store taken =
    let loose = not_linked t b store.table taken.was_free in
    let after : state_of (record t { pool = p }) ≡ with_loose (state_of t) b (Some taken.items) = ap (λ q. state_of (record t { pool = q })) taken.after ∙ state_held t b taken.items store loose taken.within taken.whole in
    let new = IsStore-taken t (Some (record { 0 = b })) p store taken tt in
    record {
      within = omega (arith, taken.within, length-map-range_with_len (loose_of t) 0 (length t.pool.blocks));
      was_free = tab_get (loose_of t) (length t.pool.blocks) b None taken.within ∙ ap (λ o. cond (is_some o) None (in_block t.pool b)) loose ∙ taken.was_free;
      samples = taken.items;
      whole = taken.whole ∙ store.table.len;
      after = after;
      free = omega (arith, taken.free, free_seen t store, free_seen (record t { pool = p }) new);
    }

pub takes_shown : (t : Table) (o : Option BlockId) (p : Blocks ℤ) (s : StoreState) → IsStore t → state_of t ≡ s → IfSome o (λ b. pool.Takes t.pool p b.0) → IfSome o (λ b. Takes s (state_of (record t { pool = p })) b.0)
takes_shown t None p s store is taken = tt
takes_shown t (Some b) p s store is taken = subst (λ r. Takes r (state_of (record t { pool = p })) b.0) is (takes_seen t b.0 p store taken)

pub none_shown : (t : Table) (o : Option BlockId) (s : StoreState) → IsStore t → state_of t ≡ s → (IsNone o ↔ (pool.free_of t.pool ≡ 0)) → (IsNone o ↔ (free_of s ≡ 0))
none_shown t o s store is none = subst (λ n. IsNone o ↔ (n ≡ 0)) (free_seen t store ∙ ap free_of is) none
