-- What is seen of a store, and how its lists begin and end.
use Rattle.std.proofs.Common.{◌≡◌, ◌≢◌, ◌⊎◌, ◌↔◌, inl, inr, ℕ, ◌-◌, ◌^◌, ◌<◌, ◌≤◌, IsTrue, cond, nat_lt, List, [], ◌++◌, length, get_or, map, set, replicate, Option, None, Some, IsSome, is_some, is_none, count_by, sum_by, refl, sym, ap, subst, ◌∙◌, arith, ℤ}
use Rattle.std.proofs.lemmas.List.{get_or_past, length-replicate, get_or-replicate}
use Rattle.std.proofs.Common.{length-append, Result, Ok, Err, OnOk, OnErr, zero, suc}
use Rattle.std.specs.declared.alloc.AllocError.{AllocError}
use Rattle.std.proofs.lemmas.List.FromFn.{length-map-range_with_len, fill_by_all}
use Rattle.std.proofs.lemmas.List.Sums.{sum_by-append, sum_by-cons}
use Rattle.ny_pool.proofs.PlaceLemmas.{get_or-added}
use Rattle.std.proofs.lemmas.Bool.{cases_eq, cases_lt, lt-ltb}
use Rattle.std.proofs.lemmas.Bool.Decides.{nat_tests}
use Rattle.std.specs.Option.{option_map}
use Rattle.std.specs.List.{range_with_len}
use Rattle.std.specs.declared.vec.Vec.{Vec}
use Rattle.std.specs.Global.{Global}
use Rattle.ny_pool.specs.Blocks.{Blocks, in_block, with_block, IsTaken}
use Rattle.ny_list.specs.declared.chain.Link.{Link}
use Rattle.ny_list.specs.declared.chain.Span.{Span}
use Rattle.ny_list.specs.declared.table.Entry.{Entry}
use Rattle.ny_list.specs.declared.table.Table.{Table}
use Rattle.ny_list.specs.Store.{ListState, StoreState, CursorState, list_at, loose_at, cursors_of, kept_of}
use Rattle.ny_list.specs.Steps.{Begins, with_list, with_loose}
use Rattle.ny_list.specs.Chain.{nth, home_of, home_at, IsChained}
use Rattle.ny_list.specs.Table.{entry_at, span_at, value_of, list_state, loose_of, loose_in, state_of, kept_in, IsEntry, IsTable, IsStore}
use Rattle.ny_list.proofs.IndexLemmas.{same_some, none_some, tab_get, tab_past, sum_kept, sums_agree}
use Rattle.ny_list.proofs.StateLemmas.{entry_within, home_inside, list_seen, list_unseen, Sets, set_here, set_other, lists_set, entries_set}
use Rattle.ny_list.proofs.CursorLemmas.{mark_few}
use Rattle.ny_list.proofs.LooseLemmas.{IsStore-held, state_held, kept_seen}

-- ---- a block that is in no list

pub record IsLoose (t : Table) (b : ℕ) : Type 0 where
  pub loose : get_or t.links.items b None ≡ None
  pub taken : IsTaken t.pool b
  pub inside : b < length t.pool.blocks

pub loose_there : (t : Table) (b : ℕ) (s : StoreState) → state_of t ≡ s → IsSome (loose_at s b) → IsLoose t b
loose_there t b s is there = by_size (cases_lt b (length t.pool.blocks))
  where
    some : IsSome (loose_at (state_of t) b)
    some = subst (λ r. IsSome (loose_at r b)) (sym is) there

    split : (o : Option Link) (p : Option (List ℤ)) → IsSome (cond (is_some o) None p) → (o ≡ None) × IsSome p
    split None None s = absurd cc
    split None (Some c) s = (refl, refl)
    split (Some k) p s = absurd cc

    nothing : {A : Type 0} (o : Option A) → o ≡ None → IsSome o → ⊥
    nothing None e s = cc
    nothing (Some a) e s = cc

    by_size : (b < length t.pool.blocks) ⊎ (length t.pool.blocks ≤ b) → IsLoose t b
    by_size (inl inside) =
        let h = split (get_or t.links.items b None) (in_block t.pool b) (subst IsSome (tab_get (loose_of t) (length t.pool.blocks) b None inside) some) in
        record { loose = h.0; taken = h.1; inside = inside }
    by_size (inr past) = absurd (nothing (loose_at (state_of t) b) (tab_past (loose_of t) (length t.pool.blocks) b None past) some)

pub IsStore-written : (t : Table) (b : ℕ) (items : List ℤ) (p : Blocks ℤ) (s : StoreState) → IsStore t → state_of t ≡ s → IsSome (loose_at s b) → length items ≡ s.block → p ≡ with_block t.pool b (Some items) → IsStore (record t { pool = p })
IsStore-written t b items p s store is there size written =
    let l = loose_there t b s is there in
    subst (λ q. IsStore (record t { pool = q })) (sym written) (IsStore-held t b items store l.loose l.inside (size ∙ sym (ap (λ r. r.block) is) ∙ sym store.table.len))

pub written_seen : (t : Table) (b : ℕ) (items : List ℤ) (p : Blocks ℤ) (s : StoreState) → IsStore t → state_of t ≡ s → IsSome (loose_at s b) → length items ≡ s.block → p ≡ with_block t.pool b (Some items) → state_of (record t { pool = p }) ≡ with_loose s b (Some items)
written_seen t b items p s store is there size written =
    let l = loose_there t b s is there in
    ap (λ q. state_of (record t { pool = q })) written ∙ state_held t b items store l.loose l.inside (size ∙ sym (ap (λ r. r.block) is) ∙ sym store.table.len) ∙ ap (λ r. with_loose r b (Some items)) is

-- ---- what is told of a list

pub entry_there : (t : Table) (l : ℕ) (s : StoreState) (k : ℕ) → state_of t ≡ s → l ≡ k → IsSome (list_at s k) → IsSome (entry_at t l)
entry_there t l s k is at there = by_entry (entry_at t l) refl (subst (λ m. IsSome (list_at (state_of t) m)) (sym at) (subst (λ r. IsSome (list_at r k)) (sym is) there))
  where
    nothing : (o : Option ListState) → o ≡ None → IsSome o → ⊥
    nothing None e s = cc
    nothing (Some a) e s = cc

    by_entry : (o : Option Entry) → entry_at t l ≡ o → IsSome (list_at (state_of t) l) → IsSome (entry_at t l)
    by_entry None e some = absurd (nothing (list_at (state_of t) l) (list_unseen t l e) some)
    by_entry (Some x) e some = ap is_some e

-- the list that is seen
told : (t : Table) (l : ℕ) (s : StoreState) (k : ℕ) (x : Entry) (y : ListState) → state_of t ≡ s → l ≡ k → entry_at t l ≡ Some x → list_at s k ≡ Some y → list_state t l x ≡ y
told t l s k x y is at there seen = same_some (sym (list_seen t l x there) ∙ (λ i. list_at (is i) (at i)) ∙ seen)

pub held_seen : (t : Table) (l : ℕ) (s : StoreState) (k : ℕ) (x : Entry) (y : ListState) → IsTable t → state_of t ≡ s → l ≡ k → entry_at t l ≡ Some x → list_at s k ≡ Some y → IsTrue (nat_lt 0 x.cursors) ↔ (0 < cursors_of y)
held_seen t l s k x y table is at there seen =
    let e : x.cursors ≡ cursors_of y = (table.lists l x there).counted ∙ ap cursors_of (told t l s k x y is at there seen) in
    subst (λ n. IsTrue (nat_lt 0 x.cursors) ↔ (0 < n)) e ((λ h. grind (arith, nat_tests)), (λ h. lt-ltb 0 x.cursors h))

pub cursors_seen : (t : Table) (l : ℕ) (s : StoreState) (k : ℕ) (x : Entry) (y : ListState) → IsTable t → state_of t ≡ s → l ≡ k → entry_at t l ≡ Some x → list_at s k ≡ Some y → x.cursors ≡ cursors_of y
cursors_seen t l s k x y table is at there seen = (table.lists l x there).counted ∙ ap cursors_of (told t l s k x y is at there seen)

pub filled_seen : (t : Table) (l : ℕ) (s : StoreState) (k : ℕ) (x : Entry) (y : ListState) → state_of t ≡ s → l ≡ k → entry_at t l ≡ Some x → list_at s k ≡ Some y → x.span.filled ≡ length y.values
filled_seen t l s k x y is at there seen = sym (length-map-range_with_len (value_of t l x.span.len) 0 x.span.filled) ∙ ap (λ r. length r.values) (told t l s k x y is at there seen)

pub kept_told : (t : Table) (l : ℕ) (s : StoreState) (k : ℕ) (x : Entry) (y : ListState) → IsStore t → state_of t ≡ s → l ≡ k → entry_at t l ≡ Some x → list_at s k ≡ Some y → x.span.filled - x.span.gone ≡ kept_of y
kept_told t l s k x y store is at there seen = sym (kept_seen t l x store.table there (store.settled l x there)) ∙ ap kept_of (told t l s k x y is at there seen)

-- ---- lists that begin and end

-- where list l keeps nothing, its blocks do not matter
chain_idle : (links : List (Option Link)) (before after : ℕ → Option Span) (l : ℕ) → IsChained links before → ((b j : ℕ) → home_at links b ≢ nth l j) → ((m : ℕ) → m ≢ l → after m ≡ before m)
    → ((x : Span) → after l ≡ Some x → x.filled ≤ x.gone) → IsChained links after
chain_idle links before after l chain none other idle = record {
  once = chain.once;
  home = λ b m j e.
      elim (cases_eq m l) [
        | inl same ↦ absurd (none b j (e ∙ ap (λ p. nth p j) same))
        | inr ne ↦ let h = chain.home b m j e in (h.0, other m ne ∙ h.1, h.2, h.3)
      ];
  first = λ m x e more.
      elim (cases_eq m l) [
        | inl same ↦ let few = idle x (ap after (sym same) ∙ e) in absurd (omega (arith, few, more))
        | inr ne ↦ chain.first m x (sym (other m ne) ∙ e) more
      ];
  last = λ m j x e from upto.
      elim (cases_eq m l) [
        | inl same ↦ let few = idle x (ap after (sym same) ∙ e) in absurd (omega (arith, few, from, upto))
        | inr ne ↦ chain.last m j x (sym (other m ne) ∙ e) from upto
      ];
  next = λ b m j x e is more.
      elim (cases_eq m l) [
        | inl same ↦ absurd (none b j (e ∙ ap (λ p. nth p j) same))
        | inr ne ↦ chain.next b m j x e (sym (other m ne) ∙ is) more
      ];
}

-- list l keeps nothing, and is known so, or is no more
module _ (t : Table) (l : ℕ) (o : Option Entry) (store : IsStore t) (within : l < length t.lists) (none : (b j : ℕ) → home_at t.links.items b ≢ nth l j) (empty : kept_in (entry_at t l) ≡ 0)
    (idle : (y : Entry) → o ≡ Some y → y.span.filled ≤ y.span.gone) (entry : (y : Entry) → o ≡ Some y → IsEntry (record t { lists = set t.lists l o }) l y) where
  abbrev pub other : Table
  other = record t { lists = set t.lists l o }

  pub replaced_sets : Sets t other l o
  replaced_sets = record {
    within = within;
    block = refl;
    lists = refl;
    others = λ m z ne e. refl;
  }

  idle_span : (x : Span) → span_at other l ≡ Some x → x.filled ≤ x.gone
  idle_span x e = by_entry o refl
    where
      seen : option_map (λ q. q.span) o ≡ Some x
      seen = sym (ap (option_map (λ q. q.span)) (set_here t other l o replaced_sets)) ∙ e

      by_entry : (p : Option Entry) → o ≡ p → x.filled ≤ x.gone
      by_entry None d = absurd (none_some (sym (ap (option_map (λ q. q.span)) d) ∙ seen))
      by_entry (Some y) d = let is = same_some (sym (ap (option_map (λ q. q.span)) d) ∙ seen) in subst (λ (q : Span). q.filled ≤ q.gone) is (idle y d)

  kept_none : kept_in o ≡ 0
  kept_none = by_entry o refl
    where
      by_entry : (p : Option Entry) → o ≡ p → kept_in o ≡ 0
      by_entry None d = ap kept_in d
      by_entry (Some y) d = ap kept_in d ∙ omega (arith, idle y d)

  pub IsStore-replaced : IsStore other
  IsStore-replaced =
      let v = store.table in
      record {
        table = record {
          some = v.some;
          small = v.small;
          len = v.len;
          few = v.few;
          links = v.links;
          counts = v.counts;
          whole = v.whole;
          chain = chain_idle t.links.items (span_at t) (span_at other) l v.chain none (λ m ne. ap (option_map (λ q. q.span)) (set_other t other l o replaced_sets m ne)) idle_span;
          taken = v.taken;
          lists = entries_set t other l o replaced_sets v entry;
          counted = omega (arith, v.counted, sum_kept kept_in t.lists l o None within (kept_none ∙ sym empty));
        };
        settled = λ m z at.
            elim (cases_eq m l) [
              | inl same ↦ λ more. let few = idle z (sym (set_here t other l o replaced_sets) ∙ ap (entry_at other) (sym same) ∙ at) in absurd (omega (arith, few, more))
              | inr ne ↦ store.settled m z (sym (set_other t other l o replaced_sets m ne) ∙ at)
            ];
      }

  pub replaced_seen : state_of other ≡ with_list (state_of t) l (option_map (list_state other l) o)
  replaced_seen = λ i. record {
    block = t.block;
    lists = lists_set t other l o replaced_sets i;
    loose = loose_in t;
  }

-- a list that is not there has no block
none_vacant : (t : Table) (l : ℕ) → IsTable t → entry_at t l ≡ None → (b j : ℕ) → home_at t.links.items b ≢ nth l j
none_vacant t l table vacant b j home =
    let h = table.chain.home b l j home in
    none_some (sym (ap (option_map (λ q. q.span)) vacant) ∙ h.1)

abbrev pub new_entry : ℕ → ℕ → Entry
new_entry len tag = record { span = record { len = len; gone = 0; filled = 0; first = 0; last = 0 }; tag = tag; waiting = 1; cursors = 1 }

entry_begun : (t : Table) (l len tag : ℕ) → len < 2 ^ 32 → tag < 2 ^ 32 → (y : Entry) → Some (new_entry len tag) ≡ Some y → IsEntry t l y
entry_begun t l len tag short tagged y e = subst (IsEntry t l) (same_some e) (record {
  short = short;
  tagged = tagged;
  order = omega arith;
  filled = omega arith;
  counted = refl;
  few = omega arith;
})

idle_begun : (len tag : ℕ) (y : Entry) → Some (new_entry len tag) ≡ Some y → y.span.filled ≤ y.span.gone
idle_begun len tag y e = subst (λ (q : Entry). q.span.filled ≤ q.span.gone) (same_some e) (omega arith)

pub IsStore-begun : (t : Table) (l len tag : ℕ) (ls : List (Option Entry)) → IsStore t → l < length t.lists → entry_at t l ≡ None → len < 2 ^ 32 → tag < 2 ^ 32 → ls ≡ set t.lists l (Some (new_entry len tag)) → IsStore (record t { lists = ls })
IsStore-begun t l len tag ls store within vacant short tagged is =
    subst (λ q. IsStore (record t { lists = q })) (sym is)
    (IsStore-replaced t l (Some (new_entry len tag)) store within (none_vacant t l store.table vacant) (ap kept_in vacant) (idle_begun len tag) (entry_begun (record t { lists = set t.lists l (Some (new_entry len tag)) }) l len tag short tagged))

pub begins_seen : (t : Table) (l len tag : ℕ) (ls : List (Option Entry)) (s : StoreState) (k : ℕ) (c : CursorState) → IsStore t → l < length t.lists → entry_at t l ≡ None → len < 2 ^ 32 → tag < 2 ^ 32 → ls ≡ set t.lists l (Some (new_entry len tag))
    → state_of t ≡ s → k ≡ l → c ≡ record { list = l; place = 0; visible = len; tag = tag } → Begins s (state_of (record t { lists = ls })) k len tag c
begins_seen t l len tag ls s k c store within vacant short tagged is at same cursor =
    let seen = replaced_seen t l (Some (new_entry len tag)) store within (none_vacant t l store.table vacant) (ap kept_in vacant) (idle_begun len tag) (entry_begun (record t { lists = set t.lists l (Some (new_entry len tag)) }) l len tag short tagged) in
    subst (λ r. Begins r (state_of (record t { lists = ls })) k len tag c) at (subst (λ m. Begins (state_of t) (state_of (record t { lists = ls })) m len tag c) (sym same) (record {
      within = omega (arith, within, length-map-range_with_len (λ m. option_map (list_state t m) (entry_at t m)) 0 (length t.lists));
      vacant = list_unseen t l vacant;
      after = ap (λ q. state_of (record t { lists = q })) is ∙ seen;
      cursor = cursor;
    }))

-- a list without a cursor keeps nothing
unread_idle : (t : Table) (l : ℕ) (x : Entry) → IsStore t → entry_at t l ≡ Some x → x.cursors ≡ 0 → x.span.filled ≤ x.span.gone
unread_idle t l x store at none =
    elim (cases_lt x.span.gone x.span.filled) [
      | inl more ↦ absurd (omega (arith, store.settled l x at more, mark_few t l x x.span.gone store.table at (omega (arith, more)), none))
      | inr idle ↦ idle
    ]

module _ (t : Table) (l : ℕ) (x : Entry) (store : IsStore t) (at : entry_at t l ≡ Some x) (none : x.cursors ≡ 0) where
  no_home : (b j : ℕ) → home_at t.links.items b ≢ nth l j
  no_home b j home = let h = home_inside t store.table b l j x at home in omega (arith, h.0, h.1, unread_idle t l x store at none)

  no_kept : kept_in (entry_at t l) ≡ 0
  no_kept = ap kept_in at ∙ omega (arith, unread_idle t l x store at none)

  pub IsStore-ended : (ls : List (Option Entry)) → ls ≡ set t.lists l None → IsStore (record t { lists = ls })
  IsStore-ended ls is = subst (λ q. IsStore (record t { lists = q })) (sym is) (IsStore-replaced t l None store (entry_within t l x at) no_home no_kept (λ y e. absurd (none_some e)) (λ y e. absurd (none_some e)))

  pub ended_seen : (ls : List (Option Entry)) (s : StoreState) (k : ℕ) → ls ≡ set t.lists l None → state_of t ≡ s → l ≡ k → state_of (record t { lists = ls }) ≡ with_list s k None
  ended_seen ls s k is seen same =
      ap (λ q. state_of (record t { lists = q })) is
      ∙ replaced_seen t l None store (entry_within t l x at) no_home no_kept (λ y e. absurd (none_some e)) (λ y e. absurd (none_some e))
      ∙ (λ i. with_list (seen i) (same i) None)

pub cursors_told : (t : Table) (l : ℕ) (s : StoreState) (k : ℕ) (x : Entry) → IsTable t → state_of t ≡ s → l ≡ k → entry_at t l ≡ Some x → ((y : ListState) → list_at s k ≡ Some y → cursors_of y ≡ 0) → x.cursors ≡ 0
cursors_told t l s k x table is at there none =
    (table.lists l x there).counted ∙ none (list_state t l x) ((λ i. list_at (sym is i) (sym at i)) ∙ list_seen t l x there)

-- ---- room for a list

entry_added : (t : Table) (more m : ℕ) → get_or (t.lists ++ replicate more None) m None ≡ entry_at t m
entry_added t more m = get_or-added t.lists more m

seen_at : (t : Table) (m : ℕ) → list_at (state_of t) m ≡ option_map (list_state t m) (entry_at t m)
seen_at t m = by_entry (entry_at t m) refl
  where
    by_entry : (o : Option Entry) → entry_at t m ≡ o → list_at (state_of t) m ≡ option_map (list_state t m) (entry_at t m)
    by_entry None e = list_unseen t m e ∙ sym (ap (option_map (list_state t m)) e)
    by_entry (Some x) e = list_seen t m x e ∙ sym (ap (option_map (list_state t m)) e)

abbrev roomier : Table → ℕ → Table
roomier t more = record t { lists = t.lists ++ replicate more None }

IsStore-roomier : (t : Table) (more : ℕ) → IsStore t → IsStore (roomier t more)
IsStore-roomier t more store =
    let v = store.table in
    record {
      table = record {
        some = v.some;
        small = v.small;
        len = v.len;
        few = v.few;
        links = v.links;
        counts = v.counts;
        whole = v.whole;
        chain = subst (IsChained t.links.items) (λ i m. option_map (λ q. q.span) (sym (entry_added t more m) i)) v.chain;
        taken = v.taken;
        lists = λ m z at. let e = v.lists m z (sym (entry_added t more m) ∙ at) in record { short = e.short; tagged = e.tagged; order = e.order; filled = e.filled; counted = e.counted; few = e.few };
        counted = omega (arith, v.counted, sum_by-append kept_in t.lists (replicate more None), none_kept more);
      };
      settled = λ m z at. store.settled m z (sym (entry_added t more m) ∙ at);
    }
  where
    none_kept : (n : ℕ) → sum_by kept_in (replicate n None) ≡ 0
    none_kept zero = refl
    none_kept (suc n) = none_kept n

roomier_seen : (t : Table) (more : ℕ) → state_of (roomier t more) ≡ record (state_of t) { lists = (state_of t).lists ++ replicate more None }
roomier_seen t more = λ i. record { block = t.block; lists = sym lists i; loose = loose_in t }
  where
    len : length (state_of t).lists ≡ length t.lists
    len = length-map-range_with_len (λ m. option_map (list_state t m) (entry_at t m)) 0 (length t.lists)

    lists : (state_of t).lists ++ replicate more None ≡ (state_of (roomier t more)).lists
    lists =
        fill_by_all (λ m. option_map (list_state t m) (entry_at (roomier t more) m)) ((state_of t).lists ++ replicate more None) (length (t.lists ++ replicate more None)) None
        (omega (arith, length-append (state_of t).lists (replicate {A = Option ListState} more None), length-append t.lists (replicate {A = Option Entry} more None), len, length-replicate {A = Option ListState} more None, length-replicate {A = Option Entry} more None))
        (λ k h. get_or-added (state_of t).lists more k ∙ seen_at t k ∙ ap (option_map (list_state t k)) (sym (entry_added t more k)))

pub spare_seen : (t : Table) → count_by is_none (state_of t).lists ≡ count_by is_none t.lists
spare_seen t =
    let len = length-map-range_with_len (λ m. option_map (list_state t m) (entry_at t m)) 0 (length t.lists) in
    sums_agree (λ o. cond {A = ℕ} (is_none o) 1 0) (λ o. cond {A = ℕ} (is_none o) 1 0) None None (state_of t).lists t.lists len (λ k h. ap (λ o. cond {A = ℕ} (is_none o) 1 0) (seen_at t k) ∙ by_entry k (entry_at t k))
  where
    by_entry : (k : ℕ) (o : Option Entry) → cond {A = ℕ} (is_none (option_map (list_state t k) o)) 1 0 ≡ cond {A = ℕ} (is_none o) 1 0
    by_entry k None = refl
    by_entry k (Some x) = refl

-- what was asked for came, or nothing changed
pub IsStore-reserved : {U : Type 0} (t : Table) (ls : List (Option Entry)) (r : Result U AllocError) → IsStore t → OnOk r ((more : ℕ) × (ls ≡ t.lists ++ replicate more None)) → OnErr r (ls ≡ t.lists) → IsStore (record t { lists = ls })
IsStore-reserved t ls (Ok u) store more same = subst (λ q. IsStore (record t { lists = q })) (sym more.1) (IsStore-roomier t more.0 store)
IsStore-reserved t ls (Err e) store more same = subst (λ q. IsStore (record t { lists = q })) (sym same) store

pub room_seen : {U : Type 0} (t : Table) (ls : List (Option Entry)) (r : Result U AllocError) → OnOk r (1 ≤ count_by is_none ls) → OnOk r (0 < count_by is_none (state_of (record t { lists = ls })).lists)
room_seen t ls (Ok u) room = omega (arith, room, spare_seen (record t { lists = ls }))
room_seen t ls (Err e) room = tt

pub more_seen : {U : Type 0} (t : Table) (ls : List (Option Entry)) (r : Result U AllocError) (s : StoreState) → state_of t ≡ s → OnOk r ((more : ℕ) × (ls ≡ t.lists ++ replicate more None)) → OnOk r ((more : ℕ) × (state_of (record t { lists = ls }) ≡ record s { lists = s.lists ++ replicate more None }))
more_seen t ls (Ok u) s is more = (more.0, ap (λ q. state_of (record t { lists = q })) more.1 ∙ roomier_seen t more.0 ∙ ap (λ (q : StoreState). record q { lists = q.lists ++ replicate more.0 None }) is)
more_seen t ls (Err e) s is more = tt

-- ---- a store without lists

all_none : (k : ℕ) → count_by is_none (replicate {A = Option (List ℤ)} k None) ≡ k
all_none zero = refl
all_none (suc k) =
    let rest = all_none k in
    let more = sum_by-cons {X = Option (List ℤ)} (λ o. cond {A = ℕ} (is_none o) 1 0) None (replicate k None) in
    omega (arith, more, rest)

none_some_in : (k : ℕ) → count_by is_some (replicate {A = Option (List ℤ)} k None) ≡ 0
none_some_in zero = refl
none_some_in (suc k) =
    let rest = none_some_in k in
    let more = sum_by-cons {X = Option (List ℤ)} (λ o. cond {A = ℕ} (is_some o) 1 0) None (replicate k None) in
    omega (arith, more, rest)

-- a copy of none is none
pub none_copied : (P : Option Link → Type 0) → ((k : Link) → P (Some k) → ⊥) → (y : Option Link) → P y → y ≡ None
none_copied P never None h = refl
none_copied P never (Some k) h = absurd (never k h)

module _ (n len : ℕ) (v : Vec (Option Link) Global) (w : Vec ℕ Global) (links : v.items ≡ replicate n None) (counts : w.items ≡ replicate n 0) (few : n < 2 ^ 32) (small : len < 2 ^ 32) (some : 1 ≤ len) where
  abbrev empty_pool : Blocks ℤ
  empty_pool = record { blocks = replicate n None; len = len }

  abbrev empty : Table
  empty = record { pool = record { blocks = replicate n None; len = len }; links = v; counts = w; lists = []; block = len }

  none_in : {A : Type 0} (k : ℕ) → get_or (replicate {A = Option A} n None) k None ≡ None
  none_in {A} k =
      elim (cases_lt k n) [
        | inl inside ↦ get_or-replicate n k None None inside
        | inr past ↦ get_or_past (replicate {A = Option A} n None) k None (omega (arith, past, length-replicate {A = Option A} n None))
      ]

  no_link : (k : ℕ) → get_or v.items k None ≡ None
  no_link k = ap (λ xs. get_or xs k None) links ∙ none_in {A = Link} k

  no_home_at : (k l j : ℕ) → home_at v.items k ≢ nth l j
  no_home_at k l j e = none_some (sym (ap home_of (no_link k)) ∙ e)

  size : length (replicate {A = Option (List ℤ)} n None) ≡ n
  size = length-replicate {A = Option (List ℤ)} n None

  none_loose : loose_in empty ≡ replicate n None
  none_loose =
      ap (λ k. map (loose_of empty) (range_with_len 0 k)) size
      ∙ sym (fill_by_all (loose_of empty) (replicate n None) n None size (λ k h. none_in {A = List ℤ} k ∙ sym (ap (λ o. cond (is_some o) None (get_or (replicate {A = Option (List ℤ)} n None) k None)) (no_link k) ∙ none_in {A = List ℤ} k)))

  IsStore-empty : IsStore empty
  IsStore-empty = record {
    table = record {
      some = some;
      small = small;
      len = refl;
      few = omega (arith, few, size);
      links = ap length links ∙ length-replicate {A = Option Link} n None ∙ sym size;
      counts = ap length counts ∙ length-replicate {A = ℕ} n 0 ∙ sym size;
      whole = λ k. rw (none_in {A = List ℤ} k) tt;
      chain = record {
        once = λ a b l j p q. absurd (no_home_at a l j p);
        home = λ b l j e. absurd (no_home_at b l j e);
        first = λ l x e more. absurd (none_some e);
        last = λ l j x e from upto. absurd (none_some e);
        next = λ b l j x e is more. absurd (no_home_at b l j e);
      };
      taken = λ b linked. absurd (nothing (get_or v.items b None) (no_link b) linked);
      lists = λ l x at. absurd (none_some at);
      counted = omega (arith, all_none n, none_some_in n, ap (count_by is_some) none_loose, size);
    };
    settled = λ l x at. absurd (none_some at);
  }
    where
      nothing : (o : Option Link) → o ≡ None → IsSome o → ⊥
      nothing None e s = cc
      nothing (Some a) e s = cc

  empty_seen : state_of empty ≡ record { block = len; lists = []; loose = replicate n None }
  empty_seen = λ i. record { block = len; lists = []; loose = none_loose i }

  pub IsStore-opened : (p : Blocks ℤ) (ls : List (Option Entry)) → p ≡ record { blocks = replicate n None; len = len } → ls ≡ [] → IsStore (record { pool = p; links = v; counts = w; lists = ls; block = len })
  IsStore-opened p ls pool none = subst (λ (q : Blocks ℤ). IsStore (record { pool = q; links = v; counts = w; lists = ls; block = len })) (sym pool) (subst (λ (q : List (Option Entry)). IsStore (record { pool = record { blocks = replicate n None; len = len }; links = v; counts = w; lists = q; block = len })) (sym none) IsStore-empty)

  pub opened_seen : (p : Blocks ℤ) (ls : List (Option Entry)) → p ≡ record { blocks = replicate n None; len = len } → ls ≡ [] → state_of (record { pool = p; links = v; counts = w; lists = ls; block = len }) ≡ record { block = len; lists = []; loose = replicate n None }
  opened_seen p ls pool none = (λ i. state_of (record { pool = pool i; links = v; counts = w; lists = none i; block = len })) ∙ empty_seen
