-- Where the cursors of a store stand, and what the calls on them do to what is seen.
use Rattle.std.proofs.Common.{◌≡◌, ◌≢◌, inl, inr, ℕ, suc, ◌+◌, ◌-◌, ◌*◌, ◌/◌, ◌%◌, ◌^◌, ◌<◌, ◌≤◌, min, cond, nat_eq, List, [], length, take, drop, get_or, set, Option, None, Some, IsSome, is_some, ◌⊎◌, refl, sym, ap, subst, ◌∙◌, arith, ℤ}
use Rattle.std.proofs.lemmas.Bool.{cases_eq, cases_lt, cond-true, cond-false, eq-eqb, ne_eqb}
use Rattle.std.proofs.lemmas.List.{get_or-set_same, get_or-set_other, get_or_past}
use Rattle.std.proofs.Math.Nat.{div-lt_iff_lt-mul, suc-mul, lt-div-mul-add}
use Rattle.std.specs.Option.{option_map, option_map_or}
use Rattle.ny_pool.specs.Blocks.{in_block}
use Rattle.ny_list.specs.declared.table.Entry.{Entry}
use Rattle.ny_list.specs.declared.table.Table.{Table}
use Rattle.ny_list.specs.Store.{ListState, StoreState, CursorState, list_at, loose_at, mark_at, blocks_of, stands_in, computed_of, cursors_of, run_of}
use Rattle.ny_list.specs.Steps.{entered, left, settled, filled_with, with_cursor, without_cursor, with_move, with_block, IsComputed, IsUnfilled}
use Rattle.ny_list.specs.Table.{entry_at, mark_of, value_of, list_state, loose_of, state_of, run_of_list, IsTable, IsStore, IsSettled, CanStand, CanAppend, Enters, Drops, Moves, AddsWith}
use Rattle.ny_list.proofs.IndexLemmas.{same_some, none_some, tab_get, tab_past}
use Rattle.ny_list.proofs.StateLemmas.{list_seen, list_unseen, list_there, mark_gone}
use Rattle.ny_list.proofs.CursorLemmas.{mark_seen, marks_len}
use Rattle.ny_list.proofs.SettleLemmas.{same_entry, change_same, changed_list}
use Rattle.ny_list.proofs.MoveLemmas.{IsStore-changed}
use Rattle.std.proofs.lemmas.List.FromFn.{length-map-range_with_len}

abbrev pub here : ℕ → ℕ → ℕ → ℕ → CursorState
here l p v g = record { list = l; place = p; visible = v; tag = g }

-- a cursor of list l that has passed p samples stands among the blocks that are kept, or at the end
pub record Stands (t : Table) (l p : ℕ) : Type 0 where
  pub entry : Entry
  pub there : entry_at t l ≡ Some entry
  pub from : entry.span.gone ≤ stands_in t.block entry.span.len p
  pub upto : stands_in t.block entry.span.len p ≤ entry.span.filled
  pub some : 0 < mark_of t l entry (stands_in t.block entry.span.len p)

stands_at : (t : Table) (l p v g : ℕ) → IsTable t → 0 < mark_at (state_of t) (here l p v g) → Stands t l p
stands_at t l p v g table some = by_entry (entry_at t l) refl
  where
    by_entry : (o : Option Entry) → entry_at t l ≡ o → Stands t l p
    by_entry None e = absurd (no_less (subst (λ n. 0 < n) (ap (λ q. option_map_or (λ x. get_or x.marks (stands_in t.block x.len p) 0) q 0) (list_unseen t l e)) some))
      where
        no_less : 0 < 0 → ⊥
        no_less h = omega (arith, h)
    by_entry (Some x) e =
        let seen : 0 < get_or (list_state t l x).marks (stands_in t.block x.span.len p) 0 = subst (λ n. 0 < n) (ap (λ q. option_map_or (λ x. get_or x.marks (stands_in t.block x.len p) 0) q 0) (list_seen t l x e)) some in
        elim (cases_lt x.span.filled (stands_in t.block x.span.len p)) [
          | inl past ↦ absurd (omega (arith, seen, get_or_past (list_state t l x).marks (stands_in t.block x.span.len p) 0 (omega (arith, past, marks_len t l x))))
          | inr upto ↦
              let mark = mark_seen t l x (stands_in t.block x.span.len p) upto in
              elim (cases_lt (stands_in t.block x.span.len p) x.span.gone) [
                | inl before ↦ absurd (omega (arith, seen, mark, mark_gone t table l (stands_in t.block x.span.len p) x e before))
                | inr from ↦ record { entry = x; there = e; from = from; upto = upto; some = omega (arith, seen, mark) }
              ]
        ]

pub stands : (t : Table) (l p v g : ℕ) (s : StoreState) (q : CursorState) → IsTable t → state_of t ≡ s → here l p v g ≡ q → 0 < mark_at s q → Stands t l p
stands t l p v g s q table is at some =
    stands_at t l p v g table (subst (λ r. 0 < mark_at (state_of t) r) (sym at) (subst (λ r. 0 < mark_at r q) (sym is) some))

-- n is the block in which it stands
abbrev pub IsStand : Table → ℕ → ℕ → ℕ → Type 0
IsStand t l p n = (x : Entry) → entry_at t l ≡ Some x → n ≡ stands_in t.block x.span.len p

pub can_from : (t : Table) (l p n : ℕ) → Stands t l p → IsStand t l p n → CanStand t l n
can_from t l p n st is = record {
  entry = st.entry;
  there = st.there;
  from = omega (arith, st.from, is st.entry st.there);
  upto = omega (arith, st.upto, is st.entry st.there);
}

pub some_from : (t : Table) (l p n : ℕ) → Stands t l p → IsStand t l p n → (x : Entry) → entry_at t l ≡ Some x → 0 < mark_of t l x n
some_from t l p n st is x at =
    subst (λ (q : Entry). 0 < mark_of t l q n) (same_entry t l st.entry x st.there at) (subst (λ k. 0 < mark_of t l st.entry k) (sym (is st.entry st.there)) st.some)

-- ---- one more cursor

pub few_of : (t : Table) (l p v g : ℕ) (s : StoreState) (q : CursorState) → IsTable t → state_of t ≡ s → here l p v g ≡ q → ((x : ListState) → list_at s q.list ≡ Some x → cursors_of x + 1 < 2 ^ 32) → (x : Entry) → entry_at t l ≡ Some x → x.cursors + 1 < 2 ^ 32
few_of t l p v g s q table is at few x there =
    let seen = ap (λ r. list_at r q.list) (sym is) ∙ ap (λ r. list_at (state_of t) r.list) (sym at) ∙ list_seen t l x there in
    omega (arith, few (list_state t l x) seen, (table.lists l x there).counted)

pub shared : (t new : Table) (l p v g n : ℕ) (s : StoreState) (q : CursorState) → state_of t ≡ s → here l p v g ≡ q → IsStand t l p n → Enters t new l n → state_of new ≡ with_cursor s q
shared t new l p v g n s q is at stand enters =
    let x = enters.was in
    enters.changes.state
    ∙ change_same (state_of t) l (list_state t l x) (entered n) (λ y. entered (stands_in t.block y.len p) y) (list_seen t l x enters.changes.there) (ap (λ k. entered k (list_state t l x)) (stand x enters.changes.there))
    ∙ ap (with_cursor (state_of t)) at ∙ ap (λ r. with_cursor r q) is

-- more cursors than before stand in each block
pub IsStore-entered : (t new : Table) (l n : ℕ) → IsStore t → CanStand t l n → Enters t new l n → IsStore new
IsStore-entered t new l n store can enters = IsStore-changed t new l (entered n) enters.was enters.now store enters.changes (λ more.
    let x = enters.was in
    let y = enters.now in
    let same = same_entry t l can.entry x can.there enters.changes.there in
    let gone : y.span.gone ≡ x.span.gone = ap (λ q. q.gone) enters.span in
    let filled : y.span.filled ≡ x.span.filled = ap (λ q. q.filled) enters.span in
    let was = store.settled l x enters.changes.there (omega (arith, more, gone, filled)) in
    let list = changed_list t new l (entered n) x y enters.changes in
    let upto : n ≤ x.span.filled = omega (arith, can.upto, ap (λ (q : Entry). q.span.filled) same) in
    let before = mark_seen t l x x.span.gone (omega (arith, more, gone, filled)) in
    let after = mark_seen new l y y.span.gone (omega (arith, more)) in
    let marks : get_or (list_state new l y).marks y.span.gone 0 ≡ get_or (set (list_state t l x).marks n (get_or (list_state t l x).marks n 0 + 1)) x.span.gone 0 = ap (λ q. get_or q.marks y.span.gone 0) list ∙ ap (λ k. get_or (set (list_state t l x).marks n (get_or (list_state t l x).marks n 0 + 1)) k 0) gone in
    elim (cases_eq x.span.gone n) [
      | inl e ↦
          let here = ap (λ k. get_or (set (list_state t l x).marks n (get_or (list_state t l x).marks n 0 + 1)) k 0) e ∙ get_or-set_same (list_state t l x).marks n (get_or (list_state t l x).marks n 0 + 1) 0 (omega (arith, upto, marks_len t l x)) in
          omega (arith, after, marks, here)
      | inr ne ↦ omega (arith, after, marks, get_or-set_other (list_state t l x).marks n x.span.gone (get_or (list_state t l x).marks n 0 + 1) 0 ne, before, was)
    ])

-- ---- one cursor less

pub dropped_seen : (t new : Table) (l p v g n : ℕ) (s : StoreState) (q : CursorState) → state_of t ≡ s → here l p v g ≡ q → IsStand t l p n → Drops t new l n → state_of new ≡ without_cursor s q
dropped_seen t new l p v g n s q is at stand drops =
    let x = drops.was in
    drops.changes.state
    ∙ change_same (state_of t) l (list_state t l x) (λ y. settled (left n y)) (λ y. settled (left (stands_in t.block y.len p) y)) (list_seen t l x drops.changes.there) (ap (λ k. settled (left k (list_state t l x))) (stand x drops.changes.there))
    ∙ ap (without_cursor (state_of t)) at ∙ ap (λ r. without_cursor r q) is

-- ---- a cursor goes on

stands_upto : (block len filled p : ℕ) → 0 < block → p ≤ min (filled * block) len → stands_in block len p ≤ filled
stands_upto block len filled p some computed =
    elim (cases_eq p len) [
      | inl e ↦
          let more : len + (block - 1) < suc filled * block = omega (arith, suc-mul filled block, computed, e, some) in
          omega (arith, cond-true (nat_eq p len) (blocks_of block len) (p / block) (eq-eqb p len e), (div-lt_iff_lt-mul {k = block} {x = len + (block - 1)} {y = suc filled} some).1 more)
      | inr ne ↦
          let more : p < suc filled * block = omega (arith, suc-mul filled block, computed, some) in
          omega (arith, cond-false (nat_eq p len) (blocks_of block len) (p / block) (ne_eqb p len ne), (div-lt_iff_lt-mul {k = block} {x = p} {y = suc filled} some).1 more)
    ]

div_mono : (block a b : ℕ) → 0 < block → a ≤ b → a / block ≤ b / block
div_mono block a b some h =
    let more : a < suc (b / block) * block = omega (arith, suc-mul (b / block) block, lt-div-mul-add {a = b} {b = block} some, h) in
    omega (arith, (div-lt_iff_lt-mul {k = block} {x = a} {y = suc (b / block)} some).1 more)

stands_mono : (block len a b : ℕ) → 0 < block → a ≤ b → b ≤ len → stands_in block len a ≤ stands_in block len b
stands_mono block len a b some h upto =
    elim (cases_eq b len) [
      | inl e ↦
          elim (cases_eq a len) [
            | inl d ↦ omega (arith, ap (stands_in block len) (d ∙ sym e))
            | inr ne ↦
                omega (arith, cond-false (nat_eq a len) (blocks_of block len) (a / block) (ne_eqb a len ne), cond-true (nat_eq b len) (blocks_of block len) (b / block) (eq-eqb b len e), div_mono block a (len + (block - 1)) some (omega (arith, h, upto)))
          ]
      | inr ne ↦
          omega (arith, cond-false (nat_eq b len) (blocks_of block len) (b / block) (ne_eqb b len ne), cond-false (nat_eq a len) (blocks_of block len) (a / block) (ne_eqb a len (λ d. omega (arith, d, ne, h, upto))), div_mono block a b some h)
    ]

-- n more samples are computed
pub record Reaches (t : Table) (l p n : ℕ) : Type 0 where
  pub entry : Entry
  pub there : entry_at t l ≡ Some entry
  pub computed : p + n ≤ min (entry.span.filled * t.block) entry.span.len

pub reaches : (t : Table) (l p v g n : ℕ) (s : StoreState) (q : CursorState) → state_of t ≡ s → here l p v g ≡ q → IsComputed s q n → Reaches t l p n
reaches t l p v g n s q is at computed =
    let c : IsComputed (state_of t) (here l p v g) n = subst (λ r. IsComputed (state_of t) r n) (sym at) (subst (λ r. IsComputed r q n) (sym is) computed) in
    let h = list_there t l c.list c.there in
    let x = h.0 in
    record {
      entry = x;
      there = h.1;
      computed = subst (λ k. p + n ≤ min (k * t.block) x.span.len) (length-map-range_with_len (value_of t l x.span.len) 0 x.span.filled) (subst (λ r. p + n ≤ computed_of t.block r) h.2 c.computed);
    }

pub place_few : (t : Table) (l p n : ℕ) → IsTable t → Reaches t l p n → p + n < 2 ^ 32
place_few t l p n table r = omega (arith, r.computed, (table.lists l r.entry r.there).short)

pub can_to : (t : Table) (l p n k : ℕ) → IsTable t → Stands t l p → Reaches t l p n → IsStand t l (p + n) k → CanStand t l k
can_to t l p n k table st r is =
    let same = same_entry t l st.entry r.entry st.there r.there in
    let x = st.entry in
    let e = is x st.there in
    let computed : p + n ≤ min (x.span.filled * t.block) x.span.len = subst (λ (q : Entry). p + n ≤ min (q.span.filled * t.block) q.span.len) (sym same) r.computed in
    record {
      entry = x;
      there = st.there;
      from = omega (arith, st.from, e, stands_mono t.block x.span.len p (p + n) table.some (omega arith) (omega (arith, computed)));
      upto = omega (arith, e, stands_upto t.block x.span.len x.span.filled (p + n) table.some computed);
    }

pub moved_seen : (t new : Table) (l p v g n a b : ℕ) (s : StoreState) (q : CursorState) → state_of t ≡ s → here l p v g ≡ q → IsStand t l p a → IsStand t l (p + n) b → Moves t new l a b → state_of new ≡ with_move s q (q.place + n)
moved_seen t new l p v g n a b s q is at from to moves =
    let x = moves.was in
    moves.changes.state
    ∙ change_same (state_of t) l (list_state t l x) (λ y. settled (entered b (left a y))) (λ y. settled (entered (stands_in t.block y.len (p + n)) (left (stands_in t.block y.len p) y))) (list_seen t l x moves.changes.there)
    (λ i. settled (entered (to x moves.changes.there i) (left (from x moves.changes.there i) (list_state t l x))))
    ∙ ap (λ r. with_move (state_of t) r (r.place + n)) at ∙ ap (λ r. with_move r q (q.place + n)) is

-- ---- what a cursor reads

pub kept_from : (t : Table) (l p from : ℕ) → IsTable t → Stands t l p → p ≤ from → (x : Entry) → entry_at t l ≡ Some x → from < x.span.len → x.span.gone ≤ from / t.block
kept_from t l p from table st ahead x at less =
    let same = same_entry t l st.entry x st.there at in
    let e = ap (λ (q : Entry). q.span.gone) same in
    let stood = cond-false (nat_eq p st.entry.span.len) (blocks_of t.block st.entry.span.len) (p / t.block) (ne_eqb p st.entry.span.len (λ d. omega (arith, d, ahead, less, ap (λ (q : Entry). q.span.len) same))) in
    omega (arith, st.from, stood, e, div_mono t.block p from table.some ahead)

pub run_seen : (t : Table) (l p v g from : ℕ) (s : StoreState) (q : CursorState) (out : List ℤ) → state_of t ≡ s → here l p v g ≡ q → Stands t l p → ((x : Entry) → entry_at t l ≡ Some x → out ≡ run_of_list t l x from v) → out ≡ run_of s q from
run_seen t l p v g from s q out is at st run =
    run st.entry st.there
    ∙ sym (ap (λ o. option_map_or (λ x. take (v - from) (drop (from % t.block) (Rattle.ny_list.specs.Store.block_of x (from / t.block)))) o []) (list_seen t l st.entry st.there))
    ∙ ap (λ r. run_of (state_of t) r from) at ∙ ap (λ r. run_of r q from) is

-- ---- one block more

pub can_append : (t : Table) (l b : ℕ) (s : StoreState) (k : ℕ) → IsTable t → state_of t ≡ s → l ≡ k → IsSome (loose_at s b) → IsUnfilled s k → CanAppend t l b
can_append t l b s k table is at some unfilled =
    let u : IsUnfilled (state_of t) l = subst (IsUnfilled (state_of t)) (sym at) (subst (λ r. IsUnfilled r k) (sym is) unfilled) in
    let h = list_there t l u.list u.there in
    let x = h.0 in
    let loose = loose_there t b (subst (λ r. IsSome (loose_at r b)) (sym is) some) in
    record {
      entry = x;
      there = h.1;
      unfilled = subst (λ n. n < blocks_of t.block x.span.len) (length-map-range_with_len (value_of t l x.span.len) 0 x.span.filled) (subst (λ r. length r.values < blocks_of t.block r.len) h.2 u.unfilled);
      loose = loose.0;
      samples = loose.1;
      holds = loose.2;
    }
  where
    loose_there : (t : Table) (b : ℕ) → IsSome (loose_at (state_of t) b) → (get_or t.links.items b None ≡ None) × (c : List ℤ) × (in_block t.pool b ≡ Some c)
    loose_there t b some = by_size (cases_lt b (length t.pool.blocks))
      where
        split : (o : Option Rattle.ny_list.specs.declared.chain.Link.Link) (p : Option (List ℤ)) → IsSome (cond (is_some o) None p) → (o ≡ None) × (c : List ℤ) × (p ≡ Some c)
        split None None s = absurd cc
        split None (Some c) s = (refl, c, refl)
        split (Some k) p s = absurd cc

        nothing : {A : Type 0} (o : Option A) → o ≡ None → IsSome o → ⊥
        nothing None e s = cc
        nothing (Some a) e s = cc

        by_size : (b < length t.pool.blocks) ⊎ (length t.pool.blocks ≤ b) → (get_or t.links.items b None ≡ None) × (c : List ℤ) × (in_block t.pool b ≡ Some c)
        by_size (inl inside) = split (get_or t.links.items b None) (in_block t.pool b) (subst IsSome (tab_get (loose_of t) (length t.pool.blocks) b None inside) some)
        by_size (inr past) = absurd (nothing (loose_at (state_of t) b) (tab_past (loose_of t) (length t.pool.blocks) b None past) some)

pub loose_seen : (t : Table) (b : ℕ) (c : List ℤ) → get_or t.links.items b None ≡ None → in_block t.pool b ≡ Some c → loose_at (state_of t) b ≡ Some c
loose_seen t b c loose holds =
    elim (cases_lt b (length t.pool.blocks)) [
      | inl inside ↦ tab_get (loose_of t) (length t.pool.blocks) b None inside ∙ ap (λ o. cond (is_some o) None (in_block t.pool b)) loose ∙ holds
      | inr past ↦ absurd (none_some (sym (get_or_past t.pool.blocks b None past) ∙ holds))
    ]

pub appended_seen : (t new : Table) (l b k : ℕ) (samples c : List ℤ) (s : StoreState) → state_of t ≡ s → l ≡ k → loose_at (state_of t) b ≡ Some c → loose_at s b ≡ Some samples → AddsWith t new l b c → state_of new ≡ with_block s k b samples
appended_seen t new l b k samples c s is at holds there adds =
    let same : c ≡ samples = same_some (sym holds ∙ ap (λ r. loose_at r b) is ∙ there) in
    adds.appends.state ∙ (λ i. with_block (is i) (at i) b (same i))

pub IsStore-added : (t new : Table) (l b : ℕ) (c : List ℤ) → IsStore t → AddsWith t new l b c → IsStore new
IsStore-added t new l b c store adds = record {
  table = adds.appends.table;
  settled = λ m z at.
      elim (cases_eq m l) [
        | inl same ↦ rw same (subst (IsSettled new l) (same_entry new l adds.now z adds.appends.after (ap (entry_at new) (sym same) ∙ at)) adds.settled)
        | inr ne ↦ kept_settled m z ne (sym (adds.appends.others m ne) ∙ at) at
      ];
}
  where
    kept_settled : (m : ℕ) (z : Entry) → m ≢ l → entry_at t m ≡ Some z → entry_at new m ≡ Some z → IsSettled new m z
    kept_settled m z ne was at more =
        let list : list_state new m z ≡ list_state t m z =
        same_some (sym (list_seen new m z at) ∙ ap (λ r. list_at r m) adds.appends.state ∙ get_or-set_other (state_of t).lists l m (option_map (λ x. settled (filled_with t.block c x)) (list_at (state_of t) l)) None ne ∙ list_seen t m z was) in
        omega (arith, mark_seen t m z z.span.gone (omega (arith, more)), mark_seen new m z z.span.gone (omega (arith, more)), ap (λ q. get_or q.marks z.span.gone 0) list, store.settled m z was more)
