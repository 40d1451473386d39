-- Cursors that come to a block, and that leave one.
use Rattle.std.proofs.Common.{◌≡◌, ◌≢◌, ℕ, ◌+◌, ◌-◌, ◌^◌, ◌<◌, ◌≤◌, cond, nat_eq, length, get_or, set, Some, refl, sym, ap, subst, ◌∙◌, arith, length-set}
use Rattle.std.proofs.lemmas.List.{get_or-set_same, get_or-set_other, get_or_default}
use Rattle.std.proofs.lemmas.List.FromFn.{length-map-range_with_len}
use Rattle.std.proofs.lemmas.Bool.{cond-true, cond-false, eq-eqb, ne_eqb}
use Rattle.std.specs.Vec.{with_item}
use Rattle.ny_list.specs.declared.table.Entry.{Entry}
use Rattle.ny_list.specs.declared.table.Table.{Table}
use Rattle.ny_list.specs.Steps.{entered, left}
use Rattle.ny_list.specs.Chain.{nth, home_at, place_of}
use Rattle.ny_list.specs.Table.{entry_at, span_at, mark_of, list_state, IsTable, CanStand, Enters, Leaves}
use Rattle.ny_list.proofs.IndexLemmas.{same_some, tab_get, sum_set, sum_at}
use Rattle.ny_list.proofs.ChainLemmas.{home_within, place_home, place_is, pair_first, pair_second}
use Rattle.ny_list.proofs.StateLemmas.{home_inside, mark_kept, Recounts, Changes-recounted}

-- the mark of a block among those of its list
pub mark_seen : (t : Table) (l : ℕ) (x : Entry) (j : ℕ) → j ≤ x.span.filled → get_or (list_state t l x).marks j 0 ≡ mark_of t l x j
mark_seen t l x j upto = tab_get (mark_of t l x) (x.span.filled + 1) j 0 (omega arith)

pub marks_len : (t : Table) (l : ℕ) (x : Entry) → length (list_state t l x).marks ≡ x.span.filled + 1
marks_len t l x = length-map-range_with_len (mark_of t l x) 0 (x.span.filled + 1)

-- there are no more cursors in a block than in its list
pub mark_few : (t : Table) (l : ℕ) (x : Entry) (j : ℕ) → IsTable t → entry_at t l ≡ Some x → j ≤ x.span.filled → mark_of t l x j ≤ x.cursors
mark_few t l x j table at upto = omega (arith, mark_seen t l x j upto, sum_at (list_state t l x).marks j, (table.lists l x at).counted)

-- another number of cursors past the last block
pub end_recounted : (t : Table) (l w c : ℕ) (x : Entry) → IsTable t → entry_at t l ≡ Some x
    → Recounts t (record t { lists = set t.lists l (Some (record x { waiting = w; cursors = c })) }) l x.span.filled w x (record x { waiting = w; cursors = c })
end_recounted t l w c x table at = record {
  block = refl;
  pool = refl;
  links = refl;
  counts = refl;
  lists = refl;
  span = refl;
  tag = refl;
  here = cond-true (nat_eq x.span.filled x.span.filled) w (get_or t.counts.items (place_of t.links.items l x.span.filled) 0) (eq-eqb x.span.filled x.span.filled refl);
  mark = λ k ne.
      cond-false (nat_eq k x.span.filled) w (get_or t.counts.items (place_of t.links.items l k) 0) (ne_eqb k x.span.filled ne)
      ∙ sym (cond-false (nat_eq k x.span.filled) x.waiting (get_or t.counts.items (place_of t.links.items l k) 0) (ne_eqb k x.span.filled ne));
  others = λ m k z ne. refl;
}

-- a block is no other than its own
place_apart : (t : Table) (l j m k b : ℕ) → IsTable t → home_at t.links.items b ≡ nth l j → ((m ≡ l) → (k ≡ j) → ⊥) → place_of t.links.items m k ≢ b
place_apart t l j m k b table home other e =
    let inside = home_within t.links.items b (record { list = l; number = j }) home in
    let found = place_home t.links.items m k (omega (arith, e, inside)) in
    let same : nth m k ≡ nth l j = sym found ∙ ap (home_at t.links.items) e ∙ home in
    other (pair_first same) (pair_second same)

-- another number of cursors in a block
pub block_recounted : (t : Table) (l j b n c : ℕ) (x : Entry) → IsTable t → entry_at t l ≡ Some x → home_at t.links.items b ≡ nth l j
    → Recounts t (record t { counts = with_item t.counts b n; lists = set t.lists l (Some (record x { cursors = c })) }) l j n x (record x { cursors = c })
block_recounted t l j b n c x table at home = record {
  block = refl;
  pool = refl;
  links = refl;
  counts = length-set t.counts.items b n;
  lists = refl;
  span = refl;
  tag = refl;
  here =
      let below = (home_inside t table b l j x at home).1 in
      let inside = home_within t.links.items b (record { list = l; number = j }) home in
      cond-false (nat_eq j x.span.filled) x.waiting (get_or (set t.counts.items b n) (place_of t.links.items l j) 0) (ne_eqb j x.span.filled (λ e. omega (arith, below, e)))
      ∙ ap (λ p. get_or (set t.counts.items b n) p 0) (place_is t.links.items (span_at t) table.chain l j b home)
      ∙ get_or-set_same t.counts.items b n 0 (omega (arith, inside, table.links, table.counts));
  mark = λ k ne. ap (cond (nat_eq k x.span.filled) x.waiting) (get_or-set_other t.counts.items b (place_of t.links.items l k) n 0 (place_apart t l j l k b table home (λ e d. ne d)));
  others = λ m k z ne. ap (cond (nat_eq k z.span.filled) z.waiting) (get_or-set_other t.counts.items b (place_of t.links.items m k) n 0 (place_apart t l j m k b table home (λ e d. ne e)));
}

pub entered_by : (old new : Table) (l j v : ℕ) (x y : Entry) → IsTable old → entry_at old l ≡ Some x → Recounts old new l j (v + 1) x y → v ≡ mark_of old l x j → j ≤ x.span.filled
    → y.cursors ≡ x.cursors + 1 → x.cursors + 1 < 2 ^ 32 → Enters old new l j
entered_by old new l j v x y table at r is upto more few =
    let seen : get_or (list_state old l x).marks j 0 ≡ v = mark_seen old l x j upto ∙ sym is in
    record {
      was = x;
      now = y;
      changes = Changes-recounted old new l j (v + 1) x y table at r (entered j) upto
          (omega (arith, more, (table.lists l x at).counted, seen, sum_set (list_state old l x).marks j (v + 1) (omega (arith, marks_len old l x))))
          (omega (arith, more, few))
          (ap (λ n. record (list_state old l x) { marks = set (list_state old l x).marks j (n + 1) }) seen);
      span = r.span;
    }

pub left_by : (old new : Table) (l j v : ℕ) (x y : Entry) → IsTable old → entry_at old l ≡ Some x → Recounts old new l j (v - 1) x y → v ≡ mark_of old l x j → j ≤ x.span.filled
    → 0 < v → y.cursors ≡ x.cursors - 1 → Leaves old new l j
left_by old new l j v x y table at r is upto some less =
    let seen : get_or (list_state old l x).marks j 0 ≡ v = mark_seen old l x j upto ∙ sym is in
    let e = table.lists l x at in
    let few : v ≤ x.cursors = omega (arith, is, mark_few old l x j table at upto) in
    record {
      was = x;
      now = y;
      changes = Changes-recounted old new l j (v - 1) x y table at r (left j) upto
          (omega (arith, less, some, e.counted, seen, sum_set (list_state old l x).marks j (v - 1) (omega (arith, marks_len old l x))))
          (omega (arith, less, e.few))
          (ap (λ n. record (list_state old l x) { marks = set (list_state old l x).marks j (n - 1) }) seen);
      span = r.span;
      cursors = omega (arith, less, some, few);
    }

-- the number that was read of a block is its mark
pub mark_read : (t : Table) (l j b v : ℕ) (x : Entry) → IsTable t → entry_at t l ≡ Some x → home_at t.links.items b ≡ nth l j → v ≡ get_or t.counts.items b v → v ≡ mark_of t l x j
mark_read t l j b v x table at home read =
    let inside = home_within t.links.items b (record { list = l; number = j }) home in
    read ∙ get_or_default t.counts.items b v 0 (omega (arith, inside, table.links, table.counts)) ∙ sym (mark_kept t table b l j x at home)

-- what is known of the list that was read
pub can_stand : (t : Table) (l j : ℕ) (x : Entry) → CanStand t l j → entry_at t l ≡ Some x → (x.span.gone ≤ j) × (j ≤ x.span.filled)
can_stand t l j x can at =
    let e = same_some (sym can.there ∙ at) in
    (subst (λ (q : Entry). q.span.gone ≤ j) e can.from, subst (λ (q : Entry). j ≤ q.span.filled) e can.upto)
