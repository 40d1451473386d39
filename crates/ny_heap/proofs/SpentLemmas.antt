-- Sounds and cursors in hand that are spent together.
use Rattle.std.proofs.Common.{◌≡◌, inl, inr, ℕ, zero, suc, ◌-◌, List, [], ◌∷◌, ◌++◌, length, map, get_or, Option, None, Some, IsSome, refl, sym, ap, subst, ◌∙◌, arith, append_assoc, append-nil}
use Rattle.std.specs.List.{sum_by}
use Rattle.std.proofs.lemmas.List.{get_or_append_left, get_or-append_right, map-append}
use Rattle.std.proofs.lemmas.Bool.{cases_lt}
use Rattle.ny_list.specs.Store.{CursorState, list_at}
use Rattle.ny_list.proofs.IndexLemmas.{none_some}
use Rattle.ny_heap.specs.declared.sound.Sound.{Sound}
use Rattle.ny_heap.specs.declared.table.Table.{Table}
use Rattle.ny_heap.specs.Work.{flat}
use Rattle.ny_heap.specs.Table.{held_in, len_of, stands_at, IsTable, Drops}
use Rattle.ny_heap.proofs.TableLemmas.{place_within}
use Rattle.ny_heap.proofs.ListLemmas.{len_is, KeepsList-same}
use Rattle.ny_heap.proofs.CountLemmas.{held_cons, held_append, IsTable-hand}
use Rattle.ny_heap.proofs.DropLemmas.{Drops-skip, Drops-then, Drops-chain, IsTable-first}

abbrev pub cursors_in : List Sound → List (Option CursorState)
cursors_in ss = map (λ (s : Sound). s.reader) ss

-- ---- one cursor more

pub IsTable-none : (t : Table) (cs : List (Option CursorState)) → IsTable t cs → IsTable t (None ∷ cs)
IsTable-none t cs table = IsTable-hand t cs (None ∷ cs) table held (λ v j l is. omega (arith, held_cons t None cs v j))
  where
    held : (i : ℕ) (c : CursorState) → get_or (None ∷ cs) i None ≡ Some c → IsSome (list_at t.store c.list)
    held zero c is = absurd (none_some is)
    held (suc i) c is = table.held i c is

-- ---- spent, from the last on

IsTable-moved : (t : Table) (rest cs : List (Option CursorState)) (o : Option CursorState) → IsTable t (rest ++ (o ∷ cs)) → IsTable t (o ∷ (rest ++ cs))
IsTable-moved t rest cs o table =
    IsTable-hand t (rest ++ (o ∷ cs)) (o ∷ (rest ++ cs)) table held
    (λ v j l is. omega (arith, held_append t rest (o ∷ cs) v j, held_cons t o cs v j, held_cons t o (rest ++ cs) v j, held_append t rest cs v j))
  where
    held : (i : ℕ) (c : CursorState) → get_or (o ∷ (rest ++ cs)) i None ≡ Some c → IsSome (list_at t.store c.list)
    held zero c is =
        let e : length rest - length rest ≡ 0 = omega arith in
        table.held (length rest) c (get_or-append_right rest (o ∷ cs) (length rest) (length rest) None refl (omega arith) ∙ ap (λ k. get_or (o ∷ cs) k None) e ∙ is)
    held (suc i) c is = elim (cases_lt i (length rest)) [
      | inl h ↦ table.held i c (get_or_append_left rest (o ∷ cs) None i h ∙ sym (get_or_append_left rest cs None i h) ∙ is)
      | inr past ↦
          let e : suc i - length rest ≡ suc (i - length rest) = omega (arith, past) in
          table.held (suc i) c (get_or-append_right rest (o ∷ cs) (length rest) (suc i) None refl (omega (arith, past)) ∙ ap (λ k. get_or (o ∷ cs) k None) e
          ∙ sym (get_or-append_right rest cs (length rest) i None refl past) ∙ is)
    ]

-- the last of what is in hand is the first
Drops-moved : (t b : Table) (spent rest : List (Option CursorState)) (o : Option CursorState) → Drops t b spent (rest ++ o ∷ []) → Drops t b spent (o ∷ rest)
Drops-moved t b spent rest o d = record {
  table = λ cs whole. IsTable-moved b rest cs o (subst (IsTable b) (append_assoc rest (o ∷ []) cs) (d.table cs whole));
  read = d.read;
  fewer = d.fewer;
  block = d.block;
  pool = d.pool;
  slots = d.slots;
  kept = d.kept;
  lists = d.lists;
  others = λ w j l is. omega (arith, d.others w j l is, held_append b rest (o ∷ []) w j, held_cons b o [] w j, held_cons b o rest w j);
  gone = d.gone;
}

-- nothing is spent yet
pub Drops-same : (t : Table) (cs : List (Option CursorState)) → Drops t t cs cs
Drops-same t cs = record {
  table = λ ds whole. whole;
  read = λ read. read;
  fewer = omega arith;
  block = refl;
  pool = refl;
  slots = refl;
  kept = λ w y is. is;
  lists = λ w l is. (l, is, KeepsList-same l l refl);
  others = λ w j l is. refl;
  gone = λ w j k is none. absurd (none_some (sym none ∙ is));
}

pub Drops-none : (t : Table) → Drops t t (None ∷ []) []
Drops-none t = Drops-skip t t (None ∷ []) [] (Drops-same t (None ∷ []))

module _ (t b : Table) (all old new : List Sound) (s : Sound) (table : IsTable t (cursors_in all)) (drops : Drops t b (cursors_in all) (cursors_in old)) (popped : old ≡ new ++ s ∷ []) where
  next : Drops t b (cursors_in all) (s.reader ∷ cursors_in new)
  next = Drops-moved t b (cursors_in all) (cursors_in new) s.reader (subst (Drops t b (cursors_in all)) (ap cursors_in popped ∙ map-append (λ (x : Sound). x.reader) new (s ∷ [])) drops)

  next_table : IsTable b (s.reader ∷ cursors_in new)
  next_table = subst (IsTable b) (append-nil (s.reader ∷ cursors_in new)) (next.table [] (subst (IsTable t) (sym (append-nil (cursors_in all))) table))

  -- the last sound can be spent
  pub last_taken : IsTable b (s.reader ∷ [])
  last_taken = IsTable-first b s.reader (cursors_in new) next_table

  pub last_spent : (e : Table) → Drops b e (s.reader ∷ []) [] → Drops t e (cursors_in all) (cursors_in new)
  last_spent e d = Drops-then t b e s.reader (cursors_in all) (cursors_in new) next_table next d

-- none is left
pub all_spent : (t b : Table) (all left : List Sound) → length left ≡ 0 → Drops t b (cursors_in all) (cursors_in left) → Drops t b (cursors_in all) []
all_spent t b all [] none drops = drops
all_spent t b all (s ∷ ss) none drops = absurd (omega (arith, none))

-- a sound without a reader
pub Drops-unread : (t : Table) (o : Option CursorState) → o ≡ None → Drops t t (o ∷ []) []
Drops-unread t o none = subst (λ p. Drops t t (p ∷ []) []) (sym none) (Drops-none t)

-- ---- the first of what is in hand is spent

pub IsTable-front : (t : Table) (front rest : List (Option CursorState)) → IsTable t (front ++ rest) → IsTable t front
IsTable-front t front rest table =
    IsTable-hand t (front ++ rest) front table (λ i c is. table.held i c (get_or_append_left front rest None i (place_within front i c is) ∙ is))
    (λ v j l is. omega (arith, held_append t front rest v j))

-- the rest stays in hand
pub Drops-on : (t b : Table) (front rest : List (Option CursorState)) → IsTable t (front ++ rest) → Drops t b front [] → Drops t b (front ++ rest) rest
Drops-on t b front rest table d = record {
  table = λ cs whole. d.table (rest ++ cs) (subst (IsTable t) (append_assoc front rest cs) whole);
  read = d.read;
  fewer = d.fewer;
  block = d.block;
  pool = d.pool;
  slots = d.slots;
  kept = d.kept;
  lists = d.lists;
  others = λ w j l is.
      let k = d.lists w l is in
      let len : len_of b.store w ≡ len_of t.store w = len_is b.store w l is ∙ k.2.len ∙ sym (len_is t.store w k.0 k.1) in
      let same : held_in b rest w j ≡ held_in t rest w j = ap (λ z. sum_by (stands_at z (len_of b.store w) w j) rest) d.block ∙ ap (λ n. sum_by (stands_at t.block n w j) rest) len in
      omega (arith, d.others w j l is, held_append t front rest w j, same);
  gone = λ w j k is none. omega (arith, d.gone w j k is none, table.counted w j k is, held_append t front rest w j);
}

-- of all that is spent these are left
module _ (t b : Table) (all front rest : List (Option CursorState)) (table : IsTable t all) (drops : Drops t b all (front ++ rest)) where
  front_rest : IsTable b (front ++ rest)
  front_rest = subst (IsTable b) (append-nil (front ++ rest)) (drops.table [] (subst (IsTable t) (sym (append-nil all)) table))

  pub front_taken : IsTable b front
  front_taken = IsTable-front b front rest front_rest

  pub front_spent : (e : Table) → Drops b e front [] → Drops t e all rest
  front_spent e d = Drops-chain t b e all (front ++ rest) rest drops (Drops-on b e front rest front_rest d)

  pub rest_taken : (e : Table) → Drops b e front [] → IsTable e rest
  rest_taken e d = subst (IsTable e) (append-nil rest) ((front_spent e d).table [] (subst (IsTable t) (sym (append-nil all)) table))

-- ---- what parts that wait keep, one part after another

-- of several lists the first one, and the others
cursors_apart : (first : List Sound) (others all : List (List Sound)) → all ≡ first ∷ others → cursors_in (flat all) ≡ cursors_in first ++ cursors_in (flat others)
cursors_apart first others all is = ap (λ ls. cursors_in (flat ls)) is ∙ map-append (λ (s : Sound). s.reader) first (flat others)

-- of these lists those that are not left are spent
pub record Spending (t b : Table) (all left : List (List Sound)) : Type 0 where
  pub table : IsTable t (cursors_in (flat all))
  pub drops : Drops t b (cursors_in (flat all)) (cursors_in (flat left))

pub Spending-begun : (t : Table) (all left : List (List Sound)) → IsTable t (cursors_in (flat all)) → left ≡ all → Spending t t all left
Spending-begun t all left table is = record { table = table; drops = subst (λ ls. Drops t t (cursors_in (flat all)) (cursors_in (flat ls))) (sym is) (Drops-same t (cursors_in (flat all))) }

module _ (t b : Table) (all left : List (List Sound)) (p : Spending t b all left) where
  pub Spending-next : (first : List Sound) (others : List (List Sound)) → left ≡ first ∷ others → IsTable b (cursors_in first)
  Spending-next first others is =
      front_taken t b (cursors_in (flat all)) (cursors_in first) (cursors_in (flat others)) p.table (subst (Drops t b (cursors_in (flat all))) (cursors_apart first others left is) p.drops)

  pub Spending-more : (first : List Sound) (others : List (List Sound)) → left ≡ first ∷ others → (e : Table) → Drops b e (cursors_in first) [] → Spending t e all others
  Spending-more first others is e d = record {
    table = p.table;
    drops = front_spent t b (cursors_in (flat all)) (cursors_in first) (cursors_in (flat others)) p.table (subst (Drops t b (cursors_in (flat all))) (cursors_apart first others left is) p.drops) e d;
  }

  pub Spending-done : left ≡ [] → Drops t b (cursors_in (flat all)) []
  Spending-done none = subst (λ ls. Drops t b (cursors_in (flat all)) (cursors_in (flat ls))) none p.drops

-- ---- sounds, and what parts keep

module _ (t : Table) (sounds : List Sound) (waits : List (List Sound)) (table : IsTable t (cursors_in (sounds ++ flat waits))) where
  apart : cursors_in (sounds ++ flat waits) ≡ cursors_in sounds ++ cursors_in (flat waits)
  apart = map-append (λ (s : Sound). s.reader) sounds (flat waits)

  drops_none : Drops t t (cursors_in (sounds ++ flat waits)) (cursors_in sounds ++ cursors_in (flat waits))
  drops_none = subst (Drops t t (cursors_in (sounds ++ flat waits))) apart (Drops-same t (cursors_in (sounds ++ flat waits)))

  pub sounds_taken : IsTable t (cursors_in sounds)
  sounds_taken = front_taken t t (cursors_in (sounds ++ flat waits)) (cursors_in sounds) (cursors_in (flat waits)) table drops_none

  pub waits_taken : (b : Table) → Drops t b (cursors_in sounds) [] → IsTable b (cursors_in (flat waits))
  waits_taken b d = rest_taken t t (cursors_in (sounds ++ flat waits)) (cursors_in sounds) (cursors_in (flat waits)) table drops_none b d

  pub both_spent : (b e : Table) → Drops t b (cursors_in sounds) [] → Drops b e (cursors_in (flat waits)) [] → Drops t e (cursors_in (sounds ++ flat waits)) []
  both_spent b e d f =
      Drops-chain t b e (cursors_in (sounds ++ flat waits)) (cursors_in (flat waits)) []
      (front_spent t t (cursors_in (sounds ++ flat waits)) (cursors_in sounds) (cursors_in (flat waits)) table drops_none b d) f
