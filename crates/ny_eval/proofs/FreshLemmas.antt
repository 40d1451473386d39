-- The unit of a channel that was just made: one sound reads it, no unit uses it, and nothing of it is filled.
use Rattle.std.proofs.Common.{◌≡◌, ◌⊎◌, inl, inr, ℕ, zero, suc, ◌+◌, ◌<◌, ◌≤◌, true, false, if◌then◌else◌, List, [], ◌∷◌, ◌++◌, get_or, slice_get, slice_index, Option, None, Some, refl, sym, ap, subst, ◌∙◌, arith}
use Rattle.std.specs.Prelude.{nat_lt, ◌≢◌}
use Rattle.std.proofs.lemmas.Bool.{cases_eq}
use Rattle.std.specs.Option.{option_map, option_map_or}
use Rattle.ny_num.specs.declared.timing.Timing.{Timing}
use Rattle.ny_num.specs.declared.rate.Rate.{Rate}
use Rattle.ny_heap.specs.Heap.{Kind, Reader, Node, HeapState, node_at, list_of, place_of}
use Rattle.ny_heap.specs.Reach.{Uses, Read, Hold, HeapLaws}
use Rattle.ny_heap.specs.Steps.{new_node, reader_of, without_sounds}
use Rattle.ny_heap.specs.declared.sound.Sound.{Sound}
use Rattle.ny_hands.specs.declared.branch.Branch.{Branch}
use Rattle.ny_hands.specs.Calls.{MakesUnit, Brings, Stay, Change}
use Rattle.ny_hands.specs.Hands.{IsLike, Begins, Hand, marks_at, mark_of, marks_of}
use Rattle.ny_hands.proofs.OptionLemmas.{none_some, some_same, same_at, some_there}
use Rattle.ny_hands.proofs.HeapLemmas.{Length, Empty, Long, length_of}
use Rattle.ny_hands.proofs.HandLemmas.{mark_here, mark_else, marks_there}
use Rattle.ny_hands.proofs.MarkLemmas.{spent_like}
use Rattle.ny_trace.proofs.HeightLemmas.{ComesFrom, uses_from, from_trimmed}

pub record IsFresh (h : HeapState Branch) (s : Sound) (n : ℕ) : Type 0 where
  pub whole : (y : Node Branch) → node_at h n ≡ Some y → (y.timing.len ≡ s.timing.len) × (y.filled ≡ 0)
  pub once : marks_at h n 0 ≡ 1
  pub top : (u : ℕ) → Uses h u n → ⊥

abbrev pub AllFresh : HeapState Branch → List Sound → Type 0
AllFresh h [] = Unit {0}
AllFresh h (s ∷ ss) = ((n : ℕ) → list_of s ≡ Some n → IsFresh h s n) × AllFresh h ss

pub fresh_behind : (h : HeapState Branch) (ds : List Sound) (s : Sound) → AllFresh h ds → ((n : ℕ) → list_of s ≡ Some n → IsFresh h s n) → AllFresh h (ds ++ s ∷ [])
fresh_behind h [] s all one = (one, tt)
fresh_behind h (d ∷ ds) s all one = (all.0, fresh_behind h ds s all.1 one)

-- ---- a unit that is made over one sound

-- what that sound reads, as a reader
reader_one : (a : Sound) (i : ℕ) (r : Reader) → get_or (reader_of a ∷ []) i None ≡ Some r → list_of a ≡ Some r.node
reader_one a zero r e = by_list (list_of a) e
  where
    by_list : (o : Option ℕ) → option_map (λ n. let q : Reader = record { node = n; place = place_of a; timing = a.timing } in q) o ≡ Some r → o ≡ Some r.node
    by_list None e = cc
    by_list (Some n) e = ap (λ (q : Option Reader). option_map (λ q. q.node) q) e
reader_one a (suc i) r e = absurd (never e)
  where
    never : None ≡ Some r → ⊥
    never q = cc

spent_from : (mid : HeapState Branch) (ss : List Sound) → ComesFrom mid (without_sounds mid ss)
spent_from mid ss v y at = let x = (spent_like mid ss).from v y at in (x.0, x.1, x.2)

node_marked : (h : HeapState Branch) (n j : ℕ) → 0 < marks_at h n j → (x : Node Branch) × (node_at h n ≡ Some x)
node_marked h n j some = by_node (node_at h n) refl some
  where
    by_node : (o : Option (Node Branch)) → node_at h n ≡ o → 0 < option_map_or (λ (x : Node Branch). slice_index x.outside j) o 0 → (x : Node Branch) × (node_at h n ≡ Some x)
    by_node None e some = absurd (omega (arith, some))
    by_node (Some x) e some = (x, e)

module _ (mid new : HeapState Branch) (kind : Kind) (t : Timing) (a s : Sound) (made : MakesUnit mid new kind t (a ∷ []) [] (a ∷ []) s) where
  list_none : nat_lt 0 t.len ≡ false → list_of s ≡ None
  list_none e = made.makes.result.list ∙ ap (λ b. if b then Some made.makes.node else None) e

  list_some : nat_lt 0 t.len ≡ true → list_of s ≡ Some made.makes.node
  list_some e = made.makes.result.list ∙ ap (λ b. if b then Some made.makes.node else None) e

  -- it has another number than each unit that was there
  not_new : 0 < t.len → (v : ℕ) (x : Node Branch) → node_at mid v ≡ Some x → v ≢ made.makes.node
  not_new e v x at same =
      let y = (spent_like mid (a ∷ [])).to v x at in
      none_some (node_at (without_sounds mid (a ∷ [])) made.makes.node) y.0 (made.makes.unit e).fresh (ap (node_at (without_sounds mid (a ∷ []))) (sym same) ∙ y.1)

  -- each other unit was there
  from_before : 0 < t.len → (v : ℕ) → v ≢ made.makes.node → (y : Node Branch) → node_at new v ≡ Some y → (x : Node Branch) × (node_at mid v ≡ Some x) × IsLike x y
  from_before e v other y at = spent_from mid (a ∷ []) v y (sym ((made.makes.unit e).others v other) ∙ at)

  -- what uses a list used it before, but for the new unit, which reads the sound's list
  uses_made : (u v : ℕ) → Uses new u v → Uses mid u v ⊎ (list_of a ≡ Some v)
  uses_made u v uses = by_length (length_of t)
    where
      by_new : 0 < t.len → Uses new made.makes.node v → list_of a ≡ Some v
      by_new e (Read r) =
          let is : new_node kind t (a ∷ []) [] ≡ r.unit = same_at (node_at new made.makes.node) (new_node kind t (a ∷ []) []) r.unit (made.makes.unit e).after r.there in
          reader_one a r.place r.reader (ap (λ (x : Node Branch). get_or x.inputs r.place None) is ∙ r.input) ∙ ap (λ k. Some k) r.of
      by_new e (Hold r) =
          let is : new_node kind t (a ∷ []) [] ≡ r.unit = same_at (node_at new made.makes.node) (new_node kind t (a ∷ []) []) r.unit (made.makes.unit e).after r.there in
          absurd (never (ap (λ (x : Node Branch). slice_get x.waiting r.place) is ∙ r.waits))
        where
          never : None ≡ Some r.part → ⊥
          never q = cc

      before : 0 < t.len → u ≢ made.makes.node → Uses new u v → Uses mid u v
      before e other (Read r) =
          uses_from mid (without_sounds mid (a ∷ [])) (spent_from mid (a ∷ [])) u v
          (Read (record { unit = r.unit; there = sym ((made.makes.unit e).others u other) ∙ r.there; place = r.place; reader = r.reader; input = r.input; of = r.of }))
      before e other (Hold r) =
          uses_from mid (without_sounds mid (a ∷ [])) (spent_from mid (a ∷ [])) u v
          (Hold (record { unit = r.unit; there = sym ((made.makes.unit e).others u other) ∙ r.there; place = r.place; part = r.part; waits = r.waits; position = r.position; captured = r.captured; one = r.one; of = r.of }))

      by_length : Length t → Uses mid u v ⊎ (list_of a ≡ Some v)
      by_length (Empty e f) = inl (uses_from mid new (from_trimmed mid new (a ∷ []) (made.makes.none e)) u v uses)
      by_length (Long e f) = elim (cases_eq u made.makes.node) [
        | inl same ↦ inr (by_new e (subst (λ k. Uses new k v) same uses))
        | inr other ↦ inl (before e other uses)
      ]

  -- the unit itself
  pub fresh_new : HeapLaws mid → Begins mid a → (n : ℕ) → list_of s ≡ Some n → IsFresh new s n
  fresh_new laws begin n is = by_length (length_of t)
    where
      by_length : Length t → IsFresh new s n
      by_length (Empty e f) = absurd (none_some (list_of s) n (list_none f) is)
      by_length (Long e f) = record {
        whole = λ y at.
            let q : new_node kind t (a ∷ []) [] ≡ y = same_at (node_at new n) (new_node kind t (a ∷ []) []) y after at in
            (ap (λ (x : Node Branch). x.timing.len) (sym q) ∙ ap (λ (u : Timing). u.len) (sym made.makes.result.timing), ap (λ (x : Node Branch). x.filled) (sym q));
        once = marks_there new n (new_node kind t (a ∷ []) []) 0 after;
        top = λ u uses. by_use (uses_made u n uses);
      }
        where
          same : made.makes.node ≡ n
          same = some_same made.makes.node n (sym (list_some f) ∙ is)

          after : node_at new n ≡ Some (new_node kind t (a ∷ []) [])
          after = ap (node_at new) (sym same) ∙ (made.makes.unit e).after

          was_not : (x : Node Branch) → node_at mid n ≡ Some x → ⊥
          was_not x at = not_new e n x at (sym same)

          by_use : {u : ℕ} → Uses mid u n ⊎ (list_of a ≡ Some n) → ⊥
          by_use {u} (inl uses) = let x = some_there (node_at mid n) (laws.finds u n uses) in was_not x.0 x.1
          by_use (inr of) = let x = begin.shown n of in was_not x.unit x.there

-- ---- a unit that was there stays so

module _ (old mid new : HeapState Branch) (none : (v j : ℕ) → marks_at old v j ≡ 0) (kind : Kind) (t : Timing) (a s : Sound) (rest : List Sound) (before : Hand old mid (a ∷ rest)) (after : Hand old new (s ∷ rest)) (made : MakesUnit mid new kind t (a ∷ []) [] (a ∷ []) s) where
  fresh_made : (d : Sound) (n : ℕ) → list_of d ≡ Some n → mark_of d n 0 ≤ marks_of rest n 0 → IsFresh mid d n → IsFresh new d n
  fresh_made d n is among fresh = record {
    whole = λ y at.
        let x = from y at in
        let w = fresh.whole x.0 x.1 in
        (ap (λ (q : Node Branch). q.timing.len) x.2 ∙ w.0, ap (λ (q : Node Branch). q.filled) x.2 ∙ w.1);
    once = omega (arith, now, none n 0, was, fresh.once, one, among, mark_else (list_of s) n 0 not_made);
    top = λ u uses. by_use (uses_made mid new kind t a s made u n uses);
  }
    where
      one : mark_of d n 0 ≡ 1
      one = mark_here mid d n is

      was : marks_at mid n 0 ≡ marks_at old n 0 + (mark_of a n 0 + marks_of rest n 0)
      was = before.marks n 0

      now : marks_at new n 0 ≡ marks_at old n 0 + (mark_of s n 0 + marks_of rest n 0)
      now = after.marks n 0

      here : (x : Node Branch) × (node_at mid n ≡ Some x)
      here = node_marked mid n 0 (omega (arith, fresh.once))

      not_read : list_of a ≡ Some n → ⊥
      not_read of = absurd (omega (arith, was, none n 0, fresh.once, mark_here mid a n of, one, among))

      by_use : {u : ℕ} → Uses mid u n ⊎ (list_of a ≡ Some n) → ⊥
      by_use {u} (inl uses) = fresh.top u uses
      by_use (inr of) = not_read of

      not_made : list_of s ≡ Some n → ⊥
      not_made of = by_length (length_of t)
        where
          by_length : Length t → ⊥
          by_length (Empty e f) = none_some (list_of s) n (list_none mid new kind t a s made f) of
          by_length (Long e f) = not_new mid new kind t a s made e n here.0 here.1 (some_same n made.makes.node (sym of ∙ list_some mid new kind t a s made f))

      from : (y : Node Branch) → node_at new n ≡ Some y → (x : Node Branch) × (node_at mid n ≡ Some x) × IsLike x y
      from y at = by_length (length_of t)
        where
          by_length : Length t → (x : Node Branch) × (node_at mid n ≡ Some x) × IsLike x y
          by_length (Empty e f) = from_trimmed mid new (a ∷ []) (made.makes.none e) n y at
          by_length (Long e f) = from_before mid new kind t a s made e n (not_new mid new kind t a s made e n here.0 here.1) y at

  pub all_fresh_made : (ds : List Sound) → ((v : ℕ) → marks_of ds v 0 ≤ marks_of rest v 0) → AllFresh mid ds → AllFresh new ds
  all_fresh_made [] among all = tt
  all_fresh_made (d ∷ ds) among all = (
    (λ n is. fresh_made d n is (within (mark_of d n 0) (marks_of ds n 0) (marks_of rest n 0) (among n)) (all.0 n is)),
    all_fresh_made ds (λ v. behind (mark_of d v 0) (marks_of ds v 0) (marks_of rest v 0) (among v)) all.1,
  )
    where
      within : (m k r : ℕ) → m + k ≤ r → m ≤ r
      within m k r le = omega (arith, le)

      behind : (m k r : ℕ) → m + k ≤ r → k ≤ r
      behind m k r le = omega (arith, le)

pub all_fresh_brought : (old mid new : HeapState Branch) → ((v j : ℕ) → marks_at old v j ≡ 0) → (r : Rate) (a s : Sound) (rest : List Sound) → Hand old mid (a ∷ rest) → Hand old new (s ∷ rest) → Brings mid new r a s → (ds : List Sound) → ((v : ℕ) → marks_of ds v 0 ≤ marks_of rest v 0) → AllFresh mid ds → AllFresh new ds
all_fresh_brought old mid new none r a s rest before after (Stay step) ds among all = subst (λ (h : HeapState Branch). AllFresh h ds) step.heap all
all_fresh_brought old mid new none r a s rest before after (Change step) ds among all = all_fresh_made old mid new none _ _ a s rest before after step.made ds among all
