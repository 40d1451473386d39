-- What is to be done about an input once its unit has one block more.
use Rattle.std.proofs.Common.{◌≡◌, ℕ, ◌+◌, ◌-◌, ◌*◌, ◌<◌, ◌≤◌, ◌&&◌, min, Bool, true, false, cond, nat_lt, length, [], Option, None, Some, refl, sym, ap, subst, ◌∙◌, arith}
use Rattle.std.specs.Option.{option_map, option_map_or}
use Rattle.std.proofs.lemmas.Bool.{lt-ltb, le-ltb}
use Rattle.std.proofs.lemmas.Nat.{mul-le}
use Rattle.ny_list.specs.Store.{ListState, CursorState, list_at}
use Rattle.ny_heap.specs.declared.table.Unit.{Unit as UnitData}
use Rattle.ny_heap.specs.declared.table.Table.{Table}
use Rattle.ny_heap.specs.Heap.{Reader, blocks_of, next_taken, taken_after}
use Rattle.ny_heap.specs.Work.{kind_of, inputs_in, cursor_at, need_in}
use Rattle.ny_heap.specs.Table.{unit_at, timing_at, input_of, IsThere, IsUnit, computed_in, is_open_in}
use Rattle.ny_heap.specs.View.{filled_in}
use Rattle.ny_heap.specs.Filling.{HasInput, moved_in, Settling}
use Rattle.ny_heap.proofs.NeedLemmas.{taken_at, taken_rises}
use Rattle.ny_heap.proofs.TakenLemmas.{need_taken}
use Rattle.ny_heap.proofs.DropLemmas.{there_of}
use Rattle.ny_heap.proofs.CountLemmas.{is_some_of}
use Rattle.ny_heap.proofs.KeepLemmas.{filled_is}
use Rattle.ny_list.proofs.IndexLemmas.{same_some}

pub settling_there : (t : Table) (u i : ℕ) → Settling t u i → IsThere t u
settling_there t u i s = let l = s.table.units u s.unit s.there in there_of t u [] s.table (is_some_of _ l.0 l.1)

pub inside_of : (t : Table) (u i : ℕ) (x : UnitData) → HasInput t u i → unit_at t u ≡ Some x → i < inputs_in x.work
inside_of t u i x has at = subst (λ (y : UnitData). i < inputs_in y.work) (same_some (sym has.there ∙ at)) has.inside

module _ (t : Table) (u i : ℕ) (s : Settling t u i) (x : UnitData) (at : unit_at t u ≡ Some x) (inside : i < inputs_in x.work) (c : CursorState) (reads : cursor_at x.work i ≡ Some c) where
  list_u : (l : ListState) × (list_at t.store u ≡ Some l) × IsUnit t u x l
  list_u = s.table.units u x at

  within : i < length x.inputs.items
  within = omega (arith, inside, list_u.2.count)

  -- what the unit has taken of it by now
  abbrev pub taken_now : ℕ
  taken_now = taken_after t.block (kind_of x.work) x.timing (timing_at x i) (filled_in t.store u)

  computed_is : computed_in t u ≡ min (filled_in t.store u * t.block) x.timing.len
  computed_is =
      ap (λ (o : Option ListState). option_map_or {U = ℕ} (λ l. min (length l.values * t.block) l.len) o 0) list_u.1
      ∙ ap (λ n. min (n * t.block) list_u.0.len) (sym (filled_is t.store u list_u.0 list_u.1)) ∙ ap (min (filled_in t.store u * t.block)) list_u.2.len

  computed_some : 0 < computed_in t u
  computed_some = omega (arith, computed_is, list_u.2.some, s.filled, s.table.store.some, s.table.block, mul-le 1 1 (filled_in t.store u) t.block (omega (arith, s.filled)) (omega (arith, s.table.store.some, s.table.block)))

  pub its_end : c.visible ≡ (timing_at x i).len
  its_end = let a = s.table.inputs u i x list_u.0 c at list_u.1 within reads in a.2.sees

  pub need_now : need_in x.work i (computed_in t u) ≡ taken_now
  need_now =
      let a = s.table.inputs u i x list_u.0 c at list_u.1 within reads in
      need_taken x.work x.timing x.inputs.items i (computed_in t u) c list_u.2.begins list_u.2.brings inside reads a.2.starts a.2.sees computed_some
      ∙ ap (λ n. min (next_taken (kind_of x.work) x.timing (timing_at x i) n - (timing_at x i).start) (timing_at x i).len) computed_is
      ∙ sym (taken_at t.block (kind_of x.work) x.timing (timing_at x i) (filled_in t.store u) (omega (arith, s.filled)))

  same_unit : s.unit ≡ x
  same_unit = same_some (sym s.there ∙ at)

  stood : c.place ≡ taken_after t.block (kind_of x.work) x.timing (timing_at x i) s.before
  stood =
      subst (λ (y : UnitData). (k : ℕ) (d : CursorState) → i ≤ k → k < length y.inputs.items → cursor_at y.work k ≡ Some d → d.place ≡ taken_after t.block (kind_of y.work) y.timing (timing_at y k) s.before) same_unit s.places
      i c (omega arith) within reads

  -- its cursor has passed no more
  pub passed_less : c.place ≤ taken_now
  passed_less = omega (arith, stood, taken_rises t.block (kind_of x.work) x.timing (timing_at x i) s.before, ap (taken_after t.block (kind_of x.work) x.timing (timing_at x i)) s.filled)

  -- and what it needs now is computed
  pub now_computed : taken_now ≤ computed_in t c.list
  now_computed =
      omega (
        arith,
        subst (λ (y : UnitData). (k : ℕ) (d : CursorState) → i ≤ k → k < length y.inputs.items → cursor_at y.work k ≡ Some d → taken_after t.block (kind_of y.work) y.timing (timing_at y k) (s.before + 1) ≤ computed_in t d.list) same_unit s.computed
            i c (omega arith) within reads,
        ap (taken_after t.block (kind_of x.work) x.timing (timing_at x i)) s.filled,
      )

  moves_if : Bool → Option Reader
  moves_if b = cond b (Some (record { node = c.list; place = taken_now; timing = timing_at x i })) None

  open_is : is_open_in t u ≡ nat_lt (filled_in t.store u) (blocks_of t.block x.timing.len)
  open_is =
      ap (λ (o : Option ListState). option_map_or (λ l. nat_lt (length l.values) (blocks_of t.block l.len)) o false) list_u.1
      ∙ ap (λ n. nat_lt n (blocks_of t.block list_u.0.len)) (sym (filled_is t.store u list_u.0 list_u.1)) ∙ ap (λ n. nat_lt (filled_in t.store u) (blocks_of t.block n)) list_u.2.len

  by_tests : (p q : Bool) → is_open_in t u ≡ p → nat_lt taken_now (timing_at x i).len ≡ q → moved_in t.block x (filled_in t.store u) (input_of x i) ≡ moves_if (p && q)
  unfolding moves_if
  by_tests p q opened more =
      ap (λ (o : Option CursorState). moved_in t.block x (filled_in t.store u) (option_map {U = Reader} (λ d. record { node = d.list; place = d.place; timing = timing_at x i }) o)) reads
      ∙ (λ k. cond ((sym open_is ∙ opened) k && more k) (Some (record { node = c.list; place = taken_now; timing = timing_at x i })) None)

  -- its unit has filled its last block
  pub drops_closed : is_open_in t u ≡ false → moved_in t.block x (filled_in t.store u) (input_of x i) ≡ None
  unfolding moves_if
  drops_closed closed = by_tests false (nat_lt taken_now (timing_at x i).len) closed refl

  -- or has taken all of it
  pub drops_passed : is_open_in t u ≡ true → (timing_at x i).len ≤ taken_now → moved_in t.block x (filled_in t.store u) (input_of x i) ≡ None
  unfolding moves_if
  drops_passed opened all = by_tests true false opened (le-ltb taken_now (timing_at x i).len all)

  pub passes_on : is_open_in t u ≡ true → taken_now < (timing_at x i).len → (n : ℕ) → n ≡ taken_now - c.place → moved_in t.block x (filled_in t.store u) (input_of x i) ≡ Some (record { node = c.list; place = c.place + n; timing = timing_at x i })
  unfolding moves_if
  passes_on opened more n is =
      by_tests true true opened (lt-ltb taken_now (timing_at x i).len more)
      ∙ ap (λ p. Some (record { node = c.list; place = p; timing = timing_at x i })) (omega (arith, is, passed_less))
