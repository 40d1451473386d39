-- What a unit takes of an input, by the table.
use Rattle.std.proofs.Common.{◌≡◌, ℕ, zero, suc, ◌+◌, ◌-◌, ◌*◌, ◌<◌, min, cond, List, [], ◌∷◌, length, get_or, Option, None, Some, sym, ap, ◌∙◌, arith}
use Rattle.std.proofs.lemmas.Bool.{ne_eqb}
use Rattle.std.proofs.lemmas.Nat.{mul-le}
use Rattle.std.specs.Option.{option_map_or}
use Rattle.ny_list.specs.Store.{ListState, CursorState, list_at}
use Rattle.ny_list.proofs.IndexLemmas.{none_some}
use Rattle.ny_units.specs.Inputs.{start_of, reader_of, need_of}
use Rattle.ny_units.specs.declared.input.Source.{Source}
use Rattle.ny_units.specs.declared.input.Source.TheVariants.{Reader as ListSource, Number}
use Rattle.ny_heap.specs.declared.table.Unit.{Unit as UnitData}
use Rattle.ny_heap.specs.declared.table.Table.{Table}
use Rattle.ny_heap.specs.declared.work.Work.{Work}
use Rattle.ny_heap.specs.declared.work.Work.TheVariants.{Leaf as LeafWork, Pair as PairWork, Abs as AbsWork, Resample as ResampleWork, Filter as FilterWork, Mix as MixWork, Channel as ChannelWork}
use Rattle.ny_heap.specs.Heap.{next_taken, taken_after}
use Rattle.ny_num.specs.declared.timing.Timing.{Timing}
use Rattle.ny_units.specs.Resamplings as resamplings
use Rattle.ny_units.specs.Resamplings.{next_after}
use Rattle.ny_heap.specs.Work.{kind_of, inputs_in, cursor_at, source_at, need_in}
use Rattle.ny_heap.specs.Tasks.{BeginsAt, BringsFrom}
use Rattle.ny_heap.specs.Table.{unit_at, timing_at, IsTable, IsUnit, computed_next_in}
use Rattle.ny_heap.specs.View.{filled_in}
use Rattle.ny_heap.proofs.NeedLemmas.{taken_at}
use Rattle.ny_heap.proofs.KeepLemmas.{filled_is}

need_source : (a : Source) (begins done : ℕ) (c : CursorState) → reader_of a ≡ Some c → 0 < done → need_of begins a done ≡ min (begins + done - start_of a) c.visible
need_source (ListSource None start) begins done c is some = absurd (none_some is)
need_source (ListSource (Some d) start) begins done c is some =
    ap (λ b. cond {A = ℕ} b 0 (min (begins + done - start) d.visible)) (ne_eqb done 0 (λ e. omega (arith, some, e)))
    ∙ ap (λ (o : Option CursorState). option_map_or {U = ℕ} (λ k. min (begins + done - start) k.visible) o 0) is
need_source (Number value) begins done c is some = absurd (none_some is)

-- so of an input that begins and is seen as a timing says, by a unit that begins as another one says
need_like : (a : Source) (begins done : ℕ) (c : CursorState) (t input : Timing) → reader_of a ≡ Some c → 0 < done → begins ≡ t.start → start_of a ≡ input.start → c.visible ≡ input.len
    → need_of begins a done ≡ min (t.start + done - input.start) input.len
need_like a begins done c t input is some at starts sees =
    need_source a begins done c is some
    ∙ ap (λ b. min (b + done - start_of a) c.visible) at
    ∙ ap (λ s. min (t.start + done - s) c.visible) starts
    ∙ ap (min (t.start + done - input.start)) sees

brought : (from to t input : Timing) (done : ℕ) → from ≡ input → to ≡ t → resamplings.taken_after from to done ≡ min (next_after input t done - input.start) input.len
brought from to t input done is at = ap (λ k. resamplings.taken_after k to done) is ∙ ap (λ k. resamplings.taken_after input k done) at

pub first_timing : (r : resamplings.Resampling) (ts : List Timing) (t : Timing) (i : ℕ) → BringsFrom (ResampleWork r) ts → i < 1 → r.from ≡ get_or ts i t
first_timing r [] t i is inside = absurd is
first_timing r (k ∷ ts) t zero is inside = is
first_timing r (k ∷ ts) t (suc i) is inside = absurd (omega (arith, inside))

-- what work takes of an input that is heard so is what a unit of its kind takes
pub need_taken : (w : Work) (t : Timing) (ts : List Timing) (i done : ℕ) (c : CursorState) → BeginsAt w t → BringsFrom w ts → i < inputs_in w → cursor_at w i ≡ Some c
    → start_of (source_at w i) ≡ (get_or ts i t).start → c.visible ≡ (get_or ts i t).len → 0 < done
    → need_in w i done ≡ min (next_taken (kind_of w) t (get_or ts i t) done - (get_or ts i t).start) (get_or ts i t).len
need_taken (LeafWork p) t ts i done c begins brings inside is starts sees some = absurd (none_some is)
need_taken (PairWork p a b) t ts i done c begins brings inside is starts sees some = need_like (source_at (PairWork p a b) i) p.start done c t (get_or ts i t) is some begins starts sees
need_taken (AbsWork s) t ts i done c begins brings inside is starts sees some = need_like s (start_of s) done c t (get_or ts i t) is some begins starts sees
need_taken (ResampleWork r) t ts i done c begins brings inside is starts sees some = brought r.from r.to t (get_or ts i t) done (first_timing r ts t i brings inside) begins
need_taken (FilterWork f start) t ts i done c begins brings inside is starts sees some = need_like (ListSource f.reader start) start done c t (get_or ts i t) is some begins starts sees
need_taken (MixWork m) t ts i done c begins brings inside is starts sees some = need_like (source_at (MixWork m) i) m.timing.start done c t (get_or ts i t) is some (ap (λ (k : Timing). k.start) begins) starts sees
need_taken (ChannelWork p) t ts i done c begins brings inside is starts sees some = need_like p.input p.start done c t (get_or ts i t) is some begins starts sees

module _ (t : Table) (table : IsTable t []) (u : ℕ) (x : UnitData) (at : unit_at t u ≡ Some x) where
  list_u : (l : ListState) × (list_at t.store u ≡ Some l) × IsUnit t u x l
  list_u = table.units u x at

  pub next_is : computed_next_in t u ≡ min ((filled_in t.store u + 1) * t.block) x.timing.len
  next_is =
      ap (λ (o : Option ListState). option_map_or {U = ℕ} (λ l. min ((length l.values + 1) * t.block) l.len) o 0) list_u.1
      ∙ ap (λ n. min ((n + 1) * t.block) list_u.0.len) (sym (filled_is t.store u list_u.0 list_u.1)) ∙ ap (min ((filled_in t.store u + 1) * t.block)) list_u.2.len

  pub next_some : 0 < computed_next_in t u
  next_some = omega (arith, next_is, list_u.2.some, table.store.some, table.block, mul-le 1 1 (filled_in t.store u + 1) t.block (omega arith) (omega (arith, table.store.some, table.block)))

  pub need_is : (i : ℕ) (c : CursorState) → i < inputs_in x.work → cursor_at x.work i ≡ Some c → need_in x.work i (computed_next_in t u) ≡ taken_after t.block (kind_of x.work) x.timing (timing_at x i) (filled_in t.store u + 1)
  need_is i c inside is =
      let a = table.inputs u i x list_u.0 c at list_u.1 (omega (arith, inside, list_u.2.count)) is in
      need_taken x.work x.timing x.inputs.items i (computed_next_in t u) c list_u.2.begins list_u.2.brings inside is a.2.starts a.2.sees next_some
      ∙ ap (λ n. min (next_taken (kind_of x.work) x.timing (timing_at x i) n - (timing_at x i).start) (timing_at x i).len) next_is
      ∙ sym (taken_at t.block (kind_of x.work) x.timing (timing_at x i) (filled_in t.store u + 1) (omega arith))
