use Rattle.std.proofs.Common.{◌≡◌, ◌∙◌, ℕ, List, Option, None, refl, sym, ap, Some, slice_set, slice_index_or}
use Rattle.std.specs.Option.{option_copied_mut}
use Rattle.ny_heap.specs.declared.table.Unit.{Unit as UnitData}
use Rattle.ny_heap.specs.Work.{cursor_at, without_cursor_at}
use Rattle.ny_list.proofs.IndexLemmas.{same_some}
use Rattle.ny_heap.proofs.TableLemmas.{found_there}
use Rattle.ny_heap.proofs.blocks.take_input.Goals as goal

-- what was read of a place is what is there
read_there : (xs : List (Option UnitData)) (v : ℕ) (x y : UnitData) (now : Option UnitData) → slice_index_or xs v None ≡ Some x → now ≡ slice_index_or xs v now → now ≡ Some y → y ≡ x
read_there xs v x y now there read is = same_some (sym (found_there xs v x y now there read is) ∙ there)

pub returns-clause-cursor : goal.returns-clause-cursor
returns-clause-cursor c = λ x is.
    let same : c.unwrap-unit.result.now ≡ x = read_there c.args.table.now.units.items c.args.u x c.unwrap-unit.result.now c.index_mut.result.now is c.index_mut.ensures.value (sym c.as_mut.ensures.value ∙ ap option_copied_mut c.unwrap-unit.ensures) in
    c.take_cursor.ensures.cursor ∙ ap (λ (y : UnitData). cursor_at y.work c.args.i) same

pub returns-clause-taken : goal.returns-clause-taken
returns-clause-taken c = λ x is.
    let y = c.unwrap-unit.result.now in
    let same : y ≡ x = read_there c.args.table.now.units.items c.args.u x y c.index_mut.result.now is c.index_mut.ensures.value (sym c.as_mut.ensures.value ∙ ap option_copied_mut c.unwrap-unit.ensures) in
    record {
      units = ap (λ w. slice_set c.args.table.now.units.items c.args.u (Some (record y { work = w }))) c.take_cursor.ensures.taken
          ∙ ap (λ (z : UnitData). slice_set c.args.table.now.units.items c.args.u (Some (record z { work = without_cursor_at z.work c.args.i }))) same;
      store = refl;
      block = refl;
    }
