use Rattle.std.proofs.Common.{rules, ◌-◌, [], ◌∷◌, ◌++◌, refl, ap, ◌∙◌}
use Rattle.ny_num.specs.declared.timing.Timing.{Timing}
use Rattle.ny_heap.specs.declared.work.Work.{Work}
use Rattle.ny_heap.proofs.TableLemmas.{found_there}
use Rattle.ny_heap.proofs.FirstLemmas.{some_and}
use Rattle.ny_heap.proofs.attaching.attach_part.Goals as goal

pub returns : goal.returns
returns c =
    let t = c.args.table.now in
    let x = some_and _ _ c.requires.promised in
    let y = c.unwrap-unit.result.now in
    record {
      unit = y;
      was = found_there t.units.items c.args.u x.0 y c.index_mut.result.now x.1 c.index_mut.ensures.value (search rules);
      now = record { work = c.attach_to.new.work; timing = y.timing; inputs = c.push_reserved.new.self; list = y.list; pending = y.pending - 1 };
      is = ap (λ (w : Work). record y { work = w; inputs = c.push_reserved.new.self; pending = y.pending - 1 }) c.attach_to.ensures;
      inputs = c.push_reserved.ensures.items ∙ ap (λ (s : Timing). y.inputs.items ++ s ∷ []) c.same_timing.ensures;
      capacity = c.push_reserved.ensures.capacity;
      units = refl;
      store = refl;
      block = refl;
    }
