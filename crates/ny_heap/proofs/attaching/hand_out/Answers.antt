use Rattle.std.proofs.Common.{rules, ◌≡◌, ◌+◌, [], ◌∷◌, Some, MatchOption, slice_set, refl, ap, subst, ◌∙◌}
use Rattle.ny_heap.specs.declared.work.Work.{Work}
use Rattle.ny_heap.specs.Work.{waits_in, without_first}
use Rattle.ny_heap.specs.Table.{unit_at}
use Rattle.ny_heap.proofs.TableLemmas.{found_there}
use Rattle.ny_heap.proofs.FirstLemmas.{some_and}
use Rattle.ny_heap.proofs.attaching.hand_out.Goals as goal

pub returns : goal.returns
returns c =
    let t = c.args.table.now in
    let x = some_and _ _ c.requires.waits in
    let y = c.unwrap-unit.result.now in
    let there : unit_at t c.args.u ≡ Some y = found_there t.units.items c.args.u x.0 y c.index_mut.result.now x.1 c.index_mut.ensures.value (search rules) in
    let kept = c.unwrap.result.items in
    let taken : c.next_waiting.new.self ≡ without_first y.work = c.next_waiting.ensures.taken in
    record {
      unit = y;
      was = there;
      first = subst (λ o. MatchOption o (waits_in y.work ≡ []) (λ v. waits_in y.work ≡ v.items ∷ waits_in c.next_waiting.new.self)) c.unwrap.ensures c.next_waiting.ensures.first ∙ ap (λ (w : Work). kept ∷ waits_in w) taken;
      units = ap (λ (w : Work). slice_set t.units.items c.args.u (Some (record y { work = w; pending = y.pending + 1 }))) taken;
      store = refl;
      block = refl;
    }
