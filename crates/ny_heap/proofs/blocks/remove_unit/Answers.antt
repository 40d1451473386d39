use Rattle.std.proofs.Common.{◌≡◌, ◌∙◌, sym, ap, refl, Some, slice_set, None}
use Rattle.ny_list.specs.Steps.{with_list}
use Rattle.ny_list.proofs.IndexLemmas.{same_some}
use Rattle.ny_heap.specs.Table.{unit_at}
use Rattle.ny_heap.proofs.TableLemmas.{taken_there}
use Rattle.ny_heap.proofs.blocks.remove_unit.Goals as goal

pub returns : goal.returns
returns c =
    let there : unit_at c.args.table.now c.args.v ≡ Some c.unwrap-work.result = taken_there c.args.table.now.units.items c.args.v _ _ _ _ c.requires.there.there c.index_mut.ensures.value c.take.ensures.value c.unwrap-work.ensures in
    record {
      was = c.unwrap-work.result;
      there = there;
      does = refl;
      units = ap (slice_set c.args.table.now.units.items c.args.v) c.take.ensures.after;
      store = c.close.ensures.closed ∙ ap (λ l. with_list c.args.table.now.store l None) (ap (λ x. x.list) (same_some (sym there ∙ c.requires.there.there)) ∙ c.requires.there.end);
      laws = c.close.ensures.laws;
      block = refl;
    }
