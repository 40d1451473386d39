use Rattle.std.proofs.Common.{rules, ◌≡◌, Some, refl, sym, ap, ◌∙◌}
use Rattle.ny_list.specs.Steps.{with_block}
use Rattle.ny_list.proofs.IndexLemmas.{same_some}
use Rattle.ny_heap.specs.Table.{unit_at}
use Rattle.ny_heap.proofs.TableLemmas.{found_there}
use Rattle.ny_heap.proofs.BlockLemmas.{taken_block, appended, unchanged_unit}
use Rattle.ny_heap.proofs.blocks.append.Goals as goal

pub returns : goal.returns
returns c =
    let t = c.args.table.now in
    let there : unit_at t c.args.u ≡ Some c.unwrap-unit.result.now = found_there t.units.items c.args.u c.requires.there.unit c.unwrap-unit.result.now c.index_mut.result.now c.requires.there.there c.index_mut.ensures.value (search rules) in
    let list : c.unwrap-unit.result.now.list ≡ c.args.u = ap (λ x. x.list) (same_some (sym there ∙ c.requires.there.there)) ∙ c.requires.there.end in
    let taken = taken_block c.take.result c.unwrap-b.result t.store c.take.new.self c.take.ensures.taken (search rules) in
    record {
      list = c.requires.there.list;
      was = c.requires.there.listed;
      store = appended t.store c.take.new.self c.write.new.self c.append_block.new.self c.args.u c.unwrap-b.result.0 c.args.samples.now c.requires.there.list c.requires.there.listed taken c.write.ensures.written
          (λ values is. c.append_block.ensures.appended values is ∙ ap (λ v. with_block c.write.new.self v c.unwrap-b.result.0 values) list);
      laws = c.append_block.ensures.laws;
      units = unchanged_unit t.units.items c.args.u c.unwrap-unit.result.now c.append_block.new.l there c.append_block.ensures.same;
      block = refl;
    }
