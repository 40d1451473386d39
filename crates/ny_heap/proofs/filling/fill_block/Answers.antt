use Rattle.std.proofs.Common.{◌<◌, sym, subst, ◌∙◌}
use Rattle.ny_list.specs.Store.{free_of}
use Rattle.ny_heap.proofs.AppendLemmas.{there_mid, open_mid, block_mid, settling, unit_here, waits_then}
use Rattle.ny_heap.proofs.filling.fill_block.Goals as goal

pub append-requires : goal.append-requires
append-requires c =
    let t = c.args.table.now in
    let p = c.compute.ensures.computes in
    record {
      there = there_mid t c.compute.new.table c.args.u c.compute.new.out c.requires.ready p;
      unfilled = open_mid t c.compute.new.table c.args.u c.compute.new.out c.requires.ready p ∙ c.requires.ready.opened;
      block = block_mid t c.compute.new.table c.args.u c.compute.new.out c.requires.ready p;
      whole = c.compute.ensures.len ∙ c.requires.whole ∙ sym p.reworks.block;
      free = subst (λ s. 0 < free_of s) (sym p.reworks.store) c.requires.free;
    }

pub settle_all-requires : goal.settle_all-requires
settle_all-requires c = record { settling = settling c.args.table.now c.compute.new.table c.append.new.table c.args.u c.compute.new.out c.requires.ready c.compute.ensures.computes c.append.ensures }

pub returns-clause-fills : goal.returns-clause-fills
returns-clause-fills c =
    let settles = c.settle_all.ensures.settles _ (unit_here c.args.table.now c.compute.new.table c.append.new.table c.args.u c.compute.new.out c.requires.ready c.compute.ensures.computes c.append.ensures) in
    record {
      computed = c.compute.new.table;
      computes = c.compute.ensures.computes;
      longer = c.append.new.table;
      appends = c.append.ensures;
      settles = settles;
      waits = waits_then c.args.table.now c.compute.new.table c.append.new.table c.args.u c.compute.new.out c.requires.ready c.compute.ensures.computes c.append.ensures c.settle_all.new.table settles.now c.settle_all.ensures.waits settles.after;
      table = c.settle_all.ensures.table;
      read = c.settle_all.ensures.read;
    }
