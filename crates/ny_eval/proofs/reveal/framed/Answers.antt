use Rattle.std.proofs.Common.{rules, ℕ, refl, arith, ap, subst, length, get_or}
use Rattle.ny_resolve.specs.declared.term.NameId.{NameId}
use Rattle.ny_check.specs.declared.value.Value.{Value}
use Rattle.ny_eval.specs.Revealed.{IsFramed}
use Rattle.ny_eval.proofs.KeptLemmas.{same_name, framed_none, has_first, framed_more, framed_all}
use Rattle.ny_eval.proofs.reveal.framed.Goals as goal

pub loop-i-init : goal.loop-i-init
loop-i-init c = record {
  so_far = framed_none c.args.names.now c.args.captured.items c.args.captured.items c.args.room.items c.requires.kept refl c.requires.none;
  count = omega (arith, ap length c.requires.none);
  capacity = refl;
}

pub framed_value-requires : goal.framed_value-requires
framed_value-requires c = record { some = has_first c.args.names.now c.args.captured.items c.loop-i.i c.loop-i.left.items c.loop-i.framed.items (get_or c.args.names.now c.loop-i.i c.index-names-i-in-loop-i.result) c.index-names-i-in-loop-i.result (omega arith) refl c.loop-i.invariant.so_far }

pub push_reserved-requires : goal.push_reserved-requires
push_reserved-requires c = omega (arith, c.loop-i.invariant.count, c.loop-i.invariant.capacity, c.requires.room)

pub loop-i-preserved : goal.loop-i-preserved
loop-i-preserved c = record {
  so_far = framed_more c.args.names.now c.args.captured.items c.loop-i.i c.loop-i.left.items c.loop-i.framed.items (get_or c.args.names.now c.loop-i.i c.index-names-i.result) c.index-names-i.result (omega arith) refl c.loop-i.invariant.so_far c.framed_value.new.left.items c.framed_value.result c.push_reserved.new.self.items
      (subst (λ (b : NameId × Value ℕ). IsFramed b.1 c.loop-i.left.items c.framed_value.new.left.items c.framed_value.result) (same_name c.args.names.now c.loop-i.i c.index-names-i-in-loop-i.result c.index-names-i.result (omega arith)) c.framed_value.ensures.framed)
      c.push_reserved.ensures.items;
  count = omega (arith, c.loop-i.invariant.count, c.push_reserved.ensures.len);
  capacity = search rules;
}

pub returns : goal.returns
returns c = record { framed = framed_all c.args.names.now c.args.captured.items c.loop-i.i c.loop-i.left.items c.loop-i.framed.items (omega arith) c.loop-i.invariant.so_far }
