use Rattle.std.proofs.Common.{◌≡◌, ◌+◌, ◌∙◌, length, pos, arith}
use Rattle.ny_num.specs.Leaves.{wave_value}
use Rattle.ny_num.proofs.WrittenLists.{by_places_from, places_more}
use Rattle.ny_units.proofs.Phases.{phase_more, phase_value}
use Rattle.ny_units.proofs.waves.fill_wave.Goals as goal

pub loop-k-preserved : goal.loop-k-preserved
loop-k-preserved g c =
    let value : c.at.result ≡ wave_value g.row.N c.args.inc (c.args.from + c.loop-k.k) =
    c.at.ensures.value ∙ phase_value g.row.N c.args.from c.loop-k.k c.args.inc c.loop-k.phase c.loop-k.invariant.phase in
    record {
      phase = phase_more c.args.from c.loop-k.k c.args.inc c.loop-k.phase c.loop-k.invariant.phase;
      done = places_more (wave_value g.row.N c.args.inc) c.loop-k.out c.args.from c.loop-k.k c.at.result (pos 0) (omega arith) value c.loop-k.invariant.done;
    }

pub returns : goal.returns
returns g c =
    by_places_from (wave_value g.row.N c.args.inc) c.loop-k.out c.args.from (length c.args.out.now) c.loop-k.k (pos 0) (omega arith) (omega arith) c.loop-k.invariant.done
