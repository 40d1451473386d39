use Rattle.std.proofs.Common.{◌+◌, length, refl, sym, subst, arith, pos}
use Rattle.ny_num.specs.Mix.{sum_at}
use Rattle.ny_num.proofs.WrittenLists.{by_places_from}
use Rattle.ny_units.specs.Inputs.{CanHear}
use Rattle.ny_mix.specs.Mixes.{part_at, sounds_of}
use Rattle.ny_mix.proofs.adding.fill_parts.Goals as goal

pub add_parts-requires-clause-ready : goal.add_parts-requires-clause-ready
add_parts-requires-clause-ready c = λ i d inside is.
    subst (λ n. CanHear c.args.reads.now d (part_at c.args.parts.now i).start c.args.m (c.args.m + n)) (sym c.silence.ensures.len) (c.requires.ready i d inside is)

pub returns : goal.returns
returns c = λ r whole shows.
    let len = length c.args.out.now in
    by_places_from (sum_at (sounds_of r whole c.args.parts.now)) c.add_parts.new.out c.args.m len len (pos 0) (omega arith) refl
    (λ k h. c.add_parts.ensures.samples r whole shows k (omega arith))
