use Rattle.std.proofs.Common.{sym, ap, ◌∙◌}
use Rattle.ny_pull.specs.Places.{unit_of}
use Rattle.ny_pull.proofs.PlaceLemmas.{got, got_none}
use Rattle.ny_pull.proofs.engine.unit_at.Goals as goal

pub unit_of-requires : goal.unit_of-requires
unit_of-requires c = record { held = c.requires.held c.in-Some.sound (got c.args.channels.now c.args.c c.index-channels-c.result c.in-Some.sound c.requires.within (sym c.index-channels-c.is ∙ c.in-Some.is)) }

pub returns-in-None : goal.returns-in-None
returns-in-None c = record { unit = sym (ap (unit_of c.args.heap.now) (got_none c.args.channels.now c.args.c c.index-channels-c.result c.requires.within (sym c.index-channels-c.is ∙ c.in-None.is))) }

pub returns-in-Some : goal.returns-in-Some
returns-in-Some c = record { unit = c.unit_of.ensures.unit ∙ sym (ap (unit_of c.args.heap.now) (got c.args.channels.now c.args.c c.index-channels-c.result c.in-Some.sound c.requires.within (sym c.index-channels-c.is ∙ c.in-Some.is))) }
