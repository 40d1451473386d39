use Rattle.std.proofs.Common.{◌≡◌, [], drop}
use Rattle.ny_parse.specs.declared.state.State.TheVariants.{Between}
use Rattle.ny_parse.specs.Reading.{reading}
use Rattle.ny_parse.proofs.parser.read.Given as goal

abbrev pub invariant-loop-token : goal.invariant-loop-token
invariant-loop-token l =
    reading l.text (drop l.token-index l.tokens) l.state l.reader.stack l.reader.decls ≡ reading l.text l.tokens Between [] []
