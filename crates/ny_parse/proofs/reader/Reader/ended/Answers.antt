use Rattle.std.proofs.Common.{refl}
use Rattle.ny_parse.proofs.Ended.{no_end}
use Rattle.ny_parse.proofs.reader.Reader.ended.Goals as goal

pub returns-in_default : goal.returns-in_default
returns-in_default c =
    (no_end c.args.text.now c.args.frame c.args.whole c.args.self.decls c.in_default.not-Variable c.in_default.not-Function c.in_default.not-Play, refl)
