use Rattle.std.proofs.Common.{◌≡◌, ◌∙◌, ◌+◌, ◌-◌, ◌*◌, pos, ap, arith}
use Rattle.ny_filters.specs.Ways.{on_way}
use Rattle.ny_filters.proofs.Towards.{towards_is, towards_within}
use Rattle.ny_filters.proofs.share.Share.towards.Goals as goal

value : (c : goal.After-high_half) → pos (c.args.from - c.args.self.now.micro * 4295 + c.high_half.result) ≡ on_way c.args.self.now.micro c.args.from c.args.to
value c =
    ap (λ n. pos (c.args.from - c.args.self.now.micro * 4295 + n)) c.high_half.ensures
    ∙ towards_is c.args.self.now c.args.from c.args.to _ c.requires.share c.requires.from c.requires.to (omega arith)

pub returns-clause-value : goal.returns-clause-value
returns-clause-value c = value c

pub returns-clause-within : goal.returns-clause-within
returns-clause-within c = towards_within c.args.self.now.micro c.args.from c.args.to _ c.requires.share.small c.requires.from c.requires.to (value c)
