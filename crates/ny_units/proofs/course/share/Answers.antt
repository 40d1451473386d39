use Rattle.std.proofs.Common.{to_z, of_z, w64, rules, ◌≡◌, ◌∙◌, ap, ◌+ℤ◌, ◌-ℤ◌, ◌≤ℤ◌, pos, neg_ℤ, subst, sym}
use Rattle.ny_num.proofs.Shares.{share_within}
use Rattle.ny_units.proofs.Reciprocals.{share_is}
use Rattle.ny_units.proofs.course.share.Goals as goal

pub returns-clause-value : goal.returns-clause-value
returns-clause-value c =
    let e : to_z w64 (of_z w64 c.lowered.result) ≡ pos c.high_part.result -ℤ pos 4294967296 = search rules in
    let r : pos c.lifted_rise.result ≡ c.args.rise +ℤ pos 4294967296 = search rules in
    e ∙ ap (λ q. pos q -ℤ pos 4294967296) c.high_part.ensures
    ∙ share_is c.args.course.now.grid c.args.course.now.parts c.lifted-n.result c.requires.course.some c.requires.course.short c.requires.course.enough c.requires.course.few c.lifted-n.ensures.within c.args.part c.lifted_rise.result c.args.rise r c.requires.inside c.lifted-n.ensures.value

pub returns-clause-least : goal.returns-clause-least
returns-clause-least c = subst (λ z. neg_ℤ (pos 4294967294) ≤ℤ z) (sym (returns-clause-value c)) (share_within c.args.rise c.args.part c.args.course.now.grid c.requires.inside c.requires.least c.requires.greatest).0

pub returns-clause-greatest : goal.returns-clause-greatest
returns-clause-greatest c = subst (λ z. z ≤ℤ pos 4294967294) (sym (returns-clause-value c)) (share_within c.args.rise c.args.part c.args.course.now.grid c.requires.inside c.requires.least c.requires.greatest).1
