use Rattle.std.proofs.Common.{inl, inr, refl}
use Rattle.ny_top.specs.Reading.{refusal_text}
use Rattle.ny_top.specs.Outcome.{refused}
use Rattle.ny_top.proofs.FileLemmas.{ends_on, told_on, in_middle}
use Rattle.ny_top.proofs.text.run_text.Goals as goal

pub returns-in-Ok-clause-whole : goal.returns-in-Ok-clause-whole
returns-in-Ok-clause-whole g c = λ whole.
    ends_on c.run_accepted.result (g.H.Host.state c.args.host.now) (g.H.Host.state c.run_accepted.new.host)
    (λ o has. inr (c.in-Ok.accepted.tree, c.in-Ok.ensures.tree, has)) (c.run_accepted.ensures.whole whole)

pub returns-in-Ok-clause-told : goal.returns-in-Ok-clause-told
returns-in-Ok-clause-told g c = λ is.
    in_middle
    (told_on (g.H.Host.state c.args.host.now) (g.H.Host.state c.run_accepted.new.host) (λ o has. inr (c.in-Ok.accepted.tree, c.in-Ok.ensures.tree, has)))
    (c.run_accepted.ensures.told is)

pub returns-in-Err-Refused-clause-whole : goal.returns-in-Err-Refused-clause-whole
returns-in-Err-Refused-clause-whole g c = λ whole.
    let refusal = c.in-Err-Refused.refusal in (
      refused (refusal_text refusal),
      inl (refusal, (rw c.in-Err-Refused.field-0-is at c.in-Err-Refused.ensures.fault), c.requires.left, refl),
      c.refuse.ensures.whole whole,
    )

pub returns-in-Err-Refused-clause-told : goal.returns-in-Err-Refused-clause-told
returns-in-Err-Refused-clause-told g c = λ is.
    let refusal = c.in-Err-Refused.refusal in
    inr (inl (
      refused (refusal_text refusal),
      inl (refusal, (rw c.in-Err-Refused.field-0-is at c.in-Err-Refused.ensures.fault), c.requires.left, refl),
      c.refuse.ensures.fault is,
    ))

pub returns-in-Ok-clause-piece : goal.returns-in-Ok-clause-piece
returns-in-Ok-clause-piece g c = λ is. (c.requires.short, (c.in-Ok.accepted.tree, c.in-Ok.ensures.tree))

pub returns-in-Ok-clause-cut : goal.returns-in-Ok-clause-cut
returns-in-Ok-clause-cut g c = λ is. inr (c.in-Ok.accepted.tree, c.in-Ok.ensures.tree, c.run_accepted.ensures.cut is)
