use Rattle.std.proofs.Common.{refl, map, string_bytes}
use Rattle.ny_io.specs.NeverFails.{state_of}
use Rattle.ny_words.specs.Words.{read_words}
use Rattle.ny_top.proofs.Complete.{still, no_open, no_read, no_write}
use Rattle.ny_top.proofs.unfailing.run_unfailing.Goals as goal

pub returns-clause-faults : goal.returns-clause-faults
returns-clause-faults c =
    let asked = read_words (map string_bytes c.args.words.now) in
    let old = state_of c.args.host.now in
    let new = state_of c.run.new.host in
    let quiet = still asked old new (λ name. refl) (λ name. refl) (λ name. refl) refl in (
      (λ is. no_open asked old new quiet (c.run.ensures.cause_open is)),
      (λ is. no_read asked old new quiet (c.run.ensures.cause_read is)),
      (λ is. no_write asked old new quiet (c.run.ensures.cause_write is)),
    )

pub returns-clause-outcome : goal.returns-clause-outcome
returns-clause-outcome c = λ memory.
    let asked = read_words (map string_bytes c.args.words.now) in
    let old = state_of c.args.host.now in
    let new = state_of c.run.new.host in
    let ended = c.run.ensures.outcome (still asked old new (λ name. refl) (λ name. refl) (λ name. refl) refl) memory in
    (ended.0, ended.1, ended.2.0)
