use Rattle.std.proofs.Common.{rules, map, string_bytes}
use Rattle.ny_top.specs.Outcome.{usage_outcome}
use Rattle.ny_words.specs.Words.{read_words}
use Rattle.ny_words.specs.Views.{command_view}
use Rattle.ny_top.proofs.Outcomes.{ended_whole, whole_sound, unfailed}
use Rattle.ny_top.proofs.Stages.{usage_ends}
use Rattle.ny_top.proofs.OneOutcome.{one_outcome}
use Rattle.ny_top.proofs.Complete.{completes, is_refused, by_command, whole_unless, unread_completes}
use Rattle.ny_top.proofs.Unread.{unread_cut, unread_makes}
use Rattle.ny_top.proofs.entry.run.Goals as goal

pub returns-in-Err-Usage-clause-outcome : goal.returns-in-Err-Usage-clause-outcome
returns-in-Err-Usage-clause-outcome g c = λ none_rose memory.
    let old = g.H.Host.state c.args.host.now in
    let new = g.H.Host.state c.finish.new.host in
    usage_ends (map string_bytes c.args.words.now) c.args.left.now c.finish.result old new (c.in-Err-Usage.ensures.command c.in-Err-Usage.field-0-is) c.requires
    (ended_whole usage_outcome c.finish.result old new
    (unfailed (read_words (map string_bytes c.args.words.now)) c.finish.result old new (c.in-Err-Usage.ensures.command c.in-Err-Usage.field-0-is) none_rose c.finish.ensures.rose)
    c.finish.ensures.status c.finish.ensures.told c.finish.ensures.output.created)

pub returns-in-Err-Usage-clause-whole : goal.returns-in-Err-Usage-clause-whole
returns-in-Err-Usage-clause-whole g c = λ whole.
    let old = g.H.Host.state c.args.host.now in
    let new = g.H.Host.state c.finish.new.host in
    usage_ends (map string_bytes c.args.words.now) c.args.left.now c.finish.result old new (c.in-Err-Usage.ensures.command c.in-Err-Usage.field-0-is) c.requires
    (ended_whole usage_outcome c.finish.result old new (whole_sound c.finish.result whole)
    c.finish.ensures.status c.finish.ensures.told c.finish.ensures.output.created)

pub returns-in-Ok-clause-whole : goal.returns-in-Ok-clause-whole
returns-in-Ok-clause-whole g c = λ whole.
    by_command (read_words (map string_bytes c.args.words.now)) (command_view c.in-Ok.command) c.run_names.new.left c.run_names.result
    (g.H.Host.state c.args.host.now) (g.H.Host.state c.run_names.new.host) c.in-Ok.ensures.command (c.run_names.ensures.whole whole)

pub returns-in-Ok-clause-outcome : goal.returns-in-Ok-clause-outcome
returns-in-Ok-clause-outcome g c = λ quiet memory.
    let asked = read_words (map string_bytes c.args.words.now) in
    let old = g.H.Host.state c.args.host.now in
    let new = g.H.Host.state c.run_names.new.host in
    by_command asked (command_view c.in-Ok.command) c.run_names.new.left c.run_names.result old new c.in-Ok.ensures.command
    (c.run_names.ensures.whole (whole_unless asked c.run_names.result old new (search rules) (search rules) c.run_names.ensures.write quiet memory))

pub returns-in-Ok-clause-cause_refused : goal.returns-in-Ok-clause-cause_refused
returns-in-Ok-clause-cause_refused g c =
    is_refused (read_words (map string_bytes c.args.words.now)) c.run_names.new.left c.run_names.result
    (g.H.Host.state c.args.host.now) (g.H.Host.state c.run_names.new.host) (returns-in-Ok-clause-whole g c)

pub returns-in-Ok-clause-complete : goal.returns-in-Ok-clause-complete
returns-in-Ok-clause-complete g c =
    completes (read_words (map string_bytes c.args.words.now)) c.run_names.new.left c.run_names.result (g.H.Host.state c.args.host.now) (g.H.Host.state c.run_names.new.host)
    (record {
      whole = returns-in-Ok-clause-whole g c;
      open' = search rules;
      read = search rules;
      write = c.run_names.ensures.write;
      usage = λ is. absurd (c.run_names.ensures.status is);
      refused = returns-in-Ok-clause-cause_refused g c;
      full = search rules;
    })

pub returns-in-Ok-clause-one_outcome : goal.returns-in-Ok-clause-one_outcome
returns-in-Ok-clause-one_outcome g c = λ files e f o other. one_outcome (read_words (map string_bytes c.args.words.now)) files e f o other

-- memory was missing to read the words

pub returns-in-Err-OutOfMemory-clause-cut_short : goal.returns-in-Err-OutOfMemory-clause-cut_short
returns-in-Err-OutOfMemory-clause-cut_short g c = λ memory.
    unread_cut (read_words (map string_bytes c.args.words.now)) c.args.left.now (g.H.Host.state c.args.host.now)

pub returns-in-Err-OutOfMemory-clause-prefix : goal.returns-in-Err-OutOfMemory-clause-prefix
returns-in-Err-OutOfMemory-clause-prefix g c = unread_makes (read_words (map string_bytes c.args.words.now)) (g.H.Host.state c.args.host.now)

pub returns-in-Err-OutOfMemory-clause-complete : goal.returns-in-Err-OutOfMemory-clause-complete
returns-in-Err-OutOfMemory-clause-complete g c = λ none_rose.
    unread_completes (read_words (map string_bytes c.args.words.now)) c.args.left.now (g.H.Host.state c.args.host.now).files

pub returns-in-Err-OutOfMemory-clause-one_outcome : goal.returns-in-Err-OutOfMemory-clause-one_outcome
returns-in-Err-OutOfMemory-clause-one_outcome g c = λ files e f o other. one_outcome (read_words (map string_bytes c.args.words.now)) files e f o other
