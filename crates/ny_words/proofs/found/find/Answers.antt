use Rattle.std.proofs.Common.{◌∙◌, map, string_bytes}
use Rattle.clap.specs.Words.{app_of}
use Rattle.ny_words.specs.Reader.{command_with, rule_for}
use Rattle.ny_words.proofs.ReaderLemmas.{found, refused}
use Rattle.ny_words.proofs.found.find.Goals as goal

pub returns-in-Ok-try_get_matches_from : goal.returns-in-Ok-try_get_matches_from
returns-in-Ok-try_get_matches_from c =
    found (app_of c.in-Ok.command) (command_with c.args.name.now (map rule_for c.args.arguments.now)) (map string_bytes c.args.words.now)
    c.in-Ok-try_get_matches_from.found c.in-Ok.ensures c.requires
    c.in-Ok-try_get_matches_from.ensures.kinds c.in-Ok-try_get_matches_from.ensures.matches

pub returns-in-Err-try_get_matches_from : goal.returns-in-Err-try_get_matches_from
returns-in-Err-try_get_matches_from c usage =
    refused (app_of c.in-Ok.command) (command_with c.args.name.now (map rule_for c.args.arguments.now)) (map string_bytes c.args.words.now)
    c.in-Err-try_get_matches_from.error c.in-Ok.ensures c.requires
    c.in-Err-try_get_matches_from.ensures.kinds (λ memory. c.fault_of.ensures.usage usage (c.kind.ensures ∙ memory))
