use Rattle.std.proofs.Common.{◌≡◌, None, codes, map, subst, string_bytes}
use Rattle.ny_words.specs.declared.fault.WordsFault.TheVariants.{Usage}
use Rattle.ny_words.specs.Reader.{command_with, found_in, rule_for}
use Rattle.ny_words.specs.Words.{render_command, rendering}
use Rattle.ny_words.proofs.ReaderLemmas.{passed_on}
use Rattle.ny_words.proofs.read.read_render.Goals as goal

pub returns-in_err-found-clause-command : goal.returns-in_err-found-clause-command
returns-in_err-found-clause-command c =
    let words = map string_bytes c.args.words.now in
    passed_on c.from_residual.result c.in_err-found.field-0.0 _ rendering (found_in render_command words) c.from_residual.ensures.1
    (subst (λ arguments. c.in_err-found.field-0.0 ≡ Usage → found_in (command_with (codes "render") (map rule_for arguments)) words ≡ None)
    c.as_slice.ensures c.in_err-found.ensures)
