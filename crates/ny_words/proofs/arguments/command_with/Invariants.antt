use Rattle.std.proofs.Common.{◌≡◌, drop, map}
use Rattle.std.specs.Prelude.{fold}
use Rattle.clap.specs.Words.{app_of, with_rule}
use Rattle.ny_words.specs.Reader.{command_with}
use Rattle.ny_words.specs.Reader.{rule_for}
use Rattle.ny_words.proofs.arguments.command_with.Given as goal

-- the command so far, with the rest of the arguments, is the whole
abbrev pub invariant-loop-argument : goal.invariant-loop-argument
invariant-loop-argument l =
    fold with_rule (app_of l.command) (map rule_for (drop l.argument-index l.arguments))
    ≡ command_with l.name (map rule_for l.arguments)
