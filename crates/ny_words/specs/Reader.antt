-- How a command reads its words: as `clap` reads those of a simple command.
use Rattle.std.specs.Prelude.{List, fold, Some, None, true, if◌then◌else◌}
use Rattle.std.specs.declared.option.Option.{Option}
use Rattle.clap.specs.declared.builder.action.ArgAction.TheVariants.{Set}
use Rattle.clap.specs.Walk.{is_empty}
use Rattle.ny_words.specs.declared.arguments.Argument.{Argument}
use Rattle.ny_words.specs.declared.arguments.Argument.TheVariants.{Word, Value}
use Rattle.clap.specs.Words.{App, Row, Rule, Text, fault_of, matches_of, new_app, new_rule, with_rule}

-- a word at its place: required, and with one value
abbrev pub word : Text → Rule
word name = record (new_rule name) { required = true; action = Some Set }

-- an option: by its long name alone, with one value and no default
abbrev pub option : Text → Rule
option name = record (new_rule name) { long = Some name; action = Some Set }

-- an argument of the program, as the reader takes it
abbrev pub rule_for : Argument → Rule
rule_for (Word name) = word name.now
rule_for (Value name) = option name.now

-- a command with exactly these arguments, to which the reader adds its help
abbrev pub command_with : Text → List Rule → App
command_with name rules = fold with_rule (new_app name) rules

-- what the reader finds in the words of a command, whose name they begin with; none where it refuses them, a request for help included
unfoldable pub found_in : App → List Text → Option (List Row)
found_in command words = if is_empty (fault_of command words) then Some (matches_of command words) else None
