use Rattle.std.proofs.Common.{◌≤◌, length}
use Rattle.ny_lex.specs.Spelling.{Spells}
use Rattle.ny_lex.proofs.lexer.lex.Given as goal

-- the text so far is the tokens so far
abbrev pub invariant-loop-rest : goal.invariant-loop-rest
invariant-loop-rest l = record {
  spelled : Spells (length l.text) l.text l.tokens.items l.rest;
  within : length l.rest ≤ length l.text;
}

abbrev pub decreases-loop-rest : goal.decreases-loop-rest
decreases-loop-rest l = length l.rest
