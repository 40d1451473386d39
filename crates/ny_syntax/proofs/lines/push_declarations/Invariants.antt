use Rattle.std.proofs.Common.{◌≡◌, ◌++◌, map, drop}
use Rattle.ny_syntax.specs.Spelled.{lines_text}
use Rattle.ny_syntax.specs.Canonical.{declaration_lexemes}
use Rattle.ny_syntax.proofs.lines.push_declarations.Given as goal

abbrev pub invariant-loop-decl : goal.invariant-loop-decl
invariant-loop-decl l =
    l.out.items ++ lines_text (map declaration_lexemes (drop l.decl-index l.decls)) ≡ l.fn.out.items ++ lines_text (map declaration_lexemes l.decls)
