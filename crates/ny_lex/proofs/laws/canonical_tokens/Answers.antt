use Rattle.ny_lex.proofs.CanonicalTokens.{canonical-read, canonical-only, canonical-tree}
use Rattle.ny_lex.proofs.laws.canonical_tokens.Goals as goal

pub returns-clause-some : goal.returns-clause-some
returns-clause-some c text tokens tree has_tokens has_tree =
    let q = canonical-read c.text_reads_back.ensures.number c.canonical_laws.ensures.spelled text tokens tree has_tokens has_tree in (q.0, q.1)

pub returns-clause-lexemes : goal.returns-clause-lexemes
returns-clause-lexemes c = canonical-only c.text_reads_back.ensures.number c.canonical_laws.ensures.spelled

pub returns-clause-tree : goal.returns-clause-tree
returns-clause-tree c = canonical-tree c.text_reads_back.ensures.number c.canonical_laws.ensures.spelled c.canonical_laws.ensures.again
