use Rattle.ny_syntax.specs.Canonical.{canonical_text}
use Rattle.ny_parse.proofs.OneTree.{one_tree, canonical-only}
use Rattle.ny_parse.proofs.laws.canonical_law.Goals as goal

pub returns-clause-one : goal.returns-clause-one
returns-clause-one c = one_tree

pub returns-clause-tokens : goal.returns-clause-tokens
returns-clause-tokens c = c.canonical_tokens.ensures.some

pub returns-clause-tree : goal.returns-clause-tree
returns-clause-tree c = c.canonical_tokens.ensures.tree

pub returns-clause-only : goal.returns-clause-only
returns-clause-only c = canonical-only c.canonical_tokens.ensures.tree

pub returns-clause-again : goal.returns-clause-again
returns-clause-again c text tokens tree has_tokens has_tree others has_others found has_found =
    c.canonical_laws.ensures.one_text text tokens tree has_tree (canonical_text tree) others found has_found
    (canonical-only c.canonical_tokens.ensures.tree text tokens tree has_tokens has_tree others has_others found has_found)
