use Rattle.ny_parse.proofs.Slices.{are-slices}
use Rattle.ny_parse.proofs.Whole.{answered-tree, answered-only, answered-none, answered-place}
use Rattle.ny_parse.proofs.parser.parse.Goals as goal

pub read-requires-clause-slices : goal.read-requires-clause-slices
read-requires-clause-slices c = are-slices c.args.text.now c.args.tokens.now c.requires.in_order

pub returns-clause-tree : goal.returns-clause-tree
returns-clause-tree c = answered-tree c.args.text.now c.args.tokens.now c.read.result c.read.ensures

pub returns-clause-only : goal.returns-clause-only
returns-clause-only c = answered-only c.args.text.now c.args.tokens.now c.read.result c.read.ensures

pub returns-clause-none : goal.returns-clause-none
returns-clause-none c = answered-none c.args.text.now c.args.tokens.now c.read.result c.read.ensures

pub returns-clause-place : goal.returns-clause-place
returns-clause-place c = answered-place c.args.text.now c.args.tokens.now c.read.result c.read.ensures
