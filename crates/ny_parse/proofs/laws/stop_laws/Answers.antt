use Rattle.ny_parse.proofs.OnePlace.{stops-no_tree, stops-unique}
use Rattle.ny_parse.proofs.laws.stop_laws.Goals as goal

pub returns-clause-no_tree : goal.returns-clause-no_tree
returns-clause-no_tree c = stops-no_tree

pub returns-clause-one_place : goal.returns-clause-one_place
returns-clause-one_place c = stops-unique
