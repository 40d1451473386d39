use Rattle.std.proofs.Common.{◌≡◌, arith}
use Rattle.std.proofs.lemmas.Result.{IfOk-weaker}
use Rattle.ny_resolve.specs.declared.declarations.ReadTree.{ReadTree}
use Rattle.ny_resolve.specs.Faults.{earliest}
use Rattle.ny_resolve.specs.Declarations.{tree_read}
use Rattle.ny_resolve.proofs.Earliest.{told}
use Rattle.ny_resolve.proofs.PartSizes.{read-small}
use Rattle.ny_resolve.proofs.declarations.read_tree.Goals as goal

pub returns-clause-first : goal.returns-clause-first
returns-clause-first c =
    IfOk-weaker c.play_read.result _ (λ (r : ReadTree). r.first ≡ earliest (tree_read c.args.tree.now).faults) (λ r is. grind (arith, told)) c.play_read.ensures.first

pub returns-clause-small : goal.returns-clause-small
returns-clause-small c =
    read-small c.args.tree.now c.as_slice-declarations.result.now c.in_ok-read.read.declared c.play_read.result c.as_slice-declarations.ensures
    c.in_ok-read.ensures.small c.play_read.ensures.declared c.play_read.ensures.small
