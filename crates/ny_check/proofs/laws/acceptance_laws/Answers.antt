use Rattle.ny_resolve.specs.Declarations.{tree_read}
use Rattle.ny_check.proofs.FirstFault.{first, none}
use Rattle.ny_check.proofs.laws.acceptance_laws.Goals as goal

pub returns : goal.returns
returns c = record {
  first = λ tree f is. first tree f (record {
    told = c.refusal_laws.ensures.told (tree_read tree).declared (tree_read tree).play;
    none = c.refusal_laws.ensures.none (tree_read tree).declared (tree_read tree).play;
  }) is;
  none = λ tree f is o. none tree f (record {
    told = c.refusal_laws.ensures.told (tree_read tree).declared (tree_read tree).play;
    none = c.refusal_laws.ensures.none (tree_read tree).declared (tree_read tree).play;
  }) is o;
}
