-- A program keeps no name but those that its parts use.
use Rattle.std.proofs.Common.{List, sym, ap, ◌∙◌, subst}
use Rattle.ny_resolve.specs.declared.term.NameId.{NameId}
use Rattle.ny_resolve.specs.Declarations.{tree_read}
use Rattle.ny_check.specs.Code.{Code}
use Rattle.ny_check.specs.Texts.{IsAccepted}
use Rattle.ny_laws.specs.Standing.{Stands, IsSomePart}
use Rattle.ny_laws.specs.UsedNames.{IsOnce, KeepsOnlyUsed}
use Rattle.ny_laws.proofs.Uses.{among}
use Rattle.ny_laws.proofs.KeptNames.{named}
use Rattle.ny_laws.proofs.UsedNames.{kept_used, kept_once}
use Rattle.ny_laws.proofs.WholeTexts.{whole_table}

pub keeps_only_used : (code : Code) → IsAccepted code → KeepsOnlyUsed code
keeps_only_used code is =
    let w = whole_table code is in record {
      tree = is.tree;
      play = w.play;
      accepted = is.accepted;
      plays = w.is;
      each = λ id lt.
          let s : IsSomePart (tree_read is.tree).declared w.play code id = w.table.each id lt in
          let at = named code s.here s.names s.part id s.stands in record {
            here = s.here;
            seen = s.seen;
            part = s.part;
            is_in = s.is_in;
            stands = subst (λ (names : List NameId). Stands code s.here names s.part id) (sym at.1) s.stands;
            used = λ x kept. kept_used code s.here s.names s.part id s.stands s.kept x (sym (ap (among x) at.1) ∙ kept);
            once = subst IsOnce (sym at.1) (kept_once code s.here s.names s.part id s.stands s.kept);
          };
    }
