-- The table of an accepted text leaves nothing out.
use Rattle.std.proofs.Common.{◌≡◌, ℕ, ◌<◌, List, length, refl, subst, Option, Some, None}
use Rattle.ny_resolve.specs.declared.term.Part.{Part}
use Rattle.ny_resolve.specs.declared.term.Declared.{Declared}
use Rattle.ny_resolve.specs.Declarations.{tree_read}
use Rattle.ny_kinds.specs.Whole.{text_kind, channels_in}
use Rattle.ny_check.specs.Code.{Code, IsOrdered}
use Rattle.ny_check.specs.Writing.{program_of}
use Rattle.ny_check.specs.Acceptance.{fault_of, faults_in, judged_faults, program_in, program_with}
use Rattle.ny_check.specs.Texts.{IsAccepted}
use Rattle.ny_laws.specs.Standing.{IsTableOf, IsSomePart}
use Rattle.ny_laws.specs.Complete.{NodesAreWhole, StandsWhole, IsWholeText}
use Rattle.ny_laws.proofs.Tables.{is_table}
use Rattle.ny_laws.proofs.ReadWhole.{none_left}
use Rattle.ny_laws.proofs.TextKinds.{TextWhole}
use Rattle.ny_laws.proofs.Scopes.{text_whole}
use Rattle.ny_laws.proofs.AcceptedKinds.{none_earliest}
use Rattle.ny_laws.proofs.WholeParts.{here_within, text_part_whole}
use Rattle.ny_laws.proofs.Completes.{complete}

-- the table of a text that leaves nothing out
pub record WholeTable (ds : List Declared) (plays : Option Part) (code : Code) : Type 0 where
  pub play : Part
  pub is : plays ≡ Some play
  pub table : IsTableOf ds play code
  pub whole : TextWhole ds play

some_code : (a b : Code) → Some a ≡ Some b → a ≡ b
some_code a b is = cc

of_read : (ds : List Declared) (plays : Option Part) (n : ℕ) (code : Code) → ((part : Part) → plays ≡ Some part → TextWhole ds part) → program_with ds plays n ≡ Some code → WholeTable ds plays code
of_read ds None n code whole is = cc
of_read ds (Some part) n code whole is = record {
  play = part;
  is = refl;
  table = subst (IsTableOf ds part) (some_code (program_of ds part n) code is) (is_table ds part n);
  whole = whole part refl;
}

pub whole_table : (code : Code) (is : IsAccepted code) → WholeTable (tree_read is.tree).declared (tree_read is.tree).play code
unfolding fault_of program_in
whole_table code is =
    let t = tree_read is.tree in
    let none = none_earliest (faults_in t is.tree.play_at) is.accepted in
    let both = none_left t.faults (judged_faults t.declared t.play is.tree.play_at) none in
    of_read t.declared t.play (channels_in (text_kind t.declared t.play).kind) code (λ part plays. text_whole is.tree part both.0 plays) is.program

stands_whole : (ds : List Declared) (play : Part) (code : Code) → IsTableOf ds play code → TextWhole ds play → (id : ℕ) → id < length code.nodes → StandsWhole ds play code id
stands_whole ds play code table whole id lt =
    let s : IsSomePart ds play code id = table.each id lt in
    let is = complete code ds play table whole s.here (here_within ds play s.here s.seen s.part s.is_in) s.seen s.names s.part id s.stands
    (text_part_whole ds play whole s.here s.seen s.part s.is_in) in record {
      here = s.here;
      seen = s.seen;
      names = s.names;
      part = s.part;
      is_in = s.is_in;
      stands = s.stands;
      operands = is.0;
      literal = is.1;
    }

pub whole_text : (code : Code) → IsAccepted code → IsWholeText code
whole_text code is =
    let w = whole_table code is in record {
      tree = is.tree;
      play = w.play;
      accepted = is.accepted;
      plays = w.is;
      table = w.table;
      each = λ id lt. stands_whole (tree_read is.tree).declared w.play code w.table w.whole id lt;
    }

pub nodes_whole : (code : Code) → IsOrdered code → IsAccepted code → NodesAreWhole code
nodes_whole code ordered is e lt =
    let one = (whole_text code is).each e lt in (ordered.each e lt, (one.seen, one.operands))
