-- A program that was accepted is the table of a text.
use Rattle.std.proofs.Common.{◌≡◌, ℕ, List, Option, Some, None, sym, subst}
use Rattle.ny_resolve.specs.declared.term.Part.{Part}
use Rattle.ny_resolve.specs.declared.term.Declared.{Declared}
use Rattle.ny_resolve.specs.Declarations.{tree_read}
use Rattle.ny_kinds.specs.Whole.{text_kind, channels_in}
use Rattle.ny_check.specs.Code.{Code}
use Rattle.ny_check.specs.Writing.{program_of}
use Rattle.ny_check.specs.Acceptance.{program_in, program_with}
use Rattle.ny_check.specs.Texts.{IsAccepted}
use Rattle.ny_laws.specs.Standing.{IsTableOf}
use Rattle.ny_laws.proofs.Tables.{is_table}

some_code : (a b : Code) → Some a ≡ Some b → a ≡ b
some_code a b is = cc

-- the text that a program was written of
pub record Text (code : Code) : Type 0 where
  pub declared : List Declared
  pub play : Part
  pub channels : ℕ
  pub is : code ≡ program_of declared play channels
  pub table : IsTableOf declared play code

of_program : (ds : List Declared) (played : Option Part) (n : ℕ) (code : Code) → program_with ds played n ≡ Some code → Text code
of_program ds None n code is = cc
of_program ds (Some play) n code is =
    let same : program_of ds play n ≡ code = some_code (program_of ds play n) code is in record {
      declared = ds;
      play = play;
      channels = n;
      is = sym same;
      table = subst (IsTableOf ds play) same (is_table ds play n);
    }

pub text_of : (code : Code) → IsAccepted code → Text code
unfolding program_in
text_of code is =
    let t = tree_read is.tree in of_program t.declared t.play (channels_in (text_kind t.declared t.play).kind) code is.program
