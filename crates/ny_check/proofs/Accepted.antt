-- A program that is written of a text without a fault is that of an accepted text.
use Rattle.std.proofs.Common.{◌≡◌, ℕ, List, Option, Some, None, sym, ap, ◌∙◌}
use Rattle.ny_syntax.specs.declared.tree.Tree.{Tree}
use Rattle.ny_resolve.specs.declared.fault.Fault.{Fault}
use Rattle.ny_resolve.specs.declared.term.Part.{Part}
use Rattle.ny_resolve.specs.declared.term.Declared.{Declared}
use Rattle.ny_resolve.specs.Faults.{earliest, earliest_after}
use Rattle.ny_resolve.specs.Declarations.{tree_read}
use Rattle.ny_kinds.specs.Whole.{text_kind, channels_in}
use Rattle.ny_check.specs.Code.{Code}
use Rattle.ny_check.specs.Acceptance.{judged_faults, program_in, program_with}
use Rattle.ny_check.specs.Texts.{IsAccepted}
use Rattle.ny_check.proofs.Silent.{told}

in_tree : (tree : Tree) (ds : List Declared) (play : Option Part) (channels : ℕ) → ds ≡ (tree_read tree).declared → play ≡ (tree_read tree).play
    → channels ≡ channels_in (text_kind ds play).kind → program_with ds play channels ≡ program_in tree
unfolding program_in
in_tree tree ds play channels same_ds same_play same =
    ap (λ (n : ℕ). program_with ds play n) same
    ∙ ap (λ (xs : List Declared). program_with xs play (channels_in (text_kind xs play).kind)) same_ds
    ∙ ap (λ (p : Option Part). program_with (tree_read tree).declared p (channels_in (text_kind (tree_read tree).declared p).kind)) same_play

pub accepted_text : (tree : Tree) (ds : List Declared) (play : Option Part) (first fault : Option Fault) (channels : ℕ)
    → ds ≡ (tree_read tree).declared → play ≡ (tree_read tree).play → first ≡ earliest (tree_read tree).faults
    → fault ≡ earliest_after first (judged_faults ds play tree.play_at) → channels ≡ channels_in (text_kind ds play).kind
    → fault ≡ None → (code : Code) → program_with ds play channels ≡ Some code → IsAccepted code
accepted_text tree ds play first fault channels same_ds same_play is_first is_fault is_channels none code is = record {
  tree = tree;
  accepted = sym (told tree ds play first fault same_ds same_play is_first is_fault) ∙ none;
  program = sym (in_tree tree ds play channels same_ds same_play is_channels) ∙ is;
}
