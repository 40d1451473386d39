-- A text has one outcome at most, so words have one over the same files, whatever engines are left.
use Rattle.std.proofs.Common.{◌≡◌, ℕ, List, length, sum, sym, subst, ap, ◌∙◌, arith, None, Some, inl, inr}
use Rattle.std.specs.declared.option.Option.{Option}
use Rattle.ny_io.specs.Host.{Named, bytes_under}
use Rattle.ny_syntax.specs.declared.token.Token.{Token}
use Rattle.ny_syntax.specs.declared.tree.Tree.{Tree}
use Rattle.ny_syntax.specs.Grammar.{HasTree}
use Rattle.ny_lex.specs.Spelling.{HasTokens, IsUnreadable}
use Rattle.ny_lex.proofs.Tokens.{spells-unique, unreadable-no_tokens, unreadable-unique}
use Rattle.ny_parse.specs.Prefix.{StopsAt}
use Rattle.ny_parse.proofs.OneTree.{one_tree as tree-unique}
use Rattle.ny_parse.proofs.OnePlace.{stops-no_tree, stops-unique}
use Rattle.ny_resolve.specs.declared.fault.Fault.{Fault}
use Rattle.ny_check.specs.Acceptance.{fault_of, program_in}
use Rattle.ny_top.specs.declared.reading.Refusal.{Refusal}
use Rattle.ny_top.specs.declared.reading.Refusal.TheVariants.{Lex, Parse, Check}
use Rattle.ny_check.specs.Code.{Code}
use Rattle.ny_pull.specs.Engine.{EngineState}
use Rattle.ny_words.specs.Commands.{Render, Task, Command, render, check}
use Rattle.ny_top.specs.Playing.{first_full_of}
use Rattle.ny_top.proofs.OneRound.{same_round}
use Rattle.ny_top.specs.Reading.{IsTreeOf, IsAccepted, IsRefusal, refusal_text}
use Rattle.ny_top.specs.Outcome.{Outcome, refused, full, HasPlayOutcome, HasProgramOutcome, HasTreeOutcome, HasReadOutcome, HasTextOutcome, HasCommandOutcome}

same_tokens : (text : List ℕ) (tokens others : List Token) → HasTokens text tokens → HasTokens text others → others ≡ tokens
same_tokens text tokens others spelled again = spells-unique (length text) text tokens others spelled again

-- a text has one tree at most
one_tree : (text : List ℕ) (tree other : Tree) → IsTreeOf text tree → IsTreeOf text other → other ≡ tree
one_tree text tree other (tokens, spelled, has) (others, respelled, again) =
    let P : List Token → Type 0 = λ ts. HasTree text ts other in
    tree-unique text tokens tree other has (subst P (same_tokens text tokens others spelled respelled) again)

one_place : (text : List ℕ) (at other : ℕ) (tokens others : List Token) → HasTokens text tokens → StopsAt text tokens at
    → HasTokens text others → StopsAt text others other → other ≡ at
one_place text at other tokens others spelled stops respelled again =
    let P : List Token → Type 0 = λ ts. StopsAt text ts other in
    stops-unique text tokens at other stops (subst P (same_tokens text tokens others spelled respelled) again)

tree-readable : (text : List ℕ) (at : ℕ) (why : _) (tree : Tree) → IsUnreadable text at why → IsTreeOf text tree → ⊥
tree-readable text at why tree is (tokens, spelled, has) = unreadable-no_tokens text at why is tokens spelled

tree-goes_on : (text : List ℕ) (at : ℕ) (tokens : List Token) (tree : Tree) → HasTokens text tokens → StopsAt text tokens at → IsTreeOf text tree → ⊥
tree-goes_on text at tokens tree spelled stops (others, respelled, has) =
    let P : List Token → Type 0 = λ ts. HasTree text ts tree in
    stops-no_tree text tokens at tree stops (subst P (same_tokens text tokens others spelled respelled) has)

same_fault : (f g : Fault) → Some f ≡ Some g → f ≡ g
same_fault f g e = cc

-- a tree has one first fault at most
one_fault : (fault : Option Fault) (f g : Fault) → fault ≡ Some f → fault ≡ Some g → Check g.at g.why ≡ Check f.at f.why
one_fault fault f g is again = ap (λ (h : Fault). Check h.at h.why) (sym (same_fault f g (sym is ∙ again)))

no_fault : (fault : Option Fault) (f : Fault) → fault ≡ None → fault ≡ Some f → ⊥
no_fault fault f none is = cc

-- a text is refused in one way at most
one_refusal : (text : List ℕ) (a b : Refusal) → IsRefusal text a → IsRefusal text b → b ≡ a
one_refusal text (Lex at why) (Lex other other_why) is again =
    let same : (at ≡ other) × (why ≡ other_why) = unreadable-unique text at other why other_why is again in
    ap (λ place. Lex place other_why) (sym same.0) ∙ ap (λ cause. Lex at cause) (sym same.1)
one_refusal text (Lex at why) (Parse other) is (tokens, spelled, stops) = absurd (unreadable-no_tokens text at why is tokens spelled)
one_refusal text (Lex at why) (Check other other_why) is (tree, has, fault) = absurd (tree-readable text at why tree is has)
one_refusal text (Parse at) (Lex other why) (tokens, spelled, stops) is = absurd (unreadable-no_tokens text other why is tokens spelled)
one_refusal text (Parse at) (Parse other) (tokens, spelled, stops) (others, respelled, again) =
    ap Parse (one_place text at other tokens others spelled stops respelled again)
one_refusal text (Parse at) (Check other why) (tokens, spelled, stops) (tree, has, fault) = absurd (tree-goes_on text at tokens tree spelled stops has)
one_refusal text (Check at why) (Lex other other_why) (tree, has, fault) is = absurd (tree-readable text other other_why tree is has)
one_refusal text (Check at why) (Parse other) (tree, has, fault) (tokens, spelled, stops) = absurd (tree-goes_on text other tokens tree spelled stops has)
one_refusal text (Check at why) (Check other other_why) (tree, has, fault) (second, again, other_fault) =
    one_fault (fault_of tree) (record { at = at; why = why }) (record { at = other; why = other_why }) fault (ap fault_of (sym (one_tree text tree second has again)) ∙ other_fault)

-- no accepted text is refused
refusal_or_tree : (text : List ℕ) (a : Refusal) (tree : Tree) → IsRefusal text a → IsAccepted text tree → ⊥
refusal_or_tree text (Lex at why) tree is (has, accepted) = tree-readable text at why tree is has
refusal_or_tree text (Parse at) tree (tokens, spelled, stops) (has, accepted) = tree-goes_on text at tokens tree spelled stops has
refusal_or_tree text (Check at why) tree (second, again, fault) (has, accepted) =
    no_fault (fault_of tree) (record { at = at; why = why }) accepted (ap fault_of (sym (one_tree text tree second has again)) ∙ fault)

-- a piece is played to its end or finds its pool full, not both
played_or_full : (o : Option ℕ) (k : ℕ) → o ≡ None → o ≡ Some k → ⊥
played_or_full o k none is = cc

same_count : (o : Option ℕ) (j k : ℕ) → o ≡ Some j → o ≡ Some k → k ≡ j
same_count o j k is again = cc

one_play : (r : Render) (code : Code) (e f : EngineState) (o p : Outcome) → HasPlayOutcome r code e o → HasPlayOutcome r code f p → p ≡ o
one_play r code e f o p (inl (ended, o_is)) (inl (again, p_is)) = p_is ∙ sym o_is
one_play r code e f o p (inl (ended, o_is)) (inr (n, stopped, p_is)) = absurd (played_or_full (first_full_of r code) (sum f.pulled) ended.room stopped.first)
one_play r code e f o p (inr (n, stopped, o_is)) (inl (ended, p_is)) = absurd (played_or_full (first_full_of r code) (sum e.pulled) ended.room stopped.first)
one_play r code e f o p (inr (n, stopped, o_is)) (inr (m, again, p_is)) =
    let count : sum f.pulled ≡ sum e.pulled = same_count (first_full_of r code) (sum e.pulled) (sum f.pulled) stopped.first again.first in
    p_is ∙ (λ i. full r code (same_round r code e f n m stopped again count i) (count i)) ∙ sym o_is

one_program : (r : Render) (program : Option Code) (left other : Option EngineState) (o p : Outcome) → HasProgramOutcome r program left o → HasProgramOutcome r program other p → p ≡ o
one_program r None left other o p is again = absurd is
one_program r (Some code) None other o p is again = absurd is
one_program r (Some code) (Some e) None o p is again = absurd again
one_program r (Some code) (Some e) (Some f) o p is again = one_play r code e f o p is again

one_of_tree : (task : Task) (tree : Tree) (left other : Option EngineState) (o p : Outcome) → HasTreeOutcome task tree left o → HasTreeOutcome task tree other p → p ≡ o
one_of_tree (render r) tree left other o p is again = one_program r (program_in tree) left other o p is again
one_of_tree check tree left other o p is again = again.1 ∙ sym is.1

one_read : (task : Task) (text : List ℕ) (left other : Option EngineState) (o p : Outcome) → HasReadOutcome task text left o → HasReadOutcome task text other p → p ≡ o
one_read task text left other o p (inl (a, is, none, o_is)) (inl (b, again, none_again, p_is)) = p_is ∙ ap (λ r. refused (refusal_text r)) (one_refusal text a b is again) ∙ sym o_is
one_read task text left other o p (inl (a, is, none, o_is)) (inr (tree, again, p_is)) = absurd (refusal_or_tree text a tree is again)
one_read task text left other o p (inr (tree, is, o_is)) (inl (b, again, none, p_is)) = absurd (refusal_or_tree text b tree again is)
one_read task text left other o p (inr (tree, is, o_is)) (inr (second, again, p_is)) =
    let P : Tree → Type 0 = λ t. HasTreeOutcome task t other p in
    one_of_tree task tree left other o p o_is (subst P (one_tree text tree second is.0 again.0) p_is)

one_text : (task : Task) (text : List ℕ) (left other : Option EngineState) (o p : Outcome) → HasTextOutcome task text left o → HasTextOutcome task text other p → p ≡ o
one_text task text left other o p (inl (long, none, o_is)) (inl (again, none_again, p_is)) = p_is ∙ sym o_is
one_text task text left other o p (inl (long, none, o_is)) (inr (short, has)) = absurd (omega (arith, long, short))
one_text task text left other o p (inr (short, has)) (inl (long, none, p_is)) = absurd (omega (arith, long, short))
one_text task text left other o p (inr (short, has)) (inr (again, second)) = one_read task text left other o p has second

-- a command has one outcome at most
pub one_outcome : (asked : Option Command) (files : List Named) (left other : Option EngineState) (o p : Outcome) → HasCommandOutcome asked files left o → HasCommandOutcome asked files other p → p ≡ o
one_outcome None files left other o p is again = again.1 ∙ sym is.1
one_outcome (Some command) files left other o p is again = one_text command.task (bytes_under command.from files) left other o p is again
