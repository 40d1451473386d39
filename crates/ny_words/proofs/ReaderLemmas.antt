-- What the reader answers, as what is found in the words.
use Rattle.std.proofs.Common.{◌≡◌, List, [], ◌∷◌, Some, None, true, refl, sym, ap, ◌∙◌, subst, inl, inr, length, arith, Ok, Err, MatchResult, IsErrAnd, option_and_then}
use Rattle.std.specs.Prelude.{if◌then◌else◌}
use Rattle.std.proofs.lemmas.Bool.{and_parts, ne_eqb}
use Rattle.clap.specs.declared.error.Error.{Error}
use Rattle.clap.specs.declared.error.kind.ErrorKind.TheVariants.{OutOfMemory}
use Rattle.clap.specs.declared.parser.matches.ArgMatches.{ArgMatches}
use Rattle.clap.specs.Faults.{is_free_app}
use Rattle.clap.specs.Simple.{built}
use Rattle.clap.specs.Words.{App, HasKind, HasMatchesOf, Kinds, Text, fault_of, found_of, is_simple, is_simple_and_free, kind_of, matches_of, rows_of}
use Rattle.clap.specs.Walk.{is_empty}
use Rattle.std.specs.declared.option.Option.{Option}
use Rattle.std.specs.declared.result.Result.{Result}
use Rattle.ny_words.specs.declared.fault.WordsFault.{WordsFault}
use Rattle.ny_words.specs.declared.fault.WordsFault.TheVariants.{Usage}
use Rattle.ny_words.specs.Reader.{found_in}

-- matches are what is found
found_alone : (command : App) (words : List Text) (matches : ArgMatches) → is_simple_and_free command ≡ true
    → fault_of command words ≡ [] → HasMatchesOf command words matches → found_in command words ≡ Some (rows_of (found_of matches))
unfolding found_in
found_alone command words matches simple none has =
    let rows = (has (and_parts (is_simple command) (is_free_app (built command)) simple).0).0 in
    rw none (ap Some (sym rows))

-- words that are refused for another cause than memory have a fault
refused_alone : (command : App) (words : List Text) (error : Error) → HasKind (fault_of command words) error
    → (kind_of error ≡ OutOfMemory → ⊥) → found_in command words ≡ None
unfolding found_in
refused_alone command words error kinds other = by_kinds (fault_of command words) kinds
  where
    by_kinds : (kinds : Kinds) → HasKind kinds error → (if is_empty kinds then Some (matches_of command words) else None) ≡ None
    by_kinds kinds (inl memory) = absurd (other memory)
    by_kinds [] (inr among) = absurd among
    by_kinds (kind ∷ more) (inr among) = rw (ne_eqb (length (kind ∷ more)) 0 (λ e. omega (arith, e))) refl

simple_too : (app command : App) → app ≡ command → is_simple_and_free command ≡ true → is_simple_and_free app ≡ true
simple_too app command is simple = subst (λ a. is_simple_and_free a ≡ true) (sym is) simple

-- both of a command that was made of a table
pub found : (app command : App) (words : List Text) (matches : ArgMatches) → app ≡ command → is_simple_and_free command ≡ true
    → (is_simple_and_free app ≡ true → fault_of app words ≡ []) → HasMatchesOf app words matches
    → found_in command words ≡ Some (rows_of (found_of matches))
found app command words matches is simple none has =
    let simple_app = simple_too app command is simple in
    subst (λ a. found_in a words ≡ Some (rows_of (found_of matches))) is (found_alone app words matches simple_app (none simple_app) has)

pub refused : (app command : App) (words : List Text) (error : Error) → app ≡ command → is_simple_and_free command ≡ true
    → (is_simple_and_free app ≡ true → HasKind (fault_of app words) error) → (kind_of error ≡ OutOfMemory → ⊥) → found_in command words ≡ None
refused app command words error is simple kinds other =
    subst (λ a. found_in a words ≡ None) is (refused_alone app words error (kinds (simple_too app command is simple)) other)

-- a fault that is passed on: what is not found is not read
pub passed_on : {T A B : Type 0} (result : Result T WordsFault) (fault : WordsFault) (P : T → Type 0) (read : A → Option B) (found : Option A)
    → IsErrAnd result (λ f. f ≡ fault) → (fault ≡ Usage → found ≡ None)
    → MatchResult result P (λ f. f ≡ Usage → option_and_then read found ≡ None)
passed_on (Ok x) fault P read found is none = absurd is
passed_on (Err f) fault P read found is none = λ usage. rw (none (sym is ∙ usage)) refl
