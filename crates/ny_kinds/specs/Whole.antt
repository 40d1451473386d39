-- The kinds of a whole text: those of its global values and of what it plays.
use Rattle.std.specs.Prelude.{◌≡◌, is_some, ℕ, ◌+◌, min, max, Bool, true, false, if◌then◌else◌, List, [], ◌∷◌, length, Option, Some, None}
use Rattle.ny_resolve.specs.declared.term.Part.{Part}
use Rattle.ny_resolve.specs.declared.term.Declared.{Declared}
use Rattle.ny_kinds.specs.declared.kind.Kind.{Kind}
use Rattle.ny_kinds.specs.declared.kind.Kind.TheVariants.{Sound, Channels}
use Rattle.ny_kinds.specs.declared.kind.Judgement.{Judgement}
use Rattle.ny_kinds.specs.declared.kind.Judgement.TheVariants.{Silent}
use Rattle.ny_kinds.specs.declared.kind.Found.{Found}
use Rattle.ny_kinds.specs.declared.kind.Unjudged.{Unjudged}
use Rattle.ny_kinds.specs.declared.kind.Unjudged.TheVariants as why
use Rattle.ny_kinds.specs.Rows.{given, is_number}
use Rattle.ny_kinds.specs.Kinds.{judged, least, kind_of, scope_of}

-- a global value is a number
abbrev pub value_row : Option Kind → Judgement
value_row None = Silent
value_row (Some k) = given (is_number k) k

abbrev pub is_playable : Kind → Bool
is_playable Sound = true
is_playable (Channels n) = true
is_playable _ = false

-- what is played is a sound, or several side by side
abbrev pub play_row : Option Kind → Judgement
play_row None = Silent
play_row (Some k) = given (is_playable k) k

-- a global value, in its declaration of number i among all
abbrev pub value_kind : List Declared → ℕ → Declared → Found
value_kind all i d = let f = kind_of d.body (scope_of [] all i) in judged d.body.at (value_row f.kind) f.fault

-- a refusal in a declaration of number i, if it is a global value: a function counts where it is called
abbrev pub value_fault : List Declared → ℕ → Declared → Option ℕ
value_fault all i d = if d.is_variable then (value_kind all i d).fault else None

-- the least place of a refusal in the global values of declarations from number i on
abbrev pub values_fault : List Declared → ℕ → List Declared → Option ℕ
values_fault all i [] = None
values_fault all i (d ∷ ds) = least (value_fault all i d) (values_fault all (i + 1) ds)

-- what is played, after all declarations
abbrev pub play_kind : List Declared → Option Part → Found
play_kind all None = record { kind = None; fault = None }
play_kind all (Some e) = let f = kind_of e (scope_of [] all (length all)) in judged e.at (play_row f.kind) f.fault

-- the kind of what a text plays, and the least place of a refusal in the text
unfoldable pub text_kind : List Declared → Option Part → Found
text_kind all play = let f = play_kind all play in record { kind = f.kind; fault = least (values_fault all 0 all) f.fault }

-- the kinds of a text are judged whole where no bound is given: then nothing but memory can be wanting
abbrev pub IsBound : Option ℕ → Unjudged → Type 0
IsBound most why.TooManyNodes = is_some most ≡ true
IsBound most why.OutOfMemory = Unit {0}

-- how many channels what is played has: an accepted text has no vector of none or of more than eight
abbrev pub channels_in : Option Kind → ℕ
channels_in (Some (Channels n)) = max 1 (min n 8)
channels_in _ = 1
