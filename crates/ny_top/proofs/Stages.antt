-- What a stage of a run says of the states round it, by what the next stage says.
use Rattle.std.proofs.Common.{◌≡◌, ℕ, ◌*◌, ◌≤◌, ◌<◌, ◌⊎◌, List, [], length, take, refl, sym, subst, ap, ◌∙◌, arith, None, Some, IfSome, inl, inr}
use Rattle.std.specs.declared.option.Option.{Option}
use Rattle.std.specs.Io.KnownBytes.{append_known}
use Rattle.ny_io.specs.Faults.{Rose}
use Rattle.ny_io.specs.Host.{HostState, Named, NoneFell, SameCounts, SameOutput, bytes_under, added}
use Rattle.ny_syntax.specs.declared.tree.Tree.{Tree}
use Rattle.ny_check.specs.Code.{Code}
use Rattle.ny_pull.specs.Engine.{EngineState}
use Rattle.ny_top.specs.Channel.{file_of, first_frames}
use Rattle.ny_top.specs.declared.status.Status.{Status}
use Rattle.ny_words.specs.Commands.{Render, Task, Command, render, check}
use Rattle.ny_words.specs.Words.{read_words}
use Rattle.ny_top.specs.Outcome.{Outcome, most, refused, too_long_line, create_line, usage_outcome, HasReadOutcome, HasTextOutcome, HasCommandOutcome, HasOutcome}
use Rattle.ny_top.specs.Ends.{made, IsOutcome, EndsAs, ToldAs, FaultTold, WriteTold, CreateCause, CreateTold, OpenCause, HasPiece, MadePart, MadeTree, MadeText, Makes, CutsFile, CutsTree, CutsText, CutsShort}
use Rattle.ny_top.proofs.FaultLines.{told_from}

pub quiet_none : (old : HostState) → SameCounts old old
quiet_none old = record { opens = λ name. refl; reads = λ name. refl; creates = λ name. refl; writes = refl }

pub quiet_then : (old mid new : HostState) → SameCounts old mid → SameCounts mid new → SameCounts old new
quiet_then old mid new first second = record {
  opens = λ name. second.opens name ∙ first.opens name;
  reads = λ name. second.reads name ∙ first.reads name;
  creates = λ name. second.creates name ∙ first.creates name;
  writes = second.writes ∙ first.writes;
}

pub output_then : (old mid new : HostState) → SameOutput old mid → SameOutput mid new → SameOutput old new
output_then old mid new first second = record { output = second.output ∙ first.output; created = second.created ∙ first.created }

-- Between two states a text was read, and nothing was created or printed.
pub record Untouched (old mid : HostState) : Type 0 where
  pub counts : NoneFell old mid
  pub created : mid.created ≡ old.created
  pub printed : mid.printed ≡ old.printed

-- the bytes that were handed on are those that were read
pub handed_on : (files : Option (List Named)) (from read text : List ℕ) → text ≡ read → IfSome files (λ files. read ≡ bytes_under from files)
    → IfSome files (λ files. text ≡ bytes_under from files)
handed_on files from read text is whole =
    let P : List ℕ → Type 0 = λ bytes. IfSome files (λ files. bytes ≡ bytes_under from files) in subst P (sym is) whole

outcome_from : (o : Outcome) (status : Status) (old mid new : HostState) → Untouched old mid → IsOutcome o status mid new → IsOutcome o status old new
outcome_from o status old mid new same ended =
    (ended.0, ended.1 ∙ ap (made o.file) same.created, ended.2 ∙ ap (λ known. append_known known o.printed) same.printed)

-- a text that was read whole ends as its outcome says
pub ends_read : (task : Task) (from text : List ℕ) (left : Option EngineState) (status : Status) (old mid new : HostState) → Untouched old mid
    → IfSome old.files (λ files. text ≡ bytes_under from files) → length text ≤ most → EndsAs (HasReadOutcome task text left) status mid new
    → IfSome old.files (λ files. EndsAs (HasTextOutcome task (bytes_under from files) left) status old new)
ends_read task from text left status old mid new same whole short ended = by_files old.files whole
  where
    by_files : (files : Option (List Named)) → IfSome files (λ files. text ≡ bytes_under from files)
        → IfSome files (λ files. EndsAs (HasTextOutcome task (bytes_under from files) left) status old new)
    by_files None is = tt
    by_files (Some files) is =
        let P : List ℕ → Type 0 = λ bytes. EndsAs (HasTextOutcome task bytes left) status old new in
        subst P is (ended.0, inr (short, ended.1), outcome_from ended.0 status old mid new same ended.2)

pub rose_from : (before mid now : ℕ) → before ≤ mid → Rose mid now → Rose before now
rose_from before mid now later rose = omega (arith, later, rose)

create_from : (task : Task) (old mid new : HostState) → Untouched old mid → CreateTold task mid new → CreateTold task old new
create_from check old mid new same told = told
create_from (render r) old mid new same told = (
  rose_from (old.creates r.to) (mid.creates r.to) (new.creates r.to) (same.counts.creates r.to) told.0,
  told_from (create_line r.to) old mid new same.counts.writes same.printed told.1,
)

create_cause_from : (task : Task) (old mid new : HostState) → Untouched old mid → CreateCause task mid new → CreateCause task old new
create_cause_from check old mid new same cause = cause
create_cause_from (render r) old mid new same cause = (
  rose_from (old.creates r.to) (mid.creates r.to) (new.creates r.to) (same.counts.creates r.to) cause.0,
  cause.1 ∙ ap (λ known. append_known known (create_line r.to)) same.printed,
)

piece_read : (files : Option (List Named)) (from text : List ℕ) → IfSome files (λ files. text ≡ bytes_under from files) → HasPiece text
    → IfSome files (λ files. HasPiece (bytes_under from files))
piece_read None from text whole piece = tt
piece_read (Some files) from text whole piece = subst HasPiece whole piece

-- the output of a text that was read could not be created
pub not_created : (command : Command) (text : List ℕ) (old mid new : HostState) → Untouched old mid
    → IfSome old.files (λ files. text ≡ bytes_under command.from files) → CreateCause command.task mid new → HasPiece text → OpenCause command old new
not_created command text old mid new same whole cause piece =
    inr (create_cause_from command.task old mid new same cause, piece_read old.files command.from text whole piece)

told_read : (task : Task) (from text : List ℕ) (left : Option EngineState) (old mid new : HostState) → Untouched old mid
    → IfSome old.files (λ files. text ≡ bytes_under from files) → length text ≤ most → ToldAs (HasReadOutcome task text left) mid new
    → IfSome old.files (λ files. ToldAs (HasTextOutcome task (bytes_under from files) left) old new)
told_read task from text left old mid new same whole short told = by_files old.files whole
  where
    by_files : (files : Option (List Named)) → IfSome files (λ files. text ≡ bytes_under from files)
        → IfSome files (λ files. ToldAs (HasTextOutcome task (bytes_under from files) left) old new)
    by_files None is = tt
    by_files (Some files) is =
        let P : List ℕ → Type 0 = λ bytes. ToldAs (HasTextOutcome task bytes left) old new in
        subst P is (told.0, inr (short, told.1), told_from told.0.printed old mid new same.counts.writes same.printed told.2)

-- where a write failed after a text was read
pub write_told : (command : Command) (text : List ℕ) (left : Option EngineState) (old mid new : HostState) → Untouched old mid
    → IfSome old.files (λ files. text ≡ bytes_under command.from files) → length text ≤ most
    → FaultTold [] mid new ⊎ ToldAs (HasReadOutcome command.task text left) mid new ⊎ CreateTold command.task mid new → WriteTold command left old new
write_told command text left old mid new same whole short (inl told) = inl (told_from [] old mid new same.counts.writes same.printed told)
write_told command text left old mid new same whole short (inr (inl told)) = inr (inl (told_read command.task command.from text left old mid new same whole short told))
write_told command text left old mid new same whole short (inr (inr told)) = inr (inr (inr (inr (create_from command.task old mid new same told))))

made_from : (to bytes : List ℕ) (old mid new : HostState) → mid.created ≡ old.created → MadePart to bytes mid new → MadePart to bytes old new
made_from to bytes old mid new same (inl made) = inl (made ∙ same)
made_from to bytes old mid new same (inr made) = inr (made.0, made.1 ∙ ap (added (to, take made.0 bytes)) same)

made_tree : (task : Task) (tree : Tree) (old mid new : HostState) → mid.created ≡ old.created → MadeTree task tree mid new → MadeTree task tree old new
made_tree check tree old mid new same made = made ∙ same
made_tree (render r) tree old mid new same (inl made) = inl (made ∙ same)
made_tree (render r) tree old mid new same (inr made) = inr (made.0, made.1, made_from r.to (file_of r.rate made.0) old mid new same made.2)

-- what is made of a text that was read
pub makes_read : (command : Command) (text : List ℕ) (old mid new : HostState) → Untouched old mid
    → IfSome old.files (λ files. text ≡ bytes_under command.from files) → MadeText command.task text mid new → Makes command old new
makes_read command text old mid new same whole (inl made) = inl (made ∙ same.created)
makes_read command text old mid new same whole (inr made) =
    inr (text, whole, inr (made.0, made.1, made_tree command.task made.0 old mid new same.created made.2))

cuts_file : (r : Render) (code : Code) (e : EngineState) (old mid new : HostState) → mid.created ≡ old.created → CutsFile r code e mid new → CutsFile r code e old new
cuts_file r code e old mid new same cut = (cut.0, cut.1, cut.2 ∙ ap (added (r.to, first_frames r.rate code (cut.0 * r.block))) same)

cuts_tree : (task : Task) (tree : Tree) (left : Option EngineState) (old mid new : HostState) → SameOutput old mid → CutsTree task tree left mid new → CutsTree task tree left old new
cuts_tree check tree left old mid new same cut = output_then old mid new same cut
cuts_tree (render r) tree left old mid new same (inl cut) = inl (output_then old mid new same cut)
cuts_tree (render r) tree left old mid new same (inr cut) = inr (cut.0, cut.1, (cut.2.0, cut.2.1, cuts_file r cut.0 cut.2.0 old mid new same.created cut.2.2))

-- memory was missing for a text that was read
pub cuts_read : (command : Command) (text : List ℕ) (left : Option EngineState) (old mid new : HostState) → SameOutput old mid
    → IfSome old.files (λ files. text ≡ bytes_under command.from files) → CutsText command.task text left mid new → CutsShort command left old new
cuts_read command text left old mid new same whole (inl cut) = inl (output_then old mid new same cut)
cuts_read command text left old mid new same whole (inr cut) =
    inr (text, whole, inr (cut.0, cut.1, cuts_tree command.task cut.0 left old mid new same cut.2))

-- a file that is too long is refused, once its line was printed
pub too_long_ends : (task : Task) (from : List ℕ) (left : Option EngineState) (status : Status) (old new : HostState) → left ≡ None
    → IfSome old.files (λ files. most < length (bytes_under from files)) → IsOutcome (refused too_long_line) status old new
    → IfSome old.files (λ files. EndsAs (HasTextOutcome task (bytes_under from files) left) status old new)
too_long_ends task from left status old new none long ended = by_files old.files long
  where
    by_files : (files : Option (List Named)) → IfSome files (λ files. most < length (bytes_under from files))
        → IfSome files (λ files. EndsAs (HasTextOutcome task (bytes_under from files) left) status old new)
    by_files None long = tt
    by_files (Some files) long = (refused too_long_line, inl (long, none, refl), ended)

-- or its line was begun
pub too_long_told : (task : Task) (from : List ℕ) (left : Option EngineState) (old new : HostState) → left ≡ None
    → IfSome old.files (λ files. most < length (bytes_under from files)) → FaultTold too_long_line old new
    → IfSome old.files (λ files. ToldAs (HasTextOutcome task (bytes_under from files) left) old new)
too_long_told task from left old new none long told = by_files old.files long
  where
    by_files : (files : Option (List Named)) → IfSome files (λ files. most < length (bytes_under from files))
        → IfSome files (λ files. ToldAs (HasTextOutcome task (bytes_under from files) left) old new)
    by_files None long = tt
    by_files (Some files) long = (refused too_long_line, inl (long, none, refl), told)

-- words that are no command end with the line of usage
pub usage_ends : (words : List (List ℕ)) (left : Option EngineState) (status : Status) (old new : HostState) → read_words words ≡ None → left ≡ None → IsOutcome usage_outcome status old new
    → IfSome old.files (λ files. EndsAs (HasOutcome words files left) status old new)
usage_ends words left status old new none left_none ended = by_files old.files
  where
    by_files : (files : Option (List Named)) → IfSome files (λ files. EndsAs (HasOutcome words files left) status old new)
    by_files None = tt
    by_files (Some files) =
        let P : Option Command → Type 0 = λ command. EndsAs (HasCommandOutcome command files left) status old new in
        subst P (sym none) (usage_outcome, (left_none, refl), ended)
