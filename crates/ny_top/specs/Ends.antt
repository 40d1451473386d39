-- What stands at the end of a run, whatever failed.
use Rattle.std.specs.Prelude.{ℕ, ◌≡◌, ◌≤◌, ◌+◌, ◌*◌, ◌-◌, ◌^◌, ◌⊎◌, List, [], take, length, min, IfSome, IsSomeAnd, None, Some, Bool, true, false}
use Rattle.std.specs.declared.option.Option.{Option}
use Rattle.std.specs.Io.KnownBytes.{append_known}
use Rattle.ny_io.specs.Faults.{Rose}
use Rattle.ny_io.specs.Host.{Named, HostState, SameOutput, added, bytes_under}
use Rattle.ny_syntax.specs.declared.tree.Tree.{Tree}
use Rattle.ny_pull.specs.Engine.{EngineState}
use Rattle.ny_check.specs.Code.{Code}
use Rattle.ny_check.specs.Acceptance.{program_in}
use Rattle.ny_top.specs.Channel.{file_of, first_frames}
use Rattle.ny_top.specs.Playing.{IsPoolFull, IsShortAfter}
use Rattle.ny_top.specs.Reading.{IsAccepted}
use Rattle.ny_words.specs.Commands.{Render, Task, Command, render, check}
use Rattle.ny_top.specs.Outcome.{Outcome, most, usage_line, open_line, read_line, create_line, write_line, HasTextOutcome}
use Rattle.ny_top.specs.declared.status.Status.{Status}
use Rattle.ny_top.specs.declared.status.Status.TheVariants.{Ok, Usage, OpenFault, ReadFault, WriteFault, Refused, PoolFull, OutOfMemory}

-- the count is at least two greater, or stands at its greatest value
abbrev pub RoseTwice : ℕ → ℕ → Type 0
RoseTwice before now = min (before + 2) (2 ^ 64 - 1) ≤ now

-- the created files with an outcome's file, or as they were
abbrev pub made : Option Named → Option (List Named) → Option (List Named)
made None files = files
made (Some file) files = added file files

-- the run ended with the outcome's status, file and printed bytes
abbrev pub IsOutcome : Outcome → Status → HostState → HostState → Type 0
IsOutcome o status old new =
    (status ≡ o.status) × (new.created ≡ made o.file old.created) × (new.printed ≡ append_known old.printed o.printed)

-- a status that no fault brings and no want of memory
abbrev pub is_whole : Status → Bool
is_whole Ok = true
is_whole Usage = true
is_whole Refused = true
is_whole PoolFull = true
is_whole OpenFault = false
is_whole ReadFault = false
is_whole WriteFault = false
is_whole OutOfMemory = false

-- a status that no failed call brings
abbrev pub is_unfailed : Status → Bool
is_unfailed OutOfMemory = true
is_unfailed Ok = true
is_unfailed Usage = true
is_unfailed Refused = true
is_unfailed PoolFull = true
is_unfailed OpenFault = false
is_unfailed ReadFault = false
is_unfailed WriteFault = false

-- a status that stands before an output is created (want of memory may stand after it: `CutsShort`)
abbrev pub is_early : Status → Bool
is_early Usage = true
is_early OpenFault = true
is_early ReadFault = true
is_early Refused = true
is_early OutOfMemory = false
is_early Ok = false
is_early WriteFault = false
is_early PoolFull = false

-- the line of a failed write was tried once: it was printed, or a first part of it was and the count rose again
abbrev pub FaultPart : HostState → HostState → Type 0
FaultPart old new =
    (new.printed ≡ append_known old.printed write_line)
    ⊎ (Rose old.writes new.writes × ((count : ℕ) × (new.printed ≡ append_known old.printed (take count write_line))))

-- A first part of a line was printed, and then the line of a failed write: whole, or a first part of it where the count
-- rose twice.
abbrev pub FaultTold : List ℕ → HostState → HostState → Type 0
FaultTold line old new =
    (first : ℕ) ×
    (let known = append_known old.printed (take first line) in
    (new.printed ≡ append_known known write_line)
    ⊎ (RoseTwice old.writes new.writes × ((count : ℕ) × (new.printed ≡ append_known known (take count write_line)))))

-- nothing was created, or one file with a first part of these bytes
abbrev pub MadePart : List ℕ → List ℕ → HostState → HostState → Type 0
MadePart to bytes old new =
    (new.created ≡ old.created) ⊎ ((count : ℕ) × (new.created ≡ added (to, take count bytes) old.created))

-- nothing was created; or, to render a tree, one file with a first part of the bytes of the tree's file
abbrev pub MadeTree : Task → Tree → HostState → HostState → Type 0
MadeTree check tree old new = new.created ≡ old.created
MadeTree (render r) tree old new =
    (new.created ≡ old.created)
    ⊎ ((code : Code) × (program_in tree ≡ Some code) × MadePart r.to (file_of r.rate code) old new)

-- the same of the tree that a text has, if it is accepted
abbrev pub MadeText : Task → List ℕ → HostState → HostState → Type 0
MadeText task text old new =
    (new.created ≡ old.created) ⊎ ((tree : Tree) × IsAccepted text tree × MadeTree task tree old new)

-- the same of the text under the input's name
abbrev pub Makes : Command → HostState → HostState → Type 0
Makes command old new =
    (new.created ≡ old.created)
    ⊎ ((text : List ℕ) × IfSome old.files (λ files. text ≡ bytes_under command.from files) × MadeText command.task text old new)

-- Memory was missing for a part of the piece that fell due. The engine that is left has played so many whole rounds, and the created file
-- holds the header of the whole file and their frames.
abbrev pub CutsFile : Render → Code → EngineState → HostState → HostState → Type 0
CutsFile r code e old new =
    (rounds : ℕ) × IsShortAfter r code rounds e × (new.created ≡ added (r.to, first_frames r.rate code (rounds * r.block)) old.created)

-- memory was missing before an output was created, or for a part of the tree that was played
abbrev pub CutsTree : Task → Tree → Option EngineState → HostState → HostState → Type 0
CutsTree check tree left old new = SameOutput old new
CutsTree (render r) tree left old new =
    SameOutput old new
    ⊎ ((code : Code) × (program_in tree ≡ Some code) × ((e : EngineState) × (left ≡ Some e) × CutsFile r code e old new))

-- the same of the tree that a text has, if it is accepted
abbrev pub CutsText : Task → List ℕ → Option EngineState → HostState → HostState → Type 0
CutsText task text left old new =
    SameOutput old new ⊎ ((tree : Tree) × IsAccepted text tree × CutsTree task tree left old new)

-- the same of the text under the input's name
abbrev pub CutsShort : Command → Option EngineState → HostState → HostState → Type 0
CutsShort command left old new =
    SameOutput old new
    ⊎ ((text : List ℕ) × IfSome old.files (λ files. text ≡ bytes_under command.from files) × CutsText command.task text left old new)

-- the same of the words: where they are no command, nothing is created
abbrev pub RunCutsShort : Option Command → Option EngineState → HostState → HostState → Type 0
RunCutsShort None left old new = SameOutput old new
RunCutsShort (Some command) left old new = CutsShort command left old new

-- the text is accepted
abbrev pub HasPiece : List ℕ → Type 0
HasPiece text = (length text ≤ most) × ((tree : Tree) × IsAccepted text tree)

-- the output could not be created, and its whole line was printed
abbrev pub CreateCause : Task → HostState → HostState → Type 0
CreateCause check old new = ⊥
CreateCause (render r) old new = Rose (old.creates r.to) (new.creates r.to) × (new.printed ≡ append_known old.printed (create_line r.to))

-- the output could not be created, and its line was begun
abbrev pub CreateTold : Task → HostState → HostState → Type 0
CreateTold check old new = ⊥
CreateTold (render r) old new = Rose (old.creates r.to) (new.creates r.to) × FaultTold (create_line r.to) old new

-- the run ended as one of these outcomes
abbrev pub EndsAs : (Outcome → Type 0) → Status → HostState → HostState → Type 0
EndsAs Has status old new = (o : Outcome) × Has o × IsOutcome o status old new

-- a first part of what one of these outcomes prints was printed, and then the line of a failed write
abbrev pub ToldAs : (Outcome → Type 0) → HostState → HostState → Type 0
ToldAs Has old new = (o : Outcome) × Has o × FaultTold o.printed old new

-- What is printed where a write failed: nothing, a first part of the outcome's bytes, or of the line of another fault,
-- and then the line of the write.
abbrev pub WriteTold : Command → Option EngineState → HostState → HostState → Type 0
WriteTold command left old new =
    FaultTold [] old new
    ⊎ IfSome old.files (λ files. ToldAs (HasTextOutcome command.task (bytes_under command.from files) left) old new)
    ⊎ (Rose (old.opens command.from) (new.opens command.from) × FaultTold (open_line command.from) old new)
    ⊎ (Rose (old.reads command.from) (new.reads command.from) × FaultTold (read_line command.from) old new)
    ⊎ CreateTold command.task old new

-- The input can't be opened; or the output can't be created, which is tried for an accepted text alone. The count
-- rose, and the whole line was printed.
abbrev pub OpenCause : Command → HostState → HostState → Type 0
OpenCause command old new =
    (Rose (old.opens command.from) (new.opens command.from) × (new.printed ≡ append_known old.printed (open_line command.from)))
    ⊎ (CreateCause command.task old new × IfSome old.files (λ files. HasPiece (bytes_under command.from files)))

-- The input can't be read: the count rose, and the whole line was printed.
abbrev pub ReadCause : Command → HostState → HostState → Type 0
ReadCause command old new =
    Rose (old.reads command.from) (new.reads command.from) × (new.printed ≡ append_known old.printed (read_line command.from))

-- no fault was counted where a command creates its output
abbrev pub NoCreateRose : Task → HostState → HostState → Type 0
NoCreateRose check old new = Unit {0}
NoCreateRose (render r) old new = Rose (old.creates r.to) (new.creates r.to) → ⊥

-- no fault was counted at a write, nor at the names of a command
abbrev pub NoneRose : Option Command → HostState → HostState → Type 0
NoneRose None old new = Rose old.writes new.writes → ⊥
NoneRose (Some command) old new =
    (Rose (old.opens command.from) (new.opens command.from) → ⊥)
    × (Rose (old.reads command.from) (new.reads command.from) → ⊥)
    × NoCreateRose command.task old new
    × (Rose old.writes new.writes → ⊥)

-- what is printed where a write failed, also where the words are no command
abbrev pub RunWriteTold : Option Command → Option EngineState → HostState → HostState → Type 0
RunWriteTold None left old new = FaultTold usage_line old new
RunWriteTold (Some command) left old new = WriteTold command left old new

-- a file is made only for a command
abbrev pub RunMakes : Option Command → HostState → HostState → Type 0
RunMakes None old new = new.created ≡ old.created
RunMakes (Some command) old new = Makes command old new

-- the pool of the engine that a task leaves is full
abbrev pub TaskPoolFull : Task → Option EngineState → Type 0
TaskPoolFull check left = ⊥
TaskPoolFull (render r) left = IsSomeAnd left (λ e. IsPoolFull r e)
