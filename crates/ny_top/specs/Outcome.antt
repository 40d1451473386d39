-- What a run does over a host that never fails.
use Rattle.std.specs.Prelude.{◌≡◌, ◌≢◌, ℕ, ◌*◌, ◌≤◌, ◌<◌, ◌⊎◌, List, [], ◌∷◌, ◌++◌, length, sum, Some, None, codes}
use Rattle.std.specs.declared.option.Option.{Option}
use Rattle.ny_io.specs.Host.{Named, bytes_under}
use Rattle.ny_syntax.specs.declared.tree.Tree.{Tree}
use Rattle.ny_syntax.specs.Canonical.{canonical_text}
use Rattle.ny_top.specs.declared.reading.Refusal.{Refusal}
use Rattle.ny_top.specs.Reading.{IsAccepted, IsRefusal, refusal_text}
use Rattle.ny_report.specs.Lines.{full_line_of}
use Rattle.ny_check.specs.Code.{Code}
use Rattle.ny_check.specs.Acceptance.{program_in}
use Rattle.ny_pull.specs.Engine.{EngineState}
use Rattle.ny_top.specs.Channel.{file_of, first_frames}
use Rattle.ny_top.specs.Playing.{HasPlayed, IsFullAfter}
use Rattle.ny_words.specs.Commands.{Render, Task, Command, render, check}
use Rattle.ny_words.specs.Words.{read_words}
use Rattle.ny_top.specs.declared.status.Status.{Status}
use Rattle.ny_top.specs.declared.status.Status.TheVariants.{Ok, Usage, OpenFault, ReadFault, WriteFault, Refused, PoolFull, OutOfMemory}

-- the exit code of each status
abbrev pub code_of : Status → ℕ
code_of Ok = 0
code_of Usage = 2
code_of OpenFault = 3
code_of ReadFault = 4
code_of WriteFault = 5
code_of Refused = 6
code_of PoolFull = 8
code_of OutOfMemory = 9

-- the most bytes of a text
abbrev pub most : ℕ
most = 1048576

-- each line ends with a line feed
abbrev pub line_end : List ℕ
line_end = 10 ∷ []

abbrev pub usage_line : List ℕ
usage_line = codes "fault: usage" ++ line_end

abbrev pub too_long_line : List ℕ
too_long_line = codes "refused: too long" ++ line_end

abbrev pub write_line : List ℕ
write_line = codes "fault: write" ++ line_end

abbrev pub open_line : List ℕ → List ℕ
open_line name = codes "fault: open " ++ name ++ line_end

abbrev pub read_line : List ℕ → List ℕ
read_line name = codes "fault: read " ++ name ++ line_end

abbrev pub create_line : List ℕ → List ℕ
create_line name = codes "fault: create " ++ name ++ line_end

-- how a run ends: its status, the file that it creates, if any, and what it prints
pub record Outcome : Type 0 where
  pub status : Status
  pub file : Option Named
  pub printed : List ℕ

-- a refusal, with its line
abbrev pub refused : List ℕ → Outcome
refused line = record { status = Refused; file = None; printed = line }

-- the whole file, and nothing printed
abbrev pub played : Render → Code → Outcome
played r code = record { status = Ok; file = Some (r.to, file_of r.rate code); printed = [] }

-- the header of the whole file, the frames of so many rounds, and the line of a full pool after so many pulls
abbrev pub full : Render → Code → ℕ → ℕ → Outcome
full r code rounds pulls =
    record { status = PoolFull; file = Some (r.to, first_frames r.rate code (rounds * r.block)); printed = full_line_of pulls }

-- the outcome for a program and the engine that is left, which tells whether it was played to the end. Where the pool was full, its line
-- counts the pulls of all channels, and the frames of the round in which it was full are not written
abbrev pub HasPlayOutcome : Render → Code → EngineState → Outcome → Type 0
HasPlayOutcome r code e o =
    (HasPlayed r code e × (o ≡ played r code)) ⊎ ((rounds : ℕ) × IsFullAfter r code rounds e × (o ≡ full r code rounds (sum e.pulled)))

-- the outcome for a program and the engine that is left
abbrev pub HasProgramOutcome : Render → Option Code → Option EngineState → Outcome → Type 0
HasProgramOutcome r None left o = ⊥
HasProgramOutcome r (Some code) None o = ⊥
HasProgramOutcome r (Some code) (Some e) o = HasPlayOutcome r code e o

-- the canonical text, and no file
abbrev pub checked : Tree → Outcome
checked tree = record { status = Ok; file = None; printed = canonical_text tree }

-- the outcome for an accepted tree
abbrev pub HasTreeOutcome : Task → Tree → Option EngineState → Outcome → Type 0
HasTreeOutcome (render r) tree left o = HasProgramOutcome r (program_in tree) left o
HasTreeOutcome check tree left o = (left ≡ None) × (o ≡ checked tree)

-- the outcome for a text that is not too long: that of its tree, where it is accepted, or its refusal
abbrev pub HasReadOutcome : Task → List ℕ → Option EngineState → Outcome → Type 0
HasReadOutcome task text left o =
    ((refusal : Refusal) × IsRefusal text refusal × (left ≡ None) × (o ≡ refused (refusal_text refusal)))
    ⊎ ((tree : Tree) × IsAccepted text tree × HasTreeOutcome task tree left o)

-- the outcome for a text
abbrev pub HasTextOutcome : Task → List ℕ → Option EngineState → Outcome → Type 0
HasTextOutcome task text left o =
    ((most < length text) × (left ≡ None) × (o ≡ refused too_long_line)) ⊎ ((length text ≤ most) × HasReadOutcome task text left o)

-- the outcome where the words are no command
abbrev pub usage_outcome : Outcome
usage_outcome = record { status = Usage; file = None; printed = usage_line }

-- the outcome for a command, over files
abbrev pub HasCommandOutcome : Option Command → List Named → Option EngineState → Outcome → Type 0
HasCommandOutcome None files left o = (left ≡ None) × (o ≡ usage_outcome)
HasCommandOutcome (Some command) files left o = HasTextOutcome command.task (bytes_under command.from files) left o

-- the outcome for words, over files, where this engine is left
abbrev pub HasOutcome : List (List ℕ) → List Named → Option EngineState → Outcome → Type 0
HasOutcome words files left o = HasCommandOutcome (read_words words) files left o

-- the text of the command is refused
abbrev pub IsRefused : Option Command → List Named → Type 0
IsRefused command files = (o : Outcome) × HasCommandOutcome command files None o × (o.status ≡ Refused)

-- no refusal applies: the words are a command, and its text is not refused
abbrev pub IsUnrefused : Option Command → List Named → Type 0
IsUnrefused command files = (command ≢ None) × (IsRefused command files → ⊥)
