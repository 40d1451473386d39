-- What a `NeverFail` is known by, read from its fields.
use Rattle.std.specs.Prelude.{ℕ, List, [], drop, Some, None, option_map, if◌then◌else◌}
use Rattle.std.specs.declared.option.Option.{Option}
use Rattle.ny_io.specs.Host.{Named, HostState}
use Rattle.ny_io.specs.MemoryFiles.{named_files, file_at}
use Rattle.ny_io.specs.declared.memory.Place.{Place}
use Rattle.ny_io.specs.declared.never_fail.NeverFail.{NeverFail}

-- what is left of the file at a place
abbrev pub left_at : Option Place → List Named → List ℕ
left_at None files = []
left_at (Some place) files = drop place.at (file_at files place.file).1

-- a host over these files without any fault, by its open files and what is left of its input; it tells nothing of what
-- was created or printed
abbrev pub faultless : List Named → Option ℕ → Option ℕ → List ℕ → HostState
faultless files input output left = record {
  opens = λ name. 0;
  reads = λ name. 0;
  creates = λ name. 0;
  writes = 0;
  input = input;
  output = output;
  name = None;
  files = Some files;
  left = Some left;
  created = None;
  printed = None;
}

-- such a host before any call
abbrev pub unopened : List Named → HostState
unopened files = faultless files None None []

abbrev pub files_of : NeverFail → List Named
files_of host = named_files host.files.items

-- what the host is known by
abbrev pub state_of : NeverFail → HostState
state_of host =
    faultless (files_of host) (option_map (λ place. 0) host.input) (if host.is_created then Some 1 else None)
    (left_at host.input (files_of host))
