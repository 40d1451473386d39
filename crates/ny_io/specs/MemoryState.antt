-- What a `MemHost` holds, read from its fields.
use Rattle.std.specs.Prelude.{ℕ, List, [], drop, Some, None, option_map, if◌then◌else◌, string_bytes}
use Rattle.ny_io.specs.Host.{Named, HostState}
use Rattle.ny_io.specs.Memory.{Calls, no_calls, Memory, told}
use Rattle.ny_io.specs.MemoryFiles.{named_files, file_at}
use Rattle.ny_io.specs.declared.memory.Fails.{Fails}
use Rattle.ny_io.specs.declared.memory.Place.{Place}
use Rattle.ny_io.specs.declared.memory.Schedule.{Schedule}
use Rattle.ny_io.specs.declared.memory.MemHost.{MemHost}

-- the calls of one kind
abbrev pub calls_of : Schedule → Calls
calls_of schedule = record { made = schedule.made; failing = schedule.failing.items }

-- the name of the file at a place, and what is left of it
abbrev pub rest_at : Place → List Named → Named
rest_at place files = ((file_at files place.file).0, drop place.at (file_at files place.file).1)

-- all that the host holds
abbrev pub memory_of : MemHost → Memory
memory_of host = record {
  files = named_files host.files.items;
  step = host.step;
  room = host.room;
  opens = calls_of host.opens;
  reads = calls_of host.reads;
  creates = calls_of host.creates;
  writes = calls_of host.writes;
  prints = calls_of host.prints;
  open_faults = host.open_faults;
  read_faults = host.read_faults;
  create_faults = host.create_faults;
  write_faults = host.write_faults;
  input = option_map (λ place. rest_at place (named_files host.files.items)) host.input;
  created = if host.is_created then Some (string_bytes host.name, host.bytes.items) else None;
  printed = host.printed.items;
}

-- what the host is known by
abbrev pub state_of : MemHost → HostState
state_of host = told (memory_of host)

-- what a host holds before any call: its files, and nothing else
abbrev pub new_memory : List Named → ℕ → Fails → ℕ → Memory
new_memory files step fails room = record {
  files = files;
  step = step;
  room = room;
  opens = no_calls fails.opens.items;
  reads = no_calls fails.reads.items;
  creates = no_calls fails.creates.items;
  writes = no_calls fails.writes.items;
  prints = no_calls fails.prints.items;
  open_faults = 0;
  read_faults = 0;
  create_faults = 0;
  write_faults = 0;
  input = None;
  created = None;
  printed = [];
}
