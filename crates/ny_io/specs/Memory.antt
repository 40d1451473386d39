-- A host in memory: what it holds, when each call of it fails, and what each call makes of it.
use Rattle.std.specs.Prelude.{ℕ, ◌+◌, ◌-◌, min, Bool, not, ◌&&◌, ◌||◌, nat_eq, nat_lt, List, [], ◌∷◌, ◌++◌, length, drop, Some, None, is_some, option_map}
use Rattle.std.specs.declared.option.Option.{Option}
use Rattle.std.specs.List.{list_any}
use Rattle.std.specs.Cmp.Lexicographic.{pointwise}
use Rattle.ny_io.specs.Faults.{risen}
use Rattle.ny_io.specs.Host.{Named, HostState, bytes_under}

-- The calls of one kind: how many there were, and the numbers, from 1, of those that are to fail.
pub record Calls : Type 0 where
  pub made : ℕ
  pub failing : List ℕ

-- What a host in memory holds.
pub record Memory : Type 0 where
  -- the files that can be opened
  pub files : List Named
  -- the most bytes that one call moves
  pub step : ℕ
  -- the most bytes of the created file's name and content together, and the most bytes printed
  pub room : ℕ
  pub opens : Calls
  pub reads : Calls
  pub creates : Calls
  pub writes : Calls
  pub prints : Calls
  -- the faults so far, of all names together; those of writing and of printing together
  pub open_faults : ℕ
  pub read_faults : ℕ
  pub create_faults : ℕ
  pub write_faults : ℕ
  -- the open input's name, and what is left of it
  pub input : Option Named
  -- the created file
  pub created : Option Named
  pub printed : List ℕ

-- no call of this kind was made yet
abbrev pub no_calls : List ℕ → Calls
no_calls failing = record { made = 0; failing = failing }

-- one more call was made
abbrev pub counted : Calls → Calls
counted calls = record { made = risen calls.made; failing = calls.failing }

-- the number of the next call is listed
abbrev pub is_listed : Calls → Bool
is_listed calls = list_any (λ number. nat_eq number (risen calls.made)) calls.failing

-- one of the files has the name
abbrev pub has_name : List ℕ → List Named → Bool
has_name name files = list_any (λ file. pointwise nat_eq file.0 name) files

-- the name of a file that may not be there, and its bytes
abbrev pub name_of : Option Named → List ℕ
name_of None = []
name_of (Some file) = file.0

abbrev pub bytes_of : Option Named → List ℕ
bytes_of None = []
bytes_of (Some file) = file.1

-- the file, as a list of one or none
abbrev pub listed_file : Option Named → List Named
listed_file None = []
listed_file (Some file) = file ∷ []

-- The host tells all: its input has the number 0 and its output the number 1.
abbrev pub told : Memory → HostState
told memory = record {
  opens = λ name. memory.open_faults;
  reads = λ name. memory.read_faults;
  creates = λ name. memory.create_faults;
  writes = memory.write_faults;
  input = option_map (λ file. 0) memory.input;
  output = option_map (λ file. 1) memory.created;
  name = Some (name_of memory.input);
  files = Some memory.files;
  left = Some (bytes_of memory.input);
  created = Some (listed_file memory.created);
  printed = Some memory.printed;
}

-- the room that is left for the created file's bytes, and for printed bytes
abbrev pub room_to_write : Memory → ℕ
room_to_write memory =
    memory.room - (length (name_of memory.created) + length (bytes_of memory.created))

abbrev pub room_to_print : Memory → ℕ
room_to_print memory = memory.room - length memory.printed

-- An open fails where it is listed, or no file has the name.
abbrev pub open_fails : List ℕ → Memory → Bool
open_fails name memory = is_listed memory.opens || not (has_name name memory.files)

-- A read fails where it is listed.
abbrev pub read_fails : Memory → Bool
read_fails memory = is_listed memory.reads

-- A create fails where it is listed, a file was created already, or the name has no room.
abbrev pub create_fails : List ℕ → Memory → Bool
create_fails name memory =
    is_listed memory.creates || is_some memory.created || nat_lt memory.room (length name)

-- A write fails where it is listed, or a piece that is not empty finds no room for one byte.
abbrev pub write_fails : List ℕ → Memory → Bool
write_fails bytes memory =
    is_listed memory.writes || (nat_lt 0 (length bytes) && nat_eq (room_to_write memory) 0)

-- So does a print.
abbrev pub print_fails : List ℕ → Memory → Bool
print_fails bytes memory =
    is_listed memory.prints || (nat_lt 0 (length bytes) && nat_eq (room_to_print memory) 0)

-- how many bytes a read hands out, a write takes and a print takes
abbrev pub read_count : ℕ → Memory → ℕ
read_count size memory = min (min (length (bytes_of memory.input)) size) memory.step

abbrev pub write_count : ℕ → Memory → ℕ
write_count size memory = min (min size memory.step) (room_to_write memory)

abbrev pub print_count : ℕ → Memory → ℕ
print_count size memory = min (min size memory.step) (room_to_print memory)

-- A successful open makes the file of that name the input, from its first byte on.
abbrev pub after_open : List ℕ → Memory → Memory
after_open name memory = record memory {
  opens = counted memory.opens;
  input = Some (name, bytes_under name memory.files);
}

-- A successful read leaves that many bytes fewer of the input.
abbrev pub after_read : ℕ → Memory → Memory
after_read count memory = record memory {
  reads = counted memory.reads;
  input = option_map (λ file. (file.0, drop count file.1)) memory.input;
}

-- A successful create makes an empty file of that name.
abbrev pub after_create : List ℕ → Memory → Memory
after_create name memory = record memory {
  creates = counted memory.creates;
  created = Some (name, []);
}

-- A successful write appends the piece to the created file.
abbrev pub after_write : List ℕ → Memory → Memory
after_write piece memory = record memory {
  writes = counted memory.writes;
  created = option_map (λ file. (file.0, file.1 ++ piece)) memory.created;
}

-- A successful print appends the piece to what was printed.
abbrev pub after_print : List ℕ → Memory → Memory
after_print piece memory = record memory {
  prints = counted memory.prints;
  printed = memory.printed ++ piece;
}

-- A failed call is counted, and raises the count of its faults by one.
abbrev pub after_failed_open : Memory → Memory
after_failed_open memory = record memory {
  opens = counted memory.opens;
  open_faults = risen memory.open_faults;
}

abbrev pub after_failed_read : Memory → Memory
after_failed_read memory = record memory {
  reads = counted memory.reads;
  read_faults = risen memory.read_faults;
}

abbrev pub after_failed_create : Memory → Memory
after_failed_create memory = record memory {
  creates = counted memory.creates;
  create_faults = risen memory.create_faults;
}

abbrev pub after_failed_write : Memory → Memory
after_failed_write memory = record memory {
  writes = counted memory.writes;
  write_faults = risen memory.write_faults;
}

abbrev pub after_failed_print : Memory → Memory
after_failed_print memory = record memory {
  prints = counted memory.prints;
  write_faults = risen memory.write_faults;
}
