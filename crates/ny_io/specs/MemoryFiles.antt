-- The files of a host in memory, by place.
use Rattle.std.specs.Prelude.{ℕ, Bool, nat_eq, List, [], map, slice_index_or, string_bytes}
use Rattle.std.specs.declared.string.String.{String}
use Rattle.std.specs.declared.vec.Vec.{Vec}
use Rattle.std.specs.Global.{Global}
use Rattle.std.specs.Cmp.Lexicographic.{pointwise}
use Rattle.ny_io.specs.Host.{Named}

-- a file as the program holds it: a text and a vector
abbrev pub Entry : Type 0
Entry = String Global × Vec ℕ Global

-- its name and its bytes
abbrev pub named : Entry → Named
named file = (string_bytes file.0, file.1.items)

-- the files as names and bytes
abbrev pub named_files : List Entry → List Named
named_files files = map named files

-- the file at a place, and a file with no name and no bytes past the end
abbrev pub file_at : List Named → ℕ → Named
file_at files place = slice_index_or files place ([], [])

-- the file has the name
abbrev pub is_named : List ℕ → Entry → Bool
is_named name file = pointwise nat_eq (string_bytes file.0) name
