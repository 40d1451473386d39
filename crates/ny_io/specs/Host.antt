-- What a host is known by, and how a call changes it.
use Rattle.std.specs.Prelude.{ℕ, ◌≡◌, ◌≤◌, List, [], ◌∷◌, ◌++◌, is_some, IfSome, None, if◌then◌else◌, nat_eq, option_map}
use Rattle.std.specs.declared.option.Option.{Option}
use Rattle.std.specs.Cmp.Lexicographic.{pointwise}

-- a name, and the bytes under it
abbrev pub Named : Type 0
Named = List ℕ × List ℕ

-- A host's counts of faults, the numbers of its open files, and what it tells of their content.
-- An option that is none stands for something that the host doesn't tell.
pub record HostState : Type 0 where
  -- the faults of opening, reading and creating, each by the file's name
  pub opens : List ℕ → ℕ
  pub reads : List ℕ → ℕ
  pub creates : List ℕ → ℕ
  -- the faults of writing and printing
  pub writes : ℕ
  -- the number of the open input, and of the open output; none where there is no such file
  pub input : Option ℕ
  pub output : Option ℕ
  -- the name by which the input was opened
  pub name : Option (List ℕ)
  -- the files that can be opened; of several with one name the first counts
  pub files : Option (List Named)
  -- what is left of the open input
  pub left : Option (List ℕ)
  -- the created files, the newest first
  pub created : Option (List Named)
  -- all that was printed
  pub printed : Option (List ℕ)

-- no count of faults fell
pub record NoneFell (old new : HostState) : Type 0 where
  pub opens : (name : List ℕ) → old.opens name ≤ new.opens name
  pub reads : (name : List ℕ) → old.reads name ≤ new.reads name
  pub creates : (name : List ℕ) → old.creates name ≤ new.creates name
  pub writes : old.writes ≤ new.writes

-- no count of faults changed
pub record SameCounts (old new : HostState) : Type 0 where
  pub opens : (name : List ℕ) → new.opens name ≡ old.opens name
  pub reads : (name : List ℕ) → new.reads name ≡ old.reads name
  pub creates : (name : List ℕ) → new.creates name ≡ old.creates name
  pub writes : new.writes ≡ old.writes

-- the input is the same, and the same is told of it
pub record SameInput (old new : HostState) : Type 0 where
  pub input : new.input ≡ old.input
  pub name : new.name ≡ old.name
  pub left : new.left ≡ old.left

-- the output is the same, and the same is told of the created files
pub record SameOutput (old new : HostState) : Type 0 where
  pub output : new.output ≡ old.output
  pub created : new.created ≡ old.created

-- a value is told exactly where it was told before
abbrev pub IsToldAlike : {A : Type 0} → Option A → Option A → Type 0
IsToldAlike old new = is_some new ≡ is_some old

-- the input may have been opened by this name: it was, or the host doesn't tell
abbrev pub MayBe : List ℕ → Option (List ℕ) → Type 0
MayBe name told = IfSome told (λ known. known ≡ name)

-- the bytes of the first file of that name, and no bytes where there is none
abbrev pub bytes_under : List ℕ → List Named → List ℕ
bytes_under name [] = []
bytes_under name (file ∷ files) = if pointwise nat_eq file.0 name then file.1 else bytes_under name files

-- the newest file is longer by these bytes
abbrev pub lengthened : List ℕ → List Named → List Named
lengthened more [] = []
lengthened more (file ∷ files) = (file.0, file.1 ++ more) ∷ files

-- the created files once these bytes were written to the newest
unfoldable pub written : List ℕ → Option (List Named) → Option (List Named)
written more files = option_map (lengthened more) files

-- the created files with one more, the newest
unfoldable pub added : Named → Option (List Named) → Option (List Named)
added file files = option_map (λ before. file ∷ before) files

-- a host that tells no content and no name, by its counts, of all names together, and its open files
abbrev pub silent : ℕ → ℕ → ℕ → ℕ → Option ℕ → Option ℕ → HostState
silent opens reads creates writes input output = record {
  opens = λ name. opens;
  reads = λ name. reads;
  creates = λ name. creates;
  writes = writes;
  input = input;
  output = output;
  name = None;
  files = None;
  left = None;
  created = None;
  printed = None;
}
