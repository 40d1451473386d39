-- A file that is written in parts.
use Rattle.std.proofs.Common.{◌≡◌, ℕ, ◌+◌, ◌≤◌, List, [], ◌++◌, take, length, ap, sym, ◌∙◌, inl, inr}
use Rattle.std.specs.declared.option.Option.{Option}
use Rattle.std.proofs.Math.Seq.{take-append-add, take-length}
use Rattle.std.proofs.lemmas.List.{take-append-le}
use Rattle.ny_io.specs.Host.{Named, HostState, written, added}
use Rattle.ny_io.proofs.Written.{written-then, written-added}
use Rattle.ny_top.specs.Ends.{MadePart}

-- the first part ends within the header
pub part_header : (done : ℕ) (header frames : List ℕ) (files : Option (List Named)) → done ≤ length header
    → written (take done header) files ≡ written (take done (header ++ frames)) files
part_header done header frames files within = ap (λ part. written part files) (sym (take-append-le done header frames within))

-- the first part is the header and some of the frames
pub part_frames : (done : ℕ) (header frames : List ℕ) (files : Option (List Named))
    → written (take done frames) (written header files) ≡ written (take (length header + done) (header ++ frames)) files
part_frames done header frames files =
    written-then header (take done frames) files ∙ ap (λ part. written part files) (sym (take-append-add header frames done))

pub ruleset in_parts = (part_header, part_frames, written-then)

-- what is written to a new file is what it holds
pub written-new : (more name : List ℕ) (files : Option (List Named)) → written more (added (name, []) files) ≡ added (name, more) files
written-new more name files = written-added more (name, []) files

pub ruleset in_file = (written-new)

-- a new file with a first part of the bytes
pub made_part : (to bytes : List ℕ) (old mid new : HostState) (done : ℕ)
    → mid.created ≡ added (to, []) old.created → new.created ≡ written (take done bytes) mid.created → MadePart to bytes old new
made_part to bytes old mid new done is_new more =
    inr (done, more ∙ ap (written (take done bytes)) is_new ∙ written-new (take done bytes) to old.created)

-- a new file with all the bytes
pub made_whole : (to bytes : List ℕ) (old mid new : HostState)
    → mid.created ≡ added (to, []) old.created → new.created ≡ written bytes mid.created → MadePart to bytes old new
made_whole to bytes old mid new is_new more =
    made_part to bytes old mid new (length bytes) is_new (more ∙ ap (λ part. written part mid.created) (sym (take-length bytes)))

-- nothing was created since
pub made_after : (to bytes : List ℕ) (old mid new : HostState) → MadePart to bytes old mid → new.created ≡ mid.created → MadePart to bytes old new
made_after to bytes old mid new (inl made) same = inl (same ∙ made)
made_after to bytes old mid new (inr made) same = inr (made.0, same ∙ made.1)
