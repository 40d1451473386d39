-- Files in memory, by place.
use Rattle.std.specs.Prelude.{nat_eq}
use Rattle.std.proofs.Common.{◌≡◌, ℕ, zero, suc, ◌+◌, ◌≤◌, ◌++◌, Bool, true, false, take, List, [], ◌∷◌, drop, length, Some, None, is_some, ap, sym, refl, ◌∙◌, arith, string_bytes}
use Rattle.std.specs.List.{position_from}
use Rattle.std.specs.Cmp.Lexicographic.{pointwise, same_text}
use Rattle.std.proofs.lemmas.List.{take_at, length-take-le, drop-drop, take-append-drop}
use Rattle.ny_io.specs.Host.{Named, bytes_under}
use Rattle.ny_io.specs.Memory.{has_name}
use Rattle.ny_io.specs.MemoryFiles.{Entry, file_at, is_named, named_files}

-- A place is found exactly where a file has the name.
pub is_found : (name : List ℕ) (files : List Entry) (start : ℕ)
    → is_some (position_from (is_named name) start files) ≡ has_name name (named_files files)
is_found name [] start = refl
is_found name (file ∷ files) start =
    let at : (b : Bool) → is_named name file ≡ b → is_some (position_from (is_named name) start (file ∷ files)) ≡ has_name name (named_files (file ∷ files))
    = elim [ true ↦ λ is. rw is refl | false ↦ λ is. rw is (is_found name files (start + 1)) ] in
    at (is_named name file) refl

-- A place is no lower than where the search began.
not_before : (name : List ℕ) (files : List Entry) (start place : ℕ)
    → position_from (is_named name) start files ≡ Some place → start ≤ place
not_before name [] start place found = cc
not_before name (file ∷ files) start place found =
    let at : (b : Bool) → is_named name file ≡ b → start ≤ place
    = elim [
      | true ↦ λ is. let here : start ≡ place = (let e = rw is at found in cc) in omega arith
      | false ↦ λ is. let later = not_before name files (start + 1) place (rw is at found) in omega arith
    ] in
    at (is_named name file) refl

-- The place that is found is that of the first file of the name.
pub file_found : (name : List ℕ) (files : List Entry) (start place : ℕ)
    → position_from (is_named name) start files ≡ Some (start + place)
    → file_at (named_files files) place ≡ (name, bytes_under name (named_files files))
file_found name [] start place found = cc
file_found name (file ∷ files) start zero found =
    let Goal : Type 0 = file_at (named_files (file ∷ files)) zero ≡ (name, bytes_under name (named_files (file ∷ files))) in
    let at : (b : Bool) → is_named name file ≡ b → Goal
    = elim [
      | true ↦ λ is. rw is (ap (λ text. (text, file.1.items)) (same_text (string_bytes file.0) name (sym is)))
      | false ↦ λ is. let later = not_before name files (start + 1) (start + zero) (rw is at found) in absurd (omega arith)
    ] in
    at (is_named name file) refl
file_found name (file ∷ files) start (suc place) found =
    let Goal : Type 0 = file_at (named_files (file ∷ files)) (suc place) ≡ (name, bytes_under name (named_files (file ∷ files))) in
    let next : start + suc place ≡ (start + 1) + place = omega arith in
    let at : (b : Bool) → is_named name file ≡ b → Goal
    = elim [
      | true ↦ λ is. let here : start ≡ start + suc place = (let e = rw is at found in cc) in absurd (omega arith)
      | false ↦ λ is. rw is (file_found name files (start + 1) place (rw is at found ∙ ap Some next))
    ] in
    at (is_named name file) refl

-- What the first place tells of the files.
pub none_found : (name : List ℕ) (files : List Entry) → None ≡ position_from (is_named name) 0 files → has_name name (named_files files) ≡ false
none_found name files none = sym (is_found name files 0) ∙ ap is_some (sym none)

pub some_found : (name : List ℕ) (files : List Entry) (place : ℕ) → Some place ≡ position_from (is_named name) 0 files → has_name name (named_files files) ≡ true
some_found name files place some = sym (is_found name files 0) ∙ ap is_some (sym some)

pub file_at-found : (name : List ℕ) (files : List Entry) (place : ℕ) → Some place ≡ position_from (is_named name) 0 files
    → file_at (named_files files) place ≡ (name, bytes_under name (named_files files))
file_at-found name files place some = let e : place ≡ 0 + place = omega arith in file_found name files 0 place (sym some ∙ ap Some e)

pub name_at-found : (name : List ℕ) (files : List Entry) (place : ℕ) → Some place ≡ position_from (is_named name) 0 files
    → (file_at (named_files files) place).0 ≡ name
name_at-found name files place some = ap (λ file. file.0) (file_at-found name files place some)

pub ruleset found_place = (none_found, some_found, file_at-found, name_at-found)

-- A name that is not there stands for no bytes, as a place past the last file does.
pub none_under : (name : List ℕ) (files : List Entry) → None ≡ position_from (is_named name) 0 files → bytes_under name (named_files files) ≡ []
none_under name files none = no_bytes name (named_files files) (none_found name files none)
  where
    no_bytes : (name : List ℕ) (files : List Named) → has_name name files ≡ false → bytes_under name files ≡ []
    no_bytes name [] absent = refl
    no_bytes name (file ∷ files) absent =
        let at : (b : Bool) → pointwise nat_eq file.0 name ≡ b → bytes_under name (file ∷ files) ≡ []
        = elim [
          | true ↦ λ is. let e : true ≡ false = rw is at absent in cc
          | false ↦ λ is. rw is (no_bytes name files (rw is at absent))
        ] in
        at (pointwise nat_eq file.0 name) refl

pub file_at-past : (files : List Entry) → file_at (named_files files) (length files) ≡ ([], [])
file_at-past [] = refl
file_at-past (file ∷ files) = file_at-past files

pub ruleset opened_place = (none_under, file_at-found, file_at-past)

-- What a read hands out, and what is left.
pub read_next : (file buf : List ℕ) (at count : ℕ) → count ≤ length (drop at file)
    → take count (take count (drop at file) ++ drop count buf) ++ drop (at + count) file ≡ drop at file
read_next file buf at count within =
    rw (take_at (take count (drop at file)) (drop count buf) count (length-take-le count (drop at file) within))
    (rw (sym (drop-drop count at file)) (take-append-drop count (drop at file)))
