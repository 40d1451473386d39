-- How many expressions a text has as it was read, each part counted with those within it, and its declarations.
use Rattle.std.specs.Prelude.{ℕ, ◌+◌, List, map, Option, Some, None}
use Rattle.ny_syntax.specs.Sizes.{total}
use Rattle.ny_resolve.specs.declared.term.Term.TheFolds.{fold-Part, fold-Term, fold-Bound}
use Rattle.ny_resolve.specs.declared.term.Term.TheOpen.{Term-F, Part-F, Bound-F}
use Rattle.ny_resolve.specs.declared.term.Term.{Term}
use Rattle.ny_resolve.specs.declared.term.Part.{Part}
use Rattle.ny_resolve.specs.declared.term.Bound.{Bound}
use Rattle.ny_resolve.specs.declared.term.Declared.{Declared}

-- a term and the parts that it is made of
abbrev pub term_size : Term-F ℕ ℕ ℕ → ℕ
term_size (Term-F.Number v) = 1
term_size (Term-F.Local x) = 1
term_size (Term-F.Global n) = 1
term_size (Term-F.Call n es) = 1 + total es
term_size (Term-F.Block bs e) = 1 + (total bs + e)
term_size (Term-F.Apply o es) = 1 + total es
term_size (Term-F.Over a v) = 1 + a
term_size (Term-F.Repeat o x n e) = 1 + e
term_size (Term-F.Nameless e) = 1 + e
term_size (Term-F.Warp vs e) = 1 + e
term_size (Term-F.Rate a r e) = 1 + e

abbrev pub bound_size : Bound-F ℕ ℕ ℕ → ℕ
bound_size b = b.value

abbrev pub part_size : Part-F ℕ ℕ ℕ → ℕ
part_size p = p.term

abbrev pub size_of_part : Part → ℕ
size_of_part = fold-Part ℕ ℕ ℕ term_size bound_size part_size

abbrev pub size_of_term : Term → ℕ
size_of_term = fold-Term ℕ ℕ ℕ term_size bound_size part_size

abbrev pub size_of_bound : Bound → ℕ
size_of_bound = fold-Bound ℕ ℕ ℕ term_size bound_size part_size

abbrev pub declared_size : Declared → ℕ
declared_size d = 1 + size_of_part d.body

abbrev pub played_size : Option Part → ℕ
played_size None = 0
played_size (Some p) = size_of_part p

-- the declarations and the parts of a text
unfoldable pub text_size : List Declared → Option Part → ℕ
text_size ds play = total (map declared_size ds) + played_size play
