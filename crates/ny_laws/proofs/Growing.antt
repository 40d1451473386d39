-- A table that grows keeps what stands in it.
use Rattle.std.proofs.Common.{◌≡◌, ℕ, ◌+◌, ◌<◌, ◌≤◌, List, [], ◌∷◌, ◌++◌, length, get_or, refl, sym, ap, ◌∙◌, arith, length-append}
use Rattle.std.proofs.lemmas.List.{get_or_append_left}
use Rattle.std.proofs.Math.Seq.{get_or-append_seam}
use Rattle.ny_resolve.specs.declared.term.NameId.{NameId}
use Rattle.ny_check.specs.declared.node.Node.{Node}
use Rattle.ny_check.specs.Code.{Code, no_node}
use Rattle.ny_check.specs.Writing.{Table, put}
use Rattle.ny_laws.specs.Standing.{IsAt}

-- what stands in the first table stands in the second
pub record Keeps (t u : Table) : Type 0 where
  pub longer : length t.nodes ≤ length u.nodes
  pub nodes : (m : ℕ) → m < length t.nodes → get_or t.nodes m no_node ≡ get_or u.nodes m no_node
  pub free : (m : ℕ) → m < length t.nodes → get_or t.free m [] ≡ get_or u.free m []

abbrev pub Aligned : Table → Type 0
Aligned t = length t.free ≡ length t.nodes

abbrev pub table_of : Code → Table
table_of code = record { nodes = code.nodes; free = code.free }

pub keeps_same : (t : Table) → Keeps t t
keeps_same t = record { longer = omega arith; nodes = λ m h. refl; free = λ m h. refl }

pub keeps_then : (t u v : Table) → Keeps t u → Keeps u v → Keeps t v
keeps_then t u v a b = record {
  longer = omega (arith, a.longer, b.longer);
  nodes = λ m h. a.nodes m h ∙ b.nodes m (omega (arith, a.longer));
  free = λ m h. a.free m h ∙ b.free m (omega (arith, a.longer));
}

pub keeps_put : (t : Table) (n : Node) (names : List NameId) → Aligned t → Keeps t (put n names t).table
keeps_put t n names is = record {
  longer = simp length-append (omega arith);
  nodes = λ m h. sym (get_or_append_left t.nodes (n ∷ []) no_node m h);
  free = λ m h. sym (get_or_append_left t.free (names ∷ []) [] m (omega (arith, is)));
}

pub aligned_put : (t : Table) (n : Node) (names : List NameId) → Aligned t → Aligned (put n names t).table
aligned_put t n names is = simp length-append (omega (arith, is))

pub length_put : (t : Table) (n : Node) (names : List NameId) → length (put n names t).table.nodes ≡ length t.nodes + 1
length_put t n names = simp length-append (omega arith)

-- the node that is put there stands at the end
pub at_put : (t : Table) (n : Node) (names : List NameId) (code : Code) → Aligned t → Keeps (put n names t).table (table_of code) → IsAt code (length t.nodes) n names
at_put t n names code is keeps =
    let within : length t.nodes < length (put n names t).table.nodes = omega (arith, length_put t n names) in
    let here : get_or (t.free ++ names ∷ []) (length t.nodes) [] ≡ names =
    ap (λ (k : ℕ). get_or (t.free ++ names ∷ []) k []) (sym is) ∙ get_or-append_seam t.free names [] [] in record {
      within = omega (arith, within, keeps.longer);
      node = sym (keeps.nodes (length t.nodes) within) ∙ get_or-append_seam t.nodes n [] no_node;
      free = sym (keeps.free (length t.nodes) within) ∙ here;
    }
