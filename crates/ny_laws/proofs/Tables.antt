-- The table of a whole text.
use Rattle.std.proofs.Common.{◌≡◌, ℕ, suc, ◌+◌, ◌<◌, List, [], ◌∷◌, ◌++◌, length, get_or, refl, sym, ap, ◌∙◌, arith, subst, inl, inr, append_assoc, length-append, Some, None}
use Rattle.std.specs.Prelude.{if◌then◌else◌, Bool, false}
use Rattle.std.proofs.lemmas.Bool.{cases_lt, lt-ltb, le-ltb}
use Rattle.std.proofs.lemmas.List.{get_or_append_left, append-nil}
use Rattle.std.proofs.lemmas.Option.{slice_get-get_or, slice_get_past}
use Rattle.std.proofs.Math.Seq.{get_or-append_seam}
use Rattle.ny_resolve.specs.declared.term.Part.{Part}
use Rattle.ny_resolve.specs.declared.term.Declared.{Declared}
use Rattle.ny_kinds.specs.Kinds.{no_declared}
use Rattle.ny_check.specs.declared.node.Function.{Function}
use Rattle.ny_check.specs.Code.{Code, function_at, no_function}
use Rattle.ny_check.specs.Writing.{Draft_of, Written, writing, body_in, body_of, write_declared, empty, program_of}
use Rattle.ny_laws.specs.TextParts.{IsInText}
use Rattle.ny_laws.specs.TextParts as parts
use Rattle.ny_laws.specs.Standing.{Stands, BodiesStand, IsTableOf, body_before}
use Rattle.ny_laws.proofs.Growing.{Keeps, Aligned, table_of, keeps_same, keeps_then}
use Rattle.ny_laws.proofs.Written.{AreBefore, AllBetween, Wrote, written}

-- these declarations come first in the program
abbrev Begin : Code → List Function → Type 0
Begin code fs = (more : List Function) × (code.functions ≡ fs ++ more)

abbrev Found : Code → List Function → ℕ → Type 0
Found code fs n = body_of fs n ≡ body_before code (length fs) n

before : (code : Code) (fs : List Function) → Begin code fs → AreBefore code (length fs) fs
before code fs b n =
    elim (cases_lt n (length fs)) [
      | inl lt ↦
          ap body_in (slice_get-get_or fs n no_function lt)
          ∙ ap (λ (g : Function). Some g.body) (sym (get_or_append_left fs b.0 no_function n lt))
          ∙ ap (λ (gs : List Function). Some (get_or gs n no_function).body) (sym b.1)
          ∙ ap (λ (t : Bool). if t then Some (function_at code n).body else None) (sym (lt-ltb n (length fs) lt))
      | inr ge ↦
          ap body_in (slice_get_past fs n ge) ∙ ap (λ (t : Bool). if t then Some (function_at code n).body else None) (sym (le-ltb n (length fs) ge))
    ]

module _ (all : List Declared) (play : Part) where
  -- these are the declarations of the text from number n on
  abbrev AreDeclared : ℕ → List Declared → Type 0
  AreDeclared n [] = Unit {0}
  AreDeclared n (x ∷ xs) = IsInText all play n x.params x.body × AreDeclared (n + 1) xs

  declared_from : (n : ℕ) (xs : List Declared) → ((m : ℕ) → m < length xs → (n + m < length all) × (get_or all (n + m) no_declared ≡ get_or xs m no_declared)) → AreDeclared n xs
  declared_from n [] h = tt
  declared_from n (x ∷ xs) h =
      let first = h 0 (omega arith) in
      let same : n + 0 ≡ n = omega arith in
      let at : (n < length all) × (get_or all n no_declared ≡ x) = subst (λ (k : ℕ). (k < length all) × (get_or all k no_declared ≡ x)) same first in (
        subst (λ (d : Declared). IsInText all play n d.params d.body) at.1 (parts.body n at.0),
        declared_from (n + 1) xs (λ m lt. let next : n + suc m ≡ (n + 1) + m = omega arith in
            subst (λ (k : ℕ). (k < length all) × (get_or all k no_declared ≡ get_or xs m no_declared)) next (h (suc m) (omega arith))),
      )

  all_declared : AreDeclared 0 all
  all_declared = declared_from 0 all (λ m lt. let same : m ≡ 0 + m = omega arith in
      subst (λ (k : ℕ). (k < length all) × (get_or all k no_declared ≡ get_or all m no_declared)) same (lt, refl))

  record WroteDeclared (xs : List Declared) (d e : Draft_of) : Type 0 where
    keeps : Keeps d.table e.table
    aligned : Aligned e.table
    more : List Function
    is : e.functions ≡ d.functions ++ more
    count : length more ≡ length xs
    stands : (code : Code) → Begin code e.functions → Keeps e.table (table_of code) → BodiesStand code (length d.functions) xs
    others : (code : Code) → Begin code e.functions → Keeps e.table (table_of code) → AreDeclared (length d.functions) xs
        → AllBetween all play code (length d.table.nodes) (length e.table.nodes)

  -- what begins with more begins with less
  abbrev shorter : (code : Code) (fs more gs : List Function) → gs ≡ fs ++ more → Begin code gs → Begin code fs
  shorter code fs more gs is b = (more ++ b.0, b.1 ∙ ap (λ (hs : List Function). hs ++ b.0) is ∙ append_assoc fs more b.0)

  declared_wrote : (xs : List Declared) (d : Draft_of) → Aligned d.table → WroteDeclared xs d (write_declared xs d)
  declared_wrote [] d is = record {
    keeps = keeps_same d.table;
    aligned = is;
    more = [];
    is = sym (append-nil d.functions);
    count = refl;
    stands = λ code b k. tt;
    others = λ code b k declared m from to. absurd (omega arith);
  }
  declared_wrote (x ∷ xs) d is =
      let w : Written = (writing x.body).write [] d.functions d.table in
      let one : Wrote all play x.body [] d.functions d.table w.table w.id = written all play x.body [] d.functions d.table is in
      let f : Function = record { params = x.params; body = w.id } in
      let next : Draft_of = record { table = w.table; functions = d.functions ++ f ∷ [] } in
      let rest : WroteDeclared xs next (write_declared xs next) = declared_wrote xs next one.aligned in
      let e : Draft_of = write_declared xs next in
      let whole : e.functions ≡ d.functions ++ (f ∷ rest.more) = rest.is ∙ append_assoc d.functions (f ∷ []) rest.more in
      let first : (code : Code) → Begin code e.functions → Begin code d.functions = λ code b. shorter code d.functions (f ∷ rest.more) e.functions whole b in
      let up : (code : Code) → Keeps e.table (table_of code) → Keeps w.table (table_of code) = λ code k. keeps_then w.table e.table (table_of code) rest.keeps k in
      let at : (code : Code) → Begin code e.functions → function_at code (length d.functions) ≡ f =
      λ code b. ap (λ (gs : List Function). get_or gs (length d.functions) no_function) ((shorter code (d.functions ++ f ∷ []) rest.more e.functions rest.is b).1 ∙ append_assoc d.functions (f ∷ []) (rest.more ++ b.0))
      ∙ get_or-append_seam d.functions f (rest.more ++ b.0) no_function in
      let here : length next.functions ≡ length d.functions + 1 = simp length-append (omega arith) in record {
        keeps = keeps_then d.table w.table e.table one.keeps rest.keeps;
        aligned = rest.aligned;
        more = f ∷ rest.more;
        is = whole;
        count = omega (arith, rest.count);
        stands = λ code b k. (
          ap (λ (g : Function). g.params) (at code b),
          subst (λ (g : Function). Stands code (length d.functions) [] x.body g.body.0) (sym (at code b)) (one.stands code (length d.functions) (before code d.functions (first code b)) (up code k)),
          subst (λ (n : ℕ). BodiesStand code n xs) here (rest.stands code b k),
        );
        others = λ code b k declared m from to. elim (cases_lt m (length w.table.nodes)) [
          | inl lt ↦ one.others code (length d.functions) x.params (before code d.functions (first code b)) (up code k) (declared.0, (false, refl)) m from lt
          | inr ge ↦ rest.others code b k (subst (λ (n : ℕ). AreDeclared n xs) (sym here) declared.1) m ge to
        ];
      }

pub is_table : (ds : List Declared) (play : Part) (channels : ℕ) → IsTableOf ds play (program_of ds play channels)
unfolding program_of
is_table ds play channels =
    let d : Draft_of = write_declared ds empty in
    let all : WroteDeclared ds play ds empty d = declared_wrote ds play ds empty refl in
    let w : Written = (writing play).write [] d.functions d.table in
    let one : Wrote ds play play [] d.functions d.table w.table w.id = written ds play play [] d.functions d.table all.aligned in
    let code : Code = record { nodes = w.table.nodes; functions = d.functions; play = w.id; channels = channels; free = w.table.free } in
    let whole : Begin code d.functions = ([], sym (append-nil d.functions)) in
    let same : Keeps w.table (table_of code) = keeps_same w.table in
    let count : length d.functions ≡ length ds = ap (λ (gs : List Function). length gs) all.is ∙ all.count in
    let up : Keeps d.table (table_of code) = keeps_then d.table w.table (table_of code) one.keeps same in record {
      bodies = all.stands code whole up;
      count = count;
      play = subst (λ (n : ℕ). Stands code n [] play w.id.0) count (one.stands code (length d.functions) (before code d.functions whole) same);
      each = λ id h. elim (cases_lt id (length d.table.nodes)) [
        | inl lt ↦ all.others code whole up (all_declared ds play) id (omega arith) lt
        | inr ge ↦ one.others code (length d.functions) [] (before code d.functions whole) same (subst (λ (n : ℕ). IsInText ds play n [] play) (sym count) parts.played, (false, refl)) id ge h
      ];
    }
