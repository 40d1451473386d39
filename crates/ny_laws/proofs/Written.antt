-- What is written of a part stands for it.
use Rattle.std.proofs.Common.{◌≡◌, ℕ, ◌<◌, ◌≤◌, List, [], ◌∷◌, ◌++◌, map, length, refl, sym, ap, ◌∙◌, arith, subst, inl, inr, append_assoc, Option}
use Rattle.std.specs.Prelude.{Bool, false}
use Rattle.std.proofs.lemmas.Bool.{cases_lt}
use Rattle.ny_resolve.specs.declared.term.NameId.{NameId}
use Rattle.ny_resolve.specs.declared.term.Term.{Term}
use Rattle.ny_resolve.specs.declared.term.Term.TheVariants.{rolls-Number, rolls-Local, rolls-Global, rolls-Call, rolls-Block, rolls-Apply, rolls-Over, rolls-Repeat, rolls-Nameless, rolls-Warp, rolls-Rate}
use Rattle.ny_resolve.specs.declared.term.Term.TheFolds.{fold-Term, fold-roll-Term, fold-roll-Part, fold_out-Bound, ind-Part, map-Term}
use Rattle.ny_resolve.specs.declared.term.Term.TheOpen.{Term-F, Part-F, Bound-F}
use Rattle.ny_resolve.specs.declared.term.Term.TheViews.{roll-Term, roll-Part, roll-Bound}
use Rattle.ny_resolve.specs.declared.term.Part.{Part, rolls-Part'}
use Rattle.ny_resolve.specs.declared.term.Bound.{Bound, rolls-Bound'}
use Rattle.ny_resolve.specs.declared.term.Declared.{Declared}
use Rattle.ny_check.specs.declared.node.Node.{Node}
use Rattle.ny_check.specs.declared.node.Node.TheVariants as node
use Rattle.ny_check.specs.declared.node.Change.TheVariants as change
use Rattle.ny_check.specs.declared.node.ExprId.{ExprId}
use Rattle.ny_check.specs.declared.node.Function.{Function}
use Rattle.ny_check.specs.Code.{Code}
use Rattle.ny_check.specs.Writing.{Table, Written, WrittenParts, WrittenBinds, Writing, BindWriting, writing, writing_of_bind, term_writing, bound_writing, part_writing, write_parts, write_binds, put, kept_names, is_seq, is_in_turn, body_of, global_node, call_node, operator_node, quotient_node, warp_node}
use Rattle.ny_laws.specs.TextParts.{IsAmong, IsBindAmong, names_after, IsPartOf, IsInText}
use Rattle.ny_laws.specs.TextParts as parts
use Rattle.ny_laws.specs.Standing.{IsAt, Stands, EachStands, BindsStand, AreKept, IsSomePart, body_before}
use Rattle.ny_laws.specs.Standing as standing
use Rattle.ny_laws.proofs.Names.{writing-at}
use Rattle.ny_laws.proofs.Growing.{Keeps, Aligned, table_of, keeps_same, keeps_then, keeps_put, aligned_put, length_put, at_put}

-- these are the declarations before the one of number `here`
abbrev pub AreBefore : Code → ℕ → List Function → Type 0
AreBefore code here fs = (n : ℕ) → body_of fs n ≡ body_before code here n

module _ (ds : List Declared) (play : Part) where
  -- each node from one number up to another stands for some part of the text
  abbrev pub AllBetween : Code → ℕ → ℕ → Type 0
  AllBetween code from to = (m : ℕ) → from ≤ m → m < to → IsSomePart ds play code m

  -- the same in each table that keeps this one, where something is known of the place
  abbrev pub Others : (ℕ → List NameId → Type 0) → List Function → Table → Table → Type 0
  Others At fs t u = (code : Code) (here : ℕ) (xs : List NameId) → AreBefore code here fs → Keeps u (table_of code) → At here xs → AllBetween code (length t.nodes) (length u.nodes)

  -- a part of the text
  abbrev pub At : Part → ℕ → List NameId → Type 0
  At p here xs = IsInText ds play here xs p

  -- of which these names are kept
  abbrev pub KeptAt : Part → List NameId → ℕ → List NameId → Type 0
  KeptAt p names here xs = IsInText ds play here xs p × AreKept names p

  abbrev pub AllAt : List Part → ℕ → List NameId → Type 0
  AllAt [] here xs = Unit {0}
  AllAt (e ∷ es) here xs = At e here xs × AllAt es here xs

  -- each bind is seen by those after it
  abbrev pub BindsAt : List Bound → ℕ → List NameId → Type 0
  BindsAt [] here xs = Unit {0}
  BindsAt (b ∷ bs) here xs = At b.value here xs × BindsAt bs here (xs ++ b.name ∷ [])

  all_at : (here : ℕ) (xs : List NameId) (es : List Part) → ((q : Part) → IsAmong q es → At q here xs) → AllAt es here xs
  all_at here xs [] h = tt
  all_at here xs (e ∷ es) h = (h e (inl refl), all_at here xs es (λ q is. h q (inr is)))

  binds_at : (here : ℕ) (xs : List NameId) (bs : List Bound) → ((ys : List NameId) (q : Part) → IsBindAmong xs bs ys q → At q here ys) → BindsAt bs here xs
  binds_at here xs [] h = tt
  binds_at here xs (b ∷ bs) h = (h xs b.value (inl (refl, refl)), binds_at here (xs ++ b.name ∷ []) bs (λ ys q is. h ys q (inr is)))

  -- a part is written after a table: it stands there, and each node that is written stands for some part of the text
  pub record Wrote (p : Part) (names : List NameId) (fs : List Function) (t u : Table) (id : ExprId) : Type 0 where
    pub keeps : Keeps t u
    pub aligned : Aligned u
    pub stands : (code : Code) (here : ℕ) → AreBefore code here fs → Keeps u (table_of code) → Stands code here names p id.0
    pub others : Others (KeptAt p names) fs t u

  abbrev pub WrittenAs : Part → Writing → Type 0
  WrittenAs p w = (names : List NameId) (fs : List Function) (t : Table) → Aligned t → Wrote p names fs t (w.write names fs t).table (w.write names fs t).id

  abbrev pub IsWritten : Part → Type 0
  IsWritten p = WrittenAs p (writing p)

  abbrev writing_of_term : Term → Writing
  writing_of_term = fold-Term Writing BindWriting Writing term_writing bound_writing part_writing

  abbrev IsWrittenTerm : Term → Type 0
  IsWrittenTerm f = (p : Part) → p.term ≡ f → WrittenAs p (writing_of_term f)

  abbrev IsWrittenBind : Bound → Type 0
  IsWrittenBind b = IsWritten b.value

  abbrev TermOf : Type 0
  TermOf = (f : Term) × IsWrittenTerm f

  abbrev BoundOf : Type 0
  BoundOf = (b : Bound) × IsWrittenBind b

  abbrev PartOf : Type 0
  PartOf = (p : Part) × IsWritten p

  abbrev parts_in : List PartOf → List Part
  parts_in es = map (λ (e : (p : Part) × IsWritten p). e.0) es

  abbrev binds_in : List BoundOf → List Bound
  binds_in bs = map (λ (b : (b : Bound) × IsWrittenBind b). b.0) bs

  -- ---- one more node

  between_none : (code : Code) (n : ℕ) → AllBetween code n n
  between_none code n m from to = absurd (omega arith)

  between_then : (code : Code) (i j k : ℕ) → AllBetween code i j → AllBetween code j k → AllBetween code i k
  between_then code i j k a b m from to =
      elim (cases_lt m j) [
        | inl lt ↦ a m from lt
        | inr ge ↦ b m ge to
      ]

  put_wrote : (p : Part) (names : List NameId) (fs : List Function) (t u : Table) (n : Node) → Keeps t u → Aligned u → Others (KeptAt p names) fs t u
      → ((code : Code) (here : ℕ) → AreBefore code here fs → Keeps u (table_of code) → IsAt code (length u.nodes) n names → Stands code here names p (length u.nodes))
      → Wrote p names fs t (put n names u).table (put n names u).id
  put_wrote p names fs t u n keeps is others stand =
      let v : Table = (put n names u).table in
      let uv : Keeps u v = keeps_put u n names is in
      let stands : (code : Code) (here : ℕ) → AreBefore code here fs → Keeps v (table_of code) → Stands code here names p (length u.nodes) =
      λ code here before k. stand code here before (keeps_then u v (table_of code) uv k) (at_put u n names code is k) in record {
        keeps = keeps_then t u v keeps uv;
        aligned = aligned_put u n names is;
        stands = stands;
        others = λ code here xs before k at m from to. elim (cases_lt m (length u.nodes)) [
          | inl lt ↦ others code here xs before (keeps_then u v (table_of code) uv k) at m from lt
          | inr ge ↦
              let same : length u.nodes ≡ m = omega (arith, length_put u n names) in
              subst (IsSomePart ds play code) same (record { here = here; seen = xs; names = names; part = p; is_in = at.0; kept = at.1; stands = stands code here before k })
        ];
      }

  nothing_more : {A : Type 0} (xs : List A) → xs ≡ xs ++ []
  nothing_more [] = refl
  nothing_more (x ∷ xs) = ap (λ ys. x ∷ ys) (nothing_more xs)

  -- ---- parts in order

  record WroteParts (keeps_names : Bool) (es : List Part) (fs : List Function) (t u : Table) (done ids : List ExprId) : Type 0 where
    keeps : Keeps t u
    aligned : Aligned u
    more : List ExprId
    is : ids ≡ done ++ more
    stands : (code : Code) (here : ℕ) → AreBefore code here fs → Keeps u (table_of code) → EachStands code here keeps_names es more
    others : Others (AllAt es) fs t u

  parts_wrote : (k : Bool) (es : List PartOf) (fs : List Function) (done : List ExprId) (t : Table) → Aligned t
      → WroteParts k (parts_in es) fs t (write_parts k (map writing (parts_in es)) fs done t).table done (write_parts k (map writing (parts_in es)) fs done t).ids
  parts_wrote k [] fs done t is = record {
    keeps = keeps_same t;
    aligned = is;
    more = [];
    is = nothing_more done;
    stands = λ code here before kept. standing.no_part k;
    others = λ code here xs before kept at. between_none code (length t.nodes);
  }
  parts_wrote k (e ∷ es) fs done t is =
      let names : List NameId = kept_names k (writing e.0).uses in
      let w : Written = (writing e.0).write names fs t in
      let one : Wrote e.0 names fs t w.table w.id = e.1 names fs t is in
      let rest = parts_wrote k es fs (done ++ w.id ∷ []) w.table one.aligned in record {
        keeps = keeps_then t w.table _ one.keeps rest.keeps;
        aligned = rest.aligned;
        more = w.id ∷ rest.more;
        is = rest.is ∙ append_assoc done (w.id ∷ []) rest.more;
        stands = λ code here before kept. standing.one_part k e.0 (parts_in es) w.id rest.more
            (one.stands code here before (keeps_then w.table _ (table_of code) rest.keeps kept)) (rest.stands code here before kept);
        others = λ code here xs before kept at. between_then code (length t.nodes) (length w.table.nodes) _
            (one.others code here xs before (keeps_then w.table _ (table_of code) rest.keeps kept) (at.0, (k, refl))) (rest.others code here xs before kept at.1);
      }

  -- ---- binds

  record WroteBinds (bs : List Bound) (fs : List Function) (t u : Table) (done binds : List (NameId × ExprId)) : Type 0 where
    keeps : Keeps t u
    aligned : Aligned u
    more : List (NameId × ExprId)
    is : binds ≡ done ++ more
    stands : (code : Code) (here : ℕ) → AreBefore code here fs → Keeps u (table_of code) → BindsStand code here bs more
    others : Others (BindsAt bs) fs t u

  bind-is : (b : Bound) → writing_of_bind b ≡ record { name = b.name; write = (writing b.value).write; uses = (writing b.value).uses }
  bind-is b = fold_out-Bound Writing BindWriting Writing term_writing bound_writing part_writing b

  abbrev BindsWritten : List BoundOf → List BindWriting → Type 0
  BindsWritten bs ws = (fs : List Function) (done : List (NameId × ExprId)) (t : Table) → Aligned t
      → WroteBinds (binds_in bs) fs t (write_binds ws fs done t).table done (write_binds ws fs done t).binds

  one_more_bind : (b : BoundOf) (bs : List BoundOf) (ws : List BindWriting) → BindsWritten bs ws
      → BindsWritten (b ∷ bs) (record { name = b.0.name; write = (writing b.0.value).write; uses = (writing b.0.value).uses } ∷ ws)
  one_more_bind b bs ws h fs done t is =
      let w : Written = (writing b.0.value).write [] fs t in
      let one : Wrote b.0.value [] fs t w.table w.id = b.1 [] fs t is in
      let rest = h fs (done ++ (b.0.name, w.id) ∷ []) w.table one.aligned in record {
        keeps = keeps_then t w.table _ one.keeps rest.keeps;
        aligned = rest.aligned;
        more = (b.0.name, w.id) ∷ rest.more;
        is = rest.is ∙ append_assoc done ((b.0.name, w.id) ∷ []) rest.more;
        stands = λ code here before kept. standing.one_bind b.0 (binds_in bs) w.id rest.more
            (one.stands code here before (keeps_then w.table _ (table_of code) rest.keeps kept)) (rest.stands code here before kept);
        others = λ code here xs before kept at. between_then code (length t.nodes) (length w.table.nodes) _
            (one.others code here xs before (keeps_then w.table _ (table_of code) rest.keeps kept) (at.0, (false, refl))) (rest.others code here (xs ++ b.0.name ∷ []) before kept at.1);
      }

  binds_wrote : (bs : List BoundOf) → BindsWritten bs (map writing_of_bind (binds_in bs))
  binds_wrote [] fs done t is = record {
    keeps = keeps_same t;
    aligned = is;
    more = [];
    is = nothing_more done;
    stands = λ code here before kept. standing.no_bind;
    others = λ code here xs before kept at. between_none code (length t.nodes);
  }
  binds_wrote (b ∷ bs) fs done t is =
      subst (λ (w : BindWriting). BindsWritten (b ∷ bs) (w ∷ map writing_of_bind (binds_in bs))) (sym (bind-is b.0))
      (one_more_bind b bs (map writing_of_bind (binds_in bs)) (λ gs more u aligned. binds_wrote bs gs more u aligned)) fs done t is

  -- ---- by layers

  -- a layer of a term, of those below it
  layer : (x : Term-F Term Bound Part) (p : Part)
      → WrittenAs p (term_writing (map-Term Term Bound Part Writing BindWriting Writing writing_of_term writing_of_bind writing x)) → WrittenAs p (writing_of_term (roll-Term x))
  layer x p h = subst (WrittenAs p) (sym (fold-roll-Term Writing BindWriting Writing term_writing bound_writing part_writing x)) h

  -- a node at a place, told by another equation
  renamed : (code : Code) (id : ℕ) (n m : Node) (names : List NameId) → n ≡ m → IsAt code id n names → IsAt code id m names
  renamed code id n m names is at = record { within = at.within; node = at.node ∙ is; free = at.free }

  -- what is kept of a part with a repeat's fault is kept of the part in it
  nameless_kept : (names : List NameId) (p e : Part) → p.term ≡ roll-Term (Term-F.Nameless e) → AreKept names p → AreKept names e
  nameless_kept names p e is h = (h.0, h.1 ∙ ap (λ (w : Writing). kept_names h.0 w.uses) (writing-at p (Term-F.Nameless e) is))

  of_term : (y : Term-F TermOf BoundOf PartOf) → IsWrittenTerm (roll-Term (map-Term TermOf BoundOf PartOf Term Bound Part (λ e. e.0) (λ e. e.0) (λ e. e.0) y))
  of_term (Term-F.Number v) p is =
      layer (Term-F.Number v) p (λ names fs t al. put_wrote p names fs t t (node.Number v) (keeps_same t) al (λ code here xs before kept at. between_none code (length t.nodes))
      (λ code here before kept at. standing.number names p (length t.nodes) v (is ∙ rolls-Number v) at))
  of_term (Term-F.Local x) p is =
      layer (Term-F.Local x) p (λ names fs t al. put_wrote p names fs t t (node.Local x) (keeps_same t) al (λ code here xs before kept at. between_none code (length t.nodes))
      (λ code here before kept at. standing.local names p (length t.nodes) x (is ∙ rolls-Local x) at))
  of_term (Term-F.Global n) p is =
      layer (Term-F.Global n) p (λ names fs t al. put_wrote p names fs t t (global_node (body_of fs n)) (keeps_same t) al (λ code here xs before kept at. between_none code (length t.nodes))
      (λ code here before kept at. standing.global names p (length t.nodes) n (is ∙ rolls-Global n)
      (renamed code (length t.nodes) (global_node (body_of fs n)) (global_node (body_before code here n)) names (ap global_node (before n)) at)))
  of_term (Term-F.Call n es) p is =
      layer (Term-F.Call n (parts_in es)) p (λ names fs t al.
      let w : WrittenParts = write_parts false (map writing (parts_in es)) fs [] t in
      let each = parts_wrote false es fs [] t al in
      put_wrote p names fs t w.table (call_node n (body_of fs n) w.ids) each.keeps each.aligned
      (λ code here xs before kept at. each.others code here xs before kept
      (all_at here xs (parts_in es) (λ q among. parts.within here xs xs p q at.0 (parts.argument xs p q n (parts_in es) (is ∙ rolls-Call n (parts_in es)) among))))
      (λ code here before kept at. standing.call names p (length w.table.nodes) n (parts_in es) w.ids (is ∙ rolls-Call n (parts_in es))
      (subst (EachStands code here false (parts_in es)) (sym each.is) (each.stands code here before kept))
      (renamed code (length w.table.nodes) (call_node n (body_of fs n) w.ids) (call_node n (body_before code here n) w.ids) names
      (ap (λ (o : Option ExprId). call_node n o w.ids) (before n)) at)))
  of_term (Term-F.Block bs e) p is =
      layer (Term-F.Block (binds_in bs) e.0) p (λ names fs t al.
      let w : WrittenBinds = write_binds (map writing_of_bind (binds_in bs)) fs [] t in
      let each = binds_wrote bs fs [] t al in
      let v : Written = (writing e.0).write [] fs w.table in
      let value : Wrote e.0 [] fs w.table v.table v.id = e.1 [] fs w.table each.aligned in
      put_wrote p names fs t v.table (node.Block w.binds v.id) (keeps_then t w.table v.table each.keeps value.keeps) value.aligned
      (λ code here xs before kept at. between_then code (length t.nodes) (length w.table.nodes) (length v.table.nodes)
      (each.others code here xs before (keeps_then w.table v.table (table_of code) value.keeps kept)
      (binds_at here xs (binds_in bs) (λ ys q among. parts.within here xs ys p q at.0 (parts.bind xs ys p q (binds_in bs) e.0 (is ∙ rolls-Block (binds_in bs) e.0) among))))
      (value.others code here (names_after (binds_in bs) xs) before kept
      (parts.within here xs (names_after (binds_in bs) xs) p e.0 at.0 (parts.result xs p e.0 (binds_in bs) (is ∙ rolls-Block (binds_in bs) e.0)), (false, refl))))
      (λ code here before kept at. standing.block names p (length v.table.nodes) (binds_in bs) e.0 w.binds v.id (is ∙ rolls-Block (binds_in bs) e.0)
      (subst (BindsStand code here (binds_in bs)) (sym each.is) (each.stands code here before (keeps_then w.table v.table (table_of code) value.keeps kept)))
      (value.stands code here before kept) at))
  of_term (Term-F.Apply o es) p is =
      layer (Term-F.Apply o (parts_in es)) p (λ names fs t al.
      let w : WrittenParts = write_parts (is_seq o) (map writing (parts_in es)) fs [] t in
      let each = parts_wrote (is_seq o) es fs [] t al in
      put_wrote p names fs t w.table (operator_node o w.ids) each.keeps each.aligned
      (λ code here xs before kept at. each.others code here xs before kept
      (all_at here xs (parts_in es) (λ q among. parts.within here xs xs p q at.0 (parts.operand xs p q o (parts_in es) (is ∙ rolls-Apply o (parts_in es)) among))))
      (λ code here before kept at. standing.apply names p (length w.table.nodes) o (parts_in es) w.ids (is ∙ rolls-Apply o (parts_in es))
      (subst (EachStands code here (is_seq o) (parts_in es)) (sym each.is) (each.stands code here before kept)) at))
  of_term (Term-F.Over e v) p is =
      layer (Term-F.Over e.0 v) p (λ names fs t al.
      let w : Written = (writing e.0).write [] fs t in
      let one : Wrote e.0 [] fs t w.table w.id = e.1 [] fs t al in
      put_wrote p names fs t w.table (quotient_node w.id v) one.keeps one.aligned
      (λ code here xs before kept at. one.others code here xs before kept (parts.within here xs xs p e.0 at.0 (parts.dividend xs p e.0 v (is ∙ rolls-Over e.0 v)), (false, refl)))
      (λ code here before kept at. standing.over names p (length w.table.nodes) e.0 v w.id (is ∙ rolls-Over e.0 v) (one.stands code here before kept) at))
  of_term (Term-F.Repeat o x n e) p is =
      layer (Term-F.Repeat o x n e.0) p (λ names fs t al.
      let free : List NameId = kept_names (is_in_turn o) (writing e.0).uses in
      let w : Written = (writing e.0).write free fs t in
      let one : Wrote e.0 free fs t w.table w.id = e.1 free fs t al in
      put_wrote p names fs t w.table (node.Repeat o x n w.id) one.keeps one.aligned
      (λ code here xs before kept at. one.others code here (xs ++ x ∷ []) before kept
      (parts.within here xs (xs ++ x ∷ []) p e.0 at.0 (parts.repeated xs p e.0 o x n (is ∙ rolls-Repeat o x n e.0)), (is_in_turn o, refl)))
      (λ code here before kept at. standing.repeat names p (length w.table.nodes) o x n e.0 w.id (is ∙ rolls-Repeat o x n e.0) (one.stands code here before kept) at))
  of_term (Term-F.Nameless e) p is =
      layer (Term-F.Nameless e.0) p (λ names fs t al.
      let w : Written = (writing e.0).write names fs t in
      let one : Wrote e.0 names fs t w.table w.id = e.1 names fs t al in record {
        keeps = one.keeps;
        aligned = one.aligned;
        stands = λ code here before kept. standing.nameless names p w.id.0 e.0 (is ∙ rolls-Nameless e.0) (one.stands code here before kept);
        others = λ code here xs before kept at. one.others code here xs before kept
            (parts.within here xs xs p e.0 at.0 (parts.nameless xs p e.0 (is ∙ rolls-Nameless e.0)), nameless_kept names p e.0 is at.1);
      })
  of_term (Term-F.Warp vs e) p is =
      layer (Term-F.Warp vs e.0) p (λ names fs t al.
      let w : Written = (writing e.0).write [] fs t in
      let one : Wrote e.0 [] fs t w.table w.id = e.1 [] fs t al in
      put_wrote p names fs t w.table (warp_node vs w.id) one.keeps one.aligned
      (λ code here xs before kept at. one.others code here xs before kept (parts.within here xs xs p e.0 at.0 (parts.warped xs p e.0 vs (is ∙ rolls-Warp vs e.0)), (false, refl)))
      (λ code here before kept at. standing.warp names p (length w.table.nodes) vs e.0 w.id (is ∙ rolls-Warp vs e.0) (one.stands code here before kept) at))
  of_term (Term-F.Rate a r e) p is =
      layer (Term-F.Rate a r e.0) p (λ names fs t al.
      let w : Written = (writing e.0).write [] fs t in
      let one : Wrote e.0 [] fs t w.table w.id = e.1 [] fs t al in
      put_wrote p names fs t w.table (node.Change (change.Rate a r) w.id) one.keeps one.aligned
      (λ code here xs before kept at. one.others code here xs before kept (parts.within here xs xs p e.0 at.0 (parts.rated xs p e.0 a r (is ∙ rolls-Rate a r e.0)), (false, refl)))
      (λ code here before kept at. standing.rate names p (length w.table.nodes) a r e.0 w.id (is ∙ rolls-Rate a r e.0) (one.stands code here before kept) at))

  of_bound : (x : Bound-F Term Bound Part) → IsWritten x.value → IsWrittenBind (roll-Bound x)
  of_bound x h = subst IsWritten (sym (ap (λ (b : Bound). b.value) (rolls-Bound' x))) h

  of_part : (x : Part-F Term Bound Part) → IsWrittenTerm x.term → IsWritten (roll-Part x)
  of_part x h =
      subst (WrittenAs (roll-Part x)) (sym (fold-roll-Part Writing BindWriting Writing term_writing bound_writing part_writing x))
      (h (roll-Part x) (ap (λ (p : Part). p.term) (rolls-Part' x)))

  pub written : (p : Part) → IsWritten p
  written = ind-Part IsWrittenTerm IsWrittenBind IsWritten
      (λ x y is. subst (λ z. IsWrittenTerm (roll-Term z)) is (of_term y))
      (λ x y is. subst (λ z. IsWrittenBind (roll-Bound z)) is (of_bound (record { name = y.name; value = y.value.0 }) y.value.1))
      (λ x y is. subst (λ z. IsWritten (roll-Part z)) is (of_part (record { at = y.at; term = y.term.0 }) y.term.1))
