-- Each part of a text that leaves nothing out leaves nothing out.
use Rattle.std.proofs.Common.{◌≡◌, ℕ, ◌≤◌, true, List, [], ◌∷◌, ◌++◌, map, length, get_or, sym, ap, ◌∙◌, subst, inl, inr, arith}
use Rattle.std.specs.Prelude.{◌&&◌, not, nat_lt, nat_eq}
use Rattle.ny_warp.specs.Maps.{is_rising}
use Rattle.ny_resolve.specs.declared.term.NameId.{NameId}
use Rattle.ny_resolve.specs.declared.term.Term.{Term}
use Rattle.ny_resolve.specs.declared.term.Term.TheVariants.{rolls-Call, rolls-Block, rolls-Apply, rolls-Over, rolls-Repeat, rolls-Nameless, rolls-Warp, rolls-Rate}
use Rattle.ny_resolve.specs.declared.term.Term.TheOpen.{Term-F}
use Rattle.ny_resolve.specs.declared.term.Term.TheFolds.{map-Term}
use Rattle.ny_resolve.specs.declared.term.Term.TheViews.{roll-Term}
use Rattle.ny_resolve.specs.declared.term.Part.{Part}
use Rattle.ny_resolve.specs.declared.term.Bound.{Bound}
use Rattle.ny_resolve.specs.declared.term.Declared.{Declared}
use Rattle.ny_resolve.specs.Builtins.{operator_arity, fits}
use Rattle.ny_resolve.specs.Literals.{is_zero}
use Rattle.ny_kinds.specs.Kinds.{no_declared}
use Rattle.ny_check.specs.Writing.{points_of}
use Rattle.ny_laws.specs.TextParts.{IsAmong, IsBindAmong, names_after, IsPartOf, IsInText}
use Rattle.ny_laws.specs.TextParts as parts
use Rattle.ny_laws.specs.Whole.{Place, Tested, TestedBind, all_whole, block_whole, few, is_times, term_whole, is_whole, is_whole_bind}
use Rattle.ny_laws.proofs.Layers.{whole_term, whole-at, whole-bind}
use Rattle.ny_laws.proofs.OperatorKinds.{both_true}
use Rattle.ny_laws.proofs.TextKinds.{TextWhole}

module _ (ds : List Declared) where
  abbrev pub place_at : ℕ → List NameId → Place
  place_at here xs = record { declared = ds; here = here; names = xs }

  -- by the term of a part
  pub whole_of : (p : Part) (x : Term-F Term Bound Part) (s : Place) → p.term ≡ roll-Term x → is_whole p s ≡ true
      → term_whole (map-Term Term Bound Part Tested TestedBind Tested whole_term is_whole_bind is_whole x) s ≡ true
  whole_of p x s is h = ap (λ (t : Tested). t s) (sym (whole-at p x is)) ∙ h

  among_whole : (q : Part) (es : List Part) (s : Place) → IsAmong q es → all_whole (map is_whole es) s ≡ true → is_whole q s ≡ true
  among_whole q [] s is h = absurd is
  among_whole q (e ∷ es) s (inl same) h = subst (λ (p : Part). is_whole p s ≡ true) same (both_true (is_whole e s) (all_whole (map is_whole es) s) h).0
  among_whole q (e ∷ es) s (inr more) h = among_whole q es s more (both_true (is_whole e s) (all_whole (map is_whole es) s) h).1

  -- a block by its first bind
  first_bind : (b : Bound) (bs : List Bound) (e : Tested) (here : ℕ) (xs : List NameId) → block_whole (map is_whole_bind (b ∷ bs)) e (place_at here xs) ≡ true
      → (is_whole b.value (place_at here xs) ≡ true) × (block_whole (map is_whole_bind bs) e (place_at here (xs ++ b.name ∷ [])) ≡ true)
  first_bind b bs e here xs h =
      both_true (is_whole b.value (place_at here xs)) (block_whole (map is_whole_bind bs) e (place_at here (xs ++ b.name ∷ [])))
      (ap (λ (w : TestedBind). block_whole (w ∷ map is_whole_bind bs) e (place_at here xs)) (sym (whole-bind b)) ∙ h)

  bind_whole : (q : Part) (bs : List Bound) (e : Tested) (here : ℕ) (xs ys : List NameId) → IsBindAmong xs bs ys q → block_whole (map is_whole_bind bs) e (place_at here xs) ≡ true
      → is_whole q (place_at here ys) ≡ true
  bind_whole q [] e here xs ys is h = absurd is
  bind_whole q (b ∷ bs) e here xs ys (inl same) h =
      subst (λ (zs : List NameId). is_whole q (place_at here zs) ≡ true) same.0
      (subst (λ (p : Part). is_whole p (place_at here xs) ≡ true) same.1 (first_bind b bs e here xs h).0)
  bind_whole q (b ∷ bs) e here xs ys (inr more) h = bind_whole q bs e here (xs ++ b.name ∷ []) ys more (first_bind b bs e here xs h).1

  result_whole : (bs : List Bound) (e : Tested) (here : ℕ) (xs : List NameId) → block_whole (map is_whole_bind bs) e (place_at here xs) ≡ true → e (place_at here (names_after bs xs)) ≡ true
  result_whole [] e here xs h = h
  result_whole (b ∷ bs) e here xs h = result_whole bs e here (xs ++ b.name ∷ []) (first_bind b bs e here xs h).1

  part_whole : (here : ℕ) (xs ys : List NameId) (p q : Part) → IsPartOf xs p ys q → is_whole p (place_at here xs) ≡ true → is_whole q (place_at here ys) ≡ true
  part_whole here xs ys p q (parts.argument _ _ _ n es is among) h =
      let told = whole_of p (Term-F.Call n es) (place_at here xs) (is ∙ sym (rolls-Call n es)) h in
      among_whole q es (place_at here xs) among
      (both_true (nat_lt n here && nat_eq (length (map is_whole es)) (length (get_or ds n no_declared).params)) (all_whole (map is_whole es) (place_at here xs)) told).1
  part_whole here xs ys p q (parts.bind _ _ _ _ bs e is among) h =
      bind_whole q bs (is_whole e) here xs ys among (whole_of p (Term-F.Block bs e) (place_at here xs) (is ∙ sym (rolls-Block bs e)) h)
  part_whole here xs ys p q (parts.result _ _ _ bs is) h =
      result_whole bs (is_whole q) here xs (whole_of p (Term-F.Block bs q) (place_at here xs) (is ∙ sym (rolls-Block bs q)) h)
  part_whole here xs ys p q (parts.operand _ _ _ o es is among) h =
      let told = whole_of p (Term-F.Apply o es) (place_at here xs) (is ∙ sym (rolls-Apply o es)) h in
      among_whole q es (place_at here xs) among
      (both_true (fits (operator_arity o) (length (map is_whole es)) && few o (length (map is_whole es))) (all_whole (map is_whole es) (place_at here xs)) told).1
  part_whole here xs ys p q (parts.dividend _ _ _ v is) h =
      (both_true (not (is_zero v)) (is_whole q (place_at here xs)) (whole_of p (Term-F.Over q v) (place_at here xs) (is ∙ sym (rolls-Over q v)) h)).1
  part_whole here xs ys p q (parts.repeated _ _ _ o x n is) h =
      (both_true (is_times n) (is_whole q (place_at here (xs ++ x ∷ []))) (whole_of p (Term-F.Repeat o x n q) (place_at here xs) (is ∙ sym (rolls-Repeat o x n q)) h)).1
  part_whole here xs ys p q (parts.nameless _ _ _ is) h = let told = whole_of p (Term-F.Nameless q) (place_at here xs) (is ∙ sym (rolls-Nameless q)) h in cc
  part_whole here xs ys p q (parts.warped _ _ _ vs is) h =
      (both_true (is_rising (points_of vs)) (is_whole q (place_at here xs)) (whole_of p (Term-F.Warp vs q) (place_at here xs) (is ∙ sym (rolls-Warp vs q)) h)).1
  part_whole here xs ys p q (parts.rated _ _ _ a r is) h = whole_of p (Term-F.Rate a r q) (place_at here xs) (is ∙ sym (rolls-Rate a r q)) h

  -- the declaration that a part stands in is one of the text, or what is played
  pub here_within : (play : Part) (here : ℕ) (xs : List NameId) (p : Part) → IsInText ds play here xs p → here ≤ length ds
  here_within play here xs p (parts.body _ lt) = omega (arith, lt)
  here_within play here xs p parts.played = omega arith
  here_within play here xs p (parts.within _ ys _ q _ is more) = here_within play here ys q is

  pub text_part_whole : (play : Part) → TextWhole ds play → (here : ℕ) (xs : List NameId) (p : Part) → IsInText ds play here xs p → is_whole p (place_at here xs) ≡ true
  text_part_whole play whole here xs p (parts.body _ lt) = whole.bodies here lt
  text_part_whole play whole here xs p parts.played = whole.play
  text_part_whole play whole here xs p (parts.within _ ys _ q _ is more) = part_whole here ys xs q p more (text_part_whole play whole here ys q is)
