-- Counts by what is kept of them.
use Rattle.std.proofs.Common.{◌≡◌, ℕ, suc, zero, ◌+◌, ◌*◌, ◌^◌, get_or, ◌<◌, ◌≤◌, List, [], ◌∷◌, map, refl, ap, ◌∙◌, arith, inl, inr, mul-le-mul_left}
use Rattle.std.specs.Prelude.{◌⊎◌}
use Rattle.std.proofs.lemmas.Bool.{cases_lt}
use Rattle.ny_resolve.specs.declared.term.Term.TheFolds.{fold-roll-Term, fold_out-Part}
use Rattle.ny_resolve.specs.declared.term.Term.TheOpen.{Term-F}
use Rattle.ny_resolve.specs.declared.term.Term.TheVariants as term
use Rattle.ny_resolve.specs.declared.term.Term.TheVariants.{rolls-Call, rolls-Repeat}
use Rattle.ny_resolve.specs.declared.term.Part.{Part}
use Rattle.ny_resolve.specs.declared.term.NameId.{NameId}
use Rattle.ny_resolve.specs.declared.builtin.Order.{Order}
use Rattle.ny_measures.specs.Counts.{capped, all_capped}
use Rattle.ny_measures.specs.Weight.{Weighed, total, term_weight, bound_weight, part_weight, weight_of}

pub capped_product : (n w : ℕ) → capped (n * capped w) ≡ capped (n * w)
capped_product n w = by (cases_lt w (2 ^ 32))
  where
    times : (k : ℕ) → 2 ^ 32 ≤ w → capped (k * 2 ^ 32) ≡ capped (k * w)
    times k ge = let h : k * 2 ^ 32 ≤ k * w = mul-le-mul_left k ge in grind arith

    by : ((w < 2 ^ 32) ⊎ (2 ^ 32 ≤ w)) → capped (n * capped w) ≡ capped (n * w)
    by (inl lt) = let e : capped w ≡ w = omega arith in rw e
    by (inr ge) = let e : capped w ≡ 2 ^ 32 = omega arith in rw e (times n ge)

pub known_capped : (ds : List ℕ) (n : ℕ) → get_or (all_capped ds) n 0 ≡ capped (get_or ds n 0)
known_capped [] n = refl
known_capped (d ∷ ds) zero = refl
known_capped (d ∷ ds) (suc n) = known_capped ds n

weight-Call : (e : Part) (n : ℕ) (es : List Part) (ds : List ℕ) → e.term ≡ term.Call n es → weight_of e ds ≡ 1 + total (map weight_of es) ds + get_or ds n 0
weight-Call e n es ds is = rw (fold_out-Part Weighed Weighed Weighed term_weight bound_weight part_weight e, is, ← rolls-Call n es, fold-roll-Term Weighed Weighed Weighed term_weight bound_weight part_weight (Term-F.Call n es))

pub arm-Call : (e : Part) (n : ℕ) (es : List Part) (known ds : List ℕ) (a w : ℕ) → e.term ≡ term.Call n es → known ≡ all_capped ds → a ≡ capped (total (map weight_of es) ds) → w ≡ get_or known n 0 → capped (capped (1 + a) + w) ≡ capped (weight_of e ds)
arm-Call e n es known ds a w is h p q =
    let last : w ≡ capped (get_or ds n 0) = q ∙ ap (λ (k : List ℕ). get_or k n 0) h ∙ known_capped ds n in
    rw (weight-Call e n es ds is) (sums (total (map weight_of es) ds) (get_or ds n 0) p last)
  where
    sums : (m o : ℕ) → a ≡ capped m → w ≡ capped o → capped (capped (1 + a) + w) ≡ capped (1 + m + o)
    sums m o h k = omega arith

weight-Repeat : (e : Part) (o : Order) (x : NameId) (n : ℕ) (b : Part) (ds : List ℕ) → e.term ≡ term.Repeat o x n b → weight_of e ds ≡ 1 + n * weight_of b ds
weight-Repeat e o x n b ds is = rw (fold_out-Part Weighed Weighed Weighed term_weight bound_weight part_weight e, is, ← rolls-Repeat o x n b, fold-roll-Term Weighed Weighed Weighed term_weight bound_weight part_weight (Term-F.Repeat o x n b))

pub arm-Repeat : (e : Part) (o : Order) (x : NameId) (n : ℕ) (b : Part) (ds : List ℕ) (w p : ℕ) → e.term ≡ term.Repeat o x n b → w ≡ capped (weight_of b ds) → p ≡ capped (n * w) → capped (1 + p) ≡ capped (weight_of e ds)
arm-Repeat e o x n b ds w p is h q =
    let times : p ≡ capped (n * weight_of b ds) = q ∙ ap (λ (k : ℕ). capped (n * k)) h ∙ capped_product n (weight_of b ds) in
    rw (weight-Repeat e o x n b ds is) (sums (n * weight_of b ds) times)
  where
    sums : (m : ℕ) → p ≡ capped m → capped (1 + p) ≡ capped (1 + m)
    sums m h = omega arith

pub ruleset by_form = (arm-Call, arm-Repeat)
