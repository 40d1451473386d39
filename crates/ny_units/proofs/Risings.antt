-- How far a line has risen, from place to place.
use Rattle.std.proofs.Common.{◌≡◌, inl, inr, ℕ, ◌+◌, ◌-◌, ◌^◌, ◌<◌, ◌≤◌, sym, ap, subst, ◌∙◌, ℤ, pos, neg_ℤ, ◌+ℤ◌, ◌*ℤ◌, ◌≤ℤ◌, arith}
use Rattle.std.specs.Int.{int_rem_euclid}
use Rattle.std.proofs.lemmas.Bool.{cases_lt}
use Rattle.std.proofs.lemmas.Int.{ints}
use Rattle.std.proofs.Math.IntN.{*ℤ-one}
use Rattle.ny_num.specs.Numbers.{floor_div}
use Rattle.ny_units.specs.declared.line.Risen.{Risen}
use Rattle.ny_units.specs.Lines.{risen_at, IsSlope, IsPart, IsRisen}
use Rattle.ny_num.proofs.Quotients.{floor_kept, floor_carried, risen_more, risen_between}

pub slope_within : (rise : ℤ) (width place : ℕ) → IsSlope rise width place
    → (neg_ℤ (pos (2 ^ 32)) ≤ℤ risen_at rise width place) × (risen_at rise width place ≤ℤ pos (2 ^ 32))
slope_within rise width place s =
    risen_between (neg_ℤ (pos (2 ^ 32))) (pos (2 ^ 32)) rise place width s.some s.within (omega (arith, ints)) s.falls (omega (arith, ints)) s.rises

pub slope_before : (rise : ℤ) (width place end : ℕ) → place ≤ end → IsSlope rise width end → IsSlope rise width place
slope_before rise width place end less s = record { some = s.some; short = s.short; within = omega (arith, s.within); falls = s.falls; rises = s.rises }

module _ (rise : ℤ) (width place end : ℕ) (here step next : Risen) (slope : IsSlope rise width end) (less : place < end) (is : IsRisen rise width place here) (by : IsRisen rise width 1 step) where
  one_step : rise *ℤ pos place +ℤ rise *ℤ pos 1 ≡ rise *ℤ pos (place + 1)
  unfolding lib.IntN.one
  one_step = ap (λ z. rise *ℤ pos place +ℤ z) (*ℤ-one rise) ∙ sym (risen_more rise place)

  part_of : next.rest < width → next.whole ≡ risen_at rise width (place + 1) → IsPart next width
  part_of part whole =
      let b = slope_within rise width (place + 1) (slope_before rise width (place + 1) end (omega arith) slope) in
      record { part = part; low = subst (λ z. neg_ℤ (pos (2 ^ 32)) ≤ℤ z) (sym whole) b.0; high = subst (λ z. z ≤ℤ pos (2 ^ 32)) (sym whole) b.1 }

  next_kept : here.rest + step.rest < width → next.whole ≡ here.whole +ℤ step.whole → next.rest ≡ here.rest + step.rest → IsRisen rise width (place + 1) next
  next_kept less whole rest =
      let f = floor_kept width slope.some (rise *ℤ pos place) (rise *ℤ pos 1) here.rest step.rest is.rest by.rest less in
      let w : next.whole ≡ risen_at rise width (place + 1) = whole ∙ ap (λ z. z +ℤ step.whole) is.whole ∙ ap (λ z. risen_at rise width place +ℤ z) by.whole ∙ sym f.0 ∙ ap (λ z. floor_div z (pos width)) one_step in
      record {
        whole = w;
        rest = ap (λ z. int_rem_euclid z (pos width)) (sym one_step) ∙ f.1 ∙ ap pos (sym rest);
        part = part_of (omega arith) w;
      }

  next_carried : width ≤ here.rest + step.rest → next.whole ≡ here.whole +ℤ step.whole +ℤ pos 1 → next.rest ≡ here.rest + step.rest - width → IsRisen rise width (place + 1) next
  next_carried more whole rest =
      let f = floor_carried width slope.some (rise *ℤ pos place) (rise *ℤ pos 1) here.rest step.rest is.rest by.rest more in
      let w : next.whole ≡ risen_at rise width (place + 1) = whole ∙ ap (λ z. z +ℤ step.whole +ℤ pos 1) is.whole ∙ ap (λ z. risen_at rise width place +ℤ z +ℤ pos 1) by.whole ∙ sym f.0 ∙ ap (λ z. floor_div z (pos width)) one_step in
      record {
        whole = w;
        rest = ap (λ z. int_rem_euclid z (pos width)) (sym one_step) ∙ f.1 ∙ ap pos (sym rest);
        part = part_of (omega (arith, is.part.part, by.part.part)) w;
      }

  -- one place on, by the step of one place
  pub next_risen : (here.rest + step.rest < width → (next.whole ≡ here.whole +ℤ step.whole) × (next.rest ≡ here.rest + step.rest))
      → (width ≤ here.rest + step.rest → (next.whole ≡ here.whole +ℤ step.whole +ℤ pos 1) × (next.rest ≡ here.rest + step.rest - width))
      → IsRisen rise width (place + 1) next
  next_risen kept carried = elim (cases_lt (here.rest + step.rest) width) [
    | inl less ↦ next_kept less (kept less).0 (kept less).1
    | inr more ↦ next_carried more (carried more).0 (carried more).1
  ]
