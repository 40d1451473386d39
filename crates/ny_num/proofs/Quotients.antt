-- Quotients that are rounded down, of sums.
use Rattle.std.proofs.Common.{◌≡◌, ℕ, zero, suc, ◌+◌, ◌-◌, ◌*◌, ◌/◌, ◌%◌, ◌<◌, ◌≤◌, refl, sym, ap, subst, ◌∙◌, ℤ, pos, negsuc, ◌+ℤ◌, ◌-ℤ◌, ◌*ℤ◌, ◌≤ℤ◌, neg_ℤ, arith}
use Rattle.std.specs.Int.{int_rem_euclid}
use Rattle.std.proofs.lemmas.Int.{ints, int_rem_euclid_is}
use Rattle.std.proofs.lemmas.Nat.{div-mul-add}
use Rattle.std.proofs.Math.Nat.{add-mul, le-mul_of_pos_right, div-lt_iff_lt-mul, div-le_of_le-mul, mul-le-mul_left, mul_comm}
use Rattle.std.proofs.Math.IntN.{suc_ℤ, suc_ℤ-*ℤ, *ℤ_comm, *ℤ-zero, pos-*ℤ-pos, negsuc-*ℤ-pos}
use Rattle.ny_num.specs.Numbers.{floor_div}

-- ---- whole numbers from 0 on

module _ (w : ℕ) (some : 0 < w) where
  quotient_is : (n q r : ℕ) → n ≡ q * w + r → r < w → n / w ≡ q
  quotient_is n q r e less = ap (λ m. m / w) e ∙ div-mul-add q w r less

  split : (n : ℕ) → n ≡ n / w * w + n % w
  split n = omega arith

  joined : (a b : ℕ) → a + b ≡ (a / w + b / w) * w + (a % w + b % w)
  joined a b = rw (add-mul (a / w) (b / w) w) (omega (arith, split a, split b))

  -- the rests of two numbers add up to less than a whole
  pub kept : (a b : ℕ) → a % w + b % w < w → ((a + b) / w ≡ a / w + b / w) × ((a + b) % w ≡ a % w + b % w)
  kept a b less =
      let q : (a + b) / w ≡ a / w + b / w = quotient_is (a + b) (a / w + b / w) (a % w + b % w) (joined a b) less in
      (q, omega (arith, split (a + b), ap (λ n. n * w) q, joined a b))

  -- or to more
  pub carried : (a b : ℕ) → w ≤ a % w + b % w → ((a + b) / w ≡ a / w + b / w + 1) × ((a + b) % w ≡ a % w + b % w - w)
  carried a b more =
      let e : (a / w + b / w + 1) * w ≡ (a / w + b / w) * w + 1 * w = add-mul (a / w + b / w) 1 w in
      let q : (a + b) / w ≡ a / w + b / w + 1 = quotient_is (a + b) (a / w + b / w + 1) (a % w + b % w - w) (omega (arith, joined a b, e)) (omega arith) in
      (q, omega (arith, split (a + b), ap (λ n. n * w) q, joined a b, e))

-- ---- whole numbers, below 0 too

module _ (w : ℕ) (some : 0 < w) where
  -- a number that so many whole widths lift above 0
  pub record Lifts (z : ℤ) : Type 0 where
    pub by : ℕ
    pub to : ℕ
    pub is : z +ℤ pos (by * w) ≡ pos to

  lifts : (z : ℤ) → Lifts z
  lifts (pos a) = record { by = 0; to = a; is = omega (arith, ints) }
  lifts (negsuc a) =
      let more : suc a ≤ suc a * w = le-mul_of_pos_right (suc a) some in
      record { by = suc a; to = suc a * w - suc a; is = omega (arith, ints) }

  pub floor_lifted : (z : ℤ) (n k : ℕ) → z +ℤ pos (k * w) ≡ pos n → floor_div z (pos w) ≡ pos (n / w) -ℤ pos k
  floor_lifted (pos a) n k e =
      let same : n ≡ a + k * w = omega (arith, ints) in
      let q : n / w ≡ a / w + k = quotient_is w some n (a / w + k) (a % w) (omega (arith, same, split w some a, add-mul (a / w) k w)) (omega arith) in
      omega (arith, ints)
  floor_lifted (negsuc a) n k e =
      let same : n + suc a ≡ k * w = omega (arith, ints) in
      let under : a / w < k = below_lift a k (omega arith) in
      let q : n / w ≡ k - 1 - a / w = quotient_is w some n (k - 1 - a / w) (w - 1 - a % w) (omega (arith, same, split w some a, widths a k under)) (omega arith) in
      omega (arith, ints)
    where
      below_lift : (a k : ℕ) → a < k * w → a / w < k
      below_lift a k less = (div-lt_iff_lt-mul some).1 less

      widths : (a k : ℕ) → a / w < k → (k - 1 - a / w) * w + w + a / w * w ≡ k * w
      widths a k less =
          let j : ℕ = k - 1 - a / w in
          let e : k ≡ j + 1 + a / w = omega arith in
          omega (arith, ap (λ n. n * w) e, add-mul (j + 1) (a / w) w, add-mul j 1 w)

  -- the sum of two numbers where what is left over of both is less than the width
  same_pos : {a b : ℕ} → pos a ≡ pos b → a ≡ b
  same_pos e = cc

  together : (z s : ℤ) (p : Lifts z) (q : Lifts s) → (z +ℤ s) +ℤ pos ((p.by + q.by) * w) ≡ pos (p.to + q.to)
  together z s p q = omega (arith, ints, p.is, q.is, add-mul p.by q.by w)

  pub floor_kept : (z s : ℤ) (a b : ℕ) → int_rem_euclid z (pos w) ≡ pos a → int_rem_euclid s (pos w) ≡ pos b → a + b < w
      → (floor_div (z +ℤ s) (pos w) ≡ floor_div z (pos w) +ℤ floor_div s (pos w)) × (int_rem_euclid (z +ℤ s) (pos w) ≡ pos (a + b))
  floor_kept z s a b left right less =
      let p : Lifts z = lifts z in
      let q : Lifts s = lifts s in
      let ra : a ≡ p.to % w = same_pos (sym left ∙ int_rem_euclid_is z (pos w) w p.by p.to some refl p.is) in
      let rb : b ≡ q.to % w = same_pos (sym right ∙ int_rem_euclid_is s (pos w) w q.by q.to some refl q.is) in
      let k : ((p.to + q.to) / w ≡ p.to / w + q.to / w) × ((p.to + q.to) % w ≡ p.to % w + q.to % w) = kept w some p.to q.to (omega arith) in
      let both : (z +ℤ s) +ℤ pos ((p.by + q.by) * w) ≡ pos (p.to + q.to) = together z s p q in (
        omega (arith, ints, floor_lifted (z +ℤ s) (p.to + q.to) (p.by + q.by) both, floor_lifted z p.to p.by p.is, floor_lifted s q.to q.by q.is, k.0),
        int_rem_euclid_is (z +ℤ s) (pos w) w (p.by + q.by) (p.to + q.to) some refl both ∙ ap pos (omega (arith, k.1)),
      )

  -- and where it is as much as the width or more
  pub floor_carried : (z s : ℤ) (a b : ℕ) → int_rem_euclid z (pos w) ≡ pos a → int_rem_euclid s (pos w) ≡ pos b → w ≤ a + b
      → (floor_div (z +ℤ s) (pos w) ≡ floor_div z (pos w) +ℤ floor_div s (pos w) +ℤ pos 1) × (int_rem_euclid (z +ℤ s) (pos w) ≡ pos (a + b - w))
  floor_carried z s a b left right more =
      let p : Lifts z = lifts z in
      let q : Lifts s = lifts s in
      let ra : a ≡ p.to % w = same_pos (sym left ∙ int_rem_euclid_is z (pos w) w p.by p.to some refl p.is) in
      let rb : b ≡ q.to % w = same_pos (sym right ∙ int_rem_euclid_is s (pos w) w q.by q.to some refl q.is) in
      let k : ((p.to + q.to) / w ≡ p.to / w + q.to / w + 1) × ((p.to + q.to) % w ≡ p.to % w + q.to % w - w) = carried w some p.to q.to (omega arith) in
      let both : (z +ℤ s) +ℤ pos ((p.by + q.by) * w) ≡ pos (p.to + q.to) = together z s p q in (
        omega (arith, ints, floor_lifted (z +ℤ s) (p.to + q.to) (p.by + q.by) both, floor_lifted z p.to p.by p.is, floor_lifted s q.to q.by q.is, k.0),
        int_rem_euclid_is (z +ℤ s) (pos w) w (p.by + q.by) (p.to + q.to) some refl both ∙ ap pos (omega (arith, k.1)),
      )

-- ---- a product with a part of the width

-- it rises by one factor where the other grows by one
pub risen_more : (rise : ℤ) (place : ℕ) → rise *ℤ pos (place + 1) ≡ rise *ℤ pos place +ℤ rise
risen_more rise place = *ℤ_comm rise (pos (place + 1)) ∙ ap (λ z. z *ℤ rise) (next place) ∙ suc_ℤ-*ℤ (pos place) rise ∙ ap (λ z. z +ℤ rise) (*ℤ_comm (pos place) rise)
  where
    next : (n : ℕ) → pos (n + 1) ≡ suc_ℤ (pos n)
    next n = ap pos (omega arith)

-- no more than the whole is risen on the way, up or down
pub risen_between : (low high rise : ℤ) (place w : ℕ) → 0 < w → place ≤ w → low ≤ℤ pos 0 → low ≤ℤ rise → pos 0 ≤ℤ high → rise ≤ℤ high
    → (low ≤ℤ floor_div (rise *ℤ pos place) (pos w)) × (floor_div (rise *ℤ pos place) (pos w) ≤ℤ high)
risen_between low high (pos a) place w some within l0 l h0 h =
    let few : a * place / w ≤ a = div-le_of_le-mul w (omega (arith, mul-le-mul_left a within, mul_comm a w)) in
    let P : ℤ → Type 0 = λ z. (low ≤ℤ floor_div z (pos w)) × (floor_div z (pos w) ≤ℤ high) in
    subst P (sym (pos-*ℤ-pos a place)) (omega (arith, ints), omega (arith, ints))
risen_between low high (negsuc a) zero w some within l0 l h0 h =
    let P : ℤ → Type 0 = λ z. (low ≤ℤ floor_div z (pos w)) × (floor_div z (pos w) ≤ℤ high) in
    let e : 0 / w ≡ 0 = omega arith in
    subst P (sym (*ℤ-zero (negsuc a))) (omega (arith, ints, e), omega (arith, ints, e))
risen_between low high (negsuc a) (suc place) w some within l0 l h0 h =
    let P : ℤ → Type 0 = λ z. (low ≤ℤ floor_div z (pos w)) × (floor_div z (pos w) ≤ℤ high) in
    let n : ℕ = suc a * suc place in
    let one : 0 < n = omega (arith, le-mul_of_pos_right (suc a) (positive place)) in
    let low_n : n - 1 < suc a * w = omega (arith, mul-le-mul_left (suc a) within) in
    let few : (n - 1) / w < suc a = (div-lt_iff_lt-mul some).1 low_n in
    subst P (sym (negsuc-*ℤ-pos a (suc place) ∙ below n one)) (omega (arith, ints), omega (arith, ints))
  where
    positive : (m : ℕ) → 0 < suc m
    positive m = omega arith

    below : (m : ℕ) → 0 < m → neg_ℤ (pos m) ≡ negsuc (m - 1)
    below m some = omega (arith, ints)
