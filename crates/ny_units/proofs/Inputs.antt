-- What can be read of an input, and operations on what is read.
use Rattle.std.proofs.Common.{◌≡◌, ℕ, ◌+◌, ◌-◌, ◌<◌, ◌≤◌, min, List, map, ap, ◌∙◌, arith, ℤ, pos}
use Rattle.std.specs.List.{range_with_len}
use Rattle.ny_list.specs.Store.{StoreState, CursorState}
use Rattle.ny_list.specs.Steps.{IsComputed}
use Rattle.ny_kernels.specs.declared.operation.Op.{Op}
use Rattle.ny_kernels.specs.Operations.{operation}
use Rattle.ny_num.proofs.WrittenLists.{same_places}
use Rattle.ny_units.specs.declared.input.Source.{Source}
use Rattle.ny_units.specs.declared.input.Source.TheVariants.{Reader, Number}
use Rattle.ny_units.specs.Inputs.{CanHear, CanRead}

hear_within : (s : StoreState) (c : CursorState) (start from end n to : ℕ) → from ≤ n → to ≤ end → CanHear s c start from end → CanHear s c start n to
hear_within s c start from end n to later within h =
    let before : IsComputed s c (min c.visible (end - start) - c.place) = h.computed in
    record {
      stands = h.stands;
      ahead = omega (arith, h.ahead);
      computed = record { list = before.list; there = before.there; computed = omega (arith, before.computed) };
    }

-- what can be read over some indices can be read over some of these
pub read_within : (s : StoreState) (a : Source) (from end n to : ℕ) → from ≤ n → to ≤ end → CanRead s a from end → CanRead s a n to
read_within s (Reader cursor start) from end n to later within can = λ c is. hear_within s c start from end n to later within (can c is)
read_within s (Number value) from end n to later within can = tt

-- an operation on two runs, each counted from its own first place
pub pair_run : (op : Op) (p q f g : ℕ → ℤ) (n size : ℕ) (part : List ℤ) → part ≡ map (λ k. operation op (p k) (q k)) (range_with_len 0 size)
    → ((k : ℕ) → k < size → p k ≡ f (n + k)) → ((k : ℕ) → k < size → q k ≡ g (n + k))
    → part ≡ map (λ m. operation op (f m) (g m)) (range_with_len n size)
pair_run op p q f g n size part is left right =
    is ∙ same_places (λ k. operation op (p k) (q k)) (λ m. operation op (f m) (g m)) 0 n size (pos 0)
    (λ k h. let first : 0 + k ≡ k = omega arith in
    ap (λ i. operation op (p i) (q i)) first ∙ ap (λ v. operation op v (q k)) (left k h) ∙ ap (λ v. operation op (f (n + k)) v) (right k h))

-- the same, both counted from 0
pub pair_same : (op : Op) (p q f g : ℕ → ℤ) (size : ℕ) (part : List ℤ) → part ≡ map (λ k. operation op (p k) (q k)) (range_with_len 0 size)
    → ((k : ℕ) → k < size → p k ≡ f k) → ((k : ℕ) → k < size → q k ≡ g k)
    → part ≡ map (λ k. operation op (f k) (g k)) (range_with_len 0 size)
pair_same op p q f g size part is left right =
    pair_run op p q f g 0 size part is (λ k h. left k h ∙ ap f (omega arith)) (λ k h. right k h ∙ ap g (omega arith))
