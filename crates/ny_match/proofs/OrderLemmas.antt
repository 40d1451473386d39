-- How the plan fills a row: what the row lacks, one block after another, the first input that lacks first.
use Rattle.std.proofs.Common.{◌≡◌, ℕ, zero, suc, ◌+◌, ◌-◌, ◌<◌, ◌≤◌, Bool, true, false, cond, List, [], ◌∷◌, ◌++◌, length, Option, None, Some, slice_get, refl, sym, ap, ◌∙◌, arith}
use Rattle.std.specs.Prelude.{slice_index, slice_set}
use Rattle.std.specs.List.{AllByRecursion}
use Rattle.std.proofs.lemmas.List.{append_assoc}
use Rattle.ny_list.proofs.IndexLemmas.{same_some, none_some}
use Rattle.ny_heap.specs.Heap.{blocks_of}
use Rattle.ny_plan.specs.Rows.{Input, Row, row_at}
use Rattle.ny_plan.specs.Need.{Filled, need, has_come}
use Rattle.ny_plan.specs.Liveness.{live}
use Rattle.ny_plan.specs.Fills.{Fills, no_fills, followed_by, repeated, for_each, filled_upto, fill_of, fill_input, fill_row}
use Rattle.ny_plan.specs.Peak.{live_before}
use Rattle.ny_plan.specs.Order.{IsBelow, IsInputOf, AllRows}
use Rattle.ny_plan.specs.Demand.{IsWithin}
use Rattle.ny_plan.proofs.OrderLemmas.{all_later}

-- ---- fills one after another

pub followed_none : (f : Filled) (next : Filled → Fills) → followed_by (no_fills f) next ≡ next f
followed_none f next = refl

pub followed_assoc : (a : Fills) (g h : Filled → Fills) → followed_by (followed_by a g) h ≡ followed_by a (λ f. followed_by (g f) h)
followed_assoc a g h =
    let b = g a.filled in
    let c = h b.filled in
    ap (λ (o : List ℕ). let r : Fills = record { order = o; filled = c.filled } in r) (append_assoc a.order b.order c.order)

-- what follows is looked at where the first ends
pub followed_at : (a : Fills) (g h : Filled → Fills) → g a.filled ≡ h a.filled → followed_by a g ≡ followed_by a h
followed_at a g h e = ap (λ (r : Fills). let whole : Fills = record { order = a.order ++ r.order; filled = r.filled } in whole) e

-- ---- the blocks of each row once these rows got one more in turn

abbrev pub raised : List ℕ → Filled → Filled
raised [] f = f
raised (x ∷ xs) f = raised xs (slice_set f x (slice_index f x + 1))

pub raised_append : (xs ys : List ℕ) (f : Filled) → raised (xs ++ ys) f ≡ raised ys (raised xs f)
raised_append [] ys f = refl
raised_append (x ∷ xs) ys f = raised_append xs ys (slice_set f x (slice_index f x + 1))

pub before_append : (block : ℕ) (rows : List Row) (xs ys : List ℕ) (f : Filled) → live_before block rows (xs ++ ys) f ≡ live_before block rows xs f ++ live_before block rows ys (raised xs f)
before_append block rows [] ys f = refl
before_append block rows (x ∷ xs) ys f = ap (λ ns. live block rows f ∷ ns) (before_append block rows xs ys (slice_set f x (slice_index f x + 1)))

-- such fills are those of their order
abbrev pub IsByOrder : Filled → Fills → Type 0
IsByOrder f a = a.filled ≡ raised a.order f

pub followed_by_order : (f : Filled) (a : Fills) (next : Filled → Fills) → IsByOrder f a → IsByOrder a.filled (next a.filled) → IsByOrder f (followed_by a next)
followed_by_order f a next first rest = rest ∙ ap (λ g. raised (Fills.order (next a.filled)) g) first ∙ sym (raised_append a.order (Fills.order (next a.filled)) f)

module _ (block : ℕ) (rows : List Row) where
  repeated_by_order : (n : ℕ) (fill : Filled → Fills) → ((f : Filled) → IsByOrder f (fill f)) → (f : Filled) → IsByOrder f (repeated n fill f)
  repeated_by_order zero fill by f = refl
  repeated_by_order (suc n) fill by f = followed_by_order f (fill f) (repeated n fill) (by f) (repeated_by_order n fill by (Fills.filled (fill f)))

  input_by_order : (fill : ℕ → Filled → Fills) → ((y : ℕ) (f : Filled) → IsByOrder f (fill y f)) → (x : Row) (done : ℕ) (i : Input) (f : Filled) → IsByOrder f (fill_input block fill x done i f)
  input_by_order fill by x done i f = by_test (has_come block done i)
    where
      upto : (o : Option ℕ) (n : ℕ) → IsByOrder f (filled_upto fill o n f)
      upto None n = refl
      upto (Some y) n = repeated_by_order (n - slice_index f y) (fill y) (by y) f

      by_test : (b : Bool) → IsByOrder f (cond b (filled_upto fill i.sound.row (blocks_of block (need block x i (done + 1))) f) (no_fills f))
      by_test true = upto i.sound.row (blocks_of block (need block x i (done + 1)))
      by_test false = refl

  each_by_order : (fill : ℕ → Filled → Fills) → ((y : ℕ) (f : Filled) → IsByOrder f (fill y f)) → (x : Row) (done : ℕ) (is : List Input) (f : Filled) → IsByOrder f (for_each (fill_input block fill x done) is f)
  each_by_order fill by x done [] f = refl
  each_by_order fill by x done (i ∷ is) f =
      let first = fill_input block fill x done i f in
      followed_by_order f first (for_each (fill_input block fill x done) is) (input_by_order fill by x done i f) (each_by_order fill by x done is first.filled)

  pub row_by_order : (depth x : ℕ) (f : Filled) → IsByOrder f (fill_row block rows depth x f)
  row_by_order zero x f = refl
  row_by_order (suc depth) x f =
      let inputs = for_each (fill_input block (fill_row block rows depth) (row_at rows x) (slice_index f x)) (row_at rows x).inputs f in
      followed_by_order f inputs (fill_of x) (each_by_order (fill_row block rows depth) (row_by_order depth) (row_at rows x) (slice_index f x) (row_at rows x).inputs f) refl

  -- ---- any depth is deep enough

  same_repeated : (n : ℕ) (g h : Filled → Fills) → ((f : Filled) → g f ≡ h f) → (f : Filled) → repeated n g f ≡ repeated n h f
  same_repeated n g h same f = ap (λ (k : Filled → Fills). repeated n k f) (λ i a. same a i)

  same_upto : (g h : ℕ → Filled → Fills) (o : Option ℕ) (n : ℕ) (f : Filled) → ((y : ℕ) → o ≡ Some y → (a : Filled) → g y a ≡ h y a) → filled_upto g o n f ≡ filled_upto h o n f
  same_upto g h None n f same = refl
  same_upto g h (Some y) n f same = same_repeated (n - slice_index f y) (g y) (h y) (same y refl) f

  same_each : (g h : ℕ → Filled → Fills) (x : ℕ) (row : Row) (done : ℕ) → ((y : ℕ) → y < x → (a : Filled) → g y a ≡ h y a) → (is : List Input) → AllByRecursion (λ (i : Input). IsBelow x i.sound) is → (f : Filled)
      → for_each (fill_input block g row done) is f ≡ for_each (fill_input block h row done) is f
  same_each g h x row done same [] below f = refl
  same_each g h x row done same (i ∷ is) below f =
      let first = fill_input block h row done i f in
      ap (λ (a : Fills). followed_by a (for_each (fill_input block g row done) is)) input
      ∙ followed_at first (for_each (fill_input block g row done) is) (for_each (fill_input block h row done) is) (same_each g h x row done same is below.1 first.filled)
    where
      input : fill_input block g row done i f ≡ fill_input block h row done i f
      input = ap (λ (a : Fills). cond (has_come block done i) a (no_fills f)) (same_upto g h i.sound.row (blocks_of block (need block row i (done + 1))) f (λ y names. same y (below.0 y names)))

  pub same_depth : AllRows rows → (d e x : ℕ) → x < d → x < e → x < length rows → (f : Filled) → fill_row block rows d x f ≡ fill_row block rows e x f
  same_depth all zero e x low low_too inside f = absurd (omega (arith, low))
  same_depth all (suc d) zero x low low_too inside f = absurd (omega (arith, low_too))
  same_depth all (suc d) (suc e) x low low_too inside f =
      ap (λ (a : Fills). followed_by a (fill_of x))
      (same_each (fill_row block rows d) (fill_row block rows e) x (row_at rows x) (slice_index f x)
      (λ y before a. same_depth all d e y (omega (arith, low, before)) (omega (arith, low_too, before)) (omega (arith, inside, before)) a)
      (row_at rows x).inputs (all_later (IsInputOf x (row_at rows x)) (λ (i : Input). IsBelow x i.sound) (row_at rows x).inputs (λ i h. h.earlier) (all x inside)) f)

-- ---- what is met, and what lacks

-- what the next block of this row needs of an input that has come is there
abbrev pub IsMet : ℕ → Row → ℕ → Filled → Input → Type 0
IsMet block x done f i = has_come block done i ≡ true → (y : ℕ) → i.sound.row ≡ Some y → blocks_of block (need block x i (done + 1)) ≤ slice_index f y

abbrev pub AreMet : ℕ → Row → ℕ → Filled → List Input → ℕ → Type 0
AreMet block x done f is upto = (k : ℕ) (i : Input) → slice_get is k ≡ Some i → k < upto → IsMet block x done f i

met_later : (block : ℕ) (x : Row) (done : ℕ) (f g : Filled) (i : Input) → IsWithin f g → IsMet block x done f i → IsMet block x done g i
met_later block x done f g i within met come y names = omega (arith, within y, met come y names)

-- nothing is filled for what is met
met_none : (block : ℕ) (fill : ℕ → Filled → Fills) (x : Row) (done : ℕ) (f : Filled) (i : Input) → IsMet block x done f i → fill_input block fill x done i f ≡ no_fills f
met_none block fill x done f i met = by_test (has_come block done i) refl
  where
    upto : (o : Option ℕ) (n : ℕ) → ((y : ℕ) → o ≡ Some y → n ≤ slice_index f y) → filled_upto fill o n f ≡ no_fills f
    upto None n enough = refl
    upto (Some y) n enough = ap (λ k. repeated k (fill y) f) (none_left (slice_index f y) n (enough y refl))
      where
        none_left : (a n : ℕ) → n ≤ a → n - a ≡ 0
        none_left a n le = omega (arith, le)

    by_test : (b : Bool) → has_come block done i ≡ b → fill_input block fill x done i f ≡ no_fills f
    by_test false e = ap (λ b. cond b (filled_upto fill i.sound.row (blocks_of block (need block x i (done + 1))) f) (no_fills f)) e
    by_test true e = ap (λ b. cond b (filled_upto fill i.sound.row (blocks_of block (need block x i (done + 1))) f) (no_fills f)) e ∙ upto i.sound.row (blocks_of block (need block x i (done + 1))) (met e)

pub all_met : (block : ℕ) (fill : ℕ → Filled → Fills) (x : Row) (done : ℕ) (f : Filled) (is : List Input) → ((k : ℕ) (i : Input) → slice_get is k ≡ Some i → IsMet block x done f i) → for_each (fill_input block fill x done) is f ≡ no_fills f
all_met block fill x done f [] met = refl
all_met block fill x done f (i ∷ is) met =
    ap (λ (a : Fills). followed_by a (for_each (fill_input block fill x done) is)) (met_none block fill x done f i (met 0 i refl))
    ∙ all_met block fill x done f is (λ k j there. met (suc k) j there)

-- The first input that lacks: row y, of which the next block of x needs one more than there is
pub record Lacks (block : ℕ) (x : Row) (done : ℕ) (f : Filled) (is : List Input) (y : ℕ) : Type 0 where
  pub place : ℕ
  pub input : Input
  pub there : slice_get is place ≡ Some input
  pub names : input.sound.row ≡ Some y
  pub come : has_come block done input ≡ true
  pub short : slice_index f y < blocks_of block (need block x input (done + 1))
  pub before : AreMet block x done f is place

-- row y is filled once, and then what is still lacking
pub lacks_first : (block : ℕ) (fill : ℕ → Filled → Fills) (x : Row) (done : ℕ) (f : Filled) (is : List Input) (y : ℕ) → Lacks block x done f is y
    → slice_index (Fills.filled (fill y f)) y ≡ slice_index f y + 1 → IsWithin f (Fills.filled (fill y f))
    → for_each (fill_input block fill x done) is f ≡ followed_by (fill y f) (for_each (fill_input block fill x done) is)
lacks_first block fill x done f is y lack one within = at lack.place is lack.input lack.there lack.names lack.come lack.short lack.before
  where
    F : List Input → Filled → Fills
    F = for_each (fill_input block fill x done)

    g : Fills
    g = fill y f

    at : (k : ℕ) (is : List Input) (i : Input) → slice_get is k ≡ Some i → i.sound.row ≡ Some y → has_come block done i ≡ true → slice_index f y < blocks_of block (need block x i (done + 1)) → AreMet block x done f is k
        → F is f ≡ followed_by g (F is)
    at k [] i there names come short before = absurd (none_some there)
    at zero (j ∷ is) i there names come short before =
        ap (λ (a : Fills). followed_by a (F is)) (ap (λ b. cond b (filled_upto fill j.sound.row n f) (no_fills f)) came ∙ ap (λ o. filled_upto fill o n f) named ∙ ap (λ k. repeated k (fill y) f) (left (slice_index f y) n few))
        ∙ followed_assoc g (repeated m (fill y)) (F is)
        ∙ followed_at g (λ h. followed_by (repeated m (fill y) h) (F is)) (F (j ∷ is))
        (ap (λ (a : Fills). followed_by a (F is)) (sym (ap (λ b. cond b (filled_upto fill j.sound.row n g.filled) (no_fills g.filled)) came ∙ ap (λ o. filled_upto fill o n g.filled) named ∙ ap (λ k. repeated k (fill y) g.filled) (rest (slice_index f y) (slice_index g.filled y) n one))))
      where
        n : ℕ
        n = blocks_of block (need block x j (done + 1))

        m : ℕ
        m = n - (slice_index f y + 1)

        same : j ≡ i
        same = same_some there

        came : has_come block done j ≡ true
        came = ap (has_come block done) same ∙ come

        named : j.sound.row ≡ Some y
        named = ap (λ (q : Input). q.sound.row) same ∙ names

        few : slice_index f y < n
        few = omega (arith, short, ap (λ (q : Input). blocks_of block (need block x q (done + 1))) same)

        left : (a n : ℕ) → a < n → n - a ≡ suc (n - (a + 1))
        left a n lt = omega (arith, lt)

        rest : (a b n : ℕ) → b ≡ a + 1 → n - b ≡ n - (a + 1)
        rest a b n e = omega (arith, e)
    at (suc k) (j ∷ is) i there names come short before =
        ap (λ (a : Fills). followed_by a (F is)) (met_none block fill x done f j (before 0 j refl (omega arith)))
        ∙ at k is i there names come short (λ p q here low. before (suc p) q here (omega (arith, low)))
        ∙ followed_at g (F is) (F (j ∷ is)) (sym (ap (λ (a : Fills). followed_by a (F is)) (met_none block fill x done g.filled j (met_later block x done f g.filled j within (before 0 j refl (omega arith))))))
