-- Sums of sounds at an index, from the left.
use Rattle.std.proofs.Common.{◌≡◌, ℕ, zero, suc, ◌+◌, ◌-◌, ◌<◌, ◌≤◌, List, [], ◌∷◌, length, fold, take, get_or, None, Some, Bool, true, false, nat_le, if◌then◌else◌, refl, ap, ◌∙◌, arith, ℤ, pos, neg_ℤ, ◌+ℤ◌, ◌≤ℤ◌}
use Rattle.std.specs.Option.{option_map_or}
use Rattle.std.specs.Int.{int_min, int_max}
use Rattle.std.proofs.lemmas.Int.{ints, clamps, int_max_is, int_min_is}
use Rattle.std.proofs.lemmas.List.{get_or-map, length-map}
use Rattle.std.proofs.lemmas.List.Sums.{fold_more}
use Rattle.ny_list.specs.Store.{CursorState}
use Rattle.ny_num.specs.Numbers.{IsSample, sat_sample, sample_add, sample_limit}
use Rattle.ny_num.specs.Sound.{Sound, value_at}
use Rattle.ny_num.specs.Mix.{sum_at}
use Rattle.ny_num.specs.declared.rate.Rate.{Rate}
use Rattle.ny_units.specs.Inputs.{heard_at}
use Rattle.ny_mix.specs.declared.part.Part.{Part}
use Rattle.ny_mix.specs.Mixes.{part_at, cursor_at, no_part, part_sound, sounds_of}

-- ---- clamps

clamped : (low high z : ℤ) → low ≤ℤ high → (low ≤ℤ int_max low (int_min z high)) × (int_max low (int_min z high) ≤ℤ high)
clamped low high z le =
    let most = int_max_is low (int_min z high) in
    let least = int_min_is z high in
    (omega (arith, ints, most, least), omega (arith, ints, most, least))

sum_is_sample : (a b : ℤ) → IsSample (sample_add a b)
unfolding sample_add sat_sample
sum_is_sample a b = clamped (neg_ℤ sample_limit) sample_limit (a +ℤ b) (omega (arith, ints))

-- adding nothing to a sample changes nothing
pub add_nothing : (v : ℤ) → IsSample v → sample_add v (pos 0) ≡ v
unfolding sample_add sat_sample
add_nothing v is = omega (arith, ints, clamps, is.0, is.1)

-- ---- sums

total_is_sample : (ss : List Sound) (n : ℕ) (v : ℤ) → IsSample v → IsSample (fold (λ t s. sample_add t (value_at s n)) v ss)
total_is_sample [] n v is = is
total_is_sample (s ∷ ss) n v is = total_is_sample ss n (sample_add v (value_at s n)) (sum_is_sample v (value_at s n))

-- a sum is a sample
pub sum_within : (ss : List Sound) (n : ℕ) → IsSample (sum_at ss n)
unfolding sum_at
sum_within ss n = total_is_sample ss n (pos 0) (omega (arith, ints), omega (arith, ints))

-- one more sound is added last
more : (ss : List Sound) (i n : ℕ) (d : Sound) → i < length ss → sum_at (take (i + 1) ss) n ≡ sample_add (sum_at (take i ss) n) (value_at (get_or ss i d) n)
unfolding sum_at
more ss i n d within = fold_more (λ t s. sample_add t (value_at s n)) (pos 0) ss i d within

none_yet : (ss : List Sound) (n : ℕ) → sum_at (take 0 ss) n ≡ pos 0
unfolding sum_at
none_yet ss n = refl

-- ---- parts

-- so of parts
pub part_more : (r : Rate) (whole : ℕ → List ℤ) (parts : List Part) (i n : ℕ) → i < length parts
    → sum_at (take (i + 1) (sounds_of r whole parts)) n ≡ sample_add (sum_at (take i (sounds_of r whole parts)) n) (value_at (part_sound r whole (part_at parts i)) n)
part_more r whole parts i n within =
    let d : Sound = part_sound r whole no_part in
    more (sounds_of r whole parts) i n d (omega (arith, within, length-map parts (part_sound r whole)))
    ∙ ap (λ s. sample_add (sum_at (take i (sounds_of r whole parts)) n) (value_at s n)) (get_or-map (part_sound r whole) parts i no_part d within)

-- what a part with this cursor has at an index
pub value_heard : (r : Rate) (whole : ℕ → List ℤ) (p : Part) (c : CursorState) (n : ℕ) → p.cursor ≡ Some c → value_at (part_sound r whole p) n ≡ heard_at p.start (take c.visible (whole c.list)) n
unfolding value_at
value_heard r whole p c n is = ap (λ o. heard_at p.start (option_map_or (λ d. take d.visible (whole d.list)) o []) n) is

no_samples : (start n : ℕ) → heard_at start [] n ≡ pos 0
no_samples start n = by_test (nat_le start n)
  where
    by_test : (b : Bool) → (if b then get_or {A = ℤ} [] (n - start) (pos 0) else pos 0) ≡ pos 0
    by_test true = refl
    by_test false = refl

-- and one without a cursor
pub value_silent : (r : Rate) (whole : ℕ → List ℤ) (p : Part) (n : ℕ) → p.cursor ≡ None → value_at (part_sound r whole p) n ≡ pos 0
unfolding value_at
value_silent r whole p n is = ap (λ o. heard_at p.start (option_map_or (λ d. take d.visible (whole d.list)) o []) n) is ∙ no_samples p.start n

-- parts without cursors are silent
pub none_heard : (r : Rate) (whole : ℕ → List ℤ) (parts : List Part) (over n : ℕ) → over ≤ length parts → ((i : ℕ) → i < over → cursor_at parts i ≡ None)
    → sum_at (take over (sounds_of r whole parts)) n ≡ pos 0
none_heard r whole parts zero n inside gone = none_yet (sounds_of r whole parts) n
none_heard r whole parts (suc i) n inside gone =
    let one : suc i ≡ i + 1 = omega arith in
    ap (λ k. sum_at (take k (sounds_of r whole parts)) n) one
    ∙ part_more r whole parts i n (omega arith)
    ∙ ap (λ t. sample_add t (value_at (part_sound r whole (part_at parts i)) n)) (none_heard r whole parts i n (omega arith) (λ j h. gone j (omega arith)))
    ∙ ap (sample_add (pos 0)) (value_silent r whole (part_at parts i) n (gone i (omega arith)))
    ∙ add_nothing (pos 0) (omega (arith, ints), omega (arith, ints))
