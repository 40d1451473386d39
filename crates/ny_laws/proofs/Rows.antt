-- What a row says is a kind or a refusal, where each operand has a kind.
use Rattle.std.proofs.Common.{◌≡◌, ℕ, Bool, true, false, List, length, refl, Option, Some, None}
use Rattle.std.specs.Prelude.{nat_eq, ◌&&◌, not, if◌then◌else◌}
use Rattle.std.specs.List.{list_all}
use Rattle.ny_resolve.specs.declared.builtin.Operator.{Operator}
use Rattle.ny_resolve.specs.declared.builtin.Operator.TheVariants as op
use Rattle.ny_kinds.specs.declared.kind.Kind.{Kind}
use Rattle.ny_kinds.specs.declared.kind.Kind.TheVariants.{Number, Sound, Test, Channels}
use Rattle.ny_kinds.specs.declared.kind.Judgement.{Judgement}
use Rattle.ny_kinds.specs.declared.kind.Judgement.TheVariants.{Is, Refused, Silent}
use Rattle.ny_kinds.specs.Rows.{is_number, is_sound, is_test, is_value, kind_at, kind_eq, given, has_two, has_one, sound_and_numbers, mixed, chosen, same_value, mixed_row, operator_row}
use Rattle.ny_kinds.specs.Kinds.{least, judged, returned_row}

-- it says something
abbrev pub Speaks : Judgement → Type 0
Speaks (Is k) = Unit {0}
Speaks Refused = Unit {0}
Speaks Silent = ⊥

pub given_speaks : (b : Bool) (k : Kind) → Speaks (given b k)
given_speaks true k = tt
given_speaks false k = tt

if_speaks : (b : Bool) (j : Judgement) → Speaks j → Speaks (if b then j else Refused)
if_speaks true j h = h
if_speaks false j h = tt

either_speaks : (b : Bool) (i j : Judgement) → Speaks i → Speaks j → Speaks (if b then i else j)
either_speaks true i j h k = h
either_speaks false i j h k = k

mixed_speaks : (ks : List Kind) → Speaks (mixed_row ks)
mixed_speaks ks =
    let a = kind_at ks 0 in let b = kind_at ks 1 in
    if_speaks (nat_eq (length ks) 2) (mixed a b)
    (either_speaks (is_number a && is_number b) (Is Number) (given (is_value a && is_value b) Sound) tt (given_speaks (is_value a && is_value b) Sound))

pub operator_speaks : (o : Operator) (ks : List Kind) → Speaks (operator_row o ks)
operator_speaks op.Add ks = mixed_speaks ks
operator_speaks op.Sub ks = mixed_speaks ks
operator_speaks op.Mul ks = mixed_speaks ks
operator_speaks op.Max ks = mixed_speaks ks
operator_speaks op.Min ks = mixed_speaks ks
operator_speaks op.Neg ks = if_speaks (nat_eq (length ks) 1) (same_value (kind_at ks 0)) (given_speaks (is_value (kind_at ks 0)) (kind_at ks 0))
operator_speaks (op.Compare r) ks = given_speaks (has_two is_number is_number ks) Test
operator_speaks op.And ks = given_speaks (has_two is_test is_test ks) Test
operator_speaks op.Or ks = given_speaks (has_two is_test is_test ks) Test
operator_speaks op.Not ks = given_speaks (has_one is_test ks) Test
operator_speaks op.If ks =
    if_speaks (nat_eq (length ks) 3) (chosen (kind_at ks 0) (kind_at ks 1) (kind_at ks 2))
    (if_speaks (is_test (kind_at ks 0) && kind_eq (kind_at ks 1) (kind_at ks 2) && (if is_test (kind_at ks 1) then false else true)) (Is (kind_at ks 1)) tt)
operator_speaks op.Const ks = given_speaks (has_two is_number is_number ks) Sound
operator_speaks op.Osc ks = given_speaks (has_two is_number is_number ks) Sound
operator_speaks op.HzOsc ks = given_speaks (has_two is_number is_number ks) Sound
operator_speaks op.Lfo ks = given_speaks (has_two is_number is_number ks) Sound
operator_speaks op.Noise ks = given_speaks (has_two is_number is_number ks) Sound
operator_speaks op.Rest ks = given_speaks (has_one is_number ks) Sound
operator_speaks op.Ramp ks = given_speaks (has_one is_number ks) Sound
operator_speaks op.Pwl ks = given_speaks (list_all is_number ks) Sound
operator_speaks op.Abs ks = given_speaks (has_one is_sound ks) Sound
operator_speaks op.Cue ks = given_speaks (has_one is_sound ks) Sound
operator_speaks op.Scale ks = given_speaks (has_two is_number is_sound ks) Sound
operator_speaks op.OnePole ks = given_speaks (has_two is_sound is_number ks) Sound
operator_speaks op.Biquad ks = given_speaks (sound_and_numbers ks) Sound
operator_speaks op.Comb ks = given_speaks (sound_and_numbers ks) Sound
operator_speaks op.Sim ks = given_speaks (list_all is_sound ks) Sound
operator_speaks op.Seq ks = given_speaks (list_all is_sound ks) Sound
operator_speaks op.At ks = given_speaks (has_two is_number is_sound ks) Sound
operator_speaks op.Stretch ks = given_speaks (has_two is_number is_sound ks) Sound
operator_speaks op.Placed ks = given_speaks (has_two is_sound is_number ks) Sound
operator_speaks op.Stretched ks = given_speaks (has_two is_sound is_number ks) Sound
operator_speaks op.Loud ks = given_speaks (has_two is_number is_sound ks) Sound
operator_speaks op.Sustain ks = given_speaks (has_two is_number is_sound ks) Sound
operator_speaks op.Transpose ks = given_speaks (has_two is_number is_sound ks) Sound
operator_speaks op.Vector ks = given_speaks (list_all is_sound ks) (Channels (length ks))

-- ---- where nothing is refused

no_place : (p : Option ℕ) (q : ℕ) {A : Type 0} → least p (Some q) ≡ None → A
no_place None q is = cc
no_place (Some p) q is = cc

pub least_none : (p q : Option ℕ) → least p q ≡ None → (p ≡ None) × (q ≡ None)
least_none None q is = (refl, is)
least_none (Some p) None is = cc
least_none (Some p) (Some q) is = cc

pub parts_fault : (at : ℕ) (row : Judgement) (fault : Option ℕ) → (judged at row fault).fault ≡ None → fault ≡ None
parts_fault at (Is k) fault is = is
parts_fault at Silent fault is = is
parts_fault at Refused fault is = no_place fault at is

pub row_kind : (at : ℕ) (row : Judgement) (fault : Option ℕ) → (judged at row fault).fault ≡ None → Speaks row → (k : Kind) × (row ≡ Is k) × ((judged at row fault).kind ≡ Some k)
row_kind at (Is k) fault is h = (k, refl, refl)
row_kind at Silent fault is h = absurd h
row_kind at Refused fault is h = no_place fault at is

pub some_kind : (j k : Kind) → Some j ≡ Some k → j ≡ k
some_kind j k is = cc

not_false : (b : Bool) → not b ≡ true → b ≡ false
not_false true is = cc
not_false false is = refl

-- what a block or a function returns
pub returned : (j k : Kind) → returned_row (Some j) ≡ Is k → (is_test j ≡ false) × (j ≡ k)
returned j k is = by (not (is_test j)) refl is
  where
    by : (b : Bool) → not (is_test j) ≡ b → given b j ≡ Is k → (is_test j ≡ false) × (j ≡ k)
    by true e h = (not_false (is_test j) e, (cc h))
    by false e h = cc
