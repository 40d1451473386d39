-- The table of kinds: what each operator says of its operands' kinds.
use Rattle.std.specs.Prelude.{ℕ, Bool, true, false, ◌&&◌, nat_eq, if◌then◌else◌, List, [], ◌∷◌, length, get_or}
use Rattle.std.specs.List.{list_all}
use Rattle.ny_resolve.specs.declared.builtin.Operator.{Operator}
use Rattle.ny_resolve.specs.declared.builtin.Operator.TheVariants as op
use Rattle.ny_kinds.specs.declared.kind.Kind.{Kind}
use Rattle.ny_kinds.specs.declared.kind.Kind.TheVariants.{Number, Sound, Test, Channels}
use Rattle.ny_kinds.specs.declared.kind.Judgement.{Judgement}
use Rattle.ny_kinds.specs.declared.kind.Judgement.TheVariants.{Is, Refused}

abbrev pub kind_eq : Kind → Kind → Bool
kind_eq Number Number = true
kind_eq Sound Sound = true
kind_eq Test Test = true
kind_eq (Channels n) (Channels m) = nat_eq n m
kind_eq _ _ = false

abbrev pub is_number : Kind → Bool
is_number Number = true
is_number _ = false

abbrev pub is_sound : Kind → Bool
is_sound Sound = true
is_sound _ = false

abbrev pub is_test : Kind → Bool
is_test Test = true
is_test _ = false

-- a number or a sound: what a name may stand for, and a function may take
abbrev pub is_value : Kind → Bool
is_value Number = true
is_value Sound = true
is_value _ = false

-- the kind at place i of a list that is long enough
abbrev pub kind_at : List Kind → ℕ → Kind
kind_at ks i = get_or ks i Number

-- this kind, if this holds
abbrev pub given : Bool → Kind → Judgement
given b k = if b then Is k else Refused

abbrev pub has_two : (Kind → Bool) → (Kind → Bool) → List Kind → Bool
has_two f g ks = nat_eq (length ks) 2 && f (kind_at ks 0) && g (kind_at ks 1)

abbrev pub has_one : (Kind → Bool) → List Kind → Bool
has_one f ks = nat_eq (length ks) 1 && f (kind_at ks 0)

-- a sound first, and then so many numbers
abbrev pub sound_and_numbers : List Kind → Bool
sound_and_numbers [] = false
sound_and_numbers (k ∷ ks) = is_sound k && list_all is_number ks

-- a number where both are, else a sound
abbrev pub mixed : Kind → Kind → Judgement
mixed a b = if is_number a && is_number b then Is Number else given (is_value a && is_value b) Sound

-- the kind of both, if it is the same and no test
abbrev pub chosen : Kind → Kind → Kind → Judgement
chosen c a b = if is_test c && kind_eq a b && (if is_test a then false else true) then Is a else Refused

abbrev pub same_value : Kind → Judgement
same_value k = given (is_value k) k

-- operators on two numbers or sounds
abbrev pub mixed_row : List Kind → Judgement
mixed_row ks = if nat_eq (length ks) 2 then mixed (kind_at ks 0) (kind_at ks 1) else Refused

abbrev pub negated_row : List Kind → Judgement
negated_row ks = if nat_eq (length ks) 1 then same_value (kind_at ks 0) else Refused

abbrev pub choice_row : List Kind → Judgement
choice_row ks = if nat_eq (length ks) 3 then chosen (kind_at ks 0) (kind_at ks 1) (kind_at ks 2) else Refused

abbrev pub vector_row : List Kind → Judgement
vector_row ks = given (list_all is_sound ks) (Channels (length ks))

-- what each operator says
abbrev pub operator_row : Operator → List Kind → Judgement
operator_row op.Add ks = mixed_row ks
operator_row op.Sub ks = mixed_row ks
operator_row op.Mul ks = mixed_row ks
operator_row op.Max ks = mixed_row ks
operator_row op.Min ks = mixed_row ks
operator_row op.Neg ks = negated_row ks
operator_row (op.Compare r) ks = given (has_two is_number is_number ks) Test
operator_row op.And ks = given (has_two is_test is_test ks) Test
operator_row op.Or ks = given (has_two is_test is_test ks) Test
operator_row op.Not ks = given (has_one is_test ks) Test
operator_row op.If ks = choice_row ks
operator_row op.Const ks = given (has_two is_number is_number ks) Sound
operator_row op.Osc ks = given (has_two is_number is_number ks) Sound
operator_row op.HzOsc ks = given (has_two is_number is_number ks) Sound
operator_row op.Lfo ks = given (has_two is_number is_number ks) Sound
operator_row op.Noise ks = given (has_two is_number is_number ks) Sound
operator_row op.Rest ks = given (has_one is_number ks) Sound
operator_row op.Ramp ks = given (has_one is_number ks) Sound
operator_row op.Pwl ks = given (list_all is_number ks) Sound
operator_row op.Abs ks = given (has_one is_sound ks) Sound
operator_row op.Cue ks = given (has_one is_sound ks) Sound
operator_row op.Scale ks = given (has_two is_number is_sound ks) Sound
operator_row op.OnePole ks = given (has_two is_sound is_number ks) Sound
operator_row op.Biquad ks = given (sound_and_numbers ks) Sound
operator_row op.Comb ks = given (sound_and_numbers ks) Sound
operator_row op.Sim ks = given (list_all is_sound ks) Sound
operator_row op.Seq ks = given (list_all is_sound ks) Sound
operator_row op.At ks = given (has_two is_number is_sound ks) Sound
operator_row op.Stretch ks = given (has_two is_number is_sound ks) Sound
operator_row op.Placed ks = given (has_two is_sound is_number ks) Sound
operator_row op.Stretched ks = given (has_two is_sound is_number ks) Sound
operator_row op.Loud ks = given (has_two is_number is_sound ks) Sound
operator_row op.Sustain ks = given (has_two is_number is_sound ks) Sound
operator_row op.Transpose ks = given (has_two is_number is_sound ks) Sound
operator_row op.Vector ks = vector_row ks
