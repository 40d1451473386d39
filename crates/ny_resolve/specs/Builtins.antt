-- The built-in names: what each calls, and how many arguments it takes.
use Rattle.std.specs.Prelude.{ℕ, ◌%◌, Bool, nat_eq, nat_le, if◌then◌else◌, List, Option, Some, None, bytes_eq, codes}
use Rattle.ny_resolve.specs.declared.builtin.Operator.{Operator}
use Rattle.ny_resolve.specs.declared.builtin.Operator.TheVariants as op
use Rattle.ny_resolve.specs.declared.builtin.Builtin.{Builtin}
use Rattle.ny_resolve.specs.declared.builtin.Builtin.TheVariants as builtin
use Rattle.ny_resolve.specs.declared.builtin.Order.TheVariants as order
use Rattle.ny_resolve.specs.declared.builtin.Rated.TheVariants as rated
use Rattle.ny_resolve.specs.declared.builtin.Arity.{Arity}
use Rattle.ny_resolve.specs.declared.builtin.Arity.TheVariants as arity

-- the bytes of a name
abbrev pub Bytes : Type 0
Bytes = List ℕ

-- sounds from numbers alone
abbrev pub leaf_named : Bytes → Option Operator
leaf_named x =
    if bytes_eq x (codes "const") then Some op.Const
    else (if bytes_eq x (codes "osc") then Some op.Osc
    else (if bytes_eq x (codes "hzosc") then Some op.HzOsc
    else (if bytes_eq x (codes "lfo") then Some op.Lfo
    else (if bytes_eq x (codes "noise") then Some op.Noise
    else (if bytes_eq x (codes "s-rest") then Some op.Rest
    else (if bytes_eq x (codes "ramp") then Some op.Ramp
    else (if bytes_eq x (codes "pwl") then Some op.Pwl
    else None)))))))

-- sample by sample from sounds
abbrev pub filter_named : Bytes → Option Operator
filter_named x =
    if bytes_eq x (codes "s-max") then Some op.Max
    else (if bytes_eq x (codes "s-min") then Some op.Min
    else (if bytes_eq x (codes "s-abs") then Some op.Abs
    else (if bytes_eq x (codes "scale") then Some op.Scale
    else (if bytes_eq x (codes "onepole") then Some op.OnePole
    else (if bytes_eq x (codes "biquad") then Some op.Biquad
    else (if bytes_eq x (codes "comb") then Some op.Comb
    else None))))))

-- what places sounds or changes how they are played
abbrev pub change_named : Bytes → Option Operator
change_named x =
    if bytes_eq x (codes "cue") then Some op.Cue
    else (if bytes_eq x (codes "sim") then Some op.Sim
    else (if bytes_eq x (codes "seq") then Some op.Seq
    else (if bytes_eq x (codes "at") then Some op.At
    else (if bytes_eq x (codes "stretch") then Some op.Stretch
    else (if bytes_eq x (codes "loud") then Some op.Loud
    else (if bytes_eq x (codes "sustain") then Some op.Sustain
    else (if bytes_eq x (codes "transpose") then Some op.Transpose
    else (if bytes_eq x (codes "vector") then Some op.Vector
    else None))))))))

-- those with an argument that is a name or a literal and no operand
abbrev pub special_named : Bytes → Option Builtin
special_named x =
    if bytes_eq x (codes "simrep") then Some (builtin.Repeat order.Together)
    else (if bytes_eq x (codes "seqrep") then Some (builtin.Repeat order.InTurn)
    else (if bytes_eq x (codes "warp") then Some builtin.Warp
    else (if bytes_eq x (codes "sound-srate-abs") then Some (builtin.Rate rated.Sound)
    else (if bytes_eq x (codes "control-srate-abs") then Some (builtin.Rate rated.Control)
    else None))))

-- the operator that a name calls, or what else it may be
abbrev pub or_operator : Option Operator → Option Builtin → Option Builtin
or_operator (Some o) other = Some (builtin.Apply o)
or_operator None other = other

-- what a name calls, if it is a built-in
unfoldable pub builtin_of : Bytes → Option Builtin
builtin_of x = or_operator (leaf_named x) (or_operator (filter_named x) (or_operator (change_named x) (special_named x)))

-- `map` is a built-in as the first argument of `warp` alone
unfoldable pub is_map : Bytes → Bool
is_map x = bytes_eq x (codes "map")

-- how many arguments each takes
abbrev pub operator_arity : Operator → Arity
operator_arity op.Neg = arity.Exactly 1
operator_arity op.Not = arity.Exactly 1
operator_arity op.Rest = arity.Exactly 1
operator_arity op.Ramp = arity.Exactly 1
operator_arity op.Abs = arity.Exactly 1
operator_arity op.Cue = arity.Exactly 1
operator_arity op.If = arity.Exactly 3
operator_arity op.Comb = arity.Exactly 3
operator_arity op.Biquad = arity.Exactly 6
operator_arity op.Pwl = arity.Odd
operator_arity op.Sim = arity.Some
operator_arity op.Seq = arity.Some
operator_arity op.Vector = arity.Some
operator_arity _ = arity.Exactly 2

abbrev pub arity_of : Builtin → Arity
arity_of (builtin.Apply o) = operator_arity o
arity_of (builtin.Repeat o) = arity.Exactly 3
arity_of builtin.Warp = arity.Exactly 2
arity_of (builtin.Rate r) = arity.Exactly 2

-- so many arguments are taken
abbrev pub fits : Arity → ℕ → Bool
fits (arity.Exactly wanted) n = nat_eq n wanted
fits arity.Odd n = nat_eq (n % 2) 1
fits arity.Some n = nat_le 1 n
