-- The programs that play sequences.
use Rattle.std.specs.Prelude.{[], ◌∷◌, pos}
use Rattle.ny_check.specs.Code.{Code}
use Rattle.ny_examples.specs.Maps.{steep}
use Rattle.ny_examples.specs.Programs.{playing, number, named, constant, oscillator, sum, sustained, warped, cue, in_turn, repeated_in_turn, where_name_is}

-- `seq(sustain(2, const(0.1, 0.002)), const(0.2, 0.002))`
abbrev pub overlapping : Code
overlapping =
    playing
    (number (pos 100000) ∷ number (pos 2000) ∷ constant 0 1 ∷ number (pos 2000000) ∷ sustained 3 2 ∷ number (pos 200000) ∷ constant 5 1 ∷ in_turn (4 ∷ 6 ∷ []) ∷ [])

-- `seq(sustain(0.5, const(0.1, 0.004)), const(0.2, 0.002))`
abbrev pub with_gap : Code
with_gap =
    playing
    (number (pos 100000) ∷ number (pos 4000) ∷ constant 0 1 ∷ number (pos 500000) ∷ sustained 3 2 ∷ number (pos 200000) ∷ number (pos 2000) ∷ constant 5 6
    ∷ in_turn (4 ∷ 7 ∷ []) ∷ [])

-- `seq(osc(69, 0.001), osc(69, 0.001))`
abbrev pub waves_in_turn : Code
waves_in_turn =
    playing
    (number (pos 69000000) ∷ number (pos 1000) ∷ oscillator 0 1 ∷ in_turn (2 ∷ 2 ∷ []) ∷ [])

-- `begin with x = osc(69, 0.001) return seq(cue(x), cue(x)) end`
abbrev pub cues_in_turn : Code
cues_in_turn =
    playing
    (number (pos 69000000) ∷ number (pos 1000) ∷ oscillator 0 1 ∷ named ∷ cue 3 ∷ in_turn (4 ∷ 4 ∷ []) ∷ where_name_is 2 5 ∷ [])

-- `seqrep(i, 2, const(0.1 + i, 0.00025))`
abbrev pub repeats_in_turn : Code
repeats_in_turn =
    playing
    (number (pos 100000) ∷ named ∷ sum 0 1 ∷ number (pos 250) ∷ constant 2 3 ∷ repeated_in_turn 2 4 ∷ [])

-- `warp(map(0.001, 0.002, 0.002, 0.003), seq(const(0.1, 0.001), const(0.2, 0.001)))`
abbrev pub in_turn_under_warp : Code
in_turn_under_warp =
    playing
    (number (pos 100000) ∷ number (pos 1000) ∷ constant 0 1 ∷ number (pos 200000) ∷ constant 3 1 ∷ in_turn (2 ∷ 4 ∷ []) ∷ warped steep 5 ∷ [])
