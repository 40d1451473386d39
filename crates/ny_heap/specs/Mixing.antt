-- The parts that wait of a mix that is to be made. No public clause cites this module.
use Rattle.std.specs.Prelude.{List, map, Vec}
use Rattle.std.specs.Global.{Global}
use Rattle.ny_heap.specs.declared.sound.Sound.{Sound}

-- what each is evaluated from
abbrev pub branches_in : {B : Type 0} → List (B × Vec Sound Global) → List B
branches_in ps = map (λ p. p.0) ps

-- the sounds that each keeps, in a list of their own
abbrev pub lists_in : {B : Type 0} → List (B × Vec Sound Global) → List (Vec Sound Global)
lists_in ps = map (λ p. p.1) ps

-- these sounds
abbrev pub kept_by : {B : Type 0} → List (B × Vec Sound Global) → List (List Sound)
kept_by ps = map (λ p. p.1.items) ps
