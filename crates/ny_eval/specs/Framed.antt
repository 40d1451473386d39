-- What names stand for while a program is evaluated: those that a caller lent, and those bound since.
use Rattle.std.specs.Prelude.{◌≡◌, ℕ, ◌+◌, ◌≤◌, List, [], ◌∷◌, ◌++◌, length, zip}
use Rattle.ny_resolve.specs.declared.term.NameId.{NameId}
use Rattle.ny_warp.specs.declared.env.Env.{Env}
use Rattle.ny_check.specs.declared.node.ExprId.{ExprId}
use Rattle.ny_check.specs.declared.value.Value.{Value}
use Rattle.ny_check.specs.Code.{Code}
use Rattle.ny_heap.specs.declared.sound.Sound.{Sound}
use Rattle.ny_heap.specs.Heap.{HeapState}
use Rattle.ny_hands.specs.declared.branch.Branch.{Branch}
use Rattle.ny_hands.specs.Frames.{Names, sounds_among}
use Rattle.ny_hands.specs.Hands.{Hand}
use Rattle.ny_trace.specs.Evaluates.{BindsTurn, ValuesTurn, sounds_of_values, Evaluates}

pub record FrameState : Type 0 where
  pub lent : Names
  pub bound : Names

-- all of them, the nearest last
abbrev pub names_in : FrameState → Names
names_in f = f.lent ++ f.bound

-- where each stands, counted from k
abbrev pub places_from : ℕ → Names → List (NameId × ℕ)
places_from k [] = []
places_from k (b ∷ bs) = (b.0, k) ∷ places_from (k + 1) bs

-- some more names are bound, and their sounds are in hand
pub record HasGrown (f g : FrameState) (old new : HeapState Branch) : Type 0 where
  pub added : Names
  pub frame : g ≡ record f { bound = f.bound ++ added }
  pub hand : Hand old new (sounds_among added)

-- these binds are bound, each of which sees those before it
pub record AreBound (code : Code) (n : ℕ) (env : Env) (bs : List (NameId × ExprId)) (f g : FrameState) (old new : HeapState Branch) : Type 0 where
  pub added : Names
  pub frame : g ≡ record f { bound = f.bound ++ added }
  pub hand : Hand old new (sounds_among added)
  pub turn : BindsTurn (Evaluates code n) code env bs (names_in f) old new added

-- these parameters are bound in a frame, to arguments in the names of another
pub record ArePassed (code : Code) (n : ℕ) (env : Env) (names : Names) (xs : List NameId) (es : List ExprId) (f g : FrameState) (old new : HeapState Branch) : Type 0 where
  pub values : List (Value Sound)
  pub few : length values ≤ length xs
  pub frame : g ≡ record f { bound = f.bound ++ zip xs values }
  pub hand : Hand old new (sounds_of_values values)
  pub turn : ValuesTurn (Evaluates code n) code env names es old new values
