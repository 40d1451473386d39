-- What names stand for while a program is evaluated, and what a part that waits keeps of it.
use Rattle.std.specs.Prelude.{◌≡◌, ℕ, List, [], ◌∷◌, get_or}
use Rattle.ny_num.specs.declared.rate.Rate.{Rate}
use Rattle.ny_num.specs.Sound as sounds
use Rattle.ny_num.specs.Sound.{silence}
use Rattle.ny_num.specs.Resampling.{resampled}
use Rattle.ny_warp.specs.Environment.{from_stop}
use Rattle.ny_resolve.specs.declared.term.NameId.{NameId}
use Rattle.ny_check.specs.declared.value.Value.{Value}
use Rattle.ny_check.specs.declared.value.Value.TheVariants.{Number, Sound}
use Rattle.ny_check.specs.Code.{Code}
use Rattle.ny_check.specs.Meaning.{Bound, meaning}
use Rattle.ny_heap.specs.declared.sound.Sound.{Sound as Handle}
use Rattle.ny_hands.specs.declared.branch.Branch.{Branch}
use Rattle.ny_heap.specs.Heap.{HeapState, list_of, place_of}
use Rattle.ny_heap.specs.Means.{Whole, Parts, sound_in}
use Rattle.ny_heap.specs.Steps.{IsHeldSound}

-- the sounds that names stand for are held by whoever began the evaluation. Evaluation shares them, and spends none
abbrev pub Names : Type 0
Names = List (NameId × Value Handle)

-- the sound that a caller has in hand, at its beginning
abbrev pub sound_at : Whole → Handle → sounds.Sound
sound_at w s = sound_in w.samples (list_of s) s.timing

abbrev pub value_in : Whole → Value Handle → Value sounds.Sound
value_in w (Number v) = Number v
value_in w (Sound s) = Sound (sound_at w s)

-- the whole sounds that names stand for
abbrev pub bound_in : Whole → Names → Bound
bound_in w [] = []
bound_in w (b ∷ bs) = (b.0, value_in w b.1) ∷ bound_in w bs

abbrev pub IsHeldValue : {B : Type 0} → HeapState B → Value Handle → Type 0
IsHeldValue h (Number v) = Unit {0}
IsHeldValue h (Sound s) = (place_of s ≡ 0) × IsHeldSound h s

abbrev pub AllHeld : {B : Type 0} → HeapState B → Names → Type 0
AllHeld h [] = Unit {0}
AllHeld h (b ∷ bs) = IsHeldValue h b.1 × AllHeld h bs

-- the sounds among these, in order
abbrev pub sounds_among : Names → List Handle
sounds_among [] = []
sounds_among ((x, Number v) ∷ bs) = sounds_among bs
sounds_among ((x, Sound s) ∷ bs) = s ∷ sounds_among bs

-- ---- parts that wait

abbrev pub captured_value : Rate → List sounds.Sound → Value ℕ → Value sounds.Sound
captured_value r captured (Number v) = Number v
captured_value r captured (Sound k) = Sound (get_or captured k (silence r))

abbrev pub captured_bound : Rate → List sounds.Sound → List (NameId × Value ℕ) → Bound
captured_bound r captured [] = []
captured_bound r captured (b ∷ bs) = (b.0, captured_value r captured b.1) ∷ captured_bound r captured bs

-- the part that a branch is, once the part before it has stopped. It is not placed: a mix does that
abbrev pub part_is : Code → Parts Branch
part_is code b captured stop =
    resampled b.env.sound_rate (meaning code b.expr.0 (from_stop b.env stop) (captured_bound b.env.sound_rate captured b.names))
