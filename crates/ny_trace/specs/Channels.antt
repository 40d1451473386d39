-- Sounds that become channels.
use Rattle.std.specs.Prelude.{◌≡◌, List, [], ◌∷◌}
use Rattle.ny_num.specs.declared.rate.Rate.{Rate}
use Rattle.ny_num.specs.Mix.{channel_timing}
use Rattle.ny_heap.specs.declared.sound.Sound.{Sound}
use Rattle.ny_heap.specs.Heap.{Channel, HeapState}
use Rattle.ny_hands.specs.Calls.{MakesUnit, Brings}

-- a sound is brought to the rate, and then a unit is made over it that is heard from index 0 on
pub record ChannelTurn {B : Type 0} (r : Rate) (a : Sound) (old new : HeapState B) (s : Sound) : Type 0 where
  pub brought : Sound
  pub mid : HeapState B
  pub brings : Brings old mid r a brought
  pub made : MakesUnit mid new Channel (channel_timing brought.timing) (brought ∷ []) [] (brought ∷ []) s

-- several, the first one first
abbrev pub ChannelsTurn : {B : Type 0} → Rate → List Sound → HeapState B → HeapState B → List Sound → Type 0
ChannelsTurn r [] old new [] = old ≡ new
ChannelsTurn r [] old new (t ∷ ts) = ⊥
ChannelsTurn r (s ∷ ss) old new [] = ⊥
ChannelsTurn {B} r (s ∷ ss) old new (t ∷ ts) = (mid : HeapState B) × ChannelTurn r s old mid t × ChannelsTurn r ss mid new ts
