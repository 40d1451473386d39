-- How a run ends as an outcome says.
use Rattle.std.proofs.Common.{◌≡◌, ℕ, ◌⊎◌, List, false, true, sym, subst, None, IsTrue, inl, inr}
use Rattle.std.specs.declared.option.Option.{Option}
use Rattle.std.specs.Io.KnownBytes.{append_known}
use Rattle.ny_io.specs.Faults.{Rose}
use Rattle.ny_io.specs.Host.{HostState}
use Rattle.ny_top.specs.declared.status.Status.{Status}
use Rattle.ny_top.specs.declared.status.Status.TheVariants.{WriteFault}
use Rattle.ny_words.specs.Commands.{Command}
use Rattle.ny_top.specs.Outcome.{Outcome}
use Rattle.ny_top.specs.Ends.{FaultTold, NoneRose, IsOutcome, made, is_whole}

-- what an outcome prints is this line
pub told_line : (line : List ℕ) (o : Outcome) (old new : HostState) → o.printed ≡ line → FaultTold line old new → FaultTold o.printed old new
told_line line o old new is told = let P : List ℕ → Type 0 = λ printed. FaultTold printed old new in subst P (sym is) told

-- a run that came to this outcome's status once its line was printed
pub ended_whole : (o : Outcome) (status : Status) (old new : HostState) → (status ≡ WriteFault → ⊥)
    → (status ≡ o.status) ⊎ (status ≡ WriteFault)
    → (status ≡ o.status → new.printed ≡ append_known old.printed o.printed) → new.created ≡ made o.file old.created → IsOutcome o status old new
ended_whole o status old new sound (inl is) told same = (is, same, told is)
ended_whole o status old new sound (inr is) told same = absurd (sound is)

-- no status that is whole is that of a failed write
pub whole_sound : (status : Status) → IsTrue (is_whole status) → status ≡ WriteFault → ⊥
whole_sound status whole is =
    let P : Status → Type 0 = λ s. IsTrue (is_whole s) in
    let e : false ≡ true = subst P is whole in
    cc

-- no write failed where the words are no command and no fault was counted
pub unfailed : (command : Option Command) (status : Status) (old new : HostState) → command ≡ None → NoneRose command old new
    → (status ≡ WriteFault → Rose old.writes new.writes) → status ≡ WriteFault → ⊥
unfailed command status old new none none_rose rose is =
    let P : Option Command → Type 0 = λ c. NoneRose c old new in
    let quiet : Rose old.writes new.writes → ⊥ = subst P none none_rose in
    quiet (rose is)
