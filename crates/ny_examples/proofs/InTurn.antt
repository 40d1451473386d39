-- Two parts in turn, once it is known where the first one stops and where the second one begins.
use Rattle.std.proofs.Common.{◌≡◌, ℕ, ◌≤◌, List, [], ◌∷◌, ℤ, ap, ◌∙◌}
use Rattle.ny_num.specs.Grid.{horizon, index_at}
use Rattle.ny_num.specs.declared.rate.Rate.TheVariants.{R8000}
use Rattle.ny_num.specs.Sound.{Sound, placed}
use Rattle.ny_num.specs.Resampling.{resampled}
use Rattle.ny_num.specs.Mix.{mix}
use Rattle.ny_warp.specs.declared.env.Env.{Env}
use Rattle.ny_warp.specs.Environment.{opening, from_stop, least_local}
use Rattle.ny_warp.proofs.LeastInverse.{least_inverse-no_steps}
use Rattle.ny_check.specs.Parts.{brought, next_part, parts_in_turn}
use Rattle.ny_check.specs.Channels.{channel_at, frames}
use Rattle.ny_check.specs.Code.{Code}
use Rattle.ny_check.specs.Meaning.{Bound, meaning, part_of}
use Rattle.ny_examples.specs.Programs.{at_place}

-- the frames of the mix of these parts
abbrev pub heard : List Sound → List (List ℤ)
heard parts = frames (channel_at R8000 (mix R8000 parts) ∷ [])

-- what the part at a place of a program is from an environment
abbrev pub part_at : Code → Bound → ℕ → Env → Sound
part_at code bound n = part_of (meaning code) bound (at_place n)

-- the second part is evaluated from local time d on, and placed at the index of the stop
abbrev pub second_from : Env → ℕ → ℕ → (Env → Sound) → Sound
second_from env stop d part =
    placed (index_at stop env.sound_rate) (resampled env.sound_rate (part (record env { d = d })))

pub two_in_turn : (env : Env) (a b : Env → Sound) (stop d : ℕ) → (brought env a).stop ≡ stop → least_local env stop ≡ d
    → heard (parts_in_turn env (a ∷ b ∷ [])) ≡ heard (brought env a ∷ second_from env stop d b ∷ [])
unfolding from_stop
two_in_turn env a b stop d stops begins =
    ap (λ t. heard (brought env a ∷ next_part env t b ∷ [])) stops
    ∙ ap (λ k. heard (brought env a ∷ second_from env stop k b ∷ [])) begins

-- without steps the second part begins at the first one's stop
pub two_from_opening : (a b : Env → Sound) (stop : ℕ) → (brought (opening R8000) a).stop ≡ stop → stop ≤ horizon
    → heard (parts_in_turn (opening R8000) (a ∷ b ∷ [])) ≡ heard (brought (opening R8000) a ∷ second_from (opening R8000) stop stop b ∷ [])
unfolding opening
two_from_opening a b stop stops within = two_in_turn (opening R8000) a b stop stop stops (least_inverse-no_steps stop within)
