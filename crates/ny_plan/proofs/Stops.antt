-- Without a warp the least time that is taken to a stop is the stop itself. (The least inverse is a search through all ticks, so
-- nothing computes it.)
use Rattle.std.proofs.Common.{◌≡◌, ℕ, [], nat_le, true}
use Rattle.std.proofs.lemmas.Bool.{leb-true}
use Rattle.ny_num.specs.Grid.{horizon}
use Rattle.ny_warp.specs.Warp.{least_inverse}
use Rattle.ny_warp.proofs.LeastInverse.{least_inverse-no_steps}

pub no_warp : (t : ℕ) → nat_le t horizon ≡ true → least_inverse [] t ≡ t
no_warp t h = least_inverse-no_steps t (leb-true t horizon h)
