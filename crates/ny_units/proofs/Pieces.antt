-- The samples of an input that come next.
use Rattle.std.proofs.Common.{◌≡◌, ℕ, ◌+◌, ◌-◌, ◌<◌, ◌≤◌, nat_le, List, length, take, drop, get_or, sym, ap, ◌∙◌, arith, ℤ, pos}
use Rattle.std.proofs.lemmas.Bool.{cond-true, cond-false, le-leb, lt-leb}
use Rattle.std.proofs.lemmas.List.{length-take, get_or-take, get_or-drop, get_or_past}
use Rattle.ny_units.specs.Inputs.{heard_at}

-- from its start on, an input has its samples
pub from_start : (start m : ℕ) (xs : List ℤ) → start ≤ m → heard_at start xs m ≡ get_or xs (m - start) (pos 0)
from_start start m xs later = cond-true (nat_le start m) (get_or xs (m - start) (pos 0)) (pos 0) (le-leb start m later)

-- before its start it has zeros
pub before_start : (start m : ℕ) (xs : List ℤ) → m < start → heard_at start xs m ≡ pos 0
before_start start m xs early = cond-false (nat_le start m) (get_or xs (m - start) (pos 0)) (pos 0) (lt-leb start m early)

-- and past its end
pub past_end : (start visible m : ℕ) (xs : List ℤ) → start ≤ m → visible ≤ m - start → heard_at start (take visible xs) m ≡ pos 0
past_end start visible m xs later past =
    from_start start m (take visible xs) later ∙ get_or_past (take visible xs) (m - start) (pos 0) (omega (arith, past, length-take visible xs))

-- a part of what is read of its list
pub in_run : (start visible m place limit k : ℕ) (xs run : List ℤ) → m ≡ start + place → length run ≤ visible - place → run ≡ take (length run) (drop place xs)
    → k < length (take limit run) → get_or (take limit run) k (pos 0) ≡ heard_at start (take visible xs) (m + k)
in_run start visible m place limit k xs run at seen is within =
    let size = length-take limit run in
    get_or-take limit run k (pos 0) (omega (arith, within, size))
    ∙ ap (λ r. get_or r k (pos 0)) is
    ∙ get_or-take (length run) (drop place xs) k (pos 0) (omega (arith, within, size))
    ∙ get_or-drop place xs k (pos 0)
    ∙ ap (λ p. get_or xs p (pos 0)) (there start m place k at)
    ∙ sym (get_or-take visible xs (m + k - start) (pos 0) (omega (arith, within, size, seen, at)))
    ∙ sym (from_start start (m + k) (take visible xs) (omega (arith, at)))
  where
    there : (start m place k : ℕ) → m ≡ start + place → place + k ≡ m + k - start
    there start m place k at = omega (arith, at)
