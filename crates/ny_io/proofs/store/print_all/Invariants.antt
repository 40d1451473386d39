use Rattle.std.proofs.Common.{length, ◌-◌, ◌≡◌, ◌≤◌, take}
use Rattle.std.specs.Io.KnownBytes.{append_known}
use Rattle.ny_io.specs.Host.{NoneFell, SameCounts, SameInput, SameOutput}
use Rattle.ny_io.proofs.store.print_all.Given as goal

-- the first bytes are printed
abbrev pub invariant-loop-printed : goal.invariant-loop-printed
invariant-loop-printed g l =
    let start = g.H.Host.state l.initial.host in
    let now = g.H.Host.state l.host in
    record {
      within : l.printed ≤ length l.bytes;
      counts : NoneFell start now;
      quiet : SameCounts start now;
      part : now.printed ≡ append_known start.printed (take l.printed l.bytes);
      output : SameOutput start now;
      input : SameInput start now;
      files : now.files ≡ start.files;
    }

abbrev pub decreases-loop-printed : goal.decreases-loop-printed
decreases-loop-printed g l = length l.bytes - l.printed
