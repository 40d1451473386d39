use Rattle.std.proofs.Common.{length, ◌-◌, ◌≡◌, ◌≤◌, Some, take}
use Rattle.ny_io.specs.Host.{NoneFell, SameCounts, SameInput, written}
use Rattle.ny_io.proofs.store.write_all.Given as goal

-- the first bytes are written
abbrev pub invariant-loop-done : goal.invariant-loop-done
invariant-loop-done g l =
    let start = g.H.Host.state l.initial.host in
    let now = g.H.Host.state l.host in
    record {
      within : l.done ≤ length l.bytes;
      counts : NoneFell start now;
      quiet : SameCounts start now;
      part : now.created ≡ written (take l.done l.bytes) start.created;
      output : now.output ≡ Some l.file;
      input : SameInput start now;
      files : now.files ≡ start.files;
      printed : now.printed ≡ start.printed;
    }

abbrev pub decreases-loop-done : goal.decreases-loop-done
decreases-loop-done g l = length l.bytes - l.done
