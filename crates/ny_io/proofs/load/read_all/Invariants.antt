use Rattle.std.proofs.Common.{◌≡◌, ◌≤◌, ◌-◌, Some, IfSome, vec_len}
use Rattle.std.specs.Io.KnownBytes.{prepend_known}
use Rattle.ny_io.specs.Host.{NoneFell, SameCounts, SameOutput, MayBe, bytes_under}
use Rattle.ny_io.proofs.load.read_all.Given as goal

-- what was read and what is left are the whole file
abbrev pub invariant-loop-piece : goal.invariant-loop-piece
invariant-loop-piece g l =
    let start = g.H.Host.state l.fn.host in
    let now = g.H.Host.state l.host in
    record {
      short : vec_len l.bytes ≤ l.most;
      counts : NoneFell start now;
      quiet : SameCounts start now;
      input : now.input ≡ Some l.file;
      name : MayBe l.name now.name;
      whole : IfSome start.files (λ files. prepend_known l.bytes.items now.left ≡ Some (bytes_under l.name files));
      output : SameOutput start now;
      files : now.files ≡ start.files;
      printed : now.printed ≡ start.printed;
    }

abbrev pub decreases-loop-piece : goal.decreases-loop-piece
decreases-loop-piece g l = l.most - vec_len l.bytes
