-- Where memory was missing to read the words, nothing has happened yet.
use Rattle.std.proofs.Common.{refl, None, Some, inl}
use Rattle.std.specs.declared.option.Option.{Option}
use Rattle.ny_io.specs.Host.{HostState}
use Rattle.ny_pull.specs.Engine.{EngineState}
use Rattle.ny_words.specs.Commands.{Command}
use Rattle.ny_top.specs.Ends.{RunCutsShort, RunMakes}

pub unread_cut : (asked : Option Command) (left : Option EngineState) (old : HostState) → RunCutsShort asked left old old
unread_cut None left old = record { output = refl; created = refl }
unread_cut (Some command) left old = inl (record { output = refl; created = refl })

pub unread_makes : (asked : Option Command) (old : HostState) → RunMakes asked old old
unread_makes None old = refl
unread_makes (Some command) old = inl refl
