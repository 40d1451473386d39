-- What follows from a run's end and the causes of its faults.
use Rattle.std.proofs.Common.{◌≡◌, ℕ, ◌⊎◌, List, arith, refl, sym, subst, ap, ◌∙◌, None, Some, IfSome, IsTrue, inl, inr}
use Rattle.std.specs.Prelude.{IsSomeAnd}
use Rattle.std.specs.declared.option.Option.{Option}
use Rattle.ny_io.specs.Faults.{Rose}
use Rattle.ny_io.specs.Host.{HostState, Named, bytes_under}
use Rattle.ny_top.specs.declared.status.Status.{Status}
use Rattle.ny_top.specs.declared.status.Status.TheVariants.{Ok, Usage, OpenFault, ReadFault, WriteFault, Refused, PoolFull, OutOfMemory}
use Rattle.ny_check.specs.Code.{Code}
use Rattle.ny_check.specs.Acceptance.{program_in}
use Rattle.ny_pull.specs.Engine.{EngineState}
use Rattle.ny_words.specs.Commands.{Render, Task, Command, render, check}
use Rattle.ny_top.specs.Outcome.{Outcome, HasProgramOutcome, HasReadOutcome, HasTextOutcome, HasCommandOutcome, IsRefused, IsUnrefused}
use Rattle.ny_top.specs.Ends.{EndsAs, NoneRose, CreateCause, NoCreateRose, OpenCause, ReadCause, TaskPoolFull, is_whole}

no_rise : (before now : ℕ) → now ≡ 0 → Rose before now → ⊥
no_rise before now zero rose = omega (arith, zero, rose)

no_create : (task : Task) (old new : HostState) → NoCreateRose task old new → CreateCause task old new → ⊥
no_create check old new quiet cause = cause
no_create (render r) old new quiet cause = quiet cause.0

pub no_open : (asked : Option Command) (old new : HostState) → NoneRose asked old new → IsSomeAnd asked (λ command. OpenCause command old new) → ⊥
no_open None old new quiet cause = cause
no_open (Some command) old new quiet (inl cause) = quiet.0 cause.0
no_open (Some command) old new quiet (inr cause) = no_create command.task old new quiet.2 cause.0

pub no_read : (asked : Option Command) (old new : HostState) → NoneRose asked old new → IsSomeAnd asked (λ command. ReadCause command old new) → ⊥
no_read None old new quiet cause = cause
no_read (Some command) old new quiet cause = quiet.1 cause.0

pub no_write : (asked : Option Command) (old new : HostState) → NoneRose asked old new → Rose old.writes new.writes → ⊥
no_write None old new quiet rose = quiet rose
no_write (Some command) old new quiet rose = quiet.3 rose

-- over a host all of whose counts stay at 0 none rises
pub still : (asked : Option Command) (old new : HostState) → ((name : List ℕ) → new.opens name ≡ 0) → ((name : List ℕ) → new.reads name ≡ 0)
    → ((name : List ℕ) → new.creates name ≡ 0) → new.writes ≡ 0 → NoneRose asked old new
still None old new opens reads creates writes = no_rise old.writes new.writes writes
still (Some command) old new opens reads creates writes = (
  no_rise (old.opens command.from) (new.opens command.from) (opens command.from),
  no_rise (old.reads command.from) (new.reads command.from) (reads command.from),
  of_task command.task,
  no_rise old.writes new.writes writes,
)
  where
    of_task : (task : Task) → NoCreateRose task old new
    of_task check = tt
    of_task (render r) = no_rise (old.creates r.to) (new.creates r.to) (creates r.to)

-- the causes of the answers of a run that leaves this engine
pub record Causes (asked : Option Command) (left : Option EngineState) (status : Status) (old new : HostState) : Type 0 where
  pub whole : IsTrue (is_whole status) → IfSome old.files (λ files. EndsAs (HasCommandOutcome asked files left) status old new)
  pub open' : status ≡ OpenFault → IsSomeAnd asked (λ command. OpenCause command old new)
  pub read : status ≡ ReadFault → IsSomeAnd asked (λ command. ReadCause command old new)
  pub write : status ≡ WriteFault → Rose old.writes new.writes
  pub usage : status ≡ Usage → asked ≡ None
  pub refused : status ≡ Refused → IfSome old.files (λ files. IsRefused asked files)
  pub full : status ≡ PoolFull → IsSomeAnd asked (λ command. TaskPoolFull command.task left)

abbrev Completes : Option Command → Option EngineState → Status → List Named → Type 0
Completes asked left status files =
    IsUnrefused asked files
    → (status ≡ Ok) ⊎ (status ≡ OutOfMemory) ⊎ ((status ≡ PoolFull) × IsSomeAnd asked (λ command. TaskPoolFull command.task left))

-- what holds of all files holds where files are told
for_files : (P : List Named → Type 0) (files : Option (List Named)) → ((fs : List Named) → P fs) → IfSome files P
for_files P None all = tt
for_files P (Some files) all = all files

if_refused : (asked : Option Command) (left : Option EngineState) (files : Option (List Named)) → IfSome files (λ files. IsRefused asked files)
    → IfSome files (λ files. Completes asked left Refused files)
if_refused asked left None is = tt
if_refused asked left (Some files) is = λ unrefused. absurd (unrefused.1 is)

-- where no refusal applies and no fault was counted, a run is Ok, or memory was wanting, or the pool is full
pub completes : (asked : Option Command) (left : Option EngineState) (status : Status) (old new : HostState) → Causes asked left status old new → NoneRose asked old new
    → IfSome old.files (λ files. Completes asked left status files)
completes asked left Ok old new causes quiet = for_files (Completes asked left Ok) old.files (λ files unrefused. inl refl)
completes asked left Usage old new causes quiet = for_files (Completes asked left Usage) old.files (λ files unrefused. absurd (unrefused.0 (causes.usage refl)))
completes asked left Refused old new causes quiet = if_refused asked left old.files (causes.refused refl)
completes asked left PoolFull old new causes quiet = for_files (Completes asked left PoolFull) old.files (λ files unrefused. inr (inr (refl, causes.full refl)))
completes asked left OpenFault old new causes quiet = absurd (no_open asked old new quiet (causes.open' refl))
completes asked left ReadFault old new causes quiet = absurd (no_read asked old new quiet (causes.read refl))
completes asked left WriteFault old new causes quiet = absurd (no_write asked old new quiet (causes.write refl))
completes asked left OutOfMemory old new causes quiet = for_files (Completes asked left OutOfMemory) old.files (λ files unrefused. inr (inl refl))

-- where memory was missing to read the words, it is told so
pub unread_completes : (asked : Option Command) (left : Option EngineState) (files : Option (List Named)) → IfSome files (λ files. Completes asked left OutOfMemory files)
unread_completes asked left files = for_files (Completes asked left OutOfMemory) files (λ files unrefused. inr (inl refl))

-- ---- refusals leave no engine

refused_program : (r : Render) (program : Option Code) (left : Option EngineState) (o : Outcome) → HasProgramOutcome r program left o → o.status ≡ Refused → left ≡ None
refused_program r None left o has is = absurd has
refused_program r (Some code) None o has is = absurd has
refused_program r (Some code) (Some e) o (inl (ended, o_is)) is = absurd (not_ok (sym (ap (λ p. p.status) o_is) ∙ is))
  where
    not_ok : Ok ≡ Refused → ⊥
    not_ok e = cc
refused_program r (Some code) (Some e) o (inr (n, stopped, o_is)) is = absurd (not_full (sym (ap (λ p. p.status) o_is) ∙ is))
  where
    not_full : PoolFull ≡ Refused → ⊥
    not_full e = cc

refused_read : (task : Task) (text : List ℕ) (left : Option EngineState) (o : Outcome) → HasReadOutcome task text left o → o.status ≡ Refused → left ≡ None
refused_read task text left o (inl (a, has, none, o_is)) is = none
refused_read (render r) text left o (inr (tree, accepted, has)) is = refused_program r (program_in tree) left o has is
refused_read check text left o (inr (tree, accepted, has)) is = has.0

refused_left : (asked : Option Command) (files : List Named) (left : Option EngineState) (o : Outcome) → HasCommandOutcome asked files left o → o.status ≡ Refused → left ≡ None
refused_left None files left o has is = has.0
refused_left (Some command) files left o (inl (long, none, o_is)) is = none
refused_left (Some command) files left o (inr (short, has)) is = refused_read command.task (bytes_under command.from files) left o has is

-- a run that is refused is so by its outcome
pub is_refused : (asked : Option Command) (left : Option EngineState) (status : Status) (old new : HostState)
    → (IsTrue (is_whole status) → IfSome old.files (λ files. EndsAs (HasCommandOutcome asked files left) status old new)) → status ≡ Refused
    → IfSome old.files (λ files. IsRefused asked files)
is_refused asked left status old new whole is =
    let P : Status → Type 0 = λ s. IsTrue (is_whole s) in
    by_files old.files (whole (subst P (sym is) refl))
  where
    by_files : (files : Option (List Named)) → IfSome files (λ files. EndsAs (HasCommandOutcome asked files left) status old new) → IfSome files (λ files. IsRefused asked files)
    by_files None ended = tt
    by_files (Some files) ended =
        let refused : ended.0.status ≡ Refused = sym ended.2.0 ∙ is in
        let P : Option EngineState → Type 0 = λ l. HasCommandOutcome asked files l ended.0 in
        (ended.0, subst P (refused_left asked files left ended.0 ended.1 refused) ended.1, refused)

-- ---- the outcome of a command

-- the words are this command
pub by_command : (asked : Option Command) (command : Command) (left : Option EngineState) (status : Status) (old new : HostState) → asked ≡ Some command
    → IfSome old.files (λ files. EndsAs (HasTextOutcome command.task (bytes_under command.from files) left) status old new)
    → IfSome old.files (λ files. EndsAs (HasCommandOutcome asked files left) status old new)
by_command asked command left status old new is ended =
    let P : Option Command → Type 0 = λ c. IfSome old.files (λ files. EndsAs (HasCommandOutcome c files left) status old new) in
    subst P (sym is) ended

-- where no fault was counted and memory was not wanting, a status is whole
pub whole_unless : (asked : Option Command) (status : Status) (old new : HostState)
    → (status ≡ OpenFault → IsSomeAnd asked (λ command. OpenCause command old new))
    → (status ≡ ReadFault → IsSomeAnd asked (λ command. ReadCause command old new))
    → (status ≡ WriteFault → Rose old.writes new.writes)
    → NoneRose asked old new → (status ≡ OutOfMemory → ⊥) → IsTrue (is_whole status)
whole_unless asked Ok old new opens reads writes quiet memory = refl
whole_unless asked Usage old new opens reads writes quiet memory = refl
whole_unless asked Refused old new opens reads writes quiet memory = refl
whole_unless asked PoolFull old new opens reads writes quiet memory = refl
whole_unless asked OpenFault old new opens reads writes quiet memory = absurd (no_open asked old new quiet (opens refl))
whole_unless asked ReadFault old new opens reads writes quiet memory = absurd (no_read asked old new quiet (reads refl))
whole_unless asked WriteFault old new opens reads writes quiet memory = absurd (no_write asked old new quiet (writes refl))
whole_unless asked OutOfMemory old new opens reads writes quiet memory = absurd (memory refl)
