-- The file of an engine: its bytes in parts, and how a run ends that wrote them.
use Rattle.std.proofs.Common.{◌≡◌, ℕ, ◌*◌, ◌≤◌, ◌⊎◌, List, [], ◌∷◌, ◌++◌, take, map, length, sum, Option, Some, None, IsTrue, true, false, refl, sym, ap, subst, ◌∙◌, arith, inl, inr}
use Rattle.std.specs.List.{flat_map}
use Rattle.std.specs.Io.KnownBytes.{append_known}
use Rattle.ny_io.specs.Host.{HostState, SameCounts, written, added}
use Rattle.ny_num.specs.Grid.{last_index}
use Rattle.ny_num.specs.Sound as sounds
use Rattle.ny_num.specs.Sound.{silence}
use Rattle.ny_check.specs.Code.{Code}
use Rattle.ny_check.specs.Channels.{channels, frames, longest}
use Rattle.ny_check.specs.Acceptance.{program_in}
use Rattle.ny_pull.specs.declared.fault.PullFault.TheVariants as faults
use Rattle.ny_plan.specs.Plan.{plan}
use Rattle.ny_plan.specs.Peak.{peak_of, first_full}
use Rattle.ny_pull.specs.Engine.{EngineState, SamePiece}
use Rattle.ny_report.specs.Lines.{full_line_of}
use Rattle.ny_wav.specs.WavFile.{header_of, frame_of, wav_of}
use Rattle.ny_syntax.specs.declared.tree.Tree.{Tree}
use Rattle.ny_words.specs.Commands.{Render, Task, render, check}
use Rattle.ny_top.specs.Channel.{file_of, first_frames}
use Rattle.ny_top.specs.Playing.{IsAsked, order_of, HasPlayed, IsFullAfter, IsPoolFull, IsNew, pulls_of, pulls_in}
use Rattle.ny_top.specs.Rounds.{IsUnderway, Wrote, WrotePart, IsPulledOut, IsSpentAfter, IsShortOf, IsPullFault, EndsRounds, EndsFile, frames_at, all_bytes, bytes_after}
use Rattle.ny_top.specs.Outcome.{Outcome, played, full, checked, HasPlayOutcome, HasProgramOutcome, HasTreeOutcome}
use Rattle.ny_top.specs.Ends.{EndsAs, ToldAs, FaultTold, MadePart, MadeTree, CutsFile, CutsTree, made, is_whole, is_unfailed, is_early}
use Rattle.ny_top.specs.declared.status.Status.{Status}
use Rattle.ny_top.specs.declared.status.Status.TheVariants as status
use Rattle.ny_top.specs.declared.rounds.RoundFault.{RoundFault}
use Rattle.ny_top.specs.declared.rounds.RoundFault.TheVariants.{Write, PoolFull, OutOfMemory}
use Rattle.ny_top.proofs.Parts.{written-new}
use Rattle.ny_top.proofs.FrameLemmas.{frames_count}
use Rattle.ny_top.proofs.RoundLemmas.{wrote_both, part_first, part_then, least_bound}
use Rattle.ny_top.proofs.Stages.{rose_from, quiet_then}

-- ---- the bytes

module _ (r : Render) (start : EngineState) (head : List ℕ) (at_rate : start.rate ≡ r.rate)
    (is : head ≡ header_of (length (channels start.code start.rate)) r.rate 16 (longest (channels start.code start.rate))) (old mid new : HostState) where
  head_is : head ≡ header_of (length (channels start.code start.rate)) start.rate 16 (length (frames (channels start.code start.rate)))
  head_is = is ∙ (λ i. header_of (length (channels start.code start.rate)) (sym at_rate i) 16 (sym (frames_count (channels start.code start.rate)) i))

  whole_is : head ++ all_bytes start ≡ file_of r.rate start.code
  unfolding file_of wav_of
  whole_is = ap (λ h. h ++ all_bytes start) head_is ∙ ap (λ rate. file_of rate start.code) at_rate

  first_is : (n : ℕ) → head ++ flat_map frame_of (take n (frames_at start)) ≡ first_frames start.rate start.code n
  unfolding first_frames
  first_is n = ap (λ h. h ++ flat_map frame_of (take n (frames_at start))) head_is

  -- the header, and then all frames
  pub wrote_file : Wrote head old mid → Wrote (all_bytes start) mid new → Wrote (file_of r.rate start.code) old new
  wrote_file first second =
      wrote_both head (all_bytes start) old mid new first second ∙ ap (λ bytes. written bytes old.created) whole_is

  -- the header, and then the frames of so many rounds
  wrote_first : (rounds : ℕ) → Wrote head old mid → Wrote (bytes_after start rounds) mid new → Wrote (first_frames start.rate start.code (rounds * start.heap.block)) old new
  wrote_first rounds first second =
      wrote_both head (bytes_after start rounds) old mid new first second ∙ ap (λ bytes. written bytes old.created) (first_is (rounds * start.heap.block))

  pub head_part : WrotePart head old new → WrotePart (file_of r.rate start.code) old new
  head_part part = subst (λ bytes. WrotePart bytes old new) whole_is (part_first head (all_bytes start) old new part)

  pub file_part : Wrote head old mid → WrotePart (all_bytes start) mid new → WrotePart (file_of r.rate start.code) old new
  file_part first part = subst (λ bytes. WrotePart bytes old new) whole_is (part_then head (all_bytes start) old mid new first part)

  pub ends_file : (e : EngineState) (fault : RoundFault) → old.writes ≤ mid.writes → SameCounts old mid → Wrote head old mid → EndsRounds start e mid new fault → EndsFile start e old new fault
  ends_file e Write later quiet first rose = rose_from old.writes mid.writes new.writes later rose
  ends_file e (PoolFull n) later quiet first (rounds, spent, wrote, still) = (rounds, spent, wrote_first rounds first wrote, quiet_then old mid new quiet still)
  ends_file e OutOfMemory later quiet first (rounds, short, wrote, still) = (rounds, short, wrote_first rounds first wrote, quiet_then old mid new quiet still)

-- ---- the engine

no_rounds : (block : ℕ) (cs : List sounds.Sound) → map (λ s. 0) cs ≡ map (pulls_in block 0) cs
no_rounds block [] = refl
no_rounds block (s ∷ ss) = (λ i. none i ∷ no_rounds block ss i)
  where
    none : 0 ≡ pulls_in block 0 s
    none = omega arith

-- no block was pulled yet
pub begins : (r : Render) (e : EngineState) → IsNew r e → IsUnderway 0 0 e
begins r e new = record {
  count = new.count;
  pulls = new.pulls ∙ no_rounds e.heap.block (channels e.code e.rate);
  unspent = new.unspent;
  laws = new.laws;
  follows = new.follows;
}

-- no more frames than an hour has
pub within_hour : (r : Render) (e : EngineState) → IsNew r e → longest (channels e.code e.rate) ≤ last_index r.rate
within_hour r e new = least_bound (channels e.code e.rate) (last_index r.rate) (silence e.rate) new.hour

asked_on : (r : Render) (start e : EngineState) → IsNew r start → SamePiece start e → IsAsked r e
asked_on r start e new same = record {
  rate = same.rate ∙ new.asked.rate;
  pool = same.pool ∙ new.asked.pool;
  block = same.block ∙ new.asked.block;
}

has_played : (r : Render) (start e : EngineState) → IsNew r start → IsPulledOut start e → HasPlayed r start.code e
has_played r start e new out =
    let block : e.heap.block ≡ r.block = out.same.block ∙ new.asked.block in
    let pool : e.heap.pool ≡ r.pool = out.same.pool ∙ new.asked.pool in
    let rate : e.rate ≡ r.rate = out.same.rate ∙ new.asked.rate in
    let order : order_of start.heap.block start.code start.rate ≡ order_of r.block start.code r.rate = λ i. order_of (new.asked.block i) start.code (new.asked.rate i) in
    record {
      asked = asked_on r start e new out.same;
      piece = out.same.code;
      pulls = out.pulls ∙ (λ i. map (pulls_of (new.asked.block i)) (channels start.code (new.asked.rate i)));
      ended = out.ended;
      unspent = out.unspent;
      room = sym (λ i. first_full (block i) (plan (out.same.code i) (rate i)) (pool i) (order i)) ∙ out.order.room;
      peak = out.order.peak ∙ (λ i. peak_of (block i) (plan (out.same.code i) (rate i)) (order i));
    }

full_after : (r : Render) (start e : EngineState) (rounds : ℕ) → IsNew r start → IsSpentAfter start e rounds → IsFullAfter r start.code rounds e
full_after r start e rounds new spent = record {
  asked = asked_on r start e new spent.same;
  piece = spent.same.code;
  at = spent.at;
  pulls = spent.pulls;
  spent = spent.spent ∙ ap (λ pool. Some (faults.PoolFull (sum e.pulled) pool)) new.asked.pool;
  first = sym (λ i. first_full (new.asked.block i) (plan start.code (new.asked.rate i)) (new.asked.pool i) (order_of (new.asked.block i) start.code (new.asked.rate i))) ∙ spent.first;
}

pub pool_full : (r : Render) (start e : EngineState) (rounds : ℕ) → IsNew r start → IsSpentAfter start e rounds → IsPoolFull r e
pool_full r start e rounds new spent = (asked_on r start e new spent.same, (rounds, spent.at, spent.pulls, spent.stopped))

-- ---- how the run ends

-- what was written to a new file is what it holds
holds : (to bytes : List ℕ) (old mid new : HostState) → mid.created ≡ added (to, []) old.created → Wrote bytes mid new → new.created ≡ made (Some (to, bytes)) old.created
holds to bytes old mid new is_new wrote = wrote ∙ ap (written bytes) is_new ∙ written-new bytes to old.created

pub plays : (r : Render) (start e : EngineState) (old mid new : HostState) → IsNew r start → IsPulledOut start e → mid.created ≡ added (r.to, []) old.created
    → Wrote (file_of r.rate start.code) mid new → new.printed ≡ append_known old.printed [] → EndsAs (HasPlayOutcome r start.code e) status.Ok old new
plays r start e old mid new is out is_new wrote printed = (
  played r start.code,
  inl (has_played r start e is out, refl),
  (refl, holds r.to (file_of r.rate start.code) old mid new is_new wrote, printed),
)

first_asked : (r : Render) (start : EngineState) (rounds : ℕ) → IsNew r start → first_frames start.rate start.code (rounds * start.heap.block) ≡ first_frames r.rate start.code (rounds * r.block)
first_asked r start rounds new = (λ i. first_frames (new.asked.rate i) start.code (rounds * new.asked.block i))

pub fills : (r : Render) (start e : EngineState) (old mid new : HostState) (rounds n : ℕ) → IsNew r start → IsPullFault start e rounds (PoolFull n) → mid.created ≡ added (r.to, []) old.created
    → Wrote (first_frames start.rate start.code (rounds * start.heap.block)) mid new → new.printed ≡ append_known old.printed (full_line_of n)
    → EndsAs (HasPlayOutcome r start.code e) status.PoolFull old new
fills r start e old mid new rounds n is spent is_new wrote printed = (
  full r start.code rounds (sum e.pulled),
  inr (rounds, full_after r start e rounds is spent.1, refl),
  (
    refl,
    holds r.to (first_frames r.rate start.code (rounds * r.block)) old mid new is_new (wrote ∙ ap (λ b. written b mid.created) (first_asked r start rounds is)),
    printed ∙ ap (λ m. append_known old.printed (full_line_of m)) spent.0,
  ),
)

-- the line of a full pool was begun
pub fills_told : (r : Render) (start e : EngineState) (old new : HostState) (rounds n : ℕ) → IsNew r start → IsPullFault start e rounds (PoolFull n) → FaultTold (full_line_of n) old new
    → ToldAs (HasPlayOutcome r start.code e) old new
fills_told r start e old new rounds n is spent told = (
  full r start.code rounds (sum e.pulled),
  inr (rounds, full_after r start e rounds is spent.1, refl),
  subst (λ m. FaultTold (full_line_of m) old new) spent.0 told,
)

-- the file of a piece for which memory was missing
pub cuts : (r : Render) (start e : EngineState) (old mid new : HostState) (rounds : ℕ) → IsNew r start → IsShortOf start e rounds → mid.created ≡ added (r.to, []) old.created
    → Wrote (first_frames start.rate start.code (rounds * start.heap.block)) mid new → CutsFile r start.code e old new
cuts r start e old mid new rounds is short is_new wrote = (
  rounds,
  record { asked = asked_on r start e is short.same; piece = short.same.code; at = short.at; pulls = short.pulls; short = short.short },
  holds r.to (first_frames r.rate start.code (rounds * r.block)) old mid new is_new (wrote ∙ ap (λ b. written b mid.created) (first_asked r start rounds is)),
)

-- ---- outcomes of outcomes

pub ends_on : {P Q : Outcome → Type 0} (s : Status) (old new : HostState) → ((o : Outcome) → P o → Q o) → EndsAs P s old new → EndsAs Q s old new
ends_on s old new on ended = (ended.0, on ended.0 ended.1, ended.2)

pub told_on : {P Q : Outcome → Type 0} (old new : HostState) → ((o : Outcome) → P o → Q o) → ToldAs P old new → ToldAs Q old new
told_on old new on told = (told.0, on told.0 told.1, told.2)

-- an engine plays the program of a tree
pub plays_tree : (tree : Tree) (code now : Code) → program_in tree ≡ Some code → now ≡ code → program_in tree ≡ Some now
plays_tree tree code now is piece = is ∙ ap Some (sym piece)

-- an engine of a tree's program is left
pub of_tree : (r : Render) (tree : Tree) (code : Code) (e : EngineState) (left : Option EngineState) → program_in tree ≡ Some code → left ≡ Some e
    → (o : Outcome) → HasPlayOutcome r code e o → HasTreeOutcome (render r) tree left o
of_tree r tree code e left is left_is o has =
    subst (λ (l : Option EngineState). HasProgramOutcome r (program_in tree) l o) (sym left_is)
    (subst (λ (ts : Option Code). HasProgramOutcome r ts (Some e) o) (sym is) has)

-- a first part of the file of a tree
pub made_of_tree : (r : Render) (tree : Tree) (code : Code) (old new : HostState) → program_in tree ≡ Some code → MadePart r.to (file_of r.rate code) old new → MadeTree (render r) tree old new
made_of_tree r tree code old new is part = inr (code, is, part)

-- the file of a tree for which memory was missing
pub cuts_of_tree : (r : Render) (tree : Tree) (code : Code) (e : EngineState) (left : Option EngineState) (old new : HostState) → program_in tree ≡ Some code → left ≡ Some e
    → CutsFile r code e old new → CutsTree (render r) tree left old new
cuts_of_tree r tree code e left old new is left_is cut = inr (code, is, (e, left_is, cut))

not_whole : (s t : Status) → IsTrue (is_whole s) → s ≡ t → is_whole t ≡ false → ⊥
not_whole s t whole is off =
    let e : false ≡ true = sym off ∙ sym (ap is_whole is) ∙ whole in
    cc

-- a fault whose line can't be printed is still a fault
pub still_a_fault : (s t : Status) → (s ≡ t) ⊎ (s ≡ status.WriteFault) → is_unfailed t ≡ false → is_unfailed s ≡ false
still_a_fault s t (inl is) fault = ap is_unfailed is ∙ fault
still_a_fault s t (inr is) fault = ap is_unfailed is

-- a run that ends after its output was created
pub a_late : (s t u : Status) → IsTrue (is_early s) → (s ≡ t) ⊎ (s ≡ u) → is_early t ≡ false → is_early u ≡ false → ⊥
a_late s t u early (inl is) off other =
    let e : false ≡ true = sym off ∙ sym (ap is_early is) ∙ early in
    cc
a_late s t u early (inr is) off other =
    let e : false ≡ true = sym other ∙ sym (ap is_early is) ∙ early in
    cc

-- of the ends of a full pool only one is whole
pub only_full : (s : Status) → IsTrue (is_whole s) → (s ≡ status.PoolFull) ⊎ (s ≡ status.WriteFault) → s ≡ status.PoolFull
only_full s whole (inl is) = is
only_full s whole (inr is) = absurd (not_whole s status.WriteFault whole is refl)

-- of the ends of a text that is printed only one is whole
pub only_ok : (s : Status) → IsTrue (is_whole s) → (s ≡ status.Ok) ⊎ (s ≡ status.WriteFault) ⊎ (s ≡ status.OutOfMemory) → s ≡ status.Ok
only_ok s whole (inl is) = is
only_ok s whole (inr (inl is)) = absurd (not_whole s status.WriteFault whole is refl)
only_ok s whole (inr (inr is)) = absurd (not_whole s status.OutOfMemory whole is refl)

pub ends_at : (P : Outcome → Type 0) (s t : Status) (old new : HostState) → s ≡ t → EndsAs P t old new → EndsAs P s old new
ends_at P s t old new is ended = subst (λ u. EndsAs P u old new) (sym is) ended

-- a tree that is checked
pub of_check : (task : Task) (tree : Tree) (left : Option EngineState) → task ≡ check → left ≡ None → HasTreeOutcome task tree left (checked tree)
of_check task tree left is none = subst (λ t. HasTreeOutcome t tree left (checked tree)) (sym is) (none, refl)

-- the middle of three cases
pub in_middle : {A B C D : Type 0} → (B → C) → A ⊎ B ⊎ D → A ⊎ C ⊎ D
in_middle on (inl a) = inl a
in_middle on (inr (inl b)) = inr (inl (on b))
in_middle on (inr (inr d)) = inr (inr d)
