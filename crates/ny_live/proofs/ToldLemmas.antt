-- The lines of an order of pulls, with one pull more, and what was printed of them.
use Rattle.std.proofs.Common.{◌≡◌, ◌≢◌, ℕ, zero, suc, ◌+◌, ◌-◌, ◌<◌, ◌≤◌, ◌⊎◌, inl, inr, Bool, true, nat_lt, if◌then◌else◌, List, [], ◌∷◌, ◌++◌, length, length-append, length-take, length-drop, take, drop, sum, Option, None, Some, Result, Ok, Err, OnOk, IfErr, slice_index, refl, sym, ap, subst, ◌∙◌, arith}
use Rattle.std.specs.Prelude.{max, fold}
use Rattle.std.specs.Int.{div_ceil}
use Rattle.std.specs.Result.{IsErrAnd}
use Rattle.std.specs.Io.KnownBytes.{append_known}
use Rattle.std.proofs.lemmas.Bool.{cases_lt, lt-ltb, le-ltb}
use Rattle.std.proofs.lemmas.Grind.{flat_map-append}
use Rattle.std.proofs.lemmas.List.{append-nil, take-append-le, take_all}
use Rattle.std.proofs.Math.Seq.{take-append-add}
use Rattle.ny_io.specs.Host.{HostState, NoneFell, SameCounts, SameOutput}
use Rattle.ny_io.proofs.Written.{append_known-then}
use Rattle.ny_warp.proofs.Quotients.{div_ceil-before, div_ceil-reaches}
use Rattle.ny_check.specs.Channels.{channels, longest}
use Rattle.ny_plan.specs.Rows.{Plan}
use Rattle.ny_plan.specs.Plan.{plan}
use Rattle.ny_plan.specs.Fills.{Pulls}
use Rattle.ny_plan.specs.Peak.{first_full}
use Rattle.ny_plan.specs.Lines.{Line, channel_blocks, no_pulls, pulled, rounds, sequence, line_of, lines_after}
use Rattle.ny_pull.specs.Engine.{EngineState, channel_at, passed_of, next_block, with_pull, HasEnded, SamePiece, full_of}
use Rattle.ny_pull.specs.Ordered.{pulls_along, HasPulled, still_to_pull, IsInOrder}
use Rattle.ny_pull.proofs.TurnLemmas.{turn_left, turn_made, turn_found, goes_on, rounds_within, rounds_reach}
use Rattle.ny_heap.specs.Heap.{live_of}
use Rattle.ny_pull.specs.declared.fault.PullFault.{PullFault}
use Rattle.ny_pull.specs.declared.fault.PullFault.TheVariants as pulls
use Rattle.ny_live.specs.declared.fault.LiveFault.{LiveFault}
use Rattle.ny_live.specs.declared.fault.LiveFault.TheVariants as faults
use Rattle.ny_live.specs.Told.{text_of, texts_of, pull_lines, last_line, order_in, IsReady, IsTold, PrintedPart, PrintedLines, EndsLine, EndsTurns}

-- ---- lines

module _ (block : ℕ) (p : Plan) where
  pub lines_split : (n : ℕ) (pulls : Pulls) (order rest : List ℕ) → lines_after block p n pulls (order ++ rest) ≡ lines_after block p n pulls order ++ lines_after block p (n + length order) (pulls_along order pulls) rest
  lines_split n pulls [] rest = let e : n ≡ n + 0 = omega arith in ap (λ k. lines_after block p k pulls rest) e
  lines_split n pulls (c ∷ order) rest =
      let e : n + 1 + length order ≡ n + suc (length order) = omega arith in
      ap (λ (ls : List Line). line_of block p (n + 1) c (pulled c pulls) ∷ ls)
      (lines_split (n + 1) (pulled c pulls) order rest
      ∙ ap (λ k. lines_after block p (n + 1) (pulled c pulls) order ++ lines_after block p k (pulls_along order (pulled c pulls)) rest) e)

  pub many_lines : (n : ℕ) (pulls : Pulls) (order : List ℕ) → length (lines_after block p n pulls order) ≡ length order
  many_lines n pulls [] = refl
  many_lines n pulls (c ∷ order) = ap suc (many_lines (n + 1) (pulled c pulls) order)

pub same_then : (start mid new : EngineState) → SamePiece start mid → SamePiece mid new → SamePiece start new
same_then start mid new first second = record {
  code = second.code ∙ first.code;
  rate = second.rate ∙ first.rate;
  channels = second.channels ∙ first.channels;
  pool = second.pool ∙ first.pool;
  block = second.block ∙ first.block;
}

-- ---- a turn

module _ (kinds : Bool) (turns rest : List ℕ) (c n : ℕ) (start e : EngineState) (old now : HostState) (is : IsTold kinds turns (c ∷ rest) n start e old now) where
  abbrev done : List ℕ
  done = is.order.done

  abbrev none : Pulls
  none = no_pulls (plan start.code start.rate)

  -- the line of the pull of this turn
  abbrev next_line : Line
  next_line = line_of start.heap.block (plan start.code start.rate) (0 + length done + 1) c (pulled c (pulls_along done none))

  texts_more : (more : List ℕ) → texts_of kinds (pull_lines start (done ++ c ∷ more)) ≡ texts_of kinds (pull_lines start done) ++ (text_of kinds next_line ++ texts_of kinds (lines_after start.heap.block (plan start.code start.rate) (0 + length done + 1) (pulled c (pulls_along done none)) more))
  texts_more more =
      ap (texts_of kinds) (lines_split start.heap.block (plan start.code start.rate) 0 none done (c ∷ more))
      ∙ flat_map-append (text_of kinds) (pull_lines start done) (lines_after start.heap.block (plan start.code start.rate) (0 + length done) (pulls_along done none) (c ∷ more))

  texts_one : texts_of kinds (pull_lines start (done ++ c ∷ [])) ≡ texts_of kinds (pull_lines start done) ++ text_of kinds next_line
  texts_one = texts_more [] ∙ ap (λ (bytes : List ℕ). texts_of kinds (pull_lines start done) ++ bytes) (append-nil (text_of kinds next_line))

  -- it is what the engine tells once it was pulled
  line_is : (new : EngineState) → SamePiece e new → new.pulled ≡ with_pull e.pulled c → sum new.pulled ≡ length (done ++ c ∷ []) → last_line new c ≡ next_line
  line_is new same more count =
      let whole : SamePiece start new = same_then start e new is.same same in
      let pulls : new.pulled ≡ pulled c (pulls_along done none) = more ∙ ap (λ ns. with_pull ns c) (is.order.so.pulled ∙ (λ i. pulls_along done (no_pulls (plan (is.same.code i) (is.same.rate i))))) in
      let n_is : sum new.pulled ≡ 0 + length done + 1 = omega (arith, count, length-append done (c ∷ [])) in
      λ i. line_of (whole.block i) (plan (whole.code i) (whole.rate i)) (n_is i) c (pulls i)

  -- a turn that was a pull, and its line was printed
  pub told_pulled : (new : EngineState) (later : HostState) → SamePiece e new → (next : IsInOrder turns rest n new) → next.done ≡ done ++ c ∷ [] → new.pulled ≡ with_pull e.pulled c
      → later.printed ≡ append_known now.printed (text_of kinds (last_line new c)) → IsTold kinds turns rest n start new old later
  told_pulled new later same next more pulls printed = record {
    same = same_then start e new is.same same;
    order = next;
    printed =
        printed
        ∙ (λ i. append_known (is.printed i) (text_of kinds (line_is new same pulls (next.so.count ∙ ap (λ (xs : List ℕ). length xs) more) i)))
        ∙ append_known-then (texts_of kinds (pull_lines start done)) (text_of kinds next_line) old.printed
        ∙ ap (append_known old.printed) (sym texts_one)
        ∙ ap (λ (order : List ℕ). append_known old.printed (texts_of kinds (pull_lines start order))) (sym more);
  }

  -- a turn of a channel that has ended
  pub told_over : (new : EngineState) (later : HostState) → SamePiece e new → (next : IsInOrder turns rest n new) → next.done ≡ done → later.printed ≡ now.printed → IsTold kinds turns rest n start new old later
  told_over new later same next as_before printed = record {
    same = same_then start e new is.same same;
    order = next;
    printed = printed ∙ is.printed ∙ ap (λ (order : List ℕ). append_known old.printed (texts_of kinds (pull_lines start order))) (sym as_before);
  }

  -- ---- a turn that ends the run

  module _ (ready : IsReady e) (within : c < length e.channels) (more : HasEnded e c → ⊥) where
    inside : c < length e.pulled
    inside = omega (arith, within, ready.count, ready.count_pulled)

    left : nat_lt (slice_index e.pulled c) (slice_index (channel_blocks e.heap.block (plan e.code e.rate)) c) ≡ true
    left = turn_left e ready.follows ready.count_pulled ready.laws.positive c inside ∙ of (cases_lt (passed_of e c) (length (channel_at e c)))
      where
        of : (passed_of e c < length (channel_at e c)) ⊎ (length (channel_at e c) ≤ passed_of e c) → nat_lt (passed_of e c) (length (channel_at e c)) ≡ true
        of (inl less) = lt-ltb (passed_of e c) (length (channel_at e c)) less
        of (inr all) = absurd (more all)

    -- what follows on the pull of this turn
    abbrev after : List ℕ
    after = still_to_pull (channel_blocks e.heap.block (plan e.code e.rate)) turns rest n (with_pull e.pulled c)

    whole_is : order_in turns start ≡ done ++ c ∷ after
    whole_is = sym (λ i. sequence (is.same.block i) (plan (is.same.code i) (is.same.rate i)) turns) ∙ goes_on turns rest c n e is.order left

    first_lines : take (length done) (pull_lines start (order_in turns start)) ≡ pull_lines start done
    first_lines =
        ap (λ (order : List ℕ). take (length done) (pull_lines start order)) whole_is
        ∙ ap (take (length done)) (lines_split start.heap.block (plan start.code start.rate) 0 none done (c ∷ after))
        ∙ take-append-le (length done) (pull_lines start done) (lines_after start.heap.block (plan start.code start.rate) (0 + length done) (pulls_along done none) (c ∷ after)) (omega (arith, many_lines start.heap.block (plan start.code start.rate) 0 none done))
        ∙ take_all (length done) (pull_lines start done) (omega (arith, many_lines start.heap.block (plan start.code start.rate) 0 none done))

    -- so far the lines of the pulls before it were printed
    pub printed_before : (later : HostState) → later.printed ≡ now.printed → PrintedLines kinds turns start (length done) old later
    printed_before later same = same ∙ is.printed ∙ ap (λ (ls : List Line). append_known old.printed (texts_of kinds ls)) (sym first_lines)

    -- where it finds the pool full it is the first that does
    pub full_here : ((order later : List ℕ) → HasPulled order e → first_full e.heap.block (plan e.code e.rate) e.heap.pool (order ++ c ∷ later) ≡ Some (length order))
        → (new : EngineState) → new.pulled ≡ e.pulled → (later : HostState) → later.printed ≡ now.printed
        → (first_full start.heap.block (plan start.code start.rate) start.heap.pool (order_in turns start) ≡ Some (sum e.pulled)) × (new.pulled ≡ pulls_along (take (sum e.pulled) (order_in turns start)) none) × PrintedLines kinds turns start (sum e.pulled) old later
    full_here first new pulls later same = (
      sym (λ i. first_full (is.same.block i) (plan (is.same.code i) (is.same.rate i)) (is.same.pool i) (sequence (is.same.block i) (plan (is.same.code i) (is.same.rate i)) turns))
          ∙ turn_found turns rest c n e is.order ready.follows ready.count_pulled ready.laws.positive inside more first,
      pulls ∙ is.order.so.pulled ∙ (λ i. pulls_along done (no_pulls (plan (is.same.code i) (is.same.rate i))))
          ∙ ap (λ (order : List ℕ). pulls_along order none) (sym (ap (λ k. take k (order_in turns start)) is.order.so.count ∙ ap (take (length done)) whole_is ∙ take-append-le (length done) done (c ∷ after) (omega arith) ∙ take_all (length done) done (omega arith))),
      subst (λ k. PrintedLines kinds turns start k old later) (sym is.order.so.count) (printed_before later same),
    )

    -- where its line was printed in part
    pub part_here : (new : EngineState) (later : HostState) → SamePiece e new → new.pulled ≡ with_pull e.pulled c → sum new.pulled ≡ length (done ++ c ∷ [])
        → (count : ℕ) → count ≤ length (text_of kinds (last_line new c)) → later.printed ≡ append_known now.printed (take count (text_of kinds (last_line new c))) → PrintedPart kinds turns start old later
    part_here new later same pulls sums count fits printed = (
      length (texts_of kinds (pull_lines start done)) + count,
      printed
          ∙ (λ i. append_known (is.printed i) (take count (text_of kinds (line_is new same pulls sums i))))
          ∙ append_known-then (texts_of kinds (pull_lines start done)) (take count (text_of kinds next_line)) old.printed
          ∙ ap (append_known old.printed) (sym of_whole),
    )
      where
        fits_next : count ≤ length (text_of kinds next_line)
        fits_next = subst (λ (line : Line). count ≤ length (text_of kinds line)) (line_is new same pulls sums) fits

        more_lines : List Line
        more_lines = lines_after start.heap.block (plan start.code start.rate) (0 + length done + 1) (pulled c (pulls_along done none)) after

        of_whole : take (length (texts_of kinds (pull_lines start done)) + count) (texts_of kinds (pull_lines start (order_in turns start))) ≡ texts_of kinds (pull_lines start done) ++ take count (text_of kinds next_line)
        of_whole =
            ap (λ (order : List ℕ). take (length (texts_of kinds (pull_lines start done)) + count) (texts_of kinds (pull_lines start order))) whole_is
            ∙ ap (take (length (texts_of kinds (pull_lines start done)) + count)) (texts_more after)
            ∙ take-append-add (texts_of kinds (pull_lines start done)) (text_of kinds next_line ++ texts_of kinds more_lines) count
            ∙ ap (λ (bytes : List ℕ). texts_of kinds (pull_lines start done) ++ bytes) (take-append-le count (text_of kinds next_line) (texts_of kinds more_lines) fits_next)

-- ---- answers of a pull

pub same_counts : (old mid new : HostState) → SameCounts old mid → SameCounts mid new → SameCounts old new
same_counts old mid new first second = record {
  opens = λ name. second.opens name ∙ first.opens name;
  reads = λ name. second.reads name ∙ first.reads name;
  creates = λ name. second.creates name ∙ first.creates name;
  writes = second.writes ∙ first.writes;
}

pub no_answer : {A E : Type 0} (fault : E) (x : A) → Err fault ≡ Ok x → ⊥
no_answer fault x e = cc

full_parts : (n live m pool : ℕ) → pulls.PoolFull n live ≡ pulls.PoolFull m pool → n ≡ m
full_parts n live m pool e = cc

full_is_no_want : (n live : ℕ) → pulls.PoolFull n live ≡ pulls.OutOfMemory → ⊥
full_is_no_want n live e = cc

-- a channel that gives samples has not ended
pub gave_some : (e : EngineState) (c count : ℕ) → count ≡ length (next_block e c) → 0 < count → HasEnded e c → ⊥
gave_some e c count gives some ended =
    absurd (omega (arith, gives, some, length-take e.heap.block (drop (passed_of e c) (channel_at e c)), length-drop (passed_of e c) (channel_at e c), ended))

-- what holds of a result that is passed on
pub ok_on : {A E : Type 0} (r : Result A E) (P Q : Type 0) → (P → Q) → OnOk r P → OnOk r Q
ok_on (Ok x) P Q on p = on p
ok_on (Err e) P Q on p = tt

pub if_err_on : {A E : Type 0} (r : Result A E) (P Q : E → Type 0) → ((e : E) → P e → Q e) → IfErr r P → IfErr r Q
if_err_on (Ok x) P Q on p = tt
if_err_on (Err e) P Q on p = on e p

-- what holds of a fault that is passed on as it is
pub err_passed : {A E : Type 0} (r : Result A E) (e : E) (P : E → Type 0) → IsErrAnd r (λ x. x ≡ e) → P e → IfErr r P
err_passed (Ok x) e P is p = tt
err_passed (Err x) e P is p = subst P (sym is) p

module _ (kinds : Bool) (turns rest : List ℕ) (c n : ℕ) (start e new : EngineState) (old now later : HostState) (is : IsTold kinds turns (c ∷ rest) n start e old now) (ready : IsReady e) (within : c < length e.channels) (same : SamePiece e new) where
  counted : c < length e.pulled
  counted = omega (arith, within, ready.count, ready.count_pulled)

  module _ (count : ℕ) (gives : count ≡ length (next_block e c)) (pulled : new.pulled ≡ (if nat_lt 0 count then with_pull e.pulled c else e.pulled))
      (ordered : (order : List ℕ) → HasPulled order e → HasPulled (if nat_lt 0 count then order ++ c ∷ [] else order) new) where
    made : (next : IsInOrder turns rest n new) × (next.done ≡ (if nat_lt 0 count then is.order.done ++ c ∷ [] else is.order.done))
    made = turn_made turns rest c n e is.order ready.follows ready.count_pulled ready.laws.positive counted new count same gives pulled ordered

    -- its channel has ended
    pub turn_is_over : count ≡ 0 → later.printed ≡ now.printed → IsTold kinds turns rest n start new old later
    turn_is_over none printed =
        told_over kinds turns rest c n start e old now is new later same made.0
        (made.1 ∙ ap (λ b. if b then is.order.done ++ c ∷ [] else is.order.done) (le-ltb 0 count (omega (arith, none)))) printed

    module _ (some : 0 < count) where
      one : new.pulled ≡ with_pull e.pulled c
      one = pulled ∙ ap (λ b. if b then with_pull e.pulled c else e.pulled) (lt-ltb 0 count some)

      one_more : made.0.done ≡ is.order.done ++ c ∷ []
      one_more = made.1 ∙ ap (λ b. if b then is.order.done ++ c ∷ [] else is.order.done) (lt-ltb 0 count some)

      -- its line was printed
      pub turn_is_told : later.printed ≡ append_known now.printed (text_of kinds (last_line new c)) → IsTold kinds turns rest n start new old later
      turn_is_told printed = told_pulled kinds turns rest c n start e old now is new later same made.0 one_more one printed

      -- or was not
      pub line_ends : SameCounts old now → (fault : LiveFault) → EndsLine (text_of kinds (last_line new c)) now later fault → EndsTurns kinds turns start new old later fault
      line_ends fell faults.Write told = (
        omega (arith, fell.writes, told.0),
        part_here kinds turns rest c n start e old now is ready within (gave_some e c count gives some) new later same one (made.0.so.count ∙ ap (λ (xs : List ℕ). length xs) one_more) told.1.0 told.1.1 told.1.2,
      )
      line_ends fell (faults.PoolFull k) told = absurd told
      line_ends fell faults.OutOfMemory told = ((length is.order.done, printed_before kinds turns rest c n start e old now is ready within (gave_some e c count gives some) later told.1), same_counts old now later fell told.0)

  -- its pull found the pool full
  pub turn_ends_full : (fault : PullFault) (k live : ℕ) → fault ≡ pulls.PoolFull k live → (fault ≢ pulls.OutOfMemory → (fault ≡ full_of e) × (live_of new.heap ≡ new.heap.pool)) → (HasEnded e c → ⊥) → new.pulled ≡ e.pulled
      → (fault ≢ pulls.OutOfMemory → e.spent ≡ None → (order later : List ℕ) → HasPulled order e → first_full e.heap.block (plan e.code e.rate) e.heap.pool (order ++ c ∷ later) ≡ Some (length order))
      → later.printed ≡ now.printed → SameCounts old later → EndsTurns kinds turns start new old later (faults.PoolFull k)
  turn_ends_full fault k live is_full full more pulled first printed quiet =
      let other : fault ≢ pulls.OutOfMemory = λ short. full_is_no_want k live (sym is_full ∙ short) in
      let count : k ≡ sum e.pulled = full_parts k live (sum e.pulled) e.heap.pool (sym is_full ∙ (full other).0) in
      subst (λ k. EndsTurns kinds turns start new old later (faults.PoolFull k)) (sym count)
      (let found = full_here kinds turns rest c n start e old now is ready within more (first other ready.unspent) new pulled later printed in (found.0, found.1, found.2, quiet))

-- ---- between two turns

-- an engine of the same piece that can be pulled, and a host of which no call failed and no file changed
pub record Quiet (start e : EngineState) (room size : ℕ) (old now : HostState) : Type 0 where
  pub same : SamePiece start e
  pub ready : IsReady e
  pub size_is : size ≡ room
  pub counts : NoneFell old now
  pub quiet : SameCounts old now
  pub output : SameOutput old now
  pub files : now.files ≡ old.files

pub quiet_begins : (e : EngineState) (room : ℕ) (old : HostState) → IsReady e → Quiet e e room room old old
quiet_begins e room old ready = record {
  same = record { code = refl; rate = refl; channels = refl; pool = refl; block = refl };
  ready = ready;
  size_is = refl;
  counts = record { opens = λ name. omega arith; reads = λ name. omega arith; creates = λ name. omega arith; writes = omega arith };
  quiet = record { opens = λ name. refl; reads = λ name. refl; creates = λ name. refl; writes = refl };
  output = record { output = refl; created = refl };
  files = refl;
}

pub counts_then : (old mid new : HostState) → NoneFell old mid → NoneFell mid new → NoneFell old new
counts_then old mid new first second = record {
  opens = λ name. omega (arith, first.opens name, second.opens name);
  reads = λ name. omega (arith, first.reads name, second.reads name);
  creates = λ name. omega (arith, first.creates name, second.creates name);
  writes = omega (arith, first.writes, second.writes);
}

pub output_then : (old mid new : HostState) → SameOutput old mid → SameOutput mid new → SameOutput old new
output_then old mid new first second = record { output = second.output ∙ first.output; created = second.created ∙ first.created }

pub quiet_then : (start mid new : EngineState) (room size last : ℕ) (old now later : HostState) → Quiet start mid room size old now → SamePiece mid new → IsReady new → last ≡ size → NoneFell now later → SameCounts now later → SameOutput now later → later.files ≡ now.files → Quiet start new room last old later
quiet_then start mid new room size last old now later before same ready sizes counts quiet output files = record {
  same = same_then start mid new before.same same;
  ready = ready;
  size_is = sizes ∙ before.size_is;
  counts = counts_then old now later before.counts counts;
  quiet = same_counts old now later before.quiet quiet;
  output = output_then old now later before.output output;
  files = files ∙ before.files;
}

-- ---- rounds

-- how many rounds there are
abbrev pub rounds_of : EngineState → ℕ
rounds_of e = div_ceil (longest (channels e.code e.rate)) e.heap.block

module _ (kinds : Bool) (turns : List ℕ) (start e : EngineState) (old now : HostState) where
  -- a round begins with the first turn
  pub told_again : (n : ℕ) → IsTold kinds turns [] (suc n) start e old now → IsTold kinds turns turns n start e old now
  told_again n is = record {
    same = is.same;
    order = record { done = is.order.done; so = is.order.so; whole = is.order.whole };
    printed = is.printed;
  }

  -- all rounds were made
  pub told_end : IsTold kinds turns [] 0 start e old now → HasPulled (order_in turns start) e × (now.printed ≡ append_known old.printed (texts_of kinds (pull_lines start (order_in turns start))))
  told_end is =
      let whole : order_in turns start ≡ is.order.done = sym (λ i. sequence (is.same.block i) (plan (is.same.code i) (is.same.rate i)) turns) ∙ is.order.whole ∙ append-nil is.order.done in (
        subst (λ (order : List ℕ). HasPulled order e) (sym whole) is.order.so,
        is.printed ∙ ap (λ (order : List ℕ). append_known old.printed (texts_of kinds (pull_lines start order))) (sym whole),
      )

begun : (turns : List ℕ) (e : EngineState) → HasPulled [] e → sequence e.heap.block (plan e.code e.rate) turns ≡ [] ++ still_to_pull (channel_blocks e.heap.block (plan e.code e.rate)) turns [] (fold max 0 (channel_blocks e.heap.block (plan e.code e.rate))) e.pulled
unfolding sequence
begun turns e has = ap (rounds (fold max 0 (channel_blocks e.heap.block (plan e.code e.rate))) (channel_blocks e.heap.block (plan e.code e.rate)) turns) (sym has.pulled)

-- before the first pull nothing was printed, and all rounds are still to come
pub told_begins : (kinds : Bool) (turns : List ℕ) (e : EngineState) (old : HostState) → IsReady e → HasPulled [] e → IsTold kinds turns [] (rounds_of e) e e old old
told_begins kinds turns e old ready none = record {
  same = record { code = refl; rate = refl; channels = refl; pool = refl; block = refl };
  order = record {
    done = [];
    so = none;
    whole = subst (λ n. sequence e.heap.block (plan e.code e.rate) turns ≡ [] ++ still_to_pull (channel_blocks e.heap.block (plan e.code e.rate)) turns [] n e.pulled) many (begun turns e none);
  };
  printed = nothing old.printed;
}
  where
    nothing : (known : Option (List ℕ)) → known ≡ append_known known []
    nothing None = refl
    nothing (Some bytes) = ap Some (sym (append-nil bytes))

    most : ℕ
    most = fold max 0 (channel_blocks e.heap.block (plan e.code e.rate))

    many : most ≡ rounds_of e
    many = of (cases_lt most (rounds_of e))
      where
        few : most ≤ rounds_of e
        few = rounds_within e ready.follows ready.count_pulled ready.laws.positive (rounds_of e) (div_ceil-reaches (longest (channels e.code e.rate)) e.heap.block (rounds_of e) ready.laws.positive (omega arith))

        of : (most < rounds_of e) ⊎ (rounds_of e ≤ most) → most ≡ rounds_of e
        of (inl less) =
            absurd (omega (arith, div_ceil-before (longest (channels e.code e.rate)) e.heap.block most ready.laws.positive less, rounds_reach e ready.follows ready.count_pulled ready.laws.positive most (omega arith)))
        of (inr le) = omega (arith, few, le)

-- a round is made
pub told_on : (kinds : Bool) (turns : List ℕ) (most n : ℕ) (start e : EngineState) (old now : HostState) → n < most → IsTold kinds turns [] (most - n) start e old now → IsTold kinds turns [] (suc (most - (n + 1))) start e old now
told_on kinds turns most n start e old now less is =
    let left : most - n ≡ suc (most - (n + 1)) = omega (arith, less) in
    subst (λ k. IsTold kinds turns [] k start e old now) left is

-- a turn of its list
pub turn_at : (xs : List ℕ) (i : ℕ) → i < length xs → drop i xs ≡ slice_index xs i ∷ drop (i + 1) xs
turn_at [] i within = absurd (omega (arith, within))
turn_at (x ∷ xs) zero within = refl
turn_at (x ∷ xs) (suc i) within = turn_at xs i (omega (arith, within)) ∙ (let e : suc i + 1 ≡ suc (i + 1) = omega arith in ap (λ k. slice_index xs i ∷ drop k (x ∷ xs)) (sym e))
