-- The channels stay those of the plan: at the opening, and over what is read or given up.
use Rattle.std.proofs.Common.{◌≡◌, inl, inr, ℕ, zero, suc, List, [], ◌∷◌, length, map, Option, None, Some, slice_get, slice_set, refl, sym, ap, subst, ◌∙◌, arith, ◌-◌, ◌^◌, min, sum}
use Rattle.std.specs.Option.{option_map}
use Rattle.std.proofs.lemmas.Bool.{cases_eq}
use Rattle.std.proofs.lemmas.List.{length-set}
use Rattle.ny_num.specs.declared.rate.Rate.{Rate}
use Rattle.ny_check.specs.Code.{Code, IsOrdered}
use Rattle.ny_check.specs.Channels.{channels}
use Rattle.ny_heap.specs.Heap.{HeapState, list_of}
use Rattle.ny_heap.specs.Reach.{IsTrimmed}
use Rattle.ny_heap.specs.Steps.{Passes, advanced}
use Rattle.ny_heap.specs.declared.sound.Sound.{Sound}
use Rattle.ny_hands.specs.Counts.{SameCounts}
use Rattle.ny_hands.specs.declared.branch.Branch.{Branch}
use Rattle.ny_hands.proofs.OptionLemmas.{some_same}
use Rattle.ny_plan.specs.Rows.{RowSound, Plan}
use Rattle.ny_plan.specs.Plan.{plan}
use Rattle.ny_plan.specs.Fills.{counts}
use Rattle.ny_plan.specs.Peak.{nothing_filled}
use Rattle.ny_plan.proofs.StartLemmas.{nothing_counted}
use Rattle.ny_trace.specs.Laws.{KeepsFree}
use Rattle.ny_match.specs.Born.{AreSounds}
use Rattle.ny_match.specs.Keeps.{KeepsMade}
use Rattle.ny_match.specs.Matched.{Seats, IsSound, Matched}
use Rattle.ny_match.proofs.KindLemmas.{has_kinds}
use Rattle.ny_match.proofs.OpenLemmas.{opened_matching}
use Rattle.ny_match.proofs.ReadLemmas.{read_matched, spent_matched}
use Rattle.ny_match.proofs.TurnLemmas.{any_match}
use Rattle.ny_eval.specs.Opened.{IsEmpty, zeros, AreOpened}
use Rattle.ny_eval.specs.Traced.{EvaluatesChannels}
use Rattle.ny_eval.proofs.PlayingLemmas.{within}
use Rattle.ny_eval.proofs.StayingLemmas.{get_set_same, get_set_other}
use Rattle.ny_pull.specs.Engine.{Leaves}
use Rattle.ny_pull.specs.Seated.{AreSeated}
use Rattle.ny_pull.specs.Places.{ReadsAt}
use Rattle.ny_pull.proofs.EngineLemmas.{set_twice, samples_at}
use Rattle.ny_pull.proofs.OpenLemmas.{as_many, zeros_by, zero_sum}

-- ---- names

abbrev AreNamed : Plan → (ℕ → ℕ) → List (Option Sound) → Type 0
AreNamed p row os = (k : ℕ) (s : Sound) (r : RowSound) → slice_get os k ≡ Some (Some s) → slice_get p.channels k ≡ Some r → r.row ≡ option_map row (list_of s)

-- one that reads the same list, or nothing, in the place of another
named_put : (p : Plan) (row : ℕ → ℕ) (os : List (Option Sound)) (c : ℕ) (s : Sound) (o : Option Sound) → slice_get os c ≡ Some (Some s) → ((t : Sound) → o ≡ Some t → list_of t ≡ list_of s) → AreNamed p row os → AreNamed p row (slice_set os c o)
named_put p row os c s o at same named k t r there here = elim (cases_eq k c) [
  | inl e ↦
      let now : o ≡ Some t = some_same o (Some t) (sym (get_set_same os c o (within os c s at)) ∙ (ap (slice_get (slice_set os c o)) (sym e) ∙ there)) in
      named k s r (ap (slice_get os) e ∙ at) here ∙ ap (option_map row) (sym (same t now))
  | inr other ↦ named k t r (sym (get_set_other os c k o other) ∙ there) here
]

module _ (code : Code) (rate : Rate) (old new : HeapState Branch) (os : List (Option Sound)) (pulled : List ℕ) (c : ℕ) (s : Sound) (at : slice_get os c ≡ Some (Some s)) (same : SameCounts old new) (seated : AreSeated code rate old os pulled) where
  -- so the channels stay those of the plan
  put_seated : (o : Option Sound) → ((t : Sound) → o ≡ Some t → list_of t ≡ list_of s) → Matched code (plan code rate).rows (counts old.block (plan code rate) pulled) new seated.seats → AreSeated code rate new (slice_set os c o) pulled
  put_seated o alike matched = record {
    seats = seated.seats;
    matched = subst (λ b. Matched code (plan code rate).rows (counts b (plan code rate) pulled) new seated.seats) (sym same.block) matched;
    fills = same.fills ∙ seated.fills ∙ ap (λ b. min (sum (counts b (plan code rate) pulled)) (2 ^ 64 - 1)) (sym same.block);
    count = length-set os c o ∙ seated.count;
    names = named_put (plan code rate) seated.seats.row os c s o at alike seated.names;
    lens = seated.lens;
  }

  -- where its sound was read
  pub passed_seated : (to : Sound) (n : ℕ) → Passes s to n → IsTrimmed (advanced old s to) new → AreSeated code rate new (slice_set os c (Some to)) pulled
  passed_seated to n passes trimmed =
      put_seated (Some to) (λ t e. ap list_of (sym (some_same to t e)) ∙ passes.list)
      (read_matched code (plan code rate).rows (counts old.block (plan code rate) pulled) old new seated.seats s to trimmed seated.matched)

  -- and where nothing of it is left
  pub left_seated : (o : Option Sound) → Leaves old new s o → AreSeated code rate new (slice_set os c o) pulled
  left_seated None leaves =
      put_seated None (λ t e. absurd (never t e)) (spent_matched code (plan code rate).rows (counts old.block (plan code rate) pulled) old new seated.seats s leaves.1 seated.matched)
    where
      never : (t : Sound) → None ≡ Some t → ⊥
      never t e = cc
  left_seated (Some rest) leaves =
      put_seated (Some rest) (λ t e. ap list_of (sym (some_same rest t e) ∙ leaves.1))
      (subst (λ (q : HeapState Branch). Matched code (plan code rate).rows (counts old.block (plan code rate) pulled) q seated.seats) (sym leaves.2) seated.matched)

-- after a block of a channel was read
pub read_seated : (code : Code) (rate : Rate) (mid new : HeapState Branch) (os later : List (Option Sound)) (pulled : List ℕ) (c most n : ℕ) (reads : ReadsAt mid new os later c most n) → SameCounts mid reads.read → SameCounts mid new → AreSeated code rate mid os pulled → AreSeated code rate new later pulled
read_seated code rate mid new os later pulled c most n reads first all seated =
    let rest : SameCounts reads.read new = record { pool = all.pool ∙ sym first.pool; block = all.block ∙ sym first.block; fills = all.fills ∙ sym first.fills; peak = all.peak ∙ sym first.peak } in
    let read = passed_seated code rate mid reads.read os pulled c reads.sound reads.was first seated reads.to n reads.passes reads.reads in
    let left = left_seated code rate reads.read new (slice_set os c (Some reads.to)) pulled c reads.to (get_set_same os c (Some reads.to) (within os c reads.sound reads.was)) rest read reads.left reads.leaves in
    subst (λ qs. AreSeated code rate new qs pulled) (set_twice os c (Some reads.to) reads.left ∙ sym reads.now) left

-- ---- at the opening

many_sounds : (row : ℕ → ℕ) (ss : List Sound) (rs : List RowSound) → AreSounds row ss rs → length ss ≡ length rs
many_sounds row [] [] are = refl
many_sounds row [] (r ∷ rs) are = absurd are
many_sounds row (s ∷ ss) [] are = absurd are
many_sounds row (s ∷ ss) (r ∷ rs) are = omega (arith, many_sounds row ss rs are.1)

sound_at : (row : ℕ → ℕ) (ss : List Sound) (rs : List RowSound) (k : ℕ) (r : RowSound) → AreSounds row ss rs → slice_get rs k ≡ Some r → (s : Sound) × (slice_get (map (λ (x : Sound). Some x) ss) k ≡ Some (Some s)) × IsSound row s r
sound_at row [] [] k r are at = cc
sound_at row [] (q ∷ rs) k r are at = absurd are
sound_at row (s ∷ ss) [] k r are at = absurd are
sound_at row (s ∷ ss) (q ∷ rs) zero r are at = (s, refl, subst (IsSound row s) (some_same q r at) are.0)
sound_at row (s ∷ ss) (q ∷ rs) (suc k) r are at = sound_at row ss rs k r are.1 at

module _ (code : Code) (ordered : IsOrdered code) (free : KeepsFree code) (keeps : KeepsMade code) (rate : Rate) (old h : HeapState Branch) (opened : List Sound) (empty : IsEmpty old) (trace : EvaluatesChannels code rate old h opened) (are : AreOpened code rate h opened) (unfilled : h.fills ≡ 0) where
  start : (seats : Seats) × Matched code (plan code rate).rows (nothing_filled (plan code rate).rows) h seats × AreSounds seats.row opened (plan code rate).channels
  start = opened_matching code ordered free (any_match code ordered free keeps (λ m. has_kinds code m)) trace.deep rate old trace.mid h trace.played opened empty.laws empty.none trace.plays trace.channels

  none_counted : nothing_filled (plan code rate).rows ≡ counts h.block (plan code rate) (zeros opened)
  none_counted = sym (nothing_counted code rate h.block are.plays.laws.positive) ∙ ap (counts h.block (plan code rate)) (zeros_by (plan code rate).channels opened (sym (many_sounds start.0.row opened (plan code rate).channels start.2)))

  pub opened_seated : AreSeated code rate h (map (λ (s : Sound). Some s) opened) (zeros opened)
  opened_seated = record {
    seats = start.0;
    matched = subst (λ f. Matched code (plan code rate).rows f h start.0) none_counted start.1;
    fills = unfilled ∙ sym (ap (λ (ns : List ℕ). min (sum ns) (2 ^ 64 - 1)) (sym none_counted) ∙ ap (λ n. min n (2 ^ 64 - 1)) (zero_sum (plan code rate).rows));
    count = as_many (λ (s : Sound). Some s) opened ∙ many_sounds start.0.row opened (plan code rate).channels start.2;
    names = λ k s r at here.
        let q = sound_at start.0.row opened (plan code rate).channels k r start.2 here in
        q.2.names ∙ ap (λ (t : Sound). option_map start.0.row (list_of t)) (some_same q.0 s (some_same (Some q.0) (Some s) (sym q.1 ∙ at)));
    lens = λ k r here.
        let q = sound_at start.0.row opened (plan code rate).channels k r start.2 here in
        ap (λ t. t.len) (sym q.2.timing) ∙ (are.plays.each k q.0 q.1).len ∙ ap length (samples_at (channels code rate) k rate);
  }
