-- The channels that were just opened, one after another: each is still to be pulled, or over.
use Rattle.std.proofs.Common.{◌≡◌, ◌⊎◌, inl, inr, ℕ, zero, suc, ◌*◌, ◌<◌, ◌≤◌, List, [], ◌∷◌, ◌++◌, map, length, slice_get, slice_index, slice_index_or, slice_set, Option, None, Some, IsSome, refl, sym, ap, subst, ◌∙◌, arith}
use Rattle.std.proofs.lemmas.List.{append_assoc}
use Rattle.ny_num.specs.declared.rate.Rate.{Rate}
use Rattle.ny_num.specs.Sound.{silence}
use Rattle.ny_check.specs.Code.{Code}
use Rattle.ny_check.specs.Channels.{channels}
use Rattle.ny_heap.specs.Heap.{HeapState, list_of, open_unit}
use Rattle.ny_heap.specs.Means.{KeepsMeaning}
use Rattle.ny_heap.specs.Reach.{HeapLaws, IsTrimmed}
use Rattle.ny_heap.specs.Steps.{IsHeldSound, without_sound}
use Rattle.ny_heap.specs.declared.sound.Sound.{Sound}
use Rattle.ny_hands.specs.Counts.{SameCounts}
use Rattle.ny_hands.specs.declared.branch.Branch.{Branch}
use Rattle.ny_hands.proofs.HeapLemmas.{counts_none, counts_more}
use Rattle.ny_hands.proofs.MarkLemmas.{spent_like}
use Rattle.ny_hands.proofs.OptionLemmas.{some_same, some_there}
use Rattle.ny_eval.specs.Opened.{AreOpened, zeros}
use Rattle.ny_eval.specs.Playing.{IsChannel, ArePlaying}
use Rattle.ny_eval.proofs.GivingUpLemmas.{open_of, ended_of, given_up_channel}
use Rattle.ny_pull.specs.Engine.{Leaves}
use Rattle.ny_pull.specs.Inside.{HasGiven, samples_of}
use Rattle.ny_pull.specs.Places.{HaveBegun}
use Rattle.ny_pull.specs.Seated.{AreSeated}
use Rattle.ny_pull.proofs.EngineLemmas.{samples_at}
use Rattle.ny_pull.proofs.SeatedLemmas.{left_seated}

-- ---- places

first_left : (done : List (Option Sound)) (x : Option Sound) (ys : List (Option Sound)) → slice_get (done ++ x ∷ ys) (length done) ≡ Some x
first_left [] x ys = refl
first_left (d ∷ done) x ys = first_left done x ys

set_first : (done : List (Option Sound)) (x y : Option Sound) (ys : List (Option Sound)) → slice_set (done ++ x ∷ ys) (length done) y ≡ (done ++ y ∷ []) ++ ys
set_first [] x y ys = refl
set_first (d ∷ done) x y ys = ap (λ (os : List (Option Sound)). d ∷ os) (set_first done x y ys)

last_got : (done : List (Option Sound)) (x : Option Sound) (c : ℕ) (o : Option Sound) → slice_get (done ++ x ∷ []) c ≡ Some o → (slice_get done c ≡ Some o) ⊎ ((c ≡ length done) × (x ≡ o))
last_got [] x zero o e = inr (refl, some_same x o e)
last_got [] x (suc c) o e = cc
last_got (d ∷ done) x zero o e = inl e
last_got (d ∷ done) x (suc c) o e = by_rest (last_got done x c o e)
  where
    by_rest : (slice_get done c ≡ Some o) ⊎ ((c ≡ length done) × (x ≡ o)) → (slice_get done c ≡ Some o) ⊎ ((suc c ≡ suc (length done)) × (x ≡ o))
    by_rest (inl is) = inl is
    by_rest (inr (place, same)) = inr (ap suc place, same)

zero_at : (opened : List Sound) (c : ℕ) → slice_index (zeros opened) c ≡ 0
zero_at [] zero = refl
zero_at [] (suc c) = refl
zero_at (s ∷ ss) zero = refl
zero_at (s ∷ ss) (suc c) = zero_at ss c

no_blocks : (n b : ℕ) → n ≡ 0 → n * b ≡ 0
no_blocks n b is = ap (λ k. k * b) is ∙ omega arith

-- ---- one channel more

pub begun_none : (code : Code) (rate : Rate) (opened : List Sound) (h : HeapState Branch) → AreOpened code rate h opened → AreSeated code rate h (map Some opened) (zeros opened) → HaveBegun code rate opened [] opened h
begun_none code rate opened h are seated = record { playing = are.plays; given = λ c o e. absurd (never c o e); seated = seated }
  where
    never : (c : ℕ) (o : Option Sound) → slice_get [] c ≡ Some o → ⊥
    never c o e = cc

module _ (code : Code) (rate : Rate) (opened : List Sound) (done : List (Option Sound)) (s : Sound) (rest : List Sound) (old : HeapState Branch) (so : HaveBegun code rate opened done (s ∷ rest) old) where
  c : ℕ
  c = length done

  here : slice_get (done ++ Some s ∷ map Some rest) (length done) ≡ Some (Some s)
  here = first_left done (Some s) (map Some rest)

  channel : IsChannel old so.playing.whole s (slice_index_or (samples_of code rate) (length done) []) (slice_index (zeros opened) (length done)) (slice_index (zeros opened) (length done))
  channel = so.playing.each (length done) s here

  len_is : length (slice_index_or (samples_of code rate) (length done) []) ≡ length (slice_index_or (channels code rate) (length done) (silence rate)).samples
  len_is = ap length (samples_at (channels code rate) (length done) rate)

  none_read : slice_index (zeros opened) (length done) * old.block ≡ 0
  none_read = no_blocks (slice_index (zeros opened) (length done)) old.block (zero_at opened (length done))

  -- which has samples
  pub begun_open : IsSome (open_unit old (list_of s)) → HaveBegun code rate opened (done ++ Some s ∷ []) rest old
  begun_open some = record {
    playing = subst (λ (os : List (Option Sound)). ArePlaying code old os (samples_of code rate) (zeros opened) (zeros opened)) (sym (append_assoc done (Some s ∷ []) (map Some rest))) so.playing;
    given = λ d o at. by_place d o (last_got done (Some s) d o at);
    seated = subst (λ (os : List (Option Sound)). AreSeated code rate old os (zeros opened)) (sym (append_assoc done (Some s ∷ []) (map Some rest))) so.seated;
  }
    where
      more : 0 < length (slice_index_or (channels code rate) (length done) (silence rate)).samples
      more =
          let u = some_there (open_unit old (list_of s)) some in
          let opens = open_of old so.playing.whole s (slice_index_or (samples_of code rate) (length done) []) (slice_index (zeros opened) (length done)) u.0 so.playing.laws channel u.1 in
          omega (arith, opens.short, none_read, len_is)

      by_place : (d : ℕ) (o : Option Sound) → (slice_get done d ≡ Some o) ⊎ ((d ≡ length done) × (Some s ≡ o)) → HasGiven o (length (slice_index_or (channels code rate) d (silence rate)).samples) 0
      by_place d o (inl at) = so.given d o at
      by_place d o (inr (place, same)) =
          subst (λ (o : Option Sound). HasGiven o (length (slice_index_or (channels code rate) d (silence rate)).samples) 0) same
          (subst (λ k. 0 < length (slice_index_or (channels code rate) k (silence rate)).samples) (sym place) more)

  -- or is over at once
  module _ (new : HeapState Branch) (none : open_unit old (list_of s) ≡ None) (trimmed : IsTrimmed (without_sound old s) new) where
    pub over_counts : SameCounts old new
    over_counts = counts_more old (without_sound old s) new (spent_like old (s ∷ [])).counts (record { pool = trimmed.size.pool; block = trimmed.size.block; fills = trimmed.fills; peak = trimmed.peak })

    pub begun_over : HeapLaws new → KeepsMeaning old new → HaveBegun code rate opened (done ++ None ∷ []) rest new
    begun_over laws keeps = record {
      playing = subst (λ (os : List (Option Sound)). ArePlaying code new os (samples_of code rate) (zeros opened) (zeros opened)) (set_first done (Some s) None (map Some rest))
          (given_up_channel code old new (done ++ Some s ∷ map Some rest) (samples_of code rate) (zeros opened) (zeros opened) (length done) s so.playing here laws trimmed keeps);
      given = λ d o at. by_place d o (last_got done None d o at);
      seated = subst (λ (os : List (Option Sound)). AreSeated code rate new os (zeros opened)) (set_first done (Some s) None (map Some rest))
          (left_seated code rate old new (done ++ Some s ∷ map Some rest) (zeros opened) (length done) s here over_counts so.seated None (none, trimmed));
    }
      where
        over : length (slice_index_or (channels code rate) (length done) (silence rate)).samples ≤ 0
        over =
            let ends = ended_of old so.playing.whole s (slice_index_or (samples_of code rate) (length done) []) (slice_index (zeros opened) (length done)) so.playing.laws channel none in
            omega (arith, ends, none_read, len_is)

        by_place : (d : ℕ) (o : Option Sound) → (slice_get done d ≡ Some o) ⊎ ((d ≡ length done) × (None ≡ o)) → HasGiven o (length (slice_index_or (channels code rate) d (silence rate)).samples) 0
        by_place d o (inl at) = so.given d o at
        by_place d o (inr (place, same)) =
            subst (λ (o : Option Sound). HasGiven o (length (slice_index_or (channels code rate) d (silence rate)).samples) 0) same
            (subst (λ k. length (slice_index_or (channels code rate) k (silence rate)).samples ≤ 0) (sym place) over)

  -- what is left of it
  pub begun_more : (new : HeapState Branch) (o : Option Sound) → Leaves old new s o → HeapLaws new → KeepsMeaning old new → HaveBegun code rate opened (done ++ o ∷ []) rest new
  begun_more new None leaves laws keeps = begun_over new leaves.0 leaves.1 laws keeps
  begun_more new (Some r) leaves laws keeps =
      subst (λ (h : HeapState Branch). HaveBegun code rate opened (done ++ Some r ∷ []) rest h) (sym leaves.2)
      (subst (λ (t : Sound). HaveBegun code rate opened (done ++ Some t ∷ []) rest old) (sym leaves.1) (begun_open leaves.0))

  pub begun_counts : (new : HeapState Branch) (o : Option Sound) → Leaves old new s o → SameCounts old new
  begun_counts new None leaves = over_counts new leaves.0 leaves.1
  begun_counts new (Some r) leaves = subst (λ (h : HeapState Branch). SameCounts old h) (sym leaves.2) (counts_none old)

  pub begun_held : IsHeldSound old s
  begun_held = channel.held
