-- An engine at its beginning.
use Rattle.std.proofs.Common.{◌≡◌, ℕ, zero, suc, ◌*◌, ◌≤◌, max, List, [], ◌∷◌, ◌++◌, length, map, sum, replicate, slice_get, slice_index, slice_index_or, Option, None, Some, refl, sym, ap, subst, ◌∙◌, arith}
use Rattle.ny_num.specs.Grid.{last_index}
use Rattle.ny_num.specs.declared.rate.Rate.{Rate}
use Rattle.ny_num.specs.declared.timing.Timing.{Timing}
use Rattle.ny_num.specs.Sound as sounds
use Rattle.ny_num.specs.Sound.{silence, sound_of, spanning, timing_of}
use Rattle.ny_num.specs.Mix.{channel, channel_timing}
use Rattle.ny_num.proofs.SoundTimings.{timing_of-resampled}
use Rattle.ny_num.proofs.RateLaws.{resampled_timing-rate}
use Rattle.ny_warp.specs.Environment.{opening}
use Rattle.ny_check.specs.Code.{Code}
use Rattle.ny_check.specs.Channels.{channels, longest, played, channel_at as in_channel}
use Rattle.ny_heap.specs.Heap.{Node, HeapState, node_at}
use Rattle.ny_heap.specs.declared.sound.Sound.{Sound}
use Rattle.ny_hands.specs.declared.branch.Branch.{Branch}
use Rattle.ny_eval.specs.Opened.{zeros, AreOpened}
use Rattle.ny_eval.specs.Playing.{ArePlaying}
use Rattle.ny_pull.specs.declared.fault.PullFault.{PullFault}
use Rattle.ny_pull.specs.Inside.{HasGiven, samples_of, IsEngineInside}
use Rattle.ny_pull.specs.Places.{longest_of, HaveBegun}
use Rattle.ny_pull.specs.Seated.{AreSeated}

-- ---- the times of channels

rate_of : (rate : Rate) (s : sounds.Sound) → (in_channel rate s).rate ≡ rate
unfolding channel sound_of channel_timing spanning timing_of
rate_of rate s = ap (λ (t : Timing). t.rate) (timing_of-resampled rate s) ∙ resampled_timing-rate rate (timing_of s)

rate_is : (s : sounds.Sound) → (timing_of s).rate ≡ s.rate
unfolding timing_of
rate_is s = refl

len_is : (s : sounds.Sound) → (timing_of s).len ≡ length s.samples
unfolding timing_of
len_is s = refl

none_long : (rate : Rate) → length (silence rate).samples ≡ 0
unfolding silence
none_long rate = refl

first_same : (s : Sound) (c : sounds.Sound) (ss : List Sound) (cs : List sounds.Sound) → map (λ (x : Sound). x.timing) (s ∷ ss) ≡ map timing_of (c ∷ cs) → s.timing ≡ timing_of c
first_same s c ss cs e = cc

rest_same : (s : Sound) (c : sounds.Sound) (ss : List Sound) (cs : List sounds.Sound) → map (λ (x : Sound). x.timing) (s ∷ ss) ≡ map timing_of (c ∷ cs) → map (λ (x : Sound). x.timing) ss ≡ map timing_of cs
rest_same s c ss cs e = cc

pub longest_same : (ss : List Sound) (cs : List sounds.Sound) → map (λ (s : Sound). s.timing) ss ≡ map timing_of cs → longest_of ss ≡ longest cs
longest_same [] [] e = refl
longest_same [] (c ∷ cs) e = cc
longest_same (s ∷ ss) [] e = cc
longest_same (s ∷ ss) (c ∷ cs) e =
    let len : s.timing.len ≡ length c.samples = ap (λ (t : Timing). t.len) (first_same s c ss cs e) ∙ len_is c in
    let rest = longest_same ss cs (rest_same s c ss cs e) in
    (λ i. max (len i) (rest i))

-- the sound of a channel is as long, and of the rate of the command
hour_in : (rate : Rate) (ss : List Sound) (ps : List sounds.Sound) (c : ℕ) → map (λ (s : Sound). s.timing) ss ≡ map timing_of (map (in_channel rate) ps)
    → ((s : Sound) → slice_get ss c ≡ Some s → s.timing.len ≤ last_index s.timing.rate) → length (slice_index_or (map (in_channel rate) ps) c (silence rate)).samples ≤ last_index rate
hour_in rate ss [] c e ends = omega (arith, none_long rate)
hour_in rate [] (p ∷ ps) c e ends = cc
hour_in rate (s ∷ ss) (p ∷ ps) zero e ends =
    let same = first_same s (in_channel rate p) ss (map (in_channel rate) ps) e in
    let len : s.timing.len ≡ length (in_channel rate p).samples = ap (λ (t : Timing). t.len) same ∙ len_is (in_channel rate p) in
    let at : s.timing.rate ≡ rate = ap (λ (t : Timing). t.rate) same ∙ rate_is (in_channel rate p) ∙ rate_of rate p in
    omega (arith, len, ends s refl, ap last_index at)
hour_in rate (s ∷ ss) (p ∷ ps) (suc c) e ends = hour_in rate ss ps c (rest_same s (in_channel rate p) ss (map (in_channel rate) ps) e) ends

some_at : (ss : List Sound) (c : ℕ) (s : Sound) → slice_get ss c ≡ Some s → slice_get (map (λ (x : Sound). Some x) ss) c ≡ Some (Some s)
some_at [] c s e = cc
some_at (x ∷ ss) zero s e = ap (λ (o : Option Sound). Some o) e
some_at (x ∷ ss) (suc c) s e = some_at ss c s e

module _ (code : Code) (rate : Rate) (h : HeapState Branch) (opened : List Sound) (are : AreOpened code rate h opened) where
  ends_at : (c : ℕ) (s : Sound) → slice_get opened c ≡ Some s → s.timing.len ≤ last_index s.timing.rate
  ends_at c s at = omega (arith, (are.plays.each c s (some_at opened c s at)).held.0.ends)

  -- each channel ends no later than the hour
  pub hour_of : (c : ℕ) → length (slice_index_or (channels code rate) c (silence rate)).samples ≤ last_index rate
  unfolding channels
  hour_of c = hour_in rate opened (played code code.play.0 (opening rate) []) c are.timings (ends_at c)

-- ---- nothing was pulled

pub nothing_in : (h : HeapState Branch) → h.nodes ≡ [] → (v : ℕ) → node_at h v ≡ None
nothing_in h is v = ap (λ (os : List (Option (Node Branch))). slice_index_or os v None) is ∙ none v
  where
    none : (v : ℕ) → slice_index_or {A = Option (Node Branch)} [] v None ≡ None
    none zero = refl
    none (suc v) = refl

no_more : {A : Type 0} (xs : List A) → xs ++ [] ≡ xs
no_more [] = refl
no_more (x ∷ xs) = ap (λ rest. x ∷ rest) (no_more xs)

pub as_many : {A B : Type 0} (f : A → B) (xs : List A) → length (map f xs) ≡ length xs
as_many f [] = refl
as_many f (x ∷ xs) = ap (λ (n : ℕ). suc n) (as_many f xs)

pub zeros_by : {A B : Type 0} (xs : List A) (ys : List B) → length xs ≡ length ys → map {B = ℕ} (λ (x : A). 0) xs ≡ map {B = ℕ} (λ (y : B). 0) ys
zeros_by [] [] e = refl
zeros_by [] (y ∷ ys) e = absurd (omega (arith, e))
zeros_by (x ∷ xs) [] e = absurd (omega (arith, e))
zeros_by (x ∷ xs) (y ∷ ys) e = ap (λ rest. 0 ∷ rest) (zeros_by xs ys (omega (arith, e)))

zeros_again : (n : ℕ) (xs : List Sound) → n ≡ length xs → replicate n 0 ≡ zeros xs
zeros_again zero [] e = refl
zeros_again zero (x ∷ xs) e = absurd (omega (arith, e))
zeros_again (suc n) [] e = absurd (omega (arith, e))
zeros_again (suc n) (x ∷ xs) e = ap (λ rest. 0 ∷ rest) (zeros_again n xs (omega (arith, e)))

zero_at : (xs : List Sound) (c : ℕ) → slice_index (zeros xs) c ≡ 0
zero_at [] c = refl
zero_at (x ∷ xs) zero = refl
zero_at (x ∷ xs) (suc c) = zero_at xs c

pub zero_sum : {A : Type 0} (xs : List A) → sum (map {B = ℕ} (λ (x : A). 0) xs) ≡ 0
zero_sum [] = refl
zero_sum (x ∷ xs) = zero_sum xs

module _ (code : Code) (rate : Rate) (before h : HeapState Branch) (opened : List Sound) (os : List (Option Sound)) (are : AreOpened code rate before opened) (begun : HaveBegun code rate opened os [] h) where
  pub playing : ArePlaying code h os (samples_of code rate) (zeros opened) (zeros opened)
  playing = subst (λ qs. ArePlaying code h qs (samples_of code rate) (zeros opened) (zeros opened)) (no_more os) begun.playing

  pub count_is : length os ≡ length (channels code rate)
  count_is = playing.count ∙ as_many (λ (s : sounds.Sound). s.samples) (channels code rate)

  opened_is : length opened ≡ length (channels code rate)
  opened_is = sym (as_many (λ (s : Sound). 0) opened) ∙ playing.count_pulls ∙ as_many (λ (s : sounds.Sound). s.samples) (channels code rate)

  -- as many as there are channels
  pub pulled_is : zeros opened ≡ map (λ (s : sounds.Sound). 0) (channels code rate)
  pulled_is = zeros_by opened (channels code rate) opened_is

  pub counts_are : (n : ℕ) (pulled : List ℕ) → pulled ≡ replicate n 0 → n ≡ length os → pulled ≡ zeros opened
  counts_are n pulled is many = is ∙ zeros_again n opened (many ∙ count_is ∙ sym opened_is)

  pub begins_inside : (pulled : List ℕ) (frames pulls : ℕ) (spent : Option PullFault) → pulled ≡ zeros opened → frames ≡ longest_of opened → pulls ≡ 0 → spent ≡ None
      → (1 ≤ length (channels code rate)) × (length (channels code rate) ≤ 8) → IsEngineInside code rate h os pulled frames pulls spent
  begins_inside pulled frames pulls spent zero_pulled most none unspent few = record {
    count = count_is;
    count_pulled = ap (λ (ns : List ℕ). length ns) zero_pulled ∙ as_many (λ (s : Sound). 0) opened ∙ opened_is;
    some = omega (arith, count_is, few.0);
    few = omega (arith, count_is, few.1);
    len = most ∙ longest_same opened (channels code rate) are.timings;
    total = none ∙ sym (zero_sum opened) ∙ ap (λ (ns : List ℕ). sum ns) (sym zero_pulled);
    bounded = λ c. omega (arith, ap (λ (ns : List ℕ). slice_index ns c) zero_pulled, zero_at opened c);
    laws = playing.laws;
    given = given_at;
    still = λ enough. subst (λ (ns : List ℕ). ArePlaying code h os (samples_of code rate) ns ns) (sym zero_pulled) playing;
    seated = λ still. subst (λ (ns : List ℕ). AreSeated code rate h os ns) (sym zero_pulled) (subst (λ qs. AreSeated code rate h qs (zeros opened)) (no_more os) begun.seated);
    full = λ fault is. absurd (never spent fault unspent is);
  }
    where
      never : (o : Option PullFault) (fault : PullFault) → o ≡ None → o ≡ Some fault → ⊥
      never o fault p q = cc

      given_at : (c : ℕ) (o : Option Sound) → slice_get os c ≡ Some o → HasGiven o (length (slice_index_or (channels code rate) c (silence rate)).samples) (slice_index pulled c * h.block)
      given_at c o at =
          let none : slice_index pulled c ≡ 0 = ap (λ (ns : List ℕ). slice_index ns c) zero_pulled ∙ zero_at opened c in
          let nothing : slice_index pulled c * h.block ≡ 0 = omega (arith, ap (λ n. n * h.block) none) in
          subst (λ n. HasGiven o (length (slice_index_or (channels code rate) c (silence rate)).samples) n) (sym nothing) (begun.given c o at)
