-- A block of a channel is read.
use Rattle.std.proofs.Common.{◌≡◌, ◌≢◌, inl, inr, ℕ, ◌+◌, ◌-◌, ◌*◌, ◌<◌, ◌≤◌, min, List, [], length, sum, take, drop, slice_get, slice_index, slice_index_or, slice_set, Option, Some, refl, sym, ap, subst, ◌∙◌, arith, ℤ, length-take, length-drop}
use Rattle.std.proofs.lemmas.Bool.{cases_eq}
use Rattle.std.proofs.lemmas.List.{take_min, length-set}
use Rattle.std.specs.Option.{option_map_or}
use Rattle.ny_num.specs.Sound.{IsTiming}
use Rattle.ny_check.specs.Code.{Code}
use Rattle.ny_heap.specs.Heap.{Node, HeapState, node_at, list_of, place_of, stands_in, computed_of}
use Rattle.ny_heap.specs.Means.{Whole, KeepsMeaning, sound_in}
use Rattle.ny_heap.specs.Reach.{HeapLaws, IsReachable, IsTrimmed}
use Rattle.ny_heap.specs.Steps.{IsCounted, IsHeldAt, IsSettledUnit, Passes, advanced, run_of, computed_in}
use Rattle.ny_heap.specs.declared.sound.Sound.{Sound}
use Rattle.ny_hands.specs.declared.branch.Branch.{Branch}
use Rattle.ny_hands.specs.Frames.{part_is}
use Rattle.ny_hands.specs.Hands.{IsLike}
use Rattle.ny_hands.proofs.OptionLemmas.{some_same, same_at}
use Rattle.ny_hands.proofs.HeapLemmas.{reached_stays}
use Rattle.ny_trace.proofs.HeightLemmas.{uses_from}
use Rattle.ny_walk.specs.Below.{IsSettled}
use Rattle.ny_eval.specs.Playing.{IsPulled, IsChannel, ArePlaying}
use Rattle.ny_eval.proofs.ReadyLemmas.{ready_on}
use Rattle.ny_eval.proofs.MarkLemmas.{advanced_by, advanced_node, advanced_same, advanced_other, mark_counts, mark_set}
use Rattle.ny_eval.proofs.BlockLemmas.{counted, run_is, place_after, stands_within, mark_less, mark_more, advanced_like}
use Rattle.ny_eval.proofs.StayingLemmas.{get_set_same, get_set_other, channel_stays}
use Rattle.ny_eval.proofs.PlayingLemmas.{within, set_other}

-- ---- the channel that is read

module _ (old new : HeapState Branch) (whole : Whole) (s to : Sound) (xs : List ℤ) (pulls filled u n : ℕ) (was : IsChannel old whole s xs pulls filled) (more : filled ≡ pulls + 1) (list : list_of s ≡ Some u) (short : pulls * old.block < length xs) (passes : Passes s to n) (run : n ≡ run_of old.block (computed_in old (list_of s)) s.timing.len (place_of s) old.block) (old_laws : HeapLaws old) (trimmed : IsTrimmed (advanced old s to) new) where
  p : IsPulled old s filled u
  p = was.pulled u list

  p_done : p.unit.filled ≡ pulls + 1
  p_done = p.done ∙ more

  computed : computed_in old (list_of s) ≡ min ((pulls + 1) * old.block) (length xs)
  computed =
      ap (λ o. option_map_or (λ v. option_map_or (computed_of old.block) (node_at old v) 0) o 0) list
      ∙ (ap (λ o. option_map_or (computed_of old.block) o 0) p.there
      ∙ (λ i. min (p_done i * old.block) ((p.shown ∙ was.len) i)))

  count_is : n ≡ min old.block (length xs - pulls * old.block)
  count_is =
      run ∙ ((λ i. run_of old.block (computed i) (was.len i) (was.place i) old.block)
      ∙ run_is pulls old.block (length xs) old_laws.positive short)

  some_of : 0 < n
  some_of = omega (arith, count_is, short, old_laws.positive)

  place_now : place_of to ≡ min ((pulls + 1) * old.block) (length xs)
  place_now = passes.place ∙ ((λ i. was.place i + count_is i) ∙ place_after pulls old.block (length xs) short)

  list_now : list_of to ≡ Some u
  list_now = passes.list ∙ list

  trimmed_now : IsTrimmed (advanced_by old (Some u) (Some u) (place_of s) (place_of to)) new
  trimmed_now = let step : advanced old s to ≡ advanced_by old (Some u) (Some u) (place_of s) (place_of to) = λ i. advanced_by old (list i) (list_now i) (place_of s) (place_of to) in subst (λ h. IsTrimmed h new) step trimmed

  size : (new.pool ≡ old.pool) × (new.block ≡ old.block)
  size = (trimmed_now.size.pool, trimmed_now.size.block)

  from_old : (v : ℕ) (y : Node Branch) → node_at new v ≡ Some y → (x : Node Branch) × (node_at old v ≡ Some x) × IsLike x y
  from_old v y at = advanced_like old u (place_of s) (place_of to) p.unit p.there v y (trimmed_now.kept v y at)

  marked_within : stands_in old.block p.unit.timing.len (place_of to) < length p.unit.outside
  marked_within =
      let shown : p.unit.timing.len ≡ length xs = p.shown ∙ was.len in
      let low : stands_in old.block p.unit.timing.len (place_of to) ≤ pulls + 1 = subst (λ m. stands_in old.block p.unit.timing.len m ≤ pulls + 1) (sym place_now) (subst (λ len. stands_in old.block len (min ((pulls + 1) * old.block) (length xs)) ≤ pulls + 1) (sym shown) (stands_within pulls old.block (length xs) old_laws.positive)) in
      let marks = (old_laws.nodes u p.unit p.there).marks in
      omega (arith, low, marks, p_done)

  -- its reader is counted where it stands
  marks_it : 0 < slice_index (advanced_node old.block (place_of s) (place_of to) p.unit).outside (stands_in old.block p.unit.timing.len (place_of to))
  marks_it =
      let j = stands_in old.block p.unit.timing.len (place_of to) in
      let k = stands_in old.block p.unit.timing.len (place_of s) in
      let less : List ℕ = slice_set p.unit.outside k (slice_index p.unit.outside k - 1) in
      let inside : j < length less = omega (arith, length-set p.unit.outside k (slice_index p.unit.outside k - 1), marked_within) in
      omega (arith, mark_set less j (slice_index less j + 1) inside)

  -- it is still the only one
  only_now : sum (advanced_node old.block (place_of s) (place_of to) p.unit).outside ≡ 1
  only_now =
      let j = stands_in old.block p.unit.timing.len (place_of to) in
      let k = stands_in old.block p.unit.timing.len (place_of s) in
      let less : List ℕ = slice_set p.unit.outside k (slice_index p.unit.outside k - 1) in
      let inside : j < length less = omega (arith, length-set p.unit.outside k (slice_index p.unit.outside k - 1), marked_within) in
      let c = counted old s u was.held list in
      let same : c.unit ≡ p.unit = same_at (node_at old u) c.unit p.unit c.there p.there in
      let stands : 0 < slice_index p.unit.outside k = subst (λ (x : Node Branch). 0 < slice_index x.outside (stands_in old.block x.timing.len (place_of s))) same c.stands in
      omega (arith, mark_less p.unit.outside k stands, mark_more less j inside, p.only)

  there_between : node_at (advanced_by old (Some u) (Some u) (place_of s) (place_of to)) u ≡ Some (advanced_node old.block (place_of s) (place_of to) p.unit)
  there_between = advanced_same old u (place_of s) (place_of to) p.unit p.there

  reached : IsReachable (advanced_by old (Some u) (Some u) (place_of s) (place_of to)) u
  reached = (u, record { unit = advanced_node old.block (place_of s) (place_of to) p.unit; there = there_between; some = omega (arith, marks_it, mark_counts (advanced_node old.block (place_of s) (place_of to) p.unit).outside (stands_in old.block p.unit.timing.len (place_of to))) }, (0, refl))

  there_now : node_at new u ≡ Some (advanced_node old.block (place_of s) (place_of to) p.unit)
  there_now = reached_stays (advanced_by old (Some u) (Some u) (place_of s) (place_of to)) new trimmed_now u (advanced_node old.block (place_of s) (place_of to) p.unit) there_between reached

  counted_now : IsCounted new to u
  counted_now =
      let computed_now : computed_of new.block (advanced_node old.block (place_of s) (place_of to) p.unit) ≡ min ((pulls + 1) * old.block) (length xs) = λ i. min (p_done i * size.1 i) ((p.shown ∙ was.len) i) in
      record {
        unit = advanced_node old.block (place_of s) (place_of to) p.unit;
        there = there_now;
        some = omega (arith, short, was.len, ap (λ t. t.len) passes.timing);
        visible = omega (arith, p.shown, ap (λ t. t.len) passes.timing);
        place = omega (arith, place_now, computed_now, was.len, ap (λ t. t.len) passes.timing);
        stands = subst (λ b. 0 < slice_index (advanced_node old.block (place_of s) (place_of to) p.unit).outside (stands_in b p.unit.timing.len (place_of to))) (sym size.1) marks_it;
      }

  settled_now : IsSettled old → IsSettled new
  settled_now settled v y at =
      let x = from_old v y at in
      subst (λ (q : Node Branch). IsSettledUnit new.block q) (sym x.2) (subst (λ b. IsSettledUnit b x.0) (sym size.1) (settled v x.0 x.1))

  samples_now : take n (drop (place_of s) xs) ≡ take old.block (drop (pulls * old.block) xs)
  samples_now =
      let low : place_of s ≡ pulls * old.block = was.place ∙ (omega arith) in
      let rest : length (drop (pulls * old.block) xs) ≡ length xs - pulls * old.block = length-drop (pulls * old.block) xs in
      (λ i. take ((count_is ∙ ap (λ m. min old.block m) (sym rest)) i) (drop (low i) xs)) ∙ take_min old.block (drop (pulls * old.block) xs)

  count_now : n ≡ length (take old.block (drop (pulls * old.block) xs))
  count_now = count_is ∙ sym (length-take old.block (drop (pulls * old.block) xs) ∙ ap (λ m. min old.block m) (length-drop (pulls * old.block) xs))

  channel_now : IsChannel new whole to xs (pulls + 1) filled
  channel_now = record {
    held = (subst IsTiming (sym passes.timing) was.held.0, subst (λ o. IsHeldAt new to o) (sym list_now) counted_now);
    len = ap (λ t. t.len) passes.timing ∙ was.len;
    place = subst (λ b. place_of to ≡ min ((pulls + 1) * b) (length xs)) (sym size.1) place_now;
    pulled = λ m is. subst (λ v. IsPulled new to filled v) (some_same u m (sym list_now ∙ is)) (record {
      unit = advanced_node old.block (place_of s) (place_of to) p.unit;
      there = there_now;
      shown = p.shown ∙ sym (ap (λ t. t.len) passes.timing);
      done = p.done;
      only = only_now;
      top = λ w uses. p.top w (uses_from old new from_old w u uses);
    });
    samples = (λ i. (sound_in whole.samples (passes.list i) (passes.timing i)).samples) ∙ was.samples;
  }

  -- another unit that is read from outside is as it was
  stays_now : (m : ℕ) (x : Node Branch) → m ≢ u → node_at old m ≡ Some x → 0 < sum x.outside → node_at new m ≡ Some x
  stays_now m x ne at some =
      let there : node_at (advanced_by old (Some u) (Some u) (place_of s) (place_of to)) m ≡ Some x = advanced_other old u (place_of s) (place_of to) m ne ∙ at in
      reached_stays (advanced_by old (Some u) (Some u) (place_of s) (place_of to)) new trimmed_now m x there (m, record { unit = x; there = there; some = some }, (0, refl))

  was_read : (v : ℕ) (y : Node Branch) → v ≢ u → node_at new v ≡ Some y → node_at old v ≡ Some y
  was_read v y ne at = sym (advanced_other old u (place_of s) (place_of to) v ne) ∙ trimmed_now.kept v y at

-- ---- all of them

pub record Read (code : Code) (old new : HeapState Branch) (sounds : List (Option Sound)) (xss : List (List ℤ)) (pulls filled : List ℕ) (c : ℕ) (s to : Sound) (n : ℕ) : Type 0 where
  pub playing : ArePlaying code new (slice_set sounds c (Some to)) xss (slice_set pulls c (slice_index pulls c + 1)) filled
  pub count : n ≡ length (take old.block (drop (slice_index pulls c * old.block) (slice_index_or xss c [])))
  pub some : 0 < n
  pub samples : take n (drop (place_of s) (slice_index_or xss c [])) ≡ take old.block (drop (slice_index pulls c * old.block) (slice_index_or xss c []))
  pub pool : new.pool ≡ old.pool
  pub block : new.block ≡ old.block

module _ (code : Code) (old new : HeapState Branch) (sounds : List (Option Sound)) (xss : List (List ℤ)) (pulls filled : List ℕ) (c : ℕ) (s to : Sound) (u n : ℕ) (p : ArePlaying code old sounds xss pulls filled) (at : slice_get sounds c ≡ Some (Some s)) (list : list_of s ≡ Some u) (more : slice_index filled c ≡ slice_index pulls c + 1) (short : slice_index pulls c * old.block < length (slice_index_or xss c [])) (passes : Passes s to n) (run : n ≡ run_of old.block (computed_in old (list_of s)) s.timing.len (place_of s) old.block) (laws : HeapLaws new) (trimmed : IsTrimmed (advanced old s to) new) (keeps : KeepsMeaning old new) where
  abbrev later : List (Option Sound)
  later = slice_set sounds c (Some to)

  abbrev counts : List ℕ
  counts = slice_set pulls c (slice_index pulls c + 1)

  inside : c < length sounds
  inside = within sounds c s at

  inside_pulls : c < length pulls
  inside_pulls = omega (arith, inside, p.count, p.count_pulls)

  is_to : (d : ℕ) (t : Sound) → d ≡ c → slice_get later d ≡ Some (Some t) → to ≡ t
  is_to d t same is = some_same to t (some_same (Some to) (Some t) (sym (get_set_same sounds c (Some to) inside) ∙ (ap (slice_get later) (sym same) ∙ is)))

  was_there : (d : ℕ) (t : Sound) → d ≢ c → slice_get later d ≡ Some (Some t) → slice_get sounds d ≡ Some (Some t)
  was_there d t other is = sym (get_set_other sounds c d (Some to) other) ∙ is

  -- each sound reads a list that a sound at its place read
  before : (d : ℕ) (t : Sound) (m : ℕ) → slice_get later d ≡ Some (Some t) → list_of t ≡ Some m → (q : Sound) × (slice_get sounds d ≡ Some (Some q)) × (list_of q ≡ Some m)
  before d t m is of = elim (cases_eq d c) [
    | inl same ↦ (s, ap (slice_get sounds) same ∙ at, sym passes.list ∙ (ap (λ (q : Sound). list_of q) (is_to d t same is) ∙ of))
    | inr other ↦ (t, was_there d t other is, of)
  ]

  the_channel : IsChannel new p.whole to (slice_index_or xss c []) (slice_index counts c) (slice_index filled c)
  the_channel = subst (λ k. IsChannel new p.whole to (slice_index_or xss c []) k (slice_index filled c)) (sym (mark_set pulls c (slice_index pulls c + 1) inside_pulls))
      (channel_now old new p.whole s to (slice_index_or xss c []) (slice_index pulls c) (slice_index filled c) u n (p.each c s at) more list short passes run p.laws trimmed)

  other_channel : (d : ℕ) (t : Sound) → d ≢ c → slice_get sounds d ≡ Some (Some t) → IsChannel new p.whole t (slice_index_or xss d []) (slice_index counts d) (slice_index filled d)
  other_channel d t other is = subst (λ k. IsChannel new p.whole t (slice_index_or xss d []) k (slice_index filled d)) (sym (set_other pulls c d (slice_index pulls c + 1) other))
      (channel_stays old new p.whole t (slice_index_or xss d []) (slice_index pulls d) (slice_index filled d)
      (size old new p.whole s to (slice_index_or xss c []) (slice_index pulls c) (slice_index filled c) u n (p.each c s at) more list short passes run p.laws trimmed).1
      (from_old old new p.whole s to (slice_index_or xss c []) (slice_index pulls c) (slice_index filled c) u n (p.each c s at) more list short passes run p.laws trimmed)
      (λ m x of there some. stays_now old new p.whole s to (slice_index_or xss c []) (slice_index pulls c) (slice_index filled c) u n (p.each c s at) more list short passes run p.laws trimmed m x
      (λ same. other (p.apart d c t s u is at (of ∙ ap (λ k. Some k) same) list)) there some)
      (p.each d t is))

  pub read_channel : Read code old new sounds xss pulls filled c s to n
  read_channel = record {
    playing = record {
      laws = laws;
      settled = settled_now old new p.whole s to (slice_index_or xss c []) (slice_index pulls c) (slice_index filled c) u n (p.each c s at) more list short passes run p.laws trimmed p.settled;
      ready = ready_on code old new (from_old old new p.whole s to (slice_index_or xss c []) (slice_index pulls c) (slice_index filled c) u n (p.each c s at) more list short passes run p.laws trimmed) p.ready;
      whole = p.whole;
      means = keeps (part_is code) p.whole p.means;
      count = length-set sounds c (Some to) ∙ p.count;
      count_pulls = length-set pulls c (slice_index pulls c + 1) ∙ p.count_pulls;
      count_filled = p.count_filled;
      each = λ d t is. elim (cases_eq d c) [
        | inl same ↦ subst (λ (q : Sound). IsChannel new p.whole q (slice_index_or xss d []) (slice_index counts d) (slice_index filled d)) (is_to d t same is) (subst (λ k. IsChannel new p.whole to (slice_index_or xss k []) (slice_index counts k) (slice_index filled k)) (sym same) the_channel)
        | inr other ↦ other_channel d t other (was_there d t other is)
      ];
      apart = λ d e t q m is also of too.
          let x = before d t m is of in
          let y = before e q m also too in
          p.apart d e x.0 y.0 m x.1 y.1 x.2 y.2;
      alone = λ v y there some. elim (cases_eq v u) [
        | inl same ↦ (c, to, get_set_same sounds c (Some to) inside, passes.list ∙ (list ∙ ap (λ k. Some k) (sym same)))
        | inr ne ↦
            let x = p.alone v y (was_read old new p.whole s to (slice_index_or xss c []) (slice_index pulls c) (slice_index filled c) u n (p.each c s at) more list short passes run p.laws trimmed v y ne there) some in
            (x.0, x.1, get_set_other sounds c x.0 (Some to) (λ same. ne (some_same v u (sym x.3 ∙ (ap (λ (q : Sound). list_of q) (some_same x.1 s (some_same (Some x.1) (Some s) (sym x.2 ∙ (ap (slice_get sounds) same ∙ at)))) ∙ list)))) ∙ x.2, x.3)
      ];
    };
    count = count_now old new p.whole s to (slice_index_or xss c []) (slice_index pulls c) (slice_index filled c) u n (p.each c s at) more list short passes run p.laws trimmed;
    some = some_of old new p.whole s to (slice_index_or xss c []) (slice_index pulls c) (slice_index filled c) u n (p.each c s at) more list short passes run p.laws trimmed;
    samples = samples_now old new p.whole s to (slice_index_or xss c []) (slice_index pulls c) (slice_index filled c) u n (p.each c s at) more list short passes run p.laws trimmed;
    pool = (size old new p.whole s to (slice_index_or xss c []) (slice_index pulls c) (slice_index filled c) u n (p.each c s at) more list short passes run p.laws trimmed).0;
    block = (size old new p.whole s to (slice_index_or xss c []) (slice_index pulls c) (slice_index filled c) u n (p.each c s at) more list short passes run p.laws trimmed).1;
  }
