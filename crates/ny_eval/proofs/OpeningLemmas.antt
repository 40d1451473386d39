-- What is played becomes channels, one after another: what each is, and that its unit is read by one sound alone.
use Rattle.std.proofs.Common.{◌≡◌, inl, inr, ℕ, ◌≤◌, false, List, [], ◌∷◌, ◌++◌, map, refl, sym, ap, subst, ◌∙◌, arith}
use Rattle.std.proofs.lemmas.Bool.{cases_eq}
use Rattle.std.proofs.lemmas.List.{append_assoc, append-nil}
use Rattle.std.specs.Option.{option_map_or}
use Rattle.std.specs.Prelude.{slice_index}
use Rattle.ny_num.specs.declared.timing.Timing.{Timing}
use Rattle.ny_num.specs.declared.rate.Rate.{Rate}
use Rattle.ny_num.specs.Mix as mixes
use Rattle.ny_num.specs.Mix.{channel_timing}
use Rattle.ny_num.specs.Resampling.{resampled}
use Rattle.ny_num.specs.Sound as sounds
use Rattle.ny_num.specs.Sound.{timing_of, value_at, sound_of}
use Rattle.ny_check.specs.Code.{Code, IsOrdered}
use Rattle.ny_check.specs.Channels.{channel_at}
use Rattle.ny_heap.specs.Heap.{Channel, Node, HeapState, node_at}
use Rattle.ny_heap.specs.Means.{Whole, heard, input_sound}
use Rattle.ny_heap.specs.Steps.{IsSettledUnit, new_node, reader_of}
use Rattle.ny_heap.specs.declared.sound.Sound.{Sound}
use Rattle.ny_hands.specs.declared.branch.Branch.{Branch}
use Rattle.ny_hands.specs.Calls.{MakesUnit}
use Rattle.ny_hands.specs.Frames.{part_is}
use Rattle.ny_hands.specs.Hands.{Item, item, sounds_in, Comes, IsLike, marks_at, marks_of}
use Rattle.ny_hands.proofs.OptionLemmas.{same_at}
use Rattle.ny_hands.proofs.HeapLemmas.{Length, Empty, Long, length_of}
use Rattle.ny_hands.proofs.HandLemmas.{marks_append}
use Rattle.ny_hands.proofs.MarkLemmas.{spent_like}
use Rattle.ny_hands.proofs.SoundLemmas.{heard_is}
use Rattle.ny_hands.proofs.ComingLemmas.{sounds_append, comes_made, comes_brought, comes_turned, timing_begin}
use Rattle.ny_trace.proofs.SettlingLemmas.{settled_brought}
use Rattle.ny_trace.proofs.HeightLemmas.{from_trimmed}
use Rattle.ny_walk.specs.Below.{IsSettled}
use Rattle.ny_walk.proofs.PartsStepLemmas.{parts_plain, parts_brought}
use Rattle.ny_walk.proofs.FitStepLemmas.{fit_plain, fit_brought}
use Rattle.ny_trace.specs.Channels.{ChannelTurn, ChannelsTurn}
use Rattle.ny_eval.specs.Opened.{IsEmpty}
use Rattle.ny_eval.specs.Ready.{IsReady}
use Rattle.ny_eval.proofs.FreshLemmas.{AllFresh, fresh_behind, fresh_new, all_fresh_made, all_fresh_brought}

-- ---- nothing waits for a channel's unit

pub made_settled : (mid new : HeapState Branch) (t : Timing) (a s : Sound) → MakesUnit mid new Channel t (a ∷ []) [] (a ∷ []) s → IsSettled mid → IsSettled new
made_settled mid new t a s made all = by_length (length_of t)
  where
    like : (y z : Node Branch) (small large : ℕ) → small ≡ large → IsLike y z → IsSettledUnit large y → IsSettledUnit small z
    like y z small large same is one = subst (λ (q : Node Branch). IsSettledUnit small q) (sym is) (subst (λ n. IsSettledUnit n y) (sym same) one)

    by_length : Length t → IsSettled new
    by_length (Empty e f) = λ v y at.
        let trimmed = made.makes.none e in
        let x = from_trimmed mid new (a ∷ []) trimmed v y at in
        like x.0 y new.block mid.block (trimmed.size.block ∙ (spent_like mid (a ∷ [])).counts.block) x.2 (all v x.0 x.1)
    by_length (Long e f) = λ v y at. elim (cases_eq v made.makes.node) [
      | inl same ↦
          let adds = made.makes.unit e in
          let is : new_node Channel t (a ∷ []) [] ≡ y = same_at (node_at new made.makes.node) (new_node Channel t (a ∷ []) []) y adds.after (ap (node_at new) (sym same) ∙ at) in
          subst (λ (q : Node Branch). IsSettledUnit new.block q) is (refl, inl refl)
      | inr other ↦
          let adds = made.makes.unit e in
          let x = (spent_like mid (a ∷ [])).from v y (sym (adds.others v other) ∙ at) in
          like x.0 y new.block mid.block (adds.size.block ∙ (spent_like mid (a ∷ [])).counts.block) x.2 (all v x.0 x.1)
    ]

-- ---- so far

-- these sounds are in hand: of some a channel is still to be made, and the others are channels
pub record Opening (code : Code) (old h : HeapState Branch) (left done : List Item) : Type 0 where
  pub comes : Comes (part_is code) old h (left ++ done)
  pub settled : IsSettled h
  pub ready : IsReady code h
  pub fresh : AllFresh h (sounds_in done)

-- a sound as the channel that is made of it
abbrev pub channel_item : Rate → Sound → (Whole → sounds.Sound) → Item
channel_item rate s f = item s (λ w. channel_at rate (f w))

module _ (code : Code) (ordered : IsOrdered code) (rate : Rate) (old : HeapState Branch) (empty : IsEmpty old) where
  none_before : (v j : ℕ) → marks_at old v j ≡ 0
  none_before v j = ap (λ o. option_map_or (λ (x : Node Branch). slice_index x.outside j) o 0) (empty.none v)

  -- the sounds that are channels already are among those that stay in hand
  among : (left done : List Item) (v : ℕ) → marks_of (sounds_in done) v 0 ≤ marks_of (sounds_in (left ++ done)) v 0
  among left done v = omega (arith, ap (λ ss. marks_of ss v 0) (sounds_append left done), marks_append (sounds_in left) (sounds_in done) v 0)

  module _ (mid new : HeapState Branch) (a s : Sound) (f : Whole → sounds.Sound) (left done : List Item) (p : Opening code old mid (item a f ∷ left) done) (turn : ChannelTurn rate a mid new s) where
    brought_comes : Comes (part_is code) old turn.mid (item turn.brought (λ w. resampled rate (f w)) ∷ (left ++ done))
    brought_comes = comes_brought (part_is code) old mid turn.mid rate a turn.brought f (left ++ done) empty.laws p.comes turn.brings

    channel_comes : Comes (part_is code) old new (channel_item rate s f ∷ (left ++ done))
    unfolding mixes.channel
    channel_comes =
        comes_made (part_is code) old turn.mid new Channel (channel_timing turn.brought.timing) (turn.brought ∷ []) [] (turn.brought ∷ []) (item turn.brought (λ w. resampled rate (f w)) ∷ []) (left ++ done) s (λ w. mixes.channel (resampled rate (f w))) empty.laws refl brought_comes turn.made
        (λ w l means extends begin are.
        let now : turn.brought.timing ≡ timing_of (resampled rate (f w)) = sym (timing_begin (part_is code) turn.mid l turn.brought means begin.0) ∙ ap timing_of are.0 in
        let value : (k : ℕ) → heard (input_sound l.samples (reader_of turn.brought)) k ≡ value_at (resampled rate (f w)) k = λ k. heard_is l turn.brought k ∙ ap (λ x. value_at x k) are.0 in
        λ i. sound_of (ap channel_timing now i) (λ k. value k i))

    mid_fresh : AllFresh turn.mid (sounds_in done)
    mid_fresh = all_fresh_brought old mid turn.mid none_before rate a turn.brought (sounds_in (left ++ done)) p.comes.hand brought_comes.hand turn.brings (sounds_in done) (among left done) p.fresh

    done_fresh : AllFresh new (sounds_in done)
    done_fresh = all_fresh_made old turn.mid new none_before Channel (channel_timing turn.brought.timing) turn.brought s (sounds_in (left ++ done)) brought_comes.hand channel_comes.hand turn.made (sounds_in done) (among left done) mid_fresh

    brought_settled : IsSettled turn.mid
    brought_settled v x at = settled_brought (λ v. false) mid turn.mid rate a turn.brought turn.brings (λ v x at apart. p.settled v x at) v x at refl

    pub opening_more : Opening code old new left (done ++ channel_item rate s f ∷ [])
    opening_more = record {
      comes = subst (λ is. Comes (part_is code) old new is) (append_assoc left done (channel_item rate s f ∷ [])) (comes_turned (part_is code) old new (channel_item rate s f ∷ []) (left ++ done) channel_comes);
      settled = made_settled turn.mid new (channel_timing turn.brought.timing) turn.brought s turn.made brought_settled;
      ready = record {
        parts = parts_plain code turn.mid new Channel (channel_timing turn.brought.timing) (turn.brought ∷ []) (turn.brought ∷ []) s turn.made (parts_brought code mid turn.mid rate a turn.brought turn.brings p.ready.parts);
        fits = fit_plain code turn.mid new Channel (channel_timing turn.brought.timing) (turn.brought ∷ []) (turn.brought ∷ []) s turn.made (fit_brought code mid turn.mid rate a turn.brought turn.brings p.ready.fits);
      };
      fresh = subst (AllFresh new) (sym (sounds_append done (channel_item rate s f ∷ [])))
          (fresh_behind new (sounds_in done) s done_fresh (fresh_new turn.mid new Channel (channel_timing turn.brought.timing) turn.brought s turn.made brought_comes.hand.laws brought_comes.hand.begin.0));
    }

  -- ---- all of them

  -- the channels of these, one by one
  abbrev pub channel_items : List Item → List Sound → List Item
  channel_items [] ss = []
  channel_items (i ∷ is) [] = []
  channel_items (i ∷ is) (s ∷ ss) = channel_item rate s i.is ∷ channel_items is ss

  pub opening_all : (mid new : HeapState Branch) (left done : List Item) (ss : List Sound) → Opening code old mid left done → ChannelsTurn rate (sounds_in left) mid new ss → Opening code old new [] (done ++ channel_items left ss)
  opening_all mid new [] done [] p step = subst (λ is. Opening code old new [] is) (sym (append-nil done)) (subst (λ (h : HeapState Branch). Opening code old h [] done) step p)
  opening_all mid new [] done (s ∷ ss) p step = absurd step
  opening_all mid new (i ∷ left) done [] p step = absurd step
  opening_all mid new (i ∷ left) done (s ∷ ss) p step =
      subst (λ is. Opening code old new [] is) (append_assoc done (channel_item rate s i.is ∷ []) (channel_items left ss))
      (opening_all step.0 new left (done ++ channel_item rate s i.is ∷ []) ss (opening_more mid step.0 i.sound s i.is left done p step.1) step.2)

  pub items_sounds : (mid new : HeapState Branch) (left : List Item) (ss : List Sound) → ChannelsTurn rate (sounds_in left) mid new ss → sounds_in (channel_items left ss) ≡ ss
  items_sounds mid new [] [] step = refl
  items_sounds mid new [] (s ∷ ss) step = absurd step
  items_sounds mid new (i ∷ left) [] step = absurd step
  items_sounds mid new (i ∷ left) (s ∷ ss) step = ap (λ rest. s ∷ rest) (items_sounds step.0 new left ss step.2)

  pub items_are : (w : Whole) (mid new : HeapState Branch) (left : List Item) (ss : List Sound) → ChannelsTurn rate (sounds_in left) mid new ss → map (λ (i : Item). i.is w) (channel_items left ss) ≡ map (channel_at rate) (map (λ (i : Item). i.is w) left)
  items_are w mid new [] [] step = refl
  items_are w mid new [] (s ∷ ss) step = absurd step
  items_are w mid new (i ∷ left) [] step = absurd step
  items_are w mid new (i ∷ left) (s ∷ ss) step = ap (λ rest. channel_at rate (i.is w) ∷ rest) (items_are w step.0 new left ss step.2)
