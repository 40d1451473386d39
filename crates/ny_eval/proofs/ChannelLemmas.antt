-- Sounds in hand that become channels, one after another.
use Rattle.std.proofs.Common.{◌≡◌, ◌+◌, ◌≤◌, List, [], ◌∷◌, ◌++◌, map, refl, sym, ap, subst, ◌∙◌, arith}
use Rattle.std.proofs.lemmas.List.{append_assoc, append-nil}
use Rattle.ny_num.specs.declared.timing.Timing.{Timing}
use Rattle.ny_num.specs.declared.rate.Rate.{Rate}
use Rattle.ny_num.specs.Mix.{channel_timing}
use Rattle.ny_num.specs.Sound.{IsTiming, spanning}
use Rattle.ny_heap.specs.Heap.{Channel, HeapState}
use Rattle.ny_heap.specs.Reach.{HeapLaws}
use Rattle.ny_heap.specs.Steps.{AreHeld, IsMixOf, Makes, MakesMeaning, sounds_of}
use Rattle.ny_heap.specs.declared.sound.Sound.{Sound}
use Rattle.ny_hands.specs.Calls.{MakesUnit}
use Rattle.ny_hands.specs.Hands.{Hand, InHand, GivesUp}
use Rattle.ny_hands.proofs.HandLemmas.{hand_made}
use Rattle.ny_hands.proofs.SpendLemmas.{hand_brought}
use Rattle.ny_trace.specs.Channels.{ChannelTurn, ChannelsTurn}
use Rattle.ny_eval.specs.Mixing.{ComeFor}
use Rattle.ny_eval.proofs.AnswerLemmas.{all_one}
use Rattle.ny_eval.proofs.MixingLemmas.{hand_behind}

-- ---- the unit

channel_rate : (t : Timing) → (channel_timing t).rate ≡ t.rate
unfolding channel_timing spanning
channel_rate t = refl

channel_start : (t : Timing) → (channel_timing t).start ≡ 0
unfolding channel_timing spanning
channel_start t = refl

channel_len : (t : Timing) → (channel_timing t).len ≡ t.start + t.len
unfolding channel_timing spanning
channel_len t = omega arith

pub channel_made : (a : Sound) (t : Timing) (xs : List Sound) → t ≡ channel_timing a.timing → xs ≡ a ∷ [] → IsTiming t → IsMixOf xs t
channel_made a t xs when list bounds =
    let rate : a.timing.rate ≡ t.rate = sym (ap (λ (u : Timing). u.rate) when ∙ channel_rate a.timing) in
    let start : t.start ≡ 0 = ap (λ (u : Timing). u.start) when ∙ channel_start a.timing in
    let len : t.len ≡ a.timing.start + a.timing.len = ap (λ (u : Timing). u.len) when ∙ channel_len a.timing in
    subst (λ ys. IsMixOf ys t) (sym list) (record {
      some = omega arith;
      bounds = bounds;
      rates = all_one (λ p. p.timing.rate ≡ t.rate) a rate;
      begins = all_one (λ p. t.start ≤ p.timing.start) a (omega (arith, start));
      ends = all_one (λ p. p.timing.start + p.timing.len ≤ t.start + t.len) a (omega (arith, start, len));
    })

-- it is made of one sound, and none waits
pub held_alone : {A B : Type 0} (h : HeapState B) (a : Sound) (xs : List Sound) (f : A → B × List Sound) (ws : List A) → xs ≡ a ∷ [] → ws ≡ [] → AreHeld h (a ∷ []) → AreHeld h (xs ++ sounds_of (map f ws))
held_alone h a xs f ws list none held = subst (λ ys. AreHeld h (ys ++ sounds_of (map f ws))) (sym list) (subst (λ us. AreHeld h (a ∷ sounds_of (map f us))) (sym none) held)

pub channel_unit : {B : Type 0} (old new : HeapState B) (t : Timing) (a : Sound) (xs : List Sound) (s : Sound) → t ≡ channel_timing a.timing → xs ≡ a ∷ [] → HeapLaws new → IsTiming t → Makes old new Channel t xs [] (xs ++ []) s → MakesMeaning old new Channel t xs [] s → MakesUnit old new Channel (channel_timing a.timing) (a ∷ []) [] (a ∷ []) s
channel_unit old new t a xs s when list laws bounds makes meaning =
    subst (λ u. MakesUnit old new Channel u (a ∷ []) [] (a ∷ []) s) when
    (subst (λ ys. MakesUnit old new Channel t ys [] (ys ++ []) s) list (record { laws = laws; bounds = bounds; makes = makes; meaning = meaning }))

-- ---- several

pub channel_hand : {B : Type 0} (before old new : HeapState B) (r : Rate) (a s : Sound) (others : List Sound) → HeapLaws before → Hand before old (a ∷ others) → ChannelTurn r a old new s → Hand before new (s ∷ others)
channel_hand before old new r a s others laws hand turn =
    hand_made before turn.mid new Channel (channel_timing turn.brought.timing) (turn.brought ∷ []) [] (turn.brought ∷ []) others s laws
    (hand_brought before old turn.mid r a turn.brought others laws hand turn.brings) turn.made

-- of these sounds some are left, and those before them are channels
pub record ChannelsSoFar {B : Type 0} (old new : HeapState B) (r : Rate) (parts left done : List Sound) : Type 0 where
  pub come : ComeFor old new parts (left ++ done)
  pub further : (next : HeapState B) (ts : List Sound) → ChannelsTurn r left new next ts → ChannelsTurn r parts old next (done ++ ts)

pub channels_none : {B : Type 0} (h : HeapState B) (r : Rate) (parts done : List Sound) → done ≡ [] → ChannelsSoFar h h r parts parts done
channels_none h r parts done none = record {
  come = λ before others laws hand. subst (λ xs. Hand before h (xs ++ others)) (sym (append-nil parts) ∙ ap (λ xs. parts ++ xs) (sym none)) hand;
  further = λ next ts step. subst (λ xs. ChannelsTurn r parts h next (xs ++ ts)) (sym none) step;
}

module _ {B : Type 0} (old mid : HeapState B) (r : Rate) (parts left done rest : List Sound) (a : Sound) (p : ChannelsSoFar old mid r parts left done) (list : left ≡ a ∷ rest) where
  next_hand : (before : HeapState B) (others : List Sound) → HeapLaws before → Hand before old (parts ++ others) → Hand before mid (a ∷ ((rest ++ done) ++ others))
  next_hand before others laws hand = subst (λ xs. Hand before mid ((xs ++ done) ++ others)) list (p.come before others laws hand)

  pub channel_in_hand : InHand old parts → InHand mid (a ∷ [])
  channel_in_hand is = record { before = is.before; others = (rest ++ done) ++ is.others; laws = is.laws; hand = next_hand is.before is.others is.laws is.hand }

  pub channel_refused : (new : HeapState B) → GivesUp mid new (a ∷ []) → ComeFor old new parts (rest ++ done)
  channel_refused new gives before others laws hand = gives before ((rest ++ done) ++ others) laws (next_hand before others laws hand)

  pub channels_more : (new : HeapState B) (s : Sound) (more : List Sound) → ChannelTurn r a mid new s → more ≡ done ++ s ∷ [] → ChannelsSoFar old new r parts rest more
  channels_more new s more turn list_more = subst (λ ds. ChannelsSoFar old new r parts rest ds) (sym list_more) (record {
    come = λ before others laws hand.
        subst (λ xs. Hand before new (xs ++ others)) (append_assoc rest done (s ∷ []))
        (hand_behind before new s (rest ++ done) others (channel_hand before mid new r a s ((rest ++ done) ++ others) laws (next_hand before others laws hand) turn));
    further = λ next ts later.
        subst (λ xs. ChannelsTurn r parts old next xs) (sym (append_assoc done (s ∷ []) ts))
        (p.further next (s ∷ ts) (subst (λ xs. ChannelsTurn r xs mid next (s ∷ ts)) (sym list) (new, turn, later)));
  })

pub channels_all : {B : Type 0} (old new : HeapState B) (r : Rate) (parts left done : List Sound) → ChannelsSoFar old new r parts left done → left ≡ [] → ChannelsTurn r parts old new done
channels_all old new r parts left done p none = subst (λ xs. ChannelsTurn r parts old new xs) (append-nil done) (p.further new [] (subst (λ xs. ChannelsTurn r xs new new []) (sym none) refl))
