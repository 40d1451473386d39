-- The channels of what a program plays, where there was no unit before.
use Rattle.std.proofs.Common.{◌≡◌, ◌+◌, false, List, [], map, refl, sym, ap, subst, ◌∙◌}
use Rattle.std.proofs.lemmas.List.{append-nil}
use Rattle.ny_num.specs.declared.rate.Rate.{Rate}
use Rattle.ny_warp.specs.declared.env.Env.{Env}
use Rattle.ny_warp.specs.Environment.{opening}
use Rattle.ny_check.specs.declared.node.ExprId.{ExprId}
use Rattle.ny_check.specs.Code.{Code, IsOrdered}
use Rattle.ny_check.specs.Channels.{channel_at, channels}
use Rattle.ny_heap.specs.Heap.{HeapState, node_at}
use Rattle.ny_heap.specs.Means.{Whole}
use Rattle.ny_heap.specs.declared.sound.Sound.{Sound}
use Rattle.ny_hands.specs.declared.branch.Branch.{Branch}
use Rattle.ny_hands.specs.Counts.{SameCounts}
use Rattle.ny_hands.specs.Frames.{Names, part_is}
use Rattle.ny_hands.specs.Hands.{Item, sounds_in, Comes}
use Rattle.ny_hands.proofs.OptionLemmas.{none_some}
use Rattle.ny_trace.specs.Laws.{KeepsFree}
use Rattle.ny_trace.specs.Plays.{Plays, PlaysItems}
use Rattle.ny_trace.proofs.PlaysLemmas.{plays_lawful}
use Rattle.ny_trace.proofs.PlaysSettlingLemmas.{plays_settling}
use Rattle.ny_walk.proofs.PlaysLemmas.{plays_parts, plays_fit}
use Rattle.ny_trace.specs.Channels.{ChannelsTurn}
use Rattle.ny_eval.specs.Opened.{IsEmpty, AreOpened}
use Rattle.ny_eval.specs.Traced.{EvaluatesChannels}
use Rattle.ny_eval.proofs.OpenedLemmas.{are_opened}
use Rattle.ny_eval.proofs.OpeningLemmas.{Opening, channel_items, opening_all, items_sounds, items_are}

module _ (code : Code) (ordered : IsOrdered code) (free : KeepsFree code) (rate : Rate) (old mid new : HeapState Branch) (ps ss : List Sound) (empty : IsEmpty old) (plays : Plays code (code.play.0 + 1) code.play.0 (opening rate) [] old mid ps) (turn : ChannelsTurn rate ps mid new ss) where
  got : PlaysItems code code.play.0 (opening rate) [] old mid ps
  got = plays_lawful code ordered free (code.play.0 + 1) code.play.0 (opening rate) [] old mid ps plays ordered.play empty.laws tt

  played_opening : Opening code old mid got.items []
  played_opening = record {
    comes = subst (λ is. Comes (part_is code) old mid is) (sym (append-nil got.items)) got.comes;
    settled = λ v x at. plays_settling code (code.play.0 + 1) code.play.0 (opening rate) [] old mid ps plays (λ v. false) (λ v x at apart. absurd (none_some (node_at old v) x (empty.none v) at)) v x at refl;
    ready = record {
      parts = plays_parts code ordered (code.play.0 + 1) code.play.0 (opening rate) [] old mid ps plays ordered.play (λ v x at. absurd (none_some (node_at old v) x (empty.none v) at));
      fits = plays_fit code ordered free (code.play.0 + 1) code.play.0 (opening rate) [] old mid ps plays ordered.play (λ v x at. absurd (none_some (node_at old v) x (empty.none v) at));
    };
    fresh = tt;
  }

  each_turn : ChannelsTurn rate (sounds_in got.items) mid new ss
  each_turn = subst (λ xs. ChannelsTurn rate xs mid new ss) (sym got.in_hand) turn

  abbrev items : List Item
  items = channel_items code ordered rate old empty got.items ss

  opening_end : Opening code old new [] items
  opening_end = opening_all code ordered rate old empty mid new got.items [] ss played_opening each_turn

  items_mean : (w : Whole) → map (λ (i : Item). i.is w) items ≡ channels code rate
  unfolding channels
  items_mean w = items_are code ordered rate old empty w mid new got.items ss each_turn ∙ ap (map (channel_at rate)) (got.are w)

  all_opened : AreOpened code rate new ss
  all_opened = are_opened code rate old new items ss empty opening_end.comes opening_end.settled opening_end.ready opening_end.fresh items_mean (items_sounds code ordered rate old empty mid new got.items ss each_turn)

  same_counts : SameCounts old new
  same_counts = opening_end.comes.hand.counts

-- as the code has it
module _ (code : Code) (ordered : IsOrdered code) (free : KeepsFree code) (rate : Rate) (env : Env) (e : ExprId) (names : Names) (old mid new : HeapState Branch) (ps ss : List Sound) (empty : IsEmpty old) (at_env : env ≡ opening rate) (at_play : e ≡ code.play) (none : names ≡ []) (plays : Plays code (e.0 + 1) e.0 env names old mid ps) (turn : ChannelsTurn rate ps mid new ss) where
  now : Plays code (code.play.0 + 1) code.play.0 (opening rate) [] old mid ps
  now = subst (λ (x : ExprId). Plays code (x.0 + 1) x.0 (opening rate) [] old mid ps) at_play (subst (λ (q : Env). Plays code (e.0 + 1) e.0 q [] old mid ps) at_env (subst (λ (ns : Names). Plays code (e.0 + 1) e.0 env ns old mid ps) none plays))

  pub channels_opened : AreOpened code rate new ss
  channels_opened = all_opened code ordered free rate old mid new ps ss empty now turn

  pub channels_counts : SameCounts old new
  channels_counts = same_counts code ordered free rate old mid new ps ss empty now turn

  pub channels_traced : EvaluatesChannels code rate old new ss
  channels_traced = record { deep = code.play.0 + 1; mid = mid; played = ps; plays = now; channels = turn }
