-- The opening of a program: its channels are those of the plan.
use Rattle.std.proofs.Common.{◌≡◌, inl, inr, ℕ, zero, suc, ◌≤◌, List, [], ◌∷◌, ◌++◌, length, slice_index, None, refl, sym, subst, arith}
use Rattle.std.proofs.lemmas.List.{append_assoc, append-nil}
use Rattle.ny_num.specs.declared.rate.Rate.{Rate}
use Rattle.ny_num.specs.declared.timing.Timing.{Timing}
use Rattle.ny_num.specs.Mix.{channel_timing, channel}
use Rattle.ny_warp.specs.Environment.{opening}
use Rattle.ny_check.specs.Code.{Code, IsOrdered}
use Rattle.ny_heap.specs.declared.sound.Sound.{Sound}
use Rattle.ny_heap.specs.Heap.{Channel, HeapState, node_at}
use Rattle.ny_heap.specs.Reach.{HeapLaws}
use Rattle.ny_hands.specs.declared.branch.Branch.{Branch}
use Rattle.ny_hands.specs.Calls.{MakesUnit}
use Rattle.ny_hands.specs.Hands.{Hand}
use Rattle.ny_hands.proofs.OptionLemmas.{none_some}
use Rattle.ny_hands.proofs.HandLemmas.{hand_made, hand_turned, begin_first, begin_last}
use Rattle.ny_hands.proofs.SpendLemmas.{hand_brought}
use Rattle.ny_trace.specs.Laws.{KeepsFree}
use Rattle.ny_trace.specs.Plays.{EvaluatesAny, Plays}
use Rattle.ny_trace.proofs.PlaysLemmas.{any_lawful, plays_lawful}
use Rattle.ny_heap.specs.Kinds.{Channel as ChannelKind}
use Rattle.ny_plan.specs.Rows.{RowSound, Row, After, each, input}
use Rattle.ny_plan.specs.Need.{Filled}
use Rattle.ny_plan.specs.Peak.{nothing_filled}
use Rattle.ny_plan.specs.Units.{first, brought, channel_row}
use Rattle.ny_plan.specs.Plan.{played, plan}
use Rattle.ny_match.specs.Matched.{IsFirst, Seats, IsFree, Matched}
use Rattle.ny_match.specs.Born.{AreSounds, IsMatching}
use Rattle.ny_trace.specs.Channels.{ChannelsTurn}
use Rattle.ny_match.proofs.GrowLemmas.{first_self, first_then, grows_each, grows_brought, grows_channel, played_grows}
use Rattle.ny_match.proofs.SeatLemmas.{sounds_later}
use Rattle.ny_match.proofs.BornLemmas.{Grew, grew_wider, grew_within, free_less, free_later, free_beside}
use Rattle.ny_match.proofs.UnitLemmas.{come_first, made_turn, brought_turn}
use Rattle.ny_match.proofs.MixLemmas.{SameOn, same_on, same_then, same_first, same_last, sound_on}
use Rattle.ny_match.proofs.PlaysLemmas.{plays_matching}

module _ (code : Code) (all : List Row) (filled : Filled) where
  -- Each becomes a channel, the first one first. The plan brings all of them to the rate before it makes the first channel, so two ranges of
  -- rows are free
  channels_turn : (old mid new : HeapState Branch) (rate : Rate) (ss done ts : List Sound) (rs : List RowSound) (seats now : Seats) (low high : ℕ) (rows more : List Row)
      → HeapLaws old → Hand old mid (ss ++ done) → Grew code all filled old mid seats now low high → low ≤ length rows → AreSounds now.row ss rs → ChannelsTurn rate ss mid new ts
      → IsFirst (After.rows (each (brought rate) rs rows)) more → IsFirst (After.rows (each channel_row (After.gives (each (brought rate) rs rows)) more)) all
      → length (After.rows (each channel_row (After.gives (each (brought rate) rs rows)) more)) ≤ high
      → IsFree filled mid now (length rows) (length (After.rows (each (brought rate) rs rows)))
      → IsFree filled mid now (length more) (length (After.rows (each channel_row (After.gives (each (brought rate) rs rows)) more)))
      → (later : Seats) × Grew code all filled old new seats later low high × AreSounds later.row ts (After.gives (each channel_row (After.gives (each (brought rate) rs rows)) more)) × SameOn now.row later.row done
  channels_turn old mid new rate [] done [] [] seats now low high rows more laws h g least are step before ends most fb fc =
      (now, subst (λ (z : HeapState Branch). Grew code all filled old z seats now low high) step g, tt, same_on mid now.row now.row done h.begin (λ v x at. refl))
  channels_turn old mid new rate [] done [] (r ∷ rs) seats now low high rows more laws h g least are step before ends most fb fc = absurd are
  channels_turn old mid new rate [] done (t ∷ ts) rs seats now low high rows more laws h g least are step before ends most fb fc = absurd step
  channels_turn old mid new rate (s ∷ ss) done [] rs seats now low high rows more laws h g least are step before ends most fb fc = absurd step
  channels_turn old mid new rate (s ∷ ss) done (t ∷ ts) [] seats now low high rows more laws h g least are step before ends most fb fc = absurd are
  channels_turn old mid new rate (s ∷ ss) done (t ∷ ts) (r ∷ rs) seats now low high rows more laws h g least are step before ends most fb fc =
      let turn = step.1 in
      let x = brought rate r rows in
      let bs = each (brought rate) rs x.rows in
      let y = channel_row x.gives more in
      let cs = each channel_row bs.gives y.rows in
      let to_x : IsFirst rows x.rows = grows_brought rate r rows in
      let to_bs : IsFirst x.rows bs.rows = grows_each (brought rate) (grows_brought rate) rs x.rows in
      let to_y : IsFirst more y.rows = grows_channel x.gives more in
      let to_cs : IsFirst y.rows cs.rows = grows_each channel_row grows_channel bs.gives y.rows in
      let bs_all : IsFirst bs.rows all = first_then bs.rows more all before (first_then more y.rows all to_y (first_then y.rows cs.rows all to_cs ends)) in
      let q = brought_turn code all filled mid turn.mid rate s turn.brought r now rows h.laws h.begin.0 are.0 turn.brings (record {
        matched = g.matched;
        first = first_then x.rows bs.rows all to_bs bs_all;
        free = free_less code all filled mid now (length rows) (length bs.rows) (length rows) (length x.rows) (omega arith) to_x.short to_bs.short fb;
      }) in
      let c1 = hand_brought old mid turn.mid rate s turn.brought (ss ++ done) laws h turn.brings in
      let g1 = grew_within code all filled old mid turn.mid seats now q.0 low high h.kept g (grew_wider code all filled mid turn.mid now q.0 (length rows) (length x.rows) low high least (omega (arith, to_bs.short, before.short, to_y.short, to_cs.short, most)) q.1) in
      let fb1 = free_later code all filled mid turn.mid now q.0 (length rows) (length x.rows) (length bs.rows) to_x.short to_bs.short q.1 fb in
      let fc1 = free_beside code all filled mid turn.mid now q.0 (length rows) (length x.rows) (length more) (length cs.rows) (inl (omega (arith, to_bs.short, before.short))) q.1 fc in
      let u = made_turn code all filled turn.mid step.0 Channel ChannelKind (channel_timing x.gives.timing) (turn.brought ∷ []) (input x.gives ∷ []) (λ zs. (channel (first zs)).samples) (turn.brought ∷ []) t q.0 more c1.laws (c1.begin.0, tt) refl
      (q.2, come_first turn.mid.block (input x.gives) c1.laws.positive refl, tt) (omega arith)
      (subst (λ (z : Timing). MakesUnit turn.mid step.0 Channel (channel_timing z) (turn.brought ∷ []) [] (turn.brought ∷ []) t) q.2.timing turn.made) (record {
        matched = q.1.matched;
        first = first_then y.rows cs.rows all to_cs ends;
        free = free_less code all filled turn.mid q.0 (length more) (length cs.rows) (length more) (length y.rows) (omega arith) to_y.short to_cs.short fc1;
      }) in
      let c2 = hand_made old turn.mid step.0 Channel (channel_timing turn.brought.timing) (turn.brought ∷ []) [] (turn.brought ∷ []) (ss ++ done) t laws c1 turn.made in
      let c3 : Hand old step.0 (ss ++ (done ++ t ∷ [])) = subst (λ zs. Hand old step.0 zs) (append_assoc ss done (t ∷ [])) (hand_turned old step.0 (t ∷ []) (ss ++ done) c2) in
      let g2 = grew_within code all filled old turn.mid step.0 seats q.0 u.0 low high c1.kept g1 (grew_wider code all filled turn.mid step.0 q.0 u.0 (length more) (length y.rows) low high (omega (arith, least, to_x.short, to_bs.short, before.short)) (omega (arith, to_cs.short, most)) u.1) in
      let fb2 = free_beside code all filled turn.mid step.0 q.0 u.0 (length more) (length y.rows) (length x.rows) (length bs.rows) (inr before.short) u.1 fb1 in
      let fc2 = free_later code all filled turn.mid step.0 q.0 u.0 (length more) (length y.rows) (length cs.rows) to_y.short to_cs.short u.1 fc1 in
      let are1 = sounds_later mid now.row q.0.row ss rs (begin_first mid ss done h.begin.1) q.1.row are.1 in
      let are2 = sounds_later turn.mid q.0.row u.0.row ss rs (begin_first turn.mid ss done c1.begin.1) u.1.row are1 in
      let w = channels_turn old step.0 new rate ss (done ++ t ∷ []) ts rs seats u.0 low high x.rows y.rows laws c3 g2 (omega (arith, least, to_x.short)) are2 step.2 (first_then bs.rows more y.rows before to_y) ends most fb2 fc2 in (
        w.0,
        w.1,
        (sound_on u.0.row w.0.row t y.gives (same_last u.0.row w.0.row done (t ∷ []) w.3) u.2, w.2),
        same_then now.row u.0.row w.0.row done
            (same_then now.row q.0.row u.0.row done (same_on mid now.row q.0.row done (begin_last mid ss done h.begin.1) q.1.row) (same_on turn.mid q.0.row u.0.row done (begin_last turn.mid ss done c1.begin.1) u.1.row))
            (same_first u.0.row w.0.row done (t ∷ []) w.3),
      )

-- ---- from an empty heap

zero_at : (rows : List Row) (k : ℕ) → slice_index (nothing_filled rows) k ≡ 0
zero_at [] k = refl
zero_at (x ∷ rows) zero = refl
zero_at (x ∷ rows) (suc k) = zero_at rows k

no_seats : Seats
no_seats = record { row = λ v. 0; from = λ v. 0; upto = λ v. 0 }

module _ (code : Code) (old : HeapState Branch) (empty : (v : ℕ) → node_at old v ≡ None) (all : List Row) where
  empty_matched : Matched code all (nothing_filled all) old no_seats
  empty_matched = record {
    within = λ u x at. absurd (none_some (node_at old u) x (empty u) at);
    apart = λ u v x y at there same. absurd (none_some (node_at old u) x (empty u) at);
    units = λ u x at. absurd (none_some (node_at old u) x (empty u) at);
    ordered = λ u x at. absurd (none_some (node_at old u) x (empty u) at);
    unborn = λ u v x y at there. absurd (none_some (node_at old u) x (empty u) at);
    disjoint = λ u v x y at there other. absurd (none_some (node_at old u) x (empty u) at);
    unfilled = λ u x at k least less. zero_at all k;
  }

  empty_free : (from upto : ℕ) → IsFree (nothing_filled all) old no_seats from upto
  empty_free from upto = record {
    units = λ v y at. absurd (none_some (node_at old v) y (empty v) at);
    parts = λ v y at. absurd (none_some (node_at old v) y (empty v) at);
    unfilled = λ k least less. zero_at all k;
  }

-- the channels in hand are those of the plan, whose rows are the units of the heap, and nothing is filled
pub opened_matching : (code : Code) → IsOrdered code → KeepsFree code → IsMatching code (EvaluatesAny code) → (n : ℕ) (rate : Rate) (old mid new : HeapState Branch) (ps ss : List Sound) → HeapLaws old → ((v : ℕ) → node_at old v ≡ None)
    → Plays code n code.play.0 (opening rate) [] old mid ps → ChannelsTurn rate ps mid new ss
    → (seats : Seats) × Matched code (plan code rate).rows (nothing_filled (plan code rate).rows) new seats × AreSounds seats.row ss (plan code rate).channels
unfolding plan
opened_matching code ordered free match n rate old mid new ps ss laws empty plays channels =
    let x = played code code.play.0 (opening rate) [] [] in
    let bs = each (brought rate) x.gives x.rows in
    let cs = each channel_row bs.gives bs.rows in
    let all : List Row = cs.rows in
    let to_x : IsFirst [] x.rows = played_grows code code.play.0 (opening rate) [] [] in
    let to_bs : IsFirst x.rows bs.rows = grows_each (brought rate) (grows_brought rate) x.gives x.rows in
    let to_cs : IsFirst bs.rows cs.rows = grows_each channel_row grows_channel bs.gives bs.rows in
    let filled : Filled = nothing_filled all in
    let t = plays_matching code ordered (any_lawful code ordered free) match n code.play.0 (opening rate) [] old mid ps plays ordered.play laws tt all filled no_seats [] [] tt (record {
      matched = empty_matched code old empty all;
      first = first_then x.rows bs.rows all to_bs to_cs;
      free = empty_free code old empty all 0 (length x.rows);
    }) in
    let got = plays_lawful code ordered free n code.play.0 (opening rate) [] old mid ps plays ordered.play laws tt in
    let h : Hand old mid ps = subst (λ zs. Hand old mid zs) got.in_hand got.comes.hand in
    let fb = free_later code all filled old mid no_seats t.0 0 (length x.rows) (length all) (omega arith) (omega (arith, to_bs.short, to_cs.short)) t.1 (empty_free code old empty all 0 (length all)) in
    let w = channels_turn code all filled old mid new rate ps [] ss x.gives no_seats t.0 0 (length all) x.rows bs.rows laws (subst (λ zs. Hand old mid zs) (sym (append-nil ps)) h)
    (grew_wider code all filled old mid no_seats t.0 0 (length x.rows) 0 (length all) (omega arith) (omega (arith, to_bs.short, to_cs.short)) t.1) (omega arith) t.2 channels (first_self bs.rows) (first_self all) (omega arith)
    (free_less code all filled mid t.0 (length x.rows) (length all) (length x.rows) (length bs.rows) (omega arith) to_bs.short to_cs.short fb)
    (free_less code all filled mid t.0 (length x.rows) (length all) (length bs.rows) (length all) to_bs.short to_cs.short (omega arith) fb) in
    (w.0, w.1.matched, w.2)
