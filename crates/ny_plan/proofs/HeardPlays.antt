-- The whole sounds of a plan's channels are the program's channels.
use Rattle.std.proofs.Common.{◌≡◌, ℕ, Bool, true, false, cond, List, [], ◌∷◌, map, zip, length, refl, ap, subst, ◌∙◌}
use Rattle.std.specs.List.{AllByRecursion}
use Rattle.ny_num.specs.declared.rate.Rate.{Rate}
use Rattle.ny_num.specs.Sound as sounds
use Rattle.ny_num.specs.Resampling.{resampled}
use Rattle.ny_warp.specs.declared.env.Env.{Env}
use Rattle.ny_check.specs.Meaning.{Bound, meaning}
use Rattle.ny_check.specs.declared.node.ExprId.{ExprId}
use Rattle.ny_check.specs.Code.{Code, node_at, function_at}
use Rattle.ny_check.specs.Values.{scalars_of, test_of}
use Rattle.ny_plan.specs.Plan.{Names, names_after, operand, played_at, played, plan, made}
use Rattle.ny_check.specs.Channels.{operand as meant_operand, plays_node, played as meant_played, channel_at, channels}
use Rattle.ny_num.specs.Mix.{channel, channel_timing}
use Rattle.ny_num.proofs.SoundTimings.{timing_of-channel}
use Rattle.ny_heap.specs.Kinds.{Channel}
use Rattle.ny_plan.specs.Units.{channel_row, first, brought}
use Rattle.ny_plan.proofs.BothRecursions.{by_smaller-both}
use Rattle.ny_plan.proofs.OrderLemmas.{no_rows, leaves_given, input_of, AreBelow}
use Rattle.ny_warp.specs.Environment.{opening}
use Rattle.ny_check.specs.declared.node.Node.{Node}
use Rattle.ny_check.specs.declared.node.Node.TheVariants as node
use Rattle.ny_plan.specs.Rows.{RowSound, Row, After, Step, beginning, whole_at, given, and_then, each, input}
use Rattle.ny_plan.specs.Order.{IsBelow, IsValueBelow, AreNamesBelow, AllRows, Leaves}
use Rattle.ny_plan.proofs.HeardLemmas.{heard, IsShown, Hears, join, hears_unit, hears_brought, Plays, plays_cons, plays_each, wholes, AreShown, names-kept, same_scalars}
use Rattle.ny_plan.proofs.HeardNodes.{hears_names, hears_values, zip_shown, all_heard}

module _ (r : Rate) where
  -- ---- what is played

  abbrev SamePlays : (Env → Names → Step (List RowSound)) → (Env → Bound → List sounds.Sound) → Type 0
  SamePlays f g = (env : Env) (names : Names) (rows : List Row) → AllRows rows → AreShown r rows names → Plays r rows (f env names rows) (g env (wholes r rows names))

  plays_operands : (code : Code) (env : Env) (names : Names) (es : List ExprId) (rows : List Row) → AllRows rows → AreShown r rows names → Plays r rows (each (operand code env names) es rows) (map (meant_operand code env (wholes r rows names)) es)
  plays_operands code env names [] rows all h = record { leaves = leaves_given AreBelow rows [] all tt; is = refl; shows = tt }
  plays_operands code env names (e ∷ es) rows all h =
      let a = made code e.0 env names rows in
      let ha = all_heard r code e.0 env names rows all h in
      let now = names-kept r IsBelow rows a names all ha.leaves h in
      plays_cons r rows a (meaning code e.0 env (wholes r rows names)) (each (operand code env names) es a.rows) (map (meant_operand code env (wholes r rows names)) es) ha
      (subst (λ w. Plays r a.rows (each (operand code env names) es a.rows) (map (meant_operand code env w) es)) now.1 (plays_operands code env names es a.rows ha.leaves.all now.0))

  plays_then : {A : Type 0} (P : ℕ → A → Type 0) (rows : List Row) (a : After A) (c : After (List RowSound)) (ms : List sounds.Sound) → Leaves P rows a → Plays r a.rows c ms → Plays r rows c ms
  plays_then P rows a c ms l h = record { leaves = join r P AreBelow rows a c l h.leaves; is = h.is; shows = h.shows }

  plays_as : (rows : List Row) (a : After (List RowSound)) (ms ns : List sounds.Sound) → ms ≡ ns → Plays r rows a ms → Plays r rows a ns
  plays_as rows a ms ns e h = subst (Plays r rows a) e h

  plays_if : (b : Bool) (s t : Step (List RowSound)) (m n : List sounds.Sound) (rows : List Row) → Plays r rows (s rows) m → Plays r rows (t rows) n → Plays r rows (cond b s t rows) (cond b m n)
  plays_if true s t m n rows h k = h
  plays_if false s t m n rows h k = k

  plays_one : (code : Code) (e : ℕ) (env : Env) (names : Names) (rows : List Row) → AllRows rows → AreShown r rows names → Plays r rows (and_then (made code e env names) (λ s. given (s ∷ [])) rows) (meaning code e env (wholes r rows names) ∷ [])
  plays_one code e env names rows all h =
      let a = made code e env names rows in
      let ha = all_heard r code e env names rows all h in
      plays_cons r rows a (meaning code e env (wholes r rows names)) (given [] a.rows) [] ha (record { leaves = leaves_given AreBelow a.rows [] ha.leaves.all tt; is = refl; shows = tt })

  module _ (code : Code) (rec : ℕ → Env → Names → Step (List RowSound)) (plays : ℕ → Env → Bound → List sounds.Sound) (same : (e : ℕ) → SamePlays (rec e) (plays e)) where
    plays_at : (e : ℕ) (at : Node) → SamePlays (played_at code e at rec) (plays_node code e at plays)
    plays_at e (node.Vector es) env names rows all h = plays_operands code env names es rows all h
    plays_at e (node.Call f es) env names rows all h =
        let vs = each (Rattle.ny_plan.specs.Plan.value_of code (made code) env names) es rows in
        let hv = hears_values r code (made code) (meaning code) (all_heard r code) env names es rows all h in
        let zipped = zip_shown r code (made code) (meaning code) (all_heard r code) vs.rows (function_at code f.0).params vs.gives hv.shows in
        plays_then (λ n vs. AllByRecursion (IsValueBelow n) vs) rows vs (rec (function_at code f.0).body.0 env (zip (function_at code f.0).params vs.gives) vs.rows) _ hv.leaves
        (plays_as vs.rows (rec (function_at code f.0).body.0 env (zip (function_at code f.0).params vs.gives) vs.rows) _ _ (ap (plays (function_at code f.0).body.0 env) (zipped.1 ∙ ap (zip (function_at code f.0).params) hv.is))
        (same (function_at code f.0).body.0 env (zip (function_at code f.0).params vs.gives) vs.rows hv.leaves.all zipped.0))
    plays_at e (node.Block bs value) env names rows all h =
        let inner = names_after code (made code) env bs names rows in
        let hn = hears_names r code (made code) (meaning code) (all_heard r code) env bs names rows all h in
        plays_then AreNamesBelow rows inner (rec value.0 env inner.gives inner.rows) _ hn.leaves
        (plays_as inner.rows (rec value.0 env inner.gives inner.rows) _ _ (ap (plays value.0 env) hn.is) (same value.0 env inner.gives inner.rows hn.leaves.all hn.shows))
    plays_at e (node.If c a b) env names rows all h =
        subst (λ w. Plays r rows (cond (test_of code c (scalars_of names)) (rec a.0 env names) (rec b.0 env names) rows) (cond (test_of code c w) (plays a.0 env (wholes r rows names)) (plays b.0 env (wholes r rows names)))) (same_scalars r rows names)
        (plays_if (test_of code c (scalars_of names)) (rec a.0 env names) (rec b.0 env names) _ _ rows (same a.0 env names rows all h) (same b.0 env names rows all h))
    plays_at e _ env names rows all h = plays_one code e env names rows all h

  all_plays : (code : Code) (e : ℕ) → SamePlays (played code e) (meant_played code e)
  unfolding played meant_played
  all_plays code e = by_smaller-both SamePlays (λ env names. given []) (λ env bound. []) (λ e rec. played_at code e (node_at code e) rec) (λ e rec. plays_node code e (node_at code e) rec)
      (λ env names rows all h. record { leaves = leaves_given AreBelow rows [] all tt; is = refl; shows = tt })
      (λ n f g h. plays_at code f g h n (node_at code n)) e

  hears_channel : (s : RowSound) (rows : List Row) → AllRows rows → IsShown r rows s → Hears r rows (channel_row s rows) (channel (heard r rows s))
  hears_channel s rows all h = hears_unit r Channel (channel_timing s.timing) (input s ∷ []) (λ ss. (channel (first ss)).samples) rows (channel (heard r rows s)) all (input_of (length rows) _ s h.0, tt) refl (timing_of-channel (heard r rows s) ∙ ap channel_timing h.1)

  -- the channels that are played, at the rate of a command
  channels_are : (code : Code) (rate : Rate) → map (heard r (plan code rate).rows) (plan code rate).channels ≡ channels code rate
  unfolding plan channels
  channels_are code rate =
      let a = played code code.play.0 (opening rate) [] [] in
      let ha = all_plays code code.play.0 (opening rate) [] [] no_rows tt in
      let hb = plays_each r (brought rate) (resampled rate) (λ s now all h. hears_brought r rate s now all h) a.gives a.rows ha.leaves.all ha.shows in
      let b = each (brought rate) a.gives a.rows in
      let hc = plays_each r channel_row channel (λ s now all h. hears_channel s now all h) b.gives b.rows hb.leaves.all hb.shows in
      hc.is ∙ ap (map channel) (hb.is ∙ ap (map (resampled rate)) ha.is) ∙ as_channels rate (meant_played code code.play.0 (opening rate) [])
    where
      as_channels : (rate : Rate) (ms : List sounds.Sound) → map channel (map (resampled rate) ms) ≡ map (channel_at rate) ms
      as_channels rate [] = refl
      as_channels rate (m ∷ ms) = λ i. channel (resampled rate m) ∷ as_channels rate ms i

-- the whole sounds of a plan's channels are the program's
pub plan_is : (code : Code) (rate : Rate) → map (beginning (whole_at rate (plan code rate).rows)) (plan code rate).channels ≡ channels code rate
plan_is code rate = channels_are rate code rate
