-- The channels are the last rows of a plan, and they alone are channels.
use Rattle.std.proofs.Common.{◌≡◌, ◌⊎◌, inl, inr, ℕ, zero, suc, ◌+◌, ◌<◌, ◌≤◌, Bool, true, false, cond, nat_eq, List, [], ◌∷◌, ◌++◌, length, Option, None, Some, slice_get, refl, sym, ap, ◌∙◌, arith}
use Rattle.std.proofs.lemmas.Bool.{cases_lt, cases_eq, true≢false}
use Rattle.std.proofs.lemmas.Bool.Decides.{eqb_tells}
use Rattle.std.proofs.lemmas.List.{get_or_append_left, get_or_past}
use Rattle.std.proofs.Math.Seq.{get_or-append_seam}
use Rattle.std.proofs.Math.ListN.{length-append}
use Rattle.ny_list.proofs.IndexLemmas.{same_some, none_some}
use Rattle.ny_num.specs.declared.rate.Rate.{Rate}
use Rattle.ny_num.specs.declared.timing.Timing.{Timing}
use Rattle.ny_num.specs.Sound as sounds
use Rattle.ny_num.specs.Mix.{channel_timing, channel}
use Rattle.ny_warp.specs.Environment.{opening}
use Rattle.ny_check.specs.Code.{Code}
use Rattle.ny_heap.specs.Kinds.{Channel}
use Rattle.ny_plan.specs.Rows.{RowSound, Input, Row, Plan, After, row_at, no_row, each, input}
use Rattle.ny_plan.specs.Units.{first, brought, channel_row}
use Rattle.ny_plan.specs.Plan.{played, plan}
use Rattle.ny_plan.specs.Liveness.{is_channel}
use Rattle.ny_plan.specs.Order.{IsBelow}
use Rattle.ny_plan.proofs.NeedLemmas.{item_of}
use Rattle.ny_plan.proofs.ChannelLemmas.{AreFrom, AreLast, plan-channels}
use Rattle.ny_match.specs.Channels.{IsChannelRow, HasChannels}
use Rattle.ny_match.proofs.QuietLemmas.{NoChannels, quiet_none, quiet_brought, quiet_each, quiet_all, all_played_quiet}

-- ---- channels that are added

-- these sounds are channels that were added behind these rows, and no other row was
record Added (rows : List Row) (gives : List RowSound) (later : List Row) : Type 0 where
  longer : length rows ≤ length later
  kept : (k : ℕ) → k < length rows → row_at later k ≡ row_at rows k
  are : (k y : ℕ) (s : RowSound) → slice_get gives k ≡ Some s → s.row ≡ Some y → IsChannelRow later y s
  all : (c : ℕ) → length rows ≤ c → c < length later → (k : ℕ) × (s : RowSound) × (slice_get gives k ≡ Some s) × (s.row ≡ Some c)

abbrev row_of : RowSound → Row
row_of s = record { kind = Channel; timing = channel_timing s.timing; inputs = input s ∷ []; samples = λ ss. sounds.Sound.samples (channel (first ss)) }

-- a sound without a sample is no row
added_none : (rows : List Row) (t : Timing) (gives : List RowSound) (later : List Row) → Added rows gives later → Added rows (record { row = None; timing = t } ∷ gives) later
added_none rows t gives later a = record { longer = a.longer; kept = a.kept; are = are; all = λ c from upto. let s = a.all c from upto in (suc s.0, s.1, s.2, s.3) }
  where
    are : (k y : ℕ) (s : RowSound) → slice_get (record { row = None; timing = t } ∷ gives) k ≡ Some s → s.row ≡ Some y → IsChannelRow later y s
    are zero y s there is = absurd (none_some (ap (λ (q : RowSound). q.row) (same_some there) ∙ is))
    are (suc k) y s there is = a.are k y s there is

-- any other is one
added_one : (rows : List Row) (x : Row) (gives : List RowSound) (later : List Row) → is_channel x.kind ≡ true → 0 < x.timing.len → Added (rows ++ x ∷ []) gives later → Added rows (record { row = Some (length rows); timing = x.timing } ∷ gives) later
added_one rows x gives later kind some a = record {
  longer = omega (arith, size, a.longer);
  kept = λ k before. a.kept k (omega (arith, before, size)) ∙ get_or_append_left rows (x ∷ []) no_row k before;
  are = are;
  all = all;
}
  where
    size : length (rows ++ x ∷ []) ≡ length rows + 1
    size = length-append rows (x ∷ [])

    here : row_at later (length rows) ≡ x
    here = a.kept (length rows) (omega (arith, size)) ∙ get_or-append_seam rows x [] no_row

    is_it : (y : ℕ) (s : RowSound) → record { row = Some (length rows); timing = x.timing } ≡ s → s.row ≡ Some y → IsChannelRow later y s
    is_it y s same is =
        let place : length rows ≡ y = same_some (ap (λ (q : RowSound). q.row) same ∙ is) in
        let at : row_at later y ≡ x = ap (row_at later) (sym place) ∙ here in
        record {
          inside = omega (arith, place, size, a.longer);
          kind = ap (λ (w : Row). is_channel w.kind) at ∙ kind;
          timing = ap (λ (w : Row). w.timing) at ∙ ap (λ (q : RowSound). q.timing) same;
          some = omega (arith, some, ap (λ (q : RowSound). q.timing.len) same);
        }

    are : (k y : ℕ) (s : RowSound) → slice_get (record { row = Some (length rows); timing = x.timing } ∷ gives) k ≡ Some s → s.row ≡ Some y → IsChannelRow later y s
    are zero y s there is = is_it y s (same_some there) is
    are (suc k) y s there is = a.are k y s there is

    all : (c : ℕ) → length rows ≤ c → c < length later → (k : ℕ) × (s : RowSound) × (slice_get (record { row = Some (length rows); timing = x.timing } ∷ gives) k ≡ Some s) × (s.row ≡ Some c)
    all c from upto = elim (cases_eq c (length rows)) [
      | inl same ↦ (0, record { row = Some (length rows); timing = x.timing }, refl, ap Some (sym same))
      | inr other ↦ let s = a.all c (omega (arith, from, other, size)) upto in (suc s.0, s.1, s.2, s.3)
    ]

each_added : (ss : List RowSound) (rows : List Row) → Added rows (After.gives (each channel_row ss rows)) (After.rows (each channel_row ss rows))
each_added [] rows = record { longer = omega arith; kept = λ k before. refl; are = λ k y s there is. absurd (none_some there); all = λ c from upto. absurd (omega (arith, from, upto)) }
each_added (s ∷ ss) rows = by_test (nat_eq (Timing.len (channel_timing s.timing)) 0) (eqb_tells (Timing.len (channel_timing s.timing)) 0) (each_added ss rows) (each_added ss (rows ++ row_of s ∷ []))
  where
    by_test : (b : Bool) → ((b ≡ true) × (Timing.len (channel_timing s.timing) ≡ 0)) ⊎ ((b ≡ false) × (Timing.len (channel_timing s.timing) ≡ 0 → ⊥))
        → Added rows (After.gives (each channel_row ss rows)) (After.rows (each channel_row ss rows))
        → Added (rows ++ row_of s ∷ []) (After.gives (each channel_row ss (rows ++ row_of s ∷ []))) (After.rows (each channel_row ss (rows ++ row_of s ∷ [])))
        → Added rows (record { row = cond b None (Some (length rows)); timing = channel_timing s.timing } ∷ After.gives (each channel_row ss (cond b rows (rows ++ row_of s ∷ [])))) (After.rows (each channel_row ss (cond b rows (rows ++ row_of s ∷ []))))
    by_test true e none one = added_none rows (channel_timing s.timing) (After.gives (each channel_row ss rows)) (After.rows (each channel_row ss rows)) none
    by_test false (inl e) none one = absurd (true≢false (sym e.0))
    by_test false (inr e) none one =
        added_one rows (row_of s) (After.gives (each channel_row ss (rows ++ row_of s ∷ []))) (After.rows (each channel_row ss (rows ++ row_of s ∷ []))) refl (above (Timing.len (channel_timing s.timing)) e.1) one
      where
        above : (n : ℕ) → (n ≡ 0 → ⊥) → 0 < n
        above zero h = absurd (h refl)
        above (suc n) h = omega arith

-- ---- the whole plan

-- only channels that are played are added behind rows without one
has_added : (rows : List Row) (gives : List RowSound) (later : List Row) → NoChannels rows → Added rows gives later → (c : ℕ) → is_channel (row_at later c).kind ≡ true → (k : ℕ) × (s : RowSound) × (slice_get gives k ≡ Some s) × (s.row ≡ Some c)
has_added rows gives later quiet a c is = elim (cases_lt c (length rows)) [
  | inl before ↦ absurd (true≢false (sym is ∙ ap (λ (w : Row). is_channel w.kind) (a.kept c before) ∙ quiet c))
  | inr from ↦ elim (cases_lt c (length later)) [
    | inl inside ↦ a.all c from inside
    | inr past ↦ absurd (true≢false (sym is ∙ ap (λ (w : Row). is_channel w.kind) (get_or_past later c no_row past)))
  ]
]

-- what is from n on where the first stands and the others follow
from_next : (n y : ℕ) (o : Option ℕ) (t : Timing) (cs : List RowSound) → ((m : ℕ) → AreFrom m cs → m ≤ y) → AreFrom n (record { row = o; timing = t } ∷ cs) → n ≤ y
from_next n y None t cs later h = later n h.1
from_next n y (Some z) t cs later h = omega (arith, h.0 z refl, later (suc z) h.1)

from_first : (n : ℕ) (cs : List RowSound) (k y : ℕ) (s : RowSound) → AreFrom n cs → slice_get cs k ≡ Some s → s.row ≡ Some y → n ≤ y
from_first n [] k y s h there is = absurd (none_some there)
from_first n (d ∷ cs) zero y s h there is = h.0 y (ap (λ (q : RowSound). q.row) (same_some there) ∙ is)
from_first n (d ∷ cs) (suc k) y s h there is = from_next n y d.row d.timing cs (λ m later. from_first m cs k y s later there is) h

has_channels : (p : Plan) (rows : List Row) → AreLast p → NoChannels rows → Added rows p.channels p.rows → HasChannels p
has_channels p rows last quiet a = record {
  top = last.first_channel;
  last = record { names = named; channels = λ c is. let s = has_added rows p.channels p.rows quiet a c is in from_first last.first_channel p.channels s.0 c s.1 last.from s.2 s.3 };
  rows = a.are;
  played = has_added rows p.channels p.rows quiet a;
}
  where
    named : (x k y : ℕ) (i : Input) → slice_get (row_at p.rows x).inputs k ≡ Some i → i.sound.row ≡ Some y → y < last.first_channel
    named x k y i there names = elim (cases_lt x (length p.rows)) [
      | inl inside ↦ item_of (λ (i : Input). IsBelow last.first_channel i.sound) (row_at p.rows x).inputs k i (last.names x inside) there y names
      | inr past ↦ absurd (none_some (sym (ap (λ (w : Row). slice_get w.inputs k) (get_or_past p.rows x no_row past)) ∙ there))
    ]

pub plan_has_channels : (code : Code) (rate : Rate) → HasChannels (plan code rate)
unfolding plan
plan_has_channels code rate =
    let ss = played code code.play.0 (opening rate) [] [] in
    let ts = each (brought rate) ss.gives ss.rows in
    let quiet = quiet_each (brought rate) ss.gives (quiet_all (brought rate) ss.gives (quiet_brought rate)) ss.rows (all_played_quiet code code.play.0 (opening rate) [] [] quiet_none) in
    has_channels (plan code rate) ts.rows (plan-channels code rate) quiet (each_added ts.gives ts.rows)
