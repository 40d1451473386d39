-- The next part of a sequence, evaluated and placed, is the plan's next part.
use Rattle.std.proofs.Common.{◌≡◌, ℕ, zero, suc, ◌<◌, List, [], ◌∷◌, length, map, get_or, Some, slice_get, sym, ap, ◌∙◌, arith}
use Rattle.std.specs.Option.{option_map}
use Rattle.ny_num.specs.Grid.{index_at}
use Rattle.ny_num.specs.Sound.{placed_timing}
use Rattle.ny_num.specs.declared.rate.Rate.{Rate}
use Rattle.ny_warp.specs.declared.env.Env.{Env}
use Rattle.ny_warp.specs.Environment.{from_stop}
use Rattle.ny_resolve.specs.declared.term.NameId.{NameId}
use Rattle.ny_check.specs.declared.node.ExprId.{ExprId}
use Rattle.ny_check.specs.declared.value.Value.{Value}
use Rattle.ny_check.specs.declared.value.Value.TheVariants.{Number, Sound as SoundOf}
use Rattle.ny_check.specs.Code.{Code}
use Rattle.ny_heap.specs.declared.sound.Sound.{Sound}
use Rattle.ny_heap.specs.Heap.{Captured, HeapState}
use Rattle.ny_heap.specs.Reach.{HeapLaws}
use Rattle.ny_heap.specs.Steps.{captured_of}
use Rattle.ny_hands.specs.declared.branch.Branch.{Branch}
use Rattle.ny_hands.specs.Frames as frames
use Rattle.ny_hands.specs.Hands.{Hand, AreNamed}
use Rattle.ny_hands.proofs.SpendLemmas.{hand_brought}
use Rattle.ny_list.proofs.IndexLemmas.{none_some, same_some}
use Rattle.ny_plan.specs.Rows.{RowSound, Row, After, given, shown}
use Rattle.ny_plan.specs.Units.{brought, next_part}
use Rattle.ny_plan.specs.Need.{Filled}
use Rattle.ny_plan.specs.Plan as plans
use Rattle.ny_plan.specs.Plan.{part_of, made}
use Rattle.ny_plan.specs.StandsFor.{Keeps}
use Rattle.ny_trace.specs.Evaluates.{Trace, NextTurn}
use Rattle.ny_trace.specs.Laws.{IsLawful}
use Rattle.ny_trace.specs.Reveals.{no_sound, framed, frame}
use Rattle.ny_match.specs.Matched.{IsFirst, Seats, IsSound, IsValue, AreNames, IsKeptValue, AreKeptNames}
use Rattle.ny_match.specs.Born.{IsMatching}
use Rattle.ny_match.proofs.GrowLemmas.{grows_brought, made_grows}
use Rattle.ny_match.proofs.BornLemmas.{Grew, grew_of, grew_then}
use Rattle.ny_match.proofs.UnitLemmas.{Turns, Fits, fits_first, fits_next, brought_turn, placed_turn}

-- ---- the names of a part that waited

-- what it captured is what it kept
kept_sound : (row : ℕ → ℕ) (r : Rate) (ss : List Sound) (k : ℕ) (c : Captured) (q : RowSound) → slice_get (map captured_of ss) k ≡ Some c → Keeps row c q → IsSound row (get_or ss k (no_sound r)) q
kept_sound row r [] k c q there keeps = absurd (none_some there)
kept_sound row r (s ∷ ss) zero c q there keeps =
    let same : captured_of s ≡ c = same_some there in
    record { names = keeps.names ∙ ap (λ (d : Captured). option_map row d.node) (sym same); timing = ap (λ (d : Captured). d.timing) same ∙ keeps.timing }
kept_sound row r (s ∷ ss) (suc k) c q there keeps = kept_sound row r ss k c q there keeps

pub frame_names : (row : ℕ → ℕ) (r : Rate) (ss : List Sound) (bs : List (NameId × Value ℕ)) (ns : plans.Names) → AreKeptNames row (map captured_of ss) bs ns → AreNames row (frame r ss bs) ns
frame_names row r ss [] [] are = tt
frame_names row r ss [] (n ∷ ns) are = absurd are
frame_names row r ss (b ∷ bs) [] are = absurd are
frame_names row r ss (b ∷ bs) (n ∷ ns) are = (are.0, by_value b.1 n.1 are.1, frame_names row r ss bs ns are.2)
  where
    by_value : (v : Value ℕ) (w : Value RowSound) → IsKeptValue row (map captured_of ss) v w → IsValue row (framed r ss v) w
    by_value (Number j) (Number k) is = is
    by_value (Number j) (SoundOf q) is = absurd is
    by_value (SoundOf j) (Number k) is = absurd is
    by_value (SoundOf j) (SoundOf q) is = kept_sound row r ss j is.0 q is.1 is.2

-- ---- the turn

module _ (code : Code) (D : Trace) (law : IsLawful code D) (match : IsMatching code D) (all : List Row) (f : Filled) where
  pub next_turn : (env : Env) (stop : ℕ) (e : ExprId) (names : frames.Names) (ns : plans.Names) (old new : HeapState Branch) (s : Sound) (seats : Seats) (rows : List Row) → e.0 < length code.nodes → HeapLaws old → AreNamed old names → AreNames seats.row names ns
      → NextTurn D env stop (e, names) old new s → Fits code all f old seats rows (next_part env stop (part_of code (made code) ns e) rows) → Turns code all f old new seats (λ row. IsSound row s) rows (next_part env stop (part_of code (made code) ns e) rows)
  next_turn env stop e names ns old new s seats rows inside laws named are t fits =
      (third.0, grew_then code all f old t.end new seats second.0 third.0 (length rows) (length b.rows) (length b.rows) (omega (arith, grows_a.short, grows_b.short)) (omega arith) hand_end.kept both third.1, third.2)
    where
      a : After RowSound
      a = made code e.0 (from_stop env stop) ns rows

      b : After RowSound
      b = brought env.sound_rate a.gives a.rows

      grows_a : IsFirst rows a.rows
      grows_a = made_grows code e.0 (from_stop env stop) ns rows

      grows_b : IsFirst a.rows b.rows
      grows_b = grows_brought env.sound_rate a.gives a.rows

      fits_b : Fits code all f old seats rows b
      fits_b = record { matched = fits.matched; first = fits.first; free = fits.free }

      fits_a : Fits code all f old seats rows a
      fits_a = fits_first code all f old seats rows a b grows_a grows_b fits_b

      first : Turns code all f old t.mid seats (λ row. IsSound row t.part) rows a
      first =
          let q = match e.0 (from_stop env stop) names old t.mid t.part t.evaluates inside laws named all f seats ns rows fits_a.matched are fits_a.first fits_a.free in
          (q.0.later, grew_of code all f old t.mid seats (length rows) (length a.rows) q.0, q.1)

      hand_mid : Hand old t.mid (t.part ∷ [])
      hand_mid = (law e.0 (from_stop env stop) names old t.mid t.part t.evaluates inside laws named).hand

      hand_end : Hand old t.end (t.brought ∷ [])
      hand_end = hand_brought old t.mid t.end env.sound_rate t.part t.brought [] laws hand_mid t.brings

      second : Turns code all f t.mid t.end first.0 (λ row. IsSound row t.brought) a.rows b
      second =
          brought_turn code all f t.mid t.end env.sound_rate t.part t.brought a.gives first.0 a.rows hand_mid.laws hand_mid.begin.0 first.2 t.brings
          (fits_next code all f old t.mid seats first.0 rows a.rows b grows_a grows_b first.1 fits_b)

      both : Grew code all f old t.end seats second.0 (length rows) (length b.rows)
      both = grew_then code all f old t.mid t.end seats first.0 second.0 (length rows) (length a.rows) (length b.rows) grows_a.short grows_b.short hand_mid.kept first.1 second.1

      third : Turns code all f t.end new second.0 (λ row. IsSound row s) b.rows (given (shown b.gives.row (placed_timing (index_at stop env.sound_rate) b.gives.timing)) b.rows)
      third = placed_turn code all f t.end new second.0 b.rows (placed_timing (index_at stop env.sound_rate)) t.brought s b.gives second.1.matched second.2 t.places
