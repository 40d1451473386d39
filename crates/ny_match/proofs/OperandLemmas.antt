-- Operations, effects and cues of the trace and of the plan, side by side.
use Rattle.std.proofs.Common.{◌≡◌, ℕ, ◌≤◌, Bool, true, false, if◌then◌else◌, List, [], ◌∷◌, ◌++◌, length, Option, None, refl, subst, arith, ℤ, pos}
use Rattle.ny_num.specs.Numbers.{sat_sample, sample_sub}
use Rattle.ny_num.specs.Leaves.{louder_value}
use Rattle.ny_num.specs.Pointwise.{combined, each_value}
use Rattle.ny_num.specs.declared.rate.Rate.{Rate}
use Rattle.ny_num.specs.declared.timing.Timing.{Timing}
use Rattle.ny_num.specs.Sound as sounds
use Rattle.ny_kernels.specs.declared.operation.Op.{Op}
use Rattle.ny_kernels.specs.declared.operation.Op.TheVariants as op
use Rattle.ny_kernels.specs.Operations.{operation}
use Rattle.ny_warp.specs.declared.env.Env.{Env}
use Rattle.ny_check.specs.declared.value.Value.{Value}
use Rattle.ny_check.specs.declared.value.Value.TheVariants.{Number, Sound as SoundOf}
use Rattle.ny_check.specs.Code.{Code}
use Rattle.ny_check.specs.Behaviours.{is_one, cue_timing}
use Rattle.ny_check.specs.Families.{pair_timing}
use Rattle.ny_heap.specs.declared.make.Make.TheVariants.{Pair}
use Rattle.ny_heap.specs.declared.sound.Sound.{Sound}
use Rattle.ny_heap.specs.Heap.{Kind, Made, HeapState}
use Rattle.ny_heap.specs.Reach.{HeapLaws}
use Rattle.ny_heap.specs.Steps.{both_timing}
use Rattle.ny_hands.specs.declared.branch.Branch.{Branch}
use Rattle.ny_hands.specs.Calls.{MakesUnit}
use Rattle.ny_hands.specs.Hands.{Hand}
use Rattle.ny_hands.proofs.HandLemmas.{AreKept, hand_swap}
use Rattle.ny_hands.proofs.PlaceLemmas.{hand_placed}
use Rattle.ny_hands.proofs.SpendLemmas.{hand_brought}
use Rattle.ny_trace.specs.Evaluates.{OneTurn, BothTurn, JoinTurn, LouderTurn, CuedTurn}
use Rattle.ny_trace.proofs.CueLemmas.{cued_len}
use Rattle.ny_trace.proofs.FamilyLemmas.{same_timing}
use Rattle.ny_trace.proofs.RisingLemmas.{value_list}
use Rattle.ny_heap.specs.Kinds.{UnitKind, Mul, kind_of_op}
use Rattle.ny_plan.specs.Rows.{RowSound, Row, After, given, and_then, shown, silent, input, unit}
use Rattle.ny_plan.specs.Need.{Filled}
use Rattle.ny_plan.specs.Units.{first, second, row_over, brought, paired, negated, cued}
use Rattle.ny_heap.specs.Kinds.{unit_kind}
use Rattle.ny_match.specs.Matched.{IsFirst, Seats, IsSound, IsValue}
use Rattle.ny_match.proofs.GrowLemmas.{first_self, first_then, grows_unit, grows_over, grows_brought}
use Rattle.ny_match.proofs.SeatLemmas.{sound_later}
use Rattle.ny_match.proofs.BornLemmas.{Grew, grew_then}
use Rattle.ny_match.proofs.UnitLemmas.{Turns, Fits, fits_first, fits_next, come_first, silent_turn, placed_turn, made_turn, brought_turn}

module _ (code : Code) (all : List Row) (filled : Filled) where
  -- from an earlier heap on, whose next row was number n
  abbrev pub TurnsFrom : {A : Type 0} → HeapState Branch → HeapState Branch → Seats → ((ℕ → ℕ) → A → Type 0) → ℕ → After A → Type 0
  TurnsFrom old new seats P n a = (later : Seats) × Grew code all filled old new seats later n (length (After.rows a)) × P later.row (After.gives a)

  pub turn_on : {A : Type 0} (old mid new : HeapState Branch) (seats now : Seats) (P : (ℕ → ℕ) → A → Type 0) (n : ℕ) (rows : List Row) (a : After A) → n ≤ length rows → length rows ≤ length (After.rows a) → AreKept old mid → Grew code all filled old mid seats now n (length rows) → Turns code all filled mid new now P rows a → TurnsFrom old new seats P n a
  turn_on old mid new seats now P n rows a less more kept g t = (t.0, grew_then code all filled old mid new seats now t.0 n (length rows) (length (After.rows a)) less more kept g t.1, t.2)

  -- a unit over one sound in hand
  pub over_turn : (mid new : HeapState Branch) (kind : Kind) (k : UnitKind) (f : sounds.Sound → sounds.Sound) (a s : Sound) (r : RowSound) (seats : Seats) (rows : List Row) (before : HeapState Branch) (others : List Sound) → Hand before mid (a ∷ others) → unit_kind kind ≡ k → IsSound seats.row a r
      → MakesUnit mid new kind a.timing (a ∷ []) [] (a ∷ []) s → Fits code all filled mid seats rows (row_over k f r rows) → Turns code all filled mid new seats (λ row. IsSound row s) rows (row_over k f r rows)
  over_turn mid new kind k f a s r seats rows before others c same is step fits =
      made_turn code all filled mid new kind k r.timing (a ∷ []) (input r ∷ []) (λ ss. (f (first ss)).samples) (a ∷ []) s seats rows c.laws (c.begin.0, tt) same
      (is, come_first mid.block (input r) c.laws.positive refl, tt) (omega arith) (subst (λ (t : Timing). MakesUnit mid new kind t (a ∷ []) [] (a ∷ []) s) is.timing step) fits

  -- ---- operations

  one_turn : (old mid new : HeapState Branch) (o : Op) (j k : Option ℤ) (f : sounds.Sound → sounds.Sound) (rate : Rate) (a s : Sound) (r : RowSound) (others : List Sound) (seats now : Seats) (n : ℕ) (rows : List Row)
      → HeapLaws old → Hand old mid (a ∷ others) → Grew code all filled old mid seats now n (length rows) → n ≤ length rows → IsSound now.row a r → OneTurn o j k rate a mid new s
      → Fits code all filled mid now rows (and_then (brought rate r) (row_over (kind_of_op o) f) rows) → TurnsFrom old new seats (λ row. IsSound row s) n (and_then (brought rate r) (row_over (kind_of_op o) f) rows)
  one_turn old mid new o j k f rate a s r others seats now n rows laws c g less is step fits =
      let x = brought rate r rows in
      let last = row_over (kind_of_op o) f x.gives x.rows in
      let more : IsFirst rows x.rows = grows_brought rate r rows in
      let rest : IsFirst x.rows last.rows = grows_over (kind_of_op o) f x.gives x.rows in
      let t = brought_turn code all filled mid step.mid rate a step.brought r now rows c.laws c.begin.0 is step.brings (fits_first code all filled mid now rows x last more rest fits) in
      let h = hand_brought old mid step.mid rate a step.brought others laws c step.brings in
      let two = fits_next code all filled mid step.mid now t.0 rows x.rows last more rest t.1 fits in
      let u = over_turn step.mid new (Made (Pair o j k)) (kind_of_op o) f step.brought s x.gives t.0 x.rows old others h refl t.2 step.made two in
      turn_on old step.mid new seats t.0 (λ row. IsSound row s) n x.rows last (omega (arith, less, more.short)) rest.short h.kept
      (grew_then code all filled old mid step.mid seats now t.0 n (length rows) (length x.rows) less more.short c.kept g t.1) u

  both_turn : (old mid new : HeapState Branch) (o : Op) (rate : Rate) (a b s : Sound) (r q : RowSound) (seats now : Seats) (n : ℕ) (rows : List Row)
      → HeapLaws old → Hand old mid (a ∷ b ∷ []) → Grew code all filled old mid seats now n (length rows) → n ≤ length rows → IsSound now.row a r → IsSound now.row b q → BothTurn o rate a b mid new s
      → Fits code all filled mid now rows (paired o rate (SoundOf r) (SoundOf q) rows) → TurnsFrom old new seats (λ row. IsSound row s) n (paired o rate (SoundOf r) (SoundOf q) rows)
  both_turn old mid new o rate a b s r q seats now n rows laws c g less is_a is_b step fits =
      let x = brought rate r rows in
      let y = brought rate q x.rows in
      let samples : List sounds.Sound → List ℤ = λ ss. (combined (pair_timing o) (operation o) (first ss) (second ss)).samples in
      let last = unit (kind_of_op o) (pair_timing o x.gives.timing y.gives.timing) (input x.gives ∷ input y.gives ∷ []) samples y.rows in
      let to_x : IsFirst rows x.rows = grows_brought rate r rows in
      let to_y : IsFirst x.rows y.rows = grows_brought rate q x.rows in
      let to_last : IsFirst y.rows last.rows = grows_unit (kind_of_op o) (pair_timing o x.gives.timing y.gives.timing) (input x.gives ∷ input y.gives ∷ []) samples y.rows in
      let from_x : IsFirst x.rows last.rows = first_then x.rows y.rows last.rows to_y to_last in
      let t = brought_turn code all filled mid step.mid rate a step.first r now rows c.laws c.begin.0 is_a step.brings_first (fits_first code all filled mid now rows x last to_x from_x fits) in
      let h1 = hand_brought old mid step.mid rate a step.first (b ∷ []) laws c step.brings_first in
      let f1 = fits_next code all filled mid step.mid now t.0 rows x.rows last to_x from_x t.1 fits in
      let u = brought_turn code all filled step.mid step.end rate b step.second q t.0 x.rows h1.laws h1.begin.1.0 (sound_later mid now.row t.0.row b q c.begin.1.0 t.1.row is_b) step.brings_second (fits_first code all filled step.mid t.0 x.rows y last to_y to_last f1) in
      let h2 = hand_brought old step.mid step.end rate b step.second (step.first ∷ []) laws (hand_swap old step.mid step.first b [] h1) step.brings_second in
      let f2 = fits_next code all filled step.mid step.end t.0 u.0 x.rows y.rows last to_y to_last u.1 f1 in
      let is_first = sound_later step.mid t.0.row u.0.row step.first x.gives h1.begin.0 u.1.row t.2 in
      let when : both_timing o step.first.timing step.second.timing ≡ pair_timing o x.gives.timing y.gives.timing = λ i. same_timing o i (is_first.timing i) (u.2.timing i) in
      let v = made_turn code all filled step.end new (Made (Pair o None None)) (kind_of_op o) (pair_timing o x.gives.timing y.gives.timing) (step.first ∷ step.second ∷ []) (input x.gives ∷ input y.gives ∷ []) samples (step.first ∷ step.second ∷ []) s u.0 y.rows h2.laws (h2.begin.1.0, (h2.begin.0, tt)) refl
      (is_first, come_first step.end.block (input x.gives) h2.laws.positive refl, (u.2, come_first step.end.block (input y.gives) h2.laws.positive refl, tt)) (omega arith)
      (subst (λ (z : Timing). MakesUnit step.end new (Made (Pair o None None)) z (step.first ∷ step.second ∷ []) [] (step.first ∷ step.second ∷ []) s) when step.made) f2 in
      turn_on old step.end new seats u.0 (λ row. IsSound row s) n y.rows last (omega (arith, less, to_x.short, to_y.short)) to_last.short h2.kept
      (grew_then code all filled old step.mid step.end seats t.0 u.0 n (length x.rows) (length y.rows) (omega (arith, less, to_x.short)) to_y.short h1.kept
      (grew_then code all filled old mid step.mid seats now t.0 n (length rows) (length x.rows) less to_x.short c.kept g t.1) u.1) v

  pub join_turn : (old mid new : HeapState Branch) (o : Op) (rate : Rate) (x y : Value Sound) (v w : Value RowSound) (s : Sound) (seats now : Seats) (n : ℕ) (rows : List Row)
      → HeapLaws old → Hand old mid (value_list x ++ value_list y) → Grew code all filled old mid seats now n (length rows) → n ≤ length rows → IsValue now.row x v → IsValue now.row y w → JoinTurn o rate x y mid new s
      → Fits code all filled mid now rows (paired o rate v w rows) → TurnsFrom old new seats (λ row. IsSound row s) n (paired o rate v w rows)
  join_turn old mid new o rate (Number i) (Number j) (Number k) (Number l) s seats now n rows laws c g less is_x is_y step fits =
      turn_on old mid new seats now (λ row. IsSound row s) n rows (given (silent rate) rows) less (omega arith) c.kept g (silent_turn code all filled mid new now rows rate s fits.matched step)
  join_turn old mid new o rate (Number i) (Number j) (Number k) (SoundOf q) s seats now n rows laws c g less is_x is_y step fits = absurd is_y
  join_turn old mid new o rate (Number i) (Number j) (SoundOf r) w s seats now n rows laws c g less is_x is_y step fits = absurd is_x
  join_turn old mid new o rate (Number i) (SoundOf b) (Number k) (Number l) s seats now n rows laws c g less is_x is_y step fits = absurd is_y
  join_turn old mid new o rate (Number i) (SoundOf b) (Number k) (SoundOf q) s seats now n rows laws c g less is_x is_y step fits =
      one_turn old mid new o _ None (each_value (operation o (sat_sample k))) rate b s q [] seats now n rows laws c g less is_y step fits
  join_turn old mid new o rate (Number i) (SoundOf b) (SoundOf r) w s seats now n rows laws c g less is_x is_y step fits = absurd is_x
  join_turn old mid new o rate (SoundOf a) (Number j) (Number k) w s seats now n rows laws c g less is_x is_y step fits = absurd is_x
  join_turn old mid new o rate (SoundOf a) (Number j) (SoundOf r) (Number l) s seats now n rows laws c g less is_x is_y step fits =
      one_turn old mid new o None _ (each_value (λ x. operation o x (sat_sample l))) rate a s r [] seats now n rows laws c g less is_x step fits
  join_turn old mid new o rate (SoundOf a) (Number j) (SoundOf r) (SoundOf q) s seats now n rows laws c g less is_x is_y step fits = absurd is_y
  join_turn old mid new o rate (SoundOf a) (SoundOf b) (Number k) w s seats now n rows laws c g less is_x is_y step fits = absurd is_x
  join_turn old mid new o rate (SoundOf a) (SoundOf b) (SoundOf r) (Number l) s seats now n rows laws c g less is_x is_y step fits = absurd is_y
  join_turn old mid new o rate (SoundOf a) (SoundOf b) (SoundOf r) (SoundOf q) s seats now n rows laws c g less is_x is_y step fits =
      both_turn old mid new o rate a b s r q seats now n rows laws c g less is_x is_y step fits

  -- 0 minus it
  pub negated_turn : (old mid new : HeapState Branch) (rate : Rate) (x : Value Sound) (v : Value RowSound) (s : Sound) (seats now : Seats) (n : ℕ) (rows : List Row)
      → HeapLaws old → Hand old mid (value_list x) → Grew code all filled old mid seats now n (length rows) → n ≤ length rows → IsValue now.row x v → JoinTurn op.Sub rate (Number (pos 0)) x mid new s
      → Fits code all filled mid now rows (negated rate v rows) → TurnsFrom old new seats (λ row. IsSound row s) n (negated rate v rows)
  negated_turn old mid new rate (Number j) (Number l) s seats now n rows laws c g less is step fits =
      turn_on old mid new seats now (λ row. IsSound row s) n rows (given (silent rate) rows) less (omega arith) c.kept g (silent_turn code all filled mid new now rows rate s fits.matched step)
  negated_turn old mid new rate (Number j) (SoundOf q) s seats now n rows laws c g less is step fits = absurd is
  negated_turn old mid new rate (SoundOf b) (Number l) s seats now n rows laws c g less is step fits = absurd is
  negated_turn old mid new rate (SoundOf b) (SoundOf q) s seats now n rows laws c g less is step fits =
      one_turn old mid new op.Sub _ None (each_value (sample_sub (pos 0))) rate b s q [] seats now n rows laws c g less is step fits

  -- ---- cues

  pub cued_turn : (old mid new : HeapState Branch) (env : Env) (a s : Sound) (r : RowSound) (seats now : Seats) (n : ℕ) (rows : List Row)
      → HeapLaws old → Hand old mid (a ∷ []) → Grew code all filled old mid seats now n (length rows) → n ≤ length rows → IsSound now.row a r → CuedTurn env a mid new s
      → Fits code all filled mid now rows (cued env r rows) → TurnsFrom old new seats (λ row. IsSound row s) n (cued env r rows)
  cued_turn old mid new env a s r seats now n rows laws c g less is step fits =
      let t = placed_turn code all filled mid step.mid now rows (cue_timing env) a step.later r fits.matched is step.places in
      let h = hand_placed old mid step.mid (cue_timing env) a step.later [] (cued_len env) laws c step.places in
      let g2 = grew_then code all filled old mid step.mid seats now t.0 n (length rows) (length rows) less (omega arith) c.kept g t.1 in
      by_loud (is_one env.loud) t h g2 step.louder fits
    where
      by_loud : (b : Bool) (t : Turns code all filled mid step.mid now (λ row. IsSound row step.later) rows (given (shown r.row (cue_timing env r.timing)) rows)) → Hand old step.mid (step.later ∷ []) → Grew code all filled old step.mid seats t.0 n (length rows) → LouderTurn b env.loud step.later step.mid new s
          → Fits code all filled mid now rows ((if b then given (shown r.row (cue_timing env r.timing)) else row_over Mul (each_value (louder_value env.loud)) (shown r.row (cue_timing env r.timing))) rows)
          → TurnsFrom old new seats (λ row. IsSound row s) n ((if b then given (shown r.row (cue_timing env r.timing)) else row_over Mul (each_value (louder_value env.loud)) (shown r.row (cue_timing env r.timing))) rows)
      by_loud true t h g2 louder fits =
          subst (λ (z : HeapState Branch). TurnsFrom old z seats (λ row. IsSound row s) n (given (shown r.row (cue_timing env r.timing)) rows)) louder.0
          (t.0, g2, subst (λ (q : Sound). IsSound t.0.row q (shown r.row (cue_timing env r.timing))) louder.1 t.2)
      by_loud false t h g2 louder fits =
          let last = row_over Mul (each_value (louder_value env.loud)) (shown r.row (cue_timing env r.timing)) rows in
          let rest : IsFirst rows last.rows = grows_over Mul (each_value (louder_value env.loud)) (shown r.row (cue_timing env r.timing)) rows in
          let next = fits_next code all filled mid step.mid now t.0 rows rows last (first_self rows) rest t.1 fits in
          let u = over_turn step.mid new _ Mul (each_value (louder_value env.loud)) step.later s (shown r.row (cue_timing env r.timing)) t.0 rows old [] h refl t.2 louder next in
          turn_on old step.mid new seats t.0 (λ row. IsSound row s) n rows last less rest.short h.kept g2 u
