-- An envelope whose knots are counted from the sound's start.
use Rattle.std.proofs.Common.{◌≡◌, ℕ, zero, suc, ◌+◌, ◌-◌, ◌*◌, ◌/◌, ◌<◌, ◌≤◌, nat_le, if◌then◌else◌, List, [], ◌∷◌, ◌++◌, map, length, get_or, drop, refl, sym, ap, subst, ◌∙◌, arith, inl, inr, ℤ, pos, ◌≤ℤ◌, ◌-ℤ◌, ◌*ℤ◌, ◌+ℤ◌}
use Rattle.std.specs.Int.{int_max}
use Rattle.std.specs.List.{range_with_len}
use Rattle.std.proofs.lemmas.Int.{ints, int_max_is}
use Rattle.std.proofs.lemmas.Bool.{cases_lt, le-leb, lt-leb}
use Rattle.std.proofs.lemmas.Nat.{le-div}
use Rattle.std.specs.declared.vec.Vec.{Vec}
use Rattle.std.specs.Global.{Global}
use Rattle.std.proofs.lemmas.List.{length-map, map-append, append-nil, append_assoc}
use Rattle.std.proofs.Math.Nat.{div-mul-le_self}
use Rattle.ny_num.specs.declared.rate.Rate.{Rate}
use Rattle.ny_num.specs.declared.rate.Rate.TheVariants.{R2205, R4410, R8000, R11025, R16000, R22050, R32000, R44100, R48000}
use Rattle.ny_num.specs.declared.timing.Timing.{Timing}
use Rattle.ny_num.specs.Grid.{index_at, grid_of}
use Rattle.ny_num.specs.Leaves as leaves
use Rattle.ny_num.specs.Leaves.{on_line, envelope_from, envelope_value, leaf_timing}
use Rattle.ny_num.specs.Numbers.{floor_div, sat_sample}
use Rattle.ny_num.specs.Sound as sounds
use Rattle.ny_num.specs.Sound.{sound_of, spanning}
use Rattle.ny_warp.specs.declared.env.Env.{Env}
use Rattle.ny_warp.specs.Environment.{global_time}
use Rattle.ny_check.specs.Behaviours.{plain_timing, breakpoints_after, breakpoints, last_time, envelope_end, knot, envelope_sound}
use Rattle.ny_units.specs.declared.leaves.Knot.{Knot}
use Rattle.ny_units.specs.declared.leaves.Leaf.TheVariants.{Pwl}
use Rattle.ny_units.specs.Envelopes.{corner, corners, corner_at, last_place}
use Rattle.ny_units.specs.Playing.{leaf_value, IsLeaf, Reaches}
use Rattle.ny_eval.specs.Knots.{counted_from, knot_from, first_level}
use Rattle.ny_trace.proofs.FamilyLemmas.{leaf_is}

-- ---- one breakpoint more

-- the breakpoints from a number on: that of the time there and of the level after it, and those from the second number after it on
pub one_breakpoint : (time : ℤ) (numbers : List ℤ) (i : ℕ) (d : ℤ) → i < length numbers → breakpoints_after time (drop i numbers) ≡ (int_max time (get_or numbers i d), first_level (drop (suc i) numbers)) ∷ breakpoints_after (int_max time (get_or numbers i d)) (drop (suc (suc i)) numbers)
one_breakpoint time [] i d h = absurd (omega (arith, h))
one_breakpoint time (t ∷ []) zero d h = refl
one_breakpoint time (t ∷ level ∷ more) zero d h = refl
one_breakpoint time (t ∷ numbers) (suc i) d h = one_breakpoint time numbers i d (omega (arith, h))

pub none_left : (time : ℤ) (numbers : List ℤ) (i : ℕ) → length numbers ≤ i → breakpoints_after time (drop i numbers) ≡ []
none_left time [] zero h = refl
none_left time [] (suc i) h = refl
none_left time (t ∷ numbers) zero h = absurd (omega (arith, h))
none_left time (t ∷ numbers) (suc i) h = none_left time numbers i (omega (arith, h))

pub level_here : (numbers : List ℤ) (i : ℕ) (d : ℤ) → i < length numbers → first_level (drop i numbers) ≡ sat_sample (get_or numbers i d)
level_here [] i d h = absurd (omega (arith, h))
level_here (x ∷ numbers) zero d h = refl
level_here (x ∷ numbers) (suc i) d h = level_here numbers i d (omega (arith, h))

pub no_level : (numbers : List ℤ) (i : ℕ) → length numbers ≤ i → first_level (drop i numbers) ≡ pos 0
no_level [] zero h = refl
no_level [] (suc i) h = refl
no_level (x ∷ numbers) zero h = absurd (omega (arith, h))
no_level (x ∷ numbers) (suc i) h = no_level numbers i (omega (arith, h))

-- the knots so far, and those of the numbers from one on, where a knot more is pushed
pub next_knot : (env : Env) (start : ℕ) (numbers : List ℤ) (k : ℕ) (time later level d : ℤ) (before after : List Knot) (made : Knot) (all : List (ℕ × ℤ)) → 2 * k < length numbers → later ≡ int_max time (get_or numbers (2 * k) d) → level ≡ first_level (drop (2 * k + 1) numbers) → corner made ≡ knot_from env start (later, level) → after ≡ before ++ made ∷ [] → corners before ++ map (knot_from env start) (breakpoints_after time (drop (2 * k) numbers)) ≡ all → corners after ++ map (knot_from env start) (breakpoints_after later (drop (2 * (k + 1)) numbers)) ≡ all
next_knot env start numbers k time later level d before after made all h at_time at_level is grown so =
    let one : 2 * k + 1 ≡ suc (2 * k) = omega arith in
    let two : 2 * (k + 1) ≡ suc (suc (2 * k)) = omega arith in
    let point : (later, level) ≡ (int_max time (get_or numbers (2 * k) d), first_level (drop (suc (2 * k)) numbers)) = λ i. (at_time i, (at_level ∙ ap (λ n. first_level (drop n numbers)) one) i) in
    let rest : map (knot_from env start) (breakpoints_after time (drop (2 * k) numbers)) ≡ corner made ∷ map (knot_from env start) (breakpoints_after later (drop (2 * (k + 1)) numbers)) =
    ap (map (knot_from env start)) (one_breakpoint time numbers (2 * k) d h)
    ∙ sym (λ i. (is ∙ ap (knot_from env start) point) i ∷ map (knot_from env start) (breakpoints_after (at_time i) (drop (two i) numbers))) in
    ap (λ ks. corners ks ++ map (knot_from env start) (breakpoints_after later (drop (2 * (k + 1)) numbers))) grown
    ∙ (ap (λ ks. ks ++ map (knot_from env start) (breakpoints_after later (drop (2 * (k + 1)) numbers))) (map-append corner before (made ∷ []))
    ∙ append_assoc (corners before) (corner made ∷ []) (map (knot_from env start) (breakpoints_after later (drop (2 * (k + 1)) numbers)))
    ∙ (sym (ap (λ ks. corners before ++ ks) rest) ∙ so))

pub all_knots_made : (env : Env) (start : ℕ) (numbers : List ℤ) (k : ℕ) (time : ℤ) (made : List Knot) (all : List (ℕ × ℤ)) → length numbers ≤ 2 * k → corners made ++ map (knot_from env start) (breakpoints_after time (drop (2 * k) numbers)) ≡ all → corners made ≡ all
all_knots_made env start numbers k time made all h so =
    sym (append-nil (corners made)) ∙ sym (ap (λ ps. corners made ++ map (knot_from env start) ps) (none_left time numbers (2 * k) h)) ∙ so

pub ruleset levels = (level_here, no_level)

pub ruleset knots_in_turn = (all_knots_made)

-- ---- places from the start

-- none of these stands before a start
abbrev NoneBefore : ℕ → List (ℕ × ℤ) → Type 0
NoneBefore start [] = Unit {0}
NoneBefore start (k ∷ ks) = (start ≤ k.0) × NoneBefore start ks

leb_counted : (start a m : ℕ) → start ≤ a → start ≤ m → nat_le (a - start) (m - start) ≡ nat_le a m
leb_counted start a m p q =
    elim (cases_lt m a) [
      | inl later ↦ lt-leb (a - start) (m - start) (omega (arith, later, p, q)) ∙ sym (lt-leb a m later)
      | inr reached ↦ le-leb (a - start) (m - start) (omega (arith, reached, p, q)) ∙ sym (le-leb a m reached)
    ]

line_counted : (start : ℕ) (from to : ℕ × ℤ) (m : ℕ) → start ≤ from.0 → start ≤ m → on_line (counted_from start from) (counted_from start to) (m - start) ≡ on_line from to m
unfolding on_line
line_counted start from to m p q =
    let along : m - start - (from.0 - start) ≡ m - from.0 = omega (arith, p, q) in
    let width : to.0 - start - (from.0 - start) ≡ to.0 - from.0 = omega (arith, p) in
    λ i. sat_sample (from.1 +ℤ floor_div ((to.1 -ℤ from.1) *ℤ pos (along i)) (pos (width i)))

from_counted : (start : ℕ) (k : ℕ × ℤ) (ks : List (ℕ × ℤ)) (m : ℕ) → start ≤ k.0 → NoneBefore start ks → start ≤ m → envelope_from (counted_from start k) (map (counted_from start) ks) (m - start) ≡ envelope_from k ks m
from_counted start k [] m p all q = refl
from_counted start k (next ∷ ks) m p all q =
    λ i. if leb_counted start next.0 m all.0 q i then from_counted start next ks m all.0 all.1 q i else line_counted start k next m p q i

-- an envelope by knots that are counted from a start
counted : (start : ℕ) (k : ℕ × ℤ) (ks : List (ℕ × ℤ)) (m : ℕ) → start ≤ k.0 → NoneBefore start ks → start ≤ m → envelope_value (map (counted_from start) (k ∷ ks)) (m - start) ≡ envelope_value (k ∷ ks) m
unfolding envelope_value
counted start k ks m p all q = from_counted start k ks m p all q

map_from : (f g : ℕ → ℤ) (start from len : ℕ) → start ≤ from → ((m : ℕ) → start ≤ m → f m ≡ g m) → map f (range_with_len from len) ≡ map g (range_with_len from len)
map_from f g start from zero le same = refl
map_from f g start from (suc len) le same = λ i. same from le i ∷ map_from f g start (from + 1) len (omega (arith, le)) same i

-- a sound is known by its values from its start on
pub sound_from : (t : Timing) (f g : ℕ → ℤ) → ((m : ℕ) → t.start ≤ m → f m ≡ g m) → sound_of t f ≡ sound_of t g
unfolding sound_of
sound_from t f g same =
    let remade : List ℤ → sounds.Sound = λ xs. record { rate = t.rate; start = t.start; stop = t.stop; samples = xs } in
    ap remade (map_from f g t.start t.start t.len (omega arith) same)

-- ---- no breakpoint stands before the start

some_grid : (r : Rate) → 0 < grid_of r
some_grid R2205 = omega arith
some_grid R4410 = omega arith
some_grid R8000 = omega arith
some_grid R11025 = omega arith
some_grid R16000 = omega arith
some_grid R22050 = omega arith
some_grid R32000 = omega arith
some_grid R44100 = omega arith
some_grid R48000 = omega arith

index_rises : (t u : ℕ) (r : Rate) → t ≤ u → index_at t r ≤ index_at u r
unfolding index_at
index_rises t u r le =
    le-div ((t + grid_of r / 2) / grid_of r) (u + grid_of r / 2) (grid_of r) (some_grid r) (omega (arith, le, div-mul-le_self (t + grid_of r / 2) (grid_of r)))

-- where an envelope begins
abbrev pub begin_of : Env → ℕ
begin_of env = index_at (global_time env (pos 0)) env.control_rate

-- the global time never falls
abbrev pub NeverFalls : Env → Type 0
NeverFalls env = (v w : ℤ) → v ≤ℤ w → global_time env v ≤ global_time env w

none_before : (env : Env) → NeverFalls env → (time : ℤ) (numbers : List ℤ) → pos 0 ≤ℤ time → NoneBefore (begin_of env) (map (knot env) (breakpoints_after time numbers))
none_before env rises time [] from = tt
none_before env rises time (t ∷ []) from =
    (index_rises (global_time env (pos 0)) (global_time env (int_max time t)) env.control_rate (rises (pos 0) (int_max time t) (let most = int_max_is time t in omega (arith, ints, most, from))), tt)
none_before env rises time (t ∷ level ∷ more) from =
    let later : pos 0 ≤ℤ int_max time t = let most = int_max_is time t in omega (arith, ints, most, from) in
    (index_rises (global_time env (pos 0)) (global_time env (int_max time t)) env.control_rate (rises (pos 0) (int_max time t) later), none_before env rises (int_max time t) more later)

-- ---- the leaf

plain_start : (env : Env) (d : ℤ) → (plain_timing env.control_rate env d).start ≡ begin_of env
unfolding plain_timing leaf_timing spanning
plain_start env d = refl

plain_len : (env : Env) (d : ℤ) → (plain_timing env.control_rate env d).len ≡ index_at (global_time env d) env.control_rate - begin_of env
unfolding plain_timing leaf_timing spanning
plain_len env d = refl

map_map : (env : Env) (start : ℕ) (ps : List (ℤ × ℤ)) → map (knot_from env start) ps ≡ map (counted_from start) (map (knot env) ps)
map_map env start [] = refl
map_map env start (p ∷ ps) = ap (λ ks. knot_from env start p ∷ ks) (map_map env start ps)

-- what is known of the numbers by a slice of them
pub envelope_when : (env : Env) (numbers slice : List ℤ) (end : ℤ) (t : Timing) → slice ≡ numbers → end ≡ envelope_end slice → t ≡ plain_timing env.control_rate env end → t ≡ plain_timing env.control_rate env (envelope_end numbers)
envelope_when env numbers slice end t same is when = when ∙ ap (plain_timing env.control_rate env) (is ∙ ap envelope_end same)

pub envelope_knots : (env : Env) (start : ℕ) (numbers slice : List ℤ) (made : List (ℕ × ℤ)) → slice ≡ numbers → made ≡ map (knot_from env start) ((pos 0, pos 0) ∷ breakpoints slice) → made ≡ map (knot_from env start) ((pos 0, pos 0) ∷ breakpoints numbers)
envelope_knots env start numbers slice made same is = is ∙ ap (λ ns. map (knot_from env start) ((pos 0, pos 0) ∷ breakpoints ns)) same

-- the last of some knots, or this one
abbrev last_knot : ℕ × ℤ → List (ℕ × ℤ) → ℕ × ℤ
last_knot k [] = k
last_knot k (next ∷ ks) = last_knot next ks

last_at : (ks : List (ℕ × ℤ)) (k : ℕ × ℤ) → last_place (k ∷ ks) ≡ (last_knot k ks).0
last_at [] k = refl
last_at (next ∷ ks) k =
    let last : length (k ∷ next ∷ ks) - 1 ≡ suc (length (next ∷ ks) - 1) = omega arith in
    ap (λ n. (corner_at (k ∷ next ∷ ks) n).0) last ∙ last_at ks next

last_counted : (env : Env) (start : ℕ) (time level : ℤ) (ps : List (ℤ × ℤ)) → (last_knot (counted_from start (knot env (time, level))) (map (counted_from start) (map (knot env) ps))).0 ≡ index_at (global_time env (last_time time ps)) env.control_rate - start
last_counted env start time level [] = refl
last_counted env start time level (p ∷ ps) = last_counted env start p.0 p.1 ps

module _ (env : Env) (numbers : List ℤ) (knots : Vec Knot Global) (t : Timing) (when : t ≡ plain_timing env.control_rate env (envelope_end numbers)) (made : corners knots.items ≡ map (knot_from env t.start) ((pos 0, pos 0) ∷ breakpoints numbers)) where
  start_is : t.start ≡ begin_of env
  start_is = ap (λ (u : Timing). u.start) when ∙ plain_start env (envelope_end numbers)

  abbrev all_knots : List (ℕ × ℤ)
  all_knots = knot env (pos 0, pos 0) ∷ map (knot env) (breakpoints numbers)

  counted_knots : corners knots.items ≡ map (counted_from t.start) all_knots
  counted_knots = made ∙ map_map env t.start ((pos 0, pos 0) ∷ breakpoints numbers)

  -- a knot stands at the start
  some_knot : 0 < length knots.items
  some_knot = omega (arith, length-map knots.items corner, ap length made)

  first_knot : (corner_at (corners knots.items) 0).0 ≡ 0
  first_knot = ap (λ ks. (corner_at ks 0).0) counted_knots ∙ omega (arith, start_is)

  -- and one at the end
  last_is : last_place (corners knots.items) ≡ t.len
  last_is =
      ap last_place counted_knots
      ∙ last_at (map (counted_from t.start) (map (knot env) (breakpoints numbers))) (counted_from t.start (knot env (pos 0, pos 0)))
      ∙ last_counted env t.start (pos 0) (pos 0) (breakpoints numbers)
      ∙ ap (λ n. index_at (global_time env (envelope_end numbers)) env.control_rate - n) start_is
      ∙ sym (plain_len env (envelope_end numbers))
      ∙ sym (ap (λ (u : Timing). u.len) when)

  pub envelope_heard : 0 < t.len → IsLeaf (Pwl knots) × Reaches (Pwl knots) t.len
  envelope_heard some = ((some_knot, first_knot), omega (arith, last_is))

  pub envelope_is : NeverFalls env → leaves.leaf t (leaf_value (Pwl knots)) ≡ envelope_sound env numbers
  unfolding envelope_sound leaf_value envelope_value
  envelope_is rises =
      sym (leaf_is t (envelope_value (corners knots.items)))
      ∙ sound_from t (λ m. envelope_value (corners knots.items) (m - t.start)) (envelope_value all_knots) at
      ∙ ap (λ u. sound_of u (envelope_value all_knots)) when
    where
      at : (m : ℕ) → t.start ≤ m → envelope_value (corners knots.items) (m - t.start) ≡ envelope_value all_knots m
      at m from =
          ap (λ ks. envelope_value ks (m - t.start)) counted_knots
          ∙ counted t.start (knot env (pos 0, pos 0)) (map (knot env) (breakpoints numbers)) m (omega (arith, start_is)) (subst (λ n. NoneBefore n (map (knot env) (breakpoints numbers))) (sym start_is) (none_before env rises (pos 0) numbers (omega (arith, ints)))) from
