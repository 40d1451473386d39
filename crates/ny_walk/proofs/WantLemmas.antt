-- What a unit wants is open, and lacks less once it is filled.
use Rattle.std.proofs.Common.{◌≡◌, inr, ℕ, zero, suc, ◌+◌, ◌-◌, ◌*◌, ◌/◌, ◌<◌, ◌≤◌, min, Bool, true, false, cond, List, [], ◌∷◌, get_or, Option, None, Some, sum_by, refl, sym, ap, subst, ◌∙◌, arith}
use Rattle.std.proofs.lemmas.Bool.{ltb-true, lt-ltb}
use Rattle.std.proofs.lemmas.List.Sums.{sum_by-cons}
use Rattle.std.proofs.Math.Nat.{le-div_iff_mul-le}
use Rattle.std.proofs.lemmas.Nat.{mul-le}
use Rattle.std.specs.Option.{option_map_or}
use Rattle.ny_num.specs.declared.timing.Timing.{Timing}
use Rattle.ny_heap.specs.Heap.{Reader, Kind, Node, HeapState, node_at, input_at, taken_after, is_open, blocks_of}
use Rattle.ny_heap.specs.Reach.{Uses, Read, HeapLaws}
use Rattle.ny_heap.specs.Steps.{lacks, wants, want_of}
use Rattle.ny_heap.specs.Wanting.{NoneWanted}
use Rattle.ny_check.specs.Code.{Code}
use Rattle.ny_hands.specs.declared.branch.Branch.{Branch}
use Rattle.ny_trace.specs.Heights.{Ranks}
use Rattle.ny_walk.specs.Below.{Continues, Drives, computed_at, lack_of, missing}
use Rattle.ny_hands.proofs.OptionLemmas.{same_at, some_there}

-- the input that a unit wants
pub record Wanted {B : Type 0} (h : HeapState B) (x : Node B) (v : ℕ) : Type 0 where
  pub place : ℕ
  pub reader : Reader
  pub input : input_at x place ≡ Some reader
  pub of : reader.node ≡ v
  pub lacks : computed_at h v < taken_after h.block x.kind x.timing reader.timing (x.filled + 1)

pub taken_within : (block : ℕ) (kind : Kind) (t input : Timing) (j : ℕ) → taken_after block kind t input j ≤ input.len
unfolding taken_after
taken_within block kind t input zero = omega arith
taken_within block kind t input (suc j) = omega arith

wanted_in : {B : Type 0} (h : HeapState B) (x : Node B) (v : ℕ) (os : List (Option Reader)) → wants h x os ≡ Some v → (i : ℕ) × (r : Reader) × (get_or os i None ≡ Some r) × (r.node ≡ v) × (lacks h x (Some r) ≡ true)
wanted_in h x v [] e = cc
wanted_in h x v (None ∷ os) e = let later = wanted_in h x v os e in (suc later.0, later.1, later.2, later.3, later.4)
wanted_in h x v (Some r ∷ os) e = by_lack (λ rest. wanted_in h x v os rest) (lacks h x (Some r)) refl e
  where
    by_lack : (wants h x os ≡ Some v → (i : ℕ) × (s : Reader) × (get_or os i None ≡ Some s) × (s.node ≡ v) × (lacks h x (Some s) ≡ true)) → (b : Bool) → lacks h x (Some r) ≡ b → cond b (Some r.node) (wants h x os) ≡ Some v → (i : ℕ) × (s : Reader) × (get_or (Some r ∷ os) i None ≡ Some s) × (s.node ≡ v) × (lacks h x (Some s) ≡ true)
    by_lack more true is e = (0, r, refl, same_at (Some v) r.node v (sym e) refl, is)
    by_lack more false is e = let later = more e in (suc later.0, later.1, later.2, later.3, later.4)

pub wanted : {B : Type 0} (h : HeapState B) (u v : ℕ) (x : Node B) → node_at h u ≡ Some x → want_of h u ≡ Some v → Wanted h x v
wanted h u v x there e =
    let found = wanted_in h x v x.inputs (sym (ap (λ o. option_map_or (λ x. wants h x x.inputs) o None) there) ∙ e) in
    record { place = found.0; reader = found.1; input = found.2; of = found.3; lacks = subst (λ w. computed_at h w < taken_after h.block x.kind x.timing found.1.timing (x.filled + 1)) found.3 (ltb-true _ _ found.4) }

pub wanted_uses : {B : Type 0} (h : HeapState B) (u v : ℕ) (x : Node B) → node_at h u ≡ Some x → Wanted h x v → Uses h u v
wanted_uses h u v x there w = Read (record { unit = x; there = there; place = w.place; reader = w.reader; input = w.input; of = w.of })

-- fewer samples than the list has are computed
pub wanted_short : {B : Type 0} (h : HeapState B) → HeapLaws h → (u v : ℕ) (x y : Node B) → node_at h u ≡ Some x → node_at h v ≡ Some y → Wanted h x v → y.filled * h.block < y.timing.len
wanted_short h laws u v x y there at w =
    let sees = (laws.readers u w.place x y w.reader there w.input (subst (λ q. node_at h q ≡ Some y) (sym w.of) at)).sees in
    let need = taken_within h.block x.kind x.timing w.reader.timing (x.filled + 1) in
    omega (arith, sees, need, w.lacks, ap (λ o. option_map_or (λ y. min (y.filled * h.block) y.timing.len) o 0) at)

pub short_is_open : (block filled len : ℕ) → 0 < block → filled * block < len → filled < blocks_of block len
short_is_open block filled len some short = let fits : filled + 1 ≤ (len + (block - 1)) / block = (le-div_iff_mul-le {k = block} {x = filled + 1} {y = len + (block - 1)} some).1 (omega (arith, suc_times block filled)) in omega arith
  where
    suc_times : (b n : ℕ) → (n + 1) * b ≡ n * b + b
    suc_times b n = omega arith

pub wanted_open : {B : Type 0} (h : HeapState B) → HeapLaws h → (u v : ℕ) (x y : Node B) → node_at h u ≡ Some x → node_at h v ≡ Some y → Wanted h x v → is_open h.block y ≡ true
wanted_open h laws u v x y there at w = lt-ltb _ _ (short_is_open h.block y.filled y.timing.len laws.positive (wanted_short h laws u v x y there at w))

-- ---- less is missing

sums_fall : {A : Type 0} (f g : A → ℕ) (d : A) (xs : List A) (i : ℕ) → ((k : ℕ) → f (get_or xs k d) ≤ g (get_or xs k d)) → g d ≡ 0 → f (get_or xs i d) < g (get_or xs i d) → sum_by f xs < sum_by g xs
sums_fall f g d [] i le none lt = absurd (omega (arith, lt, none))
sums_fall f g d (x ∷ xs) zero le none lt = omega (arith, sum_by-cons f x xs, sum_by-cons g x xs, lt, sums_le xs (λ k. le (suc k)))
  where
    sums_le : (ys : List _) → ((k : ℕ) → f (get_or ys k d) ≤ g (get_or ys k d)) → sum_by f ys ≤ sum_by g ys
    sums_le [] le = omega arith
    sums_le (y ∷ ys) le = omega (arith, sum_by-cons f y ys, sum_by-cons g y ys, le 0, sums_le ys (λ k. le (suc k)))
sums_fall f g d (x ∷ xs) (suc i) le none lt = omega (arith, sum_by-cons f x xs, sum_by-cons g x xs, le 0, sums_fall f g d xs i (λ k. le (suc k)) none lt)

computed_is : {B : Type 0} (h : HeapState B) (v : ℕ) (x : Node B) → node_at h v ≡ Some x → computed_at h v ≡ min (x.filled * h.block) x.timing.len
computed_is h v x there = ap (λ o. option_map_or (λ y. min (y.filled * h.block) y.timing.len) o 0) there

computed_grows : {B : Type 0} (old new : HeapState B) (v : ℕ) (x y : Node B) → new.block ≡ old.block → node_at old v ≡ Some x → node_at new v ≡ Some y → Continues x y → computed_at old v ≤ computed_at new v
computed_grows old new v x y block there after on =
    let times = mul-le x.filled old.block y.filled new.block on.filled (omega (arith, block)) in
    omega (arith, computed_is old v x there, computed_is new v y after, times, ap (λ t. t.len) on.timing)

computed_more : {B : Type 0} (old new : HeapState B) (v : ℕ) (x y : Node B) → 0 < old.block → new.block ≡ old.block → node_at old v ≡ Some x → node_at new v ≡ Some y → y.timing ≡ x.timing → y.filled ≡ x.filled + 1 → x.filled * old.block < x.timing.len → computed_at old v < computed_at new v
computed_more old new v x y some block there after timing more short =
    let times : y.filled * new.block ≡ x.filled * old.block + old.block = (λ i. more i * block i) ∙ one_more x.filled old.block in
    omega (arith, computed_is old v x there, computed_is new v y after, times, ap (λ t. t.len) timing)
  where
    one_more : (n b : ℕ) → (n + 1) * b ≡ n * b + b
    one_more n b = omega arith

-- u stays as it is, and its input v has a block more
pub missing_falls : (code : Code) (tall : ℕ → ℕ) (old new : HeapState Branch) → HeapLaws old → (u v : ℕ) (x : Node Branch) (rank : ℕ → ℕ) → Ranks tall old rank → node_at old u ≡ Some x → Wanted old x v → Drives code tall old new v rank → missing new u < missing old u
missing_falls code tall old new laws u v x rank ranks there w drives =
    let uses = wanted_uses old u v x there w in
    let low = ranks.falls u v uses in
    let here = drives.below.same u x there (omega (arith, low)) in
    let falls = sums_fall (lack_of new x) (lack_of old x) None x.inputs w.place (λ k. each k (get_or x.inputs k None) refl low) refl (at_place low uses) in
    omega (arith, falls, ap (λ o. option_map_or (λ x. sum_by (lack_of new x) x.inputs) o 0) here.0, ap (λ o. option_map_or (λ x. sum_by (lack_of old x) x.inputs) o 0) there)
  where
    need_same : (r : Reader) → taken_after new.block x.kind x.timing r.timing (x.filled + 1) ≡ taken_after old.block x.kind x.timing r.timing (x.filled + 1)
    need_same r = ap (λ b. taken_after b x.kind x.timing r.timing (x.filled + 1)) drives.below.block

    each : (k : ℕ) (o : Option Reader) → get_or x.inputs k None ≡ o → rank v < rank u → lack_of new x (get_or x.inputs k None) ≤ lack_of old x (get_or x.inputs k None)
    each k None e low = omega (arith, ap (lack_of new x) e)
    each k (Some r) e low =
        let uses = Read (record { unit = x; there = there; place = k; reader = r; input = e; of = refl }) in
        let unit = some_there (node_at old r.node) (laws.finds u r.node uses) in
        let later = drives.below.held r.node unit.0 unit.1 (inr (record { user = u; higher = omega (arith, low); uses = uses })) in
        omega (arith, ap (lack_of new x) e, ap (lack_of old x) e, need_same r, computed_grows old new r.node unit.0 later.0 drives.below.block unit.1 later.1 later.3)

    at_place : rank v < rank u → Uses old u v → lack_of new x (get_or x.inputs w.place None) < lack_of old x (get_or x.inputs w.place None)
    at_place low uses =
        let unit = some_there (node_at old v) (laws.finds u v uses) in
        let later = drives.below.held v unit.0 unit.1 (inr (record { user = u; higher = omega (arith, low); uses = uses })) in
        let more = computed_more old new v unit.0 later.0 laws.positive drives.below.block unit.1 later.1 later.3.timing (drives.more unit.0 later.0 unit.1 later.1) (wanted_short old laws u v x unit.0 there unit.1 w) in
        omega (arith, ap (lack_of new x) w.input, ap (lack_of old x) w.input, need_same w.reader, more, ap (computed_at old) w.of, ap (computed_at new) w.of, w.lacks)

-- an input that is computed far enough stays so
pub none_wanted_on : (code : Code) (tall : ℕ → ℕ) (old new : HeapState Branch) → HeapLaws old → (u v place : ℕ) (x : Node Branch) (rank : ℕ → ℕ) → Ranks tall old rank → node_at old u ≡ Some x → Wanted old x v → Drives code tall old new v rank → NoneWanted old u place → NoneWanted new u place
none_wanted_on code tall old new laws u v place x rank ranks there w drives none y at k less =
    let low = ranks.falls u v (wanted_uses old u v x there w) in
    let here = drives.below.same u x there (omega (arith, low)) in
    let same : x ≡ y = same_at (node_at new u) x y here.0 at in
    subst (λ (z : Node Branch). lacks new z (input_at z k) ≡ false) same (each (get_or x.inputs k None) refl low (none x there k less))
  where
    each : (o : Option Reader) → get_or x.inputs k None ≡ o → rank v < rank u → lacks old x (get_or x.inputs k None) ≡ false → lacks new x (get_or x.inputs k None) ≡ false
    each None e low fits = ap (lacks new x) e
    each (Some r) e low fits = ap (lacks new x) e ∙ by_test (lacks new x (Some r)) refl
      where
        unit : (z : Node Branch) × (node_at old r.node ≡ Some z)
        unit = some_there (node_at old r.node) (laws.finds u r.node (Read (record { unit = x; there = there; place = k; reader = r; input = e; of = refl })))

        grows : computed_at old r.node ≤ computed_at new r.node
        grows = let later = drives.below.held r.node unit.0 unit.1 (inr (record { user = u; higher = omega (arith, low); uses = Read (record { unit = x; there = there; place = k; reader = r; input = e; of = refl }) })) in computed_grows old new r.node unit.0 later.0 drives.below.block unit.1 later.1 later.3

        need : taken_after new.block x.kind x.timing r.timing (x.filled + 1) ≡ taken_after old.block x.kind x.timing r.timing (x.filled + 1)
        need = ap (λ b. taken_after b x.kind x.timing r.timing (x.filled + 1)) drives.below.block

        apart : true ≡ false → ⊥
        apart q = cc

        by_test : (t : Bool) → lacks new x (Some r) ≡ t → lacks new x (Some r) ≡ false
        by_test false is = is
        by_test true is = absurd (apart (sym (lt-ltb (computed_at old r.node) (taken_after old.block x.kind x.timing r.timing (x.filled + 1)) (omega (arith, ltb-true _ _ is, grows, need))) ∙ (sym (ap (lacks old x) e) ∙ fits)))
