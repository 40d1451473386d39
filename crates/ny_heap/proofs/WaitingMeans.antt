-- What parts that wait add to a mix: nothing before the place that the first of them follows, and the same wherever the lists that they
-- captured are the same.
use Rattle.std.proofs.Common.{◌≡◌, ◌⊎◌, inl, inr, ℕ, suc, ◌+◌, ◌-◌, ◌*◌, ◌/◌, ◌<◌, ◌≤◌, max, Bool, true, false, cond, nat_le, leb-true, List, [], ◌∷◌, ◌++◌, length, map, get_or, take, Option, None, Some, IsSome, refl, sym, ap, subst, ◌∙◌, arith, ℤ, pos}
use Rattle.std.specs.Prelude.{slice_get}
use Rattle.ny_num.specs.Numbers.{sample_add}
use Rattle.ny_num.specs.declared.rate.Rate.{Rate}
use Rattle.ny_num.specs.declared.rate.Rate.TheVariants.{R2205, R4410, R8000, R11025, R16000, R22050, R32000, R44100, R48000}
use Rattle.ny_num.specs.declared.timing.Timing.{Timing}
use Rattle.ny_num.specs.Grid.{index_at, tick_at, grid_of}
use Rattle.ny_num.specs.Sound as sounds
use Rattle.ny_num.specs.Sound.{value_at, placed}
use Rattle.ny_mix.proofs.Sums.{add_nothing}
use Rattle.ny_heap.specs.Heap.{Reader, Captured, Waiting, Node, HeapState, node_at}
use Rattle.ny_heap.specs.Means.{Parts, Whole, Extends, sound_in, input_sound, captured_sound, sum_heard, parts_from, following, stop_after, all_inputs}
use Rattle.ny_heap.specs.Reach.{Uses, Read, Hold}
use Rattle.ny_heap.specs.Steps.{IsSettledUnit}
use Rattle.ny_heap.proofs.PartLemmas.{AddNothing}

-- ---- a part that waits starts no earlier than the index of the stop before it

grid_some : (r : Rate) → 0 < grid_of r
grid_some R2205 = omega arith
grid_some R4410 = omega arith
grid_some R8000 = omega arith
grid_some R11025 = omega arith
grid_some R16000 = omega arith
grid_some R22050 = omega arith
grid_some R32000 = omega arith
grid_some R44100 = omega arith
grid_some R48000 = omega arith

index_from : (g n t : ℕ) → 0 < g → n * g ≤ t → n ≤ (t + g / 2) / g
index_from g n t some le = grind (arith, le, some)

-- a stop at or after the time of an index has this index or a later one
pub index_of_stop : (r : Rate) (n stop : ℕ) → tick_at n r ≤ stop → n ≤ index_at stop r
unfolding tick_at index_at
index_of_stop r n stop le = index_from (grid_of r) n stop (grid_some r) le

starts_from : (r : Rate) (stop : ℕ) (s : sounds.Sound) (n : ℕ) → n ≤ index_at stop r → (n ≤ (following r stop s).start) × (n ≤ index_at (following r stop s).stop r)
unfolding placed tick_at index_at
starts_from r stop s n le =
    let start = max s.start (index_at stop r) in
    let first : n ≤ start = omega (arith, le) in
    let product : n * grid_of r ≤ start * grid_of r = grind (arith, first) in
    (first, index_from (grid_of r) n (max s.stop (start * grid_of r)) (grid_some r) (omega (arith, product)))

value_before : (s : sounds.Sound) (m : ℕ) → m < s.start → value_at s m ≡ pos 0
unfolding value_at
value_before s m before = by_test (nat_le s.start m) refl
  where
    by_test : (b : Bool) → nat_le s.start m ≡ b → cond b (get_or s.samples (m - s.start) (pos 0)) (pos 0) ≡ pos 0
    by_test true e = absurd (omega (arith, leb-true s.start m e, before))
    by_test false e = refl

-- each of these is 0 at an index
abbrev pub AreSilent : ℕ → List sounds.Sound → Type 0
AreSilent m [] = Unit {0}
AreSilent m (s ∷ ss) = (value_at s m ≡ pos 0) × AreSilent m ss

-- so are all parts that wait, before the index of the stop that the first of them follows, whatever they are
pub waiting_silent : {B : Type 0} (part : Parts B) (samples : ℕ → List ℤ) (r : Rate) (stop n m : ℕ) (ws : List (Waiting B)) → n ≤ index_at stop r → m < n → AreSilent m (parts_from part samples r stop ws)
waiting_silent part samples r stop n m [] le before = tt
waiting_silent part samples r stop n m (w ∷ ws) le before =
    let s = part w.branch (map (captured_sound samples) w.captured) stop in
    let from = starts_from r stop s n le in
    (value_before (following r stop s) m (omega (arith, from.0, before)), waiting_silent part samples r (following r stop s).stop n m ws from.1 before)

-- what is silent adds nothing to a sum
silent_nothing : (m : ℕ) (ss : List sounds.Sound) → AreSilent m ss → AddNothing (map Some ss) m
silent_nothing m [] silent v is = refl
silent_nothing m (s ∷ ss) silent v is =
    ap (λ x. sum_heard (sample_add v x) (map Some ss) m) silent.0 ∙ ap (λ x. sum_heard x (map Some ss) m) (add_nothing v is) ∙ silent_nothing m ss silent.1 v is

none_owed : {A : Type 0} (xs : List A) → length xs ≡ 0 → xs ≡ []
none_owed [] e = refl
none_owed (x ∷ xs) e = absurd (omega (arith, e))

-- what a settled unit hears beside its inputs adds nothing up to the end of its next block
pub settled_quiet : {B : Type 0} (part : Parts B) (w : Whole) (block u : ℕ) (x : Node B) → length (w.owed u) ≡ x.pending → IsSettledUnit block x → (m : ℕ) → m < x.timing.start + (x.filled + 1) * block
    → AddNothing (map Some (w.owed u) ++ map Some (parts_from part w.samples x.timing.rate (stop_after x.last_stop (w.owed u)) x.waiting)) m
settled_quiet {B} part w block u x owed settled m before =
    subst (λ (ss : List sounds.Sound). AddNothing (map Some ss ++ map Some (parts_from part w.samples x.timing.rate (stop_after x.last_stop ss) x.waiting)) m) (sym (none_owed (w.owed u) (owed ∙ settled.0)))
    (silent_nothing m (parts_from part w.samples x.timing.rate x.last_stop x.waiting) (by_due settled.1))
  where
    by_due : (x.waiting ≡ []) ⊎ (x.timing.start + (x.filled + 1) * block ≤ index_at x.last_stop x.timing.rate) → AreSilent m (parts_from part w.samples x.timing.rate x.last_stop x.waiting)
    by_due (inl none) = subst (λ (ws : List (Waiting B)). AreSilent m (parts_from part w.samples x.timing.rate x.last_stop ws)) (sym none) tt
    by_due (inr still) = waiting_silent part w.samples x.timing.rate x.last_stop (x.timing.start + (x.filled + 1) * block) m x.waiting still before

-- ---- what is read is the same where its lists are

module _ (old new : ℕ → List ℤ) where
  input_stable : (o : Option Reader) → ((r : Reader) → o ≡ Some r → new r.node ≡ old r.node) → input_sound new o ≡ input_sound old o
  input_stable None same = refl
  input_stable (Some r) same = ap (λ (xs : List ℤ). let s : sounds.Sound = record { rate = r.timing.rate; start = r.timing.start; stop = r.timing.stop; samples = take r.timing.len xs } in Some s) (same r refl)

  pub inputs_stable : (os : List (Option Reader)) → ((i : ℕ) (r : Reader) → get_or os i None ≡ Some r → new r.node ≡ old r.node) → map (input_sound new) os ≡ map (input_sound old) os
  inputs_stable [] same = refl
  inputs_stable (o ∷ os) same = λ i. input_stable o (same 0) i ∷ inputs_stable os (λ k. same (suc k)) i

  sound_stable : (o : Option ℕ) (t : Timing) → ((n : ℕ) → o ≡ Some n → new n ≡ old n) → sound_in new o t ≡ sound_in old o t
  sound_stable None t same = refl
  sound_stable (Some n) t same = ap (λ (xs : List ℤ). let s : sounds.Sound = record { rate = t.rate; start = t.start; stop = t.stop; samples = take t.len xs } in s) (same n refl)

  captured_stable : (cs : List Captured) → ((i n : ℕ) (c : Captured) → slice_get cs i ≡ Some c → c.node ≡ Some n → new n ≡ old n) → map (captured_sound new) cs ≡ map (captured_sound old) cs
  captured_stable [] same = refl
  captured_stable (c ∷ cs) same = λ i. sound_stable c.node c.timing (λ n e. same 0 n c refl e) i ∷ captured_stable cs (λ k. same (suc k)) i

  -- parts that wait are what they were
  pub parts_stable : {B : Type 0} (part : Parts B) (r : Rate) (stop : ℕ) (ws : List (Waiting B)) → ((i j n : ℕ) (p : Waiting B) (c : Captured) → slice_get ws i ≡ Some p → slice_get p.captured j ≡ Some c → c.node ≡ Some n → new n ≡ old n) → parts_from part new r stop ws ≡ parts_from part old r stop ws
  parts_stable part r stop [] same = refl
  parts_stable part r stop (w ∷ ws) same =
      let first : following r stop (part w.branch (map (captured_sound new) w.captured) stop) ≡ following r stop (part w.branch (map (captured_sound old) w.captured) stop) = ap (λ cs. following r stop (part w.branch cs stop)) (captured_stable w.captured (λ j n c. same 0 j n w c refl)) in
      (λ i. first i ∷ parts_from part new r (first i).stop ws)
      ∙ ap (λ rest. following r stop (part w.branch (map (captured_sound old) w.captured) stop) ∷ rest) (parts_stable part r (following r stop (part w.branch (map (captured_sound old) w.captured) stop)).stop ws (λ k. same (suc k)))

-- what a unit hears is the same, where the lists that were there are, and it is owed what it was
pub all_inputs_stable : {B : Type 0} (part : Parts B) (h : HeapState B) → ((u v : ℕ) → Uses h u v → IsSome (node_at h v)) → (w later : Whole) → Extends h w later → (u : ℕ) (x : Node B) → node_at h u ≡ Some x → later.owed u ≡ w.owed u → all_inputs part later u x ≡ all_inputs part w u x
all_inputs_stable {B} part h finds w later extends u x there owed = λ i.
    inputs_stable w.samples later.samples x.inputs reads i ++ (map Some (owed i) ++ map Some (waits i))
  where
    there_still : (v : ℕ) → Uses h u v → later.samples v ≡ w.samples v
    there_still v uses = by_node (node_at h v) refl (finds u v uses)
      where
        by_node : (o : Option (Node B)) → node_at h v ≡ o → IsSome o → later.samples v ≡ w.samples v
        by_node None e some = cc
        by_node (Some y) e some = extends v y e

    reads : (i : ℕ) (r : Reader) → get_or x.inputs i None ≡ Some r → later.samples r.node ≡ w.samples r.node
    reads i r e = there_still r.node (Read (record { unit = x; there = there; place = i; reader = r; input = e; of = refl }))

    waits : parts_from part later.samples x.timing.rate (stop_after x.last_stop (later.owed u)) x.waiting ≡ parts_from part w.samples x.timing.rate (stop_after x.last_stop (w.owed u)) x.waiting
    waits =
        parts_stable w.samples later.samples part x.timing.rate (stop_after x.last_stop (later.owed u)) x.waiting
        (λ i j n p c at one of. there_still n (Hold (record { unit = x; there = there; place = i; part = p; waits = at; position = j; captured = c; one = one; of = of })))
        ∙ ap (λ stop. parts_from part w.samples x.timing.rate stop x.waiting) (ap (stop_after x.last_stop) owed)
