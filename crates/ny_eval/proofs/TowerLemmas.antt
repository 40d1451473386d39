-- How high a unit stands at least: above what it reads, and, where a part waits, above what that keeps with room for what it will make.
use Rattle.std.proofs.Common.{◌≡◌, ℕ, zero, suc, ◌+◌, ◌<◌, ◌≤◌, max, List, [], ◌∷◌, get_or, slice_get, Option, None, Some, length, refl, ap, ◌∙◌, arith}
use Rattle.std.specs.Option.{option_map_or}
use Rattle.ny_heap.specs.Heap.{Reader, Captured, Waiting, Node, HeapState, node_at}
use Rattle.ny_heap.specs.Reach.{Uses, Read, Hold, HeapLaws}
use Rattle.ny_hands.specs.declared.branch.Branch.{Branch}
use Rattle.ny_hands.proofs.OptionLemmas.{same_at}
use Rattle.ny_trace.specs.Heights.{Ranks}
use Rattle.ny_walk.specs.Below.{IsRanked}
use Rattle.ny_eval.proofs.RankLemmas.{compressed, compressed_falls, compressed_within}

module _ (tall : ℕ → ℕ) where
  -- above what inputs read
  abbrev pub over_inputs : (ℕ → ℕ) → List (Option Reader) → ℕ
  over_inputs f [] = 0
  over_inputs f (o ∷ os) = max (option_map_or (λ (r : Reader). f r.node + 1) o 0) (over_inputs f os)

  abbrev pub over_captured : (ℕ → ℕ) → List Captured → ℕ
  over_captured f [] = 0
  over_captured f (c ∷ cs) = max (option_map_or (λ n. f n + 1) c.node 0) (over_captured f cs)

  -- above the parts that wait
  abbrev pub over_parts : (ℕ → ℕ) → List (Waiting Branch) → ℕ
  over_parts f [] = 0
  over_parts f (p ∷ ps) = max (over_captured f p.captured + tall p.branch.expr.0 + 1) (over_parts f ps)

  abbrev pub over : (ℕ → ℕ) → Node Branch → ℕ
  over f x = max (over_inputs f x.inputs) (over_parts f x.waiting)

  -- no more than so many steps down
  abbrev pub tower_in : HeapState Branch → ℕ → ℕ → ℕ
  tower_in h zero u = 0
  tower_in h (suc n) u = option_map_or (over (tower_in h n)) (node_at h u) 0

  abbrev pub tower : HeapState Branch → ℕ → ℕ
  tower h u = tower_in h (length h.nodes) u

  -- ---- each list

  input_under : (f : ℕ → ℕ) (os : List (Option Reader)) (i : ℕ) (r : Reader) → get_or os i None ≡ Some r → f r.node < over_inputs f os
  input_under f [] i r e = cc
  input_under f (o ∷ os) zero r e = omega (arith, ap (λ q. option_map_or (λ (r : Reader). f r.node + 1) q 0) e)
  input_under f (o ∷ os) (suc i) r e = omega (arith, input_under f os i r e)

  inputs_most : (f : ℕ → ℕ) (os : List (Option Reader)) (b : ℕ) → ((i : ℕ) (r : Reader) → get_or os i None ≡ Some r → f r.node < b) → over_inputs f os ≤ b
  inputs_most f [] b low = omega arith
  inputs_most f (None ∷ os) b low = omega (arith, inputs_most f os b (λ i r e. low (suc i) r e))
  inputs_most f (Some r ∷ os) b low = omega (arith, low 0 r refl, inputs_most f os b (λ i r e. low (suc i) r e))

  inputs_same : (f g : ℕ → ℕ) (os : List (Option Reader)) → ((i : ℕ) (r : Reader) → get_or os i None ≡ Some r → f r.node ≡ g r.node) → over_inputs f os ≡ over_inputs g os
  inputs_same f g [] same = refl
  inputs_same f g (None ∷ os) same = omega (arith, inputs_same f g os (λ i r e. same (suc i) r e))
  inputs_same f g (Some r ∷ os) same = omega (arith, same 0 r refl, inputs_same f g os (λ i r e. same (suc i) r e))

  captured_under : (f : ℕ → ℕ) (cs : List Captured) (i : ℕ) (c : Captured) (n : ℕ) → slice_get cs i ≡ Some c → c.node ≡ Some n → f n < over_captured f cs
  captured_under f [] i c n e is = cc
  captured_under f (d ∷ cs) zero c n e is =
      let same : d ≡ c = same_at (Some d) d c refl e in
      omega (arith, ap (λ (q : Captured). option_map_or (λ n. f n + 1) q.node 0) same, ap (λ o. option_map_or (λ n. f n + 1) o 0) is)
  captured_under f (d ∷ cs) (suc i) c n e is = omega (arith, captured_under f cs i c n e is)

  one_captured : (f : ℕ → ℕ) (o : Option ℕ) (b : ℕ) → ((n : ℕ) → o ≡ Some n → f n < b) → option_map_or (λ n. f n + 1) o 0 ≤ b
  one_captured f None b low = omega arith
  one_captured f (Some n) b low = omega (arith, low n refl)

  captured_most : (f : ℕ → ℕ) (cs : List Captured) (b : ℕ) → ((i : ℕ) (c : Captured) (n : ℕ) → slice_get cs i ≡ Some c → c.node ≡ Some n → f n < b) → over_captured f cs ≤ b
  captured_most f [] b low = omega arith
  captured_most f (d ∷ cs) b low = omega (arith, one_captured f d.node b (λ n is. low 0 d n refl is), captured_most f cs b (λ i c n e is. low (suc i) c n e is))

  one_same : (f g : ℕ → ℕ) (o : Option ℕ) → ((n : ℕ) → o ≡ Some n → f n ≡ g n) → option_map_or (λ n. f n + 1) o 0 ≡ option_map_or (λ n. g n + 1) o 0
  one_same f g None same = refl
  one_same f g (Some n) same = omega (arith, same n refl)

  captured_same : (f g : ℕ → ℕ) (cs : List Captured) → ((i : ℕ) (c : Captured) (n : ℕ) → slice_get cs i ≡ Some c → c.node ≡ Some n → f n ≡ g n) → over_captured f cs ≡ over_captured g cs
  captured_same f g [] same = refl
  captured_same f g (d ∷ cs) same = omega (arith, one_same f g d.node (λ n is. same 0 d n refl is), captured_same f g cs (λ i c n e is. same (suc i) c n e is))

  part_under : (f : ℕ → ℕ) (ps : List (Waiting Branch)) (i : ℕ) (p : Waiting Branch) → slice_get ps i ≡ Some p → over_captured f p.captured + tall p.branch.expr.0 < over_parts f ps
  part_under f [] i p e = cc
  part_under f (q ∷ ps) zero p e =
      let same : q ≡ p = same_at (Some q) q p refl e in
      omega (arith, ap (λ (w : Waiting Branch). over_captured f w.captured + tall w.branch.expr.0) same)
  part_under f (q ∷ ps) (suc i) p e = omega (arith, part_under f ps i p e)

  parts_most : (f : ℕ → ℕ) (ps : List (Waiting Branch)) (b : ℕ) → ((i : ℕ) (p : Waiting Branch) → slice_get ps i ≡ Some p → over_captured f p.captured + tall p.branch.expr.0 < b) → over_parts f ps ≤ b
  parts_most f [] b low = omega arith
  parts_most f (q ∷ ps) b low = omega (arith, low 0 q refl, parts_most f ps b (λ i p e. low (suc i) p e))

  parts_same : (f g : ℕ → ℕ) (ps : List (Waiting Branch)) → ((i : ℕ) (p : Waiting Branch) → slice_get ps i ≡ Some p → over_captured f p.captured ≡ over_captured g p.captured) → over_parts f ps ≡ over_parts g ps
  parts_same f g [] same = refl
  parts_same f g (q ∷ ps) same = omega (arith, same 0 q refl, parts_same f g ps (λ i p e. same (suc i) p e))

  -- ---- steps down

  module _ (h : HeapState Branch) (laws : HeapLaws h) where
    used : (u : ℕ) (x : Node Branch) → node_at h u ≡ Some x → (i : ℕ) (r : Reader) → get_or x.inputs i None ≡ Some r → Uses h u r.node
    used u x there i r e = Read (record { unit = x; there = there; place = i; reader = r; input = e; of = refl })

    kept : (u : ℕ) (x : Node Branch) → node_at h u ≡ Some x → (k : ℕ) (p : Waiting Branch) → slice_get x.waiting k ≡ Some p → (i : ℕ) (c : Captured) (n : ℕ) → slice_get p.captured i ≡ Some c → c.node ≡ Some n → Uses h u n
    kept u x there k p waits i c n one of = Hold (record { unit = x; there = there; place = k; part = p; waits = waits; position = i; captured = c; one = one; of = of })

    over_same : (f g : ℕ → ℕ) (u : ℕ) (x : Node Branch) → node_at h u ≡ Some x → ((v : ℕ) → Uses h u v → f v ≡ g v) → over f x ≡ over g x
    over_same f g u x there same =
        omega (
          arith,
          inputs_same f g x.inputs (λ i r e. same r.node (used u x there i r e)),
          parts_same f g x.waiting (λ k p waits. captured_same f g p.captured (λ i c n one of. same n (kept u x there k p waits i c n one of))),
        )

    -- so many steps are enough as the unit has units below it
    enough : (n m u : ℕ) → compressed h laws u < n → compressed h laws u < m → tower_in h n u ≡ tower_in h m u
    enough zero m u less more = absurd (omega (arith, less))
    enough (suc n) zero u less more = absurd (omega (arith, more))
    enough (suc n) (suc m) u less more = by_node (λ v uses. enough n m v (below v uses n less) (below v uses m more)) (node_at h u) refl
      where
        below : (v : ℕ) → Uses h u v → (k : ℕ) → compressed h laws u < suc k → compressed h laws v < k
        below v uses k le = omega (arith, compressed_falls h laws u v uses, le)

        by_node : ((v : ℕ) → Uses h u v → tower_in h n v ≡ tower_in h m v) → (o : Option (Node Branch)) → node_at h u ≡ o → option_map_or (over (tower_in h n)) o 0 ≡ option_map_or (over (tower_in h m)) o 0
        by_node lower None e = refl
        by_node lower (Some x) e = over_same (tower_in h n) (tower_in h m) u x e lower

    -- it is above what it uses
    tower_is : (u : ℕ) (x : Node Branch) → node_at h u ≡ Some x → tower h u ≡ over (tower h) x
    tower_is u x there =
        enough (length h.nodes) (suc (length h.nodes)) u (compressed_within h laws u x there) (omega (arith, compressed_within h laws u x there))
        ∙ ap (λ o. option_map_or (over (tower h)) o 0) there

    tower_falls : (u v : ℕ) → Uses h u v → tower h v < tower h u
    tower_falls u v (Read r) =
        let under = input_under (tower h) r.unit.inputs r.place r.reader r.input in
        omega (arith, under, tower_is u r.unit r.there, ap (tower h) r.of)
    tower_falls u v (Hold r) =
        let part = part_under (tower h) r.unit.waiting r.place r.part r.waits in
        let under = captured_under (tower h) r.part.captured r.position r.captured v r.one r.of in
        omega (arith, part, under, tower_is u r.unit r.there)

    pub tower_ranks : Ranks tall h (tower h)
    tower_ranks = record {
      falls = tower_falls;
      room = λ u x i p there waits.
          record {
            base = over_captured (tower h) p.captured;
            captured = λ k c n one of. captured_under (tower h) p.captured k c n one of;
            room = omega (arith, part_under (tower h) x.waiting i p waits, tower_is u x there);
          };
    }

    pub tower_ranked : (u : ℕ) → IsRanked tall h u (tower h u + 1)
    tower_ranked u = record { rank = tower h; ranks = tower_ranks; within = omega arith }

  -- no order has it lower
  tower_low : (h : HeapState Branch) (rank : ℕ → ℕ) → Ranks tall h rank → (n u : ℕ) → tower_in h n u ≤ rank u
  tower_low h rank ranks zero u = omega arith
  tower_low h rank ranks (suc n) u = by_node (λ v. tower_low h rank ranks n v) (node_at h u) refl
    where
      by_node : ((v : ℕ) → tower_in h n v ≤ rank v) → (o : Option (Node Branch)) → node_at h u ≡ o → option_map_or (over (tower_in h n)) o 0 ≤ rank u
      by_node lower None e = omega arith
      by_node lower (Some x) e = omega (arith, inputs, parts)
        where
          inputs : over_inputs (tower_in h n) x.inputs ≤ rank u
          inputs = inputs_most (tower_in h n) x.inputs (rank u) (λ i r is. omega (arith, lower r.node, ranks.falls u r.node (Read (record { unit = x; there = e; place = i; reader = r; input = is; of = refl }))))

          parts : over_parts (tower_in h n) x.waiting ≤ rank u
          parts = parts_most (tower_in h n) x.waiting (rank u) (λ k p waits.
              let room = ranks.room u x k p e waits in
              omega (arith, room.room, captured_most (tower_in h n) p.captured room.base (λ i c m one of. omega (arith, lower m, room.captured i c m one of))))

  pub tower_lowest : (h : HeapState Branch) (rank : ℕ → ℕ) → Ranks tall h rank → (u : ℕ) → tower h u ≤ rank u
  tower_lowest h rank ranks u = tower_low h rank ranks (length h.nodes) u
