-- Heaps of the same units, whatever samples are kept and whatever units keep of what they have passed: they want the same, have as many
-- blocks free, and are filled alike.
use Rattle.std.proofs.Common.{◌≡◌, inl, inr, ℕ, zero, suc, ◌+◌, ◌-◌, ◌<◌, nat_lt, if◌then◌else◌, List, [], ◌∷◌, map, get_or, slice_get, slice_index, Option, None, Some, sum, sum_by, refl, sym, ap, subst, ◌∙◌, arith}
use Rattle.std.proofs.lemmas.Bool.{cases_eq}
use Rattle.std.proofs.lemmas.List.Sums.{sum_by-cons}
use Rattle.std.specs.Option.{option_map, option_map_or}
use Rattle.ny_heap.specs.Heap.{Reader, Memory, Nothing, Node, HeapState, node_at, input_at, blocks_of, taken_after, computed_of, own_in, readers_in, first_read, kept_of, kept_from, free_of}
use Rattle.ny_heap.specs.Reach.{Uses, Read, Hold, LeadsIn, IsReachable, HeapLaws, IsTrimmed}
use Rattle.ny_heap.specs.Steps.{Fills, filled_node, moved, lacks, wants, want_of}
use Rattle.ny_hands.proofs.OptionLemmas.{some_same}

-- a unit, whatever it keeps of what it has passed
abbrev pub plain : {B : Type 0} → Node B → Node B
plain x = record x { memory = Nothing }

pub record AreTwins {B : Type 0} (a b : HeapState B) : Type 0 where
  pub pool : a.pool ≡ b.pool
  pub block : a.block ≡ b.block
  pub units : (v : ℕ) → option_map plain (node_at a v) ≡ option_map plain (node_at b v)

pub twins_none : {B : Type 0} (h : HeapState B) → AreTwins h h
twins_none h = record { pool = refl; block = refl; units = λ v. refl }

pub twins_turned : {B : Type 0} (a b : HeapState B) → AreTwins a b → AreTwins b a
twins_turned a b like = record { pool = sym like.pool; block = sym like.block; units = λ v. sym (like.units v) }

-- what is there in one is there in the other
pub like_at : {B : Type 0} (a b : HeapState B) → AreTwins a b → (v : ℕ) (x : Node B) → node_at a v ≡ Some x → (y : Node B) × (node_at b v ≡ Some y) × (plain x ≡ plain y)
like_at {B} a b like v x there = by_node (node_at b v) refl (sym (ap (option_map plain) there) ∙ like.units v)
  where
    by_node : (o : Option (Node B)) → node_at b v ≡ o → Some (plain x) ≡ option_map plain (node_at b v) → (y : Node B) × (node_at b v ≡ Some y) × (plain x ≡ plain y)
    by_node None e p = absurd (never (p ∙ ap (option_map plain) e))
      where
        never : Some (plain x) ≡ None → ⊥
        never q = cc
    by_node (Some y) e p = (y, e, some_same (plain x) (plain y) (p ∙ ap (option_map plain) e))

-- what does not see the memory is the same of both
through : {A B : Type 0} (f : Node B → A) (d : A) (o p : Option (Node B)) → ((x : Node B) → f (plain x) ≡ f x) → option_map plain o ≡ option_map plain p → option_map_or f o d ≡ option_map_or f p d
through {A} {B} f d o p plainly e = sym (alone o) ∙ (ap (λ q. option_map_or f q d) e ∙ alone p)
  where
    alone : (o : Option (Node B)) → option_map_or f (option_map plain o) d ≡ option_map_or f o d
    alone None = refl
    alone (Some x) = plainly x

-- ---- what units want

computed_like : {B : Type 0} (a b : HeapState B) → AreTwins a b → (v : ℕ) → option_map_or (computed_of a.block) (node_at a v) 0 ≡ option_map_or (computed_of b.block) (node_at b v) 0
computed_like a b like v =
    through (computed_of a.block) 0 (node_at a v) (node_at b v) (λ x. refl) (like.units v) ∙ ap (λ n. option_map_or (computed_of n) (node_at b v) 0) like.block

wants_like : {B : Type 0} (a b : HeapState B) → AreTwins a b → (x : Node B) (os : List (Option Reader)) → wants a x os ≡ wants b x os
wants_like {B} a b like x [] = refl
wants_like {B} a b like x (o ∷ os) = λ i. if lacks_like o i then option_map (λ (r : Reader). r.node) o else wants_like a b like x os i
  where
    lacks_like : (o : Option Reader) → lacks a x o ≡ lacks b x o
    lacks_like None = refl
    lacks_like (Some r) = λ i. nat_lt (computed_like a b like r.node i) (taken_after (like.block i) x.kind x.timing r.timing (x.filled + 1))

wants_plain : {B : Type 0} (h : HeapState B) (x : Node B) (os : List (Option Reader)) → wants h (plain x) os ≡ wants h x os
wants_plain h x [] = refl
wants_plain h x (None ∷ os) = wants_plain h x os
wants_plain h x (Some r ∷ os) = λ i. if lacks h x (Some r) then Some r.node else wants_plain h x os i

pub want_like : {B : Type 0} (a b : HeapState B) → AreTwins a b → (u : ℕ) → want_of a u ≡ want_of b u
want_like a b like u =
    through (λ x. wants a x x.inputs) None (node_at a u) (node_at b u) (λ x. wants_plain a x x.inputs) (like.units u)
    ∙ (λ i. option_map_or (λ x. wants_like a b like x x.inputs i) (node_at b u) None)

-- ---- how many blocks are free

units_like : {B : Type 0} (a b : HeapState B) → AreTwins a b → (k : ℕ) → option_map plain (get_or a.nodes k None) ≡ option_map plain (get_or b.nodes k None)
units_like a b like k = like.units k

none_like : {B : Type 0} (o : Option (Node B)) → option_map plain None ≡ option_map plain o → o ≡ None
none_like None e = refl
none_like (Some x) e = cc

sum_like : {B : Type 0} (f : Option (Node B) → ℕ) (os ps : List (Option (Node B))) → f None ≡ 0 → ((o p : Option (Node B)) → option_map plain o ≡ option_map plain p → f o ≡ f p) → ((k : ℕ) → option_map plain (get_or os k None) ≡ option_map plain (get_or ps k None)) → sum_by f os ≡ sum_by f ps
sum_like f [] [] none same like = refl
sum_like f [] (p ∷ ps) none same like = omega (arith, sum_by-cons f p ps, none, same None p (like 0), sum_like f [] ps none same (λ k. like (suc k)))
sum_like f (o ∷ os) [] none same like = omega (arith, sum_by-cons f o os, none, same o None (like 0), sum_like f os [] none same (λ k. like (suc k)))
sum_like f (o ∷ os) (p ∷ ps) none same like = omega (arith, sum_by-cons f o os, sum_by-cons f p ps, same o p (like 0), sum_like f os ps none same (λ k. like (suc k)))

readers_like : {B : Type 0} (a b : HeapState B) → AreTwins a b → (v : ℕ) (x : Node B) (j : ℕ) → readers_in a v x j ≡ readers_in b v x j
readers_like {B} a b like v x j = λ i. slice_index x.outside j + (first i)
  where
    first : sum_by (λ o. option_map_or (own_in a.block x.timing.len v j) o 0) a.nodes ≡ sum_by (λ o. option_map_or (own_in b.block x.timing.len v j) o 0) b.nodes
    first =
        sum_like (λ o. option_map_or (own_in a.block x.timing.len v j) o 0) a.nodes b.nodes refl (λ o p e. through (own_in a.block x.timing.len v j) 0 o p (λ x. refl) e) (units_like a b like)
        ∙ (λ i. sum_by (λ o. option_map_or (own_in (like.block i) x.timing.len v j) o 0) b.nodes)

kept_like : {B : Type 0} (a b : HeapState B) → AreTwins a b → (v : ℕ) (o p : Option (Node B)) → option_map plain o ≡ option_map plain p → kept_of a v o ≡ kept_of b v p
kept_like {B} a b like v o p e = of_both o ∙ (sym (alone o) ∙ (ap (kept_of b v) e ∙ alone p))
  where
    alone : (o : Option (Node B)) → kept_of b v (option_map plain o) ≡ kept_of b v o
    alone None = refl
    alone (Some x) = refl

    of_both : (o : Option (Node B)) → kept_of a v o ≡ kept_of b v o
    of_both None = refl
    of_both (Some x) = λ i. x.filled - first_read (λ j. readers_like a b like v x j i) 0 x.filled

live_like : {B : Type 0} (a b : HeapState B) → AreTwins a b → (v : ℕ) (os ps : List (Option (Node B))) → ((k : ℕ) → option_map plain (get_or os k None) ≡ option_map plain (get_or ps k None)) → kept_from a v os ≡ kept_from b v ps
live_like a b like v [] [] e = refl
live_like a b like v [] (p ∷ ps) e = omega (arith, kept_like a b like v None p (e 0), live_like a b like (suc v) [] ps (λ k. e (suc k)))
live_like a b like v (o ∷ os) [] e = omega (arith, kept_like a b like v o None (e 0), live_like a b like (suc v) os [] (λ k. e (suc k)))
live_like a b like v (o ∷ os) (p ∷ ps) e = omega (arith, kept_like a b like v o p (e 0), live_like a b like (suc v) os ps (λ k. e (suc k)))

pub free_like : {B : Type 0} (a b : HeapState B) → AreTwins a b → free_of a ≡ free_of b
free_like a b like = λ i. like.pool i - live_like a b like 0 a.nodes b.nodes (units_like a b like) i

-- ---- what is reached

uses_like : {B : Type 0} (a b : HeapState B) → AreTwins a b → (u v : ℕ) → Uses a u v → Uses b u v
uses_like a b like u v (Read r) =
    let y = like_at a b like u r.unit r.there in
    Read (record { unit = y.0; there = y.1; place = r.place; reader = r.reader; input = sym (ap (λ x. input_at x r.place) y.2) ∙ r.input; of = r.of })
uses_like a b like u v (Hold r) =
    let y = like_at a b like u r.unit r.there in
    Hold (record { unit = y.0; there = y.1; place = r.place; part = r.part; waits = sym (ap (λ x. slice_get x.waiting r.place) y.2) ∙ r.waits; position = r.position; captured = r.captured; one = r.one; of = r.of })

leads_like : {B : Type 0} (a b : HeapState B) → AreTwins a b → (n u v : ℕ) → LeadsIn a n u v → LeadsIn b n u v
leads_like a b like zero u v walk = walk
leads_like a b like (suc n) u v walk = (walk.0, uses_like a b like u walk.0 walk.1, leads_like a b like n walk.0 v walk.2)

reached_like : {B : Type 0} (a b : HeapState B) → AreTwins a b → (v : ℕ) → IsReachable a v → IsReachable b v
reached_like a b like v reach =
    let y = like_at a b like reach.0 reach.1.unit reach.1.there in
    (reach.0, record { unit = y.0; there = y.1; some = subst (λ x. 0 < sum x.outside) y.2 reach.1.some }, (reach.2.0, leads_like a b like reach.2.0 reach.0 v reach.2.1))

-- what is left is what was reached
uses_before : {B : Type 0} (old new : HeapState B) → IsTrimmed old new → (u v : ℕ) → Uses new u v → Uses old u v
uses_before old new trimmed u v (Read r) = Read (record { unit = r.unit; there = trimmed.kept u r.unit r.there; place = r.place; reader = r.reader; input = r.input; of = r.of })
uses_before old new trimmed u v (Hold r) = Hold (record { unit = r.unit; there = trimmed.kept u r.unit r.there; place = r.place; part = r.part; waits = r.waits; position = r.position; captured = r.captured; one = r.one; of = r.of })

leads_before : {B : Type 0} (old new : HeapState B) → IsTrimmed old new → (n u v : ℕ) → LeadsIn new n u v → LeadsIn old n u v
leads_before old new trimmed zero u v walk = walk
leads_before old new trimmed (suc n) u v walk = (walk.0, uses_before old new trimmed u walk.0 walk.1, leads_before old new trimmed n walk.0 v walk.2)

reached_before : {B : Type 0} (old new : HeapState B) → IsTrimmed old new → HeapLaws new → (v : ℕ) (x : Node B) → node_at new v ≡ Some x → IsReachable old v
reached_before old new trimmed laws v x there =
    let reach = (laws.nodes v x there).reached in
    (reach.0, record { unit = reach.1.unit; there = trimmed.kept reach.0 reach.1.unit reach.1.there; some = reach.1.some }, (reach.2.0, leads_before old new trimmed reach.2.0 reach.0 v reach.2.1))

trimmed_like : {B : Type 0} (a b c d : HeapState B) → AreTwins a b → IsTrimmed a c → IsTrimmed b d → HeapLaws c → HeapLaws d → AreTwins c d
trimmed_like {B} a b c d like first second laws_c laws_d = record {
  pool = first.size.pool ∙ (like.pool ∙ sym second.size.pool);
  block = first.size.block ∙ (like.block ∙ sym second.size.block);
  units = λ v. by_both v (node_at c v) (node_at d v) refl refl;
}
  where
    gone : (a b c d : HeapState B) → AreTwins a b → IsTrimmed a c → IsTrimmed b d → HeapLaws c → (v : ℕ) (x : Node B) → node_at c v ≡ Some x → node_at d v ≡ None → ⊥
    gone a b c d like first second laws v x at none =
        let y = like_at a b like v x (first.kept v x at) in
        second.gone v y.0 y.1 none (reached_like a b like v (reached_before a c first laws v x at))

    by_both : (v : ℕ) (o p : Option (Node B)) → node_at c v ≡ o → node_at d v ≡ p → option_map plain (node_at c v) ≡ option_map plain (node_at d v)
    by_both v None None at_c at_d = ap (option_map plain) (at_c ∙ sym at_d)
    by_both v (Some x) None at_c at_d = absurd (gone a b c d like first second laws_c v x at_c at_d)
    by_both v None (Some y) at_c at_d = absurd (gone b a d c (twins_turned a b like) second first laws_d v y at_d at_c)
    by_both v (Some x) (Some y) at_c at_d =
        ap (option_map plain) (at_c ∙ sym (first.kept v x at_c)) ∙ (like.units v ∙ ap (option_map plain) (second.kept v y at_d ∙ sym at_d))

-- ---- a fill

filled_plain : {B : Type 0} (block : ℕ) (memory : Memory) (x : Node B) → plain (filled_node block memory x) ≡ plain (filled_node block Nothing (plain x))
filled_plain {B} block memory x = λ i.
    let f : Option Reader → Option Reader = if nat_lt (x.filled + 1) (blocks_of block x.timing.len) then (λ o. moved_plain o i) else (λ r. None) in
    record x { filled = x.filled + 1; inputs = map f x.inputs; memory = Nothing; waiting = if nat_lt (x.filled + 1) (blocks_of block x.timing.len) then x.waiting else []; outside = (filled_node block memory x).outside }
  where
    moved_plain : (o : Option Reader) → moved block x (x.filled + 1) o ≡ moved block (plain x) (x.filled + 1) o
    moved_plain None = refl
    moved_plain (Some r) = refl

pub fills_like : {B : Type 0} (a b c d : HeapState B) (u : ℕ) → AreTwins a b → Fills a c u → Fills b d u → HeapLaws c → HeapLaws d → AreTwins c d
fills_like {B} a b c d u like first second laws_c laws_d =
    trimmed_like first.between second.between c d between first.trimmed second.trimmed laws_c laws_d
  where
    unit_like : plain first.filled.unit ≡ plain second.filled.unit
    unit_like = some_same _ _ (sym (ap (option_map plain) first.filled.was) ∙ (like.units u ∙ ap (option_map plain) second.filled.was))

    filled_like : plain (filled_node a.block first.filled.memory first.filled.unit) ≡ plain (filled_node b.block second.filled.memory second.filled.unit)
    filled_like =
        filled_plain a.block first.filled.memory first.filled.unit
        ∙ ((λ i. plain (filled_node (like.block i) Nothing (unit_like i)))
        ∙ sym (filled_plain b.block second.filled.memory second.filled.unit))

    between : AreTwins first.between second.between
    between = record {
      pool = first.filled.size.pool ∙ (like.pool ∙ sym second.filled.size.pool);
      block = first.filled.size.block ∙ (like.block ∙ sym second.filled.size.block);
      units = λ v. elim (cases_eq v u) [
        | inl same ↦
            ap (λ w. option_map plain (node_at first.between w)) same
            ∙ (ap (option_map plain) first.filled.after
            ∙ (ap Some filled_like
            ∙ (sym (ap (option_map plain) second.filled.after)
            ∙ ap (λ w. option_map plain (node_at second.between w)) (sym same))))
        | inr other ↦ ap (option_map plain) (first.filled.others v other) ∙ (like.units v ∙ sym (ap (option_map plain) (second.filled.others v other)))
      ];
    }
