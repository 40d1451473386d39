-- Heights, step by step.
use Rattle.std.proofs.Common.{◌≡◌, ◌≢◌, ◌⊎◌, inl, inr, ℕ, zero, suc, ◌+◌, ◌<◌, ◌≤◌, ◌==◌, true, false, if◌then◌else◌, List, [], ◌∷◌, ◌++◌, map, get_or, slice_get, Option, None, Some, refl, sym, ap, subst, ◌∙◌, arith}
use Rattle.std.proofs.lemmas.Bool.{cases_eq}
use Rattle.std.proofs.lemmas.Bool.Decides.{eqb_tells}
use Rattle.std.specs.Option.{option_map}
use Rattle.ny_num.specs.declared.timing.Timing.{Timing}
use Rattle.ny_heap.specs.declared.sound.Sound.{Sound}
use Rattle.ny_heap.specs.Heap.{Reader, Kind, Node, Waiting, HeapState, node_at, list_of, place_of, Captured}
use Rattle.ny_heap.specs.Reach.{Uses, Read, Hold, HeapLaws, IsTrimmed}
use Rattle.ny_heap.specs.Steps.{without_sounds, AddsNode, new_node, reader_of}
use Rattle.ny_hands.proofs.OptionLemmas.{some_same, same_at, some_there, none_some}
use Rattle.ny_hands.proofs.HeapLemmas.{Length, Empty, Long, length_of}
use Rattle.ny_hands.specs.declared.branch.Branch.{Branch}
use Rattle.ny_hands.specs.Calls.{Shares, MakesUnit, ReleasesAll, Brings, Stay, Change}
use Rattle.ny_hands.specs.Hands.{IsLike, Begins, AllBegin, Hand}
use Rattle.ny_trace.specs.Heights.{HasRoom, Ranks, AreLow, Stands}
use Rattle.std.specs.Prelude.{nat_lt, nat_eq}
use Rattle.std.proofs.lemmas.List.{append-nil}
use Rattle.ny_num.specs.declared.rate.Rate.{Rate}
use Rattle.ny_kernels.specs.declared.operation.Op.{Op}
use Rattle.ny_trace.specs.Evaluates.{BothTurn}
use Rattle.ny_hands.proofs.SpendLemmas.{hand_brought}
use Rattle.ny_hands.proofs.HandLemmas.{begin_last, hand_swap, AreKept}
use Rattle.ny_hands.proofs.MarkLemmas.{spent_like, marked_like}

-- ---- lists

pub low_append : (rank : ℕ → ℕ) (b : ℕ) (ss ts : List Sound) → AreLow rank b ss → AreLow rank b ts → AreLow rank b (ss ++ ts)
low_append rank b [] ts p q = q
low_append rank b (s ∷ ss) ts p q = (p.0, low_append rank b ss ts p.1 q)

pub low_first : (rank : ℕ → ℕ) (b : ℕ) (ss ts : List Sound) → AreLow rank b (ss ++ ts) → AreLow rank b ss
low_first rank b [] ts p = tt
low_first rank b (s ∷ ss) ts p = (p.0, low_first rank b ss ts p.1)

pub low_last : (rank : ℕ → ℕ) (b : ℕ) (ss ts : List Sound) → AreLow rank b (ss ++ ts) → AreLow rank b ts
low_last rank b [] ts p = p
low_last rank b (s ∷ ss) ts p = low_last rank b ss ts p.1

pub low_more : (rank : ℕ → ℕ) (a b : ℕ) (ss : List Sound) → a ≤ b → AreLow rank a ss → AreLow rank b ss
low_more rank a b [] le p = tt
low_more rank a b (s ∷ ss) le p = ((λ n is. omega (arith, p.0 n is, le)), low_more rank a b ss le p.1)

-- sounds of a heap stay as low
pub low_later : (h : HeapState Branch) (rank later : ℕ → ℕ) (b : ℕ) (ss : List Sound) → AllBegin h ss → ((v : ℕ) (x : Node Branch) → node_at h v ≡ Some x → later v ≡ rank v) → AreLow rank b ss → AreLow later b ss
low_later h rank later b [] begin same p = tt
low_later h rank later b (s ∷ ss) begin same p = ((λ n is. let x = begin.0.shown n is in omega (arith, p.0 n is, same n x.unit x.there)), low_later h rank later b ss begin.1 same p.1)

-- ---- no new unit

-- each unit is one that was there
abbrev pub ComesFrom : HeapState Branch → HeapState Branch → Type 0
ComesFrom old new = (v : ℕ) (y : Node Branch) → node_at new v ≡ Some y → (x : Node Branch) × (node_at old v ≡ Some x) × IsLike x y

pub uses_from : (old new : HeapState Branch) → ComesFrom old new → (u v : ℕ) → Uses new u v → Uses old u v
uses_from old new from u v (Read r) =
    let x = from u r.unit r.there in
    Read (record { unit = x.0; there = x.1; place = r.place; reader = r.reader; input = sym (ap (λ (q : Node Branch). get_or q.inputs r.place None) x.2) ∙ r.input; of = r.of })
uses_from old new from u v (Hold r) =
    let x = from u r.unit r.there in
    Hold (record { unit = x.0; there = x.1; place = r.place; part = r.part; waits = sym (ap (λ (q : Node Branch). slice_get q.waiting r.place) x.2) ∙ r.waits; position = r.position; captured = r.captured; one = r.one; of = r.of })

pub ranks_from : (tall : ℕ → ℕ) (old new : HeapState Branch) (rank : ℕ → ℕ) → ComesFrom old new → Ranks tall old rank → Ranks tall new rank
ranks_from tall old new rank from r = record {
  falls = λ u v uses. r.falls u v (uses_from old new from u v uses);
  room = λ u y i p at waits. let x = from u y at in r.room u x.0 i p x.1 (sym (ap (λ (q : Node Branch). slice_get q.waiting i) x.2) ∙ waits);
}

pub from_trimmed : (mid new : HeapState Branch) (ss : List Sound) → IsTrimmed (without_sounds mid ss) new → ComesFrom mid new
from_trimmed mid new ss trimmed v y at = let x = (spent_like mid ss).from v y (trimmed.kept v y at) in (x.0, x.1, x.2)

unfoldable pub stands_from : (tall : ℕ → ℕ) (old mid new : HeapState Branch) (rank : ℕ → ℕ) (b : ℕ) (ss ts : List Sound) → ComesFrom mid new → (p : Stands tall old mid rank b ss) → AreLow p.later b ts → Stands tall old new rank b ts
stands_from tall old mid new rank b ss ts from p low = record {
  later = p.later;
  ranks = ranks_from tall mid new p.later from p.ranks;
  same = p.same;
  low = λ v y none at. let x = from v y at in p.low v x.0 none x.1;
  in_hand = low;
}

pub stands_none : (tall : ℕ → ℕ) (h : HeapState Branch) (rank : ℕ → ℕ) (b : ℕ) (ss : List Sound) → Ranks tall h rank → AreLow rank b ss → Stands tall h h rank b ss
stands_none tall h rank b ss r low = record { later = rank; ranks = r; same = λ v x at. refl; low = λ v y none at. absurd (none_some (node_at h v) y none at); in_hand = low }

pub stands_more : (tall : ℕ → ℕ) (old mid new : HeapState Branch) (rank : ℕ → ℕ) (a b c : ℕ) (ss ts : List Sound) → a ≤ c → b ≤ c → Hand old mid ss → (p : Stands tall old mid rank a ss) → Stands tall mid new p.later b ts → Stands tall old new rank c (ss ++ ts)
stands_more tall old mid new rank a b c ss ts le more first p q = record {
  later = q.later;
  ranks = q.ranks;
  same = λ v x at. let y = first.kept v x at in q.same v y.0 y.1 ∙ p.same v x at;
  low = λ v y none at. by_mid v y none at (node_at mid v) refl;
  in_hand = low_append q.later c ss ts (low_more q.later a c ss le (low_later mid p.later q.later a ss first.begin q.same p.in_hand)) (low_more q.later b c ts more q.in_hand);
}
  where
    by_mid : (v : ℕ) (y : Node Branch) → node_at old v ≡ None → node_at new v ≡ Some y → (o : Option (Node Branch)) → node_at mid v ≡ o → q.later v < c
    by_mid v y none at None e = omega (arith, q.low v y e at, more)
    by_mid v y none at (Some x) e = omega (arith, q.same v x e, p.low v x none e, le)

unfoldable pub stands_wider : (tall : ℕ → ℕ) (old new : HeapState Branch) (rank : ℕ → ℕ) (a b : ℕ) (ss : List Sound) → a ≤ b → Stands tall old new rank a ss → Stands tall old new rank b ss
stands_wider tall old new rank a b ss le p = record { later = p.later; ranks = p.ranks; same = p.same; low = λ v y none at. omega (arith, p.low v y none at, le); in_hand = low_more p.later a b ss le p.in_hand }

-- all that was there is there, and these sounds are at their beginning
pub record AreThere (old new : HeapState Branch) (ss : List Sound) : Type 0 where
  pub laws : HeapLaws new
  pub kept : (v : ℕ) (x : Node Branch) → node_at old v ≡ Some x → (y : Node Branch) × (node_at new v ≡ Some y) × IsLike x y
  pub begin : AllBegin new ss

pub hand_there : (old new : HeapState Branch) (ss : List Sound) → Hand old new ss → AreThere old new ss
hand_there old new ss c = record { laws = c.laws; kept = c.kept; begin = c.begin }

-- ---- a unit more

pub low_reader : (rank : ℕ → ℕ) (b : ℕ) (ss : List Sound) (i : ℕ) (r : Reader) → AreLow rank b ss → get_or (map reader_of ss) i None ≡ Some r → rank r.node < b
low_reader rank b [] i r low e = absurd (never e)
  where
    never : None ≡ Some r → ⊥
    never q = cc
low_reader rank b (s ∷ ss) zero r low e = low.0 r.node (by_list (list_of s) e)
  where
    by_list : (o : Option ℕ) → option_map (λ n. let q : Reader = record { node = n; place = place_of s; timing = s.timing } in q) o ≡ Some r → o ≡ Some r.node
    by_list None e = cc
    by_list (Some n) e = ap (λ (q : Option Reader). option_map (λ q. q.node) q) e
low_reader rank b (s ∷ ss) (suc i) r low e = low_reader rank b ss i r low.1 e

module _ (tall : ℕ → ℕ) (old mid new : HeapState Branch) (kind : Kind) (t : Timing) (inputs : List Sound) (waiting : List (Waiting Branch)) (spent hand : List Sound) (s : Sound) (rank : ℕ → ℕ) (bound height : ℕ) (c : AreThere old mid (spent ++ hand)) (p : Stands tall old mid rank bound (spent ++ hand)) (step : MakesUnit mid new kind t inputs waiting spent s) (low : AreLow p.later height inputs) (room : (i : ℕ) (q : Waiting Branch) → slice_get waiting i ≡ Some q → HasRoom tall p.later height q) (between : HeapLaws mid) where
  abbrev raised : ℕ → ℕ → ℕ
  raised n v = if v == n then height else p.later v

  raised_at : (n v : ℕ) → v ≡ n → raised n v ≡ height
  raised_at n v e = by_test (eqb_tells v n)
    where
      by_test : ((nat_eq v n ≡ true) × (v ≡ n)) ⊎ ((nat_eq v n ≡ false) × (v ≢ n)) → raised n v ≡ height
      by_test (inl same) = ap (λ b. if b then height else p.later v) same.0
      by_test (inr other) = absurd (other.1 e)

  raised_else : (n v : ℕ) → v ≢ n → raised n v ≡ p.later v
  raised_else n v ne = by_test (eqb_tells v n)
    where
      by_test : ((nat_eq v n ≡ true) × (v ≡ n)) ⊎ ((nat_eq v n ≡ false) × (v ≢ n)) → raised n v ≡ p.later v
      by_test (inl same) = absurd (ne same.1)
      by_test (inr other) = ap (λ b. if b then height else p.later v) other.0

  module _ (n : ℕ) (adds : AddsNode (without_sounds mid spent) new n (new_node kind t inputs waiting)) where
    mid_else : (v : ℕ) (x : Node Branch) → node_at mid v ≡ Some x → v ≢ n
    mid_else v x at same = let y = (spent_like mid spent).to v x at in none_some (node_at (without_sounds mid spent) v) y.0 (ap (node_at (without_sounds mid spent)) same ∙ adds.fresh) y.1

    from_mid : (v : ℕ) (y : Node Branch) → v ≢ n → node_at new v ≡ Some y → (x : Node Branch) × (node_at mid v ≡ Some x) × IsLike x y
    from_mid v y ne at = let x = (spent_like mid spent).from v y (sym (adds.others v ne) ∙ at) in (x.0, x.1, x.2)

    uses_mid : (u v : ℕ) → u ≢ n → Uses new u v → Uses mid u v
    uses_mid u v ne (Read r) =
        let x = from_mid u r.unit ne r.there in
        Read (record { unit = x.0; there = x.1; place = r.place; reader = r.reader; input = sym (ap (λ (q : Node Branch). get_or q.inputs r.place None) x.2) ∙ r.input; of = r.of })
    uses_mid u v ne (Hold r) =
        let x = from_mid u r.unit ne r.there in
        Hold (record { unit = x.0; there = x.1; place = r.place; part = r.part; waits = sym (ap (λ (q : Node Branch). slice_get q.waiting r.place) x.2) ∙ r.waits; position = r.position; captured = r.captured; one = r.one; of = r.of })

    -- what the new unit uses stands lower
    used_low : (b : ℕ) → Uses new n b → p.later b < height
    used_low b (Read r) =
        let is : new_node kind t inputs waiting ≡ r.unit = same_at (node_at new n) (new_node kind t inputs waiting) r.unit adds.after r.there in
        subst (λ k. p.later k < height) r.of (low_reader p.later height inputs r.place r.reader low (ap (λ (x : Node Branch). get_or x.inputs r.place None) is ∙ r.input))
    used_low b (Hold r) =
        let is : new_node kind t inputs waiting ≡ r.unit = same_at (node_at new n) (new_node kind t inputs waiting) r.unit adds.after r.there in
        let q = room r.place r.part (ap (λ (x : Node Branch). slice_get x.waiting r.place) is ∙ r.waits) in
        omega (arith, q.captured r.position r.captured b r.one r.of, q.room)

    raised_room : (top : ℕ) (q : Waiting Branch) → ((i : ℕ) (d : Captured) (k : ℕ) → slice_get q.captured i ≡ Some d → d.node ≡ Some k → k ≢ n) → HasRoom tall p.later top q → HasRoom tall (raised n) top q
    raised_room top q apart r = record { base = r.base; captured = λ i d k at is. omega (arith, raised_else n k (apart i d k at is), r.captured i d k at is); room = r.room }

    -- what is used was there
    used_there : (u b : ℕ) → Uses mid u b → b ≢ n
    used_there u b uses = let y = some_there (node_at mid b) (between.finds u b uses) in mid_else b y.0 y.1

    ranks_added : ((i j : ℕ) (q : Waiting Branch) (d : Captured) (k : ℕ) → slice_get waiting i ≡ Some q → slice_get q.captured j ≡ Some d → d.node ≡ Some k → k ≢ n) → ((b : ℕ) → Uses new n b → b ≢ n) → Ranks tall new (raised n)
    ranks_added captured_else used_else = record {
      falls = λ a b uses. elim (cases_eq a n) [
        | inl same ↦ let here = subst (λ k. Uses new k b) same uses in omega (arith, raised_at n a same, raised_else n b (used_else b here), used_low b here)
        | inr other ↦ let before = uses_mid a b other uses in omega (arith, raised_else n a other, raised_else n b (used_there a b before), p.ranks.falls a b before)
      ];
      room = λ u y i q at waits. elim (cases_eq u n) [
        | inl same ↦
            let is : new_node kind t inputs waiting ≡ y = same_at (node_at new n) (new_node kind t inputs waiting) y adds.after (ap (node_at new) (sym same) ∙ at) in
            let here : slice_get waiting i ≡ Some q = ap (λ (x : Node Branch). slice_get x.waiting i) is ∙ waits in
            subst (λ top. HasRoom tall (raised n) top q) (sym (raised_at n u same)) (raised_room height q (λ j d k one of. captured_else i j q d k here one of) (room i q here))
        | inr other ↦
            let x = from_mid u y other at in
            let was : slice_get x.0.waiting i ≡ Some q = sym (ap (λ (z : Node Branch). slice_get z.waiting i) x.2) ∙ waits in
            subst (λ top. HasRoom tall (raised n) top q) (sym (raised_else n u other))
            (raised_room (p.later u) q (λ j d k one of. used_there u k (Hold (record { unit = x.0; there = x.1; place = i; part = q; waits = was; position = j; captured = d; one = one; of = of }))) (p.ranks.room u x.0 i q x.1 was))
      ];
    }

-- what a unit reads is there
reader_there : (h : HeapState Branch) (ss : List Sound) (i : ℕ) (r : Reader) → AllBegin h ss → get_or (map reader_of ss) i None ≡ Some r → (x : Node Branch) × (node_at h r.node ≡ Some x)
reader_there h [] i r b e = absurd (never e)
  where
    never : None ≡ Some r → ⊥
    never q = cc
reader_there h (s ∷ ss) zero r b e = let x = b.0.shown r.node (by_list (list_of s) e) in (x.unit, x.there)
  where
    by_list : (o : Option ℕ) → option_map (λ n. let q : Reader = record { node = n; place = place_of s; timing = s.timing } in q) o ≡ Some r → o ≡ Some r.node
    by_list None e = cc
    by_list (Some n) e = ap (λ (q : Option Reader). option_map (λ q. q.node) q) e
reader_there h (s ∷ ss) (suc i) r b e = reader_there h ss i r b.1 e

pub stands_made : (tall : ℕ → ℕ) (old mid new : HeapState Branch) (kind : Kind) (t : Timing) (inputs : List Sound) (waiting : List (Waiting Branch)) (spent hand : List Sound) (s : Sound) (rank : ℕ → ℕ) (bound height top : ℕ) → AreThere old mid (spent ++ hand) → (p : Stands tall old mid rank bound (spent ++ hand)) → MakesUnit mid new kind t inputs waiting spent s → AllBegin mid inputs → AreLow p.later height inputs → ((i : ℕ) (q : Waiting Branch) → slice_get waiting i ≡ Some q → HasRoom tall p.later height q) → ((i j : ℕ) (q : Waiting Branch) (d : Captured) (k : ℕ) → slice_get waiting i ≡ Some q → slice_get q.captured j ≡ Some d → d.node ≡ Some k → (x : Node Branch) × (node_at mid k ≡ Some x)) → bound ≤ top → height < top → Stands tall old new rank top (s ∷ hand)
stands_made tall old mid new kind t inputs waiting spent hand s rank bound height top c p step begin low room captured le less = by_length (length_of t)
  where
    list_none : nat_lt 0 t.len ≡ false → list_of s ≡ None
    list_none e = step.makes.result.list ∙ ap (λ b. if b then Some step.makes.node else None) e

    list_some : nat_lt 0 t.len ≡ true → list_of s ≡ Some step.makes.node
    list_some e = step.makes.result.list ∙ ap (λ b. if b then Some step.makes.node else None) e

    rest_low : AreLow p.later bound hand
    rest_low = low_last p.later bound spent hand p.in_hand

    begin_rest : AllBegin mid hand
    begin_rest = begin_last mid spent hand c.begin

    by_length : Length t → Stands tall old new rank top (s ∷ hand)
    by_length (Empty e f) =
        stands_wider tall old new rank bound top (s ∷ hand) le
        (stands_from tall old mid new rank bound (spent ++ hand) (s ∷ hand) (from_trimmed mid new spent (step.makes.none e)) p ((λ n is. absurd (none_some (list_of s) n (list_none f) is)), rest_low))
    by_length (Long e f) = record {
      later = later;
      ranks = ranks_added tall old mid new kind t inputs waiting spent hand s rank bound height c p step low room c.laws n adds
          (λ i j q d k at one of. let x = captured i j q d k at one of in not_new k x.0 x.1)
          used_else;
      same = λ v x at. let y = c.kept v x at in raised_else tall old mid new kind t inputs waiting spent hand s rank bound height c p step low room c.laws n v (not_new v y.0 y.1) ∙ p.same v x at;
      low = λ v y none at. elim (cases_eq v n) [
        | inl same ↦ omega (arith, raised_at tall old mid new kind t inputs waiting spent hand s rank bound height c p step low room c.laws n v same, less)
        | inr other ↦ let x = from_mid tall old mid new kind t inputs waiting spent hand s rank bound height c p step low room c.laws n adds v y other at in omega (arith, raised_else tall old mid new kind t inputs waiting spent hand s rank bound height c p step low room c.laws n v other, p.low v x.0 none x.1, le)
      ];
      in_hand = (
        λ k is. omega (arith, raised_at tall old mid new kind t inputs waiting spent hand s rank bound height c p step low room c.laws n k (some_same k n (sym is ∙ list_some f)), less),
        low_more later bound top hand le (low_later mid p.later later bound hand begin_rest (λ v x at. raised_else tall old mid new kind t inputs waiting spent hand s rank bound height c p step low room c.laws n v (not_new v x at)) rest_low),
      );
    }
      where
        n : ℕ
        n = step.makes.node

        later : ℕ → ℕ
        later = raised tall old mid new kind t inputs waiting spent hand s rank bound height c p step low room c.laws step.makes.node

        adds : AddsNode (without_sounds mid spent) new step.makes.node (new_node kind t inputs waiting)
        adds = step.makes.unit e

        not_new : (v : ℕ) (x : Node Branch) → node_at mid v ≡ Some x → v ≢ step.makes.node
        not_new v x at = mid_else tall old mid new kind t inputs waiting spent hand s rank bound height c p step low room c.laws step.makes.node (step.makes.unit e) v x at

        used_else : (b : ℕ) → Uses new step.makes.node b → b ≢ step.makes.node
        used_else b (Read r) =
            let is : new_node kind t inputs waiting ≡ r.unit = same_at (node_at new step.makes.node) (new_node kind t inputs waiting) r.unit adds.after r.there in
            let x = reader_there mid inputs r.place r.reader begin (ap (λ (x : Node Branch). get_or x.inputs r.place None) is ∙ r.input) in
            subst (λ k. k ≢ step.makes.node) r.of (not_new r.reader.node x.0 x.1)
        used_else b (Hold r) =
            let is : new_node kind t inputs waiting ≡ r.unit = same_at (node_at new step.makes.node) (new_node kind t inputs waiting) r.unit adds.after r.there in
            let x = captured r.place r.position r.part r.captured b (ap (λ (x : Node Branch). slice_get x.waiting r.place) is ∙ r.waits) r.one r.of in
            not_new b x.0 x.1

-- ---- the other steps

pub stands_shared : (tall : ℕ → ℕ) (old new : HeapState Branch) (a s : Sound) (rank : ℕ → ℕ) (base : ℕ) → Ranks tall old rank → AreLow rank base (a ∷ []) → Shares old new a s → Stands tall old new rank base (s ∷ [])
unfolding stands_none
stands_shared tall old new a s rank base ranks low step =
    let like = marked_like (λ n. n + 1) old (place_of s) (list_of s) in
    let from : ComesFrom old new = subst (λ h. ComesFrom old h) (sym step.heap) (λ v y at. let x = like.from v y at in (x.0, x.1, x.2)) in
    stands_from tall old old new rank base (a ∷ []) (s ∷ []) from (stands_none tall old rank base (a ∷ []) ranks low) ((λ n is. low.0 n (sym step.list ∙ is)), tt)

pub stands_released : (tall : ℕ → ℕ) (old mid new : HeapState Branch) (rank : ℕ → ℕ) (b : ℕ) (ss ts : List Sound) → Stands tall old mid rank b (ss ++ ts) → ReleasesAll mid new ss → Stands tall old new rank b ts
stands_released tall old mid new rank b [] ts p step = subst (λ (h : HeapState Branch). Stands tall old h rank b ts) step p
stands_released tall old mid new rank b (s ∷ ss) ts p step =
    stands_released tall old step.0 new rank b ss ts (stands_from tall old mid step.0 rank b (s ∷ (ss ++ ts)) (ss ++ ts) (from_trimmed mid step.0 (s ∷ []) step.1.trimmed) p p.in_hand.1) step.2

-- ---- one step after another

unfoldable pub stands_seq : (tall : ℕ → ℕ) (old mid new : HeapState Branch) (rank : ℕ → ℕ) (a b c : ℕ) (ss ts : List Sound) → a ≤ c → b ≤ c → AreKept old mid → (p : Stands tall old mid rank a ss) → Stands tall mid new p.later b ts → Stands tall old new rank c ts
stands_seq tall old mid new rank a b c ss ts le more kept p q = record {
  later = q.later;
  ranks = q.ranks;
  same = λ v x at. let y = kept v x at in q.same v y.0 y.1 ∙ p.same v x at;
  low = λ v y none at. by_mid v y none at (node_at mid v) refl;
  in_hand = low_more q.later b c ts more q.in_hand;
}
  where
    by_mid : (v : ℕ) (y : Node Branch) → node_at old v ≡ None → node_at new v ≡ Some y → (o : Option (Node Branch)) → node_at mid v ≡ o → q.later v < c
    by_mid v y none at None e = omega (arith, q.low v y e at, more)
    by_mid v y none at (Some x) e = omega (arith, q.same v x e, p.low v x none e, le)

-- a unit over sounds that stand lower than `height`
pub step_made : (tall : ℕ → ℕ) (mid new : HeapState Branch) (kind : Kind) (t : Timing) (inputs : List Sound) (s : Sound) (rank : ℕ → ℕ) (height : ℕ) → HeapLaws mid → AllBegin mid inputs → Ranks tall mid rank → AreLow rank height inputs → MakesUnit mid new kind t inputs [] inputs s → Stands tall mid new rank (height + 1) (s ∷ [])
unfolding stands_none
step_made tall mid new kind t inputs s rank height laws begin ranks low step =
    let same = append-nil inputs in
    stands_made tall mid mid new kind t inputs [] inputs [] s rank height height (height + 1)
    (record { laws = laws; kept = λ v x at. (x, at, refl); begin = subst (AllBegin mid) (sym same) begin })
    (stands_none tall mid rank height (inputs ++ []) ranks (subst (AreLow rank height) (sym same) low)) step begin low (λ i q at. absurd (never q at)) (λ i j q d k at one of. absurd (never q at)) (omega arith) (omega arith)
  where
    never : (q : Waiting Branch) → None ≡ Some q → ⊥
    never q e = cc

pub step_brought : (tall : ℕ → ℕ) (mid new : HeapState Branch) (r : Rate) (a s : Sound) (rank : ℕ → ℕ) (height : ℕ) → HeapLaws mid → Begins mid a → Ranks tall mid rank → AreLow rank height (a ∷ []) → Brings mid new r a s → Stands tall mid new rank (height + 1) (s ∷ [])
step_brought tall mid new r a s rank height laws begin ranks low (Stay step) =
    subst (λ (q : Sound). Stands tall mid new rank (height + 1) (q ∷ [])) step.same (subst (λ (h : HeapState Branch). Stands tall mid h rank (height + 1) (a ∷ [])) step.heap
    (stands_none tall mid rank (height + 1) (a ∷ []) ranks (low_more rank height (height + 1) (a ∷ []) (omega arith) low)))
step_brought tall mid new r a s rank height laws begin ranks low (Change step) = step_made tall mid new _ _ (a ∷ []) s rank height laws (begin, tt) ranks low step.made

stands_after : (tall : ℕ → ℕ) (old h1 h2 h3 h4 : HeapState Branch) (rank : ℕ → ℕ) (m : ℕ) (a b x y s : Sound) → AreKept old h1 → AreKept old h2 → AreKept old h3 → (p : Stands tall old h1 rank m (a ∷ b ∷ [])) (q : Stands tall h1 h2 p.later (m + 1) (x ∷ [])) (u : Stands tall h2 h3 q.later (m + 1) (y ∷ [])) → Stands tall h3 h4 u.later (m + 1 + 1) (s ∷ []) → Stands tall old h4 rank (m + 2) (s ∷ [])
unfolding stands_seq
stands_after tall old h1 h2 h3 h4 rank m a b x y s k1 k2 k3 p q u v =
    let pq = stands_seq tall old h1 h2 rank m (m + 1) (m + 1) (a ∷ b ∷ []) (x ∷ []) (omega arith) (omega arith) k1 p q in
    let pqu = stands_seq tall old h2 h3 rank (m + 1) (m + 1) (m + 1) (x ∷ []) (y ∷ []) (omega arith) (omega arith) k2 pq u in
    stands_seq tall old h3 h4 rank (m + 1) (m + 1 + 1) (m + 2) (y ∷ []) (s ∷ []) (omega arith) (omega arith) k3 pqu v

-- two sounds by an operation: two units higher
pub both_stands : (tall : ℕ → ℕ) (old mid new : HeapState Branch) (op : Op) (r : Rate) (a b s : Sound) (rank : ℕ → ℕ) (m : ℕ) → HeapLaws old → Hand old mid (a ∷ b ∷ []) → Stands tall old mid rank m (a ∷ b ∷ []) → BothTurn op r a b mid new s → Stands tall old new rank (m + 2) (s ∷ [])
both_stands tall old mid new op r a b s rank m laws c p step =
    let one = hand_brought old mid step.mid r a step.first (b ∷ []) laws c step.brings_first in
    let two = hand_brought old step.mid step.end r b step.second (step.first ∷ []) laws (hand_swap old step.mid step.first b [] one) step.brings_second in
    let q = step_brought tall mid step.mid r a step.first p.later m c.laws c.begin.0 p.ranks (p.in_hand.0, tt) step.brings_first in
    let u = step_brought tall step.mid step.end r b step.second q.later m one.laws one.begin.1.0 q.ranks (low_later mid p.later q.later m (b ∷ []) (c.begin.1.0, tt) q.same (p.in_hand.1.0, tt)) step.brings_second in
    let v = step_made tall step.end new _ _ (step.first ∷ step.second ∷ []) s u.later (m + 1) two.laws (two.begin.1.0, (two.begin.0, tt)) u.ranks
    (let first = low_later step.mid q.later u.later (m + 1) (step.first ∷ []) (one.begin.0, tt) u.same q.in_hand in (first.0, u.in_hand)) step.made in
    stands_after tall old mid step.mid step.end new rank m a b step.first step.second s c.kept one.kept two.kept p q u v
