-- Seats: a unit is the row that it was, where its heap only changes by who reads it from outside, or by seats of others.
use Rattle.std.proofs.Common.{◌≡◌, ◌≢◌, ◌⊎◌, inl, inr, ℕ, suc, ◌+◌, nat_eq, true, false, if◌then◌else◌, List, [], ◌∷◌, ◌++◌, drop, length, slice_get, slice_index, Option, None, Some, refl, sym, ap, subst, ◌∙◌}
use Rattle.std.specs.List.{AllZip}
use Rattle.std.specs.Option.{option_map}
use Rattle.std.proofs.lemmas.Bool.Decides.{eqb_tells}
use Rattle.ny_resolve.specs.declared.term.NameId.{NameId}
use Rattle.ny_warp.specs.declared.env.Env.{Env}
use Rattle.ny_check.specs.Code.{Code}
use Rattle.ny_check.specs.declared.value.Value.{Value}
use Rattle.ny_check.specs.declared.value.Value.TheVariants.{Number, Sound as SoundOf}
use Rattle.ny_heap.specs.declared.sound.Sound.{Sound}
use Rattle.ny_heap.specs.Heap.{Reader, Captured, Waiting, Node, HeapState, node_at, input_at, list_of}
use Rattle.ny_heap.specs.Reach.{Read, Hold, HeapLaws}
use Rattle.ny_hands.specs.declared.branch.Branch.{Branch}
use Rattle.ny_hands.specs.Frames as frames
use Rattle.ny_hands.specs.Hands.{IsLike, Begins, AllBegin, IsNamed, AreNamed}
use Rattle.ny_hands.proofs.OptionLemmas.{some_there}
use Rattle.ny_trace.proofs.HeightLemmas.{ComesFrom}
use Rattle.ny_plan.specs.Rows.{RowSound, Input, Row, row_at}
use Rattle.ny_plan.specs.Need.{Filled}
use Rattle.ny_plan.specs.Plan as plans
use Rattle.ny_plan.specs.StandsFor.{ReadsFor, Keeps}
use Rattle.ny_match.specs.Matched.{Seats, IsSound, IsValue, AreNames, IsKeptValue, AreKeptNames, Part, IsPart, Awaits, IsUnit, Matched}
use Rattle.ny_match.specs.Born.{AreSounds}

-- ---- the same seats

-- each unit of the heap is the row that it was
abbrev pub SameRows : HeapState Branch → (ℕ → ℕ) → (ℕ → ℕ) → Type 0
SameRows h row later = (v : ℕ) (x : Node Branch) → node_at h v ≡ Some x → later v ≡ row v

-- and its parts will make the rows that they would have made
abbrev pub SameParts : HeapState Branch → Seats → Seats → Type 0
SameParts h seats later = (v : ℕ) (x : Node Branch) → node_at h v ≡ Some x → (later.from v ≡ seats.from v) × (later.upto v ≡ seats.upto v)

mapped_later : (row later : ℕ → ℕ) (o : Option ℕ) → ((n : ℕ) → o ≡ Some n → later n ≡ row n) → option_map row o ≡ option_map later o
mapped_later row later None same = refl
mapped_later row later (Some n) same = ap Some (sym (same n refl))

-- ---- sounds and names in hand

pub sound_later : (h : HeapState Branch) (row later : ℕ → ℕ) (s : Sound) (r : RowSound) → Begins h s → SameRows h row later → IsSound row s r → IsSound later s r
sound_later h row later s r begin same is = record {
  names = is.names ∙ mapped_later row later (list_of s) (λ n at. let x = begin.shown n at in same n x.unit x.there);
  timing = is.timing;
}

pub sounds_later : (h : HeapState Branch) (row later : ℕ → ℕ) (ss : List Sound) (rs : List RowSound) → AllBegin h ss → SameRows h row later → AreSounds row ss rs → AreSounds later ss rs
sounds_later h row later [] [] begin same are = tt
sounds_later h row later [] (r ∷ rs) begin same are = absurd are
sounds_later h row later (s ∷ ss) [] begin same are = absurd are
sounds_later h row later (s ∷ ss) (r ∷ rs) begin same are = (sound_later h row later s r begin.0 same are.0, sounds_later h row later ss rs begin.1 same are.1)

pub sounds_append : (row : ℕ → ℕ) (ss ts : List Sound) (rs qs : List RowSound) → AreSounds row ss rs → AreSounds row ts qs → AreSounds row (ss ++ ts) (rs ++ qs)
sounds_append row [] ts [] qs p q = q
sounds_append row [] ts (r ∷ rs) qs p q = absurd p
sounds_append row (s ∷ ss) ts [] qs p q = absurd p
sounds_append row (s ∷ ss) ts (r ∷ rs) qs p q = (p.0, sounds_append row ss ts rs qs p.1 q)

pub names_later : (h : HeapState Branch) (row later : ℕ → ℕ) (names : frames.Names) (given : plans.Names) → AreNamed h names → SameRows h row later → AreNames row names given → AreNames later names given
names_later h row later [] [] named same are = tt
names_later h row later [] (c ∷ cs) named same are = absurd are
names_later h row later (b ∷ bs) [] named same are = absurd are
names_later h row later (b ∷ bs) (c ∷ cs) named same are = (are.0, by_value b.1 c.1 named.0 are.1, names_later h row later bs cs named.1 same are.2)
  where
    by_value : (v : Value Sound) (w : Value RowSound) → IsNamed h v → IsValue row v w → IsValue later v w
    by_value (Number j) (Number k) named is = is
    by_value (Number j) (SoundOf r) named is = absurd is
    by_value (SoundOf s) (Number k) named is = absurd is
    by_value (SoundOf s) (SoundOf r) named is = sound_later h row later s r named same is

-- ---- parts that wait

-- the lists that these captured sounds read are the rows that they were
abbrev pub KeepRows : (ℕ → ℕ) → (ℕ → ℕ) → List Captured → Type 0
KeepRows row later cs = (j : ℕ) (c : Captured) (n : ℕ) → slice_get cs j ≡ Some c → c.node ≡ Some n → later n ≡ row n

pub keeps_later : (row later : ℕ → ℕ) (c : Captured) (r : RowSound) → ((n : ℕ) → c.node ≡ Some n → later n ≡ row n) → Keeps row c r → Keeps later c r
keeps_later row later c r same k = record { names = k.names ∙ mapped_later row later c.node same; timing = k.timing }

pub all_keep_later : (row later : ℕ → ℕ) (cs : List Captured) (rs : List RowSound) → KeepRows row later cs → AllZip (Keeps row) cs rs → AllZip (Keeps later) cs rs
all_keep_later row later [] [] same k = tt
all_keep_later row later [] (r ∷ rs) same k = absurd k
all_keep_later row later (c ∷ cs) [] same k = absurd k
all_keep_later row later (c ∷ cs) (r ∷ rs) same k = (keeps_later row later c r (λ n at. same 0 c n refl at) k.0, all_keep_later row later cs rs (λ j d n at is. same (suc j) d n at is) k.1)

pub kept_names_later : (row later : ℕ → ℕ) (cs : List Captured) (bs : List (NameId × Value ℕ)) (ns : plans.Names) → KeepRows row later cs → AreKeptNames row cs bs ns → AreKeptNames later cs bs ns
kept_names_later row later cs [] [] same are = tt
kept_names_later row later cs [] (n ∷ ns) same are = absurd are
kept_names_later row later cs (b ∷ bs) [] same are = absurd are
kept_names_later row later cs (b ∷ bs) (n ∷ ns) same are = (are.0, by_value b.1 n.1 are.1, kept_names_later row later cs bs ns same are.2)
  where
    by_value : (v : Value ℕ) (w : Value RowSound) → IsKeptValue row cs v w → IsKeptValue later cs v w
    by_value (Number j) (Number k) is = is
    by_value (Number j) (SoundOf r) is = absurd is
    by_value (SoundOf j) (Number k) is = absurd is
    by_value (SoundOf j) (SoundOf r) is = (is.0, is.1, keeps_later row later is.0 r (λ n at. same j is.0 n is.1 at) is.2)

-- the same of several parts
abbrev pub AllKeepRows : (ℕ → ℕ) → (ℕ → ℕ) → List (Waiting Branch) → Type 0
AllKeepRows row later ws = (i : ℕ) (p : Waiting Branch) → slice_get ws i ≡ Some p → KeepRows row later p.captured

pub parts_later : (row later : ℕ → ℕ) (env : Env) (ws : List (Waiting Branch)) (qs : List Part) → AllKeepRows row later ws → AllZip (IsPart row env) ws qs → AllZip (IsPart later env) ws qs
parts_later row later env [] [] same are = tt
parts_later row later env [] (q ∷ qs) same are = absurd are
parts_later row later env (w ∷ ws) [] same are = absurd are
parts_later row later env (w ∷ ws) (q ∷ qs) same are = (
  record { expr = are.0.expr; there = are.0.there; names = kept_names_later row later w.captured w.branch.names q.1 (same 0 w refl) are.0.names },
  parts_later row later env ws qs (λ i p at. same (suc i) p at) are.1,
)

abbrev pub PartKeeps : (ℕ → ℕ) → Waiting Branch → Input → Type 0
PartKeeps row p i = AllZip (Keeps row) p.captured i.captured

pub captured_later : (row later : ℕ → ℕ) (ws : List (Waiting Branch)) (is : List Input) → AllKeepRows row later ws → AllZip (PartKeeps row) ws is → AllZip (PartKeeps later) ws is
captured_later row later [] [] same are = tt
captured_later row later [] (i ∷ is) same are = absurd are
captured_later row later (w ∷ ws) [] same are = absurd are
captured_later row later (w ∷ ws) (i ∷ is) same are = (all_keep_later row later w.captured i.captured (same 0 w refl) are.0, captured_later row later ws is (λ k p at. same (suc k) p at) are.1)

-- ---- units

-- each list that unit u uses is the row that it was
abbrev pub UsesSame : (ℕ → ℕ) → (ℕ → ℕ) → Node Branch → Type 0
UsesSame row later x = ((k : ℕ) (r : Reader) → input_at x k ≡ Some r → later r.node ≡ row r.node) × AllKeepRows row later x.waiting

-- in a lawful heap what a unit uses is there
pub uses_same : (h : HeapState Branch) (row later : ℕ → ℕ) (u : ℕ) (x : Node Branch) → HeapLaws h → SameRows h row later → node_at h u ≡ Some x → UsesSame row later x
uses_same h row later u x laws same at = (
  λ k r is. let y = some_there (node_at h r.node) (laws.finds u r.node (Read (record { unit = x; there = at; place = k; reader = r; input = is; of = refl }))) in same r.node y.0 y.1,
  λ i p waits j c n one of. let y = some_there (node_at h n) (laws.finds u n (Hold (record { unit = x; there = at; place = i; part = p; waits = waits; position = j; captured = c; one = one; of = of }))) in same n y.0 y.1,
)

reads_later : (row later : ℕ → ℕ) (i : Input) (r : Reader) → later r.node ≡ row r.node → ReadsFor row i r → ReadsFor later i r
reads_later row later i r same is = record { names = is.names ∙ ap Some (sym same); timing = is.timing }

module _ (code : Code) (all : List Row) where
  pub awaits_later : (seats later : Seats) (u : ℕ) (x : Row) (unit : Node Branch) (at stop : ℕ) → UsesSame seats.row later.row unit → later.from u ≡ seats.from u → later.upto u ≡ seats.upto u → Awaits code all seats u x unit at stop → Awaits code all later u x unit at stop
  awaits_later seats later u x unit at stop same from upto w = record {
    env = w.env;
    parts = w.parts;
    rows = w.rows;
    before = w.before;
    from = w.from ∙ sym from;
    after = w.after;
    upto = w.upto ∙ sym upto;
    inputs = w.inputs;
    rate = w.rate;
    are = parts_later seats.row later.row w.env unit.waiting w.parts same.1 w.are;
    keep = captured_later seats.row later.row unit.waiting (drop at x.inputs) same.1 w.keep;
  }

  pub unit_later : (block : ℕ) (seats later : Seats) (u : ℕ) (x : Row) (done : ℕ) (unit : Node Branch) → UsesSame seats.row later.row unit → later.from u ≡ seats.from u → later.upto u ≡ seats.upto u → IsUnit code block all seats u x done unit → IsUnit code block all later u x done unit
  unit_later block seats later u x done unit same from upto is = record {
    kind = is.kind;
    timing = is.timing;
    filled = is.filled;
    few = is.few;
    come = is.come;
    readers = λ k r at. let q = is.readers k r at in (q.0, q.1, reads_later seats.row later.row q.0 r (same.0 k r at) q.2);
    inputs = λ unfinished k y i at less more named. let q = is.inputs unfinished k y i at less more named in (q.0, q.1, reads_later seats.row later.row i q.0 (same.0 k q.0 q.1) q.2);
    awaits = λ unfinished. let q = is.awaits unfinished in (q.0, q.1, awaits_later seats later u x unit (length unit.inputs + unit.pending) q.0 same from upto q.2);
  }

  -- who reads it from outside is of no matter
  pub unit_like : (block : ℕ) (seats : Seats) (u : ℕ) (x : Row) (done : ℕ) (unit other : Node Branch) → IsLike unit other → IsUnit code block all seats u x done unit → IsUnit code block all seats u x done other
  unit_like block seats u x done unit other like is = subst (λ (n : Node Branch). IsUnit code block all seats u x done n) (sym like) marked
    where
      marked : IsUnit code block all seats u x done (record unit { outside = other.outside })
      marked = record {
        kind = is.kind;
        timing = is.timing;
        filled = is.filled;
        few = is.few;
        come = is.come;
        readers = is.readers;
        inputs = is.inputs;
        awaits = λ unfinished. let q = is.awaits unfinished in (
          q.0,
          q.1,
          record {
            env = q.2.env;
            parts = q.2.parts;
            rows = q.2.rows;
            before = q.2.before;
            from = q.2.from;
            after = q.2.after;
            upto = q.2.upto;
            inputs = q.2.inputs;
            rate = q.2.rate;
            are = q.2.are;
            keep = q.2.keep;
          },
        );
      }

  -- ---- heaps

  pub matched_from : (filled : Filled) (old new : HeapState Branch) (seats : Seats) → ComesFrom old new → new.block ≡ old.block → Matched code all filled old seats → Matched code all filled new seats
  matched_from filled old new seats from block m = record {
    within = λ u y at. let x = from u y at in m.within u x.0 x.1;
    apart = λ u v y z at there same. let x = from u y at in let w = from v z there in m.apart u v x.0 w.0 x.1 w.1 same;
    units = λ u y at. let x = from u y at in
        subst (λ b. IsUnit code b all seats u (row_at all (seats.row u)) (slice_index filled (seats.row u)) y) (sym block)
        (unit_like old.block seats u (row_at all (seats.row u)) (slice_index filled (seats.row u)) x.0 y x.2 (m.units u x.0 x.1));
    ordered = λ u y at. let x = from u y at in m.ordered u x.0 x.1;
    unborn = λ u v y z at there. let x = from u y at in let w = from v z there in m.unborn u v x.0 w.0 x.1 w.1;
    disjoint = λ u v y z at there other. let x = from u y at in let w = from v z there in m.disjoint u v x.0 w.0 x.1 w.1 other;
    unfilled = λ u y at. let x = from u y at in m.unfilled u x.0 x.1;
  }

-- ---- one seat more

abbrev pub put : (ℕ → ℕ) → ℕ → ℕ → ℕ → ℕ
put f n k v = if nat_eq v n then k else f v

pub put_at : (f : ℕ → ℕ) (n k v : ℕ) → v ≡ n → put f n k v ≡ k
put_at f n k v e = by_test (eqb_tells v n)
  where
    by_test : ((nat_eq v n ≡ true) × (v ≡ n)) ⊎ ((nat_eq v n ≡ false) × (v ≢ n)) → put f n k v ≡ k
    by_test (inl same) = ap (λ b. if b then k else f v) same.0
    by_test (inr other) = absurd (other.1 e)

pub put_else : (f : ℕ → ℕ) (n k v : ℕ) → v ≢ n → put f n k v ≡ f v
put_else f n k v ne = by_test (eqb_tells v n)
  where
    by_test : ((nat_eq v n ≡ true) × (v ≡ n)) ⊎ ((nat_eq v n ≡ false) × (v ≢ n)) → put f n k v ≡ f v
    by_test (inl same) = absurd (ne same.1)
    by_test (inr other) = ap (λ b. if b then k else f v) other.0

-- unit n is this row, and its parts will make these rows
abbrev pub seated : Seats → ℕ → ℕ → ℕ → ℕ → Seats
seated seats n row from upto = record { row = put seats.row n row; from = put seats.from n from; upto = put seats.upto n upto }
