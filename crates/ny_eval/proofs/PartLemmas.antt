-- The parts of a mix, one after another.
use Rattle.std.proofs.Common.{◌≡◌, ℕ, ◌+◌, ◌*◌, ◌<◌, List, [], ◌∷◌, ◌++◌, length, map, drop, refl, sym, ap, subst, ◌∙◌, arith, pos}
use Rattle.std.specs.List.{range_with_len}
use Rattle.std.proofs.lemmas.List.{append-nil, append_assoc, get_or-map, length-map}
use Rattle.std.proofs.lemmas.List.FromFn.{map-range_with_len_more, fill_by_all}
use Rattle.ny_warp.specs.declared.env.Env.{Env}
use Rattle.ny_resolve.specs.declared.term.NameId.{NameId}
use Rattle.ny_check.specs.declared.node.ExprId.{ExprId}
use Rattle.ny_check.specs.declared.value.Value.{Value}
use Rattle.ny_check.specs.declared.value.Value.TheVariants.{Number}
use Rattle.ny_check.specs.Code.{Code, IsOrdered}
use Rattle.ny_heap.specs.declared.sound.Sound.{Sound}
use Rattle.ny_heap.specs.Heap.{HeapState}
use Rattle.ny_heap.specs.Reach.{HeapLaws}
use Rattle.ny_hands.specs.declared.branch.Branch.{Branch}
use Rattle.ny_hands.specs.Calls.{ReleasesAll}
use Rattle.ny_hands.specs.Frames.{Names, AllHeld, sounds_among}
use Rattle.ny_hands.specs.Hands.{Hand, InHand, GivesUp}
use Rattle.ny_hands.proofs.HandLemmas.{hand_none, hand_more}
use Rattle.ny_hands.proofs.HeldLemmas.{held_append}
use Rattle.ny_hands.proofs.SpendLemmas.{all_in_hand, all_given_up}
use Rattle.ny_trace.specs.Evaluates.{Trace, Part, parts_of, counted_names, PartsTurn, Evaluates, sounds_of_values}
use Rattle.ny_trace.specs.Laws.{KeepsFree}
use Rattle.ny_trace.proofs.EvaluationLemmas.{below_all}
use Rattle.ny_trace.proofs.StepLemmas.{lifted}
use Rattle.ny_eval.specs.Framed.{FrameState, names_in, HasGrown}
use Rattle.ny_eval.specs.declared.parts.Parts.{Parts}
use Rattle.ny_eval.specs.declared.parts.Parts.TheVariants.{Listed, Counted}
use Rattle.ny_eval.specs.Parts.{count_in, parts_in, part_at, AreBelow}
use Rattle.ny_eval.proofs.BodyLemmas.{drop_first, below_at}
use Rattle.ny_eval.proofs.EvalLemmas.{sound_hand}

-- ---- the part at a place

pub part_below : (n : ℕ) (names : Names) (parts : Parts) (k : ℕ) → k < count_in parts → AreBelow n parts → (part_at names parts k).0.0 < n
part_below n names (Listed es) k within below = below_at n es.now k (record { 0 = 0 }) within below
part_below n names (Counted i count e) k within below = below

-- what its names stand for is held
pub part_held : (h : HeapState Branch) (names : Names) (parts : Parts) (k : ℕ) → AllHeld h names → AllHeld h (part_at names parts k).1
part_held h names (Listed es) k held = held
part_held h names (Counted i count e) k held = held_append h names ((i, Number (pos (k * 1000000))) ∷ []) held (tt, tt)

pub parts_all : (names : Names) (parts : Parts) (k : ℕ) → k ≡ count_in parts → map (part_at names parts) (range_with_len 0 k) ≡ parts_in names parts
parts_all names (Listed es) k is =
    ap (λ n. map (part_at names (Listed es)) (range_with_len 0 n)) is
    ∙ sym (fill_by_all (part_at names (Listed es)) (parts_of names es.now) (length es.now) ((record { 0 = 0 }), []) (length-map es.now under) (λ j within. get_or-map under es.now j (record { 0 = 0 }) ((record { 0 = 0 }), []) within))
  where
    under : ExprId → Part
    under e = (e, names)
parts_all names (Counted i count e) k is = ap (λ n. map (part_at names (Counted i count e)) (range_with_len 0 n)) is

-- the part that code evaluates in these names
module _ (names : Names) (parts : Parts) (k : ℕ) (x : ExprId) (ns : Names) (is : part_at names parts k ≡ (x, ns)) (within : k < count_in parts) where
  pub expr_below : (n : ℕ) → AreBelow n parts → x.0 < n
  expr_below n below = subst (λ (q : Part). q.0.0 < n) is (part_below n names parts k within below)

  pub part_turn : (code : Code) (n : ℕ) (env : Env) (old new : HeapState Branch) (s : Sound) → AreBelow n parts → Evaluates code (x.0 + 1) x.0 env ns old new s → Evaluates code n (part_at names parts k).0.0 env (part_at names parts k).1 old new s
  part_turn code n env old new s below turn =
      subst (λ (q : Part). Evaluates code n q.0.0 env q.1 old new s) (sym is) (lifted code (x.0 + 1) n x.0 env ns old new s (omega (arith, expr_below n below)) turn)

-- ---- a name that stands for a number while a part is evaluated

module _ (f g : FrameState) (h : HeapState Branch) (i : NameId) (v : Value Sound) (k : ℕ) (laws : HeapLaws h) (number : v ≡ Number (pos (k * 1000000))) where
  pub number_in_hand : InHand h (sounds_of_values (v ∷ []))
  number_in_hand = all_in_hand h h (sounds_of_values (v ∷ [])) laws (subst (λ (u : Value Sound). Hand h h (sounds_of_values (u ∷ []))) (sym number) (hand_none h laws))

  pub number_given_up : (new : HeapState Branch) → GivesUp h new (sounds_of_values (v ∷ [])) → Hand h new []
  number_given_up new gives = all_given_up h h new (sounds_of_values (v ∷ [])) laws (subst (λ (u : Value Sound). Hand h h (sounds_of_values (u ∷ []))) (sym number) (hand_none h laws)) gives

  module _ (mid : HeapState Branch) (same : mid ≡ h) (bound : g ≡ record f { bound = f.bound ++ (i, v) ∷ [] }) where
    pub number_grown : HasGrown f g h mid
    number_grown = record {
      added = (i, v) ∷ [];
      frame = bound;
      hand = subst (λ (m : HeapState Branch). Hand h m (sounds_among ((i, v) ∷ []))) (sym same) (subst (λ (u : Value Sound). Hand h h (sounds_among ((i, u) ∷ []))) (sym number) (hand_none h laws));
    }

    pub number_names : names_in g ≡ counted_names (names_in f) i k
    number_names = ap names_in bound ∙ (sym (append_assoc f.lent f.bound ((i, v) ∷ [])) ∙ ap (λ (u : Value Sound). names_in f ++ (i, u) ∷ []) number)

    -- the part under it: nothing is given up afterwards
    pub counted_turn : (code : Code) (n e : ℕ) (env : Env) (l : FrameState) (m : ℕ) (end new : HeapState Branch) (s : Sound) → l ≡ g → m ≡ length f.bound → ReleasesAll end new (sounds_among (drop m l.bound)) → Evaluates code n e env (names_in g) mid end s → Evaluates code n e env (counted_names (names_in f) i k) h new s
    counted_turn code n e env l m end new s still count given turn =
        let left : drop m l.bound ≡ (i, v) ∷ [] = ap (λ j. drop j l.bound) count ∙ (ap (λ (q : FrameState). drop (length f.bound) q.bound) (still ∙ bound) ∙ drop_first f.bound ((i, v) ∷ [])) in
        let none : end ≡ new = subst (λ (u : Value Sound). ReleasesAll end new (sounds_among ((i, u) ∷ []))) number (subst (λ (ns : Names). ReleasesAll end new (sounds_among ns)) left given) in
        subst (λ (m : HeapState Branch). Evaluates code n e env (counted_names (names_in f) i k) m new s) same
        (subst (λ (m : HeapState Branch). Evaluates code n e env (counted_names (names_in f) i k) mid m s) none
        (subst (λ (ns : Names). Evaluates code n e env ns mid end s) number_names turn))

-- ---- one part after another

parts_then : (D : Trace) (env : Env) (ps : List Part) (old mid new : HeapState Branch) (ss : List Sound) (p : Part) (s : Sound) → PartsTurn D env ps old mid ss → D p.0.0 env p.1 mid new s → PartsTurn D env (ps ++ p ∷ []) old new (ss ++ s ∷ [])
parts_then D env [] old mid new [] p s first second = (new, subst (λ (h : HeapState Branch). D p.0.0 env p.1 h new s) (sym first) second, refl)
parts_then D env [] old mid new (t ∷ ss) p s first second = absurd first
parts_then D env (q ∷ ps) old mid new [] p s first second = absurd first
parts_then D env (q ∷ ps) old mid new (t ∷ ss) p s first second = (first.0, first.1, parts_then D env ps first.0 mid new ss p s first.2 second)

-- the first k parts
pub record PartsSoFar (code : Code) (n : ℕ) (env : Env) (names : Names) (parts : Parts) (k : ℕ) (old new : HeapState Branch) (ss : List Sound) : Type 0 where
  pub turn : PartsTurn (Evaluates code n) env (map (part_at names parts) (range_with_len 0 k)) old new ss
  pub hand : Hand old new ss

pub parts_none : (code : Code) (n : ℕ) (env : Env) (names : Names) (parts : Parts) (h : HeapState Branch) (ss : List Sound) → ss ≡ [] → HeapLaws h → PartsSoFar code n env names parts 0 h h ss
parts_none code n env names parts h ss none laws = subst (λ xs. PartsSoFar code n env names parts 0 h h xs) (sym none) (record { turn = refl; hand = hand_none h laws })

pub parts_refused : (code : Code) (n : ℕ) (env : Env) (names : Names) (parts : Parts) (k : ℕ) (old mid new : HeapState Branch) (ss : List Sound) → PartsSoFar code n env names parts k old mid ss → Hand mid new [] → Hand old new ss
parts_refused code n env names parts k old mid new ss p refused = subst (λ xs. Hand old new xs) (append-nil ss) (hand_more old mid new ss [] p.hand refused)

pub parts_more : (code : Code) → IsOrdered code → KeepsFree code → (n : ℕ) (env copy : Env) (f g : FrameState) (parts : Parts) (k : ℕ) (old mid new : HeapState Branch) (ss more : List Sound) (s : Sound) → n < length code.nodes → copy ≡ env → g ≡ f → k < count_in parts → AreBelow n parts → AllHeld mid (names_in g) → PartsSoFar code n env (names_in f) parts k old mid ss → Evaluates code n (part_at (names_in g) parts k).0.0 copy (part_at (names_in g) parts k).1 mid new s → more ≡ ss ++ s ∷ [] → PartsSoFar code n env (names_in f) parts (k + 1) old new more
parts_more code ordered free n env copy f g parts k old mid new ss more s inside same still within below held p turn list =
    let now : Evaluates code n (part_at (names_in f) parts k).0.0 env (part_at (names_in f) parts k).1 mid new s =
    subst (λ (q : FrameState). Evaluates code n (part_at (names_in q) parts k).0.0 env (part_at (names_in q) parts k).1 mid new s) still
    (subst (λ (q : Env). Evaluates code n (part_at (names_in g) parts k).0.0 q (part_at (names_in g) parts k).1 mid new s) same turn) in
    let hand = sound_hand code ordered free n (part_at (names_in g) parts k).0.0 copy (part_at (names_in g) parts k).1 mid new s (omega (arith, inside, part_below n (names_in g) parts k within below)) p.hand.laws (part_held mid (names_in g) parts k held) turn in
    subst (λ xs. PartsSoFar code n env (names_in f) parts (k + 1) old new xs) (sym list) (record {
      turn = subst (λ (ps : List Part). PartsTurn (Evaluates code n) env ps old new (ss ++ s ∷ [])) (sym (map-range_with_len_more (part_at (names_in f) parts) 0 k k (omega arith)))
          (parts_then (Evaluates code n) env (map (part_at (names_in f) parts) (range_with_len 0 k)) old mid new ss (part_at (names_in f) parts k) s p.turn now);
      hand = hand_more old mid new ss (s ∷ []) p.hand hand;
    })

-- parts that stand before a node stand in the table
pub below_table : (n : ℕ) (code : Code) (parts : Parts) → n < length code.nodes → AreBelow n parts → AreBelow (length code.nodes) parts
below_table n code (Listed es) inside below = below_all n (length code.nodes) es.now (omega (arith, inside)) below
below_table n code (Counted i count e) inside below = omega (arith, inside, below)
