-- Branches that wait, and the sounds that they keep.
use Rattle.std.proofs.Common.{◌≡◌, ℕ, suc, ◌+◌, ◌-◌, ◌*◌, ◌<◌, ◌≤◌, List, [], ◌∷◌, ◌++◌, length, drop, get_or, Option, None, Some, Vec, Global, Result, Ok, Err, IfOk, OnErr, refl, sym, ap, subst, ◌∙◌, arith, pos}
use Rattle.std.specs.declared.alloc.AllocError.{AllocError}
use Rattle.std.proofs.lemmas.List.{append-nil, append_assoc, drop_more, length-append, map-append}
use Rattle.std.proofs.lemmas.List.FromFn.{map-range_with_len_more}
use Rattle.ny_scope.specs.Scopes.{last_of}
use Rattle.ny_resolve.specs.declared.term.NameId.{NameId}
use Rattle.ny_resolve.specs.Keys.{same_name}
use Rattle.ny_warp.specs.declared.env.Env.{Env}
use Rattle.ny_check.specs.declared.node.ExprId.{ExprId}
use Rattle.ny_check.specs.declared.value.Value.{Value}
use Rattle.ny_check.specs.declared.value.Value.TheVariants.{Number, Sound as SoundOf}
use Rattle.ny_check.specs.Code.{Code}
use Rattle.ny_heap.specs.declared.sound.Sound.{Sound}
use Rattle.ny_heap.specs.Heap.{HeapState}
use Rattle.ny_heap.specs.Reach.{HeapLaws}
use Rattle.ny_heap.specs.Steps.{sounds_of}
use Rattle.ny_hands.specs.declared.branch.Branch.{Branch}
use Rattle.ny_hands.specs.Calls.{ReleasesAll}
use Rattle.ny_hands.specs.Frames.{Names, AllHeld, sounds_among}
use Rattle.ny_hands.specs.Hands.{Hand, InHand, GivesUp}
use Rattle.ny_hands.proofs.HandLemmas.{hand_none, hand_more, hand_shared}
use Rattle.ny_hands.proofs.HeldLemmas.{held_begins}
use Rattle.ny_hands.proofs.SpendLemmas.{all_given_up}
use Rattle.ny_trace.specs.Evaluates.{Part, counted_names, KeepTurn, KeepsTurn, WaitsTurn}
use Rattle.ny_eval.specs.Framed.{FrameState, names_in}
use Rattle.ny_eval.specs.declared.parts.Parts.{Parts}
use Rattle.ny_eval.specs.Parts.{part_at}
use Rattle.ny_eval.specs.Waiting.{KeepsName, kept_in, parts_between, WaitsAlone, WaitAll}
use Rattle.ny_eval.proofs.BodyLemmas.{drop_first}
use Rattle.ny_eval.proofs.FrameLemmas.{held_found}
use Rattle.ny_eval.proofs.MixingLemmas.{last_in_hand, both_given_up}

abbrev Kept : Type 0
Kept = List (NameId × Value ℕ)

-- ---- the names of a branch

-- what the first names of `all` stand for is kept, and `left` are left
pub record KeptSoFar (names : Names) (all left : List NameId) (old new : HeapState Branch) (kept : Kept) (ss : List Sound) : Type 0 where
  pub goes_on : (next : HeapState Branch) (rest : Kept) (others : List Sound) → KeepsTurn names left (length ss) new next rest others → KeepsTurn names all 0 old next (kept ++ rest) (ss ++ others)
  pub hand : Hand old new ss

kept_as : (names : Names) (all left : List NameId) (old new now : HeapState Branch) (kept more : Kept) (ss sss : List Sound) → now ≡ new → more ≡ kept → sss ≡ ss → KeptSoFar names all left old new kept ss → KeptSoFar names all left old now more sss
kept_as names all left old new now kept more ss sss heap names_are sounds_are p =
    subst (λ (h : HeapState Branch). KeptSoFar names all left old h more sss) (sym heap)
    (subst (λ (ks : Kept). KeptSoFar names all left old new ks sss) (sym names_are)
    (subst (λ (xs : List Sound). KeptSoFar names all left old new kept xs) (sym sounds_are) p))

pub kept_none : (names : Names) (all : List NameId) (h : HeapState Branch) (kept : Kept) (ss : List Sound) → kept ≡ [] → ss ≡ [] → HeapLaws h → KeptSoFar names all all h h kept ss
kept_none names all h kept ss no_names no_sounds laws =
    kept_as names all all h h h [] kept [] ss refl no_names no_sounds (record { goes_on = λ next rest others step. step; hand = hand_none h laws })

one_longer : (ss : List Sound) (s : Sound) → length (ss ++ s ∷ []) ≡ suc (length ss)
one_longer ss s = omega (arith, length-append ss (s ∷ []))

pub kept_more : (names : Names) (all : List NameId) (x : NameId) (left : List NameId) (old mid new : HeapState Branch) (kept more : Kept) (ss sss : List Sound) → AllHeld mid names → KeptSoFar names all (x ∷ left) old mid kept ss → KeepsName (last_of (same_name x) names) x mid new kept more ss sss → KeptSoFar names all left old new more sss
kept_more names all x left old mid new kept more ss sss held p step = by_found (last_of (same_name x) names) refl p.goes_on step
  where
    by_found : (o : Option (Value Sound)) → last_of (same_name x) names ≡ o → ((next : HeapState Branch) (rest : Kept) (others : List Sound) → KeepTurn (KeepsTurn names left) o x (length ss) mid next rest others → KeepsTurn names all 0 old next (kept ++ rest) (ss ++ others)) → KeepsName o x mid new kept more ss sss → KeptSoFar names all left old new more sss
    by_found None found goes_on step = kept_as names all left old mid new kept more ss sss step.0 step.1 step.2 (record { goes_on = λ next rest others later. goes_on next rest others later; hand = p.hand })
    by_found (Some (Number v)) found goes_on step =
        kept_as names all left old mid new (kept ++ (x, Number v) ∷ []) more ss sss step.0 step.1 step.2 (record {
          goes_on = λ next rest others later.
              subst (λ (ks : Kept). KeepsTurn names all 0 old next ks (ss ++ others)) (sym (append_assoc kept ((x, Number v) ∷ []) rest))
              (goes_on next ((x, Number v) ∷ rest) others (rest, later, refl));
          hand = p.hand;
        })
    by_found (Some (SoundOf a)) found goes_on step =
        let s = step.0 in
        let is = held_found mid (same_name x) names (SoundOf a) held found in
        kept_as names all left old new new (kept ++ (x, SoundOf (length ss)) ∷ []) more (ss ++ s ∷ []) sss refl step.2 step.3 (record {
          goes_on = λ next rest others later.
              subst (λ (ks : Kept). KeepsTurn names all 0 old next ks ((ss ++ s ∷ []) ++ others)) (sym (append_assoc kept ((x, SoundOf (length ss)) ∷ []) rest))
              (subst (λ (xs : List Sound). KeepsTurn names all 0 old next (kept ++ (x, SoundOf (length ss)) ∷ rest) xs) (sym (append_assoc ss (s ∷ []) others))
              (goes_on next ((x, SoundOf (length ss)) ∷ rest) (s ∷ others)
              (rest, s, others, new, step.1, subst (λ k. KeepsTurn names left k new next rest others) (one_longer ss s) later, refl, refl)));
          hand = hand_more old mid new ss (s ∷ []) p.hand (hand_shared mid new a s p.hand.laws (held_begins mid a is.0 is.1) step.1);
        })

-- the name at a place, where those before it are kept
pub kept_step : (names : Names) (free : List NameId) (i : ℕ) (d : NameId) (old mid new : HeapState Branch) (kept more : Kept) (ss sss : List Sound) → i < length free → AllHeld mid names → KeptSoFar names free (drop i free) old mid kept ss → KeepsName (last_of (same_name (get_or free i d)) names) (get_or free i d) mid new kept more ss sss → KeptSoFar names free (drop (i + 1) free) old new more sss
kept_step names free i d old mid new kept more ss sss within held p step =
    kept_more names free (get_or free i d) (drop (i + 1) free) old mid new kept more ss sss held
    (subst (λ (xs : List NameId). KeptSoFar names free xs old mid kept ss) (drop_more free i d within) p) step

pub kept_all : (names : Names) (all left : List NameId) (old new : HeapState Branch) (kept : Kept) (ss : List Sound) → left ≡ [] → KeptSoFar names all left old new kept ss → KeepsTurn names all 0 old new kept ss
kept_all names all left old new kept ss none p =
    let last : KeepsTurn names left (length ss) new new [] [] = subst (λ (xs : List NameId). KeepsTurn names xs (length ss) new new [] []) (sym none) (refl, refl, refl) in
    subst (λ (ks : Kept). KeepsTurn names all 0 old new ks ss) (append-nil kept)
    (subst (λ (xs : List Sound). KeepsTurn names all 0 old new (kept ++ []) xs) (append-nil ss) (p.goes_on new [] [] last))

-- a name that was refused leaves what is in hand
pub hand_still : (old mid new : HeapState Branch) (ss sss : List Sound) → new ≡ mid → sss ≡ ss → Hand old mid ss → Hand old new sss
hand_still old mid new ss sss heap list hand =
    subst (λ (h : HeapState Branch). Hand old h sss) (sym heap) (subst (λ (xs : List Sound). Hand old mid xs) (sym list) hand)

-- all that is in hand is given up
pub list_given_up : (old mid new : HeapState Branch) (ss items : List Sound) → items ≡ ss → HeapLaws old → Hand old mid ss → GivesUp mid new items → Hand old new []
list_given_up old mid new ss items same laws hand gives = all_given_up old mid new ss laws hand (subst (λ (xs : List Sound). GivesUp mid new xs) same gives)

-- ---- one branch

pub waits_alone : (code : Code) (env : Env) (e : ExprId) (names : Names) (free : List NameId) (old new : HeapState Branch) (kept : Kept) (ss : List Sound) → free ≡ get_or code.free e.0 [] → KeepsTurn names free 0 old new kept ss → Hand old new ss → WaitsAlone code env (e, names) old new (record { expr = e; env = env; names = kept }, ss)
waits_alone code env e names free old new kept ss is turn hand = record {
  turn = (new, refl, refl, subst (λ (xs : List NameId). KeepsTurn names xs 0 old new kept ss) is turn, refl);
  hand = hand;
}

-- the part of the code is that at the place
pub alone_at : (code : Code) (env copy : Env) (names ns : Names) (parts : Parts) (k : ℕ) (e : ExprId) (old new : HeapState Branch) (q : Branch × List Sound) → part_at names parts k ≡ (e, ns) → copy ≡ env → WaitsAlone code copy (e, ns) old new q → WaitsAlone code env (part_at names parts k) old new q
alone_at code env copy names ns parts k e old new q is same waits =
    subst (λ (p : Part). WaitsAlone code env p old new q) (sym is) (subst (λ (v : Env). WaitsAlone code v (e, ns) old new q) same waits)

-- what came into hand with a branch, or nothing
pub branch_hand : (code : Code) (env : Env) (p : Part) (mid end : HeapState Branch) (r : Result (Branch × Vec Sound Global) AllocError) → HeapLaws mid → IfOk r (λ (q : Branch × Vec Sound Global). WaitsAlone code env p mid end (q.0, q.1.items)) → OnErr r (Hand mid end []) → (ss : List Sound) × Hand mid end ss
branch_hand code env p mid end (Ok q) laws waits refused = (q.1.items, waits.hand)
branch_hand code env p mid end (Err fault) laws waits refused = ([], refused)

-- a name that stood for a number is given up with nothing
pub alone_counted : (code : Code) (env : Env) (e : ExprId) (f g : FrameState) (i : NameId) (v : Value Sound) (k m : ℕ) (h mid end new : HeapState Branch) (q : Branch × List Sound) → v ≡ Number (pos (k * 1000000)) → mid ≡ h → g ≡ record f { bound = f.bound ++ (i, v) ∷ [] } → m ≡ length f.bound → names_in g ≡ counted_names (names_in f) i k → ReleasesAll end new (sounds_among (drop m g.bound)) → WaitsAlone code env (e, names_in g) mid end q → WaitsAlone code env (e, counted_names (names_in f) i k) h new q
alone_counted code env e f g i v k m h mid end new q number same bound count names_are given waits =
    let left : drop m g.bound ≡ (i, v) ∷ [] = ap (λ j. drop j g.bound) count ∙ (ap (λ (r : FrameState). drop (length f.bound) r.bound) bound ∙ drop_first f.bound ((i, v) ∷ [])) in
    let none : end ≡ new = subst (λ (u : Value Sound). ReleasesAll end new (sounds_among ((i, u) ∷ []))) number (subst (λ (xs : Names). ReleasesAll end new (sounds_among xs)) left given) in
    subst (λ (n : HeapState Branch). WaitsAlone code env (e, counted_names (names_in f) i k) n new q) same
    (subst (λ (n : HeapState Branch). WaitsAlone code env (e, counted_names (names_in f) i k) mid n q) none
    (subst (λ (xs : Names). WaitsAlone code env (e, xs) mid end q) names_are waits))

-- ---- several branches

pub wait_none : (code : Code) (env : Env) (names : Names) (parts : Parts) (from n : ℕ) (h : HeapState Branch) (qs : List (Branch × Vec Sound Global)) → n ≡ 0 → qs ≡ [] → HeapLaws h → WaitAll code env (parts_between names parts from n) h h (kept_in qs)
wait_none code env names parts from n h qs few none laws =
    subst (λ k. WaitAll code env (parts_between names parts from k) h h (kept_in qs)) (sym few)
    (subst (λ (xs : List (Branch × Vec Sound Global)). WaitAll code env [] h h (kept_in xs)) (sym none) (record { turn = refl; hand = hand_none h laws }))

waits_then : (code : Code) (env : Env) (ps : List Part) (old mid new : HeapState Branch) (qs : List (Branch × List Sound)) (p : Part) (q : Branch × List Sound) → WaitsTurn code env ps old mid qs → WaitsTurn code env (p ∷ []) mid new (q ∷ []) → WaitsTurn code env (ps ++ p ∷ []) old new (qs ++ q ∷ [])
waits_then code env [] old mid new [] p q first second = subst (λ (h : HeapState Branch). WaitsTurn code env (p ∷ []) h new (q ∷ [])) (sym first) second
waits_then code env [] old mid new (r ∷ qs) p q first second = absurd first
waits_then code env (o ∷ ps) old mid new [] p q first second = absurd first
waits_then code env (o ∷ ps) old mid new (r ∷ qs) p q first second = (first.0, first.1, first.2, first.3, waits_then code env ps first.0 mid new qs p q first.4 second)

sounds_then : (qs : List (Branch × List Sound)) (q : Branch × List Sound) → sounds_of qs ++ q.1 ≡ sounds_of (qs ++ q ∷ [])
sounds_then [] q = sym (append-nil q.1)
sounds_then (r ∷ qs) q = append_assoc r.1 (sounds_of qs) q.1 ∙ ap (λ (ss : List Sound). r.1 ++ ss) (sounds_then qs q)

pub wait_more : (code : Code) (env : Env) (f g : FrameState) (parts : Parts) (from n k : ℕ) (old mid new : HeapState Branch) (qs more : List (Branch × Vec Sound Global)) (q : Branch × Vec Sound Global) → g ≡ f → from + n ≡ k → WaitAll code env (parts_between (names_in f) parts from n) old mid (kept_in qs) → WaitsAlone code env (part_at (names_in g) parts k) mid new (q.0, q.1.items) → more ≡ qs ++ q ∷ [] → WaitAll code env (parts_between (names_in f) parts from (n + 1)) old new (kept_in more)
wait_more code env f g parts from n k old mid new qs more q same place p step list =
    subst (λ (xs : List (Branch × List Sound)). WaitAll code env (parts_between (names_in f) parts from (n + 1)) old new xs) (sym kept_are)
    (subst (λ (ps : List Part). WaitAll code env ps old new (kept_in qs ++ one ∷ [])) (sym (map-range_with_len_more (part_at (names_in f) parts) from n k place)) (record {
      turn = waits_then code env (parts_between (names_in f) parts from n) old mid new (kept_in qs) (part_at (names_in f) parts k) one p.turn now.turn;
      hand = subst (λ (ss : List Sound). Hand old new ss) (sounds_then (kept_in qs) one) (hand_more old mid new (sounds_of (kept_in qs)) q.1.items p.hand now.hand);
    }))
  where
    one : Branch × List Sound
    one = (q.0, q.1.items)

    now : WaitsAlone code env (part_at (names_in f) parts k) mid new one
    now = subst (λ (r : FrameState). WaitsAlone code env (part_at (names_in r) parts k) mid new one) same step

    kept_are : kept_in more ≡ kept_in qs ++ one ∷ []
    kept_are = ap kept_in list ∙ map-append (λ (r : Branch × Vec Sound Global). let w : Branch × List Sound = (r.0, r.1.items) in w) qs (q ∷ [])

pub wait_count : (code : Code) (env : Env) (names : Names) (parts : Parts) (from n m : ℕ) (old new : HeapState Branch) (qs : List (Branch × List Sound)) → n ≡ m → WaitAll code env (parts_between names parts from n) old new qs → WaitAll code env (parts_between names parts from m) old new qs
wait_count code env names parts from n m old new qs same p = subst (λ k. WaitAll code env (parts_between names parts from k) old new qs) same p

-- the branch at place k
pub wait_next : (code : Code) (env : Env) (f g : FrameState) (parts : Parts) (from k : ℕ) (old mid new : HeapState Branch) (qs more : List (Branch × Vec Sound Global)) (q : Branch × Vec Sound Global) → g ≡ f → from ≤ k → WaitAll code env (parts_between (names_in f) parts from (k - from)) old mid (kept_in qs) → WaitsAlone code env (part_at (names_in g) parts k) mid new (q.0, q.1.items) → more ≡ qs ++ q ∷ [] → WaitAll code env (parts_between (names_in f) parts from (k + 1 - from)) old new (kept_in more)
wait_next code env f g parts from k old mid new qs more q same behind p step list =
    wait_count code env (names_in f) parts from (k - from + 1) (k + 1 - from) old new (kept_in more) (omega (arith, behind))
    (wait_more code env f g parts from (k - from) k old mid new qs more q same (omega (arith, behind)) p step list)

-- a branch that was refused leaves those before it
pub wait_refused : (code : Code) (env : Env) (ps : List Part) (old mid new : HeapState Branch) (qs : List (Branch × List Sound)) → WaitAll code env ps old mid qs → Hand mid new [] → Hand old new (sounds_of qs)
wait_refused code env ps old mid new qs p refused = subst (λ (ss : List Sound). Hand old new ss) (append-nil (sounds_of qs)) (hand_more old mid new (sounds_of qs) [] p.hand refused)

-- ---- branches that are given up

pub kept_first : (qs rest : List (Branch × Vec Sound Global)) (q : Branch × Vec Sound Global) → qs ≡ q ∷ rest → sounds_of (kept_in qs) ≡ q.1.items ++ sounds_of (kept_in rest)
kept_first qs rest q list = ap (λ (xs : List (Branch × Vec Sound Global)). sounds_of (kept_in xs)) list

-- of one that leaves
module _ (old new : HeapState Branch) (left rest : List (Branch × Vec Sound Global)) (q : Branch × Vec Sound Global) (items : List Sound) (list : left ≡ q ∷ rest) (same : items ≡ q.1.items) (gives : GivesUp old new items) where
  given : GivesUp old new q.1.items
  given = subst (λ (ss : List Sound). GivesUp old new ss) same gives

  pub branches_in_hand : InHand old (sounds_of (kept_in left)) → InHand new (sounds_of (kept_in rest))
  branches_in_hand hands = last_in_hand old new q.1.items (sounds_of (kept_in rest)) (subst (λ (ss : List Sound). InHand old ss) (kept_first left rest q list) hands) given

  pub branches_given_up : (end : HeapState Branch) → GivesUp new end (sounds_of (kept_in rest)) → GivesUp old end (sounds_of (kept_in left))
  branches_given_up end last = subst (λ (ss : List Sound). GivesUp old end ss) (sym (kept_first left rest q list)) (both_given_up old new end q.1.items (sounds_of (kept_in rest)) given last)

pub kept_nothing : (qs : List (Branch × Vec Sound Global)) → qs ≡ [] → sounds_of (kept_in qs) ≡ []
kept_nothing qs none = ap (λ (xs : List (Branch × Vec Sound Global)). sounds_of (kept_in xs)) none
