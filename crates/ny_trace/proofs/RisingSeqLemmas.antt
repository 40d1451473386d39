-- How high a sequence stands, with room under the parts that wait.
use Rattle.std.proofs.Common.{◌≡◌, ℕ, zero, suc, ◌+◌, ◌<◌, ◌≤◌, max, true, false, if◌then◌else◌, List, [], ◌∷◌, ◌++◌, length, map, get_or, slice_get, Option, None, Some, refl, sym, ap, subst, ◌∙◌, arith, pos}
use Rattle.std.specs.Prelude.{nat_lt, unwrap_or, Bool}
use Rattle.std.specs.List.{All}
use Rattle.std.proofs.lemmas.List.{append_assoc, append-nil}
use Rattle.std.proofs.lemmas.List.Elements.{All-nil, All-cons}
use Rattle.ny_scope.specs.Scopes.{last_of}
use Rattle.ny_scope.proofs.Mapped.{OfValue, last_of-has}
use Rattle.ny_resolve.specs.declared.term.NameId.{NameId}
use Rattle.ny_resolve.specs.Keys.{same_name}
use Rattle.ny_num.specs.Grid.{index_at}
use Rattle.ny_num.specs.Sound.{placed_timing}
use Rattle.ny_num.specs.declared.timing.Timing.{Timing}
use Rattle.ny_warp.specs.declared.env.Env.{Env}
use Rattle.ny_warp.specs.Environment.{from_stop}
use Rattle.ny_check.specs.declared.node.ExprId.{ExprId}
use Rattle.ny_check.specs.declared.value.Value.{Value}
use Rattle.ny_check.specs.declared.value.Value.TheVariants.{Number, Sound as SoundOf}
use Rattle.ny_check.specs.Code.{Code}
use Rattle.ny_heap.specs.declared.sound.Sound.{Sound}
use Rattle.ny_heap.specs.Heap.{Node, Waiting, Captured, Mix, HeapState, node_at, list_of, place_of}
use Rattle.ny_heap.specs.Reach.{HeapLaws}
use Rattle.ny_heap.specs.Steps.{waiting_of, captured_of, sounds_of}
use Rattle.ny_hands.proofs.OptionLemmas.{none_some}
use Rattle.ny_hands.proofs.HeapLemmas.{Length, Empty, Long, length_of}
use Rattle.ny_hands.specs.declared.branch.Branch.{Branch}
use Rattle.ny_hands.specs.Calls.{Shares, Places}
use Rattle.ny_hands.specs.Frames.{Names, sounds_among}
use Rattle.ny_trace.specs.Evaluates.{Trace, Part, NextsTurn, KeepTurn, KeepsTurn, WaitsTurn, SeqTurn}
use Rattle.ny_hands.specs.Hands.{AllBegin, Hand}
use Rattle.ny_trace.specs.Laws.{IsLawful}
use Rattle.ny_trace.specs.Heights.{HasRoom, Ranks, AreLow, Stands, IsRising, tallest}
use Rattle.ny_hands.proofs.MarkLemmas.{like_more, marked_like}
use Rattle.ny_hands.proofs.HandLemmas.{hand_more, hand_turned, begin_first, begin_last}
use Rattle.ny_hands.proofs.PlaceLemmas.{placed_len, hand_placed}
use Rattle.ny_hands.proofs.NameLemmas.{named_kept}
use Rattle.ny_hands.proofs.SpendLemmas.{hand_brought}
use Rattle.ny_trace.proofs.HeightLemmas.{ComesFrom, low_append, low_more, low_later, from_trimmed, hand_there, stands_from, stands_wider, stands_seq, stands_made, step_brought}
use Rattle.ny_trace.proofs.MixLemmas.{AreParts, parts_kept, parts_first, parts_last}
use Rattle.ny_trace.proofs.RisingLemmas.{names_low, PartsLow, parts_low}
use Rattle.ny_trace.proofs.WaitLemmas.{waits_come, waits_sounds}
use Rattle.std.specs.Option.{option_map_or}

-- ---- placing and sharing add no unit

pub from_placed : (mid new : HeapState Branch) (f : Timing → Timing) (a s : Sound) → Places mid new f a s → ComesFrom mid new
from_placed mid new f a s step = by_length (length_of s.timing)
  where
    by_length : Length s.timing → ComesFrom mid new
    by_length (Empty e f) = from_trimmed mid new (a ∷ []) (step.all e)
    by_length (Long e f) = subst (λ h. ComesFrom mid h) (sym (step.some e)) (λ v y at. (y, at, refl))

pub placed_low : (mid new : HeapState Branch) (f : Timing → Timing) (a s : Sound) (rank : ℕ → ℕ) (b : ℕ) → Places mid new f a s → AreLow rank b (a ∷ []) → AreLow rank b (s ∷ [])
placed_low mid new f a s rank b step low = (each, tt)
  where
    by_test : (t : Bool) (n : ℕ) → (if t then list_of a else None) ≡ Some n → list_of a ≡ Some n
    by_test true n is = is
    by_test false n is = absurd (none_some None n refl is)

    each : (n : ℕ) → list_of s ≡ Some n → rank n < b
    each n is = low.0 n (by_test (nat_lt 0 s.timing.len) n (sym step.list ∙ is))

from_more : (a b c : HeapState Branch) → ComesFrom a b → ComesFrom b c → ComesFrom a c
from_more a b c p q v z at = let y = q v z at in let x = p v y.0 y.1 in (x.0, x.1, like_more x.0 y.0 z x.2 y.2)

pub from_shared : (old new : HeapState Branch) (a s : Sound) → Shares old new a s → ComesFrom old new
from_shared old new a s step = subst (λ h. ComesFrom old h) (sym step.heap) (λ v y at. let x = (marked_like (λ n. n + 1) old (place_of s) (list_of s)).from v y at in (x.0, x.1, x.2))

-- ---- names

abbrev LowValue : (ℕ → ℕ) → ℕ → Value Sound → Type 0
LowValue rank b (Number v) = Unit {0}
LowValue rank b (SoundOf s) = (n : ℕ) → list_of s ≡ Some n → rank n < b

all_low : (rank : ℕ → ℕ) (b : ℕ) (names : Names) → AreLow rank b (sounds_among names) → All (OfValue {K = NameId} (LowValue rank b)) names
all_low rank b [] low = All-nil (OfValue {K = NameId} (LowValue rank b))
all_low rank b ((x, Number v) ∷ bs) low = All-cons (OfValue {K = NameId} (LowValue rank b)) (x, Number v) bs tt (all_low rank b bs low)
all_low rank b ((x, SoundOf s) ∷ bs) low = All-cons (OfValue {K = NameId} (LowValue rank b)) (x, SoundOf s) bs low.0 (all_low rank b bs low.1)

pub low_found : (rank : ℕ → ℕ) (b : ℕ) (is : NameId → Bool) (names : Names) (a : Sound) → AreLow rank b (sounds_among names) → last_of is names ≡ Some (SoundOf a) → (n : ℕ) → list_of a ≡ Some n → rank n < b
low_found rank b is names a low found =
    let other : Value Sound = Number (pos 0) in
    subst (λ o. LowValue rank b (unwrap_or o other)) found (last_of-has (LowValue rank b) is names other (all_low rank b names low) tt)

-- ---- what branches keep

keeps_low : (names : Names) (xs : List NameId) (k : ℕ) (old new : HeapState Branch) (kept : List (NameId × Value ℕ)) (ss : List Sound) (rank : ℕ → ℕ) (b : ℕ) → AreLow rank b (sounds_among names) → KeepsTurn names xs k old new kept ss → ComesFrom old new × AreLow rank b ss
keeps_low names [] k old new kept ss rank b low step = (subst (λ h. ComesFrom old h) step.2 (λ v y at. (y, at, refl)), subst (AreLow rank b) (sym step.1) tt)
keeps_low names (x ∷ xs) k old new kept ss rank b low step = by_found (λ k from kept ss step. keeps_low names xs k from new kept ss rank b low step) (last_of (same_name x) names) refl step
  where
    by_found : ((k : ℕ) (from : HeapState Branch) (kept : List (NameId × Value ℕ)) (ss : List Sound) → KeepsTurn names xs k from new kept ss → ComesFrom from new × AreLow rank b ss) → (o : Option (Value Sound)) → last_of (same_name x) names ≡ o → KeepTurn (KeepsTurn names xs) o x k old new kept ss → ComesFrom old new × AreLow rank b ss
    by_found more None e step = more k old kept ss step
    by_found more (Some (Number v)) e step = more k old step.0 ss step.1
    by_found more (Some (SoundOf a)) e step =
        let rest = more (suc k) step.3 step.0 step.2 step.5 in
        (from_more old step.3 new (from_shared old step.3 a step.1 step.4) rest.0, subst (AreLow rank b) (sym step.7) ((λ n is. low_found rank b (same_name x) names a low e n (sym step.4.list ∙ is)), rest.1))

low_captured : (rank : ℕ → ℕ) (b : ℕ) (ss : List Sound) → AreLow rank b ss → (i : ℕ) (c : Captured) (n : ℕ) → slice_get (map captured_of ss) i ≡ Some c → c.node ≡ Some n → rank n < b
low_captured rank b [] low i c n at is = absurd (never at)
  where
    never : None ≡ Some c → ⊥
    never q = cc
low_captured rank b (s ∷ ss) low zero c n at is = low.0 n (same at ∙ is)
  where
    same : Some (captured_of s) ≡ Some c → list_of s ≡ c.node
    same q = ap (λ (o : Option Captured). option_map_or (λ (d : Captured). d.node) o None) q
low_captured rank b (s ∷ ss) low (suc i) c n at is = low_captured rank b ss low.1 i c n at is

captured_there : (h : HeapState Branch) (ss : List Sound) → AllBegin h ss → (i : ℕ) (c : Captured) (n : ℕ) → slice_get (map captured_of ss) i ≡ Some c → c.node ≡ Some n → (x : Node Branch) × (node_at h n ≡ Some x)
captured_there h [] b i c n at is = absurd (never at)
  where
    never : None ≡ Some c → ⊥
    never q = cc
captured_there h (s ∷ ss) b zero c n at is = let x = b.0.shown n (same at ∙ is) in (x.unit, x.there)
  where
    same : Some (captured_of s) ≡ Some c → list_of s ≡ c.node
    same q = ap (λ (o : Option Captured). option_map_or (λ (d : Captured). d.node) o None) q
captured_there h (s ∷ ss) b (suc i) c n at is = captured_there h ss b.1 i c n at is

waiting_there : (h : HeapState Branch) (ps : List (Branch × List Sound)) → AllBegin h (sounds_of ps) → (i j : ℕ) (q : Waiting Branch) (d : Captured) (k : ℕ) → slice_get (map waiting_of ps) i ≡ Some q → slice_get q.captured j ≡ Some d → d.node ≡ Some k → (x : Node Branch) × (node_at h k ≡ Some x)
waiting_there h [] b i j q d k at one is = absurd (never at)
  where
    never : None ≡ Some q → ⊥
    never e = cc
waiting_there h (p ∷ ps) b zero j q d k at one is = captured_there h p.1 (begin_first h p.1 (sounds_of ps) b) j d k (same at ∙ one) is
  where
    same : Some (waiting_of p) ≡ Some q → slice_get (map captured_of p.1) j ≡ slice_get q.captured j
    same e = ap (λ (o : Option (Waiting Branch)). option_map_or (λ (w : Waiting Branch). slice_get w.captured j) o (slice_get (map captured_of p.1) j)) e
waiting_there h (p ∷ ps) b (suc i) j q d k at one is = waiting_there h ps (begin_last h p.1 (sounds_of ps) b) i j q d k at one is

module _ (code : Code) (tall : ℕ → ℕ) where
  waits_low : (env : Env) (ps : List Part) (old new : HeapState Branch) (qs : List (Branch × List Sound)) (rank : ℕ → ℕ) (b height : ℕ) → PartsLow rank b ps → b + tallest tall ps < height → WaitsTurn code env ps old new qs → ComesFrom old new × AreLow rank b (sounds_of qs) × ((i : ℕ) (q : Waiting Branch) → slice_get (map waiting_of qs) i ≡ Some q → HasRoom tall rank height q)
  waits_low env [] old new [] rank b height low room step = (subst (λ h. ComesFrom old h) step (λ v y at. (y, at, refl)), tt, λ i q at. absurd (never q at))
    where
      never : (q : Waiting Branch) → None ≡ Some q → ⊥
      never q e = cc
  waits_low env [] old new (q ∷ qs) rank b height low room step = absurd step
  waits_low env (p ∷ ps) old new [] rank b height low room step = absurd step
  waits_low env (p ∷ ps) old new (w ∷ ws) rank b height low room step =
      let first = keeps_low p.1 (get_or code.free p.0.0 []) 0 old step.0 w.0.names w.1 rank b low.0 step.3 in
      let rest = waits_low env ps step.0 new ws rank b height low.1 (omega (arith, room)) step.4 in
      (from_more old step.0 new first.0 rest.0, low_append rank b w.1 (sounds_of ws) first.1 rest.1, rooms first.1 rest.2)
    where
      rooms : AreLow rank b w.1 → ((i : ℕ) (q : Waiting Branch) → slice_get (map waiting_of ws) i ≡ Some q → HasRoom tall rank height q) → (i : ℕ) (q : Waiting Branch) → slice_get (waiting_of w ∷ map waiting_of ws) i ≡ Some q → HasRoom tall rank height q
      rooms lows more zero q at = subst (λ (z : Waiting Branch). HasRoom tall rank height z) (some_of at) (record { base = b; captured = low_captured rank b w.1 lows; room = omega (arith, room, ap (λ (x : ExprId). tall x.0) step.1) })
        where
          some_of : Some (waiting_of w) ≡ Some q → waiting_of w ≡ q
          some_of e = ap (λ (o : Option (Waiting Branch)). option_map_or (λ (z : Waiting Branch). z) o (waiting_of w)) e
      rooms lows more (suc i) q at = more i q at

tallest_first : (tall : ℕ → ℕ) (xs ys : List Part) → tallest tall xs ≤ tallest tall (xs ++ ys)
tallest_first tall [] ys = omega arith
tallest_first tall (x ∷ xs) ys = omega (arith, tallest_first tall xs ys)

tallest_last : (tall : ℕ → ℕ) (xs ys : List Part) → tallest tall ys ≤ tallest tall (xs ++ ys)
tallest_last tall [] ys = omega arith
tallest_last tall (x ∷ xs) ys = omega (arith, tallest_last tall xs ys)

low_now : (rank : ℕ → ℕ) (base : ℕ) (ps qs : List Part) → PartsLow rank base (ps ++ qs) → PartsLow rank base ps
low_now rank base [] qs low = tt
low_now rank base (p ∷ ps) qs low = (low.0, low_now rank base ps qs low.1)

low_then : (rank : ℕ → ℕ) (base : ℕ) (ps qs : List Part) → PartsLow rank base (ps ++ qs) → PartsLow rank base qs
low_then rank base [] qs low = low
low_then rank base (p ∷ ps) qs low = low_then rank base ps qs low.1

module _ (code : Code) (D : Trace) (law : IsLawful code D) (tall : ℕ → ℕ) (rising : IsRising code tall D) where
  nexts_stand : (env : Env) (stop : ℕ) (ps : List Part) (old mid new : HeapState Branch) (done ss hs : List Sound) (rank : ℕ → ℕ) (base m : ℕ) → AreParts (length code.nodes) old ps → HeapLaws old → PartsLow rank base ps → base + tallest tall ps ≤ m → Hand old mid done → (p : Stands tall old mid rank (m + 1) hs) → AreLow p.later (m + 1) done → NextsTurn D env stop ps mid new ss → Hand old new (done ++ ss) × Stands tall old new rank (m + 1) (done ++ ss)
  unfolding stands_seq stands_from
  nexts_stand env stop [] old mid new done [] hs rank base m are laws low le c p high step = (
    subst (λ zs. Hand old new zs) (sym (append-nil done)) (subst (λ (h : HeapState Branch). Hand old h done) step c),
    subst (λ zs. Stands tall old new rank (m + 1) zs) (sym (append-nil done)) (subst (λ (h : HeapState Branch). Stands tall old h rank (m + 1) done) step (record { later = p.later; ranks = p.ranks; same = p.same; low = p.low; in_hand = high })),
  )
  nexts_stand env stop [] old mid new done (s ∷ ss) hs rank base m are laws low le c p high step = absurd step
  nexts_stand env stop (e ∷ ps) old mid new done [] hs rank base m are laws low le c p high step = absurd step
  nexts_stand env stop (e ∷ ps) old mid new done (s ∷ ss) hs rank base m are laws low le c p high step =
      let next = step.1 in
      let seen = named_kept old mid c.kept e.1 are.1 in
      let h1 = (law e.0.0 (from_stop env stop) e.1 mid next.mid next.part next.evaluates are.0 c.laws seen).hand in
      let r1 = rising e.0.0 (from_stop env stop) e.1 mid next.mid next.part next.evaluates are.0 c.laws seen p.later base p.ranks (names_low code D law tall rising old mid e.1 rank (m + 1) base hs are.1 p low.0) in
      let c1 = hand_turned old next.mid done (next.part ∷ []) (hand_more old mid next.mid done (next.part ∷ []) c h1) in
      let p1 = stands_seq tall old mid next.mid rank (m + 1) (base + tall e.0.0) (m + 1) hs (next.part ∷ []) (omega arith) (omega (arith, le)) c.kept p r1 in
      let c2 = hand_brought old next.mid next.end env.sound_rate next.part next.brought done laws c1 next.brings in
      let q = step_brought tall next.mid next.end env.sound_rate next.part next.brought r1.later m c1.laws c1.begin.0 r1.ranks (low_more r1.later (base + tall e.0.0) m (next.part ∷ []) (omega (arith, le)) r1.in_hand) next.brings in
      let p2 = stands_seq tall old next.mid next.end rank (m + 1) (m + 1) (m + 1) (next.part ∷ []) (next.brought ∷ []) (omega arith) (omega arith) c1.kept p1 q in
      let c3 = hand_turned old step.0 (s ∷ []) done (hand_placed old next.end step.0 (placed_timing (index_at stop env.sound_rate)) next.brought s done (placed_len (index_at stop env.sound_rate)) laws c2 next.places) in
      let p3 = stands_from tall old next.end step.0 rank (m + 1) (next.brought ∷ []) (s ∷ []) (from_placed next.end step.0 (placed_timing (index_at stop env.sound_rate)) next.brought s next.places) p2 (placed_low next.end step.0 (placed_timing (index_at stop env.sound_rate)) next.brought s q.later (m + 1) next.places q.in_hand) in
      let done_low : AreLow q.later (m + 1) done = low_later next.mid r1.later q.later (m + 1) done c1.begin.1 q.same (low_later mid p.later r1.later (m + 1) done c.begin r1.same high) in
      let all = nexts_stand env s.timing.stop ps old step.0 new (done ++ s ∷ []) ss (s ∷ []) rank base m are.2 laws low.1 (omega (arith, le)) c3 p3 (low_append q.later (m + 1) done (s ∷ []) done_low p3.in_hand) step.2 in
      (subst (λ zs. Hand old new zs) (append_assoc done (s ∷ []) ss) all.0, subst (λ zs. Stands tall old new rank (m + 1) zs) (append_assoc done (s ∷ []) ss) all.1)

  pub seq_stands : (e : ℕ) (ps : List Part) (env : Env) (names : Names) (old new : HeapState Branch) (s : Sound) → AreParts (length code.nodes) old ps → HeapLaws old → SeqTurn D code e ps env names old new s → (rank : ℕ → ℕ) (base : ℕ) → Ranks tall old rank → PartsLow rank base ps → Stands tall old new rank (base + (tallest tall ps + 2)) (s ∷ [])
  unfolding stands_seq stands_from stands_wider
  seq_stands e ps env names old new s below laws step rank base ranks low =
      let n = length code.nodes in
      let m = base + tallest tall ps in
      let g : tallest tall ps ≡ max (tall step.first.0.0) (tallest tall (step.now ++ step.later)) = ap (tallest tall) step.all in
      let inside : AreParts n old (step.first ∷ (step.now ++ step.later)) = subst (AreParts n old) step.all below in
      let lows : PartsLow rank base (step.first ∷ (step.now ++ step.later)) = subst (PartsLow rank base) step.all low in
      let later_are = parts_last n old step.now step.later inside.2 in
      let h1 = (law step.first.0.0 env step.first.1 old step.one step.part step.evaluates inside.0 laws inside.1).hand in
      let p1 = rising step.first.0.0 env step.first.1 old step.one step.part step.evaluates inside.0 laws inside.1 rank base ranks lows.0 in
      let h2 = hand_brought old step.one step.two env.sound_rate step.part step.brought [] laws h1 step.brings in
      let q = step_brought tall step.one step.two env.sound_rate step.part step.brought p1.later m h1.laws h1.begin.0 p1.ranks (low_more p1.later (base + tall step.first.0.0) m (step.part ∷ []) (omega (arith, g)) p1.in_hand) step.brings in
      let p2 = stands_seq tall old step.one step.two rank (base + tall step.first.0.0) (m + 1) (m + 1) (step.part ∷ []) (step.brought ∷ []) (omega (arith, g)) (omega arith) h1.kept p1 q in
      let next = nexts_stand env step.brought.timing.stop step.now old step.two step.three (step.brought ∷ []) step.others (step.brought ∷ []) rank base m (parts_first n old step.now step.later inside.2) laws (low_now rank base step.now step.later lows.1) (omega (arith, g, tallest_first tall step.now step.later)) h2 p2 p2.in_hand step.nexts in
      let w = waits_low code tall env step.later step.three step.four step.waiting next.1.later base (m + 1)
      (parts_low code D law tall rising old step.three step.later rank (m + 1) base (step.brought ∷ step.others) later_are next.1 (low_then rank base step.now step.later lows.1)) (omega (arith, g, tallest_last tall step.now step.later)) step.waits in
      let comes = waits_come code n env step.later step.three step.four step.waiting (parts_kept n old step.three next.0.kept step.later later_are) next.0.laws step.waits in
      let h4 : Hand old step.four ((step.brought ∷ step.others) ++ sounds_of step.waiting) =
      hand_more old step.three step.four (step.brought ∷ step.others) (sounds_of step.waiting) next.0 (subst (λ ss. Hand step.three step.four ss) (sym (waits_sounds code env step.later step.three step.four step.waiting step.waits)) comes.hand) in
      let p4 = stands_from tall old step.three step.four rank (m + 1) (step.brought ∷ step.others) ((step.brought ∷ step.others) ++ sounds_of step.waiting) w.0 next.1
      (low_append next.1.later (m + 1) (step.brought ∷ step.others) (sounds_of step.waiting) next.1.in_hand (low_more next.1.later base (m + 1) (sounds_of step.waiting) (omega arith) w.1)) in
      let spent = (step.brought ∷ step.others) ++ sounds_of step.waiting in
      stands_made tall old step.four new Mix step.t (step.brought ∷ step.others) (map waiting_of step.waiting) spent [] s rank (m + 1) (m + 1) (base + (tallest tall ps + 2))
      (hand_there old step.four (spent ++ []) (subst (λ ss. Hand old step.four ss) (sym (append-nil spent)) h4))
      (record { later = p4.later; ranks = p4.ranks; same = p4.same; low = p4.low; in_hand = subst (AreLow p4.later (m + 1)) (sym (append-nil spent)) p4.in_hand })
      step.made (begin_first step.four (step.brought ∷ step.others) (sounds_of step.waiting) h4.begin) next.1.in_hand w.2 (waiting_there step.four step.waiting (begin_last step.four (step.brought ∷ step.others) (sounds_of step.waiting) h4.begin))
      (omega arith) (omega arith)
