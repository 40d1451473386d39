-- How high each family of nodes stands: operations, blocks and calls.
use Rattle.std.proofs.Common.{◌≡◌, ℕ, ◌+◌, ◌*◌, ◌<◌, ◌≤◌, max, map, List, [], ◌∷◌, ◌++◌, length, Option, None, refl, sym, ap, subst, ◌∙◌, arith, zero, suc, take}
use Rattle.std.specs.Prelude.{zip, ℤ, pos}
use Rattle.std.specs.List.{range_with_len}
use Rattle.ny_num.specs.declared.rate.Rate.{Rate}
use Rattle.ny_resolve.specs.declared.term.NameId.{NameId}
use Rattle.ny_warp.specs.declared.env.Env.{Env}
use Rattle.ny_kernels.specs.declared.operation.Op.{Op}
use Rattle.ny_kernels.specs.declared.operation.Op.TheVariants.{Sub}
use Rattle.ny_check.specs.declared.node.Effect.{Effect}
use Rattle.ny_check.specs.declared.node.ExprId.{ExprId}
use Rattle.ny_check.specs.declared.value.Value.{Value}
use Rattle.ny_check.specs.declared.value.Value.TheVariants.{Number, Sound as SoundOf}
use Rattle.ny_check.specs.Code.{Code, AllBelow, BindsBelow}
use Rattle.ny_heap.specs.declared.sound.Sound.{Sound}
use Rattle.ny_heap.specs.Heap.{HeapState, list_of}
use Rattle.ny_heap.specs.Reach.{HeapLaws}
use Rattle.ny_hands.proofs.OptionLemmas.{none_some}
use Rattle.ny_hands.specs.declared.branch.Branch.{Branch}
use Rattle.ny_hands.specs.Calls.{BringsEach}
use Rattle.ny_hands.specs.Frames.{Names, bound_in, sounds_among}
use Rattle.ny_trace.specs.Evaluates.{Trace, Part, parts_of, counted_names, counted_parts, SignTurn, EffectTurn, ValueTurn, OneTurn, JoinTurn, OperationTurn, BindsTurn, BlockTurn, ValuesTurn, CallTurn, sounds_of_values, PartsTurn, SimTurn}
use Rattle.ny_hands.specs.Hands.{AllBegin, Hand, AreNamed}
use Rattle.ny_trace.specs.Laws.{IsLawful}
use Rattle.ny_trace.specs.Heights.{Ranks, AreLow, Stands, IsRising, greatest, tallest, one_on_another}
use Rattle.ny_hands.proofs.HandLemmas.{hand_none, hand_more, hand_turned, begin_first, begin_last}
use Rattle.std.proofs.lemmas.List.{append_assoc, append-nil}
use Rattle.ny_trace.proofs.MixLemmas.{AreParts, parts_kept, parts_come, part_sounds}
use Rattle.ny_hands.proofs.NameLemmas.{named_kept, named_append, named_among}
use Rattle.ny_trace.proofs.ValueLemmas.{value_comes}
use Rattle.ny_trace.proofs.BlockLemmas.{binds_come, bind_sounds_are, below_first, args_come, arg_sounds}
use Rattle.ny_hands.proofs.SpendLemmas.{hand_brought}
use Rattle.ny_trace.proofs.HeightLemmas.{low_append, low_first, low_last, low_more, low_later, from_trimmed, stands_from, stands_none, stands_more, stands_wider, stands_released, stands_seq, step_made, step_brought, both_stands}

abbrev pub value_list : Value Sound → List Sound
value_list (Number v) = []
value_list (SoundOf s) = s ∷ []

among_begin : (h : HeapState Branch) (names : Names) → AreNamed h names → AllBegin h (sounds_among names)
among_begin h [] are = tt
among_begin h ((x, Number v) ∷ bs) are = among_begin h bs are.1
among_begin h ((x, SoundOf s) ∷ bs) are = (are.0, among_begin h bs are.1)

among_push : (names : Names) (x : NameId) (v : Value Sound) → sounds_among (names ++ (x, v) ∷ []) ≡ sounds_among names ++ value_list v
among_push [] x (Number v) = refl
among_push [] x (SoundOf s) = refl
among_push ((y, Number v) ∷ bs) x w = among_push bs x w
among_push ((y, SoundOf s) ∷ bs) x w = ap (λ ss. s ∷ ss) (among_push bs x w)

among_first : (x : NameId) (v : Value Sound) (added : Names) → sounds_among ((x, v) ∷ added) ≡ value_list v ++ sounds_among added
among_first x (Number v) added = refl
among_first x (SoundOf s) added = refl

-- ---- the names of parts

abbrev pub PartsLow : (ℕ → ℕ) → ℕ → List Part → Type 0
PartsLow rank base [] = Unit {0}
PartsLow rank base (p ∷ ps) = AreLow rank base (sounds_among p.1) × PartsLow rank base ps

pub parts_of_low : (rank : ℕ → ℕ) (base : ℕ) (names : Names) (es : List ExprId) → AreLow rank base (sounds_among names) → PartsLow rank base (parts_of names es)
parts_of_low rank base names [] low = tt
parts_of_low rank base names (e ∷ es) low = (low, parts_of_low rank base names es low)

-- a number is no sound
pub counted_low : (rank : ℕ → ℕ) (base : ℕ) (names : Names) (i : NameId) (count : ℕ) (e : ExprId) → AreLow rank base (sounds_among names) → PartsLow rank base (counted_parts names i count e)
counted_low rank base names i count e low = each (range_with_len 0 count)
  where
    each : (ks : List ℕ) → PartsLow rank base (map (λ k. let p : Part = (e, counted_names names i k) in p) ks)
    each [] = tt
    each (k ∷ ks) = (subst (AreLow rank base) (sym (among_push names i (Number (pos (k * 1000000))) ∙ append-nil (sounds_among names))) low, each ks)

-- how high they stand
pub parts_of_tallest : (tall : ℕ → ℕ) (names : Names) (es : List ExprId) → tallest tall (parts_of names es) ≡ greatest tall es
parts_of_tallest tall names [] = refl
parts_of_tallest tall names (e ∷ es) = ap (λ n. max (tall e.0) n) (parts_of_tallest tall names es)

pub counted_tallest : (tall : ℕ → ℕ) (names : Names) (i : NameId) (count : ℕ) (e : ExprId) → tallest tall (counted_parts names i count e) ≤ tall e.0
counted_tallest tall names i count e = each (range_with_len 0 count)
  where
    each : (ks : List ℕ) → tallest tall (map (λ k. let p : Part = (e, counted_names names i k) in p) ks) ≤ tall e.0
    each [] = omega arith
    each (k ∷ ks) = omega (arith, each ks)

module _ (code : Code) (D : Trace) (law : IsLawful code D) (tall : ℕ → ℕ) (rising : IsRising code tall D) where
  -- names stay as low
  pub names_low : (old mid : HeapState Branch) (names : Names) (rank : ℕ → ℕ) (a base : ℕ) (ss : List Sound) → AreNamed old names → (p : Stands tall old mid rank a ss) → AreLow rank base (sounds_among names) → AreLow p.later base (sounds_among names)
  names_low old mid names rank a base ss named p low = low_later old rank p.later base (sounds_among names) (among_begin old names named) p.same low

  value_hand : (env : Env) (names : Names) (e : ExprId) (old new : HeapState Branch) (v : Value Sound) → e.0 < length code.nodes → HeapLaws old → AreNamed old names → ValueTurn D code env names e old new v → Hand old new (value_list v)
  value_hand env names e old new (Number k) inside laws named step = subst (λ (h : HeapState Branch). Hand old h []) step.1 (hand_none old laws)
  value_hand env names e old new (SoundOf s) inside laws named step = (value_comes code D law env names e old new (SoundOf s) inside laws named step).hand

  value_stands : (env : Env) (names : Names) (e : ExprId) (old new : HeapState Branch) (v : Value Sound) → e.0 < length code.nodes → HeapLaws old → AreNamed old names → ValueTurn D code env names e old new v → (rank : ℕ → ℕ) (base : ℕ) → Ranks tall old rank → AreLow rank base (sounds_among names) → Stands tall old new rank (base + tall e.0) (value_list v)
  value_stands env names e old new (Number k) inside laws named step rank base ranks low = subst (λ (h : HeapState Branch). Stands tall old h rank (base + tall e.0) []) step.1 (stands_none tall old rank (base + tall e.0) [] ranks tt)
  value_stands env names e old new (SoundOf s) inside laws named step rank base ranks low = rising e.0 env names old new s step.1 inside laws named rank base ranks low

  -- ---- operations

  one_stands : (old mid new : HeapState Branch) (op : Op) (j k : Option ℤ) (r : Rate) (a s : Sound) (rank : ℕ → ℕ) (m : ℕ) → HeapLaws old → Hand old mid (a ∷ []) → Stands tall old mid rank m (a ∷ []) → OneTurn op j k r a mid new s → Stands tall old new rank (m + 2) (s ∷ [])
  unfolding stands_seq
  one_stands old mid new op j k r a s rank m laws c p step =
      let one = hand_brought old mid step.mid r a step.brought [] laws c step.brings in
      let q = step_brought tall mid step.mid r a step.brought p.later m c.laws c.begin.0 p.ranks p.in_hand step.brings in
      let v = step_made tall step.mid new _ _ (step.brought ∷ []) s q.later (m + 1) one.laws one.begin q.ranks q.in_hand step.made in
      let pq = stands_seq tall old mid step.mid rank m (m + 1) (m + 1) (a ∷ []) (step.brought ∷ []) (omega arith) (omega arith) c.kept p q in
      stands_seq tall old step.mid new rank (m + 1) (m + 1 + 1) (m + 2) (step.brought ∷ []) (s ∷ []) (omega arith) (omega arith) one.kept pq v

  join_stands : (old mid new : HeapState Branch) (op : Op) (r : Rate) (x y : Value Sound) (s : Sound) (rank : ℕ → ℕ) (m : ℕ) → HeapLaws old → Hand old mid (value_list x ++ value_list y) → Stands tall old mid rank m (value_list x ++ value_list y) → JoinTurn op r x y mid new s → Stands tall old new rank (m + 2) (s ∷ [])
  join_stands old mid new op r (Number j) (Number k) s rank m laws c p step =
      stands_from tall old mid new rank (m + 2) [] (s ∷ []) (from_trimmed mid new [] (step.makes.none refl)) (stands_wider tall old mid rank m (m + 2) [] (omega arith) p) ((λ n is. absurd (none_some (list_of s) n step.makes.result.list is)), tt)
  join_stands old mid new op r (Number j) (SoundOf b) s rank m laws c p step = one_stands old mid new op _ None r b s rank m laws c p step
  join_stands old mid new op r (SoundOf a) (Number k) s rank m laws c p step = one_stands old mid new op None _ r a s rank m laws c p step
  join_stands old mid new op r (SoundOf a) (SoundOf b) s rank m laws c p step = both_stands tall old mid new op r a b s rank m laws c p step

  pub operation_stands : (op : Op) (a b : ExprId) (env : Env) (names : Names) (old new : HeapState Branch) (s : Sound) → a.0 < length code.nodes → b.0 < length code.nodes → HeapLaws old → AreNamed old names → OperationTurn D code op a b env names old new s → (rank : ℕ → ℕ) (base : ℕ) → Ranks tall old rank → AreLow rank base (sounds_among names) → Stands tall old new rank (base + (max (tall a.0) (tall b.0) + 2)) (s ∷ [])
  operation_stands op a b env names old new s at_a at_b laws named step rank base ranks low =
      let m = base + max (tall a.0) (tall b.0) in
      let h1 = value_hand env names a old step.mid step.left at_a laws named step.first in
      let seen = named_kept old step.mid h1.kept names named in
      let h2 = value_hand env names b step.mid step.end step.right at_b h1.laws seen step.second in
      let p1 = value_stands env names a old step.mid step.left at_a laws named step.first rank base ranks low in
      let p2 = value_stands env names b step.mid step.end step.right at_b h1.laws seen step.second p1.later base p1.ranks (names_low old step.mid names rank (base + tall a.0) base (value_list step.left) named p1 low) in
      let both = stands_more tall old step.mid step.end rank (base + tall a.0) (base + tall b.0) m (value_list step.left) (value_list step.right) (omega arith) (omega arith) h1 p1 p2 in
      stands_wider tall old new rank (m + 2) (base + (max (tall a.0) (tall b.0) + 2)) (s ∷ []) (omega arith)
      (join_stands old step.end new op env.sound_rate step.left step.right s rank m laws (hand_more old step.mid step.end (value_list step.left) (value_list step.right) h1 h2) both step.joined)

  -- ---- blocks

  binds_stand : (env : Env) (bs : List (NameId × ExprId)) (names : Names) (old new : HeapState Branch) (added : Names) → BindsBelow (length code.nodes) bs → HeapLaws old → AreNamed old names → BindsTurn D code env bs names old new added → (rank : ℕ → ℕ) (base : ℕ) → Ranks tall old rank → AreLow rank base (sounds_among names) → Stands tall old new rank (base + one_on_another tall bs) (sounds_among added)
  binds_stand env [] names old new [] inside laws named step rank base ranks low = subst (λ (h : HeapState Branch). Stands tall old h rank (base + 0) []) step (stands_none tall old rank (base + 0) [] ranks tt)
  binds_stand env [] names old new (a ∷ added) inside laws named step rank base ranks low = absurd step
  binds_stand env (b ∷ bs) names old new [] inside laws named step rank base ranks low = absurd step
  binds_stand env (b ∷ bs) names old new (a ∷ added) inside laws named step rank base ranks low =
      let h1 = value_hand env names b.1 old step.0 a.1 inside.0 laws named step.2 in
      let p1 = value_stands env names b.1 old step.0 a.1 inside.0 laws named step.2 rank base ranks low in
      let seen : AreNamed step.0 (names ++ a ∷ []) = named_append step.0 names (a ∷ []) (named_kept old step.0 h1.kept names named) (named_one step.0 a.0 a.1 h1.begin) in
      let lows : AreLow p1.later (base + tall b.1.0) (sounds_among (names ++ a ∷ [])) =
      subst (AreLow p1.later (base + tall b.1.0)) (sym (among_push names a.0 a.1))
      (low_append p1.later (base + tall b.1.0) (sounds_among names) (value_list a.1) (low_more p1.later base (base + tall b.1.0) (sounds_among names) (omega arith) (names_low old step.0 names rank (base + tall b.1.0) base (value_list a.1) named p1 low)) p1.in_hand) in
      let p2 = binds_stand env bs (names ++ a ∷ []) step.0 new added inside.1 h1.laws seen step.3 p1.later (base + tall b.1.0) p1.ranks lows in
      subst (λ ss. Stands tall old new rank (base + (tall b.1.0 + one_on_another tall bs)) ss) (sym (among_first a.0 a.1 added))
      (stands_more tall old step.0 new rank (base + tall b.1.0) (base + tall b.1.0 + one_on_another tall bs) (base + (tall b.1.0 + one_on_another tall bs)) (value_list a.1) (sounds_among added) (omega arith) (omega arith) h1 p1 p2)
    where
      named_one : (h : HeapState Branch) (x : NameId) (v : Value Sound) → AllBegin h (value_list v) → AreNamed h ((x, v) ∷ [])
      named_one h x (Number k) b = (tt, tt)
      named_one h x (SoundOf s) b = (b.0, tt)

  pub block_stands : (env : Env) (bs : List (NameId × ExprId)) (e : ExprId) (names : Names) (old new : HeapState Branch) (s : Sound) → BindsBelow (length code.nodes) bs → e.0 < length code.nodes → HeapLaws old → AreNamed old names → BlockTurn D code bs e env names old new s → (rank : ℕ → ℕ) (base : ℕ) → Ranks tall old rank → AreLow rank base (sounds_among names) → Stands tall old new rank (base + (one_on_another tall bs + tall e.0)) (s ∷ [])
  block_stands env bs e names old new s below inside laws named step rank base ranks low =
      let comes = binds_come code D law env bs names old step.mid step.added below laws named step.binds in
      let h1 : Hand old step.mid (sounds_among step.added) = subst (λ ss. Hand old step.mid ss) (sym (bind_sounds_are code D env bs names old step.mid (λ w. bound_in w names) step.added step.binds)) comes.hand in
      let p1 = binds_stand env bs names old step.mid step.added below laws named step.binds rank base ranks low in
      let top = base + one_on_another tall bs in
      let seen : AreNamed step.mid (names ++ step.added) = named_append step.mid names step.added (named_kept old step.mid h1.kept names named) (named_among step.mid step.added h1.begin) in
      let lows : AreLow p1.later top (sounds_among (names ++ step.added)) =
      subst (AreLow p1.later top) (sym (among_append names step.added))
      (low_append p1.later top (sounds_among names) (sounds_among step.added) (low_more p1.later base top (sounds_among names) (omega arith) (names_low old step.mid names rank top base (sounds_among step.added) named p1 low)) p1.in_hand) in
      let p2 = rising e.0 env (names ++ step.added) step.mid step.end s step.body inside h1.laws seen p1.later top p1.ranks lows in
      stands_released tall old step.end new rank (base + (one_on_another tall bs + tall e.0)) (sounds_among step.added) (s ∷ [])
      (stands_more tall old step.mid step.end rank top (top + tall e.0) (base + (one_on_another tall bs + tall e.0)) (sounds_among step.added) (s ∷ []) (omega arith) (omega arith) h1 p1 p2) step.given_up
    where
      among_append : (ns ms : Names) → sounds_among (ns ++ ms) ≡ sounds_among ns ++ sounds_among ms
      among_append [] ms = refl
      among_append ((x, Number v) ∷ ns) ms = among_append ns ms
      among_append ((x, SoundOf s) ∷ ns) ms = ap (λ ss. s ∷ ss) (among_append ns ms)

  -- ---- calls

  args_stand : (env : Env) (names : Names) (es : List ExprId) (old new : HeapState Branch) (vs : List (Value Sound)) → AllBelow (length code.nodes) es → HeapLaws old → AreNamed old names → ValuesTurn D code env names es old new vs → (rank : ℕ → ℕ) (base : ℕ) → Ranks tall old rank → AreLow rank base (sounds_among names) → Stands tall old new rank (base + greatest tall es) (sounds_of_values vs)
  args_stand env names [] old new [] inside laws named step rank base ranks low = subst (λ (h : HeapState Branch). Stands tall old h rank (base + 0) []) step (stands_none tall old rank (base + 0) [] ranks tt)
  args_stand env names [] old new (v ∷ vs) inside laws named step rank base ranks low = absurd step
  args_stand env names (e ∷ es) old new [] inside laws named step rank base ranks low = absurd step
  args_stand env names (e ∷ es) old new (v ∷ vs) inside laws named step rank base ranks low =
      let h1 = value_hand env names e old step.0 v inside.0 laws named step.1 in
      let p1 = value_stands env names e old step.0 v inside.0 laws named step.1 rank base ranks low in
      let p2 = args_stand env names es step.0 new vs inside.1 h1.laws (named_kept old step.0 h1.kept names named) step.2 p1.later base p1.ranks (names_low old step.0 names rank (base + tall e.0) base (value_list v) named p1 low) in
      subst (λ ss. Stands tall old new rank (base + max (tall e.0) (greatest tall es)) ss) (sym (values_first v vs))
      (stands_more tall old step.0 new rank (base + tall e.0) (base + greatest tall es) (base + max (tall e.0) (greatest tall es)) (value_list v) (sounds_of_values vs) (omega arith) (omega arith) h1 p1 p2)
    where
      values_first : (v : Value Sound) (vs : List (Value Sound)) → sounds_of_values (v ∷ vs) ≡ value_list v ++ sounds_of_values vs
      values_first (Number k) vs = refl
      values_first (SoundOf s) vs = refl

  zip_low : (rank : ℕ → ℕ) (b : ℕ) (xs : List NameId) (vs : List (Value Sound)) → AreLow rank b (sounds_of_values vs) → AreLow rank b (sounds_among (zip xs vs))
  zip_low rank b [] vs p = tt
  zip_low rank b (x ∷ xs) [] p = tt
  zip_low rank b (x ∷ xs) (Number k ∷ vs) p = zip_low rank b xs vs p
  zip_low rank b (x ∷ xs) (SoundOf s ∷ vs) p = (p.0, zip_low rank b xs vs p.1)

  zip_named : (h : HeapState Branch) (xs : List NameId) (vs : List (Value Sound)) → AllBegin h (sounds_of_values vs) → AreNamed h (zip xs vs)
  zip_named h [] vs b = tt
  zip_named h (x ∷ xs) [] b = tt
  zip_named h (x ∷ xs) (Number k ∷ vs) b = (tt, zip_named h xs vs b)
  zip_named h (x ∷ xs) (SoundOf s ∷ vs) b = (b.0, zip_named h xs vs b.1)

  greatest_first : (k : ℕ) (es : List ExprId) → greatest tall (take k es) ≤ greatest tall es
  greatest_first zero es = omega arith
  greatest_first (suc k) [] = omega arith
  greatest_first (suc k) (e ∷ es) = omega (arith, greatest_first k es)

  pub call_stands : (params : List NameId) (body : ℕ) (es : List ExprId) (env : Env) (names : Names) (old new : HeapState Branch) (s : Sound) → AllBelow (length code.nodes) es → body < length code.nodes → HeapLaws old → AreNamed old names → CallTurn D code params body es env names old new s → (rank : ℕ → ℕ) (base : ℕ) → Ranks tall old rank → AreLow rank base (sounds_among names) → Stands tall old new rank (base + (greatest tall es + tall body)) (s ∷ [])
  call_stands params body es env names old new s below inside laws named step rank base ranks low =
      let given : List ExprId = take (length params) es in
      let fewer = greatest_first (length params) es in
      let low_given = below_first (length params) (length code.nodes) es below in
      let top = base + greatest tall given in
      let comes = args_come code D law env names given old step.mid step.values low_given laws named step.arguments in
      let h1 : Hand old step.mid (sounds_of_values step.values) = subst (λ ss. Hand old step.mid ss) (sym (arg_sounds code D law env names given old step.mid step.values step.arguments)) comes.hand in
      let p1 = args_stand env names given old step.mid step.values low_given laws named step.arguments rank base ranks low in
      let p2 = rising body env (zip params step.values) step.mid step.end s step.inside inside h1.laws (zip_named step.mid params step.values h1.begin) p1.later top p1.ranks (zip_low p1.later top params step.values p1.in_hand) in
      stands_released tall old step.end new rank (base + (greatest tall es + tall body)) (sounds_of_values step.values) (s ∷ [])
      (stands_more tall old step.mid step.end rank top (top + tall body) (base + (greatest tall es + tall body)) (sounds_of_values step.values) (s ∷ []) (omega (arith, fewer)) (omega (arith, fewer)) h1 p1 p2) step.given_up

  -- ---- parts together

  -- the names of parts stay as low
  pub parts_low : (old mid : HeapState Branch) (ps : List Part) (rank : ℕ → ℕ) (a base : ℕ) (ss : List Sound) → AreParts (length code.nodes) old ps → (p : Stands tall old mid rank a ss) → PartsLow rank base ps → PartsLow p.later base ps
  parts_low old mid [] rank a base ss are p low = tt
  parts_low old mid (q ∷ ps) rank a base ss are p low = (names_low old mid q.1 rank a base ss are.1 p low.0, parts_low old mid ps rank a base ss are.2 p low.1)

  parts_stand : (env : Env) (ps : List Part) (old new : HeapState Branch) (ss : List Sound) → AreParts (length code.nodes) old ps → HeapLaws old → PartsTurn D env ps old new ss → (rank : ℕ → ℕ) (base : ℕ) → Ranks tall old rank → PartsLow rank base ps → Stands tall old new rank (base + tallest tall ps) ss
  parts_stand env [] old new [] are laws step rank base ranks low = subst (λ (h : HeapState Branch). Stands tall old h rank (base + 0) []) step (stands_none tall old rank (base + 0) [] ranks tt)
  parts_stand env [] old new (s ∷ ss) are laws step rank base ranks low = absurd step
  parts_stand env (p ∷ ps) old new [] are laws step rank base ranks low = absurd step
  parts_stand env (p ∷ ps) old new (s ∷ ss) are laws step rank base ranks low =
      let h1 = (law p.0.0 env p.1 old step.0 s step.1 are.0 laws are.1).hand in
      let p1 = rising p.0.0 env p.1 old step.0 s step.1 are.0 laws are.1 rank base ranks low.0 in
      let p2 = parts_stand env ps step.0 new ss (parts_kept (length code.nodes) old step.0 h1.kept ps are.2) h1.laws step.2 p1.later base p1.ranks (parts_low old step.0 ps rank (base + tall p.0.0) base (s ∷ []) are.2 p1 low.1) in
      stands_more tall old step.0 new rank (base + tall p.0.0) (base + tallest tall ps) (base + max (tall p.0.0) (tallest tall ps)) (s ∷ []) ss (omega arith) (omega arith) h1 p1 p2

  -- each is brought to a rate, one after another: all brought ones stand lower than m + 1
  brings_stand : (old mid new : HeapState Branch) (r : Rate) (ss done ts hs : List Sound) (rank : ℕ → ℕ) (m : ℕ) → HeapLaws old → Hand old mid (ss ++ done) → (p : Stands tall old mid rank (m + 1) hs) → AreLow p.later m ss → AreLow p.later (m + 1) done → BringsEach mid new r ss ts → Hand old new (ts ++ done) × Stands tall old new rank (m + 1) (ts ++ done)
  unfolding stands_seq
  brings_stand old mid new r [] done [] hs rank m laws c p low high step = (
    subst (λ (h : HeapState Branch). Hand old h done) step c,
    subst (λ (h : HeapState Branch). Stands tall old h rank (m + 1) done) step (record { later = p.later; ranks = p.ranks; same = p.same; low = p.low; in_hand = high }),
  )
  brings_stand old mid new r [] done (t ∷ ts) hs rank m laws c p low high step = absurd step
  brings_stand old mid new r (s ∷ ss) done [] hs rank m laws c p low high step = absurd step
  brings_stand old mid new r (s ∷ ss) done (t ∷ ts) hs rank m laws c p low high step =
      let c1 = hand_brought old mid step.0 r s t (ss ++ done) laws c step.1 in
      let c2 : Hand old step.0 (ss ++ (done ++ t ∷ [])) = subst (λ zs. Hand old step.0 zs) (append_assoc ss done (t ∷ [])) (hand_turned old step.0 (t ∷ []) (ss ++ done) c1) in
      let q = step_brought tall mid step.0 r s t p.later m c.laws c.begin.0 p.ranks (low.0, tt) step.1 in
      let p2 = stands_seq tall old mid step.0 rank (m + 1) (m + 1) (m + 1) hs (t ∷ []) (omega arith) (omega arith) c.kept p q in
      let more = brings_stand old step.0 new r ss (done ++ t ∷ []) ts (t ∷ []) rank m laws c2 p2
      (low_later mid p.later q.later m ss (begin_first mid ss done c.begin.1) q.same low.1)
      (low_append q.later (m + 1) done (t ∷ []) (low_later mid p.later q.later (m + 1) done (begin_last mid ss done c.begin.1) q.same high) q.in_hand) step.2 in
      let same : ts ++ (done ++ t ∷ []) ≡ (ts ++ done) ++ t ∷ [] = sym (append_assoc ts done (t ∷ [])) in
      let low_all : AreLow more.1.later (m + 1) ((ts ++ done) ++ t ∷ []) = subst (AreLow more.1.later (m + 1)) same more.1.in_hand in (
        hand_turned old new (ts ++ done) (t ∷ []) (subst (λ zs. Hand old new zs) same more.0),
        record {
          later = more.1.later;
          ranks = more.1.ranks;
          same = more.1.same;
          low = more.1.low;
          in_hand = low_append more.1.later (m + 1) (t ∷ []) (ts ++ done) (low_last more.1.later (m + 1) (ts ++ done) (t ∷ []) low_all) (low_first more.1.later (m + 1) (ts ++ done) (t ∷ []) low_all);
        },
      )

  pub sim_stands : (ps : List Part) (env : Env) (old new : HeapState Branch) (s : Sound) → AreParts (length code.nodes) old ps → HeapLaws old → SimTurn D ps env old new s → (rank : ℕ → ℕ) (base : ℕ) → Ranks tall old rank → PartsLow rank base ps → Stands tall old new rank (base + (tallest tall ps + 2)) (s ∷ [])
  unfolding stands_wider
  sim_stands ps env old new s are laws step rank base ranks low =
      let m = base + tallest tall ps in
      let comes = parts_come code D law env ps old step.mid step.parts are laws step.each in
      let h1 : Hand old step.mid step.parts = subst (λ ss. Hand old step.mid ss) (sym (part_sounds code D law env ps old step.mid step.parts step.each)) comes.hand in
      let p1 = parts_stand env ps old step.mid step.parts are laws step.each rank base ranks low in
      let all = brings_stand old step.mid step.mixed.mid env.sound_rate step.parts [] step.mixed.brought step.parts rank m laws (subst (λ ss. Hand old step.mid ss) (sym (append-nil step.parts)) h1) (stands_wider tall old step.mid rank m (m + 1) step.parts (omega arith) p1) p1.in_hand tt step.mixed.brings in
      let same : step.mixed.brought ++ [] ≡ step.mixed.brought = append-nil step.mixed.brought in
      let h2 = subst (λ ss. Hand old step.mixed.mid ss) same all.0 in
      let v = step_made tall step.mixed.mid new _ _ step.mixed.brought s all.1.later (m + 1) h2.laws h2.begin all.1.ranks (subst (AreLow all.1.later (m + 1)) same all.1.in_hand) step.mixed.made in
      stands_seq tall old step.mixed.mid new rank (m + 1) (m + 1 + 1) (base + (tallest tall ps + 2)) (step.mixed.brought ++ []) (s ∷ []) (omega arith) (omega arith) h2.kept all.1 v

  -- with the other sign
  pub sign_stands : (a : ExprId) (env : Env) (names : Names) (old new : HeapState Branch) (s : Sound) → a.0 < length code.nodes → HeapLaws old → AreNamed old names → SignTurn D code a env names old new s → (rank : ℕ → ℕ) (base : ℕ) → Ranks tall old rank → AreLow rank base (sounds_among names) → Stands tall old new rank (base + (tall a.0 + 2)) (s ∷ [])
  sign_stands a env names old new s at_a laws named step rank base ranks low =
      let m = base + tall a.0 in
      stands_wider tall old new rank (m + 2) (base + (tall a.0 + 2)) (s ∷ []) (omega arith)
      (join_stands old step.mid new Sub env.sound_rate (Number (pos 0)) step.value s rank m laws (value_hand env names a old step.mid step.value at_a laws named step.operand) (value_stands env names a old step.mid step.value at_a laws named step.operand rank base ranks low) step.joined)

  -- effects
  pub effect_stands : (fx : Effect) (a : ExprId) (numbers : List ℤ) (env : Env) (names : Names) (old new : HeapState Branch) (s : Sound) → a.0 < length code.nodes → HeapLaws old → AreNamed old names → EffectTurn D fx a numbers env names old new s → (rank : ℕ → ℕ) (base : ℕ) → Ranks tall old rank → AreLow rank base (sounds_among names) → Stands tall old new rank (base + (tall a.0 + 1)) (s ∷ [])
  unfolding stands_seq
  effect_stands fx a numbers env names old new s at_a laws named step rank base ranks low =
      let m = base + tall a.0 in
      let c = (law a.0 env names old step.mid step.part step.evaluates at_a laws named).hand in
      let p = rising a.0 env names old step.mid step.part step.evaluates at_a laws named rank base ranks low in
      let v = step_made tall step.mid new _ _ (step.part ∷ []) s p.later m c.laws c.begin p.ranks p.in_hand step.made in
      stands_seq tall old step.mid new rank m (m + 1) (base + (tall a.0 + 1)) (step.part ∷ []) (s ∷ []) (omega arith) (omega arith) c.kept p v
