-- What the lists of a heap mean stays as it is where a part is handed out, and where it is attached.
use Rattle.std.proofs.Common.{◌≡◌, ◌≢◌, inl, inr, ℕ, ◌+◌, ◌-◌, ◌*◌, ◌<◌, ◌≤◌, Bool, true, false, cond, nat_le, List, [], ◌∷◌, ◌++◌, length, map, get_or, Option, None, Some, refl, sym, ap, subst, ◌∙◌, arith, ℤ, pos, length-append}
use Rattle.std.specs.Option.{option_map}
use Rattle.std.proofs.lemmas.Bool.{cases_eq, eq-eqb, ne_eqb}
use Rattle.ny_num.specs.Numbers.{sample_add}
use Rattle.ny_num.specs.Sound as sounds
use Rattle.ny_num.specs.Sound.{value_at}
use Rattle.ny_num.specs.declared.timing.Timing.{Timing}
use Rattle.ny_list.proofs.IndexLemmas.{same_some}
use Rattle.ny_heap.specs.declared.sound.Sound.{Sound}
use Rattle.ny_heap.specs.Heap.{Reader, Waiting, Mix, Node, HeapState, node_at, block_at, list_of, place_of}
use Rattle.ny_heap.specs.Means.{Parts, Whole, Means, NodeMeans, SoundIs, sound_in, input_sound, heard, sum_heard, unit_value, parts_from, stop_after, all_inputs, nth_block}
use Rattle.ny_heap.specs.Steps.{reader_of}
use Rattle.ny_heap.specs.Revealing.{with_owed, promise_of}

-- ---- one unit has changed, and the others but for who reads them

-- the others
pub record OthersStay {B : Type 0} (old new : HeapState B) (u : ℕ) : Type 0 where
  pub block : new.block ≡ old.block
  pub blocks : (v j : ℕ) (b : List ℤ) → block_at new v j ≡ Some b → block_at old v j ≡ Some b
  pub others : (v : ℕ) (y : Node B) → v ≢ u → node_at new v ≡ Some y → (x : Node B) × (node_at old v ≡ Some x) × (y ≡ record x { outside = y.outside })

module _ {B : Type 0} (part : Parts B) (old new : HeapState B) (w : Whole) (u : ℕ) (stay : OthersStay old new u) where
  owed_here : (ss : List sounds.Sound) → (with_owed w u ss).owed u ≡ ss
  owed_here ss = ap (λ b. cond b ss (w.owed u)) (eq-eqb u u refl)

  owed_else : (ss : List sounds.Sound) (v : ℕ) → v ≢ u → (with_owed w u ss).owed v ≡ w.owed v
  owed_else ss v ne = ap (λ b. cond b ss (w.owed v)) (ne_eqb v u ne)

  -- what it kept, and what it is still to give
  mine : (ss : List sounds.Sound) (x y : Node B) → y.timing ≡ x.timing → y.filled ≡ x.filled → length ss ≡ y.pending
      → ((from m : ℕ) → unit_value x.kind x.timing x.memory from (all_inputs part w u x) m ≡ unit_value y.kind y.timing y.memory from (all_inputs part (with_owed w u ss) u y) m)
      → NodeMeans part old w u x → NodeMeans part new (with_owed w u ss) u y
  mine ss x y timing filled owed same m = record {
    len = m.len ∙ ap (λ (t : Timing). t.len) (sym timing);
    owed = ap length (owed_here ss) ∙ owed;
    kept = λ j b at. m.kept j b (stay.blocks u j b at) ∙ ap (λ n. nth_block n (w.samples u) j) (sym stay.block);
    rest = λ k from below.
        let first : x.timing.start + x.filled * old.block ≡ y.timing.start + y.filled * new.block = (λ i. (sym timing i).start + sym filled i * sym stay.block i) in
        m.rest k (subst (λ n. n ≤ k) (λ i. filled i * stay.block i) from) (subst (λ (t : Timing). k < t.len) timing below)
        ∙ same (x.timing.start + x.filled * old.block) (x.timing.start + k)
        ∙ (λ i. unit_value y.kind y.timing y.memory (first i) (all_inputs part (with_owed w u ss) u y) ((sym timing i).start + k));
  }

  other : (ss : List sounds.Sound) (v : ℕ) (x : Node B) (marks : List ℕ) → v ≢ u → NodeMeans part old w v x → NodeMeans part new (with_owed w u ss) v (record x { outside = marks })
  other ss v x marks ne m = record {
    len = m.len;
    owed = ap length (owed_else ss v ne) ∙ m.owed;
    kept = λ j b at. m.kept j b (stay.blocks v j b at) ∙ ap (λ n. nth_block n (w.samples v) j) (sym stay.block);
    rest = λ k from below.
        m.rest k (subst (λ n. x.filled * n ≤ k) stay.block from) below
        ∙ (λ i. unit_value x.kind x.timing x.memory (x.timing.start + x.filled * sym stay.block i) (map (input_sound w.samples) x.inputs ++ (map Some (sym (owed_else ss v ne) i) ++ map Some (parts_from part w.samples x.timing.rate (stop_after x.last_stop (sym (owed_else ss v ne) i)) x.waiting))) (x.timing.start + k));
  }

  all_means : (ss : List sounds.Sound) (y : Node B) → node_at new u ≡ Some y → NodeMeans part new (with_owed w u ss) u y → Means part old w → Means part new (with_owed w u ss)
  all_means ss y there here means v z at = elim (cases_eq v u) [
    | inl e ↦ subst (λ (n : ℕ). NodeMeans part new (with_owed w u ss) n z) (sym e) (subst (NodeMeans part new (with_owed w u ss) u) (same_some (sym there ∙ ap (node_at new) (sym e) ∙ at)) here)
    | inr ne ↦
        let x = stay.others v z ne at in
        subst (NodeMeans part new (with_owed w u ss) v) (sym x.2) (other ss v x.0 z.outside ne (means v x.0 x.1))
  ]

-- ---- a part is handed out

-- the same sounds, of which one more is owed and one less waits
promised : (stop : ℕ) (owed : List sounds.Sound) (s : sounds.Sound) (rest : ℕ → List sounds.Sound)
    → map Some (owed ++ s ∷ []) ++ map Some (rest (stop_after stop (owed ++ s ∷ []))) ≡ map Some owed ++ (Some s ∷ map Some (rest s.stop))
promised stop [] s rest = refl
promised stop (o ∷ os) s rest = ap (λ (others : List (Option sounds.Sound)). Some o ∷ others) (promised o.stop os s rest)

pub means_promised : {B : Type 0} (part : Parts B) (old new : HeapState B) (w : Whole) (u : ℕ) → OthersStay old new u → (x y : Node B) (p : Waiting B) (rest : List (Waiting B)) → node_at old u ≡ Some x → node_at new u ≡ Some y → x.waiting ≡ p ∷ rest
    → y ≡ record x { waiting = rest; pending = x.pending + 1; outside = y.outside } → Means part old w → Means part new (with_owed w u (w.owed u ++ promise_of part w u x p ∷ []))
means_promised {B} part old new w u stay x y p rest was now waits is means =
    all_means part old new w u stay (w.owed u ++ promise_of part w u x p ∷ []) (record x { waiting = rest; pending = x.pending + 1; outside = y.outside }) (now ∙ ap Some is)
    (mine part old new w u stay (w.owed u ++ promise_of part w u x p ∷ []) x (record x { waiting = rest; pending = x.pending + 1; outside = y.outside }) refl refl
    (omega (arith, length-append (w.owed u) (promise_of part w u x p ∷ []), (means u x was).owed))
    (λ from m. ap (λ ss. unit_value x.kind x.timing x.memory from ss m) same) (means u x was))
    means
  where
    others : ℕ → List sounds.Sound
    others stop = parts_from part w.samples x.timing.rate stop rest

    same : all_inputs part w u x ≡ map (input_sound w.samples) x.inputs ++ (map Some ((with_owed w u (w.owed u ++ promise_of part w u x p ∷ [])).owed u) ++ map Some (others (stop_after x.last_stop ((with_owed w u (w.owed u ++ promise_of part w u x p ∷ [])).owed u))))
    same =
        ap (λ ws. map (input_sound w.samples) x.inputs ++ (map Some (w.owed u) ++ map Some (parts_from part w.samples x.timing.rate (stop_after x.last_stop (w.owed u)) ws))) waits
        ∙ ap (λ (ss : List (Option sounds.Sound)). map (input_sound w.samples) x.inputs ++ ss) (sym (promised x.last_stop (w.owed u) (promise_of part w u x p) others))
        ∙ ap (λ (owed : List sounds.Sound). map (input_sound w.samples) x.inputs ++ (map Some owed ++ map Some (others (stop_after x.last_stop owed)))) (sym (owed_here part old new w u stay (w.owed u ++ promise_of part w u x p ∷ [])))

-- ---- a part is attached

-- what an input hears of a sound at its beginning
heard_of : (samples : ℕ → List ℤ) (place : ℕ) (t : Timing) (o : Option ℕ) (m : ℕ) → heard (input_sound samples (option_map {U = Reader} (λ n. record { node = n; place = place; timing = t }) o)) m ≡ value_at (sound_in samples o t) m
unfolding value_at
heard_of samples place t (Some n) m = refl
heard_of samples place t None m = by_test (nat_le t.start m)
  where
    by_test : (b : Bool) → pos 0 ≡ cond b (get_or [] (m - t.start) (pos 0)) (pos 0)
    by_test true = refl
    by_test false = refl

stop_in : (samples : ℕ → List ℤ) (t : Timing) (o : Option ℕ) → (sound_in samples o t).stop ≡ t.stop
stop_in samples t None = refl
stop_in samples t (Some n) = refl

-- an input more in place of a sound that is heard as it is
sums : (F : Option Reader → Option sounds.Sound) (q : Option Reader) (s : sounds.Sound) (rest : List (Option sounds.Sound)) (m : ℕ) → value_at s m ≡ heard (F q) m → (total : ℤ) (os : List (Option Reader))
    → sum_heard total (map F os ++ (Some s ∷ rest)) m ≡ sum_heard total (map F (os ++ q ∷ []) ++ rest) m
sums F q s rest m same total [] = ap (λ x. sum_heard (sample_add total x) rest m) same
sums F q s rest m same total (o ∷ os) = sums F q s rest m same (sample_add total (heard (F o) m)) os

pub means_delivered : {B : Type 0} (part : Parts B) (old new : HeapState B) (w : Whole) (u : ℕ) → OthersStay old new u → (x y : Node B) (s : Sound) → x.kind ≡ Mix → node_at old u ≡ Some x → node_at new u ≡ Some y
    → y ≡ record x { inputs = x.inputs ++ reader_of s ∷ []; pending = x.pending - 1; last_stop = s.timing.stop; outside = y.outside } → (m : sounds.Sound) (ms : List sounds.Sound) → Means part old w → w.owed u ≡ m ∷ ms → SoundIs w s m → Means part new (with_owed w u ms)
means_delivered {B} part old new w u stay x y s mix was now is m ms means owed sound =
    all_means part old new w u stay ms (record x { inputs = x.inputs ++ reader_of s ∷ []; pending = x.pending - 1; last_stop = s.timing.stop; outside = y.outside }) (now ∙ ap Some is)
    (mine part old new w u stay ms x (record x { inputs = x.inputs ++ reader_of s ∷ []; pending = x.pending - 1; last_stop = s.timing.stop; outside = y.outside }) refl refl
    (omega (arith, (means u x was).owed, ap length owed))
    (λ from n.
    ap (λ k. unit_value k x.timing x.memory from (all_inputs part w u x) n) mix
    ∙ same n
    ∙ ap (λ k. unit_value k x.timing x.memory from (map (input_sound w.samples) (x.inputs ++ reader_of s ∷ []) ++ after ((with_owed w u ms).owed u)) n) (sym mix))
    (means u x was))
    means
  where
    after : List sounds.Sound → List (Option sounds.Sound)
    after ss = map Some ss ++ map Some (parts_from part w.samples x.timing.rate (stop_after s.timing.stop ss) x.waiting)

    stops : m.stop ≡ s.timing.stop
    stops = ap (λ (q : sounds.Sound). q.stop) (sym sound) ∙ stop_in w.samples s.timing (list_of s)

    same : (n : ℕ) → sum_heard (pos 0) (all_inputs part w u x) n ≡ sum_heard (pos 0) (map (input_sound w.samples) (x.inputs ++ reader_of s ∷ []) ++ after ((with_owed w u ms).owed u)) n
    same n =
        ap (λ (ss : List sounds.Sound). sum_heard (pos 0) (map (input_sound w.samples) x.inputs ++ (map Some ss ++ map Some (parts_from part w.samples x.timing.rate (stop_after x.last_stop ss) x.waiting))) n) owed
        ∙ ap (λ stop. sum_heard (pos 0) (map (input_sound w.samples) x.inputs ++ (Some m ∷ (map Some ms ++ map Some (parts_from part w.samples x.timing.rate (stop_after stop ms) x.waiting)))) n) stops
        ∙ sums (input_sound w.samples) (reader_of s) m (after ms) n (ap (λ (q : sounds.Sound). value_at q n) (sym sound) ∙ sym (heard_of w.samples (place_of s) s.timing (list_of s) n)) (pos 0) x.inputs
        ∙ ap (λ (ss : List sounds.Sound). sum_heard (pos 0) (map (input_sound w.samples) (x.inputs ++ reader_of s ∷ []) ++ after ss) n) (sym (owed_here part old new w u stay ms))
