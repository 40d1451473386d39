-- The parts of a mix as a unit's inputs, and their sum as what is heard of them.
use Rattle.std.proofs.Common.{◌≡◌, ◌≢◌, ℕ, zero, suc, ◌+◌, ◌<◌, ◌≤◌, fold, List, [], ◌∷◌, ◌++◌, length, map, get_or, set, Option, None, Vec, Global, refl, sym, ap, ◌∙◌, arith, ℤ, pos, append-nil, length-append}
use Rattle.std.specs.List.{range_with_len}
use Rattle.std.proofs.lemmas.List.{append_assoc, map-append, set-set, get_or-set_same, get_or-set_other, get_or-map, ext_get_or, length-map}
use Rattle.std.proofs.lemmas.List.FromFn.{length-map-range_with_len, get_or-map-range_with_len}
use Rattle.ny_num.specs.Numbers.{IsSample, sample_add}
use Rattle.ny_num.specs.Sound as sounds
use Rattle.ny_num.specs.Sound.{value_at}
use Rattle.ny_num.specs.Mix.{sum_at}
use Rattle.ny_num.specs.declared.rate.Rate.{Rate}
use Rattle.ny_list.specs.Store.{CursorState}
use Rattle.ny_mix.specs.declared.part.Part.{Part}
use Rattle.ny_mix.specs.Mixes.{MixState, no_part, part_at, with_cursor, part_sound, sounds_of}
use Rattle.ny_mix.proofs.Sums.{sum_within}
use Rattle.ny_heap.specs.declared.sound.Sound.{Sound}
use Rattle.ny_heap.specs.Tasks.{part_of}
use Rattle.ny_heap.specs.Means.{heard, sum_heard}

-- ---- another cursor of one part

pub part_here : (parts : List Part) (i : ℕ) (c : Option CursorState) → i < length parts → part_at (with_cursor parts i c) i ≡ record (part_at parts i) { cursor = c }
part_here parts i c inside = get_or-set_same parts i (record (part_at parts i) { cursor = c }) no_part inside

pub part_else : (parts : List Part) (i k : ℕ) (c : Option CursorState) → k ≢ i → part_at (with_cursor parts i c) k ≡ part_at parts k
part_else parts i k c ne = get_or-set_other parts i k (record (part_at parts i) { cursor = c }) no_part ne

pub part_twice : (parts : List Part) (i : ℕ) (a b : Option CursorState) → i < length parts → with_cursor (with_cursor parts i a) i b ≡ with_cursor parts i b
part_twice parts i a b inside =
    ap (λ (p : Part). set (with_cursor parts i a) i (record p { cursor = b })) (part_here parts i a inside)
    ∙ set-set parts i (record (part_at parts i) { cursor = a }) (record (part_at parts i) { cursor = b })

-- ---- sounds that become parts

-- of these sounds those that are not left are parts, in their order
pub record Attaching (first mix : MixState (Vec Sound Global)) (sounds left : List Sound) : Type 0 where
  pub done : List Sound
  pub all : sounds ≡ done ++ left
  pub parts : mix ≡ record first { parts = first.parts ++ map part_of done }

pub attaching_begun : (first : MixState (Vec Sound Global)) (sounds left : List Sound) → left ≡ sounds → Attaching first first sounds left
attaching_begun first sounds left is = record { done = []; all = sym is; parts = ap (λ ps. record first { parts = ps }) (sym (append-nil first.parts)) }

module _ (first mix : MixState (Vec Sound Global)) (sounds left : List Sound) (a : Attaching first mix sounds left) where
  pub attaching_room : (sound : Sound) (rest : List Sound) → left ≡ sound ∷ rest → length first.parts + length first.waiting + length sounds ≤ first.room → length mix.parts + length mix.waiting < mix.room
  attaching_room sound rest is room =
      omega (
        arith,
        room,
        ap length a.all,
        length-append a.done left,
        ap length is,
        ap (λ (m : MixState (Vec Sound Global)). length m.parts) a.parts,
        ap (λ (m : MixState (Vec Sound Global)). length m.waiting) a.parts,
        ap (λ (m : MixState (Vec Sound Global)). m.room) a.parts,
        length-append first.parts (map part_of a.done),
        length-map a.done part_of,
      )

  pub attaching_more : (sound : Sound) (rest : List Sound) (next : MixState (Vec Sound Global)) → left ≡ sound ∷ rest → next ≡ record mix { parts = mix.parts ++ part_of sound ∷ [] } → Attaching first next sounds rest
  attaching_more sound rest next is more = record {
    done = a.done ++ sound ∷ [];
    all = a.all ∙ ap (λ ss. a.done ++ ss) is ∙ sym (append_assoc a.done (sound ∷ []) rest);
    parts = more
        ∙ ap (λ (m : MixState (Vec Sound Global)). record m { parts = m.parts ++ part_of sound ∷ [] }) a.parts
        ∙ ap (λ ps. record first { parts = ps }) (append_assoc first.parts (map part_of a.done) (part_of sound ∷ []) ∙ ap (λ ps. first.parts ++ ps) (sym (map-append part_of a.done (sound ∷ []))));
  }

  pub attached : left ≡ [] → mix ≡ record first { parts = first.parts ++ map part_of sounds }
  attached none = a.parts ∙ ap (λ ss. record first { parts = first.parts ++ map part_of ss }) (sym (a.all ∙ ap (λ ss. a.done ++ ss) none ∙ append-nil a.done))

-- ---- sums

-- adding these to a clamped sum changes nothing at an index
abbrev pub AddNothing : List (Option sounds.Sound) → ℕ → Type 0
AddNothing rest m = (v : ℤ) → IsSample v → sum_heard v rest m ≡ v

sum_append : (xs rest : List (Option sounds.Sound)) (v : ℤ) (m : ℕ) → sum_heard v (xs ++ rest) m ≡ sum_heard (sum_heard v xs m) rest m
sum_append [] rest v m = refl
sum_append (x ∷ xs) rest v m = sum_append xs rest (sample_add v (heard x m)) m

sum_fold : (xs : List (Option sounds.Sound)) (v : ℤ) (m : ℕ) → sum_heard v xs m ≡ fold sample_add v (map (λ s. heard s m) xs)
sum_fold [] v m = refl
sum_fold (x ∷ xs) v m = sum_fold xs (sample_add v (heard x m)) m

fold_map : (ss : List sounds.Sound) (v : ℤ) (m : ℕ) → fold (λ total s. sample_add total (value_at s m)) v ss ≡ fold sample_add v (map (λ s. value_at s m) ss)
fold_map [] v m = refl
fold_map (s ∷ ss) v m = fold_map ss (sample_add v (value_at s m)) m

sum_is_fold : (ss : List sounds.Sound) (m : ℕ) → sum_at ss m ≡ fold sample_add (pos 0) (map (λ s. value_at s m) ss)
unfolding sum_at
sum_is_fold ss m = fold_map ss (pos 0) m

-- inputs that are heard at an index as the parts are have the parts' sum there
module _ (r : Rate) (whole : ℕ → List ℤ) (parts : List Part) (m : ℕ) (f : ℕ → Option sounds.Sound) (same : (i : ℕ) → i < length parts → heard (f i) m ≡ value_at (part_sound r whole (part_at parts i)) m) where
  each_value : map (λ s. heard s m) (map f (range_with_len 0 (length parts))) ≡ map (λ s. value_at s m) (sounds_of r whole parts)
  each_value =
      ext_get_or (pos 0) (map (λ s. heard s m) (map f (range_with_len 0 (length parts)))) (map (λ s. value_at s m) (sounds_of r whole parts))
      (length-map (map f (range_with_len 0 (length parts))) (λ s. heard s m) ∙ long ∙ sym (length-map (sounds_of r whole parts) (λ s. value_at s m) ∙ length-map parts (part_sound r whole)))
      (λ i h. at i (omega (arith, h, length-map (map f (range_with_len 0 (length parts))) (λ s. heard s m), long)))
    where
      long : length (map f (range_with_len 0 (length parts))) ≡ length parts
      long = length-map-range_with_len f 0 (length parts)

      at : (i : ℕ) → i < length parts → get_or (map (λ s. heard s m) (map f (range_with_len 0 (length parts)))) i (pos 0) ≡ get_or (map (λ s. value_at s m) (sounds_of r whole parts)) i (pos 0)
      at i inside =
          get_or-map (λ s. heard s m) (map f (range_with_len 0 (length parts))) i None (pos 0) (omega (arith, inside, long))
          ∙ ap (λ s. heard s m) (get_or-map-range_with_len f 0 (length parts) i i None inside (omega arith))
          ∙ same i inside
          ∙ ap (λ s. value_at s m) (sym (get_or-map (part_sound r whole) parts i no_part (part_sound r whole no_part) inside))
          ∙ sym (get_or-map (λ s. value_at s m) (sounds_of r whole parts) i (part_sound r whole no_part) (pos 0) (omega (arith, inside, length-map parts (part_sound r whole))))

  pub sum_of_parts : (rest : List (Option sounds.Sound)) → AddNothing rest m → sum_heard (pos 0) (map f (range_with_len 0 (length parts)) ++ rest) m ≡ sum_at (sounds_of r whole parts) m
  sum_of_parts rest nothing =
      sum_append (map f (range_with_len 0 (length parts))) rest (pos 0) m
      ∙ ap (λ v. sum_heard v rest m) (sum_fold (map f (range_with_len 0 (length parts))) (pos 0) m ∙ ap (fold sample_add (pos 0)) each_value ∙ sym (sum_is_fold (sounds_of r whole parts) m))
      ∙ nothing (sum_at (sounds_of r whole parts) m) (sum_within (sounds_of r whole parts) m)

-- inputs that are heard the same at an index have the same sum there
pub sum_alike : (f g : ℕ → Option sounds.Sound) (rest : List (Option sounds.Sound)) (m i n : ℕ) (v : ℤ) → ((k : ℕ) → i ≤ k → k < i + n → heard (f k) m ≡ heard (g k) m)
    → sum_heard v (map f (range_with_len i n) ++ rest) m ≡ sum_heard v (map g (range_with_len i n) ++ rest) m
sum_alike f g rest m i zero v same = refl
sum_alike f g rest m i (suc n) v same =
    ap (λ a. sum_heard (sample_add v a) (map f (range_with_len (i + 1) n) ++ rest) m) (same i (omega arith) (omega arith))
    ∙ sum_alike f g rest m (i + 1) n (sample_add v (heard (g i) m)) (λ k from to. same k (omega (arith, from)) (omega (arith, to)))
