-- How each change of a pool's memory changes its blocks.
use Rattle.std.proofs.Common.{◌≡◌, ◌≢◌, inl, inr, ℕ, zero, suc, ◌+◌, ◌*◌, ◌<◌, ◌≤◌, ◌^◌, Bool, true, false, cond, ◌||◌, List, [], ◌∷◌, ◌++◌, length, get_or, set, Option, None, Some, is_none, IsSome, IfSome, count_by, replicate, take, drop, ◌-◌, refl, sym, ap, subst, ◌∙◌, arith, nat_eq, nat_le, length-set, length-append}
use Rattle.std.proofs.lemmas.List.{ext_get_or, get_or-set_same, get_or-set_other, get_or_past, get_or_append_left, get_or-replicate, length-replicate, take_all, drop_at}
use Rattle.std.proofs.lemmas.List.Sums.{count_by-le-length}
use Rattle.std.proofs.lemmas.List.Folds.{sum_by-replicate, list_any-append, list_any_none, list_any_at}
use Rattle.std.proofs.lemmas.List.Quantifiers.{all_pairs_push}
use Rattle.std.proofs.lemmas.List.Elements.{All-push}
use Rattle.std.proofs.lemmas.Bool.{ne_eqb, eq-eqb, le-leb, lt-leb, leb-false, cases_eq, cases_lt, true≢false}
use Rattle.std.specs.List.{list_any, All, slice_range}
use Rattle.ny_pool.specs.Layout.{is_free, block_at, blocks_from, IsLaidOut}
use Rattle.ny_pool.proofs.PlaceLemmas.{vacancy, All-pop, All-top, AllPairs-pop, top_apart, within_places, room_for_one, count-filled, count-emptied, count-kept}
use Rattle.ny_pool.proofs.RangeLemmas.{part_ends, parts_apart, length-range, same_range, other-over, here-over, other-set, here-set}

-- Which blocks are free.

or_parts : (a b : Bool) → (a || b) ≡ false → (a ≡ false) × (b ≡ false)
or_parts true b e = absurd (true≢false e)
or_parts false b e = (refl, e)

or_false : (a : Bool) → (a || (false || false)) ≡ a
or_false true = refl
or_false false = refl

or_true : (a : Bool) → (a || (true || false)) ≡ true
or_true true = refl
or_true false = refl

-- a block that is not free was taken once, and was not given back
not_free : (given : List ℕ) (used b : ℕ) → is_free given used b ≡ false → (b < used) × (list_any (λ g. nat_eq g b) given ≡ false)
not_free given used b e =
    let parts = or_parts (nat_le used b) (list_any (λ g. nat_eq g b) given) e in
    (leb-false used b parts.0, parts.1)

-- whether another block is free has nothing to do with b
other_given : (given : List ℕ) (used b k : ℕ) → k ≢ b → is_free (given ++ b ∷ []) used k ≡ is_free given used k
other_given given used b k ne =
    ap (λ t. nat_le used k || t)
    (list_any-append (λ g. nat_eq g k) given (b ∷ []) ∙ ap (λ t. list_any (λ g. nat_eq g k) given || (t || false)) (ne_eqb b k (λ e. ne (sym e))) ∙ or_false (list_any (λ g. nat_eq g k) given))

given_is_free : (given : List ℕ) (used b : ℕ) → is_free (given ++ b ∷ []) used b ≡ true
given_is_free given used b =
    ap (λ t. nat_le used b || t)
    (list_any-append (λ g. nat_eq g b) given (b ∷ []) ∙ ap (λ t. list_any (λ g. nat_eq g b) given || (t || false)) (eq-eqb b b refl) ∙ or_true (list_any (λ g. nat_eq g b) given))
    ∙ both (nat_le used b)
  where
    both : (a : Bool) → (a || true) ≡ true
    both true = refl
    both false = refl

taken_not_free : (given : List ℕ) (used b : ℕ) → b < used → All (λ g. g ≢ b) given → is_free given used b ≡ false
taken_not_free given used b begun apart =
    ap (λ t. t || list_any (λ g. nat_eq g b) given) (lt-leb used b begun) ∙ list_any_none (λ g. nat_eq g b) given (λ k d h. ne_eqb (get_or given k d) b (apart k d h))

next_is_free : (given : List ℕ) (used : ℕ) → is_free given used used ≡ true
next_is_free given used = ap (λ t. t || list_any (λ g. nat_eq g used) given) (le-leb used used (omega arith))

other_begun : (given : List ℕ) (used k : ℕ) → k ≢ used → is_free given (used + 1) k ≡ is_free given used k
other_begun given used k ne = ap (λ t. t || list_any (λ g. nat_eq g k) given) same
  where
    same : nat_le (used + 1) k ≡ nat_le used k
    same =
        elim (cases_lt k used) [
          | inl below ↦ lt-leb (used + 1) k (omega arith) ∙ sym (lt-leb used k below)
          | inr above ↦ le-leb (used + 1) k (omega arith) ∙ sym (le-leb used k above)
        ]

module _ {T : Type 0} where
  -- What the blocks hold, one by one.

  same_unless_free : (t : Bool) (xs ys : List T) → (t ≡ false → xs ≡ ys) → cond t None (Some xs) ≡ cond t None (Some ys)
  same_unless_free true xs ys same = refl
  same_unless_free false xs ys same = ap Some (same refl)

  is_taken : (t : Bool) (xs : List T) → IsSome (cond t None (Some xs)) → t ≡ false
  is_taken true xs some = absurd (true≢false (sym some))
  is_taken false xs some = refl

  whole_unless_free : (t : Bool) (xs : List T) (len : ℕ) → (t ≡ false → length xs ≡ len) → IfSome (cond t None (Some xs)) (λ ys. length ys ≡ len)
  whole_unless_free true xs len whole = tt
  whole_unless_free false xs len whole = whole refl

  pub length-blocks : (items : List T) (given : List ℕ) (used len b n : ℕ) → length (blocks_from items given used len b n) ≡ n
  length-blocks items given used len b zero = refl
  length-blocks items given used len b (suc n) = ap suc (length-blocks items given used len (suc b) n)

  blocks_at : (items : List T) (given : List ℕ) (used len b n k : ℕ) → k < n → get_or (blocks_from items given used len b n) k None ≡ block_at items given used len (b + k)
  blocks_at items given used len b zero k h = absurd (omega arith)
  blocks_at items given used len b (suc n) zero h = let e : b ≡ b + 0 = omega arith in ap (block_at items given used len) e
  blocks_at items given used len b (suc n) (suc k) h = let e : suc b + k ≡ b + suc k = omega arith in blocks_at items given used len (suc b) n k (omega arith) ∙ ap (block_at items given used len) e

  pub get_or-blocks : (items : List T) (given : List ℕ) (used len n k : ℕ) → k < n → get_or (blocks_from items given used len 0 n) k None ≡ block_at items given used len k
  get_or-blocks items given used len n k h = let e : 0 + k ≡ k = omega arith in blocks_at items given used len 0 n k h ∙ ap (block_at items given used len) e

  -- where only block b differs, the blocks are the old ones with b written
  blocks_written : (items later : List T) (given after : List ℕ) (used begun len n b : ℕ) → b < n → ((k : ℕ) → k ≢ b → block_at later after begun len k ≡ block_at items given used len k)
      → blocks_from later after begun len 0 n ≡ set (blocks_from items given used len 0 n) b (block_at later after begun len b)
  blocks_written items later given after used begun len n b inside same =
      ext_get_or None _ _ (length-blocks later after begun len 0 n ∙ sym (length-set (blocks_from items given used len 0 n) b _ ∙ length-blocks items given used len 0 n)) (λ k h.
      let within : k < n = omega (arith, length-blocks later after begun len 0 n) in
      get_or-blocks later after begun len n k within
      ∙ elim (cases_eq k b) [
        | inl e ↦ ap (block_at later after begun len) e ∙ sym (ap (λ j. get_or (set (blocks_from items given used len 0 n) b (block_at later after begun len b)) j None) e ∙ get_or-set_same (blocks_from items given used len 0 n) b (block_at later after begun len b) None (omega (arith, length-blocks items given used len 0 n)))
        | inr ne ↦ same k ne ∙ sym (get_or-set_other (blocks_from items given used len 0 n) b k (block_at later after begun len b) None ne ∙ get_or-blocks items given used len n k within)
      ])

  -- a taken block is one of the n, was taken once, and was not given back
  pub taken_parts : (items : List T) (given : List ℕ) (used len n b : ℕ) → IsSome (get_or (blocks_from items given used len 0 n) b None) → (b < n) × (b < used) × (is_free given used b ≡ false)
  taken_parts items given used len n b some =
      let inside : b < n = omega (arith, within_places (blocks_from items given used len 0 n) b some, length-blocks items given used len 0 n) in
      let taken = is_taken (is_free given used b) _ (subst IsSome (get_or-blocks items given used len n b inside) some) in
      (inside, (not_free given used b taken).0, taken)

  -- it holds its part of the items
  pub taken_items : (items : List T) (given : List ℕ) (used len n b : ℕ) → IsSome (get_or (blocks_from items given used len 0 n) b None) → get_or (blocks_from items given used len 0 n) b None ≡ Some (slice_range items (b * len) (b * len + len))
  taken_items items given used len n b some =
      let parts = taken_parts items given used len n b some in
      get_or-blocks items given used len n b parts.0 ∙ ap (λ t. cond t None (Some (slice_range items (b * len) (b * len + len)))) parts.2

  -- What the layout says of a block that is taken.

  pub taken_ends : (items : List T) (given : List ℕ) (item_room given_room used n len b : ℕ) → IsLaidOut items given item_room given_room used n len → IsSome (get_or (blocks_from items given used len 0 n) b None) → b * len + len ≤ length items
  taken_ends items given item_room given_room used n len b is some = omega (arith, is.whole, part_ends len used b (taken_parts items given used len n b some).1)

  pub each_is_whole : (items : List T) (given : List ℕ) (item_room given_room used n len b : ℕ) → IsLaidOut items given item_room given_room used n len → IfSome (get_or (blocks_from items given used len 0 n) b None) (λ xs. length xs ≡ len)
  each_is_whole items given item_room given_room used n len b is =
      elim (cases_lt b n) [
        | inl inside ↦ subst (λ o. IfSome o (λ xs. length xs ≡ len)) (sym (get_or-blocks items given used len n b inside)) (whole_unless_free (is_free given used b) (slice_range items (b * len) (b * len + len)) len (λ taken. length-range items (b * len) len (omega (arith, is.whole, part_ends len used b (not_free given used b taken).0))))
        | inr past ↦ subst (λ o. IfSome o (λ xs. length xs ≡ len)) (sym (get_or_past (blocks_from items given used len 0 n) b None (omega (arith, length-blocks items given used len 0 n)))) tt
      ]

  -- as many were given back as were taken once, at most
  pub given_within : (items : List T) (given : List ℕ) (item_room given_room used n len : ℕ) → IsLaidOut items given item_room given_room used n len → length given ≤ used
  given_within items given item_room given_room used n len is = omega (arith, is.counted, length-blocks items given used len 0 n, count_by-le-length is_none (blocks_from items given used len 0 n))

  pub room_to_give : (items : List T) (given : List ℕ) (item_room given_room used n len b : ℕ) → IsLaidOut items given item_room given_room used n len → IsSome (get_or (blocks_from items given used len 0 n) b None) → length given < given_room
  room_to_give items given item_room given_room used n len b is some = omega (arith, is.counted, is.begun, is.given_fit, length-blocks items given used len 0 n, room_for_one (blocks_from items given used len 0 n) b some)

  -- The changes.

  -- no block was ever taken
  pub blocks-opened : (n len : ℕ) → blocks_from {T = T} [] [] 0 len 0 n ≡ replicate n None
  blocks-opened n len =
      ext_get_or None _ _ (length-blocks [] [] 0 len 0 n ∙ sym (length-replicate n None)) (λ k h.
      let within : k < n = omega (arith, length-blocks [] [] 0 len 0 n) in
      get_or-blocks [] [] 0 len n k within ∙ ap (λ t. cond (t || false) None (Some (slice_range [] (k * len) (k * len + len)))) (le-leb 0 k (omega arith)) ∙ sym (get_or-replicate n k None None within))

  pub IsLaidOut-opened : (item_room given_room n len : ℕ) → n < 2 ^ 32 → n * len ≤ item_room → n ≤ given_room → IsLaidOut {T = T} [] [] item_room given_room 0 n len
  IsLaidOut-opened item_room given_room n len few items_fit given_fit = record {
    whole = omega arith;
    begun = omega arith;
    few = few;
    items_fit = items_fit;
    given_fit = given_fit;
    apart = λ i j d h k. absurd (omega arith);
    within = λ k d h. absurd (omega arith);
    counted = omega (arith, ap (count_by is_none) (blocks-opened n len), sum_by-replicate {X = Option (List T)} vacancy n None);
  }

  -- a taken block is given back
  pub blocks-given : (items : List T) (given : List ℕ) (used len n b : ℕ) → IsSome (get_or (blocks_from items given used len 0 n) b None) → blocks_from items (given ++ b ∷ []) used len 0 n ≡ set (blocks_from items given used len 0 n) b None
  blocks-given items given used len n b some =
      blocks_written items items given (given ++ b ∷ []) used used len n b (taken_parts items given used len n b some).0 (λ k ne. ap (λ t. cond t None (Some (slice_range items (k * len) (k * len + len)))) (other_given given used b k ne))
      ∙ ap (λ t. set (blocks_from items given used len 0 n) b (cond t None (Some (slice_range items (b * len) (b * len + len))))) (given_is_free given used b)

  pub IsLaidOut-given : (items : List T) (given : List ℕ) (item_room given_room used n len b : ℕ) → IsLaidOut items given item_room given_room used n len → IsSome (get_or (blocks_from items given used len 0 n) b None) → IsLaidOut items (given ++ b ∷ []) item_room given_room used n len
  IsLaidOut-given items given item_room given_room used n len b is some =
      let parts = taken_parts items given used len n b some in
      record {
        whole = is.whole;
        begun = is.begun;
        few = is.few;
        items_fit = is.items_fit;
        given_fit = is.given_fit;
        apart = all_pairs_push (λ a b. a ≢ b) given b is.apart (λ k d h e. differs k d h e (not_free given used b parts.2).1);
        within = All-push (λ c. c < used) given b is.within parts.1;
        counted = omega (arith, is.counted, length-append given (b ∷ []), ap (count_by is_none) (blocks-given items given used len n b some), count-emptied (blocks_from items given used len 0 n) b some);
      }
    where
      differs : (k : ℕ) (d : ℕ) → k < length given → get_or given k d ≡ b → list_any (λ g. nat_eq g b) given ≡ false → ⊥
      differs k d h e none = true≢false (sym (list_any_at (λ g. nat_eq g b) given k d h (eq-eqb (get_or given k d) b e)) ∙ none)

  -- what becomes of the layout where the free block b is taken
  pub record IsTakenAt (items later : List T) (given after : List ℕ) (item_room given_room used begun n len b : ℕ) (content : List T) : Type 0 where
    pub layout : IsLaidOut later after item_room given_room begun n len
    pub within : b < length (blocks_from items given used len 0 n)
    pub was_free : get_or (blocks_from items given used len 0 n) b None ≡ None
    pub whole : length content ≡ len
    pub blocks : blocks_from later after begun len 0 n ≡ set (blocks_from items given used len 0 n) b (Some content)
    pub free : count_by is_none (blocks_from later after begun len 0 n) + 1 ≡ count_by is_none (blocks_from items given used len 0 n)

  -- the block that was given back last is taken again
  pub taken_again : (items : List T) (given : List ℕ) (item_room given_room used n len b : ℕ) → IsLaidOut items (given ++ b ∷ []) item_room given_room used n len
      → IsTakenAt items items (given ++ b ∷ []) given item_room given_room used used n len b (slice_range items (b * len) (b * len + len))
  taken_again items given item_room given_room used n len b is =
      let old = blocks_from items (given ++ b ∷ []) used len 0 n in
      let begun = All-top (λ c. c < used) given b is.within in
      let inside : b < n = omega (arith, is.begun) in
      let now_taken = taken_not_free given used b begun (top_apart given b is.apart) in
      let written = blocks_written items items (given ++ b ∷ []) given used used len n b inside (λ k ne. ap (λ t. cond t None (Some (slice_range items (k * len) (k * len + len)))) (sym (other_given given used b k ne))) ∙ ap (λ t. set old b (cond t None (Some (slice_range items (b * len) (b * len + len))))) now_taken in
      let within : b < length old = omega (arith, length-blocks items (given ++ b ∷ []) used len 0 n) in
      let was_free : get_or old b None ≡ None = get_or-blocks items (given ++ b ∷ []) used len n b inside ∙ ap (λ t. cond t None (Some (slice_range items (b * len) (b * len + len)))) (given_is_free given used b) in
      let fewer : count_by is_none (blocks_from items given used len 0 n) + 1 ≡ count_by is_none old = omega (arith, ap (count_by is_none) written, count-filled old b (slice_range items (b * len) (b * len + len)) within was_free) in
      record {
        layout = record {
          whole = is.whole;
          begun = is.begun;
          few = is.few;
          items_fit = is.items_fit;
          given_fit = is.given_fit;
          apart = AllPairs-pop (λ a b. a ≢ b) given b is.apart;
          within = All-pop (λ c. c < used) given b is.within;
          counted = omega (arith, is.counted, length-append given (b ∷ []), fewer);
        };
        within = within;
        was_free = was_free;
        whole = length-range items (b * len) len (omega (arith, is.whole, part_ends len used b begun));
        blocks = written;
        free = fewer;
      }

  -- the next block is taken for the first time
  pub taken_first : (items content : List T) (given : List ℕ) (item_room given_room used n len : ℕ) → IsLaidOut items given item_room given_room used n len → used < n → length content ≡ len
      → IsTakenAt items (items ++ content) given given item_room given_room used (used + 1) n len used content
  taken_first items content given item_room given_room used n len is inside size =
      let old = blocks_from items given used len 0 n in
      let apart : All (λ g. g ≢ used) given = λ k d h e. absurd (omega (arith, is.within k d h)) in
      let now_taken = taken_not_free given (used + 1) used (omega arith) apart in
      let others : (k : ℕ) → k ≢ used → block_at (items ++ content) given (used + 1) len k ≡ block_at items given used len k = λ k ne.
      ap (λ t. cond t None (Some (slice_range (items ++ content) (k * len) (k * len + len)))) (other_begun given used k ne)
      ∙ same_unless_free (is_free given used k) (slice_range (items ++ content) (k * len) (k * len + len)) (slice_range items (k * len) (k * len + len)) (λ taken. before k (omega (arith, is.whole, part_ends len used k (not_free given used k taken).0))) in
      let written : blocks_from (items ++ content) given (used + 1) len 0 n ≡ set old used (Some content) = blocks_written items (items ++ content) given given used (used + 1) len n used inside others
      ∙ ap (λ t. set old used (cond t None (Some (slice_range (items ++ content) (used * len) (used * len + len))))) now_taken
      ∙ ap (λ xs. set old used (Some xs)) here in
      let within : used < length old = omega (arith, length-blocks items given used len 0 n) in
      let was_free : get_or old used None ≡ None = get_or-blocks items given used len n used inside ∙ ap (λ t. cond t None (Some (slice_range items (used * len) (used * len + len)))) (next_is_free given used) in
      let fewer : count_by is_none (blocks_from (items ++ content) given (used + 1) len 0 n) + 1 ≡ count_by is_none old = omega (arith, ap (count_by is_none) written, count-filled old used content within was_free) in
      record {
        layout = record {
          whole = omega (arith, is.whole, length-append items content);
          begun = omega arith;
          few = is.few;
          items_fit = is.items_fit;
          given_fit = is.given_fit;
          apart = is.apart;
          within = λ k d h. omega (arith, is.within k d h);
          counted = omega (arith, is.counted, fewer);
        };
        within = within;
        was_free = was_free;
        whole = size;
        blocks = written;
        free = fewer;
      }
    where
      before : (k : ℕ) → k * len + len ≤ length items → slice_range (items ++ content) (k * len) (k * len + len) ≡ slice_range items (k * len) (k * len + len)
      before k fits = same_range items (items ++ content) (k * len) len fits (omega (arith, length-append items content)) (λ j d h. get_or_append_left items content d (k * len + j) (omega arith))

      here : slice_range (items ++ content) (used * len) (used * len + len) ≡ content
      here = ap (take (used * len + len - used * len)) (drop_at items content (used * len) is.whole) ∙ take_all (used * len + len - used * len) content (omega arith)

  -- a taken block is written
  pub blocks-changed : (items later ys : List T) (given : List ℕ) (item_room given_room used n len b : ℕ) → IsLaidOut items given item_room given_room used n len → IsSome (get_or (blocks_from items given used len 0 n) b None)
      → ((k : ℕ) → k ≢ b → k * len + len ≤ length items → slice_range later (k * len) (k * len + len) ≡ slice_range items (k * len) (k * len + len)) → slice_range later (b * len) (b * len + len) ≡ ys
      → blocks_from later given used len 0 n ≡ set (blocks_from items given used len 0 n) b (Some ys)
  blocks-changed items later ys given item_room given_room used n len b is some others here =
      let parts = taken_parts items given used len n b some in
      blocks_written items later given given used used len n b parts.0 (λ k ne. same_unless_free (is_free given used k) (slice_range later (k * len) (k * len + len)) (slice_range items (k * len) (k * len + len)) (λ taken. others k ne (omega (arith, is.whole, part_ends len used k (not_free given used k taken).0))))
      ∙ ap (λ t. set (blocks_from items given used len 0 n) b (cond t None (Some (slice_range later (b * len) (b * len + len))))) parts.2
      ∙ ap (λ xs. set (blocks_from items given used len 0 n) b (Some xs)) here

  pub IsLaidOut-changed : (items later ys : List T) (given : List ℕ) (item_room given_room used n len b : ℕ) → IsLaidOut items given item_room given_room used n len → IsSome (get_or (blocks_from items given used len 0 n) b None)
      → length later ≡ length items → blocks_from later given used len 0 n ≡ set (blocks_from items given used len 0 n) b (Some ys) → IsLaidOut later given item_room given_room used n len
  IsLaidOut-changed items later ys given item_room given_room used n len b is some size written = record {
    whole = size ∙ is.whole;
    begun = is.begun;
    few = is.few;
    items_fit = is.items_fit;
    given_fit = is.given_fit;
    apart = is.apart;
    within = is.within;
    counted = omega (arith, is.counted, ap (count_by is_none) written, count-kept (blocks_from items given used len 0 n) b ys some);
  }

  -- all items of a taken block are written
  pub blocks-copied : (items ys : List T) (given : List ℕ) (item_room given_room used n len b : ℕ) → IsLaidOut items given item_room given_room used n len → IsSome (get_or (blocks_from items given used len 0 n) b None) → length ys ≡ len
      → blocks_from (take (b * len) items ++ (ys ++ drop (b * len + length ys) items)) given used len 0 n ≡ set (blocks_from items given used len 0 n) b (Some ys)
  blocks-copied items ys given item_room given_room used n len b is some size =
      let ends = taken_ends items given item_room given_room used n len b is some in
      blocks-changed items _ ys given item_room given_room used n len b is some (λ k ne inside. other-over items ys (b * len) len (k * len) size ends inside (parts_apart len k b ne)) (here-over items ys (b * len) len size ends)

  -- one item of a taken block is written
  pub blocks-put : (items : List T) (given : List ℕ) (item_room given_room used n len b i : ℕ) (v : T) → IsLaidOut items given item_room given_room used n len → IsSome (get_or (blocks_from items given used len 0 n) b None) → i < len
      → blocks_from (set items (b * len + i) v) given used len 0 n ≡ set (blocks_from items given used len 0 n) b (Some (set (slice_range items (b * len) (b * len + len)) i v))
  blocks-put items given item_room given_room used n len b i v is some h =
      let ends = taken_ends items given item_room given_room used n len b is some in
      blocks-changed items _ _ given item_room given_room used n len b is some (λ k ne inside. other-set items (b * len) len i (k * len) v h inside (parts_apart len k b ne)) (here-set items (b * len) len i v h ends)

  -- room for more items does no harm
  pub IsLaidOut-more : {items : List T} {given : List ℕ} {item_room more given_room used n len : ℕ} → IsLaidOut items given item_room given_room used n len → item_room ≤ more → IsLaidOut items given more given_room used n len
  IsLaidOut-more is above = record {
    whole = is.whole;
    begun = is.begun;
    few = is.few;
    items_fit = omega (arith, is.items_fit);
    given_fit = is.given_fit;
    apart = is.apart;
    within = is.within;
    counted = is.counted;
  }
