-- How the stack of vacant numbers follows what the slots hold.
use Rattle.std.proofs.Common.{◌≡◌, ◌≢◌, ℕ, ◌+◌, ◌<◌, ◌≤◌, ◌^◌, List, [], ◌∷◌, ◌++◌, Option, None, Some, IsSome, arith, length, get_or, set, length-set, length-append, sym, ◌∙◌, ap}
use Rattle.std.proofs.lemmas.List.{get_or_append_left, get_or_push, get_or-set_other, get_or-set_same}
use Rattle.std.proofs.lemmas.List.Sums.{sum_by-append}
use Rattle.std.proofs.lemmas.List.Quantifiers.{all_pairs_push}
use Rattle.std.proofs.lemmas.List.Elements.{All-push}
use Rattle.ny_pool.specs.Vacant.{AreVacant}
use Rattle.ny_pool.proofs.PlaceLemmas.{vacancy, All-pop, All-top, AllPairs-pop, top_apart, within_places, count-filled, count-emptied}

module _ {T : Type 0} where
  -- the slot on top of the stack gets a value
  pub AreVacant-filled : (slots : List (Option T)) (vacant : List ℕ) (capacity s : ℕ) (v : T) → AreVacant slots (vacant ++ s ∷ []) capacity → AreVacant (set slots s (Some v)) vacant capacity
  AreVacant-filled slots vacant capacity s v is =
      let within = All-top (λ s. s < length slots) vacant s is.within in
      let empty = All-top (λ s. get_or slots s None ≡ None) vacant s is.empty in
      record {
        few = omega (arith, is.few, length-set slots s (Some v));
        room = omega (arith, is.room, length-set slots s (Some v));
        apart = AllPairs-pop (λ a b. a ≢ b) vacant s is.apart;
        within = λ k d h. omega (arith, All-pop (λ s. s < length slots) vacant s is.within k d h, length-set slots s (Some v));
        empty = λ k d h. get_or-set_other slots s (get_or vacant k d) (Some v) None (top_apart vacant s is.apart k d h) ∙ All-pop (λ s. get_or slots s None ≡ None) vacant s is.empty k d h;
        counted = omega (arith, is.counted, length-append vacant (s ∷ []), count-filled slots s v within empty);
      }

  -- a slot loses its value, and its number goes on top
  pub AreVacant-emptied : (slots : List (Option T)) (vacant : List ℕ) (capacity s : ℕ) → AreVacant slots vacant capacity → IsSome (get_or slots s None) → AreVacant (set slots s None) (vacant ++ s ∷ []) capacity
  AreVacant-emptied slots vacant capacity s is some =
      let within = within_places slots s some in
      let here = get_or-set_same slots s None None within in
      record {
        few = omega (arith, is.few, length-set slots s None);
        room = omega (arith, is.room, length-set slots s None);
        apart = all_pairs_push (λ a b. a ≢ b) vacant s is.apart (λ k d h e. differs k d h e);
        within = All-push (λ a. a < length (set slots s None)) vacant s (λ k d h. omega (arith, is.within k d h, length-set slots s None)) (omega (arith, within, length-set slots s None));
        empty = All-push (λ a. get_or (set slots s None) a None ≡ None) vacant s (λ k d h. get_or-set_other slots s (get_or vacant k d) None None (differs k d h) ∙ is.empty k d h) here;
        counted = omega (arith, is.counted, length-append vacant (s ∷ []), count-emptied slots s some);
      }
    where
      holds : (o : Option T) → IsSome o → o ≡ None → ⊥
      holds None some e = cc
      holds (Some x) some e = cc

      differs : (k : ℕ) (d : ℕ) → k < length vacant → get_or vacant k d ≡ s → ⊥
      differs k d h e = holds (get_or slots s None) some (ap (λ a. get_or slots a None) (sym e) ∙ is.empty k d h)

  -- one more slot, which holds nothing
  pub AreVacant-added : (slots : List (Option T)) (vacant : List ℕ) (capacity s : ℕ) → AreVacant slots vacant capacity → s ≡ length slots → s + 1 ≤ capacity → s + 1 < 2 ^ 32 → AreVacant (slots ++ None ∷ []) (vacant ++ s ∷ []) capacity
  AreVacant-added slots vacant capacity s is here room few =
      let longer = length-append slots (None ∷ []) in
      record {
        few = omega arith;
        room = omega arith;
        apart = all_pairs_push (λ a b. a ≢ b) vacant s is.apart (λ k d h e. absurd (omega (arith, is.within k d h)));
        within = All-push (λ a. a < length (slots ++ None ∷ [])) vacant s (λ k d h. omega (arith, is.within k d h)) (omega arith);
        empty = All-push (λ a. get_or (slots ++ None ∷ []) a None ≡ None) vacant s (λ k d h. get_or_append_left slots (None ∷ []) None (get_or vacant k d) (is.within k d h) ∙ is.empty k d h) (get_or_push slots None None s (sym here));
        counted = omega (arith, is.counted, length-append vacant (s ∷ []), sum_by-append vacancy slots (None ∷ []));
      }
