-- Parts of a mix, added one after another.
use Rattle.std.proofs.Common.{◌≡◌, ℕ, ◌+◌, ◌<◌, ◌≤◌, List, length, take, get_or, Option, None, Some, refl, sym, ap, ◌∙◌, subst, arith, ℤ, pos}
use Rattle.std.proofs.lemmas.List.{length-map, get_or_default, take_all}
use Rattle.ny_list.specs.Store.{StoreState, CursorState}
use Rattle.ny_list.specs.Reading.{Shows}
use Rattle.ny_num.specs.Numbers.{IsSample, sample_add}
use Rattle.ny_num.specs.Sound.{value_at}
use Rattle.ny_num.specs.Mix.{sum_at}
use Rattle.ny_num.specs.declared.rate.Rate.{Rate}
use Rattle.ny_mix.specs.declared.part.Part.{Part}
use Rattle.ny_mix.specs.Mixes.{no_part, part_at, cursor_at, part_sound, sounds_of, ShowsParts, CanReadParts}
use Rattle.ny_units.specs.Inputs.{CanHear}
use Rattle.ny_mix.proofs.Sums.{add_nothing, sum_within, part_more, none_heard, value_silent}

-- the sums of the parts before number i
pub record PartsSoFar (s : StoreState) (parts : List Part) (m i : ℕ) (first out : List ℤ) : Type 0 where
  pub long : length out ≡ length first
  pub sums : (r : Rate) (whole : ℕ → List ℤ) → ShowsParts s parts whole → (k : ℕ) → k < length first → get_or out k (pos 0) ≡ sum_at (take i (sounds_of r whole parts)) (m + k)

-- parts without cursors, over silence
pub parts_begin : (s : StoreState) (parts : List Part) (m over : ℕ) (out : List ℤ) → over ≤ length parts → ((i : ℕ) → i < over → cursor_at parts i ≡ None)
    → ((k : ℕ) → k < length out → get_or out k (pos 0) ≡ pos 0) → PartsSoFar s parts m over out out
parts_begin s parts m over out inside gone silent = record {
  long = λ i. length out;
  sums = λ r whole shows k h. silent k h ∙ sym (none_heard r whole parts over (m + k) inside gone);
}

-- the part that was read
part_read : (parts : List Part) (i : ℕ) (p : Part) → i < length parts → p ≡ get_or parts i p → part_at parts i ≡ p
part_read parts i p within is = sym (is ∙ get_or_default parts i p no_part within)

-- it can be read as all can
pub part_ready : (s : StoreState) (parts : List Part) (i from n long : ℕ) (p : Part) → i < length parts → p ≡ get_or parts i p → long ≡ n → CanReadParts s parts from (from + n)
    → (c : CursorState) → p.cursor ≡ Some c → CanHear s c p.start from (from + long)
part_ready s parts i from n long p within is size ready c q =
    let e : part_at parts i ≡ p = part_read parts i p within is in
    subst (λ x. CanHear s c p.start from (from + x)) (sym size) (subst (λ (x : Part). CanHear s c x.start from (from + n)) e (ready i c within (ap (λ (x : Part). x.cursor) e ∙ q)))

-- one part more
pub parts_more : (s : StoreState) (parts : List Part) (m i : ℕ) (first out new : List ℤ) (p : Part) → i < length parts → p ≡ get_or parts i p → PartsSoFar s parts m i first out → length new ≡ length out
    → ((r : Rate) (whole : ℕ → List ℤ) → ((c : CursorState) → p.cursor ≡ Some c → Shows s c.list (whole c.list)) → (k : ℕ) → k < length out → IsSample (get_or out k (pos 0))
    → get_or new k (pos 0) ≡ sample_add (get_or out k (pos 0)) (value_at (part_sound r whole p) (m + k)))
    → PartsSoFar s parts m (i + 1) first new
parts_more s parts m i first out new p within read so size adds = record {
  long = size ∙ so.long;
  sums = λ r whole shows k h.
      let e : part_at parts i ≡ p = part_read parts i p within read in
      let is = so.sums r whole shows k h in
      let inside : k < length out = omega (arith, h, so.long) in
      adds r whole (λ c q. shows i c within (ap (λ (x : Part). x.cursor) e ∙ q)) k inside (subst IsSample (sym is) (sum_within (take i (sounds_of r whole parts)) (m + k)))
      ∙ ap (λ v. sample_add v (value_at (part_sound r whole p) (m + k))) is
      ∙ ap (λ (x : Part). sample_add (sum_at (take i (sounds_of r whole parts)) (m + k)) (value_at (part_sound r whole x) (m + k))) (sym e)
      ∙ sym (part_more r whole parts i (m + k) within);
}

-- all parts
pub parts_end : (s : StoreState) (parts : List Part) (m i : ℕ) (first out : List ℤ) → length parts ≤ i → PartsSoFar s parts m i first out
    → (r : Rate) (whole : ℕ → List ℤ) → ShowsParts s parts whole → (k : ℕ) → k < length first → get_or out k (pos 0) ≡ sum_at (sounds_of r whole parts) (m + k)
parts_end s parts m i first out all so r whole shows k h =
    so.sums r whole shows k h
    ∙ ap (λ ss. sum_at ss (m + k)) (take_all i (sounds_of r whole parts) (omega (arith, all, length-map parts (part_sound r whole))))

-- a part without a cursor adds nothing
pub part_silent : (r : Rate) (whole : ℕ → List ℤ) (p : Part) (n : ℕ) (v : ℤ) → ((c : CursorState) → p.cursor ≡ Some c → ⊥) → IsSample v → v ≡ sample_add v (value_at (part_sound r whole p) n)
part_silent r whole p n v not is = by_cursor p.cursor refl
  where
    by_cursor : (o : Option CursorState) → p.cursor ≡ o → v ≡ sample_add v (value_at (part_sound r whole p) n)
    by_cursor None e = sym (ap (sample_add v) (value_silent r whole p n e) ∙ add_nothing v is)
    by_cursor (Some c) e = absurd (not c e)
