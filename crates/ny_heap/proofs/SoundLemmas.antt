-- Sounds that are spent together.
use Rattle.std.proofs.Common.{◌≡◌, ℕ, ◌+◌, List, [], ◌∷◌, length, Option, None, Some, refl, ap, subst, ◌∙◌, arith}
use Rattle.std.specs.Option.{option_map}
use Rattle.ny_list.specs.Store.{CursorState}
use Rattle.ny_list.proofs.IndexLemmas.{tab_same}
use Rattle.ny_heap.specs.declared.sound.Sound.{Sound}
use Rattle.ny_heap.specs.declared.table.Unit.{Unit as UnitData}
use Rattle.ny_heap.specs.declared.table.Table.{Table}
use Rattle.ny_heap.specs.Heap.{list_of, place_of, stands_in}
use Rattle.ny_heap.specs.Steps.{IsHeldAt, IsHeldSound, AreHeld, changed, without_mark, without_sound, without_sounds}
use Rattle.ny_heap.specs.Table.{unit_at, IsTable}
use Rattle.ny_heap.specs.View.{node_of, state_of, state_with, outside_in, filled_in}
use Rattle.ny_heap.proofs.CountLemmas.{held_cons}
pub use Rattle.ny_heap.proofs.SpentLemmas.{cursors_in}
use Rattle.ny_heap.proofs.SpentLemmas.{IsTable-none}
use Rattle.ny_heap.proofs.StepLemmas.{IsTable-held, spent_is}

-- ---- taken in hand, one after another

list_is : (s : Sound) (o : Option CursorState) → s.reader ≡ o → list_of s ≡ option_map (λ (c : CursorState). c.list) o
list_is s o e = ap (λ (p : Option CursorState). option_map {U = ℕ} (λ c. c.list) p) e

module _ (B : Type 0) (bs : ℕ → List B) (t : Table) (fills peak : ℕ) where
  none_spent : (cs : List (Option CursorState)) (s : Sound) → s.reader ≡ None → without_sound {B = B} (state_with bs t cs fills peak) s ≡ state_with bs t (None ∷ cs) fills peak
  none_spent cs s reads =
      ap (λ o. changed {B = B} (state_with bs t cs fills peak) o (λ x. without_mark (stands_in t.block x.timing.len (place_of s)) x)) (list_is s None reads)
      ∙ ap (λ ns. record (state_with {B = B} bs t cs fills peak) { nodes = ns })
      (tab_same (λ w. option_map (node_of {B = B} bs t cs w) (unit_at t w)) (λ w. option_map (node_of {B = B} bs t (None ∷ cs) w) (unit_at t w)) (length t.units.items) None (λ w h. same w (unit_at t w)))
    where
      same : (w : ℕ) (o : Option UnitData) → option_map (node_of {B = B} bs t cs w) o ≡ option_map (node_of {B = B} bs t (None ∷ cs) w) o
      same w None = refl
      same w (Some x) =
          ap (λ ms. Some (record (node_of {B = B} bs t cs w x) { outside = ms }))
          (tab_same (outside_in t cs w) (outside_in t (None ∷ cs) w) (filled_in t.store w + 1) 0 (λ j h. omega (arith, held_cons t None cs w j)))

  one_taken : (cs : List (Option CursorState)) → IsTable t cs → (s : Sound) → IsHeldSound {B = B} (state_with bs t cs fills peak) s → (o : Option CursorState) → s.reader ≡ o
      → IsTable t (o ∷ cs) × (without_sound {B = B} (state_with bs t cs fills peak) s ≡ state_with bs t (o ∷ cs) fills peak)
  one_taken cs table s held None e = (IsTable-none t cs table, none_spent cs s e)
  one_taken cs table s held (Some c) e =
      let counted = subst (IsHeldAt {B = B} (state_with bs t cs fills peak) s) (list_is s (Some c) e) held.1 in
      (IsTable-held B bs t cs fills peak table s c e counted, spent_is B bs t cs fills peak table s c e counted)

  -- all of them
  pub all_taken : IsTable t [] → (ss : List Sound) → AreHeld {B = B} (state_of bs t fills peak) ss → IsTable t (cursors_in ss) × (without_sounds {B = B} (state_of bs t fills peak) ss ≡ state_with bs t (cursors_in ss) fills peak)
  all_taken table [] held = (table, refl)
  all_taken table (s ∷ ss) held =
      let rest = all_taken table ss held.2 in
      let one = one_taken (cursors_in ss) rest.0 s (subst (λ h. IsHeldSound {B = B} h s) rest.1 held.1) s.reader refl in
      (one.0, ap (λ h. without_sound {B = B} h s) rest.1 ∙ one.1)
