-- Steps of one list, one after another.
use Rattle.std.proofs.Common.{◌≡◌, ◌≢◌, inl, inr, ℕ, ◌+◌, ◌^◌, ◌<◌, List, get_or, None, Some, refl, sym, ap, subst, ◌∙◌, arith, ℤ}
use Rattle.std.proofs.lemmas.List.{get_or-set_same}
use Rattle.std.proofs.lemmas.Bool.{cases_eq}
use Rattle.std.specs.Option.{option_map}
use Rattle.ny_list.specs.declared.table.Entry.{Entry}
use Rattle.ny_list.specs.declared.table.Table.{Table}
use Rattle.ny_list.specs.Store.{ListState, list_at}
use Rattle.ny_list.specs.Steps.{entered, left, settled, filled_with, with_change, with_loose}
use Rattle.ny_list.specs.Table.{entry_at, list_state, state_of, IsTable, IsSettled, IsStore, CanStand, Changes, Enters, Leaves, Settles, Drops, Moves, AppendsWith, AddsWith}
use Rattle.ny_list.proofs.StateLemmas.{list_seen}
use Rattle.ny_list.proofs.SettleLemmas.{Changes-then, change_twice, same_entry}

-- after a cursor left, another block can still be stood in
pub stands_after : (a b : Table) (l from to : ℕ) → Leaves a b l from → CanStand a l to → CanStand b l to
stands_after a b l from to leaves can =
    let same = same_entry a l can.entry leaves.was can.there leaves.changes.there in
    record {
      entry = leaves.now;
      there = leaves.changes.after;
      from = omega (arith, can.from, ap (λ (q : Entry). q.span.gone) same, ap (λ q. q.gone) leaves.span);
      upto = omega (arith, can.upto, ap (λ (q : Entry). q.span.filled) same, ap (λ q. q.filled) leaves.span);
    }

pub few_after : (a b : Table) (l from : ℕ) → IsTable a → (g : Leaves a b l from) → (x : Entry) → entry_at b l ≡ Some x → x.cursors + 1 < 2 ^ 32
few_after a b l from table g x at =
    let same = same_entry b l g.now x g.changes.after at in
    omega (arith, g.cursors, (table.lists l g.was g.changes.there).few, ap (λ (q : Entry). q.cursors) same)

pub moved : (a b c d : Table) (l from to : ℕ) → Leaves a b l from → Enters b c l to → Settles c d l → Moves a d l from to
moved a b c d l from to leaves enters settles = record {
  was = leaves.was;
  now = settles.now;
  changes = Changes-then a c d l (λ s. entered to (left from s)) settled (λ s. settled (entered to (left from s))) leaves.was enters.now settles.was settles.now
      (Changes-then a b c l (left from) (entered to) (λ s. entered to (left from s)) leaves.was leaves.now enters.was enters.now leaves.changes enters.changes refl)
      settles.changes refl;
  settled = settles.settled;
}

pub dropped : (a b c : Table) (l from : ℕ) → Leaves a b l from → Settles b c l → Drops a c l from
dropped a b c l from leaves settles = record {
  was = leaves.was;
  now = settles.now;
  changes = Changes-then a b c l (left from) settled (λ s. settled (left from s)) leaves.was leaves.now settles.was settles.now leaves.changes settles.changes refl;
  settled = settles.settled;
}

pub added : (a b c : Table) (l k : ℕ) (samples : List ℤ) (was now : Entry) → AppendsWith a b l k samples (λ s. s) was now → Settles b c l → AddsWith a c l k samples
added a b c l k samples was now appends settles = record {
  was = was;
  now = settles.now;
  appends = record {
    there = appends.there;
    table = settles.changes.table;
    block = settles.changes.block ∙ appends.block;
    state = settles.changes.state ∙ ap (λ s. with_change s l settled) appends.state
        ∙ ap (λ s. with_loose s k None) (change_twice (state_of a) l (list_state a l was) (λ s. filled_with a.block samples s) settled (λ s. settled (filled_with a.block samples s)) (list_seen a l was appends.there) refl);
    after = settles.changes.after;
    others = λ m ne. settles.changes.others m ne ∙ appends.others m ne;
  };
  settled = settles.settled;
}

-- ---- between two calls

-- a change of one list that leaves a cursor in its first block
pub IsStore-changed : (a b : Table) (l : ℕ) (f : ListState → ListState) (x y : Entry) → IsStore a → Changes a b l f x y → IsSettled b l y → IsStore b
IsStore-changed a b l f x y store c stands = record {
  table = c.table;
  settled = λ m z at.
      elim (cases_eq m l) [
        | inl same ↦ rw same (subst (IsSettled b l) (same_entry b l y z c.after (ap (entry_at b) (sym same) ∙ at)) stands)
        | inr ne ↦ others_settled a b m z (sym (c.others m ne) ∙ at) (list_other m z ne at) (store.settled m z (sym (c.others m ne) ∙ at))
      ];
}
  where
    list_other : (m : ℕ) (z : Entry) → m ≢ l → entry_at b m ≡ Some z → list_state b m z ≡ list_state a m z
    list_other m z ne at =
        Rattle.ny_list.proofs.IndexLemmas.same_some (
        sym (list_seen b m z at) ∙ ap (λ s. list_at s m) c.state
        ∙ Rattle.std.proofs.lemmas.List.get_or-set_other (state_of a).lists l m (option_map f (list_at (state_of a) l)) None ne
        ∙ list_seen a m z (sym (c.others m ne) ∙ at)
        )

    others_settled : (a b : Table) (m : ℕ) (z : Entry) → entry_at a m ≡ Some z → list_state b m z ≡ list_state a m z → IsSettled a m z → IsSettled b m z
    others_settled a b m z at same stands more =
        subst (λ n. 0 < n) (sym (Rattle.ny_list.proofs.CursorLemmas.mark_seen a m z z.span.gone (omega (arith, more))) ∙ ap (λ s. get_or s.marks z.span.gone 0) (sym same) ∙ Rattle.ny_list.proofs.CursorLemmas.mark_seen b m z z.span.gone (omega (arith, more))) (stands more)
