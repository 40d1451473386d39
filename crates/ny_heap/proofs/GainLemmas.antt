-- What comes of making a unit.
use Rattle.std.proofs.Common.{◌≡◌, ℕ, zero, suc, ◌+◌, ◌<◌, ◌≤◌, ◌^◌, List, [], ◌∷◌, ◌++◌, length, map, get_or, vec_capacity, Vec, Global, Option, None, Some, IsSome, refl, sym, ap, subst, ◌∙◌, arith, append-nil}
use Rattle.ny_num.specs.declared.timing.Timing.{Timing}
use Rattle.ny_list.specs.Store.{CursorState, list_at}
use Rattle.ny_list.proofs.IndexLemmas.{same_some}
use Rattle.ny_heap.specs.declared.sound.Sound.{Sound}
use Rattle.ny_heap.specs.declared.table.Table.{Table}
use Rattle.ny_heap.specs.declared.task.Task.{Task}
use Rattle.ny_heap.specs.declared.work.Work.{Work}
use Rattle.ny_heap.specs.Work.{kind_of, flat}
use Rattle.ny_heap.specs.Table.{IsTable, Drops, len_of, stands_at}
use Rattle.ny_heap.specs.declared.task.Unused.{Unused}
use Rattle.ny_heap.specs.declared.task.Unused.TheVariants.{One, All as AllUnused}
use Rattle.ny_heap.specs.Tasks.{IsTask, BeginsWork, IsGivenBack, AreLeft, cursors_left, kind_of_task, waits_of_task}
use Rattle.ny_heap.specs.Making.{Grows, Places, first_cursor, Loses, Gains}
use Rattle.ny_heap.proofs.CountLemmas.{held_cons, IsTable-hand}
use Rattle.ny_heap.proofs.SpentLemmas.{cursors_in}
use Rattle.ny_heap.proofs.RoomLemmas.{Grows-same}
use Rattle.ny_heap.proofs.AddLemmas.{adds_of}

-- ---- how much a cursor in hand sees does not matter

seen_same : (t : Table) (c : CursorState) (n v j : ℕ) → stands_at t.block (len_of t.store v) v j (Some (record c { visible = n })) ≡ stands_at t.block (len_of t.store v) v j (Some c)
seen_same t c n v j = refl

IsTable-seen : (t : Table) (c : CursorState) (n : ℕ) (cs : List (Option CursorState)) → IsTable t (Some c ∷ cs) → IsTable t (Some (record c { visible = n }) ∷ cs)
IsTable-seen t c n cs table =
    IsTable-hand t (Some c ∷ cs) (Some (record c { visible = n }) ∷ cs) table held
    (λ v j l is. omega (arith, held_cons t (Some c) cs v j, held_cons t (Some (record c { visible = n })) cs v j, seen_same t c n v j))
  where
    held : (i : ℕ) (d : CursorState) → get_or (Some (record c { visible = n }) ∷ cs) i None ≡ Some d → IsSome (list_at t.store d.list)
    held zero d is = subst (λ (k : CursorState). IsSome (list_at t.store k.list)) (same_some is) (table.held 0 c refl)
    held (suc i) d is = table.held (suc i) d is

Drops-seen : (t new : Table) (c : CursorState) (n : ℕ) → Drops t new (Some (record c { visible = n }) ∷ []) [] → Drops t new (Some c ∷ []) []
Drops-seen t new c n d = record {
  table = λ cs whole. d.table cs (IsTable-seen t c n cs whole);
  read = d.read;
  fewer = d.fewer;
  block = d.block;
  pool = d.pool;
  slots = d.slots;
  kept = d.kept;
  lists = d.lists;
  others = λ w j l is. omega (arith, d.others w j l is, held_cons t (Some c) [] w j, held_cons t (Some (record c { visible = n })) [] w j, seen_same t c n w j);
  gone = λ w j k is none. omega (arith, d.gone w j k is none, held_cons t (Some c) [] w j, held_cons t (Some (record c { visible = n })) [] w j, seen_same t c n w j);
}

module _ (t : Table) (sounds : List Sound) (c : CursorState) (given : IsGivenBack sounds c) where
  only : cursors_in sounds ≡ Some given.reader ∷ []
  only = ap cursors_in given.only ∙ ap (λ (o : Option CursorState). o ∷ []) given.reads

  -- the cursor that was given back can be spent
  given_taken : IsTable t (cursors_in sounds) → IsTable t (Some c ∷ [])
  given_taken table = subst (λ (d : CursorState). IsTable t (Some d ∷ [])) (sym given.is) (IsTable-seen t given.reader given.sound.timing.len [] (subst (IsTable t) only table))

  -- and then its sound is
  given_spent : (new : Table) → Drops t new (Some c ∷ []) [] → Drops t new (cursors_in sounds) []
  given_spent new drops =
      subst (λ cs. Drops t new cs []) (sym only)
      (Drops-seen t new given.reader given.sound.timing.len (subst (λ (d : CursorState). Drops t new (Some d ∷ []) []) given.is drops))

-- where no part waits
none_kept : (sounds : List Sound) (waits : List (List Sound)) → waits ≡ [] → cursors_in (sounds ++ flat waits) ≡ cursors_in sounds
none_kept sounds waits none = ap (λ ws. cursors_in (sounds ++ flat ws)) none ∙ ap cursors_in (append-nil sounds)

-- so of all that is left
pub left_taken : (t : Table) (sounds : List Sound) (waits : List (List Sound)) (u : Unused) → AreLeft sounds waits u → IsTable t (cursors_in (sounds ++ flat waits)) → IsTable t (cursors_left u)
left_taken t sounds waits (One c) left table = given_taken t sounds c left.0 (subst (IsTable t) (none_kept sounds waits left.1) table)
left_taken t sounds waits (AllUnused rest kept) left table = subst (IsTable t) (λ i. cursors_in (sym left.0 i ++ flat (sym left.1 i))) table

pub left_spent : (t new : Table) (sounds : List Sound) (waits : List (List Sound)) (u : Unused) → AreLeft sounds waits u → Drops t new (cursors_left u) [] → Drops t new (cursors_in (sounds ++ flat waits)) []
left_spent t new sounds waits (One c) left drops = subst (λ cs. Drops t new cs []) (sym (none_kept sounds waits left.1)) (given_spent t sounds c left.0 new drops)
left_spent t new sounds waits (AllUnused rest kept) left drops = subst (λ cs. Drops t new cs []) (λ i. cursors_in (left.0 i ++ flat (left.1 i))) drops

-- ---- outcomes

-- what the parts of a task that wait were to keep, where it was taken out of it
pub taken_out : (t : Table) (sounds : List Sound) (waits all : List (List Sound)) → all ≡ waits → IsTable t (cursors_in (sounds ++ flat waits)) → IsTable t (cursors_in (sounds ++ flat all))
taken_out t sounds waits all is table = subst (λ ws. IsTable t (cursors_in (sounds ++ flat ws))) (sym is) table

-- the sounds are spent
pub lost : (old grown new : Table) (sounds : List Sound) (waits all : List (List Sound)) → Grows old grown → all ≡ waits → Drops grown new (cursors_in (sounds ++ flat all)) [] → Loses old new sounds waits
lost old grown new sounds waits all grows is drops = record { grown = grown; grows = grows; drops = subst (λ ws. Drops grown new (cursors_in (sounds ++ flat ws)) []) is drops }

-- and there are no more places
pub lost_here : (old new : Table) (sounds : List Sound) (waits all : List (List Sound)) → IsTable old (cursors_in (sounds ++ flat waits)) → all ≡ waits → Drops old new (cursors_in (sounds ++ flat all)) [] → Loses old new sounds waits
lost_here old new sounds waits all table is drops = lost old old new sounds waits all (Grows-same old old refl refl table.store refl) is drops

pub gained : (old grown new : Table) (task : Task) (timing : Timing) (sounds : List Sound) (inputs : Vec Timing Global) (work : Work) (c : CursorState) → Grows old grown → inputs.items ≡ map (λ (s : Sound). s.timing) sounds
    → length inputs.items + length (waits_of_task task) ≤ vec_capacity inputs
    → BeginsWork task sounds timing work → IsTask task timing.len → 0 < timing.len → timing.start + timing.len < 2 ^ 32
    → Places grown new c.list work timing inputs → c ≡ first_cursor c.list timing.len → Gains old new (kind_of_task task) timing sounds (waits_of_task task) c
gained old grown new task timing sounds inputs work c grows heard room begins is_task some early places at = record {
  grown = grown;
  grows = grows;
  number = c.list;
  unit = places.unit;
  does = ap kind_of places.does ∙ begins.kind;
  heard = places.heard;
  adds = adds_of grown new c.list work timing inputs task sounds places begins is_task heard room some early;
  cursor = at;
}
