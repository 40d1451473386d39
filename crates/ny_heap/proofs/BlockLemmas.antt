-- A block that is taken, written and appended.
use Rattle.std.proofs.Common.{◌≡◌, ℕ, zero, suc, List, [], ◌∷◌, get_or, set, Option, None, Some, IfSome, refl, sym, ap, subst, ◌∙◌, ℤ, ◌<◌, arith, length, length-set}
use Rattle.std.specs.Option.{option_map, ForSome}
use Rattle.std.proofs.lemmas.List.{get_or-set_same}
use Rattle.ny_list.specs.Store.{ListState, StoreState, list_at, loose_at}
use Rattle.ny_list.specs.Steps.{Takes, settled, filled_with, with_list, with_loose, with_block}
use Rattle.ny_pool.specs.declared.pool.BlockId.{BlockId}
use Rattle.ny_heap.specs.declared.table.Unit.{Unit as UnitData}
use Rattle.ny_heap.proofs.TableLemmas.{place_within}

-- what was empty is so again
emptied : {A : Type 0} (xs : List (Option A)) (b : ℕ) (p q : Option A) → get_or xs b None ≡ None → set (set (set xs b p) b q) b None ≡ xs
emptied [] b p q none = refl
emptied (o ∷ os) zero p q none = ap (λ r. r ∷ os) (sym none)
emptied (o ∷ os) (suc b) p q none = ap (λ rs. o ∷ rs) (emptied os b p q none)

pub taken_block : (o : Option BlockId) (b : BlockId) (old new : StoreState) → IfSome o (λ k. Takes old new k.0) → o ≡ Some b → Takes old new b.0
taken_block o b old new taken is = subst (λ p. IfSome p (λ k. Takes old new k.0)) is taken

-- a list with a block more, where the block was free, was taken and was written
pub appended : (s mid written new : StoreState) (u b : ℕ) (samples : List ℤ) (l : ListState) → list_at s u ≡ Some l → Takes s mid b → written ≡ with_loose mid b (Some samples)
    → ForSome (loose_at written b) (λ values. new ≡ with_block written u b values) → new ≡ with_list s u (Some (settled (filled_with s.block samples l)))
appended s mid written new u b samples l there takes write append =
    append samples loose
    ∙ ap (λ z. with_block z u b samples) all
    ∙ (λ i. record s {
      lists = set s.lists u (option_map (λ (x : ListState). settled (filled_with s.block samples x)) (there i));
      loose = emptied s.loose b (Some takes.samples) (Some samples) takes.was_free i;
    })
  where
    all : written ≡ with_loose (with_loose s b (Some takes.samples)) b (Some samples)
    all = write ∙ ap (λ z. with_loose z b (Some samples)) takes.after

    loose : loose_at written b ≡ Some samples
    loose = ap (λ z. loose_at z b) all ∙ get_or-set_same (set s.loose b (Some takes.samples)) b (Some samples) None (subst (λ n. b < n) (sym (length-set s.loose b (Some takes.samples))) takes.within)

-- what is put back as it was changes nothing
put_back : {A : Type 0} (xs : List (Option A)) (b : ℕ) (o : Option A) → b < length xs → get_or xs b None ≡ o → set xs b o ≡ xs
put_back [] b o inside is = refl
put_back (x ∷ xs) zero o inside is = ap (λ r. r ∷ xs) (sym is)
put_back (x ∷ xs) (suc b) o inside is = ap (λ rs. x ∷ rs) (put_back xs b o (omega (arith, inside)) is)

pub unchanged_unit : (units : List (Option UnitData)) (u : ℕ) (x : UnitData) (l : ℕ) → get_or units u None ≡ Some x → l ≡ x.list → set units u (Some (record { work = x.work; timing = x.timing; inputs = x.inputs; list = l; pending = x.pending })) ≡ units
unchanged_unit units u x l there same =
    ap (λ k. set units u (Some (record { work = x.work; timing = x.timing; inputs = x.inputs; list = k; pending = x.pending }))) same
    ∙ put_back units u (Some x) (place_within units u x there) there
