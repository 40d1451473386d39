-- What is read of a list.
use Rattle.std.proofs.Common.{◌≡◌, inl, inr, ℕ, ◌-◌, ◌*◌, ◌/◌, ◌%◌, ◌^◌, ◌<◌, ◌≤◌, nat_eq, List, [], ◌∷◌, length, take, drop, Option, None, Some, refl, sym, ap, ◌∙◌, arith, ℤ}
use Rattle.std.proofs.lemmas.List.{length-take}
use Rattle.std.proofs.lemmas.Bool.{cases_eq, cond-true, cond-false, eq-eqb, ne_eqb}
use Rattle.std.proofs.Math.ListN.{drop_of_length-le}
use Rattle.std.proofs.Math.Nat.{mod-eq-sub-div-mul, div-mul-le_self, div-le_self}
use Rattle.std.specs.Option.{option_map, option_map_or}
use Rattle.ny_pool.specs.Blocks.{in_block}
use Rattle.ny_list.specs.declared.table.Entry.{Entry}
use Rattle.ny_list.specs.declared.table.Table.{Table}
use Rattle.ny_list.specs.Store.{blocks_of, stands_in}
use Rattle.ny_list.specs.Chain.{nth, home_at, place_of}
use Rattle.ny_list.specs.Table.{value_of, run_of_list, IsTable}
use Rattle.ny_list.proofs.IndexLemmas.{tab_get, tab_past}
use Rattle.ny_list.proofs.StateLemmas.{blocks_few, value_kept}

nothing_taken : (n m : ℕ) → take {A = ℤ} n (drop m []) ≡ []
nothing_taken n m = ap (take n) (drop_of_length-le [] {i = m} (omega arith)) ∙ by_take n
  where
    by_take : (n : ℕ) → take {A = ℤ} n [] ≡ []
    by_take n = length_none (take n []) (omega (arith, length-take {A = ℤ} n []))
      where
        length_none : (xs : List ℤ) → length xs ≡ 0 → xs ≡ []
        length_none [] e = refl
        length_none (x ∷ xs) e = absurd (omega (arith, e))

take_none : (n : ℕ) (xs : List ℤ) → xs ≡ [] → take n xs ≡ []
take_none n xs e = ap (take n) (e ∙ sym (drop_of_length-le [] {i = 0} (omega arith))) ∙ nothing_taken n 0

-- a block that is not filled
pub run_unfilled : (t : Table) (l : ℕ) (x : Entry) (from visible : ℕ) → x.span.filled ≤ from / t.block → run_of_list t l x from visible ≡ []
run_unfilled t l x from visible past =
    ap (λ o. take (visible - from) (drop (from % t.block) (option_map_or (λ samples. samples) o []))) (tab_past (value_of t l x.span.len) x.span.filled (from / t.block) None past)
    ∙ nothing_taken (visible - from) (from % t.block)

-- past the whole list
pub run_past : (t : Table) (l : ℕ) (x : Entry) (from visible : ℕ) → from / t.block < x.span.filled → x.span.len ≤ from → run_of_list t l x from visible ≡ []
run_past t l x from visible filled past =
    ap (λ o. take (visible - from) (drop (from % t.block) (option_map_or (λ samples. samples) o []))) (tab_get (value_of t l x.span.len) x.span.filled (from / t.block) None filled)
    ∙ by_content (in_block t.pool (place_of t.links.items l (from / t.block)))
  where
    by_content : (o : Option (List ℤ)) → take (visible - from) (drop (from % t.block) (option_map_or (λ samples. samples) (option_map (take (x.span.len - from / t.block * t.block)) o) [])) ≡ []
    by_content None = nothing_taken (visible - from) (from % t.block)
    by_content (Some c) =
        take_none (visible - from) (drop (from % t.block) (take (x.span.len - from / t.block * t.block) c))
        (drop_of_length-le (take (x.span.len - from / t.block * t.block) c) {i = from % t.block}
        (omega (arith, length-take (x.span.len - from / t.block * t.block) c, mod-eq-sub-div-mul from t.block, div-mul-le_self from t.block, past)))

-- a block that is kept
pub run_kept : (t : Table) (l b : ℕ) (x : Entry) (from visible : ℕ) (samples : List ℤ) → IsTable t → from / t.block < x.span.filled → home_at t.links.items b ≡ nth l (from / t.block) → in_block t.pool b ≡ Some samples
    → take (visible - from) (drop (from % t.block) (take (x.span.len - from / t.block * t.block) samples)) ≡ run_of_list t l x from visible
run_kept t l b x from visible samples table filled home holds =
    ap (λ o. take (visible - from) (drop (from % t.block) (option_map_or (λ samples. samples) o [])))
    (sym (tab_get (value_of t l x.span.len) x.span.filled (from / t.block) None filled ∙ value_kept t table b l (from / t.block) x.span.len home ∙ ap (option_map (take (x.span.len - from / t.block * t.block))) holds))

-- ---- where a cursor stands

pub stands_few : (block len place : ℕ) → 0 < block → len < 2 ^ 32 → place < 2 ^ 32 → stands_in block len place < 2 ^ 32
stands_few block len place some short early =
    elim (cases_eq place len) [
      | inl e ↦ omega (arith, cond-true (nat_eq place len) (blocks_of block len) (place / block) (eq-eqb place len e), blocks_few block len some, short)
      | inr ne ↦ omega (arith, cond-false (nat_eq place len) (blocks_of block len) (place / block) (ne_eqb place len ne), div-le_self place block, early)
    ]
