-- Names of the trace and of the plan, side by side.
use Rattle.std.proofs.Common.{◌≡◌, ℕ, Bool, true, false, cond, List, [], ◌∷◌, ◌++◌, reverse, Option, None, Some, unwrap_or, refl, sym, ap, subst}
use Rattle.std.specs.Map.{lookup}
use Rattle.std.proofs.lemmas.List.{reverse-append}
use Rattle.ny_num.specs.declared.rate.Rate.{Rate}
use Rattle.ny_scope.specs.Scopes.{last_of}
use Rattle.ny_resolve.specs.declared.term.NameId.{NameId}
use Rattle.ny_check.specs.declared.value.Scalar.{Scalar}
use Rattle.ny_check.specs.declared.value.Value.{Value}
use Rattle.ny_check.specs.declared.value.Value.TheVariants.{Number, Sound as SoundOf}
use Rattle.ny_check.specs.Code.{Code}
use Rattle.ny_check.specs.Values.{scalar_in, scalars_of}
use Rattle.ny_heap.specs.declared.sound.Sound.{Sound}
use Rattle.ny_heap.specs.Heap.{HeapState}
use Rattle.ny_hands.specs.declared.branch.Branch.{Branch}
use Rattle.ny_hands.specs.Frames as frames
use Rattle.ny_hands.specs.Hands.{IsNamed}
use Rattle.ny_trace.specs.Evaluates.{NameTurn}
use Rattle.ny_plan.specs.Rows.{RowSound, Row, given, silent}
use Rattle.ny_plan.specs.Need.{Filled}
use Rattle.ny_plan.specs.Plan as plans
use Rattle.ny_plan.specs.Plan.{sound_in}
use Rattle.ny_match.specs.Matched.{Seats, IsSound, IsValue, AreNames, Matched}
use Rattle.ny_match.proofs.SeatLemmas.{SameRows, sound_later}
use Rattle.ny_match.proofs.UnitLemmas.{Turns, shared_turn, silent_turn}

pub value_later : (h : HeapState Branch) (row later : ℕ → ℕ) (v : Value Sound) (w : Value RowSound) → IsNamed h v → SameRows h row later → IsValue row v w → IsValue later v w
value_later h row later (Number j) (Number k) named same is = is
value_later h row later (Number j) (SoundOf r) named same is = absurd is
value_later h row later (SoundOf s) (Number k) named same is = absurd is
value_later h row later (SoundOf s) (SoundOf r) named same is = sound_later h row later s r named same is

module _ (row : ℕ → ℕ) where
  -- ---- the same numbers

  same_scalar : (v : Value Sound) (w : Value RowSound) → IsValue row v w → scalar_in v ≡ scalar_in w
  same_scalar (Number j) (Number k) is = ap (λ n. let s : Scalar = scalar_in {S = Sound} (Number n) in s) is
  same_scalar (Number j) (SoundOf r) is = absurd is
  same_scalar (SoundOf s) (Number k) is = absurd is
  same_scalar (SoundOf s) (SoundOf r) is = refl

  pub same_scalars : (names : frames.Names) (given : plans.Names) → AreNames row names given → scalars_of names ≡ scalars_of given
  same_scalars [] [] are = refl
  same_scalars [] (c ∷ cs) are = absurd are
  same_scalars (b ∷ bs) [] are = absurd are
  same_scalars (b ∷ bs) (c ∷ cs) are = λ i. (are.0 i, same_scalar b.1 c.1 are.1 i) ∷ same_scalars bs cs are.2 i

  -- ---- more names

  pub names_append : (ns ms : frames.Names) (cs ds : plans.Names) → AreNames row ns cs → AreNames row ms ds → AreNames row (ns ++ ms) (cs ++ ds)
  names_append [] ms [] ds p q = q
  names_append [] ms (c ∷ cs) ds p q = absurd p
  names_append (n ∷ ns) ms [] ds p q = absurd p
  names_append (n ∷ ns) ms (c ∷ cs) ds p q = (p.0, p.1, names_append ns ms cs ds p.2 q)

  -- ---- what a name stands for

  -- both have it, or none
  abbrev pub FoundBoth : Option (Value Sound) → Option (Value RowSound) → Type 0
  FoundBoth None None = Unit {0}
  FoundBoth (Some v) (Some w) = IsValue row v w
  FoundBoth _ _ = ⊥

  names_reverse : (ns : frames.Names) (cs : plans.Names) → AreNames row ns cs → AreNames row (reverse ns) (reverse cs)
  names_reverse [] [] are = tt
  names_reverse [] (c ∷ cs) are = absurd are
  names_reverse (n ∷ ns) [] are = absurd are
  names_reverse (n ∷ ns) (c ∷ cs) are =
      subst (λ xs. AreNames row xs (reverse (c ∷ cs))) (sym (reverse-append (n ∷ []) ns))
      (subst (λ xs. AreNames row (reverse ns ++ n ∷ []) xs) (sym (reverse-append (c ∷ []) cs))
      (names_append (reverse ns) (n ∷ []) (reverse cs) (c ∷ []) (names_reverse ns cs are.2) (are.0, are.1, tt)))

  found_in : (is : NameId → Bool) (ns : frames.Names) (cs : plans.Names) → AreNames row ns cs → FoundBoth (lookup is ns) (lookup is cs)
  found_in is [] [] are = tt
  found_in is [] (c ∷ cs) are = absurd are
  found_in is (n ∷ ns) [] are = absurd are
  found_in is (n ∷ ns) (c ∷ cs) are = subst (λ x. FoundBoth (cond (is n.0) (Some n.1) (lookup is ns)) (cond (is x) (Some c.1) (lookup is cs))) are.0 (by_test (is n.0) (found_in is ns cs are.2))
    where
      by_test : (t : Bool) → FoundBoth (lookup is ns) (lookup is cs) → FoundBoth (cond t (Some n.1) (lookup is ns)) (cond t (Some c.1) (lookup is cs))
      by_test true rest = are.1
      by_test false rest = rest

  pub found_both : (is : NameId → Bool) (names : frames.Names) (given : plans.Names) → AreNames row names given → FoundBoth (last_of is names) (last_of is given)
  found_both is names given are = found_in is (reverse names) (reverse given) (names_reverse names given are)

module _ (code : Code) (all : List Row) (filled : Filled) where
  pub named_turn : (old new : HeapState Branch) (seats : Seats) (rows : List Row) (rate : Rate) (o : Option (Value Sound)) (p : Option (Value RowSound)) (s : Sound) → Matched code all filled old seats → FoundBoth seats.row o p → NameTurn rate o old new s
      → Turns code all filled old new seats (λ row. IsSound row s) rows (given (sound_in rate (unwrap_or p (SoundOf (silent rate)))) rows)
  named_turn old new seats rows rate None None s m found step = silent_turn code all filled old new seats rows rate s m step
  named_turn old new seats rows rate None (Some w) s m found step = absurd found
  named_turn old new seats rows rate (Some v) None s m found step = absurd found
  named_turn old new seats rows rate (Some (Number j)) (Some (Number k)) s m found step = silent_turn code all filled old new seats rows rate s m step
  named_turn old new seats rows rate (Some (Number j)) (Some (SoundOf r)) s m found step = absurd found
  named_turn old new seats rows rate (Some (SoundOf a)) (Some (Number k)) s m found step = absurd found
  named_turn old new seats rows rate (Some (SoundOf a)) (Some (SoundOf r)) s m found step = shared_turn code all filled old new seats rows a s r m found step
