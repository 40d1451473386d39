-- Blocks and calls: binds and arguments are in hand while the body is evaluated, and are given up after it.
use Rattle.std.proofs.Common.{◌≡◌, ℕ, zero, suc, ◌<◌, List, [], ◌∷◌, ◌++◌, length, take, map, refl, sym, ap, subst, ◌∙◌}
use Rattle.std.specs.Prelude.{zip}
use Rattle.std.proofs.lemmas.List.{append_assoc, append-nil}
use Rattle.ny_num.specs.Sound as sounds
use Rattle.ny_warp.specs.declared.env.Env.{Env}
use Rattle.ny_resolve.specs.declared.term.NameId.{NameId}
use Rattle.ny_check.specs.declared.node.ExprId.{ExprId}
use Rattle.ny_check.specs.declared.value.Value.{Value}
use Rattle.ny_check.specs.declared.value.Value.TheVariants.{Number, Sound as SoundOf}
use Rattle.ny_check.specs.Code.{Code, AllBelow, BindsBelow}
use Rattle.ny_check.specs.Values.{scalars_of}
use Rattle.ny_check.specs.Meaning.{Bound, meaning, value_of, bound_after}
use Rattle.ny_heap.specs.declared.sound.Sound.{Sound}
use Rattle.ny_heap.specs.Heap.{HeapState}
use Rattle.ny_heap.specs.Means.{Whole}
use Rattle.ny_heap.specs.Reach.{HeapLaws}
use Rattle.ny_hands.specs.Calls.{ReleasesAll}
use Rattle.ny_hands.specs.Frames.{Names, value_in, bound_in, sounds_among, part_is}
use Rattle.ny_hands.specs.declared.branch.Branch.{Branch}
use Rattle.ny_trace.specs.Evaluates.{Trace, BindsTurn, BlockTurn, ValuesTurn, CallTurn, sounds_of_values}
use Rattle.ny_hands.specs.Hands.{AllBegin, Item, item, sounds_in, Are, Comes, AreNamed}
use Rattle.ny_trace.specs.Laws.{IsLawful}
use Rattle.ny_hands.proofs.ComingLemmas.{sounds_append, are_first, are_last, comes_none, comes_released}
use Rattle.ny_hands.proofs.NameLemmas.{scalars_bound, bound_append, bound_zip, bound_stable, named_kept, named_append, named_among}
use Rattle.ny_trace.proofs.ValueLemmas.{Agree, comes_then, value_items, meant, value_in_is, value_meant, value_comes}

pub agree_append : (w l : Whole) (ps qs xs ys : List Item) → Agree w l ps xs → Agree w l qs ys → Agree w l (ps ++ qs) (xs ++ ys)
agree_append w l [] qs [] ys p q = q
agree_append w l [] qs (x ∷ xs) ys p q = absurd p
agree_append w l (p ∷ ps) qs [] ys a q = absurd a
agree_append w l (p ∷ ps) qs (x ∷ xs) ys a q = (a.0, a.1, agree_append w l ps qs xs ys a.2 q)

value_agree : (w l : Whole) (v : Value Sound) (f g : Whole → sounds.Sound) → f l ≡ g w → Agree w l (value_items v f) (value_items v g)
value_agree w l (Number k) f g same = tt
value_agree w l (SoundOf s) f g same = (refl, same, tt)

value_sounds : (v : Value Sound) (f g : Whole → sounds.Sound) → sounds_in (value_items v f) ≡ sounds_in (value_items v g)
value_sounds (Number k) f g = refl
value_sounds (SoundOf s) f g = refl

-- what has no parameter is not evaluated
pub below_first : (k n : ℕ) (es : List ExprId) → AllBelow n es → AllBelow n (take k es)
below_first zero n es below = tt
below_first (suc k) n [] below = tt
below_first (suc k) n (e ∷ es) below = (below.0, below_first k n es below.1)

zip_first : {A B C : Type 0} (f : B → C) (xs : List A) (es : List B) → zip xs (map f (take (length xs) es)) ≡ zip xs (map f es)
zip_first f [] es = refl
zip_first f (x ∷ xs) [] = refl
zip_first {A} {B} {C} f (x ∷ xs) (e ∷ es) = ap (λ (rest : List (A × C)). (x, f e) ∷ rest) (zip_first f xs es)

module _ (code : Code) where
  abbrev bind_sound : Env → ExprId → (Whole → Bound) → Whole → sounds.Sound
  bind_sound env e bound w = meaning code e.0 env (bound w)

  -- the names once a bind was added
  abbrev with_bind : Env → ExprId → (Whole → Bound) → NameId × Value Sound → Whole → Bound
  with_bind env e bound a w = bound w ++ (a.0, meant a.1 (meaning code e.0 env (bound w))) ∷ []

  -- what is in hand of the binds, each told from the whole lists that were there first
  abbrev pub bind_items : Env → List (NameId × ExprId) → (Whole → Bound) → Names → List Item
  bind_items env [] bound added = []
  bind_items env (b ∷ bs) bound [] = []
  bind_items env (b ∷ bs) bound (a ∷ added) = value_items a.1 (bind_sound env b.1 bound) ++ bind_items env bs (with_bind env b.1 bound a) added

  bind_sounds : (env : Env) (bs : List (NameId × ExprId)) (f g : Whole → Bound) (added : Names) → sounds_in (bind_items env bs f added) ≡ sounds_in (bind_items env bs g added)
  bind_sounds env [] f g added = refl
  bind_sounds env (b ∷ bs) f g [] = refl
  bind_sounds env (b ∷ bs) f g (a ∷ added) =
      sounds_append (value_items a.1 (bind_sound env b.1 f)) (bind_items env bs (with_bind env b.1 f a) added)
      ∙ ((λ i. value_sounds a.1 (bind_sound env b.1 f) (bind_sound env b.1 g) i ++ bind_sounds env bs (with_bind env b.1 f a) (with_bind env b.1 g a) added i)
      ∙ sym (sounds_append (value_items a.1 (bind_sound env b.1 g)) (bind_items env bs (with_bind env b.1 g a) added)))

  binds_agree : (env : Env) (w l : Whole) (bs : List (NameId × ExprId)) (f g : Whole → Bound) (added : Names) → f l ≡ g w → Agree w l (bind_items env bs f added) (bind_items env bs g added)
  binds_agree env w l [] f g added same = tt
  binds_agree env w l (b ∷ bs) f g [] same = tt
  binds_agree env w l (b ∷ bs) f g (a ∷ added) same =
      agree_append w l (value_items a.1 (bind_sound env b.1 f)) (bind_items env bs (with_bind env b.1 f a) added) (value_items a.1 (bind_sound env b.1 g)) (bind_items env bs (with_bind env b.1 g a) added)
      (value_agree w l a.1 (bind_sound env b.1 f) (bind_sound env b.1 g) (ap (meaning code b.1.0 env) same))
      (binds_agree env w l bs (with_bind env b.1 f a) (with_bind env b.1 g a) added (ap (λ (q : Bound). q ++ (a.0, meant a.1 (meaning code b.1.0 env q)) ∷ []) same))

  module _ (D : Trace) where
    -- the sounds in hand are those among the names
    pub bind_sounds_are : (env : Env) (bs : List (NameId × ExprId)) (names : Names) (old new : HeapState Branch) (bound : Whole → Bound) (added : Names) → BindsTurn D code env bs names old new added → sounds_among added ≡ sounds_in (bind_items env bs bound added)
    bind_sounds_are env [] names old new bound [] step = refl
    bind_sounds_are env [] names old new bound (a ∷ added) step = absurd step
    bind_sounds_are env (b ∷ bs) names old new bound [] step = absurd step
    bind_sounds_are env (b ∷ bs) names old new bound ((x, Number k) ∷ added) step = bind_sounds_are env bs (names ++ (x, Number k) ∷ []) step.0 new (with_bind env b.1 bound (x, Number k)) added step.3
    bind_sounds_are env (b ∷ bs) names old new bound ((x, SoundOf s) ∷ added) step = ap (λ ss. s ∷ ss) (bind_sounds_are env bs (names ++ (x, SoundOf s) ∷ []) step.0 new (with_bind env b.1 bound (x, SoundOf s)) added step.3)

    -- the names are those of the meaning
    bound_grown : (env : Env) (w l : Whole) (bs : List (NameId × ExprId)) (names : Names) (old new : HeapState Branch) (bound : Whole → Bound) (added : Names) → BindsTurn D code env bs names old new added → bound_in l names ≡ bound w → Are w l (bind_items env bs bound added) → bound_in l (names ++ added) ≡ bound_after code (meaning code) env bs (bound w)
    bound_grown env w l [] names old new bound [] step same are = ap (bound_in l) (append-nil names) ∙ same
    bound_grown env w l [] names old new bound (a ∷ added) step same are = absurd step
    bound_grown env w l (b ∷ bs) names old new bound [] step same are = absurd step
    bound_grown env w l (b ∷ bs) names old new bound (a ∷ added) step same are =
        ap (bound_in l) (sym (append_assoc names (a ∷ []) added))
        ∙ (bound_grown env w l bs (names ++ a ∷ []) step.0 new (with_bind env b.1 bound a) added step.3 grown (are_last w l (value_items a.1 (bind_sound env b.1 bound)) (bind_items env bs (with_bind env b.1 bound a) added) are)
        ∙ (λ i. bound_after code (meaning code) env bs (bound w ++ (step.1 i, sym value i) ∷ [])))
      where
        grown : bound_in l (names ++ a ∷ []) ≡ with_bind env b.1 bound a w
        grown =
            bound_append l names (a ∷ [])
            ∙ (λ i. same i ++ (a.0, value_in_is w l a.1 (bind_sound env b.1 bound) (are_first w l (value_items a.1 (bind_sound env b.1 bound)) (bind_items env bs (with_bind env b.1 bound a) added) are) i) ∷ [])

        value : value_of code (meaning code) env (bound w) b.1 ≡ meant a.1 (meaning code b.1.0 env (bound w))
        value = value_meant code D env names b.1 old step.0 a.1 step.2 (bound w) (ap scalars_of (sym same) ∙ scalars_bound l names)

    module _ (law : IsLawful code D) where
      pub named_value : (h : HeapState Branch) (x : NameId) (v : Value Sound) (f : Whole → sounds.Sound) → AllBegin h (sounds_in (value_items v f)) → AreNamed h ((x, v) ∷ [])
      named_value h x (Number k) f b = (tt, tt)
      named_value h x (SoundOf s) f b = (b.0, tt)

      pub binds_come : (env : Env) (bs : List (NameId × ExprId)) (names : Names) (old new : HeapState Branch) (added : Names) → BindsBelow (length code.nodes) bs → HeapLaws old → AreNamed old names → BindsTurn D code env bs names old new added → Comes (part_is code) old new (bind_items env bs (λ w. bound_in w names) added)
      binds_come env [] names old new [] inside laws named step = subst (λ (h : HeapState Branch). Comes (part_is code) old h []) step (comes_none (part_is code) old laws)
      binds_come env [] names old new (a ∷ added) inside laws named step = absurd step
      binds_come env (b ∷ bs) names old new [] inside laws named step = absurd step
      binds_come env (b ∷ bs) names old new (a ∷ added) inside laws named step =
          let f : Whole → Bound = λ w. bound_in w names in
          let g : Whole → Bound = λ w. bound_in w (names ++ a ∷ []) in
          let first = value_comes code D law env names b.1 old step.0 a.1 inside.0 laws named step.2 in
          let seen : AreNamed step.0 (names ++ a ∷ []) = named_append step.0 names (a ∷ []) (named_kept old step.0 first.hand.kept names named) (named_value step.0 a.0 a.1 (bind_sound env b.1 f) first.hand.begin) in
          let rest = binds_come env bs (names ++ a ∷ []) step.0 new added inside.1 first.hand.laws seen step.3 in
          comes_then (part_is code) old step.0 new (value_items a.1 (bind_sound env b.1 f)) (bind_items env bs g added) (bind_items env bs (with_bind env b.1 f a) added) (bind_sounds env bs g (with_bind env b.1 f a) added)
          (λ w l means extends are. binds_agree env w l bs g (with_bind env b.1 f a) added
          (bound_append l names (a ∷ []) ∙ (λ i. bound_stable old names named w l extends i ++ (a.0, value_in_is w l a.1 (bind_sound env b.1 f) are i) ∷ [])))
          first rest

      -- binds leave their names with the sounds in hand
      pub binds_leave : (env : Env) (bs : List (NameId × ExprId)) (names : Names) (old mid : HeapState Branch) (added : Names) → BindsBelow (length code.nodes) bs → HeapLaws old → AreNamed old names → BindsTurn D code env bs names old mid added → HeapLaws mid × AreNamed mid (names ++ added)
      binds_leave env bs names old mid added below laws named step =
          let binds = binds_come env bs names old mid added below laws named step in
          let sounds_are = bind_sounds_are env bs names old mid (λ w. bound_in w names) added step in
          (binds.hand.laws, named_append mid names added (named_kept old mid binds.hand.kept names named) (named_among mid added (subst (λ ss. AllBegin mid ss) (sym sounds_are) binds.hand.begin)))

      -- what comes while binds are in hand, which are given up after it: it is told by what the names stand for
      pub under_binds : (env : Env) (bs : List (NameId × ExprId)) (names : Names) (old mid end new : HeapState Branch) (added : Names) (told qs : List Item) → BindsBelow (length code.nodes) bs → HeapLaws old → AreNamed old names → BindsTurn D code env bs names old mid added → sounds_in told ≡ sounds_in qs → ((w l : Whole) → bound_in l (names ++ added) ≡ bound_after code (meaning code) env bs (bound_in w names) → Agree w l told qs) → Comes (part_is code) mid end told → ReleasesAll end new (sounds_among added) → Comes (part_is code) old new qs
      under_binds env bs names old mid end new added told qs below laws named step same agree body given_up =
          let f : Whole → Bound = λ w. bound_in w names in
          let items : List Item = bind_items env bs f added in
          let binds = binds_come env bs names old mid added below laws named step in
          let all = comes_then (part_is code) old mid end items told qs same
          (λ w l means extends are. agree w l (bound_grown env w l bs names old mid f added step (bound_stable old names named w l extends) are)) binds body in
          comes_released (part_is code) old end new items qs (sounds_among added) laws (bind_sounds_are env bs names old mid f added step) all given_up

      pub block_comes : (env : Env) (bs : List (NameId × ExprId)) (e : ExprId) (names : Names) (old new : HeapState Branch) (s : Sound) → BindsBelow (length code.nodes) bs → e.0 < length code.nodes → HeapLaws old → AreNamed old names → BlockTurn D code bs e env names old new s → Comes (part_is code) old new (item s (λ w. meaning code e.0 env (bound_after code (meaning code) env bs (bound_in w names))) ∷ [])
      block_comes env bs e names old new s below inside laws named step =
          let left = binds_leave env bs names old step.mid step.added below laws named step.binds in
          under_binds env bs names old step.mid step.end new step.added (item s (λ l. meaning code e.0 env (bound_in l (names ++ step.added))) ∷ []) (item s (λ w. meaning code e.0 env (bound_after code (meaning code) env bs (bound_in w names))) ∷ []) below laws named step.binds refl
          (λ w l grown. (refl, ap (meaning code e.0 env) grown, tt))
          (law e.0 env (names ++ step.added) step.mid step.end s step.body inside left.0 left.1) step.given_up

      -- ---- calls

      abbrev pub arg_items : Env → Names → List ExprId → List (Value Sound) → List Item
      arg_items env names [] vs = []
      arg_items env names (e ∷ es) [] = []
      arg_items env names (e ∷ es) (v ∷ vs) = value_items v (λ w. meaning code e.0 env (bound_in w names)) ++ arg_items env names es vs

      args_agree : (env : Env) (names : Names) (w l : Whole) → bound_in l names ≡ bound_in w names → (es : List ExprId) (vs : List (Value Sound)) → Agree w l (arg_items env names es vs) (arg_items env names es vs)
      args_agree env names w l same [] vs = tt
      args_agree env names w l same (e ∷ es) [] = tt
      args_agree env names w l same (e ∷ es) (v ∷ vs) =
          let f : Whole → sounds.Sound = λ w. meaning code e.0 env (bound_in w names) in
          agree_append w l (value_items v f) (arg_items env names es vs) (value_items v f) (arg_items env names es vs) (value_agree w l v f f (ap (meaning code e.0 env) same)) (args_agree env names w l same es vs)

      pub args_come : (env : Env) (names : Names) (es : List ExprId) (old new : HeapState Branch) (vs : List (Value Sound)) → AllBelow (length code.nodes) es → HeapLaws old → AreNamed old names → ValuesTurn D code env names es old new vs → Comes (part_is code) old new (arg_items env names es vs)
      args_come env names [] old new [] inside laws named step = subst (λ (h : HeapState Branch). Comes (part_is code) old h []) step (comes_none (part_is code) old laws)
      args_come env names [] old new (v ∷ vs) inside laws named step = absurd step
      args_come env names (e ∷ es) old new [] inside laws named step = absurd step
      args_come env names (e ∷ es) old new (v ∷ vs) inside laws named step =
          let f : Whole → sounds.Sound = λ w. meaning code e.0 env (bound_in w names) in
          let first = value_comes code D law env names e old step.0 v inside.0 laws named step.1 in
          let rest = args_come env names es step.0 new vs inside.1 first.hand.laws (named_kept old step.0 first.hand.kept names named) step.2 in
          comes_then (part_is code) old step.0 new (value_items v f) (arg_items env names es vs) (arg_items env names es vs) refl (λ w l means extends are. args_agree env names w l (bound_stable old names named w l extends) es vs) first rest

      pub arg_sounds : (env : Env) (names : Names) (es : List ExprId) (old new : HeapState Branch) (vs : List (Value Sound)) → ValuesTurn D code env names es old new vs → sounds_of_values vs ≡ sounds_in (arg_items env names es vs)
      arg_sounds env names [] old new [] step = refl
      arg_sounds env names [] old new (v ∷ vs) step = absurd step
      arg_sounds env names (e ∷ es) old new [] step = absurd step
      arg_sounds env names (e ∷ es) old new (Number k ∷ vs) step = arg_sounds env names es step.0 new vs step.2
      arg_sounds env names (e ∷ es) old new (SoundOf s ∷ vs) step = ap (λ ss. s ∷ ss) (arg_sounds env names es step.0 new vs step.2)

      named_zip : (h : HeapState Branch) (xs : List NameId) (vs : List (Value Sound)) → AllBegin h (sounds_of_values vs) → AreNamed h (zip xs vs)
      named_zip h [] vs b = tt
      named_zip h (x ∷ xs) [] b = tt
      named_zip h (x ∷ xs) (Number k ∷ vs) b = (tt, named_zip h xs vs b)
      named_zip h (x ∷ xs) (SoundOf s ∷ vs) b = (b.0, named_zip h xs vs b.1)

      args_are : (env : Env) (names : Names) (w l : Whole) (es : List ExprId) (old new : HeapState Branch) (vs : List (Value Sound)) → ValuesTurn D code env names es old new vs → Are w l (arg_items env names es vs) → map (value_in l) vs ≡ map (value_of code (meaning code) env (bound_in w names)) es
      args_are env names w l [] old new [] step are = refl
      args_are env names w l [] old new (v ∷ vs) step are = absurd step
      args_are env names w l (e ∷ es) old new [] step are = absurd step
      args_are env names w l (e ∷ es) old new (v ∷ vs) step are =
          let f : Whole → sounds.Sound = λ w. meaning code e.0 env (bound_in w names) in
          let first : value_in l v ≡ value_of code (meaning code) env (bound_in w names) e = value_in_is w l v f (are_first w l (value_items v f) (arg_items env names es vs) are) ∙ sym (value_meant code D env names e old step.0 v step.1 (bound_in w names) (scalars_bound w names)) in
          let rest = args_are env names w l es step.0 new vs step.2 (are_last w l (value_items v f) (arg_items env names es vs) are) in
          λ i. first i ∷ rest i

      -- arguments leave the names of the parameters with the sounds in hand
      pub args_leave : (params : List NameId) (es : List ExprId) (env : Env) (names : Names) (old mid : HeapState Branch) (values : List (Value Sound)) → AllBelow (length code.nodes) es → HeapLaws old → AreNamed old names → ValuesTurn D code env names (take (length params) es) old mid values → HeapLaws mid × AreNamed mid (zip params values)
      args_leave params es env names old mid values below laws named step =
          let given : List ExprId = take (length params) es in
          let args = args_come env names given old mid values (below_first (length params) (length code.nodes) es below) laws named step in
          let sounds_are = arg_sounds env names given old mid values step in
          (args.hand.laws, named_zip mid params values (subst (λ ss. AllBegin mid ss) (sym sounds_are) args.hand.begin))

      -- what comes while arguments are in hand, which are given up after it: it is told by what the parameters stand for
      pub under_args : (params : List NameId) (es : List ExprId) (env : Env) (names : Names) (old mid end new : HeapState Branch) (values : List (Value Sound)) (told qs : List Item) → AllBelow (length code.nodes) es → HeapLaws old → AreNamed old names → ValuesTurn D code env names (take (length params) es) old mid values → sounds_in told ≡ sounds_in qs → ((w l : Whole) → bound_in l (zip params values) ≡ zip params (map (value_of code (meaning code) env (bound_in w names)) es) → Agree w l told qs) → Comes (part_is code) mid end told → ReleasesAll end new (sounds_of_values values) → Comes (part_is code) old new qs
      under_args params es env names old mid end new values told qs below laws named step same agree body given_up =
          let given : List ExprId = take (length params) es in
          let items : List Item = arg_items env names given values in
          let args = args_come env names given old mid values (below_first (length params) (length code.nodes) es below) laws named step in
          let all = comes_then (part_is code) old mid end items told qs same
          (λ w l means extends are. agree w l (bound_zip l params values ∙ (ap (zip params) (args_are env names w l given old mid values step are) ∙ zip_first (value_of code (meaning code) env (bound_in w names)) params es))) args body in
          comes_released (part_is code) old end new items qs (sounds_of_values values) laws (arg_sounds env names given old mid values step) all given_up

      pub call_comes : (params : List NameId) (body : ℕ) (es : List ExprId) (env : Env) (names : Names) (old new : HeapState Branch) (s : Sound) → AllBelow (length code.nodes) es → body < length code.nodes → HeapLaws old → AreNamed old names → CallTurn D code params body es env names old new s → Comes (part_is code) old new (item s (λ w. meaning code body env (zip params (map (value_of code (meaning code) env (bound_in w names)) es))) ∷ [])
      call_comes params body es env names old new s below inside laws named step =
          let left = args_leave params es env names old step.mid step.values below laws named step.arguments in
          under_args params es env names old step.mid step.end new step.values (item s (λ l. meaning code body env (bound_in l (zip params step.values))) ∷ []) (item s (λ w. meaning code body env (zip params (map (value_of code (meaning code) env (bound_in w names)) es))) ∷ []) below laws named step.arguments refl
          (λ w l same. (refl, ap (meaning code body env) same, tt))
          (law body env (zip params step.values) step.mid step.end s step.inside inside left.0 left.1) step.given_up
