-- An edge more keeps an order, where it does not lead back: all that leads to its beginning is raised above its end.
use Rattle.std.proofs.Common.{◌≡◌, ◌⊎◌, inl, inr, ℕ, zero, suc, ◌+◌, ◌<◌, ◌≤◌, Bool, true, false, cond, ◌||◌, nat_eq, List, [], ◌∷◌, refl, sym, ap, ◌∙◌, arith}
use Rattle.std.proofs.lemmas.Bool.{cases_Bool, eq-eqb, eqb-true, or_cases}
use Rattle.std.specs.List.{list_any}

-- v is one of these
abbrev pub IsAmong : ℕ → List ℕ → Type 0
IsAmong v [] = ⊥
IsAmong v (x ∷ xs) = (v ≡ x) ⊎ IsAmong v xs

module _ (uses : ℕ → List ℕ) where
  abbrev pub WalksIn : ℕ → ℕ → ℕ → Type 0
  WalksIn zero w u = w ≡ u
  WalksIn (suc n) w u = (v : ℕ) × IsAmong v (uses w) × WalksIn n v u

  abbrev pub WalksTo : ℕ → ℕ → Type 0
  WalksTo w u = (n : ℕ) × WalksIn n w u

  -- whether w leads to u in no more than so many steps
  leads : ℕ → ℕ → ℕ → Bool
  leads zero w u = nat_eq w u
  leads (suc n) w u = nat_eq w u || list_any (λ v. leads n v u) (uses w)

any_of : (test : ℕ → Bool) (vs : List ℕ) → list_any test vs ≡ true → (v : ℕ) × IsAmong v vs × (test v ≡ true)
any_of test [] e = cc
any_of test (v ∷ vs) e = elim (or_cases (test v) (list_any test vs) e) [
  | inl here ↦ (v, inl refl, here)
  | inr there ↦ let later = any_of test vs there in (later.0, inr later.1, later.2)
]

or_second : (a b : Bool) → b ≡ true → (a || b) ≡ true
or_second true b p = refl
or_second false b p = p

or_first : (a b : Bool) → a ≡ true → (a || b) ≡ true
or_first true b p = refl
or_first false b p = cc

of_any : (test : ℕ → Bool) (vs : List ℕ) (v : ℕ) → IsAmong v vs → test v ≡ true → list_any test vs ≡ true
of_any test [] v among e = absurd among
of_any test (x ∷ xs) v (inl here) e = or_first (test x) (list_any test xs) (ap test (sym here) ∙ e)
of_any test (x ∷ xs) v (inr there) e = or_second (test x) (list_any test xs) (of_any test xs v there e)

not_true : (b : Bool) → (b ≡ true → ⊥) → b ≡ false
not_true true n = absurd (n refl)
not_true false n = refl

module _ (uses : ℕ → List ℕ) (rank : ℕ → ℕ) (falls : (w v : ℕ) → IsAmong v (uses w) → rank v < rank w) where
  leads_means : (n w u : ℕ) → leads uses n w u ≡ true → WalksTo uses w u
  unfolding leads
  leads_means zero w u e = (0, eqb-true w u e)
  leads_means (suc n) w u e = elim (or_cases (nat_eq w u) (list_any (λ v. leads uses n v u) (uses w)) e) [
    | inl same ↦ (0, eqb-true w u same)
    | inr there ↦
        let found = any_of (λ v. leads uses n v u) (uses w) there in
        let walk = leads_means n found.0 u found.2 in
        (suc walk.0, (found.0, found.1, walk.1))
  ]

  walk_leads : (m n w u : ℕ) → m ≤ n → WalksIn uses m w u → leads uses n w u ≡ true
  unfolding leads
  walk_leads zero zero w u le e = eq-eqb w u e
  walk_leads zero (suc n) w u le e = or_first (nat_eq w u) _ (eq-eqb w u e)
  walk_leads (suc m) zero w u le e = absurd (omega arith)
  walk_leads (suc m) (suc n) w u le e = or_second (nat_eq w u) _ (of_any (λ v. leads uses n v u) (uses w) e.0 e.1 (walk_leads m n e.0 u (omega arith) e.2))

  -- a walk goes down the order
  walk_falls : (n w u : ℕ) → WalksIn uses n w u → n + rank u ≤ rank w
  walk_falls zero w u e = omega (arith, ap rank e)
  walk_falls (suc n) w u e = omega (arith, walk_falls n e.0 u e.2, falls w e.0 e.1)

  leads_at : ℕ → ℕ → Bool
  leads_at w u = leads uses (rank w) w u

  at_leads : (w u : ℕ) → WalksTo uses w u → leads_at w u ≡ true
  unfolding leads_at
  at_leads w u walk = walk_leads walk.0 (rank w) w u (omega (arith, walk_falls walk.0 w u walk.1)) walk.1

  -- the order with all that leads to u raised above p
  pub raised : ℕ → ℕ → ℕ → ℕ
  raised u p w = cond (leads_at w u) (rank w + (rank p + 1)) (rank w)

  pub raised_most : (u p w : ℕ) → raised u p w ≤ rank w + (rank p + 1)
  unfolding raised
  raised_most u p w = elim (leads_at w u) as (λ b. cond b (rank w + (rank p + 1)) (rank w) ≤ rank w + (rank p + 1)) [ true ↦ omega arith | false ↦ omega arith ]

  -- what was lower is lower still
  pub raised_falls : (u p w v : ℕ) → IsAmong v (uses w) → raised u p v < raised u p w
  unfolding raised leads_at
  raised_falls u p w v among = elim (cases_Bool (leads_at v u)) [
    | inl on ↦
        let walk = leads_means (rank v) v u on in
        let here : leads_at w u ≡ true = at_leads w u (suc walk.0, (v, among, walk.1)) in
        rw (here, on) (omega (arith, falls w v among))
    | inr off ↦ rw off (at_most (leads_at w u))
  ]
    where
      at_most : (b : Bool) → rank v < cond b (rank w + (rank p + 1)) (rank w)
      at_most true = omega (arith, falls w v among)
      at_most false = falls w v among

  -- and so is p than u, where it does not lead to u
  pub raised_apart : (u p : ℕ) → (WalksTo uses p u → ⊥) → raised u p p < raised u p u
  unfolding raised leads_at
  raised_apart u p apart =
      let here : leads_at u u ≡ true = at_leads u u (0, refl) in
      let off : leads_at p u ≡ false = not_true (leads_at p u) (λ e. apart (leads_means (rank p) p u e)) in
      rw (here, off) (omega arith)
