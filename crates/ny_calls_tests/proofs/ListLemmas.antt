-- A list under test goes on.
use Rattle.std.proofs.Common.{◌≡◌, inl, inr, ℕ, nat_eq, ◌+◌, ◌-◌, ◌*◌, ◌/◌, ◌<◌, ◌≤◌, List, [], ◌∷◌, ◌++◌, length, take, get_or, set, Option, None, Some, refl, sym, ap, subst, ◌∙◌, arith, length-set, length-append, ℤ}
use Rattle.std.proofs.lemmas.List.{get_or-set_same, get_or_past, get_or_append_left}
use Rattle.std.proofs.lemmas.Bool.{cases_lt, cond-true, cond-false, eq-eqb, ne_eqb}
use Rattle.std.proofs.Math.Nat.{div-mul-le_self}
use Rattle.std.specs.Option.{option_map}
use Rattle.ny_list.specs.Store.{ListState, StoreState, CursorState, list_at, loose_at, stands_in, least}
use Rattle.ny_list.specs.Steps.{settled, entered, left, filled_with, begun, with_loose, with_move, with_block, Takes, Begins}
use Rattle.ny_list.specs.Laws.{StoreLaws}
use Rattle.ny_list.proofs.GiveLemmas.{length-blank_below}
use Rattle.ny_calls_tests.specs.Lists.{Plays}

none_some : {A : Type 0} {a : A} → None ≡ Some a → ⊥
none_some q = cc

seen_within : (s : StoreState) (l : ℕ) (x : ListState) → list_at s l ≡ Some x → l < length s.lists
seen_within s l x e =
    elim (cases_lt l (length s.lists)) [
      | inl inside ↦ inside
      | inr past ↦ absurd (none_some (sym (get_or_past s.lists l None past) ∙ e))
    ]

marked : (marks : List ℕ) (j : ℕ) → 0 < get_or marks j 0 → j < length marks
marked marks j some =
    elim (cases_lt j (length marks)) [
      | inl inside ↦ inside
      | inr past ↦ absurd (omega (arith, some, get_or_past marks j 0 past))
    ]

-- one block more
pub filled_on : (s new : StoreState) (l b : ℕ) (c : CursorState) (n : ℕ) (samples : List ℤ) → Plays s l c n → new ≡ with_block s l b samples → StoreLaws new → Plays new l c (n + 1)
filled_on s new l b c n samples p is laws =
    let x = settled (filled_with s.block samples p.list) in
    let more = get_or_append_left p.list.marks (0 ∷ []) 0 (stands_in 16 20 c.place) (marked p.list.marks (stands_in 16 20 c.place) p.mark) in
    record {
      laws = laws;
      block = ap (λ q. q.block) is ∙ p.block;
      list = x;
      there = ap (λ q. list_at q l) is ∙ get_or-set_same s.lists l (option_map (λ y. settled (filled_with s.block samples y)) (list_at s l)) None (seen_within s l p.list p.there) ∙ ap (option_map (λ y. settled (filled_with s.block samples y))) p.there;
      len = p.len;
      filled = length-blank_below (least (p.list.marks ++ 0 ∷ [])) (p.list.values ++ Some (take (p.list.len - length p.list.values * s.block) samples) ∷ []) ∙ length-append p.list.values (Some (take (p.list.len - length p.list.values * s.block) samples) ∷ []) ∙ omega (arith, p.filled);
      of = p.of;
      mark = subst (λ k. 0 < k) (sym more) p.mark;
    }

-- where a cursor of the list stands, of at most 20 samples
stands_few : (p : ℕ) → p ≤ 20 → stands_in 16 20 p ≤ 2
stands_few p h =
    elim (cases_lt p 20) [
      | inl less ↦ omega (arith, cond-false (nat_eq p 20) 2 (p / 16) (ne_eqb p 20 (λ e. omega (arith, e, less))), div-mul-le_self p 16)
      | inr end ↦ omega (arith, cond-true (nat_eq p 20) 2 (p / 16) (eq-eqb p 20 (omega (arith, h, end))))
    ]

pub moved_on : (s new : StoreState) (l : ℕ) (c d : CursorState) (n : ℕ) → Plays s l c 2 → c.place + n ≤ 20 → d ≡ record c { place = c.place + n } → new ≡ with_move s c (c.place + n) → StoreLaws new → Plays new l d 2
moved_on s new l c d n p within moved is laws =
    let f = λ (y : ListState). settled (entered (stands_in s.block y.len (c.place + n)) (left (stands_in s.block y.len c.place) y)) in
    let here : list_at s c.list ≡ Some p.list = ap (list_at s) p.of ∙ p.there in
    let marks = (p.laws.lists l p.list p.there).marks in
    let a = stands_in s.block p.list.len c.place in
    let b = stands_in s.block p.list.len (c.place + n) in
    let once = set p.list.marks a (get_or p.list.marks a 0 - 1) in
    let to : b ≡ stands_in 16 20 (c.place + n) = (λ i. stands_in (p.block i) (p.len i) (c.place + n)) in
    let inside : b < length once = omega (arith, to, stands_few (c.place + n) within, marks, p.filled, length-set p.list.marks a (get_or p.list.marks a 0 - 1)) in
    let stands = get_or-set_same once b (get_or once b 0 + 1) 0 inside in
    let place : d.place ≡ c.place + n = ap (λ q. q.place) moved in
    record {
      laws = laws;
      block = ap (λ q. q.block) is ∙ p.block;
      list = f p.list;
      there = ap (λ q. list_at q l) is ∙ ap (get_or (set s.lists c.list (option_map f (list_at s c.list))) l) refl ∙ ap (λ k. get_or (set s.lists k (option_map f (list_at s k))) l None) p.of
          ∙ get_or-set_same s.lists l (option_map f (list_at s l)) None (seen_within s l p.list p.there) ∙ ap (option_map f) p.there;
      len = p.len;
      filled = length-blank_below (least (set once b (get_or once b 0 + 1))) p.list.values ∙ p.filled;
      of = ap (λ q. q.list) moved ∙ p.of;
      mark =
          let at : stands_in 16 20 d.place ≡ b = ap (stands_in 16 20) place ∙ sym to in
          subst (λ k. 0 < k) (sym (ap (λ k. get_or (set once b (get_or once b 0 + 1)) k 0) at ∙ stands)) (omega arith);
    }

-- a new list
pub begun_at : (s new : StoreState) (l : ℕ) (c : CursorState) → s.block ≡ 16 → Begins s new l 20 7 c → StoreLaws new → Plays new l c 0
begun_at s new l c block begins laws = record {
  laws = laws;
  block = ap (λ q. q.block) begins.after ∙ block;
  list = begun 20 7;
  there = ap (λ q. list_at q l) begins.after ∙ get_or-set_same s.lists l (Some (begun 20 7)) None begins.within;
  len = refl;
  filled = refl;
  of = ap (λ q. q.list) begins.cursor;
  mark = subst (λ k. 0 < get_or (1 ∷ []) (stands_in 16 20 k) 0) (sym (ap (λ q. q.place) begins.cursor)) (omega arith);
}

-- a block that is in no list holds something else
pub loose_on : (s new : StoreState) (l b : ℕ) (c : CursorState) (n : ℕ) (o : Option (List ℤ)) → Plays s l c n → new ≡ with_loose s b o → StoreLaws new → Plays new l c n
loose_on s new l b c n o p is laws = record {
  laws = laws;
  block = ap (λ q. q.block) is ∙ p.block;
  list = p.list;
  there = ap (λ q. list_at q l) is ∙ p.there;
  len = p.len;
  filled = p.filled;
  of = p.of;
  mark = p.mark;
}

-- a block is taken, written and appended
pub fill_on : (s a e new : StoreState) (l b : ℕ) (c : CursorState) (n : ℕ) (samples : List ℤ) → Plays s l c n → Takes s a b → StoreLaws a → e ≡ with_loose a b (Some samples) → StoreLaws e
    → ((found : List ℤ) → loose_at e b ≡ Some found → new ≡ with_block e l b found) → StoreLaws new → Plays new l c (n + 1)
fill_on s a e new l b c n samples p taken laws_a written laws_e appended laws =
    let first = loose_on s a l b c n (Some taken.samples) p taken.after laws_a in
    let second = loose_on a e l b c n (Some samples) first written laws_e in
    let inside : b < length a.loose = omega (arith, taken.within, ap (λ q. length q.loose) taken.after, length-set s.loose b (Some taken.samples)) in
    filled_on e new l b c n samples second (appended samples (ap (λ q. loose_at q b) written ∙ get_or-set_same a.loose b (Some samples) None inside)) laws
