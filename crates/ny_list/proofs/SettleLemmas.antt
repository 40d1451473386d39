-- The blocks before every cursor are given back, one after another.
use Rattle.std.proofs.Common.{◌≡◌, inl, inr, ℕ, ◌+◌, ◌<◌, ◌≤◌, Bool, true, false, nat_eq, nat_lt, List, length, get_or, set, Option, None, Some, refl, sym, ap, subst, ◌∙◌, arith, ℤ}
use Rattle.std.proofs.lemmas.List.{get_or-set_same, get_or_past, ext_get_or, set-get_or, set-set}
use Rattle.std.proofs.lemmas.List.FromFn.{length-map-range_with_len}
use Rattle.std.proofs.lemmas.List.Sums.{passes_at_first, fails_before_first}
use Rattle.std.proofs.lemmas.Bool.{cases_lt, true≢false, lt-ltb}
use Rattle.std.proofs.lemmas.Bool.Decides.{nat_tests}
use Rattle.std.specs.Option.{option_map}
use Rattle.ny_list.specs.declared.table.Entry.{Entry}
use Rattle.ny_list.specs.declared.table.Table.{Table}
use Rattle.ny_list.specs.Store.{ListState, StoreState, list_at, least}
use Rattle.ny_list.specs.Steps.{blank_below, settled, with_change}
use Rattle.ny_list.specs.Table.{entry_at, mark_of, list_state, state_of, kept_in, blanked, IsTable, IsIdle, IsSettled, Changes, GivesTo, Settles}
use Rattle.ny_list.proofs.IndexLemmas.{same_some, none_some}
use Rattle.ny_list.proofs.StateLemmas.{span_is, list_seen, mark_gone, value_gone}
use Rattle.ny_list.proofs.CursorLemmas.{mark_seen, marks_len, mark_read}
use Rattle.ny_list.proofs.GiveLemmas.{length-blank_below, get_or-blank, get_or-unblank, blank_tab}

-- ---- changes of one list, one after another

pub seen_within : (s : StoreState) (l : ℕ) (x : ListState) → list_at s l ≡ Some x → l < length s.lists
seen_within s l x e =
    elim (cases_lt l (length s.lists)) [
      | inl inside ↦ inside
      | inr past ↦ absurd (none_some (sym (get_or_past s.lists l None past) ∙ e))
    ]

pub change_twice : (s : StoreState) (l : ℕ) (x : ListState) (f g h : ListState → ListState) → list_at s l ≡ Some x → h x ≡ g (f x) → with_change (with_change s l f) l g ≡ with_change s l h
change_twice s l x f g h at does = λ i. record { block = s.block; lists = lists i; loose = s.loose }
  where
    inside : l < length s.lists
    inside = seen_within s l x at

    lists : set (set s.lists l (option_map f (list_at s l))) l (option_map g (get_or (set s.lists l (option_map f (list_at s l))) l None)) ≡ set s.lists l (option_map h (list_at s l))
    lists =
        set-set s.lists l (option_map f (list_at s l)) (option_map g (get_or (set s.lists l (option_map f (list_at s l))) l None))
        ∙ ap (set s.lists l) (ap (option_map g) (get_or-set_same s.lists l (option_map f (list_at s l)) None inside ∙ ap (option_map f) at) ∙ ap Some (sym does) ∙ sym (ap (option_map h) at))

-- a change that does the same to the list
pub change_same : (s : StoreState) (l : ℕ) (x : ListState) (f g : ListState → ListState) → list_at s l ≡ Some x → f x ≡ g x → with_change s l f ≡ with_change s l g
change_same s l x f g at does = λ i. record { block = s.block; lists = set s.lists l (lists i); loose = s.loose }
  where
    lists : option_map f (list_at s l) ≡ option_map g (list_at s l)
    lists = ap (option_map f) at ∙ ap Some does ∙ sym (ap (option_map g) at)

-- a change that does nothing to the list
pub change_none : (s : StoreState) (l : ℕ) (x : ListState) (f : ListState → ListState) → list_at s l ≡ Some x → f x ≡ x → s ≡ with_change s l f
change_none s l x f at does = λ i. record { block = s.block; lists = sym lists i; loose = s.loose }
  where
    lists : set s.lists l (option_map f (list_at s l)) ≡ s.lists
    lists = ap (set s.lists l) (ap (option_map f) at ∙ ap Some does ∙ sym at) ∙ set-get_or s.lists l None

-- what the list is after a change
pub changed_list : (old new : Table) (l : ℕ) (f : ListState → ListState) (x y : Entry) → Changes old new l f x y → list_state new l y ≡ f (list_state old l x)
changed_list old new l f x y c =
    same_some (
    sym (list_seen new l y c.after) ∙ ap (λ s. list_at s l) c.state
    ∙ get_or-set_same (state_of old).lists l (option_map f (list_at (state_of old) l)) None (seen_within (state_of old) l (list_state old l x) (list_seen old l x c.there))
    ∙ ap (option_map f) (list_seen old l x c.there)
    )

pub Changes-more : (a b c : Table) (l : ℕ) (f g h : ListState → ListState) (x y z : Entry) → Changes a b l f x y → Changes b c l g y z → h (list_state a l x) ≡ g (f (list_state a l x)) → Changes a c l h x z
Changes-more a b c l f g h x y z first later does = record {
  table = later.table;
  block = later.block ∙ first.block;
  state = later.state ∙ ap (λ s. with_change s l g) first.state ∙ change_twice (state_of a) l (list_state a l x) f g h (list_seen a l x first.there) does;
  there = first.there;
  after = later.after;
  len = later.len ∙ first.len;
  others = λ m ne. later.others m ne ∙ first.others m ne;
}

-- the same list, known twice
pub same_entry : (t : Table) (l : ℕ) (x y : Entry) → entry_at t l ≡ Some x → entry_at t l ≡ Some y → x ≡ y
same_entry t l x y a b = same_some (sym a ∙ b)

pub Changes-then : (a b c : Table) (l : ℕ) (f g h : ListState → ListState) (x y v z : Entry) → Changes a b l f x y → Changes b c l g v z → h (list_state a l x) ≡ g (f (list_state a l x)) → Changes a c l h x z
Changes-then a b c l f g h x y v z first later does =
    Changes-more a b c l f g h x y z first (subst (λ q. Changes b c l g q z) (same_entry b l v y later.there first.after) later) does

pub Changes-as : (a b : Table) (l : ℕ) (f g : ListState → ListState) (x y : Entry) → Changes a b l f x y → f (list_state a l x) ≡ g (list_state a l x) → Changes a b l g x y
Changes-as a b l f g x y c does = record {
  table = c.table;
  block = c.block;
  state = c.state ∙ change_same (state_of a) l (list_state a l x) f g (list_seen a l x c.there) does;
  there = c.there;
  after = c.after;
  len = c.len;
  others = c.others;
}

-- ---- blanks

pub blank_same : (a b : ℕ) (os : List (Option (List ℤ))) → ((k : ℕ) → k < length os → k < a → k < b) → ((k : ℕ) → k < length os → k < b → k < a) → blank_below a os ≡ blank_below b os
blank_same a b os to from =
    ext_get_or None _ _ (length-blank_below a os ∙ sym (length-blank_below b os)) (λ k h.
    let inside : k < length os = omega (arith, h, length-blank_below a os) in
    elim (cases_lt k a) [
      | inl before ↦ get_or-blank a os k before ∙ sym (get_or-blank b os k (to k inside before))
      | inr past ↦
          elim (cases_lt k b) [
            | inl less ↦ let no = from k inside less in absurd (omega (arith, no, past))
            | inr more ↦ get_or-unblank a os k past ∙ sym (get_or-unblank b os k more)
          ]
    ])

pub blank_more : (n : ℕ) (os : List (Option (List ℤ))) → blank_below (n + 1) (blank_below n os) ≡ blank_below (n + 1) os
blank_more n os =
    ext_get_or None _ _ (length-blank_below (n + 1) (blank_below n os) ∙ length-blank_below n os ∙ sym (length-blank_below (n + 1) os)) (λ k h.
    elim (cases_lt k (n + 1)) [
      | inl before ↦ get_or-blank (n + 1) (blank_below n os) k before ∙ sym (get_or-blank (n + 1) os k before)
      | inr past ↦ get_or-unblank (n + 1) (blank_below n os) k past ∙ get_or-unblank n os k (omega (arith, past)) ∙ sym (get_or-unblank (n + 1) os k past)
    ])

-- ---- the first block in which a cursor stands

pub least_at : (marks : List ℕ) (j : ℕ) → 0 < get_or marks j 0 → least marks ≤ j
least_at marks j some =
    elim (cases_lt j (least marks)) [
      | inl before ↦ absurd (true≢false (sym (lt-ltb 0 (get_or marks j 0) some) ∙ fails_before_first (λ m. nat_lt 0 m) marks j 0 before))
      | inr after ↦ after
    ]

pub least_after : (marks : List ℕ) (k : ℕ) → k < length marks → ((j : ℕ) → j ≤ k → get_or marks j 0 ≡ 0) → k < least marks
least_after marks k inside none =
    elim (cases_lt k (least marks)) [
      | inl before ↦ before
      | inr after ↦
          let passes = passes_at_first (λ m. nat_lt 0 m) marks 0 (omega (arith, inside, after)) in
          let nothing = none (least marks) after in
          absurd (true≢false (sym passes ∙ ap (nat_lt 0) nothing))
    ]

-- the first blocks without a cursor are those before the first that is kept
pub settled_is : (t : Table) (l : ℕ) (y : Entry) (s : ListState) → IsTable t → entry_at t l ≡ Some y → IsSettled t l y → (list_state t l y).marks ≡ s.marks → length s.values ≡ y.span.filled → settled s ≡ blanked y.span.gone s
settled_is t l y s table at stands marks len =
    ap (λ os. record s { values = os }) (blank_same (least s.marks) y.span.gone s.values
    (λ k inside before.
    elim (cases_lt k y.span.gone) [
      | inl less ↦ less
      | inr more ↦
          let filled : y.span.gone < y.span.filled = omega (arith, more, inside, len) in
          let first = least_at s.marks y.span.gone (subst (λ n. 0 < n) (sym (seen y.span.gone (omega (arith, filled)))) (stands filled)) in
          absurd (omega (arith, first, before, more))
    ])
    (λ k inside before.
    least_after s.marks k (omega (arith, inside, len, ap length marks, marks_len t l y)) (λ j h. seen j (omega (arith, h, inside, len)) ∙ mark_gone t table l j y at (omega (arith, h, before)))))
  where
    seen : (j : ℕ) → j ≤ y.span.filled → get_or s.marks j 0 ≡ mark_of t l y j
    seen j h = ap (λ ms. get_or ms j 0) (sym marks) ∙ mark_seen t l y j h

-- ---- the loop

pub given_none : (t : Table) (l : ℕ) (x : Entry) → IsTable t → entry_at t l ≡ Some x → GivesTo t t l x.span.gone
given_none t l x table at = record {
  was = x;
  now = x;
  changes = record {
    table = table;
    block = refl;
    state = change_none (state_of t) l (list_state t l x) (blanked x.span.gone) (list_seen t l x at) (ap (λ os. record (list_state t l x) { values = os }) blank);
    there = at;
    after = at;
    len = refl;
    others = λ m ne. refl;
  };
  gone = refl;
  filled = refl;
}
  where
    blank : blank_below x.span.gone (list_state t l x).values ≡ (list_state t l x).values
    blank = blank_tab (Rattle.ny_list.specs.Table.value_of t l x.span.len) (Rattle.ny_list.specs.Table.value_of t l x.span.len) x.span.filled x.span.gone (λ k h before. value_gone t table l k x.span.len x at before) (λ k h past. refl)

pub given_more : (a b c : Table) (l n : ℕ) → GivesTo a b l n → GivesTo b c l (n + 1) → GivesTo a c l (n + 1)
given_more a b c l n first later =
    let same = same_entry b l later.was first.now later.changes.there first.changes.after in
    record {
      was = first.was;
      now = later.now;
      changes = Changes-then a b c l (blanked n) (blanked (n + 1)) (blanked (n + 1)) first.was first.now later.was later.now first.changes later.changes
          (ap (λ os. record (list_state a l first.was) { values = os }) (sym (blank_more n (list_state a l first.was).values)));
      gone = later.gone;
      filled = later.filled ∙ ap (λ (q : Entry). q.span.filled) same ∙ first.filled;
    }

pub given_settles : (a b : Table) (l n : ℕ) → (g : GivesTo a b l n) → IsSettled b l g.now → Settles a b l
given_settles a b l n g stands =
    let is = changed_list a b l (blanked n) g.was g.now g.changes in
    record {
      was = g.was;
      now = g.now;
      changes = Changes-as a b l (blanked n) settled g.was g.now g.changes
          (ap (λ k. blanked k (list_state a l g.was)) (sym g.gone) ∙ sym (settled_is b l g.now (list_state a l g.was) g.changes.table g.changes.after stands (ap (λ s. s.marks) is)
          (length-map-range_with_len (Rattle.ny_list.specs.Table.value_of a l g.was.span.len) 0 g.was.span.filled ∙ sym g.filled)));
      settled = stands;
    }

pub less_kept : (a b : Table) (l : ℕ) (x : Entry) → entry_at a l ≡ Some x → x.span.gone < x.span.filled → GivesTo a b l (x.span.gone + 1) → kept_in (entry_at b l) < kept_in (entry_at a l)
less_kept a b l x at more g =
    let same = same_entry a l g.was x g.changes.there at in
    omega (arith, more, ap kept_in g.changes.after, ap kept_in at, g.gone, g.filled, ap (λ (q : Entry). q.span.filled) same)

-- the test of the first block that is kept
pub idle_test : (t : Table) (l v : ℕ) (x z : Entry) → IsTable t → entry_at t l ≡ Some x → x.span.gone < x.span.filled → v ≡ get_or t.counts.items x.span.first v → entry_at t l ≡ Some z → IsIdle t l z (nat_eq v 0)
idle_test t l v x z table at kept read there = subst (λ q. IsIdle t l q (nat_eq v 0)) (same_entry t l x z at there) (by_test (nat_eq v 0) refl)
  where
    mark : v ≡ mark_of t l x x.span.gone
    mark = mark_read t l x.span.gone x.span.first v x table at (table.chain.first l x.span (span_is t l x at) kept) read

    by_test : (b : Bool) → nat_eq v 0 ≡ b → IsIdle t l x b
    by_test true e = (kept, sym mark ∙ grind (arith, nat_tests))
    by_test false e = λ _. let some : 0 < v = grind (arith, nat_tests) in omega (arith, mark, some)
