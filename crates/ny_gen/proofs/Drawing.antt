-- The notes that were drawn so far.
use Rattle.std.proofs.Common.{◌≡◌, ℕ, suc, ◌+◌, ◌*◌, List, [], refl, ap, sym, ◌∙◌, arith}
use Rattle.ny_gen.specs.Piece.{next_state, state_after, drawn, key_of, milliseconds_of, note_call, note_text, is_left, is_right, left_notes, right_notes, joined_notes, with_call}
use Rattle.ny_gen.proofs.Joined.{ear-more}

pub record NotesSoFar (seed n now : ℕ) (left right : List ℕ) : Type 0 where
  pub drawn_twice : now ≡ state_after seed (2 * n)
  pub lefts : left ≡ joined_notes seed (left_notes n)
  pub rights : right ≡ joined_notes seed (right_notes n)

pub none_so_far : (seed : ℕ) (left right : List ℕ) → left ≡ [] → right ≡ [] → NotesSoFar seed 0 seed left right
unfolding state_after
none_so_far seed left right l r = record { drawn_twice = refl; lefts = l; rights = r }

state_after-next : (seed n m : ℕ) → m ≡ n + 1 → state_after seed m ≡ next_state (state_after seed n)
unfolding state_after
state_after-next seed n m is = ap (λ k. state_after seed k) (let e : m ≡ suc n = omega arith in e)

-- the next note is that of its place
note-at : (seed n now key milliseconds : ℕ) → now ≡ state_after seed (2 * n) → key ≡ key_of (drawn (next_state now))
    → milliseconds ≡ milliseconds_of (drawn (next_state (next_state now))) → note_call key milliseconds ≡ note_text seed n
unfolding note_text
note-at seed n now key milliseconds is e f =
    let first : state_after seed (2 * n + 1) ≡ next_state now = state_after-next seed (2 * n) (2 * n + 1) refl ∙ ap next_state (sym is) in
    let second : state_after seed (2 * n + 2) ≡ next_state (next_state now) =
    state_after-next seed (2 * n + 1) (2 * n + 2) (omega arith) ∙ ap next_state first in
    rw (e, f, first, second) refl

pub one_more : (seed n now next key milliseconds : ℕ) (left right left' right' : List ℕ) → NotesSoFar seed n now left right
    → next ≡ next_state (next_state now) → key ≡ key_of (drawn (next_state now)) → milliseconds ≡ milliseconds_of (drawn (next_state (next_state now)))
    → left' ≡ with_call (is_left n) left (note_call key milliseconds) → right' ≡ with_call (is_right n) right (note_call key milliseconds)
    → NotesSoFar seed (n + 1) next left' right'
one_more seed n now next key milliseconds left right left' right' so_far on e f l r =
    let same : note_call key milliseconds ≡ note_text seed n = note-at seed n now key milliseconds so_far.drawn_twice e f in
    let first : state_after seed (2 * n + 1) ≡ next_state now =
    state_after-next seed (2 * n) (2 * n + 1) refl ∙ ap next_state (sym so_far.drawn_twice) in
    let second : state_after seed (2 * (n + 1)) ≡ next_state (next_state now) =
    state_after-next seed (2 * n + 1) (2 * (n + 1)) (omega arith) ∙ ap next_state first in
    record {
      drawn_twice = on ∙ sym second;
      lefts = ear-more is_left seed n left left' so_far.lefts (l ∙ ap (λ call. with_call (is_left n) left call) same);
      rights = ear-more is_right seed n right right' so_far.rights (r ∙ ap (λ call. with_call (is_right n) right call) same);
    }
