-- A token inside an expression keeps what the state stands for.
use Rattle.std.proofs.Common.{◌≡◌, ℕ, ◌-◌, ◌≤◌, List, [], ◌∷◌, ◌++◌, refl, ap, append_assoc, arith}
use Rattle.ny_syntax.specs.declared.token.Token.{Token}
use Rattle.ny_syntax.specs.declared.token.TokenKind.{TokenKind}
use Rattle.ny_syntax.specs.declared.token.TokenKind.TheVariants as kinds
use Rattle.ny_syntax.specs.declared.token.Mark.TheVariants as marks
use Rattle.ny_syntax.specs.declared.token.Word.TheVariants as words
use Rattle.ny_syntax.specs.declared.tree.Bind.{Bind}
use Rattle.ny_syntax.specs.declared.tree.Form.TheVariants as forms
use Rattle.ny_syntax.specs.declared.tree.Decl.{Decl}
use Rattle.ny_syntax.specs.Levels.{operator_of}
use Rattle.ny_syntax.specs.Grammar
use Rattle.ny_syntax.specs.Grammar.{Parse, Arguments, Bindings, tokens, argument_tokens, binding_tokens, height, highest_argument, highest_binding, height_limit, level, IsBlock, IsParse, AreArguments, AreBindings, tree_of, trees_of, binds_of, bind_of, name_of, expr}
use Rattle.ny_parse.specs.declared.frame.Label.{Label}
use Rattle.ny_parse.specs.declared.frame.Measured.{Measured}
use Rattle.ny_parse.specs.declared.frame.Frame.{Frame}
use Rattle.ny_parse.specs.declared.frame.Frame.TheVariants as frames
use Rattle.ny_parse.specs.declared.state.State.TheVariants as states
use Rattle.ny_parse.specs.Reading.{goes, alone, opening_next, operand_next, call_open_next, if_next, begin_next, binds_next, bind_name_next, divided_next}
use Rattle.ny_parse.proofs.Lists.{after}
use Rattle.ny_parse.proofs.Partial.{IsBefore, IsBound, IsOpened, Stands, Keeps}
use Rattle.ny_parse.proofs.Small.{height-positive, least-bound, holds-some, deeper-keeps}

pub opening-keeps : (text : List ℕ) (kind : TokenKind) (t : Token) (k : List Frame) (ds : List Decl) (used : List Token) → t.kind ≡ kind → Stands text states.Before k ds used
    → Keeps text (used ++ t ∷ []) (opening_next text kind t k ds)
unfolding opening_next
opening-keeps text kinds.Name t k ds used e (holds, takes, room) = (used, t, holds, takes, room, (e, refl), refl)
opening-keeps text (kinds.Sign marks.Open) t k ds used e (holds, takes, room) =
    deeper-keeps text (used ++ t ∷ []) k (goes states.Before (frames.Group ∷ k) ds) (λ fits. ((used, t, holds, takes, e, refl), tt, omega arith))
opening-keeps text (kinds.Sign marks.Minus) t k ds used e (holds, takes, room) =
    deeper-keeps text (used ++ t ∷ []) k (goes states.Before (frames.Prefix t ∷ k) ds) (λ fits. ((used, holds, takes, rw e refl, refl), tt, omega arith))
opening-keeps text (kinds.Sign marks.Not) t k ds used e (holds, takes, room) =
    deeper-keeps text (used ++ t ∷ []) k (goes states.Before (frames.Prefix t ∷ k) ds) (λ fits. ((used, holds, takes, rw e refl, refl), tt, omega arith))
opening-keeps text kinds.If t k ds used e (holds, takes, room) =
    deeper-keeps text (used ++ t ∷ []) k (goes (states.If t) k ds) (λ fits. (used, holds, takes, fits, e, refl))
opening-keeps text (kinds.Reserved words.Begin) t k ds used e (holds, takes, room) =
    deeper-keeps text (used ++ t ∷ []) k (goes (states.Begin t) k ds) (λ fits. (used, holds, fits, e, refl))
opening-keeps text _ t k ds used e stands = tt

pub operand-keeps : (text : List ℕ) (kind : TokenKind) (t : Token) (k : List Frame) (ds : List Decl) (used : List Token) → t.kind ≡ kind → Stands text states.Before k ds used
    → Keeps text (used ++ t ∷ []) (operand_next text kind t k ds)
unfolding operand_next
operand-keeps text (kinds.Number v) t k ds used e (holds, takes, room) =
    (used, Grammar.number t v, holds, takes, (e, refl, refl, refl), omega arith, omega (arith, least-bound k), refl)
operand-keeps text kind t k ds used e stands = opening-keeps text kind t k ds used e stands

-- no arguments, no binds
none_before : (text : List ℕ) → IsBefore text [] height_limit []
none_before text = (λ more. more, omega arith, λ more are. are, λ more. refl, λ more. refl, λ more. omega arith)

none_bound : (text : List ℕ) → IsBound text [] height_limit []
none_bound text = (λ more. more, omega arith, λ more are. are, λ more. refl, λ more. refl, λ more. omega arith)

pub call_open-keeps : (text : List ℕ) (kind : TokenKind) (t : Token) (l : Label) (k : List Frame) (ds : List Decl) (used : List Token) → t.kind ≡ kind → Stands text (states.CallOpen l) k ds used
    → Keeps text (used ++ t ∷ []) (call_open_next text kind t l k ds)
unfolding call_open_next
call_open-keeps text (kinds.Sign marks.Close) t l k ds used e (before, n, o, holds, takes, room, (named, label), ok, eq) = (
  before,
  Grammar.bare_call n o t,
  holds,
  takes,
  ((named, ok, e), ap (λ l. expr l.at (forms.Call l.name [])) label, refl, refl),
  omega arith,
  omega (arith, least-bound k),
  after used before (n ∷ o ∷ []) t eq,
)
call_open-keeps text kind t l k ds used e (before, n, o, holds, takes, room, label, ok, eq) =
    operand-keeps text kind t (frames.Argument l [] height_limit ∷ k) ds used e ((before, n, o, [], holds, takes, label, ok, none_before text, omega arith, eq), tt, omega arith)

pub if-keeps : (text : List ℕ) (kind : TokenKind) (t i : Token) (k : List Frame) (ds : List Decl) (used : List Token) → t.kind ≡ kind → Stands text (states.If i) k ds used
    → Keeps text (used ++ t ∷ []) (if_next kind i k ds)
unfolding if_next
if-keeps text (kinds.Sign marks.Open) t i k ds used e (before, holds, takes, room, ik, eq) =
    ((before, t, holds, takes, ik, e, after used before (i ∷ []) t eq), tt, omega arith)
if-keeps text _ t i k ds used e stands = tt

-- a block without binds, and with some
none_opened : (text : List ℕ) (b r : Token) → b.kind ≡ kinds.Reserved words.Begin → r.kind ≡ kinds.Reserved words.Return → IsOpened text b [] height_limit (b ∷ r ∷ [])
none_opened text b r bk rk = (
  λ p e. Grammar.bare_block b r p e,
  omega arith,
  λ p e is ek. (bk, rk, is, ek),
  λ p e. tt,
  λ p e. refl,
  λ p e. refl,
  λ p e. omega arith,
  λ p e. refl,
)

pub some_opened : (text : List ℕ) (b w : Token) (bs : List Bind) (all : Bindings) (spare : ℕ) (r : Token) → b.kind ≡ kinds.Reserved words.Begin → w.kind ≡ kinds.Reserved words.With → AreBindings all
    → binds_of text all ≡ bs → spare ≤ height_limit → highest_binding all ≡ height_limit - spare → r.kind ≡ kinds.Reserved words.Return → IsOpened text b bs spare (b ∷ w ∷ binding_tokens all ++ r ∷ [])
some_opened text b w bs all spare r bk wk are of low high rk = (
  λ p e. Grammar.block b w all r p e,
  low,
  λ p e is ek. (bk, wk, are, rk, is, ek),
  λ p e. tt,
  λ p e. simp append_assoc refl,
  λ p e. ap (λ l. expr b.from (forms.Block l (tree_of text p))) of,
  λ p e. rw high refl,
  λ p e. refl,
)

pub begin-keeps : (text : List ℕ) (kind : TokenKind) (t b : Token) (k : List Frame) (ds : List Decl) (used : List Token) → t.kind ≡ kind → Stands text (states.Begin b) k ds used
    → Keeps text (used ++ t ∷ []) (begin_next kind b k ds)
unfolding begin_next
begin-keeps text (kinds.Reserved words.With) t b k ds used e (before, holds, room, bk, eq) =
    (before, t, [], holds, room, bk, e, none_bound text, omega arith, after used before (b ∷ []) t eq)
begin-keeps text (kinds.Reserved words.Return) t b k ds used e (before, holds, room, bk, eq) =
    ((before, b ∷ t ∷ [], holds, none_opened text b t bk e, omega arith, after used before (b ∷ []) t eq), tt, omega arith)
begin-keeps text _ t b k ds used e stands = tt

pub binds-keeps : (text : List ℕ) (kind : TokenKind) (t b : Token) (bs : List Bind) (spare : ℕ) (k : List Frame) (ds : List Decl) (used : List Token) → t.kind ≡ kind
    → Stands text (states.Binds b bs spare) k ds used → Keeps text (used ++ t ∷ []) (alone (binds_next text kind t b bs spare) k ds)
unfolding binds_next
binds-keeps text kinds.Name t b bs spare k ds used e (before, w, mid, holds, room, bk, wk, bound, fits, eq) =
    (before, w, mid, t, holds, room, bk, wk, bound, fits, (e, refl), after used before (b ∷ w ∷ mid) t eq)
binds-keeps text _ t b bs spare k ds used e stands = tt

pub bind_name-keeps : (text : List ℕ) (kind : TokenKind) (t b : Token) (bs : List Bind) (spare : ℕ) (l : Label) (k : List Frame) (ds : List Decl) (used : List Token) → t.kind ≡ kind
    → Stands text (states.BindName b bs spare l) k ds used → Keeps text (used ++ t ∷ []) (bind_name_next kind b bs spare l k ds)
unfolding bind_name_next
bind_name-keeps text (kinds.Sign marks.Equal) t b bs spare l k ds used e (before, w, mid, n, holds, room, bk, wk, bound, fits, label, eq) =
    ((before, w, mid, n, t, holds, bk, wk, bound, label, e, fits, rw eq (simp append_assoc refl)), tt, omega arith)
bind_name-keeps text _ t b bs spare l k ds used e stands = tt

pub divided-keeps : (text : List ℕ) (kind : TokenKind) (t : Token) (a : Measured) (op : Token) (k : List Frame) (ds : List Decl) (used : List Token) → t.kind ≡ kind
    → Stands text (states.Divided a op) k ds used → Keeps text (used ++ t ∷ []) (alone (divided_next kind t a op) k ds)
unfolding divided_next
divided-keeps text (kinds.Number v) t a op k ds used e (before, p, holds, takes, (is, tree, high, lv), over, low, left, room, eq) =
    let some = holds-some text ds k before holds in
    let positive = height-positive p in (
      before,
      Grammar.binary p op (Grammar.number t v),
      holds,
      takes,
      (
        (rw over (omega arith), is, left, e, rw over tt),
        ap (λ x. expr op.from (forms.Binary (operator_of op.kind) x (expr t.from (forms.Number v)))) tree,
        omega arith,
        refl,
      ),
      omega arith,
      low,
      rw eq (simp append_assoc refl),
    )
divided-keeps text _ t a op k ds used e stands = tt
