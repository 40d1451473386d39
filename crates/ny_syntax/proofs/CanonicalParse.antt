-- Tokens that stand in a text as an expression of another text is written make that expression.
use Rattle.std.proofs.Common.{◌≡◌, ℕ, List, [], ◌∷◌, map, refl, sym, ap, subst, true, nat_le}
use Rattle.ny_syntax.specs.declared.token.Token.{Token}
use Rattle.ny_syntax.specs.declared.token.TokenKind.{TokenKind}
use Rattle.ny_syntax.specs.declared.token.TokenKind.TheVariants as kinds
use Rattle.ny_syntax.specs.declared.token.Mark.TheVariants as marks
use Rattle.ny_syntax.specs.declared.tree.BinOp.{BinOp}
use Rattle.ny_syntax.specs.Levels.{prefix_level, operator_of, prefix_of}
use Rattle.ny_syntax.specs.Grammar.{Parse, number, name, grouped, prefixed, binary, bare_call, call, conditional, bare_block, block, Arguments, argument, arguments, Bindings, binding, bindings, IsNumber, IsRight, IsParse, AreArguments, AreBindings, name_of, tree_of, trees_of, binds_of, bind_of}
use Rattle.ny_syntax.specs.Canonical.{Written, written, written_bind, right_fits, left_fits, left_written, right_written, prefixed_written}
use Rattle.ny_syntax.proofs.Tokens.{name_of-folded}
use Rattle.ny_syntax.proofs.Operators.{IsDivisor, left-level, right-may, prefixed-level}
use Rattle.ny_syntax.proofs.WrittenEquations.{written-number, written-name, written-call, written-if, written-block, written-binary, written-prefix, written_bind-is}
use Rattle.ny_syntax.proofs.Again.{Again, number-again, name-again, bracketed-again, binary-again, prefix-again, choice-again}
use Rattle.ny_syntax.proofs.AgainLists.{AllAgain, AreSome, one-again, more-again, bare_call-again, call-again, bound_written, AllBoundAgain, one_bind-again, more_binds-again, bare_block-again, HasSome, block-again}

-- the tree of a parse tree, as it is written
abbrev pub rewritten : List ℕ → Parse → Written
rewritten text p = written (tree_of text p)

pub number-rewritten : (text : List ℕ) (p : Parse) → IsNumber p → (rewritten text p).is_number ≡ true
number-rewritten text (number t v) is = ap (λ w. w.is_number) (written-number t.from v)
number-rewritten text (name t) is = absurd is
number-rewritten text (grouped o p c) is = absurd is
number-rewritten text (prefixed m p) is = absurd is
number-rewritten text (binary a op b) is = absurd is
number-rewritten text (bare_call t o c) is = absurd is
number-rewritten text (call t o es c) is = absurd is
number-rewritten text (conditional i o p c q d r e) is = absurd is
number-rewritten text (bare_block b r p e) is = absurd is
number-rewritten text (block b w bs r p e) is = absurd is

pub divisor : (text : List ℕ) (kind : TokenKind) (p : Parse) → IsRight kind p → IsDivisor (operator_of kind) (rewritten text p)
divisor text (kinds.Sign marks.Over) p right = number-rewritten text p right
divisor text kind p right = tt

pub some-arguments : (text : List ℕ) (es : Arguments) → AreSome (map written (trees_of text es))
some-arguments text (argument p) = refl
some-arguments text (arguments p comma es) = refl

pub some-binds : (text : List ℕ) (bs : Bindings) → AreSome (map written_bind (binds_of text bs))
some-binds text (binding n is p) = refl
some-binds text (bindings n is p comma bs) = refl

pub has-binds : (text : List ℕ) (bs : Bindings) → HasSome (map written_bind (binds_of text bs))
has-binds text (binding n is p) = refl
has-binds text (bindings n is p comma bs) = refl

pub bind-written : (text : List ℕ) (n : Token) (p : Parse) → written_bind (bind_of text n (tree_of text p)) ≡ bound_written (name_of text n) (rewritten text p)
bind-written text n p = written_bind-is (bind_of text n (tree_of text p))

mutual
  pub rewritten-again : (old text : List ℕ) (p : Parse) → IsParse p → Again text (tree_of old p) (rewritten old p)
  rewritten-again old text (number t v) is = subst (Again text (tree_of old (number t v))) (sym (written-number t.from v)) (number-again text t.from v)
  rewritten-again old text (name t) is =
      subst (Again text (tree_of old (name t))) (sym (written-name t.from (name_of old t))) (name-again text t.from (name_of old t) (name_of-folded old t))
  rewritten-again old text (grouped o p c) (opens, is, closes) = rewritten-again old text p is
  rewritten-again old text (prefixed m p) (minus, is, tight) =
      let w : Written = rewritten old p in
      subst (Again text (tree_of old (prefixed m p))) (sym (written-prefix m.from (prefix_of m.kind) (tree_of old p)))
      (prefix-again text m.from (prefix_of m.kind) (tree_of old p) (prefixed_written w) (prefixed-level w)
      (bracketed-again text (tree_of old p) w (nat_le prefix_level w.level) (rewritten-again old text p is)))
  rewritten-again old text (binary a op b) (low, isa, below, isb, right) =
      let o : BinOp = operator_of op.kind in
      let wa : Written = rewritten old a in
      let wb : Written = rewritten old b in
      subst (Again text (tree_of old (binary a op b))) (sym (written-binary op.from o (tree_of old a) (tree_of old b)))
      (binary-again text op.from o (tree_of old a) (tree_of old b) (left_written o wa) (right_written o wb)
      (left-level o wa) (right-may o wb (divisor old op.kind b right))
      (bracketed-again text (tree_of old a) wa (left_fits o wa) (rewritten-again old text a isa))
      (bracketed-again text (tree_of old b) wb (right_fits o wb) (rewritten-again old text b isb)))
  rewritten-again old text (bare_call t o c) is =
      subst (Again text (tree_of old (bare_call t o c))) (sym (written-call t.from (name_of old t) [])) (bare_call-again text t.from (name_of old t) (name_of-folded old t))
  rewritten-again old text (call t o es c) (named, opens, are, closes) =
      subst (Again text (tree_of old (call t o es c))) (sym (written-call t.from (name_of old t) (trees_of old es)))
      (call-again text t.from (name_of old t) (trees_of old es) (map written (trees_of old es)) (name_of-folded old t) (arguments-again old text es are))
  rewritten-again old text (conditional i o p c q d r e) (is_if, opens, isp, comma, isq, comma2, isr, closes) =
      subst (Again text (tree_of old (conditional i o p c q d r e))) (sym (written-if i.from (tree_of old p) (tree_of old q) (tree_of old r)))
      (choice-again text i.from (tree_of old p) (tree_of old q) (tree_of old r) (rewritten old p) (rewritten old q) (rewritten old r)
      (rewritten-again old text p isp) (rewritten-again old text q isq) (rewritten-again old text r isr))
  rewritten-again old text (bare_block b r p e) (begins, returns, is, ends) =
      subst (Again text (tree_of old (bare_block b r p e))) (sym (written-block b.from [] (tree_of old p)))
      (bare_block-again text b.from (tree_of old p) (rewritten old p) (rewritten-again old text p is))
  rewritten-again old text (block b w bs r p e) (begins, withs, are, returns, is, ends) =
      subst (Again text (tree_of old (block b w bs r p e))) (sym (written-block b.from (binds_of old bs) (tree_of old p)))
      (block-again text b.from (binds_of old bs) (map written_bind (binds_of old bs)) (tree_of old p) (rewritten old p) (has-binds old bs)
      (bindings-again old text bs are) (rewritten-again old text p is))

  arguments-again : (old text : List ℕ) (es : Arguments) → AreArguments es → AllAgain text (trees_of old es) (map written (trees_of old es))
  arguments-again old text (argument p) is = one-again text (tree_of old p) (rewritten old p) (rewritten-again old text p is)
  arguments-again old text (arguments p comma es) (is, kind, are) =
      more-again text (tree_of old p) (rewritten old p) (trees_of old es) (map written (trees_of old es)) (some-arguments old es)
      (rewritten-again old text p is) (arguments-again old text es are)

  bindings-again : (old text : List ℕ) (bs : Bindings) → AreBindings bs → AllBoundAgain text (binds_of old bs) (map written_bind (binds_of old bs))
  bindings-again old text (binding n is p) (named, equal, isp) =
      subst (λ z. AllBoundAgain text (binds_of old (binding n is p)) (z ∷ [])) (sym (bind-written old n p))
      (one_bind-again text n.from (name_of old n) (tree_of old p) (rewritten old p) (name_of-folded old n) (rewritten-again old text p isp))
  bindings-again old text (bindings n is p comma bs) (named, equal, isp, kind, are) =
      subst (λ z. AllBoundAgain text (binds_of old (bindings n is p comma bs)) (z ∷ map written_bind (binds_of old bs))) (sym (bind-written old n p))
      (more_binds-again text n.from (name_of old n) (tree_of old p) (rewritten old p) (binds_of old bs) (map written_bind (binds_of old bs)) (name_of-folded old n) (some-binds old bs)
      (rewritten-again old text p isp) (bindings-again old text bs are))
