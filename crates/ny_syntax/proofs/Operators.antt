-- Operators, their signs and their levels.
use Rattle.std.proofs.Common.{◌≡◌, ℕ, ◌≤◌, Bool, true, false, nat_le, refl, sym, subst, arith}
use Rattle.std.proofs.lemmas.Bool.Decides.{nat_tests}
use Rattle.ny_syntax.specs.declared.token.TokenKind.{TokenKind}
use Rattle.ny_syntax.specs.declared.token.TokenKind.TheVariants as kinds
use Rattle.ny_syntax.specs.declared.token.Mark.TheVariants as marks
use Rattle.ny_syntax.specs.declared.tree.BinOp.{BinOp}
use Rattle.ny_syntax.specs.declared.tree.BinOp.TheVariants as ops
use Rattle.ny_syntax.specs.declared.tree.PreOp.{PreOp}
use Rattle.ny_syntax.specs.declared.tree.PreOp.TheVariants as before
use Rattle.ny_syntax.specs.Levels.{level_of, prefix_level, left_least, right_least, operator_of, is_prefix, prefix_of}
use Rattle.ny_syntax.specs.Grammar.{Parse, level, IsNumber, IsRight}
use Rattle.ny_syntax.specs.Canonical.{prefix_mark, operator_kind, Written, bracketed, left_fits, right_fits, left_written, right_written, prefixed_written}

-- a token that is an operator is the sign of that operator
pub operator_kind-back : (kind : TokenKind) → 1 ≤ level_of kind → operator_kind (operator_of kind) ≡ kind
operator_kind-back (kinds.Number v) low = absurd (omega arith)
operator_kind-back (kinds.Name) low = absurd (omega arith)
operator_kind-back (kinds.Reserved w) low = absurd (omega arith)
operator_kind-back (kinds.If) low = absurd (omega arith)
operator_kind-back (kinds.Sign marks.Open) low = absurd (omega arith)
operator_kind-back (kinds.Sign marks.Close) low = absurd (omega arith)
operator_kind-back (kinds.Sign marks.Comma) low = absurd (omega arith)
operator_kind-back (kinds.Sign marks.Not) low = absurd (omega arith)
operator_kind-back (kinds.Sign mark) low = refl

pub prefix_mark-back : (kind : TokenKind) → is_prefix kind ≡ true → kinds.Sign (prefix_mark (prefix_of kind)) ≡ kind
prefix_mark-back (kinds.Sign marks.Minus) is = refl
prefix_mark-back (kinds.Sign marks.Not) is = refl
prefix_mark-back kind is = absurd (cc)

pub operator-back : (op : BinOp) → operator_of (operator_kind op) ≡ op
operator-back ops.Or = refl
operator-back op = refl

pub prefix-back : (op : PreOp) → prefix_of (kinds.Sign (prefix_mark op)) ≡ op
prefix-back before.Minus = refl
prefix-back before.Not = refl

pub is_prefix-mark : (op : PreOp) → is_prefix (kinds.Sign (prefix_mark op)) ≡ true
is_prefix-mark before.Minus = refl
is_prefix-mark before.Not = refl

pub operator-level : (op : BinOp) → 1 ≤ level_of (operator_kind op)
operator-level ops.Or = omega arith
operator-level op = omega arith

left-bound : (op : BinOp) → left_least (operator_kind op) ≤ 8
left-bound ops.Or = omega arith
left-bound op = omega arith

-- a test that tells that a level is high enough
pub le-true : (m n : ℕ) → m ≤ n → nat_le m n ≡ true
le-true m n low = grind (arith, nat_tests)

test-le : (m n : ℕ) → nat_le m n ≡ true → m ≤ n
test-le m n is = grind (arith, nat_tests)

-- what doesn't bind tightly enough has brackets
bracketed-level : (fits : Bool) (least : ℕ) (e : Written) → least ≤ 8 → nat_le least e.level ≡ fits → least ≤ (bracketed fits e).level
bracketed-level true least e bound is = test-le least e.level is
bracketed-level false least e bound is = bound

pub left-level : (op : BinOp) (e : Written) → left_least (operator_kind op) ≤ (left_written op e).level
left-level op e = bracketed-level (left_fits op e) (left_least (operator_kind op)) e (left-bound op) refl

pub prefixed-level : (e : Written) → prefix_level ≤ (prefixed_written e).level
prefixed-level e = bracketed-level (nat_le prefix_level e.level) prefix_level e (omega arith) refl

-- a divisor is a number
abbrev pub IsDivisor : BinOp → Written → Type 0
IsDivisor ops.Div e = e.is_number ≡ true
IsDivisor op e = Unit {0}

-- what may stand to the right of an operator
abbrev pub MayBeRight : BinOp → Written → Type 0
MayBeRight ops.Div e = e.is_number ≡ true
MayBeRight op e = right_least (operator_kind op) ≤ e.level

pub right-may : (op : BinOp) (e : Written) → IsDivisor op e → MayBeRight op (right_written op e)
right-may ops.Div e is = subst (λ z. (bracketed z e).is_number ≡ true) (sym is) is
right-may op e is = bracketed-level (right_fits op e) (right_least (operator_kind op)) e (omega arith) refl

pub right-is : (op : BinOp) (e : Written) (p : Parse) → MayBeRight op e → level p ≡ e.level → (e.is_number ≡ true → IsNumber p) → IsRight (operator_kind op) p
right-is ops.Div e p may same number = number may
right-is op e p may same number = subst (λ n. right_least (operator_kind op) ≤ n) (sym same) may
