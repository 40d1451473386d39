-- How tightly operators bind. A higher level binds tighter:
--
--   1  |                  or
--   2  &                  and
--   3  = != < > <= >=     comparison, at most one
--   4  + -                sum
--   5  * /                term; a divisor is a number
--   6  @ ~                placed
--   7  - !                before an expression
--   8  numbers, names, calls, `#if`, blocks, brackets
use Rattle.std.specs.Prelude.{ℕ, ◌+◌, Bool, true, false}
use Rattle.ny_syntax.specs.declared.token.TokenKind.{TokenKind}
use Rattle.ny_syntax.specs.declared.token.TokenKind.TheVariants.{Sign}
use Rattle.ny_syntax.specs.declared.token.Mark.TheVariants as marks
use Rattle.ny_syntax.specs.declared.tree.BinOp.{BinOp}
use Rattle.ny_syntax.specs.declared.tree.BinOp.TheVariants as ops
use Rattle.ny_syntax.specs.declared.tree.PreOp.{PreOp}
use Rattle.ny_syntax.specs.declared.tree.PreOp.TheVariants as before

-- the level of an operator between two expressions, and 0 of any other token
abbrev pub level_of : TokenKind → ℕ
level_of (Sign marks.Or) = 1
level_of (Sign marks.And) = 2
level_of (Sign marks.Equal) = 3
level_of (Sign marks.NotEqual) = 3
level_of (Sign marks.Less) = 3
level_of (Sign marks.Greater) = 3
level_of (Sign marks.LessEqual) = 3
level_of (Sign marks.GreaterEqual) = 3
level_of (Sign marks.Plus) = 4
level_of (Sign marks.Minus) = 4
level_of (Sign marks.Times) = 5
level_of (Sign marks.Over) = 5
level_of (Sign marks.At) = 6
level_of (Sign marks.Tilde) = 6
level_of _ = 0

-- the level of an expression with `-` or `!` before it
abbrev pub prefix_level : ℕ
prefix_level = 7

-- the level of all that no operator is the outermost part of
abbrev pub operand_level : ℕ
operand_level = 8

-- the least level of what may stand to the left of an operator: its own, since repeated operators group to the left; but a
-- comparison has no other comparison for its side
abbrev pub left_least : TokenKind → ℕ
left_least (Sign marks.Equal) = 4
left_least (Sign marks.NotEqual) = 4
left_least (Sign marks.Less) = 4
left_least (Sign marks.Greater) = 4
left_least (Sign marks.LessEqual) = 4
left_least (Sign marks.GreaterEqual) = 4
left_least kind = level_of kind

-- the least level of what may stand to its right
abbrev pub right_least : TokenKind → ℕ
right_least kind = 1 + level_of kind

-- the operator that a token between two expressions is
abbrev pub operator_of : TokenKind → BinOp
operator_of (Sign marks.Or) = ops.Or
operator_of (Sign marks.And) = ops.And
operator_of (Sign marks.Equal) = ops.Eq
operator_of (Sign marks.NotEqual) = ops.Ne
operator_of (Sign marks.Less) = ops.Lt
operator_of (Sign marks.Greater) = ops.Gt
operator_of (Sign marks.LessEqual) = ops.Le
operator_of (Sign marks.GreaterEqual) = ops.Ge
operator_of (Sign marks.Plus) = ops.Add
operator_of (Sign marks.Minus) = ops.Sub
operator_of (Sign marks.Times) = ops.Mul
operator_of (Sign marks.Over) = ops.Div
operator_of (Sign marks.At) = ops.At
operator_of _ = ops.Stretch

-- the signs that may stand before an expression
abbrev pub is_prefix : TokenKind → Bool
is_prefix (Sign marks.Minus) = true
is_prefix (Sign marks.Not) = true
is_prefix _ = false

-- the operator that such a sign is
abbrev pub prefix_of : TokenKind → PreOp
prefix_of (Sign marks.Minus) = before.Minus
prefix_of _ = before.Not
