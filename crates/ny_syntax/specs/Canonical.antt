-- The one canonical text of a tree. Each declaration, and `play`, has a line of its own; a body is `return` and its expression;
-- brackets stand where a part of an expression binds too loosely for its place, and nowhere else.
use Rattle.std.specs.Prelude.{ℕ, ℤ, ◌+◌, nat_le, max, List, [], ◌∷◌, ◌++◌, map, Bool, true, false, Option, Some, None}
use Rattle.ny_syntax.specs.declared.token.Token.{Token}
use Rattle.ny_syntax.specs.declared.token.TokenKind.{TokenKind}
use Rattle.ny_syntax.specs.declared.token.TokenKind.TheVariants as kinds
use Rattle.ny_syntax.specs.declared.token.Mark.{Mark}
use Rattle.ny_syntax.specs.declared.token.Mark.TheVariants as marks
use Rattle.ny_syntax.specs.declared.token.Word.TheVariants as words
use Rattle.ny_syntax.specs.declared.tree.BinOp.{BinOp}
use Rattle.ny_syntax.specs.declared.tree.BinOp.TheVariants as ops
use Rattle.ny_syntax.specs.declared.tree.PreOp.{PreOp}
use Rattle.ny_syntax.specs.declared.tree.PreOp.TheVariants as before
use Rattle.ny_syntax.specs.declared.tree.Name.{Name}
use Rattle.ny_syntax.specs.declared.tree.Expr.{Expr}
use Rattle.ny_syntax.specs.declared.tree.Bind.{Bind}
use Rattle.ny_syntax.specs.declared.tree.Form.TheFolds.{fold-Expr, fold-Bind}
use Rattle.ny_syntax.specs.declared.tree.Form.TheOpen.{Form-F, Expr-F, Bind-F}
use Rattle.ny_syntax.specs.declared.tree.Param.{Param}
use Rattle.ny_syntax.specs.declared.tree.Decl.{Decl}
use Rattle.ny_syntax.specs.declared.tree.Decl.TheVariants as decls
use Rattle.ny_syntax.specs.declared.tree.Tree.{Tree}
use Rattle.ny_syntax.specs.Levels.{level_of, prefix_level, operand_level, left_least, right_least}
use Rattle.ny_syntax.specs.Spelled.{Lexeme, sign, reserved, hash_if, number, name, lines_text}

-- the sign of an operator
abbrev pub mark_of : BinOp → Mark
mark_of ops.Or = marks.Or
mark_of ops.And = marks.And
mark_of ops.Eq = marks.Equal
mark_of ops.Ne = marks.NotEqual
mark_of ops.Lt = marks.Less
mark_of ops.Gt = marks.Greater
mark_of ops.Le = marks.LessEqual
mark_of ops.Ge = marks.GreaterEqual
mark_of ops.Add = marks.Plus
mark_of ops.Sub = marks.Minus
mark_of ops.Mul = marks.Times
mark_of ops.Div = marks.Over
mark_of ops.At = marks.At
mark_of ops.Stretch = marks.Tilde

abbrev pub prefix_mark : PreOp → Mark
prefix_mark before.Minus = marks.Minus
prefix_mark before.Not = marks.Not

abbrev pub operator_kind : BinOp → TokenKind
operator_kind op = kinds.Sign (mark_of op)

-- an expression as it is written: how tightly its outermost part binds, whether it is a number alone, its height with its
-- brackets, and its tokens
pub record Written : Type 0 where
  pub level : ℕ
  pub is_number : Bool
  pub height : ℕ
  pub lexemes : List Lexeme

abbrev pub written_as : ℕ → ℕ → List Lexeme → Written
written_as level height lexemes = record { level = level; is_number = false; height = height; lexemes = lexemes }

-- what no operator is the outermost part of
abbrev pub operand : ℕ → List Lexeme → Written
operand height lexemes = written_as operand_level height lexemes

-- an expression that may stand in its place, or a pair of brackets around it
abbrev pub bracketed : Bool → Written → Written
bracketed true e = e
bracketed false e = operand (1 + e.height) (sign marks.Open ∷ e.lexemes ++ sign marks.Close ∷ [])

-- may it stand to the left of the operator
abbrev pub left_fits : BinOp → Written → Bool
left_fits op e = nat_le (left_least (operator_kind op)) e.level

-- may it stand to the right: a divisor is a number
abbrev pub right_fits : BinOp → Written → Bool
right_fits ops.Div e = e.is_number
right_fits op e = nat_le (right_least (operator_kind op)) e.level

abbrev pub left_written : BinOp → Written → Written
left_written op e = bracketed (left_fits op e) e

abbrev pub right_written : BinOp → Written → Written
right_written op e = bracketed (right_fits op e) e

abbrev pub prefixed_written : Written → Written
prefixed_written e = bracketed (nat_le prefix_level e.level) e

abbrev pub highest : List Written → ℕ
highest [] = 0
highest (e ∷ es) = max e.height (highest es)

-- a comma where something stands before
abbrev pub comma_after : Bool → List Lexeme
comma_after true = sign marks.Comma ∷ []
comma_after false = []

abbrev pub separated : Bool → List Written → List Lexeme
separated some [] = []
separated some (e ∷ es) = comma_after some ++ (e.lexemes ++ separated true es)

-- a comma between two
abbrev pub with_commas : List Written → List Lexeme
with_commas es = separated false es

-- a block's binds, if it has any
abbrev pub with_binds : List Written → List Lexeme
with_binds [] = []
with_binds (b ∷ bs) = reserved words.With ∷ with_commas (b ∷ bs)

abbrev pub number_written : ℤ → Written
number_written v = record { level = operand_level; is_number = true; height = 1; lexemes = number v ∷ [] }

abbrev pub name_written : Name → Written
name_written n = operand 1 (name n ∷ [])

abbrev pub call_written : Name → List Written → Written
call_written n es = operand (max 2 (1 + highest es)) (name n ∷ sign marks.Open ∷ with_commas es ++ sign marks.Close ∷ [])

abbrev pub choice_written : Written → Written → Written → Written
choice_written test a b =
    operand (1 + max test.height (max a.height b.height))
    (hash_if ∷ sign marks.Open ∷ (test.lexemes ++ sign marks.Comma ∷ (a.lexemes ++ sign marks.Comma ∷ (b.lexemes ++ sign marks.Close ∷ []))))

abbrev pub block_written : List Written → Written → Written
block_written bs e =
    operand (1 + max (highest bs) e.height)
    (reserved words.Begin ∷ (with_binds bs ++ reserved words.Return ∷ (e.lexemes ++ reserved words.End ∷ [])))

abbrev pub binary_written : BinOp → Written → Written → Written
binary_written op a b =
    written_as (level_of (operator_kind op)) (1 + max (left_written op a).height (right_written op b).height)
    ((left_written op a).lexemes ++ sign (mark_of op) ∷ (right_written op b).lexemes)

abbrev pub prefix_written : PreOp → Written → Written
prefix_written op e =
    written_as prefix_level (1 + (prefixed_written e).height) (sign (prefix_mark op) ∷ (prefixed_written e).lexemes)

-- an expression from its parts as they are written
abbrev pub form_written : Form-F Written Written Written → Written
form_written (Form-F.Number v) = number_written v
form_written (Form-F.Name n) = name_written n
form_written (Form-F.Call n es) = call_written n es
form_written (Form-F.If test a b) = choice_written test a b
form_written (Form-F.Block bs e) = block_written bs e
form_written (Form-F.Binary op a b) = binary_written op a b
form_written (Form-F.Prefix op e) = prefix_written op e

abbrev pub bind_written : Bind-F Written Written Written → Written
bind_written b = operand b.value.height (name b.name ∷ sign marks.Equal ∷ b.value.lexemes)

abbrev pub expr_written : Expr-F Written Written Written → Written
expr_written e = e.form

-- an expression as its canonical text has it
abbrev pub written : Expr → Written
written = fold-Expr Written Written Written form_written bind_written expr_written

abbrev pub written_bind : Bind → Written
written_bind = fold-Bind Written Written Written form_written bind_written expr_written

abbrev pub separated_params : Bool → List Param → List Lexeme
separated_params some [] = []
separated_params some (p ∷ ps) = comma_after some ++ name p.name ∷ separated_params true ps

abbrev pub param_lexemes : List Param → List Lexeme
param_lexemes ps = separated_params false ps

abbrev pub function_lexemes : Name → List Param → Expr → List Lexeme
function_lexemes n ps body =
    reserved words.Function ∷ name n ∷ sign marks.Open ∷ param_lexemes ps ++ sign marks.Close ∷ reserved words.Return ∷ (written body).lexemes

abbrev pub variable_lexemes : Name → Expr → List Lexeme
variable_lexemes n value = reserved words.Variable ∷ name n ∷ sign marks.Equal ∷ (written value).lexemes

abbrev pub declared_lexemes : Decl → List Lexeme
declared_lexemes (decls.Function at n ps body) = function_lexemes n ps body
declared_lexemes (decls.Variable at n value) = variable_lexemes n value

abbrev pub declaration_lexemes : Decl → List Lexeme
declaration_lexemes d = reserved words.Define ∷ declared_lexemes d

abbrev pub play_lexemes : Expr → List Lexeme
play_lexemes e = reserved words.Play ∷ (written e).lexemes

abbrev pub play_lines : Option Expr → List (List Lexeme)
play_lines None = []
play_lines (Some e) = play_lexemes e ∷ []

-- the lines of a tree
abbrev pub canonical_lines : Tree → List (List Lexeme)
canonical_lines tree = map declaration_lexemes tree.decls ++ play_lines tree.play

-- The canonical text: one space between two tokens of a line, and a line feed after each line.
unfoldable pub canonical_text : Tree → List ℕ
canonical_text tree = lines_text (canonical_lines tree)

abbrev pub written_height : Decl → ℕ
written_height (decls.Function at n ps body) = (written body).height
written_height (decls.Variable at n value) = (written value).height

abbrev pub written_heights : List Decl → ℕ
written_heights [] = 0
written_heights (d ∷ ds) = max (written_height d) (written_heights ds)

abbrev pub played_height : Option Expr → ℕ
played_height None = 0
played_height (Some e) = (written e).height

-- the height of the highest expression of the canonical text
abbrev pub canonical_height : Tree → ℕ
canonical_height tree = max (written_heights tree.decls) (played_height tree.play)

abbrev pub open_count : TokenKind → ℕ
open_count (kinds.Sign marks.Open) = 1
open_count kind = 0

-- how many opening brackets
abbrev pub opens : List Token → ℕ
opens [] = 0
opens (t ∷ ts) = open_count t.kind + opens ts

abbrev pub opens_written : List Lexeme → ℕ
opens_written [] = 0
opens_written (word ∷ words) = open_count word.kind + opens_written words

-- the tokens of a list of lines
abbrev pub line_tokens : List (List Lexeme) → List Lexeme
line_tokens [] = []
line_tokens (line ∷ lines) = line ++ line_tokens lines

-- the tokens of the canonical text
abbrev pub canonical_lexemes : Tree → List Lexeme
canonical_lexemes tree = line_tokens (canonical_lines tree)
