-- What the reader keeps of an expression, and how larger ones are made of smaller ones.
use Rattle.std.specs.Prelude.{ℕ, ◌-◌, min, List, ℤ}
use Rattle.ny_syntax.specs.declared.token.Token.{Token}
use Rattle.ny_syntax.specs.declared.tree.Expr.{Expr}
use Rattle.ny_syntax.specs.declared.tree.Bind.{Bind}
use Rattle.ny_syntax.specs.declared.tree.Form.TheVariants as forms
use Rattle.ny_syntax.specs.Levels.{level_of, prefix_level, operand_level, operator_of, prefix_of}
use Rattle.ny_syntax.specs.Grammar.{expr, name_of, height_limit}
use Rattle.ny_parse.specs.declared.frame.Label.{Label}
use Rattle.ny_parse.specs.declared.frame.Measured.{Measured}

abbrev pub measured : Expr → ℕ → ℕ → Measured
measured e spare level = record { expr = e; spare = spare; level = level }

abbrev pub label_of : List ℕ → Token → Label
label_of text t = record { at = t.from; name = name_of text t }

abbrev pub leaf_of : Expr → Measured
leaf_of e = measured e (height_limit - 1) operand_level

abbrev pub number_of : Token → ℤ → Measured
number_of t v = leaf_of (expr t.from (forms.Number v))

abbrev pub named_of : Label → Measured
named_of l = leaf_of (expr l.at (forms.Name l.name))

-- in brackets
abbrev pub grouped_of : Measured → Measured
grouped_of x = measured x.expr (x.spare - 1) operand_level

abbrev pub prefixed_of : Token → Measured → Measured
prefixed_of m x = measured (expr m.from (forms.Prefix (prefix_of m.kind) x.expr)) (x.spare - 1) prefix_level

abbrev pub binary_of : Measured → Token → Measured → Measured
binary_of a op b =
    measured (expr op.from (forms.Binary (operator_of op.kind) a.expr b.expr)) (min a.spare b.spare - 1) (level_of op.kind)

-- spare is that of the highest argument, and that of no expression where there is none
abbrev pub call_of : Label → List Expr → ℕ → Measured
call_of l es spare = measured (expr l.at (forms.Call l.name es)) (min (height_limit - 2) (spare - 1)) operand_level

abbrev pub conditional_of : Token → Measured → Measured → Measured → Measured
conditional_of i a b c =
    measured (expr i.from (forms.If a.expr b.expr c.expr)) (min a.spare (min b.spare c.spare) - 1) operand_level

abbrev pub block_of : Token → List Bind → ℕ → Measured → Measured
block_of b bs spare x = measured (expr b.from (forms.Block bs x.expr)) (min spare x.spare - 1) operand_level
