-- Canonical texts, computed from their definition.
use Rattle.std.proofs.Common.{◌≡◌, ℕ, List, [], ◌∷◌, ◌++◌, Some, None, refl, arith}
use Rattle.std.specs.Prelude.{pos, codes, decimal}
use Rattle.std.proofs.lemmas.Fmt.{decimal_digit}
use Rattle.ny_num.specs.Decimal.{decimal_text, in_digits}
use Rattle.ny_syntax.specs.declared.tree.Name.{Name}
use Rattle.ny_syntax.specs.declared.tree.Expr.{Expr}
use Rattle.ny_syntax.specs.declared.tree.Form.TheVariants as forms
use Rattle.ny_syntax.specs.declared.tree.BinOp.TheVariants as ops
use Rattle.ny_syntax.specs.declared.tree.Decl.TheVariants as decls
use Rattle.ny_syntax.specs.declared.tree.Tree.{Tree}
use Rattle.ny_syntax.specs.Grammar.{expr}
use Rattle.ny_syntax.specs.Canonical.{canonical_text}
use Rattle.ny_syntax.proofs.WrittenEquations.{written-number, written-name, written-call, written-block, written-binary}

abbrev word : List ℕ → Name
word bytes = record { bytes = bytes }

abbrev named : List ℕ → Expr
named bytes = expr 0 (forms.Name (word bytes))

abbrev played : Expr → Tree
played e = record { decls = []; play = Some e; play_at = 0; end = 0 }

zero_digit : decimal 0 ≡ 48 ∷ []
zero_digit = decimal_digit 0 (omega arith)

-- play const(.5, 0.0010)
call_text : canonical_text (played (expr 5 (forms.Call (word (codes "const")) (expr 11 (forms.Number (pos 500000)) ∷ expr 15 (forms.Number (pos 1000)) ∷ []))))
    ≡ codes "play const ( 0.5 , 0.001 )" ++ 10 ∷ []
unfolding canonical_text decimal_text in_digits
call_text =
    rw (
      written-call 5 (word (codes "const")) (expr 11 (forms.Number (pos 500000)) ∷ expr 15 (forms.Number (pos 1000)) ∷ []),
      written-number 11 (pos 500000),
      written-number 15 (pos 1000),
      zero_digit,
    ) refl

-- play a - (b - c)
right_text : canonical_text (played (expr 7 (forms.Binary ops.Sub (named (codes "a")) (expr 12 (forms.Binary ops.Sub (named (codes "b")) (named (codes "c")))))))
    ≡ codes "play a - ( b - c )" ++ 10 ∷ []
unfolding canonical_text
right_text =
    rw (
      written-binary 7 ops.Sub (named (codes "a")) (expr 12 (forms.Binary ops.Sub (named (codes "b")) (named (codes "c")))),
      written-binary 12 ops.Sub (named (codes "b")) (named (codes "c")),
      written-name 0 (word (codes "a")),
      written-name 0 (word (codes "b")),
      written-name 0 (word (codes "c")),
    ) refl

-- play (a - b) - c
left_text : canonical_text (played (expr 13 (forms.Binary ops.Sub (expr 8 (forms.Binary ops.Sub (named (codes "a")) (named (codes "b")))) (named (codes "c")))))
    ≡ codes "play a - b - c" ++ 10 ∷ []
unfolding canonical_text
left_text =
    rw (
      written-binary 13 ops.Sub (expr 8 (forms.Binary ops.Sub (named (codes "a")) (named (codes "b")))) (named (codes "c")),
      written-binary 8 ops.Sub (named (codes "a")) (named (codes "b")),
      written-name 0 (word (codes "a")),
      written-name 0 (word (codes "b")),
      written-name 0 (word (codes "c")),
    ) refl

-- define function f(x, y) begin return x end
body_text : canonical_text (record {
  decls = decls.Function 16 (word (codes "f")) (record { at = 18; name = word (codes "x") } ∷ record { at = 21; name = word (codes "y") } ∷ []) (expr 24 (forms.Block [] (named (codes "x")))) ∷ [];
  play = None;
  play_at = 42;
  end = 42;
}) ≡ codes "define function f ( x , y ) return begin return x end" ++ 10 ∷ []
unfolding canonical_text
body_text = rw (written-block 24 [] (named (codes "x")), written-name 0 (word (codes "x"))) refl
