-- Tokens that stand in a text as an expression is written make that expression.
use Rattle.std.proofs.Common.{◌≡◌, ℕ, ◌+◌, ◌≤◌, max, List, [], ◌∷◌, ◌++◌, refl, sym, ap, ◌∙◌, subst, Bool, true, false, append_assoc}
use Rattle.std.specs.Prelude.{ℤ}
use Rattle.ny_syntax.specs.declared.token.Token.{Token}
use Rattle.ny_syntax.specs.declared.token.Mark.TheVariants as marks
use Rattle.ny_syntax.specs.declared.tree.Name.{Name}
use Rattle.ny_syntax.specs.declared.tree.Expr.{Expr}
use Rattle.ny_syntax.specs.declared.tree.BinOp.{BinOp}
use Rattle.ny_syntax.specs.declared.tree.PreOp.{PreOp}
use Rattle.ny_syntax.specs.declared.tree.Form.TheVariants as forms
use Rattle.ny_syntax.specs.Levels.{level_of, prefix_level, left_least, operator_of, is_prefix, prefix_of}
use Rattle.ny_syntax.specs.Grammar as parses
use Rattle.ny_syntax.specs.Grammar.{Parse, Arguments, Bindings, tokens, argument_tokens, binding_tokens, height, highest_argument, highest_binding, level, IsNumber, IsRight, IsParse, AreArguments, AreBindings, name_of, expr, tree_of, trees_of, binds_of, bind_of}
use Rattle.ny_syntax.specs.Spelled.{Lexeme, lexeme_of, sign, hash_if, number, name}
use Rattle.ny_syntax.specs.Canonical.{mark_of, prefix_mark, operator_kind, Written, written_as, bracketed, number_written, name_written, choice_written}
use Rattle.ny_syntax.specs.SameTree.{unplaced}
use Rattle.ny_syntax.proofs.Tokens.{Are, on_nil, on_cons, on_append, IsFolded, same_name}
use Rattle.ny_syntax.proofs.Operators.{operator-back, prefix-back, is_prefix-mark, operator-level, MayBeRight, right-is}
use Rattle.ny_syntax.proofs.UnplacedEquations.{unplaced-number, unplaced-name, unplaced-if, unplaced-binary, unplaced-prefix}

-- a parse tree of these tokens, with the level and the height of what is written, that is this expression but for places
pub record IsAgain (text : List ℕ) (e : Expr) (w : Written) (ts : List Token) : Type 0 where
  pub parse : Parse
  pub is : IsParse parse
  pub level_is : level parse ≡ w.level
  pub number_is : w.is_number ≡ true → IsNumber parse
  pub high : height parse ≡ w.height
  pub tokens_are : tokens parse ≡ ts
  pub tree_is : unplaced (tree_of text parse) ≡ unplaced e

-- tokens that stand in the text as it is written make it
abbrev pub Again : List ℕ → Expr → Written → Type 0
Again text e w = (ts : List Token) → Are text ts w.lexemes → IsAgain text e w ts

pub kind_is : (text : List ℕ) (t : Token) (word : Lexeme) → lexeme_of text t ≡ word → t.kind ≡ word.kind
kind_is text t word is = ap (λ z. z.kind) is

pub never : {A : Type 0} → (let b : Bool = false in b) ≡ true → A
never h = absurd (cc)

pub number-again : (text : List ℕ) (at : ℕ) (v : ℤ) → Again text (expr at (forms.Number v)) (number_written v)
number-again text at v =
    let P : List Token → Type 0 = λ ts. IsAgain text (expr at (forms.Number v)) (number_written v) ts in
    on_cons text P (number v) []
    (λ t rest is. on_nil text (λ z. P (t ∷ z)) (record {
      parse = parses.number t v;
      is = kind_is text t (number v) is;
      level_is = refl;
      number_is = λ h. tt;
      high = refl;
      tokens_are = refl;
      tree_is = unplaced-number t.from v ∙ sym (unplaced-number at v);
    }) rest)

pub name-again : (text : List ℕ) (at : ℕ) (n : Name) → IsFolded n → Again text (expr at (forms.Name n)) (name_written n)
name-again text at n folded =
    let P : List Token → Type 0 = λ ts. IsAgain text (expr at (forms.Name n)) (name_written n) ts in
    on_cons text P (name n) []
    (λ t rest is. on_nil text (λ z. P (t ∷ z)) (record {
      parse = parses.name t;
      is = kind_is text t (name n) is;
      level_is = refl;
      number_is = λ h. never h;
      high = refl;
      tokens_are = refl;
      tree_is = unplaced-name t.from (name_of text t) ∙ ap (λ z. expr 0 (forms.Name z)) (same_name text t n folded is) ∙ sym (unplaced-name at n);
    }) rest)

pub bracketed-again : (text : List ℕ) (e : Expr) (w : Written) (fits : Bool) → Again text e w → Again text e (bracketed fits w)
bracketed-again text e w true again = again
bracketed-again text e w false again =
    let P : List Token → Type 0 = λ ts. IsAgain text e (bracketed false w) ts in
    on_cons text P (sign marks.Open) (w.lexemes ++ sign marks.Close ∷ [])
    (λ o rest is_open. on_append text (λ z. P (o ∷ z)) w.lexemes (sign marks.Close ∷ [])
    (λ xs ys are. on_cons text (λ z. P (o ∷ (xs ++ z))) (sign marks.Close) []
    (λ c last is_close. on_nil text (λ z. P (o ∷ (xs ++ c ∷ z)))
    (let q : IsAgain text e w xs = again xs are in record {
      parse = parses.grouped o q.parse c;
      is = (kind_is text o (sign marks.Open) is_open, q.is, kind_is text c (sign marks.Close) is_close);
      level_is = refl;
      number_is = λ h. never h;
      high = ap (λ z. 1 + z) q.high;
      tokens_are = ap (λ z. o ∷ (z ++ c ∷ [])) q.tokens_are;
      tree_is = q.tree_is;
    }) last) ys) rest)

pub binary-again : (text : List ℕ) (at : ℕ) (op : BinOp) (a b : Expr) (la lb : Written) → left_least (operator_kind op) ≤ la.level → MayBeRight op lb
    → Again text a la → Again text b lb
    → Again text (expr at (forms.Binary op a b)) (written_as (level_of (operator_kind op)) (1 + max la.height lb.height) (la.lexemes ++ sign (mark_of op) ∷ lb.lexemes))
binary-again text at op a b la lb low may left right =
    let w : Written = written_as (level_of (operator_kind op)) (1 + max la.height lb.height) (la.lexemes ++ sign (mark_of op) ∷ lb.lexemes) in
    let P : List Token → Type 0 = λ ts. IsAgain text (expr at (forms.Binary op a b)) w ts in
    on_append text P la.lexemes (sign (mark_of op) ∷ lb.lexemes)
    (λ xs rest are_xs. on_cons text (λ z. P (xs ++ z)) (sign (mark_of op)) lb.lexemes
    (λ t ys is are_ys.
    let p : IsAgain text a la xs = left xs are_xs in
    let q : IsAgain text b lb ys = right ys are_ys in
    let kind : t.kind ≡ operator_kind op = kind_is text t (sign (mark_of op)) is in
    record {
      parse = parses.binary p.parse t q.parse;
      is = (
        subst (λ k. 1 ≤ level_of k) (sym kind) (operator-level op),
        p.is,
        subst (λ k. left_least k ≤ level p.parse) (sym kind) (subst (λ n. left_least (operator_kind op) ≤ n) (sym p.level_is) low),
        q.is,
        subst (λ k. IsRight k q.parse) (sym kind) (right-is op lb q.parse may q.level_is q.number_is),
      );
      level_is = ap level_of kind;
      number_is = λ h. never h;
      high = ap (λ z. 1 + max z (height q.parse)) p.high ∙ ap (λ z. 1 + max la.height z) q.high;
      tokens_are = ap (λ z. z ++ t ∷ tokens q.parse) p.tokens_are ∙ ap (λ z. xs ++ t ∷ z) q.tokens_are;
      tree_is =
          unplaced-binary t.from (operator_of t.kind) (tree_of text p.parse) (tree_of text q.parse)
          ∙ ap (λ k. expr 0 (forms.Binary k (unplaced (tree_of text p.parse)) (unplaced (tree_of text q.parse)))) (ap operator_of kind ∙ operator-back op)
          ∙ ap (λ z. expr 0 (forms.Binary op z (unplaced (tree_of text q.parse)))) p.tree_is
          ∙ ap (λ z. expr 0 (forms.Binary op (unplaced a) z)) q.tree_is
          ∙ sym (unplaced-binary at op a b);
    }) rest)

pub prefix-again : (text : List ℕ) (at : ℕ) (op : PreOp) (e : Expr) (w : Written) → prefix_level ≤ w.level → Again text e w
    → Again text (expr at (forms.Prefix op e)) (written_as prefix_level (1 + w.height) (sign (prefix_mark op) ∷ w.lexemes))
prefix-again text at op e w tight again =
    let P : List Token → Type 0 = λ ts. IsAgain text (expr at (forms.Prefix op e)) (written_as prefix_level (1 + w.height) (sign (prefix_mark op) ∷ w.lexemes)) ts in
    on_cons text P (sign (prefix_mark op)) w.lexemes
    (λ m rest is are.
    let q : IsAgain text e w rest = again rest are in
    let kind : m.kind ≡ (sign (prefix_mark op)).kind = kind_is text m (sign (prefix_mark op)) is in
    record {
      parse = parses.prefixed m q.parse;
      is = (ap is_prefix kind ∙ is_prefix-mark op, q.is, subst (λ n. prefix_level ≤ n) (sym q.level_is) tight);
      level_is = refl;
      number_is = λ h. never h;
      high = ap (λ z. 1 + z) q.high;
      tokens_are = ap (λ z. m ∷ z) q.tokens_are;
      tree_is =
          unplaced-prefix m.from (prefix_of m.kind) (tree_of text q.parse)
          ∙ ap (λ k. expr 0 (forms.Prefix k (unplaced (tree_of text q.parse)))) (ap prefix_of kind ∙ prefix-back op)
          ∙ ap (λ z. expr 0 (forms.Prefix op z)) q.tree_is
          ∙ sym (unplaced-prefix at op e);
    })

pub two_parts : (xs ys : List Token) (c : Token) (last : List Token) → (xs ++ c ∷ ys) ++ last ≡ xs ++ c ∷ (ys ++ last)
two_parts xs ys c last = append_assoc xs (c ∷ ys) last

three_parts : (xs ys zs : List Token) (c d : Token) (last : List Token) → ((xs ++ c ∷ ys) ++ d ∷ zs) ++ last ≡ xs ++ c ∷ (ys ++ d ∷ (zs ++ last))
three_parts xs ys zs c d last = append_assoc (xs ++ c ∷ ys) (d ∷ zs) last ∙ two_parts xs ys c (d ∷ (zs ++ last))

pub choice-again : (text : List ℕ) (at : ℕ) (test a b : Expr) (wt wa wb : Written) → Again text test wt → Again text a wa → Again text b wb
    → Again text (expr at (forms.If test a b)) (choice_written wt wa wb)
choice-again text at test a b wt wa wb first second third =
    let P : List Token → Type 0 = λ ts. IsAgain text (expr at (forms.If test a b)) (choice_written wt wa wb) ts in
    let last : List Lexeme = sign marks.Close ∷ [] in
    let after_b : List Lexeme = wb.lexemes ++ last in
    let after_a : List Lexeme = wa.lexemes ++ sign marks.Comma ∷ after_b in
    let after_test : List Lexeme = wt.lexemes ++ sign marks.Comma ∷ after_a in
    on_cons text P hash_if (sign marks.Open ∷ after_test)
    (λ i r0 is_if. on_cons text (λ z. P (i ∷ z)) (sign marks.Open) after_test
    (λ o r1 is_open. on_append text (λ z. P (i ∷ o ∷ z)) wt.lexemes (sign marks.Comma ∷ after_a)
    (λ xs r2 are_xs. on_cons text (λ z. P (i ∷ o ∷ (xs ++ z))) (sign marks.Comma) after_a
    (λ c r3 is_c. on_append text (λ z. P (i ∷ o ∷ (xs ++ c ∷ z))) wa.lexemes (sign marks.Comma ∷ after_b)
    (λ ys r4 are_ys. on_cons text (λ z. P (i ∷ o ∷ (xs ++ c ∷ (ys ++ z)))) (sign marks.Comma) after_b
    (λ d r5 is_d. on_append text (λ z. P (i ∷ o ∷ (xs ++ c ∷ (ys ++ d ∷ z)))) wb.lexemes last
    (λ zs r6 are_zs. on_cons text (λ z. P (i ∷ o ∷ (xs ++ c ∷ (ys ++ d ∷ (zs ++ z))))) (sign marks.Close) []
    (λ e r7 is_close. on_nil text (λ z. P (i ∷ o ∷ (xs ++ c ∷ (ys ++ d ∷ (zs ++ e ∷ z)))))
    (let p : IsAgain text test wt xs = first xs are_xs in
    let q : IsAgain text a wa ys = second ys are_ys in
    let r : IsAgain text b wb zs = third zs are_zs in
    record {
      parse = parses.conditional i o p.parse c q.parse d r.parse e;
      is = (kind_is text i hash_if is_if, kind_is text o (sign marks.Open) is_open, p.is, kind_is text c (sign marks.Comma) is_c, q.is, kind_is text d (sign marks.Comma) is_d, r.is, kind_is text e (sign marks.Close) is_close);
      level_is = refl;
      number_is = λ h. never h;
      high = ap (λ z. 1 + max z (max (height q.parse) (height r.parse))) p.high ∙ ap (λ z. 1 + max wt.height (max z (height r.parse))) q.high ∙ ap (λ z. 1 + max wt.height (max wa.height z)) r.high;
      tokens_are =
          ap (λ z. i ∷ o ∷ z) (three_parts (tokens p.parse) (tokens q.parse) (tokens r.parse) c d (e ∷ []))
          ∙ ap (λ z. i ∷ o ∷ (z ++ c ∷ (tokens q.parse ++ d ∷ (tokens r.parse ++ e ∷ [])))) p.tokens_are
          ∙ ap (λ z. i ∷ o ∷ (xs ++ c ∷ (z ++ d ∷ (tokens r.parse ++ e ∷ [])))) q.tokens_are
          ∙ ap (λ z. i ∷ o ∷ (xs ++ c ∷ (ys ++ d ∷ (z ++ e ∷ [])))) r.tokens_are;
      tree_is =
          unplaced-if i.from (tree_of text p.parse) (tree_of text q.parse) (tree_of text r.parse)
          ∙ ap (λ z. expr 0 (forms.If z (unplaced (tree_of text q.parse)) (unplaced (tree_of text r.parse)))) p.tree_is
          ∙ ap (λ z. expr 0 (forms.If (unplaced test) z (unplaced (tree_of text r.parse)))) q.tree_is
          ∙ ap (λ z. expr 0 (forms.If (unplaced test) (unplaced a) z)) r.tree_is
          ∙ sym (unplaced-if at test a b);
    }) r7) r6) r5) r4) r3) r2) r1) r0)
