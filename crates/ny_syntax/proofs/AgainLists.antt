-- The same of arguments, calls, binds and blocks.
use Rattle.std.proofs.Common.{◌≡◌, ℕ, ◌+◌, max, List, [], ◌∷◌, ◌++◌, map, refl, sym, ap, ◌∙◌, true, arith, append-nil}
use Rattle.ny_syntax.specs.declared.token.Token.{Token}
use Rattle.ny_syntax.specs.declared.token.Mark.TheVariants as marks
use Rattle.ny_syntax.specs.declared.token.Word.TheVariants as words
use Rattle.ny_syntax.specs.declared.tree.Name.{Name}
use Rattle.ny_syntax.specs.declared.tree.Expr.{Expr}
use Rattle.ny_syntax.specs.declared.tree.Bind.{Bind}
use Rattle.ny_syntax.specs.declared.tree.Form.TheVariants as forms
use Rattle.ny_syntax.specs.Grammar as parses
use Rattle.ny_syntax.specs.Grammar.{Arguments, Bindings, tokens, argument_tokens, binding_tokens, height, highest_argument, highest_binding, AreArguments, AreBindings, name_of, expr, tree_of, trees_of, binds_of, bind_of}
use Rattle.ny_syntax.specs.Spelled.{Lexeme, lexeme_of, sign, reserved, name}
use Rattle.ny_syntax.specs.Canonical.{Written, operand, highest, separated, with_commas, with_binds, call_written, block_written}
use Rattle.ny_syntax.specs.SameTree.{unplaced, unplaced_bind}
use Rattle.ny_syntax.proofs.Tokens.{Are, on_nil, on_cons, on_append, IsFolded, same_name}
use Rattle.ny_syntax.proofs.Again.{IsAgain, Again, kind_is, never, two_parts}
use Rattle.ny_syntax.proofs.UnplacedEquations.{unplaced-call, unplaced-block, unplaced_bind-is}

-- ---- arguments

pub record AreAgain (text : List ℕ) (es : List Expr) (ws : List Written) (ts : List Token) : Type 0 where
  pub listed : Arguments
  pub are : AreArguments listed
  pub high : highest_argument listed ≡ highest ws
  pub tokens_are : argument_tokens listed ≡ ts
  pub trees_are : map unplaced (trees_of text listed) ≡ map unplaced es

abbrev pub AllAgain : List ℕ → List Expr → List Written → Type 0
AllAgain text es ws = (ts : List Token) → Are text ts (with_commas ws) → AreAgain text es ws ts

-- there is one at least
abbrev pub AreSome : List Written → Type 0
AreSome ws = separated true ws ≡ sign marks.Comma ∷ with_commas ws

pub one-again : (text : List ℕ) (e : Expr) (w : Written) → Again text e w → AllAgain text (e ∷ []) (w ∷ [])
one-again text e w again ts are =
    let q : IsAgain text e w ts = again ts (are ∙ append-nil w.lexemes) in
    let same : height q.parse ≡ w.height = q.high in record {
      listed = parses.argument q.parse;
      are = q.is;
      high = omega arith;
      tokens_are = q.tokens_are;
      trees_are = ap (λ z. z ∷ []) q.tree_is;
    }

pub more-again : (text : List ℕ) (e : Expr) (w : Written) (es : List Expr) (ws : List Written) → AreSome ws → Again text e w → AllAgain text es ws → AllAgain text (e ∷ es) (w ∷ ws)
more-again text e w es ws some first others ts are =
    let P : List Token → Type 0 = λ z. AreAgain text (e ∷ es) (w ∷ ws) z in
    on_append text P w.lexemes (sign marks.Comma ∷ with_commas ws)
    (λ xs rest are_xs. on_cons text (λ z. P (xs ++ z)) (sign marks.Comma) (with_commas ws)
    (λ c ys is_c are_ys.
    let p : IsAgain text e w xs = first xs are_xs in
    let q : AreAgain text es ws ys = others ys are_ys in record {
      listed = parses.arguments p.parse c q.listed;
      are = (p.is, kind_is text c (sign marks.Comma) is_c, q.are);
      high = ap (λ z. max z (highest_argument q.listed)) p.high ∙ ap (λ z. max w.height z) q.high;
      tokens_are = ap (λ z. z ++ c ∷ argument_tokens q.listed) p.tokens_are ∙ ap (λ z. xs ++ c ∷ z) q.tokens_are;
      trees_are = ap (λ z. z ∷ map unplaced (trees_of text q.listed)) p.tree_is ∙ ap (λ z. unplaced e ∷ z) q.trees_are;
    }) rest) ts
    (are ∙ ap (λ z. w.lexemes ++ z) some)

pub bare_call-again : (text : List ℕ) (at : ℕ) (n : Name) → IsFolded n → Again text (expr at (forms.Call n [])) (call_written n [])
bare_call-again text at n folded =
    let P : List Token → Type 0 = λ z. IsAgain text (expr at (forms.Call n [])) (call_written n []) z in
    on_cons text P (name n) (sign marks.Open ∷ sign marks.Close ∷ [])
    (λ t r0 is_t. on_cons text (λ z. P (t ∷ z)) (sign marks.Open) (sign marks.Close ∷ [])
    (λ o r1 is_o. on_cons text (λ z. P (t ∷ o ∷ z)) (sign marks.Close) []
    (λ c r2 is_c. on_nil text (λ z. P (t ∷ o ∷ c ∷ z)) (record {
      parse = parses.bare_call t o c;
      is = (kind_is text t (name n) is_t, kind_is text o (sign marks.Open) is_o, kind_is text c (sign marks.Close) is_c);
      level_is = refl;
      number_is = λ h. never h;
      high = refl;
      tokens_are = refl;
      tree_is = unplaced-call t.from (name_of text t) [] ∙ ap (λ z. expr 0 (forms.Call z [])) (same_name text t n folded is_t) ∙ sym (unplaced-call at n []);
    }) r2) r1) r0)

pub call-again : (text : List ℕ) (at : ℕ) (n : Name) (es : List Expr) (ws : List Written) → IsFolded n → AllAgain text es ws → Again text (expr at (forms.Call n es)) (call_written n ws)
call-again text at n es ws folded all =
    let P : List Token → Type 0 = λ z. IsAgain text (expr at (forms.Call n es)) (call_written n ws) z in
    let last : List Lexeme = sign marks.Close ∷ [] in
    on_cons text P (name n) (sign marks.Open ∷ (with_commas ws ++ last))
    (λ t r0 is_t. on_cons text (λ z. P (t ∷ z)) (sign marks.Open) (with_commas ws ++ last)
    (λ o r1 is_o. on_append text (λ z. P (t ∷ o ∷ z)) (with_commas ws) last
    (λ xs r2 are_xs. on_cons text (λ z. P (t ∷ o ∷ (xs ++ z))) (sign marks.Close) []
    (λ c r3 is_c. on_nil text (λ z. P (t ∷ o ∷ (xs ++ c ∷ z)))
    (let q : AreAgain text es ws xs = all xs are_xs in record {
      parse = parses.call t o q.listed c;
      is = (kind_is text t (name n) is_t, kind_is text o (sign marks.Open) is_o, q.are, kind_is text c (sign marks.Close) is_c);
      level_is = refl;
      number_is = λ h. never h;
      high = ap (λ z. max 2 (1 + z)) q.high;
      tokens_are = ap (λ z. t ∷ o ∷ (z ++ c ∷ [])) q.tokens_are;
      tree_is =
          unplaced-call t.from (name_of text t) (trees_of text q.listed)
          ∙ ap (λ z. expr 0 (forms.Call z (map unplaced (trees_of text q.listed)))) (same_name text t n folded is_t)
          ∙ ap (λ z. expr 0 (forms.Call n z)) q.trees_are
          ∙ sym (unplaced-call at n es);
    }) r3) r2) r1) r0)

-- ---- binds

abbrev pub bound : ℕ → Name → Expr → Bind
bound at n value = record { at = at; name = n; value = value }

abbrev pub bound_written : Name → Written → Written
bound_written n w = operand w.height (name n ∷ sign marks.Equal ∷ w.lexemes)

pub record AreBoundAgain (text : List ℕ) (bs : List Bind) (ws : List Written) (ts : List Token) : Type 0 where
  pub listed : Bindings
  pub are : AreBindings listed
  pub high : highest_binding listed ≡ highest ws
  pub tokens_are : binding_tokens listed ≡ ts
  pub binds_are : map unplaced_bind (binds_of text listed) ≡ map unplaced_bind bs

abbrev pub AllBoundAgain : List ℕ → List Bind → List Written → Type 0
AllBoundAgain text bs ws = (ts : List Token) → Are text ts (with_commas ws) → AreBoundAgain text bs ws ts

same_bind : (text : List ℕ) (t : Token) (at : ℕ) (n : Name) (e f : Expr) → IsFolded n → lexeme_of text t ≡ name n → unplaced f ≡ unplaced e
    → unplaced_bind (bind_of text t f) ≡ unplaced_bind (bound at n e)
same_bind text t at n e f folded is same =
    unplaced_bind-is (bind_of text t f)
    ∙ ap (λ z. bound 0 z (unplaced f)) (same_name text t n folded is)
    ∙ ap (λ z. bound 0 n z) same
    ∙ sym (unplaced_bind-is (bound at n e))

pub one_bind-again : (text : List ℕ) (at : ℕ) (n : Name) (e : Expr) (w : Written) → IsFolded n → Again text e w → AllBoundAgain text (bound at n e ∷ []) (bound_written n w ∷ [])
one_bind-again text at n e w folded again =
    let P : List Token → Type 0 = λ z. AreBoundAgain text (bound at n e ∷ []) (bound_written n w ∷ []) z in
    on_cons text P (name n) (sign marks.Equal ∷ (w.lexemes ++ []))
    (λ t r0 is_t. on_cons text (λ z. P (t ∷ z)) (sign marks.Equal) (w.lexemes ++ [])
    (λ is xs is_equal are.
    let q : IsAgain text e w xs = again xs (are ∙ append-nil w.lexemes) in
    let same : height q.parse ≡ w.height = q.high in record {
      listed = parses.binding t is q.parse;
      are = (kind_is text t (name n) is_t, kind_is text is (sign marks.Equal) is_equal, q.is);
      high = omega arith;
      tokens_are = ap (λ z. t ∷ is ∷ z) q.tokens_are;
      binds_are = ap (λ z. z ∷ []) (same_bind text t at n e (tree_of text q.parse) folded is_t q.tree_is);
    }) r0)

pub more_binds-again : (text : List ℕ) (at : ℕ) (n : Name) (e : Expr) (w : Written) (bs : List Bind) (ws : List Written) → IsFolded n → AreSome ws
    → Again text e w → AllBoundAgain text bs ws → AllBoundAgain text (bound at n e ∷ bs) (bound_written n w ∷ ws)
more_binds-again text at n e w bs ws folded some first others ts are =
    let P : List Token → Type 0 = λ z. AreBoundAgain text (bound at n e ∷ bs) (bound_written n w ∷ ws) z in
    let rest : List Lexeme = sign marks.Comma ∷ with_commas ws in
    on_cons text P (name n) (sign marks.Equal ∷ (w.lexemes ++ rest))
    (λ t r0 is_t. on_cons text (λ z. P (t ∷ z)) (sign marks.Equal) (w.lexemes ++ rest)
    (λ is r1 is_equal. on_append text (λ z. P (t ∷ is ∷ z)) w.lexemes rest
    (λ xs r2 are_xs. on_cons text (λ z. P (t ∷ is ∷ (xs ++ z))) (sign marks.Comma) (with_commas ws)
    (λ c ys is_c are_ys.
    let p : IsAgain text e w xs = first xs are_xs in
    let q : AreBoundAgain text bs ws ys = others ys are_ys in record {
      listed = parses.bindings t is p.parse c q.listed;
      are = (kind_is text t (name n) is_t, kind_is text is (sign marks.Equal) is_equal, p.is, kind_is text c (sign marks.Comma) is_c, q.are);
      high = ap (λ z. max z (highest_binding q.listed)) p.high ∙ ap (λ z. max w.height z) q.high;
      tokens_are = ap (λ z. t ∷ is ∷ (z ++ c ∷ binding_tokens q.listed)) p.tokens_are ∙ ap (λ z. t ∷ is ∷ (xs ++ c ∷ z)) q.tokens_are;
      binds_are =
          ap (λ z. z ∷ map unplaced_bind (binds_of text q.listed)) (same_bind text t at n e (tree_of text p.parse) folded is_t p.tree_is)
          ∙ ap (λ z. unplaced_bind (bound at n e) ∷ z) q.binds_are;
    }) r2) r1) r0) ts
    (are ∙ ap (λ z. name n ∷ sign marks.Equal ∷ (w.lexemes ++ z)) some)

-- ---- blocks

pub bare_block-again : (text : List ℕ) (at : ℕ) (e : Expr) (w : Written) → Again text e w → Again text (expr at (forms.Block [] e)) (block_written [] w)
bare_block-again text at e w again =
    let P : List Token → Type 0 = λ z. IsAgain text (expr at (forms.Block [] e)) (block_written [] w) z in
    let last : List Lexeme = reserved words.End ∷ [] in
    on_cons text P (reserved words.Begin) (reserved words.Return ∷ (w.lexemes ++ last))
    (λ b r0 is_b. on_cons text (λ z. P (b ∷ z)) (reserved words.Return) (w.lexemes ++ last)
    (λ r r1 is_r. on_append text (λ z. P (b ∷ r ∷ z)) w.lexemes last
    (λ xs r2 are_xs. on_cons text (λ z. P (b ∷ r ∷ (xs ++ z))) (reserved words.End) []
    (λ d r3 is_d. on_nil text (λ z. P (b ∷ r ∷ (xs ++ d ∷ z)))
    (let q : IsAgain text e w xs = again xs are_xs in
    let same : height q.parse ≡ w.height = q.high in record {
      parse = parses.bare_block b r q.parse d;
      is = (kind_is text b (reserved words.Begin) is_b, kind_is text r (reserved words.Return) is_r, q.is, kind_is text d (reserved words.End) is_d);
      level_is = refl;
      number_is = λ h. never h;
      high = omega arith;
      tokens_are = ap (λ z. b ∷ r ∷ (z ++ d ∷ [])) q.tokens_are;
      tree_is = unplaced-block b.from [] (tree_of text q.parse) ∙ ap (λ z. expr 0 (forms.Block [] z)) q.tree_is ∙ sym (unplaced-block at [] e);
    }) r3) r2) r1) r0)

-- there is one at least
abbrev pub HasSome : List Written → Type 0
HasSome ws = with_binds ws ≡ reserved words.With ∷ with_commas ws

pub block-again : (text : List ℕ) (at : ℕ) (bs : List Bind) (ws : List Written) (e : Expr) (w : Written) → HasSome ws → AllBoundAgain text bs ws → Again text e w
    → Again text (expr at (forms.Block bs e)) (block_written ws w)
block-again text at bs ws e w some all again ts are =
    let P : List Token → Type 0 = λ z. IsAgain text (expr at (forms.Block bs e)) (block_written ws w) z in
    let last : List Lexeme = reserved words.End ∷ [] in
    let returned : List Lexeme = reserved words.Return ∷ (w.lexemes ++ last) in
    on_cons text P (reserved words.Begin) (reserved words.With ∷ (with_commas ws ++ returned))
    (λ b r0 is_b. on_cons text (λ z. P (b ∷ z)) (reserved words.With) (with_commas ws ++ returned)
    (λ i r1 is_i. on_append text (λ z. P (b ∷ i ∷ z)) (with_commas ws) returned
    (λ xs r2 are_xs. on_cons text (λ z. P (b ∷ i ∷ (xs ++ z))) (reserved words.Return) (w.lexemes ++ last)
    (λ r r3 is_r. on_append text (λ z. P (b ∷ i ∷ (xs ++ r ∷ z))) w.lexemes last
    (λ ys r4 are_ys. on_cons text (λ z. P (b ∷ i ∷ (xs ++ r ∷ (ys ++ z)))) (reserved words.End) []
    (λ d r5 is_d. on_nil text (λ z. P (b ∷ i ∷ (xs ++ r ∷ (ys ++ d ∷ z))))
    (let p : AreBoundAgain text bs ws xs = all xs are_xs in
    let q : IsAgain text e w ys = again ys are_ys in record {
      parse = parses.block b i p.listed r q.parse d;
      is = (kind_is text b (reserved words.Begin) is_b, kind_is text i (reserved words.With) is_i, p.are, kind_is text r (reserved words.Return) is_r, q.is, kind_is text d (reserved words.End) is_d);
      level_is = refl;
      number_is = λ h. never h;
      high = ap (λ z. 1 + max z (height q.parse)) p.high ∙ ap (λ z. 1 + max (highest ws) z) q.high;
      tokens_are =
          ap (λ z. b ∷ i ∷ z) (two_parts (binding_tokens p.listed) (tokens q.parse) r (d ∷ []))
          ∙ ap (λ z. b ∷ i ∷ (z ++ r ∷ (tokens q.parse ++ d ∷ []))) p.tokens_are
          ∙ ap (λ z. b ∷ i ∷ (xs ++ r ∷ (z ++ d ∷ []))) q.tokens_are;
      tree_is =
          unplaced-block b.from (binds_of text p.listed) (tree_of text q.parse)
          ∙ ap (λ z. expr 0 (forms.Block z (unplaced (tree_of text q.parse)))) p.binds_are
          ∙ ap (λ z. expr 0 (forms.Block (map unplaced_bind bs) z)) q.tree_is
          ∙ sym (unplaced-block at bs e);
    }) r5) r4) r3) r2) r1) r0) ts
    (are ∙ ap (λ z. reserved words.Begin ∷ (z ++ returned)) some)
