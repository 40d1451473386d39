-- A token after a whole expression keeps what the state stands for.
use Rattle.std.proofs.Common.{◌≡◌, ℕ, ◌+◌, ◌≤◌, min, List, [], ◌∷◌, ◌++◌, length, Bool, true, false, None, refl, ap, subst, ◌∙◌, append_assoc, nat_lt, nat_le, ◌&&◌, if◌then◌else◌, arith}
use Rattle.std.proofs.lemmas.Bool.Decides.{nat_tests}
use Rattle.ny_syntax.specs.declared.token.Token.{Token}
use Rattle.ny_syntax.specs.declared.token.TokenKind.{TokenKind}
use Rattle.ny_syntax.specs.declared.token.TokenKind.TheVariants as kinds
use Rattle.ny_syntax.specs.declared.token.Mark.TheVariants as marks
use Rattle.ny_syntax.specs.declared.token.Word.TheVariants as words
use Rattle.ny_syntax.specs.declared.tree.Expr.{Expr}
use Rattle.ny_syntax.specs.declared.tree.Bind.{Bind}
use Rattle.ny_syntax.specs.declared.tree.Form.TheVariants as forms
use Rattle.ny_syntax.specs.declared.tree.Param.{Param}
use Rattle.ny_syntax.specs.declared.tree.Decl.{Decl}
use Rattle.ny_syntax.specs.declared.tree.Decl.TheVariants as decls
use Rattle.ny_syntax.specs.Levels.{level_of, left_least, right_least, operand_level, operator_of, prefix_of}
use Rattle.ny_syntax.specs.Grammar
use Rattle.ny_syntax.specs.Grammar.{Parse, Arguments, Bindings, Declaration, tokens, argument_tokens, binding_tokens, declaration_tokens, height, highest_argument, highest_binding, declaration_height, height_limit, level, IsBlock, IsParse, AreArguments, AreBindings, IsDeclaration, tree_of, trees_of, binds_of, bind_of, name_of, params_of, declaration_of, expr}
use Rattle.ny_parse.specs.declared.frame.Label.{Label}
use Rattle.ny_parse.specs.declared.frame.Measured.{Measured}
use Rattle.ny_parse.specs.declared.frame.Frame.{Frame}
use Rattle.ny_parse.specs.declared.frame.Frame.TheVariants as frames
use Rattle.ny_parse.specs.declared.state.State.TheVariants as states
use Rattle.ny_parse.specs.Nodes.{named_of, prefixed_of, binary_of, block_of}
use Rattle.ny_parse.specs.Reading.{goes, settled, operator_taken, operator_next, group_next, argument_next, test_next, chosen_next, otherwise_next, value_next, block_next, returned_next, closed, close_next, whole_next, named_next}
use Rattle.ny_parse.proofs.Lists.{after, conditional-joined}
use Rattle.ny_parse.proofs.Partial.{Reads, HasDecls, HasHead, Holds, IsWhole, Stands, Keeps, least, is_over}
use Rattle.ny_parse.proofs.Small.{height-positive, least-bound, holds-some, deeper-keeps, right-fits, with_declaration}
use Rattle.ny_parse.proofs.DeclarationsKeep.{outside-keeps}
use Rattle.ny_parse.proofs.OperandsKeep.{some_opened}

-- an expression becomes a part of the one round it
pub binary-whole : (text : List ℕ) (a : Measured) (op : Token) (x : Measured) (k : List Frame) (ds : List Decl) (used : List Token) → IsWhole text x (frames.Right a op ∷ k) ds used
    → IsWhole text (binary_of a op x) k ds used
binary-whole text a op x k ds used (mid, q, (before, p, holds, takes, (isp, treep, highp, lvp), low, over, leastk, left, room, eq), tt2, (isq, treeq, highq, lvq), bound, leastq, eq2) =
    let some = holds-some text ds k before holds in
    let p1 = height-positive p in
    let q1 = height-positive q in (
      before,
      Grammar.binary p op q,
      holds,
      takes,
      (
        (low, isp, left, isq, right-fits op.kind q over leastq),
        ap (λ e. expr op.from (forms.Binary (operator_of op.kind) e (tree_of text q))) treep ∙ ap (λ e. expr op.from (forms.Binary (operator_of op.kind) a.expr e)) treeq,
        omega arith,
        refl,
      ),
      omega arith,
      leastk,
      rw (eq2, eq) (simp append_assoc refl),
    )

pub prefixed-whole : (text : List ℕ) (m : Token) (x : Measured) (k : List Frame) (ds : List Decl) (used : List Token) → IsWhole text x (frames.Prefix m ∷ k) ds used
    → IsWhole text (prefixed_of m x) k ds used
prefixed-whole text m x k ds used (mid, q, (before, holds, takes, sign, eq), tt2, (isq, treeq, highq, lvq), bound, leastq, eq2) =
    let some = holds-some text ds k before holds in (
      before,
      Grammar.prefixed m q,
      holds,
      takes,
      ((sign, isq, leastq), ap (λ e. expr m.from (forms.Prefix (prefix_of m.kind) e)) treeq, omega arith, refl),
      omega arith,
      omega (arith, least-bound k),
      rw (eq2, eq) (simp append_assoc refl),
    )

pub settled-whole : (text : List ℕ) (next : ℕ) (x : Measured) (k : List Frame) (ds : List Decl) (used : List Token) → IsWhole text x k ds used
    → IsWhole text (settled next x k).0 (settled next x k).1 ds used
unfolding settled
settled-whole text next x [] ds used (before, q, holds, takes, reads, bound, leastq, eq) = absurd holds
settled-whole text next x (frames.Right a op ∷ k) ds used whole =
    by_case (nat_lt next (right_least op.kind)) (settled-whole text next (binary_of a op x) k ds used (binary-whole text a op x k ds used whole))
  where
    by_case : (b : Bool) → IsWhole text (settled next (binary_of a op x) k).0 (settled next (binary_of a op x) k).1 ds used
        → IsWhole text (if b then settled next (binary_of a op x) k else (x, frames.Right a op ∷ k)).0 (if b then settled next (binary_of a op x) k else (x, frames.Right a op ∷ k)).1 ds used
    by_case true h = h
    by_case false h = whole
settled-whole text next x (frames.Prefix m ∷ k) ds used whole = settled-whole text next (prefixed_of m x) k ds used (prefixed-whole text m x k ds used whole)
settled-whole text next x (frame ∷ k) ds used whole = whole

pub settled-least : (next : ℕ) (x : Measured) (k : List Frame) → least (settled next x k).1 ≤ next
unfolding settled
settled-least next x [] = omega arith
settled-least next x (frames.Right a op ∷ k) = by_case (nat_lt next (right_least op.kind)) refl (settled-least next (binary_of a op x) k)
  where
    by_case : (b : Bool) → nat_lt next (right_least op.kind) ≡ b → least (settled next (binary_of a op x) k).1 ≤ next
        → least (if b then settled next (binary_of a op x) k else (x, frames.Right a op ∷ k)).1 ≤ next
    by_case true e h = h
    by_case false e h = grind (arith, nat_tests)
settled-least next x (frames.Prefix m ∷ k) = settled-least next (prefixed_of m x) k
settled-least next x (frame ∷ k) = omega arith

-- an operator
taken-keeps : (text : List ℕ) (kind : TokenKind) (t : Token) (x : Measured) (k : List Frame) (ds : List Decl) (used : List Token) → t.kind ≡ kind → IsWhole text x k ds used
    → 1 ≤ level_of t.kind → least k ≤ level_of t.kind → left_least t.kind ≤ x.level → length k ≤ x.spare → Keeps text (used ++ t ∷ []) (operator_taken kind t x k ds)
taken-keeps text (kinds.Sign marks.Over) t x k ds used e (before, p, holds, takes, (is, tree, high, lv), bound, leastp, eq) one_up low left fits =
    (before, p, holds, takes, (is, tree, high, lv), e, low, rw lv left, omega arith, after used before (tokens p) t eq ∙ refl)
taken-keeps text _ t x k ds used e (before, p, holds, takes, (is, tree, high, lv), bound, leastp, eq) one_up low left fits =
    ((before, p, holds, takes, (is, tree, high, lv), one_up, ap is_over e, low, rw lv left, omega arith, after used before (tokens p) t eq), tt, omega (arith, height-positive p))

pub operator-keeps : (text : List ℕ) (t : Token) (x : Measured) (k : List Frame) (ds : List Decl) (used : List Token) → IsWhole text x k ds used
    → 1 ≤ level_of t.kind → least k ≤ level_of t.kind → Keeps text (used ++ t ∷ []) (operator_next t x k ds)
unfolding operator_next
operator-keeps text t x k ds used whole one_up low = by_case (nat_le (left_least t.kind) x.level) (nat_le (length k) x.spare) refl refl
  where
    by_case : (a b : Bool) → nat_le (left_least t.kind) x.level ≡ a → nat_le (length k) x.spare ≡ b → Keeps text (used ++ t ∷ []) (if a && b then operator_taken t.kind t x k ds else None)
    by_case true true ea eb = taken-keeps text t.kind t x k ds used refl whole one_up low (grind (arith, nat_tests)) (grind (arith, nat_tests))
    by_case true false ea eb = tt
    by_case false b ea eb = tt

-- what is closed
pub group-keeps : (text : List ℕ) (kind : TokenKind) (t : Token) (x : Measured) (k : List Frame) (ds : List Decl) (used : List Token) → t.kind ≡ kind → IsWhole text x (frames.Group ∷ k) ds used
    → Keeps text (used ++ t ∷ []) (group_next kind x k ds)
unfolding group_next
group-keeps text (kinds.Sign marks.Close) t x k ds used e (mid, q, (before, o, holds, takes, ok, eq), tt2, (isq, treeq, highq, lvq), bound, leastq, eq2) =
    let some = holds-some text ds k before holds in
    (before, Grammar.grouped o q t, holds, takes, ((ok, isq, e), treeq, omega arith, refl), omega arith, omega (arith, least-bound k), rw (eq2, eq) (simp append_assoc refl))
group-keeps text _ t x k ds used e whole = tt

pub argument-keeps : (text : List ℕ) (kind : TokenKind) (t : Token) (l : Label) (es : List Expr) (spare : ℕ) (x : Measured) (k : List Frame) (ds : List Decl) (used : List Token) → t.kind ≡ kind
    → IsWhole text x (frames.Argument l es spare ∷ k) ds used → Keeps text (used ++ t ∷ []) (argument_next kind l (es ++ x.expr ∷ []) (min spare x.spare) k ds)
unfolding argument_next
argument-keeps text (kinds.Sign marks.Comma) t l es spare x k ds used e
    (mid, q, (before, n, o, head, holds, takes, label, ok, (build, limit, are, tk, of, high), fits, eq), tt2, (isq, treeq, highq, lvq), bound, leastq, eq2) = (
      (
        before,
        n,
        o,
        head ++ tokens q ++ t ∷ [],
        holds,
        takes,
        label,
        ok,
        (
          λ more. build (Grammar.arguments q t more),
          omega arith,
          λ more ares. are (Grammar.arguments q t more) (isq, e, ares),
          λ more. tk (Grammar.arguments q t more) ∙ simp append_assoc refl,
          λ more. of (Grammar.arguments q t more) ∙ ap (λ y. es ++ y ∷ trees_of text more) treeq ∙ simp append_assoc refl,
          λ more. high (Grammar.arguments q t more) ∙ omega arith,
        ),
        omega arith,
        rw (eq2, eq) (simp append_assoc refl),
      ),
      tt,
      omega (arith, height-positive q),
    )
argument-keeps text (kinds.Sign marks.Close) t l es spare x k ds used e
    (mid, q, (before, n, o, head, holds, takes, (named, label), ok, (build, limit, are, tk, of, high), fits, eq), tt2, (isq, treeq, highq, lvq), bound, leastq, eq2) =
    let some = holds-some text ds k before holds in
    let q1 = height-positive q in
    let h = high (Grammar.argument q) in (
      before,
      Grammar.call n o (build (Grammar.argument q)) t,
      holds,
      takes,
      (
        (named, ok, are (Grammar.argument q) isq, e),
        ap (λ m. expr m.at (forms.Call m.name (trees_of text (build (Grammar.argument q))))) label
            ∙ ap (λ y. expr l.at (forms.Call l.name y)) (of (Grammar.argument q) ∙ ap (λ y. es ++ y ∷ []) treeq),
        omega arith,
        refl,
      ),
      omega arith,
      omega (arith, least-bound k),
      rw (eq2, eq, tk (Grammar.argument q)) (simp append_assoc refl),
    )
argument-keeps text _ t l es spare x k ds used e whole = tt

pub test-keeps : (text : List ℕ) (kind : TokenKind) (t i : Token) (x : Measured) (k : List Frame) (ds : List Decl) (used : List Token) → t.kind ≡ kind → IsWhole text x (frames.Test i ∷ k) ds used
    → Keeps text (used ++ t ∷ []) (test_next kind i x k ds)
unfolding test_next
test-keeps text (kinds.Sign marks.Comma) t i x k ds used e (mid, q, (before, o, holds, takes, ik, ok, eq), tt2, reads, bound, leastq, eq2) =
    ((before, o, q, t, holds, takes, ik, ok, reads, e, omega arith, rw (eq2, eq) (simp append_assoc refl)), tt, omega (arith, height-positive q))
test-keeps text _ t i x k ds used e whole = tt

pub chosen-keeps : (text : List ℕ) (kind : TokenKind) (t i : Token) (a x : Measured) (k : List Frame) (ds : List Decl) (used : List Token) → t.kind ≡ kind → IsWhole text x (frames.Chosen i a ∷ k) ds used
    → Keeps text (used ++ t ∷ []) (chosen_next kind i a x k ds)
unfolding chosen_next
chosen-keeps text (kinds.Sign marks.Comma) t i a x k ds used e (mid, q, (before, o, p, c, holds, takes, ik, ok, readp, ck, roomp, eq), tt2, reads, bound, leastq, eq2) =
    ((before, o, p, c, q, t, holds, takes, ik, ok, readp, ck, roomp, reads, e, omega arith, rw (eq2, eq) (simp append_assoc refl)), tt, omega (arith, height-positive q))
chosen-keeps text _ t i a x k ds used e whole = tt

pub otherwise-keeps : (text : List ℕ) (kind : TokenKind) (t i : Token) (a b x : Measured) (k : List Frame) (ds : List Decl) (used : List Token) → t.kind ≡ kind
    → IsWhole text x (frames.Otherwise i a b ∷ k) ds used → Keeps text (used ++ t ∷ []) (otherwise_next kind i a b x k ds)
unfolding otherwise_next
otherwise-keeps text (kinds.Sign marks.Close) t i a b x k ds used e
    (mid, r, (before, o, p, c, q, d, holds, takes, ik, ok, (isp, treep, highp, lvp), ck, roomp, (isq, treeq, highq, lvq), dk, roomq, eq), tt2, (isr, treer, highr, lvr), bound, leastr, eq2) =
    let some = holds-some text ds k before holds in (
      before,
      Grammar.conditional i o p c q d r t,
      holds,
      takes,
      (
        (ik, ok, isp, ck, isq, dk, isr, e),
        ap (λ y. expr i.from (forms.If y (tree_of text q) (tree_of text r))) treep ∙ ap (λ y. expr i.from (forms.If a.expr y (tree_of text r))) treeq
            ∙ ap (λ y. expr i.from (forms.If a.expr b.expr y)) treer,
        omega arith,
        refl,
      ),
      omega arith,
      omega (arith, least-bound k),
      conditional-joined used mid before (tokens p) (tokens q) (tokens r) i o c d t eq eq2,
    )
otherwise-keeps text _ t i a b x k ds used e whole = tt

pub value-keeps : (text : List ℕ) (kind : TokenKind) (t b : Token) (bs : List Bind) (spare : ℕ) (l : Label) (x : Measured) (k : List Frame) (ds : List Decl) (used : List Token) → t.kind ≡ kind
    → IsWhole text x (frames.Value b bs spare l ∷ k) ds used
    → Keeps text (used ++ t ∷ []) (value_next kind b (bs ++ record { at = l.at; name = l.name; value = x.expr } ∷ []) (min spare x.spare) k ds)
unfolding value_next
value-keeps text (kinds.Sign marks.Comma) t b bs spare l x k ds used e
    (mid, q, (before, w, head, n, is, holds, bk, wk, (build, limit, are, tk, of, high), (named, label), ek, fits, eq), tt2, (isq, treeq, highq, lvq), bound, leastq, eq2) = (
      before,
      w,
      head ++ (n ∷ is ∷ tokens q ++ t ∷ []),
      holds,
      omega (arith, height-positive q),
      bk,
      wk,
      (
        λ more. build (Grammar.bindings n is q t more),
        omega arith,
        λ more ares. are (Grammar.bindings n is q t more) (named, ek, isq, e, ares),
        λ more. tk (Grammar.bindings n is q t more) ∙ simp append_assoc refl,
        λ more. of (Grammar.bindings n is q t more) ∙ ap (λ m. bs ++ record { at = m.at; name = m.name; value = tree_of text q } ∷ binds_of text more) label
            ∙ ap (λ y. bs ++ record { at = l.at; name = l.name; value = y } ∷ binds_of text more) treeq ∙ simp append_assoc refl,
        λ more. high (Grammar.bindings n is q t more) ∙ omega arith,
      ),
      omega arith,
      rw (eq2, eq) (simp append_assoc refl),
    )
value-keeps text (kinds.Reserved words.Return) t b bs spare l x k ds used e
    (mid, q, (before, w, head, n, is, holds, bk, wk, (build, limit, are, tk, of, high), (named, label), ek, fits, eq), tt2, (isq, treeq, highq, lvq), bound, leastq, eq2) = (
      (
        before,
        b ∷ w ∷ binding_tokens (build (Grammar.binding n is q)) ++ t ∷ [],
        holds,
        some_opened text b w (bs ++ record { at = l.at; name = l.name; value = x.expr } ∷ []) (build (Grammar.binding n is q)) (min spare x.spare) t bk wk (are (Grammar.binding n is q) (named, ek, isq))
            (of (Grammar.binding n is q) ∙ ap (λ m. bs ++ record { at = m.at; name = m.name; value = tree_of text q } ∷ []) label ∙ ap (λ y. bs ++ record { at = l.at; name = l.name; value = y } ∷ []) treeq)
            (omega arith) (high (Grammar.binding n is q) ∙ omega arith) e,
        omega arith,
        rw (eq2, eq, tk (Grammar.binding n is q)) (simp append_assoc refl),
      ),
      tt,
      omega (arith, height-positive q),
    )
value-keeps text _ t b bs spare l x k ds used e whole = tt

-- a function that is a head and this body
function-decls : (text : List ℕ) (ds : List Decl) (l : Label) (ps : List Param) (before used : List Token) (body : Grammar.Body) (e : Expr) → HasHead text ds l ps before → Grammar.IsBody body
    → Grammar.body_height body ≤ height_limit → Grammar.body_of text body ≡ e → used ≡ before ++ Grammar.body_tokens body → HasDecls text (ds ++ decls.Function l.at l.name ps e ∷ []) used
function-decls text ds l ps before used body e (b1, c, (b2, all, (b3, d, f, n, o, has, dk, fk, (named, label), ok, eq3), are, of, eq2), ck, eq1) is low tree eq =
    subst (λ y. HasDecls text (ds ++ y ∷ []) used)
    (ap (λ m. decls.Function m.at m.name (params_of text all) (Grammar.body_of text body)) label ∙ ap (λ y. decls.Function l.at l.name y (Grammar.body_of text body)) of
    ∙ ap (λ y. decls.Function l.at l.name ps y) tree)
    (with_declaration text ds b3 used (Grammar.function d f n o all c body) has (dk, fk, named, ok, are, ck, is) low (rw (eq, eq1, eq2, eq3) (simp append_assoc refl)))

pub variable-decls : (text : List ℕ) (ds : List Decl) (l : Label) (k : List Frame) (x : Measured) (used : List Token) → IsWhole text x (frames.Variable l ∷ k) ds used
    → (k ≡ []) × HasDecls text (ds ++ decls.Variable l.at l.name x.expr ∷ []) used
variable-decls text ds l k x used (mid, q, (none, before, d, v, n, is, has, dk, vk, (named, label), ek, eq), tt2, (isq, treeq, highq, lvq), bound, leastq, eq2) = (
  none,
  subst (λ y. HasDecls text (ds ++ y ∷ []) used) (ap (λ m. decls.Variable m.at m.name (tree_of text q)) label ∙ ap (λ y. decls.Variable l.at l.name y) treeq)
      (with_declaration text ds before used (Grammar.variable d v n is q) has (dk, vk, named, ek, isq) (omega arith) (rw (eq2, eq) (simp append_assoc refl))),
)

pub returned-decls : (text : List ℕ) (ds : List Decl) (l : Label) (ps : List Param) (k : List Frame) (x : Measured) (used : List Token) → IsWhole text x (frames.Function l ps ∷ k) ds used
    → (k ≡ []) × HasDecls text (ds ++ decls.Function l.at l.name ps x.expr ∷ []) used
returned-decls text ds l ps k x used (mid, q, (none, before, r, head, rk, eq), tt2, (isq, treeq, highq, lvq), bound, leastq, eq2) =
    (none, function-decls text ds l ps before used (Grammar.returned r q) x.expr head (rk, isq) (omega arith) treeq (rw (eq2, eq) (simp append_assoc refl)))

-- a whole block
block-keeps : (text : List ℕ) (p : Parse) (x : Measured) (k : List Frame) (ds : List Decl) (before used : List Token) → Holds text ds k before → Reads text p x → IsBlock p → level p ≡ operand_level
    → height p + length k ≤ 1 + height_limit → used ≡ before ++ tokens p → Keeps text used (block_next x k ds)
unfolding block_next
block-keeps text p x [] ds before used holds reads is lv bound eq = absurd holds
block-keeps text p x (frames.BlockFunction l ps ∷ k) ds before used (none, head) (isp, tree, high, lvp) is lv bound eq =
    (none, function-decls text ds l ps before used (Grammar.block_body p) x.expr head (is, isp) (omega arith) tree eq)
block-keeps text p x (frames.Variable l ∷ k) ds before used holds reads is lv bound eq = (before, p, holds, tt, reads, bound, omega arith, eq)
block-keeps text p x (frames.Function l ps ∷ k) ds before used holds reads is lv bound eq = (before, p, holds, tt, reads, bound, omega arith, eq)
block-keeps text p x (frames.Play t ∷ k) ds before used holds reads is lv bound eq = (before, p, holds, tt, reads, bound, omega arith, eq)
block-keeps text p x (frame ∷ k) ds before used holds reads is lv bound eq = (before, p, holds, tt, reads, bound, omega (arith, least-bound (frame ∷ k)), eq)

pub returned-keeps : (text : List ℕ) (kind : TokenKind) (t b : Token) (bs : List Bind) (spare : ℕ) (x : Measured) (k : List Frame) (ds : List Decl) (used : List Token) → t.kind ≡ kind
    → IsWhole text x (frames.Returned b bs spare ∷ k) ds used → Keeps text (used ++ t ∷ []) (returned_next kind (block_of b bs spare x) k ds)
unfolding returned_next
returned-keeps text (kinds.Reserved words.End) t b bs spare x k ds used e
    (mid, q, (before, head, holds, (build, limit, isp, blocks, tk, of, high, lv), fits, eq), tt2, (isq, treeq, highq, lvq), bound, leastq, eq2) =
    let some = holds-some text ds k before holds in
    let q1 = height-positive q in
    let h = high q t in
    block-keeps text (build q t) (block_of b bs spare x) k ds before (used ++ t ∷ []) holds
    (isp q t isq e, of q t ∙ ap (λ y. expr b.from (forms.Block bs y)) treeq, omega arith, lv q t) (blocks q t) (lv q t) (omega arith)
    (rw (eq2, eq, tk q t) (simp append_assoc refl))
returned-keeps text _ t b bs spare x k ds used e whole = tt

pub closed-keeps : (text : List ℕ) (frame : Frame) (t : Token) (x : Measured) (k : List Frame) (ds : List Decl) (used : List Token) → IsWhole text x (frame ∷ k) ds used
    → Keeps text (used ++ t ∷ []) (closed frame t.kind t x k ds)
unfolding closed
closed-keeps text (frames.Variable l) t x k ds used whole =
    let h = variable-decls text ds l k x used whole in outside-keeps text t.kind t k (ds ++ decls.Variable l.at l.name x.expr ∷ []) used refl h.0 h.1
closed-keeps text (frames.Function l ps) t x k ds used whole =
    let h = returned-decls text ds l ps k x used whole in outside-keeps text t.kind t k (ds ++ decls.Function l.at l.name ps x.expr ∷ []) used refl h.0 h.1
closed-keeps text frames.Group t x k ds used whole = group-keeps text t.kind t x k ds used refl whole
closed-keeps text (frames.Argument l es spare) t x k ds used whole = argument-keeps text t.kind t l es spare x k ds used refl whole
closed-keeps text (frames.Test i) t x k ds used whole = test-keeps text t.kind t i x k ds used refl whole
closed-keeps text (frames.Chosen i a) t x k ds used whole = chosen-keeps text t.kind t i a x k ds used refl whole
closed-keeps text (frames.Otherwise i a b) t x k ds used whole = otherwise-keeps text t.kind t i a b x k ds used refl whole
closed-keeps text (frames.Value b bs spare l) t x k ds used whole = value-keeps text t.kind t b bs spare l x k ds used refl whole
closed-keeps text (frames.Returned b bs spare) t x k ds used whole = returned-keeps text t.kind t b bs spare x k ds used refl whole
closed-keeps text _ t x k ds used whole = tt

pub close-keeps : (text : List ℕ) (t : Token) (x : Measured) (k : List Frame) (ds : List Decl) (used : List Token) → IsWhole text x k ds used → Keeps text (used ++ t ∷ []) (close_next t x k ds)
unfolding close_next
close-keeps text t x [] ds used whole = tt
close-keeps text t x (frame ∷ k) ds used whole = closed-keeps text frame t x k ds used whole

pub whole-keeps : (text : List ℕ) (t : Token) (x : Measured) (k : List Frame) (ds : List Decl) (used : List Token) → IsWhole text x k ds used → Keeps text (used ++ t ∷ []) (whole_next t x k ds)
unfolding whole_next
whole-keeps text t x k ds used whole = by_case (nat_lt 0 (level_of t.kind)) refl
  where
    s : Measured × List Frame
    s = settled (level_of t.kind) x k

    by_case : (b : Bool) → nat_lt 0 (level_of t.kind) ≡ b → Keeps text (used ++ t ∷ []) (if b then operator_next t s.0 s.1 ds else close_next t s.0 s.1 ds)
    by_case true e =
        operator-keeps text t s.0 s.1 ds used (settled-whole text (level_of t.kind) x k ds used whole) (grind (arith, nat_tests)) (settled-least (level_of t.kind) x k)
    by_case false e = close-keeps text t s.0 s.1 ds used (settled-whole text (level_of t.kind) x k ds used whole)

pub named-whole : (text : List ℕ) (l : Label) (k : List Frame) (ds : List Decl) (used : List Token) → Stands text (states.Named l) k ds used → IsWhole text (named_of l) k ds used
named-whole text l k ds used (before, n, holds, takes, room, (named, label), eq) =
    (before, Grammar.name n, holds, takes, (named, ap (λ m. expr m.at (forms.Name m.name)) label, refl, refl), omega arith, omega (arith, least-bound k), eq)

pub named-keeps : (text : List ℕ) (kind : TokenKind) (t : Token) (l : Label) (k : List Frame) (ds : List Decl) (used : List Token) → t.kind ≡ kind → Stands text (states.Named l) k ds used
    → Keeps text (used ++ t ∷ []) (named_next kind t l k ds)
unfolding named_next
named-keeps text (kinds.Sign marks.Open) t l k ds used e (before, n, holds, takes, room, label, eq) =
    deeper-keeps text (used ++ t ∷ []) k (goes (states.CallOpen l) k ds) (λ fits. (before, n, t, holds, takes, fits, label, e, after used before (n ∷ []) t eq))
named-keeps text _ t l k ds used e stands = whole-keeps text t (named_of l) k ds used (named-whole text l k ds used stands)
