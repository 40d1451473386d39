-- An expression is written with no more brackets, and no higher, than in any text of it.
use Rattle.std.proofs.Common.{◌≡◌, ℕ, ◌+◌, ◌≤◌, List, [], ◌∷◌, ◌++◌, map, refl, sym, ap, ◌∙◌, subst, Bool, true, false, nat_le, arith}
use Rattle.ny_syntax.specs.declared.token.Token.{Token}
use Rattle.ny_syntax.specs.declared.token.TokenKind.{TokenKind}
use Rattle.ny_syntax.specs.declared.token.TokenKind.TheVariants as kinds
use Rattle.ny_syntax.specs.declared.token.Mark.TheVariants as marks
use Rattle.ny_syntax.specs.declared.tree.BinOp.{BinOp}
use Rattle.ny_syntax.specs.declared.tree.BinOp.TheVariants as ops
use Rattle.ny_syntax.specs.declared.tree.PreOp.{PreOp}
use Rattle.ny_syntax.specs.declared.tree.PreOp.TheVariants as before
use Rattle.ny_syntax.specs.declared.token.Word.TheVariants as words
use Rattle.ny_syntax.specs.Levels.{level_of, prefix_level, left_least, right_least, operator_of, prefix_of}
use Rattle.ny_syntax.specs.Grammar.{Parse, number, name, grouped, prefixed, binary, bare_call, call, conditional, bare_block, block, Arguments, argument, arguments, Bindings, binding, bindings, tokens, argument_tokens, binding_tokens, height, highest_argument, highest_binding, level, IsRight, IsParse, AreArguments, AreBindings, name_of, tree_of, trees_of, binds_of}
use Rattle.ny_syntax.specs.Spelled.{Lexeme, sign, reserved}
use Rattle.ny_syntax.specs.Canonical.{mark_of, prefix_mark, operator_kind, Written, bracketed, highest, separated, with_commas, with_binds, written, written_bind, left_fits, right_fits, left_written, right_written, prefixed_written, open_count, opens, opens_written}
use Rattle.ny_syntax.proofs.Operators.{operator_kind-back, le-true}
use Rattle.ny_syntax.proofs.WrittenEquations.{written-number, written-name, written-call, written-if, written-block, written-binary, written-prefix}
use Rattle.ny_syntax.proofs.CanonicalParse.{rewritten, number-rewritten, bind-written, some-arguments, some-binds, has-binds}

-- no pair of brackets is outermost
abbrev IsBare : Parse → Type 0
IsBare (grouped o p c) = ⊥
IsBare p = Unit {0}

same-level : (text : List ℕ) (p : Parse) → IsParse p → IsBare p → (rewritten text p).level ≡ level p
same-level text (number t v) is bare = ap (λ w. w.level) (written-number t.from v)
same-level text (name t) is bare = ap (λ w. w.level) (written-name t.from (name_of text t))
same-level text (grouped o p c) is bare = absurd bare
same-level text (prefixed m p) is bare = ap (λ w. w.level) (written-prefix m.from (prefix_of m.kind) (tree_of text p))
same-level text (binary a op b) (low, isa, below, isb, right) bare =
    ap (λ w. w.level) (written-binary op.from (operator_of op.kind) (tree_of text a) (tree_of text b)) ∙ ap level_of (operator_kind-back op.kind low)
same-level text (bare_call t o c) is bare = ap (λ w. w.level) (written-call t.from (name_of text t) [])
same-level text (call t o es c) is bare = ap (λ w. w.level) (written-call t.from (name_of text t) (trees_of text es))
same-level text (conditional i o p c q d r e) is bare = ap (λ w. w.level) (written-if i.from (tree_of text p) (tree_of text q) (tree_of text r))
same-level text (bare_block b r p e) is bare = ap (λ w. w.level) (written-block b.from [] (tree_of text p))
same-level text (block b w bs r p e) is bare = ap (λ z. z.level) (written-block b.from (binds_of text bs) (tree_of text p))

-- what stands in its place without brackets is written without
left-holds : (text : List ℕ) (op : BinOp) (p : Parse) → IsParse p → left_least (operator_kind op) ≤ level p → IsBare p → left_fits op (rewritten text p) ≡ true
left-holds text op p is low bare = le-true _ _ (subst (λ n. left_least (operator_kind op) ≤ n) (sym (same-level text p is bare)) low)

prefixed-holds : (text : List ℕ) (p : Parse) → IsParse p → prefix_level ≤ level p → IsBare p → nat_le prefix_level (rewritten text p).level ≡ true
prefixed-holds text p is low bare = le-true _ _ (subst (λ n. prefix_level ≤ n) (sym (same-level text p is bare)) low)

right-holds : (text : List ℕ) (op : BinOp) (p : Parse) → IsParse p → IsRight (operator_kind op) p → IsBare p → right_fits op (rewritten text p) ≡ true
right-holds text ops.Div p is right bare = number-rewritten text p right
right-holds text op p is right bare = le-true _ _ (subst (λ n. right_least (operator_kind op) ≤ n) (sym (same-level text p is bare)) right)

-- ---- counting

pub opens-append : (xs ys : List Token) → opens (xs ++ ys) ≡ opens xs + opens ys
opens-append [] ys = omega arith
opens-append (x ∷ xs) ys = omega (arith, opens-append xs ys)

pub opens_written-append : (xs ys : List Lexeme) → opens_written (xs ++ ys) ≡ opens_written xs + opens_written ys
opens_written-append [] ys = omega arith
opens_written-append (x ∷ xs) ys = omega (arith, opens_written-append xs ys)

-- the brackets and the height of a parse tree but for an outermost pair
abbrev inner_opens : Parse → ℕ
inner_opens (grouped o p c) = opens (tokens p)
inner_opens p = opens (tokens p)

abbrev inner_height : Parse → ℕ
inner_height (grouped o p c) = height p
inner_height p = height p

pub record IsFewest (w : Written) (p : Parse) : Type 0 where
  pub few : opens_written w.lexemes ≤ inner_opens p
  pub low : w.height ≤ inner_height p

-- what is written in its place
pub record InPlace (w : Written) (p : Parse) : Type 0 where
  pub few : opens_written w.lexemes ≤ opens (tokens p)
  pub low : w.height ≤ height p

plain-place : (w v : Written) (fits : Bool) (p : Parse) → fits ≡ true → opens_written w.lexemes ≤ opens (tokens p) → w.height ≤ height p → InPlace (bracketed fits w) p
plain-place w v true p is few low = record { few = few; low = low }
plain-place w v false p is few low = absurd (cc)

pub opened : (kind : TokenKind) → kind ≡ kinds.Sign marks.Open → open_count kind ≡ 1
opened kind is = ap open_count is

grouped-place : (w : Written) (fits : Bool) (o : Token) (p : Parse) (c : Token) → o.kind ≡ kinds.Sign marks.Open → opens_written w.lexemes ≤ opens (tokens p) → w.height ≤ height p → InPlace (bracketed fits w) (grouped o p c)
grouped-place w true o p c is few low = record { few = omega (arith, opens-append (tokens p) (c ∷ []), few); low = omega (arith, low) }
grouped-place w false o p c is few low = record {
  few = omega (arith, opened o.kind is, opens-append (tokens p) (c ∷ []), opens_written-append w.lexemes (sign marks.Close ∷ []), few);
  low = omega (arith, low);
}

-- a pair is added only where the text has one
place-of : (w : Written) (fits : Bool) (p : Parse) → IsParse p → (IsBare p → fits ≡ true) → IsFewest w p → InPlace (bracketed fits w) p
place-of w fits (grouped o p c) (opens_it, is, closes) holds f = grouped-place w fits o p c opens_it f.few f.low
place-of w fits (number t v) is holds f = plain-place w w fits (number t v) (holds tt) f.few f.low
place-of w fits (name t) is holds f = plain-place w w fits (name t) (holds tt) f.few f.low
place-of w fits (prefixed m p) is holds f = plain-place w w fits (prefixed m p) (holds tt) f.few f.low
place-of w fits (binary a op b) is holds f = plain-place w w fits (binary a op b) (holds tt) f.few f.low
place-of w fits (bare_call t o c) is holds f = plain-place w w fits (bare_call t o c) (holds tt) f.few f.low
place-of w fits (call t o es c) is holds f = plain-place w w fits (call t o es c) (holds tt) f.few f.low
place-of w fits (conditional i o p c q d r e) is holds f = plain-place w w fits (conditional i o p c q d r e) (holds tt) f.few f.low
place-of w fits (bare_block b r p e) is holds f = plain-place w w fits (bare_block b r p e) (holds tt) f.few f.low
place-of w fits (block b i bs r p e) is holds f = plain-place w w fits (block b i bs r p e) (holds tt) f.few f.low

-- where any expression may stand
pub anywhere : (w : Written) (p : Parse) → IsParse p → IsFewest w p → InPlace w p
anywhere w p is f = place-of w true p is (λ bare. refl) f

-- arguments or binds
record AreFewest (ws : List Written) (ts : List Token) (high : ℕ) : Type 0 where
  few : opens_written (with_commas ws) ≤ opens ts
  low : highest ws ≤ high

operator-closed : (op : BinOp) → open_count (operator_kind op) ≡ 0
operator-closed ops.Or = refl
operator-closed op = refl

prefix-closed : (op : PreOp) → open_count (sign (prefix_mark op)).kind ≡ 0
prefix-closed before.Minus = refl
prefix-closed before.Not = refl

mutual
  pub fewest : (text : List ℕ) (p : Parse) → IsParse p → IsFewest (rewritten text p) p
  fewest text (number t v) is = subst (λ w. IsFewest w (number t v)) (sym (written-number t.from v)) (record { few = omega arith; low = omega arith })
  fewest text (name t) is = subst (λ w. IsFewest w (name t)) (sym (written-name t.from (name_of text t))) (record { few = omega arith; low = omega arith })
  fewest text (grouped o p c) (opens_it, is, closes) = let q = anywhere (rewritten text p) p is (fewest text p is) in record { few = q.few; low = q.low }
  fewest text (prefixed m p) (minus, is, tight) =
      let w : Written = rewritten text p in
      let q : InPlace (prefixed_written w) p = place-of w (nat_le prefix_level w.level) p is (prefixed-holds text p is tight) (fewest text p is) in
      let few : opens_written (prefixed_written w).lexemes ≤ opens (tokens p) = q.few in
      let low : (prefixed_written w).height ≤ height p = q.low in
      subst (λ z. IsFewest z (prefixed m p)) (sym (written-prefix m.from (prefix_of m.kind) (tree_of text p)))
      (record { few = omega (arith, few, prefix-closed (prefix_of m.kind)); low = omega (arith, low) })
  fewest text (binary a op b) (low, isa, below, isb, right) =
      let o : BinOp = operator_of op.kind in
      let wa : Written = rewritten text a in
      let wb : Written = rewritten text b in
      let kind : op.kind ≡ operator_kind o = sym (operator_kind-back op.kind low) in
      let below' : left_least (operator_kind o) ≤ level a = subst (λ k. left_least k ≤ level a) kind below in
      let right' : IsRight (operator_kind o) b = subst (λ k. IsRight k b) kind right in
      let p : InPlace (left_written o wa) a = place-of wa (left_fits o wa) a isa (left-holds text o a isa below') (fewest text a isa) in
      let q : InPlace (right_written o wb) b = place-of wb (right_fits o wb) b isb (right-holds text o b isb right') (fewest text b isb) in
      let few_a : opens_written (left_written o wa).lexemes ≤ opens (tokens a) = p.few in
      let few_b : opens_written (right_written o wb).lexemes ≤ opens (tokens b) = q.few in
      let low_a : (left_written o wa).height ≤ height a = p.low in
      let low_b : (right_written o wb).height ≤ height b = q.low in
      subst (λ z. IsFewest z (binary a op b)) (sym (written-binary op.from o (tree_of text a) (tree_of text b)))
      (record {
        few = omega (arith, opens_written-append (left_written o wa).lexemes (sign (mark_of o) ∷ (right_written o wb).lexemes), opens-append (tokens a) (op ∷ tokens b), few_a, few_b, operator-closed o);
        low = omega (arith, low_a, low_b);
      })
  fewest text (bare_call t o c) (named, opens_it, closes) =
      subst (λ z. IsFewest z (bare_call t o c)) (sym (written-call t.from (name_of text t) [])) (record { few = omega (arith, opened o.kind opens_it); low = omega arith })
  fewest text (call t o es c) (named, opens_it, are, closes) =
      let ws : List Written = map written (trees_of text es) in
      let q : AreFewest ws (argument_tokens es) (highest_argument es) = arguments-fewest text es are in
      let few : opens_written (with_commas ws) ≤ opens (argument_tokens es) = q.few in
      let low : highest ws ≤ highest_argument es = q.low in
      subst (λ z. IsFewest z (call t o es c)) (sym (written-call t.from (name_of text t) (trees_of text es)))
      (record {
        few = omega (arith, opened o.kind opens_it, opens_written-append (with_commas ws) (sign marks.Close ∷ []), opens-append (argument_tokens es) (c ∷ []), few);
        low = omega (arith, low);
      })
  fewest text (conditional i o p c q d r e) (is_if, opens_it, isp, comma, isq, comma2, isr, closes) =
      let wp : Written = rewritten text p in
      let wq : Written = rewritten text q in
      let wr : Written = rewritten text r in
      let fp = anywhere wp p isp (fewest text p isp) in
      let fq = anywhere wq q isq (fewest text q isq) in
      let fr = anywhere wr r isr (fewest text r isr) in
      let few_p : opens_written wp.lexemes ≤ opens (tokens p) = fp.few in
      let few_q : opens_written wq.lexemes ≤ opens (tokens q) = fq.few in
      let few_r : opens_written wr.lexemes ≤ opens (tokens r) = fr.few in
      let low_p : wp.height ≤ height p = fp.low in
      let low_q : wq.height ≤ height q = fq.low in
      let low_r : wr.height ≤ height r = fr.low in
      subst (λ z. IsFewest z (conditional i o p c q d r e)) (sym (written-if i.from (tree_of text p) (tree_of text q) (tree_of text r)))
      (record {
        few = omega (
          arith,
          opened o.kind opens_it,
          opens_written-append wp.lexemes (sign marks.Comma ∷ (wq.lexemes ++ sign marks.Comma ∷ (wr.lexemes ++ sign marks.Close ∷ []))),
          opens_written-append wq.lexemes (sign marks.Comma ∷ (wr.lexemes ++ sign marks.Close ∷ [])),
          opens_written-append wr.lexemes (sign marks.Close ∷ []),
          opens-append (((tokens p) ++ c ∷ tokens q) ++ d ∷ tokens r) (e ∷ []),
          opens-append ((tokens p) ++ c ∷ tokens q) (d ∷ tokens r),
          opens-append (tokens p) (c ∷ tokens q),
          few_p,
          few_q,
          few_r,
        );
        low = omega (arith, low_p, low_q, low_r);
      })
  fewest text (bare_block b r p e) (begins, returns, is, ends) =
      let w : Written = rewritten text p in
      let q = anywhere w p is (fewest text p is) in
      let few : opens_written w.lexemes ≤ opens (tokens p) = q.few in
      let low : w.height ≤ height p = q.low in
      subst (λ z. IsFewest z (bare_block b r p e)) (sym (written-block b.from [] (tree_of text p)))
      (record {
        few = omega (arith, opens_written-append w.lexemes (reserved words.End ∷ []), opens-append (tokens p) (e ∷ []), few);
        low = omega (arith, low);
      })
  fewest text (block b i bs r p e) (begins, withs, are, returns, is, ends) =
      let ws : List Written = map written_bind (binds_of text bs) in
      let w : Written = rewritten text p in
      let f : AreFewest ws (binding_tokens bs) (highest_binding bs) = bindings-fewest text bs are in
      let q = anywhere w p is (fewest text p is) in
      let few_bs : opens_written (with_commas ws) ≤ opens (binding_tokens bs) = f.few in
      let low_bs : highest ws ≤ highest_binding bs = f.low in
      let few : opens_written w.lexemes ≤ opens (tokens p) = q.few in
      let low : w.height ≤ height p = q.low in
      let some : opens_written (with_binds ws) ≡ opens_written (reserved words.With ∷ with_commas ws) = ap opens_written (has-binds text bs) in
      subst (λ z. IsFewest z (block b i bs r p e)) (sym (written-block b.from (binds_of text bs) (tree_of text p)))
      (record {
        few = omega (
          arith,
          opens_written-append (with_binds ws) (reserved words.Return ∷ (w.lexemes ++ reserved words.End ∷ [])),
          opens_written-append w.lexemes (reserved words.End ∷ []),
          opens-append (binding_tokens bs ++ r ∷ tokens p) (e ∷ []),
          opens-append (binding_tokens bs) (r ∷ tokens p),
          some,
          few_bs,
          few,
        );
        low = omega (arith, low_bs, low);
      })

  arguments-fewest : (text : List ℕ) (es : Arguments) → AreArguments es → AreFewest (map written (trees_of text es)) (argument_tokens es) (highest_argument es)
  arguments-fewest text (argument p) is =
      let w : Written = rewritten text p in
      let q = anywhere w p is (fewest text p is) in
      let few : opens_written w.lexemes ≤ opens (tokens p) = q.few in
      let low : w.height ≤ height p = q.low in
      record { few = omega (arith, opens_written-append w.lexemes [], few); low = omega (arith, low) }
  arguments-fewest text (arguments p comma es) (is, kind, are) =
      let w : Written = rewritten text p in
      let ws : List Written = map written (trees_of text es) in
      let q = anywhere w p is (fewest text p is) in
      let f = arguments-fewest text es are in
      let few : opens_written w.lexemes ≤ opens (tokens p) = q.few in
      let low : w.height ≤ height p = q.low in
      let few_es : opens_written (with_commas ws) ≤ opens (argument_tokens es) = f.few in
      let low_es : highest ws ≤ highest_argument es = f.low in
      let some : opens_written (separated true ws) ≡ opens_written (sign marks.Comma ∷ with_commas ws) = ap opens_written (some-arguments text es) in
      record {
        few = omega (arith, opens_written-append w.lexemes (separated true ws), opens-append (tokens p) (comma ∷ argument_tokens es), some, few, few_es);
        low = omega (arith, low, low_es);
      }

  bindings-fewest : (text : List ℕ) (bs : Bindings) → AreBindings bs → AreFewest (map written_bind (binds_of text bs)) (binding_tokens bs) (highest_binding bs)
  bindings-fewest text (binding n is p) (named, equal, isp) =
      let w : Written = rewritten text p in
      let q = anywhere w p isp (fewest text p isp) in
      let few : opens_written w.lexemes ≤ opens (tokens p) = q.few in
      let low : w.height ≤ height p = q.low in
      subst (λ z. AreFewest (z ∷ []) (binding_tokens (binding n is p)) (highest_binding (binding n is p))) (sym (bind-written text n p))
      (record { few = omega (arith, opens_written-append w.lexemes [], few); low = omega (arith, low) })
  bindings-fewest text (bindings n is p comma bs) (named, equal, isp, kind, are) =
      let w : Written = rewritten text p in
      let ws : List Written = map written_bind (binds_of text bs) in
      let q = anywhere w p isp (fewest text p isp) in
      let f = bindings-fewest text bs are in
      let few : opens_written w.lexemes ≤ opens (tokens p) = q.few in
      let low : w.height ≤ height p = q.low in
      let few_bs : opens_written (with_commas ws) ≤ opens (binding_tokens bs) = f.few in
      let low_bs : highest ws ≤ highest_binding bs = f.low in
      let some : opens_written (separated true ws) ≡ opens_written (sign marks.Comma ∷ with_commas ws) = ap opens_written (some-binds text bs) in
      subst (λ z. AreFewest (z ∷ ws) (binding_tokens (bindings n is p comma bs)) (highest_binding (bindings n is p comma bs))) (sym (bind-written text n p))
      (record {
        few = omega (arith, opens_written-append w.lexemes (separated true ws), opens-append (tokens p) (comma ∷ binding_tokens bs), some, few, few_bs);
        low = omega (arith, low, low_bs);
      })
