-- Each token of a canonical text is spelled in the one way, from the numbers and names of the text that the tree is of.
use Rattle.std.proofs.Common.{ℕ, List, [], ◌∷◌, ◌++◌, map, refl, sym, subst, Bool, true, false, nat_le}
use Rattle.std.specs.List.{All, Contains}
use Rattle.std.proofs.lemmas.List.Elements.{All-contains_itself}
use Rattle.ny_syntax.specs.declared.token.Token.{Token}
use Rattle.ny_syntax.specs.declared.token.Mark.TheVariants as marks
use Rattle.ny_syntax.specs.declared.token.Word.TheVariants as words
use Rattle.ny_syntax.specs.declared.tree.BinOp.{BinOp}
use Rattle.ny_syntax.specs.declared.tree.Tree.{Tree}
use Rattle.ny_syntax.specs.Levels.{prefix_level, operator_of, prefix_of}
use Rattle.ny_syntax.specs.Grammar as parses
use Rattle.ny_syntax.specs.Grammar.{Parse, grouped, prefixed, binary, bare_call, call, conditional, bare_block, block, Arguments, argument, arguments, Bindings, binding, bindings, Params, no_params, params, Body, returned, block_body, Declaration, function, variable, Play, silent, plays, Program, program, tokens, argument_tokens, binding_tokens, more_param_tokens, param_tokens, body_tokens, declaration_tokens, declarations_tokens, play_tokens, program_tokens, IsParse, AreArguments, AreBindings, AreMoreParams, AreParams, IsBody, IsDeclaration, AreDeclarations, IsPlay, IsProgram, name_of, tree_of, trees_of, binds_of, more_params_of, params_of, body_of, declaration_of, declarations_of, played_of, program_of, HasTree}
use Rattle.ny_syntax.specs.Spelled.{Lexeme, IsSpelled, sign, reserved}
use Rattle.ny_syntax.specs.Canonical.{Written, bracketed, with_commas, separated, with_binds, left_fits, right_fits, left_written, right_written, written, written_bind, separated_params, param_lexemes, declaration_lexemes, play_lines, line_tokens, canonical_lexemes}
use Rattle.ny_syntax.proofs.Each.{Each, each-append, each-front, each-back, each-of_all, all-of_each}
use Rattle.ny_syntax.proofs.WrittenEquations.{written-number, written-name, written-call, written-if, written-block, written-binary, written-prefix}
use Rattle.ny_syntax.proofs.CanonicalParse.{rewritten, bind-written, some-arguments, some-binds, has-binds}

-- the tokens are spelled so
abbrev Good : List ℕ → List Token → List Lexeme → Type 0
Good text all words = Each (IsSpelled text all) words

-- the tokens are among these
abbrev Among : List Token → List Token → Type 0
Among all ts = Each (Contains all) ts

bracketed-good : (text : List ℕ) (all : List Token) (fits : Bool) (w : Written) → Good text all w.lexemes → Good text all (bracketed fits w).lexemes
bracketed-good text all true w good = good
bracketed-good text all false w good = (refl, each-append (IsSpelled text all) w.lexemes (sign marks.Close ∷ []) good (refl, tt))

-- with a last token
ended-good : (text : List ℕ) (all : List Token) (words : List Lexeme) (last : Lexeme) → IsSpelled text all last → Good text all words → Good text all (words ++ last ∷ [])
ended-good text all words last is good = each-append (IsSpelled text all) words (last ∷ []) good (is, tt)

joined-good : (text : List ℕ) (all : List Token) (words more : List Lexeme) (between : Lexeme) → Good text all words → IsSpelled text all between → Good text all more
    → Good text all (words ++ between ∷ more)
joined-good text all words more between good is others = each-append (IsSpelled text all) words (between ∷ more) good (is, others)

mutual
  kept : (text : List ℕ) (all : List Token) (p : Parse) → IsParse p → Among all (tokens p) → Good text all (rewritten text p).lexemes
  kept text all (parses.number t v) is (t_in, none) = subst (λ w. Good text all w.lexemes) (sym (written-number t.from v)) ((t, t_in, is, refl), tt)
  kept text all (parses.name t) is (t_in, none) = subst (λ w. Good text all w.lexemes) (sym (written-name t.from (name_of text t))) ((t, t_in, is, refl), tt)
  kept text all (grouped o p c) (opens, is, closes) (o_in, among) = kept text all p is (each-front (Contains all) (tokens p) (c ∷ []) among)
  kept text all (prefixed m p) (minus, is, tight) (m_in, among) =
      let w : Written = rewritten text p in
      subst (λ z. Good text all z.lexemes) (sym (written-prefix m.from (prefix_of m.kind) (tree_of text p)))
      (refl, bracketed-good text all (nat_le prefix_level w.level) w (kept text all p is among))
  kept text all (binary a o b) (low, isa, below, isb, right) among =
      let op : BinOp = operator_of o.kind in
      let wa : Written = rewritten text a in
      let wb : Written = rewritten text b in
      let tail : Among all (o ∷ tokens b) = each-back (Contains all) (tokens a) (o ∷ tokens b) among in
      subst (λ z. Good text all z.lexemes) (sym (written-binary o.from op (tree_of text a) (tree_of text b)))
      (joined-good text all (left_written op wa).lexemes (right_written op wb).lexemes _
      (bracketed-good text all (left_fits op wa) wa (kept text all a isa (each-front (Contains all) (tokens a) (o ∷ tokens b) among))) refl
      (bracketed-good text all (right_fits op wb) wb (kept text all b isb tail.1)))
  kept text all (bare_call t o c) (named, opens, closes) (t_in, among) =
      subst (λ z. Good text all z.lexemes) (sym (written-call t.from (name_of text t) [])) ((t, t_in, named, refl), (refl, (refl, tt)))
  kept text all (call t o es c) (named, opens, are, closes) (t_in, (o_in, among)) =
      let ws : List Written = map written (trees_of text es) in
      subst (λ z. Good text all z.lexemes) (sym (written-call t.from (name_of text t) (trees_of text es)))
      ((t, t_in, named, refl), (refl, ended-good text all (with_commas ws) (sign marks.Close) refl (arguments-kept text all es are (each-front (Contains all) (argument_tokens es) (c ∷ []) among))))
  kept text all (conditional i o p c q d r e) (is_if, opens, isp, comma, isq, comma2, isr, closes) (i_in, (o_in, among)) =
      let most : List Token = ((tokens p ++ c ∷ tokens q) ++ d ∷ tokens r) in
      let among_most : Among all most = each-front (Contains all) most (e ∷ []) among in
      let among_two : Among all (tokens p ++ c ∷ tokens q) = each-front (Contains all) (tokens p ++ c ∷ tokens q) (d ∷ tokens r) among_most in
      let among_r : Among all (d ∷ tokens r) = each-back (Contains all) (tokens p ++ c ∷ tokens q) (d ∷ tokens r) among_most in
      let among_q : Among all (c ∷ tokens q) = each-back (Contains all) (tokens p) (c ∷ tokens q) among_two in
      let wp : List Lexeme = (rewritten text p).lexemes in
      let wq : List Lexeme = (rewritten text q).lexemes in
      let wr : List Lexeme = (rewritten text r).lexemes in
      let last : List Lexeme = sign marks.Close ∷ [] in
      subst (λ z. Good text all z.lexemes) (sym (written-if i.from (tree_of text p) (tree_of text q) (tree_of text r))) (
        refl,
        (
          refl,
          joined-good text all wp (wq ++ sign marks.Comma ∷ (wr ++ last)) (sign marks.Comma) (kept text all p isp (each-front (Contains all) (tokens p) (c ∷ tokens q) among_two)) refl
              (joined-good text all wq (wr ++ last) (sign marks.Comma) (kept text all q isq among_q.1) refl
              (ended-good text all wr (sign marks.Close) refl (kept text all r isr among_r.1))),
        ),
      )
  kept text all (bare_block b r p e) (begins, returns, is, ends) (b_in, (r_in, among)) =
      subst (λ z. Good text all z.lexemes) (sym (written-block b.from [] (tree_of text p)))
      (refl, (refl, ended-good text all (rewritten text p).lexemes (reserved words.End) refl (kept text all p is (each-front (Contains all) (tokens p) (e ∷ []) among))))
  kept text all (block b i bs r p e) (begins, withs, are, returns, is, ends) (b_in, (i_in, among)) =
      let ws : List Written = map written_bind (binds_of text bs) in
      let among_most : Among all (binding_tokens bs ++ r ∷ tokens p) = each-front (Contains all) (binding_tokens bs ++ r ∷ tokens p) (e ∷ []) among in
      let among_p : Among all (r ∷ tokens p) = each-back (Contains all) (binding_tokens bs) (r ∷ tokens p) among_most in
      let rest : List Lexeme = (rewritten text p).lexemes ++ reserved words.End ∷ [] in
      let good_binds : Good text all (reserved words.With ∷ with_commas ws) =
      (refl, bindings-kept text all bs are (each-front (Contains all) (binding_tokens bs) (r ∷ tokens p) among_most)) in
      subst (λ z. Good text all z.lexemes) (sym (written-block b.from (binds_of text bs) (tree_of text p))) (
        refl,
        joined-good text all (with_binds ws) rest (reserved words.Return) (subst (λ z. Good text all z) (sym (has-binds text bs)) good_binds) refl
            (ended-good text all (rewritten text p).lexemes (reserved words.End) refl (kept text all p is among_p.1)),
      )

  arguments-kept : (text : List ℕ) (all : List Token) (es : Arguments) → AreArguments es → Among all (argument_tokens es) → Good text all (with_commas (map written (trees_of text es)))
  arguments-kept text all (argument p) is among = each-append (IsSpelled text all) (rewritten text p).lexemes [] (kept text all p is among) tt
  arguments-kept text all (arguments p comma es) (is, kind, are) among =
      let ws : List Written = map written (trees_of text es) in
      let tail : Among all (comma ∷ argument_tokens es) = each-back (Contains all) (tokens p) (comma ∷ argument_tokens es) among in
      let others : Good text all (sign marks.Comma ∷ with_commas ws) = (refl, arguments-kept text all es are tail.1) in
      each-append (IsSpelled text all) (rewritten text p).lexemes (separated true ws) (kept text all p is (each-front (Contains all) (tokens p) (comma ∷ argument_tokens es) among))
      (subst (λ z. Good text all z) (sym (some-arguments text es)) others)

  bindings-kept : (text : List ℕ) (all : List Token) (bs : Bindings) → AreBindings bs → Among all (binding_tokens bs) → Good text all (with_commas (map written_bind (binds_of text bs)))
  bindings-kept text all (binding n is p) (named, equal, isp) (n_in, (is_in, among)) =
      subst (λ z. Good text all (with_commas (z ∷ []))) (sym (bind-written text n p))
      ((n, n_in, named, refl), (refl, each-append (IsSpelled text all) (rewritten text p).lexemes [] (kept text all p isp among) tt))
  bindings-kept text all (bindings n is p comma bs) (named, equal, isp, kind, are) (n_in, (is_in, among)) =
      let ws : List Written = map written_bind (binds_of text bs) in
      let tail : Among all (comma ∷ binding_tokens bs) = each-back (Contains all) (tokens p) (comma ∷ binding_tokens bs) among in
      let others : Good text all (sign marks.Comma ∷ with_commas ws) = (refl, bindings-kept text all bs are tail.1) in
      subst (λ z. Good text all (with_commas (z ∷ ws))) (sym (bind-written text n p)) (
        (n, n_in, named, refl),
        (
          refl,
          each-append (IsSpelled text all) (rewritten text p).lexemes (separated true ws) (kept text all p isp (each-front (Contains all) (tokens p) (comma ∷ binding_tokens bs) among))
              (subst (λ z. Good text all z) (sym (some-binds text bs)) others),
        ),
      )

more_params-kept : (text : List ℕ) (all : List Token) (mores : List (Token × Token)) → AreMoreParams mores → Among all (more_param_tokens mores)
    → Good text all (separated_params true (more_params_of text mores))
more_params-kept text all [] are among = tt
more_params-kept text all (more ∷ mores) (comma, named, are) (c_in, (n_in, among)) = (refl, ((more.1, n_in, named, refl), more_params-kept text all mores are among))

params-kept : (text : List ℕ) (all : List Token) (ps : Params) → AreParams ps → Among all (param_tokens ps) → Good text all (param_lexemes (params_of text ps))
params-kept text all no_params are among = tt
params-kept text all (params first mores) (named, are) (n_in, among) = ((first, n_in, named, refl), more_params-kept text all mores are among)

body-kept : (text : List ℕ) (all : List Token) (body : Body) → IsBody body → Among all (body_tokens body) → Good text all (written (body_of text body)).lexemes
body-kept text all (returned r p) (kind, is) (r_in, among) = kept text all p is among
body-kept text all (block_body p) (is_block, is) among = kept text all p is among

declaration-kept : (text : List ℕ) (all : List Token) (d : Declaration) → IsDeclaration d → Among all (declaration_tokens d) → Good text all (declaration_lexemes (declaration_of text d))
declaration-kept text all (function d f n o ps c body) (is_d, is_f, is_n, is_o, are_ps, is_c, is_body) (d_in, (f_in, (n_in, (o_in, among)))) =
    let tail : Among all (c ∷ body_tokens body) = each-back (Contains all) (param_tokens ps) (c ∷ body_tokens body) among in (
      refl,
      (
        refl,
        (
          (n, n_in, is_n, refl),
          (
            refl,
            joined-good text all (param_lexemes (params_of text ps)) _ (sign marks.Close)
                (params-kept text all ps are_ps (each-front (Contains all) (param_tokens ps) (c ∷ body_tokens body) among)) refl
                (refl, body-kept text all body is_body tail.1),
          ),
        ),
      ),
    )
declaration-kept text all (variable d v n is p) (is_d, is_v, is_n, is_is, isp) (d_in, (v_in, (n_in, (is_in, among)))) = (refl, (refl, ((n, n_in, is_n, refl), (refl, kept text all p isp among))))

play-kept : (text : List ℕ) (all : List Token) (play : Play) → IsPlay play → Among all (play_tokens play) → Good text all (line_tokens (play_lines (played_of text play)))
play-kept text all silent is among = tt
play-kept text all (plays t p) (kind, is) (t_in, among) = (refl, each-append (IsSpelled text all) (rewritten text p).lexemes [] (kept text all p is among) tt)

program-kept : (text : List ℕ) (all : List Token) (ds : List Declaration) (play : Play) → AreDeclarations ds → IsPlay play → Among all (declarations_tokens ds ++ play_tokens play)
    → Good text all (line_tokens (map declaration_lexemes (declarations_of text ds) ++ play_lines (played_of text play)))
program-kept text all [] play are is among = play-kept text all play is among
program-kept text all (d ∷ ds) play (is_d, are) is among =
    let front : Among all (declaration_tokens d ++ declarations_tokens ds) = each-front (Contains all) (declaration_tokens d ++ declarations_tokens ds) (play_tokens play) among in
    let rest : Among all (declarations_tokens ds ++ play_tokens play) =
    each-append (Contains all) (declarations_tokens ds) (play_tokens play) (each-back (Contains all) (declaration_tokens d) (declarations_tokens ds) front)
    (each-back (Contains all) (declaration_tokens d ++ declarations_tokens ds) (play_tokens play) among) in
    each-append (IsSpelled text all) (declaration_lexemes (declaration_of text d)) _
    (declaration-kept text all d is_d (each-front (Contains all) (declaration_tokens d) (declarations_tokens ds) front))
    (program-kept text all ds play are is rest)

whole-kept : (text : List ℕ) (all : List Token) (p : Program) → IsProgram p → Among all (program_tokens p) → Good text all (canonical_lexemes (program_of text p))
whole-kept text all (program ds play) (are, is) among = program-kept text all ds play are is among

pub canonical-spelled : (text : List ℕ) (ts : List Token) (tree : Tree) → HasTree text ts tree → All (IsSpelled text ts) (canonical_lexemes tree)
canonical-spelled text ts tree (p, is, low, these, same) =
    let among : Among ts ts = each-of_all (Contains ts) ts (All-contains_itself ts) in
    all-of_each (IsSpelled text ts) (canonical_lexemes tree)
    (subst (λ z. Good text ts (canonical_lexemes z)) same (whole-kept text ts p is (subst (λ z. Among ts z) (sym these) among)))
