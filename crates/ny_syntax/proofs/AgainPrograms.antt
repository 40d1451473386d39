-- The same of declarations and of whole texts.
use Rattle.std.proofs.Common.{◌≡◌, ℕ, max, List, [], ◌∷◌, ◌++◌, map, refl, sym, ap, ◌∙◌, Option, Some, None, true, append_assoc, append-nil}
use Rattle.ny_syntax.specs.declared.token.Token.{Token}
use Rattle.ny_syntax.specs.declared.token.Mark.TheVariants as marks
use Rattle.ny_syntax.specs.declared.token.Word.TheVariants as words
use Rattle.ny_syntax.specs.declared.tree.Name.{Name}
use Rattle.ny_syntax.specs.declared.tree.Expr.{Expr}
use Rattle.ny_syntax.specs.declared.tree.Param.{Param}
use Rattle.ny_syntax.specs.declared.tree.Decl.{Decl}
use Rattle.ny_syntax.specs.declared.tree.Decl.TheVariants as decls
use Rattle.ny_syntax.specs.Grammar as parses
use Rattle.ny_syntax.specs.Grammar.{Params, no_params, params, Body, returned, block_body, Declaration, Play, silent, plays, tokens, more_param_tokens, param_tokens, declaration_tokens, declarations_tokens, play_tokens, height, declaration_height, declarations_height, play_height, AreMoreParams, AreParams, IsBody, IsDeclaration, AreDeclarations, IsPlay, name_of, param_of, tree_of, more_params_of, params_of, body_of, declaration_of, declarations_of, played_of}
use Rattle.ny_syntax.specs.Spelled.{Lexeme, lexeme_of, sign, reserved, name}
use Rattle.ny_syntax.specs.Canonical.{written, separated_params, param_lexemes, declaration_lexemes, play_lines, line_tokens, written_height, written_heights, played_height}
use Rattle.ny_syntax.specs.SameTree.{unplaced, unplaced_param, unplaced_declaration, unplaced_play}
use Rattle.ny_syntax.proofs.Tokens.{Are, on_nil, on_cons, on_append, name_of-folded, same_name}
use Rattle.ny_syntax.proofs.Again.{Again, kind_is}
use Rattle.ny_syntax.proofs.CanonicalParse.{rewritten-again}

-- ---- parameters

record AreMoreAgain (text : List ℕ) (ps : List Param) (ts : List Token) : Type 0 where
  listed : List (Token × Token)
  are : AreMoreParams listed
  tokens_are : more_param_tokens listed ≡ ts
  params_are : map unplaced_param (more_params_of text listed) ≡ map unplaced_param ps

record AreParamsAgain (text : List ℕ) (ps : List Param) (ts : List Token) : Type 0 where
  listed : Params
  are : AreParams listed
  tokens_are : param_tokens listed ≡ ts
  params_are : map unplaced_param (params_of text listed) ≡ map unplaced_param ps

abbrev nameless : Name → Param
nameless n = record { at = 0; name = n }

same_param : (old text : List ℕ) (t s : Token) → lexeme_of text s ≡ name (name_of old t) → unplaced_param (param_of text s) ≡ unplaced_param (param_of old t)
same_param old text t s is = ap nameless (same_name text s (name_of old t) (name_of-folded old t) is)

more_params-again : (old text : List ℕ) (mores : List (Token × Token)) (ts : List Token) → Are text ts (separated_params true (more_params_of old mores))
    → AreMoreAgain text (more_params_of old mores) ts
more_params-again old text [] = on_nil text (λ z. AreMoreAgain text [] z) (record { listed = []; are = tt; tokens_are = refl; params_are = refl })
more_params-again old text (more ∷ mores) =
    let ps : List Param = more_params_of old mores in
    let P : List Token → Type 0 = λ z. AreMoreAgain text (param_of old more.1 ∷ ps) z in
    let n : Name = name_of old more.1 in
    on_cons text P (sign marks.Comma) (name n ∷ separated_params true ps)
    (λ c r0 is_c. on_cons text (λ z. P (c ∷ z)) (name n) (separated_params true ps)
    (λ t rest is_t are. let q = more_params-again old text mores rest are in record {
      listed = (c, t) ∷ q.listed;
      are = (kind_is text c (sign marks.Comma) is_c, kind_is text t (name n) is_t, q.are);
      tokens_are = ap (λ z. c ∷ t ∷ z) q.tokens_are;
      params_are =
          ap (λ z. z ∷ map unplaced_param (more_params_of text q.listed)) (same_param old text more.1 t is_t) ∙ ap (λ z. unplaced_param (param_of old more.1) ∷ z) q.params_are;
    }) r0)

params-again : (old text : List ℕ) (ps : Params) (ts : List Token) → Are text ts (param_lexemes (params_of old ps)) → AreParamsAgain text (params_of old ps) ts
params-again old text no_params = on_nil text (λ z. AreParamsAgain text [] z) (record { listed = no_params; are = tt; tokens_are = refl; params_are = refl })
params-again old text (params first mores) =
    let ps : List Param = more_params_of old mores in
    let n : Name = name_of old first in
    on_cons text (λ z. AreParamsAgain text (param_of old first ∷ ps) z) (name n) (separated_params true ps)
    (λ t rest is_t are. let q = more_params-again old text mores rest are in record {
      listed = params t q.listed;
      are = (kind_is text t (name n) is_t, q.are);
      tokens_are = ap (λ z. t ∷ z) q.tokens_are;
      params_are =
          ap (λ z. z ∷ map unplaced_param (more_params_of text q.listed)) (same_param old text first t is_t) ∙ ap (λ z. unplaced_param (param_of old first) ∷ z) q.params_are;
    })

-- ---- declarations

record IsDeclaredAgain (text : List ℕ) (d : Decl) (ts : List Token) : Type 0 where
  made : Declaration
  is : IsDeclaration made
  high : declaration_height made ≡ written_height d
  tokens_are : declaration_tokens made ≡ ts
  same : unplaced_declaration (declaration_of text made) ≡ unplaced_declaration d

body-again : (old text : List ℕ) (body : Body) → IsBody body → Again text (body_of old body) (written (body_of old body))
body-again old text (returned r p) (kind, is) = rewritten-again old text p is
body-again old text (block_body p) (block, is) = rewritten-again old text p is

declaration-again : (old text : List ℕ) (d : Declaration) → IsDeclaration d → (ts : List Token) → Are text ts (declaration_lexemes (declaration_of old d))
    → IsDeclaredAgain text (declaration_of old d) ts
declaration-again old text (parses.function d f n o ps c body) (is_d, is_f, is_n, is_o, are_ps, is_c, is_body) =
    let m : Name = name_of old n in
    let qs : List Param = params_of old ps in
    let e : Expr = body_of old body in
    let P : List Token → Type 0 = λ z. IsDeclaredAgain text (decls.Function n.from m qs e) z in
    let rest : List Lexeme = sign marks.Close ∷ reserved words.Return ∷ (written e).lexemes in
    on_cons text P (reserved words.Define) (reserved words.Function ∷ name m ∷ sign marks.Open ∷ (param_lexemes qs ++ rest))
    (λ d2 r0 i0. on_cons text (λ z. P (d2 ∷ z)) (reserved words.Function) (name m ∷ sign marks.Open ∷ (param_lexemes qs ++ rest))
    (λ f2 r1 i1. on_cons text (λ z. P (d2 ∷ f2 ∷ z)) (name m) (sign marks.Open ∷ (param_lexemes qs ++ rest))
    (λ n2 r2 i2. on_cons text (λ z. P (d2 ∷ f2 ∷ n2 ∷ z)) (sign marks.Open) (param_lexemes qs ++ rest)
    (λ o2 r3 i3. on_append text (λ z. P (d2 ∷ f2 ∷ n2 ∷ o2 ∷ z)) (param_lexemes qs) rest
    (λ xs r4 are_xs. on_cons text (λ z. P (d2 ∷ f2 ∷ n2 ∷ o2 ∷ (xs ++ z))) (sign marks.Close) (reserved words.Return ∷ (written e).lexemes)
    (λ c2 r5 i5. on_cons text (λ z. P (d2 ∷ f2 ∷ n2 ∷ o2 ∷ (xs ++ c2 ∷ z))) (reserved words.Return) (written e).lexemes
    (λ t2 ys i6 are_ys.
    let p = params-again old text ps xs are_xs in
    let q = body-again old text body is_body ys are_ys in
    record {
      made = parses.function d2 f2 n2 o2 p.listed c2 (returned t2 q.parse);
      is = (
        kind_is text d2 (reserved words.Define) i0,
        kind_is text f2 (reserved words.Function) i1,
        kind_is text n2 (name m) i2,
        kind_is text o2 (sign marks.Open) i3,
        p.are,
        kind_is text c2 (sign marks.Close) i5,
        (kind_is text t2 (reserved words.Return) i6, q.is),
      );
      high = q.high;
      tokens_are =
          ap (λ z. d2 ∷ f2 ∷ n2 ∷ o2 ∷ (z ++ c2 ∷ t2 ∷ tokens q.parse)) p.tokens_are
          ∙ ap (λ z. d2 ∷ f2 ∷ n2 ∷ o2 ∷ (xs ++ c2 ∷ t2 ∷ z)) q.tokens_are;
      same =
          ap (λ z. decls.Function 0 z (map unplaced_param (params_of text p.listed)) (unplaced (tree_of text q.parse))) (same_name text n2 m (name_of-folded old n) i2)
          ∙ ap (λ z. decls.Function 0 m z (unplaced (tree_of text q.parse))) p.params_are
          ∙ ap (λ z. decls.Function 0 m (map unplaced_param qs) z) q.tree_is;
    }) r5) r4) r3) r2) r1) r0)
declaration-again old text (parses.variable d v n is p) (is_d, is_v, is_n, is_is, isp) =
    let m : Name = name_of old n in
    let e : Expr = tree_of old p in
    let P : List Token → Type 0 = λ z. IsDeclaredAgain text (decls.Variable n.from m e) z in
    let rest : List Lexeme = sign marks.Equal ∷ (written e).lexemes in
    on_cons text P (reserved words.Define) (reserved words.Variable ∷ name m ∷ rest)
    (λ d2 r0 i0. on_cons text (λ z. P (d2 ∷ z)) (reserved words.Variable) (name m ∷ rest)
    (λ v2 r1 i1. on_cons text (λ z. P (d2 ∷ v2 ∷ z)) (name m) rest
    (λ n2 r2 i2. on_cons text (λ z. P (d2 ∷ v2 ∷ n2 ∷ z)) (sign marks.Equal) (written e).lexemes
    (λ s2 ys i3 are_ys.
    let q = rewritten-again old text p isp ys are_ys in
    record {
      made = parses.variable d2 v2 n2 s2 q.parse;
      is = (kind_is text d2 (reserved words.Define) i0, kind_is text v2 (reserved words.Variable) i1, kind_is text n2 (name m) i2, kind_is text s2 (sign marks.Equal) i3, q.is);
      high = q.high;
      tokens_are = ap (λ z. d2 ∷ v2 ∷ n2 ∷ s2 ∷ z) q.tokens_are;
      same = ap (λ z. decls.Variable 0 z (unplaced (tree_of text q.parse))) (same_name text n2 m (name_of-folded old n) i2) ∙ ap (λ z. decls.Variable 0 m z) q.tree_is;
    }) r2) r1) r0)

-- ---- whole texts

pub record IsProgramAgain (text : List ℕ) (ds : List Decl) (played : Option Expr) (ts : List Token) : Type 0 where
  pub listed : List Declaration
  pub play : Play
  pub are : AreDeclarations listed
  pub is_play : IsPlay play
  pub high : declarations_height listed ≡ written_heights ds
  pub play_high : play_height play ≡ played_height played
  pub tokens_are : declarations_tokens listed ++ play_tokens play ≡ ts
  pub same : map unplaced_declaration (declarations_of text listed) ≡ map unplaced_declaration ds
  pub same_play : unplaced_play (played_of text play) ≡ unplaced_play played

play-again : (old text : List ℕ) (play : Play) → IsPlay play → (ts : List Token) → Are text ts (line_tokens (play_lines (played_of old play)))
    → IsProgramAgain text [] (played_of old play) ts
play-again old text silent is = on_nil text (λ z. IsProgramAgain text [] None z) (record {
  listed = [];
  play = silent;
  are = tt;
  is_play = tt;
  high = refl;
  play_high = refl;
  tokens_are = refl;
  same = refl;
  same_play = refl;
})
play-again old text (plays t p) (kind, is) =
    let e : Expr = tree_of old p in
    let P : List Token → Type 0 = λ z. IsProgramAgain text [] (Some e) z in
    on_cons text P (reserved words.Play) ((written e).lexemes ++ [])
    (λ t2 rest i0. on_append text (λ z. P (t2 ∷ z)) (written e).lexemes []
    (λ xs r1 are_xs. on_nil text (λ z. P (t2 ∷ (xs ++ z)))
    (let q = rewritten-again old text p is xs are_xs in record {
      listed = [];
      play = plays t2 q.parse;
      are = tt;
      is_play = (kind_is text t2 (reserved words.Play) i0, q.is);
      high = refl;
      play_high = q.high;
      tokens_are = ap (λ z. t2 ∷ z) (q.tokens_are ∙ sym (append-nil xs));
      same = refl;
      same_play = ap (λ z. Some z) q.tree_is;
    }) r1) rest)

pub program-again : (old text : List ℕ) (ds : List Declaration) (play : Play) → AreDeclarations ds → IsPlay play → (ts : List Token)
    → Are text ts (line_tokens (map declaration_lexemes (declarations_of old ds) ++ play_lines (played_of old play)))
    → IsProgramAgain text (declarations_of old ds) (played_of old play) ts
program-again old text [] play are is = play-again old text play is
program-again old text (d ∷ ds) play (is_d, are) is =
    let e : Decl = declaration_of old d in
    let es : List Decl = declarations_of old ds in
    let P : List Token → Type 0 = λ z. IsProgramAgain text (e ∷ es) (played_of old play) z in
    on_append text P (declaration_lexemes e) (line_tokens (map declaration_lexemes es ++ play_lines (played_of old play)))
    (λ xs ys are_xs are_ys.
    let p = declaration-again old text d is_d xs are_xs in
    let q = program-again old text ds play are is ys are_ys in
    record {
      listed = p.made ∷ q.listed;
      play = q.play;
      are = (p.is, q.are);
      is_play = q.is_play;
      high = ap (λ z. max z (declarations_height q.listed)) p.high ∙ ap (λ z. max (written_height e) z) q.high;
      play_high = q.play_high;
      tokens_are =
          append_assoc (declaration_tokens p.made) (declarations_tokens q.listed) (play_tokens q.play)
          ∙ ap (λ z. z ++ (declarations_tokens q.listed ++ play_tokens q.play)) p.tokens_are
          ∙ ap (λ z. xs ++ z) q.tokens_are;
      same = ap (λ z. z ∷ map unplaced_declaration (declarations_of text q.listed)) p.same ∙ ap (λ z. unplaced_declaration e ∷ z) q.same;
      same_play = q.same_play;
    })
