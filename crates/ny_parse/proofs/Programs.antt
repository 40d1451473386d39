-- The tokens of a program are read, and its tree is what the reader answers.
use Rattle.std.proofs.Common.{◌≡◌, ℕ, ◌-◌, ◌≤◌, min, List, [], ◌∷◌, ◌++◌, length, Some, None, refl, sym, ap, ◌∙◌, append_assoc, append-nil, arith}
use Rattle.ny_syntax.specs.declared.token.Token.{Token}
use Rattle.ny_syntax.specs.declared.token.TokenKind.TheVariants as kinds
use Rattle.ny_syntax.specs.declared.token.Mark.TheVariants as marks
use Rattle.ny_syntax.specs.declared.token.Word.TheVariants as words
use Rattle.ny_syntax.specs.declared.tree.Param.{Param}
use Rattle.ny_syntax.specs.declared.tree.Decl.{Decl}
use Rattle.ny_syntax.specs.declared.tree.Decl.TheVariants as decls
use Rattle.std.proofs.Common.{Ok, Err}
use Rattle.ny_syntax.specs.declared.tree.Tree.{Tree}
use Rattle.ny_syntax.specs.Grammar
use Rattle.ny_syntax.specs.Grammar.{Parse, Params, Body, Declaration, Play, tokens, binding_tokens, more_param_tokens, param_tokens, body_tokens, declaration_tokens, declarations_tokens, play_tokens, height, highest_binding, height_limit, level, body_height, declaration_height, declarations_height, play_height, IsBlock, IsParse, AreMoreParams, AreParams, IsBody, IsDeclaration, AreDeclarations, IsPlay, tree_of, binds_of, param_of, more_params_of, params_of, body_of, declaration_of, declarations_of, played_of, play_place, name_of, expr, HasTree}
use Rattle.ny_parse.specs.declared.frame.Label.{Label}
use Rattle.ny_parse.specs.declared.frame.Measured.{Measured}
use Rattle.ny_parse.specs.declared.frame.Frame.TheVariants as frames
use Rattle.ny_parse.specs.declared.state.State.TheVariants as states
use Rattle.ny_parse.specs.Nodes.{label_of}
use Rattle.ny_parse.specs.Reading.{goes, alone, chosen, reading, step, finish, tree, whole_end, settled_end, ended, settled, closed, outside, define_next, function_word_next, function_name_next, params_open_next, params_comma_next, params_name_next, params_close_next, variable_word_next, variable_name_next, block_next}
use Rattle.ny_parse.proofs.Steps.{measure, Ends, goes-on, close-step}
use Rattle.ny_parse.proofs.Drives.{drives, drives_bindings, bare_block-drives, block-drives, word-ends}

-- what one token does outside expressions
define-step : (text : List ℕ) (t : Token) (ds : List Decl) → t.kind ≡ kinds.Reserved words.Define → step text t states.Between [] ds ≡ goes states.Define [] ds
unfolding step outside
define-step text t ds e = ap (λ kind. outside kind t [] ds) e

play-step : (text : List ℕ) (t : Token) (ds : List Decl) → t.kind ≡ kinds.Reserved words.Play → step text t states.Between [] ds ≡ goes states.Before (frames.Play t ∷ []) ds
unfolding step outside
play-step text t ds e = ap (λ kind. outside kind t [] ds) e

function-step : (text : List ℕ) (t : Token) (ds : List Decl) → t.kind ≡ kinds.Reserved words.Function → step text t states.Define [] ds ≡ goes states.FunctionWord [] ds
unfolding step define_next
function-step text t ds e = ap (λ kind. alone (define_next kind) [] ds) e

variable-step : (text : List ℕ) (t : Token) (ds : List Decl) → t.kind ≡ kinds.Reserved words.Variable → step text t states.Define [] ds ≡ goes states.VariableWord [] ds
unfolding step define_next
variable-step text t ds e = ap (λ kind. alone (define_next kind) [] ds) e

function_name-step : (text : List ℕ) (t : Token) (ds : List Decl) → t.kind ≡ kinds.Name → step text t states.FunctionWord [] ds ≡ goes (states.FunctionName (label_of text t)) [] ds
unfolding step function_word_next
function_name-step text t ds e = ap (λ kind. alone (function_word_next text kind t) [] ds) e

params_open-step : (text : List ℕ) (t : Token) (l : Label) (ds : List Decl) → t.kind ≡ kinds.Sign marks.Open → step text t (states.FunctionName l) [] ds ≡ goes (states.ParamsOpen l) [] ds
unfolding step function_name_next
params_open-step text t l ds e = ap (λ kind. alone (function_name_next kind l) [] ds) e

no_params-step : (text : List ℕ) (t : Token) (l : Label) (ds : List Decl) → t.kind ≡ kinds.Sign marks.Close → step text t (states.ParamsOpen l) [] ds ≡ goes (states.ParamsClose l []) [] ds
unfolding step params_open_next
no_params-step text t l ds e = ap (λ kind. alone (params_open_next text kind t l) [] ds) e

first_param-step : (text : List ℕ) (t : Token) (l : Label) (ds : List Decl) → t.kind ≡ kinds.Name → step text t (states.ParamsOpen l) [] ds ≡ goes (states.ParamsName l (param_of text t ∷ [])) [] ds
unfolding step params_open_next
first_param-step text t l ds e = ap (λ kind. alone (params_open_next text kind t l) [] ds) e

comma-step : (text : List ℕ) (t : Token) (l : Label) (ps : List Param) (ds : List Decl) → t.kind ≡ kinds.Sign marks.Comma → step text t (states.ParamsName l ps) [] ds ≡ goes (states.ParamsComma l ps) [] ds
unfolding step params_name_next
comma-step text t l ps ds e = ap (λ kind. alone (params_name_next kind l ps) [] ds) e

close_params-step : (text : List ℕ) (t : Token) (l : Label) (ps : List Param) (ds : List Decl) → t.kind ≡ kinds.Sign marks.Close → step text t (states.ParamsName l ps) [] ds ≡ goes (states.ParamsClose l ps) [] ds
unfolding step params_name_next
close_params-step text t l ps ds e = ap (λ kind. alone (params_name_next kind l ps) [] ds) e

param-step : (text : List ℕ) (t : Token) (l : Label) (ps : List Param) (ds : List Decl) → t.kind ≡ kinds.Name → step text t (states.ParamsComma l ps) [] ds ≡ goes (states.ParamsName l (ps ++ param_of text t ∷ [])) [] ds
unfolding step params_comma_next
param-step text t l ps ds e = ap (λ kind. alone (params_comma_next text kind t l ps) [] ds) e

return-step : (text : List ℕ) (t : Token) (l : Label) (ps : List Param) (ds : List Decl) → t.kind ≡ kinds.Reserved words.Return
    → step text t (states.ParamsClose l ps) [] ds ≡ goes states.Before (frames.Function l ps ∷ []) ds
unfolding step params_close_next
return-step text t l ps ds e = ap (λ kind. params_close_next kind t l ps [] ds) e

begin-step : (text : List ℕ) (t : Token) (l : Label) (ps : List Param) (ds : List Decl) → t.kind ≡ kinds.Reserved words.Begin
    → step text t (states.ParamsClose l ps) [] ds ≡ goes (states.Begin t) (frames.BlockFunction l ps ∷ []) ds
unfolding step params_close_next
begin-step text t l ps ds e = ap (λ kind. params_close_next kind t l ps [] ds) e

variable_name-step : (text : List ℕ) (t : Token) (ds : List Decl) → t.kind ≡ kinds.Name → step text t states.VariableWord [] ds ≡ goes (states.VariableName (label_of text t)) [] ds
unfolding step variable_word_next
variable_name-step text t ds e = ap (λ kind. alone (variable_word_next text kind t) [] ds) e

equal-step : (text : List ℕ) (t : Token) (l : Label) (ds : List Decl) → t.kind ≡ kinds.Sign marks.Equal → step text t (states.VariableName l) [] ds ≡ goes states.Before (frames.Variable l ∷ []) ds
unfolding step variable_name_next
equal-step text t l ds e = ap (λ kind. variable_name_next kind l [] ds) e

-- parameters
more_params : (text : List ℕ) (mores : List (Token × Token)) → AreMoreParams mores → (l : Label) (ps : List Param) (ds : List Decl) (c : Token) (rest : List Token) → c.kind ≡ kinds.Sign marks.Close
    → reading text (more_param_tokens mores ++ (c ∷ rest)) (states.ParamsName l ps) [] ds ≡ reading text rest (states.ParamsClose l (ps ++ more_params_of text mores)) [] ds
more_params text [] are l ps ds c rest ck =
    goes-on text c rest (states.ParamsName l ps) [] ds (states.ParamsClose l ps) [] ds (close_params-step text c l ps ds ck)
    ∙ ap (λ qs. reading text rest (states.ParamsClose l qs) [] ds) (sym (append-nil ps))
more_params text (m ∷ mores) (comma, named, are) l ps ds c rest ck =
    goes-on text m.0 (m.1 ∷ (more_param_tokens mores ++ (c ∷ rest))) (states.ParamsName l ps) [] ds (states.ParamsComma l ps) [] ds (comma-step text m.0 l ps ds comma)
    ∙ goes-on text m.1 (more_param_tokens mores ++ (c ∷ rest)) (states.ParamsComma l ps) [] ds (states.ParamsName l (ps ++ param_of text m.1 ∷ [])) [] ds (param-step text m.1 l ps ds named)
    ∙ more_params text mores are l (ps ++ param_of text m.1 ∷ []) ds c rest ck
    ∙ ap (λ qs. reading text rest (states.ParamsClose l qs) [] ds) (append_assoc ps (param_of text m.1 ∷ []) (more_params_of text mores))

all_params : (text : List ℕ) (all : Params) → AreParams all → (l : Label) (ds : List Decl) (c : Token) (rest : List Token) → c.kind ≡ kinds.Sign marks.Close
    → reading text (param_tokens all ++ (c ∷ rest)) (states.ParamsOpen l) [] ds ≡ reading text rest (states.ParamsClose l (params_of text all)) [] ds
all_params text Grammar.no_params are l ds c rest ck = goes-on text c rest (states.ParamsOpen l) [] ds (states.ParamsClose l []) [] ds (no_params-step text c l ds ck)
all_params text (Grammar.params first mores) (named, are) l ds c rest ck =
    goes-on text first (more_param_tokens mores ++ (c ∷ rest)) (states.ParamsOpen l) [] ds (states.ParamsName l (param_of text first ∷ [])) [] ds (first_param-step text first l ds named)
    ∙ more_params text mores are l (param_of text first ∷ []) ds c rest ck

-- the expression of a declaration is over where no operator and no bracket follows
variable-done : (text : List ℕ) (l : Label) (x : Measured) (ds : List Decl) (rest : List Token) → Ends 0 rest
    → reading text rest (states.Whole x) (frames.Variable l ∷ []) ds ≡ reading text rest states.Between [] (ds ++ decls.Variable l.at l.name x.expr ∷ [])
unfolding reading step finish whole_end settled settled_end ended closed
variable-done text l x ds [] ends = refl
variable-done text l x ds (t ∷ ts) (o, low) =
    ap (λ n. chosen (λ m. reading text ts m.0 m.1.stack m.1.decls) (Err (t ∷ ts)) n) (close-step text t x (frames.Variable l) [] ds tt low)

function-done : (text : List ℕ) (l : Label) (ps : List Param) (x : Measured) (ds : List Decl) (rest : List Token) → Ends 0 rest
    → reading text rest (states.Whole x) (frames.Function l ps ∷ []) ds ≡ reading text rest states.Between [] (ds ++ decls.Function l.at l.name ps x.expr ∷ [])
unfolding reading step finish whole_end settled settled_end ended closed
function-done text l ps x ds [] ends = refl
function-done text l ps x ds (t ∷ ts) (o, low) =
    ap (λ n. chosen (λ m. reading text ts m.0 m.1.stack m.1.decls) (Err (t ∷ ts)) n) (close-step text t x (frames.Function l ps) [] ds tt low)

ends-any : (n : ℕ) (rest : List Token) → Ends 0 rest → Ends n rest
ends-any n [] h = tt
ends-any n (t ∷ ts) (o, l) = (o, omega arith)

body-drives : (text : List ℕ) (body : Body) → IsBody body → body_height body ≤ height_limit → (l : Label) (ps : List Param) (ds : List Decl) (rest : List Token) → Ends 0 rest
    → reading text (body_tokens body ++ rest) (states.ParamsClose l ps) [] ds ≡ reading text rest states.Between [] (ds ++ decls.Function l.at l.name ps (body_of text body) ∷ [])
unfolding block_next
body-drives text (Grammar.returned r p) (rk, is) low l ps ds rest ends =
    goes-on text r (tokens p ++ rest) (states.ParamsClose l ps) [] ds states.Before (frames.Function l ps ∷ []) ds (return-step text r l ps ds rk)
    ∙ drives text p is (frames.Function l ps ∷ []) ds rest tt (omega arith) (omega arith) (ends-any (level p) rest ends)
    ∙ function-done text l ps (measure text p) ds rest ends
body-drives text (Grammar.block_body (Grammar.bare_block b r p e)) (blk, (bk, rk, is, ek)) low l ps ds rest ends =
    ap (λ t. reading text t (states.ParamsClose l ps) [] ds) (append_assoc (b ∷ r ∷ tokens p) (e ∷ []) rest)
    ∙ goes-on text b (r ∷ (tokens p ++ (e ∷ rest))) (states.ParamsClose l ps) [] ds (states.Begin b) (frames.BlockFunction l ps ∷ []) ds (begin-step text b l ps ds bk)
    ∙ bare_block-drives text b r p e (frames.BlockFunction l ps ∷ []) ds rest states.Between [] (ds ++ decls.Function l.at l.name ps (tree_of text (Grammar.bare_block b r p e)) ∷ []) rk ek
    (drives text p is (frames.Returned b [] height_limit ∷ frames.BlockFunction l ps ∷ []) ds (e ∷ rest) tt (omega arith) (omega arith) (word-ends (level p) e rest words.End ek)) refl
body-drives text (Grammar.block_body (Grammar.block b w bs r p e)) (blk, (bk, wk, are, rk, is, ek)) low l ps ds rest ends =
    ap (λ t. reading text t (states.ParamsClose l ps) [] ds) (append_assoc (b ∷ w ∷ binding_tokens bs ++ r ∷ tokens p) (e ∷ []) rest ∙ append_assoc (b ∷ w ∷ binding_tokens bs) (r ∷ tokens p) (e ∷ rest))
    ∙ goes-on text b (w ∷ (binding_tokens bs ++ (r ∷ (tokens p ++ (e ∷ rest))))) (states.ParamsClose l ps) [] ds (states.Begin b) (frames.BlockFunction l ps ∷ []) ds (begin-step text b l ps ds bk)
    ∙ block-drives text b w bs r p e (frames.BlockFunction l ps ∷ []) ds rest states.Between [] (ds ++ decls.Function l.at l.name ps (tree_of text (Grammar.block b w bs r p e)) ∷ []) wk ek
    (drives_bindings text bs are b [] height_limit (frames.BlockFunction l ps ∷ []) ds r (tokens p ++ (e ∷ rest)) rk (omega arith))
    (drives text p is (frames.Returned b (binds_of text bs) (min height_limit (height_limit - highest_binding bs)) ∷ frames.BlockFunction l ps ∷ []) ds (e ∷ rest) tt (omega arith) (omega arith)
    (word-ends (level p) e rest words.End ek)) refl
body-drives text (Grammar.block_body p) (blk, is) low l ps ds rest ends = absurd blk

declaration-drives : (text : List ℕ) (d : Declaration) → IsDeclaration d → declaration_height d ≤ height_limit → (ds : List Decl) (rest : List Token) → Ends 0 rest
    → reading text (declaration_tokens d ++ rest) states.Between [] ds ≡ reading text rest states.Between [] (ds ++ declaration_of text d ∷ [])
declaration-drives text (Grammar.function d f n o ps c body) (dk, fk, nk, ok, are, ck, is) low ds rest ends =
    ap (λ t. reading text t states.Between [] ds) (append_assoc (d ∷ f ∷ n ∷ o ∷ param_tokens ps) (c ∷ body_tokens body) rest)
    ∙ goes-on text d (f ∷ n ∷ o ∷ (param_tokens ps ++ (c ∷ (body_tokens body ++ rest)))) states.Between [] ds states.Define [] ds (define-step text d ds dk)
    ∙ goes-on text f (n ∷ o ∷ (param_tokens ps ++ (c ∷ (body_tokens body ++ rest)))) states.Define [] ds states.FunctionWord [] ds (function-step text f ds fk)
    ∙ goes-on text n (o ∷ (param_tokens ps ++ (c ∷ (body_tokens body ++ rest)))) states.FunctionWord [] ds (states.FunctionName (label_of text n)) [] ds (function_name-step text n ds nk)
    ∙ goes-on text o (param_tokens ps ++ (c ∷ (body_tokens body ++ rest))) (states.FunctionName (label_of text n)) [] ds (states.ParamsOpen (label_of text n)) [] ds (params_open-step text o (label_of text n) ds ok)
    ∙ all_params text ps are (label_of text n) ds c (body_tokens body ++ rest) ck
    ∙ body-drives text body is low (label_of text n) (params_of text ps) ds rest ends
declaration-drives text (Grammar.variable d v n e p) (dk, vk, nk, ek, is) low ds rest ends =
    goes-on text d (v ∷ n ∷ e ∷ (tokens p ++ rest)) states.Between [] ds states.Define [] ds (define-step text d ds dk)
    ∙ goes-on text v (n ∷ e ∷ (tokens p ++ rest)) states.Define [] ds states.VariableWord [] ds (variable-step text v ds vk)
    ∙ goes-on text n (e ∷ (tokens p ++ rest)) states.VariableWord [] ds (states.VariableName (label_of text n)) [] ds (variable_name-step text n ds nk)
    ∙ goes-on text e (tokens p ++ rest) (states.VariableName (label_of text n)) [] ds states.Before (frames.Variable (label_of text n) ∷ []) ds (equal-step text e (label_of text n) ds ek)
    ∙ drives text p is (frames.Variable (label_of text n) ∷ []) ds rest tt (omega arith) (omega arith) (ends-any (level p) rest ends)
    ∙ variable-done text (label_of text n) (measure text p) ds rest ends

-- what follows a declaration is another one, or `play`, or nothing
program-ends : (all : List Declaration) (play : Play) → AreDeclarations all → IsPlay play → Ends 0 (declarations_tokens all ++ play_tokens play)
program-ends [] Grammar.silent are is = tt
program-ends [] (Grammar.plays t p) are (tk, is) = word-ends 0 t (tokens p) words.Play tk
program-ends (Grammar.function d f n o ps c body ∷ all) play ((dk, fk, nk, ok, params, ck, body_is), are) is = word-ends 0 d [] words.Define dk
program-ends (Grammar.variable d v n e p ∷ all) play ((dk, vk, nk, ek, value), are) is = word-ends 0 d [] words.Define dk

declarations-drive : (text : List ℕ) (all : List Declaration) → AreDeclarations all → declarations_height all ≤ height_limit → (play : Play) → IsPlay play → (ds : List Decl)
    → reading text (declarations_tokens all ++ play_tokens play) states.Between [] ds ≡ reading text (play_tokens play) states.Between [] (ds ++ declarations_of text all)
declarations-drive text [] are low play is ds = ap (λ l. reading text (play_tokens play) states.Between [] l) (sym (append-nil ds))
declarations-drive text (d ∷ all) (first, are) low play is ds =
    ap (λ t. reading text t states.Between [] ds) (append_assoc (declaration_tokens d) (declarations_tokens all) (play_tokens play))
    ∙ declaration-drives text d first (omega arith) ds (declarations_tokens all ++ play_tokens play) (program-ends all play are is)
    ∙ declarations-drive text all are (omega arith) play is (ds ++ declaration_of text d ∷ [])
    ∙ ap (λ l. reading text (play_tokens play) states.Between [] l) (append_assoc ds (declaration_of text d ∷ []) (declarations_of text all))

silent-ends : (text : List ℕ) (ds : List Decl) → reading text [] states.Between [] ds ≡ Ok (tree text ds None (length text))
unfolding reading finish
silent-ends text ds = refl

played-ends : (text : List ℕ) (x : Measured) (t : Token) (ds : List Decl) → reading text [] (states.Whole x) (frames.Play t ∷ []) ds ≡ Ok (tree text ds (Some x.expr) t.from)
unfolding reading finish whole_end settled settled_end ended
played-ends text x t ds = refl

play-drives : (text : List ℕ) (play : Play) → IsPlay play → play_height play ≤ height_limit → (ds : List Decl)
    → reading text (play_tokens play) states.Between [] ds ≡ Ok (tree text ds (played_of text play) (play_place text play))
play-drives text Grammar.silent is low ds = silent-ends text ds
play-drives text (Grammar.plays t p) (tk, is) low ds =
    goes-on text t (tokens p) states.Between [] ds states.Before (frames.Play t ∷ []) ds (play-step text t ds tk)
    ∙ ap (λ l. reading text l states.Before (frames.Play t ∷ []) ds) (sym (append-nil (tokens p)))
    ∙ drives text p is (frames.Play t ∷ []) ds [] tt (omega arith) (omega arith) tt
    ∙ played-ends text (measure text p) t ds

-- tokens that have a tree are read
pub accepted : (text : List ℕ) (ts : List Token) (made : Tree) → HasTree text ts made → reading text ts states.Between [] [] ≡ Ok made
accepted text ts made (Grammar.program all play, (are, is), low, tk, of) =
    ap (λ l. reading text l states.Between [] []) (sym tk)
    ∙ declarations-drive text all are (omega arith) play is []
    ∙ play-drives text play is (omega arith) (declarations_of text all)
    ∙ ap Ok of
